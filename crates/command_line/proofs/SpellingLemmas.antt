-- The words of `serve` with its options, each in either of its two forms.
use Rattle.std.proofs.Common.{refl, codes, List, [], ◌∷◌, ◌++◌, ◌≡◌, inl, inr, ap, ap₂, ◌∙◌, sym, arith, ℕ, ◌≤◌}
use Rattle.std.specs.Prelude.{None, Some}
use Rattle.std.specs.Fmt.{decimal}
use Rattle.clap.specs.Faults.{entered_fault}
use Rattle.clap.specs.Kinds.{Kinds, or_else}
use Rattle.clap.specs.Simple.{built}
use Rattle.clap.specs.Walk.{nothing_held}
use Rattle.clap.specs.Words.{fault_of, subcommand_of, Text}
use Rattle.clap.proofs.OnLiterals.{clap_on_literals}
use Rattle.clap_lines.specs.Orders.{order_at}
use Rattle.clap_lines.proofs.AfterFolderLemmas.{fault_after}
use Rattle.clap_lines.proofs.OrderLemmas.{named_at}
use Rattle.command_line.specs.Line as line
use Rattle.command_line.specs.Orders.{IsOption, IsServe, Names, number_at, order_named, serve_order}
use Rattle.command_line.specs.declared.order.Order.{Order}
use Rattle.command_line.specs.declared.order.Order.TheVariants.{Serve}
use Rattle.command_line.proofs.FolderLemmas.{nothing_before, serve}
use Rattle.command_line.proofs.NumberLemmas.{IsNumberWord, number_at-word, number_word}

-- clap finds no mistake in the words, and this order
unfoldable pub Reading : List Text → Order → Type 0
Reading words o = Names o words

pub reading_at : (words at : List Text) (o : Order) → words ≡ at → fault_of line.hkms at ≡ [] → order_at order_named (subcommand_of line.hkms at) ≡ Some o → Reading words o
unfolding Reading
reading_at words at o e f g = named_at line.hkms order_named words at o e f g

three : {A B C D : Type 0} (f : A → B → C → D) {a a' : A} {b b' : B} {c c' : C} → a ≡ a' → b ≡ b' → c ≡ c' → f a b c ≡ f a' b' c'
three f p q r = λ i. f (p i) (q i) (r i)

-- ---- what clap finds

-- no fault in the words after `serve` is none at all
serve_fault : (rest : List Text) → entered_fault (built line.hkms) (Some (codes "serve", rest)) ≡ [] → fault_of line.hkms (codes "serve" ∷ rest) ≡ []
serve_fault rest none = fault_after line.hkms (codes "serve") serve nothing_held rest [] None nothing_before ∙ ap (λ (kinds : Kinds). or_else kinds []) none

fault_alone : fault_of line.hkms (codes "serve" ∷ []) ≡ []
unfolding clap_on_literals
fault_alone = refl

order_alone : order_at order_named (subcommand_of line.hkms (codes "serve" ∷ [])) ≡ serve_order (Some 9600) (Some 4294967295) (Some 16)
unfolding clap_on_literals
order_alone = refl

fault_port : (t : Text) → IsNumberWord 65535 t → fault_of line.hkms (codes "serve" ∷ codes "--port" ∷ t ∷ []) ≡ []
unfolding clap_on_literals
fault_port t w = rw (w.no_dashes, w.no_long, w.no_short, w.accepted) refl

order_port : (t : Text) → IsNumberWord 65535 t → order_at order_named (subcommand_of line.hkms (codes "serve" ∷ codes "--port" ∷ t ∷ [])) ≡ serve_order (number_at 65535 t) (Some 4294967295) (Some 16)
unfolding clap_on_literals
order_port t w = rw (w.no_dashes, w.no_long, w.no_short) refl

fault_port_joined : (t : Text) → IsNumberWord 65535 t → fault_of line.hkms (codes "serve" ∷ (codes "--port" ++ 61 ∷ t) ∷ []) ≡ []
unfolding clap_on_literals
fault_port_joined t w = rw w.accepted refl

order_port_joined : (t : Text) → IsNumberWord 65535 t → order_at order_named (subcommand_of line.hkms (codes "serve" ∷ (codes "--port" ++ 61 ∷ t) ∷ [])) ≡ serve_order (number_at 65535 t) (Some 4294967295) (Some 16)
unfolding clap_on_literals
order_port_joined t w = refl

fault_conns : (u : Text) → IsNumberWord 4294967295 u → fault_of line.hkms (codes "serve" ∷ codes "--conns" ∷ u ∷ []) ≡ []
unfolding clap_on_literals
fault_conns u v = rw (v.no_dashes, v.no_long, v.no_short, v.accepted) refl

order_conns : (u : Text) → IsNumberWord 4294967295 u → order_at order_named (subcommand_of line.hkms (codes "serve" ∷ codes "--conns" ∷ u ∷ [])) ≡ serve_order (Some 9600) (number_at 4294967295 u) (Some 16)
unfolding clap_on_literals
order_conns u v = rw (v.no_dashes, v.no_long, v.no_short) refl

fault_conns_joined : (u : Text) → IsNumberWord 4294967295 u → fault_of line.hkms (codes "serve" ∷ (codes "--conns" ++ 61 ∷ u) ∷ []) ≡ []
unfolding clap_on_literals
fault_conns_joined u v = rw v.accepted refl

order_conns_joined : (u : Text) → IsNumberWord 4294967295 u → order_at order_named (subcommand_of line.hkms (codes "serve" ∷ (codes "--conns" ++ 61 ∷ u) ∷ [])) ≡ serve_order (Some 9600) (number_at 4294967295 u) (Some 16)
unfolding clap_on_literals
order_conns_joined u v = refl

fault_places : (x : Text) → IsNumberWord 1024 x → fault_of line.hkms (codes "serve" ∷ codes "--connections" ∷ x ∷ []) ≡ []
unfolding clap_on_literals
fault_places x y = rw (y.no_dashes, y.no_long, y.no_short, y.accepted) refl

order_places : (x : Text) → IsNumberWord 1024 x → order_at order_named (subcommand_of line.hkms (codes "serve" ∷ codes "--connections" ∷ x ∷ [])) ≡ serve_order (Some 9600) (Some 4294967295) (number_at 1024 x)
unfolding clap_on_literals
order_places x y = rw (y.no_dashes, y.no_long, y.no_short) refl

fault_places_joined : (x : Text) → IsNumberWord 1024 x → fault_of line.hkms (codes "serve" ∷ (codes "--connections" ++ 61 ∷ x) ∷ []) ≡ []
unfolding clap_on_literals
fault_places_joined x y = rw y.accepted refl

order_places_joined : (x : Text) → IsNumberWord 1024 x → order_at order_named (subcommand_of line.hkms (codes "serve" ∷ (codes "--connections" ++ 61 ∷ x) ∷ [])) ≡ serve_order (Some 9600) (Some 4294967295) (number_at 1024 x)
unfolding clap_on_literals
order_places_joined x y = refl

below_port_conns : (t u : Text) → IsNumberWord 65535 t → IsNumberWord 4294967295 u → entered_fault (built line.hkms) (Some (codes "serve", codes "--port" ∷ t ∷ codes "--conns" ∷ u ∷ [])) ≡ []
unfolding clap_on_literals
below_port_conns t u w v = rw (w.no_dashes, w.no_long, w.no_short, w.accepted, v.no_dashes, v.no_long, v.no_short, v.accepted) refl

fault_port_conns : (t u : Text) → IsNumberWord 65535 t → IsNumberWord 4294967295 u → fault_of line.hkms (codes "serve" ∷ codes "--port" ∷ t ∷ codes "--conns" ∷ u ∷ []) ≡ []
fault_port_conns t u w v = serve_fault (codes "--port" ∷ t ∷ codes "--conns" ∷ u ∷ []) (below_port_conns t u w v)

order_port_conns : (t u : Text) → IsNumberWord 65535 t → IsNumberWord 4294967295 u → order_at order_named (subcommand_of line.hkms (codes "serve" ∷ codes "--port" ∷ t ∷ codes "--conns" ∷ u ∷ [])) ≡ serve_order (number_at 65535 t) (number_at 4294967295 u) (Some 16)
unfolding clap_on_literals
order_port_conns t u w v = rw (w.no_dashes, w.no_long, w.no_short, v.no_dashes, v.no_long, v.no_short) refl

fault_port_conns_joined : (t u : Text) → IsNumberWord 65535 t → IsNumberWord 4294967295 u → fault_of line.hkms (codes "serve" ∷ codes "--port" ∷ t ∷ (codes "--conns" ++ 61 ∷ u) ∷ []) ≡ []
unfolding clap_on_literals
fault_port_conns_joined t u w v = rw (w.no_dashes, w.no_long, w.no_short, w.accepted, v.accepted) refl

order_port_conns_joined : (t u : Text) → IsNumberWord 65535 t → IsNumberWord 4294967295 u → order_at order_named (subcommand_of line.hkms (codes "serve" ∷ codes "--port" ∷ t ∷ (codes "--conns" ++ 61 ∷ u) ∷ [])) ≡ serve_order (number_at 65535 t) (number_at 4294967295 u) (Some 16)
unfolding clap_on_literals
order_port_conns_joined t u w v = rw (w.no_dashes, w.no_long, w.no_short) refl

fault_port_joined_conns : (t u : Text) → IsNumberWord 65535 t → IsNumberWord 4294967295 u → fault_of line.hkms (codes "serve" ∷ (codes "--port" ++ 61 ∷ t) ∷ codes "--conns" ∷ u ∷ []) ≡ []
unfolding clap_on_literals
fault_port_joined_conns t u w v = rw (w.accepted, v.no_dashes, v.no_long, v.no_short, v.accepted) refl

order_port_joined_conns : (t u : Text) → IsNumberWord 65535 t → IsNumberWord 4294967295 u → order_at order_named (subcommand_of line.hkms (codes "serve" ∷ (codes "--port" ++ 61 ∷ t) ∷ codes "--conns" ∷ u ∷ [])) ≡ serve_order (number_at 65535 t) (number_at 4294967295 u) (Some 16)
unfolding clap_on_literals
order_port_joined_conns t u w v = rw (v.no_dashes, v.no_long, v.no_short) refl

fault_port_joined_conns_joined : (t u : Text) → IsNumberWord 65535 t → IsNumberWord 4294967295 u → fault_of line.hkms (codes "serve" ∷ (codes "--port" ++ 61 ∷ t) ∷ (codes "--conns" ++ 61 ∷ u) ∷ []) ≡ []
unfolding clap_on_literals
fault_port_joined_conns_joined t u w v = rw (w.accepted, v.accepted) refl

order_port_joined_conns_joined : (t u : Text) → IsNumberWord 65535 t → IsNumberWord 4294967295 u → order_at order_named (subcommand_of line.hkms (codes "serve" ∷ (codes "--port" ++ 61 ∷ t) ∷ (codes "--conns" ++ 61 ∷ u) ∷ [])) ≡ serve_order (number_at 65535 t) (number_at 4294967295 u) (Some 16)
unfolding clap_on_literals
order_port_joined_conns_joined t u w v = refl

below_conns_port : (u t : Text) → IsNumberWord 4294967295 u → IsNumberWord 65535 t → entered_fault (built line.hkms) (Some (codes "serve", codes "--conns" ∷ u ∷ codes "--port" ∷ t ∷ [])) ≡ []
unfolding clap_on_literals
below_conns_port u t v w = rw (v.no_dashes, v.no_long, v.no_short, v.accepted, w.no_dashes, w.no_long, w.no_short, w.accepted) refl

fault_conns_port : (u t : Text) → IsNumberWord 4294967295 u → IsNumberWord 65535 t → fault_of line.hkms (codes "serve" ∷ codes "--conns" ∷ u ∷ codes "--port" ∷ t ∷ []) ≡ []
fault_conns_port u t v w = serve_fault (codes "--conns" ∷ u ∷ codes "--port" ∷ t ∷ []) (below_conns_port u t v w)

order_conns_port : (u t : Text) → IsNumberWord 4294967295 u → IsNumberWord 65535 t → order_at order_named (subcommand_of line.hkms (codes "serve" ∷ codes "--conns" ∷ u ∷ codes "--port" ∷ t ∷ [])) ≡ serve_order (number_at 65535 t) (number_at 4294967295 u) (Some 16)
unfolding clap_on_literals
order_conns_port u t v w = rw (v.no_dashes, v.no_long, v.no_short, w.no_dashes, w.no_long, w.no_short) refl

fault_conns_port_joined : (u t : Text) → IsNumberWord 4294967295 u → IsNumberWord 65535 t → fault_of line.hkms (codes "serve" ∷ codes "--conns" ∷ u ∷ (codes "--port" ++ 61 ∷ t) ∷ []) ≡ []
unfolding clap_on_literals
fault_conns_port_joined u t v w = rw (v.no_dashes, v.no_long, v.no_short, v.accepted, w.accepted) refl

order_conns_port_joined : (u t : Text) → IsNumberWord 4294967295 u → IsNumberWord 65535 t → order_at order_named (subcommand_of line.hkms (codes "serve" ∷ codes "--conns" ∷ u ∷ (codes "--port" ++ 61 ∷ t) ∷ [])) ≡ serve_order (number_at 65535 t) (number_at 4294967295 u) (Some 16)
unfolding clap_on_literals
order_conns_port_joined u t v w = rw (v.no_dashes, v.no_long, v.no_short) refl

fault_conns_joined_port : (u t : Text) → IsNumberWord 4294967295 u → IsNumberWord 65535 t → fault_of line.hkms (codes "serve" ∷ (codes "--conns" ++ 61 ∷ u) ∷ codes "--port" ∷ t ∷ []) ≡ []
unfolding clap_on_literals
fault_conns_joined_port u t v w = rw (v.accepted, w.no_dashes, w.no_long, w.no_short, w.accepted) refl

order_conns_joined_port : (u t : Text) → IsNumberWord 4294967295 u → IsNumberWord 65535 t → order_at order_named (subcommand_of line.hkms (codes "serve" ∷ (codes "--conns" ++ 61 ∷ u) ∷ codes "--port" ∷ t ∷ [])) ≡ serve_order (number_at 65535 t) (number_at 4294967295 u) (Some 16)
unfolding clap_on_literals
order_conns_joined_port u t v w = rw (w.no_dashes, w.no_long, w.no_short) refl

fault_conns_joined_port_joined : (u t : Text) → IsNumberWord 4294967295 u → IsNumberWord 65535 t → fault_of line.hkms (codes "serve" ∷ (codes "--conns" ++ 61 ∷ u) ∷ (codes "--port" ++ 61 ∷ t) ∷ []) ≡ []
unfolding clap_on_literals
fault_conns_joined_port_joined u t v w = rw (v.accepted, w.accepted) refl

order_conns_joined_port_joined : (u t : Text) → IsNumberWord 4294967295 u → IsNumberWord 65535 t → order_at order_named (subcommand_of line.hkms (codes "serve" ∷ (codes "--conns" ++ 61 ∷ u) ∷ (codes "--port" ++ 61 ∷ t) ∷ [])) ≡ serve_order (number_at 65535 t) (number_at 4294967295 u) (Some 16)
unfolding clap_on_literals
order_conns_joined_port_joined u t v w = refl

-- ---- what was asked for

port_word : (n : ℕ) → (1 ≤ n) × (n ≤ 65535) → IsNumberWord 65535 (decimal n)
port_word n h = number_word 65535 n h.0 h.1 (omega arith)

port_number : (n : ℕ) → (1 ≤ n) × (n ≤ 65535) → number_at 65535 (decimal n) ≡ Some n
port_number n h = number_at-word 65535 n h.0 h.1 (omega arith)

conns_word : (n : ℕ) → (1 ≤ n) × (n ≤ 4294967295) → IsNumberWord 4294967295 (decimal n)
conns_word n h = number_word 4294967295 n h.0 h.1 (omega arith)

conns_number : (n : ℕ) → (1 ≤ n) × (n ≤ 4294967295) → number_at 4294967295 (decimal n) ≡ Some n
conns_number n h = number_at-word 4294967295 n h.0 h.1 (omega arith)

places_word : (n : ℕ) → (1 ≤ n) × (n ≤ 1024) → IsNumberWord 1024 (decimal n)
places_word n h = number_word 1024 n h.0 h.1 (omega arith)

places_number : (n : ℕ) → (1 ≤ n) × (n ≤ 1024) → number_at 1024 (decimal n) ≡ Some n
places_number n h = number_at-word 1024 n h.0 h.1 (omega arith)

reads_port_conns : (port conns places : ℕ) (words ps cs : List Text) → IsOption (codes "--port") 9600 65535 port ps → IsOption (codes "--conns") 4294967295 4294967295 conns cs
    → places ≡ 16 → words ≡ codes "serve" ∷ (ps ++ cs) → Reading words (Serve port conns places)
reads_port_conns port conns places words ps cs (inl (p, p')) (inl (c, c')) l' e =
    reading_at words _ (Serve port conns places) (e ∙ ap₂ (λ (a b : List Text). codes "serve" ∷ (a ++ b)) p c) fault_alone
    (order_alone ∙ three serve_order (ap Some (sym p')) (ap Some (sym c')) (ap Some (sym l')))
reads_port_conns port conns places words ps cs (inl (p, p')) (inr (c, c', inl c'')) l' e =
    reading_at words _ (Serve port conns places) (e ∙ ap₂ (λ (a b : List Text). codes "serve" ∷ (a ++ b)) p c'') (fault_conns (decimal conns) (conns_word conns (c, c')))
    (order_conns (decimal conns) (conns_word conns (c, c')) ∙ three serve_order (ap Some (sym p')) (conns_number conns (c, c')) (ap Some (sym l')))
reads_port_conns port conns places words ps cs (inl (p, p')) (inr (c, c', inr c'')) l' e =
    reading_at words _ (Serve port conns places) (e ∙ ap₂ (λ (a b : List Text). codes "serve" ∷ (a ++ b)) p c'') (fault_conns_joined (decimal conns) (conns_word conns (c, c')))
    (order_conns_joined (decimal conns) (conns_word conns (c, c')) ∙ three serve_order (ap Some (sym p')) (conns_number conns (c, c')) (ap Some (sym l')))
reads_port_conns port conns places words ps cs (inr (p, p', inl p'')) (inl (c, c')) l' e =
    reading_at words _ (Serve port conns places) (e ∙ ap₂ (λ (a b : List Text). codes "serve" ∷ (a ++ b)) p'' c) (fault_port (decimal port) (port_word port (p, p')))
    (order_port (decimal port) (port_word port (p, p')) ∙ three serve_order (port_number port (p, p')) (ap Some (sym c')) (ap Some (sym l')))
reads_port_conns port conns places words ps cs (inr (p, p', inl p'')) (inr (c, c', inl c'')) l' e =
    reading_at words _ (Serve port conns places) (e ∙ ap₂ (λ (a b : List Text). codes "serve" ∷ (a ++ b)) p'' c'') (fault_port_conns (decimal port) (decimal conns) (port_word port (p, p')) (conns_word conns (c, c')))
    (order_port_conns (decimal port) (decimal conns) (port_word port (p, p')) (conns_word conns (c, c')) ∙ three serve_order (port_number port (p, p')) (conns_number conns (c, c')) (ap Some (sym l')))
reads_port_conns port conns places words ps cs (inr (p, p', inl p'')) (inr (c, c', inr c'')) l' e =
    reading_at words _ (Serve port conns places) (e ∙ ap₂ (λ (a b : List Text). codes "serve" ∷ (a ++ b)) p'' c'') (fault_port_conns_joined (decimal port) (decimal conns) (port_word port (p, p')) (conns_word conns (c, c')))
    (order_port_conns_joined (decimal port) (decimal conns) (port_word port (p, p')) (conns_word conns (c, c')) ∙ three serve_order (port_number port (p, p')) (conns_number conns (c, c')) (ap Some (sym l')))
reads_port_conns port conns places words ps cs (inr (p, p', inr p'')) (inl (c, c')) l' e =
    reading_at words _ (Serve port conns places) (e ∙ ap₂ (λ (a b : List Text). codes "serve" ∷ (a ++ b)) p'' c) (fault_port_joined (decimal port) (port_word port (p, p')))
    (order_port_joined (decimal port) (port_word port (p, p')) ∙ three serve_order (port_number port (p, p')) (ap Some (sym c')) (ap Some (sym l')))
reads_port_conns port conns places words ps cs (inr (p, p', inr p'')) (inr (c, c', inl c'')) l' e =
    reading_at words _ (Serve port conns places) (e ∙ ap₂ (λ (a b : List Text). codes "serve" ∷ (a ++ b)) p'' c'') (fault_port_joined_conns (decimal port) (decimal conns) (port_word port (p, p')) (conns_word conns (c, c')))
    (order_port_joined_conns (decimal port) (decimal conns) (port_word port (p, p')) (conns_word conns (c, c')) ∙ three serve_order (port_number port (p, p')) (conns_number conns (c, c')) (ap Some (sym l')))
reads_port_conns port conns places words ps cs (inr (p, p', inr p'')) (inr (c, c', inr c'')) l' e =
    reading_at words _ (Serve port conns places) (e ∙ ap₂ (λ (a b : List Text). codes "serve" ∷ (a ++ b)) p'' c'') (fault_port_joined_conns_joined (decimal port) (decimal conns) (port_word port (p, p')) (conns_word conns (c, c')))
    (order_port_joined_conns_joined (decimal port) (decimal conns) (port_word port (p, p')) (conns_word conns (c, c')) ∙ three serve_order (port_number port (p, p')) (conns_number conns (c, c')) (ap Some (sym l')))

reads_conns_port : (port conns places : ℕ) (words ps cs : List Text) → IsOption (codes "--port") 9600 65535 port ps → IsOption (codes "--conns") 4294967295 4294967295 conns cs
    → places ≡ 16 → words ≡ codes "serve" ∷ (cs ++ ps) → Reading words (Serve port conns places)
reads_conns_port port conns places words ps cs (inl (p, p')) (inl (c, c')) l' e =
    reading_at words _ (Serve port conns places) (e ∙ ap₂ (λ (a b : List Text). codes "serve" ∷ (b ++ a)) p c) fault_alone
    (order_alone ∙ three serve_order (ap Some (sym p')) (ap Some (sym c')) (ap Some (sym l')))
reads_conns_port port conns places words ps cs (inl (p, p')) (inr (c, c', inl c'')) l' e =
    reading_at words _ (Serve port conns places) (e ∙ ap₂ (λ (a b : List Text). codes "serve" ∷ (b ++ a)) p c'') (fault_conns (decimal conns) (conns_word conns (c, c')))
    (order_conns (decimal conns) (conns_word conns (c, c')) ∙ three serve_order (ap Some (sym p')) (conns_number conns (c, c')) (ap Some (sym l')))
reads_conns_port port conns places words ps cs (inl (p, p')) (inr (c, c', inr c'')) l' e =
    reading_at words _ (Serve port conns places) (e ∙ ap₂ (λ (a b : List Text). codes "serve" ∷ (b ++ a)) p c'') (fault_conns_joined (decimal conns) (conns_word conns (c, c')))
    (order_conns_joined (decimal conns) (conns_word conns (c, c')) ∙ three serve_order (ap Some (sym p')) (conns_number conns (c, c')) (ap Some (sym l')))
reads_conns_port port conns places words ps cs (inr (p, p', inl p'')) (inl (c, c')) l' e =
    reading_at words _ (Serve port conns places) (e ∙ ap₂ (λ (a b : List Text). codes "serve" ∷ (b ++ a)) p'' c) (fault_port (decimal port) (port_word port (p, p')))
    (order_port (decimal port) (port_word port (p, p')) ∙ three serve_order (port_number port (p, p')) (ap Some (sym c')) (ap Some (sym l')))
reads_conns_port port conns places words ps cs (inr (p, p', inl p'')) (inr (c, c', inl c'')) l' e =
    reading_at words _ (Serve port conns places) (e ∙ ap₂ (λ (a b : List Text). codes "serve" ∷ (b ++ a)) p'' c'') (fault_conns_port (decimal conns) (decimal port) (conns_word conns (c, c')) (port_word port (p, p')))
    (order_conns_port (decimal conns) (decimal port) (conns_word conns (c, c')) (port_word port (p, p')) ∙ three serve_order (port_number port (p, p')) (conns_number conns (c, c')) (ap Some (sym l')))
reads_conns_port port conns places words ps cs (inr (p, p', inl p'')) (inr (c, c', inr c'')) l' e =
    reading_at words _ (Serve port conns places) (e ∙ ap₂ (λ (a b : List Text). codes "serve" ∷ (b ++ a)) p'' c'') (fault_conns_joined_port (decimal conns) (decimal port) (conns_word conns (c, c')) (port_word port (p, p')))
    (order_conns_joined_port (decimal conns) (decimal port) (conns_word conns (c, c')) (port_word port (p, p')) ∙ three serve_order (port_number port (p, p')) (conns_number conns (c, c')) (ap Some (sym l')))
reads_conns_port port conns places words ps cs (inr (p, p', inr p'')) (inl (c, c')) l' e =
    reading_at words _ (Serve port conns places) (e ∙ ap₂ (λ (a b : List Text). codes "serve" ∷ (b ++ a)) p'' c) (fault_port_joined (decimal port) (port_word port (p, p')))
    (order_port_joined (decimal port) (port_word port (p, p')) ∙ three serve_order (port_number port (p, p')) (ap Some (sym c')) (ap Some (sym l')))
reads_conns_port port conns places words ps cs (inr (p, p', inr p'')) (inr (c, c', inl c'')) l' e =
    reading_at words _ (Serve port conns places) (e ∙ ap₂ (λ (a b : List Text). codes "serve" ∷ (b ++ a)) p'' c'') (fault_conns_port_joined (decimal conns) (decimal port) (conns_word conns (c, c')) (port_word port (p, p')))
    (order_conns_port_joined (decimal conns) (decimal port) (conns_word conns (c, c')) (port_word port (p, p')) ∙ three serve_order (port_number port (p, p')) (conns_number conns (c, c')) (ap Some (sym l')))
reads_conns_port port conns places words ps cs (inr (p, p', inr p'')) (inr (c, c', inr c'')) l' e =
    reading_at words _ (Serve port conns places) (e ∙ ap₂ (λ (a b : List Text). codes "serve" ∷ (b ++ a)) p'' c'') (fault_conns_joined_port_joined (decimal conns) (decimal port) (conns_word conns (c, c')) (port_word port (p, p')))
    (order_conns_joined_port_joined (decimal conns) (decimal port) (conns_word conns (c, c')) (port_word port (p, p')) ∙ three serve_order (port_number port (p, p')) (conns_number conns (c, c')) (ap Some (sym l')))

pub reads_places : (port conns places : ℕ) (words ls : List Text) → port ≡ 9600 → conns ≡ 4294967295 → IsOption (codes "--connections") 16 1024 places ls → words ≡ codes "serve" ∷ ls
    → Reading words (Serve port conns places)
reads_places port conns places words ls p' c' (inl (l, l')) e =
    reading_at words _ (Serve port conns places) (e ∙ ap (λ (a : List Text). codes "serve" ∷ a) l) fault_alone
    (order_alone ∙ three serve_order (ap Some (sym p')) (ap Some (sym c')) (ap Some (sym l')))
reads_places port conns places words ls p' c' (inr (l, l', inl l'')) e =
    reading_at words _ (Serve port conns places) (e ∙ ap (λ (a : List Text). codes "serve" ∷ a) l'') (fault_places (decimal places) (places_word places (l, l')))
    (order_places (decimal places) (places_word places (l, l')) ∙ three serve_order (ap Some (sym p')) (ap Some (sym c')) (places_number places (l, l')))
reads_places port conns places words ls p' c' (inr (l, l', inr l'')) e =
    reading_at words _ (Serve port conns places) (e ∙ ap (λ (a : List Text). codes "serve" ∷ a) l'') (fault_places_joined (decimal places) (places_word places (l, l')))
    (order_places_joined (decimal places) (places_word places (l, l')) ∙ three serve_order (ap Some (sym p')) (ap Some (sym c')) (places_number places (l, l')))

pub serve_reads : (port conns places : ℕ) (words ps cs : List Text) → places ≡ 16 → IsOption (codes "--port") 9600 65535 port ps → IsOption (codes "--conns") 4294967295 4294967295 conns cs
    → IsServe ps cs words → Reading words (Serve port conns places)
serve_reads port conns places words ps cs l p c (inl e) = reads_port_conns port conns places words ps cs p c l e
serve_reads port conns places words ps cs l p c (inr e) = reads_conns_port port conns places words ps cs p c l e
