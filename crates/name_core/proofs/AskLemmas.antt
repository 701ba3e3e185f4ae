-- Open asks in the order of their ids: how they are kept under these, and properties of those that remain.
use Rattle.std.proofs.Common.{◌≡◌, ℕ, ◌<◌, ◌^◌, nat_le, Bool, true, false, cond, not, List, [], ◌∷◌, ◌++◌, Option, Some, None, Ordering, Greater, refl, ap, sym, subst, ◌∙◌, arith}
use Rattle.std.specs.Prelude.{◌==◌}
use Rattle.std.specs.BTreeMap.{insert_entry, is_at}
use Rattle.std.specs.List.{All, AllByRecursion}
use Rattle.std.specs.Map.{lookup, remove_entry, values_of}
use Rattle.std.specs.Option.{option_map, option_and_then}
use Rattle.std.specs.Ordering.{is_eq, match_ordering, nat_cmp}
use Rattle.std.proofs.lemmas.Bool.Decides.{nat_tests}
use Rattle.std.proofs.lemmas.List.Elements.{All-head, All-tail, All-cons, All-nil}
use Rattle.std.proofs.lemmas.Bool.{eqb-true, eqb-false}
use Rattle.inode_tree.specs.declared.rows.Kind.{Kind}
use Rattle.name_calls.specs.Paths.{is_before, starts_reserved}
use Rattle.inode_tree.specs.Moves.{moved, renamed}
use Rattle.inode_tree.specs.Rows.{Entry, entry_of, mark_of, put, set_kind, with_kind, zone_id, zone_of}
use Rattle.name_core.specs.declared.asks.OpenAsk.{OpenAsk}
use Rattle.name_calls.specs.declared.calls.NameRefusal.{NameRefusal}
use Rattle.name_calls.specs.declared.calls.NameRefusal.TheVariants.{BadPath, NotSuperuser, TooManyInodes}
use Rattle.name_calls.specs.declared.calls.Ask.{Ask}
use Rattle.name_calls.specs.declared.calls.Ask.TheVariants as ask
use Rattle.name_store.specs.Causes.{first_cause, submit_causes, zone_causes}
use Rattle.name_store.specs.Table.{key_of_zone}
use Rattle.name_store.proofs.CauseLemmas.{clear, none-of-both}
use Rattle.name_core.specs.State.{AreAsksRising, IdsFit, NameState, is_spent}
use Rattle.name_core.specs.Asks.{ask_causes, open_ask, without}
use Rattle.name_core.specs.Calls.{is_superuser, path_causes}
use Rattle.name_core.specs.Steps.{AreKeyed}
use Rattle.name_core.proofs.RowLemmas.{BelowId, all-put, id-free, room-left}

-- properties of each ask

pub each-map : (P Q : OpenAsk → Type 0) → ((a : OpenAsk) → P a → Q a) → (asks : List OpenAsk) → AllByRecursion P asks → AllByRecursion Q asks
each-map P Q f [] h = tt
each-map P Q f (a ∷ asks) h = (f a h.0, each-map P Q f asks h.1)

pub each-both : (P Q : OpenAsk → Type 0) (asks : List OpenAsk) → AllByRecursion P asks → AllByRecursion Q asks → AllByRecursion (λ a. P a × Q a) asks
each-both P Q [] h k = tt
each-both P Q (a ∷ asks) h k = ((h.0, k.0), each-both P Q asks h.1 k.1)

pub each-append : (P : OpenAsk → Type 0) (asks : List OpenAsk) (q : OpenAsk) → AllByRecursion P asks → P q → AllByRecursion P (asks ++ q ∷ [])
each-append P [] q h p = (p, tt)
each-append P (a ∷ asks) q h p = (h.0, each-append P asks q h.1 p)

each-cond : (P : OpenAsk → Type 0) (t : Bool) (xs ys : List OpenAsk) → AllByRecursion P xs → AllByRecursion P ys → AllByRecursion P (cond t xs ys)
each-cond P true xs ys h k = h
each-cond P false xs ys h k = k

pub each-without : (P : OpenAsk → Type 0) (asks : List OpenAsk) (id : ℕ) → AllByRecursion P asks → AllByRecursion P (without asks id)
each-without P [] id h = tt
each-without P (a ∷ asks) id h = each-cond P (a.id == id) asks (a ∷ without asks id) h.1 (h.0, each-without P asks id h.1)

pub open-holds : (P : OpenAsk → Type 0) (asks : List OpenAsk) (id : ℕ) (q : OpenAsk) → AllByRecursion P asks → open_ask asks id ≡ Some q → P q
open-holds P [] id q h e = absurd cc
open-holds P (a ∷ asks) id q h e = go (a.id == id) (open-holds P asks id q h.1) e
  where
    go : (t : Bool) → (open_ask asks id ≡ Some q → P q) → cond t (Some a) (open_ask asks id) ≡ Some q → P q
    go true rest e = let same : a ≡ q = cc in subst P same h.0
    go false rest e = rest e

-- asks kept under their ids

same-number : (a b : ℕ) → is_eq (nat_cmp a b) ≡ (b == a)
same-number a b = grind (arith, nat_tests)

higher : (a b c : ℕ) → c ≡ b → b < a → nat_cmp a c ≡ Greater
higher a b c h k = grind (arith, nat_tests)

at-id : (e : ℕ × OpenAsk) (id : ℕ) → e.0 ≡ e.1.id → is_at (nat_cmp id) e.0 ≡ (e.1.id == id)
at-id e id h = ap (λ (k : ℕ). is_eq (nat_cmp id k)) h ∙ same-number id e.1.id

pub open-keyed : (es : List (ℕ × OpenAsk)) (id : ℕ) → AreKeyed es → lookup (is_at (nat_cmp id)) es ≡ open_ask (values_of es) id
open-keyed [] id h = refl
open-keyed (e ∷ es) id h =
    ap (λ (t : Bool). cond t (Some e.1) (lookup (is_at (nat_cmp id)) es)) (at-id e id h.0)
    ∙ ap (λ (o : Option OpenAsk). cond (e.1.id == id) (Some e.1) o) (open-keyed es id h.1)

pub without-keyed : (es : List (ℕ × OpenAsk)) (id : ℕ) → AreKeyed es → values_of (remove_entry (is_at (nat_cmp id)) es) ≡ without (values_of es) id
without-keyed [] id h = refl
without-keyed (e ∷ es) id h = go (is_at (nat_cmp id) e.0) (without-keyed es id h.1) ∙ ap (λ (t : Bool). cond t (values_of es) (e.1 ∷ without (values_of es) id)) (at-id e id h.0)
  where
    go : (t : Bool) → values_of (remove_entry (is_at (nat_cmp id)) es) ≡ without (values_of es) id
        → values_of (cond t es (e ∷ remove_entry (is_at (nat_cmp id)) es)) ≡ cond t (values_of es) (e.1 ∷ without (values_of es) id)
    go true rest = refl
    go false rest = ap (λ (others : List OpenAsk). e.1 ∷ others) rest

keyed-cond : (t : Bool) (xs ys : List (ℕ × OpenAsk)) → AreKeyed xs → AreKeyed ys → AreKeyed (cond t xs ys)
keyed-cond true xs ys h k = h
keyed-cond false xs ys h k = k

pub keyed-without : (es : List (ℕ × OpenAsk)) (test : ℕ → Bool) → AreKeyed es → AreKeyed (remove_entry test es)
keyed-without [] test h = tt
keyed-without (e ∷ es) test h = keyed-cond (test e.0) es (e ∷ remove_entry test es) h.1 (h.0, keyed-without es test h.1)

-- an ask whose id is above the others goes to the end
insert-last : (es : List (ℕ × OpenAsk)) (q : OpenAsk) → AreKeyed es → AllByRecursion (λ (a : OpenAsk). a.id < q.id) (values_of es)
    → insert_entry nat_cmp es q.id q ≡ es ++ (q.id, q) ∷ []
insert-last [] q h k = refl
insert-last (e ∷ es) q h k =
    ap (λ (o : Ordering). match_ordering o ((q.id, q) ∷ e ∷ es) ((e.0, q) ∷ es) (e ∷ insert_entry nat_cmp es q.id q)) (higher q.id e.1.id e.0 h.0 k.0)
    ∙ ap (λ (rest : List (ℕ × OpenAsk)). e ∷ rest) (insert-last es q h.1 k.1)

values-append : (es : List (ℕ × OpenAsk)) (q : OpenAsk) → values_of (es ++ (q.id, q) ∷ []) ≡ values_of es ++ q ∷ []
values-append [] q = refl
values-append (e ∷ es) q = ap (λ (rest : List OpenAsk). e.1 ∷ rest) (values-append es q)

keyed-append : (es : List (ℕ × OpenAsk)) (q : OpenAsk) → AreKeyed es → AreKeyed (es ++ (q.id, q) ∷ [])
keyed-append [] q h = (refl, tt)
keyed-append (e ∷ es) q h = (h.0, keyed-append es q h.1)

pub values-insert : (es : List (ℕ × OpenAsk)) (q : OpenAsk) → AreKeyed es → AllByRecursion (λ (a : OpenAsk). a.id < q.id) (values_of es)
    → values_of (insert_entry nat_cmp es q.id q) ≡ values_of es ++ q ∷ []
values-insert es q h k = ap (λ (put : List (ℕ × OpenAsk)). values_of put) (insert-last es q h k) ∙ values-append es q

pub keyed-insert : (es : List (ℕ × OpenAsk)) (q : OpenAsk) → AreKeyed es → AllByRecursion (λ (a : OpenAsk). a.id < q.id) (values_of es) → AreKeyed (insert_entry nat_cmp es q.id q)
keyed-insert es q h k = subst (λ (put : List (ℕ × OpenAsk)). AreKeyed put) (sym (insert-last es q h k)) (keyed-append es q h)

-- the order of those that remain

rising-cond : (t : Bool) (xs ys : List OpenAsk) → AreAsksRising xs → AreAsksRising ys → AreAsksRising (cond t xs ys)
rising-cond true xs ys h k = h
rising-cond false xs ys h k = k

pub rising-without : (asks : List OpenAsk) (id : ℕ) → AreAsksRising asks → AreAsksRising (without asks id)
rising-without [] id r = tt
rising-without (a ∷ asks) id r =
    rising-cond (a.id == id) asks (a ∷ without asks id) r.1 (each-without (λ (b : OpenAsk). a.id < b.id) asks id r.0, rising-without asks id r.1)

pub rising-append : (asks : List OpenAsk) (q : OpenAsk) → AreAsksRising asks → AllByRecursion (λ (a : OpenAsk). a.id < q.id) asks → AreAsksRising (asks ++ q ∷ [])
rising-append [] q r h = (tt, tt)
rising-append (a ∷ asks) q r h = (each-append (λ (b : OpenAsk). a.id < b.id) asks q r.0 h.0, rising-append asks q r.1 h.1)

-- the asks that remain have another id
pub without-apart : (asks : List OpenAsk) (id : ℕ) → AreAsksRising asks → AllByRecursion (λ (q : OpenAsk). q.id ≡ id → ⊥) (without asks id)
without-apart [] id r = tt
without-apart (a ∷ asks) id r = go (a.id == id) refl (without-apart asks id r.1)
  where
    go : (t : Bool) → (a.id == id) ≡ t → AllByRecursion (λ (q : OpenAsk). q.id ≡ id → ⊥) (without asks id) → AllByRecursion (λ (q : OpenAsk). q.id ≡ id → ⊥) (cond t asks (a ∷ without asks id))
    go true e rest = each-map (λ (b : OpenAsk). a.id < b.id) (λ (q : OpenAsk). q.id ≡ id → ⊥) (λ q low same. let here : a.id ≡ id = eqb-true a.id id e in absurd (omega (arith, low, same, here))) asks r.0
    go false e rest = (eqb-false a.id id e, rest)

-- an id that no row has, while rows change

free-parts : (x : Entry) (es : List Entry) (id : ℕ) → entry_of (x ∷ es) id ≡ None → ((x.row.id == id) ≡ false) × (entry_of es id ≡ None)
free-parts x es id h = go (x.row.id == id) h
  where
    go : (t : Bool) → cond t (Some x) (entry_of es id) ≡ None → (t ≡ false) × (entry_of es id ≡ None)
    go true e = absurd cc
    go false e = (refl, e)

pub put-free : (e : Entry) (es : List Entry) (id : ℕ) → (e.row.id == id) ≡ false → entry_of es id ≡ None → entry_of (put e es) id ≡ None
put-free e [] id h k = ap (λ (t : Bool). cond t (Some e) None) h
put-free e (x ∷ es) id h k = go (is_before e.path x.path) (put-free e es id h (free-parts x es id k).1)
  where
    go : (b : Bool) → entry_of (put e es) id ≡ None → entry_of (cond b (e ∷ x ∷ es) (x ∷ put e es)) id ≡ None
    go true rest = ap (λ (t : Bool). cond t (Some e) (entry_of (x ∷ es) id)) h ∙ k
    go false rest = ap (λ (t : Bool). cond t (Some x) (entry_of (put e es) id)) (free-parts x es id k).0 ∙ rest

kind-id : (n : ℕ) (kind : Kind) (e : Entry) → (with_kind n kind e).row.id ≡ e.row.id
kind-id n kind e = go (e.row.id == n) refl
  where
    go : (t : Bool) → (e.row.id == n) ≡ t → (cond t (record e { row = record { id = n; kind = kind } }) e).row.id ≡ e.row.id
    go true h = sym (eqb-true e.row.id n h)
    go false h = refl

pub kind-free : (n : ℕ) (kind : Kind) (es : List Entry) (id : ℕ) → entry_of es id ≡ None → entry_of (set_kind es n kind) id ≡ None
kind-free n kind [] id h = refl
kind-free n kind (x ∷ es) id h =
    ap (λ (t : Bool). cond t (Some (with_kind n kind x)) (entry_of (set_kind es n kind) id)) (ap (λ (i : ℕ). i == id) (kind-id n kind x) ∙ (free-parts x es id h).0)
    ∙ kind-free n kind es id (free-parts x es id h).1

pub kind-below : (m n : ℕ) (kind : Kind) (es : List Entry) → All (BelowId m) es → All (BelowId m) (set_kind es n kind)
kind-below m n kind [] h = All-nil (BelowId m)
kind-below m n kind (x ∷ es) h =
    All-cons (BelowId m) (with_kind n kind x) (set_kind es n kind) (subst (λ (i : ℕ). i < m) (sym (kind-id n kind x)) (All-head (BelowId m) x es h))
    (kind-below m n kind es (All-tail (BelowId m) x es h))

pub moved-free : (p q : List (List ℕ)) (es : List Entry) (id : ℕ) → entry_of es id ≡ None → entry_of (renamed p q es) id ≡ None
moved-free p q [] id h = refl
moved-free p q (x ∷ es) id h = let parts = free-parts x es id h in put-free (moved p q x) (renamed p q es) id parts.0 (moved-free p q es id parts.1)

pub moved-below : (m : ℕ) (p q : List (List ℕ)) (es : List Entry) → All (BelowId m) es → All (BelowId m) (renamed p q es)
moved-below m p q [] h = All-nil (BelowId m)
moved-below m p q (x ∷ es) h = all-put (BelowId m) (moved p q x) (renamed p q es) (All-head (BelowId m) x es h) (moved-below m p q es (All-tail (BelowId m) x es h))

pub no-key : (rows : List Entry) (p : List (List ℕ)) → zone_id rows p ≡ None → key_of_zone rows p ≡ None
no-key rows p h = go (zone_of rows p) h
  where
    go : (o : Option Entry) → option_map (λ e. e.row.id) o ≡ None → option_and_then (λ e. mark_of e.row.kind) o ≡ None
    go None h = refl
    go (Some e) h = absurd cc

-- ids, while rows and asks change

differ : (a b : ℕ) → a < b → (b == a) ≡ false
differ a b h = grind (arith, nat_tests)

unlike : (a b : ℕ) → (a ≡ b → ⊥) → (b == a) ≡ false
unlike a b h = grind (arith, nat_tests)

pub free-put : (e : Entry) (rows : List Entry) (asks : List OpenAsk) → AllByRecursion (λ (a : OpenAsk). (e.row.id == a.id) ≡ false) asks
    → AllByRecursion (λ (a : OpenAsk). entry_of rows a.id ≡ None) asks → AllByRecursion (λ (a : OpenAsk). entry_of (put e rows) a.id ≡ None) asks
free-put e rows [] h k = tt
free-put e rows (a ∷ asks) h k = (put-free e rows a.id h.0 k.0, free-put e rows asks h.1 k.1)

more : (n m : ℕ) → n < m → (asks : List OpenAsk) → AllByRecursion (λ (a : OpenAsk). a.id < n) asks → AllByRecursion (λ (a : OpenAsk). a.id < m) asks
more n m h asks k = each-map (λ (a : OpenAsk). a.id < n) (λ (a : OpenAsk). a.id < m) (λ a b. omega (arith, h, b)) asks k

below-more : (n m : ℕ) → n < m → (rows : List Entry) → All (BelowId n) rows → All (BelowId m) rows
below-more n m h rows k = λ i d b. omega (arith, h, k i d b)

pub fit-ask : (q : OpenAsk) (rows : List Entry) (asks : List OpenAsk) (n m : ℕ) → q.id ≡ n → n < m → IdsFit rows asks n → IdsFit rows (asks ++ q ∷ []) m
fit-ask q rows asks n m is h fit =
    record {
      of_rows = below-more n m h rows fit.of_rows;
      of_asks = each-append (λ (a : OpenAsk). a.id < m) asks q (more n m h asks fit.of_asks) (omega (arith, is, h));
      free = each-append (λ (a : OpenAsk). entry_of rows a.id ≡ None) asks q fit.free (subst (λ (i : ℕ). entry_of rows i ≡ None) (sym is) (id-free rows n fit.of_rows));
      rising = rising-append asks q fit.rising (subst (λ (i : ℕ). AllByRecursion (λ (a : OpenAsk). a.id < i) asks) (sym is) fit.of_asks);
    }

pub fit-without : (rows : List Entry) (asks : List OpenAsk) (id n : ℕ) → IdsFit rows asks n → IdsFit rows (without asks id) n
fit-without rows asks id n fit =
    record {
      of_rows = fit.of_rows;
      of_asks = each-without (λ (a : OpenAsk). a.id < n) asks id fit.of_asks;
      free = each-without (λ (a : OpenAsk). entry_of rows a.id ≡ None) asks id fit.free;
      rising = rising-without asks id fit.rising;
    }

pub open-id : (asks : List OpenAsk) (id : ℕ) (q : OpenAsk) → open_ask asks id ≡ Some q → q.id ≡ id
open-id [] id q h = absurd cc
open-id (a ∷ asks) id q h = go (a.id == id) refl (open-id asks id q) h
  where
    go : (t : Bool) → (a.id == id) ≡ t → (open_ask asks id ≡ Some q → q.id ≡ id) → cond t (Some a) (open_ask asks id) ≡ Some q → q.id ≡ id
    go true e rest h = let same : a ≡ q = cc in ap (λ (x : OpenAsk). x.id) (sym same) ∙ eqb-true a.id id e
    go false e rest h = rest h

-- there is an id for an ask that is accepted

not-last : (n : ℕ) → nat_le (2 ^ 32) n ≡ false → n < 2 ^ 32
not-last n h = grind (arith, nat_tests, h)

pub ask-room : (s : NameState) (user : List ℕ) (a : Ask) → first_cause (ask_causes s user a) ≡ None → s.next < 2 ^ 32
ask-room s user (ask.Create p) h = room-left s p (clear (starts_reserved p) BadPath _ h).1
ask-room s user (ask.Zone p key) h =
    let r = clear (starts_reserved p) BadPath _ h in
    let u = clear (not (is_superuser user)) NotSuperuser _ r.1 in
    let z = none-of-both (zone_causes s.table.rows p) ((is_spent s, TooManyInodes) ∷ []) u.1 in
    not-last s.next (clear (is_spent s) TooManyInodes None z.1).0
ask-room s user (ask.Submit p) h =
    let r = clear (starts_reserved p) BadPath _ h in
    let u = clear (not (is_superuser user)) NotSuperuser _ r.1 in
    let z = none-of-both (submit_causes s.table.rows s.table.statuses p) ((is_spent s, TooManyInodes) ∷ []) u.1 in
    not-last s.next (clear (is_spent s) TooManyInodes None z.1).0

-- a submission is refused for the causes of its zone, if its path and its user may submit

pub first-front : (front behind : List (Bool × NameRefusal)) (why : NameRefusal) → first_cause front ≡ Some why → first_cause (front ++ behind) ≡ Some why
first-front [] behind why h = absurd cc
first-front (c ∷ front) behind why h = go c.0 h (first-front front behind why)
  where
    go : (b : Bool) → cond b (Some c.1) (first_cause front) ≡ Some why → (first_cause front ≡ Some why → first_cause (front ++ behind) ≡ Some why) → cond b (Some c.1) (first_cause (front ++ behind)) ≡ Some why
    go true h rest = h
    go false h rest = rest h

pub submission-refused : (s : NameState) (user : List ℕ) (p : List (List ℕ)) (why : NameRefusal) → first_cause (path_causes p) ≡ None → is_superuser user ≡ true
    → first_cause (submit_causes s.table.rows s.table.statuses p) ≡ Some why → first_cause (ask_causes s user (ask.Submit p)) ≡ Some why
submission-refused s user p why path super h =
    let causes = submit_causes s.table.rows s.table.statuses p in
    let last = (is_spent s, TooManyInodes) ∷ [] in
    ap (λ (b : Bool). cond b (Some BadPath) (cond (not (is_superuser user)) (Some NotSuperuser) (first_cause (causes ++ last)))) (clear (starts_reserved p) BadPath None path).0
    ∙ ap (λ (b : Bool). cond (not b) (Some NotSuperuser) (first_cause (causes ++ last))) super
    ∙ first-front causes last why h
