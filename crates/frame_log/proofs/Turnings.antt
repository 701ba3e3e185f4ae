-- A later compaction of a log: what a crash leaves while the gates of its two selectors are turned.
use Rattle.std.proofs.Common.{◌≡◌, ◌≢◌, ◌⊎◌, ℕ, ◌+◌, ◌<◌, ◌^◌, Bool, true, false, List, [], ◌∷◌, ◌++◌, length, Some, refl, sym, ◌∙◌, ap, arith, append_assoc, length-append, inl, inr}
use Rattle.std.specs.List.{AllByRecursion}
use Rattle.std.specs.Int.{w64, to_be_bytes}
use Rattle.std.proofs.lemmas.List.{drop_at}
use Rattle.std.proofs.lemmas.Bool.Decides.{nat_tests}
use Rattle.std.proofs.lemmas.Bool.{cases_eq}
use Rattle.frame_log.specs.Format.{IsPayload, frames}
use Rattle.frame_log.specs.FormatTwo.{Always, Content, Holds, IsOwn, Selector, byte_at, counting, end_gate, first_byte, holding, log_in, next_turn, selector_in, since}
use Rattle.frame_log.specs.Bases.{Area, IsArea, IsWholeArea, area_at, area_base, area_start, behind_selectors, front_on, moved_on, selectors_at}
use Rattle.frame_log.specs.Compacts.{IsBetween}
use Rattle.frame_log.proofs.Bases.{always_first, always_second, moved_long, moved_more, area_is_read}
use Rattle.frame_log.proofs.Migrations.{always_weaker}
use Rattle.frame_log.proofs.Movings.{new_alone, new_counts, old_counts}

-- the bytes of a log on an area, its end gate shut
abbrev pub on_area : ℕ → Area → List (List ℕ) → List ℕ → List ℕ
on_area file area payloads rest = front_on (area_base file area) payloads ++ 0 ∷ rest

pub end_at : (file : ℕ) (area : Area) (payloads : List (List ℕ)) → length area.first ≡ 17 → length area.second ≡ 17 → length (front_on (area_base file area) payloads) ≡ end_gate (holding (Some (area_start area)) payloads)
end_at file area payloads first second =
    omega (arith, length-append (area_base file area) (frames payloads), moved_long file area.old (selectors_at area) area.end area.first area.second (behind_selectors area) refl first second, length-append area.gap (to_be_bytes w64 (length area.image) ++ area.image), length-append (to_be_bytes w64 (length area.image)) area.image)

end_byte : (file : ℕ) (area : Area) (payloads : List (List ℕ)) (rest : List ℕ) → length area.first ≡ 17 → length area.second ≡ 17 → byte_at (end_gate (holding (Some (area_start area)) payloads)) (on_area file area payloads rest) ≡ 0
end_byte file area payloads rest first second =
    ap first_byte (drop_at (front_on (area_base file area) payloads) (0 ∷ rest) (end_gate (holding (Some (area_start area)) payloads)) (end_at file area payloads first second))

same_content : (r : Content) (c : Content) → Holds r ≡ Holds c → c ≡ r
same_content r c is = cc is

-- A file by the byte of a gate: while it is not 1 the file stands on one area, and if it is on another.
module _ (file : ℕ) (W : ℕ → List ℕ) (A B : ℕ → Area) (payloads : List (List ℕ)) (rest more : List ℕ) (fits : AllByRecursion IsPayload payloads) (start : (h : ℕ) → area_start (A h) ≡ area_start (A 0)) (long_first : (h : ℕ) → length (A h).first ≡ 17) (long_second : (h : ℕ) → length (A h).second ≡ 17) (is_a : (h : ℕ) → h ≢ 1 → IsArea (A h)) (is_b : IsArea (B 1)) (as_a : (h : ℕ) → W h ≡ on_area file (A h) payloads rest) (as_b : W 1 ≡ on_area file (B 1) [] more) where
  before : Content
  before = holding (Some (area_start (A 0))) payloads

  after : Content
  after = since (area_at (B 1) + 8) (B 1).image []

  shut_reads : (h : ℕ) → h ≢ 1 → log_in file (W h) ≡ Holds before
  unfolding before
  shut_reads h shut =
      ap (log_in file) (as_a h)
      ∙ area_is_read file (A h) (is_a h shut) payloads 0 rest fits (λ no. absurd (cc no))
      ∙ ap (λ s. Holds (holding (Some s) payloads)) (start h)

  open_reads : log_in file (W 1) ≡ Holds after
  unfolding after
  open_reads = ap (log_in file) as_b ∙ area_is_read file (B 1) is_b [] 0 more tt (λ no. absurd (cc no))

  ends : (h : ℕ) (c : Content) → log_in file (W h) ≡ Holds c → byte_at (end_gate c) (W h) ≡ 0
  unfolding before after
  ends h c is = elim (cases_eq h 1) [
    | inl one ↦
        let c_is : c ≡ since (area_at (B 1) + 8) (B 1).image [] = same_content (since (area_at (B 1) + 8) (B 1).image []) c (sym open_reads ∙ ap (λ (x : ℕ). log_in file (W x)) (sym one) ∙ is) in
        ap (λ x. byte_at (end_gate x) (W h)) c_is
        ∙ ap (λ (x : ℕ). byte_at (end_gate (since (area_at (B 1) + 8) (B 1).image [])) (W x)) one
        ∙ ap (byte_at (end_gate (since (area_at (B 1) + 8) (B 1).image []))) as_b
        ∙ end_byte file (B 1) [] more is_b.first is_b.second
    | inr shut ↦
        let c_is : c ≡ holding (Some (area_start (A h))) payloads = same_content (holding (Some (area_start (A h))) payloads) c (ap (λ s. Holds (holding (Some s) payloads)) (start h) ∙ sym (shut_reads h shut) ∙ is) in
        ap (λ x. byte_at (end_gate x) (W h)) c_is
        ∙ ap (byte_at (end_gate (holding (Some (area_start (A h))) payloads))) (as_a h)
        ∙ end_byte file (A h) payloads rest (long_first h) (long_second h)
  ]

  pub turns : ((x y : Content) → ((h : ℕ) → h ≢ 1 → log_in file (W h) ≡ Holds x) → log_in file (W 1) ≡ Holds y → ((h : ℕ) (c : Content) → log_in file (W h) ≡ Holds c → byte_at (end_gate c) (W h) ≡ 0) → (h : ℕ) → Always file (λ z. (z ≡ x) ⊎ (z ≡ y)) (W h))
      → (h : ℕ) → Always file (IsBetween (holding (Some (area_start (A 0))) payloads) (B 1).image) (W h)
  unfolding before after
  turns step h =
      always_weaker file (W h) (λ x is. elim is [
        | inl same ↦ inl same
        | inr same ↦ inr (area_at (B 1) + 8, same)
      ]) (step (holding (Some (area_start (A 0))) payloads) (since (area_at (B 1) + 8) (B 1).image []) shut_reads open_reads ends h)

-- ---- the two selectors in either order

-- an area of which the second selector is the one that is given first, or the first one is
abbrev pub ordered : Bool → List (List ℕ) → ℕ → List ℕ → List ℕ → List ℕ → List ℕ → Area
ordered false old end this other gap image = record { old = old; end = end; first = this; second = other; gap = gap; image = image }
ordered true old end this other gap image = record { old = old; end = end; first = other; second = this; gap = gap; image = image }

abbrev pub file_by : ℕ → Bool → List (List ℕ) → ℕ → List ℕ → List ℕ → List ℕ → List ℕ
file_by file false old end this other tail = moved_on file old (8 + length (frames old) + 15) end this other tail
file_by file true old end this other tail = moved_on file old (8 + length (frames old) + 15) end other this tail

-- the bytes behind the selectors
abbrev pub tail_of : List ℕ → List ℕ → List (List ℕ) → List ℕ → List ℕ
tail_of gap image payloads rest = (gap ++ (to_be_bytes w64 (length image) ++ image)) ++ (frames payloads ++ 0 ∷ rest)

pub as_area : (file : ℕ) (order : Bool) (old : List (List ℕ)) (end : ℕ) (this other gap image : List ℕ) (payloads : List (List ℕ)) (rest : List ℕ)
    → file_by file order old end this other (tail_of gap image payloads rest) ≡ on_area file (ordered order old end this other gap image) payloads rest
as_area file false old end this other gap image payloads rest =
    sym (append_assoc (area_base file (ordered false old end this other gap image)) (frames payloads) (0 ∷ rest)
    ∙ moved_more file old (8 + length (frames old) + 15) end this other (gap ++ (to_be_bytes w64 (length image) ++ image)) (frames payloads ++ 0 ∷ rest))
as_area file true old end this other gap image payloads rest =
    sym (append_assoc (area_base file (ordered true old end this other gap image)) (frames payloads) (0 ∷ rest)
    ∙ moved_more file old (8 + length (frames old) + 15) end other this (gap ++ (to_be_bytes w64 (length image) ++ image)) (frames payloads ++ 0 ∷ rest))

-- no turn is two after itself
two_on : (turn : ℕ) → turn < 2 ^ 64 → turn ≢ next_turn (next_turn turn)
two_on turn small same = absurd (omega (arith, small, same))

-- of two that are open the later one counts in this order too
new_first : (a b : Selector) → a.gate ≡ 1 → b.gate ≡ 1 → b.turn ≡ next_turn a.turn → a.turn < 2 ^ 64 → counting b a ≡ Some b
new_first a b is also turn small =
    let other : a.turn ≢ next_turn b.turn = λ same. two_on a.turn small (same ∙ ap next_turn turn) in
    grind (arith, nat_tests)

module _ (this other : List ℕ) where
  pub counts_old : (order : Bool) (old : List (List ℕ)) (end : ℕ) (gap image : List ℕ) → (selector_in this).gate ≡ 1 → (selector_in other).gate ≢ 1
      → counting (selector_in (ordered order old end this other gap image).first) (selector_in (ordered order old end this other gap image).second) ≡ Some (selector_in this)
  counts_old false old end gap image is shut = old_counts (selector_in this) (selector_in other) is shut
  counts_old true old end gap image is shut = new_alone (selector_in other) (selector_in this) shut is

  counts_new : (order : Bool) (old : List (List ℕ)) (end : ℕ) (gap image : List ℕ) → (selector_in other).gate ≡ 1 → (selector_in other).turn ≡ next_turn (selector_in this).turn → (selector_in this).turn < 2 ^ 64
      → counting (selector_in (ordered order old end this other gap image).first) (selector_in (ordered order old end this other gap image).second) ≡ Some (selector_in other)
  counts_new order old end gap image also turn small = elim (cases_eq (selector_in this).gate 1) [
    | inl is ↦ both order is
    | inr shut ↦ alone order shut
  ]
    where
      both : (b : Bool) → (selector_in this).gate ≡ 1 → counting (selector_in (ordered b old end this other gap image).first) (selector_in (ordered b old end this other gap image).second) ≡ Some (selector_in other)
      both false is = new_counts (selector_in this) (selector_in other) is also turn
      both true is = new_first (selector_in this) (selector_in other) is also turn small

      alone : (b : Bool) → (selector_in this).gate ≢ 1 → counting (selector_in (ordered b old end this other gap image).first) (selector_in (ordered b old end this other gap image).second) ≡ Some (selector_in other)
      alone false shut = new_alone (selector_in this) (selector_in other) shut also
      alone true shut = old_counts (selector_in other) (selector_in this) also shut

-- The bytes of an open selector and of a closed one that names a new area, the present area and the new one, and what follows each.
pub record IsTurning (old : List (List ℕ)) (on numbers gap image new_gap new_image : List ℕ) (payloads : List (List ℕ)) (rest more : List ℕ) : Type 0 where
  pub own : AllByRecursion IsOwn old
  pub near : 8 + length (frames old) + 15 < 2 ^ 64
  pub long_on : length on ≡ 16
  pub long_numbers : length numbers ≡ 16
  pub here : (selector_in (1 ∷ on)).place ≡ 8 + length (frames old) + 15 + 34 + length gap
  pub there : (selector_in (1 ∷ numbers)).place ≡ 8 + length (frames old) + 15 + 34 + length new_gap
  pub turn : (selector_in (1 ∷ numbers)).turn ≡ next_turn (selector_in (1 ∷ on)).turn
  pub small_turn : (selector_in (1 ∷ on)).turn < 2 ^ 64
  pub fits : AllByRecursion IsPayload payloads
  pub small : length image < 2 ^ 64
  pub small_new : length new_image < 2 ^ 64
  pub tails : tail_of gap image payloads rest ≡ tail_of new_gap new_image [] more

module _ (file end : ℕ) (shut_end : end ≢ 1) (old : List (List ℕ)) (on numbers gap image new_gap new_image : List ℕ) (payloads : List (List ℕ)) (rest more : List ℕ) (t : IsTurning old on numbers gap image new_gap new_image payloads rest more) where
  long_by : (h : ℕ) (l : List ℕ) → length l ≡ 16 → length (h ∷ l) ≡ 17
  long_by h l long = omega (arith, long)

  -- the present area counts while the gate of the other selector is not 1, and so does the new one once it is
  present_is : (order : Bool) (h : ℕ) → h ≢ 1 → IsArea (ordered order old end (1 ∷ on) (h ∷ numbers) gap image)
  present_is false h shut = record { own = t.own; named = selector_in (1 ∷ on); counts = counts_old (1 ∷ on) (h ∷ numbers) false old end gap image refl shut; place = t.here; first = long_by 1 on t.long_on; second = long_by h numbers t.long_numbers; shut = shut_end; near = t.near; small = t.small }
  present_is true h shut = record { own = t.own; named = selector_in (1 ∷ on); counts = counts_old (1 ∷ on) (h ∷ numbers) true old end gap image refl shut; place = t.here; first = long_by h numbers t.long_numbers; second = long_by 1 on t.long_on; shut = shut_end; near = t.near; small = t.small }

  pub next_is : (order : Bool) (h : ℕ) → IsArea (ordered order old end (h ∷ on) (1 ∷ numbers) new_gap new_image)
  next_is false h = record { own = t.own; named = selector_in (1 ∷ numbers); counts = counts_new (h ∷ on) (1 ∷ numbers) false old end new_gap new_image refl t.turn t.small_turn; place = t.there; first = long_by h on t.long_on; second = long_by 1 numbers t.long_numbers; shut = shut_end; near = t.near; small = t.small_new }
  next_is true h = record { own = t.own; named = selector_in (1 ∷ numbers); counts = counts_new (h ∷ on) (1 ∷ numbers) true old end new_gap new_image refl t.turn t.small_turn; place = t.there; first = long_by 1 numbers t.long_numbers; second = long_by h on t.long_on; shut = shut_end; near = t.near; small = t.small_new }

  -- once the gate of the old selector is shut, the log stands on the new area
  pub next_whole : (order : Bool) → IsWholeArea (ordered order old end (0 ∷ on) (1 ∷ numbers) new_gap new_image)
  next_whole false = record { is = next_is false 0; first = inl refl; second = inr refl }
  next_whole true = record { is = next_is true 0; first = inr refl; second = inl refl }

  pub next_bytes : (order : Bool) (h : ℕ) → file_by file order old end (h ∷ on) (1 ∷ numbers) (tail_of gap image payloads rest) ≡ on_area file (ordered order old end (h ∷ on) (1 ∷ numbers) new_gap new_image) [] more
  next_bytes order h = ap (file_by file order old end (h ∷ on) (1 ∷ numbers)) t.tails ∙ as_area file order old end (h ∷ on) (1 ∷ numbers) new_gap new_image [] more

  -- While the gate of the closed selector is opened, a crash leaves a log on the present area or on the new one.
  pub opening : (order : Bool) (h : ℕ) → Always file (IsBetween (holding (Some (area_start (ordered order old end (1 ∷ on) (0 ∷ numbers) gap image))) payloads) new_image) (file_by file order old end (1 ∷ on) (h ∷ numbers) (tail_of gap image payloads rest))
  opening false =
      turns file (λ h. file_by file false old end (1 ∷ on) (h ∷ numbers) (tail_of gap image payloads rest)) (λ h. ordered false old end (1 ∷ on) (h ∷ numbers) gap image) (λ h. ordered false old end (1 ∷ on) (h ∷ numbers) new_gap new_image) payloads rest more t.fits (λ h. refl) (λ h. long_by 1 on t.long_on) (λ h. long_by h numbers t.long_numbers) (present_is false) (next_is false 1) (λ h. as_area file false old end (1 ∷ on) (h ∷ numbers) gap image payloads rest) (next_bytes false 1)
      (λ x y. always_second file old (8 + length (frames old) + 15) end numbers (tail_of gap image payloads rest) t.own refl t.near shut_end t.long_numbers (1 ∷ on) (long_by 1 on t.long_on) (inr refl) x y)
  opening true =
      turns file (λ h. file_by file true old end (1 ∷ on) (h ∷ numbers) (tail_of gap image payloads rest)) (λ h. ordered true old end (1 ∷ on) (h ∷ numbers) gap image) (λ h. ordered true old end (1 ∷ on) (h ∷ numbers) new_gap new_image) payloads rest more t.fits (λ h. refl) (λ h. long_by h numbers t.long_numbers) (λ h. long_by 1 on t.long_on) (present_is true) (next_is true 1) (λ h. as_area file true old end (1 ∷ on) (h ∷ numbers) gap image payloads rest) (next_bytes true 1)
      (λ x y. always_first file old (8 + length (frames old) + 15) end numbers (tail_of gap image payloads rest) t.own refl t.near shut_end t.long_numbers (1 ∷ on) (long_by 1 on t.long_on) (inr refl) x y)

  either : (at : ℕ) (bytes : List ℕ) → Always file (IsBetween (since at new_image []) new_image) bytes → Always file (λ x. (n : ℕ) × (x ≡ since n new_image [])) bytes
  either at bytes = always_weaker file bytes (λ x is. elim is [
    | inl same ↦ (at, same)
    | inr other ↦ other
  ])

  -- While the gate of the old selector is shut, a crash leaves a log on the new area.
  pub closing : (order : Bool) (h : ℕ) → Always file (λ x. (n : ℕ) × (x ≡ since n new_image [])) (file_by file order old end (h ∷ on) (1 ∷ numbers) (tail_of gap image payloads rest))
  closing false h =
      either (8 + length (frames old) + 15 + 34 + length new_gap + 8) (file_by file false old end (h ∷ on) (1 ∷ numbers) (tail_of gap image payloads rest))
      (turns file (λ k. file_by file false old end (k ∷ on) (1 ∷ numbers) (tail_of gap image payloads rest)) (λ k. ordered false old end (k ∷ on) (1 ∷ numbers) new_gap new_image) (λ k. ordered false old end (k ∷ on) (1 ∷ numbers) new_gap new_image) [] more more tt (λ k. refl) (λ k. long_by k on t.long_on) (λ k. long_by 1 numbers t.long_numbers) (λ k shut. next_is false k) (next_is false 1) (next_bytes false) (next_bytes false 1)
      (λ x y. always_first file old (8 + length (frames old) + 15) end on (tail_of gap image payloads rest) t.own refl t.near shut_end t.long_on (1 ∷ numbers) (long_by 1 numbers t.long_numbers) (inr refl) x y) h)
  closing true h =
      either (8 + length (frames old) + 15 + 34 + length new_gap + 8) (file_by file true old end (h ∷ on) (1 ∷ numbers) (tail_of gap image payloads rest))
      (turns file (λ k. file_by file true old end (k ∷ on) (1 ∷ numbers) (tail_of gap image payloads rest)) (λ k. ordered true old end (k ∷ on) (1 ∷ numbers) new_gap new_image) (λ k. ordered true old end (k ∷ on) (1 ∷ numbers) new_gap new_image) [] more more tt (λ k. refl) (λ k. long_by 1 numbers t.long_numbers) (λ k. long_by k on t.long_on) (λ k shut. next_is true k) (next_is true 1) (next_bytes true) (next_bytes true 1)
      (λ x y. always_second file old (8 + length (frames old) + 15) end on (tail_of gap image payloads rest) t.own refl t.near shut_end t.long_on (1 ∷ numbers) (long_by 1 numbers t.long_numbers) (inr refl) x y) h)
