-- What a log may be read as after a crash, by the bytes before its first frame.
use Rattle.std.proofs.Common.{◌≡◌, ◌≢◌, ◌⊎◌, ℕ, zero, suc, ◌+◌, ◌<◌, ◌≤◌, ◌^◌, ◌==◌, true, List, [], ◌∷◌, ◌++◌, length, drop, set, Option, Some, None, refl, sym, ◌∙◌, ap, subst, arith, append_assoc, length-append, inl, inr}
use Rattle.std.specs.List.{AllByRecursion, list_any}
use Rattle.std.specs.Int.{w64, to_be_bytes}
use Rattle.std.proofs.lemmas.List.{append-nil, drop_at, set_at}
use Rattle.std.proofs.lemmas.Bool.Decides.{nat_tests}
use Rattle.std.proofs.lemmas.Bool.{cases_eq, cases_lt}
use Rattle.frame_log.specs.Format.{IsPayload, behind, frames, front, magic}
use Rattle.frame_log.specs.Bases.{Area, IsArea, IsBase, IsBaseOf, IsWhole, MayFollow, base_bytes, front_on, area_at, area_base, area_start, behind_selectors, moved_on, moving_file, selectors_at, start_of}
use Rattle.frame_log.specs.FormatTwo.{Always, Content, Holds, IsOwn, IsTorn, LogStart, Selector, adding, area_in, byte_at, end_gate, first_byte, gates, holding, gates_of, log_in, moved, moving_at, on_counting, selector_in, since, since_nothing}
use Rattle.frame_log.proofs.Reading.{all_push, frames_long, front_long, joined}
use Rattle.frame_log.proofs.Movings.{area_reads, long_by, moves_by, reads_by}
use Rattle.frame_log.proofs.Torn.{always_one, always_two, one_of_three}
use Rattle.frame_log.proofs.Closing as closing

-- ---- bytes that frames are read after

byte_between : (before after : List ℕ) (byte k : ℕ) → length before ≡ k → byte_at k (before ++ byte ∷ after) ≡ byte
byte_between before after byte k is = ap first_byte (drop_at before (byte ∷ after) k is)

-- a gate that is open is still open once it is read as 1
set_open : (base more : List ℕ) (k : ℕ) → k < length base → byte_at k base ≡ 1 → set (base ++ more) k 1 ≡ base ++ more
set_open [] more k short is = absurd (omega arith)
set_open (b ∷ base) more zero short is = ap (λ (x : ℕ). x ∷ (base ++ more)) (sym is)
set_open (b ∷ base) more (suc k) short is = ap (λ (l : List ℕ). b ∷ l) (set_open base more k (omega arith) is)

module _ (file : ℕ) (start : Option LogStart) (base : List ℕ) (on : IsBaseOf file start base) where
  -- with an open gate of the base read as 1 the file is the same
  still : (payloads : List (List ℕ)) (more : List ℕ) (k : ℕ) → k < length base → byte_at k base ≡ 1 → set (front_on base payloads ++ more) k 1 ≡ front_on base payloads ++ more
  still payloads more k short is =
      let group = append_assoc base (frames payloads) more in
      ap (λ (l : List ℕ). set l k 1) group ∙ set_open base (frames payloads ++ more) k short is ∙ sym group

  -- and so it is with any gate of a log whose end gate is shut
  pub shut_stays : (payloads : List (List ℕ)) (rest : List ℕ) → AllByRecursion (MayFollow start) payloads → (k : ℕ) → IsTorn file (front_on base payloads ++ 0 ∷ rest) k → set (front_on base payloads ++ 0 ∷ rest) k 1 ≡ front_on base payloads ++ 0 ∷ rest
  shut_stays payloads rest own k torn = elim (on.torn payloads 0 rest own (λ no. absurd (cc no)) k torn) [
    | inl end ↦ absurd (torn.not_shut (ap (λ (x : ℕ). byte_at x (front_on base payloads ++ 0 ∷ rest)) end ∙ byte_between (front_on base payloads) rest 0 (length (front_on base payloads)) refl))
    | inr open_one ↦ still payloads (0 ∷ rest) k open_one.0 open_one.1
  ]

  -- a log whose end gate is shut has just these payloads
  pub always_shut : (payloads : List (List ℕ)) (rest : List ℕ) → AllByRecursion (MayFollow start) payloads → Always file (λ x. x ≡ holding start payloads) (front_on base payloads ++ 0 ∷ rest)
  always_shut payloads rest own =
      always_one file (front_on base payloads ++ 0 ∷ rest) (holding start payloads) (shut_stays payloads rest own) (on.reads payloads 0 rest own (λ no. absurd (cc no)))

  -- and with a payload behind a gate that may be torn it has these payloads, or this one too
  pub always_ready : (payloads : List (List ℕ)) (payload : List ℕ) (gate : ℕ) (rest : List ℕ) → AllByRecursion (MayFollow start) payloads → MayFollow start payload
      → Always file (λ x. (x ≡ holding start payloads) ⊎ (x ≡ adding (holding start payloads) payload)) (front_on base payloads ++ gate ∷ (behind payload ++ 0 ∷ rest))
  always_ready payloads payload gate rest own fits =
      always_two file (λ h. front_on base payloads ++ h ∷ later) (length (front_on base payloads)) (λ h. set_at (front_on base payloads) h later 1 (length (front_on base payloads)) refl) stays
      (holding start payloads) (adding (holding start payloads) payload) (λ h shut. on.reads payloads h later own shut)
      (ap (log_in file) with_one ∙ on.reads (payloads ++ payload ∷ []) 0 rest (all_push (MayFollow start) payloads payload own fits) (λ no. absurd (cc no))) gate
    where
      later : List ℕ
      later = behind payload ++ 0 ∷ rest

      with_one : front_on base payloads ++ 1 ∷ later ≡ front_on base (payloads ++ payload ∷ []) ++ 0 ∷ rest
      with_one = joined base payloads payload rest

      stays : (h k : ℕ) → IsTorn file (front_on base payloads ++ h ∷ later) k → (k ≡ length (front_on base payloads)) ⊎ (set (front_on base payloads ++ h ∷ later) k 1 ≡ front_on base payloads ++ h ∷ later)
      stays h k torn = elim (cases_eq h 1) [
        | inl one ↦
            let same : front_on base payloads ++ h ∷ later ≡ front_on base (payloads ++ payload ∷ []) ++ 0 ∷ rest = ap (λ (x : ℕ). front_on base payloads ++ x ∷ later) one ∙ with_one in
            inr (ap (λ (l : List ℕ). set l k 1) same ∙ shut_stays (payloads ++ payload ∷ []) rest (all_push (MayFollow start) payloads payload own fits) k (subst (λ (l : List ℕ). IsTorn file l k) same torn) ∙ sym same)
        | inr shut ↦ elim (on.torn payloads h later own shut k torn) [
          | inl end ↦ inl end
          | inr open_one ↦ inr (still payloads (h ∷ later) k open_one.0 open_one.1)
        ]
      ]

-- ---- the magic

module _ (file : ℕ) (payloads : List (List ℕ)) (gate : ℕ) (rest : List ℕ) (own : AllByRecursion IsOwn payloads) (shut : gate ≢ 1) where
  long_enough : 9 < length (front file payloads ++ gate ∷ rest) → 1 ≤ length (frames payloads) + length rest
  long_enough long = omega (arith, long, length-append (front file payloads) (gate ∷ rest), front_long file payloads)

  no_payloads : (ps : List (List ℕ)) → length (front file ps ++ gate ∷ rest) ≤ 9 → ps ≡ []
  no_payloads [] short = refl
  no_payloads (p ∷ ps) short = absurd (omega (arith, short, length-append (front file (p ∷ ps)) (gate ∷ rest), front_long file (p ∷ ps), frames_long (p ∷ ps)))

  magic_holds : log_in file (front file payloads ++ gate ∷ rest) ≡ Holds (holding None payloads)
  magic_holds = elim (cases_lt 9 (length (front file payloads ++ gate ∷ rest))) [
    | inl long ↦ closing.reads file payloads rest own (long_enough long) gate shut
    | inr short ↦
        let now : log_in file (front file payloads ++ gate ∷ rest) ≡ Holds (holding None []) = grind (arith, nat_tests) in
        now ∙ ap (λ (ps : List (List ℕ)). Holds (holding None ps)) (sym (no_payloads payloads short))
  ]

  magic_torn : (k : ℕ) → IsTorn file (front file payloads ++ gate ∷ rest) k → k ≡ length (front file payloads)
  magic_torn k torn = elim (cases_lt 9 (length (front file payloads ++ gate ∷ rest))) [
    | inl long ↦
        closing.only_one (8 + length (frames payloads)) k (sym (ap (list_any (λ g. g == k)) (closing.its_gates file payloads rest own (long_enough long) gate shut)) ∙ torn.gate)
        ∙ sym (front_long file payloads)
    | inr short ↦
        let none : gates_of file (front file payloads ++ gate ∷ rest) ≡ [] = grind (arith, nat_tests) in
        let no : list_any (λ g. g == k) [] ≡ true = sym (ap (list_any (λ g. g == k)) none) ∙ torn.gate in
        absurd (cc no)
  ]

-- a log that was never compacted
pub reads_on_magic : (file : ℕ) → IsBaseOf file None (magic file)
reads_on_magic file = record {
  reads = λ payloads gate rest own shut. magic_holds file payloads gate rest own shut;
  torn = λ payloads gate rest own shut k torn. inl (magic_torn file payloads gate rest own shut k torn);
}

-- ---- an area

pub moved_more : (file : ℕ) (old : List (List ℕ)) (q end : ℕ) (a b tail more : List ℕ) → moved_on file old q end a b tail ++ more ≡ moved_on file old q end a b (tail ++ more)
moved_more file old q end a b tail more =
    append_assoc (front file old) (1 ∷ (behind (moved q) ++ end ∷ (a ++ (b ++ tail)))) more
    ∙ ap (λ (l : List ℕ). front file old ++ 1 ∷ l)
    (append_assoc (behind (moved q)) (end ∷ (a ++ (b ++ tail))) more
    ∙ ap (λ (l : List ℕ). behind (moved q) ++ end ∷ l) (append_assoc a (b ++ tail) more ∙ ap (λ (l : List ℕ). a ++ l) (append_assoc b tail more)))

-- the bytes before the first selector, and those before the second one
pub before_first : ℕ → List (List ℕ) → ℕ → ℕ → List ℕ
before_first file old q end = front file old ++ 1 ∷ (behind (moved q) ++ end ∷ [])

pub before_second : ℕ → List (List ℕ) → ℕ → ℕ → List ℕ → List ℕ
before_second file old q end a = front file old ++ 1 ∷ (behind (moved q) ++ end ∷ a)

-- the gate of a selector is its first byte
gate_of : (s more : List ℕ) → length s ≡ 17 → first_byte (s ++ more) ≡ (selector_in s).gate
gate_of [] more long = absurd (omega arith)
gate_of (b ∷ s) more long = refl

module _ (file : ℕ) (old : List (List ℕ)) (q end : ℕ) (a b tail : List ℕ) (place : q ≡ 8 + length (frames old) + 15) (long_a : length a ≡ 17) (long_b : length b ≡ 17) where
  pub split_first : moved_on file old q end a b tail ≡ before_first file old q end ++ (a ++ (b ++ tail))
  unfolding before_first
  split_first =
      ap (λ (l : List ℕ). front file old ++ 1 ∷ l) (sym (append_assoc (behind (moved q)) (end ∷ []) (a ++ (b ++ tail))))
      ∙ sym (append_assoc (front file old) (1 ∷ (behind (moved q) ++ end ∷ [])) (a ++ (b ++ tail)))

  pub split_second : moved_on file old q end a b tail ≡ before_second file old q end a ++ (b ++ tail)
  unfolding before_second
  split_second =
      ap (λ (l : List ℕ). front file old ++ 1 ∷ l) (sym (append_assoc (behind (moved q)) (end ∷ a) (b ++ tail)))
      ∙ sym (append_assoc (front file old) (1 ∷ (behind (moved q) ++ end ∷ a)) (b ++ tail))

  pub first_at : length (before_first file old q end) ≡ q
  unfolding before_first
  first_at = omega (arith, length-append (front file old) (1 ∷ (behind (moved q) ++ end ∷ [])), length-append (behind (moved q)) (end ∷ []), front_long file old, place)

  pub second_at : length (before_second file old q end a) ≡ q + 17
  unfolding before_second
  second_at = omega (arith, length-append (front file old) (1 ∷ (behind (moved q) ++ end ∷ a)), length-append (behind (moved q)) (end ∷ a), front_long file old, place, long_a)

  first_gate_byte : byte_at q (moved_on file old q end a b tail) ≡ (selector_in a).gate
  first_gate_byte = ap (byte_at q) split_first ∙ ap first_byte (drop_at (before_first file old q end) (a ++ (b ++ tail)) q first_at) ∙ gate_of a (b ++ tail) long_a

  second_gate_byte : byte_at (q + 17) (moved_on file old q end a b tail) ≡ (selector_in b).gate
  second_gate_byte = ap (byte_at (q + 17)) split_second ∙ ap first_byte (drop_at (before_second file old q end a) (b ++ tail) (q + 17) second_at) ∙ gate_of b tail long_b

  pub moved_long : length (moved_on file old q end a b tail) ≡ q + 34 + length tail
  moved_long = omega (arith, ap length split_second, length-append (before_second file old q end a) (b ++ tail), second_at, length-append b tail, long_b)

open_one : (gate : ℕ) → (gate ≡ 0) ⊎ (gate ≡ 1) → gate ≢ 0 → gate ≡ 1
open_one gate (inl shut) some = absurd (some shut)
open_one gate (inr is) some = is

module _ (file : ℕ) (area : Area) (is : IsArea area) (payloads : List (List ℕ)) (gate : ℕ) (rest : List ℕ) (own : AllByRecursion IsPayload payloads) (shut : gate ≢ 1) where
  q : ℕ
  q = selectors_at area

  -- what follows the selectors: the bytes up to the frames, the frames and the end gate
  tail : List ℕ
  tail = behind_selectors area ++ (frames payloads ++ gate ∷ rest)

  in_area : List ℕ
  in_area = to_be_bytes w64 (length area.image) ++ (area.image ++ (frames payloads ++ gate ∷ rest))

  whole : List ℕ
  whole = moved_on file area.old q area.end area.first area.second tail

  bytes_are : front_on (area_base file area) payloads ++ gate ∷ rest ≡ whole
  unfolding whole tail q
  bytes_are =
      append_assoc (area_base file area) (frames payloads) (gate ∷ rest)
      ∙ moved_more file area.old (selectors_at area) area.end area.first area.second (behind_selectors area) (frames payloads ++ gate ∷ rest)

  tail_is : tail ≡ area.gap ++ in_area
  unfolding tail in_area
  tail_is =
      append_assoc area.gap (to_be_bytes w64 (length area.image) ++ area.image) (frames payloads ++ gate ∷ rest)
      ∙ ap (λ (l : List ℕ). area.gap ++ l) (append_assoc (to_be_bytes w64 (length area.image)) area.image (frames payloads ++ gate ∷ rest))

  -- the bytes from the area on
  area_bytes : drop (area_at area) whole ≡ in_area
  unfolding whole q
  area_bytes =
      let before : List ℕ = before_second file area.old (selectors_at area) area.end area.first in
      let head : List ℕ = before ++ (area.second ++ area.gap) in
      let split : moved_on file area.old (selectors_at area) area.end area.first area.second tail ≡ head ++ in_area =
      split_second file area.old (selectors_at area) area.end area.first area.second tail refl is.first is.second
      ∙ ap (λ (l : List ℕ). before ++ (area.second ++ l)) tail_is
      ∙ ap (λ (l : List ℕ). before ++ l) (sym (append_assoc area.second area.gap in_area))
      ∙ sym (append_assoc before (area.second ++ area.gap) in_area) in
      let size : length head ≡ area_at area =
      omega (arith, length-append before (area.second ++ area.gap), second_at file area.old (selectors_at area) area.end area.first area.second tail refl is.first is.second, length-append area.second area.gap, is.second) in
      ap (λ (l : List ℕ). drop (area_at area) l) split ∙ drop_at head in_area (area_at area) size

  long : length payloads < length whole
  unfolding whole tail q
  long =
      omega (arith, moved_long file area.old q area.end area.first area.second tail refl is.first is.second, length-append (behind_selectors area) (frames payloads ++ gate ∷ rest), length-append (frames payloads) (gate ∷ rest), frames_long payloads)

  read_area : (s : Selector) → s.place ≡ area_at area → on_counting q whole (Some s) ≡ Holds (holding (Some (area_start area)) payloads)
  unfolding in_area q
  read_area s place =
      let far : selectors_at area + 34 ≤ s.place = omega (arith, place) in
      let there : on_counting (selectors_at area) whole (Some s) ≡ area_in (length whole) s.place (drop s.place whole) = grind (arith, nat_tests) in
      there
      ∙ (λ i. area_in (length whole) (place i) (drop (place i) whole))
      ∙ ap (area_in (length whole) (area_at area)) area_bytes
      ∙ area_reads (length whole) (area_at area) area.image payloads gate rest own shut is.small long

  area_holds : log_in file whole ≡ Holds (holding (Some (area_start area)) payloads)
  unfolding whole q
  area_holds =
      reads_by file area.old (selectors_at area) area.end area.first area.second tail is.own refl is.near is.first is.second is.shut
      ∙ ap (on_counting (selectors_at area) whole) is.counts
      ∙ read_area is.named is.place

  area_gates : gates_of file whole ≡ q ∷ (q + 17) ∷ end_gate (holding (Some (area_start area)) payloads) ∷ []
  unfolding whole q
  area_gates =
      let longer = long_by file area.old (selectors_at area) area.end area.first area.second tail is.own refl is.near is.first is.second is.shut in
      let all : gates_of file whole ≡ gates (moving_at (length whole) 8 (drop 8 whole)) (log_in file whole) = grind (arith, nat_tests) in
      all ∙ (λ i. gates (moves_by file area.old (selectors_at area) area.end area.first area.second tail is.own refl is.near is.first is.second is.shut i) (area_holds i))

  base_long : length (area_base file area) ≡ area_at area + 8 + length area.image
  base_long =
      omega (arith, moved_long file area.old (selectors_at area) area.end area.first area.second (behind_selectors area) refl is.first is.second, length-append area.gap (to_be_bytes w64 (length area.image) ++ area.image), length-append (to_be_bytes w64 (length area.image)) area.image)

  -- the gates that may be torn: those of the selectors, and the end gate
  area_torn : (k : ℕ) → IsTorn file whole k → (k ≡ q) ⊎ ((k ≡ q + 17) ⊎ (k ≡ length (front_on (area_base file area) payloads)))
  area_torn k torn =
      elim (one_of_three q (q + 17) (end_gate (holding (Some (area_start area)) payloads)) k (sym (ap (list_any (λ g. g == k)) area_gates) ∙ torn.gate)) [
        | inl at ↦ inl at
        | inr (inl at) ↦ inr (inl at)
        | inr (inr at) ↦ inr (inr (omega (arith, at, base_long, length-append (area_base file area) (frames payloads))))
      ]

  -- whole ones change nothing if they are read as 1
  whole_torn : IsWhole area.first → IsWhole area.second → (k : ℕ) → IsTorn file whole k → (k ≡ length (front_on (area_base file area) payloads)) ⊎ ((k < length (area_base file area)) × (byte_at k (area_base file area) ≡ 1))
  unfolding whole q
  whole_torn first second k torn =
      let size = base_long in
      elim (area_torn k torn) [
        | inl at ↦
            let here : byte_at k whole ≡ (selector_in area.first).gate = ap (λ (x : ℕ). byte_at x whole) at ∙ first_gate_byte file area.old (selectors_at area) area.end area.first area.second tail refl is.first is.second in
            let there : byte_at k (area_base file area) ≡ (selector_in area.first).gate = ap (λ (x : ℕ). byte_at x (area_base file area)) at ∙ first_gate_byte file area.old (selectors_at area) area.end area.first area.second (behind_selectors area) refl is.first is.second in
            inr (omega (arith, at, size), there ∙ open_one (selector_in area.first).gate first (λ no. torn.not_shut (here ∙ no)))
        | inr (inl at) ↦
            let here : byte_at k whole ≡ (selector_in area.second).gate = ap (λ (x : ℕ). byte_at x whole) at ∙ second_gate_byte file area.old (selectors_at area) area.end area.first area.second tail refl is.first is.second in
            let there : byte_at k (area_base file area) ≡ (selector_in area.second).gate = ap (λ (x : ℕ). byte_at x (area_base file area)) at ∙ second_gate_byte file area.old (selectors_at area) area.end area.first area.second (behind_selectors area) refl is.first is.second in
            inr (omega (arith, at, size), there ∙ open_one (selector_in area.second).gate second (λ no. torn.not_shut (here ∙ no)))
        | inr (inr at) ↦ inl at
      ]

-- the same of an area whose other gate may be torn, with its bytes written out

pub area_split : (file : ℕ) (area : Area) → IsArea area → (payloads : List (List ℕ)) (gate : ℕ) (rest : List ℕ) → AllByRecursion IsPayload payloads → gate ≢ 1
    → front_on (area_base file area) payloads ++ gate ∷ rest ≡ moved_on file area.old (selectors_at area) area.end area.first area.second (behind_selectors area ++ (frames payloads ++ gate ∷ rest))
unfolding whole tail q
area_split file area is payloads gate rest own shut = bytes_are file area is payloads gate rest own shut

pub area_is_read : (file : ℕ) (area : Area) → IsArea area → (payloads : List (List ℕ)) (gate : ℕ) (rest : List ℕ) → AllByRecursion IsPayload payloads → gate ≢ 1
    → log_in file (front_on (area_base file area) payloads ++ gate ∷ rest) ≡ Holds (holding (Some (area_start area)) payloads)
area_is_read file area is payloads gate rest own shut = ap (log_in file) (bytes_are file area is payloads gate rest own shut) ∙ area_holds file area is payloads gate rest own shut

pub area_base_long : (file : ℕ) (area : Area) → IsArea area → length (area_base file area) ≡ area_at area + 8 + length area.image
area_base_long file area is = base_long file area is [] 0 [] tt (λ no. absurd (cc no))

-- a log that was compacted, whichever of its selectors counts
pub reads_on_area : (file : ℕ) (area : Area) → IsArea area → IsWhole area.first → IsWhole area.second → IsBaseOf file (Some (area_start area)) (area_base file area)
reads_on_area file area is first second = record {
  reads = λ payloads gate rest own shut. ap (log_in file) (bytes_are file area is payloads gate rest own shut) ∙ area_holds file area is payloads gate rest own shut;
  torn = λ payloads gate rest own shut k torn. whole_torn file area is payloads gate rest own shut first second k (subst (λ (l : List ℕ). IsTorn file l k) (bytes_are file area is payloads gate rest own shut) torn);
}

-- ---- the first compaction

-- While the gate of the frame is written that says where the log goes on, a crash leaves a log of the payloads or of the image.
pub always_moving : (file : ℕ) (area : Area) → IsArea area → IsWhole area.first → IsWhole area.second → (gate : ℕ) (rest : List ℕ)
    → Always file (λ x. (x ≡ since_nothing area.old) ⊎ (x ≡ since (area_at area + 8) area.image [])) (moving_file file area gate rest)
always_moving file area is first second gate rest =
    always_two file (λ h. front file area.old ++ h ∷ later) (length (front file area.old)) (λ h. set_at (front file area.old) h later 1 (length (front file area.old)) refl) stays
    (since_nothing area.old) (since (area_at area + 8) area.image []) (λ h shut. magic_holds file area.old h later is.own shut) (ap (log_in file) area_file ∙ on.reads [] 0 rest tt (λ no. absurd (cc no))) gate
  where
    later : List ℕ
    later = behind (moved (selectors_at area)) ++ area.end ∷ (area.first ++ (area.second ++ (behind_selectors area ++ 0 ∷ rest)))

    on : IsBaseOf file (Some (area_start area)) (area_base file area)
    on = reads_on_area file area is first second

    area_file : front file area.old ++ 1 ∷ later ≡ front_on (area_base file area) [] ++ 0 ∷ rest
    area_file =
        sym (moved_more file area.old (selectors_at area) area.end area.first area.second (behind_selectors area) (0 ∷ rest))
        ∙ ap (λ (l : List ℕ). l ++ 0 ∷ rest) (sym (append-nil (area_base file area)))

    stays : (h k : ℕ) → IsTorn file (front file area.old ++ h ∷ later) k → (k ≡ length (front file area.old)) ⊎ (set (front file area.old ++ h ∷ later) k 1 ≡ front file area.old ++ h ∷ later)
    stays h k torn = elim (cases_eq h 1) [
      | inl one ↦
          let same : front file area.old ++ h ∷ later ≡ front_on (area_base file area) [] ++ 0 ∷ rest = ap (λ (x : ℕ). front file area.old ++ x ∷ later) one ∙ area_file in
          inr (ap (λ (l : List ℕ). set l k 1) same ∙ shut_stays file (Some (area_start area)) (area_base file area) on [] rest tt k (subst (λ (l : List ℕ). IsTorn file l k) same torn) ∙ sym same)
      | inr shut ↦ inl (magic_torn file area.old h later is.own shut k torn)
    ]

-- ---- a later compaction

-- a gate that is open is the same once it is read as 1
set_one : (bytes : List ℕ) (k : ℕ) → byte_at k bytes ≡ 1 → set bytes k 1 ≡ bytes
set_one [] zero is = absurd (cc is)
set_one [] (suc k) is = absurd (cc is)
set_one (b ∷ bytes) zero is = ap (λ (x : ℕ). x ∷ bytes) (sym is)
set_one (b ∷ bytes) (suc k) is = ap (λ (l : List ℕ). b ∷ l) (set_one bytes k is)

-- A file by the gate byte of one of its selectors; the other one is whole, and so are the end gates of the areas.
module _ (file : ℕ) (old : List (List ℕ)) (q end at other : ℕ) (a b : ℕ → List ℕ) (tail : List ℕ) (own : AllByRecursion IsOwn old) (place : q ≡ 8 + length (frames old) + 15) (small : q < 2 ^ 64) (closed : end ≢ 1) (long_a : (h : ℕ) → length (a h) ≡ 17) (long_b : (h : ℕ) → length (b h) ≡ 17) (which : (at ≡ q) × (other ≡ q + 17) ⊎ (at ≡ q + 17) × (other ≡ q)) where
  by_gate : ℕ → List ℕ
  by_gate h = moved_on file old q end (a h) (b h) tail

  gates_by : (h : ℕ) (c : Content) → log_in file (by_gate h) ≡ Holds c → gates_of file (by_gate h) ≡ q ∷ (q + 17) ∷ end_gate c ∷ []
  unfolding by_gate
  gates_by h c is =
      let long = long_by file old q end (a h) (b h) tail own place small (long_a h) (long_b h) closed in
      let all : gates_of file (by_gate h) ≡ gates (moving_at (length (by_gate h)) 8 (drop 8 (by_gate h))) (log_in file (by_gate h)) = grind (arith, nat_tests) in
      all ∙ (λ i. gates (moves_by file old q end (a h) (b h) tail own place small (long_a h) (long_b h) closed i) (is i))

  torn_by : (h : ℕ) (c : Content) → log_in file (by_gate h) ≡ Holds c → (k : ℕ) → IsTorn file (by_gate h) k → (k ≡ at) ⊎ ((k ≡ other) ⊎ (k ≡ end_gate c))
  torn_by h c is k torn =
      elim (one_of_three q (q + 17) (end_gate c) k (sym (ap (list_any (λ g. g == k)) (gates_by h c is)) ∙ torn.gate)) [
        | inl first ↦ elim which [
          | inl w ↦ inl (first ∙ sym w.0)
          | inr w ↦ inr (inl (first ∙ sym w.1))
        ]
        | inr (inl second) ↦ elim which [
          | inl w ↦ inr (inl (second ∙ sym w.1))
          | inr w ↦ inl (second ∙ sym w.0)
        ]
        | inr (inr end) ↦ inr (inr end)
      ]

  module _ (opens : (h : ℕ) → set (by_gate h) at 1 ≡ by_gate 1) (whole_other : (h : ℕ) → (byte_at other (by_gate h) ≡ 0) ⊎ (byte_at other (by_gate h) ≡ 1)) (before after : Content) (shut : (h : ℕ) → h ≢ 1 → log_in file (by_gate h) ≡ Holds before) (now : log_in file (by_gate 1) ≡ Holds after) (ends : (h : ℕ) (c : Content) → log_in file (by_gate h) ≡ Holds c → byte_at (end_gate c) (by_gate h) ≡ 0) where
    stays_by : (h : ℕ) (c : Content) → log_in file (by_gate h) ≡ Holds c → (k : ℕ) → IsTorn file (by_gate h) k → (k ≡ at) ⊎ (set (by_gate h) k 1 ≡ by_gate h)
    stays_by h c is k torn = elim (torn_by h c is k torn) [
      | inl here ↦ inl here
      | inr (inl there) ↦ elim (whole_other h) [
        | inl zero_there ↦ absurd (torn.not_shut (ap (λ (x : ℕ). byte_at x (by_gate h)) there ∙ zero_there))
        | inr one_there ↦ inr (set_one (by_gate h) k (ap (λ (x : ℕ). byte_at x (by_gate h)) there ∙ one_there))
      ]
      | inr (inr end) ↦ absurd (torn.not_shut (ap (λ (x : ℕ). byte_at x (by_gate h)) end ∙ ends h c is))
    ]

    held_by : (h : ℕ) → (c : Content) × (log_in file (by_gate h) ≡ Holds c)
    held_by h = elim (cases_eq h 1) [
      | inl one ↦ (after, ap (λ (x : ℕ). log_in file (by_gate x)) one ∙ now)
      | inr other_byte ↦ (before, shut h other_byte)
    ]

    turns_by : (h : ℕ) → Always file (λ x. (x ≡ before) ⊎ (x ≡ after)) (by_gate h)
    turns_by = always_two file by_gate at opens (λ h k torn. stays_by h (held_by h).0 (held_by h).1 k torn) before after shut now

-- While the gate of the second selector is written or shut, a crash leaves what the file holds with it open or without it.
module _ (file : ℕ) (old : List (List ℕ)) (q end : ℕ) (numbers : List ℕ) (tail : List ℕ) (own : AllByRecursion IsOwn old) (place : q ≡ 8 + length (frames old) + 15) (small : q < 2 ^ 64) (closed : end ≢ 1) (long : length numbers ≡ 16) (other : List ℕ) (long_other : length other ≡ 17) (whole_other : IsWhole other) (before after : Content) where
  long_gate : (h : ℕ) → length (h ∷ numbers) ≡ 17
  long_gate h = omega (arith, long)

  pub always_second : ((h : ℕ) → h ≢ 1 → log_in file (moved_on file old q end other (h ∷ numbers) tail) ≡ Holds before) → log_in file (moved_on file old q end other (1 ∷ numbers) tail) ≡ Holds after
      → ((h : ℕ) (c : Content) → log_in file (moved_on file old q end other (h ∷ numbers) tail) ≡ Holds c → byte_at (end_gate c) (moved_on file old q end other (h ∷ numbers) tail) ≡ 0)
      → (h : ℕ) → Always file (λ x. (x ≡ before) ⊎ (x ≡ after)) (moved_on file old q end other (h ∷ numbers) tail)
  unfolding by_gate
  always_second shut now ends =
      turns_by file old q end (q + 17) q (λ h. other) (λ h. h ∷ numbers) tail own place small closed (λ h. long_other) long_gate (inr (refl, refl)) opens wholly before after shut now ends
    where
      opens : (h : ℕ) → set (moved_on file old q end other (h ∷ numbers) tail) (q + 17) 1 ≡ moved_on file old q end other (1 ∷ numbers) tail
      opens h =
          ap (λ (l : List ℕ). set l (q + 17) 1) (split_second file old q end other (h ∷ numbers) tail place long_other (long_gate h))
          ∙ set_at (before_second file old q end other) h (numbers ++ tail) 1 (q + 17) (second_at file old q end other (h ∷ numbers) tail place long_other (long_gate h))
          ∙ sym (split_second file old q end other (1 ∷ numbers) tail place long_other (long_gate 1))

      wholly : (h : ℕ) → (byte_at q (moved_on file old q end other (h ∷ numbers) tail) ≡ 0) ⊎ (byte_at q (moved_on file old q end other (h ∷ numbers) tail) ≡ 1)
      wholly h =
          let is = first_gate_byte file old q end other (h ∷ numbers) tail place long_other (long_gate h) in
          elim whole_other [
            | inl none ↦ inl (is ∙ none)
            | inr one ↦ inr (is ∙ one)
          ]

  -- and the same of the first one
  pub always_first : ((h : ℕ) → h ≢ 1 → log_in file (moved_on file old q end (h ∷ numbers) other tail) ≡ Holds before) → log_in file (moved_on file old q end (1 ∷ numbers) other tail) ≡ Holds after
      → ((h : ℕ) (c : Content) → log_in file (moved_on file old q end (h ∷ numbers) other tail) ≡ Holds c → byte_at (end_gate c) (moved_on file old q end (h ∷ numbers) other tail) ≡ 0)
      → (h : ℕ) → Always file (λ x. (x ≡ before) ⊎ (x ≡ after)) (moved_on file old q end (h ∷ numbers) other tail)
  unfolding by_gate
  always_first shut now ends =
      turns_by file old q end q (q + 17) (λ h. h ∷ numbers) (λ h. other) tail own place small closed long_gate (λ h. long_other) (inl (refl, refl)) opens wholly before after shut now ends
    where
      opens : (h : ℕ) → set (moved_on file old q end (h ∷ numbers) other tail) q 1 ≡ moved_on file old q end (1 ∷ numbers) other tail
      opens h =
          ap (λ (l : List ℕ). set l q 1) (split_first file old q end (h ∷ numbers) other tail place (long_gate h) long_other)
          ∙ set_at (before_first file old q end) h (numbers ++ (other ++ tail)) 1 q (first_at file old q end (h ∷ numbers) other tail place (long_gate h) long_other)
          ∙ sym (split_first file old q end (1 ∷ numbers) other tail place (long_gate 1) long_other)

      wholly : (h : ℕ) → (byte_at (q + 17) (moved_on file old q end (h ∷ numbers) other tail) ≡ 0) ⊎ (byte_at (q + 17) (moved_on file old q end (h ∷ numbers) other tail) ≡ 1)
      wholly h =
          let is = second_gate_byte file old q end (h ∷ numbers) other tail place (long_gate h) long_other in
          elim whole_other [
            | inl none ↦ inl (is ∙ none)
            | inr one ↦ inr (is ∙ one)
          ]

-- what a log stands on, whichever it is
pub reads_on_base : (file : ℕ) (base : Option Area) → IsBase base → IsBaseOf file (start_of base) (base_bytes file base)
reads_on_base file None is = reads_on_magic file
reads_on_base file (Some area) is = reads_on_area file area is.is is.first is.second
