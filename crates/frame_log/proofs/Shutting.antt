-- An opening shuts the gate of a selector that is torn, while the end gate may be torn too: whatever becomes of that byte, the file may be
-- read in no other ways than before.
use Rattle.std.proofs.Common.{◌≡◌, ◌≢◌, ◌⊎◌, ℕ, ◌+◌, ◌-◌, ◌≤◌, ◌==◌, Bool, true, false, List, [], ◌∷◌, ◌++◌, length, take, drop, set, Some, refl, sym, ◌∙◌, ap, subst, arith, length-append, inl, inr}
use Rattle.std.specs.Prelude.{if◌then◌else◌, nat_le, nat_lt}
use Rattle.std.specs.List.{list_any}
use Rattle.std.specs.Int.{w64, from_be_bytes}
use Rattle.std.proofs.lemmas.List.{set-append_right, drop-drop, drop_at}
use Rattle.std.proofs.lemmas.Bool.Decides.{nat_tests}
use Rattle.std.proofs.lemmas.Bool.{cases_eq}
use Rattle.frame_log.specs.Format.{Found, LogReading, NoLog, frames_at}
use Rattle.frame_log.specs.FormatTwo.{AreTorn, Content, Damage, Holds, IsTorn, MayRead, Selector, WholeReading, area_in, byte_at, end_gate, first_byte, gates_of, log_in, on_counting, sized_area, started, with_ones}
use Rattle.frame_log.proofs.Torn.{one_of_three}

-- ---- a log in an area has its end gate behind the place of the area

started_far : (place : ℕ) (image : List ℕ) (r : LogReading) (c : Content) → started (place + 8) image r ≡ Holds c → place ≤ end_gate c
started_far place image (NoLog at) c is = absurd (cc is)
started_far place image (Found payloads gate) c is =
    let same : record { start = Some (record { place = place + 8; image = image }); payloads = payloads } ≡ c = cc is in
    subst (λ (x : Content). place ≤ end_gate x) same (omega arith)

sized_far : (n place size : ℕ) (rest : List ℕ) (c : Content) → sized_area n place size rest ≡ Holds c → place ≤ end_gate c
sized_far n place size rest c is = go (nat_lt size (length rest)) is
  where
    go : (b : Bool) → (if b then started (place + 8) (take size rest) (frames_at n (place + 8 + size) (drop size rest)) else Damage place) ≡ Holds c → place ≤ end_gate c
    go true is = started_far place (take size rest) (frames_at n (place + 8 + size) (drop size rest)) c is
    go false is = absurd (cc is)

area_far : (n place : ℕ) (bytes : List ℕ) (c : Content) → area_in n place bytes ≡ Holds c → place ≤ end_gate c
area_far n place bytes c is = go (nat_le 8 (length bytes)) is
  where
    go : (b : Bool) → (if b then sized_area n place (from_be_bytes w64 (take 8 bytes)) (drop 8 bytes) else Damage place) ≡ Holds c → place ≤ end_gate c
    go true is = sized_far n place (from_be_bytes w64 (take 8 bytes)) (drop 8 bytes) c is
    go false is = absurd (cc is)

counted_far : (q : ℕ) (bytes : List ℕ) (s : Selector) (c : Content) → on_counting q bytes (Some s) ≡ Holds c → q + 34 ≤ end_gate c
counted_far q bytes s c is = go (nat_le (q + 34) s.place) refl is
  where
    go : (b : Bool) → nat_le (q + 34) s.place ≡ b → (if b then area_in (length bytes) s.place (drop s.place bytes) else Damage s.place) ≡ Holds c → q + 34 ≤ end_gate c
    go true le is = let far = area_far (length bytes) s.place (drop s.place bytes) c is in let long : q + 34 ≤ s.place = grind (arith, nat_tests) in omega (arith, far, long)
    go false le is = absurd (cc is)

-- ---- a file by the gate byte of one of its selectors, and by what follows the selectors

second_of : (x y z : ℕ) → list_any (λ g. g == y) (x ∷ y ∷ z ∷ []) ≡ true
second_of x y z = grind (arith, nat_tests)

first_of : (x y z : ℕ) → list_any (λ g. g == x) (x ∷ y ∷ z ∷ []) ≡ true
first_of x y z = grind (arith, nat_tests)

among_three : (q at other end : ℕ) → (at ≡ q) × (other ≡ q + 17) ⊎ (at ≡ q + 17) × (other ≡ q) → list_any (λ g. g == at) (q ∷ (q + 17) ∷ end ∷ []) ≡ true
among_three q at other end (inl w) = subst (λ (k : ℕ). list_any (λ g. g == k) (q ∷ (q + 17) ∷ end ∷ []) ≡ true) (sym w.0) (first_of q (q + 17) end)
among_three q at other end (inr w) = subst (λ (k : ℕ). list_any (λ g. g == k) (q ∷ (q + 17) ∷ end ∷ []) ≡ true) (sym w.0) (second_of q (q + 17) end)

which_of : (q at other end k : ℕ) → (at ≡ q) × (other ≡ q + 17) ⊎ (at ≡ q + 17) × (other ≡ q) → (k ≡ q) ⊎ ((k ≡ q + 17) ⊎ (k ≡ end)) → (k ≡ at) ⊎ ((k ≡ other) ⊎ (k ≡ end))
which_of q at other end k (inl w) (inl is) = inl (is ∙ sym w.0)
which_of q at other end k (inl w) (inr (inl is)) = inr (inl (is ∙ sym w.1))
which_of q at other end k (inr w) (inl is) = inr (inl (is ∙ sym w.1))
which_of q at other end k (inr w) (inr (inl is)) = inl (is ∙ sym w.0)
which_of q at other end k which (inr (inr is)) = inr (inr is)

-- `fixed h` are its bytes up to the end of the selectors. The gate at `at` is the byte h; the one at `other` is open.
module _ (file q at other : ℕ) (fixed : ℕ → List ℕ) (size : (h : ℕ) → length (fixed h) ≡ q + 34) (which : (at ≡ q) × (other ≡ q + 17) ⊎ (at ≡ q + 17) × (other ≡ q))
    (opens : (h : ℕ) (tail : List ℕ) → set (fixed h ++ tail) at 1 ≡ fixed 1 ++ tail) (still : (h : ℕ) (tail : List ℕ) → set (fixed h ++ tail) other 1 ≡ fixed h ++ tail) (here : (h : ℕ) (tail : List ℕ) → byte_at at (fixed h ++ tail) ≡ h)
    (s : Selector) (reads : (h : ℕ) (tail : List ℕ) → h ≢ 1 → log_in file (fixed h ++ tail) ≡ on_counting q (fixed h ++ tail) (Some s))
    (gates_are : (h : ℕ) (tail : List ℕ) (c : Content) → log_in file (fixed h ++ tail) ≡ Holds c → gates_of file (fixed h ++ tail) ≡ q ∷ (q + 17) ∷ end_gate c ∷ [])
    (no_gates : (h at : ℕ) (tail : List ℕ) → log_in file (fixed h ++ tail) ≡ Damage at → gates_of file (fixed h ++ tail) ≡ []) where
  -- behind the selectors is the tail
  behind_is : (h : ℕ) (tail : List ℕ) (k : ℕ) → q + 34 ≤ k → drop k (fixed h ++ tail) ≡ drop (k - (q + 34)) tail
  behind_is h tail k le =
      let at_2 : k ≡ length (fixed h) + (k - (q + 34)) = omega (arith, size h, le) in
      (λ i. drop (at_2 i) (fixed h ++ tail)) ∙ sym (drop-drop (k - (q + 34)) (length (fixed h)) (fixed h ++ tail)) ∙ ap (drop (k - (q + 34))) (drop_at (fixed h) tail (length (fixed h)) refl)

  same_length : (h g : ℕ) (tail : List ℕ) → length (fixed h ++ tail) ≡ length (fixed g ++ tail)
  same_length h g tail = omega (arith, length-append (fixed h) tail, length-append (fixed g) tail, size h, size g)

  same_area : (h g : ℕ) (tail : List ℕ) → on_counting q (fixed h ++ tail) (Some s) ≡ on_counting q (fixed g ++ tail) (Some s)
  same_area h g tail = go (nat_le (q + 34) s.place) refl
    where
      go : (t : Bool) → nat_le (q + 34) s.place ≡ t → (if t then area_in (length (fixed h ++ tail)) s.place (drop s.place (fixed h ++ tail)) else Damage s.place) ≡ (if t then area_in (length (fixed g ++ tail)) s.place (drop s.place (fixed g ++ tail)) else Damage s.place)
      go true le =
          let far : q + 34 ≤ s.place = grind (arith, nat_tests) in
          let there : drop s.place (fixed h ++ tail) ≡ drop s.place (fixed g ++ tail) = behind_is h tail s.place far ∙ sym (behind_is g tail s.place far) in
          λ i. area_in (same_length h g tail i) s.place (there i)
      go false le = refl

  same_reading : (h g : ℕ) (tail : List ℕ) → h ≢ 1 → g ≢ 1 → log_in file (fixed h ++ tail) ≡ log_in file (fixed g ++ tail)
  same_reading h g tail shut also = reads h tail shut ∙ same_area h g tail ∙ sym (reads g tail also)

  -- a gate of the tail read as 1
  set_tail : (h : ℕ) (tail : List ℕ) (k : ℕ) → q + 34 ≤ k → set (fixed h ++ tail) k 1 ≡ fixed h ++ set tail (k - (q + 34)) 1
  set_tail h tail k le = set-append_right (fixed h) tail (q + 34) k 1 (size h) le

  torn_here : (g : ℕ) (tail : List ℕ) → g ≢ 0 → (c : Content) → log_in file (fixed g ++ tail) ≡ Holds c → IsTorn file (fixed g ++ tail) at
  torn_here g tail some c found = record {
    gate = ap (list_any (λ x. x == at)) (gates_are g tail c found) ∙ among_three q at other (end_gate c) which;
    not_shut = λ none. some (sym (here g tail) ∙ none);
  }

  module _ (g closed : ℕ) (some : g ≢ 0) (shut : g ≢ 1) (also : closed ≢ 1) where
    shutting : (ks : List ℕ) (tail : List ℕ) → AreTorn file ks (fixed closed ++ tail) → (r : WholeReading) → log_in file (with_ones ks (fixed closed ++ tail)) ≡ r → MayRead file (fixed g ++ tail) r
    shutting [] tail torn r is = record { opened = []; torn = tt; reads = same_reading g closed tail shut also ∙ is }
    shutting (k ∷ ks) tail torn r is = on (shutting ks) (log_in file (fixed closed ++ tail)) refl
      where
        on : ((t : List ℕ) → AreTorn file ks (fixed closed ++ t) → (s : WholeReading) → log_in file (with_ones ks (fixed closed ++ t)) ≡ s → MayRead file (fixed g ++ t) s) → (x : WholeReading) → log_in file (fixed closed ++ tail) ≡ x → MayRead file (fixed g ++ tail) r
        on further (Damage place) found =
            let no : false ≡ true = sym (ap (list_any (λ x. x == k)) (no_gates closed place tail found)) ∙ torn.0.gate in
            absurd (cc no)
        on further (Holds c) found =
            by_place (which_of q at other (end_gate c) k which (one_of_three q (q + 17) (end_gate c) k (sym (ap (list_any (λ x. x == k)) (gates_are closed tail c found)) ∙ torn.0.gate)))
          where
            found_also : log_in file (fixed g ++ tail) ≡ Holds c
            found_also = same_reading g closed tail shut also ∙ found

            far : q + 34 ≤ end_gate c
            far = counted_far q (fixed closed ++ tail) s c (sym (reads closed tail also) ∙ found)

            by_place : (k ≡ at) ⊎ ((k ≡ other) ⊎ (k ≡ end_gate c)) → MayRead file (fixed g ++ tail) r
            by_place (inl is_at) =
                let both : set (fixed closed ++ tail) k 1 ≡ set (fixed g ++ tail) k 1 = (λ i. set (fixed closed ++ tail) (is_at i) 1) ∙ opens closed tail ∙ sym (opens g tail) ∙ (λ i. set (fixed g ++ tail) (sym is_at i) 1) in
                record {
                  opened = k ∷ ks;
                  torn = (subst (IsTorn file (fixed g ++ tail)) (sym is_at) (torn_here g tail some c found_also), subst (AreTorn file ks) both torn.1);
                  reads = ap (λ (l : List ℕ). log_in file (with_ones ks l)) (sym both) ∙ is;
                }
            by_place (inr (inl is_other)) =
                let back : set (fixed closed ++ tail) k 1 ≡ fixed closed ++ tail = ap (λ (x : ℕ). set (fixed closed ++ tail) x 1) is_other ∙ still closed tail in
                further tail (subst (AreTorn file ks) back torn.1) r (sym (ap (λ (l : List ℕ). log_in file (with_ones ks l)) back) ∙ is)
            by_place (inr (inr is_end)) =
                let le : q + 34 ≤ k = omega (arith, is_end, far) in
                let t : List ℕ = set tail (k - (q + 34)) 1 in
                let m = further t (subst (AreTorn file ks) (set_tail closed tail k le) torn.1) r (sym (ap (λ (l : List ℕ). log_in file (with_ones ks l)) (set_tail closed tail k le)) ∙ is) in
                let one_byte : byte_at k (fixed g ++ tail) ≡ byte_at k (fixed closed ++ tail) = ap first_byte (behind_is g tail k le ∙ sym (behind_is closed tail k le)) in
                let among : list_any (λ x. x == k) (gates_of file (fixed g ++ tail)) ≡ true = ap (list_any (λ x. x == k)) (gates_are g tail c found_also ∙ sym (gates_are closed tail c found)) ∙ torn.0.gate in
                record {
                  opened = k ∷ m.opened;
                  torn = (record { gate = among; not_shut = λ none. torn.0.not_shut (sym one_byte ∙ none) }, subst (AreTorn file m.opened) (sym (set_tail g tail k le)) m.torn);
                  reads = ap (λ (l : List ℕ). log_in file (with_ones m.opened l)) (set_tail g tail k le) ∙ m.reads;
                }

  -- whatever the torn gate becomes, where the file is a log as it is
  pub closing_selector : (g becomes : ℕ) → g ≢ 0 → g ≢ 1 → (tail : List ℕ) (c : Content) → log_in file (fixed g ++ tail) ≡ Holds c → (r : WholeReading) → MayRead file (fixed becomes ++ tail) r → MayRead file (fixed g ++ tail) r
  closing_selector g becomes some shut tail c found r m = elim (cases_eq becomes 1) [
    | inl is ↦
        let same : fixed becomes ++ tail ≡ set (fixed g ++ tail) at 1 = ap (λ (x : ℕ). fixed x ++ tail) is ∙ sym (opens g tail) in
        record {
          opened = at ∷ m.opened;
          torn = (torn_here g tail some c found, subst (AreTorn file m.opened) same m.torn);
          reads = ap (λ (l : List ℕ). log_in file (with_ones m.opened l)) (sym same) ∙ m.reads;
        }
    | inr closed ↦ shutting g becomes some shut closed m.opened tail m.torn r m.reads
  ]
