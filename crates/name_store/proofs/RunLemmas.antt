-- Runs of ids, and the ids in them.
use Rattle.std.proofs.Common.{◌≡◌, ℕ, ◌+◌, ◌-◌, ◌<◌, ◌≤◌, zero, suc, Bool, true, false, ◌&&◌, ◌||◌, ◌==◌, List, [], ◌∷◌, ◌++◌, Some, length, get_or, set, refl, sym, ap, subst, ◌∙◌, arith}
use Rattle.std.specs.Prelude.{nat_le, slice_get}
use Rattle.std.specs.List.{AllByRecursion}
use Rattle.std.specs.List.Sorted.{IsNonDecreasingBy, IsPartitionPoint}
use Rattle.std.proofs.lemmas.Bool.Decides.{nat_tests}
use Rattle.std.proofs.lemmas.Option.{get_or_from_slice_get}
use Rattle.std.proofs.lemmas.Bool.{le-leb, leb-true, leb-false, lt-leb}
use Rattle.name_store.specs.declared.runs.Run.{Run}
use Rattle.name_store.specs.Runs.{AreRunsRising, is_in, is_in_runs}

-- ---- the place of an id

-- the runs before the place begin at the id or before it, and those from it on after the id
abbrev pub PartedAt : List Run → ℕ → ℕ → Type 0
PartedAt runs id place = IsPartitionPoint (λ (run : Run). nat_le run.first id ≡ true) (λ (run : Run). nat_le run.first id ≡ false) runs place

parted-next : (r : Run) (rs : List Run) (id place : ℕ) → PartedAt (r ∷ rs) id (suc place) → PartedAt rs id place
parted-next r rs id place h = (λ k d low high. h.0 (suc k) d (omega arith) (omega arith), λ k d low high. h.1 (suc k) d (omega arith) (omega arith))

parted-first : (r : Run) (rs : List Run) (id : ℕ) → PartedAt (r ∷ rs) id 0 → PartedAt rs id 0
parted-first r rs id h = (λ k d low high. absurd (omega arith), λ k d low high. h.1 (suc k) d (omega arith) (omega arith))

later-at : (a : ℕ) (rs : List Run) (k : ℕ) (d : Run) → AllByRecursion (λ (later : Run). a < later.first) rs → k < length rs → a < (get_or rs k d).first
later-at a [] k d all b = absurd (omega arith)
later-at a (r ∷ rs) zero d all b = all.0
later-at a (r ∷ rs) (suc k) d all b = later-at a rs k d all.1 (omega arith)

pub firsts_rise : (runs : List Run) → AreRunsRising runs → IsNonDecreasingBy (λ run. run.first) runs
firsts_rise [] h i j d l b = absurd (omega arith)
firsts_rise (r ∷ rs) h zero zero d l b = omega arith
firsts_rise (r ∷ rs) h zero (suc j) d l b = omega (arith, h.0, later-at r.last rs j d h.1 (omega arith))
firsts_rise (r ∷ rs) h (suc i) zero d l b = absurd (omega arith)
firsts_rise (r ∷ rs) h (suc i) (suc j) d l b = firsts_rise rs h.2 i j d (omega arith) (omega arith)

-- where the last run begins at the id or before it, all do
pub parted_past : (runs : List Run) (id : ℕ) (run : Run) → AreRunsRising runs → Some run ≡ slice_get runs (length runs - 1) → run.first ≤ id → PartedAt runs id (length runs)
parted_past runs id run rise last le = (λ k d low high. begun k d high, λ k d low high. absurd (omega arith))
  where
    begun : (k : ℕ) (d : Run) → k < length runs → nat_le (get_or runs k d).first id ≡ true
    begun k d high =
        let least : (get_or runs k d).first ≤ (get_or runs (length runs - 1) d).first = firsts_rise runs rise k (length runs - 1) d (omega arith) (omega arith) in
        let same : (get_or runs (length runs - 1) d).first ≡ run.first = ap (λ (q : Run). q.first) (get_or_from_slice_get runs (length runs - 1) run d (sym last)) in
        le-leb (get_or runs k d).first id (omega (arith, least, same, le))

-- ---- whether a run has an id

before-run : (run : Run) (id : ℕ) (b : Bool) → id < run.first → (is_in id run || b) ≡ b
before-run run id b h = ap (λ (t : Bool). (t && nat_le id run.last) || b) (lt-leb run.first id h)

past-run : (run : Run) (id : ℕ) (b : Bool) → run.last < id → (is_in id run || b) ≡ b
past-run run id b h = ap (λ (t : Bool). (nat_le run.first id && t) || b) (lt-leb id run.last h) ∙ none (nat_le run.first id) b
  where
    none : (t b : Bool) → ((t && false) || b) ≡ b
    none true b = refl
    none false b = refl

-- no run has an id that is before all of them
pub none_before : (runs : List Run) (id : ℕ) → PartedAt runs id 0 → is_in_runs runs id ≡ false
none_before [] id h = refl
none_before (r ∷ rs) id h = before-run r id (is_in_runs rs id) (leb-false r.first id (h.1 0 r (omega arith) (omega arith))) ∙ none_before rs id (parted-first r rs id h)

or-false : (t : Bool) → (t || false) ≡ t
or-false true = refl
or-false false = refl

-- a run has the id exactly if the last one does that begins at the id or before it
pub in_last : (runs : List Run) (id k : ℕ) (d : Run) → AreRunsRising runs → k < length runs → PartedAt runs id (suc k) → is_in_runs runs id ≡ nat_le id (get_or runs k d).last
in_last [] id k d rise b h = absurd (omega arith)
in_last (r ∷ rs) id zero d rise b h =
    ap (λ (t : Bool). (t && nat_le id r.last) || is_in_runs rs id) (h.0 0 r (omega arith) (omega arith))
    ∙ ap (λ (t : Bool). nat_le id r.last || t) (none_before rs id (parted-next r rs id 0 h))
    ∙ or-false (nat_le id r.last)
in_last (r ∷ rs) id (suc k) d rise b h =
    let begun : (get_or rs k d).first ≤ id = leb-true (get_or rs k d).first id (h.0 (suc k) d (omega arith) (omega arith)) in
    let earlier : r.last < (get_or rs k d).first = later-at r.last rs k d rise.1 (omega arith) in
    past-run r id (is_in_runs rs id) (omega (arith, begun, earlier)) ∙ in_last rs id k d rise.2 (omega arith) (parted-next r rs id (suc k) h)

-- ---- one more id

-- the run with its end at the id
abbrev pub longer : Run → ℕ → Run
longer run id = record { first = run.first; last = id }

longer-has : (run : Run) (id x : ℕ) → run.first ≤ run.last → run.last + 1 ≡ id → is_in x (longer run id) ≡ ((id == x) || is_in x run)
longer-has run id x le next = grind (arith, nat_tests)

-- the order of two tests
swap-tests : (a b c : Bool) → (a || (b || c)) ≡ (b || (a || c))
swap-tests true true c = refl
swap-tests true false c = refl
swap-tests false b c = refl

assoc-tests : (a b c : Bool) → ((a || b) || c) ≡ (a || (b || c))
assoc-tests true b c = refl
assoc-tests false b c = refl

pub extended_has : (runs : List Run) (id k x : ℕ) (run : Run) → AreRunsRising runs → k < length runs → run ≡ get_or runs k run → run.last + 1 ≡ id
    → is_in_runs (set runs k (longer run id)) x ≡ ((id == x) || is_in_runs runs x)
extended_has [] id k x run rise b here next = absurd (omega arith)
extended_has (r ∷ rs) id zero x run rise b here next =
    subst (λ (q : Run). (is_in x (longer q id) || is_in_runs rs x) ≡ ((id == x) || (is_in x r || is_in_runs rs x))) (sym here)
    (ap (λ (t : Bool). t || is_in_runs rs x) (longer-has r id x rise.0 (subst (λ (q : Run). q.last + 1 ≡ id) here next)) ∙ assoc-tests (id == x) (is_in x r) (is_in_runs rs x))
extended_has (r ∷ rs) id (suc k) x run rise b here next =
    ap (λ (t : Bool). is_in x r || t) (extended_has rs id k x run rise.2 (omega arith) here next) ∙ swap-tests (is_in x r) (id == x) (is_in_runs rs x)

-- a test of the runs' beginnings holds of a list with one run longer
all-longer : (a id : ℕ) (rs : List Run) (k : ℕ) (run : Run) → k < length rs → run ≡ get_or rs k run → AllByRecursion (λ (later : Run). a < later.first) rs → AllByRecursion (λ (later : Run). a < later.first) (set rs k (longer run id))
all-longer a id [] k run b here all = absurd (omega arith)
all-longer a id (r ∷ rs) zero run b here all = (subst (λ (q : Run). a < q.first) (sym here) all.0, all.1)
all-longer a id (r ∷ rs) (suc k) run b here all = (all.0, all-longer a id rs k run (omega arith) here all.1)

all-after : (a : ℕ) (rs : List Run) → PartedAt rs a 0 → AllByRecursion (λ (later : Run). a < later.first) rs
all-after a [] h = tt
all-after a (r ∷ rs) h = (leb-false r.first a (h.1 0 r (omega arith) (omega arith)), all-after a rs (parted-first r rs a h))

pub extended_rises : (runs : List Run) (id k : ℕ) (run : Run) → AreRunsRising runs → k < length runs → PartedAt runs id (suc k) → run ≡ get_or runs k run → run.last + 1 ≡ id
    → AreRunsRising (set runs k (longer run id))
extended_rises [] id k run rise b h here next = absurd (omega arith)
extended_rises (r ∷ rs) id zero run rise b h here next =
    subst (λ (q : Run). (q.first ≤ id) × AllByRecursion (λ (later : Run). id < later.first) rs × AreRunsRising rs) (sym here)
    (leb-true r.first id (h.0 0 r (omega arith) (omega arith)), all-after id rs (parted-next r rs id 0 h), rise.2)
extended_rises (r ∷ rs) id (suc k) run rise b h here next =
    (rise.0, all-longer r.last id rs k run (omega arith) here rise.1, extended_rises rs id k run rise.2 (omega arith) (parted-next r rs id (suc k) h) here next)

-- a run of the id alone
abbrev pub alone : ℕ → Run
alone id = record { first = id; last = id }

alone-has : (id x : ℕ) → is_in x (alone id) ≡ (id == x)
alone-has id x = grind (arith, nat_tests)

pub appended_has : (runs : List Run) (id x : ℕ) → is_in_runs (runs ++ alone id ∷ []) x ≡ ((id == x) || is_in_runs runs x)
appended_has [] id x = ap (λ (t : Bool). t || false) (alone-has id x)
appended_has (r ∷ rs) id x = ap (λ (t : Bool). is_in x r || t) (appended_has rs id x) ∙ swap-tests (is_in x r) (id == x) (is_in_runs rs x)

all-appended : (a id : ℕ) (rs : List Run) → a < id → AllByRecursion (λ (later : Run). a < later.first) rs → AllByRecursion (λ (later : Run). a < later.first) (rs ++ alone id ∷ [])
all-appended a id [] h all = (h, tt)
all-appended a id (r ∷ rs) h all = (all.0, all-appended a id rs h all.1)

-- a run that begins at an id or before it, and lacks it, ends before it
ends-before : (run : Run) (id : ℕ) (b : Bool) → nat_le run.first id ≡ true → (is_in id run || b) ≡ false → (run.last < id) × (b ≡ false)
ends-before run id b begun free = go (nat_le id run.last) refl (sym (ap (λ (t : Bool). (t && nat_le id run.last) || b) begun) ∙ free)
  where
    go : (t : Bool) → nat_le id run.last ≡ t → (t || b) ≡ false → (run.last < id) × (b ≡ false)
    go true e f = absurd cc
    go false e f = (leb-false id run.last e, f)

pub appended_rises : (runs : List Run) (id : ℕ) → AreRunsRising runs → PartedAt runs id (length runs) → is_in_runs runs id ≡ false → AreRunsRising (runs ++ alone id ∷ [])
appended_rises [] id rise h free = (omega arith, tt, tt)
appended_rises (r ∷ rs) id rise h free =
    let rest = ends-before r id (is_in_runs rs id) (h.0 0 r (omega arith) (omega arith)) free in
    (rise.0, all-appended r.last id rs rest.0 rise.1, appended_rises rs id rise.2 (parted-next r rs id (length rs) h) rest.1)
