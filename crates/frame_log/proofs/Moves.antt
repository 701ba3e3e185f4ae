-- A later compaction of a log, from its first write to the gate of the old selector.
use Rattle.std.proofs.Common.{◌≡◌, ◌≢◌, ◌⊎◌, ℕ, ◌+◌, ◌<◌, ◌≤◌, ◌^◌, Bool, true, false, not, List, [], ◌∷◌, ◌++◌, length, set, if◌then◌else◌, Option, Some, None, Result, Ok, Err, refl, sym, ◌∙◌, ap, subst, arith, inl, inr}
use Rattle.std.proofs.Math.Bridge.{le_prop}
use Rattle.std.proofs.Math.Logic.{∥∥₁_elim}
use Rattle.std.specs.Prelude.{IfOk, IfSome}
use Rattle.std.specs.List.{AllByRecursion}
use Rattle.std.specs.Int.{w64, to_be_bytes}
use Rattle.std.proofs.lemmas.Bool.{cases_lt}
use Rattle.std.proofs.lemmas.List.{append-nil}
use Rattle.hk_base.specs.Disk.{DiskState, LeavesOnly, Only, RunOn, Torn, written}
use Rattle.hk_base.proofs.Runs.{Going, weaker}
use Rattle.frame_log.specs.Format.{IsPayload, frames}
use Rattle.frame_log.specs.FormatTwo.{Always, IsOwn, Selector, counting, holding, next_turn, selector_in}
use Rattle.frame_log.specs.Bases.{Area, IsWholeArea, area_base, area_start, front_of, front_on}
use Rattle.frame_log.specs.Compacts.{IsBetween, ShutAt, area_bytes, other_at}
use Rattle.frame_log.specs.Stands.{IsShut, Knows, NamesArea, StandsOn}
use Rattle.frame_log.specs.Writes.{IsApart, WritesOn}
use Rattle.frame_log.specs.declared.log.Log.{Log}
use Rattle.frame_log.specs.declared.log.Selected.{Selected}
use Rattle.frame_log.proofs.Bases.{always_shut, reads_on_area}
use Rattle.frame_log.proofs.Keepings.{HasBoth, IsKept, behind_both, both_end, both_gap, kept_end, kept_gap, kept_numbers, long_by, numbers_written, other_set, this_set}
use Rattle.frame_log.proofs.Goings.{going}
use Rattle.frame_log.proofs.Migrations.{always_weaker}
use Rattle.frame_log.proofs.Movings.{selector_reads}
use Rattle.frame_log.proofs.Turnings.{IsTurning, as_area, closing, counts_old, end_at, file_by, next_bytes, next_whole, on_area, opening, ordered, tail_of}

-- a selector by its gate
sel_split : (bytes : List ℕ) (gate : ℕ) → length bytes ≡ 17 → (selector_in bytes).gate ≡ gate → (numbers : List ℕ) × (length numbers ≡ 16) × (bytes ≡ gate ∷ numbers)
sel_split [] gate long is = absurd (omega arith)
sel_split (b ∷ bytes) gate long is = (bytes, omega (arith, long), ap (λ (x : ℕ). x ∷ bytes) is)

-- an area by the order of its selectors
pub as_ordered : (order : Bool) (area : Area) → length area.first ≡ 17 → length area.second ≡ 17 → (selector_in (if order then area.second else area.first)).gate ≡ 1 → (selector_in (if order then area.first else area.second)).gate ≡ 0
    → (on : List ℕ) × (numbers : List ℕ) × (length on ≡ 16) × (length numbers ≡ 16) × (area ≡ ordered order area.old area.end (1 ∷ on) (0 ∷ numbers) area.gap area.image)
as_ordered false area one two counts alone =
    let a = sel_split area.first 1 one counts in
    let b = sel_split area.second 0 two alone in
    (a.0, b.0, a.1, b.1, λ i. record { old = area.old; end = area.end; first = a.2 i; second = b.2 i; gap = area.gap; image = area.image })
as_ordered true area one two counts alone =
    let a = sel_split area.second 1 two counts in
    let b = sel_split area.first 0 one alone in
    (a.0, b.0, a.1, b.1, λ i. record { old = area.old; end = area.end; first = b.2 i; second = a.2 i; gap = area.gap; image = area.image })

-- A log on an area, its open selector and the other one.
pub record IsPresent (old : List (List ℕ)) (end : ℕ) (on numbers gap image : List ℕ) (payloads : List (List ℕ)) : Type 0 where
  pub own : AllByRecursion IsOwn old
  pub near : 8 + length (frames old) + 15 < 2 ^ 64
  pub shut : end ≢ 1
  pub long_on : length on ≡ 16
  pub long_numbers : length numbers ≡ 16
  pub here : (selector_in (1 ∷ on)).place ≡ 8 + length (frames old) + 15 + 34 + length gap
  pub small_turn : (selector_in (1 ∷ on)).turn < 2 ^ 64
  pub fits : AllByRecursion IsPayload payloads
  pub small : length image < 2 ^ 64

area_by : (order : Bool) (old : List (List ℕ)) (end : ℕ) (on numbers gap between image : List ℕ) (payloads : List (List ℕ)) → IsPresent old end on numbers gap image payloads → (other : List ℕ) → length other ≡ 16 → length between ≡ length gap → IsWholeArea (ordered order old end (1 ∷ on) (0 ∷ other) between image)
area_by false old end on numbers gap between image payloads p other sixteen as_long = record {
  is = record { own = p.own; named = selector_in (1 ∷ on); counts = counts_old (1 ∷ on) (0 ∷ other) false old end between image refl (λ no. absurd (cc no)); place = omega (arith, p.here, as_long); first = long_by 1 on p.long_on; second = long_by 0 other sixteen; shut = p.shut; near = p.near; small = p.small };
  first = inr refl;
  second = inl refl;
}
area_by true old end on numbers gap between image payloads p other sixteen as_long = record {
  is = record { own = p.own; named = selector_in (1 ∷ on); counts = counts_old (1 ∷ on) (0 ∷ other) true old end between image refl (λ no. absurd (cc no)); place = omega (arith, p.here, as_long); first = long_by 0 other sixteen; second = long_by 1 on p.long_on; shut = p.shut; near = p.near; small = p.small };
  first = inl refl;
  second = inr refl;
}

start_by : (order : Bool) (old : List (List ℕ)) (end : ℕ) (this other also gap between image : List ℕ) → length between ≡ length gap → area_start (ordered order old end this other between image) ≡ area_start (ordered order old end this also gap image)
start_by false old end this other also gap between image as_long = λ i. record { place = 8 + length (frames old) + 15 + 34 + as_long i + 8; image = image }
start_by true old end this other also gap between image as_long = λ i. record { place = 8 + length (frames old) + 15 + 34 + as_long i + 8; image = image }

module _ (file : ℕ) (order : Bool) (old : List (List ℕ)) (end : ℕ) (on numbers gap image : List ℕ) (payloads : List (List ℕ)) (p : IsPresent old end on numbers gap image payloads) where
  abbrev pub Kept : List ℕ → Type 0
  Kept = IsKept file order old end (1 ∷ on) gap image payloads (long_by 1 on p.long_on)

  -- a log at rest
  pub kept_shut : (c : List ℕ) → IsShut (front_on (area_base file (ordered order old end (1 ∷ on) (0 ∷ numbers) gap image)) payloads) c → Kept c
  kept_shut c shut = record { numbers = numbers; between = gap; rest = shut.0; sixteen = p.long_numbers; as_long = refl; is = shut.1 ∙ sym (as_area file order old end (1 ∷ on) (0 ∷ numbers) gap image payloads shut.0) }

  -- holds what it held
  pub kept_always : (c : List ℕ) → Kept c → Always file (λ x. x ≡ holding (Some (area_start (ordered order old end (1 ∷ on) (0 ∷ numbers) gap image))) payloads) c
  kept_always c k =
      let area : Area = ordered order old end (1 ∷ on) (0 ∷ k.numbers) k.between image in
      let whole = area_by order old end on numbers gap k.between image payloads p k.numbers k.sixteen k.as_long in
      let start = start_by order old end (1 ∷ on) (0 ∷ k.numbers) (0 ∷ numbers) gap k.between image k.as_long in
      let bytes : c ≡ on_area file area payloads k.rest = k.is ∙ as_area file order old end (1 ∷ on) (0 ∷ k.numbers) k.between image payloads k.rest in
      subst (λ (l : List ℕ). Always file (λ x. x ≡ holding (Some (area_start (ordered order old end (1 ∷ on) (0 ∷ numbers) gap image))) payloads) l) (sym bytes)
      (subst (λ s. Always file (λ x. x ≡ holding (Some s) payloads) (on_area file area payloads k.rest)) start
      (always_shut file (Some (area_start area)) (area_base file area) (reads_on_area file area whole.is whole.first whole.second) payloads k.rest p.fits))

  -- where the new area may be
  abbrev pub MayLie : ℕ → ℕ → Type 0
  MayLie place size = ((place ≡ behind_both old) × (size + 9 ≤ length gap)) ⊎ (place ≡ behind_both old + length gap + 8 + length image + length (frames payloads) + 1)

  pub kept_area : (place size : ℕ) (d c : List ℕ) → MayLie place size → Kept d → Torn place (size + 9) d c → Kept c
  kept_area place size d c (inl lies) k torn = kept_gap file order old end (1 ∷ on) gap image payloads (long_by 1 on p.long_on) place (size + 9) d c lies.0 lies.1 k torn
  kept_area place size d c (inr lies) k torn = kept_end file order old end (1 ∷ on) gap image payloads (long_by 1 on p.long_on) place (size + 9) d c lies k torn

  abbrev pub Both : List ℕ → List ℕ → ℕ → List ℕ → Type 0
  Both next img place bytes = HasBoth file order old end (1 ∷ on) next image img payloads (length gap) place bytes

  pub both_area : (place : ℕ) (img d c : List ℕ) → MayLie place (length img) → IsShut (front_on (area_base file (ordered order old end (1 ∷ on) (0 ∷ numbers) gap image)) payloads) d → c ≡ written place (area_bytes img) d → Both numbers img place c
  both_area place img d c (inl lies) shut wrote =
      both_gap file order old end (1 ∷ on) numbers gap image img payloads shut.0 (long_by 1 on p.long_on) p.long_numbers place d c lies.0 lies.1 (shut.1 ∙ sym (as_area file order old end (1 ∷ on) (0 ∷ numbers) gap image payloads shut.0)) wrote
  both_area place img d c (inr lies) shut wrote =
      both_end file order old end (1 ∷ on) numbers gap image img payloads shut.0 (long_by 1 on p.long_on) p.long_numbers place d c lies (shut.1 ∙ sym (as_area file order old end (1 ∷ on) (0 ∷ numbers) gap image payloads shut.0)) wrote

  pub both_numbers : (place at : ℕ) (img next d c : List ℕ) → length next ≡ 16 → at ≡ other_at order (8 + length (frames old) + 15) + 1 → Both numbers img place d → c ≡ written at next d → Both next img place c
  both_numbers place at img next d c sixteen is b wrote = record {
    gap = b.gap;
    new_gap = b.new_gap;
    rest = b.rest;
    more = b.more;
    as_long = b.as_long;
    at = b.at;
    tails = b.tails;
    is = wrote ∙ numbers_written file order old end (1 ∷ on) numbers next (tail_of b.gap image payloads b.rest) d (long_by 1 on p.long_on) p.long_numbers sixteen 0 at is b.is;
  }

  -- the new turn and place
  abbrev pub next_numbers : ℕ → List ℕ
  next_numbers place = to_be_bytes w64 (next_turn (selector_in (1 ∷ on)).turn) ++ to_be_bytes w64 place

  pub turning : (place : ℕ) (img c : List ℕ) → place < 2 ^ 64 → length img < 2 ^ 64 → (b : Both (next_numbers place) img place c) → IsTurning old on (next_numbers place) b.gap image b.new_gap img payloads b.rest b.more
  turning place img c near small b =
      let next : Selector = record { gate = 1; turn = next_turn (selector_in (1 ∷ on)).turn; place = place } in
      let reads : selector_in (1 ∷ next_numbers place) ≡ next = selector_reads next (omega arith) near in
      record {
        own = p.own;
        near = p.near;
        long_on = p.long_on;
        long_numbers = refl;
        here = omega (arith, p.here, b.as_long);
        there = ap (λ s. s.place) reads ∙ b.at;
        turn = ap (λ s. s.turn) reads;
        small_turn = p.small_turn;
        fits = p.fits;
        small = p.small;
        small_new = small;
        tails = b.tails;
      }

  -- ---- runs

  abbrev pub Held : List ℕ → List ℕ → Type 0
  Held img c = Always file (IsBetween (holding (Some (area_start (ordered order old end (1 ∷ on) (0 ∷ numbers) gap image))) payloads) img) c

  kept_held : (img c : List ℕ) → Kept c → Held img c
  kept_held img c k = always_weaker file c (λ x same. inl same) (kept_always c k)

  pub leaves_area : (place size at : ℕ) (d new : DiskState) → MayLie place size → ShutAt (front_on (area_base file (ordered order old end (1 ∷ on) (0 ∷ numbers) gap image)) payloads) file at d → WritesOn file place (size + 9) d new → (c : List ℕ) → new.leaves file c → Kept c
  leaves_area place size at d new lies shut w c h = let from = w.leaves c h in kept_area place size from.0 c lies (kept_shut from.0 (shut.leaves from.0 from.1)) from.2

  pub go_area : (img : List ℕ) (place size at : ℕ) (d new : DiskState) → MayLie place size → ShutAt (front_on (area_base file (ordered order old end (1 ∷ on) (0 ∷ numbers) gap image)) payloads) file at d → RunOn file d new → WritesOn file place (size + 9) d new → Going file d new (Held img)
  go_area img place size at d new lies shut run w = going run (weaker (λ c from. kept_held img c (kept_area place size from.0 c lies (kept_shut from.0 (shut.leaves from.0 from.1)) from.2)) w.moments)

  pub go_numbers : (img : List ℕ) (at n : ℕ) (d new : DiskState) → at ≡ other_at order (8 + length (frames old) + 15) + 1 → n ≡ 16 → ((c : List ℕ) → d.leaves file c → Kept c) → RunOn file d new → WritesOn file at n d new → Going file d new (Held img)
  go_numbers img at n d new is sixteen kept run w =
      going run (weaker (λ c from. kept_held img c (kept_numbers file order old end (1 ∷ on) gap image payloads (long_by 1 on p.long_on) at from.0 c is (kept from.0 from.1) (subst (λ (k : ℕ). Torn at k from.0 c) sixteen from.2))) w.moments)

  module _ (place : ℕ) (img c : List ℕ) (near : place < 2 ^ 64) (small : length img < 2 ^ 64) (b : Both (next_numbers place) img place c) where
    facts : IsTurning old on (next_numbers place) b.gap image b.new_gap img payloads b.rest b.more
    facts = turning place img c near small b

    tail : List ℕ
    tail = tail_of b.gap image payloads b.rest

    -- the bytes by the two gates
    abbrev pub gates_are : ℕ → ℕ → List ℕ
    gates_are this other = file_by file order old end (this ∷ on) (other ∷ next_numbers place) (tail_of b.gap image payloads b.rest)

    pub opened : set c (other_at order (8 + length (frames old) + 15)) 1 ≡ gates_are 1 1
    opened = ap (λ (l : List ℕ). set l (other_at order (8 + length (frames old) + 15)) 1) b.is ∙ other_set file order old end (1 ∷ on) (next_numbers place) (tail_of b.gap image payloads b.rest) (long_by 1 on p.long_on) refl 0 1

    pub go_open : (d new : DiskState) → d.reads file ≡ c → RunOn file d new → LeavesOnly file d new (λ x. (h : ℕ) × (x ≡ set (d.reads file) (other_at order (8 + length (frames old) + 15)) h)) → Going file d new (Held img)
    go_open d new reads run moments =
        going run (weaker (λ x from.
        let bytes : x ≡ gates_are 1 from.0 = from.1 ∙ ap (λ (l : List ℕ). set l (other_at order (8 + length (frames old) + 15)) from.0) (reads ∙ b.is) ∙ other_set file order old end (1 ∷ on) (next_numbers place) (tail_of b.gap image payloads b.rest) (long_by 1 on p.long_on) refl 0 from.0 in
        let starts = start_by order old end (1 ∷ on) (0 ∷ next_numbers place) (0 ∷ numbers) gap b.gap image b.as_long in
        subst (λ (l : List ℕ). Held img l) (sym bytes)
        (subst (λ s. Always file (IsBetween (holding (Some s) payloads) img) (gates_are 1 from.0)) starts
        (opening file end p.shut old on (next_numbers place) b.gap image b.new_gap img payloads b.rest b.more facts order from.0))) moments)

    pub go_close : (d new : DiskState) → d.reads file ≡ gates_are 1 1 → RunOn file d new → LeavesOnly file d new (λ x. (h : ℕ) × (x ≡ set (d.reads file) (other_at (not order) (8 + length (frames old) + 15)) h)) → Going file d new (Held img)
    go_close d new reads run moments =
        going run (weaker (λ x from.
        let bytes : x ≡ gates_are from.0 1 = from.1 ∙ ap (λ (l : List ℕ). set l (other_at (not order) (8 + length (frames old) + 15)) from.0) reads ∙ this_set file order old end on (1 ∷ next_numbers place) (tail_of b.gap image payloads b.rest) refl p.long_on 1 from.0 in
        subst (λ (l : List ℕ). Held img l) (sym bytes)
        (always_weaker file (gates_are from.0 1) (λ y is. inr is) (closing file end p.shut old on (next_numbers place) b.gap image b.new_gap img payloads b.rest b.more facts order from.0))) moments)

    -- the area on which the log stands then
    abbrev pub now_on : Area
    now_on = ordered order old end (0 ∷ on) (1 ∷ next_numbers place) b.new_gap img

    pub now_whole : IsWholeArea now_on
    now_whole = next_whole file end p.shut old on (next_numbers place) b.gap image b.new_gap img payloads b.rest b.more facts order

    pub now_bytes : (d new : List ℕ) → d ≡ gates_are 1 1 → new ≡ set d (other_at (not order) (8 + length (frames old) + 15)) 0 → new ≡ on_area file now_on [] b.more
    now_bytes d new reads wrote =
        wrote
        ∙ ap (λ (l : List ℕ). set l (other_at (not order) (8 + length (frames old) + 15)) 0) reads
        ∙ this_set file order old end on (1 ∷ next_numbers place) (tail_of b.gap image payloads b.rest) refl p.long_on 1 0
        ∙ next_bytes file end p.shut old on (next_numbers place) b.gap image b.new_gap img payloads b.rest b.more facts order 0

-- what is known of a log on an area, by what it keeps in memory
pub present_of : (file : ℕ) (selected : Selected) (area : Area) (payloads : List (List ℕ)) → IsWholeArea area → NamesArea selected area → AllByRecursion IsPayload payloads → selected.turn < 2 ^ 64
    → (on : List ℕ) × (numbers : List ℕ) × (area ≡ ordered selected.second area.old area.end (1 ∷ on) (0 ∷ numbers) area.gap area.image) × ((selector_in (1 ∷ on)).turn ≡ selected.turn) × IsPresent area.old area.end on numbers area.gap area.image payloads
present_of file selected area payloads whole names fits small =
    let o = as_ordered selected.second area whole.is.first whole.is.second names.counts names.alone in
    let same = o.4 in
    let counts = (λ i. counting (selector_in (same i).first) (selector_in (same i).second)) ∙ counts_old (1 ∷ o.0) (0 ∷ o.1) selected.second area.old area.end area.gap area.image refl (λ no. absurd (cc no)) in
    let named : whole.is.named ≡ selector_in (1 ∷ o.0) = cc (whole.is.counts, counts) in
    let turn : (selector_in (1 ∷ o.0)).turn ≡ selected.turn = sym (names.turn ∙ ap (λ (l : List ℕ). (selector_in l).turn) (this_is selected.second o.0 o.1 same)) in (
      o.0,
      o.1,
      same,
      turn,
      record {
        own = whole.is.own;
        near = whole.is.near;
        shut = whole.is.shut;
        long_on = o.2;
        long_numbers = o.3;
        here = ap (λ s. s.place) (sym named) ∙ whole.is.place;
        small_turn = omega (arith, turn, small);
        fits = fits;
        small = whole.is.small;
      },
    )
  where
    this_is : (order : Bool) (on numbers : List ℕ) → area ≡ ordered order area.old area.end (1 ∷ on) (0 ∷ numbers) area.gap area.image → (if order then area.second else area.first) ≡ 1 ∷ on
    this_is false on numbers same = ap (λ a. a.first) same
    this_is true on numbers same = ap (λ a. a.second) same

-- the new area lies where it may
pub may_lie : (file : ℕ) (selected : Selected) (area : Area) (payloads : List (List ℕ)) (end place size : ℕ) → IsWholeArea area → NamesArea selected area → end ≡ length (front_on (area_base file area) payloads)
    → (selected.selectors + 43 + size ≤ selected.place → place ≡ selected.selectors + 34) → (selected.place < selected.selectors + 43 + size → place ≡ end + 1)
    → ((place ≡ behind_both area.old) × (size + 9 ≤ length area.gap)) ⊎ (place ≡ behind_both area.old + length area.gap + 8 + length area.image + length (frames payloads) + 1)
may_lie file selected area payloads end place size whole names is before behind = elim (cases_lt selected.place (selected.selectors + 43 + size)) [
  | inl short ↦ inr (omega (arith, behind short, is, end_at file area payloads whole.is.first whole.is.second))
  | inr fits ↦ inl (omega (arith, before fits, names.selectors), omega (arith, fits, names.selectors, names.place))
]

pub other_near : (order : Bool) (q : ℕ) → other_at order q ≤ q + 17
other_near false q = omega arith
other_near true q = omega arith

-- the log stands on the new area, and knows it
module _ (file : ℕ) (old : List (List ℕ)) (end : ℕ) (on next gap image more : List ℕ) where
  now_ends : (order : Bool) (place : ℕ) → length on ≡ 16 → length next ≡ 16 → place ≡ behind_both old + length gap → place + 8 + length image ≡ length (front_on (area_base file (ordered order old end (0 ∷ on) (1 ∷ next) gap image)) [])
  now_ends false place long_on long_next at = omega (arith, at, end_at file (ordered false old end (0 ∷ on) (1 ∷ next) gap image) [] (long_by 0 on long_on) (long_by 1 next long_next))
  now_ends true place long_on long_next at = omega (arith, at, end_at file (ordered true old end (0 ∷ on) (1 ∷ next) gap image) [] (long_by 1 next long_next) (long_by 0 on long_on))

  pub now_shut : (order : Bool) (place : ℕ) (d : DiskState) → length on ≡ 16 → length next ≡ 16 → place ≡ behind_both old + length gap → d.reads file ≡ on_area file (ordered order old end (0 ∷ on) (1 ∷ next) gap image) [] more → Only (d.reads file) (d.leaves file)
      → ShutAt (area_base file (ordered order old end (0 ∷ on) (1 ∷ next) gap image)) file (place + 8 + length image) d
  now_shut order place d long_on long_next at reads only =
      subst (λ (l : List ℕ). ShutAt l file (place + 8 + length image) d) (append-nil (area_base file (ordered order old end (0 ∷ on) (1 ∷ next) gap image))) (record {
        place = now_ends order place long_on long_next at;
        reads = (more, reads);
        leaves = λ c h. (more, only c h ∙ reads);
      })

  pub now_names : (order : Bool) (selected : Selected) → selected.selectors ≡ 8 + length (frames old) + 15 → selected.second ≡ not order → selected.turn ≡ (selector_in (1 ∷ next)).turn → selected.place ≡ behind_both old + length gap → NamesArea selected (ordered order old end (0 ∷ on) (1 ∷ next) gap image)
  now_names false selected at second turn place = record {
    selectors = at;
    counts = ap (λ (b : Bool). (selector_in (if b then 1 ∷ next else 0 ∷ on)).gate) second;
    alone = ap (λ (b : Bool). (selector_in (if b then 0 ∷ on else 1 ∷ next)).gate) second;
    turn = turn ∙ ap (λ (b : Bool). (selector_in (if b then 1 ∷ next else 0 ∷ on)).turn) (sym second);
    place = place;
  }
  now_names true selected at second turn place = record {
    selectors = at;
    counts = ap (λ (b : Bool). (selector_in (if b then 0 ∷ on else 1 ∷ next)).gate) second;
    alone = ap (λ (b : Bool). (selector_in (if b then 1 ∷ next else 0 ∷ on)).gate) second;
    turn = turn ∙ ap (λ (b : Bool). (selector_in (if b then 0 ∷ on else 1 ∷ next)).turn) (sym second);
    place = place;
  }

pub image_of : (order : Bool) (old : List (List ℕ)) (end : ℕ) (this other gap image : List ℕ) → (ordered order old end this other gap image).image ≡ image
image_of false old end this other gap image = refl
image_of true old end this other gap image = refl

-- the new area begins in the file, apart from the present area and from what is behind that
pub place_in : (place first gap image more end size : ℕ) → ((place ≡ first) × (size + 9 ≤ gap)) ⊎ (place ≡ first + gap + 8 + image + more + 1) → end ≡ first + gap + 8 + image + more → place ≤ end + 1
place_in place first gap image more end size (inl lies) is = omega (arith, lies.0, is)
place_in place first gap image more end size (inr lies) is = omega (arith, lies, is)

pub apart_in : (place first gap image more end size now from count : ℕ) → ((place ≡ first) × (size + 9 ≤ gap)) ⊎ (place ≡ first + gap + 8 + image + more + 1) → end ≡ first + gap + 8 + image + more → now ≡ first + gap → now ≤ from → from + count ≤ end → IsApart place (size + 9) from count
apart_in place first gap image more end size now from count (inl lies) is at behind before = inr (omega (arith, lies.0, lies.1, at, behind))
apart_in place first gap image more end size now from count (inr lies) is at behind before = inl (omega (arith, lies, is, before))

-- what a log stands on, by what it keeps in memory

pub none_known : (area : Option Selected) (base : Option Area) → Knows area base → area ≡ None → base ≡ None
none_known None None knows is = refl
none_known None (Some b) knows is = absurd knows
none_known (Some a) base knows is = absurd (cc is)

pub some_known : (area : Option Selected) (base : Option Area) (selected : Selected) → Knows area base → area ≡ Some selected → (known : Area) × (base ≡ Some known) × NamesArea selected known
some_known None base selected knows is = absurd (cc is)
some_known (Some a) None selected knows is = absurd knows
some_known (Some a) (Some b) selected knows is = (b, refl, subst (λ (s : Selected). NamesArea s b) (cc is) knows)

pub if_ok : {T E : Type 0} {P Q : T → Type 0} (result : Result T E) → IfOk result P → ((x : T) → P x → Q x) → IfOk result Q
if_ok (Ok x) is f = f x is
if_ok (Err e) is f = tt

-- a log without payloads since its image
pub stands_since : (area : Area) (d : DiskState) (log : Log) → IsWholeArea area → log.unsettled ≡ None → ShutAt (area_base log.file area) log.file log.end d → StandsOn (Some area) d log [] None
stands_since area d log whole settled s =
    let same = append-nil (area_base log.file area) in
    let shut : ShutAt (front_on (area_base log.file area) []) log.file log.end d = subst (λ (l : List ℕ). ShutAt l log.file log.end d) (sym same) s in
    record {
      is_base = whole;
      sized = tt;
      payload = tt;
      end = shut.place;
      waits = settled;
      reads = shut.reads;
      leaves = shut.leaves;
    }

-- its end gate is shut
pub shut_of : (base : Option Area) (d : DiskState) (log : Log) (payloads : List (List ℕ)) → StandsOn base d log payloads None → ShutAt (front_of log.file base payloads) log.file log.end d
shut_of base d log payloads s = record { place = s.end; reads = s.reads; leaves = s.leaves }

pub near_of : (area : Option Selected) → ∥ IfSome area (λ now. now.selectors ≤ 2 ^ 62) ∥₁ → IfSome area (λ now. now.selectors ≤ 2 ^ 62)
near_of None near = tt
near_of (Some now) near = ∥∥₁_elim near le_prop (λ h. h)
