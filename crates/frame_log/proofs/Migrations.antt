-- The first compaction of a log: the bytes after each of its steps, and what a crash at it may leave.
use Rattle.std.proofs.Common.{◌≡◌, ◌⊎◌, ℕ, ◌+◌, ◌<◌, ◌^◌, List, [], ◌∷◌, ◌++◌, length, drop, set, Bool, false, if◌then◌else◌, Some, None, refl, sym, ◌∙◌, ap, subst, arith, append_assoc, length-append, inl, inr}
use Rattle.std.specs.List.{AllByRecursion}
use Rattle.std.specs.Int.{w64, to_be_bytes}
use Rattle.std.proofs.lemmas.List.{drop_at, set_at}
use Rattle.hk_base.specs.Disk.{DiskState, LeavesOnly, Only, RunOn, Torn, written}
use Rattle.hk_base.proofs.Runs.{Going, weaker}
use Rattle.frame_log.specs.Format.{behind, frames, front, magic}
use Rattle.frame_log.specs.FormatTwo.{Always, Content, IsOwn, holding, moved, selector_bytes, selector_in, counting}
use Rattle.frame_log.specs.Bases.{IsWholeArea, area_at, area_base, behind_selectors, moving_file, selectors_at}
use Rattle.frame_log.specs.Compacts.{IsBetween, ShutAt, area_bytes, first_area, first_head, first_selector, frame_room, no_selector}
use Rattle.frame_log.specs.Stands.{IsShut, NamesArea}
use Rattle.frame_log.specs.Writes.{WritesOn}
use Rattle.frame_log.specs.declared.log.Selected.{Selected}
use Rattle.frame_log.proofs.Bases.{always_moving, always_shut, moved_long, moved_more, reads_on_magic}
use Rattle.frame_log.proofs.Bytes.{written_behind}
use Rattle.frame_log.proofs.Goings.{going}
use Rattle.frame_log.proofs.Movings.{old_counts, selector_reads}
use Rattle.frame_log.proofs.Reading.{front_long}
use Rattle.frame_log.proofs.Steps.{behind_torn}

-- less is said of what a file may be read as
pub always_weaker : (file : ℕ) {P Q : Content → Type 0} (bytes : List ℕ) → ((x : Content) → P x → Q x) → Always file P bytes → Always file Q bytes
always_weaker file bytes f all reading may = let held = all reading may in (held.0, held.1, f held.0 held.2)

-- ---- writes behind a shut end gate

pub shut_place : (front : List ℕ) (file end : ℕ) (d : DiskState) → ShutAt front file end d → end < length (d.reads file)
shut_place front file end d s = omega (arith, s.place, ap length s.reads.1, length-append front (0 ∷ s.reads.0))

pub shut_torn : (front : List ℕ) (file end n : ℕ) (d : DiskState) → ShutAt front file end d → (c : List ℕ) → ((b : List ℕ) × d.leaves file b × Torn (end + 1) n b c) → IsShut front c
shut_torn front file end n d s c from = behind_torn front end s.place n from.0 c (s.leaves from.0 from.1) from.2

pub shut_on : (front : List ℕ) (file end n : ℕ) (old new : DiskState) → ShutAt front file end old → WritesOn file (end + 1) n old new → ShutAt front file end new
shut_on front file end n old new s w = record {
  place = s.place;
  reads = behind_torn front end s.place n (old.reads file) (new.reads file) s.reads w.reads;
  leaves = λ c h. shut_torn front file end n old s c (w.leaves c h);
}

-- ---- the area

module _ (old : List (List ℕ)) (image : List ℕ) (near : 8 + length (frames old) + 49 < 2 ^ 64) (small : length image < 2 ^ 64) where
  place : ℕ
  place = 8 + length (frames old) + 49

  first_in : selector_in (selector_bytes (first_selector place)) ≡ first_selector place
  unfolding place
  first_in = selector_reads (first_selector (8 + length (frames old) + 49)) (omega arith) near

  none_in : selector_in (selector_bytes no_selector) ≡ no_selector
  none_in = selector_reads no_selector (omega arith) (omega arith)

  first_counts : counting (selector_in (selector_bytes (first_selector place))) (selector_in (selector_bytes no_selector)) ≡ Some (first_selector place)
  first_counts = (λ i. counting (first_in i) (none_in i)) ∙ old_counts (first_selector place) no_selector refl (λ no. absurd (cc no))

  pub area_is : AllByRecursion IsOwn old → IsWholeArea (first_area old image)
  unfolding place
  area_is own = record {
    is = record {
      own = own;
      named = first_selector (8 + length (frames old) + 49);
      counts = first_counts;
      place = omega arith;
      first = refl;
      second = refl;
      shut = λ no. absurd (cc no);
      near = omega (arith, near);
      small = small;
    };
    first = inr (ap (λ s. s.gate) first_in);
    second = inl (ap (λ s. s.gate) none_in);
  }

  -- the log knows its area
  pub area_named : (selected : Selected) (end : ℕ) → end ≡ 8 + length (frames old) → selected.selectors ≡ end + 15 → selected.second ≡ false → selected.turn ≡ 1 → selected.place ≡ end + 49 → NamesArea selected (first_area old image)
  unfolding place
  area_named selected end from selectors second turn at =
      let counts : (selector_in (selector_bytes (first_selector (8 + length (frames old) + 49)))).gate ≡ 1 = ap (λ s. s.gate) first_in in
      let alone : (selector_in (selector_bytes no_selector)).gate ≡ 0 = ap (λ s. s.gate) none_in in
      let turn_is : (selector_in (selector_bytes (first_selector (8 + length (frames old) + 49)))).turn ≡ 1 = ap (λ s. s.turn) first_in in
      record {
        selectors = omega (arith, selectors, from);
        counts = ap (λ (b : Bool). (selector_in (if b then (first_area old image).second else (first_area old image).first)).gate) second ∙ counts;
        alone = ap (λ (b : Bool). (selector_in (if b then (first_area old image).first else (first_area old image).second)).gate) second ∙ alone;
        turn = turn ∙ sym turn_is ∙ ap (λ (b : Bool). (selector_in (if b then (first_area old image).second else (first_area old image).first)).turn) (sym second);
        place = omega (arith, at, from);
      }

-- ---- the steps

-- a log of these payloads, while it is compacted for the first time
module _ (file : ℕ) (old : List (List ℕ)) (image : List ℕ) (end : ℕ) (is : end ≡ length (front file old)) where
  -- once the area is written, and then the frame, its gate still shut
  pub staged_file : (rest bytes next : List ℕ) → bytes ≡ written (end + 1) (first_head (end + 49) ++ area_bytes image) (front file old ++ 0 ∷ rest) → next ≡ written (end + 1) (behind (moved (end + 15)) ++ 0 ∷ []) bytes
      → (more : List ℕ) × (next ≡ moving_file file (first_area old image) 0 more)
  staged_file rest bytes next one two =
      let from : end ≡ 8 + length (frames old) = is ∙ front_long file old in
      let F : List ℕ = front file old in
      let two_selectors : List ℕ = selector_bytes (first_selector (end + 49)) ++ selector_bytes no_selector in
      let area : List ℕ = area_bytes image in
      let frame : List ℕ = behind (moved (end + 15)) ++ 0 ∷ [] in
      let more : List ℕ = drop (length (first_head (end + 49) ++ area)) rest in
      let first : bytes ≡ F ++ 0 ∷ ((first_head (end + 49) ++ area) ++ more) =
      one ∙ ap (λ (k : ℕ). written (k + 1) (first_head (end + 49) ++ area) (F ++ 0 ∷ rest)) is ∙ written_behind F 0 rest (first_head (end + 49) ++ area) in
      let grouped : (first_head (end + 49) ++ area) ++ more ≡ frame_room ++ (two_selectors ++ (area ++ more)) =
      append_assoc (first_head (end + 49)) area more ∙ append_assoc frame_room two_selectors (area ++ more) in
      let second : next ≡ F ++ 0 ∷ (frame ++ drop 14 (frame_room ++ (two_selectors ++ (area ++ more)))) =
      two
      ∙ ap (λ (k : ℕ). written (k + 1) frame bytes) is
      ∙ ap (λ (l : List ℕ). written (length F + 1) frame l) (first ∙ ap (λ (l : List ℕ). F ++ 0 ∷ l) grouped)
      ∙ written_behind F 0 (frame_room ++ (two_selectors ++ (area ++ more))) frame in
      let tail : drop 14 (frame_room ++ (two_selectors ++ (area ++ more))) ≡ two_selectors ++ (area ++ more) = drop_at frame_room (two_selectors ++ (area ++ more)) 14 refl in
      let inner : two_selectors ++ (area ++ more)
      ≡ selector_bytes (first_selector (end + 49)) ++ (selector_bytes no_selector ++ ((to_be_bytes w64 (length image) ++ image) ++ 0 ∷ more)) =
      append_assoc (selector_bytes (first_selector (end + 49))) (selector_bytes no_selector) (area ++ more)
      ∙ ap (λ (l : List ℕ). selector_bytes (first_selector (end + 49)) ++ (selector_bytes no_selector ++ l))
      (append_assoc (to_be_bytes w64 (length image)) (image ++ 0 ∷ []) more
      ∙ ap (λ (l : List ℕ). to_be_bytes w64 (length image) ++ l) (append_assoc image (0 ∷ []) more)
      ∙ sym (append_assoc (to_be_bytes w64 (length image)) image (0 ∷ more))) in
      let at_q : end + 15 ≡ selectors_at (first_area old image) = omega (arith, from) in
      let at_area : end + 49 ≡ 8 + length (frames old) + 49 = omega (arith, from) in (
        more,
        second
            ∙ ap (λ (l : List ℕ). F ++ 0 ∷ (frame ++ l)) (tail ∙ inner)
            ∙ ap (λ (l : List ℕ). F ++ 0 ∷ l) (append_assoc (behind (moved (end + 15))) (0 ∷ []) (selector_bytes (first_selector (end + 49)) ++ (selector_bytes no_selector ++ ((to_be_bytes w64 (length image) ++ image) ++ 0 ∷ more))))
            ∙ (λ i. F ++ 0 ∷ (behind (moved (at_q i)) ++ 0 ∷ (selector_bytes (first_selector (at_area i)) ++ (selector_bytes no_selector ++ ((to_be_bytes w64 (length image) ++ image) ++ 0 ∷ more))))),
      )

  -- the byte of its gate
  pub gate_set : (more bytes : List ℕ) (h : ℕ) → bytes ≡ moving_file file (first_area old image) 0 more → set bytes end h ≡ moving_file file (first_area old image) h more
  gate_set more bytes h same =
      ap (λ (l : List ℕ). set l end h) same
      ∙ set_at (front file old) 0 (behind (moved (selectors_at (first_area old image))) ++ 0 ∷ ((first_area old image).first ++ ((first_area old image).second ++ (behind_selectors (first_area old image) ++ 0 ∷ more)))) h end (sym is)

  -- the gate open
  pub moved_file : (more : List ℕ) → moving_file file (first_area old image) 1 more ≡ area_base file (first_area old image) ++ 0 ∷ more
  moved_file more = sym (moved_more file old (selectors_at (first_area old image)) 0 (first_area old image).first (first_area old image).second (behind_selectors (first_area old image)) (0 ∷ more))

  -- what a crash leaves while the area and the frame are written, and while the gate is
  abbrev pub IsMigrating : List ℕ → Type 0
  IsMigrating c = IsShut (front file old) c ⊎ ((h : ℕ) × (more : List ℕ) × (c ≡ moving_file file (first_area old image) h more))

  pub migrating : AllByRecursion IsOwn old → end + 49 < 2 ^ 64 → length image < 2 ^ 64 → (c : List ℕ) → IsMigrating c → Always file (IsBetween (holding None old) image) c
  migrating own near small c (inl shut) =
      subst (Always file (IsBetween (holding None old) image)) (sym shut.1)
      (always_weaker file (front file old ++ 0 ∷ shut.0) (λ x same. inl same) (always_shut file None (magic file) (reads_on_magic file) old shut.0 own))
  migrating own near small c (inr moving) =
      let from : end ≡ 8 + length (frames old) = is ∙ front_long file old in
      let area = area_is old image (omega (arith, near, from)) small own in
      subst (Always file (IsBetween (holding None old) image)) (sym moving.2)
      (always_weaker file (moving_file file (first_area old image) moving.0 moving.1) (λ x is. elim is [
        | inl same ↦ inl same
        | inr same ↦ inr (area_at (first_area old image) + 8, same)
      ]) (always_moving file (first_area old image) area.is area.first area.second moving.0 moving.1))

  area_long : length (area_base file (first_area old image)) ≡ end + 57 + length image
  area_long =
      omega (arith, moved_long file old (selectors_at (first_area old image)) 0 (first_area old image).first (first_area old image).second (behind_selectors (first_area old image)) refl refl refl, length-append (to_be_bytes w64 (length image)) image, is, front_long file old)

  -- a run of the writes behind the end gate, and then of that of the gate
  pub begun : (n : ℕ) (d new : DiskState) → ShutAt (front file old) file end d → RunOn file d new → WritesOn file (end + 1) n d new → Going file d new IsMigrating
  begun n d new shut run w = going run (weaker (λ c from. inl (shut_torn (front file old) file end n d shut c from)) w.moments)

  pub turned : (more : List ℕ) (d new : DiskState) → d.reads file ≡ moving_file file (first_area old image) 0 more → RunOn file d new → LeavesOnly file d new (λ c. (h : ℕ) × (c ≡ set (d.reads file) end h)) → Going file d new IsMigrating
  turned more d new same run moments = going run (weaker (λ c from. inr (from.0, more, from.1 ∙ gate_set more (d.reads file) from.0 same)) moments)

  -- the log stands on the area
  pub stands_then : (more : List ℕ) (d new : DiskState) → d.reads file ≡ moving_file file (first_area old image) 0 more → new.reads file ≡ set (d.reads file) end 1 → Only (new.reads file) (new.leaves file)
      → ShutAt (area_base file (first_area old image)) file (end + 57 + length image) new
  stands_then more d new same set_one only =
      let now : new.reads file ≡ area_base file (first_area old image) ++ 0 ∷ more = set_one ∙ gate_set more (d.reads file) 1 same ∙ moved_file more in
      record {
        place = sym area_long;
        reads = (more, now);
        leaves = λ c h. (more, only c h ∙ now);
      }
