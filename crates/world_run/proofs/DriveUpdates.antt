-- An update of an outstanding batch: its zone is still being re-encrypted, with as many files left, and one batch fewer is outstanding.
use Rattle.std.proofs.Common.{◌≡◌, ℕ, suc, Bool, true, false, cond, not, List, [], ◌∷◌, length, Option, Some, None, is_none, refl, sym, ap, ◌∙◌}
use Rattle.std.specs.Prelude.{◌==◌}
use Rattle.std.specs.Option.{option_and_then, option_map_or}
use Rattle.std.proofs.lemmas.Bool.{eqb-true, and_parts}
use Rattle.inode_tree.specs.declared.rows.Row.{Row}
use Rattle.inode_tree.specs.Rows.{Entry, IsRows, is_dir_at, mark_of, row_at}
use Rattle.name_calls.specs.declared.calls.NameRefusal.{NameRefusal}
use Rattle.name_calls.specs.declared.calls.NameRefusal.TheVariants as refusal
use Rattle.name_calls.specs.declared.paths.NPath.{NPath}
use Rattle.reenc_walk.specs.declared.sent.BatchNote.{BatchNote}
use Rattle.reenc_walk.specs.Files.{walk_list}
use Rattle.reenc_walk.specs.Walks.{WalkState, outstanding, retire, retired}
use Rattle.reenc_update.specs.declared.changes.Changes.{Changes}
use Rattle.zone_table.specs.declared.statuses.StatusRow.{StatusRow}
use Rattle.zone_table.specs.Statuses.{counted, goes_on, goes_on_under, is_of, status_of, with_counts, zone_goes_on}
use Rattle.name_store.specs.Causes.{first_cause, id_at, id_of, zone_root_causes}
use Rattle.name_store.specs.Table.{with_edeks}
use Rattle.name_store.proofs.CauseLemmas.{none-of-both, zone-root}
use Rattle.name_core.specs.Calls.{done_with}
use Rattle.name_core.specs.State.{NameState, walk_under, with_walk}
use Rattle.name_core.specs.Updates.{is_outstanding, update_op}
use Rattle.name_core.specs.Walks.{or_new_walk, status_at, walk_causes, walk_of}
use Rattle.name_core.proofs.EdekRows.{row-edeks}
use Rattle.name_core.proofs.UpdateLemmas.{Outstanding, outstanding-at, with_update}
use Rattle.name_core.proofs.WalkLemmas.{found-session}
use Rattle.name_core.proofs.WalkOrder.{under-with}
use Rattle.world_run.specs.Drives.{files_left, outstanding_in}
use Rattle.world_run.proofs.DriveBatches.{outstanding-from, outstanding-retired}
use Rattle.world_run.proofs.DriveFiles.{left-at, left-by, out-at, walk-rekeyed}
use Rattle.world_run.proofs.RekeyedFiles.{AreKeyed, all-files}
use Rattle.world_run.proofs.RowLemmas.{in-place}

-- what is the same after a status counts files is the same of the status of each zone afterwards
same-counted : {X : Type 0} (f : StatusRow → X) (d : X) (session changed failed : ℕ) (mark : Option NPath) (ts : List StatusRow) (zone : ℕ) → ((t : StatusRow) → goes_on_under session t ≡ true → f (with_counts changed failed mark t) ≡ f t)
    → option_map_or f (status_of (counted session changed failed mark ts) zone) d ≡ option_map_or f (status_of ts zone) d
same-counted f d session changed failed mark [] zone same = refl
same-counted {X = X} f d session changed failed mark (t ∷ ts) zone same = go (goes_on_under session t) refl (same-counted f d session changed failed mark ts zone same)
  where
    given : Option StatusRow → X
    given o = option_map_or f o d

    here : goes_on_under session t ≡ true → (c : Bool) → given (cond c (Some (with_counts changed failed mark t)) (status_of ts zone)) ≡ given (cond c (Some t) (status_of ts zone))
    here at true = same t at
    here at false = refl

    later : (c : Bool) → given (status_of (counted session changed failed mark ts) zone) ≡ given (status_of ts zone)
        → given (cond c (Some t) (status_of (counted session changed failed mark ts) zone)) ≡ given (cond c (Some t) (status_of ts zone))
    later true ih = refl
    later false ih = ih

    go : (b : Bool) → goes_on_under session t ≡ b → given (status_of (counted session changed failed mark ts) zone) ≡ given (status_of ts zone)
        → given (status_of (cond b (with_counts changed failed mark t ∷ ts) (t ∷ counted session changed failed mark ts)) zone) ≡ given (status_of (t ∷ ts) zone)
    go true at ih = here at (is_of zone t)
    go false at ih = later (is_of zone t) ih

-- why a walk is refused, by the row at the path and whether its zone goes on
abbrev causes-by : Option Row → Bool → List (Bool × NameRefusal)
causes-by row goes =
    (is_none row, refusal.NoSuchPath) ∷ (not (is_dir_at row), refusal.NotADirectory) ∷ (is_none (option_and_then (λ (r : Row). mark_of r.kind) row), refusal.NotAZoneRoot) ∷ (not goes, refusal.NotSubmitted) ∷ []

-- a batch of the zone is updated
module _ (s : NameState) (zone : NPath) (note : BatchNote) (changes : Changes) (rules : IsRows s.table.rows) (keyed : AreKeyed s.table.rows changes.files) (free : first_cause (walk_causes s zone) ≡ None)
    (of_zone : note.zone ≡ id_at s.table.rows zone) (has : is_outstanding s note ≡ true) where
  abbrev zone-here : ℕ
  zone-here = id_at s.table.rows zone

  abbrev o : Outstanding s note
  o = outstanding-at s note has

  abbrev rows-next : List Entry
  rows-next = with_edeks changes.files s.table.rows

  abbrev pub later : NameState
  later = done_with (Some (update_op s note changes)) (with_update s note.sent)

  abbrev retires : WalkState
  retires = retire note.sent o.walk

  zone-found : status_at s.table zone ≡ Some o.status
  zone-found = ap (status_of s.table.statuses) (sym of_zone) ∙ o.found

  -- rows

  is-directory : is_dir_at (row_at s.table.rows zone) ≡ true
  is-directory = (zone-root s.table.rows zone (none-of-both (zone_root_causes s.table.rows zone) ((not (zone_goes_on s.table.statuses zone-here), refusal.NotSubmitted) ∷ []) free).0).dir

  same-row : row_at rows-next zone ≡ row_at s.table.rows zone
  same-row = row-edeks changes.files s.table.rows zone (all-files s.table.rows changes.files keyed) is-directory

  same-id : id_at rows-next zone ≡ zone-here
  same-id = ap id_of same-row

  -- walks

  walks-are : later.walks ≡ with_walk retires s.walks
  walks-are = ap (λ (w : Option WalkState). option_map_or (λ (x : WalkState). with_walk (retire note.sent x) s.walks) w s.walks) o.under

  under-later : walk_under later.walks note.session ≡ Some retires
  under-later = (λ i. walk_under (walks-are i) (sym (found-session s.walks note.session o.walk o.under) i)) ∙ under-with retires s.walks

  walk-later : (t : StatusRow) → t.session ≡ note.session → walk_of later.walks t ≡ retires
  walk-later t is = ap (λ (x : Option WalkState). or_new_walk x t) (ap (walk_under later.walks) is ∙ under-later)

  walk-was : walk_of s.walks o.status ≡ o.walk
  walk-was = ap (λ (x : Option WalkState). or_new_walk x o.status) (ap (walk_under s.walks) o.session_is ∙ o.under)

  -- what depends on the walk alone is the same after a status counts files
  same-walk : {X : Type 0} (f : WalkState → X) (mark : Option NPath) (t : StatusRow) → goes_on_under note.session t ≡ true
      → f (walk_of later.walks (with_counts (length changes.files) changes.failed mark t)) ≡ f (walk_of later.walks t)
  same-walk f mark t at =
      let is = eqb-true t.session note.session (and_parts (t.session == note.session) (goes_on t) at).0 in
      ap f (walk-later (with_counts (length changes.files) changes.failed mark t) is ∙ sym (walk-later t is))

  -- for the status of the zone it depends on the walk after the batch is retired
  by-walk : (f : WalkState → ℕ) → option_map_or (λ (t : StatusRow). f (walk_of later.walks t)) (status_at later.table zone) 0 ≡ f retires
  by-walk f =
      ap (λ (n : ℕ). option_map_or (λ (t : StatusRow). f (walk_of later.walks t)) (status_of later.table.statuses n) 0) same-id
      ∙ same-counted (λ (t : StatusRow). f (walk_of later.walks t)) 0 note.session (length changes.files) changes.failed _ s.table.statuses zone-here (same-walk f _)
      ∙ ap (λ (x : Option StatusRow). option_map_or (λ (t : StatusRow). f (walk_of later.walks t)) x 0) zone-found
      ∙ ap f (walk-later o.status o.session_is)

  -- what is left

  pub free-later : first_cause (walk_causes later zone) ≡ None
  free-later = (λ i. first_cause (causes-by (same-row i) (goes i))) ∙ free
    where
      goes : zone_goes_on later.table.statuses (id_at rows-next zone) ≡ zone_goes_on s.table.statuses zone-here
      goes =
          ap (zone_goes_on later.table.statuses) same-id
          ∙ same-counted goes_on false note.session (length changes.files) changes.failed _ s.table.statuses zone-here (λ t at. refl)

  pub left-later : files_left later zone ≡ files_left s zone
  left-later =
      ap (λ (n : ℕ). option_map_or (left-by later n) (status_at later.table zone) 0) same-id
      ∙ by-walk (λ (v : WalkState). length (walk_list rows-next zone-here v.cursor))
      ∙ walk-rekeyed s.table.rows changes.files zone-here o.walk.cursor (in-place s.table.rows rules) keyed
      ∙ ap (λ (v : WalkState). length (walk_list s.table.rows zone-here v.cursor)) (sym walk-was)
      ∙ sym (left-at s zone o.status zone-found)

  pub out-later : outstanding_in s zone ≡ suc (outstanding_in later zone)
  out-later =
      out-at s zone o.status zone-found ∙ ap (λ (v : WalkState). outstanding v.batches) walk-was
      ∙ outstanding-retired note.sent o.walk.batches o.has
      ∙ ap suc (sym (by-walk (λ (v : WalkState). outstanding v.batches) ∙ outstanding-from (retired note.sent o.walk.batches)))
