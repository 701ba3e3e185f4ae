-- What a disk in memory records: its files, what a crash may leave of them, and its earlier moments.
use Rattle.std.specs.Prelude.{◌≡◌, ◌⊎◌, ℕ, zero, suc, ◌+◌, ◌-◌, ◌≤◌, ◌<◌, ◌^◌, List, [], ◌∷◌, ◌++◌, length, drop, true}
use mathlib.Core.Logic.{inl, inr}
use mathlib.Core.Path.{sym, ap, subst, ◌∙◌}
use Rattle.std.proofs.lemmas.List.{drop-drop}
use Rattle.hk_base.specs.Disk.{DiskState, Image, Torn, Cut}
use Rattle.disk_kinds.specs.declared.mem_disk.Change.{Change}
use Rattle.disk_kinds.specs.declared.mem_disk.Change.TheVariants.{Written, CutTo}
use Rattle.disk_kinds.specs.declared.mem_disk.Kept.{Kept}
use Rattle.disk_kinds.specs.declared.mem_disk.Moment.{Moment}
use Rattle.disk_kinds.specs.declared.mem_disk.MemDisk.{MemDisk}
use Rattle.disk_kinds.specs.Fakes.{Plan}

-- a file: its present bytes, those at its last sync, and the changes since
pub record FileAt : Type 0 where
  pub reads : List ℕ
  pub synced : List ℕ
  pub changes : List Change

pub record MomentAt : Type 0 where
  pub first : FileAt
  pub second : FileAt

abbrev pub file_at : Kept → FileAt
file_at f = record { reads = f.reads.items; synced = f.synced.items; changes = f.changes.items }

abbrev pub moment_at : Moment → MomentAt
moment_at m = record { first = file_at m.first; second = file_at m.second }

abbrev pub now_of : MemDisk → MomentAt
now_of d = moment_at d.current

abbrev pub past_of : MemDisk → List Moment
past_of d = d.past.items

abbrev pub plan_of : MemDisk → Plan
plan_of d = d.plan

-- a synced file of these bytes
abbrev pub fresh_file : List ℕ → FileAt
fresh_file bytes = record { reads = bytes; synced = bytes; changes = [] }

abbrev pub the_file : MomentAt → ℕ → FileAt
the_file m zero = m.first
the_file m (suc f) = m.second

abbrev pub replaced : ℕ → FileAt → MomentAt → MomentAt
replaced zero f m = record { first = f; second = m.second }
replaced (suc file) f m = record { first = m.first; second = f }

-- what a crash during a change may leave of a file
abbrev pub Tears : Change → List ℕ → List ℕ → Type 0
Tears (Written at size) old new = Torn at size old new
Tears (CutTo size) old new = Cut size old new

-- what a crash after these changes may leave, if before them it may leave what satisfies P
abbrev pub Torn_by : (List ℕ → Type 0) → List Change → List ℕ → Type 0
Torn_by P [] c = P c
Torn_by P (change ∷ changes) c = Torn_by (λ e. (d : List ℕ) × P d × Tears change d e) changes c

abbrev pub MayLeave : FileAt → List ℕ → Type 0
MayLeave f c = (c ≡ f.reads) ⊎ Torn_by (λ d. d ≡ f.synced) f.changes c

abbrev pub IsImageOf : MomentAt → Image → Type 0
IsImageOf m c = (f : ℕ) → f < 2 → MayLeave (the_file m f) (c f)

-- an image of one of these moments
abbrev pub WasImage : List Moment → Image → Type 0
WasImage [] c = ⊥
WasImage (m ∷ past) c = IsImageOf (moment_at m) c ⊎ WasImage past c

abbrev pub disk_state : MomentAt → List Moment → ℕ → DiskState
disk_state now past faults = record {
  tells = true;
  records = true;
  reads = λ f. (the_file now f).reads;
  leaves = λ f. MayLeave (the_file now f);
  moment = length past;
  left_since = λ t c. IsImageOf now c ⊎ WasImage (drop t past) c;
  faults = faults;
}

-- the view of the disk in the clauses of `Disk`
abbrev pub state_of : MemDisk → DiskState
state_of d = disk_state (now_of d) (past_of d) (plan_of d).faults

abbrev pub reads_of : MemDisk → ℕ → List ℕ
reads_of d file = (the_file (now_of d) file).reads

abbrev pub leaves_of : MemDisk → ℕ → List ℕ → Type 0
leaves_of d file = MayLeave (the_file (now_of d) file)

none_left : (past : List Moment) (c : Image) → WasImage (drop (length past) past) c → ⊥
none_left [] c was = was
none_left (m ∷ past) c was = none_left past c was

pub only_image : (now : MomentAt) (past : List Moment) (c : Image) → IsImageOf now c ⊎ WasImage (drop (length past) past) c → IsImageOf now c
only_image now past c (inl here) = here
only_image now past c (inr was) = absurd (none_left past c was)

was_before : (n : ℕ) (past : List Moment) (c : Image) → WasImage (drop n past) c → WasImage past c
was_before zero past c was = was
was_before (suc n) [] c was = was
was_before (suc n) (m ∷ past) c was = inr (was_before n past c was)

-- an image since a moment is an image since each earlier moment
pub since_earlier : (now : MomentAt) (past : List Moment) (s t : ℕ) (c : Image) → t ≡ s + (t - s) → IsImageOf now c ⊎ WasImage (drop t past) c → IsImageOf now c ⊎ WasImage (drop s past) c
since_earlier now past s t c is (inl here) = inl here
since_earlier now past s t c is (inr was) =
    inr (was_before (t - s) (drop s past) c (subst (λ (l : List Moment). WasImage l c) (ap (λ (n : ℕ). drop n past) is ∙ sym (drop-drop (t - s) s past)) was))

pub within : (d : MemDisk) (f : ℕ) → f < 2 → length ((the_file (now_of d) f).reads) ≤ 2 ^ 62
within d zero lt = d.current.first.limit
within d (suc f) lt = d.current.second.limit

-- a file was replaced, and the moment before is recorded
pub record Put (file : ℕ) (next : FileAt) (old new : MomentAt) (old_past new_past : List Moment) : Type 0 where
  pub kept : Moment
  pub same : moment_at kept ≡ old
  pub past : new_past ≡ old_past ++ kept ∷ []
  pub now : new ≡ replaced file next old

-- nothing changed
pub record LeftAlone (old new : MomentAt) (old_past new_past : List Moment) : Type 0 where
  pub past : new_past ≡ old_past
  pub now : new ≡ old
