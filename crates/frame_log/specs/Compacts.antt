-- What a compaction writes, and what it leaves.
use Rattle.std.specs.Prelude.{◌≡◌, ◌⊎◌, ℕ, ◌+◌, Bool, true, false, List, [], ◌∷◌, ◌++◌, length, Option, Some, None}
use Rattle.std.specs.Int.{w64, to_be_bytes}
use Rattle.hk_base.specs.Disk.{DiskState, LeavesOnly, piece}
use Rattle.std.specs.List.{AllByRecursion}
use Rattle.frame_log.specs.Format.{IsPayload, frames, front}
use Rattle.frame_log.specs.Bases.{Area, IsBase, IsWholeArea, MayFollow, area_base, front_of, front_on, start_of}
use Rattle.frame_log.specs.FormatTwo.{Always, Content, IsOwn, Selector, selector_bytes, since}
use Rattle.frame_log.specs.Stands.{IsShut, Knows, NamesArea, StandsOn}
use Rattle.frame_log.specs.declared.log.Log.{Log}
use Rattle.frame_log.specs.declared.log.Selected.{Selected}

-- a file whose end gate is behind this front, and shut
pub record ShutAt (front : List ℕ) (file end : ℕ) (disk : DiskState) : Type 0 where
  pub place : end ≡ length front
  pub reads : IsShut front (disk.reads file)
  pub leaves : (bytes : List ℕ) → disk.leaves file bytes → IsShut front bytes

-- an area without payloads
abbrev pub area_bytes : List ℕ → List ℕ
area_bytes image = to_be_bytes w64 (length image) ++ (image ++ 0 ∷ [])

-- as many bytes as the frame takes that says where the log goes on, and the end gate after it
abbrev pub frame_room : List ℕ
frame_room = 0 ∷ 0 ∷ 0 ∷ 0 ∷ 0 ∷ 0 ∷ 0 ∷ 0 ∷ 0 ∷ 0 ∷ 0 ∷ 0 ∷ 0 ∷ 0 ∷ []

abbrev pub first_selector : ℕ → Selector
first_selector place = record { gate = 1; turn = 1; place = place }

abbrev pub no_selector : Selector
no_selector = record { gate = 0; turn = 0; place = 0 }

-- the bytes between the end gate and the first area
abbrev pub first_head : ℕ → List ℕ
first_head place = frame_room ++ (selector_bytes (first_selector place) ++ selector_bytes no_selector)

-- the area of a log that is compacted for the first time
abbrev pub first_area : List (List ℕ) → List ℕ → Area
first_area old image = record {
  old = old;
  end = 0;
  first = selector_bytes (first_selector (8 + length (frames old) + 49));
  second = selector_bytes no_selector;
  gap = [];
  image = image;
}

-- the offset of the selector that doesn't count, by whether the second one does and by where the first one is
abbrev pub other_at : Bool → ℕ → ℕ
other_at false q = q + 17
other_at true q = q

-- what a log may hold while it is compacted: what it held, or the image alone
abbrev pub IsBetween : Content → List ℕ → Content → Type 0
IsBetween before image x = (x ≡ before) ⊎ ((at : ℕ) × (x ≡ since at image []))

-- The bytes of an image, by what a range of its file holds.
abbrev pub told_of : (List ℕ → List ℕ) → ℕ → ℕ → ℕ → DiskState → List ℕ
told_of image from count file disk = image (piece from count (disk.reads file))

-- what a crash leaves of a log while it is compacted, in whatever way torn gates are read
abbrev pub LeavesOneOf : ℕ → Content → (List ℕ → List ℕ) → ℕ → ℕ → DiskState → DiskState → Type 0
LeavesOneOf file before image from count old new = LeavesOnly file old new (Always file (IsBetween before (told_of image from count file old)))

-- a log that goes on from the image alone, of this size
abbrev pub CompactsTo : (List ℕ → List ℕ) → ℕ → ℕ → ℕ → ℕ → Selected → DiskState → DiskState → Type 0
CompactsTo image from count size file next old new = (area : Area) × IsWholeArea area × NamesArea next area × (area.image ≡ told_of image from count file old) × ShutAt (area_base file area) file (next.place + 8 + size) new

-- a log that starts from the image and has no payloads
abbrev pub StartsFrom : (List ℕ → List ℕ) → ℕ → ℕ → Log → DiskState → DiskState → Type 0
StartsFrom image from count log old new = (area : Area) × StandsOn (Some area) new log [] None × Knows log.area (Some area) × (area.image ≡ told_of image from count log.file old)

-- Q holds of whatever the log may be that a call is given: of a log that was never compacted, whose end gate is here; of one that goes on
-- at what was selected; of either; and of a log as its object says

abbrev pub OfFirst : ℕ → ℕ → DiskState → (List (List ℕ) → Type 0) → Type 0
OfFirst file end disk Q = (payloads : List (List ℕ)) → AllByRecursion IsOwn payloads → ShutAt (front file payloads) file end disk → Q payloads

abbrev pub OfSelected : Selected → ℕ → ℕ → DiskState → (Area → List (List ℕ) → Type 0) → Type 0
OfSelected now file end disk Q = (area : Area) (payloads : List (List ℕ)) → IsWholeArea area → NamesArea now area → AllByRecursion IsPayload payloads → ShutAt (front_on (area_base file area) payloads) file end disk → Q area payloads

abbrev pub OfEither : Option Selected → ℕ → ℕ → DiskState → (Option Area → List (List ℕ) → Type 0) → Type 0
OfEither now file end disk Q = (base : Option Area) (payloads : List (List ℕ)) → IsBase base → Knows now base → AllByRecursion (MayFollow (start_of base)) payloads → ShutAt (front_of file base payloads) file end disk → Q base payloads

abbrev pub OfLog : Log → DiskState → (Option Area → List (List ℕ) → Type 0) → Type 0
OfLog log disk Q = (base : Option Area) (payloads : List (List ℕ)) → StandsOn base disk log payloads None → Knows log.area base → AllByRecursion (MayFollow (start_of base)) payloads → Q base payloads
