-- The invariant of a log on its disk.
use Rattle.std.specs.Prelude.{◌≡◌, ◌⊎◌, ◌≤◌, ℕ, Bool, List, [], ◌∷◌, ◌++◌, length, Option, Some, None, IfSome, option_map, if◌then◌else◌}
use Rattle.std.specs.List.{AllByRecursion}
use Rattle.hk_base.specs.Disk.{DiskState, Image, LeavesOnly}
use Rattle.frame_log.specs.Format.{behind, IsPayload, IsAtRest, IsHalfOpen}
pub use Rattle.frame_log.specs.Format.{front}
use Rattle.frame_log.specs.Bases.{Area, IsBase, area_at, front_of, selectors_at}
use Rattle.frame_log.specs.FormatTwo.{selector_in}
use Rattle.frame_log.specs.declared.log.Selected.{Selected}
use Rattle.frame_log.specs.declared.log.Log.{Log}

-- the front, a zero byte, and any bytes
abbrev pub IsShut : List ℕ → List ℕ → Type 0
IsShut front bytes = (rest : List ℕ) × (bytes ≡ front ++ 0 ∷ rest)

-- the front, any gate byte, the rest of a frame of the payload, a zero byte, and any bytes
pub record IsFrameReady (front payload bytes : List ℕ) : Type 0 where
  pub gate : ℕ
  pub rest : List ℕ
  pub is : bytes ≡ front ++ gate ∷ (behind payload ++ 0 ∷ rest)

-- what the file may be, with or without an unsettled payload
abbrev pub Is : List ℕ → Option (List ℕ) → List ℕ → Type 0
Is front None bytes = IsShut front bytes
Is front (Some payload) bytes = IsShut front bytes ⊎ IsFrameReady front payload bytes

-- The log stands on this base and has these payloads on the disk, and at most one that is unsettled.
pub record StandsOn (base : Option Area) (disk : DiskState) (log : Log) (payloads : List (List ℕ)) (unsettled : Option (List ℕ)) : Type 0 where
  pub is_base : IsBase base
  pub sized : AllByRecursion IsPayload payloads
  pub payload : IfSome unsettled IsPayload
  pub end : log.end ≡ length (front_of log.file base payloads)
  pub waits : log.unsettled ≡ option_map length unsettled
  pub reads : Is (front_of log.file base payloads) unsettled (disk.reads log.file)
  pub leaves : (bytes : List ℕ) → disk.leaves log.file bytes → Is (front_of log.file base payloads) unsettled bytes

-- the same of a log that was never compacted
abbrev pub Stands : DiskState → Log → List (List ℕ) → Option (List ℕ) → Type 0
Stands disk log payloads unsettled = StandsOn None disk log payloads unsettled

-- what a crash leaves of a log while a record is added to it or settled: the log, or the log and the frame behind its end gate
abbrev pub LeavesAdding : Option Area → Log → List (List ℕ) → List ℕ → DiskState → DiskState → Type 0
LeavesAdding base log payloads payload old new = LeavesOnly log.file old new (Is (front_of log.file base payloads) (Some payload))

-- these payloads, and then one more if it is kept
abbrev pub with_kept : Bool → List (List ℕ) → List ℕ → List (List ℕ)
with_kept kept payloads payload = if kept then payloads ++ payload ∷ [] else payloads

-- The selector that counts is open and names the area, and the other one is shut.
pub record NamesArea (selected : Selected) (area : Area) : Type 0 where
  pub selectors : selected.selectors ≡ selectors_at area
  pub counts : (selector_in (if selected.second then area.second else area.first)).gate ≡ 1
  pub alone : (selector_in (if selected.second then area.first else area.second)).gate ≡ 0
  pub turn : selected.turn ≡ (selector_in (if selected.second then area.second else area.first)).turn
  pub place : selected.place ≡ area_at area

-- the log knows what it stands on
abbrev pub Knows : Option Selected → Option Area → Type 0
Knows None None = Unit {0}
Knows (Some selected) (Some area) = NamesArea selected area
Knows None (Some area) = ⊥
Knows (Some selected) None = ⊥

-- A file that a run may start from: a log at rest, or one that has exactly one more frame, and is at rest,
-- once its end gate byte is set to 1.
pub record IsSoundFile (file : ℕ) (bytes : List ℕ) : Type 0 where
  pub payloads : List (List ℕ)
  pub payload : List ℕ
  pub sound : IsAtRest file payloads bytes ⊎ IsHalfOpen file payloads (payloads ++ payload ∷ []) bytes

-- from some moment of a run of calls on, a crash leaves bytes of the file that satisfy P
pub record LeavesFrom (file : ℕ) (old new : DiskState) (P : List ℕ → Type 0) : Type 0 where
  pub moment : ℕ
  pub begun : old.moment ≤ moment
  pub reached : moment ≤ new.moment
  pub only : (c : Image) → new.left_since moment c → P (c file)
