-- What a walk over the frames of a log finds, from any gate on.
use Rattle.std.specs.Prelude.{◌≡◌, ℕ, ◌+◌, ◌<◌, ◌≤◌, Bool, true, false, List, ◌++◌, length, take, drop}
use Rattle.std.specs.List.{AllByRecursion}
use Rattle.frame_log.specs.Format.{frames, IsPayload, Broken, part}
use Rattle.frame_log.specs.FormatTwo.{IsOwn, moved}
use Rattle.frame_log.specs.Scan.{IsFrame, IsEnd}
use Rattle.frame_log.specs.declared.walking.Item.{Item}
use Rattle.frame_log.specs.declared.walking.Item.TheVariants as items
use Rattle.frame_log.specs.declared.walking.Stop.{Stop}
use Rattle.frame_log.specs.declared.walking.Stop.TheVariants as stops

-- the payloads that a walk passes: one that seeks Moved stops there
abbrev pub MayPass : Bool → List ℕ → Type 0
MayPass true payload = IsOwn payload
MayPass false payload = IsPayload payload

-- the bytes begin with this
abbrev pub IsItem : Bool → List ℕ → Item → Type 0
IsItem seek bytes (items.Payload count) = IsFrame bytes (take count (drop 5 bytes)) × MayPass seek (take count (drop 5 bytes))
IsItem seek bytes (items.Moved place) = IsFrame bytes (moved place)
IsItem seek bytes (items.End gate) = IsEnd bytes gate
IsItem seek bytes items.Broken = part bytes ≡ Broken

-- a frame that is found, and another byte, fit in what is left of the file
abbrev pub ItemFits : Bool → ℕ → Item → Type 0
ItemFits seek left (items.Payload count) = 6 + count ≤ left
ItemFits seek left (items.Moved place) = (seek ≡ true) × (15 ≤ left)
ItemFits seek left (items.End gate) = Unit {0}
ItemFits seek left items.Broken = Unit {0}

-- From one gate to another the file has frames that a walk passes.
pub record Walked (seek : Bool) (file : List ℕ) (from at : ℕ) : Type 0 where
  pub payloads : List (List ℕ)
  pub sized : AllByRecursion (MayPass seek) payloads
  pub split : drop from file ≡ frames payloads ++ drop at file
  pub place : at ≡ from + length (frames payloads)

-- an end gate, or Moved
abbrev pub IsStop : Bool → List ℕ → ℕ → Stop → Type 0
IsStop seek file from (stops.End at gate) = Walked seek file from at × IsEnd (drop at file) gate
IsStop seek file from (stops.Moved at place) = Walked seek file from at × IsFrame (drop at file) (moved place)

abbrev pub StopFits : Bool → ℕ → Stop → Type 0
StopFits seek size (stops.End at gate) = at < size
StopFits seek size (stops.Moved at place) = (seek ≡ true) × (at + 15 ≤ size)

-- From one gate on the file has frames that a walk passes, and then a gate byte 1 that no frame follows.
pub record BreaksAt (seek : Bool) (file : List ℕ) (from at : ℕ) : Type 0 where
  pub inside : at < length file
  pub walked : Walked seek file from at
  pub broken : part (drop at file) ≡ Broken
