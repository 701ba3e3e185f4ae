-- The bytes of a log before its first frame: the magic, or, once it was compacted, all up to the end of the image that counts.
use Rattle.std.specs.Prelude.{◌≡◌, ◌≢◌, ◌⊎◌, ℕ, ◌+◌, ◌<◌, ◌^◌, List, ◌∷◌, ◌++◌, length, Option, Some, None}
use Rattle.std.specs.List.{AllByRecursion}
use Rattle.std.specs.Int.{w64, to_be_bytes}
use Rattle.frame_log.specs.Format.{frames, front, behind, magic, IsPayload}
use Rattle.frame_log.specs.FormatTwo.{Holds, IsOwn, IsTorn, LogStart, Selector, byte_at, counting, holding, log_in, moved, selector_in}

-- frames of payloads behind these bytes
abbrev pub front_on : List ℕ → List (List ℕ) → List ℕ
front_on base payloads = base ++ frames payloads

-- payloads, the frame that says where the log goes on, the end gate after it, the bytes of two selectors, and any bytes
abbrev pub moved_on : ℕ → List (List ℕ) → ℕ → ℕ → List ℕ → List ℕ → List ℕ → List ℕ
moved_on file old q end a b tail = front file old ++ 1 ∷ (behind (moved q) ++ end ∷ (a ++ (b ++ tail)))

-- The area from which a log goes on: the payloads before the selectors and the end gate after these, the bytes of each selector, those
-- between them and the area, and its image.
pub record Area : Type 0 where
  pub old : List (List ℕ)
  pub end : ℕ
  pub first : List ℕ
  pub second : List ℕ
  pub gap : List ℕ
  pub image : List ℕ

-- the place of the first selector
abbrev pub selectors_at : Area → ℕ
selectors_at area = 8 + length (frames area.old) + 15

-- the place of the area
abbrev pub area_at : Area → ℕ
area_at area = selectors_at area + 34 + length area.gap

abbrev pub area_start : Area → LogStart
area_start area = record { place = area_at area + 8; image = area.image }

-- the bytes between the selectors and the first frame
abbrev pub behind_selectors : Area → List ℕ
behind_selectors area = area.gap ++ (to_be_bytes w64 (length area.image) ++ area.image)

abbrev pub area_base : ℕ → Area → List ℕ
area_base file area = moved_on file area.old (selectors_at area) area.end area.first area.second (behind_selectors area)

-- the payloads before the area, a gate that may be torn, and then the area with its end gate shut
abbrev pub moving_file : ℕ → Area → ℕ → List ℕ → List ℕ
moving_file file area gate rest =
    front file area.old ++ gate ∷ (behind (moved (selectors_at area)) ++ area.end ∷ (area.first ++ (area.second ++ (behind_selectors area ++ 0 ∷ rest))))

-- The selector that counts names the area.
pub record IsArea (area : Area) : Type 0 where
  pub own : AllByRecursion IsOwn area.old
  pub named : Selector
  pub counts : counting (selector_in area.first) (selector_in area.second) ≡ Some named
  pub place : named.place ≡ area_at area
  pub first : length area.first ≡ 17
  pub second : length area.second ≡ 17
  pub shut : area.end ≢ 1
  pub near : selectors_at area < 2 ^ 64
  pub small : length area.image < 2 ^ 64

-- the gate of a selector is open or shut, and not torn
abbrev pub IsWhole : List ℕ → Type 0
IsWhole selector = ((selector_in selector).gate ≡ 0) ⊎ ((selector_in selector).gate ≡ 1)

-- What a payload may be: Moved is one only in an area, where it moves nothing.
abbrev pub MayFollow : Option LogStart → List ℕ → Type 0
MayFollow None payload = IsOwn payload
MayFollow (Some start) payload = IsPayload payload

-- Bytes after which frames are read as a log from this start. The gates that a crash may have torn are the end gate, and gates among
-- these bytes that are open: those change nothing.
pub record IsBaseOf (file : ℕ) (start : Option LogStart) (base : List ℕ) : Type 0 where
  pub reads : (payloads : List (List ℕ)) (gate : ℕ) (rest : List ℕ) → AllByRecursion (MayFollow start) payloads → gate ≢ 1
      → log_in file (front_on base payloads ++ gate ∷ rest) ≡ Holds (holding start payloads)
  pub torn : (payloads : List (List ℕ)) (gate : ℕ) (rest : List ℕ) → AllByRecursion (MayFollow start) payloads → gate ≢ 1
      → (k : ℕ) → IsTorn file (front_on base payloads ++ gate ∷ rest) k → (k ≡ length (front_on base payloads)) ⊎ ((k < length base) × (byte_at k base ≡ 1))

-- What a log stands on: nothing but its magic, or an area.

abbrev pub base_bytes : ℕ → Option Area → List ℕ
base_bytes file None = magic file
base_bytes file (Some area) = area_base file area

abbrev pub start_of : Option Area → Option LogStart
start_of None = None
start_of (Some area) = Some (area_start area)

-- a selector counts, and none is torn
pub record IsWholeArea (area : Area) : Type 0 where
  pub is : IsArea area
  pub first : IsWhole area.first
  pub second : IsWhole area.second

abbrev pub IsBase : Option Area → Type 0
IsBase None = Unit {0}
IsBase (Some area) = IsWholeArea area

-- the bytes before the end gate
abbrev pub front_of : ℕ → Option Area → List (List ℕ) → List ℕ
front_of file base payloads = front_on (base_bytes file base) payloads
