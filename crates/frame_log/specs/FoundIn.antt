-- What reading a log of either format finds.
use Rattle.std.specs.Prelude.{◌≡◌, ◌≢◌, ℕ, ◌+◌, ◌<◌, ◌≤◌, ◌^◌, true, false, List, ◌∷◌, ◌++◌, length, take, drop, MatchOption, Option, Some, None, if◌then◌else◌}
use Rattle.std.specs.List.{AllByRecursion}
use Rattle.std.specs.Int.{w64, to_be_bytes}
use Rattle.frame_log.specs.Format.{magic, starts_with}
use Rattle.frame_log.specs.FormatTwo.{Holds, Moving, Selector, byte_at, counting, holding, log_in, moved, selector_in}
use Rattle.frame_log.specs.Bases.{Area, IsArea, MayFollow, area_at, base_bytes, front_of, selectors_at, start_of}
use Rattle.frame_log.specs.Scan.{IsFrame, IsEnd}
use Rattle.frame_log.specs.Walked.{Walked}
use Rattle.frame_log.specs.declared.log.Selected.{Selected}
use Rattle.frame_log.specs.declared.selecting.ReadSelector.{ReadSelector}
use Rattle.frame_log.specs.declared.selecting.Choice.{Choice}
use Rattle.frame_log.specs.declared.formats.AreaFound.{AreaFound}
use Rattle.frame_log.specs.declared.formats.LogFound.{LogFound}

abbrev pub as_selector : ReadSelector → Selector
as_selector s = record { gate = s.gate; turn = s.turn; place = s.place }

-- Of two selectors behind each other at q, the open one that is chosen counts.
pub record Chooses (q : ℕ) (first second : Selector) (c : Choice) : Type 0 where
  pub counts : counting first second ≡ Some (if c.selected.second then second else first)
  pub selectors : c.selected.selectors ≡ q
  pub gate : (if c.selected.second then second else first).gate ≡ 1
  pub other : c.other ≡ (if c.selected.second then first else second).gate
  pub turn : c.selected.turn ≡ (if c.selected.second then second else first).turn
  pub place : c.selected.place ≡ (if c.selected.second then second else first).place

-- the 17 bytes of a file at this place
abbrev pub selector_bytes_at : ℕ → List ℕ → List ℕ
selector_bytes_at k bytes = take 17 (drop k bytes)

-- what reading the two selectors at this place gives
abbrev pub IsChosen : List ℕ → ℕ → Option Choice → Type 0
IsChosen bytes at choice =
    MatchOption choice (counting (selector_in (selector_bytes_at at bytes)) (selector_in (selector_bytes_at (at + 17) bytes)) ≡ None)
    (λ c. Chooses at (selector_in (selector_bytes_at at bytes)) (selector_in (selector_bytes_at (at + 17) bytes)) c)

-- the frame of Moved whose gate is here, in these bytes
abbrev pub moving_from : ℕ → ℕ → List ℕ → Moving
moving_from gate q bytes = record { gate = gate; place = q; rest = drop (gate + 14) bytes }

-- The frame of Moved whose gate is here names the selectors behind it. They lie in the file, and one counts.
pub record IsChoice (bytes : List ℕ) (gate q : ℕ) (c : Choice) : Type 0 where
  pub place : q ≡ gate + 15
  pub shut : byte_at (gate + 14) bytes ≢ 1
  pub room : q + 34 ≤ length bytes
  pub chooses : Chooses q (selector_in (selector_bytes_at q bytes)) (selector_in (selector_bytes_at (q + 17) bytes)) c

-- An area whose image has `size` bytes lies in the file from this place on: frames follow the image, and then an end gate.
pub record IsAreaIn (bytes : List ℕ) (place : ℕ) (found : AreaFound) : Type 0 where
  pub size : ℕ
  pub number : to_be_bytes w64 size ≡ take 8 (drop place bytes)
  pub room : place + 8 + size < length bytes
  pub first : found.first ≡ place + 8 + size
  pub walked : Walked false bytes found.first found.end
  pub ends : IsEnd (drop found.end bytes) found.gate

-- Behind the magic and payloads of the log's own the file has Moved, which names this place.
pub record Moves (file : ℕ) (bytes : List ℕ) (gate q : ℕ) : Type 0 where
  pub begins : starts_with (magic file) bytes ≡ true
  pub walked : Walked true bytes 8 gate
  pub frame : IsFrame (drop gate bytes) (moved q)
  pub small : q < 2 ^ 64

-- The selector that counts is open and names the area; `gate` is the gate byte of the other one.
pub record Picks (area : Area) (selected : Selected) (gate : ℕ) : Type 0 where
  pub selectors : selected.selectors ≡ selectors_at area
  pub counts : counting (selector_in area.first) (selector_in area.second) ≡ Some (selector_in (if selected.second then area.second else area.first))
  pub is_open : (selector_in (if selected.second then area.second else area.first)).gate ≡ 1
  pub turn : selected.turn ≡ (selector_in (if selected.second then area.second else area.first)).turn
  pub place : selected.place ≡ area_at area
  pub other : gate ≡ (selector_in (if selected.second then area.first else area.second)).gate

-- a selector is picked exactly if there is an area
abbrev pub PicksAny : Option Area → Option Selected → ℕ → Type 0
PicksAny None None other = other ≡ 0
PicksAny (Some area) (Some selected) other = Picks area selected other
PicksAny None (Some selected) other = ⊥
PicksAny (Some area) None other = ⊥

abbrev pub IsAnyArea : Option Area → Type 0
IsAnyArea None = Unit {0}
IsAnyArea (Some area) = IsArea area

-- The file is what the log stands on, frames of these payloads, and an end gate. A gate of it may be torn.
pub record IsFoundIn (file : ℕ) (bytes : List ℕ) (found : LogFound) : Type 0 where
  pub base : Option Area
  pub payloads : List (List ℕ)
  pub rest : List ℕ
  pub is_area : IsAnyArea base
  pub sized : AllByRecursion (MayFollow (start_of base)) payloads
  pub split : bytes ≡ front_of file base payloads ++ found.gate ∷ rest
  pub shut : found.gate ≢ 1
  pub first : found.first ≡ length (base_bytes file base)
  pub end : found.end ≡ length (front_of file base payloads)
  pub picks : PicksAny base found.area found.other
  pub reads : log_in file bytes ≡ Holds (holding (start_of base) payloads)
