-- The meaning of the bytes of a log file, of format 1 or 2. `frame_log.specs.Format` stays as it is: it reads frames, whatever they hold.
use Rattle.std.specs.Prelude.{◌≡◌, ◌≢◌, ℕ, zero, suc, ◌+◌, ◌%◌, ◌^◌, Bool, true, false, not, ◌&&◌, List, [], ◌∷◌, ◌++◌, length, take, drop, set, Option, Some, None, nat_lt, nat_le, ◌==◌, if◌then◌else◌, ⊤}
use Rattle.std.specs.List.{list_any}
use Rattle.std.specs.Int.{w64, to_be_bytes, from_be_bytes}
use Rattle.frame_log.specs.Format.{magic, frames, IsPayload, Part, Frame, End, Broken, part, LogReading, NoLog, Found, frames_at, starts_with, log_of}

-- an image, and its place in the file
pub record LogStart : Type 0 where
  pub place : ℕ
  pub image : List ℕ

-- what a log holds: the image that it starts from, if it was compacted, and the payloads since
pub record Content : Type 0 where
  pub start : Option LogStart
  pub payloads : List (List ℕ)

abbrev pub holding : Option LogStart → List (List ℕ) → Content
holding start payloads = record { start = start; payloads = payloads }

abbrev pub since_nothing : List (List ℕ) → Content
since_nothing payloads = record { start = None; payloads = payloads }

abbrev pub since : ℕ → List ℕ → List (List ℕ) → Content
since place image payloads = record { start = Some (record { place = place; image = image }); payloads = payloads }

-- the offset of the first gate of its frames, and that of the end gate
abbrev pub first_gate : Option LogStart → ℕ
first_gate None = 8
first_gate (Some s) = s.place + length s.image

abbrev pub end_gate : Content → ℕ
end_gate c = first_gate c.start + length (frames c.payloads)

-- one payload more
abbrev pub adding : Content → List ℕ → Content
adding c payload = record c { payloads = c.payloads ++ payload ∷ [] }

-- A log of this content, or a file that is not a log. The end gate byte is not part of it.
pub data WholeReading : Type 0 where
  Damage : (at : ℕ) → WholeReading
  Holds : (content : Content) → WholeReading

-- the payload that says that the log goes on at selectors
abbrev pub moved : ℕ → List ℕ
moved place = 255 ∷ to_be_bytes w64 place

abbrev pub first_byte : List ℕ → ℕ
first_byte [] = 0
first_byte (b ∷ bytes) = b

abbrev pub is_moved : List ℕ → Bool
is_moved payload = first_byte payload == 255 && length payload == 9

-- the frame with it: the offset of its gate, the place it names, and the bytes after the frame
pub record Moving : Type 0 where
  pub gate : ℕ
  pub place : ℕ
  pub rest : List ℕ

abbrev pub on_moving : (ℕ → List ℕ → Option Moving) → ℕ → Part → Option Moving
on_moving later at (Frame payload rest) =
    if is_moved payload then Some (record { gate = at; place = from_be_bytes w64 (drop 1 payload); rest = rest }) else later (at + 5 + length payload) rest
on_moving later at (End gate) = None
on_moving later at Broken = None

-- the first such frame from the gate at this offset on; n is greater than the number of frames
abbrev pub moving_at : ℕ → ℕ → List ℕ → Option Moving
moving_at zero at bytes = None
moving_at (suc n) at bytes = on_moving (moving_at n) at (part bytes)

-- a gate byte, a turn, and the place of an area
pub record Selector : Type 0 where
  pub gate : ℕ
  pub turn : ℕ
  pub place : ℕ

abbrev pub selector_bytes : Selector → List ℕ
selector_bytes s = s.gate ∷ (to_be_bytes w64 s.turn ++ to_be_bytes w64 s.place)

abbrev pub selector_in : List ℕ → Selector
selector_in bytes = record { gate = first_byte bytes; turn = from_be_bytes w64 (take 8 (drop 1 bytes)); place = from_be_bytes w64 (take 8 (drop 9 bytes)) }

abbrev pub next_turn : ℕ → ℕ
next_turn turn = (turn + 1) % 2 ^ 64

-- of two selectors that are open: the one whose turn comes after the other's
abbrev pub newer : Selector → Selector → Option Selector
newer a b = if b.turn == next_turn a.turn then Some b else (if a.turn == next_turn b.turn then Some a else None)

-- the selector that counts
abbrev pub counting : Selector → Selector → Option Selector
counting a b = if a.gate == 1 then (if b.gate == 1 then newer a b else Some a) else (if b.gate == 1 then Some b else None)

-- an image, and then frames
abbrev pub started : ℕ → List ℕ → LogReading → WholeReading
started place image (NoLog at) = Damage at
started place image (Found payloads gate) = Holds (since place image payloads)

-- the area whose first byte is at this place: `rest` follows the size of its image
abbrev pub sized_area : ℕ → ℕ → ℕ → List ℕ → WholeReading
sized_area n place size rest = if nat_lt size (length rest) then started (place + 8) (take size rest) (frames_at n (place + 8 + size) (drop size rest)) else Damage place

abbrev pub area_in : ℕ → ℕ → List ℕ → WholeReading
area_in n place bytes = if nat_le 8 (length bytes) then sized_area n place (from_be_bytes w64 (take 8 bytes)) (drop 8 bytes) else Damage place

abbrev pub on_counting : ℕ → List ℕ → Option Selector → WholeReading
on_counting q bytes None = Damage q
on_counting q bytes (Some s) = if nat_le (q + 34) s.place then area_in (length bytes) s.place (drop s.place bytes) else Damage s.place

-- the selectors at q, from which on the file has the bytes `rest`
abbrev pub on_selectors : ℕ → List ℕ → List ℕ → WholeReading
on_selectors q bytes rest = if nat_le 34 (length rest) then on_counting q bytes (counting (selector_in (take 17 rest)) (selector_in (take 17 (drop 17 rest)))) else Damage q

abbrev pub on_moved : List ℕ → Moving → WholeReading
on_moved bytes m = if m.place == m.gate + 15 && not (first_byte m.rest == 1) then on_selectors m.place bytes (drop 1 m.rest) else Damage m.gate

abbrev pub of_frames : LogReading → WholeReading
of_frames (NoLog at) = Damage at
of_frames (Found payloads gate) = Holds (since_nothing payloads)

abbrev pub by_moving : List ℕ → Option Moving → LogReading → WholeReading
by_moving bytes None reading = of_frames reading
by_moving bytes (Some m) reading = on_moved bytes m

-- A file of these bytes, read as a log.
abbrev pub log_in : ℕ → List ℕ → WholeReading
log_in file bytes =
    if nat_le (length bytes) 9
    then Holds (since_nothing [])
    else (if starts_with (magic file) bytes then by_moving bytes (moving_at (length bytes) 8 (drop 8 bytes)) (log_of file bytes) else Damage 0)

-- the gate bytes that a crash may have torn: the end gate, and in format 2 those of the selectors
abbrev pub gates : Option Moving → WholeReading → List ℕ
gates moving (Damage at) = []
gates None (Holds c) = end_gate c ∷ []
gates (Some m) (Holds c) = m.place ∷ (m.place + 17) ∷ end_gate c ∷ []

abbrev pub gates_of : ℕ → List ℕ → List ℕ
gates_of file bytes = if nat_le (length bytes) 9 then [] else gates (moving_at (length bytes) 8 (drop 8 bytes)) (log_in file bytes)

abbrev pub byte_at : ℕ → List ℕ → ℕ
byte_at k bytes = first_byte (drop k bytes)

-- one of these gates that isn't 0
pub record IsTorn (file : ℕ) (bytes : List ℕ) (k : ℕ) : Type 0 where
  pub gate : list_any (λ g. g == k) (gates_of file bytes) ≡ true
  pub not_shut : byte_at k bytes ≢ 0

-- each is one, once those before it are read as 1
abbrev pub AreTorn : ℕ → List ℕ → List ℕ → Type 0
AreTorn file [] bytes = ⊤
AreTorn file (k ∷ ks) bytes = IsTorn file bytes k × AreTorn file ks (set bytes k 1)

abbrev pub with_ones : List ℕ → List ℕ → List ℕ
with_ones [] bytes = bytes
with_ones (k ∷ ks) bytes = with_ones ks (set bytes k 1)

-- the bytes may be read so: as they are, or with some of their gates that aren't 0 read as 1
pub record MayRead (file : ℕ) (bytes : List ℕ) (reading : WholeReading) : Type 0 where
  pub opened : List ℕ
  pub torn : AreTorn file opened bytes
  pub reads : log_in file (with_ones opened bytes) ≡ reading

-- however they are read, the bytes are a log with P
abbrev pub Always : ℕ → (Content → Type 0) → List ℕ → Type 0
Always file P bytes = (reading : WholeReading) → MayRead file bytes reading → (c : Content) × (reading ≡ Holds c) × P c

-- a payload that a log may hold: Moved is the log's own
pub record IsOwn (payload : List ℕ) : Type 0 where
  pub fits : IsPayload payload
  pub own : is_moved payload ≡ false
