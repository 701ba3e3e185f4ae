-- What the bytes of a connection mean, up to the end of a request or a fault.
use Rattle.std.specs.Prelude.{◌≡◌, ◌⊎◌, ℕ, ◌<◌, List, [], ◌∷◌, ◌++◌, length, Result, Ok, Err, Option, None, Some, MatchBool}
use Rattle.std.specs.Io.KnownBytes.{Consumes, IsAtEnd}
use Rattle.httparse.specs.Grammar.{RequestHead}
use Rattle.http_wire.specs.declared.faults.WireFault.{WireFault}
use Rattle.http_wire.specs.declared.faults.WireFault.TheVariants.{End, BadHead, HeadTooLong, BadLength, BodyTooLong, Chunked, EndedEarly, ReadFault, NoMemory}
use Rattle.http_wire.specs.Heads.{IsHeadText, IsHead, HasNoEnd}
use Rattle.http_wire.specs.Message.{Message}
use Rattle.http_wire.specs.Fields.{fields_of, body_length, keeps}

-- The bytes are a head of a request.
pub record SpellsHead (bytes : List ℕ) (h : RequestHead) : Type 0 where
  pub text : IsHeadText bytes
  pub is : IsHead bytes h

-- The bytes are a request: a head, and a body of the declared length.
pub record SpellsRequest (bytes : List ℕ) (message : Message) : Type 0 where
  pub head : List ℕ
  pub h : RequestHead
  pub spells : SpellsHead head h
  pub whole : bytes ≡ head ++ message.body
  pub sized : body_length (fields_of h) ≡ Ok (length message.body)
  pub method : message.method ≡ h.method
  pub target : message.target ≡ h.target
  pub size : message.size ≡ length bytes
  pub keep : message.keep ≡ keeps h.minor (fields_of h)

-- The bytes are a head, and its fields have this fault.
pub record Faulty (bytes : List ℕ) (fault : WireFault) : Type 0 where
  pub h : RequestHead
  pub is : IsHead bytes h
  pub why : body_length (fields_of h) ≡ Err fault

-- The bytes begin a head that does not end.
pub record BeginsHead (bytes : List ℕ) : Type 0 where
  pub some : 0 < length bytes
  pub few : length bytes < 16384
  pub no_end : HasNoEnd bytes

-- The bytes are a head and less than the declared body.
pub record BeginsBody (bytes : List ℕ) : Type 0 where
  pub head : List ℕ
  pub body : List ℕ
  pub h : RequestHead
  pub size : ℕ
  pub spells : SpellsHead head h
  pub whole : bytes ≡ head ++ body
  pub sized : body_length (fields_of h) ≡ Ok size
  pub missing : length body < size

-- why a head is refused
abbrev pub RefusesHead : List ℕ → WireFault → Type 0
RefusesHead bytes BadHead = (h : RequestHead) → ¬ IsHead bytes h
RefusesHead bytes Chunked = Faulty bytes Chunked
RefusesHead bytes BadLength = Faulty bytes BadLength
RefusesHead bytes BodyTooLong = Faulty bytes BodyTooLong
RefusesHead bytes End = ⊥
RefusesHead bytes HeadTooLong = ⊥
RefusesHead bytes EndedEarly = ⊥
RefusesHead bytes ReadFault = ⊥
RefusesHead bytes NoMemory = ⊥

-- what the used bytes are, for each outcome
abbrev pub SpellsOutcome : List ℕ → Result Message WireFault → Type 0
SpellsOutcome used (Ok message) = SpellsRequest used message
SpellsOutcome used (Err End) = used ≡ []
SpellsOutcome used (Err EndedEarly) = BeginsHead used ⊎ BeginsBody used
SpellsOutcome used (Err HeadTooLong) = (length used ≡ 16384) × HasNoEnd used
SpellsOutcome used (Err BadHead) = IsHeadText used × RefusesHead used BadHead
SpellsOutcome used (Err Chunked) = IsHeadText used × RefusesHead used Chunked
SpellsOutcome used (Err BadLength) = IsHeadText used × RefusesHead used BadLength
SpellsOutcome used (Err BodyTooLong) = IsHeadText used × RefusesHead used BodyTooLong
SpellsOutcome used (Err ReadFault) = Unit {0}
SpellsOutcome used (Err NoMemory) = Unit {0}

-- after these faults no bytes are left
abbrev pub Ended : WireFault → Option (List ℕ) → Type 0
Ended End left = IsAtEnd left
Ended EndedEarly left = IsAtEnd left
Ended BadHead left = Unit {0}
Ended HeadTooLong left = Unit {0}
Ended BadLength left = Unit {0}
Ended BodyTooLong left = Unit {0}
Ended Chunked left = Unit {0}
Ended ReadFault left = Unit {0}
Ended NoMemory left = Unit {0}

-- A head was read, and its bytes were used.
pub record TakesHead (old new : Option (List ℕ)) (head : List ℕ) : Type 0 where
  pub used : Consumes old new head
  pub text : IsHeadText head

-- A request was read, and its bytes were used.
pub record TakesRequest (old new : Option (List ℕ)) (message : Message) : Type 0 where
  pub bytes : List ℕ
  pub used : Consumes old new bytes
  pub spells : SpellsRequest bytes message

-- No request was read; these bytes were used, and they are the reason.
pub record StopsFor (old new : Option (List ℕ)) (fault : WireFault) : Type 0 where
  pub bytes : List ℕ
  pub used : Consumes old new bytes
  pub spells : SpellsOutcome bytes (Err fault)
  pub ended : Ended fault new

-- A body of this length was read, and its bytes were used.
pub record TakesBody (old new : Option (List ℕ)) (size : ℕ) (body : List ℕ) : Type 0 where
  pub used : Consumes old new body
  pub whole : length body ≡ size

-- what the used bytes of a body are, if it was not read whole
abbrev pub CutsBody : ℕ → List ℕ → WireFault → Type 0
CutsBody size used EndedEarly = length used < size
CutsBody size used ReadFault = Unit {0}
CutsBody size used NoMemory = Unit {0}
CutsBody size used End = ⊥
CutsBody size used BadHead = ⊥
CutsBody size used HeadTooLong = ⊥
CutsBody size used BadLength = ⊥
CutsBody size used BodyTooLong = ⊥
CutsBody size used Chunked = ⊥

-- The body was not read whole.
pub record StopsInBody (old new : Option (List ℕ)) (size : ℕ) (fault : WireFault) : Type 0 where
  pub bytes : List ℕ
  pub used : Consumes old new bytes
  pub cuts : CutsBody size bytes fault
  pub ended : Ended fault new

-- the outcome depends on the bytes alone
abbrev pub IsOfBytes : Result Message WireFault → Type 0
IsOfBytes (Ok message) = Unit {0}
IsOfBytes (Err End) = Unit {0}
IsOfBytes (Err BadHead) = Unit {0}
IsOfBytes (Err HeadTooLong) = Unit {0}
IsOfBytes (Err BadLength) = Unit {0}
IsOfBytes (Err BodyTooLong) = Unit {0}
IsOfBytes (Err Chunked) = Unit {0}
IsOfBytes (Err EndedEarly) = Unit {0}
IsOfBytes (Err ReadFault) = ⊥
IsOfBytes (Err NoMemory) = ⊥

-- no bytes are left after an outcome that implies it
abbrev pub UsedUp : Result Message WireFault → List ℕ → Type 0
UsedUp (Ok message) rest = Unit {0}
UsedUp (Err fault) rest = Ended fault (Some rest)

-- What these bytes begin with, and what is left after it.
pub record BeginsAs (all : List ℕ) (outcome : Result Message WireFault) (rest : List ℕ) : Type 0 where
  pub used : List ℕ
  pub whole : all ≡ used ++ rest
  pub of_bytes : IsOfBytes outcome
  pub spells : SpellsOutcome used outcome
  pub ended : UsedUp outcome rest

-- If the bytes to come are known, the answer is what they begin with, and the rest after it is still to come,
-- in whatever blocks they are read, unless the source failed or memory ran out.
abbrev pub IsExact : Option (List ℕ) → Option (List ℕ) → Result Message WireFault → Type 0
IsExact old new result = (all : List ℕ) (outcome : Result Message WireFault) (rest : List ℕ) → old ≡ Some all → BeginsAs all outcome rest → IsOfBytes result → (result ≡ outcome) × (new ≡ Some rest)

-- the requests of these bytes, up to the first one that closes the connection or the first fault
abbrev pub HasRequests : List ℕ → List Message → Option WireFault → Type 0
HasRequests all [] None = ⊥
HasRequests all [] (Some fault) = (rest : List ℕ) × BeginsAs all (Err fault) rest
HasRequests all (message ∷ more) last = (rest : List ℕ) × BeginsAs all (Ok message) rest × MatchBool message.keep (HasRequests rest more last) ((more ≡ []) × (last ≡ None))
