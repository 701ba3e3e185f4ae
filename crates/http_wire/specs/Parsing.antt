-- The positions of the parts of a request in its head.
use Rattle.std.specs.Prelude.{◌≡◌, ℕ, ◌+◌, List, [], length, Ok}
use Rattle.httparse.specs.Grammar.{RequestHead, ReadsRequest}
use Rattle.httparse.specs.Spans.{IsWithin, IsRequestWithin, IsRequestAt, span_bytes}
use Rattle.httparse.specs.declared.spans.HeaderSpan.{HeaderSpan}
use Rattle.httparse.specs.declared.spans.RequestSpans.{RequestSpans}
use Rattle.http_wire.specs.declared.parsing.Parts.{Parts}
use Rattle.http_wire.specs.Fields.{fields_of, body_length, keeps}
use Rattle.http_wire.specs.Heads.{IsHead}
use Rattle.http_wire.specs.Message.{Message}

-- All of these bytes are one head, and these are its spans.
pub record FoundHead (bytes : List ℕ) (headers : List HeaderSpan) (spans : RequestSpans) (h : RequestHead) : Type 0 where
  pub reads : ReadsRequest bytes h []
  pub within : IsRequestWithin bytes headers spans
  pub at : IsRequestAt bytes headers spans h

-- All of these bytes are one head, and these are its parts.
pub record HasHeadParts (bytes : List ℕ) (h : RequestHead) (parts : Parts) : Type 0 where
  pub is : IsHead bytes h
  pub method_within : IsWithin (length bytes) parts.method
  pub target_within : IsWithin (length bytes) parts.target
  pub method : span_bytes bytes parts.method ≡ h.method
  pub target : span_bytes bytes parts.target ≡ h.target
  pub sized : body_length (fields_of h) ≡ Ok parts.size
  pub keep : parts.keep ≡ keeps h.minor (fields_of h)

-- the request of a head with these parts and of a body
abbrev pub message_from : List ℕ → Parts → List ℕ → Message
message_from head parts body = record { method = span_bytes head parts.method; target = span_bytes head parts.target; body = body; size = length head + length body; keep = parts.keep }

-- The parts that the fields give.
pub record GivesParts (fields : List (List ℕ × List ℕ)) (spans : RequestSpans) (parts : Parts) : Type 0 where
  pub method : parts.method ≡ spans.method
  pub target : parts.target ≡ spans.path
  pub sized : body_length fields ≡ Ok parts.size
  pub keep : parts.keep ≡ keeps spans.version fields
