-- A head and a body make a request.
use Rattle.std.proofs.Common.{◌≡◌, ℕ, List, ◌++◌, ◌+◌, length, length-append, Option, Ok, Err, refl, sym, ap, ◌∙◌, inr}
use Rattle.std.proofs.KnownBytes.{Consumes-trans}
use Rattle.httparse.specs.Grammar.{RequestHead}
use Rattle.http_wire.specs.declared.faults.WireFault.{WireFault}
use Rattle.http_wire.specs.declared.faults.WireFault.TheVariants.{End, BadHead, HeadTooLong, BadLength, BodyTooLong, Chunked, EndedEarly, ReadFault, NoMemory}
use Rattle.http_wire.specs.declared.parsing.Parts.{Parts}
use Rattle.http_wire.specs.Fields.{fields_of, body_length}
use Rattle.http_wire.specs.Message.{Message}
use Rattle.http_wire.specs.Parsing.{HasHeadParts, message_from}
use Rattle.http_wire.specs.Requests.{SpellsHead, CutsBody, SpellsOutcome, TakesHead, TakesBody, TakesRequest, StopsInBody, StopsFor}

spells_cut : (head body : List ℕ) (h : RequestHead) (size : ℕ) → SpellsHead head h → body_length (fields_of h) ≡ Ok size → (fault : WireFault) → CutsBody size body fault → SpellsOutcome (head ++ body) (Err fault)
spells_cut head body h size is declared EndedEarly cut = inr (record { head = head; body = body; h = h; size = size; spells = is; whole = refl; sized = declared; missing = cut })
spells_cut head body h size is declared ReadFault cut = tt
spells_cut head body h size is declared NoMemory cut = tt
spells_cut head body h size is declared End cut = absurd cut
spells_cut head body h size is declared BadHead cut = absurd cut
spells_cut head body h size is declared HeadTooLong cut = absurd cut
spells_cut head body h size is declared BadLength cut = absurd cut
spells_cut head body h size is declared BodyTooLong cut = absurd cut
spells_cut head body h size is declared Chunked cut = absurd cut

-- the head was read, and the body was not
pub stops_in_body : (old mid new : Option (List ℕ)) (head : List ℕ) (h : RequestHead) (parts : Parts) (fault : WireFault) → TakesHead old mid head → HasHeadParts head h parts → StopsInBody mid new parts.size fault → StopsFor old new fault
stops_in_body old mid new head h parts fault taken has stops = record {
  bytes = head ++ stops.bytes;
  used = Consumes-trans old mid new head stops.bytes taken.used stops.used;
  spells = spells_cut head stops.bytes h parts.size (record { text = taken.text; is = has.is }) has.sized fault stops.cuts;
  ended = stops.ended;
}

-- both were read, and memory ran out for the request
pub stops_without_memory : (old mid new : Option (List ℕ)) (head body : List ℕ) (size : ℕ) → TakesHead old mid head → TakesBody mid new size body → StopsFor old new NoMemory
stops_without_memory old mid new head body size taken more = record {
  bytes = head ++ body;
  used = Consumes-trans old mid new head body taken.used more.used;
  spells = tt;
  ended = tt;
}

-- both were read
pub takes : (old mid new : Option (List ℕ)) (head body : List ℕ) (h : RequestHead) (parts : Parts) (message : Message) → TakesHead old mid head → HasHeadParts head h parts → TakesBody mid new parts.size body → message ≡ message_from head parts body → TakesRequest old new message
takes old mid new head body h parts message taken has more made = let same : message.body ≡ body = ap (λ (m : Message). m.body) made in record {
  bytes = head ++ body;
  used = Consumes-trans old mid new head body taken.used more.used;
  spells = record {
    head = head;
    h = h;
    spells = record { text = taken.text; is = has.is };
    whole = ap (λ b. head ++ b) (sym same);
    sized = has.sized ∙ ap (λ n. Ok n) (sym more.whole ∙ ap length (sym same));
    method = ap (λ (m : Message). m.method) made ∙ has.method;
    target = ap (λ (m : Message). m.target) made ∙ has.target;
    size = ap (λ (m : Message). m.size) made ∙ sym (length-append head body);
    keep = ap (λ (m : Message). m.keep) made ∙ has.keep;
  };
}
