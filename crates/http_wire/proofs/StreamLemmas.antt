-- The bytes of a connection determine what it begins with.
use Rattle.std.proofs.Common.{◌≡◌, ℕ, ◌+◌, ◌<◌, ◌≤◌, true, false, cond, ltb, List, [], ◌∷◌, ◌++◌, length, length-append, take, Result, Ok, Err, refl, sym, ap, ◌∙◌, subst, inl, inr, ⊎_elim, arith, append-nil, append_assoc}
use Rattle.std.specs.Prelude.{◌⊎◌, Option, None, Some, IfOk, IfErr, MatchBool}
use Rattle.std.specs.Io.KnownBytes.{Consumes}
use Rattle.std.proofs.lemmas.Bool.{cases_order, cond-true, cond-false, lt-ltb, le-ltb}
use Rattle.std.proofs.lemmas.List.{take-append-le, take_all, append_cancel_left}
use Rattle.httparse.specs.Grammar.{RequestHead}
use Rattle.httparse.proofs.GrammarLemmas.{request_unique}
use Rattle.http_wire.specs.declared.faults.WireFault.{WireFault}
use Rattle.http_wire.specs.declared.faults.WireFault.TheVariants.{End, BadHead, HeadTooLong, BadLength, BodyTooLong, Chunked, EndedEarly, ReadFault, NoMemory}
use Rattle.http_wire.specs.Fields.{fields_of, body_length, keeps}
use Rattle.http_wire.specs.Heads.{EndsHead, HasNoEnd, IsHeadText, IsHead}
use Rattle.http_wire.specs.Message.{Message}
use Rattle.http_wire.specs.Requests.{SpellsRequest, BeginsHead, BeginsBody, Faulty, SpellsOutcome, BeginsAs, IsOfBytes, UsedUp, Ended, TakesRequest, StopsFor, IsExact, HasRequests}
use Rattle.http_wire.proofs.HeadLemmas.{head_fits}

-- ---- heads at the beginning of bytes

front_is : (front rest : List ℕ) → take (length front) (front ++ rest) ≡ front
front_is front rest = take-append-le (length front) front rest (omega arith) ∙ take_all (length front) front (omega arith)

-- two prefixes of the same bytes, the first at most as long as the second
shorter_front : (a b c d : List ℕ) → a ++ b ≡ c ++ d → length a ≤ length c → take (length a) c ≡ a
shorter_front a b c d same le = sym (take-append-le (length a) c d le) ∙ ap (take (length a)) (sym same) ∙ front_is a b

same_front : (a b c d : List ℕ) → a ++ b ≡ c ++ d → length a ≡ length c → a ≡ c
same_front a b c d same len = sym (shorter_front a b c d same (omega (arith, len))) ∙ take_all (length a) c (omega (arith, len))

not_shorter : (a b c d : List ℕ) → a ++ b ≡ c ++ d → IsHeadText a → IsHeadText c → length a < length c → ⊥
not_shorter a b c d same one other less = other.first (length a) less (subst EndsHead (sym (shorter_front a b c d same (omega arith))) one.ends)

pub same_head : (a b c d : List ℕ) → a ++ b ≡ c ++ d → IsHeadText a → IsHeadText c → a ≡ c
same_head a b c d same one other =
    ⊎_elim
    (λ len. same_front a b c d same len)
    (λ apart. absurd (⊎_elim (λ less. not_shorter a b c d same one other less) (λ more. not_shorter c d a b (sym same) other one more) apart))
    (cases_order (length a) (length c))

-- bytes in which no head ends do not begin with a head
no_head : (used rest head more : List ℕ) → HasNoEnd used → used ++ rest ≡ head ++ more → IsHeadText head → length head ≤ length used → ⊥
no_head used rest head more none same text le = none (length head) le (subst EndsHead (sym (shorter_front head more used rest (sym same) le)) text.ends)

-- ---- what the bytes determine

abbrev Outcome : Type 0
Outcome = Result Message WireFault

abbrev NoHead : List ℕ → Type 0
NoHead all = (head more : List ℕ) → all ≡ head ++ more → ¬ IsHeadText head

-- the outcome and the used bytes if no head is read
abbrev without_head : List ℕ → Outcome × List ℕ
without_head [] = (Err End, [])
without_head (b ∷ bytes) = cond (ltb (length (b ∷ bytes)) 16384) (Err EndedEarly, b ∷ bytes) (Err HeadTooLong, take 16384 (b ∷ bytes))

abbrev message_of : List ℕ → RequestHead → List ℕ → Message
message_of head h body = record { method = h.method; target = h.target; body = body; size = length head + length body; keep = keeps h.minor (fields_of h) }

-- the outcome and the used bytes after a good head
abbrev after : List ℕ → RequestHead → List ℕ → Result ℕ WireFault → Outcome × List ℕ
after head h more (Err fault) = (Err fault, head)
after head h more (Ok size) = cond (ltb (length more) size) (Err EndedEarly, head ++ more) (Ok (message_of head h (take size more)), head ++ take size more)

record Bad (head : List ℕ) (given : Outcome × List ℕ) : Type 0 where
  none : (h : RequestHead) → ¬ IsHead head h
  same : given ≡ (Err BadHead, head)

record Good (head more : List ℕ) (given : Outcome × List ℕ) : Type 0 where
  h : RequestHead
  is : IsHead head h
  same : given ≡ after head h more (body_length (fields_of h))

record Headed (all : List ℕ) (given : Outcome × List ℕ) : Type 0 where
  head : List ℕ
  more : List ℕ
  whole : all ≡ head ++ more
  text : IsHeadText head
  judged : Bad head given ⊎ Good head more given

record Headless (all : List ℕ) (given : Outcome × List ℕ) : Type 0 where
  none : NoHead all
  same : given ≡ without_head all

abbrev Stage : List ℕ → Outcome × List ℕ → Type 0
Stage all given = Headless all given ⊎ Headed all given

same_h : (head : List ℕ) (h k : RequestHead) → IsHead head h → IsHead head k → h ≡ k
same_h head h k one other = (request_unique head h k [] [] one.0 other.0).0

unique_judged : (head more : List ℕ) (a b : Outcome × List ℕ) → Bad head a ⊎ Good head more a → Bad head b ⊎ Good head more b → a ≡ b
unique_judged head more a b one other =
    ⊎_elim
    (λ (bad : Bad head a). ⊎_elim (λ (worse : Bad head b). bad.same ∙ sym worse.same) (λ (good : Good head more b). absurd (bad.none good.h good.is)) other)
    (λ (good : Good head more a). ⊎_elim (λ (bad : Bad head b). absurd (bad.none good.h good.is)) (λ (better : Good head more b). good.same ∙ ap (λ (h : RequestHead). after head h more (body_length (fields_of h))) (same_h head good.h better.h good.is better.is) ∙ sym better.same) other)
    one

unique_headed : (all : List ℕ) (a b : Outcome × List ℕ) → Headed all a → Headed all b → a ≡ b
unique_headed all a b one other =
    let same = sym one.whole ∙ other.whole in
    let heads : other.head ≡ one.head = sym (same_head one.head one.more other.head other.more same one.text other.text) in
    let mores : other.more ≡ one.more = append_cancel_left one.head other.more one.more (ap (λ (head : List ℕ). head ++ other.more) (sym heads) ∙ sym same) in
    let judged : Bad one.head b ⊎ Good one.head one.more b = subst (λ (head : List ℕ). Bad head b ⊎ Good head one.more b) heads (subst (λ (more : List ℕ). Bad other.head b ⊎ Good other.head more b) mores other.judged) in
    unique_judged one.head one.more a b one.judged judged

unique_stage : (all : List ℕ) (a b : Outcome × List ℕ) → Stage all a → Stage all b → a ≡ b
unique_stage all a b one other =
    ⊎_elim
    (λ (less : Headless all a). ⊎_elim (λ (fewer : Headless all b). less.same ∙ sym fewer.same) (λ (headed : Headed all b). absurd (less.none headed.head headed.more headed.whole headed.text)) other)
    (λ (headed : Headed all a). ⊎_elim (λ (less : Headless all b). absurd (less.none headed.head headed.more headed.whole headed.text)) (λ (too : Headed all b). unique_headed all a b headed too) other)
    one

-- ---- from the description of the used bytes

message_is : (head : List ℕ) (m : Message) (h : RequestHead) → m.size ≡ length head + length m.body → m.method ≡ h.method → m.target ≡ h.target → m.keep ≡ keeps h.minor (fields_of h) → message_of head h m.body ≡ m
message_is head m h size method target keep = sym (λ i. record { method = method i; target = target i; body = m.body; size = size i; keep = keep i })

whole_is : (used rest : List ℕ) (m : Message) (s : SpellsRequest used m) → after s.head s.h (m.body ++ rest) (body_length (fields_of s.h)) ≡ (Ok m, used)
whole_is used rest m s =
    let more = m.body ++ rest in
    let le : length m.body ≤ length more = omega (arith, length-append m.body rest) in
    ap (after s.head s.h more) s.sized
    ∙ cond-false _ _ _ (le-ltb (length more) (length m.body) le)
    ∙ ap (λ (body : List ℕ). (let o : Outcome = Ok (message_of s.head s.h body) in (o, s.head ++ body))) (front_is m.body rest)
    ∙ ap (λ (n : Message). (let o : Outcome = Ok n in (o, s.head ++ m.body))) (message_is s.head m s.h (s.size ∙ ap length s.whole ∙ length-append s.head m.body) s.method s.target s.keep)
    ∙ ap (λ (bytes : List ℕ). (let o : Outcome = Ok m in (o, bytes))) (sym s.whole)

short_is : (used : List ℕ) → 0 < length used → length used < 16384 → without_head used ≡ (Err EndedEarly, used)
short_is [] some few = absurd (omega arith)
short_is (b ∷ bytes) some few = cond-true _ _ _ (lt-ltb (length (b ∷ bytes)) 16384 few)

long_is : (all : List ℕ) → 16384 ≤ length all → without_head all ≡ (Err HeadTooLong, take 16384 all)
long_is [] many = absurd (omega arith)
long_is (b ∷ bytes) many = cond-false _ _ _ (le-ltb (length (b ∷ bytes)) 16384 many)

no_head_of_none : (all : List ℕ) → all ≡ [] → NoHead all
no_head_of_none all empty head more whole text = omega (arith, head_fits head text.ends, ap length empty, ap length whole, length-append head more)

from_none : (all used rest : List ℕ) → all ≡ used ++ rest → used ≡ [] → rest ≡ [] → Stage all (Err End, used)
from_none all used rest whole none gone =
    let empty : all ≡ [] = whole ∙ ap (λ (bytes : List ℕ). bytes ++ rest) none ∙ gone in
    inl (record {
      none = no_head_of_none all empty;
      same = ap (λ (bytes : List ℕ). (let o : Outcome = Err End in (o, bytes))) none ∙ sym (ap without_head empty);
    })

from_short : (all used rest : List ℕ) → all ≡ used ++ rest → BeginsHead used → rest ≡ [] → Stage all (Err EndedEarly, used)
from_short all used rest whole begins gone =
    let same : all ≡ used = whole ∙ ap (λ (bytes : List ℕ). used ++ bytes) gone ∙ append-nil used in
    inl (record {
      none = λ head more e text. no_head used rest head more begins.no_end (sym whole ∙ e) text (omega (arith, ap length same, ap length e, length-append head more));
      same = sym (ap without_head same ∙ short_is used begins.some begins.few);
    })

from_long : (all used rest : List ℕ) → all ≡ used ++ rest → length used ≡ 16384 → HasNoEnd used → Stage all (Err HeadTooLong, used)
from_long all used rest whole len none =
    let front : take 16384 all ≡ used = ap (λ (n : ℕ). take n all) (sym len) ∙ ap (take (length used)) whole ∙ front_is used rest in
    inl (record {
      none = λ head more e text. no_head used rest head more none (sym whole ∙ e) text (omega (arith, text.fits));
      same = sym (long_is all (omega (arith, ap length whole, length-append used rest)) ∙ ap (λ (bytes : List ℕ). (let o : Outcome = Err HeadTooLong in (o, bytes))) front);
    })

from_cut : (all used rest : List ℕ) → all ≡ used ++ rest → BeginsBody used → rest ≡ [] → Stage all (Err EndedEarly, used)
from_cut all used rest whole cut gone = inr (record {
  head = cut.head;
  more = cut.body;
  whole = whole ∙ ap (λ (bytes : List ℕ). used ++ bytes) gone ∙ append-nil used ∙ cut.whole;
  text = cut.spells.text;
  judged = inr (record {
    h = cut.h;
    is = cut.spells.is;
    same = sym (ap (after cut.head cut.h cut.body) cut.sized ∙ cond-true _ _ _ (lt-ltb (length cut.body) cut.size cut.missing) ∙ ap (λ (bytes : List ℕ). (let o : Outcome = Err EndedEarly in (o, bytes))) (sym cut.whole));
  });
})

from_bad : (all used rest : List ℕ) → all ≡ used ++ rest → IsHeadText used → ((h : RequestHead) → ¬ IsHead used h) → Stage all (Err BadHead, used)
from_bad all used rest whole text none = inr (record { head = used; more = rest; whole = whole; text = text; judged = inl (record { none = none; same = refl }) })

from_faulty : (all used rest : List ℕ) (fault : WireFault) → all ≡ used ++ rest → IsHeadText used → Faulty used fault → Stage all (Err fault, used)
from_faulty all used rest fault whole text faulty = inr (record {
  head = used;
  more = rest;
  whole = whole;
  text = text;
  judged = inr (record { h = faulty.h; is = faulty.is; same = sym (ap (after used faulty.h rest) faulty.why) });
})

from_whole : (all used rest : List ℕ) (m : Message) → all ≡ used ++ rest → SpellsRequest used m → Stage all (Ok m, used)
from_whole all used rest m whole s = inr (record {
  head = s.head;
  more = m.body ++ rest;
  whole = whole ∙ ap (λ (bytes : List ℕ). bytes ++ rest) s.whole ∙ append_assoc s.head m.body rest;
  text = s.spells.text;
  judged = inr (record { h = s.h; is = s.spells.is; same = sym (whole_is used rest m s) });
})

stage_of : (all used rest : List ℕ) (o : Outcome) → all ≡ used ++ rest → IsOfBytes o → SpellsOutcome used o → UsedUp o rest → Stage all (o, used)
stage_of all used rest (Ok m) whole of_bytes spells up = from_whole all used rest m whole spells
stage_of all used rest (Err End) whole of_bytes spells up = from_none all used rest whole spells up
stage_of all used rest (Err EndedEarly) whole of_bytes spells up = ⊎_elim (λ short. from_short all used rest whole short up) (λ cut. from_cut all used rest whole cut up) spells
stage_of all used rest (Err HeadTooLong) whole of_bytes spells up = from_long all used rest whole spells.0 spells.1
stage_of all used rest (Err BadHead) whole of_bytes spells up = from_bad all used rest whole spells.0 spells.1
stage_of all used rest (Err Chunked) whole of_bytes spells up = from_faulty all used rest Chunked whole spells.0 spells.1
stage_of all used rest (Err BadLength) whole of_bytes spells up = from_faulty all used rest BadLength whole spells.0 spells.1
stage_of all used rest (Err BodyTooLong) whole of_bytes spells up = from_faulty all used rest BodyTooLong whole spells.0 spells.1
stage_of all used rest (Err ReadFault) whole of_bytes spells up = absurd of_bytes
stage_of all used rest (Err NoMemory) whole of_bytes spells up = absurd of_bytes

-- bytes begin with one outcome, and leave one rest
pub begins_unique : (all : List ℕ) (o p : Outcome) (rest left : List ℕ) → BeginsAs all o rest → BeginsAs all p left → (o ≡ p) × (rest ≡ left)
begins_unique all o p rest left one other =
    let same = unique_stage all (o, one.used) (p, other.used) (stage_of all one.used rest o one.whole one.of_bytes one.spells one.ended) (stage_of all other.used left p other.whole other.of_bytes other.spells other.ended) in
    let used : other.used ≡ one.used = sym (ap (λ (g : Outcome × List ℕ). g.1) same) in
    (ap (λ (g : Outcome × List ℕ). g.0) same, append_cancel_left one.used rest left (sym one.whole ∙ other.whole ∙ ap (λ (bytes : List ℕ). bytes ++ left) used))

-- ---- the answer of a call

-- known bytes stay known
rest_left : (all used : List ℕ) (new : Option (List ℕ)) → Consumes (Some all) new used → (rest : List ℕ) × (new ≡ Some rest) × (all ≡ used ++ rest)
rest_left all used None taken = absurd taken
rest_left all used (Some rest) taken = (rest, refl, taken)

exact_ok : (old new : Option (List ℕ)) (m : Message) → TakesRequest old new m → IsExact old new (Ok m)
exact_ok old new m takes all outcome rest is begins of_bytes =
    let left = rest_left all takes.bytes new (subst (λ (o : Option (List ℕ)). Consumes o new takes.bytes) is takes.used) in
    let mine : BeginsAs all (Ok m) left.0 = record { used = takes.bytes; whole = left.2; of_bytes = tt; spells = takes.spells; ended = tt } in
    let same = begins_unique all (Ok m) outcome left.0 rest mine begins in
    (same.0, left.1 ∙ ap (λ (bytes : List ℕ). Some bytes) same.1)

exact_err : (old new : Option (List ℕ)) (fault : WireFault) → StopsFor old new fault → IsExact old new (Err fault)
exact_err old new fault stops all outcome rest is begins of_bytes =
    let left = rest_left all stops.bytes new (subst (λ (o : Option (List ℕ)). Consumes o new stops.bytes) is stops.used) in
    let ended : Ended fault (Some left.0) = subst (λ (o : Option (List ℕ)). Ended fault o) left.1 stops.ended in
    let mine : BeginsAs all (Err fault) left.0 = record { used = stops.bytes; whole = left.2; of_bytes = of_bytes; spells = stops.spells; ended = ended } in
    let same = begins_unique all (Err fault) outcome left.0 rest mine begins in
    (same.0, left.1 ∙ ap (λ (bytes : List ℕ). Some bytes) same.1)

pub exactly : (old new : Option (List ℕ)) (result : Outcome) → IfOk result (TakesRequest old new) → IfErr result (StopsFor old new) → IsExact old new result
exactly old new (Ok m) takes stops = exact_ok old new m takes
exactly old new (Err fault) takes stops = exact_err old new fault stops

-- ---- the requests of a connection

-- bytes have one list of requests and one end
pub requests_unique : (all : List ℕ) (requests others : List Message) (last end : Option WireFault) → HasRequests all requests last → HasRequests all others end → (requests ≡ others) × (last ≡ end)
requests_unique all [] others None end one other = absurd one
requests_unique all [] [] (Some fault) None one other = absurd other
requests_unique all [] [] (Some fault) (Some reason) one other =
    let same = (begins_unique all (Err fault) (Err reason) one.0 other.0 one.1 other.1).0 in
    let faults : fault ≡ reason = cc in
    (refl, ap (λ (f : WireFault). Some f) faults)
requests_unique all [] (message ∷ others) (Some fault) end one other =
    let same = (begins_unique all (Err fault) (Ok message) one.0 other.0 one.1 other.1).0 in absurd (cc)
requests_unique all (message ∷ more) [] last None one other = absurd other
requests_unique all (message ∷ more) [] last (Some fault) one other =
    let same = (begins_unique all (Ok message) (Err fault) one.0 other.0 one.1 other.1).0 in absurd (cc)
requests_unique all (message ∷ more) (second ∷ others) last end one other =
    let both = begins_unique all (Ok message) (Ok second) one.0 other.0 one.1 other.1 in
    let first = both.0 in
    let same : second ≡ message = cc in
    let theirs = subst (λ (m : Message). MatchBool m.keep (HasRequests one.0 others end) ((others ≡ []) × (end ≡ None))) same (subst (λ (rest : List ℕ). MatchBool second.keep (HasRequests rest others end) ((others ≡ []) × (end ≡ None))) (sym both.1) other.2) in
    let later = elim (message.keep) as (λ b. MatchBool b (HasRequests one.0 more last) ((more ≡ []) × (last ≡ None)) → MatchBool b (HasRequests one.0 others end) ((others ≡ []) × (end ≡ None)) → (more ≡ others) × (last ≡ end)) [
      | true ↦ (λ mine yours. requests_unique one.0 more others last end mine yours)
      | false ↦ (λ mine yours. (mine.0 ∙ sym yours.0, mine.1 ∙ sym yours.1))
    ] in
    let joined = later one.2 theirs in
    (ap (λ (m : Message). m ∷ more) (sym same) ∙ ap (λ (l : List Message). second ∷ l) joined.0, joined.1)
