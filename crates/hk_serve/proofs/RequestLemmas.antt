-- If the source's bytes are known, the requests of a connection are theirs.
use Rattle.std.proofs.Common.{◌≡◌, inl, inr, ℕ, true, false, List, [], ◌∷◌, ◌++◌, map, Ok, Err, refl, sym, subst}
use Rattle.std.specs.Prelude.{Option, None, Some, Result, MatchBool}
use Rattle.std.specs.Io.KnownBytes.{Consumes}
use Rattle.std.specs.List.{AllByRecursion}
use Rattle.http_wire.specs.declared.faults.WireFault.{WireFault}
use Rattle.http_wire.specs.declared.faults.WireFault.TheVariants as wire
use Rattle.http_wire.specs.Message.{Message}
use Rattle.http_wire.specs.Requests.{BeginsAs, Ended, HasRequests, IsOfBytes, StopsFor, TakesRequest}
use Rattle.hk_base.specs.declared.ended.Ended.{Ended as End}
use Rattle.hk_base.specs.declared.ended.Ended.TheVariants as ended
use Rattle.hk_serve.specs.Ends.{Ends, EndsThere}
use Rattle.hk_serve.specs.Exchanges.{Exchange, ReadsInOrder, Stand}
use Rattle.hk_serve.specs.Served.{AreRequestsOf, BeginsWithRequests, IsOfWire, last_request}
use Rattle.hk_serve.specs.Transactions.{Answering}

-- known bytes stay known
rest_left : (all used : List ℕ) (new : Option (List ℕ)) → Consumes (Some all) new used → (rest : List ℕ) × ((new ≡ Some rest) × (all ≡ used ++ rest))
rest_left all used None taken = absurd taken
rest_left all used (Some rest) taken = (rest, (refl, taken))

abbrev Begun : List ℕ → Option (List ℕ) → Result Message WireFault → Type 0
Begun all new outcome = (rest : List ℕ) × ((new ≡ Some rest) × BeginsAs all outcome rest)

begun : (all : List ℕ) (new : Option (List ℕ)) (message : Message) → TakesRequest (Some all) new message → Begun all new (Ok message)
begun all new message takes =
    let left = rest_left all takes.bytes new takes.used in
    (left.0, (left.1.0, record { used = takes.bytes; whole = left.1.1; of_bytes = tt; spells = takes.spells; ended = tt }))

stopped : (all : List ℕ) (new : Option (List ℕ)) (fault : WireFault) → IsOfBytes (Err fault) → StopsFor (Some all) new fault → Begun all new (Err fault)
stopped all new fault of_bytes stops =
    let left = rest_left all stops.bytes new stops.used in
    (left.0, (left.1.0, record { used = stops.bytes; whole = left.1.1; of_bytes = of_bytes; spells = stops.spells; ended = subst (λ (o : Option (List ℕ)). Ended fault o) left.1.0 stops.ended }))

abbrev request_of : Exchange → Message
request_of exchange = exchange.request

-- the requests so far and those after them
all_printed : (exchanges : List Exchange) (all : List ℕ) (now : Option (List ℕ)) (tail : List Message) (last : Option WireFault)
    → ReadsInOrder (Some all) exchanges now → AllByRecursion (λ (exchange : Exchange). exchange.request.keep ≡ true) exchanges
    → ((rest : List ℕ) → now ≡ Some rest → HasRequests rest tail last) → HasRequests all (map request_of exchanges ++ tail) last
all_printed [] all now tail last reads kept behind = behind all reads
all_printed (exchange ∷ more) all now tail last reads kept behind =
    let first = begun all reads.0 exchange.request reads.1.0 in
    let reads_on : ReadsInOrder (Some first.0) more now = subst (λ (o : Option (List ℕ)). ReadsInOrder o more now) first.1.0 reads.1.1 in
    let later = all_printed more first.0 now tail last reads_on kept.1 behind in
    (first.0, first.1.1, subst (λ b. MatchBool b (HasRequests first.0 (map request_of more ++ tail) last) ((map request_of more ++ tail ≡ []) × (last ≡ None))) (sym kept.0) later)

front_answered : (exchanges : List Exchange) (all : List ℕ) (now : Option (List ℕ)) (tail : List Message)
    → ReadsInOrder (Some all) exchanges now → ((rest : List ℕ) → now ≡ Some rest → BeginsWithRequests rest tail) → BeginsWithRequests all (map request_of exchanges ++ tail)
front_answered [] all now tail reads behind = behind all reads
front_answered (exchange ∷ more) all now tail reads behind =
    let first = begun all reads.0 exchange.request reads.1.0 in
    let reads_on : ReadsInOrder (Some first.0) more now = subst (λ (o : Option (List ℕ)). ReadsInOrder o more now) first.1.0 reads.1.1 in
    (first.0, (first.1.1, front_answered more first.0 now tail reads_on behind))

-- ---- the end of the connection

of_bytes : (fault : WireFault) → IsOfWire fault → IsOfBytes (Err fault)
of_bytes wire.BadHead is = tt
of_bytes wire.HeadTooLong is = tt
of_bytes wire.BadLength is = tt
of_bytes wire.BodyTooLong is = tt
of_bytes wire.Chunked is = tt
of_bytes wire.EndedEarly is = tt
of_bytes wire.End (inl is) = absurd cc
of_bytes wire.End (inr is) = absurd is
of_bytes wire.ReadFault (inl is) = absurd cc
of_bytes wire.ReadFault (inr is) = absurd is
of_bytes wire.NoMemory (inl is) = absurd cc
of_bytes wire.NoMemory (inr is) = absurd is

fault_there : {D : Type 0} (here new : Stand D) (how : End) (there : EndsThere here new how) (fault : WireFault) → there.fault ≡ fault → IsOfBytes (Err fault) → (rest : List ℕ) → here.ahead ≡ Some rest → HasRequests rest [] (Some fault)
fault_there here new how there fault is of rest tells =
    let stops : StopsFor (Some rest) new.ahead fault = subst (λ (o : Option (List ℕ)). StopsFor o new.ahead fault) tells (subst (λ (f : WireFault). StopsFor here.ahead new.ahead f) is there.stops) in
    let first = stopped rest new.ahead fault of stops in
    (first.0, first.1.1)

last_closed : {D : Type 0} (here new : Stand D) (message : Message) → TakesRequest here.ahead new.ahead message → message.keep ≡ false → (rest : List ℕ) → here.ahead ≡ Some rest → HasRequests rest (message ∷ []) None
last_closed here new message takes closed rest tells =
    let first = begun rest new.ahead message (subst (λ (o : Option (List ℕ)). TakesRequest o new.ahead message) tells takes) in
    let more : List Message = [] in
    let last : Option WireFault = None in
    (first.0, first.1.1, subst (λ b. MatchBool b (HasRequests first.0 more last) ((more ≡ []) × (last ≡ None))) (sym closed) (refl, refl))

last_front : {D : Type 0} (here new : Stand D) (message : Message) → TakesRequest here.ahead new.ahead message → (rest : List ℕ) → here.ahead ≡ Some rest → BeginsWithRequests rest (message ∷ [])
last_front here new message takes rest tells =
    let first = begun rest new.ahead message (subst (λ (o : Option (List ℕ)). TakesRequest o new.ahead message) tells takes) in
    (first.0, (first.1.1, tt))

of_wire : {D : Type 0} (here new : Stand D) (there : EndsThere here new ended.Wire) → IsOfWire there.fault
of_wire here new there = elim (there.ends) [ inl early ↦ inl early.0 | inr answered ↦ inr answered.0 ]

pub requests_answered : {D : Type 0} (answers : Answering D) (bytes : ℕ) (exchanges : List Exchange) (old here new : Stand D) (how : End) (ends : Ends answers bytes here new how)
    → ReadsInOrder old.ahead exchanges here.ahead → AllByRecursion (λ (exchange : Exchange). exchange.request.keep ≡ true) exchanges
    → (all : List ℕ) → old.ahead ≡ Some all → AreRequestsOf all (map request_of exchanges ++ last_request ends) how
requests_answered answers bytes exchanges old here new ended.End (inl behind) reads kept all is = absurd behind.ends
requests_answered answers bytes exchanges old here new ended.End (inr there) reads kept all is =
    all_printed exchanges all here.ahead [] (Some wire.End) (subst (λ (o : Option (List ℕ)). ReadsInOrder o exchanges here.ahead) is reads) kept (fault_there here new ended.End there wire.End there.ends.0 tt)
requests_answered answers bytes exchanges old here new ended.Wire (inl behind) reads kept all is = absurd behind.ends
requests_answered answers bytes exchanges old here new ended.Wire (inr there) reads kept all is =
    let of = of_wire here new there in
    (there.fault, (of, all_printed exchanges all here.ahead [] (Some there.fault) (subst (λ (o : Option (List ℕ)). ReadsInOrder o exchanges here.ahead) is reads) kept (fault_there here new ended.Wire there there.fault refl (of_bytes there.fault of))))
requests_answered answers bytes exchanges old here new ended.Closed (inl behind) reads kept all is =
    all_printed exchanges all here.ahead (behind.last.request ∷ []) None (subst (λ (o : Option (List ℕ)). ReadsInOrder o exchanges here.ahead) is reads) kept (last_closed here new behind.last.request behind.takes behind.ends.0)
requests_answered answers bytes exchanges old here new ended.Closed (inr there) reads kept all is = absurd there.ends
requests_answered answers bytes exchanges old here new ended.TooLong (inl behind) reads kept all is =
    front_answered exchanges all here.ahead (behind.last.request ∷ []) (subst (λ (o : Option (List ℕ)). ReadsInOrder o exchanges here.ahead) is reads) (last_front here new behind.last.request behind.takes)
requests_answered answers bytes exchanges old here new ended.TooLong (inr there) reads kept all is = absurd there.ends
requests_answered answers bytes exchanges old here new ended.ReadFault (inl behind) reads kept all is = absurd behind.ends
requests_answered answers bytes exchanges old here new ended.ReadFault (inr there) reads kept all is =
    front_answered exchanges all here.ahead [] (subst (λ (o : Option (List ℕ)). ReadsInOrder o exchanges here.ahead) is reads) (λ rest e. tt)
requests_answered answers bytes exchanges old here new ended.WriteFault (inl behind) reads kept all is =
    front_answered exchanges all here.ahead (behind.last.request ∷ []) (subst (λ (o : Option (List ℕ)). ReadsInOrder o exchanges here.ahead) is reads) (last_front here new behind.last.request behind.takes)
requests_answered answers bytes exchanges old here new ended.WriteFault (inr there) reads kept all is =
    front_answered exchanges all here.ahead [] (subst (λ (o : Option (List ℕ)). ReadsInOrder o exchanges here.ahead) is reads) (λ rest e. tt)
requests_answered answers bytes exchanges old here new ended.NoMemory (inl behind) reads kept all is =
    front_answered exchanges all here.ahead (behind.last.request ∷ []) (subst (λ (o : Option (List ℕ)). ReadsInOrder o exchanges here.ahead) is reads) (last_front here new behind.last.request behind.takes)
requests_answered answers bytes exchanges old here new ended.NoMemory (inr there) reads kept all is =
    front_answered exchanges all here.ahead [] (subst (λ (o : Option (List ℕ)). ReadsInOrder o exchanges here.ahead) is reads) (λ rest e. tt)
