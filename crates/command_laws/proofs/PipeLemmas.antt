-- A connection of good requests.
use Rattle.std.proofs.Common.{◌≡◌, ◌⊎◌, inl, inr, ℕ, ◌+◌, List, [], ◌∷◌, length, refl, ap, sym, ◌∙◌, subst, Option, None, Some, arith, length-append}
use Rattle.std.proofs.lemmas.List.Sums.{sum_by-cons}
use Rattle.hk_base.specs.Disk.{DiskState, Tells}
use Rattle.hk_base.specs.declared.ended.Ended.{Ended}
use Rattle.hk_base.specs.declared.ended.Ended.TheVariants as ended
use Rattle.http_wire.specs.declared.faults.WireFault.{WireFault}
use Rattle.http_wire.specs.declared.faults.WireFault.TheVariants as wire
use Rattle.http_wire.specs.Message.{Message}
use Rattle.http_wire.specs.Requests.{HasRequests, TakesRequest}
use Rattle.http_wire.proofs.StreamLemmas.{requests_unique}
use Rattle.hk_serve.specs.Ends.{Ends, GetsResponse}
use Rattle.hk_serve.specs.Exchanges.{Exchange, ReadsInOrder, Stand, bytes_in}
use Rattle.hk_serve.specs.Served.{Served}
use Rattle.prop_text.specs.declared.props.Props.{Props}
use Rattle.world_run.specs.World.{first_world}
use Rattle.command_io.specs.declared.ends.ReplayEnd.TheVariants as replayed
use Rattle.hk_runs.specs.Pipe.{CannotOpenLog, CannotReadProperties, Connects, Converses, IsTransactionOf, Pipe, PipesUnder, connection_status}
use Rattle.hk_runs.specs.Run.{History}
use Rattle.command_laws.specs.Complete.{ConnectsToEnd, PipeIsComplete}
use Rattle.command_laws.specs.Good.{FaultCounts, GoodDisk, GoodProperties, GoodRequests, NoneRose}
use Rattle.command_laws.proofs.EndLemmas.{Unfailed, closed, memory_shown, never_fails, no_memory, not_later, not_read, not_stored, only_memory, same_props, unfailed, unread}

-- the bytes of requests are among those that were left

taken : (xs : List ℕ) (new : Option (List ℕ)) (m : Message) → TakesRequest (Some xs) new m → (rest : List ℕ) × (new ≡ Some rest) × (m.size + length rest ≡ length xs)
taken xs None m takes = absurd takes.used
taken xs (Some rest) m takes = (rest, refl, omega (arith, takes.spells.size, ap length takes.used, length-append takes.bytes rest))

read_in : (exchanges : List Exchange) (xs : List ℕ) (new : Option (List ℕ)) → ReadsInOrder (Some xs) exchanges new → (rest : List ℕ) × (new ≡ Some rest) × (bytes_in exchanges + length rest ≡ length xs)
read_in [] xs new is = (xs, is, omega arith)
read_in (e ∷ more) xs new (next, (takes, reads)) =
    let first = taken xs next e.request takes in
    let later = read_in more first.0 new (subst (λ (o : Option (List ℕ)). ReadsInOrder o more new) first.1 reads) in
    (later.0, later.1, omega (arith, sum_by-cons (λ (exchange : Exchange). exchange.request.size) e more, first.2, later.2))

-- a connection of so few bytes isn't too long
never_long : (left : Option (List ℕ)) (good : GoodRequests left) (old new : Stand History) → old.ahead ≡ left → Served IsTransactionOf old new ended.TooLong → ⊥
never_long left good old new is served = by served.ends
  where
    there : (rest : List ℕ) × (served.here.ahead ≡ Some rest) × (bytes_in served.exchanges + length rest ≡ length good.all)
    there = read_in served.exchanges good.all served.here.ahead (subst (λ (o : Option (List ℕ)). ReadsInOrder o served.exchanges served.here.ahead) (is ∙ good.known) served.went_on.read)

    by : Ends IsTransactionOf (bytes_in served.exchanges) served.here new ended.TooLong → ⊥
    by (inl behind) =
        let last = taken there.0 new.ahead behind.last.request (subst (λ (o : Option (List ℕ)). TakesRequest o new.ahead behind.last.request) there.1 behind.takes) in
        absurd (omega (arith, behind.ends.1.0, there.2, last.2, good.short))
    by (inr gone) = gone.ends

-- good requests have no fault
never_faulty : (left : Option (List ℕ)) (good : GoodRequests left) (requests : List Message) (fault : WireFault) → (fault ≡ wire.EndedEarly) ⊎ GetsResponse fault → HasRequests good.all requests (Some fault) → ⊥
never_faulty left good requests fault of_wire has = by good.are
  where
    none : (f : WireFault) → (f ≡ wire.EndedEarly) ⊎ GetsResponse f → f ≡ wire.End → ⊥
    none f (inl early) is = let no : wire.EndedEarly ≡ wire.End = sym early ∙ is in cc
    none f (inr answered) is = subst GetsResponse is answered

    by : HasRequests good.all good.requests None ⊎ HasRequests good.all good.requests (Some wire.End) → ⊥
    by (inl closing) = let same = (requests_unique good.all requests good.requests (Some fault) None has closing).1 in absurd cc
    by (inr ending) = let same = (requests_unique good.all requests good.requests (Some fault) (Some wire.End) has ending).1 in none fault of_wire (cc same)

module _ (old new : DiskState) (acls acls' : Option (List ℕ)) (words words' : ℕ → ℕ) (left left' written now : Option (List ℕ)) (before after : FaultCounts) (status : ℕ)
    (none : NoneRose before after) (old_is : before.store ≡ old.faults) (new_is : after.store ≡ new.faults) (properties : GoodProperties acls) (requests : GoodRequests left) (disk : GoodDisk old) (ok : Unfailed status) where
  abbrev Done : Type 0
  Done = ((status ≡ 0) × ConnectsToEnd properties.props old new words words' left left' written now) ⊎ (status ≡ 6)

  refused : (same : Type 0) → CannotReadProperties same acls status → Done
  refused same r = inr (no_memory _ status r.status_is (only_memory _ _ replayed.ReadFault (inl refl) (unread acls properties r.fault r.has_fault) (not_read _ status r.status_is ok)))

  not_opened : (same : Type 0) → CannotOpenLog same old new status → Done
  not_opened same r = inr (no_memory _ status r.status_is (only_memory _ _ replayed.StoreFault (inl refl) (closed old new r.file r.fault r.not_opened disk) (not_stored _ status r.status_is ok)))

  wholly : (props : Props) → props ≡ properties.props → (how : Ended) → (how ≡ ended.End) ⊎ (how ≡ ended.Closed) → Converses props old new words words' left left' written now how
      → ConnectsToEnd properties.props old new words words' left left' written now
  wholly props same how to_end c =
      subst (λ (q : Props). ConnectsToEnd q old new words words' left left' written now) same (record {
        how = how;
        to_end = to_end;
        converses = c;
        untroubled = never_fails props.lines (Tells old) (first_world props.sizes c.table c.names) words c.before new.faults c.history c.runs c.ended
            (not_later old.faults new.faults c.before new.faults before.store after.store none.store old_is new_is c.began refl);
      })

  connected : (props : Props) → props ≡ properties.props → Connects props old new words words' left left' written now status → Done
  connected props same c = go c.how c.converses c.status_is
    where
      go : (how : Ended) → Converses props old new words words' left left' written now how → status ≡ connection_status how → Done
      go ended.End converses is = inl (is, wholly props same ended.End (inl refl) converses)
      go ended.Closed converses is = inl (is, wholly props same ended.Closed (inr refl) converses)
      go ended.Wire converses is = let found = converses.served.requests requests.all requests.known in absurd (never_faulty left requests _ found.0 found.1.0 found.1.1)
      go ended.TooLong converses is = absurd (never_long left requests _ _ refl converses.served)
      go ended.NoMemory converses is = inr is
      go ended.ReadFault converses is = absurd (ok.read is)
      go ended.WriteFault converses is = absurd (ok.write is)

  under : (same : Type 0) → PipesUnder same old new acls acls' words words' left left' written now status → Done
  under same p = by p.pipe
    where
      by : CannotOpenLog same old new status ⊎ Connects p.props old new words words' left left' written now status → Done
      by (inl r) = not_opened same r
      by (inr c) = connected p.props (same_props acls acls' p.props properties p.read) c

  piped : (same_disk same : Type 0) → Pipe same_disk same old new acls acls' words words' left left' written now status → Done
  piped same_disk same (inl r) = refused (same_disk × same) r
  piped same_disk same (inr p) = under same p

pub pipe_is_complete : (same_disk same unasked : Type 0) (old new : DiskState) (acls acls' : Option (List ℕ)) (words words' : ℕ → ℕ) (left left' written now : Option (List ℕ)) (before after : FaultCounts) (status : ℕ)
    → PipeIsComplete same_disk same unasked old new acls acls' words words' left left' written now before after status
pipe_is_complete same_disk same unasked old new acls acls' words words' left left' written now before after status (inl pipes) causes none old_is new_is properties requests disk =
    piped old new acls acls' words words' left left' written now before after status none old_is new_is properties requests disk (unfailed before after status causes none) same_disk same pipes
pipe_is_complete same_disk same unasked old new acls acls' words words' left left' written now before after status (inr memory) causes none old_is new_is properties requests disk =
    inr (memory_shown _ written now status (unfailed before after status causes none) memory.1)
