-- Calls that change nothing: those that answer from memory, and those that read materials.
use Rattle.std.proofs.Common.{◌≡◌, ◌⊎◌, inl, inr, ℕ, List, [], ◌∷◌, Bool, true, false, Option, None, Some, refl, ap, sym, ◌∙◌, subst, arith}
use Rattle.std.specs.Prelude.{Result, Ok, Err, IfSome, IsErrOf, MatchOption}
use Rattle.std.specs.List.{AllByRecursion}
use Rattle.std.proofs.lemmas.List.{append-nil}
use Rattle.hk_base.specs.Disk.{DiskState, Tells}
use Rattle.hk_base.specs.Faults.{Rose}
use Rattle.hk_base.proofs.Runs.{weaker}
use Rattle.key_rows.specs.declared.rows.KeyCommand.{KeyCommand}
use Rattle.key_rows.specs.Records.{HasSpelling}
use Rattle.key_rows.specs.Table.{Table}
use Rattle.kms_calls.specs.declared.calls.KmsCall.{KmsCall}
use Rattle.kms_calls.specs.declared.calls.KmsCall.TheVariants as call
use Rattle.kms_calls.specs.declared.calls.KmsReply.{KmsReply}
use Rattle.kms_calls.specs.declared.calls.KmsReply.TheVariants.{Refused}
use Rattle.kms_calls.specs.declared.calls.RawEdek.{RawEdek}
use Rattle.kms_calls.specs.declared.calls.KmsRefusal.{KmsRefusal}
use Rattle.kms_calls.specs.declared.calls.KmsRefusal.TheVariants as refusal
use Rattle.kms_store.specs.Store.{Applies, IsKeyStoreOf, IsLeftOf, IsLogOf}
use Rattle.kms_store.proofs.MaterialReads.{reads-none, reads-then}
use Rattle.kms_core.specs.State.{KmsState, Running, ServiceState, keys_of, service_of}
use Rattle.kms_core.specs.Calls.{KmsActs, NoRoom, Plain, causes, deed, first_cause, only_answer, takes_memory, unless_refused}
use Rattle.kms_core.specs.Service.{Kind, KmsActsOnDisk, Logs, OfVersions, OwnOf, ReadFails, Reading, ReadsOlder, RefusesFor, ServesBy, kind}
use Rattle.kms_core.specs.Steps.{Answers, GivesAnswer, ReadsOnly}
use Rattle.kms_core.proofs.StepLemmas.{answering}
use Rattle.kms_core.proofs.ServiceLemmas.{unchanged}

-- no cause of a refusal is a store fault

abbrev NoneFaults : List (Bool × KmsRefusal) → Type 0
NoneFaults = AllByRecursion (λ (cause : Bool × KmsRefusal). cause.1 ≡ refusal.StoreFault → ⊥)

never : (cs : List (Bool × KmsRefusal)) → NoneFaults cs → first_cause cs ≡ Some refusal.StoreFault → ⊥
never [] none is = absurd cc
never ((true, why) ∷ cs) none is = none.0 cc
never ((false, why) ∷ cs) none is = never cs none.1 is

pub never_fault : (s : KmsState) (c : KmsCall) → kind c ≡ Reading → first_cause (causes s c) ≡ Some refusal.StoreFault → ⊥
never_fault s (call.Create name bits material description) reads is = absurd cc
never_fault s (call.Roll name material) reads is = absurd cc
never_fault s (call.Delete name) reads is = absurd cc
never_fault s (call.Invalidate name) reads is = absurd cc
never_fault s (call.Metadata name) reads is = never (causes s (call.Metadata name)) (λ e. absurd cc, tt) is
never_fault s (call.Metadatas names) reads is = never (causes s (call.Metadatas names)) (λ e. absurd cc, tt) is
never_fault s call.Names reads is = never (causes s call.Names) tt is
never_fault s (call.Current name) reads is = never (causes s (call.Current name)) (λ e. absurd cc, tt) is
never_fault s (call.Versions name) reads is = never (causes s (call.Versions name)) (λ e. absurd cc, tt) is
never_fault s (call.Version version) reads is = never (causes s (call.Version version)) (λ e. absurd cc, (λ e. absurd cc, tt)) is
never_fault s (call.Generate name count) reads is = absurd cc
never_fault s (call.Decrypt name sent) reads is = never (causes s (call.Decrypt name sent)) (λ e. absurd cc, (λ e. absurd cc, (λ e. absurd cc, (λ e. absurd cc, tt)))) is
never_fault s (call.Reencrypt name sent) reads is = never (causes s (call.Reencrypt name sent)) (λ e. absurd cc, (λ e. absurd cc, (λ e. absurd cc, (λ e. absurd cc, tt)))) is
never_fault s (call.Batch name sent) reads is = never (causes s (call.Batch name sent)) (λ e. absurd cc, (λ e. absurd cc, (λ e. absurd cc, (λ e. absurd cc, (λ e. absurd cc, tt))))) is

-- a call that answers from memory
pub acts_answering : (d : DiskState) (r : Running) (words : ℕ → ℕ) (now : ℕ) (c : KmsCall) (answer result : KmsReply) → kind c ≡ Reading
    → deed (keys_of r) words now c ≡ only_answer (keys_of r) answer → ((why : KmsRefusal) → answer ≡ Refused why → ⊥) → ((name : List ℕ) (sent : List RawEdek) → c ≡ call.Batch name sent → ⊥) → Answers (keys_of r) c answer result
    → KmsActsOnDisk d d r words now c result r words
acts_answering d r words now c answer result reads deed_is other no_batch says = record {
  drawn = 0;
  logged = [];
  serves = subst (λ (x : Kind). ServesBy x (service_of r) words now c (Rose d.faults d.faults) (Tells d) result 0 [] (service_of r)) (sym reads)
      (record { acts = λ telling. inl (answering (keys_of r) words now c answer result deed_is says); fails = λ is. absurd (fails (first_cause (causes (keys_of r) c)) refl says is); refuses = λ why is. refuses (first_cause (causes (keys_of r) c)) refl says why is; versions = λ name sent edeks batch is. absurd (no_batch name sent batch); none_drawn = refl; none_logged = refl; same = refl });
  rest = λ k. ap words (omega arith);
  disk = unchanged d r.store (IsLeftOf r.store.table.keys r.store.pending (OwnOf (service_of r) words now c result (service_of r)));
}
  where
    fails : (cause : Option KmsRefusal) → first_cause (causes (keys_of r) c) ≡ cause
        → MatchOption cause ((result ≡ answer) ⊎ ((takes_memory c ≡ true) × (result ≡ Refused refusal.NoMemory))) (λ why. result ≡ Refused why) → result ≡ Refused refusal.StoreFault → ⊥
    fails None none (inl is) fault = other refusal.StoreFault (sym is ∙ fault)
    fails None none (inr wanting) fault = let no : Refused refusal.NoMemory ≡ Refused refusal.StoreFault = sym wanting.1 ∙ fault in absurd cc
    fails (Some why) stands is fault =
        let same : Refused why ≡ Refused refusal.StoreFault = sym is ∙ fault in
        let it : why ≡ refusal.StoreFault = cc in
        never_fault (keys_of r) c reads (stands ∙ ap Some it)

    refuses : (cause : Option KmsRefusal) → first_cause (causes (keys_of r) c) ≡ cause
        → MatchOption cause ((result ≡ answer) ⊎ ((takes_memory c ≡ true) × (result ≡ Refused refusal.NoMemory))) (λ why. result ≡ Refused why)
        → (why : KmsRefusal) → result ≡ Refused why → RefusesFor (keys_of r) c (Rose d.faults d.faults) why
    refuses None none (inl is) why refused = absurd (other why (sym is ∙ refused))
    refuses None none (inr wanting) why refused =
        let same : Refused why ≡ Refused refusal.NoMemory = sym refused ∙ wanting.1 in
        inr (inl cc)
    refuses (Some cause) stands is why refused =
        let same : Refused cause ≡ Refused why = sym is ∙ refused in
        let it : cause ≡ why = cc in
        inl (stands ∙ ap Some it)

-- reading materials

pub reads_nothing : (d : DiskState) (r : Running) → Applies r.store.table.keys r.store.pending → ReadsOnly d d r r
reads_nothing d r fits = record { store = reads-none d r.store; rest = refl; fits = fits }

-- the table stays, and so does the pending command
pub same_service : (old new : DiskState) (r t : Running) → ReadsOnly old new r t → service_of t ≡ service_of r
same_service old new r t reads = ap service_of reads.rest ∙ (λ i. service_of (record r { store = reads.store.same i }))

pub same_keys : (old new : DiskState) (r t : Running) → ReadsOnly old new r t → keys_of t ≡ keys_of r
same_keys old new r t reads = ap (λ (s : ServiceState). s.keys) (same_service old new r t reads)

pub reads_more : (old mid new : DiskState) (r s t : Running) → ReadsOnly old mid r s → ReadsOnly mid new s t → ReadsOnly old new r t
reads_more old mid new r s t one two = record {
  store = reads-then one.store two.store;
  rest = two.rest ∙ (λ i. record (one.rest i) { store = t.store });
  fits = one.fits;
}

-- what a crash leaves of the log at rest
left_at_rest : (table : Table) (pending : Option KeyCommand) (own : Bool → KeyCommand → Type 0) (commands : List KeyCommand) (bytes : List ℕ)
    → Applies table pending → IfSome pending HasSpelling → IsLogOf commands pending bytes → IsLeftOf table pending own commands bytes
left_at_rest table None own commands bytes fits spelled log =
    record { kept = false; more = None; more_is = tt; fits = tt; spelled = tt; log = subst (λ (cs : List KeyCommand). IsLogOf cs None bytes) (sym (append-nil commands)) log }
left_at_rest table (Some command) own commands bytes fits spelled log =
    record { kept = false; more = Some command; more_is = inl (refl, refl); fits = fits; spelled = spelled; log = subst (λ (cs : List KeyCommand). IsLogOf cs (Some command) bytes) (sym (append-nil commands)) log }

logs_reading : (old new : DiskState) (r t : Running) (own : Bool → KeyCommand → Type 0) → ReadsOnly old new r t
    → Logs old new r.store t.store (IsLeftOf r.store.table.keys r.store.pending own) []
logs_reading old new r t own reads = record {
  stands = λ telling commands s. subst (IsKeyStoreOf new t.store) (sym (append-nil commands)) (reads.store.kept telling commands s);
  moments = λ telling commands s.
      weaker (λ bytes log. left_at_rest r.store.table.keys r.store.pending own commands bytes reads.fits s.waits log) (reads.store.moments telling commands s);
  run = reads.store.run;
}

abbrev pub as_reply : {X : Type 0} → (X → KmsReply) → Result X KmsRefusal → KmsReply
as_reply f (Ok x) = f x
as_reply f (Err why) = Refused why

-- a function that hands a refusal on
pub of_err : {X : Type 0} (old new : DiskState) (s : KmsState) (c : KmsCall) (answer : X) (result : Result X KmsRefusal) (why : KmsRefusal) → IsErrOf result why
    → GivesAnswer old new s c answer (Err why) → GivesAnswer old new s c answer result
of_err {X} old new s c answer result why is gives = subst (GivesAnswer {X = X} old new s c answer) (sym is) gives

-- a call that reads materials
pub acts_by_reads : {X : Type 0} (old new : DiskState) (r t : Running) (words : ℕ → ℕ) (now : ℕ) (c : KmsCall) (f : X → KmsReply) (answer : X) (given : Result X KmsRefusal) → kind c ≡ Reading
    → deed (keys_of r) words now c ≡ only_answer (keys_of r) (f answer) → ((x : X) (why : KmsRefusal) → f x ≡ Refused why → ⊥)
    → ReadsOnly old new r t → GivesAnswer old new (keys_of r) c answer given → OfVersions (keys_of r) c (as_reply f given) → KmsActsOnDisk old new r words now c (as_reply f given) t words
acts_by_reads {X} old new r t words now c f answer given reading deed_is other reads gives versions = record {
  drawn = 0;
  logged = [];
  serves = subst (λ (x : Kind). ServesBy x (service_of r) words now c (Rose old.faults new.faults) (Tells old) (as_reply f given) 0 [] (service_of t)) (sym reading)
      (record { acts = λ telling. acts given gives telling; fails = fails given gives; refuses = refuses given gives; versions = versions; none_drawn = refl; none_logged = refl; same = same_service old new r t reads });
  rest = λ k. ap words (omega arith);
  disk = logs_reading old new r t (OwnOf (service_of r) words now c (as_reply f given) (service_of t)) reads;
}
  where
    s : KmsState
    s = keys_of r

    fault : Type 0
    fault = Rose old.faults new.faults

    acts : (given : Result X KmsRefusal) → GivesAnswer old new s c answer given → (ReadsOlder s c → Tells old)
        → KmsActs s words now c (as_reply f given) 0 s ⊎ ReadFails s c fault (as_reply f given)
    acts (Ok x) gives telling =
        let is : x ≡ answer = gives.1 (λ older. telling (record { free = gives.0; older = older })) in
        inl (Plain, tt, (λ i. record { reply = f (is i); drawn = 0; state = s }) ∙ (λ i. unless_refused (sym gives.0 i) s (sym deed_is i)))
    acts (Err why) (inl stands) telling = inl (Plain, tt, λ i. unless_refused (sym stands i) s (deed s words now c))
    acts (Err why) (inr (free, inl wanting)) telling =
        inl (NoRoom 0, (wanting.0, free, omega arith), λ i. record { reply = Refused (wanting.1 i); drawn = 0; state = s })
    acts (Err why) (inr (free, inr failed)) telling =
        inr (record { reads = record { free = free; older = failed.0 }; failed = failed.1; reply_is = ap Refused failed.2 })

    fails : (given : Result X KmsRefusal) → GivesAnswer old new s c answer given → as_reply f given ≡ Refused refusal.StoreFault → fault
    fails (Ok x) gives is = absurd (other x refusal.StoreFault is)
    fails (Err why) (inl stands) is = let it : why ≡ refusal.StoreFault = cc in absurd (never_fault s c reading (stands ∙ ap Some it))
    fails (Err why) (inr (free, inl wanting)) is =
        let it : why ≡ refusal.StoreFault = cc in let no : refusal.NoMemory ≡ refusal.StoreFault = sym wanting.1 ∙ it in absurd cc
    fails (Err why) (inr (free, inr failed)) is = failed.1

    refuses : (given : Result X KmsRefusal) → GivesAnswer old new s c answer given → (why : KmsRefusal) → as_reply f given ≡ Refused why → RefusesFor s c fault why
    refuses (Ok x) gives why is = absurd (other x why is)
    refuses (Err cause) (inl stands) why is = let it : cause ≡ why = cc in inl (stands ∙ ap Some it)
    refuses (Err cause) (inr (free, inl wanting)) why is = let it : why ≡ cause = cc in inr (inl (it ∙ wanting.1))
    refuses (Err cause) (inr (free, inr failed)) why is = let it : why ≡ cause = cc in inr (inr (it ∙ failed.2, failed.1))
