-- Calls over a store and its disk, from their steps.
use Rattle.std.proofs.Common.{◌≡◌, ◌⊎◌, inl, inr, ℕ, ◌+◌, ◌-◌, ◌*◌, ◌<◌, ◌≤◌, ◌^◌, Bool, cond, true, false, List, [], ◌∷◌, ◌++◌, Option, None, Some, refl, ap, sym, ◌∙◌, subst, arith}
use Rattle.std.specs.Prelude.{Result, Ok, Err, IsErr, MatchResult, IfSome, IsTrue, is_some}
use Rattle.std.proofs.lemmas.List.{append-nil, append_assoc}
use Rattle.hk_base.specs.Disk.{DiskState, LeavesOnly, RunOn, Tells}
use Rattle.hk_base.specs.Faults.{Rose}
use Rattle.hk_base.proofs.Runs.{begin, compose, weaker}
use Rattle.key_rows.specs.declared.rows.KeyCommand.{KeyCommand}
use Rattle.kms_calls.specs.declared.calls.KmsCall.{KmsCall}
use Rattle.kms_calls.specs.declared.calls.KmsReply.{KmsReply}
use Rattle.kms_calls.specs.declared.calls.KmsReply.TheVariants.{Refused}
use Rattle.kms_calls.specs.declared.calls.KmsRefusal.{KmsRefusal}
use Rattle.kms_calls.specs.declared.calls.KmsRefusal.TheVariants.{NoMemory, StoreFault}
use Rattle.key_rows.specs.Table.{Table, after, applies, no_keys}
use Rattle.std.proofs.lemmas.Bool.Decides.{Decides-eqb}
use Rattle.key_rows.specs.Records.{HasSpelling}
use Rattle.kms_store.specs.Replay.{key_replay}
use Rattle.kms_store.proofs.Replays.{replay_more}
use Rattle.eek_queues.specs.Queues.{AllQueues}
use Rattle.kms_store.specs.Store.{Applies, IsKeyLog, IsLeftOf, next_opening, IsLogOf, IsWithOrWithout, IsWritten, NoCommand, SettlesKeys, IsKeyStoreOf, StoreState, settled_commands, settled_table}
use Rattle.kms_core.specs.State.{KmsState, Running, ServiceState, keys_of, queues_after, service_of, settled, settled_queues}
use Rattle.kms_core.specs.Calls.{CallActs, Deed, KmsActs, NoRoom, Plain, birth_of, bits_of, causes, deed, deleted, done_with, first_cause, is_misfit, rolled, row_of, version_with_material, takes_memory, unless_refused, versions_of}
use Rattle.kms_core.specs.Service.{KmsActsOnDisk, Changes, IsGrowing, Logs, OwnOf, ServesBy, Committing, Kind, Starts, Working, acknowledged, kind, commands_of}
use Rattle.kms_core.specs.Steps.{ActsSettled, Commits, EndsSo, IsUnsettled, OwnChange, OwnDeed, Settling, StandsSo, WorksOnQueues}
use Rattle.kms_core.specs.declared.service.Standing.{Standing}
use Rattle.kms_core.specs.Draws.{material_for, words_for}
use Rattle.kms_core.proofs.StepLemmas.{may_be_rolled}
use Rattle.kms_calls.specs.declared.calls.KmsCall.TheVariants as call
use Rattle.key_rows.specs.declared.rows.KeyCommand.TheVariants as command
use Rattle.kms_calls.specs.declared.calls.KmsRefusal.TheVariants as refusal

-- the disk did not change
pub unchanged : (d : DiskState) (store : StoreState) (P : List KeyCommand → List ℕ → Type 0) → Logs d d store store P []
unchanged d store P = record {
  stands = λ telling commands s. subst (IsKeyStoreOf d store) (sym (append-nil commands)) s;
  moments = λ telling commands s. (begin 0 d (P commands)).moments;
  run = (begin 0 d (P [])).run;
}

-- nor did it by a call after which the store still holds the same commands
idle : (old new : DiskState) (store store' : StoreState) (P : List KeyCommand → List ℕ → Type 0) → new ≡ old
    → (Tells old → (commands : List KeyCommand) → IsKeyStoreOf old store commands → IsKeyStoreOf new store' commands) → Logs old new store store' P []
idle old new store store' P same stands = record {
  stands = λ telling commands s. subst (IsKeyStoreOf new store') (sym (append-nil commands)) (stands telling commands s);
  moments = λ telling commands s. subst (λ (d : DiskState). LeavesOnly 0 old d (P commands)) (sym same) (begin 0 old (P commands)).moments;
  run = subst (λ (d : DiskState). RunOn 0 old d) (sym same) (begin 0 old (P [])).run;
}

-- a count that rose since a later moment rose since an earlier one
pub rose_since : (a b c : ℕ) → a ≤ b → Rose b c → Rose a c
rose_since a b c le rose = grind (arith, le, rose)

pub rose_before : (a b c : ℕ) → b ≤ c → Rose a b → Rose a c
rose_before a b c le rose = grind (arith, le, rose)

tells_on : (old mid : DiskState) → RunOn 0 old mid → Tells old → Tells mid
tells_on old mid run telling = subst (λ b. IsTrue b) (sym run.tells) telling

-- one run after another
pub joined : (old mid new : DiskState) → RunOn 0 old mid → RunOn 0 mid new → RunOn 0 old new
joined old mid new a b = record {
  tells = b.tells ∙ a.tells;
  faults = omega (arith, a.faults, b.faults);
  later = omega (arith, a.later, b.later);
  other_reads = λ telling. b.other_reads (tells_on old mid a telling) ∙ a.other_reads telling;
  other_leaves = λ c. (λ h. (a.other_leaves c).0 ((b.other_leaves c).0 h), λ h. (b.other_leaves c).1 ((a.other_leaves c).1 h));
}

if_some : (P Q : KeyCommand → Type 0) → ((command : KeyCommand) → P command → Q command) → (more : Option KeyCommand) → IfSome more P → IfSome more Q
if_some P Q f None h = tt
if_some P Q f (Some command) h = f command h

-- what may be written in one way may also be written in another

pub leaving_more : (table : Table) (pending : Option KeyCommand) (own own' : Bool → KeyCommand → Type 0) (commands : List KeyCommand) (bytes : List ℕ) → ((kept : Bool) (command : KeyCommand) → own kept command → own' kept command)
    → IsLeftOf table pending own commands bytes → IsLeftOf table pending own' commands bytes
leaving_more table pending own own' commands bytes f l = record {
  kept = l.kept;
  more = l.more;
  more_is = if_some _ (λ (command : KeyCommand). ((l.kept ≡ false) × (pending ≡ Some command)) ⊎ own' l.kept command) either l.more l.more_is;
  fits = l.fits;
  spelled = l.spelled;
  log = l.log;
}
  where
    either : (command : KeyCommand) → ((l.kept ≡ false) × (pending ≡ Some command)) ⊎ own l.kept command → ((l.kept ≡ false) × (pending ≡ Some command)) ⊎ own' l.kept command
    either command (inl h) = inl h
    either command (inr h) = inr (f l.kept command h)

-- the moments of a call also satisfy a weaker clause
logs_weaker : (old new : DiskState) (store store' : StoreState) (P Q : List KeyCommand → List ℕ → Type 0) (logged : List KeyCommand) → ((commands : List KeyCommand) (bytes : List ℕ) → P commands bytes → Q commands bytes)
    → Logs old new store store' P logged → Logs old new store store' Q logged
logs_weaker old new store store' P Q logged f l = record { stands = l.stands; moments = λ telling commands s. weaker (λ c left. f commands c left) (l.moments telling commands s); run = l.run }

pub logs_leaving : (old new : DiskState) (store store' : StoreState) (own own' : Bool → KeyCommand → Type 0) (logged : List KeyCommand) → ((kept : Bool) (command : KeyCommand) → own kept command → own' kept command)
    → Logs old new store store' (IsLeftOf store.table.keys store.pending own) logged → Logs old new store store' (IsLeftOf store.table.keys store.pending own') logged
logs_leaving old new store store' own own' logged f l =
    logs_weaker old new store store' (IsLeftOf store.table.keys store.pending own) (IsLeftOf store.table.keys store.pending own') logged (λ commands c left. leaving_more store.table.keys store.pending own own' commands c f left) l

logs_growing : (old new : DiskState) (store store' : StoreState) (own own' : KeyCommand → Type 0) (logged : List KeyCommand) → ((command : KeyCommand) → own command → own' command)
    → Logs old new store store' (IsGrowing store.table.keys own) logged → Logs old new store store' (IsGrowing store.table.keys own') logged
logs_growing old new store store' own own' logged f l =
    logs_weaker old new store store' (IsGrowing store.table.keys own) (IsGrowing store.table.keys own') logged
    (λ commands c g. record { more = g.more; more_is = if_some own own' f g.more g.more_is; fits = g.fits; spelled = g.spelled; log = g.log }) l

-- what a crash may leave while a command waits, and after its settling while another is added
left_growing : (table : Table) (pending : Option KeyCommand) (kept : Bool) (own : Bool → KeyCommand → Type 0) (own' : KeyCommand → Type 0) (commands : List KeyCommand) (bytes : List ℕ)
    → ((command : KeyCommand) → own' command → own kept command)
    → IsGrowing (settled_table kept pending table) own' (commands ++ settled_commands kept pending) bytes → IsLeftOf table pending own commands bytes
left_growing table pending kept own own' commands bytes f g = record {
  kept = kept;
  more = g.more;
  more_is = if_some own' (λ (command : KeyCommand). ((kept ≡ false) × (pending ≡ Some command)) ⊎ own kept command) (λ command h. inr (f command h)) g.more g.more_is;
  fits = g.fits;
  spelled = g.spelled;
  log = g.log;
}

-- a settling, and then a change while nothing is pending
pub behind_settling : (old mid new : DiskState) (r s t : Running) (kept : Bool) (own : Bool → KeyCommand → Type 0) (own' : KeyCommand → Type 0) (logged : List KeyCommand)
    → ((command : KeyCommand) → own' command → own kept command)
    → service_of s ≡ record { keys = settled kept (service_of r); pending = None }
    → Logs old mid r.store s.store (IsLeftOf r.store.table.keys r.store.pending NoCommand) (settled_commands kept r.store.pending)
    → Logs mid new s.store t.store (IsGrowing s.store.table.keys own') logged
    → Logs old new r.store t.store (IsLeftOf r.store.table.keys r.store.pending own) (settled_commands kept r.store.pending ++ logged)
behind_settling old mid new r s t kept own own' logged f is a b = record {
  stands = λ telling commands stands.
      subst (IsKeyStoreOf new t.store) (append_assoc commands (settled_commands kept r.store.pending) logged)
      (b.stands (tells_on old mid a.run telling) (commands ++ settled_commands kept r.store.pending) (a.stands telling commands stands));
  moments = λ telling commands stands. (compose {file = 0} {P = IsLeftOf r.store.table.keys r.store.pending own commands}
      (record { run = a.run; moments = weaker (λ c left. leaving_more r.store.table.keys r.store.pending NoCommand own commands c (λ k command never. absurd never) left) (a.moments telling commands stands) })
      (record { run = b.run; moments = b.moments (tells_on old mid a.run telling) (commands ++ settled_commands kept r.store.pending) (a.stands telling commands stands) })
      (λ c g. left_growing r.store.table.keys r.store.pending kept own own' commands c f
      (subst (λ (x : Table). IsGrowing x own' (commands ++ settled_commands kept r.store.pending) c) (ap (λ (x : ServiceState). x.keys.table) is) g))).moments;
  run = joined old mid new a.run b.run;
}

-- a change whose pending command was settled first
pub acts_settled : (old mid new : DiskState) (r s t : Running) (words : ℕ → ℕ) (now : ℕ) (c : KmsCall) (answered : KmsReply) (words' : ℕ → ℕ) → kind c ≡ Committing
    → Settling old mid r s → ActsSettled mid new s words now c answered t words' → KmsActsOnDisk old new r words now c answered t words'
acts_settled old mid new r s t words now c answered words' change a b = record {
  drawn = b.drawn;
  logged = settled_commands a.kept r.store.pending ++ b.logged;
  serves = subst (λ (x : Kind). ServesBy x (service_of r) words now c (Rose old.faults new.faults) (Tells old) answered b.drawn (settled_commands a.kept r.store.pending ++ b.logged) (service_of t)) (sym change)
      (inr (a.kept, behind b.changes));
  rest = b.rest;
  disk = behind_settling old mid new r s t a.kept (OwnOf (service_of r) words now c answered (service_of t)) (OwnChange (keys_of s) words now c answered (service_of t)) b.logged
      own a.service a.disk b.disk;
}
  where
    before : List KeyCommand
    before = settled_commands a.kept r.store.pending

    keys_are : keys_of s ≡ settled a.kept (service_of r)
    keys_are = ap (λ (x : ServiceState). x.keys) a.service

    own : (command : KeyCommand) → OwnChange (keys_of s) words now c answered (service_of t) command → OwnOf (service_of r) words now c answered (service_of t) a.kept command
    own command h = record {
      free = ap (λ (k : KmsState). first_cause (causes k c)) (sym keys_are) ∙ h.free;
      is = ap (λ (k : KmsState). (deed k words now c).logs) (sym keys_are) ∙ h.is;
      was_written = h.was_written;
    }

    behind : Changes (keys_of s) [] words now c (Rose mid.faults new.faults) answered b.drawn b.logged (service_of t)
        → Changes (settled a.kept (service_of r)) before words now c (Rose old.faults new.faults) answered b.drawn (before ++ b.logged) (service_of t)
    behind (inl w) = inl (record {
      changed = w.changed;
      acts = subst (λ (k : KmsState). KmsActs k words now c answered b.drawn w.changed) keys_are w.acts;
      logged_is = ap (λ (l : List KeyCommand). before ++ l) (w.logged_is ∙ ap (λ (k : KmsState). acknowledged answered (deed k words now c).logs) keys_are);
      left = w.left;
    })
    behind (inr u) = inr (record {
      failed = rose_since old.faults mid.faults new.faults a.disk.run.faults u.failed;
      free = ap (λ (k : KmsState). first_cause (causes k c)) (sym keys_are) ∙ u.free;
      reply_is = u.reply_is;
      drawn_is = u.drawn_is ∙ ap (λ (k : KmsState). (deed k words now c).words) keys_are;
      logged_is = ap (λ (l : List KeyCommand). before ++ l) u.logged_is ∙ append-nil before;
      left = u.left ∙ ap (λ (k : KmsState). record { keys = (deed k words now c).state; pending = (deed k words now c).logs }) keys_are;
    })

-- a change whose pending command could not be settled
pub acts_unsettled : (old new : DiskState) (r t : Running) (words : ℕ → ℕ) (now : ℕ) (c : KmsCall) → kind c ≡ Committing
    → IsUnsettled old new r t → KmsActsOnDisk old new r words now c (Refused StoreFault) t words
acts_unsettled old new r t words now c change u = record {
  drawn = 0;
  logged = [];
  serves = subst (λ (x : Kind). ServesBy x (service_of r) words now c (Rose old.faults new.faults) (Tells old) (Refused StoreFault) 0 [] (service_of t)) (sym change)
      (inl (record { waits = u.waits; failed = u.failed; reply_is = refl; none_drawn = refl; none_logged = refl; same = ap service_of u.same }));
  rest = λ k. ap words (omega arith);
  disk = logs_leaving old new r.store t.store NoCommand (OwnOf (service_of r) words now c (Refused StoreFault) (service_of t)) [] (λ kept command never. absurd never) u.disk;
}

-- a call on the queues
pub acts_working : (d : DiskState) (r t : Running) (words : ℕ → ℕ) (now : ℕ) (c : KmsCall) (answered : KmsReply) (words' : ℕ → ℕ) → kind c ≡ Working
    → WorksOnQueues r words now c answered t words' → KmsActsOnDisk d d r words now c answered t words'
acts_working d r t words now c answered words' works w = record {
  drawn = w.acts.drawn;
  logged = [];
  serves = subst (λ (x : Kind). ServesBy x (service_of r) words now c (Rose d.faults d.faults) (Tells d) answered w.acts.drawn [] (service_of t)) (sym works)
      (record { changed = keys_of t; acts = w.acts.acts; none_logged = refl; left = λ i. record { keys = keys_of t; pending = (w.store i).pending } });
  rest = w.acts.rest;
  disk = subst (λ (store : StoreState). Logs d d r.store store P []) (sym w.store) (unchanged d r.store P);
}
  where
    P : List KeyCommand → List ℕ → Type 0
    P = IsLeftOf r.store.table.keys r.store.pending (OwnOf (service_of r) words now c answered (service_of t))

-- a change that is refused while nothing is pending
pub settled_refused : (d : DiskState) (r : Running) (words : ℕ → ℕ) (now : ℕ) (c : KmsCall) (why : KmsRefusal) (words' : ℕ → ℕ) → r.store.pending ≡ None
    → CallActs (keys_of r) words now c (Refused why) (keys_of r) words' → ActsSettled d d r words now c (Refused why) r words'
settled_refused d r words now c why words' none a = record {
  drawn = a.drawn;
  logged = [];
  changes = inl (record { changed = keys_of r; acts = a.acts; logged_is = refl; left = λ i. record { keys = keys_of r; pending = none i } });
  rest = a.rest;
  disk = unchanged d r.store (IsGrowing r.store.table.keys (OwnChange (keys_of r) words now c (Refused why) (service_of r)));
}

-- a change without a cause of refusal does its deed
pub settled_enacted : (old new : DiskState) (r t : Running) (words : ℕ → ℕ) (now : ℕ) (c : KmsCall) (answered : KmsReply) (words' : ℕ → ℕ)
    → takes_memory c ≡ true → first_cause (causes (keys_of r) c) ≡ None
    → acknowledged (deed (keys_of r) words now c).answer (deed (keys_of r) words now c).logs ≡ commands_of (deed (keys_of r) words now c).logs
    → Commits old new r (deed (keys_of r) words now c) answered t
    → ((k : ℕ) → words' k ≡ words ((deed (keys_of r) words now c).words + k)) → ActsSettled old new r words now c answered t words'
settled_enacted old new r t words now c answered words' takes free acks done rest = record {
  drawn = d.words;
  logged = done.logged;
  changes = ends done.ends;
  rest = rest;
  disk = logs_growing old new r.store t.store (OwnDeed d answered (service_of t)) (OwnChange s words now c answered (service_of t)) done.logged
      (λ command own. record { free = free; is = own.is; was_written = own.was_written }) done.disk;
}
  where
    s : KmsState
    s = keys_of r

    d : Deed
    d = deed (keys_of r) words now c

    ends : EndsSo s d (Rose old.faults new.faults) answered done.logged (service_of t) → Changes s [] words now c (Rose old.faults new.faults) answered d.words done.logged (service_of t)
    ends (inl (is, logged, left)) = inl (record {
      changed = done_with d.logs d.state;
      acts = (Plain, tt, (λ i. record { reply = is i; drawn = d.words; state = done_with d.logs d.state }) ∙ ap (λ cause. unless_refused cause s d) (sym free));
      logged_is = logged ∙ sym acks ∙ ap (λ (x : KmsReply). acknowledged x d.logs) (sym is);
      left = left;
    })
    ends (inr (inl (is, logged, left))) = inl (record {
      changed = s;
      acts = (NoRoom d.words, (takes, free, omega arith), λ i. record { reply = is i; drawn = d.words; state = s });
      logged_is = logged ∙ ap (λ (x : KmsReply). acknowledged x d.logs) (sym is);
      left = left;
    })
    ends (inr (inr (failed, is, logged, left))) = inr (record { failed = failed; free = free; reply_is = is; drawn_is = refl; logged_is = logged; left = left })

-- deeds with the same answer, command and state have the same commit
pub same_commit : (old new : DiskState) (r t : Running) (d e : Deed) (answered : KmsReply) → d.logs ≡ e.logs → d.answer ≡ e.answer → d.state ≡ e.state → Commits old new r d answered t → Commits old new r e answered t
same_commit old new r t d e answered logs answer state k = record {
  logged = k.logged;
  ends = same k.ends;
  disk = logs_growing old new r.store t.store (OwnDeed d answered (service_of t)) (OwnDeed e answered (service_of t)) k.logged
      (λ command own. record { is = sym logs ∙ own.is; was_written = own.was_written }) k.disk;
}
  where
    same : EndsSo (keys_of r) d (Rose old.faults new.faults) answered k.logged (service_of t) → EndsSo (keys_of r) e (Rose old.faults new.faults) answered k.logged (service_of t)
    same (inl (is, logged, left)) = inl (is ∙ answer, logged ∙ ap commands_of logs, left ∙ (λ i. record { keys = done_with (logs i) (state i); pending = None }))
    same (inr (inl h)) = inr (inl h)
    same (inr (inr (failed, is, logged, left))) = inr (inr (failed, is, logged, left ∙ (λ i. record { keys = state i; pending = logs i })))

-- the outcome of a commit

-- a log of these commands, with or without one more
growing : (table : Table) (own : KeyCommand → Type 0) (command : KeyCommand) (commands : List KeyCommand) (bytes : List ℕ) → own command → applies table command ≡ true → IsWritten commands command bytes
    → IsGrowing table own commands bytes
growing table own command commands bytes is_own may is = record { more = Some command; more_is = is_own; fits = may; spelled = is.0; log = is.1 }

-- The clauses of a commit.
pub record Committed (old new : DiskState) (store : StoreState) (command : KeyCommand) : Type 0 where
  pub may : applies store.table.keys command ≡ true
  pub moments : Tells old → (commands : List KeyCommand) → IsKeyStoreOf old store commands → LeavesOnly 0 old new (IsWritten commands command)
  pub run : RunOn 0 old new

wrote : (old new : DiskState) (store store' : StoreState) (own : KeyCommand → Type 0) (command : KeyCommand) → own command → Committed old new store command
    → (Tells old → (commands : List KeyCommand) → IsKeyStoreOf old store commands → IsKeyStoreOf new store' (commands ++ command ∷ []))
    → Logs old new store store' (IsGrowing store.table.keys own) (command ∷ [])
wrote old new store store' own command is_own k stands = record {
  stands = stands;
  moments = λ telling commands s. weaker (λ c is. growing store.table.keys own command commands c is_own k.may is) (k.moments telling commands s);
  run = k.run;
}

not_written : (old new : DiskState) (store store' : StoreState) (own : KeyCommand → Type 0) (command : KeyCommand) → own command → Committed old new store command
    → (Tells old → (commands : List KeyCommand) → IsKeyStoreOf old store commands → IsKeyStoreOf new store' commands)
    → Logs old new store store' (IsGrowing store.table.keys own) []
not_written old new store store' own command is_own k stands = record {
  stands = λ telling commands s. subst (IsKeyStoreOf new store') (sym (append-nil commands)) (stands telling commands s);
  moments = λ telling commands s. weaker (λ c is. growing store.table.keys own command commands c is_own k.may is) (k.moments telling commands s);
  run = k.run;
}

-- a deed and its command, for the keys of a running service
pub record IsDeedOf (r : Running) (d : Deed) (command : KeyCommand) : Type 0 where
  pub logs : d.logs ≡ Some command
  pub same_table : d.state.table ≡ r.store.table.keys
  pub acknowledges : acknowledged d.answer (Some command) ≡ command ∷ []

pub commit_done : (old new : DiskState) (r t : Running) (d : Deed) (command : KeyCommand) (answered : KmsReply) → IsDeedOf r d command → t.next ≡ d.state.next → t.ready ≡ queues_after d.state.ready command → answered ≡ d.answer
    → t.store.table.keys ≡ after r.store.table.keys command → t.store.pending ≡ None → Committed old new r.store command
    → (Tells old → (commands : List KeyCommand) → IsKeyStoreOf old r.store commands → IsKeyStoreOf new t.store (commands ++ command ∷ [])) → Commits old new r d answered t
commit_done old new r t d command answered of_deed next queues reply_is then_is none k stands = record {
  logged = command ∷ [];
  ends = inl (reply_is, ap commands_of (sym of_deed.logs), done);
  disk = wrote old new r.store t.store (OwnDeed d answered (service_of t)) command own k stands;
}
  where
    own : OwnDeed d answered (service_of t) command
    own = record { is = of_deed.logs; was_written = inl (ap (λ (x : KmsReply). acknowledged x (Some command)) reply_is ∙ of_deed.acknowledges) }

    there : t.store.table.keys ≡ after d.state.table command
    there = then_is ∙ ap (λ (x : Table). after x command) (sym of_deed.same_table)

    done : service_of t ≡ record { keys = done_with d.logs d.state; pending = None }
    done = subst (λ (o : Option KeyCommand). service_of t ≡ record { keys = done_with o d.state; pending = None }) (sym of_deed.logs)
        (λ i. record { keys = record { table = there i; next = next i; ready = queues i }; pending = none i })

-- memory ran out, and the disk did not change
pub commit_wanting : (old new : DiskState) (r t : Running) (d : Deed) (answered : KmsReply) → t.next ≡ r.next → t.ready ≡ r.ready → answered ≡ Refused NoMemory
    → t.store.table.keys ≡ r.store.table.keys → t.store.pending ≡ None → new ≡ old
    → (Tells old → (commands : List KeyCommand) → IsKeyStoreOf old r.store commands → IsKeyStoreOf new t.store commands) → Commits old new r d answered t
commit_wanting old new r t d answered next queues reply_is same none untouched stands = record {
  logged = [];
  ends = inr (inl (reply_is, refl, λ i. record { keys = record { table = same i; next = next i; ready = queues i }; pending = none i }));
  disk = idle old new r.store t.store (IsGrowing r.store.table.keys (OwnDeed d answered (service_of t))) untouched stands;
}

pub commit_failed : (old new : DiskState) (r t : Running) (d : Deed) (command : KeyCommand) (answered : KmsReply) → IsDeedOf r d command → t.next ≡ d.state.next → t.ready ≡ d.state.ready → answered ≡ Refused StoreFault
    → t.store.table.keys ≡ r.store.table.keys → t.store.pending ≡ Some command → Rose old.faults new.faults → Committed old new r.store command
    → (Tells old → (commands : List KeyCommand) → IsKeyStoreOf old r.store commands → IsKeyStoreOf new t.store commands) → Commits old new r d answered t
commit_failed old new r t d command answered of_deed next queues reply_is same waits failed k stands = record {
  logged = [];
  ends = inr (inr (failed, reply_is, refl, λ i. record { keys = record { table = (same ∙ sym of_deed.same_table) i; next = next i; ready = queues i }; pending = (waits ∙ sym of_deed.logs) i }));
  disk = not_written old new r.store t.store (OwnDeed d answered (service_of t)) command (record { is = of_deed.logs; was_written = inr waits }) k stands;
}

pub err_only : {A B Q : Type 0} (P : Type 0) (result : Result A B) → IsErr result → Q → MatchResult result (λ _. P) (λ _. Q)
err_only P (Ok x) is q = absurd cc
err_only P (Err e) is q = q

-- the outcome of a settling

without : (commands : List KeyCommand) (pending : Option KeyCommand) → commands ≡ commands ++ settled_commands false pending
without commands None = sym (append-nil commands)
without commands (Some command) = sym (append-nil commands)

unsettled_table : (pending : Option KeyCommand) (t : Table) → settled_table false pending t ≡ t
unsettled_table None t = refl
unsettled_table (Some command) t = refl

pub left_waiting : (table : Table) (command : KeyCommand) (commands : List KeyCommand) (bytes : List ℕ) → applies table command ≡ true → HasSpelling command → IsWithOrWithout commands command bytes → IsLeftOf table (Some command) NoCommand commands bytes
left_waiting table command commands bytes may spelled is =
    record { kept = false; more = Some command; more_is = inl (refl, refl); fits = may; spelled = spelled; log = subst (λ (l : List KeyCommand). IsLogOf l (Some command) bytes) (sym (append-nil commands)) is }

-- a crash during the settling leaves what a crash may leave while the command waits
pub settling_moments : (old new : DiskState) (store : StoreState) → Applies store.table.keys store.pending → (store.pending ≡ None → new ≡ old)
    → (Tells old → (commands : List KeyCommand) (command : KeyCommand) → IsKeyStoreOf old store commands → store.pending ≡ Some command → LeavesOnly 0 old new (IsWithOrWithout commands command))
    → Tells old → (commands : List KeyCommand) → IsKeyStoreOf old store commands → LeavesOnly 0 old new (IsLeftOf store.table.keys store.pending NoCommand commands)
settling_moments old new store applies nothing moments telling commands s = go store.pending refl applies s.waits
  where
    go : (o : Option KeyCommand) → store.pending ≡ o → Applies store.table.keys o → IfSome o HasSpelling → LeavesOnly 0 old new (IsLeftOf store.table.keys o NoCommand commands)
    go None is may spelled = subst (λ (d : DiskState). LeavesOnly 0 old d (IsLeftOf store.table.keys None NoCommand commands)) (sym (nothing is)) (begin 0 old (IsLeftOf store.table.keys None NoCommand commands)).moments
    go (Some command) is may spelled = weaker (λ c left. left_waiting store.table.keys command commands c may spelled left) (moments telling commands command s is)

pub settles : (old new : DiskState) (r t : Running) (kept : Bool) → t.next ≡ r.next → t.ready ≡ settled_queues kept r.store.pending r.ready → Applies r.store.table.keys r.store.pending → (r.store.pending ≡ None → new ≡ old)
    → (Tells old → (commands : List KeyCommand) (command : KeyCommand) → IsKeyStoreOf old r.store commands → r.store.pending ≡ Some command → LeavesOnly 0 old new (IsWithOrWithout commands command))
    → RunOn 0 old new → SettlesKeys old new r.store t.store kept → Settling old new r t
settles old new r t kept next queues applies nothing moments run s = record {
  kept = kept;
  service = λ i. record { keys = record { table = s.table i; next = next i; ready = queues i }; pending = s.none i };
  disk = record { stands = s.log; moments = settling_moments old new r.store applies nothing moments; run = run };
}

pub stays_pending : (old new : DiskState) (r t : Running) → t ≡ r → Applies r.store.table.keys r.store.pending → (r.store.pending ≡ None → new ≡ old)
    → (Tells old → (commands : List KeyCommand) (command : KeyCommand) → IsKeyStoreOf old r.store commands → r.store.pending ≡ Some command → LeavesOnly 0 old new (IsWithOrWithout commands command))
    → (Tells old → (commands : List KeyCommand) → IsKeyStoreOf old r.store commands → IsKeyStoreOf new t.store commands)
    → RunOn 0 old new → (r.store.pending ≡ None → ⊥) → Rose old.faults new.faults → IsUnsettled old new r t
stays_pending old new r t same applies nothing moments stands run waits failed = record {
  waits = go r.store.pending waits;
  failed = failed;
  same = same;
  disk = record {
    stands = λ telling commands s. subst (IsKeyStoreOf new t.store) (sym (append-nil commands)) (stands telling commands s);
    moments = settling_moments old new r.store applies nothing moments;
    run = run;
  };
}
  where
    go : (o : Option KeyCommand) → (o ≡ None → ⊥) → is_some o ≡ true
    go None waits = absurd (waits refl)
    go (Some command) waits = refl

-- a roll and a delete, with nothing pending

pub rolls : (old new : DiskState) (r t : Running) (words : ℕ → ℕ) (now : ℕ) (name : List ℕ) (given : Option (List ℕ)) (key : Standing) (drawn : List ℕ) (answered : KmsReply) (words' : ℕ → ℕ)
    → StandsSo (keys_of r) name key → is_misfit key.bits given ≡ false → key.versions < 65535 → drawn ≡ material_for words key.bits given
    → ((k : ℕ) → words' k ≡ words (words_for key.bits given + k)) → Commits old new r (rolled (keys_of r) name (row_of (keys_of r) name) drawn 0) answered t
    → ActsSettled old new r words now (call.Roll name given) answered t words'
rolls old new r t words now name given key drawn answered words' so fits room drawn_is rest done =
    let same : drawn ≡ material_for words (bits_of (row_of (keys_of r) name)) given = drawn_is ∙ ap (λ n. material_for words n given) so.bits in
    settled_enacted old new r t words now (call.Roll name given) answered words' refl (may_be_rolled (keys_of r) name given key so fits room) refl
    (same_commit old new r t (rolled (keys_of r) name (row_of (keys_of r) name) drawn 0) (deed (keys_of r) words now (call.Roll name given)) answered
    (ap (λ (m : List ℕ). Some (command.Roll (birth_of (row_of (keys_of r) name)) (versions_of (row_of (keys_of r) name)) m)) same)
    (ap (λ (m : List ℕ). version_with_material name (versions_of (row_of (keys_of r) name)) m) same) refl done)
    (λ k. rest k ∙ ap (λ n. words (words_for n given + k)) so.bits)

pub deletes : (old new : DiskState) (r t : Running) (words : ℕ → ℕ) (now : ℕ) (name : List ℕ) (key : Standing) (answered : KmsReply) → StandsSo (keys_of r) name key
    → Commits old new r (deleted (keys_of r) key.birth) answered t → ActsSettled old new r words now (call.Delete name) answered t words
deletes old new r t words now name key answered so done =
    settled_enacted old new r t words now (call.Delete name) answered words refl (ap (λ b. cond b (Some refusal.NoSuchKey) None) so.stands) refl
    (subst (λ (b : ℕ). Commits old new r (deleted (keys_of r) b) answered t) so.birth done) (λ k. ap words (omega arith))

-- a start

-- the table before an opening
before_opening : (t : Table) → 0 < t.opening → t ≡ after (record t { opening = t.opening - 1 }) (next_opening (record t { opening = t.opening - 1 }))
before_opening t some = let is : t.opening ≡ t.opening - 1 + 1 = omega arith in λ i. record t { opening = is i }

opened_behind : (d : DiskState) (store : StoreState) (commands : List KeyCommand) (table : Table) → IsKeyStoreOf d store (commands ++ next_opening table ∷ []) → key_replay no_keys commands ≡ Some table
    → store.table.keys ≡ after table (next_opening table)
opened_behind d store commands table s makes =
    let may : applies table (next_opening table) ≡ true = (Decides-eqb (table.opening + 1) (table.opening + 1)).1 refl in
    let both : Some store.table.keys ≡ Some (after table (next_opening table)) = sym s.makes ∙ replay_more no_keys table commands (next_opening table) makes may in
    cc both

pub started_keys : (old new : DiskState) (store : StoreState) (all : AllQueues) → all.queues ≡ [] → store.pending ≡ None → store.table.keys.greatest < store.table.keys.opening * 2 ^ 32
    → (Tells old → (commands : List KeyCommand) × (table : Table) × IsKeyLog (old.reads 0) commands table × IsKeyStoreOf new store (commands ++ next_opening table ∷ []))
    → Starts old new (record { store = store; next = 1; ready = all })
started_keys old new store all no_queues none births log = record {
  table = before;
  opens = λ i. record { keys = record { table = is i; next = 1; ready = record all { queues = no_queues i } }; pending = none i };
  log = λ telling.
      let found = log telling in
      let table_is : before ≡ found.1 = same_before found.1 (opened_behind new store found.0 found.1 found.3 found.2.makes) in (
        found.0,
        subst (λ (t : Table). IsKeyLog (old.reads 0) found.0 t) (sym table_is) found.2,
        subst (λ (t : Table). IsKeyStoreOf new store (found.0 ++ next_opening t ∷ [])) (sym table_is) found.3,
      );
}
  where
    keys : Table
    keys = store.table.keys

    before : Table
    before = record keys { opening = keys.opening - 1 }

    is : keys ≡ after before (next_opening before)
    is = before_opening keys (some keys.opening keys.greatest births)
      where
        some : (o g : ℕ) → g < o * 2 ^ 32 → 0 < o
        some o g h = grind (arith, h)

    same_before : (t : Table) → keys ≡ after t (next_opening t) → before ≡ t
    same_before t h = ap (λ (x : Table). record x { opening = x.opening - 1 }) h ∙ (λ i. record t { opening = back i })
      where
        back : t.opening + 1 - 1 ≡ t.opening
        back = omega arith
