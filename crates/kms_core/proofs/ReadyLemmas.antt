-- Ready keys are of the current versions of their keys, after each call, settling, opening and deposit.
use Rattle.std.proofs.Common.{◌≡◌, inl, inr, ℕ, ◌+◌, ◌*◌, ◌^◌, ◌<◌, ◌≤◌, Bool, true, false, cond, List, [], ◌∷◌, Option, None, Some, is_none, IfSome, Result, Ok, Err, refl, ap, sym, ◌∙◌, subst, arith}
use Rattle.std.specs.Prelude.{is_some, not}
use Rattle.hk_base.specs.declared.names.Edek.{Edek}
use Rattle.hk_base.specs.declared.texts.Text.{Text}
use Rattle.eek_seal.specs.Tickets.{SealedKey}
use Rattle.eek_seal.specs.declared.deposit.Deposit.{Deposit}
use Rattle.eek_seal.specs.declared.deposit.Deposit.TheVariants.{Full, Kept, Stale}
use Rattle.eek_queues.specs.Queues.{AllQueues}
use Rattle.key_rows.specs.declared.rows.KeyCommand.{KeyCommand}
use Rattle.key_rows.specs.declared.rows.KeyCommand.TheVariants.{Opened, Create, Roll, Delete}
use Rattle.key_rows.specs.declared.rows.KeyRow.{KeyRow}
use Rattle.key_rows.specs.Sound.{AreRowsRising}
use Rattle.key_rows.specs.Table.{Table, after, current_of, find_birth, is_born, is_length, is_named}
use Rattle.key_rows.proofs.Births.{by_birth, rising_filter, rising_more}
use Rattle.key_rows.proofs.Rolls.{rising_rolled}
use Rattle.kms_acls.specs.declared.answers.Denied.{Denied}
use Rattle.kms_acls.specs.declared.answers.Shown.{Shown}
use Rattle.kms_acls.specs.Verdict.{verdict}
use Rattle.kms_calls.specs.declared.calls.KmsCall.{KmsCall}
use Rattle.kms_calls.specs.declared.calls.KmsCall.TheVariants as call
use Rattle.kms_calls.specs.declared.calls.KmsRefusal.{KmsRefusal}
use Rattle.kms_calls.specs.declared.calls.KmsRefusal.TheVariants as refusal
use Rattle.kms_calls.specs.declared.calls.KmsReply.{KmsReply}
use Rattle.prop_text.specs.declared.lines.PropLine.{PropLine}
use Rattle.kms_core.specs.State.{AllReady, IsPending, IsService, KmsState, ServiceState, next_birth, service_after_opening, settled}
use Rattle.kms_core.specs.Calls.{KmsActs, NoRoom, Plain, birth_of, causes, deed, done_with, first_cause, is_full, is_misfit, ready_of, row_of, unless_refused}
use Rattle.kms_core.specs.Ready.{deposit_answer, deposited, queues_with}
use Rattle.kms_core.specs.Service.{Committing, Kind, KmsServes, Reading, ServesBy, Working, kind}
use Rattle.kms_core.specs.Users.{ServesUnder, ServesUser}
use Rattle.kms_core.proofs.BirthLemmas.{IsNew, new_birth, works_only}
use Rattle.kms_core.proofs.DepositLemmas.{all_deposited, all_emptied, newest_of}
use Rattle.kms_core.proofs.KeepLemmas.{room_for}
use Rattle.kms_core.proofs.QueueLemmas.{AllOf, all_handed_out, ready_after, ready_are}
use Rattle.kms_core.proofs.ReadyLaws.{kept_present}

-- a command that may be pending: if it creates a key, the birth is new, and it is below the next one
pub record MayWait (t : Table) (next : ℕ) (command : KeyCommand) : Type 0 where
  pub new : IsNew t command
  pub same_opening : (after t command).opening ≡ t.opening
  pub births : (after t command).greatest < next

-- Births rise and are below the next one, and each ready key is of the current version of its key. Openings may have any number.
pub record KeepsReady (s : ServiceState) : Type 0 where
  pub rising : AreRowsRising 0 s.keys.table.rows s.keys.table.greatest
  pub births : s.keys.table.greatest < next_birth s.keys
  pub counter : s.keys.next ≤ 2 ^ 32
  pub waits : IfSome s.pending (MayWait s.keys.table (next_birth s.keys))
  pub ready : AllReady s.keys.table.rows s.keys.ready.queues

pub service_keeps_ready : (s : ServiceState) → IsService s → KeepsReady s
service_keeps_ready s is = record { rising = is.table.births; births = is.births; counter = is.counter; waits = go s.pending is.waits; ready = is.ready }
  where
    go : (o : Option KeyCommand) → IfSome o (IsPending s.keys) → IfSome o (MayWait s.keys.table (next_birth s.keys))
    go None waits = tt
    go (Some command) waits = record { new = new_birth s.keys.table command waits.fits; same_opening = waits.same_opening; births = waits.births }

-- the row of a key that exists is found by its birth
pub standing_row : (s : KmsState) (name : List ℕ) → AreRowsRising 0 s.table.rows s.table.greatest → is_none (row_of s name) ≡ false
    → (row : KeyRow) × (row_of s name ≡ Some row) × (find_birth s.table.rows (birth_of (row_of s name)) ≡ Some row)
standing_row s name rising stands = go (row_of s name) refl (by_birth 0 (is_named name) s.table.rows s.table.greatest rising) stands
  where
    go : (o : Option KeyRow) → row_of s name ≡ o → IfSome o (λ row. find_birth s.table.rows row.birth ≡ Some row) → is_none o ≡ false
        → (row : KeyRow) × (row_of s name ≡ Some row) × (find_birth s.table.rows (birth_of (row_of s name)) ≡ Some row)
    go None found born stands = absurd cc
    go (Some row) found born stands = (row, found, ap (λ (o : Option KeyRow). find_birth s.table.rows (birth_of o)) found ∙ born)

-- the oldest ready key of a key is of its current version
pub first_ready : (s : ServiceState) (name : List ℕ) (row : KeyRow) (e : Edek) (more : List Edek) → KeepsReady s → row_of s.keys name ≡ Some row
    → find_birth s.keys.table.rows (birth_of (row_of s.keys name)) ≡ Some row → ready_of s.keys name ≡ e ∷ more → e.version ≡ current_of row
first_ready s name row e more k named found is =
    (subst (AllOf row) is (ready_are s.keys.table.rows s.keys.ready.queues (birth_of (row_of s.keys name)) row k.ready found)).0

-- a command takes effect

rising_after : (t : Table) (command : KeyCommand) → IsNew t command → AreRowsRising 0 t.rows t.greatest → AreRowsRising 0 (after t command).rows (after t command).greatest
rising_after t (Opened opening) new rising = rising
rising_after t (Create birth name bits description created material) new rising =
    rising_more 0 t.rows t.greatest (record { name = name; birth = birth; bits = bits; materials = material ∷ []; description = description; created = created }) rising new
rising_after t (Roll birth number material) new rising = rising_rolled 0 birth material t.rows t.greatest rising
rising_after t (Delete birth) new rising = rising_filter 0 (λ row. not (is_born birth row)) t.rows t.greatest rising

-- the pending command is settled
pub settling_keeps_ready : (kept : Bool) (s : ServiceState) → KeepsReady s → KeepsReady (record { keys = settled kept s; pending = None })
settling_keeps_ready kept s k = go kept s.pending k.waits
  where
    go : (kept : Bool) (o : Option KeyCommand) → IfSome o (MayWait s.keys.table (next_birth s.keys)) → KeepsReady (record { keys = settled kept (record { keys = s.keys; pending = o }); pending = None })
    go kept None waits = record { rising = k.rising; births = k.births; counter = k.counter; waits = tt; ready = k.ready }
    go false (Some command) waits = record { rising = k.rising; births = k.births; counter = k.counter; waits = tt; ready = k.ready }
    go true (Some command) waits = record {
      rising = rising_after s.keys.table command waits.new k.rising;
      births = subst (λ (n : ℕ). (after s.keys.table command).greatest < n * 2 ^ 32 + s.keys.next) (sym waits.same_opening) waits.births;
      counter = k.counter;
      waits = tt;
      ready = ready_after s.keys.table s.keys.ready command k.ready;
    }

-- other queues
queues_keep_ready : (s : ServiceState) (all : AllQueues) → AllReady s.keys.table.rows all.queues → KeepsReady s → KeepsReady (record s { keys = record s.keys { ready = all } })
queues_keep_ready s all ready k = record { rising = k.rising; births = k.births; counter = k.counter; waits = k.waits; ready = ready }

-- a call without a cause of refusal

last_free : (a b c d : Bool) (p q r t : KmsRefusal) → cond a (Some p) (cond b (Some q) (cond c (Some r) (cond d (Some t) None))) ≡ None → d ≡ false
last_free true b c d p q r t free = absurd cc
last_free false true c d p q r t free = absurd cc
last_free false false true d p q r t free = absurd cc
last_free false false false true p q r t free = absurd cc
last_free false false false false p q r t free = refl

first_free : (a : Bool) (p : KmsRefusal) (rest : Option KmsRefusal) → cond a (Some p) rest ≡ None → a ≡ false
first_free true p rest free = absurd cc
first_free false p rest free = refl

same_keys : (s : KmsState) (all : AllQueues) → AllReady s.table.rows all.queues → KeepsReady (record { keys = s; pending = None }) → KeepsReady (record { keys = record s { ready = all }; pending = None })
same_keys s all ready k = queues_keep_ready (record { keys = s; pending = None }) all ready k

deed_keeps_ready : (s : KmsState) (words : ℕ → ℕ) (now : ℕ) (c : KmsCall) → first_cause (causes s c) ≡ None → KeepsReady (record { keys = s; pending = None })
    → KeepsReady (record { keys = (deed s words now c).state; pending = (deed s words now c).logs })
deed_keeps_ready s words now (call.Create name bits material description) free k =
    let births = k.births in
    let room = room_for s (last_free (is_some (row_of s name)) (not (is_length bits)) (is_misfit bits material) (is_full s) refusal.KeyExists refusal.BadLength refusal.BadMaterial refusal.TooManyKeys free) in
    record {
      rising = k.rising;
      births = omega (arith, births);
      counter = omega (arith, room);
      waits = record { new = births; same_opening = refl; births = omega arith };
      ready = k.ready;
    }
deed_keeps_ready s words now (call.Roll name material) free k = record { rising = k.rising; births = k.births; counter = k.counter; waits = record { new = tt; same_opening = refl; births = k.births }; ready = k.ready }
deed_keeps_ready s words now (call.Delete name) free k = record { rising = k.rising; births = k.births; counter = k.counter; waits = record { new = tt; same_opening = refl; births = k.births }; ready = k.ready }
deed_keeps_ready s words now (call.Invalidate name) free k = same_keys s _ (all_emptied s.table.rows s.ready (birth_of (row_of s name)) k.ready) k
deed_keeps_ready s words now (call.Metadata name) free k = k
deed_keeps_ready s words now (call.Metadatas names) free k = k
deed_keeps_ready s words now call.Names free k = k
deed_keeps_ready s words now (call.Current name) free k = k
deed_keeps_ready s words now (call.Versions name) free k = k
deed_keeps_ready s words now (call.Version version) free k = k
deed_keeps_ready s words now (call.Generate name count) free k =
    let row = standing_row s name k.rising (first_free (is_none (row_of s name)) refusal.NoSuchKey _ free) in
    same_keys s _ (all_handed_out s.table.rows s.ready (birth_of (row_of s name)) count row.0 row.2 k.ready) k
deed_keeps_ready s words now (call.Decrypt name sent) free k = k
deed_keeps_ready s words now (call.Reencrypt name sent) free k = k
deed_keeps_ready s words now (call.Batch name sent) free k = k

done_keeps_ready : (o : Option KeyCommand) (s : KmsState) → KeepsReady (record { keys = s; pending = o }) → KeepsReady (record { keys = done_with o s; pending = None })
done_keeps_ready None s k = settling_keeps_ready true (record { keys = s; pending = None }) k
done_keeps_ready (Some command) s k = settling_keeps_ready true (record { keys = s; pending = Some command }) k

-- calls

acts_keep_ready : (s : KmsState) (words : ℕ → ℕ) (now : ℕ) (c : KmsCall) (answer : KmsReply) (drawn : ℕ) (s' : KmsState) → KmsActs s words now c answer drawn s' → KeepsReady (record { keys = s; pending = None })
    → KeepsReady (record { keys = s'; pending = None })
acts_keep_ready s words now c answer drawn s' (NoRoom some, may, is) k = subst (λ (t : KmsState). KeepsReady (record { keys = t; pending = None })) (sym (ap (λ o. o.state) is)) k
acts_keep_ready s words now c answer drawn s' (Plain, may, is) k = subst (λ (t : KmsState). KeepsReady (record { keys = t; pending = None })) (sym (ap (λ o. o.state) is)) (go (first_cause (causes s c)) refl)
  where
    go : (o : Option KmsRefusal) → first_cause (causes s c) ≡ o → KeepsReady (record { keys = (unless_refused o s (deed s words now c)).state; pending = None })
    go (Some why) free = k
    go None free = done_keeps_ready (deed s words now c).logs (deed s words now c).state (deed_keeps_ready s words now c free k)

pub serves_keeps_ready : (s : ServiceState) (words : ℕ → ℕ) (now : ℕ) (c : KmsCall) (fault tells : Type 0) (answer : KmsReply) (drawn : ℕ) (logged : List KeyCommand) (s' : ServiceState)
    → KmsServes s words now c fault tells answer drawn logged s' → KeepsReady s → KeepsReady s'
serves_keeps_ready s words now c fault tells answer drawn logged s' serves k = go (kind c) refl serves
  where
    go : (x : Kind) → kind c ≡ x → ServesBy x s words now c fault tells answer drawn logged s' → KeepsReady s'
    go Reading is r = subst KeepsReady (sym r.same) k
    go Working is r =
        let only = works_only s words now c answer drawn logged s' is r in
        let then = acts_keep_ready s.keys words now c answer drawn r.changed r.acts (record { rising = k.rising; births = k.births; counter = k.counter; waits = tt; ready = k.ready }) in
        let there : AllReady s'.keys.table.rows s'.keys.ready.queues = subst (λ (t : ServiceState). AllReady t.keys.table.rows t.keys.ready.queues) (sym r.left) then.ready in
        subst KeepsReady (sym only) (queues_keep_ready s s'.keys.ready (subst (λ (t : ServiceState). AllReady t.keys.table.rows s'.keys.ready.queues) only there) k)
    go Committing is (inl u) = subst KeepsReady (sym u.same) k
    go Committing is (inr (kept, inl w)) = subst KeepsReady (sym w.left) (acts_keep_ready (settled kept s) words now c answer drawn w.changed w.acts (settling_keeps_ready kept s k))
    go Committing is (inr (kept, inr u)) = subst KeepsReady (sym u.left) (deed_keeps_ready (settled kept s) words now c u.free (settling_keeps_ready kept s k))

pub user_keeps_ready : (lines : List PropLine) (user : Text) (s : ServiceState) (words : ℕ → ℕ) (now : ℕ) (c : KmsCall) (fault tells : Type 0) (answer : KmsReply) (drawn : ℕ) (logged : List KeyCommand) (s' : ServiceState)
    → ServesUser lines user s words now c fault tells answer drawn logged s' → KeepsReady s → KeepsReady s'
user_keeps_ready lines user s words now c fault tells answer drawn logged s' serves k = by_verdict (verdict lines user c) serves
  where
    by_verdict : (v : Result Shown Denied) → ServesUnder v s words now c fault tells answer drawn logged s' → KeepsReady s'
    by_verdict (Ok shown) p = serves_keeps_ready s words now c fault tells p.reply drawn logged s' p.serves k
    by_verdict (Err denied) d = subst KeepsReady (sym d.same) k

-- a start that finds the settled table
pub opening_keeps_ready : (kept : Bool) (s : ServiceState) (all : AllQueues) → KeepsReady s → KeepsReady (service_after_opening all (settled kept s).table)
opening_keeps_ready kept s all k =
    let t = settling_keeps_ready kept s k in
    let births = t.births in
    let counter = t.counter in
    record { rising = t.rising; births = omega (arith, births, counter); counter = omega arith; waits = tt; ready = tt }

-- a deposit
pub deposit_keeps_ready : (s : ServiceState) (x : SealedKey) → KeepsReady s → KeepsReady (record s { keys = deposited s.keys x })
deposit_keeps_ready s x k = queues_keep_ready s (queues_with s.keys.ready x (deposit_answer s.keys x)) (go (deposit_answer s.keys x) refl) k
  where
    go : (d : Deposit) → deposit_answer s.keys x ≡ d → AllReady s.keys.table.rows (queues_with s.keys.ready x d).queues
    go Kept is = all_deposited s.keys x (newest_of s.keys x k.rising (kept_present s.keys x is)) k.ready
    go Full is = k.ready
    go (Stale opening birth number) is = k.ready
