-- A restart of either service: what it finds in its log, and what a crash leaves meanwhile.
use Rattle.std.proofs.Common.{◌≡◌, ◌⊎◌, inl, inr, ℕ, ◌≤◌, ◌∙◌, Bool, true, false, List, [], ◌∷◌, ◌++◌, refl, sym, ap, subst, ⊎_elim, arith, append_assoc}
use Rattle.hk_base.specs.Disk.{DiskState, Image, IsImage, LeavesOnly, Tells}
use Rattle.hk_base.proofs.Runs.{weaker}
use Rattle.eek_queues.specs.Queues.{AllQueues}
use Rattle.frame_log.specs.declared.fault.StartFault.{StartFault}
use Rattle.edit_ops.specs.declared.ops.EditOp.{EditOp}
use Rattle.key_rows.specs.declared.rows.KeyCommand.{KeyCommand}
use Rattle.key_rows.specs.Table.{Table}
use Rattle.prop_text.specs.declared.lines.PropLine.{PropLine}
use Rattle.kms_store.specs.Store.{AKeyOpening, Applies, IsLeftByStart, IsLeftOf, IsSoundLog, NoCommand, OpensKeys, IsKeyStoreOf, next_opening, settled_commands}
use Rattle.kms_store.proofs.Layers.{finds, left_by_start, left_by_store, not_damaged, sound_store, stands_once}
use Rattle.kms_core.specs.Service.{Starts}
use Rattle.kms_core.specs.State.{service_after_opening}
use Rattle.kms_core.specs.Users.{RunningKms, running}
use Rattle.name_store.specs.Store.{AnOpening, IsLeftByStart as IsLeftByNameStart, IsLeftOf as IsLeftOfNames, IsSoundLog as IsSoundNames, NothingMore, OpensNames, made_with}
use Rattle.name_store.specs.Table.{NameTable, Replayed, next_opening as next_opening_of_names, settled_ops}
use Rattle.name_core.specs.Service.{Starts as NamesStart}
use Rattle.name_core.specs.State.{IsNamesystemOf}
use Rattle.hk_events.specs.declared.event.Event.TheVariants as event
use Rattle.hk_events.specs.declared.event.Line.TheVariants as line
use Rattle.world_run.specs.Acknowledged.{Acknowledged, HoldsLogs, LeavesBoth, Survives, of_keys, of_names}
use Rattle.world_run.specs.Does.{Happens}
use Rattle.world_run.specs.Keeps.{FailsToRestart, LeftByRestart, SoundFrom, SurvivesThrough}
use Rattle.world_run.specs.Ledger.{Hidden, past_of}
use Rattle.world_run.specs.Linked.{LinkedWorld, ServicesFit}
use Rattle.world_run.specs.Step.{Recovers, RecoversNames}
use Rattle.world_run.specs.World.{RunningWorld, world_of}
use Rattle.world_run.proofs.BothLemmas.{LeavesLogs, both-of, on-keys-leaves, on-names-leaves}
use Rattle.world_run.proofs.CrashLemmas.{left-now, left-sound, survives-through}
use Rattle.world_run.proofs.KeyLemmas.{keys-weaker}
use Rattle.world_run.proofs.Laters.{may-wait}
use Rattle.world_run.proofs.SoundLemmas.{LinkedFiles, own-of-nothing, own-of-opening, world-files}
use Rattle.world_run.proofs.StartLemmas.{Moment}
use Rattle.world_run.proofs.StepLemmas.{own-weaker}
use Rattle.name_store.proofs.Layers.{finds as finds_names, left_by_start as names_left_by_start, left_by_store as names_left_by_store, not_damaged as names_not_damaged, sound_store as sound_names, stands_once as names_stand_once}

abbrev Held : DiskState → RunningWorld → Type 0
Held d w = Tells d → (done : Acknowledged) × HoldsLogs d w done

-- an image that a crash leaves at the end was left before the restart began, or is left by it
left-then : (old new : DiskState) (w : RunningWorld) (own_keys : Bool → KeyCommand → Type 0) (own : Bool → EditOp → Type 0) → Moment old → Moment new → old.moment ≤ new.moment → (done : Acknowledged)
    → LeavesBoth old new (λ c. Survives (world_of w) done own_keys own c × SoundFrom (LinkedWorld (world_of w)) (λ h. h) c)
    → ((c : Image) → IsImage old c → Survives (world_of w) done own_keys own c × SoundFrom (LinkedWorld (world_of w)) (λ h. h) c)
    → (c : Image) → IsImage new c → Survives (world_of w) done own_keys own c × SoundFrom (LinkedWorld (world_of w)) (λ h. h) c
left-then old new w own_keys own m n later done moments now c image =
    ⊎_elim (λ past. now c (m.only c past)) (λ left. left) (moments.before old.moment c (omega arith) (n.counts old.moment c later image))

-- the key management service

may-be-kept : (w : RunningWorld) → ServicesFit (world_of w) → Applies w.keys.store.table.keys w.keys.store.pending
may-be-kept w fit = may-wait w.keys.store.pending (world_of w).keys.keys fit.keys.waits

-- each image that a start leaves of the log of a service is one that a crash may leave
keys-left-by-restart : (old new : DiskState) (w : RunningWorld) → w.keys.store.log.file ≡ 0 → ServicesFit (world_of w) → (Tells old → LeavesOnly 0 old new (λ c. old.leaves 0 c ⊎ IsLeftByStart (old.reads 0) c))
    → Tells old → (commands : List KeyCommand) → IsKeyStoreOf old w.keys.store commands → LeavesOnly 0 old new (IsLeftOf w.keys.store.table.keys w.keys.store.pending AKeyOpening commands)
keys-left-by-restart old new w of_file fit moments tells commands s =
    let sound = sound_store old w.keys.store commands of_file (may-be-kept w fit) s in
    weaker (λ c left. ⊎_elim
    (λ before. keys-weaker NoCommand AKeyOpening w.keys.store.table.keys w.keys.store.pending commands c (λ k command none. absurd none) (left_by_store old w.keys.store commands of_file (may-be-kept w fit) s c before))
    (λ found. left_by_start (old.reads 0) commands w.keys.store.pending w.keys.store.table.keys sound c found) left) (moments tells)

-- what a start found in the log of a service
record KeysReopened (old new : DiskState) (w w' : RunningWorld) (table : Table) : Type 0 where
  logged : List KeyCommand
  found : Tells old → Recovers (world_of w).keys table logged
  stands : Tells old → (commands : List KeyCommand) → IsKeyStoreOf old w.keys.store commands → IsKeyStoreOf new w'.keys.store (commands ++ logged)

keys-reopened : (old new : DiskState) (w w' : RunningWorld) → w.keys.store.log.file ≡ 0 → ServicesFit (world_of w) → Held old w → (s : Starts old new (running w'.keys)) → KeysReopened old new w w' s.table
keys-reopened old new w w' of_file fit held s = go old.tells refl
  where
    go : (b : Bool) → old.tells ≡ b → KeysReopened old new w w' s.table
    go false silent = record {
      logged = [];
      found = λ tells. absurd (cc (tells, silent));
      stands = λ tells. absurd (cc (tells, silent));
    }
    go true tells =
        let log = s.log tells in
        let before = held tells in
        let may = may-be-kept w fit in
        let f = finds (old.reads 0) before.0.keys w.keys.store.pending w.keys.store.table.keys log.0 s.table (sound_store old w.keys.store before.0.keys of_file may before.1.keys) log.1 in
        let logged : List KeyCommand = settled_commands f.kept w.keys.store.pending ++ next_opening s.table ∷ [] in
        let all : log.0 ++ next_opening s.table ∷ [] ≡ before.0.keys ++ logged =
        ap (λ (l : List KeyCommand). l ++ next_opening s.table ∷ []) f.ops_are ∙ append_assoc before.0.keys (settled_commands f.kept w.keys.store.pending) (next_opening s.table ∷ []) in
        record {
          logged = logged;
          found = λ again. record { kept = f.kept; table_is = f.made_is; commands_are = refl };
          stands = λ again commands other.
              let one : commands ≡ before.0.keys = stands_once old w.keys.store before.0.keys commands log.0 s.table of_file may before.1.keys other log.1 in
              subst (IsKeyStoreOf new w'.keys.store) (all ∙ ap (λ (l : List KeyCommand). l ++ logged) (sym one)) log.2;
        }

-- the new keys replace the old ones, and the lists are the same
pub keys-restarted : (old new : DiskState) (w w' : RunningWorld) (opening : ℕ) → w'.keys.acls ≡ w.keys.acls → w'.keys.ready ≡ record w.keys.ready { queues = [] } → w.keys.store.log.file ≡ 0 → ServicesFit (world_of w) → Held old w → Starts old new (running w'.keys)
    → {fails : StartFault → Type 0} → OpensKeys old new fails → opening ≡ w'.keys.store.table.keys.opening → w' ≡ record w { keys = w'.keys }
    → (lines : List PropLine) (words : ℕ → ℕ) (now : ℕ) → Happens lines old new w words now event.RestartKms (line.Opened opening) w' words
keys-restarted old new w w' opening lists sizes of_file fit held s o number rest lines words now =
    let found = keys-reopened old new w w' of_file fit held s in
    record {
      drawn = 0;
      logged = of_keys found.logged;
      acts = record {
        table = s.table;
        commands = found.logged;
        found = found.found;
        logged_is = refl;
        reply_is = ap (λ (n : ℕ). line.Opened n) (number ∙ ap (λ t. t.keys.table.opening) s.opens);
        none_drawn = refl;
        left = ap world_of rest ∙ ap (λ t. record (world_of w) { keys = t }) (s.opens ∙ ap (λ (all : AllQueues). service_after_opening all s.table) sizes);
      };
      rest = λ k. ap words (omega arith);
      disk = inl (record {
        commands = found.logged;
        logged_is = refl;
        log = record { stands = found.stands; moments = keys-left-by-restart old new w of_file fit o.any_moment; run = o.run };
        names = ap (λ (v : RunningWorld). v.names) rest;
      });
      lists = lists;
    }

-- the opening failed
pub keys-fail : (old new : DiskState) (w w' : RunningWorld) (words : ℕ → ℕ) (fault : StartFault) → Moment old → Moment new → w' ≡ w → w.keys.store.log.file ≡ 0 → w.names.store.log.log.file ≡ 1 → ServicesFit (world_of w) → Held old w
    → OpensKeys old new (λ other. fault ≡ other) → FailsToRestart old new w words event.RestartKms 0 fault w' words
keys-fail old new w w' words fault m n same keys_file names_file fit held o = record {
  restart = refl;
  same = same;
  same_words = refl;
  never_damaged = λ tells at is. not_damaged (old.reads 0) (held tells).0.keys w.keys.store.pending w.keys.store.table.keys at (sound tells) (o.why.damaged at is tells);
  spent = λ is tells.
      let k = o.why.spent is tells in
      let f = finds (old.reads 0) (held tells).0.keys w.keys.store.pending w.keys.store.table.keys k.commands k.table (sound tells) k.log in
      (f.kept, ap (λ (t : Table). t.opening) (sym f.made_is) ∙ k.last);
  cause = o.why.cause;
  survives = survives;
  survives_then = λ tells done s c image. left-then old new w AKeyOpening NothingMore m n o.run.later done (survives tells done s) (now done s) c image;
  run = both-of 0 old new o.run;
}
  where
    sound : (tells : Tells old) → IsSoundLog (old.reads 0) (held tells).0.keys w.keys.store.pending w.keys.store.table.keys
    sound tells = sound_store old w.keys.store (held tells).0.keys keys_file (may-be-kept w fit) (held tells).1.keys

    left : Tells old → LeavesLogs old new w AKeyOpening NothingMore
    left tells = on-keys-leaves old new w AKeyOpening NothingMore names_file (keys-left-by-restart old new w keys_file fit o.any_moment tells)

    files : (h : Hidden) → LinkedWorld (world_of w) h → LinkedFiles (world_of w) (past_of h)
    files = world-files (world_of w)

    survives : SurvivesThrough old new w (LeftByRestart (world_of w) event.RestartKms)
    survives = survives-through old new w (λ h. h) AKeyOpening NothingMore fit files (λ h l. own-of-nothing (world_of w) h) left

    now : (done : Acknowledged) → HoldsLogs old w done → (c : Image) → IsImage old c → Survives (world_of w) done AKeyOpening NothingMore c × SoundFrom (LinkedWorld (world_of w)) (λ h. h) c
    now done s c image = left-sound old w (λ h. h) AKeyOpening NothingMore fit files (λ h l. own-of-nothing (world_of w) h) done s c (left-now old w AKeyOpening NothingMore done keys_file names_file fit s c image)

-- the namesystem

names-left-by-restart : (old new : DiskState) (w : RunningWorld) → w.names.store.log.log.file ≡ 1 → (Tells old → LeavesOnly 1 old new (λ c. old.leaves 1 c ⊎ IsLeftByNameStart (old.reads 1) c))
    → Tells old → (ops : List EditOp) (s : IsNamesystemOf old w.names ops) → LeavesOnly 1 old new (IsLeftOfNames (made_with w.names.store s.used) w.names.store.log.pending AnOpening ops)
names-left-by-restart old new w of_file moments tells ops s =
    let sound = sound_names old w.names.store s.used ops of_file s.store in
    weaker (λ c left. ⊎_elim (λ before. own-weaker NothingMore AnOpening w.names s.used ops c (λ k op none. absurd none) (names_left_by_store old w.names.store s.used ops of_file s.store c before))
    (λ found. names_left_by_start (old.reads 1) ops w.names.store.log.pending (made_with w.names.store s.used) sound c found) left) (moments tells)

record NamesReopened (old new : DiskState) (w w' : RunningWorld) (table : NameTable) : Type 0 where
  logged : List EditOp
  found : Tells old → RecoversNames (world_of w).names table logged
  stands : Tells old → (ops : List EditOp) → IsNamesystemOf old w.names ops → IsNamesystemOf new w'.names (ops ++ logged)

names-reopened : (old new : DiskState) (w w' : RunningWorld) → w.names.store.log.log.file ≡ 1 → Held old w → (s : NamesStart w.names.batch old new w'.names) → NamesReopened old new w w' s.found
names-reopened old new w w' of_file held s = go old.tells refl
  where
    go : (b : Bool) → old.tells ≡ b → NamesReopened old new w w' s.found
    go false silent = record {
      logged = [];
      found = λ tells. absurd (cc (tells, silent));
      stands = λ tells. absurd (cc (tells, silent));
    }
    go true tells =
        let log = s.log tells in
        let before = held tells in
        let n = before.1.names in
        let f = finds_names (old.reads 1) before.0.names w.names.store.log.pending (made_with w.names.store n.used) log.0 _ (sound_names old w.names.store n.used before.0.names of_file n.store) log.2 in
        let logged : List EditOp = settled_ops f.kept w.names.store.log.pending ++ next_opening_of_names s.found ∷ [] in
        let all : log.0 ++ next_opening_of_names s.found ∷ [] ≡ before.0.names ++ logged =
        ap (λ (l : List EditOp). l ++ next_opening_of_names s.found ∷ []) f.ops_are ∙ append_assoc before.0.names (settled_ops f.kept w.names.store.log.pending) (next_opening_of_names s.found ∷ []) in
        record {
          logged = logged;
          found = λ again. record { kept = f.kept; table_is = ap (λ (m : Replayed). m.table) f.made_is; ops_are = refl };
          stands = λ again ops other.
              let one : ops ≡ before.0.names = (names_stand_once old w.names.store n.used other.used before.0.names ops of_file n.store other.store).0 in
              subst (IsNamesystemOf new w'.names) (all ∙ ap (λ (l : List EditOp). l ++ logged) (sym one)) log.3;
        }

-- the new rows replace the old ones
pub names-restarted : (old new : DiskState) (w w' : RunningWorld) (opening : ℕ) → w'.keys ≡ w.keys → w.names.store.log.log.file ≡ 1 → Held old w → NamesStart w.names.batch old new w'.names
    → {fails : StartFault → Type 0} → OpensNames old new fails → opening ≡ w'.names.store.table.opening → w' ≡ record w { names = w'.names }
    → (lines : List PropLine) (words : ℕ → ℕ) (now : ℕ) → Happens lines old new w words now event.RestartName (line.Opened opening) w' words
names-restarted old new w w' opening keys of_file held s o number rest lines words now =
    let found = names-reopened old new w w' of_file held s in
    record {
      drawn = 0;
      logged = of_names found.logged;
      acts = record {
        table = s.found;
        ops = found.logged;
        found = found.found;
        logged_is = refl;
        reply_is = ap (λ (n : ℕ). line.Opened n) (number ∙ ap (λ t. t.names.table.opening) s.opens);
        none_drawn = refl;
        left = ap world_of rest ∙ ap (λ t. record (world_of w) { names = t }) s.opens;
      };
      rest = λ k. ap words (omega arith);
      disk = inr (record {
        ops = found.logged;
        logged_is = refl;
        log = record { stands = found.stands; moments = names-left-by-restart old new w of_file o.any_moment; run = o.run };
        keys = keys;
      });
      lists = ap (λ (k : RunningKms). k.acls) keys;
    }

-- the opening failed
pub names-fail : (old new : DiskState) (w w' : RunningWorld) (words : ℕ → ℕ) (fault : StartFault) → Moment old → Moment new → w' ≡ w → w.keys.store.log.file ≡ 0 → w.names.store.log.log.file ≡ 1 → ServicesFit (world_of w) → Held old w
    → OpensNames old new (λ other. fault ≡ other) → FailsToRestart old new w words event.RestartName 1 fault w' words
names-fail old new w w' words fault m n same keys_file names_file fit held o = record {
  restart = refl;
  same = same;
  same_words = refl;
  never_damaged = λ tells at is. names_not_damaged (old.reads 1) (held tells).0.names w.names.store.log.pending (made_with w.names.store (held tells).1.names.used) at (sound tells) (o.why.damaged at is tells);
  spent = λ is tells.
      let k = o.why.spent is tells in
      let f = finds_names (old.reads 1) (held tells).0.names w.names.store.log.pending (made_with w.names.store (held tells).1.names.used) k.ops k.made (sound tells) k.log in
      (f.kept, ap (λ (m : Replayed). m.table.opening) (sym f.made_is) ∙ k.last);
  cause = o.why.cause;
  survives = survives;
  survives_then = λ tells done s c image. left-then old new w NoCommand AnOpening m n o.run.later done (survives tells done s) (now done s) c image;
  run = both-of 1 old new o.run;
}
  where
    sound : (tells : Tells old) → IsSoundNames (old.reads 1) (held tells).0.names w.names.store.log.pending (made_with w.names.store (held tells).1.names.used)
    sound tells = sound_names old w.names.store (held tells).1.names.used (held tells).0.names names_file (held tells).1.names.store

    left : Tells old → LeavesLogs old new w NoCommand AnOpening
    left tells = on-names-leaves old new w NoCommand AnOpening keys_file fit (names-left-by-restart old new w names_file o.any_moment tells)

    files : (h : Hidden) → LinkedWorld (world_of w) h → LinkedFiles (world_of w) (past_of h)
    files = world-files (world_of w)

    survives : SurvivesThrough old new w (LeftByRestart (world_of w) event.RestartName)
    survives = survives-through old new w (λ h. h) NoCommand AnOpening fit files (λ h l. own-of-opening (world_of w) h fit l) left

    now : (done : Acknowledged) → HoldsLogs old w done → (c : Image) → IsImage old c → Survives (world_of w) done NoCommand AnOpening c × SoundFrom (LinkedWorld (world_of w)) (λ h. h) c
    now done s c image = left-sound old w (λ h. h) NoCommand AnOpening fit files (λ h l. own-of-opening (world_of w) h fit l) done s c (left-now old w NoCommand AnOpening done keys_file names_file fit s c image)
