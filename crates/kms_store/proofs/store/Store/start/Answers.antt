use Rattle.std.proofs.Common.{rules, ◌<◌, ◌^◌, arith, Bool, IsTrue, ℕ, sym, ◌∙◌, subst}
use Rattle.std.specs.Prelude.{IsErrOf}
use Rattle.hk_base.specs.Disk.{LeavesOnly, Reads, RunOn, Tells}
use Rattle.hk_base.proofs.Runs.{Going, compose, weaker}
use Rattle.frame_log.specs.Faults.{start_fault}
use Rattle.frame_log.specs.declared.fault.StartFault.TheVariants as start
use Rattle.frame_log.proofs.Openings.{log_ok, opens_fault, opens_then, rose_since, run_then, same_fault}
use Rattle.kms_store.specs.Store.{IsLeftByStart, Not_of_its_kind, Opening}
use Rattle.kms_store.proofs.Starts.{Recovers, damage_found, if_ok, keys_found, opens_log, reading_left}
use Rattle.kms_store.proofs.store.Store.start.Goals as goal

pub returns-in_err-log-clause-opens : goal.returns-in_err-log-clause-opens
returns-in_err-log-clause-opens g c =
    let now : IsErrOf c.from_residual.result (start_fault c.in_err-log.field-0.0) = search rules in
    opens_log _ _ (opens_fault c.in_err-log.field-0.0 c.recover_records.result c.from_residual.result c.in_err-log.was now c.recover_records.ensures.opens)

pub replay-requires : goal.replay-requires
replay-requires g c = record {
  ahead = λ tells1.
      let tells = subst (λ (b : Bool). IsTrue b) c.recover_records.ensures.opens.run.tells tells1 in
      let found = c.in_ok-log.ensures.log tells in
      (found.0, found.3);
}

pub returns-in_err-keys-clause-opens : goal.returns-in_err-keys-clause-opens
returns-in_err-keys-clause-opens g c =
    let old = g.D.Disk.state c.args.disk.now in
    let mid = g.D.Disk.state c.recover_records.new.disk in
    let now = g.D.Disk.state c.replay.new.disk in
    let bytes = old.reads 0 in
    let log = c.in_ok-log.log in
    let records = c.in_ok-log.records in
    let reader = c.in_ok-log.ensures.reader in
    let run : RunOn 0 mid now = subst (λ (k : ℕ). RunOn k mid now) reader.0 c.replay.ensures.run in
    let same : Reads 0 mid now = subst (λ (k : ℕ). Reads k mid now) reader.0 c.replay.ensures.same in
    let reading : LeavesOnly 0 mid now (mid.leaves 0) = subst (λ (k : ℕ). LeavesOnly k mid now (mid.leaves k)) reader.0 c.replay.ensures.moments in
    let found : Tells old → Recovers bytes mid log records = λ tells. c.in_ok-log.ensures.log tells in
    let first : Tells old → Tells mid = λ tells. subst (λ (b : Bool). IsTrue b) (sym c.recover_records.ensures.opens.run.tells) tells in
    let why = c.in_err-keys.field-0.0 in
    let is_now : IsErrOf c.from_residual-in_err-keys.result why = search rules in
    let was : IsErrOf c.replay.result why = search rules in
    let before = same_fault why c.replay.result c.from_residual-in_err-keys.result was is_now in
    let o = c.in_ok-log.ensures.opens in
    opens_then old mid now (log_ok _ start.StoreFault) (opens_log old mid o) run (λ tells. weaker (reading_left bytes mid log records c.in_ok-log.ensures.settled.0 (found tells)) reading)
    (record {
      damaged = λ at is tells. Not_of_its_kind (damage_found bytes mid log records at reader.1 (found tells) (c.replay.ensures.damaged at (before (start.Damaged at) is) (first tells) (found tells).0 (found tells).3));
      spent = λ is. absurd (c.replay.ensures.spent (before start.Spent is));
      cause = λ is. rose_since o.run.faults (c.replay.ensures.cause (before start.StoreFault is));
    })

pub open-requires-clause-stands : goal.open-requires-clause-stands
open-requires-clause-stands g c tells2 =
    let old = g.D.Disk.state c.args.disk.now in
    let mid = g.D.Disk.state c.recover_records.new.disk in
    let now = g.D.Disk.state c.replay.new.disk in
    let bytes = old.reads 0 in
    let log = c.in_ok-log.log in
    let records = c.in_ok-log.records in
    let reader = c.in_ok-log.ensures.reader in
    let run : RunOn 0 mid now = subst (λ (k : ℕ). RunOn k mid now) reader.0 c.replay.ensures.run in
    let same : Reads 0 mid now = subst (λ (k : ℕ). Reads k mid now) reader.0 c.replay.ensures.same in
    let reading : LeavesOnly 0 mid now (mid.leaves 0) = subst (λ (k : ℕ). LeavesOnly k mid now (mid.leaves k)) reader.0 c.replay.ensures.moments in
    let found : Tells old → Recovers bytes mid log records = λ tells. c.in_ok-log.ensures.log tells in
    let first : Tells old → Tells mid = λ tells. subst (λ (b : Bool). IsTrue b) (sym c.recover_records.ensures.opens.run.tells) tells in
    let keys = c.in_ok-keys.keys in
    let fits : log.end < 2 ^ 64 = omega (arith, log.end_in) in
    let k = λ (tells : Tells old). keys_found bytes mid now log records keys c.in_ok-keys.ensures.read c.in_ok-log.ensures.settled.0 fits reader.1 same (first tells) (found tells) in
    let tells = subst (λ (b : Bool). IsTrue b) (run.tells ∙ c.recover_records.ensures.opens.run.tells) tells2 in
    ((k tells).commands, (k tells).store)

pub returns-clause-log : goal.returns-clause-log
returns-clause-log g c =
    let old = g.D.Disk.state c.args.disk.now in
    let mid = g.D.Disk.state c.recover_records.new.disk in
    let now = g.D.Disk.state c.replay.new.disk in
    let bytes = old.reads 0 in
    let log = c.in_ok-log.log in
    let records = c.in_ok-log.records in
    let reader = c.in_ok-log.ensures.reader in
    let run : RunOn 0 mid now = subst (λ (k : ℕ). RunOn k mid now) reader.0 c.replay.ensures.run in
    let same : Reads 0 mid now = subst (λ (k : ℕ). Reads k mid now) reader.0 c.replay.ensures.same in
    let reading : LeavesOnly 0 mid now (mid.leaves 0) = subst (λ (k : ℕ). LeavesOnly k mid now (mid.leaves k)) reader.0 c.replay.ensures.moments in
    let found : Tells old → Recovers bytes mid log records = λ tells. c.in_ok-log.ensures.log tells in
    let first : Tells old → Tells mid = λ tells. subst (λ (b : Bool). IsTrue b) (sym c.recover_records.ensures.opens.run.tells) tells in
    let keys = c.in_ok-keys.keys in
    let fits : log.end < 2 ^ 64 = omega (arith, log.end_in) in
    let k = λ (tells : Tells old). keys_found bytes mid now log records keys c.in_ok-keys.ensures.read c.in_ok-log.ensures.settled.0 fits reader.1 same (first tells) (found tells) in
    if_ok c.open.result
    (λ store held tells.
    let tells2 : Tells now = subst (λ (b : Bool). IsTrue b) (sym run.tells) (first tells) in
    ((k tells).commands, keys.table, (k tells).is_log, held tells2 (k tells).commands (k tells).store))
    c.open.ensures.log

pub returns-clause-opens : goal.returns-clause-opens
returns-clause-opens g c =
    let old = g.D.Disk.state c.args.disk.now in
    let mid = g.D.Disk.state c.recover_records.new.disk in
    let now = g.D.Disk.state c.replay.new.disk in
    let bytes = old.reads 0 in
    let log = c.in_ok-log.log in
    let records = c.in_ok-log.records in
    let reader = c.in_ok-log.ensures.reader in
    let run : RunOn 0 mid now = subst (λ (k : ℕ). RunOn k mid now) reader.0 c.replay.ensures.run in
    let same : Reads 0 mid now = subst (λ (k : ℕ). Reads k mid now) reader.0 c.replay.ensures.same in
    let reading : LeavesOnly 0 mid now (mid.leaves 0) = subst (λ (k : ℕ). LeavesOnly k mid now (mid.leaves k)) reader.0 c.replay.ensures.moments in
    let found : Tells old → Recovers bytes mid log records = λ tells. c.in_ok-log.ensures.log tells in
    let first : Tells old → Tells mid = λ tells. subst (λ (b : Bool). IsTrue b) (sym c.recover_records.ensures.opens.run.tells) tells in
    let keys = c.in_ok-keys.keys in
    let fits : log.end < 2 ^ 64 = omega (arith, log.end_in) in
    let k = λ (tells : Tells old). keys_found bytes mid now log records keys c.in_ok-keys.ensures.read c.in_ok-log.ensures.settled.0 fits reader.1 same (first tells) (found tells) in
    let last = g.D.Disk.state c.open.new.disk in
    let o = c.in_ok-log.ensures.opens in
    opens_then old mid last (log_ok _ start.StoreFault) (opens_log old mid o) (run_then run c.open.ensures.run)
    (λ tells.
    let tells2 : Tells now = subst (λ (b : Bool). IsTrue b) (sym run.tells) (first tells) in
    let one : Going 0 mid now (IsLeftByStart bytes) = record { run = run; moments = weaker (reading_left bytes mid log records c.in_ok-log.ensures.settled.0 (found tells)) reading } in
    let two : Going 0 now last (IsLeftByStart bytes) =
    record { run = c.open.ensures.run; moments = weaker (λ c left. Opening (k tells).commands keys.table (k tells).is_log left) (c.open.ensures.moments tells2 (k tells).commands (k tells).store) } in
    (compose one two (λ c left. left)).moments)
    (record {
      damaged = λ at is. absurd (c.open.ensures.damaged at is);
      spent = λ is tells. record { commands = (k tells).commands; table = keys.table; log = (k tells).is_log; last = c.open.ensures.spent is };
      cause = λ is. rose_since (o.run.faults) (rose_since run.faults (c.open.ensures.cause is));
    })
