use Rattle.std.proofs.Common.{rules, ◌≡◌, List, ℕ, None, IsTrue, sym, ◌∙◌, ap, subst}
use Rattle.std.specs.Prelude.{IsErrOf}
use Rattle.hk_base.specs.Disk.{DiskState, Tells, Reads, RunOn, LeavesOnly}
use Rattle.hk_base.proofs.Runs.{Going, weaker}
use Rattle.frame_log.specs.Format.{log_of, Found, placed, IsRecovered, Log_as_found}
use Rattle.frame_log.specs.Stands.{Stands}
use Rattle.frame_log.specs.declared.fault.StartFault.TheVariants as start
use Rattle.frame_log.specs.declared.log.Log.{Log}
use Rattle.frame_log.proofs.Goings.{going}
use Rattle.frame_log.proofs.Layers.{still_stands, left_as_found}
use Rattle.frame_log.proofs.Openings.{as_found, log_err, log_ok, opens_for, opens_then, rose_since, why_for, why_log}
use Rattle.frame_log.proofs.log.Log.recover.Goals as goal

still : {file : ℕ} {old new : DiskState} → RunOn file old new → Tells old → Tells new
still run tells = subst (λ b. IsTrue b) (sym run.tells) tells

-- a run on the reader's file is one on the file of the log
on_file : (file other : ℕ) (old new : DiskState) → other ≡ file → RunOn other old new → LeavesOnly other old new (old.leaves other) → Going file old new (old.leaves file)
on_file file other old new is run moments = subst (λ (k : ℕ). Going k old new (old.leaves k)) is (going run moments)

-- an opening, and then a run that only reads
only_read : (file : ℕ) (old mid new : DiskState) (log : Log) (payloads : List (List ℕ)) (gate : ℕ) → log_of file (old.reads file) ≡ Found payloads gate → Stands mid log payloads None → log.file ≡ file → Going file mid new (mid.leaves file)
    → LeavesOnly file mid new (IsRecovered file (old.reads file))
only_read file old mid new log payloads gate found stands is on = weaker (λ b h. Log_as_found (left_as_found mid log payloads file gate (old.reads file) stands is found b h)) on.moments

pub returns-clause-log : goal.returns-clause-log
returns-clause-log g c tells =
    let file = c.args.file in
    let D1 = g.D.Disk.state c.recover_records.new.disk in
    let D2 = g.D.Disk.state c.read_frames.new.disk in
    let tells1 = still c.recover_records.ensures.opens.run tells in
    let found = c.in_ok-log.ensures.log tells in
    let reader = c.in_ok-log.ensures.reader in
    let same : Reads file D1 D2 = subst (λ (k : ℕ). Reads k D1 D2) reader.0 c.read_frames.ensures.same in (
      found.0,
      found.1,
      found.2,
      c.in_ok-frames.ensures.frames tells1 found.0 found.3 ∙ ap (λ (k : ℕ). placed k found.0) reader.1,
      still_stands file D1 D2 c.in_ok-log.log found.0 None same c.in_ok-log.ensures.settled.0 tells1 found.4,
    )

pub returns-in_err-log-clause-opens : goal.returns-in_err-log-clause-opens
returns-in_err-log-clause-opens g c =
    let first = c.recover_records.result in
    let now : IsErrOf c.from_residual.result c.in_err-log.field-0.0 = search rules in
    opens_for (log_err c.in_err-log.field-0.0 first c.from_residual.result c.in_err-log.was now) (log_err c.in_err-log.field-0.0 c.from_residual.result first now c.in_err-log.was start.StoreFault) c.recover_records.ensures.opens

pub returns-in_err-frames-clause-opens : goal.returns-in_err-frames-clause-opens
returns-in_err-frames-clause-opens g c =
    let D0 = g.D.Disk.state c.args.disk.now in
    let D1 = g.D.Disk.state c.recover_records.new.disk in
    let D2 = g.D.Disk.state c.read_frames.new.disk in
    let now : IsErrOf c.from_residual-in_err-frames.result c.in_err-frames.field-0.0 = search rules in
    let on = on_file c.args.file c.in_ok-log.records.file D1 D2 c.in_ok-log.ensures.reader.0 c.read_frames.ensures.run c.read_frames.ensures.moments in
    let o = c.in_ok-log.ensures.opens in
    opens_then D0 D1 D2 (log_ok _ start.StoreFault) o on.run
    (λ tells. let found = c.in_ok-log.ensures.log tells in only_read c.args.file D0 D1 D2 c.in_ok-log.log found.0 found.1 found.2 found.4 c.in_ok-log.ensures.settled.0 on)
    (why_for (log_err c.in_err-frames.field-0.0 c.read_frames.result c.from_residual-in_err-frames.result c.in_err-frames.was now)
    (why_log D0 D2 c.read_frames.result (λ at is tells. absurd (c.read_frames.ensures.damaged at is (still o.run tells))) (λ is. rose_since o.run.faults (c.read_frames.ensures.cause is))))

pub returns-clause-opens : goal.returns-clause-opens
returns-clause-opens g c =
    let D0 = g.D.Disk.state c.args.disk.now in
    let D1 = g.D.Disk.state c.recover_records.new.disk in
    let D2 = g.D.Disk.state c.read_frames.new.disk in
    let on = on_file c.args.file c.in_ok-log.records.file D1 D2 c.in_ok-log.ensures.reader.0 c.read_frames.ensures.run c.read_frames.ensures.moments in
    opens_then D0 D1 D2 (log_ok _ start.StoreFault) c.in_ok-log.ensures.opens on.run
    (λ tells. let found = c.in_ok-log.ensures.log tells in only_read c.args.file D0 D1 D2 c.in_ok-log.log found.0 found.1 found.2 found.4 c.in_ok-log.ensures.settled.0 on)
    (why_log D0 D2 _ (λ at is. absurd (cc is)) (λ is. absurd (cc is)))

pub returns-in_err-frames-clause-any_moment : goal.returns-in_err-frames-clause-any_moment
returns-in_err-frames-clause-any_moment g c tells = as_found c.args.file _ _ (g.met.D.Disk.is_one c.args.disk.now c.args.file tells c.requires) ((returns-in_err-frames-clause-opens g c).any_moment tells)

pub returns-clause-any_moment : goal.returns-clause-any_moment
returns-clause-any_moment g c tells = as_found c.args.file _ _ (g.met.D.Disk.is_one c.args.disk.now c.args.file tells c.requires) ((returns-clause-opens g c).any_moment tells)
