use Rattle.std.proofs.Common.{rules, refl}
use Rattle.std.specs.Prelude.{IsErrOf}
use Rattle.frame_log.specs.Faults.{start_fault}
use Rattle.frame_log.proofs.Openings.{opens_done, opens_fault}
use Rattle.edit_log.proofs.Readers.{opened}
use Rattle.edit_log.proofs.log.EditLog.recover_records.Goals as goal

pub returns-clause-opened : goal.returns-clause-opened
returns-clause-opened g c tells =
    let found = c.in_ok-log.ensures.log tells in
    opened ((g.D.Disk.state c.args.disk.now).reads 1) (g.D.Disk.state c.recover_records.new.disk) c.in_ok-log.log _ found.0 found.1 found.2 found.3 found.4 c.in_ok-log.ensures.settled.0 c.in_ok-log.ensures.reader.1 refl

pub returns-in_err-log-clause-opens : goal.returns-in_err-log-clause-opens
returns-in_err-log-clause-opens g c =
    let now : IsErrOf c.from_residual.result (start_fault c.in_err-log.field-0.0) = search rules in
    opens_fault c.in_err-log.field-0.0 c.recover_records.result c.from_residual.result c.in_err-log.was now c.recover_records.ensures.opens

pub returns-clause-opens : goal.returns-clause-opens
returns-clause-opens g c = opens_done _ _ c.in_ok-log.ensures.opens
