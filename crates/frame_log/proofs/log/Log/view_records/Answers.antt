use Rattle.std.proofs.Common.{ℕ, IsTrue, sym, ◌∙◌, ap, subst}
use Rattle.hk_base.specs.Disk.{DiskState, Tells, CallOn}
use Rattle.frame_log.specs.Format.{log_of}
use Rattle.frame_log.proofs.log.Log.view_records.Goals as goal

still : {file : ℕ} {old new : DiskState} → CallOn file old new → Tells old → Tells new
still call tells = subst (λ b. IsTrue b) (sym call.tells) tells

pub returns-clause-log : goal.returns-clause-log
returns-clause-log g c tells =
    let tells1 = still c.sync.ensures.call tells in
    let tells2 = still c.len.ensures.call tells1 in
    let found = c.in_ok-records.ensures.log tells2 in (
      found.0,
      found.1,
      ap (log_of c.args.file) (sym (c.len.ensures.same.reads tells1 ∙ c.sync.ensures.same.reads tells)) ∙ found.2,
      found.3,
    )
