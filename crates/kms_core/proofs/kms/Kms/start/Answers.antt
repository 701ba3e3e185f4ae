use Rattle.std.proofs.Common.{refl}
use Rattle.frame_log.proofs.Openings.{opens_err, opens_ok}
use Rattle.kms_core.proofs.kms.Kms.start.Goals as goal

pub returns-in-Err-clause-opens : goal.returns-in-Err-clause-opens
returns-in-Err-clause-opens g c = opens_err c.in-Err.fault _ _ refl refl c.in-Err.ensures.opens

pub returns-in-Ok-clause-opens : goal.returns-in-Ok-clause-opens
returns-in-Ok-clause-opens g c = opens_ok _ _ c.in-Ok.ensures.opens
