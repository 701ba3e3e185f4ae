use Rattle.std.proofs.Common.{refl}
use Rattle.server_run.proofs.FailureLemmas.{keys_start_failed, keys_take_failed}
use Rattle.server_run.proofs.opening.open_keys.Goals as goal

pub returns-in_default-clause-failed : goal.returns-in_default-clause-failed
returns-in_default-clause-failed g c = keys_take_failed _ _ c.requires.lies c.in_default.ensures.kept c.in_default.ensures.cause.later c.in_default.ensures.cause.failed

pub returns-in-Err-clause-failed : goal.returns-in-Err-clause-failed
returns-in-Err-clause-failed g c =
    let laws = g.met.Y.Own.Disk g.world.𝓛 g.world.𝓜 g.world.𝓡 ((λ s x. x), (λ x. x), (λ x. x), λ x. x) in
    keys_start_failed _ _ _ _ _ _ _
    (record { counts = laws.counts_now c.in-Ok.disk; only = laws.only_now c.in-Ok.disk; is_one = laws.is_one c.in-Ok.disk })
    (record { counts = laws.counts_now c.start.new.disk; only = laws.only_now c.start.new.disk; is_one = laws.is_one c.start.new.disk })
    c.in-Ok.ensures.taken c.in-Err.ensures.opens refl c.give.ensures.given
