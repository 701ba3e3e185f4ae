use Rattle.std.proofs.Common.{rules, IsErrOf, ap}
use Rattle.eek_queues.specs.Queues.{AllQueues}
use Rattle.frame_log.proofs.Openings.{opens_err, opens_ok}
use Rattle.kms_core.proofs.ServiceLemmas.{started_keys}
use Rattle.kms_core.proofs.service.Service.start.Goals as goal

pub returns-clause-started : goal.returns-clause-started
returns-clause-started g c =
    started_keys (g.D.Disk.state c.args.disk.now) (g.D.Disk.state c.start.new.disk) c.in_ok-store.store c.new.result (ap (λ (all : AllQueues). all.queues) c.new.ensures) c.in_ok-store.ensures.opened.0 c.in_ok-store.ensures.opened.1 c.in_ok-store.ensures.log

pub returns-in_err-store-clause-opens : goal.returns-in_err-store-clause-opens
returns-in_err-store-clause-opens g c =
    let now : IsErrOf c.from_residual.result c.in_err-store.field-0.0 = search rules in
    opens_err c.in_err-store.field-0.0 c.start.result c.from_residual.result c.in_err-store.was now c.start.ensures.opens

pub returns-clause-opens : goal.returns-clause-opens
returns-clause-opens g c = opens_ok _ _ c.in_ok-store.ensures.opens
