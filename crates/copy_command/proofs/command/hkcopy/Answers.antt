use Rattle.std.proofs.Common.{⊎_elim}
use Rattle.copy_command_line.specs.declared.order.CopyOrder.TheVariants.{Copy, Read}
use Rattle.copy_command.proofs.OrderLemmas.{helps_so, lacks_so, named_so, obeyed, versions_so}
use Rattle.copy_command.proofs.ReasonLemmas.{copy_so, read_so}
use Rattle.copy_command.proofs.command.hkcopy.Goals as goal

pub returns-clause-help : goal.returns-clause-help
returns-clause-help g c =
    ⊎_elim (λ help. helps_so _ _ _ _ _ c.obey.result c.read_order-order.result (c.read_order-order.ensures.help help) c.obey.ensures.obeys)
    (λ version. versions_so _ _ _ _ _ c.obey.result c.read_order-order.result (c.read_order-order.ensures.version version) c.obey.ensures.obeys)

pub returns-clause-copy : goal.returns-clause-copy
returns-clause-copy g c source target names =
    obeyed _ _ _ _ _ c.obey.result c.read_order-order.result (Copy source target) (named_so c.read_order-order.result c.args.words.now c.read_order-order.ensures.ok c.read_order-order.ensures.usage (Copy source target) names) c.obey.ensures.obeys

pub returns-clause-copy_kept : goal.returns-clause-copy_kept
returns-clause-copy_kept g c source target names tells past sound =
    obeyed _ _ _ _ _ c.obey.result c.read_order-order.result (Copy source target) (named_so c.read_order-order.result c.args.words.now c.read_order-order.ensures.ok c.read_order-order.ensures.usage (Copy source target) names)
    (c.obey.ensures.kept tells past sound)

pub returns-clause-read : goal.returns-clause-read
returns-clause-read g c user path from count names =
    obeyed _ _ _ _ _ c.obey.result c.read_order-order.result (Read user path from count) (named_so c.read_order-order.result c.args.words.now c.read_order-order.ensures.ok c.read_order-order.ensures.usage (Read user path from count) names)
    c.obey.ensures.obeys

pub returns-clause-read_kept : goal.returns-clause-read_kept
returns-clause-read_kept g c user path from count names tells past sound =
    obeyed _ _ _ _ _ c.obey.result c.read_order-order.result (Read user path from count) (named_so c.read_order-order.result c.args.words.now c.read_order-order.ensures.ok c.read_order-order.ensures.usage (Read user path from count) names)
    (c.obey.ensures.kept tells past sound)

pub returns-clause-reason : goal.returns-clause-reason
returns-clause-reason g c source target names =
    copy_so _ _ c.read_order-order.result source target
    (named_so c.read_order-order.result c.args.words.now c.read_order-order.ensures.ok c.read_order-order.ensures.usage (Copy source target) names)
    c.obey.ensures.reason (λ none. lacks_so _ _ _ _ _ c.obey.result c.read_order-order.result none c.obey.ensures.obeys)

pub returns-clause-read_reason : goal.returns-clause-read_reason
returns-clause-read_reason g c user path from count names =
    read_so _ _ c.read_order-order.result user path from count
    (named_so c.read_order-order.result c.args.words.now c.read_order-order.ensures.ok c.read_order-order.ensures.usage (Read user path from count) names)
    c.obey.ensures.read_reason (λ none. lacks_so _ _ _ _ _ c.obey.result c.read_order-order.result none c.obey.ensures.obeys)
