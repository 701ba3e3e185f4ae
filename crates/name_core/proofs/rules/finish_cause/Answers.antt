use Rattle.std.proofs.Common.{◌∙◌, sym, ap}
use Rattle.name_core.specs.Calls.{first_cause}
use Rattle.name_core.specs.Asks.{finish_causes}
use Rattle.name_core.proofs.rules.finish_cause.Goals as goal

pub returns-in-Zone : goal.returns-in-Zone
returns-in-Zone c =
    c.zone_refusal.ensures c.args.statuses.now.rows c.args.edek.now c.in-Zone.key
    ∙ ap (λ a. first_cause (finish_causes c.args.tree.now.rows c.args.statuses.now.rows c.args.ask.now c.args.edek.now a)) (sym c.in-Zone.is)

pub returns-in-Create : goal.returns-in-Create
returns-in-Create c =
    c.file_refusal.ensures c.args.statuses.now.rows ∙ ap (λ a. first_cause (finish_causes c.args.tree.now.rows c.args.statuses.now.rows c.args.ask.now c.args.edek.now a)) (sym c.in-Create.is)
