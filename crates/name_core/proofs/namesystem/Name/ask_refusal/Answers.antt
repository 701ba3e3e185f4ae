use Rattle.std.proofs.Common.{◌∙◌, sym, ap}
use Rattle.name_core.specs.State.{names_of}
use Rattle.name_core.specs.Calls.{first_cause}
use Rattle.name_core.specs.Asks.{ask_causes}
use Rattle.name_core.proofs.namesystem.Name.ask_refusal.Goals as goal

pub returns-in-Create : goal.returns-in-Create
returns-in-Create c = c.file_refusal.ensures c.args.user.now ∙ ap (λ a. first_cause (ask_causes (names_of c.args.self.now) c.args.user.now a)) (sym c.in-Create.is)

pub returns-in-Zone : goal.returns-in-Zone
returns-in-Zone c = c.zone_refusal.ensures c.in-Zone.key ∙ ap (λ a. first_cause (ask_causes (names_of c.args.self.now) c.args.user.now a)) (sym c.in-Zone.is)
