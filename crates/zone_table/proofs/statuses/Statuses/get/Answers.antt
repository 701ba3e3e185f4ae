use Rattle.std.proofs.Common.{◌∙◌, ap}
use Rattle.zone_table.specs.Statuses.{StatusesState, is_of, status_of}
use Rattle.zone_table.proofs.StatusLists.{found-at, found-none}
use Rattle.zone_table.proofs.statuses.Statuses.get.Goals as goal

pub returns-in-Some : goal.returns-in-Some
returns-in-Some c =
    found-at (is_of c.args.zone) c.self.inside.rows.items c.in-Some.at c.index.result.now c.in-Some.ensures c.index.ensures
    ∙ ap (λ (s : StatusesState). status_of s.rows c.args.zone) c.self.view_is

pub returns-in-None : goal.returns-in-None
returns-in-None c = found-none (is_of c.args.zone) c.self.inside.rows.items c.in-None.ensures ∙ ap (λ (s : StatusesState). status_of s.rows c.args.zone) c.self.view_is
