use Rattle.std.proofs.Common.{◌∙◌}
use Rattle.zone_table.proofs.StatusLists.{put-placed, put-unplaced}
use Rattle.zone_table.proofs.statuses.put.Goals as goal

pub returns-in-Some-clause-ok : goal.returns-in-Some-clause-ok
returns-in-Some-clause-ok c = put-placed c.args.status c.args.rows.now.items c.in-Some.at c.in-Some.ensures

pub returns-in_ok-push-in-None-clause-ok : goal.returns-in_ok-push-in-None-clause-ok
returns-in_ok-push-in-None-clause-ok c = c.in_ok-push-in-None.ensures.items ∙ put-unplaced c.args.status c.args.rows.now.items c.in-None.ensures
