use Rattle.std.proofs.Common.{◌∙◌, set, ap}
use Rattle.zone_table.specs.declared.statuses.StatusRow.{StatusRow}
use Rattle.zone_table.specs.Statuses.{with_counts}
use Rattle.zone_table.proofs.StatusLists.{counted-placed, counted-unplaced}
use Rattle.zone_table.proofs.statuses.count.Goals as goal

pub returns-in-Some : goal.returns-in-Some
returns-in-Some c =
    ap (set c.args.rows.now.items c.in-Some.at) c.count_one.ensures
    ∙ ap (λ (s : StatusRow). set c.args.rows.now.items c.in-Some.at (with_counts c.args.changed c.args.failed c.args.mark s)) c.index_mut.ensures.value
    ∙ counted-placed c.args.session c.args.changed c.args.failed c.args.mark c.args.rows.now.items c.index_mut.result.now c.in-Some.at c.in-Some.ensures

pub returns-in-None : goal.returns-in-None
returns-in-None c = counted-unplaced c.args.session c.args.changed c.args.failed c.args.mark c.args.rows.now.items c.in-None.ensures
