use Rattle.std.proofs.Common.{rules, refl}
use Rattle.frame_log.specs.declared.fault.StartFault.TheVariants as start
use Rattle.copy_ends.proofs.LineLemmas.{start_shown}
use Rattle.copy_ends.proofs.ends.close_start.Goals as goal

pub returns-in-Ok-clause-closes : goal.returns-in-Ok-clause-closes
returns-in-Ok-clause-closes g c = start_shown c.args.fault (start.Damaged c.in-Damaged.at) c.in-Damaged.is _ _ _ _ (search rules) c.show.ensures.shows

pub returns-in-StoreFault-clause-closes : goal.returns-in-StoreFault-clause-closes
returns-in-StoreFault-clause-closes g c = start_shown c.args.fault start.StoreFault c.in-StoreFault.is _ _ _ _ refl c.show-in-StoreFault.ensures.shows

pub returns-in-Spent-clause-closes : goal.returns-in-Spent-clause-closes
returns-in-Spent-clause-closes g c = start_shown c.args.fault start.Spent c.in-Spent.is _ _ _ _ refl c.show-in-Spent.ensures.shows
