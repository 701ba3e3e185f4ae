use Rattle.std.proofs.Common.{rules, refl}
use Rattle.frame_log.specs.declared.fault.StartFault.TheVariants as start
use Rattle.copy_reads.proofs.FaultLemmas.{reports_shown, reports_unmade}
use Rattle.copy_reads.proofs.ends.report_copies.Goals as goal

pub returns-in-Ok-clause-reports : goal.returns-in-Ok-clause-reports
returns-in-Ok-clause-reports g c = reports_shown c.args.fault (start.Damaged c.in-Damaged.at) c.in-Damaged.is _ _ _ _ (search rules) c.show.ensures.shows

pub returns-in-Err-clause-reports : goal.returns-in-Err-clause-reports
returns-in-Err-clause-reports g c = reports_unmade c.args.fault _ _ _ c.show-in-Err.ensures.shows

pub returns-in-StoreFault-clause-reports : goal.returns-in-StoreFault-clause-reports
returns-in-StoreFault-clause-reports g c = reports_shown c.args.fault start.StoreFault c.in-StoreFault.is _ _ _ _ refl c.show-in-StoreFault.ensures.shows

pub returns-in-NoMemory-clause-reports : goal.returns-in-NoMemory-clause-reports
returns-in-NoMemory-clause-reports g c = reports_shown c.args.fault start.NoMemory c.in-NoMemory.is _ _ _ _ refl c.show-in-NoMemory.ensures.shows

pub returns-in-Spent-clause-reports : goal.returns-in-Spent-clause-reports
returns-in-Spent-clause-reports g c = reports_shown c.args.fault start.Spent c.in-Spent.is _ _ _ _ refl c.show-in-Spent.ensures.shows
