use Rattle.door_kinds.proofs.YardLemmas.{only_faults}
use Rattle.door_kinds.proofs.mem_yard.MemYardYard.take.Goals as goal

pub returns-in-Err-clause-kept : goal.returns-in-Err-clause-kept
returns-in-Err-clause-kept c =
    let old = c.args.self.now in
    let new = c.try_take.new.self in
    only_faults old.first old.second new.first new.second old.faults new.faults c.saturating_add-self.result c.in-Err.ensures.kept
