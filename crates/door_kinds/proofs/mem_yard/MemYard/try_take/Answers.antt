use Rattle.std.proofs.Common.{arith}
use Rattle.door_kinds.proofs.YardLemmas.{second_taken}
use Rattle.door_kinds.proofs.mem_yard.MemYard.try_take.Goals as goal

pub returns-else-file-eq0-clause-taken : goal.returns-else-file-eq0-clause-taken
returns-else-file-eq0-clause-taken c =
    let taken = c.take_lying-else-file-eq0 in
    second_taken c.args.file c.args.self.now.faults c.args.self.now.first c.args.self.now.second taken.new.disk taken.result
    (omega (arith, c.requires.file, c.if-file-eq0.false))
    taken.ensures.gone taken.ensures.reads taken.ensures.leaves taken.ensures.faults
