use Rattle.std.proofs.Common.{arith}
use Rattle.edit_ops.proofs.RecordLemmas.{was_read, was_none}
use Rattle.edit_ops.proofs.ops.EditOp.read.Goals as goal

pub returns-clause-read : goal.returns-clause-read
returns-clause-read c = was_read c.args.bytes.now c.op_of.result (λ i. omega (arith, c.type_inv.bytes i)) c.op_of.ensures

pub returns-clause-none : goal.returns-clause-none
returns-clause-none c = was_none c.args.bytes.now c.op_of.result c.op_of.ensures
