use Rattle.std.proofs.Common.{arith}
use Rattle.key_rows.proofs.RecordLemmas.{was_read, was_none}
use Rattle.key_rows.proofs.rows.KeyCommand.read.Goals as goal

pub returns-clause-read : goal.returns-clause-read
returns-clause-read c = was_read c.args.bytes.now c.command_of.result (λ i. omega (arith, c.type_inv.bytes i)) c.command_of.ensures

pub returns-clause-none : goal.returns-clause-none
returns-clause-none c = was_none c.args.bytes.now c.command_of.result c.command_of.ensures
