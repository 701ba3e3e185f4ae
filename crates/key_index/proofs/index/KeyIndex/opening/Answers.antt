use Rattle.key_index.proofs.Sounds.{is_table}
use Rattle.key_index.proofs.index.KeyIndex.opening.Goals as goal

pub returns-clause-table : goal.returns-clause-table
returns-clause-table c m sized = is_table m c.args.self.now.index (rw (← c.self.view_is) c.self.invariant.0) sized
