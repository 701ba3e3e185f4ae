use Rattle.name_store.specs.Causes.{id_at}
use Rattle.name_store.proofs.names.NameTables.reserve.Goals as goal

pub returns-in-Zone-clause-ok : goal.returns-in-Zone-clause-ok
returns-in-Zone-clause-ok c = rw c.in-Zone.is (c.reserve_add.ensures.ok (id_at c.self-in-Zone.inside.tree.rows c.in-Zone.path) c.in-Zone.key)
