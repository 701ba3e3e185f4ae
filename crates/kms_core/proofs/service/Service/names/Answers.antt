use Rattle.std.proofs.Common.{subst}
use Rattle.key_rows.specs.Names.{AreNames}
use Rattle.kms_core.specs.State.{Running, keys_of}
use Rattle.kms_core.proofs.NameLemmas.{tells_names}
use Rattle.kms_core.proofs.service.Service.names.Goals as goal

pub returns-in-Ok : goal.returns-in-Ok
returns-in-Ok c = tells_names (keys_of c.args.self.now) c.in-Ok.names (subst (λ (r : Running). AreNames r.store.table.keys.rows c.in-Ok.names) c.self.view_is c.in-Ok.ensures)
