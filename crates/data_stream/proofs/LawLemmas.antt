-- What was put is read back.
use Rattle.std.proofs.Common.{◌≡◌, ℕ, List, sym, subst, ◌∙◌}
use Rattle.std.specs.Prelude.{Option, Some, None}
use Rattle.inode_tree.specs.declared.rows.Row.{Row}
use Rattle.key_rows.specs.declared.rows.KeyRow.{KeyRow}
use Rattle.world_run.specs.Kept.{IsKnownLater}
use Rattle.world_run.specs.Ledger.{Draw, Ledger, Past}
use Rattle.world_run.specs.Promise.{In}
use Rattle.world_run.proofs.Members.{in-left}
use Rattle.data_stream.specs.Bodies.{IsDrawOf}
use Rattle.data_stream.specs.Laws.{PutFilesAreReadBack, StillStands}

still : (known later : Past) (keys then : List KeyRow) (file found : Row) (draw : Option Draw) → IsDrawOf known keys file draw → IsKnownLater known later → found.id ≡ file.id → StillStands then found draw → IsDrawOf later then found draw
still known later keys then file found None of grows same stands = stands
still known later keys then file found (Some draw) of grows same stands = (
  stands.0,
  stands.1,
  subst (λ (l : Ledger). In (found.id, draw) l) (sym grows.ledger)
      (in-left (found.id, draw) known.ledger grows.entries (subst (λ (id : ℕ). In (id, draw) known.ledger) (sym same) of.2)),
  stands.2,
  stands.3,
  stands.4,
)

pub read_back : PutFilesAreReadBack
read_back known later w v path at count from wanted left left' old new vault written now draw put of grows read same body stands =
    let here = still known later w.keys.keys.table.rows v.keys.keys.table.rows put.file read.file draw of grows same stands in
    read.range draw here put.bytes (subst (λ (id : ℕ). vault.bodies id ≡ new.bodies put.file.id) (sym same) body ∙ put.stored draw of)
