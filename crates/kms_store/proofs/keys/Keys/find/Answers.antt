use Rattle.std.proofs.Common.{◌≡◌, None, subst}
use Rattle.std.specs.Prelude.{MatchOption}
use Rattle.key_rows.specs.Table.{find_name}
use Rattle.kms_store.specs.Keys.{KeysState}
use Rattle.kms_store.specs.Store.{IsRowOf}
use Rattle.kms_store.proofs.RowLemmas.{name_found}
use Rattle.kms_store.proofs.keys.Keys.find.Goals as goal

pub returns : goal.returns
returns c =
    let m = c.self.invariant.0 in
    let stands = c.self.invariant.1 in
    let e = c.find.ensures in
    subst (λ (k : KeysState). MatchOption c.find.result (find_name k.table.rows c.args.name.now ≡ None) (λ row. IsRowOf k.table (find_name k.table.rows c.args.name.now) row.now)) c.self.view_is
    (name_found m c.self.inside.index.index c.self.inside.whole.value.keys c.args.name.now c.find.result stands (e.table m stands.sized) (e.found m) e.row (e.birth m))
