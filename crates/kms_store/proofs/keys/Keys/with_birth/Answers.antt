use Rattle.std.proofs.Common.{◌≡◌, None, subst}
use Rattle.std.specs.Prelude.{MatchOption}
use Rattle.key_rows.specs.Table.{find_birth}
use Rattle.kms_store.specs.Keys.{KeysState}
use Rattle.kms_store.specs.Store.{IsRowOf}
use Rattle.kms_store.proofs.RowLemmas.{birth_found}
use Rattle.kms_store.proofs.keys.Keys.with_birth.Goals as goal

pub returns : goal.returns
returns c =
    let m = c.self.invariant.0 in
    let stands = c.self.invariant.1 in
    let e = c.with_birth.ensures in
    subst (λ (k : KeysState). MatchOption c.with_birth.result (find_birth k.table.rows c.args.birth ≡ None) (λ row. IsRowOf k.table (find_birth k.table.rows c.args.birth) row.now)) c.self.view_is
    (birth_found m c.self.inside.index.index c.self.inside.whole.value.keys c.args.birth c.with_birth.result stands (c.opening.ensures.table m stands.sized) (e.found m) e.row)
