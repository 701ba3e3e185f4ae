use Rattle.std.proofs.Common.{[], subst, sym}
use Rattle.key_rows.specs.Table.{KeptTable}
use Rattle.key_index.specs.Index.{Index, Materials, no_index}
use Rattle.kms_store.specs.Store.{StandsFor}
use Rattle.kms_store.proofs.Stepping.{stands_none}
use Rattle.kms_store.proofs.keys.Keys.new.Goals as goal

pub invariant_of-result : goal.invariant_of-result
invariant_of-result c =
    let m : Materials = λ birth number. [] in
    (m, subst (λ (x : Index). StandsFor m x c.of.result.value.keys) (sym c.new.ensures) (subst (λ (t : KeptTable). StandsFor m no_index t.keys) (sym c.of.ensures) (stands_none m)))
