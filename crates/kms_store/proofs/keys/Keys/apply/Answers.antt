use Rattle.std.proofs.Common.{rules, ◌≡◌, true, subst, sym}
use Rattle.key_rows.specs.Table.{after, applies}
use Rattle.key_index.specs.Index.{Index, after_at, materials_after}
use Rattle.kms_store.specs.Keys.{KeysState}
use Rattle.kms_store.specs.Store.{StandsFor}
use Rattle.kms_store.proofs.Stepping.{stands_after}
use Rattle.kms_store.proofs.keys.Keys.apply.Goals as goal

pub invariant_of-self : goal.invariant_of-self
invariant_of-self c =
    let m = c.self.invariant.0 in
    let x = c.self.inside.index.index in
    let t = c.self.inside.whole.value.keys in
    let command = c.args.command in
    let may : applies t command ≡ true = subst (λ (k : KeysState). applies k.table command ≡ true) (sym c.self.view_is) c.requires in
    let table : c.of-whole.result.value.keys ≡ after t command = search rules in (
      materials_after m x command,
      subst (λ (y : Index). StandsFor (materials_after m x command) y c.of-whole.result.value.keys) (sym c.in-Ok.ensures.ok)
          (subst (StandsFor (materials_after m x command) (after_at x command c.saturating_sub-place.result)) (sym table) (stands_after m x t command c.opening.ensures.sound c.self.invariant.1 may c.saturating_sub-place.result)),
    )
