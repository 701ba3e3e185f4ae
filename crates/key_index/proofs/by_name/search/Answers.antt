use Rattle.std.proofs.Common.{rules}
use Rattle.std.proofs.lemmas.Fn.{always_returns_same}
use Rattle.key_rows.specs.Names.{name_cmp}
use Rattle.key_rows.proofs.Orders.{searched}
use Rattle.key_index.proofs.by_name.search.Goals as goal

pub returns-clause-place : goal.returns-clause-place
returns-clause-place c =
    let by_name = c.binary_search_by.ensures.position (λ entry. name_cmp entry.name c.args.name.now) (always_returns_same _ _ _ (λ a r g called. search rules)) in
    rw (← c.deref.ensures.value) (searched _ c.args.name.now _ (rw c.deref.ensures.value c.requires) by_name)
