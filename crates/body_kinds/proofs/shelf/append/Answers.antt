use Rattle.std.proofs.Common.{ap, ◌∙◌, sym, ◌++◌}
use Rattle.body_kinds.proofs.ShelfLemmas.{on_err, on_ok, placed, set_grows, set_kept}
use Rattle.body_kinds.proofs.shelf.append.Goals as goal

pub returns-in-Some-clause-ok : goal.returns-in-Some-clause-ok
returns-in-Some-clause-ok c =
    let value = c.index_mut.ensures.value in
    on_ok c.grow.result
    (λ grown. set_grows c.args.id c.args.bodies.now.items c.in-Some.at c.index_mut.result.now c.grow.new.body c.args.bytes.now (sym c.in-Some.ensures)
    (c.grow.ensures.id ∙ ap (λ b. b.id) value) (grown ∙ ap (λ b. b.bytes.items ++ c.args.bytes.now) value))
    c.grow.ensures.ok

pub returns-in-Some-clause-err : goal.returns-in-Some-clause-err
returns-in-Some-clause-err c =
    let value = c.index_mut.ensures.value in
    on_err c.grow.result
    (λ kept. λ i j. set_kept c.args.bodies.now.items c.in-Some.at c.index_mut.result.now c.grow.new.body (placed c.args.id _ _ (sym c.in-Some.ensures)).1
    (c.grow.ensures.id ∙ ap (λ b. b.id) value) (kept ∙ ap (λ b. b.bytes.items) value) j i)
    c.grow.ensures.err
