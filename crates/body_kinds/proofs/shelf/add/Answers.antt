use Rattle.std.proofs.Common.{rules, refl, sym, subst}
use Rattle.body_stream.specs.Vaults.{GrowsBody}
use Rattle.body_kinds.specs.Shelves.{body_in}
use Rattle.body_kinds.proofs.ShelfLemmas.{push_grows}
use Rattle.body_kinds.proofs.shelf.add.Goals as goal

pub returns-clause-ok : goal.returns-clause-ok
returns-clause-ok c =
    subst (λ bodies. GrowsBody c.args.id c.args.bytes.now (body_in c.args.bodies.now.items) (body_in bodies)) (sym c.in_ok-push.ensures.items)
    (push_grows c.args.id c.args.bodies.now.items _ c.args.bytes.now c.requires refl (search rules))
