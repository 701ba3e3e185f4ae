use Rattle.std.proofs.Common.{ap, ◌∙◌, sym}
use Rattle.body_kinds.proofs.ShelfLemmas.{not_shown, shown}
use Rattle.body_kinds.proofs.shelf.bytes_of.Goals as goal

pub returns-in-Some : goal.returns-in-Some
returns-in-Some c = c.as_slice.ensures.value ∙ ap (λ b. b.bytes.items) c.index.ensures ∙ sym (shown c.args.id c.args.bodies.now.items c.in-Some.at c.index.result.now (sym c.in-Some.ensures))

pub returns-in-None : goal.returns-in-None
returns-in-None c = sym (not_shown c.args.id c.args.bodies.now.items (sym c.in-None.ensures))
