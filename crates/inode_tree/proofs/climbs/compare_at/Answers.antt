use Rattle.std.proofs.Common.{arith, length-take, ◌≡◌, ◌<◌, take, ℕ, List, [], get_or, sym, ap, ◌∙◌}
use Rattle.inode_tree.proofs.Orders.{name-in, name-past}
use Rattle.std.specs.Ordering.{nat_cmp}
use Rattle.std.specs.Cmp.Lexicographic.{slice_cmp}
use Rattle.std.proofs.lemmas.List.{get_or-take}
use Rattle.inode_tree.proofs.climbs.compare_at.Goals as goal

upto-name : (p : List (List ℕ)) (u k : ℕ) (y : List ℕ) → k < u → y ≡ get_or p k [] → y ≡ get_or (take u p) k []
upto-name p u k y h e = e ∙ sym (get_or-take u p k [] h)

pub returns-then-k-upto : goal.returns-then-k-upto
returns-then-k-upto c = c.compare_names.ensures ∙ ap (slice_cmp nat_cmp c.args.link.now.name) (upto-name c.args.path.now c.args.upto c.args.k c.name.result.now c.if-k-upto.true c.name.ensures) ∙ sym (name-in c.args.link.now.name (take c.args.upto c.args.path.now) c.args.k (omega (arith, length-take c.args.upto c.args.path.now)))

pub returns-else-k-upto : goal.returns-else-k-upto
returns-else-k-upto c = sym (name-past c.args.link.now.name (take c.args.upto c.args.path.now) c.args.k (omega (arith, length-take c.args.upto c.args.path.now)))
