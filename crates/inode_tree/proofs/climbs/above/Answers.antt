use Rattle.std.proofs.Common.{arith, ◌≡◌, length, take, ℕ, Bool, ◌&&◌, List, refl, sym, ap, ◌∙◌, take_all, subst, Ordering, Less, Equal, Greater}
use Rattle.std.specs.Prelude.{nat_le}
use Rattle.std.specs.Ordering.{is_eq}
use Rattle.inode_tree.specs.Arena.{IsNear, path_of, cmp_front}
use Rattle.name_calls.specs.Paths.{is_prefix}
use Rattle.inode_tree.proofs.Places.{prefix-back}
use Rattle.inode_tree.proofs.NearLemmas.{near-root}
use Rattle.inode_tree.proofs.climbs.above.Goals as goal

pub meet-met-requires-clause-near : goal.meet-met-requires-clause-near
meet-met-requires-clause-near c = subst (IsNear c.args.nodes.now.items c.args.path.now) (sym c.root.ensures) (near-root c.args.nodes.now.items c.args.path.now)

reads : (p q : List (List ℕ)) (u : ℕ) (o : Ordering) (b : Bool) → u ≡ length p → o ≡ cmp_front q (take u p) → b ≡ nat_le (length q) (length p) → (is_eq o && b) ≡ is_prefix q p
reads p q u o b eu eo eb = sym (prefix-back q p ∙ ap (λ (x : List (List ℕ)). is_eq (cmp_front q x) && nat_le (length q) (length p)) (sym (take_all u p (omega arith))) ∙ ap (λ (r : Ordering). is_eq r && nat_le (length q) (length p)) (sym eo) ∙ ap (λ (t : Bool). is_eq o && t) (sym eb))

pub returns-in-Less : goal.returns-in-Less
returns-in-Less c = reads c.args.path.now (path_of c.args.nodes.now.items c.args.n) c.len.result Less (nat_le (length (path_of c.args.nodes.now.items c.args.n)) (length c.args.path.now)) c.len.ensures.len (sym c.in-Less.is ∙ c.meet-met.ensures.found) refl

pub returns-in-Equal : goal.returns-in-Equal
returns-in-Equal c = reads c.args.path.now (path_of c.args.nodes.now.items c.args.n) c.len.result Equal (nat_le c.meet-met.result.depth c.len-in-Equal.result) c.len.ensures.len (sym c.in-Equal.is ∙ c.meet-met.ensures.found) (ap (λ (k : ℕ). nat_le k c.len-in-Equal.result) c.meet-met.ensures.depth ∙ ap (nat_le (length (path_of c.args.nodes.now.items c.args.n))) c.len-in-Equal.ensures.len)

pub returns-in-Greater : goal.returns-in-Greater
returns-in-Greater c = reads c.args.path.now (path_of c.args.nodes.now.items c.args.n) c.len.result Greater (nat_le (length (path_of c.args.nodes.now.items c.args.n)) (length c.args.path.now)) c.len.ensures.len (sym c.in-Greater.is ∙ c.meet-met.ensures.found) refl
