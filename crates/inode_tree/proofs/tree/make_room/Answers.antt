use Rattle.std.proofs.Common.{◌≡◌, ℕ, Option, List, refl, sym, subst, rules}
use Rattle.std.specs.Bool.{nat_eq}
use Rattle.std.specs.HashMap.{get}
use Rattle.inode_tree.specs.declared.rows.Node.{Node}
use Rattle.inode_tree.specs.Arena.{IsFree, IsTree}
use Rattle.inode_tree.proofs.Lasts.{tree-same}
use Rattle.inode_tree.proofs.tree.make_room.Goals as goal

moved-tree : (ns : List Node) (order order' : List ℕ) (ids ids' : ℕ → Option ℕ) → order' ≡ order → ((q : ℕ) → ids' q ≡ ids q) → IsTree ns order ids → IsTree ns order' ids'
moved-tree ns order order' ids ids' eo ei t = subst (λ (os : List ℕ). IsTree ns os ids') (sym eo) (tree-same ns order ids ids' ei t)

pub provide-requires-clause-tree : goal.provide-requires-clause-tree
provide-requires-clause-tree c = (get nat_eq c.args.places.now, c.requires.kept.tree)

pub returns-in_err-provide-clause-kept : goal.returns-in_err-provide-clause-kept
returns-in_err-provide-clause-kept c = record { tree = c.provide.ensures.tree (get nat_eq c.args.places.now) c.requires.kept.tree; free = c.provide.ensures.free; capacity = c.provide.ensures.capacity }

pub returns-in_err-reserve-clause-kept : goal.returns-in_err-reserve-clause-kept
returns-in_err-reserve-clause-kept c = record {
  tree = moved-tree c.provide.new.nodes.items c.args.order.now.items c.reserve.new.self.items (get nat_eq c.args.places.now) (get nat_eq c.args.places.now) c.reserve.ensures.same (λ q. refl) (c.provide.ensures.tree (get nat_eq c.args.places.now) c.requires.kept.tree);
  free = subst (λ (os : List ℕ). IsFree c.provide.new.nodes.items os c.provide.new.free.items) (sym c.reserve.ensures.same) c.provide.ensures.free;
  capacity = c.provide.ensures.capacity;
}

pub returns-in_err-reserve-2-clause-kept : goal.returns-in_err-reserve-2-clause-kept
returns-in_err-reserve-2-clause-kept c = record {
  tree = moved-tree c.provide.new.nodes.items c.args.order.now.items c.reserve.new.self.items (get nat_eq c.args.places.now) (get nat_eq c.reserve-2.new.self) c.reserve.ensures.same same (c.provide.ensures.tree (get nat_eq c.args.places.now) c.requires.kept.tree);
  free = subst (λ (os : List ℕ). IsFree c.provide.new.nodes.items os c.provide.new.free.items) (sym c.reserve.ensures.same) c.provide.ensures.free;
  capacity = c.provide.ensures.capacity;
}
  where
    same : (q : ℕ) → get nat_eq c.reserve-2.new.self q ≡ get nat_eq c.args.places.now q
    same = search rules

pub returns-in_err-reserve-3-clause-kept : goal.returns-in_err-reserve-3-clause-kept
returns-in_err-reserve-3-clause-kept c = record {
  tree = moved-tree c.provide.new.nodes.items c.args.order.now.items c.reserve.new.self.items (get nat_eq c.args.places.now) (get nat_eq c.reserve-2.new.self) c.reserve.ensures.same same (c.provide.ensures.tree (get nat_eq c.args.places.now) c.requires.kept.tree);
  free = subst (λ (os : List ℕ). IsFree c.provide.new.nodes.items os c.provide.new.free.items) (sym c.reserve.ensures.same) c.provide.ensures.free;
  capacity = c.provide.ensures.capacity;
}
  where
    same : (q : ℕ) → get nat_eq c.reserve-2.new.self q ≡ get nat_eq c.args.places.now q
    same = search rules

pub returns-clause-kept : goal.returns-clause-kept
returns-clause-kept c = record {
  tree = moved-tree c.provide.new.nodes.items c.args.order.now.items c.reserve.new.self.items (get nat_eq c.args.places.now) (get nat_eq c.reserve-2.new.self) c.reserve.ensures.same same (c.provide.ensures.tree (get nat_eq c.args.places.now) c.requires.kept.tree);
  free = subst (λ (os : List ℕ). IsFree c.provide.new.nodes.items os c.provide.new.free.items) (sym c.reserve.ensures.same) c.provide.ensures.free;
  capacity = c.provide.ensures.capacity;
}
  where
    same : (q : ℕ) → get nat_eq c.reserve-2.new.self q ≡ get nat_eq c.args.places.now q
    same = search rules
