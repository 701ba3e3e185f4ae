use Rattle.std.proofs.Common.{◌≡◌, ◌-◌, ℕ, Option, Some, List, [], length, length-set, get_or, take, sym, ap, ◌∙◌, subst, arith, take_all}
use Rattle.std.specs.HashMap.{get}
use Rattle.std.specs.Bool.{nat_eq}
use Rattle.name_calls.specs.Paths.{last_name}
use Rattle.inode_tree.specs.declared.rows.Node.{Node}
use Rattle.inode_tree.specs.Arena.{IsFree, IsTree, node_at, number_of, rows_of, with_place}
use Rattle.inode_tree.proofs.Lasts.{last-name}
use Rattle.inode_tree.proofs.MovedTrees.{found-from, found-into, moves, node-below, to-deep}
use Rattle.inode_tree.proofs.Insides.{at-most, one-less}
use Rattle.inode_tree.proofs.tree.moves.relocate.Goals as goal

pub unreachable-requires : goal.unreachable-requires
unreachable-requires c = found-from c.args.nodes.now.items c.args.order.now.items _ c.requires.kept.tree c.args.path.now c.args.to.now c.requires.can
    (ap (number_of c.args.nodes.now.items c.args.order.now.items) (sym (take_all c.len.result c.args.path.now (let e = c.len.ensures.len in omega arith))) ∙ sym c.seek.ensures ∙ c.in-None.is)

pub unreachable-requires-in-None-seek : goal.unreachable-requires-in-None-seek
unreachable-requires-in-None-seek c = found-into c.args.nodes.now.items c.args.order.now.items _ c.requires.kept.tree c.args.path.now c.args.to.now c.requires.can
    (ap (λ (k : ℕ). number_of c.args.nodes.now.items c.args.order.now.items (take (k - 1) c.args.to.now)) (sym c.len-upto.ensures.len) ∙ sym c.seek-2.ensures ∙ c.in-None-seek.is)

pub name_in-name-requires-clause-room : goal.name_in-name-requires-clause-room
name_in-name-requires-clause-room c =
    let d = to-deep c.args.nodes.now.items c.args.order.now.items _ c.requires.kept.tree c.args.path.now c.args.to.now c.requires.can in
    let e = c.len-upto.ensures.len in
    let l : length c.name.result.now ≡ length (last_name c.args.to.now) = ap length (c.name.ensures ∙ sym (last-name c.args.to.now (c.len-upto.result - 1) (omega arith))) in
    let r = c.requires.room.1 in omega arith

-- what the searches find, over plain variables
module _ (ns : List Node) (order : List ℕ) (p : List (List ℕ)) (len n : ℕ) (o : Option ℕ) (el : len ≡ length p) (eo : o ≡ number_of ns order (take len p)) (is : o ≡ Some n) where
  pub found : number_of ns order p ≡ Some n
  found = ap (number_of ns order) (sym (take_all len p (omega arith))) ∙ sym eo ∙ is

into : (ns : List Node) (order : List ℕ) (q : List (List ℕ)) (len h : ℕ) (o : Option ℕ) → len ≡ length q → o ≡ number_of ns order (take (len - 1) q) → o ≡ Some h → number_of ns order (take (length q - 1) q) ≡ Some h
into ns order q len h o el eo is = ap (λ (k : ℕ). number_of ns order (take (k - 1) q)) (sym el) ∙ sym eo ∙ is

-- the node as it is written
placed : (ns ns' : List Node) (n h len : ℕ) (q : List (List ℕ)) (name text : List ℕ) → ns' ≡ with_place ns n h name → name ≡ text → text ≡ get_or q (len - 1) [] → len ≡ length q → ns' ≡ with_place ns n h (get_or q (length q - 1) [])
placed ns ns' n h len q name text e f g el = e ∙ ap (with_place ns n h) (f ∙ g ∙ ap (λ (k : ℕ). get_or q (k - 1) []) el)

tree-is : (ns ns' : List Node) (order order' : List ℕ) (ids : ℕ → Option ℕ) → ns ≡ ns' → order ≡ order' → IsTree ns' order' ids → IsTree ns order ids
tree-is ns ns' order order' ids e f t = subst (λ (xs : List Node). IsTree xs order ids) (sym e) (subst (λ (xs : List ℕ). IsTree ns' xs ids) (sym f) t)

free-is : (ns ns' : List Node) (order order' free : List ℕ) → ns ≡ ns' → order ≡ order' → IsFree ns' order' free → IsFree ns order free
free-is ns ns' order order' free e f t = subst (λ (xs : List Node). IsFree xs order free) (sym e) (subst (λ (xs : List ℕ). IsFree ns' xs free) (sym f) t)

length-placed : (ns ns' : List Node) (n h : ℕ) (name : List ℕ) → ns' ≡ with_place ns n h name → length ns' ≡ length ns
length-placed ns ns' n h name e = ap length e ∙ length-set ns n (record { parent = h; name = name; row = (node_at ns n).row })

pub set_link-requires : goal.set_link-requires
set_link-requires c =
    node-below c.args.nodes.now.items c.args.order.now.items _ c.requires.kept.tree c.args.path.now c.args.to.now c.requires.can c.len-upto.ensures.rule c.in-Some.n c.in-Some-seek.n
    (found c.args.nodes.now.items c.args.order.now.items c.args.path.now c.len.result c.in-Some.n c.seek.result c.len.ensures.len c.seek.ensures c.in-Some.is)
    (into c.args.nodes.now.items c.args.order.now.items c.args.to.now c.len-upto.result c.in-Some-seek.n c.seek-2.result c.len-upto.ensures.len c.seek-2.ensures c.in-Some-seek.is)

pub returns-clause-kept : goal.returns-clause-kept
returns-clause-kept c =
    let w = moves c.args.nodes.now.items c.args.order.now.items _ c.requires.kept.tree c.args.path.now c.args.to.now c.requires.can c.len-upto.ensures.rule c.in-Some.n c.in-Some-seek.n
    (found c.args.nodes.now.items c.args.order.now.items c.args.path.now c.len.result c.in-Some.n c.seek.result c.len.ensures.len c.seek.ensures c.in-Some.is)
    (into c.args.nodes.now.items c.args.order.now.items c.args.to.now c.len-upto.result c.in-Some-seek.n c.seek-2.result c.len-upto.ensures.len c.seek-2.ensures c.in-Some-seek.is) in
    let e = placed c.args.nodes.now.items c.set_link.new.self.items c.in-Some.n c.in-Some-seek.n c.len-upto.result c.args.to.now c.name_in-name.result c.name.result.now c.set_link.ensures c.name_in-name.ensures.name c.name.ensures c.len-upto.ensures.len in
    record {
      tree = tree-is c.set_link.new.self.items _ c.shift.new.order.items _ (get nat_eq c.args.places.now) e c.shift.ensures w.tree;
      free = free-is c.set_link.new.self.items _ c.shift.new.order.items _ c.args.free.now.items e c.shift.ensures (w.free c.args.free.now.items c.requires.kept.free);
      capacity = let k = c.requires.kept.capacity in let l = length-placed c.args.nodes.now.items c.set_link.new.self.items c.in-Some.n c.in-Some-seek.n (get_or c.args.to.now (length c.args.to.now - 1) []) e in omega arith;
    }

pub returns-clause-rows : goal.returns-clause-rows
returns-clause-rows c =
    let w = moves c.args.nodes.now.items c.args.order.now.items _ c.requires.kept.tree c.args.path.now c.args.to.now c.requires.can c.len-upto.ensures.rule c.in-Some.n c.in-Some-seek.n
    (found c.args.nodes.now.items c.args.order.now.items c.args.path.now c.len.result c.in-Some.n c.seek.result c.len.ensures.len c.seek.ensures c.in-Some.is)
    (into c.args.nodes.now.items c.args.order.now.items c.args.to.now c.len-upto.result c.in-Some-seek.n c.seek-2.result c.len-upto.ensures.len c.seek-2.ensures c.in-Some-seek.is) in
    let e = placed c.args.nodes.now.items c.set_link.new.self.items c.in-Some.n c.in-Some-seek.n c.len-upto.result c.args.to.now c.name_in-name.result c.name.result.now c.set_link.ensures c.name_in-name.ensures.name c.name.ensures c.len-upto.ensures.len in
    ap (λ (ns : List Node). rows_of ns c.shift.new.order.items) e ∙ ap (rows_of (with_place c.args.nodes.now.items c.in-Some.n c.in-Some-seek.n (get_or c.args.to.now (length c.args.to.now - 1) []))) c.shift.ensures ∙ w.rows

pub seek-requires-clause-tree : goal.seek-requires-clause-tree
seek-requires-clause-tree c = (get nat_eq c.args.places.now, c.requires.kept.tree)

pub seek-requires-clause-upto : goal.seek-requires-clause-upto
seek-requires-clause-upto c = at-most _ _ c.len.ensures.len

pub seek-requires-2-clause-tree : goal.seek-requires-2-clause-tree
seek-requires-2-clause-tree c = (get nat_eq c.args.places.now, c.requires.kept.tree)

pub seek-requires-2-clause-upto : goal.seek-requires-2-clause-upto
seek-requires-2-clause-upto c = one-less _ _ c.len-upto.ensures.len

pub shift-requires-clause-tree : goal.shift-requires-clause-tree
shift-requires-clause-tree c = (get nat_eq c.args.places.now, c.requires.kept.tree)

pub shift-requires-clause-can : goal.shift-requires-clause-can
shift-requires-clause-can c = c.requires.can

pub shift-requires-clause-room : goal.shift-requires-clause-room
shift-requires-clause-room c = c.requires.room.0
