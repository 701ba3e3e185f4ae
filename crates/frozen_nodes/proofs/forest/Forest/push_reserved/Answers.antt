use Rattle.std.proofs.Common.{◌≡◌, ◌∙◌, ◌++◌, ◌∷◌, ◌-◌, List, [], ap, length, min, subst, sym, arith}
use Rattle.std.specs.Vec.{vec_capacity, vec_len}
use Rattle.frozen_nodes.specs.Forest.{AreKids, FrozenNode, IsForest, KeepsNodes, rows_from}
use Rattle.frozen_nodes.specs.Packed.{ForestState, nodes_in}
use Rattle.frozen_nodes.proofs.Grown.{forest-grown, keeps-grown}
use Rattle.frozen_nodes.proofs.Subtrees.{rows-new}
use Rattle.frozen_nodes.proofs.forest.Forest.push_reserved.Goals as goal

pub invariant_of-self : goal.invariant_of-self
invariant_of-self c = (
  subst (λ (ns : List FrozenNode). IsForest ns) (sym c.append.ensures.nodes)
      (forest-grown (nodes_in c.self.inside.names.items c.self.inside.kids.items c.self.inside.nodes.items) (record { name = c.args.name.now; row = c.args.row; kids = c.args.kids.now }) c.self.invariant.0
      (subst (λ (s : ForestState). AreKids s.nodes (length s.nodes) c.args.kids.now) (sym c.self.view_is) c.requires.kids)),
  c.append.ensures.inside,
  let r : min (vec_capacity c.self.inside.nodes - vec_len c.self.inside.nodes) (4294967295 - vec_len c.self.inside.nodes) ≡ c.args.self.now.room.nodes = ap (λ (s : ForestState). s.room.nodes) c.self.view_is in
      let f = c.requires.room.nodes_fit in let l = c.append.ensures.lens.0 in omega arith,
)

pub returns-clause-nodes : goal.returns-clause-nodes
returns-clause-nodes c = c.append.ensures.nodes ∙ ap (λ (s : ForestState). s.nodes ++ record { name = c.args.name.now; row = c.args.row; kids = c.args.kids.now } ∷ []) c.self.view_is

pub returns-clause-rows : goal.returns-clause-rows
returns-clause-rows c =
    let forest : IsForest c.args.self.now.nodes = subst (λ (s : ForestState). IsForest s.nodes) c.self.view_is c.self.invariant.0 in
    let grown : nodes_in c.append.new.names.items c.append.new.all_kids.items c.append.new.nodes.items ≡ c.args.self.now.nodes ++ record { name = c.args.name.now; row = c.args.row; kids = c.args.kids.now } ∷ [] =
    c.append.ensures.nodes ∙ ap (λ (s : ForestState). s.nodes ++ record { name = c.args.name.now; row = c.args.row; kids = c.args.kids.now } ∷ []) c.self.view_is in
    (λ i. rows_from (grown i) (c.len-number.ensures.len i))
    ∙ rows-new c.args.self.now.nodes (record { name = c.args.name.now; row = c.args.row; kids = c.args.kids.now })
    (forest-grown c.args.self.now.nodes (record { name = c.args.name.now; row = c.args.row; kids = c.args.kids.now }) forest c.requires.kids) c.requires.kids.below

pub returns-clause-others : goal.returns-clause-others
returns-clause-others c =
    subst (λ (ns : List FrozenNode). KeepsNodes c.args.self.now.nodes ns)
    (sym (c.append.ensures.nodes ∙ ap (λ (s : ForestState). s.nodes ++ record { name = c.args.name.now; row = c.args.row; kids = c.args.kids.now } ∷ []) c.self.view_is))
    (keeps-grown c.args.self.now.nodes (record { name = c.args.name.now; row = c.args.row; kids = c.args.kids.now }))
