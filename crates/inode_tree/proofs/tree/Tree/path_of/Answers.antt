use Rattle.std.proofs.Common.{◌≡◌, ◌∙◌, ℕ, List, Option, Some, None, ap, sym, subst, true}
use Rattle.std.specs.Prelude.{Result, Ok, Err, IfOk}
use Rattle.std.specs.HashMap.{get}
use Rattle.std.specs.Bool.{nat_eq}
use Rattle.std.specs.Option.{option_map, IsSome}
use Rattle.inode_tree.specs.Arena.{IsTree, path_of, entry_at, rows_of}
use Rattle.name_calls.specs.Paths.{is_relative}
use Rattle.inode_tree.specs.Rows.{Entry, entry_of}
use Rattle.inode_tree.specs.declared.rows.Node.{Node}
use Rattle.inode_tree.proofs.Trees.{entry-number, id-below}
use Rattle.inode_tree.specs.Rows.{TreeState}
use Rattle.inode_tree.proofs.tree.Tree.path_of.Goals as goal

named : (ns : List Node) (order : List ℕ) (ids : ℕ → Option ℕ) (id n : ℕ) (path : List (List ℕ)) → IsTree ns order ids → Some n ≡ ids id → path ≡ path_of ns n → option_map (λ (e : Entry). e.path) (entry_of (rows_of ns order) id) ≡ Some path
named ns order ids id n path t e f = ap (option_map (λ (e : Entry). e.path)) (entry-number ns order ids id t ∙ ap (option_map (entry_at ns)) (sym e)) ∙ ap (λ (p : List (List ℕ)). Some p) (sym f)

ruled : (ns : List Node) (order : List ℕ) (ids : ℕ → Option ℕ) (id n : ℕ) → IsTree ns order ids → ids id ≡ Some n → is_relative (path_of ns n) ≡ true
ruled ns order ids id n t e = let w = t.stands id n e in subst (λ (m : ℕ). is_relative (path_of ns m) ≡ true) w.2 (t.ruled w.0 w.1)

absent : (ns : List Node) (order : List ℕ) (ids : ℕ → Option ℕ) (id : ℕ) → IsTree ns order ids → None ≡ ids id → IsSome (entry_of (rows_of ns order) id) → ⊥
absent ns order ids id t e s = let f : IsSome {T = Entry} None = subst IsSome (entry-number ns order ids id t ∙ ap (option_map (entry_at ns)) (sym e)) s in cc

each-ok : {T E : Type 0} {P Q : T → Type 0} (r : Result T E) → ((v : T) → P v → Q v) → IfOk r P → IfOk r Q
each-ok (Ok v) f h = f v h
each-ok (Err e) f h = tt

pub build-requires : goal.build-requires
build-requires c = record {
  linked = c.self.invariant.0.tree.linked;
  live = id-below c.self.inside.nodes.items c.self.inside.order.items (get nat_eq c.self.inside.places) c.args.id c.in-Some.n.now c.self.invariant.0.tree (sym c.in-Some.ensures.value);
  rule = ruled c.self.inside.nodes.items c.self.inside.order.items (get nat_eq c.self.inside.places) c.args.id c.in-Some.n.now c.self.invariant.0.tree (sym c.in-Some.ensures.value);
}

pub unreachable-requires : goal.unreachable-requires
unreachable-requires c = absent c.self.inside.nodes.items c.self.inside.order.items (get nat_eq c.self.inside.places) c.args.id c.self.invariant.0.tree c.in-None.ensures.value (subst (λ (rows : List Entry). IsSome (entry_of rows c.args.id)) (sym (ap (λ (s : TreeState). s.rows) c.self.view_is)) c.requires)

pub returns : goal.returns
returns c = each-ok c.build.result (λ path e. ap (λ (rows : List Entry). option_map (λ (e : Entry). e.path) (entry_of rows c.args.id)) (sym (ap (λ (s : TreeState). s.rows) c.self.view_is))
    ∙ named c.self.inside.nodes.items c.self.inside.order.items (get nat_eq c.self.inside.places) c.args.id c.in-Some.n.now path c.self.invariant.0.tree c.in-Some.ensures.value e) c.build.ensures
