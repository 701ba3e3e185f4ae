use Rattle.std.proofs.Common.{◌≡◌, ◌∙◌, ◌<◌, ℕ, [], List, Some, ap, sym, length, get_or}
use Rattle.std.specs.Prelude.{slice_get}
use Rattle.std.specs.HashMap.{get}
use Rattle.std.specs.Bool.{nat_eq}
use Rattle.std.proofs.lemmas.Option.{same_Some}
use Rattle.inode_tree.specs.Arena.{entry_at, rows_of}
use Rattle.inode_tree.specs.Rows.{Entry, TreeState}
use Rattle.inode_tree.specs.declared.rows.Node.{Node}
use Rattle.inode_tree.proofs.Insides.{node-within}
use Rattle.inode_tree.proofs.Places.{get-row, live-at}
use Rattle.inode_tree.proofs.tree.Tree.name_at_place.Goals as goal

-- the row at a place is that of its node
row-is : (ns : List Node) (order : List ℕ) (rows : List Entry) (at n : ℕ) → rows_of ns order ≡ rows → at < length rows → n ≡ get_or order at 0 → slice_get rows at ≡ Some (entry_at ns n)
row-is ns order rows at n same less place =
    ap (λ (es : List Entry). slice_get es at) (sym same) ∙ get-row ns order at (live-at ns order rows at same less) ∙ ap (λ (k : ℕ). Some (entry_at ns k)) (sym place)

pub get-requires : goal.get-requires
get-requires c = live-at _ _ c.args.self.now.rows c.args.at (ap (λ (s : TreeState). s.rows) c.self.view_is) c.requires.at

pub name_of-requires-clause-linked : goal.name_of-requires-clause-linked
name_of-requires-clause-linked c = c.self.invariant.0.tree.linked

pub name_of-requires-clause-live : goal.name_of-requires-clause-live
name_of-requires-clause-live c = node-within c.self.inside.nodes.items c.self.inside.order.items (get nat_eq c.self.inside.places) c.self.invariant.0.tree c.args.at c.get.result (live-at _ _ c.args.self.now.rows c.args.at (ap (λ (s : TreeState). s.rows) c.self.view_is) c.requires.at) c.get.ensures

pub name_of-requires-clause-k : goal.name_of-requires-clause-k
name_of-requires-clause-k c =
    c.requires.k (entry_at c.self.inside.nodes.items c.get.result)
    (row-is c.self.inside.nodes.items c.self.inside.order.items c.args.self.now.rows c.args.at c.get.result (ap (λ (s : TreeState). s.rows) c.self.view_is) c.requires.at c.get.ensures)

pub returns : goal.returns
returns c = λ e found.
    c.name_of.ensures
    ∙ ap (λ (f : Entry). get_or f.path c.args.k [])
    (same_Some (entry_at c.self.inside.nodes.items c.get.result) e
    (sym (row-is c.self.inside.nodes.items c.self.inside.order.items c.args.self.now.rows c.args.at c.get.result (ap (λ (s : TreeState). s.rows) c.self.view_is) c.requires.at c.get.ensures) ∙ found))
