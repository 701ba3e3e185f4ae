use Rattle.std.proofs.Common.{◌≡◌, ◌∙◌, ◌<◌, ◌+◌, ◌++◌, ◌-◌, ℕ, List, Some, ap, sym, subst, length, drop, refl, get_or}
use Rattle.std.specs.Prelude.{slice_get, vec_capacity, vec_len, OnErr, OnOk}
use Rattle.std.specs.Option.{option_map}
use Rattle.inode_tree.specs.Arena.{path_of, rows_of}
use Rattle.inode_tree.specs.Rows.{Entry, TreeState}
use Rattle.inode_tree.specs.Written.{last_bytes, path_bytes}
use Rattle.inode_tree.specs.declared.rows.Node.{Node}
use Rattle.inode_tree.proofs.Places.{at-place, from-end, live-at}
use Rattle.std.specs.HashMap.{get}
use Rattle.std.specs.Bool.{nat_eq}
use Rattle.inode_tree.proofs.Insides.{fewer, node-relative, node-within}
use Rattle.inode_tree.proofs.tree.Tree.write_path_from.Goals as goal

-- the last names of the node are those of the row at the place
bytes-at : (ns : List Node) (order : List ℕ) (rows : List Entry) (at n from depth count : ℕ) (e : Entry) → rows_of ns order ≡ rows → at < length rows → n ≡ get_or order at 0 → depth ≡ length (path_of ns n) → count ≡ depth - from → slice_get rows at ≡ Some e → last_bytes count (path_of ns n) ≡ path_bytes (drop from e.path)
bytes-at ns order rows at n from depth count e same less place long short found =
    let f : Some e.path ≡ Some (path_of ns n) =
    sym (ap (option_map (λ (x : Entry). x.path)) found)
    ∙ ap (λ (es : List Entry). option_map (λ (x : Entry). x.path) (slice_get es at)) (sym same)
    ∙ at-place (λ (x : Entry). x.path) ns order at n (path_of ns n) (live-at ns order rows at same less) place refl in
    let g : e.path ≡ path_of ns n = cc in
    ap (λ (k : ℕ). path_bytes (drop (length (path_of ns n) - k) (path_of ns n))) (short ∙ ap (λ (d : ℕ). d - from) long)
    ∙ ap path_bytes (from-end (path_of ns n) from)
    ∙ ap (λ (p : List (List ℕ)). path_bytes (drop from p)) (sym g)

pub returns-clause-ok : goal.returns-clause-ok
returns-clause-ok c = λ e found.
    subst (λ (bytes : List ℕ). OnOk c.write_last.result (c.write_last.new.out.items ≡ c.args.out.now.items ++ bytes))
    (bytes-at c.self.inside.nodes.items c.self.inside.order.items c.args.self.now.rows c.args.at c.get-n.result c.args.from c.depth.result c.saturating_sub-count.result e (ap (λ (s : TreeState). s.rows) c.self.view_is) c.requires c.get-n.ensures c.depth.ensures c.saturating_sub-count.ensures found)
    c.write_last.ensures.ok

pub returns-clause-len : goal.returns-clause-len
returns-clause-len c = λ e found.
    subst (λ (bytes : List ℕ). OnOk c.write_last.result (vec_len c.write_last.new.out ≡ vec_len c.args.out.now + length bytes))
    (bytes-at c.self.inside.nodes.items c.self.inside.order.items c.args.self.now.rows c.args.at c.get-n.result c.args.from c.depth.result c.saturating_sub-count.result e (ap (λ (s : TreeState). s.rows) c.self.view_is) c.requires c.get-n.ensures c.depth.ensures c.saturating_sub-count.ensures found)
    c.write_last.ensures.len

pub returns-clause-full : goal.returns-clause-full
returns-clause-full c = λ e found.
    subst (λ (bytes : List ℕ). OnErr c.write_last.result (vec_capacity c.args.out.now < vec_len c.args.out.now + length bytes))
    (bytes-at c.self.inside.nodes.items c.self.inside.order.items c.args.self.now.rows c.args.at c.get-n.result c.args.from c.depth.result c.saturating_sub-count.result e (ap (λ (s : TreeState). s.rows) c.self.view_is) c.requires c.get-n.ensures c.depth.ensures c.saturating_sub-count.ensures found)
    c.write_last.ensures.full

pub get-n-requires : goal.get-n-requires
get-n-requires c = live-at _ _ c.args.self.now.rows c.args.at (ap (λ (s : TreeState). s.rows) c.self.view_is) c.requires

pub depth-requires-clause-linked : goal.depth-requires-clause-linked
depth-requires-clause-linked c = c.self.invariant.0.tree.linked

pub depth-requires-clause-live : goal.depth-requires-clause-live
depth-requires-clause-live c = node-within c.self.inside.nodes.items c.self.inside.order.items (get nat_eq c.self.inside.places) c.self.invariant.0.tree c.args.at c.get-n.result (live-at _ _ c.args.self.now.rows c.args.at (ap (λ (s : TreeState). s.rows) c.self.view_is) c.requires) c.get-n.ensures

pub write_last-requires-clause-linked : goal.write_last-requires-clause-linked
write_last-requires-clause-linked c = c.self.invariant.0.tree.linked

pub write_last-requires-clause-live : goal.write_last-requires-clause-live
write_last-requires-clause-live c = node-within c.self.inside.nodes.items c.self.inside.order.items (get nat_eq c.self.inside.places) c.self.invariant.0.tree c.args.at c.get-n.result (live-at _ _ c.args.self.now.rows c.args.at (ap (λ (s : TreeState). s.rows) c.self.view_is) c.requires) c.get-n.ensures

pub write_last-requires-clause-rule : goal.write_last-requires-clause-rule
write_last-requires-clause-rule c = node-relative c.self.inside.nodes.items c.self.inside.order.items (get nat_eq c.self.inside.places) c.self.invariant.0.tree c.args.at c.get-n.result (live-at _ _ c.args.self.now.rows c.args.at (ap (λ (s : TreeState). s.rows) c.self.view_is) c.requires) c.get-n.ensures

pub write_last-requires-clause-count : goal.write_last-requires-clause-count
write_last-requires-clause-count c = fewer c.depth.result c.args.from c.saturating_sub-count.result _ c.saturating_sub-count.ensures c.depth.ensures

pub returns-clause-capacity : goal.returns-clause-capacity
returns-clause-capacity c = c.write_last.ensures.capacity
