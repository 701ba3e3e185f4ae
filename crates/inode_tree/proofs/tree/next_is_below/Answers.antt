use Rattle.std.proofs.Common.{◌≡◌, ◌∙◌, ◌+◌, ◌<◌, ◌≤◌, ℕ, List, Option, Some, None, ap, sym, subst, arith, take, take_all, length, refl, false, get_or}
use Rattle.std.specs.Option.{IsSome}
use Rattle.inode_tree.specs.Arena.{IsTree, number_of, path_of, rank, rows_of}
use Rattle.name_calls.specs.Paths.{is_prefix}
use Rattle.inode_tree.specs.Rows.{has_children}
use Rattle.inode_tree.specs.declared.rows.Node.{Node}
use Rattle.inode_tree.proofs.Children.{children-last, children-next, place-below}
use Rattle.inode_tree.proofs.Ranks.{within-at}
use Rattle.inode_tree.proofs.tree.next_is_below.Goals as goal

some-of : (o : Option ℕ) → IsSome o → (n : ℕ) × (o ≡ Some n)
some-of None h = cc
some-of (Some n) h = (n, refl)

-- the place after the row of a path, as it was found
module _ (ns : List Node) (order : List ℕ) (ids : ℕ → Option ℕ) (t : IsTree ns order ids) (p : List (List ℕ)) (u k : ℕ) (eu : u ≡ length p) (ek : k ≡ rank (rows_of ns order) (take u p)) (stands : IsSome (number_of ns order p)) where
  place : k ≡ rank (rows_of ns order) p
  place = ek ∙ ap (rank (rows_of ns order)) (take_all u p (omega arith))

  pub inside : k < length order
  inside = let w = some-of (number_of ns order p) stands in subst (λ (j : ℕ). j < length order) (sym place) (place-below ns order ids t p w.0 w.1)

  pub last : length order ≤ k + 1 → has_children (rows_of ns order) p ≡ false
  last h = let w = some-of (number_of ns order p) stands in children-last ns order ids t p w.0 w.1 (subst (λ (j : ℕ). length order ≤ j + 1) place h)

  pub next : k + 1 < length order → has_children (rows_of ns order) p ≡ is_prefix p (path_of ns (get_or order (k + 1) 0))
  next h = let w = some-of (number_of ns order p) stands in
      children-next ns order ids t p w.0 w.1 (subst (λ (j : ℕ). j + 1 < length order) place h)
      ∙ ap (λ (j : ℕ). is_prefix p (path_of ns (get_or order (j + 1) 0))) (sym place)

pub overflow_add-next : goal.overflow_add-next
overflow_add-next c =
    let h = inside c.args.nodes.now.items c.args.order.now.items c.requires.tree.0 c.requires.tree.1 c.args.path.now c.len.result c.place-next.result c.len.ensures.len c.place-next.ensures c.requires.stands in omega arith

pub below-requires-clause-live : goal.below-requires-clause-live
below-requires-clause-live c = subst (λ (k : ℕ). k < length c.args.nodes.now.items) (sym c.get.ensures) (within-at _ _ _ c.requires.tree.1.within (omega arith))

pub returns-then-next-len : goal.returns-then-next-len
returns-then-next-len c =
    c.below.ensures ∙ ap (λ (n : ℕ). is_prefix c.args.path.now (path_of c.args.nodes.now.items n)) c.get.ensures
    ∙ sym (next c.args.nodes.now.items c.args.order.now.items c.requires.tree.0 c.requires.tree.1 c.args.path.now c.len.result c.place-next.result c.len.ensures.len c.place-next.ensures c.requires.stands (omega arith))

pub returns-else-next-len : goal.returns-else-next-len
returns-else-next-len c = sym (last c.args.nodes.now.items c.args.order.now.items c.requires.tree.0 c.requires.tree.1 c.args.path.now c.len.result c.place-next.result c.len.ensures.len c.place-next.ensures c.requires.stands (omega arith))
