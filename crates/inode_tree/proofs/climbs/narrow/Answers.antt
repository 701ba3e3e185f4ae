use Rattle.std.proofs.Common.{arith, ◌≡◌, ◌<◌, length, take, ℕ, ◌+◌, false, List, refl, sym, ap, ◌∙◌, subst, get_or, Ordering, Less, Equal, Greater}
use Rattle.inode_tree.specs.Arena.{HoldsRank, IsRising, path_of, rows_of}
use Rattle.name_calls.specs.Paths.{path_cmp}
use Rattle.inode_tree.proofs.Ranks.{goes-on, stops, within-at}
use Rattle.std.specs.Ordering.{is_lt}
use Rattle.inode_tree.specs.declared.rows.Node.{Node}
use Rattle.inode_tree.proofs.climbs.narrow.Goals as goal

module _ (ns : List Node) (order : List ℕ) (p : List (List ℕ)) (low high at n : ℕ) (h : HoldsRank ns order p low high) (above : at < high) (en : n ≡ get_or order at 0) where
  inside : at < length order
  inside = let m = h.2 in omega arith

  pub after : IsRising (rows_of ns order) → Less ≡ path_cmp (path_of ns n) p → HoldsRank ns order p (at + 1) high
  after r e = (goes-on ns order p at r inside (ap (λ (k : ℕ). path_cmp (path_of ns k) p) (sym en) ∙ sym e), h.1, h.2)

  pub before : (o : Ordering) → o ≡ path_cmp (path_of ns n) p → is_lt o ≡ false → HoldsRank ns order p low at
  before o e f = (h.0, stops ns order p at inside (ap (λ (k : ℕ). is_lt (path_cmp (path_of ns k) p)) (sym en) ∙ ap is_lt (sym e) ∙ f), let m = h.2 in omega arith)

pub compare-requires-clause-live : goal.compare-requires-clause-live
compare-requires-clause-live c =
    let most = c.requires.around.2 in
    let above = c.if-span-at.false in
    subst (λ (k : ℕ). k < length c.args.nodes.now.items) (sym c.get_near.ensures) (within-at _ _ _ c.requires.within (omega arith))

pub returns-in-Less-clause-around : goal.returns-in-Less-clause-around
returns-in-Less-clause-around c =
    let above = c.if-span-at.false in
    after c.args.nodes.now.items c.args.order.now.items (take c.args.upto c.args.path.now) c.args.span.low c.args.span.high c.args.at c.get_near.result c.requires.around (omega arith) c.get_near.ensures c.requires.rising c.in-Less.ensures

pub returns-in-Equal-clause-around : goal.returns-in-Equal-clause-around
returns-in-Equal-clause-around c =
    let above = c.if-span-at.false in
    before c.args.nodes.now.items c.args.order.now.items (take c.args.upto c.args.path.now) c.args.span.low c.args.span.high c.args.at c.get_near.result c.requires.around (omega arith) c.get_near.ensures Equal c.in-Equal.ensures refl

pub returns-in-Greater-clause-around : goal.returns-in-Greater-clause-around
returns-in-Greater-clause-around c =
    let above = c.if-span-at.false in
    before c.args.nodes.now.items c.args.order.now.items (take c.args.upto c.args.path.now) c.args.span.low c.args.span.high c.args.at c.get_near.result c.requires.around (omega arith) c.get_near.ensures Greater c.in-Greater.ensures refl
