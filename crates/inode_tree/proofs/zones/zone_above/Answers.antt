use Rattle.std.proofs.Common.{arith, ◌≡◌, ℕ, true, List, sym, ap, ◌∙◌, subst, Option, Some}
use Rattle.std.specs.Option.{option_map}
use Rattle.inode_tree.specs.Arena.{IsTree, IsLive, path_of, node_at, rows_of}
use Rattle.inode_tree.specs.Rows.{zone_of, zone_id, is_marked}
use Rattle.inode_tree.proofs.Ups.{step-from}
use Rattle.inode_tree.proofs.ZoneLemmas.{zone-found, zone-climb, live-parent, zone-root, below-live}
use Rattle.inode_tree.specs.declared.rows.Link.{Link}
use Rattle.inode_tree.specs.declared.rows.Node.{Node}
use Rattle.inode_tree.specs.declared.rows.Row.{Row}
use Rattle.inode_tree.specs.Rows.{Entry}
use Rattle.inode_tree.proofs.zones.zone_above.Goals as goal

pub row-row-requires : goal.row-row-requires
row-row-requires c = let h = below-live c.args.nodes.now.items c.args.order.now.items c.requires.tree.0 c.climb.m c.requires.tree.1 c.climb.invariant.live in omega arith

pub link-requires : goal.link-requires
link-requires c = let h = below-live c.args.nodes.now.items c.args.order.now.items c.requires.tree.0 c.climb.m c.requires.tree.1 c.climb.invariant.live in omega arith

ended : (ns : List Node) (order : List ℕ) (ids : ℕ → Option ℕ) (n m : ℕ) (x : Row) → IsTree ns order ids → IsLive order m → zone_of (rows_of ns order) (path_of ns n) ≡ zone_of (rows_of ns order) (path_of ns m) → x ≡ (node_at ns m).row → is_marked x ≡ true → Some x.id ≡ zone_id (rows_of ns order) (path_of ns n)
ended ns order ids n m x t w e ex h =
    sym (ap (option_map (λ (z : Entry). z.row.id)) (e ∙ zone-found ns order ids m t w (ap is_marked (sym ex) ∙ h)) ∙ ap (λ (z : Row). Some z.id) (sym ex))

pub returns-then-marked : goal.returns-then-marked
returns-then-marked c = ended c.args.nodes.now.items c.args.order.now.items c.requires.tree.0 c.args.n c.climb.m c.row-row.result.now c.requires.tree.1 c.climb.invariant.live c.climb.invariant.same c.row-row.ensures (sym c.if-marked.ensures)

pub climb-smaller : goal.climb-smaller
climb-smaller c =
    let h = below-live c.args.nodes.now.items c.args.order.now.items c.requires.tree.0 c.climb.m c.requires.tree.1 c.climb.invariant.live in
    let step = step-from c.args.nodes.now.items c.requires.tree.1.linked c.climb.m c.link.result.now h c.climb-test.true c.link.ensures in omega arith

pub climb-preserved : goal.climb-preserved
climb-preserved c =
    record {
      live = subst (λ (x : Link). IsLive c.args.order.now.items x.parent) (sym c.link.ensures) (live-parent c.args.nodes.now.items c.args.order.now.items c.requires.tree.0 c.climb.m c.requires.tree.1 c.climb.invariant.live);
      same = c.climb.invariant.same ∙ zone-climb c.args.nodes.now.items c.args.order.now.items c.requires.tree.0 c.climb.m c.requires.tree.1 c.climb.invariant.live c.climb-test.true (ap is_marked (sym c.row-row.ensures) ∙ sym c.if-marked.ensures)
          ∙ ap (λ (x : Link). zone_of (rows_of c.args.nodes.now.items c.args.order.now.items) (path_of c.args.nodes.now.items x.parent)) (sym c.link.ensures);
    }

pub returns-then-marked-2 : goal.returns-then-marked-2
returns-then-marked-2 c = ended c.args.nodes.now.items c.args.order.now.items c.requires.tree.0 c.args.n 0 c.row-row-2.result.now c.requires.tree.1 c.requires.tree.1.rooted (c.climb.invariant.same ∙ ap (λ (m : ℕ). zone_of (rows_of c.args.nodes.now.items c.args.order.now.items) (path_of c.args.nodes.now.items m)) c.climb-test.false) c.row-row-2.ensures (sym c.if-marked-2.ensures)

pub returns : goal.returns
returns c =
    sym (ap (option_map (λ (z : Entry). z.row.id)) (c.climb.invariant.same ∙ ap (λ (m : ℕ). zone_of (rows_of c.args.nodes.now.items c.args.order.now.items) (path_of c.args.nodes.now.items m)) c.climb-test.false
    ∙ zone-root c.args.nodes.now.items c.args.order.now.items c.requires.tree.0 c.requires.tree.1 (ap is_marked (sym c.row-row-2.ensures) ∙ sym c.if-marked-2.ensures)))
