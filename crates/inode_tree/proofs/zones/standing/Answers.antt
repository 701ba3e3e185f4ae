use Rattle.std.proofs.Common.{◌≡◌, ◌∙◌, ℕ, Option, ap, sym, arith, take}
use Rattle.std.specs.Option.{option_map}
use Rattle.inode_tree.specs.Arena.{rows_of}
use Rattle.inode_tree.specs.Rows.{Entry, zone_id}
use Rattle.inode_tree.proofs.Seeks.{number-live}
use Rattle.inode_tree.proofs.ZoneLemmas.{zone-shorter}
use Rattle.inode_tree.proofs.zones.standing.Goals as goal

id-of : Option Entry → Option ℕ
id-of = option_map (λ (e : Entry). e.row.id)

pub returns-in-Some-clause-live : goal.returns-in-Some-clause-live
returns-in-Some-clause-live c = let w = number-live c.args.nodes.now.items c.args.order.now.items (take c.shorten.upto c.args.path.now) c.in-Some.n (sym c.in-Some.ensures) in (w.0, w.1, w.2)

pub returns-in-Some-clause-zone : goal.returns-in-Some-clause-zone
unfolding id-of
returns-in-Some-clause-zone c =
    let w = number-live c.args.nodes.now.items c.args.order.now.items (take c.shorten.upto c.args.path.now) c.in-Some.n (sym c.in-Some.ensures) in
    ap (zone_id (rows_of c.args.nodes.now.items c.args.order.now.items)) w.3 ∙ ap id-of c.shorten.invariant.zone

pub shorten-preserved : goal.shorten-preserved
shorten-preserved c =
    let most = c.shorten.invariant.upto in
    record {
      least = let l = c.shorten.invariant.least in let t = c.shorten-test.true in omega arith;
      upto = omega arith;
      zone = zone-shorter c.args.nodes.now.items c.args.order.now.items c.args.path.now c.shorten.upto (let t = c.shorten-test.true in omega arith) most (sym c.in-None.ensures) ∙ c.shorten.invariant.zone;
    }

pub returns-clause-zone : goal.returns-clause-zone
unfolding id-of
returns-clause-zone c =
    let last : c.follow-near.result.depth ≡ c.shorten.upto = let l = c.shorten.invariant.least in let t = c.shorten-test.false in omega arith in
    ap (zone_id (rows_of c.args.nodes.now.items c.args.order.now.items)) c.follow-near.ensures.near.path
    ∙ ap (λ (n : ℕ). zone_id (rows_of c.args.nodes.now.items c.args.order.now.items) (take n c.args.path.now)) last
    ∙ ap id-of c.shorten.invariant.zone
