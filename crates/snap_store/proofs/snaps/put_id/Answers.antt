use Rattle.std.proofs.Common.{◌∙◌, sym, subst}
use Rattle.std.specs.Ordering.{nat_cmp}
use Rattle.snap_store.specs.Ordered.{IsRisingBy}
use Rattle.snap_store.proofs.Kept.{id-put}
use Rattle.snap_store.proofs.Taken.{id-parted}
use Rattle.snap_store.proofs.snaps.put_id.Goals as goal

pub returns-in_ok-insert-in-None-clause-rising : goal.returns-in_ok-insert-in-None-clause-rising
returns-in_ok-insert-in-None-clause-rising c =
    subst (IsRisingBy nat_cmp) (sym c.in_ok-insert-in-None.ensures.items)
    (id-put c.args.ids.now.items c.args.id c.place_id-at.result c.requires (sym c.in-None.ensures.found) c.place_id-at.ensures.most (id-parted c.args.ids.now.items c.args.id c.place_id-at.result c.requires c.place_id-at.ensures.parted)).1

pub returns-in_ok-insert-in-None-clause-ok : goal.returns-in_ok-insert-in-None-clause-ok
returns-in_ok-insert-in-None-clause-ok c =
    c.in_ok-insert-in-None.ensures.items
    ∙ (id-put c.args.ids.now.items c.args.id c.place_id-at.result c.requires (sym c.in-None.ensures.found) c.place_id-at.ensures.most (id-parted c.args.ids.now.items c.args.id c.place_id-at.result c.requires c.place_id-at.ensures.parted)).0
