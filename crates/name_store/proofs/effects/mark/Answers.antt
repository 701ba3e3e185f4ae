use Rattle.std.proofs.Common.{◌∙◌, sym, ap}
use Rattle.zone_table.specs.Zones.{put_zone, zone_row}
use Rattle.name_store.proofs.RowLemmas.{directory-of, zone-made}
use Rattle.name_store.proofs.effects.mark.Goals as goal

pub add-requires : goal.add-requires
add-requires c =
    ap (λ zones. zone_row zones c.in-Some.row.id) c.requires.zones
    ∙ (zone-made c.args.tree.now.rows c.args.path.now c.in-Some.row c.requires.allowed (sym c.in-Some.ensures) c.args.key c.rows.ensures.rules c.zones_are_the_marks.ensures.marked).1

pub set_key-requires : goal.set_key-requires
set_key-requires c = directory-of c.args.tree.now.rows c.args.path.now c.in-Some.row c.requires.allowed (sym c.in-Some.ensures) c.rows.ensures.rules

pub returns-clause-zones : goal.returns-clause-zones
returns-clause-zones c =
    let made = zone-made c.args.tree.now.rows c.args.path.now c.in-Some.row c.requires.allowed (sym c.in-Some.ensures) c.args.key c.rows.ensures.rules c.zones_are_the_marks.ensures.marked in
    rw c.set_key.ensures (c.in_ok-add-in-Some.ensures.ok ∙ ap (put_zone (record { dir = c.in-Some.row.id; key = c.args.key })) c.requires.zones ∙ sym made.0)
