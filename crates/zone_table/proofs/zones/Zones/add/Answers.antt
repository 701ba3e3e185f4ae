use Rattle.std.proofs.Common.{◌∙◌, ap}
use Rattle.zone_table.specs.Zones.{ZoneState, put_zone, zone_row}
use Rattle.zone_table.proofs.Tables.{table-put}
use Rattle.zone_table.proofs.zones.Zones.add.Goals as goal

pub returns-clause-ok : goal.returns-clause-ok
returns-clause-ok c =
    table-put c.self.inside.keys c.insert.new.self c.self.invariant c.insert.ensures.unique c.args.dir c.args.key (ap (λ (zones : ZoneState). zone_row zones.rows c.args.dir) c.self.view_is ∙ c.requires) c.in_ok-insert.ensures.updates.0
    ∙ ap (λ (zones : ZoneState). put_zone (record { dir = c.args.dir; key = c.args.key }) zones.rows) c.self.view_is
