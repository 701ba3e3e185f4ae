use Rattle.std.proofs.Common.{◌∙◌, ap}
use Rattle.zone_table.specs.Zones.{ZoneState, without_zone}
use Rattle.zone_table.proofs.Tables.{table-without}
use Rattle.zone_table.proofs.zones.Zones.remove.Goals as goal

pub returns : goal.returns
returns c =
    table-without c.self.inside.keys c.remove.new.self c.self.invariant c.remove.ensures.unique c.args.dir c.remove.ensures.updates.0
    ∙ ap (λ (zones : ZoneState). without_zone zones.rows c.args.dir) c.self.view_is
