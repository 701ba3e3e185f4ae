use Rattle.std.proofs.Common.{◌∙◌, ap}
use Rattle.zone_table.specs.Zones.{ZoneState}
use Rattle.zone_table.proofs.Tables.{table-same}
use Rattle.zone_table.proofs.zones.Zones.reserve_add.Goals as goal

pub returns-clause-same : goal.returns-clause-same
returns-clause-same c = table-same c.self.inside.keys c.reserve.new.self c.self.invariant c.reserve.ensures.unique c.reserve.ensures.entries.2 ∙ ap (λ (zones : ZoneState). zones.rows) c.self.view_is
