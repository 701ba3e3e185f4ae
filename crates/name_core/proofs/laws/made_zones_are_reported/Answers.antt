use Rattle.name_core.proofs.ZoneLaws.{zone_is_reported}
use Rattle.name_core.proofs.laws.made_zones_are_reported.Goals as goal

pub returns : goal.returns
returns c = zone_is_reported
