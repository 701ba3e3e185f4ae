use Rattle.std.proofs.Common.{◌≡◌, ◌++◌, take}
use Rattle.std.specs.List.{flat_map}
use Rattle.std.specs.String.{string_bytes}
use Rattle.name_text.specs.Answers.{zone_part}
use Rattle.name_text.proofs.answers.write_zones.Given as goal

abbrev pub invariant-zones : goal.invariant-zones
invariant-zones l = string_bytes l.out ≡ string_bytes l.fn.out ++ flat_map zone_part (take l.zone-index l.zones)
