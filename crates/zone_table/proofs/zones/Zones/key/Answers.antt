use Rattle.std.proofs.Common.{◌≡◌, ◌∙◌, ℕ, List, Option, None, Some, refl, ap, sym}
use Rattle.std.specs.Bool.{nat_eq}
use Rattle.std.specs.List.{IsDistinct}
use Rattle.std.specs.Map.{keys_of, lookup}
use Rattle.std.specs.Option.{option_map}
use Rattle.hk_base.specs.declared.names.KeyName.{KeyName}
use Rattle.zone_table.specs.declared.zones.ZoneRow.{ZoneRow}
use Rattle.zone_table.specs.Zones.{ZoneState, by_directory, zone_row}
use Rattle.zone_table.proofs.Tables.{row-entries, row_of}
use Rattle.zone_table.proofs.zones.Zones.key.Goals as goal

key_of : Option ZoneRow → Option KeyName
key_of row = option_map (λ (r : ZoneRow). r.key) row

key-kept : (dir : ℕ) (o : Option KeyName) → o ≡ key_of (row_of dir o)
unfolding key_of
key-kept dir None = refl
key-kept dir (Some key) = refl

found : (state : ZoneState) (es : List (ℕ × KeyName)) (spare dir : ℕ) (o : Option KeyName) → IsDistinct nat_eq (keys_of es) → record { rows = by_directory es; spare = spare } ≡ state → o ≡ lookup (nat_eq dir) es → o ≡ key_of (zone_row state.rows dir)
unfolding key_of
found state es spare dir o d v e = key-kept dir o ∙ ap (λ (p : Option KeyName). key_of (row_of dir p)) e ∙ sym (ap key_of (row-entries es dir d)) ∙ ap (λ (s : ZoneState). key_of (zone_row s.rows dir)) v

pub returns-in-Some : goal.returns-in-Some
unfolding key_of
returns-in-Some c = found _ c.self.inside.keys.entries _ c.args.dir _ c.self.invariant c.self.view_is c.in-Some.ensures.value

pub returns-in-None : goal.returns-in-None
unfolding key_of
returns-in-None c = found _ c.self.inside.keys.entries _ c.args.dir _ c.self.invariant c.self.view_is c.in-None.ensures.value
