-- Names of keys in the order of their bytes.
use Rattle.std.specs.Prelude.{List, [], ◌∷◌, map}
use Rattle.std.specs.declared.cmp.Ordering.{Ordering}
use Rattle.std.specs.declared.cmp.Ordering.TheVariants.{Less, Equal, Greater}
use Rattle.hk_base.specs.declared.names.KeyName.{KeyName}
use Rattle.key_rows.specs.declared.rows.KeyRow.{KeyRow}
use Rattle.key_rows.specs.Names.{name_cmp}

-- the name before the others, or in place of an equal one, or within `rest`, which is the later names with it
abbrev pub put_by : Ordering → KeyName → KeyName → List KeyName → List KeyName → List KeyName
put_by Less name other others rest = name ∷ other ∷ others
put_by Equal name other others rest = other ∷ others
put_by Greater name other others rest = other ∷ rest

-- the names with one more, at its place
abbrev pub put_name : KeyName → List KeyName → List KeyName
put_name name [] = name ∷ []
put_name name (other ∷ others) = put_by (name_cmp name other) name other others (put_name name others)

abbrev pub in_order : List KeyName → List KeyName
in_order [] = []
in_order (name ∷ names) = put_name name (in_order names)

-- the names of the keys in order
abbrev pub names_in_order : List KeyRow → List KeyName
names_in_order rows = in_order (map (λ row. row.name) rows)
