-- The names of the keys in order, and their births.
use Rattle.std.specs.Prelude.{◌≡◌, ℕ, Bool, List, [], ◌∷◌, map, option_map, Option, Some, None, is_some, bytes_eq, if◌then◌else◌}
use Rattle.std.specs.List.{AllByRecursion, list_any}
use Rattle.std.specs.Ordering.{nat_cmp}
use Rattle.std.specs.Cmp.Lexicographic.{slice_cmp}
use Rattle.std.specs.declared.cmp.Ordering.{Ordering}
use Rattle.std.specs.declared.cmp.Ordering.TheVariants.{Less}
use Rattle.hk_base.specs.declared.names.KeyName.{KeyName}
use Rattle.key_rows.specs.declared.rows.KeyRow.{KeyRow}
use Rattle.key_rows.specs.declared.by_name.NamedBirth.{NamedBirth}
use Rattle.key_rows.specs.Table.{find_name}

-- names compare byte by byte
abbrev pub name_cmp : KeyName → KeyName → Ordering
name_cmp = slice_cmp nat_cmp

-- each name comes before the later ones
abbrev pub AreInNameOrder : List KeyName → Type 0
AreInNameOrder [] = Unit {0}
AreInNameOrder (name ∷ names) = AllByRecursion (λ (other : KeyName). name_cmp name other ≡ Less) names × AreInNameOrder names

abbrev pub is_among : KeyName → List KeyName → Bool
is_among name names = list_any (λ other. bytes_eq other name) names

-- the names of the keys, each once and in order
pub record AreNames (rows : List KeyRow) (names : List KeyName) : Type 0 where
  pub order : AreInNameOrder names
  pub among : (name : KeyName) → is_among name names ≡ is_some (find_name rows name)

abbrev pub names_of : List NamedBirth → List KeyName
names_of entries = map (λ entry. entry.name) entries

-- the birth of a name
abbrev pub birth_in : List NamedBirth → KeyName → Option ℕ
birth_in [] name = None
birth_in (entry ∷ entries) name = if bytes_eq entry.name name then Some entry.birth else birth_in entries name

-- the names of the keys in order, each with its key's birth
pub record IsIndex (rows : List KeyRow) (entries : List NamedBirth) : Type 0 where
  pub order : AreInNameOrder (names_of entries)
  pub births : (name : KeyName) → birth_in entries name ≡ option_map (λ row. row.birth) (find_name rows name)
