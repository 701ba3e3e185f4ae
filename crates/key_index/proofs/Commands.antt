-- When a command applies, and what it then asks of the rows.
use Rattle.std.proofs.Common.{◌≡◌, ◌≢◌, ℕ, ◌<◌, ◌/◌, Bool, true, false, cond, ◌&&◌, ◌==◌, nat_lt, List, [], ◌∷◌, length, find, Option, None, Some, option_map, is_none, is_some, IfSome, refl, ap, sym, ◌∙◌, arith}
use Rattle.std.specs.List.{AllByRecursion}
use Rattle.std.specs.Option.{option_map_or}
use Rattle.std.proofs.lemmas.List.{length-map}
use Rattle.std.proofs.lemmas.Bool.Decides.{Decides-eqb}
use Rattle.std.proofs.lemmas.Bool.{and_parts}
use Rattle.key_rows.specs.declared.rows.KeyRow.{KeyRow}
use Rattle.key_rows.specs.declared.rows.KeyCommand.{KeyCommand}
use Rattle.key_rows.specs.declared.rows.KeyCommand.TheVariants.{Opened, Create, Roll, Delete}
use Rattle.key_rows.specs.Table.{applies, find_name, is_born as is_born_row, is_length, may_roll, opening_of}
use Rattle.key_rows.specs.Sound.{AreRowsRising}
use Rattle.key_rows.proofs.Births.{found_has, none_born}
use Rattle.key_index.specs.declared.rows.PlacedRow.{PlacedRow}
use Rattle.key_index.specs.Index.{Index, Materials, applies_at, is_born, is_named, may_roll_at, newest, row_of, rows_of, table_of}
use Rattle.key_index.specs.Sound.{IsPlacedRow, IsSoundIndex}
use Rattle.key_index.proofs.Searches.{born_in, named_in, nothing}
use Rattle.key_index.proofs.Standing.{Fits, Rolls, versions_of}

none_mapped : (m : Materials) (f : Option PlacedRow) → is_none (option_map (λ placed. row_of m placed.row) f) ≡ is_none f
none_mapped m None = refl
none_mapped m (Some placed) = refl

some_mapped : (m : Materials) (f : Option PlacedRow) → is_some (option_map (λ placed. row_of m placed.row) f) ≡ is_some f
some_mapped m None = refl
some_mapped m (Some placed) = refl

pub no_name : (m : Materials) (rows : List PlacedRow) (name : List ℕ) → is_none (find_name (rows_of m rows) name) ≡ is_none (find (is_named name) rows)
no_name m rows name = ap is_none (named_in m rows name) ∙ none_mapped m (find (is_named name) rows)

roll_mapped : (m : Materials) (f : Option PlacedRow) (number : ℕ) (material : List ℕ) → IfSome f IsPlacedRow → may_roll (option_map (λ placed. row_of m placed.row) f) number material ≡ may_roll_at f number material
roll_mapped m None number material is = refl
roll_mapped m (Some placed) number material is =
    ap (λ (n : ℕ). number == n && nat_lt number 65535 && length material == placed.row.bits / 8) (versions_of m placed.row (omega (arith, is.row.some)))

-- a command applies to the table whatever the materials
pub applies_is : (m : Materials) (x : Index) (command : KeyCommand) → IsSoundIndex x → applies (table_of m x) command ≡ applies_at x command
applies_is m x (Opened opening) is = refl
applies_is m x (Create birth name bits description created material) is = λ i.
    nat_lt 0 x.opening && no_name m x.rows name i && opening_of birth == x.opening && nat_lt x.greatest birth && nat_lt (length-map x.rows (λ (placed : PlacedRow). row_of m placed.row) i) 10000 && is_length bits && length material == bits / 8
applies_is m x (Roll birth number material) is =
    ap (λ (b : Bool). nat_lt 0 x.opening && b)
    (ap (λ (o : Option KeyRow). may_roll o number material) (born_in m x.rows birth) ∙ roll_mapped m (find (is_born birth) x.rows) number material (found_has IsPlacedRow (is_born birth) x.rows is.rows))
applies_is m x (Delete birth) is = ap (λ (b : Bool). nat_lt 0 x.opening && b) (ap is_some (born_in m x.rows birth) ∙ some_mapped m (find (is_born birth) x.rows))

-- what a roll that may be made says of the row
pub record RollsRow (placed : PlacedRow) (number : ℕ) (material : List ℕ) : Type 0 where
  pub count : placed.row.versions ≡ number
  pub below : number < 65535
  pub long : length material ≡ placed.row.bits / 8

pub roll_says : (placed : PlacedRow) (number : ℕ) (material : List ℕ) → may_roll_at (Some placed) number material ≡ true → RollsRow placed number material
roll_says placed number material may =
    let a = and_parts (number == placed.row.versions && nat_lt number 65535) (length material == placed.row.bits / 8) may in
    let b = and_parts (number == placed.row.versions) (nat_lt number 65535) a.0 in
    record { count = sym ((Decides-eqb number placed.row.versions).0 b.0); below = grind (arith, b.1); long = (Decides-eqb (length material) (placed.row.bits / 8)).0 a.1 }

pub not_born : (birth : ℕ) (placed : PlacedRow) → is_born birth placed ≡ false → placed.row.birth ≢ birth
not_born birth placed other same = let born : is_born birth placed ≡ true = (Decides-eqb placed.row.birth birth).1 same in absurd cc

others_roll : (m : Materials) (birth number : ℕ) (material current : List ℕ) (rows : List PlacedRow) → AllByRecursion IsPlacedRow rows → AllByRecursion (λ (row : KeyRow). is_born_row birth row ≡ false) (rows_of m rows)
    → AllByRecursion (Rolls birth number material current) rows
others_roll m birth number material current [] are none = tt
others_roll m birth number material current (placed ∷ rows) are none = (
  record { some = omega (arith, are.0.row.some); its = λ same. absurd (not_born birth placed none.0 same); long = λ same. absurd (not_born birth placed none.0 same) },
  others_roll m birth number material current rows are.1 none.1,
)

module _ (m : Materials) where
  fits_rows : (low birth number : ℕ) (material : List ℕ) (rows : List PlacedRow) (top : ℕ) → AreRowsRising low (rows_of m rows) top → AllByRecursion IsPlacedRow rows → may_roll_at (find (is_born birth) rows) number material ≡ true
      → AllByRecursion (Rolls birth number material (newest birth rows)) rows
  fits_rows low birth number material [] top rising are may = tt
  fits_rows low birth number material (placed ∷ rest) top rising are may =
      let P : Bool → Type 0 = λ b. is_born birth placed ≡ b → may_roll_at (cond b (Some placed) (find (is_born birth) rest)) number material ≡ true
      → AllByRecursion (Rolls birth number material (option_map_or (λ (p : PlacedRow). p.row.current) (cond b (Some placed) (find (is_born birth) rest)) [])) (placed ∷ rest) in
      let cases : P (is_born birth placed) = elim (is_born birth placed) as P [
        | true ↦ λ e h.
            let same : placed.row.birth ≡ birth = (Decides-eqb placed.row.birth birth).0 e in (
              record { some = omega (arith, are.0.row.some); its = λ born. ((roll_says placed number material h).count, refl); long = λ born. (roll_says placed number material h).long },
              others_roll m birth number material placed.row.current rest are.1 (none_born placed.row.birth birth (rows_of m rest) top (omega arith) rising.1),
            )
        | false ↦ λ e h.
            (record { some = omega (arith, are.0.row.some); its = λ born. absurd (not_born birth placed e born); long = λ born. absurd (not_born birth placed e born) }, fits_rows placed.row.birth birth number material rest top rising.1 are.1 h)
      ] in
      cases refl may

-- a command that applies fits the rows
pub fits_applying : (x : Index) (command : KeyCommand) → IsSoundIndex x → applies_at x command ≡ true → Fits x command
fits_applying x (Opened opening) is may = tt
fits_applying x (Create birth name bits description created material) is may = tt
fits_applying x (Roll birth number material) is may =
    fits_rows nothing 0 birth number material x.rows x.greatest (is.births nothing) is.rows (and_parts (nat_lt 0 x.opening) (may_roll_at (find (is_born birth) x.rows) number material) may).1
fits_applying x (Delete birth) is may = tt
