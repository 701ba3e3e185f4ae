-- A command that applies keeps the properties of a table.
use Rattle.std.proofs.Common.{◌≡◌, ℕ, ◌/◌, ◌<◌, ◌^◌, List, [], ◌∷◌, length, Bool, true, not, ◌&&◌, ◌==◌, nat_lt, is_none, Option, None, Some, IfSome, sym, subst, arith, length-append}
use Rattle.std.specs.Option.{option_copied}
use Rattle.std.proofs.Common.{Bor}
use Rattle.std.proofs.lemmas.Bool.Decides.{Decides-eqb}
use Rattle.std.proofs.lemmas.Bool.{and_parts}
use Rattle.key_rows.specs.declared.rows.KeyRow.{KeyRow}
use Rattle.key_rows.specs.declared.rows.KeyCommand.TheVariants.{Create, Roll, Delete}
use Rattle.key_rows.specs.Table.{Table, applies, after, is_born, is_named, is_length, opening_of, find_name, find_birth, may_roll}
use Rattle.key_rows.specs.Sound.{IsKeyTable, IsRow}
use Rattle.key_rows.proofs.Births.{each_more, each_filter, length-filter_le, found_has, rising_more, rising_filter, by_birth, other_names, names_more, names_filter}
use Rattle.key_rows.proofs.Rolls.{rising_rolled, names_rolled, rows_rolled, length-rolled}

pub sound_create : (t : Table) (birth : ℕ) (name : List ℕ) (bits : ℕ) (description : List ℕ) (created : ℕ) (material : List ℕ) → IsKeyTable t
    → applies t (Create birth name bits description created material) ≡ true → IsKeyTable (after t (Create birth name bits description created material))
sound_create t birth name bits description created material is may =
    let g = and_parts (nat_lt 0 t.opening && is_none (find_name t.rows name) && opening_of birth == t.opening && nat_lt t.greatest birth && nat_lt (length t.rows) 10000 && is_length bits) (length material == bits / 8) may in
    let f = and_parts (nat_lt 0 t.opening && is_none (find_name t.rows name) && opening_of birth == t.opening && nat_lt t.greatest birth && nat_lt (length t.rows) 10000) (is_length bits) g.0 in
    let e = and_parts (nat_lt 0 t.opening && is_none (find_name t.rows name) && opening_of birth == t.opening && nat_lt t.greatest birth) (nat_lt (length t.rows) 10000) f.0 in
    let d = and_parts (nat_lt 0 t.opening && is_none (find_name t.rows name) && opening_of birth == t.opening) (nat_lt t.greatest birth) e.0 in
    let c = and_parts (nat_lt 0 t.opening && is_none (find_name t.rows name)) (opening_of birth == t.opening) d.0 in
    let b = and_parts (nat_lt 0 t.opening) (is_none (find_name t.rows name)) c.0 in
    let long : length material ≡ bits / 8 = (Decides-eqb (length material) (bits / 8)).0 g.1 in
    let few : length t.rows < 10000 = grind (arith, e.1) in
    let above : t.greatest < birth = grind (arith, d.1) in
    let here : birth / 2 ^ 32 ≡ t.opening = (Decides-eqb (opening_of birth) t.opening).0 c.1 in
    let opened : 0 < t.opening = grind (arith, b.0) in
    let row : KeyRow = record { name = name; birth = birth; bits = bits; materials = material ∷ []; description = description; created = created } in
    record {
      opening = is.opening;
      few = omega (arith, length-append t.rows (row ∷ []), few);
      births = rising_more 0 t.rows t.greatest row is.births above;
      names = names_more t.rows row is.names (other_names name t.rows b.1);
      rows = each_more IsRow t.rows row is.rows (record { born = omega (arith, here, opened); bits = f.1; some = omega arith; few = omega arith; materials = (long, tt) });
    }

-- no key has the name that is created
pub is_absent : (t : Table) (birth : ℕ) (name : List ℕ) (bits : ℕ) (description : List ℕ) (created : ℕ) (material : List ℕ) → applies t (Create birth name bits description created material) ≡ true → is_none (find_name t.rows name) ≡ true
is_absent t birth name bits description created material may =
    let g = and_parts (nat_lt 0 t.opening && is_none (find_name t.rows name) && opening_of birth == t.opening && nat_lt t.greatest birth && nat_lt (length t.rows) 10000 && is_length bits) (length material == bits / 8) may in
    let f = and_parts (nat_lt 0 t.opening && is_none (find_name t.rows name) && opening_of birth == t.opening && nat_lt t.greatest birth && nat_lt (length t.rows) 10000) (is_length bits) g.0 in
    let e = and_parts (nat_lt 0 t.opening && is_none (find_name t.rows name) && opening_of birth == t.opening && nat_lt t.greatest birth) (nat_lt (length t.rows) 10000) f.0 in
    let d = and_parts (nat_lt 0 t.opening && is_none (find_name t.rows name) && opening_of birth == t.opening) (nat_lt t.greatest birth) e.0 in
    let c = and_parts (nat_lt 0 t.opening && is_none (find_name t.rows name)) (opening_of birth == t.opening) d.0 in
    (and_parts (nat_lt 0 t.opening) (is_none (find_name t.rows name)) c.0).1

pub sound_roll : (t : Table) (birth number : ℕ) (material : List ℕ) → IsKeyTable t → applies t (Roll birth number material) ≡ true → IsKeyTable (after t (Roll birth number material))
sound_roll t birth number material is may =
    let a = and_parts (nat_lt 0 t.opening) (may_roll (find_birth t.rows birth) number material) may in
    record {
      opening = is.opening;
      few = omega (arith, length-rolled birth material t.rows, is.few);
      births = rising_rolled 0 birth material t.rows t.greatest is.births;
      names = names_rolled birth material t.rows is.names;
      rows = rows_rolled 0 birth number material t.rows t.greatest is.births a.1 is.rows;
    }

pub sound_delete : (t : Table) (birth : ℕ) → IsKeyTable t → IsKeyTable (after t (Delete birth))
sound_delete t birth is =
    let p : KeyRow → Bool = λ row. not (is_born birth row) in
    record {
      opening = is.opening;
      few = omega (arith, length-filter_le p t.rows, is.few);
      births = rising_filter 0 p t.rows t.greatest is.births;
      names = names_filter p t.rows is.names;
      rows = each_filter IsRow p t.rows is.rows;
    }

-- a row that is found is a key
pub found_row : (t : Table) (name : List ℕ) → IsKeyTable t → IfSome (find_name t.rows name) IsRow
found_row t name is = found_has IsRow (is_named name) t.rows is.rows

-- a row that is found has its birth alone
pub found_birth : (t : Table) (name : List ℕ) → IsKeyTable t → IfSome (find_name t.rows name) (λ row. find_birth t.rows row.birth ≡ Some row)
found_birth t name is = by_birth 0 (is_named name) t.rows t.greatest is.births

pub copied_row : (P : KeyRow → Type 0) (found : Option (Bor KeyRow)) (o : Option KeyRow) → option_copied found ≡ o → IfSome o P → IfSome found (λ row. P row.now)
copied_row P None o is row = tt
copied_row P (Some r) o is row = subst (λ (x : Option KeyRow). IfSome x P) (sym is) row
