-- A command that applies keeps the properties of an index.
use Rattle.std.proofs.Common.{◌≡◌, ◌≢◌, ℕ, ◌+◌, ◌<◌, ◌≤◌, ◌/◌, ◌^◌, Bool, true, false, not, cond, ◌&&◌, ◌==◌, nat_lt, List, [], ◌∷◌, ◌++◌, length, map, find, Option, None, Some, is_none, IfSome, refl, ap, sym, ◌∙◌, subst, arith, length-append}
use Rattle.std.specs.Prelude.{filter, bytes_eq}
use Rattle.std.specs.List.{AllByRecursion}
use Rattle.std.proofs.lemmas.List.{length-map}
use Rattle.std.proofs.lemmas.Bool.Decides.{Decides-eqb}
use Rattle.std.proofs.lemmas.Bool.{and_parts}
use Rattle.key_rows.specs.declared.rows.KeyRow.{KeyRow}
use Rattle.key_rows.specs.declared.by_name.NamedBirth.{NamedBirth}
use Rattle.key_rows.specs.Table.{find_name, is_born as is_born_row, is_length, opening_of, rolled}
use Rattle.key_rows.specs.Names.{IsIndex, AreInNameOrder, birth_in, names_of}
use Rattle.key_rows.specs.Sound.{AreRowsRising, IsKeyTable, IsRow, NamesOnce}
use Rattle.key_rows.proofs.Births.{each_filter, each_more, found_has, length-filter_le, names_filter, names_more, other_names, rising_filter, rising_more}
use Rattle.key_rows.proofs.Orders.{absent_there, index_left, index_more, index_rolled}
use Rattle.key_rows.proofs.Rolls.{names_rolled, rising_rolled}
use Rattle.key_index.specs.declared.rows.IndexRow.{IndexRow}
use Rattle.key_index.specs.declared.rows.PlacedRow.{PlacedRow}
use Rattle.key_index.specs.Index.{Index, Materials, is_born, is_named, may_create_at, may_roll_at, newest, rolled_at, row_of, rows_of, table_of, with_row, with_version}
use Rattle.key_index.specs.Sound.{AllSized, AreNamed, IsPlacedRow, IsSoundIndex}
use Rattle.key_index.proofs.Commands.{fits_applying, no_name, roll_says}
use Rattle.key_index.proofs.Searches.{birth_of_name, nothing, rest_of, rolled_nowhere}
use Rattle.key_index.proofs.Standing.{rows_left, rows_more, rows_roll, next, versions_of}
use Rattle.key_rows.specs.declared.rows.KeyCommand.TheVariants.{Roll}

-- births and names are the same whatever the materials

rising_any : (m k : Materials) (low : ℕ) (rows : List PlacedRow) (top : ℕ) → AreRowsRising low (rows_of m rows) top → AreRowsRising low (rows_of k rows) top
rising_any m k low [] top rising = rising
rising_any m k low (placed ∷ rows) top rising = (rising.0, rising_any m k placed.row.birth rows top rising.1)

others_any : (m k : Materials) (name : List ℕ) (rows : List PlacedRow) → AllByRecursion (λ (other : KeyRow). other.name ≢ name) (rows_of m rows) → AllByRecursion (λ (other : KeyRow). other.name ≢ name) (rows_of k rows)
others_any m k name [] others = tt
others_any m k name (placed ∷ rows) others = (others.0, others_any m k name rows others.1)

names_any : (m k : Materials) (rows : List PlacedRow) → NamesOnce (rows_of m rows) → NamesOnce (rows_of k rows)
names_any m k [] once = tt
names_any m k (placed ∷ rows) once = (others_any m k placed.row.name rows once.0, names_any m k rows once.1)

index_any : (m k : Materials) (rows : List PlacedRow) (entries : List NamedBirth) → IsIndex (rows_of m rows) entries → IsIndex (rows_of k rows) entries
index_any m k rows entries index = record { order = index.order; births = λ name. index.births name ∙ birth_of_name m rows name ∙ sym (birth_of_name k rows name) }

-- a created key

pub record MayCreate (x : Index) (name : List ℕ) (birth bits : ℕ) (material : List ℕ) : Type 0 where
  pub opened : 0 < x.opening
  pub absent : is_none (find (is_named name) x.rows) ≡ true
  pub present : birth / 2 ^ 32 ≡ x.opening
  pub above : x.greatest < birth
  pub few : length x.rows < 10000
  pub valid : is_length bits ≡ true
  pub long : length material ≡ bits / 8

pub create_says : (x : Index) (name : List ℕ) (birth bits : ℕ) (material : List ℕ) → may_create_at x name birth bits material ≡ true → MayCreate x name birth bits material
create_says x name birth bits material may =
    let a = and_parts (nat_lt 0 x.opening && is_none (find (is_named name) x.rows) && opening_of birth == x.opening && nat_lt x.greatest birth && nat_lt (length x.rows) 10000 && is_length bits) (length material == bits / 8) may in
    let b = and_parts (nat_lt 0 x.opening && is_none (find (is_named name) x.rows) && opening_of birth == x.opening && nat_lt x.greatest birth && nat_lt (length x.rows) 10000) (is_length bits) a.0 in
    let c = and_parts (nat_lt 0 x.opening && is_none (find (is_named name) x.rows) && opening_of birth == x.opening && nat_lt x.greatest birth) (nat_lt (length x.rows) 10000) b.0 in
    let d = and_parts (nat_lt 0 x.opening && is_none (find (is_named name) x.rows) && opening_of birth == x.opening) (nat_lt x.greatest birth) c.0 in
    let e = and_parts (nat_lt 0 x.opening && is_none (find (is_named name) x.rows)) (opening_of birth == x.opening) d.0 in
    let f = and_parts (nat_lt 0 x.opening) (is_none (find (is_named name) x.rows)) e.0 in
    record {
      opened = grind (arith, f.0);
      absent = f.1;
      present = (Decides-eqb (opening_of birth) x.opening).0 e.1;
      above = grind (arith, d.1);
      few = grind (arith, c.1);
      valid = b.1;
      long = (Decides-eqb (length material) (bits / 8)).0 a.1;
    }

absent_row : (m : Materials) (x : Index) (name : List ℕ) → is_none (find (is_named name) x.rows) ≡ true → is_none (find_name (rows_of m x.rows) name) ≡ true
absent_row m x name absent = no_name m x.rows name ∙ absent

pub absent_entry : (x : Index) (entries : List NamedBirth) (name : List ℕ) (birth bits : ℕ) (material : List ℕ) → AreNamed x.rows entries → may_create_at x name birth bits material ≡ true → birth_in entries name ≡ None
absent_entry x entries name birth bits material named may = absent_there (rows_of nothing x.rows) entries name (named nothing) (absent_row nothing x name (create_says x name birth bits material may).absent)

pub sound_create : (x : Index) (row : IndexRow) (place : ℕ) → IsSoundIndex x → row.versions ≡ 1 → may_create_at x row.name row.birth row.bits row.current ≡ true → IsSoundIndex (with_row x row place)
sound_create x row place is first may =
    let says = create_says x row.name row.birth row.bits row.current may in
    let placed : PlacedRow = record { row = row; places = place ∷ [] } in
    record {
      opening = is.opening;
      few = omega (arith, length-append x.rows (placed ∷ []), says.few);
      births = λ m. subst (λ (rows : List KeyRow). AreRowsRising 0 rows row.birth) (sym (rows_more m x.rows placed)) (rising_more 0 (rows_of m x.rows) x.greatest (row_of m row) (is.births m) says.above);
      names = λ m. subst NamesOnce (sym (rows_more m x.rows placed)) (names_more (rows_of m x.rows) (row_of m row) (is.names m) (other_names row.name (rows_of m x.rows) (absent_row m x row.name says.absent)));
      rows = each_more IsPlacedRow x.rows placed is.rows
          (record { row = record { born = omega (arith, says.present, says.opened); bits = says.valid; some = omega (arith, first); few = omega (arith, first); current = says.long }; places = sym first });
    }

pub named_create : (x : Index) (row : IndexRow) (place : ℕ) (before after : List NamedBirth) → AreNamed x.rows before → may_create_at x row.name row.birth row.bits row.current ≡ true
    → AreInNameOrder (names_of after) → ((other : List ℕ) → birth_in after other ≡ cond (bytes_eq row.name other) (Some row.birth) (birth_in before other)) → AreNamed (with_row x row place).rows after
named_create x row place before after named may order put m =
    let says = create_says x row.name row.birth row.bits row.current may in
    let placed : PlacedRow = record { row = row; places = place ∷ [] } in
    subst (λ (rows : List KeyRow). IsIndex rows after) (sym (rows_more m x.rows placed))
    (index_more (rows_of m x.rows) (row_of m row) before after (named m) (absent_row m x row.name says.absent) order put)

-- rows and names that stay as they are
pub kept : (x : Index) (rows : List PlacedRow) (entries after : List NamedBirth) → IsSoundIndex x → AreNamed x.rows entries → rows ≡ x.rows → after ≡ entries → IsSoundIndex (record x { rows = rows }) × AreNamed rows after
kept x rows entries after is named same names = (
  subst (λ (l : List PlacedRow). IsSoundIndex (record x { rows = l })) (sym same) is,
  λ m. subst (λ (es : List NamedBirth). IsIndex (rows_of m rows) es) (sym names) (subst (λ (l : List PlacedRow). IsIndex (rows_of m l) entries) (sym same) (named m)),
)

-- the capacity that is reserved, unless a list is full
pub room_of : (b : Bool) (capacity number : ℕ) → number + 1 ≤ cond b capacity 0 → number < capacity
room_of true capacity number room = omega (arith, room)
room_of false capacity number room = absurd (omega (arith, room))

-- a created key, as the code adds it

module _ (x : Index) (row : IndexRow) (place : ℕ) (placed : PlacedRow) (entries : List NamedBirth) (is : IsSoundIndex x) (named : AreNamed x.rows entries) (may : may_create_at x row.name row.birth row.bits row.current ≡ true) (made : placed ≡ record { row = row; places = place ∷ [] }) where
  pub absent_placed : birth_in entries placed.row.name ≡ None
  absent_placed = subst (λ (p : PlacedRow). birth_in entries p.row.name ≡ None) (sym made) (absent_entry x entries row.name row.birth row.bits row.current named may)

  pub created : (rows : List PlacedRow) (after : List NamedBirth) → row.versions ≡ 1 → rows ≡ x.rows ++ placed ∷ [] → AreInNameOrder (names_of after)
      → ((other : List ℕ) → birth_in after other ≡ cond (bytes_eq placed.row.name other) (Some placed.row.birth) (birth_in entries other))
      → IsSoundIndex (record { opening = x.opening; greatest = row.birth; rows = rows }) × AreNamed rows after
  created rows after first added order put =
      let all : rows ≡ (with_row x row place).rows = added ∙ ap (λ (p : PlacedRow). x.rows ++ p ∷ []) made in
      let its : (other : List ℕ) → birth_in after other ≡ cond (bytes_eq row.name other) (Some row.birth) (birth_in entries other) =
      subst (λ (p : PlacedRow). (other : List ℕ) → birth_in after other ≡ cond (bytes_eq p.row.name other) (Some p.row.birth) (birth_in entries other)) made put in (
        subst (λ (l : List PlacedRow). IsSoundIndex (record { opening = x.opening; greatest = row.birth; rows = l })) (sym all) (sound_create x row place is first may),
        subst (λ (l : List PlacedRow). AreNamed l after) (sym all) (named_create x row place entries after named may order its),
      )

-- a key with one more version

module _ (x : Index) (birth number : ℕ) (material : List ℕ) (place : ℕ) (is : IsSoundIndex x) (may : (nat_lt 0 x.opening && may_roll_at (find (is_born birth) x.rows) number material) ≡ true) where
  abbrev later : Materials → Materials
  later m = next m birth number material (newest birth x.rows) place

  rolls : (m : Materials) → rows_of (later m) (map (rolled_at birth material place) x.rows) ≡ map (rolled birth material) (rows_of m x.rows)
  rolls m = rows_roll m birth number material (newest birth x.rows) place x.rows (fits_applying x (Roll birth number material) is may)

  row_placed : (placed : PlacedRow) → may_roll_at (Some placed) number material ≡ true → IsPlacedRow placed → IsPlacedRow (with_version material place placed)
  row_placed placed may good =
      let says = roll_says placed number material may in
      record {
        row = record { born = good.row.born; bits = good.row.bits; some = omega arith; few = omega (arith, says.count, says.below); current = says.long };
        places = omega (arith, length-append placed.places (place ∷ []), good.places);
      }

  rows_placed : (m : Materials) (low : ℕ) (rows : List PlacedRow) (top : ℕ) → AreRowsRising low (rows_of m rows) top → may_roll_at (find (is_born birth) rows) number material ≡ true → AllByRecursion IsPlacedRow rows → AllByRecursion IsPlacedRow (map (rolled_at birth material place) rows)
  rows_placed m low [] top rising may rows = tt
  rows_placed m low (placed ∷ rest) top rising may rows =
      let P : Bool → Type 0 = λ b. is_born birth placed ≡ b → may_roll_at (cond b (Some placed) (find (is_born birth) rest)) number material ≡ true → AllByRecursion IsPlacedRow (cond b (with_version material place placed) placed ∷ map (rolled_at birth material place) rest) in
      let cases : P (is_born birth placed) = elim (is_born birth placed) as P [
        | true ↦ λ e h.
            let same : placed.row.birth ≡ birth = (Decides-eqb placed.row.birth birth).0 e in
            (row_placed placed h rows.0, subst (AllByRecursion IsPlacedRow) (sym (rolled_nowhere birth material place rest (rest_of m placed.row.birth birth rest top (omega arith) rising.1))) rows.1)
        | false ↦ λ e h. (rows.0, rows_placed m placed.row.birth rest top rising.1 h rows.1)
      ] in
      cases refl may

  pub sound_roll : IsSoundIndex (record x { rows = map (rolled_at birth material place) x.rows })
  sound_roll =
      record {
        opening = is.opening;
        few = omega (arith, length-map x.rows (rolled_at birth material place), is.few);
        births = λ m. rising_any (later m) m 0 (map (rolled_at birth material place) x.rows) x.greatest (subst (λ (rows : List KeyRow). AreRowsRising 0 rows x.greatest) (sym (rolls m)) (rising_rolled 0 birth material (rows_of m x.rows) x.greatest (is.births m)));
        names = λ m. names_any (later m) m (map (rolled_at birth material place) x.rows) (subst NamesOnce (sym (rolls m)) (names_rolled birth material (rows_of m x.rows) (is.names m)));
        rows = rows_placed nothing 0 x.rows x.greatest (is.births nothing) (and_parts (nat_lt 0 x.opening) (may_roll_at (find (is_born birth) x.rows) number material) may).1 is.rows;
      }

  pub named_roll : (entries : List NamedBirth) → AreNamed x.rows entries → AreNamed (map (rolled_at birth material place) x.rows) entries
  named_roll entries named m = index_any (later m) m (map (rolled_at birth material place) x.rows) entries (subst (λ (rows : List KeyRow). IsIndex rows entries) (sym (rolls m)) (index_rolled birth material (rows_of m x.rows) entries (named m)))

  -- a buffer for all places of the key
  pub roll_room : (capacity : ℕ) → number < capacity → IfSome (find (is_born birth) x.rows) (λ placed. length placed.places < capacity)
  roll_room capacity room = go (find (is_born birth) x.rows) (and_parts (nat_lt 0 x.opening) (may_roll_at (find (is_born birth) x.rows) number material) may).1 (found_has IsPlacedRow (is_born birth) x.rows is.rows)
    where
      go : (f : Option PlacedRow) → may_roll_at f number material ≡ true → IfSome f IsPlacedRow → IfSome f (λ placed. length placed.places < capacity)
      go None may good = tt
      go (Some placed) may good = omega (arith, good.places, (roll_says placed number material may).count, room)

-- one key less

pub sound_delete : (x : Index) (birth : ℕ) → IsSoundIndex x → IsSoundIndex (record x { rows = filter (λ placed. not (is_born birth placed)) x.rows })
sound_delete x birth is =
    let p : PlacedRow → Bool = λ placed. not (is_born birth placed) in
    let q : KeyRow → Bool = λ row. not (is_born_row birth row) in
    record {
      opening = is.opening;
      few = omega (arith, length-filter_le p x.rows, is.few);
      births = λ m. subst (λ (rows : List KeyRow). AreRowsRising 0 rows x.greatest) (sym (rows_left m birth x.rows)) (rising_filter 0 q (rows_of m x.rows) x.greatest (is.births m));
      names = λ m. subst NamesOnce (sym (rows_left m birth x.rows)) (names_filter q (rows_of m x.rows) (is.names m));
      rows = each_filter IsPlacedRow p x.rows is.rows;
    }

pub named_delete : (x : Index) (birth : ℕ) (entries : List NamedBirth) → IsSoundIndex x → AreNamed x.rows entries → AreNamed (filter (λ placed. not (is_born birth placed)) x.rows) (filter (λ entry. not (entry.birth == birth)) entries)
named_delete x birth entries is named m = subst (λ (rows : List KeyRow). IsIndex rows (filter (λ entry. not (entry.birth == birth)) entries)) (sym (rows_left m birth x.rows)) (index_left birth (rows_of m x.rows) entries (is.names m) (named m))

-- the table, if the materials have the lengths of their keys

rows_are : (m : Materials) (rows : List PlacedRow) → AllByRecursion IsPlacedRow rows → AllByRecursion (λ (placed : PlacedRow). AllByRecursion (λ (material : List ℕ). length material ≡ placed.row.bits / 8) (row_of m placed.row).materials) rows → AllByRecursion IsRow (rows_of m rows)
rows_are m [] are sized = tt
rows_are m (placed ∷ rows) are sized =
    let count = versions_of m placed.row (omega (arith, are.0.row.some)) in
    (record { born = are.0.row.born; bits = are.0.row.bits; some = omega (arith, count, are.0.row.some); few = omega (arith, count, are.0.row.few); materials = sized.0 }, rows_are m rows are.1 sized.1)

pub is_table : (m : Materials) (x : Index) → IsSoundIndex x → AllSized m x → IsKeyTable (table_of m x)
is_table m x is sized = record {
  opening = is.opening;
  few = omega (arith, length-map x.rows (λ (placed : PlacedRow). row_of m placed.row), is.few);
  births = is.births m;
  names = is.names m;
  rows = rows_are m x.rows is.rows sized;
}
