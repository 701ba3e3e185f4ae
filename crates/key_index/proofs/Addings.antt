-- A key that is added among the others.
use Rattle.std.proofs.Common.{◌≡◌, ◌≢◌, ℕ, zero, suc, ◌<◌, ◌≤◌, Bool, true, false, cond, List, [], ◌∷◌, length, find, get_or, Option, None, Some, is_none, option_map, refl, ap, sym, ◌∙◌, subst, arith}
use Rattle.std.specs.Prelude.{bytes_eq, nat_lt}
use Rattle.std.specs.List.{AllByRecursion, insert}
use Rattle.std.specs.List.Sorted.{IsPartitionPoint, IsPartitionedBy}
use Rattle.std.proofs.lemmas.Bool.Decides.{Decides-eqb, nat_tests}
use Rattle.std.proofs.lemmas.List.Sorted.{IsPartitionedBy-ltb}
use Rattle.std.proofs.lemmas.Slice.Eq.{bytes_eq-Decides}
use Rattle.key_rows.specs.declared.rows.KeyRow.{KeyRow}
use Rattle.key_rows.specs.declared.by_name.NamedBirth.{NamedBirth}
use Rattle.key_rows.specs.Names.{AreInNameOrder, birth_in, names_of}
use Rattle.key_rows.specs.Sound.{AreRowsRising, NamesOnce}
use Rattle.key_rows.specs.Table.{find_name}
use Rattle.key_rows.proofs.Births.{other_names}
use Rattle.key_rows.proofs.Orders.{absent_there}
use Rattle.key_index.specs.declared.rows.IndexRow.{IndexRow}
use Rattle.key_index.specs.declared.rows.PlacedRow.{PlacedRow}
use Rattle.key_index.specs.Adding.{MayAddRow, put_by_birth, with_placed}
use Rattle.key_index.specs.Index.{Index, Materials, is_born, row_of, rows_of}
use Rattle.key_index.specs.Sound.{AreNamed, AreRising, IsPlacedRow, IsSoundIndex}
use Rattle.key_index.proofs.Searches.{births_rise, named_in, nothing}

-- the first i rows have births below this one, and no other row has
abbrev pub PartedBy : ℕ → List PlacedRow → ℕ → Type 0
PartedBy birth rows i = IsPartitionPoint (λ (placed : PlacedRow). nat_lt placed.row.birth birth ≡ true) (λ placed. nat_lt placed.row.birth birth ≡ false) rows i

module _ (new : PlacedRow) where
  pub each_put : (P : PlacedRow → Type 0) (rows : List PlacedRow) → AllByRecursion P rows → P new → AllByRecursion P (put_by_birth new rows)
  each_put P [] each here = (here, tt)
  each_put P (placed ∷ rows) each here =
      let rest = each_put P rows each.1 here in
      let Q : Bool → Type 0 = λ b. AllByRecursion P (cond b (placed ∷ put_by_birth new rows) (new ∷ placed ∷ rows)) in
      elim (nat_lt placed.row.birth new.row.birth) as Q [ true ↦ (each.0, rest) | false ↦ (here, each) ]

  length_put : (rows : List PlacedRow) → length (put_by_birth new rows) ≡ suc (length rows)
  length_put [] = refl
  length_put (placed ∷ rows) =
      let rest = length_put rows in
      let Q : Bool → Type 0 = λ b. length (cond b (placed ∷ put_by_birth new rows) (new ∷ placed ∷ rows)) ≡ suc (length (placed ∷ rows)) in
      elim (nat_lt placed.row.birth new.row.birth) as Q [ true ↦ ap suc rest | false ↦ refl ]

  -- births

  not_found : (birth : ℕ) (placed : PlacedRow) (rows : List PlacedRow) → find (is_born birth) (placed ∷ rows) ≡ None → (placed.row.birth ≢ birth) × (find (is_born birth) rows ≡ None)
  not_found birth placed rows none =
      let Q : Bool → Type 0 = λ b. is_born birth placed ≡ b → cond b (Some placed) (find (is_born birth) rows) ≡ None → (placed.row.birth ≢ birth) × (find (is_born birth) rows ≡ None) in
      (elim (is_born birth placed) as Q [
        | true ↦ λ e h. absurd cc
        | false ↦ λ e h. (λ same. let yes : is_born birth placed ≡ true = (Decides-eqb placed.row.birth birth).1 same in cc, h)
      ]) refl none

  rising_put : (m : Materials) (low : ℕ) (rows : List PlacedRow) (top : ℕ) → AreRowsRising low (rows_of m rows) top → low < new.row.birth → new.row.birth ≤ top → find (is_born new.row.birth) rows ≡ None
      → AreRowsRising low (rows_of m (put_by_birth new rows)) top
  rising_put m low [] top rising above below none = (above, below)
  rising_put m low (placed ∷ rows) top rising above below none =
      let others = not_found new.row.birth placed rows none in
      let Q : Bool → Type 0 = λ b. nat_lt placed.row.birth new.row.birth ≡ b → AreRowsRising low (rows_of m (cond b (placed ∷ put_by_birth new rows) (new ∷ placed ∷ rows))) top in
      (elim (nat_lt placed.row.birth new.row.birth) as Q [
        | true ↦ λ e. let less : placed.row.birth < new.row.birth = grind (arith, nat_tests, e) in (rising.0, rising_put m placed.row.birth rows top rising.1 less below others.1)
        | false ↦ λ e. let more : new.row.birth ≤ placed.row.birth = grind (arith, nat_tests, e) in (above, (omega (arith, more, others.0), rising.1))
      ]) refl

  -- names

  others_put : (m : Materials) (name : List ℕ) (rows : List PlacedRow) → AllByRecursion (λ (other : KeyRow). other.name ≢ name) (rows_of m rows) → new.row.name ≢ name
      → AllByRecursion (λ (other : KeyRow). other.name ≢ name) (rows_of m (put_by_birth new rows))
  others_put m name [] others here = (here, tt)
  others_put m name (placed ∷ rows) others here =
      let rest = others_put m name rows others.1 here in
      let Q : Bool → Type 0 = λ b. AllByRecursion (λ (other : KeyRow). other.name ≢ name) (rows_of m (cond b (placed ∷ put_by_birth new rows) (new ∷ placed ∷ rows))) in
      elim (nat_lt placed.row.birth new.row.birth) as Q [ true ↦ (others.0, rest) | false ↦ (here, others) ]

  names_put : (m : Materials) (rows : List PlacedRow) → NamesOnce (rows_of m rows) → AllByRecursion (λ (other : KeyRow). other.name ≢ new.row.name) (rows_of m rows) → NamesOnce (rows_of m (put_by_birth new rows))
  names_put m [] once others = (tt, tt)
  names_put m (placed ∷ rows) once others =
      let rest = names_put m rows once.1 others.1 in
      let first = others_put m placed.row.name rows once.0 (λ same. others.0 (sym same)) in
      let Q : Bool → Type 0 = λ b. NamesOnce (rows_of m (cond b (placed ∷ put_by_birth new rows) (new ∷ placed ∷ rows))) in
      elim (nat_lt placed.row.birth new.row.birth) as Q [ true ↦ (first, rest) | false ↦ (others, once) ]

  swap_tests : {A : Type 0} (a b : Bool) (x y z : A) → (a ≡ true → b ≡ true → ⊥) → cond a x (cond b y z) ≡ cond b y (cond a x z)
  swap_tests true true x y z apart = absurd (apart refl refl)
  swap_tests true false x y z apart = refl
  swap_tests false true x y z apart = refl
  swap_tests false false x y z apart = refl

  named_put : (m : Materials) (name : List ℕ) (rows : List PlacedRow) → AllByRecursion (λ (other : KeyRow). other.name ≢ new.row.name) (rows_of m rows)
      → find_name (rows_of m (put_by_birth new rows)) name ≡ cond (bytes_eq new.row.name name) (Some (row_of m new.row)) (find_name (rows_of m rows) name)
  named_put m name [] others = refl
  named_put m name (placed ∷ rows) others =
      let here : Option KeyRow = Some (row_of m placed.row) in
      let added : Option KeyRow = Some (row_of m new.row) in
      let a = bytes_eq placed.row.name name in
      let b = bytes_eq new.row.name name in
      let swapped : cond a here (find_name (rows_of m (put_by_birth new rows)) name) ≡ cond b added (cond a here (find_name (rows_of m rows) name)) =
      ap (λ o. cond a here o) (named_put m name rows others.1)
      ∙ swap_tests a b here added (find_name (rows_of m rows) name) (λ x y. others.0 ((bytes_eq-Decides placed.row.name name).0 x ∙ sym ((bytes_eq-Decides new.row.name name).0 y))) in
      let Q : Bool → Type 0 = λ t. find_name (rows_of m (cond t (placed ∷ put_by_birth new rows) (new ∷ placed ∷ rows))) name ≡ cond b added (cond a here (find_name (rows_of m rows) name)) in
      elim (nat_lt placed.row.birth new.row.birth) as Q [ true ↦ swapped | false ↦ refl ]

  -- the code inserts it there
  pub insert_is : (rows : List PlacedRow) (i : ℕ) → i ≤ length rows → PartedBy new.row.birth rows i → insert rows i new ≡ put_by_birth new rows
  insert_is rows i within parted = go rows i within (λ k d below. parted.0 k d (omega arith) below) parted.1
    where
      go : (rows : List PlacedRow) (i : ℕ) → i ≤ length rows → ((k : ℕ) (d : PlacedRow) → k < i → nat_lt (get_or rows k d).row.birth new.row.birth ≡ true)
          → ((k : ℕ) (d : PlacedRow) → i ≤ k → k < length rows → nat_lt (get_or rows k d).row.birth new.row.birth ≡ false) → insert rows i new ≡ put_by_birth new rows
      go [] zero within low high = refl
      go [] (suc i) within low high = absurd (omega arith)
      go (placed ∷ rows) zero within low high = sym (ap (λ b. cond b (placed ∷ put_by_birth new rows) (new ∷ placed ∷ rows)) (high 0 placed (omega arith) (omega arith)))
      go (placed ∷ rows) (suc i) within low high =
          ap (λ (w : List PlacedRow). placed ∷ w) (go rows i (omega arith) (λ k d below. low (suc k) d (omega arith)) (λ k d above below. high (suc k) d (omega arith) (omega arith)))
          ∙ sym (ap (λ b. cond b (placed ∷ put_by_birth new rows) (new ∷ placed ∷ rows)) (low 0 placed (omega arith)))

-- rows in order of birth are parted by a birth
pub births_parted : (rows : List PlacedRow) (birth : ℕ) → AreRising rows → IsPartitionedBy (λ (placed : PlacedRow). nat_lt placed.row.birth birth) rows
births_parted rows birth rising = IsPartitionedBy-ltb (λ (placed : PlacedRow). placed.row.birth) rows birth (births_rise nothing 0 rows rising.0 (rising.1 nothing))

module _ (x : Index) (row : IndexRow) (places : List ℕ) (may : MayAddRow x row places) where
  abbrev added : PlacedRow
  added = record { row = row; places = places }

  nameless : (m : Materials) → is_none (find_name (rows_of m x.rows) row.name) ≡ true
  nameless m = ap is_none (named_in m x.rows row.name ∙ ap (λ (o : Option PlacedRow). option_map (λ placed. row_of m placed.row) o) may.name)

  others : (m : Materials) → AllByRecursion (λ (other : KeyRow). other.name ≢ row.name) (rows_of m x.rows)
  others m = other_names row.name (rows_of m x.rows) (nameless m)

  pub sound_add : IsSoundIndex x → IsSoundIndex (with_placed x row places)
  sound_add is = record {
    opening = is.opening;
    few = omega (arith, length_put added x.rows, may.few);
    births = λ m. rising_put added m 0 x.rows x.greatest (is.births m) (omega (arith, may.rules.born)) may.used may.birth;
    names = λ m. names_put added m x.rows (is.names m) (others m);
    rows = each_put added IsPlacedRow x.rows is.rows (record { row = may.rules; places = may.each_placed });
  }

  pub absent_name : (entries : List NamedBirth) → AreNamed x.rows entries → birth_in entries row.name ≡ None
  absent_name entries named = absent_there (rows_of nothing x.rows) entries row.name (named nothing) (nameless nothing)

  pub names_added : (before after : List NamedBirth) → AreNamed x.rows before → AreInNameOrder (names_of after)
      → ((other : List ℕ) → birth_in after other ≡ cond (bytes_eq row.name other) (Some row.birth) (birth_in before other)) → AreNamed (with_placed x row places).rows after
  names_added before after named order put m = record {
    order = order;
    births = λ name.
        put name
        ∙ ap (λ (o : Option ℕ). cond (bytes_eq row.name name) (Some row.birth) o) ((named m).births name)
        ∙ birth_of (bytes_eq row.name name) (find_name (rows_of m x.rows) name)
        ∙ sym (ap (λ (o : Option KeyRow). option_map (λ (r : KeyRow). r.birth) o) (named_put added m name x.rows (others m)));
  }
    where
      birth_of : (b : Bool) (o : Option KeyRow) → cond b (Some row.birth) (option_map (λ (r : KeyRow). r.birth) o) ≡ option_map (λ (r : KeyRow). r.birth) (cond b (Some (row_of m row)) o)
      birth_of true o = refl
      birth_of false o = refl

-- a key, as the code adds it

module _ (x : Index) (row : IndexRow) (places : List ℕ) (placed : PlacedRow) (entries : List NamedBirth) (is : IsSoundIndex x) (named : AreNamed x.rows entries) (may : MayAddRow x row places) (made : placed ≡ record { row = row; places = places }) where
  pub absent_added : birth_in entries placed.row.name ≡ None
  absent_added = subst (λ (p : PlacedRow). birth_in entries p.row.name ≡ None) (sym made) (absent_name x row places may entries named)

  pub all_added : (rows : List PlacedRow) (after : List NamedBirth) → rows ≡ put_by_birth placed x.rows → AreInNameOrder (names_of after)
      → ((other : List ℕ) → birth_in after other ≡ cond (bytes_eq placed.row.name other) (Some placed.row.birth) (birth_in entries other))
      → IsSoundIndex (record x { rows = rows }) × AreNamed rows after
  all_added rows after new order put =
      let all : rows ≡ (with_placed x row places).rows = new ∙ ap (λ (p : PlacedRow). put_by_birth p x.rows) made in
      let its : (other : List ℕ) → birth_in after other ≡ cond (bytes_eq row.name other) (Some row.birth) (birth_in entries other) =
      subst (λ (p : PlacedRow). (other : List ℕ) → birth_in after other ≡ cond (bytes_eq p.row.name other) (Some p.row.birth) (birth_in entries other)) made put in (
        subst (λ (l : List PlacedRow). IsSoundIndex (record x { rows = l })) (sym all) (sound_add x row places may is),
        subst (λ (l : List PlacedRow). AreNamed l after) (sym all) (names_added x row places may entries after named order its),
      )
