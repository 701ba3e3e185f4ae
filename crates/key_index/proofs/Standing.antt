-- The table that an index stands for after a command is the table after it.
use Rattle.std.proofs.Common.{◌≡◌, ◌≢◌, ℕ, zero, suc, ◌+◌, ◌-◌, ◌/◌, ◌<◌, ◌≤◌, Bool, true, false, not, cond, ◌&&◌, ◌==◌, List, [], ◌∷◌, ◌++◌, length, map, refl, sym, ◌∙◌, ap, arith, inl, inr, length-append}
use Rattle.std.specs.Prelude.{filter, if◌then◌else◌}
use Rattle.std.specs.List.{AllByRecursion}
use Rattle.std.proofs.lemmas.Bool.Decides.{Decides-eqb, nat_tests}
use Rattle.std.proofs.lemmas.Bool.{cases_eq}
use Rattle.hk_base.specs.declared.names.Dek.{Dek}
use Rattle.key_rows.specs.declared.rows.KeyRow.{KeyRow}
use Rattle.key_rows.specs.declared.rows.KeyCommand.{KeyCommand}
use Rattle.key_rows.specs.declared.rows.KeyCommand.TheVariants.{Opened, Create, Roll, Delete}
use Rattle.key_rows.specs.Table.{after, rolled, is_born as is_born_row, with_material}
use Rattle.key_index.specs.declared.rows.IndexRow.{IndexRow}
use Rattle.key_index.specs.declared.rows.PlacedRow.{PlacedRow}
use Rattle.key_index.specs.Index.{Index, Materials, after_at, first_version, is_born, materials_after, newest, older, rolled_at, row_of, rows_of, table_of, with_version}

-- materials that agree on the first n of a birth
pub same_older : (m k : Materials) (birth n : ℕ) → ((i : ℕ) → i < n → k birth i ≡ m birth i) → older k birth n ≡ older m birth n
same_older m k birth zero same = refl
same_older m k birth (suc n) same = λ i. same_older m k birth n (λ j small. same j (omega arith)) i ++ same n (omega arith) i ∷ []

pub length-older : (m : Materials) (birth n : ℕ) → length (older m birth n) ≡ n
length-older m birth zero = refl
length-older m birth (suc n) = omega (arith, length-append (older m birth n) (m birth n ∷ []), length-older m birth n)

-- a row stands for a key with as many versions, whatever the materials
pub versions_of : (m : Materials) (row : IndexRow) → 1 ≤ row.versions → length (row_of m row).materials ≡ row.versions
versions_of m row some = omega (arith, some, length-append (older m row.birth (row.versions - 1)) (row.current ∷ []), length-older m row.birth (row.versions - 1))

-- what a roll of this number asks of a row of its birth
pub record Rolls (birth number : ℕ) (material current : Dek) (placed : PlacedRow) : Type 0 where
  pub some : 1 ≤ placed.row.versions
  pub its : placed.row.birth ≡ birth → (placed.row.versions ≡ number) × (placed.row.current ≡ current)
  pub long : placed.row.birth ≡ birth → length material ≡ placed.row.bits / 8

pub rolled_row : (birth : ℕ) (material : Dek) (place : ℕ) (placed : PlacedRow) → placed.row.birth ≡ birth → rolled_at birth material place placed ≡ with_version material place placed
rolled_row birth material place placed born = ap (λ (b : Bool). cond b (with_version material place placed) placed) ((Decides-eqb placed.row.birth birth).1 born)

pub kept_row : (birth : ℕ) (material : Dek) (place : ℕ) (placed : PlacedRow) → placed.row.birth ≢ birth → rolled_at birth material place placed ≡ placed
kept_row birth material place placed other = let no : is_born birth placed ≡ false = grind (arith, nat_tests) in ap (λ (b : Bool). cond b (with_version material place placed) placed) no

module _ (m : Materials) (birth number : ℕ) (material current : Dek) (place : ℕ) where
  -- the materials with the current one noted
  unfoldable pub next : Materials
  next = λ b n. if b == birth && n + 1 == number then current else m b n

  pub elsewhere : (b n : ℕ) → b ≢ birth → next b n ≡ m b n
  unfolding next
  elsewhere b n other = grind (arith, nat_tests)

  pub before : (b n : ℕ) → n + 1 ≢ number → next b n ≡ m b n
  unfolding next
  before b n small = grind (arith, nat_tests)

  here : (n : ℕ) → n + 1 ≡ number → next birth n ≡ current
  unfolding next
  here n is = grind (arith, nat_tests)

  pub materials_grow : (row : IndexRow) → 1 ≤ row.versions → row.birth ≡ birth → row.versions ≡ number → row.current ≡ current
      → older next row.birth (row.versions + 1 - 1) ≡ older m row.birth (row.versions - 1) ++ row.current ∷ []
  materials_grow row some born count its = go row.versions some count
    where
      go : (v : ℕ) → 1 ≤ v → v ≡ number → older next row.birth (v + 1 - 1) ≡ older m row.birth (v - 1) ++ row.current ∷ []
      go zero some is = absurd (omega arith)
      go (suc v) some is =
          let count : suc v + 1 - 1 ≡ suc v = omega arith in
          let less : suc v - 1 ≡ v = omega arith in
          let at : (b : ℕ) → b ≡ birth → older next b (suc v) ≡ older m b v ++ row.current ∷ [] = λ b b_is.
          let front : older next b v ≡ older m b v = same_older m next b v (λ i small. before b i (λ same. absurd (omega arith))) in
          let last : next b v ≡ row.current = ap (λ (k : ℕ). next k v) b_is ∙ here v (omega arith) ∙ sym its in
          λ i. front i ++ last i ∷ [] in
          ap (older next row.birth) count ∙ at row.birth born ∙ ap (λ (k : ℕ). older m row.birth k ++ row.current ∷ []) (sym less)

  pub row_rolls : (placed : PlacedRow) → Rolls birth number material current placed → row_of next (rolled_at birth material place placed).row ≡ rolled birth material (row_of m placed.row)
  row_rolls placed rolls = elim (cases_eq placed.row.birth birth) [
    | inl born ↦
        let yes : is_born birth placed ≡ true = (Decides-eqb placed.row.birth birth).1 born in
        let right : rolled birth material (row_of m placed.row) ≡ with_material material (row_of m placed.row) = ap (λ (b : Bool). cond b (with_material material (row_of m placed.row)) (row_of m placed.row)) yes in
        ap (λ (p : PlacedRow). row_of next p.row) (rolled_row birth material place placed born)
        ∙ (λ i. record (row_of m placed.row) { materials = materials_grow placed.row rolls.some born (rolls.its born).0 (rolls.its born).1 i ++ material ∷ [] }) ∙ sym right
    | inr other ↦
        let no : is_born birth placed ≡ false = grind (arith, nat_tests) in
        let right : rolled birth material (row_of m placed.row) ≡ row_of m placed.row = ap (λ (b : Bool). cond b (with_material material (row_of m placed.row)) (row_of m placed.row)) no in
        ap (λ (p : PlacedRow). row_of next p.row) (kept_row birth material place placed other)
        ∙ (λ i. record (row_of m placed.row) { materials = same_older m next placed.row.birth (placed.row.versions - 1) (λ j small. elsewhere placed.row.birth j other) i ++ placed.row.current ∷ [] }) ∙ sym right
  ]

  pub rows_roll : (rows : List PlacedRow) → AllByRecursion (Rolls birth number material current) rows → rows_of next (map (rolled_at birth material place) rows) ≡ map (rolled birth material) (rows_of m rows)
  rows_roll [] rolls = refl
  rows_roll (placed ∷ rows) rolls = λ i. row_rolls placed rolls.0 i ∷ rows_roll rows rolls.1 i

pub rows_more : (m : Materials) (rows : List PlacedRow) (placed : PlacedRow) → rows_of m (rows ++ placed ∷ []) ≡ rows_of m rows ++ row_of m placed.row ∷ []
rows_more m [] placed = refl
rows_more m (x ∷ rows) placed = λ i. row_of m x.row ∷ rows_more m rows placed i

pub rows_left : (m : Materials) (birth : ℕ) (rows : List PlacedRow) → rows_of m (filter (λ placed. not (is_born birth placed)) rows) ≡ filter (λ row. not (is_born_row birth row)) (rows_of m rows)
rows_left m birth [] = refl
rows_left m birth (placed ∷ rows) = go (filter (λ x. not (is_born birth x)) rows) (filter (λ row. not (is_born_row birth row)) (rows_of m rows)) (rows_left m birth rows) (is_born birth placed)
  where
    go : (left : List PlacedRow) (rest : List KeyRow) → rows_of m left ≡ rest → (b : Bool) → rows_of m (cond (not b) (placed ∷ left) left) ≡ cond (not b) (row_of m placed.row ∷ rest) rest
    go left rest further true = further
    go left rest further false = λ i. row_of m placed.row ∷ further i

-- what a command asks of the rows: a roll, that its birth is of one row, with as many versions
abbrev pub Fits : Index → KeyCommand → Type 0
Fits x (Roll birth number material) = AllByRecursion (Rolls birth number material (newest birth x.rows)) x.rows
Fits x _ = Unit {0}

-- the table that the index stands for after a command is the table after it
pub goes_on : (m : Materials) (x : Index) (command : KeyCommand) (place : ℕ) → Fits x command → table_of (materials_after m x command) (after_at x command place) ≡ after (table_of m x) command
unfolding next
goes_on m x (Opened opening) place fits = refl
goes_on m x (Create birth name bits description created material) place fits =
    λ i. record { opening = x.opening; greatest = birth; rows = rows_more m x.rows (record { row = first_version birth name bits description created material; places = place ∷ [] }) i }
goes_on m x (Roll birth number material) place fits =
    λ i. record { opening = x.opening; greatest = x.greatest; rows = rows_roll m birth number material (newest birth x.rows) place x.rows fits i }
goes_on m x (Delete birth) place fits = λ i. record { opening = x.opening; greatest = x.greatest; rows = rows_left m birth x.rows i }
