-- The image of an index beside a file that holds its materials.
use Rattle.std.proofs.Common.{◌≡◌, ℕ, zero, suc, ◌+◌, ◌-◌, ◌/◌, ◌<◌, ◌≤◌, true, List, [], ◌∷◌, ◌++◌, length, map, take, drop, ap, sym, subst, ◌∙◌, arith, length-drop, length-take, refl}
use Rattle.std.specs.List.{AllByRecursion}
use Rattle.std.proofs.Math.Seq.{take-append_seam}
use Rattle.hk_base.specs.Disk.{piece}
use Rattle.key_rows.specs.Table.{is_length}
use Rattle.key_index.specs.declared.rows.PlacedRow.{PlacedRow}
use Rattle.key_index.specs.Held.{AreHeld, IsHeld}
use Rattle.key_index.specs.Index.{Index, Materials, older, row_of, rows_of, table_of}
use Rattle.key_index.specs.Sound.{IsPlacedRow, IsSoundIndex}
use Rattle.key_index.proofs.Standing.{length-older}
use Rattle.key_images.specs.Sources.{AreIn, LiesIn, bytes_of, row_by, table_in}
use Rattle.key_images.proofs.ChunkLemmas.{AreLong}
use Rattle.key_images.proofs.Spelled.{table_same}

map_take : (f : ℕ → List ℕ) (n : ℕ) (places : List ℕ) → map f (take n places) ≡ take n (map f places)
map_take f zero places = refl
map_take f (suc n) [] = refl
map_take f (suc n) (place ∷ places) = ap (λ (w : List (List ℕ)). f place ∷ w) (map_take f n places)

row_is : (m : Materials) (file : List ℕ) (placed : PlacedRow) → IsHeld m file placed → row_by (bytes_of file) placed ≡ row_of m placed.row
row_is m file placed held =
    let f : ℕ → List ℕ = bytes_of file (placed.row.bits / 8) in
    let before = older m placed.row.birth (placed.row.versions - 1) in
    let count : placed.row.versions - 1 ≡ length before = sym (length-older m placed.row.birth (placed.row.versions - 1)) in
    let all : map f (take (placed.row.versions - 1) placed.places) ≡ before =
    map_take f (placed.row.versions - 1) placed.places ∙ (λ i. take (count i) (held.pieces i)) ∙ take-append_seam before (placed.row.current ∷ []) in
    λ i. record {
      name = placed.row.name;
      birth = placed.row.birth;
      bits = placed.row.bits;
      materials = all i ++ placed.row.current ∷ [];
      description = placed.row.description;
      created = placed.row.created;
    }

rows_are : (m : Materials) (file : List ℕ) (rows : List PlacedRow) → AllByRecursion (IsHeld m file) rows → map (row_by (bytes_of file)) rows ≡ rows_of m rows
rows_are m file [] held = refl
rows_are m file (placed ∷ rows) held = λ i. row_is m file placed held.0 i ∷ rows_are m file rows held.1 i

pub held_is_imaged : (m : Materials) (file : List ℕ) (x : Index) (from count : ℕ) → IsSoundIndex x → AreHeld m file x → AreIn from count x → table_in from (piece from count file) x ≡ table_of m x
held_is_imaged m file x from count is held within =
    table_same from count file x within ∙ (λ i. record { opening = x.opening; greatest = x.greatest; rows = rows_are m file x.rows held i })

-- pieces as long as keys lie within the file

places_in : (file : List ℕ) (len : ℕ) (places : List ℕ) → 0 < len → AreLong len (map (λ place. piece place len file) places) → AllByRecursion (λ (place : ℕ). (0 ≤ place) × (place + len ≤ 0 + length file)) places
places_in file len [] some long = tt
places_in file len (place ∷ places) some long =
    ((omega arith, omega (arith, some, long.0, length-take len (drop place file), length-drop place file)), places_in file len places some long.1)

some_bytes : (bits : ℕ) → is_length bits ≡ true → 0 < bits / 8
some_bytes bits long = grind (arith, long)

pub held_is_within : (m : Materials) (file : List ℕ) (rows : List PlacedRow) → AllByRecursion IsPlacedRow rows → AllByRecursion (IsHeld m file) rows → AllByRecursion (LiesIn 0 (length file)) rows
held_is_within m file [] are held = tt
held_is_within m file (placed ∷ rows) are held =
    (places_in file (placed.row.bits / 8) placed.places (some_bytes placed.row.bits are.0.row.bits) (subst (AreLong (placed.row.bits / 8)) (sym held.0.pieces) held.0.sized), held_is_within m file rows are.1 held.1)
