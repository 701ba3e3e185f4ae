-- The image of an index, key by key, by what the file of the key log holds.
use Rattle.std.proofs.Common.{◌≡◌, ℕ, zero, suc, ◌+◌, ◌-◌, ◌/◌, ◌^◌, ◌<◌, ◌≤◌, true, List, [], ◌∷◌, ◌++◌, length, get_or, map, take, drop, slice_get, Some, ap, sym, subst, ◌∙◌, arith, append_assoc, length-append, length-drop, length-take, refl}
use Rattle.std.specs.Int.{w32, w64, to_be_bytes}
use Rattle.std.specs.List.{AllByRecursion, concat}
use Rattle.std.proofs.lemmas.List.{append-nil, drop-take, drop-drop, length-map, take-take}
use Rattle.std.proofs.lemmas.List.Folds.{concat-append}
use Rattle.std.proofs.lemmas.Option.{same_Some}
use Rattle.hk_base.specs.Disk.{piece}
use Rattle.hk_base.specs.Names.{is_key_length}
use Rattle.image_parts.specs.Parts.{KeepsPart}
use Rattle.key_rows.specs.declared.rows.KeyRow.{KeyRow}
use Rattle.key_rows.specs.Image.{key_head, key_image, key_row_image, key_rows_image}
use Rattle.key_rows.specs.Table.{Table, is_length}
use Rattle.key_index.specs.declared.rows.PlacedRow.{PlacedRow}
use Rattle.key_index.specs.Index.{Index, Materials, row_of, table_of}
use Rattle.key_index.proofs.Searches.{nothing}
use Rattle.key_index.specs.Sound.{IsPlacedRow, IsSoundIndex}
use Rattle.key_images.specs.Sizes.{rows_len}
use Rattle.key_images.specs.Sources.{AreIn, LiesIn, bytes_in, bytes_of, row_by, table_by, table_in}
use Rattle.key_images.proofs.Lengths.{table_in_length}

-- a row where none is asked for
pub no_row : PlacedRow
no_row = record { row = record { name = []; birth = 0; bits = 0; current = []; versions = 0; description = []; created = 0 }; places = [] }

-- the number of keys, whatever the materials
pub counted : (x : Index) (n : ℕ) → ((m : Materials) → n ≡ length (table_of m x).rows) → n ≡ length x.rows
counted x n count = count nothing ∙ length-map x.rows (λ (placed : PlacedRow). row_of nothing placed.row)

pub key_length_of : (bits : ℕ) → is_length bits ≡ true → is_key_length (bits / 8) ≡ true
key_length_of bits long = grind (arith, long)

pub each_at : {X : Type 0} (P : X → Type 0) (xs : List X) (k : ℕ) (x : X) → AllByRecursion P xs → slice_get xs k ≡ Some x → P x
each_at P [] k x each there = absurd cc
each_at P (y ∷ xs) zero x each there = subst P (same_Some y x there) each.0
each_at P (y ∷ xs) (suc k) x each there = each_at P xs k x each.1 there

pub each_get : {X : Type 0} (P : X → Type 0) (xs : List X) (k : ℕ) (d : X) → AllByRecursion P xs → k < length xs → P (get_or xs k d)
each_get P [] k d each within = absurd (omega arith)
each_get P (y ∷ xs) zero d each within = each.0
each_get P (y ∷ xs) (suc k) d each within = each_get P xs k d each.1 (omega arith)

-- one more material, and one more key

materials_suc : (f : ℕ → List ℕ) (places : List ℕ) (k place : ℕ) → slice_get places k ≡ Some place → concat (map f (take (suc k) places)) ≡ concat (map f (take k places)) ++ f place
materials_suc f [] k place there = absurd cc
materials_suc f (p ∷ places) zero place there = append-nil (f p) ∙ ap f (same_Some p place there)
materials_suc f (p ∷ places) (suc k) place there = ap (λ (w : List ℕ). f p ++ w) (materials_suc f places k place there) ∙ sym (append_assoc (f p) (concat (map f (take k places))) (f place))

keys_suc : (f : PlacedRow → KeyRow) (rows : List PlacedRow) (k : ℕ) (d : PlacedRow) → k < length rows → key_rows_image (map f (take (suc k) rows)) ≡ key_rows_image (map f (take k rows)) ++ key_row_image (f (get_or rows k d))
keys_suc f [] k d within = absurd (omega arith)
keys_suc f (placed ∷ rows) zero d within = append-nil (key_row_image (f placed))
keys_suc f (placed ∷ rows) (suc k) d within =
    ap (λ (w : List ℕ). key_row_image (f placed) ++ w) (keys_suc f rows k d (omega arith)) ∙ sym (append_assoc (key_row_image (f placed)) (key_rows_image (map f (take k rows))) (key_row_image (f (get_or rows k d))))

pub materials_more : (f : ℕ → List ℕ) (places : List ℕ) (k place : ℕ) → slice_get places k ≡ Some place → concat (map f (take (k + 1) places)) ≡ concat (map f (take k places)) ++ f place
materials_more f places k place there =
    let next : k + 1 ≡ suc k = omega arith in
    ap (λ n. concat (map f (take n places))) next ∙ materials_suc f places k place there

pub keys_more : (f : PlacedRow → KeyRow) (rows : List PlacedRow) (k : ℕ) (d : PlacedRow) → k < length rows → key_rows_image (map f (take (k + 1) rows)) ≡ key_rows_image (map f (take k rows)) ++ key_row_image (f (get_or rows k d))
keys_more f rows k d within =
    let next : k + 1 ≡ suc k = omega arith in
    ap (λ n. key_rows_image (map f (take n rows))) next ∙ keys_suc f rows k d within

-- a key after its head, its older materials and its current one
abbrev pub olders : List ℕ → PlacedRow → List (List ℕ)
olders file placed = map (bytes_of file (placed.row.bits / 8)) (take (placed.row.versions - 1) placed.places)

abbrev pub head_of : PlacedRow → List ℕ
head_of placed = key_head placed.row.birth placed.row.name placed.row.bits placed.row.description placed.row.created ++ to_be_bytes w32 placed.row.versions

pub key_told : (file : List ℕ) (placed : PlacedRow) (all : List ℕ) → IsPlacedRow placed → ((all ++ head_of placed) ++ concat (olders file placed)) ++ placed.row.current ≡ all ++ key_row_image (row_by (bytes_of file) placed)
key_told file placed all is =
    let head = key_head placed.row.birth placed.row.name placed.row.bits placed.row.description placed.row.created in
    let ms = olders file placed in
    let last = placed.row.current in
    let count : placed.row.versions ≡ length (ms ++ last ∷ []) =
    omega (arith, length-append ms (last ∷ []), length-map (take (placed.row.versions - 1) placed.places) (bytes_of file (placed.row.bits / 8)), length-take (placed.row.versions - 1) placed.places, is.places, is.row.some) in
    let join : concat ms ++ last ≡ concat (ms ++ last ∷ []) = ap (λ (w : List ℕ). concat ms ++ w) (sym (append-nil last)) ∙ sym (concat-append ms (last ∷ [])) in
    append_assoc (all ++ head_of placed) (concat ms) last
    ∙ append_assoc all (head_of placed) (concat ms ++ last)
    ∙ ap (λ (w : List ℕ). all ++ w) (append_assoc head (to_be_bytes w32 placed.row.versions) (concat ms ++ last) ∙ (λ i. head ++ (to_be_bytes w32 (count i) ++ join i)))

-- what is told in the end
pub image_told : (x : Index) (rows : List KeyRow) → length rows ≡ length x.rows → (to_be_bytes w32 x.opening ++ (to_be_bytes w64 x.greatest ++ to_be_bytes w32 (length x.rows))) ++ key_rows_image rows ≡ key_image (record { opening = x.opening; greatest = x.greatest; rows = rows })
image_told x rows count =
    append_assoc (to_be_bytes w32 x.opening) (to_be_bytes w64 x.greatest ++ to_be_bytes w32 (length x.rows)) (key_rows_image rows)
    ∙ ap (λ (w : List ℕ). to_be_bytes w32 x.opening ++ w) (append_assoc (to_be_bytes w64 x.greatest) (to_be_bytes w32 (length x.rows)) (key_rows_image rows) ∙ ap (λ n. to_be_bytes w64 x.greatest ++ (to_be_bytes w32 n ++ key_rows_image rows)) (sym count))

-- a range of the file has what the file has

pub piece_in : (from count place len : ℕ) (file : List ℕ) → from ≤ place → place + len ≤ from + count → piece (place - from) len (piece from count file) ≡ piece place len file
piece_in from count place len file above below =
    let a = place - from in
    let split : count ≡ a + (count - a) = omega (arith, above, below) in
    let enough : len ≤ count - a = omega (arith, above, below) in
    let at : from + a ≡ place = omega (arith, above) in
    ap (λ n. take len (drop a (take n (drop from file)))) split
    ∙ ap (take len) (drop-take a (count - a) (drop from file))
    ∙ take-take len (count - a) (drop a (drop from file)) enough
    ∙ ap (take len) (drop-drop a from file)
    ∙ ap (λ n. take len (drop n file)) at

pieces_in : (from count len n : ℕ) (file places : List ℕ) → AllByRecursion (λ (place : ℕ). (from ≤ place) × (place + len ≤ from + count)) places
    → map (bytes_in from (piece from count file) len) (take n places) ≡ map (bytes_of file len) (take n places)
pieces_in from count len zero file places within = refl
pieces_in from count len (suc n) file [] within = refl
pieces_in from count len (suc n) file (place ∷ places) within =
    λ i. piece_in from count place len file within.0.0 within.0.1 i ∷ pieces_in from count len n file places within.1 i

rows_in : (from count : ℕ) (file : List ℕ) (rows : List PlacedRow) → AllByRecursion (LiesIn from count) rows → map (row_by (bytes_in from (piece from count file))) rows ≡ map (row_by (bytes_of file)) rows
rows_in from count file [] within = refl
rows_in from count file (placed ∷ rows) within =
    let same = pieces_in from count (placed.row.bits / 8) (placed.row.versions - 1) file placed.places within.0 in
    λ i. record {
      name = placed.row.name;
      birth = placed.row.birth;
      bits = placed.row.bits;
      materials = same i ++ placed.row.current ∷ [];
      description = placed.row.description;
      created = placed.row.created;
    } ∷ rows_in from count file rows within.1 i

pub table_same : (from count : ℕ) (file : List ℕ) (x : Index) → AreIn from count x → table_in from (piece from count file) x ≡ table_by (bytes_of file) x
table_same from count file x within = λ i. record { opening = x.opening; greatest = x.greatest; rows = rows_in from count file x.rows within i }

-- a range within the file

wider_row : (from count size len : ℕ) (places : List ℕ) → from + count ≤ size → AllByRecursion (λ (place : ℕ). (from ≤ place) × (place + len ≤ from + count)) places → AllByRecursion (λ (place : ℕ). (0 ≤ place) × (place + len ≤ 0 + size)) places
wider_row from count size len [] fits within = tt
wider_row from count size len (place ∷ places) fits within = ((omega arith, omega (arith, fits, within.0.1)), wider_row from count size len places fits within.1)

pub wider : (from count size : ℕ) (rows : List PlacedRow) → from + count ≤ size → AllByRecursion (LiesIn from count) rows → AllByRecursion (LiesIn 0 size) rows
wider from count size [] fits within = tt
wider from count size (placed ∷ rows) fits within = (wider_row from count size (placed.row.bits / 8) placed.places fits within.0, wider from count size rows fits within.1)

-- all of an image was told
pub told_is : (at seen : ℕ) (all buf : List ℕ) → KeepsPart at seen all buf → length all < 2 ^ 64 → seen ≡ length all
told_is at seen all buf kept fits = kept.count ∙ grind (arith, fits)

-- what a buffer has of the image, by what a range of the file holds
pub part_is : (from count at size told n : ℕ) (file buf : List ℕ) (x : Index) → IsSoundIndex x → AreIn from count x → from + count ≤ length file → size ≡ 16 + rows_len x.rows → size < 2 ^ 64
    → KeepsPart at told (key_image (table_by (bytes_of file) x)) buf → ((all : List ℕ) → KeepsPart at size all buf → length all < 2 ^ 64 → take n buf ≡ take (length buf) (drop at all))
    → (held : List ℕ) → piece from count file ≡ held → take n buf ≡ piece at (length buf) (key_image (table_in from held x))
part_is from count at size told n file buf x is within fits sized small kept part held range =
    let whole : length (piece from count file) ≡ count = omega (arith, length-take count (drop from file), length-drop from file, fits) in
    let all = key_image (table_in from (piece from count file) x) in
    let long : length all ≡ size = table_in_length from (piece from count file) x is (subst (λ k. AreIn from k x) (sym whole) within) ∙ sym sized in
    let same = subst (λ (t : Table). KeepsPart at told (key_image t) buf) (sym (table_same from count file x within)) kept in
    let told : told ≡ size = told_is at told all buf same (omega (arith, long, small)) ∙ long in
    part all (subst (λ k. KeepsPart at k all buf) told same) (omega (arith, long, small))
    ∙ ap (λ (h : List ℕ). piece at (length buf) (key_image (table_in from h x))) range
