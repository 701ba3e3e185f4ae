-- How long an image is.
use Rattle.std.proofs.Common.{◌≡◌, ℕ, zero, suc, ◌+◌, ◌-◌, ◌*◌, ◌/◌, ◌^◌, ◌<◌, ◌≤◌, List, [], ◌∷◌, ◌++◌, length, get_or, map, take, drop, true, ◌&&◌, ap, ◌∙◌, arith, length-append, length-take, length-drop, refl}
use Rattle.std.proofs.Math.Nat.{mul-le-mul_right}
use Rattle.std.proofs.lemmas.Bool.{and_parts}
use Rattle.std.proofs.lemmas.List.{length-map}
use Rattle.std.specs.Prelude.{nat_lt, nat_le}
use Rattle.std.specs.Int.{w16, w32, w64, to_be_bytes}
use Rattle.std.specs.List.{AllByRecursion, concat, list_all}
use Rattle.hk_base.specs.Names.{is_key_name, is_name_byte}
use Rattle.key_rows.specs.Table.{is_length}
use Rattle.key_rows.specs.declared.rows.KeyRow.{KeyRow}
use Rattle.key_rows.specs.Image.{key_head, key_image, key_row_image, key_rows_image}
use Rattle.key_rows.specs.Records.{text_field}
use Rattle.key_index.specs.declared.rows.IndexRow.{IndexRow}
use Rattle.key_index.specs.declared.rows.PlacedRow.{PlacedRow}
use Rattle.key_index.specs.Index.{Index, Materials, row_of, rows_of, table_of}
use Rattle.key_index.specs.Sound.{AllSized, AreSized, IsIndexRow, IsPlacedRow, IsSoundIndex}
use Rattle.key_index.proofs.Standing.{versions_of}
use Rattle.key_images.specs.Sizes.{row_len, rows_len}
use Rattle.key_images.specs.Sources.{AreIn, LiesIn, bytes_in, bytes_of, row_by, table_in}
use Rattle.key_images.proofs.ChunkLemmas.{AreLong, length_concat}

pub head_length : (birth : ℕ) (name : List ℕ) (bits : ℕ) (description : List ℕ) (created : ℕ) → length (key_head birth name bits description created) ≡ 21 + length name + length description
head_length birth name bits description created =
    omega (arith, length-append name (to_be_bytes w16 bits ++ (text_field description ++ to_be_bytes w64 created)), length-append description (to_be_bytes w64 created))

pub key_length : (key : KeyRow) (n : ℕ) → length key.materials ≡ n → AreLong (key.bits / 8) key.materials → length (key_row_image key) ≡ 25 + length key.name + length key.description + n * (key.bits / 8)
key_length key n count long =
    let head = key_head key.birth key.name key.bits key.description key.created in
    let counted = to_be_bytes w32 (length key.materials) in
    let all : length (concat key.materials) ≡ n * (key.bits / 8) = length_concat (key.bits / 8) key.materials long ∙ ap (λ k. k * (key.bits / 8)) count in
    omega (arith, length-append head (counted ++ concat key.materials), head_length key.birth key.name key.bits key.description key.created, all)

-- beside materials

pub row_of_length : (m : Materials) (row : IndexRow) → 0 < row.versions → AreSized m row → length (key_row_image (row_of m row)) ≡ row_len row
row_of_length m row some sized = key_length (row_of m row) row.versions (versions_of m row some) sized

pub rows_of_length : (m : Materials) (rows : List PlacedRow) → AllByRecursion IsPlacedRow rows → AllByRecursion (λ (placed : PlacedRow). AreSized m placed.row) rows → length (key_rows_image (rows_of m rows)) ≡ rows_len rows
rows_of_length m [] are sized = refl
rows_of_length m (placed ∷ rows) are sized =
    omega (arith, length-append (key_row_image (row_of m placed.row)) (key_rows_image (rows_of m rows)), row_of_length m placed.row are.0.row.some sized.0, rows_of_length m rows are.1 sized.1)

pub table_of_length : (m : Materials) (x : Index) → IsSoundIndex x → AllSized m x → length (key_image (table_of m x)) ≡ 16 + rows_len x.rows
table_of_length m x is sized = omega (arith, rows_of_length m x.rows is.rows sized)

-- beside a range

pub all_take : {X : Type 0} (P : X → Type 0) (n : ℕ) (xs : List X) → AllByRecursion P xs → AllByRecursion P (take n xs)
all_take P zero xs each = tt
all_take P (suc n) [] each = tt
all_take P (suc n) (x ∷ xs) each = (each.0, all_take P n xs each.1)

pieces_long : (read : ℕ → List ℕ) (len : ℕ) (places : List ℕ) → AllByRecursion (λ (place : ℕ). length (read place) ≡ len) places → AreLong len (map read places)
pieces_long read len [] each = tt
pieces_long read len (place ∷ places) each = (each.0, pieces_long read len places each.1)

pub long_then : (len : ℕ) (ms : List (List ℕ)) (last : List ℕ) → AreLong len ms → length last ≡ len → AreLong len (ms ++ last ∷ [])
long_then len [] last long is = (is, tt)
long_then len (m ∷ ms) last long is = (long.0, long_then len ms last long.1 is)

row_by_length : (read : ℕ → ℕ → List ℕ) (placed : PlacedRow) → IsPlacedRow placed → AllByRecursion (λ (place : ℕ). length (read (placed.row.bits / 8) place) ≡ placed.row.bits / 8) placed.places → length (key_row_image (row_by read placed)) ≡ row_len placed.row
row_by_length read placed is long =
    let len = placed.row.bits / 8 in
    let places = take (placed.row.versions - 1) placed.places in
    let older = map (read len) places in
    key_length (row_by read placed) placed.row.versions
    (omega (arith, length-append older (placed.row.current ∷ []), length-map places (read len), length-take (placed.row.versions - 1) placed.places, is.places, is.row.some))
    (long_then len older placed.row.current (pieces_long (read len) len places (all_take (λ (place : ℕ). length (read len place) ≡ len) (placed.row.versions - 1) placed.places long)) is.row.current)

long_in : (from len : ℕ) (held : List ℕ) (places : List ℕ) → AllByRecursion (λ (place : ℕ). (from ≤ place) × (place + len ≤ from + length held)) places → AllByRecursion (λ (place : ℕ). length (bytes_in from held len place) ≡ len) places
long_in from len held [] each = tt
long_in from len held (place ∷ places) each =
    (omega (arith, each.0.0, each.0.1, length-take len (drop (place - from) held), length-drop (place - from) held), long_in from len held places each.1)

long_of : (len : ℕ) (file : List ℕ) (places : List ℕ) → AllByRecursion (λ (place : ℕ). (0 ≤ place) × (place + len ≤ 0 + length file)) places → AllByRecursion (λ (place : ℕ). length (bytes_of file len place) ≡ len) places
long_of len file [] each = tt
long_of len file (place ∷ places) each = (omega (arith, each.0.1, length-take len (drop place file), length-drop place file), long_of len file places each.1)

pub row_length : (file : List ℕ) (placed : PlacedRow) → IsPlacedRow placed → LiesIn 0 (length file) placed → length (key_row_image (row_by (bytes_of file) placed)) ≡ row_len placed.row
row_length file placed is within = row_by_length (bytes_of file) placed is (long_of (placed.row.bits / 8) file placed.places within)

rows_in_length : (from : ℕ) (held : List ℕ) (rows : List PlacedRow) → AllByRecursion IsPlacedRow rows → AllByRecursion (LiesIn from (length held)) rows → length (key_rows_image (map (row_by (bytes_in from held)) rows)) ≡ rows_len rows
rows_in_length from held [] are within = refl
rows_in_length from held (placed ∷ rows) are within =
    let one = row_by_length (bytes_in from held) placed are.0 (long_in from (placed.row.bits / 8) held placed.places within.0) in
    omega (arith, length-append (key_row_image (row_by (bytes_in from held) placed)) (key_rows_image (map (row_by (bytes_in from held)) rows)), one, rows_in_length from held rows are.1 within.1)

pub table_in_length : (from : ℕ) (held : List ℕ) (x : Index) → IsSoundIndex x → AreIn from (length held) x → length (key_image (table_in from held x)) ≡ 16 + rows_len x.rows
table_in_length from held x is within = omega (arith, rows_in_length from held x.rows is.rows within)

-- a key has few bytes

short_name : (name : List ℕ) → is_key_name name ≡ true → length name ≤ 64
short_name name is =
    let both = and_parts (nat_lt 0 (length name) && nat_le (length name) 64) (list_all is_name_byte name) is in
    let long = (and_parts (nat_lt 0 (length name)) (nat_le (length name) 64) both.0).1 in
    grind (arith, long)

few_each : (bits : ℕ) → is_length bits ≡ true → bits / 8 ≤ 32
few_each bits long = grind (arith, long)

pub few_bytes : (row : IndexRow) → IsIndexRow row → is_key_name row.name ≡ true → length row.description ≤ 65535 → row_len row ≤ 2 ^ 30
few_bytes row is named short =
    let all : row.versions * (row.bits / 8) ≤ 65535 * (row.bits / 8) = mul-le-mul_right (row.bits / 8) is.few in
    omega (arith, all, few_each row.bits is.bits, short_name row.name named, short)

-- the keys of numbers

rows_len_suc : (rows : List PlacedRow) (k : ℕ) (d : PlacedRow) → k < length rows → rows_len (take (suc k) rows) ≡ rows_len (take k rows) + row_len (get_or rows k d).row
rows_len_suc [] k d within = absurd (omega arith)
rows_len_suc (placed ∷ rows) zero d within = omega arith
rows_len_suc (placed ∷ rows) (suc k) d within = omega (arith, rows_len_suc rows k d (omega arith))

pub rows_len_take : (rows : List PlacedRow) (k : ℕ) (d : PlacedRow) → k < length rows → rows_len (take (k + 1) rows) ≡ rows_len (take k rows) + row_len (get_or rows k d).row
rows_len_take rows k d within =
    let next : k + 1 ≡ suc k = omega arith in
    ap (λ n. rows_len (take n rows)) next ∙ rows_len_suc rows k d within

pub rows_len_more : (rows : List PlacedRow) (k : ℕ) (placed : PlacedRow) (more : List PlacedRow) → rows_len (rows ++ placed ∷ more) ≡ rows_len rows + row_len placed.row + rows_len more
rows_len_more [] k placed more = omega arith
rows_len_more (r ∷ rows) k placed more = omega (arith, rows_len_more rows k placed more)
