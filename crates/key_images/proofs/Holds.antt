-- The materials of an image, at their places in the file.
use Rattle.std.proofs.Common.{◌≡◌, ℕ, zero, suc, ◌+◌, ◌-◌, ◌*◌, ◌/◌, ◌<◌, ◌≤◌, cond, List, [], ◌∷◌, ◌++◌, length, take, drop, map, get_or, Option, Some, None, refl, sym, ap, subst, ◌∙◌, append_assoc, arith, length-append, length-take, length-drop}
use Rattle.std.specs.Int.{w32, w64, to_be_bytes}
use Rattle.std.specs.List.{AllByRecursion, concat}
use Rattle.std.proofs.Math.Seq.{drop-append_seam, take-append_seam, take-length, take-suc}
use Rattle.std.proofs.lemmas.Bool.Decides.{Decides-eqb}
use Rattle.std.proofs.lemmas.List.{take-append-drop}
use Rattle.hk_base.specs.Disk.{piece}
use Rattle.hk_base.specs.declared.names.Dek.{Dek}
use Rattle.key_rows.specs.declared.rows.KeyRow.{KeyRow}
use Rattle.key_rows.specs.Image.{IsKeyImage, key_head, key_image, key_row_image, key_rows_image}
use Rattle.key_rows.specs.Sound.{AreRowsRising, IsRow}
use Rattle.key_rows.specs.Table.{Table, find_birth}
use Rattle.key_rows.proofs.Births.{other_number}
use Rattle.key_index.specs.Held.{IsHeld}
use Rattle.key_index.specs.Index.{Materials, older, row_of, rows_of, table_of}
use Rattle.key_index.specs.Runs.{run_places}
use Rattle.key_images.specs.Laws.{StandsInFile}
use Rattle.key_images.specs.Places.{brief, index_at, last_of, newest_of, placed_key, placed_keys}
use Rattle.key_images.proofs.ChunkLemmas.{AreLong}

-- the bytes are at this offset of the file
record At (file : List ℕ) (at : ℕ) (bytes : List ℕ) : Type 0 where
  before : List ℕ
  after : List ℕ
  file_is : file ≡ before ++ (bytes ++ after)
  place : length before ≡ at

at_front : (file : List ℕ) (at : ℕ) (a b : List ℕ) → At file at (a ++ b) → At file at a
at_front file at a b h = record { before = h.before; after = b ++ h.after; file_is = h.file_is ∙ ap (λ (w : List ℕ). h.before ++ w) (append_assoc a b h.after); place = h.place }

at_back : (file : List ℕ) (at : ℕ) (a b : List ℕ) → At file at (a ++ b) → At file (at + length a) b
at_back file at a b h = record {
  before = h.before ++ a;
  after = h.after;
  file_is = h.file_is ∙ ap (λ (w : List ℕ). h.before ++ w) (append_assoc a b h.after) ∙ sym (append_assoc h.before a (b ++ h.after));
  place = omega (arith, length-append h.before a, h.place);
}

piece_of : (file : List ℕ) (at : ℕ) (bytes : List ℕ) → At file at bytes → piece at (length bytes) file ≡ bytes
piece_of file at bytes h =
    ap (λ (w : List ℕ). take (length bytes) (drop at w)) h.file_is
    ∙ ap (λ n. take (length bytes) (drop n (h.before ++ (bytes ++ h.after)))) (sym h.place)
    ∙ ap (take (length bytes)) (drop-append_seam h.before (bytes ++ h.after))
    ∙ take-append_seam bytes h.after

at_piece : (file : List ℕ) (at : ℕ) (bytes : List ℕ) → 0 < length bytes → piece at (length bytes) file ≡ bytes → At file at bytes
at_piece file at bytes some is =
    let long : length bytes ≤ length (drop at file) = omega (arith, ap length is, length-take (length bytes) (drop at file)) in
    record {
      before = take at file;
      after = drop (length bytes) (drop at file);
      file_is = sym (take-append-drop at file) ∙ ap (λ (w : List ℕ). take at file ++ w) (sym (take-append-drop (length bytes) (drop at file)) ∙ ap (λ (w : List ℕ). w ++ drop (length bytes) (drop at file)) is);
      place = omega (arith, length-take at file, length-drop at file, long, some);
    }

-- a run of places begins with its first one
run_cons : (first step n : ℕ) → run_places first step (suc n) ≡ first ∷ run_places (first + step) step n
run_cons first step zero = ap (λ k. k ∷ []) (omega arith)
run_cons first step (suc n) =
    let next : first + step * suc n ≡ first + step + step * n = omega arith in
    ap (λ (w : List ℕ). w ++ (first + step * suc n) ∷ []) (run_cons first step n)
    ∙ ap (λ k. first ∷ (run_places (first + step) step n ++ k ∷ [])) next

-- materials one after the other are at the places of a run
pieces_at : (file : List ℕ) (at len : ℕ) (ms : List (List ℕ)) → AreLong len ms → At file at (concat ms) → map (λ p. piece p len file) (run_places at len (length ms)) ≡ ms
pieces_at file at len [] long h = refl
pieces_at file at len (m ∷ ms) long h =
    let first : piece at len file ≡ m = ap (λ n. piece at n file) (sym long.0) ∙ piece_of file at m (at_front file at m (concat ms) h) in
    let rest = pieces_at file (at + len) len ms long.1 (subst (λ n. At file (at + n) (concat ms)) long.0 (at_back file at m (concat ms) h)) in
    ap (map (λ p. piece p len file)) (run_cons at len (length ms)) ∙ (λ i. first i ∷ rest i)

-- the materials of a row, by its birth

older_is : (m : Materials) (b : ℕ) (ms : List (List ℕ)) (k : ℕ) → k ≤ length ms → ((n : ℕ) → m b n ≡ get_or ms n []) → older m b k ≡ take k ms
older_is m b ms zero within fits = refl
older_is m b ms (suc k) within fits =
    ap (λ (w : List (List ℕ)). w ++ m b k ∷ []) (older_is m b ms k (omega arith) fits)
    ∙ ap (λ (w : List ℕ). take k ms ++ w ∷ []) (fits k)
    ∙ sym (take-suc ms k [] (omega arith))

last_get : (x : List ℕ) (ms : List (List ℕ)) → last_of x ms ≡ get_or (x ∷ ms) (length ms) []
last_get x [] = refl
last_get x (y ∷ ms) = last_get y ms

all_materials : (m : Materials) (b : ℕ) (ms : List (List ℕ)) → 0 < length ms → ((n : ℕ) → m b n ≡ get_or ms n []) → older m b (length ms - 1) ++ newest_of ms ∷ [] ≡ ms
all_materials m b [] some fits = absurd (omega arith)
all_materials m b (x ∷ ms) some fits =
    let count : length (x ∷ ms) - 1 ≡ length ms = omega arith in
    ap (λ k. older m b k ++ last_of x ms ∷ []) count
    ∙ ap (λ (w : List (List ℕ)). w ++ last_of x ms ∷ []) (older_is m b (x ∷ ms) (length ms) (omega arith) fits)
    ∙ ap (λ (w : List ℕ). take (length ms) (x ∷ ms) ++ w ∷ []) (last_get x ms)
    ∙ sym (take-suc (x ∷ ms) (length ms) [] (omega arith))
    ∙ take-length (x ∷ ms)

record IsTold (m : Materials) (row : KeyRow) : Type 0 where
  materials : (n : ℕ) → m row.birth n ≡ get_or row.materials n []
  rules : IsRow row

-- what the index has of a key stands for the key, whose materials are as long as it says
pub record Fits (m : Materials) (row : KeyRow) : Type 0 where
  pub stands : row_of m (brief row) ≡ row
  pub long : AreLong (row.bits / 8) row.materials

fits : (m : Materials) (row : KeyRow) → IsTold m row → Fits m row
fits m row tells =
    let all = all_materials m row.birth row.materials tells.rules.some tells.materials in
    record {
      stands = λ i. record { name = row.name; birth = row.birth; bits = row.bits; materials = all i; description = row.description; created = row.created };
      long = tells.rules.materials;
    }

rows_stand : (m : Materials) (place : ℕ) (rows : List KeyRow) → AllByRecursion (Fits m) rows → rows_of m (placed_keys place rows) ≡ rows
rows_stand m place [] fits = refl
rows_stand m place (row ∷ rows) fits = λ i. fits.0.stands i ∷ rows_stand m (place + length (key_row_image row)) rows fits.1 i

row_held : (m : Materials) (file : List ℕ) (place : ℕ) (row : KeyRow) → Fits m row → At file place (key_row_image row) → IsHeld m file (placed_key place row)
row_held m file place row fits h =
    let head = key_head row.birth row.name row.bits row.description row.created in
    let count = to_be_bytes w32 (length row.materials) in
    let whole = concat row.materials in
    let there = at_back file (place + length head) count whole (at_back file place head (count ++ whole) h) in
    let offset : place + length head + length count ≡ place + length (key_row_image row) - length whole = omega (arith, length-append head (count ++ whole), length-append count whole) in
    let its : row.materials ≡ (row_of m (brief row)).materials = sym (ap (λ (r : KeyRow). r.materials) fits.stands) in
    record {
      pieces = pieces_at file (place + length (key_row_image row) - length whole) (row.bits / 8) row.materials fits.long (subst (λ n. At file n whole) offset there) ∙ its;
      sized = subst (AreLong (row.bits / 8)) its fits.long;
    }

rows_held : (m : Materials) (file : List ℕ) (place : ℕ) (rows : List KeyRow) → AllByRecursion (Fits m) rows → At file place (key_rows_image rows) → AllByRecursion (IsHeld m file) (placed_keys place rows)
rows_held m file place [] fits h = tt
rows_held m file place (row ∷ rows) fits h =
    (row_held m file place row fits.0 (at_front file place (key_row_image row) (key_rows_image rows) h), rows_held m file (place + length (key_row_image row)) rows fits.1 (at_back file place (key_row_image row) (key_rows_image rows) h))

-- the materials of a table

abbrev materials_of : Option KeyRow → List Dek
materials_of None = []
materials_of (Some row) = row.materials

abbrev materials_in : List KeyRow → Materials
materials_in rows birth n = get_or (materials_of (find_birth rows birth)) n []

found_all : (low : ℕ) (rows : List KeyRow) (top : ℕ) → AreRowsRising low rows top → AllByRecursion (λ (row : KeyRow). (low < row.birth) × (find_birth rows row.birth ≡ Some row)) rows
found_all low [] top rising = tt
found_all low (r ∷ rows) top rising =
    ((rising.0, ap (λ b. cond b (Some r) (find_birth rows r.birth)) ((Decides-eqb r.birth r.birth).1 refl)), lift rows (found_all r.birth rows top rising.1))
  where
    lift : (rest : List KeyRow) → AllByRecursion (λ (row : KeyRow). (r.birth < row.birth) × (find_birth rows row.birth ≡ Some row)) rest → AllByRecursion (λ (row : KeyRow). (low < row.birth) × (find_birth (r ∷ rows) row.birth ≡ Some row)) rest
    lift [] each = tt
    lift (row ∷ rest) each =
        ((omega (arith, rising.0, each.0.0), ap (λ b. cond b (Some r) (find_birth rows row.birth)) (other_number r.birth row.birth (λ same. absurd (omega (arith, each.0.0, same)))) ∙ each.0.1), lift rest each.1)

fits_all : (rows each : List KeyRow) → AllByRecursion (λ (row : KeyRow). (0 < row.birth) × (find_birth rows row.birth ≡ Some row)) each → AllByRecursion IsRow each → AllByRecursion (Fits (materials_in rows)) each
fits_all rows [] found rules = tt
fits_all rows (row ∷ each) found rules =
    (fits (materials_in rows) row (record { materials = λ n. ap (λ (o : Option KeyRow). get_or (materials_of o) n []) found.0.1; rules = rules.0 }), fits_all rows each found.1 rules.1)

-- a file that has the image holds the materials of an index that fits

pub image_holds : (m : Materials) (file : List ℕ) (place : ℕ) (t : Table) → AllByRecursion (Fits m) t.rows → piece place (length (key_image t)) file ≡ key_image t → AllByRecursion (IsHeld m file) (index_at place t).rows
image_holds m file place t fits there =
    let opening = to_be_bytes w32 t.opening in
    let greatest = to_be_bytes w64 t.greatest in
    let count = to_be_bytes w32 (length t.rows) in
    let rows = key_rows_image t.rows in
    let some : 0 < length (key_image t) = omega arith in
    let all : At file place (key_image t) = at_piece file place (key_image t) some there in
    let inside = at_back file (place + length opening + length greatest) count rows (at_back file (place + length opening) greatest (count ++ rows) (at_back file place opening (greatest ++ (count ++ rows)) all)) in
    let offset : place + length opening + length greatest + length count ≡ place + 16 = omega arith in
    rows_held m file (place + 16) t.rows fits (subst (λ n. At file n rows) offset inside)

pub table_stands : (m : Materials) (place : ℕ) (t : Table) → AllByRecursion (Fits m) t.rows → table_of m (index_at place t) ≡ t
table_stands m place t fits = ap (λ (rs : List KeyRow). record t { rows = rs }) (rows_stand m (place + 16) t.rows fits)

pub image_is_held : (file bytes : List ℕ) (place : ℕ) (t : Table) → IsKeyImage bytes t → piece place (length bytes) file ≡ bytes → StandsInFile file (index_at place t) t
image_is_held file bytes place t is there =
    let m = materials_in t.rows in
    let fits = fits_all t.rows t.rows (found_all 0 t.rows t.greatest is.has.table.births) is.has.table.rows in
    record {
      older = m;
      table_is = table_stands m place t fits;
      held = image_holds m file place t fits (subst (λ (bs : List ℕ). piece place (length bs) file ≡ bs) is.bytes_are there);
    }
