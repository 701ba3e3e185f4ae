-- The next key of an image.
use Rattle.std.proofs.Common.{◌≡◌, ℕ, zero, suc, ◌+◌, ◌-◌, ◌*◌, ◌/◌, ◌^◌, ◌<◌, ◌≤◌, true, false, cond, List, [], ◌∷◌, ◌++◌, length, find, Option, Some, None, is_some, option_map, refl, sym, ap, ◌∙◌, arith, length-append, length-drop}
use Rattle.std.specs.Prelude.{nat_lt}
use Rattle.std.specs.Int.{w32, to_be_bytes}
use Rattle.std.specs.List.{AllByRecursion, concat}
use Rattle.std.proofs.lemmas.Bool.Decides.{nat_tests}
use Rattle.std.proofs.lemmas.Option.{same_Some}
use Rattle.key_rows.specs.declared.rows.KeyRow.{KeyRow}
use Rattle.key_rows.specs.Image.{key_head, key_row_image}
use Rattle.key_rows.specs.Sound.{IsRow}
use Rattle.key_rows.proofs.Births.{other_number}
use Rattle.key_rows.proofs.ImageLemmas.{IsImagedKey}
use Rattle.key_index.specs.declared.rows.IndexRow.{IndexRow}
use Rattle.key_index.specs.declared.rows.PlacedRow.{PlacedRow}
use Rattle.key_index.specs.Adding.{MayAddRow, put_by_birth, with_placed}
use Rattle.std.proofs.Common.{Bor}
use Rattle.std.specs.Option.{option_copied}
use Rattle.key_rows.specs.Table.{find_name}
use Rattle.key_index.specs.Index.{Index, is_born, is_named, row_of, rows_of}
use Rattle.key_index.specs.Runs.{run_places}
use Rattle.key_index.proofs.Searches.{named_in, nothing, row_missing}
use Rattle.key_images.specs.Adding.{IsNextKey, IsNoNextKey, MayBeNext}
use Rattle.key_images.specs.Places.{brief, placed_key}
use Rattle.key_images.specs.Rows.{row_at}
use Rattle.key_images.proofs.ChunkLemmas.{chunks_join, chunks_long, last_long, length_chunks, newest_chunk}
use Rattle.std.specs.Prelude.{IsErrOf, Err}
use Rattle.hk_base.specs.declared.records.RecordFault.{RecordFault}
use Rattle.hk_base.specs.declared.records.RecordFault.TheVariants.{NoRecord, NoMemory}
use Rattle.key_rows.specs.Reading.{FailsToRead}
use Rattle.key_images.proofs.RowReads.{RowTaken, full, read_row, row_again}

pub length-run : (first step n : ℕ) → length (run_places first step n) ≡ n
length-run first step zero = refl
length-run first step (suc n) = omega (arith, length-append (run_places first step n) ((first + step * n) ∷ []), length-run first step n)

abbrev pub AreBelow : ℕ → List PlacedRow → Type 0
AreBelow low rows = AllByRecursion (λ (placed : PlacedRow). placed.row.birth ≤ low) rows

-- a key with a greater birth comes last
put_last : (new : PlacedRow) (low : ℕ) (rows : List PlacedRow) → AreBelow low rows → low < new.row.birth → put_by_birth new rows ≡ rows ++ new ∷ []
put_last new low [] below above = refl
put_last new low (placed ∷ rows) below above =
    let less : nat_lt placed.row.birth new.row.birth ≡ true = grind (arith, nat_tests, below.0, above) in
    ap (λ b. cond b (placed ∷ put_by_birth new rows) (new ∷ placed ∷ rows)) less ∙ ap (λ (w : List PlacedRow). placed ∷ w) (put_last new low rows below.1 above)

none_born : (birth low : ℕ) (rows : List PlacedRow) → AreBelow low rows → low < birth → AllByRecursion (λ (placed : PlacedRow). is_born birth placed ≡ false) rows
none_born birth low [] below above = tt
none_born birth low (placed ∷ rows) below above = (other_number placed.row.birth birth (λ same. absurd (omega (arith, below.0, above, same))), none_born birth low rows below.1 above)

module _ (bytes : List ℕ) (row : IndexRow) (materials rest : List ℕ) (taken : RowTaken bytes row materials rest) (low end : ℕ) (x : Index)
    (above : low < row.birth) (used : row.birth ≤ x.greatest) (fresh : find (is_named row.name) x.rows ≡ None) (start : 2 ^ 32 ≤ low + 1) where
  abbrev its_key : KeyRow
  its_key = full row materials

  its_rules : IsRow its_key
  its_rules = record {
    born = omega (arith, above, start);
    bits = taken.bits;
    some = omega (arith, taken.some, length_chunks (row.bits / 8) row.versions materials);
    few = omega (arith, taken.few, length_chunks (row.bits / 8) row.versions materials);
    materials = chunks_long (row.bits / 8) row.versions materials taken.long;
  }

  its_brief : brief its_key ≡ row
  its_brief =
      let current = newest_chunk (row.bits / 8) row.versions materials taken.some taken.long ∙ sym taken.current in
      let versions = length_chunks (row.bits / 8) row.versions materials in
      λ i. record { name = row.name; birth = row.birth; bits = row.bits; current = current i; versions = versions i; description = row.description; created = row.created }

  first_is : length bytes ≤ end → end - (length materials + length rest) ≡ end - length bytes + length (key_row_image its_key) - length (concat its_key.materials)
  first_is within =
      let whole : length bytes ≡ length (key_row_image its_key) + length rest = ap length taken.parts ∙ length-append (key_row_image its_key) rest in
      let inside : length (concat its_key.materials) ≤ length (key_row_image its_key) = omega (arith, length-append (key_head row.birth row.name row.bits row.description row.created) (to_be_bytes w32 (length its_key.materials) ++ concat its_key.materials), length-append (to_be_bytes w32 (length its_key.materials)) (concat its_key.materials)) in
      let same : length (concat its_key.materials) ≡ length materials = ap length (chunks_join (row.bits / 8) row.versions materials taken.long) in
      omega (arith, whole, inside, same, within)

  its_place : (first : ℕ) (places : List ℕ) → length bytes ≤ end → first ≡ end - (length materials + length rest) → places ≡ run_places first (row.bits / 8) row.versions
      → record { row = row; places = places } ≡ placed_key (end - length bytes) its_key
  its_place first places within at are =
      let all : places ≡ (placed_key (end - length bytes) its_key).places =
      are ∙ ap (λ n. run_places n (row.bits / 8) row.versions) (at ∙ first_is within)
      ∙ ap (λ n. run_places (end - length bytes + length (key_row_image its_key) - length (concat its_key.materials)) (row.bits / 8) n) (sym (length_chunks (row.bits / 8) row.versions materials)) in
      λ i. record { row = sym its_brief i; places = all i }

  pub may_add : (places : List ℕ) (first : ℕ) → AreBelow low x.rows → length x.rows < 10000 → places ≡ run_places first (row.bits / 8) row.versions → MayAddRow x row places
  may_add places first below few are = record {
    rules = record {
      born = omega (arith, above, start);
      bits = taken.bits;
      some = taken.some;
      few = taken.few;
      current = ap length taken.current ∙ length-drop ((row.versions - 1) * (row.bits / 8)) materials ∙ ap (λ n. n - (row.versions - 1) * (row.bits / 8)) taken.long ∙ last_long row.versions (row.bits / 8) taken.some;
    };
    name = fresh;
    birth = row_missing row.birth x.rows (none_born row.birth low x.rows below above);
    used = used;
    few = few;
    each_placed = ap length are ∙ length-run first (row.bits / 8) row.versions;
  }

  pub is_next : (new : Index) (first : ℕ) (places : List ℕ) → AreBelow low x.rows → length bytes ≤ end → first ≡ end - (length materials + length rest) → places ≡ run_places first (row.bits / 8) row.versions
      → new ≡ with_placed x row places → IsNextKey bytes end low x new row.birth rest
  is_next new first places below within at are added = record {
    key = its_key;
    parts = taken.parts;
    may = record { rules = its_rules; spelled = taken.spelled; above = above; used = used; fresh = fresh };
    birth_is = refl;
    added = added
        ∙ ap (λ (rows : List PlacedRow). record x { rows = rows }) (put_last (record { row = row; places = places }) low x.rows below above
        ∙ ap (λ (p : PlacedRow). x.rows ++ p ∷ []) (its_place first places within at are));
  }

imaged : (low : ℕ) (x : Index) (key : KeyRow) → x.greatest < 2 ^ 64 → MayBeNext low x key → IsImagedKey key
imaged low x key small may = record { birth_fits = omega (arith, may.used, small); rules = may.rules; spelled = may.spelled }

none_some : {A : Type 0} (o : Option A) (x : A) → o ≡ None → o ≡ Some x → ⊥
none_some None x none some = absurd cc
none_some (Some y) x none some = absurd cc

-- bytes that are no key
pub no_key : (bytes : List ℕ) (low : ℕ) (x : Index) → x.greatest < 2 ^ 64 → row_at bytes ≡ None → IsNoNextKey bytes low x
no_key bytes low x small none key rest may same =
    none_some (row_at bytes) (read_row key, concat key.materials, rest) none (ap row_at same ∙ row_again key rest (imaged low x key small may))

pub failed : {T : Type 0} (bytes : List ℕ) (low : ℕ) (x : Index) (f : RecordFault) → x.greatest < 2 ^ 64 → FailsToRead f (row_at bytes) → IsErrOf {T = T} (Err f) NoRecord → IsNoNextKey bytes low x
failed bytes low x NoRecord small none e = no_key bytes low x small none
failed bytes low x NoMemory small none e = absurd cc

-- bytes of a key that may not be the next
pub not_next : (bytes : List ℕ) (low : ℕ) (x : Index) (row : IndexRow) (materials rest : List ℕ) → x.greatest < 2 ^ 64 → row_at bytes ≡ Some (row, materials, rest)
    → (low < row.birth → row.birth ≤ x.greatest → find (is_named row.name) x.rows ≡ None → ⊥) → IsNoNextKey bytes low x
not_next bytes low x row materials rest small read bad key more may same =
    let both = same_Some (row, materials, rest) (read_row key, concat key.materials, more) (sym read ∙ ap row_at same ∙ row_again key more (imaged low x key small may)) in
    let births : row.birth ≡ key.birth = ap (λ (p : IndexRow × List ℕ × List ℕ). p.0.birth) both in
    let names : row.name ≡ key.name = ap (λ (p : IndexRow × List ℕ × List ℕ). p.0.name) both in
    bad (omega (arith, may.above, births)) (omega (arith, may.used, births)) (ap (λ (n : List ℕ). find (is_named n) x.rows) names ∙ may.fresh)

-- a name that is looked up
pub name_found : (rows : List PlacedRow) (name : List ℕ) (o : Option (Bor IndexRow)) → option_map (row_of nothing) (option_copied o) ≡ find_name (rows_of nothing rows) name → is_some (find (is_named name) rows) ≡ is_some o
name_found rows name o found = go (find (is_named name) rows) o (found ∙ named_in nothing rows name)
  where
    go : (f : Option PlacedRow) (o : Option (Bor IndexRow)) → option_map (row_of nothing) (option_copied o) ≡ option_map (λ placed. row_of nothing placed.row) f → is_some f ≡ is_some o
    go None None e = refl
    go None (Some r) e = absurd cc
    go (Some p) None e = absurd cc
    go (Some p) (Some r) e = refl

-- what was read of a key, whatever the result is
abbrev pub RowOf : Type 0
RowOf = IndexRow × Bor (List ℕ) × Bor (List ℕ)

abbrev pub seen : RowOf → IndexRow × List ℕ × List ℕ
seen x = (x.0, x.1.now, x.2.now)

-- bytes that end at an offset have room for their parts
pub long_enough : (bytes : List ℕ) (row : IndexRow) (materials rest : List ℕ) (end : ℕ) → RowTaken bytes row materials rest → length bytes ≤ end → length materials + length rest ≤ end
long_enough bytes row materials rest end taken within =
    let key = full row materials in
    let whole : length bytes ≡ length (key_row_image key) + length rest = ap length taken.parts ∙ length-append (key_row_image key) rest in
    let inside : length (concat key.materials) ≤ length (key_row_image key) = omega (arith, length-append (key_head row.birth row.name row.bits row.description row.created) (to_be_bytes w32 (length key.materials) ++ concat key.materials), length-append (to_be_bytes w32 (length key.materials)) (concat key.materials)) in
    let same : length (concat key.materials) ≡ length materials = ap length (chunks_join (row.bits / 8) row.versions materials taken.long) in
    omega (arith, whole, inside, same, within)

-- a name that was not found
pub fresh_name : (o : Option PlacedRow) → is_some o ≡ false → o ≡ None
fresh_name None e = refl
fresh_name (Some p) e = absurd cc

-- the same fault of another result
pub err_again : {T U : Type 0} (f : RecordFault) → IsErrOf {T = T} (Err f) NoRecord → IsErrOf {T = U} (Err f) NoRecord
err_again NoRecord e = refl
err_again NoMemory e = absurd cc
