-- An older material: what the table, the log and the cache say of it.
use Rattle.std.proofs.Common.{◌≡◌, ℕ, zero, suc, ◌+◌, ◌-◌, ◌/◌, ◌<◌, ◌≤◌, true, nat_lt, List, [], ◌∷◌, ◌++◌, length, drop, find, map, Option, Some, None, option_map, IfSome, refl, sym, ◌∙◌, ap, subst, arith, inl, inr, length-take, length-drop}
use Rattle.std.specs.Prelude.{IsTrue, option_and_then, slice_get}
use Rattle.std.specs.List.{AllByRecursion}
use Rattle.std.proofs.lemmas.Bool.{cases_lt, ltb-true}
use Rattle.std.proofs.lemmas.Bool.Decides.{nat_tests}
use Rattle.hk_base.specs.Disk.{DiskState, LeavesOnly, Reads, RunOn, Tells, piece}
use Rattle.hk_base.proofs.Runs.{begin, weaker}
use Rattle.hk_base.specs.declared.names.Dek.{Dek}
use Rattle.hk_base.specs.declared.names.VersionName.{VersionName}
use Rattle.frame_log.proofs.Layers.{still_stands}
use Rattle.key_rows.proofs.Births.{found_has}
use Rattle.key_rows.specs.declared.rows.KeyRow.{KeyRow}
use Rattle.key_rows.specs.Records.{spelling}
use Rattle.key_rows.specs.Sound.{IsRow}
use Rattle.key_rows.specs.Table.{Table, find_name, is_length, material_of}
use Rattle.key_index.specs.declared.cache.MaterialKey.{MaterialKey}
use Rattle.key_index.specs.declared.rows.IndexRow.{IndexRow}
use Rattle.key_index.specs.declared.rows.PlacedRow.{PlacedRow}
use Rattle.key_index.specs.Cache.{AreCached, IsOlder}
use Rattle.key_index.specs.Held.{AreHeld, IsMaterialAt, has_older}
use Rattle.key_index.specs.Index.{Index, Materials, is_named, older, place_of, row_of, rows_of}
use Rattle.key_index.specs.Sound.{IsPlacedRow, IsSoundIndex}
use Rattle.key_index.proofs.CacheLemmas.{placed_older}
use Rattle.key_index.proofs.LogLemmas.{on_disk}
use Rattle.key_index.proofs.Lookups.{held_place}
use Rattle.key_index.proofs.Searches.{named_in}
use Rattle.key_index.proofs.Standing.{length-older, versions_of}
use Rattle.kms_store.specs.Store.{HasMaterials, IsRowOf, ReadsMaterials, StandsFor, StoreState, is_older}
use Rattle.kms_store.proofs.Layers.{log_of_store}
use Rattle.kms_store.proofs.RowLemmas.{last_is}

first_in : (xs : List (List ℕ)) (x : List ℕ) (i : ℕ) → i < length xs → slice_get (xs ++ x ∷ []) i ≡ slice_get xs i
first_in [] x i small = absurd (omega (arith, small))
first_in (y ∷ ys) x zero small = refl
first_in (y ∷ ys) x (suc i) small = first_in ys x i (omega (arith, small))

older_get : (m : Materials) (birth n i : ℕ) → i < n → slice_get (older m birth n) i ≡ Some (m birth i)
older_get m birth zero i small = absurd (omega (arith, small))
older_get m birth (suc n) i small = elim (cases_lt i n) [
  | inl less ↦ first_in (older m birth n) (m birth n) i (omega (arith, less, length-older m birth n)) ∙ older_get m birth n i less
  | inr more ↦
      let same : n ≡ i = omega (arith, small, more) in
      last_is (older m birth n) (m birth n) i (length-older m birth n ∙ same) ∙ ap (λ (k : ℕ). Some (m birth k)) same
]

each_get : (P : List ℕ → Type 0) (xs : List (List ℕ)) (i : ℕ) (x : List ℕ) → AllByRecursion P xs → slice_get xs i ≡ Some x → P x
each_get P [] i x each found = absurd cc
each_get P (y ∷ ys) zero x each found = let same : y ≡ x = cc found in subst P same each.0
each_get P (y ∷ ys) (suc i) x each found = each_get P ys i x each.1 found

-- a version that is not the current one of its key has others after it
older_less : (t : Table) (version : VersionName) (key : KeyRow) → find_name t.rows version.key ≡ Some key → is_older t version ≡ true → version.number + 1 < length key.materials
older_less t version key found older =
    let here : nat_lt (version.number + 1) (length key.materials) ≡ true = ap (λ (o : Option KeyRow). has_older o version.number) (sym found) ∙ older in
    ltb-true (version.number + 1) (length key.materials) here

module _ (m : Materials) (x : Index) (t : Table) (version : VersionName) (key : KeyRow) (sound : IsSoundIndex x) (stands : StandsFor m x t) (found : find_name t.rows version.key ≡ Some key) where
  -- the row that the key is of
  row_is : (placed : PlacedRow) × (find (is_named version.key) x.rows ≡ Some placed) × (row_of m placed.row ≡ key) × IsPlacedRow placed
  row_is = go (find (is_named version.key) x.rows) refl (found_has IsPlacedRow (is_named version.key) x.rows sound.rows)
    where
      here : option_map (λ placed. row_of m placed.row) (find (is_named version.key) x.rows) ≡ Some key
      here = sym (named_in m x.rows version.key) ∙ ap (λ (u : Table). find_name u.rows version.key) stands.table_is ∙ found

      go : (o : Option PlacedRow) → find (is_named version.key) x.rows ≡ o → IfSome o IsPlacedRow → (placed : PlacedRow) × (find (is_named version.key) x.rows ≡ Some placed) × (row_of m placed.row ≡ key) × IsPlacedRow placed
      go None is rules = let none : None ≡ Some key = ap (option_map (λ placed. row_of m placed.row)) (sym is) ∙ here in absurd (cc none)
      go (Some placed) is rules = let some : Some (row_of m placed.row) ≡ Some key = ap (option_map (λ placed. row_of m placed.row)) (sym is) ∙ here in (placed, is, cc some, rules)

  material_is : version.number + 1 < length key.materials → slice_get key.materials version.number ≡ Some (m key.birth version.number)
  material_is less =
      let r = row_is in
      let row : IndexRow = r.0.row in
      let some : 1 ≤ row.versions = omega (arith, r.3.row.some) in
      let count : length (row_of m row).materials ≡ row.versions = versions_of m row some in
      let long : length (row_of m row).materials ≡ length key.materials = ap (λ (k : KeyRow). length k.materials) r.2 in
      let here : slice_get (row_of m row).materials version.number ≡ Some (m row.birth version.number) =
      first_in (older m row.birth (row.versions - 1)) row.current version.number (omega (arith, less, count, long, length-older m row.birth (row.versions - 1)))
      ∙ older_get m row.birth (row.versions - 1) version.number (omega (arith, less, count, long)) in
      subst (λ (k : KeyRow). slice_get k.materials version.number ≡ Some (m k.birth version.number)) r.2 here

  -- the table says the same of it
  pub older_material : version.number + 1 < length key.materials → material_of t.rows version ≡ Some (m key.birth version.number)
  older_material less = ap (λ (o : Option KeyRow). option_and_then (λ row. slice_get row.materials version.number) o) found ∙ material_is less

  -- a version that has a place is an older one, for the cache
  pub is_older_key : (place : ℕ) → place_of x.rows version ≡ Some place → IsOlder x (record { birth = key.birth; number = version.number })
  is_older_key place placed =
      let r = row_is in
      subst (λ (k : KeyRow). IsOlder x (record { birth = k.birth; number = version.number })) r.2 (placed_older x version r.0 place sound r.1 placed)

  module _ (place : ℕ) (file : List ℕ) (placed : place_of x.rows version ≡ Some place) (held : AreHeld m file x) (rules : IsRow key) (less : version.number + 1 < length key.materials) where
    at_place : slice_get key.materials version.number ≡ Some (piece place (key.bits / 8) file)
    at_place =
        let at = subst (λ (o : Option ℕ). IfSome o (IsMaterialAt (rows_of m x.rows) version file)) placed (held_place m file x.rows version held) in
        let same : Some at.row ≡ Some key = sym at.found ∙ ap (λ (u : Table). find_name u.rows version.key) stands.table_is ∙ found in
        let row : at.row ≡ key = cc same in
        subst (λ (k : KeyRow). slice_get k.materials version.number ≡ Some (piece place (k.bits / 8) file)) row at.material

    -- what is read from its place is the material
    pub piece_is : piece place (key.bits / 8) file ≡ m key.birth version.number
    piece_is = let both : Some (piece place (key.bits / 8) file) ≡ Some (m key.birth version.number) = sym at_place ∙ material_is less in cc both

    pub piece_within : 0 < key.bits / 8 → place + key.bits / 8 ≤ length file
    piece_within some =
        let n : ℕ = key.bits / 8 in
        let long : length (piece place n file) ≡ n = each_get (λ (material : List ℕ). length material ≡ key.bits / 8) key.materials version.number (piece place n file) rules.materials at_place in
        omega (arith, some, long, length-take n (drop place file), length-drop place file)

-- a key has at least one byte
some_bytes : (bits : ℕ) → is_length bits ≡ true → 0 < bits / 8
some_bytes bits is = grind (arith, nat_tests, is)

-- what is known of an older version that was asked for: its row, and its place
pub record Asked (store : StoreState) (version : VersionName) (birth : ℕ) (row : IndexRow) (place : ℕ) : Type 0 where
  pub of : IsRowOf store.table.keys (find_name store.table.keys.rows version.key) row
  pub born : IfSome (find_name store.table.keys.rows version.key) (λ key. key.birth ≡ birth)
  pub placed : place_of store.index.rows version ≡ Some place
  pub older : is_older store.table.keys version ≡ true
  pub sound : IsSoundIndex store.index
  pub file : store.log.file ≡ 0

module _ (d : DiskState) (store : StoreState) (version : VersionName) (birth : ℕ) (row : IndexRow) (place : ℕ) (a : Asked store version birth row place) (s : HasMaterials d store) where
  less : version.number + 1 < length a.of.key.materials
  less = older_less store.table.keys version a.of.key a.of.is a.older

  born : a.of.key.birth ≡ birth
  born = subst (λ (o : Option KeyRow). IfSome o (λ key. key.birth ≡ birth)) a.of.is a.born

  stands : StandsFor s.older store.index store.table.keys
  stands = s.stands

  -- the table has the material that the log and the cache have
  pub table_has : material_of store.table.keys.rows version ≡ Some (s.older birth version.number)
  table_has = older_material s.older store.index store.table.keys version a.of.key a.sound stands a.of.is less ∙ ap (λ (b : ℕ). Some (s.older b version.number)) born

  pub older_key : IsOlder store.index (record { birth = birth; number = version.number })
  older_key = subst (λ (b : ℕ). IsOlder store.index (record { birth = b; number = version.number })) born (is_older_key s.older store.index store.table.keys version a.of.key a.sound stands a.of.is place a.placed)

  pub file_has : piece place (row.bits / 8) (d.reads 0) ≡ s.older birth version.number
  file_has =
      ap (λ (n : ℕ). piece place (n / 8) (d.reads 0)) a.of.shows.bits
      ∙ piece_is s.older store.index store.table.keys version a.of.key a.sound stands a.of.is place (d.reads 0) a.placed s.held a.of.rules less
      ∙ ap (λ (b : ℕ). s.older b version.number) born

  pub file_within : place + row.bits / 8 ≤ length (d.reads 0)
  file_within =
      subst (λ (n : ℕ). place + n / 8 ≤ length (d.reads 0)) (sym a.of.shows.bits)
      (piece_within s.older store.index store.table.keys version a.of.key a.sound stands a.of.is place (d.reads 0) a.placed s.held a.of.rules less (some_bytes a.of.key.bits a.of.rules.bits))

-- materials that were read change at most the cache
pub reads_with : (old new : DiskState) (store : StoreState) (cache : List (MaterialKey × Dek)) → store.log.file ≡ 0 → Reads 0 old new → RunOn 0 old new → LeavesOnly 0 old new (old.leaves 0)
    → (Tells old → (s : HasMaterials old store) → AreCached s.older store.index cache) → ReadsMaterials old new store (record store { cache = cache })
reads_with old new store cache file same run moments cached = record {
  same = refl;
  kept = λ tells commands s. record {
    spelled = s.spelled;
    makes = s.makes;
    waits = s.waits;
    log = still_stands 0 old new store.log (map spelling commands) (option_map spelling store.pending) same file tells s.log;
    materials = record { older = s.materials.older; stands = s.materials.stands; held = s.materials.held; cached = cached tells (record { older = s.materials.older; stands = s.materials.stands; held = on_disk old store.log (option_map spelling store.pending) s.materials.older commands store.index s.log file s.materials.held; cached = s.materials.cached }) };
  };
  moments = λ tells commands s.
      weaker (λ c left. log_of_store old store commands file s c (s.log.leaves c (subst (λ (k : ℕ). old.leaves k c) (sym file) left))) moments;
  run = run;
  held = λ tells s. record { older = s.older; stands = s.stands; held = subst (λ (bytes : List ℕ). AreHeld s.older bytes store.index) (sym (same.reads tells)) s.held; cached = cached tells s };
  reads = same;
  leaves = moments;
}

-- The same of the store as its clauses see it. `before` is its view while its fields are used.
module _ (d : DiskState) (before now : StoreState) (view : before ≡ now) (version : VersionName) (birth : ℕ) (row : IndexRow) (place : ℕ) (a : Asked before version birth row place) where
  seen : HasMaterials d now → HasMaterials d before
  seen = subst (λ (x : StoreState). HasMaterials d x) (sym view)

  pub given_by : (material : Dek) → (IsTrue (is_older now.table.keys version) → Tells d) → (Tells d → HasMaterials d now)
      → (Tells d → (s : HasMaterials d before) → material ≡ s.older birth version.number) → material_of now.table.keys.rows version ≡ Some material
  given_by material tells_if has same =
      let tells = tells_if (subst (λ (x : StoreState). is_older x.table.keys version ≡ true) view a.older) in
      let s : HasMaterials d before = seen (has tells) in
      subst (λ (x : StoreState). material_of x.table.keys.rows version ≡ Some material) view
      (table_has d before version birth row place a s ∙ ap (λ (k : Dek). Some k) (sym (same tells s)))

  pub within_by : (Tells d → HasMaterials d now) → Tells d → place + row.bits / 8 ≤ length (d.reads 0)
  within_by has tells = file_within d before version birth row place a (seen (has tells))

pub reads_by : (old new : DiskState) (before now : StoreState) (cache : List (MaterialKey × Dek)) → before ≡ now → before.log.file ≡ 0 → Reads 0 old new → RunOn 0 old new → LeavesOnly 0 old new (old.leaves 0)
    → (Tells old → (s : HasMaterials old before) → AreCached s.older before.index cache) → ReadsMaterials old new now (record before { cache = cache })
reads_by old new before now cache view file same run moments cached =
    subst (λ (x : StoreState). ReadsMaterials old new x (record before { cache = cache })) view (reads_with old new before cache file same run moments cached)

-- nothing was read
pub reads_by_none : (d : DiskState) (before now : StoreState) (cache : List (MaterialKey × Dek)) → before ≡ now → before.log.file ≡ 0
    → (Tells d → (s : HasMaterials d before) → AreCached s.older before.index cache) → ReadsMaterials d d now (record before { cache = cache })
reads_by_none d before now cache view file cached =
    let still = begin 0 d (d.leaves 0) in
    reads_by d d before now cache view file (record { reads = λ tells. refl; leaves = λ c left. left }) still.run still.moments cached
