-- The zone that an entry of a snapshot lay in.
use Rattle.std.proofs.Common.{◌≡◌, ℕ, ◌≤◌, suc, Bool, true, false, cond, List, [], ◌∷◌, ◌++◌, length, take, Option, Some, None, is_some, refl, sym, ap, ◌∙◌, subst, arith}
use Rattle.std.specs.Prelude.{◌==◌}
use Rattle.std.specs.List.{All, find}
use Rattle.std.specs.Option.{option_map, option_map_or}
use Rattle.std.specs.Str.{bytes_eq}
use Rattle.std.proofs.lemmas.Bool.Decides.{nat_tests}
use Rattle.std.proofs.lemmas.List.Elements.{All-head, All-nil, All-tail}
use Rattle.std.proofs.lemmas.Slice.Eq.{bytes_eq-Decides}
use Rattle.std.proofs.lemmas.Bool.{eqb-true, and_parts}
use Rattle.name_calls.specs.Paths.{is_prefix, is_relative, parent}
use Rattle.name_calls.specs.declared.read_paths.SnapPart.{SnapPart}
use Rattle.inode_tree.specs.declared.rows.Row.{Row}
use Rattle.inode_tree.specs.Rows.{Entry, IsRows, is_marked, is_zone_over, longer, row_at, zone_of}
use Rattle.snap_store.specs.Snapshots.{Snapshot, is_named, snapshot_named, zone_depth}
use Rattle.snap_store.proofs.Zones.{prefix-length}
use Rattle.name_store.specs.Causes.{id_at, id_of}
use Rattle.name_store.specs.Table.{IsNameTable, NameTable, path_of}
use Rattle.name_store.proofs.RowLemmas.{entry-at}
use Rattle.name_core.specs.Reads.{path_of_zone, snapshot_rows, zone_in_or_above, zone_in_snapshot, zone_over}
use Rattle.name_core.proofs.RowLemmas.{HoldsOf, zone-holds}

-- the directory of a snapshot

some-at : (rows : List Entry) (p : List (List ℕ)) → is_some (row_at rows p) ≡ true → (row : Row) × (row_at rows p ≡ Some row)
some-at rows p h = go (row_at rows p) h
  where
    go : (o : Option Row) → is_some o ≡ true → (row : Row) × (o ≡ Some row)
    go None h = absurd cc
    go (Some row) h = (row, refl)

path-there : (rows : List Entry) (p : List (List ℕ)) → IsRows rows → is_some (row_at rows p) ≡ true → path_of rows (id_at rows p) ≡ p
path-there rows p good stands =
    let row = some-at rows p stands in
    let at = entry-at rows p row.0 good row.1 in
    ap (λ (o : Option Row). path_of rows (id_of o)) row.1 ∙ ap (λ (o : Option Entry). option_map_or (λ e. e.path) o []) at.2 ∙ at.3

-- a snapshot with its name

found : (P : Snapshot → Type 0) (test : Snapshot → Bool) (taken : List Snapshot) (s : Snapshot) → All P taken → find test taken ≡ Some s → P s × (test s ≡ true)
found P test [] s all h = absurd cc
found P test (x ∷ taken) s all h = go (test x) refl (found P test taken s (All-tail P x taken all)) h
  where
    go : (b : Bool) → test x ≡ b → (find test taken ≡ Some s → P s × (test s ≡ true)) → cond b (Some x) (find test taken) ≡ Some s → P s × (test s ≡ true)
    go true is rest h = let same : x ≡ s = cc in (subst P same (All-head P x taken all), ap test (sym same) ∙ is)
    go false is rest h = rest h

-- the path of each row of a snapshot, seen from the root, keeps the rule

abbrev Keeps : List (List ℕ) → Entry → Type 0
Keeps q e = is_relative (q ++ e.path) ≡ true

whole-rows : (t : NameTable) (p : List (List ℕ)) (name : List ℕ) → IsNameTable t → is_some (row_at t.rows p) ≡ true → All (λ (e : Entry). is_relative (p ++ e.path) ≡ true) (snapshot_rows t p name)
whole-rows t p name good stands = go (snapshot_named t.snaps.taken (id_at t.rows p) name) refl
  where
    go : (o : Option Snapshot) → snapshot_named t.snaps.taken (id_at t.rows p) name ≡ o → All (Keeps p) (option_map_or (λ s. s.rows) o [])
    go None is = All-nil (Keeps p)
    go (Some s) is =
        let its = found (λ (x : Snapshot). All (Keeps (path_of t.rows x.dir)) x.rows) (is_named (id_at t.rows p) name) t.snaps.taken s good.fits.whole is in
        let dir : s.dir ≡ id_at t.rows p = eqb-true s.dir (id_at t.rows p) (and_parts (s.dir == id_at t.rows p) (bytes_eq s.name name) its.1).0 in
        subst (λ (q : List (List ℕ)). All (Keeps q) s.rows) (ap (path_of t.rows) dir ∙ path-there t.rows p good.rules stands) its.0

-- the zone's path is a prefix of the path

pub prefix-take : (a p : List (List ℕ)) → is_prefix a p ≡ true → take (length a) p ≡ a
prefix-take [] p h = refl
prefix-take (x ∷ a) [] h = absurd cc
prefix-take (x ∷ a) (y ∷ p) h =
    let parts = and_parts (bytes_eq x y) (is_prefix a p) h in
    let same : x ≡ y = (bytes_eq-Decides x y).0 parts.0 in
    λ i. sym same i ∷ prefix-take a p parts.1 i

zone-prefix : (es : List Entry) (p : List (List ℕ)) → HoldsOf (λ (e : Entry). is_prefix e.path p ≡ true) (zone_of es p)
zone-prefix [] p = tt
zone-prefix (e ∷ es) p = go (is_zone_over p e) refl (zone_of es p) (zone-prefix es p)
  where
    one : (t : Bool) (f : Entry) → is_prefix e.path p ≡ true → is_prefix f.path p ≡ true → is_prefix (cond t f e).path p ≡ true
    one true f h g = g
    one false f h g = h

    go : (t : Bool) → is_zone_over p e ≡ t → (o : Option Entry) → HoldsOf (λ (e : Entry). is_prefix e.path p ≡ true) o → HoldsOf (λ (e : Entry). is_prefix e.path p ≡ true) (cond t (Some (longer e o)) o)
    go false is o rest = rest
    go true is None rest = (and_parts (is_marked e.row) (is_prefix e.path p) is).1
    go true is (Some f) rest = one _ f (and_parts (is_marked e.row) (is_prefix e.path p) is).1 rest

-- the zone in a snapshot, by the number of names of its path
pub record ZoneThere (t : NameTable) (p : List (List ℕ)) (part : SnapPart) (n : ℕ) : Type 0 where
  pub within : n ≤ length part.below
  pub rule : is_relative (p ++ take n part.below) ≡ true
  pub zone : zone_in_snapshot t p part ≡ Some (p ++ take n part.below)

pub zone-there : (t : NameTable) (p : List (List ℕ)) (part : SnapPart) (n : ℕ) → IsNameTable t → is_some (row_at t.rows p) ≡ true → Some n ≡ zone_depth (snapshot_rows t p part.name) part.below
    → ZoneThere t p part n
zone-there t p part n good stands h =
    go (zone_of (snapshot_rows t p part.name) part.below) refl (zone-prefix (snapshot_rows t p part.name) part.below)
    (zone-holds (λ (e : Entry). is_relative (p ++ e.path) ≡ true) part.below (snapshot_rows t p part.name) (whole-rows t p part.name good stands)) (sym h)
  where
    go : (o : Option Entry) → zone_of (snapshot_rows t p part.name) part.below ≡ o → HoldsOf (λ (e : Entry). is_prefix e.path part.below ≡ true) o → HoldsOf (λ (e : Entry). is_relative (p ++ e.path) ≡ true) o
        → option_map (λ (e : Entry). length e.path) o ≡ Some n → ZoneThere t p part n
    go None is over rule h = absurd cc
    go (Some e) is over rule h =
        let size : length e.path ≡ n = cc in
        let path : take n part.below ≡ e.path = ap (λ (k : ℕ). take k part.below) (sym size) ∙ prefix-take e.path part.below over in
        record {
          within = subst (λ (k : ℕ). k ≤ length part.below) size (prefix-length e.path part.below over);
          rule = ap (λ (q : List (List ℕ)). is_relative (p ++ q)) path ∙ rule;
          zone = ap (zone_in_or_above t.rows p) is ∙ ap (λ (q : List (List ℕ)). Some (p ++ q)) (sym path);
        }

-- the zone over the directory

pub over-parent : (rows : List Entry) (p : List (List ℕ)) → (p ≡ [] → ⊥) → zone_over rows p ≡ path_of_zone rows (parent p)
over-parent rows [] h = absurd (h refl)
over-parent rows (x ∷ p) h = ap (λ (b : Bool). cond b None (path_of_zone rows (parent (x ∷ p)))) (some-names (length p))
  where
    some-names : (n : ℕ) → (suc n == 0) ≡ false
    some-names n = grind (arith, nat_tests)
