-- The marked rows of a tree by their places.
use Rattle.std.proofs.Common.{◌≡◌, ℕ, ◌+◌, ◌<◌, ◌≤◌, suc, Bool, true, false, cond, List, [], ◌∷◌, ◌++◌, length, map, Option, Some, None, refl, sym, ap, ◌∙◌, subst, arith, rules}
use Rattle.std.specs.Prelude.{nat_lt, slice_get, IsSome}
use Rattle.std.specs.List.{All, flat_map}
use Rattle.std.specs.List.Sorted.{IsNonDecreasingBy, IsPermutation}
use Rattle.std.specs.Map.{keys_of}
use Rattle.std.specs.Option.{option_map_or}
use Rattle.std.proofs.lemmas.List.Elements.{All-cons, All-head, All-tail}
use Rattle.std.proofs.lemmas.List.Sorted.{IsPermutation-cons, IsPermutation-map, IsPermutation-middle, IsPermutation-refl, IsPermutation-sym, IsPermutation-trans}
use Rattle.hk_base.specs.declared.names.KeyName.{KeyName}
use Rattle.inode_tree.specs.Arena.{rank}
use Rattle.inode_tree.specs.Rows.{AllAfter, Entry, IsRising, IsRows, entry_of, mark_of}
use Rattle.inode_tree.proofs.Seeks.{not-before-itself}
use Rattle.name_calls.specs.declared.zone_list.ZonePath.{ZonePath}
use Rattle.zone_table.specs.declared.zones.ZoneRow.{ZoneRow}
use Rattle.zone_table.specs.Listings.{listed_at, place_of}
use Rattle.zone_table.specs.Zones.{by_directory, put_zone, with_zone, with_mark, zone_paths, zones_of}
use Rattle.zone_table.proofs.Marks.{IsFound}
use Rattle.zone_table.proofs.Sorts.{AllUpFrom, Climbs, sorted-back}

abbrev pub marked_place : Option KeyName → ℕ → List ℕ → List ℕ
marked_place None n ks = ks
marked_place (Some key) n ks = n ∷ ks

-- the places of the marked rows, if the first row is at n
abbrev pub marks_from : ℕ → List Entry → List ℕ
marks_from n [] = []
marks_from n (e ∷ es) = marked_place (mark_of e.row.kind) n (marks_from (suc n) es)

up-more : (n : ℕ) (ks : List ℕ) → AllUpFrom (suc n) ks → AllUpFrom n ks
up-more n [] a = tt
up-more n (k ∷ ks) a = (omega (arith, a.0), up-more n ks a.1)

marks-up : (n : ℕ) (es : List Entry) → AllUpFrom n (marks_from n es)
marks-up n [] = tt
marks-up n (e ∷ es) = go (mark_of e.row.kind) (up-more n _ (marks-up (suc n) es))
  where
    go : (m : Option KeyName) → AllUpFrom n (marks_from (suc n) es) → AllUpFrom n (marked_place m n (marks_from (suc n) es))
    go None a = a
    go (Some key) a = (omega arith, a)

pub marks-climb : (n : ℕ) (es : List Entry) → Climbs (marks_from n es)
marks-climb n [] = tt
marks-climb n (e ∷ es) = go (mark_of e.row.kind) (marks-climb (suc n) es)
  where
    go : (m : Option KeyName) → Climbs (marks_from (suc n) es) → Climbs (marked_place m n (marks_from (suc n) es))
    go None c = c
    go (Some key) c = (up-more n _ (marks-up (suc n) es), c)

pub marks-within : (n : ℕ) (es : List Entry) (end : ℕ) → n + length es ≤ end → All (λ k. k < end) (marks_from n es)
marks-within n [] end h = search rules
marks-within n (e ∷ es) end h = go (mark_of e.row.kind) (marks-within (suc n) es end (omega arith))
  where
    go : (m : Option KeyName) → All (λ k. k < end) (marks_from (suc n) es) → All (λ k. k < end) (marked_place m n (marks_from (suc n) es))
    go None a = a
    go (Some key) a = All-cons (λ k. k < end) n (marks_from (suc n) es) (omega arith) a

-- the zones at those places are the zones by their paths
pub listed-marks : (rows : List Entry) (n : ℕ) (es : List Entry) → ((k : ℕ) → slice_get rows (n + k) ≡ slice_get es k) → flat_map (listed_at rows) (marks_from n es) ≡ zone_paths es
listed-marks rows n [] h = refl
listed-marks rows n (e ∷ es) h = go (mark_of e.row.kind) refl (listed-marks rows (suc n) es (λ k. ap (slice_get rows) (shift n k) ∙ h (suc k)))
  where
    shift : (a b : ℕ) → suc a + b ≡ a + suc b
    shift a b = omega arith

    here : slice_get rows n ≡ Some e
    here = ap (slice_get rows) (plain n) ∙ h 0
      where
        plain : (a : ℕ) → a ≡ a + 0
        plain a = omega arith

    go : (m : Option KeyName) → mark_of e.row.kind ≡ m → flat_map (listed_at rows) (marks_from (suc n) es) ≡ zone_paths es → flat_map (listed_at rows) (marked_place m n (marks_from (suc n) es)) ≡ with_zone m e.path (zone_paths es)
    go None f ih = ih
    go (Some key) f ih =
        ap (λ (o : Option Entry). Rattle.zone_table.specs.Listings.paths_of_entry o ++ flat_map (listed_at rows) (marks_from (suc n) es)) here
        ∙ ap (λ (m : Option KeyName). with_zone m e.path [] ++ flat_map (listed_at rows) (marks_from (suc n) es)) f
        ∙ ap (λ (zones : List ZonePath). record { path = e.path; key = key } ∷ zones) ih

-- the rows of es are n places further on in the whole list
abbrev pub RankIs : List Entry → ℕ → List Entry → Entry → Type 0
RankIs rows n es e = rank rows e.path ≡ n + rank es e.path

ranks-more : (rows : List Entry) (n : ℕ) (e : Entry) (es xs : List Entry) → AllAfter e.path xs → All (RankIs rows n (e ∷ es)) xs → All (RankIs rows (suc n) es) xs
ranks-more rows n e es [] after a = search rules
ranks-more rows n e es (x ∷ xs) after a =
    All-cons (RankIs rows (suc n) es) x xs
    (All-head (RankIs rows n (e ∷ es)) x xs a ∙ ap (λ (t : Bool). n + cond t (suc (rank es x.path)) 0) after.0 ∙ shift n (rank es x.path))
    (ranks-more rows n e es xs after.1 (All-tail (RankIs rows n (e ∷ es)) x xs a))
  where
    shift : (a b : ℕ) → a + suc b ≡ suc a + b
    shift a b = omega arith

put-permutes : (z : ZoneRow) (xs : List ZoneRow) → IsPermutation (z ∷ xs) (put_zone z xs)
put-permutes z [] = IsPermutation-refl (z ∷ [])
put-permutes z (x ∷ xs) = go (nat_lt z.dir x.dir) (put-permutes z xs)
  where
    go : (t : Bool) → IsPermutation (z ∷ xs) (put_zone z xs) → IsPermutation (z ∷ x ∷ xs) (cond t (z ∷ x ∷ xs) (x ∷ put_zone z xs))
    go true ih = IsPermutation-refl (z ∷ x ∷ xs)
    go false ih = IsPermutation-trans (z ∷ x ∷ xs) (x ∷ z ∷ xs) (x ∷ put_zone z xs) (IsPermutation-middle (z ∷ []) x xs) (IsPermutation-cons x (z ∷ xs) (put_zone z xs) ih)

abbrev pub zone_place : List Entry → ZoneRow → ℕ
zone_place rows z = place_of rows z.dir

mark-permutes : (rows : List Entry) (m : Option KeyName) (id n : ℕ) (ks : List ℕ) (zs : List ZoneRow) → place_of rows id ≡ n → IsPermutation ks (map (zone_place rows) zs) → IsPermutation (marked_place m n ks) (map (zone_place rows) (with_mark m id zs))
mark-permutes rows None id n ks zs e p = p
mark-permutes rows (Some key) id n ks zs e p =
    IsPermutation-trans (n ∷ ks) (n ∷ map (zone_place rows) zs) (map (zone_place rows) (put_zone z zs))
    (IsPermutation-cons n ks (map (zone_place rows) zs) p)
    (subst (λ (k : ℕ). IsPermutation (k ∷ map (zone_place rows) zs) (map (zone_place rows) (put_zone z zs))) e
    (IsPermutation-map (zone_place rows) (z ∷ zs) (put_zone z zs) (put-permutes z zs)))
  where
    z : ZoneRow
    z = record { dir = id; key = key }

marks-permute : (rows : List Entry) (n : ℕ) (es : List Entry) → All (IsFound rows) es → IsRising es → All (RankIs rows n es) es → IsPermutation (marks_from n es) (map (zone_place rows) (zones_of es))
marks-permute rows n [] a r h = IsPermutation-refl []
marks-permute rows n (e ∷ es) a r h =
    mark-permutes rows (mark_of e.row.kind) e.row.id n (marks_from (suc n) es) (zones_of es)
    (ap (λ (o : Option Entry). option_map_or (λ (f : Entry). rank rows f.path) o 0) (All-head (IsFound rows) e es a)
    ∙ All-head (RankIs rows n (e ∷ es)) e es h ∙ ap (λ (t : Bool). n + cond t (suc (rank es e.path)) 0) (not-before-itself e.path) ∙ plain n)
    (marks-permute rows (suc n) es (All-tail (IsFound rows) e es a) r.1 (ranks-more rows n e es es r.0 (All-tail (RankIs rows n (e ∷ es)) e es h)))
  where
    plain : (k : ℕ) → k + 0 ≡ k
    plain k = omega arith

ranks-start : (rows es : List Entry) → All (RankIs rows 0 rows) es
ranks-start rows [] = search rules
ranks-start rows (e ∷ es) = All-cons (RankIs rows 0 rows) e es (omega arith) (ranks-start rows es)

pub places-permute : (rows : List Entry) → IsRows rows → IsPermutation (marks_from 0 rows) (map (zone_place rows) (zones_of rows))
places-permute rows r = marks-permute rows 0 rows r.once r.rising (ranks-start rows rows)

-- the zones of a table's entries are at the places of its keys
entries-permute : (rows : List Entry) (es : List (ℕ × KeyName)) → IsPermutation (map (zone_place rows) (by_directory es)) (map (place_of rows) (keys_of es))
entries-permute rows [] = IsPermutation-refl []
entries-permute rows (e ∷ es) =
    IsPermutation-trans (map (zone_place rows) (put_zone z (by_directory es))) (map (zone_place rows) (z ∷ by_directory es)) (map (place_of rows) (keys_of (e ∷ es)))
    (IsPermutation-map (zone_place rows) (put_zone z (by_directory es)) (z ∷ by_directory es) (IsPermutation-sym (z ∷ by_directory es) (put_zone z (by_directory es)) (put-permutes z (by_directory es))))
    (IsPermutation-cons (place_of rows e.0) (map (zone_place rows) (by_directory es)) (map (place_of rows) (keys_of es)) (entries-permute rows es))
  where
    z : ZoneRow
    z = record { dir = e.0; key = e.1 }

-- the directory of each zone is in the tree
found-put : (P : ZoneRow → Type 0) (z : ZoneRow) (xs : List ZoneRow) → P z → All P xs → All P (put_zone z xs)
found-put P z [] p a = All-cons P z [] p a
found-put P z (x ∷ xs) p a = go (nat_lt z.dir x.dir) (found-put P z xs p (All-tail P x xs a))
  where
    go : (t : Bool) → All P (put_zone z xs) → All P (cond t (z ∷ x ∷ xs) (x ∷ put_zone z xs))
    go true ih = All-cons P z (x ∷ xs) p a
    go false ih = All-cons P x (put_zone z xs) (All-head P x xs a) ih

abbrev pub Stands : List Entry → ZoneRow → Type 0
Stands rows z = IsSome (entry_of rows z.dir)

stands-mark : (rows : List Entry) (m : Option KeyName) (id : ℕ) (zs : List ZoneRow) → IsSome (entry_of rows id) → All (Stands rows) zs → All (Stands rows) (with_mark m id zs)
stands-mark rows None id zs s a = a
stands-mark rows (Some key) id zs s a = found-put (Stands rows) (record { dir = id; key = key }) zs s a

pub zones-stand : (rows es : List Entry) → All (IsFound rows) es → All (Stands rows) (zones_of es)
zones-stand rows [] a = search rules
zones-stand rows (e ∷ es) a =
    stands-mark rows (mark_of e.row.kind) e.row.id (zones_of es) (subst IsSome (sym (All-head (IsFound rows) e es a)) refl)
    (zones-stand rows es (All-tail (IsFound rows) e es a))

put-parts : (P : ZoneRow → Type 0) (z : ZoneRow) (xs : List ZoneRow) → All P (put_zone z xs) → P z × All P xs
put-parts P z [] a = (All-head P z [] a, All-tail P z [] a)
put-parts P z (x ∷ xs) a = go (nat_lt z.dir x.dir) a (put-parts P z xs)
  where
    go : (t : Bool) → All P (cond t (z ∷ x ∷ xs) (x ∷ put_zone z xs)) → (All P (put_zone z xs) → P z × All P xs) → P z × All P (x ∷ xs)
    go true a ih = (All-head P z (x ∷ xs) a, All-tail P z (x ∷ xs) a)
    go false a ih = let parts = ih (All-tail P x (put_zone z xs) a) in (parts.0, All-cons P x xs (All-head P x (put_zone z xs) a) parts.1)

keys-stand : (rows : List Entry) (es : List (ℕ × KeyName)) → All (Stands rows) (by_directory es) → All (λ dir. IsSome (entry_of rows dir)) (keys_of es)
keys-stand rows [] a = search rules
keys-stand rows (e ∷ es) a =
    let parts = put-parts (Stands rows) (record { dir = e.0; key = e.1 }) (by_directory es) a in
    All-cons (λ dir. IsSome (entry_of rows dir)) e.0 (keys_of es) parts.0 (keys-stand rows es parts.1)

-- the places of the zones, sorted, are those of the marked rows
pub places-sorted : (rows : List Entry) (es : List (ℕ × KeyName)) (ps ks : List ℕ) → IsRows rows → by_directory es ≡ zones_of rows → ps ≡ map (place_of rows) (keys_of es) → IsPermutation ps ks → IsNonDecreasingBy (λ k. k) ks → ks ≡ marks_from 0 rows
places-sorted rows es ps ks r e f p s =
    sorted-back (marks_from 0 rows) ps ks (marks-climb 0 rows)
    (subst (IsPermutation (marks_from 0 rows)) (sym f)
    (IsPermutation-trans (marks_from 0 rows) (map (zone_place rows) (by_directory es)) (map (place_of rows) (keys_of es))
    (subst (λ (zs : List ZoneRow). IsPermutation (marks_from 0 rows) (map (zone_place rows) zs)) (sym e) (places-permute rows r)) (entries-permute rows es))) p s

pub places-within : (rows : List Entry) (ks : List ℕ) → ks ≡ marks_from 0 rows → All (λ k. k < length rows) ks
places-within rows ks e = subst (All (λ k. k < length rows)) (sym e) (marks-within 0 rows (length rows) (omega arith))

pub places-listed : (rows : List Entry) (ks : List ℕ) → ks ≡ marks_from 0 rows → flat_map (listed_at rows) ks ≡ zone_paths rows
places-listed rows ks e = ap (flat_map (listed_at rows)) e ∙ listed-marks rows 0 rows (λ k. ap (slice_get rows) (plain k))
  where
    plain : (k : ℕ) → 0 + k ≡ k
    plain k = omega arith

pub entries-stand : (rows : List Entry) (es : List (ℕ × KeyName)) → IsRows rows → by_directory es ≡ zones_of rows → All (λ dir. IsSome (entry_of rows dir)) (keys_of es)
entries-stand rows es r e = keys-stand rows es (subst (All (Stands rows)) (sym e) (zones-stand rows rows r.once))
