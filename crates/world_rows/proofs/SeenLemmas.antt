-- Rows as they are seen from a directory.
use Rattle.std.proofs.Common.{◌≡◌, ℕ, suc, ◌+◌, Bool, true, false, cond, ◌&&◌, List, [], ◌∷◌, ◌++◌, length, drop, map, Option, Some, None, refl, sym, ap, ◌∙◌, arith, length-append}
use Rattle.std.specs.Prelude.{◌==◌}
use Rattle.std.specs.List.{filter}
use Rattle.std.proofs.lemmas.Bool.Decides.{nat_tests}
use Rattle.std.proofs.lemmas.Bool.{and_parts}
use Rattle.name_calls.specs.declared.read_paths.ReadPath.{ReadPath}
use Rattle.name_calls.specs.declared.read_paths.SnapPart.{SnapPart}
use Rattle.name_calls.specs.Paths.{is_child, is_prefix, last_name, same_path}
use Rattle.inode_tree.specs.declared.rows.Row.{Row}
use Rattle.inode_tree.specs.Below.{rows_below, seen_from}
use Rattle.inode_tree.specs.Listing.{child_of, children}
use Rattle.inode_tree.specs.Rows.{Entry, is_dir, row_at}
use Rattle.inode_tree.proofs.MovedPaths.{bytes-self, not-below, prefix-append, prefix-split, prefix-trans, same-append}
use Rattle.name_core.specs.Reads.{path_read, rows_read, snapshot_rows}
use Rattle.name_store.specs.Table.{NameTable}
use Rattle.place_texts.specs.Places.{below_part, is_whole_snapshot, place_below}
use Rattle.world_rows.specs.Rows.{IsPlace, place_rows, rows_of_place}

prefix-same : (p q y : List (List ℕ)) → is_prefix (p ++ q) (p ++ y) ≡ is_prefix q y
prefix-same [] q y = refl
prefix-same (x ∷ p) q y = ap (λ (t : Bool). t && is_prefix (p ++ q) (p ++ y)) (bytes-self x) ∙ prefix-same p q y

eq-shift : (n a b : ℕ) → (n + a == n + b) ≡ (a == b)
eq-shift n a b = grind (arith, nat_tests)

plus : (n a : ℕ) → n + a + 1 ≡ n + (a + 1)
plus n a = omega arith

child-same : (p q y : List (List ℕ)) → is_child (p ++ q) (p ++ y) ≡ is_child q y
child-same p q y =
    ap (λ (t : Bool). t && (length (p ++ y) == length (p ++ q) + 1)) (prefix-same p q y)
    ∙ ap (λ (t : Bool). is_prefix q y && t) (ap (λ (n : ℕ). n == length (p ++ q) + 1) (length-append p y) ∙ ap (λ (n : ℕ). length p + length y == n + 1) (length-append p q) ∙ ap (λ (n : ℕ). length p + length y == n) (plus (length p) (length q)) ∙ eq-shift (length p) (length y) (length q + 1))

last-same : (p : List (List ℕ)) (b : List ℕ) (y : List (List ℕ)) → last_name (p ++ b ∷ y) ≡ last_name (b ∷ y)
last-same [] b y = refl
last-same (a ∷ []) b y = refl
last-same (a ∷ c ∷ p) b y = last-same (c ∷ p) b y

no-child : (q : List (List ℕ)) → is_child q [] ≡ true → ⊥
no-child q h = let w = (and_parts (is_prefix q []) (0 == length q + 1) h).1 in less (length q) w
  where
    less : (n : ℕ) → (0 == n + 1) ≡ true → ⊥
    less n e = grind (arith, nat_tests)

module _ (p : List (List ℕ)) where
  -- the row at a path down from there
  pub row-seen : (es : List Entry) (y : List (List ℕ)) → row_at (rows_below es p) y ≡ row_at es (p ++ y)
  row-seen [] y = refl
  row-seen (x ∷ es) y = go (is_prefix p x.path) refl (row-seen es y)
    where
      go : (t : Bool) → is_prefix p x.path ≡ t → row_at (rows_below es p) y ≡ row_at es (p ++ y)
          → row_at (map (seen_from (length p)) (cond t (x ∷ filter (λ e. is_prefix p e.path) es) (filter (λ e. is_prefix p e.path) es))) y ≡ cond (same_path x.path (p ++ y)) (Some x.row) (row_at es (p ++ y))
      go true k ih =
          ap (λ (t : Bool). cond t (Some x.row) (row_at (rows_below es p) y)) (sym (same-append p (drop (length p) x.path) y) ∙ ap (λ (q : List (List ℕ)). same_path q (p ++ y)) (sym (prefix-split p x.path k)))
          ∙ ap (λ (o : Option Row). cond (same_path x.path (p ++ y)) (Some x.row) o) ih
      go false k ih = ih ∙ sym (ap (λ (t : Bool). cond t (Some x.row) (row_at es (p ++ y))) (not-below p x.path y k))

  child-seen : (x : Entry) (q y : List (List ℕ)) → x.path ≡ p ++ y → is_child q y ≡ true → child_of x ≡ record { name = last_name y; directory = is_dir x.row.kind }
  child-seen x q [] e c = absurd (no-child q c)
  child-seen x q (b ∷ y) e c = ap (λ (n : List ℕ). record { name = n; directory = is_dir x.row.kind }) (ap last_name e ∙ last-same p b y)

  not-child : (q r : List (List ℕ)) → is_prefix p r ≡ false → is_child (p ++ q) r ≡ false
  not-child q r k = go (is_prefix (p ++ q) r) refl
    where
      go : (t : Bool) → is_prefix (p ++ q) r ≡ t → (t && (length r == length (p ++ q) + 1)) ≡ false
      go true e = let yes : is_prefix p r ≡ true = prefix-trans p (p ++ q) r (prefix-append p q) e in absurd cc
      go false e = refl

  -- and the entries of a directory down from there
  children-seen : (es : List Entry) (q : List (List ℕ)) → children (rows_below es p) q ≡ children es (p ++ q)
  children-seen [] q = refl
  children-seen (x ∷ es) q = go (is_prefix p x.path) refl (children-seen es q)
    where
      keep : (t : Bool) → is_child q (drop (length p) x.path) ≡ t → is_prefix p x.path ≡ true → children (rows_below es p) q ≡ children es (p ++ q)
          → map child_of (cond t (seen_from (length p) x ∷ filter (λ e. is_child q e.path) (rows_below es p)) (filter (λ e. is_child q e.path) (rows_below es p))) ≡ map child_of (cond t (x ∷ filter (λ e. is_child (p ++ q) e.path) es) (filter (λ e. is_child (p ++ q) e.path) es))
      keep true c k ih = λ i. sym (child-seen x q (drop (length p) x.path) (prefix-split p x.path k) c) i ∷ ih i
      keep false c k ih = ih

      go : (t : Bool) → is_prefix p x.path ≡ t → children (rows_below es p) q ≡ children es (p ++ q)
          → children (map (seen_from (length p)) (cond t (x ∷ filter (λ e. is_prefix p e.path) es) (filter (λ e. is_prefix p e.path) es))) q ≡ children (x ∷ es) (p ++ q)
      go true k ih =
          let same : is_child (p ++ q) x.path ≡ is_child q (drop (length p) x.path) = ap (is_child (p ++ q)) (prefix-split p x.path k) ∙ child-same p q (drop (length p) x.path) in
          keep (is_child q (drop (length p) x.path)) refl k ih
          ∙ ap (λ (t : Bool). map child_of (cond t (x ∷ filter (λ e. is_child (p ++ q) e.path) es) (filter (λ e. is_child (p ++ q) e.path) es))) (sym same)
      go false k ih = ih ∙ ap (λ (t : Bool). map child_of (cond t (x ∷ filter (λ e. is_child (p ++ q) e.path) es) (filter (λ e. is_child (p ++ q) e.path) es))) (sym (not-child q x.path k))

nothing-below : (b : List (List ℕ)) → (length b == 0) ≡ true → b ≡ []
nothing-below [] h = refl
nothing-below (x ∷ b) h = absurd (more (length b) h)
  where
    more : (n : ℕ) → (suc n == 0) ≡ true → ⊥
    more n e = grind (arith, nat_tests)

module _ (t : NameTable) (path q : List (List ℕ)) where
  row-read : (o : Option SnapPart) → is_whole_snapshot o ≡ true → row_at (rows_read t (below_part path o q)) (path_read (below_part path o q)) ≡ row_at (rows_of_place t path o) q
  row-read None whole = sym (row-seen path t.rows q)
  row-read (Some part) whole = ap (λ (b : List (List ℕ)). row_at (snapshot_rows t path part.name) (b ++ q)) (nothing-below part.below whole)

  children-read : (o : Option SnapPart) → is_whole_snapshot o ≡ true → children (rows_read t (below_part path o q)) (path_read (below_part path o q)) ≡ children (rows_of_place t path o) q
  children-read None whole = sym (children-seen path t.rows q)
  children-read (Some part) whole = ap (λ (b : List (List ℕ)). children (snapshot_rows t path part.name) (b ++ q)) (nothing-below part.below whole)

-- what is read at a place below a place is what is seen from there
pub row-of-place : (t : NameTable) (place : ReadPath) (q : List (List ℕ)) → IsPlace place → row_at (rows_read t (place_below place q)) (path_read (place_below place q)) ≡ row_at (place_rows t place) q
row-of-place t place q is = row-read t place.path q place.snapshot is.whole

pub children-of-place : (t : NameTable) (place : ReadPath) (q : List (List ℕ)) → IsPlace place → children (rows_read t (place_below place q)) (path_read (place_below place q)) ≡ children (place_rows t place) q
children-of-place t place q is = children-read t place.path q place.snapshot is.whole
