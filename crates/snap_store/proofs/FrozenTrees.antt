-- The rows at and below a directory are a tree.
use Rattle.std.proofs.Common.{◌≡◌, ℕ, ◌+◌, Bool, true, false, cond, List, [], ◌∷◌, ◌++◌, length, drop, map, Option, Some, None, refl, sym, ap, ◌∙◌, subst, arith, append_assoc, length-append}
use Rattle.std.specs.Prelude.{◌==◌, IsSome, IsTrue, nat_le}
use Rattle.std.specs.List.{AllByRecursion, filter, list_all}
use Rattle.std.specs.Option.{option_map, option_map_or}
use Rattle.std.proofs.lemmas.Bool.Decides.{nat_tests}
use Rattle.std.proofs.lemmas.List.{append-nil}
use Rattle.std.proofs.lemmas.List.Elements.{All-from_recursion, recursion_from_All}
use Rattle.std.proofs.lemmas.List.Folds.{list_all-append}
use Rattle.std.proofs.lemmas.Bool.{le-leb, leb-true, eqb-true, and_from, and_parts}
use Rattle.name_calls.specs.Paths.{is_before, is_component, is_prefix, is_relative, is_short, names_text, parent, path_text, same_path}
use Rattle.inode_tree.specs.declared.rows.Row.{Row}
use Rattle.inode_tree.specs.Below.{rows_below, seen_from}
use Rattle.inode_tree.specs.Rows.{AllAfter, Entry, IsRising, IsRows, entry_of, is_dir_at, row_at}
use Rattle.inode_tree.proofs.MovedLaws.{HasIds, has-ids, none-parts}
use Rattle.inode_tree.proofs.MovedPaths.{before-append, not-below, prefix-split, same-append}
use Rattle.inode_tree.proofs.Seeks.{before-not-same, same-itself}
use Rattle.snap_store.specs.Snapshots.{IsFrozenTree, frozen, is_directory}

eq-self : (a : ℕ) → (a == a) ≡ true
eq-self a = grind (arith, nat_tests)

eq-flip : (a b : ℕ) → (a == b) ≡ false → (b == a) ≡ false
eq-flip a b h = grind (arith, nat_tests)

-- each id of one row, from no id twice
each-once : (es : List Entry) → HasIds es → AllByRecursion (λ e. entry_of es e.row.id ≡ Some e) es
each-once [] h = tt
each-once (x ∷ es) h = (ap (λ (t : Bool). cond t (Some x) (entry_of es x.row.id)) (eq-self x.row.id), later es (each-once es h.1))
  where
    later : (fs : List Entry) → AllByRecursion (λ e. entry_of es e.row.id ≡ Some e) fs → AllByRecursion (λ e. entry_of (x ∷ es) e.row.id ≡ Some e) fs
    later [] a = tt
    later (f ∷ fs) a = (go (x.row.id == f.row.id) refl, later fs a.1)
      where
        go : (t : Bool) → (x.row.id == f.row.id) ≡ t → cond t (Some x) (entry_of es f.row.id) ≡ Some f
        go true e = let g : entry_of es f.row.id ≡ None = ap (entry_of es) (sym (eqb-true x.row.id f.row.id e)) ∙ h.0 in let k = a.0 in cc
        go false e = a.0

-- the row that has an id is at its path
before-found : (es : List Entry) (q : List (List ℕ)) (id : ℕ) (e : Entry) → AllAfter q es → entry_of es id ≡ Some e → is_before q e.path ≡ true
before-found [] q id e a h = cc
before-found (x ∷ es) q id e a h = go (x.row.id == id) h (before-found es q id e a.1)
  where
    go : (t : Bool) → cond t (Some x) (entry_of es id) ≡ Some e → (entry_of es id ≡ Some e → is_before q e.path ≡ true) → is_before q e.path ≡ true
    go true k ih = let g : x ≡ e = cc in subst (λ (y : Entry). is_before q y.path ≡ true) g a.0
    go false k ih = ih k

row-found : (es : List Entry) (id : ℕ) (e : Entry) → IsRising es → entry_of es id ≡ Some e → row_at es e.path ≡ Some e.row
row-found [] id e r h = cc
row-found (x ∷ es) id e r h = go (x.row.id == id) h (row-found es id e r.1)
  where
    go : (t : Bool) → cond t (Some x) (entry_of es id) ≡ Some e → (entry_of es id ≡ Some e → row_at es e.path ≡ Some e.row) → row_at (x ∷ es) e.path ≡ Some e.row
    go true k ih =
        let g : x ≡ e = cc in
        subst (λ (y : Entry). row_at (x ∷ es) y.path ≡ Some y.row) g (ap (λ (t : Bool). cond t (Some x.row) (row_at es x.path)) (same-itself x.path))
    go false k ih = ap (λ (t : Bool). cond t (Some x.row) (row_at es e.path)) (before-not-same x.path e.path (before-found es x.path id e r.0 k)) ∙ ih k

parent-append : (q : List (List ℕ)) (b : List ℕ) (y : List (List ℕ)) → parent (q ++ b ∷ y) ≡ q ++ parent (b ∷ y)
parent-append [] b y = refl
parent-append (a ∷ []) b y = refl
parent-append (a ∷ c ∷ q) b y = ap (λ (r : List (List ℕ)). a ∷ r) (parent-append (c ∷ q) b y)

names-append : (p q : List (List ℕ)) → names_text (p ++ q) ≡ names_text p ++ names_text q
names-append [] q = refl
names-append (x ∷ p) q = ap (λ (ys : List ℕ). 47 ∷ (x ++ ys)) (names-append p q) ∙ ap (λ (ys : List ℕ). 47 ∷ ys) (sym (append_assoc x (names_text p) (names_text q)))

-- the end of a path keeps the rule of paths
short-end : (p y : List (List ℕ)) → is_short (p ++ y) ≡ true → is_short y ≡ true
short-end [] y h = h
short-end (x ∷ p) [] h = refl
short-end (x ∷ p) (b ∷ y) h =
    let w = and_parts (nat_le (length (path_text ((x ∷ p) ++ (b ∷ y)))) 8000) (nat_le (length ((x ∷ p) ++ (b ∷ y))) 100) h in
    let text = leb-true (length (names_text ((x ∷ p) ++ (b ∷ y)))) 8000 w.0 in
    let names = leb-true (length ((x ∷ p) ++ (b ∷ y))) 100 w.1 in
    let e = ap length (names-append (x ∷ p) (b ∷ y)) in
    and_from (nat_le (length (path_text (b ∷ y))) 8000) (nat_le (length (b ∷ y)) 100)
    (le-leb (length (names_text (b ∷ y))) 8000 (omega (arith, text, e, length-append (names_text (x ∷ p)) (names_text (b ∷ y)))))
    (le-leb (length (b ∷ y)) 100 (omega (arith, names, length-append (x ∷ p) (b ∷ y))))

relative-end : (p y : List (List ℕ)) → is_relative (p ++ y) ≡ true → is_relative y ≡ true
relative-end p y h =
    let w = and_parts (list_all is_component (p ++ y)) (is_short (p ++ y)) h in
    and_from (list_all is_component y) (is_short y) (and_parts (list_all is_component p) (list_all is_component y) (sym (list_all-append is_component p y) ∙ w.0)).1 (short-end p y w.1)

module _ (p : List (List ℕ)) where
  -- what is true of each row below a path when it is seen from there
  each-below : (P : Entry → Type 0) (es : List Entry) → AllByRecursion (λ e. is_prefix p e.path ≡ true → P (seen_from (length p) e)) es → AllByRecursion P (rows_below es p)
  each-below P [] a = tt
  each-below P (x ∷ es) a = go (is_prefix p x.path) a.0 (each-below P es a.1)
    where
      go : (t : Bool) → (t ≡ true → P (seen_from (length p) x)) → AllByRecursion P (rows_below es p) → AllByRecursion P (map (seen_from (length p)) (cond t (x ∷ filter (λ e. is_prefix p e.path) es) (filter (λ e. is_prefix p e.path) es)))
      go true f ih = (f refl, ih)
      go false f ih = ih

  before-end : (x y : List (List ℕ)) → is_prefix p x ≡ true → is_prefix p y ≡ true → is_before x y ≡ true → is_before (drop (length p) x) (drop (length p) y) ≡ true
  before-end x y h k b =
      sym (before-append p (drop (length p) x) (drop (length p) y))
      ∙ (λ i. is_before (sym (prefix-split p x h) i) (sym (prefix-split p y k) i)) ∙ b

  after-below : (q : List (List ℕ)) (es : List Entry) → is_prefix p q ≡ true → AllAfter q es → AllAfter (drop (length p) q) (rows_below es p)
  after-below q [] h a = tt
  after-below q (x ∷ es) h a = go (is_prefix p x.path) refl (after-below q es h a.1)
    where
      go : (t : Bool) → is_prefix p x.path ≡ t → AllAfter (drop (length p) q) (rows_below es p)
          → AllAfter (drop (length p) q) (map (seen_from (length p)) (cond t (x ∷ filter (λ e. is_prefix p e.path) es) (filter (λ e. is_prefix p e.path) es)))
      go true k ih = (before-end q x.path h k a.0, ih)
      go false k ih = ih

  rising-below : (es : List Entry) → IsRising es → IsRising (rows_below es p)
  rising-below [] r = tt
  rising-below (x ∷ es) r = go (is_prefix p x.path) refl (rising-below es r.1)
    where
      go : (t : Bool) → is_prefix p x.path ≡ t → IsRising (rows_below es p) → IsRising (map (seen_from (length p)) (cond t (x ∷ filter (λ e. is_prefix p e.path) es) (filter (λ e. is_prefix p e.path) es)))
      go true k ih = (after-below x.path es k r.0, ih)
      go false k ih = ih

  none-below : (es : List Entry) (id : ℕ) → entry_of es id ≡ None → entry_of (rows_below es p) id ≡ None
  none-below [] id h = refl
  none-below (x ∷ es) id h = go (is_prefix p x.path) (none-parts x es id h) (none-below es id)
    where
      go : (t : Bool) → ((x.row.id == id) ≡ false) × (entry_of es id ≡ None) → (entry_of es id ≡ None → entry_of (rows_below es p) id ≡ None)
          → entry_of (map (seen_from (length p)) (cond t (x ∷ filter (λ e. is_prefix p e.path) es) (filter (λ e. is_prefix p e.path) es))) id ≡ None
      go true w ih = ap (λ (t : Bool). cond t (Some (seen_from (length p) x)) (entry_of (rows_below es p) id)) w.0 ∙ ih w.1
      go false w ih = ih w.1

  ids-below : (es : List Entry) → HasIds es → HasIds (rows_below es p)
  ids-below [] h = tt
  ids-below (x ∷ es) h = go (is_prefix p x.path) (ids-below es h.1)
    where
      go : (t : Bool) → HasIds (rows_below es p) → HasIds (map (seen_from (length p)) (cond t (x ∷ filter (λ e. is_prefix p e.path) es) (filter (λ e. is_prefix p e.path) es)))
      go true ih = (none-below es x.row.id h.0, ih)
      go false ih = ih

  -- the row at a path down from there
  row-below : (es : List Entry) (y : List (List ℕ)) → row_at (rows_below es p) y ≡ row_at es (p ++ y)
  row-below [] y = refl
  row-below (x ∷ es) y = go (is_prefix p x.path) refl (row-below es y)
    where
      go : (t : Bool) → is_prefix p x.path ≡ t → row_at (rows_below es p) y ≡ row_at es (p ++ y)
          → row_at (map (seen_from (length p)) (cond t (x ∷ filter (λ e. is_prefix p e.path) es) (filter (λ e. is_prefix p e.path) es))) y ≡ cond (same_path x.path (p ++ y)) (Some x.row) (row_at es (p ++ y))
      go true k ih =
          ap (λ (t : Bool). cond t (Some x.row) (row_at (rows_below es p) y)) (sym (same-append p (drop (length p) x.path) y) ∙ ap (λ (q : List (List ℕ)). same_path q (p ++ y)) (sym (prefix-split p x.path k)))
          ∙ ap (λ (o : Option Row). cond (same_path x.path (p ++ y)) (Some x.row) o) ih
      go false k ih = ih ∙ sym (ap (λ (t : Bool). cond t (Some x.row) (row_at es (p ++ y))) (not-below p x.path y k))

  module _ (rows : List Entry) (rules : IsRows rows) (dir : is_dir_at (row_at rows p) ≡ true) where
    own : is_dir_at (row_at (rows_below rows p) []) ≡ true
    own = ap is_dir_at (row-below rows [] ∙ ap (row_at rows) (append-nil p)) ∙ dir

    parent-below : (e : Entry) → is_dir_at (row_at rows (parent e.path)) ≡ true → is_prefix p e.path ≡ true → is_dir_at (row_at (rows_below rows p) (parent (drop (length p) e.path))) ≡ true
    parent-below e h k = go (drop (length p) e.path) (prefix-split p e.path k)
      where
        go : (y : List (List ℕ)) → e.path ≡ p ++ y → is_dir_at (row_at (rows_below rows p) (parent y)) ≡ true
        go [] f = own
        go (b ∷ y) f =
            ap is_dir_at (row-below rows (parent (b ∷ y)) ∙ ap (row_at rows) (sym (parent-append p b y) ∙ ap parent (sym f)))
            ∙ h

    tree-below : IsFrozenTree (rows_below rows p)
    tree-below = record {
      rising = rising-below rows rules.rising;
      ruled = All-from_recursion (λ (e : Entry). is_relative e.path ≡ true) (rows_below rows p)
          (each-below (λ (e : Entry). is_relative e.path ≡ true) rows (ruled-end rows (recursion_from_All (λ (e : Entry). is_relative e.path ≡ true) rows rules.ruled)));
      once = All-from_recursion (λ (e : Entry). entry_of (rows_below rows p) e.row.id ≡ Some e) (rows_below rows p)
          (each-once (rows_below rows p) (ids-below rows (has-ids rows rules.rising (recursion_from_All (λ (e : Entry). entry_of rows e.row.id ≡ Some e) rows rules.once))));
      rooted = own;
      housed = All-from_recursion (λ (e : Entry). is_dir_at (row_at (rows_below rows p) (parent e.path)) ≡ true) (rows_below rows p)
          (each-below (λ (e : Entry). is_dir_at (row_at (rows_below rows p) (parent e.path)) ≡ true) rows (housed-below rows (recursion_from_All (λ (e : Entry). is_dir_at (row_at rows (parent e.path)) ≡ true) rows rules.housed)));
    }
      where
        ruled-end : (es : List Entry) → AllByRecursion (λ e. is_relative e.path ≡ true) es → AllByRecursion (λ e. is_prefix p e.path ≡ true → is_relative (drop (length p) e.path) ≡ true) es
        ruled-end [] a = tt
        ruled-end (e ∷ es) a = ((λ k. relative-end p (drop (length p) e.path) (ap is_relative (sym (prefix-split p e.path k)) ∙ a.0)), ruled-end es a.1)

        housed-below : (es : List Entry) → AllByRecursion (λ e. is_dir_at (row_at rows (parent e.path)) ≡ true) es → AllByRecursion (λ e. is_prefix p e.path ≡ true → is_dir_at (row_at (rows_below rows p) (parent (drop (length p) e.path))) ≡ true) es
        housed-below [] a = tt
        housed-below (e ∷ es) a = (parent-below e a.0, housed-below es a.1)

pub tree-frozen : (rows : List Entry) (dir : ℕ) → IsRows rows → IsTrue (is_directory rows dir) → IsFrozenTree (frozen rows dir)
tree-frozen rows dir rules is = go (entry_of rows dir) refl is
  where
    go : (o : Option Entry) → entry_of rows dir ≡ o → is_dir_at (option_map (λ e. e.row) o) ≡ true → IsFrozenTree (option_map_or (λ e. rows_below rows e.path) o [])
    go None e s = cc
    go (Some x) e s = tree-below x.path rows rules (ap is_dir_at (row-found rows dir x rules.rising e) ∙ s)

-- a directory has a row
pub stands : (rows : List Entry) (dir : ℕ) → IsTrue (is_directory rows dir) → IsSome (entry_of rows dir)
stands rows dir is = go (entry_of rows dir) is
  where
    go : (o : Option Entry) → is_dir_at (option_map (λ e. e.row) o) ≡ true → IsSome o
    go None s = cc
    go (Some x) s = refl
