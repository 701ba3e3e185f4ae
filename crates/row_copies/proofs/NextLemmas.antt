-- Which rows of the source are next.
use Rattle.std.proofs.Common.{◌≡◌, inl, inr, ℕ, zero, suc, ◌+◌, ◌<◌, ◌≤◌, Bool, true, false, cond, List, [], ◌∷◌, ◌++◌, length, take, drop, map, get_or, Some, None, refl, sym, ap, ◌∙◌, subst, arith, append_assoc}
use Rattle.std.specs.Prelude.{◌==◌, ◌-◌, not}
use Rattle.std.specs.List.{AllByRecursion, filter}
use Rattle.std.specs.Str.{bytes_eq}
use Rattle.std.proofs.lemmas.Slice.Eq.{bytes_eq-Decides}
use Rattle.std.proofs.lemmas.Bool.{eqb-true, and_parts, false_from_ne_true}
use Rattle.name_calls.specs.Paths.{is_before, is_child, is_prefix, last_name, parent, same_path}
use Rattle.inode_tree.specs.declared.rows.Row.{Row}
use Rattle.inode_tree.specs.Below.{rows_below, seen_from}
use Rattle.inode_tree.specs.Rows.{Entry, IsRising, IsRows, is_dir, is_dir_at, removed, row_at}
use Rattle.inode_tree.proofs.ZoneLemmas.{prefix-length}
use Rattle.inode_tree.proofs.Seeks.{before-not-same, same-is, same-itself}
use Rattle.row_blocks.specs.Below.{IsRowIn, IsWalkable, below, belows}
use Rattle.row_blocks.proofs.Blocks.{after-in, both}
use Rattle.row_blocks.proofs.Groups.{filter-none, filter-yes}
use Rattle.row_blocks.proofs.Rows.{all-in, ancestor, below-blocks, prefix-take}
use Rattle.row_copies.specs.Clusters.{CopyState, IsTreeOfRows}
use Rattle.row_copies.specs.Copies.{AreCopies, IsCopyOf}
use Rattle.row_copies.specs.Walks.{AddsCopies, IsNextSubtree, entry_at}
use Rattle.row_copies.proofs.AddLemmas.{pairs-join}
use Rattle.row_copies.proofs.PutLemmas.{AllBefore}

pub walkable : (rows : List Entry) → IsTreeOfRows rows → IsWalkable rows
walkable rows t = record { rising = t.rising; housed = t.housed }

-- the row at a path is one of the rows
pub row-there : (rows : List Entry) (p : List (List ℕ)) (row : Row) → row_at rows p ≡ Some row → IsRowIn (entry_at p row) rows
row-there [] p row h = cc
row-there (e ∷ es) p row h = go (same_path e.path p) refl h (row-there es p row)
  where
    go : (b : Bool) → same_path e.path p ≡ b → cond b (Some e.row) (row_at es p) ≡ Some row → (row_at es p ≡ Some row → IsRowIn (entry_at p row) es) → IsRowIn (entry_at p row) (e ∷ es)
    go true s h more = let r : e.row ≡ row = cc in inl (λ i. record { path = sym (same-is e.path p s) i; row = sym r i })
    go false s h more = inr (more h)

-- each row is the one at its path
pub there-row : (rows : List Entry) (e : Entry) → IsRising rows → IsRowIn e rows → row_at rows e.path ≡ Some e.row
there-row [] e r is = absurd is
there-row (x ∷ xs) e r (inl is) = ap (λ (b : Bool). cond b (Some x.row) (row_at xs e.path)) (ap (λ (y : Entry). same_path y.path e.path) (sym is) ∙ same-itself e.path) ∙ ap (λ (y : Entry). Some y.row) (sym is)
there-row (x ∷ xs) e r (inr is) = ap (λ (b : Bool). cond b (Some x.row) (row_at xs e.path)) (before-not-same x.path e.path (after-in x.path xs e r.0 is)) ∙ there-row xs e r.1 is

-- lists of children

pub belows-join : (xs ys es : List Entry) → belows (xs ++ ys) es ≡ belows xs es ++ belows ys es
belows-join [] ys es = refl
belows-join (x ∷ xs) ys es = ap (λ (l : List Entry). below es x.path ++ l) (belows-join xs ys es) ∙ sym (append_assoc (below es x.path) (belows xs es) (belows ys es))

pub split-at : (kids : List Entry) (k : ℕ) (d : Entry) → k < length kids → kids ≡ take k kids ++ get_or kids k d ∷ drop (suc k) kids
split-at [] k d h = absurd (omega (arith, h))
split-at (x ∷ kids) zero d h = refl
split-at (x ∷ kids) (suc k) d h = ap (λ (l : List Entry). x ∷ l) (split-at kids k d (omega (arith, h)))

pub take-next : (kids : List Entry) (k : ℕ) (d : Entry) → k < length kids → take (suc k) kids ≡ take k kids ++ get_or kids k d ∷ []
take-next [] k d h = absurd (omega (arith, h))
take-next (x ∷ kids) zero d h = refl
take-next (x ∷ kids) (suc k) d h = ap (λ (l : List Entry). x ∷ l) (take-next kids k d (omega (arith, h)))

abbrev pub kids-of : List Entry → List (List ℕ) → List Entry
kids-of rows p = filter (λ (e : Entry). is_child p e.path) rows

in-filter : (test : Entry → Bool) (es : List Entry) (x : Entry) → IsRowIn x (filter test es) → IsRowIn x es × (test x ≡ true)
in-filter test [] x is = absurd is
in-filter test (e ∷ es) x is = go (test e) refl is (in-filter test es x)
  where
    go : (b : Bool) → test e ≡ b → IsRowIn x (cond b (e ∷ filter test es) (filter test es)) → (IsRowIn x (filter test es) → IsRowIn x es × (test x ≡ true)) → IsRowIn x (e ∷ es) × (test x ≡ true)
    go true t (inl here) more = (inl here, ap test here ∙ t)
    go true t (inr there) more = let m = more there in (inr m.0, m.1)
    go false t there more = let m = more there in (inr m.0, m.1)

at-in : (xs : List Entry) (k : ℕ) (d : Entry) → k < length xs → IsRowIn (get_or xs k d) xs
at-in [] k d h = absurd (omega (arith, h))
at-in (x ∷ xs) zero d h = inl refl
at-in (x ∷ xs) (suc k) d h = inr (at-in xs k d (omega (arith, h)))

-- a child has one name more
pub child-is : (p q : List (List ℕ)) → is_prefix p q ≡ true → length q ≡ length p + 1 → q ≡ p ++ last_name q ∷ []
child-is [] [] h long = absurd (omega (arith, long))
child-is [] (y ∷ []) h long = refl
child-is [] (y ∷ z ∷ q) h long = absurd (omega (arith, long))
child-is (x ∷ p) [] h long = cc
child-is (x ∷ p) (y ∷ []) h long = absurd (omega (arith, long))
child-is (x ∷ p) (y ∷ z ∷ q) h long =
    let parts = and_parts (bytes_eq x y) (is_prefix p (z ∷ q)) h in
    λ i. sym ((bytes_eq-Decides x y).0 parts.0) i ∷ child-is p (z ∷ q) parts.1 (omega (arith, long)) i

-- the child at a place of the list
pub record IsKid (rows : List Entry) (p : List (List ℕ)) (kid : Entry) : Type 0 where
  pub is_in : IsRowIn kid rows
  pub path : kid.path ≡ p ++ last_name kid.path ∷ []

pub kid-at : (rows : List Entry) (p : List (List ℕ)) (k : ℕ) (d : Entry) → k < length (kids-of rows p) → IsKid rows p (get_or (kids-of rows p) k d)
kid-at rows p k d h =
    let kid = get_or (kids-of rows p) k d in
    let found = in-filter (λ (e : Entry). is_child p e.path) rows kid (at-in (kids-of rows p) k d h) in
    let parts = and_parts (is_prefix p kid.path) (length kid.path == length p + 1) found.1 in
    record { is_in = found.0; path = child-is p kid.path parts.0 (eqb-true (length kid.path) (length p + 1) parts.1) }

parent-snoc : (p : List (List ℕ)) (x : List ℕ) → parent (p ++ x ∷ []) ≡ p
parent-snoc [] x = refl
parent-snoc (y ∷ []) x = refl
parent-snoc (y ∷ z ∷ p) x = ap (λ (l : List (List ℕ)). y ∷ l) (parent-snoc (z ∷ p) x)

-- only directories have children
pub no-kids : (rows : List Entry) (p : List (List ℕ)) (row : Row) → IsTreeOfRows rows → row_at rows p ≡ Some row → is_dir row.kind ≡ false → kids-of rows p ≡ []
no-kids rows p row t at file = filter-none (λ (e : Entry). is_child p e.path) rows (none rows (λ e is. is))
  where
    lone : (e : Entry) → IsRowIn e rows → is_child p e.path ≡ true → ⊥
    lone e is child =
        let parts = and_parts (is_prefix p e.path) (length e.path == length p + 1) child in
        let path : e.path ≡ p ++ last_name e.path ∷ [] = child-is p e.path parts.0 (eqb-true (length e.path) (length p + 1) parts.1) in
        let up : parent e.path ≡ p = ap parent path ∙ parent-snoc p (last_name e.path) in
        let housed : is_dir_at (row_at rows (parent e.path)) ≡ true = all-in (λ (x : Entry). is_dir_at (row_at rows (parent x.path)) ≡ true) rows e t.housed is in
        both (is_dir row.kind) (sym (ap is_dir_at (ap (row_at rows) up ∙ at)) ∙ housed) file

    none : (es : List Entry) → ((e : Entry) → IsRowIn e es → IsRowIn e rows) → AllByRecursion (λ (e : Entry). is_child p e.path ≡ false) es
    none [] inside = tt
    none (e ∷ es) inside = (false_from_ne_true (is_child p e.path) (λ c. lone e (inside e (inl refl)) c), none es (λ x is. inside x (inr is)))

-- the rows at and below a path are its own and those of its children
pub block-is : (rows : List Entry) (p : List (List ℕ)) (row : Row) → IsTreeOfRows rows → row_at rows p ≡ Some row → below rows p ≡ entry_at p row ∷ belows (kids-of rows p) rows
block-is rows p row t at = below-blocks p rows (entry_at p row) (walkable rows t) (row-there rows p row at) refl

-- copies have the paths of what they copy
before-next : (to : List (List ℕ)) (done : List Entry) (x : Entry) (rest ys : List Entry) → IsRising (done ++ x ∷ rest) → AreCopies done ys → AllBefore to x.path ys
before-next to [] x rest [] r h = tt
before-next to [] x rest (y ∷ ys) r h = absurd h
before-next to (d ∷ done) x rest [] r h = absurd h
before-next to (d ∷ done) x rest (y ∷ ys) r h =
    (subst (λ (q : List (List ℕ)). is_before q x.path ≡ true) (sym h.0.0) (after-in d.path (done ++ x ∷ rest) x r.0 (in-mid done)), before-next to done x rest ys r.1 h.1)
  where
    in-mid : (es : List Entry) → IsRowIn x (es ++ x ∷ rest)
    in-mid [] = inl refl
    in-mid (e ∷ es) = inr (in-mid es)

-- all copied rows are before the next
pub all-before : (from to : List (List ℕ)) (s : CopyState) (n : IsNextSubtree from to s) → IsTreeOfRows s.source.rows → AllBefore to from (rows_below s.target.rows to)
all-before from to s n t =
    before-next to n.done (entry_at from n.row) (belows (kids-of s.source.rows from) s.source.rows ++ n.rest) (rows_below s.target.rows to)
    (subst IsRising (sym (ap (λ (l : List Entry). n.done ++ (l ++ n.rest)) (sym (block-is s.source.rows from n.row t n.is_row)) ∙ n.whole)) t.rising)
    n.there

-- the blocks of the first k children, of the next, and of those after it
pub blocks-at : (rows : List Entry) (from : List (List ℕ)) (row : Row) (k : ℕ) (d : Entry) → IsTreeOfRows rows → row_at rows from ≡ Some row → k < length (kids-of rows from)
    → below rows from ≡ (entry_at from row ∷ belows (take k (kids-of rows from)) rows) ++ (below rows (get_or (kids-of rows from) k d).path ++ belows (drop (suc k) (kids-of rows from)) rows)
blocks-at rows from row k d t at h =
    let kids = kids-of rows from in
    let kid = get_or kids k d in
    block-is rows from row t at
    ∙ ap (λ (l : List Entry). entry_at from row ∷ l) (ap (λ (l : List Entry). belows l rows) (split-at kids k d h) ∙ belows-join (take k kids) (kid ∷ drop (suc k) kids) rows)

-- after the first k children of a directory the next is the next row
pub next-kid : (from to : List (List ℕ)) (row : Row) (k : ℕ) (d : Entry) (a b : CopyState) (n : IsNextSubtree from to a) → IsTreeOfRows a.source.rows → row_at a.source.rows from ≡ Some row → k < length (kids-of a.source.rows from)
    → AddsCopies to (entry_at from row ∷ belows (take k (kids-of a.source.rows from)) a.source.rows) a b → IsNextSubtree (get_or (kids-of a.source.rows from) k d).path to b
next-kid from to row k d a b n t at h f =
    let rows = a.source.rows in
    let kids = kids-of rows from in
    let kid = get_or kids k d in
    let first = entry_at from row ∷ belows (take k kids) rows in
    let later = belows (drop (suc k) kids) rows in
    let whole : (n.done ++ first) ++ (below rows kid.path ++ (later ++ n.rest)) ≡ rows =
    append_assoc n.done first (below rows kid.path ++ (later ++ n.rest))
    ∙ ap (λ (l : List Entry). n.done ++ (first ++ l)) (sym (append_assoc (below rows kid.path) later n.rest))
    ∙ ap (λ (l : List Entry). n.done ++ l) (sym (append_assoc first (below rows kid.path ++ later) n.rest))
    ∙ ap (λ (l : List Entry). n.done ++ (l ++ n.rest)) (sym (blocks-at rows from row k d t at h))
    ∙ n.whole in
    record {
      row = kid.row;
      is_row = ap (λ (es : List Entry). row_at es kid.path) f.source.rows ∙ there-row rows kid t.rising (kid-at rows from k d h).is_in;
      done = n.done ++ first;
      rest = later ++ n.rest;
      whole = ap (λ (es : List Entry). (n.done ++ first) ++ (below es kid.path ++ (later ++ n.rest))) f.source.rows ∙ whole ∙ sym f.source.rows;
      there = subst (λ (ys : List Entry). AreCopies (n.done ++ first) ys) (sym f.there) (pairs-join IsCopyOf n.done (rows_below a.target.rows to) first f.made n.there f.copied);
    }

-- nothing lies below a path at which nothing is

pub none-below : (rows : List Entry) (to : List (List ℕ)) → IsRows rows → row_at rows to ≡ None → AllByRecursion (λ (e : Entry). is_prefix to e.path ≡ false) rows
none-below rows to r absent = go rows (λ e is. is)
  where
    lone : (e : Entry) → IsRowIn e rows → is_prefix to e.path ≡ true → ⊥
    lone e is h =
        let long : length to ≤ length e.path = prefix-length to e.path h in
        let up = ancestor to rows (record { rising = r.rising; housed = r.housed }) (length e.path - length to) (length to) e is (omega (arith, long)) in
        let path : up.0.path ≡ to = up.2 ∙ prefix-take to e.path h in
        let here : row_at rows to ≡ Some up.0.row = ap (row_at rows) (sym path) ∙ there-row rows up.0 r.rising up.1 in
        absurd cc

    go : (es : List Entry) → ((e : Entry) → IsRowIn e es → IsRowIn e rows) → AllByRecursion (λ (e : Entry). is_prefix to e.path ≡ false) es
    go [] inside = tt
    go (e ∷ es) inside = (false_from_ne_true (is_prefix to e.path) (λ h. lone e (inside e (inl refl)) h), go es (λ x is. inside x (inr is)))

pub none-to-see : (rows : List Entry) (to : List (List ℕ)) → AllByRecursion (λ (e : Entry). is_prefix to e.path ≡ false) rows → rows_below rows to ≡ []
none-to-see rows to h = ap (map (seen_from (length to))) (filter-none (λ (e : Entry). is_prefix to e.path) rows h)

pub none-removed : (rows : List Entry) (to : List (List ℕ)) → AllByRecursion (λ (e : Entry). is_prefix to e.path ≡ false) rows → removed to rows ≡ rows
none-removed [] to h = refl
none-removed (e ∷ es) to h = filter-yes (λ (x : Entry). not (is_prefix to x.path)) e es (ap not h.0) ∙ ap (λ (l : List Entry). e ∷ l) (none-removed es to h.1)

-- all rows are at or below the root
pub all-below : (rows : List Entry) → below rows [] ≡ rows
all-below [] = refl
all-below (e ∷ es) = ap (λ (l : List Entry). e ∷ l) (all-below es)
