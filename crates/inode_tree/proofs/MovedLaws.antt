-- Laws of rows that move: what is at a path, the row of an id, and that the rows stay those of a tree.
use Rattle.std.proofs.Common.{◌≡◌, ℕ, ◌-◌, ◌<◌, suc, Bool, true, false, cond, ◌&&◌, List, [], ◌∷◌, ◌++◌, length, length-take, get_or, drop, map, Option, Some, None, refl, sym, ap, ◌∙◌, subst, arith}
use Rattle.std.specs.Prelude.{◌==◌, ⊤}
use Rattle.std.specs.Option.{option_map, option_map_or}
use Rattle.inode_tree.specs.Below.{at_or_above}
use Rattle.std.specs.List.{All, AllByRecursion}
use Rattle.std.proofs.lemmas.Bool.Decides.{nat_tests}
use Rattle.std.proofs.lemmas.List.{append-nil}
use Rattle.std.proofs.lemmas.List.Elements.{All-from_recursion, recursion_from_All}
use Rattle.std.proofs.lemmas.Bool.{eqb-true}
use Rattle.name_calls.specs.Paths.{is_before, is_prefix, is_relative, parent, same_path}
use Rattle.inode_tree.specs.declared.rows.Row.{Row}
use Rattle.inode_tree.specs.Rows.{AllAfter, Entry, IsRising, IsRoot, IsRows, entry_of, is_dir_at, put, row_at}
use Rattle.inode_tree.specs.MoveLaws.{row_after}
use Rattle.inode_tree.specs.Moves.{CanMove, in_order, moved, moved_path, renamed}
use Rattle.inode_tree.proofs.Asked.{parent-take}
use Rattle.inode_tree.proofs.Each.{both, each-from}
use Rattle.inode_tree.proofs.MovedPaths.{bytes-self, prefix-split, prefix-trans, same-moved, same-other}
use Rattle.inode_tree.proofs.MovedPlaces.{all-free}
use Rattle.inode_tree.proofs.MovedRows.{IsOff}
use Rattle.inode_tree.proofs.MovedRules.{fits-parts, ruled-moved}
use Rattle.inode_tree.proofs.Puts.{absent-parts, rising-put, same-turned}
use Rattle.inode_tree.proofs.Ranks.{any_entry}
use Rattle.inode_tree.proofs.Seeks.{before-not-same, not-before-itself, same-is}
use Rattle.inode_tree.proofs.ZoneLemmas.{prefix-length}

-- no path comes twice
abbrev pub Apart : List Entry → Type 0
Apart [] = ⊤
Apart (e ∷ es) = (row_at es e.path ≡ None) × Apart es

-- no id comes twice
abbrev pub HasIds : List Entry → Type 0
HasIds [] = ⊤
HasIds (e ∷ es) = (entry_of es e.row.id ≡ None) × HasIds es

row-put : (e : Entry) (es : List Entry) (r : List (List ℕ)) → row_at es e.path ≡ None → row_at (put e es) r ≡ cond (same_path e.path r) (Some e.row) (row_at es r)
row-put e [] r h = refl
row-put e (x ∷ es) r h = go (is_before e.path x.path) (row-put e es r (absent-parts x es e.path h).1)
  where
    swap : (s t : Bool) → same_path x.path r ≡ s → same_path e.path r ≡ t → cond s (Some x.row) (cond t (Some e.row) (row_at es r)) ≡ cond t (Some e.row) (cond s (Some x.row) (row_at es r))
    swap true true a b =
        let f : x.path ≡ e.path = same-is x.path r a ∙ sym (same-is e.path r b) in
        let g : same_path e.path e.path ≡ false = subst (λ (y : List (List ℕ)). same_path y e.path ≡ false) f (absent-parts x es e.path h).0 in
        let i : same_path e.path e.path ≡ true = ap (same_path e.path) (same-is e.path r b) ∙ b in cc
    swap true false a b = refl
    swap false true a b = refl
    swap false false a b = refl

    go : (t : Bool) → row_at (put e es) r ≡ cond (same_path e.path r) (Some e.row) (row_at es r) → row_at (cond t (e ∷ x ∷ es) (x ∷ put e es)) r ≡ cond (same_path e.path r) (Some e.row) (cond (same_path x.path r) (Some x.row) (row_at es r))
    go true ih = refl
    go false ih = ap (λ (o : Option Row). cond (same_path x.path r) (Some x.row) o) ih ∙ swap (same_path x.path r) (same_path e.path r) refl refl

pub row-order : (es : List Entry) (r : List (List ℕ)) → Apart es → row_at (in_order es) r ≡ row_at es r
row-order [] r a = refl
row-order (e ∷ es) r a = row-put e (in_order es) r (row-order es e.path a.1 ∙ a.0) ∙ ap (λ (o : Option Row). cond (same_path e.path r) (Some e.row) o) (row-order es r a.1)

pub rising-order : (es : List Entry) → Apart es → IsRising (in_order es)
rising-order [] a = tt
rising-order (e ∷ es) a = rising-put (in_order es) e (rising-order es a.1) (row-order es e.path a.1 ∙ a.0)

eq-flip : (a b : ℕ) → (a == b) ≡ false → (b == a) ≡ false
eq-flip a b h = grind (arith, nat_tests)

eq-self : (a : ℕ) → (a == a) ≡ true
eq-self a = grind (arith, nat_tests)

pub none-parts : (x : Entry) (es : List Entry) (id : ℕ) → entry_of (x ∷ es) id ≡ None → ((x.row.id == id) ≡ false) × (entry_of es id ≡ None)
none-parts x es id h = go (x.row.id == id) h
  where
    go : (t : Bool) → cond t (Some x) (entry_of es id) ≡ None → (t ≡ false) × (entry_of es id ≡ None)
    go true f = cc
    go false f = (refl, f)

entry-put : (e : Entry) (es : List Entry) (id : ℕ) → entry_of es e.row.id ≡ None → entry_of (put e es) id ≡ cond (e.row.id == id) (Some e) (entry_of es id)
entry-put e [] id h = refl
entry-put e (x ∷ es) id h = go (is_before e.path x.path) (entry-put e es id (none-parts x es e.row.id h).1)
  where
    swap : (s t : Bool) → (x.row.id == id) ≡ s → (e.row.id == id) ≡ t → cond s (Some x) (cond t (Some e) (entry_of es id)) ≡ cond t (Some e) (cond s (Some x) (entry_of es id))
    swap true true a b =
        let f : x.row.id ≡ e.row.id = eqb-true x.row.id id a ∙ sym (eqb-true e.row.id id b) in
        let g : (e.row.id == e.row.id) ≡ false = subst (λ (n : ℕ). (n == e.row.id) ≡ false) f (none-parts x es e.row.id h).0 in
        let i = eq-self e.row.id in cc
    swap true false a b = refl
    swap false true a b = refl
    swap false false a b = refl

    go : (t : Bool) → entry_of (put e es) id ≡ cond (e.row.id == id) (Some e) (entry_of es id) → entry_of (cond t (e ∷ x ∷ es) (x ∷ put e es)) id ≡ cond (e.row.id == id) (Some e) (cond (x.row.id == id) (Some x) (entry_of es id))
    go true ih = refl
    go false ih = ap (λ (o : Option Entry). cond (x.row.id == id) (Some x) o) ih ∙ swap (x.row.id == id) (e.row.id == id) refl refl

pub entry-order : (es : List Entry) (id : ℕ) → HasIds es → entry_of (in_order es) id ≡ entry_of es id
entry-order [] id a = refl
entry-order (e ∷ es) id a = entry-put e (in_order es) id (entry-order es e.row.id a.1 ∙ a.0) ∙ ap (λ (o : Option Entry). cond (e.row.id == id) (Some e) o) (entry-order es id a.1)

each-put : (P : Entry → Type 0) (e : Entry) (es : List Entry) → P e → AllByRecursion P es → AllByRecursion P (put e es)
each-put P e [] h a = (h, tt)
each-put P e (x ∷ es) h a = go (is_before e.path x.path) (each-put P e es h a.1)
  where
    go : (t : Bool) → AllByRecursion P (put e es) → AllByRecursion P (cond t (e ∷ x ∷ es) (x ∷ put e es))
    go true ih = (h, a)
    go false ih = (a.0, ih)

pub each-order : (P : Entry → Type 0) (es : List Entry) → AllByRecursion P es → AllByRecursion P (in_order es)
each-order P [] a = tt
each-order P (e ∷ es) a = each-put P e (in_order es) a.0 (each-order P es a.1)

each-map : (P : Entry → Type 0) (f : Entry → Entry) (es : List Entry) → AllByRecursion (λ e. P (f e)) es → AllByRecursion P (map f es)
each-map P f [] a = tt
each-map P f (e ∷ es) a = (a.0, each-map P f es a.1)

-- the row at a path is found by its id
pub entry-at : (rows : List Entry) (p : List (List ℕ)) (row : Row) → IsRows rows → row_at rows p ≡ Some row → entry_of rows row.id ≡ Some (record { path = p; row = row })
entry-at rows p row is h = let w = find rows h in subst (λ (e : Entry). entry_of rows e.row.id ≡ Some e) w.2 (is.once w.0 any_entry w.1)
  where
    find : (es : List Entry) → row_at es p ≡ Some row → (k : ℕ) × (k < length es) × (get_or es k any_entry ≡ record { path = p; row = row })
    find [] h = cc
    find (e ∷ es) h = go (same_path e.path p) refl h (find es)
      where
        go : (t : Bool) → same_path e.path p ≡ t → cond t (Some e.row) (row_at es p) ≡ Some row → (row_at es p ≡ Some row → (k : ℕ) × (k < length es) × (get_or es k any_entry ≡ record { path = p; row = row })) → (k : ℕ) × (k < suc (length es)) × (get_or (e ∷ es) k any_entry ≡ record { path = p; row = row })
        go true s k ih = let f : e.row ≡ row = cc in let g = same-is e.path p s in (0, omega arith, λ i. record { path = g i; row = f i })
        go false s k ih = let w = ih k in (suc w.0, omega (arith, w.1), w.2)

-- whether the row at p is at q or above it, asked by its id
pub above-by-id : (rows : List Entry) (p q : List (List ℕ)) (row : Row) → IsRows rows → row_at rows p ≡ Some row → at_or_above rows row.id q ≡ is_prefix p q
above-by-id rows p q row is h = ap (λ (o : Option Entry). option_map_or (λ (e : Entry). is_prefix e.path q) o false) (entry-at rows p row is h)

-- rows in path order have each path once
pub after-none : (r : List (List ℕ)) (es : List Entry) → AllAfter r es → row_at es r ≡ None
after-none r [] a = refl
after-none r (e ∷ es) a = ap (λ (t : Bool). cond t (Some e.row) (row_at es r)) (same-turned r e.path (before-not-same r e.path a.0)) ∙ after-none r es a.1

-- and each id once, if each is found by its id
pub has-ids : (es : List Entry) → IsRising es → AllByRecursion (λ e. entry_of es e.row.id ≡ Some e) es → HasIds es
has-ids [] r a = tt
has-ids (e ∷ es) r a =
    let each = each-off es r.0 a.1 in (
      none es (each-from (λ (f : Entry). ((e.row.id == f.row.id) ≡ false) × (entry_of es f.row.id ≡ Some f)) (λ (f : Entry). (e.row.id == f.row.id) ≡ false) (λ f h. h.0) es each),
      has-ids es r.1 (each-from (λ (f : Entry). ((e.row.id == f.row.id) ≡ false) × (entry_of es f.row.id ≡ Some f)) (λ (f : Entry). entry_of es f.row.id ≡ Some f) (λ f h. h.1) es each),
    )
  where
    one : (f : Entry) → is_before e.path f.path ≡ true → (t : Bool) → (e.row.id == f.row.id) ≡ t → cond t (Some e) (entry_of es f.row.id) ≡ Some f → (t ≡ false) × (entry_of es f.row.id ≡ Some f)
    one f b true h k =
        let g : e ≡ f = cc in
        let i : is_before f.path f.path ≡ true = subst (λ (x : Entry). is_before x.path f.path ≡ true) g b in
        let j = not-before-itself f.path in cc
    one f b false h k = (refl, k)

    each-off : (fs : List Entry) → AllAfter e.path fs → AllByRecursion (λ f. entry_of (e ∷ es) f.row.id ≡ Some f) fs → AllByRecursion (λ f. ((e.row.id == f.row.id) ≡ false) × (entry_of es f.row.id ≡ Some f)) fs
    each-off [] b a = tt
    each-off (f ∷ fs) b a = (one f b.0 (e.row.id == f.row.id) refl a.0, each-off fs b.1 a.1)

    none : (fs : List Entry) → AllByRecursion (λ f. (e.row.id == f.row.id) ≡ false) fs → entry_of fs e.row.id ≡ None
    none [] a = refl
    none (f ∷ fs) a = ap (λ (t : Bool). cond t (Some f) (entry_of fs e.row.id)) (eq-flip e.row.id f.row.id a.0) ∙ none fs a.1

module _ (p q : List (List ℕ)) where
  row-below : (es : List Entry) (x : List (List ℕ)) → AllByRecursion (IsOff q) es → row_at (map (moved p q) es) (q ++ x) ≡ row_at es (p ++ x)
  row-below [] x a = refl
  row-below (e ∷ es) x a =
      ap (λ (t : Bool). cond t (Some e.row) (row_at (map (moved p q) es) (q ++ x))) (same-moved p q e.path x a.0)
      ∙ ap (λ (o : Option Row). cond (same_path e.path (p ++ x)) (Some e.row) o) (row-below es x a.1)

  row-other : (es : List Entry) (r : List (List ℕ)) → is_prefix q r ≡ false → row_at (map (moved p q) es) r ≡ cond (is_prefix p r) None (row_at es r)
  row-other [] r h = flat (is_prefix p r)
    where
      flat : (t : Bool) → row_at [] r ≡ cond t None (row_at [] r)
      flat true = refl
      flat false = refl
  row-other (e ∷ es) r h =
      ap (λ (t : Bool). cond t (Some e.row) (row_at (map (moved p q) es) r)) (same-other p q e.path r h)
      ∙ ap (λ (o : Option Row). cond (cond (is_prefix p e.path) false (same_path e.path r)) (Some e.row) o) (row-other es r h)
      ∙ go (is_prefix p e.path) (same_path e.path r) (is_prefix p r) refl refl refl
    where
      go : (s t u : Bool) → is_prefix p e.path ≡ s → same_path e.path r ≡ t → is_prefix p r ≡ u → cond (cond s false t) (Some e.row) (cond u None (row_at es r)) ≡ cond u None (cond t (Some e.row) (row_at es r))
      go true true true a b d = refl
      go true true false a b d = let f : is_prefix p r ≡ true = ap (is_prefix p) (sym (same-is e.path r b)) ∙ a in cc
      go true false true a b d = refl
      go true false false a b d = refl
      go false true true a b d = let f : is_prefix p e.path ≡ true = ap (is_prefix p) (same-is e.path r b) ∙ d in cc
      go false true false a b d = refl
      go false false true a b d = refl
      go false false false a b d = refl

  row-moved : (es : List Entry) (r : List (List ℕ)) → AllByRecursion (IsOff q) es → row_at (map (moved p q) es) r ≡ row_after p q es r
  row-moved es r a = go (is_prefix q r) refl
    where
      go : (t : Bool) → is_prefix q r ≡ t → row_at (map (moved p q) es) r ≡ cond t (row_at es (p ++ drop (length q) r)) (cond (is_prefix p r) None (row_at es r))
      go true h = ap (row_at (map (moved p q) es)) (prefix-split q r h) ∙ row-below es (drop (length q) r) a
      go false h = row-other es r h

  pub apart-moved : (es : List Entry) → IsRising es → AllByRecursion (IsOff q) es → Apart (map (moved p q) es)
  apart-moved [] r a = tt
  apart-moved (e ∷ es) r a = (go (is_prefix p e.path) refl, apart-moved es r.1 a.1)
    where
      go : (t : Bool) → is_prefix p e.path ≡ t → row_at (map (moved p q) es) (cond t (q ++ drop (length p) e.path) e.path) ≡ None
      go true h = row-below es (drop (length p) e.path) a.1 ∙ ap (row_at es) (sym (prefix-split p e.path h)) ∙ after-none e.path es r.0
      go false h = row-other es e.path a.0 ∙ ap (λ (t : Bool). cond t None (row_at es e.path)) h ∙ after-none e.path es r.0

  entry-moved : (es : List Entry) (id : ℕ) → entry_of (map (moved p q) es) id ≡ option_map (moved p q) (entry_of es id)
  entry-moved [] id = refl
  entry-moved (e ∷ es) id = ap (λ (o : Option Entry). cond (e.row.id == id) (Some (moved p q e)) o) (entry-moved es id) ∙ go (e.row.id == id)
    where
      go : (t : Bool) → cond t (Some (moved p q e)) (option_map (moved p q) (entry_of es id)) ≡ option_map (moved p q) (cond t (Some e) (entry_of es id))
      go true = refl
      go false = refl

  pub ids-moved : (es : List Entry) → HasIds es → HasIds (map (moved p q) es)
  ids-moved [] a = tt
  ids-moved (e ∷ es) a = (entry-moved es e.row.id ∙ ap (option_map (moved p q)) a.0, ids-moved es a.1)

parent-append : (q y : List (List ℕ)) → 0 < length y → parent (q ++ y) ≡ q ++ parent y
parent-append q [] h = absurd (omega arith)
parent-append [] (b ∷ y) h = refl
parent-append (a ∷ []) (b ∷ y) h = refl
parent-append (a ∷ c ∷ q) (b ∷ y) h = ap (λ (r : List (List ℕ)). a ∷ r) (parent-append (c ∷ q) (b ∷ y) h)

pub parent-above : (r : List (List ℕ)) → is_prefix (parent r) r ≡ true
parent-above [] = refl
parent-above (x ∷ []) = refl
parent-above (x ∷ y ∷ r) = ap (λ (t : Bool). t && is_prefix (parent (y ∷ r)) (y ∷ r)) (bytes-self x) ∙ parent-above (y ∷ r)

-- a path that is not below another has no parent there
pub off-parent : (s r : List (List ℕ)) → is_prefix s r ≡ false → is_prefix s (parent r) ≡ false
off-parent s r h = go (is_prefix s (parent r)) refl
  where
    go : (t : Bool) → is_prefix s (parent r) ≡ t → t ≡ false
    go true e = let f = prefix-trans s (parent r) r e (parent-above r) in cc
    go false e = refl

pub shorter-off : (s r : List (List ℕ)) → length r < length s → is_prefix s r ≡ false
shorter-off s r l = go (is_prefix s r) refl
  where
    go : (t : Bool) → is_prefix s r ≡ t → t ≡ false
    go true e = let f = prefix-length s r e in absurd (omega arith)
    go false e = refl

parent-shorter : (r : List (List ℕ)) → 0 < length r → length (parent r) < length r
parent-shorter r h = let e = ap length (parent-take r) in omega (arith, length-take (length r - 1) r)

-- rows in path order, each with an id of its own and in a directory
pub record IsPlaced (rows : List Entry) : Type 0 where
  pub rising : IsRising rows
  pub once : All (λ e. entry_of rows e.row.id ≡ Some e) rows
  pub housed : All (λ e. is_dir_at (row_at rows (parent e.path)) ≡ true) rows

pub placed : (rows : List Entry) → IsRows rows → IsPlaced rows
placed rows is = record { rising = is.rising; once = is.once; housed = is.housed }

module _ (rows : List Entry) (p q : List (List ℕ)) (is : IsPlaced rows) (can : CanMove rows p q) where
  pub free : AllByRecursion (IsOff q) rows
  free = all-free rows is.housed q can.absent

  pub apart : Apart (map (moved p q) rows)
  apart = apart-moved p q rows is.rising free

  pub ids : HasIds rows
  ids = has-ids rows is.rising (recursion_from_All (λ e. entry_of rows e.row.id ≡ Some e) rows is.once)

  pub row-placed : (r : List (List ℕ)) → row_at (renamed p q rows) r ≡ row_after p q rows r
  row-placed r = row-order (map (moved p q) rows) r apart ∙ row-moved p q rows r free

  pub entry-placed : (id : ℕ) → entry_of (renamed p q rows) id ≡ option_map (moved p q) (entry_of rows id)
  entry-placed id = entry-order (map (moved p q) rows) id (ids-moved p q rows ids) ∙ entry-moved p q rows id

  -- the new path is not the root
  pub to-deep : 0 < length q
  to-deep = some q can.housed can.absent
    where
      some : (r : List (List ℕ)) → is_dir_at (row_at rows (parent r)) ≡ true → row_at rows r ≡ None → 0 < length r
      some [] h e = let f = ap is_dir_at e in absurd cc
      some (x ∷ r) h e = omega arith

  -- a path elsewhere keeps its row
  row-elsewhere : (r : List (List ℕ)) → is_prefix q r ≡ false → is_prefix p r ≡ false → row_at (renamed p q rows) r ≡ row_at rows r
  row-elsewhere r h k = row-placed r ∙ ap (λ (t : Bool). cond t (row_at rows (p ++ drop (length q) r)) (cond (is_prefix p r) None (row_at rows r))) h ∙ ap (λ (t : Bool). cond t None (row_at rows r)) k

  row-there : (x : List (List ℕ)) → row_at (renamed p q rows) (q ++ x) ≡ row_at rows (p ++ x)
  row-there x = row-order (map (moved p q) rows) (q ++ x) apart ∙ row-below p q rows x free

  dir-after : (e : Entry) → is_dir_at (row_at rows (parent e.path)) ≡ true → is_prefix q e.path ≡ false → is_dir_at (row_at (renamed p q rows) (parent (moved_path p q e.path))) ≡ true
  dir-after e dir off = go (is_prefix p e.path) refl
    where
      below : (y : List (List ℕ)) → e.path ≡ p ++ y → is_dir_at (row_at (renamed p q rows) (parent (q ++ y))) ≡ true
      below [] h = ap (λ (r : List (List ℕ)). is_dir_at (row_at (renamed p q rows) (parent r))) (append-nil q) ∙ ap is_dir_at (row-elsewhere (parent q) (shorter-off q (parent q) (parent-shorter q to-deep)) (off-parent p q can.apart)) ∙ can.housed
      below (b ∷ y) h =
          ap (λ (r : List (List ℕ)). is_dir_at (row_at (renamed p q rows) r)) (parent-append q (b ∷ y) (omega arith))
          ∙ ap is_dir_at (row-there (parent (b ∷ y)))
          ∙ ap (λ (r : List (List ℕ)). is_dir_at (row_at rows r)) (sym (parent-append p (b ∷ y) (omega arith)) ∙ ap parent (sym h))
          ∙ dir

      go : (t : Bool) → is_prefix p e.path ≡ t → is_dir_at (row_at (renamed p q rows) (parent (cond t (q ++ drop (length p) e.path) e.path))) ≡ true
      go true h = below (drop (length p) e.path) (prefix-split p e.path h)
      go false h = ap is_dir_at (row-elsewhere (parent e.path) (off-parent q e.path off) (off-parent p e.path h)) ∙ dir

  -- a property of each row at its new path
  each-renamed : (P : Entry → Type 0) → AllByRecursion (λ e. P (moved p q e)) rows → All P (renamed p q rows)
  each-renamed P a = All-from_recursion P (renamed p q rows) (each-order P (map (moved p q) rows) (each-map P (moved p q) rows a))

  -- the rows are still in place
  pub placed-renamed : IsPlaced (renamed p q rows)
  placed-renamed = record {
    rising = rising-order (map (moved p q) rows) apart;
    once = each-renamed (λ (e : Entry). entry_of (renamed p q rows) e.row.id ≡ Some e)
        (each-from (λ (e : Entry). entry_of rows e.row.id ≡ Some e) (λ (e : Entry). entry_of (renamed p q rows) e.row.id ≡ Some (moved p q e)) (λ e h. entry-placed e.row.id ∙ ap (option_map (moved p q)) h) rows (recursion_from_All (λ (e : Entry). entry_of rows e.row.id ≡ Some e) rows is.once));
    housed = each-renamed (λ (e : Entry). is_dir_at (row_at (renamed p q rows) (parent e.path)) ≡ true)
        (each-from (λ (e : Entry). (is_dir_at (row_at rows (parent e.path)) ≡ true) × IsOff q e) (λ (e : Entry). is_dir_at (row_at (renamed p q rows) (parent (moved_path p q e.path))) ≡ true) (λ e h. dir-after e h.0 h.1) rows
        (both (λ (e : Entry). is_dir_at (row_at rows (parent e.path)) ≡ true) (IsOff q) rows (recursion_from_All (λ (e : Entry). is_dir_at (row_at rows (parent e.path)) ≡ true) rows is.housed) free));
  }

module _ (rows : List Entry) (p q : List (List ℕ)) (is : IsRows rows) (can : CanMove rows p q) where
  -- what is at a path: at q or below it what was at the old path, at p or below it nothing, and else what was there
  pub row-renamed : (r : List (List ℕ)) → row_at (renamed p q rows) r ≡ row_after p q rows r
  row-renamed = row-placed rows p q (placed rows is) can

  -- the row of an id is the same, at its new path
  pub entry-renamed : (id : ℕ) → entry_of (renamed p q rows) id ≡ option_map (moved p q) (entry_of rows id)
  entry-renamed = entry-placed rows p q (placed rows is) can

  -- the rows are still those of a tree
  pub rows-renamed : is_relative q ≡ true → IsRows (renamed p q rows)
  rows-renamed rule = record {
    rising = after.rising;
    ruled = each-renamed rows p q (placed rows is) can (λ (e : Entry). is_relative e.path ≡ true)
        (ruled-moved p q deep rule rows (fits-parts rows p q can.fits).0 (fits-parts rows p q can.fits).1 (recursion_from_All (λ (e : Entry). is_relative e.path ≡ true) rows is.ruled));
    once = after.once;
    rooted = subst IsRoot (sym (row-elsewhere rows p q (placed rows is) can [] (shorter-off q [] deep) (root-off p can.apart))) is.rooted;
    housed = after.housed;
  }
    where
      after : IsPlaced (renamed p q rows)
      after = placed-renamed rows p q (placed rows is) can

      deep : 0 < length q
      deep = to-deep rows p q (placed rows is) can

      root-off : (r : List (List ℕ)) → is_prefix r q ≡ false → is_prefix r [] ≡ false
      root-off [] e = cc
      root-off (a ∷ r) e = refl
