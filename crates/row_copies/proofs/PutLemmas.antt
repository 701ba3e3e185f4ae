-- A row put in after all that are at and below a path.
use Rattle.std.proofs.Common.{◌≡◌, ℕ, Bool, true, false, cond, List, [], ◌∷◌, ◌++◌, length, drop, map, Some, None, refl, sym, ap, ◌∙◌, subst, arith}
use Rattle.std.specs.Prelude.{◌==◌, not}
use Rattle.std.specs.List.{AllByRecursion, filter}
use Rattle.std.proofs.lemmas.Bool.Decides.{nat_tests}
use Rattle.std.proofs.lemmas.Bool.{not_from_true, false_from_ne_true}
use Rattle.name_calls.specs.Paths.{is_before, is_prefix, same_path}
use Rattle.inode_tree.specs.declared.rows.Row.{Row}
use Rattle.inode_tree.specs.declared.rows.Kind.{Kind}
use Rattle.inode_tree.specs.Below.{rows_below, seen_from}
use Rattle.inode_tree.specs.Rows.{AllAfter, Entry, IsRising, entry_of, put, removed, row_at, set_kind, with_kind}
use Rattle.inode_tree.proofs.MovedPaths.{before-append, prefix-append, prefix-split}
use Rattle.inode_tree.proofs.Puts.{absent-parts, not-both}
use Rattle.inode_tree.proofs.Ranks.{before-trans}
use Rattle.inode_tree.proofs.Seeks.{same-itself}
use Rattle.row_blocks.proofs.Blocks.{both}
use Rattle.row_blocks.proofs.Groups.{filter-no, filter-yes}

pub drop-join : (p q : List (List ℕ)) → drop (length p) (p ++ q) ≡ q
drop-join [] q = refl
drop-join (x ∷ p) q = drop-join p q

abbrev pub IsAt : List (List ℕ) → Entry → Bool
IsAt to e = is_prefix to e.path

-- each of these that is at or below `to` is before the path
abbrev pub EndsBefore : List (List ℕ) → List (List ℕ) → List Entry → Type 0
EndsBefore to p es = AllByRecursion (λ (e : Entry). is_prefix to e.path ≡ true → is_before e.path p ≡ true) es

module _ (to : List (List ℕ)) where
  abbrev pub in_block : List Entry → List Entry
  in_block es = filter (λ (e : Entry). is_prefix to e.path) es

  -- after a row that comes later than the path, nothing is at or below `to`
  none-later : (p : List (List ℕ)) (es : List Entry) → AllAfter p es → EndsBefore to p es → in_block es ≡ []
  none-later p [] after ends = refl
  none-later p (x ∷ es) after ends =
      filter-no (λ (e : Entry). is_prefix to e.path) x es (false_from_ne_true (is_prefix to x.path) (λ t. not-both p x.path after.0 (ends.0 t)))
      ∙ none-later p es after.1 ends.1

  after-all : (p q : List (List ℕ)) (es : List Entry) → is_before p q ≡ true → AllAfter q es → AllAfter p es
  after-all p q [] b a = tt
  after-all p q (e ∷ es) b a = (before-trans p q e.path b a.0, after-all p q es b a.1)

  pub block-put : (e : Entry) (es : List Entry) → IsRising es → is_prefix to e.path ≡ true → EndsBefore to e.path es → in_block (put e es) ≡ in_block es ++ e ∷ []
  block-put e [] r h ends = filter-yes (λ (x : Entry). is_prefix to x.path) e [] h
  block-put e (x ∷ es) r h ends = go (is_before e.path x.path) refl (block-put e es r.1 h ends.1)
    where
      later : is_before e.path x.path ≡ true → in_block (x ∷ es) ≡ []
      later b = none-later e.path (x ∷ es) (b, after-all e.path x.path es b r.0) ends

      split : (b : Bool) → in_block (put e es) ≡ in_block es ++ e ∷ [] → cond b (x ∷ in_block (put e es)) (in_block (put e es)) ≡ cond b (x ∷ in_block es) (in_block es) ++ e ∷ []
      split true ih = ap (λ (l : List Entry). x ∷ l) ih
      split false ih = ih

      go : (b : Bool) → is_before e.path x.path ≡ b → in_block (put e es) ≡ in_block es ++ e ∷ [] → in_block (cond b (e ∷ x ∷ es) (x ∷ put e es)) ≡ in_block (x ∷ es) ++ e ∷ []
      go true b ih = filter-yes (λ (y : Entry). is_prefix to y.path) e (x ∷ es) h ∙ ap (λ (l : List Entry). e ∷ l) (later b) ∙ sym (ap (λ (l : List Entry). l ++ e ∷ []) (later b))
      go false b ih = split (is_prefix to x.path) ih

  pub removed-put : (e : Entry) (es : List Entry) → is_prefix to e.path ≡ true → removed to (put e es) ≡ removed to es
  removed-put e [] h = filter-no (λ (x : Entry). not (is_prefix to x.path)) e [] (not_from_true (is_prefix to e.path) h)
  removed-put e (x ∷ es) h = go (is_before e.path x.path) (removed-put e es h)
    where
      split : (b : Bool) → removed to (put e es) ≡ removed to es → cond b (x ∷ removed to (put e es)) (removed to (put e es)) ≡ cond b (x ∷ removed to es) (removed to es)
      split true ih = ap (λ (l : List Entry). x ∷ l) ih
      split false ih = ih

      go : (b : Bool) → removed to (put e es) ≡ removed to es → removed to (cond b (e ∷ x ∷ es) (x ∷ put e es)) ≡ removed to (x ∷ es)
      go true ih = filter-no (λ (y : Entry). not (is_prefix to y.path)) e (x ∷ es) (not_from_true (is_prefix to e.path) h)
      go false ih = split (not (is_prefix to x.path)) ih

  -- seen from `to`

  -- each of the rows at and below `to`, as they are seen from it, is before the path
  abbrev pub AllBefore : List (List ℕ) → List Entry → Type 0
  AllBefore q ys = AllByRecursion (λ (y : Entry). is_before y.path q ≡ true) ys

  ends-before : (q : List (List ℕ)) (es : List Entry) → AllBefore q (rows_below es to) → EndsBefore to (to ++ q) es
  ends-before q [] h = tt
  ends-before q (e ∷ es) h = go (is_prefix to e.path) refl h (ends-before q es)
    where
      go : (b : Bool) → is_prefix to e.path ≡ b → AllBefore q (map (seen_from (length to)) (cond b (e ∷ in_block es) (in_block es))) → (AllBefore q (rows_below es to) → EndsBefore to (to ++ q) es) → EndsBefore to (to ++ q) (e ∷ es)
      go true is h more = (λ t. subst (λ (p : List (List ℕ)). is_before p (to ++ q) ≡ true) (sym (prefix-split to e.path is)) (before-append to (drop (length to) e.path) q ∙ h.0), more h.1)
      go false is h more = (λ t. absurd (both (is_prefix to e.path) t is), more h)

  map-join : (xs : List Entry) (e : Entry) → map (seen_from (length to)) (xs ++ e ∷ []) ≡ map (seen_from (length to)) xs ++ seen_from (length to) e ∷ []
  map-join [] e = refl
  map-join (x ∷ xs) e = ap (λ (l : List Entry). seen_from (length to) x ∷ l) (map-join xs e)

  -- a row put in after those at and below `to`
  pub below-put : (q : List (List ℕ)) (row : Row) (es : List Entry) → IsRising es → AllBefore q (rows_below es to)
      → rows_below (put (record { path = to ++ q; row = row }) es) to ≡ rows_below es to ++ record { path = q; row = row } ∷ []
  below-put q row es r before =
      ap (map (seen_from (length to))) (block-put (record { path = to ++ q; row = row }) es r (prefix-append to q) (ends-before q es before))
      ∙ map-join (in_block es) (record { path = to ++ q; row = row })
      ∙ ap (λ (p : List (List ℕ)). rows_below es to ++ record { path = p; row = row } ∷ []) (drop-join to q)

-- ids

eq-self : (n : ℕ) → (n == n) ≡ true
eq-self n = grind (arith, nat_tests)

pub free-parts : (e : Entry) (es : List Entry) (id : ℕ) → entry_of (e ∷ es) id ≡ None → ((e.row.id == id) ≡ false) × (entry_of es id ≡ None)
free-parts e es id h = go (e.row.id == id) h
  where
    go : (t : Bool) → cond t (Some e) (entry_of es id) ≡ None → (t ≡ false) × (entry_of es id ≡ None)
    go true f = cc
    go false f = (refl, f)

free-join : (e : Entry) (es : List Entry) (id : ℕ) → (e.row.id == id) ≡ false → entry_of es id ≡ None → entry_of (e ∷ es) id ≡ None
free-join e es id h g = go (e.row.id == id) h
  where
    go : (t : Bool) → t ≡ false → cond t (Some e) (entry_of es id) ≡ None
    go true f = cc
    go false f = g

-- an id that is free once a row was put in is that of no other row
pub free-put : (e : Entry) (es : List Entry) (id : ℕ) → entry_of (put e es) id ≡ None → ((e.row.id == id) ≡ false) × (entry_of es id ≡ None)
free-put e [] id h = free-parts e [] id h
free-put e (x ∷ es) id h = go (is_before e.path x.path) h (free-put e es id)
  where
    go : (b : Bool) → entry_of (cond b (e ∷ x ∷ es) (x ∷ put e es)) id ≡ None → (entry_of (put e es) id ≡ None → ((e.row.id == id) ≡ false) × (entry_of es id ≡ None)) → ((e.row.id == id) ≡ false) × (entry_of (x ∷ es) id ≡ None)
    go true h ih = free-parts e (x ∷ es) id h
    go false h ih =
        let parts = free-parts x (put e es) id h in
        let more = ih parts.1 in
        (more.0, free-join x es id parts.0 more.1)

abbrev pub has_kind : Entry → Kind → Entry
has_kind e kind = record e { row = record { id = e.row.id; kind = kind } }

with-other : (id : ℕ) (kind : Kind) (e : Entry) → (e.row.id == id) ≡ false → with_kind id kind e ≡ e
with-other id kind e h = go (e.row.id == id) h
  where
    go : (t : Bool) → t ≡ false → cond t (record e { row = record { id = id; kind = kind } }) e ≡ e
    go true f = cc
    go false f = refl

with-own : (kind : Kind) (e : Entry) → with_kind e.row.id kind e ≡ has_kind e kind
with-own kind e = go (e.row.id == e.row.id) (eq-self e.row.id)
  where
    go : (t : Bool) → t ≡ true → cond t (record e { row = record { id = e.row.id; kind = kind } }) e ≡ has_kind e kind
    go true f = refl
    go false f = cc

set-free : (es : List Entry) (id : ℕ) (kind : Kind) → entry_of es id ≡ None → set_kind es id kind ≡ es
set-free [] id kind h = refl
set-free (e ∷ es) id kind h = let parts = free-parts e es id h in λ i. with-other id kind e parts.0 i ∷ set-free es id kind parts.1 i

-- a row that was put in under a free id gets another kind
pub set-put : (e : Entry) (es : List Entry) (kind : Kind) → entry_of es e.row.id ≡ None → set_kind (put e es) e.row.id kind ≡ put (has_kind e kind) es
set-put e [] kind h = λ i. with-own kind e i ∷ []
set-put e (x ∷ es) kind h = go (is_before e.path x.path) (set-put e es kind parts.1)
  where
    parts : ((x.row.id == e.row.id) ≡ false) × (entry_of es e.row.id ≡ None)
    parts = free-parts x es e.row.id h

    go : (b : Bool) → set_kind (put e es) e.row.id kind ≡ put (has_kind e kind) es → set_kind (cond b (e ∷ x ∷ es) (x ∷ put e es)) e.row.id kind ≡ cond b (has_kind e kind ∷ x ∷ es) (x ∷ put (has_kind e kind) es)
    go true ih = λ i. with-own kind e i ∷ set-free (x ∷ es) e.row.id kind h i
    go false ih = λ i. with-other e.row.id kind x parts.0 i ∷ ih i

-- the row that was put in is at its path
pub row-of-put : (e : Entry) (es : List Entry) → row_at es e.path ≡ None → row_at (put e es) e.path ≡ Some e.row
row-of-put e [] h = ap (λ (b : Bool). cond b (Some e.row) None) (same-itself e.path)
row-of-put e (x ∷ es) h = go (is_before e.path x.path) (row-of-put e es parts.1)
  where
    parts : (same_path x.path e.path ≡ false) × (row_at es e.path ≡ None)
    parts = absent-parts x es e.path h

    go : (b : Bool) → row_at (put e es) e.path ≡ Some e.row → row_at (cond b (e ∷ x ∷ es) (x ∷ put e es)) e.path ≡ Some e.row
    go true ih = ap (λ (t : Bool). cond t (Some e.row) (row_at (x ∷ es) e.path)) (same-itself e.path)
    go false ih = ap (λ (t : Bool). cond t (Some x.row) (row_at (put e es) e.path)) parts.0 ∙ ih

-- the ids of the rows at and below a path are those of rows
pub below-has : (es : List Entry) (to : List (List ℕ)) → AllByRecursion (λ (y : Entry). entry_of es y.row.id ≡ None → ⊥) (rows_below es to)
below-has [] to = tt
below-has (e ∷ es) to = go (is_prefix to e.path) (more (rows_below es to) (below-has es to))
  where
    more : (ys : List Entry) → AllByRecursion (λ (y : Entry). entry_of es y.row.id ≡ None → ⊥) ys → AllByRecursion (λ (y : Entry). entry_of (e ∷ es) y.row.id ≡ None → ⊥) ys
    more [] h = tt
    more (y ∷ ys) h = (λ none. h.0 (free-parts e es y.row.id none).1, more ys h.1)

    go : (b : Bool) → AllByRecursion (λ (y : Entry). entry_of (e ∷ es) y.row.id ≡ None → ⊥) (rows_below es to)
        → AllByRecursion (λ (y : Entry). entry_of (e ∷ es) y.row.id ≡ None → ⊥) (map (seen_from (length to)) (cond b (e ∷ filter (λ (x : Entry). is_prefix to x.path) es) (filter (λ (x : Entry). is_prefix to x.path) es)))
    go true h = (λ none. both (e.row.id == e.row.id) (eq-self e.row.id) (free-parts e es e.row.id none).0, h)
    go false h = h
