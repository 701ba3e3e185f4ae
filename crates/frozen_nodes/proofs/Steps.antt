-- Rows by the first name of their paths.
use Rattle.std.proofs.Common.{◌≡◌, ℕ, suc, Bool, true, false, cond, ◌&&◌, List, [], ◌∷◌, ◌++◌, length, map, Some, refl, sym, ◌∙◌, ap, arith}
use Rattle.std.specs.Prelude.{◌==◌, ◌+◌, ⊤}
use Rattle.std.specs.List.{filter}
use Rattle.std.specs.Str.{bytes_eq}
use Rattle.std.proofs.lemmas.Bool.Decides.{nat_tests}
use Rattle.std.proofs.lemmas.Slice.Eq.{bytes_eq-Decides}
use Rattle.name_calls.specs.Paths.{is_child, is_prefix, same_path}
use Rattle.inode_tree.specs.declared.rows.Row.{Row}
use Rattle.inode_tree.specs.Listing.{child_of, children}
use Rattle.inode_tree.specs.Rows.{Entry, row_at}
use Rattle.frozen_nodes.specs.Forest.{under}

-- the path without its first name, if that is x
abbrev pub strip : List ℕ → List (List ℕ) → Row → List Entry → List Entry
strip x [] row es = es
strip x (y ∷ p) row es = cond (bytes_eq y x) (record { path = p; row = row } ∷ es) es

-- the rows whose paths have the first name x, without it
abbrev pub inside : List ℕ → List Entry → List Entry
inside x [] = []
inside x (e ∷ es) = strip x e.path e.row (inside x es)

strip-append : (x : List ℕ) (p : List (List ℕ)) (row : Row) (es fs : List Entry) → strip x p row (es ++ fs) ≡ strip x p row es ++ fs
strip-append x [] row es fs = refl
strip-append x (y ∷ p) row es fs = go (bytes_eq y x)
  where
    go : (t : Bool) → cond t (record { path = p; row = row } ∷ (es ++ fs)) (es ++ fs) ≡ cond t (record { path = p; row = row } ∷ es) es ++ fs
    go true = refl
    go false = refl

pub inside-append : (x : List ℕ) (es fs : List Entry) → inside x (es ++ fs) ≡ inside x es ++ inside x fs
inside-append x [] fs = refl
inside-append x (e ∷ es) fs = ap (strip x e.path e.row) (inside-append x es fs) ∙ strip-append x e.path e.row (inside x es) (inside x fs)

pub inside-under : (x name : List ℕ) (es : List Entry) → inside x (map (under name) es) ≡ cond (bytes_eq name x) es []
inside-under x name es = go (bytes_eq name x) refl es
  where
    go : (t : Bool) → bytes_eq name x ≡ t → (fs : List Entry) → inside x (map (under name) fs) ≡ cond t fs []
    go true h [] = refl
    go false h [] = refl
    go true h (e ∷ fs) = ap (λ (t : Bool). cond t (e ∷ inside x (map (under name) fs)) (inside x (map (under name) fs))) h ∙ ap (λ (gs : List Entry). e ∷ gs) (go true h fs)
    go false h (e ∷ fs) = ap (λ (t : Bool). cond t (e ∷ inside x (map (under name) fs)) (inside x (map (under name) fs))) h ∙ go false h fs

-- each path has a name
abbrev pub AllDeep : List Entry → Type 0
AllDeep [] = ⊤
AllDeep (e ∷ es) = (length e.path ≡ 0 → ⊥) × AllDeep es

pub deep-append : (es fs : List Entry) → AllDeep es → AllDeep fs → AllDeep (es ++ fs)
deep-append [] fs d h = h
deep-append (e ∷ es) fs d h = (d.0, deep-append es fs d.1 h)

pub deep-under : (name : List ℕ) (es : List Entry) → AllDeep (map (under name) es)
deep-under name [] = tt
deep-under name (e ∷ es) = (λ h. absurd (omega arith), deep-under name es)

-- the row at a path
pub row-inside : (x : List ℕ) (p : List (List ℕ)) (es : List Entry) → row_at es (x ∷ p) ≡ row_at (inside x es) p
row-inside x p [] = refl
row-inside x p (e ∷ es) = go e.path e.row (row-inside x p es)
  where
    go : (q : List (List ℕ)) (row : Row) → row_at es (x ∷ p) ≡ row_at (inside x es) p → cond (same_path q (x ∷ p)) (Some row) (row_at es (x ∷ p)) ≡ row_at (strip x q row (inside x es)) p
    go [] row h = h
    go (y ∷ q) row h = test (bytes_eq y x)
      where
        test : (t : Bool) → cond (t && same_path q p) (Some row) (row_at es (x ∷ p)) ≡ row_at (cond t (record { path = q; row = row } ∷ inside x es) (inside x es)) p
        test true = ap (cond (same_path q p) (Some row)) h
        test false = h

turned : (x y : List ℕ) → bytes_eq x y ≡ bytes_eq y x
turned x y = go (bytes_eq x y) refl (bytes_eq y x) refl
  where
    go : (s : Bool) → bytes_eq x y ≡ s → (t : Bool) → bytes_eq y x ≡ t → s ≡ t
    go true h true k = refl
    go false h false k = refl
    go true h false k = let e : bytes_eq y x ≡ true = (bytes_eq-Decides y x).1 (sym ((bytes_eq-Decides x y).0 h)) in cc
    go false h true k = let e : bytes_eq x y ≡ true = (bytes_eq-Decides x y).1 (sym ((bytes_eq-Decides y x).0 k)) in cc

eq-suc : (a b : ℕ) → (suc a == suc b + 1) ≡ (a == b + 1)
eq-suc a b = grind (arith, nat_tests)

and-assoc : (a b c : Bool) → ((a && b) && c) ≡ (a && (b && c))
and-assoc true b c = refl
and-assoc false b c = refl

child-step : (x y : List ℕ) (p q : List (List ℕ)) → is_child (x ∷ p) (y ∷ q) ≡ (bytes_eq y x && is_child p q)
child-step x y p q =
    ap (λ (t : Bool). (bytes_eq x y && is_prefix p q) && t) (eq-suc (length q) (length p))
    ∙ and-assoc (bytes_eq x y) (is_prefix p q) (length q == length p + 1)
    ∙ ap (λ (t : Bool). t && is_child p q) (turned x y)

never-root : (p : List (List ℕ)) → is_child p [] ≡ false
never-root [] = refl
never-root (y ∷ p) = refl

child-same : (y : List ℕ) (p q : List (List ℕ)) (row : Row) → is_child p q ≡ true → child_of (record { path = y ∷ q; row = row }) ≡ child_of (record { path = q; row = row })
child-same y p [] row h = let n = never-root p in cc
child-same y p (z ∷ q) row h = refl

-- the children of a directory
pub children-inside : (x : List ℕ) (p : List (List ℕ)) (es : List Entry) → children es (x ∷ p) ≡ children (inside x es) p
children-inside x p [] = refl
children-inside x p (e ∷ es) = go e.path e.row (children-inside x p es)
  where
    go : (q : List (List ℕ)) (row : Row) → children es (x ∷ p) ≡ children (inside x es) p
        → map child_of (cond (is_child (x ∷ p) q) (record { path = q; row = row } ∷ filter (λ f. is_child (x ∷ p) f.path) es) (filter (λ f. is_child (x ∷ p) f.path) es)) ≡ children (strip x q row (inside x es)) p
    go [] row h = h
    go (y ∷ q) row h =
        ap (λ (t : Bool). map child_of (cond t (record { path = y ∷ q; row = row } ∷ filter (λ f. is_child (x ∷ p) f.path) es) (filter (λ f. is_child (x ∷ p) f.path) es))) (child-step x y p q)
        ∙ test (bytes_eq y x) (is_child p q) refl
      where
        test : (t u : Bool) → is_child p q ≡ u
            → map child_of (cond (t && u) (record { path = y ∷ q; row = row } ∷ filter (λ f. is_child (x ∷ p) f.path) es) (filter (λ f. is_child (x ∷ p) f.path) es))
            ≡ children (cond t (record { path = q; row = row } ∷ inside x es) (inside x es)) p
        test true true k =
            (λ i. child-same y p q row k i ∷ h i)
            ∙ sym (ap (λ (t : Bool). map child_of (cond t (record { path = q; row = row } ∷ filter (λ f. is_child p f.path) (inside x es)) (filter (λ f. is_child p f.path) (inside x es)))) k)
        test true false k =
            h ∙ sym (ap (λ (t : Bool). map child_of (cond t (record { path = q; row = row } ∷ filter (λ f. is_child p f.path) (inside x es)) (filter (λ f. is_child p f.path) (inside x es)))) k)
        test false u k = h

-- with rows of one more list
pub children-append : (p : List (List ℕ)) (es fs : List Entry) → children (es ++ fs) p ≡ children es p ++ children fs p
children-append p [] fs = refl
children-append p (e ∷ es) fs = go (is_child p e.path) (children-append p es fs)
  where
    go : (t : Bool) → children (es ++ fs) p ≡ children es p ++ children fs p
        → map child_of (cond t (e ∷ filter (λ f. is_child p f.path) (es ++ fs)) (filter (λ f. is_child p f.path) (es ++ fs)))
        ≡ map child_of (cond t (e ∷ filter (λ f. is_child p f.path) es) (filter (λ f. is_child p f.path) es)) ++ children fs p
    go true h = λ i. child_of e ∷ h i
    go false h = h

two-names : (n : ℕ) → (suc (suc n) == 1) ≡ false
two-names n = grind (arith, nat_tests)

-- of rows that have names, no row is a child once they are under one more
pub none-deeper : (name : List ℕ) (es : List Entry) → AllDeep es → children (map (under name) es) [] ≡ []
none-deeper name [] d = refl
none-deeper name (e ∷ es) d = go e.path d.0 (none-deeper name es d.1)
  where
    go : (q : List (List ℕ)) → (length q ≡ 0 → ⊥) → children (map (under name) es) [] ≡ []
        → map child_of (cond (is_child [] (name ∷ q)) (record { path = name ∷ q; row = e.row } ∷ filter (λ f. is_child [] f.path) (map (under name) es)) (filter (λ f. is_child [] f.path) (map (under name) es))) ≡ []
    go [] n h = absurd (n refl)
    go (y ∷ q) n h = ap (λ (t : Bool). map child_of (cond t (record { path = name ∷ y ∷ q; row = e.row } ∷ filter (λ f. is_child [] f.path) (map (under name) es)) (filter (λ f. is_child [] f.path) (map (under name) es)))) (two-names (length q)) ∙ h
