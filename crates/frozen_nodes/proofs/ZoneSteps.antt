-- The depth of a zone, name by name.
use Rattle.std.proofs.Common.{◌≡◌, ℕ, suc, Bool, true, false, cond, ◌&&◌, List, [], ◌∷◌, length, Option, Some, None, refl, sym, ◌∙◌, ap, arith}
use Rattle.std.specs.Prelude.{nat_lt}
use Rattle.std.specs.Option.{option_map}
use Rattle.std.specs.Str.{bytes_eq}
use Rattle.std.proofs.lemmas.Bool.Decides.{nat_tests}
use Rattle.name_calls.specs.Paths.{is_prefix}
use Rattle.inode_tree.specs.declared.rows.Row.{Row}
use Rattle.inode_tree.specs.Rows.{Entry, is_marked, is_zone_over, longer, zone_of}
use Rattle.frozen_nodes.proofs.Steps.{AllDeep, inside, strip}

-- the number of names in the path of the zone
abbrev pub depth : List Entry → List (List ℕ) → Option ℕ
depth es p = option_map (λ e. length e.path) (zone_of es p)

abbrev pub deeper : ℕ → Option ℕ → ℕ
deeper n None = n
deeper n (Some m) = cond (nat_lt n m) m n

depth-longer : (e : Entry) (o : Option Entry) → length (longer e o).path ≡ deeper (length e.path) (option_map (λ f. length f.path) o)
depth-longer e None = refl
depth-longer e (Some f) = go (nat_lt (length e.path) (length f.path))
  where
    go : (t : Bool) → length (cond t f e).path ≡ cond t (length f.path) (length e.path)
    go true = refl
    go false = refl

depth-more : (e : Entry) (es : List Entry) (p : List (List ℕ)) → depth (e ∷ es) p ≡ cond (is_zone_over p e) (Some (deeper (length e.path) (depth es p))) (depth es p)
depth-more e es p = go (is_zone_over p e)
  where
    go : (t : Bool) → option_map (λ f. length f.path) (cond t (Some (longer e (zone_of es p))) (zone_of es p)) ≡ cond t (Some (deeper (length e.path) (depth es p))) (depth es p)
    go true = ap (λ (n : ℕ). Some n) (depth-longer e (zone_of es p))
    go false = refl

lt-suc : (n m : ℕ) → nat_lt (suc n) (suc m) ≡ nat_lt n m
lt-suc n m = grind (arith, nat_tests)

deeper-suc : (n : ℕ) (o : Option ℕ) → deeper (suc n) (option_map (λ m. suc m) o) ≡ suc (deeper n o)
deeper-suc n None = refl
deeper-suc n (Some m) = ap (λ (t : Bool). cond t (suc m) (suc n)) (lt-suc n m) ∙ go (nat_lt n m)
  where
    go : (t : Bool) → cond t (suc m) (suc n) ≡ suc (cond t m n)
    go true = refl
    go false = refl

mixed : (a b c : Bool) → (a && (b && c)) ≡ (b && (a && c))
mixed true b c = refl
mixed false true c = refl
mixed false false c = refl

-- of rows that have names, those with the first name x count
pub depth-inside : (x : List ℕ) (p : List (List ℕ)) (es : List Entry) → AllDeep es → depth es (x ∷ p) ≡ option_map (λ m. suc m) (depth (inside x es) p)
depth-inside x p [] d = refl
depth-inside x p (e ∷ es) d = depth-more e es (x ∷ p) ∙ go e.path d.0 e.row (depth-inside x p es d.1)
  where
    go : (q : List (List ℕ)) → (length q ≡ 0 → ⊥) → (row : Row) → depth es (x ∷ p) ≡ option_map (λ m. suc m) (depth (inside x es) p)
        → cond (is_marked row && is_prefix q (x ∷ p)) (Some (deeper (length q) (depth es (x ∷ p)))) (depth es (x ∷ p)) ≡ option_map (λ m. suc m) (depth (strip x q row (inside x es)) p)
    go [] n row h = absurd (n refl)
    go (y ∷ q) n row h =
        ap (λ (t : Bool). cond t (Some (deeper (suc (length q)) (depth es (x ∷ p)))) (depth es (x ∷ p))) (mixed (is_marked row) (bytes_eq y x) (is_prefix q p))
        ∙ test (bytes_eq y x)
      where
        test : (t : Bool) → cond (t && (is_marked row && is_prefix q p)) (Some (deeper (suc (length q)) (depth es (x ∷ p)))) (depth es (x ∷ p))
            ≡ option_map (λ m. suc m) (depth (cond t (record { path = q; row = row } ∷ inside x es) (inside x es)) p)
        test false = h
        test true = last (is_marked row && is_prefix q p) ∙ sym (ap (option_map (λ m. suc m)) (depth-more (record { path = q; row = row }) (inside x es) p))
          where
            last : (u : Bool) → cond u (Some (deeper (suc (length q)) (depth es (x ∷ p)))) (depth es (x ∷ p)) ≡ option_map (λ m. suc m) (cond u (Some (deeper (length q) (depth (inside x es) p))) (depth (inside x es) p))
            last true = ap (λ (o : Option ℕ). Some (deeper (suc (length q)) o)) h ∙ ap (λ (m : ℕ). Some m) (deeper-suc (length q) (depth (inside x es) p))
            last false = h

none-over : (es : List Entry) → AllDeep es → depth es [] ≡ None
none-over [] d = refl
none-over (e ∷ es) d = depth-more e es [] ∙ go e.path d.0 (none-over es d.1)
  where
    and-no : (b : Bool) → (b && false) ≡ false
    and-no true = refl
    and-no false = refl

    go : (q : List (List ℕ)) → (length q ≡ 0 → ⊥) → depth es [] ≡ None → cond (is_marked e.row && is_prefix q []) (Some (deeper (length q) (depth es []))) (depth es []) ≡ None
    go [] n h = absurd (n refl)
    go (y ∷ q) n h = ap (λ (t : Bool). cond t (Some (deeper (suc (length q)) (depth es []))) (depth es [])) (and-no (is_marked e.row)) ∙ h

abbrev pub or_depth : Option ℕ → Option ℕ → Option ℕ
or_depth None o = o
or_depth (Some n) o = Some n

-- the depth 0 of a marked directory
abbrev pub own_depth : Row → Option ℕ
own_depth row = cond (is_marked row) (Some 0) None

pub depth-here : (row : Row) (es : List Entry) → AllDeep es → depth (record { path = []; row = row } ∷ es) [] ≡ own_depth row
depth-here row es d = depth-more (record { path = []; row = row }) es [] ∙ go (is_marked row)
  where
    go : (t : Bool) → cond (t && true) (Some (deeper 0 (depth es []))) (depth es []) ≡ cond t (Some 0) None
    go true = ap (λ (o : Option ℕ). Some (deeper 0 o)) (none-over es d)
    go false = none-over es d

pub depth-below : (row : Row) (es : List Entry) (x : List ℕ) (p : List (List ℕ)) → AllDeep es
    → depth (record { path = []; row = row } ∷ es) (x ∷ p) ≡ or_depth (option_map (λ m. suc m) (depth (inside x es) p)) (own_depth row)
depth-below row es x p d =
    depth-more (record { path = []; row = row }) es (x ∷ p)
    ∙ ap (λ (o : Option ℕ). cond (is_marked row && true) (Some (deeper 0 o)) o) (depth-inside x p es d)
    ∙ go (is_marked row) (depth (inside x es) p)
  where
    go : (t : Bool) (o : Option ℕ) → cond (t && true) (Some (deeper 0 (option_map (λ m. suc m) o))) (option_map (λ m. suc m) o) ≡ or_depth (option_map (λ m. suc m) o) (cond t (Some 0) None)
    go true None = refl
    go true (Some m) = ap (λ (u : Bool). Some (cond u (suc m) 0)) positive
      where
        positive : nat_lt 0 (suc m) ≡ true
        positive = grind (arith, nat_tests)
    go false None = refl
    go false (Some m) = refl
