-- Paths as text, and their parts between slashes.
use Rattle.std.proofs.Common.{◌≡◌, ℕ, ◌+◌, ◌<◌, ◌≤◌, zero, suc, Bool, true, false, cond, not, ◌&&◌, List, [], ◌∷◌, ◌++◌, length, get_or, take, drop, Option, Some, None, is_some, refl, sym, ap, ◌∙◌, arith, length-append, append_assoc, count_by, codes, take_all}
use Rattle.std.proofs.lemmas.List.{append-nil, drop_all, take_more}
use Rattle.std.proofs.Math.Seq.{take-append_seam}
use Rattle.std.specs.Prelude.{◌==◌, nat_lt, nat_le}
use Rattle.std.specs.Str.{bytes_eq, is_utf8}
use Rattle.std.specs.List.{list_all, slice_split, before_first, onto_first, position, position_or_len}
use Rattle.std.proofs.lemmas.Bool.Decides.{nat_tests}
use Rattle.std.proofs.lemmas.List.Splits.{length-slice_split}
use Rattle.std.proofs.lemmas.Bool.{eqb-true, ne_eqb, and_parts, leb-true, le-leb, and_from}
use Rattle.name_calls.specs.Paths.{is_component, is_prefix, is_short, is_relative, is_absolute, absolute, starts_reserved, names_text, path_text, read_path}

abbrev pub is_slash : ℕ → Bool
is_slash b = b == 47

abbrev pub parts_of : List ℕ → List (List ℕ)
parts_of = slice_split is_slash

one-more : (n : ℕ) → 1 + n ≡ suc n
one-more n = omega arith

-- the bytes before the first slash are the first part
first-part : (bs : List ℕ) → (rest : List (List ℕ)) × (parts_of bs ≡ before_first is_slash bs ∷ rest)
first-part [] = ([], refl)
first-part (b ∷ bs) = go (is_slash b) (first-part bs)
  where
    go : (t : Bool) → (rest : List (List ℕ)) × (parts_of bs ≡ before_first is_slash bs ∷ rest)
        → (rest : List (List ℕ)) × (cond t ([] ∷ parts_of bs) (onto_first b (parts_of bs)) ≡ take (cond (not t) (1 + position_or_len is_slash bs) 0) (b ∷ bs) ∷ rest)
    go true w = (parts_of bs, refl)
    go false w = (w.0, ap (onto_first b) w.1 ∙ ap (λ (n : ℕ). take n (b ∷ bs) ∷ w.0) (sym (one-more (position_or_len is_slash bs))))

pub reserved-part : (bs : List ℕ) → starts_reserved (parts_of bs) ≡ bytes_eq (before_first is_slash bs) (codes ".reserved")
reserved-part bs = let w = first-part bs in ap starts_reserved w.1

-- the parts, each after a slash, make up the bytes
pub text-parts : (bs : List ℕ) → names_text (parts_of bs) ≡ 47 ∷ bs
text-parts [] = refl
text-parts (b ∷ bs) = go (is_slash b) refl (first-part bs) (text-parts bs)
  where
    go : (t : Bool) → is_slash b ≡ t → (rest : List (List ℕ)) × (parts_of bs ≡ before_first is_slash bs ∷ rest) → names_text (parts_of bs) ≡ 47 ∷ bs
        → names_text (cond t ([] ∷ parts_of bs) (onto_first b (parts_of bs))) ≡ 47 ∷ b ∷ bs
    go true e w h = ap (λ (xs : List ℕ). 47 ∷ xs) (h ∙ ap (λ (x : ℕ). x ∷ bs) (sym (eqb-true b 47 e)))
    go false e w h =
        let f : 47 ∷ (before_first is_slash bs ++ names_text w.0) ≡ 47 ∷ bs = ap names_text (sym w.1) ∙ h in
        let g : before_first is_slash bs ++ names_text w.0 ≡ bs = cc in
        ap (λ (ps : List (List ℕ)). names_text (onto_first b ps)) w.1 ∙ ap (λ (xs : List ℕ). 47 ∷ b ∷ xs) g

pub path-text-parts : (bs : List ℕ) → path_text (parts_of bs) ≡ 47 ∷ bs
path-text-parts bs = let w = first-part bs in ap path_text w.1 ∙ ap names_text (sym w.1) ∙ text-parts bs

lt-le : (a b : ℕ) → nat_lt a b ≡ nat_le (a + 1) b
lt-le a b = grind (arith, nat_tests)

and-assoc : (a b c : Bool) → (a && b && c) ≡ (a && (b && c))
and-assoc true b c = refl
and-assoc false b c = refl

-- the rule of relative paths, tested on names with slashes between
pub tested-parts : (bs : List ℕ) → (list_all is_component (parts_of bs) && nat_lt (length bs) 8000 && nat_lt (count_by is_slash bs) 100) ≡ is_relative (parts_of bs)
tested-parts bs =
    ap (λ (u : Bool). list_all is_component (parts_of bs) && u && nat_lt (count_by is_slash bs) 100) bytes
    ∙ ap (λ (u : Bool). list_all is_component (parts_of bs) && nat_le (length (path_text (parts_of bs))) 8000 && u) names
    ∙ and-assoc (list_all is_component (parts_of bs)) (nat_le (length (path_text (parts_of bs))) 8000) (nat_le (length (parts_of bs)) 100)
  where
    bytes : nat_lt (length bs) 8000 ≡ nat_le (length (path_text (parts_of bs))) 8000
    bytes = let e : length (path_text (parts_of bs)) ≡ length bs + 1 = ap length (path-text-parts bs) ∙ omega arith in lt-le (length bs) 8000 ∙ ap (λ (n : ℕ). nat_le n 8000) (sym e)

    names : nat_lt (count_by is_slash bs) 100 ≡ nat_le (length (parts_of bs)) 100
    names = lt-le (count_by is_slash bs) 100 ∙ ap (λ (n : ℕ). nat_le n 100) (sym (length-slice_split is_slash bs))

some-absolute : (p : List (List ℕ)) → is_some (absolute p) ≡ is_absolute p
some-absolute p = go (is_absolute p)
  where
    go : (t : Bool) → is_some (cond t (Some p) None) ≡ t
    go true = refl
    go false = refl

-- a text of at least two bytes
pub read-more : (bs : List ℕ) → 2 ≤ length bs → get_or bs 0 0 ≡ 47 → read_path bs ≡ absolute (parts_of (drop 1 bs))
read-more [] h e = absurd (omega arith)
read-more (b ∷ []) h e = absurd (omega arith)
read-more (b ∷ c ∷ bs) h e = ap (λ (x : ℕ). cond (x == 47) (absolute (parts_of (c ∷ bs))) None) e

pub read-one : (bs : List ℕ) → length bs ≡ 1 → get_or bs 0 0 ≡ 47 → read_path bs ≡ Some []
read-one [] h e = absurd (omega arith)
read-one (b ∷ []) h e = ap (λ (x : ℕ). cond (x == 47) (Some []) None) e
read-one (b ∷ c ∷ bs) h e = absurd (omega arith)

pub read-no-slash : (bs : List ℕ) → (get_or bs 0 0 ≡ 47 → ⊥) → read_path bs ≡ None
read-no-slash [] h = refl
read-no-slash (b ∷ []) h = ap (λ (t : Bool). cond t (Some []) None) (ne_eqb b 47 h)
read-no-slash (b ∷ c ∷ bs) h = ap (λ (t : Bool). cond t (absolute (parts_of (c ∷ bs))) None) (ne_eqb b 47 h)

pub read-more-is : (bs : List ℕ) → 2 ≤ length bs → get_or bs 0 0 ≡ 47 → is_absolute (parts_of (drop 1 bs)) ≡ is_some (read_path bs)
read-more-is bs h e = sym (ap is_some (read-more bs h e) ∙ some-absolute (parts_of (drop 1 bs)))

-- what is true of a path that was read
pub record WasRead (bs : List ℕ) : Type 0 where
  pub slash : get_or bs 0 0 ≡ 47
  pub some : 1 ≤ length bs

pub was-read : (bs : List ℕ) → is_some (read_path bs) ≡ true → WasRead bs
was-read [] h = cc
was-read (b ∷ []) h = record { slash = go (b == 47) refl h; some = omega arith }
  where
    go : (t : Bool) → (b == 47) ≡ t → is_some {T = List (List ℕ)} (cond t (Some []) None) ≡ true → b ≡ 47
    go true e f = eqb-true b 47 e
    go false e f = cc
was-read (b ∷ c ∷ bs) h = record { slash = go (b == 47) refl h; some = omega arith }
  where
    go : (t : Bool) → (b == 47) ≡ t → is_some (cond t (absolute (parts_of (c ∷ bs))) None) ≡ true → b ≡ 47
    go true e f = eqb-true b 47 e
    go false e f = cc

pub names-read : (bs : List ℕ) → is_some (read_path bs) ≡ true → (length bs ≡ 1 → ⊥) → (is_relative (parts_of (drop 1 bs)) ≡ true) × (read_path bs ≡ Some (parts_of (drop 1 bs)))
names-read bs h apart =
    let w = was-read bs h in
    let two : 2 ≤ length bs = let some = w.some in omega arith in
    let e : is_absolute (parts_of (drop 1 bs)) ≡ true = read-more-is bs two w.slash ∙ h in
    ((and_parts _ _ e).0, read-more bs two w.slash ∙ ap (λ (t : Bool). cond t (Some (parts_of (drop 1 bs))) None) e)

pub components-read : (bs : List ℕ) → is_some (read_path bs) ≡ true → (length bs ≡ 1 → ⊥) → list_all is_component (parts_of (drop 1 bs)) ≡ true
components-read bs h apart = let r = (names-read bs h apart).0 in (and_parts _ _ r).0

pub root-read : (bs : List ℕ) → is_some (read_path bs) ≡ true → length bs ≡ 1 → read_path bs ≡ Some []
root-read bs h e = let w = was-read bs h in read-one bs e w.slash

none-from : {X : Type 0} (o : Option X) → is_some o ≡ false → o ≡ None
none-from None h = refl
none-from (Some x) h = cc

pub not-read : (bs : List ℕ) → is_some (read_path bs) ≡ false → read_path bs ≡ None
not-read bs h = none-from (read_path bs) h

-- a name is UTF-8
pub component-utf8 : (c : List ℕ) → is_component c ≡ true → is_utf8 c ≡ true
component-utf8 c h =
    let a = (and_parts _ _ h).0 in let b = (and_parts _ _ a).0 in let d = (and_parts _ _ b).0 in let e = (and_parts _ _ d).0 in (and_parts _ _ e).1

pub each-at : {X : Type 0} (test : X → Bool) (xs : List X) (k : ℕ) (d : X) → list_all test xs ≡ true → k < length xs → test (get_or xs k d) ≡ true
each-at test [] k d h b = absurd (omega arith)
each-at test (x ∷ xs) zero d h b = (and_parts _ _ h).0
each-at test (x ∷ xs) (suc k) d h b = each-at test xs k d (and_parts _ _ h).1 (omega arith)

-- the text of the names with one more
pub names-text-snoc : (p : List (List ℕ)) (c : List ℕ) → names_text (p ++ c ∷ []) ≡ names_text p ++ 47 ∷ c
names-text-snoc [] c = ap (λ (xs : List ℕ). 47 ∷ xs) (append-nil c)
names-text-snoc (x ∷ p) c = ap (λ (xs : List ℕ). 47 ∷ x ++ xs) (names-text-snoc p c) ∙ ap (λ (xs : List ℕ). 47 ∷ xs) (sym (append_assoc x (names_text p) (47 ∷ c)))

pub text-more : (start out out' out'' : List ℕ) (p : List (List ℕ)) (k : ℕ) (c : List ℕ) → k < length p → out ≡ start ++ names_text (take k p) → out' ≡ out ++ 47 ∷ [] → out'' ≡ out' ++ c → c ≡ get_or p k [] → out'' ≡ start ++ names_text (take (k + 1) p)
text-more start out out' out'' p k c h e f g i =
    g ∙ ap (λ (xs : List ℕ). xs ++ c) (f ∙ ap (λ (xs : List ℕ). xs ++ 47 ∷ []) e)
    ∙ ap (λ (xs : List ℕ). xs ++ c) (append_assoc start (names_text (take k p)) (47 ∷ []))
    ∙ append_assoc start (names_text (take k p) ++ 47 ∷ []) c
    ∙ ap (λ (xs : List ℕ). start ++ xs) (append_assoc (names_text (take k p)) (47 ∷ []) c ∙ ap (λ (x : List ℕ). names_text (take k p) ++ 47 ∷ x) i ∙ sym (names-text-snoc (take k p) (get_or p k [])) ∙ ap names_text (sym (take_more p k [] h)))

pub text-whole : (p : List (List ℕ)) → (p ≡ [] → ⊥) → names_text p ≡ path_text p
text-whole [] h = absurd (h refl)
text-whole (x ∷ p) h = refl

-- the prefix that was there before
pub front-kept : (start out more : List ℕ) → out ≡ start ++ more → take (length start) out ≡ start
front-kept start out more e = ap (take (length start)) e ∙ take-append_seam start more

position-some : (n k at : ℕ) (t : Bool) → nat_lt n k ≡ t → Some at ≡ cond t (Some n) None → (at ≡ n) × (n < k)
position-some n k at true e h = let f : at ≡ n = cc in (f, grind (arith, nat_tests))
position-some n k at false e h = cc

position-none : (n k : ℕ) (t : Bool) → nat_lt n k ≡ t → None ≡ cond t (Some n) None → k ≤ n
position-none n k true e h = cc
position-none n k false e h = grind (arith, nat_tests)

pub first-at : (bs : List ℕ) (at : ℕ) → Some at ≡ position is_slash bs → (take at bs ≡ before_first is_slash bs) × (at ≤ length bs)
first-at bs at h = let w = position-some (position_or_len is_slash bs) (length bs) at (nat_lt (position_or_len is_slash bs) (length bs)) refl h in (ap (λ (n : ℕ). take n bs) w.0, omega (arith, w.0, w.1))

pub first-all : (bs : List ℕ) → None ≡ position is_slash bs → bs ≡ before_first is_slash bs
first-all bs h = sym (take_all (position_or_len is_slash bs) bs (position-none (position_or_len is_slash bs) (length bs) (nat_lt (position_or_len is_slash bs) (length bs)) refl h))

pub relative-short : (p : List (List ℕ)) → is_relative p ≡ true → length p ≤ 100
relative-short p h = let s = (and_parts _ _ h).1 in leb-true (length p) 100 (and_parts _ _ s).1

all-front : {X : Type 0} (test : X → Bool) (xs : List X) (y : X) → list_all test (xs ++ y ∷ []) ≡ true → list_all test xs ≡ true
all-front test [] y h = refl
all-front test (x ∷ xs) y h = let w = and_parts (test x) (list_all test (xs ++ y ∷ [])) h in and_from (test x) (list_all test xs) w.0 (all-front test xs y w.1)

text-front : (p : List (List ℕ)) (c : List ℕ) → length (path_text p) ≤ length (path_text (p ++ c ∷ []))
text-front [] c = omega arith
text-front (x ∷ p) c = let e = ap length (names-text-snoc (x ∷ p) c) in omega (arith, length-append (names_text (x ∷ p)) (47 ∷ c))

-- the parent of a relative path is a relative path
pub relative-front : (p : List (List ℕ)) (c : List ℕ) → is_relative (p ++ c ∷ []) ≡ true → is_relative p ≡ true
relative-front p c h =
    let w : (list_all is_component (p ++ c ∷ []) ≡ true) × (is_short (p ++ c ∷ []) ≡ true) = and_parts _ _ h in
    let v : (nat_le (length (path_text (p ++ c ∷ []))) 8000 ≡ true) × (nat_le (length (p ++ c ∷ [])) 100 ≡ true) = and_parts _ _ w.1 in
    let bytes : length (path_text (p ++ c ∷ [])) ≤ 8000 = leb-true _ _ v.0 in
    let names : length (p ++ c ∷ []) ≤ 100 = leb-true _ _ v.1 in
    let less : length p ≤ 100 = omega (arith, length-append p (c ∷ [])) in
    let fewer : length (path_text p) ≤ 8000 = omega (arith, text-front p c) in
    and_from (list_all is_component p) (is_short p) (all-front is_component p c w.0)
    (and_from (nat_le (length (path_text p)) 8000) (nat_le (length p) 100) (le-leb _ _ fewer) (le-leb _ _ less))

-- a path that has more names than another is not above it
pub longer-is-no-prefix : (p q : List (List ℕ)) → length q < length p → is_prefix p q ≡ false
longer-is-no-prefix [] q lt = absurd (omega arith)
longer-is-no-prefix (x ∷ p) [] lt = refl
longer-is-no-prefix (x ∷ p) (y ∷ q) lt = ap (λ (b : Bool). bytes_eq x y && b) (longer-is-no-prefix p q (omega arith)) ∙ none (bytes_eq x y)
  where
    none : (b : Bool) → (b && false) ≡ false
    none true = refl
    none false = refl

-- the names of two paths from the k-th on: the k-th of each, and the names after it
pub prefix-from : (p q : List (List ℕ)) (k : ℕ) → k < length p → k < length q → is_prefix (drop k p) (drop k q) ≡ (bytes_eq (get_or p k []) (get_or q k []) && is_prefix (drop (suc k) p) (drop (suc k) q))
prefix-from [] q k in-p in-q = absurd (omega arith)
prefix-from (x ∷ p) [] k in-p in-q = absurd (omega arith)
prefix-from (x ∷ p) (y ∷ q) zero in-p in-q = refl
prefix-from (x ∷ p) (y ∷ q) (suc k) in-p in-q = prefix-from p q k (omega arith) (omega arith)

-- no names are left after all of them
pub ends-at : (p q : List (List ℕ)) (k : ℕ) → length p ≤ k → is_prefix (drop k p) q ≡ true
ends-at p q k le = ap (λ (r : List (List ℕ)). is_prefix r q) (drop_all k p le)
