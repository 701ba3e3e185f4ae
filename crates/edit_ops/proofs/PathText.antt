-- The text of paths: each is read back, and its length.
use Rattle.std.proofs.Common.{◌≡◌, ℕ, ◌+◌, ◌<◌, ◌≤◌, Bool, true, false, cond, not, ◌&&◌, List, [], ◌∷◌, ◌++◌, length, get_or, take, drop, Option, Some, None, refl, sym, ap, subst, ◌∙◌, arith, length-append, append_assoc, take-append-drop}
use Rattle.std.specs.Prelude.{◌==◌, nat_le}
use Rattle.std.specs.List.{list_all, onto_first}
use Rattle.std.proofs.lemmas.Bool.Decides.{nat_tests}
use Rattle.std.proofs.lemmas.List.{take_more}
use Rattle.std.proofs.lemmas.Option.{cond_some}
use Rattle.std.proofs.lemmas.Bool.{leb-true, and_parts}
use Rattle.name_calls.specs.Paths.{is_component, is_plain_byte, is_short, is_relative, is_absolute, absolute, relative, starts_reserved, names_text, path_text, read_path, read_relative}
use Rattle.name_calls.proofs.PathLemmas.{parts_of, path-text-parts, names-text-snoc}

-- a conditional that gave a value
if_some : {A : Type 0} (b : Bool) (o : Option A) (y : A) → cond b o None ≡ Some y → (b ≡ true) × (o ≡ Some y)
if_some true o y e = (refl, e)
if_some false o y e = absurd cc

pub if_true : {A : Type 0} (b : Bool) (x y : A) → b ≡ true → cond b x y ≡ x
if_true b x y e = ap (λ t. cond t x y) e

eq_47 : (b : ℕ) → (b == 47) ≡ true → b ≡ 47
eq_47 b h = grind (arith, nat_tests)

-- bytes that are read as a path are its text, and the path is absolute
pub path_takes : (bytes : List ℕ) (p : List (List ℕ)) → read_path bytes ≡ Some p → (bytes ≡ path_text p) × (is_absolute p ≡ true)
path_takes [] p e = absurd cc
path_takes (b ∷ []) p e =
    let g = cond_some (b == 47) [] p e in
    subst (λ (q : List (List ℕ)). (b ∷ [] ≡ path_text q) × (is_absolute q ≡ true)) g.1 (ap (λ (x : ℕ). x ∷ []) (eq_47 b g.0), refl)
path_takes (b ∷ c ∷ bytes) p e =
    let g = if_some (b == 47) (absolute (parts_of (c ∷ bytes))) p e in
    let h = cond_some (is_absolute (parts_of (c ∷ bytes))) (parts_of (c ∷ bytes)) p g.1 in
    subst (λ (q : List (List ℕ)). (b ∷ c ∷ bytes ≡ path_text q) × (is_absolute q ≡ true)) h.1 (ap (λ (x : ℕ). x ∷ c ∷ bytes) (eq_47 b g.0) ∙ sym (path-text-parts (c ∷ bytes)), h.0)

plain_no_slash : (b : ℕ) → is_plain_byte b ≡ true → (b == 47) ≡ false
plain_no_slash b h = let g = and_parts (not (b == 47) && not (b == 58)) (not (b == 0)) h in flip (b == 47) (and_parts (not (b == 47)) (not (b == 58)) g.0).0
  where
    flip : (t : Bool) → not t ≡ true → t ≡ false
    flip true e = sym e
    flip false e = refl

-- a name before the parts
name_before : (rest : List ℕ) (cs : List (List ℕ)) → parts_of rest ≡ [] ∷ cs → (c : List ℕ) → list_all is_plain_byte c ≡ true → parts_of (c ++ rest) ≡ c ∷ cs
name_before rest cs is [] h = is
name_before rest cs is (b ∷ c) h =
    let g = and_parts (is_plain_byte b) (list_all is_plain_byte c) h in
    ap (λ (t : Bool). cond t ([] ∷ parts_of (c ++ rest)) (onto_first b (parts_of (c ++ rest)))) (plain_no_slash b g.0) ∙ ap (onto_first b) (name_before rest cs is c g.1)

component_plain : (c : List ℕ) → is_component c ≡ true → list_all is_plain_byte c ≡ true
component_plain c h = let a = (and_parts _ _ h).0 in let b = (and_parts _ _ a).0 in let d = (and_parts _ _ b).0 in (and_parts _ _ d).1

component_some : (c : List ℕ) → is_component c ≡ true → nat_le 1 (length c) ≡ true
component_some c h =
    let a = (and_parts _ _ h).0 in let b = (and_parts _ _ a).0 in let d = (and_parts _ _ b).0 in let e = (and_parts _ _ d).0 in let f = (and_parts _ _ e).0 in (and_parts _ _ f).0

pub component_length : (c : List ℕ) → is_component c ≡ true → length c ≤ 255
component_length c h =
    let a = (and_parts _ _ h).0 in let b = (and_parts _ _ a).0 in let d = (and_parts _ _ b).0 in let e = (and_parts _ _ d).0 in let f = (and_parts _ _ e).0 in
    leb-true (length c) 255 (and_parts _ _ f).1

-- the text of names is split into an empty part and the names
parts_again : (cs : List (List ℕ)) → list_all is_component cs ≡ true → parts_of (names_text cs) ≡ [] ∷ cs
parts_again [] h = refl
parts_again (d ∷ ds) h =
    let g = and_parts (is_component d) (list_all is_component ds) h in
    ap (λ (ps : List (List ℕ)). [] ∷ ps) (name_before (names_text ds) ds (parts_again ds g.1) d (component_plain d g.0))

-- the text of a path is read back as the path
pub path_again : (p : List (List ℕ)) → is_absolute p ≡ true → read_path (path_text p) ≡ Some p
path_again [] h = refl
path_again ([] ∷ cs) h =
    let r = (and_parts (is_relative ([] ∷ cs)) (not (starts_reserved ([] ∷ cs))) h).0 in
    let l = (and_parts (list_all is_component ([] ∷ cs)) (is_short ([] ∷ cs)) r).0 in
    let c = (and_parts (is_component []) (list_all is_component cs) l).0 in
    absurd (cc (component_some [] c))
path_again ((b ∷ c) ∷ cs) h =
    let r = (and_parts (is_relative ((b ∷ c) ∷ cs)) (not (starts_reserved ((b ∷ c) ∷ cs))) h).0 in
    let l = (and_parts (list_all is_component ((b ∷ c) ∷ cs)) (is_short ((b ∷ c) ∷ cs)) r).0 in
    let g = and_parts (is_component (b ∷ c)) (list_all is_component cs) l in
    ap absolute (name_before (names_text cs) cs (parts_again cs g.1) (b ∷ c) (component_plain (b ∷ c) g.0))
    ∙ if_true (is_absolute ((b ∷ c) ∷ cs)) (Some ((b ∷ c) ∷ cs)) None h

-- the same for paths down from a directory
pub relative_takes : (bytes : List ℕ) (p : List (List ℕ)) → read_relative bytes ≡ Some p → (bytes ≡ path_text p) × (is_relative p ≡ true)
relative_takes [] p e = absurd cc
relative_takes (b ∷ []) p e =
    let g = cond_some (b == 47) [] p e in
    subst (λ (q : List (List ℕ)). (b ∷ [] ≡ path_text q) × (is_relative q ≡ true)) g.1 (ap (λ (x : ℕ). x ∷ []) (eq_47 b g.0), refl)
relative_takes (b ∷ c ∷ bytes) p e =
    let g = if_some (b == 47) (relative (parts_of (c ∷ bytes))) p e in
    let h = cond_some (is_relative (parts_of (c ∷ bytes))) (parts_of (c ∷ bytes)) p g.1 in
    subst (λ (q : List (List ℕ)). (b ∷ c ∷ bytes ≡ path_text q) × (is_relative q ≡ true)) h.1 (ap (λ (x : ℕ). x ∷ c ∷ bytes) (eq_47 b g.0) ∙ sym (path-text-parts (c ∷ bytes)), h.0)

pub relative_again : (p : List (List ℕ)) → is_relative p ≡ true → read_relative (path_text p) ≡ Some p
relative_again [] h = refl
relative_again ([] ∷ cs) h =
    let l = (and_parts (list_all is_component ([] ∷ cs)) (is_short ([] ∷ cs)) h).0 in
    let c = (and_parts (is_component []) (list_all is_component cs) l).0 in
    absurd (cc (component_some [] c))
relative_again ((b ∷ c) ∷ cs) h =
    let l = (and_parts (list_all is_component ((b ∷ c) ∷ cs)) (is_short ((b ∷ c) ∷ cs)) h).0 in
    let g = and_parts (is_component (b ∷ c)) (list_all is_component cs) l in
    ap relative (name_before (names_text cs) cs (parts_again cs g.1) (b ∷ c) (component_plain (b ∷ c) g.0))
    ∙ if_true (is_relative ((b ∷ c) ∷ cs)) (Some ((b ∷ c) ∷ cs)) None h

pub relative_length : (p : List (List ℕ)) → is_relative p ≡ true → length (path_text p) ≤ 8000
relative_length p h =
    let s = (and_parts (list_all is_component p) (is_short p) h).1 in
    leb-true (length (path_text p)) 8000 (and_parts (nat_le (length (path_text p)) 8000) (nat_le (length p) 100) s).0

pub absolute_length : (p : List (List ℕ)) → is_absolute p ≡ true → length (path_text p) ≤ 8000
absolute_length p h = relative_length p (and_parts (is_relative p) (not (starts_reserved p)) h).0

-- a path that keeps the rule of paths, and doesn't begin with `.reserved`, is absolute
pub absolute_from : (p : List (List ℕ)) → is_relative p ≡ true → not (starts_reserved p) ≡ true → is_absolute p ≡ true
absolute_from p a b = cc

names_append : (a b : List (List ℕ)) → names_text (a ++ b) ≡ names_text a ++ names_text b
names_append [] b = refl
names_append (c ∷ a) b = ap (λ (t : List ℕ). 47 ∷ c ++ t) (names_append a b) ∙ sym (append_assoc (47 ∷ c) (names_text a) (names_text b))

-- the length of the text with one more name, and with all of them
pub length_more : (p : List (List ℕ)) (k : ℕ) → k < length p → length (names_text (take (k + 1) p)) ≡ length (names_text (take k p)) + 1 + length (get_or p k [])
length_more p k h =
    let e : names_text (take (k + 1) p) ≡ names_text (take k p) ++ 47 ∷ get_or p k [] = ap names_text (take_more p k [] h) ∙ names-text-snoc (take k p) (get_or p k []) in
    omega (arith, ap length e, length-append (names_text (take k p)) (47 ∷ get_or p k []))

pub length_within : (p : List (List ℕ)) (k : ℕ) → length (names_text (take k p)) ≤ length (names_text p)
length_within p k =
    let e : names_text p ≡ names_text (take k p) ++ names_text (drop k p) = ap names_text (sym (take-append-drop k p)) ∙ names_append (take k p) (drop k p) in
    omega (arith, ap length e, length-append (names_text (take k p)) (names_text (drop k p)))

-- the bytes of the names so far, and with one more
pub one_name_more : (p : List (List ℕ)) (k : ℕ) (c : List ℕ) → is_relative p ≡ true → k < length p → c ≡ get_or p k []
    → (length (names_text (take k p)) + (1 + length c) ≡ length (names_text (take (k + 1) p))) × (length (names_text (take (k + 1) p)) ≤ 8000)
one_name_more [] k c rule within is = absurd (omega arith)
one_name_more (x ∷ p) k c rule within is =
    let same : length c ≡ length (get_or (x ∷ p) k []) = ap length is in
    (omega (arith, same, length_more (x ∷ p) k within), omega (arith, length_within (x ∷ p) (k + 1), relative_length (x ∷ p) rule))
