-- Paths made of two.
use Rattle.std.proofs.Common.{◌≡◌, ℕ, zero, suc, ◌+◌, ◌<◌, ◌≤◌, Bool, true, false, ◌&&◌, List, [], ◌∷◌, ◌++◌, length, take, drop, get_or, refl, sym, ap, ◌∙◌, arith, append_assoc, length-append}
use Rattle.std.specs.Prelude.{nat_le}
use Rattle.std.specs.List.{list_all}
use Rattle.std.proofs.lemmas.List.{append-nil, take_more}
use Rattle.std.proofs.lemmas.List.Folds.{list_all-append}
use Rattle.std.proofs.lemmas.Bool.{le-leb, and_from, leb-true, and_parts}
use Rattle.name_calls.specs.Paths.{is_component, is_relative, is_short, names_text, path_text}
use Rattle.name_calls.proofs.PathLemmas.{relative-front}

names-append : (p q : List (List ℕ)) → names_text (p ++ q) ≡ names_text p ++ names_text q
names-append [] q = refl
names-append (x ∷ p) q = ap (λ (ys : List ℕ). 47 ∷ (x ++ ys)) (names-append p q) ∙ ap (λ (ys : List ℕ). 47 ∷ ys) (sym (append_assoc x (names_text p) (names_text q)))

text-short : (r : List (List ℕ)) → length (names_text r) ≤ 8000 → length (path_text r) ≤ 8000
text-short [] h = omega arith
text-short (c ∷ r) h = h

pub relative-join : (p q : List (List ℕ)) → is_relative p ≡ true → is_relative q ≡ true → length (names_text p) + length (names_text q) ≤ 8000 → length p + length q ≤ 100 → is_relative (p ++ q) ≡ true
relative-join p q rp rq bytes names =
    let all : list_all is_component (p ++ q) ≡ true =
    list_all-append is_component p q ∙ and_from (list_all is_component p) (list_all is_component q) (and_parts (list_all is_component p) (is_short p) rp).0 (and_parts (list_all is_component q) (is_short q) rq).0 in
    let text : length (names_text (p ++ q)) ≤ 8000 = let e = ap length (names-append p q) in omega (arith, e, length-append (names_text p) (names_text q), bytes) in
    let count : length (p ++ q) ≤ 100 = omega (arith, length-append p q, names) in
    and_from (list_all is_component (p ++ q)) (is_short (p ++ q)) all
    (and_from (nat_le (length (path_text (p ++ q))) 8000) (nat_le (length (p ++ q)) 100) (le-leb _ _ (text-short (p ++ q) text)) (le-leb _ _ count))

pub may-join : (p q : List (List ℕ)) → is_relative p ≡ true → is_relative q ≡ true → (nat_le (length (names_text p) + length (names_text q)) 8000 && nat_le (length p + length q) 100) ≡ true → is_relative (p ++ q) ≡ true
may-join p q rp rq h =
    let parts = and_parts (nat_le (length (names_text p) + length (names_text q)) 8000) (nat_le (length p + length q) 100) h in
    relative-join p q rp rq (leb-true (length (names_text p) + length (names_text q)) 8000 parts.0) (leb-true (length p + length q) 100 parts.1)

text-whole : (r : List (List ℕ)) → length (path_text r) ≤ 8000 → length (names_text r) ≤ 8000
text-whole [] h = omega arith
text-whole (c ∷ r) h = h

fits : (p q : List (List ℕ)) → is_relative (p ++ q) ≡ true → (nat_le (length (names_text p) + length (names_text q)) 8000 && nat_le (length p + length q) 100) ≡ true
fits p q r =
    let short = and_parts (nat_le (length (path_text (p ++ q))) 8000) (nat_le (length (p ++ q)) 100) (and_parts (list_all is_component (p ++ q)) (is_short (p ++ q)) r).1 in
    let text = text-whole (p ++ q) (leb-true (length (path_text (p ++ q))) 8000 short.0) in
    let count = leb-true (length (p ++ q)) 100 short.1 in
    and_from (nat_le (length (names_text p) + length (names_text q)) 8000) (nat_le (length p + length q) 100)
    (le-leb _ _ (let e = ap length (names-append p q) in omega (arith, e, length-append (names_text p) (names_text q), text)))
    (le-leb _ _ (omega (arith, length-append p q, count)))

-- two paths that may not follow one another make no path
pub too-long : (p q : List (List ℕ)) → (nat_le (length (names_text p) + length (names_text q)) 8000 && nat_le (length p + length q) 100) ≡ false → is_relative (p ++ q) ≡ false
too-long p q h = go (is_relative (p ++ q)) (fits p q)
  where
    go : (b : Bool) → (b ≡ true → (nat_le (length (names_text p) + length (names_text q)) 8000 && nat_le (length p + length q) 100) ≡ true) → b ≡ false
    go true then = let no : true ≡ false = sym (then refl) ∙ h in cc
    go false then = refl

pub relative-left : (p q : List (List ℕ)) → is_relative (p ++ q) ≡ true → is_relative p ≡ true
relative-left p [] h = ap is_relative (sym (append-nil p)) ∙ h
relative-left p (c ∷ q) h = relative-front p c (relative-left (p ++ c ∷ []) q (ap is_relative (append_assoc p (c ∷ []) q) ∙ h))

take-drop : (n : ℕ) (p : List (List ℕ)) → take n p ++ drop n p ≡ p
take-drop zero p = refl
take-drop (suc n) [] = refl
take-drop (suc n) (x ∷ p) = ap (λ (l : List (List ℕ)). x ∷ l) (take-drop n p)

-- one name more of a path that follows another
pub next-name : (to from path : List (List ℕ)) (k : ℕ) (x : List ℕ) → k < length from → path ≡ to ++ take k from → x ≡ get_or from k [] → path ++ x ∷ [] ≡ to ++ take (k + 1) from
next-name to from path k x h is is_x =
    (λ i. is i ++ is_x i ∷ []) ∙ append_assoc to (take k from) (get_or from k [] ∷ []) ∙ ap (λ (l : List (List ℕ)). to ++ l) (sym (take_more from k [] h))

pub may-add : (to from path : List (List ℕ)) (k : ℕ) (x : List ℕ) → is_relative (to ++ from) ≡ true → k < length from → path ≡ to ++ take k from → x ≡ get_or from k [] → is_relative (path ++ x ∷ []) ≡ true
may-add to from path k x rule h is is_x =
    ap is_relative (next-name to from path k x h is is_x)
    ∙ relative-left (to ++ take (k + 1) from) (drop (k + 1) from) (ap is_relative (append_assoc to (take (k + 1) from) (drop (k + 1) from) ∙ ap (λ (l : List (List ℕ)). to ++ l) (take-drop (k + 1) from)) ∙ rule)
