-- Pieces and their starts.
use Rattle.std.proofs.Common.{◌≡◌, ℕ, ◌+◌, ◌-◌, ◌<◌, ◌≤◌, zero, suc, List, [], ◌∷◌, ◌++◌, length, get_or, set, take, drop, refl, sym, ap, ◌∙◌, subst, arith, length-append, append_assoc, take-append-drop, length-take, length-drop, inl, inr}
use Rattle.std.proofs.lemmas.Bool.{cases_lt}
use Rattle.std.proofs.lemmas.List.Edits.{insert-append_left, insert-append_right}
use Rattle.std.specs.List.{insert}
use Rattle.inode_tree.specs.Listed.{flat, starts_of, parted, FitsAt}

pub length-starts : (a : ℕ) (ps : List (List ℕ)) → length (starts_of a ps) ≡ length ps
length-starts a [] = refl
length-starts a (p ∷ ps) = ap suc (length-starts (a + length p) ps)

pub first-start : (ps : List (List ℕ)) → get_or (starts_of 0 ps) 0 0 ≡ 0
first-start [] = refl
first-start (p ∷ ps) = refl

-- the end of the j-th piece is within all
pub end-within : (a : ℕ) (ps : List (List ℕ)) (j : ℕ) → j < length ps → get_or (starts_of a ps) j 0 + length (get_or ps j []) ≤ a + length (flat ps)
end-within a [] j h = absurd (omega arith)
end-within a (p ∷ ps) zero h = omega (arith, length-append p (flat ps))
end-within a (p ∷ ps) (suc j) h = let i = end-within (a + length p) ps j (omega arith) in omega (arith, length-append p (flat ps))

pub next-start : (a : ℕ) (ps : List (List ℕ)) (j : ℕ) → j + 1 < length ps → get_or (starts_of a ps) (j + 1) 0 ≡ get_or (starts_of a ps) j 0 + length (get_or ps j [])
next-start a [] j h = absurd (omega arith)
next-start a (p ∷ []) j h = absurd (omega arith)
next-start a (p ∷ q ∷ ps) zero h = refl
next-start a (p ∷ q ∷ ps) (suc j) h = let e : suc j + 1 ≡ suc (j + 1) = omega arith in ap (λ (k : ℕ). get_or (starts_of a (p ∷ q ∷ ps)) k 0) e ∙ next-start (a + length p) (q ∷ ps) j (omega arith)

pub last-start : (a : ℕ) (ps : List (List ℕ)) (j : ℕ) → j + 1 ≡ length ps → a + length (flat ps) ≡ get_or (starts_of a ps) j 0 + length (get_or ps j [])
last-start a [] j h = absurd (omega arith)
last-start a (p ∷ []) zero h = omega (arith, length-append p [])
last-start a (p ∷ []) (suc j) h = absurd (omega arith)
last-start a (p ∷ q ∷ ps) zero h = absurd (omega arith)
last-start a (p ∷ q ∷ ps) (suc j) h = let i = last-start (a + length p) (q ∷ ps) j (omega arith) in omega (arith, length-append p (flat (q ∷ ps)))

append-right : (xs ys : List ℕ) (k : ℕ) → get_or (xs ++ ys) (length xs + k) 0 ≡ get_or ys k 0
append-right [] ys k = let e : 0 + k ≡ k = omega arith in ap (λ (j : ℕ). get_or ys j 0) e
append-right (x ∷ xs) ys k = let e : suc (length xs) + k ≡ suc (length xs + k) = omega arith in ap (λ (j : ℕ). get_or (x ∷ (xs ++ ys)) j 0) e ∙ append-right xs ys k

append-left : (xs ys : List ℕ) (k : ℕ) → k < length xs → get_or (xs ++ ys) k 0 ≡ get_or xs k 0
append-left [] ys k h = absurd (omega arith)
append-left (x ∷ xs) ys zero h = refl
append-left (x ∷ xs) ys (suc k) h = append-left xs ys k (omega arith)

-- the number at a place, by its piece
pub get-flat : (a : ℕ) (ps : List (List ℕ)) (c i : ℕ) → c < length ps → get_or (starts_of a ps) c 0 ≤ a + i → a + i < get_or (starts_of a ps) c 0 + length (get_or ps c []) → get_or (flat ps) i 0 ≡ get_or (get_or ps c []) (a + i - get_or (starts_of a ps) c 0) 0
get-flat a [] c i h l u = absurd (omega arith)
get-flat a (p ∷ ps) zero i h l u = append-left p (flat ps) i (omega arith) ∙ ap (λ (j : ℕ). get_or p j 0) (omega arith)
get-flat a (p ∷ ps) (suc c) i h l u =
    let low = start-low (a + length p) ps c (omega arith) in
    let e : i ≡ length p + (i - length p) = omega arith in
    let f : a + length p + (i - length p) ≡ a + i = omega arith in
    ap (λ (j : ℕ). get_or (p ++ flat ps) j 0) e ∙ append-right p (flat ps) (i - length p)
    ∙ get-flat (a + length p) ps c (i - length p) (omega arith) (subst (λ (j : ℕ). get_or (starts_of (a + length p) ps) c 0 ≤ j) (sym f) l) (subst (λ (j : ℕ). j < get_or (starts_of (a + length p) ps) c 0 + length (get_or ps c [])) (sym f) u)
    ∙ ap (λ (j : ℕ). get_or (get_or ps c []) (j - get_or (starts_of (a + length p) ps) c 0) 0) f
  where
    start-low : (b : ℕ) (qs : List (List ℕ)) (d : ℕ) → d < length qs → b ≤ get_or (starts_of b qs) d 0
    start-low b [] d h = absurd (omega arith)
    start-low b (q ∷ qs) zero h = omega arith
    start-low b (q ∷ qs) (suc d) h = let i = start-low (b + length q) qs d (omega arith) in omega arith

pub same-length : (starts : List ℕ) (ps : List (List ℕ)) → starts ≡ starts_of 0 ps → length starts ≡ length ps
same-length starts ps e = ap length e ∙ length-starts 0 ps

-- a place within its piece
pub end-of : (ps : List (List ℕ)) (c i : ℕ) → c < length ps → (c + 1 < length ps → i < get_or (starts_of 0 ps) (c + 1) 0) → i ≤ length (flat ps) → i ≤ get_or (starts_of 0 ps) c 0 + length (get_or ps c [])
end-of ps c i h before within = elim (cases_lt (c + 1) (length ps)) [
  | inl a ↦ let b = before a in let e = next-start 0 ps c a in omega arith
  | inr b ↦ let e = last-start 0 ps c (omega arith) in omega arith
]

pub inside-of : (ps : List (List ℕ)) (c i : ℕ) → c < length ps → (c + 1 < length ps → i < get_or (starts_of 0 ps) (c + 1) 0) → i < length (flat ps) → i < get_or (starts_of 0 ps) c 0 + length (get_or ps c [])
inside-of ps c i h before within = elim (cases_lt (c + 1) (length ps)) [
  | inl a ↦ let b = before a in let e = next-start 0 ps c a in omega arith
  | inr b ↦ let e = last-start 0 ps c (omega arith) in omega arith
]

pub some-piece : (ps : List (List ℕ)) (i : ℕ) → i < length (flat ps) → 0 < length ps
some-piece [] i h = absurd (omega arith)
some-piece (p ∷ ps) i h = omega arith

start-low : (b : ℕ) (qs : List (List ℕ)) (d : ℕ) → d < length qs → b ≤ get_or (starts_of b qs) d 0
start-low b [] d h = absurd (omega arith)
start-low b (q ∷ qs) zero h = omega arith
start-low b (q ∷ qs) (suc d) h = let i = start-low (b + length q) qs d (omega arith) in omega arith

-- one more number in the c-th piece
pub flat-insert : (a : ℕ) (ps : List (List ℕ)) (c i n : ℕ) → c < length ps → get_or (starts_of a ps) c 0 ≤ a + i → a + i ≤ get_or (starts_of a ps) c 0 + length (get_or ps c [])
    → flat (set ps c (insert (get_or ps c []) (a + i - get_or (starts_of a ps) c 0) n)) ≡ insert (flat ps) i n
flat-insert a [] c i n h l u = absurd (omega arith)
flat-insert a (p ∷ ps) zero i n h l u = ap (λ (k : ℕ). insert p k n ++ flat ps) (omega arith) ∙ sym (insert-append_left p (flat ps) i n (omega arith))
flat-insert a (p ∷ ps) (suc c) i n h l u =
    let low = start-low (a + length p) ps c (omega arith) in
    let f : a + length p + (i - length p) ≡ a + i = omega arith in
    ap (λ (j : ℕ). p ++ flat (set ps c (insert (get_or ps c []) (j - get_or (starts_of (a + length p) ps) c 0) n))) (sym f)
    ∙ ap (λ (ys : List ℕ). p ++ ys) (flat-insert (a + length p) ps c (i - length p) n (omega arith) (omega arith) (omega arith))
    ∙ sym (insert-append_right p (flat ps) (length p) i n refl (omega arith))

take-starts : (a : ℕ) (ps : List (List ℕ)) (c : ℕ) (q : List ℕ) → take (suc c) (starts_of a (set ps c q)) ≡ take (suc c) (starts_of a ps)
take-starts a [] c q = refl
take-starts a (p ∷ ps) zero q = refl
take-starts a (p ∷ ps) (suc c) q = ap (λ (xs : List ℕ). a ∷ xs) (take-starts (a + length p) ps c q)

pub set-starts : (ps : List (List ℕ)) (c : ℕ) (q : List ℕ) (starts : List ℕ) → starts ≡ starts_of 0 ps → take (c + 1) starts ≡ take (c + 1) (starts_of 0 (set ps c q))
set-starts ps c q starts e = ap (take (c + 1)) e ∙ (let f : c + 1 ≡ suc c = omega arith in rw f (sym (take-starts 0 ps c q)))

-- a piece cut in two
pub parted-is : (ps : List (List ℕ)) (c k : ℕ) → c < length ps → insert (set ps c (take k (get_or ps c []))) (c + 1) (drop k (get_or ps c [])) ≡ parted ps c k
parted-is ps c k h = let f : c + 1 ≡ suc c = omega arith in rw f (go ps c h)
  where
    go : (ps : List (List ℕ)) (c : ℕ) → c < length ps → insert (set ps c (take k (get_or ps c []))) (suc c) (drop k (get_or ps c [])) ≡ parted ps c k
    go [] c h = absurd (omega arith)
    go (p ∷ ps) zero h = refl
    go (p ∷ ps) (suc c) h = ap (λ (qs : List (List ℕ)). p ∷ qs) (go ps c (omega arith))

pub flat-parted : (ps : List (List ℕ)) (c k : ℕ) → flat (parted ps c k) ≡ flat ps
flat-parted [] c k = refl
flat-parted (p ∷ ps) zero k = sym (append_assoc (take k p) (drop k p) (flat ps)) ∙ ap (λ (ys : List ℕ). ys ++ flat ps) (take-append-drop k p)
flat-parted (p ∷ ps) (suc c) k = ap (λ (ys : List ℕ). p ++ ys) (flat-parted ps c k)

pub length-parted : (ps : List (List ℕ)) (c k : ℕ) → c < length ps → length (parted ps c k) ≡ length ps + 1
length-parted [] c k h = absurd (omega arith)
length-parted (p ∷ ps) zero k h = omega arith
length-parted (p ∷ ps) (suc c) k h = let i = length-parted ps c k (omega arith) in omega arith

pub parted-left : (ps : List (List ℕ)) (c k : ℕ) → c < length ps → get_or (parted ps c k) c [] ≡ take k (get_or ps c [])
parted-left [] c k h = absurd (omega arith)
parted-left (p ∷ ps) zero k h = refl
parted-left (p ∷ ps) (suc c) k h = parted-left ps c k (omega arith)

pub parted-right : (ps : List (List ℕ)) (c k : ℕ) → c < length ps → get_or (parted ps c k) (c + 1) [] ≡ drop k (get_or ps c [])
parted-right ps c k h = let f : c + 1 ≡ suc c = omega arith in rw f (go ps c h)
  where
    go : (ps : List (List ℕ)) (c : ℕ) → c < length ps → get_or (parted ps c k) (suc c) [] ≡ drop k (get_or ps c [])
    go [] c h = absurd (omega arith)
    go (p ∷ ps) zero h = refl
    go (p ∷ ps) (suc c) h = go ps c (omega arith)

pub parted-start : (a : ℕ) (ps : List (List ℕ)) (c k : ℕ) → c < length ps → get_or (starts_of a (parted ps c k)) c 0 ≡ get_or (starts_of a ps) c 0
parted-start a [] c k h = absurd (omega arith)
parted-start a (p ∷ ps) zero k h = refl
parted-start a (p ∷ ps) (suc c) k h = parted-start (a + length p) ps c k (omega arith)

take-parted : (a : ℕ) (ps : List (List ℕ)) (c k : ℕ) → take (suc c) (starts_of a (parted ps c k)) ≡ take (suc c) (starts_of a ps)
take-parted a [] c k = refl
take-parted a (p ∷ ps) zero k = refl
take-parted a (p ∷ ps) (suc c) k = ap (λ (xs : List ℕ). a ∷ xs) (take-parted (a + length p) ps c k)

take-inserted : (xs : List ℕ) (k n : ℕ) → k ≤ length xs → take k (insert xs k n) ≡ take k xs
take-inserted xs zero n h = refl
take-inserted [] (suc k) n h = absurd (omega arith)
take-inserted (x ∷ xs) (suc k) n h = ap (λ (ys : List ℕ). x ∷ ys) (take-inserted xs k n (omega arith))

pub parted-starts : (ps : List (List ℕ)) (c k n : ℕ) (starts : List ℕ) → c < length ps → starts ≡ starts_of 0 ps → take (c + 1) (insert starts (c + 1) n) ≡ take (c + 1) (starts_of 0 (parted ps c k))
parted-starts ps c k n starts h e =
    take-inserted starts (c + 1) n (let f = same-length starts ps e in omega arith) ∙ ap (take (c + 1)) e ∙ (let f : c + 1 ≡ suc c = omega arith in rw f (sym (take-parted 0 ps c k)))

pub fits-located : (ps : List (List ℕ)) (starts : List ℕ) (c i : ℕ) → starts ≡ starts_of 0 ps → c < length starts → get_or starts c 0 ≤ i → (c + 1 < length starts → i < get_or starts (c + 1) 0) → i ≤ length (flat ps) → length (get_or ps c []) < 1024 → FitsAt starts ps c i
fits-located ps starts c i e h from to within room =
    let n = same-length starts ps e in
    record {
      among = omega arith;
      from = from;
      upto = subst (λ (xs : List ℕ). i ≤ get_or xs c 0 + length (get_or ps c [])) (sym e) (end-of ps c i (omega arith) (λ a. subst (λ (xs : List ℕ). i < get_or xs (c + 1) 0) e (to (omega arith))) within);
      room = room;
    }

pub fits-left : (ps : List (List ℕ)) (starts starts' : List ℕ) (c i : ℕ) → starts ≡ starts_of 0 ps → starts' ≡ starts_of 0 (parted ps c 512) → c < length ps → get_or starts c 0 ≤ i → i ≤ get_or starts' (c + 1) 0 → FitsAt starts' (parted ps c 512) c i
fits-left ps starts starts' c i e e' h from to =
    let n = length-parted ps c 512 h in
    let s : get_or starts' c 0 ≡ get_or starts c 0 = ap (λ (xs : List ℕ). get_or xs c 0) e' ∙ parted-start 0 ps c 512 h ∙ ap (λ (xs : List ℕ). get_or xs c 0) (sym e) in
    let t = ap (λ (xs : List ℕ). get_or xs (c + 1) 0) e' in
    let u = ap (λ (xs : List ℕ). get_or xs c 0) e' in
    let x = next-start 0 (parted ps c 512) c (omega arith) in
    let l = ap length (parted-left ps c 512 h) in
    record { among = omega arith; from = omega arith; upto = omega arith; room = omega (arith, length-take 512 (get_or ps c [])) }

pub fits-right : (ps : List (List ℕ)) (starts starts' : List ℕ) (c i : ℕ) → starts ≡ starts_of 0 ps → starts' ≡ starts_of 0 (parted ps c 512) → c < length ps → i ≤ get_or starts c 0 + length (get_or ps c []) → length (get_or ps c []) ≤ 1024 → get_or starts' (c + 1) 0 < i → FitsAt starts' (parted ps c 512) (c + 1) i
fits-right ps starts starts' c i e e' h to most from =
    let n = length-parted ps c 512 h in
    let s : get_or starts' c 0 ≡ get_or starts c 0 = ap (λ (xs : List ℕ). get_or xs c 0) e' ∙ parted-start 0 ps c 512 h ∙ ap (λ (xs : List ℕ). get_or xs c 0) (sym e) in
    let t = ap (λ (xs : List ℕ). get_or xs (c + 1) 0) e' in
    let u = ap (λ (xs : List ℕ). get_or xs c 0) e' in
    let x = next-start 0 (parted ps c 512) c (omega arith) in
    let l = ap length (parted-left ps c 512 h) in
    let r = ap length (parted-right ps c 512 h) in
    record { among = omega arith; from = omega arith; upto = omega (arith, length-take 512 (get_or ps c []), length-drop 512 (get_or ps c [])); room = omega (arith, length-drop 512 (get_or ps c [])) }
