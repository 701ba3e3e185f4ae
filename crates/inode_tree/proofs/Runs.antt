-- Runs of pieces: cuts between pieces, runs that are swapped, and pieces that are joined.
use Rattle.std.proofs.Common.{◌≡◌, ℕ, ◌+◌, ◌-◌, ◌<◌, ◌≤◌, zero, suc, List, [], ◌∷◌, ◌++◌, length, get_or, set, take, drop, refl, sym, ap, ◌∙◌, arith, length-append, append_assoc, take-append-drop, length-take, length-drop, inl, inr}
use Rattle.std.proofs.lemmas.Bool.{cases_lt}
use Rattle.std.proofs.lemmas.List.{take_at, drop_at, take-take, drop-drop, drop-take, take_more}
use Rattle.std.proofs.lemmas.Slice.{between_is}
use Rattle.std.specs.List.{between, remove}
use borrow.Rule.Slice.PartMut.{put_mid}
use Rattle.inode_tree.specs.Listed.{IsCutAt, flat, parted, starts_of, turned}
use Rattle.inode_tree.proofs.Pieces.{length-parted}

pub flat-append : (ps qs : List (List ℕ)) → flat (ps ++ qs) ≡ flat ps ++ flat qs
flat-append [] qs = refl
flat-append (p ∷ ps) qs = ap (λ (ys : List ℕ). p ++ ys) (flat-append ps qs) ∙ sym (append_assoc p (flat ps) (flat qs))

-- after a rotation of the part from a to c
pub turned-is : {X : Type 0} (xs ys : List X) (a b c : ℕ) → a ≤ b → b ≤ c → ys ≡ drop (b - a) (between a c xs) ++ take (b - a) (between a c xs) → put_mid a (c - a) xs ys ≡ turned a b c xs
turned-is {X = X} xs ys a b c h k e =
    let l : c - a ≡ b - a + (c - b) = omega arith in
    let m : a + (b - a) ≡ b = omega arith in
    let n : a + (c - a) ≡ c = omega arith in
    let right : drop (b - a) (between a c xs) ≡ between b c xs = ap (λ (i : ℕ). drop (b - a) (take i (drop a xs))) l ∙ drop-take (b - a) (c - b) (drop a xs) ∙ ap (take (c - b)) (drop-drop (b - a) a xs) ∙ ap (λ (i : ℕ). take (c - b) (drop i xs)) m in
    let left : take (b - a) (between a c xs) ≡ between a b xs = take-take (b - a) (c - a) (drop a xs) (omega arith) in
    let rest : drop (c - a) (drop a xs) ≡ drop c xs = drop-drop (c - a) a xs ∙ ap (λ (i : ℕ). drop i xs) n in
    ap (λ (zs : List X). take a xs ++ (zs ++ drop (c - a) (drop a xs))) e
    ∙ ap (λ (zs : List X). take a xs ++ ((zs ++ take (b - a) (between a c xs)) ++ drop (c - a) (drop a xs))) right
    ∙ ap (λ (zs : List X). take a xs ++ ((between b c xs ++ zs) ++ drop (c - a) (drop a xs))) left
    ∙ ap (λ (zs : List X). take a xs ++ ((between b c xs ++ between a b xs) ++ zs)) rest
    ∙ ap (λ (zs : List X). take a xs ++ zs) (append_assoc (between b c xs) (between a b xs) (drop c xs))

-- a list by its parts
pub in-three : {X : Type 0} (xs : List X) (a b : ℕ) → a ≤ b → take a xs ++ (between a b xs ++ drop b xs) ≡ xs
in-three {X = X} xs a b h =
    let m : a + (b - a) ≡ b = omega arith in
    ap (λ (i : ℕ). take a xs ++ (between a b xs ++ drop i xs)) (sym m)
    ∙ ap (λ (zs : List X). take a xs ++ (between a b xs ++ zs)) (sym (drop-drop (b - a) a xs))
    ∙ ap (λ (zs : List X). take a xs ++ zs) (take-append-drop (b - a) (drop a xs))
    ∙ take-append-drop a xs

pub in-four : {X : Type 0} (xs : List X) (a b c : ℕ) → a ≤ b → b ≤ c → take a xs ++ (between a b xs ++ (between b c xs ++ drop c xs)) ≡ xs
in-four {X = X} xs a b c h k =
    let n : b + (c - b) ≡ c = omega arith in
    ap (λ (i : ℕ). take a xs ++ (between a b xs ++ (between b c xs ++ drop i xs))) (sym n)
    ∙ ap (λ (zs : List X). take a xs ++ (between a b xs ++ (between b c xs ++ zs))) (sym (drop-drop (c - b) b xs))
    ∙ ap (λ (zs : List X). take a xs ++ (between a b xs ++ zs)) (take-append-drop (c - b) (drop b xs))
    ∙ in-three xs a b h

-- an empty run changes nothing
pub turned-left : {X : Type 0} (xs : List X) (a c : ℕ) → a ≤ c → turned a a c xs ≡ xs
turned-left {X = X} xs a c h =
    let z : a - a ≡ 0 = omega arith in
    ap (λ (i : ℕ). take a xs ++ (between a c xs ++ (take i (drop a xs) ++ drop c xs))) z
    ∙ ap (λ (i : ℕ). take a xs ++ (take i (drop a xs) ++ (between a c xs ++ drop c xs))) (sym z)
    ∙ in-four xs a a c (omega arith) h

pub turned-right : {X : Type 0} (xs : List X) (a c : ℕ) → a ≤ c → turned a c c xs ≡ xs
turned-right {X = X} xs a c h =
    let z : c - c ≡ 0 = omega arith in
    ap (λ (i : ℕ). take a xs ++ (take i (drop c xs) ++ (between a c xs ++ drop c xs))) z
    ∙ ap (λ (i : ℕ). take a xs ++ (between a c xs ++ (take i (drop c xs) ++ drop c xs))) (sym z)
    ∙ in-four xs a c c h (omega arith)

pub length-turned : {X : Type 0} (xs : List X) (a b c : ℕ) → a ≤ b → b ≤ c → c ≤ length xs → length (turned a b c xs) ≡ length xs
length-turned xs a b c h k l =
    omega (
      arith,
      length-append (take a xs) (between b c xs ++ (between a b xs ++ drop c xs)),
      length-append (between b c xs) (between a b xs ++ drop c xs),
      length-append (between a b xs) (drop c xs),
      length-take a xs,
      length-take (c - b) (drop b xs),
      length-drop b xs,
      length-take (b - a) (drop a xs),
      length-drop a xs,
      length-drop c xs,
    )

module _ (ps : List (List ℕ)) (k i : ℕ) (h : IsCutAt ps k i) where
  flat-split : flat ps ≡ flat (take k ps) ++ flat (drop k ps)
  flat-split = ap flat (sym (take-append-drop k ps)) ∙ flat-append (take k ps) (drop k ps)

  pub cut-take : take i (flat ps) ≡ flat (take k ps)
  cut-take = ap (take i) flat-split ∙ take_at (flat (take k ps)) (flat (drop k ps)) i h.1

  pub cut-drop : drop i (flat ps) ≡ flat (drop k ps)
  cut-drop = ap (drop i) flat-split ∙ drop_at (flat (take k ps)) (flat (drop k ps)) i h.1

-- more pieces hold no fewer numbers
pub flat-more : (ps : List (List ℕ)) (j k : ℕ) → j ≤ k → length (flat (take j ps)) ≤ length (flat (take k ps))
flat-more ps zero k h = omega arith
flat-more [] (suc j) zero h = absurd (omega arith)
flat-more [] (suc j) (suc k) h = omega arith
flat-more (p ∷ ps) (suc j) zero h = absurd (omega arith)
flat-more (p ∷ ps) (suc j) (suc k) h = let i = flat-more ps j k (omega arith) in omega (arith, length-append p (flat (take j ps)), length-append p (flat (take k ps)))

pub cuts-rise : (ps : List (List ℕ)) (j k a b : ℕ) → IsCutAt ps j a → IsCutAt ps k b → a < b → j < k
cuts-rise ps j k a b h l less = elim (cases_lt j k) [ inl u ↦ u | inr u ↦ absurd (let m = flat-more ps k j u in let x = h.1 in let y = l.1 in omega arith) ]

between-cut : (ps : List (List ℕ)) (j k a b : ℕ) → IsCutAt ps j a → IsCutAt ps k b → j ≤ k → between a b (flat ps) ≡ flat (between j k ps)
between-cut ps j k a b h l le =
    between_is (flat ps) a b ∙ ap (drop a) (cut-take ps k b l)
    ∙ cut-drop (take k ps) j a (let x = h.0 in let y = l.0 in omega (arith, length-take k ps), ap (λ (qs : List (List ℕ)). length (flat qs)) (take-take j k ps le) ∙ h.1)
    ∙ ap flat (sym (between_is ps j k))

-- runs of pieces are runs of numbers
pub turned-flat : (ps : List (List ℕ)) (j k l a b c : ℕ) → IsCutAt ps j a → IsCutAt ps k b → IsCutAt ps l c → j ≤ k → k ≤ l → flat (turned j k l ps) ≡ turned a b c (flat ps)
turned-flat ps j k l a b c h m n le le' =
    flat-append (take j ps) (between k l ps ++ (between j k ps ++ drop l ps))
    ∙ ap (λ (ys : List ℕ). flat (take j ps) ++ ys) (flat-append (between k l ps) (between j k ps ++ drop l ps))
    ∙ ap (λ (ys : List ℕ). flat (take j ps) ++ (flat (between k l ps) ++ ys)) (flat-append (between j k ps) (drop l ps))
    ∙ ap (λ (ys : List ℕ). ys ++ (flat (between k l ps) ++ (flat (between j k ps) ++ flat (drop l ps)))) (sym (cut-take ps j a h))
    ∙ ap (λ (ys : List ℕ). take a (flat ps) ++ (ys ++ (flat (between j k ps) ++ flat (drop l ps)))) (sym (between-cut ps k l b c m n le'))
    ∙ ap (λ (ys : List ℕ). take a (flat ps) ++ (between b c (flat ps) ++ (ys ++ flat (drop l ps)))) (sym (between-cut ps j k a b h m le))
    ∙ ap (λ (ys : List ℕ). take a (flat ps) ++ (between b c (flat ps) ++ (between a b (flat ps) ++ ys))) (sym (cut-drop ps l c n))

-- the start of a piece
start-at : (a : ℕ) (ps : List (List ℕ)) (c : ℕ) → c < length ps → get_or (starts_of a ps) c 0 ≡ a + length (flat (take c ps))
start-at a [] c h = absurd (omega arith)
start-at a (p ∷ ps) zero h = omega arith
start-at a (p ∷ ps) (suc c) h = let i = start-at (a + length p) ps c (omega arith) in omega (arith, length-append p (flat (take c ps)))

pub start-first : (ps : List (List ℕ)) (c : ℕ) → c < length ps → get_or (starts_of 0 ps) c 0 ≡ length (flat (take c ps))
start-first ps c h = let e = start-at 0 ps c h in omega arith

pub next-cut : (ps : List (List ℕ)) (c : ℕ) → c < length ps → length (flat (take (c + 1) ps)) ≡ length (flat (take c ps)) + length (get_or ps c [])
next-cut ps c h =
    let e = ap (λ (qs : List (List ℕ)). length (flat qs)) (take_more ps c [] h) in
    let f = ap length (flat-append (take c ps) (get_or ps c [] ∷ [])) in
    omega (arith, length-append (flat (take c ps)) (get_or ps c [] ++ []), length-append (get_or ps c []) [])

take-parted : (ps : List (List ℕ)) (c k j : ℕ) → j ≤ c → take j (parted ps c k) ≡ take j ps
take-parted [] c k j h = refl
take-parted (p ∷ ps) c k zero h = refl
take-parted (p ∷ ps) zero k (suc j) h = absurd (omega arith)
take-parted (p ∷ ps) (suc c) k (suc j) h = ap (λ (qs : List (List ℕ)). p ∷ qs) (take-parted ps c k j (omega arith))

part-cut : (ps : List (List ℕ)) (c k : ℕ) → c < length ps → k ≤ length (get_or ps c []) → length (flat (take (suc c) (parted ps c k))) ≡ length (flat (take c ps)) + k
part-cut [] c k h l = absurd (omega arith)
part-cut (p ∷ ps) zero k h l = omega (arith, length-append (take k p) [], length-take k p)
part-cut (p ∷ ps) (suc c) k h l = let i = part-cut ps c k (omega arith) l in omega (arith, length-append p (flat (take (suc c) (parted ps c k))), length-append p (flat (take c ps)))

-- a piece cut in two begins a piece at the place i
module _ (ps : List (List ℕ)) (c k i : ℕ) (h : c < length ps) (inner : k ≤ length (get_or ps c [])) (at : i ≡ length (flat (take c ps)) + k) where
  pub parted-cut : IsCutAt (parted ps c k) (c + 1) i
  parted-cut =
      let e : c + 1 ≡ suc c = omega arith in
      (omega (arith, length-parted ps c k h), ap (λ (j : ℕ). length (flat (take j (parted ps c k)))) e ∙ part-cut ps c k h inner ∙ sym at)

  -- earlier cuts stay if the piece goes on beyond the place
  pub parted-kept : k < length (get_or ps c []) → (m j : ℕ) → IsCutAt ps m j → j ≤ i → IsCutAt (parted ps c k) m j
  parted-kept less m j l le =
      let low : m ≤ c = elim (cases_lt c m) [ inl u ↦ absurd (let f = flat-more ps (c + 1) m (omega arith) in let n = next-cut ps c h in let y = l.1 in omega arith) | inr u ↦ u ] in
      (let x = l.0 in omega (arith, length-parted ps c k h), ap (λ (qs : List (List ℕ)). length (flat qs)) (take-parted ps c k m low) ∙ l.1)

-- the c-th piece and the next in one
pub flat-joined : (ps : List (List ℕ)) (c : ℕ) → c + 1 < length ps → flat (set (remove ps (c + 1)) c (get_or ps c [] ++ get_or ps (c + 1) [])) ≡ flat ps
flat-joined ps c h = let f : c + 1 ≡ suc c = omega arith in rw f (go ps c (omega arith))
  where
    go : (ps : List (List ℕ)) (c : ℕ) → suc c < length ps → flat (set (remove ps (suc c)) c (get_or ps c [] ++ get_or ps (suc c) [])) ≡ flat ps
    go [] c h = absurd (omega arith)
    go (p ∷ []) c h = absurd (omega arith)
    go (p ∷ q ∷ ps) zero h = append_assoc p q (flat ps)
    go (p ∷ q ∷ ps) (suc c) h = ap (λ (ys : List ℕ). p ++ ys) (go (q ∷ ps) c (omega arith))

pub starts-joined : (ps : List (List ℕ)) (c : ℕ) → c + 1 < length ps → remove (starts_of 0 ps) (c + 1) ≡ starts_of 0 (set (remove ps (c + 1)) c (get_or ps c [] ++ get_or ps (c + 1) []))
starts-joined ps c h = let f : c + 1 ≡ suc c = omega arith in rw f (go 0 ps c (omega arith))
  where
    go : (a : ℕ) (ps : List (List ℕ)) (c : ℕ) → suc c < length ps → remove (starts_of a ps) (suc c) ≡ starts_of a (set (remove ps (suc c)) c (get_or ps c [] ++ get_or ps (suc c) []))
    go a [] c h = absurd (omega arith)
    go a (p ∷ []) c h = absurd (omega arith)
    go a (p ∷ q ∷ ps) zero h = ap (λ (n : ℕ). a ∷ starts_of n ps) (omega (arith, length-append p q))
    go a (p ∷ q ∷ ps) (suc c) h = ap (λ (xs : List ℕ). a ∷ xs) (go (a + length p) (q ∷ ps) c (omega arith))

-- the starts up to that of the first of the runs
starts-front : (s : ℕ) (ps qs : List (List ℕ)) (a : ℕ) → a < length ps → 0 < length qs → take (suc a) (starts_of s ps) ≡ take (suc a) (starts_of s (take a ps ++ qs))
starts-front s [] qs a h l = absurd (omega arith)
starts-front s (p ∷ ps) [] a h l = absurd (omega arith)
starts-front s (p ∷ ps) (q ∷ qs) zero h l = refl
starts-front s (p ∷ ps) (q ∷ qs) (suc a) h l = ap (λ (xs : List ℕ). s ∷ xs) (starts-front (s + length p) ps (q ∷ qs) a (omega arith) l)

pub turned-starts : (ps qs : List (List ℕ)) (a b c : ℕ) → a ≤ b → b ≤ c → c ≤ length ps → a < c → qs ≡ turned a b c ps → take (a + 1) (starts_of 0 ps) ≡ take (a + 1) (starts_of 0 qs)
turned-starts ps qs a b c h k l less e =
    let f : a + 1 ≡ suc a = omega arith in
    let n = length-turned ps a b c h k l in
    let some : 0 < length (between b c ps ++ (between a b ps ++ drop c ps)) = omega (arith, length-append (take a ps) (between b c ps ++ (between a b ps ++ drop c ps)), length-take a ps) in
    ap (λ (i : ℕ). take i (starts_of 0 ps)) f
    ∙ starts-front 0 ps (between b c ps ++ (between a b ps ++ drop c ps)) a (omega arith) some
    ∙ ap (λ (i : ℕ). take i (starts_of 0 (turned a b c ps))) (sym f)
    ∙ ap (λ (rs : List (List ℕ)). take (a + 1) (starts_of 0 rs)) (sym e)

-- runs of pieces have as many numbers together
pub length-flat-turned : (ps : List (List ℕ)) (a b c : ℕ) → a ≤ b → b ≤ c → length (flat (turned a b c ps)) ≡ length (flat ps)
length-flat-turned ps a b c h k =
    let parts : length (flat (turned a b c ps)) ≡ length (flat (take a ps)) + (length (flat (between b c ps)) + (length (flat (between a b ps)) + length (flat (drop c ps)))) =
    four (take a ps) (between b c ps) (between a b ps) (drop c ps) in
    let whole : length (flat ps) ≡ length (flat (take a ps)) + (length (flat (between a b ps)) + (length (flat (between b c ps)) + length (flat (drop c ps)))) =
    ap (λ (qs : List (List ℕ)). length (flat qs)) (sym (in-four ps a b c h k)) ∙ four (take a ps) (between a b ps) (between b c ps) (drop c ps) in
    omega arith
  where
    four : (xs ys zs ws : List (List ℕ)) → length (flat (xs ++ (ys ++ (zs ++ ws)))) ≡ length (flat xs) + (length (flat ys) + (length (flat zs) + length (flat ws)))
    four xs ys zs ws =
        let i = ap length (flat-append xs (ys ++ (zs ++ ws))) in
        let j = ap length (flat-append ys (zs ++ ws)) in
        let l = ap length (flat-append zs ws) in
        omega (arith, length-append (flat xs) (flat (ys ++ (zs ++ ws))), length-append (flat ys) (flat (zs ++ ws)), length-append (flat zs) (flat ws))
