-- Words that are drawn one after another.
use Rattle.std.proofs.Common.{◌≡◌, refl, ap, ◌∙◌, ℕ, ◌+◌, List, [], ◌∷◌, arith}
use Rattle.rand_chacha.specs.ChaCha.{ChaCha}
use Rattle.server_command.specs.Serve.{generator_of}

-- words after words after words
pub later : (a b c : ℕ → ℕ) (m n : ℕ) → ((k : ℕ) → b k ≡ a (k + m)) → ((k : ℕ) → c k ≡ b (k + n)) → (k : ℕ) → c k ≡ a (k + (n + m))
later a b c m n first second k =
    let same : (k + n) + m ≡ k + (n + m) = omega arith in
    second k ∙ first (k + n) ∙ ap a same

cons : {A : Type 0} (a b : A) (xs ys : List A) → a ≡ b → xs ≡ ys → a ∷ xs ≡ b ∷ ys
cons a b xs ys is are = ap (λ x. x ∷ xs) is ∙ ap (λ l. b ∷ l) are

-- the generator of the first eight words, each drawn after those before it
pub seeded : (t t1 t2 t3 t4 t5 t6 t7 : ℕ → ℕ) (w0 w1 w2 w3 w4 w5 w6 w7 : ℕ)
    → ((k : ℕ) → t1 k ≡ t (k + 1)) → ((k : ℕ) → t2 k ≡ t1 (k + 1)) → ((k : ℕ) → t3 k ≡ t2 (k + 1)) → ((k : ℕ) → t4 k ≡ t3 (k + 1)) → ((k : ℕ) → t5 k ≡ t4 (k + 1)) → ((k : ℕ) → t6 k ≡ t5 (k + 1)) → ((k : ℕ) → t7 k ≡ t6 (k + 1))
    → w0 ≡ t 0 → w1 ≡ t1 0 → w2 ≡ t2 0 → w3 ≡ t3 0 → w4 ≡ t4 0 → w5 ≡ t5 0 → w6 ≡ t6 0 → w7 ≡ t7 0
    → (g : ChaCha) → g ≡ record { key = w0 ∷ w1 ∷ w2 ∷ w3 ∷ w4 ∷ w5 ∷ w6 ∷ w7 ∷ []; stream = 0; word_pos = 0 } → g ≡ generator_of t
seeded t t1 t2 t3 t4 t5 t6 t7 w0 w1 w2 w3 w4 w5 w6 w7 r1 r2 r3 r4 r5 r6 r7 e0 e1 e2 e3 e4 e5 e6 e7 g is =
    let s2 : (k : ℕ) → t2 k ≡ t (k + 2) = later t t1 t2 1 1 r1 r2 in
    let s3 : (k : ℕ) → t3 k ≡ t (k + 3) = later t t2 t3 2 1 s2 r3 in
    let s4 : (k : ℕ) → t4 k ≡ t (k + 4) = later t t3 t4 3 1 s3 r4 in
    let s5 : (k : ℕ) → t5 k ≡ t (k + 5) = later t t4 t5 4 1 s4 r5 in
    let s6 : (k : ℕ) → t6 k ≡ t (k + 6) = later t t5 t6 5 1 s5 r6 in
    let s7 : (k : ℕ) → t7 k ≡ t (k + 7) = later t t6 t7 6 1 s6 r7 in
    is ∙ ap (λ (key : List ℕ). record { key = key; stream = 0; word_pos = 0 })
    (cons _ _ _ _ e0 (cons _ _ _ _ (e1 ∙ r1 0) (cons _ _ _ _ (e2 ∙ s2 0) (cons _ _ _ _ (e3 ∙ s3 0) (cons _ _ _ _ (e4 ∙ s4 0) (cons _ _ _ _ (e5 ∙ s5 0) (cons _ _ _ _ (e6 ∙ s6 0) (cons _ _ _ _ (e7 ∙ s7 0) refl))))))))

-- the words after eight words
pub after_eight : (t t1 t2 t3 t4 t5 t6 t7 t8 : ℕ → ℕ)
    → ((k : ℕ) → t1 k ≡ t (k + 1)) → ((k : ℕ) → t2 k ≡ t1 (k + 1)) → ((k : ℕ) → t3 k ≡ t2 (k + 1)) → ((k : ℕ) → t4 k ≡ t3 (k + 1)) → ((k : ℕ) → t5 k ≡ t4 (k + 1)) → ((k : ℕ) → t6 k ≡ t5 (k + 1)) → ((k : ℕ) → t7 k ≡ t6 (k + 1)) → ((k : ℕ) → t8 k ≡ t7 (k + 1))
    → (k : ℕ) → t8 k ≡ t (k + 8)
after_eight t t1 t2 t3 t4 t5 t6 t7 t8 r1 r2 r3 r4 r5 r6 r7 r8 =
    later t t4 t8 4 4 (later t t2 t4 2 2 (later t t1 t2 1 1 r1 r2) (later t2 t3 t4 1 1 r3 r4)) (later t4 t6 t8 2 2 (later t4 t5 t6 1 1 r5 r6) (later t6 t7 t8 1 1 r7 r8))
