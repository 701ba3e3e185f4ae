-- Prefixes of lists, numbers, and the entries of one caller.
use Rattle.std.proofs.Common.{◌≡◌, ℕ, ◌+◌, ◌≤◌, ◌==◌, ◌⊎◌, Bool, true, false, List, [], ◌∷◌, ◌++◌, length, cond, ltb, refl, ap, sym, ◌∙◌, subst, arith, append_assoc, length-append, inl, inr, ltb-true, ltb-false}
use mathlib.Core.List.{IsPrefix}
use Rattle.hist_cell.specs.declared.views.Entry.{Entry}
use Rattle.hist_cell.specs.History.{IsIn, Distinct, longer, shorter, state_after, own, LegalAfter, Legal}

pub prefix_more : {A : Type 0} (xs ys : List A) (y : A) → IsPrefix xs ys → IsPrefix xs (ys ++ y ∷ [])
prefix_more xs ys y p = (p.0 ++ y ∷ [], sym (append_assoc xs p.0 (y ∷ [])) ∙ ap (λ w. w ++ y ∷ []) p.1)

pub append_none : {A : Type 0} (l : List A) → l ++ [] ≡ l
append_none [] = refl
append_none (x ∷ l) = ap (λ w. x ∷ w) (append_none l)

pub prefix_self : {A : Type 0} (xs : List A) → IsPrefix xs xs
prefix_self xs = ([], append_none xs)

pub prefix_trans : {A : Type 0} (xs ys zs : List A) → IsPrefix xs ys → IsPrefix ys zs → IsPrefix xs zs
prefix_trans xs ys zs p q = (p.0 ++ q.0, sym (append_assoc xs p.0 q.0) ∙ (ap (λ w. w ++ q.0) p.1 ∙ q.1))

-- of two prefixes of one list the shorter is a prefix of the longer
pub prefix_shorter : {A : Type 0} (xs ys zs : List A) → IsPrefix xs zs → IsPrefix ys zs → length xs ≤ length ys → IsPrefix xs ys
prefix_shorter [] ys zs p q le = (ys, refl)
prefix_shorter (x ∷ xs) [] zs p q le = absurd (omega arith)
prefix_shorter (x ∷ xs) (y ∷ ys) [] p q le = absurd (cc (p.1))
prefix_shorter (x ∷ xs) (y ∷ ys) (z ∷ zs) p q le =
    let heads : x ≡ y = cc (p.1, q.1) in
    let rest = prefix_shorter xs ys zs (p.0, cc (p.1)) (q.0, cc (q.1)) (omega arith) in
    (rest.0, cc (heads, rest.1))

-- a prefix as long as the whole is the whole
pub prefix_whole : {A : Type 0} (xs ys : List A) → IsPrefix xs ys → length ys ≤ length xs → xs ≡ ys
prefix_whole [] [] p le = refl
prefix_whole [] (y ∷ ys) p le = absurd (omega arith)
prefix_whole (x ∷ xs) [] p le = absurd (cc (p.1))
prefix_whole (x ∷ xs) (y ∷ ys) p le =
    let rest = prefix_whole xs ys (p.0, cc (p.1)) (omega arith) in cc (p.1, rest)

none_left : {A : Type 0} (xs : List A) → IsPrefix xs [] → xs ≡ []
none_left [] p = refl
none_left (x ∷ xs) p = absurd (cc (p.1))

cond_push : {A : Type 0} (b : Bool) (x : A) (xs ys more : List A) → ys ≡ xs ++ more → cond b (x ∷ ys) ys ≡ cond b (x ∷ xs) xs ++ more
cond_push true x xs ys more e = ap (λ w. x ∷ w) e
cond_push false x xs ys more e = e

-- ---- the longer of two prefixes

longer_by : {A : Type 0} (b : Bool) (xs ys zs : List A) → ltb (length xs) (length ys) ≡ b → IsPrefix xs zs → IsPrefix ys zs
    → ((longer xs ys ≡ ys) × (shorter xs ys ≡ xs) × IsPrefix xs ys) ⊎ ((longer xs ys ≡ xs) × (shorter xs ys ≡ ys) × IsPrefix ys xs)
longer_by true xs ys zs is p q = let lt = ltb-true (length xs) (length ys) is in inl (rw is refl, rw is refl, prefix_shorter xs ys zs p q (omega (arith, lt)))
longer_by false xs ys zs is p q = inr (rw is refl, rw is refl, prefix_shorter ys xs zs q p (ltb-false (length xs) (length ys) is))

pub longer_is : {A : Type 0} (xs ys zs : List A) → IsPrefix xs zs → IsPrefix ys zs
    → ((longer xs ys ≡ ys) × (shorter xs ys ≡ xs) × IsPrefix xs ys) ⊎ ((longer xs ys ≡ xs) × (shorter xs ys ≡ ys) × IsPrefix ys xs)
longer_is xs ys zs p q = longer_by (ltb (length xs) (length ys)) xs ys zs refl p q

pub longer_begins : {A : Type 0} (xs ys zs : List A) → IsPrefix xs zs → IsPrefix ys zs → IsPrefix (longer xs ys) zs
longer_begins xs ys zs p q = elim (longer_is xs ys zs p q) [
  | inl h ↦ subst (λ l. IsPrefix l zs) (sym h.0) q
  | inr h ↦ subst (λ l. IsPrefix l zs) (sym h.0) p
]

pub shorter_begins : {A : Type 0} (xs ys zs : List A) → IsPrefix xs zs → IsPrefix ys zs → IsPrefix (shorter xs ys) (longer xs ys)
shorter_begins xs ys zs p q = elim (longer_is xs ys zs p q) [
  | inl h ↦ rw (h.0, h.1) h.2
  | inr h ↦ rw (h.0, h.1) h.2
]

pub this_begins : {A : Type 0} (xs ys zs : List A) → IsPrefix xs zs → IsPrefix ys zs → IsPrefix xs (longer xs ys)
this_begins xs ys zs p q = elim (longer_is xs ys zs p q) [
  | inl h ↦ rw h.0 h.2
  | inr h ↦ rw h.0 (prefix_self xs)
]

pub that_begins : {A : Type 0} (xs ys zs : List A) → IsPrefix xs zs → IsPrefix ys zs → IsPrefix ys (longer xs ys)
that_begins xs ys zs p q = elim (longer_is xs ys zs p q) [
  | inl h ↦ rw h.0 (prefix_self ys)
  | inr h ↦ rw h.0 h.2
]

-- the same, if the shorter is known to be a prefix of the longer
both_by : {A : Type 0} (b : Bool) (xs ys : List A) → ltb (length xs) (length ys) ≡ b → IsPrefix (shorter xs ys) (longer xs ys)
    → IsPrefix xs (longer xs ys) × IsPrefix ys (longer xs ys)
both_by true xs ys is p =
    let l : longer xs ys ≡ ys = rw is refl in
    let s : shorter xs ys ≡ xs = rw is refl in
    (subst (λ z. IsPrefix z (longer xs ys)) s p, subst (λ z. IsPrefix ys z) (sym l) (prefix_self ys))
both_by false xs ys is p =
    let l : longer xs ys ≡ xs = rw is refl in
    let s : shorter xs ys ≡ ys = rw is refl in
    (subst (λ z. IsPrefix xs z) (sym l) (prefix_self xs), subst (λ z. IsPrefix z (longer xs ys)) s p)

pub both_begin : {A : Type 0} (xs ys : List A) → IsPrefix (shorter xs ys) (longer xs ys) → IsPrefix xs (longer xs ys) × IsPrefix ys (longer xs ys)
both_begin xs ys p = both_by (ltb (length xs) (length ys)) xs ys refl p

-- ---- numbers

pub in_either : (k : ℕ) (ms ns : List ℕ) → IsIn k (ms ++ ns) → IsIn k ms ⊎ IsIn k ns
in_either k [] ns i = inr i
in_either k (m ∷ ms) ns i = elim i [
  | inl h ↦ inl (inl h)
  | inr h ↦ elim (in_either k ms ns h) [
    | inl g ↦ inl (inr g)
    | inr g ↦ inr g
  ]
]

pub distinct_both : (ms ns : List ℕ) → Distinct ms → Distinct ns → ((k : ℕ) → IsIn k ms → IsIn k ns → ⊥) → Distinct (ms ++ ns)
distinct_both [] ns a b apart = b
distinct_both (m ∷ ms) ns a b apart = (
  (λ i. elim (in_either m ms ns i) [
    | inl h ↦ a.0 h
    | inr h ↦ apart m (inl refl) h
  ]),
  distinct_both ms ns a.1 b (λ k i j. apart k (inr i) j),
)

module _ {Q R S : Type 0} where
  pub own-append : (by : ℕ) (es more : List (Entry Q R S)) → own by (es ++ more) ≡ own by es ++ own by more
  own-append by [] more = refl
  own-append by (x ∷ es) more = cond_push (x.by == by) x (own by es) (own by (es ++ more)) (own by more) (own-append by es more)

  pub own-other : (by : ℕ) (es : List (Entry Q R S)) (e : Entry Q R S) → (e.by == by) ≡ false → own by (es ++ e ∷ []) ≡ own by es
  own-other by es e ne = own-append by es (e ∷ []) ∙ rw ne (append_none (own by es))

  pub own-mine : (by : ℕ) (es : List (Entry Q R S)) (e : Entry Q R S) → (e.by == by) ≡ true → own by (es ++ e ∷ []) ≡ own by es ++ e ∷ []
  own-mine by es e same = own-append by es (e ∷ []) ∙ rw same refl

  pub own-prefix : (by : ℕ) (es fs : List (Entry Q R S)) → IsPrefix es fs → IsPrefix (own by es) (own by fs)
  own-prefix by es fs p = (own by p.0, sym (own-append by es p.0) ∙ ap (own by) p.1)

  pub own-none : (by : ℕ) (es fs : List (Entry Q R S)) → IsPrefix es fs → own by fs ≡ [] → own by es ≡ []
  own-none by es fs p none = none_left (own by es) (subst (λ l. IsPrefix (own by es) l) none (own-prefix by es fs p))

  -- who has all entries of a number in a prefix has them in a longer one
  pub own-between : (by : ℕ) (es fs log : List (Entry Q R S)) → IsPrefix es fs → IsPrefix fs log → own by log ≡ own by es → own by log ≡ own by fs
  own-between by es fs log p q all =
      let a = own-prefix by es fs p in
      let n : length (own by es) + length a.0 ≡ length (own by fs) = sym (length-append (own by es) a.0) ∙ ap length a.1 in
      let m : length (own by log) ≡ length (own by es) = ap length all in
      sym (prefix_whole (own by fs) (own by log) (own-prefix by fs log q) (omega (arith, n, m)))

  module _ (step : S → Q → R → S → Type 0) (allows : List (Entry Q R S) → Q → Type 0) where
    after-push : (before : List (Entry Q R S)) (s : S) (es : List (Entry Q R S)) (e : Entry Q R S) → LegalAfter step allows before s es
        → allows (before ++ es) e.call → step (state_after s es) e.call e.reply e.after → LegalAfter step allows before s (es ++ e ∷ [])
    after-push before s [] e l a h = (subst (λ z. allows z e.call) (append_none before) a, h, tt)
    after-push before s (x ∷ es) e l a h = (l.0, l.1, after-push (before ++ x ∷ []) x.after es e l.2 (subst (λ z. allows z e.call) (sym (append_assoc before (x ∷ []) es)) a) h)

    pub Legal-push : (s : S) (es : List (Entry Q R S)) (e : Entry Q R S) → Legal step allows s es → allows es e.call → step (state_after s es) e.call e.reply e.after → Legal step allows s (es ++ e ∷ [])
    Legal-push s es e l a h = after-push [] s es e l a h

    after-begins : (before : List (Entry Q R S)) (s : S) (es more : List (Entry Q R S)) → LegalAfter step allows before s (es ++ more) → LegalAfter step allows before s es
    after-begins before s [] more l = tt
    after-begins before s (x ∷ es) more l = (l.0, l.1, after-begins (before ++ x ∷ []) x.after es more l.2)

    pub Legal-begins : (s : S) (es fs : List (Entry Q R S)) → IsPrefix es fs → Legal step allows s fs → Legal step allows s es
    Legal-begins s es fs p l = after-begins [] s es p.0 (subst (Legal step allows s) (sym p.1) l)

  pub state_after-push : (s : S) (es : List (Entry Q R S)) (e : Entry Q R S) → state_after s (es ++ e ∷ []) ≡ e.after
  state_after-push s [] e = refl
  state_after-push s (x ∷ es) e = state_after-push x.after es e
