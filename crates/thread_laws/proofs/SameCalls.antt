-- Whether a call is the one for a batch, or one that an ask wants.
use Rattle.std.proofs.Common.{◌≡◌, ◌⊎◌, inl, inr, ℕ, ◌==◌, Bool, true, false, List, [], ◌∷◌, refl, sym, ap, ◌∙◌}
use Rattle.std.specs.Str.{bytes_eq}
use Rattle.std.proofs.lemmas.Slice.Eq.{bytes_eq-Decides}
use Rattle.std.proofs.lemmas.Bool.{eqb-true, eq-eqb}
use Rattle.hk_base.specs.declared.names.KeyName.{KeyName}
use Rattle.hk_base.specs.declared.names.VersionName.{VersionName}
use Rattle.hk_base.specs.declared.texts.Text.{Text}
use Rattle.kms_calls.specs.declared.calls.KmsCall.{KmsCall}
use Rattle.kms_calls.specs.declared.calls.KmsCall.TheVariants as call
use Rattle.kms_calls.specs.declared.calls.RawEdek.{RawEdek}
use Rattle.kms_cell.specs.declared.acts.KmsAct.TheVariants as act

-- the two are the same, or they are not
abbrev pub Decided : {X : Type 0} → X → X → Type 0
Decided x y = (x ≡ y) ⊎ (x ≡ y → ⊥)

pub decide-bytes : (xs ys : List ℕ) → Decided xs ys
decide-bytes xs ys = go (bytes_eq xs ys) refl
  where
    go : (b : Bool) → bytes_eq xs ys ≡ b → Decided xs ys
    go true is = inl ((bytes_eq-Decides xs ys).0 is)
    go false is = inr (λ same. let no : true ≡ false = sym ((bytes_eq-Decides xs ys).1 same) ∙ is in absurd cc)

pub decide-number : (m n : ℕ) → Decided m n
decide-number m n = go (m == n) refl
  where
    go : (b : Bool) → (m == n) ≡ b → Decided m n
    go true is = inl (eqb-true m n is)
    go false is = inr (λ same. let no : true ≡ false = sym (eq-eqb m n same) ∙ is in absurd cc)

decide-version : (v w : VersionName) → Decided v w
decide-version v w = elim (decide-bytes v.key w.key) [
  | inl key ↦ elim (decide-number v.number w.number) [
    | inl number ↦ inl (λ i. record { key = key i; number = number i })
    | inr other ↦ inr (λ same. other (ap (λ (x : VersionName). x.number) same))
  ]
  | inr other ↦ inr (λ same. other (ap (λ (x : VersionName). x.key) same))
]

decide-raw : (a b : RawEdek) → Decided a b
decide-raw a b = elim (decide-version a.version b.version) [
  | inl version ↦ elim (decide-bytes a.iv b.iv) [
    | inl iv ↦ elim (decide-bytes a.sealed b.sealed) [
      | inl sealed ↦ inl (λ i. record { version = version i; iv = iv i; sealed = sealed i })
      | inr other ↦ inr (λ same. other (ap (λ (x : RawEdek). x.sealed) same))
    ]
    | inr other ↦ inr (λ same. other (ap (λ (x : RawEdek). x.iv) same))
  ]
  | inr other ↦ inr (λ same. other (ap (λ (x : RawEdek). x.version) same))
]

heads : {X : Type 0} (x y : X) (xs ys : List X) → x ∷ xs ≡ y ∷ ys → x ≡ y
heads x y xs ys same = cc same

tails : {X : Type 0} (x y : X) (xs ys : List X) → x ∷ xs ≡ y ∷ ys → xs ≡ ys
tails x y xs ys same = cc same

decide-raws : (xs ys : List RawEdek) → Decided xs ys
decide-raws [] [] = inl refl
decide-raws [] (y ∷ ys) = inr (λ same. absurd (cc same))
decide-raws (x ∷ xs) [] = inr (λ same. absurd (cc same))
decide-raws (x ∷ xs) (y ∷ ys) = go (decide-raws xs ys)
  where
    go : Decided xs ys → Decided (x ∷ xs) (y ∷ ys)
    go (inl rest) = elim (decide-raw x y) [ inl first ↦ inl (λ i. first i ∷ rest i) | inr other ↦ inr (λ same. other (heads x y xs ys same)) ]
    go (inr other) = inr (λ same. other (tails x y xs ys same))

-- calls for batches

user-of : (u v : Text) (c d : KmsCall) → act.Call u c ≡ act.Call v d → u ≡ v
user-of u v c d same = cc same

call-of : (u v : Text) (c d : KmsCall) → act.Call u c ≡ act.Call v d → c ≡ d
call-of u v c d same = cc same

name-of : (m n : KeyName) (xs ys : List RawEdek) → call.Batch m xs ≡ call.Batch n ys → m ≡ n
name-of m n xs ys same = cc same

sent-of : (m n : KeyName) (xs ys : List RawEdek) → call.Batch m xs ≡ call.Batch n ys → xs ≡ ys
sent-of m n xs ys same = cc same

-- both calls are the same
pub record SameBatch (u v : Text) (m n : KeyName) (xs ys : List RawEdek) : Type 0 where
  pub user : u ≡ v
  pub name : m ≡ n
  pub sent : xs ≡ ys

pub decide-batch : (u v : Text) (m n : KeyName) (xs ys : List RawEdek) → SameBatch u v m n xs ys ⊎ (act.Call u (call.Batch m xs) ≡ act.Call v (call.Batch n ys) → ⊥)
decide-batch u v m n xs ys = elim (decide-bytes u v) [
  | inl user ↦ elim (decide-bytes m n) [
    | inl name ↦ elim (decide-raws xs ys) [
      | inl sent ↦ inl (record { user = user; name = name; sent = sent })
      | inr other ↦ inr (λ same. other (sent-of m n xs ys (call-of u v (call.Batch m xs) (call.Batch n ys) same)))
    ]
    | inr other ↦ inr (λ same. other (name-of m n xs ys (call-of u v (call.Batch m xs) (call.Batch n ys) same)))
  ]
  | inr other ↦ inr (λ same. other (user-of u v (call.Batch m xs) (call.Batch n ys) same))
]

-- a generate of one key

count-of : (m n : KeyName) (j k : ℕ) → call.Generate m j ≡ call.Generate n k → j ≡ k
count-of m n j k same = cc same

pub record IsOneFor (u v : Text) (j : ℕ) : Type 0 where
  pub user : u ≡ v
  pub one : j ≡ 1

pub decide-generate : (u v : Text) (m : KeyName) (j : ℕ) → IsOneFor u v j ⊎ ((n : KeyName) → act.Call u (call.Generate m j) ≡ act.Call v (call.Generate n 1) → ⊥)
decide-generate u v m j = elim (decide-bytes u v) [
  | inl user ↦ elim (decide-number j 1) [
    | inl one ↦ inl (record { user = user; one = one })
    | inr other ↦ inr (λ n same. other (count-of m n j 1 (call-of u v (call.Generate m j) (call.Generate n 1) same)))
  ]
  | inr other ↦ inr (λ n same. other (user-of u v (call.Generate m j) (call.Generate n 1) same))
]

-- every other call

pub record IsOtherCall (c : KmsCall) : Type 0 where
  pub no_generate : (u v : Text) (n : KeyName) (k : ℕ) → act.Call u c ≡ act.Call v (call.Generate n k) → ⊥
  pub no_batch : (u v : Text) (n : KeyName) (ys : List RawEdek) → act.Call u c ≡ act.Call v (call.Batch n ys) → ⊥

pub data CallSort : KmsCall → Type 0 where
  IsGenerate : (name : KeyName) (count : ℕ) → CallSort (call.Generate name count)
  IsBatch : (name : KeyName) (sent : List RawEdek) → CallSort (call.Batch name sent)
  IsOther : (c : KmsCall) → IsOtherCall c → CallSort c

pub sort_of : (c : KmsCall) → CallSort c
sort_of (call.Generate name count) = IsGenerate name count
sort_of (call.Batch name sent) = IsBatch name sent
sort_of (call.Create name bits material description) = IsOther (call.Create name bits material description) (record { no_generate = λ u v n k same. absurd (cc same); no_batch = λ u v n ys same. absurd (cc same) })
sort_of (call.Roll name material) = IsOther (call.Roll name material) (record { no_generate = λ u v n k same. absurd (cc same); no_batch = λ u v n ys same. absurd (cc same) })
sort_of (call.Delete name) = IsOther (call.Delete name) (record { no_generate = λ u v n k same. absurd (cc same); no_batch = λ u v n ys same. absurd (cc same) })
sort_of (call.Invalidate name) = IsOther (call.Invalidate name) (record { no_generate = λ u v n k same. absurd (cc same); no_batch = λ u v n ys same. absurd (cc same) })
sort_of (call.Metadata name) = IsOther (call.Metadata name) (record { no_generate = λ u v n k same. absurd (cc same); no_batch = λ u v n ys same. absurd (cc same) })
sort_of (call.Metadatas names) = IsOther (call.Metadatas names) (record { no_generate = λ u v n k same. absurd (cc same); no_batch = λ u v n ys same. absurd (cc same) })
sort_of call.Names = IsOther call.Names (record { no_generate = λ u v n k same. absurd (cc same); no_batch = λ u v n ys same. absurd (cc same) })
sort_of (call.Current name) = IsOther (call.Current name) (record { no_generate = λ u v n k same. absurd (cc same); no_batch = λ u v n ys same. absurd (cc same) })
sort_of (call.Versions name) = IsOther (call.Versions name) (record { no_generate = λ u v n k same. absurd (cc same); no_batch = λ u v n ys same. absurd (cc same) })
sort_of (call.Version version) = IsOther (call.Version version) (record { no_generate = λ u v n k same. absurd (cc same); no_batch = λ u v n ys same. absurd (cc same) })
sort_of (call.Decrypt name sent) = IsOther (call.Decrypt name sent) (record { no_generate = λ u v n k same. absurd (cc same); no_batch = λ u v n ys same. absurd (cc same) })
sort_of (call.Reencrypt name sent) = IsOther (call.Reencrypt name sent) (record { no_generate = λ u v n k same. absurd (cc same); no_batch = λ u v n ys same. absurd (cc same) })
