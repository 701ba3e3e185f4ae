-- A text is the base64 of at most one byte string, whatever its alphabet and padding.
use Rattle.std.proofs.Common.{◌≡◌, ℕ, zero, suc, ◌+◌, ◌*◌, ◌/◌, ◌%◌, ◌<◌, ◌==◌, Bool, true, not, ◌&&◌, List, [], ◌∷◌, ◌++◌, length, Option, None, Some, Result, Ok, Err, refl, ap, ap₂, sym, ◌∙◌, arith, inl, inr, ◌⊎◌}
use Rattle.std.specs.Prelude.{if◌then◌else◌, replicate, slice_index}
use Rattle.std.specs.List.{list_all}
use Rattle.std.specs.Option.{option_or}
use Rattle.std.specs.Result.{result_ok}
use Rattle.std.proofs.lemmas.Bool.{and_from, and_parts, eqb-true}
use Rattle.base64.specs.Tables.{all_below}
use Rattle.base64.specs.GeneralPurpose.{IsBytes, decode_of}
use Rattle.base64.specs.Engines.{standard, standard_no_pad, url_safe, url_safe_no_pad}
use Rattle.base64.specs.Rfc4648.{encode_symbols, padding_len}
use Rattle.base64.specs.declared.decode.DecodeError.{DecodeError}
use Rattle.base64.specs.declared.engine.general_purpose.GeneralPurpose.{GeneralPurpose}
use Rattle.base64.proofs.EngineFacts.{decode_of_iff, decode_of_strict}
use Rattle.base64.proofs.Tables.{all_below_at}
use Rattle.kms_json.specs.Base64.{IsBase64, base64_bytes}

-- symbols of both alphabets

-- the value of a symbol of either alphabet
abbrev value_of : ℕ → ℕ
value_of b = if b == 45 then 62 else (if b == 95 then 63 else slice_index standard.decode_table b)

abbrev is_symbol : List ℕ → ℕ → Bool
is_symbol t i = (value_of (slice_index t i) == i) && not (slice_index t i == 61)

abbrev IsTable : List ℕ → Type 0
IsTable t = all_below (is_symbol t) 64 ≡ true

standard_table : IsTable standard.encode_table
standard_table = refl

url_safe_table : IsTable url_safe.encode_table
url_safe_table = refl

symbol_at : (t : List ℕ) (i : ℕ) → IsTable t → i < 64 → is_symbol t i ≡ true
symbol_at t i table below = all_below_at (is_symbol t) 64 i table below

value_at : (t : List ℕ) (i : ℕ) → IsTable t → i < 64 → value_of (slice_index t i) ≡ i
value_at t i table below = eqb-true (value_of (slice_index t i)) i (and_parts _ _ (symbol_at t i table below)).0

same_place : (t u : List ℕ) (i j : ℕ) → IsTable t → IsTable u → i < 64 → j < 64 → slice_index t i ≡ slice_index u j → i ≡ j
same_place t u i j table other below low same = sym (value_at t i table below) ∙ ap value_of same ∙ value_at u j other low

no_pad : (t : List ℕ) (i : ℕ) → IsTable t → i < 64 → not (slice_index t i == 61) ≡ true
no_pad t i table below = (and_parts _ _ (symbol_at t i table below)).1

-- three bytes from their four groups of six bits

first_is : (a b x y : ℕ) → a < 256 → b < 256 → x < 256 → y < 256 → a / 4 ≡ x / 4 → a % 4 * 16 + b / 16 ≡ x % 4 * 16 + y / 16 → a ≡ x
first_is a b x y ha hb hx hy high low = omega arith

second_is : (a b c x y z : ℕ) → b < 256 → c < 256 → y < 256 → z < 256 → a ≡ x → a % 4 * 16 + b / 16 ≡ x % 4 * 16 + y / 16 → b % 16 * 4 + c / 64 ≡ y % 16 * 4 + z / 64 → b ≡ y
second_is a b c x y z hb hc hy hz same high low = omega arith

third_is : (b c y z : ℕ) → c < 256 → z < 256 → b ≡ y → b % 16 * 4 + c / 64 ≡ y % 16 * 4 + z / 64 → c % 64 ≡ z % 64 → c ≡ z
third_is b c y z hc hz same high low = omega arith

two_is : (a b x y : ℕ) → b < 256 → y < 256 → a ≡ x → a % 4 * 16 + b / 16 ≡ x % 4 * 16 + y / 16 → b % 16 * 4 ≡ y % 16 * 4 → b ≡ y
two_is a b x y hb hy same high low = omega arith

one_is : (a x : ℕ) → a / 4 ≡ x / 4 → a % 4 * 16 ≡ x % 4 * 16 → a ≡ x
one_is a x high low = omega arith

behind : (a b c : ℕ) (rest : List ℕ) → IsBytes (a ∷ b ∷ c ∷ rest) → IsBytes rest
behind a b c rest bytes i = bytes (suc (suc (suc i)))

symbols_once : (t u m n : List ℕ) → IsTable t → IsTable u → IsBytes m → IsBytes n → encode_symbols t m ≡ encode_symbols u n → m ≡ n
unfolding encode_symbols
symbols_once t u [] [] p q hm hn same = refl
symbols_once t u [] (x ∷ []) p q hm hn same = absurd cc
symbols_once t u [] (x ∷ y ∷ []) p q hm hn same = absurd cc
symbols_once t u [] (x ∷ y ∷ z ∷ ns) p q hm hn same = absurd cc
symbols_once t u (a ∷ []) [] p q hm hn same = absurd cc
symbols_once t u (a ∷ []) (x ∷ []) p q hm hn same =
    let ha : a < 256 = hm 0 in let hx : x < 256 = hn 0 in
    let high : a / 4 ≡ x / 4 = same_place t u (a / 4) (x / 4) p q (omega arith) (omega arith) cc in
    let low : a % 4 * 16 ≡ x % 4 * 16 = same_place t u (a % 4 * 16) (x % 4 * 16) p q (omega arith) (omega arith) cc in
    ap (λ v. v ∷ []) (one_is a x high low)
symbols_once t u (a ∷ []) (x ∷ y ∷ []) p q hm hn same = absurd cc
symbols_once t u (a ∷ []) (x ∷ y ∷ z ∷ ns) p q hm hn same = absurd cc
symbols_once t u (a ∷ b ∷ []) [] p q hm hn same = absurd cc
symbols_once t u (a ∷ b ∷ []) (x ∷ []) p q hm hn same = absurd cc
symbols_once t u (a ∷ b ∷ []) (x ∷ y ∷ []) p q hm hn same =
    let ha : a < 256 = hm 0 in let hb : b < 256 = hm 1 in let hx : x < 256 = hn 0 in let hy : y < 256 = hn 1 in
    let high : a / 4 ≡ x / 4 = same_place t u (a / 4) (x / 4) p q (omega arith) (omega arith) cc in
    let mid : a % 4 * 16 + b / 16 ≡ x % 4 * 16 + y / 16 = same_place t u (a % 4 * 16 + b / 16) (x % 4 * 16 + y / 16) p q (omega arith) (omega arith) cc in
    let low : b % 16 * 4 ≡ y % 16 * 4 = same_place t u (b % 16 * 4) (y % 16 * 4) p q (omega arith) (omega arith) cc in
    let one = first_is a b x y ha hb hx hy high mid in
    ap₂ (λ v w. v ∷ w ∷ []) one (two_is a b x y hb hy one mid low)
symbols_once t u (a ∷ b ∷ []) (x ∷ y ∷ z ∷ ns) p q hm hn same = absurd cc
symbols_once t u (a ∷ b ∷ c ∷ ms) [] p q hm hn same = absurd cc
symbols_once t u (a ∷ b ∷ c ∷ ms) (x ∷ []) p q hm hn same = absurd cc
symbols_once t u (a ∷ b ∷ c ∷ ms) (x ∷ y ∷ []) p q hm hn same = absurd cc
symbols_once t u (a ∷ b ∷ c ∷ ms) (x ∷ y ∷ z ∷ ns) p q hm hn same =
    let ha : a < 256 = hm 0 in let hb : b < 256 = hm 1 in let hc : c < 256 = hm 2 in
    let hx : x < 256 = hn 0 in let hy : y < 256 = hn 1 in let hz : z < 256 = hn 2 in
    let high : a / 4 ≡ x / 4 = same_place t u (a / 4) (x / 4) p q (omega arith) (omega arith) cc in
    let mid : a % 4 * 16 + b / 16 ≡ x % 4 * 16 + y / 16 = same_place t u (a % 4 * 16 + b / 16) (x % 4 * 16 + y / 16) p q (omega arith) (omega arith) cc in
    let more : b % 16 * 4 + c / 64 ≡ y % 16 * 4 + z / 64 = same_place t u (b % 16 * 4 + c / 64) (y % 16 * 4 + z / 64) p q (omega arith) (omega arith) cc in
    let low : c % 64 ≡ z % 64 = same_place t u (c % 64) (z % 64) p q (omega arith) (omega arith) cc in
    let one = first_is a b x y ha hb hx hy high mid in
    let two = second_is a b c x y z hb hc hy hz one mid more in
    let three = third_is b c y z hc hz two more low in
    let tails : encode_symbols t ms ≡ encode_symbols u ns = cc in
    let rest = symbols_once t u ms ns p q (behind a b c ms hm) (behind x y z ns hn) tails in
    λ i. one i ∷ two i ∷ three i ∷ rest i

-- padding

abbrev is_no_pad : ℕ → Bool
is_no_pad b = not (b == 61)

symbols_no_pad : (t m : List ℕ) → IsTable t → IsBytes m → list_all is_no_pad (encode_symbols t m) ≡ true
unfolding encode_symbols
symbols_no_pad t [] p hm = refl
symbols_no_pad t (a ∷ []) p hm =
    let ha : a < 256 = hm 0 in
    and_from _ _ (no_pad t (a / 4) p (omega arith)) (and_from _ _ (no_pad t (a % 4 * 16) p (omega arith)) refl)
symbols_no_pad t (a ∷ b ∷ []) p hm =
    let ha : a < 256 = hm 0 in let hb : b < 256 = hm 1 in
    and_from _ _ (no_pad t (a / 4) p (omega arith)) (and_from _ _ (no_pad t (a % 4 * 16 + b / 16) p (omega arith)) (and_from _ _ (no_pad t (b % 16 * 4) p (omega arith)) refl))
symbols_no_pad t (a ∷ b ∷ c ∷ ms) p hm =
    let ha : a < 256 = hm 0 in let hb : b < 256 = hm 1 in let hc : c < 256 = hm 2 in
    and_from _ _ (no_pad t (a / 4) p (omega arith)) (and_from _ _ (no_pad t (a % 4 * 16 + b / 16) p (omega arith))
    (and_from _ _ (no_pad t (b % 16 * 4 + c / 64) p (omega arith)) (and_from _ _ (no_pad t (c % 64) p (omega arith)) (symbols_no_pad t ms p (behind a b c ms hm)))))

pads_first : (k b : ℕ) (bs rest : List ℕ) → is_no_pad b ≡ true → replicate k 61 ≡ b ∷ bs → ⊥
pads_first zero b bs rest other same = cc
pads_first (suc k) b bs rest other same = let e : 61 ≡ b = cc in let bad : is_no_pad 61 ≡ true = ap is_no_pad e ∙ other in cc

unpadded : (xs ys : List ℕ) (k l : ℕ) → list_all is_no_pad xs ≡ true → list_all is_no_pad ys ≡ true → xs ++ replicate k 61 ≡ ys ++ replicate l 61 → xs ≡ ys
unpadded [] [] k l p q same = refl
unpadded [] (y ∷ ys) k l p q same = absurd (pads_first k y (ys ++ replicate l 61) [] (and_parts (is_no_pad y) (list_all is_no_pad ys) q).0 same)
unpadded (x ∷ xs) [] k l p q same = absurd (pads_first l x (xs ++ replicate k 61) [] (and_parts (is_no_pad x) (list_all is_no_pad xs) p).0 (sym same))
unpadded (x ∷ xs) (y ∷ ys) k l p q same =
    let head : x ≡ y = cc in
    let tails : xs ++ replicate k 61 ≡ ys ++ replicate l 61 = cc in
    ap₂ (λ v vs. v ∷ vs) head (unpadded xs ys k l (and_parts (is_no_pad x) (list_all is_no_pad xs) p).1 (and_parts (is_no_pad y) (list_all is_no_pad ys) q).1 tails)

-- the four forms

record Spelled (text bytes : List ℕ) : Type 0 where
  pub table : List ℕ
  pub is_table : IsTable table
  pub pads : ℕ
  pub is : text ≡ encode_symbols table bytes ++ replicate pads 61

spelled : (text bytes : List ℕ) → IsBase64 text bytes → Spelled text bytes
spelled text bytes (inl a) = record { table = url_safe.encode_table; is_table = url_safe_table; pads = 0; is = a }
spelled text bytes (inr (inl b)) = record { table = url_safe.encode_table; is_table = url_safe_table; pads = padding_len (length bytes); is = b }
spelled text bytes (inr (inr (inl c))) = record { table = standard.encode_table; is_table = standard_table; pads = 0; is = c }
spelled text bytes (inr (inr (inr d))) = record { table = standard.encode_table; is_table = standard_table; pads = padding_len (length bytes); is = d }

pub spelled_once : (text a b : List ℕ) → IsBytes a → IsBytes b → IsBase64 text a → IsBase64 text b → a ≡ b
spelled_once text a b ha hb first second =
    let x = spelled text a first in
    let y = spelled text b second in
    symbols_once x.table y.table a b x.is_table y.is_table ha hb
    (unpadded (encode_symbols x.table a) (encode_symbols y.table b) x.pads y.pads (symbols_no_pad x.table a x.is_table ha) (symbols_no_pad y.table b y.is_table hb) (sym x.is ∙ y.is))

-- what the four decoders give

result_is : (r : Result (List ℕ) DecodeError) (bytes : List ℕ) → result_ok r ≡ Some bytes → r ≡ Ok bytes
result_is (Ok x) bytes is = let same : x ≡ bytes = cc in ap (λ v. Ok v) same
result_is (Err f) bytes is = absurd cc

either_is : (o p : Option (List ℕ)) (bytes : List ℕ) → option_or o p ≡ Some bytes → (o ≡ Some bytes) ⊎ (p ≡ Some bytes)
either_is None p bytes is = inr is
either_is (Some x) p bytes is = inl is

pub bytes_spelled : (text bytes : List ℕ) → IsBytes text → base64_bytes text ≡ Some bytes → IsBase64 text bytes
bytes_spelled text bytes h is = elim (either_is _ _ bytes is) [
  | inl a ↦ inl (decode_of_strict url_safe_no_pad text bytes (refl, refl) h (result_is _ bytes a))
  | inr more ↦ elim (either_is _ _ bytes more) [
    | inl b ↦ inr (inl (decode_of_strict url_safe text bytes (refl, refl) h (result_is _ bytes b)))
    | inr most ↦ elim (either_is _ _ bytes most) [
      | inl c ↦ inr (inr (inl (decode_of_strict standard_no_pad text bytes (refl, refl) h (result_is _ bytes c))))
      | inr d ↦ inr (inr (inr (decode_of_strict standard text bytes (refl, refl) h (result_is _ bytes d))))
    ]
  ]
]

neither : (o p : Option (List ℕ)) → option_or o p ≡ None → (o ≡ None) × (p ≡ None)
neither None p is = (refl, is)
neither (Some x) p is = absurd cc

gives : (e : GeneralPurpose) (text bytes : List ℕ) → decode_of e text ≡ Ok bytes → result_ok (decode_of e text) ≡ None → ⊥
gives e text bytes ok none = let some : result_ok (decode_of e text) ≡ Some bytes = ap result_ok ok in cc

pub spelled_gives : (text bytes : List ℕ) → IsBytes text → IsBytes bytes → IsBase64 text bytes → base64_bytes text ≡ None → ⊥
spelled_gives text bytes h hb is none =
    let first = neither _ _ none in
    let second = neither _ _ first.1 in
    let third = neither _ _ second.1 in
    elim is [
      | inl a ↦ gives url_safe_no_pad text bytes ((decode_of_iff url_safe_no_pad text bytes (refl, refl) h hb).1 a) first.0
      | inr more ↦ elim more [
        | inl b ↦ gives url_safe text bytes ((decode_of_iff url_safe text bytes (refl, refl) h hb).1 b) second.0
        | inr most ↦ elim most [
          | inl c ↦ gives standard_no_pad text bytes ((decode_of_iff standard_no_pad text bytes (refl, refl) h hb).1 c) third.0
          | inr d ↦ gives standard text bytes ((decode_of_iff standard text bytes (refl, refl) h hb).1 d) third.1
        ]
      ]
    ]
