-- The place of the '@' in the text of a version.
use Rattle.std.proofs.Common.{◌≡◌, ℕ, ◌+◌, ◌-◌, ◌^◌, ◌<◌, ap₂, List, ◌∷◌, ◌++◌, length, take, drop, get_or, Bool, true, false, Some, refl, ap, sym, ◌∙◌, arith, append_assoc, length-append, drop-cons, add-one, codes}
use Rattle.std.specs.List.{list_all, All, position}
use Rattle.std.specs.Fmt.{decimal}
use Rattle.std.specs.Str.Parse.{digits_value}
use Rattle.std.proofs.lemmas.Fmt.{decimal_is_IsNumeral}
use Rattle.std.proofs.lemmas.List.{get_or_append_left, take_rest, take-append-drop}
use Rattle.std.proofs.lemmas.List.Elements.{All-get_or}
use Rattle.std.proofs.lemmas.List.Folds.{list_all_at}
use Rattle.std.proofs.lemmas.List.Quantifiers.{position-Some}
use Rattle.std.proofs.lemmas.Bool.Decides.{Decides-eqb}
use Rattle.std.proofs.Math.Seq.{get_or-append_seam, take-append_seam, drop-append_seam}
use Rattle.std.proofs.lemmas.Bool.{and_parts}
use Rattle.hk_base.specs.Names.{is_name_byte, IsKeyName, is_at_sign, version_text}

-- each byte of a name is a name byte
bytes_may_stand : (key : List ℕ) → IsKeyName key → list_all is_name_byte key ≡ true
bytes_may_stand key name = (and_parts _ _ name).1

-- a name byte is not '@'
not_at_sign : (b : ℕ) → is_name_byte b ≡ true → is_at_sign b ≡ true → ⊥
not_at_sign b may at = grind arith

no_at_sign : (key : List ℕ) (k : ℕ) → IsKeyName key → k < length key → is_at_sign (get_or key k 0) ≡ true → ⊥
no_at_sign key k name below at =
    let P : Bool → Type 0 = λ t. is_name_byte (get_or key k 0) ≡ t → ⊥ in
    let cases : P (is_name_byte (get_or key k 0)) = elim (is_name_byte (get_or key k 0)) as P [
      | true ↦ λ e. not_at_sign (get_or key k 0) e at
      | false ↦ λ e. let all : list_all is_name_byte key ≡ false = list_all_at is_name_byte key k 0 below e in let none = bytes_may_stand key name in cc
    ] in
    cases refl

whole_at : (key : List ℕ) (number : ℕ) → get_or (version_text key number) (length key) 0 ≡ 64
whole_at key number = ap (λ l. get_or l (length key) 0) (append_assoc key (codes "@") (decimal number)) ∙ get_or-append_seam key 64 (decimal number) 0

-- the first '@' comes right after the key
pub place_is : (key : List ℕ) (number place : ℕ) → IsKeyName key → position is_at_sign (version_text key number) ≡ Some place → place ≡ length key
place_is key number place name is =
    let found = position-Some is_at_sign (version_text key number) place 0 is in
    let not_before : place < length key → ⊥ = λ below. no_at_sign key place name below
    (ap is_at_sign (sym (get_or_append_left key (codes "@" ++ decimal number) 0 place below) ∙ ap (λ l. get_or l place 0) (sym (append_assoc key (codes "@") (decimal number)))) ∙ found.1) in
    let not_behind : length key < place → ⊥ = λ below. let e : is_at_sign (get_or (version_text key number) (length key) 0) ≡ false = found.2 (length key) below in
    let t : is_at_sign (get_or (version_text key number) (length key) 0) ≡ true = ap is_at_sign (whole_at key number) in cc in
    omega (arith, not_before, not_behind)

pub has_at_sign : (key : List ℕ) (number : ℕ) → All (λ b. is_at_sign b ≡ false) (version_text key number) → ⊥
has_at_sign key number none =
    let within : length key < length (version_text key number) = omega (arith, length-append (key ++ codes "@") (decimal number), length-append key (codes "@")) in
    let e : is_at_sign (get_or (version_text key number) (length key) 0) ≡ false = All-get_or (λ b. is_at_sign b ≡ false) (version_text key number) (length key) 0 within none in
    let t : is_at_sign (get_or (version_text key number) (length key) 0) ≡ true = ap is_at_sign (whole_at key number) in
    cc

-- the key is before the '@', and the number after it
pub take_key : (key : List ℕ) (number : ℕ) → take (length key) (version_text key number) ≡ key
take_key key number = ap (take (length key)) (append_assoc key (codes "@") (decimal number)) ∙ take-append_seam key (codes "@" ++ decimal number)

pub drop_key : (key : List ℕ) (number : ℕ) → drop (length key + 1) (version_text key number) ≡ decimal number
drop_key key number =
    ap (λ n. drop n (version_text key number)) (sym (length-append key (codes "@"))) ∙ drop-append_seam (key ++ codes "@") (decimal number)

-- the two parts around the first '@'
pub cut_is : (bytes key : List ℕ) (number place : ℕ) → IsKeyName key → bytes ≡ version_text key number → position is_at_sign bytes ≡ Some place
    → (take place bytes ≡ key) × (take (length bytes - (place + 1)) (drop (place + 1) bytes) ≡ decimal number)
cut_is bytes key number place name is first =
    let at : place ≡ length key = place_is key number place name (ap (position is_at_sign) (sym is) ∙ first) in (
      ap₂ take at is ∙ take_key key number,
      take_rest bytes (place + 1) ∙ ap₂ (λ n l. drop (n + 1) l) at is ∙ drop_key key number,
    )

-- two numbers with one text are equal
pub decimal_once : (m n : ℕ) → m < 2 ^ 64 → n < 2 ^ 64 → decimal m ≡ decimal n → m ≡ n
decimal_once m n small below same = sym (decimal_is_IsNumeral m small).1 ∙ ap (digits_value 10) same ∙ (decimal_is_IsNumeral n below).1

-- the parts around the first '@' make up the whole
pub joined : (bytes key : List ℕ) (number place : ℕ) → position is_at_sign bytes ≡ Some place
    → take place bytes ≡ key → take (length bytes - (place + 1)) (drop (place + 1) bytes) ≡ decimal number → bytes ≡ version_text key number
joined bytes key number place first front back =
    let found = position-Some is_at_sign bytes place 0 first in
    let within : place < length bytes = found.0 in
    let at : get_or bytes place 0 ≡ 64 = (Decides-eqb (get_or bytes place 0) 64).0 found.1 in
    sym (take-append-drop place bytes)
    ∙ ap₂ (λ xs ys. xs ++ ys) front (drop-cons bytes place 0 within ∙ ap₂ (λ x xs. x ∷ xs) at (ap (λ n. drop n bytes) (sym (add-one place)) ∙ sym (take_rest bytes (place + 1)) ∙ back))
    ∙ sym (append_assoc key (codes "@") (decimal number))
