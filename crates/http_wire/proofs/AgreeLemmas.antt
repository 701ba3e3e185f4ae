-- The number on which values agree, one value at a time.
use Rattle.std.proofs.Common.{◌≡◌, ℕ, ◌+◌, ◌<◌, ◌≤◌, true, false, ◌&&◌, cond, List, [], ◌∷◌, map, drop, length, get_or, Option, None, Some, refl, sym, ap, ◌∙◌}
use Rattle.std.specs.List.{list_all}
use Rattle.std.specs.Option.{option_and_then, unwrap_or}
use Rattle.std.proofs.lemmas.Bool.{eq-eqb}
use Rattle.std.proofs.lemmas.List.{at_drop_more, at_drop_all}
use Rattle.httparse.specs.declared.spans.HeaderSpan.{HeaderSpan}
use Rattle.httparse.specs.Spans.{header_bytes}
use Rattle.http_wire.specs.Fields.{is_named, is_number, number_of, says, agreed, joined, values}

-- the number on which these values and the number so far agree
abbrev pub from_here : List (List ℕ) → Option ℕ → Option ℕ
from_here [] known = Some (unwrap_or known 0)
from_here (value ∷ more) known = option_and_then (λ (n : ℕ). from_here more (Some n)) (joined known value)

pub from_known : (n : ℕ) (all : List (List ℕ)) → from_here all (Some n) ≡ cond (list_all (says n) all) (Some n) None
from_known n [] = refl
from_known n (value ∷ more) =
    elim (says n value) as (λ b. option_and_then (λ (m : ℕ). from_here more (Some m)) (cond b (Some n) None) ≡ cond (b && list_all (says n) more) (Some n) None) [
      | true ↦ from_known n more
      | false ↦ refl
    ]

pub agreed_is : (all : List (List ℕ)) → from_here all None ≡ agreed all
agreed_is [] = refl
agreed_is (value ∷ more) =
    let n = number_of value in
    rw (eq-eqb n n refl)
    (elim (is_number value) as (λ b. option_and_then (λ (m : ℕ). from_here more (Some m)) (cond b (Some n) None) ≡ cond ((b && true) && list_all (says n) more) (Some n) None) [
      | true ↦ from_known n more
      | false ↦ refl
    ])

-- the number on which the number so far and the fields from an index on agree
abbrev pub from_place : List ℕ → List ℕ → List HeaderSpan → Option ℕ → ℕ → Option ℕ
from_place name buf headers known i = from_here (values name (map (header_bytes buf) (drop i headers))) known

-- the fields from an index on, by the field there
pub at_place : (name buf : List ℕ) (headers : List HeaderSpan) (known : Option ℕ) (i : ℕ) (d : HeaderSpan) → i < length headers → from_place name buf headers known i ≡ from_here (values name (header_bytes buf (get_or headers i d) ∷ map (header_bytes buf) (drop (i + 1) headers))) known
at_place name buf headers known i d within = at_drop_more (λ (rest : List HeaderSpan). from_here (values name (map (header_bytes buf) rest)) known) headers i d within

pub other_name : (name : List ℕ) (field : List ℕ × List ℕ) (fields : List (List ℕ × List ℕ)) (known : Option ℕ) → is_named name field ≡ false → from_here (values name (field ∷ fields)) known ≡ from_here (values name fields) known
other_name name field fields known not_named = rw not_named refl

pub same_name : (name : List ℕ) (field : List ℕ × List ℕ) (fields : List (List ℕ × List ℕ)) (known : Option ℕ) → is_named name field ≡ true → from_here (values name (field ∷ fields)) known ≡ option_and_then (λ (n : ℕ). from_here (values name fields) (Some n)) (joined known field.1)
same_name name field fields known named = rw named refl

-- the field at this index has no number, or a different one
pub none_agreed : (name buf : List ℕ) (headers : List HeaderSpan) (known : Option ℕ) (i : ℕ) (d : HeaderSpan) → i < length headers → is_named name (header_bytes buf (get_or headers i d)) ≡ true → joined known (header_bytes buf (get_or headers i d)).1 ≡ None → from_place name buf headers known i ≡ from_place name buf headers None 0 → agreed (values name (map (header_bytes buf) headers)) ≡ None
none_agreed name buf headers known i d within named none so_far =
    let rest = values name (map (header_bytes buf) (drop (i + 1) headers)) in
    sym (agreed_is _) ∙ sym so_far ∙ at_place name buf headers known i d within ∙ same_name name _ _ known named ∙ ap (option_and_then (λ (n : ℕ). from_here rest (Some n))) none

-- all fields were read
pub all_agreed : (name buf : List ℕ) (headers : List HeaderSpan) (known : Option ℕ) (i : ℕ) → length headers ≤ i → from_place name buf headers known i ≡ from_place name buf headers None 0 → agreed (values name (map (header_bytes buf) headers)) ≡ Some (unwrap_or known 0)
all_agreed name buf headers known i past so_far = sym (agreed_is _) ∙ sym so_far ∙ at_drop_all (λ (rest : List HeaderSpan). from_here (values name (map (header_bytes buf) rest)) known) headers i past
