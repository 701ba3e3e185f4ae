-- Lists of names, read part by part.
use Rattle.std.proofs.Common.{◌≡◌, ℕ, List, [], ◌∷◌, ◌++◌, refl, sym, subst, length, false, ◌==◌, Option, None, Some, MatchOption}
use denote.Ref.{Bor}
use Rattle.std.specs.List.{slice_split, All}
use Rattle.std.proofs.lemmas.List.Elements.{All-head, All-tail, All-same}
use Rattle.prop_text.specs.Acls.{IsName, SpellsParts, is_comma, is_space, comma_parts}
use Rattle.prop_text.proofs.CutLemmas.{never_empty}

here : (names : List (List ℕ)) (part : List ℕ) (more : List (List ℕ)) → All IsName (names ++ part ∷ more) → IsName part
here [] part more all = All-head IsName part more all
here (n ∷ ns) part more all = here ns part more (All-tail IsName n (ns ++ part ∷ more) all)

-- a part that is not a name
pub bad_part : (parts names : List (List ℕ)) (part : List ℕ) (more : List (List ℕ)) → parts ≡ names ++ part ∷ more → ¬ IsName part → ¬ All IsName parts
bad_part parts names part more is bad = λ all. bad (here names part more (All-same IsName (names ++ part ∷ more) parts (sym is) all))

-- there is a first part, whatever follows it
pub first_part : (bytes part : List ℕ) (rest : Option (Bor (List ℕ))) → MatchOption rest (slice_split is_comma bytes ≡ part ∷ []) (λ r. slice_split is_comma bytes ≡ part ∷ slice_split is_comma r.now) → (more : List (List ℕ)) × (slice_split is_comma bytes ≡ part ∷ more)
first_part bytes part None cut = ([], cut)
first_part bytes part (Some r) cut = (slice_split is_comma r.now, cut)

-- bytes that are not empty are split into their parts
pub listed_parts : (bytes : List ℕ) → (length bytes == 0) ≡ false → comma_parts bytes ≡ slice_split is_comma bytes
listed_parts [] some = absurd cc
listed_parts (b ∷ bs) some = refl

not_three : (first : List ℕ) (parts users groups : List (List ℕ)) → (parts ≡ [] → ⊥) → ((part : List ℕ) → ¬ (parts ≡ part ∷ [])) → ¬ SpellsParts (first ∷ parts) users groups
not_three first [] users groups some more = λ _. some refl
not_three first (part ∷ []) users groups some more = λ _. more part refl
not_three first (part ∷ other ∷ parts) users groups some more = λ spelled. spelled

-- a second space
pub two_spaces : (bytes first second : List ℕ) (users groups : List (List ℕ)) → slice_split is_space bytes ≡ first ∷ slice_split is_space second → ((part : List ℕ) → ¬ (slice_split is_space second ≡ part ∷ [])) → ¬ SpellsParts (slice_split is_space bytes) users groups
two_spaces bytes first second users groups is more = λ spelled.
    not_three first (slice_split is_space second) users groups (never_empty is_space second) more (subst (λ parts. SpellsParts parts users groups) is spelled)
