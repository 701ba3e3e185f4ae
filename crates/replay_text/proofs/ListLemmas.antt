-- Lists of names and of encrypted keys, read part by part.
use Rattle.std.proofs.Common.{◌≡◌, ℕ, List, [], ◌∷◌, ◌++◌, ap, sym, ◌∙◌, subst, Option, None, Some, MatchOption, append_assoc}
use denote.Ref.{Bor}
use Rattle.std.specs.List.{slice_split, All}
use Rattle.std.proofs.lemmas.List.Elements.{All-head, All-tail, All-same}
use Rattle.hk_base.specs.Names.{IsKeyName}
use Rattle.kms_calls.specs.declared.calls.RawEdek.{RawEdek}
use Rattle.replay_text.specs.Events.{AreTriples, IsTriple, is_comma}

here : (names : List (List ℕ)) (part : List ℕ) (more : List (List ℕ)) → All IsKeyName (names ++ part ∷ more) → IsKeyName part
here [] part more all = All-head IsKeyName part more all
here (n ∷ ns) part more all = here ns part more (All-tail IsKeyName n (ns ++ part ∷ more) all)

-- a part that is not a name
pub bad_part : (parts names : List (List ℕ)) (part : List ℕ) (more : List (List ℕ)) → parts ≡ names ++ part ∷ more → ¬ IsKeyName part → ¬ All IsKeyName parts
bad_part parts names part more is bad = λ all. bad (here names part more (All-same IsKeyName (names ++ part ∷ more) parts (sym is) all))

-- there is a first part, whatever follows it
pub first_part : (bytes part : List ℕ) (rest : Option (Bor (List ℕ))) → MatchOption rest (slice_split is_comma bytes ≡ part ∷ []) (λ r. slice_split is_comma bytes ≡ part ∷ slice_split is_comma r.now) → (more : List (List ℕ)) × (slice_split is_comma bytes ≡ part ∷ more)
first_part bytes part None cut = ([], cut)
first_part bytes part (Some r) cut = (slice_split is_comma r.now, cut)

-- these keys are those of the first parts, and the others are in the rest
pub record SentSoFar (bytes rest : List ℕ) (sent : List RawEdek) : Type 0 where
  pub parts : List (List ℕ)
  pub so_far : slice_split is_comma bytes ≡ parts ++ slice_split is_comma rest
  pub read : AreTriples parts sent

one_more : (parts : List (List ℕ)) (sent : List RawEdek) (part : List ℕ) (edek : RawEdek) → AreTriples parts sent → IsTriple part edek → AreTriples (parts ++ part ∷ []) (sent ++ edek ∷ [])
one_more [] [] part edek before is = (is, tt)
one_more [] (s ∷ ss) part edek before is = absurd before
one_more (p ∷ ps) [] part edek before is = absurd before
one_more (p ∷ ps) (s ∷ ss) part edek before is = (before.0, one_more ps ss part edek before.1 is)

-- one more part, with others after it
pub sent_more : (bytes rest part next : List ℕ) (sent : List RawEdek) (edek : RawEdek) → SentSoFar bytes rest sent → slice_split is_comma rest ≡ part ∷ slice_split is_comma next → IsTriple part edek → SentSoFar bytes next (sent ++ edek ∷ [])
sent_more bytes rest part next sent edek before cut is = record {
  parts = before.parts ++ part ∷ [];
  so_far = before.so_far ∙ ap (λ ps. before.parts ++ ps) cut ∙ sym (append_assoc before.parts (part ∷ []) (slice_split is_comma next));
  read = one_more before.parts sent part edek before.read is;
}

-- the last part
pub sent_all : (bytes rest part : List ℕ) (sent : List RawEdek) (edek : RawEdek) → SentSoFar bytes rest sent → slice_split is_comma rest ≡ part ∷ [] → IsTriple part edek → AreTriples (slice_split is_comma bytes) (sent ++ edek ∷ [])
sent_all bytes rest part sent edek before cut is =
    let all : before.parts ++ part ∷ [] ≡ slice_split is_comma bytes = sym (before.so_far ∙ ap (λ ps. before.parts ++ ps) cut) in
    subst (λ (ps : List (List ℕ)). AreTriples ps (sent ++ edek ∷ [])) all (one_more before.parts sent part edek before.read is)

-- a part that is not a triple
no_triple : (parts : List (List ℕ)) (part : List ℕ) (more : List (List ℕ)) (sent : List RawEdek) → ((edek : RawEdek) → ¬ IsTriple part edek) → ¬ AreTriples (parts ++ part ∷ more) sent
no_triple [] part more [] bad = λ all. absurd all
no_triple [] part more (s ∷ ss) bad = λ all. bad s all.0
no_triple (p ∷ ps) part more [] bad = λ all. absurd all
no_triple (p ∷ ps) part more (s ∷ ss) bad = λ all. no_triple ps part more ss bad all.1

pub bad_triple : (bytes rest part : List ℕ) (behind : Option (Bor (List ℕ))) (sent : List RawEdek) → SentSoFar bytes rest sent
    → MatchOption behind (slice_split is_comma rest ≡ part ∷ []) (λ r. slice_split is_comma rest ≡ part ∷ slice_split is_comma r.now)
    → ((edek : RawEdek) → ¬ IsTriple part edek) → (all : List RawEdek) → ¬ AreTriples (slice_split is_comma bytes) all
bad_triple bytes rest part behind sent before cut bad all triples =
    let first = first_part rest part behind cut in
    no_triple before.parts part first.0 all bad (subst (λ (ps : List (List ℕ)). AreTriples ps all) (before.so_far ∙ ap (λ ps. before.parts ++ ps) first.1) triples)
