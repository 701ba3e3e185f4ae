-- The text of a writer after it wrote the value of a body.
use Rattle.std.proofs.Common.{◌≡◌, List, [], ◌∷◌, ◌++◌, ap, ◌∙◌, append_assoc}
use Rattle.json.specs.Print.{print}
use Rattle.json.specs.Token.{Token}
use Rattle.json.specs.Written.{Written}
use Rattle.serde_json.specs.Data.{Data}
use Rattle.serde_json.specs.Written.{compact_text}
use Rattle.serde_json.proofs.Texts.{print-outline}
use Rattle.kms_json.specs.Writing.{AddsData, AddsTokens, tokens_of}

-- one token was written
pub adds_token : {t : Token} {old new : Written} → new.tokens ≡ old.tokens ++ t ∷ [] → new.before ≡ old.before → AddsTokens (t ∷ []) old new
adds_token added same = record { tokens = added; before = same }

pub adds_then : {a b : List Token} {old mid new : Written} → AddsTokens a old mid → AddsTokens b mid new → AddsTokens (a ++ b) old new
adds_then {a = a} {b = b} {old = old} first next = record {
  tokens = next.tokens ∙ ap (λ ts. ts ++ b) first.tokens ∙ append_assoc old.tokens a b;
  before = next.before ∙ first.before;
}

pub text_written : (d : Data) (old new : Written) → old.tokens ≡ [] → old.before ≡ [] → AddsData d old new → new.before ++ print new.tokens ≡ compact_text d
text_written d old new none start added =
    ap (λ bs. bs ++ print new.tokens) (added.before ∙ start) ∙ ap print (added.tokens ∙ ap (λ ts. ts ++ tokens_of d) none) ∙ print-outline d
