-- What a step of writing adds to the text so far, as JSON tokens.
use Rattle.std.specs.Prelude.{◌≡◌, ℕ, List, [], ◌∷◌, ◌++◌, Option, None, Some}
use Rattle.json.specs.Token.{Token, key}
use Rattle.json.specs.Tree.{json_tokens}
use Rattle.json.specs.Written.{Written}
use Rattle.serde_json.specs.Data.{Data}
use Rattle.serde_json.specs.Written.{outline}

abbrev pub tokens_of : Data → List Token
tokens_of d = json_tokens (outline d)

-- these tokens were appended
pub record AddsTokens (added : List Token) (old new : Written) : Type 0 where
  pub tokens : new.tokens ≡ old.tokens ++ added
  pub before : new.before ≡ old.before

abbrev pub AddsData : Data → Written → Written → Type 0
AddsData d old new = AddsTokens (tokens_of d) old new

abbrev pub AddsMember : List ℕ → Data → Written → Written → Type 0
AddsMember name d old new = AddsTokens (key name ∷ tokens_of d) old new

-- a value, or nothing
abbrev pub AddsReply : Option Data → Written → Written → Type 0
AddsReply None old new = AddsTokens [] old new
AddsReply (Some d) old new = AddsData d old new
