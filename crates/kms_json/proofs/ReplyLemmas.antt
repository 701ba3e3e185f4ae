-- The text of a writer after it wrote a reply.
use Rattle.std.proofs.Common.{◌≡◌, [], ◌++◌, Option, None, Some, refl, ap, ◌∙◌}
use Rattle.json.specs.Print.{print, print_from}
use Rattle.json.specs.Written.{Written}
use Rattle.serde_json.specs.Data.{Data}
use Rattle.serde_json.proofs.Texts.{print-outline}
use Rattle.kms_json.specs.Replies.{text_of}
use Rattle.kms_json.specs.Writing.{AddsReply, tokens_of}

nothing_printed : print [] ≡ []
unfolding print_from
nothing_printed = refl

pub text_written : (reply : Option Data) (old new : Written) → old.tokens ≡ [] → old.before ≡ [] → AddsReply reply old new → new.before ++ print new.tokens ≡ text_of reply
text_written None old new none start added =
    ap (λ bs. bs ++ print new.tokens) (added.before ∙ start) ∙ ap print (added.tokens ∙ ap (λ ts. ts ++ []) none) ∙ nothing_printed
text_written (Some d) old new none start added =
    ap (λ bs. bs ++ print new.tokens) (added.before ∙ start) ∙ ap print (added.tokens ∙ ap (λ ts. ts ++ tokens_of d) none) ∙ print-outline d
