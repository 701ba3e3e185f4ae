-- What a reply of the key management service means for the ask that made the call.
use Rattle.std.specs.Prelude.{List, [], ◌∷◌, Option, Some, None}
use Rattle.hk_base.specs.declared.names.Edek.{Edek}
use Rattle.kms_calls.specs.declared.calls.KmsReply.{KmsReply}
use Rattle.kms_calls.specs.declared.calls.KmsReply.TheVariants as reply
use Rattle.name_calls.specs.declared.calls.KeyAnswer.{KeyAnswer}
use Rattle.name_calls.specs.declared.calls.KeyAnswer.TheVariants as answer

abbrev pub first_of : List Edek → Option Edek
first_of [] = None
first_of (e ∷ edeks) = Some e

-- a refusal, or the first encrypted key of the reply, if any
abbrev pub answer_of : Option KmsReply → KeyAnswer
answer_of None = answer.Given None
answer_of (Some (reply.Refused why)) = answer.Refused why
answer_of (Some (reply.Ready edeks)) = answer.Given (first_of edeks)
answer_of (Some _) = answer.Given None
