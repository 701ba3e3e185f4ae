-- How the reply to a call agrees with the verdict of the access control lists.
use Rattle.std.specs.Prelude.{◌≡◌, List, Option, None, Some, Result, Ok, Err}
use Rattle.hk_base.specs.declared.texts.Text.{Text}
use Rattle.kms_acls.specs.declared.answers.Denied.{Denied}
use Rattle.kms_acls.specs.declared.answers.Shown.{Shown}
use Rattle.kms_acls.specs.Verdict.{verdict}
use Rattle.kms_calls.specs.declared.calls.KmsCall.{KmsCall}
use Rattle.kms_calls.specs.declared.calls.KmsRefusal.TheVariants as refusal
use Rattle.kms_calls.specs.declared.calls.KmsReply.{KmsReply}
use Rattle.kms_calls.specs.declared.calls.KmsReply.TheVariants as reply
use Rattle.prop_text.specs.declared.lines.PropLine.{PropLine}

-- the denial in a reply, and that of a verdict
abbrev pub denial_in : KmsReply → Option Denied
denial_in (reply.Refused (refusal.Denied table op)) = Some (record { table = table; op = op })
denial_in _ = None

abbrev pub denied_by : Result Shown Denied → Option Denied
denied_by (Ok shown) = None
denied_by (Err denied) = Some denied

-- a call is denied exactly if the access control lists deny it, by the table and for the operation of the first list that does
abbrev pub IsJudged : List PropLine → Text → KmsCall → KmsReply → Type 0
IsJudged lines user c answer = denial_in answer ≡ denied_by (verdict lines user c)
