-- The call of the key management service for a batch of files, and what its reply means for the batch.
use Rattle.std.specs.Prelude.{List, [], ◌∷◌, map}
use Rattle.hk_base.specs.declared.names.KeyName.{KeyName}
use Rattle.kms_calls.specs.declared.calls.KmsCall.{KmsCall}
use Rattle.kms_calls.specs.declared.calls.KmsCall.TheVariants as key_call
use Rattle.kms_calls.specs.declared.calls.KmsReply.{KmsReply}
use Rattle.kms_calls.specs.declared.calls.KmsReply.TheVariants as key_reply
use Rattle.kms_calls.specs.declared.calls.RawEdek.{RawEdek}
use Rattle.kms_core.specs.Laws.{sent_of}
use Rattle.reenc_walk.specs.declared.sent.BatchNote.{BatchNote}
use Rattle.reenc_walk.specs.declared.sent.Sent.{Sent}
use Rattle.reenc_update.specs.declared.reply.BatchResult.{BatchResult}
use Rattle.reenc_update.specs.declared.reply.BatchResult.TheVariants as batch_result
use Rattle.reenc_update.specs.Replies.{FitsSent, ReplyState}

-- the call for a batch: all of its encrypted keys, under the name of the key that sealed the first of them

abbrev pub key_of_sent : List Sent → KeyName
key_of_sent [] = []
key_of_sent (x ∷ xs) = x.edek.version.key

abbrev pub raw_keys : List Sent → List RawEdek
raw_keys sent = map (λ (x : Sent). sent_of x.edek) sent

abbrev pub batch_call : BatchNote → KmsCall
batch_call batch = key_call.Batch (key_of_sent batch.sent) (raw_keys batch.sent)

-- what the reply means for the batch; a Batch call has no other replies
abbrev pub result_of : KmsReply → BatchResult
result_of (key_reply.Ready edeks) = batch_result.Ready edeks
result_of _ = batch_result.Refused

-- the reply is to the call for the batch
abbrev pub reply_for : BatchNote → KmsReply → ReplyState
reply_for batch reply = record { note = batch; result = result_of reply }

-- the reply has one encrypted key for each file of the batch, of the same key, or it is a refusal
abbrev pub ReplyFits : BatchNote → KmsReply → Type 0
ReplyFits batch reply = FitsSent batch.sent (result_of reply)
