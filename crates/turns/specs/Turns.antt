-- The turns of the workers of a re-encryption: each is one entry, or none.
use Rattle.std.specs.Prelude.{◌≡◌, ◌⊎◌, ℕ, Bool, true, false, length, Result}
use Rattle.hk_base.specs.Disk.{DiskState}
use Rattle.kms_calls.specs.declared.calls.KmsRefusal.TheVariants as refusal
use Rattle.kms_calls.specs.declared.calls.KmsReply.{KmsReply}
use Rattle.kms_calls.specs.declared.calls.KmsReply.TheVariants as reply
use Rattle.name_calls.specs.declared.calls.NameRefusal.{NameRefusal}
use Rattle.name_calls.specs.declared.paths.NPath.{NPath}
use Rattle.reenc_walk.specs.declared.sent.BatchNote.{BatchNote}
use Rattle.reenc_update.specs.Replies.{ReplyState}
use Rattle.batch_calls.specs.Batches.{batch_call, reply_for}
use Rattle.name_core.specs.Calls.{superuser}
use Rattle.name_core.specs.declared.walks.Walked.{Walked}
use Rattle.kms_cell.specs.Entries as keys
use Rattle.kms_cell.specs.declared.acts.KmsAct.TheVariants as key_act
use Rattle.kms_cell.specs.declared.acts.KmsActed.TheVariants as key_acted
use Rattle.name_history.specs.Entries as names
use Rattle.name_history.specs.declared.acts.NameAct.TheVariants as act
use Rattle.name_history.specs.declared.acts.NameActed.TheVariants as acted

-- A turn of a walk: the pass made one entry, a walk through the zone, which got this answer. A pass of the keys was split from the kept one,
-- and the front is how many entries it has seen.
pub record LendsTurn {D W : Type 0} (state : D → DiskState) (to_come : W → ℕ → ℕ) (v : names.NameKnown D W) (zone : NPath) (answer : Result Walked NameRefusal) (front : ℕ) (w : names.NameKnown D W) (lent : keys.KmsKnown D W) : Type 0 where
  pub makes : names.MakesLending state to_come v (act.Walk zone) (acted.Walk answer) w lent
  pub front_is : front ≡ length lent.seen

-- the call for the batch, which the superuser made, and what its reply means for the batch
pub record ServesBatch {D W : Type 0} (state : D → DiskState) (to_come : W → ℕ → ℕ) (v : keys.KmsKnown D W) (batch : BatchNote) (result : ReplyState) (w : keys.KmsKnown D W) : Type 0 where
  pub reply : KmsReply
  pub makes : keys.Makes state to_come v (key_act.Call superuser (batch_call batch)) (key_acted.Call reply) w
  pub result_is : result ≡ reply_for batch reply

-- there was no memory for the call: nothing was called, and the batch is refused for want of memory
pub record LacksMemoryForBatch {D W : Type 0} (v : keys.KmsKnown D W) (batch : BatchNote) (result : ReplyState) (w : keys.KmsKnown D W) : Type 0 where
  pub same : w ≡ v
  pub result_is : result ≡ reply_for batch (reply.Refused refusal.NoMemory)

-- A turn of a batch: the pass made one entry, the call for the batch, and the result is what its reply means for the batch. Or there was no
-- memory for the call, and the pass made no entry.
abbrev pub ServesTurn : {D W : Type 0} → (D → DiskState) → (W → ℕ → ℕ) → keys.KmsKnown D W → BatchNote → ReplyState → keys.KmsKnown D W → Type 0
ServesTurn state to_come v batch result w = ServesBatch state to_come v batch result w ⊎ LacksMemoryForBatch v batch result w

-- the refusal is for the disk or for memory, so the same call may be answered later
abbrev pub is_temporary : KmsReply → Bool
is_temporary (reply.Refused refusal.NoMemory) = true
is_temporary (reply.Refused refusal.StoreFault) = true
is_temporary _ = false

-- what a batch comes to without a reply
abbrev pub unserved : BatchNote → ReplyState
unserved batch = reply_for batch (reply.Refused refusal.NoMemory)

-- The call for the batch, which the superuser made, and what its reply means for the batch. The reply is no refusal for the disk or for memory.
pub record AnswersBatch {D W : Type 0} (state : D → DiskState) (to_come : W → ℕ → ℕ) (v : keys.KmsKnown D W) (batch : BatchNote) (result : ReplyState) (w : keys.KmsKnown D W) : Type 0 where
  pub reply : KmsReply
  pub makes : keys.Makes state to_come v (key_act.Call superuser (batch_call batch)) (key_acted.Call reply) w
  pub result_is : result ≡ reply_for batch reply
  pub lasting : is_temporary reply ≡ false
