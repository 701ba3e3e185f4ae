-- Batches of files that a walk gives, and the replies that are kept for them.
use Rattle.std.specs.Prelude.{ℕ, List, [], ◌∷◌, ◌++◌, length, Option, None, Some, Result, Ok, Err}
use Rattle.name_calls.specs.declared.calls.NameRefusal.{NameRefusal}
use Rattle.name_core.specs.declared.walks.Walked.{Walked}
use Rattle.name_core.specs.declared.walks.Walked.TheVariants as walk
use Rattle.reenc_walk.specs.declared.sent.BatchNote.{BatchNote}
use Rattle.hk_events.specs.declared.event.Line.{Line}
use Rattle.hk_events.specs.declared.event.Line.TheVariants as line
use Rattle.reenc_update.specs.Replies.{ReplyState}
use Rattle.world_run.specs.declared.kept.KeptReply.{KeptReply}
use Rattle.world_run.specs.declared.kept.KeptReply.TheVariants.{ToAsk, ToBatch}
use Rattle.world_run.specs.World.{WorldState, with_batch}
pub use Rattle.batch_calls.specs.Batches.{ReplyFits, batch_call, key_of_sent, raw_keys, reply_for, result_of}

-- the answer of a walk: a batch is kept

abbrev pub walk_line : Result Walked NameRefusal → ℕ → Line
walk_line (Ok (walk.Batch batch)) number = line.Batch number (length batch.sent)
walk_line (Ok (walk.NoneLeft outstanding)) number = line.NoneLeft outstanding
walk_line (Ok walk.Completed) number = line.Completed
walk_line (Err why) number = line.Refused why

abbrev pub batches_after : Walked → List BatchNote → List BatchNote
batches_after (walk.Batch batch) batches = batches ++ batch ∷ []
batches_after (walk.NoneLeft outstanding) batches = batches
batches_after walk.Completed batches = batches

abbrev pub after_walk : Result Walked NameRefusal → WorldState → WorldState
after_walk (Ok (walk.Batch batch)) w = with_batch batch w
after_walk (Ok (walk.NoneLeft outstanding)) w = w
after_walk (Ok walk.Completed) w = w
after_walk (Err why) w = w

-- the batch and what a kept reply means for it, if the reply is to the call for a batch
abbrev pub batch_reply_of : KeptReply → Option ReplyState
batch_reply_of (ToAsk id answer) = None
batch_reply_of (ToBatch reply) = Some reply
