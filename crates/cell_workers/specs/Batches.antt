-- What a pass that was lent for a batch has called, and what a delivery shows of it.
use Rattle.std.specs.Prelude.{◌≡◌, ◌⊎◌, ℕ, false, List, [], ◌∷◌, ◌++◌, length}
use Rattle.kms_calls.specs.declared.calls.KmsReply.{KmsReply}
use Rattle.name_calls.specs.declared.paths.NPath.{NPath}
use Rattle.reenc_walk.specs.declared.sent.BatchNote.{BatchNote}
use Rattle.reenc_update.specs.Replies.{ReplyState}
use Rattle.batch_calls.specs.Batches.{reply_for}
use Rattle.hist_cell.specs.History.{Splits, own}
use Rattle.kms_cell.specs.Entries.{KmsEntry, KmsKnown}
use Rattle.name_history.specs.Entries.{NameEntry}
use Rattle.name_history.specs.Served.{Got, IsUnserved, batch_act}
use Rattle.turns.specs.Turns.{is_temporary}

-- a batch of the zone at a path, with the front of the walk that gave it
pub record BatchState : Type 0 where
  pub zone : NPath
  pub note : BatchNote
  pub front : ℕ

module _ {D W : Type 0} where
  -- A pass as a walk lent it: it was split from another one, and has made no call. The front is how many entries it has seen.
  pub record IsLent (front : ℕ) (v : KmsKnown D W) : Type 0 where
    pub kept : KmsKnown D W
    pub splits : Splits kept v
    pub front_is : front ≡ length v.seen

  -- The number made the call for the batch, after the front, and no other call, and the reply to it says what came of the batch. Or it made no
  -- call, and nothing came back.
  abbrev pub CallsForBatch : ℕ → ReplyState → ℕ → List (KmsEntry D W) → Type 0
  CallsForBatch front came by seen =
      (IsUnserved came × (own by seen ≡ []))
      ⊎ ((r : KmsReply) × (came ≡ reply_for came.note r) × Got front (batch_act came.note) r by seen × (length (own by seen) ≡ 1))

  -- The number made the call for the batch, after the front, and no other call, and the reply to it says what came of the batch. It is no refusal
  -- for the disk or for memory.
  abbrev pub AnswersFor : ℕ → ReplyState → ℕ → List (KmsEntry D W) → Type 0
  AnswersFor front came by seen =
      (r : KmsReply) × (came ≡ reply_for came.note r) × Got front (batch_act came.note) r by seen × (length (own by seen) ≡ 1) × (is_temporary r ≡ false)

  -- the pass made this call and no other, and no pass was met into it
  abbrev pub HasAnswer : ℕ → ReplyState → KmsKnown D W → Type 0
  HasAnswer front came w = (w.ended ≡ []) × AnswersFor front came w.number w.seen

  -- What came of a batch: the state of its delivery shows that the number which ended last made this call.
  abbrev pub AnswerOf : ℕ → NameEntry D W → ReplyState → Type 0
  AnswerOf front delivered came =
      (by : ℕ) × (earlier : List ℕ) × (delivered.after.keys.ended ≡ earlier ++ by ∷ []) × AnswersFor front came by delivered.after.keys.seen

  -- the pass made no other calls than these, and no pass was met into it
  abbrev pub HasServed : ℕ → ReplyState → KmsKnown D W → Type 0
  HasServed front came w = (w.ended ≡ []) × CallsForBatch front came w.number w.seen

  -- What came of a batch: the state of its delivery shows that the number which ended last made these calls.
  abbrev pub CameOf : ℕ → NameEntry D W → ReplyState → Type 0
  CameOf front delivered came =
      (by : ℕ) × (earlier : List ℕ) × (delivered.after.keys.ended ≡ earlier ++ by ∷ []) × CallsForBatch front came by delivered.after.keys.seen
