-- What a pass has got once it has served a batch.
use Rattle.std.specs.Prelude.{◌≤◌, ℕ, length}
use Rattle.std.proofs.Common.{inl, inr, refl, sym, subst}
use Rattle.hk_base.specs.Disk.{DiskState}
use Rattle.reenc_walk.specs.declared.sent.BatchNote.{BatchNote}
use Rattle.reenc_update.specs.Replies.{ReplyState}
use Rattle.kms_cell.specs.Entries.{KmsKnown}
use Rattle.name_history.specs.Served.{GotForBatch}
use Rattle.name_history.proofs.GotLemmas.{got_by_call}
use Rattle.turns.specs.Turns.{ServesTurn}

module _ {D W : Type 0} (state : D → DiskState) (to_come : W → ℕ → ℕ) where
  -- the pass has got the reply to the call for a batch, or there was no memory for the call
  pub got_by_serving : (front : ℕ) (v w : KmsKnown D W) (batch : BatchNote) (result : ReplyState) → front ≤ length v.seen → ServesTurn state to_come v batch result w → GotForBatch front result w
  got_by_serving front v w batch result few (inl served) =
      subst (λ (x : ReplyState). GotForBatch front x w) (sym served.result_is) (inr (served.reply, refl, got_by_call state to_come front v w _ served.reply few served.makes))
  got_by_serving front v w batch result few (inr lacks) = subst (λ (x : ReplyState). GotForBatch front x w) (sym lacks.result_is) (inl refl)
