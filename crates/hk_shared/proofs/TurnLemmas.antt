-- The call for a batch was answered for the batch, since its entry is a step.
use Rattle.std.specs.Prelude.{◌≡◌, ℕ, true, false}
use Rattle.std.proofs.Common.{inl, refl, ap, sym, ◌∙◌, subst}
use Rattle.hk_base.specs.Disk.{DiskState, Tells}
use Rattle.hk_base.specs.Faults.{Rose}
use Rattle.hk_base.specs.declared.texts.Text.{Text}
use Rattle.kms_acls.specs.Verdict.{verdict}
use Rattle.kms_calls.specs.declared.calls.KmsCall.{KmsCall}
use Rattle.kms_calls.specs.declared.calls.KmsReply.{KmsReply}
use Rattle.kms_calls.specs.declared.calls.KmsReply.TheVariants as answer
use Rattle.kms_core.specs.State.{service_of}
use Rattle.kms_core.specs.Users.{running}
use Rattle.reenc_walk.specs.declared.sent.BatchNote.{BatchNote}
use Rattle.reenc_update.specs.Replies.{ReplyState}
use Rattle.batch_calls.specs.Batches.{ReplyFits, batch_call, reply_for}
use Rattle.batch_calls.proofs.FitLemmas.{batch-fits}
use Rattle.name_core.specs.Calls.{superuser}
use Rattle.kms_cell.specs.Entries.{KmsKnown, Makes}
use Rattle.kms_cell.specs.Steps.{CallSteps}
use Rattle.kms_cell.specs.Views.{KmsView}
use Rattle.kms_cell.specs.declared.acts.KmsAct.TheVariants as act
use Rattle.kms_cell.specs.declared.acts.KmsActed.TheVariants as acted
use Rattle.kms_cell.proofs.ReplyLemmas.{made_step}
use Rattle.turns.specs.Turns.{AnswersBatch, ServesTurn, is_temporary, unserved}

module _ {D W : Type 0} (state : D → DiskState) (to_come : W → ℕ → ℕ) where
  step_fits : (s t : KmsView D W) (user : Text) (batch : BatchNote) (reply : KmsReply) → CallSteps state to_come s user (batch_call batch) reply t → ReplyFits batch reply
  step_fits s t user batch reply step =
      let lines = step.has_lines.0 in
      let acts = step.acts lines step.has_lines.1 in
      batch-fits (service_of (running s.kms)) (to_come s.words) step.now batch (Rose (state s.disk).faults (state t.disk).faults) (Tells (state s.disk)) reply acts.drawn acts.logged (service_of (running t.kms))
      (verdict lines user (batch_call batch)) acts.serves

  batch_is_answered : (v w : KmsKnown D W) (user : Text) (batch : BatchNote) (reply : KmsReply) → Makes state to_come v (act.Call user (batch_call batch)) (acted.Call reply) w → ReplyFits batch reply
  batch_is_answered v w user batch reply a =
      let made = made_step state to_come v w (act.Call user (batch_call batch)) (acted.Call reply) a in
      step_fits made.0 made.1 user batch reply made.2.does

  made_for : (v w : KmsKnown D W) (user : Text) (batch : BatchNote) (call : KmsCall) (reply : KmsReply) → user ≡ superuser → call ≡ batch_call batch
      → Makes state to_come v (act.Call user call) (acted.Call reply) w → Makes state to_come v (act.Call superuser (batch_call batch)) (acted.Call reply) w
  made_for v w user batch call reply user_is call_is a =
      subst (λ (u : Text). Makes state to_come v (act.Call u (batch_call batch)) (acted.Call reply) w) user_is
      (subst (λ (c : KmsCall). Makes state to_come v (act.Call user c) (acted.Call reply) w) call_is a)

  pub batch_is_served : (v w : KmsKnown D W) (user : Text) (batch : BatchNote) (call : KmsCall) (reply : KmsReply) (result : ReplyState) → user ≡ superuser → call ≡ batch_call batch
      → Makes state to_come v (act.Call user call) (acted.Call reply) w → is_temporary reply ≡ false → (ReplyFits batch reply → result ≡ reply_for batch reply) → AnswersBatch state to_come v batch result w
  batch_is_served v w user batch call reply result user_is call_is a lasting result_is =
      let made = made_for v w user batch call reply user_is call_is a in
      record { reply = reply; makes = made; result_is = result_is (batch_is_answered v w superuser batch reply made); lasting = lasting }

  -- a refusal that is temporary is one
  is_refusal : (batch : BatchNote) (reply : KmsReply) → is_temporary reply ≡ true → unserved batch ≡ reply_for batch reply
  is_refusal batch (answer.Refused why) is = refl
  is_refusal batch _ is = absurd cc

  pub batch_is_left : (v w : KmsKnown D W) (user : Text) (batch : BatchNote) (call : KmsCall) (reply : KmsReply) → user ≡ superuser → call ≡ batch_call batch
      → Makes state to_come v (act.Call user call) (acted.Call reply) w → is_temporary reply ≡ true → ServesTurn state to_come v batch (unserved batch) w
  batch_is_left v w user batch call reply user_is call_is a is =
      inl (record { reply = reply; makes = made_for v w user batch call reply user_is call_is a; result_is = is_refusal batch reply is })

  pub answer_serves : (v w : KmsKnown D W) (batch : BatchNote) (result : ReplyState) → AnswersBatch state to_come v batch result w → ServesTurn state to_come v batch result w
  answer_serves v w batch result a = inl (record { reply = a.reply; makes = a.makes; result_is = a.result_is })

  -- a batch that was given back is as one that is refused
  pub left_serves : (v w : KmsKnown D W) (batch left : BatchNote) (result : ReplyState) → (left ≡ batch) × ServesTurn state to_come v batch (unserved batch) w → result ≡ unserved left
      → ServesTurn state to_come v batch result w
  left_serves v w batch left result (same, turn) is = subst (λ (r : ReplyState). ServesTurn state to_come v batch r w) (sym (is ∙ ap unserved same)) turn
