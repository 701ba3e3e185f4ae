-- Each call that an event makes is judged by the access control lists.
use Rattle.std.proofs.Common.{◌≡◌, inl, inr, ℕ, List, Option, None, Some, refl, ap, sym, ◌∙◌, subst}
use Rattle.std.specs.Option.{option_map}
use Rattle.hk_events.specs.declared.event.Event.{Event}
use Rattle.hk_events.specs.declared.event.Event.TheVariants as event
use Rattle.hk_events.specs.declared.event.Line.{Line}
use Rattle.hk_events.specs.declared.event.Line.TheVariants as line
use Rattle.key_rows.specs.declared.rows.KeyCommand.{KeyCommand}
use Rattle.kms_calls.specs.declared.calls.KmsCall.{KmsCall}
use Rattle.kms_calls.specs.declared.calls.KmsCall.TheVariants as call
use Rattle.kms_calls.specs.declared.calls.KmsRefusal.TheVariants as refusal
use Rattle.kms_calls.specs.declared.calls.KmsReply.{KmsReply}
use Rattle.kms_calls.specs.declared.calls.KmsReply.TheVariants as reply
use Rattle.kms_core.specs.State.{ServiceState}
use Rattle.name_calls.specs.declared.calls.AskNote.{AskNote}
use Rattle.name_calls.specs.declared.calls.Want.{Want}
use Rattle.name_calls.specs.declared.calls.Want.TheVariants as want
use Rattle.name_core.specs.Calls.{superuser}
use Rattle.prop_text.specs.declared.lines.PropLine.{PropLine}
use Rattle.reenc_walk.specs.declared.sent.BatchNote.{BatchNote}
use Rattle.world_run.specs.Acknowledged.{Acknowledged}
use Rattle.world_run.specs.Batches.{batch_call}
use Rattle.world_run.specs.Step.{DrawActs, ServeActs, Step, WantActs}
use Rattle.world_run.specs.World.{WorldState, numbered}
use Rattle.world_run.specs.Verdicts.{IsJudged}
use Rattle.world_run.proofs.VerdictLemmas.{judged}
use Rattle.hk_runs.specs.Headline.{HasVerdict, IsJudgedFor, noted_call, wanted_call}

-- the reply that is kept, if one is
abbrev kept_in : Line → Option KmsReply
kept_in (line.Replied number answer) = answer
kept_in _ = None

same_answer : (a b : KmsReply) → Some a ≡ Some b → a ≡ b
same_answer a b is = cc is

module _ (lines : List PropLine) (w : WorldState) (words : ℕ → ℕ) (now : ℕ) (fault tells : Type 0) (outcome : Line) (drawn : ℕ) (logged : Acknowledged) (w' : WorldState) where
  want_judged : (s : ServiceState) (given : Option KmsReply) (taken : ℕ) (commands : List KeyCommand) (s' : ServiceState) (asked : Want) (answer : KmsReply) → WantActs lines s words now asked fault tells given taken commands s' → given ≡ Some answer
      → (c : KmsCall) × (wanted_call asked ≡ Some c) × IsJudged lines superuser c answer
  want_judged s given taken commands s' want.Nothing answer none is = let no : None ≡ Some answer = sym none.reply_is ∙ is in absurd cc
  want_judged s given taken commands s' (want.Generate name) answer made is = (
    call.Generate name 1,
    refl,
    subst (λ (r : KmsReply). IsJudged lines superuser (call.Generate name 1) r) (same_answer made.reply answer (sym made.reply_is ∙ is))
        (judged lines superuser s words now (call.Generate name 1) fault tells made.reply taken commands s' made.serves),
  )
  want_judged s given taken commands s' (want.Metadata name) answer made is = (
    call.Metadata name,
    refl,
    subst (λ (r : KmsReply). IsJudged lines superuser (call.Metadata name) r) (same_answer made.reply answer (sym made.reply_is ∙ is))
        (judged lines superuser s words now (call.Metadata name) fault tells made.reply taken commands s' made.serves),
  )

  draw_judged : (note : Option AskNote) → DrawActs lines w words now note fault tells outcome drawn logged w' → IsJudgedFor lines (noted_call note) outcome
  draw_judged None unknown number answer is = let no : line.Unknown ≡ line.Replied number (Some answer) = sym unknown.reply_is ∙ is in absurd cc
  draw_judged (Some note) (inl d) number answer is = want_judged w.keys d.reply drawn d.commands d.keys note.want answer d.acts (ap kept_in (sym d.reply_is ∙ is))
  draw_judged (Some note) (inr lacks) number answer is = let no : line.Kms (reply.Refused refusal.NoMemory) ≡ line.Replied number (Some answer) = sym lacks.reply_is ∙ is in absurd cc

  serve_judged : (batch : Option BatchNote) → ServeActs lines w words now batch fault tells outcome drawn logged w' → IsJudgedFor lines (option_map batch_call batch) outcome
  serve_judged None unknown number answer is = let no : line.Unknown ≡ line.Replied number (Some answer) = sym unknown.reply_is ∙ is in absurd cc
  serve_judged (Some batch) (inl s) number answer is = (
    batch_call batch,
    refl,
    subst (λ (r : KmsReply). IsJudged lines superuser (batch_call batch) r) (same_answer s.reply answer (ap kept_in (sym s.reply_is ∙ is)))
        (judged lines superuser w.keys words now (batch_call batch) fault tells s.reply drawn s.commands s.keys s.serves),
  )
  serve_judged (Some batch) (inr lacks) number answer is = let no : line.Kms (reply.Refused refusal.NoMemory) ≡ line.Replied number (Some answer) = sym lacks.reply_is ∙ is in absurd cc

  -- the calls of an event are judged
  pub step_judged : (e : Event) → Step lines w words now e fault tells outcome drawn logged w' → HasVerdict lines w e outcome
  step_judged (event.Kms user c) k = (k.reply, k.reply_is, judged lines user w.keys words now c fault tells k.reply drawn k.commands k.keys k.serves)
  step_judged event.Ticket step = tt
  step_judged (event.Deposit number) step = tt
  step_judged event.RestartKms step = tt
  step_judged event.RestartName step = tt
  step_judged (event.Mkdir user path) step = tt
  step_judged (event.Delete user path recursive) step = tt
  step_judged (event.Rename user path to) step = tt
  step_judged (event.Info user path) step = tt
  step_judged (event.List user path) step = tt
  step_judged (event.Allow user path) step = tt
  step_judged (event.Disallow user path) step = tt
  step_judged (event.Snap user path name) step = tt
  step_judged (event.Unsnap user path name) step = tt
  step_judged (event.Cancel user path) step = tt
  step_judged (event.Status user path) step = tt
  step_judged (event.Zones user) step = tt
  step_judged (event.AskCreate user path) step = tt
  step_judged (event.AskZone user path key) step = tt
  step_judged (event.AskSubmit user path) step = tt
  step_judged (event.Draw number) step = draw_judged (numbered w.kept.notes number) step
  step_judged (event.Finish number) step = tt
  step_judged (event.Walk path) step = tt
  step_judged (event.Serve number) step = serve_judged (numbered w.kept.batches number) step
  step_judged (event.Deliver number) step = tt
  step_judged (event.GiveUp number) step = tt
