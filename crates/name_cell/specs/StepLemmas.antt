-- A call that is answered is a step, alone or once a pass was met into the kept one.
use Rattle.std.specs.Prelude.{◌≡◌, ℕ, [], ◌∷◌, Option, Some, None}
use Rattle.std.proofs.Common.{inl, inr, refl, sym, ap, subst, append-nil}
use Rattle.hk_base.specs.Disk.{DiskState}
use Rattle.kms_calls.specs.declared.calls.KmsReply.{KmsReply}
use Rattle.name_calls.specs.declared.calls.Want.{Want}
use Rattle.name_calls.specs.declared.calls.Want.TheVariants as want
use Rattle.name_core.specs.declared.asks.OpenAsk.{OpenAsk}
use Rattle.name_core.specs.Asks.{open_ask}
use Rattle.name_core.specs.State.{IsNames, RunningNames, service_of}
use Rattle.reenc_update.specs.Replies.{ReplyState}
use Rattle.hist_cell.specs.History.{IsIn, Meets}
use Rattle.kms_cell.specs.Entries.{KmsKnown}
use Rattle.kms_cell.specs.declared.acts.KmsAct.{KmsAct}
use Rattle.name_history.specs.Asked.{AnswersAsk, AnswersWant, IsAlone}
use Rattle.name_history.specs.Served.{Got, GotForAsk, GotForBatch, IfWanted, Serves, ServesAsk, ServesBatch, act_wanted}
use Rattle.name_history.specs.Steps.{GrowsPass, NameAnswers, NameCan, NameDoes, NameKeeps, NameSteps, NameSuits, TakesPass}
use Rattle.name_history.specs.Views.{NameView}
use Rattle.name_history.specs.declared.acts.NameAct.{NameAct}
use Rattle.name_history.specs.declared.acts.NameAct.TheVariants as act
use Rattle.name_history.specs.declared.acts.NameActed.{NameActed}
use Rattle.name_history.specs.declared.acts.NameActed.TheVariants as acted
use Rattle.name_history.proofs.GotLemmas.{in_left, serves_met}

module _ {D W : Type 0} where
  -- ---- what the kept pass shows

  -- of a finish without a reply: its ask wanted nothing
  alone-wanted : (w : Want) (s t : KmsKnown D W) → AnswersWant w None → IfWanted (λ (q : KmsAct) (r : KmsReply). Serves 0 q r s t) (act_wanted w) None
  alone-wanted want.Nothing s t a = tt
  alone-wanted (want.Generate name) s t a = absurd a
  alone-wanted (want.Metadata name) s t a = absurd a

  alone-finish : (o : Option OpenAsk) (reply : Option KmsReply) (s t : KmsKnown D W) → AnswersAsk o reply → reply ≡ None → ServesAsk o reply s t
  alone-finish None reply s t a is = tt
  alone-finish (Some q) None s t a is = alone-wanted q.want s t a
  alone-finish (Some q) (Some r) s t a is = absurd cc

  alone-keeps : (v v' : NameView D W) (q : NameAct) → NameCan v q → IsAlone q → v'.keys ≡ v.keys → NameKeeps v q v'
  alone-keeps v v' (act.Call user c) can alone same = same
  alone-keeps v v' (act.Ask user a) can alone same = same
  alone-keeps v v' (act.Finish answered) can alone same = alone-finish (open_ask v.names.asks answered.id) answered.reply v.keys v'.keys can alone
  alone-keeps v v' (act.Walk zone) can alone same = same
  alone-keeps v v' (act.Deliver front reply) can alone same = absurd alone

  -- of a finish and a delivery, once a pass was met into it that has got their reply
  met-wanted : (o : Option KmsAct) (reply : Option KmsReply) (s w t : KmsKnown D W) → Meets s w t → IfWanted (λ (q : KmsAct) (r : KmsReply). Got 0 q r w.number w.seen) o reply → IfWanted (λ (q : KmsAct) (r : KmsReply). Serves 0 q r s t) o reply
  met-wanted None None s w t met got = tt
  met-wanted (Some q) (Some r) s w t met got = serves_met 0 s w t q r met got
  met-wanted None (Some r) s w t met got = absurd got
  met-wanted (Some q) None s w t met got = absurd got

  met-finish : (o : Option OpenAsk) (reply : Option KmsReply) (s w t : KmsKnown D W) → Meets s w t → GotForAsk o reply w → ServesAsk o reply s t
  met-finish None reply s w t met got = tt
  met-finish (Some a) reply s w t met got = met-wanted (act_wanted a.want) reply s w t met got

  met-batch : (front : ℕ) (reply : ReplyState) (s w t : KmsKnown D W) → Meets s w t → GotForBatch front reply w → ServesBatch front reply s t
  met-batch front reply s w t met (inl none) = inl none
  met-batch front reply s w t met (inr (r, is, got)) = inr (r, is, serves_met front s w t _ r met got)

  met-keeps : (v v' : NameView D W) (q : NameAct) (w : KmsKnown D W) → NameSuits v q w → Meets v.keys w v'.keys → NameKeeps v q v'
  met-keeps v v' (act.Call user c) w suits met = absurd suits
  met-keeps v v' (act.Ask user a) w suits met = absurd suits
  met-keeps v v' (act.Finish answered) w suits met = met-finish (open_ask v.names.asks answered.id) answered.reply v.keys w v'.keys met suits
  met-keeps v v' (act.Walk zone) w suits met = absurd suits
  met-keeps v v' (act.Deliver front reply) w suits met = met-batch front reply v.keys w v'.keys met suits

module _ {D W : Type 0} (state : D → DiskState) (to_come : W → ℕ → ℕ) where
  -- ---- the same call, before the pass was met into the kept one

  -- a finish and a delivery read nothing of the kept pass
  met-does : (v m v' : NameView D W) (w : KmsKnown D W) (q : NameAct) (r : NameActed) → NameSuits v q w → NameDoes state (record v { keys = m.keys }) q r v' → NameDoes state v q r v'
  met-does v m v' w (act.Call user c) r suits d = absurd suits
  met-does v m v' w (act.Ask user a) r suits d = absurd suits
  met-does v m v' w (act.Finish answered) (acted.Finish answer) suits d = record { acts = d.acts; fronts = d.fronts }
  met-does v m v' w (act.Walk zone) r suits d = absurd suits
  met-does v m v' w (act.Deliver front reply) (acted.Deliver answer) suits d = record { acts = d.acts; fronts = d.fronts }
  met-does v m v' w _ _ suits d = absurd d

  -- a pass that is met into the kept one stops no call
  pub still_can : (v m : NameView D W) (w : KmsKnown D W) (q : NameAct) → TakesPass state to_come v w m → NameCan v q → NameCan m q
  still_can v m w (act.Call user c) took can = tt
  still_can v m w (act.Ask user a) took can = tt
  still_can v m w (act.Finish answered) took can = subst (λ (x : NameView D W). AnswersAsk (open_ask x.names.asks answered.id) answered.reply) (sym took.same) can
  still_can v m w (act.Walk zone) took can = tt
  still_can v m w (act.Deliver front reply) took can = tt

  -- ---- steps

  pub plain_step : (v v' : NameView D W) (q : NameAct) (r : NameActed) → NameCan v q → IsAlone q → NameAnswers state to_come v q r v' → NameSteps state to_come v q r v'
  plain_step v v' q r can alone a = record {
    before = a.before;
    after = a.after;
    grows = subst (GrowsPass state to_come v.keys) (sym a.keys) (record { legal = a.legal; start = refl; begins = ([], append-nil v.keys.seen); ended = λ k i. i });
    keeps = alone-keeps v v' q can alone a.keys;
    does = a.does;
  }

  pub meeting_step : (v m v' : NameView D W) (w : KmsKnown D W) (q : NameAct) (r : NameActed) → NameSuits v q w → TakesPass state to_come v w m → NameAnswers state to_come m q r v' → NameSteps state to_come v q r v'
  meeting_step v m v' w q r suits took a = record {
    before = subst (λ (x : RunningNames). IsNames (service_of x)) (ap (λ (x : NameView D W). x.names) took.same) a.before;
    after = a.after;
    grows = subst (GrowsPass state to_come v.keys) (sym a.keys) (record {
      legal = took.legal;
      start = took.meets.start;
      begins = took.meets.this;
      ended = λ k i. subst (IsIn k) (sym took.meets.ended) (in_left k v.keys.ended (w.number ∷ w.ended) i);
    });
    keeps = met-keeps v v' q w suits (subst (Meets v.keys w) (sym a.keys) took.meets);
    does = met-does v m v' w q r suits (subst (λ (x : NameView D W). NameDoes state x q r v') took.same a.does);
  }
