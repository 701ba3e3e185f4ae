-- No entry of the keys is used twice, and each reply that is used is that of the call that was wanted.
use Rattle.std.proofs.Common.{◌≡◌, ℕ, [], ◌∷◌, ◌++◌, Option, Some, None, refl, sym, ap, subst, ◌∙◌}
use Rattle.hk_base.specs.Disk.{DiskState}
use Rattle.kms_calls.specs.declared.calls.KmsReply.{KmsReply}
use Rattle.name_calls.specs.declared.calls.Answered.{Answered}
use Rattle.name_core.specs.Asks.{open_ask}
use Rattle.name_core.specs.declared.asks.OpenAsk.{OpenAsk}
use Rattle.hist_cell.specs.History.{IsIn, own, state_after}
use Rattle.kms_cell.specs.declared.acts.KmsAct.{KmsAct}
use Rattle.name_history.specs.Asked.{NameAllows}
use Rattle.name_history.specs.Entries.{NameEntry}
use Rattle.name_history.specs.Served.{IfWanted, Serves, ServesAsk, act_wanted}
use Rattle.name_history.specs.Steps.{NameKeeps, NameSteps}
use Rattle.name_history.specs.Views.{NameView}
use Rattle.name_history.specs.declared.acts.NameAct.{NameAct}
use Rattle.thread_laws.specs.Serving.{EntriesServeOnce, FinishIsServed, FinishesAreServed, Uses}
use Rattle.thread_laws.proofs.HistoryLemmas.{ended-grows, legal-first, legal-second, state_after-both, step-at}

module _ {D W : Type 0} where
  -- the entry that a pass has got is one that is used
  abbrev pub uses-served : (v : NameView D W) (e : NameEntry D W) (front : ℕ) (q : KmsAct) (r : KmsReply) → (s : Serves front q r v.keys e.after.keys) → Uses v e s.got.entry
  uses-served v e front q r s = record {
    before = s.got.before;
    after = s.got.after;
    seen_is = s.got.seen_is;
    last = subst (λ (k : ℕ). own k s.got.after ≡ []) (sym s.got.by_is) s.got.last;
    ended = subst (λ (k : ℕ). IsIn k e.after.keys.ended) (sym s.got.by_is) s.ended;
    new = λ i. s.new (subst (λ (k : ℕ). IsIn k v.keys.ended) s.got.by_is i);
  }

  finish-served : (v : NameView D W) (e : NameEntry D W) (ask : OpenAsk) (r : KmsReply) (o : Option KmsAct) → act_wanted ask.want ≡ o
      → IfWanted (λ q r. Serves 0 q r v.keys e.after.keys) o (Some r) → FinishIsServed v e ask r
  finish-served v e ask r None is s = absurd s
  finish-served v e ask r (Some q) is s = record { entry = s.got.entry; uses = uses-served v e 0 q r s; call_is = is ∙ ap Some (sym s.got.call_is); reply_is = s.got.reply_is }

  finish-uses : (v : NameView D W) (e : NameEntry D W) (answered : Answered) (ask : OpenAsk) (r : KmsReply) → open_ask v.names.asks answered.id ≡ Some ask → answered.reply ≡ Some r
      → ServesAsk (open_ask v.names.asks answered.id) answered.reply v.keys e.after.keys → FinishIsServed v e ask r
  finish-uses v e answered ask r was_open reply s =
      finish-served v e ask r (act_wanted ask.want) refl
      (subst (λ (p : Option KmsReply). ServesAsk (Some ask) p v.keys e.after.keys) reply (subst (λ (o : Option OpenAsk). ServesAsk o answered.reply v.keys e.after.keys) was_open s))

module _ {D W : Type 0} (state : D → DiskState) (to_come : W → ℕ → ℕ) where
  pub entries_serve_once : EntriesServeOnce state to_come
  entries_serve_once v before between after e f x y legal used again same =
      let from : _ = legal-second (NameSteps {D = D} {W = W} state to_come) (NameAllows {S = NameView D W}) [] before (e ∷ (between ++ f ∷ after)) v legal in
      let later = ended-grows state to_come (before ++ e ∷ []) between e.after x.by
      (legal-first (NameSteps {D = D} {W = W} state to_come) (NameAllows {S = NameView D W}) (before ++ e ∷ []) between (f ∷ after) e.after from.2) used.ended in
      again.new (subst (λ (s : NameView D W). IsIn y.by s.keys.ended) (sym (state_after-both v before (e ∷ between))) (subst (λ (k : ℕ). IsIn k (state_after e.after between).keys.ended) same later))

  pub finishes_are_served : FinishesAreServed state to_come
  finishes_are_served v before after e answered ask reply legal call was_open given =
      finish-uses (state_after v before) e answered ask reply was_open given
      (subst (λ (q : NameAct). NameKeeps (state_after v before) q e.after) call (step-at state to_come before after v e legal).keeps)
