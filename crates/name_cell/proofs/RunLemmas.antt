-- After each call the namesystem runs on its disk, and after a start.
use Rattle.std.proofs.Common.{◌≡◌, ℕ, Bool, true, false, List, [], ◌∷◌, ◌++◌, ap, subst, sym, ◌∙◌}
use Rattle.std.specs.declared.result.Result.{Result}
use Rattle.hk_base.specs.Disk.{DiskState, RunOn}
use Rattle.hk_base.specs.declared.texts.Text.{Text}
use Rattle.edit_ops.specs.declared.ops.EditOp.{EditOp}
use Rattle.name_calls.specs.declared.calls.Ask.{Ask}
use Rattle.name_calls.specs.declared.calls.AskNote.{AskNote}
use Rattle.name_calls.specs.declared.calls.NameRefusal.{NameRefusal}
use Rattle.name_calls.specs.declared.status.Delivered.{Delivered}
use Rattle.reenc_update.specs.Replies.{ReplyState}
use Rattle.name_store.specs.Table.{next_opening}
use Rattle.name_core.specs.Asks.{Asks}
use Rattle.name_core.specs.Service.{Logs, Starts}
use Rattle.name_core.specs.State.{RunningNames, names_of}
use Rattle.name_core.specs.Updates.{deliver_deed, ignore_deed}
use Rattle.name_core.specs.Updating.{UpdateActs}
use Rattle.name_history.specs.Fronts.{has_front}
use Rattle.name_history.specs.Steps.{DeliverSteps, front_deed}
use Rattle.name_history.specs.Views.{NameView, NamesRunOn}
use Rattle.reenc_walk.specs.declared.sent.BatchNote.{BatchNote}
use Rattle.name_core.proofs.Layers.{stands_after_ask}

pub runs_after_start : (batch : ℕ) (old new : DiskState) (r : RunningNames) → Starts batch old new r → RunOn 1 old new → NamesRunOn new r
runs_after_start batch old new r starts run tells = let found = starts.log (sym run.tells ∙ tells) in (found.0 ++ next_opening starts.found ∷ [], found.3)

pub runs_after_logs : (old new : DiskState) (r r' : RunningNames) (own : Bool → EditOp → Type 0) (logged : List EditOp) → Logs old new r r' own logged → NamesRunOn old r → NamesRunOn new r'
runs_after_logs old new r r' own logged l runs tells = (let was = sym l.run.tells ∙ tells in let ops = runs was in (ops.0 ++ logged, l.stands was ops.0 ops.1))

pub runs_after_ask : (d : DiskState) (r r' : RunningNames) (user : Text) (a : Ask) (answer : Result AskNote NameRefusal) → r'.store ≡ r.store → Asks (names_of r) user a answer (names_of r')
    → NamesRunOn d r → NamesRunOn d r'
runs_after_ask d r r' user a answer store asks runs tells = let ops = runs tells in (ops.0, stands_after_ask d r r' user a answer ops.0 asks store ops.1)

-- a delivery is done if its batch has the front, and else ignored

module _ {D W : Type 0} (state : D → DiskState) (v v' : NameView D W) (front : ℕ) (reply : ReplyState) (note : BatchNote) (found : Bool) (answer : Result Delivered NameRefusal) where
  delivers_by : (b : Bool) → note ≡ reply.note → found ≡ b → found ≡ has_front v.fronts note front → UpdateActs (state v.disk) (state v'.disk) v.names (front_deed b reply) answer v'.names → v'.fronts ≡ v.fronts
      → DeliverSteps state v front reply answer v'
  delivers_by b is found_is has acts same = record {
    acts = subst (λ (b : Bool). UpdateActs (state v.disk) (state v'.disk) v.names (front_deed b reply) answer v'.names) (sym found_is ∙ (has ∙ ap (λ (n : BatchNote). has_front v.fronts n front) is)) acts;
    fronts = same;
  }

  pub delivers : note ≡ reply.note → found ≡ true → found ≡ has_front v.fronts note front → UpdateActs (state v.disk) (state v'.disk) v.names (deliver_deed reply) answer v'.names → v'.fronts ≡ v.fronts
      → DeliverSteps state v front reply answer v'
  delivers is found_is has acts same = delivers_by true is found_is has acts same

  pub ignores : (again : BatchNote) → again ≡ reply.note → note ≡ reply.note → found ≡ false → found ≡ has_front v.fronts note front → UpdateActs (state v.disk) (state v'.disk) v.names (ignore_deed again) answer v'.names
      → v'.fronts ≡ v.fronts → DeliverSteps state v front reply answer v'
  ignores again again_is is found_is has acts same =
      delivers_by false is found_is has (subst (λ (n : BatchNote). UpdateActs (state v.disk) (state v'.disk) v.names (ignore_deed n) answer v'.names) again_is acts) same
