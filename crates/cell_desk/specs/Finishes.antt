-- The finish of an ask.
use Rattle.std.specs.Prelude.{ℕ, Option, Result}
use Rattle.hk_base.specs.Disk.{DiskState}
use Rattle.kms_calls.specs.declared.calls.KmsReply.{KmsReply}
use Rattle.name_calls.specs.declared.calls.AskNote.{AskNote}
use Rattle.name_calls.specs.declared.calls.NameRefusal.{NameRefusal}
use Rattle.name_history.specs.Asked.{AnswersWant}
use Rattle.name_history.specs.Entries.{Makes, NameKnown}
use Rattle.name_history.specs.declared.acts.NameAct.TheVariants as act
use Rattle.name_history.specs.declared.acts.NameActed.TheVariants as acted
use Rattle.cell_desk.specs.Orders.{ShowsWanted}

-- The pass made one entry, the finish of the ask with this note. Its state shows the call that the note wants, with the reply that it was given,
-- by a pass that made no other call.
pub record FinishesAsk {D W : Type 0} (state : D → DiskState) (to_come : W → ℕ → ℕ) (v : NameKnown D W) (note : AskNote) (result : Result (Unit {0}) NameRefusal) (w : NameKnown D W) : Type 0 where
  pub given : Option KmsReply
  pub makes : Makes state to_come v (act.Finish (record { id = note.id; reply = given })) (acted.Finish result) w
  pub answers : AnswersWant note.want given
  pub shows : ShowsWanted note.want given makes.entry.after.keys
