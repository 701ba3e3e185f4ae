use Rattle.std.proofs.Common.{sym, ◌∙◌}
use Rattle.std.proofs.lemmas.List.Splits.{slice_split_none}
use Rattle.replay_text.specs.Events.{is_colon}
use Rattle.replay_text.proofs.FieldLemmas.{split_at}
use Rattle.replay_text.proofs.lists.cut_at_colon.Goals as goal

pub returns-in-None : goal.returns-in-None
returns-in-None c = slice_split_none is_colon c.args.bytes.now c.in-None.ensures.none

pub returns-in-Some : goal.returns-in-Some
returns-in-Some c = split_at is_colon c.args.bytes.now c.in-Some.place (sym c.colon_in.ensures.first ∙ c.in-Some.is)
