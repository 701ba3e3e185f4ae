use Rattle.std.proofs.Common.{sym, ◌∙◌}
use Rattle.std.proofs.lemmas.List.Splits.{slice_split_none}
use Rattle.replay_text.specs.Events.{is_comma}
use Rattle.replay_text.proofs.FieldLemmas.{split_at}
use Rattle.replay_text.proofs.lists.cut_at_comma.Goals as goal

pub returns-in-None-clause-cut : goal.returns-in-None-clause-cut
returns-in-None-clause-cut c = slice_split_none is_comma c.args.bytes.now c.in-None.ensures.none

pub returns-in-Some-clause-cut : goal.returns-in-Some-clause-cut
returns-in-Some-clause-cut c = split_at is_comma c.args.bytes.now c.in-Some.place (sym c.comma_in.ensures.first ∙ c.in-Some.is)
