use Rattle.name_cell.proofs.ReplyLemmas.{finish_is_answered}
use Rattle.name_cell.proofs.calls.finish_names.Goals as goal

pub finish_in-requires : goal.finish_in-requires
finish_in-requires g c = finish_is_answered _ _ _ _ c.args.answered c.act-acted.result c.act-acted.ensures
