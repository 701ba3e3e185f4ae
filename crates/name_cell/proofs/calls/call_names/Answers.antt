use Rattle.name_cell.proofs.ReplyLemmas.{call_is_answered}
use Rattle.name_cell.proofs.calls.call_names.Goals as goal

pub reply_in-requires : goal.reply_in-requires
reply_in-requires g c = call_is_answered _ _ _ _ c.args.user c.args.call c.act-acted.result c.act-acted.ensures
