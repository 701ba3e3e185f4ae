use Rattle.kms_cell.proofs.ReplyLemmas.{call_is_answered}
use Rattle.kms_cell.proofs.calls.call_keys.Goals as goal

pub reply_in-requires : goal.reply_in-requires
reply_in-requires g c = call_is_answered g.D.Disk.state g.W.Words.to_come _ _ c.args.user c.args.call c.act-acted.result c.act-acted.ensures
