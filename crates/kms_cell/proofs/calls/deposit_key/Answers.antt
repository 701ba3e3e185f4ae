use Rattle.kms_cell.proofs.ReplyLemmas.{deposit_is_answered}
use Rattle.kms_cell.proofs.calls.deposit_key.Goals as goal

pub answer_in-requires : goal.answer_in-requires
answer_in-requires g c = deposit_is_answered g.D.Disk.state g.W.Words.to_come _ _ c.args.sealed c.act-acted.result c.act-acted.ensures
