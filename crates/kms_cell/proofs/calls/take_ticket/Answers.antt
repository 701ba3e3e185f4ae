use Rattle.kms_cell.proofs.ReplyLemmas.{ticket_is_answered}
use Rattle.kms_cell.proofs.calls.take_ticket.Goals as goal

pub ticket_in-requires : goal.ticket_in-requires
ticket_in-requires g c = ticket_is_answered g.D.Disk.state g.W.Words.to_come _ _ c.act-acted.result c.act-acted.ensures
