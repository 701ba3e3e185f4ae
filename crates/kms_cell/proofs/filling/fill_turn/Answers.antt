use Rattle.kms_cell.proofs.FillLemmas.{has_taken, turn_with, turn_without}
use Rattle.kms_cell.proofs.filling.fill_turn.Goals as goal

pub fill_keys-requires : goal.fill_keys-requires
fill_keys-requires g c = record {
  seen = has_taken g.D.Disk.state g.W.Words.to_come c.args.pass.now c.take_ticket.new.pass c.take_ticket.result c.in-Some.ticket c.take_ticket.ensures c.in-Some.is;
}

pub returns-in_default : goal.returns-in_default
returns-in_default g c =
    turn_without g.D.Disk.state g.W.Words.to_come (g.V.Words.to_come c.args.words.now) c.args.pass.now c.take_ticket.new.pass c.take_ticket.result c.take_ticket.ensures c.in_default.is

pub returns : goal.returns
returns g c =
    turn_with g.D.Disk.state g.W.Words.to_come (g.V.Words.to_come c.args.words.now) (g.V.Words.to_come c.fill_keys.new.words) c.args.pass.now c.take_ticket.new.pass c.fill_keys.new.pass
    c.take_ticket.result c.in-Some.ticket c.fill_keys.result c.take_ticket.ensures c.in-Some.is c.fill_keys.ensures
