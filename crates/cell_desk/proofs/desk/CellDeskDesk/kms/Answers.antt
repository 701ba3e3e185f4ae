use Rattle.std.proofs.Common.{refl, subst}
use Rattle.hk_serve.specs.Transactions.{OfKeys}
use Rattle.cell_desk.specs.Connections.{BothKnown, MakesOrder}
use Rattle.cell_desk.proofs.AskLemmas.{keys_called}
use Rattle.cell_desk.proofs.desk.CellDeskDesk.kms.Goals as goal

pub returns-clause-answers : goal.returns-clause-answers
returns-clause-answers g c =
    let before : BothKnown _ _ = record { keys = g.S.Turns.keys_seen c.self.inside.keys; names = g.S.Turns.names_seen c.self.inside.names } in
    let after : BothKnown _ _ = record { keys = g.S.Turns.keys_seen c.call_keys-reply.new.pass; names = g.S.Turns.names_seen c.self.inside.names } in
    subst (λ (v : BothKnown _ _). MakesOrder g.S.Turns.state g.S.Turns.to_come v c.args.user (OfKeys c.args.call c.call_keys-reply.result) after) c.self.view_is
    (keys_called g.S.Turns.state g.S.Turns.to_come before after c.args.user c.args.call c.call_keys-reply.result c.count_names.ensures.legal refl c.call_keys-reply.ensures)
