use Rattle.std.proofs.Common.{refl, subst}
use Rattle.name_rest.specs.declared.order.NameOrder.TheVariants as order
use Rattle.hk_serve.specs.Transactions.{OfNames}
use Rattle.cell_desk.specs.Connections.{BothKnown, MakesOrder}
use Rattle.cell_desk.proofs.AskLemmas.{names_called}
use Rattle.cell_desk.proofs.desk.CellDesk.call.Goals as goal

pub returns : goal.returns
returns g c =
    let before : BothKnown _ _ = record { keys = g.S.Turns.keys_seen c.self.inside.keys; names = g.S.Turns.names_seen c.self.inside.names } in
    let after : BothKnown _ _ = record { keys = g.S.Turns.keys_seen c.self.inside.keys; names = g.S.Turns.names_seen c.call_names.new.pass } in
    subst (λ (v : BothKnown _ _). MakesOrder g.S.Turns.state g.S.Turns.to_come v c.args.user (OfNames (order.Call c.args.call) c.call_names.result) after) c.self.view_is
    (names_called g.S.Turns.state g.S.Turns.to_come before after c.args.user c.args.call c.call_names.result c.count_keys.ensures.legal refl c.call_names.ensures)
