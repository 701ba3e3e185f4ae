use Rattle.std.proofs.Common.{subst}
use Rattle.name_calls.specs.declared.calls.NameRefusal.TheVariants as refusal
use Rattle.name_calls.specs.declared.calls.NameReply.TheVariants as reply
use Rattle.name_rest.specs.declared.order.NameOrder.TheVariants as order
use Rattle.hk_serve.specs.Transactions.{OfNames}
use Rattle.cell_desk.specs.Connections.{BothKnown, MakesOrder}
use Rattle.cell_desk.proofs.AskLemmas.{not_begun}
use Rattle.cell_desk.proofs.desk.CellDesk.ask.Goals as goal

pub returns-in_default : goal.returns-in_default
returns-in_default g c =
    let before : BothKnown _ _ = record { keys = g.S.Turns.keys_seen c.self.inside.keys; names = g.S.Turns.names_seen c.self.inside.names } in
    subst (λ (v : BothKnown _ _). MakesOrder g.S.Turns.state g.S.Turns.to_come v c.args.user (OfNames (order.Ask c.args.ask) (reply.Refused refusal.NoMemory)) v) c.self.view_is
    (not_begun g.S.Turns.state g.S.Turns.to_come before c.args.user c.args.ask c.count_keys.ensures.legal c.count_names.ensures.legal)
