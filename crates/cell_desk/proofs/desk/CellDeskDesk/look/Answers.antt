use Rattle.std.proofs.Common.{[], subst}
use Rattle.hk_serve.specs.Transactions.{OfLook}
use Rattle.cell_desk.specs.Connections.{BothKnown, MakesOrder}
use Rattle.cell_desk.proofs.AskLemmas.{looked}
use Rattle.cell_desk.proofs.desk.CellDeskDesk.look.Goals as goal

pub returns-clause-answers : goal.returns-clause-answers
returns-clause-answers g c =
    let before : BothKnown _ _ = record { keys = g.S.Turns.keys_seen c.self.inside.keys; names = g.S.Turns.names_seen c.self.inside.names } in
    subst (λ (v : BothKnown _ _). MakesOrder g.S.Turns.state g.S.Turns.to_come v [] (OfLook c.args._page c.counts.result) v) c.self.view_is
    (looked g.S.Turns.state g.S.Turns.to_come before [] c.args._page c.counts.result c.count_keys.ensures.legal c.count_names.ensures.legal)
