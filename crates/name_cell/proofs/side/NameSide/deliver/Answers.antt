use Rattle.std.proofs.Common.{refl, subst}
use Rattle.name_history.specs.Steps.{DeliverSteps}
use Rattle.name_history.specs.Views.{NameView}
use Rattle.name_cell.proofs.RunLemmas.{delivers, ignores, runs_after_logs}
use Rattle.name_cell.proofs.side.NameSide.deliver.Goals as goal

pub invariant_of-self : goal.invariant_of-self
invariant_of-self g c = runs_after_logs _ _ c.self.inside.names c.deliver.new.self _ _ c.deliver.ensures.disk c.self.invariant

pub invariant_of-self-else-has_front : goal.invariant_of-self-else-has_front
invariant_of-self-else-has_front g c = runs_after_logs _ _ c.self.inside.names c.ignore.new.self _ _ c.ignore.ensures.disk c.self.invariant

pub returns-then-has_front-clause-does : goal.returns-then-has_front-clause-does
returns-then-has_front-clause-does g c =
    let before : NameView _ _ = record { names = c.self.inside.names; disk = c.self.inside.disk; keys = g.K.KeysCell.seen c.self.inside.keys; fronts = c.self.inside.fronts.items } in
    let after : NameView _ _ = record { names = c.deliver.new.self; disk = c.deliver.new.disk; keys = g.K.KeysCell.seen c.self.inside.keys; fronts = c.self.inside.fronts.items } in
    subst (λ (v : NameView _ _). DeliverSteps g.K.D.Disk.state v c.args.front c.args.reply.now c.deliver.result after) c.self.view_is
    (delivers g.K.D.Disk.state before after c.args.front c.args.reply.now c.note.result.now c.has_front.result c.deliver.result c.note.ensures c.if-has_front.true c.has_front.ensures c.deliver.ensures refl)

pub returns-else-has_front-clause-does : goal.returns-else-has_front-clause-does
returns-else-has_front-clause-does g c =
    let before : NameView _ _ = record { names = c.self.inside.names; disk = c.self.inside.disk; keys = g.K.KeysCell.seen c.self.inside.keys; fronts = c.self.inside.fronts.items } in
    let after : NameView _ _ = record { names = c.ignore.new.self; disk = c.ignore.new.disk; keys = g.K.KeysCell.seen c.self.inside.keys; fronts = c.self.inside.fronts.items } in
    subst (λ (v : NameView _ _). DeliverSteps g.K.D.Disk.state v c.args.front c.args.reply.now c.ignore.result after) c.self.view_is
    (ignores g.K.D.Disk.state before after c.args.front c.args.reply.now c.note.result.now c.has_front.result c.ignore.result c.note-else-has_front.result.now c.note-else-has_front.ensures c.note.ensures c.if-has_front.false c.has_front.ensures c.ignore.ensures refl)
