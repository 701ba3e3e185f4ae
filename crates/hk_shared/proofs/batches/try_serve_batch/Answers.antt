use Rattle.std.proofs.Common.{inr, refl, sym, ◌∙◌}
use Rattle.hk_shared.proofs.TurnLemmas.{batch_is_left, batch_is_served}
use Rattle.hk_shared.proofs.batches.try_serve_batch.Goals as goal

pub returns-in-Err-clause-unserved : goal.returns-in-Err-clause-unserved
returns-in-Err-clause-unserved g c = (refl, inr (record { same = refl; result_is = refl }))

pub returns-then-temporary-clause-unserved : goal.returns-then-temporary-clause-unserved
returns-then-temporary-clause-unserved g c = (
  refl,
  batch_is_left g.K.D.Disk.state g.K.KeysCell.to_come (g.K.KeysCell.seen c.args.pass.now) (g.K.KeysCell.seen c.call-reply.new.pass) c.in-Ok.prepared.0 c.args.note c.in-Ok.prepared.1.call c.call-reply.result
      c.in-Ok.ensures.user c.in-Ok.ensures.call c.call-reply.ensures (sym c.is_temporary-temporary.ensures ∙ c.if-temporary.true),
)

pub returns-clause-served : goal.returns-clause-served
returns-clause-served g c =
    batch_is_served g.K.D.Disk.state g.K.KeysCell.to_come (g.K.KeysCell.seen c.args.pass.now) (g.K.KeysCell.seen c.call-reply.new.pass) c.in-Ok.prepared.0 c.args.note c.in-Ok.prepared.1.call c.call-reply.result c.reply_for.result
    c.in-Ok.ensures.user c.in-Ok.ensures.call c.call-reply.ensures (sym c.is_temporary-temporary.ensures ∙ c.if-temporary.false) c.reply_for.ensures
