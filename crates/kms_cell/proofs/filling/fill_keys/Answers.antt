use Rattle.std.proofs.Common.{arith}
use Rattle.kms_cell.proofs.FillLemmas.{filling_allows, filling_begins, filling_full, filling_kept, filling_stale}
use Rattle.kms_cell.proofs.filling.fill_keys.Goals as goal

pub loop-kept-init : goal.loop-kept-init
loop-kept-init g c =
    filling_begins g.D.Disk.state g.W.Words.to_come c.args.ticket.now (g.V.Words.to_come c.args.words.now) c.args.pass.now c.count.ensures.legal c.requires.seen

pub deposit_key-requires : goal.deposit_key-requires
deposit_key-requires g c = record {
  seen = filling_allows g.D.Disk.state g.W.Words.to_come c.args.ticket.now (g.V.Words.to_come c.args.words.now) (g.V.Words.to_come c.loop-kept.words) c.args.pass.now c.loop-kept.kept
      c.loop-kept.pass c.draw_sealed-sealed.result c.loop-kept.invariant c.draw_sealed-sealed.ensures.key;
}

pub returns-in-Full : goal.returns-in-Full
returns-in-Full g c =
    filling_full g.D.Disk.state g.W.Words.to_come c.args.ticket.now (g.V.Words.to_come c.args.words.now) (g.V.Words.to_come c.loop-kept.words) (g.V.Words.to_come c.draw_sealed-sealed.new.words)
    c.args.pass.now c.loop-kept.kept c.loop-kept.pass c.draw_sealed-sealed.result c.deposit_key.result c.deposit_key.new.pass c.loop-kept.invariant c.draw_sealed-sealed.ensures.key
    c.draw_sealed-sealed.ensures.rest c.deposit_key.ensures c.in-Full.is (omega arith)

pub returns-in-Stale : goal.returns-in-Stale
returns-in-Stale g c =
    filling_stale g.D.Disk.state g.W.Words.to_come c.args.ticket.now (g.V.Words.to_come c.args.words.now) (g.V.Words.to_come c.loop-kept.words) (g.V.Words.to_come c.draw_sealed-sealed.new.words)
    c.args.pass.now c.loop-kept.kept c.loop-kept.pass c.draw_sealed-sealed.result c.deposit_key.result c.deposit_key.new.pass c.in-Stale.opening c.in-Stale.birth c.in-Stale.number
    c.loop-kept.invariant c.draw_sealed-sealed.ensures.key c.draw_sealed-sealed.ensures.rest c.deposit_key.ensures c.in-Stale.is (omega arith)

pub loop-kept-preserved : goal.loop-kept-preserved
loop-kept-preserved g c =
    filling_kept g.D.Disk.state g.W.Words.to_come c.args.ticket.now (g.V.Words.to_come c.args.words.now) (g.V.Words.to_come c.loop-kept.words) (g.V.Words.to_come c.draw_sealed-sealed.new.words)
    c.args.pass.now c.loop-kept.kept c.loop-kept.pass c.draw_sealed-sealed.result c.deposit_key.result c.deposit_key.new.pass c.loop-kept.invariant c.draw_sealed-sealed.ensures.key
    c.draw_sealed-sealed.ensures.rest c.deposit_key.ensures c.in-Kept.is
