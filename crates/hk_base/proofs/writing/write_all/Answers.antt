use Rattle.std.proofs.Common.{◌+◌, arith}
use Rattle.std.proofs.KnownBytes.{Appends-kept}
use Rattle.hk_base.proofs.Fronts.{front_of, wrote_more, length_rest}
use Rattle.hk_base.proofs.writing.write_all.Goals as goal

pub returns-in-Err-clause-wrote : goal.returns-in-Err-clause-wrote
returns-in-Err-clause-wrote g c = front_of _ _ c.loop-done.done c.args.bytes.now (Appends-kept _ _ _ _ c.loop-done.invariant.wrote c.in-Err.ensures.bytes)

pub returns-then-count-eq0-clause-wrote : goal.returns-then-count-eq0-clause-wrote
returns-then-count-eq0-clause-wrote g c = front_of _ _ (c.loop-done.done + c.in-Ok.count) c.args.bytes.now (wrote_more _ _ _ c.loop-done.done c.in-Ok.count c.args.bytes.now c.loop-done.invariant.wrote c.in-Ok.ensures.bytes)

pub loop-done-preserved : goal.loop-done-preserved
loop-done-preserved g c = record {
  within = omega (arith, c.in-Ok.ensures.bound, length_rest c.args.bytes.now c.loop-done.done);
  wrote = wrote_more _ _ _ c.loop-done.done c.in-Ok.count c.args.bytes.now c.loop-done.invariant.wrote c.in-Ok.ensures.bytes;
  later = omega (arith, c.in-Ok.ensures.cause.later);
}
