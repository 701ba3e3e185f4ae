use Rattle.std.proofs.Common.{◌+◌, arith}
use Rattle.body_stream.proofs.ReadLemmas.{kept_on, read_done, read_ended, read_more, read_nothing, read_part, read_past}
use Rattle.body_stream.proofs.read.read_body.Goals as goal

pub returns-then-from-size-clause-read : goal.returns-then-from-size-clause-read
returns-then-from-size-clause-read g c =
    read_past c.of-coding.result c.args.key c.args.id c.args.from c.args.count _ _ c.of-coding.ensures (λ told. let size = c.in-Ok.ensures.answer told in omega (arith, size, c.if-from-size.true))

pub pieces-init : goal.pieces-init
pieces-init g c = record {
  so_far = read_nothing _ _ _ _ _;
  begun = omega arith;
  within = omega arith;
  same = c.in-Ok.ensures.same;
  sink_later = omega arith;
  vault_later = c.in-Ok.ensures.cause.later;
}

pub returns-in-Err-read_piece-clause-part : goal.returns-in-Err-read_piece-clause-part
returns-in-Err-read_piece-clause-part g c =
    read_part c.of-coding.result c.args.key c.args.id c.args.from c.args.count c.pieces.at (c.args.from + c.min.result) _ _ _ _ _ c.of-coding.ensures c.pieces.invariant.same c.pieces.invariant.within (omega (arith, c.min.ensures))
    (λ told. let size = c.in-Ok.ensures.answer told in (omega (arith, size, c.min.ensures, c.if-from-size.false), omega (arith, size, c.min.ensures))) c.pieces.invariant.so_far c.in-Err-read_piece.ensures.part

pub returns-then-count-eq0-clause-read : goal.returns-then-count-eq0-clause-read
returns-then-count-eq0-clause-read g c =
    read_ended c.of-coding.result c.args.key c.args.id c.args.from c.args.count c.pieces.at (c.args.from + c.min.result) c.in-Ok-read_piece.count _ _ _ _ _ c.pieces.invariant.same
    (λ told. let size = c.in-Ok.ensures.answer told in omega (arith, size, c.min.ensures, c.if-from-size.false)) c.pieces.invariant.within (omega (arith, c.min.ensures, c.pieces.invariant.within)) c.if-count-eq0.true c.pieces.invariant.so_far c.in-Ok-read_piece.ensures.read

pub pieces-preserved : goal.pieces-preserved
pieces-preserved g c = record {
  so_far = read_more _ _ _ _ (c.args.from + c.min.result) _ _ _ _ _ _ c.pieces.invariant.same (λ told. let size = c.in-Ok.ensures.answer told in omega (arith, size, c.min.ensures, c.if-from-size.false)) c.pieces.invariant.within c.pieces.invariant.so_far c.in-Ok-read_piece.ensures.read;
  begun = omega (arith, c.pieces.invariant.begun);
  within = omega (arith, c.pieces.invariant.within, c.in-Ok-read_piece.ensures.read.within);
  same = kept_on _ _ _ c.pieces.invariant.same c.in-Ok-read_piece.ensures.same;
  sink_later = omega (arith, c.pieces.invariant.sink_later, c.in-Ok-read_piece.ensures.sink_later);
  vault_later = omega (arith, c.pieces.invariant.vault_later, c.in-Ok-read_piece.ensures.vault_later);
}

pub returns-clause-read : goal.returns-clause-read
returns-clause-read g c =
    read_done c.of-coding.result c.args.key c.args.id c.args.from c.args.count c.pieces.at _ _ _ c.of-coding.ensures (omega (arith, c.min.ensures, c.pieces.invariant.within))
    (λ told. let size = c.in-Ok.ensures.answer told in omega (arith, size, c.min.ensures, c.if-from-size.false, c.pieces.invariant.within, c.pieces-test.false)) c.pieces.invariant.so_far
