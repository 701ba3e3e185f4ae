use Rattle.std.proofs.Common.{arith}
use Rattle.body_stream.proofs.PutLemmas.{put_done, put_length, put_more, put_nothing, put_part, too_long}
use Rattle.body_stream.proofs.put.put_body.Goals as goal

pub pieces-init : goal.pieces-init
pieces-init g c = record {
  so_far = put_nothing _ _ _ _ c.requires.empty;
  source_later = omega arith;
  vault_later = omega arith;
}

pub put_piece-requires-clause-place : goal.put_piece-requires-clause-place
put_piece-requires-clause-place g c = put_length _ _ _ _ _ _ _ c.pieces.invariant.so_far

pub returns-in-Err-clause-part : goal.returns-in-Err-clause-part
returns-in-Err-clause-part g c = put_part _ _ _ _ _ _ _ _ _ _ c.of-coding.ensures c.pieces.invariant.so_far c.in-Err.ensures.part

pub returns-in-Err-clause-read : goal.returns-in-Err-clause-read
returns-in-Err-clause-read g c = λ is. omega (arith, c.in-Err.ensures.read is, c.pieces.invariant.source_later)

pub returns-in-Err-clause-vault : goal.returns-in-Err-clause-vault
returns-in-Err-clause-vault g c = λ is. omega (arith, c.in-Err.ensures.vault is, c.pieces.invariant.vault_later)

pub returns-in-Err-clause-long : goal.returns-in-Err-clause-long
returns-in-Err-clause-long g c = λ is all left_is. too_long _ _ c.pieces.invariant.so_far.bytes all c.pieces.at c.pieces.invariant.so_far.consumed c.pieces.invariant.so_far.long (c.in-Err.ensures.long is) left_is

pub returns-then-count-eq0-clause-put : goal.returns-then-count-eq0-clause-put
returns-then-count-eq0-clause-put g c = put_done _ _ _ _ _ _ _ _ _ _ _ c.of-coding.ensures c.pieces.invariant.so_far c.in-Ok.ensures.put c.if-count-eq0.true

pub pieces-preserved : goal.pieces-preserved
pieces-preserved g c = record {
  so_far = put_more _ _ _ _ _ _ _ _ _ _ c.pieces.invariant.so_far c.in-Ok.ensures.put;
  source_later = omega (arith, c.pieces.invariant.source_later, c.in-Ok.ensures.source_later);
  vault_later = omega (arith, c.pieces.invariant.vault_later, c.in-Ok.ensures.vault_later);
}
