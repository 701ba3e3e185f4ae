use Rattle.std.proofs.Common.{arith, rules}
use Rattle.body_copies.proofs.CopyLemmas.{copied_more, copied_part, kept_on}
use Rattle.body_copies.proofs.copy.copy_body.Goals as goal

pub returns-in-Err-copy_piece-clause-part : goal.returns-in-Err-copy_piece-clause-part
returns-in-Err-copy_piece-clause-part g c =
    copied_part c.args.from c.args.to c.pieces.at _ _ _ _ _ (c.if-not-has_none.ensures.none (search rules)) c.pieces.invariant.same c.pieces.invariant.so_far c.in-Err-copy_piece.ensures.part

pub pieces-preserved : goal.pieces-preserved
pieces-preserved g c = record {
  so_far = copied_more c.args.from c.args.to c.pieces.at c.in-Ok.size c.in-Ok-copy_piece.count _ _ _ _ _ c.pieces.invariant.same c.pieces.invariant.so_far c.in-Ok-copy_piece.ensures.copied;
  within = omega (arith, c.pieces.invariant.within, c.in-Ok-copy_piece.ensures.copied.within);
  same = kept_on _ _ _ c.pieces.invariant.same c.in-Ok-copy_piece.ensures.same;
  vault_later = omega (arith, c.pieces.invariant.vault_later, c.in-Ok-copy_piece.ensures.vault_later);
  copies_later = omega (arith, c.pieces.invariant.copies_later, c.in-Ok-copy_piece.ensures.copies_later);
}
