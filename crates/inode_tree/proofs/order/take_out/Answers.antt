use Rattle.std.proofs.Common.{arith, ◌∙◌, ℕ, List, get_or, ap}
use Rattle.inode_tree.proofs.Pieces.{first-start, same-length, some-piece}
use Rattle.inode_tree.proofs.Removals.{holds-located}
use Rattle.inode_tree.proofs.order.take_out.Goals as goal

pub locate-c-requires-clause-some : goal.locate-c-requires-clause-some
locate-c-requires-clause-some c = let e = same-length _ _ c.requires.starts in let s = some-piece c.args.pieces.now.items c.args.i c.requires.within in omega arith

pub locate-c-requires-clause-first : goal.locate-c-requires-clause-first
locate-c-requires-clause-first c = ap (λ (xs : List ℕ). get_or xs 0 0) c.requires.starts ∙ first-start c.args.pieces.now.items

pub take_from-requires-clause-holds : goal.take_from-requires-clause-holds
take_from-requires-clause-holds c = holds-located c.args.pieces.now.items c.args.starts.now.items c.locate-c.result c.args.i c.requires.starts c.locate-c.ensures.within c.locate-c.ensures.from c.locate-c.ensures.to c.requires.within

pub index-requires : goal.index-requires
index-requires c = let e = same-length _ _ c.requires.starts in let h = c.locate-c.ensures.within in let l = c.take_from.ensures.length in omega arith

pub drop_piece-requires-clause-c : goal.drop_piece-requires-clause-c
drop_piece-requires-clause-c c = let e = same-length _ _ c.requires.starts in let h = c.locate-c.ensures.within in let l = c.take_from.ensures.length in omega arith
