use Rattle.std.proofs.Common.{arith, ◌∙◌, ℕ, List, sym, ap}
use Rattle.std.specs.List.{remove}
use Rattle.inode_tree.specs.Listed.{flat, starts_of}
use Rattle.inode_tree.proofs.Pieces.{same-length}
use Rattle.inode_tree.proofs.Removals.{flat-without, starts-without}
use Rattle.inode_tree.proofs.order.drop_piece.Goals as goal

pub remove-requires-2 : goal.remove-requires-2
remove-requires-2 c = let e = same-length _ _ c.requires.starts in let h = c.requires.c in omega arith

pub returns-clause-starts : goal.returns-clause-starts
returns-clause-starts c =
    c.remove-2.ensures.items ∙ ap (λ (xs : List ℕ). remove xs c.args.c) c.requires.starts
    ∙ starts-without 0 c.args.pieces.now.items c.args.c c.requires.c c.requires.empty
    ∙ ap (starts_of 0) (sym c.remove.ensures.items)

pub returns-clause-flat : goal.returns-clause-flat
returns-clause-flat c = ap flat c.remove.ensures.items ∙ flat-without c.args.pieces.now.items c.args.c c.requires.c c.requires.empty
