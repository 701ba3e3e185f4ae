use Rattle.std.proofs.Common.{arith, ◌≡◌, ◌≤◌, length, take, drop, ℕ, ◌+◌, List, ◌++◌, sym, ap, ◌∙◌}
use Rattle.std.proofs.lemmas.List.{take_at}
use Rattle.inode_tree.specs.Listed.{flat, turned}
use Rattle.inode_tree.proofs.Pieces.{same-length}
use Rattle.inode_tree.proofs.Runs.{length-flat-turned, length-turned, turned-starts}
use Rattle.inode_tree.proofs.order.runs.turn.Goals as goal

-- the pieces that the code has written back
written : (ps qs zs : List (List ℕ)) (n a b c : ℕ) → n ≡ length ps → qs ≡ turned a b c ps → a ≤ b → b ≤ c → c ≤ length ps → take n (qs ++ zs) ≡ turned a b c ps
written ps qs zs n a b c en e h k l = take_at qs zs n (ap length e ∙ length-turned ps a b c h k l ∙ sym en) ∙ e

pub renumber-requires-clause-starts : goal.renumber-requires-clause-starts
renumber-requires-clause-starts c =
    let t = c.if-a-c.false in
    let r = c.requires.runs in
    ap (take (c.args.a + 1)) c.requires.starts
    ∙ turned-starts c.args.pieces.now.items _ c.args.a c.args.b c.args.c r.0 r.1 r.2 (let x = r.0 in let y = r.1 in omega arith)
    (written c.args.pieces.now.items c.rotate.new.pieces _ c.args.pieces.now.len c.args.a c.args.b c.args.c (omega arith) (c.rotate.ensures ∙ ap (turned c.args.a c.args.b c.args.c) c.as_mut_slice.ensures.value) r.0 r.1 r.2)

pub renumber-requires-clause-length : goal.renumber-requires-clause-length
renumber-requires-clause-length c =
    let r = c.requires.runs in
    same-length _ _ c.requires.starts ∙ sym (length-turned c.args.pieces.now.items c.args.a c.args.b c.args.c r.0 r.1 r.2)
    ∙ ap length (sym (written c.args.pieces.now.items c.rotate.new.pieces _ c.args.pieces.now.len c.args.a c.args.b c.args.c (omega arith) (c.rotate.ensures ∙ ap (turned c.args.a c.args.b c.args.c) c.as_mut_slice.ensures.value) r.0 r.1 r.2))

pub renumber-requires-clause-count : goal.renumber-requires-clause-count
renumber-requires-clause-count c =
    let r = c.requires.runs in
    let n = c.requires.count in
    let e = ap (λ (ps : List (List ℕ)). length (flat ps)) (written c.args.pieces.now.items c.rotate.new.pieces (drop (length c.rotate.new.pieces) c.args.pieces.now.items) c.args.pieces.now.len c.args.a c.args.b c.args.c (omega arith) (c.rotate.ensures ∙ ap (turned c.args.a c.args.b c.args.c) c.as_mut_slice.ensures.value) r.0 r.1 r.2) in
    let l = length-flat-turned c.args.pieces.now.items c.args.a c.args.b c.args.c r.0 r.1 in omega arith

pub returns-clause-pieces : goal.returns-clause-pieces
returns-clause-pieces c = let r = c.requires.runs in written c.args.pieces.now.items c.rotate.new.pieces _ c.args.pieces.now.len c.args.a c.args.b c.args.c (omega arith) (c.rotate.ensures ∙ ap (turned c.args.a c.args.b c.args.c) c.as_mut_slice.ensures.value) r.0 r.1 r.2
