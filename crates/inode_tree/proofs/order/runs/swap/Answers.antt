use Rattle.std.proofs.Common.{arith, ◌≡◌, ◌<◌, ◌≤◌, ℕ, sym, ap, ◌∙◌}
use Rattle.inode_tree.specs.Listed.{IsCutAt, flat, turned}
use Rattle.inode_tree.proofs.Runs.{cuts-rise, turned-flat, turned-right}
use Rattle.inode_tree.proofs.order.runs.swap.Goals as goal

pub returns-then-b-c-clause-flat : goal.returns-then-b-c-clause-flat
returns-then-b-c-clause-flat c = sym (ap (λ (n : ℕ). turned c.args.a n c.args.c (flat c.args.pieces.now.items)) c.if-b-c.true ∙ turned-right (flat c.args.pieces.now.items) c.args.a c.args.c (let r = c.requires.runs in let x = r.0 in let y = r.1 in omega arith))

less : (a b : ℕ) → a ≤ b → (a ≡ b → ⊥) → a < b
less a b h apart = grind arith

pub turn-requires-clause-runs : goal.turn-requires-clause-runs
turn-requires-clause-runs c =
    let r = c.requires.runs in
    let low = less c.args.a c.args.b r.0 c.if-a-b.false in
    let high = less c.args.b c.args.c r.1 c.if-b-c.false in
    let first : IsCutAt c.cut-last.new.pieces.items c.cut-first.result c.args.a = c.cut-last.ensures.kept _ _ (c.cut-middle.ensures.kept _ _ c.cut-first.ensures.cut r.0) (let x = r.0 in let y = r.1 in omega arith) in
    let middle : IsCutAt c.cut-last.new.pieces.items c.cut-middle.result c.args.b = c.cut-last.ensures.kept _ _ c.cut-middle.ensures.cut r.1 in
    let last = c.cut-last.ensures.cut in
    (let x = cuts-rise _ _ _ _ _ first middle low in omega arith, let x = cuts-rise _ _ _ _ _ middle last high in omega arith, last.0)

pub overflow_sub-last : goal.overflow_sub-last
overflow_sub-last c =
    let r = c.requires.runs in
    let high = less c.args.b c.args.c r.1 c.if-b-c.false in
    let middle : IsCutAt c.cut-last.new.pieces.items c.cut-middle.result c.args.b = c.cut-last.ensures.kept _ _ c.cut-middle.ensures.cut r.1 in
    let x = cuts-rise _ _ _ _ _ middle c.cut-last.ensures.cut high in omega arith

pub returns-clause-flat : goal.returns-clause-flat
returns-clause-flat c =
    let r = c.requires.runs in
    let low = less c.args.a c.args.b r.0 c.if-a-b.false in
    let high = less c.args.b c.args.c r.1 c.if-b-c.false in
    let first : IsCutAt c.cut-last.new.pieces.items c.cut-first.result c.args.a = c.cut-last.ensures.kept _ _ (c.cut-middle.ensures.kept _ _ c.cut-first.ensures.cut r.0) (let x = r.0 in let y = r.1 in omega arith) in
    let middle : IsCutAt c.cut-last.new.pieces.items c.cut-middle.result c.args.b = c.cut-last.ensures.kept _ _ c.cut-middle.ensures.cut r.1 in
    let x = cuts-rise _ _ _ _ _ first middle low in
    let y = cuts-rise _ _ _ _ _ middle c.cut-last.ensures.cut high in
    c.mend-3.ensures.flat ∙ c.mend-2.ensures.flat ∙ c.mend.ensures.flat ∙ ap flat c.turn.ensures.pieces
    ∙ turned-flat c.cut-last.new.pieces.items _ _ _ c.args.a c.args.b c.args.c first middle c.cut-last.ensures.cut (omega arith) (omega arith)
    ∙ ap (turned c.args.a c.args.b c.args.c) (c.cut-last.ensures.flat ∙ c.cut-middle.ensures.flat ∙ c.cut-first.ensures.flat)

pub cut-first-requires-clause-count : goal.cut-first-requires-clause-count
cut-first-requires-clause-count c = c.requires.count
