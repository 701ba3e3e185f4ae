use Rattle.std.proofs.Common.{◌≡◌, ◌∙◌, true, ℕ, List, [], ap, arith, get_or, length, take_all}
use Rattle.name_calls.specs.Paths.{is_relative, names_text}
use Rattle.edit_ops.proofs.PathText.{one_name_more}
use Rattle.frozen_nodes.specs.Copies.{no_entry, path_at}
use Rattle.frozen_nodes.proofs.Copying.{some-at}
use Rattle.name_images.proofs.RowsAt.{has-name}
use Rattle.name_images.proofs.Texts.{some-text}
use Rattle.name_images.proofs.rows.text_len.Goals as goal

pub name_at_place-requires-clause-k : goal.name_at_place-requires-clause-k
name_at_place-requires-clause-k c = has-name c.args.tree.now.rows c.args.place c.loop-k.k c.args.depth c.requires.depth c.loop-k-test.true

pub overflow_add-len-in-loop-k : goal.overflow_add-len-in-loop-k
overflow_add-len-in-loop-k c =
    let path = path_at c.args.tree.now.rows c.args.place in
    let is : c.name_at_place.result.now ≡ get_or path c.loop-k.k [] = c.name_at_place.ensures (get_or c.args.tree.now.rows c.args.place no_entry) (some-at c.args.tree.now.rows c.args.place c.requires.place) in
    let rule : is_relative path ≡ true = c.rows.ensures.rules.ruled c.args.place no_entry c.requires.place in
    let more = one_name_more path c.loop-k.k c.name_at_place.result.now rule (let d = c.requires.depth in let lt = c.loop-k-test.true in omega (arith, d, lt)) is in
    omega (arith, c.loop-k.invariant.sum, more.0, more.1)

pub loop-k-preserved : goal.loop-k-preserved
loop-k-preserved c =
    let path = path_at c.args.tree.now.rows c.args.place in
    let is : c.name_at_place.result.now ≡ get_or path c.loop-k.k [] = c.name_at_place.ensures (get_or c.args.tree.now.rows c.args.place no_entry) (some-at c.args.tree.now.rows c.args.place c.requires.place) in
    let rule : is_relative path ≡ true = c.rows.ensures.rules.ruled c.args.place no_entry c.requires.place in
    let more = one_name_more path c.loop-k.k c.name_at_place.result.now rule (let d = c.requires.depth in let lt = c.loop-k-test.true in omega (arith, d, lt)) is in
    record { sum = omega (arith, c.loop-k.invariant.sum, more.0); most = omega (arith, c.loop-k.invariant.sum, more.0, more.1) }

pub returns-clause-len : goal.returns-clause-len
returns-clause-len c =
    let path = path_at c.args.tree.now.rows c.args.place in
    c.loop-k.invariant.sum
    ∙ ap (λ (p : List (List ℕ)). length (names_text p)) (take_all c.loop-k.k path (let h = c.loop-k-test.false in let d = c.requires.depth in omega (arith, h, d)))
    ∙ ap length (some-text path (λ e. c.if-depth-eq0.false (c.requires.depth ∙ e)))

pub returns-clause-short : goal.returns-clause-short
returns-clause-short c = c.loop-k.invariant.most
