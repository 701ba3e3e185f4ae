use Rattle.std.proofs.Common.{◌≡◌, ◌∙◌, ℕ, [], arith, get_or, length, sym}
use Rattle.std.proofs.lemmas.List.{get_or-map, length-map}
use Rattle.edit_ops.proofs.PathText.{one_name_more}
use Rattle.frozen_nodes.specs.Forest.{node_at}
use Rattle.name_images.specs.Walks.{names_in}
use Rattle.name_images.proofs.nodes.text_len.Goals as goal

pub overflow_add-len-in-loop-n : goal.overflow_add-len-in-loop-n
overflow_add-len-in-loop-n c =
    let ns = c.args.forest.now.nodes in
    let path = c.args.path.now in
    let names = names_in ns path in
    let i = c.loop-n.n-index in
    let long : length names ≡ length path = length-map path (λ (k : ℕ). (node_at ns k).name) in
    let is : c.name.result.now ≡ get_or names i [] = c.name.ensures.name ∙ sym (get_or-map (λ (k : ℕ). (node_at ns k).name) path i 0 [] c.loop-n-test.true) in
    let more = one_name_more names i c.name.result.now c.requires (let lt = c.loop-n-test.true in omega (arith, long, lt)) is in
    omega (arith, c.loop-n.invariant.sum, more.0, more.1)

pub loop-n-preserved : goal.loop-n-preserved
loop-n-preserved c =
    let ns = c.args.forest.now.nodes in
    let path = c.args.path.now in
    let names = names_in ns path in
    let i = c.loop-n.n-index in
    let long : length names ≡ length path = length-map path (λ (k : ℕ). (node_at ns k).name) in
    let is : c.name.result.now ≡ get_or names i [] = c.name.ensures.name ∙ sym (get_or-map (λ (k : ℕ). (node_at ns k).name) path i 0 [] c.loop-n-test.true) in
    let more = one_name_more names i c.name.result.now c.requires (let lt = c.loop-n-test.true in omega (arith, long, lt)) is in
    record { sum = omega (arith, c.loop-n.invariant.sum, more.0); most = omega (arith, c.loop-n.invariant.sum, more.0, more.1) }

pub returns-clause-short : goal.returns-clause-short
returns-clause-short c = c.loop-n.invariant.most
