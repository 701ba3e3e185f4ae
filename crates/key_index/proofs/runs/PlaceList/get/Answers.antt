use Rattle.std.proofs.Common.{ℕ, ◌+◌, ◌-◌, ◌≤◌, List, ◌++◌, length, drop, slice_get, ap, sym, ◌∙◌, arith}
use Rattle.std.specs.List.{concat}
use Rattle.std.proofs.lemmas.List.{at_drop_more}
use Rattle.key_index.proofs.RunLemmas.{after_first, in_first, is_after}
use Rattle.key_index.proofs.runs.PlaceList.get.Goals as goal

pub returns-in-Some : goal.returns-in-Some
returns-in-Some c =
    let runs = c.deref-run-items.result.now in
    let run = c.run-item.result in
    let at = c.loop-run.run-index in
    let left = c.loop-run.left in
    let here = at_drop_more (λ (rest : List (List ℕ)). slice_get (concat rest) left) runs at run c.loop-run-test.true in
    sym (c.loop-run.invariant ∙ here ∙ ap (λ (first : List ℕ). slice_get (first ++ concat (drop (at + 1) runs)) left) (sym c.run-item.is)
    ∙ in_first run (concat (drop (at + 1) runs)) left c.in-Some.place (sym c.get.ensures ∙ c.in-Some.is))

pub overflow_sub-left : goal.overflow_sub-left
overflow_sub-left c = omega (arith, is_after c.run-item.result c.loop-run.left (sym c.get.ensures ∙ c.in-None.is))

pub loop-run-preserved : goal.loop-run-preserved
loop-run-preserved c =
    let runs = c.deref-run-items.result.now in
    let run = c.run-item.result in
    let at = c.loop-run.run-index in
    let left = c.loop-run.left in
    let here = at_drop_more (λ (rest : List (List ℕ)). slice_get (concat rest) left) runs at run c.loop-run-test.true in
    let past : length run ≤ left = is_after run left (sym c.get.ensures ∙ c.in-None.is) in
    c.loop-run.invariant ∙ here ∙ ap (λ (first : List ℕ). slice_get (first ++ concat (drop (at + 1) runs)) left) (sym c.run-item.is)
    ∙ after_first run (concat (drop (at + 1) runs)) left (left - c.len-left.result) (omega (arith, past))
