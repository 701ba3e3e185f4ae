use Rattle.std.proofs.Common.{◌≡◌, ◌∙◌, ◌+◌, ◌<◌, ◌≤◌, ◌++◌, ◌∷◌, [], ℕ, suc, List, true, length, length-append, get_or, ap, sym, subst, arith}
use Rattle.name_calls.specs.Paths.{is_relative}
use Rattle.name_calls.proofs.PathLemmas.{relative-short}
use Rattle.inode_tree.specs.Listing.{children}
use Rattle.inode_tree.specs.Rows.{Entry}
use Rattle.row_blocks.specs.Below.{below}
use Rattle.row_copies.specs.Copies.{IsTooLong, StepRefuses}
use Rattle.row_copies.specs.Walks.{AddsCopies, CountsRows, IsNextSubtree, StopsWalk}
use Rattle.row_copies.proofs.AddLemmas.{keeps-rows, keeps-same}
use Rattle.row_copies.proofs.NextLemmas.{kids-of}
use Rattle.row_copies.proofs.StepLemmas.{one, steps-join}
use Rattle.row_copies.proofs.WalkLemmas.{Walked, file-done, kid-path, kid-ruled, many-kids, no_entry, row-then-stops, walked-all, walked-early, walked-first, walked-kid, walked-next, walked-stops}
use Rattle.row_copies.proofs.CauseLemmas.{ends-call, ends-last, ends-memory, ends-then, free-adds}
use Rattle.row_copies.proofs.walk.+copy_block.Goals as goal

pub returns-in-Err-clause-err : goal.returns-in-Err-clause-err
returns-in-Err-clause-err g t c = c.in-Err.ensures.err

pub returns-in-Err-clause-steps : goal.returns-in-Err-clause-steps
returns-in-Err-clause-steps g t c = c.copy_row.ensures.steps

pub returns-in-Err-count-clause-err : goal.returns-in-Err-count-clause-err
returns-in-Err-count-clause-err g t c =
    row-then-stops c.args.from.now c.args.to.now c.in-Ok.directory (g.C.Clusters.state c.args.clusters.now) (g.C.Clusters.state c.copy_row.new.clusters) (g.C.Clusters.state c.copy_row.new.clusters) c.facts.ensures.source c.in-Ok.ensures.ok (keeps-same (g.C.Clusters.state c.copy_row.new.clusters))

pub returns-in-Err-count-clause-steps : goal.returns-in-Err-count-clause-steps
returns-in-Err-count-clause-steps g t c = c.copy_row.ensures.steps

pub returns-then-not-directory-clause-adds : goal.returns-then-not-directory-clause-adds
returns-then-not-directory-clause-adds g t c =
    (file-done c.args.from.now c.args.to.now c.in-Ok.directory (g.C.Clusters.state c.args.clusters.now) (g.C.Clusters.state c.copy_row.new.clusters) c.args.counts.now c.count.new.counts c.facts.ensures.source c.in-Ok.ensures.ok c.in-Ok-count.ensures.counts c.if-not-directory.true).0

pub returns-then-not-directory-clause-counts : goal.returns-then-not-directory-clause-counts
returns-then-not-directory-clause-counts g t c =
    (file-done c.args.from.now c.args.to.now c.in-Ok.directory (g.C.Clusters.state c.args.clusters.now) (g.C.Clusters.state c.copy_row.new.clusters) c.args.counts.now c.count.new.counts c.facts.ensures.source c.in-Ok.ensures.ok c.in-Ok-count.ensures.counts c.if-not-directory.true).1

pub returns-then-not-directory-clause-steps : goal.returns-then-not-directory-clause-steps
returns-then-not-directory-clause-steps g t c = c.copy_row.ensures.steps

pub returns-in-Err-list-clause-err : goal.returns-in-Err-list-clause-err
returns-in-Err-list-clause-err g t c =
    row-then-stops c.args.from.now c.args.to.now c.in-Ok.directory (g.C.Clusters.state c.args.clusters.now) (g.C.Clusters.state c.copy_row.new.clusters) (g.C.Clusters.state c.list.new.self) c.facts.ensures.source c.in-Ok.ensures.ok c.list.ensures.keeps

pub returns-in-Err-list-clause-steps : goal.returns-in-Err-list-clause-steps
returns-in-Err-list-clause-steps g t c =
    steps-join g.C.Clusters.follows c.args.clusters.now c.copy_row.new.clusters c.list.new.self c.copy_row.ensures.steps (one g.C.Clusters.follows c.copy_row.new.clusters c.list.new.self c.list.ensures.follows)

pub loop-child-init : goal.loop-child-init
loop-child-init g t c = record {
  ready = c.list.ensures.ready;
  steps = steps-join g.C.Clusters.follows c.args.clusters.now c.copy_row.new.clusters c.list.new.self c.copy_row.ensures.steps (one g.C.Clusters.follows c.copy_row.new.clusters c.list.new.self c.list.ensures.follows);
  walked = walked-first c.args.from.now c.args.to.now c.in-Ok.directory (g.C.Clusters.state c.args.clusters.now) (g.C.Clusters.state c.copy_row.new.clusters) (g.C.Clusters.state c.list.new.self) c.args.counts.now c.count.new.counts c.in-Ok.ensures.ok c.in-Ok-count.ensures.counts c.list.ensures.keeps;
}

pub child_path-requires : goal.child_path-requires
child_path-requires g t c =
    let is : c.as_slice-child-items.result.now ≡ children (g.C.Clusters.state c.args.clusters.now).source.rows c.args.from.now = c.as_slice-child-items.ensures ∙ c.in-Ok-list.ensures.list ∙ ap (λ (rows : List Entry). children rows c.args.from.now) c.in-Ok.ensures.ok.adds.source.rows in
    let few : c.loop-child.child-index < length (kids-of (g.C.Clusters.state c.args.clusters.now).source.rows c.args.from.now) = omega (arith, c.loop-child-test.true, many-kids (g.C.Clusters.state c.args.clusters.now).source.rows c.args.from.now c.as_slice-child-items.result.now is) in
    let path : c.args.from.now ++ c.child-item.result.name ∷ [] ≡ (get_or (kids-of (g.C.Clusters.state c.args.clusters.now).source.rows c.args.from.now) c.loop-child.child-index no_entry).path = kid-path (g.C.Clusters.state c.args.clusters.now).source.rows c.args.from.now c.as_slice-child-items.result.now c.loop-child.child-index c.child-item.result c.child-item.result is c.loop-child-test.true c.child-item.is in
    subst (λ (q : List (List ℕ)). is_relative q ≡ true) (sym path) (kid-ruled (g.C.Clusters.state c.args.clusters.now).source.rows c.args.from.now c.loop-child.child-index c.facts.ensures.source few)

pub returns-in-Err-child_path-clause-err : goal.returns-in-Err-child_path-clause-err
returns-in-Err-child_path-clause-err g t c =
    let is : c.as_slice-child-items.result.now ≡ children (g.C.Clusters.state c.args.clusters.now).source.rows c.args.from.now = c.as_slice-child-items.ensures ∙ c.in-Ok-list.ensures.list ∙ ap (λ (rows : List Entry). children rows c.args.from.now) c.in-Ok.ensures.ok.adds.source.rows in
    let few : c.loop-child.child-index < length (kids-of (g.C.Clusters.state c.args.clusters.now).source.rows c.args.from.now) = omega (arith, c.loop-child-test.true, many-kids (g.C.Clusters.state c.args.clusters.now).source.rows c.args.from.now c.as_slice-child-items.result.now is) in
    walked-early c.args.from.now c.args.to.now c.loop-child.child-index (g.C.Clusters.state c.args.clusters.now) (g.C.Clusters.state c.loop-child.clusters) c.args.counts.now c.loop-child.counts c.facts.ensures.source c.loop-child.invariant.walked (g.C.Clusters.state c.loop-child.clusters) few (keeps-rows (g.C.Clusters.state c.loop-child.clusters) (g.C.Clusters.state c.loop-child.clusters) (keeps-same (g.C.Clusters.state c.loop-child.clusters)))

pub returns-in-Err-child_path-clause-steps : goal.returns-in-Err-child_path-clause-steps
returns-in-Err-child_path-clause-steps g t c = c.loop-child.invariant.steps

pub copy_block-requires : goal.copy_block-requires
copy_block-requires g t c κs within =
    let is : c.as_slice-child-items.result.now ≡ children (g.C.Clusters.state c.args.clusters.now).source.rows c.args.from.now = c.as_slice-child-items.ensures ∙ c.in-Ok-list.ensures.list ∙ ap (λ (rows : List Entry). children rows c.args.from.now) c.in-Ok.ensures.ok.adds.source.rows in
    let few : c.loop-child.child-index < length (kids-of (g.C.Clusters.state c.args.clusters.now).source.rows c.args.from.now) = omega (arith, c.loop-child-test.true, many-kids (g.C.Clusters.state c.args.clusters.now).source.rows c.args.from.now c.as_slice-child-items.result.now is) in
    let path : c.args.from.now ++ c.child-item.result.name ∷ [] ≡ (get_or (kids-of (g.C.Clusters.state c.args.clusters.now).source.rows c.args.from.now) c.loop-child.child-index no_entry).path = kid-path (g.C.Clusters.state c.args.clusters.now).source.rows c.args.from.now c.as_slice-child-items.result.now c.loop-child.child-index c.child-item.result c.child-item.result is c.loop-child-test.true c.child-item.is in
    let rule : is_relative (c.args.from.now ++ c.child-item.result.name ∷ []) ≡ true = subst (λ (q : List (List ℕ)). is_relative q ≡ true) (sym path) (kid-ruled (g.C.Clusters.state c.args.clusters.now).source.rows c.args.from.now c.loop-child.child-index c.facts.ensures.source few) in
    let short : length (c.args.from.now ++ c.child-item.result.name ∷ []) ≤ 100 = relative-short (c.args.from.now ++ c.child-item.result.name ∷ []) rule in
    let long = ap length c.in-Ok-child_path.ensures.child in
    let next = subst (λ (q : List (List ℕ)). IsNextSubtree q c.args.to.now (g.C.Clusters.state c.loop-child.clusters)) (sym (c.in-Ok-child_path.ensures.child ∙ path)) (walked-kid c.args.from.now c.args.to.now c.loop-child.child-index (g.C.Clusters.state c.args.clusters.now) (g.C.Clusters.state c.loop-child.clusters) c.args.counts.now c.loop-child.counts c.facts.ensures.source c.loop-child.invariant.walked c.requires.next few) in
    (omega (arith, long, length-append c.args.from.now (c.child-item.result.name ∷ []), short), (within, (c.loop-child.invariant.ready, next)))

pub returns-in-Err-copy_block-clause-err : goal.returns-in-Err-copy_block-clause-err
returns-in-Err-copy_block-clause-err g t c =
    let is : c.as_slice-child-items.result.now ≡ children (g.C.Clusters.state c.args.clusters.now).source.rows c.args.from.now = c.as_slice-child-items.ensures ∙ c.in-Ok-list.ensures.list ∙ ap (λ (rows : List Entry). children rows c.args.from.now) c.in-Ok.ensures.ok.adds.source.rows in
    let few : c.loop-child.child-index < length (kids-of (g.C.Clusters.state c.args.clusters.now).source.rows c.args.from.now) = omega (arith, c.loop-child-test.true, many-kids (g.C.Clusters.state c.args.clusters.now).source.rows c.args.from.now c.as_slice-child-items.result.now is) in
    let path : c.args.from.now ++ c.child-item.result.name ∷ [] ≡ (get_or (kids-of (g.C.Clusters.state c.args.clusters.now).source.rows c.args.from.now) c.loop-child.child-index no_entry).path = kid-path (g.C.Clusters.state c.args.clusters.now).source.rows c.args.from.now c.as_slice-child-items.result.now c.loop-child.child-index c.child-item.result c.child-item.result is c.loop-child-test.true c.child-item.is in
    walked-stops c.args.from.now c.args.to.now c.loop-child.child-index (g.C.Clusters.state c.args.clusters.now) (g.C.Clusters.state c.loop-child.clusters) c.args.counts.now c.loop-child.counts c.facts.ensures.source c.loop-child.invariant.walked (g.C.Clusters.state c.copy_block.new.clusters) few (subst (λ (q : List (List ℕ)). StopsWalk c.args.to.now (below (g.C.Clusters.state c.loop-child.clusters).source.rows q) (g.C.Clusters.state c.loop-child.clusters) (g.C.Clusters.state c.copy_block.new.clusters)) (c.in-Ok-child_path.ensures.child ∙ path) c.in-Err-copy_block.ensures.err)

pub returns-in-Err-copy_block-clause-steps : goal.returns-in-Err-copy_block-clause-steps
returns-in-Err-copy_block-clause-steps g t c =
    steps-join g.C.Clusters.follows c.args.clusters.now c.loop-child.clusters c.copy_block.new.clusters c.loop-child.invariant.steps c.copy_block.ensures.steps

pub loop-child-preserved : goal.loop-child-preserved
loop-child-preserved g t c =
    let is : c.as_slice-child-items.result.now ≡ children (g.C.Clusters.state c.args.clusters.now).source.rows c.args.from.now = c.as_slice-child-items.ensures ∙ c.in-Ok-list.ensures.list ∙ ap (λ (rows : List Entry). children rows c.args.from.now) c.in-Ok.ensures.ok.adds.source.rows in
    let few : c.loop-child.child-index < length (kids-of (g.C.Clusters.state c.args.clusters.now).source.rows c.args.from.now) = omega (arith, c.loop-child-test.true, many-kids (g.C.Clusters.state c.args.clusters.now).source.rows c.args.from.now c.as_slice-child-items.result.now is) in
    let path : c.args.from.now ++ c.child-item.result.name ∷ [] ≡ (get_or (kids-of (g.C.Clusters.state c.args.clusters.now).source.rows c.args.from.now) c.loop-child.child-index no_entry).path = kid-path (g.C.Clusters.state c.args.clusters.now).source.rows c.args.from.now c.as_slice-child-items.result.now c.loop-child.child-index c.child-item.result c.child-item.result is c.loop-child-test.true c.child-item.is in
    let next : suc c.loop-child.child-index ≡ c.loop-child.child-index + 1 = omega arith in
    record {
      ready = c.in-Ok-copy_block.ensures.ready;
      steps = steps-join g.C.Clusters.follows c.args.clusters.now c.loop-child.clusters c.copy_block.new.clusters c.loop-child.invariant.steps c.copy_block.ensures.steps;
      walked = subst (λ (n : ℕ). Walked c.args.from.now c.args.to.now n (g.C.Clusters.state c.args.clusters.now) (g.C.Clusters.state c.copy_block.new.clusters) c.args.counts.now c.copy_block.new.counts) next
          (walked-next c.args.from.now c.args.to.now c.loop-child.child-index (g.C.Clusters.state c.args.clusters.now) (g.C.Clusters.state c.loop-child.clusters) c.args.counts.now c.loop-child.counts c.facts.ensures.source c.loop-child.invariant.walked (g.C.Clusters.state c.copy_block.new.clusters) c.copy_block.new.counts few
          (subst (λ (q : List (List ℕ)). AddsCopies c.args.to.now (below (g.C.Clusters.state c.loop-child.clusters).source.rows q) (g.C.Clusters.state c.loop-child.clusters) (g.C.Clusters.state c.copy_block.new.clusters)) (c.in-Ok-child_path.ensures.child ∙ path) c.in-Ok-copy_block.ensures.adds)
          (subst (λ (q : List (List ℕ)). CountsRows (below (g.C.Clusters.state c.loop-child.clusters).source.rows q) c.loop-child.counts c.copy_block.new.counts) (c.in-Ok-child_path.ensures.child ∙ path) c.in-Ok-copy_block.ensures.counts));
    }

pub returns-clause-adds : goal.returns-clause-adds
returns-clause-adds g t c =
    let is : c.as_slice-child-items.result.now ≡ children (g.C.Clusters.state c.args.clusters.now).source.rows c.args.from.now = c.as_slice-child-items.ensures ∙ c.in-Ok-list.ensures.list ∙ ap (λ (rows : List Entry). children rows c.args.from.now) c.in-Ok.ensures.ok.adds.source.rows in
    let many : length (kids-of (g.C.Clusters.state c.args.clusters.now).source.rows c.args.from.now) ≤ c.loop-child.child-index = omega (arith, c.loop-child-test.false, many-kids (g.C.Clusters.state c.args.clusters.now).source.rows c.args.from.now c.as_slice-child-items.result.now is) in
    (walked-all c.args.from.now c.args.to.now c.loop-child.child-index (g.C.Clusters.state c.args.clusters.now) (g.C.Clusters.state c.loop-child.clusters) c.args.counts.now c.loop-child.counts c.facts.ensures.source c.loop-child.invariant.walked many).0

pub returns-clause-counts : goal.returns-clause-counts
returns-clause-counts g t c =
    let is : c.as_slice-child-items.result.now ≡ children (g.C.Clusters.state c.args.clusters.now).source.rows c.args.from.now = c.as_slice-child-items.ensures ∙ c.in-Ok-list.ensures.list ∙ ap (λ (rows : List Entry). children rows c.args.from.now) c.in-Ok.ensures.ok.adds.source.rows in
    let many : length (kids-of (g.C.Clusters.state c.args.clusters.now).source.rows c.args.from.now) ≤ c.loop-child.child-index = omega (arith, c.loop-child-test.false, many-kids (g.C.Clusters.state c.args.clusters.now).source.rows c.args.from.now c.as_slice-child-items.result.now is) in
    (walked-all c.args.from.now c.args.to.now c.loop-child.child-index (g.C.Clusters.state c.args.clusters.now) (g.C.Clusters.state c.loop-child.clusters) c.args.counts.now c.loop-child.counts c.facts.ensures.source c.loop-child.invariant.walked many).1

pub returns-clause-steps : goal.returns-clause-steps
returns-clause-steps g t c = c.loop-child.invariant.steps

pub returns-in-Err-clause-ends : goal.returns-in-Err-clause-ends
returns-in-Err-clause-ends g t c =
    c.in-Err.ensures.ends

pub returns-in-Err-count-clause-ends : goal.returns-in-Err-count-clause-ends
returns-in-Err-count-clause-ends g t c =
    ends-memory g.C.Clusters.state g.C.Clusters.follows g.C.Clusters.store_fails g.C.Clusters.vault_fails (StepRefuses g.C.Clusters.state g.C.Clusters.refuses (IsTooLong c.args.to.now)) c.args.clusters.now c.copy_row.new.clusters c.in-Err-count.end c.in-Err-count.ensures.ends

pub returns-in-Err-list-clause-ends : goal.returns-in-Err-list-clause-ends
returns-in-Err-list-clause-ends g t c =
    ends-last g.C.Clusters.state g.C.Clusters.follows g.C.Clusters.store_fails g.C.Clusters.vault_fails (StepRefuses g.C.Clusters.state g.C.Clusters.refuses (IsTooLong c.args.to.now)) c.args.clusters.now c.copy_row.new.clusters c.list.new.self c.in-Err-list.end c.copy_row.ensures.steps (free-adds c.args.to.now _ (g.C.Clusters.state c.args.clusters.now) (g.C.Clusters.state c.copy_row.new.clusters) c.in-Ok.ensures.ok.adds) (ends-call g.C.Clusters.state g.C.Clusters.follows g.C.Clusters.store_fails g.C.Clusters.vault_fails g.C.Clusters.refuses (IsTooLong c.args.to.now) c.copy_row.new.clusters c.list.new.self c.in-Err-list.end c.in-Err-list.ensures.ends)

pub returns-in-Err-child_path-clause-ends : goal.returns-in-Err-child_path-clause-ends
returns-in-Err-child_path-clause-ends g t c =
    ends-memory g.C.Clusters.state g.C.Clusters.follows g.C.Clusters.store_fails g.C.Clusters.vault_fails (StepRefuses g.C.Clusters.state g.C.Clusters.refuses (IsTooLong c.args.to.now)) c.args.clusters.now c.loop-child.clusters c.in-Err-child_path.end c.in-Err-child_path.ensures.ends

pub returns-in-Err-copy_block-clause-ends : goal.returns-in-Err-copy_block-clause-ends
returns-in-Err-copy_block-clause-ends g t c =
    ends-then g.C.Clusters.state g.C.Clusters.follows g.C.Clusters.store_fails g.C.Clusters.vault_fails (StepRefuses g.C.Clusters.state g.C.Clusters.refuses (IsTooLong c.args.to.now)) c.args.clusters.now c.loop-child.clusters c.copy_block.new.clusters c.in-Err-copy_block.end c.loop-child.invariant.steps (free-adds c.args.to.now _ (g.C.Clusters.state c.args.clusters.now) (g.C.Clusters.state c.loop-child.clusters) c.loop-child.invariant.walked.adds) c.in-Err-copy_block.ensures.ends
