use Rattle.std.proofs.Common.{◌≡◌, ◌+◌, subst, arith, ◌∙◌, ap}
use Rattle.name_store.specs.declared.runs.Run.{Run}
use Rattle.name_store.proofs.RunLemmas.{PartedAt, extended_has, extended_rises}
use Rattle.name_store.proofs.runs.extend.Goals as goal

pub returns-clause-rising : goal.returns-clause-rising
returns-clause-rising c =
    let run = c.index_mut.result.now in
    let next : run.last + 1 ≡ c.args.id = ap (λ (r : Run). r.last + 1) c.index_mut.ensures.value ∙ c.requires.next run in
    extended_rises c.args.runs.now.items c.args.id c.args.at run c.requires.rising c.requires.within (subst (PartedAt c.args.runs.now.items c.args.id) (omega arith) c.requires.begun) c.index_mut.ensures.value next

pub returns-clause-ids : goal.returns-clause-ids
returns-clause-ids c x =
    let run = c.index_mut.result.now in
    let next : run.last + 1 ≡ c.args.id = ap (λ (r : Run). r.last + 1) c.index_mut.ensures.value ∙ c.requires.next run in
    extended_has c.args.runs.now.items c.args.id c.args.at x run c.requires.rising c.requires.within c.index_mut.ensures.value next
