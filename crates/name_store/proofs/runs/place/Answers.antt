use Rattle.std.proofs.Common.{◌≡◌, ◌-◌, rules, length, List, Some, subst}
use Rattle.std.specs.Prelude.{slice_get}
use Rattle.name_store.specs.declared.runs.Run.{Run}
use Rattle.name_store.proofs.RunLemmas.{PartedAt, parted_past}
use Rattle.name_store.proofs.runs.place.Goals as goal

pub returns-then-run-id-clause-parted : goal.returns-then-run-id-clause-parted
returns-then-run-id-clause-parted c =
    let runs = c.args.runs.now.items in
    let last = subst (λ (rs : List Run). Some c.in-Some.run'.now ≡ slice_get rs (length rs - 1)) c.deref.ensures.value c.in-Some.ensures.value in
    let len : length runs ≡ c.len.result = search rules in
    subst (PartedAt runs c.args.id) len (parted_past runs c.args.id c.in-Some.run'.now c.requires last c.if-run-id.true)
