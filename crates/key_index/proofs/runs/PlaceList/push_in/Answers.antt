use Rattle.std.proofs.Common.{ℕ, ◌<◌, List, [], ◌∷◌, ◌++◌, length, ap, ◌∙◌, arith}
use Rattle.std.specs.List.{concat}
use Rattle.std.specs.Vec.{vec_capacity}
use Rattle.key_index.proofs.RunLemmas.{few_runs, in_new_run}
use Rattle.key_index.proofs.runs.PlaceList.push_in.Goals as goal

pub returns-in_err-push_run-clause-room : goal.returns-in_err-push_run-clause-room
returns-in_err-push_run-clause-room c room =
    let few = few_runs c.self.inside.runs.items c.self.invariant in
    let same = ap (λ (runs : List (List ℕ)). length runs) c.if-try_push_to_last.ensures.same in
    let enough : length c.try_push_to_last.new.runs.items < vec_capacity c.args.buffer = omega (arith, few, same, ap (λ (l : List ℕ). length l) c.self.view_is, room) in
    let no = c.in_err-push_run.ensures.room enough in
    absurd cc

pub returns-clause-ok : goal.returns-clause-ok
returns-clause-ok c =
    ap (λ (runs : List (List ℕ)). concat runs) c.in_ok-push_run.ensures.ok
    ∙ ap (λ (run : List ℕ). concat (c.try_push_to_last.new.runs.items ++ run ∷ [])) c.new.ensures
    ∙ in_new_run c.try_push_to_last.new.runs.items c.args.place
    ∙ ap (λ (runs : List (List ℕ)). concat runs ++ c.args.place ∷ []) c.if-try_push_to_last.ensures.same
    ∙ ap (λ (places : List ℕ). places ++ c.args.place ∷ []) c.self.view_is
