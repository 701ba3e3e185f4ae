use Rattle.std.proofs.Common.{◌≡◌, ◌∙◌, List, Option, IfOk, ℕ, false, ap, subst}
use Rattle.std.specs.Option.{option_and_then, option_map_or}
use Rattle.reenc_walk.specs.Walks.{WalkState, has_batch, mark_after}
use Rattle.zone_table.proofs.StatusLists.{found-at, found-none}
use Rattle.name_core.specs.State.{is_walk_of}
use Rattle.name_core.proofs.updates.mark_by.Goals as goal

pub mark_after-requires : goal.mark_after-requires
mark_after-requires c =
    ap (λ (o : Option WalkState). option_map_or (λ w. has_batch w.batches c.args.note.now.sent) o false)
    (found-at (is_walk_of c.args.note.now.session) c.args.walks.now.items c.in-Some.at c.index.result.now c.in-Some.ensures c.index.ensures)
    ∙ c.requires

pub returns-in-None : goal.returns-in-None
returns-in-None c =
    ap (λ (o : Option WalkState). option_and_then (λ w. mark_after w.batches c.args.note.now.sent) o) (found-none (is_walk_of c.args.note.now.session) c.args.walks.now.items c.in-None.ensures)

pub returns-in-Some : goal.returns-in-Some
returns-in-Some c =
    subst (λ (m : Option (List (List ℕ))). IfOk c.mark_after.result (λ mark. mark ≡ m))
    (ap (λ (o : Option WalkState). option_and_then (λ w. mark_after w.batches c.args.note.now.sent) o)
    (found-at (is_walk_of c.args.note.now.session) c.args.walks.now.items c.in-Some.at c.index.result.now c.in-Some.ensures c.index.ensures))
    c.mark_after.ensures
