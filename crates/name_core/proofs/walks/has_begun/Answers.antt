use Rattle.std.proofs.Common.{◌∙◌, ap, is_some}
use Rattle.reenc_walk.specs.Walks.{WalkState}
use Rattle.zone_table.proofs.StatusLists.{found-at, found-none}
use Rattle.name_core.specs.Walks.{is_walk_of}
use Rattle.name_core.proofs.WalkLemmas.{walk-found, walk-new}
use Rattle.name_core.proofs.walks.has_begun.Goals as goal

pub returns-in-Some : goal.returns-in-Some
returns-in-Some c =
    c.has_begun.ensures
    ∙ ap (λ (w : WalkState). is_some w.cursor)
    (walk-found c.args.walks.now.items c.args.status.now c.index.result.now
    (found-at (is_walk_of c.args.status.now.session) c.args.walks.now.items c.in-Some.at c.index.result.now c.in-Some.ensures c.index.ensures))

pub returns-in-None : goal.returns-in-None
returns-in-None c =
    c.is_some.ensures
    ∙ ap (λ (w : WalkState). is_some w.cursor)
    (walk-new c.args.walks.now.items c.args.status.now (found-none (is_walk_of c.args.status.now.session) c.args.walks.now.items c.in-None.ensures))
