use Rattle.std.proofs.Common.{◌∙◌, Option, ap}
use Rattle.std.specs.Option.{option_map_or}
use Rattle.reenc_walk.specs.Walks.{WalkState, outstanding}
use Rattle.zone_table.proofs.StatusLists.{found-at, found-none}
use Rattle.name_core.specs.Walks.{is_walk_of}
use Rattle.name_core.proofs.walks.outstanding.Goals as goal

pub returns-in-Some : goal.returns-in-Some
returns-in-Some c =
    c.outstanding.ensures
    ∙ ap (λ (o : Option WalkState). option_map_or (λ w. outstanding w.batches) o 0)
    (found-at (is_walk_of c.args.session) c.args.walks.now.items c.in-Some.at c.index.result.now c.in-Some.ensures c.index.ensures)

pub returns-in-None : goal.returns-in-None
returns-in-None c =
    ap (λ (o : Option WalkState). option_map_or (λ w. outstanding w.batches) o 0) (found-none (is_walk_of c.args.session) c.args.walks.now.items c.in-None.ensures)
