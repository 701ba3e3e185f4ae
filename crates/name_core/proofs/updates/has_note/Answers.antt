use Rattle.std.proofs.Common.{◌∙◌, Option, false, ap}
use Rattle.std.specs.Option.{option_map_or}
use Rattle.reenc_walk.specs.Walks.{WalkState}
use Rattle.zone_table.proofs.StatusLists.{found-at, found-none}
use Rattle.name_core.specs.State.{is_walk_of}
use Rattle.name_core.specs.Updates.{has_note}
use Rattle.name_core.proofs.updates.has_note.Goals as goal

pub returns-in-None : goal.returns-in-None
returns-in-None c =
    ap (λ (o : Option WalkState). option_map_or (has_note c.args.note.now) o false) (found-none (is_walk_of c.args.session) c.args.walks.now.items c.in-None.ensures)

pub returns-in-Some : goal.returns-in-Some
returns-in-Some c =
    c.is_note_of.ensures
    ∙ ap (λ (o : Option WalkState). option_map_or (has_note c.args.note.now) o false)
    (found-at (is_walk_of c.args.session) c.args.walks.now.items c.in-Some.at c.index.result.now c.in-Some.ensures c.index.ensures)
