use Rattle.std.proofs.Common.{ap, ◌∙◌}
use Rattle.key_index.specs.Adding.{put_by_birth}
use Rattle.key_index.proofs.Addings.{insert_is}
use Rattle.key_index.proofs.adding.add.Goals as goal

pub returns-in-Ok-insert-clause-rows : goal.returns-in-Ok-insert-clause-rows
returns-in-Ok-insert-clause-rows c =
    c.in-Ok-insert.ensures.items
    ∙ insert_is c.args.placed c.insert_name.new.rows.items c.position_for-at.result c.position_for-at.ensures.most c.position_for-at.ensures.parted
    ∙ ap (put_by_birth c.args.placed) c.in-Ok.ensures.rows
