use Rattle.std.proofs.Common.{[], ◌∷◌}
use Rattle.key_rows.specs.declared.rows.KeyRow.{KeyRow}
use Rattle.key_rows.proofs.TableLemmas.{sound_create, sound_roll, sound_delete, is_absent}
use Rattle.key_rows.proofs.Orders.{index_more, index_rolled, index_left}
use Rattle.key_rows.proofs.table.KeyTable.apply.Goals as goal

pub invariant_of-self-in-Create : goal.invariant_of-self-in-Create
invariant_of-self-in-Create c =
    let may = rw (← c.self.view_is, c.in-Create.is) at c.requires in
    let row : KeyRow = record { name = c.in-Create.name; birth = c.in-Create.birth; bits = c.in-Create.bits; materials = c.in-Create.material ∷ []; description = c.in-Create.description; created = c.in-Create.created } in (
      rw (c.push_reserved.ensures.items, c.in_ok-reserve-in-Create.ensures.items, c.in_ok-materials-in-Create.ensures.made) (sound_create _ _ _ _ _ _ _ c.self.invariant.0 may),
      rw (c.push_reserved.ensures.items, c.in_ok-reserve-in-Create.ensures.items, c.in_ok-materials-in-Create.ensures.made)
          (index_more c.self.inside.rows.items row c.self.inside.names.items c.put.new.entries.items c.self.invariant.1 (is_absent _ _ c.in-Create.name c.in-Create.bits c.in-Create.description c.in-Create.created c.in-Create.material may) c.put.ensures.order c.in_ok-put-in-Create.ensures.ok),
      rw c.replace-buffer.ensures.after c.new.ensures.items,
    )

pub invariant_of-self-in-Roll : goal.invariant_of-self-in-Roll
invariant_of-self-in-Roll c =
    let may = rw (← c.self.view_is, c.in-Roll.is) at c.requires in (
      rw c.in_ok-roll-in-Roll.ensures.ok (sound_roll _ c.in-Roll.birth c.in-Roll.number c.in-Roll.material c.self.invariant.0 may),
      rw c.in_ok-roll-in-Roll.ensures.ok (index_rolled c.in-Roll.birth c.in-Roll.material c.self.inside.rows.items c.self.inside.names.items c.self.invariant.1),
      rw c.replace-buffer-in-Roll.ensures.after c.new-in-Roll.ensures.items,
    )

pub invariant_of-self-in-Delete : goal.invariant_of-self-in-Delete
invariant_of-self-in-Delete c = (
  rw c.remove.ensures (sound_delete _ c.in-Delete.birth c.self.invariant.0),
  rw (c.remove.ensures, c.remove_birth.ensures) (index_left c.in-Delete.birth c.self.inside.rows.items c.self.inside.names.items c.self.invariant.0.names c.self.invariant.1),
  c.self.invariant.2,
)
