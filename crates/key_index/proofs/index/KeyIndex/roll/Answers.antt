use Rattle.std.proofs.Common.{◌<◌, refl}
use Rattle.std.specs.Vec.{vec_capacity}
use Rattle.key_index.specs.Index.{Index}
use Rattle.key_index.proofs.Sounds.{kept, named_roll, roll_room, room_of, sound_roll}
use Rattle.key_index.proofs.index.KeyIndex.roll.Goals as goal

pub roll-requires-clause-rising : goal.roll-requires-clause-rising
roll-requires-clause-rising c = (c.self.inside.greatest, c.self.invariant.0.births)

pub invariant_of-self : goal.invariant_of-self
invariant_of-self c =
    let x : Index = record { opening = c.self.inside.opening; greatest = c.self.inside.greatest; rows = c.self.inside.rows.items } in
    let same = kept x c.roll.new.rows.items c.self.inside.names.items c.self.inside.names.items c.self.invariant.0 c.self.invariant.1 c.in_err-roll.ensures.err refl in
    (same.0, same.1, rw c.replace-buffer.ensures.after c.new.ensures.items)

pub invariant_of-self-2 : goal.invariant_of-self-2
invariant_of-self-2 c =
    let x : Index = record { opening = c.self.inside.opening; greatest = c.self.inside.greatest; rows = c.self.inside.rows.items } in
    let may = rw (← c.self.view_is) at c.requires in (
      rw c.in_ok-roll.ensures.ok (sound_roll x c.args.birth c.args.number c.args.material c.args.place c.self.invariant.0 may),
      rw c.in_ok-roll.ensures.ok (named_roll x c.args.birth c.args.number c.args.material c.args.place c.self.invariant.0 may c.self.inside.names.items c.self.invariant.1),
      rw c.replace-buffer.ensures.after c.new.ensures.items,
    )

pub returns-in_err-roll-clause-room : goal.returns-in_err-roll-clause-room
returns-in_err-roll-clause-room c room =
    let x : Index = record { opening = c.self.inside.opening; greatest = c.self.inside.greatest; rows = c.self.inside.rows.items } in
    let may = rw (← c.self.view_is) at c.requires in
    let enough : c.args.number < vec_capacity c.self.inside.ready = room_of _ _ _ (rw (← c.self.view_is) at room) in
    let no = c.in_err-roll.ensures.room (roll_room x c.args.birth c.args.number c.args.material c.args.place c.self.invariant.0 may (vec_capacity c.replace-buffer.result) (rw c.replace-buffer.ensures.value enough)) in
    absurd cc
