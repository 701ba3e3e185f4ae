use Rattle.std.proofs.Common.{refl}
use Rattle.key_index.specs.Index.{Index}
use Rattle.key_index.proofs.Sounds.{kept}
use Rattle.key_index.proofs.index.KeyIndex.reserve_apply.Goals as goal

pub invariant_of-self : goal.invariant_of-self
invariant_of-self c =
    let x : Index = record { opening = c.self.inside.opening; greatest = c.self.inside.greatest; rows = c.self.inside.rows.items } in
    let same = kept x c.reserve.new.self.items c.self.inside.names.items c.self.inside.names.items c.self.invariant.0 c.self.invariant.1 c.reserve.ensures.items refl in
    (same.0, same.1, c.self.invariant.2)

pub invariant_of-self-in_err-reserve-2 : goal.invariant_of-self-in_err-reserve-2
invariant_of-self-in_err-reserve-2 c =
    let x : Index = record { opening = c.self.inside.opening; greatest = c.self.inside.greatest; rows = c.self.inside.rows.items } in
    let same = kept x c.reserve.new.self.items c.self.inside.names.items c.reserve-2.new.self.items c.self.invariant.0 c.self.invariant.1 c.reserve.ensures.items c.reserve-2.ensures.items in
    (same.0, same.1, c.self.invariant.2)

pub invariant_of-self-2 : goal.invariant_of-self-2
invariant_of-self-2 c =
    let x : Index = record { opening = c.self.inside.opening; greatest = c.self.inside.greatest; rows = c.self.inside.rows.items } in
    let same = kept x c.reserve.new.self.items c.self.inside.names.items c.reserve-2.new.self.items c.self.invariant.0 c.self.invariant.1 c.reserve.ensures.items c.reserve-2.ensures.items in
    (same.0, same.1, c.in_ok-ready.ensures.items)
