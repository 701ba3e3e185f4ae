use Rattle.name_rest.proofs.BodyLemmas.{adds_then, adds_token}
use Rattle.name_rest.proofs.bodies.write_exception.Goals as goal

pub returns : goal.returns
returns c =
    adds_then (adds_token c.in_ok-begin_object.ensures.ok c.in_ok-begin_object.ensures.room.0)
    (adds_then c.in_ok-write_member.ensures
    (adds_then c.in_ok-write_member-2.ensures (adds_token c.in_ok-end_object.ensures.ok c.in_ok-end_object.ensures.room.0)))
