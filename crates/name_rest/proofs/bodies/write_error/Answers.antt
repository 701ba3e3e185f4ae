use Rattle.name_rest.proofs.BodyLemmas.{adds_then, adds_token}
use Rattle.name_rest.proofs.bodies.write_error.Goals as goal

pub returns : goal.returns
returns c =
    adds_then (adds_token {new = c.begin_object.new.self} c.in_ok-begin_object.ensures.ok c.in_ok-begin_object.ensures.room.0)
    (adds_then (adds_token {new = c.key.new.self} c.in_ok-key.ensures.ok c.in_ok-key.ensures.room.0)
    (adds_then c.in_ok-write_exception.ensures (adds_token {new = c.end_object.new.self} c.in_ok-end_object.ensures.ok c.in_ok-end_object.ensures.room.0)))
