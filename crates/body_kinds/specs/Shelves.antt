-- Bodies in memory.
use Rattle.std.specs.Prelude.{ℕ, Bool, List, [], ◌∷◌, ◌==◌, if◌then◌else◌}
use Rattle.body_kinds.specs.declared.shelf.Body.{Body}

abbrev pub has_id : ℕ → Body → Bool
has_id id body = body.id == id

-- the bytes of the body with an id, or none
abbrev pub body_in : List Body → ℕ → List ℕ
body_in [] id = []
body_in (body ∷ bodies) id = if has_id id body then body.bytes.items else body_in bodies id
