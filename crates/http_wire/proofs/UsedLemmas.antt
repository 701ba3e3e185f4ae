-- The bytes that were used so far.
use Rattle.std.proofs.Common.{◌≡◌, ℕ, ◌≤◌, ◌+◌, arith, length, length-append, length-take, List, [], ◌++◌, take, drop, Option, None, Some, sym, ap, subst, ◌∙◌, append_assoc, take-append-drop}
use Rattle.std.specs.Io.KnownBytes.{Consumes}
use Rattle.std.proofs.KnownBytes.{Consumes-trans}
use Rattle.http_wire.specs.Reading.{ahead}

-- a prefix of the buffer is used
pub front_used : (n : ℕ) (buffer : List ℕ) (left : Option (List ℕ)) → Consumes (ahead buffer left) (ahead (drop n buffer) left) (take n buffer)
front_used n buffer None = tt
front_used n buffer (Some bytes) = ap (λ (l : List ℕ). l ++ bytes) (sym (take-append-drop n buffer)) ∙ append_assoc (take n buffer) (drop n buffer) bytes

-- after some bytes, a block is read and a prefix of it is used
pub used_from_buffer : (n : ℕ) (start mid : Option (List ℕ)) (filled buffer : List ℕ) (left : Option (List ℕ)) (used : List ℕ) → Consumes start mid used → Consumes mid (ahead filled left) [] → buffer ≡ drop n filled → Consumes start (ahead buffer left) (used ++ take n filled)
used_from_buffer n start mid filled buffer left used before kept moved =
    let here : Consumes mid (ahead filled left) [] = kept in
    let front : Consumes mid (ahead (drop n filled) left) (take n filled) = Consumes-trans mid (ahead filled left) (ahead (drop n filled) left) [] (take n filled) here (front_used n filled left) in
    Consumes-trans start mid (ahead buffer left) used (take n filled) before (subst (λ (s : List ℕ). Consumes mid (ahead s left) (take n filled)) (sym moved) front)

-- at most as many bytes are used as are missing
pub within_size : (n size : ℕ) (used more : List ℕ) → n + length used ≤ size → length (used ++ take n more) ≤ size
within_size n size used more le = omega (arith, length-append used (take n more), length-take n more)
