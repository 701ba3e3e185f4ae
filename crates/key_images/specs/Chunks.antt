-- Bytes as pieces of one length, one after the other.
use Rattle.std.specs.Prelude.{ℕ, zero, suc, List, [], ◌∷◌, take, drop}

abbrev pub chunks : ℕ → ℕ → List ℕ → List (List ℕ)
chunks len zero bytes = []
chunks len (suc n) bytes = take len bytes ∷ chunks len n (drop len bytes)
