-- The prefix that is written so far.
use Rattle.std.proofs.Common.{ℕ, ◌+◌, ◌-◌, ◌≤◌, List, length, take, drop, sym, subst, Option, take-append-drop, length-take, arith}
use Rattle.std.specs.Io.KnownBytes.{Appends}
use Rattle.std.proofs.KnownBytes.{Appends-trans}
use Rattle.std.proofs.Math.Seq.{take-add}
use Rattle.std.proofs.lemmas.List.{take_rest}
use Rattle.hk_base.specs.Writing.{WroteFront}

pub front_of : (old new : Option (List ℕ)) (n : ℕ) (bytes : List ℕ) → Appends old new (take n bytes) → WroteFront old new bytes
front_of old new n bytes wrote = record { front = take n bytes; more = drop n bytes; whole = take-append-drop n bytes; wrote = wrote }

pub wrote_more : (old mid new : Option (List ℕ)) (done n : ℕ) (bytes : List ℕ) → Appends old mid (take done bytes) → Appends mid new (take n (take (length bytes - done) (drop done bytes))) → Appends old new (take (done + n) bytes)
wrote_more old mid new done n bytes first second = subst (Appends old new) (sym (take-add done n bytes)) (Appends-trans old mid new _ _ first (subst (λ (rest : List ℕ). Appends mid new (take n rest)) (take_rest bytes done) second))

pub length_rest : (bytes : List ℕ) (done : ℕ) → length (take (length bytes - done) (drop done bytes)) ≤ length bytes - done
length_rest bytes done = omega (arith, length-take (length bytes - done) (drop done bytes))
