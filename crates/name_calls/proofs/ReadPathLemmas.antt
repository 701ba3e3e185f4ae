-- Paths that go through a snapshot.
use Rattle.std.proofs.Common.{◌≡◌, ℕ, ◌+◌, ◌<◌, ◌≤◌, suc, Bool, true, false, cond, ◌&&◌, List, [], ◌∷◌, length, get_or, drop, Option, Some, None, is_some, option_map, refl, sym, ap, ◌∙◌, arith}
use Rattle.std.proofs.Math.Seq.{drop-cons}
use Rattle.std.proofs.lemmas.List.{drop_all}
use Rattle.name_calls.specs.Paths.{is_component, relative}
use Rattle.name_calls.specs.ReadPaths.{as_it_was, mark_at, read_below, read_directory, read_in_snapshot, read_parts, snapshot_name, starts_mark}
use Rattle.name_calls.proofs.PathLemmas.{parts_of}

shifted : (o : Option ℕ) (k : ℕ) → option_map (λ n. n + k) (option_map (λ n. n + 1) o) ≡ option_map (λ n. n + (k + 1)) o
shifted None k = refl
shifted (Some n) k = ap (λ (m : ℕ). Some m) (omega arith)

-- the first mark at index k or later
abbrev pub mark-from : List ℕ → ℕ → Option ℕ
mark-from bytes k = option_map (λ n. n + k) (mark_at (drop k bytes))

one-more : (k : ℕ) → suc k ≡ k + 1
one-more k = omega arith

unroll : (bytes : List ℕ) (k : ℕ) → k < length bytes → mark_at (drop k bytes) ≡ cond (starts_mark (drop k bytes)) (Some 0) (option_map (λ n. n + 1) (mark_at (drop (k + 1) bytes)))
unroll bytes k within =
    let split : drop k bytes ≡ get_or bytes k 0 ∷ drop (k + 1) bytes = drop-cons bytes k 0 within ∙ ap (λ (n : ℕ). get_or bytes k 0 ∷ drop n bytes) (one-more k) in
    ap mark_at split ∙ ap (λ (xs : List ℕ). cond (starts_mark xs) (Some 0) (option_map (λ n. n + 1) (mark_at (drop (k + 1) bytes)))) (sym split)

-- no mark begins at index k
pub mark-later : (bytes : List ℕ) (k : ℕ) → k < length bytes → starts_mark (drop k bytes) ≡ false → mark-from bytes k ≡ mark-from bytes (k + 1)
mark-later bytes k within none =
    let rest = mark_at (drop (k + 1) bytes) in
    ap (option_map (λ n. n + k)) (unroll bytes k within ∙ ap (λ (t : Bool). cond t (Some 0) (option_map (λ n. n + 1) rest)) none) ∙ shifted rest k

none-before : (k : ℕ) → 0 + k ≡ k
none-before k = omega arith

-- one begins there
pub mark-here : (bytes : List ℕ) (k : ℕ) → k < length bytes → starts_mark (drop k bytes) ≡ true → mark-from bytes k ≡ Some k
mark-here bytes k within here =
    ap (option_map (λ n. n + k)) (unroll bytes k within ∙ ap (λ (t : Bool). cond t (Some 0) (option_map (λ n. n + 1) (mark_at (drop (k + 1) bytes)))) here) ∙ ap (λ (n : ℕ). Some n) (none-before k)

pub mark-first : (bytes : List ℕ) → mark-from bytes 0 ≡ mark_at bytes
mark-first bytes = go (mark_at bytes)
  where
    go : (o : Option ℕ) → option_map (λ n. n + 0) o ≡ o
    go None = refl
    go (Some n) = ap (λ (m : ℕ). Some m) (omega arith)

pub mark-none : (bytes : List ℕ) (k : ℕ) → length bytes ≤ k → mark-from bytes k ≡ None
mark-none bytes k past = ap (λ (xs : List ℕ). option_map (λ n. n + k) (mark_at xs)) (drop_all k bytes past)

and-false : (t : Bool) → (t && false) ≡ false
and-false true = refl
and-false false = refl

some-of-parts : (p : Option (List (List ℕ))) (name : List ℕ) (below : Option (List (List ℕ))) → is_some (read_parts p name below) ≡ (is_some p && is_component name && is_some below)
some-of-parts None name below = refl
some-of-parts (Some p) name None = sym (and-false (is_component name))
some-of-parts (Some p) name (Some below) = go (is_component name)
  where
    go : (t : Bool) → is_some (cond t (Some (as_it_was p name below)) None) ≡ (t && true)
    go true = refl
    go false = refl

pub some-parts : (front rest : List ℕ) → is_some (read_in_snapshot front rest) ≡ (is_some (read_directory front) && is_component (snapshot_name rest) && is_some (read_below (drop (length (snapshot_name rest)) rest)))
some-parts front rest = some-of-parts (read_directory front) (snapshot_name rest) (read_below (drop (length (snapshot_name rest)) rest))

pub below-more : (bytes : List ℕ) → 2 ≤ length bytes → read_below bytes ≡ relative (parts_of (drop 1 bytes))
below-more [] two = absurd (omega arith)
below-more (b ∷ []) two = absurd (omega arith)
below-more (b ∷ c ∷ bytes) two = refl
