-- How contracts see sources, sinks and disks in memory.
use Rattle.std.specs.Prelude.{◌≡◌, ◌+◌, ◌-◌, ◌^◌, ℕ, List, Contains, Result, min, IsErr, MatchResult}

-- the numbers of the calls that must fail, from 1; the number of calls, of failures, and of failures for lack of memory
pub record Plan : Type 0 where
  pub failing : List ℕ
  pub made : ℕ
  pub faults : ℕ
  pub shortages : ℕ

-- the next value of a 64-bit count that stops at its maximum
abbrev pub counted : ℕ → ℕ
counted n = min (n + 1) (2 ^ 64 - 1)

-- a call was made, and a fault was counted if it failed
pub record CallMade {T E : Type 0} (old new : Plan) (result : Result T E) : Type 0 where
  pub failing : new.failing ≡ old.failing
  pub made : new.made ≡ counted old.made
  pub faults : MatchResult result (λ _. new.faults ≡ old.faults) (λ _. new.faults ≡ counted old.faults)

-- the next call is planned to fail
abbrev pub NextFails : Plan → Type 0
NextFails p = Contains p.failing (counted p.made)

-- A call that may allocate follows its plan: it is counted, it fails if that is planned, and otherwise only
-- if memory runs out, which is counted separately.
pub record FollowsPlan {T E : Type 0} (old new : Plan) (result : Result T E) : Type 0 where
  pub call : CallMade old new result
  pub listed : NextFails old → IsErr result
  pub no_shortage : NextFails old → new.shortages ≡ old.shortages
  pub unlisted : ¬ NextFails old → MatchResult result (λ _. new.shortages ≡ old.shortages) (λ _. new.shortages ≡ counted old.shortages)

-- the bytes that are left, and the most that a read returns
pub record Supply : Type 0 where
  pub left : List ℕ
  pub most : ℕ
  pub plan : Plan

-- the bytes that were written, the capacity for more, and the most that a write takes
pub record Collected : Type 0 where
  pub written : List ℕ
  pub room : ℕ
  pub most : ℕ
  pub plan : Plan
