-- A call that changes nothing and reads no older material answers from memory.
use Rattle.std.proofs.Common.{◌≡◌, ◌⊎◌, inl, inr, ℕ, true, false, List, sym, ◌∙◌}
use Rattle.key_rows.specs.declared.rows.KeyCommand.{KeyCommand}
use Rattle.kms_calls.specs.declared.calls.KmsCall.{KmsCall}
use Rattle.kms_calls.specs.declared.calls.KmsReply.{KmsReply}
use Rattle.kms_core.specs.Calls.{KmsActs}
use Rattle.kms_core.specs.Service.{OnlyReads, ReadFails, ReadsOlder, reads_older}
use Rattle.kms_core.specs.State.{ServiceState}

pub acts-from-memory : (s : ServiceState) (words : ℕ → ℕ) (now : ℕ) (c : KmsCall) (fault tells : Type 0) (reply : KmsReply) (drawn : ℕ) (logged : List KeyCommand) (s' : ServiceState)
    → reads_older s.keys c ≡ false → OnlyReads s words now c fault tells reply drawn logged s' → KmsActs s.keys words now c reply drawn s.keys
acts-from-memory s words now c fault tells reply drawn logged s' none reads = known (reads.acts (λ older. never older))
  where
    never : {X : Type 0} → ReadsOlder s.keys c → X
    never r = let no : false ≡ true = sym none ∙ r.older in absurd cc

    known : KmsActs s.keys words now c reply drawn s.keys ⊎ ReadFails s.keys c fault reply → KmsActs s.keys words now c reply drawn s.keys
    known (inl acts) = acts
    known (inr fails) = never fails.reads
