-- The calls of users: the verdict of the access control lists comes first.
use Rattle.std.specs.Prelude.{◌≡◌, ℕ, ◌+◌, Bool, false, not, List, [], None, Result, Ok, Err, if◌then◌else◌}
use Rattle.hk_base.specs.Disk.{DiskState, Image, Tells}
use Rattle.hk_base.specs.Faults.{Rose}
use Rattle.hk_base.specs.declared.texts.Text.{Text}
use Rattle.key_rows.specs.declared.rows.KeyCommand.{KeyCommand}
use Rattle.kms_calls.specs.declared.calls.KmsCall.{KmsCall}
use Rattle.kms_calls.specs.declared.calls.KmsCall.TheVariants as call
use Rattle.kms_calls.specs.declared.calls.KmsReply.{KmsReply}
use Rattle.kms_calls.specs.declared.calls.KmsReply.TheVariants as reply
use Rattle.kms_calls.specs.declared.calls.KmsRefusal.TheVariants as refusal
use Rattle.prop_text.specs.declared.lines.PropLine.{PropLine}
use Rattle.kms_acls.specs.declared.answers.Shown.{Shown}
use Rattle.kms_acls.specs.declared.answers.Denied.{Denied}
use Rattle.kms_acls.specs.Lists.{Lists}
use Rattle.kms_acls.specs.Verdict.{verdict}
use Rattle.kms_store.specs.Store.{IsLeftOf, StoreState}
use Rattle.eek_queues.specs.Queues.{AllQueues}
use Rattle.kms_core.specs.State.{Running, ServiceState, service_of}
use Rattle.kms_core.specs.Service.{Logs, OwnOf, KmsServes}

-- A running service with its users: the access control lists, the store, the counter of the next birth, and the queues of ready keys.
pub record RunningKms : Type 0 where
  pub acls : Lists
  pub store : StoreState
  pub next : ℕ
  pub ready : AllQueues

-- the service without its lists
abbrev pub running : RunningKms → Running
running k = record { store = k.store; next = k.next; ready = k.ready }

-- Create and Roll return the material of the new version only if it is shown to the user. Every other call shows its whole
-- answer.
abbrev pub hides : Shown → KmsCall → Bool
hides shown (call.Create name bits material description) = not shown.material
hides shown (call.Roll name material) = not shown.material
hides shown _ = false

abbrev pub without_material : KmsReply → KmsReply
without_material (reply.Version version material) = reply.Version version None
without_material result = result

-- the part of a reply that the user sees
abbrev pub reply_to : Shown → KmsCall → KmsReply → KmsReply
reply_to shown c result = if hides shown c then without_material result else result

-- A call that is denied does nothing.
pub record Denies (denied : Denied) (s : ServiceState) (result : KmsReply) (drawn : ℕ) (logged : List KeyCommand) (s' : ServiceState) : Type 0 where
  pub reply_is : result ≡ reply.Refused (refusal.Denied denied.table denied.op)
  pub none_drawn : drawn ≡ 0
  pub none_logged : logged ≡ []
  pub same : s' ≡ s

-- A call that is permitted is served.
pub record Permits (shown : Shown) (s : ServiceState) (words : ℕ → ℕ) (now : ℕ) (c : KmsCall) (fault tells : Type 0) (result : KmsReply) (drawn : ℕ) (logged : List KeyCommand) (s' : ServiceState) : Type 0 where
  pub reply : KmsReply
  pub serves : KmsServes s words now c fault tells reply drawn logged s'
  pub reply_is : result ≡ reply_to shown c reply

abbrev pub ServesUnder : Result Shown Denied → ServiceState → (ℕ → ℕ) → ℕ → KmsCall → Type 0 → Type 0 → KmsReply → ℕ → List KeyCommand → ServiceState → Type 0
ServesUnder (Ok shown) s words now c fault tells result drawn logged s' = Permits shown s words now c fault tells result drawn logged s'
ServesUnder (Err denied) s words now c fault tells result drawn logged s' = Denies denied s result drawn logged s'

-- A call of a user under the properties of these lines: the verdict comes first, before anything is settled.
abbrev pub ServesUser : List PropLine → Text → ServiceState → (ℕ → ℕ) → ℕ → KmsCall → Type 0 → Type 0 → KmsReply → ℕ → List KeyCommand → ServiceState → Type 0
ServesUser lines user s words now c fault tells result drawn logged s' = ServesUnder (verdict lines user c) s words now c fault tells result drawn logged s'

-- The disk is unchanged: it reads the same, and a crash leaves nothing that it might not have left before.
pub record IsUntouched (old new : DiskState) : Type 0 where
  pub reads : new.reads ≡ old.reads
  pub faults : new.faults ≡ old.faults
  pub moment : new.moment ≡ old.moment
  pub leaves : (file : ℕ) (c : List ℕ) → new.leaves file c → old.leaves file c
  pub left : (t : ℕ) (c : Image) → new.left_since t c → old.left_since t c

-- A call of a user on a running service over its disk. The lists stay the same.
pub record ActsFor (lines : List PropLine) (user : Text) (old new : DiskState) (k : RunningKms) (words : ℕ → ℕ) (now : ℕ) (c : KmsCall) (result : KmsReply) (k' : RunningKms) (words' : ℕ → ℕ) : Type 0 where
  pub drawn : ℕ
  pub logged : List KeyCommand
  pub serves : ServesUser lines user (service_of (running k)) words now c (Rose old.faults new.faults) (Tells old) result drawn logged (service_of (running k'))
  pub rest : (n : ℕ) → words' n ≡ words (drawn + n)
  pub disk : Logs old new k.store k'.store (IsLeftOf k.store.table.keys k.store.pending (OwnOf (service_of (running k)) words now c result (service_of (running k')))) logged
  -- a denied call leaves the disk unchanged
  pub untouched : (denied : Denied) → verdict lines user c ≡ Err denied → IsUntouched old new
  pub lists : k'.acls ≡ k.acls
