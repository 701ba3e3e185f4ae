-- What a crash leaves of the key log: the one more command that may be after the acknowledged ones.
use Rattle.std.proofs.Common.{◌≡◌, ℕ, Bool, List, Option, None, Some, refl}
use Rattle.hk_base.specs.Disk.{DiskState}
use Rattle.hk_base.specs.declared.names.KeyName.{KeyName}
use Rattle.key_rows.specs.Table.{Table}
use Rattle.kms_calls.specs.declared.calls.KmsCall.{KmsCall}
use Rattle.kms_calls.specs.declared.calls.KmsCall.TheVariants as call
use Rattle.kms_calls.specs.declared.calls.KmsReply.{KmsReply}
use Rattle.key_rows.specs.declared.rows.KeyCommand.{KeyCommand}
use Rattle.kms_store.specs.Store.{IsLeftOf, NoCommand, StoreState}
use Rattle.kms_core.specs.Service.{Logs, OwnOf}
use Rattle.kms_core.specs.State.{ServiceState}
use Rattle.hk_events.specs.declared.event.Line.TheVariants as line
use Rattle.reenc_walk.specs.declared.sent.BatchNote.{BatchNote}
use Rattle.world_run.specs.Batches.{batch_call}
use Rattle.world_run.specs.Own.{OwnOfKeysCall}
use Rattle.kms_core.proofs.ServiceLemmas.{leaving_more, logs_leaving}

-- commands that may be written, stated in another way
pub keys-weaker : (own other : Bool → KeyCommand → Type 0) (table : Table) (pending : Option KeyCommand) (commands : List KeyCommand) (bytes : List ℕ) → ((b : Bool) (c : KeyCommand) → own b c → other b c)
    → IsLeftOf table pending own commands bytes → IsLeftOf table pending other commands bytes
keys-weaker own other table pending commands bytes f l = leaving_more table pending own other commands bytes f l

-- the calls that asks want, and the call for a batch, change no key, and write nothing

pub generate-logs : (old new : DiskState) (store store' : StoreState) (s : ServiceState) (words : ℕ → ℕ) (now : ℕ) (name : KeyName) (answer : KmsReply) (s' : ServiceState) (logged : List KeyCommand)
    → Logs old new store store' (IsLeftOf store.table.keys store.pending (OwnOf s words now (call.Generate name 1) answer s')) logged → Logs old new store store' (IsLeftOf store.table.keys store.pending NoCommand) logged
generate-logs old new store store' s words now name answer s' logged l =
    logs_leaving old new store store' (OwnOf s words now (call.Generate name 1) answer s') NoCommand logged (λ kept command own. let writes : None ≡ Some command = own.is in absurd (cc writes)) l

pub metadata-logs : (old new : DiskState) (store store' : StoreState) (s : ServiceState) (words : ℕ → ℕ) (now : ℕ) (name : KeyName) (answer : KmsReply) (s' : ServiceState) (logged : List KeyCommand)
    → Logs old new store store' (IsLeftOf store.table.keys store.pending (OwnOf s words now (call.Metadata name) answer s')) logged → Logs old new store store' (IsLeftOf store.table.keys store.pending NoCommand) logged
metadata-logs old new store store' s words now name answer s' logged l =
    logs_leaving old new store store' (OwnOf s words now (call.Metadata name) answer s') NoCommand logged (λ kept command own. let writes : None ≡ Some command = own.is in absurd (cc writes)) l

pub batch-logs : (old new : DiskState) (store store' : StoreState) (s : ServiceState) (words : ℕ → ℕ) (now : ℕ) (batch : BatchNote) (answer : KmsReply) (s' : ServiceState) (logged : List KeyCommand)
    → Logs old new store store' (IsLeftOf store.table.keys store.pending (OwnOf s words now (batch_call batch) answer s')) logged → Logs old new store store' (IsLeftOf store.table.keys store.pending NoCommand) logged
batch-logs old new store store' s words now batch answer s' logged l =
    logs_leaving old new store store' (OwnOf s words now (batch_call batch) answer s') NoCommand logged (λ kept command own. let writes : None ≡ Some command = own.is in absurd (cc writes)) l

-- the command that a call of a user may write, with the line of its reply
pub call-logs : (old new : DiskState) (store store' : StoreState) (s : ServiceState) (words : ℕ → ℕ) (now : ℕ) (c : KmsCall) (answer : KmsReply) (s' : ServiceState) (logged : List KeyCommand)
    → Logs old new store store' (IsLeftOf store.table.keys store.pending (OwnOf s words now c answer s')) logged
    → Logs old new store store' (IsLeftOf store.table.keys store.pending (OwnOfKeysCall s words now c (line.Kms answer) s')) logged
call-logs old new store store' s words now c answer s' logged l =
    logs_leaving old new store store' (OwnOf s words now c answer s') (OwnOfKeysCall s words now c (line.Kms answer) s') logged (λ kept command own. record { reply = answer; reply_is = refl; own = own }) l
