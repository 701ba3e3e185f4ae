-- The promise on zone files for a history of the namesystem, whatever the keys do meanwhile and afterwards.
use Rattle.std.specs.Prelude.{◌≡◌, ℕ, Bool, true, List, [], ◌∷◌, ◌++◌, Option, Some}
use Rattle.hk_base.specs.Disk.{DiskState, Tells}
use Rattle.hk_base.specs.declared.names.Edek.{Edek}
use Rattle.hk_base.specs.declared.names.KeyName.{KeyName}
use Rattle.kms_calls.specs.declared.calls.KmsCall.TheVariants as key_call
use Rattle.kms_calls.specs.declared.calls.KmsReply.TheVariants as key_reply
use Rattle.kms_core.specs.Calls.{birth_of, row_of}
use Rattle.kms_core.specs.Opening.{unseals}
use Rattle.kms_core.specs.State.{settled}
use Rattle.name_calls.specs.Answers.{answer_of}
use Rattle.name_core.specs.Calls.{superuser}
use Rattle.name_core.specs.State.{service_of, settled as settled_names}
use Rattle.hist_cell.specs.History.{Legal, state_after}
use Rattle.kms_cell.specs.Entries.{KmsEntry}
use Rattle.kms_cell.specs.Steps.{KmsSteps}
use Rattle.kms_cell.specs.Tickets.{KmsAllows}
use Rattle.kms_cell.specs.Views.{KmsView}
use Rattle.kms_cell.specs.declared.acts.KmsAct.TheVariants as key_act
use Rattle.kms_cell.specs.declared.acts.KmsActed.TheVariants as key_acted
use Rattle.name_history.specs.Entries.{NameEntry}
use Rattle.name_history.specs.Views.{NameView}
use Rattle.name_history.specs.declared.acts.NameAct.{NameAct}
use Rattle.name_history.specs.declared.acts.NameAct.TheVariants as act
use Rattle.name_history.specs.declared.acts.NameActed.{NameActed}
use Rattle.name_history.specs.declared.acts.NameActed.TheVariants as acted
use Rattle.world_run.specs.Kept.{FilesKept}
use Rattle.world_run.specs.Ledger.{Draw, Hidden, Ledger, Past, enters, past_of, starts_of}
use Rattle.world_run.specs.Linked.{LinkedWorld, ServicesFit, given}
use Rattle.world_run.specs.Step.{finish_line}
use Rattle.world_run.specs.World.{none_kept}
use Rattle.thread_laws.specs.Serving.{NamesLegal, Uses}
use Rattle.thread_laws.specs.Worlds.{keys_of_view, world_with}

-- The entry of the keys generated this encrypted key, as an ask wants it, and this is its draw: of the version, with the initialization
-- vector, and of the birth of the key. Under the keys after the entry it opens to the draw's data encryption key.
pub record Generates {D W : Type 0} (x : KmsEntry D W) (edek : Edek) (d : Draw) : Type 0 where
  pub name : KeyName
  pub call_is : x.call ≡ key_act.Call superuser (key_call.Generate name 1)
  pub reply_is : x.reply ≡ key_acted.Call (key_reply.Ready (edek ∷ []))
  pub version : d.version ≡ edek.version
  pub iv : d.iv ≡ edek.iv
  pub birth : d.birth ≡ birth_of (row_of (keys_of_view x.after).keys name)
  pub opens : unseals (keys_of_view x.after).keys.table.rows edek ≡ Some d.dek

-- the entries of the ledger that a finish adds, if it enters something: the draw of its encrypted key, under the id of its ask
abbrev pub FinishEnters : {D W : Type 0} → Bool → Option Edek → NameView D W → NameEntry D W → ℕ → Ledger → Type 0
FinishEnters {D = D} {W = W} true (Some edek) v e id entries = (x : KmsEntry D W) × (d : Draw) × Uses v e x × Generates x edek d × (entries ≡ (id, d) ∷ [])
FinishEnters _ _ v e id entries = entries ≡ []

-- A finish enters something if it made a file or began a re-encryption: it was done, or the disk failed at its record, which is pending
-- then. No other call enters anything.
abbrev pub CallEnters : {D W : Type 0} → NameView D W → NameEntry D W → NameAct → NameActed → Ledger → Type 0
CallEnters v e (act.Finish answered) (acted.Finish answer) entries =
    FinishEnters (enters answered.id (finish_line answer) (service_of e.after.names)) (given (answer_of answered.reply)) v e answered.id entries
CallEnters v e _ _ entries = entries ≡ []

-- what is known after an entry: its entries of the ledger are added, and the files of the zones whose re-encryptions they began
pub record KnownNext {D W : Type 0} (v : NameView D W) (e : NameEntry D W) (past next : Past) : Type 0 where
  pub entries : Ledger
  pub enters : CallEnters v e e.call e.reply entries
  pub ledger : next.ledger ≡ past.ledger ++ entries
  pub starts : next.starts ≡ past.starts ++ starts_of (settled_names true (service_of e.after.names)).table entries

-- what is known after a history
abbrev pub KnownAfter : {D W : Type 0} → NameView D W → List (NameEntry D W) → Past → Past → Type 0
KnownAfter v [] past last = (last.ledger ≡ past.ledger) × (last.starts ≡ past.starts)
KnownAfter v (e ∷ es) past last = (next : Past) × KnownNext v e past next × KnownAfter e.after es next last

-- The histories of both services begin in a linked world, in which nothing is kept. The namesystem keeps a new pass of the keys, and has
-- no batch.
pub record BeginsLinked {D W : Type 0} (k : KmsView D W) (v : NameView D W) (h : Hidden) : Type 0 where
  pub start : v.keys.start ≡ Some k
  pub seen : v.keys.seen ≡ []
  pub fronts : v.fronts ≡ []
  pub fit : ServicesFit (world_with (keys_of_view k) (service_of v.names) none_kept)
  pub linked : LinkedWorld (world_with (keys_of_view k) (service_of v.names) none_kept) h

-- the promise after a history of the namesystem, and after every legal history of the keys that begins with what the kept pass has seen:
-- with and without the pending command, and with and without the pending operation
abbrev pub StaysKept : {D W : Type 0} → (D → DiskState) → (W → ℕ → ℕ) → KmsView D W → NameView D W → Past → Type 0
StaysKept {D = D} {W = W} state to_come k last known =
    (more : List (KmsEntry D W)) → Legal (KmsSteps {D = D} {W = W} state to_come) (KmsAllows {S = KmsView D W}) k (last.keys.seen ++ more) → (kept_keys kept_names : Bool)
    → FilesKept known (settled kept_keys (keys_of_view (state_after k (last.keys.seen ++ more)))).table.rows (settled_names kept_names (service_of last.names)).table

pub record Promised {D W : Type 0} (state : D → DiskState) (to_come : W → ℕ → ℕ) (k : KmsView D W) (v : NameView D W) (es : List (NameEntry D W)) (h : Hidden) : Type 0 where
  pub past : Past
  pub known : KnownAfter v es (past_of h) past
  pub kept : StaysKept state to_come k (state_after v es) past

-- Every legal history of the namesystem keeps the promise, if the disk of the keys tells its content.
abbrev pub KeepsPromise : {D W : Type 0} → (D → DiskState) → (W → ℕ → ℕ) → Type 0
KeepsPromise {D = D} {W = W} state to_come =
    (k : KmsView D W) (v : NameView D W) (es : List (NameEntry D W)) (h : Hidden) → BeginsLinked k v h → Tells (state k.disk) → NamesLegal state to_come v es → Promised state to_come k v es h
