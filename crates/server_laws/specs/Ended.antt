-- What a server that has ended leaves: each log holds what the entries of its history acknowledged.
use Rattle.std.specs.Prelude.{◌≡◌, ◌⊎◌, ℕ, ⊤, IsTrue, List, [], ◌∷◌, ◌++◌, Bool, Result}
use Rattle.std.specs.List.{AllByRecursion}
use Rattle.hk_base.specs.Disk.{DiskState, Tells}
use Rattle.hk_base.specs.Faults.{Rose}
use Rattle.hk_base.specs.declared.texts.Text.{Text}
use Rattle.key_rows.specs.Table.{Table}
use Rattle.key_rows.specs.declared.rows.KeyCommand.{KeyCommand}
use Rattle.edit_ops.specs.declared.ops.EditOp.{EditOp}
use Rattle.prop_text.specs.declared.lines.PropLine.{PropLine}
use Rattle.prop_text.specs.declared.props.Props.{Props}
use Rattle.kms_calls.specs.declared.calls.KmsCall.{KmsCall}
use Rattle.kms_calls.specs.declared.calls.KmsReply.{KmsReply}
use Rattle.kms_store.specs.Store as keys
use Rattle.kms_core.specs.State.{service_of}
use Rattle.kms_core.specs.Users.{ServesUser, running}
use Rattle.kms_cell.specs.Entries.{KmsEntry}
use Rattle.kms_cell.specs.Views.{KmsView}
use Rattle.kms_cell.specs.declared.acts.KmsAct.{KmsAct}
use Rattle.kms_cell.specs.declared.acts.KmsAct.TheVariants as key_act
use Rattle.kms_cell.specs.declared.acts.KmsActed.{KmsActed}
use Rattle.kms_cell.specs.declared.acts.KmsActed.TheVariants as key_acted
use Rattle.name_calls.specs.Answers.{answer_of}
use Rattle.name_calls.specs.declared.calls.NameRefusal.{NameRefusal}
use Rattle.name_calls.specs.declared.paths.NPath.{NPath}
use Rattle.name_store.specs.Store as names
use Rattle.name_store.specs.Table.{Replayed, next_opening}
use Rattle.name_core.specs.Service.{FinishServes, NameServes}
use Rattle.name_core.specs.State.{service_of as name_service_of}
use Rattle.name_core.specs.Updating.{UpdateServes}
use Rattle.name_core.specs.Walking.{WalkServes}
use Rattle.name_core.specs.declared.walks.Walked.{Walked}
use Rattle.name_history.specs.Entries.{NameEntry}
use Rattle.name_history.specs.Fronts.{has_front}
use Rattle.name_history.specs.Steps.{WalkLacksMemory, front_deed}
use Rattle.name_history.specs.Views.{NameView}
use Rattle.name_history.specs.declared.acts.NameAct.{NameAct}
use Rattle.name_history.specs.declared.acts.NameAct.TheVariants as name_act
use Rattle.name_history.specs.declared.acts.NameActed.{NameActed}
use Rattle.name_history.specs.declared.acts.NameActed.TheVariants as name_acted
use Rattle.server_parts.specs.Doors.{DoorState}
use Rattle.server_parts.specs.Yards.{YardState}
use Rattle.cell_server.specs.Connections.{Serving}
use Rattle.cell_server.specs.declared.ends.ServeEnd.{ServeEnd}
use Rattle.server_run.specs.Runs.{RanServer}
use Rattle.world_run.specs.Verdicts.{IsJudged}

-- ---- the history of the key management service

-- the call of an entry, if it has one, is denied exactly if the access control lists of these lines deny it
abbrev pub EntryIsJudged : List PropLine → KmsAct → KmsActed → Type 0
EntryIsJudged lines (key_act.Call user c) (key_acted.Call reply) = IsJudged lines user c reply
EntryIsJudged lines _ _ = ⊤

abbrev pub AllJudged : {D W : Type 0} → List PropLine → List (KmsEntry D W) → Type 0
AllJudged {D = D} {W = W} lines entries = AllByRecursion (λ (e : KmsEntry D W). EntryIsJudged lines e.call e.reply) entries

module _ {D W : Type 0} (state : D → DiskState) (to_come : W → ℕ → ℕ) (lines : List PropLine) where
  -- A call was served by the definition of the service under these lines, and acknowledged these commands.
  pub record CallAcknowledges (v : KmsView D W) (user : Text) (c : KmsCall) (reply : KmsReply) (v' : KmsView D W) (logged : List KeyCommand) : Type 0 where
    pub now : ℕ
    pub drawn : ℕ
    pub serves : ServesUser lines user (service_of (running v.kms)) (to_come v.words) now c (Rose (state v.disk).faults (state v'.disk).faults) (Tells (state v.disk)) reply drawn logged (service_of (running v'.kms))

  -- an entry acknowledged these commands; a ticket and a deposit acknowledge none
  abbrev pub Acknowledges : KmsView D W → KmsAct → KmsActed → KmsView D W → List KeyCommand → Type 0
  Acknowledges v (key_act.Call user c) (key_acted.Call reply) v' logged = CallAcknowledges v user c reply v' logged
  Acknowledges v _ _ v' logged = logged ≡ []

  -- entries from this state on acknowledged these commands, in this order
  abbrev pub AllAcknowledge : KmsView D W → List (KmsEntry D W) → List KeyCommand → Type 0
  AllAcknowledge v [] logged = logged ≡ []
  AllAcknowledge v (e ∷ es) logged =
      (own : List KeyCommand) × (later : List KeyCommand) × (logged ≡ own ++ later) × Acknowledges v e.call e.reply e.after own × AllAcknowledge e.after es later

-- The key log found, the record of its opening, and these commands, with the pending one or without it. They make the table of the store.
pub record HoldsKeys (found bytes : List ℕ) (logged : List KeyCommand) (store : keys.StoreState) : Type 0 where
  pub commands : List KeyCommand
  pub table : Table
  pub log : keys.IsKeyLog found commands table
  pub left : keys.IsSoundLog bytes (commands ++ keys.next_opening table ∷ logged) store.pending store.table.keys

-- ---- the history of the namesystem

module _ {D W : Type 0} (state : D → DiskState) where
  -- whether the disk failed
  abbrev pub Failed : NameView D W → NameView D W → Type 0
  Failed v v' = Rose (state v.disk).faults (state v'.disk).faults

  -- A walk acknowledged these operations, by the definition of the namesystem. Or there was no memory for its front, and nothing was done.
  abbrev pub WalkAcknowledges : NameView D W → NPath → Result Walked NameRefusal → NameView D W → List EditOp → Type 0
  WalkAcknowledges v zone answer v' logged =
      WalkServes (name_service_of v.names) zone (Failed v v') answer logged (name_service_of v'.names) ⊎ (WalkLacksMemory v answer v' × (logged ≡ []))

  -- an entry acknowledged these operations, by the definition of the namesystem; an ask acknowledges none
  abbrev pub NameAcknowledges : NameView D W → NameAct → NameActed → NameView D W → List EditOp → Type 0
  NameAcknowledges v (name_act.Call user c) (name_acted.Call reply) v' logged = NameServes (name_service_of v.names) user c (Failed v v') reply logged (name_service_of v'.names)
  NameAcknowledges v (name_act.Finish answered) (name_acted.Finish answer) v' logged =
      FinishServes (name_service_of v.names) answered.id (answer_of answered.reply) (Failed v v') answer logged (name_service_of v'.names)
  NameAcknowledges v (name_act.Walk zone) (name_acted.Walk answer) v' logged = WalkAcknowledges v zone answer v' logged
  NameAcknowledges v (name_act.Deliver front reply) (name_acted.Deliver answer) v' logged =
      UpdateServes (name_service_of v.names) (front_deed (has_front v.fronts reply.note front) reply) (Failed v v') answer logged (name_service_of v'.names)
  NameAcknowledges v _ _ v' logged = logged ≡ []

  -- entries from this state on acknowledged these operations, in this order
  abbrev pub AllNamesAcknowledge : NameView D W → List (NameEntry D W) → List EditOp → Type 0
  AllNamesAcknowledge v [] logged = logged ≡ []
  AllNamesAcknowledge v (e ∷ es) logged =
      (own : List EditOp) × (later : List EditOp) × (logged ≡ own ++ later) × NameAcknowledges v e.call e.reply e.after own × AllNamesAcknowledge e.after es later

-- The edit log found, the record of its opening, and these operations, with the pending one or without it. They make the table of the store.
pub record HoldsNames (found bytes : List ℕ) (logged : List EditOp) (store : names.StoreState) : Type 0 where
  pub ops : List EditOp
  pub made : Replayed
  pub log : names.IsNameLog found ops made
  pub used : List ℕ
  pub left : names.IsSoundLog bytes (ops ++ next_opening made.table ∷ logged) store.log.pending (names.made_with store used)

-- ---- the laws

module _ {D W I O : Type 0} (state : D → DiskState) (to_come : W → ℕ → ℕ) (serves : Serving I O D W) (conns : ℕ) (old new : YardState) (door door' : DoorState I O) where
  -- If the yard tells, each file in the end holds the log that was found, its opening, and what the entries of the history acknowledged, in
  -- order and none left out.
  abbrev pub ServersHoldLogs : Type 0
  ServersHoldLogs =
      (first second : ℕ → ℕ) (props : Props) (words : W) (port : ℕ) (end : ServeEnd) (failed : Bool) (ran : RanServer state to_come serves first second props words port conns old new door door' end failed)
      → ((logged : List KeyCommand) × AllAcknowledge state to_come props.lines ran.k ran.ran.keys_closed.all logged × (IsTrue old.tells → HoldsKeys (old.reads 0) (new.reads 0) logged ran.last_k.kms.store))
      × ((logged : List EditOp) × AllNamesAcknowledge state ran.n ran.ran.names_closed.all logged × (IsTrue old.tells → HoldsNames (old.reads 1) (new.reads 1) logged ran.last_n.names.store))

  -- Each call in the history of the key management service is denied exactly if the access control lists of the properties deny it.
  abbrev pub ServersJudge : Type 0
  ServersJudge =
      (first second : ℕ → ℕ) (props : Props) (words : W) (port : ℕ) (end : ServeEnd) (failed : Bool) (ran : RanServer state to_come serves first second props words port conns old new door door' end failed) → AllJudged props.lines ran.ran.keys_closed.all
