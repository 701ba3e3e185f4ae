-- What an event does to the world.
use Rattle.std.specs.Prelude.{◌≡◌, ◌⊎◌, ℕ, ◌+◌, Bool, List, [], ◌∷◌, ◌++◌, length, Option, None, Some, Result, Ok, Err}
use Rattle.name_calls.specs.declared.paths.NPath.{NPath}
use Rattle.name_calls.specs.declared.paths.PathFault.{PathFault}
use Rattle.name_calls.specs.declared.paths.PathFault.TheVariants.{BadPath, NoMemory}
use Rattle.name_calls.specs.Paths.{read_path}
use Rattle.name_calls.specs.ReadPaths.{read_any_path}
use Rattle.edit_ops.specs.declared.ops.EditOp.{EditOp}
use Rattle.kms_calls.specs.declared.calls.KmsCall.{KmsCall}
use Rattle.hk_base.specs.declared.names.KeyName.{KeyName}
use Rattle.hk_base.specs.declared.texts.Text.{Text}
use Rattle.kms_calls.specs.declared.calls.KmsCall.TheVariants as key_call
use Rattle.kms_calls.specs.declared.calls.KmsReply.{KmsReply}
use Rattle.kms_calls.specs.declared.calls.KmsReply.TheVariants as key_reply
use Rattle.kms_calls.specs.declared.calls.KmsRefusal.TheVariants as key_refusal
use Rattle.key_rows.specs.declared.rows.KeyCommand.{KeyCommand}
use Rattle.key_rows.specs.Table.{Table}
use Rattle.prop_text.specs.declared.lines.PropLine.{PropLine}
use Rattle.kms_store.specs.Store.{next_opening, settled_commands}
use Rattle.kms_core.specs.State.{ServiceState, service_after_opening, settled}
use Rattle.kms_core.specs.Users.{ServesUser}
use Rattle.name_store.specs.Table.{NameTable, next_opening as next_opening_of_names, settled_ops}
use Rattle.name_calls.specs.declared.calls.NameCall.{NameCall}
use Rattle.name_calls.specs.declared.calls.NameCall.TheVariants as call
use Rattle.name_calls.specs.declared.calls.NameReply.{NameReply}
use Rattle.name_calls.specs.declared.calls.NameReply.TheVariants as reply
use Rattle.name_calls.specs.declared.calls.NameRefusal.{NameRefusal}
use Rattle.name_calls.specs.declared.calls.NameRefusal.TheVariants as refusal
use Rattle.name_calls.specs.declared.calls.Ask.{Ask}
use Rattle.name_calls.specs.declared.calls.Ask.TheVariants as ask
use Rattle.name_calls.specs.declared.calls.AskNote.{AskNote}
use Rattle.name_calls.specs.declared.calls.KeyAnswer.{KeyAnswer}
use Rattle.name_calls.specs.declared.status.Delivered.{Delivered}
use Rattle.name_calls.specs.declared.calls.Want.{Want}
use Rattle.name_calls.specs.declared.calls.Want.TheVariants as want
use Rattle.name_calls.specs.Answers.{answer_of}
use Rattle.eek_seal.specs.declared.tickets.Ticket.{Ticket}
use Rattle.kms_core.specs.Draws.{sealed_with, words_of_draw}
use Rattle.kms_core.specs.Ready.{deposit_answer, deposited, ticket_of}
use Rattle.name_core.specs.Asks.{Asks}
use Rattle.name_core.specs.Calls.{superuser}
use Rattle.name_core.specs.Service.{FinishServes, NameServes}
use Rattle.name_core.specs.Updates.{UpdateDeed, deliver_deed, give_up_deed}
use Rattle.name_core.specs.Updating.{UpdateServes}
use Rattle.name_core.specs.Walking.{WalkServes}
use Rattle.name_core.specs.State.{NameService, NameState, settled as settled_names, started}
use Rattle.name_core.specs.declared.walks.Walked.{Walked}
use Rattle.reenc_walk.specs.declared.sent.BatchNote.{BatchNote}
use Rattle.hk_events.specs.declared.event.Event.{Event}
use Rattle.hk_events.specs.declared.event.Event.TheVariants as event
use Rattle.hk_events.specs.declared.event.Line.{Line}
use Rattle.hk_events.specs.declared.event.Line.TheVariants as line
use Rattle.world_run.specs.declared.kept.KeptReply.{KeptReply}
use Rattle.world_run.specs.declared.kept.KeptReply.TheVariants.{ToAsk, ToBatch}
use Rattle.world_run.specs.Acknowledged.{Acknowledged, nothing_acknowledged, of_keys, of_names}
use Rattle.world_run.specs.Batches.{after_walk, batch_call, reply_for, walk_line}
use Rattle.world_run.specs.RenamePaths.{read_rename_paths, rename_along}
use Rattle.world_run.specs.SnapPaths.{read_snap_path, snap_at, unsnap_at}
use Rattle.world_run.specs.World.{WorldState, next_batch, next_note, next_reply, next_ticket, numbered, with_names, with_note, with_reply, with_ticket}

-- no word is drawn, and nothing is acknowledged
abbrev pub IsQuiet : ℕ → Acknowledged → Type 0
IsQuiet drawn logged = (drawn ≡ 0) × (logged ≡ nothing_acknowledged)

-- A call of the key management service under the properties of these lines leaves the namesystem unchanged.
pub record KeysAct (lines : List PropLine) (w : WorldState) (words : ℕ → ℕ) (now : ℕ) (user : Text) (c : KmsCall) (fault tells : Type 0) (outcome : Line) (drawn : ℕ) (logged : Acknowledged) (w' : WorldState) : Type 0 where
  pub reply : KmsReply
  pub keys : ServiceState
  pub commands : List KeyCommand
  pub serves : ServesUser lines user w.keys words now c fault tells reply drawn commands keys
  pub logged_is : logged ≡ of_keys commands
  pub reply_is : outcome ≡ line.Kms reply
  pub left : w' ≡ record w { keys = keys }

-- What a start finds in the log of a service: its table, after the pending command was settled. That command is acknowledged if it
-- was kept, and so is the next opening.
pub record Recovers (s : ServiceState) (table : Table) (commands : List KeyCommand) : Type 0 where
  pub kept : Bool
  pub table_is : table ≡ (settled kept s).table
  pub commands_are : commands ≡ settled_commands kept s.pending ++ next_opening table ∷ []

-- The key management service is dropped, and opened again from its log with queues of the same sizes, without ready keys. All else stays.
-- If the disk tells its content, the service finds what the log is known to hold.
pub record Restarts (w : WorldState) (tells : Type 0) (outcome : Line) (drawn : ℕ) (logged : Acknowledged) (w' : WorldState) : Type 0 where
  pub table : Table
  pub commands : List KeyCommand
  pub found : tells → Recovers w.keys table commands
  pub logged_is : logged ≡ of_keys commands
  pub reply_is : outcome ≡ line.Opened (table.opening + 1)
  pub none_drawn : drawn ≡ 0
  pub left : w' ≡ record w { keys = service_after_opening w.keys.keys.ready table }

-- the same of the edit log
pub record RecoversNames (s : NameService) (table : NameTable) (ops : List EditOp) : Type 0 where
  pub kept : Bool
  pub table_is : table ≡ (settled_names kept s).table
  pub ops_are : ops ≡ settled_ops kept s.pending ++ next_opening_of_names table ∷ []

-- The namesystem is dropped, and opened again from its log with batches of the same size: no ask is open then, and no walk has begun. All
-- else stays.
pub record RestartsNames (w : WorldState) (tells : Type 0) (outcome : Line) (drawn : ℕ) (logged : Acknowledged) (w' : WorldState) : Type 0 where
  pub table : NameTable
  pub ops : List EditOp
  pub found : tells → RecoversNames w.names table ops
  pub logged_is : logged ≡ of_names ops
  pub reply_is : outcome ≡ line.Opened (table.opening + 1)
  pub none_drawn : drawn ≡ 0
  pub left : w' ≡ record w { names = started w.names.names.batch table }

-- a call of the namesystem leaves the key management service unchanged, and draws nothing
pub record NamesAct (w : WorldState) (user : Text) (c : NameCall) (fault : Type 0) (outcome : Line) (drawn : ℕ) (logged : Acknowledged) (w' : WorldState) : Type 0 where
  pub reply : NameReply
  pub names : NameService
  pub ops : List EditOp
  pub serves : NameServes w.names user c fault reply ops names
  pub logged_is : logged ≡ of_names ops
  pub reply_is : outcome ≡ line.Name reply
  pub none_drawn : drawn ≡ 0
  pub left : w' ≡ record w { names = names }

-- a path or a name is refused if it is outside the rule, or if there is no memory to read it; nothing changes then
pub record Unread (w : WorldState) (why : NameReply) (outcome : Line) (drawn : ℕ) (logged : Acknowledged) (w' : WorldState) : Type 0 where
  pub reply_is : outcome ≡ line.Name why
  pub quiet : IsQuiet drawn logged
  pub same : w' ≡ w

abbrev pub unread_reply : PathFault → NameReply
unread_reply BadPath = reply.Refused refusal.BadPath
unread_reply NoMemory = reply.Refused refusal.NoMemory

-- A call of the namesystem about what is read from the bytes of an event: a path, or a path and a name.
abbrev pub PathActs : {X : Type 0} → WorldState → Text → (X → NameCall) → Option X → Type 0 → Line → ℕ → Acknowledged → WorldState → Type 0
PathActs w user c None fault outcome drawn logged w' = Unread w (reply.Refused refusal.BadPath) outcome drawn logged w'
PathActs w user c (Some read) fault outcome drawn logged w' = NamesAct w user (c read) fault outcome drawn logged w' ⊎ Unread w (reply.Refused refusal.NoMemory) outcome drawn logged w'

abbrev pub delete_with : Bool → NPath → NameCall
delete_with recursive path = call.Delete path recursive

-- nothing is kept under the number, and nothing changes
pub record IsUnknown (w : WorldState) (outcome : Line) (drawn : ℕ) (logged : Acknowledged) (w' : WorldState) : Type 0 where
  pub reply_is : outcome ≡ line.Unknown
  pub quiet : IsQuiet drawn logged
  pub same : w' ≡ w

-- an ask, a finish or a walk is refused, and nothing changes
pub record Refuses (w : WorldState) (why : NameRefusal) (outcome : Line) (w' : WorldState) : Type 0 where
  pub reply_is : outcome ≡ line.Refused why
  pub same : w' ≡ w

abbrev pub unread_refusal : PathFault → NameRefusal
unread_refusal BadPath = refusal.BadPath
unread_refusal NoMemory = refusal.NoMemory

-- the answer of an ask: its note is kept if the ask is accepted

abbrev pub ask_line : Result AskNote NameRefusal → ℕ → Line
ask_line (Ok note) number = line.Asked number note
ask_line (Err why) number = line.Refused why

abbrev pub after_ask : Result AskNote NameRefusal → WorldState → WorldState
after_ask (Ok note) w = with_note note w
after_ask (Err why) w = w

pub record AskActs (w : WorldState) (user : Text) (a : Ask) (outcome : Line) (w' : WorldState) : Type 0 where
  pub result : Result AskNote NameRefusal
  pub names : NameState
  pub asks : Asks w.names.names user a result names
  pub reply_is : outcome ≡ ask_line result (next_note w)
  pub left : w' ≡ after_ask result (with_names names w)

-- an ask at a path as it was given; there may be no memory for the path or the note
abbrev pub AskAt : WorldState → Text → (NPath → Ask) → Option NPath → Line → WorldState → Type 0
AskAt w user a None outcome w' = Refuses w refusal.BadPath outcome w'
AskAt w user a (Some path) outcome w' = AskActs w user (a path) outcome w' ⊎ Refuses w refusal.NoMemory outcome w'

-- the call that an ask wants is made, and its reply is kept

-- there is no room for what the event keeps: the call is not made
pub record LacksRoom (w : WorldState) (outcome : Line) (drawn : ℕ) (logged : Acknowledged) (w' : WorldState) : Type 0 where
  pub reply_is : outcome ≡ line.Kms (key_reply.Refused key_refusal.NoMemory)
  pub quiet : IsQuiet drawn logged
  pub same : w' ≡ w

abbrev pub kept_reply : AskNote → Option KmsReply → KeptReply
kept_reply note reply = ToAsk note.id (answer_of reply)

-- The call of the key management service that an ask wants, if it wants one. It is made as the superuser, whoever asked.
pub record WantedCallActs (lines : List PropLine) (s : ServiceState) (words : ℕ → ℕ) (now : ℕ) (c : KmsCall) (fault tells : Type 0) (outcome : Option KmsReply) (drawn : ℕ) (logged : List KeyCommand) (s' : ServiceState) : Type 0 where
  pub reply : KmsReply
  pub serves : ServesUser lines superuser s words now c fault tells reply drawn logged s'
  pub reply_is : outcome ≡ Some reply

pub record NothingWanted (s : ServiceState) (outcome : Option KmsReply) (drawn : ℕ) (logged : List KeyCommand) (s' : ServiceState) : Type 0 where
  pub reply_is : outcome ≡ None
  pub none_drawn : drawn ≡ 0
  pub none_logged : logged ≡ []
  pub same : s' ≡ s

abbrev pub WantActs : List PropLine → ServiceState → (ℕ → ℕ) → ℕ → Want → Type 0 → Type 0 → Option KmsReply → ℕ → List KeyCommand → ServiceState → Type 0
WantActs lines s words now want.Nothing fault tells outcome drawn logged s' = NothingWanted s outcome drawn logged s'
WantActs lines s words now (want.Generate name) fault tells outcome drawn logged s' = WantedCallActs lines s words now (key_call.Generate name 1) fault tells outcome drawn logged s'
WantActs lines s words now (want.Metadata name) fault tells outcome drawn logged s' = WantedCallActs lines s words now (key_call.Metadata name) fault tells outcome drawn logged s'

pub record DrawNote (lines : List PropLine) (w : WorldState) (words : ℕ → ℕ) (now : ℕ) (note : AskNote) (fault tells : Type 0) (outcome : Line) (drawn : ℕ) (logged : Acknowledged) (w' : WorldState) : Type 0 where
  pub reply : Option KmsReply
  pub keys : ServiceState
  pub commands : List KeyCommand
  pub acts : WantActs lines w.keys words now note.want fault tells reply drawn commands keys
  pub logged_is : logged ≡ of_keys commands
  pub reply_is : outcome ≡ line.Replied (next_reply w) reply
  pub left : w' ≡ with_reply (kept_reply note reply) (record w { keys = keys })

abbrev pub DrawActs : List PropLine → WorldState → (ℕ → ℕ) → ℕ → Option AskNote → Type 0 → Type 0 → Line → ℕ → Acknowledged → WorldState → Type 0
DrawActs lines w words now None fault tells outcome drawn logged w' = IsUnknown w outcome drawn logged w'
DrawActs lines w words now (Some note) fault tells outcome drawn logged w' = DrawNote lines w words now note fault tells outcome drawn logged w' ⊎ LacksRoom w outcome drawn logged w'

-- a finish of the ask that a kept reply answers

abbrev pub finish_line : Result (Unit {0}) NameRefusal → Line
finish_line (Ok _) = line.Name reply.Done
finish_line (Err why) = line.Refused why

pub record AskFinishes (w : WorldState) (id : ℕ) (answer : KeyAnswer) (fault : Type 0) (outcome : Line) (drawn : ℕ) (logged : Acknowledged) (w' : WorldState) : Type 0 where
  pub result : Result (Unit {0}) NameRefusal
  pub names : NameService
  pub ops : List EditOp
  pub finishes : FinishServes w.names id answer fault result ops names
  pub logged_is : logged ≡ of_names ops
  pub reply_is : outcome ≡ finish_line result
  pub none_drawn : drawn ≡ 0
  pub left : w' ≡ record w { names = names }

-- the ask that a kept reply answers, and what the reply means for it
abbrev pub ask_of : KeptReply → Option (ℕ × KeyAnswer)
ask_of (ToAsk id answer) = Some (id, answer)
ask_of (ToBatch reply) = None

abbrev pub FinishReply : WorldState → Option KeptReply → Type 0 → Line → ℕ → Acknowledged → WorldState → Type 0
FinishReply w None fault outcome drawn logged w' = IsUnknown w outcome drawn logged w'
FinishReply w (Some (ToAsk id answer)) fault outcome drawn logged w' = AskFinishes w id answer fault outcome drawn logged w'
FinishReply w (Some (ToBatch reply)) fault outcome drawn logged w' = IsUnknown w outcome drawn logged w'

-- a walk of the zone at a path, whose batch is kept

pub record ZoneWalks (w : WorldState) (path : NPath) (fault : Type 0) (outcome : Line) (drawn : ℕ) (logged : Acknowledged) (w' : WorldState) : Type 0 where
  pub result : Result Walked NameRefusal
  pub names : NameService
  pub ops : List EditOp
  pub walks : WalkServes w.names path fault result ops names
  pub logged_is : logged ≡ of_names ops
  pub reply_is : outcome ≡ walk_line result (next_batch w)
  pub none_drawn : drawn ≡ 0
  pub left : w' ≡ after_walk result (record w { names = names })

-- the path as it was given; there may be no memory for the path or for keeping a batch
abbrev pub WalkAt : WorldState → Option NPath → Type 0 → Line → ℕ → Acknowledged → WorldState → Type 0
WalkAt w None fault outcome drawn logged w' = IsQuiet drawn logged × Refuses w refusal.BadPath outcome w'
WalkAt w (Some path) fault outcome drawn logged w' = ZoneWalks w path fault outcome drawn logged w' ⊎ (IsQuiet drawn logged × Refuses w refusal.NoMemory outcome w')

-- The call for a kept batch is made as the superuser, and its reply is kept with the batch.
pub record ServeBatch (lines : List PropLine) (w : WorldState) (words : ℕ → ℕ) (now : ℕ) (batch : BatchNote) (fault tells : Type 0) (outcome : Line) (drawn : ℕ) (logged : Acknowledged) (w' : WorldState) : Type 0 where
  pub reply : KmsReply
  pub keys : ServiceState
  pub commands : List KeyCommand
  pub serves : ServesUser lines superuser w.keys words now (batch_call batch) fault tells reply drawn commands keys
  pub logged_is : logged ≡ of_keys commands
  pub reply_is : outcome ≡ line.Replied (next_reply w) (Some reply)
  pub left : w' ≡ with_reply (ToBatch (reply_for batch reply)) (record w { keys = keys })

abbrev pub ServeActs : List PropLine → WorldState → (ℕ → ℕ) → ℕ → Option BatchNote → Type 0 → Type 0 → Line → ℕ → Acknowledged → WorldState → Type 0
ServeActs lines w words now None fault tells outcome drawn logged w' = IsUnknown w outcome drawn logged w'
ServeActs lines w words now (Some batch) fault tells outcome drawn logged w' = ServeBatch lines w words now batch fault tells outcome drawn logged w' ⊎ LacksRoom w outcome drawn logged w'

-- a delivery of a kept reply to the call for a batch, and the giving up of a kept batch

abbrev pub update_line : Result Delivered NameRefusal → Line
update_line (Ok delivered) = line.Delivered delivered
update_line (Err why) = line.Refused why

pub record Updates (w : WorldState) (d : NameState → UpdateDeed) (fault : Type 0) (outcome : Line) (drawn : ℕ) (logged : Acknowledged) (w' : WorldState) : Type 0 where
  pub result : Result Delivered NameRefusal
  pub names : NameService
  pub ops : List EditOp
  pub serves : UpdateServes w.names d fault result ops names
  pub logged_is : logged ≡ of_names ops
  pub reply_is : outcome ≡ update_line result
  pub none_drawn : drawn ≡ 0
  pub left : w' ≡ record w { names = names }

abbrev pub DeliverReply : WorldState → Option KeptReply → Type 0 → Line → ℕ → Acknowledged → WorldState → Type 0
DeliverReply w None fault outcome drawn logged w' = IsUnknown w outcome drawn logged w'
DeliverReply w (Some (ToAsk id answer)) fault outcome drawn logged w' = IsUnknown w outcome drawn logged w'
DeliverReply w (Some (ToBatch reply)) fault outcome drawn logged w' = Updates w (deliver_deed reply) fault outcome drawn logged w'

abbrev pub GiveUpBatch : WorldState → Option BatchNote → Type 0 → Line → ℕ → Acknowledged → WorldState → Type 0
GiveUpBatch w None fault outcome drawn logged w' = IsUnknown w outcome drawn logged w'
GiveUpBatch w (Some batch) fault outcome drawn logged w' = Updates w (give_up_deed batch) fault outcome drawn logged w'

-- a ticket, which is kept if one is given

abbrev pub ticket_line : Option Ticket → ℕ → Line
ticket_line None number = line.NoTicket
ticket_line (Some ticket) number = line.Ticket number ticket.version ticket.wanted

abbrev pub after_ticket : Option Ticket → WorldState → WorldState
after_ticket None w = w
after_ticket (Some ticket) w = with_ticket ticket w

pub record GivesTicket (w : WorldState) (outcome : Line) (drawn : ℕ) (logged : Acknowledged) (w' : WorldState) : Type 0 where
  pub reply_is : outcome ≡ ticket_line (ticket_of w.keys.keys) (next_ticket w)
  pub quiet : IsQuiet drawn logged
  pub left : w' ≡ after_ticket (ticket_of w.keys.keys) w

-- A data key is drawn, sealed with a kept ticket and deposited. Nothing is written.
pub record Deposits (w : WorldState) (words : ℕ → ℕ) (ticket : Ticket) (outcome : Line) (drawn : ℕ) (logged : Acknowledged) (w' : WorldState) : Type 0 where
  pub reply_is : outcome ≡ line.Deposit (deposit_answer w.keys.keys (sealed_with ticket words))
  pub drawn_is : drawn ≡ words_of_draw (length ticket.material)
  pub none_logged : logged ≡ nothing_acknowledged
  pub left : w' ≡ record w { keys = record w.keys { keys = deposited w.keys.keys (sealed_with ticket words) } }

abbrev pub DepositActs : WorldState → (ℕ → ℕ) → Option Ticket → Line → ℕ → Acknowledged → WorldState → Type 0
DepositActs w words None outcome drawn logged w' = IsUnknown w outcome drawn logged w'
DepositActs w words (Some ticket) outcome drawn logged w' = Deposits w words ticket outcome drawn logged w'

abbrev pub zone_with : KeyName → NPath → Ask
zone_with key path = ask.Zone path key

-- From w, with these words to come, an event may get this answer, draw this number of words, acknowledge these records, and leave
-- w'. Calls of the key management service are judged by the properties of these lines. A store fault comes only if `fault`
-- holds, and `tells` is whether the disk tells its content.
abbrev pub Step : List PropLine → WorldState → (ℕ → ℕ) → ℕ → Event → Type 0 → Type 0 → Line → ℕ → Acknowledged → WorldState → Type 0
Step lines w words now (event.Kms user c) fault tells outcome drawn logged w' = KeysAct lines w words now user c fault tells outcome drawn logged w'
Step lines w words now event.Ticket fault tells outcome drawn logged w' = GivesTicket w outcome drawn logged w' ⊎ LacksRoom w outcome drawn logged w'
Step lines w words now (event.Deposit number) fault tells outcome drawn logged w' = DepositActs w words (numbered w.kept.tickets number) outcome drawn logged w'
Step lines w words now event.RestartKms fault tells outcome drawn logged w' = Restarts w tells outcome drawn logged w'
Step lines w words now event.RestartName fault tells outcome drawn logged w' = RestartsNames w tells outcome drawn logged w'
Step lines w words now (event.Mkdir user path) fault tells outcome drawn logged w' = PathActs w user call.Mkdir (read_path path) fault outcome drawn logged w'
Step lines w words now (event.Delete user path recursive) fault tells outcome drawn logged w' = PathActs w user (delete_with recursive) (read_path path) fault outcome drawn logged w'
Step lines w words now (event.Rename user path to) fault tells outcome drawn logged w' = PathActs w user rename_along (read_rename_paths path to) fault outcome drawn logged w'
Step lines w words now (event.Info user path) fault tells outcome drawn logged w' = PathActs w user call.Info (read_any_path path) fault outcome drawn logged w'
Step lines w words now (event.List user path) fault tells outcome drawn logged w' = PathActs w user call.List (read_any_path path) fault outcome drawn logged w'
Step lines w words now (event.Allow user path) fault tells outcome drawn logged w' = PathActs w user call.Allow (read_path path) fault outcome drawn logged w'
Step lines w words now (event.Disallow user path) fault tells outcome drawn logged w' = PathActs w user call.Disallow (read_path path) fault outcome drawn logged w'
Step lines w words now (event.Snap user path name) fault tells outcome drawn logged w' = PathActs w user snap_at (read_snap_path path name) fault outcome drawn logged w'
Step lines w words now (event.Unsnap user path name) fault tells outcome drawn logged w' = PathActs w user unsnap_at (read_snap_path path name) fault outcome drawn logged w'
Step lines w words now (event.Cancel user path) fault tells outcome drawn logged w' = PathActs w user call.Cancel (read_path path) fault outcome drawn logged w'
Step lines w words now (event.Status user path) fault tells outcome drawn logged w' = PathActs w user call.Status (read_path path) fault outcome drawn logged w'
Step lines w words now (event.Zones user) fault tells outcome drawn logged w' = NamesAct w user call.Zones fault outcome drawn logged w'
Step lines w words now (event.AskCreate user path) fault tells outcome drawn logged w' = IsQuiet drawn logged × AskAt w user ask.Create (read_path path) outcome w'
Step lines w words now (event.AskZone user path key) fault tells outcome drawn logged w' = IsQuiet drawn logged × AskAt w user (zone_with key) (read_path path) outcome w'
Step lines w words now (event.AskSubmit user path) fault tells outcome drawn logged w' = IsQuiet drawn logged × AskAt w user ask.Submit (read_path path) outcome w'
Step lines w words now (event.Draw number) fault tells outcome drawn logged w' = DrawActs lines w words now (numbered w.kept.notes number) fault tells outcome drawn logged w'
Step lines w words now (event.Finish number) fault tells outcome drawn logged w' = FinishReply w (numbered w.kept.replies number) fault outcome drawn logged w'
Step lines w words now (event.Walk path) fault tells outcome drawn logged w' = WalkAt w (read_path path) fault outcome drawn logged w'
Step lines w words now (event.Serve number) fault tells outcome drawn logged w' = ServeActs lines w words now (numbered w.kept.batches number) fault tells outcome drawn logged w'
Step lines w words now (event.Deliver number) fault tells outcome drawn logged w' = DeliverReply w (numbered w.kept.replies number) fault outcome drawn logged w'
Step lines w words now (event.GiveUp number) fault tells outcome drawn logged w' = GiveUpBatch w (numbered w.kept.batches number) fault outcome drawn logged w'
