-- The parts of a step, put together.
use Rattle.std.proofs.Common.{◌≡◌, ◌⊎◌, inl, inr, ℕ, ◌+◌, Bool, List, [], ◌∷◌, ◌++◌, length, Option, Some, None, Ok, Err, refl, sym, ap, subst, ◌∙◌, arith, length-append}
use Rattle.std.specs.Prelude.{IfSome, MatchResult, false}
use Rattle.std.specs.Option.{option_and_then}
use Rattle.std.specs.declared.result.Result.{Result}
use Rattle.std.proofs.lemmas.List.{append-nil}
use Rattle.hk_base.specs.Disk.{DiskState, Tells}
use Rattle.hk_base.specs.Faults.{Rose}
use Rattle.hk_base.specs.declared.names.KeyName.{KeyName}
use Rattle.hk_base.specs.declared.names.VersionName.{VersionName}
use Rattle.hk_base.specs.declared.texts.Text.{Text}
use Rattle.hk_base.proofs.Runs.{begin, weaker}
use Rattle.name_calls.specs.declared.paths.NPath.{NPath}
use Rattle.name_calls.specs.declared.paths.PathFault.{PathFault}
use Rattle.name_calls.specs.declared.paths.PathFault.TheVariants.{BadPath, NoMemory}
use Rattle.name_calls.specs.Paths.{read_path}
use Rattle.edit_ops.specs.declared.ops.EditOp.{EditOp}
use Rattle.kms_calls.specs.declared.calls.KmsCall.{KmsCall}
use Rattle.kms_calls.specs.declared.calls.KmsCall.TheVariants as call
use Rattle.kms_calls.specs.declared.calls.KmsRefusal.TheVariants as key_refusal
use Rattle.kms_calls.specs.declared.calls.KmsReply.{KmsReply}
use Rattle.kms_calls.specs.declared.calls.KmsReply.TheVariants as key_reply
use Rattle.prop_text.specs.declared.lines.PropLine.{PropLine}
use Rattle.key_rows.specs.declared.rows.KeyCommand.{KeyCommand}
use Rattle.kms_store.specs.Store.{IsLeftOf, NoCommand, IsKeyStoreOf}
use Rattle.kms_acls.specs.Agreement.{AreListsOf}
use Rattle.kms_core.specs.Service.{Logs}
use Rattle.eek_seal.specs.Tickets.{SealedKey}
use Rattle.eek_seal.specs.declared.deposit.Deposit.{Deposit}
use Rattle.eek_seal.specs.declared.tickets.Ticket.{Ticket}
use Rattle.kms_core.specs.Draws.{sealed_with, words_of_draw}
use Rattle.kms_core.specs.Ready.{deposit_answer, queues_with, ticket_of}
use Rattle.kms_core.specs.State.{keys_of, service_of}
use Rattle.kms_core.specs.Steps.{Drew}
use Rattle.kms_core.specs.Users.{ActsFor, RunningKms, running}
use Rattle.name_store.specs.Store.{IsLeftOf as IsLeftOfNames, NothingMore, made_with}
use Rattle.name_calls.specs.declared.calls.Ask.{Ask}
use Rattle.name_calls.specs.declared.calls.Ask.TheVariants as ask
use Rattle.name_calls.specs.declared.calls.AskNote.{AskNote}
use Rattle.name_calls.specs.declared.calls.KeyAnswer.{KeyAnswer}
use Rattle.name_calls.specs.declared.calls.NameCall.{NameCall}
use Rattle.name_calls.specs.declared.calls.NameRefusal.{NameRefusal}
use Rattle.name_calls.specs.declared.calls.NameRefusal.TheVariants as refusal
use Rattle.kms_acls.specs.Verdict.{verdict}
use Rattle.name_calls.specs.declared.calls.NameReply.{NameReply}
use Rattle.name_calls.specs.declared.calls.Want.{Want}
use Rattle.name_calls.specs.declared.status.Delivered.{Delivered}
use Rattle.name_calls.specs.declared.calls.Want.TheVariants as want
use Rattle.name_core.specs.Asks.{Asks}
use Rattle.reenc_walk.specs.declared.sent.BatchNote.{BatchNote}
use Rattle.name_core.specs.Calls.{superuser}
use Rattle.name_core.specs.Service.{NameActsOnDisk, FinishActs, Logs as NameLogs, OwnOf}
use Rattle.name_core.specs.Updates.{UpdateDeed, deliver_deed, give_up_deed}
use Rattle.name_core.specs.Updating.{OwnOfUpdate, UpdateActs}
use Rattle.name_core.specs.Walking.{OwnOfWalk, WalkActs}
use Rattle.name_core.specs.declared.walks.Walked.{Walked}
use Rattle.name_core.specs.declared.walks.Walked.TheVariants as walk
use Rattle.name_core.specs.State.{NameState, RunningNames, IsNamesystemOf, names_of, service_of as names_service}
use Rattle.hk_events.specs.declared.event.Event.{Event}
use Rattle.hk_events.specs.declared.event.Event.TheVariants as event
use Rattle.hk_events.specs.declared.event.Line.{Line}
use Rattle.hk_events.specs.declared.event.Line.TheVariants as line
use Rattle.world_run.specs.declared.fault.WorldFault.{WorldFault}
use Rattle.world_run.specs.declared.kept.KeptReply.{KeptReply}
use Rattle.world_run.specs.declared.kept.KeptReply.TheVariants.{ToAsk, ToBatch}
use Rattle.reenc_update.specs.Replies.{ReplyState}
use Rattle.world_run.specs.Acknowledged.{Acknowledged, nothing_acknowledged, of_keys, of_names}
use Rattle.world_run.specs.Batches.{ReplyFits, after_walk, batch_call, batch_reply_of, batches_after, reply_for, walk_line}
use Rattle.world_run.specs.Does.{CallHappens, DeliverHappens, DepositHappens, Does, DrawHappens, FinishHappens, GiveUpHappens, Happens, PathHappens, ServeHappens, WalkHappens, WantHappens}
use Rattle.world_run.specs.Own.{OwnOfNamesCall, OwnOfReply, OwnOfUpdated, OwnOfWalkAt}
use Rattle.world_run.specs.Keeps.{FailsToRestart}
use Rattle.world_run.specs.Step.{AskAt, GivesTicket, LacksRoom, PathActs, Step, Updates, WalkAt, after_ask, after_ticket, ask_of, finish_line, kept_reply, ticket_line, unread_refusal, unread_reply, update_line, zone_with}
use Rattle.world_run.specs.World.{RunningWorld, WorldState, next_ticket, numbered, with_names, world_of}
use Rattle.name_core.proofs.Layers.{stands_after_ask}
use Rattle.world_run.proofs.KeyLemmas.{batch-logs, call-logs, generate-logs, metadata-logs}
use Rattle.world_run.proofs.Members.{some-is}
use Rattle.batch_calls.proofs.FitLemmas.{batch-fits}

abbrev pub parts : RunningKms → RunningNames → List Ticket → List AskNote → List BatchNote → List KeptReply → RunningWorld
parts keys names tickets notes batches replies = record { keys = keys; names = names; kept = record { tickets = tickets; notes = notes; batches = batches; replies = replies } }

-- nothing is done to the disk

no-log : (d : DiskState) (r : RunningKms) (P : List KeyCommand → List ℕ → Type 0) → Logs d d r.store r.store P []
no-log d r P = record {
  stands = λ telling commands s. subst (IsKeyStoreOf d r.store) (sym (append-nil commands)) s;
  moments = λ telling commands s. (begin 0 d (P commands)).moments;
  run = (begin 0 d (P [])).run;
}

no-log-to : (d : DiskState) (r r' : RunningKms) (P : List KeyCommand → List ℕ → Type 0) → r' ≡ r → Logs d d r.store r'.store P []
no-log-to d r r' P same = subst (λ (q : RunningKms). Logs d d r.store q.store P []) (sym same) (no-log d r P)

-- no word is drawn, the disk is not touched, and the world is unchanged
pub does-nothing : (d : DiskState) (r r' : RunningWorld) (words : ℕ → ℕ) (own_keys : Bool → KeyCommand → Type 0) (own : Bool → EditOp → Type 0) (P : ℕ → Acknowledged → Type 0) → r' ≡ r → P 0 nothing_acknowledged
    → Does d d r r' words words own_keys own P
does-nothing d r r' words own_keys own P same p = record {
  drawn = 0;
  logged = nothing_acknowledged;
  acts = p;
  rest = λ k. ap words (omega arith);
  disk = inl (record { commands = []; logged_is = refl; log = no-log-to d r.keys r'.keys (IsLeftOf r.keys.store.table.keys r.keys.store.pending own_keys) (ap (λ (w : RunningWorld). w.keys) same); names = ap (λ (w : RunningWorld). w.names) same });
  lists = ap (λ (w : RunningWorld). w.keys.acls) same;
}

-- an ask changes no row and no record of the log

-- the same for the namesystem, of which an ask leaves another state with the same store

names-no-log : (d : DiskState) (r r' : RunningNames) (own : Bool → EditOp → Type 0) → ((ops : List EditOp) → IsNamesystemOf d r ops → IsNamesystemOf d r' ops) → NameLogs d d r r' own []
names-no-log d r r' own stands = record {
  stands = λ telling ops s. subst (IsNamesystemOf d r') (sym (append-nil ops)) (stands ops s);
  moments = λ telling ops s. (begin 1 d (IsLeftOfNames (made_with r.store s.used) r.store.log.pending own ops)).moments;
  run = (begin 1 d (IsLeftOfNames (made_with r.store []) r.store.log.pending own [])).run;
}

ask-does : (d : DiskState) (r r' : RunningWorld) (user : Text) (a : Ask) (result : Result AskNote NameRefusal) (words : ℕ → ℕ) (P : ℕ → Acknowledged → Type 0) → r'.keys ≡ r.keys → r'.names.store ≡ r.names.store
    → Asks (names_of r.names) user a result (names_of r'.names) → P 0 nothing_acknowledged → Does d d r r' words words NoCommand NothingMore P
ask-does d r r' user a result words P keys store asks p = record {
  drawn = 0;
  logged = nothing_acknowledged;
  acts = p;
  rest = λ k. ap words (omega arith);
  disk = inr (record { ops = []; logged_is = refl; log = names-no-log d r.names r'.names NothingMore (λ ops s. stands_after_ask d r.names r'.names user a result ops asks store s); keys = keys });
  lists = ap (λ (k : RunningKms). k.acls) keys;
}

-- an ask that changed nothing of the namesystem
still-does : (d : DiskState) (r r' : RunningWorld) (words : ℕ → ℕ) (P : ℕ → Acknowledged → Type 0) → r'.keys ≡ r.keys → r'.names.store ≡ r.names.store → names_of r'.names ≡ names_of r.names
    → P 0 nothing_acknowledged → Does d d r r' words words NoCommand NothingMore P
still-does d r r' words P keys store names p = record {
  drawn = 0;
  logged = nothing_acknowledged;
  acts = p;
  rest = λ k. ap words (omega arith);
  disk = inr (record { ops = []; logged_is = refl; log = names-no-log d r.names r'.names NothingMore (λ ops s. subst (λ (q : RunningNames). IsNamesystemOf d q ops) (sym same) s); keys = keys });
  lists = ap (λ (k : RunningKms). k.acls) keys;
}
  where
    same : r'.names ≡ r.names
    same = λ i. record { store = store i; next = (names i).next; asks = (names i).asks; walks = (names i).walks; updating = (names i).updating; batch = (names i).batch }

-- an ask leaves this state of the namesystem
names-left : (result : Result AskNote NameRefusal) (w : WorldState) (names : NameState) → (after_ask result (with_names names w)).names.names ≡ names
names-left (Ok note) w names = refl
names-left (Err why) w names = refl

ask-at : (d : DiskState) (r r' : RunningWorld) (user : Text) (c : NPath → Ask) (path : Option NPath) (outcome : Line) (words : ℕ → ℕ) (P : ℕ → Acknowledged → Type 0) → r'.keys ≡ r.keys → r'.names.store ≡ r.names.store
    → AskAt (world_of r) user c path outcome (world_of r') → P 0 nothing_acknowledged → Does d d r r' words words NoCommand NothingMore P
ask-at d r r' user c None outcome words P keys store refused p = still-does d r r' words P keys store (ap (λ (w : WorldState). w.names.names) refused.same) p
ask-at d r r' user c (Some path) outcome words P keys store (inr refused) p = still-does d r r' words P keys store (ap (λ (w : WorldState). w.names.names) refused.same) p
ask-at d r r' user c (Some path) outcome words P keys store (inl a) p =
    ask-does d r r' user (c path) a.result words P keys store (subst (Asks (names_of r.names) user (c path) a.result) (sym (ap (λ (w : WorldState). w.names.names) a.left ∙ names-left a.result (world_of r) a.names)) a.asks) p

pub ask-happens : (lines : List PropLine) (d : DiskState) (w w' : RunningWorld) (words : ℕ → ℕ) (now : ℕ) (e : Event) (user : Text) (path : List ℕ) (outcome : Line) → e ≡ event.AskCreate user path
    → w'.keys ≡ w.keys → w'.names.store ≡ w.names.store → AskAt (world_of w) user ask.Create (read_path path) outcome (world_of w') → Happens lines d d w words now e outcome w' words
ask-happens lines d w w' words now e user path outcome is keys store at =
    subst (λ (x : Event). Happens lines d d w words now x outcome w' words) (sym is)
    (ask-at d w w' user ask.Create (read_path path) outcome words (λ drawn logged. Step lines (world_of w) words now (event.AskCreate user path) (Rose d.faults d.faults) (Tells d) outcome drawn logged (world_of w')) keys store at ((refl, refl), at))

pub zone-happens : (lines : List PropLine) (d : DiskState) (w w' : RunningWorld) (words : ℕ → ℕ) (now : ℕ) (e : Event) (user : Text) (path : List ℕ) (key : KeyName) (outcome : Line) → e ≡ event.AskZone user path key
    → w'.keys ≡ w.keys → w'.names.store ≡ w.names.store → AskAt (world_of w) user (zone_with key) (read_path path) outcome (world_of w') → Happens lines d d w words now e outcome w' words
zone-happens lines d w w' words now e user path key outcome is keys store at =
    subst (λ (x : Event). Happens lines d d w words now x outcome w' words) (sym is)
    (ask-at d w w' user (zone_with key) (read_path path) outcome words (λ drawn logged. Step lines (world_of w) words now (event.AskZone user path key) (Rose d.faults d.faults) (Tells d) outcome drawn logged (world_of w')) keys store at ((refl, refl), at))

pub submit-happens : (lines : List PropLine) (d : DiskState) (w w' : RunningWorld) (words : ℕ → ℕ) (now : ℕ) (e : Event) (user : Text) (path : List ℕ) (outcome : Line) → e ≡ event.AskSubmit user path
    → w'.keys ≡ w.keys → w'.names.store ≡ w.names.store → AskAt (world_of w) user ask.Submit (read_path path) outcome (world_of w') → Happens lines d d w words now e outcome w' words
submit-happens lines d w w' words now e user path outcome is keys store at =
    subst (λ (x : Event). Happens lines d d w words now x outcome w' words) (sym is)
    (ask-at d w w' user ask.Submit (read_path path) outcome words (λ drawn logged. Step lines (world_of w) words now (event.AskSubmit user path) (Rose d.faults d.faults) (Tells d) outcome drawn logged (world_of w')) keys store at ((refl, refl), at))

more-by-one : {X : Type 0} (xs ys : List X) (x : X) → ys ≡ xs ++ x ∷ [] → length ys ≡ length xs + 1
more-by-one xs ys x is = ap length is ∙ length-append xs (x ∷ [])

-- operations that may be written, stated in another way

more-weaker : (own other : Bool → EditOp → Type 0) (k : Bool) (pending more : Option EditOp) → ((b : Bool) (op : EditOp) → own b op → other b op)
    → IfSome more (λ op. ((k ≡ false) × (pending ≡ Some op)) ⊎ own k op) → IfSome more (λ op. ((k ≡ false) × (pending ≡ Some op)) ⊎ other k op)
more-weaker own other k pending None f is = tt
more-weaker own other k pending (Some op) f (inl is) = inl is
more-weaker own other k pending (Some op) f (inr is) = inr (f k op is)

pub own-weaker : (own other : Bool → EditOp → Type 0) (r : RunningNames) (used : List ℕ) (ops : List EditOp) (bytes : List ℕ) → ((b : Bool) (op : EditOp) → own b op → other b op)
    → IsLeftOfNames (made_with r.store used) r.store.log.pending own ops bytes → IsLeftOfNames (made_with r.store used) r.store.log.pending other ops bytes
own-weaker own other r used ops bytes f left = record {
  kept = left.kept;
  more = left.more;
  more_is = more-weaker own other left.kept r.store.log.pending left.more f left.more_is;
  fits = left.fits;
  spelled = left.spelled;
  log = left.log;
}

-- calls of the namesystem

-- the operation that may be written, with the line of the reply
own-answered : (old new : DiskState) (names names' : RunningNames) (c : NameCall) (outcome : NameReply) (logged : List EditOp) → NameLogs old new names names' (OwnOf (names_service names) c outcome (names_service names')) logged
    → NameLogs old new names names' (OwnOfNamesCall (names_service names) c (line.Name outcome) (names_service names')) logged
own-answered old new names names' c outcome logged l = record {
  stands = l.stands;
  moments = λ tells ops s. weaker (λ c left. own-weaker _ _ names s.used ops c (λ k op own. record { reply = outcome; reply_is = refl; own = own }) left) (l.moments tells ops s);
  run = l.run;
}

pub called : (old new : DiskState) (w : RunningWorld) (keys : RunningKms) (names names' : RunningNames) (tickets : List Ticket) (notes : List AskNote) (batches : List BatchNote) (replies : List KeptReply) (user : Text) (c : NameCall) (outcome : NameReply)
    → parts keys names tickets notes batches replies ≡ w → NameActsOnDisk old new names user c outcome names' → CallHappens old new w user c (line.Name outcome) (parts keys names' tickets notes batches replies)
called old new w keys names names' tickets notes batches replies user c outcome view acts =
    subst (λ (v : RunningWorld). CallHappens old new v user c (line.Name outcome) (parts keys names' tickets notes batches replies)) view
    (λ words. record {
      drawn = 0;
      logged = of_names acts.logged;
      acts = record { reply = outcome; names = names_service names'; ops = acts.logged; serves = acts.serves; logged_is = refl; reply_is = refl; none_drawn = refl; left = refl };
      rest = λ k. ap words (omega arith);
      disk = inr (record { ops = acts.logged; logged_is = refl; log = own-answered old new names names' c outcome acts.logged acts.disk; keys = refl });
      lists = refl;
    })

-- about what was read
pub path-called : {X : Type 0} (old new : DiskState) (w w' : RunningWorld) (user : Text) (c : X → NameCall) (o : Option X) (read : X) (outcome : Line) → o ≡ Some read → CallHappens old new w user (c read) outcome w'
    → PathHappens old new w user c o outcome w'
path-called {X = X} old new w w' user c o read outcome is happens =
    subst (λ (x : Option X). PathHappens old new w user c x outcome w') (sym is)
    (λ words. let h = happens words in record { drawn = h.drawn; logged = h.logged; acts = inl h.acts; rest = h.rest; disk = h.disk; lists = h.lists })

-- and about what could not be read
pub path-unread : {X : Type 0} (d : DiskState) (w w' : RunningWorld) (user : Text) (c : X → NameCall) (o : Option X) (fault : PathFault) (outcome : NameReply) → w' ≡ w → outcome ≡ unread_reply fault
    → (fault ≡ BadPath → o ≡ None) → (o ≡ None → fault ≡ BadPath) → PathHappens d d w user c o (line.Name outcome) w'
path-unread {X = X} d w w' user c o fault outcome same is bad only = λ words. does-nothing d w w' words _ _ _ same (go o fault bad only is)
  where
    go : (x : Option X) (f : PathFault) → (f ≡ BadPath → x ≡ None) → (x ≡ None → f ≡ BadPath) → outcome ≡ unread_reply f
        → PathActs (world_of w) user c x (Rose d.faults d.faults) (line.Name outcome) 0 nothing_acknowledged (world_of w')
    go None f b o t = record { reply_is = ap (λ (r : NameReply). line.Name r) (t ∙ ap unread_reply (o refl)); quiet = (refl, refl); same = ap world_of same }
    go (Some read) BadPath b o t = absurd (cc (b refl))
    go (Some read) NoMemory b o t = inr (record { reply_is = ap (λ (r : NameReply). line.Name r) t; quiet = (refl, refl); same = ap world_of same })

-- a finish by a kept reply, and by none

pub finished : (old new : DiskState) (w : RunningWorld) (keys : RunningKms) (names names' : RunningNames) (tickets : List Ticket) (notes : List AskNote) (batches : List BatchNote) (replies : List KeptReply) (id : ℕ) (answer : KeyAnswer) (result : Result (Unit {0}) NameRefusal) (outcome : Line)
    → parts keys names tickets notes batches replies ≡ w → FinishActs old new names id answer result names' → outcome ≡ finish_line result → FinishHappens old new w (Some (ToAsk id answer)) outcome (parts keys names' tickets notes batches replies)
finished old new w keys names names' tickets notes batches replies id answer result outcome view acts is =
    subst (λ (l : Line). FinishHappens old new w (Some (ToAsk id answer)) l (parts keys names' tickets notes batches replies)) (sym is)
    (subst (λ (v : RunningWorld). FinishHappens old new v (Some (ToAsk id answer)) (finish_line result) (parts keys names' tickets notes batches replies)) view
    (λ words. record {
      drawn = 0;
      logged = of_names acts.logged;
      acts = record { result = result; names = names_service names'; ops = acts.logged; finishes = acts.serves; logged_is = refl; reply_is = refl; none_drawn = refl; left = refl };
      rest = λ k. ap words (omega arith);
      disk = inr (record { ops = acts.logged; logged_is = refl; log = own-by; keys = refl });
      lists = refl;
    }))
  where
    -- the operation that may be written, with the line of the result
    own-by : NameLogs old new names names' (OwnOfReply (names_service names) (Some (ToAsk id answer)) (finish_line result) (names_service names')) acts.logged
    own-by = record {
      stands = acts.disk.stands;
      moments = λ outcome ops s. weaker (λ c left. own-weaker _ _ names s.used ops c (λ k op own. record { result = result; reply_is = refl; own = own }) left) (acts.disk.moments outcome ops s);
      run = acts.disk.run;
    }

-- a finish by the reply that is kept under a number
pub so-finished : (old new : DiskState) (w w' : RunningWorld) (read : Option KeptReply) (id : ℕ) (answer : KeyAnswer) (outcome : Line) → Some (id, answer) ≡ option_and_then ask_of read
    → FinishHappens old new w (Some (ToAsk id answer)) outcome w' → FinishHappens old new w read outcome w'
so-finished old new w w' None id answer outcome is happens = absurd cc
so-finished old new w w' (Some (ToBatch reply)) id answer outcome is happens = absurd cc
so-finished old new w w' (Some (ToAsk ask_id given)) id answer outcome is happens =
    let same : (id, answer) ≡ (ask_id, given) = some-is (id, answer) (ask_id, given) is in
    subst (λ (x : ℕ × KeyAnswer). FinishHappens old new w (Some (ToAsk x.0 x.1)) outcome w') same happens

pub finish-unknown : (d : DiskState) (w w' : RunningWorld) (read : Option KeptReply) → None ≡ option_and_then ask_of read → w' ≡ w → FinishHappens d d w read line.Unknown w'
finish-unknown d w w' None none same = λ words. does-nothing d w w' words _ _ _ same (record { reply_is = refl; quiet = (refl, refl); same = ap world_of same })
finish-unknown d w w' (Some (ToBatch reply)) none same = λ words. does-nothing d w w' words _ _ _ same (record { reply_is = refl; quiet = (refl, refl); same = ap world_of same })
finish-unknown d w w' (Some (ToAsk id answer)) none same = absurd cc

-- a walk of a zone

pub walk-unread : (d : DiskState) (w w' : RunningWorld) (path : Option NPath) (fault : PathFault) (outcome : Line) → w' ≡ w → outcome ≡ line.Refused (unread_refusal fault) → (fault ≡ BadPath → path ≡ None) → (path ≡ None → fault ≡ BadPath)
    → WalkHappens d d w path outcome w'
walk-unread d w w' path fault outcome same is bad only =
    subst (λ (l : Line). WalkHappens d d w path l w') (sym is) (λ words. does-nothing d w w' words _ _ _ same (go path fault bad only))
  where
    go : (x : Option NPath) (f : PathFault) → (f ≡ BadPath → x ≡ None) → (x ≡ None → f ≡ BadPath) → WalkAt (world_of w) x (Rose d.faults d.faults) (line.Refused (unread_refusal f)) 0 nothing_acknowledged (world_of w')
    go None f b o = ((refl, refl), record { reply_is = ap (λ (x : PathFault). line.Refused (unread_refusal x)) (o refl); same = ap world_of same })
    go (Some read) BadPath b o = absurd (cc (b refl))
    go (Some read) NoMemory b o = inr ((refl, refl), record { reply_is = refl; same = ap world_of same })

pub walk-no-room : (d : DiskState) (w w' : RunningWorld) (path : NPath) → w' ≡ w → WalkHappens d d w (Some path) (line.Refused refusal.NoMemory) w'
walk-no-room d w w' path same = λ words. does-nothing d w w' words _ _ _ same (inr ((refl, refl), record { reply_is = refl; same = ap world_of same }))

-- about the path that was read
pub so-walked : (old new : DiskState) (w w' : RunningWorld) (path : Option NPath) (read : NPath) (outcome : Line) → path ≡ Some read → WalkHappens old new w (Some read) outcome w' → WalkHappens old new w path outcome w'
so-walked old new w w' path read outcome is happens = subst (λ (x : Option NPath). WalkHappens old new w x outcome w') (sym is) happens

module _ (old new : DiskState) (keys : RunningKms) (names names' : RunningNames) (tickets : List Ticket) (notes : List AskNote) (batches : List BatchNote) (replies : List KeptReply) (path : NPath) where
  abbrev before_walk : RunningWorld
  before_walk = parts keys names tickets notes batches replies

  -- the operation that may be written, with the line of the result
  own-walked : (result : Result Walked NameRefusal) (number : ℕ) (logged : List EditOp) → NameLogs old new names names' (OwnOfWalk (names_service names) path result (names_service names')) logged
      → NameLogs old new names names' (OwnOfWalkAt (names_service names) (Some path) number (walk_line result number) (names_service names')) logged
  own-walked result number logged l = record {
    stands = l.stands;
    moments = λ tells ops s. weaker (λ c left. own-weaker _ _ names s.used ops c (λ k op own. record { result = result; reply_is = refl; own = own }) left) (l.moments tells ops s);
    run = l.run;
  }

  walk-done : (result : Result Walked NameRefusal) (w' : RunningWorld) → w'.keys ≡ keys → w'.names ≡ names' → world_of w' ≡ after_walk result (world_of (parts keys names' tickets notes batches replies)) → WalkActs old new names path result names'
      → WalkHappens old new before_walk (Some path) (walk_line result (length batches + 1)) w'
  walk-done result w' keys_is names_is left acts = λ words. record {
    drawn = 0;
    logged = of_names acts.logged;
    acts = inl (record { result = result; names = names_service names'; ops = acts.logged; walks = acts.serves; logged_is = refl; reply_is = refl; none_drawn = refl; left = left });
    rest = λ k. ap words (omega arith);
    disk = inr (record {
      ops = acts.logged;
      logged_is = refl;
      log = subst (λ (n : RunningNames). NameLogs old new names n (OwnOfWalkAt (names_service names) (Some path) (length batches + 1) (walk_line result (length batches + 1)) (names_service n)) acts.logged) (sym names_is) (own-walked result (length batches + 1) acts.logged acts.disk);
      keys = keys_is;
    });
    lists = ap (λ (k : RunningKms). k.acls) keys_is;
  }

pub walk-refused : (old new : DiskState) (w : RunningWorld) (keys : RunningKms) (names names' : RunningNames) (tickets : List Ticket) (notes : List AskNote) (batches batches' : List BatchNote) (replies : List KeptReply) (path : NPath) (result : Result Walked NameRefusal) (why : NameRefusal)
    → parts keys names tickets notes batches replies ≡ w → batches' ≡ batches → result ≡ Err why → WalkActs old new names path result names' → WalkHappens old new w (Some path) (line.Refused why) (parts keys names' tickets notes batches' replies)
walk-refused old new w keys names names' tickets notes batches batches' replies path result why view same is acts =
    subst (λ (v : RunningWorld). WalkHappens old new v (Some path) (line.Refused why) (parts keys names' tickets notes batches' replies)) view
    (walk-done old new keys names names' tickets notes batches replies path (Err why) (parts keys names' tickets notes batches' replies) refl refl
    (ap (λ (l : List BatchNote). world_of (parts keys names' tickets notes l replies)) same) (subst (λ (r : Result Walked NameRefusal). WalkActs old new names path r names') is acts))

pub walked : (old new : DiskState) (w : RunningWorld) (keys : RunningKms) (names names' : RunningNames) (tickets : List Ticket) (notes : List AskNote) (batches room batches' : List BatchNote) (replies : List KeptReply) (path : NPath) (result : Result Walked NameRefusal) (given : Walked) (outcome : Line)
    → parts keys names tickets notes batches replies ≡ w → room ≡ batches → batches' ≡ batches_after given room → outcome ≡ walk_line (Ok given) (length room + 1) → result ≡ Ok given → WalkActs old new names path result names'
    → WalkHappens old new w (Some path) outcome (parts keys names' tickets notes batches' replies)
walked old new w keys names names' tickets notes batches room batches' replies path result given outcome view same kept is gave acts =
    subst (λ (v : RunningWorld). WalkHappens old new v (Some path) outcome (parts keys names' tickets notes batches' replies)) view
    (subst (λ (l : Line). WalkHappens old new (parts keys names tickets notes batches replies) (Some path) l (parts keys names' tickets notes batches' replies)) (sym (is ∙ ap (λ (l : List BatchNote). walk_line (Ok given) (length l + 1)) same))
    (walk-done old new keys names names' tickets notes batches replies path (Ok given) (parts keys names' tickets notes batches' replies) refl refl (left given (kept ∙ ap (batches_after given) same))
    (subst (λ (r : Result Walked NameRefusal). WalkActs old new names path r names') gave acts)))
  where
    left : (x : Walked) → batches' ≡ batches_after x batches → world_of (parts keys names' tickets notes batches' replies) ≡ after_walk (Ok x) (world_of (parts keys names' tickets notes batches replies))
    left (walk.Batch batch) more = ap (λ (l : List BatchNote). world_of (parts keys names' tickets notes l replies)) more
    left (walk.NoneLeft outstanding) more = ap (λ (l : List BatchNote). world_of (parts keys names' tickets notes l replies)) more
    left walk.Completed more = ap (λ (l : List BatchNote). world_of (parts keys names' tickets notes l replies)) more

-- a batch that is served

pub serve-unknown : (lines : List PropLine) (d : DiskState) (w w' : RunningWorld) (words : ℕ → ℕ) (now : ℕ) (o : Option BatchNote) → None ≡ o → w' ≡ w → ServeHappens lines d d w words now o line.Unknown w' words
serve-unknown lines d w w' words now o none same =
    subst (λ (x : Option BatchNote). ServeHappens lines d d w words now x line.Unknown w' words) none
    (does-nothing d w w' words _ _ _ same (record { reply_is = refl; quiet = (refl, refl); same = ap world_of same }))

pub serve-no-room : (lines : List PropLine) (d : DiskState) (w w' : RunningWorld) (words : ℕ → ℕ) (now : ℕ) (o : Option BatchNote) (batch : BatchNote) → Some batch ≡ o → w' ≡ w
    → ServeHappens lines d d w words now o (line.Kms (key_reply.Refused key_refusal.NoMemory)) w' words
serve-no-room lines d w w' words now o batch is same =
    subst (λ (x : Option BatchNote). ServeHappens lines d d w words now x (line.Kms (key_reply.Refused key_refusal.NoMemory)) w' words) is
    (does-nothing d w w' words _ _ _ same (inr (record { reply_is = refl; quiet = (refl, refl); same = ap world_of same })))

-- the call for it, and its reply
pub served : (lines : List PropLine) (old new : DiskState) (w : RunningWorld) (words : ℕ → ℕ) (now : ℕ) (batch note : BatchNote) (c : KmsCall) (user : Text) (keys keys' : RunningKms) (names : RunningNames) (tickets : List Ticket) (notes : List AskNote) (batches : List BatchNote)
    (replies replies' : List KeptReply) (reply : KmsReply) (answer : ReplyState) (n number : ℕ) (words' : ℕ → ℕ)
    → parts keys names tickets notes batches replies ≡ w → Some batch ≡ numbered w.kept.batches n → note ≡ batch → c ≡ batch_call batch → user ≡ superuser
    → (AreListsOf keys.acls lines → ActsFor lines user old new keys words now c reply keys' words') → (ReplyFits note reply → answer ≡ reply_for note reply)
    → replies' ≡ replies ++ ToBatch answer ∷ [] → number ≡ length replies'
    → AreListsOf w.keys.acls lines → ServeHappens lines old new w words now (numbered w.kept.batches n) (line.Replied number (Some reply)) (parts keys' names tickets notes batches replies') words'
served lines old new w words now batch note c user keys keys' names tickets notes batches replies replies' reply answer n number words' view at same_note same_call as_superuser acts result more count =
    subst (λ (o : Option BatchNote). AreListsOf w.keys.acls lines → ServeHappens lines old new w words now o (line.Replied number (Some reply)) (parts keys' names tickets notes batches replies') words') at
    (subst (λ (v : RunningWorld). AreListsOf v.keys.acls lines → ServeHappens lines old new v words now (Some batch) (line.Replied number (Some reply)) (parts keys' names tickets notes batches replies') words') view
    (λ lists. go (subst (λ (u : Text). ActsFor lines u old new keys words now (batch_call batch) reply keys' words') as_superuser (subst (λ (x : KmsCall). ActsFor lines user old new keys words now x reply keys' words') same_call (acts lists)))))
  where
    go : ActsFor lines superuser old new keys words now (batch_call batch) reply keys' words'
        → ServeHappens lines old new (parts keys names tickets notes batches replies) words now (Some batch) (line.Replied number (Some reply)) (parts keys' names tickets notes batches replies') words'
    go a =
        let fits = batch-fits (service_of (running keys)) words now batch (Rose old.faults new.faults) (Tells old) reply a.drawn a.logged (service_of (running keys')) (verdict lines superuser (batch_call batch)) a.serves in
        let answer_is : answer ≡ reply_for batch reply = result (subst (λ (b : BatchNote). ReplyFits b reply) (sym same_note) fits) ∙ ap (λ (b : BatchNote). reply_for b reply) same_note in
        let kept : replies' ≡ replies ++ ToBatch (reply_for batch reply) ∷ [] = more ∙ ap (λ (r : ReplyState). replies ++ ToBatch r ∷ []) answer_is in
        record {
          drawn = a.drawn;
          logged = of_keys a.logged;
          acts = inl (record {
            reply = reply;
            keys = service_of (running keys');
            commands = a.logged;
            serves = a.serves;
            logged_is = refl;
            reply_is = ap (λ (k : ℕ). line.Replied k (Some reply)) (count ∙ more-by-one replies replies' (ToBatch (reply_for batch reply)) kept);
            left = ap (λ (l : List KeptReply). world_of (parts keys' names tickets notes batches l)) kept;
          });
          rest = a.rest;
          disk = inl (record { commands = a.logged; logged_is = refl; log = batch-logs old new keys.store keys'.store (service_of (running keys)) words now batch reply (service_of (running keys')) a.logged a.disk; names = refl });
          lists = a.lists;
        }

-- a delivery, and a batch that is given up

module _ (old new : DiskState) (keys : RunningKms) (names names' : RunningNames) (tickets : List Ticket) (notes : List AskNote) (batches : List BatchNote) (replies : List KeptReply) where
  abbrev before_update : RunningWorld
  before_update = parts keys names tickets notes batches replies

  abbrev after_update : RunningWorld
  after_update = parts keys names' tickets notes batches replies

  abbrev UpdateHappens : (NameState → UpdateDeed) → Line → Type 0
  UpdateHappens d outcome =
      (words : ℕ → ℕ) → Does old new before_update after_update words words NoCommand (OwnOfUpdated (names_service names) d outcome (names_service names'))
      (λ drawn logged. Updates (world_of before_update) d (Rose old.faults new.faults) outcome drawn logged (world_of after_update))

  -- the operation that may be written, with the line of the result
  own-updated : (d : NameState → UpdateDeed) (result : Result Delivered NameRefusal) (logged : List EditOp) → NameLogs old new names names' (OwnOfUpdate (names_service names) d result (names_service names')) logged
      → NameLogs old new names names' (OwnOfUpdated (names_service names) d (update_line result) (names_service names')) logged
  own-updated d result logged l = record {
    stands = l.stands;
    moments = λ tells ops s. weaker (λ c left. own-weaker _ _ names s.used ops c (λ k op own. record { result = result; reply_is = refl; own = own }) left) (l.moments tells ops s);
    run = l.run;
  }

  updated : (d : NameState → UpdateDeed) (result : Result Delivered NameRefusal) (outcome : Line) → UpdateActs old new names d result names' → outcome ≡ update_line result → UpdateHappens d outcome
  updated d result outcome acts is =
      subst (UpdateHappens d) (sym is) (λ words. record {
        drawn = 0;
        logged = of_names acts.logged;
        acts = record { result = result; names = names_service names'; ops = acts.logged; serves = acts.serves; logged_is = refl; reply_is = refl; none_drawn = refl; left = refl };
        rest = λ k. ap words (omega arith);
        disk = inr (record { ops = acts.logged; logged_is = refl; log = own-updated d result acts.logged acts.disk; keys = refl });
        lists = refl;
      })

-- by the reply that is kept under a number
pub delivered : (old new : DiskState) (w : RunningWorld) (keys : RunningKms) (names names' : RunningNames) (tickets : List Ticket) (notes : List AskNote) (batches : List BatchNote) (replies : List KeptReply) (read : Option KeptReply) (reply : ReplyState)
    (result : Result Delivered NameRefusal) (outcome : Line) → parts keys names tickets notes batches replies ≡ w → Some reply ≡ option_and_then batch_reply_of read → UpdateActs old new names (deliver_deed reply) result names' → outcome ≡ update_line result
    → DeliverHappens old new w read outcome (parts keys names' tickets notes batches replies)
delivered old new w keys names names' tickets notes batches replies read reply result outcome view at acts is =
    subst (λ (v : RunningWorld). DeliverHappens old new v read outcome (parts keys names' tickets notes batches replies)) view (go read at)
  where
    go : (o : Option KeptReply) → Some reply ≡ option_and_then batch_reply_of o → DeliverHappens old new (parts keys names tickets notes batches replies) o outcome (parts keys names' tickets notes batches replies)
    go None at = absurd cc
    go (Some (ToAsk id answer)) at = absurd cc
    go (Some (ToBatch other)) at =
        subst (λ (r : ReplyState). DeliverHappens old new (parts keys names tickets notes batches replies) (Some (ToBatch r)) outcome (parts keys names' tickets notes batches replies)) (some-is reply other at)
        (updated old new keys names names' tickets notes batches replies (deliver_deed reply) result outcome acts is)

pub deliver-unknown : (d : DiskState) (w w' : RunningWorld) (read : Option KeptReply) → None ≡ option_and_then batch_reply_of read → w' ≡ w → DeliverHappens d d w read line.Unknown w'
deliver-unknown d w w' None none same = λ words. does-nothing d w w' words _ _ _ same (record { reply_is = refl; quiet = (refl, refl); same = ap world_of same })
deliver-unknown d w w' (Some (ToAsk id answer)) none same = λ words. does-nothing d w w' words _ _ _ same (record { reply_is = refl; quiet = (refl, refl); same = ap world_of same })
deliver-unknown d w w' (Some (ToBatch reply)) none same = absurd cc

-- by the batch that is kept under a number
pub given-up : (old new : DiskState) (w : RunningWorld) (keys : RunningKms) (names names' : RunningNames) (tickets : List Ticket) (notes : List AskNote) (batches : List BatchNote) (replies : List KeptReply) (read : Option BatchNote) (batch : BatchNote)
    (result : Result Delivered NameRefusal) (outcome : Line) → parts keys names tickets notes batches replies ≡ w → Some batch ≡ read → UpdateActs old new names (give_up_deed batch) result names' → outcome ≡ update_line result
    → GiveUpHappens old new w read outcome (parts keys names' tickets notes batches replies)
given-up old new w keys names names' tickets notes batches replies read batch result outcome view at acts is =
    subst (λ (v : RunningWorld). GiveUpHappens old new v read outcome (parts keys names' tickets notes batches replies)) view
    (subst (λ (o : Option BatchNote). GiveUpHappens old new (parts keys names tickets notes batches replies) o outcome (parts keys names' tickets notes batches replies)) at
    (updated old new keys names names' tickets notes batches replies (give_up_deed batch) result outcome acts is))

pub give-up-unknown : (d : DiskState) (w w' : RunningWorld) (read : Option BatchNote) → None ≡ read → w' ≡ w → GiveUpHappens d d w read line.Unknown w'
give-up-unknown d w w' read none same =
    subst (λ (o : Option BatchNote). GiveUpHappens d d w o line.Unknown w') none
    (λ words. does-nothing d w w' words _ _ _ same (record { reply_is = refl; quiet = (refl, refl); same = ap world_of same }))

-- a draw

pub draw-unknown : (lines : List PropLine) (d : DiskState) (w w' : RunningWorld) (words : ℕ → ℕ) (now : ℕ) (o : Option AskNote) → None ≡ o → w' ≡ w → DrawHappens lines d d w words now o line.Unknown w' words
draw-unknown lines d w w' words now o none same =
    subst (λ (x : Option AskNote). DrawHappens lines d d w words now x line.Unknown w' words) none
    (does-nothing d w w' words _ _ _ same (record { reply_is = refl; quiet = (refl, refl); same = ap world_of same }))

pub draw-no-room : (lines : List PropLine) (d : DiskState) (w w' : RunningWorld) (words : ℕ → ℕ) (now : ℕ) (o : Option AskNote) (note : AskNote) → Some note ≡ o → w' ≡ w
    → DrawHappens lines d d w words now o (line.Kms (key_reply.Refused key_refusal.NoMemory)) w' words
draw-no-room lines d w w' words now o note is same =
    subst (λ (x : Option AskNote). DrawHappens lines d d w words now x (line.Kms (key_reply.Refused key_refusal.NoMemory)) w' words) is
    (does-nothing d w w' words _ _ _ same (inr (record { reply_is = refl; quiet = (refl, refl); same = ap world_of same })))

-- a call that was wanted, and its reply
pub drew-note : (lines : List PropLine) (old new : DiskState) (w : RunningWorld) (words : ℕ → ℕ) (now : ℕ) (note : AskNote) (keys keys' : RunningKms) (names : RunningNames) (tickets : List Ticket) (notes : List AskNote) (batches : List BatchNote) (replies replies' : List KeptReply)
    (outcome : Option KmsReply) (n number : ℕ) (words' : ℕ → ℕ)
    → parts keys names tickets notes batches replies ≡ w → Some note ≡ numbered w.kept.notes n → (AreListsOf keys.acls lines → WantHappens lines old new keys words now note.want outcome keys' words')
    → replies' ≡ replies ++ (kept_reply note outcome) ∷ [] → number ≡ length replies'
    → AreListsOf w.keys.acls lines → DrawHappens lines old new w words now (numbered w.kept.notes n) (line.Replied number outcome) (parts keys' names tickets notes batches replies') words'
drew-note lines old new w words now note keys keys' names tickets notes batches replies replies' outcome n number words' view at wants more count =
    subst (λ (o : Option AskNote). AreListsOf w.keys.acls lines → DrawHappens lines old new w words now o (line.Replied number outcome) (parts keys' names tickets notes batches replies') words') at
    (subst (λ (v : RunningWorld). AreListsOf v.keys.acls lines → DrawHappens lines old new v words now (Some note) (line.Replied number outcome) (parts keys' names tickets notes batches replies') words') view
    (λ lists. let does = wants lists in record {
      drawn = does.drawn;
      logged = of_keys does.commands;
      acts = inl (record {
        reply = outcome;
        keys = service_of (running keys');
        commands = does.commands;
        acts = does.acts;
        logged_is = refl;
        reply_is = ap (λ (k : ℕ). line.Replied k outcome) (count ∙ more-by-one replies replies' (kept_reply note outcome) more);
        left = ap (λ (l : List KeptReply). world_of (parts keys' names tickets notes batches l)) more;
      });
      rest = does.rest;
      disk = inl (record { commands = does.commands; logged_is = refl; log = does.log; names = refl });
      lists = does.lists;
    }))

-- the call that was wanted

pub nothing-wanted : (lines : List PropLine) (d : DiskState) (r : RunningKms) (words : ℕ → ℕ) (now : ℕ) (wanted : Want) → wanted ≡ want.Nothing → WantHappens lines d d r words now wanted None r words
nothing-wanted lines d r words now wanted is =
    subst (λ (x : Want). WantHappens lines d d r words now x None r words) (sym is)
    (record { drawn = 0; commands = []; acts = record { reply_is = refl; none_drawn = refl; none_logged = refl; same = refl }; rest = λ k. ap words (omega arith); log = no-log d r (IsLeftOf r.store.table.keys r.store.pending NoCommand); lists = refl })

pub generate-wanted : (lines : List PropLine) (old new : DiskState) (r r' : RunningKms) (words words' : ℕ → ℕ) (now : ℕ) (user : Text) (wanted : Want) (name : KeyName) (outcome : KmsReply) → user ≡ superuser → wanted ≡ want.Generate name
    → ActsFor lines user old new r words now (call.Generate name 1) outcome r' words' → WantHappens lines old new r words now wanted (Some outcome) r' words'
generate-wanted lines old new r r' words words' now user wanted name outcome as_superuser is acts =
    subst (λ (x : Want). WantHappens lines old new r words now x (Some outcome) r' words') (sym is)
    (made (subst (λ (u : Text). ActsFor lines u old new r words now (call.Generate name 1) outcome r' words') as_superuser acts))
  where
    made : ActsFor lines superuser old new r words now (call.Generate name 1) outcome r' words' → WantHappens lines old new r words now (want.Generate name) (Some outcome) r' words'
    made a = record { drawn = a.drawn; commands = a.logged; acts = record { reply = outcome; serves = a.serves; reply_is = refl }; rest = a.rest; log = generate-logs old new r.store r'.store (service_of (running r)) words now name outcome (service_of (running r')) a.logged a.disk; lists = a.lists }

pub metadata-wanted : (lines : List PropLine) (old new : DiskState) (r r' : RunningKms) (words words' : ℕ → ℕ) (now : ℕ) (user : Text) (wanted : Want) (name : KeyName) (outcome : KmsReply) → user ≡ superuser → wanted ≡ want.Metadata name
    → ActsFor lines user old new r words now (call.Metadata name) outcome r' words' → WantHappens lines old new r words now wanted (Some outcome) r' words'
metadata-wanted lines old new r r' words words' now user wanted name outcome as_superuser is acts =
    subst (λ (x : Want). WantHappens lines old new r words now x (Some outcome) r' words') (sym is)
    (made (subst (λ (u : Text). ActsFor lines u old new r words now (call.Metadata name) outcome r' words') as_superuser acts))
  where
    made : ActsFor lines superuser old new r words now (call.Metadata name) outcome r' words' → WantHappens lines old new r words now (want.Metadata name) (Some outcome) r' words'
    made a = record { drawn = a.drawn; commands = a.logged; acts = record { reply = outcome; serves = a.serves; reply_is = refl }; rest = a.rest; log = metadata-logs old new r.store r'.store (service_of (running r)) words now name outcome (service_of (running r')) a.logged a.disk; lists = a.lists }

-- a ticket

pub lacks-room : (w w' : RunningWorld) → w' ≡ w → LacksRoom (world_of w) (line.Kms (key_reply.Refused key_refusal.NoMemory)) 0 nothing_acknowledged (world_of w')
lacks-room w w' same = record { reply_is = refl; quiet = (refl, refl); same = ap world_of same }

pub no-ticket : (w w' : RunningWorld) → None ≡ ticket_of (keys_of (running w.keys)) → w' ≡ w → GivesTicket (world_of w) line.NoTicket 0 nothing_acknowledged (world_of w')
no-ticket w w' none same = record {
  reply_is = ap (λ (o : Option Ticket). ticket_line o (next_ticket (world_of w))) none;
  quiet = (refl, refl);
  left = ap world_of same ∙ ap (λ (o : Option Ticket). after_ticket o (world_of w)) none;
}

pub gives-ticket : (w : RunningWorld) (keys : RunningKms) (names : RunningNames) (tickets tickets' : List Ticket) (notes : List AskNote) (batches : List BatchNote) (replies : List KeptReply) (ticket : Ticket) (number : ℕ) (version : VersionName)
    → parts keys names tickets notes batches replies ≡ w → Some ticket ≡ ticket_of (keys_of (running keys)) → tickets' ≡ tickets ++ ticket ∷ [] → number ≡ length tickets' → version ≡ ticket.version
    → GivesTicket (world_of w) (line.Ticket number version ticket.wanted) 0 nothing_acknowledged (world_of (parts keys names tickets' notes batches replies))
gives-ticket w keys names tickets tickets' notes batches replies ticket number version view given more count is =
    subst (λ (v : RunningWorld). GivesTicket (world_of v) (line.Ticket number version ticket.wanted) 0 nothing_acknowledged (world_of (parts keys names tickets' notes batches replies))) view
    (record {
      reply_is = (λ i. line.Ticket ((count ∙ more-by-one tickets tickets' ticket more) i) (is i) ticket.wanted) ∙ ap (λ (o : Option Ticket). ticket_line o (length tickets + 1)) given;
      quiet = (refl, refl);
      left = ap (λ (l : List Ticket). world_of (parts keys names l notes batches replies)) more ∙ ap (λ (o : Option Ticket). after_ticket o (world_of (parts keys names tickets notes batches replies))) given;
    })

pub ticket-happens : (lines : List PropLine) (d : DiskState) (w w' : RunningWorld) (words : ℕ → ℕ) (now : ℕ) (e : Event) (outcome : Line) → e ≡ event.Ticket → w'.keys ≡ w.keys → w'.names ≡ w.names
    → GivesTicket (world_of w) outcome 0 nothing_acknowledged (world_of w') ⊎ LacksRoom (world_of w) outcome 0 nothing_acknowledged (world_of w') → Happens lines d d w words now e outcome w' words
ticket-happens lines d w w' words now e outcome is keys names acts =
    subst (λ (x : Event). Happens lines d d w words now x outcome w' words) (sym is)
    (record {
      drawn = 0;
      logged = nothing_acknowledged;
      acts = acts;
      rest = λ k. ap words (omega arith);
      disk = inl (record { commands = []; logged_is = refl; log = no-log-to d w.keys w'.keys (IsLeftOf w.keys.store.table.keys w.keys.store.pending NoCommand) keys; names = names });
      lists = ap (λ (k : RunningKms). k.acls) keys;
    })

-- a deposit

pub deposit-unknown : (w w' : RunningWorld) (words : ℕ → ℕ) (o : Option Ticket) → None ≡ o → w' ≡ w → DepositHappens w words o line.Unknown w' words
deposit-unknown w w' words o none same =
    subst (λ (x : Option Ticket). DepositHappens w words x line.Unknown w' words) none
    (subst (λ (v : RunningWorld). DepositHappens w words None line.Unknown v words) (sym same)
    (record { drawn = 0; acts = record { reply_is = refl; quiet = (refl, refl); same = refl }; rest = λ k. ap words (omega arith); keys = refl; names = refl }))

pub deposited-key : (w : RunningWorld) (words words' : ℕ → ℕ) (keys keys' : RunningKms) (names : RunningNames) (tickets : List Ticket) (notes : List AskNote) (batches : List BatchNote) (replies : List KeptReply) (ticket : Ticket) (sealed : SealedKey) (answer : Deposit) (n : ℕ)
    → parts keys names tickets notes batches replies ≡ w → Some ticket ≡ numbered w.kept.tickets n → sealed ≡ sealed_with ticket words → Drew words words' (words_of_draw (length ticket.material))
    → answer ≡ deposit_answer (keys_of (running keys)) sealed → keys' ≡ record keys { ready = queues_with keys.ready sealed answer }
    → DepositHappens w words (numbered w.kept.tickets n) (line.Deposit answer) (parts keys' names tickets notes batches replies) words'
deposited-key w words words' keys keys' names tickets notes batches replies ticket sealed answer n view at sealed_is rest is then_is =
    subst (λ (o : Option Ticket). DepositHappens w words o (line.Deposit answer) (parts keys' names tickets notes batches replies) words') at
    (subst (λ (v : RunningWorld). DepositHappens v words (Some ticket) (line.Deposit answer) (parts keys' names tickets notes batches replies) words') view
    (record {
      drawn = words_of_draw (length ticket.material);
      acts = record {
        reply_is = ap (λ (d : Deposit). line.Deposit d) (is ∙ ap (λ (x : SealedKey). deposit_answer (keys_of (running keys)) x) sealed_is);
        drawn_is = refl;
        none_logged = refl;
        left = ap (λ (k : RunningKms). world_of (parts k names tickets notes batches replies)) then_is ∙ ap (λ (d : Deposit). left sealed d) is ∙ ap (λ (x : SealedKey). left x (deposit_answer (keys_of (running keys)) x)) sealed_is;
      };
      rest = rest;
      keys = then_is ∙ (λ i. record keys { ready = (sym (ap (λ (k : RunningKms). k.ready) then_is)) i });
      names = refl;
    }))
  where
    left : SealedKey → Deposit → WorldState
    left x d = world_of (parts (record keys { ready = queues_with keys.ready x d }) names tickets notes batches replies)

pub deposit-happens : (lines : List PropLine) (d : DiskState) (w w' : RunningWorld) (words words' : ℕ → ℕ) (now : ℕ) (e : Event) (number : ℕ) (outcome : Line) → e ≡ event.Deposit number
    → DepositHappens w words (numbered w.kept.tickets number) outcome w' words' → Happens lines d d w words now e outcome w' words'
deposit-happens lines d w w' words words' now e number outcome is happens =
    subst (λ (x : Event). Happens lines d d w words now x outcome w' words') (sym is)
    (record {
      drawn = happens.drawn;
      logged = nothing_acknowledged;
      acts = happens.acts;
      rest = happens.rest;
      disk = inl (record {
        commands = [];
        logged_is = refl;
        log = subst (λ (k : RunningKms). Logs d d w.keys.store k.store (IsLeftOf w.keys.store.table.keys w.keys.store.pending NoCommand) []) (sym happens.keys) (no-log d w.keys (IsLeftOf w.keys.store.table.keys w.keys.store.pending NoCommand));
        names = happens.names;
      });
      lists = ap (λ (k : RunningKms). k.acls) happens.keys;
    })

-- each event

pub kms-happens : (lines : List PropLine) (old new : DiskState) (w : RunningWorld) (keys keys' : RunningKms) (names : RunningNames) (tickets : List Ticket) (notes : List AskNote) (batches : List BatchNote) (replies : List KeptReply) (words words' : ℕ → ℕ) (now : ℕ) (e : Event) (user : Text) (c : KmsCall) (reply : KmsReply)
    → parts keys names tickets notes batches replies ≡ w → e ≡ event.Kms user c → (AreListsOf keys.acls lines → ActsFor lines user old new keys words now c reply keys' words')
    → AreListsOf w.keys.acls lines → Happens lines old new w words now e (line.Kms reply) (parts keys' names tickets notes batches replies) words'
kms-happens lines old new w keys keys' names tickets notes batches replies words words' now e user c reply view is served =
    subst (λ (x : Event). AreListsOf w.keys.acls lines → Happens lines old new w words now x (line.Kms reply) (parts keys' names tickets notes batches replies) words') (sym is)
    (subst (λ (v : RunningWorld). AreListsOf v.keys.acls lines → Happens lines old new v words now (event.Kms user c) (line.Kms reply) (parts keys' names tickets notes batches replies) words') view
    (λ lists. let acts = served lists in record {
      drawn = acts.drawn;
      logged = of_keys acts.logged;
      acts = record { reply = reply; keys = service_of (running keys'); commands = acts.logged; serves = acts.serves; logged_is = refl; reply_is = refl; left = refl };
      rest = acts.rest;
      disk = inl (record { commands = acts.logged; logged_is = refl; log = call-logs old new keys.store keys'.store (service_of (running keys)) words now c reply (service_of (running keys')) acts.logged acts.disk; names = refl });
      lists = acts.lists;
    }))

-- one that was shown to happen under its own name
pub so-happens : (lines : List PropLine) (old new : DiskState) (w w' : RunningWorld) (words words' : ℕ → ℕ) (now : ℕ) (e f : Event) (outcome : Line) → e ≡ f → Happens lines old new w words now f outcome w' words' → Happens lines old new w words now e outcome w' words'
so-happens lines old new w w' words words' now e f outcome is happens = subst (λ (x : Event). Happens lines old new w words now x outcome w' words') (sym is) happens

-- a restart, done or not
pub restart-happens : (old new : DiskState) (w w' : RunningWorld) (words : ℕ → ℕ) (now : ℕ) (e f : Event) (result : Result Line WorldFault) → e ≡ f
    → MatchResult result (λ line. (lines : List PropLine) (words : ℕ → ℕ) (now : ℕ) → Happens lines old new w words now f line w' words) (λ fault. (words : ℕ → ℕ) → FailsToRestart old new w words f fault.file fault.fault w' words)
    → MatchResult result (λ line. (lines : List PropLine) → AreListsOf w.keys.acls lines → Happens lines old new w words now e line w' words) (λ fault. FailsToRestart old new w words e fault.file fault.fault w' words)
restart-happens old new w w' words now e f (Ok outcome) is happens = λ lines lists. subst (λ (x : Event). Happens lines old new w words now x outcome w' words) (sym is) (happens lines words now)
restart-happens old new w w' words now e f (Err fault) is fails = subst (λ (x : Event). FailsToRestart old new w words x fault.file fault.fault w' words) (sym is) (fails words)
