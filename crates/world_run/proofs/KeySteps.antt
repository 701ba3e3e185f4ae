-- Each event leaves a later table of keys.
use Rattle.std.proofs.Common.{◌≡◌, ◌∙◌, inl, inr, ℕ, ◌+◌, ◌*◌, ◌^◌, ◌<◌, Bool, true, false, List, Option, Some, None, Result, Ok, Err, refl, sym, ap, subst, arith}
use Rattle.std.specs.Prelude.{IfSome}
use Rattle.hk_base.specs.declared.texts.Text.{Text}
use Rattle.eek_seal.specs.declared.tickets.Ticket.{Ticket}
use Rattle.key_rows.specs.declared.rows.KeyCommand.{KeyCommand}
use Rattle.key_rows.specs.Table.{Table}
use Rattle.kms_acls.specs.declared.answers.Denied.{Denied}
use Rattle.kms_acls.specs.declared.answers.Shown.{Shown}
use Rattle.kms_acls.specs.Verdict.{verdict}
use Rattle.kms_calls.specs.declared.calls.KmsCall.{KmsCall}
use Rattle.kms_calls.specs.declared.calls.KmsCall.TheVariants as key_call
use Rattle.kms_calls.specs.declared.calls.KmsReply.{KmsReply}
use Rattle.prop_text.specs.declared.lines.PropLine.{PropLine}
use Rattle.kms_store.specs.Store.{settled_table}
use Rattle.kms_core.specs.Calls.{deed}
use Rattle.kms_core.specs.Draws.{sealed_with}
use Rattle.kms_core.specs.Ready.{ticket_of}
use Rattle.kms_core.specs.Service.{Committing, Kind, KmsServes, Reading, ServesBy, Working, kind}
use Rattle.kms_core.specs.State.{IsPending, IsService, KmsState, ServiceState, service_after_opening, settled}
use Rattle.kms_core.specs.Users.{ServesUnder, ServesUser}
use Rattle.kms_core.proofs.BirthLemmas.{works_only}
use Rattle.kms_core.proofs.ReadyLemmas.{KeepsReady, deposit_keeps_ready, opening_keeps_ready, service_keeps_ready, serves_keeps_ready, settling_keeps_ready}
use Rattle.name_calls.specs.Paths.{read_path}
use Rattle.name_calls.specs.ReadPaths.{read_any_path}
use Rattle.name_calls.specs.declared.calls.Ask.{Ask}
use Rattle.name_calls.specs.declared.calls.Ask.TheVariants as ask
use Rattle.name_calls.specs.declared.calls.AskNote.{AskNote}
use Rattle.name_calls.specs.declared.calls.NameCall.{NameCall}
use Rattle.name_calls.specs.declared.calls.NameCall.TheVariants as call
use Rattle.name_calls.specs.declared.calls.NameRefusal.{NameRefusal}
use Rattle.name_calls.specs.declared.calls.Want.{Want}
use Rattle.name_calls.specs.declared.calls.Want.TheVariants as want
use Rattle.name_calls.specs.declared.paths.NPath.{NPath}
use Rattle.reenc_walk.specs.declared.sent.BatchNote.{BatchNote}
use Rattle.name_core.specs.Calls.{superuser}
use Rattle.name_core.specs.declared.walks.Walked.{Walked}
use Rattle.name_core.specs.declared.walks.Walked.TheVariants as walk
use Rattle.hk_events.specs.declared.event.Event.{Event}
use Rattle.hk_events.specs.declared.event.Event.TheVariants as event
use Rattle.hk_events.specs.declared.event.Line.{Line}
use Rattle.world_run.specs.declared.kept.KeptReply.{KeptReply}
use Rattle.world_run.specs.declared.kept.KeptReply.TheVariants.{ToAsk, ToBatch}
use Rattle.world_run.specs.Acknowledged.{Acknowledged}
use Rattle.world_run.specs.Batches.{after_walk, batch_call}
use Rattle.world_run.specs.Keeps.{KnowsWorld}
use Rattle.world_run.specs.RenamePaths.{read_rename_paths, rename_along}
use Rattle.world_run.specs.SnapPaths.{read_snap_path, snap_at, unsnap_at}
use Rattle.world_run.specs.Step.{AskAt, DeliverReply, DepositActs, DrawActs, FinishReply, GiveUpBatch, PathActs, ServeActs, Step, WalkAt, WantActs, after_ask, after_ticket, delete_with, zone_with}
use Rattle.world_run.specs.World.{WorldState, numbered}
use Rattle.world_run.proofs.Laters.{KeysLater, MakesNew, later-by, later-opened, makes-new, same-later, then-later}
use Rattle.world_run.proofs.ServiceLaters.{acts-state}

-- What is true of a service whatever its openings: births rise and are below the next one, and a pending command makes no key of an
-- old birth.
pub record KeepsBirths (s : ServiceState) : Type 0 where
  pub ready : KeepsReady s
  pub waits : IfSome s.pending (MakesNew s.keys.table)

pub service-births : (s : ServiceState) → IsService s → KeepsBirths s
service-births s is = record { ready = service_keeps_ready s is; waits = go s.pending is.waits }
  where
    go : (o : Option KeyCommand) → IfSome o (IsPending s.keys) → IfSome o (MakesNew s.keys.table)
    go None waits = tt
    go (Some c) waits = makes-new s.keys.table c waits.fits

-- the pending command is settled
pub settled-later : (kept : Bool) (s : ServiceState) → KeepsBirths s → KeysLater s.keys.table (settled kept s).table
settled-later kept s k = go kept s.pending k.waits
  where
    go : (kept : Bool) (o : Option KeyCommand) → IfSome o (MakesNew s.keys.table) → KeysLater s.keys.table (settled_table kept o s.keys.table)
    go kept None waits = same-later s.keys.table
    go true (Some c) waits = later-by s.keys.table c waits
    go false (Some c) waits = same-later s.keys.table

-- a later table, from which the service goes on
abbrev pub StepsOn : ServiceState → ServiceState → Type 0
StepsOn s s' = KeysLater s.keys.table s'.keys.table × KeepsBirths s'

pub stays : (s s' : ServiceState) → s' ≡ s → KeepsBirths s → StepsOn s s'
stays s s' is k = subst (StepsOn s) (sym is) (same-later s.keys.table, k)

-- a call

module _ (s : KmsState) (words : ℕ → ℕ) (now : ℕ) where
  -- its command waits
  began : (c : KmsCall) → s.table.greatest < s.table.opening * 2 ^ 32 + s.next → KeysLater s.table (deed s words now c).state.table × IfSome (deed s words now c).logs (MakesNew (deed s words now c).state.table)
  began (key_call.Create name bits material description) below = (same-later s.table, (omega arith, below))
  began (key_call.Roll name material) below = (same-later s.table, tt)
  began (key_call.Delete name) below = (same-later s.table, tt)
  began (key_call.Invalidate name) below = (same-later s.table, tt)
  began (key_call.Metadata name) below = (same-later s.table, tt)
  began (key_call.Metadatas names) below = (same-later s.table, tt)
  began key_call.Names below = (same-later s.table, tt)
  began (key_call.Current name) below = (same-later s.table, tt)
  began (key_call.Versions name) below = (same-later s.table, tt)
  began (key_call.Version version) below = (same-later s.table, tt)
  began (key_call.Generate name count) below = (same-later s.table, tt)
  began (key_call.Decrypt name sent) below = (same-later s.table, tt)
  began (key_call.Reencrypt name sent) below = (same-later s.table, tt)
  began (key_call.Batch name sent) below = (same-later s.table, tt)

serves-on : (s : ServiceState) (words : ℕ → ℕ) (now : ℕ) (c : KmsCall) (fault tells : Type 0) (reply : KmsReply) (drawn : ℕ) (logged : List KeyCommand) (s' : ServiceState) → KmsServes s words now c fault tells reply drawn logged s' → KeepsBirths s → StepsOn s s'
serves-on s words now c fault tells reply drawn logged s' serves k =
    let rest = go (kind c) refl serves in
    (rest.0, record { ready = serves_keeps_ready s words now c fault tells reply drawn logged s' serves k.ready; waits = rest.1 })
  where
    Rest : ServiceState → Type 0
    Rest t = KeysLater s.keys.table t.keys.table × IfSome t.pending (MakesNew t.keys.table)

    go : (x : Kind) → kind c ≡ x → ServesBy x s words now c fault tells reply drawn logged s' → Rest s'
    go Reading is r = subst Rest (sym r.same) (same-later s.keys.table, k.waits)
    go Working is r = subst Rest (sym (works_only s words now c reply drawn logged s' is r)) (same-later s.keys.table, k.waits)
    go Committing is (inl u) = subst Rest (sym u.same) (same-later s.keys.table, k.waits)
    go Committing is (inr (kept, inl w)) =
        let before = settling_keeps_ready kept s k.ready in
        subst Rest (sym w.left)
        (then-later s.keys.table (settled kept s).table w.changed.table (settled-later kept s k) (acts-state (settled kept s) words now c reply drawn w.changed before.births before.rising w.acts).keys, tt)
    go Committing is (inr (kept, inr u)) =
        let before = settling_keeps_ready kept s k.ready in
        let b = began (settled kept s) words now c before.births in
        subst Rest (sym u.left) (then-later s.keys.table (settled kept s).table (deed (settled kept s) words now c).state.table (settled-later kept s k) b.0, b.1)

user-on : (lines : List PropLine) (user : Text) (s : ServiceState) (words : ℕ → ℕ) (now : ℕ) (c : KmsCall) (fault tells : Type 0) (reply : KmsReply) (drawn : ℕ) (logged : List KeyCommand) (s' : ServiceState)
    → ServesUser lines user s words now c fault tells reply drawn logged s' → KeepsBirths s → StepsOn s s'
user-on lines user s words now c fault tells reply drawn logged s' serves k = by-verdict (verdict lines user c) serves
  where
    by-verdict : (v : Result Shown Denied) → ServesUnder v s words now c fault tells reply drawn logged s' → StepsOn s s'
    by-verdict (Ok shown) p = serves-on s words now c fault tells p.reply drawn logged s' p.serves k
    by-verdict (Err denied) d = stays s s' d.same k

-- an event

-- the world after it is known, if the disk tells its content
pub known-world : (e : Event) (T : Type 0) → T → KnowsWorld e T
known-world (event.Kms user c) T t = tt
known-world event.Ticket T t = tt
known-world (event.Deposit n) T t = tt
known-world event.RestartKms T t = t
known-world event.RestartName T t = t
known-world (event.Mkdir user path) T t = tt
known-world (event.Delete user path recursive) T t = tt
known-world (event.Rename user path to) T t = tt
known-world (event.Info user path) T t = tt
known-world (event.List user path) T t = tt
known-world (event.Allow user path) T t = tt
known-world (event.Disallow user path) T t = tt
known-world (event.Snap user path name) T t = tt
known-world (event.Unsnap user path name) T t = tt
known-world (event.Cancel user path) T t = tt
known-world (event.Status user path) T t = tt
known-world (event.Zones user) T t = tt
known-world (event.AskCreate user path) T t = tt
known-world (event.AskZone user path key) T t = tt
known-world (event.AskSubmit user path) T t = tt
known-world (event.Draw n) T t = tt
known-world (event.Finish n) T t = tt
known-world (event.Walk path) T t = tt
known-world (event.Serve n) T t = t
known-world (event.Deliver n) T t = tt
known-world (event.GiveUp n) T t = tt

module _ (w : WorldState) (k : KeepsBirths w.keys) where
  abbrev On : WorldState → Type 0
  On v = StepsOn w.keys v.keys

  same : (w' v : WorldState) → w' ≡ v → v.keys ≡ w.keys → On w'
  same w' v is keys = stays w.keys w'.keys (ap (λ (x : WorldState). x.keys) is ∙ keys) k

  left : (w' v : WorldState) → w' ≡ v → On v → On w'
  left w' v is on = subst On (sym is) on

  by-path : {X : Type 0} (user : Text) (c : X → NameCall) (o : Option X) (fault : Type 0) (outcome : Line) (drawn : ℕ) (logged : Acknowledged) (w' : WorldState) → PathActs w user c o fault outcome drawn logged w' → On w'
  by-path user c None fault outcome drawn logged w' u = same w' w u.same refl
  by-path user c (Some read) fault outcome drawn logged w' (inl a) = same w' (record w { names = a.names }) a.left refl
  by-path user c (Some read) fault outcome drawn logged w' (inr u) = same w' w u.same refl

  by-ask : (user : Text) (a : NPath → Ask) (o : Option NPath) (outcome : Line) (w' : WorldState) → AskAt w user a o outcome w' → On w'
  by-ask user a None outcome w' r = same w' w r.same refl
  by-ask user a (Some p) outcome w' (inr r) = same w' w r.same refl
  by-ask user a (Some p) outcome w' (inl acts) = same w' _ acts.left (noted acts.result _)
    where
      noted : (result : Result AskNote NameRefusal) (v : WorldState) → (after_ask result v).keys ≡ v.keys
      noted (Ok note) v = refl
      noted (Err why) v = refl

  by-want : (lines : List PropLine) (words : ℕ → ℕ) (now : ℕ) (wanted : Want) (fault tells : Type 0) (reply : Option KmsReply) (drawn : ℕ) (commands : List KeyCommand) (keys : ServiceState)
      → WantActs lines w.keys words now wanted fault tells reply drawn commands keys → StepsOn w.keys keys
  by-want lines words now want.Nothing fault tells reply drawn commands keys n = stays w.keys keys n.same k
  by-want lines words now (want.Generate name) fault tells reply drawn commands keys a = user-on lines superuser w.keys words now (key_call.Generate name 1) fault tells a.reply drawn commands keys a.serves k
  by-want lines words now (want.Metadata name) fault tells reply drawn commands keys a = user-on lines superuser w.keys words now (key_call.Metadata name) fault tells a.reply drawn commands keys a.serves k

  by-draw : (lines : List PropLine) (words : ℕ → ℕ) (now : ℕ) (o : Option AskNote) (fault tells : Type 0) (outcome : Line) (drawn : ℕ) (logged : Acknowledged) (w' : WorldState) → DrawActs lines w words now o fault tells outcome drawn logged w' → On w'
  by-draw lines words now None fault tells outcome drawn logged w' u = same w' w u.same refl
  by-draw lines words now (Some note) fault tells outcome drawn logged w' (inl a) = left w' _ a.left (by-want lines words now note.want fault tells a.reply drawn a.commands a.keys a.acts)
  by-draw lines words now (Some note) fault tells outcome drawn logged w' (inr u) = same w' w u.same refl

  by-finish : (o : Option KeptReply) (fault : Type 0) (outcome : Line) (drawn : ℕ) (logged : Acknowledged) (w' : WorldState) → FinishReply w o fault outcome drawn logged w' → On w'
  by-finish None fault outcome drawn logged w' u = same w' w u.same refl
  by-finish (Some (ToAsk id answer)) fault outcome drawn logged w' f = same w' (record w { names = f.names }) f.left refl
  by-finish (Some (ToBatch reply)) fault outcome drawn logged w' u = same w' w u.same refl

  by-walk : (o : Option NPath) (fault : Type 0) (outcome : Line) (drawn : ℕ) (logged : Acknowledged) (w' : WorldState) → WalkAt w o fault outcome drawn logged w' → On w'
  by-walk None fault outcome drawn logged w' r = same w' w r.1.same refl
  by-walk (Some p) fault outcome drawn logged w' (inr r) = same w' w r.1.same refl
  by-walk (Some p) fault outcome drawn logged w' (inl a) = same w' _ a.left (walked a.result (record w { names = a.names }))
    where
      walked : (result : Result Walked NameRefusal) (v : WorldState) → (after_walk result v).keys ≡ v.keys
      walked (Ok (walk.Batch batch)) v = refl
      walked (Ok (walk.NoneLeft outstanding)) v = refl
      walked (Ok walk.Completed) v = refl
      walked (Err why) v = refl

  by-serve : (lines : List PropLine) (words : ℕ → ℕ) (now : ℕ) (o : Option BatchNote) (fault tells : Type 0) (outcome : Line) (drawn : ℕ) (logged : Acknowledged) (w' : WorldState) → ServeActs lines w words now o fault tells outcome drawn logged w' → On w'
  by-serve lines words now None fault tells outcome drawn logged w' u = same w' w u.same refl
  by-serve lines words now (Some batch) fault tells outcome drawn logged w' (inl a) = left w' _ a.left (user-on lines superuser w.keys words now (batch_call batch) fault tells a.reply drawn a.commands a.keys a.serves k)
  by-serve lines words now (Some batch) fault tells outcome drawn logged w' (inr u) = same w' w u.same refl

  by-delivery : (o : Option KeptReply) (fault : Type 0) (outcome : Line) (drawn : ℕ) (logged : Acknowledged) (w' : WorldState) → DeliverReply w o fault outcome drawn logged w' → On w'
  by-delivery None fault outcome drawn logged w' u = same w' w u.same refl
  by-delivery (Some (ToAsk id answer)) fault outcome drawn logged w' u = same w' w u.same refl
  by-delivery (Some (ToBatch reply)) fault outcome drawn logged w' u = same w' (record w { names = u.names }) u.left refl

  by-giving-up : (o : Option BatchNote) (fault : Type 0) (outcome : Line) (drawn : ℕ) (logged : Acknowledged) (w' : WorldState) → GiveUpBatch w o fault outcome drawn logged w' → On w'
  by-giving-up None fault outcome drawn logged w' u = same w' w u.same refl
  by-giving-up (Some batch) fault outcome drawn logged w' u = same w' (record w { names = u.names }) u.left refl

  by-deposit : (words : ℕ → ℕ) (o : Option Ticket) (outcome : Line) (drawn : ℕ) (logged : Acknowledged) (w' : WorldState) → DepositActs w words o outcome drawn logged w' → On w'
  by-deposit words None outcome drawn logged w' u = same w' w u.same refl
  by-deposit words (Some ticket) outcome drawn logged w' d =
      left w' _ d.left (same-later w.keys.keys.table, record { ready = deposit_keeps_ready w.keys (sealed_with ticket words) k.ready; waits = k.waits })

  by-ticket : (o : Option Ticket) (w' : WorldState) → w' ≡ after_ticket o w → On w'
  by-ticket None w' is = same w' w is refl
  by-ticket (Some ticket) w' is = same w' _ is refl

  by-restart : (kept : Bool) (table : Table) → table ≡ (settled kept w.keys).table → StepsOn w.keys (service_after_opening w.keys.keys.ready table)
  by-restart kept table is =
      subst (λ (t : Table). StepsOn w.keys (service_after_opening w.keys.keys.ready t)) (sym is) (
        then-later w.keys.keys.table (settled kept w.keys).table (service_after_opening w.keys.keys.ready (settled kept w.keys).table).keys.table (settled-later kept w.keys k) (later-opened w.keys.keys.ready (settled kept w.keys).table),
        record { ready = opening_keeps_ready kept w.keys w.keys.keys.ready k.ready; waits = tt },
      )

pub step-on : (lines : List PropLine) (w : WorldState) (words : ℕ → ℕ) (now : ℕ) (e : Event) (fault tells : Type 0) (outcome : Line) (drawn : ℕ) (logged : Acknowledged) (w' : WorldState) → KnowsWorld e tells
    → Step lines w words now e fault tells outcome drawn logged w' → KeepsBirths w.keys → StepsOn w.keys w'.keys
step-on lines w words now (event.Kms user c) fault tells outcome drawn logged w' knows s k = left w k w' _ s.left (user-on lines user w.keys words now c fault tells s.reply drawn s.commands s.keys s.serves k)
step-on lines w words now event.Ticket fault tells outcome drawn logged w' knows (inl g) k = by-ticket w k (ticket_of w.keys.keys) w' g.left
step-on lines w words now event.Ticket fault tells outcome drawn logged w' knows (inr full) k = same w k w' w full.same refl
step-on lines w words now (event.Deposit number) fault tells outcome drawn logged w' knows s k = by-deposit w k words (numbered w.kept.tickets number) outcome drawn logged w' s
step-on lines w words now event.RestartKms fault tells outcome drawn logged w' knows s k = left w k w' _ s.left (by-restart w k (s.found knows).kept s.table (s.found knows).table_is)
step-on lines w words now event.RestartName fault tells outcome drawn logged w' knows s k = same w k w' _ s.left refl
step-on lines w words now (event.Mkdir user p) fault tells outcome drawn logged w' knows s k = by-path w k user call.Mkdir (read_path p) fault outcome drawn logged w' s
step-on lines w words now (event.Delete user p recursive) fault tells outcome drawn logged w' knows s k = by-path w k user (delete_with recursive) (read_path p) fault outcome drawn logged w' s
step-on lines w words now (event.Rename user p q) fault tells outcome drawn logged w' knows s k = by-path w k user rename_along (read_rename_paths p q) fault outcome drawn logged w' s
step-on lines w words now (event.Info user p) fault tells outcome drawn logged w' knows s k = by-path w k user call.Info (read_any_path p) fault outcome drawn logged w' s
step-on lines w words now (event.List user p) fault tells outcome drawn logged w' knows s k = by-path w k user call.List (read_any_path p) fault outcome drawn logged w' s
step-on lines w words now (event.Allow user p) fault tells outcome drawn logged w' knows s k = by-path w k user call.Allow (read_path p) fault outcome drawn logged w' s
step-on lines w words now (event.Disallow user p) fault tells outcome drawn logged w' knows s k = by-path w k user call.Disallow (read_path p) fault outcome drawn logged w' s
step-on lines w words now (event.Snap user p name) fault tells outcome drawn logged w' knows s k = by-path w k user snap_at (read_snap_path p name) fault outcome drawn logged w' s
step-on lines w words now (event.Unsnap user p name) fault tells outcome drawn logged w' knows s k = by-path w k user unsnap_at (read_snap_path p name) fault outcome drawn logged w' s
step-on lines w words now (event.Cancel user p) fault tells outcome drawn logged w' knows s k = by-path w k user call.Cancel (read_path p) fault outcome drawn logged w' s
step-on lines w words now (event.Status user p) fault tells outcome drawn logged w' knows s k = by-path w k user call.Status (read_path p) fault outcome drawn logged w' s
step-on lines w words now (event.Zones user) fault tells outcome drawn logged w' knows s k = same w k w' (record w { names = s.names }) s.left refl
step-on lines w words now (event.AskCreate user p) fault tells outcome drawn logged w' knows s k = by-ask w k user ask.Create (read_path p) outcome w' s.1
step-on lines w words now (event.AskZone user p key) fault tells outcome drawn logged w' knows s k = by-ask w k user (zone_with key) (read_path p) outcome w' s.1
step-on lines w words now (event.AskSubmit user p) fault tells outcome drawn logged w' knows s k = by-ask w k user ask.Submit (read_path p) outcome w' s.1
step-on lines w words now (event.Draw number) fault tells outcome drawn logged w' knows s k = by-draw w k lines words now (numbered w.kept.notes number) fault tells outcome drawn logged w' s
step-on lines w words now (event.Finish number) fault tells outcome drawn logged w' knows s k = by-finish w k (numbered w.kept.replies number) fault outcome drawn logged w' s
step-on lines w words now (event.Walk p) fault tells outcome drawn logged w' knows s k = by-walk w k (read_path p) fault outcome drawn logged w' s
step-on lines w words now (event.Serve number) fault tells outcome drawn logged w' knows s k = by-serve w k lines words now (numbered w.kept.batches number) fault tells outcome drawn logged w' s
step-on lines w words now (event.Deliver number) fault tells outcome drawn logged w' knows s k = by-delivery w k (numbered w.kept.replies number) fault outcome drawn logged w' s
step-on lines w words now (event.GiveUp number) fault tells outcome drawn logged w' knows s k = by-giving-up w k (numbered w.kept.batches number) fault outcome drawn logged w' s
