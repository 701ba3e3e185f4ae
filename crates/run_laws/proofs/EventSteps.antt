-- What an event does to the namesystem, and that kept notes and replies stay.
use Rattle.std.proofs.Common.{◌≡◌, inl, inr, ℕ, zero, suc, ◌+◌, Bool, List, [], ◌∷◌, ◌++◌, length, Option, Some, None, Result, Ok, Err, refl, sym, ap, subst, arith}
use Rattle.std.specs.Bool.{⊤}
use Rattle.std.specs.Option.{option_map}
use Rattle.std.specs.Prelude.{slice_get}
use Rattle.hk_base.specs.declared.texts.Text.{Text}
use Rattle.name_calls.specs.declared.paths.NPath.{NPath}
use Rattle.name_calls.specs.Paths.{read_path}
use Rattle.name_calls.specs.ReadPaths.{read_any_path}
use Rattle.key_rows.specs.declared.rows.KeyCommand.{KeyCommand}
use Rattle.kms_calls.specs.declared.calls.KmsCall.TheVariants as key_call
use Rattle.kms_calls.specs.declared.calls.KmsReply.{KmsReply}
use Rattle.prop_text.specs.declared.lines.PropLine.{PropLine}
use Rattle.eek_seal.specs.declared.tickets.Ticket.{Ticket}
use Rattle.key_rows.specs.Table.{Table}
use Rattle.kms_core.specs.Draws.{sealed_with}
use Rattle.kms_core.specs.Ready.{deposited, ticket_of}
use Rattle.kms_core.specs.State.{ServiceState, service_after_opening}
use Rattle.name_calls.specs.declared.calls.Ask.{Ask}
use Rattle.name_calls.specs.declared.calls.Ask.TheVariants as ask
use Rattle.name_calls.specs.declared.calls.AskNote.{AskNote}
use Rattle.name_calls.specs.declared.calls.NameCall.{NameCall}
use Rattle.name_calls.specs.declared.calls.NameCall.TheVariants as call
use Rattle.name_calls.specs.declared.calls.NameRefusal.{NameRefusal}
use Rattle.name_calls.specs.declared.calls.Want.{Want}
use Rattle.name_calls.specs.declared.calls.Want.TheVariants as want
use Rattle.name_core.specs.Asks.{Asks}
use Rattle.name_core.specs.Calls.{superuser}
use Rattle.name_core.specs.Laws.{AnyFault, Asked, Called, Delivers, Finished, GivesUp, IsStep, Walks}
use Rattle.name_core.specs.Walking.{WalkServes}
use Rattle.name_core.specs.declared.walks.Walked.{Walked}
use Rattle.name_core.specs.declared.walks.Walked.TheVariants as walk
use Rattle.reenc_walk.specs.declared.sent.BatchNote.{BatchNote}
use Rattle.name_core.specs.State.{NameService, settled, started}
use Rattle.hk_events.specs.declared.event.Event.{Event}
use Rattle.hk_events.specs.declared.event.Event.TheVariants as event
use Rattle.hk_events.specs.declared.event.Line.{Line}
use Rattle.world_run.specs.declared.kept.KeptReply.{KeptReply}
use Rattle.world_run.specs.declared.kept.KeptReply.TheVariants.{ToAsk, ToBatch}
use Rattle.world_run.specs.Batches.{after_walk, batch_call, reply_for}
use Rattle.world_run.specs.Acknowledged.{Acknowledged}
use Rattle.world_run.specs.Step.{AskAt, DeliverReply, DepositActs, DrawActs, FinishReply, GiveUpBatch, NamesAct, PathActs, ServeActs, Step, WalkAt, WantActs, after_ask, after_ticket, delete_with, kept_reply, zone_with}
use Rattle.world_run.specs.RenamePaths.{read_rename_paths, rename_along}
use Rattle.world_run.specs.SnapPaths.{read_snap_path, snap_at, unsnap_at}
use Rattle.world_run.specs.World.{Kept, WorldState, numbered, with_names, with_reply, with_ticket}
use Rattle.kms_core.proofs.ReadyLemmas.{KeepsReady, deposit_keeps_ready, opening_keeps_ready, user_keeps_ready}
use Rattle.run_laws.specs.Runs.{DiskTells, HappensIn, LeadThrough, call_of}

-- values kept under numbers

got-stays : {X : Type 0} (xs : List X) (y : X) (n : ℕ) (x : X) → slice_get xs n ≡ Some x → slice_get (xs ++ y ∷ []) n ≡ Some x
got-stays [] y n x h = absurd cc
got-stays (z ∷ xs) y zero x h = h
got-stays (z ∷ xs) y (suc n) x h = got-stays xs y n x h

numbered-stays : {X : Type 0} (xs : List X) (y : X) (n : ℕ) (x : X) → numbered xs n ≡ Some x → numbered (xs ++ y ∷ []) n ≡ Some x
numbered-stays xs y zero x h = absurd cc
numbered-stays xs y (suc n) x h = got-stays xs y n x h

got-last : {X : Type 0} (xs : List X) (y : X) → slice_get (xs ++ y ∷ []) (length xs) ≡ Some y
got-last [] y = refl
got-last (z ∷ xs) y = got-last xs y

pub numbered-last : {X : Type 0} (xs : List X) (y : X) → numbered (xs ++ y ∷ []) (length xs + 1) ≡ Some y
numbered-last xs y = let next : suc (length xs) ≡ length xs + 1 = omega arith in subst (λ (n : ℕ). numbered (xs ++ y ∷ []) n ≡ Some y) next (got-last xs y)

-- notes and replies stay under their numbers
pub record StaysKept (k k' : Kept) : Type 0 where
  pub notes : (n : ℕ) (note : AskNote) → numbered k.notes n ≡ Some note → numbered k'.notes n ≡ Some note
  pub replies : (n : ℕ) (reply : KeptReply) → numbered k.replies n ≡ Some reply → numbered k'.replies n ≡ Some reply

kept-same : (k : Kept) → StaysKept k k
kept-same k = record { notes = λ n note h. h; replies = λ n reply h. h }

-- if the step is a call, it is the event's
abbrev pub IsOf : {s s' : NameService} → Event → IsStep s s' → Type 0
IsOf e (Called user c outcome logged serves) = call_of e ≡ Some c
IsOf e (Asked user a outcome asks same) = ⊤
IsOf e (Finished id given outcome logged serves) = ⊤
IsOf e (Walks p outcome logged serves) = ⊤
IsOf e (Delivers reply outcome logged serves) = ⊤
IsOf e (GivesUp note outcome logged serves) = ⊤

-- in an event the namesystem is unchanged, or takes a step, or is opened again from its log
pub data Turns (e : Event) (s s' : NameService) : Type 0 where
  Rests : s' ≡ s → Turns e s s'
  Stepped : (did : IsStep s s') → IsOf e did → Turns e s s'
  Reopened : (kept : Bool) → s' ≡ started s.names.batch (settled kept s).table → Turns e s s'

pub record Moves (e : Event) (w w' : WorldState) : Type 0 where
  pub names : Turns e w.names w'.names
  pub kept : StaysKept w.kept w'.kept
  pub ready : KeepsReady w.keys → KeepsReady w'.keys

-- the call that an ask wants
wanted-keeps : (lines : List PropLine) (s : ServiceState) (words : ℕ → ℕ) (now : ℕ) (wanted : Want) (fault tells : Type 0) (outcome : Option KmsReply) (drawn : ℕ) (logged : List KeyCommand) (s' : ServiceState)
    → WantActs lines s words now wanted fault tells outcome drawn logged s' → KeepsReady s → KeepsReady s'
wanted-keeps lines s words now want.Nothing fault tells outcome drawn logged s' a ready = subst KeepsReady (sym a.same) ready
wanted-keeps lines s words now (want.Generate name) fault tells outcome drawn logged s' a ready = user_keeps_ready lines superuser s words now (key_call.Generate name 1) fault tells a.reply drawn logged s' a.serves ready
wanted-keeps lines s words now (want.Metadata name) fault tells outcome drawn logged s' a ready = user_keeps_ready lines superuser s words now (key_call.Metadata name) fault tells a.reply drawn logged s' a.serves ready

-- events

module _ (e : Event) where
  at : (w v v' : WorldState) → v' ≡ v → Moves e w v → Moves e w v'
  at w v v' is m = subst (Moves e w) (sym is) m

  rests : (w w' : WorldState) → w' ≡ w → Moves e w w'
  rests w w' is = at w w w' is (record { names = Rests refl; kept = kept-same w.kept; ready = λ ready. ready })

  turns : (w : WorldState) (names : NameService) → Turns e w.names names → Moves e w (record w { names = names })
  turns w names t = record { names = t; kept = kept-same w.kept; ready = λ ready. ready }

  call-moves : (w : WorldState) (user : Text) (c : NameCall) (outcome : Line) (drawn : ℕ) (logged : Acknowledged) (w' : WorldState) → call_of e ≡ Some c → NamesAct w user c AnyFault outcome drawn logged w' → Moves e w w'
  call-moves w user c outcome drawn logged w' its a = at w (record w { names = a.names }) w' a.left (turns w a.names (Stepped (Called user c a.reply a.ops a.serves) its))

  path-moves : {X : Type 0} (w : WorldState) (user : Text) (c : X → NameCall) (o : Option X) (outcome : Line) (drawn : ℕ) (logged : Acknowledged) (w' : WorldState) → call_of e ≡ option_map c o
      → PathActs w user c o AnyFault outcome drawn logged w' → Moves e w w'
  path-moves w user c None outcome drawn logged w' its u = rests w w' u.same
  path-moves w user c (Some read) outcome drawn logged w' its (inl a) = call-moves w user (c read) outcome drawn logged w' its a
  path-moves w user c (Some read) outcome drawn logged w' its (inr u) = rests w w' u.same

  ask-moves : (w : WorldState) (user : Text) (k : NPath → Ask) (o : Option NPath) (outcome : Line) (w' : WorldState) → AskAt w user k o outcome w' → Moves e w w'
  ask-moves w user k None outcome w' r = rests w w' r.same
  ask-moves w user k (Some p) outcome w' (inr r) = rests w w' r.same
  ask-moves w user k (Some p) outcome w' (inl a) = at w (after_ask a.result (with_names a.names w)) w' a.left (go a.result a.asks)
    where
      go : (result : Result AskNote NameRefusal) → Asks w.names.names user (k p) result a.names → Moves e w (after_ask result (with_names a.names w))
      go (Ok note) asks = record {
        names = Stepped (Asked user (k p) (Ok note) asks refl) tt;
        kept = record { notes = λ n x h. numbered-stays w.kept.notes note n x h; replies = λ n x h. h };
        ready = λ ready. ready;
      }
      go (Err why) asks = turns w (record w.names { names = a.names }) (Stepped (Asked user (k p) (Err why) asks refl) tt)

  draw-moves : (lines : List PropLine) (w : WorldState) (words : ℕ → ℕ) (now : ℕ) (o : Option AskNote) (outcome : Line) (drawn : ℕ) (logged : Acknowledged) (w' : WorldState)
      → DrawActs lines w words now o AnyFault DiskTells outcome drawn logged w' → Moves e w w'
  draw-moves lines w words now None outcome drawn logged w' u = rests w w' u.same
  draw-moves lines w words now (Some note) outcome drawn logged w' (inr full) = rests w w' full.same
  draw-moves lines w words now (Some note) outcome drawn logged w' (inl d) = at w (with_reply (kept_reply note d.reply) (record w { keys = d.keys })) w' d.left (record {
    names = Rests refl;
    kept = record { notes = λ n x h. h; replies = λ n x h. numbered-stays w.kept.replies (kept_reply note d.reply) n x h };
    ready = wanted-keeps lines w.keys words now note.want AnyFault DiskTells d.reply drawn d.commands d.keys d.acts;
  })

  finish-moves : (w : WorldState) (o : Option KeptReply) (outcome : Line) (drawn : ℕ) (logged : Acknowledged) (w' : WorldState) → FinishReply w o AnyFault outcome drawn logged w' → Moves e w w'
  finish-moves w None outcome drawn logged w' u = rests w w' u.same
  finish-moves w (Some (ToBatch reply)) outcome drawn logged w' u = rests w w' u.same
  finish-moves w (Some (ToAsk id answer)) outcome drawn logged w' f = at w (record w { names = f.names }) w' f.left (turns w f.names (Stepped (Finished id answer f.result f.ops f.finishes) tt))

  walk-moves : (w : WorldState) (o : Option NPath) (outcome : Line) (drawn : ℕ) (logged : Acknowledged) (w' : WorldState) → WalkAt w o AnyFault outcome drawn logged w' → Moves e w w'
  walk-moves w None outcome drawn logged w' r = rests w w' r.1.same
  walk-moves w (Some p) outcome drawn logged w' (inr r) = rests w w' r.1.same
  walk-moves w (Some p) outcome drawn logged w' (inl a) = at w (after_walk a.result (record w { names = a.names })) w' a.left (go a.result a.walks)
    where
      -- a batch that is kept takes nothing away
      go : (result : Result Walked NameRefusal) → WalkServes w.names p AnyFault result a.ops a.names → Moves e w (after_walk result (record w { names = a.names }))
      go (Ok (walk.Batch batch)) did = record { names = Stepped (Walks p (Ok (walk.Batch batch)) a.ops did) tt; kept = record { notes = λ n x h. h; replies = λ n x h. h }; ready = λ ready. ready }
      go (Ok (walk.NoneLeft outstanding)) did = turns w a.names (Stepped (Walks p (Ok (walk.NoneLeft outstanding)) a.ops did) tt)
      go (Ok walk.Completed) did = turns w a.names (Stepped (Walks p (Ok walk.Completed) a.ops did) tt)
      go (Err why) did = turns w a.names (Stepped (Walks p (Err why) a.ops did) tt)

  serve-moves : (lines : List PropLine) (w : WorldState) (words : ℕ → ℕ) (now : ℕ) (o : Option BatchNote) (outcome : Line) (drawn : ℕ) (logged : Acknowledged) (w' : WorldState)
      → ServeActs lines w words now o AnyFault DiskTells outcome drawn logged w' → Moves e w w'
  serve-moves lines w words now None outcome drawn logged w' u = rests w w' u.same
  serve-moves lines w words now (Some batch) outcome drawn logged w' (inr full) = rests w w' full.same
  serve-moves lines w words now (Some batch) outcome drawn logged w' (inl d) = at w (with_reply (ToBatch (reply_for batch d.reply)) (record w { keys = d.keys })) w' d.left (record {
    names = Rests refl;
    kept = record { notes = λ n x h. h; replies = λ n x h. numbered-stays w.kept.replies (ToBatch (reply_for batch d.reply)) n x h };
    ready = user_keeps_ready lines superuser w.keys words now (batch_call batch) AnyFault DiskTells d.reply drawn d.commands d.keys d.serves;
  })

  deliver-moves : (w : WorldState) (o : Option KeptReply) (outcome : Line) (drawn : ℕ) (logged : Acknowledged) (w' : WorldState) → DeliverReply w o AnyFault outcome drawn logged w' → Moves e w w'
  deliver-moves w None outcome drawn logged w' u = rests w w' u.same
  deliver-moves w (Some (ToAsk id answer)) outcome drawn logged w' u = rests w w' u.same
  deliver-moves w (Some (ToBatch reply)) outcome drawn logged w' d = at w (record w { names = d.names }) w' d.left (turns w d.names (Stepped (Delivers reply d.result d.ops d.serves) tt))

  give-up-moves : (w : WorldState) (o : Option BatchNote) (outcome : Line) (drawn : ℕ) (logged : Acknowledged) (w' : WorldState) → GiveUpBatch w o AnyFault outcome drawn logged w' → Moves e w w'
  give-up-moves w None outcome drawn logged w' u = rests w w' u.same
  give-up-moves w (Some batch) outcome drawn logged w' g = at w (record w { names = g.names }) w' g.left (turns w g.names (Stepped (GivesUp batch g.result g.ops g.serves) tt))

  -- the ticket that is kept, if one is given
  ticket-moves : (w : WorldState) (o : Option Ticket) (w' : WorldState) → w' ≡ after_ticket o w → Moves e w w'
  ticket-moves w None w' left = rests w w' left
  ticket-moves w (Some ticket) w' left = at w (with_ticket ticket w) w' left (record { names = Rests refl; kept = record { notes = λ n x h. h; replies = λ n x h. h }; ready = λ ready. ready })

  deposit-moves : (w : WorldState) (words : ℕ → ℕ) (o : Option Ticket) (outcome : Line) (drawn : ℕ) (logged : Acknowledged) (w' : WorldState) → DepositActs w words o outcome drawn logged w' → Moves e w w'
  deposit-moves w words None outcome drawn logged w' u = rests w w' u.same
  deposit-moves w words (Some ticket) outcome drawn logged w' d = at w (record w { keys = record w.keys { keys = deposited w.keys.keys (sealed_with ticket words) } }) w' d.left (record {
    names = Rests refl;
    kept = kept-same w.kept;
    ready = deposit_keeps_ready w.keys (sealed_with ticket words);
  })

step-moves : (lines : List PropLine) (w : WorldState) (words : ℕ → ℕ) (now : ℕ) (e : Event) (outcome : Line) (drawn : ℕ) (logged : Acknowledged) (w' : WorldState)
    → Step lines w words now e AnyFault DiskTells outcome drawn logged w' → Moves e w w'
step-moves lines w words now (event.Kms user c) outcome drawn logged w' s = at (event.Kms user c) w (record w { keys = s.keys }) w' s.left (record {
  names = Rests refl;
  kept = kept-same w.kept;
  ready = user_keeps_ready lines user w.keys words now c AnyFault DiskTells s.reply drawn s.commands s.keys s.serves;
})
step-moves lines w words now event.Ticket outcome drawn logged w' (inl g) = ticket-moves event.Ticket w (ticket_of w.keys.keys) w' g.left
step-moves lines w words now event.Ticket outcome drawn logged w' (inr full) = rests event.Ticket w w' full.same
step-moves lines w words now (event.Deposit number) outcome drawn logged w' s = deposit-moves (event.Deposit number) w words (numbered w.kept.tickets number) outcome drawn logged w' s
step-moves lines w words now event.RestartKms outcome drawn logged w' s = at event.RestartKms w (record w { keys = service_after_opening w.keys.keys.ready s.table }) w' s.left (record {
  names = Rests refl;
  kept = kept-same w.kept;
  ready = λ ready.
      subst (λ (t : Table). KeepsReady (service_after_opening w.keys.keys.ready t)) (sym (s.found tt).table_is) (opening_keeps_ready (s.found tt).kept w.keys w.keys.keys.ready ready);
})
step-moves lines w words now event.RestartName outcome drawn logged w' s =
    at event.RestartName w (record w { names = started w.names.names.batch s.table }) w' s.left
    (turns event.RestartName w (started w.names.names.batch s.table) (Reopened (s.found tt).kept (ap (started w.names.names.batch) (s.found tt).table_is)))
step-moves lines w words now (event.Mkdir user p) outcome drawn logged w' s = path-moves (event.Mkdir user p) w user call.Mkdir (read_path p) outcome drawn logged w' refl s
step-moves lines w words now (event.Delete user p recursive) outcome drawn logged w' s = path-moves (event.Delete user p recursive) w user (delete_with recursive) (read_path p) outcome drawn logged w' refl s
step-moves lines w words now (event.Rename user p q) outcome drawn logged w' s = path-moves (event.Rename user p q) w user rename_along (read_rename_paths p q) outcome drawn logged w' refl s
step-moves lines w words now (event.Info user p) outcome drawn logged w' s = path-moves (event.Info user p) w user call.Info (read_any_path p) outcome drawn logged w' refl s
step-moves lines w words now (event.List user p) outcome drawn logged w' s = path-moves (event.List user p) w user call.List (read_any_path p) outcome drawn logged w' refl s
step-moves lines w words now (event.Allow user p) outcome drawn logged w' s = path-moves (event.Allow user p) w user call.Allow (read_path p) outcome drawn logged w' refl s
step-moves lines w words now (event.Disallow user p) outcome drawn logged w' s = path-moves (event.Disallow user p) w user call.Disallow (read_path p) outcome drawn logged w' refl s
step-moves lines w words now (event.Snap user p name) outcome drawn logged w' s = path-moves (event.Snap user p name) w user snap_at (read_snap_path p name) outcome drawn logged w' refl s
step-moves lines w words now (event.Unsnap user p name) outcome drawn logged w' s = path-moves (event.Unsnap user p name) w user unsnap_at (read_snap_path p name) outcome drawn logged w' refl s
step-moves lines w words now (event.Cancel user p) outcome drawn logged w' s = path-moves (event.Cancel user p) w user call.Cancel (read_path p) outcome drawn logged w' refl s
step-moves lines w words now (event.Status user p) outcome drawn logged w' s = path-moves (event.Status user p) w user call.Status (read_path p) outcome drawn logged w' refl s
step-moves lines w words now (event.Zones user) outcome drawn logged w' s = call-moves (event.Zones user) w user call.Zones outcome drawn logged w' refl s
step-moves lines w words now (event.AskCreate user p) outcome drawn logged w' s = ask-moves (event.AskCreate user p) w user ask.Create (read_path p) outcome w' s.1
step-moves lines w words now (event.AskZone user p key) outcome drawn logged w' s = ask-moves (event.AskZone user p key) w user (zone_with key) (read_path p) outcome w' s.1
step-moves lines w words now (event.AskSubmit user p) outcome drawn logged w' s = ask-moves (event.AskSubmit user p) w user ask.Submit (read_path p) outcome w' s.1
step-moves lines w words now (event.Draw number) outcome drawn logged w' s = draw-moves (event.Draw number) lines w words now (numbered w.kept.notes number) outcome drawn logged w' s
step-moves lines w words now (event.Finish number) outcome drawn logged w' s = finish-moves (event.Finish number) w (numbered w.kept.replies number) outcome drawn logged w' s
step-moves lines w words now (event.Walk p) outcome drawn logged w' s = walk-moves (event.Walk p) w (read_path p) outcome drawn logged w' s
step-moves lines w words now (event.Serve number) outcome drawn logged w' s = serve-moves (event.Serve number) lines w words now (numbered w.kept.batches number) outcome drawn logged w' s
step-moves lines w words now (event.Deliver number) outcome drawn logged w' s = deliver-moves (event.Deliver number) w (numbered w.kept.replies number) outcome drawn logged w' s
step-moves lines w words now (event.GiveUp number) outcome drawn logged w' s = give-up-moves (event.GiveUp number) w (numbered w.kept.batches number) outcome drawn logged w' s

pub moves : (w : WorldState) (e : Event) (outcome : Line) (w' : WorldState) → HappensIn w e outcome w' → Moves e w w'
moves w e outcome w' h = step-moves h.lines w h.words h.now e outcome h.drawn h.logged w' h.step

-- whole runs

pub leads-keep : (w : WorldState) (between : List WorldState) (v : WorldState) → LeadThrough w between v → StaysKept w.kept v.kept
leads-keep w [] v is = subst (λ (x : WorldState). StaysKept w.kept x.kept) (sym is) (kept-same w.kept)
leads-keep w (m ∷ ms) v leads =
    let first = (moves w leads.0.event leads.0.reply m leads.0.happens).kept in
    let rest = leads-keep m ms v leads.1 in
    record { notes = λ n note h. rest.notes n note (first.notes n note h); replies = λ n reply h. rest.replies n reply (first.replies n reply h) }

pub leads-ready : (w : WorldState) (between : List WorldState) (v : WorldState) → LeadThrough w between v → KeepsReady w.keys → KeepsReady v.keys
leads-ready w [] v is ready = subst (λ (x : WorldState). KeepsReady x.keys) (sym is) ready
leads-ready w (m ∷ ms) v leads ready = leads-ready m ms v leads.1 ((moves w leads.0.event leads.0.reply m leads.0.happens).ready ready)
