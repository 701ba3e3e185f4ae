-- Each event keeps re-encryptions covered.
use Rattle.std.proofs.Common.{◌≡◌, inl, inr, ℕ, ◌+◌, Bool, true, List, [], ◌++◌, Option, Some, None, Ok, Err, refl, sym, ap, subst, ◌∙◌}
use Rattle.std.specs.declared.result.Result.{Result}
use Rattle.inode_tree.specs.Rows.{IsRows}
use Rattle.edit_ops.specs.declared.ops.EditOp.{EditOp}
use Rattle.key_rows.specs.Table.{Table}
use Rattle.prop_text.specs.declared.lines.PropLine.{PropLine}
use Rattle.eek_seal.specs.declared.tickets.Ticket.{Ticket}
use Rattle.hk_base.specs.declared.texts.Text.{Text}
use Rattle.kms_calls.specs.declared.calls.KmsCall.TheVariants as key_call
use Rattle.kms_calls.specs.declared.calls.KmsReply.{KmsReply}
use Rattle.key_rows.specs.declared.rows.KeyCommand.{KeyCommand}
use Rattle.kms_core.specs.Ready.{ticket_of}
use Rattle.kms_core.specs.State.{ServiceState, service_after_opening, settled as settled_keys}
use Rattle.name_calls.specs.Paths.{read_path}
use Rattle.name_calls.specs.ReadPaths.{read_any_path}
use Rattle.name_calls.specs.declared.calls.Ask.{Ask}
use Rattle.name_calls.specs.declared.calls.Ask.TheVariants as ask
use Rattle.name_calls.specs.declared.calls.AskNote.{AskNote}
use Rattle.name_calls.specs.declared.calls.KeyAnswer.{KeyAnswer}
use Rattle.name_calls.specs.declared.calls.NameCall.{NameCall}
use Rattle.name_calls.specs.declared.calls.NameCall.TheVariants as call
use Rattle.name_calls.specs.declared.calls.NameRefusal.{NameRefusal}
use Rattle.name_calls.specs.declared.calls.Want.{Want}
use Rattle.name_calls.specs.declared.calls.Want.TheVariants as want
use Rattle.name_calls.specs.declared.paths.NPath.{NPath}
use Rattle.reenc_walk.specs.declared.sent.BatchNote.{BatchNote}
use Rattle.name_store.specs.Table.{NameTable}
use Rattle.name_core.specs.Calls.{superuser}
use Rattle.name_core.specs.Service.{FinishServes}
use Rattle.name_core.specs.State.{NameService, NameState, settled, started}
use Rattle.name_core.specs.Updates.{UpdateDeed, deliver_deed, give_up_deed}
use Rattle.name_core.specs.declared.walks.Walked.{Walked}
use Rattle.name_core.specs.declared.walks.Walked.TheVariants as walk
use Rattle.hk_events.specs.declared.event.Event.{Event}
use Rattle.hk_events.specs.declared.event.Event.TheVariants as event
use Rattle.hk_events.specs.declared.event.Line.{Line}
use Rattle.world_run.specs.declared.kept.KeptReply.{KeptReply}
use Rattle.world_run.specs.declared.kept.KeptReply.TheVariants.{ToAsk, ToBatch}
use Rattle.world_run.specs.Acknowledged.{Acknowledged}
use Rattle.world_run.specs.Batches.{after_walk, batch_call}
use Rattle.world_run.specs.Covered.{CoveredBy}
use Rattle.world_run.specs.Keeps.{KnowsWorld}
use Rattle.world_run.specs.Ledger.{Hidden, Past, enters, hidden_after, past_of}
use Rattle.world_run.specs.Linked.{LinkedWorld, ServicesFit}
use Rattle.world_run.specs.RenamePaths.{read_rename_paths, rename_along}
use Rattle.world_run.specs.SnapPaths.{read_snap_path, snap_at, unsnap_at}
use Rattle.world_run.specs.Step.{AskAt, DeliverReply, DepositActs, DrawActs, FinishReply, GiveUpBatch, PathActs, ServeActs, Step, Updates, WalkAt, WantActs, after_ask, after_ticket, delete_with, finish_line, zone_with}
use Rattle.world_run.specs.World.{WorldState, numbered, with_names}
use Rattle.world_run.proofs.CoveredCalls.{CoversNames, asks-cover, calls-cover, walks-cover}
use Rattle.world_run.proofs.CoveredDeliveries.{DeedCovers, delivered-covers, given-up-covers, update-serves-covers}
use Rattle.world_run.proofs.CoveredEnds.{covered-forget}
use Rattle.world_run.proofs.CoveredFinish.{entered_past, finishes-cover, unentered-covers}
use Rattle.world_run.proofs.CoveredKeys.{covered-keys, covered-place}
use Rattle.world_run.proofs.CoveredOps.{covered-same}
use Rattle.world_run.proofs.KeepLemmas.{finish-hidden, keeps-linked}
use Rattle.world_run.proofs.Laters.{KeysLater, later-opened, later-settled, same-later, then-later}
use Rattle.world_run.proofs.Members.{numbered-beside, numbered-in}
use Rattle.world_run.proofs.PastLemmas.{deposit-past, draw-past, later_past, serve-past}
use Rattle.world_run.proofs.ServiceLaters.{user-state}

-- with and without the pending operation
abbrev pub CoversWorld : WorldState → Hidden → Type 0
CoversWorld w h = CoversNames (past_of h) w.keys.keys.table.rows w.names

module _ (w : WorldState) (h : Hidden) (drawn : ℕ) (l : LinkedWorld w h) where
  -- after an event that enters nothing
  abbrev Moved : WorldState → Type 0
  Moved v = CoversNames (later_past drawn h) v.keys.keys.table.rows v.names

  -- another namesystem
  named : (names : NameService) → CoversNames (past_of h) w.keys.keys.table.rows names → Moved (record w { names = names })
  named names c = λ kept. covered-place (past_of h) (h.place + drawn) w.keys.keys.table.rows (settled kept names).table (settled kept names).walks (c kept)

  -- later keys
  keyed : (keys : ServiceState) → KeysLater w.keys.keys.table keys.keys.table → Moved (record w { keys = keys })
  keyed keys later = λ kept.
      covered-place (past_of h) (h.place + drawn) keys.keys.table.rows (settled kept w.names).table (settled kept w.names).walks
      (covered-keys (past_of h) w.keys.keys.table.rows keys.keys.table.rows (settled kept w.names).table (settled kept w.names).walks (λ id d i. later.rows d.birth (l.draws.draws.born d (inl (id, i)))) (l.covered kept))

  unmoved : Moved w
  unmoved = named w.names l.covered

  unmoved-to : (w' : WorldState) → w' ≡ w → Moved w'
  unmoved-to w' same = subst Moved (sym same) unmoved

  named-to : (w' : WorldState) (names : NameService) → w' ≡ record w { names = names } → CoversNames (past_of h) w.keys.keys.table.rows names → Moved w'
  named-to w' names left c = subst Moved (sym left) (named names c)

  ticketed : (o : Option Ticket) → Moved (after_ticket o w)
  ticketed None = unmoved
  ticketed (Some ticket) = unmoved

  -- calls and asks

  by-path : {X : Type 0} (user : Text) (c : X → NameCall) (o : Option X) (fault : Type 0) (outcome : Line) (logged : Acknowledged) (w' : WorldState) → ServicesFit w → PathActs w user c o fault outcome drawn logged w' → Moved w'
  by-path user c None fault outcome logged w' fit u = unmoved-to w' u.same
  by-path user c (Some read) fault outcome logged w' fit (inl a) = named-to w' a.names a.left (calls-cover w h user (c read) fault a.reply a.ops a.names fit.names l a.serves)
  by-path user c (Some read) fault outcome logged w' fit (inr u) = unmoved-to w' u.same

  asked : (result : Result AskNote NameRefusal) (names : NameState) → Moved (with_names names w) → Moved (after_ask result (with_names names w))
  asked (Ok note) names c = c
  asked (Err why) names c = c

  by-ask : (user : Text) (a : NPath → Ask) (o : Option NPath) (outcome : Line) (w' : WorldState) → AskAt w user a o outcome w' → Moved w'
  by-ask user a None outcome w' r = unmoved-to w' r.same
  by-ask user a (Some p) outcome w' (inl acts) =
      subst Moved (sym acts.left)
      (asked acts.result acts.names (named (record w.names { names = acts.names }) (asks-cover (past_of h) w.keys.keys.table.rows w.names user (a p) acts.result acts.names l.covered acts.asks)))
  by-ask user a (Some p) outcome w' (inr r) = unmoved-to w' r.same

  -- walks

  walked-names : (result : Result Walked NameRefusal) (v : WorldState) → (after_walk result v).names ≡ v.names
  walked-names (Ok (walk.Batch batch)) v = refl
  walked-names (Ok (walk.NoneLeft outstanding)) v = refl
  walked-names (Ok walk.Completed) v = refl
  walked-names (Err why) v = refl

  walked : (result : Result Walked NameRefusal) (v : WorldState) → Moved v → Moved (after_walk result v)
  walked (Ok (walk.Batch batch)) v c = c
  walked (Ok (walk.NoneLeft outstanding)) v c = c
  walked (Ok walk.Completed) v c = c
  walked (Err why) v c = c

  by-walk : (o : Option NPath) (fault : Type 0) (outcome : Line) (logged : Acknowledged) (w' : WorldState) → ServicesFit w → IsRows w'.names.names.table.rows → WalkAt w o fault outcome drawn logged w' → Moved w'
  by-walk None fault outcome logged w' fit rules r = unmoved-to w' r.1.same
  by-walk (Some p) fault outcome logged w' fit rules (inl a) =
      let names_are : w'.names ≡ a.names = ap (λ (v : WorldState). v.names) a.left ∙ walked-names a.result (record w { names = a.names }) in
      subst Moved (sym a.left)
      (walked a.result (record w { names = a.names })
      (named a.names (walks-cover w h p fault a.result a.ops a.names fit.names l (subst (λ (n : NameService). IsRows n.names.table.rows) names_are rules) a.walks)))
  by-walk (Some p) fault outcome logged w' fit rules (inr r) = unmoved-to w' r.1.same

  -- deliveries and batches that are given up

  updated : (d : NameState → UpdateDeed) (fault : Type 0) (outcome : Line) (logged : Acknowledged) (w' : WorldState) → ServicesFit w
      → ((k : Bool) → DeedCovers (past_of h) w.keys.keys.table.rows (settled k w.names) (d (settled k w.names))) → Updates w d fault outcome drawn logged w' → Moved w'
  updated d fault outcome logged w' fit covers u = named-to w' u.names u.left (update-serves-covers w h d fault u.result u.ops u.names fit.names l covers u.serves)

  by-delivery : (number : ℕ) (o : Option KeptReply) (fault : Type 0) (outcome : Line) (logged : Acknowledged) (w' : WorldState) → ServicesFit w → numbered w.kept.replies number ≡ o → DeliverReply w o fault outcome drawn logged w' → Moved w'
  by-delivery number None fault outcome logged w' fit at u = unmoved-to w' u.same
  by-delivery number (Some (ToAsk id answer)) fault outcome logged w' fit at u = unmoved-to w' u.same
  by-delivery number (Some (ToBatch reply)) fault outcome logged w' fit at u =
      updated (deliver_deed reply) fault outcome logged w' fit (λ k. delivered-covers w h reply k fit.names l (numbered-in w.kept.replies number (ToBatch reply) at)) u

  by-giving-up : (o : Option BatchNote) (fault : Type 0) (outcome : Line) (logged : Acknowledged) (w' : WorldState) → ServicesFit w → GiveUpBatch w o fault outcome drawn logged w' → Moved w'
  by-giving-up None fault outcome logged w' fit u = unmoved-to w' u.same
  by-giving-up (Some batch) fault outcome logged w' fit u = updated (give_up_deed batch) fault outcome logged w' fit (λ k. given-up-covers w h batch k fit.names l) u

  -- calls of the key management service

  wanted-later : (lines : List PropLine) (words : ℕ → ℕ) (now : ℕ) (wanted : Want) (fault tells : Type 0) (reply : Option KmsReply) (commands : List KeyCommand) (keys : ServiceState) → ServicesFit w
      → WantActs lines w.keys words now wanted fault tells reply drawn commands keys → KeysLater w.keys.keys.table keys.keys.table
  wanted-later lines words now want.Nothing fault tells reply commands keys fit n = subst (λ (s : ServiceState). KeysLater w.keys.keys.table s.keys.table) (sym n.same) (same-later w.keys.keys.table)
  wanted-later lines words now (want.Generate name) fault tells reply commands keys fit a =
      (user-state lines superuser w.keys words now (key_call.Generate name 1) fault tells a.reply drawn commands keys fit.keys a.serves).keys
  wanted-later lines words now (want.Metadata name) fault tells reply commands keys fit a =
      (user-state lines superuser w.keys words now (key_call.Metadata name) fault tells a.reply drawn commands keys fit.keys a.serves).keys

  by-draw : (lines : List PropLine) (words : ℕ → ℕ) (now : ℕ) (o : Option AskNote) (fault tells : Type 0) (outcome : Line) (logged : Acknowledged) (w' : WorldState) → ServicesFit w → DrawActs lines w words now o fault tells outcome drawn logged w' → Moved w'
  by-draw lines words now None fault tells outcome logged w' fit u = unmoved-to w' u.same
  by-draw lines words now (Some note) fault tells outcome logged w' fit (inl a) = subst Moved (sym a.left) (keyed a.keys (wanted-later lines words now note.want fault tells a.reply a.commands a.keys fit a.acts))
  by-draw lines words now (Some note) fault tells outcome logged w' fit (inr u) = unmoved-to w' u.same

  by-serve : (lines : List PropLine) (words : ℕ → ℕ) (now : ℕ) (o : Option BatchNote) (fault tells : Type 0) (outcome : Line) (logged : Acknowledged) (w' : WorldState) → ServicesFit w → ServeActs lines w words now o fault tells outcome drawn logged w' → Moved w'
  by-serve lines words now None fault tells outcome logged w' fit u = unmoved-to w' u.same
  by-serve lines words now (Some batch) fault tells outcome logged w' fit (inl a) =
      subst Moved (sym a.left) (keyed a.keys (user-state lines superuser w.keys words now (batch_call batch) fault tells a.reply drawn a.commands a.keys fit.keys a.serves).keys)
  by-serve lines words now (Some batch) fault tells outcome logged w' fit (inr u) = unmoved-to w' u.same

  by-deposit : (words : ℕ → ℕ) (o : Option Ticket) (outcome : Line) (logged : Acknowledged) (w' : WorldState) → DepositActs w words o outcome drawn logged w' → Moved w'
  by-deposit words None outcome logged w' u = unmoved-to w' u.same
  by-deposit words (Some ticket) outcome logged w' d = subst Moved (sym d.left) unmoved

  -- the keys that a start finds
  reopened-keys : (kept : Bool) (table : Table) → table ≡ (settled_keys kept w.keys).table → ServicesFit w → Moved (record w { keys = service_after_opening w.keys.keys.ready table })
  reopened-keys kept table is fit =
      let found : KeysLater w.keys.keys.table table = subst (KeysLater w.keys.keys.table) (sym is) (later-settled kept w.keys fit.keys) in
      keyed (service_after_opening w.keys.keys.ready table)
      (then-later w.keys.keys.table table (service_after_opening w.keys.keys.ready table).keys.table found (later-opened w.keys.keys.ready table))

  -- the namesystem that a start finds
  reopened-names : (kept : Bool) (table : NameTable) → table ≡ (settled kept w.names).table → Moved (record w { names = started w.names.names.batch table })
  reopened-names kept table is = λ again.
      covered-place (past_of h) (h.place + drawn) w.keys.keys.table.rows (record table { opening = table.opening + 1 }) []
      (covered-same (past_of h) w.keys.keys.table.rows table [] (table.opening + 1) table.snaps
      (subst (λ (t : NameTable). CoveredBy (past_of h) w.keys.keys.table.rows t []) (sym is) (covered-forget (past_of h) w.keys.keys.table.rows (settled kept w.names).table (settled kept w.names).walks (l.covered kept))))

-- a finish

finished-covers : (w : WorldState) (words : ℕ → ℕ) (h : Hidden) (number drawn : ℕ) (id : ℕ) (answer : KeyAnswer) (fault : Type 0) (result : Result (Unit {0}) NameRefusal) (ops : List EditOp) (names : NameService) → ServicesFit w → LinkedWorld w h
    → numbered w.kept.replies number ≡ Some (ToAsk id answer) → FinishServes w.names id answer fault result ops names
    → CoversWorld (record w { names = names }) (hidden_after w words (event.Finish number) (finish_line result) drawn (record w { names = names }) h)
finished-covers w words h number drawn id answer fault result ops names fit l at serves =
    let drew = numbered-beside w.kept.replies h.replied number (ToAsk id answer) l.draws.replies.as_many at in
    let past : Past = entered_past (enters id (finish_line result) names) id drew.0 (settled true names).table (past_of h) in
    let covers = finishes-cover w h id answer drew.0 fault result ops names fit.names l (number, at, drew.1) serves in
    subst (CoversWorld (record w { names = names })) (sym (finish-hidden w words h number drawn id answer drew.0 result names at drew.1))
    (λ kept. covered-place past (h.place + drawn) w.keys.keys.table.rows (settled kept names).table (settled kept names).walks (covers kept))

-- nothing is entered
unentered-world : (w : WorldState) (h : Hidden) (drawn : ℕ) → LinkedWorld w h → CoversNames (record (past_of h) { ledger = h.ledger ++ []; place = h.place + drawn; starts = h.starts ++ [] }) w.keys.keys.table.rows w.names
unentered-world w h drawn l = λ kept.
    unentered-covers (later_past drawn h) w.keys.keys.table.rows (settled kept w.names).table (settled kept w.names).walks
    (covered-place (past_of h) (h.place + drawn) w.keys.keys.table.rows (settled kept w.names).table (settled kept w.names).walks (l.covered kept))

by-finish : (w : WorldState) (words : ℕ → ℕ) (h : Hidden) (number : ℕ) (fault : Type 0) (outcome : Line) (drawn : ℕ) (logged : Acknowledged) (w' : WorldState) (o : Option KeptReply) → ServicesFit w → LinkedWorld w h
    → numbered w.kept.replies number ≡ o → FinishReply w o fault outcome drawn logged w' → CoversWorld w' (hidden_after w words (event.Finish number) outcome drawn w' h)
by-finish w words h number fault outcome drawn logged w' None fit l at u =
    subst (λ (t : Line). CoversWorld w' (hidden_after w words (event.Finish number) t drawn w' h)) (sym u.reply_is)
    (subst (λ (v : WorldState). CoversNames (record (past_of h) { ledger = h.ledger ++ []; place = h.place + drawn; starts = h.starts ++ [] }) v.keys.keys.table.rows v.names) (sym u.same) (unentered-world w h drawn l))
by-finish w words h number fault outcome drawn logged w' (Some (ToBatch reply)) fit l at u =
    subst (λ (t : Line). CoversWorld w' (hidden_after w words (event.Finish number) t drawn w' h)) (sym u.reply_is)
    (subst (λ (v : WorldState). CoversNames (record (past_of h) { ledger = h.ledger ++ []; place = h.place + drawn; starts = h.starts ++ [] }) v.keys.keys.table.rows v.names) (sym u.same) (unentered-world w h drawn l))
by-finish w words h number fault outcome drawn logged w' (Some (ToAsk id answer)) fit l at f =
    subst (λ (t : Line). CoversWorld w' (hidden_after w words (event.Finish number) t drawn w' h)) (sym f.reply_is)
    (subst (λ (v : WorldState). CoversWorld v (hidden_after w words (event.Finish number) (finish_line f.result) drawn v h)) (sym f.left)
    (finished-covers w words h number drawn id answer fault f.result f.ops f.names fit l at f.finishes))

-- each event

pub keeps-covered : (lines : List PropLine) (w : WorldState) (words : ℕ → ℕ) (now : ℕ) (e : Event) (fault tells : Type 0) (outcome : Line) (drawn : ℕ) (logged : Acknowledged) (w' : WorldState) (h : Hidden) → KnowsWorld e tells → ServicesFit w
    → IsRows w'.names.names.table.rows → Step lines w words now e fault tells outcome drawn logged w' → LinkedWorld w h → CoversWorld w' (hidden_after w words e outcome drawn w' h)
keeps-covered lines w words now e fault tells outcome drawn logged w' h knows fit rules step l = go e knows step
  where
    place-moved : (past : Past) → past ≡ later_past drawn h → Moved w h drawn l w' → CoversNames past w'.keys.keys.table.rows w'.names
    place-moved past same c = subst (λ (x : Past). CoversNames x w'.keys.keys.table.rows w'.names) (sym same) c

    path : {X : Type 0} (user : Text) (c : X → NameCall) (o : Option X) → PathActs w user c o fault outcome drawn logged w' → Moved w h drawn l w'
    path user c o s = by-path w h drawn l user c o fault outcome logged w' fit s

    go : (x : Event) → KnowsWorld x tells → Step lines w words now x fault tells outcome drawn logged w' → CoversWorld w' (hidden_after w words x outcome drawn w' h)
    go (event.Kms user c) knows s = subst (Moved w h drawn l) (sym s.left) (keyed w h drawn l s.keys (user-state lines user w.keys words now c fault tells s.reply drawn s.commands s.keys fit.keys s.serves).keys)
    go event.Ticket knows (inl g) = subst (Moved w h drawn l) (sym g.left) (ticketed w h drawn l (ticket_of w.keys.keys))
    go event.Ticket knows (inr u) = unmoved-to w h drawn l w' u.same
    go (event.Deposit number) knows s = place-moved (past_of (hidden_after w words (event.Deposit number) outcome drawn w' h)) (deposit-past w words h number drawn w' outcome) (by-deposit w h drawn l words (numbered w.kept.tickets number) outcome logged w' s)
    go event.RestartKms knows s = subst (Moved w h drawn l) (sym s.left) (reopened-keys w h drawn l (s.found knows).kept s.table (s.found knows).table_is fit)
    go event.RestartName knows s = subst (Moved w h drawn l) (sym s.left) (reopened-names w h drawn l (s.found knows).kept s.table (s.found knows).table_is)
    go (event.Mkdir user p) knows s = path user call.Mkdir (read_path p) s
    go (event.Delete user p recursive) knows s = path user (delete_with recursive) (read_path p) s
    go (event.Rename user p q) knows s = path user rename_along (read_rename_paths p q) s
    go (event.Info user p) knows s = path user call.Info (read_any_path p) s
    go (event.List user p) knows s = path user call.List (read_any_path p) s
    go (event.Allow user p) knows s = path user call.Allow (read_path p) s
    go (event.Disallow user p) knows s = path user call.Disallow (read_path p) s
    go (event.Snap user p name) knows s = path user snap_at (read_snap_path p name) s
    go (event.Unsnap user p name) knows s = path user unsnap_at (read_snap_path p name) s
    go (event.Cancel user p) knows s = path user call.Cancel (read_path p) s
    go (event.Status user p) knows s = path user call.Status (read_path p) s
    go (event.Zones user) knows s = named-to w h drawn l w' s.names s.left (calls-cover w h user call.Zones fault s.reply s.ops s.names fit.names l s.serves)
    go (event.AskCreate user p) knows s = by-ask w h drawn l user ask.Create (read_path p) outcome w' s.1
    go (event.AskZone user p key) knows s = by-ask w h drawn l user (zone_with key) (read_path p) outcome w' s.1
    go (event.AskSubmit user p) knows s = by-ask w h drawn l user ask.Submit (read_path p) outcome w' s.1
    go (event.Draw number) knows s =
        place-moved (past_of (hidden_after w words (event.Draw number) outcome drawn w' h)) (draw-past w words h number drawn w' outcome) (by-draw w h drawn l lines words now (numbered w.kept.notes number) fault tells outcome logged w' fit s)
    go (event.Finish number) knows s = by-finish w words h number fault outcome drawn logged w' (numbered w.kept.replies number) fit l refl s
    go (event.Walk p) knows s = by-walk w h drawn l (read_path p) fault outcome logged w' fit rules s
    go (event.Serve number) knows s =
        place-moved (past_of (hidden_after w words (event.Serve number) outcome drawn w' h)) (serve-past w words h number drawn w' outcome) (by-serve w h drawn l lines words now (numbered w.kept.batches number) fault tells outcome logged w' fit s)
    go (event.Deliver number) knows s = by-delivery w h drawn l number (numbered w.kept.replies number) fault outcome logged w' fit refl s
    go (event.GiveUp number) knows s = by-giving-up w h drawn l (numbered w.kept.batches number) fault outcome logged w' fit s

-- the world is linked again
pub keeps-world : (lines : List PropLine) (w : WorldState) (words : ℕ → ℕ) (now : ℕ) (e : Event) (fault tells : Type 0) (outcome : Line) (drawn : ℕ) (logged : Acknowledged) (w' : WorldState) (h : Hidden) → KnowsWorld e tells → ServicesFit w
    → IsRows w'.names.names.table.rows → Step lines w words now e fault tells outcome drawn logged w' → LinkedWorld w h → LinkedWorld w' (hidden_after w words e outcome drawn w' h)
keeps-world lines w words now e fault tells outcome drawn logged w' h knows fit rules step l = record {
  draws = keeps-linked lines w words now e fault tells outcome drawn logged w' h knows fit step l.draws;
  covered = keeps-covered lines w words now e fault tells outcome drawn logged w' h knows fit rules step l;
}
