-- What stays true of open asks and of the table from step to step.
use Rattle.std.proofs.Common.{◌≡◌, ℕ, ◌+◌, ◌*◌, ◌^◌, ◌≤◌, ◌==◌, inl, inr, Bool, true, false, if◌then◌else◌, List, [], ◌∷◌, Option, Some, None, Result, refl, sym, ap, subst, arith}
use Rattle.std.specs.Bool.{⊤}
use Rattle.std.specs.List.{AllByRecursion}
use Rattle.hk_base.specs.declared.names.Edek.{Edek}
use Rattle.edit_ops.specs.declared.files.FileKey.{FileKey}
use Rattle.edit_ops.specs.declared.ops.EditOp.{EditOp}
use Rattle.edit_ops.specs.declared.ops.EditOp.TheVariants as op
use Rattle.inode_tree.specs.Rows.{Entry}
use Rattle.reenc_update.specs.declared.changes.Changes.{Changes}
use Rattle.reenc_update.specs.Changes.{all_failed, changes_of}
use Rattle.reenc_update.specs.Replies.{ReplyState}
use Rattle.reenc_walk.specs.declared.sent.BatchNote.{BatchNote}
use Rattle.reenc_walk.specs.Files.{walk_list}
use Rattle.reenc_walk.specs.Walks.{outstanding}
use Rattle.zone_table.specs.declared.statuses.StatusRow.{StatusRow}
use Rattle.name_store.specs.Causes.{id_at}
use Rattle.name_store.specs.Store.{is_opening}
use Rattle.name_store.specs.Table.{NameTable, after_table}
use Rattle.name_core.specs.declared.asks.OpenAsk.{OpenAsk}
use Rattle.name_calls.specs.declared.calls.Ask.{Ask}
use Rattle.name_calls.specs.declared.calls.KeyAnswer.{KeyAnswer}
use Rattle.name_calls.specs.declared.calls.KeyAnswer.TheVariants as answer
use Rattle.name_calls.specs.declared.calls.NameCall.{NameCall}
use Rattle.name_calls.specs.declared.calls.NameCall.TheVariants as call
use Rattle.name_calls.specs.declared.calls.NameRefusal.{NameRefusal}
use Rattle.name_calls.specs.declared.calls.NameReply.{NameReply}
use Rattle.name_calls.specs.declared.paths.NPath.{NPath}
use Rattle.name_calls.specs.declared.status.Delivered.{Delivered}
use Rattle.name_core.specs.State.{NameService, NameState, next_id, settled, started}
use Rattle.name_core.specs.Asks.{Finishes, closed, finish_causes, finish_op, open_ask, ask_opened, unless_stopped}
use Rattle.name_core.specs.Calls.{NameActs, NoRoom, Plain, causes, deed, done_with, early_causes, first_cause, numbered, path_causes, unless_refused}
use Rattle.name_core.specs.Service.{FinishServes, FinishServesAt, FinishServesOpen, NameServes, ServesBy, ServesUnless, is_change}
use Rattle.name_core.specs.Steps.{Keeps}
use Rattle.name_core.specs.Laws.{AnyFault, IsStep, Called, Asked, Delivers, Finished, GivesUp, Walks, Reaches}
use Rattle.name_core.specs.Updates.{UpdateDeed, applied, deliver_deed, give_up_deed, ignored, is_outstanding, mark_by, update_deed, update_op}
use Rattle.name_core.specs.Updating.{NameUpdates, UpdateServes}
use Rattle.name_core.specs.Walking.{NameWalks, WalkServes, WalkServesUnless, unless_not_walked}
use Rattle.name_core.specs.Walks.{WalkDeed, deed_by_files, deed_by_status, none_left, session_at, status_at, walk_causes, walk_deed, walk_of}
use Rattle.name_core.specs.declared.walks.Walked.{Walked}
use Rattle.name_core.specs.declared.walks.Walked.TheVariants.{Completed, NoneLeft}
use Rattle.name_core.proofs.AllowedLemmas.{no-opening-finish}
use Rattle.name_core.proofs.AskLaws.{ids_stay_below}
use Rattle.name_core.proofs.AskLemmas.{each-append, each-without, open-holds, open-id}
use Rattle.name_core.proofs.KeepLemmas.{keeps-settled, same-opening, settled-next, with_ask}
use Rattle.name_core.proofs.Layers.{Asking, Same, Opened, asking}
use Rattle.name_core.proofs.SentFiles.{AreFiles, delivered-files}

abbrev pub Alone : NameState → NameService
Alone s = record { names = s; pending = None }

-- A property of tables, and one of open asks that each ask has whose id is n or above. Changes keep the first: those of calls that `Spares`
-- allows, those of finishes of open asks, which have the second, those of walks, and updates of files that have encrypted keys.
pub record Invariant (Holds : NameTable → Type 0) (P : OpenAsk → Type 0) (Spares : NameState → NameCall → Type 0) (n : ℕ) : Type 0 where
  pub called : (s : NameState) (c : NameCall) (o : EditOp) → Keeps (Alone s) → n ≤ next_id s → Spares s c → first_cause (causes s c) ≡ None → (deed s c).logs ≡ Some o → Holds s.table → Holds (after_table s.table o)
  pub finished : (s : NameState) (q : OpenAsk) (edek : Option Edek) → Keeps (Alone s) → open_ask s.asks q.id ≡ Some q → P q → first_cause (finish_causes s.table.rows s.table.statuses q edek q.ask) ≡ None → Holds s.table
      → Holds (after_table s.table (finish_op q.id edek q.ask))
  pub completed : (t : NameTable) (session : ℕ) → Holds t → Holds (after_table t (op.Complete session))
  pub updated : (t : NameTable) (session failed : ℕ) (mark : Option NPath) (files : List FileKey) → AreFiles t.rows files → Holds t → Holds (after_table t (op.Update session failed mark files))
  pub later_asks : (q : OpenAsk) → n ≤ q.id → P q

-- what stays true from step to step, whether the pending operation will be kept or dropped
pub record Stays (Holds : NameTable → Type 0) (P : OpenAsk → Type 0) (n : ℕ) (s : NameService) : Type 0 where
  pub later : n ≤ next_id s.names
  pub asks : AllByRecursion P s.names.asks
  pub table : (kept : Bool) → Holds (settled kept s).table

-- a step whose call, if it is one, may be made on the state that is settled
abbrev pub SparesStep : (NameState → NameCall → Type 0) → (s s' : NameService) → IsStep s s' → Type 0
SparesStep Spares s s' (Called user c result logged did) = (kept : Bool) → Spares (settled kept s) c
SparesStep Spares s s' (Asked user a result asks same) = ⊤
SparesStep Spares s s' (Finished id given result logged did) = ⊤
SparesStep Spares s s' (Walks p result logged did) = ⊤
SparesStep Spares s s' (Delivers reply result logged did) = ⊤
SparesStep Spares s s' (GivesUp note result logged did) = ⊤

module _ (Holds : NameTable → Type 0) (P : OpenAsk → Type 0) (Spares : NameState → NameCall → Type 0) (n : ℕ) (inv : Invariant Holds P Spares n) where
  abbrev Still : NameService → Type 0
  Still s = Stays Holds P n s

  at : (s t : NameService) → s ≡ t → Still t → Still s
  at s t is h = subst Still (sym is) h

  -- the pending operation was settled
  settles : (kept : Bool) (s : NameService) → Keeps s → Still s → Still (Alone (settled kept s))
  settles kept s k h = record { later = let e = settled-next kept s k in let l = h.later in omega (arith, e, l); asks = h.asks; table = λ again. h.table kept }

  -- an operation takes effect, or is pending
  takes : (s : NameState) (o : EditOp) → Holds (after_table s.table o) → is_opening o ≡ false → Still (Alone s) → Still (Alone (done_with (Some o) s)) × Still (record { names = s; pending = Some o })
  takes s o made safe h = (
    record {
      later = let e = ap (λ (m : ℕ). m * 2 ^ 32 + s.next) (same-opening s.table o safe) in let l = h.later in omega (arith, e, l);
      asks = h.asks;
      table = λ kept. made;
    },
    record { later = h.later; asks = h.asks; table = pending },
  )
    where
      pending : (kept : Bool) → Holds (settled kept (record { names = s; pending = Some o })).table
      pending true = made
      pending false = h.table false

  -- calls

  does : (s : NameState) (c : NameCall) → Keeps (Alone s) → Spares s c → first_cause (causes s c) ≡ None → Still (Alone s)
      → Still (Alone (done_with (deed s c).logs (deed s c).state)) × Still (record { names = (deed s c).state; pending = (deed s c).logs })
  does s (call.Mkdir p) k spares free h =
      takes (numbered s) (op.Mkdir (next_id s) p) (inv.called s (call.Mkdir p) (op.Mkdir (next_id s) p) k h.later spares free refl (h.table true)) refl
      (record { later = let l = h.later in omega (arith, l); asks = h.asks; table = h.table })
  does s (call.Delete p recursive) k spares free h = takes s (op.Remove p) (inv.called s (call.Delete p recursive) (op.Remove p) k h.later spares free refl (h.table true)) refl h
  does s (call.Rename p q) k spares free h = takes s (op.Rename p q) (inv.called s (call.Rename p q) (op.Rename p q) k h.later spares free refl (h.table true)) refl h
  does s (call.Info r) k spares free h = (h, h)
  does s (call.List r) k spares free h = (h, h)
  does s (call.Allow p) k spares free h = takes s (op.Allow p) (inv.called s (call.Allow p) (op.Allow p) k h.later spares free refl (h.table true)) refl h
  does s (call.Disallow p) k spares free h = takes s (op.Disallow p) (inv.called s (call.Disallow p) (op.Disallow p) k h.later spares free refl (h.table true)) refl h
  does s (call.Snap p name) k spares free h = takes s (op.Snap p name) (inv.called s (call.Snap p name) (op.Snap p name) k h.later spares free refl (h.table true)) refl h
  does s (call.Unsnap p name) k spares free h = takes s (op.Unsnap p name) (inv.called s (call.Unsnap p name) (op.Unsnap p name) k h.later spares free refl (h.table true)) refl h
  does s (call.Cancel p) k spares free h =
      takes s (op.Cancel (session_at s.table p)) (inv.called s (call.Cancel p) (op.Cancel (session_at s.table p)) k h.later spares free refl (h.table true)) refl h
  does s (call.Status p) k spares free h = (h, h)
  does s call.Zones k spares free h = (h, h)

  acts : (s : NameState) (c : NameCall) (result : NameReply) (s' : NameState) → Keeps (Alone s) → Spares s c → NameActs s c result s' → Still (Alone s) → Still (Alone s')
  acts s c result s' k spares (NoRoom, may, is) h = at (Alone s') (Alone s) (ap Alone (ap (λ o. o.state) is)) h
  acts s c result s' k spares (Plain, may, is) h = go (first_cause (causes s c)) refl is
    where
      go : (o : Option NameRefusal) → first_cause (causes s c) ≡ o → (record { reply = result; state = s' }) ≡ unless_refused o s (deed s c) → Still (Alone s')
      go (Some why) stops is = at (Alone s') (Alone s) (ap Alone (ap (λ o. o.state) is)) h
      go None free is = at (Alone s') (Alone (done_with (deed s c).logs (deed s c).state)) (ap Alone (ap (λ o. o.state) is)) (does s c k spares free h).0

  serves : (s : NameService) (user : List ℕ) (c : NameCall) (result : NameReply) (logged : List EditOp) (s' : NameService) → ((kept : Bool) → Spares (settled kept s) c) → NameServes s user c AnyFault result logged s' → Keeps s → Still s → Still s'
  serves s user c result logged s' spares did k h = early (first_cause (early_causes user c)) did
    where
      by : (change : Bool) → ServesBy change s c AnyFault result logged s' → Still s'
      by false reads = at s' s reads.same h
      by true (inl waits) = at s' s waits.same h
      by true (inr (kept, inl w)) = at s' (Alone w.changed) w.left (acts (settled kept s) c result w.changed (keeps-settled kept s k) (spares kept) w.acts (settles kept s k h))
      by true (inr (kept, inr u)) =
          at s' (record { names = (deed (settled kept s) c).state; pending = (deed (settled kept s) c).logs }) u.left (does (settled kept s) c (keeps-settled kept s k) (spares kept) u.free (settles kept s k h)).1

      early : (o : Option NameRefusal) → ServesUnless o s c AnyFault result logged s' → Still s'
      early (Some why) refused = at s' s refused.same h
      early None did = by (is_change c) did

  -- finishes

  closes : (s : NameService) (id : ℕ) → Still s → Still (record { names = closed s.names id; pending = s.pending })
  closes s id h = record { later = h.later; asks = each-without P s.names.asks id h.asks; table = h.table }

  finishes : (s : NameState) (q : OpenAsk) (edek : Option Edek) → Keeps (Alone s) → open_ask s.asks q.id ≡ Some q → P q → first_cause (finish_causes s.table.rows s.table.statuses q edek q.ask) ≡ None → Still (Alone s)
      → Still (Alone (done_with (Some (finish_op q.id edek q.ask)) (closed s q.id))) × Still (record { names = closed s q.id; pending = Some (finish_op q.id edek q.ask) })
  finishes s q edek k opened only free h = takes (closed s q.id) (finish_op q.id edek q.ask) (inv.finished s q edek k opened only free (h.table true)) (no-opening-finish q.id edek q.ask) (closes (Alone s) q.id h)

  writes : (s : NameState) (q : OpenAsk) (edek : Option Edek) (result : Result (Unit {0}) NameRefusal) (s' : NameState) → Keeps (Alone s) → open_ask s.asks q.id ≡ Some q → P q → Finishes s q edek result s' → Still (Alone s) → Still (Alone s')
  writes s q edek result s' k opened only (NoRoom, may, is) h = at (Alone s') (Alone s) (ap Alone (ap (λ o. o.state) is)) h
  writes s q edek result s' k opened only (Plain, may, is) h = go (first_cause (finish_causes s.table.rows s.table.statuses q edek q.ask)) refl is
    where
      go : (o : Option NameRefusal) → first_cause (finish_causes s.table.rows s.table.statuses q edek q.ask) ≡ o → (record { reply = result; state = s' }) ≡ unless_stopped o s q edek → Still (Alone s')
      go (Some why) stops is = at (Alone s') (Alone (closed s q.id)) (ap Alone (ap (λ o. o.state) is)) (closes (Alone s) q.id h)
      go None free is = at (Alone s') (Alone (done_with (Some (finish_op q.id edek q.ask)) (closed s q.id))) (ap Alone (ap (λ o. o.state) is)) (finishes s q edek k opened only free h).0

  ends : (s : NameService) (id : ℕ) (given : KeyAnswer) (result : Result (Unit {0}) NameRefusal) (logged : List EditOp) (s' : NameService) → FinishServes s id given AnyFault result logged s' → Keeps s → Still s → Still s'
  ends s id given result logged s' did k h = found (open_ask s.names.asks id) refl did
    where
      of : (q : OpenAsk) → open_ask s.names.asks q.id ≡ Some q → P q → (given : KeyAnswer) → FinishServesOpen s q given AnyFault result logged s' → Still s'
      of q opened only (answer.Refused why) e = at s' (record { names = closed s.names q.id; pending = s.pending }) e.left_is (closes s q.id h)
      of q opened only (answer.Given edek) (inl waits) = at s' (record { names = closed s.names q.id; pending = s.pending }) waits.ends.left_is (closes s q.id h)
      of q opened only (answer.Given edek) (inr (kept, inl w)) = at s' (Alone w.changed) w.left (writes (settled kept s) q edek result w.changed (keeps-settled kept s k) opened only w.finishes (settles kept s k h))
      of q opened only (answer.Given edek) (inr (kept, inr u)) =
          at s' (record { names = closed (settled kept s) q.id; pending = Some (finish_op q.id edek q.ask) }) u.left (finishes (settled kept s) q edek (keeps-settled kept s k) opened only u.free (settles kept s k h)).1

      found : (o : Option OpenAsk) → open_ask s.names.asks id ≡ o → FinishServesAt s o given AnyFault result logged s' → Still s'
      found None is e = at s' s e.left_is h
      found (Some q) is e = of q (subst (λ (n : ℕ). open_ask s.names.asks n ≡ Some q) (sym (open-id s.names.asks id q is)) is) (open-holds P s.names.asks id q h.asks is) given e

  -- asks

  asks : (s s' : NameService) (user : List ℕ) (k : Ask) → s'.pending ≡ s.pending → Asking s.names user k s'.names → Still s → Still s'
  asks s s' user k same (Same is) h = at s' s (λ i. record { names = is i; pending = same i }) h
  asks s s' user k same (Opened free is) h =
      at s' (record { names = with_ask s.names (ask_opened s.names k); pending = s.pending }) (λ i. record { names = is i; pending = same i }) (record {
        later = let l = h.later in omega (arith, l);
        asks = each-append P s.names.asks (ask_opened s.names k) h.asks (inv.later_asks (ask_opened s.names k) h.later);
        table = h.table;
      })

  -- walks

  -- the state that a walk leaves, and the one in which its operation is pending
  abbrev StillAfter : NameState → WalkDeed → Type 0
  StillAfter s d = Still (Alone (done_with d.logs d.state)) × ((o : EditOp) → d.logs ≡ Some o → Still (record { names = s; pending = Some o }))

  completes : (s : NameState) (session : ℕ) → Still (Alone s) → StillAfter s (record { answer = Completed; logs = Some (op.Complete session); state = s })
  completes s session h =
      let t = takes s (op.Complete session) (inv.completed s.table session (h.table true)) refl h in
      (t.0, λ o is. let same : op.Complete session ≡ o = cc in subst (λ (x : EditOp). Still (record { names = s; pending = Some x })) same t.1)

  no-file : (s : NameState) (session count : ℕ) → Still (Alone s) → StillAfter s (none_left s session count)
  no-file s session count h = go (count == 0)
    where
      go : (none : Bool) → StillAfter s (if none then record { answer = Completed; logs = Some (op.Complete session); state = s } else record { answer = NoneLeft count; logs = None; state = s })
      go true = completes s session h
      go false = (h, λ o is. absurd cc)

  files-walked : (s : NameState) (zone : ℕ) (st : StatusRow) (files : List Entry) → Still (Alone s) → StillAfter s (deed_by_files s zone st files)
  files-walked s zone st [] h = no-file s st.session (outstanding (walk_of s.walks st).batches) h
  files-walked s zone st (e ∷ es) h = (record { later = h.later; asks = h.asks; table = h.table }, λ o is. absurd cc)

  zone-walked : (s : NameState) (zone : ℕ) (status : Option StatusRow) → Still (Alone s) → StillAfter s (deed_by_status s zone status)
  zone-walked s zone None h = (h, λ o is. absurd cc)
  zone-walked s zone (Some st) h = files-walked s zone st (walk_list s.table.rows zone (walk_of s.walks st).cursor) h

  walked-well : (s : NameState) (p : NPath) → Still (Alone s) → StillAfter s (walk_deed s p)
  walked-well s p h = zone-walked s (id_at s.table.rows p) (status_at s.table p) h

  moves-on : (s : NameState) (p : NPath) (result : Result Walked NameRefusal) (s' : NameState) → NameWalks s p result s' → Still (Alone s) → Still (Alone s')
  moves-on s p result s' (NoRoom, may, is) h = at (Alone s') (Alone s) (ap Alone (ap (λ o. o.state) is)) h
  moves-on s p result s' (Plain, may, is) h = go (first_cause (walk_causes s p)) is
    where
      go : (o : Option NameRefusal) → (record { reply = result; state = s' }) ≡ unless_not_walked o s (walk_deed s p) → Still (Alone s')
      go (Some why) is = at (Alone s') (Alone s) (ap Alone (ap (λ o. o.state) is)) h
      go None is = at (Alone s') (Alone (done_with (walk_deed s p).logs (walk_deed s p).state)) (ap Alone (ap (λ o. o.state) is)) (walked-well s p h).0

  walks : (s : NameService) (p : NPath) (result : Result Walked NameRefusal) (logged : List EditOp) (s' : NameService) → WalkServes s p AnyFault result logged s' → Keeps s → Still s → Still s'
  walks s p result logged s' did k h = early (first_cause (path_causes p)) did
    where
      early : (o : Option NameRefusal) → WalkServesUnless o s p AnyFault result logged s' → Still s'
      early (Some why) refused = at s' s refused.same h
      early None (inl waits) = at s' s waits.ends.same h
      early None (inr (kept, inl w)) = at s' (Alone w.changed) w.left (moves-on (settled kept s) p result w.changed w.walks (settles kept s k h))
      early None (inr (kept, inr u)) = at s' (record { names = settled kept s; pending = Some u.op }) u.left ((walked-well (settled kept s) p (settles kept s k h)).1 u.op u.writes)

  -- deliveries, and batches given up

  -- the state that an update leaves, and the one in which its operation is pending
  abbrev StillUpdated : UpdateDeed → Type 0
  StillUpdated d = Still (Alone (done_with d.logs d.state)) × ((o : EditOp) → d.logs ≡ Some o → Still (record { names = d.state; pending = Some o }))

  updates-well : (s : NameState) (note : BatchNote) (changes : Changes) → AreFiles s.table.rows changes.files → Still (Alone s) → StillUpdated (update_deed s note changes)
  updates-well s note changes files h = go (is_outstanding s note)
    where
      left : NameState
      left = record s { updating = Some note.sent }

      go : (found : Bool) → StillUpdated (if found then applied s note changes else ignored s note)
      go true =
          let o = update_op s note changes in
          let t = takes left o (inv.updated s.table note.session changes.failed (mark_by s note) changes.files files (h.table true)) refl (record { later = h.later; asks = h.asks; table = h.table }) in
          (t.0, λ p is. let same : o ≡ p = cc in subst (λ (x : EditOp). Still (record { names = left; pending = Some x })) same t.1)
      go false = (h, λ o is. absurd cc)

  goes-on : (s : NameState) (d : NameState → UpdateDeed) (result : Result Delivered NameRefusal) (s' : NameState) → StillUpdated (d s) → NameUpdates s d result s' → Still (Alone s) → Still (Alone s')
  goes-on s d result s' well (NoRoom, may, is) h = at (Alone s') (Alone s) (ap Alone (ap (λ o. o.state) is)) h
  goes-on s d result s' well (Plain, may, is) h = at (Alone s') (Alone (done_with (d s).logs (d s).state)) (ap Alone (ap (λ o. o.state) is)) well.0

  updates : (s : NameService) (d : NameState → UpdateDeed) (result : Result Delivered NameRefusal) (logged : List EditOp) (s' : NameService) → ((s : NameState) → Still (Alone s) → StillUpdated (d s))
      → UpdateServes s d AnyFault result logged s' → Keeps s → Still s → Still s'
  updates s d result logged s' well (inl waits) k h = at s' s waits.ends.same h
  updates s d result logged s' well (inr (kept, inl w)) k h =
      let now = settles kept s k h in at s' (Alone w.changed) w.left (goes-on (settled kept s) d result w.changed (well (settled kept s) now) w.updates now)
  updates s d result logged s' well (inr (kept, inr u)) k h =
      at s' (record { names = (d (settled kept s)).state; pending = Some u.op }) u.left ((well (settled kept s) (settles kept s k h)).1 u.op u.writes)

  delivers-well : (reply : ReplyState) (s : NameState) → Still (Alone s) → StillUpdated (deliver_deed reply s)
  delivers-well reply s h =
      updates-well s reply.note (changes_of s.table.rows reply.note.zone reply.note.sent reply.result) (delivered-files s.table.rows reply.note.zone reply.note.sent reply.result) h

  gives-up-well : (note : BatchNote) (s : NameState) → Still (Alone s) → StillUpdated (give_up_deed note s)
  gives-up-well note s h = updates-well s note (all_failed note.sent) tt h

  pub step : (s s' : NameService) (did : IsStep s s') → SparesStep Spares s s' did → Keeps s → Still s → Still s'
  step s s' (Called user c result logged did) spares k h = serves s user c result logged s' spares did k h
  step s s' (Asked user q result did same) spares k h = asks s s' user q same (asking s.names user q result s'.names did) h
  step s s' (Finished id given result logged did) spares k h = ends s id given result logged s' did k h
  step s s' (Walks p result logged did) spares k h = walks s p result logged s' did k h
  step s s' (Delivers reply result logged did) spares k h = updates s (deliver_deed reply) result logged s' (delivers-well reply) did k h
  step s s' (GivesUp note result logged did) spares k h = updates s (give_up_deed note) result logged s' (gives-up-well note) did k h

  -- if all steps may be made
  pub steps : ((s s' : NameService) (did : IsStep s s') → SparesStep Spares s s' did) → (s : NameService) (between : List NameService) (t : NameService) → Reaches s between t → Keeps s → Still s → Still t
  steps spares s [] t is k h = at t s is h
  steps spares s (m ∷ ms) t reaches k h = steps spares m ms t reaches.1 (ids_stay_below s m reaches.0 k) (step s m reaches.0 (spares s m reaches.0) k h)

-- any ask, and any call

abbrev pub AnyAsk : OpenAsk → Type 0
AnyAsk q = ⊤

abbrev pub AnyCall : NameState → NameCall → Type 0
AnyCall s c = ⊤

pub any-asks : (asks : List OpenAsk) → AllByRecursion AnyAsk asks
any-asks [] = tt
any-asks (a ∷ asks) = (tt, any-asks asks)

pub any-step : (s s' : NameService) (did : IsStep s s') → SparesStep AnyCall s s' did
any-step s s' (Called user c result logged did) = λ kept. tt
any-step s s' (Asked user a result asks same) = tt
any-step s s' (Finished id given result logged did) = tt
any-step s s' (Walks p result logged did) = tt
any-step s s' (Delivers reply result logged did) = tt
any-step s s' (GivesUp note result logged did) = tt

-- a property of open asks, and of each ask with an id that is not used yet, stays true of open asks; used ids stay used
pub asks-keep : (P : OpenAsk → Type 0) (n : ℕ) → ((q : OpenAsk) → n ≤ q.id → P q) → (s s' : NameService) → IsStep s s' → Keeps s → n ≤ next_id s.names → AllByRecursion P s.names.asks
    → (n ≤ next_id s'.names) × AllByRecursion P s'.names.asks
asks-keep P n later s s' did k used asks = (still.later, still.asks)
  where
    still : Stays (λ t. ⊤) P n s'
    still =
        step (λ t. ⊤) P AnyCall n (record { called = λ s c o k new spares free logs h. tt; finished = λ s q edek k opened only free h. tt; completed = λ t session h. tt; updated = λ t session failed mark files are h. tt; later_asks = later }) s s' did (any-step s s' did) k
        (record { later = used; asks = asks; table = λ kept. tt })

-- ids are in order in a namesystem that is opened again
pub keeps-reopened : (kept : Bool) (s : NameService) → Keeps s → Keeps (started s.names.batch (settled kept s).table)
keeps-reopened kept s k = record {
  few = omega arith;
  ids = record { of_rows = λ i d b. let h = now.ids.of_rows i d b in let few = now.few in omega (arith, h, few); of_asks = tt; free = tt; rising = tt };
  recent = tt;
  waits = tt;
}
  where
    now : Keeps (Alone (settled kept s))
    now = keeps-settled kept s k
