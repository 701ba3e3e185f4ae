-- The laws of finishes: the files that they make, ids, and that an ask is finished once.
use Rattle.std.proofs.Common.{◌≡◌, ℕ, ◌<◌, ◌≤◌, ◌⊎◌, inl, inr, Bool, true, false, cond, not, List, [], ◌∷◌, ◌++◌, Option, Some, None, Result, Ok, Err, refl, sym, ap, ◌∙◌, subst, arith}
use Rattle.std.specs.Prelude.{◌==◌}
use Rattle.std.specs.Option.{option_map}
use Rattle.std.specs.List.{AllByRecursion}
use Rattle.std.proofs.lemmas.Bool.Decides.{nat_tests}
use Rattle.std.proofs.lemmas.Bool.{ne_eqb}
use Rattle.hk_base.specs.declared.names.Edek.{Edek}
use Rattle.name_calls.specs.Paths.{parent}
use Rattle.name_calls.specs.ReadPaths.{as_it_is}
use Rattle.inode_tree.specs.Rows.{Entry, put, row_at, same_id, zone_id}
use Rattle.edit_ops.specs.declared.ops.EditOp.{EditOp}
use Rattle.edit_ops.specs.declared.ops.EditOp.TheVariants as op
use Rattle.name_store.specs.Store.{is_opening}
use Rattle.name_store.specs.Table.{after_table, new_file, settled_ops, uses}
use Rattle.name_core.specs.declared.asks.OpenAsk.{OpenAsk}
use Rattle.name_calls.specs.declared.calls.Ask.{Ask}
use Rattle.name_calls.specs.declared.calls.Ask.TheVariants as ask
use Rattle.name_calls.specs.declared.calls.KeyAnswer.{KeyAnswer}
use Rattle.name_calls.specs.declared.calls.KeyAnswer.TheVariants as answer
use Rattle.name_calls.specs.declared.calls.NameCall.{NameCall}
use Rattle.name_calls.specs.declared.calls.NameCall.TheVariants as call
use Rattle.name_calls.specs.declared.calls.NameReply.{NameReply}
use Rattle.name_calls.specs.declared.calls.NameReply.TheVariants.{Refused}
use Rattle.name_calls.specs.declared.calls.NameRefusal.{NameRefusal}
use Rattle.name_calls.specs.declared.calls.NameRefusal.TheVariants as refusal
use Rattle.name_calls.specs.declared.status.Delivered.{Delivered}
use Rattle.name_core.specs.State.{AreAsksRising, NameService, NameState, next_id, settled}
use Rattle.name_core.specs.Asks.{Finishes, ask_gone, closed, finish_causes, finish_op, finished, open_ask, ask_opened, path_asked, unless_stopped, without}
use Rattle.name_core.specs.Calls.{NameActs, Plain, NoRoom, causes, deed, done_with, early_causes, first_cause, numbered, path_causes, unless_refused}
use Rattle.name_core.specs.Reads.{info_reply, path_of_zone, shown_at}
use Rattle.name_core.specs.Service.{Changes, Concludes, FinishServes, FinishServesAt, FinishServesOpen, NameServes, ServesBy, ServesUnless, is_change}
use Rattle.name_core.specs.Steps.{Keeps}
use Rattle.name_core.specs.Updates.{UpdateDeed, deliver_deed, give_up_deed, update_op}
use Rattle.name_core.specs.Updating.{NameUpdates, UpdateGoes, UpdateServes}
use Rattle.name_core.specs.Walking.{NameWalks, WalkGoes, WalkServes, WalkServesUnless, unless_not_walked}
use Rattle.name_core.specs.Walks.{WalkDeed, session_at, walk_causes, walk_deed}
use Rattle.name_core.specs.declared.walks.Walked.{Walked}
use Rattle.name_core.specs.Laws.{AnyFault, IsStep, Called, Asked, Finished, Walks, Delivers, GivesUp, Reaches, FileIsReported, FinishedForGood, FinishedOnce, IdsStayBelow, OthersStayByFile, ZoneIsAsAsked}
use Rattle.name_store.proofs.CauseLemmas.{makeable}
use Rattle.name_core.proofs.AllowedLemmas.{behind-finish, behind-make, behind-plain, may-make-file}
use Rattle.name_core.proofs.AskLemmas.{ask-room, open-holds, open-id, without-apart}
use Rattle.name_core.proofs.KeepLemmas.{keeps-asked, keeps-closed, keeps-done, keeps-pending, keeps-settled, keeps-walking, next-done, settled-next}
use Rattle.name_core.proofs.LawLemmas.{other, row-new, row-other, info-by, zone-above, zone-same}
use Rattle.name_core.proofs.Layers.{Asking, Same, Opened, asking}
use Rattle.name_core.proofs.RowLemmas.{room-left}
use Rattle.name_core.proofs.UpdateLemmas.{Applies, DoesUpdate, Ignores, behind-update, delivery-does, giving-up-does, with_update}
use Rattle.name_core.proofs.WalkLemmas.{DoesWalk, Ends, TakesFiles, Waits, walk-completes, walk-does}

-- a finish that was done had no cause of a refusal, and left this state
pub finished-by : (s : NameState) (a : OpenAsk) (edek : Option Edek) (s' : NameState) → Finishes s a edek (Ok tt) s'
    → (first_cause (finish_causes s.table.rows s.table.statuses a edek a.ask) ≡ None) × (s' ≡ finished s a edek)
finished-by s a edek s' (NoRoom, may, is) = let f : Ok tt ≡ Err refusal.NoMemory = ap (λ o. o.reply) is in absurd cc
finished-by s a edek s' (Plain, may, is) = go (first_cause (finish_causes s.table.rows s.table.statuses a edek a.ask)) is
  where
    go : (o : Option NameRefusal) → (record { reply = Ok tt; state = s' }) ≡ unless_stopped o s a edek → (o ≡ None) × (s' ≡ finished s a edek)
    go (Some why) is = let f : Ok tt ≡ Err why = ap (λ o. o.reply) is in absurd cc
    go None is = (refl, ap (λ o. o.state) is)

-- properties of a file that was made

same-id-is : (i j : Option ℕ) → not (same_id i j) ≡ false → i ≡ j
same-id-is None None h = refl
same-id-is None (Some j) h = absurd cc
same-id-is (Some i) None h = absurd cc
same-id-is (Some i) (Some j) h = ap Some (go (i == j) refl h)
  where
    equal : (i == j) ≡ true → i ≡ j
    equal h = grind (arith, nat_tests, h)

    go : (t : Bool) → (i == j) ≡ t → not t ≡ false → i ≡ j
    go true is h = equal is
    go false is h = absurd cc

record MadeBy (s : NameState) (a : OpenAsk) (p : List (List ℕ)) (edek : Option Edek) (s' : NameState) : Type 0 where
  absent : row_at s.table.rows p ≡ None
  zone : zone_id s.table.rows p ≡ a.zone
  rows : s'.table.rows ≡ put (new_file a.id p edek) s.table.rows

made-by : (s : NameState) (a : OpenAsk) (p : List (List ℕ)) (edek : Option Edek) (s' : NameState) → a.ask ≡ ask.Create p → Finishes s a edek (Ok tt) s' → MadeBy s a p edek s'
made-by s a p edek s' asks finishes =
    let done = finished-by s a edek s' finishes in
    let free = subst (λ (k : Ask). first_cause (finish_causes s.table.rows s.table.statuses a edek k) ≡ None) asks done.0 in
    let m = may-make-file s.table.rows s.table.statuses a edek p free in
    record {
      absent = (makeable s.table.rows p m.made).absent;
      zone = ap (λ (k : Ask). zone_id s.table.rows (path_asked k)) (sym asks) ∙ same-id-is (zone_id s.table.rows (path_asked a.ask)) a.zone m.same_zone;
      rows = ap (λ (t : NameState). t.table.rows) done.1 ∙ ap (λ (k : Ask). (after_table s.table (finish_op a.id edek k)).rows) asks;
    }

pub file_is_reported : FileIsReported
file_is_reported s a p edek s' result s'' asks finishes info = go (info-by s' p result s'' info)
  where
    made : MadeBy s a p edek s'
    made = made-by s a p edek s' asks finishes

    zone_is : path_of_zone (put (new_file a.id p edek) s.table.rows) p ≡ path_of_zone s.table.rows (parent p)
    zone_is = ap (option_map (λ e. e.path)) (zone-same (new_file a.id p edek) s.table.rows p refl ∙ zone-above s.table.rows p made.absent)

    go : (result ≡ Refused refusal.NoMemory) ⊎ (result ≡ info_reply s'.table (as_it_is p)) → (result ≡ Refused refusal.NoMemory) ⊎ (result ≡ shown_at (path_of_zone s.table.rows (parent p)) (Some (new_file a.id p edek).row))
    go (inl wanting) = inl wanting
    go (inr is) = inr (is ∙ ap (λ (rows : List Entry). shown_at (path_of_zone rows p) (row_at rows p)) made.rows ∙ (λ i. shown_at (zone_is i) (row-new (new_file a.id p edek) s.table.rows made.absent i)))

pub zone_is_as_asked : ZoneIsAsAsked
zone_is_as_asked s a p edek s' asks finishes =
    let made = made-by s a p edek s' asks finishes in ap (option_map (λ e. e.row.id)) (sym (zone-above s.table.rows p made.absent)) ∙ made.zone

pub others_stay_by_file : OthersStayByFile
others_stay_by_file s a p edek s' q asks finishes apart =
    ap (λ (rows : List Entry). shown_at (path_of_zone rows q) (row_at rows q)) (made-by s a p edek s' asks finishes).rows
    ∙ (λ i. shown_at (option_map (λ e. e.path) (zone-same (new_file a.id p edek) s.table.rows q refl i)) (row-other (new_file a.id p edek) s.table.rows q (other p q apart) i))

-- asks and ids after a step

-- the asks are the same, and the next id is no lower
record Onward (s s' : NameState) : Type 0 where
  asks : s'.asks ≡ s.asks
  rises : next_id s ≤ next_id s'

onward-same : (s s' : NameState) → s' ≡ s → Onward s s'
onward-same s s' is = record { asks = ap (λ (x : NameState). x.asks) is; rises = let n = ap next_id is in omega (arith, n) }

-- a namesystem with nothing pending
abbrev Alone : NameState → NameService
Alone s = record { names = s; pending = None }

record Served (s : NameState) (s' : NameService) : Type 0 where
  onward : Onward s s'.names
  keeps : Keeps s'

served-same : (s s' : NameService) → s' ≡ s → Keeps s → Served s.names s'
served-same s s' is k = record { onward = onward-same s.names s'.names (ap (λ (x : NameService). x.names) is); keeps = subst Keeps (sym is) k }

served-at : (s : NameState) (t s' : NameService) → s' ≡ t → Served s t → Served s s'
served-at s t s' is h = subst (Served s) (sym is) h

served-none : (s : NameState) → Keeps (Alone s) → Served s (Alone s)
served-none s k = record { onward = onward-same s s refl; keeps = k }

-- an operation that uses no id

plain-done : (s : NameState) (o : EditOp) → is_opening o ≡ false → uses o ≡ [] → Keeps (Alone s) → Served s (Alone (done_with (Some o) s))
plain-done s o safe none k =
    let behind = behind-plain s o s.next refl safe none k.few k.ids k.recent in
    let next = next-done s s o behind in
    record { onward = record { asks = refl; rises = omega (arith, next) }; keeps = keeps-done s s o behind }

plain-pending : (s : NameState) (o : EditOp) → is_opening o ≡ false → uses o ≡ [] → Keeps (Alone s) → Served s (record { names = s; pending = Some o })
plain-pending s o safe none k = record { onward = onward-same s s refl; keeps = keeps-pending s s o (behind-plain s o s.next refl safe none k.few k.ids k.recent) }

-- a change that was done
deed-done : (s : NameState) (c : NameCall) → first_cause (causes s c) ≡ None → Keeps (Alone s) → Served s (Alone (done_with (deed s c).logs (deed s c).state))
deed-done s (call.Mkdir p) free k = record {
  onward = record { asks = refl; rises = omega arith };
  keeps = keeps-done s (numbered s) (op.Mkdir (next_id s) p) (behind-make s p k.ids k.recent (room-left s p free));
}
deed-done s (call.Delete p recursive) free k = plain-done s (op.Remove p) refl refl k
deed-done s (call.Rename p q) free k = plain-done s (op.Rename p q) refl refl k
deed-done s (call.Allow p) free k = plain-done s (op.Allow p) refl refl k
deed-done s (call.Disallow p) free k = plain-done s (op.Disallow p) refl refl k
deed-done s (call.Snap p name) free k = plain-done s (op.Snap p name) refl refl k
deed-done s (call.Unsnap p name) free k = plain-done s (op.Unsnap p name) refl refl k
deed-done s (call.Cancel p) free k = plain-done s (op.Cancel (session_at s.table p)) refl refl k
deed-done s (call.Status p) free k = served-none s k
deed-done s (call.Info p) free k = served-none s k
deed-done s (call.List p) free k = served-none s k
deed-done s call.Zones free k = served-none s k

-- a change whose record was not written
deed-pending : (s : NameState) (c : NameCall) → first_cause (causes s c) ≡ None → Keeps (Alone s) → Served s (record { names = (deed s c).state; pending = (deed s c).logs })
deed-pending s (call.Mkdir p) free k = record {
  onward = record { asks = refl; rises = omega arith };
  keeps = keeps-pending s (numbered s) (op.Mkdir (next_id s) p) (behind-make s p k.ids k.recent (room-left s p free));
}
deed-pending s (call.Delete p recursive) free k = plain-pending s (op.Remove p) refl refl k
deed-pending s (call.Rename p q) free k = plain-pending s (op.Rename p q) refl refl k
deed-pending s (call.Allow p) free k = plain-pending s (op.Allow p) refl refl k
deed-pending s (call.Disallow p) free k = plain-pending s (op.Disallow p) refl refl k
deed-pending s (call.Snap p name) free k = plain-pending s (op.Snap p name) refl refl k
deed-pending s (call.Unsnap p name) free k = plain-pending s (op.Unsnap p name) refl refl k
deed-pending s (call.Cancel p) free k = plain-pending s (op.Cancel (session_at s.table p)) refl refl k
deed-pending s (call.Status p) free k = served-none s k
deed-pending s (call.Info p) free k = served-none s k
deed-pending s (call.List p) free k = served-none s k
deed-pending s call.Zones free k = served-none s k

acts-on : (s : NameState) (c : NameCall) (result : NameReply) (s' : NameState) → NameActs s c result s' → Keeps (Alone s) → Served s (Alone s')
acts-on s c result s' (NoRoom, may, is) k = served-at s (Alone s) (Alone s') (ap Alone (ap (λ o. o.state) is)) (served-none s k)
acts-on s c result s' (Plain, may, is) k = go (first_cause (causes s c)) refl is
  where
    go : (o : Option NameRefusal) → first_cause (causes s c) ≡ o → (record { reply = result; state = s' }) ≡ unless_refused o s (deed s c) → Served s (Alone s')
    go (Some why) stops is = served-at s (Alone s) (Alone s') (ap Alone (ap (λ o. o.state) is)) (served-none s k)
    go None free is = served-at s (Alone (done_with (deed s c).logs (deed s c).state)) (Alone s') (ap Alone (ap (λ o. o.state) is)) (deed-done s c free k)

behind-settled : (kept : Bool) (s s' : NameService) → Keeps s → Served (settled kept s) s' → Served s.names s'
behind-settled kept s s' k h =
    let n = settled-next kept s k in
    let r = h.onward.rises in
    record { onward = record { asks = h.onward.asks; rises = omega (arith, n, r) }; keeps = h.keeps }

served : (s : NameService) (user : List ℕ) (c : NameCall) (result : NameReply) (logged : List EditOp) (s' : NameService) → NameServes s user c AnyFault result logged s' → Keeps s → Served s.names s'
served s user c result logged s' serves k = early (first_cause (early_causes user c)) serves
  where
    changes : (kept : Bool) → Changes (settled kept s) (settled_ops kept s.pending) c AnyFault result logged s' → Served (settled kept s) s'
    changes kept (inl w) = served-at (settled kept s) (Alone w.changed) s' w.left (acts-on (settled kept s) c result w.changed w.acts (keeps-settled kept s k))
    changes kept (inr u) =
        served-at (settled kept s) (record { names = (deed (settled kept s) c).state; pending = (deed (settled kept s) c).logs }) s' u.left (deed-pending (settled kept s) c u.free (keeps-settled kept s k))

    by : (change : Bool) → ServesBy change s c AnyFault result logged s' → Served s.names s'
    by false reads = served-same s s' reads.same k
    by true (inl waits) = served-same s s' waits.same k
    by true (inr (kept, did)) = behind-settled kept s s' k (changes kept did)

    early : (o : Option NameRefusal) → ServesUnless o s c AnyFault result logged s' → Served s.names s'
    early (Some why) refused = served-same s s' refused.same k
    early None serves = by (is_change c) serves

-- walks

walk-done : (s : NameState) (p : List (List ℕ)) → Keeps (Alone s) → Served s (Alone (done_with (walk_deed s p).logs (walk_deed s p).state))
walk-done s p k = go (walk_deed s p) (walk-does s p)
  where
    go : (d : WalkDeed) → DoesWalk s p d → Served s (Alone (done_with d.logs d.state))
    go d (TakesFiles walks answer is) = served-at s (Alone (record s { walks = walks })) (Alone (done_with d.logs d.state)) (ap (λ (x : WalkDeed). Alone (done_with x.logs x.state)) is)
        (record { onward = record { asks = refl; rises = omega arith }; keeps = keeps-walking (Alone s) walks k })
    go d (Waits answer is) = served-at s (Alone s) (Alone (done_with d.logs d.state)) (ap (λ (x : WalkDeed). Alone (done_with x.logs x.state)) is) (served-none s k)
    go d (Ends is) =
        let o = op.Complete (session_at s.table p) in
        served-at s (Alone (done_with (Some o) s)) (Alone (done_with d.logs d.state)) (ap (λ (x : WalkDeed). Alone (done_with x.logs x.state)) is) (plain-done s o refl refl k)

walk-pending : (s : NameState) (p : List (List ℕ)) (o : EditOp) → (walk_deed s p).logs ≡ Some o → Keeps (Alone s) → Served s (record { names = s; pending = Some o })
walk-pending s p o is k = subst (λ (x : EditOp). Served s (record { names = s; pending = Some x })) (sym (walk-completes s p o is)) (plain-pending s (op.Complete (session_at s.table p)) refl refl k)

walks-on : (s : NameState) (p : List (List ℕ)) (result : Result Walked NameRefusal) (s' : NameState) → NameWalks s p result s' → Keeps (Alone s) → Served s (Alone s')
walks-on s p result s' (NoRoom, may, is) k = served-at s (Alone s) (Alone s') (ap Alone (ap (λ o. o.state) is)) (served-none s k)
walks-on s p result s' (Plain, may, is) k = go (first_cause (walk_causes s p)) is
  where
    go : (o : Option NameRefusal) → (record { reply = result; state = s' }) ≡ unless_not_walked o s (walk_deed s p) → Served s (Alone s')
    go (Some why) is = served-at s (Alone s) (Alone s') (ap Alone (ap (λ o. o.state) is)) (served-none s k)
    go None is = served-at s (Alone (done_with (walk_deed s p).logs (walk_deed s p).state)) (Alone s') (ap Alone (ap (λ o. o.state) is)) (walk-done s p k)

walk-served : (s : NameService) (p : List (List ℕ)) (result : Result Walked NameRefusal) (logged : List EditOp) (s' : NameService) → WalkServes s p AnyFault result logged s' → Keeps s → Served s.names s'
walk-served s p result logged s' serves k = early (first_cause (path_causes p)) serves
  where
    goes : (kept : Bool) → WalkGoes (settled kept s) (settled_ops kept s.pending) p AnyFault result logged s' → Served (settled kept s) s'
    goes kept (inl w) = served-at (settled kept s) (Alone w.changed) s' w.left (walks-on (settled kept s) p result w.changed w.walks (keeps-settled kept s k))
    goes kept (inr u) =
        served-at (settled kept s) (record { names = settled kept s; pending = Some u.op }) s' u.left (walk-pending (settled kept s) p u.op u.writes (keeps-settled kept s k))

    early : (o : Option NameRefusal) → WalkServesUnless o s p AnyFault result logged s' → Served s.names s'
    early (Some why) refused = served-same s s' refused.same k
    early None (inl waits) = served-same s s' waits.ends.same k
    early None (inr (kept, did)) = behind-settled kept s s' k (goes kept did)

-- deliveries, and batches given up

update-done : (s : NameState) (d : UpdateDeed) → DoesUpdate s d → Keeps (Alone s) → Served s (Alone (done_with d.logs d.state))
update-done s d (Ignores note is) k = served-at s (Alone s) (Alone (done_with d.logs d.state)) (ap (λ (x : UpdateDeed). Alone (done_with x.logs x.state)) is) (served-none s k)
update-done s d (Applies note changes has is) k =
    let o = update_op s note changes in
    let left = with_update s note.sent in
    let behind = behind-update s note changes k.few k.ids k.recent in
    let next = next-done s left o behind in
    served-at s (Alone (done_with (Some o) left)) (Alone (done_with d.logs d.state)) (ap (λ (x : UpdateDeed). Alone (done_with x.logs x.state)) is)
    (record { onward = record { asks = refl; rises = omega (arith, next) }; keeps = keeps-done s left o behind })

update-pending : (s : NameState) (d : UpdateDeed) (o : EditOp) → DoesUpdate s d → d.logs ≡ Some o → Keeps (Alone s) → Served s (record { names = d.state; pending = Some o })
update-pending s d o (Ignores note is) logs k = let f : None ≡ Some o = sym (ap (λ (x : UpdateDeed). x.logs) is) ∙ logs in absurd cc
update-pending s d o (Applies note changes has is) logs k =
    let left = with_update s note.sent in
    served-at s (record { names = left; pending = Some (update_op s note changes) }) (record { names = d.state; pending = Some o })
    (λ i. record { names = (ap (λ (x : UpdateDeed). x.state) is) i; pending = (sym logs ∙ ap (λ (x : UpdateDeed). x.logs) is) i })
    (record { onward = record { asks = refl; rises = omega arith }; keeps = keeps-pending s left (update_op s note changes) (behind-update s note changes k.few k.ids k.recent) })

updates-on : (s : NameState) (d : NameState → UpdateDeed) (result : Result Delivered NameRefusal) (s' : NameState) → DoesUpdate s (d s) → NameUpdates s d result s' → Keeps (Alone s) → Served s (Alone s')
updates-on s d result s' does (NoRoom, may, is) k = served-at s (Alone s) (Alone s') (ap Alone (ap (λ o. o.state) is)) (served-none s k)
updates-on s d result s' does (Plain, may, is) k = served-at s (Alone (done_with (d s).logs (d s).state)) (Alone s') (ap Alone (ap (λ o. o.state) is)) (update-done s (d s) does k)

update-served : (s : NameService) (d : NameState → UpdateDeed) (result : Result Delivered NameRefusal) (logged : List EditOp) (s' : NameService) → ((n : NameState) → DoesUpdate n (d n))
    → UpdateServes s d AnyFault result logged s' → Keeps s → Served s.names s'
update-served s d result logged s' does (inl waits) k = served-same s s' waits.ends.same k
update-served s d result logged s' does (inr (kept, did)) k = behind-settled kept s s' k (goes did)
  where
    goes : UpdateGoes (settled kept s) (settled_ops kept s.pending) d AnyFault result logged s' → Served (settled kept s) s'
    goes (inl w) = served-at (settled kept s) (Alone w.changed) s' w.left (updates-on (settled kept s) d result w.changed (does (settled kept s)) w.updates (keeps-settled kept s k))
    goes (inr u) =
        served-at (settled kept s) (record { names = (d (settled kept s)).state; pending = Some u.op }) s' u.left
        (update-pending (settled kept s) (d (settled kept s)) u.op (does (settled kept s)) u.writes (keeps-settled kept s k))

-- after a finish its ask is not open, unless memory ran out
data Finishing (s : NameState) (id : ℕ) (result : Result (Unit {0}) NameRefusal) (s' : NameService) : Type 0 where
  Wanting : result ≡ Err refusal.NoMemory → Served s s' → Finishing s id result s'
  Gone : open_ask s.asks id ≡ None → Served s s' → Finishing s id result s'
  Closed : (a : OpenAsk) → open_ask s.asks id ≡ Some a → s'.names.asks ≡ without s.asks a.id → next_id s ≤ next_id s'.names → Keeps s' → Finishing s id result s'

module _ (s : NameService) (id : ℕ) (a : OpenAsk) (stands : open_ask s.names.asks id ≡ Some a) (k : Keeps s) where
  its : open_ask s.names.asks a.id ≡ Some a
  its = subst (λ (i : ℕ). open_ask s.names.asks i ≡ Some a) (sym (open-id s.names.asks id a stands)) stands

  away : (result : Result (Unit {0}) NameRefusal) (s' t : NameService) → s' ≡ t → t.names.asks ≡ without s.names.asks a.id → next_id s.names ≤ next_id t.names → Keeps t → Finishing s.names id result s'
  away result s' t is gone rises keeps = subst (Finishing s.names id result) (sym is) (Closed a stands gone rises keeps)

  module _ (kept : Bool) (edek : Option Edek) where
    abbrev n : NameState
    n = settled kept s

    alone : Keeps (Alone n)
    alone = keeps-settled kept s k

    abbrev o : EditOp
    o = finish_op a.id edek a.ask

    left-next : next_id s.names ≤ next_id (closed n a.id)
    left-next = let e = settled-next kept s k in omega (arith, e)

    done-keeps : Keeps (Alone (finished n a edek))
    done-keeps = keeps-done n (closed n a.id) o (behind-finish n a.id a edek alone.few alone.ids alone.recent its)

    done-next : next_id s.names ≤ next_id (finished n a edek)
    done-next = let e = next-done n (closed n a.id) o (behind-finish n a.id a edek alone.few alone.ids alone.recent its) in let l = left-next in omega (arith, e, l)

    pending-keeps : Keeps (record { names = closed n a.id; pending = Some o })
    pending-keeps = keeps-pending n (closed n a.id) o (behind-finish n a.id a edek alone.few alone.ids alone.recent its)

    wrote : (result : Result (Unit {0}) NameRefusal) (changed : NameState) (s' : NameService) → Finishes n a edek result changed → s' ≡ Alone changed → Finishing s.names id result s'
    wrote result changed s' (NoRoom, may, is) left =
        Wanting (ap (λ x. x.reply) is) (behind-settled kept s s' k (served-at n (Alone n) s' (left ∙ ap Alone (ap (λ x. x.state) is)) (served-none n alone)))
    wrote result changed s' (Plain, may, is) left = go (first_cause (finish_causes n.table.rows n.table.statuses a edek a.ask)) is
      where
        go : (why : Option NameRefusal) → (record { reply = result; state = changed }) ≡ unless_stopped why n a edek → Finishing s.names id result s'
        go (Some why) is = away result s' (Alone (closed n a.id)) (left ∙ ap Alone (ap (λ x. x.state) is)) refl left-next (keeps-closed (Alone n) a.id alone)
        go None is = away result s' (Alone (finished n a edek)) (left ∙ ap Alone (ap (λ x. x.state) is)) refl done-next done-keeps

    concludes : (result : Result (Unit {0}) NameRefusal) (logged : List EditOp) (s' : NameService) → Concludes n (settled_ops kept s.pending) a edek AnyFault result logged s' → Finishing s.names id result s'
    concludes result logged s' (inl w) = wrote result w.changed s' w.finishes w.left
    concludes result logged s' (inr u) = away result s' (record { names = closed n a.id; pending = Some o }) u.left refl left-next pending-keeps

  closed-now : Keeps (record { names = closed s.names a.id; pending = s.pending })
  closed-now = keeps-closed s a.id k

  opened-by : (given : KeyAnswer) (result : Result (Unit {0}) NameRefusal) (logged : List EditOp) (s' : NameService) → FinishServesOpen s a given AnyFault result logged s' → Finishing s.names id result s'
  opened-by (answer.Refused why) result logged s' ends = away result s' (record { names = closed s.names a.id; pending = s.pending }) ends.left_is refl (omega arith) closed-now
  opened-by (answer.Given edek) result logged s' (inl waits) = away result s' (record { names = closed s.names a.id; pending = s.pending }) waits.ends.left_is refl (omega arith) closed-now
  opened-by (answer.Given edek) result logged s' (inr (kept, did)) = concludes kept edek result logged s' did

finishing : (s : NameService) (id : ℕ) (given : KeyAnswer) (result : Result (Unit {0}) NameRefusal) (logged : List EditOp) (s' : NameService) → FinishServes s id given AnyFault result logged s' → Keeps s
    → Finishing s.names id result s'
finishing s id given result logged s' serves k = go (open_ask s.names.asks id) refl serves
  where
    go : (o : Option OpenAsk) → open_ask s.names.asks id ≡ o → FinishServesAt s o given AnyFault result logged s' → Finishing s.names id result s'
    go None is ends = Gone is (served-same s s' ends.left_is k)
    go (Some a) is serves = opened-by s id a is k given result logged s' serves

finishing-keeps : (s : NameState) (id : ℕ) (result : Result (Unit {0}) NameRefusal) (s' : NameService) → Finishing s id result s' → Keeps s'
finishing-keeps s id result s' (Wanting wants h) = h.keeps
finishing-keeps s id result s' (Gone none h) = h.keeps
finishing-keeps s id result s' (Closed a stands gone rises keeps) = keeps

asked-keeps : (s s' : NameService) (user : List ℕ) (a : Ask) → s'.pending ≡ s.pending → Asking s.names user a s'.names → Keeps s → Keeps s'
asked-keeps s s' user a same (Same is) k = subst Keeps (sym (λ i. record { names = is i; pending = same i })) k
asked-keeps s s' user a same (Opened free is) k =
    subst Keeps (sym (λ i. record { names = is i; pending = same i })) (keeps-asked s (ask_opened s.names a) refl (ask-room s.names user a free) k)

pub ids_stay_below : IdsStayBelow
ids_stay_below s s' (Called user c result logged serves) k = (served s user c result logged s' serves k).keeps
ids_stay_below s s' (Asked user a result asks same) k = asked-keeps s s' user a same (asking s.names user a result s'.names asks) k
ids_stay_below s s' (Finished id given result logged serves) k = finishing-keeps s.names id result s' (finishing s id given result logged s' serves k)
ids_stay_below s s' (Walks p result logged serves) k = (walk-served s p result logged s' serves k).keeps
ids_stay_below s s' (Delivers reply result logged serves) k = (update-served s (deliver_deed reply) result logged s' (delivery-does reply) serves k).keeps
ids_stay_below s s' (GivesUp note result logged serves) k = (update-served s (give_up_deed note) result logged s' (giving-up-does note) serves k).keeps

-- no ask with the id is open

none-open : (asks : List OpenAsk) (id : ℕ) → AllByRecursion (λ (q : OpenAsk). q.id ≡ id → ⊥) asks → open_ask asks id ≡ None
none-open [] id h = refl
none-open (a ∷ asks) id h = ap (λ (t : Bool). cond t (Some a) (open_ask asks id)) (ne_eqb a.id id h.0) ∙ none-open asks id h.1

gone-from : (asks : List OpenAsk) (id : ℕ) (a : OpenAsk) → AreAsksRising asks → open_ask asks id ≡ Some a → open_ask (without asks a.id) id ≡ None
gone-from asks id a rising stands =
    subst (λ (i : ℕ). open_ask (without asks i) id ≡ None) (sym (open-id asks id a stands)) (none-open (without asks id) id (without-apart asks id rising))

answered-gone : (s : NameService) (id : ℕ) (given : KeyAnswer) (result : Result (Unit {0}) NameRefusal) (logged : List EditOp) (s' : NameService) → open_ask s.names.asks id ≡ None
    → FinishServes s id given AnyFault result logged s' → (result ≡ Err (ask_gone s.names)) × (s' ≡ s)
answered-gone s id given result logged s' none serves =
    let ends = subst (λ (o : Option OpenAsk). FinishServesAt s o given AnyFault result logged s') none serves in (ends.reply_is, ends.left_is)

moved : (id : ℕ) (asks left : List OpenAsk) → left ≡ asks → open_ask asks id ≡ None → open_ask left id ≡ None
moved id asks left is h = subst (λ (l : List OpenAsk). open_ask l id ≡ None) (sym is) h

closes : (s : NameState) (id : ℕ) (result : Result (Unit {0}) NameRefusal) (s' : NameService) → AreAsksRising s.asks → Finishing s id result s' → (result ≡ Err refusal.NoMemory → ⊥) → open_ask s'.names.asks id ≡ None
closes s id result s' rising (Wanting wants h) room = absurd (room wants)
closes s id result s' rising (Gone none h) room = moved id s.asks s'.names.asks h.onward.asks none
closes s id result s' rising (Closed a stands gone rises keeps) room = moved id (without s.asks a.id) s'.names.asks gone (gone-from s.asks id a rising stands)

pub finished_once : FinishedOnce
finished_once s id given result logged s' given' result' logged' s'' k first room second =
    answered-gone s' id given' result' logged' s'' (closes s.names id result s' k.ids.rising (finishing s id given result logged s' first k) room) second

-- an id that is used, and not of an open ask, stays so

record IsPast (id : ℕ) (s : NameService) : Type 0 where
  gone : open_ask s.names.asks id ≡ None
  low : id < next_id s.names
  keeps : Keeps s

none-added : (asks : List OpenAsk) (q : OpenAsk) (id : ℕ) → (q.id == id) ≡ false → open_ask asks id ≡ None → open_ask (asks ++ q ∷ []) id ≡ None
none-added [] q id h none = ap (λ (t : Bool). cond t (Some q) None) h
none-added (a ∷ asks) q id h none = go (a.id == id) (none-added asks q id h) none
  where
    go : (t : Bool) → (open_ask asks id ≡ None → open_ask (asks ++ q ∷ []) id ≡ None) → cond t (Some a) (open_ask asks id) ≡ None → cond t (Some a) (open_ask (asks ++ q ∷ []) id) ≡ None
    go true rest e = absurd cc
    go false rest e = rest e

higher : (a b : ℕ) → b < a → (a == b) ≡ false
higher a b h = grind (arith, nat_tests)

none-left : (asks : List OpenAsk) (gone id : ℕ) → open_ask asks id ≡ None → open_ask (without asks gone) id ≡ None
none-left [] gone id none = refl
none-left (a ∷ asks) gone id none = go (a.id == id) refl (none-left asks gone id) none
  where
    kept : (t : Bool) → (a.id == id) ≡ false → open_ask asks id ≡ None → open_ask (without asks gone) id ≡ None → open_ask (cond t asks (a ∷ without asks gone)) id ≡ None
    kept true apart here rest = here
    kept false apart here rest = ap (λ (t : Bool). cond t (Some a) (open_ask (without asks gone) id)) apart ∙ rest

    go : (t : Bool) → (a.id == id) ≡ t → (open_ask asks id ≡ None → open_ask (without asks gone) id ≡ None) → cond t (Some a) (open_ask asks id) ≡ None
        → open_ask (cond (a.id == gone) asks (a ∷ without asks gone)) id ≡ None
    go true is rest e = absurd cc
    go false is rest e = kept (a.id == gone) is e (rest e)

past-served : (id : ℕ) (s s' : NameService) → Served s.names s' → IsPast id s → IsPast id s'
past-served id s s' h past = record {
  gone = moved id s.names.asks s'.names.asks h.onward.asks past.gone;
  low = let l = past.low in let r = h.onward.rises in omega (arith, l, r);
  keeps = h.keeps;
}

past-finished : (id : ℕ) (s : NameService) (another : ℕ) (result : Result (Unit {0}) NameRefusal) (s' : NameService) → Finishing s.names another result s' → IsPast id s → IsPast id s'
past-finished id s another result s' (Wanting wants h) past = past-served id s s' h past
past-finished id s another result s' (Gone none h) past = past-served id s s' h past
past-finished id s another result s' (Closed a stands gone rises keeps) past = record {
  gone = moved id (without s.names.asks a.id) s'.names.asks gone (none-left s.names.asks a.id id past.gone);
  low = let l = past.low in omega (arith, l, rises);
  keeps = keeps;
}

past-asked : (id : ℕ) (s s' : NameService) (user : List ℕ) (a : Ask) → s'.pending ≡ s.pending → Asking s.names user a s'.names → IsPast id s → IsPast id s'
past-asked id s s' user a same (Same is) past = past-served id s s' (served-same s s' (λ i. record { names = is i; pending = same i }) past.keeps) past
past-asked id s s' user a same (Opened free is) past =
    let n = ap next_id is in
    let l = past.low in
    record {
      gone = moved id (s.names.asks ++ ask_opened s.names a ∷ []) s'.names.asks (ap (λ (x : NameState). x.asks) is) (none-added s.names.asks (ask_opened s.names a) id (higher (next_id s.names) id past.low) past.gone);
      low = omega (arith, n, l);
      keeps = asked-keeps s s' user a same (Opened free is) past.keeps;
    }

past-step : (id : ℕ) (s s' : NameService) → IsStep s s' → IsPast id s → IsPast id s'
past-step id s s' (Called user c result logged serves) past = past-served id s s' (served s user c result logged s' serves past.keeps) past
past-step id s s' (Asked user a result asks same) past = past-asked id s s' user a same (asking s.names user a result s'.names asks) past
past-step id s s' (Finished another given result logged serves) past = past-finished id s another result s' (finishing s another given result logged s' serves past.keeps) past
past-step id s s' (Walks p result logged serves) past = past-served id s s' (walk-served s p result logged s' serves past.keeps) past
past-step id s s' (Delivers reply result logged serves) past = past-served id s s' (update-served s (deliver_deed reply) result logged s' (delivery-does reply) serves past.keeps) past
past-step id s s' (GivesUp note result logged serves) past = past-served id s s' (update-served s (give_up_deed note) result logged s' (giving-up-does note) serves past.keeps) past

past-steps : (id : ℕ) (s : NameService) (between : List NameService) (t : NameService) → Reaches s between t → IsPast id s → IsPast id t
past-steps id s [] t is past = subst (IsPast id) (sym is) past
past-steps id s (m ∷ ms) t steps past = past-steps id m ms t steps.1 (past-step id s m steps.0 past)

past-end : (s : NameState) (id : ℕ) (result : Result (Unit {0}) NameRefusal) (s' : NameService) → AreAsksRising s.asks → id < next_id s → Finishing s id result s' → (result ≡ Err refusal.NoMemory → ⊥) → IsPast id s'
past-end s id result s' rising low (Wanting wants h) room = absurd (room wants)
past-end s id result s' rising low (Gone none h) room = record { gone = moved id s.asks s'.names.asks h.onward.asks none; low = let r = h.onward.rises in omega (arith, low, r); keeps = h.keeps }
past-end s id result s' rising low (Closed a stands gone rises keeps) room =
    record { gone = closes s id result s' rising (Closed a stands gone rises keeps) room; low = omega (arith, low, rises); keeps = keeps }

pub finished_for_good : FinishedForGood
finished_for_good s id a given result logged s' between t given' result' logged' t' k stands first room steps second =
    let low : id < next_id s.names =
    subst (λ (i : ℕ). i < next_id s.names) (open-id s.names.asks id a stands) (open-holds (λ (q : OpenAsk). q.id < next_id s.names) s.names.asks id a k.ids.of_asks stands) in
    let past = past-end s.names id result s' k.ids.rising low (finishing s id given result logged s' first k) room in
    answered-gone t id given' result' logged' t' (past-steps id s' between t steps past).gone second
