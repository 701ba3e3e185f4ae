-- The laws of snapshots: what one has is what its directory had, it stays while it exists, and it is gone once it was removed.
use Rattle.std.proofs.Common.{◌≡◌, ℕ, ◌<◌, ◌⊎◌, inl, inr, Bool, true, false, cond, not, List, [], ◌∷◌, ◌++◌, Option, Some, None, Result, Ok, IfSome, is_none, is_some, refl, sym, ap, ◌∙◌, subst, arith}
use Rattle.std.specs.Prelude.{◌==◌}
use Rattle.std.specs.List.{filter, find}
use Rattle.std.specs.Option.{option_map_or}
use Rattle.std.specs.Str.{bytes_eq}
use Rattle.std.proofs.lemmas.Bool.Decides.{nat_tests}
use Rattle.std.proofs.lemmas.Slice.Eq.{bytes_eq-Decides}
use Rattle.hk_base.specs.declared.names.Edek.{Edek}
use Rattle.name_calls.specs.ReadPaths.{as_it_is, as_it_was}
use Rattle.inode_tree.specs.Below.{rows_below}
use Rattle.inode_tree.specs.Listing.{children}
use Rattle.inode_tree.specs.Rows.{Entry, IsRows, is_dir_at, row_at, zone_of}
use Rattle.snap_store.specs.Snapshots.{Snapshot, frozen, is_named, key_of, put_snapshot, snapshot_cmp, snapshot_named}
use Rattle.snap_store.proofs.Kept.{others-remove, others-take}
use Rattle.edit_ops.specs.declared.ops.EditOp.{EditOp}
use Rattle.edit_ops.specs.declared.ops.EditOp.TheVariants as op
use Rattle.std.specs.Ordering.{is_lt}
use Rattle.std.proofs.lemmas.Bool.{eqb-true, and_parts, and_from}
use Rattle.name_calls.specs.declared.calls.AskNote.{AskNote}
use Rattle.name_calls.specs.declared.calls.Ask.{Ask}
use Rattle.name_calls.specs.declared.calls.Ask.TheVariants as ask
use Rattle.name_calls.specs.declared.calls.KeyAnswer.{KeyAnswer}
use Rattle.name_calls.specs.declared.calls.KeyAnswer.TheVariants as answer
use Rattle.name_calls.specs.declared.calls.NameCall.{NameCall}
use Rattle.name_calls.specs.declared.calls.NameCall.TheVariants as call
use Rattle.name_calls.specs.declared.calls.NameReply.{NameReply}
use Rattle.name_calls.specs.declared.calls.NameReply.TheVariants as reply
use Rattle.name_calls.specs.declared.calls.NameRefusal.{NameRefusal}
use Rattle.name_calls.specs.declared.calls.NameRefusal.TheVariants as refusal
use Rattle.name_calls.specs.declared.status.Delivered.{Delivered}
use Rattle.name_store.specs.Causes.{allowed_causes, directory_causes, first_cause, has_most_snapshots, id_at, snap_causes, unsnap_causes}
use Rattle.name_store.specs.Table.{NameTable, after_table, allows, settled_ops, settled_table}
use Rattle.name_store.proofs.CauseLemmas.{allowed, none-of-both, none-of-join, snappable}
use Rattle.name_store.proofs.RowLemmas.{directory-entry}
use Rattle.name_core.specs.declared.asks.OpenAsk.{OpenAsk}
use Rattle.name_core.specs.State.{IdsFit, IsNames, IsWaiting, NameService, NameState, next_id, settled, took}
use Rattle.name_core.specs.Asks.{Asks, Finishes, finish_causes, finish_op, open_ask, unless_stopped}
use Rattle.name_core.specs.Calls.{Deed, NameActs, NoRoom, Plain, causes, deed, done_with, early_causes, only_logs, path_causes, unless_refused}
use Rattle.name_core.specs.Reads.{answer_unless, entry_causes, info_causes, info_reply, list_answer, list_reply, shown_at, snapshot_rows, zone_in_or_above, zone_read}
use Rattle.name_core.specs.Service.{Changes, Concludes, FinishServes, FinishServesAt, FinishServesOpen, NameServes, ServesBy, ServesUnless, is_change}
use Rattle.name_core.specs.Updates.{UpdateDeed, deliver_deed, give_up_deed}
use Rattle.name_core.specs.Updating.{NameUpdates, UpdateGoes, UpdateServes}
use Rattle.name_core.specs.Walking.{NameWalks, WalkGoes, WalkServes, WalkServesUnless, unless_not_walked}
use Rattle.name_core.specs.Walks.{WalkDeed, walk_causes, walk_deed}
use Rattle.name_core.specs.declared.walks.Walked.{Walked}
use Rattle.name_core.specs.Laws.{AnyFault, Asked, Called, Finished, Walks, Delivers, GivesUp, IsNotCalled, IsNotPending, SettlingKeepsSnapshots, SnapshotIsListed, SnapshotIsReported, SnapshotsStay, StepsKeepSnapshots, UnsnapIsGone, removes_snapshot}
use Rattle.name_core.proofs.AllowedLemmas.{allowed-call}
use Rattle.name_core.proofs.AskLemmas.{first-front}
use Rattle.name_core.proofs.LawLemmas.{answer-by, shown-unless}
use Rattle.name_core.proofs.Layers.{Asking, Opened, Same, asking, settled_keeps, settled_opened}
use Rattle.name_core.proofs.SnapshotRows.{children-below, row-below, zone-path-below}
use Rattle.name_core.proofs.UpdateLemmas.{Applies, DoesUpdate, Ignores, delivery-does, giving-up-does}
use Rattle.name_core.proofs.WalkLemmas.{DoesWalk, Ends, TakesFiles, Waits, walk-does}

-- changes that were done

pub record DoneBy (s : NameState) (c : NameCall) (o : EditOp) (s' : NameState) : Type 0 where
  pub free : first_cause (causes s c) ≡ None
  pub left : s' ≡ took s o

pub done-by : (s : NameState) (c : NameCall) (o : EditOp) (s' : NameState) → deed s c ≡ only_logs s o → NameActs s c reply.Done s' → DoneBy s c o s'
done-by s c o s' does (NoRoom, may, is) = let f : reply.Done ≡ reply.Refused refusal.NoMemory = ap (λ x. x.reply) is in absurd cc
done-by s c o s' does (Plain, may, is) = go (first_cause (causes s c)) refl is
  where
    go : (why : Option NameRefusal) → first_cause (causes s c) ≡ why → (record { reply = reply.Done; state = s' }) ≡ unless_refused why s (deed s c) → DoneBy s c o s'
    go (Some why) stops is = let f : reply.Done ≡ reply.Refused why = ap (λ x. x.reply) is in absurd cc
    go None free is = record { free = free; left = ap (λ x. x.state) is ∙ ap (λ (d : Deed). done_with d.logs d.state) does }

-- the causes after some that don't apply
pub behind-none : (front behind : List (Bool × NameRefusal)) → first_cause front ≡ None → first_cause (front ++ behind) ≡ first_cause behind
behind-none [] behind h = refl
behind-none (c ∷ front) behind h = go c.0 h (behind-none front behind)
  where
    go : (b : Bool) → cond b (Some c.1) (first_cause front) ≡ None → (first_cause front ≡ None → first_cause (front ++ behind) ≡ first_cause behind) → cond b (Some c.1) (first_cause (front ++ behind)) ≡ first_cause behind
    go true h rest = absurd cc
    go false h rest = rest h

same-number : (a : ℕ) → (a == a) ≡ true
same-number a = grind (arith, nat_tests)

-- a snapshot stays

-- a snapshot that is there is not the one that an operation takes
not-taken : (taken : List Snapshot) (d : ℕ) (n : List ℕ) (dir : ℕ) (name : List ℕ) (was : Snapshot) → snapshot_named taken d n ≡ None → snapshot_named taken dir name ≡ Some was
    → is_named d n (key_of dir name) ≡ false
not-taken taken d n dir name was free stood = go (is_named d n (key_of dir name)) refl
  where
    go : (b : Bool) → is_named d n (key_of dir name) ≡ b → b ≡ false
    go true is =
        let parts = and_parts (dir == d) (bytes_eq name n) is in
        let f : Some was ≡ None = sym stood ∙ (λ i. snapshot_named taken (eqb-true dir d parts.0 i) ((bytes_eq-Decides name n).0 parts.1 i)) ∙ free in absurd cc
    go false is = refl

pub stays : (t : NameTable) (o : EditOp) (dir : ℕ) (name : List ℕ) (was : Snapshot) → allows t o ≡ true → removes_snapshot dir name t.rows o ≡ false → snapshot_named t.snaps.taken dir name ≡ Some was
    → snapshot_named (after_table t o).snaps.taken dir name ≡ Some was
stays t (op.Opened opening) dir name was may keeps stood = stood
stays t (op.Mkdir id p) dir name was may keeps stood = stood
stays t (op.File id p edek) dir name was may keeps stood = stood
stays t (op.Remove p) dir name was may keeps stood = stood
stays t (op.Rename p q) dir name was may keeps stood = stood
stays t (op.Zone p key) dir name was may keeps stood = stood
stays t (op.Allow p) dir name was may keeps stood = stood
stays t (op.Disallow p) dir name was may keeps stood = stood
stays t (op.Snap p n) dir name was may keeps stood =
    let new : Snapshot = record { dir = id_at t.rows p; name = n; rows = frozen t.rows (id_at t.rows p) } in
    let free = (snappable t.rows t.snaps p n (allowed t (op.Snap p n) refl may).free).free in
    others-take {A = Unit {0}} {E = Unit {0}} t.snaps.taken (Ok tt) new (put_snapshot new t.snaps.taken) refl tt dir name (not-taken t.snaps.taken (id_at t.rows p) n dir name was free stood) ∙ stood
stays t (op.Submit session p noted) dir name was may keeps stood = stood
stays t (op.Update session failed mark files) dir name was may keeps stood = stood
stays t (op.Cancel session) dir name was may keeps stood = stood
stays t (op.Complete session) dir name was may keeps stood = stood
stays t (op.Unsnap p n) dir name was may keeps stood = others-remove t.snaps.taken (id_at t.rows p) n dir name keeps ∙ stood

pub snapshots_stay : SnapshotsStay
snapshots_stay = stays

pub settling_keeps_snapshots : SettlingKeepsSnapshots
settling_keeps_snapshots s kept dir name was good keeps stood = go kept s.pending good.waits keeps
  where
    go : (kept : Bool) (pending : Option EditOp) → IfSome pending (IsWaiting s.names) → IfSome pending (λ o. removes_snapshot dir name s.names.table.rows o ≡ false)
        → snapshot_named (settled_table kept pending s.names.table).snaps.taken dir name ≡ Some was
    go kept None waits keeps = stood
    go true (Some o) waits keeps = stays s.names.table o dir name was waits.pending.allowed keeps stood
    go false (Some o) waits keeps = stood

-- a call

-- the table after a call that has nothing to settle
data TableNext (n : NameState) (c : NameCall) (t : NameTable) : Type 0 where
  Stays : t ≡ n.table → TableNext n c t
  Moves : (o : EditOp) → first_cause (causes n c) ≡ None → (deed n c).logs ≡ Some o → t ≡ after_table n.table o → TableNext n c t

deed-table : (s : NameState) (c : NameCall) → (deed s c).state.table ≡ s.table
deed-table s (call.Mkdir p) = refl
deed-table s (call.Delete p recursive) = refl
deed-table s (call.Rename p q) = refl
deed-table s (call.Info r) = refl
deed-table s (call.List r) = refl
deed-table s (call.Allow p) = refl
deed-table s (call.Disallow p) = refl
deed-table s (call.Snap p name) = refl
deed-table s (call.Unsnap p name) = refl
deed-table s (call.Cancel p) = refl
deed-table s (call.Status p) = refl
deed-table s call.Zones = refl

acted : (n : NameState) (c : NameCall) (result : NameReply) (n' : NameState) → NameActs n c result n' → TableNext n c n'.table
acted n c result n' (NoRoom, may, is) = Stays (ap (λ x. x.state.table) is)
acted n c result n' (Plain, may, is) = go (first_cause (causes n c)) refl is
  where
    done : first_cause (causes n c) ≡ None → (logs : Option EditOp) → (deed n c).logs ≡ logs → n'.table ≡ (done_with logs (deed n c).state).table → TableNext n c n'.table
    done free None logs is = Stays (is ∙ deed-table n c)
    done free (Some o) logs is = Moves o free logs (is ∙ ap (λ (t : NameTable). after_table t o) (deed-table n c))

    go : (why : Option NameRefusal) → first_cause (causes n c) ≡ why → (record { reply = result; state = n' }) ≡ unless_refused why n (deed n c) → TableNext n c n'.table
    go (Some why) stops is = Stays (ap (λ x. x.state.table) is)
    go None free is = done free (deed n c).logs refl (ap (λ x. x.state.table) is)

-- a snapshot while nothing is pending
kept-in-next : (n : NameState) (c : NameCall) (t : NameTable) (dir : ℕ) (name : List ℕ) (was : Snapshot) → 0 < n.table.opening → IdsFit n.table.rows n.asks (next_id n) → TableNext n c t
    → IfSome (deed n c).logs (λ o. removes_snapshot dir name n.table.rows o ≡ false) → snapshot_named n.table.snaps.taken dir name ≡ Some was → snapshot_named t.snaps.taken dir name ≡ Some was
kept-in-next n c t dir name was opened ids (Stays is) keeps stood = ap (λ (x : NameTable). snapshot_named x.snaps.taken dir name) is ∙ stood
kept-in-next n c t dir name was opened ids (Moves o free logs is) keeps stood =
    ap (λ (x : NameTable). snapshot_named x.snaps.taken dir name) is
    ∙ stays n.table o dir name was (allowed-call n c o opened ids free logs) (subst (λ (l : Option EditOp). IfSome l (λ o. removes_snapshot dir name n.table.rows o ≡ false)) logs keeps) stood

module _ (s s' : NameService) (dir : ℕ) (name : List ℕ) (was : Snapshot) (good : IsNames s) (waits : IsNotPending s dir name) (stood : snapshot_named s.names.table.snaps.taken dir name ≡ Some was) where
  abbrev Stood : List Snapshot → Type 0
  Stood taken = snapshot_named taken dir name ≡ Some was

  -- a step that leaves the table as it was, or as it is settled
  as-before : (t : NameTable) → t ≡ s.names.table → Stood t.snaps.taken
  as-before t is = ap (λ (x : NameTable). snapshot_named x.snaps.taken dir name) is ∙ stood

  as-settled : (kept : Bool) → Stood (settled kept s).table.snaps.taken
  as-settled kept = settling_keeps_snapshots s kept dir name was good waits stood

  kept-by-call : (user : List ℕ) (c : NameCall) (result : NameReply) (logged : List EditOp) → NameServes s user c AnyFault result logged s' → IsNotCalled s c dir name → Stood s'.names.table.snaps.taken
  kept-by-call user c result logged serves keeps = early (first_cause (early_causes user c)) serves
    where
      same : s' ≡ s → Stood s'.names.table.snaps.taken
      same is = as-before s'.names.table (ap (λ (x : NameService). x.names.table) is)

      changes : (kept : Bool) → Changes (settled kept s) (settled_ops kept s.pending) c AnyFault result logged s' → Stood s'.names.table.snaps.taken
      changes kept (inl w) =
          ap (λ (x : NameService). snapshot_named x.names.table.snaps.taken dir name) w.left
          ∙ kept-in-next (settled kept s) c w.changed.table dir name was (settled_opened kept s good) (settled_keeps kept s good).ids (acted (settled kept s) c result w.changed w.acts) (keeps kept) (as-settled kept)
      changes kept (inr u) =
          ap (λ (x : NameService). snapshot_named x.names.table.snaps.taken dir name) u.left
          ∙ ap (λ (x : NameTable). snapshot_named x.snaps.taken dir name) (deed-table (settled kept s) c) ∙ as-settled kept

      by : (change : Bool) → ServesBy change s c AnyFault result logged s' → Stood s'.names.table.snaps.taken
      by false reads = same reads.same
      by true (inl unsettled) = same unsettled.same
      by true (inr (kept, did)) = changes kept did

      early : (why : Option NameRefusal) → ServesUnless why s c AnyFault result logged s' → Stood s'.names.table.snaps.taken
      early (Some why) refused = same refused.same
      early None serves = by (is_change c) serves

  kept-by-ask : (user : List ℕ) (a : Ask) (result : Result AskNote NameRefusal) → Asks s.names user a result s'.names → Stood s'.names.table.snaps.taken
  kept-by-ask user a result asks = go (asking s.names user a result s'.names asks)
    where
      go : Asking s.names user a s'.names → Stood s'.names.table.snaps.taken
      go (Same is) = as-before s'.names.table (ap (λ (x : NameState). x.table) is)
      go (Opened free is) = as-before s'.names.table (ap (λ (x : NameState). x.table) is)

  -- the operation of a finish takes and removes no snapshot
  finish-taken : (t : NameTable) (id : ℕ) (edek : Option Edek) (k : Ask) → (after_table t (finish_op id edek k)).snaps.taken ≡ t.snaps.taken
  finish-taken t id edek (ask.Create p) = refl
  finish-taken t id edek (ask.Zone p key) = refl
  finish-taken t id edek (ask.Submit p) = refl

  finishes-taken : (n : NameState) (a : OpenAsk) (edek : Option Edek) (result : Result (Unit {0}) NameRefusal) (n' : NameState) → Finishes n a edek result n' → n'.table.snaps.taken ≡ n.table.snaps.taken
  finishes-taken n a edek result n' (NoRoom, may, is) = ap (λ x. x.state.table.snaps.taken) is
  finishes-taken n a edek result n' (Plain, may, is) = go (first_cause (finish_causes n.table.rows n.table.statuses a edek a.ask)) is
    where
      go : (why : Option NameRefusal) → (record { reply = result; state = n' }) ≡ unless_stopped why n a edek → n'.table.snaps.taken ≡ n.table.snaps.taken
      go (Some why) is = ap (λ x. x.state.table.snaps.taken) is
      go None is = ap (λ x. x.state.table.snaps.taken) is ∙ finish-taken n.table a.id edek a.ask

  kept-by-finish : (id : ℕ) (given : KeyAnswer) (result : Result (Unit {0}) NameRefusal) (logged : List EditOp) → FinishServes s id given AnyFault result logged s' → Stood s'.names.table.snaps.taken
  kept-by-finish id given result logged serves = at (open_ask s.names.asks id) serves
    where
      concluded : (a : OpenAsk) (edek : Option Edek) (kept : Bool) → Concludes (settled kept s) (settled_ops kept s.pending) a edek AnyFault result logged s' → Stood s'.names.table.snaps.taken
      concluded a edek kept (inl w) =
          ap (λ (x : NameService). snapshot_named x.names.table.snaps.taken dir name) w.left
          ∙ ap (λ (taken : List Snapshot). snapshot_named taken dir name) (finishes-taken (settled kept s) a edek result w.changed w.finishes) ∙ as-settled kept
      concluded a edek kept (inr u) = ap (λ (x : NameService). snapshot_named x.names.table.snaps.taken dir name) u.left ∙ as-settled kept

      of-open : (a : OpenAsk) (given : KeyAnswer) → FinishServesOpen s a given AnyFault result logged s' → Stood s'.names.table.snaps.taken
      of-open a (answer.Refused why) ends = as-before s'.names.table (ap (λ (x : NameService). x.names.table) ends.left_is)
      of-open a (answer.Given edek) (inl unsettled) = as-before s'.names.table (ap (λ (x : NameService). x.names.table) unsettled.ends.left_is)
      of-open a (answer.Given edek) (inr (kept, did)) = concluded a edek kept did

      at : (o : Option OpenAsk) → FinishServesAt s o given AnyFault result logged s' → Stood s'.names.table.snaps.taken
      at None ends = as-before s'.names.table (ap (λ (x : NameService). x.names.table) ends.left_is)
      at (Some a) serves = of-open a given serves

  -- nor does that of a walk
  walk-taken : (n : NameState) (p : List (List ℕ)) (d : WalkDeed) → DoesWalk n p d → (done_with d.logs d.state).table.snaps.taken ≡ n.table.snaps.taken
  walk-taken n p d (TakesFiles walks answer is) = ap (λ (x : WalkDeed). (done_with x.logs x.state).table.snaps.taken) is
  walk-taken n p d (Waits answer is) = ap (λ (x : WalkDeed). (done_with x.logs x.state).table.snaps.taken) is
  walk-taken n p d (Ends is) = ap (λ (x : WalkDeed). (done_with x.logs x.state).table.snaps.taken) is

  walks-taken : (n : NameState) (p : List (List ℕ)) (result : Result Walked NameRefusal) (n' : NameState) → NameWalks n p result n' → n'.table.snaps.taken ≡ n.table.snaps.taken
  walks-taken n p result n' (NoRoom, may, is) = ap (λ x. x.state.table.snaps.taken) is
  walks-taken n p result n' (Plain, may, is) = go (first_cause (walk_causes n p)) is
    where
      go : (why : Option NameRefusal) → (record { reply = result; state = n' }) ≡ unless_not_walked why n (walk_deed n p) → n'.table.snaps.taken ≡ n.table.snaps.taken
      go (Some why) is = ap (λ x. x.state.table.snaps.taken) is
      go None is = ap (λ x. x.state.table.snaps.taken) is ∙ walk-taken n p (walk_deed n p) (walk-does n p)

  kept-by-walk : (p : List (List ℕ)) (result : Result Walked NameRefusal) (logged : List EditOp) → WalkServes s p AnyFault result logged s' → Stood s'.names.table.snaps.taken
  kept-by-walk p result logged serves = early (first_cause (path_causes p)) serves
    where
      goes : (kept : Bool) → WalkGoes (settled kept s) (settled_ops kept s.pending) p AnyFault result logged s' → Stood s'.names.table.snaps.taken
      goes kept (inl w) =
          ap (λ (x : NameService). snapshot_named x.names.table.snaps.taken dir name) w.left
          ∙ ap (λ (taken : List Snapshot). snapshot_named taken dir name) (walks-taken (settled kept s) p result w.changed w.walks) ∙ as-settled kept
      goes kept (inr u) = ap (λ (x : NameService). snapshot_named x.names.table.snaps.taken dir name) u.left ∙ as-settled kept

      early : (why : Option NameRefusal) → WalkServesUnless why s p AnyFault result logged s' → Stood s'.names.table.snaps.taken
      early (Some why) refused = as-before s'.names.table (ap (λ (x : NameService). x.names.table) refused.same)
      early None (inl unsettled) = as-before s'.names.table (ap (λ (x : NameService). x.names.table) unsettled.ends.same)
      early None (inr (kept, did)) = goes kept did

  -- nor does that of a delivery, or of a batch given up
  update-taken : (n : NameState) (d : UpdateDeed) → DoesUpdate n d → ((done_with d.logs d.state).table.snaps.taken ≡ n.table.snaps.taken) × (d.state.table.snaps.taken ≡ n.table.snaps.taken)
  update-taken n d (Ignores note is) = (ap (λ (x : UpdateDeed). (done_with x.logs x.state).table.snaps.taken) is, ap (λ (x : UpdateDeed). x.state.table.snaps.taken) is)
  update-taken n d (Applies note changes has is) = (ap (λ (x : UpdateDeed). (done_with x.logs x.state).table.snaps.taken) is, ap (λ (x : UpdateDeed). x.state.table.snaps.taken) is)

  updates-taken : (n : NameState) (d : NameState → UpdateDeed) (result : Result Delivered NameRefusal) (n' : NameState) → DoesUpdate n (d n) → NameUpdates n d result n' → n'.table.snaps.taken ≡ n.table.snaps.taken
  updates-taken n d result n' does (NoRoom, may, is) = ap (λ x. x.state.table.snaps.taken) is
  updates-taken n d result n' does (Plain, may, is) = ap (λ x. x.state.table.snaps.taken) is ∙ (update-taken n (d n) does).0

  kept-by-update : (d : NameState → UpdateDeed) (result : Result Delivered NameRefusal) (logged : List EditOp) → ((n : NameState) → DoesUpdate n (d n)) → UpdateServes s d AnyFault result logged s' → Stood s'.names.table.snaps.taken
  kept-by-update d result logged does (inl unsettled) = as-before s'.names.table (ap (λ (x : NameService). x.names.table) unsettled.ends.same)
  kept-by-update d result logged does (inr (kept, did)) = goes did
    where
      goes : UpdateGoes (settled kept s) (settled_ops kept s.pending) d AnyFault result logged s' → Stood s'.names.table.snaps.taken
      goes (inl w) =
          ap (λ (x : NameService). snapshot_named x.names.table.snaps.taken dir name) w.left
          ∙ ap (λ (taken : List Snapshot). snapshot_named taken dir name) (updates-taken (settled kept s) d result w.changed (does (settled kept s)) w.updates) ∙ as-settled kept
      goes (inr u) =
          ap (λ (x : NameService). snapshot_named x.names.table.snaps.taken dir name) u.left
          ∙ ap (λ (taken : List Snapshot). snapshot_named taken dir name) (update-taken (settled kept s) (d (settled kept s)) (does (settled kept s))).1 ∙ as-settled kept

pub steps_keep_snapshots : StepsKeepSnapshots
steps_keep_snapshots s s' (Called user c result logged serves) dir name was good waits keeps stood = kept-by-call s s' dir name was good waits stood user c result logged serves keeps
steps_keep_snapshots s s' (Asked user a result asks same) dir name was good waits keeps stood = kept-by-ask s s' dir name was good waits stood user a result asks
steps_keep_snapshots s s' (Finished id given result logged serves) dir name was good waits keeps stood = kept-by-finish s s' dir name was good waits stood id given result logged serves
steps_keep_snapshots s s' (Walks p result logged serves) dir name was good waits keeps stood = kept-by-walk s s' dir name was good waits stood p result logged serves
steps_keep_snapshots s s' (Delivers reply result logged serves) dir name was good waits keeps stood = kept-by-update s s' dir name was good waits stood (deliver_deed reply) result logged (delivery-does reply) serves
steps_keep_snapshots s s' (GivesUp note result logged serves) dir name was good waits keeps stood = kept-by-update s s' dir name was good waits stood (give_up_deed note) result logged (giving-up-does note) serves

-- a snapshot that was taken

find-new : (test : Snapshot → Bool) (x : Snapshot) (taken : List Snapshot) → test x ≡ true → find test taken ≡ None → find test (put_snapshot x taken) ≡ Some x
find-new test x [] is none = ap (λ (b : Bool). cond b (Some x) None) is
find-new test x (y ∷ taken) is none = go (is_lt (snapshot_cmp x y)) (other (test y) none) (find-new test x taken is)
  where
    other : (b : Bool) → cond b (Some y) (find test taken) ≡ None → (b ≡ false) × (find test taken ≡ None)
    other true h = absurd cc
    other false h = (refl, h)

    go : (b : Bool) → (test y ≡ false) × (find test taken ≡ None) → (find test taken ≡ None → find test (put_snapshot x taken) ≡ Some x)
        → find test (cond b (x ∷ y ∷ taken) (y ∷ put_snapshot x taken)) ≡ Some x
    go true h rest = ap (λ (b : Bool). cond b (Some x) (find test (y ∷ taken))) is
    go false h rest = ap (λ (b : Bool). cond b (Some y) (find test (put_snapshot x taken))) h.0 ∙ rest h.1

-- the cause that there is no such snapshot
abbrev pub missing : NameTable → List (List ℕ) → List ℕ → List (Bool × NameRefusal)
missing t p name = (is_none (snapshot_named t.snaps.taken (id_at t.rows p) name), refusal.NoSuchSnapshot) ∷ []

module _ (t : NameTable) (p : List (List ℕ)) (name : List ℕ) (good : IsRows t.rows) (free : first_cause (snap_causes t.rows t.snaps p name) ≡ None) where
  abbrev after : NameTable
  after = after_table t (op.Snap p name)

  abbrev new : Snapshot
  new = record { dir = id_at t.rows p; name = name; rows = frozen t.rows (id_at t.rows p) }

  named-new : snapshot_named after.snaps.taken (id_at t.rows p) name ≡ Some new
  named-new =
      find-new (is_named (id_at t.rows p) name) new t.snaps.taken (and_from (id_at t.rows p == id_at t.rows p) (bytes_eq name name) (same-number (id_at t.rows p)) ((bytes_eq-Decides name name).1 refl))
      (snappable t.rows t.snaps p name free).free

  -- it has the rows at and below its directory
  rows-new : snapshot_rows after p name ≡ rows_below t.rows p
  rows-new =
      let dir = directory-entry t.rows p good (snappable t.rows t.snaps p name free).dir in
      ap (λ (o : Option Snapshot). option_map_or (λ (s : Snapshot). s.rows) o []) named-new
      ∙ ap (λ (o : Option Entry). option_map_or (λ (e : Entry). rows_below t.rows e.path) o []) dir.1 ∙ ap (rows_below t.rows) dir.2

  -- and can be read
  readable : first_cause (unsnap_causes after.rows after.snaps p name) ≡ None
  readable =
      let dir = none-of-both (directory_causes t.rows p) (allowed_causes t.rows t.snaps p ++ unlike) free in
      let may = none-of-both (allowed_causes t.rows t.snaps p) unlike dir.1 in
      none-of-join (directory_causes t.rows p) (allowed_causes t.rows t.snaps p ++ missing after p name) dir.0
      (none-of-join (allowed_causes t.rows t.snaps p) (missing after p name) may.0 (ap (λ (o : Option Snapshot). cond (is_none o) (Some refusal.NoSuchSnapshot) None) named-new))
    where
      unlike : List (Bool × NameRefusal)
      unlike = (is_some (snapshot_named t.snaps.taken (id_at t.rows p) name), refusal.SnapshotExists) ∷ (has_most_snapshots t.rows t.snaps p, refusal.TooManySnapshots) ∷ []

  new-info : (below : List (List ℕ)) → answer_unless (first_cause (info_causes after (as_it_was p name below))) (info_reply after (as_it_was p name below)) ≡ info_reply t (as_it_is (p ++ below))
  new-info below =
      let r = as_it_was p name below in
      ap (λ (o : Option NameRefusal). answer_unless o (info_reply after r)) (behind-none (unsnap_causes after.rows after.snaps p name) (entry_causes (snapshot_rows after p name) below) readable)
      ∙ shown-unless (zone_read after r) (row_at (snapshot_rows after p name) below)
      ∙ ap (λ (rows : List Entry). shown_at (zone_in_or_above t.rows p (zone_of rows below)) (row_at rows below)) rows-new
      ∙ (λ i. shown_at (zone-path-below t.rows p below i) (row-below t.rows p below i))

  new-list : (below : List (List ℕ)) → list_answer after (as_it_was p name below) ≡ list_answer t (as_it_is (p ++ below))
  new-list below =
      let r = as_it_was p name below in
      ap (λ (o : Option NameRefusal). answer_unless o (list_reply after r)) (behind-none (unsnap_causes after.rows after.snaps p name) (directory_causes (snapshot_rows after p name) below) readable)
      ∙ ap (λ (rows : List Entry). answer_unless (first_cause (directory_causes rows below)) (reply.List (children rows below))) rows-new
      ∙ (λ i. answer_unless (first_cause ((is_none (row-below t.rows p below i), refusal.NoSuchPath) ∷ (not (is_dir_at (row-below t.rows p below i)), refusal.NotADirectory) ∷ [])) (reply.List (children-below t.rows p below i)))

pub snapshot_is_reported : SnapshotIsReported
snapshot_is_reported s p name s' below result s'' good did info = go (answer-by s' (call.Info (as_it_was p name below)) result s'' info)
  where
    done : DoneBy s (call.Snap p name) (op.Snap p name) s'
    done = done-by s (call.Snap p name) (op.Snap p name) s' refl did

    go : (result ≡ reply.Refused refusal.NoMemory) ⊎ (result ≡ answer_unless (first_cause (info_causes s'.table (as_it_was p name below))) (info_reply s'.table (as_it_was p name below)))
        → (result ≡ reply.Refused refusal.NoMemory) ⊎ (result ≡ info_reply s.table (as_it_is (p ++ below)))
    go (inl wanting) = inl wanting
    go (inr is) =
        inr (is ∙ ap (λ (n : NameState). answer_unless (first_cause (info_causes n.table (as_it_was p name below))) (info_reply n.table (as_it_was p name below))) done.left ∙ new-info s.table p name good done.free below)

pub snapshot_is_listed : SnapshotIsListed
snapshot_is_listed s p name s' below result s'' good did list = go (answer-by s' (call.List (as_it_was p name below)) result s'' list)
  where
    done : DoneBy s (call.Snap p name) (op.Snap p name) s'
    done = done-by s (call.Snap p name) (op.Snap p name) s' refl did

    go : (result ≡ reply.Refused refusal.NoMemory) ⊎ (result ≡ list_answer s'.table (as_it_was p name below)) → (result ≡ reply.Refused refusal.NoMemory) ⊎ (result ≡ list_answer s.table (as_it_is (p ++ below)))
    go (inl wanting) = inl wanting
    go (inr is) = inr (is ∙ ap (λ (n : NameState). list_answer n.table (as_it_was p name below)) done.left ∙ new-list s.table p name good done.free below)

-- a snapshot that was removed

find-without : (test : Snapshot → Bool) (taken : List Snapshot) → find test (filter (λ x. not (test x)) taken) ≡ None
find-without test [] = refl
find-without test (x ∷ taken) = go (test x) refl (find-without test taken)
  where
    go : (b : Bool) → test x ≡ b → find test (filter (λ x. not (test x)) taken) ≡ None → find test (cond (not b) (x ∷ filter (λ x. not (test x)) taken) (filter (λ x. not (test x)) taken)) ≡ None
    go true is rest = rest
    go false is rest = ap (λ (b : Bool). cond b (Some x) (find test (filter (λ x. not (test x)) taken))) is ∙ rest

gone-causes : (t : NameTable) (p : List (List ℕ)) (name : List ℕ) (below : List (List ℕ)) → first_cause (unsnap_causes t.rows t.snaps p name) ≡ None
    → first_cause (info_causes (after_table t (op.Unsnap p name)) (as_it_was p name below)) ≡ Some refusal.NoSuchSnapshot
gone-causes t p name below free =
    first-front (unsnap_causes after.rows after.snaps p name) (entry_causes (snapshot_rows after p name) below) refusal.NoSuchSnapshot
    (behind-none (directory_causes t.rows p) (allowed_causes t.rows t.snaps p ++ missing after p name) dir.0
    ∙ behind-none (allowed_causes t.rows t.snaps p) (missing after p name) may.0
    ∙ ap (λ (o : Option Snapshot). cond (is_none o) (Some refusal.NoSuchSnapshot) None) (find-without (is_named (id_at t.rows p) name) t.snaps.taken))
  where
    after : NameTable
    after = after_table t (op.Unsnap p name)

    dir : (first_cause (directory_causes t.rows p) ≡ None) × (first_cause (allowed_causes t.rows t.snaps p ++ missing t p name) ≡ None)
    dir = none-of-both (directory_causes t.rows p) (allowed_causes t.rows t.snaps p ++ missing t p name) free

    may : (first_cause (allowed_causes t.rows t.snaps p) ≡ None) × (first_cause (missing t p name) ≡ None)
    may = none-of-both (allowed_causes t.rows t.snaps p) (missing t p name) dir.1

pub unsnap_is_gone : UnsnapIsGone
unsnap_is_gone s p name s' below result s'' did info = go info
  where
    done : DoneBy s (call.Unsnap p name) (op.Unsnap p name) s'
    done = done-by s (call.Unsnap p name) (op.Unsnap p name) s' refl did

    stops : first_cause (info_causes s'.table (as_it_was p name below)) ≡ Some refusal.NoSuchSnapshot
    stops = ap (λ (n : NameState). first_cause (info_causes n.table (as_it_was p name below))) done.left ∙ gone-causes s.table p name below done.free

    go : NameActs s' (call.Info (as_it_was p name below)) result s'' → result ≡ reply.Refused refusal.NoSuchSnapshot
    go (NoRoom, may, is) = let f : Some refusal.NoSuchSnapshot ≡ None = sym stops ∙ may.1 in absurd cc
    go (Plain, may, is) = ap (λ x. x.reply) is ∙ ap (λ (o : Option NameRefusal). (unless_refused o s' (deed s' (call.Info (as_it_was p name below)))).reply) stops
