-- Calls, asks and walks of the namesystem keep re-encryptions covered.
use Rattle.std.proofs.Common.{◌≡◌, inl, inr, ℕ, ◌+◌, ◌==◌, Bool, true, false, not, List, [], ◌∷◌, Option, Some, None, refl, sym, ap, subst, ◌∙◌, arith}
use Rattle.std.specs.Prelude.{◌≢◌}
use Rattle.std.specs.Option.{option_map_or}
use Rattle.std.specs.declared.result.Result.{Result}
use Rattle.std.proofs.lemmas.Bool.Decides.{nat_tests}
use Rattle.std.proofs.lemmas.Bool.{not-false}
use Rattle.hk_base.specs.declared.texts.Text.{Text}
use Rattle.key_rows.specs.declared.rows.KeyRow.{KeyRow}
use Rattle.inode_tree.specs.Rows.{Entry, IsRows}
use Rattle.edit_ops.specs.declared.ops.EditOp.{EditOp}
use Rattle.edit_ops.specs.declared.ops.EditOp.TheVariants as op
use Rattle.name_calls.specs.declared.calls.Ask.{Ask}
use Rattle.name_calls.specs.declared.calls.AskNote.{AskNote}
use Rattle.name_calls.specs.declared.calls.NameCall.{NameCall}
use Rattle.name_calls.specs.declared.calls.NameCall.TheVariants as call
use Rattle.name_calls.specs.declared.calls.NameRefusal.{NameRefusal}
use Rattle.name_calls.specs.declared.calls.NameRefusal.TheVariants as refusal
use Rattle.name_calls.specs.declared.calls.NameReply.{NameReply}
use Rattle.name_calls.specs.declared.paths.NPath.{NPath}
use Rattle.reenc_walk.specs.Files.{walk_list}
use Rattle.reenc_walk.specs.Walks.{outstanding}
use Rattle.zone_table.specs.declared.statuses.StatusRow.{StatusRow}
use Rattle.zone_table.specs.Statuses.{goes_on, is_of, zone_goes_on}
use Rattle.kms_core.proofs.KeyLemmas.{found_passes}
use Rattle.name_store.specs.Causes.{id_at, zone_root_causes}
use Rattle.name_store.specs.Table.{after_table}
use Rattle.name_store.proofs.CauseLemmas.{clear, none-of-both}
use Rattle.name_core.specs.Asks.{AskOutcome, Asks, ask_causes, unless_not_asked}
use Rattle.name_core.specs.Calls.{NameActs, NoRoom, Plain, causes, deed, done_with, early_causes, first_cause, path_causes, unless_refused}
use Rattle.name_core.specs.Service.{NameServes, ServesBy, ServesUnless, is_change}
use Rattle.name_core.specs.State.{IsNames, NameService, NameState, next_id, settled, took, walks_after}
use Rattle.name_core.specs.Walking.{NameWalks, WalkOutcome, WalkServes, WalkServesUnless, unless_not_walked}
use Rattle.name_core.specs.Walks.{deed_by_files, deed_by_status, session_at, status_at, walk_causes, walk_deed, walk_of}
use Rattle.name_core.specs.declared.walks.Walked.{Walked}
use Rattle.name_core.proofs.AllowedLemmas.{allowed-call}
use Rattle.world_run.specs.Covered.{CoveredBy}
use Rattle.world_run.specs.Ledger.{Hidden, Past, past_of}
use Rattle.world_run.specs.Linked.{LinkedWorld}
use Rattle.world_run.specs.World.{WorldState}
use Rattle.world_run.proofs.CoveredEnds.{covered-cancel, covered-complete}
use Rattle.world_run.proofs.CoveredOps.{IsNoStep, covered-after}
use Rattle.world_run.proofs.CoveredWalks.{covered-taken}
use Rattle.world_run.proofs.Members.{found-in, some-is}
use Rattle.world_run.proofs.SettledLemmas.{IsSettled, is-settled}
use Rattle.world_run.proofs.WalkKeeps.{deed_left, walk-completes}

-- what the re-encryptions of a namesystem cover, with its pending operation and without it
abbrev pub CoversNames : Past → List KeyRow → NameService → Type 0
CoversNames past keys s = (kept : Bool) → CoveredBy past keys (settled kept s).table (settled kept s).walks

-- an operation, written or pending
abbrev pub CoversBoth : Past → List KeyRow → NameState → EditOp → Type 0
CoversBoth past keys s o = CoversNames past keys (record { names = took s o; pending = None }) × CoversNames past keys (record { names = s; pending = Some o })

pub op-covers : (past : Past) (keys : List KeyRow) (s : NameState) (o : EditOp) → CoveredBy past keys s.table s.walks → CoveredBy past keys (after_table s.table o) (walks_after s.updating o s.walks) → CoversBoth past keys s o
op-covers past keys s o before after = (λ kept. after, λ kept. by kept)
  where
    by : (k : Bool) → CoveredBy past keys (settled k (record { names = s; pending = Some o })).table (settled k (record { names = s; pending = Some o })).walks
    by true = after
    by false = before

-- calls

-- the operation of a call that nothing stops
module _ (past : Past) (keys : List KeyRow) (s : NameState) (is : IsSettled past keys s) where
  stepless : (c : NameCall) (o : EditOp) → first_cause (causes s c) ≡ None → (deed s c).logs ≡ Some o → IsNoStep past.ledger o → CoveredBy past keys (after_table s.table o) s.walks
  stepless c o free logs step =
      covered-after past keys s.table s.walks is.rows is.statuses o is.files.distinct (allowed-call s c o is.opened is.ids free logs) step is.covered

  cancelled : (session : ℕ) → CoveredBy past keys (after_table s.table (op.Cancel session)) s.walks
  cancelled session = covered-cancel past keys s.table s.walks session is.covered

  pub call-covers : (c : NameCall) (o : EditOp) → first_cause (causes s c) ≡ None → (deed s c).logs ≡ Some o → CoveredBy past keys (after_table s.table o) s.walks
  call-covers (call.Mkdir p) o free logs =
      let same : op.Mkdir (next_id s) p ≡ o = some-is (op.Mkdir (next_id s) p) o logs in
      stepless (call.Mkdir p) o free logs (subst (IsNoStep past.ledger) same is.unentered)
  call-covers (call.Delete p recursive) o free logs = stepless (call.Delete p recursive) o free logs (subst (IsNoStep past.ledger) (some-is (op.Remove p) o logs) tt)
  call-covers (call.Rename p q) o free logs = stepless (call.Rename p q) o free logs (subst (IsNoStep past.ledger) (some-is (op.Rename p q) o logs) tt)
  call-covers (call.Info r) o free logs = absurd cc
  call-covers (call.List r) o free logs = absurd cc
  call-covers (call.Allow p) o free logs = stepless (call.Allow p) o free logs (subst (IsNoStep past.ledger) (some-is (op.Allow p) o logs) tt)
  call-covers (call.Disallow p) o free logs = stepless (call.Disallow p) o free logs (subst (IsNoStep past.ledger) (some-is (op.Disallow p) o logs) tt)
  call-covers (call.Snap p name) o free logs = stepless (call.Snap p name) o free logs (subst (IsNoStep past.ledger) (some-is (op.Snap p name) o logs) tt)
  call-covers (call.Unsnap p name) o free logs = stepless (call.Unsnap p name) o free logs (subst (IsNoStep past.ledger) (some-is (op.Unsnap p name) o logs) tt)
  call-covers (call.Cancel p) o free logs =
      subst (λ (x : EditOp). CoveredBy past keys (after_table s.table x) s.walks) (some-is (op.Cancel (session_at s.table p)) o logs) (cancelled (session_at s.table p))
  call-covers (call.Status p) o free logs = absurd cc
  call-covers call.Zones o free logs = absurd cc

  -- written, or pending
  deed-covers : (c : NameCall) → first_cause (causes s c) ≡ None
      → CoversNames past keys (record { names = done_with (deed s c).logs (deed s c).state; pending = None }) × CoversNames past keys (record { names = (deed s c).state; pending = (deed s c).logs })
  deed-covers (call.Mkdir p) free = op-covers past keys (record s { next = s.next + 1 }) (op.Mkdir (next_id s) p) is.covered (call-covers (call.Mkdir p) (op.Mkdir (next_id s) p) free refl)
  deed-covers (call.Delete p recursive) free = op-covers past keys s (op.Remove p) is.covered (call-covers (call.Delete p recursive) (op.Remove p) free refl)
  deed-covers (call.Rename p q) free = op-covers past keys s (op.Rename p q) is.covered (call-covers (call.Rename p q) (op.Rename p q) free refl)
  deed-covers (call.Info r) free = (λ kept. is.covered, λ kept. is.covered)
  deed-covers (call.List r) free = (λ kept. is.covered, λ kept. is.covered)
  deed-covers (call.Allow p) free = op-covers past keys s (op.Allow p) is.covered (call-covers (call.Allow p) (op.Allow p) free refl)
  deed-covers (call.Disallow p) free = op-covers past keys s (op.Disallow p) is.covered (call-covers (call.Disallow p) (op.Disallow p) free refl)
  deed-covers (call.Snap p name) free = op-covers past keys s (op.Snap p name) is.covered (call-covers (call.Snap p name) (op.Snap p name) free refl)
  deed-covers (call.Unsnap p name) free = op-covers past keys s (op.Unsnap p name) is.covered (call-covers (call.Unsnap p name) (op.Unsnap p name) free refl)
  deed-covers (call.Cancel p) free = op-covers past keys s (op.Cancel (session_at s.table p)) is.covered (cancelled (session_at s.table p))
  deed-covers (call.Status p) free = (λ kept. is.covered, λ kept. is.covered)
  deed-covers call.Zones free = (λ kept. is.covered, λ kept. is.covered)

  acts-cover : (c : NameCall) (outcome : NameReply) (changed : NameState) → NameActs s c outcome changed → CoversNames past keys (record { names = changed; pending = None })
  acts-cover c outcome changed (NoRoom, may, same) = subst (λ (x : NameState). CoversNames past keys (record { names = x; pending = None })) (sym (ap (λ o. o.state) same)) (λ kept. is.covered)
  acts-cover c outcome changed (Plain, may, same) =
      subst (λ (x : NameState). CoversNames past keys (record { names = x; pending = None })) (sym (ap (λ o. o.state) same)) (go (first_cause (causes s c)) refl)
    where
      go : (o : Option NameRefusal) → first_cause (causes s c) ≡ o → CoversNames past keys (record { names = (unless_refused o s (deed s c)).state; pending = None })
      go (Some why) refused = λ kept. is.covered
      go None free = (deed-covers c free).0

serves-cover : (w : WorldState) (h : Hidden) (c : NameCall) (fault : Type 0) (outcome : NameReply) (ops : List EditOp) (names : NameService) (b : Bool) → IsNames w.names → LinkedWorld w h
    → ServesBy b w.names c fault outcome ops names → CoversNames (past_of h) w.keys.keys.table.rows names
serves-cover w h c fault outcome ops names false fit l r = subst (CoversNames (past_of h) w.keys.keys.table.rows) (sym r.same) l.covered
serves-cover w h c fault outcome ops names true fit l (inl u) = subst (CoversNames (past_of h) w.keys.keys.table.rows) (sym u.same) l.covered
serves-cover w h c fault outcome ops names true fit l (inr (k, inl d)) =
    subst (CoversNames (past_of h) w.keys.keys.table.rows) (sym d.left) (acts-cover (past_of h) w.keys.keys.table.rows (settled k w.names) (is-settled w h k fit l) c outcome d.changed d.acts)
serves-cover w h c fault outcome ops names true fit l (inr (k, inr u)) =
    subst (CoversNames (past_of h) w.keys.keys.table.rows) (sym u.left) (deed-covers (past_of h) w.keys.keys.table.rows (settled k w.names) (is-settled w h k fit l) c u.free).1

pub calls-cover : (w : WorldState) (h : Hidden) (user : Text) (c : NameCall) (fault : Type 0) (outcome : NameReply) (ops : List EditOp) (names : NameService) → IsNames w.names → LinkedWorld w h
    → NameServes w.names user c fault outcome ops names → CoversNames (past_of h) w.keys.keys.table.rows names
calls-cover w h user c fault outcome ops names fit l serves = go (first_cause (early_causes user c)) serves
  where
    go : (o : Option NameRefusal) → ServesUnless o w.names c fault outcome ops names → CoversNames (past_of h) w.keys.keys.table.rows names
    go (Some why) r = subst (CoversNames (past_of h) w.keys.keys.table.rows) (sym r.same) l.covered
    go None s = serves-cover w h c fault outcome ops names (is_change c) fit l s

-- asks

pub asks-cover : (past : Past) (keys : List KeyRow) (s : NameService) (user : Text) (a : Ask) (result : Result AskNote NameRefusal) (names : NameState) → CoversNames past keys s → Asks s.names user a result names
    → CoversNames past keys (record s { names = names })
asks-cover past keys s user a result names c (NoRoom, may, is) = subst (λ (o : AskOutcome). CoversNames past keys (record s { names = o.state })) (sym is) c
asks-cover past keys s user a result names c (Plain, may, is) = subst (λ (o : AskOutcome). CoversNames past keys (record s { names = o.state })) (sym is) (go (first_cause (ask_causes s.names user a)))
  where
    go : (o : Option NameRefusal) → CoversNames past keys (record s { names = (unless_not_asked o s.names a).state })
    go (Some why) = c
    go None = c

-- walks

-- the zone of a walk that nothing stops is being re-encrypted
goes-there : (s : NameState) (p : NPath) (st : StatusRow) → first_cause (walk_causes s p) ≡ None → status_at s.table p ≡ Some st → st.completed ≡ false
goes-there s p st free found =
    let goes = zone_goes_on s.table.statuses (id_at s.table.rows p) in
    let on : goes ≡ true = not-false goes (clear (not goes) refusal.NotSubmitted None (none-of-both (zone_root_causes s.table.rows p) ((not goes, refusal.NotSubmitted) ∷ []) free).1).0 in
    uncompleted st.completed (sym (ap (λ (o : Option StatusRow). option_map_or goes_on o false) found) ∙ on)
  where
    uncompleted : (b : Bool) → not b ≡ true → b ≡ false
    uncompleted true h = absurd cc
    uncompleted false h = refl

module _ (past : Past) (keys : List KeyRow) (s : NameState) (p : NPath) (is : IsSettled past keys s) (free : first_cause (walk_causes s p) ≡ None) where
  abbrev walked_zone : ℕ
  walked_zone = id_at s.table.rows p

  -- the re-encryption is completed if no file is left and no batch is outstanding
  completed : (st : StatusRow) → status_at s.table p ≡ Some st → walk_list s.table.rows walked_zone (walk_of s.walks st).cursor ≡ [] → (outstanding (walk_of s.walks st).batches == 0) ≡ true
      → CoveredBy past keys (after_table s.table (op.Complete st.session)) s.walks
  completed st found none_left none_out =
      let zone_is : st.zone ≡ walked_zone = of-zone st (found_passes (is_of walked_zone) s.table.statuses st found) in
      covered-complete past keys s.table s.walks st is.files.distinct (found-in (is_of walked_zone) s.table.statuses st found) (goes-there s p st free found) (is-zero (outstanding (walk_of s.walks st).batches) none_out)
      (ap (λ (z : ℕ). walk_list s.table.rows z (walk_of s.walks st).cursor) zone_is ∙ none_left) is.covered
    where
      of-zone : (x : StatusRow) → (x.zone == walked_zone) ≡ true → x.zone ≡ walked_zone
      of-zone x h = grind (arith, nat_tests)

      is-zero : (n : ℕ) → (n == 0) ≡ true → n ≡ 0
      is-zero n h = grind (arith, nat_tests)

  walk-op-covers : (o : EditOp) → (walk_deed s p).logs ≡ Some o → CoveredBy past keys (after_table s.table o) s.walks
  walk-op-covers o logs = by-status (status_at s.table p) refl logs
    where
      by-number : (st : StatusRow) (n : ℕ) (b : Bool) → status_at s.table p ≡ Some st → walk_list s.table.rows walked_zone (walk_of s.walks st).cursor ≡ [] → (outstanding (walk_of s.walks st).batches == 0) ≡ b → (deed_left s st.session n b).logs ≡ Some o
          → CoveredBy past keys (after_table s.table o) s.walks
      by-number st n true found left none logs =
          subst (λ (x : EditOp). CoveredBy past keys (after_table s.table x) s.walks) (some-is (op.Complete st.session) o logs) (completed st found left none)
      by-number st n false found left none logs = absurd cc

      by-files : (st : StatusRow) (files : List Entry) → status_at s.table p ≡ Some st → walk_list s.table.rows walked_zone (walk_of s.walks st).cursor ≡ files → (deed_by_files s walked_zone st files).logs ≡ Some o → CoveredBy past keys (after_table s.table o) s.walks
      by-files st [] found left logs = by-number st (outstanding (walk_of s.walks st).batches) (outstanding (walk_of s.walks st).batches == 0) found left refl logs
      by-files st (e ∷ es) found left logs = absurd cc

      by-status : (st : Option StatusRow) → status_at s.table p ≡ st → (deed_by_status s walked_zone st).logs ≡ Some o → CoveredBy past keys (after_table s.table o) s.walks
      by-status None found logs = absurd cc
      by-status (Some st) found logs = by-files st (walk_list s.table.rows walked_zone (walk_of s.walks st).cursor) found refl logs

  -- pending
  walk-pending-covers : (o : EditOp) → (walk_deed s p).logs ≡ Some o → CoversNames past keys (record { names = s; pending = Some o })
  walk-pending-covers o logs =
      let c = walk-completes s p o logs in
      let after = subst (λ (x : EditOp). CoveredBy past keys (after_table s.table x) s.walks) c.1 (walk-op-covers o logs) in
      subst (λ (x : EditOp). CoversNames past keys (record { names = s; pending = Some x })) (sym c.1) (op-covers past keys s (op.Complete c.0) is.covered after).1

  -- done: the rows after it are those of a tree
  walk-deed-covers : IsRows (done_with (walk_deed s p).logs (walk_deed s p).state).table.rows → CoversNames past keys (record { names = done_with (walk_deed s p).logs (walk_deed s p).state; pending = None })
  walk-deed-covers rules = by-status (status_at s.table p) refl rules
    where
      by-number : (st : StatusRow) (n : ℕ) (b : Bool) → status_at s.table p ≡ Some st → walk_list s.table.rows walked_zone (walk_of s.walks st).cursor ≡ [] → (outstanding (walk_of s.walks st).batches == 0) ≡ b
          → CoversNames past keys (record { names = done_with (deed_left s st.session n b).logs (deed_left s st.session n b).state; pending = None })
      by-number st n true found left none = λ kept. completed st found left none
      by-number st n false found left none = λ kept. is.covered

      is-some : (e : Entry) (es : List Entry) → e ∷ es ≢ []
      is-some e es h = absurd cc

      by-files : (st : StatusRow) (files : List Entry) → status_at s.table p ≡ Some st → walk_list s.table.rows walked_zone (walk_of s.walks st).cursor ≡ files
          → IsRows (done_with (deed_by_files s walked_zone st files).logs (deed_by_files s walked_zone st files).state).table.rows
          → CoversNames past keys (record { names = done_with (deed_by_files s walked_zone st files).logs (deed_by_files s walked_zone st files).state; pending = None })
      by-files st [] found left rules = by-number st (outstanding (walk_of s.walks st).batches) (outstanding (walk_of s.walks st).batches == 0) found left refl
      by-files st (e ∷ es) found left rules =
          λ kept. covered-taken past keys s walked_zone st rules is.size is.files found (goes-there s p st free found) (λ none. is-some e es (sym left ∙ none)) is.covered

      by-status : (st : Option StatusRow) → status_at s.table p ≡ st → IsRows (done_with (deed_by_status s walked_zone st).logs (deed_by_status s walked_zone st).state).table.rows
          → CoversNames past keys (record { names = done_with (deed_by_status s walked_zone st).logs (deed_by_status s walked_zone st).state; pending = None })
      by-status None found rules = λ kept. is.covered
      by-status (Some st) found rules = by-files st (walk_list s.table.rows walked_zone (walk_of s.walks st).cursor) found refl rules

walked-covers : (past : Past) (keys : List KeyRow) (s : NameState) (p : NPath) (result : Result Walked NameRefusal) (changed : NameState) → IsSettled past keys s → IsRows changed.table.rows → NameWalks s p result changed
    → CoversNames past keys (record { names = changed; pending = None })
walked-covers past keys s p result changed is rules (NoRoom, may, same) =
    subst (λ (x : NameState). CoversNames past keys (record { names = x; pending = None })) (sym (ap (λ (o : WalkOutcome). o.state) same)) (λ kept. is.covered)
walked-covers past keys s p result changed is rules (Plain, may, same) =
    subst (λ (x : NameState). IsRows x.table.rows → CoversNames past keys (record { names = x; pending = None })) (sym (ap (λ (o : WalkOutcome). o.state) same)) (go (first_cause (walk_causes s p)) refl) rules
  where
    go : (o : Option NameRefusal) → first_cause (walk_causes s p) ≡ o → IsRows (unless_not_walked o s (walk_deed s p)).state.table.rows → CoversNames past keys (record { names = (unless_not_walked o s (walk_deed s p)).state; pending = None })
    go (Some why) refused rules = λ kept. is.covered
    go None free rules = walk-deed-covers past keys s p is free rules

pub walks-cover : (w : WorldState) (h : Hidden) (p : NPath) (fault : Type 0) (result : Result Walked NameRefusal) (ops : List EditOp) (names : NameService) → IsNames w.names → LinkedWorld w h → IsRows names.names.table.rows
    → WalkServes w.names p fault result ops names → CoversNames (past_of h) w.keys.keys.table.rows names
walks-cover w h p fault result ops names fit l rules serves = go (first_cause (path_causes p)) serves
  where
    past : Past
    past = past_of h

    keys : List KeyRow
    keys = w.keys.keys.table.rows

    go : (o : Option NameRefusal) → WalkServesUnless o w.names p fault result ops names → CoversNames past keys names
    go (Some why) r = subst (CoversNames past keys) (sym r.same) l.covered
    go None (inl u) = subst (CoversNames past keys) (sym u.ends.same) l.covered
    go None (inr (k, inl d)) =
        subst (CoversNames past keys) (sym d.left)
        (walked-covers past keys (settled k w.names) p result d.changed (is-settled w h k fit l) (subst (λ (n : NameService). IsRows n.names.table.rows) d.left rules) d.walks)
    go None (inr (k, inr u)) = subst (CoversNames past keys) (sym u.left) (walk-pending-covers past keys (settled k w.names) p (is-settled w h k fit l) u.free u.op u.writes)

-- the completion that a walk may write
pub walk-writes-covers : (w : WorldState) (h : Hidden) (p : NPath) (k : Bool) (o : EditOp) → IsNames w.names → LinkedWorld w h → first_cause (walk_causes (settled k w.names) p) ≡ None → (walk_deed (settled k w.names) p).logs ≡ Some o
    → CoveredBy (past_of h) w.keys.keys.table.rows (after_table (settled k w.names).table o) (settled k w.names).walks
walk-writes-covers w h p k o fit l free logs = walk-op-covers (past_of h) w.keys.keys.table.rows (settled k w.names) p (is-settled w h k fit l) free o logs
