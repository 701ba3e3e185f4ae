-- The laws of cancelled and completed re-encryptions.
use Rattle.std.proofs.Common.{◌≡◌, ◌⊎◌, inl, inr, ℕ, Bool, true, false, cond, not, ◌&&◌, List, [], ◌∷◌, Option, Some, None, Ok, Err, refl, sym, ap, ◌∙◌, arith}
use Rattle.std.specs.Prelude.{◌==◌}
use Rattle.std.specs.Option.{option_map, option_map_or}
use Rattle.std.proofs.lemmas.Bool.Decides.{nat_tests}
use Rattle.std.proofs.lemmas.Bool.{eq-eqb, ne_eqb}
use Rattle.edit_ops.specs.declared.ops.EditOp.TheVariants as op
use Rattle.inode_tree.specs.Rows.{Entry}
use Rattle.name_calls.specs.declared.calls.NameCall.TheVariants as call
use Rattle.name_calls.specs.declared.calls.NameRefusal.{NameRefusal}
use Rattle.name_calls.specs.declared.calls.NameRefusal.TheVariants as refusal
use Rattle.name_calls.specs.declared.calls.NameReply.TheVariants as reply
use Rattle.reenc_walk.specs.Files.{walk_list}
use Rattle.reenc_walk.specs.Walks.{outstanding}
use Rattle.zone_table.specs.declared.statuses.StatusRow.{StatusRow}
use Rattle.zone_table.specs.Statuses.{ended, goes_on, goes_on_under, is_of, status_of, with_end, zone_goes_on}
use Rattle.name_store.specs.Causes.{first_cause, id_at, zone_root_causes}
use Rattle.name_store.specs.Table.{NameTable, after_table}
use Rattle.name_store.proofs.CauseLemmas.{none-of-both}
use Rattle.name_core.specs.declared.walks.Walked.{Walked}
use Rattle.name_core.specs.declared.walks.Walked.TheVariants as result
use Rattle.name_core.specs.State.{NameState}
use Rattle.name_core.specs.Calls.{NameActs, NoRoom, Plain, done_with}
use Rattle.name_core.specs.Reads.{answer_unless}
use Rattle.name_core.specs.Walking.{NameWalks, unless_not_walked}
use Rattle.name_core.specs.Walks.{WalkDeed, deed_by_files, deed_by_status, none_left, session_at, status_shown, status_shown_at, walk_causes, walk_deed, walk_of}
use Rattle.name_core.specs.Laws.{CancelEnds, CancelIsReported, CompletedIsWalkedThrough, IsWalkedThrough, OthersGoOn, ShowsCancel, WalksKeepRows}
use Rattle.name_core.proofs.LawLemmas.{answer-by}
use Rattle.name_core.proofs.SnapshotLaws.{DoneBy, done-by}
use Rattle.name_core.proofs.WalkLemmas.{DoesWalk, Ends, GoesOn, TakesFiles, Waits, session-is, walk-does, zone-goes}

-- statuses after a session has ended

end-zone : (session : ℕ) (cancelled : Bool) (s : StatusRow) → (with_end session cancelled s).zone ≡ s.zone
end-zone session cancelled s = go (goes_on_under session s)
  where
    go : (b : Bool) → (cond b (record s { completed = true; cancelled = cancelled }) s).zone ≡ s.zone
    go true = refl
    go false = refl

-- the status of each zone has changed alone
pub status-ended : (session : ℕ) (cancelled : Bool) (statuses : List StatusRow) (zone : ℕ) → status_of (ended session cancelled statuses) zone ≡ option_map (with_end session cancelled) (status_of statuses zone)
status-ended session cancelled [] zone = refl
status-ended session cancelled (s ∷ ss) zone =
    ap (λ (n : ℕ). cond (n == zone) (Some (with_end session cancelled s)) (status_of (ended session cancelled ss) zone)) (end-zone session cancelled s)
    ∙ go (is_of zone s) (status-ended session cancelled ss zone)
  where
    go : (b : Bool) → status_of (ended session cancelled ss) zone ≡ option_map (with_end session cancelled) (status_of ss zone)
        → cond b (Some (with_end session cancelled s)) (status_of (ended session cancelled ss) zone) ≡ option_map (with_end session cancelled) (cond b (Some s) (status_of ss zone))
    go true rest = refl
    go false rest = rest

-- one that goes on under the session
end-here : (session : ℕ) (cancelled : Bool) (s : StatusRow) → s.session ≡ session → goes_on s ≡ true → with_end session cancelled s ≡ record s { completed = true; cancelled = cancelled }
end-here session cancelled s is goes =
    (λ i. cond (eq-eqb s.session session is i && goes i) (record s { completed = true; cancelled = cancelled }) s)

end-elsewhere : (session : ℕ) (cancelled : Bool) (s : StatusRow) → (s.session ≡ session → ⊥) → with_end session cancelled s ≡ s
end-elsewhere session cancelled s other = ap (λ (b : Bool). cond (b && goes_on s) (record s { completed = true; cancelled = cancelled }) s) (ne_eqb s.session session other)

-- the status of a zone whose session has ended
ended-at : (t : NameTable) (p : List (List ℕ)) (cancelled : Bool) (g : GoesOn t p) → status_of (ended (session_at t p) cancelled t.statuses) (id_at t.rows p) ≡ Some (record g.status { completed = true; cancelled = cancelled })
ended-at t p cancelled g =
    status-ended (session_at t p) cancelled t.statuses (id_at t.rows p)
    ∙ ap (option_map (with_end (session_at t p) cancelled)) g.found
    ∙ ap Some (end-here (session_at t p) cancelled g.status (session-is t p g.status g.found) g.goes)

goes-no-more : (t : NameTable) (p : List (List ℕ)) (cancelled : Bool) → GoesOn t p → zone_goes_on (ended (session_at t p) cancelled t.statuses) (id_at t.rows p) ≡ false
goes-no-more t p cancelled g = ap (λ (o : Option StatusRow). option_map_or goes_on o false) (ended-at t p cancelled g)

-- cancels

module _ (s : NameState) (p : List (List ℕ)) (s' : NameState) (did : NameActs s (call.Cancel p) reply.Done s') where
  done : DoneBy s (call.Cancel p) (op.Cancel (session_at s.table p)) s'
  done = done-by s (call.Cancel p) (op.Cancel (session_at s.table p)) s' refl did

  table : s'.table ≡ after_table s.table (op.Cancel (session_at s.table p))
  table = ap (λ (x : NameState). x.table) done.left

  goes : GoesOn s.table p
  goes = zone-goes s.table p done.free

pub cancel_ends : CancelEnds
cancel_ends s p s' did = ap (λ (t : NameTable). zone_goes_on t.statuses (id_at t.rows p)) (table s p s' did) ∙ goes-no-more s.table p true (goes s p s' did)

pub others_go_on : OthersGoOn
others_go_on s p s' zone st did found other =
    ap (λ (t : NameTable). status_of t.statuses zone) (table s p s' did)
    ∙ status-ended (session_at s.table p) true s.table.statuses zone
    ∙ ap (option_map (with_end (session_at s.table p) true)) found
    ∙ ap Some (end-elsewhere (session_at s.table p) true st other)

pub cancel_is_reported : CancelIsReported
cancel_is_reported s p s' answer s'' did asked = go (answer-by s' (call.Status p) answer s'' asked)
  where
    g : GoesOn s.table p
    g = goes s p s' did

    st : StatusRow
    st = record g.status { completed = true; cancelled = true }

    shown : status_shown_at s'.table s'.walks p ≡ Some (status_shown s'.walks st)
    shown = ap (option_map (status_shown s'.walks)) (ap (λ (t : NameTable). status_of t.statuses (id_at t.rows p)) (table s p s' did) ∙ ended-at s.table p true g)

    free : first_cause (zone_root_causes s'.table.rows p) ≡ None
    free = ap (λ (t : NameTable). first_cause (zone_root_causes t.rows p)) (table s p s' did) ∙ (none-of-both (zone_root_causes s.table.rows p) ((not (zone_goes_on s.table.statuses (id_at s.table.rows p)), refusal.NotSubmitted) ∷ []) (done s p s' did).free).0

    go : (answer ≡ reply.Refused refusal.NoMemory) ⊎ (answer ≡ answer_unless (first_cause (zone_root_causes s'.table.rows p)) (reply.Status (status_shown_at s'.table s'.walks p)))
        → (answer ≡ reply.Refused refusal.NoMemory) ⊎ ShowsCancel (session_at s.table p) answer
    go (inl wanting) = inl wanting
    go (inr is) = inr (record {
      shown = status_shown s'.walks st;
      answers = is ∙ (λ i. answer_unless (free i) (reply.Status (shown i)));
      session_is = session-is s.table p g.status g.found;
      state_is = refl;
      cancelled = refl;
    })

-- walks

walked-through : (s : NameState) (p : List (List ℕ)) → first_cause (walk_causes s p) ≡ None → (walk_deed s p).answer ≡ result.Completed → IsWalkedThrough s p
walked-through s p free is = by-files (walk_list s.table.rows (id_at s.table.rows p) (walk_of s.walks g.status).cursor) refl (sym deed_is ∙ is)
  where
    g : GoesOn s.table p
    g = zone-goes s.table p free

    count : ℕ
    count = outstanding (walk_of s.walks g.status).batches

    deed_is : (walk_deed s p).answer ≡ (deed_by_files s (id_at s.table.rows p) g.status (walk_list s.table.rows (id_at s.table.rows p) (walk_of s.walks g.status).cursor)).answer
    deed_is = ap (λ (o : Option StatusRow). (deed_by_status s (id_at s.table.rows p) o).answer) g.found

    is-zero : (n : ℕ) → (n == 0) ≡ true → n ≡ 0
    is-zero n h = grind (arith, nat_tests, h)

    by-count : (b : Bool) → (count == 0) ≡ b
        → (cond {A = WalkDeed} b (record { answer = result.Completed; logs = Some (op.Complete g.status.session); state = s }) (record { answer = result.NoneLeft count; logs = None; state = s })).answer ≡ result.Completed
        → count ≡ 0
    by-count true zero is = is-zero count zero
    by-count false some is = absurd cc

    by-files : (files : List Entry) → walk_list s.table.rows (id_at s.table.rows p) (walk_of s.walks g.status).cursor ≡ files
        → (deed_by_files s (id_at s.table.rows p) g.status files).answer ≡ result.Completed → IsWalkedThrough s p
    by-files [] none is = record { status = g.status; found = g.found; no_files = none; none_outstanding = by-count (count == 0) refl is }
    by-files (e ∷ es) some is = absurd cc

-- what a walk that gives something did
pub record WalkDid (s : NameState) (p : List (List ℕ)) (given : Walked) (s' : NameState) : Type 0 where
  pub free : first_cause (walk_causes s p) ≡ None
  pub answer : given ≡ (walk_deed s p).answer
  pub left : s' ≡ done_with (walk_deed s p).logs (walk_deed s p).state

pub walk-did : (s : NameState) (p : List (List ℕ)) (given : Walked) (s' : NameState) → NameWalks s p (Ok given) s' → WalkDid s p given s'
walk-did s p given s' (NoRoom, may, is) = let f : Ok given ≡ Err refusal.NoMemory = ap (λ o. o.reply) is in absurd cc
walk-did s p given s' (Plain, may, is) = go (first_cause (walk_causes s p)) refl is
  where
    go : (o : Option NameRefusal) → first_cause (walk_causes s p) ≡ o → (record { reply = Ok given; state = s' }) ≡ unless_not_walked o s (walk_deed s p) → WalkDid s p given s'
    go (Some why) stops is = let f : Ok given ≡ Err why = ap (λ o. o.reply) is in absurd cc
    go None free is = let f : Ok given ≡ Ok (walk_deed s p).answer = ap (λ o. o.reply) is in record { free = free; answer = cc; left = ap (λ o. o.state) is }

pub completed_is_walked_through : CompletedIsWalkedThrough
completed_is_walked_through s p s' walks =
    let did = walk-did s p result.Completed s' walks in
    let g = zone-goes s.table p did.free in
    let through = walked-through s p did.free (sym did.answer) in
    (through, ap (λ (x : NameState). zone_goes_on x.table.statuses (id_at x.table.rows p)) (did.left ∙ ends s p did.free through) ∙ goes-no-more s.table p false g)
  where
    ends : (s : NameState) (p : List (List ℕ)) → first_cause (walk_causes s p) ≡ None → IsWalkedThrough s p → done_with (walk_deed s p).logs (walk_deed s p).state ≡ done_with (Some (op.Complete (session_at s.table p))) s
    ends s p free through =
        let zone = id_at s.table.rows p in
        let count = outstanding (walk_of s.walks through.status).batches in
        let complete : ℕ → WalkDeed = λ (n : ℕ). record { answer = result.Completed; logs = Some (op.Complete n); state = s } in
        ap (λ (d : WalkDeed). done_with d.logs d.state)
        (ap (deed_by_status s zone) through.found
        ∙ ap (deed_by_files s zone through.status) through.no_files
        ∙ ap (λ (n : ℕ). none_left s through.status.session n) through.none_outstanding
        ∙ ap complete (session-is s.table p through.status through.found))

keeps-rows : (s : NameState) (p : List (List ℕ)) (d : WalkDeed) → DoesWalk s p d → ((done_with d.logs d.state).table.rows ≡ s.table.rows) × ((done_with d.logs d.state).table.snaps ≡ s.table.snaps)
keeps-rows s p d (TakesFiles walks answer is) = (ap (λ (x : WalkDeed). (done_with x.logs x.state).table.rows) is, ap (λ (x : WalkDeed). (done_with x.logs x.state).table.snaps) is)
keeps-rows s p d (Waits answer is) = (ap (λ (x : WalkDeed). (done_with x.logs x.state).table.rows) is, ap (λ (x : WalkDeed). (done_with x.logs x.state).table.snaps) is)
keeps-rows s p d (Ends is) = (ap (λ (x : WalkDeed). (done_with x.logs x.state).table.rows) is, ap (λ (x : WalkDeed). (done_with x.logs x.state).table.snaps) is)

pub walks_keep_rows : WalksKeepRows
walks_keep_rows s p answer s' (NoRoom, may, is) = (ap (λ o. o.state.table.rows) is, ap (λ o. o.state.table.snaps) is)
walks_keep_rows s p answer s' (Plain, may, is) = go (first_cause (walk_causes s p)) is
  where
    go : (o : Option NameRefusal) → (record { reply = answer; state = s' }) ≡ unless_not_walked o s (walk_deed s p) → (s'.table.rows ≡ s.table.rows) × (s'.table.snaps ≡ s.table.snaps)
    go (Some why) is = (ap (λ o. o.state.table.rows) is, ap (λ o. o.state.table.snaps) is)
    go None is =
        let kept = keeps-rows s p (walk_deed s p) (walk-does s p) in
        (ap (λ o. o.state.table.rows) is ∙ kept.0, ap (λ o. o.state.table.snaps) is ∙ kept.1)
