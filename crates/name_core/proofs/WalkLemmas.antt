-- Walks of zones: the status that they go by, what they do, and their places in the list.
use Rattle.std.proofs.Common.{◌≡◌, ℕ, ◌+◌, ◌<◌, ◌≤◌, suc, Bool, true, false, not, cond, ◌||◌, List, [], ◌∷◌, ◌++◌, length, set, Option, Some, None, refl, sym, ap, ◌∙◌, subst, arith}
use Rattle.std.specs.Prelude.{◌==◌}
use Rattle.std.specs.List.{position, position_or_len}
use Rattle.std.specs.Option.{option_map_or}
use Rattle.std.proofs.lemmas.Bool.Decides.{nat_tests}
use Rattle.std.proofs.lemmas.Bool.{not-false, or_right, and_from}
use Rattle.edit_ops.specs.declared.ops.EditOp.{EditOp}
use Rattle.edit_ops.specs.declared.ops.EditOp.TheVariants as op
use Rattle.inode_tree.specs.Rows.{Entry}
use Rattle.name_calls.specs.declared.calls.NameRefusal.TheVariants as refusal
use Rattle.reenc_walk.specs.Files.{walk_list}
use Rattle.reenc_walk.specs.Walks.{WalkState, outstanding}
use Rattle.zone_table.specs.declared.statuses.StatusRow.{StatusRow}
use Rattle.zone_table.specs.Statuses.{goes_on, goes_on_under, is_of, session_goes_on, status_of, zone_goes_on}
use Rattle.zone_table.proofs.StatusLists.{placed, unplaced}
use Rattle.name_store.specs.Causes.{first_cause, going_causes, id_at, zone_root_causes}
use Rattle.name_store.specs.Table.{NameTable}
use Rattle.name_store.proofs.CauseLemmas.{clear, none-of-both}
use Rattle.name_core.specs.declared.walks.Walked.{Walked}
use Rattle.name_core.specs.declared.walks.Walked.TheVariants as result
use Rattle.name_core.specs.State.{NameState}
use Rattle.name_core.specs.Walks.{WalkDeed, deed_by_files, deed_by_status, is_walk_of, new_walk, or_new_walk, session_at, status_at, walk_deed, walk_of, walk_under, with_walk}

itself : (n : ℕ) → (n == n) ≡ true
itself n = grind (arith, nat_tests)

-- the status of a zone that is being re-encrypted

-- its session goes on
pub found-goes : (statuses : List StatusRow) (zone : ℕ) (st : StatusRow) → status_of statuses zone ≡ Some st → goes_on st ≡ true → session_goes_on statuses st.session ≡ true
found-goes [] zone st is h = absurd cc
found-goes (s ∷ ss) zone st is h = go (is_of zone s) is (found-goes ss zone st)
  where
    go : (b : Bool) → cond b (Some s) (status_of ss zone) ≡ Some st → (status_of ss zone ≡ Some st → goes_on st ≡ true → session_goes_on ss st.session ≡ true)
        → (goes_on_under st.session s || session_goes_on ss st.session) ≡ true
    go true is rest =
        let same : s ≡ st = cc in
        ap (λ (b : Bool). b || session_goes_on ss st.session) (ap (goes_on_under st.session) same ∙ and_from (st.session == st.session) (goes_on st) (itself st.session) h)
    go false is rest = or_right (goes_on_under st.session s) (session_goes_on ss st.session) (rest is h)

pub record GoesOn (t : NameTable) (p : List (List ℕ)) : Type 0 where
  pub status : StatusRow
  pub found : status_at t p ≡ Some status
  pub goes : goes_on status ≡ true

pub zone-goes : (t : NameTable) (p : List (List ℕ)) → first_cause (going_causes t.rows t.statuses p) ≡ None → GoesOn t p
zone-goes t p h = go (status_at t p) refl (not-false _ (clear (not (zone_goes_on t.statuses (id_at t.rows p))) refusal.NotSubmitted None its).0)
  where
    its : first_cause ((not (zone_goes_on t.statuses (id_at t.rows p)), refusal.NotSubmitted) ∷ []) ≡ None
    its = (none-of-both (zone_root_causes t.rows p) ((not (zone_goes_on t.statuses (id_at t.rows p)), refusal.NotSubmitted) ∷ []) h).1

    go : (o : Option StatusRow) → status_at t p ≡ o → option_map_or goes_on o false ≡ true → GoesOn t p
    go None is h = absurd cc
    go (Some st) is h = record { status = st; found = is; goes = h }

pub session-is : (t : NameTable) (p : List (List ℕ)) (st : StatusRow) → status_at t p ≡ Some st → st.session ≡ session_at t p
session-is t p st is = ap (λ (o : Option StatusRow). option_map_or (λ s. s.session) o 0) (sym is)

pub going-session : (t : NameTable) (p : List (List ℕ)) → first_cause (going_causes t.rows t.statuses p) ≡ None → session_goes_on t.statuses (session_at t p) ≡ true
going-session t p h =
    let g = zone-goes t p h in
    ap (session_goes_on t.statuses) (sym (session-is t p g.status g.found)) ∙ found-goes t.statuses (id_at t.rows p) g.status g.found g.goes

-- what a walk does: it takes files, waits for outstanding batches, or ends its session
pub data DoesWalk (s : NameState) (p : List (List ℕ)) (d : WalkDeed) : Type 0 where
  TakesFiles : (walks : List WalkState) (answer : Walked) → d ≡ record { answer = answer; logs = None; state = record s { walks = walks } } → DoesWalk s p d
  Waits : (answer : Walked) → d ≡ record { answer = answer; logs = None; state = s } → DoesWalk s p d
  Ends : d ≡ record { answer = result.Completed; logs = Some (op.Complete (session_at s.table p)); state = s } → DoesWalk s p d

pub walk-does : (s : NameState) (p : List (List ℕ)) → DoesWalk s p (walk_deed s p)
walk-does s p = by-status (status_at s.table p) refl
  where
    by-count : (count session : ℕ) → session ≡ session_at s.table p → (b : Bool)
        → DoesWalk s p (cond b (record { answer = result.Completed; logs = Some (op.Complete session); state = s }) (record { answer = result.NoneLeft count; logs = None; state = s }))
    by-count count session is true = Ends (ap (λ (n : ℕ). record { answer = result.Completed; logs = Some (op.Complete n); state = s }) is)
    by-count count session is false = Waits (result.NoneLeft count) refl

    by-files : (st : StatusRow) → st.session ≡ session_at s.table p → (files : List Entry) → DoesWalk s p (deed_by_files s (id_at s.table.rows p) st files)
    by-files st is [] = let count = outstanding (walk_of s.walks st).batches in by-count count st.session is (count == 0)
    by-files st is (e ∷ es) = TakesFiles _ _ refl

    by-status : (o : Option StatusRow) → status_at s.table p ≡ o → DoesWalk s p (deed_by_status s (id_at s.table.rows p) o)
    by-status None is = Waits result.Completed refl
    by-status (Some st) is = by-files st (session-is s.table p st is) (walk_list s.table.rows (id_at s.table.rows p) (walk_of s.walks st).cursor)

-- the operation of a walk is the completion of the session
pub walk-completes : (s : NameState) (p : List (List ℕ)) (o : EditOp) → (walk_deed s p).logs ≡ Some o → o ≡ op.Complete (session_at s.table p)
walk-completes s p o h = go (walk_deed s p) (walk-does s p) h
  where
    go : (d : WalkDeed) → DoesWalk s p d → d.logs ≡ Some o → o ≡ op.Complete (session_at s.table p)
    go d (TakesFiles walks answer is) h = let f : None ≡ Some o = sym (ap (λ (x : WalkDeed). x.logs) is) ∙ h in absurd cc
    go d (Waits answer is) h = let f : None ≡ Some o = sym (ap (λ (x : WalkDeed). x.logs) is) ∙ h in absurd cc
    go d (Ends is) h = let f : Some (op.Complete (session_at s.table p)) ≡ Some o = sym (ap (λ (x : WalkDeed). x.logs) is) ∙ h in cc

-- places of walks

next : (n : ℕ) → 1 + n ≡ suc n
next n = omega arith

with-set : (w : WalkState) (ws : List WalkState) → position_or_len (is_walk_of w.session) ws < length ws → set ws (position_or_len (is_walk_of w.session) ws) w ≡ with_walk w ws
with-set w [] h = absurd (omega arith)
with-set w (x ∷ ws) h = go (is_walk_of w.session x) h (with-set w ws)
  where
    go : (b : Bool) → cond (not b) (1 + position_or_len (is_walk_of w.session) ws) 0 < length (x ∷ ws)
        → (position_or_len (is_walk_of w.session) ws < length ws → set ws (position_or_len (is_walk_of w.session) ws) w ≡ with_walk w ws)
        → set (x ∷ ws) (cond (not b) (1 + position_or_len (is_walk_of w.session) ws) 0) w ≡ cond b (w ∷ ws) (x ∷ with_walk w ws)
    go true h ih = refl
    go false h ih = ap (λ (n : ℕ). set (x ∷ ws) n w) (next (position_or_len (is_walk_of w.session) ws)) ∙ ap (λ (l : List WalkState). x ∷ l) (ih (omega arith))

with-push : (w : WalkState) (ws : List WalkState) → length ws ≤ position_or_len (is_walk_of w.session) ws → ws ++ w ∷ [] ≡ with_walk w ws
with-push w [] h = refl
with-push w (x ∷ ws) h = go (is_walk_of w.session x) h (with-push w ws)
  where
    go : (b : Bool) → length (x ∷ ws) ≤ cond (not b) (1 + position_or_len (is_walk_of w.session) ws) 0
        → (length ws ≤ position_or_len (is_walk_of w.session) ws → ws ++ w ∷ [] ≡ with_walk w ws) → x ∷ ws ++ w ∷ [] ≡ cond b (w ∷ ws) (x ∷ with_walk w ws)
    go true h ih = absurd (omega arith)
    go false h ih = ap (λ (l : List WalkState). x ∷ l) (ih (omega arith))

-- a walk in its place, and a new one at the end

pub walk-placed : (w : WalkState) (ws : List WalkState) (at : ℕ) → Some at ≡ position (is_walk_of w.session) ws → set ws at w ≡ with_walk w ws
walk-placed w ws at h =
    let place = placed (is_walk_of w.session) ws at h in
    ap (λ (n : ℕ). set ws n w) (sym place.0) ∙ with-set w ws (subst (λ (n : ℕ). n < length ws) (sym place.0) place.1)

pub walk-unplaced : (w : WalkState) (ws : List WalkState) → None ≡ position (is_walk_of w.session) ws → ws ++ w ∷ [] ≡ with_walk w ws
walk-unplaced w ws h = with-push w ws (unplaced (is_walk_of w.session) ws h)

-- the walk that is found has the session
pub found-session : (ws : List WalkState) (session : ℕ) (w : WalkState) → walk_under ws session ≡ Some w → w.session ≡ session
found-session [] session w h = absurd cc
found-session (x ∷ ws) session w h = go (is_walk_of session x) refl h (found-session ws session w)
  where
    equal : (a b : ℕ) → (a == b) ≡ true → a ≡ b
    equal a b h = grind (arith, nat_tests, h)

    go : (b : Bool) → is_walk_of session x ≡ b → cond b (Some x) (walk_under ws session) ≡ Some w → (walk_under ws session ≡ Some w → w.session ≡ session) → w.session ≡ session
    go true at h rest = let same : x ≡ w = cc in ap (λ (y : WalkState). y.session) (sym same) ∙ equal x.session session at
    go false at h rest = rest h

pub of-session : (ws : List WalkState) (st : StatusRow) → (walk_of ws st).session ≡ st.session
of-session ws st = go (walk_under ws st.session) refl
  where
    go : (o : Option WalkState) → walk_under ws st.session ≡ o → (or_new_walk o st).session ≡ st.session
    go None is = refl
    go (Some w) is = found-session ws st.session w is

-- the walk of a status that is found, and one that is new

pub walk-found : (ws : List WalkState) (st : StatusRow) (w : WalkState) → Some w ≡ walk_under ws st.session → w ≡ walk_of ws st
walk-found ws st w h = ap (λ (o : Option WalkState). or_new_walk o st) h

pub walk-new : (ws : List WalkState) (st : StatusRow) → None ≡ walk_under ws st.session → new_walk st ≡ walk_of ws st
walk-new ws st h = ap (λ (o : Option WalkState). or_new_walk o st) h
