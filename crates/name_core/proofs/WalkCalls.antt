-- Walks over a disk, from their steps.
use Rattle.std.proofs.Common.{◌≡◌, ◌≢◌, inl, inr, ℕ, zero, suc, ◌+◌, ◌<◌, ◌≤◌, Bool, true, false, cond, List, [], ◌∷◌, ◌++◌, length, set, get_or, Option, None, Some, is_some, refl, ap, sym, ◌∙◌, subst, arith}
use Rattle.std.specs.Prelude.{◌==◌, Result, Ok, Err}
use Rattle.std.specs.List.{position}
use Rattle.std.specs.Option.{option_map_or}
use Rattle.std.proofs.lemmas.Bool.Decides.{nat_tests}
use Rattle.std.proofs.lemmas.List.{append-nil}
use Rattle.hk_base.specs.Disk.{DiskState}
use Rattle.hk_base.specs.Faults.{Rose}
use Rattle.frame_log.specs.declared.fault.StoreRefusal.{StoreRefusal}
use Rattle.frame_log.specs.declared.fault.StoreRefusal.TheVariants as store
use Rattle.edit_ops.specs.declared.ops.EditOp.{EditOp}
use Rattle.edit_ops.specs.declared.ops.EditOp.TheVariants as op
use Rattle.inode_tree.specs.Rows.{Entry, IsRows}
use Rattle.name_calls.specs.declared.calls.NameRefusal.{NameRefusal}
use Rattle.name_calls.specs.declared.calls.NameRefusal.TheVariants as refusal
use Rattle.reenc_walk.specs.declared.sent.BatchNote.{BatchNote}
use Rattle.reenc_walk.specs.declared.walker.Walk.{Walk}
use Rattle.reenc_walk.specs.declared.walker.Walk.TheVariants as walk
use Rattle.reenc_walk.specs.Files.{walk_list}
use Rattle.reenc_walk.specs.Walks.{WalkState, Walks, note_of, outstanding, walked}
use Rattle.zone_table.specs.declared.statuses.StatusRow.{StatusRow}
use Rattle.zone_table.specs.Statuses.{status_of}
use Rattle.name_store.specs.Causes.{first_cause, id_at}
use Rattle.name_store.specs.Store.{NothingMore}
use Rattle.name_store.specs.Table.{settled_ops}
use Rattle.name_core.specs.declared.walks.Walked.{Walked}
use Rattle.name_core.specs.declared.walks.Walked.TheVariants as result
use Rattle.name_core.specs.State.{NameService, NameState, RunningNames, WalksOnce, names_of, service_of, settled}
use Rattle.name_core.specs.Calls.{NoRoom, Plain, done_with, path_causes}
use Rattle.name_core.specs.Service.{Logs}
use Rattle.name_core.specs.Steps.{BeginsWalk, Growing, IsAtEnd, IsUnsettled, Leaving, Logging, OwnWalk, Settling, Takes, TakesBatch, TakesNext, WalksSettled, Writes, outstanding_under, walk_answer}
use Rattle.name_core.specs.Walking.{NameWalks, OwnOfWalk, WalkActs, WalkGoes, WalkServesUnless, unless_not_walked, walk_logs}
use Rattle.name_core.specs.Walks.{WalkDeed, deed_by_files, deed_by_status, going_on, is_walk_of, new_walk, none_left, or_new_walk, session_at, status_at, taken, walk_causes, walk_deed, walk_of, walk_under, with_walk}
use Rattle.name_core.proofs.LoggingLemmas.{behind-settling, logging-growing, logging-leaving, rose_since, unchanged, walking}
use Rattle.name_core.proofs.OnceLemmas.{once-walked}
use Rattle.name_core.proofs.WalkLemmas.{GoesOn, of-session, session-is, walk-new, walk-found, walk-placed, walk-unplaced, zone-goes}
use Rattle.zone_table.proofs.StatusLists.{found-at, found-none, placed}

pub logs-of : (old new : DiskState) (r t : RunningNames) (own : Bool → EditOp → Type 0) (logged : List EditOp) → Logging old new r t (Leaving r own) logged → Logs old new r t own logged
logs-of old new r t own logged l = record { stands = l.stands; moments = l.moments; run = l.run }

-- a walk that is refused before anything is settled
pub walk-early : (d : DiskState) (r : RunningNames) (p : List (List ℕ)) (why : NameRefusal) → first_cause (path_causes p) ≡ Some why → WalkActs d d r p (Err why) r
walk-early d r p why is = record {
  logged = [];
  serves = subst (λ (o : Option NameRefusal). WalkServesUnless o (service_of r) p (Rose d.faults d.faults) (Err why) [] (service_of r)) (sym is) (record { reply_is = refl; none_logged = refl; same = refl });
  disk = logs-of d d r r (OwnOfWalk (service_of r) p (Err why) (service_of r)) [] (unchanged d r (Leaving r (OwnOfWalk (service_of r) p (Err why) (service_of r))));
}

-- one whose pending operation could not be settled
pub walk-unsettled : (old new : DiskState) (r t : RunningNames) (p : List (List ℕ)) → first_cause (path_causes p) ≡ None → IsUnsettled old new r t → WalkActs old new r p (Err refusal.StoreFault) t
walk-unsettled old new r t p early u = record {
  logged = [];
  serves = subst (λ (o : Option NameRefusal). WalkServesUnless o (service_of r) p (Rose old.faults new.faults) (Err refusal.StoreFault) [] (service_of t)) (sym early)
      (inl (record { waits = u.waits; failed = u.failed; ends = record { reply_is = refl; none_logged = refl; same = ap service_of u.same } }));
  disk = logs-of old new r t (OwnOfWalk (service_of r) p (Err refusal.StoreFault) (service_of t)) []
      (logging-leaving old new r t NothingMore (OwnOfWalk (service_of r) p (Err refusal.StoreFault) (service_of t)) [] (λ kept o never. absurd never) u.disk);
}

-- one whose pending operation was settled first
pub walk-behind : (old mid new : DiskState) (r s t : RunningNames) (p : List (List ℕ)) (outcome : Result Walked NameRefusal) → first_cause (path_causes p) ≡ None
    → Settling old mid r s → WalksSettled mid new s p outcome t → WalkActs old new r p outcome t
walk-behind old mid new r s t p outcome early a b = record {
  logged = before ++ b.logged;
  serves = subst (λ (o : Option NameRefusal). WalkServesUnless o (service_of r) p (Rose old.faults new.faults) outcome (before ++ b.logged) (service_of t)) (sym early) (inr (a.kept, behind b.goes));
  disk = logs-of old new r t (OwnOfWalk (service_of r) p outcome (service_of t)) (before ++ b.logged)
      (behind-settling old mid new r s t a.kept (OwnOfWalk (service_of r) p outcome (service_of t)) (OwnWalk (names_of s) p outcome (service_of t)) b.logged own a.disk b.disk);
}
  where
    before : List EditOp
    before = settled_ops a.kept r.store.log.pending

    names_are : names_of s ≡ settled a.kept (service_of r)
    names_are = ap (λ (x : NameService). x.names) a.service

    own : (o : EditOp) → OwnWalk (names_of s) p outcome (service_of t) o → OwnOfWalk (service_of r) p outcome (service_of t) a.kept o
    own o h = record {
      free = ap (λ (n : NameState). first_cause (walk_causes n p)) (sym names_are) ∙ h.0;
      is = ap (λ (n : NameState). (walk_deed n p).logs) (sym names_are) ∙ h.1;
      was_written = h.2;
    }

    behind : WalkGoes (names_of s) [] p (Rose mid.faults new.faults) outcome b.logged (service_of t)
        → WalkGoes (settled a.kept (service_of r)) before p (Rose old.faults new.faults) outcome (before ++ b.logged) (service_of t)
    behind (inl w) = inl (record {
      changed = w.changed;
      walks = subst (λ (n : NameState). NameWalks n p outcome w.changed) names_are w.walks;
      logged_is = ap (λ (l : List EditOp). before ++ l) (w.logged_is ∙ ap (λ (n : NameState). walk_logs outcome (walk_deed n p).logs) names_are);
      left = w.left;
    })
    behind (inr u) = inr (record {
      failed = rose_since old.faults mid.faults new.faults a.disk.run.faults u.failed;
      free = ap (λ (n : NameState). first_cause (walk_causes n p)) (sym names_are) ∙ u.free;
      op = u.op;
      writes = ap (λ (n : NameState). (walk_deed n p).logs) (sym names_are) ∙ u.writes;
      reply_is = u.reply_is;
      logged_is = ap (λ (l : List EditOp). before ++ l) u.logged_is ∙ append-nil before;
      left = u.left ∙ ap (λ (n : NameState). record { names = n; pending = Some u.op }) names_are;
    })

-- while nothing is pending

-- a walk that is refused
pub walk-refused : (d : DiskState) (r : RunningNames) (p : List (List ℕ)) (why : NameRefusal) → r.store.log.pending ≡ None → first_cause (walk_causes (names_of r) p) ≡ Some why
    → WalksSettled d d r p (Err why) r
walk-refused d r p why none is = record {
  logged = [];
  goes = inl (record {
    changed = names_of r;
    walks = (Plain, tt, ap (λ (o : Option NameRefusal). unless_not_walked o (names_of r) (walk_deed (names_of r) p)) (sym is));
    logged_is = refl;
    left = λ i. record { names = names_of r; pending = none i };
  });
  disk = unchanged d r (Growing r (OwnWalk (names_of r) p (Err why) (service_of r)));
}

-- memory ran out
pub walk-wanting : (d : DiskState) (r t : RunningNames) (p : List (List ℕ)) → r.store.log.pending ≡ None → first_cause (walk_causes (names_of r) p) ≡ None → t ≡ r
    → WalksSettled d d r p (Err refusal.NoMemory) t
walk-wanting d r t p none free is = subst (λ (x : RunningNames). WalksSettled d d r p (Err refusal.NoMemory) x) (sym is) (record {
  logged = [];
  goes = inl (record { changed = names_of r; walks = (NoRoom, free, refl); logged_is = refl; left = λ i. record { names = names_of r; pending = none i } });
  disk = unchanged d r (Growing r (OwnWalk (names_of r) p (Err refusal.NoMemory) (service_of r)));
})

-- a batch was taken
pub walk-taken : (d : DiskState) (r t : RunningNames) (p : List (List ℕ)) (note : BatchNote) → r.store.log.pending ≡ None → first_cause (walk_causes (names_of r) p) ≡ None
    → Takes r p (walk.Batch note) t → WalksSettled d d r p (Ok (result.Batch note)) t
walk-taken d r t p note none free takes = record {
  logged = [];
  goes = inl (record {
    changed = names_of t;
    walks = (Plain, tt, λ i. unless_not_walked (sym free i) (names_of r) (sym takes.0 i));
    logged_is = ap (λ (w : WalkDeed). walk_logs (Ok (result.Batch note)) w.logs) (sym takes.0);
    left = λ i. record { names = names_of t; pending = (ap (λ (x : RunningNames). x.store.log.pending) takes.1 ∙ none) i };
  });
  disk = walking d r t (Growing r (OwnWalk (names_of r) p (Ok (result.Batch note)) (service_of t))) takes.1;
}

-- no file is left

count-deed : (s : NameState) (session count : ℕ) (b : Bool) → (count == 0) ≡ b
    → none_left s session count ≡ cond b (record { answer = result.Completed; logs = Some (op.Complete session); state = s }) (record { answer = result.NoneLeft count; logs = None; state = s })
count-deed s session count b is =
    ap (λ (c : Bool). cond c (record { answer = result.Completed; logs = Some (op.Complete session); state = s }) (record { answer = result.NoneLeft count; logs = None; state = s })) is

-- batches are outstanding
pub walk-waits : (d : DiskState) (r : RunningNames) (p : List (List ℕ)) (count : ℕ) → r.store.log.pending ≡ None → first_cause (walk_causes (names_of r) p) ≡ None → IsAtEnd (names_of r) p
    → count ≡ outstanding_under r.walks (session_at r.store.table p) → (count == 0) ≡ false → WalksSettled d d r p (Ok (result.NoneLeft count)) r
walk-waits d r p count none free end is some = record {
  logged = [];
  goes = inl (record {
    changed = names_of r;
    walks = (Plain, tt, λ i. unless_not_walked (sym free i) (names_of r) (sym deed_is i));
    logged_is = ap (λ (w : WalkDeed). walk_logs (Ok (result.NoneLeft count)) w.logs) (sym deed_is);
    left = λ i. record { names = names_of r; pending = none i };
  });
  disk = unchanged d r (Growing r (OwnWalk (names_of r) p (Ok (result.NoneLeft count)) (service_of r)));
}
  where
    deed_is : walk_deed (names_of r) p ≡ record { answer = result.NoneLeft count; logs = None; state = names_of r }
    deed_is = end ∙ ap (none_left (names_of r) (session_at r.store.table p)) (sym is) ∙ count-deed (names_of r) (session_at r.store.table p) count false some

-- the session has completed, which had to be written
pub walk-written : (old new : DiskState) (r t : RunningNames) (p : List (List ℕ)) (left : NameState) (written : Result (Unit {0}) StoreRefusal) → first_cause (walk_causes (names_of r) p) ≡ None
    → IsAtEnd (names_of r) p → (outstanding_under r.walks (session_at r.store.table p) == 0) ≡ true → left ≡ names_of r
    → Writes old new r left (op.Complete (session_at r.store.table p)) written t → WalksSettled old new r p (walk_answer written) t
walk-written old new r t p left written free end none same w = go written w
  where
    s : NameState
    s = names_of r

    o : EditOp
    o = op.Complete (session_at r.store.table p)

    deed_is : walk_deed s p ≡ record { answer = result.Completed; logs = Some o; state = s }
    deed_is = end ∙ count-deed s (session_at r.store.table p) (outstanding_under r.walks (session_at r.store.table p)) true none

    logs : (x : EditOp) → x ≡ o → (walk_deed s p).logs ≡ Some x
    logs x is = ap (λ (d : WalkDeed). d.logs) deed_is ∙ ap Some (sym is)

    go : (written : Result (Unit {0}) StoreRefusal) → Writes old new r left o written t → WalksSettled old new r p (walk_answer written) t
    go (Ok done) w = record {
      logged = o ∷ [];
      goes = inl (record {
        changed = done_with (Some o) s;
        walks = (Plain, tt, λ i. unless_not_walked (sym free i) s (sym deed_is i));
        logged_is = ap (λ (d : WalkDeed). walk_logs (Ok result.Completed) d.logs) (sym deed_is);
        left = w.service ∙ ap (λ (n : NameState). record { names = done_with (Some o) n; pending = None }) same;
      });
      disk = logging-growing old new r t (λ x. x ≡ o) (OwnWalk s p (Ok result.Completed) (service_of t)) (o ∷ []) (λ x is. (free, logs x is, inl refl)) w.disk;
    }
    go (Err store.NoMemory) w = record {
      logged = [];
      goes = inl (record { changed = s; walks = (NoRoom, free, refl); logged_is = refl; left = w.service });
      disk = logging-growing old new r t (λ x. ⊥) (OwnWalk s p (Err refusal.NoMemory) (service_of t)) [] (λ x never. absurd never) w.disk;
    }
    go (Err store.StoreFault) w = record {
      logged = [];
      goes = inr (record {
        failed = w.failed;
        free = free;
        op = o;
        writes = logs o refl;
        reply_is = refl;
        logged_is = refl;
        left = w.service ∙ ap (λ (n : NameState). record { names = n; pending = Some o }) same;
      });
      disk = logging-growing old new r t (λ x. x ≡ o) (OwnWalk s p (Err refusal.StoreFault) (service_of t)) []
          (λ x is. (free, logs x is, inr (ap (λ (y : NameService). y.pending) w.service ∙ ap Some (sym is)))) w.disk;
    }

-- the batch that a walk takes

taken-by : (s : NameState) (zone : ℕ) (st : StatusRow) (files : List Entry) → files ≢ [] → deed_by_files s zone st files ≡ taken s zone (walk_of s.walks st)
taken-by s zone st [] some = absurd (some refl)
taken-by s zone st (e ∷ es) some = refl

outstanding-of : (ws : List WalkState) (st : StatusRow) → outstanding (walk_of ws st).batches ≡ outstanding_under ws st.session
outstanding-of ws st = go (walk_under ws st.session)
  where
    go : (o : Option WalkState) → outstanding (or_new_walk o st).batches ≡ option_map_or (λ w. outstanding w.batches) o 0
    go None = refl
    go (Some w) = refl

-- what was taken of the walk of its status is taken of the zone
pub takes-of : (r t : RunningNames) (p : List (List ℕ)) (answer : Walk) (walks : List WalkState) → first_cause (walk_causes (names_of r) p) ≡ None
    → ((st : StatusRow) → status_at r.store.table p ≡ Some st → TakesBatch r.store.table.rows r.store.table.statuses (id_at r.store.table.rows p) r.batch st r.walks answer walks)
    → t ≡ record r { walks = walks } → Takes r p answer t
takes-of r t p answer walks free takes is = go answer (takes st g.found)
  where
    s : NameState
    s = names_of r

    zone : ℕ
    zone = id_at r.store.table.rows p

    g : GoesOn r.store.table p
    g = zone-goes r.store.table p free

    st : StatusRow
    st = g.status

    w : WalkState
    w = walk_of r.walks st

    deed_is : walk_deed s p ≡ deed_by_files s zone st (walk_list r.store.table.rows zone w.cursor)
    deed_is = ap (deed_by_status s zone) g.found

    same : walks ≡ r.walks → t ≡ r
    same h = is ∙ ap (λ (ws : List WalkState). record r { walks = ws }) h

    go : (answer : Walk) → TakesBatch r.store.table.rows r.store.table.statuses zone r.batch st r.walks answer walks → Takes r p answer t
    go (walk.Batch note) h = (
      deed_is ∙ taken-by s zone st (walk_list r.store.table.rows zone w.cursor) h.0
          ∙ (λ i. record { answer = result.Batch (sym h.1 i); logs = None; state = record s { walks = sym h.2 i } })
          ∙ ap (λ (x : RunningNames). record { answer = result.Batch note; logs = None; state = names_of x }) (sym is),
      is ∙ ap (λ (x : RunningNames). record r { walks = x.walks }) (sym is),
    )
    go walk.NoneLeft h = (
      deed_is ∙ ap (deed_by_files s zone st) h.0
          ∙ ap (none_left s st.session) (outstanding-of r.walks st)
          ∙ ap (λ (n : ℕ). none_left s n (outstanding_under r.walks n)) (session-is r.store.table p st g.found),
      same h.1,
    )
    go walk.NoMemory h = same h

-- the same, read from the tree and the statuses
pub takes-read : (r t : RunningNames) (p : List (List ℕ)) (answer : Walk) (rows : List Entry) (statuses : List StatusRow) (zone size : ℕ) (walks : List WalkState) → rows ≡ r.store.table.rows
    → statuses ≡ r.store.table.statuses → zone ≡ id_at rows p → size ≡ r.batch → first_cause (walk_causes (names_of r) p) ≡ None
    → ((st : StatusRow) → status_of statuses zone ≡ Some st → TakesBatch rows statuses zone size st r.walks answer walks) → t ≡ record r { walks = walks } → Takes r p answer t
takes-read r t p answer rows statuses zone size walks rows_are statuses_are zone_is size_is free takes is =
    takes-of r t p answer walks free (λ st found.
    subst (λ (x : List Entry × List StatusRow × ℕ × ℕ). TakesBatch x.0 x.1 x.2 x.3 st r.walks answer walks) (λ i. (rows_are i, statuses_are i, zone_here i, size_is i))
    (takes st ((λ i. status_of (statuses_are i) (zone_here i)) ∙ found)))
    is
  where
    zone_here : zone ≡ id_at r.store.table.rows p
    zone_here = zone_is ∙ ap (λ (es : List Entry). id_at es p) rows_are

some-status : (o : Option StatusRow) (st : StatusRow) → o ≡ Some st → is_some o ≡ true
some-status None st h = absurd cc
some-status (Some x) st h = refl

-- a zone that is being re-encrypted has a status
pub was-submitted : (r : RunningNames) (p : List (List ℕ)) (rows : List Entry) (statuses : List StatusRow) (zone : ℕ) → rows ≡ r.store.table.rows → statuses ≡ r.store.table.statuses
    → zone ≡ id_at rows p → first_cause (walk_causes (names_of r) p) ≡ None → is_some (status_of statuses zone) ≡ true
was-submitted r p rows statuses zone rows_are statuses_are zone_is free =
    let g = zone-goes r.store.table p free in
    (λ i. is_some (status_of (statuses_are i) ((zone_is ∙ ap (λ (es : List Entry). id_at es p) rows_are) i))) ∙ some-status (status_at r.store.table p) g.status g.found

-- no batch has a file twice after it
pub takes-once : (r : RunningNames) (p : List (List ℕ)) (answer : Walk) (rows : List Entry) (statuses : List StatusRow) (zone size : ℕ) (walks : List WalkState) → rows ≡ r.store.table.rows
    → statuses ≡ r.store.table.statuses → zone ≡ id_at rows p → first_cause (walk_causes (names_of r) p) ≡ None → IsRows r.store.table.rows → WalksOnce r.walks
    → ((st : StatusRow) → status_of statuses zone ≡ Some st → TakesBatch rows statuses zone size st r.walks answer walks) → WalksOnce walks
takes-once r p answer rows statuses zone size walks rows_are statuses_are zone_is free good once takes = go answer (takes g.status found)
  where
    g : GoesOn r.store.table p
    g = zone-goes r.store.table p free

    found : status_of statuses zone ≡ Some g.status
    found = (λ i. status_of (statuses_are i) ((zone_is ∙ ap (λ (es : List Entry). id_at es p) rows_are) i)) ∙ g.found

    go : (answer : Walk) → TakesBatch rows statuses zone size g.status r.walks answer walks → WalksOnce walks
    go (walk.Batch note) h = subst WalksOnce (sym h.2) (once-walked rows statuses zone size g.status r.walks (subst IsRows (sym rows_are) good) once)
    go walk.NoneLeft h = subst WalksOnce (sym h.1) once
    go walk.NoMemory h = subst WalksOnce (sym h) once

-- numbers of outstanding batches

pub some-left : (n : ℕ) → 0 < n → (n == 0) ≡ false
some-left n h = grind (arith, nat_tests, h)

pub nothing-left : (n : ℕ) → n ≤ 0 → (n == 0) ≡ true
nothing-left n h = grind (arith, nat_tests, h)

pub walk-left : (d : DiskState) (r : RunningNames) (p : List (List ℕ)) (session count : ℕ) → r.store.log.pending ≡ None → first_cause (walk_causes (names_of r) p) ≡ None → IsAtEnd (names_of r) p
    → session ≡ session_at r.store.table p → count ≡ outstanding_under r.walks session → 0 < count → WalksSettled d d r p (Ok (result.NoneLeft count)) r
walk-left d r p session count none free end session_is count_is some =
    walk-waits d r p count none free end (count_is ∙ ap (outstanding_under r.walks) session_is) (some-left count some)

same-counter : (s : NameState) → record s { next = s.next + 0 } ≡ s
same-counter s = let plus : s.next + 0 ≡ s.next = omega arith in λ i. record s { next = plus i }

pub walk-ended : (old new : DiskState) (r t : RunningNames) (p : List (List ℕ)) (session count : ℕ) (written : Result (Unit {0}) StoreRefusal) → first_cause (walk_causes (names_of r) p) ≡ None
    → IsAtEnd (names_of r) p → session ≡ session_at r.store.table p → count ≡ outstanding_under r.walks session → count ≤ 0
    → Writes old new r (record (names_of r) { next = r.next + 0 }) (op.Complete session) written t → WalksSettled old new r p (walk_answer written) t
walk-ended old new r t p session count written free end session_is count_is none w =
    walk-written old new r t p (record (names_of r) { next = r.next + 0 }) written free end
    (ap (λ (n : ℕ). outstanding_under r.walks n == 0) (sym session_is) ∙ ap (λ (n : ℕ). n == 0) (sym count_is) ∙ nothing-left count none) (same-counter (names_of r))
    (subst (λ (n : ℕ). Writes old new r (record (names_of r) { next = r.next + 0 }) (op.Complete n) written t) session_is w)

-- one list of walks

-- the first batch of a walk is its next one
pub next-new : (rows : List Entry) (zone size : ℕ) (st : StatusRow) (walks : List WalkState) (answer : Walk) (walks' : List WalkState) → None ≡ position (is_walk_of st.session) walks
    → BeginsWalk rows zone size st walks answer walks' → TakesNext rows zone size st walks answer walks'
next-new rows zone size st walks answer walks' none b = go answer b
  where
    is : new_walk st ≡ walk_of walks st
    is = walk-new walks st (found-none (is_walk_of st.session) walks none)

    go : (answer : Walk) → BeginsWalk rows zone size st walks answer walks' → TakesNext rows zone size st walks answer walks'
    go (walk.Batch note) b = (
      subst (λ (w : WalkState). walk_list rows zone w.cursor ≢ []) is b.0,
      b.1 ∙ ap (note_of rows zone size) is,
      b.2 ∙ walk-unplaced (walked rows zone size (new_walk st)) walks none ∙ ap (λ (w : WalkState). with_walk (walked rows zone size w) walks) is,
    )
    go walk.NoneLeft b = (ap (λ (w : WalkState). walk_list rows zone w.cursor) (sym is) ∙ b.0, b.1)
    go walk.NoMemory b = b

set-same : (ws : List WalkState) (at : ℕ) (w : WalkState) → at < length ws → set ws at (get_or ws at w) ≡ ws
set-same [] at w h = absurd (omega arith)
set-same (x ∷ ws) zero w h = refl
set-same (x ∷ ws) (suc at) w h = ap (λ (l : List WalkState). x ∷ l) (set-same ws at w (omega arith))

-- the next batch of a walk in its place
pub next-placed : (rows : List Entry) (zone size : ℕ) (st : StatusRow) (walks : List WalkState) (at : ℕ) (w w' : WalkState) (answer : Walk) (walks' : List WalkState)
    → Some at ≡ position (is_walk_of st.session) walks → w ≡ get_or walks at w → Walks rows zone size w answer w' → walks' ≡ set walks at w' → TakesNext rows zone size st walks answer walks'
next-placed rows zone size st walks at w w' answer walks' place here goes is = go answer goes
  where
    found : w ≡ walk_of walks st
    found = walk-found walks st w (found-at (is_walk_of st.session) walks at w place here)

    same : w' ≡ w → walks' ≡ walks
    same h = is ∙ ap (set walks at) (h ∙ here) ∙ set-same walks at w (placed (is_walk_of st.session) walks at place).1

    go : (answer : Walk) → Walks rows zone size w answer w' → TakesNext rows zone size st walks answer walks'
    go (walk.Batch note) h = (
      subst (λ (x : WalkState). walk_list rows zone x.cursor ≢ []) found h.0,
      h.1 ∙ ap (note_of rows zone size) found,
      is ∙ ap (set walks at) (h.2 ∙ ap (walked rows zone size) found)
          ∙ walk-placed (walked rows zone size (walk_of walks st)) walks at (place ∙ ap (λ (n : ℕ). position (is_walk_of n) walks) (sym (of-session walks st))),
    )
    go walk.NoneLeft h = (ap (λ (x : WalkState). walk_list rows zone x.cursor) (sym found) ∙ h.0, same h.1)
    go walk.NoMemory h = same h

-- and the ended ones are forgotten
pub takes-batch : (rows : List Entry) (statuses : List StatusRow) (zone size : ℕ) (st : StatusRow) (walks : List WalkState) (note : BatchNote) (walks' walks'' : List WalkState)
    → TakesNext rows zone size st walks (walk.Batch note) walks' → walks'' ≡ going_on statuses walks' → TakesBatch rows statuses zone size st walks (walk.Batch note) walks''
takes-batch rows statuses zone size st walks note walks' walks'' h is = (h.0, h.1, is ∙ ap (going_on statuses) h.2)
