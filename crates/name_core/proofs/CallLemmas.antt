-- Calls over a disk, from their steps.
use Rattle.std.proofs.Common.{◌≡◌, inl, inr, ℕ, ◌+◌, Bool, true, false, List, [], ◌∷◌, ◌++◌, Option, None, Some, is_some, refl, ap, sym, ◌∙◌, subst, arith}
use Rattle.std.specs.Prelude.{Result, Ok, Err}
use Rattle.std.proofs.lemmas.List.{append-nil}
use Rattle.hk_base.specs.Disk.{DiskState}
use Rattle.hk_base.specs.Faults.{Rose}
use Rattle.hk_base.specs.declared.names.Edek.{Edek}
use Rattle.frame_log.specs.declared.fault.StoreRefusal.{StoreRefusal}
use Rattle.frame_log.specs.declared.fault.StoreRefusal.TheVariants as store
use Rattle.edit_ops.specs.declared.ops.EditOp.{EditOp}
use Rattle.edit_ops.specs.declared.ops.EditOp.TheVariants as op
use Rattle.kms_calls.specs.declared.calls.KmsRefusal.{KmsRefusal}
use Rattle.name_store.specs.Store.{NothingMore}
use Rattle.name_store.specs.Table.{settled_ops}
use Rattle.name_core.specs.declared.asks.OpenAsk.{OpenAsk}
use Rattle.name_calls.specs.declared.calls.KeyAnswer.{KeyAnswer}
use Rattle.name_calls.specs.declared.calls.KeyAnswer.TheVariants as answer
use Rattle.name_calls.specs.declared.calls.NameCall.{NameCall}
use Rattle.name_calls.specs.declared.calls.NameCall.TheVariants as call
use Rattle.name_calls.specs.declared.calls.NameReply.{NameReply}
use Rattle.name_calls.specs.declared.calls.NameReply.TheVariants as reply
use Rattle.name_calls.specs.declared.calls.NameRefusal.{NameRefusal}
use Rattle.name_calls.specs.declared.calls.NameRefusal.TheVariants as refusal
use Rattle.name_core.specs.State.{NameService, NameState, RunningNames, names_of, next_id, service_of, settled}
use Rattle.name_core.specs.Calls.{Deed, NameActs, NoRoom, Plain, causes, deed, done_with, early_causes, first_cause, ids_used, only_answer, only_logs, takes_memory, unless_refused}
use Rattle.name_core.specs.Reads.{answer_unless}
use Rattle.name_core.specs.Asks.{Finishes, ask_gone, closed, finish_causes, finish_op, finished, open_ask, unless_stopped, without}
use Rattle.name_core.specs.Service.{NameActsOnDisk, Changes, Concludes, FinishActs, FinishServesAt, Logs, OwnOf, OwnOfFinish, ServesUnless, ServesBy, acknowledged, is_change}
use Rattle.name_core.specs.Steps.{ActsOn, ActsSettled, Answers, FinishesSettled, Growing, IsUnsettled, Leaving, Logging, OwnChange, OwnFinish, Settling, Writes, finish_answer, answer_of_store}
use Rattle.name_core.specs.Walks.{session_at}
use Rattle.name_core.proofs.AskLemmas.{open-id}
use Rattle.name_core.proofs.LoggingLemmas.{behind-settling, closing, logging-growing, logging-leaving, rose_since, unchanged}

logs-of : (old new : DiskState) (r t : RunningNames) (own : Bool → EditOp → Type 0) (logged : List EditOp) → Logging old new r t (Leaving r own) logged → Logs old new r t own logged
logs-of old new r t own logged l = record { stands = l.stands; moments = l.moments; run = l.run }

-- calls

-- a call that is refused before anything is settled
pub acts-early : (d : DiskState) (r : RunningNames) (user : List ℕ) (c : NameCall) (why : NameRefusal) → first_cause (early_causes user c) ≡ Some why → NameActsOnDisk d d r user c (reply.Refused why) r
acts-early d r user c why is = record {
  logged = [];
  serves = subst (λ (o : Option NameRefusal). ServesUnless o (service_of r) c (Rose d.faults d.faults) (reply.Refused why) [] (service_of r)) (sym is)
      (record { reply_is = refl; none_logged = refl; same = refl });
  disk = logs-of d d r r (OwnOf (service_of r) c (reply.Refused why) (service_of r)) [] (unchanged d r (Leaving r (OwnOf (service_of r) c (reply.Refused why) (service_of r))));
}

-- a call that changes nothing
pub acts-reading : (d : DiskState) (r : RunningNames) (user : List ℕ) (c : NameCall) (outcome : NameReply) → first_cause (early_causes user c) ≡ None → is_change c ≡ false
    → NameActs (names_of r) c outcome (names_of r) → NameActsOnDisk d d r user c outcome r
acts-reading d r user c outcome early reads acts = record {
  logged = [];
  serves = subst (λ (o : Option NameRefusal). ServesUnless o (service_of r) c (Rose d.faults d.faults) outcome [] (service_of r)) (sym early)
      (subst (λ (b : Bool). ServesBy b (service_of r) c (Rose d.faults d.faults) outcome [] (service_of r)) (sym reads) (record { acts = acts; none_logged = refl; same = refl }));
  disk = logs-of d d r r (OwnOf (service_of r) c outcome (service_of r)) [] (unchanged d r (Leaving r (OwnOf (service_of r) c outcome (service_of r))));
}

-- a change
pub acts-changing : (old new : DiskState) (r t : RunningNames) (user : List ℕ) (c : NameCall) (outcome : NameReply) → first_cause (early_causes user c) ≡ None → is_change c ≡ true
    → ActsOn old new r c outcome t → NameActsOnDisk old new r user c outcome t
acts-changing old new r t user c outcome early change a = record {
  logged = a.logged;
  serves = subst (λ (o : Option NameRefusal). ServesUnless o (service_of r) c (Rose old.faults new.faults) outcome a.logged (service_of t)) (sym early)
      (subst (λ (b : Bool). ServesBy b (service_of r) c (Rose old.faults new.faults) outcome a.logged (service_of t)) (sym change) a.serves);
  disk = logs-of old new r t (OwnOf (service_of r) c outcome (service_of t)) a.logged a.disk;
}

-- a change whose pending operation was settled first
pub acts-settled : (old mid new : DiskState) (r s t : RunningNames) (c : NameCall) (outcome : NameReply) → Settling old mid r s → ActsSettled mid new s c outcome t → ActsOn old new r c outcome t
acts-settled old mid new r s t c outcome a b = record {
  logged = before ++ b.logged;
  serves = inr (a.kept, behind b.changes);
  disk = behind-settling old mid new r s t a.kept (OwnOf (service_of r) c outcome (service_of t)) (OwnChange (names_of s) c outcome (service_of t)) b.logged own a.disk b.disk;
}
  where
    before : List EditOp
    before = settled_ops a.kept r.store.log.pending

    names_are : names_of s ≡ settled a.kept (service_of r)
    names_are = ap (λ (x : NameService). x.names) a.service

    own : (o : EditOp) → OwnChange (names_of s) c outcome (service_of t) o → OwnOf (service_of r) c outcome (service_of t) a.kept o
    own o h = record {
      free = ap (λ (n : NameState). first_cause (causes n c)) (sym names_are) ∙ h.0;
      is = ap (λ (n : NameState). (deed n c).logs) (sym names_are) ∙ h.1;
      was_written = h.2;
    }

    behind : Changes (names_of s) [] c (Rose mid.faults new.faults) outcome b.logged (service_of t)
        → Changes (settled a.kept (service_of r)) before c (Rose old.faults new.faults) outcome (before ++ b.logged) (service_of t)
    behind (inl w) = inl (record {
      changed = w.changed;
      acts = subst (λ (n : NameState). NameActs n c outcome w.changed) names_are w.acts;
      logged_is = ap (λ (l : List EditOp). before ++ l) (w.logged_is ∙ ap (λ (n : NameState). acknowledged outcome (deed n c).logs) names_are);
      left = w.left;
    })
    behind (inr u) = inr (record {
      failed = rose_since old.faults mid.faults new.faults a.disk.run.faults u.failed;
      free = ap (λ (n : NameState). first_cause (causes n c)) (sym names_are) ∙ u.free;
      reply_is = u.reply_is;
      logged_is = ap (λ (l : List EditOp). before ++ l) u.logged_is ∙ append-nil before;
      left = u.left ∙ ap (λ (n : NameState). record { names = (deed n c).state; pending = (deed n c).logs }) names_are;
    })

-- a change whose pending operation could not be settled
pub acts-unsettled : (old new : DiskState) (r t : RunningNames) (c : NameCall) → IsUnsettled old new r t → ActsOn old new r c (reply.Refused refusal.StoreFault) t
acts-unsettled old new r t c u = record {
  logged = [];
  serves = inl (record { waits = u.waits; failed = u.failed; reply_is = refl; none_logged = refl; same = ap service_of u.same });
  disk = logging-leaving old new r t NothingMore (OwnOf (service_of r) c (reply.Refused refusal.StoreFault) (service_of t)) [] (λ kept o never. absurd never) u.disk;
}

-- a change that is refused while nothing is pending
pub settled-refused : (d : DiskState) (r : RunningNames) (c : NameCall) (why : NameRefusal) → r.store.log.pending ≡ None → first_cause (causes (names_of r) c) ≡ Some why
    → ActsSettled d d r c (reply.Refused why) r
settled-refused d r c why none is = record {
  logged = [];
  changes = inl (record {
    changed = names_of r;
    acts = (Plain, tt, ap (λ (o : Option NameRefusal). unless_refused o (names_of r) (deed (names_of r) c)) (sym is));
    logged_is = refl;
    left = λ i. record { names = names_of r; pending = none i };
  });
  disk = unchanged d r (Growing r (OwnChange (names_of r) c (reply.Refused why) (service_of r)));
}

abbrev pub done_deed : EditOp → NameState → Deed
done_deed o left = record { answer = reply.Done; logs = Some o; state = left }

-- a change without a cause of refusal, whose operation had to be written
pub settled-written : (old new : DiskState) (r t : RunningNames) (c : NameCall) (o : EditOp) (left : NameState) (result : Result (Unit {0}) StoreRefusal)
    → takes_memory (names_of r) c ≡ true → first_cause (causes (names_of r) c) ≡ None → deed (names_of r) c ≡ done_deed o left → Writes old new r left o result t
    → ActsSettled old new r c (answer_of_store result) t
settled-written old new r t c o left result takes free is w = go result w
  where
    s : NameState
    s = names_of r

    logs : (x : EditOp) → x ≡ o → (deed s c).logs ≡ Some x
    logs x same = ap (λ (d : Deed). d.logs) is ∙ ap Some (sym same)

    go : (result : Result (Unit {0}) StoreRefusal) → Writes old new r left o result t → ActsSettled old new r c (answer_of_store result) t
    go (Ok done) w = record {
      logged = o ∷ [];
      changes = inl (record {
        changed = done_with (Some o) left;
        acts = (Plain, tt, λ i. unless_refused (sym free i) s (sym is i));
        logged_is = ap (λ (d : Deed). acknowledged reply.Done d.logs) (sym is);
        left = w.service;
      });
      disk = logging-growing old new r t (λ x. x ≡ o) (OwnChange s c reply.Done (service_of t)) (o ∷ []) (λ x same. (free, logs x same, inl refl)) w.disk;
    }
    go (Err store.NoMemory) w = record {
      logged = [];
      changes = inl (record { changed = s; acts = (NoRoom, (takes, free), refl); logged_is = refl; left = w.service });
      disk = logging-growing old new r t (λ x. ⊥) (OwnChange s c (reply.Refused refusal.NoMemory) (service_of t)) [] (λ x never. absurd never) w.disk;
    }
    go (Err store.StoreFault) w = record {
      logged = [];
      changes = inr (record {
        failed = w.failed;
        free = free;
        reply_is = refl;
        logged_is = refl;
        left = w.service ∙ ap (λ (d : Deed). record { names = d.state; pending = d.logs }) (sym is);
      });
      disk = logging-growing old new r t (λ x. x ≡ o) (OwnChange s c (reply.Refused refusal.StoreFault) (service_of t)) []
          (λ x same. (free, logs x same, inr (ap (λ (y : NameService). y.pending) w.service ∙ ap Some (sym same)))) w.disk;
    }

same-counter : (s : NameState) (o : EditOp) → only_logs s o ≡ done_deed o (record s { next = s.next + 0 })
same-counter s o = let plus : s.next ≡ s.next + 0 = omega arith in λ i. done_deed o (record s { next = plus i })

-- what a change does, by its operation and the number of ids that it uses
pub deed-is : (s : NameState) (c : NameCall) (o : EditOp) → (deed s c).logs ≡ Some o → deed s c ≡ done_deed o (record s { next = s.next + ids_used c })
deed-is s (call.Mkdir p) o is = let same : op.Mkdir (next_id s) p ≡ o = cc in ap (λ (x : EditOp). done_deed x (record s { next = s.next + 1 })) same
deed-is s (call.Delete p recursive) o is = let same : op.Remove p ≡ o = cc in ap (only_logs s) same ∙ same-counter s o
deed-is s (call.Rename p q) o is = let same : op.Rename p q ≡ o = cc in ap (only_logs s) same ∙ same-counter s o
deed-is s (call.Allow p) o is = let same : op.Allow p ≡ o = cc in ap (only_logs s) same ∙ same-counter s o
deed-is s (call.Disallow p) o is = let same : op.Disallow p ≡ o = cc in ap (only_logs s) same ∙ same-counter s o
deed-is s (call.Snap p name) o is = let same : op.Snap p name ≡ o = cc in ap (only_logs s) same ∙ same-counter s o
deed-is s (call.Unsnap p name) o is = let same : op.Unsnap p name ≡ o = cc in ap (only_logs s) same ∙ same-counter s o
deed-is s (call.Cancel p) o is = let same : op.Cancel (session_at s.table p) ≡ o = cc in ap (only_logs s) same ∙ same-counter s o
deed-is s (call.Status p) o is = absurd cc
deed-is s (call.Info r) o is = absurd cc
deed-is s (call.List r) o is = absurd cc
deed-is s call.Zones o is = absurd cc

-- each change takes memory
pub takes-memory : (s : NameState) (c : NameCall) → is_change c ≡ true → takes_memory s c ≡ true
takes-memory s (call.Mkdir p) h = refl
takes-memory s (call.Delete p recursive) h = refl
takes-memory s (call.Rename p q) h = refl
takes-memory s (call.Allow p) h = refl
takes-memory s (call.Disallow p) h = refl
takes-memory s (call.Snap p name) h = refl
takes-memory s (call.Unsnap p name) h = refl
takes-memory s (call.Cancel p) h = refl
takes-memory s (call.Status p) h = refl
takes-memory s (call.Info r) h = absurd cc
takes-memory s (call.List r) h = refl
takes-memory s call.Zones h = refl

-- reads

answered : (s : NameState) (o : Option NameRefusal) (answer : NameReply) → unless_refused o s (only_answer s answer) ≡ record { reply = answer_unless o answer; state = s }
answered s (Some why) answer = refl
answered s None answer = refl

-- a call that only answers
pub read-acts : (s : NameState) (c : NameCall) (answer outcome : NameReply) → deed s c ≡ only_answer s answer → Answers (takes_memory s c) (causes s c) answer outcome → NameActs s c outcome s
read-acts s c answer outcome is (inl said) =
    (Plain, tt, ap (λ (t : NameReply). record { reply = t; state = s }) said ∙ sym (answered s (first_cause (causes s c)) answer) ∙ ap (unless_refused (first_cause (causes s c)) s) (sym is))
read-acts s c answer outcome is (inr wanting) = (NoRoom, (wanting.1, wanting.2), ap (λ (t : NameReply). record { reply = t; state = s }) wanting.0)

-- finishes

-- no ask is open
pub finish-gone : (d : DiskState) (r : RunningNames) (id : ℕ) (given : KeyAnswer) → open_ask r.asks id ≡ None → FinishActs d d r id given (Err (ask_gone (names_of r))) r
finish-gone d r id given none = record {
  logged = [];
  serves = subst (λ (o : Option OpenAsk). FinishServesAt (service_of r) o given (Rose d.faults d.faults) (Err (ask_gone (names_of r))) [] (service_of r)) (sym none)
      (record { reply_is = refl; none_logged = refl; left_is = refl });
  disk = logs-of d d r r (OwnOfFinish (service_of r) id given (Err (ask_gone (names_of r))) (service_of r)) [] (unchanged d r (Leaving r (OwnOfFinish (service_of r) id given (Err (ask_gone (names_of r))) (service_of r))));
}

closed-is : (r t : RunningNames) (id : ℕ) (a : OpenAsk) → open_ask r.asks id ≡ Some a → t ≡ record r { asks = without r.asks id }
    → service_of t ≡ record { names = closed (names_of r) a.id; pending = r.store.log.pending }
closed-is r t id a stands is =
    ap service_of is ∙ ap (λ (i : ℕ). record { names = closed (names_of r) i; pending = r.store.log.pending }) (sym (open-id r.asks id a stands))

-- the call that the ask wanted was refused
pub finish-given-up : (d : DiskState) (r t : RunningNames) (id : ℕ) (a : OpenAsk) (why : KmsRefusal) → open_ask r.asks id ≡ Some a → t ≡ record r { asks = without r.asks id }
    → FinishActs d d r id (answer.Refused why) (Err (refusal.KeyRefused why)) t
finish-given-up d r t id a why stands is = record {
  logged = [];
  serves = subst (λ (o : Option OpenAsk). FinishServesAt (service_of r) o (answer.Refused why) (Rose d.faults d.faults) (Err (refusal.KeyRefused why)) [] (service_of t)) (sym stands)
      (record { reply_is = refl; none_logged = refl; left_is = closed-is r t id a stands is });
  disk = logs-of d d r t (OwnOfFinish (service_of r) id (answer.Refused why) (Err (refusal.KeyRefused why)) (service_of t)) []
      (closing d d r r t id (Leaving r (OwnOfFinish (service_of r) id (answer.Refused why) (Err (refusal.KeyRefused why)) (service_of t))) [] is (unchanged d r (Leaving r (OwnOfFinish (service_of r) id (answer.Refused why) (Err (refusal.KeyRefused why)) (service_of t)))));
}

-- the pending operation could not be settled
pub finish-unsettled : (old new : DiskState) (r s t : RunningNames) (id : ℕ) (a : OpenAsk) (edek : Option Edek) → open_ask r.asks id ≡ Some a → IsUnsettled old new r s
    → t ≡ record s { asks = without s.asks id } → FinishActs old new r id (answer.Given edek) (Err refusal.StoreFault) t
finish-unsettled old new r s t id a edek stands u is = record {
  logged = [];
  serves = subst (λ (o : Option OpenAsk). FinishServesAt (service_of r) o (answer.Given edek) (Rose old.faults new.faults) (Err refusal.StoreFault) [] (service_of t)) (sym stands)
      (inl (record {
        waits = u.waits;
        failed = u.failed;
        ends = record { reply_is = refl; none_logged = refl; left_is = closed-is r t id a stands (is ∙ ap (λ (x : RunningNames). record x { asks = without x.asks id }) u.same) };
      }));
  disk = logs-of old new r t (OwnOfFinish (service_of r) id (answer.Given edek) (Err refusal.StoreFault) (service_of t)) []
      (closing old new r s t id (Leaving r (OwnOfFinish (service_of r) id (answer.Given edek) (Err refusal.StoreFault) (service_of t))) [] is
      (logging-leaving old new r s NothingMore (OwnOfFinish (service_of r) id (answer.Given edek) (Err refusal.StoreFault) (service_of t)) [] (λ kept o never. absurd never) u.disk));
}

-- the pending operation was settled first
pub finish-behind : (old mid new : DiskState) (r s t : RunningNames) (id : ℕ) (a : OpenAsk) (edek : Option Edek) (outcome : Result (Unit {0}) NameRefusal) → open_ask r.asks id ≡ Some a
    → Settling old mid r s → FinishesSettled mid new s a edek outcome t → FinishActs old new r id (answer.Given edek) outcome t
finish-behind old mid new r s t id a edek outcome stands k b = record {
  logged = before ++ b.logged;
  serves = subst (λ (o : Option OpenAsk). FinishServesAt (service_of r) o (answer.Given edek) (Rose old.faults new.faults) outcome (before ++ b.logged) (service_of t)) (sym stands)
      (inr (k.kept, behind b.concludes));
  disk = logs-of old new r t (OwnOfFinish (service_of r) id (answer.Given edek) outcome (service_of t)) (before ++ b.logged)
      (behind-settling old mid new r s t k.kept (OwnOfFinish (service_of r) id (answer.Given edek) outcome (service_of t)) (OwnFinish (names_of s) a edek outcome (service_of t)) b.logged own k.disk b.disk);
}
  where
    before : List EditOp
    before = settled_ops k.kept r.store.log.pending

    names_are : names_of s ≡ settled k.kept (service_of r)
    names_are = ap (λ (x : NameService). x.names) k.service

    own : (o : EditOp) → OwnFinish (names_of s) a edek outcome (service_of t) o → OwnOfFinish (service_of r) id (answer.Given edek) outcome (service_of t) k.kept o
    own o h = record {
      ask = a;
      edek = edek;
      was_open = stands;
      gave = refl;
      free = ap (λ (n : NameState). first_cause (finish_causes n.table.rows n.table.statuses a edek a.ask)) (sym names_are) ∙ h.0;
      is = h.1;
      was_written = h.2;
    }

    behind : Concludes (names_of s) [] a edek (Rose mid.faults new.faults) outcome b.logged (service_of t)
        → Concludes (settled k.kept (service_of r)) before a edek (Rose old.faults new.faults) outcome (before ++ b.logged) (service_of t)
    behind (inl w) = inl (record {
      changed = w.changed;
      finishes = subst (λ (n : NameState). Finishes n a edek outcome w.changed) names_are w.finishes;
      logged_is = ap (λ (l : List EditOp). before ++ l) w.logged_is;
      left = w.left;
    })
    behind (inr u) = inr (record {
      failed = rose_since old.faults mid.faults new.faults k.disk.run.faults u.failed;
      free = ap (λ (n : NameState). first_cause (finish_causes n.table.rows n.table.statuses a edek a.ask)) (sym names_are) ∙ u.free;
      reply_is = u.reply_is;
      logged_is = ap (λ (l : List EditOp). before ++ l) u.logged_is ∙ append-nil before;
      left = u.left ∙ ap (λ (n : NameState). record { names = closed n a.id; pending = Some (finish_op a.id edek a.ask) }) names_are;
    })

-- a finish that is refused while nothing is pending
pub finish-refused : (d : DiskState) (r t : RunningNames) (id : ℕ) (a : OpenAsk) (edek : Option Edek) (why : NameRefusal) → open_ask r.asks id ≡ Some a → r.store.log.pending ≡ None
    → first_cause (finish_causes r.store.table.rows r.store.table.statuses a edek a.ask) ≡ Some why → t ≡ record r { asks = without r.asks id } → FinishesSettled d d r a edek (Err why) t
finish-refused d r t id a edek why stands none stops is = record {
  logged = [];
  concludes = inl (record {
    changed = closed (names_of r) a.id;
    finishes = (Plain, tt, ap (λ (o : Option NameRefusal). unless_stopped o (names_of r) a edek) (sym stops));
    logged_is = refl;
    left = closed-is r t id a stands is ∙ (λ i. record { names = closed (names_of r) a.id; pending = none i });
  });
  disk = closing d d r r t id (Growing r (OwnFinish (names_of r) a edek (Err why) (service_of t))) [] is (unchanged d r (Growing r (OwnFinish (names_of r) a edek (Err why) (service_of t))));
}

-- memory ran out for its operation
pub finish-wanting : (d : DiskState) (r : RunningNames) (a : OpenAsk) (edek : Option Edek) → r.store.log.pending ≡ None → first_cause (finish_causes r.store.table.rows r.store.table.statuses a edek a.ask) ≡ None
    → FinishesSettled d d r a edek (Err refusal.NoMemory) r
finish-wanting d r a edek none free = record {
  logged = [];
  concludes = inl (record { changed = names_of r; finishes = (NoRoom, free, refl); logged_is = refl; left = λ i. record { names = names_of r; pending = none i } });
  disk = unchanged d r (Growing r (OwnFinish (names_of r) a edek (Err refusal.NoMemory) (service_of r)));
}

-- a finish that nothing stops, whose operation had to be written
pub finish-written : (old new : DiskState) (r t : RunningNames) (id : ℕ) (a : OpenAsk) (edek : Option Edek) (result : Result (Unit {0}) StoreRefusal) → open_ask r.asks id ≡ Some a
    → first_cause (finish_causes r.store.table.rows r.store.table.statuses a edek a.ask) ≡ None → Writes old new r (closed (names_of r) id) (finish_op a.id edek a.ask) result t
    → FinishesSettled old new r a edek (finish_answer result) t
finish-written old new r t id a edek result stands free w = go result w
  where
    s : NameState
    s = names_of r

    o : EditOp
    o = finish_op a.id edek a.ask

    same : closed s id ≡ closed s a.id
    same = ap (closed s) (sym (open-id r.asks id a stands))

    go : (result : Result (Unit {0}) StoreRefusal) → Writes old new r (closed s id) o result t → FinishesSettled old new r a edek (finish_answer result) t
    go (Ok done) w = record {
      logged = o ∷ [];
      concludes = inl (record {
        changed = finished s a edek;
        finishes = (Plain, tt, ap (λ (q : Option NameRefusal). unless_stopped q s a edek) (sym free));
        logged_is = refl;
        left = w.service ∙ ap (λ (n : NameState). record { names = done_with (Some o) n; pending = None }) same;
      });
      disk = logging-growing old new r t (λ x. x ≡ o) (OwnFinish s a edek (Ok tt) (service_of t)) (o ∷ []) (λ x is. (free, is, inl refl)) w.disk;
    }
    go (Err store.NoMemory) w = record {
      logged = [];
      concludes = inl (record { changed = s; finishes = (NoRoom, free, refl); logged_is = refl; left = w.service });
      disk = logging-growing old new r t (λ x. ⊥) (OwnFinish s a edek (Err refusal.NoMemory) (service_of t)) [] (λ x never. absurd never) w.disk;
    }
    go (Err store.StoreFault) w = record {
      logged = [];
      concludes = inr (record { failed = w.failed; free = free; reply_is = refl; logged_is = refl; left = w.service ∙ ap (λ (n : NameState). record { names = n; pending = Some o }) same });
      disk = logging-growing old new r t (λ x. x ≡ o) (OwnFinish s a edek (Err refusal.StoreFault) (service_of t)) []
          (λ x is. (free, is, inr (ap (λ (y : NameService). y.pending) w.service ∙ ap Some (sym is)))) w.disk;
    }

-- the open ask

abbrev pub IsOpen : List OpenAsk → ℕ → Type 0
IsOpen asks id = (a : OpenAsk) × (open_ask asks id ≡ Some a)

pub is-open : (asks : List OpenAsk) (id : ℕ) → is_some (open_ask asks id) ≡ true → IsOpen asks id
is-open asks id h = go (open_ask asks id) refl h
  where
    go : (o : Option OpenAsk) → open_ask asks id ≡ o → is_some o ≡ true → IsOpen asks id
    go None is h = absurd cc
    go (Some a) is h = (a, is)

pub not-open : (asks : List OpenAsk) (id : ℕ) → is_some (open_ask asks id) ≡ false → open_ask asks id ≡ None
not-open asks id h = go (open_ask asks id) h
  where
    go : (o : Option OpenAsk) → is_some o ≡ false → o ≡ None
    go None h = refl
    go (Some a) h = absurd cc

pub finish-failed : (old new : DiskState) (r s t : RunningNames) (id : ℕ) (edek : Option Edek) → is_some (open_ask r.asks id) ≡ true → IsUnsettled old new r s
    → t ≡ record s { asks = without s.asks id } → FinishActs old new r id (answer.Given edek) (Err refusal.StoreFault) t
finish-failed old new r s t id edek found u is = let a = is-open r.asks id found in finish-unsettled old new r s t id a.0 edek a.1 u is

pub finish-concluded : (old mid new : DiskState) (r s t : RunningNames) (id : ℕ) (edek : Option Edek) (outcome : Result (Unit {0}) NameRefusal) → is_some (open_ask r.asks id) ≡ true
    → Settling old mid r s → ((a : OpenAsk) → open_ask s.asks id ≡ Some a → FinishesSettled mid new s a edek outcome t) → FinishActs old new r id (answer.Given edek) outcome t
finish-concluded old mid new r s t id edek outcome found k b =
    let a = is-open r.asks id found in
    let asks : s.asks ≡ r.asks = ap (λ (x : NameService). x.names.asks) k.service in
    finish-behind old mid new r s t id a.0 edek outcome a.1 k (b a.0 (ap (λ (l : List OpenAsk). open_ask l id) asks ∙ a.1))

pub finish-refused-call : (d : DiskState) (r t : RunningNames) (id : ℕ) (why : KmsRefusal) → is_some (open_ask r.asks id) ≡ true → t ≡ record r { asks = without r.asks id }
    → FinishActs d d r id (answer.Refused why) (Err (refusal.KeyRefused why)) t
finish-refused-call d r t id why found is = let a = is-open r.asks id found in finish-given-up d r t id a.0 why a.1 is

-- asks
