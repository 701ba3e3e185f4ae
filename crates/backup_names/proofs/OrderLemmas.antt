-- Changes one after another, and what they leave of the log.
use Rattle.std.proofs.Common.{◌≡◌, inl, inr, ℕ, Bool, List, [], ◌∷◌, ◌++◌, Option, None, refl, sym, ap, ◌∙◌, subst, IsTrue, append_assoc, append-nil, arith}
use Rattle.hk_base.specs.Disk.{DiskState, RunOn, Tells}
use Rattle.hk_base.proofs.Runs.{begin, compose, weaker}
use Rattle.edit_ops.specs.declared.ops.EditOp.{EditOp}
use Rattle.name_store.specs.Table.{next_opening}
use Rattle.name_store.specs.Store.{IsLeftOf, IsLogOf, IsSoundLog, made_with}
use Rattle.name_core.specs.State.{IsNamesystemOf, NameService, RunningNames}
use Rattle.name_core.specs.Service.{Logs, Starts}
use Rattle.name_core.proofs.Layers.{stands_after_ask}
use Rattle.name_calls.specs.declared.calls.Ask.{Ask}
use Rattle.backup_names.specs.Orders.{HoldsNamesystem, IsLeftBy, IsSettled, OnlyAsks, OrdersNames}

tells_on : (old new : DiskState) → new.tells ≡ old.tells → Tells old → Tells new
tells_on old new same telling = subst (λ (b : Bool). IsTrue b) (sym same) telling

stays : (d : DiskState) (r r' : RunningNames) → ((ops : List EditOp) → IsNamesystemOf d r ops → IsNamesystemOf d r' ops) → OrdersNames d d r r'
stays d r r' keeps = record {
  logged = [];
  stands = λ telling ops s. subst (IsNamesystemOf d r') (sym (append-nil ops)) (keeps ops s);
  moments = λ telling ops s. (begin 1 d (IsLeftBy ops [])).moments;
  run = (begin 1 d (IsLeftBy [] [])).run;
}

-- nothing was done
pub no_orders : (d : DiskState) (r : RunningNames) → OrdersNames d d r r
no_orders d r = stays d r r (λ ops s. s)

-- after an ask, whichever disk it is
pub ask_orders : (d : DiskState) (user : List ℕ) (a : Ask) (r r' : RunningNames) → OnlyAsks user a r r' → OrdersNames d d r r'
ask_orders d user a r r' (inl is) = subst (λ (x : RunningNames). OrdersNames d d r x) (sym is) (no_orders d r)
ask_orders d user a r r' (inr (same, answer, asks)) = stays d r r' (λ ops s. stands_after_ask d r r' user a answer ops asks same s)

joined : (old mid new : DiskState) → RunOn 1 old mid → RunOn 1 mid new → RunOn 1 old new
joined old mid new a b = record {
  tells = b.tells ∙ a.tells;
  faults = omega (arith, a.faults, b.faults);
  later = omega (arith, a.later, b.later);
  other_reads = λ telling. b.other_reads (tells_on old mid a.tells telling) ∙ a.other_reads telling;
  other_leaves = λ c. (λ h. (a.other_leaves c).0 ((b.other_leaves c).0 h), λ h. (b.other_leaves c).1 ((a.other_leaves c).1 h));
}

-- one change after another
pub orders_then : (old mid new : DiskState) (r s t : RunningNames) → OrdersNames old mid r s → OrdersNames mid new s t → OrdersNames old new r t
orders_then old mid new r s t a b = record {
  logged = a.logged ++ b.logged;
  stands = λ telling ops x. subst (IsNamesystemOf new t) (append_assoc ops a.logged b.logged) (b.stands (tells_on old mid a.run.tells telling) (ops ++ a.logged) (a.stands telling ops x));
  moments = λ telling ops x. (compose {file = 1} {P = IsLeftBy ops (a.logged ++ b.logged)}
      (record { run = a.run; moments = weaker (λ c left. sooner ops c left) (a.moments telling ops x) })
      (record { run = b.run; moments = b.moments (tells_on old mid a.run.tells telling) (ops ++ a.logged) (a.stands telling ops x) })
      (λ c left. later ops c left)).moments;
  run = joined old mid new a.run b.run;
}
  where
    sooner : (ops : List EditOp) (c : List ℕ) → IsLeftBy ops a.logged c → IsLeftBy ops (a.logged ++ b.logged) c
    sooner ops c left = record {
      front = left.front;
      rest = left.rest ++ b.logged;
      split = sym (append_assoc left.front left.rest b.logged) ∙ ap (λ (l : List EditOp). l ++ b.logged) left.split;
      more = left.more;
      made = left.made;
      log = left.log;
    }

    later : (ops : List EditOp) (c : List ℕ) → IsLeftBy (ops ++ a.logged) b.logged c → IsLeftBy ops (a.logged ++ b.logged) c
    later ops c left = record {
      front = a.logged ++ left.front;
      rest = left.rest;
      split = append_assoc a.logged left.front left.rest ∙ ap (λ (l : List EditOp). a.logged ++ l) left.split;
      more = left.more;
      made = left.made;
      log = subst (λ (l : List EditOp). IsSoundLog c l left.more left.made) (append_assoc ops a.logged left.front) left.log;
    }

-- the log is still that of the namesystem
pub holds_after : (old new : DiskState) (r r' : RunningNames) → HoldsNamesystem old r → OrdersNames old new r r' → HoldsNamesystem new r'
holds_after old new r r' holds o telling =
    let before = subst (λ (b : Bool). IsTrue b) o.run.tells telling in
    let log = holds before in
    (log.0 ++ o.logged, o.stands before log.0 log.1)

-- a call while nothing is pending

pub orders_of_logs : (old new : DiskState) (r r' : RunningNames) (own : Bool → EditOp → Type 0) (logged : List EditOp) → IsSettled r → Logs old new r r' own logged → OrdersNames old new r r'
orders_of_logs old new r r' own logged settled l = record {
  logged = logged;
  stands = l.stands;
  moments = λ telling ops s. weaker (λ c left. go ops s c (subst (λ (o : Option EditOp). IsLeftOf (made_with r.store s.used) o own ops c) settled left)) (l.moments telling ops s);
  run = l.run;
}
  where
    sound : (ops : List EditOp) (s : IsNamesystemOf old r ops) (c : List ℕ) (left : IsLeftOf (made_with r.store s.used) None own ops c) → IsSoundLog c (ops ++ []) left.more (made_with r.store s.used)
    sound ops s c left = subst (λ (l : List EditOp). IsSoundLog c l left.more (made_with r.store s.used)) (sym (append-nil ops)) (record {
      spelled = s.store.log.spelled;
      spelled_more = left.spelled;
      makes = s.store.makes;
      fits = left.fits;
      log = subst (λ (l : List EditOp). IsLogOf l left.more c) (append-nil ops) left.log;
    })

    go : (ops : List EditOp) (s : IsNamesystemOf old r ops) (c : List ℕ) → IsLeftOf (made_with r.store s.used) None own ops c → IsLeftBy ops logged c
    go ops s c left = record { front = []; rest = logged; split = refl; more = left.more; made = made_with r.store s.used; log = sound ops s c left }

-- after a start the log is that of the namesystem, and nothing is pending
pub started_holds : (batch : ℕ) (old new : DiskState) (r : RunningNames) → (Tells new → Tells old) → Starts batch old new r → HoldsNamesystem new r × IsSettled r
started_holds batch old new r told s = (
  λ telling. let log = s.log (told telling) in (log.0 ++ next_opening s.found ∷ [], log.3),
  ap (λ (x : NameService). x.pending) s.opens,
)
