-- What the steps of a call do to the disk, each and together.
use Rattle.std.proofs.Common.{◌≡◌, ◌⊎◌, inl, inr, ℕ, ◌≤◌, ◌&&◌, ◌||◌, Bool, cond, true, false, List, [], ◌∷◌, ◌++◌, Option, None, Some, IfSome, refl, ap, sym, ◌∙◌, subst, arith}
use Rattle.std.specs.Prelude.{◌==◌, IsTrue}
use Rattle.std.proofs.lemmas.List.{append-nil, append_assoc}
use Rattle.hk_base.specs.Disk.{DiskState, LeavesOnly, RunOn, Tells}
use Rattle.hk_base.specs.Faults.{Rose}
use Rattle.hk_base.proofs.Runs.{begin, compose, weaker}
use Rattle.edit_ops.specs.declared.ops.EditOp.{EditOp}
use Rattle.name_store.specs.Replay.{AllBelow, Applies, name_replay}
use Rattle.name_store.specs.Store.{CommitsOperation, IsLeftOf, IsWritten, NothingMore, SettlesNames, made_with}
use Rattle.name_store.specs.Store as store
use Rattle.name_store.specs.Table.{Replayed, after, applies, is_among, is_fresh, kept_op, nothing_logged, settled_log, settled_ops, settled_used, uses}
use Rattle.reenc_walk.specs.declared.sent.Sent.{Sent}
use Rattle.reenc_walk.specs.Walks.{WalkState}
use Rattle.name_core.specs.declared.asks.OpenAsk.{OpenAsk}
use Rattle.name_core.specs.State.{AreFree, NameService, NameState, RunningNames, IsNamesystemOf, names_of, next_id, service_of, settled, settled_walks}
use Rattle.name_core.specs.Asks.{without}
use Rattle.name_core.specs.Steps.{Grows, Growing, IsPendingApart, IsUnsettled, Keeps, Leaving, Logging, MayWrite, Settling, walks_with}
use Rattle.name_core.proofs.AskLemmas.{each-without}
use Rattle.name_core.proofs.KeepLemmas.{below-more, ids-rise, keeps-settled, settled-next}

-- nothing was done to the disk
pub unchanged : (d : DiskState) (r : RunningNames) (P : List ℕ → List EditOp → List ℕ → Type 0) → Logging d d r r P []
unchanged d r P = record {
  stands = λ telling ops s. subst (IsNamesystemOf d r) (sym (append-nil ops)) s;
  moments = λ telling ops s. (begin 1 d (P s.used ops)).moments;
  run = (begin 1 d (λ c. Unit {0})).run;
}

-- a count that rose since a later moment rose since an earlier one
pub rose_since : (a b c : ℕ) → a ≤ b → Rose b c → Rose a c
rose_since a b c le rose = grind (arith, le, rose)

pub tells_on : (old mid : DiskState) → RunOn 1 old mid → Tells old → Tells mid
tells_on old mid run telling = subst (λ b. IsTrue b) (sym run.tells) telling

-- one run after another
joined : (old mid new : DiskState) → RunOn 1 old mid → RunOn 1 mid new → RunOn 1 old new
joined old mid new a b = record {
  tells = b.tells ∙ a.tells;
  faults = omega (arith, a.faults, b.faults);
  later = omega (arith, a.later, b.later);
  other_reads = λ telling. b.other_reads (tells_on old mid a telling) ∙ a.other_reads telling;
  other_leaves = λ c. (λ h. (a.other_leaves c).0 ((b.other_leaves c).0 h), λ h. (b.other_leaves c).1 ((a.other_leaves c).1 h));
}

if-some : (P Q : EditOp → Type 0) → ((o : EditOp) → P o → Q o) → (more : Option EditOp) → IfSome more P → IfSome more Q
if-some P Q f None h = tt
if-some P Q f (Some o) h = f o h

-- the same log is left if more operations may be written
pub leaving-more : (made : Replayed) (pending : Option EditOp) (own own' : Bool → EditOp → Type 0) (ops : List EditOp) (bytes : List ℕ) → ((kept : Bool) (o : EditOp) → own kept o → own' kept o)
    → IsLeftOf made pending own ops bytes → IsLeftOf made pending own' ops bytes
leaving-more made pending own own' ops bytes f l = record {
  kept = l.kept;
  more = l.more;
  more_is = if-some _ (λ (o : EditOp). ((l.kept ≡ false) × (pending ≡ Some o)) ⊎ own' l.kept o) either l.more l.more_is;
  fits = l.fits;
  spelled = l.spelled;
  log = l.log;
}
  where
    either : (o : EditOp) → ((l.kept ≡ false) × (pending ≡ Some o)) ⊎ own l.kept o → ((l.kept ≡ false) × (pending ≡ Some o)) ⊎ own' l.kept o
    either o (inl h) = inl h
    either o (inr h) = inr (f l.kept o h)

pub logging-leaving : (old new : DiskState) (r t : RunningNames) (own own' : Bool → EditOp → Type 0) (logged : List EditOp) → ((kept : Bool) (o : EditOp) → own kept o → own' kept o)
    → Logging old new r t (Leaving r own) logged → Logging old new r t (Leaving r own') logged
logging-leaving old new r t own own' logged f l = record {
  stands = l.stands;
  moments = λ telling ops s. weaker (λ c left. leaving-more (made_with r.store s.used) r.store.log.pending own own' ops c f left) (l.moments telling ops s);
  run = l.run;
}

growing-more : (made : Replayed) (own own' : EditOp → Type 0) (ops : List EditOp) (bytes : List ℕ) → ((o : EditOp) → own o → own' o) → Grows made own ops bytes → Grows made own' ops bytes
growing-more made own own' ops bytes f g = record { more = g.more; more_is = if-some own own' f g.more g.more_is; fits = g.fits; spelled = g.spelled; log = g.log }

pub logging-growing : (old new : DiskState) (r t : RunningNames) (own own' : EditOp → Type 0) (logged : List EditOp) → ((o : EditOp) → own o → own' o)
    → Logging old new r t (Growing r own) logged → Logging old new r t (Growing r own') logged
logging-growing old new r t own own' logged f l = record {
  stands = l.stands;
  moments = λ telling ops s. weaker (λ c left. growing-more (made_with r.store s.used) own own' ops c f left) (l.moments telling ops s);
  run = l.run;
}

-- the replay of the operations, with the pending one settled

replay-more : (t u : Replayed) (ops : List EditOp) (o : EditOp) → name_replay t ops ≡ Some u → applies u o ≡ true → name_replay t (ops ++ o ∷ []) ≡ Some (after u o)
replay-more t u [] o is may =
    let same : t ≡ u = cc is in
    let here : applies t o ≡ true = subst (λ (x : Replayed). applies x o ≡ true) (sym same) may in
    ap (λ (b : Bool). cond b (Some (after t o)) None) here ∙ ap (λ (x : Replayed). Some (after x o)) same
replay-more t u (first ∷ rest) o is may =
    let P : Bool → Type 0 = λ b. (cond b (name_replay (after t first) rest) None) ≡ Some u → (cond b (name_replay (after t first) (rest ++ o ∷ [])) None) ≡ Some (after u o) in
    (elim (applies t first) as P [ true ↦ (λ e. replay-more (after t first) u rest o e may) | false ↦ (λ e. absurd (cc e)) ]) is

pub replay-settled : (t made : Replayed) (ops : List EditOp) (kept : Bool) (pending : Option EditOp) → name_replay t ops ≡ Some made → Applies made pending
    → name_replay t (ops ++ settled_ops kept pending) ≡ Some (settled_log kept pending made)
replay-settled t made ops kept None is may = ap (name_replay t) (append-nil ops) ∙ is
replay-settled t made ops true (Some o) is may = replay-more t made ops o is may
replay-settled t made ops false (Some o) is may = ap (name_replay t) (append-nil ops) ∙ is

made-settled : (old mid : DiskState) (r s : RunningNames) (kept : Bool) (ops : List EditOp) (a : IsNamesystemOf old r ops) (b : IsNamesystemOf mid s (ops ++ settled_ops kept r.store.log.pending))
    → made_with s.store b.used ≡ settled_log kept r.store.log.pending (made_with r.store a.used)
made-settled old mid r s kept ops a b =
    let both : Some (made_with s.store b.used) ≡ Some (settled_log kept r.store.log.pending (made_with r.store a.used)) =
    sym b.store.makes ∙ replay-settled nothing_logged (made_with r.store a.used) ops kept r.store.log.pending a.store.makes a.store.waits in
    cc both

-- settling, and then a step while nothing is pending
pub behind-settling : (old mid new : DiskState) (r s t : RunningNames) (kept : Bool) (own : Bool → EditOp → Type 0) (own' : EditOp → Type 0) (logged : List EditOp)
    → ((o : EditOp) → own' o → own kept o)
    → Logging old mid r s (Leaving r NothingMore) (settled_ops kept r.store.log.pending) → Logging mid new s t (Growing s own') logged
    → Logging old new r t (Leaving r own) (settled_ops kept r.store.log.pending ++ logged)
behind-settling old mid new r s t kept own own' logged f a b = record {
  stands = λ telling ops x.
      subst (IsNamesystemOf new t) (append_assoc ops (settled_ops kept r.store.log.pending) logged)
      (b.stands (tells_on old mid a.run telling) (ops ++ settled_ops kept r.store.log.pending) (a.stands telling ops x));
  moments = λ telling ops x. (compose {file = 1} {P = Leaving r own x.used ops}
      (record { run = a.run; moments = weaker (λ c left. leaving-more (made_with r.store x.used) r.store.log.pending NothingMore own ops c (λ k o never. absurd never) left) (a.moments telling ops x) })
      (record { run = b.run; moments = b.moments (tells_on old mid a.run telling) (ops ++ settled_ops kept r.store.log.pending) (a.stands telling ops x) })
      (λ c g. left telling ops x c g)).moments;
  run = joined old mid new a.run b.run;
}
  where
    left : (telling : Tells old) (ops : List EditOp) (x : IsNamesystemOf old r ops) (c : List ℕ) → Growing s own' (a.stands telling ops x).used (ops ++ settled_ops kept r.store.log.pending) c → Leaving r own x.used ops c
    left telling ops x c g = record {
      kept = kept;
      more = g.more;
      more_is = if-some own' (λ (o : EditOp). ((kept ≡ false) × (r.store.log.pending ≡ Some o)) ⊎ own kept o) (λ o h. inr (f o h)) g.more g.more_is;
      fits = subst (λ (m : Replayed). Applies m g.more) (made-settled old mid r s kept ops x (a.stands telling ops x)) g.fits;
      spelled = g.spelled;
      log = g.log;
    }

-- a log holds the same operations while ids rise and asks are closed

below-both : (n : ℕ) (a b : List ℕ) → AllBelow n a → AllBelow n b → AllBelow n (a ++ b)
below-both n [] b h k = k
below-both n (i ∷ a) b h k = (h.0, below-both n a b h.1 k)

among-both : (a b : List ℕ) (id : ℕ) → is_among a id ≡ false → is_among b id ≡ false → is_among (a ++ b) id ≡ false
among-both [] b id h k = k
among-both (i ∷ a) b id h k = go (i == id) h (λ rest. among-both a b id rest k)
  where
    go : (t : Bool) → (t || is_among a id) ≡ false → (is_among a id ≡ false → is_among (a ++ b) id ≡ false) → (t || is_among (a ++ b) id) ≡ false
    go true h rest = absurd cc
    go false h rest = rest h

-- an ask has none of two lists of ids
free-both : (a b : List ℕ) (asks : List OpenAsk) → AreFree a asks → AreFree b asks → AreFree (a ++ b) asks
free-both a b [] h k = tt
free-both a b (q ∷ asks) h k = (among-both a b q.id h.0 k.0, free-both a b asks h.1 k.1)

below-settled : (n : ℕ) (written : Bool) (o : EditOp) (used : List ℕ) → AllBelow n (uses o) → AllBelow n used → AllBelow n (settled_used written (Some o) used)
below-settled n true o used h k = below-both n (uses o) used h k
below-settled n false o used h k = k

free-settled : (written : Bool) (o : EditOp) (used : List ℕ) (asks : List OpenAsk) → AreFree (uses o) asks → AreFree used asks → AreFree (settled_used written (Some o) used) asks
free-settled true o used asks h k = free-both (uses o) used asks h k
free-settled false o used asks h k = k

-- an operation was committed, or it wasn't
pub committed : (old new : DiskState) (r t : RunningNames) (left : NameState) (o : EditOp) (written : Bool) → MayWrite (names_of r) o left → next_id (names_of t) ≡ next_id left → t.asks ≡ left.asks
    → CommitsOperation old new r.store o written t.store → Logging old new r t (Growing r (λ own. own ≡ o)) (settled_ops written (Some o))
committed old new r t left o written may next_is asks_are k = record {
  stands = λ telling ops s. record {
    used = settled_used written (Some o) s.used;
    store = k.stands telling s.used ops s.store (may.fresh s.used s.below s.free);
    below =
        subst (λ (n : ℕ). AllBelow n (settled_used written (Some o) s.used)) (sym next_is)
        (below-settled (next_id left) written o s.used may.behind.below (below-more (next_id (names_of r)) (next_id left) (ids-rise (names_of r) left o may.behind) s.used s.below));
    free = subst (λ (asks : List OpenAsk). AreFree (settled_used written (Some o) s.used) asks) (sym asks_are) (free-settled written o s.used left.asks may.behind.free (may.fewer s.used s.free));
  };
  moments = λ telling ops s. weaker (λ c is. growing ops c s is) (k.moments telling s.used ops s.store);
  run = k.run;
}
  where
    growing : (ops : List EditOp) (c : List ℕ) (s : IsNamesystemOf old r ops) → IsWritten ops o c → Growing r (λ own. own ≡ o) s.used ops c
    growing ops c s is = record {
      more = Some o;
      more_is = refl;
      fits = ap (λ (b : Bool). b && is_fresh s.used o) may.allowed ∙ may.fresh s.used s.below s.free;
      spelled = is.0;
      log = is.1;
    }

-- the pending operation was settled

below-pending : (kept : Bool) (pending : Option EditOp) (s : NameState) (used : List ℕ) → IfSome pending (IsPendingApart s) → AllBelow (next_id s) used → AllBelow (next_id s) (settled_used kept pending used)
below-pending kept None s used h k = k
below-pending kept (Some o) s used h k = below-settled (next_id s) kept o used h.below k

free-pending : (kept : Bool) (pending : Option EditOp) (s : NameState) (used : List ℕ) → IfSome pending (IsPendingApart s) → AreFree used s.asks → AreFree (settled_used kept pending used) s.asks
free-pending kept None s used h k = k
free-pending kept (Some o) s used h k = free-settled kept o used s.asks h.free k

-- what a crash during its settling leaves of a store
abbrev pub Moments : DiskState → DiskState → RunningNames → Type 0
Moments old new r = Tells old → (used : List ℕ) (ops : List EditOp) → store.IsNameStoreOf old r.store used ops → LeavesOnly 1 old new (IsLeftOf (made_with r.store used) r.store.log.pending NothingMore ops)

settled-with : (kept : Bool) (pending answer : Option EditOp) (sent : Option (List Sent)) (walks : List WalkState) → answer ≡ kept_op kept pending → walks_with answer sent walks ≡ settled_walks kept pending sent walks
settled-with kept pending answer sent walks is = ap (λ (o : Option EditOp). walks_with o sent walks) is ∙ go kept pending
  where
    go : (kept : Bool) (pending : Option EditOp) → walks_with (kept_op kept pending) sent walks ≡ settled_walks kept pending sent walks
    go kept None = refl
    go true (Some o) = refl
    go false (Some o) = refl

pub settles : (old new : DiskState) (r t : RunningNames) (answer : Option EditOp) → Keeps (service_of r) → t ≡ record r { store = t.store; walks = t.walks } → Moments old new r → RunOn 1 old new
    → SettlesNames old new r.store answer t.store → t.walks ≡ walks_with answer r.updating r.walks → Settling old new r t
settles old new r t answer keeps beside moments run k walks = record {
  kept = k.kept;
  service = is;
  disk = record {
    stands = λ telling ops s. record {
      used = settled_used k.kept r.store.log.pending s.used;
      store = k.stands telling s.used ops s.store;
      below =
          subst (λ (n : ℕ). AllBelow n (settled_used k.kept r.store.log.pending s.used)) (sym (ap (λ (x : NameService). next_id x.names) is ∙ settled-next k.kept (service_of r) keeps))
          (below-pending k.kept r.store.log.pending (names_of r) s.used keeps.waits s.below);
      free = subst (λ (l : List OpenAsk). AreFree (settled_used k.kept r.store.log.pending s.used) l) (sym (ap (λ (x : RunningNames). x.asks) beside)) (free-pending k.kept r.store.log.pending (names_of r) s.used keeps.waits s.free);
    };
    moments = λ telling ops s. moments telling s.used ops s.store;
    run = run;
  };
}
  where
    walks_are : t.walks ≡ settled_walks k.kept r.store.log.pending r.updating r.walks
    walks_are = walks ∙ settled-with k.kept r.store.log.pending answer r.updating r.walks k.answer_is

    is : service_of t ≡ record { names = settled k.kept (service_of r); pending = None }
    is = λ i. record { names = record { table = k.table i; next = (beside i).next; asks = (beside i).asks; walks = walks_are i; updating = (beside i).updating; batch = (beside i).batch }; pending = k.none i }

pub unsettled : (old new : DiskState) (r t : RunningNames) → t ≡ r → Moments old new r → RunOn 1 old new → store.LeavesUnsettled old new r.store t.store → IsUnsettled old new r t
unsettled old new r t same moments run k = record {
  waits = k.waits;
  failed = k.failed;
  same = same;
  disk = record {
    stands = λ telling ops s. subst (IsNamesystemOf new t) (sym (append-nil ops)) (record {
      used = s.used;
      store = k.stands telling s.used ops s.store;
      below = subst (λ (x : RunningNames). AllBelow (next_id (names_of x)) s.used) (sym same) s.below;
      free = subst (λ (x : RunningNames). AreFree s.used x.asks) (sym same) s.free;
    });
    moments = λ telling ops s. moments telling s.used ops s.store;
    run = run;
  };
}

-- an ask is closed after a step
pub closing : (old new : DiskState) (r s t : RunningNames) (id : ℕ) (P : List ℕ → List EditOp → List ℕ → Type 0) (logged : List EditOp) → t ≡ record s { asks = without s.asks id }
    → Logging old new r s P logged → Logging old new r t P logged
closing old new r s t id P logged is l = record {
  stands = λ telling ops x. subst (λ (y : RunningNames). IsNamesystemOf new y (ops ++ logged)) (sym is) (fewer (ops ++ logged) (l.stands telling ops x));
  moments = l.moments;
  run = l.run;
}
  where
    fewer : (ops : List EditOp) → IsNamesystemOf new s ops → IsNamesystemOf new (record s { asks = without s.asks id }) ops
    fewer ops x = record { used = x.used; store = x.store; below = x.below; free = each-without (λ (a : OpenAsk). is_among x.used a.id ≡ false) s.asks id x.free }

pub store-stands : (d : DiskState) (r s : RunningNames) → r ≡ s → (Tells d → (ops : List EditOp) × IsNamesystemOf d s ops) → Tells d → (used : List ℕ) × (ops : List EditOp) × store.IsNameStoreOf d r.store used ops
store-stands d r s is stands telling =
    let x = stands telling in
    let y : IsNamesystemOf d r x.0 = subst (λ (z : RunningNames). IsNamesystemOf d z x.0) (sym is) x.1 in
    (y.used, x.0, y.store)

-- if the log holds some operations before a step, it holds some after it
pub stands-on : (old new : DiskState) (r t : RunningNames) (P : List ℕ → List EditOp → List ℕ → Type 0) (logged : List EditOp) → Logging old new r t P logged
    → (Tells old → (ops : List EditOp) × IsNamesystemOf old r ops) → Tells new → (ops : List EditOp) × IsNamesystemOf new t ops
stands-on old new r t P logged l stands telling =
    let before : Tells old = subst (λ b. IsTrue b) l.run.tells telling in
    let x = stands before in
    (x.0 ++ logged, l.stands before x.0 x.1)

pub settling-keeps : (old new : DiskState) (r t : RunningNames) → Keeps (service_of r) → Settling old new r t → Keeps (service_of t)
settling-keeps old new r t keeps k = subst Keeps (sym k.service) (keeps-settled k.kept (service_of r) keeps)

-- only walks change
pub walking : (d : DiskState) (r t : RunningNames) (P : List ℕ → List EditOp → List ℕ → Type 0) → t ≡ record r { walks = t.walks } → Logging d d r t P []
walking d r t P is = record {
  stands = λ telling ops s.
      subst (IsNamesystemOf d t) (sym (append-nil ops)) (subst (λ (x : RunningNames). IsNamesystemOf d x ops) (sym is) (record { used = s.used; store = s.store; below = s.below; free = s.free }));
  moments = λ telling ops s. (begin 1 d (P s.used ops)).moments;
  run = (begin 1 d (λ c. Unit {0})).run;
}
