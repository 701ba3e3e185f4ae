-- Operations that the causes of a refusal let through are allowed.
use Rattle.std.proofs.Common.{◌≡◌, ℕ, ◌+◌, ◌*◌, ◌^◌, ◌<◌, ◌≤◌, ◌&&◌, ◌||◌, Bool, true, false, cond, not, List, [], ◌∷◌, ◌++◌, Option, Some, None, is_none, is_some, nat_lt, nat_le, refl, ap, sym, subst, ◌∙◌, arith}
use Rattle.std.specs.Prelude.{◌==◌}
use Rattle.std.specs.List.{AllByRecursion, list_any}
use Rattle.std.proofs.lemmas.Bool.Decides.{nat_tests}
use Rattle.std.proofs.lemmas.Bool.{not-false, le-leb, lt-ltb, and_from}
use Rattle.hk_base.specs.declared.names.Edek.{Edek}
use Rattle.hk_base.specs.declared.names.KeyName.{KeyName}
use Rattle.name_calls.specs.Paths.{is_component, starts_reserved}
use Rattle.inode_tree.specs.Rows.{Entry, entry_of, has_children}
use Rattle.edit_ops.specs.Records.{fits}
use Rattle.edit_ops.specs.declared.ops.EditOp.{EditOp}
use Rattle.edit_ops.specs.declared.ops.EditOp.TheVariants as op
use Rattle.name_store.specs.Replay.{AllBelow}
use Rattle.name_store.specs.Store.{is_opening}
use Rattle.zone_table.specs.declared.statuses.StatusRow.{StatusRow}
use Rattle.zone_table.specs.Statuses.{zone_goes_on}
use Rattle.name_store.specs.Causes.{first_cause, going_causes, has_most_rows, id_at, kept_causes, make_causes, removal_causes, row_causes, zone_causes, zone_root_causes}
use Rattle.name_store.specs.Table.{NameTable, allows, fits_key, fits_noted, fits_zone, is_among, is_fresh, is_of_opening, key_of_zone, may_use, may_use_all, op_causes, uses}
use Rattle.name_store.proofs.CauseLemmas.{IsZoneRoot, allows-it, clear, none-of-both, none-of-join, zone-root}
use Rattle.name_store.proofs.StatusLemmas.{key-at-root}
use Rattle.name_core.specs.declared.asks.OpenAsk.{OpenAsk}
use Rattle.name_calls.specs.declared.calls.Ask.{Ask}
use Rattle.name_calls.specs.declared.calls.Ask.TheVariants as ask
use Rattle.name_calls.specs.declared.calls.NameCall.{NameCall}
use Rattle.name_calls.specs.declared.calls.NameCall.TheVariants as call
use Rattle.name_calls.specs.declared.calls.NameRefusal.TheVariants as refusal
use Rattle.name_core.specs.State.{AreFree, AreRecent, IdsFit, NameState, is_full, is_spent, next_id}
use Rattle.name_core.specs.Asks.{closed, finish_causes, finish_op, is_other_key, is_other_zone, noted_of, open_ask, without}
use Rattle.name_core.specs.Calls.{causes, deed, delete_causes, ids_used, mkdir_causes, name_causes, path_causes}
use Rattle.name_core.specs.Steps.{HasWanted, IsBehind, MayBegin, MayWrite}
use Rattle.name_core.specs.Walks.{session_at, walk_causes, walk_deed}
use Rattle.name_core.proofs.AskLemmas.{each-map, each-without, fit-without, open-holds, open-id, without-apart}
use Rattle.name_core.proofs.RowLemmas.{id-free, room-left}
use Rattle.name_core.proofs.WalkLemmas.{going-session, walk-completes}

differ : (a b : ℕ) → a < b → (a == b) ≡ false
differ a b h = grind (arith, nat_tests, h)

unlike : (a b : ℕ) → (a ≡ b → ⊥) → (b == a) ≡ false
unlike a b h = grind (arith, nat_tests, h)

of-opening : (o id n : ℕ) → o * 2 ^ 32 ≤ id → id < o * 2 ^ 32 + n → n ≤ 2 ^ 32 → is_of_opening o id ≡ true
of-opening o id n low high few =
    and_from (nat_le (o * 2 ^ 32) id) (nat_lt id ((o + 1) * 2 ^ 32)) (le-leb (o * 2 ^ 32) id low) (lt-ltb id ((o + 1) * 2 ^ 32) (omega (arith, low, high, few)))

pub not-reserved : (p : List (List ℕ)) → first_cause (path_causes p) ≡ None → starts_reserved p ≡ false
not-reserved p h = (clear (starts_reserved p) refusal.BadPath None h).0

pub not-spent : (s : NameState) → s.next < 2 ^ 32 → is_spent s ≡ false
not-spent s h = grind (arith, nat_tests, h)

-- why each is allowed

usable : (t : NameTable) (id n : ℕ) → t.opening * 2 ^ 32 ≤ id → id < t.opening * 2 ^ 32 + n → n ≤ 2 ^ 32 → entry_of t.rows id ≡ None → may_use_all t (id ∷ []) ≡ true
usable t id n low high few free =
    and_from (may_use t id) true (and_from (is_of_opening t.opening id) (is_none (entry_of t.rows id)) (of-opening t.opening id n low high few) (ap is_none free)) refl

either-not : (a b : Bool) → (a || b) ≡ false → a ≡ false
either-not true b h = absurd cc
either-not false b h = refl

-- if nothing refuses a mkdir, the table does not refuse its operation
pub addable : (s : NameState) (p : List (List ℕ)) → first_cause (mkdir_causes s p) ≡ None → first_cause (make_causes s.table.rows p ++ row_causes s.table.rows) ≡ None
addable s p h =
    let m = none-of-both (make_causes s.table.rows p) ((is_full s, refusal.TooManyInodes) ∷ []) h in
    let room = either-not (has_most_rows s.table.rows) (is_spent s) (clear (is_full s) refusal.TooManyInodes _ m.1).0 in
    none-of-join (make_causes s.table.rows p) (row_causes s.table.rows) m.0 (ap (λ (b : Bool). cond b (Some refusal.TooManyInodes) None) room)

pub allowed-mkdir : (s : NameState) (p : List (List ℕ)) → 0 < s.table.opening → IdsFit s.table.rows s.asks (next_id s) → first_cause (mkdir_causes s p) ≡ None
    → allows s.table (op.Mkdir (next_id s) p) ≡ true
allowed-mkdir s p opened ids h =
    let left : s.next < 2 ^ 32 = room-left s p h in
    allows-it s.table (op.Mkdir (next_id s) p) refl (record {
      opened = lt-ltb 0 s.table.opening opened;
      ids = usable s.table (next_id s) (s.next + 1) (omega arith) (omega arith) (omega (arith, left)) (id-free s.table.rows (next_id s) ids.of_rows);
      free = addable s p h;
      fits = refl;
    })

-- an operation that uses no id and keeps no key
pub plainly-allowed : (t : NameTable) (o : EditOp) → 0 < t.opening → is_opening o ≡ false → may_use_all t (uses o) ≡ true → fits_key t o ≡ true → first_cause (op_causes t o) ≡ None → allows t o ≡ true
plainly-allowed t o opened safe ids key h = allows-it t o safe (record { opened = lt-ltb 0 t.opening opened; ids = ids; free = h; fits = key })

remove-free : (t : NameTable) (p : List (List ℕ)) (recursive : Bool) → first_cause (delete_causes t.rows t.snaps p recursive) ≡ None → first_cause (op_causes t (op.Remove p)) ≡ None
remove-free t p recursive h =
    let parts = none-of-both (removal_causes t.rows p) ((not recursive && has_children t.rows p, refusal.NotEmpty) ∷ kept_causes t.rows t.snaps p) h in
    none-of-join (removal_causes t.rows p) (kept_causes t.rows t.snaps p) parts.0 (clear (not recursive && has_children t.rows p) refusal.NotEmpty _ parts.1).1

-- a cancel, and the completion of a session

cancel-free : (t : NameTable) (p : List (List ℕ)) → first_cause (going_causes t.rows t.statuses p) ≡ None → first_cause (op_causes t (op.Cancel (session_at t p))) ≡ None
cancel-free t p h = ap (λ (b : Bool). cond (not b) (Some refusal.NotSubmitted) None) (going-session t p h)

complete-free : (t : NameTable) (p : List (List ℕ)) → first_cause (going_causes t.rows t.statuses p) ≡ None → first_cause (op_causes t (op.Complete (session_at t p))) ≡ None
complete-free t p h = cancel-free t p h

-- a finish that nothing stops

pub record MayFinish (rows : List Entry) (a : OpenAsk) (edek : Option Edek) (p : List (List ℕ)) : Type 0 where
  pub made : first_cause (make_causes rows p) ≡ None
  pub same_zone : is_other_zone rows a ≡ false
  pub same_key : is_other_key rows p edek ≡ false
  pub room : first_cause (row_causes rows) ≡ None

pub may-make-file : (rows : List Entry) (statuses : List StatusRow) (a : OpenAsk) (edek : Option Edek) (p : List (List ℕ)) → first_cause (finish_causes rows statuses a edek (ask.Create p)) ≡ None
    → MayFinish rows a edek p
may-make-file rows statuses a edek p h =
    let r = clear (starts_reserved p) refusal.BadPath _ h in
    let m = none-of-both (make_causes rows p) ((is_other_zone rows a, refusal.ZoneChanged) ∷ (is_other_key rows p edek, refusal.ZoneChanged) ∷ row_causes rows) r.1 in
    let z = clear (is_other_zone rows a) refusal.ZoneChanged _ m.1 in
    let e = clear (is_other_key rows p edek) refusal.ZoneChanged _ z.1 in
    record { made = m.0; same_zone = z.0; same_key = e.0; room = e.1 }

pub may-make-zone : (rows : List Entry) (statuses : List StatusRow) (a : OpenAsk) (edek : Option Edek) (p : List (List ℕ)) (key : KeyName)
    → first_cause (finish_causes rows statuses a edek (ask.Zone p key)) ≡ None → first_cause (zone_causes rows p) ≡ None
may-make-zone rows statuses a edek p key h = (none-of-both (zone_causes rows p) ((is_other_zone rows a, refusal.ZoneChanged) ∷ []) (clear (starts_reserved p) refusal.BadPath _ h).1).0

-- a submission that nothing stops
pub record MaySubmit (rows : List Entry) (statuses : List StatusRow) (a : OpenAsk) (edek : Option Edek) (p : List (List ℕ)) : Type 0 where
  pub root : first_cause (zone_root_causes rows p) ≡ None
  pub same_zone : is_other_zone rows a ≡ false
  pub same_key : is_other_key rows p edek ≡ false
  pub rests : zone_goes_on statuses (id_at rows p) ≡ false

pub may-submit : (rows : List Entry) (statuses : List StatusRow) (a : OpenAsk) (edek : Option Edek) (p : List (List ℕ)) → first_cause (finish_causes rows statuses a edek (ask.Submit p)) ≡ None
    → MaySubmit rows statuses a edek p
may-submit rows statuses a edek p h =
    let r = clear (starts_reserved p) refusal.BadPath _ h in
    let goes = zone_goes_on statuses (id_at rows p) in
    let m = none-of-both (zone_root_causes rows p) ((is_other_zone rows a, refusal.ZoneChanged) ∷ (is_other_key rows p edek, refusal.ZoneChanged) ∷ (goes, refusal.AlreadySubmitted) ∷ []) r.1 in
    let z = clear (is_other_zone rows a) refusal.ZoneChanged _ m.1 in
    let e = clear (is_other_key rows p edek) refusal.ZoneChanged _ z.1 in
    record { root = m.0; same_zone = z.0; same_key = e.0; rests = (clear goes refusal.AlreadySubmitted None e.1).0 }

given-key : (key : KeyName) (edek : Option Edek) → fits_zone (Some key) edek ≡ true → (is_some edek ≡ true) × (fits_noted (Some key) (noted_of edek).key ≡ true)
given-key key None h = absurd cc
given-key key (Some e) h = (refl, h)

-- a submission has an encrypted key of the zone's key
pub submitted-key : (rows : List Entry) (statuses : List StatusRow) (a : OpenAsk) (edek : Option Edek) (p : List (List ℕ)) → MaySubmit rows statuses a edek p
    → (is_some edek ≡ true) × (fits_noted (key_of_zone rows p) (noted_of edek).key ≡ true)
submitted-key rows statuses a edek p m = (its.0, ap (λ (o : Option KeyName). fits_noted o (noted_of edek).key) key_is ∙ its.1)
  where
    root : IsZoneRoot rows p
    root = zone-root rows p m.root

    key_is : key_of_zone rows p ≡ Some root.key
    key_is = key-at-root rows p root.key root.marked

    its : (is_some edek ≡ true) × (fits_noted (Some root.key) (noted_of edek).key ≡ true)
    its = given-key root.key edek (ap (λ (o : Option KeyName). fits_zone o edek) (sym key_is) ∙ not-false _ m.same_key)

-- what a finish that nothing stops was given
pub has-wanted : (rows : List Entry) (statuses : List StatusRow) (a : OpenAsk) (edek : Option Edek) (k : Ask) → first_cause (finish_causes rows statuses a edek k) ≡ None → HasWanted k edek
has-wanted rows statuses a edek (ask.Create p) h = tt
has-wanted rows statuses a edek (ask.Zone p key) h = tt
has-wanted rows statuses a edek (ask.Submit p) h = (submitted-key rows statuses a edek p (may-submit rows statuses a edek p h)).0

pub allowed-finish : (s : NameState) (id : ℕ) (a : OpenAsk) (edek : Option Edek) → 0 < s.table.opening → s.next ≤ 2 ^ 32 → IdsFit s.table.rows s.asks (next_id s)
    → AreRecent s.table.opening s.asks → open_ask s.asks id ≡ Some a → first_cause (finish_causes s.table.rows s.table.statuses a edek a.ask) ≡ None → allows s.table (finish_op a.id edek a.ask) ≡ true
allowed-finish s id a edek opened few ids recent stands free = go a.ask free
  where
    low : s.table.opening * 2 ^ 32 ≤ a.id
    low = open-holds (λ (q : OpenAsk). s.table.opening * 2 ^ 32 ≤ q.id) s.asks id a recent stands

    high : a.id < next_id s
    high = open-holds (λ (q : OpenAsk). q.id < next_id s) s.asks id a ids.of_asks stands

    unused : entry_of s.table.rows a.id ≡ None
    unused = open-holds (λ (q : OpenAsk). entry_of s.table.rows q.id ≡ None) s.asks id a ids.free stands

    go : (k : Ask) → first_cause (finish_causes s.table.rows s.table.statuses a edek k) ≡ None → allows s.table (finish_op a.id edek k) ≡ true
    go (ask.Create p) h =
        let m = may-make-file s.table.rows s.table.statuses a edek p h in
        allows-it s.table (op.File a.id p edek) refl (record {
          opened = lt-ltb 0 s.table.opening opened;
          ids = usable s.table a.id s.next low high few unused;
          free = none-of-join (make_causes s.table.rows p) (row_causes s.table.rows) m.made m.room;
          fits = not-false _ m.same_key;
        })
    go (ask.Zone p key) h =
        allows-it s.table (op.Zone p key) refl (record { opened = lt-ltb 0 s.table.opening opened; ids = refl; free = may-make-zone s.table.rows s.table.statuses a edek p key h; fits = refl })
    go (ask.Submit p) h =
        let m = may-submit s.table.rows s.table.statuses a edek p h in
        let rests = zone_goes_on s.table.statuses (id_at s.table.rows p) in
        allows-it s.table (op.Submit a.id p (noted_of edek)) refl (record {
          opened = lt-ltb 0 s.table.opening opened;
          ids = usable s.table a.id s.next low high few unused;
          free = none-of-join (zone_root_causes s.table.rows p) ((rests, refusal.AlreadySubmitted) ∷ []) m.root (ap (λ (b : Bool). cond b (Some refusal.AlreadySubmitted) None) m.rests);
          fits = (submitted-key s.table.rows s.table.statuses a edek p m).1;
        })

-- the operation that a call logs is allowed
pub allowed-call : (s : NameState) (c : NameCall) (o : EditOp) → 0 < s.table.opening → IdsFit s.table.rows s.asks (next_id s) → first_cause (causes s c) ≡ None → (deed s c).logs ≡ Some o
    → allows s.table o ≡ true
allowed-call s (call.Mkdir p) o opened ids free is =
    let same : op.Mkdir (next_id s) p ≡ o = cc in subst (λ (x : EditOp). allows s.table x ≡ true) same (allowed-mkdir s p opened ids free)
allowed-call s (call.Delete p recursive) o opened ids free is =
    let same : op.Remove p ≡ o = cc in
    subst (λ (x : EditOp). allows s.table x ≡ true) same (plainly-allowed s.table (op.Remove p) opened refl refl refl (remove-free s.table p recursive free))
allowed-call s (call.Rename p q) o opened ids free is =
    let same : op.Rename p q ≡ o = cc in subst (λ (x : EditOp). allows s.table x ≡ true) same (plainly-allowed s.table (op.Rename p q) opened refl refl refl free)
allowed-call s (call.Allow p) o opened ids free is =
    let same : op.Allow p ≡ o = cc in subst (λ (x : EditOp). allows s.table x ≡ true) same (plainly-allowed s.table (op.Allow p) opened refl refl refl free)
allowed-call s (call.Disallow p) o opened ids free is =
    let same : op.Disallow p ≡ o = cc in subst (λ (x : EditOp). allows s.table x ≡ true) same (plainly-allowed s.table (op.Disallow p) opened refl refl refl free)
allowed-call s (call.Snap p name) o opened ids free is =
    let same : op.Snap p name ≡ o = cc in subst (λ (x : EditOp). allows s.table x ≡ true) same (plainly-allowed s.table (op.Snap p name) opened refl refl refl free)
allowed-call s (call.Unsnap p name) o opened ids free is =
    let same : op.Unsnap p name ≡ o = cc in subst (λ (x : EditOp). allows s.table x ≡ true) same (plainly-allowed s.table (op.Unsnap p name) opened refl refl refl free)
allowed-call s (call.Cancel p) o opened ids free is =
    let same : op.Cancel (session_at s.table p) ≡ o = cc in
    subst (λ (x : EditOp). allows s.table x ≡ true) same (plainly-allowed s.table (op.Cancel (session_at s.table p)) opened refl refl refl (cancel-free s.table p free))
allowed-call s (call.Status p) o opened ids free is = absurd cc
allowed-call s (call.Info p) o opened ids free is = absurd cc
allowed-call s (call.List p) o opened ids free is = absurd cc
allowed-call s call.Zones o opened ids free is = absurd cc

-- the completion that a walk logs is allowed
pub allowed-walk : (s : NameState) (p : List (List ℕ)) (o : EditOp) → 0 < s.table.opening → first_cause (walk_causes s p) ≡ None → (walk_deed s p).logs ≡ Some o → allows s.table o ≡ true
allowed-walk s p o opened free is =
    subst (λ (x : EditOp). allows s.table x ≡ true) (sym (walk-completes s p o is))
    (plainly-allowed s.table (op.Complete (session_at s.table p)) opened refl refl refl (complete-free s.table p free))

-- no call, no finish and no walk logs an opening

pub no-opening : (s : NameState) (c : NameCall) (o : EditOp) → (deed s c).logs ≡ Some o → is_opening o ≡ false
no-opening s (call.Mkdir p) o is = let same : op.Mkdir (next_id s) p ≡ o = cc in ap is_opening (sym same)
no-opening s (call.Delete p recursive) o is = let same : op.Remove p ≡ o = cc in ap is_opening (sym same)
no-opening s (call.Rename p q) o is = let same : op.Rename p q ≡ o = cc in ap is_opening (sym same)
no-opening s (call.Allow p) o is = let same : op.Allow p ≡ o = cc in ap is_opening (sym same)
no-opening s (call.Disallow p) o is = let same : op.Disallow p ≡ o = cc in ap is_opening (sym same)
no-opening s (call.Snap p name) o is = let same : op.Snap p name ≡ o = cc in ap is_opening (sym same)
no-opening s (call.Unsnap p name) o is = let same : op.Unsnap p name ≡ o = cc in ap is_opening (sym same)
no-opening s (call.Cancel p) o is = let same : op.Cancel (session_at s.table p) ≡ o = cc in ap is_opening (sym same)
no-opening s (call.Status p) o is = absurd cc
no-opening s (call.Info p) o is = absurd cc
no-opening s (call.List p) o is = absurd cc
no-opening s call.Zones o is = absurd cc

pub no-opening-finish : (id : ℕ) (edek : Option Edek) (k : Ask) → is_opening (finish_op id edek k) ≡ false
no-opening-finish id edek (ask.Create p) = refl
no-opening-finish id edek (ask.Zone p key) = refl
no-opening-finish id edek (ask.Submit p) = refl

pub no-opening-walk : (s : NameState) (p : List (List ℕ)) (o : EditOp) → (walk_deed s p).logs ≡ Some o → is_opening o ≡ false
no-opening-walk s p o is = ap is_opening (walk-completes s p o is)

-- ids that are not used

pub not-among : (used : List ℕ) (n : ℕ) → AllBelow n used → is_among used n ≡ false
not-among [] n h = refl
not-among (i ∷ used) n h = ap (λ (b : Bool). b || is_among used n) (differ i n h.0) ∙ not-among used n h.1

fresh-id : (used : List ℕ) (id : ℕ) → is_among used id ≡ false → not (is_among used id || false) ≡ true
fresh-id used id h = ap (λ (b : Bool). not (b || false)) h

one-apart : (id other : ℕ) → (id == other) ≡ false → is_among (id ∷ []) other ≡ false
one-apart id other h = ap (λ (b : Bool). b || false) h

pub fit-rise : (rows : List Entry) (asks : List OpenAsk) (n m : ℕ) → n ≤ m → IdsFit rows asks n → IdsFit rows asks m
fit-rise rows asks n m h fit = record {
  of_rows = λ i d b. let low = fit.of_rows i d b in omega (arith, h, low);
  of_asks = each-map (λ (a : OpenAsk). a.id < n) (λ (a : OpenAsk). a.id < m) (λ a low. omega (arith, h, low)) asks fit.of_asks;
  free = fit.free;
  rising = fit.rising;
}

-- no ask has an id above those of the asks
pub apart-from : (asks : List OpenAsk) (n : ℕ) → AllByRecursion (λ (a : OpenAsk). a.id < n) asks → AreFree (n ∷ []) asks
apart-from asks n h =
    each-map (λ (a : OpenAsk). a.id < n) (λ (a : OpenAsk). is_among (n ∷ []) a.id ≡ false) (λ a low. one-apart n a.id (unlike a.id n (λ same. absurd (omega (arith, low, same))))) asks h

pub none-taken : (asks : List OpenAsk) → AreFree [] asks
none-taken [] = tt
none-taken (a ∷ asks) = (refl, none-taken asks)

-- ids after an operation

pub behind-make : (s : NameState) (p : List (List ℕ)) → IdsFit s.table.rows s.asks (next_id s) → AreRecent s.table.opening s.asks → s.next < 2 ^ 32
    → IsBehind s (op.Mkdir (next_id s) p) (record s { next = s.next + 1 })
behind-make s p ids recent left = record {
  no_opening = refl;
  same_table = refl;
  rises = omega arith;
  few = omega (arith, left);
  ids = fit-rise s.table.rows s.asks (next_id s) (next_id (record s { next = s.next + 1 })) (omega arith) ids;
  recent = recent;
  below = (omega arith, tt);
  free = apart-from s.asks (next_id s) ids.of_asks;
}

-- an operation that uses no id
pub behind-plain : (s : NameState) (o : EditOp) (n : ℕ) → n ≡ s.next → is_opening o ≡ false → uses o ≡ [] → s.next ≤ 2 ^ 32 → IdsFit s.table.rows s.asks (next_id s) → AreRecent s.table.opening s.asks
    → IsBehind s o (record s { next = n })
behind-plain s o n is safe none few ids recent = record {
  no_opening = safe;
  same_table = refl;
  rises = omega (arith, is);
  few = omega (arith, few, is);
  ids = fit-rise s.table.rows s.asks (next_id s) (next_id (record s { next = n })) (omega (arith, is)) ids;
  recent = recent;
  below = subst (λ (used : List ℕ). AllBelow (next_id (record s { next = n })) used) (sym none) tt;
  free = subst (λ (used : List ℕ). AreFree used s.asks) (sym none) (none-taken s.asks);
}

pub behind-finish : (s : NameState) (id : ℕ) (a : OpenAsk) (edek : Option Edek) → s.next ≤ 2 ^ 32 → IdsFit s.table.rows s.asks (next_id s) → AreRecent s.table.opening s.asks
    → open_ask s.asks id ≡ Some a → IsBehind s (finish_op a.id edek a.ask) (closed s id)
behind-finish s id a edek few ids recent stands = record {
  no_opening = no-opening-finish a.id edek a.ask;
  same_table = refl;
  rises = omega arith;
  few = few;
  ids = fit-without s.table.rows s.asks id (next_id s) ids;
  recent = each-without (λ (q : OpenAsk). s.table.opening * 2 ^ 32 ≤ q.id) s.asks id recent;
  below = below a.ask;
  free = apart a.ask;
}
  where
    below : (k : Ask) → AllBelow (next_id s) (uses (finish_op a.id edek k))
    below (ask.Create p) = (open-holds (λ (q : OpenAsk). q.id < next_id s) s.asks id a ids.of_asks stands, tt)
    below (ask.Zone p key) = tt
    below (ask.Submit p) = (open-holds (λ (q : OpenAsk). q.id < next_id s) s.asks id a ids.of_asks stands, tt)

    its : AreFree (a.id ∷ []) (without s.asks id)
    its =
        each-map (λ (q : OpenAsk). q.id ≡ id → ⊥) (λ (q : OpenAsk). is_among (a.id ∷ []) q.id ≡ false)
        (λ q other. one-apart a.id q.id (unlike q.id a.id (λ same. other (same ∙ open-id s.asks id a stands)))) (without s.asks id) (without-apart s.asks id ids.rising)

    apart : (k : Ask) → AreFree (uses (finish_op a.id edek k)) (without s.asks id)
    apart (ask.Create p) = its
    apart (ask.Zone p key) = none-taken (without s.asks id)
    apart (ask.Submit p) = its

-- operations that may be written

may-make : (s : NameState) (p : List (List ℕ)) → 0 < s.table.opening → IdsFit s.table.rows s.asks (next_id s) → AreRecent s.table.opening s.asks → starts_reserved p ≡ false
    → first_cause (mkdir_causes s p) ≡ None → MayWrite s (op.Mkdir (next_id s) p) (record s { next = s.next + 1 })
may-make s p opened ids recent path free = record {
  behind = behind-make s p ids recent (room-left s p free);
  allowed = allowed-mkdir s p opened ids free;
  spelled = ap not path;
  fresh = λ used below apart. fresh-id used (next_id s) (not-among used (next_id s) below);
  fewer = λ used h. h;
}

-- the namesystem keeps its rules of ids
record KeepsIds (s : NameState) : Type 0 where
  opened : 0 < s.table.opening
  few : s.next ≤ 2 ^ 32
  ids : IdsFit s.table.rows s.asks (next_id s)
  recent : AreRecent s.table.opening s.asks

may-plain : (s : NameState) (o : EditOp) → KeepsIds s → is_opening o ≡ false → uses o ≡ [] → fits_key s.table o ≡ true → fits o ≡ true → first_cause (op_causes s.table o) ≡ None
    → MayWrite s o (record s { next = s.next + 0 })
may-plain s o k safe none key spelled free = record {
  behind = behind-plain s o (s.next + 0) (omega arith) safe none k.few k.ids k.recent;
  allowed = plainly-allowed s.table o k.opened safe (ap (may_use_all s.table) none) key free;
  spelled = spelled;
  fresh = λ used below apart. ap (λ (ids : List ℕ). not (list_any (is_among used) ids)) none;
  fewer = λ used h. h;
}

named : (p : List (List ℕ)) (name : List ℕ) → first_cause (path_causes p ++ name_causes name) ≡ None → (not (starts_reserved p) && is_component name) ≡ true
named p name h =
    let path = clear (starts_reserved p) refusal.BadPath _ h in
    and_from (not (starts_reserved p)) (is_component name) (ap not path.0) (not-false (is_component name) (clear (not (is_component name)) refusal.BadPath _ path.1).0)

neither : (p q : List (List ℕ)) → first_cause (path_causes p ++ path_causes q) ≡ None → (not (starts_reserved p) && not (starts_reserved q)) ≡ true
neither p q h =
    let path = clear (starts_reserved p) refusal.BadPath _ h in
    and_from (not (starts_reserved p)) (not (starts_reserved q)) (ap not path.0) (ap not (clear (starts_reserved q) refusal.BadPath _ path.1).0)

-- the operation of a change that is not refused may be written
pub may-write : (s : NameState) (c : NameCall) (o : EditOp) → 0 < s.table.opening → s.next ≤ 2 ^ 32 → IdsFit s.table.rows s.asks (next_id s) → AreRecent s.table.opening s.asks
    → MayBegin c → first_cause (causes s c) ≡ None → (deed s c).logs ≡ Some o → MayWrite s o (record s { next = s.next + ids_used c })
may-write s c o opened few ids recent begins free is = go c begins free is
  where
    k : KeepsIds s
    k = record { opened = opened; few = few; ids = ids; recent = recent }

    go : (c : NameCall) → MayBegin c → first_cause (causes s c) ≡ None → (deed s c).logs ≡ Some o → MayWrite s o (record s { next = s.next + ids_used c })
    go (call.Mkdir p) begins free is =
        let same : op.Mkdir (next_id s) p ≡ o = cc in
        subst (λ (x : EditOp). MayWrite s x (record s { next = s.next + 1 })) same (may-make s p opened ids recent (not-reserved p begins.1) free)
    go (call.Delete p recursive) begins free is =
        let same : op.Remove p ≡ o = cc in
        subst (λ (x : EditOp). MayWrite s x (record s { next = s.next + 0 })) same
        (may-plain s (op.Remove p) k refl refl refl (ap not (not-reserved p begins.1)) (remove-free s.table p recursive free))
    go (call.Rename p q) begins free is =
        let same : op.Rename p q ≡ o = cc in
        subst (λ (x : EditOp). MayWrite s x (record s { next = s.next + 0 })) same (may-plain s (op.Rename p q) k refl refl refl (neither p q begins.1) free)
    go (call.Allow p) begins free is =
        let same : op.Allow p ≡ o = cc in
        subst (λ (x : EditOp). MayWrite s x (record s { next = s.next + 0 })) same (may-plain s (op.Allow p) k refl refl refl (ap not (clear (starts_reserved p) refusal.BadPath _ begins.1).0) free)
    go (call.Disallow p) begins free is =
        let same : op.Disallow p ≡ o = cc in
        subst (λ (x : EditOp). MayWrite s x (record s { next = s.next + 0 })) same (may-plain s (op.Disallow p) k refl refl refl (ap not (clear (starts_reserved p) refusal.BadPath _ begins.1).0) free)
    go (call.Snap p name) begins free is =
        let same : op.Snap p name ≡ o = cc in
        subst (λ (x : EditOp). MayWrite s x (record s { next = s.next + 0 })) same (may-plain s (op.Snap p name) k refl refl refl (named p name begins.1) free)
    go (call.Unsnap p name) begins free is =
        let same : op.Unsnap p name ≡ o = cc in
        subst (λ (x : EditOp). MayWrite s x (record s { next = s.next + 0 })) same (may-plain s (op.Unsnap p name) k refl refl refl (named p name begins.1) free)
    go (call.Cancel p) begins free is =
        let same : op.Cancel (session_at s.table p) ≡ o = cc in
        subst (λ (x : EditOp). MayWrite s x (record s { next = s.next + 0 })) same (may-plain s (op.Cancel (session_at s.table p)) k refl refl refl refl (cancel-free s.table p free))
    go (call.Status p) begins free is = absurd cc
    go (call.Info r) begins free is = absurd cc
    go (call.List r) begins free is = absurd cc
    go call.Zones begins free is = absurd cc

-- the completion of a session may be written
pub may-complete : (s : NameState) (p : List (List ℕ)) → 0 < s.table.opening → s.next ≤ 2 ^ 32 → IdsFit s.table.rows s.asks (next_id s) → AreRecent s.table.opening s.asks
    → first_cause (walk_causes s p) ≡ None → MayWrite s (op.Complete (session_at s.table p)) (record s { next = s.next + 0 })
may-complete s p opened few ids recent free =
    may-plain s (op.Complete (session_at s.table p)) (record { opened = opened; few = few; ids = ids; recent = recent }) refl refl refl refl (complete-free s.table p free)

pub may-finish : (s : NameState) (id : ℕ) (a : OpenAsk) (edek : Option Edek) → 0 < s.table.opening → s.next ≤ 2 ^ 32 → IdsFit s.table.rows s.asks (next_id s) → AreRecent s.table.opening s.asks
    → open_ask s.asks id ≡ Some a → first_cause (finish_causes s.table.rows s.table.statuses a edek a.ask) ≡ None → MayWrite s (finish_op a.id edek a.ask) (closed s id)
may-finish s id a edek opened few ids recent stands free = record {
  behind = behind-finish s id a edek few ids recent stands;
  allowed = allowed-finish s id a edek opened few ids recent stands free;
  spelled = spelled a.ask free;
  fresh = λ used below apart. fresh used (open-holds (λ (q : OpenAsk). is_among used q.id ≡ false) s.asks id a apart stands) a.ask;
  fewer = λ used h. each-without (λ (q : OpenAsk). is_among used q.id ≡ false) s.asks id h;
}
  where
    spelled : (k : Ask) → first_cause (finish_causes s.table.rows s.table.statuses a edek k) ≡ None → fits (finish_op a.id edek k) ≡ true
    spelled (ask.Create p) h = ap not (clear (starts_reserved p) refusal.BadPath _ h).0
    spelled (ask.Zone p key) h = ap not (clear (starts_reserved p) refusal.BadPath _ h).0
    spelled (ask.Submit p) h = ap not (clear (starts_reserved p) refusal.BadPath _ h).0

    fresh : (used : List ℕ) → is_among used a.id ≡ false → (k : Ask) → is_fresh used (finish_op a.id edek k) ≡ true
    fresh used h (ask.Create p) = fresh-id used a.id h
    fresh used h (ask.Zone p key) = refl
    fresh used h (ask.Submit p) = fresh-id used a.id h
