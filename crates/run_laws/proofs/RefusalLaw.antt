-- A finish that is refused for its zone: if the zone is the same, its key is the same.
use Rattle.std.proofs.Common.{◌≡◌, ℕ, ◌<◌, inl, inr, Bool, true, false, cond, List, [], ◌∷◌, Option, Some, None, Ok, Err, IfSome, is_some, refl, sym, ap, ◌∙◌, subst, arith}
use Rattle.std.specs.Prelude.{not, nat_le, is_none, length, ◌==◌}
use Rattle.std.specs.Option.{option_and_then, option_map}
use Rattle.std.specs.List.{All, AllByRecursion, list_all}
use Rattle.std.proofs.lemmas.Bool.{and_parts}
use Rattle.std.proofs.lemmas.Bool.Decides.{nat_tests}
use Rattle.std.proofs.lemmas.Slice.Eq.{bytes_eq-Decides}
use Rattle.hk_base.specs.declared.names.Edek.{Edek}
use Rattle.hk_base.specs.declared.names.KeyName.{KeyName}
use Rattle.name_calls.specs.Paths.{parent, starts_reserved}
use Rattle.inode_tree.specs.Rows.{Entry, entry_of, has_children, is_dir_at, mark_of, row_at, same_id, zone_id, zone_of}
use Rattle.edit_ops.specs.declared.ops.EditOp.{EditOp}
use Rattle.edit_ops.specs.declared.ops.EditOp.TheVariants as op
use Rattle.zone_table.specs.declared.statuses.StatusRow.{StatusRow}
use Rattle.zone_table.specs.Statuses.{zone_goes_on}
use Rattle.name_store.specs.Causes.{id_at, mark_at}
use Rattle.name_store.specs.Store.{is_opening}
use Rattle.name_store.specs.Table.{fits_zone, ids_once, key_of_zone, may_update, may_use_all, settled_table, uses}
use Rattle.name_store.proofs.CauseLemmas.{allowed, id-may-be-used, markable}
use Rattle.name_core.specs.declared.asks.OpenAsk.{OpenAsk}
use Rattle.name_calls.specs.declared.calls.Ask.{Ask}
use Rattle.name_calls.specs.declared.calls.Ask.TheVariants as ask
use Rattle.name_calls.specs.declared.calls.AskNote.{AskNote}
use Rattle.name_calls.specs.declared.calls.KeyAnswer.TheVariants as answer
use Rattle.name_calls.specs.declared.calls.NameRefusal.{NameRefusal}
use Rattle.name_calls.specs.declared.calls.NameRefusal.TheVariants as refusal
use Rattle.name_core.specs.State.{IsNames, IsWaiting, NameService, NameState, next_id, settled}
use Rattle.name_core.specs.Asks.{Asks, Finishes, ask_causes, asked, finish_causes, is_other_key, is_other_zone, note_of, open_ask, ask_opened, path_asked, unless_not_asked, unless_stopped, wanted, wanted_under}
use Rattle.name_core.specs.Calls.{NoRoom, Plain, first_cause}
use Rattle.name_core.specs.Service.{FinishServes, FinishServesAt, FinishServesOpen}
use Rattle.name_core.specs.Laws.{AnyFault, Asked}
use Rattle.name_core.proofs.AskLaws.{ids_stay_below}
use Rattle.name_core.proofs.AskLemmas.{each-append, each-both, each-map, no-key, open-holds, open-id}
use Rattle.name_core.proofs.KeepLemmas.{keeps-of}
use Rattle.name_core.proofs.RowLemmas.{BelowId, zone-row, zone-stands}
use Rattle.run_laws.specs.Names.{GivesWanted, RefusedForItsZone}
use Rattle.name_core.proofs.SentFiles.{updated-files}
use Rattle.run_laws.proofs.ZoneMarks.{HasKey, LeavesZone, keys-stay, not-zones, zone-holds}
use Rattle.name_core.proofs.AskSteps.{AnyCall, Stays, any-step, steps}
use Rattle.run_laws.proofs.ZoneSteps.{Begun, KeepsKey, zone-stays}

-- an open ask doesn't have the id of the zone, and is the ask itself if it has its id
abbrev IsOnly : Option ℕ → OpenAsk → OpenAsk → Type 0
IsOnly under a q = (under ≡ Some q.id → ⊥) × (q.id ≡ a.id → q ≡ a)

-- an ask was accepted

module _ (s : NameService) (k : Ask) (names : IsNames s) where
  abbrev rows : List Entry
  rows = s.names.table.rows

  abbrev under : Option ℕ
  under = zone_id rows (path_asked k)

  abbrev key : Option KeyName
  key = key_of_zone rows (path_asked k)

  abbrev its : OpenAsk
  its = ask_opened s.names k

  marked : (i : ℕ) → under ≡ Some i → is_some key ≡ true
  marked i is = go (zone_of rows (path_asked k)) (zone-holds (λ (e : Entry). is_some (mark_of e.row.kind) ≡ true) (path_asked k) rows (λ i d b mark. mark)) is
    where
      go : (o : Option Entry) → IfSome o (λ (e : Entry). is_some (mark_of e.row.kind) ≡ true) → option_map (λ e. e.row.id) o ≡ Some i → is_some (option_and_then (λ e. mark_of e.row.kind) o) ≡ true
      go None mark is = absurd cc
      go (Some e) mark is = mark

  below : (i : ℕ) → under ≡ Some i → i < next_id s.names
  below i is = go (zone_of rows (path_asked k)) (zone-holds (BelowId (next_id s.names)) (path_asked k) rows (λ i d b mark. names.ids.of_rows i d b)) is
    where
      go : (o : Option Entry) → IfSome o (BelowId (next_id s.names)) → option_map (λ e. e.row.id) o ≡ Some i → i < next_id s.names
      go None low is = absurd cc
      go (Some e) low is = let same : e.row.id ≡ i = cc in subst (λ (m : ℕ). m < next_id s.names) same low

  begun : Begun under key (IsOnly under its) (next_id (asked s.names k))
  begun = record {
    marked = marked;
    zone_below = λ i is. let low = below i is in omega (arith, low);
    apart = λ q only. only.0;
    later_asks = λ q later. (λ is. let low = below q.id is in absurd (omega (arith, later, low)), λ same. absurd (omega (arith, later, same)));
  }

  -- no other row has the id of the zone
  has-key : All (HasKey under key) rows
  has-key i d b is = ap (option_and_then (λ (e : Entry). mark_of e.row.kind)) (sym (names.table.rules.once i d b) ∙ zone-row rows (path_asked k) _ names.table.rules is)

  taken : (i : ℕ) → is_some (entry_of rows i) ≡ false → under ≡ Some i → ⊥
  taken i free is = let some = zone-stands rows (path_asked k) i names.table.rules is in absurd cc

  unused : (o : EditOp) (i : ℕ) → is_opening o ≡ false → uses o ≡ i ∷ [] → IsWaiting s.names o → under ≡ Some i → ⊥
  unused o i safe its w = taken i (ap is_some (id-may-be-used s.names.table i (subst (λ (ids : List ℕ). may_use_all s.names.table ids ≡ true) its (allowed s.names.table o safe w.pending.allowed).ids)).free)

  -- nor does a pending operation make one
  leaves : (o : EditOp) → IsWaiting s.names o → LeavesZone under rows o
  leaves (op.Opened opening) w = tt
  leaves (op.Mkdir id p) w = unused (op.Mkdir id p) id refl refl w
  leaves (op.File id p edek) w = unused (op.File id p edek) id refl refl w
  leaves (op.Remove p) w = tt
  leaves (op.Rename p q) w = tt
  leaves (op.Zone p k) w = let m = markable rows p (allowed s.names.table (op.Zone p k) refl w.pending.allowed).free in (m.dir, m.unmarked)
  leaves (op.Allow p) w = tt
  leaves (op.Disallow p) w = tt
  leaves (op.Snap p name) w = tt
  leaves (op.Unsnap p name) w = tt
  leaves (op.Submit session p noted) w = tt
  leaves (op.Update session failed mark files) w =
      let fits = (allowed s.names.table (op.Update session failed mark files) refl w.pending.allowed).fits in
      let may = (and_parts (ids_once files) (list_all (may_update s.names.table session) files) fits).1 in
      not-zones under key marked rows files (updated-files s.names.table session files may) has-key
  leaves (op.Cancel session) w = tt
  leaves (op.Complete session) w = tt

  stays : Stays (KeepsKey under key) (IsOnly under its) (next_id (asked s.names k)) (record { names = asked s.names k; pending = s.pending })
  stays = record {
    later = omega arith;
    asks = each-append (IsOnly under its) s.names.asks its
        (each-map (λ (q : OpenAsk). (q.id < next_id s.names) × (entry_of rows q.id ≡ None)) (IsOnly under its) (λ q h. (taken q.id (ap is_some h.1), λ same. let low = h.0 in absurd (omega (arith, low, same)))) s.names.asks
        (each-both (λ (q : OpenAsk). q.id < next_id s.names) (λ (q : OpenAsk). entry_of rows q.id ≡ None) s.names.asks names.ids.of_asks names.ids.free))
        (λ is. let low = below (next_id s.names) is in absurd (omega (arith, low)), λ same. refl);
    table = λ kept. settles kept s.pending names.waits;
  }
    where
      settles : (kept : Bool) (pending : Option EditOp) → IfSome pending (IsWaiting s.names) → All (HasKey under key) (settled_table kept pending s.names.table).rows
      settles kept None w = has-key
      settles true (Some o) w = keys-stay under key marked s.names.table o (leaves o w) has-key
      settles false (Some o) w = has-key

accepted : (s : NameState) (user : List ℕ) (k : Ask) (note : AskNote) (s' : NameState) → Asks s user k (Ok note) s' → (note ≡ note_of (ask_opened s k)) × (s' ≡ asked s k)
accepted s user k note s' (NoRoom, may, is) = let f : Ok note ≡ Err refusal.NoMemory = ap (λ o. o.reply) is in absurd cc
accepted s user k note s' (Plain, may, is) = go (first_cause (ask_causes s user k)) is
  where
    go : (o : Option NameRefusal) → (record { reply = Ok note; state = s' }) ≡ unless_not_asked o s k → (note ≡ note_of (ask_opened s k)) × (s' ≡ asked s k)
    go (Some why) is = let f : Ok note ≡ Err why = ap (λ o. o.reply) is in absurd cc
    go None is = let f : Ok note ≡ Ok (note_of (ask_opened s k)) = ap (λ o. o.reply) is in (cc, ap (λ o. o.state) is)

-- its finish was refused

-- it was refused for a cause in the settled rows, which it left unchanged
record IsStopped (t : NameService) (a : OpenAsk) (edek : Option Edek) (t' : NameService) : Type 0 where
  kept : Bool
  stops : first_cause (finish_causes (settled kept t).table.rows (settled kept t).table.statuses a edek a.ask) ≡ Some refusal.ZoneChanged
  left : t'.names.table.rows ≡ (settled kept t).table.rows

stopped : (s : NameState) (a : OpenAsk) (edek : Option Edek) (s' : NameState) → Finishes s a edek (Err refusal.ZoneChanged) s'
    → (first_cause (finish_causes s.table.rows s.table.statuses a edek a.ask) ≡ Some refusal.ZoneChanged) × (s'.table.rows ≡ s.table.rows)
stopped s a edek s' (NoRoom, may, is) = let f : Err refusal.ZoneChanged ≡ Err refusal.NoMemory = ap (λ o. o.reply) is in absurd cc
stopped s a edek s' (Plain, may, is) = go (first_cause (finish_causes s.table.rows s.table.statuses a edek a.ask)) is
  where
    go : (o : Option NameRefusal) → (record { reply = Err refusal.ZoneChanged; state = s' }) ≡ unless_stopped o s a edek → (o ≡ Some refusal.ZoneChanged) × (s'.table.rows ≡ s.table.rows)
    go (Some why) is = let f : Err refusal.ZoneChanged ≡ Err why = ap (λ o. o.reply) is in (cc, ap (λ o. o.state.table.rows) is)
    go None is = let f : Err refusal.ZoneChanged ≡ Ok tt = ap (λ o. o.reply) is in absurd cc

is-stopped : (under : Option ℕ) (t : NameService) (a : OpenAsk) (edek : Option Edek) (logged : List EditOp) (t' : NameService) → AllByRecursion (IsOnly under a) t.names.asks
    → FinishServes t a.id (answer.Given edek) AnyFault (Err refusal.ZoneChanged) logged t' → IsStopped t a edek t'
is-stopped under t a edek logged t' only finish = found (open_ask t.names.asks a.id) refl finish
  where
    of : FinishServesOpen t a (answer.Given edek) AnyFault (Err refusal.ZoneChanged) logged t' → IsStopped t a edek t'
    of (inl waits) = let f = waits.ends.reply_is in absurd cc
    of (inr (kept, inl w)) =
        let did = stopped (settled kept t) a edek w.changed w.finishes in
        record { kept = kept; stops = did.0; left = ap (λ (x : NameService). x.names.table.rows) w.left ∙ did.1 }
    of (inr (kept, inr u)) = let f = u.reply_is in absurd cc

    found : (o : Option OpenAsk) → open_ask t.names.asks a.id ≡ o → FinishServesAt t o (answer.Given edek) AnyFault (Err refusal.ZoneChanged) logged t' → IsStopped t a edek t'
    found None is e = let f = e.reply_is in absurd cc
    found (Some q) is e =
        of (subst (λ (x : OpenAsk). FinishServesOpen t x (answer.Given edek) AnyFault (Err refusal.ZoneChanged) logged t')
        ((open-holds (IsOnly under a) t.names.asks a.id q only is).1 (open-id t.names.asks a.id q is)) e)

-- the cause is the zone

same-id-is : (i j : Option ℕ) → not (same_id i j) ≡ false → i ≡ j
same-id-is None None h = refl
same-id-is None (Some j) h = absurd cc
same-id-is (Some i) None h = absurd cc
same-id-is (Some i) (Some j) h = ap Some (go (i == j) refl h)
  where
    equal : (i == j) ≡ true → i ≡ j
    equal h = grind (arith, nat_tests, h)

    go : (t : Bool) → (i == j) ≡ t → not t ≡ false → i ≡ j
    go true is h = equal is
    go false is h = absurd cc

-- the key of the same zone is the same
same-key : (under : Option ℕ) (key : Option KeyName) (rows : List Entry) (p : List (List ℕ)) → (under ≡ None → key ≡ None) → All (HasKey under key) rows → zone_id rows p ≡ under → key_of_zone rows p ≡ key
same-key under key rows p empty have is = go (zone_of rows p) (zone-holds (HasKey under key) p rows (λ i d b mark. have i d b)) is
  where
    go : (o : Option Entry) → IfSome o (HasKey under key) → option_map (λ e. e.row.id) o ≡ under → option_and_then (λ e. mark_of e.row.kind) o ≡ key
    go None has is = sym (empty (sym is))
    go (Some e) has is = has (sym is)

fits : (key : Option KeyName) (edek : Option Edek) → GivesWanted (wanted_under key) edek → fits_zone key edek ≡ true
fits None None h = refl
fits None (Some e) h = absurd h
fits (Some k) None h = absurd h
fits (Some k) (Some e) h = (bytes_eq-Decides e.version.key k).1 h

-- a cause with another refusal did not stop it
past : (b : Bool) (why : NameRefusal) (rest : Option NameRefusal) → (why ≡ refusal.ZoneChanged → ⊥) → cond b (Some why) rest ≡ Some refusal.ZoneChanged → rest ≡ Some refusal.ZoneChanged
past true why rest another h = absurd (another cc)
past false why rest another h = h

first : (b : Bool) (rest : Option NameRefusal) → (b ≡ false → rest ≡ Some refusal.ZoneChanged → ⊥) → cond b (Some refusal.ZoneChanged) rest ≡ Some refusal.ZoneChanged → b ≡ true
first true rest never h = refl
first false rest never h = absurd (never refl h)

-- an encrypted key that fits what was wanted fits the zone, if it is the same
key-fits : (s : NameState) (p : List (List ℕ)) (rows : List Entry) (edek : Option Edek) → All (HasKey (zone_id s.table.rows p) (key_of_zone s.table.rows p)) rows → GivesWanted (wanted_under (key_of_zone s.table.rows p)) edek
    → not (same_id (zone_id rows p) (zone_id s.table.rows p)) ≡ false → is_other_key rows p edek ≡ false
key-fits s p rows edek have answers same =
    ap (λ (key : Option KeyName). not (fits_zone key edek))
    (same-key (zone_id s.table.rows p) (key_of_zone s.table.rows p) rows p (no-key s.table.rows p) have (same-id-is (zone_id rows p) (zone_id s.table.rows p) same))
    ∙ ap not (fits (key_of_zone s.table.rows p) edek answers)

-- a key that fits, and another cause after it
fitting : (b other : Bool) (why : NameRefusal) → (why ≡ refusal.ZoneChanged → ⊥) → b ≡ false → cond b (Some refusal.ZoneChanged) (cond other (Some why) None) ≡ Some refusal.ZoneChanged → ⊥
fitting true other why another e h = absurd cc
fitting false true why another e h = another cc
fitting false false why another e h = absurd cc

for-its-zone : (s : NameState) (k : Ask) (rows : List Entry) (statuses : List StatusRow) (edek : Option Edek) → All (HasKey (zone_id s.table.rows (path_asked k)) (key_of_zone s.table.rows (path_asked k))) rows
    → GivesWanted (wanted s.table.rows k) edek → first_cause (finish_causes rows statuses (ask_opened s k) edek k) ≡ Some refusal.ZoneChanged → is_other_zone rows (ask_opened s k) ≡ true
for-its-zone s (ask.Create p) rows statuses edek have answers stops =
    let c1 = past (starts_reserved p) refusal.BadPath _ (λ e. cc) stops in
    let c2 = past (is_none (row_at rows (parent p))) refusal.NoSuchPath _ (λ e. cc) c1 in
    let c3 = past (not (is_dir_at (row_at rows (parent p)))) refusal.NotADirectory _ (λ e. cc) c2 in
    let c4 = past (is_some (row_at rows p)) refusal.Exists _ (λ e. cc) c3 in
    first (is_other_zone rows (ask_opened s (ask.Create p))) _
    (λ same. fitting (is_other_key rows p edek) (nat_le 1000000 (length rows)) refusal.TooManyInodes (λ e. cc) (key-fits s p rows edek have answers same)) c4
for-its-zone s (ask.Zone p key) rows statuses edek have answers stops =
    let c1 = past (starts_reserved p) refusal.BadPath _ (λ e. cc) stops in
    let c2 = past (is_none (row_at rows p)) refusal.NoSuchPath _ (λ e. cc) c1 in
    let c3 = past (not (is_dir_at (row_at rows p))) refusal.NotADirectory _ (λ e. cc) c2 in
    let c4 = past (has_children rows p) refusal.NotEmpty _ (λ e. cc) c3 in
    let c5 = past (is_some (mark_at rows p)) refusal.AlreadyInZone _ (λ e. cc) c4 in
    first (is_other_zone rows (ask_opened s (ask.Zone p key))) None (λ same h. absurd cc) c5
for-its-zone s (ask.Submit p) rows statuses edek have answers stops =
    let c1 = past (starts_reserved p) refusal.BadPath _ (λ e. cc) stops in
    let c2 = past (is_none (row_at rows p)) refusal.NoSuchPath _ (λ e. cc) c1 in
    let c3 = past (not (is_dir_at (row_at rows p))) refusal.NotADirectory _ (λ e. cc) c2 in
    let c4 = past (is_none (mark_at rows p)) refusal.NotAZoneRoot _ (λ e. cc) c3 in
    first (is_other_zone rows (ask_opened s (ask.Submit p))) _
    (λ same. fitting (is_other_key rows p edek) (zone_goes_on statuses (id_at rows p)) refusal.AlreadySubmitted (λ e. cc) (key-fits s p rows edek have answers same)) c4

pub refused_for_its_zone : RefusedForItsZone
refused_for_its_zone s user k note s' between t edek logged t' names asks same reaches answers finish =
    subst (λ (rows : List Entry). is_other_zone rows a ≡ true) (sym stop.left)
    (for-its-zone s.names k (settled stop.kept t).table.rows (settled stop.kept t).table.statuses edek (now.table stop.kept) (subst (λ (x : AskNote). GivesWanted x.want edek) did.0 answers) stop.stops)
  where
    a : OpenAsk
    a = ask_opened s.names k

    did : (note ≡ note_of a) × (s'.names ≡ asked s.names k)
    did = accepted s.names user k note s'.names asks

    Still : NameService → Type 0
    Still = Stays (KeepsKey (under s k names) (key s k names)) (IsOnly (under s k names) a) (next_id (asked s.names k))

    now : Still t
    now =
        steps (KeepsKey (under s k names) (key s k names)) (IsOnly (under s k names) a) AnyCall (next_id (asked s.names k))
        (zone-stays (under s k names) (key s k names) (IsOnly (under s k names) a) (next_id (asked s.names k)) (begun s k names)) any-step s' between t reaches
        (ids_stay_below s s' (Asked user k (Ok note) asks same) (keeps-of s names))
        (subst Still (sym (λ i. record { names = did.1 i; pending = same i })) (stays s k names))

    stop : IsStopped t a edek t'
    stop =
        is-stopped (under s k names) t a edek logged t' now.asks
        (subst (λ (x : AskNote). FinishServes t x.id (answer.Given edek) AnyFault (Err refusal.ZoneChanged) logged t') did.0 finish)
