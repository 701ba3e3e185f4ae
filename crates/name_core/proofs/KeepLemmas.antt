-- The rules of ids stay true while operations are written, pending and settled.
use Rattle.std.proofs.Common.{◌≡◌, ℕ, ◌+◌, ◌*◌, ◌^◌, ◌<◌, ◌≤◌, ◌||◌, Bool, true, false, cond, not, List, [], ◌∷◌, ◌++◌, Option, Some, None, IfSome, refl, ap, sym, subst, ◌∙◌, arith}
use Rattle.std.specs.Prelude.{◌==◌}
use Rattle.std.specs.List.{All, filter}
use Rattle.std.proofs.lemmas.List.Elements.{All-filter}
use Rattle.inode_tree.specs.declared.rows.Kind.TheVariants.{Dir, File}
use Rattle.name_calls.specs.Paths.{is_prefix}
use Rattle.inode_tree.specs.Moves.{renamed}
use Rattle.inode_tree.specs.Rows.{Entry, entry_of, put, removed, set_kind}
use Rattle.edit_ops.specs.declared.files.FileKey.{FileKey}
use Rattle.edit_ops.specs.declared.ops.EditOp.{EditOp}
use Rattle.edit_ops.specs.declared.ops.EditOp.TheVariants as op
use Rattle.name_store.specs.Causes.{id_at}
use Rattle.name_store.specs.Replay.{AllBelow}
use Rattle.name_store.specs.Store.{IsPendingOperation, IsStore, is_opening}
use Rattle.name_store.specs.Table.{NameTable, after_table, is_among, new_directory, new_file, settled_table, uses, with_edeks}
use Rattle.reenc_walk.specs.Walks.{WalkState}
use Rattle.name_core.specs.declared.asks.OpenAsk.{OpenAsk}
use Rattle.name_core.specs.State.{AreFree, AreRecent, IdsFit, IsNames, IsWaiting, NameService, NameState, RunningNames, WalksOnce, next_id, service_of, settled, took}
use Rattle.name_core.specs.Asks.{closed}
use Rattle.name_core.specs.Calls.{done_with}
use Rattle.name_core.specs.Steps.{IsBehind, IsPendingApart, Keeps}
use Rattle.name_core.proofs.AskLemmas.{each-append, each-map, each-without, fit-ask, fit-without, free-put, kind-below, kind-free, moved-below, moved-free}
use Rattle.name_core.proofs.AllowedLemmas.{fit-rise, not-among}
use Rattle.name_core.proofs.RowLemmas.{BelowId, all-put}

other-id : (a b : ℕ) → is_among (a ∷ []) b ≡ false → (a == b) ≡ false
other-id a b h = go (a == b) h
  where
    go : (t : Bool) → (t || false) ≡ false → t ≡ false
    go true h = absurd cc
    go false h = refl

fit-put : (e : Entry) (rows : List Entry) (asks : List OpenAsk) (n : ℕ) → e.row.id < n → AreFree (e.row.id ∷ []) asks → IdsFit rows asks n → IdsFit (put e rows) asks n
fit-put e rows asks n low apart fit = record {
  of_rows = all-put (BelowId n) e rows low fit.of_rows;
  of_asks = fit.of_asks;
  free = free-put e rows asks (each-map (λ (a : OpenAsk). is_among (e.row.id ∷ []) a.id ≡ false) (λ (a : OpenAsk). (e.row.id == a.id) ≡ false) (λ a h. other-id e.row.id a.id h) asks apart) fit.free;
  rising = fit.rising;
}

-- rows that remain have no id that no row had

entry-behind : (e : Entry) (rows : List Entry) (id : ℕ) → entry_of (e ∷ rows) id ≡ None → ((e.row.id == id) ≡ false) × (entry_of rows id ≡ None)
entry-behind e rows id h = go (e.row.id == id) h
  where
    go : (t : Bool) → cond t (Some e) (entry_of rows id) ≡ None → (t ≡ false) × (entry_of rows id ≡ None)
    go true h = absurd cc
    go false h = (refl, h)

filter-free : (test : Entry → Bool) (rows : List Entry) (id : ℕ) → entry_of rows id ≡ None → entry_of (filter test rows) id ≡ None
filter-free test [] id h = refl
filter-free test (e ∷ rows) id h = go (test e) (filter-free test rows id (entry-behind e rows id h).1)
  where
    go : (t : Bool) → entry_of (filter test rows) id ≡ None → entry_of (cond t (e ∷ filter test rows) (filter test rows)) id ≡ None
    go true rest = ap (λ (b : Bool). cond b (Some e) (entry_of (filter test rows) id)) (entry-behind e rows id h).0 ∙ rest
    go false rest = rest

-- files that get other encrypted keys keep their ids

edeks-below : (n : ℕ) (files : List FileKey) (rows : List Entry) → All (BelowId n) rows → All (BelowId n) (with_edeks files rows)
edeks-below n [] rows h = h
edeks-below n (f ∷ files) rows h = edeks-below n files (set_kind rows f.id (File (Some f.edek))) (kind-below n f.id (File (Some f.edek)) rows h)

edeks-free : (files : List FileKey) (rows : List Entry) (id : ℕ) → entry_of rows id ≡ None → entry_of (with_edeks files rows) id ≡ None
edeks-free [] rows id h = h
edeks-free (f ∷ files) rows id h = edeks-free files (set_kind rows f.id (File (Some f.edek))) id (kind-free f.id (File (Some f.edek)) rows id h)

-- after an operation whose ids are taken, and not by an open ask, ids keep their rules
pub fit-op : (t : NameTable) (o : EditOp) (asks : List OpenAsk) (n : ℕ) → is_opening o ≡ false → AllBelow n (uses o) → AreFree (uses o) asks → IdsFit t.rows asks n → IdsFit (after_table t o).rows asks n
fit-op t (op.Opened opening) asks n safe below apart fit = absurd cc
fit-op t (op.Mkdir id p) asks n safe below apart fit = fit-put (new_directory id p) t.rows asks n below.0 apart fit
fit-op t (op.File id p edek) asks n safe below apart fit = fit-put (new_file id p edek) t.rows asks n below.0 apart fit
fit-op t (op.Remove p) asks n safe below apart fit = record {
  of_rows = All-filter (λ (e : Entry). not (is_prefix p e.path)) (BelowId n) t.rows fit.of_rows;
  of_asks = fit.of_asks;
  free = each-map (λ (a : OpenAsk). entry_of t.rows a.id ≡ None) (λ (a : OpenAsk). entry_of (removed p t.rows) a.id ≡ None) (λ a h. filter-free (λ (e : Entry). not (is_prefix p e.path)) t.rows a.id h) asks fit.free;
  rising = fit.rising;
}
fit-op t (op.Rename p q) asks n safe below apart fit = record {
  of_rows = moved-below n p q t.rows fit.of_rows;
  of_asks = fit.of_asks;
  free = each-map (λ (a : OpenAsk). entry_of t.rows a.id ≡ None) (λ (a : OpenAsk). entry_of (renamed p q t.rows) a.id ≡ None) (λ a h. moved-free p q t.rows a.id h) asks fit.free;
  rising = fit.rising;
}
fit-op t (op.Zone p key) asks n safe below apart fit = record {
  of_rows = kind-below n (id_at t.rows p) (Dir (Some key)) t.rows fit.of_rows;
  of_asks = fit.of_asks;
  free = each-map (λ (a : OpenAsk). entry_of t.rows a.id ≡ None) (λ (a : OpenAsk). entry_of (after_table t (op.Zone p key)).rows a.id ≡ None) (λ a h. kind-free (id_at t.rows p) (Dir (Some key)) t.rows a.id h) asks fit.free;
  rising = fit.rising;
}
fit-op t (op.Allow p) asks n safe below apart fit = fit
fit-op t (op.Disallow p) asks n safe below apart fit = fit
fit-op t (op.Snap p name) asks n safe below apart fit = fit
fit-op t (op.Unsnap p name) asks n safe below apart fit = fit
fit-op t (op.Submit session p noted) asks n safe below apart fit = fit
fit-op t (op.Update session failed mark files) asks n safe below apart fit = record {
  of_rows = edeks-below n files t.rows fit.of_rows;
  of_asks = fit.of_asks;
  free = each-map (λ (a : OpenAsk). entry_of t.rows a.id ≡ None) (λ (a : OpenAsk). entry_of (with_edeks files t.rows) a.id ≡ None) (λ a h. edeks-free files t.rows a.id h) asks fit.free;
  rising = fit.rising;
}
fit-op t (op.Cancel session) asks n safe below apart fit = fit
fit-op t (op.Complete session) asks n safe below apart fit = fit

pub same-opening : (t : NameTable) (o : EditOp) → is_opening o ≡ false → (after_table t o).opening ≡ t.opening
same-opening t (op.Opened opening) safe = absurd cc
same-opening t (op.Mkdir id p) safe = refl
same-opening t (op.File id p edek) safe = refl
same-opening t (op.Remove p) safe = refl
same-opening t (op.Rename p q) safe = refl
same-opening t (op.Zone p key) safe = refl
same-opening t (op.Allow p) safe = refl
same-opening t (op.Disallow p) safe = refl
same-opening t (op.Snap p name) safe = refl
same-opening t (op.Unsnap p name) safe = refl
same-opening t (op.Submit session p noted) safe = refl
same-opening t (op.Update session failed mark files) safe = refl
same-opening t (op.Cancel session) safe = refl
same-opening t (op.Complete session) safe = refl

-- an operation took effect

module _ (s left : NameState) (o : EditOp) (may : IsBehind s o left) where
  opening-left : left.table.opening ≡ s.table.opening
  opening-left = ap (λ (t : NameTable). t.opening) may.same_table

  opening-done : (after_table left.table o).opening ≡ left.table.opening
  opening-done = same-opening left.table o may.no_opening

  -- the next id after it is no lower
  pub ids-rise : next_id s ≤ next_id left
  ids-rise = let e = ap (λ (n : ℕ). n * 2 ^ 32) opening-left in let r = may.rises in omega (arith, e, r)

  pub next-done : next_id (done_with (Some o) left) ≡ next_id left
  next-done = ap (λ (n : ℕ). n * 2 ^ 32 + left.next) opening-done

  ids-left : IdsFit left.table.rows left.asks (next_id left)
  ids-left = subst (λ (t : NameTable). IdsFit t.rows left.asks (next_id left)) (sym may.same_table) may.ids

  recent-left : AreRecent left.table.opening left.asks
  recent-left = subst (λ (n : ℕ). AreRecent n left.asks) (sym opening-left) may.recent

  pub keeps-done : Keeps (record { names = done_with (Some o) left; pending = None })
  keeps-done = record {
    few = may.few;
    ids = subst (λ (n : ℕ). IdsFit (after_table left.table o).rows left.asks n) (sym next-done) (fit-op left.table o left.asks (next_id left) may.no_opening may.below may.free ids-left);
    recent = subst (λ (n : ℕ). AreRecent n left.asks) (sym opening-done) recent-left;
    waits = tt;
  }

  pub keeps-pending : Keeps (record { names = left; pending = Some o })
  keeps-pending = record {
    few = may.few;
    ids = ids-left;
    recent = recent-left;
    waits = record { no_opening = may.no_opening; below = may.below; free = may.free };
  }

-- the pending operation was settled

-- a kept operation took effect
pub settled-took : (s : NameState) (o : EditOp) → settled true (record { names = s; pending = Some o }) ≡ took s o
settled-took s o = refl

pub settled-opening : (kept : Bool) (pending : Option EditOp) (s : NameState) (t : NameTable) → IfSome pending (IsPendingApart s) → (settled_table kept pending t).opening ≡ t.opening
settled-opening kept None s t h = refl
settled-opening true (Some o) s t h = same-opening t o h.no_opening
settled-opening false (Some o) s t h = refl

settled-ids : (kept : Bool) (pending : Option EditOp) (s : NameState) → IfSome pending (IsPendingApart s) → IdsFit s.table.rows s.asks (next_id s) → IdsFit (settled_table kept pending s.table).rows s.asks (next_id s)
settled-ids kept None s h fit = fit
settled-ids true (Some o) s h fit = fit-op s.table o s.asks (next_id s) h.no_opening h.below h.free fit
settled-ids false (Some o) s h fit = fit

pub settled-next : (kept : Bool) (s : NameService) → Keeps s → next_id (settled kept s) ≡ next_id s.names
settled-next kept s k = ap (λ (n : ℕ). n * 2 ^ 32 + s.names.next) (settled-opening kept s.pending s.names s.names.table k.waits)

pub keeps-settled : (kept : Bool) (s : NameService) → Keeps s → Keeps (record { names = settled kept s; pending = None })
keeps-settled kept s k = record {
  few = k.few;
  ids = subst (λ (n : ℕ). IdsFit (settled_table kept s.pending s.names.table).rows s.names.asks n) (sym (settled-next kept s k)) (settled-ids kept s.pending s.names k.waits k.ids);
  recent = subst (λ (n : ℕ). AreRecent n s.names.asks) (sym (settled-opening kept s.pending s.names s.names.table k.waits)) k.recent;
  waits = tt;
}

-- an ask is closed, or one more is open

pub keeps-closed : (s : NameService) (id : ℕ) → Keeps s → Keeps (record { names = closed s.names id; pending = s.pending })
keeps-closed s id k = record {
  few = k.few;
  ids = fit-without s.names.table.rows s.names.asks id (next_id s.names) k.ids;
  recent = each-without (λ (a : OpenAsk). s.names.table.opening * 2 ^ 32 ≤ a.id) s.names.asks id k.recent;
  waits = go s.pending k.waits;
}
  where
    go : (pending : Option EditOp) → IfSome pending (IsPendingApart s.names) → IfSome pending (IsPendingApart (closed s.names id))
    go None h = tt
    go (Some o) h = record { no_opening = h.no_opening; below = h.below; free = each-without (λ (a : OpenAsk). is_among (uses o) a.id ≡ false) s.names.asks id h.free }

pub below-more : (n m : ℕ) → n ≤ m → (ids : List ℕ) → AllBelow n ids → AllBelow m ids
below-more n m h [] k = tt
below-more n m h (i ∷ ids) k = (let low = k.0 in omega (arith, h, low), below-more n m h ids k.1)

abbrev pub with_ask : NameState → OpenAsk → NameState
with_ask s q = record s { next = s.next + 1; asks = s.asks ++ q ∷ [] }

pub keeps-asked : (s : NameService) (q : OpenAsk) → q.id ≡ next_id s.names → s.names.next < 2 ^ 32 → Keeps s → Keeps (record { names = with_ask s.names q; pending = s.pending })
keeps-asked s q is left k = record {
  few = omega (arith, left);
  ids = fit-ask q s.names.table.rows s.names.asks (next_id s.names) (next_id (with_ask s.names q)) is (omega arith) k.ids;
  recent = each-append (λ (a : OpenAsk). s.names.table.opening * 2 ^ 32 ≤ a.id) s.names.asks q k.recent (omega (arith, is));
  waits = go s.pending k.waits;
}
  where
    go : (pending : Option EditOp) → IfSome pending (IsPendingApart s.names) → IfSome pending (IsPendingApart (with_ask s.names q))
    go None h = tt
    go (Some o) h = record {
      no_opening = h.no_opening;
      below = below-more (next_id s.names) (next_id (with_ask s.names q)) (omega arith) (uses o) h.below;
      free = each-append (λ (a : OpenAsk). is_among (uses o) a.id ≡ false) s.names.asks q h.free (subst (λ (n : ℕ). is_among (uses o) n ≡ false) (sym is) (not-among (uses o) (next_id s.names) h.below));
    }

-- ids are skipped

pub keeps_later : (s : NameService) (n : ℕ) → s.names.next ≤ n → n ≤ 2 ^ 32 → Keeps s → Keeps (record { names = record s.names { next = n }; pending = s.pending })
keeps_later s n later few k = record {
  few = few;
  ids = fit-rise s.names.table.rows s.names.asks (next_id s.names) (next_id (record s.names { next = n })) (omega (arith, later)) k.ids;
  recent = k.recent;
  waits = go s.pending k.waits;
}
  where
    go : (pending : Option EditOp) → IfSome pending (IsPendingApart s.names) → IfSome pending (IsPendingApart (record s.names { next = n }))
    go None h = tt
    go (Some o) h = record { no_opening = h.no_opening; below = below-more (next_id s.names) (next_id (record s.names { next = n })) (omega (arith, later)) (uses o) h.below; free = h.free }

-- walks change

pub keeps-walking : (s : NameService) (walks : List WalkState) → Keeps s → Keeps (record { names = record s.names { walks = walks }; pending = s.pending })
keeps-walking s walks k = record { few = k.few; ids = k.ids; recent = k.recent; waits = go s.pending k.waits }
  where
    go : (pending : Option EditOp) → IfSome pending (IsPendingApart s.names) → IfSome pending (IsPendingApart (record s.names { walks = walks }))
    go None h = tt
    go (Some o) h = record { no_opening = h.no_opening; below = h.below; free = h.free }

-- a start

pub keeps-started : (r : RunningNames) → r.next ≡ 1 → r.asks ≡ [] → r.store.log.pending ≡ None → All (λ (e : Entry). e.row.id < r.store.table.opening * 2 ^ 32) r.store.table.rows → Keeps (service_of r)
keeps-started r next asks none earlier =
    subst Keeps (λ i. record { names = record { table = r.store.table; next = sym next i; asks = sym asks i; walks = r.walks; updating = r.updating; batch = r.batch }; pending = sym none i }) (record {
      few = omega arith;
      ids = record { of_rows = λ i d b. let low = earlier i d b in omega (arith, low); of_asks = tt; free = tt; rising = tt };
      recent = tt;
      waits = tt;
    })

-- with the rules of its store, it is a namesystem

waiting : (pending : Option EditOp) (s : NameState) → IfSome pending (IsPendingOperation s.table) → IfSome pending (IsPendingApart s) → IfSome pending (IsWaiting s)
waiting None s h k = tt
waiting (Some o) s h k = record { pending = h; below = k.below; free = k.free }

pub is-names : (r : RunningNames) → IsStore r.store → 1 ≤ r.batch → r.batch ≤ 1000 → Keeps (service_of r) → WalksOnce r.walks → IsNames (service_of r)
is-names r store some most k once = record {
  opened = store.opened;
  few = k.few;
  table = store.table;
  ids = k.ids;
  recent = k.recent;
  waits = waiting r.store.log.pending (service_of r).names store.waits k.waits;
  once = once;
  size = (some, most);
}

apart-of : (pending : Option EditOp) (s : NameState) → IfSome pending (IsWaiting s) → IfSome pending (IsPendingApart s)
apart-of None s h = tt
apart-of (Some o) s h = record { no_opening = h.pending.no_opening; below = h.below; free = h.free }

pub keeps-of : (s : NameService) → IsNames s → Keeps s
keeps-of s n = record { few = n.few; ids = n.ids; recent = n.recent; waits = apart-of s.pending s.names n.waits }
