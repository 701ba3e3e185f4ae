-- What the operations of a log keep of the rules of images.
use Rattle.std.proofs.Common.{◌≡◌, ℕ, ◌+◌, ◌*◌, ◌^◌, ◌<◌, ◌≤◌, suc, Bool, true, false, cond, not, ◌&&◌, ◌||◌, ◌==◌, List, [], ◌∷◌, length, Option, Some, refl, sym, ap, ◌∙◌, arith}
use Rattle.std.specs.Prelude.{is_none, nat_le, nat_lt}
use Rattle.std.specs.List.{All, AllByRecursion, filter, list_any}
use Rattle.std.proofs.lemmas.Bool.{and_parts}
use Rattle.std.proofs.lemmas.Bool.Decides.{Decides-eqb, nat_tests}
use Rattle.std.proofs.lemmas.List.{length-map}
use Rattle.std.proofs.lemmas.List.Elements.{All-cons, All-from_recursion, All-nil, All-weaker}
use Rattle.name_calls.specs.Paths.{is_before, is_prefix}
use Rattle.name_calls.specs.declared.paths.NPath.{NPath}
use Rattle.inode_tree.specs.Moves.{moved, renamed}
use Rattle.inode_tree.specs.Rows.{Entry, entry_of, put, set_kind, with_kind}
use Rattle.inode_tree.specs.declared.rows.Kind.TheVariants.{Dir, File}
use Rattle.edit_ops.specs.declared.files.FileKey.{FileKey}
use Rattle.edit_ops.specs.declared.ops.EditOp.{EditOp}
use Rattle.edit_ops.specs.declared.ops.EditOp.TheVariants as op
use Rattle.zone_table.specs.declared.statuses.StatusRow.{StatusRow}
use Rattle.zone_table.specs.Statuses.{counted, ended, goes_on_under, is_of, with_counts, with_end, with_status}
use Rattle.name_store.specs.Causes.{id_at, make_causes, row_causes}
use Rattle.name_store.specs.Replay.{name_replay}
use Rattle.name_store.specs.Table.{NameTable, Replayed, after_table, allows, is_fresh, is_of_opening, is_opening, may_use, may_use_all, new_directory, new_file, nothing_logged, uses, with_edeks}
use Rattle.name_store.proofs.CauseLemmas.{allowed, id-may-be-used, none-of-both, row-left}
use Rattle.name_store.proofs.IdLemmas.{from_first, kept, rows_have}
use Rattle.name_images.specs.Images.{is_id_up_to, is_of_opening_up_to, zones_once}
use Rattle.name_images.proofs.ByZone.{unless}

eq-turned : (a b : ℕ) → (a == b) ≡ (b == a)
eq-turned a b = grind (arith, nat_tests)

neither : (a b : Bool) → (a || b) ≡ false → (a ≡ false) × (b ≡ false)
neither true b h = cc
neither false b h = (refl, h)

-- no zone has two statuses

any-with : (z : ℕ) (s : StatusRow) (ts : List StatusRow) → (s.zone == z) ≡ false → list_any (is_of z) ts ≡ false → list_any (is_of z) (with_status s ts) ≡ false
any-with z s [] e h = ap (λ (b : Bool). b || false) e
any-with z s (t ∷ ts) e h = go (is_of s.zone t) (any-with z s ts e) (neither (t.zone == z) (list_any (is_of z) ts) h)
  where
    go : (b : Bool) → (list_any (is_of z) ts ≡ false → list_any (is_of z) (with_status s ts) ≡ false) → ((t.zone == z) ≡ false) × (list_any (is_of z) ts ≡ false) → list_any (is_of z) (cond b (s ∷ ts) (t ∷ with_status s ts)) ≡ false
    go true ih g = λ i. e i || g.1 i
    go false ih g = λ i. g.0 i || ih g.1 i

once-with : (s : StatusRow) (ts : List StatusRow) → zones_once ts ≡ true → zones_once (with_status s ts) ≡ true
once-with s [] h = refl
once-with s (t ∷ ts) h = go (t.zone == s.zone) refl (once-with s ts) (unless (list_any (is_of t.zone) ts) (zones_once ts) h)
  where
    go : (b : Bool) → (t.zone == s.zone) ≡ b → (zones_once ts ≡ true → zones_once (with_status s ts) ≡ true) → (list_any (is_of t.zone) ts ≡ false) × (zones_once ts ≡ true) → zones_once (cond b (s ∷ ts) (t ∷ with_status s ts)) ≡ true
    go true e ih g = let same : t.zone ≡ s.zone = (Decides-eqb t.zone s.zone).0 e in λ i. not ((ap (λ (z : ℕ). list_any (is_of z) ts) (sym same) ∙ g.0) i) && g.1 i
    go false e ih g = λ i. not (any-with t.zone s ts (eq-turned s.zone t.zone ∙ e) g.0 i) && ih g.1 i

end-zone : (session : ℕ) (cancelled : Bool) (s : StatusRow) → (with_end session cancelled s).zone ≡ s.zone
end-zone session cancelled s = go (goes_on_under session s)
  where
    go : (b : Bool) → (cond b (record s { completed = true; cancelled = cancelled }) s).zone ≡ s.zone
    go true = refl
    go false = refl

any-ended : (z session : ℕ) (cancelled : Bool) (ss : List StatusRow) → list_any (is_of z) (ended session cancelled ss) ≡ list_any (is_of z) ss
any-ended z session cancelled [] = refl
any-ended z session cancelled (s ∷ ss) = λ i. (end-zone session cancelled s i == z) || any-ended z session cancelled ss i

once-ended : (session : ℕ) (cancelled : Bool) (ss : List StatusRow) → zones_once (ended session cancelled ss) ≡ zones_once ss
once-ended session cancelled [] = refl
once-ended session cancelled (s ∷ ss) =
    (λ i. not ((ap (λ (z : ℕ). list_any (is_of z) (ended session cancelled ss)) (end-zone session cancelled s) ∙ any-ended s.zone session cancelled ss) i) && once-ended session cancelled ss i)

any-counted : (z session changed failed : ℕ) (mark : Option NPath) (ss : List StatusRow) → list_any (is_of z) (counted session changed failed mark ss) ≡ list_any (is_of z) ss
any-counted z session changed failed mark [] = refl
any-counted z session changed failed mark (s ∷ ss) = go (goes_on_under session s) (any-counted z session changed failed mark ss)
  where
    go : (b : Bool) → list_any (is_of z) (counted session changed failed mark ss) ≡ list_any (is_of z) ss → list_any (is_of z) (cond b (with_counts changed failed mark s ∷ ss) (s ∷ counted session changed failed mark ss)) ≡ list_any (is_of z) (s ∷ ss)
    go true ih = refl
    go false ih = λ i. (s.zone == z) || ih i

once-counted : (session changed failed : ℕ) (mark : Option NPath) (ss : List StatusRow) → zones_once (counted session changed failed mark ss) ≡ zones_once ss
once-counted session changed failed mark [] = refl
once-counted session changed failed mark (s ∷ ss) = go (goes_on_under session s) (once-counted session changed failed mark ss)
  where
    go : (b : Bool) → zones_once (counted session changed failed mark ss) ≡ zones_once ss → zones_once (cond b (with_counts changed failed mark s ∷ ss) (s ∷ counted session changed failed mark ss)) ≡ zones_once (s ∷ ss)
    go true ih = refl
    go false ih = λ i. not (any-counted s.zone session changed failed mark ss i) && ih i

any-left : (p q : StatusRow → Bool) (ss : List StatusRow) → list_any q ss ≡ false → list_any q (filter p ss) ≡ false
any-left p q [] h = refl
any-left p q (s ∷ ss) h = go (p s) (any-left p q ss) (neither (q s) (list_any q ss) h)
  where
    go : (b : Bool) → (list_any q ss ≡ false → list_any q (filter p ss) ≡ false) → (q s ≡ false) × (list_any q ss ≡ false) → list_any q (cond b (s ∷ filter p ss) (filter p ss)) ≡ false
    go true ih g = λ i. g.0 i || ih g.1 i
    go false ih g = ih g.1

once-left : (p : StatusRow → Bool) (ss : List StatusRow) → zones_once ss ≡ true → zones_once (filter p ss) ≡ true
once-left p [] h = refl
once-left p (s ∷ ss) h = go (p s) (once-left p ss) (unless (list_any (is_of s.zone) ss) (zones_once ss) h)
  where
    go : (b : Bool) → (zones_once ss ≡ true → zones_once (filter p ss) ≡ true) → (list_any (is_of s.zone) ss ≡ false) × (zones_once ss ≡ true) → zones_once (cond b (s ∷ filter p ss) (filter p ss)) ≡ true
    go true ih g = λ i. not (any-left p (is_of s.zone) ss g.0 i) && ih g.1 i
    go false ih g = ih g.1

once-after : (t : NameTable) (o : EditOp) → zones_once t.statuses ≡ true → zones_once (after_table t o).statuses ≡ true
once-after t (op.Opened opening) h = h
once-after t (op.Mkdir id p) h = h
once-after t (op.File id p edek) h = h
once-after t (op.Remove p) h = once-left _ t.statuses h
once-after t (op.Rename p q) h = h
once-after t (op.Zone p key) h = h
once-after t (op.Allow p) h = h
once-after t (op.Disallow p) h = h
once-after t (op.Snap p name) h = h
once-after t (op.Unsnap p name) h = h
once-after t (op.Submit session p noted) h = once-with _ t.statuses h
once-after t (op.Update session failed mark files) h = once-counted session (length files) failed mark t.statuses ∙ h
once-after t (op.Cancel session) h = once-ended session true t.statuses ∙ h
once-after t (op.Complete session) h = once-ended session false t.statuses ∙ h

pub zones-reached : (ops : List EditOp) (r : Replayed) → name_replay nothing_logged ops ≡ Some r → zones_once r.table.statuses ≡ true
zones-reached ops r is = kept (λ (q : Replayed). zones_once q.table.statuses ≡ true) (λ q o may h. once-after q.table o h) nothing_logged r ops refl is

-- there are at most 1,000,000 rows

length-put : (e : Entry) (es : List Entry) → length (put e es) ≡ suc (length es)
length-put e [] = refl
length-put e (x ∷ es) = go (is_before e.path x.path) (length-put e es)
  where
    go : (b : Bool) → length (put e es) ≡ suc (length es) → length (cond b (e ∷ x ∷ es) (x ∷ put e es)) ≡ suc (suc (length es))
    go true ih = refl
    go false ih = ap suc ih

length-renamed : (p q : List (List ℕ)) (es : List Entry) → length (renamed p q es) ≡ length es
length-renamed p q [] = refl
length-renamed p q (e ∷ es) = length-put (moved p q e) (renamed p q es) ∙ ap suc (length-renamed p q es)

length-left : (p : Entry → Bool) (es : List Entry) → length (filter p es) ≤ length es
length-left p [] = omega arith
length-left p (e ∷ es) = go (p e) (length-left p es)
  where
    go : (b : Bool) → length (filter p es) ≤ length es → length (cond b (e ∷ filter p es) (filter p es)) ≤ length (e ∷ es)
    go true ih = omega (arith, ih)
    go false ih = omega (arith, ih)

length-edeks : (fs : List FileKey) (es : List Entry) → length (with_edeks fs es) ≡ length es
length-edeks [] es = refl
length-edeks (f ∷ fs) es = length-edeks fs (set_kind es f.id (File (Some f.edek))) ∙ length-map es (with_kind f.id (File (Some f.edek)))

few-after : (t : NameTable) (o : EditOp) → allows t o ≡ true → length t.rows ≤ 1000000 → length (after_table t o).rows ≤ 1000000
few-after t (op.Opened opening) may h = h
few-after t (op.Mkdir id p) may h = let less = row-left t.rows (none-of-both (make_causes t.rows p) (row_causes t.rows) (allowed t (op.Mkdir id p) refl may).free).1 in omega (arith, less, length-put (new_directory id p) t.rows)
few-after t (op.File id p edek) may h = let less = row-left t.rows (none-of-both (make_causes t.rows p) (row_causes t.rows) (allowed t (op.File id p edek) refl may).free).1 in omega (arith, less, length-put (new_file id p edek) t.rows)
few-after t (op.Remove p) may h = let less = length-left (λ e. not (is_prefix p e.path)) t.rows in omega (arith, less, h)
few-after t (op.Rename p q) may h = let same = length-renamed p q t.rows in omega (arith, same, h)
few-after t (op.Zone p key) may h = let same = length-map t.rows (with_kind (id_at t.rows p) (Dir (Some key))) in omega (arith, same, h)
few-after t (op.Allow p) may h = h
few-after t (op.Disallow p) may h = h
few-after t (op.Snap p name) may h = h
few-after t (op.Unsnap p name) may h = h
few-after t (op.Submit session p noted) may h = h
few-after t (op.Update session failed mark files) may h = let same = length-edeks files t.rows in omega (arith, same, h)
few-after t (op.Cancel session) may h = h
few-after t (op.Complete session) may h = h

pub few-reached : (ops : List EditOp) (r : Replayed) → name_replay nothing_logged ops ≡ Some r → length r.table.rows ≤ 1000000
few-reached ops r is = kept (λ (q : Replayed). length q.table.rows ≤ 1000000) (λ q o may h. few-after q.table o (and_parts (allows q.table o) (is_fresh q.used o) may).0 h) nothing_logged r ops (omega arith) is

-- the ids of rows are of the openings so far

or-true : (b : Bool) → (b || true) ≡ true
or-true true = refl
or-true false = refl

own-opening : (opening id : ℕ) → 0 < opening → is_of_opening opening id ≡ true → is_of_opening_up_to opening id ≡ true
own-opening opening id some h =
    let parts = and_parts (nat_le (opening * 2 ^ 32) id) (nat_lt id ((opening + 1) * 2 ^ 32)) h in
    let first : opening * 2 ^ 32 ≤ id = from_first opening id h in
    let low : nat_le (2 ^ 32) id ≡ true = from-first id (omega (arith, first, some)) in
    λ i. low i && parts.1 i
  where
    from-first : (n : ℕ) → 2 ^ 32 ≤ n → nat_le (2 ^ 32) n ≡ true
    from-first n le = grind (arith, nat_tests)

some-opening : (n : ℕ) → nat_lt 0 n ≡ true → 0 < n
some-opening n lt = grind (arith, nat_tests)

own-session : (opening id : ℕ) → nat_lt 0 opening ≡ true → is_of_opening opening id ≡ true → is_of_opening_up_to opening id ≡ true
own-session opening id lt h = own-opening opening id (some-opening opening lt) h

own-id : (opening id : ℕ) → 0 < opening → is_of_opening opening id ≡ true → is_id_up_to opening id ≡ true
own-id opening id some h = (λ i. (id == 0) || own-opening opening id some h i) ∙ or-true (id == 0)

of-later : (a b id : ℕ) → b ≡ a + 1 → is_of_opening_up_to a id ≡ true → is_of_opening_up_to b id ≡ true
of-later a b id next e =
    let parts = and_parts (nat_le (2 ^ 32) id) (nat_lt id ((a + 1) * 2 ^ 32)) e in
    λ i. parts.0 i && below id ((a + 1) * 2 ^ 32) ((b + 1) * 2 ^ 32) parts.1 (omega (arith, next)) i
  where
    below : (n c d : ℕ) → nat_lt n c ≡ true → c ≤ d → nat_lt n d ≡ true
    below n c d lt le = grind (arith, nat_tests)

id-later : (a b id : ℕ) → b ≡ a + 1 → is_id_up_to a id ≡ true → is_id_up_to b id ≡ true
id-later a b id next h = go (id == 0) h
  where
    go : (t : Bool) → (t || is_of_opening_up_to a id) ≡ true → (t || is_of_opening_up_to b id) ≡ true
    go true e = refl
    go false e = of-later a b id next e

abbrev AreUpTo : NameTable → Type 0
AreUpTo t = All (λ e. is_id_up_to t.opening e.row.id ≡ true) t.rows

all-may : (t : NameTable) (ids : List ℕ) → 0 < t.opening → may_use_all t ids ≡ true → AllByRecursion (λ (id : ℕ). is_id_up_to t.opening id ≡ true) ids
all-may t [] some h = tt
all-may t (id ∷ ids) some h =
    let parts = and_parts (may_use t id) (may_use_all t ids) h in
    (own-id t.opening id some (and_parts (is_of_opening t.opening id) (is_none (entry_of t.rows id)) parts.0).0, all-may t ids some parts.1)

same-opening : (t : NameTable) (o : EditOp) → allows t o ≡ true → is_opening o ≡ false → AreUpTo t → All (λ e. is_id_up_to t.opening e.row.id ≡ true) (after_table t o).rows
same-opening t o may safe h =
    let a = allowed t o safe may in
    rows_have (λ (id : ℕ). is_id_up_to t.opening id ≡ true) t o (all-may t (uses o) (some-opening t.opening a.opened) a.ids) h

ids-after : (t : NameTable) (o : EditOp) → allows t o ≡ true → AreUpTo t → AreUpTo (after_table t o)
ids-after t (op.Opened opening) may h =
    let next : opening ≡ t.opening + 1 = (Decides-eqb opening (t.opening + 1)).0 may in
    All-weaker (λ (e : Entry). is_id_up_to t.opening e.row.id ≡ true) (λ (e : Entry). is_id_up_to opening e.row.id ≡ true) (λ e up. id-later t.opening opening e.row.id next up) t.rows h
ids-after t (op.Mkdir id p) may h = same-opening t (op.Mkdir id p) may refl h
ids-after t (op.File id p edek) may h = same-opening t (op.File id p edek) may refl h
ids-after t (op.Remove p) may h = same-opening t (op.Remove p) may refl h
ids-after t (op.Rename p q) may h = same-opening t (op.Rename p q) may refl h
ids-after t (op.Zone p key) may h = same-opening t (op.Zone p key) may refl h
ids-after t (op.Allow p) may h = h
ids-after t (op.Disallow p) may h = h
ids-after t (op.Snap p name) may h = h
ids-after t (op.Unsnap p name) may h = h
ids-after t (op.Submit session p noted) may h = h
ids-after t (op.Update session failed mark files) may h = same-opening t (op.Update session failed mark files) may refl h
ids-after t (op.Cancel session) may h = h
ids-after t (op.Complete session) may h = h

pub ids-reached : (ops : List EditOp) (r : Replayed) → name_replay nothing_logged ops ≡ Some r → All (λ e. is_id_up_to r.table.opening e.row.id ≡ true) r.table.rows
ids-reached ops r is =
    kept (λ (q : Replayed). AreUpTo q.table) (λ q o may h. ids-after q.table o (and_parts (allows q.table o) (is_fresh q.used o) may).0 h) nothing_logged r ops
    (All-cons (λ (e : Entry). is_id_up_to 0 e.row.id ≡ true) _ [] refl (All-nil (λ (e : Entry). is_id_up_to 0 e.row.id ≡ true))) is

-- the sessions of statuses are of the openings so far

abbrev AreSessionsUpTo : ℕ → List StatusRow → Type 0
AreSessionsUpTo opening ss = AllByRecursion (λ s. is_of_opening_up_to opening s.session ≡ true) ss

sessions-with : (opening : ℕ) (s : StatusRow) (ts : List StatusRow) → is_of_opening_up_to opening s.session ≡ true → AreSessionsUpTo opening ts → AreSessionsUpTo opening (with_status s ts)
sessions-with opening s [] own all = (own, tt)
sessions-with opening s (t ∷ ts) own all = go (is_of s.zone t) (sessions-with opening s ts own all.1)
  where
    go : (b : Bool) → AreSessionsUpTo opening (with_status s ts) → AreSessionsUpTo opening (cond b (s ∷ ts) (t ∷ with_status s ts))
    go true rest = (own, all.1)
    go false rest = (all.0, rest)

sessions-ended : (opening session : ℕ) (cancelled : Bool) (ss : List StatusRow) → AreSessionsUpTo opening ss → AreSessionsUpTo opening (ended session cancelled ss)
sessions-ended opening session cancelled [] all = tt
sessions-ended opening session cancelled (s ∷ ss) all = (go (goes_on_under session s), sessions-ended opening session cancelled ss all.1)
  where
    go : (b : Bool) → is_of_opening_up_to opening (cond b (record s { completed = true; cancelled = cancelled }) s).session ≡ true
    go true = all.0
    go false = all.0

sessions-counted : (opening session changed failed : ℕ) (mark : Option NPath) (ss : List StatusRow) → AreSessionsUpTo opening ss → AreSessionsUpTo opening (counted session changed failed mark ss)
sessions-counted opening session changed failed mark [] all = tt
sessions-counted opening session changed failed mark (s ∷ ss) all = go (goes_on_under session s) (sessions-counted opening session changed failed mark ss all.1)
  where
    go : (b : Bool) → AreSessionsUpTo opening (counted session changed failed mark ss) → AreSessionsUpTo opening (cond b (with_counts changed failed mark s ∷ ss) (s ∷ counted session changed failed mark ss))
    go true rest = all
    go false rest = (all.0, rest)

sessions-left : (opening : ℕ) (p : StatusRow → Bool) (ss : List StatusRow) → AreSessionsUpTo opening ss → AreSessionsUpTo opening (filter p ss)
sessions-left opening p [] all = tt
sessions-left opening p (s ∷ ss) all = go (p s) (sessions-left opening p ss all.1)
  where
    go : (b : Bool) → AreSessionsUpTo opening (filter p ss) → AreSessionsUpTo opening (cond b (s ∷ filter p ss) (filter p ss))
    go true rest = (all.0, rest)
    go false rest = rest

sessions-later : (a b : ℕ) (ss : List StatusRow) → b ≡ a + 1 → AreSessionsUpTo a ss → AreSessionsUpTo b ss
sessions-later a b [] next all = tt
sessions-later a b (s ∷ ss) next all = (of-later a b s.session next all.0, sessions-later a b ss next all.1)

sessions-after : (t : NameTable) (o : EditOp) → allows t o ≡ true → AreSessionsUpTo t.opening t.statuses → AreSessionsUpTo (after_table t o).opening (after_table t o).statuses
sessions-after t (op.Opened opening) may h = sessions-later t.opening opening t.statuses ((Decides-eqb opening (t.opening + 1)).0 may) h
sessions-after t (op.Mkdir id p) may h = h
sessions-after t (op.File id p edek) may h = h
sessions-after t (op.Remove p) may h = sessions-left t.opening _ t.statuses h
sessions-after t (op.Rename p q) may h = h
sessions-after t (op.Zone p key) may h = h
sessions-after t (op.Allow p) may h = h
sessions-after t (op.Disallow p) may h = h
sessions-after t (op.Snap p name) may h = h
sessions-after t (op.Unsnap p name) may h = h
sessions-after t (op.Submit session p noted) may h =
    let a = allowed t (op.Submit session p noted) refl may in
    sessions-with t.opening _ t.statuses (own-session t.opening session a.opened (id-may-be-used t session a.ids).of_opening) h
sessions-after t (op.Update session failed mark files) may h = sessions-counted t.opening session (length files) failed mark t.statuses h
sessions-after t (op.Cancel session) may h = sessions-ended t.opening session true t.statuses h
sessions-after t (op.Complete session) may h = sessions-ended t.opening session false t.statuses h

pub sessions-reached : (ops : List EditOp) (r : Replayed) → name_replay nothing_logged ops ≡ Some r → All (λ s. is_of_opening_up_to r.table.opening s.session ≡ true) r.table.statuses
sessions-reached ops r is =
    All-from_recursion (λ (s : StatusRow). is_of_opening_up_to r.table.opening s.session ≡ true) r.table.statuses
    (kept (λ (q : Replayed). AreSessionsUpTo q.table.opening q.table.statuses) (λ q o may h. sessions-after q.table o (and_parts (allows q.table o) (is_fresh q.used o) may).0 h) nothing_logged r ops tt is)
