-- No batch of a walk has a file twice.
use Rattle.std.proofs.Common.{◌≡◌, ℕ, suc, zero, Bool, true, false, cond, not, ◌&&◌, ◌||◌, List, [], ◌∷◌, ◌++◌, take, Option, Some, None, refl, sym, ap, ◌∙◌, subst}
use Rattle.std.specs.Prelude.{◌==◌}
use Rattle.std.specs.List.{cons_option, filter, list_any}
use Rattle.std.specs.Option.{option_map, option_map_or}
use Rattle.std.proofs.lemmas.List.Elements.{recursion_from_All}
use Rattle.std.proofs.lemmas.Bool.{eqb-true, and_parts, and_from}
use Rattle.hk_base.specs.Names.{Encrypted}
use Rattle.edit_ops.specs.declared.ops.EditOp.{EditOp}
use Rattle.edit_ops.specs.declared.ops.EditOp.TheVariants as op
use Rattle.inode_tree.specs.Rows.{Entry, IsRows, entry_of}
use Rattle.inode_tree.proofs.MovedLaws.{HasIds, has-ids}
use Rattle.inode_tree.specs.ZoneFiles.{edek_of}
use Rattle.reenc_walk.specs.declared.batches.WalkedBatch.{WalkedBatch}
use Rattle.reenc_walk.specs.declared.sent.Sent.{Sent}
use Rattle.reenc_walk.specs.Files.{is_after, is_file_of, last_in, path_in, same_edek, same_file, same_sent, sent_list, walk_list}
use Rattle.reenc_walk.specs.Walks.{WalkState, from_outstanding, has_batch, is_of, next_files, retire, retired, walked}
use Rattle.zone_table.specs.declared.statuses.StatusRow.{StatusRow}
use Rattle.zone_table.specs.Statuses.{session_goes_on}
use Rattle.name_core.specs.State.{BatchesOnce, WalksOnce, is_walk_of, retired_by, retired_under, sent_once, settled_walks, walk_under, walks_after, with_walk}
use Rattle.name_core.specs.Steps.{walks_with}
use Rattle.name_core.specs.Walks.{going_on, or_new_walk, walk_of}

-- batches that are retired

once-retired : (sent : List Sent) (bs : List WalkedBatch) → BatchesOnce bs → BatchesOnce (retired sent bs)
once-retired sent [] h = tt
once-retired sent (b ∷ bs) h = go (is_of sent b) (once-retired sent bs h.1)
  where
    go : (t : Bool) → BatchesOnce (retired sent bs) → BatchesOnce (cond t (record b { outstanding = false } ∷ bs) (b ∷ retired sent bs))
    go true rest = (h.0, h.1)
    go false rest = (h.0, rest)

once-from : (bs : List WalkedBatch) → BatchesOnce bs → BatchesOnce (from_outstanding bs)
once-from [] h = tt
once-from (b ∷ bs) h = go b.outstanding (once-from bs h.1)
  where
    go : (t : Bool) → BatchesOnce (from_outstanding bs) → BatchesOnce (cond t (b ∷ bs) (from_outstanding bs))
    go true rest = h
    go false rest = rest

once-with : (w : WalkState) (ws : List WalkState) → BatchesOnce w.batches → WalksOnce ws → WalksOnce (with_walk w ws)
once-with w [] h k = (h, tt)
once-with w (x ∷ ws) h k = go (is_walk_of w.session x) (once-with w ws h k.1)
  where
    go : (t : Bool) → WalksOnce (with_walk w ws) → WalksOnce (cond t (w ∷ ws) (x ∷ with_walk w ws))
    go true rest = (h, k.1)
    go false rest = (k.0, rest)

-- the walk of a session
pub once-under : (ws : List WalkState) (session : ℕ) (w : WalkState) → WalksOnce ws → walk_under ws session ≡ Some w → BatchesOnce w.batches
once-under [] session w h is = absurd cc
once-under (x ∷ ws) session w h is = go (is_walk_of session x) is (once-under ws session w h.1)
  where
    go : (t : Bool) → cond t (Some x) (walk_under ws session) ≡ Some w → (walk_under ws session ≡ Some w → BatchesOnce w.batches) → BatchesOnce w.batches
    go true is rest = let same : x ≡ w = cc in subst (λ (y : WalkState). BatchesOnce y.batches) same h.0
    go false is rest = rest is

once-retired-under : (session : ℕ) (sent : List Sent) (ws : List WalkState) → WalksOnce ws → WalksOnce (retired_under session sent ws)
once-retired-under session sent ws h = go (walk_under ws session) refl
  where
    go : (o : Option WalkState) → walk_under ws session ≡ o → WalksOnce (option_map_or (λ w. with_walk (retire sent w) ws) o ws)
    go None is = h
    go (Some w) is = once-with (retire sent w) ws (once-from (retired sent w.batches) (once-retired sent w.batches (once-under ws session w h is))) h

once-by : (sent : Option (List Sent)) (session : ℕ) (ws : List WalkState) → WalksOnce ws → WalksOnce (retired_by sent session ws)
once-by None session ws h = h
once-by (Some sent) session ws h = once-retired-under session sent ws h

-- an operation took effect
pub once-after : (sent : Option (List Sent)) (o : EditOp) (ws : List WalkState) → WalksOnce ws → WalksOnce (walks_after sent o ws)
once-after sent (op.Opened opening) ws h = h
once-after sent (op.Mkdir id p) ws h = h
once-after sent (op.File id p edek) ws h = h
once-after sent (op.Remove p) ws h = h
once-after sent (op.Rename p q) ws h = h
once-after sent (op.Zone p key) ws h = h
once-after sent (op.Allow p) ws h = h
once-after sent (op.Disallow p) ws h = h
once-after sent (op.Snap p name) ws h = h
once-after sent (op.Unsnap p name) ws h = h
once-after sent (op.Submit session p noted) ws h = h
once-after sent (op.Update session failed mark files) ws h = once-by sent session ws h
once-after sent (op.Cancel session) ws h = h
once-after sent (op.Complete session) ws h = h

pub once-settled : (kept : Bool) (pending : Option EditOp) (sent : Option (List Sent)) (ws : List WalkState) → WalksOnce ws → WalksOnce (settled_walks kept pending sent ws)
once-settled kept None sent ws h = h
once-settled true (Some o) sent ws h = once-after sent o ws h
once-settled false (Some o) sent ws h = h

pub once-with-kept : (kept : Option EditOp) (sent : Option (List Sent)) (ws : List WalkState) → WalksOnce ws → WalksOnce (walks_with kept sent ws)
once-with-kept None sent ws h = h
once-with-kept (Some o) sent ws h = once-after sent o ws h

-- a batch that is taken

free-parts : (x : Entry) (rows : List Entry) (id : ℕ) → entry_of (x ∷ rows) id ≡ None → ((x.row.id == id) ≡ false) × (entry_of rows id ≡ None)
free-parts x rows id h = go (x.row.id == id) h
  where
    go : (t : Bool) → cond t (Some x) (entry_of rows id) ≡ None → (t ≡ false) × (entry_of rows id ≡ None)
    go true e = absurd cc
    go false e = (refl, e)

free-join : (x : Entry) (rows : List Entry) (id : ℕ) → (x.row.id == id) ≡ false → entry_of rows id ≡ None → entry_of (x ∷ rows) id ≡ None
free-join x rows id h k = ap (λ (t : Bool). cond t (Some x) (entry_of rows id)) h ∙ k

filter-free : (test : Entry → Bool) (rows : List Entry) (id : ℕ) → entry_of rows id ≡ None → entry_of (filter test rows) id ≡ None
filter-free test [] id h = refl
filter-free test (x ∷ rows) id h = let parts = free-parts x rows id h in go (test x) parts.0 (filter-free test rows id parts.1)
  where
    go : (b : Bool) → (x.row.id == id) ≡ false → entry_of (filter test rows) id ≡ None → entry_of (cond b (x ∷ filter test rows) (filter test rows)) id ≡ None
    go true apart rest = free-join x (filter test rows) id apart rest
    go false apart rest = rest

filter-ids : (test : Entry → Bool) (rows : List Entry) → HasIds rows → HasIds (filter test rows)
filter-ids test [] h = tt
filter-ids test (x ∷ rows) h = go (test x) (filter-ids test rows h.1)
  where
    go : (b : Bool) → HasIds (filter test rows) → HasIds (cond b (x ∷ filter test rows) (filter test rows))
    go true rest = (filter-free test rows x.row.id h.0, rest)
    go false rest = rest

take-free : (n : ℕ) (rows : List Entry) (id : ℕ) → entry_of rows id ≡ None → entry_of (take n rows) id ≡ None
take-free zero rows id h = refl
take-free (suc n) [] id h = refl
take-free (suc n) (x ∷ rows) id h = let parts = free-parts x rows id h in free-join x (take n rows) id parts.0 (take-free n rows id parts.1)

take-ids : (n : ℕ) (rows : List Entry) → HasIds rows → HasIds (take n rows)
take-ids zero rows h = tt
take-ids (suc n) [] h = tt
take-ids (suc n) (x ∷ rows) h = (take-free n rows x.row.id h.0, take-ids n rows h.1)

pub sent-free : (rows : List Entry) (id : ℕ) → entry_of rows id ≡ None → list_any (λ (y : Sent). y.id == id) (sent_list rows) ≡ false
sent-free [] id h = refl
sent-free (x ∷ rows) id h = let parts = free-parts x rows id h in go (edek_of x.row.kind) parts.0 (sent-free rows id parts.1)
  where
    go : (o : Option Encrypted) → (x.row.id == id) ≡ false → list_any (λ (y : Sent). y.id == id) (sent_list rows) ≡ false
        → list_any (λ (y : Sent). y.id == id) (cons_option (option_map (λ edek. record { id = x.row.id; edek = edek }) o) (sent_list rows)) ≡ false
    go None apart rest = rest
    go (Some edek) apart rest = ap (λ (b : Bool). b || list_any (λ (y : Sent). y.id == id) (sent_list rows)) apart ∙ rest

pub sent-ids : (rows : List Entry) → HasIds rows → sent_once (sent_list rows) ≡ true
sent-ids [] h = refl
sent-ids (x ∷ rows) h = go (edek_of x.row.kind) (sent-ids rows h.1)
  where
    go : (o : Option Encrypted) → sent_once (sent_list rows) ≡ true → sent_once (cons_option (option_map (λ edek. record { id = x.row.id; edek = edek }) o) (sent_list rows)) ≡ true
    go None rest = rest
    go (Some edek) rest = and_from (not (list_any (λ (y : Sent). y.id == x.row.id) (sent_list rows))) (sent_once (sent_list rows)) (ap not (sent-free rows x.row.id h.0)) rest

-- the files that a walk takes come once
pub taken-once : (rows : List Entry) (zone size : ℕ) (w : WalkState) → IsRows rows → sent_once (sent_list (next_files rows zone size w)) ≡ true
taken-once rows zone size w good =
    sent-ids (next_files rows zone size w)
    (take-ids size (walk_list rows zone w.cursor)
    (filter-ids (λ (e : Entry). is_file_of rows zone e && is_after w.cursor (path_in rows zone e.path)) rows
    (has-ids rows good.rising (recursion_from_All (λ (e : Entry). entry_of rows e.row.id ≡ Some e) rows good.once))))

once-more : (bs : List WalkedBatch) (b : WalkedBatch) → sent_once b.sent ≡ true → BatchesOnce bs → BatchesOnce (bs ++ b ∷ [])
once-more [] b is h = (is, tt)
once-more (x ∷ bs) b is h = (h.0, once-more bs b is h.1)

once-of : (ws : List WalkState) (st : StatusRow) → WalksOnce ws → BatchesOnce (walk_of ws st).batches
once-of ws st h = go (walk_under ws st.session) refl
  where
    go : (o : Option WalkState) → walk_under ws st.session ≡ o → BatchesOnce (or_new_walk o st).batches
    go None is = tt
    go (Some w) is = once-under ws st.session w h is

once-going : (statuses : List StatusRow) (ws : List WalkState) → WalksOnce ws → WalksOnce (going_on statuses ws)
once-going statuses [] h = tt
once-going statuses (w ∷ ws) h = go (session_goes_on statuses w.session) (once-going statuses ws h.1)
  where
    go : (b : Bool) → WalksOnce (going_on statuses ws) → WalksOnce (cond b (w ∷ going_on statuses ws) (going_on statuses ws))
    go true rest = (h.0, rest)
    go false rest = rest

-- a walk takes its next batch, and the ended ones are forgotten
pub once-walked : (rows : List Entry) (statuses : List StatusRow) (zone size : ℕ) (st : StatusRow) (ws : List WalkState) → IsRows rows → WalksOnce ws
    → WalksOnce (going_on statuses (with_walk (walked rows zone size (walk_of ws st)) ws))
once-walked rows statuses zone size st ws good h =
    let w = walk_of ws st in
    once-going statuses (with_walk (walked rows zone size w) ws)
    (once-with (walked rows zone size w) ws
    (once-more w.batches (record { sent = sent_list (next_files rows zone size w); last = last_in rows zone (next_files rows zone size w); outstanding = true }) (taken-once rows zone size w good) (once-of ws st h)) h)

-- the files of a batch that is outstanding

same-has : (xs ys : List Sent) (id : ℕ) → same_sent xs ys ≡ true → list_any (λ (y : Sent). y.id == id) xs ≡ list_any (λ (y : Sent). y.id == id) ys
same-has [] [] id h = refl
same-has [] (y ∷ ys) id h = absurd cc
same-has (x ∷ xs) [] id h = absurd cc
same-has (x ∷ xs) (y ∷ ys) id h =
    let parts = and_parts (same_file x y) (same_sent xs ys) h in
    let same : x.id ≡ y.id = eqb-true x.id y.id (and_parts (x.id == y.id) (same_edek x.edek y.edek) parts.0).0 in
    let rest = same-has xs ys id parts.1 in
    λ i. (same i == id) || rest i

same-once : (xs ys : List Sent) → same_sent xs ys ≡ true → sent_once xs ≡ sent_once ys
same-once [] [] h = refl
same-once [] (y ∷ ys) h = absurd cc
same-once (x ∷ xs) [] h = absurd cc
same-once (x ∷ xs) (y ∷ ys) h =
    let parts = and_parts (same_file x y) (same_sent xs ys) h in
    let same : x.id ≡ y.id = eqb-true x.id y.id (and_parts (x.id == y.id) (same_edek x.edek y.edek) parts.0).0 in
    let rest = same-once xs ys parts.1 in
    ap (λ (id : ℕ). not (list_any (λ (z : Sent). z.id == id) xs) && sent_once xs) same
    ∙ (λ i. not (same-has xs ys y.id parts.1 i) && rest i)

pub batch-once : (bs : List WalkedBatch) (sent : List Sent) → BatchesOnce bs → has_batch bs sent ≡ true → sent_once sent ≡ true
batch-once [] sent h has = absurd cc
batch-once (b ∷ bs) sent h has = go (is_of sent b) refl has (batch-once bs sent h.1)
  where
    go : (t : Bool) → is_of sent b ≡ t → (t || has_batch bs sent) ≡ true → (has_batch bs sent ≡ true → sent_once sent ≡ true) → sent_once sent ≡ true
    go true is has rest = sym (same-once b.sent sent (and_parts b.outstanding (same_sent b.sent sent) is).1) ∙ h.0
    go false is has rest = rest has
