-- Batches that are outstanding: their walks, and what their updates may change.
use Rattle.std.proofs.Common.{◌≡◌, ℕ, ◌+◌, ◌^◌, ◌<◌, ◌≤◌, Bool, true, false, cond, not, ◌&&◌, ◌||◌, List, [], ◌∷◌, set, get_or, Option, Some, None, is_some, refl, sym, ap, ◌∙◌, arith}
use Rattle.std.specs.Prelude.{◌==◌}
use Rattle.std.specs.List.{list_all, list_any, position}
use Rattle.std.specs.Option.{option_and_then, option_map_or}
use Rattle.std.specs.Str.{bytes_eq}
use Rattle.std.proofs.lemmas.Slice.Eq.{bytes_eq-Decides}
use Rattle.std.proofs.lemmas.Bool.{eqb-true, not-true, eq-eqb, and_parts, and_from as join}
use Rattle.hk_base.specs.Names.{Encrypted}
use Rattle.edit_ops.specs.declared.files.FileKey.{FileKey}
use Rattle.inode_tree.specs.Rows.{Entry, entry_of, same_id, zone_id}
use Rattle.inode_tree.specs.ZoneFiles.{edek_of, is_file_of}
use Rattle.name_calls.specs.declared.calls.NameRefusal.TheVariants as refusal
use Rattle.reenc_walk.specs.declared.sent.BatchNote.{BatchNote}
use Rattle.reenc_walk.specs.declared.sent.Sent.{Sent}
use Rattle.reenc_walk.specs.Files.{same_edek}
use Rattle.reenc_walk.specs.Walks.{WalkState, has_batch, retire}
use Rattle.reenc_update.specs.declared.reply.BatchResult.{BatchResult}
use Rattle.reenc_update.specs.declared.reply.BatchResult.TheVariants.{Refused, Ready}
use Rattle.reenc_update.specs.declared.changes.Changes.{Changes}
use Rattle.reenc_update.specs.Changes.{all_failed, changed, changes_of, has_edek, is_changed}
use Rattle.reenc_update.specs.Replies.{FitsSent, ReplyState, are_of_keys}
use Rattle.zone_table.specs.declared.statuses.StatusRow.{StatusRow}
use Rattle.zone_table.specs.Statuses.{goes_on, goes_on_under, session_goes_on, status_of}
use Rattle.zone_table.proofs.StatusLists.{found-at}
use Rattle.name_store.specs.Causes.{first_cause}
use Rattle.name_store.specs.Table.{NameTable, allows, ids_once, is_of_key, is_under, may_update}
use Rattle.name_core.specs.State.{AreRecent, IdsFit, NameState, WalksOnce, is_walk_of, next_id, retired_under, sent_once, walk_under, with_walk}
use Rattle.name_core.specs.Steps.{IsBehind, MayUpdate, MayWrite}
use Rattle.name_core.specs.Updates.{UpdateDeed, applied, deliver_deed, give_up_deed, has_note, ignored, is_outstanding, update_deed, update_op, walk_of_status}
use Rattle.name_core.proofs.AllowedLemmas.{none-taken, plainly-allowed}
use Rattle.name_core.proofs.OnceLemmas.{batch-once, once-under}
use Rattle.name_core.proofs.WalkLemmas.{found-goes, found-session, walk-placed}

-- a batch that is retired in its place

pub retired-placed : (session : ℕ) (sent : List Sent) (ws : List WalkState) (at : ℕ) (w w' : WalkState) (ws' : List WalkState) → Some at ≡ position (is_walk_of session) ws → w ≡ get_or ws at w
    → w' ≡ retire sent w → ws' ≡ set ws at w' → ws' ≡ retired_under session sent ws
retired-placed session sent ws at w w' ws' place here retires is =
    is ∙ ap (set ws at) retires
    ∙ walk-placed (retire sent w) ws at (place ∙ ap (λ (n : ℕ). position (is_walk_of n) ws) (sym (found-session ws session w (sym found))))
    ∙ ap (λ (o : Option WalkState). option_map_or (λ x. with_walk (retire sent x) ws) o ws) found
  where
    found : Some w ≡ walk_under ws session
    found = found-at (is_walk_of session) ws at w place here

pub retired-none : (session : ℕ) (sent : List Sent) (ws : List WalkState) → None ≡ walk_under ws session → ws ≡ retired_under session sent ws
retired-none session sent ws none = ap (λ (o : Option WalkState). option_map_or (λ x. with_walk (retire sent x) ws) o ws) none

-- the walk of an outstanding batch

pub record Outstanding (s : NameState) (note : BatchNote) : Type 0 where
  pub status : StatusRow
  pub found : status_of s.table.statuses note.zone ≡ Some status
  pub goes : goes_on status ≡ true
  pub session_is : status.session ≡ note.session
  pub walk : WalkState
  pub under : walk_under s.walks note.session ≡ Some walk
  pub has : has_batch walk.batches note.sent ≡ true

pub outstanding-at : (s : NameState) (note : BatchNote) → is_outstanding s note ≡ true → Outstanding s note
outstanding-at s note h = by-status (status_of s.table.statuses note.zone) refl h
  where
    by-walk : (st : StatusRow) → status_of s.table.statuses note.zone ≡ Some st → goes_on st ≡ true → (o : Option WalkState) → walk_under s.walks st.session ≡ o → option_map_or (has_note note) o false ≡ true
        → Outstanding s note
    by-walk st found goes None under h = absurd cc
    by-walk st found goes (Some w) under h =
        let parts = and_parts (w.session == note.session) (has_batch w.batches note.sent) h in
        let session : st.session ≡ note.session = sym (found-session s.walks st.session w under) ∙ eqb-true w.session note.session parts.0 in
        record { status = st; found = found; goes = goes; session_is = session; walk = w; under = ap (walk_under s.walks) (sym session) ∙ under; has = parts.1 }

    by-goes : (st : StatusRow) → status_of s.table.statuses note.zone ≡ Some st → (b : Bool) → goes_on st ≡ b → option_map_or (has_note note) (cond b (walk_under s.walks st.session) None) false ≡ true
        → Outstanding s note
    by-goes st found true goes h = by-walk st found goes (walk_under s.walks st.session) refl h
    by-goes st found false goes h = absurd cc

    by-status : (o : Option StatusRow) → status_of s.table.statuses note.zone ≡ o → option_map_or (has_note note) (option_and_then (walk_of_status s.walks) o) false ≡ true → Outstanding s note
    by-status None found h = absurd cc
    by-status (Some st) found h = by-goes st found (goes_on st) refl h

-- its walk has it
pub has-batch : (s : NameState) (note : BatchNote) → is_outstanding s note ≡ true → option_map_or (λ w. has_batch w.batches note.sent) (walk_under s.walks note.session) false ≡ true
has-batch s note h = let o = outstanding-at s note h in ap (λ (w : Option WalkState). option_map_or (λ w. has_batch w.batches note.sent) w false) o.under ∙ o.has

-- no file comes twice in it
pub note-once : (s : NameState) (note : BatchNote) → WalksOnce s.walks → is_outstanding s note ≡ true → sent_once note.sent ≡ true
note-once s note once h = let o = outstanding-at s note h in batch-once o.walk.batches note.sent (once-under s.walks note.session o.walk once o.under) o.has

-- the files that get other keys come once

changed-free : (rows : List Entry) (zone : ℕ) (xs : List Sent) (edeks : List Encrypted) (id : ℕ) → list_any (λ (y : Sent). y.id == id) xs ≡ false → list_any (λ (g : FileKey). g.id == id) (changed rows zone xs edeks) ≡ false
changed-free rows zone [] edeks id h = refl
changed-free rows zone (x ∷ xs) [] id h = refl
changed-free rows zone (x ∷ xs) (e ∷ es) id h = by (x.id == id) refl h (changed-free rows zone xs es id)
  where
    go : (b : Bool) → (x.id == id) ≡ false → list_any (λ (g : FileKey). g.id == id) (changed rows zone xs es) ≡ false
        → list_any (λ (g : FileKey). g.id == id) (cond b ((record { id = x.id; edek = e }) ∷ changed rows zone xs es) (changed rows zone xs es)) ≡ false
    go true apart rest = ap (λ (b : Bool). b || list_any (λ (g : FileKey). g.id == id) (changed rows zone xs es)) apart ∙ rest
    go false apart rest = rest

    by : (t : Bool) → (x.id == id) ≡ t → (t || list_any (λ (y : Sent). y.id == id) xs) ≡ false
        → (list_any (λ (y : Sent). y.id == id) xs ≡ false → list_any (λ (g : FileKey). g.id == id) (changed rows zone xs es) ≡ false)
        → list_any (λ (g : FileKey). g.id == id) (changed rows zone (x ∷ xs) (e ∷ es)) ≡ false
    by true is h rest = absurd cc
    by false is h rest = go (is_changed rows zone x e) is (rest h)

pub changed-once : (rows : List Entry) (zone : ℕ) (xs : List Sent) (edeks : List Encrypted) → sent_once xs ≡ true → ids_once (changed rows zone xs edeks) ≡ true
changed-once rows zone [] edeks h = refl
changed-once rows zone (x ∷ xs) [] h = refl
changed-once rows zone (x ∷ xs) (e ∷ es) h = go (is_changed rows zone x e) (changed-once rows zone xs es)
  where
    parts : (not (list_any (λ (y : Sent). y.id == x.id) xs) ≡ true) × (sent_once xs ≡ true)
    parts = and_parts (not (list_any (λ (y : Sent). y.id == x.id) xs)) (sent_once xs) h

    go : (b : Bool) → (sent_once xs ≡ true → ids_once (changed rows zone xs es) ≡ true)
        → ids_once (cond b ((record { id = x.id; edek = e }) ∷ changed rows zone xs es) (changed rows zone xs es)) ≡ true
    go true rest =
        join (not (list_any (λ (g : FileKey). g.id == x.id) (changed rows zone xs es))) (ids_once (changed rows zone xs es))
        (ap not (changed-free rows zone xs es x.id (not-true (list_any (λ (y : Sent). y.id == x.id) xs) parts.0))) (rest parts.1)
    go false rest = rest parts.1

-- each of them may get its key

same-zone : (o : Option ℕ) (zone : ℕ) → same_id o (Some zone) ≡ true → o ≡ Some zone
same-zone None zone h = absurd cc
same-zone (Some i) zone h = ap Some (eqb-true i zone h)

same-bytes : (a b c : List ℕ) → bytes_eq a b ≡ true → bytes_eq b c ≡ true → bytes_eq a c ≡ true
same-bytes a b c h k = (bytes_eq-Decides a c).1 ((bytes_eq-Decides a b).0 h ∙ (bytes_eq-Decides b c).0 k)

same-key : (a b : Encrypted) → same_edek a b ≡ true → bytes_eq a.version.key b.version.key ≡ true
same-key a b h =
    let key = bytes_eq a.version.key b.version.key in
    let number = a.version.number == b.version.number in
    let iv = bytes_eq a.iv b.iv in
    (and_parts key number (and_parts (key && number) iv (and_parts (key && number && iv) (bytes_eq a.sealed b.sealed) h).0).0).0

module _ (t : NameTable) (zone session : ℕ) (going : option_map_or (goes_on_under session) (status_of t.statuses zone) false ≡ true) where
  zone-goes : (e : Entry) → same_id (zone_id t.rows e.path) (Some zone) ≡ true → option_map_or (λ zone. option_map_or (goes_on_under session) (status_of t.statuses zone) false) (zone_id t.rows e.path) false ≡ true
  zone-goes e h =
      ap (λ (o : Option ℕ). option_map_or (λ zone. option_map_or (goes_on_under session) (status_of t.statuses zone) false) o false) (same-zone (zone_id t.rows e.path) zone h) ∙ going

  of-key : (f : FileKey) (x : Sent) (o : Option Encrypted) → bytes_eq f.edek.version.key x.edek.version.key ≡ true → option_map_or (same_edek x.edek) o false ≡ true
      → option_map_or (λ edek. bytes_eq f.edek.version.key edek.version.key) o false ≡ true
  of-key f x None key h = absurd cc
  of-key f x (Some k) key h = same-bytes f.edek.version.key x.edek.version.key k.version.key key (same-key x.edek k h)

  may-change : (x : Sent) (e : Encrypted) → bytes_eq e.version.key x.edek.version.key ≡ true → is_changed t.rows zone x e ≡ true → may_update t session (record { id = x.id; edek = e }) ≡ true
  may-change x e key h = go (entry_of t.rows x.id) (and_parts (option_map_or (has_edek t.rows zone x.edek) (entry_of t.rows x.id) false) (not (same_edek x.edek e)) h).0
    where
      go : (o : Option Entry) → option_map_or (has_edek t.rows zone x.edek) o false ≡ true → option_map_or (λ r. is_under t session r && is_of_key (record { id = x.id; edek = e }) r) o false ≡ true
      go None h = absurd cc
      go (Some r) h =
          let parts = and_parts (is_file_of t.rows zone r) (option_map_or (same_edek x.edek) (edek_of r.row.kind) false) h in
          let file = and_parts (is_some (edek_of r.row.kind)) (same_id (zone_id t.rows r.path) (Some zone)) parts.0 in
          join (is_under t session r) (is_of_key (record { id = x.id; edek = e }) r) (join (is_some (edek_of r.row.kind)) _ file.0 (zone-goes r file.1))
          (of-key (record { id = x.id; edek = e }) x (edek_of r.row.kind) key parts.1)

  pub changed-may : (xs : List Sent) (edeks : List Encrypted) → are_of_keys xs edeks ≡ true → list_all (may_update t session) (changed t.rows zone xs edeks) ≡ true
  changed-may [] edeks h = refl
  changed-may (x ∷ xs) [] h = refl
  changed-may (x ∷ xs) (e ∷ es) h = go (is_changed t.rows zone x e) refl (changed-may xs es)
    where
      parts : (bytes_eq e.version.key x.edek.version.key ≡ true) × (are_of_keys xs es ≡ true)
      parts = and_parts (bytes_eq e.version.key x.edek.version.key) (are_of_keys xs es) h

      go : (b : Bool) → is_changed t.rows zone x e ≡ b → (are_of_keys xs es ≡ true → list_all (may_update t session) (changed t.rows zone xs es) ≡ true)
          → list_all (may_update t session) (cond b ((record { id = x.id; edek = e }) ∷ changed t.rows zone xs es) (changed t.rows zone xs es)) ≡ true
      go true is rest = join (may_update t session (record { id = x.id; edek = e })) (list_all (may_update t session) (changed t.rows zone xs es)) (may-change x e parts.0 is) (rest parts.1)
      go false is rest = rest parts.1

going-under : (s : NameState) (note : BatchNote) → Outstanding s note → option_map_or (goes_on_under note.session) (status_of s.table.statuses note.zone) false ≡ true
going-under s note o =
    ap (λ (x : Option StatusRow). option_map_or (goes_on_under note.session) x false) o.found
    ∙ join (o.status.session == note.session) (goes_on o.status) (eq-eqb o.status.session note.session o.session_is) o.goes

pub may-deliver : (s : NameState) (note : BatchNote) (result : BatchResult) → WalksOnce s.walks → FitsSent note.sent result → is_outstanding s note ≡ true
    → MayUpdate s note (changes_of s.table.rows note.zone note.sent result)
may-deliver s note Refused once fits h = (h, refl)
may-deliver s note (Ready edeks) once fits h = (
  h,
  join (ids_once (changed s.table.rows note.zone note.sent edeks)) (list_all (may_update s.table note.session) (changed s.table.rows note.zone note.sent edeks))
      (changed-once s.table.rows note.zone note.sent edeks (note-once s note once h))
      (changed-may s.table note.zone note.session (going-under s note (outstanding-at s note h)) note.sent edeks fits),
)

-- the operation of an update is allowed, and may be written

session-free : (statuses : List StatusRow) (session : ℕ) → session_goes_on statuses session ≡ true → first_cause ((not (session_goes_on statuses session), refusal.NotSubmitted) ∷ []) ≡ None
session-free statuses session h = ap (λ (b : Bool). cond (not b) (Some refusal.NotSubmitted) None) h

pub allowed-update : (s : NameState) (note : BatchNote) (changes : Changes) → 0 < s.table.opening → MayUpdate s note changes → allows s.table (update_op s note changes) ≡ true
allowed-update s note changes opened may =
    let o = outstanding-at s note may.0 in
    plainly-allowed s.table (update_op s note changes) opened refl refl may.1
    (session-free s.table.statuses note.session (ap (session_goes_on s.table.statuses) (sym o.session_is) ∙ found-goes s.table.statuses note.zone o.status o.found o.goes))

abbrev pub with_update : NameState → List Sent → NameState
with_update s sent = record s { updating = Some sent }

pub behind-update : (s : NameState) (note : BatchNote) (changes : Changes) → s.next ≤ 2 ^ 32 → IdsFit s.table.rows s.asks (next_id s) → AreRecent s.table.opening s.asks
    → IsBehind s (update_op s note changes) (with_update s note.sent)
behind-update s note changes few ids recent = record {
  no_opening = refl;
  same_table = refl;
  rises = omega arith;
  few = few;
  ids = ids;
  recent = recent;
  below = tt;
  free = none-taken s.asks;
}

pub may-update : (s : NameState) (note : BatchNote) (changes : Changes) → 0 < s.table.opening → s.next ≤ 2 ^ 32 → IdsFit s.table.rows s.asks (next_id s) → AreRecent s.table.opening s.asks
    → MayUpdate s note changes → MayWrite s (update_op s note changes) (with_update s note.sent)
may-update s note changes opened few ids recent may = record {
  behind = behind-update s note changes few ids recent;
  allowed = allowed-update s note changes opened may;
  spelled = refl;
  fresh = λ used below apart. refl;
  fewer = λ used h. h;
}

-- what an update does: nothing, or it writes its operation

pub data DoesUpdate (s : NameState) (d : UpdateDeed) : Type 0 where
  Ignores : (note : BatchNote) → d ≡ ignored s note → DoesUpdate s d
  Applies : (note : BatchNote) (changes : Changes) → is_outstanding s note ≡ true → d ≡ applied s note changes → DoesUpdate s d

pub update-does : (s : NameState) (note : BatchNote) (changes : Changes) → DoesUpdate s (update_deed s note changes)
update-does s note changes = go (is_outstanding s note) refl
  where
    go : (b : Bool) → is_outstanding s note ≡ b → DoesUpdate s (cond b (applied s note changes) (ignored s note))
    go true is = Applies note changes is refl
    go false is = Ignores note refl

pub delivery-does : (reply : ReplyState) (s : NameState) → DoesUpdate s (deliver_deed reply s)
delivery-does reply s = update-does s reply.note (changes_of s.table.rows reply.note.zone reply.note.sent reply.result)

pub giving-up-does : (note : BatchNote) (s : NameState) → DoesUpdate s (give_up_deed note s)
giving-up-does note s = update-does s note (all_failed note.sent)
