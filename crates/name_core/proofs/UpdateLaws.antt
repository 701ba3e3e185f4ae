-- The laws of deliveries, and of batches given up.
use Rattle.std.proofs.Common.{◌≡◌, ℕ, suc, Bool, true, false, cond, ◌&&◌, ◌||◌, List, [], ◌∷◌, length, Option, Some, None, Ok, Err, is_some, refl, sym, ap, ◌∙◌, arith}
use Rattle.std.specs.List.{filter}
use Rattle.std.specs.Option.{option_and_then, option_map_or}
use Rattle.std.proofs.lemmas.Bool.{eq-eqb}
use Rattle.name_calls.specs.declared.calls.NameRefusal.TheVariants as refusal
use Rattle.name_calls.specs.declared.status.Delivered.TheVariants.{Applied, Ignored}
use Rattle.reenc_update.specs.declared.changes.Changes.{Changes}
use Rattle.reenc_update.specs.Changes.{all_failed, changes_of}
use Rattle.reenc_walk.specs.declared.batches.WalkedBatch.{WalkedBatch}
use Rattle.reenc_walk.specs.declared.sent.BatchNote.{BatchNote}
use Rattle.reenc_walk.specs.declared.sent.Sent.{Sent}
use Rattle.reenc_walk.specs.Files.{same_sent}
use Rattle.reenc_walk.specs.Walks.{WalkState, from_outstanding, has_batch, is_of, retire, retired}
use Rattle.zone_table.specs.declared.statuses.StatusRow.{StatusRow}
use Rattle.zone_table.specs.Statuses.{counted, goes_on_under, is_of as is_status_of, status_of, with_counts}
use Rattle.name_core.specs.State.{NameService, NameState, is_walk_of, settled, walk_under, with_walk}
use Rattle.name_core.specs.Calls.{NoRoom, Plain, done_with}
use Rattle.name_core.specs.Updates.{UpdateDeed, applied, ignored, is_outstanding, last_session, update_deed, update_op, walk_of_status}
use Rattle.name_core.specs.Updating.{NameUpdates}
use Rattle.name_core.specs.Laws.{Delivery, GivingUp, IsUpdateOf, KeptUpdatesRetire, RetiredIsIgnored, UpdatedOnce, UpdatesRetire, batches_of, batches_of_walk}
use Rattle.name_core.proofs.UpdateCalls.{deed-applied, deed-ignored}
use Rattle.name_core.proofs.UpdateLemmas.{Outstanding, outstanding-at, with_update}
use Rattle.name_core.proofs.WalkLemmas.{found-session}

-- the batches that have sent the files

abbrev of : List Sent → List WalkedBatch → ℕ
of sent bs = length (filter (is_of sent) bs)

of-from : (sent : List Sent) (bs : List WalkedBatch) → of sent (from_outstanding bs) ≡ of sent bs
of-from sent [] = refl
of-from sent (b ∷ bs) = go b.outstanding refl (of-from sent bs)
  where
    go : (t : Bool) → b.outstanding ≡ t → of sent (from_outstanding bs) ≡ of sent bs → of sent (cond t (b ∷ bs) (from_outstanding bs)) ≡ of sent (b ∷ bs)
    go true is rest = refl
    go false is rest = rest ∙ ap (λ (t : Bool). length (cond (t && same_sent b.sent sent) (b ∷ filter (is_of sent) bs) (filter (is_of sent) bs))) (sym is)

of-retired : (sent : List Sent) (bs : List WalkedBatch) → has_batch bs sent ≡ true → of sent bs ≡ suc (of sent (retired sent bs))
of-retired sent [] h = absurd cc
of-retired sent (b ∷ bs) h = go (is_of sent b) refl h (of-retired sent bs)
  where
    go : (t : Bool) → is_of sent b ≡ t → (t || has_batch bs sent) ≡ true → (has_batch bs sent ≡ true → of sent bs ≡ suc (of sent (retired sent bs)))
        → length (cond t (b ∷ filter (is_of sent) bs) (filter (is_of sent) bs)) ≡ suc (of sent (cond t (record b { outstanding = false } ∷ bs) (b ∷ retired sent bs)))
    go true is h rest = refl
    go false is h rest = rest h ∙ ap (λ (t : Bool). suc (length (cond t (b ∷ filter (is_of sent) (retired sent bs)) (filter (is_of sent) (retired sent bs))))) (sym is)

-- the walk of the zone after an update

abbrev walk-by : List WalkState → Option StatusRow → Option WalkState
walk-by walks o = option_and_then (walk_of_status walks) o

going-counted : (walks : List WalkState) (session changed failed : ℕ) (mark : Option (List (List ℕ))) (ss : List StatusRow) (zone : ℕ)
    → option_and_then (walk_of_status walks) (status_of (counted session changed failed mark ss) zone) ≡ option_and_then (walk_of_status walks) (status_of ss zone)
going-counted walks session changed failed mark [] zone = refl
going-counted walks session changed failed mark (s ∷ ss) zone = go (goes_on_under session s) (going-counted walks session changed failed mark ss zone)
  where
    first : (c : Bool) → walk-by walks (cond c (Some (with_counts changed failed mark s)) (status_of ss zone)) ≡ walk-by walks (cond c (Some s) (status_of ss zone))
    first true = refl
    first false = refl

    later : (c : Bool) → walk-by walks (status_of (counted session changed failed mark ss) zone) ≡ walk-by walks (status_of ss zone)
        → walk-by walks (cond c (Some s) (status_of (counted session changed failed mark ss) zone)) ≡ walk-by walks (cond c (Some s) (status_of ss zone))
    later true rest = refl
    later false rest = rest

    go : (b : Bool) → walk-by walks (status_of (counted session changed failed mark ss) zone) ≡ walk-by walks (status_of ss zone)
        → walk-by walks (status_of (cond b (with_counts changed failed mark s ∷ ss) (s ∷ counted session changed failed mark ss)) zone) ≡ walk-by walks (status_of (s ∷ ss) zone)
    go true rest = first (is_status_of zone s)
    go false rest = later (is_status_of zone s) rest

under-with : (w : WalkState) (ws : List WalkState) → walk_under (with_walk w ws) w.session ≡ Some w
under-with w [] = ap (λ (b : Bool). cond b (Some w) None) (eq-eqb w.session w.session refl)
under-with w (x ∷ ws) = go (is_walk_of w.session x) refl (under-with w ws)
  where
    go : (b : Bool) → is_walk_of w.session x ≡ b → walk_under (with_walk w ws) w.session ≡ Some w → walk_under (cond b (w ∷ ws) (x ∷ with_walk w ws)) w.session ≡ Some w
    go true is rest = ap (λ (b : Bool). cond b (Some w) (walk_under ws w.session)) (eq-eqb w.session w.session refl)
    go false is rest = ap (λ (b : Bool). cond b (Some x) (walk_under (with_walk w ws) w.session)) is ∙ rest

module _ (s : NameState) (note : BatchNote) (changes : Changes) (has : is_outstanding s note ≡ true) where
  abbrev pub o : Outstanding s note
  o = outstanding-at s note has

  abbrev pub left : NameState
  left = done_with (Some (update_op s note changes)) (with_update s note.sent)

  session_is : o.walk.session ≡ note.session
  session_is = found-session s.walks note.session o.walk o.under

  going : (walks : List WalkState) → option_and_then (walk_of_status walks) (status_of s.table.statuses note.zone) ≡ walk_under walks note.session
  going walks =
      ap (option_and_then (walk_of_status walks)) o.found
      ∙ ap (λ (b : Bool). cond b (walk_under walks o.status.session) None) o.goes
      ∙ ap (walk_under walks) o.session_is

  count-of : (w : WalkState) → w.session ≡ note.session → batches_of_walk note w ≡ of note.sent w.batches
  count-of w same = ap (λ (b : Bool). cond b (of note.sent w.batches) 0) (eq-eqb w.session note.session same)

  before : batches_of s note ≡ of note.sent o.walk.batches
  before = ap (λ (w : Option WalkState). option_map_or (batches_of_walk note) w 0) (going s.walks ∙ o.under) ∙ count-of o.walk session_is

  walks_are : left.walks ≡ with_walk (retire note.sent o.walk) s.walks
  walks_are = ap (λ (w : Option WalkState). option_map_or (λ x. with_walk (retire note.sent x) s.walks) w s.walks) o.under

  under-left : walk_under left.walks note.session ≡ Some (retire note.sent o.walk)
  under-left = (λ i. walk_under (walks_are i) (sym session_is i)) ∙ under-with (retire note.sent o.walk) s.walks

  after : batches_of left note ≡ of note.sent (from_outstanding (retired note.sent o.walk.batches))
  after =
      ap (λ (w : Option WalkState). option_map_or (batches_of_walk note) w 0)
      (going-counted left.walks note.session (length changes.files) changes.failed _ s.table.statuses note.zone ∙ going left.walks ∙ under-left)
      ∙ count-of (retire note.sent o.walk) session_is

  pub retires : batches_of s note ≡ suc (batches_of left note)
  retires = before ∙ of-retired note.sent o.walk.batches o.has ∙ ap suc (sym (of-from note.sent (retired note.sent o.walk.batches)) ∙ sym after)

-- what an update of the batch does

deed-of : (note : BatchNote) (d : NameState → UpdateDeed) (s : NameState) → IsUpdateOf note d → (changes : Changes) × (d s ≡ update_deed s note changes)
deed-of note d s (Delivery reply same is) = (
  changes_of s.table.rows note.zone note.sent reply.result,
  ap (λ (f : NameState → UpdateDeed). f s) is ∙ ap (λ (n : BatchNote). update_deed s n (changes_of s.table.rows n.zone n.sent reply.result)) same,
)
deed-of note d s (GivingUp is) = (all_failed note.sent, ap (λ (f : NameState → UpdateDeed). f s) is)

pub updates_retire : UpdatesRetire
updates_retire s note d changed skipped failed s' of (NoRoom, may, is) = let f : Ok (Applied changed skipped failed) ≡ Err refusal.NoMemory = ap (λ o. o.reply) is in absurd cc
updates_retire s note d changed skipped failed s' of (Plain, may, is) = go (is_outstanding s note) refl
  where
    does : (changes : Changes) × (d s ≡ update_deed s note changes)
    does = deed-of note d s of

    answer : Applied changed skipped failed ≡ (d s).answer
    answer = let f : Ok (Applied changed skipped failed) ≡ Ok (d s).answer = ap (λ o. o.reply) is in cc

    go : (b : Bool) → is_outstanding s note ≡ b → batches_of s note ≡ suc (batches_of s' note)
    go true has =
        retires s note does.0 has
        ∙ ap (λ (n : NameState). suc (batches_of n note))
        (sym (ap (λ o. o.state) is ∙ ap (λ (x : UpdateDeed). done_with x.logs x.state) (does.1 ∙ deed-applied s note does.0 has)))
    go false has =
        let f : Applied changed skipped failed ≡ Ignored (last_session s note.zone) = answer ∙ ap (λ (x : UpdateDeed). x.answer) (does.1 ∙ deed-ignored s note does.0 has) in absurd cc

pub kept_updates_retire : KeptUpdatesRetire
kept_updates_retire s before note d answer logged s' of u = go (is_outstanding s note) refl
  where
    does : (changes : Changes) × (d s ≡ update_deed s note changes)
    does = deed-of note d s of

    go : (b : Bool) → is_outstanding s note ≡ b → (batches_of s note ≡ suc (batches_of (settled true s') note)) × (batches_of s note ≡ batches_of (settled false s') note)
    go false has = let f : None ≡ Some u.op = sym (ap (λ (x : UpdateDeed). x.logs) (does.1 ∙ deed-ignored s note does.0 has)) ∙ u.writes in absurd cc
    go true has =
        let is = does.1 ∙ deed-applied s note does.0 has in
        let waits : s' ≡ record { names = with_update s note.sent; pending = Some (update_op s note does.0) } =
        u.left ∙ (λ i. record { names = (ap (λ (x : UpdateDeed). x.state) is) i; pending = (sym u.writes ∙ ap (λ (x : UpdateDeed). x.logs) is) i }) in (
          retires s note does.0 has ∙ ap (λ (x : NameService). suc (batches_of (settled true x) note)) (sym waits),
          ap (λ (x : NameService). batches_of (settled false x) note) (sym waits),
        )

pub retired_is_ignored : RetiredIsIgnored
retired_is_ignored s note d answer s' of none updates = go (is_outstanding s note) refl updates
  where
    does : (changes : Changes) × (d s ≡ update_deed s note changes)
    does = deed-of note d s of

    go : (b : Bool) → is_outstanding s note ≡ b → NameUpdates s d answer s' → (answer ≡ Ok (Ignored (last_session s note.zone))) × (s' ≡ s)
    go true has updates = let f = retires s note does.0 has in absurd (omega (arith, f, none))
    go false has (NoRoom, may, is) = let f : false ≡ true = sym (ap (λ (x : UpdateDeed). is_some x.logs) (does.1 ∙ deed-ignored s note does.0 has)) ∙ may in absurd cc
    go false has (Plain, may, is) =
        let deed = does.1 ∙ deed-ignored s note does.0 has in
        (ap (λ o. o.reply) is ∙ ap (λ (x : UpdateDeed). Ok x.answer) deed, ap (λ o. o.state) is ∙ ap (λ (x : UpdateDeed). done_with x.logs x.state) deed)

pub updated_once : UpdatedOnce
updated_once s note d d' changed skipped failed s' answer s'' of of' one first second =
    let gone = updates_retire s note d changed skipped failed s' of first in
    retired_is_ignored s' note d' answer s'' of' (omega (arith, gone, one)) second
