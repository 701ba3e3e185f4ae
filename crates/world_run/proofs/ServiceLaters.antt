-- The keys and the queues of the key management service after a call.
use Rattle.std.proofs.Common.{◌≡◌, inl, inr, ℕ, ◌<◌, Bool, true, false, cond, List, [], ◌∷◌, Option, Some, None, refl, sym, ap, subst, ◌∙◌, arith}
use Rattle.std.specs.Prelude.{not, nat_lt, is_none, IfSome, Result, Ok, Err}
use Rattle.std.specs.List.{filter}
use Rattle.std.proofs.lemmas.Bool.{eq-eqb}
use Rattle.hk_base.specs.declared.texts.Text.{Text}
use Rattle.eek_queues.specs.Queues.{AllQueues, Queue, has_queue}
use Rattle.key_rows.specs.declared.rows.KeyCommand.{KeyCommand}
use Rattle.key_rows.specs.declared.rows.KeyCommand.TheVariants.{Opened, Create, Roll, Delete}
use Rattle.key_rows.specs.declared.rows.KeyRow.{KeyRow}
use Rattle.key_rows.specs.Sound.{AreRowsRising}
use Rattle.key_rows.specs.Table.{Table, after, applies, is_born}
use Rattle.key_rows.proofs.TableLemmas.{sound_create, sound_delete, sound_roll}
use Rattle.kms_calls.specs.declared.calls.KmsCall.{KmsCall}
use Rattle.kms_calls.specs.declared.calls.KmsCall.TheVariants as call
use Rattle.kms_calls.specs.declared.calls.KmsRefusal.{KmsRefusal}
use Rattle.kms_calls.specs.declared.calls.KmsRefusal.TheVariants.{NoSuchKey, TooManyAsked}
use Rattle.kms_calls.specs.declared.calls.KmsReply.{KmsReply}
use Rattle.prop_text.specs.declared.lines.PropLine.{PropLine}
use Rattle.kms_acls.specs.declared.answers.Denied.{Denied}
use Rattle.kms_acls.specs.declared.answers.Shown.{Shown}
use Rattle.kms_acls.specs.Verdict.{verdict}
use Rattle.kms_store.specs.Store.{Applies, settled_table}
use Rattle.kms_core.specs.Draws.{material_for}
use Rattle.kms_core.specs.Calls.{KmsActs, NoRoom, Plain, birth_of, bits_of, causes, deed, done_with, first_cause, row_of, unless_refused, versions_of}
use Rattle.kms_core.specs.Service.{Committing, Kind, Reading, KmsServes, ServesBy, Working, kind}
use Rattle.kms_core.specs.State.{AllReady, IsPending, IsService, KmsState, ServiceState, next_birth, queues_after, settled, settled_queues}
use Rattle.kms_core.specs.Users.{ServesUnder, ServesUser}
use Rattle.kms_core.proofs.BirthLemmas.{below_settled}
use Rattle.kms_core.proofs.DepositLemmas.{all_emptied}
use Rattle.kms_core.proofs.QueueLemmas.{all_handed_out, ready_after}
use Rattle.kms_core.proofs.ReadyLemmas.{standing_row}
use Rattle.world_run.specs.Linked.{IsOldBirth}
use Rattle.world_run.specs.Promise.{In}
use Rattle.world_run.proofs.Laters.{KeysLater, MakesNew, later-by, makes-new, may-wait, same-later, then-later}
use Rattle.world_run.proofs.QueueLaters.{Shrinks, dropped-has, dropped-shrinks, emptied-shrinks, handed-has, handed-shrinks, same-shrinks, set-has, then-shrinks}

-- A later table with its queues: each queue loses only its oldest ready keys, and until the next opening it is dropped only with its key.
-- Ready keys are still of the current version.
pub record StateLater (t u : Table) (qs rs : List Queue) : Type 0 where
  pub keys : KeysLater t u
  pub shrinks : Shrinks qs rs
  pub current : AllReady t.rows qs → AllReady u.rows rs
  pub stays : u.opening ≡ t.opening → (row : KeyRow) → In row u.rows → IsOldBirth t row.birth → has_queue qs row.birth ≡ true → has_queue rs row.birth ≡ true

-- the queues of the same keys
pub queues-later : (t : Table) (qs rs : List Queue) → Shrinks qs rs → ((b : ℕ) → has_queue qs b ≡ true → has_queue rs b ≡ true) → (AllReady t.rows qs → AllReady t.rows rs)
    → StateLater t t qs rs
queues-later t qs rs shrinks has current = record { keys = same-later t; shrinks = shrinks; current = current; stays = λ same row i old h. has row.birth h }

-- the keys of the same queues
keys-later : (t u : Table) (qs : List Queue) → KeysLater t u → (AllReady t.rows qs → AllReady u.rows qs) → StateLater t u qs qs
keys-later t u qs later current = record { keys = later; shrinks = same-shrinks qs qs (λ birth. refl); current = current; stays = λ same row i old h. h }

pub same-state : (t : Table) (qs : List Queue) → StateLater t t qs qs
same-state t qs = keys-later t t qs (same-later t) (λ each. each)

pub then-state : (t u v : Table) (qs rs ss : List Queue) → StateLater t u qs rs → StateLater u v rs ss → StateLater t v qs ss
then-state t u v qs rs ss a z = record {
  keys = then-later t u v a.keys z.keys;
  shrinks = then-shrinks qs rs ss a.shrinks z.shrinks;
  current = λ each. z.current (a.current each);
  stays = λ same row i old h.
      let first = a.keys.opening in
      let next = z.keys.opening in
      let before = z.keys.rows row.birth (a.keys.births row.birth old) row i refl in
      let old_before : IsOldBirth t before.0.birth = subst (IsOldBirth t) (sym before.2) old in
      let has_before : has_queue qs before.0.birth ≡ true = subst (λ (b : ℕ). has_queue qs b ≡ true) (sym before.2) h in
      let has : has_queue rs before.0.birth ≡ true = a.stays (omega (arith, same, first, next)) before.0 before.1 old_before has_before in
      z.stays (omega (arith, same, first, next)) row i (a.keys.births row.birth old) (subst (λ (b : ℕ). has_queue rs b ≡ true) before.2 has);
}

-- a command takes effect

-- a row that a delete leaves has another birth
left-other : (birth : ℕ) (rows : List KeyRow) (row : KeyRow) → In row (filter (λ r. not (is_born birth r)) rows) → birth ≡ row.birth → ⊥
left-other birth [] row i same = absurd i
left-other birth (r ∷ rows) row i same = go (is_born birth r) refl i (left-other birth rows row)
  where
    left : List KeyRow
    left = filter (λ x. not (is_born birth x)) rows

    go : (t : Bool) → is_born birth r ≡ t → In row (cond (not t) (r ∷ left) left) → (In row left → birth ≡ row.birth → ⊥) → ⊥
    go true is i ih = ih i same
    go false is (inl here) ih = let no : true ≡ false = sym (eq-eqb r.birth birth (ap (λ (x : KeyRow). x.birth) (sym here) ∙ sym same)) ∙ is in absurd cc
    go false is (inr i) ih = ih i same

state-by : (t : Table) (all : AllQueues) (c : KeyCommand) → MakesNew t c → StateLater t (after t c) all.queues (queues_after all c).queues
state-by t all (Opened opening) new = keys-later t (after t (Opened opening)) all.queues (later-by t (Opened opening) new) (ready_after t all (Opened opening))
state-by t all (Create birth name bits description created material) new =
    keys-later t (after t (Create birth name bits description created material)) all.queues (later-by t (Create birth name bits description created material) new)
    (ready_after t all (Create birth name bits description created material))
state-by t all (Roll birth number material) new = record {
  keys = later-by t (Roll birth number material) new;
  shrinks = emptied-shrinks all.queues birth;
  current = ready_after t all (Roll birth number material);
  stays = λ same row i old h. set-has all.queues birth [] row.birth h;
}
state-by t all (Delete birth) new = record {
  keys = later-by t (Delete birth) new;
  shrinks = dropped-shrinks all.queues birth;
  current = ready_after t all (Delete birth);
  stays = λ same row i old h. dropped-has all.queues birth row.birth (left-other birth t.rows row i) h;
}

-- the pending command was settled
settled-state : (kept : Bool) (s : ServiceState) → IsService s → StateLater s.keys.table (settled kept s).table s.keys.ready.queues (settled kept s).ready.queues
settled-state kept s is = go kept s.pending (may-wait s.pending s.keys is.waits)
  where
    go : (k : Bool) (o : Option KeyCommand) → Applies s.keys.table o → StateLater s.keys.table (settled_table k o s.keys.table) s.keys.ready.queues (settled_queues k o s.keys.ready).queues
    go k None may = same-state s.keys.table s.keys.ready.queues
    go true (Some c) may = state-by s.keys.table s.keys.ready c (makes-new s.keys.table c may)
    go false (Some c) may = same-state s.keys.table s.keys.ready.queues

-- births rise in the table then
rising-settled : (kept : Bool) (s : ServiceState) → IsService s → AreRowsRising 0 (settled kept s).table.rows (settled kept s).table.greatest
rising-settled kept s is = go kept s.pending is.waits
  where
    by-command : (c : KeyCommand) → applies s.keys.table c ≡ true → AreRowsRising 0 (after s.keys.table c).rows (after s.keys.table c).greatest
    by-command (Opened opening) may = is.table.births
    by-command (Create birth name bits description created material) may = (sound_create s.keys.table birth name bits description created material is.table may).births
    by-command (Roll birth number material) may = (sound_roll s.keys.table birth number material is.table may).births
    by-command (Delete birth) may = (sound_delete s.keys.table birth is.table).births

    go : (k : Bool) (o : Option KeyCommand) → IfSome o (IsPending s.keys) → AreRowsRising 0 (settled_table k o s.keys.table).rows (settled_table k o s.keys.table).greatest
    go k None waits = is.table.births
    go true (Some c) waits = by-command c waits.fits
    go false (Some c) waits = is.table.births

-- a call

-- the key exists, if nothing refuses the call
stands-free : (b : Bool) (why : KmsRefusal) (rest : List (Bool × KmsRefusal)) → first_cause ((b, why) ∷ rest) ≡ None → b ≡ false
stands-free true why rest h = absurd cc
stands-free false why rest h = refl

-- before its command takes effect
begun-state : (s : KmsState) (words : ℕ → ℕ) (now : ℕ) (c : KmsCall) → AreRowsRising 0 s.table.rows s.table.greatest → first_cause (causes s c) ≡ None → StateLater s.table (deed s words now c).state.table s.ready.queues (deed s words now c).state.ready.queues
begun-state s words now (call.Create name bits material description) rising free = same-state s.table s.ready.queues
begun-state s words now (call.Roll name material) rising free = same-state s.table s.ready.queues
begun-state s words now (call.Delete name) rising free = same-state s.table s.ready.queues
begun-state s words now (call.Invalidate name) rising free = queues-later s.table s.ready.queues _ (emptied-shrinks s.ready.queues (birth_of (row_of s name))) (set-has s.ready.queues (birth_of (row_of s name)) []) (all_emptied s.table.rows s.ready (birth_of (row_of s name)))
begun-state s words now (call.Metadata name) rising free = same-state s.table s.ready.queues
begun-state s words now (call.Metadatas names) rising free = same-state s.table s.ready.queues
begun-state s words now call.Names rising free = same-state s.table s.ready.queues
begun-state s words now (call.Current name) rising free = same-state s.table s.ready.queues
begun-state s words now (call.Versions name) rising free = same-state s.table s.ready.queues
begun-state s words now (call.Version version) rising free = same-state s.table s.ready.queues
begun-state s words now (call.Generate name count) rising free = queues-later s.table s.ready.queues _ (handed-shrinks s.ready (birth_of (row_of s name)) count) (handed-has s.ready (birth_of (row_of s name)) count)
    (let row = standing_row s name rising (stands-free (is_none (row_of s name)) NoSuchKey ((nat_lt 1000 count, TooManyAsked) ∷ []) free) in all_handed_out s.table.rows s.ready (birth_of (row_of s name)) count row.0 row.2)
begun-state s words now (call.Decrypt name sent) rising free = same-state s.table s.ready.queues
begun-state s words now (call.Reencrypt name sent) rising free = same-state s.table s.ready.queues
begun-state s words now (call.Batch name sent) rising free = same-state s.table s.ready.queues

-- and afterwards
deed-state : (s : KmsState) (words : ℕ → ℕ) (now : ℕ) (c : KmsCall) → s.table.greatest < next_birth s → AreRowsRising 0 s.table.rows s.table.greatest → first_cause (causes s c) ≡ None
    → StateLater s.table (done_with (deed s words now c).logs (deed s words now c).state).table s.ready.queues (done_with (deed s words now c).logs (deed s words now c).state).ready.queues
deed-state s words now (call.Create name bits material description) below rising free = state-by s.table s.ready (Create (next_birth s) name bits description now (material_for words bits material)) (omega arith, below)
deed-state s words now (call.Roll name material) below rising free = state-by s.table s.ready (Roll (birth_of (row_of s name)) (versions_of (row_of s name)) (material_for words (bits_of (row_of s name)) material)) tt
deed-state s words now (call.Delete name) below rising free = state-by s.table s.ready (Delete (birth_of (row_of s name))) tt
deed-state s words now (call.Invalidate name) below rising free = begun-state s words now (call.Invalidate name) rising free
deed-state s words now (call.Metadata name) below rising free = same-state s.table s.ready.queues
deed-state s words now (call.Metadatas names) below rising free = same-state s.table s.ready.queues
deed-state s words now call.Names below rising free = same-state s.table s.ready.queues
deed-state s words now (call.Current name) below rising free = same-state s.table s.ready.queues
deed-state s words now (call.Versions name) below rising free = same-state s.table s.ready.queues
deed-state s words now (call.Version version) below rising free = same-state s.table s.ready.queues
deed-state s words now (call.Generate name count) below rising free = begun-state s words now (call.Generate name count) rising free
deed-state s words now (call.Decrypt name sent) below rising free = same-state s.table s.ready.queues
deed-state s words now (call.Reencrypt name sent) below rising free = same-state s.table s.ready.queues
deed-state s words now (call.Batch name sent) below rising free = same-state s.table s.ready.queues

pub acts-state : (s : KmsState) (words : ℕ → ℕ) (now : ℕ) (c : KmsCall) (reply : KmsReply) (drawn : ℕ) (s' : KmsState) → s.table.greatest < next_birth s → AreRowsRising 0 s.table.rows s.table.greatest
    → KmsActs s words now c reply drawn s'
    → StateLater s.table s'.table s.ready.queues s'.ready.queues
acts-state s words now c reply drawn s' below rising (NoRoom some, may, is) = subst (λ (x : KmsState). StateLater s.table x.table s.ready.queues x.ready.queues) (sym (ap (λ o. o.state) is)) (same-state s.table s.ready.queues)
acts-state s words now c reply drawn s' below rising (Plain, may, is) = subst (λ (x : KmsState). StateLater s.table x.table s.ready.queues x.ready.queues) (sym (ap (λ o. o.state) is)) (go (first_cause (causes s c)) refl)
  where
    go : (o : Option KmsRefusal) → first_cause (causes s c) ≡ o → StateLater s.table (unless_refused o s (deed s words now c)).state.table s.ready.queues (unless_refused o s (deed s words now c)).state.ready.queues
    go (Some why) cause = same-state s.table s.ready.queues
    go None free = deed-state s words now c below rising free

-- the service after another
abbrev pub ServiceLater : ServiceState → ServiceState → Type 0
ServiceLater s s' = StateLater s.keys.table s'.keys.table s.keys.ready.queues s'.keys.ready.queues

pub same-service : (s : ServiceState) → ServiceLater s s
same-service s = same-state s.keys.table s.keys.ready.queues

serves-state : (s : ServiceState) (words : ℕ → ℕ) (now : ℕ) (c : KmsCall) (fault tells : Type 0) (reply : KmsReply) (drawn : ℕ) (logged : List KeyCommand) (s' : ServiceState) → IsService s
    → KmsServes s words now c fault tells reply drawn logged s' → ServiceLater s s'
serves-state s words now c fault tells reply drawn logged s' is serves = go (kind c) serves
  where
    go : (k : Kind) → ServesBy k s words now c fault tells reply drawn logged s' → ServiceLater s s'
    go Reading r = subst (ServiceLater s) (sym r.same) (same-service s)
    go Working w = subst (ServiceLater s) (sym w.left) (acts-state s.keys words now c reply drawn w.changed is.births is.table.births w.acts)
    go Committing (inl u) = subst (ServiceLater s) (sym u.same) (same-service s)
    go Committing (inr (kept, inl w)) =
        let before : KmsState = settled kept s in
        subst (ServiceLater s) (sym w.left)
        (then-state s.keys.table before.table w.changed.table s.keys.ready.queues before.ready.queues w.changed.ready.queues (settled-state kept s is)
        (acts-state before words now c reply drawn w.changed (below_settled kept s is) (rising-settled kept s is) w.acts))
    go Committing (inr (kept, inr u)) =
        let before : KmsState = settled kept s in
        let begun : KmsState = (deed before words now c).state in
        subst (ServiceLater s) (sym u.left)
        (then-state s.keys.table before.table begun.table s.keys.ready.queues before.ready.queues begun.ready.queues (settled-state kept s is)
        (begun-state before words now c (rising-settled kept s is) u.free))

-- a call of a user changes nothing if it is denied
pub user-state : (lines : List PropLine) (user : Text) (s : ServiceState) (words : ℕ → ℕ) (now : ℕ) (c : KmsCall) (fault tells : Type 0) (reply : KmsReply) (drawn : ℕ) (logged : List KeyCommand) (s' : ServiceState) → IsService s
    → ServesUser lines user s words now c fault tells reply drawn logged s' → ServiceLater s s'
user-state lines user s words now c fault tells reply drawn logged s' is serves = by-verdict (verdict lines user c) serves
  where
    by-verdict : (v : Result Shown Denied) → ServesUnder v s words now c fault tells reply drawn logged s' → ServiceLater s s'
    by-verdict (Ok shown) p = serves-state s words now c fault tells p.reply drawn logged s' is p.serves
    by-verdict (Err denied) d = subst (ServiceLater s) (sym d.same) (same-service s)
