-- Two batches of a zone share no file, and what comes again is ignored.
use Rattle.std.proofs.Common.{◌≡◌, inl, inr, ℕ, zero, suc, ◌≤◌, Bool, true, false, cond, List, [], ◌∷◌, length, Option, Some, None, slice_get, refl, sym, ap, subst, ◌∙◌, arith}
use Rattle.std.specs.Prelude.{not, ◌==◌, ◌≢◌}
use Rattle.std.specs.List.{filter}
use Rattle.std.specs.Option.{option_and_then, option_map_or}
use Rattle.std.proofs.lemmas.Bool.{and_parts}
use Rattle.reenc_walk.specs.declared.batches.WalkedBatch.{WalkedBatch}
use Rattle.reenc_walk.specs.declared.sent.Sent.{Sent}
use Rattle.reenc_walk.specs.Files.{same_sent}
use Rattle.reenc_walk.specs.Walks.{WalkState, is_of}
use Rattle.zone_table.specs.declared.statuses.StatusRow.{StatusRow}
use Rattle.zone_table.specs.Statuses.{is_of as is_status_of, status_of}
use Rattle.name_core.specs.Laws.{batches_of_walk}
use Rattle.name_core.specs.State.{NameState, settled, walk_under}
use Rattle.name_core.specs.Updates.{walk_of_status}
use Rattle.name_core.specs.Walks.{or_new_walk, walk_of}
use Rattle.name_core.proofs.UpdateLaws.{updated_once, updates_retire}
use Rattle.world_run.specs.Covered.{NoneShared, WalkCovered, ids_sent}
use Rattle.world_run.specs.Promise.{In}
use Rattle.world_run.proofs.Members.{found-in, got-in, some-is}
use Rattle.world_run.proofs.RetiredBatches.{same-files}
use Rattle.run_laws.specs.Walks.{BatchesAreOnce, BatchesShareNoFile, RepeatedIsIgnored}

-- places in a list of batches that share no file

shared-at : (bs : List WalkedBatch) (i j id : ℕ) (b c : WalkedBatch) → NoneShared bs → slice_get bs i ≡ Some b → slice_get bs j ≡ Some c → In id (ids_sent b.sent) → In id (ids_sent c.sent) → i ≡ j
shared-at [] i j id b c o at other m n = absurd cc
shared-at (x ∷ xs) zero zero id b c o at other m n = refl
shared-at (x ∷ xs) zero (suc j) id b c o at other m n = absurd (o.0 c (got-in xs j c other) id (subst (λ (y : WalkedBatch). In id (ids_sent y.sent)) (sym (some-is x b at)) m) n)
shared-at (x ∷ xs) (suc i) zero id b c o at other m n = absurd (o.0 b (got-in xs i b at) id (subst (λ (y : WalkedBatch). In id (ids_sent y.sent)) (sym (some-is x c other)) n) m)
shared-at (x ∷ xs) (suc i) (suc j) id b c o at other m n = ap suc (shared-at xs i j id b c o.1 at other m n)

pub batches_share_no_file : BatchesShareNoFile
batches_share_no_file w h kept s i j id b c linked member going at other m n =
    shared-at (walk_of (settled kept w.names).walks s).batches i j id b c ((linked.covered kept).walks_fit s member going).none_shared at other m n

-- how many of them have sent these files

none-passes : {X : Type 0} (p : X → Bool) (xs : List X) → ((x : X) → In x xs → p x ≡ false) → filter p xs ≡ []
none-passes p [] none = refl
none-passes p (x ∷ xs) none = ap (λ (b : Bool). cond b (x ∷ filter p xs) (filter p xs)) (none x (inl refl)) ∙ none-passes p xs (λ y i. none y (inr i))

first-id : (sent : List Sent) → sent ≢ [] → (id : ℕ) × In id (ids_sent sent)
first-id [] some = absurd (some refl)
first-id (y ∷ ys) some = (y.id, inl refl)

once-of : (sent : List Sent) (bs : List WalkedBatch) → NoneShared bs → ((b : WalkedBatch) → In b bs → b.sent ≢ []) → length (filter (is_of sent) bs) ≤ 1
once-of sent [] o some = omega arith
once-of sent (b ∷ bs) o some = go (is_of sent b) refl (once-of sent bs o.1 (λ c i. some c (inr i)))
  where
    files : (c : WalkedBatch) → is_of sent c ≡ true → c.sent ≡ sent
    files c of = same-files c.sent sent (and_parts c.outstanding (same_sent c.sent sent) of).1

    others : is_of sent b ≡ true → (c : WalkedBatch) → In c bs → is_of sent c ≡ false
    others of c i = by (is_of sent c) refl
      where
        by : (k : Bool) → is_of sent c ≡ k → k ≡ false
        by false other = refl
        by true too =
            let first = first-id b.sent (some b (inl refl)) in
            absurd (o.0 c i first.0 first.1 (subst (λ (l : List Sent). In first.0 (ids_sent l)) (files b of ∙ sym (files c too)) first.1))

    go : (k : Bool) → is_of sent b ≡ k → length (filter (is_of sent) bs) ≤ 1 → length (cond k (b ∷ filter (is_of sent) bs) (filter (is_of sent) bs)) ≤ 1
    go false other rest = rest
    go true of rest = let none = ap length (none-passes (is_of sent) bs (others of)) in omega (arith, none)

pub batches_are_once : BatchesAreOnce
batches_are_once w h kept note linked = by-status (status_of s.table.statuses note.zone) refl
  where
    s : NameState
    s = settled kept w.names

    by-walk : (st : StatusRow) → In st s.table.statuses → st.completed ≡ false → (o : Option WalkState) → walk_under s.walks st.session ≡ o → option_map_or (batches_of_walk note) o 0 ≤ 1
    by-walk st i going None under = omega arith
    by-walk st i going (Some v) under = go (v.session == note.session)
      where
        fits : WalkCovered h.ledger s.table.rows st (walk_of s.walks st)
        fits = (linked.covered kept).walks_fit st i going

        is : walk_of s.walks st ≡ v
        is = ap (λ (o : Option WalkState). or_new_walk o st) under

        go : (k : Bool) → cond k (length (filter (is_of note.sent) v.batches)) 0 ≤ 1
        go false = omega arith
        go true = subst (λ (u : WalkState). length (filter (is_of note.sent) u.batches) ≤ 1) is (once-of note.sent (walk_of s.walks st).batches fits.none_shared fits.some_file)

    by-goes : (st : StatusRow) → In st s.table.statuses → (k : Bool) → st.completed ≡ k → option_map_or (batches_of_walk note) (cond (not k) (walk_under s.walks st.session) None) 0 ≤ 1
    by-goes st i true ended = omega arith
    by-goes st i false going = by-walk st i going (walk_under s.walks st.session) refl

    by-status : (o : Option StatusRow) → status_of s.table.statuses note.zone ≡ o → option_map_or (batches_of_walk note) (option_and_then (walk_of_status s.walks) o) 0 ≤ 1
    by-status None found = omega arith
    by-status (Some st) found = by-goes st (found-in (is_status_of note.zone) s.table.statuses st found) st.completed refl

pub repeated_is_ignored : RepeatedIsIgnored
repeated_is_ignored w h kept note d d' changed skipped failed s' answer s'' linked of of' first second =
    let s : NameState = settled kept w.names in
    let gone = updates_retire s note d changed skipped failed s' of first in
    let few = batches_are_once w h kept note linked in
    updated_once s note d d' changed skipped failed s' answer s'' of of' (omega (arith, gone, few)) first second
