-- Births of keys after a call.
use Rattle.std.specs.Prelude.{⊤, ◌&&◌, length, nat_lt}
use Rattle.std.proofs.lemmas.Bool.Decides.{nat_tests}
use Rattle.std.proofs.Common.{◌≡◌, ℕ, ◌+◌, ◌*◌, ◌^◌, ◌/◌, ◌<◌, ◌≤◌, ◌⊎◌, inl, inr, List, [], ◌∷◌, ◌++◌, map, find, filter, Bool, true, false, not, ◌==◌, cond, Option, None, Some, is_none, IfSome, refl, ap, sym, ◌∙◌, subst, arith}
use Rattle.std.proofs.lemmas.Bool.{and_parts}
use Rattle.hk_base.specs.Faults.{Rose}
use Rattle.key_rows.specs.declared.rows.KeyRow.{KeyRow}
use Rattle.kms_calls.specs.declared.calls.KmsCall.{KmsCall}
use Rattle.kms_calls.specs.declared.calls.KmsCall.TheVariants as call
use Rattle.kms_calls.specs.declared.calls.KmsReply.{KmsReply}
use Rattle.kms_calls.specs.declared.calls.KmsReply.TheVariants as reply
use Rattle.kms_calls.specs.declared.calls.KmsRefusal.{KmsRefusal}
use Rattle.kms_calls.specs.declared.calls.KmsRefusal.TheVariants as refusal
use Rattle.key_rows.specs.declared.rows.KeyCommand.{KeyCommand}
use Rattle.key_rows.specs.declared.rows.KeyCommand.TheVariants.{Opened, Create, Roll, Delete}
use Rattle.key_rows.specs.Table.{Table, after, applies, find_birth, find_name, is_born, is_length, is_named, opening_of, rolled, with_material}
use Rattle.key_rows.specs.Sound.{AreRowsRising}
use Rattle.key_rows.proofs.Births.{other_number}
use Rattle.key_rows.proofs.TableLemmas.{sound_create, sound_roll, sound_delete}
use Rattle.kms_store.specs.Store.{settled_commands, settled_table}
use Rattle.kms_core.specs.State.{IsPending, IsService, KmsState, ServiceState, next_birth, settled, took}
use Rattle.kms_core.specs.Service.{Changes, Committing, Kind, OnlyWorks, Reading, KmsServes, ServesBy, Working, kind}
use Rattle.kms_core.specs.Calls.{KmsActs, Plain, NoRoom, Ending, birth_of, causes, deed, deleted, done_with, first_cause, outcome, row_of, unless_refused, versions_of}
use Rattle.kms_core.specs.Laws.{Gone, GoneStaysAtStart, IsUsedUp, OnlyQueues, UsedUpAtStart}

-- what is not found is still not found

none_more : {X : Type 0} (p : X → Bool) (xs : List X) (x : X) → is_none (find p xs) ≡ true → p x ≡ false → is_none (find p (xs ++ x ∷ [])) ≡ true
none_more p [] x none other = ap (λ b. is_none (cond b (Some x) None)) other
none_more p (y ∷ ys) x none other =
    let P : Bool → Type 0 = λ b. is_none (cond b (Some y) (find p ys)) ≡ true → is_none (cond b (Some y) (find p (ys ++ x ∷ []))) ≡ true in
    let cases : P (p y) = elim (p y) as P [ true ↦ λ h. absurd cc | false ↦ λ h. none_more p ys x h other ] in
    cases none

none_filter : {X : Type 0} (p q : X → Bool) (xs : List X) → is_none (find p xs) ≡ true → is_none (find p (filter q xs)) ≡ true
none_filter p q [] none = none
none_filter p q (x ∷ xs) none =
    let P : Bool → Type 0 = λ b. p x ≡ b → is_none (cond b (Some x) (find p xs)) ≡ true → is_none (find p (filter q (x ∷ xs))) ≡ true in
    let cases : P (p x) = elim (p x) as P [ true ↦ λ e h. absurd cc | false ↦ λ e h. kept e (none_filter p q xs h) ] in
    cases refl none
  where
    kept : p x ≡ false → is_none (find p (filter q xs)) ≡ true → is_none (find p (filter q (x ∷ xs))) ≡ true
    kept e rest =
        let Q : Bool → Type 0 = λ b. is_none (find p (cond b (x ∷ filter q xs) (filter q xs))) ≡ true in
        elim (q x) as Q [ true ↦ ap (λ b. is_none (cond b (Some x) (find p (filter q xs)))) e ∙ rest | false ↦ rest ]

same_birth : (birth : ℕ) (material : List ℕ) (row : KeyRow) → (rolled birth material row).birth ≡ row.birth
same_birth birth material row =
    let P : Bool → Type 0 = λ b. (cond b (with_material material row) row).birth ≡ row.birth in
    elim (is_born birth row) as P [ true ↦ refl | false ↦ refl ]

none_rolled : (birth other : ℕ) (material : List ℕ) (rows : List KeyRow) → is_none (find_birth rows birth) ≡ true → is_none (find_birth (map (rolled other material) rows) birth) ≡ true
none_rolled birth other material [] none = none
none_rolled birth other material (row ∷ rows) none =
    let same : is_born birth (rolled other material row) ≡ is_born birth row = ap (λ b. b == birth) (same_birth other material row) in
    let P : Bool → Type 0 = λ b. is_none (cond b (Some row) (find_birth rows birth)) ≡ true
    → is_none (cond b (Some (rolled other material row)) (find_birth (map (rolled other material) rows) birth)) ≡ true in
    let cases : P (is_born birth row) = elim (is_born birth row) as P [ true ↦ λ h. absurd cc | false ↦ λ h. none_rolled birth other material rows h ] in
    ap (λ b. is_none (cond b (Some (rolled other material row)) (find_birth (map (rolled other material) rows) birth))) same ∙ cases none

none_left : (birth : ℕ) (rows : List KeyRow) → is_none (find_birth (filter (λ row. not (is_born birth row)) rows) birth) ≡ true
none_left birth [] = refl
none_left birth (row ∷ rows) =
    let rest : List KeyRow = filter (λ r. not (is_born birth r)) rows in
    let P : Bool → Type 0 = λ b. is_born birth row ≡ b → is_none (find_birth (cond (not b) (row ∷ rest) rest) birth) ≡ true in
    let cases : P (is_born birth row) = elim (is_born birth row) as P [
      | true ↦ λ e. none_left birth rows
      | false ↦ λ e. ap (λ b. is_none (cond b (Some row) (find_birth rest birth))) e ∙ none_left birth rows
    ] in
    cases refl

-- a birth that is gone

made_gone : (t : Table) (row : KeyRow) (birth : ℕ) → t.greatest < row.birth → Gone t birth → is_none (find_birth (t.rows ++ row ∷ []) birth) ≡ true
made_gone t row birth new gone = none_more (is_born birth) t.rows row gone.absent (other_number row.birth birth (λ same. absurd (omega (arith, same, new, gone.used))))

-- a command that, if it creates a key, gives it a new birth
abbrev pub IsNew : Table → KeyCommand → Type 0
IsNew t (Opened opening) = ⊤
IsNew t (Create birth name bits description created material) = t.greatest < birth
IsNew t (Roll birth number material) = ⊤
IsNew t (Delete birth) = ⊤

gone_after : (t : Table) (command : KeyCommand) (birth : ℕ) → IsNew t command → Gone t birth → Gone (after t command) birth
gone_after t (Opened opening) birth new gone = record { used = gone.used; absent = gone.absent }
gone_after t (Create made name bits description created material) birth new gone = record { used = omega (arith, new, gone.used); absent = made_gone t _ birth new gone }
gone_after t (Roll rolled number material) birth new gone = record { used = gone.used; absent = none_rolled birth rolled material t.rows gone.absent }
gone_after t (Delete gone_too) birth new gone = record { used = gone.used; absent = none_filter (is_born birth) (λ row. not (is_born gone_too row)) t.rows gone.absent }

-- a command that applies and creates a key gives it a new birth
pub new_birth : (t : Table) (command : KeyCommand) → applies t command ≡ true → IsNew t command
new_birth t (Opened opening) may = tt
new_birth t (Create birth name bits description created material) may =
    let a = and_parts (nat_lt 0 t.opening && is_none (find_name t.rows name) && opening_of birth == t.opening && nat_lt t.greatest birth && nat_lt (length t.rows) 10000 && is_length bits) (length material == bits / 8) may in
    let b = and_parts (nat_lt 0 t.opening && is_none (find_name t.rows name) && opening_of birth == t.opening && nat_lt t.greatest birth && nat_lt (length t.rows) 10000) (is_length bits) a.0 in
    let c = and_parts (nat_lt 0 t.opening && is_none (find_name t.rows name) && opening_of birth == t.opening && nat_lt t.greatest birth) (nat_lt (length t.rows) 10000) b.0 in
    let d = and_parts (nat_lt 0 t.opening && is_none (find_name t.rows name) && opening_of birth == t.opening) (nat_lt t.greatest birth) c.0 in
    let is = d.1 in grind (arith, nat_tests, is)
new_birth t (Roll birth number material) may = tt
new_birth t (Delete birth) may = tt

pub gone_behind : (t : Table) (command : KeyCommand) (birth : ℕ) → applies t command ≡ true → Gone t birth → Gone (after t command) birth
gone_behind t command birth may gone = gone_after t command birth (new_birth t command may) gone

-- a pending command that was kept took effect
pub settled_took : (s : KmsState) (command : KeyCommand) → settled true (record { keys = s; pending = Some command }) ≡ took s command
settled_took s command = refl

gone_settled : (kept : Bool) (pending : Option KeyCommand) (s : KmsState) (birth : ℕ) → IfSome pending (IsPending s) → Gone s.table birth → Gone (settled_table kept pending s.table) birth
gone_settled kept None s birth waits gone = gone
gone_settled true (Some command) s birth waits gone = gone_behind s.table command birth waits.fits gone
gone_settled false (Some command) s birth waits gone = gone

-- births are below the next one even after the pending command was settled
pub below_settled : (kept : Bool) (s : ServiceState) → IsService s → (settled kept s).table.greatest < next_birth (settled kept s)
below_settled kept s is = go kept s.pending is.waits
  where
    go : (kept : Bool) (o : Option KeyCommand) → IfSome o (IsPending s.keys) → (settled_table kept o s.keys.table).greatest < (settled_table kept o s.keys.table).opening * 2 ^ 32 + s.keys.next
    go kept None waits = is.births
    go true (Some command) waits = let b = waits.births in let o = waits.same_opening in omega (arith, b, ap (λ (n : ℕ). n * 2 ^ 32) o)
    go false (Some command) waits = is.births

-- the keys after a call

after_call : (P : KmsState → Type 0) (s : KmsState) (words : ℕ → ℕ) (now : ℕ) (c : KmsCall) (answer : KmsReply) (drawn : ℕ) (s' : KmsState)
    → KmsActs s words now c answer drawn s' → P s → P (done_with (deed s words now c).logs (deed s words now c).state) → P s'
after_call P s words now c answer drawn s' (e, may, is) here there = by_end e is
  where
    by_cause : (cause : Option KmsRefusal) → (record { reply = answer; drawn = drawn; state = s' }) ≡ unless_refused cause s (deed s words now c) → P s'
    by_cause (Some why) is = subst P (sym (ap (λ o. o.state) is)) here
    by_cause None is = subst P (sym (ap (λ o. o.state) is)) there

    by_end : (e : Ending) → (record { reply = answer; drawn = drawn; state = s' }) ≡ outcome s words now c e → P s'
    by_end Plain is = by_cause (first_cause (causes s c)) is
    by_end (NoRoom some) is = subst P (sym (ap (λ o. o.state) is)) here

deed_gone : (s : KmsState) (words : ℕ → ℕ) (now : ℕ) (c : KmsCall) (birth : ℕ) → s.table.greatest < next_birth s → Gone s.table birth → Gone (done_with (deed s words now c).logs (deed s words now c).state).table birth
deed_gone s words now (call.Create name bits material description) birth below gone = gone_after s.table (Create (next_birth s) name bits description now _) birth below gone
deed_gone s words now (call.Roll name material) birth below gone = gone_after s.table (Roll (birth_of (row_of s name)) (versions_of (row_of s name)) _) birth tt gone
deed_gone s words now (call.Delete name) birth below gone = gone_after s.table (Delete (birth_of (row_of s name))) birth tt gone
deed_gone s words now (call.Invalidate name) birth below gone = gone
deed_gone s words now (call.Metadata name) birth below gone = gone
deed_gone s words now (call.Metadatas names) birth below gone = gone
deed_gone s words now call.Names birth below gone = gone
deed_gone s words now (call.Current name) birth below gone = gone
deed_gone s words now (call.Versions name) birth below gone = gone
deed_gone s words now (call.Version version) birth below gone = gone
deed_gone s words now (call.Generate name count) birth below gone = gone
deed_gone s words now (call.Decrypt name sent) birth below gone = gone
deed_gone s words now (call.Reencrypt name sent) birth below gone = gone
deed_gone s words now (call.Batch name sent) birth below gone = gone

-- a deed whose command was not written does not change the table
pub deed_keeps : (s : KmsState) (words : ℕ → ℕ) (now : ℕ) (c : KmsCall) → (deed s words now c).state.table ≡ s.table
deed_keeps s words now (call.Create name bits material description) = refl
deed_keeps s words now (call.Roll name material) = refl
deed_keeps s words now (call.Delete name) = refl
deed_keeps s words now (call.Invalidate name) = refl
deed_keeps s words now (call.Metadata name) = refl
deed_keeps s words now (call.Metadatas names) = refl
deed_keeps s words now call.Names = refl
deed_keeps s words now (call.Current name) = refl
deed_keeps s words now (call.Versions name) = refl
deed_keeps s words now (call.Version version) = refl
deed_keeps s words now (call.Generate name count) = refl
deed_keeps s words now (call.Decrypt name sent) = refl
deed_keeps s words now (call.Reencrypt name sent) = refl
deed_keeps s words now (call.Batch name sent) = refl

-- a call on the queues changes nothing else
pub only_queues : (s s' : ServiceState) → s' ≡ s → OnlyQueues s s'
only_queues s s' same = subst (λ (t : ServiceState). OnlyQueues s t) (sym same) refl

-- the keys are the same, but for the queues
abbrev SameKeys : KmsState → KmsState → Type 0
SameKeys s t = t ≡ record s { ready = t.ready }

deed_works : (s : KmsState) (words : ℕ → ℕ) (now : ℕ) (c : KmsCall) → kind c ≡ Working → SameKeys s (done_with (deed s words now c).logs (deed s words now c).state)
deed_works s words now (call.Create name bits material description) works = absurd cc
deed_works s words now (call.Roll name material) works = absurd cc
deed_works s words now (call.Delete name) works = absurd cc
deed_works s words now (call.Invalidate name) works = refl
deed_works s words now (call.Metadata name) works = absurd cc
deed_works s words now (call.Metadatas names) works = absurd cc
deed_works s words now call.Names works = absurd cc
deed_works s words now (call.Current name) works = absurd cc
deed_works s words now (call.Versions name) works = absurd cc
deed_works s words now (call.Version version) works = absurd cc
deed_works s words now (call.Generate name count) works = refl
deed_works s words now (call.Decrypt name sent) works = absurd cc
deed_works s words now (call.Reencrypt name sent) works = absurd cc
deed_works s words now (call.Batch name sent) works = absurd cc

pub works_only : (s : ServiceState) (words : ℕ → ℕ) (now : ℕ) (c : KmsCall) (answer : KmsReply) (drawn : ℕ) (logged : List KeyCommand) (s' : ServiceState)
    → kind c ≡ Working → OnlyWorks s words now c answer drawn logged s' → OnlyQueues s s'
works_only s words now c answer drawn logged s' works w =
    let same : SameKeys s.keys w.changed = after_call (SameKeys s.keys) s.keys words now c answer drawn w.changed w.acts refl (deed_works s.keys words now c works) in
    subst (λ (t : ServiceState). OnlyQueues s t) (sym w.left) (λ i. record s { keys = same i })

pub gone_stays : (s : ServiceState) (words : ℕ → ℕ) (now : ℕ) (c : KmsCall) (before later : ℕ) (tells : Type 0) (answer : KmsReply) (drawn : ℕ) (logged : List KeyCommand) (s' : ServiceState)
    → IsService s → KmsServes s words now c (Rose before later) tells answer drawn logged s' → (birth : ℕ) → Gone s.keys.table birth → Gone s'.keys.table birth
gone_stays s words now c before later tells answer drawn logged s' is serves birth gone = go (kind c) refl serves
  where
    base_gone : (kept : Bool) → Gone (settled kept s).table birth
    base_gone kept = gone_settled kept s.pending s.keys birth is.waits gone

    go : (k : Kind) → kind c ≡ k → ServesBy k s words now c (Rose before later) tells answer drawn logged s' → Gone s'.keys.table birth
    go Reading is r = subst (λ (t : ServiceState). Gone t.keys.table birth) (sym r.same) gone
    go Working is r = subst (λ (t : ServiceState). Gone t.keys.table birth) (sym (works_only s words now c answer drawn logged s' is r)) gone
    go Committing is (inl u) = subst (λ (t : ServiceState). Gone t.keys.table birth) (sym u.same) gone
    go Committing commits (inr (kept, inl w)) =
        subst (λ (t : ServiceState). Gone t.keys.table birth) (sym w.left)
        (after_call (λ (t : KmsState). Gone t.table birth) (settled kept s) words now c answer drawn w.changed w.acts (base_gone kept)
        (deed_gone (settled kept s) words now c birth (below_settled kept s is) (base_gone kept)))
    go Committing commits (inr (kept, inr u)) =
        subst (λ (t : ServiceState). Gone t.keys.table birth) (sym u.left) (subst (λ (t : Table). Gone t birth) (sym (deed_keeps (settled kept s) words now c)) (base_gone kept))

pub gone_stays_at_start : GoneStaysAtStart
gone_stays_at_start s kept sizes is birth gone =
    let there = gone_settled kept s.pending s.keys birth is.waits gone in
    record { used = there.used; absent = there.absent }

-- births that are used up

-- a command that does not give this birth to a key
abbrev GivesNot : ℕ → KeyCommand → Type 0
GivesNot birth (Opened opening) = ⊤
GivesNot birth (Create made name bits description created material) = made ≡ birth → ⊥
GivesNot birth (Roll other number material) = ⊤
GivesNot birth (Delete other) = ⊤

absent_after : (t : Table) (command : KeyCommand) (birth : ℕ) → GivesNot birth command → is_none (find_birth t.rows birth) ≡ true → is_none (find_birth (after t command).rows birth) ≡ true
absent_after t (Opened opening) birth other none = none
absent_after t (Create made name bits description created material) birth other none = none_more (is_born birth) t.rows _ none (other_number made birth other)
absent_after t (Roll rolled number material) birth other none = none_rolled birth rolled material t.rows none
absent_after t (Delete gone) birth other none = none_filter (is_born birth) (λ row. not (is_born gone row)) t.rows none

absent_settled : (kept : Bool) (o : Option KeyCommand) (t : Table) (birth : ℕ) → IfSome o (GivesNot birth) → is_none (find_birth t.rows birth) ≡ true → is_none (find_birth (settled_table kept o t).rows birth) ≡ true
absent_settled kept None t birth other none = none
absent_settled true (Some command) t birth other none = absent_after t command birth other none
absent_settled false (Some command) t birth other none = none

absent_done : (o : Option KeyCommand) (s : KmsState) (birth : ℕ) → IfSome o (GivesNot birth) → is_none (find_birth s.table.rows birth) ≡ true → is_none (find_birth (done_with o s).table.rows birth) ≡ true
absent_done None s birth other none = none
absent_done (Some command) s birth other none = absent_after s.table command birth other none

-- a deed gives no key a birth below the next one
deed_gives : (s : KmsState) (words : ℕ → ℕ) (now : ℕ) (c : KmsCall) (birth : ℕ) → birth < next_birth s → IfSome (deed s words now c).logs (GivesNot birth)
deed_gives s words now (call.Create name bits material description) birth below = λ same. absurd (omega (arith, same, below))
deed_gives s words now (call.Roll name material) birth below = tt
deed_gives s words now (call.Delete name) birth below = tt
deed_gives s words now (call.Invalidate name) birth below = tt
deed_gives s words now (call.Metadata name) birth below = tt
deed_gives s words now (call.Metadatas names) birth below = tt
deed_gives s words now call.Names birth below = tt
deed_gives s words now (call.Current name) birth below = tt
deed_gives s words now (call.Versions name) birth below = tt
deed_gives s words now (call.Version version) birth below = tt
deed_gives s words now (call.Generate name count) birth below = tt
deed_gives s words now (call.Decrypt name sent) birth below = tt
deed_gives s words now (call.Reencrypt name sent) birth below = tt
deed_gives s words now (call.Batch name sent) birth below = tt

-- the next birth stays or increases
deed_next : (s : KmsState) (words : ℕ → ℕ) (now : ℕ) (c : KmsCall) → next_birth s ≤ next_birth (deed s words now c).state
deed_next s words now (call.Create name bits material description) = omega arith
deed_next s words now (call.Roll name material) = omega arith
deed_next s words now (call.Delete name) = omega arith
deed_next s words now (call.Invalidate name) = omega arith
deed_next s words now (call.Metadata name) = omega arith
deed_next s words now (call.Metadatas names) = omega arith
deed_next s words now call.Names = omega arith
deed_next s words now (call.Current name) = omega arith
deed_next s words now (call.Versions name) = omega arith
deed_next s words now (call.Version version) = omega arith
deed_next s words now (call.Generate name count) = omega arith
deed_next s words now (call.Decrypt name sent) = omega arith
deed_next s words now (call.Reencrypt name sent) = omega arith
deed_next s words now (call.Batch name sent) = omega arith

done_next : (s : KmsState) (words : ℕ → ℕ) (now : ℕ) (c : KmsCall) → next_birth s ≤ next_birth (done_with (deed s words now c).logs (deed s words now c).state)
done_next s words now (call.Create name bits material description) = omega arith
done_next s words now (call.Roll name material) = omega arith
done_next s words now (call.Delete name) = omega arith
done_next s words now (call.Invalidate name) = omega arith
done_next s words now (call.Metadata name) = omega arith
done_next s words now (call.Metadatas names) = omega arith
done_next s words now call.Names = omega arith
done_next s words now (call.Current name) = omega arith
done_next s words now (call.Versions name) = omega arith
done_next s words now (call.Version version) = omega arith
done_next s words now (call.Generate name count) = omega arith
done_next s words now (call.Decrypt name sent) = omega arith
done_next s words now (call.Reencrypt name sent) = omega arith
done_next s words now (call.Batch name sent) = omega arith

next_settled : (kept : Bool) (s : ServiceState) → IsService s → next_birth (settled kept s) ≡ next_birth s.keys
next_settled kept s is = go kept s.pending is.waits
  where
    go : (kept : Bool) (o : Option KeyCommand) → IfSome o (IsPending s.keys) → (settled_table kept o s.keys.table).opening * 2 ^ 32 + s.keys.next ≡ next_birth s.keys
    go kept None waits = refl
    go true (Some command) waits = ap (λ (n : ℕ). n * 2 ^ 32 + s.keys.next) waits.same_opening
    go false (Some command) waits = refl

-- a birth below the next one that no key has after a change while nothing was pending
changes_use_up : (s : KmsState) (logged_before : List KeyCommand) (words : ℕ → ℕ) (now : ℕ) (c : KmsCall) (fault : Type 0) (answer : KmsReply) (drawn : ℕ) (logged : List KeyCommand) (s' : ServiceState) (birth : ℕ)
    → birth < next_birth s → Changes s logged_before words now c fault answer drawn logged s' → is_none (find_birth s'.keys.table.rows birth) ≡ true → IsUsedUp s' birth
changes_use_up s logged_before words now c fault answer drawn logged s' birth below (inl w) none =
    subst (λ (t : ServiceState). IsUsedUp t birth) (sym w.left)
    (record { below = omega (arith, below, rises); absent = λ kept. subst (λ (t : ServiceState). is_none (find_birth t.keys.table.rows birth) ≡ true) w.left none })
  where
    rises : next_birth s ≤ next_birth w.changed
    rises = after_call (λ (t : KmsState). next_birth s ≤ next_birth t) s words now c answer drawn w.changed w.acts (omega arith) (done_next s words now c)
changes_use_up s logged_before words now c fault answer drawn logged s' birth below (inr u) none =
    subst (λ (t : ServiceState). IsUsedUp t birth) (sym u.left)
    (record {
      below = omega (arith, below, deed_next s words now c);
      absent = λ kept. absent_settled kept (deed s words now c).logs (deed s words now c).state.table birth (deed_gives s words now c birth below)
          (subst (λ (t : ServiceState). is_none (find_birth t.keys.table.rows birth) ≡ true) u.left none);
    })

-- a change of keys gives no key such a birth
changes_give : (s : KmsState) (logged_before : List KeyCommand) (words : ℕ → ℕ) (now : ℕ) (c : KmsCall) (fault : Type 0) (answer : KmsReply) (drawn : ℕ) (logged : List KeyCommand) (s' : ServiceState) (birth : ℕ)
    → birth < next_birth s → Changes s logged_before words now c fault answer drawn logged s' → is_none (find_birth s.table.rows birth) ≡ true → is_none (find_birth s'.keys.table.rows birth) ≡ true
changes_give s logged_before words now c fault answer drawn logged s' birth below (inl w) none =
    subst (λ (t : ServiceState). is_none (find_birth t.keys.table.rows birth) ≡ true) (sym w.left)
    (after_call (λ (t : KmsState). is_none (find_birth t.table.rows birth) ≡ true) s words now c answer drawn w.changed w.acts none
    (absent_done (deed s words now c).logs (deed s words now c).state birth (deed_gives s words now c birth below)
    (subst (λ (t : Table). is_none (find_birth t.rows birth) ≡ true) (sym (deed_keeps s words now c)) none)))
changes_give s logged_before words now c fault answer drawn logged s' birth below (inr u) none =
    subst (λ (t : ServiceState). is_none (find_birth t.keys.table.rows birth) ≡ true) (sym u.left)
    (subst (λ (t : Table). is_none (find_birth t.rows birth) ≡ true) (sym (deed_keeps s words now c)) none)

pub used_up_stays : (s : ServiceState) (words : ℕ → ℕ) (now : ℕ) (c : KmsCall) (before later : ℕ) (tells : Type 0) (answer : KmsReply) (drawn : ℕ) (logged : List KeyCommand) (s' : ServiceState)
    → IsService s → KmsServes s words now c (Rose before later) tells answer drawn logged s' → (birth : ℕ) → IsUsedUp s birth → IsUsedUp s' birth
used_up_stays s words now c before later tells answer drawn logged s' is serves birth used = go (kind c) refl serves
  where
    below : (kept : Bool) → birth < next_birth (settled kept s)
    below kept = subst (λ (n : ℕ). birth < n) (sym (next_settled kept s is)) used.below

    go : (k : Kind) → kind c ≡ k → ServesBy k s words now c (Rose before later) tells answer drawn logged s' → IsUsedUp s' birth
    go Reading reads r = subst (λ (t : ServiceState). IsUsedUp t birth) (sym r.same) used
    go Working works r = subst (λ (t : ServiceState). IsUsedUp t birth) (sym (works_only s words now c answer drawn logged s' works r)) (record { below = used.below; absent = used.absent })
    go Committing commits (inl u) = subst (λ (t : ServiceState). IsUsedUp t birth) (sym u.same) used
    go Committing commits (inr (kept, changes)) =
        changes_use_up (settled kept s) (settled_commands kept s.pending) words now c (Rose before later) answer drawn logged s' birth (below kept) changes
        (changes_give (settled kept s) (settled_commands kept s.pending) words now c (Rose before later) answer drawn logged s' birth (below kept) changes (used.absent kept))

pub lost_is_used_up : (s : ServiceState) (words : ℕ → ℕ) (now : ℕ) (c : KmsCall) (before later : ℕ) (tells : Type 0) (answer : KmsReply) (drawn : ℕ) (logged : List KeyCommand) (s' : ServiceState)
    → IsService s → KmsServes s words now c (Rose before later) tells answer drawn logged s' → (birth : ℕ) → birth < next_birth s.keys → is_none (find_birth s'.keys.table.rows birth) ≡ true → IsUsedUp s' birth ⊎ OnlyQueues s s'
lost_is_used_up s words now c before later tells answer drawn logged s' is serves birth below none = go (kind c) refl serves
  where
    go : (k : Kind) → kind c ≡ k → ServesBy k s words now c (Rose before later) tells answer drawn logged s' → IsUsedUp s' birth ⊎ OnlyQueues s s'
    go Reading reads r = inr (only_queues s s' r.same)
    go Working works r = inr (works_only s words now c answer drawn logged s' works r)
    go Committing commits (inl u) = inr (only_queues s s' u.same)
    go Committing commits (inr (kept, changes)) =
        inl (changes_use_up (settled kept s) (settled_commands kept s.pending) words now c (Rose before later) answer drawn logged s' birth
        (subst (λ (n : ℕ). birth < n) (sym (next_settled kept s is)) below) changes none)

pub used_up_at_start : UsedUpAtStart
used_up_at_start s kept sizes is birth below none = record { below = omega (arith, next_settled kept s is, below, is.counter); absent = λ again. none }

-- a key that exists has a birth

rising_top : (low : ℕ) (rows : List KeyRow) (top : ℕ) → AreRowsRising low rows top → low ≤ top
rising_top low [] top rising = rising
rising_top low (row ∷ rows) top rising = omega (arith, rising.0, rising_top row.birth rows top rising.1)

born : (low : ℕ) (p : KeyRow → Bool) (rows : List KeyRow) (top : ℕ) → AreRowsRising low rows top → IfSome (find p rows) (λ row. row.birth ≤ top)
born low p [] top rising = tt
born low p (row ∷ rows) top rising =
    let Q : Bool → Type 0 = λ b. IfSome (cond b (Some row) (find p rows)) (λ row. row.birth ≤ top) in
    elim (p row) as Q [ true ↦ rising_top row.birth rows top rising.1 | false ↦ born row.birth p rows top rising.1 ]

birth_below : (row : Option KeyRow) (top : ℕ) → is_none row ≡ false → IfSome row (λ r. r.birth ≤ top) → birth_of row ≤ top
birth_below None top stands is = absurd cc
birth_below (Some row) top stands is = is

-- a delete that was done

record Deleted (s : KmsState) (name : List ℕ) (s' : KmsState) : Type 0 where
  stands : is_none (row_of s name) ≡ false
  state : s' ≡ done_with (deleted s (birth_of (row_of s name))).logs s

was_deleted : (s : KmsState) (words : ℕ → ℕ) (now : ℕ) (name : List ℕ) (drawn : ℕ) (s' : KmsState) → KmsActs s words now (call.Delete name) reply.Done drawn s' → Deleted s name s'
was_deleted s words now name drawn s' (e, may, is) = by_end e is
  where
    by_row : (absent : Bool) → is_none (row_of s name) ≡ absent
        → (record { reply = reply.Done; drawn = drawn; state = s' }) ≡ unless_refused (cond absent (Some refusal.NoSuchKey) None) s (deed s words now (call.Delete name)) → Deleted s name s'
    by_row true stands is = let no : reply.Done ≡ reply.Refused refusal.NoSuchKey = ap (λ o. o.reply) is in absurd cc
    by_row false stands is = record { stands = stands; state = ap (λ o. o.state) is }

    by_end : (e : Ending) → (record { reply = reply.Done; drawn = drawn; state = s' }) ≡ outcome s words now (call.Delete name) e → Deleted s name s'
    by_end Plain is = by_row (is_none (row_of s name)) refl is
    by_end (NoRoom some) is = let no : reply.Done ≡ reply.Refused refusal.NoMemory = ap (λ o. o.reply) is in absurd cc

-- births increase even after the pending command was settled
rising_settled : (kept : Bool) (s : ServiceState) → IsService s → AreRowsRising 0 (settled kept s).table.rows (settled kept s).table.greatest
rising_settled kept s is = go kept s.pending is.waits
  where
    behind : (command : KeyCommand) → applies s.keys.table command ≡ true → AreRowsRising 0 (after s.keys.table command).rows (after s.keys.table command).greatest
    behind (Opened opening) may = is.table.births
    behind (Create birth name bits description created material) may = (sound_create s.keys.table birth name bits description created material is.table may).births
    behind (Roll birth number material) may = (sound_roll s.keys.table birth number material is.table may).births
    behind (Delete birth) may = (sound_delete s.keys.table birth is.table).births

    go : (kept : Bool) (o : Option KeyCommand) → IfSome o (IsPending s.keys) → AreRowsRising 0 (settled_table kept o s.keys.table).rows (settled_table kept o s.keys.table).greatest
    go kept None waits = is.table.births
    go true (Some command) waits = behind command waits.fits
    go false (Some command) waits = is.table.births

deleted_in : (s : KmsState) (words : ℕ → ℕ) (now : ℕ) (name : List ℕ) (drawn : ℕ) (s' : KmsState) → AreRowsRising 0 s.table.rows s.table.greatest
    → KmsActs s words now (call.Delete name) reply.Done drawn s' → Gone s'.table (birth_of (row_of s name))
deleted_in s words now name drawn s' rising acts =
    let done = was_deleted s words now name drawn s' acts in
    let birth : ℕ = birth_of (row_of s name) in
    let used : birth ≤ s.table.greatest = birth_below (row_of s name) s.table.greatest done.stands (born 0 (is_named name) s.table.rows s.table.greatest rising) in
    subst (λ (t : KmsState). Gone t.table birth) (sym done.state) (record { used = used; absent = none_left birth s.table.rows })

pub deleted_is_gone : (s : ServiceState) (words : ℕ → ℕ) (now : ℕ) (name : List ℕ) (before later : ℕ) (tells : Type 0) (drawn : ℕ) (logged : List KeyCommand) (s' : ServiceState)
    → IsService s → KmsServes s words now (call.Delete name) (Rose before later) tells reply.Done drawn logged s'
    → (kept : Bool) × Gone s'.keys.table (birth_of (row_of (settled kept s) name))
deleted_is_gone s words now name before later tells drawn logged s' is serves = go serves
  where
    go : ServesBy Committing s words now (call.Delete name) (Rose before later) tells reply.Done drawn logged s' → (kept : Bool) × Gone s'.keys.table (birth_of (row_of (settled kept s) name))
    go (inl u) = let no : reply.Done ≡ reply.Refused refusal.StoreFault = u.reply_is in absurd cc
    go (inr (kept, inl w)) =
        (kept, subst (λ (t : ServiceState). Gone t.keys.table (birth_of (row_of (settled kept s) name))) (sym w.left) (deleted_in (settled kept s) words now name drawn w.changed (rising_settled kept s is) w.acts))
    go (inr (kept, inr u)) = let no : reply.Done ≡ reply.Refused refusal.StoreFault = u.reply_is in absurd cc
