-- Tickets, and deposits of ready keys.
use Rattle.std.proofs.Common.{◌≡◌, ℕ, ◌-◌, List, [], ◌∷◌, ◌++◌, length, Bool, true, false, ◌&&◌, ◌==◌, cond, Option, None, Some, is_none, Result, Ok, Err, refl, ap, sym, ◌∙◌, subst}
use Rattle.std.specs.Prelude.{IfOk, IfSome, OnErr, option_map, unwrap_or}
use Rattle.std.proofs.lemmas.Bool.{eqb-true, eq-eqb, and_parts}
use Rattle.hk_base.specs.declared.names.Edek.{Edek}
use Rattle.hk_base.specs.declared.texts.NoMemory.{NoMemory}
use Rattle.eek_seal.specs.Tickets.{SealedKey}
use Rattle.eek_queues.specs.Queues.{AllQueues, Queue, has_queue, ready_in}
use Rattle.eek_queues.proofs.Births.{other-is}
use Rattle.key_rows.specs.declared.rows.KeyRow.{KeyRow}
use Rattle.key_rows.specs.Table.{current_of, find_birth, is_named}
use Rattle.key_rows.specs.Sound.{AreRowsRising, IsKeyTable}
use Rattle.key_rows.proofs.Births.{by_birth, each_more}
use Rattle.kms_core.specs.declared.drawing.CurrentVersion.{CurrentVersion}
use Rattle.eek_seal.specs.declared.deposit.Deposit.TheVariants.{Full, Kept}
use Rattle.kms_core.specs.State.{AllReady, Keeps, KmsState, ServiceState, emptied}
use Rattle.kms_core.specs.Calls.{current_version, row_of}
use Rattle.kms_core.specs.Ready.{deposit_answer, edek_of_sealed, is_filled, is_of_key, is_present, low_birth, newest_material, stale_for, ticket_for, ticket_of, with_sealed}
use Rattle.kms_core.specs.Steps.{DrewSome, HandsOut, IsCurrent, IsNewest, IsOfNewest}
use Rattle.kms_core.proofs.KeyLemmas.{named}
use Rattle.kms_core.proofs.QueueLemmas.{all_handed_out, all_set, ready_are}

-- the keys of other queues
pub keeps_queues : (s : ServiceState) (all : AllQueues) → AllReady s.keys.table.rows all.queues → Keeps s → Keeps (record s { keys = record s.keys { ready = all } })
keeps_queues s all ready k = (k.0, k.1, k.2, k.3, k.4, ready)

-- the row of a key whose current version is known
pub current_found : (s : KmsState) (name : List ℕ) (current : CurrentVersion) → IsCurrent s name current → (row : KeyRow) × (find_birth s.table.rows current.birth ≡ Some row)
current_found s name current is = go (row_of s name) is.stands is.found
  where
    go : (o : Option KeyRow) → is_none o ≡ false → find_birth s.table.rows current.birth ≡ o → (row : KeyRow) × (find_birth s.table.rows current.birth ≡ Some row)
    go None stands found = absurd cc
    go (Some row) stands found = (row, found)

pub all_given : (rows : List KeyRow) (all all' : AllQueues) (current : CurrentVersion) (words words' : ℕ → ℕ) (count : ℕ) (row : KeyRow) (result : Result (List Edek) NoMemory)
    → IfOk result (HandsOut all all' current words words' count) → OnErr result ((all' ≡ all) × DrewSome current words words' (count - length (ready_in all.queues current.birth)))
    → find_birth rows current.birth ≡ Some row → AllReady rows all.queues → AllReady rows all'.queues
all_given rows all all' current words words' count row (Ok keys) given wanting found each = subst (λ (x : AllQueues). AllReady rows x.queues) (sym given.queues) (all_handed_out rows all current.birth count row found each)
all_given rows all all' current words words' count row (Err why) given wanting found each = subst (λ (x : AllQueues). AllReady rows x.queues) (sym wanting.0) each

pub all_emptied : (rows : List KeyRow) (all : AllQueues) (birth : ℕ) → AllReady rows all.queues → AllReady rows (emptied all birth).queues
all_emptied rows all birth each = all_set rows all.queues birth [] each (λ row found. tt)

-- a queue is of a key that exists
pub queue_stands : (rows : List KeyRow) (qs : List Queue) (birth : ℕ) → AllReady rows qs → has_queue qs birth ≡ true → (row : KeyRow) × (find_birth rows birth ≡ Some row)
queue_stands rows [] birth all has = absurd cc
queue_stands rows (q ∷ qs) birth all has =
    let P : Bool → Type 0 = λ b. (q.birth == birth) ≡ b → cond b true (has_queue qs birth) ≡ true → (row : KeyRow) × (find_birth rows birth ≡ Some row) in
    let cases : P (q.birth == birth) = elim (q.birth == birth) as P [
      | true ↦ λ is h. (all.0.0, ap (find_birth rows) (sym (eqb-true q.birth birth is)) ∙ all.0.1)
      | false ↦ λ is h. queue_stands rows qs birth all.1 h
    ] in
    cases refl has

pub ticket_is : (s : KmsState) (birth : ℕ) (row : KeyRow) (current : CurrentVersion) → low_birth s.ready ≡ Some birth → find_birth s.table.rows birth ≡ Some row → IsNewest row current
    → Some (record { opening = s.table.opening; birth = birth; version = current.version; material = current.material; wanted = s.ready.size - length (ready_in s.ready.queues birth) }) ≡ ticket_of s
ticket_is s birth row current low found is =
    let version : current.version ≡ current_version (find_birth s.table.rows birth) = is.version ∙ ap current_version (sym found) in
    let material : current.material ≡ newest_material (find_birth s.table.rows birth) = ap (λ o. unwrap_or o []) (sym is.material) ∙ ap newest_material (sym found) in
    (λ i. Some (record { opening = s.table.opening; birth = birth; version = version i; material = material i; wanted = s.ready.size - length (ready_in s.ready.queues birth) }))
    ∙ ap (option_map (ticket_for s)) (sym low)

-- the key of a sealed key that is present

pub present_key : (s : KmsState) (x : SealedKey) (row : KeyRow) → row_of s x.version.key ≡ Some row → find_birth s.table.rows row.birth ≡ Some row → is_present s x ≡ true → IsOfNewest s x
present_key s x row found born present =
    let of_key : is_of_key (Some row) x ≡ true = ap (λ o. is_of_key o x) (sym found) ∙ (and_parts (is_of_key (row_of s x.version.key) x) (x.opening == s.table.opening) present).0 in
    let parts = and_parts (x.birth == row.birth) (x.version.number == length row.materials - 1) of_key in
    let key : x.version.key ≡ row.name = sym (named s.table.rows x.version.key row found) in
    let number : x.version.number ≡ length row.materials - 1 = eqb-true x.version.number (length row.materials - 1) parts.1 in
    record { row = row; found = ap (find_birth s.table.rows) (eqb-true x.birth row.birth parts.0) ∙ born; version = λ i. record { key = key i; number = number i } }

pub newest_of : (s : KmsState) (x : SealedKey) → AreRowsRising 0 s.table.rows s.table.greatest → is_present s x ≡ true → IsOfNewest s x
newest_of s x rising present = go (row_of s x.version.key) refl (by_birth 0 (is_named x.version.key) s.table.rows s.table.greatest rising)
  where
    go : (o : Option KeyRow) → row_of s x.version.key ≡ o → IfSome o (λ row. find_birth s.table.rows row.birth ≡ Some row) → IsOfNewest s x
    go None found born =
        let no : false ≡ true = ap (λ o. is_of_key o x && x.opening == s.table.opening) (sym found) ∙ present in
        absurd cc
    go (Some row) found born = present_key s x row found born present

pub present_newest : (s : KmsState) (x : SealedKey) → IsKeyTable s.table → is_present s x ≡ true → IsOfNewest s x
present_newest s x table present = newest_of s x table.births present

pub all_deposited : (s : KmsState) (x : SealedKey) → IsOfNewest s x → AllReady s.table.rows s.ready.queues → AllReady s.table.rows (with_sealed s.ready x).queues
all_deposited s x is all =
    all_set s.table.rows s.ready.queues x.birth (ready_in s.ready.queues x.birth ++ edek_of_sealed x ∷ []) all
    (λ row found. each_more (λ (e : Edek). e.version ≡ current_of row) (ready_in s.ready.queues x.birth) (edek_of_sealed x) (ready_are s.table.rows s.ready.queues x.birth row all found)
    (let same : Some is.row ≡ Some row = sym is.found ∙ found in let row_is : is.row ≡ row = cc in is.version ∙ ap current_of row_is))

-- the answer

pub answers_stale : (s : KmsState) (x : SealedKey) → is_present s x ≡ false → stale_for s (row_of s x.version.key) ≡ deposit_answer s x
answers_stale s x past = ap (λ b. cond b (cond (is_filled s.ready x.birth) Full Kept) (stale_for s (row_of s x.version.key))) (sym past)

answers_filled : (s : KmsState) (x : SealedKey) (b : Bool) → is_present s x ≡ true → is_filled s.ready x.birth ≡ b → cond b Full Kept ≡ deposit_answer s x
answers_filled s x b present filled =
    ap (λ c. cond c Full Kept) (sym filled) ∙ ap (λ c. cond c (cond (is_filled s.ready x.birth) Full Kept) (stale_for s (row_of s x.version.key))) (sym present)

filled_in : (all : AllQueues) (birth : ℕ) (b : Bool) → has_queue all.queues birth ≡ b → is_filled all birth ≡ cond b (length (ready_in all.queues birth) == all.size) true
filled_in all birth b has = ap (λ c. cond c (length (ready_in all.queues birth) == all.size) true) has

pub answers_full : (s : KmsState) (x : SealedKey) → is_present s x ≡ true → has_queue s.ready.queues x.birth ≡ true → length (ready_in s.ready.queues x.birth) ≡ s.ready.size → Full ≡ deposit_answer s x
answers_full s x present has full = answers_filled s x true present (filled_in s.ready x.birth true has ∙ eq-eqb (length (ready_in s.ready.queues x.birth)) s.ready.size full)

pub answers_kept : (s : KmsState) (x : SealedKey) → is_present s x ≡ true → has_queue s.ready.queues x.birth ≡ true → (length (ready_in s.ready.queues x.birth) ≡ s.ready.size → ⊥) → Kept ≡ deposit_answer s x
answers_kept s x present has room = answers_filled s x false present (filled_in s.ready x.birth true has ∙ other-is (length (ready_in s.ready.queues x.birth)) s.ready.size room)

pub answers_unqueued : (s : KmsState) (x : SealedKey) → is_present s x ≡ true → has_queue s.ready.queues x.birth ≡ false → Full ≡ deposit_answer s x
answers_unqueued s x present none = answers_filled s x true present (filled_in s.ready x.birth false none)
