-- The data keys of tickets and deposits.
use Rattle.std.proofs.Common.{◌≡◌, ◌≢◌, ℕ, ◌-◌, List, [], ◌∷◌, ◌++◌, length, Bool, true, false, ◌&&◌, ◌==◌, cond, nat_lt, Option, None, Some, is_none, refl, ap, sym, ◌∙◌, subst}
use Rattle.std.specs.Prelude.{IfSome, option_map, unwrap_or}
use Rattle.std.specs.List.{AllByRecursion}
use Rattle.std.specs.Str.{bytes_eq}
use Rattle.std.proofs.lemmas.Slice.Eq.{bytes_eq-Decides}
use Rattle.std.proofs.lemmas.Bool.{eqb-true, and_parts}
use Rattle.eek_seal.specs.Seal.{unseal}
use Rattle.eek_seal.specs.Tickets.{SealedKey}
use Rattle.eek_seal.specs.declared.tickets.Ticket.{Ticket}
use Rattle.eek_seal.proofs.SealLemmas.{unseal-seal}
use Rattle.eek_queues.specs.Queues.{Queue, has_queue, is_lower, limit, lower_of, lowest, ready_in}
use Rattle.eek_queues.proofs.Births.{ready-set}
use Rattle.key_rows.specs.declared.rows.KeyRow.{KeyRow}
use Rattle.key_rows.specs.Sound.{NamesOnce}
use Rattle.key_rows.specs.Table.{current_of, find_birth, find_name, is_born, material_of}
use Rattle.key_rows.proofs.Births.{found_has}
use Rattle.eek_seal.specs.declared.deposit.Deposit.{Deposit}
use Rattle.eek_seal.specs.declared.deposit.Deposit.TheVariants.{Full, Kept}
use Rattle.kms_core.specs.State.{IsReadyFor, KmsState}
use Rattle.kms_core.specs.Calls.{current_material, current_version, row_of}
use Rattle.kms_core.specs.Laws.{DepositOpens, TicketOpens}
use Rattle.kms_core.specs.Ready.{deposit_answer, edek_of_sealed, is_filled, is_of_key, is_present, newest_material, queues_with, stale_for, ticket_for}
use Rattle.kms_core.proofs.DepositLemmas.{answers_unqueued}
use Rattle.kms_core.proofs.KeyLemmas.{named}
use Rattle.kms_core.proofs.LawLemmas.{standing_key}

-- a sealed key that is kept is present, and its key exists

pub kept_present : (s : KmsState) (x : SealedKey) → deposit_answer s x ≡ Kept → is_present s x ≡ true
kept_present s x tells = go (is_present s x) refl tells
  where
    go : (b : Bool) → is_present s x ≡ b → cond b (cond (is_filled s.ready x.birth) Full Kept) (stale_for s (row_of s x.version.key)) ≡ Kept → is_present s x ≡ true
    go true is tells = is
    go false is tells = absurd cc

pub kept_queued : (s : KmsState) (x : SealedKey) → is_present s x ≡ true → deposit_answer s x ≡ Kept → has_queue s.ready.queues x.birth ≡ true
kept_queued s x present kept = go (has_queue s.ready.queues x.birth) refl
  where
    go : (b : Bool) → has_queue s.ready.queues x.birth ≡ b → has_queue s.ready.queues x.birth ≡ true
    go true is = is
    go false is = let no : Full ≡ Kept = answers_unqueued s x present is ∙ kept in absurd cc

present_stands : (s : KmsState) (x : SealedKey) → is_present s x ≡ true → is_none (row_of s x.version.key) ≡ false
present_stands s x present = go (row_of s x.version.key) present
  where
    go : (o : Option KeyRow) → (is_of_key o x && x.opening == s.table.opening) ≡ true → is_none o ≡ false
    go None present = absurd cc
    go (Some row) present = refl

present_version : (s : KmsState) (x : SealedKey) (row : KeyRow) → row_of s x.version.key ≡ Some row → is_present s x ≡ true → x.version ≡ current_of row
present_version s x row found present =
    let of_key : is_of_key (Some row) x ≡ true = ap (λ o. is_of_key o x) (sym found) ∙ (and_parts (is_of_key (row_of s x.version.key) x) (x.opening == s.table.opening) present).0 in
    let parts = and_parts (x.birth == row.birth) (x.version.number == length row.materials - 1) of_key in
    let key : x.version.key ≡ row.name = sym (named s.table.rows x.version.key row found) in
    let number : x.version.number ≡ length row.materials - 1 = eqb-true x.version.number (length row.materials - 1) parts.1 in
    λ i. record { key = key i; number = number i }

pub deposit_opens : DepositOpens
deposit_opens s x is kept =
    let present : is_present s.keys x ≡ true = kept_present s.keys x kept in
    let row = standing_key s.keys x.version.key is.table (present_stands s.keys x present) in
    let version : x.version ≡ current_version (row_of s.keys x.version.key) = present_version s.keys x row.0 row.1.found present ∙ ap current_version (sym row.1.found) in
    let material : List ℕ = current_material s.keys x.version.key in
    record {
      newest = ap (λ (d : Deposit). ready_in (queues_with s.keys.ready x d).queues x.birth) kept ∙ ready-set s.keys.ready.queues x.birth (ready_in s.keys.ready.queues x.birth ++ edek_of_sealed x ∷ []) (kept_queued s.keys x present kept);
      opens = λ sealed.
          ap (λ v. option_map (λ m. unseal m x.iv x.sealed) (material_of s.keys.table.rows v)) version ∙ ap (option_map (λ m. unseal m x.iv x.sealed)) row.1.has
          ∙ ap (λ bytes. Some (unseal material x.iv bytes)) sealed ∙ ap Some (unseal-seal material x.iv x.dek);
    }

-- the lowest queue is one of the queues
lowest_has : (P : Queue → Type 0) (n : ℕ) (qs : List Queue) → AllByRecursion P qs → IfSome (lowest n qs) P
lowest_has P n [] all = tt
lowest_has P n (q ∷ qs) all = go (nat_lt (length q.ready) n) (lowest n qs) (lowest_has P n qs all.1)
  where
    lower : (r : Queue) → P r → (b : Bool) → P (cond b r q)
    lower r p true = p
    lower r p false = all.0

    go : (b : Bool) (o : Option Queue) → IfSome o P → IfSome (cond b (Some (lower_of q o)) o) P
    go true None rest = all.0
    go true (Some r) rest = lower r rest (is_lower r q)
    go false o rest = rest

-- the key of a birth is also found by its name
by_name : (rows : List KeyRow) (birth : ℕ) (row : KeyRow) → NamesOnce rows → find_birth rows birth ≡ Some row → find_name rows row.name ≡ Some row
by_name [] birth row once found = absurd cc
by_name (r ∷ rows) birth row once found =
    let P : Bool → Type 0 = λ b. is_born birth r ≡ b → cond b (Some r) (find_birth rows birth) ≡ Some row → find_name (r ∷ rows) row.name ≡ Some row in
    let cases : P (is_born birth r) = elim (is_born birth r) as P [
      | true ↦ λ born is.
          let same : r ≡ row = cc in
          ap (λ (b : Bool). cond b (Some r) (find_name rows row.name)) ((bytes_eq-Decides r.name row.name).1 (ap (λ (k : KeyRow). k.name) same)) ∙ ap Some same
      | false ↦ λ other is.
          let differs : row.name ≢ r.name = subst (λ (o : Option KeyRow). IfSome o (λ (k : KeyRow). k.name ≢ r.name)) is (found_has (λ (k : KeyRow). k.name ≢ r.name) (is_born birth) rows once.0) in
          ap (λ (b : Bool). cond b (Some r) (find_name rows row.name)) (not_same r.name row.name (λ e. differs (sym e))) ∙ by_name rows birth row once.1 is
    ] in
    cases refl found
  where
    not_same : (a b : List ℕ) → a ≢ b → bytes_eq a b ≡ false
    not_same a b other =
        let Q : Bool → Type 0 = λ t. bytes_eq a b ≡ t → bytes_eq a b ≡ false in
        let cases : Q (bytes_eq a b) = elim (bytes_eq a b) as Q [ true ↦ λ e. absurd (other ((bytes_eq-Decides a b).0 e)) | false ↦ λ e. e ] in
        cases refl

pub ticket_opens : TicketOpens
ticket_opens s ticket is tells = go (lowest (limit s.keys.ready) s.keys.ready.queues) (lowest_has (IsReadyFor s.keys.table.rows) (limit s.keys.ready) s.keys.ready.queues is.ready) tells
  where
    for_row : (birth : ℕ) (row : KeyRow) → find_birth s.keys.table.rows birth ≡ Some row → material_of s.keys.table.rows (ticket_for s.keys birth).version ≡ Some (ticket_for s.keys birth).material
    for_row birth row found =
        let here : row_of s.keys row.name ≡ Some row = by_name s.keys.table.rows birth row is.table.names found in
        let key = standing_key s.keys row.name is.table (ap is_none here) in
        let material : newest_material (row_of s.keys row.name) ≡ current_material s.keys row.name = ap newest_material key.1.found ∙ ap (λ o. unwrap_or o []) key.1.got in
        ap (λ o. material_of s.keys.table.rows (current_version o)) (found ∙ sym here) ∙ key.1.has ∙ ap Some (sym material ∙ ap newest_material (here ∙ sym found))

    go : (o : Option Queue) → IfSome o (IsReadyFor s.keys.table.rows) → option_map (ticket_for s.keys) (option_map (λ q. q.birth) o) ≡ Some ticket → material_of s.keys.table.rows ticket.version ≡ Some ticket.material
    go None ready tells = absurd cc
    go (Some q) ready tells =
        let same : ticket_for s.keys q.birth ≡ ticket = cc in
        subst (λ (t : Ticket). material_of s.keys.table.rows t.version ≡ Some t.material) same (for_row q.birth ready.0 ready.1)
