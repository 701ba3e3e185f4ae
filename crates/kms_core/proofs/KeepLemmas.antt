-- What a service keeps through its calls.
use Rattle.std.proofs.Common.{◌≡◌, ℕ, ◌+◌, ◌*◌, ◌^◌, ◌<◌, Bool, true, false, ◌||◌, nat_le, List, length, Option, None, Some, IfSome, refl, sym, subst, arith}
use Rattle.key_rows.specs.declared.rows.KeyCommand.{KeyCommand}
use Rattle.key_rows.specs.declared.rows.KeyCommand.TheVariants.{Create, Roll, Delete}
use Rattle.key_rows.specs.Table.{after}
use Rattle.std.proofs.lemmas.Bool.Decides.{nat_tests}
use Rattle.kms_core.specs.Calls.{is_full}
use Rattle.kms_core.specs.State.{AllReady, Keeps, KmsState, ServiceState, emptied, settled, without}
use Rattle.kms_core.proofs.QueueLemmas.{all_created, all_deleted, all_rolled, ready_settled}

-- the same of a service that is equal
pub keeps_is : (s t : ServiceState) → t ≡ s → Keeps s → Keeps t
keeps_is s t same k = subst (λ (x : ServiceState). Keeps x) (sym same) k

pub keeps_settled : (s : ServiceState) (kept : Bool) → Keeps s → Keeps (record { keys = settled kept s; pending = None })
keeps_settled s kept k = go kept s.pending k.4 (ready_settled kept s.pending s.keys.table s.keys.ready k.5)
  where
    go : (kept : Bool) (o : Option KeyCommand) → IfSome o (λ command. ((after s.keys.table command).opening ≡ s.keys.table.opening) × ((after s.keys.table command).greatest < s.keys.table.opening * 2 ^ 32 + s.keys.next))
        → AllReady (settled kept (record { keys = s.keys; pending = o })).table.rows (settled kept (record { keys = s.keys; pending = o })).ready.queues
        → Keeps (record { keys = settled kept (record { keys = s.keys; pending = o }); pending = None })
    go kept None waits ready = (k.0, k.1, k.2, k.3, tt, ready)
    go false (Some command) waits ready = (k.0, k.1, k.2, k.3, tt, ready)
    go true (Some command) waits ready =
        let o = waits.0 in
        let g = waits.1 in
        (subst (λ (n : ℕ). 0 < n) (sym o) k.0, subst (λ (n : ℕ). n < 2 ^ 32) (sym o) k.1, subst (λ (n : ℕ). (after s.keys.table command).greatest < n * 2 ^ 32 + s.keys.next) (sym o) g, k.3, tt, ready)

-- a key can be created only while a counter is left
pub room_for : (s : KmsState) → is_full s ≡ false → s.next < 2 ^ 32
room_for s room = go (nat_le 10000 (length s.table.rows)) (nat_le (2 ^ 32) s.next) refl room
  where
    go : (a b : Bool) → nat_le (2 ^ 32) s.next ≡ b → (a || b) ≡ false → s.next < 2 ^ 32
    go a true is full = absurd (both_no a full)
      where
        both_no : (a : Bool) → (a || true) ≡ false → ⊥
        both_no true h = absurd cc
        both_no false h = absurd cc
    go a false is full = grind (arith, nat_tests, is)

-- a key was added under the next birth, or its command is pending

pub keeps_created : (s : KmsState) (birth : ℕ) (name : List ℕ) (bits : ℕ) (description : List ℕ) (created : ℕ) (material : List ℕ) → birth ≡ s.table.opening * 2 ^ 32 + s.next → s.next < 2 ^ 32
    → Keeps (record { keys = s; pending = None }) → Keeps (record { keys = record { table = after s.table (Create birth name bits description created material); next = s.next + 1; ready = s.ready }; pending = None })
keeps_created s birth name bits description created material is room k = (k.0, k.1, omega (arith, is), omega (arith, room), tt, all_created s.table.rows _ s.ready.queues k.5)

pub keeps_lost : (s : KmsState) (birth : ℕ) (name : List ℕ) (bits : ℕ) (description : List ℕ) (created : ℕ) (material : List ℕ) → birth ≡ s.table.opening * 2 ^ 32 + s.next → s.next < 2 ^ 32
    → Keeps (record { keys = s; pending = None }) → Keeps (record { keys = record s { next = s.next + 1 }; pending = Some (Create birth name bits description created material) })
keeps_lost s birth name bits description created material is room k = (k.0, k.1, omega (arith, k.2), omega (arith, room), (refl, omega (arith, is)), k.5)

-- a key was rolled over, or its command is pending

pub keeps_rolled : (s : KmsState) (birth number : ℕ) (material : List ℕ) → Keeps (record { keys = s; pending = None })
    → Keeps (record { keys = record { table = after s.table (Roll birth number material); next = s.next; ready = emptied s.ready birth }; pending = None })
keeps_rolled s birth number material k = (k.0, k.1, k.2, k.3, tt, all_rolled s.table.rows s.ready.queues birth material k.5)

pub keeps_unrolled : (s : KmsState) (birth number : ℕ) (material : List ℕ) → Keeps (record { keys = s; pending = None }) → Keeps (record { keys = s; pending = Some (Roll birth number material) })
keeps_unrolled s birth number material k = (k.0, k.1, k.2, k.3, (refl, k.2), k.5)

-- a key was deleted, or its command is pending

pub keeps_deleted : (s : KmsState) (birth : ℕ) → Keeps (record { keys = s; pending = None })
    → Keeps (record { keys = record { table = after s.table (Delete birth); next = s.next; ready = without s.ready birth }; pending = None })
keeps_deleted s birth k = (k.0, k.1, k.2, k.3, tt, all_deleted s.table.rows s.ready.queues birth k.5)

pub keeps_undeleted : (s : KmsState) (birth : ℕ) → Keeps (record { keys = s; pending = None }) → Keeps (record { keys = s; pending = Some (Delete birth) })
keeps_undeleted s birth k = (k.0, k.1, k.2, k.3, (refl, k.2), k.5)
