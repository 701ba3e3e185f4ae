-- A run of calls on one file, with the log of the other.
use Rattle.std.proofs.Common.{◌≡◌, ◌⊎◌, inl, inr, ℕ, Bool, List, [], ◌++◌, map, option_map, sym, subst, ⊎_elim}
use Rattle.std.proofs.lemmas.List.{append-nil}
use Rattle.hk_base.specs.Disk.{DiskState, Image, LeavesOnly, RunOn, Tells}
use Rattle.frame_log.proofs.Layers.{other_stands}
use Rattle.key_rows.specs.Records.{spelling}
use Rattle.key_rows.specs.declared.rows.KeyCommand.{KeyCommand}
use Rattle.edit_ops.specs.Records.{spelling as op_spelling}
use Rattle.edit_ops.specs.declared.ops.EditOp.{EditOp}
use Rattle.kms_store.specs.Store.{IsLeftOf, NoCommand, IsKeyStoreOf, StoreState}
use Rattle.name_store.specs.Store.{IsLeftOf as IsLeftOfNames, NothingMore, made_with}
use Rattle.name_core.specs.State.{RunningNames, IsNamesystemOf}
use Rattle.world_run.specs.Acknowledged.{Acknowledged, HoldsLogs, LeavesBoth, RunBoth, also}
use Rattle.world_run.specs.Does.{OnKeys, OnNames}
use Rattle.world_run.specs.Linked.{ServicesFit}
use Rattle.world_run.specs.World.{RunningWorld, world_of}
use Rattle.world_run.proofs.Laters.{may-wait}
use Rattle.kms_store.proofs.Layers.{left_by_store}
use Rattle.world_run.proofs.KeyLemmas.{keys-weaker}
use Rattle.world_run.proofs.StepLemmas.{own-weaker}
use Rattle.name_store.proofs.Layers.{left_by_store as left_by_names}

-- the records of the other log

pub keys-beside : (old new : DiskState) (store : StoreState) (commands : List KeyCommand) → store.log.file ≡ 0 → RunOn 1 old new → Tells old → IsKeyStoreOf old store commands → IsKeyStoreOf new store commands
keys-beside old new store commands of_file run telling s = record {
  spelled = s.spelled;
  makes = s.makes;
  waits = s.waits;
  log = other_stands 1 old new store.log (map spelling commands) (option_map spelling store.pending) run of_file telling s.log;
  materials = s.materials;
}

pub names-beside : (old new : DiskState) (r : RunningNames) (ops : List EditOp) → r.store.log.log.file ≡ 1 → RunOn 0 old new → Tells old → IsNamesystemOf old r ops → IsNamesystemOf new r ops
names-beside old new r ops of_file run telling s = record {
  used = s.used;
  store = record {
    log = record {
      spelled = s.store.log.spelled;
      waits = s.store.log.waits;
      log = other_stands 0 old new r.store.log.log (map op_spelling ops) (option_map op_spelling r.store.log.pending) run of_file telling s.store.log.log;
    };
    makes = s.store.makes;
    waits = s.store.waits;
  };
  below = s.below;
  free = s.free;
}

-- runs and crashes

pub both-of : (file : ℕ) (old new : DiskState) → RunOn file old new → RunBoth old new
both-of file old new run = record { tells = run.tells; faults = run.faults; later = run.later }

pub leaves-keys : (old new : DiskState) (P : List ℕ → Type 0) (Q : Image → Type 0) → ((c : Image) → P (c 0) → old.leaves 1 (c 1) → Q c) → LeavesOnly 0 old new P → LeavesBoth old new Q
leaves-keys old new P Q f moments = record { before = λ t c le left. ⊎_elim (λ past. inl past) (λ now. inr (f c now.0 now.1)) (moments.before t c le left) }

pub leaves-names : (old new : DiskState) (P : List ℕ → Type 0) (Q : Image → Type 0) → ((c : Image) → P (c 1) → old.leaves 0 (c 0) → Q c) → LeavesOnly 1 old new P → LeavesBoth old new Q
leaves-names old new P Q f moments = record { before = λ t c le left. ⊎_elim (λ past. inl past) (λ now. inr (f c now.0 now.1)) (moments.before t c le left) }

pub leaves-weaker : (old new : DiskState) (P Q : Image → Type 0) → ((c : Image) → P c → Q c) → LeavesBoth old new P → LeavesBoth old new Q
leaves-weaker old new P Q f moments = record { before = λ t c le left. ⊎_elim (λ past. inl past) (λ now. inr (f c now)) (moments.before t c le left) }

-- what a crash may leave of both logs, if these are acknowledged; `own_keys` and `own` say what may be written after each settled log
pub record IsLeftOfBoth (r : RunningWorld) (own_keys : Bool → KeyCommand → Type 0) (own : Bool → EditOp → Type 0) (done : Acknowledged) (used : List ℕ) (c : Image) : Type 0 where
  pub keys : IsLeftOf r.keys.store.table.keys r.keys.store.pending own_keys done.keys (c 0)
  pub names : IsLeftOfNames (made_with r.names.store used) r.names.store.log.pending own done.names (c 1)

abbrev pub LeavesLogs : DiskState → DiskState → RunningWorld → (Bool → KeyCommand → Type 0) → (Bool → EditOp → Type 0) → Type 0
LeavesLogs old new r own_keys own = (done : Acknowledged) (s : HoldsLogs old r done) → LeavesBoth old new (IsLeftOfBoth r own_keys own done s.names.used)

-- a crash leaves of the other file, on which an event doesn't work, what it might have left before

pub keys-now : (d : DiskState) (r : RunningWorld) (own_keys : Bool → KeyCommand → Type 0) (done : Acknowledged) → r.keys.store.log.file ≡ 0 → ServicesFit (world_of r) → HoldsLogs d r done → (bytes : List ℕ) → d.leaves 0 bytes
    → IsLeftOf r.keys.store.table.keys r.keys.store.pending own_keys done.keys bytes
keys-now d r own_keys done of_file fit s bytes left =
    keys-weaker NoCommand own_keys r.keys.store.table.keys r.keys.store.pending done.keys bytes (λ k c none. absurd none)
    (left_by_store d r.keys.store done.keys of_file (may-wait r.keys.store.pending (world_of r).keys.keys fit.keys.waits) s.keys bytes left)

pub names-now : (d : DiskState) (r : RunningWorld) (own : Bool → EditOp → Type 0) (done : Acknowledged) → r.names.store.log.log.file ≡ 1 → (s : HoldsLogs d r done) → (bytes : List ℕ) → d.leaves 1 bytes
    → IsLeftOfNames (made_with r.names.store s.names.used) r.names.store.log.pending own done.names bytes
names-now d r own done of_file s bytes left = own-weaker NothingMore own r.names s.names.used done.names bytes (λ k op none. absurd none) (left_by_names d r.names.store s.names.used done.names of_file s.names.store bytes left)

pub on-keys-leaves : (old new : DiskState) (r : RunningWorld) (own_keys : Bool → KeyCommand → Type 0) (own : Bool → EditOp → Type 0) → r.names.store.log.log.file ≡ 1
    → ((commands : List KeyCommand) → IsKeyStoreOf old r.keys.store commands → LeavesOnly 0 old new (IsLeftOf r.keys.store.table.keys r.keys.store.pending own_keys commands)) → LeavesLogs old new r own_keys own
on-keys-leaves old new r own_keys own of_file moments done s =
    leaves-keys old new (IsLeftOf r.keys.store.table.keys r.keys.store.pending own_keys done.keys) (IsLeftOfBoth r own_keys own done s.names.used)
    (λ c here other. record { keys = here; names = names-now old r own done of_file s (c 1) other }) (moments done.keys s.keys)

pub on-names-leaves : (old new : DiskState) (r : RunningWorld) (own_keys : Bool → KeyCommand → Type 0) (own : Bool → EditOp → Type 0) → r.keys.store.log.file ≡ 0 → ServicesFit (world_of r)
    → ((ops : List EditOp) (s : IsNamesystemOf old r.names ops) → LeavesOnly 1 old new (IsLeftOfNames (made_with r.names.store s.used) r.names.store.log.pending own ops)) → LeavesLogs old new r own_keys own
on-names-leaves old new r own_keys own of_file fit moments done s =
    leaves-names old new (IsLeftOfNames (made_with r.names.store s.names.used) r.names.store.log.pending own done.names) (IsLeftOfBoth r own_keys own done s.names.used)
    (λ c here other. record { keys = keys-now old r own_keys done of_file fit s (c 0) other; names = here }) (moments done.names s.names)

pub one-leaves : (old new : DiskState) (r r' : RunningWorld) (own_keys : Bool → KeyCommand → Type 0) (own : Bool → EditOp → Type 0) (logged : Acknowledged) → r.keys.store.log.file ≡ 0 → r.names.store.log.log.file ≡ 1 → ServicesFit (world_of r)
    → OnKeys old new r r' own_keys logged ⊎ OnNames old new r r' own logged → Tells old → LeavesLogs old new r own_keys own
one-leaves old new r r' own_keys own logged keys_file names_file fit (inl k) telling = on-keys-leaves old new r own_keys own names_file (k.log.moments telling)
one-leaves old new r r' own_keys own logged keys_file names_file fit (inr n) telling = on-names-leaves old new r own_keys own keys_file fit (n.log.moments telling)

pub one-runs : (old new : DiskState) (r r' : RunningWorld) (own_keys : Bool → KeyCommand → Type 0) (own : Bool → EditOp → Type 0) (logged : Acknowledged) → OnKeys old new r r' own_keys logged ⊎ OnNames old new r r' own logged → RunBoth old new
one-runs old new r r' own_keys own logged (inl k) = both-of 0 old new k.log.run
one-runs old new r r' own_keys own logged (inr n) = both-of 1 old new n.log.run

-- acknowledged records are in the logs

pub one-holds : (old new : DiskState) (r r' : RunningWorld) (own_keys : Bool → KeyCommand → Type 0) (own : Bool → EditOp → Type 0) (logged : Acknowledged) → r.keys.store.log.file ≡ 0 → r.names.store.log.log.file ≡ 1
    → OnKeys old new r r' own_keys logged ⊎ OnNames old new r r' own logged → Tells old → (done : Acknowledged) → HoldsLogs old r done → HoldsLogs new r' (also done logged)
one-holds old new r r' own_keys own logged keys_file names_file (inl k) telling done s =
    subst (λ (l : Acknowledged). HoldsLogs new r' (also done l)) (sym k.logged_is)
    (record {
      keys = k.log.stands telling done.keys s.keys;
      names = subst (λ (q : RunningNames). IsNamesystemOf new q (done.names ++ [])) (sym k.names)
          (subst (IsNamesystemOf new r.names) (sym (append-nil done.names)) (names-beside old new r.names done.names names_file k.log.run telling s.names));
    })
one-holds old new r r' own_keys own logged keys_file names_file (inr n) telling done s =
    subst (λ (l : Acknowledged). HoldsLogs new r' (also done l)) (sym n.logged_is)
    (record {
      keys = subst (λ (q : _). IsKeyStoreOf new q.store (done.keys ++ [])) (sym n.keys)
          (subst (IsKeyStoreOf new r.keys.store) (sym (append-nil done.keys)) (keys-beside old new r.keys.store done.keys keys_file n.log.run telling s.keys));
      names = n.log.stands telling done.names s.names;
    })
