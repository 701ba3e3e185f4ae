-- Reading materials, several times.
use Rattle.std.proofs.Common.{◌≡◌, List, [], Option, option_map, arith, refl, sym, ◌∙◌, subst}
use Rattle.std.specs.Prelude.{IsTrue}
use Rattle.hk_base.specs.Disk.{DiskState, LeavesOnly, RunOn, Tells}
use Rattle.hk_base.proofs.Runs.{Going, begin, both_read, compose}
use Rattle.key_rows.specs.declared.rows.KeyCommand.{KeyCommand}
use Rattle.key_rows.specs.Records.{spelling}
use Rattle.key_index.proofs.LogLemmas.{on_disk}
use Rattle.kms_store.specs.Store.{HasMaterials, IsKeyStoreOf, IsLogOf, ReadsMaterials, StoreState}

-- the disk of a store has the older materials
pub has_materials : (d : DiskState) (store : StoreState) (commands : List KeyCommand) → store.log.file ≡ 0 → IsKeyStoreOf d store commands → HasMaterials d store
has_materials d store commands file s = record {
  older = s.materials.older;
  stands = s.materials.stands;
  held = on_disk d store.log (option_map spelling store.pending) s.materials.older commands store.index s.log file s.materials.held;
  cached = s.materials.cached;
}

pub reads-none : (d : DiskState) (store : StoreState) → ReadsMaterials d d store store
reads-none d store = record {
  same = refl;
  kept = λ telling commands s. s;
  moments = λ telling commands s. (begin 0 d (IsLogOf commands store.pending)).moments;
  run = (begin 0 d (IsLogOf [] store.pending)).run;
  held = λ telling s. s;
  reads = record { reads = λ telling. refl; leaves = λ c left. left };
  leaves = (begin 0 d (d.leaves 0)).moments;
}

tells-then : {old mid : DiskState} → RunOn 0 old mid → Tells old → Tells mid
tells-then run telling = subst (λ b. IsTrue b) (sym run.tells) telling

pub reads-then : {a b c : DiskState} {s t u : StoreState} → ReadsMaterials a b s t → ReadsMaterials b c t u → ReadsMaterials a c s u
reads-then {a} {b} {c} {s} {t} {u} one two = record {
  same = two.same ∙ (λ i. record (one.same i) { cache = u.cache });
  kept = λ telling commands holds. two.kept (tells-then one.run telling) commands (one.kept telling commands holds);
  moments = λ telling commands holds. (both commands (one.moments telling commands holds) (two.moments (tells-then one.run telling) commands (one.kept telling commands holds))).moments;
  run = run;
  held = λ telling s. two.held (tells-then one.run telling) (one.held telling s);
  reads = both_read first one.reads two.reads;
  leaves = (compose first (record { run = two.run; moments = two.leaves }) (λ c left. one.reads.leaves c left)).moments;
}
  where
    first : Going 0 a b (a.leaves 0)
    first = record { run = one.run; moments = one.leaves }

    waits : t.pending ≡ s.pending
    waits = λ i. (one.same i).pending

    both : (commands : List KeyCommand) → LeavesOnly 0 a b (IsLogOf commands s.pending) → LeavesOnly 0 b c (IsLogOf commands t.pending) → Going 0 a c (IsLogOf commands s.pending)
    both commands first then =
        compose {file = 0} {P = IsLogOf commands s.pending} (record { run = one.run; moments = first }) (record { run = two.run; moments = then })
        (λ bytes log. subst (λ (pending : Option KeyCommand). IsLogOf commands pending bytes) waits log)

    run : RunOn 0 a c
    run = record {
      tells = two.run.tells ∙ one.run.tells;
      faults = omega (arith, one.run.faults, two.run.faults);
      later = omega (arith, one.run.later, two.run.later);
      other_reads = λ telling. two.run.other_reads (tells-then one.run telling) ∙ one.run.other_reads telling;
      other_leaves = λ c. (λ h. (one.run.other_leaves c).0 ((two.run.other_leaves c).0 h), λ h. (two.run.other_leaves c).1 ((one.run.other_leaves c).1 h));
    }
