-- Files that a run may start from keep the promise.
use Rattle.std.proofs.Common.{◌≡◌, ℕ, inl, subst}
use Rattle.hk_base.specs.Disk.{Image}
use Rattle.key_rows.specs.Table.{Table}
use Rattle.name_store.specs.Table.{NameTable}
use Rattle.world_run.specs.Kept.{ImageKept}
use Rattle.world_run.specs.Ledger.{Draw, Past}
use Rattle.world_run.specs.Linked.{LinkedTables, SoundFiles}
use Rattle.world_run.specs.Promise.{In}
use Rattle.world_run.proofs.LawLemmas.{sound-open}

pub image_kept : (known : Past) (c : Image) → SoundFiles known c → ImageKept known c
image_kept known c sound = record { sound = sound; kept = λ s found found_names. record { files_open = sound-open known c s found found_names; one_file = one (s.linked found found_names) } }
  where
    one : {table : Table} {names : NameTable} → LinkedTables known table names → (i j : ℕ) (d f : Draw) → In (i, d) known.ledger → In (j, f) known.ledger → d.place ≡ f.place → i ≡ j
    one l i j d f p q same = l.fits.one_file i j f (subst (λ (x : Draw). In (i, x) known.ledger) (l.draws.one_place d f (inl (i, p)) (inl (j, q)) same) p) q
