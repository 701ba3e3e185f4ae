-- Runs that follow one another.
use Rattle.std.proofs.Common.{◌≡◌, inl, ℕ, List, sym, subst}
use Rattle.hk_base.specs.Disk.{DiskState, Image}
use Rattle.kms_store.specs.Store.{IsSoundLog, settled_table}
use Rattle.name_store.specs.Store.{IsSoundLog as IsSoundNames}
use Rattle.world_run.specs.Ledger.{Draw, Past}
use Rattle.world_run.specs.Linked.{OpensTo, SoundFiles, StartsSound}
use Rattle.world_run.proofs.ApartLemmas.{past-apart}
use Rattle.world_run.proofs.LawLemmas.{empty-sound}
use Rattle.hk_runs.specs.KeyFacts.{FactOfLog}
use Rattle.hk_runs.specs.Laws.{DrawsStayApart, FactsLast, FactsSurvive, FollowsCrash, FollowsRun, IsUnwritten, KeptKeysOpen, nothing_known}

pub empty_disk : (d : DiskState) → IsUnwritten d → StartsSound d nothing_known
empty_disk d short c is = empty-sound c (short c is).0 (short c is).1

pub follows_run : (old new next : DiskState) → FollowsRun old new next
follows_run old new next run from c is = run.keeps.again c (from c is)

-- only the bytes of the two files count
same_files : (known : Past) (c image : Image) → c 0 ≡ image 0 → c 1 ≡ image 1 → SoundFiles known image → SoundFiles known c
same_files known c image keys names s = record {
  commands = s.commands;
  more = s.more;
  table = s.table;
  ops = s.ops;
  more_ops = s.more_ops;
  made = s.made;
  keys = subst (λ (bytes : List ℕ). IsSoundLog bytes s.commands s.more s.table) (sym keys) s.keys;
  names = subst (λ (bytes : List ℕ). IsSoundNames bytes s.ops s.more_ops s.made) (sym names) s.names;
  linked = s.linked;
}

pub follows_crash : (old new next : DiskState) → FollowsCrash old new next
follows_crash old new next run image since has =
    let i = run.keeps.images image since in
    (i.0, i.1, λ c is. same_files _ c image (has c is).0 (has c is).1 i.2.sound)

pub facts_last : (old new next : DiskState) → FactsLast old new next
facts_last old new next run fact holds from c is = (run.keeps.lasts fact holds).on_disk.last c (from c is)

pub facts_survive : (old new next : DiskState) → FactsSurvive old new next
facts_survive old new next run fact image holds since has c is = subst (FactOfLog fact) (sym (has c is).0) ((run.keeps.lasts fact holds).on_disk.images image since)

pub kept_keys_open : (d : DiskState) → KeptKeysOpen d
kept_keys_open d known sound file edek draw is entered kept c im =
    let s = sound c im in
    let has = kept c im in
    record {
      commands = s.commands;
      more = s.more;
      table = s.table;
      log = s.keys;
      holds = λ found.
          let l = s.linked found has.0 in
          let its = l.files.files file edek has.1 is in
          record {
            born = l.draws.born draw (inl (file.id, entered));
            holds = subst (λ (x : Draw). OpensTo (settled_table found s.more s.table).rows x edek) (l.fits.one_draw file.id its.draw draw its.entered entered) its.opens;
          };
    }

pub draws_apart : (old new : DiskState) → DrawsStayApart old new
draws_apart old new run part apart is = past-apart _ (run.keeps.apart apart part is).words
