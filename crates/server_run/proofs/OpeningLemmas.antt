-- Services that were just opened run on their disks.
use Rattle.std.proofs.Common.{◌≡◌, refl, sym, ap, subst, IsTrue, List, ◌++◌, ◌∷◌, []}
use Rattle.hk_base.specs.Disk.{DiskState}
use Rattle.kms_store.specs.Store.{next_opening}
use Rattle.name_store.specs.Table.{next_opening as next_opening_of_names}
use Rattle.prop_text.specs.declared.lines.PropLine.{PropLine}
use Rattle.prop_text.specs.declared.props.Props.{Props}
use Rattle.prop_text.specs.SizeValues.{SizeValues}
use Rattle.kms_acls.specs.Agreement.{AreListsOf}
use Rattle.kms_acls.specs.Lists.{Lists}
use Rattle.kms_core.specs.Users.{RunningKms}
use Rattle.name_core.specs.State.{NameService, RunningNames}
use Rattle.kms_cell.specs.Views.{KmsView, RunsOn}
use Rattle.name_history.specs.Views.{NamesRunOn}
use Rattle.server_parts.specs.Yards.{YardState}
use Rattle.server_run.specs.Opening.{BothOpened, LogsOpened}

module _ {D : Type 0} (state : D → DiskState) where
  pub keys_run : (lines : List PropLine) (lists : Lists) (sizes : SizeValues) (old new : YardState) (keys_disk : D) (kms : RunningKms) (names_disk : D) (names : RunningNames)
      → AreListsOf lists lines → LogsOpened state lists sizes old new keys_disk kms names_disk names → RunsOn (state keys_disk) kms
  keys_run lines lists sizes old new keys_disk kms names_disk names are o =
      let k = o.keys_opened in
      record {
        lines = lines;
        lists = subst (λ l. AreListsOf l lines) (sym o.lists_are) are;
        log = λ tells.
            let log = k.starts.log (subst (λ b. IsTrue b) k.tells tells) in
            (log.0 ++ next_opening k.starts.table ∷ [], log.2);
      }

  pub names_run : (lists : Lists) (sizes : SizeValues) (old new : YardState) (keys_disk : D) (kms : RunningKms) (names_disk : D) (names : RunningNames)
      → LogsOpened state lists sizes old new keys_disk kms names_disk names → NamesRunOn (state names_disk) names
  names_run lists sizes old new keys_disk kms names_disk names o tells =
      let n = o.names_opened in
      let log = n.starts.log (subst (λ b. IsTrue b) n.tells tells) in
      (log.0 ++ next_opening_of_names n.starts.found ∷ [], log.3)

  -- a namesystem that was just started has walked through no zone
  pub no_walks : (lists : Lists) (sizes : SizeValues) (old new : YardState) (keys_disk : D) (kms : RunningKms) (names_disk : D) (names : RunningNames)
      → LogsOpened state lists sizes old new keys_disk kms names_disk names → names.walks ≡ []
  no_walks lists sizes old new keys_disk kms names_disk names o = ap (λ (s : NameService). s.names.walks) o.names_opened.starts.opens

  module _ {W : Type 0} where
    pub both_opened : (props : Props) (lists : Lists) (old new : YardState) (words : W) (keys_disk : D) (kms : RunningKms) (names_disk : D) (names : RunningNames) (k : KmsView D W) (service : RunningNames) (disk : D)
        → AreListsOf lists props.lines → LogsOpened state lists props.sizes old new keys_disk kms names_disk names
        → k ≡ record { kms = kms; disk = keys_disk; words = words } → service ≡ names → disk ≡ names_disk → BothOpened state props old new words k service disk
    both_opened props lists old new words keys_disk kms names_disk names k service disk are o k_is service_is disk_is =
        subst (λ (k : KmsView D W). BothOpened state props old new words k service disk) (sym k_is)
        (subst (λ (s : RunningNames). BothOpened state props old new words (record { kms = kms; disk = keys_disk; words = words }) s disk) (sym service_is)
        (subst (λ (d : D). BothOpened state props old new words (record { kms = kms; disk = keys_disk; words = words }) names d) (sym disk_is)
        (record {
          lists = subst (λ l. AreListsOf l props.lines) (sym o.lists_are) are;
          logs = subst (λ l. LogsOpened state l props.sizes old new keys_disk kms names_disk names) (sym o.lists_are) o;
          words_are = refl;
        })))
