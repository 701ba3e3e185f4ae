-- A store fault is one of a disk.
use Rattle.std.proofs.Common.{◌≡◌, ◌⊎◌, inl, inr, ℕ, List, refl}
use Rattle.std.specs.Prelude.{Option}
use Rattle.hk_base.specs.Disk.{DiskState, Tells}
use Rattle.prop_text.specs.declared.props.Props.{Props}
use Rattle.hk_base.specs.Faults.{Rose}
use Rattle.command_io.specs.Ends.{Reports, ended_by, ended_by_props, status_of as replay_status}
use Rattle.command_io.specs.declared.ends.ReplayEnd.{ReplayEnd}
use Rattle.command_io.specs.declared.ends.ReplayEnd.TheVariants as ended
use Rattle.command_io.specs.declared.props.PropsFault.{PropsFault}
use Rattle.command_io.specs.declared.props.PropsFault.TheVariants as props_fault
use Rattle.prop_text.specs.declared.faults.PropFault.TheVariants as prop
use Rattle.body_stream.specs.Vaults.{VaultState}
use Rattle.hk_runs.proofs.BeganLemmas.{start_cause, store_ended}
use Rattle.file_orders.specs.declared.ends.FsEnd.{FsEnd}
use Rattle.file_orders.specs.declared.ends.FsEnd.TheVariants as end
use Rattle.data_stream.specs.Runs.{Worked, world_before}
use Rattle.data_stream.specs.Ends.{ClosesWith, status_of}
use Rattle.data_stream.proofs.StatusLemmas.{closes_either, reports_either, rose_within}
use Rattle.copy_reads.specs.Commands.{CopyUnder, ReadsCopyFile, RestAfter}
use Rattle.copy_reads.proofs.FaultLemmas.{by_either, copies_store}
use Rattle.copy_reads.proofs.ReadLemmas.{copy_store}

end_stores : (how : FsEnd) → status_of how ≡ 5 → how ≡ end.StoreFault
end_stores (end.Put count) h = absurd cc
end_stores (end.Read count) h = absurd cc
end_stores (end.NameRefused why) h = absurd cc
end_stores (end.KeyRefused why) h = absurd cc
end_stores end.Directory h = absurd cc
end_stores end.StoreFault h = refl
end_stores end.NoMemory h = absurd cc
end_stores end.ReadFault h = absurd cc
end_stores end.WriteFault h = absurd cc
end_stores end.VaultFault h = absurd cc
end_stores end.TooLong h = absurd cc

replay_stores : (how : ReplayEnd) → replay_status how ≡ 5 → how ≡ ended.StoreFault
replay_stores ended.Done h = absurd cc
replay_stores (ended.AclRefused number) h = absurd cc
replay_stores (ended.AclRepeated number) h = absurd cc
replay_stores (ended.AclUnknown number) h = absurd cc
replay_stores ended.AclTooLong h = absurd cc
replay_stores ended.BadLine h = absurd cc
replay_stores (ended.DamagedKeys at) h = absurd cc
replay_stores (ended.DamagedNames at) h = absurd cc
replay_stores ended.StoreFault h = refl
replay_stores ended.NoMemory h = absurd cc
replay_stores ended.ReadFault h = absurd cc
replay_stores ended.WriteFault h = absurd cc
replay_stores ended.Spent h = absurd cc

pub props_store : (fault : PropsFault) → ended_by_props fault ≡ ended.StoreFault → ⊥
props_store props_fault.ReadFault h = cc
props_store (props_fault.TextFault (prop.BadLine number)) h = cc
props_store (props_fault.TextFault (prop.Repeated number)) h = cc
props_store (props_fault.TextFault (prop.UnknownName number)) h = cc
props_store (props_fault.TextFault prop.TooLong) h = cc
props_store (props_fault.TextFault prop.NoMemory) h = cc

pub reported_store : (how : ReplayEnd) (written now : Option (List ℕ)) (status : ℕ) → Reports how written now status → status ≡ 5 → how ≡ ended.StoreFault
reported_store how written now status r is = replay_stores how (by_either (replay_status how) 5 status (λ h. cc) (λ h. cc) (reports_either how written now status r) is)

pub closed_store : (how : FsEnd) (written now : Option (List ℕ)) (status : ℕ) → ClosesWith how written now status → status ≡ 5 → how ≡ end.StoreFault
closed_store how written now status c is = end_stores how (by_either (status_of how) 5 status (λ h. cc) (λ h. cc) (closes_either how written now status c) is)

module _ (user path : List ℕ) (from count : ℕ) (old new backup backup' : DiskState) (words words' : ℕ → ℕ) (copies copies' : VaultState) (written now : Option (List ℕ)) (status : ℕ) (is : status ≡ 5) where
  abbrev Cause : Type 0
  Cause = Rose old.faults new.faults ⊎ Rose backup.faults backup'.faults

  rest_cause : (props : Props) (same : Type 0) (worked : Worked props old new words words') → RestAfter worked same user path from count backup backup' copies copies' written now status → Cause
  rest_cause props same worked (inl not) = inr (not.not_opened.why.cause (copies_store not.fault written now status not.reports is))
  rest_cause props same worked (inr (r, wrote)) =
      inl (rose_within old.faults worked.before _ new.faults worked.began worked.ended
      (copy_store props.lines (Tells old) (world_before worked) words worked.before r.moment r.names.store.table.rows user path from count worked.history worked.runs r.how copies copies' written r.body r.reads
      (closed_store r.how r.body now status r.closes is)))

  pub store_cause : (same_disk same_backup same : Type 0) (acls acls' : Option (List ℕ)) → ReadsCopyFile same_disk same_backup same user path from count old new backup backup' acls acls' words words' copies copies' written now status → Cause
  store_cause same_disk same_backup same acls acls' (inl bad) = absurd (props_store bad.fault (reported_store (ended_by_props bad.fault) written now status bad.reports is))
  store_cause same_disk same_backup same acls acls' (inr with) = under with.range
    where
      under : CopyUnder with.props same_backup same user path from count old new backup backup' words words' copies copies' written now status → Cause
      under (inl not) = inl (start_cause old new not.file not.fault not.not_opened (store_ended not.file not.fault (reported_store (ended_by not.file not.fault) written now status not.reports is)))
      under (inr o) = rest_cause with.props same o.worked o.rest
