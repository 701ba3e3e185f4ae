-- By what a read of a copy was refused.
use Rattle.std.proofs.Common.{◌≡◌, ◌⊎◌, inl, inr, ℕ, true, List, [], ap, refl, sym, ◌∙◌, subst}
use Rattle.std.specs.Prelude.{Option, None, Some, Result, Ok, Err, IfErr, IsErrOf}
use Rattle.hk_base.specs.Disk.{DiskState}
use Rattle.hk_base.specs.Faults.{Rose}
use Rattle.hk_base.specs.declared.names.Dek.{Dek}
use Rattle.hk_base.specs.declared.names.Edek.{Edek}
use Rattle.edit_ops.specs.declared.ops.EditOp.{EditOp}
use Rattle.hk_events.specs.declared.event.Line.{Line}
use Rattle.hk_events.specs.declared.event.Line.TheVariants as line
use Rattle.kms_calls.specs.declared.calls.KmsRefusal.{KmsRefusal}
use Rattle.kms_calls.specs.declared.calls.KmsRefusal.TheVariants as key
use Rattle.kms_calls.specs.declared.calls.KmsReply.{KmsReply}
use Rattle.kms_calls.specs.declared.calls.KmsReply.TheVariants as key_reply
use Rattle.body_stream.specs.declared.faults.BodyFault.{BodyFault}
use Rattle.body_stream.specs.declared.faults.BodyFault.TheVariants as fault
use Rattle.body_stream.specs.Vaults.{VaultState}
use Rattle.inode_tree.specs.Rows.{is_dir_at, row_at}
use Rattle.name_calls.specs.Paths.{read_path}
use Rattle.name_calls.specs.declared.calls.NameCall.TheVariants as call
use Rattle.name_calls.specs.declared.calls.NameRefusal.{NameRefusal}
use Rattle.name_calls.specs.declared.calls.NameRefusal.TheVariants as refusal
use Rattle.name_calls.specs.declared.calls.NameReply.{NameReply}
use Rattle.name_calls.specs.declared.calls.NameReply.TheVariants as reply
use Rattle.name_calls.specs.declared.read_paths.ReadPath.{ReadPath}
use Rattle.name_core.specs.Calls.{early_causes, first_cause}
use Rattle.name_core.specs.Service.{ServesUnless}
use Rattle.name_core.specs.State.{NameService, RunningNames, service_of}
use Rattle.file_orders.specs.Bodies.{Sends}
use Rattle.file_orders.specs.Ends.{end_of_body, end_of_keys, end_of_names, end_of_refused}
use Rattle.file_orders.specs.Events.{Leading}
use Rattle.file_orders.specs.Opening.{Decrypts, OpensEdek, OpensShown, dek_by, dek_in}
use Rattle.file_orders.specs.declared.ends.FsEnd.{FsEnd}
use Rattle.file_orders.specs.declared.ends.FsEnd.TheVariants as end
use Rattle.file_orders.specs.declared.open.OpenFile.{OpenFile}
use Rattle.file_orders.specs.declared.open.ShownFile.{ShownFile}
use Rattle.backup_names.specs.Refusals.{CallRefused, NoMemoryOr, info_at}
use Rattle.copy_reads.specs.Copies.{CauseOfRead, RowRefused}

-- ---- the end by a refusal of the namesystem

abbrev IsOfNames : FsEnd → Type 0
IsOfNames (end.NameRefused why) = Unit {0}
IsOfNames end.StoreFault = Unit {0}
IsOfNames end.NoMemory = Unit {0}
IsOfNames _ = ⊥

key_of_names : (refused : KmsRefusal) (why : NameRefusal) → IsOfNames (end_of_refused refused why)
key_of_names key.BadRequest why = tt
key_of_names key.NoUser why = tt
key_of_names (key.Denied table op) why = tt
key_of_names key.NoSuchKey why = tt
key_of_names key.NoSuchVersion why = tt
key_of_names key.KeyExists why = tt
key_of_names key.WrongKey why = tt
key_of_names key.BadMaterial why = tt
key_of_names key.BadLength why = tt
key_of_names key.TooManyKeys why = tt
key_of_names key.TooManyVersions why = tt
key_of_names key.TooManyAsked why = tt
key_of_names key.NoMemory why = tt
key_of_names key.StoreFault why = tt

end_is_of_names : (why : NameRefusal) → IsOfNames (end_of_names why)
end_is_of_names refusal.BadPath = tt
end_is_of_names refusal.NoSuchPath = tt
end_is_of_names refusal.Exists = tt
end_is_of_names refusal.NotADirectory = tt
end_is_of_names refusal.NotEmpty = tt
end_is_of_names refusal.NotSuperuser = tt
end_is_of_names refusal.AlreadyInZone = tt
end_is_of_names refusal.NotAZoneRoot = tt
end_is_of_names refusal.CrossZone = tt
end_is_of_names refusal.UnderReencryption = tt
end_is_of_names refusal.HasSnapshots = tt
end_is_of_names refusal.NotSnapshottable = tt
end_is_of_names refusal.SnapshotExists = tt
end_is_of_names refusal.NoSuchSnapshot = tt
end_is_of_names refusal.TooManySnapshots = tt
end_is_of_names (refusal.AskGone opening next) = tt
end_is_of_names refusal.ZoneChanged = tt
end_is_of_names refusal.AlreadySubmitted = tt
end_is_of_names refusal.NotSubmitted = tt
end_is_of_names refusal.TooManyInodes = tt
end_is_of_names refusal.NoMemory = tt
end_is_of_names refusal.StoreFault = tt
end_is_of_names refusal.NestedSnapshottable = tt
end_is_of_names refusal.RootOrInside = tt
end_is_of_names (refusal.KeyRefused refused) = key_of_names refused (refusal.KeyRefused refused)

-- it is no refusal of the key management service
abbrev pub IsNoKey : FsEnd → Type 0
IsNoKey why = (refused : KmsRefusal) → why ≡ end.KeyRefused refused → ⊥

-- ---- a look at the file

abbrev shown_err : FsEnd → Result ShownFile FsEnd
shown_err why = Err why

-- a call for a row changes nothing, and no fault of the disk comes into it
quiet : (early : Option NameRefusal) (s s' : NameService) (at : ReadPath) (fault : Type 0) (result : NameReply) (logged : List EditOp) → ServesUnless early s (call.Info at) fault result logged s' → ServesUnless early s (call.Info at) ⊥ result [] s
quiet None s s' at fault result logged serves = record { acts = serves.acts; none_logged = refl; same = refl }
quiet (Some why) s s' at fault result logged serves = record { reply_is = serves.reply_is; none_logged = refl; same = refl }

module _ (disk disk' : DiskState) (r r' : RunningNames) (user : List ℕ) (place : List (List ℕ)) where
  abbrev Looked : FsEnd → Type 0
  Looked why = (why ≡ end.Directory) ⊎ NoMemoryOr (CallRefused disk disk' r r' user (info_at place)) why

  no_key_looked : (why : FsEnd) → Looked why → IsNoKey why
  no_key_looked why (inl is) refused same = let bad : end.Directory ≡ end.KeyRefused refused = sym is ∙ same in cc
  no_key_looked why (inr (inl is)) refused same = let bad : end.NoMemory ≡ end.KeyRefused refused = sym is ∙ same in cc
  no_key_looked why (inr (inr c)) refused same = subst IsOfNames (sym c.2 ∙ same) (end_is_of_names c.0)

  pub looked_no_key : (result : Result ShownFile FsEnd) → IfErr result Looked → IfErr result IsNoKey
  looked_no_key (Ok file) cause = tt
  looked_no_key (Err why) cause = no_key_looked why cause

module _ (r : RunningNames) (user path : List ℕ) where
  abbrev Cause : FsEnd → Type 0
  Cause why = CauseOfRead r user path why

  names_cause : (why : FsEnd) → IsOfNames why → RowRefused r user path why → Cause why
  names_cause (end.Put count) of refused = absurd of
  names_cause (end.Read count) of refused = absurd of
  names_cause (end.NameRefused why) of refused = inr refused
  names_cause (end.KeyRefused why) of refused = absurd of
  names_cause end.Directory of refused = absurd of
  names_cause end.StoreFault of refused = tt
  names_cause end.NoMemory of refused = tt
  names_cause end.ReadFault of refused = absurd of
  names_cause end.WriteFault of refused = absurd of
  names_cause end.VaultFault of refused = absurd of
  names_cause end.TooLong of refused = absurd of

  pub looked_cause : (disk disk' : DiskState) (r' : RunningNames) (place : List (List ℕ)) (result : Result ShownFile FsEnd) → read_path path ≡ Some place
      → (IsErrOf result end.Directory → is_dir_at (row_at r.store.table.rows place) ≡ true) → IfErr result (Looked disk disk' r r' user place) → IfErr result Cause
  looked_cause disk disk' r' place (Ok file) is directory cause = tt
  looked_cause disk disk' r' place (Err why) is directory (inl same) =
      subst Cause (sym same) (record { place = place; is_place = is; at = directory (ap shown_err same) })
  looked_cause disk disk' r' place (Err why) is directory (inr (inl none)) = subst Cause (sym none) tt
  looked_cause disk disk' r' place (Err why) is directory (inr (inr c)) =
      names_cause why (subst IsOfNames (sym c.2) (end_is_of_names c.0))
      (record {
        place = place;
        is_place = is;
        refused = c.0;
        serves = quiet (first_cause (early_causes user (info_at place))) (service_of r) (service_of r') (record { path = place; snapshot = None }) (Rose disk.faults disk'.faults) (reply.Refused c.0) c.1.logged c.1.serves;
        why_is = c.2;
      })

  -- ---- the key is decrypted

  keys_cause : (why : KmsRefusal) → Cause (end_of_keys why)
  keys_cause key.BadRequest = tt
  keys_cause key.NoUser = tt
  keys_cause (key.Denied table op) = tt
  keys_cause key.NoSuchKey = tt
  keys_cause key.NoSuchVersion = tt
  keys_cause key.KeyExists = tt
  keys_cause key.WrongKey = tt
  keys_cause key.BadMaterial = tt
  keys_cause key.BadLength = tt
  keys_cause key.TooManyKeys = tt
  keys_cause key.TooManyVersions = tt
  keys_cause key.TooManyAsked = tt
  keys_cause key.NoMemory = tt
  keys_cause key.StoreFault = tt

  dek_by_cause : (given : KmsReply) → IfErr (dek_by given) Cause
  dek_by_cause (key_reply.Key dek) = tt
  dek_by_cause (key_reply.Refused why) = keys_cause why
  dek_by_cause (key_reply.Version version material) = tt
  dek_by_cause (key_reply.Metadata meta) = tt
  dek_by_cause (key_reply.Metadatas metas) = tt
  dek_by_cause (key_reply.Names names) = tt
  dek_by_cause (key_reply.Versions versions) = tt
  dek_by_cause (key_reply.Ready keys) = tt
  dek_by_cause (key_reply.Resealed sealed) = tt
  dek_by_cause key_reply.Done = tt

  dek_cause : (answer : Line) → IfErr (dek_in answer) Cause
  dek_cause (line.Kms given) = dek_by_cause given
  dek_cause (line.Name given) = tt
  dek_cause (line.Ticket number version wanted) = tt
  dek_cause line.NoTicket = tt
  dek_cause (line.Deposit deposit) = tt
  dek_cause (line.Opened opening) = tt
  dek_cause (line.Asked number note) = tt
  dek_cause (line.Replied number given) = tt
  dek_cause (line.Batch number files) = tt
  dek_cause (line.NoneLeft count) = tt
  dek_cause line.Completed = tt
  dek_cause (line.Delivered delivered) = tt
  dek_cause (line.Refused why) = tt
  dek_cause line.Unknown = tt

  module _ {X : Type 0} (leads : Leading X) (by : List ℕ) (a b : X) where
    decrypts_cause : (edek : Edek) (result : Result Dek FsEnd) → Decrypts leads by edek a result b → IfErr result Cause
    decrypts_cause edek result (inl (answer, led, is)) = subst (λ (x : Result Dek FsEnd). IfErr x Cause) (sym is) (dek_cause answer)
    decrypts_cause edek result (inr (none, same)) = subst (λ (x : Result Dek FsEnd). IfErr x Cause) (sym none) tt

    edek_cause : (id : ℕ) (edek : Option Edek) (result : Result OpenFile FsEnd) → OpensEdek leads by id edek a result b → IfErr result Cause
    edek_cause id None result (is, same) = subst (λ (x : Result OpenFile FsEnd). IfErr x Cause) (sym is) tt
    edek_cause id (Some edek) result (Ok dek, decrypts, is) = subst (λ (x : Result OpenFile FsEnd). IfErr x Cause) (sym is) tt
    edek_cause id (Some edek) result (Err why, decrypts, is) = subst (λ (x : Result OpenFile FsEnd). IfErr x Cause) (sym is) (decrypts_cause edek (Err why) decrypts)

    opened_cause : (found : Result ShownFile FsEnd) (result : Result OpenFile FsEnd) → IfErr found Cause → OpensShown leads by found a result b → IfErr result Cause
    opened_cause (Err why) result cause (is, same) = subst (λ (x : Result OpenFile FsEnd). IfErr x Cause) (sym is) cause
    opened_cause (Ok shown) result cause opens = edek_cause shown.id shown.edek result opens

    -- the file was not opened
    pub unopened_cause : (found : Result ShownFile FsEnd) (result : Result OpenFile FsEnd) (why : FsEnd) → result ≡ Err why → IfErr found Cause → OpensShown leads by found a result b → Cause why
    unopened_cause found result why is cause opens = subst (λ (x : Result OpenFile FsEnd). IfErr x Cause) is (opened_cause found result cause opens)

  -- ---- the range is written

  body_cause : (why : BodyFault) → Cause (end_of_body why)
  body_cause fault.ReadFault = tt
  body_cause fault.WriteFault = tt
  body_cause fault.VaultFault = tt
  body_cause fault.TooLong = tt
  body_cause fault.NoMemory = tt

  pub sent_cause : (file : OpenFile) (from count : ℕ) (how : FsEnd) (old new : VaultState) (written now : Option (List ℕ)) → Sends from count (Ok file) how old new written now → Cause how
  sent_cause file from count how old new written now (inl done, kept) = subst Cause (sym done.how_is) tt
  sent_cause file from count how old new written now (inr cut, kept) = subst Cause (sym cut.how_is) (body_cause cut.fault)
