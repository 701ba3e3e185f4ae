-- What a command over files and their bodies comes to.
use Rattle.body_stream.specs.declared.faults.BodyFault.{BodyFault}
use Rattle.body_stream.specs.declared.faults.BodyFault.TheVariants as fault
use Rattle.kms_calls.specs.declared.calls.KmsRefusal.{KmsRefusal}
use Rattle.kms_calls.specs.declared.calls.KmsRefusal.TheVariants as key
use Rattle.name_calls.specs.declared.calls.NameRefusal.{NameRefusal}
use Rattle.name_calls.specs.declared.calls.NameRefusal.TheVariants as refusal
use Rattle.file_orders.specs.declared.ends.FsEnd.{FsEnd}
use Rattle.file_orders.specs.declared.ends.FsEnd.TheVariants as end

-- a refusal for want of memory, or by a fault of the disk, is that end
abbrev pub end_of_keys : KmsRefusal → FsEnd
end_of_keys key.NoMemory = end.NoMemory
end_of_keys key.StoreFault = end.StoreFault
end_of_keys why = end.KeyRefused why

-- the same of a refusal of the namesystem, which may carry one of the key management service
abbrev pub end_of_refused : KmsRefusal → NameRefusal → FsEnd
end_of_refused key.NoMemory why = end.NoMemory
end_of_refused key.StoreFault why = end.StoreFault
end_of_refused _ why = end.NameRefused why

abbrev pub end_of_names : NameRefusal → FsEnd
end_of_names refusal.NoMemory = end.NoMemory
end_of_names refusal.StoreFault = end.StoreFault
end_of_names (refusal.KeyRefused refused) = end_of_refused refused (refusal.KeyRefused refused)
end_of_names why = end.NameRefused why

-- a fault of a transfer is that end
abbrev pub end_of_body : BodyFault → FsEnd
end_of_body fault.ReadFault = end.ReadFault
end_of_body fault.WriteFault = end.WriteFault
end_of_body fault.VaultFault = end.VaultFault
end_of_body fault.TooLong = end.TooLong
end_of_body fault.NoMemory = end.NoMemory

-- an event was refused: neither was a body put or a range read, nor was there a fault of the input, the output or the vault
abbrev pub IsFailure : FsEnd → Type 0
IsFailure (end.Put count) = ⊥
IsFailure (end.Read count) = ⊥
IsFailure end.ReadFault = ⊥
IsFailure end.WriteFault = ⊥
IsFailure end.VaultFault = ⊥
IsFailure end.TooLong = ⊥
IsFailure _ = Unit {0}
