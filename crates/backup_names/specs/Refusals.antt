-- By whom an order was refused.
use Rattle.std.specs.Prelude.{◌≡◌, ◌⊎◌, ℕ, None, Err}
use Rattle.hk_base.specs.Disk.{DiskState}
use Rattle.hk_base.specs.declared.texts.Text.{Text}
use Rattle.name_calls.specs.declared.calls.Ask.{Ask}
use Rattle.name_calls.specs.declared.calls.KeyAnswer.{KeyAnswer}
use Rattle.name_calls.specs.declared.calls.NameCall.{NameCall}
use Rattle.name_calls.specs.declared.calls.NameCall.TheVariants as call
use Rattle.name_calls.specs.declared.calls.NameRefusal.{NameRefusal}
use Rattle.name_calls.specs.declared.calls.NameReply.TheVariants as reply
use Rattle.name_calls.specs.declared.paths.NPath.{NPath}
use Rattle.file_orders.specs.Ends.{end_of_names}
use Rattle.file_orders.specs.declared.ends.FsEnd.{FsEnd}
use Rattle.file_orders.specs.declared.ends.FsEnd.TheVariants as end
use Rattle.name_core.specs.Asks.{Asks}
use Rattle.name_core.specs.Service.{FinishActs, NameActsOnDisk}
use Rattle.name_core.specs.State.{RunningNames, names_of}

-- the namesystem refused a call of a user, and this is the end by its refusal
abbrev pub CallRefused : (disk disk' : DiskState) (r r' : RunningNames) → Text → NameCall → FsEnd → Type 0
CallRefused disk disk' r r' user c why = (w : NameRefusal) × NameActsOnDisk disk disk' r user c (reply.Refused w) r' × (why ≡ end_of_names w)

-- it refused an ask of a user
abbrev pub AskRefused : (r r' : RunningNames) → Text → Ask → FsEnd → Type 0
AskRefused r r' user a why = (w : NameRefusal) × Asks (names_of r) user a (Err w) (names_of r') × (why ≡ end_of_names w)

-- it refused to finish an ask with this answer of the key management service
abbrev pub FinishRefused : (disk disk' : DiskState) (r r' : RunningNames) → ℕ → KeyAnswer → FsEnd → Type 0
FinishRefused disk disk' r r' id given why = (w : NameRefusal) × FinishActs disk disk' r id given (Err w) r' × (why ≡ end_of_names w)

-- the call for the row at a path, as it is
abbrev pub info_at : NPath → NameCall
info_at path = call.Info (record { path = path; snapshot = None })

-- allocation failed, or there was this refusal
abbrev pub NoMemoryOr : (FsEnd → Type 0) → FsEnd → Type 0
NoMemoryOr refused why = (why ≡ end.NoMemory) ⊎ refused why
