-- By whom an order was refused that failed.
use Rattle.std.proofs.Common.{◌≡◌, ◌⊎◌, inl, inr, ℕ, refl, subst, sym}
use Rattle.std.specs.Prelude.{IfErr, Result, Ok, Err}
use Rattle.hk_base.specs.Disk.{DiskState}
use Rattle.hk_base.specs.declared.texts.Text.{Text}
use Rattle.name_calls.specs.declared.calls.Ask.{Ask}
use Rattle.name_calls.specs.declared.calls.KeyAnswer.{KeyAnswer}
use Rattle.name_calls.specs.declared.calls.NameCall.{NameCall}
use Rattle.name_calls.specs.declared.calls.NameRefusal.{NameRefusal}
use Rattle.name_calls.specs.declared.calls.NameReply.{NameReply}
use Rattle.name_calls.specs.declared.calls.NameReply.TheVariants as reply
use Rattle.inode_tree.specs.declared.rows.Row.{Row}
use Rattle.file_orders.specs.Ends.{end_of_names}
use Rattle.file_orders.specs.declared.ends.FsEnd.{FsEnd}
use Rattle.file_orders.specs.declared.ends.FsEnd.TheVariants as end
use Rattle.file_orders.specs.declared.open.ShownFile.{ShownFile}
use Rattle.name_core.specs.Asks.{Asks}
use Rattle.name_core.specs.Service.{FinishActs, NameActsOnDisk}
use Rattle.name_core.specs.State.{RunningNames, names_of}
use Rattle.backup_names.specs.Ends.{change_end, finish_end, row_end}
use Rattle.backup_names.specs.Refusals.{AskRefused, CallRefused, FinishRefused, NoMemoryOr}

module _ (disk disk' : DiskState) (r r' : RunningNames) where
  module _ (user : Text) (c c' : NameCall) (is : c ≡ c') where
    refused : (w : NameRefusal) → NameActsOnDisk disk disk' r user c (reply.Refused w) r' → NoMemoryOr (CallRefused disk disk' r r' user c') (end_of_names w)
    refused w acts = inr (w, subst (λ (x : NameCall). NameActsOnDisk disk disk' r user x (reply.Refused w) r') is acts, refl)

    row_cause : (given : NameReply) → NameActsOnDisk disk disk' r user c given r' → IfErr (row_end given) (NoMemoryOr (CallRefused disk disk' r r' user c'))
    row_cause reply.Done acts = inl refl
    row_cause (reply.Dir id area key) acts = tt
    row_cause (reply.File id area edek) acts = tt
    row_cause (reply.List children) acts = inl refl
    row_cause (reply.Status status) acts = inl refl
    row_cause (reply.Zones zones) acts = inl refl
    row_cause (reply.Refused w) acts = refused w acts

    change_cause : (given : NameReply) → NameActsOnDisk disk disk' r user c given r' → IfErr (change_end given) (NoMemoryOr (CallRefused disk disk' r r' user c'))
    change_cause reply.Done acts = tt
    change_cause (reply.Dir id area key) acts = inl refl
    change_cause (reply.File id area edek) acts = inl refl
    change_cause (reply.List children) acts = inl refl
    change_cause (reply.Status status) acts = inl refl
    change_cause (reply.Zones zones) acts = inl refl
    change_cause (reply.Refused w) acts = refused w acts

    pub row_caused : (given : NameReply) (result : Result Row FsEnd) → result ≡ row_end given → NameActsOnDisk disk disk' r user c given r' → IfErr result (NoMemoryOr (CallRefused disk disk' r r' user c'))
    row_caused given result e acts = subst (λ (x : Result Row FsEnd). IfErr x (NoMemoryOr (CallRefused disk disk' r r' user c'))) (sym e) (row_cause given acts)

    pub change_caused : (given : NameReply) (result : Result (Unit {0}) FsEnd) → result ≡ change_end given → NameActsOnDisk disk disk' r user c given r' → IfErr result (NoMemoryOr (CallRefused disk disk' r r' user c'))
    change_caused given result e acts = subst (λ (x : Result (Unit {0}) FsEnd). IfErr x (NoMemoryOr (CallRefused disk disk' r r' user c'))) (sym e) (change_cause given acts)

  finish_cause : (id : ℕ) (given : KeyAnswer) (finished : Result (Unit {0}) NameRefusal) → FinishActs disk disk' r id given finished r' → IfErr (finish_end finished) (FinishRefused disk disk' r r' id given)
  finish_cause id given (Ok done) acts = tt
  finish_cause id given (Err w) acts = (w, acts, refl)

  pub finish_caused : (id : ℕ) (given : KeyAnswer) (finished : Result (Unit {0}) NameRefusal) (result : Result (Unit {0}) FsEnd) → result ≡ finish_end finished → FinishActs disk disk' r id given finished r' → IfErr result (FinishRefused disk disk' r r' id given)
  finish_caused id given finished result e acts = subst (λ (x : Result (Unit {0}) FsEnd). IfErr x (FinishRefused disk disk' r r' id given)) (sym e) (finish_cause id given finished acts)

-- an error of a look at a file is one of a look at its row, or it is a directory

pub row_looked : (P : FsEnd → Type 0) (result : Result Row FsEnd) (why : FsEnd) → result ≡ Err why → IfErr result P → (why ≡ end.Directory) ⊎ P why
row_looked P result why is cause = inr (subst (λ (x : Result Row FsEnd). IfErr x P) is cause)

pub file_looked : (P Q : FsEnd → Type 0) (result : Result ShownFile FsEnd) → IfErr result (λ why. (why ≡ end.Directory) × Q why) → IfErr result (λ why. (why ≡ end.Directory) ⊎ P why)
file_looked P Q (Ok file) directory = tt
file_looked P Q (Err why) directory = inl directory.0

pub ask_caused : (r r' : RunningNames) (user : Text) (a a' : Ask) (w : NameRefusal) (why : FsEnd) → a ≡ a' → why ≡ end_of_names w → Asks (names_of r) user a (Err w) (names_of r') → NoMemoryOr (AskRefused r r' user a') why
ask_caused r r' user a a' w why is e asks = inr (w, subst (λ (x : Ask). Asks (names_of r) user x (Err w) (names_of r')) is asks, e)
