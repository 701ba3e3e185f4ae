-- What changes of the namesystem do to its log.
use Rattle.std.specs.Prelude.{◌≡◌, ◌⊎◌, ℕ, List, ◌++◌, Option, None, Result}
use Rattle.hk_base.specs.Disk.{DiskState, Tells, RunOn, LeavesOnly}
use Rattle.edit_ops.specs.declared.ops.EditOp.{EditOp}
use Rattle.name_store.specs.Table.{Replayed}
use Rattle.name_store.specs.Store.{IsSoundLog}
use Rattle.hk_base.specs.declared.texts.Text.{Text}
use Rattle.name_calls.specs.declared.calls.Ask.{Ask}
use Rattle.name_calls.specs.declared.calls.AskNote.{AskNote}
use Rattle.name_calls.specs.declared.calls.NameRefusal.{NameRefusal}
use Rattle.name_core.specs.Asks.{Asks}
use Rattle.name_core.specs.State.{RunningNames, IsNamesystemOf, names_of}

-- the log on the disk is that of the namesystem
abbrev pub HoldsNamesystem : DiskState → RunningNames → Type 0
HoldsNamesystem disk r = Tells disk → (ops : List EditOp) × IsNamesystemOf disk r ops

-- no operation is pending
abbrev pub IsSettled : RunningNames → Type 0
IsSettled r = r.store.log.pending ≡ None

-- The file is a log that a start takes: of the earlier operations and a prefix of these, with one more operation that applies, or none.
pub record IsLeftBy (ops logged : List EditOp) (bytes : List ℕ) : Type 0 where
  pub front : List EditOp
  pub rest : List EditOp
  pub split : front ++ rest ≡ logged
  pub more : Option EditOp
  pub made : Replayed
  pub log : IsSoundLog bytes (ops ++ front) more made

-- Changes led from r to r'. The log holds their operations after the earlier ones, and a crash at any moment of them leaves a log of
-- some of these.
pub record OrdersNames (old new : DiskState) (r r' : RunningNames) : Type 0 where
  pub logged : List EditOp
  pub stands : Tells old → (ops : List EditOp) → IsNamesystemOf old r ops → IsNamesystemOf new r' (ops ++ logged)
  pub moments : Tells old → (ops : List EditOp) → IsNamesystemOf old r ops → LeavesOnly 1 old new (IsLeftBy ops logged)
  pub run : RunOn 1 old new

-- The store is the same, and at most this ask of the user was opened. The disk was not used.
abbrev pub OnlyAsks : Text → Ask → RunningNames → RunningNames → Type 0
OnlyAsks user a r r' = (r' ≡ r) ⊎ ((r'.store ≡ r.store) × (answer : Result AskNote NameRefusal) × Asks (names_of r) user a answer (names_of r'))
