-- Properties of an ask of the namesystem, its finish and any steps between them, and of the zones of files.
use Rattle.std.specs.Prelude.{◌≡◌, ⊤, false, true, List, Option, None, Some, Ok, Err}
use Rattle.hk_base.specs.declared.names.Edek.{Edek}
use Rattle.hk_base.specs.declared.texts.Text.{Text}
use Rattle.inode_tree.specs.Rows.{Entry, is_dir, zone_id}
use Rattle.edit_ops.specs.declared.ops.EditOp.{EditOp}
use Rattle.name_calls.specs.declared.calls.Ask.{Ask}
use Rattle.name_calls.specs.declared.calls.AskNote.{AskNote}
use Rattle.name_calls.specs.declared.calls.KeyAnswer.TheVariants as answer
use Rattle.name_calls.specs.declared.calls.NameRefusal.TheVariants as refusal
use Rattle.name_calls.specs.declared.calls.Want.{Want}
use Rattle.name_calls.specs.declared.calls.Want.TheVariants as want
use Rattle.name_store.specs.Table.{IsNameTable, NameTable, after_table, allows}
use Rattle.name_core.specs.State.{IsNames, NameService}
use Rattle.name_core.specs.Asks.{Asks, is_other_zone, ask_opened}
use Rattle.name_core.specs.Service.{FinishServes}
use Rattle.name_core.specs.Laws.{AnyFault, Reaches}
use Rattle.world_run.specs.Promise.{In}

-- The reply has what the ask wanted: an encrypted key of the named key if one had to be generated, and none if nothing was wanted. The
-- reply to an ask for a zone is not checked.
abbrev pub GivesWanted : Want → Option Edek → Type 0
GivesWanted want.Nothing None = ⊤
GivesWanted want.Nothing (Some e) = ⊥
GivesWanted (want.Generate key) None = ⊥
GivesWanted (want.Generate key) (Some e) = e.version.key ≡ key
GivesWanted (want.Metadata key) edek = ⊤

-- After an ask and any steps, a finish whose reply has what the ask wanted is refused with ZoneChanged only if the zone that its path
-- lies in is another one than when the ask was made.
abbrev pub RefusedForItsZone : Type 0
RefusedForItsZone =
    (s : NameService) (user : Text) (ask : Ask) (note : AskNote) (s' : NameService) (between : List NameService) (t : NameService)
    (edek : Option Edek) (logged : List EditOp) (t' : NameService)
    → IsNames s → Asks s.names user ask (Ok note) s'.names → s'.pending ≡ s.pending → Reaches s' between t
    → GivesWanted note.want edek → FinishServes t note.id (answer.Given edek) AnyFault (Err refusal.ZoneChanged) logged t'
    → is_other_zone t'.names.table.rows (ask_opened s.names ask) ≡ true

-- a file of these rows
abbrev pub HasFile : List Entry → Entry → Type 0
HasFile rows x = In x rows × (is_dir x.row.kind ≡ false)

-- each file of both lies in the same zone in both, or in none in both
abbrev pub KeepZones : List Entry → List Entry → Type 0
KeepZones olds news = (x y : Entry) → HasFile olds x → HasFile news y → x.row.id ≡ y.row.id → zone_id news y.path ≡ zone_id olds x.path

-- An operation of the edit log changes the zone of no file that stays.
abbrev pub FilesKeepZones : Type 0
FilesKeepZones = (t : NameTable) (op : EditOp) → IsNameTable t → allows t op ≡ true → KeepZones t.rows (after_table t op).rows
