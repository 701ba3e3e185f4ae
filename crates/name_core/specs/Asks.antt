-- Asks: why each is refused when it is made and when it is finished, and the state it leaves.
use Rattle.std.specs.Prelude.{◌≡◌, ℕ, ◌+◌, Bool, not, List, [], ◌∷◌, ◌++◌, Option, Some, None, if◌then◌else◌, Result, Ok, Err, ◌==◌}
use Rattle.hk_base.specs.declared.names.Edek.{Edek}
use Rattle.hk_base.specs.declared.names.KeyName.{KeyName}
use Rattle.hk_base.specs.Names.{Version}
use Rattle.hk_base.specs.declared.texts.Text.{Text}
use Rattle.name_calls.specs.declared.paths.NPath.{NPath}
use Rattle.inode_tree.specs.Rows.{Entry, same_id, zone_id}
use Rattle.edit_ops.specs.declared.ops.EditOp.{EditOp}
use Rattle.edit_ops.specs.declared.ops.EditOp.TheVariants as op
use Rattle.zone_table.specs.declared.statuses.StatusRow.{StatusRow}
use Rattle.zone_table.specs.Statuses.{zone_goes_on}
use Rattle.name_store.specs.Causes.{first_cause, id_at, make_causes, row_causes, submit_causes, zone_causes, zone_root_causes}
use Rattle.name_store.specs.Table.{fits_zone, key_of_zone}
use Rattle.name_calls.specs.declared.calls.Ask.{Ask}
use Rattle.name_calls.specs.declared.calls.Ask.TheVariants as ask
use Rattle.name_calls.specs.declared.calls.AskNote.{AskNote}
use Rattle.name_calls.specs.declared.calls.NameRefusal.{NameRefusal}
use Rattle.name_calls.specs.declared.calls.NameRefusal.TheVariants as refusal
use Rattle.name_calls.specs.declared.calls.Want.{Want}
use Rattle.name_calls.specs.declared.calls.Want.TheVariants as want
use Rattle.name_core.specs.declared.asks.OpenAsk.{OpenAsk}
use Rattle.name_core.specs.State.{NameState, next_id, is_spent, took}
use Rattle.name_core.specs.Calls.{Ending, Plain, NoRoom, is_superuser, mkdir_causes, path_causes}

-- the asks that are open

abbrev pub open_ask : List OpenAsk → ℕ → Option OpenAsk
open_ask [] id = None
open_ask (a ∷ asks) id = if a.id == id then Some a else open_ask asks id

abbrev pub without : List OpenAsk → ℕ → List OpenAsk
without [] id = []
without (a ∷ asks) id = if a.id == id then asks else a ∷ without asks id

-- making an ask

abbrev pub ask_causes : NameState → Text → Ask → List (Bool × NameRefusal)
ask_causes s user (ask.Create p) = path_causes p ++ mkdir_causes s p
ask_causes s user (ask.Zone p key) =
    path_causes p ++ (not (is_superuser user), refusal.NotSuperuser) ∷ zone_causes s.table.rows p ++ (is_spent s, refusal.TooManyInodes) ∷ []
ask_causes s user (ask.Submit p) =
    path_causes p ++ (not (is_superuser user), refusal.NotSuperuser) ∷ submit_causes s.table.rows s.table.statuses p ++ (is_spent s, refusal.TooManyInodes) ∷ []

abbrev pub path_asked : Ask → NPath
path_asked (ask.Create p) = p
path_asked (ask.Zone p key) = p
path_asked (ask.Submit p) = p

abbrev pub wanted_under : Option KeyName → Want
wanted_under None = want.Nothing
wanted_under (Some key) = want.Generate key

-- a file in a zone, and a re-encryption, want an encrypted key of the zone's key; a zone wants the metadata of its key
abbrev pub wanted : List Entry → Ask → Want
wanted rows (ask.Create p) = wanted_under (key_of_zone rows p)
wanted rows (ask.Zone p key) = want.Metadata key
wanted rows (ask.Submit p) = wanted_under (key_of_zone rows p)

-- an ask that is accepted takes the next id, and keeps the zone that its path lies in
abbrev pub ask_opened : NameState → Ask → OpenAsk
ask_opened s a = record { id = next_id s; ask = a; zone = zone_id s.table.rows (path_asked a); want = wanted s.table.rows a }

abbrev pub asked : NameState → Ask → NameState
asked s a = record s { next = s.next + 1; asks = s.asks ++ ask_opened s a ∷ [] }

abbrev pub note_of : OpenAsk → AskNote
note_of a = record { id = a.id; want = a.want }

-- the result of an ask: its note or its refusal, and the state after it
pub record AskOutcome : Type 0 where
  pub reply : Result AskNote NameRefusal
  pub state : NameState

abbrev pub ask_refused : NameRefusal → NameState → AskOutcome
ask_refused why s = record { reply = Err why; state = s }

abbrev pub unless_not_asked : Option NameRefusal → NameState → Ask → AskOutcome
unless_not_asked (Some why) s a = ask_refused why s
unless_not_asked None s a = record { reply = Ok (note_of (ask_opened s a)); state = asked s a }

abbrev pub ask_outcome : NameState → Text → Ask → Ending → AskOutcome
ask_outcome s user a Plain = unless_not_asked (first_cause (ask_causes s user a)) s a
ask_outcome s user a NoRoom = ask_refused refusal.NoMemory s

-- memory may run out only if no other refusal applies
abbrev pub AskMayEnd : NameState → Text → Ask → Ending → Type 0
AskMayEnd s user a Plain = Unit {0}
AskMayEnd s user a NoRoom = first_cause (ask_causes s user a) ≡ None

-- From s, an ask of the user may get this answer and leave s'.
abbrev pub Asks : NameState → Text → Ask → Result AskNote NameRefusal → NameState → Type 0
Asks s user a outcome s' = (e : Ending) × AskMayEnd s user a e × (record { reply = outcome; state = s' } ≡ ask_outcome s user a e)

-- finishing an ask

-- the zone that the path lies in is another one than when the ask was made
abbrev pub is_other_zone : List Entry → OpenAsk → Bool
is_other_zone rows a = not (same_id (zone_id rows (path_asked a.ask)) a.zone)

-- the given encrypted key is not of the zone's key, or is missing, or is given without a zone
abbrev pub is_other_key : List Entry → NPath → Option Edek → Bool
is_other_key rows p edek = not (fits_zone (key_of_zone rows p) edek)

-- All is checked again, except the user and the next id. A key that doesn't fit the zone of a file or of a re-encryption is refused with
-- ZoneChanged.
abbrev pub finish_causes : List Entry → List StatusRow → OpenAsk → Option Edek → Ask → List (Bool × NameRefusal)
finish_causes rows statuses a edek (ask.Create p) =
    path_causes p ++ make_causes rows p
    ++ (is_other_zone rows a, refusal.ZoneChanged) ∷ (is_other_key rows p edek, refusal.ZoneChanged) ∷ row_causes rows
finish_causes rows statuses a edek (ask.Zone p key) = path_causes p ++ zone_causes rows p ++ (is_other_zone rows a, refusal.ZoneChanged) ∷ []
finish_causes rows statuses a edek (ask.Submit p) =
    path_causes p ++ zone_root_causes rows p
    ++ (is_other_zone rows a, refusal.ZoneChanged) ∷ (is_other_key rows p edek, refusal.ZoneChanged) ∷ (zone_goes_on statuses (id_at rows p), refusal.AlreadySubmitted) ∷ []

-- the version of the encrypted key that was given; a re-encryption always has one
abbrev pub noted_of : Option Edek → Version
noted_of None = record { key = []; number = 0 }
noted_of (Some e) = e.version

-- a create adds its file, with the ask's id and the encrypted key that was given, a zone marks its directory, and a re-encryption begins
-- under the ask's id
abbrev pub finish_op : ℕ → Option Edek → Ask → EditOp
finish_op id edek (ask.Create p) = op.File id p edek
finish_op id edek (ask.Zone p key) = op.Zone p key
finish_op id edek (ask.Submit p) = op.Submit id p (noted_of edek)

-- the result of a finish: its refusal, if it was refused, and the state after it
pub record FinishOutcome : Type 0 where
  pub reply : Result (Unit {0}) NameRefusal
  pub state : NameState

abbrev pub finish_refused : NameRefusal → NameState → FinishOutcome
finish_refused why s = record { reply = Err why; state = s }

-- the ask is no longer open
abbrev pub closed : NameState → ℕ → NameState
closed s id = record s { asks = without s.asks id }

abbrev pub finished : NameState → OpenAsk → Option Edek → NameState
finished s a edek = took (closed s a.id) (finish_op a.id edek a.ask)

abbrev pub unless_stopped : Option NameRefusal → NameState → OpenAsk → Option Edek → FinishOutcome
unless_stopped (Some why) s a edek = finish_refused why (closed s a.id)
unless_stopped None s a edek = record { reply = Ok tt; state = finished s a edek }

-- A finish closes its ask, whatever it answers, unless memory runs out, which it may only if nothing else stops the finish.
abbrev pub finish_outcome : NameState → OpenAsk → Option Edek → Ending → FinishOutcome
finish_outcome s a edek Plain = unless_stopped (first_cause (finish_causes s.table.rows s.table.statuses a edek a.ask)) s a edek
finish_outcome s a edek NoRoom = finish_refused refusal.NoMemory s

abbrev pub FinishMayEnd : NameState → OpenAsk → Option Edek → Ending → Type 0
FinishMayEnd s a edek Plain = Unit {0}
FinishMayEnd s a edek NoRoom = first_cause (finish_causes s.table.rows s.table.statuses a edek a.ask) ≡ None

-- From s, while nothing is pending, a finish of an open ask with this encrypted key may get this answer and leave s'.
abbrev pub Finishes : NameState → OpenAsk → Option Edek → Result (Unit {0}) NameRefusal → NameState → Type 0
Finishes s a edek outcome s' = (e : Ending) × FinishMayEnd s a edek e × (record { reply = outcome; state = s' } ≡ finish_outcome s a edek e)

abbrev pub ask_gone : NameState → NameRefusal
ask_gone s = refusal.AskGone s.table.opening s.next
