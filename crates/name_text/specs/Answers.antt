-- The answers of the namesystem as text.
use Rattle.std.specs.Prelude.{ℕ, Bool, true, false, List, [], ◌++◌, drop, codes, Option, None, Some}
use Rattle.std.specs.Fmt.{decimal}
use Rattle.std.specs.List.{flat_map}
use Rattle.hex.specs.Hex.{encode_lower}
use Rattle.percent_encoding.specs.Percent.{percent_encode}
use Rattle.hk_base.specs.declared.names.Edek.{Edek}
use Rattle.hk_base.specs.declared.names.KeyName.{KeyName}
use Rattle.hk_base.specs.Names.{version_text}
use Rattle.name_calls.specs.declared.listing.Child.{Child}
use Rattle.name_calls.specs.declared.paths.NPath.{NPath}
use Rattle.name_calls.specs.declared.zone_list.ZonePath.{ZonePath}
use Rattle.name_calls.specs.Paths.{path_text}
use Rattle.name_calls.specs.declared.calls.NameReply.{NameReply}
use Rattle.name_calls.specs.declared.calls.NameReply.TheVariants as reply
use Rattle.name_calls.specs.declared.status.State.{State}
use Rattle.name_calls.specs.declared.status.State.TheVariants as state
use Rattle.name_calls.specs.declared.status.ZoneStatus.{ZoneStatus}
use Rattle.name_text.specs.declared.pieces.TheConstants.{ESCAPED}
use Rattle.name_text.specs.Refusals.{name_refusal_text}

-- a path, with the bytes escaped that need it
abbrev pub escaped_path : NPath → List ℕ
escaped_path path = percent_encode ESCAPED (path_text path)

abbrev pub zone_text : Option NPath → List ℕ
zone_text None = codes "-"
zone_text (Some path) = escaped_path path

abbrev pub key_text : Option KeyName → List ℕ
key_text None = codes "-"
key_text (Some key) = key

-- an encrypted data encryption key: its version, its initialization vector and the sealed bytes
abbrev pub edek_part : Edek → List ℕ
edek_part edek = version_text edek.version.key edek.version.number ++ codes ":" ++ encode_lower edek.iv ++ codes ":" ++ encode_lower edek.sealed

-- an encrypted data encryption key in one field
abbrev pub edek_field : Option Edek → List ℕ
edek_field None = codes "-"
edek_field (Some edek) = edek_part edek

-- the entry at a path, up to its key: its kind, its id and its zone
abbrev pub row_front : List ℕ → ℕ → Option NPath → List ℕ
row_front kind id zone = kind ++ decimal id ++ codes " " ++ zone_text zone ++ codes " "

-- a child in a list; a directory has a slash after its name
abbrev pub slash_of : Bool → List ℕ
slash_of false = []
slash_of true = codes "/"

abbrev pub child_part : Child → List ℕ
child_part child = codes " " ++ percent_encode ESCAPED child.name ++ slash_of child.directory

-- a zone in a list: its path and its key
abbrev pub zone_part : ZonePath → List ℕ
zone_part zone = codes " " ++ escaped_path zone.path ++ codes ":" ++ zone.key

abbrev pub state_text : State → List ℕ
state_text state.Submitted = codes "Submitted"
state_text state.Processing = codes "Processing"
state_text state.Completed = codes "Completed"

abbrev pub yes_or_no : Bool → List ℕ
yes_or_no false = codes "no"
yes_or_no true = codes "yes"

-- a path in a zone, without a slash before its first name
abbrev pub escaped_relative_path : NPath → List ℕ
escaped_relative_path path = percent_encode ESCAPED (drop 1 (path_text path))

abbrev pub mark_text : Option NPath → List ℕ
mark_text None = codes "-"
mark_text (Some path) = escaped_relative_path path

-- how many files of a zone got another key, and how many failed
abbrev pub counts_text : ZoneStatus → List ℕ
counts_text status = decimal status.reencrypted ++ codes " " ++ decimal status.failed

abbrev pub status_text : Option ZoneStatus → List ℕ
status_text None = codes "status None"
status_text (Some status) =
    codes "status " ++ state_text status.state ++ codes " " ++ version_text status.noted.key status.noted.number ++ codes " "
    ++ counts_text status ++ codes " " ++ yes_or_no status.cancelled ++ codes " " ++ mark_text status.mark

abbrev pub answer_text : NameReply → List ℕ
answer_text reply.Done = codes "done"
answer_text (reply.Dir id zone key) = row_front (codes "dir ") id zone ++ key_text key
answer_text (reply.File id zone edek) = row_front (codes "file ") id zone ++ edek_field edek
answer_text (reply.List children) = codes "list" ++ flat_map child_part children
answer_text (reply.Status status) = status_text status
answer_text (reply.Zones zones) = codes "zones" ++ flat_map zone_part zones
answer_text (reply.Refused why) = codes "refused " ++ name_refusal_text why
