-- The events by which a user reads the entries at and below a place, and the metadata of a key.
use Rattle.std.specs.Prelude.{◌≡◌, ◌⊎◌, ℕ, List, Result, Ok, Err}
use Rattle.hk_base.specs.declared.names.KeyName.{KeyName}
use Rattle.hk_events.specs.declared.event.Event.TheVariants as event
use Rattle.hk_events.specs.declared.event.Line.{Line}
use Rattle.hk_events.specs.declared.event.Line.TheVariants as line
use Rattle.inode_tree.specs.declared.rows.Kind.TheVariants.{Dir, File}
use Rattle.inode_tree.specs.declared.rows.Row.{Row}
use Rattle.kms_calls.specs.declared.calls.KmsCall.TheVariants as call
use Rattle.kms_calls.specs.declared.calls.KmsReply.{KmsReply}
use Rattle.name_calls.specs.declared.calls.NameReply.{NameReply}
use Rattle.name_calls.specs.declared.calls.NameReply.TheVariants as reply
use Rattle.name_calls.specs.declared.listing.Child.{Child}
use Rattle.name_calls.specs.declared.read_paths.ReadPath.{ReadPath}
use Rattle.file_orders.specs.Ends.{end_of_names}
use Rattle.file_orders.specs.Events.{Leading}
use Rattle.file_orders.specs.declared.ends.FsEnd.{FsEnd}
use Rattle.file_orders.specs.declared.ends.FsEnd.TheVariants as end
use Rattle.place_texts.specs.Places.{read_path_text}

-- the row that a reply shows. An info gets no other reply than these.
abbrev pub row_by : NameReply → Result Row FsEnd
row_by (reply.Dir id _ key) = Ok (record { id = id; kind = Dir key })
row_by (reply.File id _ edek) = Ok (record { id = id; kind = File edek })
row_by (reply.Refused why) = Err (end_of_names why)
row_by _ = Err end.NoMemory

abbrev pub row_in : Line → Result Row FsEnd
row_in (line.Name given) = row_by given
row_in _ = Err end.NoMemory

-- the entries that a reply lists. A list gets no other reply than these.
abbrev pub children_by : NameReply → Result (List Child) FsEnd
children_by (reply.List children) = Ok children
children_by (reply.Refused why) = Err (end_of_names why)
children_by _ = Err end.NoMemory

abbrev pub children_in : Line → Result (List Child) FsEnd
children_in (line.Name given) = children_by given
children_in _ = Err end.NoMemory

-- the reply of the key management service. A call of it gets no other answer.
abbrev pub reply_in : Line → Result KmsReply FsEnd
reply_in (line.Kms given) = Ok given
reply_in _ = Err end.NoMemory

-- A user asks what is at a place. If there is no memory for the event, nothing happens.
abbrev pub Looks : {X : Type 0} → Leading X → List ℕ → ReadPath → X → Result Row FsEnd → X → Type 0
Looks leads user place a result b =
    ((answer : Line) × leads a (event.Info user (read_path_text place)) answer b × (result ≡ row_in answer)) ⊎ ((result ≡ Err end.NoMemory) × (b ≡ a))

-- a user lists the directory at a place
abbrev pub ListsDirectory : {X : Type 0} → Leading X → List ℕ → ReadPath → X → Result (List Child) FsEnd → X → Type 0
ListsDirectory leads user place a result b =
    ((answer : Line) × leads a (event.List user (read_path_text place)) answer b × (result ≡ children_in answer)) ⊎ ((result ≡ Err end.NoMemory) × (b ≡ a))

-- a user asks for the metadata of a key
abbrev pub AsksKey : {X : Type 0} → Leading X → List ℕ → KeyName → X → Result KmsReply FsEnd → X → Type 0
AsksKey leads user key a result b =
    ((answer : Line) × leads a (event.Kms user (call.Metadata key)) answer b × (result ≡ reply_in answer)) ⊎ ((result ≡ Err end.NoMemory) × (b ≡ a))
