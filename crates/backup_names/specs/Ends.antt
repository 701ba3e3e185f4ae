-- How an order ends by the reply to it.
use Rattle.std.specs.Prelude.{◌≡◌, ℕ, ⊤, true, is_some, Result, Ok, Err}
use Rattle.kms_calls.specs.declared.calls.KmsReply.{KmsReply}
use Rattle.kms_calls.specs.declared.calls.KmsReply.TheVariants as key_reply
use Rattle.kms_calls.specs.declared.calls.KmsRefusal.TheVariants as key_refusal
use Rattle.inode_tree.specs.declared.rows.Row.{Row}
use Rattle.inode_tree.specs.declared.rows.Kind.TheVariants.{Dir, File}
use Rattle.name_calls.specs.declared.calls.NameReply.{NameReply}
use Rattle.name_calls.specs.declared.calls.NameReply.TheVariants as reply
use Rattle.name_calls.specs.declared.calls.NameRefusal.{NameRefusal}
use Rattle.name_calls.specs.declared.calls.NameRefusal.TheVariants as refusal
use Rattle.file_orders.specs.Ends.{end_of_names}
use Rattle.file_orders.specs.declared.ends.FsEnd.{FsEnd}
use Rattle.file_orders.specs.declared.open.ShownFile.{ShownFile}
use Rattle.file_orders.specs.declared.ends.FsEnd.TheVariants as end
use Rattle.name_core.specs.Asks.{open_ask}
use Rattle.name_core.specs.State.{RunningNames}

-- by the reply to a change
abbrev pub change_end : NameReply → Result (Unit {0}) FsEnd
change_end reply.Done = Ok tt
change_end (reply.Refused why) = Err (end_of_names why)
change_end _ = Err end.NoMemory

-- by the result of a finish
abbrev pub finish_end : Result (Unit {0}) NameRefusal → Result (Unit {0}) FsEnd
finish_end (Ok done) = Ok tt
finish_end (Err why) = Err (end_of_names why)

-- by the reply to an info: the row that it shows
abbrev pub row_end : NameReply → Result Row FsEnd
row_end (reply.Dir id home key) = Ok (record { id = id; kind = Dir key })
row_end (reply.File id home edek) = Ok (record { id = id; kind = File edek })
row_end (reply.Refused why) = Err (end_of_names why)
row_end _ = Err end.NoMemory

-- the row of a file that is shown
abbrev pub row_shown : ShownFile → Row
row_shown shown = record { id = shown.id; kind = File shown.edek }

-- if the key management service refused the call of an open ask, the end shows its refusal
abbrev pub ShowsRefusal : KmsReply → ℕ → RunningNames → Result (Unit {0}) FsEnd → Type 0
ShowsRefusal (key_reply.Refused why) id r result = is_some (open_ask r.asks id) ≡ true → result ≡ Err (end_of_names (refusal.KeyRefused why))
ShowsRefusal _ id r result = ⊤

-- the key management service refused the call because its disk failed
abbrev pub IsFaultOfKeys : KmsReply → Type 0
IsFaultOfKeys given = given ≡ key_reply.Refused key_refusal.StoreFault
