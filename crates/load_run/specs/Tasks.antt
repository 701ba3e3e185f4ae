-- The events of a task.
use Rattle.std.specs.Prelude.{ℕ, false, List, [], ◌++◌, codes, Option, None, Some}
use Rattle.std.specs.Fmt.{decimal}
use Rattle.kms_calls.specs.declared.calls.KmsCall.{KmsCall}
use Rattle.kms_calls.specs.declared.calls.KmsCall.TheVariants as key_call
use Rattle.hk_events.specs.declared.event.Event.{Event}
use Rattle.hk_events.specs.declared.event.Event.TheVariants as event
use Rattle.hk_events.specs.declared.event.Line.{Line}
use Rattle.hk_events.specs.declared.event.Line.TheVariants as line
use Rattle.name_core.specs.Calls.{superuser}
use Rattle.world_run.specs.Drives.{next_event as next_in_drive}
use Rattle.load_run.specs.declared.task.Task.{Task}
use Rattle.load_run.specs.declared.task.Task.TheVariants as task

-- ---- the first event of a task, which the user `hdfs` makes

abbrev pub key_name : ℕ → List ℕ
key_name zone = codes "key" ++ decimal zone

abbrev pub zone_path : ℕ → List ℕ
zone_path zone = codes "/z" ++ decimal zone

abbrev pub file_path : ℕ → ℕ → List ℕ
file_path zone file = zone_path zone ++ codes "/f" ++ decimal file

abbrev pub snapshot_name : ℕ → List ℕ
snapshot_name snapshot = codes "s" ++ decimal snapshot

-- a call of the key management service
abbrev pub key_event : KmsCall → Event
key_event made = event.Kms superuser made

abbrev pub first_event : Task → Event
first_event (task.MakeKey zone) = key_event (key_call.Create (key_name zone) 128 None [])
first_event (task.MakeDirectory zone) = event.Mkdir superuser (zone_path zone)
first_event (task.Allow zone) = event.Allow superuser (zone_path zone)
first_event (task.MakeZone zone) = event.AskZone superuser (zone_path zone) (key_name zone)
first_event (task.MakeFile zone file) = event.AskCreate superuser (file_path zone file)
first_event (task.Delete zone file) = event.Delete superuser (file_path zone file) false
first_event (task.Roll zone) = key_event (key_call.Roll (key_name zone) None)
first_event (task.Snap zone snapshot) = event.Snap superuser (zone_path zone) (snapshot_name snapshot)
first_event (task.Generate zone count) = key_event (key_call.Generate (key_name zone) count)
first_event (task.Submit zone) = event.AskSubmit superuser (zone_path zone)
first_event (task.Drive zone) = event.Walk (zone_path zone)
first_event (task.Status zone) = event.Status superuser (zone_path zone)

-- ---- the events after it

-- the call that an accepted ask wants is made, and the ask is finished by its reply
abbrev pub next_in_ask : Line → Option Event
next_in_ask (line.Asked number note) = Some (event.Draw number)
next_in_ask (line.Replied number given) = Some (event.Finish number)
next_in_ask _ = None

-- the event that follows an answer in a task, if one does
abbrev pub next_event : Task → Line → Option Event
next_event (task.MakeZone zone) answer = next_in_ask answer
next_event (task.MakeFile zone file) answer = next_in_ask answer
next_event (task.Submit zone) answer = next_in_ask answer
next_event (task.Drive zone) answer = next_in_drive (zone_path zone) answer
next_event _ answer = None
