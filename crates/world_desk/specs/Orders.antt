-- The events of an order.
use Rattle.std.specs.Prelude.{◌≡◌, ℕ, ◌^◌, nat_lt, ⊤, List, [], ◌∷◌, ◌++◌, Option, None, Some, if◌then◌else◌}
use Rattle.hk_base.specs.declared.texts.Text.{Text}
use Rattle.hk_events.specs.declared.event.Event.{Event}
use Rattle.hk_events.specs.declared.event.Event.TheVariants as event
use Rattle.hk_events.specs.declared.event.Line.{Line}
use Rattle.hk_events.specs.declared.event.Line.TheVariants as line
use Rattle.hk_serve.specs.Transactions.{OfKeys, OfLook, OfNames, Transaction}
use Rattle.name_calls.specs.declared.calls.Ask.{Ask}
use Rattle.name_calls.specs.declared.calls.Ask.TheVariants as ask
use Rattle.name_calls.specs.declared.calls.NameCall.{NameCall}
use Rattle.name_calls.specs.declared.calls.NameCall.TheVariants as call
use Rattle.name_calls.specs.declared.calls.NameRefusal.TheVariants as refusal
use Rattle.name_calls.specs.declared.calls.NameReply.{NameReply}
use Rattle.name_calls.specs.declared.calls.NameReply.TheVariants as reply
use Rattle.name_calls.specs.declared.paths.NPath.{NPath}
use Rattle.name_calls.specs.declared.read_paths.ReadPath.{ReadPath}
use Rattle.name_calls.specs.declared.read_paths.SnapPart.{SnapPart}
use Rattle.name_calls.specs.Paths.{names_text, path_text}
use Rattle.name_calls.specs.ReadPaths.{mark}
use Rattle.name_rest.specs.declared.order.NameOrder.{NameOrder}
use Rattle.name_rest.specs.declared.order.NameOrder.TheVariants as order
use Rattle.world_run.specs.Drives.{next_event as next_in_drive}

-- an event and its answer
abbrev pub AnsweredEvent : Type 0
AnsweredEvent = Event × Line

-- ---- the first event of an order

-- the text form of the path of an entry that is read: in a snapshot the mark comes after the directory, and the root is nothing there
abbrev pub text_in_snapshot : NPath → SnapPart → List ℕ
text_in_snapshot path part = names_text path ++ mark ++ part.name ++ names_text part.below

abbrev pub text_around : NPath → Option SnapPart → List ℕ
text_around path None = path_text path
text_around path (Some part) = text_in_snapshot path part

abbrev pub read_path_text : ReadPath → List ℕ
read_path_text path = text_around path.path path.snapshot

-- a call of the namesystem is one event
abbrev pub event_of_call : Text → NameCall → Event
event_of_call user (call.Mkdir path) = event.Mkdir user (path_text path)
event_of_call user (call.Delete path recursive) = event.Delete user (path_text path) recursive
event_of_call user (call.Rename path to) = event.Rename user (path_text path) (path_text to)
event_of_call user (call.Info path) = event.Info user (read_path_text path)
event_of_call user (call.List path) = event.List user (read_path_text path)
event_of_call user (call.Allow path) = event.Allow user (path_text path)
event_of_call user (call.Disallow path) = event.Disallow user (path_text path)
event_of_call user (call.Snap path name) = event.Snap user (path_text path) name
event_of_call user (call.Unsnap path name) = event.Unsnap user (path_text path) name
event_of_call user (call.Cancel path) = event.Cancel user (path_text path)
event_of_call user (call.Status path) = event.Status user (path_text path)
event_of_call user call.Zones = event.Zones user

-- a change with a call of the key management service in between begins with its ask
abbrev pub event_of_ask : Text → Ask → Event
event_of_ask user (ask.Create path) = event.AskCreate user (path_text path)
event_of_ask user (ask.Zone path key) = event.AskZone user (path_text path) key
event_of_ask user (ask.Submit path) = event.AskSubmit user (path_text path)

abbrev pub first_event : Text → NameOrder → Event
first_event user (order.Call asked) = event_of_call user asked
first_event user (order.Ask asked) = event_of_ask user asked

-- ---- the events after it

-- the event for a kept value; events have numbers below 2^32
abbrev pub event_numbered : (ℕ → Event) → ℕ → Option Event
event_numbered made number = if nat_lt number (2 ^ 32) then Some (made number) else None

-- The event that follows an answer within an order: the call of an ask that was accepted is made, and the ask is finished by its reply.
abbrev pub next_in_order : Line → Option Event
next_in_order (line.Asked number note) = event_numbered (λ n. event.Draw n) number
next_in_order (line.Replied number given) = event_numbered (λ n. event.Finish n) number
next_in_order _ = None

-- the event that follows these, the newest first, if `first` is the first one
abbrev pub event_after : Event → (Line → Option Event) → List AnsweredEvent → Option Event
event_after first next [] = Some first
event_after first next (last ∷ earlier) = next last.1

-- each event follows the answer before it
abbrev pub Follow : Event → (Line → Option Event) → List AnsweredEvent → Type 0
Follow first next [] = ⊤
Follow first next (last ∷ earlier) = (event_after first next earlier ≡ Some last.0) × Follow first next earlier

-- no event follows the last one; with no event at all, there was no memory for the first
abbrev pub NoneFollows : List AnsweredEvent → Type 0
NoneFollows [] = ⊤
NoneFollows (last ∷ earlier) = next_in_order last.1 ≡ None

-- The reply of an order whose last event was answered so. If it is neither the answer of a call, of a finish nor a refusal, there was no
-- memory for what comes next.
abbrev pub reply_of : Line → NameReply
reply_of (line.Name given) = given
reply_of (line.Refused why) = reply.Refused why
reply_of _ = reply.Refused refusal.NoMemory

abbrev pub reply_after : List AnsweredEvent → NameReply
reply_after [] = reply.Refused refusal.NoMemory
reply_after (last ∷ earlier) = reply_of last.1

-- These events, the newest first, are those of an order of the namesystem that begins with this one, and have its reply.
pub record IsOrderFrom (first : Event) (given : NameReply) (events : List AnsweredEvent) : Type 0 where
  pub follow : Follow first next_in_order events
  pub none_follows : NoneFollows events
  pub reply_is : given ≡ reply_after events

-- These events are those of a transaction. A call of the key management service is one event, and a look is none.
abbrev pub IsOrder : Text → Transaction → List AnsweredEvent → Type 0
IsOrder user (OfKeys asked given) events = events ≡ (event.Kms user asked, line.Kms given) ∷ []
IsOrder user (OfNames asked given) events = IsOrderFrom (first_event user asked) given events
IsOrder user (OfLook page counts) events = events ≡ []

-- ---- the drive after a submission

-- the zone whose re-encryption was submitted, if one was
abbrev pub submitted_by : NameOrder → NameReply → Option NPath
submitted_by (order.Ask (ask.Submit path)) reply.Done = Some path
submitted_by _ _ = None

abbrev pub submitted : Transaction → Option NPath
submitted (OfKeys asked given) = None
submitted (OfNames asked given) = submitted_by asked given
submitted (OfLook page counts) = None

-- these events are those of a drive of the zone, if there is one
abbrev pub IsDrive : Option NPath → List AnsweredEvent → Type 0
IsDrive None events = events ≡ []
IsDrive (Some zone) events = Follow (event.Walk (path_text zone)) (next_in_drive (path_text zone)) events

-- All events of a transaction, the newest first: those of the order, and then those of the drive that it is followed by.
pub record AreEventsOf (user : Text) (done : Transaction) (events : List AnsweredEvent) : Type 0 where
  pub own : List AnsweredEvent
  pub driven : List AnsweredEvent
  pub events_are : events ≡ driven ++ own
  pub is_order : IsOrder user done own
  pub is_drive : IsDrive (submitted done) driven
