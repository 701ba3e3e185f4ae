-- What a load reads in the answer to an event.
use Rattle.std.specs.Prelude.{ℕ, Bool, true, false, ◌==◌, length, Option, None, Some}
use Rattle.kms_calls.specs.declared.calls.KmsRefusal.{KmsRefusal}
use Rattle.kms_calls.specs.declared.calls.KmsRefusal.TheVariants as key_refusal
use Rattle.kms_calls.specs.declared.calls.KmsReply.{KmsReply}
use Rattle.kms_calls.specs.declared.calls.KmsReply.TheVariants as key_reply
use Rattle.name_calls.specs.declared.calls.NameRefusal.{NameRefusal}
use Rattle.name_calls.specs.declared.calls.NameRefusal.TheVariants as refusal
use Rattle.name_calls.specs.declared.calls.NameReply.{NameReply}
use Rattle.name_calls.specs.declared.calls.NameReply.TheVariants as reply
use Rattle.name_calls.specs.declared.status.ZoneStatus.{ZoneStatus}
use Rattle.hk_events.specs.declared.event.Line.{Line}
use Rattle.hk_events.specs.declared.event.Line.TheVariants as line

-- ---- refusals

abbrev pub key_refused : KmsReply → Bool
key_refused (key_reply.Refused why) = true
key_refused _ = false

abbrev pub drawn_refused : Option KmsReply → Bool
drawn_refused None = false
drawn_refused (Some given) = key_refused given

abbrev pub name_refused : NameReply → Bool
name_refused (reply.Refused why) = true
name_refused _ = false

-- the event is refused, or the call of the key management service that it makes
abbrev pub is_refused : Line → Bool
is_refused (line.Kms given) = key_refused given
is_refused (line.Name given) = name_refused given
is_refused (line.Replied number given) = drawn_refused given
is_refused (line.Refused why) = true
is_refused _ = false

-- ---- want of memory, and store faults

abbrev pub keys_lack : KmsRefusal → Bool
keys_lack key_refusal.NoMemory = true
keys_lack key_refusal.StoreFault = true
keys_lack _ = false

abbrev pub names_lack : NameRefusal → Bool
names_lack refusal.NoMemory = true
names_lack refusal.StoreFault = true
names_lack _ = false

abbrev pub key_lacks : KmsReply → Bool
key_lacks (key_reply.Refused why) = keys_lack why
key_lacks _ = false

abbrev pub drawn_lacks : Option KmsReply → Bool
drawn_lacks None = false
drawn_lacks (Some given) = key_lacks given

abbrev pub name_lacks : NameReply → Bool
name_lacks (reply.Refused why) = names_lack why
name_lacks _ = false

-- either service answers that allocation or the disk failed
abbrev pub lacks : Line → Bool
lacks (line.Kms given) = key_lacks given
lacks (line.Name given) = name_lacks given
lacks (line.Replied number given) = drawn_lacks given
lacks (line.Refused why) = names_lack why
lacks _ = false

-- ---- what is counted

-- 1 if a call of the namesystem was done
abbrev pub done_by : NameReply → ℕ
done_by reply.Done = 1
done_by _ = 0

abbrev pub done_in : Line → ℕ
done_in (line.Name given) = done_by given
done_in _ = 0

-- 1 if a version of a key was given
abbrev pub versions_given : KmsReply → ℕ
versions_given (key_reply.Version version material) = 1
versions_given _ = 0

abbrev pub versions_in : Line → ℕ
versions_in (line.Kms given) = versions_given given
versions_in _ = 0

-- the number of encrypted keys
abbrev pub keys_given : KmsReply → ℕ
keys_given (key_reply.Ready keys) = length keys
keys_given _ = 0

abbrev pub keys_in : Line → ℕ
keys_in (line.Kms given) = keys_given given
keys_in _ = 0

-- the status of a zone that was re-encrypted, if the answer is one
abbrev pub status_given : NameReply → Option ZoneStatus
status_given (reply.Status status) = status
status_given _ = None

abbrev pub status_in : Line → Option ZoneStatus
status_in (line.Name given) = status_given given
status_in _ = None

abbrev pub reencrypted_by : Option ZoneStatus → ℕ
reencrypted_by None = 0
reencrypted_by (Some status) = status.reencrypted

-- ---- the end of a re-encryption

abbrev pub is_completed : Line → Bool
is_completed line.Completed = true
is_completed _ = false

-- there is a status, and no file failed
abbrev pub none_failed : Option ZoneStatus → Bool
none_failed None = false
none_failed (Some status) = status.failed == 0
