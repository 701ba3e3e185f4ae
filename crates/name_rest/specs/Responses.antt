-- The responses of the namesystem: a status (RFC 9110, section 15) and a body, which is empty or JSON.
use Rattle.std.specs.Prelude.{ℕ, Bool, List, [], codes}
use Rattle.serde_json.specs.Data.{Data, member, no_members, object, string}
use Rattle.serde_json.specs.Written.{compact_text}
use Rattle.name_calls.specs.declared.calls.NameRefusal.{NameRefusal}
use Rattle.name_calls.specs.declared.calls.NameRefusal.TheVariants as why
use Rattle.name_calls.specs.declared.calls.NameReply.{NameReply}
use Rattle.name_calls.specs.declared.calls.NameReply.TheVariants as reply
use Rattle.name_text.specs.Answers.{answer_text}
use Rattle.name_text.specs.Refusals.{name_refusal_text, refusal_name}
use Rattle.kms_rest.specs.Responses as kms
pub use Rattle.kms_rest.specs.Responses.{done_status}
use Rattle.kms_rest.specs.declared.faults.RestFault.TheVariants as rest
use Rattle.name_rest.specs.declared.faults.NameRestFault.{NameRestFault}
use Rattle.name_rest.specs.declared.faults.NameRestFault.TheVariants as fault

-- a refusal that carries one of the key management service has the status of the carried one
abbrev pub refusal_status : NameRefusal → ℕ
refusal_status why.BadPath = 400
refusal_status why.NoSuchPath = 404
refusal_status why.Exists = 409
refusal_status why.NotADirectory = 409
refusal_status why.NotEmpty = 409
refusal_status why.NotSuperuser = 403
refusal_status why.AlreadyInZone = 409
refusal_status why.NotAZoneRoot = 404
refusal_status why.CrossZone = 409
refusal_status why.UnderReencryption = 409
refusal_status why.HasSnapshots = 409
refusal_status why.NotSnapshottable = 404
refusal_status why.SnapshotExists = 409
refusal_status why.NoSuchSnapshot = 404
refusal_status why.TooManySnapshots = 409
refusal_status (why.AskGone opening next) = 409
refusal_status why.ZoneChanged = 409
refusal_status why.AlreadySubmitted = 409
refusal_status why.NotSubmitted = 409
refusal_status why.TooManyInodes = 409
refusal_status (why.KeyRefused refused) = kms.refusal_status refused
refusal_status why.NoMemory = 503
refusal_status why.StoreFault = 500
refusal_status why.NestedSnapshottable = 409
refusal_status why.RootOrInside = 400

abbrev pub reply_status : NameReply → Bool → ℕ
reply_status reply.Done created = done_status created
reply_status (reply.Dir id zone_path key) created = 200
reply_status (reply.File id zone_path edek) created = 200
reply_status (reply.List children) created = 200
reply_status (reply.Status status) created = 200
reply_status (reply.Zones zones) created = 200
reply_status (reply.Refused refused) created = refusal_status refused

-- the object {"answer":TEXT}
abbrev pub answer_data : List ℕ → Data
answer_data text = object (member (codes "answer") (string text) no_members)

abbrev pub exception_data : List ℕ → List ℕ → Data
exception_data name message = object (member (codes "exception") (string name) (member (codes "message") (string message) no_members))

-- the object {"RemoteException":{"exception":NAME,"message":MESSAGE}}
abbrev pub error_data : List ℕ → List ℕ → Data
error_data name message = object (member (codes "RemoteException") (exception_data name message) no_members)

-- the body of an answer, whose text is that of the transcript
abbrev pub answer_body : NameReply → List ℕ
answer_body answer = compact_text (answer_data (answer_text answer))

abbrev pub refusal_body : NameRefusal → List ℕ
refusal_body refused = compact_text (error_data (refusal_name refused) (name_refusal_text refused))

abbrev pub reply_text : NameReply → List ℕ
reply_text reply.Done = []
reply_text (reply.Dir id zone_path key) = answer_body (reply.Dir id zone_path key)
reply_text (reply.File id zone_path edek) = answer_body (reply.File id zone_path edek)
reply_text (reply.List children) = answer_body (reply.List children)
reply_text (reply.Status status) = answer_body (reply.Status status)
reply_text (reply.Zones zones) = answer_body (reply.Zones zones)
reply_text (reply.Refused refused) = refusal_body refused

abbrev pub fault_status : NameRestFault → ℕ
fault_status fault.NoRoute = 404
fault_status fault.BadMethod = 405
fault_status fault.NoUser = 401
fault_status fault.BadRequest = 400
fault_status fault.BadPath = 400
fault_status fault.NoMemory = 503

-- the key management service has the first four faults too; the other two are refusals of the namesystem
abbrev pub fault_text : NameRestFault → List ℕ
fault_text fault.NoRoute = kms.fault_text rest.NoRoute
fault_text fault.BadMethod = kms.fault_text rest.BadMethod
fault_text fault.NoUser = kms.fault_text rest.NoUser
fault_text fault.BadRequest = kms.fault_text rest.BadRequest
fault_text fault.BadPath = refusal_body why.BadPath
fault_text fault.NoMemory = refusal_body why.NoMemory
