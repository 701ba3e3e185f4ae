-- The responses of the service: a status (RFC 9110, section 15) and a body.
use Rattle.std.specs.Prelude.{ℕ, Bool, List, codes, if◌then◌else◌}
use Rattle.kms_calls.specs.declared.calls.KmsRefusal.{KmsRefusal}
use Rattle.kms_calls.specs.declared.calls.KmsRefusal.TheVariants as refusal
use Rattle.kms_calls.specs.declared.calls.KmsReply.{KmsReply}
use Rattle.kms_calls.specs.declared.calls.KmsReply.TheVariants as reply
use Rattle.kms_json.specs.Replies.{reply_text}
use Rattle.kms_rest.specs.declared.faults.RestFault.{RestFault}
use Rattle.kms_rest.specs.declared.faults.RestFault.TheVariants as fault

abbrev pub refusal_status : KmsRefusal → ℕ
refusal_status refusal.BadRequest = 400
refusal_status refusal.NoUser = 401
refusal_status (refusal.Denied list op) = 403
refusal_status refusal.NoSuchKey = 404
refusal_status refusal.NoSuchVersion = 404
refusal_status refusal.KeyExists = 409
refusal_status refusal.WrongKey = 400
refusal_status refusal.BadMaterial = 400
refusal_status refusal.BadLength = 400
refusal_status refusal.TooManyKeys = 409
refusal_status refusal.TooManyVersions = 409
refusal_status refusal.TooManyAsked = 400
refusal_status refusal.NoMemory = 503
refusal_status refusal.StoreFault = 500

-- the status of a reply that is not a refusal: 201 if a key was created
abbrev pub done_status : Bool → ℕ
done_status created = if created then 201 else 200

abbrev pub reply_status : KmsReply → Bool → ℕ
reply_status (reply.Version version material) created = done_status created
reply_status reply.Done created = done_status created
reply_status (reply.Metadata meta) created = done_status created
reply_status (reply.Metadatas metas) created = done_status created
reply_status (reply.Names names) created = done_status created
reply_status (reply.Versions versions) created = done_status created
reply_status (reply.Ready edeks) created = done_status created
reply_status (reply.Resealed edek) created = done_status created
reply_status (reply.Key key) created = done_status created
reply_status (reply.Refused why) created = refusal_status why

abbrev pub fault_status : RestFault → ℕ
fault_status fault.NoRoute = 404
fault_status fault.BadMethod = 405
fault_status fault.NoUser = 401
fault_status fault.BadRequest = 400
fault_status fault.NoMemory = 503

-- a fault that is also a refusal of the service has the body of that refusal
abbrev pub fault_text : RestFault → List ℕ
fault_text fault.NoRoute = codes "{\"RemoteException\":{\"exception\":\"NoRoute\",\"message\":\"NoRoute\"}}"
fault_text fault.BadMethod = codes "{\"RemoteException\":{\"exception\":\"BadMethod\",\"message\":\"BadMethod\"}}"
fault_text fault.NoUser = reply_text (reply.Refused refusal.NoUser)
fault_text fault.BadRequest = reply_text (reply.Refused refusal.BadRequest)
fault_text fault.NoMemory = reply_text (reply.Refused refusal.NoMemory)
