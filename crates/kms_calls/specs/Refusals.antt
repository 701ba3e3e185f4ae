-- Refusals of the key management service as text: the number and the name; for Denied also the list and the operation.
use Rattle.std.specs.Prelude.{ℕ, List, ◌++◌, codes}
use Rattle.kms_calls.specs.declared.acl.AclOp.{AclOp}
use Rattle.kms_calls.specs.declared.acl.AclTable.{AclTable}
use Rattle.kms_calls.specs.declared.acl.AclTable.TheVariants as table
use Rattle.kms_calls.specs.declared.calls.KmsRefusal.{KmsRefusal}
use Rattle.kms_calls.specs.declared.calls.KmsRefusal.TheVariants as refusal
use Rattle.kms_calls.specs.Acl.{op_text}

abbrev pub table_text : AclTable → List ℕ
table_text table.ServiceAcl = codes "ServiceAcl"
table_text table.ServiceBlacklist = codes "ServiceBlacklist"
table_text table.KeyAcl = codes "KeyAcl"
table_text table.DefaultAcl = codes "DefaultAcl"
table_text table.NoAcl = codes "NoAcl"

abbrev pub denied_text : AclTable → AclOp → List ℕ
denied_text list op = codes "K3 Denied " ++ table_text list ++ codes " " ++ op_text op

abbrev pub refusal_text : KmsRefusal → List ℕ
refusal_text refusal.BadRequest = codes "K1 BadRequest"
refusal_text refusal.NoUser = codes "K2 NoUser"
refusal_text (refusal.Denied list op) = denied_text list op
refusal_text refusal.NoSuchKey = codes "K4 NoSuchKey"
refusal_text refusal.NoSuchVersion = codes "K5 NoSuchVersion"
refusal_text refusal.KeyExists = codes "K6 KeyExists"
refusal_text refusal.WrongKey = codes "K7 WrongKey"
refusal_text refusal.BadMaterial = codes "K8 BadMaterial"
refusal_text refusal.BadLength = codes "K9 BadLength"
refusal_text refusal.TooManyKeys = codes "K10 TooManyKeys"
refusal_text refusal.TooManyVersions = codes "K11 TooManyVersions"
refusal_text refusal.TooManyAsked = codes "K12 TooManyAsked"
refusal_text refusal.NoMemory = codes "K13 NoMemory"
refusal_text refusal.StoreFault = codes "K14 StoreFault"
