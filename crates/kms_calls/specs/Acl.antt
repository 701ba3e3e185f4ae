-- The names of the operations in the properties of the Hadoop KMS.
use Rattle.std.specs.Prelude.{ℕ, List, codes}
use Rattle.kms_calls.specs.declared.acl.AclOp.{AclOp}
use Rattle.kms_calls.specs.declared.acl.AclOp.TheVariants as op

abbrev pub op_text : AclOp → List ℕ
op_text op.Create = codes "CREATE"
op_text op.Delete = codes "DELETE"
op_text op.Rollover = codes "ROLLOVER"
op_text op.Get = codes "GET"
op_text op.GetKeys = codes "GET_KEYS"
op_text op.GetMetadata = codes "GET_METADATA"
op_text op.SetKeyMaterial = codes "SET_KEY_MATERIAL"
op_text op.GenerateEek = codes "GENERATE_EEK"
op_text op.DecryptEek = codes "DECRYPT_EEK"
op_text op.Management = codes "MANAGEMENT"
op_text op.Read = codes "READ"
