-- Names of keys and refusals of the key management service are ASCII.
use Rattle.std.proofs.Common.{◌≡◌, ℕ, ◌<◌, List, [], ◌∷◌, ◌++◌, Bool, true, refl, arith, codes, nat_lt}
use Rattle.std.specs.List.{list_all}
use Rattle.std.specs.Str.{IsAscii, IsUtf8}
use Rattle.std.proofs.lemmas.Bool.{and_parts, ltb-true}
use Rattle.std.proofs.lemmas.Str.{IsAscii-append, IsUtf8-from_ascii}
use Rattle.std.proofs.lemmas.Str.Ascii.{IsAscii-cons, IsAscii-nil}
use Rattle.hk_base.specs.Names.{IsKeyName, is_name_byte}
use Rattle.kms_calls.specs.Acl.{op_text}
use Rattle.kms_calls.specs.declared.acl.AclOp.{AclOp}
use Rattle.kms_calls.specs.declared.acl.AclOp.TheVariants as op
use Rattle.kms_calls.specs.declared.acl.AclTable.{AclTable}
use Rattle.kms_calls.specs.declared.acl.AclTable.TheVariants as table
use Rattle.kms_calls.specs.declared.calls.KmsRefusal.{KmsRefusal}
use Rattle.kms_calls.specs.declared.calls.KmsRefusal.TheVariants as refusal
use Rattle.kms_calls.specs.Refusals.{refusal_text, table_text}

abbrev is_low : ℕ → Bool
is_low b = nat_lt b 128

low_bytes : (bytes : List ℕ) → list_all is_low bytes ≡ true → IsAscii bytes
low_bytes [] each = IsAscii-nil
low_bytes (b ∷ bs) each =
    let parts = and_parts (is_low b) (list_all is_low bs) each in
    IsAscii-cons b bs (ltb-true b 128 parts.0) (low_bytes bs parts.1)

name_byte_low : (b : ℕ) → is_name_byte b ≡ true → b < 128
name_byte_low b may = grind arith

name_bytes : (bytes : List ℕ) → list_all is_name_byte bytes ≡ true → IsAscii bytes
name_bytes [] each = IsAscii-nil
name_bytes (b ∷ bs) each =
    let parts = and_parts (is_name_byte b) (list_all is_name_byte bs) each in
    IsAscii-cons b bs (name_byte_low b parts.0) (name_bytes bs parts.1)

pub name_is_utf8 : (name : List ℕ) → IsKeyName name → IsUtf8 name
name_is_utf8 name is = IsUtf8-from_ascii name (name_bytes name (and_parts _ _ is).1)

ascii_table : (list : AclTable) → IsAscii (table_text list)
ascii_table table.ServiceAcl = low_bytes (codes "ServiceAcl") refl
ascii_table table.ServiceBlacklist = low_bytes (codes "ServiceBlacklist") refl
ascii_table table.KeyAcl = low_bytes (codes "KeyAcl") refl
ascii_table table.DefaultAcl = low_bytes (codes "DefaultAcl") refl
ascii_table table.NoAcl = low_bytes (codes "NoAcl") refl

ascii_op : (o : AclOp) → IsAscii (op_text o)
ascii_op op.Create = low_bytes (op_text op.Create) refl
ascii_op op.Delete = low_bytes (op_text op.Delete) refl
ascii_op op.Rollover = low_bytes (op_text op.Rollover) refl
ascii_op op.Get = low_bytes (op_text op.Get) refl
ascii_op op.GetKeys = low_bytes (op_text op.GetKeys) refl
ascii_op op.GetMetadata = low_bytes (op_text op.GetMetadata) refl
ascii_op op.SetKeyMaterial = low_bytes (op_text op.SetKeyMaterial) refl
ascii_op op.GenerateEek = low_bytes (op_text op.GenerateEek) refl
ascii_op op.DecryptEek = low_bytes (op_text op.DecryptEek) refl
ascii_op op.Management = low_bytes (op_text op.Management) refl
ascii_op op.Read = low_bytes (op_text op.Read) refl

ascii_refusal : (why : KmsRefusal) → IsAscii (refusal_text why)
ascii_refusal refusal.BadRequest = low_bytes (codes "K1 BadRequest") refl
ascii_refusal refusal.NoUser = low_bytes (codes "K2 NoUser") refl
ascii_refusal (refusal.Denied list o) =
    IsAscii-append (codes "K3 Denied " ++ table_text list ++ codes " ") (op_text o)
    (IsAscii-append (codes "K3 Denied " ++ table_text list) (codes " ")
    (IsAscii-append (codes "K3 Denied ") (table_text list) (low_bytes (codes "K3 Denied ") refl) (ascii_table list)) (low_bytes (codes " ") refl))
    (ascii_op o)
ascii_refusal refusal.NoSuchKey = low_bytes (codes "K4 NoSuchKey") refl
ascii_refusal refusal.NoSuchVersion = low_bytes (codes "K5 NoSuchVersion") refl
ascii_refusal refusal.KeyExists = low_bytes (codes "K6 KeyExists") refl
ascii_refusal refusal.WrongKey = low_bytes (codes "K7 WrongKey") refl
ascii_refusal refusal.BadMaterial = low_bytes (codes "K8 BadMaterial") refl
ascii_refusal refusal.BadLength = low_bytes (codes "K9 BadLength") refl
ascii_refusal refusal.TooManyKeys = low_bytes (codes "K10 TooManyKeys") refl
ascii_refusal refusal.TooManyVersions = low_bytes (codes "K11 TooManyVersions") refl
ascii_refusal refusal.TooManyAsked = low_bytes (codes "K12 TooManyAsked") refl
ascii_refusal refusal.NoMemory = low_bytes (codes "K13 NoMemory") refl
ascii_refusal refusal.StoreFault = low_bytes (codes "K14 StoreFault") refl

pub refusal_is_utf8 : (why : KmsRefusal) → IsUtf8 (refusal_text why)
refusal_is_utf8 why = IsUtf8-from_ascii (refusal_text why) (ascii_refusal why)
