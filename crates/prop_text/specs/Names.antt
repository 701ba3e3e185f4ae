-- The names of properties.
use Rattle.std.specs.Prelude.{ℕ, ◌-◌, ◌&&◌, nat_le, nat_lt, Bool, List, length, take, drop, codes, Option, None, Some, if◌then◌else◌}
use Rattle.std.specs.List.{list_all}
use Rattle.std.specs.Option.{option_and_then, option_map, option_or}
use Rattle.std.specs.Str.{bytes_eq}
use Rattle.hk_base.specs.Names.{is_key_name}
use Rattle.kms_calls.specs.Acl.{op_text}
use Rattle.prop_text.specs.Acls.{is_plain}
use Rattle.kms_calls.specs.declared.acl.AclOp.{AclOp}
use Rattle.kms_calls.specs.declared.acl.AclOp.TheVariants as op
use Rattle.prop_text.specs.declared.setting.AclPlace.{AclPlace}
use Rattle.prop_text.specs.declared.setting.AclPlace.TheVariants as place
use Rattle.prop_text.specs.declared.setting.SizeName.{SizeName}
use Rattle.prop_text.specs.declared.setting.SizeName.TheVariants as size
use Rattle.prop_text.specs.declared.setting.Setting.{Setting}
use Rattle.prop_text.specs.declared.setting.Setting.TheVariants as setting

-- the bytes after a prefix
abbrev pub behind : List ℕ → List ℕ → Option (List ℕ)
behind front bytes = if bytes_eq (take (length front) bytes) front then Some (drop (length front) bytes) else None

-- the bytes before a suffix
abbrev pub before : List ℕ → List ℕ → Option (List ℕ)
before end bytes = if bytes_eq (drop (length bytes - length end) bytes) end then Some (take (length bytes - length end) bytes) else None

-- the operations of the service
unfoldable pub service_op : List ℕ → Option AclOp
service_op text =
    if bytes_eq text (op_text op.Create) then Some op.Create
    else if bytes_eq text (op_text op.Delete) then Some op.Delete
    else if bytes_eq text (op_text op.Rollover) then Some op.Rollover
    else if bytes_eq text (op_text op.Get) then Some op.Get
    else if bytes_eq text (op_text op.GetKeys) then Some op.GetKeys
    else if bytes_eq text (op_text op.GetMetadata) then Some op.GetMetadata
    else if bytes_eq text (op_text op.SetKeyMaterial) then Some op.SetKeyMaterial
    else if bytes_eq text (op_text op.GenerateEek) then Some op.GenerateEek
    else if bytes_eq text (op_text op.DecryptEek) then Some op.DecryptEek
    else None

-- the operations on a key
unfoldable pub key_op : List ℕ → Option AclOp
key_op text =
    if bytes_eq text (op_text op.Management) then Some op.Management
    else if bytes_eq text (op_text op.GenerateEek) then Some op.GenerateEek
    else if bytes_eq text (op_text op.DecryptEek) then Some op.DecryptEek
    else if bytes_eq text (op_text op.Read) then Some op.Read
    else None

abbrev pub service_op_in : Option (List ℕ) → Option AclOp
service_op_in None = None
service_op_in (Some text) = service_op text

abbrev pub key_op_in : Option (List ℕ) → Option AclOp
key_op_in None = None
key_op_in (Some text) = key_op text

-- `hadoop.kms.acl.OP`
unfoldable pub service_name : List ℕ → Option AclPlace
service_name name = option_map place.Service (service_op_in (behind (codes "hadoop.kms.acl.") name))

-- `hadoop.kms.blacklist.OP`
unfoldable pub blacklist_name : List ℕ → Option AclPlace
blacklist_name name = option_map place.Blacklist (service_op_in (behind (codes "hadoop.kms.blacklist.") name))

-- `default.key.acl.OP`
unfoldable pub default_name : List ℕ → Option AclPlace
default_name name = option_map place.Default (key_op_in (behind (codes "default.key.acl.") name))

-- `whitelist.key.acl.OP`
unfoldable pub whitelist_name : List ℕ → Option AclPlace
whitelist_name name = option_map place.Whitelist (key_op_in (behind (codes "whitelist.key.acl.") name))

-- the bytes, if they are the name of a key
abbrev pub key_in : Option (List ℕ) → Option (List ℕ)
key_in None = None
key_in (Some bytes) = if is_key_name bytes then Some bytes else None

-- the key before a dot and this name
unfoldable pub key_before : List ℕ → List ℕ → Option (List ℕ)
key_before name bytes = key_in (option_and_then (before (codes ".")) (before name bytes))

-- `K.OP` for one operation
unfoldable pub key_with : AclOp → List ℕ → Option AclPlace
key_with op bytes = option_map (λ key. place.Key key op) (key_before (op_text op) bytes)

-- `K.ALL`
unfoldable pub key_all : List ℕ → Option AclPlace
key_all bytes = option_map place.KeyAll (key_before (codes "ALL") bytes)

-- `K.OP`: no operation has a dot, so the key is all before the last dot
unfoldable pub key_place : List ℕ → Option AclPlace
key_place bytes =
    option_or (key_with op.Management bytes)
    (option_or (key_with op.GenerateEek bytes)
    (option_or (key_with op.DecryptEek bytes)
    (option_or (key_with op.Read bytes)
    (key_all bytes))))

abbrev pub key_place_in : Option (List ℕ) → Option AclPlace
key_place_in None = None
key_place_in (Some bytes) = key_place bytes

-- `key.acl.K.OP` and `key.acl.K.ALL`
unfoldable pub key_name : List ℕ → Option AclPlace
key_name name = key_place_in (behind (codes "key.acl.") name)

-- the names of access control lists
unfoldable pub acl_name : List ℕ → Option AclPlace
acl_name name = option_or (service_name name) (option_or (blacklist_name name) (option_or (key_name name) (option_or (default_name name) (whitelist_name name))))

-- 1 to 255 bytes without spaces and commas
unfoldable pub is_group_name : List ℕ → Bool
is_group_name bytes = nat_lt 0 (length bytes) && nat_le (length bytes) 255 && list_all is_plain bytes

abbrev pub group_in : Option (List ℕ) → Option Setting
group_in None = None
group_in (Some bytes) = if is_group_name bytes then Some setting.Group else None

abbrev pub group_front : List ℕ
group_front = codes "group."

-- `group.G`
unfoldable pub group_name : List ℕ → Option Setting
group_name name = group_in (behind group_front name)

-- the names of sizes
unfoldable pub size_name : List ℕ → Option SizeName
size_name name =
    if bytes_eq name (codes "hkms.queue.size") then Some size.QueueSize
    else if bytes_eq name (codes "hkms.queue.watermark") then Some size.QueueWatermark
    else if bytes_eq name (codes "hkms.reencrypt.batch") then Some size.BatchSize
    else if bytes_eq name (codes "hkms.cache") then Some size.CacheSize
    else None

-- what a name sets; all other names are unknown
unfoldable pub setting_of : List ℕ → Option Setting
setting_of name = option_or (option_map setting.List (acl_name name)) (option_or (group_name name) (option_map setting.Size (size_name name)))
