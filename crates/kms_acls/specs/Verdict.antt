-- The verdict of the access control lists on a call, from the lines of the properties.
use Rattle.std.specs.Prelude.{ℕ, Bool, true, false, ◌&&◌, ◌||◌, ◌==◌, List, [], ◌∷◌, map, Option, Some, None, is_some, is_none, option_map, if◌then◌else◌, Result, Ok, Err}
use Rattle.std.specs.List.{list_any}
use Rattle.std.specs.Option.{option_or, unwrap_or}
use Rattle.std.specs.Str.{bytes_eq}
use Rattle.hk_base.specs.declared.names.KeyName.{KeyName}
use Rattle.hk_base.specs.declared.texts.Text.{Text}
use Rattle.kms_calls.specs.declared.acl.AclOp.{AclOp}
use Rattle.kms_calls.specs.declared.acl.AclOp.TheVariants as op
use Rattle.kms_calls.specs.declared.acl.AclTable.{AclTable}
use Rattle.kms_calls.specs.declared.acl.AclTable.TheVariants as table
use Rattle.kms_calls.specs.declared.calls.KmsCall.{KmsCall}
use Rattle.kms_calls.specs.declared.calls.KmsCall.TheVariants as call
use Rattle.prop_text.specs.declared.acls.Acl.{Acl}
use Rattle.prop_text.specs.declared.lines.PropLine.{PropLine}
use Rattle.prop_text.specs.declared.lines.PropLine.TheVariants as line
use Rattle.prop_text.specs.Properties.{is_among}
use Rattle.kms_acls.specs.declared.answers.Shown.{Shown}
use Rattle.kms_acls.specs.declared.answers.Denied.{Denied}

abbrev pub op_number : AclOp → ℕ
op_number op.Create = 0
op_number op.Delete = 1
op_number op.Rollover = 2
op_number op.Get = 3
op_number op.GetKeys = 4
op_number op.GetMetadata = 5
op_number op.SetKeyMaterial = 6
op_number op.GenerateEek = 7
op_number op.DecryptEek = 8
op_number op.Management = 9
op_number op.Read = 10

abbrev pub same_op : AclOp → AclOp → Bool
same_op a b = op_number a == op_number b

abbrev pub given_if : {X : Type 0} → Bool → X → Option X
given_if b x = if b then Some x else None

-- the result for the first line that has one
abbrev pub first_of : {X : Type 0} → (PropLine → Option X) → List PropLine → Option X
first_of gives [] = None
first_of gives (l ∷ ls) = option_or (gives l) (first_of gives ls)

-- the list of a line `hadoop.kms.acl.OP`
abbrev pub service_list : AclOp → PropLine → Option Acl
service_list o (line.Service p acl) = given_if (same_op p o) acl
service_list o _ = None

-- the list of a line `hadoop.kms.blacklist.OP`
abbrev pub blacklist : AclOp → PropLine → Option Acl
blacklist o (line.Blacklist p acl) = given_if (same_op p o) acl
blacklist o _ = None

-- the list of a line `default.key.acl.OP`
abbrev pub default_list : AclOp → PropLine → Option Acl
default_list o (line.Default p acl) = given_if (same_op p o) acl
default_list o _ = None

-- the list of a line `whitelist.key.acl.OP`
abbrev pub whitelist : AclOp → PropLine → Option Acl
whitelist o (line.Whitelist p acl) = given_if (same_op p o) acl
whitelist o _ = None

-- the list of a line `key.acl.K.OP`
abbrev pub key_list : KeyName → AclOp → PropLine → Option Acl
key_list k o (line.Key key p acl) = given_if (bytes_eq k key && same_op p o) acl
key_list k o _ = None

-- the list of a line `key.acl.K.ALL`
abbrev pub key_all_list : KeyName → PropLine → Option Acl
key_all_list k (line.KeyAll key acl) = given_if (bytes_eq k key) acl
key_all_list k _ = None

-- a line `key.acl.K.` of this key
abbrev pub is_of_key : KeyName → PropLine → Bool
is_of_key k (line.Key key p acl) = bytes_eq k key
is_of_key k (line.KeyAll key acl) = bytes_eq k key
is_of_key k _ = false

-- the users of a line `group.G`
abbrev pub users_of_group : Text → PropLine → Option (List Text)
users_of_group g (line.Group group users) = given_if (bytes_eq g group) users
users_of_group g _ = None

-- the group has a line, which names the user
abbrev pub names_user : Text → Option (List Text) → Bool
names_user user None = false
names_user user (Some users) = is_among user users

-- the list has everybody, or names the user, or a group whose line names the user
abbrev pub is_in : List PropLine → Text → Acl → Bool
is_in lines user acl =
    acl.everybody || is_among user acl.users || list_any (λ g. names_user user (first_of (users_of_group g) lines)) acl.groups

-- whether a user is in each list, or none if there is no such list; and whether a key has lines of its own
pub record UserStanding : Type 0 where
  pub service : AclOp → Option Bool
  pub blacklist : AclOp → Option Bool
  pub whitelist : AclOp → Option Bool
  pub has_lines : KeyName → Bool
  pub key : KeyName → AclOp → Option Bool
  pub key_all : KeyName → Option Bool
  pub default : AclOp → Option Bool

abbrev pub standing : List PropLine → Text → UserStanding
standing lines user = record {
  service = λ o. option_map (is_in lines user) (first_of (service_list o) lines);
  blacklist = λ o. option_map (is_in lines user) (first_of (blacklist o) lines);
  whitelist = λ o. option_map (is_in lines user) (first_of (whitelist o) lines);
  has_lines = λ k. list_any (is_of_key k) lines;
  key = λ k o. option_map (is_in lines user) (first_of (key_list k o) lines);
  key_all = λ k. option_map (is_in lines user) (first_of (key_all_list k) lines);
  default = λ o. option_map (is_in lines user) (first_of (default_list o) lines);
}

abbrev pub denied : AclTable → AclOp → Option Denied
denied t o = Some record { table = t; op = o }

-- an operation of the service: an absent list allows everybody, an absent blacklist excludes nobody
abbrev pub service_denial : UserStanding → AclOp → Option Denied
service_denial s o =
    if unwrap_or (s.service o) true
    then (if unwrap_or (s.blacklist o) false then denied table.ServiceBlacklist o else None)
    else denied table.ServiceAcl o

abbrev pub default_denial : AclOp → Option Bool → Option Denied
default_denial o None = denied table.NoAcl o
default_denial o (Some true) = None
default_denial o (Some false) = denied table.DefaultAcl o

-- an operation on a key, whether or not the key exists
abbrev pub key_denial : UserStanding → AclOp → KeyName → Option Denied
key_denial s o k =
    if unwrap_or (s.whitelist o) false then None
    else if s.has_lines k
    then (if unwrap_or (s.key k o) false || unwrap_or (s.key_all k) false then None else denied table.KeyAcl o)
    else default_denial o (s.default o)

-- what a call needs: an operation of the service, a second one if it has material, and an operation on each of these keys
pub record Asked : Type 0 where
  pub service : AclOp
  pub material : Bool
  pub on_keys : AclOp
  pub keys : List KeyName

abbrev pub asks : AclOp → Bool → AclOp → List KeyName → Asked
asks service material on_keys keys = record { service = service; material = material; on_keys = on_keys; keys = keys }

abbrev pub asked : KmsCall → Asked
asked (call.Create k bits material description) = asks op.Create (is_some material) op.Management (k ∷ [])
asked (call.Roll k material) = asks op.Rollover (is_some material) op.Management (k ∷ [])
asked (call.Delete k) = asks op.Delete false op.Management (k ∷ [])
asked (call.Invalidate k) = asks op.Rollover false op.Management (k ∷ [])
asked (call.Metadata k) = asks op.GetMetadata false op.Read (k ∷ [])
asked (call.Metadatas ks) = asks op.GetMetadata false op.Read ks
asked call.Names = asks op.GetKeys false op.Read []
asked (call.Current k) = asks op.Get false op.Read (k ∷ [])
asked (call.Versions k) = asks op.Get false op.Read (k ∷ [])
asked (call.Version version) = asks op.Get false op.Read (version.key ∷ [])
asked (call.Generate k count) = asks op.GenerateEek false op.GenerateEek (k ∷ [])
asked (call.Decrypt k sent) = asks op.DecryptEek false op.DecryptEek (k ∷ [])
asked (call.Reencrypt k sent) = asks op.GenerateEek false op.GenerateEek (k ∷ [])
asked (call.Batch k sent) = asks op.GenerateEek false op.GenerateEek (k ∷ [])

abbrev pub first_denial : List (Option Denied) → Option Denied
first_denial [] = None
first_denial (d ∷ ds) = option_or d (first_denial ds)

-- the first denial: of the service, and then of each key
abbrev pub denial : UserStanding → Asked → Option Denied
denial s a =
    first_denial (service_denial s a.service ∷ (if a.material then service_denial s op.SetKeyMaterial else None) ∷ map (key_denial s a.on_keys) a.keys)

abbrev pub allowed : {X : Type 0} → X → Option Denied → Result X Denied
allowed x None = Ok x
allowed x (Some d) = Err d

-- whether the user sees material: the operation GET of the service is allowed
abbrev pub parts_shown : UserStanding → Shown
parts_shown s = record { material = is_none (service_denial s op.Get) }

-- the first denial, or else whether material is shown
abbrev pub judged : UserStanding → KmsCall → Result Shown Denied
judged s c = allowed (parts_shown s) (denial s (asked c))

abbrev pub verdict : List PropLine → Text → KmsCall → Result Shown Denied
verdict lines user c = judged (standing lines user) c
