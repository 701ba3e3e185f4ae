-- The stored lists, and whether a user is in each.
use Rattle.std.specs.Prelude.{Bool, ◌||◌, List, [], Option, None, find, is_some, option_map}
use Rattle.std.specs.List.{list_any}
use Rattle.std.specs.Map.{lookup}
use Rattle.std.specs.Option.{option_and_then}
use Rattle.std.specs.Str.{bytes_eq}
use Rattle.hk_base.specs.declared.names.KeyName.{KeyName}
use Rattle.hk_base.specs.declared.texts.Text.{Text}
use Rattle.kms_calls.specs.declared.acl.AclOp.{AclOp}
use Rattle.prop_text.specs.declared.acls.Acl.{Acl}
use Rattle.prop_text.specs.Properties.{is_among}
use Rattle.kms_acls.specs.declared.members.Members.{Members}
use Rattle.kms_acls.specs.declared.lists.OpAcl.{OpAcl}
use Rattle.kms_acls.specs.declared.lists.KeyLists.{KeyLists}
use Rattle.kms_acls.specs.Verdict.{UserStanding, names_user, same_op}

-- the lists of each operation, those of each key by its name, and the users of each group by its name
pub record Lists : Type 0 where
  pub services : List OpAcl
  pub blacklists : List OpAcl
  pub defaults : List OpAcl
  pub whitelists : List OpAcl
  pub keys : List (KeyName × KeyLists)
  pub groups : List (Text × List Text)

-- what a list of users and groups means, in whatever order it names the users
pub record Meaning : Type 0 where
  pub everybody : Bool
  pub users : Text → Bool
  pub groups : List Text

abbrev pub named_in : List Text → Text → Bool
named_in names name = is_among name names

abbrev pub acl_meaning : Acl → Meaning
acl_meaning acl = record { everybody = acl.everybody; users = named_in acl.users; groups = acl.groups }

abbrev pub members_meaning : Members → Meaning
members_meaning members = record { everybody = members.everybody; users = named_in members.users; groups = members.groups }

abbrev pub list_of : AclOp → List OpAcl → Option Members
list_of o lists = option_map (λ l. l.members) (find (λ l. same_op l.op o) lists)

-- no list for any operation
abbrev pub no_lists : KeyLists
no_lists = record { by_op = []; all = None }

abbrev pub lists_of_key : KeyName → List (KeyName × KeyLists) → Option KeyLists
lists_of_key k keys = lookup (bytes_eq k) keys

abbrev pub list_of_key : KeyName → AclOp → List (KeyName × KeyLists) → Option Members
list_of_key k o keys = option_and_then (λ lists. list_of o lists.by_op) (lists_of_key k keys)

abbrev pub all_of_key : KeyName → List (KeyName × KeyLists) → Option Members
all_of_key k keys = option_and_then (λ lists. lists.all) (lists_of_key k keys)

abbrev pub users_of : Text → List (Text × List Text) → Option (List Text)
users_of g groups = lookup (bytes_eq g) groups

abbrev pub holds : List (Text × List Text) → Text → Members → Bool
holds groups user members =
    members.everybody || is_among user members.users || list_any (λ g. names_user user (users_of g groups)) members.groups

-- whether a user is in each list
abbrev pub stands : Lists → Text → UserStanding
stands lists user = record {
  service = λ o. option_map (holds lists.groups user) (list_of o lists.services);
  blacklist = λ o. option_map (holds lists.groups user) (list_of o lists.blacklists);
  whitelist = λ o. option_map (holds lists.groups user) (list_of o lists.whitelists);
  has_lines = λ k. is_some (lists_of_key k lists.keys);
  key = λ k o. option_map (holds lists.groups user) (list_of_key k o lists.keys);
  key_all = λ k. option_map (holds lists.groups user) (all_of_key k lists.keys);
  default = λ o. option_map (holds lists.groups user) (list_of o lists.defaults);
}
