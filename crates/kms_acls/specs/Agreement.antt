-- The stored lists agree with the lines that they are made from.
use Rattle.std.specs.Prelude.{◌≡◌, List, is_some, option_map}
use Rattle.std.specs.List.{list_any}
use Rattle.hk_base.specs.declared.names.KeyName.{KeyName}
use Rattle.hk_base.specs.declared.texts.Text.{Text}
use Rattle.kms_calls.specs.declared.acl.AclOp.{AclOp}
use Rattle.prop_text.specs.declared.lines.PropLine.{PropLine}
use Rattle.kms_acls.specs.Lists.{Lists, acl_meaning, all_of_key, list_of, list_of_key, lists_of_key, members_meaning, named_in, users_of}
use Rattle.kms_acls.specs.Verdict.{blacklist, default_list, first_of, is_of_key, key_all_list, key_list, service_list, users_of_group, whitelist}

-- each stored list means what the first line of its name says, and no line's list is missing
pub record AreListsOf (lists : Lists) (lines : List PropLine) : Type 0 where
  pub services : (o : AclOp) → option_map members_meaning (list_of o lists.services) ≡ option_map acl_meaning (first_of (service_list o) lines)
  pub blacklists : (o : AclOp) → option_map members_meaning (list_of o lists.blacklists) ≡ option_map acl_meaning (first_of (blacklist o) lines)
  pub defaults : (o : AclOp) → option_map members_meaning (list_of o lists.defaults) ≡ option_map acl_meaning (first_of (default_list o) lines)
  pub whitelists : (o : AclOp) → option_map members_meaning (list_of o lists.whitelists) ≡ option_map acl_meaning (first_of (whitelist o) lines)
  pub has_lines : (k : KeyName) → is_some (lists_of_key k lists.keys) ≡ list_any (is_of_key k) lines
  pub key : (k : KeyName) (o : AclOp) → option_map members_meaning (list_of_key k o lists.keys) ≡ option_map acl_meaning (first_of (key_list k o) lines)
  pub key_all : (k : KeyName) → option_map members_meaning (all_of_key k lists.keys) ≡ option_map acl_meaning (first_of (key_all_list k) lines)
  pub groups : (g : Text) → option_map named_in (users_of g lists.groups) ≡ option_map named_in (first_of (users_of_group g) lines)
