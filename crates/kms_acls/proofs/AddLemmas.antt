-- One more line, and the list that is stored for it.
use Rattle.std.proofs.Common.{◌≡◌, ℕ, List, [], ◌∷◌, ◌++◌, refl, ap, sym, ◌∙◌, ◌&&◌, ◌||◌, None, is_some}
use Rattle.std.specs.Prelude.{option_map}
use Rattle.std.specs.Option.{option_and_then, option_or}
use Rattle.std.specs.Str.{bytes_eq}
use Rattle.kms_calls.specs.declared.acl.AclOp.{AclOp}
use Rattle.prop_text.specs.declared.acls.Acl.{Acl}
use Rattle.prop_text.specs.declared.lines.PropLine.{PropLine}
use Rattle.prop_text.specs.declared.lines.PropLine.TheVariants as line
use Rattle.prop_text.specs.Properties.{is_among}
use Rattle.kms_acls.specs.declared.members.Members.{Members}
use Rattle.kms_acls.specs.declared.lists.KeyLists.{KeyLists}
use Rattle.kms_acls.specs.declared.lists.OpAcl.{OpAcl}
use Rattle.kms_acls.specs.Lists.{Lists, acl_meaning, all_of_key, list_of, list_of_key, lists_of_key, members_meaning, named_in, users_of}
use Rattle.kms_acls.specs.Agreement.{AreListsOf}
use Rattle.kms_acls.specs.Verdict.{blacklist, default_list, given_if, is_of_key, key_all_list, key_list, same_op, service_list, users_of_group, whitelist}
use Rattle.kms_acls.proofs.FirstLemmas.{added, any_more, any_stays, list_more, map_given, stays}

pub nothing : (lists : Lists) → lists.services ≡ [] → lists.blacklists ≡ [] → lists.defaults ≡ [] → lists.whitelists ≡ [] → ((k : List ℕ) → lists_of_key k lists.keys ≡ None) → ((g : List ℕ) → users_of g lists.groups ≡ None) → AreListsOf lists []
nothing lists services blacklists defaults whitelists keys groups = record {
  services = λ o. ap (λ l. option_map members_meaning (list_of o l)) services;
  blacklists = λ o. ap (λ l. option_map members_meaning (list_of o l)) blacklists;
  defaults = λ o. ap (λ l. option_map members_meaning (list_of o l)) defaults;
  whitelists = λ o. ap (λ l. option_map members_meaning (list_of o l)) whitelists;
  has_lines = λ k. ap is_some (keys k);
  key = λ k o. ap (λ l. option_map members_meaning (option_and_then (λ lists. list_of o lists.by_op) l)) (keys k);
  key_all = λ k. ap (λ l. option_map members_meaning (option_and_then (λ lists. lists.all) l)) (keys k);
  groups = λ g. ap (option_map named_in) (groups g);
}

pub service_added : (old : Lists) (new : List OpAcl) (lines : List PropLine) (p : AclOp) (acl : Acl) (members : Members) → new ≡ old.services ++ record { op = p; members = members } ∷ [] → members_meaning members ≡ acl_meaning acl → AreListsOf old lines → AreListsOf (record old { services = new }) (lines ++ line.Service p acl ∷ [])
service_added old new lines p acl members is same s = record {
  services = λ o. added members_meaning acl_meaning (service_list o) lines (line.Service p acl) (list_of o old.services) (list_of o new) (given_if (same_op p o) members) (ap (list_of o) is ∙ list_more o old.services (record { op = p; members = members })) (s.services o) (map_given members_meaning acl_meaning (same_op p o) members acl same);
  blacklists = λ o. stays members_meaning acl_meaning (blacklist o) lines (line.Service p acl) (list_of o old.blacklists) (list_of o old.blacklists) refl refl (s.blacklists o);
  defaults = λ o. stays members_meaning acl_meaning (default_list o) lines (line.Service p acl) (list_of o old.defaults) (list_of o old.defaults) refl refl (s.defaults o);
  whitelists = λ o. stays members_meaning acl_meaning (whitelist o) lines (line.Service p acl) (list_of o old.whitelists) (list_of o old.whitelists) refl refl (s.whitelists o);
  has_lines = λ k. s.has_lines k ∙ sym (any_stays (is_of_key k) lines (line.Service p acl) refl);
  key = λ k o. stays members_meaning acl_meaning (key_list k o) lines (line.Service p acl) (list_of_key k o old.keys) (list_of_key k o old.keys) refl refl (s.key k o);
  key_all = λ k. stays members_meaning acl_meaning (key_all_list k) lines (line.Service p acl) (all_of_key k old.keys) (all_of_key k old.keys) refl refl (s.key_all k);
  groups = λ g. stays named_in named_in (users_of_group g) lines (line.Service p acl) (users_of g old.groups) (users_of g old.groups) refl refl (s.groups g);
}

pub blacklist_added : (old : Lists) (new : List OpAcl) (lines : List PropLine) (p : AclOp) (acl : Acl) (members : Members) → new ≡ old.blacklists ++ record { op = p; members = members } ∷ [] → members_meaning members ≡ acl_meaning acl → AreListsOf old lines → AreListsOf (record old { blacklists = new }) (lines ++ line.Blacklist p acl ∷ [])
blacklist_added old new lines p acl members is same s = record {
  services = λ o. stays members_meaning acl_meaning (service_list o) lines (line.Blacklist p acl) (list_of o old.services) (list_of o old.services) refl refl (s.services o);
  blacklists = λ o. added members_meaning acl_meaning (blacklist o) lines (line.Blacklist p acl) (list_of o old.blacklists) (list_of o new) (given_if (same_op p o) members) (ap (list_of o) is ∙ list_more o old.blacklists (record { op = p; members = members })) (s.blacklists o) (map_given members_meaning acl_meaning (same_op p o) members acl same);
  defaults = λ o. stays members_meaning acl_meaning (default_list o) lines (line.Blacklist p acl) (list_of o old.defaults) (list_of o old.defaults) refl refl (s.defaults o);
  whitelists = λ o. stays members_meaning acl_meaning (whitelist o) lines (line.Blacklist p acl) (list_of o old.whitelists) (list_of o old.whitelists) refl refl (s.whitelists o);
  has_lines = λ k. s.has_lines k ∙ sym (any_stays (is_of_key k) lines (line.Blacklist p acl) refl);
  key = λ k o. stays members_meaning acl_meaning (key_list k o) lines (line.Blacklist p acl) (list_of_key k o old.keys) (list_of_key k o old.keys) refl refl (s.key k o);
  key_all = λ k. stays members_meaning acl_meaning (key_all_list k) lines (line.Blacklist p acl) (all_of_key k old.keys) (all_of_key k old.keys) refl refl (s.key_all k);
  groups = λ g. stays named_in named_in (users_of_group g) lines (line.Blacklist p acl) (users_of g old.groups) (users_of g old.groups) refl refl (s.groups g);
}

pub default_added : (old : Lists) (new : List OpAcl) (lines : List PropLine) (p : AclOp) (acl : Acl) (members : Members) → new ≡ old.defaults ++ record { op = p; members = members } ∷ [] → members_meaning members ≡ acl_meaning acl → AreListsOf old lines → AreListsOf (record old { defaults = new }) (lines ++ line.Default p acl ∷ [])
default_added old new lines p acl members is same s = record {
  services = λ o. stays members_meaning acl_meaning (service_list o) lines (line.Default p acl) (list_of o old.services) (list_of o old.services) refl refl (s.services o);
  blacklists = λ o. stays members_meaning acl_meaning (blacklist o) lines (line.Default p acl) (list_of o old.blacklists) (list_of o old.blacklists) refl refl (s.blacklists o);
  defaults = λ o. added members_meaning acl_meaning (default_list o) lines (line.Default p acl) (list_of o old.defaults) (list_of o new) (given_if (same_op p o) members) (ap (list_of o) is ∙ list_more o old.defaults (record { op = p; members = members })) (s.defaults o) (map_given members_meaning acl_meaning (same_op p o) members acl same);
  whitelists = λ o. stays members_meaning acl_meaning (whitelist o) lines (line.Default p acl) (list_of o old.whitelists) (list_of o old.whitelists) refl refl (s.whitelists o);
  has_lines = λ k. s.has_lines k ∙ sym (any_stays (is_of_key k) lines (line.Default p acl) refl);
  key = λ k o. stays members_meaning acl_meaning (key_list k o) lines (line.Default p acl) (list_of_key k o old.keys) (list_of_key k o old.keys) refl refl (s.key k o);
  key_all = λ k. stays members_meaning acl_meaning (key_all_list k) lines (line.Default p acl) (all_of_key k old.keys) (all_of_key k old.keys) refl refl (s.key_all k);
  groups = λ g. stays named_in named_in (users_of_group g) lines (line.Default p acl) (users_of g old.groups) (users_of g old.groups) refl refl (s.groups g);
}

pub whitelist_added : (old : Lists) (new : List OpAcl) (lines : List PropLine) (p : AclOp) (acl : Acl) (members : Members) → new ≡ old.whitelists ++ record { op = p; members = members } ∷ [] → members_meaning members ≡ acl_meaning acl → AreListsOf old lines → AreListsOf (record old { whitelists = new }) (lines ++ line.Whitelist p acl ∷ [])
whitelist_added old new lines p acl members is same s = record {
  services = λ o. stays members_meaning acl_meaning (service_list o) lines (line.Whitelist p acl) (list_of o old.services) (list_of o old.services) refl refl (s.services o);
  blacklists = λ o. stays members_meaning acl_meaning (blacklist o) lines (line.Whitelist p acl) (list_of o old.blacklists) (list_of o old.blacklists) refl refl (s.blacklists o);
  defaults = λ o. stays members_meaning acl_meaning (default_list o) lines (line.Whitelist p acl) (list_of o old.defaults) (list_of o old.defaults) refl refl (s.defaults o);
  whitelists = λ o. added members_meaning acl_meaning (whitelist o) lines (line.Whitelist p acl) (list_of o old.whitelists) (list_of o new) (given_if (same_op p o) members) (ap (list_of o) is ∙ list_more o old.whitelists (record { op = p; members = members })) (s.whitelists o) (map_given members_meaning acl_meaning (same_op p o) members acl same);
  has_lines = λ k. s.has_lines k ∙ sym (any_stays (is_of_key k) lines (line.Whitelist p acl) refl);
  key = λ k o. stays members_meaning acl_meaning (key_list k o) lines (line.Whitelist p acl) (list_of_key k o old.keys) (list_of_key k o old.keys) refl refl (s.key k o);
  key_all = λ k. stays members_meaning acl_meaning (key_all_list k) lines (line.Whitelist p acl) (all_of_key k old.keys) (all_of_key k old.keys) refl refl (s.key_all k);
  groups = λ g. stays named_in named_in (users_of_group g) lines (line.Whitelist p acl) (users_of g old.groups) (users_of g old.groups) refl refl (s.groups g);
}

pub key_added : (old : Lists) (new : List (List ℕ × KeyLists)) (lines : List PropLine) (key bytes : List ℕ) (p : AclOp) (acl : Acl) (members : Members) → bytes ≡ key → ((k : List ℕ) (o : AclOp) → list_of_key k o new ≡ option_or (list_of_key k o old.keys) (given_if (bytes_eq k bytes && same_op p o) members)) → ((k : List ℕ) → all_of_key k new ≡ all_of_key k old.keys) → ((k : List ℕ) → is_some (lists_of_key k new) ≡ (is_some (lists_of_key k old.keys) || bytes_eq k bytes)) → members_meaning members ≡ acl_meaning acl → AreListsOf old lines → AreListsOf (record old { keys = new }) (lines ++ line.Key key p acl ∷ [])
key_added old new lines key bytes p acl members is by_op all has same s = record {
  services = λ o. stays members_meaning acl_meaning (service_list o) lines (line.Key key p acl) (list_of o old.services) (list_of o old.services) refl refl (s.services o);
  blacklists = λ o. stays members_meaning acl_meaning (blacklist o) lines (line.Key key p acl) (list_of o old.blacklists) (list_of o old.blacklists) refl refl (s.blacklists o);
  defaults = λ o. stays members_meaning acl_meaning (default_list o) lines (line.Key key p acl) (list_of o old.defaults) (list_of o old.defaults) refl refl (s.defaults o);
  whitelists = λ o. stays members_meaning acl_meaning (whitelist o) lines (line.Key key p acl) (list_of o old.whitelists) (list_of o old.whitelists) refl refl (s.whitelists o);
  has_lines = λ k. has k ∙ (λ i. s.has_lines k i || bytes_eq k (is i)) ∙ sym (any_more (is_of_key k) lines (line.Key key p acl));
  key = λ k o. added members_meaning acl_meaning (key_list k o) lines (line.Key key p acl) (list_of_key k o old.keys) (list_of_key k o new) (given_if (bytes_eq k key && same_op p o) members) (by_op k o ∙ ap (λ b. option_or (list_of_key k o old.keys) (given_if (bytes_eq k b && same_op p o) members)) is) (s.key k o) (map_given members_meaning acl_meaning (bytes_eq k key && same_op p o) members acl same);
  key_all = λ k. stays members_meaning acl_meaning (key_all_list k) lines (line.Key key p acl) (all_of_key k old.keys) (all_of_key k new) (all k) refl (s.key_all k);
  groups = λ g. stays named_in named_in (users_of_group g) lines (line.Key key p acl) (users_of g old.groups) (users_of g old.groups) refl refl (s.groups g);
}

pub key_all_added : (old : Lists) (new : List (List ℕ × KeyLists)) (lines : List PropLine) (key bytes : List ℕ) (acl : Acl) (members : Members) → bytes ≡ key → ((k : List ℕ) → all_of_key k new ≡ option_or (all_of_key k old.keys) (given_if (bytes_eq k bytes) members)) → ((k : List ℕ) (o : AclOp) → list_of_key k o new ≡ list_of_key k o old.keys) → ((k : List ℕ) → is_some (lists_of_key k new) ≡ (is_some (lists_of_key k old.keys) || bytes_eq k bytes)) → members_meaning members ≡ acl_meaning acl → AreListsOf old lines → AreListsOf (record old { keys = new }) (lines ++ line.KeyAll key acl ∷ [])
key_all_added old new lines key bytes acl members is all by_op has same s = record {
  services = λ o. stays members_meaning acl_meaning (service_list o) lines (line.KeyAll key acl) (list_of o old.services) (list_of o old.services) refl refl (s.services o);
  blacklists = λ o. stays members_meaning acl_meaning (blacklist o) lines (line.KeyAll key acl) (list_of o old.blacklists) (list_of o old.blacklists) refl refl (s.blacklists o);
  defaults = λ o. stays members_meaning acl_meaning (default_list o) lines (line.KeyAll key acl) (list_of o old.defaults) (list_of o old.defaults) refl refl (s.defaults o);
  whitelists = λ o. stays members_meaning acl_meaning (whitelist o) lines (line.KeyAll key acl) (list_of o old.whitelists) (list_of o old.whitelists) refl refl (s.whitelists o);
  has_lines = λ k. has k ∙ (λ i. s.has_lines k i || bytes_eq k (is i)) ∙ sym (any_more (is_of_key k) lines (line.KeyAll key acl));
  key = λ k o. stays members_meaning acl_meaning (key_list k o) lines (line.KeyAll key acl) (list_of_key k o old.keys) (list_of_key k o new) (by_op k o) refl (s.key k o);
  key_all = λ k. added members_meaning acl_meaning (key_all_list k) lines (line.KeyAll key acl) (all_of_key k old.keys) (all_of_key k new) (given_if (bytes_eq k key) members) (all k ∙ ap (λ b. option_or (all_of_key k old.keys) (given_if (bytes_eq k b) members)) is) (s.key_all k) (map_given members_meaning acl_meaning (bytes_eq k key) members acl same);
  groups = λ g. stays named_in named_in (users_of_group g) lines (line.KeyAll key acl) (users_of g old.groups) (users_of g old.groups) refl refl (s.groups g);
}

pub group_added : (old : Lists) (new : List (List ℕ × List (List ℕ))) (lines : List PropLine) (group bytes : List ℕ) (users set : List (List ℕ)) → bytes ≡ group → ((g : List ℕ) → users_of g new ≡ option_or (users_of g old.groups) (given_if (bytes_eq g bytes) set)) → ((name : List ℕ) → is_among name set ≡ is_among name users) → AreListsOf old lines → AreListsOf (record old { groups = new }) (lines ++ line.Group group users ∷ [])
group_added old new lines group bytes users set name_is is same s = record {
  services = λ o. stays members_meaning acl_meaning (service_list o) lines (line.Group group users) (list_of o old.services) (list_of o old.services) refl refl (s.services o);
  blacklists = λ o. stays members_meaning acl_meaning (blacklist o) lines (line.Group group users) (list_of o old.blacklists) (list_of o old.blacklists) refl refl (s.blacklists o);
  defaults = λ o. stays members_meaning acl_meaning (default_list o) lines (line.Group group users) (list_of o old.defaults) (list_of o old.defaults) refl refl (s.defaults o);
  whitelists = λ o. stays members_meaning acl_meaning (whitelist o) lines (line.Group group users) (list_of o old.whitelists) (list_of o old.whitelists) refl refl (s.whitelists o);
  has_lines = λ k. s.has_lines k ∙ sym (any_stays (is_of_key k) lines (line.Group group users) refl);
  key = λ k o. stays members_meaning acl_meaning (key_list k o) lines (line.Group group users) (list_of_key k o old.keys) (list_of_key k o old.keys) refl refl (s.key k o);
  key_all = λ k. stays members_meaning acl_meaning (key_all_list k) lines (line.Group group users) (all_of_key k old.keys) (all_of_key k old.keys) refl refl (s.key_all k);
  groups = λ g. added named_in named_in (users_of_group g) lines (line.Group group users) (users_of g old.groups) (users_of g new) (given_if (bytes_eq g group) set) (is g ∙ ap (λ b. option_or (users_of g old.groups) (given_if (bytes_eq g b) set)) name_is) (s.groups g) (map_given named_in named_in (bytes_eq g group) set users (λ i name. same name i));
}

pub queue_size_kept : (old : Lists) (lines : List PropLine) (size : ℕ) → AreListsOf old lines → AreListsOf old (lines ++ line.QueueSize size ∷ [])
queue_size_kept old lines size s = record {
  services = λ o. stays members_meaning acl_meaning (service_list o) lines (line.QueueSize size) (list_of o old.services) (list_of o old.services) refl refl (s.services o);
  blacklists = λ o. stays members_meaning acl_meaning (blacklist o) lines (line.QueueSize size) (list_of o old.blacklists) (list_of o old.blacklists) refl refl (s.blacklists o);
  defaults = λ o. stays members_meaning acl_meaning (default_list o) lines (line.QueueSize size) (list_of o old.defaults) (list_of o old.defaults) refl refl (s.defaults o);
  whitelists = λ o. stays members_meaning acl_meaning (whitelist o) lines (line.QueueSize size) (list_of o old.whitelists) (list_of o old.whitelists) refl refl (s.whitelists o);
  has_lines = λ k. s.has_lines k ∙ sym (any_stays (is_of_key k) lines (line.QueueSize size) refl);
  key = λ k o. stays members_meaning acl_meaning (key_list k o) lines (line.QueueSize size) (list_of_key k o old.keys) (list_of_key k o old.keys) refl refl (s.key k o);
  key_all = λ k. stays members_meaning acl_meaning (key_all_list k) lines (line.QueueSize size) (all_of_key k old.keys) (all_of_key k old.keys) refl refl (s.key_all k);
  groups = λ g. stays named_in named_in (users_of_group g) lines (line.QueueSize size) (users_of g old.groups) (users_of g old.groups) refl refl (s.groups g);
}

pub watermark_kept : (old : Lists) (lines : List PropLine) (size : ℕ) → AreListsOf old lines → AreListsOf old (lines ++ line.QueueWatermark size ∷ [])
watermark_kept old lines size s = record {
  services = λ o. stays members_meaning acl_meaning (service_list o) lines (line.QueueWatermark size) (list_of o old.services) (list_of o old.services) refl refl (s.services o);
  blacklists = λ o. stays members_meaning acl_meaning (blacklist o) lines (line.QueueWatermark size) (list_of o old.blacklists) (list_of o old.blacklists) refl refl (s.blacklists o);
  defaults = λ o. stays members_meaning acl_meaning (default_list o) lines (line.QueueWatermark size) (list_of o old.defaults) (list_of o old.defaults) refl refl (s.defaults o);
  whitelists = λ o. stays members_meaning acl_meaning (whitelist o) lines (line.QueueWatermark size) (list_of o old.whitelists) (list_of o old.whitelists) refl refl (s.whitelists o);
  has_lines = λ k. s.has_lines k ∙ sym (any_stays (is_of_key k) lines (line.QueueWatermark size) refl);
  key = λ k o. stays members_meaning acl_meaning (key_list k o) lines (line.QueueWatermark size) (list_of_key k o old.keys) (list_of_key k o old.keys) refl refl (s.key k o);
  key_all = λ k. stays members_meaning acl_meaning (key_all_list k) lines (line.QueueWatermark size) (all_of_key k old.keys) (all_of_key k old.keys) refl refl (s.key_all k);
  groups = λ g. stays named_in named_in (users_of_group g) lines (line.QueueWatermark size) (users_of g old.groups) (users_of g old.groups) refl refl (s.groups g);
}

pub batch_size_kept : (old : Lists) (lines : List PropLine) (size : ℕ) → AreListsOf old lines → AreListsOf old (lines ++ line.BatchSize size ∷ [])
batch_size_kept old lines size s = record {
  services = λ o. stays members_meaning acl_meaning (service_list o) lines (line.BatchSize size) (list_of o old.services) (list_of o old.services) refl refl (s.services o);
  blacklists = λ o. stays members_meaning acl_meaning (blacklist o) lines (line.BatchSize size) (list_of o old.blacklists) (list_of o old.blacklists) refl refl (s.blacklists o);
  defaults = λ o. stays members_meaning acl_meaning (default_list o) lines (line.BatchSize size) (list_of o old.defaults) (list_of o old.defaults) refl refl (s.defaults o);
  whitelists = λ o. stays members_meaning acl_meaning (whitelist o) lines (line.BatchSize size) (list_of o old.whitelists) (list_of o old.whitelists) refl refl (s.whitelists o);
  has_lines = λ k. s.has_lines k ∙ sym (any_stays (is_of_key k) lines (line.BatchSize size) refl);
  key = λ k o. stays members_meaning acl_meaning (key_list k o) lines (line.BatchSize size) (list_of_key k o old.keys) (list_of_key k o old.keys) refl refl (s.key k o);
  key_all = λ k. stays members_meaning acl_meaning (key_all_list k) lines (line.BatchSize size) (all_of_key k old.keys) (all_of_key k old.keys) refl refl (s.key_all k);
  groups = λ g. stays named_in named_in (users_of_group g) lines (line.BatchSize size) (users_of g old.groups) (users_of g old.groups) refl refl (s.groups g);
}

pub cache_size_kept : (old : Lists) (lines : List PropLine) (size : ℕ) → AreListsOf old lines → AreListsOf old (lines ++ line.CacheSize size ∷ [])
cache_size_kept old lines size s = record {
  services = λ o. stays members_meaning acl_meaning (service_list o) lines (line.CacheSize size) (list_of o old.services) (list_of o old.services) refl refl (s.services o);
  blacklists = λ o. stays members_meaning acl_meaning (blacklist o) lines (line.CacheSize size) (list_of o old.blacklists) (list_of o old.blacklists) refl refl (s.blacklists o);
  defaults = λ o. stays members_meaning acl_meaning (default_list o) lines (line.CacheSize size) (list_of o old.defaults) (list_of o old.defaults) refl refl (s.defaults o);
  whitelists = λ o. stays members_meaning acl_meaning (whitelist o) lines (line.CacheSize size) (list_of o old.whitelists) (list_of o old.whitelists) refl refl (s.whitelists o);
  has_lines = λ k. s.has_lines k ∙ sym (any_stays (is_of_key k) lines (line.CacheSize size) refl);
  key = λ k o. stays members_meaning acl_meaning (key_list k o) lines (line.CacheSize size) (list_of_key k o old.keys) (list_of_key k o old.keys) refl refl (s.key k o);
  key_all = λ k. stays members_meaning acl_meaning (key_all_list k) lines (line.CacheSize size) (all_of_key k old.keys) (all_of_key k old.keys) refl refl (s.key_all k);
  groups = λ g. stays named_in named_in (users_of_group g) lines (line.CacheSize size) (users_of g old.groups) (users_of g old.groups) refl refl (s.groups g);
}
