-- The operation after a key.
use Rattle.std.proofs.Common.{◌≡◌, ℕ, List, refl, Some, None}
use Rattle.kms_calls.specs.declared.acl.AclOp.TheVariants as op
use Rattle.prop_text.specs.declared.setting.AclPlace.{AclPlace}
use Rattle.prop_text.specs.Names.{key_all, key_place, key_with}

pub first_key : (bytes : List ℕ) (p : AclPlace) → key_with op.Management bytes ≡ Some p → Some p ≡ key_place bytes
unfolding key_place
first_key bytes p a = rw a refl

pub second_key : (bytes : List ℕ) (p : AclPlace) → key_with op.Management bytes ≡ None → key_with op.GenerateEek bytes ≡ Some p → Some p ≡ key_place bytes
unfolding key_place
second_key bytes p a b = rw (a, b) refl

pub third_key : (bytes : List ℕ) (p : AclPlace) → key_with op.Management bytes ≡ None → key_with op.GenerateEek bytes ≡ None → key_with op.DecryptEek bytes ≡ Some p → Some p ≡ key_place bytes
unfolding key_place
third_key bytes p a b d = rw (a, b, d) refl

pub fourth_key : (bytes : List ℕ) (p : AclPlace) → key_with op.Management bytes ≡ None → key_with op.GenerateEek bytes ≡ None → key_with op.DecryptEek bytes ≡ None → key_with op.Read bytes ≡ Some p → Some p ≡ key_place bytes
unfolding key_place
fourth_key bytes p a b d e = rw (a, b, d, e) refl

pub last_key : (bytes : List ℕ) → key_with op.Management bytes ≡ None → key_with op.GenerateEek bytes ≡ None → key_with op.DecryptEek bytes ≡ None → key_with op.Read bytes ≡ None → key_all bytes ≡ key_place bytes
unfolding key_place
last_key bytes a b d e = rw (a, b, d, e) refl
