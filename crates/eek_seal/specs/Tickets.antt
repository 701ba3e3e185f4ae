-- Data encryption keys that are sealed in advance.
use Rattle.std.specs.Prelude.{◌≡◌, ℕ, List, length}
use Rattle.hk_base.specs.declared.names.Dek.{Dek}
use Rattle.hk_base.specs.declared.names.Iv.{Iv}
use Rattle.hk_base.specs.declared.names.VersionName.{VersionName}
use Rattle.eek_seal.specs.Seal.{seal}

-- a data encryption key and its sealed bytes, for the queue of the key with this birth in this opening
pub record SealedKey : Type 0 where
  pub opening : ℕ
  pub birth : ℕ
  pub version : VersionName
  pub iv : Iv
  pub dek : Dek
  pub sealed : Dek

-- some material of the same length seals the data encryption key to the bytes
pub record IsSealed (iv : List ℕ) (dek sealed : List ℕ) : Type 0 where
  pub material : List ℕ
  pub long : length material ≡ length dek
  pub is : sealed ≡ seal material iv dek
