-- Versions of keys in replies.
use Rattle.std.specs.Prelude.{ℕ, List, Option}
use Rattle.hk_base.specs.Names.{Version}

-- a version with its material, or None if the material is hidden
pub record Shown : Type 0 where
  pub version : Version
  pub material : Option (List ℕ)
