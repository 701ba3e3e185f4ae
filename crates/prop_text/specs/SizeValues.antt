-- Four sizes, as numbers.
use Rattle.std.specs.Prelude.{ℕ}

pub record SizeValues : Type 0 where
  pub queue : ℕ
  pub watermark : ℕ
  pub batch : ℕ
  pub cache : ℕ
