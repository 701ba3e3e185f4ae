-- What a command works on.

-- the disk, the properties, the input, the output and the source of random words
pub record Environment (D A S K W : Type 0) : Type 0 where
  pub disk : D
  pub acls : A
  pub input : S
  pub out : K
  pub rand : W

abbrev pub environment : {D A S K W : Type 0} → D → A → S → K → W → Environment D A S K W
environment disk acls input out rand = record { disk = disk; acls = acls; input = input; out = out; rand = rand }
