-- How a program ends if its command cannot run.
use Rattle.std.specs.Prelude.{◌≡◌, ◌≢◌, ◌⊎◌, ℕ}
use Rattle.std.specs.IoError.{error_kind}
use Rattle.std.specs.declared.io.Error.{Error}
use Rattle.std.specs.declared.io.ErrorKind.TheVariants.{OutOfMemory}

-- it ends with this status, or with 8 if its line cannot be written
abbrev pub EndsWith : ℕ → ℕ → Type 0
EndsWith own status = (status ≡ own) ⊎ (status ≡ 8)

-- An error ends the program: with 6 if an allocation failed, else with this status.
pub record EndsProgram (own : ℕ) (error : Error) (status : ℕ) : Type 0 where
  pub memory : error_kind error ≡ OutOfMemory → EndsWith 6 status
  pub other : error_kind error ≢ OutOfMemory → EndsWith own status
