-- How the program ends if it cannot open its folder, its properties or its logs.
use Rattle.std.specs.Prelude.{ℕ}
use Rattle.program_start.specs.Starting.{EndsProgram}
use Rattle.hkms_tool.specs.declared.opening.Unopened.{Unopened}
use Rattle.hkms_tool.specs.declared.opening.Unopened.TheVariants.{Folder, Properties, Logs}

-- what could not be opened ends the program: with 7 if it is the properties, with 5 if it is the folder or the logs
abbrev pub EndsUnopened : Unopened → ℕ → Type 0
EndsUnopened (Folder error) status = EndsProgram 5 error status
EndsUnopened (Properties error) status = EndsProgram 7 error status
EndsUnopened (Logs error) status = EndsProgram 5 error status
