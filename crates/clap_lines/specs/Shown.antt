-- Help and version are told alone.
use Rattle.std.specs.Prelude.{◌≡◌, ◌≢◌, true, List, [], ◌∷◌, ⊤}
use Rattle.clap.specs.Simple.{App, built}
use Rattle.clap.specs.Words.{Text}
use Rattle.clap.specs.Kinds.{Kinds}
use Rattle.clap.specs.Faults.{fault_of}
use Rattle.clap.specs.declared.error.ErrorKind.TheVariants.{DisplayHelp, DisplayVersion}

-- none of the kinds is help or version
abbrev pub NotShown : Kinds → Type 0
NotShown [] = ⊤
NotShown (k ∷ ks) = (k ≢ DisplayHelp) × (k ≢ DisplayVersion) × NotShown ks

-- at most one kind, or none of them is help or version
abbrev pub IsOneKind : Kinds → Type 0
IsOneKind [] = ⊤
IsOneKind (k ∷ []) = ⊤
IsOneKind (k ∷ j ∷ ks) = NotShown (k ∷ j ∷ ks)

-- clap finds help or version in no words beside another fault, if there is no command `help`
abbrev pub IsToldAlone : Type 0
IsToldAlone = (a : App) (words : List Text) → (built a).top.disable_help_subcommand ≡ true → IsOneKind (fault_of a words)
