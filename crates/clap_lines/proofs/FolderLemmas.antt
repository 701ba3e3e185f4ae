-- The folder that the words of a program give, as clap's parse of them says.
use Rattle.std.proofs.Common.{refl, codes, List, [], ◌∷◌, ◌≡◌, ◌≢◌, ◌∙◌, ap, sym, inl, inr, true}
use Rattle.std.specs.Prelude.{Option, None, Result, IfOk}
use Rattle.std.proofs.lemmas.Result.{IfOk-weaker}
use Rattle.clap.specs.Words.{App, HasKind, IsAmong, Kinds, Row, Text, fault_of, first_of, is_simple, is_simple_and_free, kind_of, matches_of}
use Rattle.clap.proofs.WalkLemmas.{both}
use Rattle.clap.specs.declared.error.Error.{Error}
use Rattle.clap.specs.declared.error.ErrorKind.{ErrorKind}
use Rattle.clap.specs.declared.error.ErrorKind.TheVariants.{OutOfMemory}
use Rattle.clap_lines.specs.Folders.{folder_of, unless_faults}
use Rattle.clap_lines.specs.declared.told.OrderFault.{OrderFault}

without_fault : (a : App) (words : List Text) (folder : Option Text) → fault_of a words ≡ [] → folder ≡ first_of (codes "dir") (matches_of a words) → folder ≡ folder_of a words
without_fault a words folder none is = is ∙ ap (λ (kinds : Kinds). unless_faults kinds (first_of (codes "dir") (matches_of a words))) (sym none)

with_fault : (kinds : Kinds) (kind : ErrorKind) (folder : Option Text) → IsAmong kind kinds → None ≡ unless_faults kinds folder
with_fault [] kind folder among = absurd among
with_fault (k ∷ ks) kind folder among = refl

module _ (r : Result (Option Text) OrderFault) (a : App) (words : List Text) where
  -- matches give the folder
  pub folder_of_matches : (rows : List Row) → (is_simple_and_free a ≡ true → fault_of a words ≡ []) → (is_simple a ≡ true → rows ≡ matches_of a words)
      → IfOk r (λ folder. folder ≡ first_of (codes "dir") rows) → is_simple_and_free a ≡ true → IfOk r (λ folder. folder ≡ folder_of a words)
  folder_of_matches rows none found read free =
      IfOk-weaker r _ _ (λ folder is. without_fault a words folder (none free) (is ∙ ap (first_of (codes "dir")) (found (both _ _ free).0))) read

  -- an error gives none
  pub folder_of_error : (error : Error) → (is_simple_and_free a ≡ true → HasKind (fault_of a words) error) → IfOk r (λ folder. (folder ≡ None) × (kind_of error ≢ OutOfMemory))
      → is_simple_and_free a ≡ true → IfOk r (λ folder. folder ≡ folder_of a words)
  folder_of_error error kinds read free =
      IfOk-weaker r _ _
      (λ folder is. elim (kinds free) [
        | inl memory ↦ absurd (is.1 memory)
        | inr among ↦ is.0 ∙ with_fault (fault_of a words) (kind_of error) (first_of (codes "dir") (matches_of a words)) among
      ])
      read
