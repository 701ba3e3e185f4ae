-- A command after the words of an option: clap makes of it and of the words after it what it makes of them without the option.
use Rattle.std.proofs.Common.{refl, codes, List, [], ◌∷◌, ◌++◌, ◌≡◌, ◌∙◌, ap, ap₂, sym, true, false}
use Rattle.std.specs.Prelude.{Option, None, Some, is_some}
use Rattle.std.specs.Str.{bytes_eq}
use Rattle.clap.specs.Faults.{check_fault, defaults_fault, entered_fault, settle_fault, walk_fault}
use Rattle.clap.specs.Kinds.{Kinds, or_else}
use Rattle.clap.specs.Simple.{App, argument_words, built, entered, names_of}
use Rattle.clap.specs.Walk.{Held, Row, Walk, finished, idle, nothing_held, settled, subcommand_met, walk, walk_from, walked}
use Rattle.clap.specs.Words.{Text, fault_of, first_of, matches_of, subcommand_of}
use Rattle.clap.proofs.FaultLemmas.{stopped_fault}
use Rattle.clap.proofs.WalkLemmas.{walk_stopped}
use Rattle.clap_lines.specs.Folders.{SaysInFolder, unless_faults}
use Rattle.clap_lines.specs.Orders.{order_at, values_refused}

-- these words of an option leave a walk as at its start, with this held, in which is this folder
pub record LeavesHeld (a : App) (front : List Text) (h : Held) (folder : Option Text) : Type 0 where
  pub fault : (tail : List Text) → walk_fault (built a).top (names_of (built a)) (walk_from nothing_held) (argument_words a (front ++ tail)) ≡ walk_fault (built a).top (names_of (built a)) (walk_from h) tail
  pub end : (tail : List Text) → walk (built a).top.rules (names_of (built a)) nothing_held (argument_words a (front ++ tail)) ≡ walk (built a).top.rules (names_of (built a)) h tail
  pub settles : settle_fault (built a).top.rules (built a).top.args_override_self h ≡ []
  pub defaults : defaults_fault (settled (built a).top.rules h).rows (built a).top.rules ≡ []
  pub checks : check_fault (built a).top (finished (built a).top.rules h) true ≡ []
  pub gives : first_of (codes "dir") (finished (built a).top.rules h) ≡ folder

-- a word that names a command
pub record NamesCommand (a : App) (command : Text) : Type 0 where
  pub met : subcommand_met (names_of (built a)) idle command ≡ Some command
  pub other : bytes_eq command (codes "help") ≡ false
  pub entered : (rest : List Text) → is_some (entered (built a) (Some (command, rest))) ≡ true

-- the faults of words whose walk has these faults and this end
abbrev fault_at : App → Kinds → Walk → Kinds
fault_at a kinds w =
    or_else kinds (or_else (entered_fault (built a) w.stopped) (or_else (settle_fault (built a).top.rules (built a).top.args_override_self w.held)
    (or_else (defaults_fault (settled (built a).top.rules w.held).rows (built a).top.rules) (check_fault (built a).top (finished (built a).top.rules w.held) (is_some (entered (built a) w.stopped))))))

module _ (a : App) (command : Text) (is : NamesCommand a command) (h : Held) (rest : List Text) where
  abbrev stopped : Walk
  stopped = record (walk_from h) { stopped = Some (command, rest) }

  no_walk_fault : walk_fault (built a).top (names_of (built a)) (walk_from h) (command ∷ rest) ≡ []
  unfolding walk_fault walked
  no_walk_fault = rw (is.met, is.other) (stopped_fault (built a).top (names_of (built a)) (walk_from h) (command, []) rest)

  stops : walk (built a).top.rules (names_of (built a)) h (command ∷ rest) ≡ stopped
  unfolding walked
  stops = rw is.met (sym (walk_stopped (built a).top.rules (names_of (built a)) (walk_from h) command [] rest))

  module _ (front : List Text) (folder : Option Text) (leaves : LeavesHeld a front h folder) where
    end_is : walk (built a).top.rules (names_of (built a)) nothing_held (argument_words a (front ++ command ∷ rest)) ≡ stopped
    end_is = leaves.end (command ∷ rest) ∙ stops

    -- what clap finds
    pub fault_after : fault_of a (front ++ command ∷ rest) ≡ or_else (entered_fault (built a) (Some (command, rest))) []
    fault_after = ap₂ (fault_at a) (leaves.fault (command ∷ rest) ∙ no_walk_fault) end_is ∙ rw (is.entered rest, leaves.settles, leaves.defaults, leaves.checks) refl

    pub entered_after : subcommand_of a (front ++ command ∷ rest) ≡ entered (built a) (Some (command, rest))
    entered_after = ap (λ (w : Walk). entered (built a) w.stopped) end_is

    pub folder_after : first_of (codes "dir") (matches_of a (front ++ command ∷ rest)) ≡ folder
    folder_after = ap (λ (w : Walk). first_of (codes "dir") (finished (built a).top.rules w.held)) end_is ∙ leaves.gives

no_folder : (kinds : Kinds) (folder : Option Text) → folder ≡ None → unless_faults kinds folder ≡ None
no_folder [] folder none = none
no_folder (k ∷ ks) folder none = refl

-- after the words of the option a command says what it says alone
pub after_folder : {O : Type 0} (a : App) (named : Text → List Row → Option O) → LeavesHeld a [] nothing_held None → (front : List Text) (h : Held) (folder : Text) → LeavesHeld a front h (Some folder)
    → (command : Text) → NamesCommand a command → (rest : List Text) → SaysInFolder a named folder (front ++ command ∷ rest) (command ∷ rest)
after_folder a named bare front h folder leaves command is rest =
    let words = front ++ command ∷ rest in
    let same : fault_of a words ≡ fault_of a (command ∷ rest) = fault_after a command is h rest front (Some folder) leaves ∙ sym (fault_after a command is nothing_held rest [] None bare) in
    let entering : subcommand_of a words ≡ subcommand_of a (command ∷ rest) =
    entered_after a command is h rest front (Some folder) leaves ∙ sym (entered_after a command is nothing_held rest [] None bare) in
    record {
      fault = ap₂ (λ (kinds : Kinds) (entered : Option (Text × List Row)). or_else kinds (values_refused named entered)) same entering;
      order = ap (order_at named) entering;
      given = λ none. ap₂ unless_faults (same ∙ none) (folder_after a command is h rest front (Some folder) leaves);
      none_alone = no_folder (fault_of a (command ∷ rest)) _ (folder_after a command is nothing_held rest [] None bare);
    }
