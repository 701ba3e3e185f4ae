-- What clap makes of the words of `--dir`, and of a command after them.
use Rattle.std.proofs.Common.{refl, codes, List, [], ◌∷◌, ◌++◌, ◌≡◌, ap, inl, inr, sym, subst}
use Rattle.std.specs.Prelude.{None, Some, fold}
use Rattle.clap.specs.Simple.{built, names_of}
use Rattle.clap.specs.Walk.{Held, Walk, finished, nothing_held, walk_from, walked}
use Rattle.clap.specs.Words.{Text}
use Rattle.clap.proofs.OnLiterals.{clap_on_literals}
use Rattle.clap.specs.declared.error.ErrorKind.TheVariants.{ArgumentConflict, UnknownArgument}
use Rattle.clap_lines.specs.Folders.{SaysInFolder, SpellsFolder}
use Rattle.clap_lines.proofs.AfterFolderLemmas.{LeavesHeld, NamesCommand, after_folder}
use Rattle.clap_lines.specs.Orders.{IsMistake}
use Rattle.clap_lines.proofs.OrderLemmas.{refused_by_clap}
use Rattle.clap_lines.proofs.ValueLemmas.{IsWord, plain_word}
use Rattle.command_line.specs.Line as line
use Rattle.command_line.specs.Orders.{IsCommand, line_fault, order_named}

pub nothing_before : LeavesHeld line.hkms [] nothing_held None
unfolding clap_on_literals
nothing_before = record { fault = λ tail. refl; end = λ tail. refl; settles = refl; defaults = refl; checks = refl; gives = refl }

-- the folder waits to be used
abbrev pending : Text → Held
pending folder = record nothing_held { pending = Some (codes "dir", folder ∷ []) }

-- the walk after both words
both_walked : (folder : Text) → IsWord folder
    → walked (built line.hkms).top.rules (names_of (built line.hkms)) (walked (built line.hkms).top.rules (names_of (built line.hkms)) (walk_from nothing_held) (codes "--dir")) folder ≡ walk_from (pending folder)
unfolding clap_on_literals
both_walked folder w = rw (w.no_dashes, w.no_long, w.no_short) refl

apart : (folder : Text) → IsWord folder → LeavesHeld line.hkms (codes "--dir" ∷ folder ∷ []) (pending folder) (Some folder)
unfolding clap_on_literals
apart folder w = record {
  fault = λ tail. rw (w.no_dashes, w.no_long, w.no_short) refl;
  end = λ tail. ap (λ (v : Walk). fold (walked (built line.hkms).top.rules (names_of (built line.hkms))) v tail) (both_walked folder w);
  settles = refl;
  defaults = refl;
  checks = refl;
  gives = refl;
}

-- the folder is used
abbrev used : Text → Held
used folder = record nothing_held { rows = finished (built line.hkms).top.rules (pending folder) }

joined : (folder : Text) → LeavesHeld line.hkms ((codes "--dir" ++ 61 ∷ folder) ∷ []) (used folder) (Some folder)
unfolding clap_on_literals
joined folder = record { fault = λ tail. refl; end = λ tail. refl; settles = refl; defaults = refl; checks = refl; gives = refl }

pub replay : NamesCommand line.hkms (codes "replay")
unfolding clap_on_literals
replay = record { met = refl; other = refl; entered = λ rest. refl }

pub pipe : NamesCommand line.hkms (codes "pipe")
unfolding clap_on_literals
pipe = record { met = refl; other = refl; entered = λ rest. refl }

pub serve : NamesCommand line.hkms (codes "serve")
unfolding clap_on_literals
serve = record { met = refl; other = refl; entered = λ rest. refl }

pub load : NamesCommand line.hkms (codes "load")
unfolding clap_on_literals
load = record { met = refl; other = refl; entered = λ rest. refl }

pub check : NamesCommand line.hkms (codes "check")
unfolding clap_on_literals
check = record { met = refl; other = refl; entered = λ rest. refl }

names_command : (command : Text) → IsCommand command → NamesCommand line.hkms command
names_command command (inl is) = subst (NamesCommand line.hkms) (sym is) replay
names_command command (inr (inl is)) = subst (NamesCommand line.hkms) (sym is) pipe
names_command command (inr (inr (inl is))) = subst (NamesCommand line.hkms) (sym is) serve
names_command command (inr (inr (inr (inl is)))) = subst (NamesCommand line.hkms) (sym is) load
names_command command (inr (inr (inr (inr is)))) = subst (NamesCommand line.hkms) (sym is) check

pub says_in_folder : (folder : Text) (front : List Text) (command : Text) (rest : List Text) → SpellsFolder folder front → IsCommand command
    → SaysInFolder line.hkms order_named folder (front ++ command ∷ rest) (command ∷ rest)
says_in_folder folder front command rest (inl (plain, is)) named =
    subst (λ (f : List Text). SaysInFolder line.hkms order_named folder (f ++ command ∷ rest) (command ∷ rest)) (sym is)
    (after_folder line.hkms order_named nothing_before _ (pending folder) folder (apart folder (plain_word folder plain)) command (names_command command named) rest)
says_in_folder folder front command rest (inr is) named =
    subst (λ (f : List Text). SaysInFolder line.hkms order_named folder (f ++ command ∷ rest) (command ∷ rest)) (sym is)
    (after_folder line.hkms order_named nothing_before _ (used folder) folder (joined folder) command (names_command command named) rest)

pub twice_is_refused : IsMistake (line_fault (codes "--dir" ∷ codes "a" ∷ codes "--dir" ∷ codes "b" ∷ codes "replay" ∷ []))
unfolding clap_on_literals
twice_is_refused = refused_by_clap line.hkms order_named (codes "--dir" ∷ codes "a" ∷ codes "--dir" ∷ codes "b" ∷ codes "replay" ∷ []) ArgumentConflict refl (λ e. cc) (λ e. cc)

pub late_is_refused : IsMistake (line_fault (codes "replay" ∷ codes "--dir" ∷ codes "a" ∷ []))
unfolding clap_on_literals
late_is_refused = refused_by_clap line.hkms order_named (codes "replay" ∷ codes "--dir" ∷ codes "a" ∷ []) UnknownArgument refl (λ e. cc) (λ e. cc)
