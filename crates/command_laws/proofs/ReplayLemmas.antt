-- A replay of good lines.
use Rattle.std.proofs.Common.{◌≡◌, ◌≢◌, ◌⊎◌, inl, inr, ℕ, List, [], ◌∷◌, ◌++◌, append-nil, length, refl, ap, sym, ◌∙◌, subst, Option, arith}
use Rattle.std.specs.List.{AllByRecursion}
use Rattle.std.specs.Io.KnownBytes.{Appends}
use Rattle.hk_base.specs.Disk.{DiskState, Tells}
use Rattle.prop_text.specs.declared.props.Props.{Props}
use Rattle.replay_text.specs.Events.{IsBad}
use Rattle.world_run.specs.World.{first_world}
use Rattle.command_io.specs.declared.ends.ReplayEnd.{ReplayEnd}
use Rattle.command_io.specs.declared.ends.ReplayEnd.TheVariants as ended
use Rattle.hk_runs.specs.PlayedLines.{events_of_lines, lines_in, transcript}
use Rattle.command_io.specs.Ends.{last_line, status_of}
use Rattle.hk_runs.specs.Replay.{BadNext, BadProperties, HasRead, IsFront, PlaysOn, Played, Replay, SaysEnd, Unopened}
use Rattle.command_laws.specs.Complete.{PlaysAll, ReplayIsComplete}
use Rattle.command_laws.specs.Good.{FaultCounts, GoodDisk, GoodLines, GoodProperties, NoneRose}
use Rattle.command_laws.proofs.EndLemmas.{Unfailed, closed, memory_shown, never_fails, no_memory, not_later, not_read, not_stored, not_written, only_memory, said, same_props, unfailed, unread}

-- no line among good ones is a bad one
not_bad : (before more : List (List ℕ)) (bad : List ℕ) → AllByRecursion (λ line. ¬ IsBad line) (before ++ bad ∷ more) → IsBad bad → ⊥
not_bad [] more bad good is = good.0 is
not_bad (l ∷ ls) more bad good is = not_bad ls more bad good.1 is

never_bad : (left : Option (List ℕ)) (good : GoodLines left) (lines : List (List ℕ)) → BadNext good.all lines → ⊥
never_bad left good lines (inl (bad, more, is, is_bad, within)) = not_bad lines more bad (subst (AllByRecursion (λ line. ¬ IsBad line)) is good.none_bad) is_bad
never_bad left good lines (inr (starts, past)) = absurd (omega (arith, past.long, good.short))

module _ (old new : DiskState) (acls acls' : Option (List ℕ)) (words words' : ℕ → ℕ) (left left' written now : Option (List ℕ)) (before after : FaultCounts) (status : ℕ)
    (none : NoneRose before after) (old_is : before.store ≡ old.faults) (new_is : after.store ≡ new.faults) (properties : GoodProperties acls) (lines : GoodLines left) (disk : GoodDisk old) (no_spent : status ≢ 10) (ok : Unfailed status) where
  abbrev Done : Type 0
  Done = ((status ≡ 0) × PlaysAll properties.props old new words left lines.all written now) ⊎ (status ≡ 6)

  bad_properties : (same : Type 0) (how : ReplayEnd) → status ≡ status_of how → BadProperties same acls written now how → Done
  bad_properties same how is bad =
      let ends = said _ how 0 [] bad.text bad.says (not_written how status is ok) in
      inr (no_memory how status is (only_memory _ how ended.ReadFault ends (unread acls properties bad.fault bad.has_fault) (not_read how status is ok)))

  unopened : (same : Type 0) (how : ReplayEnd) → status ≡ status_of how → Unopened same old new written now how → Done
  unopened same how is u =
      let ends = said _ how 0 [] u.text u.says (not_written how status is ok) in
      inr (no_memory how status is (only_memory _ how ended.StoreFault ends (closed old new u.file u.fault u.not_opened disk) (not_stored how status is ok)))

  text_is : (how : ReplayEnd) (count : ℕ) (printed text : List ℕ) → SaysEnd ended.Done how count printed text → how ≡ ended.Done → text ≡ printed
  text_is how count printed text says is = by says.closes
    where
      by : ((how ≡ says.last) × (text ≡ says.body ++ last_line says.last count)) ⊎ ((how ≡ ended.WriteFault) × IsFront text (says.body ++ last_line says.last count)) → text ≡ printed
      by (inl shown) = shown.1 ∙ ap (λ (e : ReplayEnd). says.body ++ last_line e count) (sym shown.0 ∙ is) ∙ append-nil says.body ∙ says.is_printed
      by (inr failed) = let no : ended.Done ≡ ended.WriteFault = sym is ∙ failed.0 in cc

  plays_on : (props : Props) → props ≡ properties.props → (how : ReplayEnd) → status ≡ status_of how → PlaysOn props old new words words' left written now how → Done
  plays_on props same how is p = go p.stop p.played p.says (said p.stop how count printed p.text p.says (not_written how status is ok))
    where
      count : ℕ
      count = length (lines_in p.played_lines)

      printed : List ℕ
      printed = transcript (events_of_lines p.played_lines)

      go : (stop : ReplayEnd) → Played props old new words left stop p.played_lines → SaysEnd stop how count printed p.text → (how ≡ stop) ⊎ (how ≡ ended.NoMemory) → Done
      go stop played says (inr memory) = inr (no_memory how status is memory)
      go ended.Done played says (inl stopped) = inl (
        is ∙ ap status_of stopped,
        subst (λ (q : Props). PlaysAll q old new words left lines.all written now) same (record {
          played_lines = p.played_lines;
          played = played;
          whole = sym (played.stops lines.all lines.known).0;
          untroubled = never_fails props.lines (Tells old) (first_world props.sizes played.table played.names) words played.before new.faults (events_of_lines p.played_lines) played.runs played.ended
              (not_later old.faults new.faults played.before new.faults before.store after.store none.store old_is new_is played.began refl);
          wrote = subst (Appends written now) (text_is how count printed p.text says stopped) p.wrote;
        }),
      )
      go (ended.AclRefused number) played says (inl stopped) = absurd played.has_properties
      go (ended.AclRepeated number) played says (inl stopped) = absurd played.has_properties
      go (ended.AclUnknown number) played says (inl stopped) = absurd played.has_properties
      go ended.AclTooLong played says (inl stopped) = absurd played.has_properties
      go ended.BadLine played says (inl stopped) = absurd (never_bad left lines (lines_in p.played_lines) (played.stops lines.all lines.known))
      go (ended.DamagedKeys at) played says (inl stopped) = absurd (played.restart disk.tells)
      go (ended.DamagedNames at) played says (inl stopped) = absurd (played.restart disk.tells)
      go ended.StoreFault played says (inl stopped) = absurd (not_stored how status is ok stopped)
      go ended.NoMemory played says (inl stopped) = inr (no_memory how status is stopped)
      go ended.ReadFault played says (inl stopped) = absurd (not_read how status is ok stopped)
      go ended.WriteFault played says (inl stopped) = absurd (not_written how status is ok stopped)
      go ended.Spent played says (inl stopped) = absurd (no_spent (is ∙ ap status_of stopped))

  has_read : (same : Type 0) (how : ReplayEnd) → status ≡ status_of how → HasRead same old new acls acls' words words' left written now how → Done
  has_read same how is has = by has.replay
    where
      by : Unopened same old new written now how ⊎ PlaysOn has.props old new words words' left written now how → Done
      by (inl u) = unopened same how is u
      by (inr p) = plays_on has.props (same_props acls acls' has.props properties has.read) how is p

  replayed : (same_disk same : Type 0) (how : ReplayEnd) → status ≡ status_of how → Replay same_disk same old new acls acls' words words' left written now how → Done
  replayed same_disk same how is (inl bad) = bad_properties (same_disk × same) how is bad
  replayed same_disk same how is (inr has) = has_read same how is has

pub replay_is_complete : (same_disk same unasked : Type 0) (old new : DiskState) (acls acls' : Option (List ℕ)) (words words' : ℕ → ℕ) (left left' written now : Option (List ℕ)) (before after : FaultCounts) (status : ℕ)
    → ReplayIsComplete same_disk same unasked old new acls acls' words words' left left' written now before after status
replay_is_complete same_disk same unasked old new acls acls' words words' left left' written now before after status (inl (how, is, replays, at_end)) causes none old_is new_is properties lines disk no_spent =
    replayed old new acls acls' words words' left left' written now before after status none old_is new_is properties lines disk no_spent (unfailed before after status causes none) same_disk same how is replays
replay_is_complete same_disk same unasked old new acls acls' words words' left left' written now before after status (inr memory) causes none old_is new_is properties lines disk no_spent =
    inr (memory_shown _ written now status (unfailed before after status causes none) memory.1)
