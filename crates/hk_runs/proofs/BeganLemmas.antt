-- A start, and a history after it.
use Rattle.std.proofs.Common.{◌≡◌, ◌⊎◌, inl, inr, ⊎_elim, ℕ, zero, suc, [], ◌∷◌, refl, subst, sym}
use Rattle.std.specs.Prelude.{IsErrOf}
use Rattle.std.specs.declared.result.Result.{Result}
use Rattle.hk_base.specs.Disk.{DiskState, Image, Tells}
use Rattle.hk_base.specs.Faults.{Rose}
use Rattle.frame_log.specs.declared.fault.StartFault.{StartFault}
use Rattle.frame_log.specs.declared.fault.StartFault.TheVariants as start
use Rattle.hk_events.specs.declared.event.Event.{Event}
use Rattle.prop_text.specs.SizeValues.{SizeValues}
use Rattle.world_run.specs.declared.fault.WorldFault.{WorldFault}
use Rattle.world_run.specs.Acknowledged.{Acknowledged, LeavesBoth, RunBoth}
use Rattle.world_run.specs.Keeps.{BeginsFirstWorld, LeftByStarts}
use Rattle.world_run.specs.Ledger.{Hidden}
use Rattle.world_run.specs.Linked.{AreDrawsApart, LinkedWorld, WordsApart}
use Rattle.world_run.specs.Starts.{FailsAt, OpensBoth}
use Rattle.world_run.specs.World.{RunningWorld, WorldState, first_world, world_of}
use Rattle.world_run.proofs.StartLemmas.{both-for, fails-at, fails-so}
use Rattle.command_io.specs.declared.ends.ReplayEnd.TheVariants as ended
use Rattle.command_io.specs.Ends.{ended_by}
use Rattle.hk_runs.specs.Logs.{HiddenBefore, LeftByStop, SurvivesLast, SurvivesUntil}
use Rattle.hk_runs.specs.Run.{FilesOpenThroughout, History, IsHidden, RestsAfter, StayApart, SurvivesIn}
use Rattle.hk_runs.proofs.LivedLemmas.{leaves_on, weaker}

-- what may be hidden before a run is hidden beside the first world, which is linked, and whose zone files open
first_hidden : (sizes : SizeValues) (old new : DiskState) (r : RunningWorld) → BeginsFirstWorld sizes old new r → Tells old → (h : Hidden) → HiddenBefore old h → IsHidden (world_of r) h
first_hidden sizes old new r b tells h before =
    subst (IsHidden (world_of r)) (sym before.is) (record { linked = b.linked tells before.past before.sound; files_open = b.files_open tells before.past before.sound })

-- fewer may have been hidden before

rests_weaker : (A B : Hidden → Type 0) → ((h : Hidden) → B h → A h) → (done : Acknowledged) (first : WorldState) (words : ℕ → ℕ) (history : History) (image : Image) → RestsAfter done A first words history image → RestsAfter done B first words history image
rests_weaker A B f done first words history image left = (left.0, λ h is. left.1 h (f h is))

stop_weaker : (A B : Hidden → Type 0) → ((h : Hidden) → B h → A h) → (Cut : Event → Type 0) (done : Acknowledged) (first : WorldState) (words : ℕ → ℕ) (history : History) (image : Image)
    → LeftByStop Cut done A first words history image → LeftByStop Cut done B first words history image
stop_weaker A B f Cut done first words history image left = (left.0, λ h is. left.1 h (f h is))

in_weaker : (A B : Hidden → Type 0) → ((h : Hidden) → B h → A h) → (done : Acknowledged) (first : WorldState) (words : ℕ → ℕ) (history : History) (image : Image) → SurvivesIn done A first words history image → SurvivesIn done B first words history image
in_weaker A B f done first words [] image left = rests_weaker A B f done first words [] image left
in_weaker A B f done first words (x ∷ earlier) image (inl left) = inl (rests_weaker A B f done first words (x ∷ earlier) image left)
in_weaker A B f done first words (x ∷ earlier) image (inr (inl left)) = inr (inl (left.0, λ h is. left.1 h (f h is)))
in_weaker A B f done first words (x ∷ earlier) image (inr (inr left)) = inr (inr (in_weaker A B f done first words earlier image left))

module _ (sizes : SizeValues) (old mid new : DiskState) (r : RunningWorld) (b : BeginsFirstWorld sizes old mid r) (tells : Tells old) (words : ℕ → ℕ) (h : History) (Cut : Event → Type 0) (done : Acknowledged) where
  linked : (x : Hidden) → HiddenBefore old x → LinkedWorld (world_of r) x
  linked x before = (first_hidden sizes old mid r b tells x before).linked

  until_kept : (image : Image) → SurvivesUntil Cut done (LinkedWorld (world_of r)) (world_of r) words h image → SurvivesUntil Cut done (HiddenBefore old) (first_world sizes b.table b.names) words h image
  until_kept image left = subst (λ (w : WorldState). SurvivesUntil Cut done (HiddenBefore old) w words h image) b.first (go left)
    where
      go : SurvivesUntil Cut done (LinkedWorld (world_of r)) (world_of r) words h image → SurvivesUntil Cut done (HiddenBefore old) (world_of r) words h image
      go (inl way) = inl (in_weaker (LinkedWorld (world_of r)) (HiddenBefore old) linked done (world_of r) words h image way)
      go (inr end) = inr (stop_weaker (LinkedWorld (world_of r)) (HiddenBefore old) linked Cut done (world_of r) words h image end)

  -- what the start and the history left of both files, if the start acknowledged this
  pub survives_kept : LeavesBoth old mid (LeftByStarts old) → RunBoth old mid → LeavesBoth mid new (SurvivesUntil Cut done (LinkedWorld (world_of r)) (world_of r) words h)
      → LeavesBoth old new (λ image. LeftByStarts old image ⊎ SurvivesUntil Cut done (HiddenBefore old) (first_world sizes b.table b.names) words h image)
  survives_kept moments run survives = leaves_on run (weaker (λ image left. inl left) moments) (weaker (λ image left. inr (until_kept image left)) survives)

  -- and what is left in the end
  pub last_kept : (image : Image) → SurvivesLast Cut done (LinkedWorld (world_of r)) (world_of r) words h image → SurvivesLast Cut done (HiddenBefore old) (first_world sizes b.table b.names) words h image
  last_kept image left = subst (λ (w : WorldState). SurvivesLast Cut done (HiddenBefore old) w words h image) b.first (go left)
    where
      go : SurvivesLast Cut done (LinkedWorld (world_of r)) (world_of r) words h image → SurvivesLast Cut done (HiddenBefore old) (world_of r) words h image
      go (inl rest) = inl (rests_weaker (LinkedWorld (world_of r)) (HiddenBefore old) linked done (world_of r) words h image rest)
      go (inr end) = inr (stop_weaker (LinkedWorld (world_of r)) (HiddenBefore old) linked Cut done (world_of r) words h image end)

  -- the promise on zone files, with a ledger that the files at the start allow
  pub promise_kept : ((x : Hidden) → IsHidden (world_of r) x → FilesOpenThroughout x (world_of r) words h) → (x : Hidden) → HiddenBefore old x → FilesOpenThroughout x (first_world sizes b.table b.names) words h
  promise_kept opens x before = subst (λ (w : WorldState). FilesOpenThroughout x w words h) b.first (opens x (first_hidden sizes old mid r b tells x before))

  -- and its draws stay apart
  pub apart_kept : ((x : Hidden) → LinkedWorld (world_of r) x → AreDrawsApart x → StayApart x (world_of r) words h) → (x : Hidden) → HiddenBefore old x → WordsApart x → StayApart x (first_world sizes b.table b.names) words h
  apart_kept stay x before apart =
      subst (λ (w : WorldState). StayApart x w words h) b.first
      (stay x (linked x before) (subst AreDrawsApart (sym before.is) (b.draws_apart tells before.past before.sound (subst WordsApart before.is apart))))

-- why a start failed
pub not_opened : (old new : DiskState) (result : Result RunningWorld WorldFault) (why : WorldFault) → IsErrOf result why → OpensBoth old new (λ file fault. IsErrOf result (record { file = file; fault = fault }))
    → OpensBoth old new (FailsAt why.file why.fault)
not_opened old new result why is o = both-for (fails-so result why is) (fails-at result why is) o

-- it counted the fault of its disk
pub start_cause : (old new : DiskState) (file : ℕ) (fault : StartFault) → OpensBoth old new (FailsAt file fault) → fault ≡ start.StoreFault → Rose old.faults new.faults
start_cause old new file fault o is = ⊎_elim (λ first. o.keys.cause (first, is)) (λ second. o.names.cause (second, is)) (o.file file fault (refl, refl))

-- an end that only such a fault brings about
pub store_ended : (file : ℕ) (fault : StartFault) → ended_by file fault ≡ ended.StoreFault → fault ≡ start.StoreFault
store_ended zero (start.Damaged at) is = absurd (cc is)
store_ended (suc file) (start.Damaged at) is = absurd (cc is)
store_ended file start.StoreFault is = refl
store_ended file start.NoMemory is = absurd (cc is)
store_ended file start.Spent is = absurd (cc is)
