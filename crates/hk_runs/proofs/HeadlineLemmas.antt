-- What a run keeps of zone files and of verdicts follows from what holds of its lines that were played.
use Rattle.std.proofs.Common.{◌≡◌, inl, inr, ⊎_elim, ℕ, ◌<◌, ◌≤◌, List, [], ◌∷◌, ◌++◌, Option, refl, ap, sym, ◌∙◌, subst, append_assoc, append-nil, arith}
use Rattle.hk_base.specs.Disk.{DiskState, Image, IsImage, Tells}
use Rattle.hk_base.specs.declared.ended.Ended.{Ended}
use Rattle.hk_events.specs.declared.event.Event.{Event}
use Rattle.hk_events.specs.declared.event.Event.TheVariants as event
use Rattle.hk_events.specs.declared.event.Line.{Line}
use Rattle.key_rows.specs.Table.{Table}
use Rattle.name_store.specs.Table.{NameTable}
use Rattle.prop_text.specs.declared.lines.PropLine.{PropLine}
use Rattle.prop_text.specs.declared.props.Props.{Props}
use Rattle.world_run.specs.Acknowledged.{Acknowledged, LeavesBoth}
use Rattle.world_run.specs.Keeps.{LeftByStarts}
use Rattle.world_run.specs.Kept.{IsKnownLater}
use Rattle.world_run.specs.Ledger.{Draw, FilesAtSubmission, Hidden, Ledger, Past, drawn_before, hidden_after, past_of}
use Rattle.world_run.specs.Linked.{AreDrawsApart, SoundFiles, StartsSound, WordsApart}
use Rattle.world_run.specs.Promise.{In}
use Rattle.world_run.specs.World.{WorldState, first_world}
use Rattle.world_run.proofs.KeptLemmas.{image_kept}
use Rattle.world_run.proofs.PastLemmas.{deposit-past, draw-past, serve-past}
use Rattle.command_io.specs.declared.ends.ReplayEnd.{ReplayEnd}
use Rattle.hk_runs.specs.Headline.{ConnectionKeepsFiles, HasVerdict, Headline, IsPartOf, KeepsFiles, Lasts, NothingHappened, WorldKept, known_after}
use Rattle.hk_runs.specs.KeyFacts.{FactOfDisk, FactOfLog, FactOfTable, KeyFact}
use Rattle.hk_runs.specs.Logs.{HiddenBefore, NoRestart, OnDisk, SurvivesLast, SurvivesUntil, opened_logs}
use Rattle.hk_runs.specs.Pipe.{Converses, Pipe, PipeUnder}
use Rattle.hk_runs.specs.PlayedLines.{PlayedLine, events_of_lines, lines_in}
use Rattle.command_io.specs.Ends.{status_of}
use Rattle.hk_runs.specs.Replay.{CutAt, Played, Replay, ReplayUnder}
use Rattle.hk_runs.specs.Run.{EventRuns, FilesOpenThroughout, Happened, History, IsHidden, Runs, StayApart, SurvivesIn, behind, drawn_in, faults_after, hidden_in, world_after}
use Rattle.hk_runs.proofs.LastingLemmas.{last_holds, opening_holds, start_finds, until_holds, world_holds}
use Rattle.hk_runs.proofs.VerdictLemmas.{step_judged}

-- what is known after an event

stays : (h g : Hidden) → g.ledger ≡ h.ledger → g.starts ≡ h.starts → IsKnownLater (past_of h) (past_of g)
stays h g ledger starts = record { entries = []; ledger = ledger ∙ sym (append-nil h.ledger); begun = []; starts = starts ∙ sym (append-nil h.starts) }

module _ (w : WorldState) (words : ℕ → ℕ) (outcome : Line) (drawn : ℕ) (w' : WorldState) (h : Hidden) where
  stays_in : (e : Event) → (hidden_after w words e outcome drawn w' h).ledger ≡ h.ledger → (hidden_after w words e outcome drawn w' h).starts ≡ h.starts → IsKnownLater (past_of h) (past_of (hidden_after w words e outcome drawn w' h))
  stays_in e ledger starts = stays h (hidden_after w words e outcome drawn w' h) ledger starts

  known_step : (e : Event) → IsKnownLater (past_of h) (past_of (hidden_after w words e outcome drawn w' h))
  known_step (event.Kms user c) = stays_in (event.Kms user c) refl refl
  known_step event.Ticket = stays_in event.Ticket refl refl
  known_step (event.Deposit number) = stays_in (event.Deposit number) (ap (λ (p : Past). p.ledger) (deposit-past w words h number drawn w' outcome)) (ap (λ (p : Past). p.starts) (deposit-past w words h number drawn w' outcome))
  known_step event.RestartKms = stays_in event.RestartKms refl refl
  known_step event.RestartName = stays_in event.RestartName refl refl
  known_step (event.Mkdir user path) = stays_in (event.Mkdir user path) refl refl
  known_step (event.Delete user path recursive) = stays_in (event.Delete user path recursive) refl refl
  known_step (event.Rename user path to) = stays_in (event.Rename user path to) refl refl
  known_step (event.Info user path) = stays_in (event.Info user path) refl refl
  known_step (event.List user path) = stays_in (event.List user path) refl refl
  known_step (event.Allow user path) = stays_in (event.Allow user path) refl refl
  known_step (event.Disallow user path) = stays_in (event.Disallow user path) refl refl
  known_step (event.Snap user path name) = stays_in (event.Snap user path name) refl refl
  known_step (event.Unsnap user path name) = stays_in (event.Unsnap user path name) refl refl
  known_step (event.Cancel user path) = stays_in (event.Cancel user path) refl refl
  known_step (event.Status user path) = stays_in (event.Status user path) refl refl
  known_step (event.Zones user) = stays_in (event.Zones user) refl refl
  known_step (event.AskCreate user path) = stays_in (event.AskCreate user path) refl refl
  known_step (event.AskZone user path key) = stays_in (event.AskZone user path key) refl refl
  known_step (event.AskSubmit user path) = stays_in (event.AskSubmit user path) refl refl
  known_step (event.Draw number) = stays_in (event.Draw number) (ap (λ (p : Past). p.ledger) (draw-past w words h number drawn w' outcome)) (ap (λ (p : Past). p.starts) (draw-past w words h number drawn w' outcome))
  known_step (event.Finish number) = record { entries = _; ledger = refl; begun = _; starts = refl }
  known_step (event.Walk path) = stays_in (event.Walk path) refl refl
  known_step (event.Serve number) = stays_in (event.Serve number) (ap (λ (p : Past). p.ledger) (serve-past w words h number drawn w' outcome)) (ap (λ (p : Past). p.starts) (serve-past w words h number drawn w' outcome))
  known_step (event.Deliver number) = stays_in (event.Deliver number) refl refl
  known_step (event.GiveUp number) = stays_in (event.GiveUp number) refl refl

later_on : (a b c : Past) → IsKnownLater a b → IsKnownLater b c → IsKnownLater a c
later_on a b c p q = record {
  entries = p.entries ++ q.entries;
  ledger = q.ledger ∙ ap (λ (l : Ledger). l ++ q.entries) p.ledger ∙ append_assoc a.ledger p.entries q.entries;
  begun = p.begun ++ q.begun;
  starts = q.starts ∙ ap (λ (l : FilesAtSubmission). l ++ q.begun) p.starts ∙ append_assoc a.starts p.begun q.begun;
}

-- parts of a history

part_more : (x : Happened) (part history : History) → IsPartOf part history → IsPartOf part (x ∷ history)
part_more x part history is = (x ∷ is.0, ap (λ (l : History). x ∷ l) is.1)

pub whole : (history : History) → IsPartOf history history
whole history = ([], refl)

pub nothing : (history : History) → IsPartOf [] history
nothing history = (history, sym (append-nil history))

module _ (before : Hidden) (first : WorldState) (words : ℕ → ℕ) where
  grows_to : (part more : History) → IsKnownLater (past_of (hidden_in before first words part)) (past_of (hidden_in before first words (more ++ part)))
  grows_to part [] = stays (hidden_in before first words part) (hidden_in before first words part) refl refl
  grows_to part (x ∷ more) =
      later_on _ (past_of (hidden_in before first words (more ++ part))) _ (grows_to part more)
      (known_step (world_after first (more ++ part)) (behind (drawn_in (more ++ part)) words) x.reply x.drawn x.world (hidden_in before first words (more ++ part)) x.event)

  hidden_at : (part more : History) → FilesOpenThroughout before first words (more ++ part) → IsHidden (world_after first part) (hidden_in before first words part)
  hidden_at [] [] opens = opens
  hidden_at (x ∷ part) [] opens = opens.0
  hidden_at part (x ∷ more) opens = hidden_at part more opens.1

  apart_at : (part more : History) → StayApart before first words (more ++ part) → AreDrawsApart (hidden_in before first words part)
  apart_at [] [] apart = apart
  apart_at (x ∷ part) [] apart = apart.0
  apart_at part (x ∷ more) apart = apart_at part more apart.1

-- a part of a run
runs_part : (lines : List PropLine) (tells : Type 0) (first : WorldState) (words : ℕ → ℕ) (before : ℕ) (part more : History) → Runs lines tells first words before (more ++ part) → Runs lines tells first words before part
runs_part lines tells first words before part [] runs = runs
runs_part lines tells first words before part (x ∷ more) runs = runs_part lines tells first words before part more runs.1

-- an event of a run
runs_at : (lines : List PropLine) (tells : Type 0) (first : WorldState) (words : ℕ → ℕ) (before : ℕ) (h : Happened) (earlier more : History) → Runs lines tells first words before (more ++ h ∷ earlier)
    → EventRuns lines tells (world_after first earlier) (behind (drawn_in earlier) words) (faults_after before earlier) h
runs_at lines tells first words before h earlier [] runs = runs.0
runs_at lines tells first words before h earlier (x ∷ more) runs = runs_at lines tells first words before h earlier more runs.1

judged_at : (lines : List PropLine) (tells : Type 0) (first : WorldState) (words : ℕ → ℕ) (before : ℕ) (history : History) → Runs lines tells first words before history → (h : Happened) (earlier : History) → IsPartOf (h ∷ earlier) history
    → HasVerdict lines (world_after first earlier) h.event h.reply
judged_at lines tells first words before history runs h earlier part =
    step_judged lines (world_after first earlier) (behind (drawn_in earlier) words) h.now _ tells h.reply h.drawn h.logged h.world h.event
    (runs_at lines tells first words before h earlier part.0 (subst (Runs lines tells first words before) part.1 runs)).step.step

-- worlds and images

world_kept : (w : WorldState) (h : Hidden) → IsHidden w h → WorldKept (past_of h) w
world_kept w h is kept_keys kept_names = record { files_open = is.files_open kept_keys kept_names; one_file = one }
  where
    one : (i j : ℕ) (d f : Draw) → In (i, d) h.ledger → In (j, f) h.ledger → d.place ≡ f.place → i ≡ j
    one i j d f p q same =
        is.linked.draws.ledger.one_file i j f (subst (λ (x : Draw). In (i, x) h.ledger) (is.linked.draws.draws.one_place d f (inl (i, p)) (inl (j, q)) same) p) q

-- files that a crash leaves are sound with what is known after some part of a history
abbrev SoundIn : Past → WorldState → (ℕ → ℕ) → History → Image → Type 0
SoundIn past first words history c = (part : History) × IsPartOf part history × SoundFiles (known_after past first words part) c

module _ (old : DiskState) (past : Past) (sound : StartsSound old past) (first : WorldState) (words : ℕ → ℕ) (done : Acknowledged) (c : Image) where
  before_is : HiddenBefore old (drawn_before past)
  before_is = record { past = past; sound = sound; is = refl }

  sound_more : (x : Happened) (history : History) → SoundIn past first words history c → SoundIn past first words (x ∷ history) c
  sound_more x history s = (s.0, part_more x s.0 history s.1, s.2)

  sound_in : (history : History) → SurvivesIn done (HiddenBefore old) first words history c → SoundIn past first words history c
  sound_in [] left = ([], whole [], left.1 (drawn_before past) before_is)
  sound_in (x ∷ earlier) (inl left) = (x ∷ earlier, whole (x ∷ earlier), left.1 (drawn_before past) before_is)
  sound_in (x ∷ earlier) (inr (inl left)) = (x ∷ earlier, whole (x ∷ earlier), left.1 (drawn_before past) before_is)
  sound_in (x ∷ earlier) (inr (inr left)) = sound_more x earlier (sound_in earlier left)

  sound_until : (Cut : Event → Type 0) (history : History) → SurvivesUntil Cut done (HiddenBefore old) first words history c → SoundIn past first words history c
  sound_until Cut history (inl left) = sound_in history left
  sound_until Cut history (inr left) = (history, whole history, left.1 (drawn_before past) before_is)

  sound_last : (Cut : Event → Type 0) (history : History) → SurvivesLast Cut done (HiddenBefore old) first words history c → SoundFiles (known_after past first words history) c
  sound_last Cut history (inl left) = left.1 (drawn_before past) before_is
  sound_last Cut history (inr left) = left.1 (drawn_before past) before_is

  sound_start : (history : History) → SoundFiles past c → SoundIn past first words history c
  sound_start history s = ([], nothing history, s)

-- events happened

-- what the disk tells of its first moment, and of its last
pub record Ends (old new : DiskState) : Type 0 where
  pub reads : Tells old → (file : ℕ) → file < 2 → old.leaves file (old.reads file)
  pub only : (c : Image) → old.left_since old.moment c → IsImage old c
  pub counts : (t : ℕ) (c : Image) → t ≤ new.moment → IsImage new c → new.left_since t c

-- what a run of events keeps of its disk and of zone files, where some restarts may have been cut short
pub record Kept (props : Props) (old new : DiskState) (words : ℕ → ℕ) (table : Table) (names : NameTable) (history : History) (Cut : Event → Type 0) : Type 0 where
  pub before : ℕ
  pub runs : Runs props.lines (Tells old) (first_world props.sizes table names) words before history
  pub on_disk : Tells old → OnDisk old new words props.sizes table names history Cut
  pub promise : Tells old → (h : Hidden) → HiddenBefore old h → FilesOpenThroughout h (first_world props.sizes table names) words history
  pub apart : Tells old → (h : Hidden) → HiddenBefore old h → WordsApart h → StayApart h (first_world props.sizes table names) words history

module _ (past : Past) (props : Props) (old new : DiskState) (words : ℕ → ℕ) (table : Table) (names : NameTable) (history : History) (Cut : Event → Type 0)
    (k : Kept props old new words table names history Cut) (tells : Tells old) (sound : StartsSound old past) (ends : Ends old new) where
  abbrev first : WorldState
  first = first_world props.sizes table names

  disk : OnDisk old new words props.sizes table names history Cut
  disk = k.on_disk tells

  abbrev done : Acknowledged
  done = opened_logs disk.commands table disk.ops names

  before : HiddenBefore old (drawn_before past)
  before = record { past = past; sound = sound; is = refl }

  -- a fact of the key log at the start is one of the table that the start found
  found : (fact : KeyFact) → FactOfDisk old fact → FactOfTable fact table
  found fact holds = start_finds old fact holds (ends.reads tells) disk.commands table disk.keys

  worlds : (part : History) → IsPartOf part history → WorldKept (known_after past first words part) (world_after first part)
  worlds part is =
      world_kept (world_after first part) (hidden_in (drawn_before past) first words part)
      (hidden_at (drawn_before past) first words part is.0 (subst (FilesOpenThroughout (drawn_before past) first words) is.1 (k.promise tells (drawn_before past) before)))

  sound_since : (c : Image) → new.left_since old.moment c → SoundIn past first words history c
  sound_since c since = ⊎_elim
      (λ at_start. sound_start old past sound first words done c history (sound c (ends.only c at_start)))
      (λ now. ⊎_elim (λ (opening : LeftByStarts old c). sound_start old past sound first words done c history (opening.sound past sound)) (λ run. sound_until old past sound first words done c Cut history run) now)
      (disk.moments.before old.moment c (omega arith) since)

  lasts_since : (fact : KeyFact) → FactOfDisk old fact → (c : Image) → new.left_since old.moment c → FactOfLog fact (c 0)
  lasts_since fact holds c since = ⊎_elim
      (λ at_start. holds c (ends.only c at_start))
      (λ now. ⊎_elim (λ (opening : LeftByStarts old c). opening_holds old fact holds (ends.reads tells) c opening)
      (λ run. until_holds props.lines (Tells old) tells props.sizes table disk.commands (old.reads 0) disk.keys fact (found fact holds) first refl words k.before Cut done (HiddenBefore old) history c k.runs run) now)
      (disk.moments.before old.moment c (omega arith) since)

  lasts : (fact : KeyFact) → FactOfDisk old fact → Lasts old new first history fact
  lasts fact holds = record {
    worlds = λ part is.
        world_holds props.lines (Tells old) tells props.sizes table disk.commands (old.reads 0) disk.keys fact (found fact holds) first refl words k.before part
        (runs_part props.lines (Tells old) first words k.before part is.0 (subst (Runs props.lines (Tells old) first words k.before) is.1 k.runs));
    on_disk = record {
      images = lasts_since fact holds;
      last = λ c is. last_holds props.lines (Tells old) tells props.sizes table disk.commands (old.reads 0) disk.keys fact (found fact holds) first refl words k.before Cut done (HiddenBefore old) history c k.runs (disk.last c is);
    };
  }

  pub headline_of : Headline past props.lines old new words first history
  headline_of = record {
    worlds = worlds;
    images = λ c since. let s = sound_since c since in (s.0, s.1, image_kept (known_after past first words s.0) c s.2);
    verdicts = judged_at props.lines (Tells old) first words k.before history k.runs;
    again = λ c is. sound_last old past sound first words done c Cut history (disk.last c is);
    lasts = lasts;
    grows = λ part later is within. subst (λ (l : History). IsKnownLater (known_after past first words part) (known_after past first words l)) (sym is.1) (grows_to (drawn_before past) first words part is.0);
    apart = λ apart part is. apart_at (drawn_before past) first words part is.0 (subst (StayApart (drawn_before past) first words) is.1 (k.apart tells (drawn_before past) before apart));
  }

-- lines that were played, and a connection that was served

played_kept : {props : Props} {old new : DiskState} {words : ℕ → ℕ} {left : Option (List ℕ)} {stop : ReplayEnd} {lines : List PlayedLine} → (p : Played props old new words left stop lines)
    → Kept props old new words p.table p.names (events_of_lines lines) (CutAt stop left (lines_in lines))
played_kept p = record { before = p.before; runs = p.runs; on_disk = p.on_disk; promise = p.promise; apart = p.apart }

served_kept : {props : Props} {old new : DiskState} {words words' : ℕ → ℕ} {left left' written now : Option (List ℕ)} {how : Ended} → (s : Converses props old new words words' left left' written now how)
    → Kept props old new words s.table s.names s.history NoRestart
served_kept s = record { before = s.before; runs = s.runs; on_disk = s.on_disk; promise = s.promise; apart = s.apart }

-- a replay or a connection as a whole

-- nothing was done to the disk
pub record Unmoved (old new : DiskState) : Type 0 where
  pub since : (c : Image) → new.left_since old.moment c → IsImage old c
  pub images : (c : Image) → IsImage new c → IsImage old c

pub unmoved : {X : Type 0} (state : X → DiskState) (d e : X) → ((c : Image) → (state d).left_since (state d).moment c → IsImage (state d) c) → e ≡ d → Unmoved (state d) (state e)
unmoved state d e only same = record {
  since = λ c since. only c (subst (λ x. (state x).left_since (state d).moment c) same since);
  images = λ c is. subst (λ x. IsImage (state x) c) same is;
}

module _ (past : Past) (old new : DiskState) (tells : Tells old) (sound : StartsSound old past) where
  -- nothing was done
  pub unmoved_keeps : {same : Type 0} → same → Unmoved old new → NothingHappened same past old new
  unmoved_keeps untouched u = record { untouched = untouched; images = λ c since. image_kept past c (sound c (u.since c since)); again = λ c is. sound c (u.images c is); lasts = λ fact holds. record { images = λ c since. holds c (u.since c since); last = λ c is. holds c (u.images c is) } }

  -- a log could not be opened
  pub unopened_keeps : {same : Type 0} → same → Ends old new → LeavesBoth old new (LeftByStarts old) → old.moment ≤ new.moment → NothingHappened same past old new
  unopened_keeps untouched ends moments later = record {
    untouched = untouched;
    images = λ c since. image_kept past c (sound_of c since);
    again = λ c is. sound_of c (ends.counts old.moment c later is);
    lasts = λ fact holds. record { images = fact_of fact holds; last = λ c is. fact_of fact holds c (ends.counts old.moment c later is) };
  }
    where
      fact_of : (fact : KeyFact) → FactOfDisk old fact → (c : Image) → new.left_since old.moment c → FactOfLog fact (c 0)
      fact_of fact holds c since = ⊎_elim (λ at_start. holds c (ends.only c at_start)) (λ (opening : LeftByStarts old c). opening_holds old fact holds (ends.reads tells) c opening) (moments.before old.moment c (omega arith) since)

      sound_of : (c : Image) → new.left_since old.moment c → SoundFiles past c
      sound_of c since = ⊎_elim (λ at_start. sound c (ends.only c at_start)) (λ (opening : LeftByStarts old c). opening.sound past sound) (moments.before old.moment c (omega arith) since)

  pub replay_keeps : (same_disk same : Type 0) (acls acls' : Option (List ℕ)) (words words' : ℕ → ℕ) (left written now : Option (List ℕ)) (how : ReplayEnd) (status : ℕ) → Ends old new → status ≡ status_of how
      → (same_disk → Unmoved old new) → Replay same_disk same old new acls acls' words words' left written now how → KeepsFiles same past old new acls acls' words words' left written now status
  replay_keeps same_disk same acls acls' words words' left written now how status ends is idle (inl bad) = inl (unmoved_keeps bad.untouched.1 (idle bad.untouched.0))
  replay_keeps same_disk same acls acls' words words' left written now how status ends is idle (inr read) = under read.replay
    where
      under : ReplayUnder read.props same old new words words' left written now how → KeepsFiles same past old new acls acls' words words' left written now status
      under (inl not) = inl (unopened_keeps not.untouched ends (not.not_opened.any_moment tells) not.not_opened.run.later)
      under (inr on) = inr (record {
        props = read.props;
        read = read.read;
        how = how;
        status_is = is;
        run = on;
        keeps = headline_of past read.props old new words on.played.table on.played.names (events_of_lines on.played_lines) (CutAt on.stop left (lines_in on.played_lines)) (played_kept on.played) tells sound ends;
      })

  pub connection_keeps : (same_disk same kept : Type 0) (acls acls' : Option (List ℕ)) (words words' : ℕ → ℕ) (left left' written now : Option (List ℕ)) (status : ℕ) → Ends old new
      → (same_disk → Unmoved old new) → (same → kept) → Pipe same_disk same old new acls acls' words words' left left' written now status → ConnectionKeepsFiles kept past old new acls acls' words words' left left' written now status
  connection_keeps same_disk same kept acls acls' words words' left left' written now status ends idle part (inl bad) = inl (unmoved_keeps (part bad.untouched.1) (idle bad.untouched.0))
  connection_keeps same_disk same kept acls acls' words words' left left' written now status ends idle part (inr read) = under read.pipe
    where
      under : PipeUnder read.props same old new words words' left left' written now status → ConnectionKeepsFiles kept past old new acls acls' words words' left left' written now status
      under (inl not) = inl (unopened_keeps (part not.untouched) ends (not.not_opened.any_moment tells) not.not_opened.run.later)
      under (inr on) = let s = on.converses in inr (record {
        props = read.props;
        read = read.read;
        how = on.how;
        status_is = on.status_is;
        connection = s;
        keeps = headline_of past read.props old new words s.table s.names s.history NoRestart (served_kept s) tells sound ends;
      })
