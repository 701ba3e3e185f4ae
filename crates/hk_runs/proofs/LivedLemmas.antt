-- What a history of events keeps of both logs and of zone files.
use Rattle.std.proofs.Common.{◌≡◌, ◌≤◌, inl, inr, ℕ, ◌+◌, List, [], ◌∷◌, refl, ap, sym, ◌∙◌, subst, IsTrue, Bool, ⊎_elim, arith, append_assoc, append-nil}
use Rattle.hk_base.specs.Disk.{DiskState, Image, IsImage, Tells}
use Rattle.hk_base.specs.Faults.{Rose}
use Rattle.kms_acls.specs.Lists.{Lists}
use Rattle.kms_acls.specs.Agreement.{AreListsOf}
use Rattle.prop_text.specs.declared.lines.PropLine.{PropLine}
use Rattle.hk_events.specs.declared.event.Event.{Event}
use Rattle.hk_events.specs.declared.event.Line.{Line}
use Rattle.world_run.specs.Acknowledged.{Acknowledged, HoldsLogs, LeavesBoth, RunBoth, also, nothing_acknowledged}
use Rattle.world_run.specs.World.{RunningWorld, WorldState, world_of}
use Rattle.world_run.specs.Ledger.{Hidden, hidden_after, past_of}
use Rattle.world_run.specs.Keeps.{LinkedStep, RestsNow, Steps}
use Rattle.world_run.specs.Linked.{AreDrawsApart, LinkedWorld, SoundFiles}
use Rattle.world_run.specs.Own.{SurvivesAtRest, SurvivesEvent}
use Rattle.world_run.specs.Promise.{ZoneFilesOpen}
use Rattle.world_run.proofs.KeySteps.{known-world}
use Rattle.hk_runs.specs.Run.{FilesOpenThroughout, Happened, History, IsHidden, RestsAfter, Runs, StayApart, SurvivesIn, behind, drawn_in, faults_after, hidden_in, logged_in, world_after}
use Rattle.hk_runs.specs.Steps.{HasLists, SameLists, Untouched, View}

-- runs of calls on both files

pub tells_now : (old new : DiskState) → RunBoth old new → Tells old → Tells new
tells_now old new run telling = subst (λ b. IsTrue b) (sym run.tells) telling

pub run_on : (old mid new : DiskState) → RunBoth old mid → RunBoth mid new → RunBoth old new
run_on old mid new a b = record {
  tells = b.tells ∙ a.tells;
  faults = omega (arith, a.faults, b.faults);
  later = omega (arith, a.later, b.later);
}

-- no call was made
pub no_run : (d : DiskState) → RunBoth d d
no_run d = record { tells = refl; faults = omega arith; later = omega arith }

pub nothing_left : (d : DiskState) (P : Image → Type 0) → LeavesBoth d d P
nothing_left d P = record { before = λ t c le left. inl left }

pub weaker : {old new : DiskState} {P Q : Image → Type 0} → ((c : Image) → P c → Q c) → LeavesBoth old new P → LeavesBoth old new Q
weaker f moments = record { before = λ t c le left. ⊎_elim (λ past. inl past) (λ now. inr (f c now)) (moments.before t c le left) }

-- one run after another
pub leaves_on : {old mid new : DiskState} {P : Image → Type 0} → RunBoth old mid → LeavesBoth old mid P → LeavesBoth mid new P → LeavesBoth old new P
leaves_on {old} {mid} {new} {P} run a b = record {
  before = λ t c le left. ⊎_elim (λ past. a.before t c le past) (λ now. inr now) (b.before t c (omega (arith, le, run.later)) left);
}

-- acknowledged records

pub also_nothing : (a : Acknowledged) → also a nothing_acknowledged ≡ a
also_nothing a = λ i. record { keys = append-nil a.keys i; names = append-nil a.names i }

pub also_also : (a b c : Acknowledged) → also (also a b) c ≡ also a (also b c)
also_also a b c = λ i. record { keys = append_assoc a.keys b.keys c.keys i; names = append_assoc a.names b.names c.names i }

-- the lists of a world

pub lists_on : (r r' r'' : RunningWorld) → SameLists r r' → SameLists r' r'' → SameLists r r''
lists_on r r' r'' before now = now ∙ before

pub has_lists : (r r' : RunningWorld) (props : List PropLine) → SameLists r r' → HasLists r props → HasLists r' props
has_lists r r' props same has = subst (λ (l : Lists). AreListsOf l props) (sym same) has

-- the draws by the end of a history are apart
apart_last : (before : Hidden) (first : WorldState) (words : ℕ → ℕ) (history : History) → StayApart before first words history → AreDrawsApart (hidden_in before first words history)
apart_last before first words [] apart = apart
apart_last before first words (x ∷ earlier) apart = apart.0

-- From the first world, with these words to come, a history has led to another, under properties of these lines.
pub record Lived (props : List PropLine) (old new : DiskState) (first : RunningWorld) (words : ℕ → ℕ) (r : RunningWorld) (words' : ℕ → ℕ) (history : History) : Type 0 where
  pub runs : Runs props (Tells old) (world_of first) words old.faults history
  pub linked : Tells old → (h : Hidden) → LinkedWorld (world_of first) h → LinkedWorld (world_of r) (hidden_in h (world_of first) words history)
  pub files_open : Tells old → (h : Hidden) → IsHidden (world_of first) h → FilesOpenThroughout h (world_of first) words history
  pub draws_apart : Tells old → (h : Hidden) → LinkedWorld (world_of first) h → AreDrawsApart h → StayApart h (world_of first) words history
  pub stands : Tells old → (done : Acknowledged) → HoldsLogs old first done → HoldsLogs new r (also done (logged_in history))
  pub survives : Tells old → (done : Acknowledged) → HoldsLogs old first done → LeavesBoth old new (SurvivesIn done (LinkedWorld (world_of first)) (world_of first) words history)
  pub rests : RestsNow old first → RestsNow new r
  pub run : RunBoth old new
  pub world_is : world_of r ≡ world_after (world_of first) history
  pub lists : SameLists first r
  pub faults_are : new.faults ≡ faults_after old.faults history
  pub rest : (k : ℕ) → words' k ≡ behind (drawn_in history) words k

-- nothing happened yet
pub lived_nothing : (props : List PropLine) (d : DiskState) (r : RunningWorld) (words words' : ℕ → ℕ) → ((k : ℕ) → words' k ≡ words k) → Lived props d d r words r words' []
lived_nothing props d r words words' same = record {
  runs = tt;
  linked = λ telling h linked. linked;
  files_open = λ telling h hidden. hidden;
  draws_apart = λ telling h linked apart. apart;
  stands = λ telling done holds. subst (λ (a : Acknowledged). HoldsLogs d r a) (sym (also_nothing done)) holds;
  survives = λ telling done holds. nothing_left d (SurvivesIn done (LinkedWorld (world_of r)) (world_of r) words []);
  rests = λ now. now;
  run = no_run d;
  world_is = refl;
  lists = refl;
  faults_are = refl;
  rest = λ k. same k ∙ ap words (omega arith);
}

-- nothing was done
pub lived_untouched : (props : List PropLine) (old mid new : DiskState) (first : RunningWorld) (words : ℕ → ℕ) (v v' : View) (history : History) → Lived props old mid first words v.world v.words history → Untouched mid new v v'
    → Lived props old new first words v.world v.words history
lived_untouched props old mid new first words v v' history so u = record {
  runs = so.runs;
  linked = so.linked;
  files_open = so.files_open;
  draws_apart = so.draws_apart;
  stands = λ telling done holds. u.stands (also done (logged_in history)) (so.stands telling done holds);
  survives = λ telling done holds. leaves_on so.run (so.survives telling done holds) (weaker (λ image left. absurd left) u.survives);
  rests = λ now. u.rests (so.rests now);
  run = run_on old mid new so.run u.run;
  world_is = so.world_is;
  lists = so.lists;
  faults_are = u.faults_are ∙ so.faults_are;
  rest = so.rest;
}

-- files that are left in the end
pub rests_after : (props : List PropLine) (old new : DiskState) (first r : RunningWorld) (words words' : ℕ → ℕ) (history : History) → Lived props old new first words r words' history → Tells old → RestsNow old first
    → (done : Acknowledged) → HoldsLogs old first done → (image : Image) → IsImage new image → RestsAfter done (LinkedWorld (world_of first)) (world_of first) words history image
rests_after props old new first r words words' history so telling now done holds image is =
    let left = so.rests now (also done (logged_in history)) (so.stands telling done holds) image is in (
      subst (λ (w : WorldState). SurvivesAtRest w (also done (logged_in history)) image) so.world_is left.0,
      λ h linked. left.1 (hidden_in h (world_of first) words history) (so.linked telling h linked),
    )

-- one event more

-- what happened in an event over a disk
abbrev pub happened_in : {props : List PropLine} {old new : DiskState} {r r' : RunningWorld} {words words' : ℕ → ℕ} {now : ℕ} {e : Event} {answer : Line} → Steps props old new r words now e answer r' words' → Happened
happened_in {props} {old} {new} {r} {r'} {words} {words'} {now} {e} {answer} s =
    record { event = e; now = now; reply = answer; drawn = s.drawn; logged = s.logged; world = world_of r'; faults = new.faults }

-- a step is alike beside the same values
same_step : (props : List PropLine) (T U : Type 0) (w v : WorldState) (words others : ℕ → ℕ) (f g after now drawn : ℕ) (e : Event) (answer : Line) (logged : Acknowledged) (w' : WorldState)
    → T ≡ U → w ≡ v → words ≡ others → f ≡ g
    → LinkedStep props w words now e (Rose f after) T answer drawn logged w' → LinkedStep props v others now e (Rose g after) U answer drawn logged w'
same_step props T U w v words others f g after now drawn e answer logged w' t p q r step =
    subst (λ (X : Type 0). LinkedStep props v others now e (Rose g after) X answer drawn logged w') t
    (subst (λ (x : ℕ). LinkedStep props v others now e (Rose x after) T answer drawn logged w') r
    (subst (λ (x : ℕ → ℕ). LinkedStep props v x now e (Rose f after) T answer drawn logged w') q
    (subst (λ (x : WorldState). LinkedStep props x words now e (Rose f after) T answer drawn logged w') p step)))

pub lived_more : (props : List PropLine) (old mid new : DiskState) (first r r' : RunningWorld) (words words' words'' : ℕ → ℕ) (earlier : History) (now : ℕ) (e : Event) (reply : Line) → Lived props old mid first words r words' earlier
    → (s : Steps props mid new r words' now e reply r' words'') → Lived props old new first words r' words'' (happened_in s ∷ earlier)
lived_more props old mid new first r r' words words' words'' earlier now e reply so s = record {
  runs = (
    record {
      later = subst (λ (n : ℕ). n ≤ new.faults) so.faults_are s.run.faults;
      step = same_step props (Tells mid) (Tells old) (world_of r) there words' here mid.faults (faults_after old.faults earlier) new.faults now s.drawn e reply s.logged (world_of r')
          (ap (λ (t : Bool). IsTrue t) so.run.tells) so.world_is same_words so.faults_are s.step;
    },
    so.runs,
  );
  linked = λ telling h linked. linked_there telling h linked;
  files_open = λ telling h hidden. (
    record {
      linked = linked_there telling h hidden.linked;
      files_open = subst (λ (x : Hidden). ZoneFilesOpen (world_of r') x) (same_hidden (then h)) (s.step.files_open (known-world e (Tells mid) (tells_now old mid so.run telling)) (then h) (so.linked telling h hidden.linked));
    },
    so.files_open telling h hidden,
  );
  draws_apart = λ telling h linked apart. (
    subst AreDrawsApart (same_hidden (then h))
        (s.step.draws_apart (known-world e (Tells mid) (tells_now old mid so.run telling)) (then h) (so.linked telling h linked) (apart_last h one words earlier (so.draws_apart telling h linked apart)).words),
    so.draws_apart telling h linked apart,
  );
  stands = λ telling done holds. subst (λ (l : Acknowledged). HoldsLogs new r' l) (also_also done (logged_in earlier) s.logged)
      (s.stands (tells_now old mid so.run telling) (also done (logged_in earlier)) (so.stands telling done holds));
  survives = λ telling done holds. leaves_on so.run (weaker (λ image left. inr (inr left)) (so.survives telling done holds))
      (weaker (λ image left. inr (inl (same_left (also done (logged_in earlier)) image left.0, λ h linked. same_sound image (then h) (left.1 (then h) (so.linked telling h linked)))))
      (s.survives (tells_now old mid so.run telling) (also done (logged_in earlier)) (so.stands telling done holds)));
  rests = λ rests. s.rests;
  run = run_on old mid new so.run s.run;
  world_is = refl;
  lists = lists_on first r r' so.lists s.lists;
  faults_are = refl;
  rest = λ k. s.rest k ∙ so.rest (s.drawn + k) ∙ ap words (omega arith);
}
  where
    one : WorldState
    one = world_of first

    there : WorldState
    there = world_after one earlier

    here : ℕ → ℕ
    here = behind (drawn_in earlier) words

    same_words : words' ≡ here
    same_words = λ i k. so.rest k i

    -- what is hidden before the event
    then : Hidden → Hidden
    then h = hidden_in h one words earlier

    same_hidden : (h : Hidden) → hidden_after (world_of r) words' e reply s.drawn (world_of r') h ≡ hidden_after there here e reply s.drawn (world_of r') h
    same_hidden h = λ i. hidden_after (so.world_is i) (λ k. so.rest k i) e reply s.drawn (world_of r') h

    same_sound : (image : Image) (h : Hidden) → SoundFiles (past_of (hidden_after (world_of r) words' e reply s.drawn (world_of r') h)) image
        → SoundFiles (past_of (hidden_after there here e reply s.drawn (world_of r') h)) image
    same_sound image h left = subst (λ (x : Hidden). SoundFiles (past_of x) image) (same_hidden h) left

    same_left : (logs : Acknowledged) (image : Image) → SurvivesEvent (world_of r) words' now e reply (world_of r') logs image → SurvivesEvent there here now e reply (world_of r') logs image
    same_left logs image left =
        subst (λ (x : ℕ → ℕ). SurvivesEvent there x now e reply (world_of r') logs image) same_words
        (subst (λ (w : WorldState). SurvivesEvent w words' now e reply (world_of r') logs image) so.world_is left)

    linked_there : Tells old → (h : Hidden) → LinkedWorld one h → LinkedWorld (world_of r') (hidden_after there here e reply s.drawn (world_of r') (then h))
    linked_there telling h linked =
        subst (λ (x : Hidden). LinkedWorld (world_of r') x) (same_hidden (then h)) (s.step.linked (known-world e (Tells mid) (tells_now old mid so.run telling)) (then h) (so.linked telling h linked))
