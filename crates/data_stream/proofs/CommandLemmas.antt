-- A command over a disk.
use Rattle.std.proofs.Common.{◌≡◌, ◌≢◌, ◌⊎◌, inl, inr, ℕ, List, [], refl, sym, subst}
use Rattle.std.specs.Prelude.{Option}
use Rattle.hk_base.specs.Disk.{DiskState, Tells}
use Rattle.hk_events.specs.declared.event.Event.{Event}
use Rattle.hk_events.specs.declared.event.Line.{Line}
use Rattle.prop_text.specs.declared.props.Props.{Props}
use Rattle.command_io.proofs.UsageLemmas.{report_is_no_usage}
use Rattle.command_io.specs.Ends.{Reports, ended_by, ended_by_props}
use Rattle.command_io.specs.declared.ends.ReplayEnd.{ReplayEnd}
use Rattle.body_stream.specs.Vaults.{VaultState}
use Rattle.world_run.specs.Acknowledged.{LeavesBoth, RunBoth}
use Rattle.world_run.specs.Drives.{Standing}
use Rattle.world_run.specs.Keeps.{BeginsFirstWorld, LeftByStarts}
use Rattle.world_run.specs.Ledger.{Past}
use Rattle.world_run.specs.Linked.{StartsSound}
use Rattle.hk_runs.specs.Headline.{NothingHappened}
use Rattle.hk_runs.specs.Steps.{HasLists}
use Rattle.hk_runs.proofs.HeadlineLemmas.{Ends, Unmoved, unmoved_keeps, unopened_keeps}
use Rattle.file_orders.specs.Bodies.{Puts, ReadsRange}
use Rattle.file_orders.specs.Events.{Leading}
use Rattle.file_orders.specs.declared.ends.FsEnd.{FsEnd}
use Rattle.file_orders.proofs.FollowLemmas.{puts_so, reads_so}
use Rattle.data_stream.specs.Commands.{PutKept, PutOnDisk, PutUnder, PutsFile, ReadKept, ReadOnDisk, ReadUnder, ReadsFile}
use Rattle.data_stream.specs.Runs.{AddsEvent, LeadsAt, Worked}
use Rattle.data_stream.proofs.EndLemmas.{close_is_no_usage}
use Rattle.data_stream.proofs.RunLemmas.{Opened, WorksAs, adds_on, begins_as, worked_keeps, worked_so}
use Rattle.data_stream.proofs.StoreLemmas.{put_stored, range_read}

-- ---- the view of events

-- each event is one in the view, as long as this holds
abbrev pub Shows : {X Y : Type 0} → (X → Y) → (X → Type 0) → Leading X → Leading Y → Type 0
Shows {X} view Holds leads others = (a b : X) (e : Event) (answer : Line) → Holds a → leads a e answer b → others (view a) e answer (view b) × Holds b

-- a place that shows as this one
pub record IsSeen {X Y : Type 0} (view : X → Y) (Holds : X → Type 0) (x : X) (y : Y) : Type 0 where
  pub is : view x ≡ y
  pub holds : Holds x

module _ {X Y : Type 0} (view : X → Y) (Holds : X → Type 0) (leads : Leading X) (others : Leading Y) (shows : Shows view Holds leads others) where
  pub follow : (a b : X) (y : Y) (e : Event) (answer : Line) → IsSeen view Holds a y → leads a e answer b → (z : Y) × (others y e answer z × IsSeen view Holds b z)
  follow a b y e answer seen led =
      let s = shows a b e answer seen.holds led in
      (view b, (subst (λ (x : Y). others x e answer (view b)) seen.is s.0, record { is = refl; holds = s.1 }))

  pub puts_seen : (user path : List ℕ) (a b : X) (how : FsEnd) (left left' : Option (List ℕ)) (old new : VaultState) → Holds a → Puts leads user path a how b left left' old new → Puts others user path (view a) how (view b) left left' old new
  puts_seen user path a b how left left' old new holds p =
      let f = puts_so leads others (IsSeen view Holds) follow user path a b (view a) how left left' old new (record { is = refl; holds = holds }) p in
      subst (λ (y : Y). Puts others user path (view a) how y left left' old new) (sym f.follows.is) f.did

  pub reads_seen : (user path : List ℕ) (from count : ℕ) (a b : X) (how : FsEnd) (old new : VaultState) (written now : Option (List ℕ)) → Holds a → ReadsRange leads user path from count a how b old new written now
      → ReadsRange others user path from count (view a) how (view b) old new written now
  reads_seen user path from count a b how old new written now holds r =
      let f = reads_so leads others (IsSeen view Holds) follow user path from count a b (view a) how old new written now (record { is = refl; holds = holds }) r in
      subst (λ (y : Y). ReadsRange others user path from count (view a) how y old new written now) (sym f.follows.is) f.did

-- the line of the same end
pub reported : (end same : ReplayEnd) (written now : Option (List ℕ)) (status : ℕ) → end ≡ same → Reports end written now status → Reports same written now status
reported end same written now status is reports = subst (λ (e : ReplayEnd). Reports e written now status) is reports

-- ---- once both logs were opened

module _ {D W : Type 0} (state : D → DiskState) (to_come : W → ℕ → ℕ) (props : Props) (old : DiskState) (v v' : Standing D W) (b : BeginsFirstWorld props.sizes old (state v.disk) v.world) (moments : Tells old → LeavesBoth old (state v.disk) (LeftByStarts old))
    (run : RunBoth old (state v.disk)) (has : HasLists v.world props.lines) (user path : List ℕ) (now : ℕ) (how : FsEnd) (vault vault' : VaultState) (written body : Option (List ℕ)) where
  abbrev o : Opened
  o = record { disk = state v.disk; services = v.world; words = to_come v.words }

  pub put_ran : Puts (LeadsAt state to_come now) user path v how v' written body vault vault'
      → (worked : Worked props old (state v'.disk) (to_come v.words) (to_come v'.words)) × Puts (AddsEvent now) user path [] how worked.history written body vault vault'
  unfolding worked_so
  put_ran p =
      let f = puts_so (LeadsAt state to_come now) (AddsEvent now) (WorksAs state to_come props.lines o) (adds_on state to_come props.lines o now has) user path v v' [] how written body vault vault' (begins_as state to_come props.lines v) p in
      (worked_so state to_come props old v v' f.then b moments run f.follows, f.did)

  pub read_ran : (from count : ℕ) → ReadsRange (LeadsAt state to_come now) user path from count v how v' vault vault' written body
      → (worked : Worked props old (state v'.disk) (to_come v.words) (to_come v'.words)) × ReadsRange (AddsEvent now) user path from count [] how worked.history vault vault' written body
  unfolding worked_so
  read_ran from count r =
      let f = reads_so (LeadsAt state to_come now) (AddsEvent now) (WorksAs state to_come props.lines o) (adds_on state to_come props.lines o now has) user path from count v v' [] how vault vault' written body (begins_as state to_come props.lines v) r in
      (worked_so state to_come props old v v' f.then b moments run f.follows, f.did)

-- ---- what is kept

module _ (past : Past) (old new : DiskState) (tells : Tells old) (sound : StartsSound old past) (ends : Ends old new) where
  pub put_keeps : (same_disk same : Type 0) (user path : List ℕ) (acls acls' : Option (List ℕ)) (words words' : ℕ → ℕ) (left left' : Option (List ℕ)) (vault vault' : VaultState) (written now : Option (List ℕ)) (status : ℕ)
      → (same_disk → Unmoved old new) → PutsFile same_disk same user path old new acls acls' words words' left left' vault vault' written now status
      → NothingHappened same past old new ⊎ (PutKept past user path old new acls acls' words words' left left' vault vault' written now status)
  put_keeps same_disk same user path acls acls' words words' left left' vault vault' written now status idle (inl bad) = inl (unmoved_keeps past old new tells sound bad.untouched.1 (idle bad.untouched.0))
  put_keeps same_disk same user path acls acls' words words' left left' vault vault' written now status idle (inr with) = under with.put
    where
      on : PutOnDisk with.props user path old new words words' left left' vault vault' written now status → PutKept past user path old new acls acls' words words' left left' vault vault' written now status
      on put =
          let keeps = worked_keeps past with.props old new words words' tells sound ends put.worked in
          record {
            props = with.props;
            read = with.read;
            put = put;
            keeps = keeps;
            stored = put_stored past with.props old new words words' put.worked keeps put.moment user path tells put.how left left' vault vault' put.puts;
          }

      under : PutUnder with.props same user path old new words words' left left' vault vault' written now status
          → NothingHappened same past old new ⊎ (PutKept past user path old new acls acls' words words' left left' vault vault' written now status)
      under (inl not) = inl (unopened_keeps past old new tells sound not.untouched ends (not.not_opened.any_moment tells) not.not_opened.run.later)
      under (inr put) = inr (on put)

  pub read_keeps : (same_disk same : Type 0) (user path : List ℕ) (from count : ℕ) (acls acls' : Option (List ℕ)) (words words' : ℕ → ℕ) (vault vault' : VaultState) (written now : Option (List ℕ)) (status : ℕ)
      → (same_disk → Unmoved old new) → ReadsFile same_disk same user path from count old new acls acls' words words' vault vault' written now status
      → NothingHappened same past old new ⊎ (ReadKept past user path from count old new acls acls' words words' vault vault' written now status)
  read_keeps same_disk same user path from count acls acls' words words' vault vault' written now status idle (inl bad) = inl (unmoved_keeps past old new tells sound bad.untouched.1 (idle bad.untouched.0))
  read_keeps same_disk same user path from count acls acls' words words' vault vault' written now status idle (inr with) = under with.range
    where
      on : ReadOnDisk with.props user path from count old new words words' vault vault' written now status → ReadKept past user path from count old new acls acls' words words' vault vault' written now status
      on range =
          let keeps = worked_keeps past with.props old new words words' tells sound ends range.worked in
          record {
            props = with.props;
            read = with.read;
            range = range;
            keeps = keeps;
            wrote = range_read past with.props old new words words' range.worked keeps range.moment user path tells from count range.how vault vault' written range.body range.reads;
          }

      under : ReadUnder with.props same user path from count old new words words' vault vault' written now status
          → NothingHappened same past old new ⊎ (ReadKept past user path from count old new acls acls' words words' vault vault' written now status)
      under (inl not) = inl (unopened_keeps past old new tells sound not.untouched ends (not.not_opened.any_moment tells) not.not_opened.run.later)
      under (inr range) = inr (on range)

-- ---- the status 2 is of refused words alone

pub put_is_no_usage : (same_disk same : Type 0) (user path : List ℕ) (old new : DiskState) (acls acls' : Option (List ℕ)) (words words' : ℕ → ℕ) (left left' : Option (List ℕ)) (vault vault' : VaultState) (written now : Option (List ℕ)) (status : ℕ)
    → PutsFile same_disk same user path old new acls acls' words words' left left' vault vault' written now status → status ≢ 2
put_is_no_usage same_disk same user path old new acls acls' words words' left left' vault vault' written now status (inl bad) = report_is_no_usage (ended_by_props bad.fault) written now status bad.reports
put_is_no_usage same_disk same user path old new acls acls' words words' left left' vault vault' written now status (inr with) = go with.put
  where
    go : PutUnder with.props same user path old new words words' left left' vault vault' written now status → status ≢ 2
    go (inl not) = report_is_no_usage (ended_by not.file not.fault) written now status not.reports
    go (inr put) = close_is_no_usage put.how written now status put.closes

pub read_is_no_usage : (same_disk same : Type 0) (user path : List ℕ) (from count : ℕ) (old new : DiskState) (acls acls' : Option (List ℕ)) (words words' : ℕ → ℕ) (vault vault' : VaultState) (written now : Option (List ℕ)) (status : ℕ)
    → ReadsFile same_disk same user path from count old new acls acls' words words' vault vault' written now status → status ≢ 2
read_is_no_usage same_disk same user path from count old new acls acls' words words' vault vault' written now status (inl bad) = report_is_no_usage (ended_by_props bad.fault) written now status bad.reports
read_is_no_usage same_disk same user path from count old new acls acls' words words' vault vault' written now status (inr with) = go with.range
  where
    go : ReadUnder with.props same user path from count old new words words' vault vault' written now status → status ≢ 2
    go (inl not) = report_is_no_usage (ended_by not.file not.fault) written now status not.reports
    go (inr range) = close_is_no_usage range.how range.body now status range.closes
