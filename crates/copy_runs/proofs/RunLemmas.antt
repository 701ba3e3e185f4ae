-- A zone that is copied over two disks is copied in a history of events that only read.
use Rattle.std.proofs.Common.{◌≡◌, ◌≢◌, ◌⊎◌, inl, inr, ℕ, ◌+◌, List, [], ◌∷◌, refl, ap, sym, ◌∙◌, subst, arith}
use Rattle.std.specs.Prelude.{Option, Result, Ok, Err}
use Rattle.std.specs.List.{AllByRecursion}
use Rattle.hk_base.specs.Disk.{DiskState, Tells}
use Rattle.hk_base.specs.Faults.{Rose}
use Rattle.body_stream.specs.Vaults.{VaultState}
use Rattle.file_orders.specs.declared.ends.FsEnd.{FsEnd}
use Rattle.name_store.specs.Table.{NameTable}
use Rattle.prop_text.specs.declared.lines.PropLine.{PropLine}
use Rattle.prop_text.specs.declared.props.Props.{Props}
use Rattle.command_io.proofs.UsageLemmas.{report_is_no_usage}
use Rattle.command_io.specs.Ends.{ended_by, ended_by_props}
use Rattle.world_run.specs.Acknowledged.{LeavesBoth, RunBoth}
use Rattle.world_run.specs.Drives.{Standing}
use Rattle.world_run.specs.Keeps.{BeginsFirstWorld, LeftByStarts}
use Rattle.world_run.specs.Ledger.{Past}
use Rattle.world_run.specs.Linked.{StartsSound}
use Rattle.world_run.specs.World.{WorldState}
use Rattle.world_events.specs.Events.{LeadsAt}
use Rattle.world_rows.specs.Rows.{IsReadEvent, table_of}
use Rattle.world_rows.proofs.ReadLemmas.{quiet}
use Rattle.row_copies.specs.Copies.{ChainOf, Done, Then}
use Rattle.row_copies.specs.declared.walk.Copied.{Copied}
use Rattle.raw_copy.specs.declared.backup.CopyFault.{CopyFault}
use Rattle.raw_copy.specs.declared.backup.CopyFault.TheVariants.{End, Start}
use Rattle.raw_copy.specs.Copies.{CopiesOver, IsCopyEnd, ReadsOnceIn}
use Rattle.raw_copy.specs.Refusals.{OverRefused, RefusedFor}
use Rattle.raw_copy.proofs.RefusalLemmas.{as_in, nothing_refused, over_followed}
use Rattle.hk_runs.specs.Headline.{NothingHappened}
use Rattle.hk_runs.specs.Run.{History, Runs, behind, drawn_in, faults_after, world_after}
use Rattle.hk_runs.specs.Steps.{HasLists}
use Rattle.hk_runs.proofs.HeadlineLemmas.{Ends, Unmoved, unmoved_keeps, unopened_keeps}
use Rattle.data_stream.specs.Runs.{AddsEvent, last_world, world_before}
use Rattle.data_stream.proofs.RunLemmas.{Opened, WorksAs, adds_on, begins_as, worked_keeps, worked_so}
use Rattle.copy_runs.proofs.EndLemmas.{ended_done, ended_is_no_usage}
use Rattle.copy_runs.specs.Commands.{ClosesCopy, CopiesByFile, CopiesFromWorld, CopiesOnDisks, CopiesUnder, CopyKept, CopyRunRefused, OnlyReadIn, ReadsSourceAt, table_in}

-- ---- the events

-- each event that was added only reads
history_reads : (now : ℕ) (y z : History) → ChainOf (ReadsOnceIn (AddsEvent now)) y z → AllByRecursion (ReadsSourceAt now) y → AllByRecursion (ReadsSourceAt now) z
history_reads now y z Done all = all
history_reads now y z (Then m n t (inl same)) all = subst (AllByRecursion (ReadsSourceAt now)) (sym same) (history_reads now y m t all)
history_reads now y z (Then m n t (inr (e, answer, only, adds))) all =
    subst (AllByRecursion (ReadsSourceAt now)) (sym adds.later_is) ((subst IsReadEvent (sym adds.event_is) only, adds.now_is), history_reads now y m t all)

none_more : (a b : ℕ) → a ≡ 0 → b ≡ 0 → a + b ≡ 0
none_more a b e f = omega (arith, e, f)

-- so none of them drew a word or changed the world
only_read : (lines : List PropLine) (tells : Type 0) (first : WorldState) (words : ℕ → ℕ) (before now : ℕ) (history : History) → Runs lines tells first words before history → AllByRecursion (ReadsSourceAt now) history → OnlyReadIn now first history
only_read lines tells first words before now [] runs all = record { events = tt; drawn = refl; same = refl }
only_read lines tells first words before now (h ∷ earlier) runs all =
    let rest = only_read lines tells first words before now earlier runs.1 all.1 in
    let q =
    quiet lines (world_after first earlier) (behind (drawn_in earlier) words) h.now h.event (Rose (faults_after before earlier) h.faults) tells h.reply h.drawn h.logged h.world runs.0.step.step all.0.0 in
    record { events = all; drawn = none_more (drawn_in earlier) h.drawn rest.drawn q.0; same = q.1 ∙ rest.same }

-- ---- once the logs of the first cluster were opened

over_at : (from to : List ℕ) (ended : Result Copied CopyFault) (vault vault' copies copies' : VaultState) (backup backup' : DiskState) (batch size : ℕ) (t s t' s' : NameTable) → batch ≡ size → t ≡ s → t' ≡ s'
    → CopiesOver batch from to ended t t' vault vault' copies copies' backup backup' → CopiesOver size from to ended s s' vault vault' copies copies' backup backup'
over_at from to ended vault vault' copies copies' backup backup' batch size t s t' s' d e f over =
    subst (λ (n : ℕ). CopiesOver n from to ended s s' vault vault' copies copies' backup backup') d
    (subst (λ (x : NameTable). CopiesOver batch from to ended s x vault vault' copies copies' backup backup') f
    (subst (λ (x : NameTable). CopiesOver batch from to ended x t' vault vault' copies copies' backup backup') e over))

module _ {D W : Type 0} (state : D → DiskState) (to_come : W → ℕ → ℕ) (props : Props) (old : DiskState) (v v' : Standing D W) (b : BeginsFirstWorld props.sizes old (state v.disk) v.world) (moments : Tells old → LeavesBoth old (state v.disk) (LeftByStarts old))
    (run : RunBoth old (state v.disk)) (has : HasLists v.world props.lines) where
  abbrev o : Opened
  o = record { disk = state v.disk; services = v.world; words = to_come v.words }

  module _ {E : Type 0} (disk : E → DiskState) (batch : ℕ) (size : batch ≡ props.sizes.batch) (from to : List ℕ) (backup backup' : E) (vault vault' copies copies' : VaultState) where
    -- a history of the events, and what refused the copy in it
    module _ (moment : ℕ) (read : ChainOf (ReadsOnceIn (LeadsAt state to_come moment)) v v') where
      abbrev Led : Result Copied CopyFault → History → Type 0
      Led ended z = CopyRunRefused (AddsEvent moment) disk batch from to ended (table_of v.world) vault copies [] z backup backup'

      history_of : (ended : Result Copied CopyFault) → CopyRunRefused (LeadsAt state to_come moment) disk batch from to ended (table_of v.world) vault copies v v' backup backup'
          → (z : History) × ChainOf (ReadsOnceIn (AddsEvent moment)) [] z × WorksAs state to_come props.lines o v' z × Led ended z
      history_of (Ok counts) refused =
          nothing_refused (LeadsAt state to_come moment) (AddsEvent moment) (WorksAs state to_come props.lines o) (adds_on state to_come props.lines o moment has) v v' read [] (begins_as state to_come props.lines v) (Led (Ok counts)) (λ z why is. absurd cc)
      history_of (Err (Start fault)) refused =
          nothing_refused (LeadsAt state to_come moment) (AddsEvent moment) (WorksAs state to_come props.lines o) (adds_on state to_come props.lines o moment has) v v' read [] (begins_as state to_come props.lines v) (Led (Err (Start fault))) (λ z why is. absurd cc)
      history_of (Err (End own)) refused =
          let f = over_followed (LeadsAt state to_come moment) (AddsEvent moment) (WorksAs state to_come props.lines o) (adds_on state to_come props.lines o moment has) v v' read [] (begins_as state to_come props.lines v)
          disk batch from to (table_of v.world) vault copies backup backup' own (refused own refl) in (
            f.0,
            f.1,
            f.2,
            λ why is.
                let same : own ≡ why = cc in
                subst (RefusedFor (OverRefused (AddsEvent moment) disk batch from to (table_of v.world) vault copies [] f.0 backup backup')) same f.3,
          )

    refused_at : (ended : Result Copied CopyFault) (moment : ℕ) (z : History) (t s : NameTable) → t ≡ s → CopyRunRefused (AddsEvent moment) disk batch from to ended t vault copies [] z backup backup'
        → CopyRunRefused (AddsEvent moment) disk props.sizes.batch from to ended s vault copies [] z backup backup'
    refused_at ended moment z t s e refused =
        subst (λ (n : ℕ). CopyRunRefused (AddsEvent moment) disk n from to ended s vault copies [] z backup backup') size
        (subst (λ (x : NameTable). CopyRunRefused (AddsEvent moment) disk batch from to ended x vault copies [] z backup backup') e refused)

    pub zone_ran : (ended : Result Copied CopyFault) (written now : Option (List ℕ)) (status : ℕ)
        → CopiesFromWorld state to_come disk v v' batch from to ended backup backup' vault vault' copies copies' → ClosesCopy ended written now status → ((why : FsEnd) → ended ≡ Err (End why) → IsCopyEnd why)
        → CopiesOnDisks disk props from to old (state v'.disk) backup backup' (to_come v.words) (to_come v'.words) vault vault' copies copies' written now status
    unfolding worked_so
    zone_ran ended written now status (moment, only, over, refused) closes own =
        let f = history_of moment (as_in state to_come moment v v' only.events) ended refused in
        let worked = worked_so state to_come props old v v' f.0 b moments run f.2 in
        let reads = only_read props.lines (Tells old) (world_before worked) (to_come v.words) worked.before moment f.0 worked.runs (history_reads moment [] f.0 f.1 tt) in
        record {
          worked = worked;
          moment = moment;
          reads = reads;
          ended = ended;
          copied = over_at from to ended vault vault' copies copies' (disk backup) (disk backup') batch props.sizes.batch (table_of v.world) (table_in (world_before worked)) (table_of v'.world) (table_in (last_world worked)) size
              (ap table_in b.first) (ap table_in (only.same ∙ b.first ∙ sym reads.same)) over;
          refused = refused_at ended moment f.0 (table_of v.world) (table_in (world_before worked)) (ap table_in b.first) f.3;
          closes = closes;
          whole = ended_done written now status ended own closes;
        }

-- ---- what is kept

module _ {E : Type 0} (disk : E → DiskState) (past : Past) (old new : DiskState) (tells : Tells old) (sound : StartsSound old past) (ends : Ends old new) where
  pub zone_keeps : (same_disk same : Type 0) (from to : List ℕ) (backup backup' : E) (acls acls' : Option (List ℕ)) (words words' : ℕ → ℕ) (vault vault' copies copies' : VaultState) (written now : Option (List ℕ)) (status : ℕ)
      → (same_disk → Unmoved old new) → CopiesByFile disk same_disk same from to old new backup backup' acls acls' words words' vault vault' copies copies' written now status
      → NothingHappened same past old new ⊎ CopyKept disk past from to old new backup backup' acls acls' words words' vault vault' copies copies' written now status
  zone_keeps same_disk same from to backup backup' acls acls' words words' vault vault' copies copies' written now status idle (inl bad) = inl (unmoved_keeps past old new tells sound bad.untouched.1 (idle bad.untouched.0))
  zone_keeps same_disk same from to backup backup' acls acls' words words' vault vault' copies copies' written now status idle (inr with) = under with.copy
    where
      under : CopiesUnder disk with.props same from to old new backup backup' words words' vault vault' copies copies' written now status
          → NothingHappened same past old new ⊎ CopyKept disk past from to old new backup backup' acls acls' words words' vault vault' copies copies' written now status
      under (inl not) = inl (unopened_keeps past old new tells sound not.untouched ends (not.not_opened.any_moment tells) not.not_opened.run.later)
      under (inr copy) = inr (record { props = with.props; read = with.read; copy = copy; keeps = worked_keeps past with.props old new words words' tells sound ends copy.worked })

-- ---- the status 2 is of refused words alone

pub copy_is_no_usage : {E : Type 0} (disk : E → DiskState) (same_disk same : Type 0) (from to : List ℕ) (old new : DiskState) (backup backup' : E) (acls acls' : Option (List ℕ)) (words words' : ℕ → ℕ) (vault vault' copies copies' : VaultState) (written now : Option (List ℕ)) (status : ℕ)
    → CopiesByFile disk same_disk same from to old new backup backup' acls acls' words words' vault vault' copies copies' written now status → status ≢ 2
copy_is_no_usage disk same_disk same from to old new backup backup' acls acls' words words' vault vault' copies copies' written now status (inl bad) = report_is_no_usage (ended_by_props bad.fault) written now status bad.reports
copy_is_no_usage disk same_disk same from to old new backup backup' acls acls' words words' vault vault' copies copies' written now status (inr with) = go with.copy
  where
    go : CopiesUnder disk with.props same from to old new backup backup' words words' vault vault' copies copies' written now status → status ≢ 2
    go (inl not) = report_is_no_usage (ended_by not.file not.fault) written now status not.reports
    go (inr copy) = ended_is_no_usage copy.ended written now status copy.closes
