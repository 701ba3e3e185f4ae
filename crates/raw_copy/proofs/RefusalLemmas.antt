-- Why a copy of a place was refused.
use Rattle.std.proofs.Common.{◌≡◌, ◌⊎◌, inl, inr, ℕ, List, [], Some, refl, sym, subst}
use Rattle.std.specs.Prelude.{Result, Ok, Err, IfErr, ⊤}
use Rattle.hk_base.specs.Disk.{DiskState}
use Rattle.hk_base.specs.declared.texts.Text.{Text}
use Rattle.body_stream.specs.Vaults.{VaultState}
use Rattle.copy_target.specs.Targets.{DirectoryRefused, FileAskRefused, FileRefused, LookRefused, NamesRefuse, PartsRefuse, RepliedTo, TargetRefuses, ZoneAskRefused, ZoneRefused as FinishZoneRefused}
use Rattle.file_orders.specs.Events.{Leading}
use Rattle.file_orders.proofs.FollowLemmas.{Follows}
use Rattle.file_orders.specs.declared.ends.FsEnd.{FsEnd}
use Rattle.file_orders.specs.declared.ends.FsEnd.TheVariants as end
use Rattle.hk_events.specs.declared.event.Event.TheVariants as event
use Rattle.hk_events.specs.declared.event.Line.TheVariants as line
use Rattle.inode_tree.specs.Rows.{Entry, row_at}
use Rattle.inode_tree.specs.declared.rows.Row.{Row}
use Rattle.kms_calls.specs.declared.calls.KmsCall.TheVariants as call
use Rattle.kms_calls.specs.declared.calls.KmsReply.{KmsReply}
use Rattle.name_calls.specs.declared.paths.NPath.{NPath}
use Rattle.name_calls.specs.declared.paths.PathFault.{PathFault}
use Rattle.name_calls.specs.declared.paths.PathFault.TheVariants as fault
use Rattle.name_calls.specs.declared.read_paths.ReadPath.{ReadPath}
use Rattle.name_core.specs.Calls.{superuser}
use Rattle.name_core.specs.State.{RunningNames}
use Rattle.name_store.specs.Table.{NameTable}
use Rattle.row_copies.specs.Clusters.{CopyState, EndsFor}
use Rattle.row_copies.specs.Copies.{ChainOf, Done, RuleRefuses, Then}
use Rattle.row_copies.proofs.CauseLemmas.{ends-so}
use Rattle.world_events.specs.Events.{LeadsAt, standing_of}
use Rattle.world_desk.specs.Worlds.{standing}
use Rattle.world_run.specs.World.{RunningWorld}
use Rattle.world_rows.specs.Rows.{CanRead, EventRefused, ReadsOn, ReadsOnce, RefusesTo, RepliesTo, place_rows, rows_seen, table_of}
use Rattle.world_rows.specs.declared.rows.WorldRows.{WorldRows}
use Rattle.world_run.specs.Drives.{Standing}
use Rattle.raw_copy.specs.Copies.{Copying, OnlyRead, ReadsOnceIn, copy_state, copying, state_at}
use Rattle.raw_copy.specs.Refusals.{AreNoTexts, CheckRefused, FromRefused, IntoRefused, IsNoZoneRow, KeyToldIn, NotRead, OverRefused, PlaceRefused, RefusedFor, RowsRefused, SeenRefused, StepRefused, ZoneRefused, end_of_path}
use Rattle.raw_copy.proofs.CopyLemmas.{ReadAll, read_all, steps_join, table_kept}

-- a cause that follows from the cause
pub refused_so : {T : Type 0} (result : Result T FsEnd) (refused refused' : FsEnd → Type 0) → ((why : FsEnd) → refused why → refused' why) → IfErr result (RefusedFor refused) → IfErr result (RefusedFor refused')
refused_so (Ok done) refused refused' so e = tt
refused_so (Err why) refused refused' so e = ends-so ⊤ ⊤ ⊤ ⊤ refused refused' why (λ h. h) (λ h. h) (so why) e

pub end_so : (refused refused' : FsEnd → Type 0) (why : FsEnd) → (refused why → refused' why) → RefusedFor refused why → RefusedFor refused' why
end_so refused refused' why so e = ends-so ⊤ ⊤ ⊤ ⊤ refused refused' why (λ h. h) (λ h. h) so e

-- ---- orders of the namesystem

module _ {E : Type 0} (disk : E → DiskState) (user : Text) (old new : E) (r r' : RunningNames) (why : FsEnd) (given given' : KmsReply → Type 0) (so : (reply : KmsReply) → given reply → given' reply) where
  order_so : (d d' : DiskState) (s s' : RunningNames) → NamesRefuse user given d d' s s' why → NamesRefuse user given' d d' s s' why
  order_so d d' s s' (LookRefused path refused) = LookRefused path refused
  order_so d d' s s' (DirectoryRefused path refused) = DirectoryRefused path refused
  order_so d d' s s' (ZoneAskRefused path key refused) = ZoneAskRefused path key refused
  order_so d d' s s' (FileAskRefused path refused) = FileAskRefused path refused
  order_so d d' s s' (FinishZoneRefused id reply told refused) = FinishZoneRefused id reply (so reply told) refused
  order_so d d' s s' (FileRefused id edek refused) = FileRefused id edek refused

  target_so : TargetRefuses disk user given old new r r' why → TargetRefuses disk user given' old new r r' why
  target_so t = record { mid = t.mid; names = t.names; orders = t.orders; refused = order_so (disk t.mid) (disk new) t.names r' t.refused }

-- ---- the rows that are read

pub as_in : {D W : Type 0} (state : D → DiskState) (to_come : W → ℕ → ℕ) (now : ℕ) (a b : Standing D W) → ChainOf (ReadsOnce state to_come now) a b → ChainOf (ReadsOnceIn (LeadsAt state to_come now)) a b
as_in state to_come now a b Done = Done
as_in state to_come now a b (Then m n t f) = Then m n (as_in state to_come now a m t) f

module _ {D W E : Type 0} (state : D → DiskState) (to_come : W → ℕ → ℕ) (disk : E → DiskState) (user : Text) (to : List (List ℕ)) (s : CopyState) (a b : WorldRows D W) (can : CanRead state a) (old new : E) (r r' : RunningNames) where
  seen_so : (why : FsEnd) → IntoRefused (ReadsOn state to_come) (RefusesTo state to_come) (RepliesTo state to_come) disk user to s a b old new r r' why → SeenRefused state to_come disk user to s a b old new r r' why
  seen_so why (inl rule) = inl rule
  seen_so why (inr (mid, steps, refused)) = inr (standing_of mid.events, as_in state to_come a.events.now (standing_of a.events) (standing_of mid.events) x.read.events, go refused)
    where
      x : ReadAll state to_come a mid
      x = read_all state to_come a mid can steps

      same : mid.events.now ≡ a.events.now
      same = let h = x.holds in h.1.1.1

      go : PartsRefuse (RefusesTo state to_come) (RepliesTo state to_come) disk user mid b old new r r' why
          → EventRefused state to_come a.events.now (standing_of mid.events) (standing_of b.events) why ⊎ TargetRefuses disk user (KeyToldIn (LeadsAt state to_come a.events.now) (standing_of mid.events) (standing_of b.events)) old new r r' why
      go (inl own) = inl (subst (λ (n : ℕ). EventRefused state to_come n (standing_of mid.events) (standing_of b.events) why) same own)
      go (inr t) =
          inr (target_so disk user old new r r' why (RepliedTo (RepliesTo state to_come) mid b) (KeyToldIn (LeadsAt state to_come a.events.now) (standing_of mid.events) (standing_of b.events))
          (λ reply told. (told.0, subst (λ (n : ℕ). LeadsAt state to_come n (standing_of mid.events) (event.Kms superuser (call.Metadata told.0)) (line.Kms reply) (standing_of b.events)) same told.1)) t)

  pub seen_refused : {T : Type 0} (result : Result T FsEnd) → IfErr result (RefusedFor (IntoRefused (ReadsOn state to_come) (RefusesTo state to_come) (RepliesTo state to_come) disk user to s a b old new r r'))
      → IfErr result (RefusedFor (SeenRefused state to_come disk user to s a b old new r r'))
  seen_refused result e = refused_so result (IntoRefused (ReadsOn state to_come) (RefusesTo state to_come) (RepliesTo state to_come) disk user to s a b old new r r') (SeenRefused state to_come disk user to s a b old new r r') seen_so e

-- the same of the services that the rows were made of
module _ {T D W E : Type 0} (state : D → DiskState) (to_come : W → ℕ → ℕ) (disk : E → DiskState) (user : Text) (to : NPath) (vault copies : VaultState) (names : RunningNames) (old new : E) (r' : RunningNames) (result : Result T FsEnd) (s s' : WorldRows D W) where
  abbrev RowsAsked : ReadPath → ℕ → (a b : Standing D W) → Type 0
  RowsAsked place now a b = IfErr result (RefusedFor (RowsRefused (LeadsAt state to_come now) disk place to (copying (table_of a.world) vault names copies) a b old new r'))

  pub rows_refused : (place : ReadPath) (now : ℕ) (d d' : D) (w w' : RunningWorld) (x x' : W) → user ≡ superuser → s.place.now ≡ place → s.events.now ≡ now → s.events.disk.now ≡ d → s.events.world.now ≡ w → s.events.words.now ≡ x
      → s'.events.disk.now ≡ d' → s'.events.world.now ≡ w' → s'.events.words.now ≡ x' → IfErr result (RefusedFor (SeenRefused state to_come disk user to (copy_state (rows_seen s) vault names copies) s s' old new names r'))
      → IfErr result (RefusedFor (RowsRefused (LeadsAt state to_come now) disk place to (copying (table_of w) vault names copies) (standing d w x) (standing d' w' x') old new r'))
  rows_refused place now d d' w w' x x' is_user e1 e2 e3 e4 e5 e6 e7 e8 e =
      subst (λ (v : ReadPath). RowsAsked v now (standing d w x) (standing d' w' x')) e1
      (subst (λ (v : ℕ). RowsAsked s.place.now v (standing d w x) (standing d' w' x')) e2
      (subst (λ (v : D). RowsAsked s.place.now s.events.now (standing v w x) (standing d' w' x')) e3
      (subst (λ (v : RunningWorld). RowsAsked s.place.now s.events.now (standing s.events.disk.now v x) (standing d' w' x')) e4
      (subst (λ (v : W). RowsAsked s.place.now s.events.now (standing s.events.disk.now s.events.world.now v) (standing d' w' x')) e5
      (subst (λ (v : D). RowsAsked s.place.now s.events.now (standing_of s.events) (standing v w' x')) e6
      (subst (λ (v : RunningWorld). RowsAsked s.place.now s.events.now (standing_of s.events) (standing s'.events.disk.now v x')) e7
      (subst (λ (v : W). RowsAsked s.place.now s.events.now (standing_of s.events) (standing s'.events.disk.now s'.events.world.now v)) e8 (subst (λ (u : Text). IfErr result (RefusedFor (SeenRefused state to_come disk u to (copy_state (rows_seen s) vault names copies) s s' old new names r'))) is_user e))))))))

-- ---- the check of the place

pub zone_ends : {Y T : Type 0} (others : Leading Y) (rows : List Entry) (y z : Y) (row : Row) (result : Result T FsEnd) → row_at rows [] ≡ Some row → IfErr result (IsNoZoneRow row) → IfErr result (EndsFor ⊥ ⊥ (CheckRefused others rows y z))
zone_ends others rows y z row (Ok done) at e = tt
zone_ends others rows y z row (Err why) at (inl (is, lacks)) = subst (EndsFor ⊥ ⊥ (CheckRefused others rows y z)) (sym is) (tt, inl (row, at, inl (refl, lacks)))
zone_ends others rows y z row (Err why) at (inr (is, lacks)) = subst (EndsFor ⊥ ⊥ (CheckRefused others rows y z)) (sym is) (tt, inl (row, at, inr (refl, lacks)))

module _ {D W E : Type 0} (state : D → DiskState) (to_come : W → ℕ → ℕ) (now : ℕ) (disk : E → DiskState) (place : ReadPath) (path : NPath) (a b z : Standing D W) (vault copies : VaultState) (names : RunningNames) (old new : E) (r' : RunningNames)
    (read : OnlyRead state to_come now a b) where
  since : (why : FsEnd) → RowsRefused (LeadsAt state to_come now) disk place path (copying (table_of b.world) vault names copies) b z old new r' why → PlaceRefused (LeadsAt state to_come now) disk place path (copying (table_of a.world) vault names copies) a z old new r' why
  since why (inl rule) = inr (inl (subst (λ (t : NameTable). RuleRefuses path (state_at place (copying t vault names copies)) why) (table_kept state to_come now a b read) rule))
  since why (inr (mid, steps, refused)) = inr (inr (mid, steps_join (ReadsOnceIn (LeadsAt state to_come now)) a b mid (as_in state to_come now a b read.events) steps, refused))

  pub place_refused : {T : Type 0} (result : Result T FsEnd) → IfErr result (RefusedFor (RowsRefused (LeadsAt state to_come now) disk place path (copying (table_of b.world) vault names copies) b z old new r'))
      → IfErr result (RefusedFor (PlaceRefused (LeadsAt state to_come now) disk place path (copying (table_of a.world) vault names copies) a z old new r'))
  place_refused result e =
      refused_so result (RowsRefused (LeadsAt state to_come now) disk place path (copying (table_of b.world) vault names copies) b z old new r') (PlaceRefused (LeadsAt state to_come now) disk place path (copying (table_of a.world) vault names copies) a z old new r') since e

-- the check refused it
pub check_refused : {Y E : Type 0} (others : Leading Y) (disk : E → DiskState) (place : ReadPath) (path : NPath) (c : Copying) (y z : Y) (old new : E) (r' : RunningNames) (why : FsEnd) → EndsFor ⊥ ⊥ (CheckRefused others (place_rows c.table place) y z) why
    → RefusedFor (PlaceRefused others disk place path c y z old new r') why
check_refused others disk place path c y z old new r' why e =
    ends-so ⊥ ⊥ ⊤ ⊤ (CheckRefused others (place_rows c.table place) y z) (PlaceRefused others disk place path c y z old new r') why (λ h. tt) (λ h. tt) go e
  where
    go : CheckRefused others (place_rows c.table place) y z why → PlaceRefused others disk place path c y z old new r' why
    go (inl lacks) = inl lacks
    go (inr own) = inr (inr (y, Done, inl own))

-- so it may end a copy
pub check_cause : {Y : Type 0} (others : Leading Y) (rows : List Entry) (y z : Y) (store vault : Type 0) (why : FsEnd) → EndsFor ⊥ ⊥ (CheckRefused others rows y z) why → EndsFor store vault (λ (w : FsEnd). ⊤) why
check_cause others rows y z store vault why e = ends-so ⊥ ⊥ store vault (CheckRefused others rows y z) (λ (w : FsEnd). ⊤) why (λ h. absurd h) (λ h. absurd h) (λ h. tt) e

-- ---- the texts

pub path_ends : (none : Type 0) (why : PathFault) (own : FsEnd) → own ≡ end_of_path why → (why ≡ fault.BadPath → none) → NotRead none own
path_ends none fault.BadPath own is bad = inr (is, bad refl)
path_ends none fault.NoMemory own is bad = inl is

pub not_read : (none none' : Type 0) (why : FsEnd) → (none → none') → NotRead none why → NotRead none' why
not_read none none' why so (inl is) = inl is
not_read none none' why so (inr (is, lacks)) = inr (is, so lacks)

pub texts_refused : {Y E : Type 0} (others : Leading Y) (disk : E → DiskState) (from to : List ℕ) (c : Copying) (y z : Y) (old new : E) (r' : RunningNames) (why : FsEnd) → NotRead (AreNoTexts from to) why → RefusedFor (ZoneRefused others disk from to c y z old new r') why
texts_refused others disk from to c y z old new r' why (inl is) = subst (RefusedFor (ZoneRefused others disk from to c y z old new r')) (sym is) tt
texts_refused others disk from to c y z old new r' why (inr (is, lacks)) = subst (RefusedFor (ZoneRefused others disk from to c y z old new r')) (sym is) (tt, inl (refl, lacks))

pub not_read_cause : (store vault none : Type 0) (why : FsEnd) → NotRead none why → EndsFor store vault (λ (w : FsEnd). ⊤) why
not_read_cause store vault none why (inl is) = subst (EndsFor store vault (λ (w : FsEnd). ⊤)) (sym is) tt
not_read_cause store vault none why (inr (is, lacks)) = subst (EndsFor store vault (λ (w : FsEnd). ⊤)) (sym is) (tt, tt)

-- ---- what follows the events

module _ {X Y : Type 0} (leads : Leading X) (others : Leading Y) (R : X → Y → Type 0) (follow : Follows leads others R) where
  -- events that read are followed by events that read
  pub steps_followed : (a b : X) → ChainOf (ReadsOnceIn leads) a b → (y : Y) → R a y → (z : Y) × ChainOf (ReadsOnceIn others) y z × R b z
  steps_followed a b Done y r = (y, Done, r)
  steps_followed a b (Then m n t (inl same)) y r = let w = steps_followed a m t y r in (w.0, w.1, subst (λ (v : X). R v w.0) (sym same) w.2)
  steps_followed a b (Then m n t (inr (e, answer, only, led))) y r =
      let w = steps_followed a m t y r in
      let f = follow m n w.0 e answer w.2 led in
      (f.0, Then w.0 f.0 w.1 (inr (e, answer, only, f.1.0)), f.1.1)

  module _ (a b : X) (read : ChainOf (ReadsOnceIn leads) a b) (y : Y) (r : R a y) where
    -- so a refusal is followed by that refusal
    abbrev Followed : (Y → Type 0) → Type 0
    Followed P = (z : Y) × ChainOf (ReadsOnceIn others) y z × R b z × P z

    pub nothing_refused : (P : Y → Type 0) → ((z : Y) → P z) → (z : Y) × ChainOf (ReadsOnceIn others) y z × R b z × P z
    nothing_refused P p = let w = steps_followed a b read y r in (w.0, w.1, w.2, p w.0)

    module _ {E : Type 0} (disk : E → DiskState) (old new : E) (s s' : RunningNames) (why : FsEnd) where
      step_followed : StepRefused leads disk superuser a b old new s s' why → Followed (λ (z : Y). StepRefused others disk superuser y z old new s s' why)
      step_followed (mid, steps, inl (e, answer, only, led, shows)) =
          let w = steps_followed a mid steps y r in
          let f = follow mid b w.0 e answer w.2 led in
          (f.0, Then w.0 f.0 w.1 (inr (e, answer, only, f.1.0)), f.1.1, (w.0, w.1, inl (e, answer, only, f.1.0, shows)))
      step_followed (mid, steps, inr t) = go t.refused
        where
          again : (z : Y) → NamesRefuse superuser (KeyToldIn others z z) (disk t.mid) (disk new) t.names s' why → TargetRefuses disk superuser (KeyToldIn others z z) old new s s' why
          again z refused = record { mid = t.mid; names = t.names; orders = t.orders; refused = refused }

          whole : ((z : Y) → NamesRefuse superuser (KeyToldIn others z z) (disk t.mid) (disk new) t.names s' why) → Followed (λ (z : Y). StepRefused others disk superuser y z old new s s' why)
          whole refused = let w = steps_followed a b read y r in (w.0, w.1, w.2, (w.0, w.1, inr (again w.0 (refused w.0))))

          go : NamesRefuse superuser (KeyToldIn leads mid b) (disk t.mid) (disk new) t.names s' why → Followed (λ (z : Y). StepRefused others disk superuser y z old new s s' why)
          go (LookRefused path refused) = whole (λ z. LookRefused path refused)
          go (DirectoryRefused path refused) = whole (λ z. DirectoryRefused path refused)
          go (ZoneAskRefused path key refused) = whole (λ z. ZoneAskRefused path key refused)
          go (FileAskRefused path refused) = whole (λ z. FileAskRefused path refused)
          go (FileRefused id edek refused) = whole (λ z. FileRefused id edek refused)
          go (FinishZoneRefused id reply (key, led) refused) =
              let w = steps_followed a mid steps y r in
              let f = follow mid b w.0 (event.Kms superuser (call.Metadata key)) (line.Kms reply) w.2 led in (
                f.0,
                Then w.0 f.0 w.1 (inr (event.Kms superuser (call.Metadata key), line.Kms reply, (refl, tt), f.1.0)),
                f.1.1,
                (w.0, w.1, inr (record { mid = t.mid; names = t.names; orders = t.orders; refused = FinishZoneRefused id reply (key, f.1.0) refused })),
              )

    module _ {E : Type 0} (disk : E → DiskState) (old new : E) (why : FsEnd) where
      place_followed : (place : ReadPath) (path : NPath) (c : Copying) (s' : RunningNames) → PlaceRefused leads disk place path c a b old new s' why → Followed (λ (z : Y). PlaceRefused others disk place path c y z old new s' why)
      place_followed place path c s' (inl lacks) = nothing_refused (λ (z : Y). PlaceRefused others disk place path c y z old new s' why) (λ z. inl lacks)
      place_followed place path c s' (inr (inl rule)) = nothing_refused (λ (z : Y). PlaceRefused others disk place path c y z old new s' why) (λ z. inr (inl rule))
      place_followed place path c s' (inr (inr step)) = let f = step_followed disk old new c.names s' why step in (f.0, f.1, f.2, inr (inr f.3))

      from_followed : (from to : List ℕ) (c : Copying) → FromRefused leads disk from to c a b old new why → Followed (λ (z : Y). FromRefused others disk from to c y z old new why)
      from_followed from to c (left, inl lacks) = nothing_refused (λ (z : Y). FromRefused others disk from to c y z old new why) (λ z. (left, inl lacks))
      from_followed from to c (left, inr (place, path, texts, refused)) = let f = place_followed place path c left refused in (f.0, f.1, f.2, (left, inr (place, path, texts, f.3)))

    module _ {E : Type 0} (disk : E → DiskState) (batch : ℕ) (from to : List ℕ) (t : NameTable) (vault copies : VaultState) (old new : E) where
      over_so : (why : FsEnd) → OverRefused leads disk batch from to t vault copies a b old new why → Followed (λ (z : Y). OverRefused others disk batch from to t vault copies y z old new why)
      over_so why o =
          let f = from_followed disk o.opened new why from to (copying t vault o.names copies) o.refused in
          (f.0, f.1, f.2, record { opened = o.opened; names = o.names; starts = o.starts; refused = f.3 })

      abbrev Then_over : FsEnd → Type 0
      Then_over why = Followed (λ (z : Y). RefusedFor (OverRefused others disk batch from to t vault copies y z old new) why)

      plain : (why : FsEnd) → ((z : Y) → RefusedFor (OverRefused others disk batch from to t vault copies y z old new) why) → Then_over why
      plain why p = nothing_refused (λ (z : Y). RefusedFor (OverRefused others disk batch from to t vault copies y z old new) why) p

      pub over_followed : (why : FsEnd) → RefusedFor (OverRefused leads disk batch from to t vault copies a b old new) why → (z : Y) × ChainOf (ReadsOnceIn others) y z × R b z × RefusedFor (OverRefused others disk batch from to t vault copies y z old new) why
      over_followed (end.Put count) e = absurd e.0
      over_followed (end.Read count) e = absurd e.0
      over_followed (end.NameRefused own) e = let f = over_so (end.NameRefused own) e.1 in (f.0, f.1, f.2, (tt, f.3))
      over_followed (end.KeyRefused own) e = let f = over_so (end.KeyRefused own) e.1 in (f.0, f.1, f.2, (tt, f.3))
      over_followed end.Directory e = let f = over_so end.Directory e.1 in (f.0, f.1, f.2, (tt, f.3))
      over_followed end.StoreFault e = plain end.StoreFault (λ z. tt)
      over_followed end.NoMemory e = plain end.NoMemory (λ z. tt)
      over_followed end.ReadFault e = absurd e.0
      over_followed end.WriteFault e = absurd e.0
      over_followed end.VaultFault e = plain end.VaultFault (λ z. tt)
      over_followed end.TooLong e = absurd e.0
