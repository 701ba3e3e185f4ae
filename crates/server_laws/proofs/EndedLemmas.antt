-- What a server that has ended leaves, entry by entry.
use Rattle.std.proofs.Common.{◌≡◌, inl, inr, ℕ, Bool, true, IsTrue, List, [], ◌∷◌, ◌++◌, Option, Some, None, refl, sym, ap, ◌∙◌, subst, append-nil, append_assoc}
use Rattle.std.specs.Prelude.{IfSome, Result}
use Rattle.hk_base.specs.Disk.{DiskState, Tells}
use Rattle.key_rows.specs.Table.{Table, applies}
use Rattle.key_rows.specs.declared.rows.KeyCommand.{KeyCommand}
use Rattle.edit_ops.specs.declared.ops.EditOp.{EditOp}
use Rattle.prop_text.specs.declared.lines.PropLine.{PropLine}
use Rattle.prop_text.specs.declared.props.Props.{Props}
use Rattle.kms_acls.specs.Agreement.{AreListsOf}
use Rattle.kms_acls.specs.Lists.{Lists}
use Rattle.kms_store.specs.Store as keys
use Rattle.kms_store.proofs.Layers.{log_of_store}
use Rattle.kms_core.specs.State.{IsPending, IsService, KmsState, service_of}
use Rattle.kms_core.specs.Users.{RunningKms, running}
use Rattle.hist_cell.specs.History.{LegalAfter, LegalOf, state_after, state_of}
use Rattle.kms_cell.specs.Entries.{KmsEntry}
use Rattle.kms_cell.specs.Steps.{KmsSteps}
use Rattle.kms_cell.specs.Tickets.{KmsAllows}
use Rattle.kms_cell.specs.Views.{KmsView}
use Rattle.kms_cell.specs.declared.acts.KmsAct.{KmsAct}
use Rattle.kms_cell.specs.declared.acts.KmsAct.TheVariants as key_act
use Rattle.kms_cell.specs.declared.acts.KmsActed.{KmsActed}
use Rattle.kms_cell.specs.declared.acts.KmsActed.TheVariants as key_acted
use Rattle.name_calls.specs.declared.calls.NameRefusal.{NameRefusal}
use Rattle.name_calls.specs.declared.paths.NPath.{NPath}
use Rattle.name_store.specs.Store as names
use Rattle.name_store.specs.Table.{next_opening}
use Rattle.name_store.proofs.Layers.{log_of_store as log_of_name_store}
use Rattle.name_core.specs.Service.{Logs}
use Rattle.name_core.specs.State.{IsNamesystemOf, RunningNames}
use Rattle.name_core.specs.declared.walks.Walked.{Walked}
use Rattle.name_history.specs.Asked.{NameAllows}
use Rattle.name_history.specs.Entries.{NameEntry}
use Rattle.name_history.specs.Steps.{NameSteps, WalkSteps}
use Rattle.name_history.specs.Views.{NameView}
use Rattle.name_history.specs.declared.acts.NameAct.{NameAct}
use Rattle.name_history.specs.declared.acts.NameAct.TheVariants as name_act
use Rattle.name_history.specs.declared.acts.NameActed.{NameActed}
use Rattle.name_history.specs.declared.acts.NameActed.TheVariants as name_acted
use Rattle.name_core.proofs.Layers.{stands_after_ask}
use Rattle.server_parts.specs.Doors.{DoorState}
use Rattle.server_parts.specs.Yards.{YardState}
use Rattle.cell_server.specs.Connections.{Serving}
use Rattle.cell_server.specs.declared.ends.ServeEnd.{ServeEnd}
use Rattle.server_run.specs.Runs.{RanServer}
use Rattle.server_run.proofs.FailureLemmas.{both_tell}
use Rattle.world_run.proofs.VerdictLemmas.{judged}
use Rattle.server_laws.specs.Ended.{Acknowledges, AllAcknowledge, AllJudged, AllNamesAcknowledge, EntryIsJudged, HoldsKeys, HoldsNames, NameAcknowledges, ServersHoldLogs, ServersJudge}

-- ---- the key management service

module _ {D W : Type 0} (state : D → DiskState) (to_come : W → ℕ → ℕ) (lines : List PropLine) where
  -- the log of the service holds these commands
  abbrev Holds : KmsView D W → List KeyCommand → Type 0
  Holds v commands = keys.IsKeyStoreOf (state v.disk) v.kms.store commands

  -- what one entry does
  record KeyStep (v : KmsView D W) (a : KmsAct) (r : KmsActed) (v' : KmsView D W) : Type 0 where
    logged : List KeyCommand
    acknowledges : Acknowledges state to_come lines v a r v' logged
    lists : v'.kms.acls ≡ v.kms.acls
    tells : (state v'.disk).tells ≡ (state v.disk).tells
    stands : Tells (state v.disk) → (commands : List KeyCommand) → Holds v commands → Holds v' (commands ++ logged)
    verdict : EntryIsJudged lines a r

  -- the store and the disk are unchanged
  still_holds : (v v' : KmsView D W) → v'.disk ≡ v.disk → v'.kms.store ≡ v.kms.store → (commands : List KeyCommand) → Holds v commands → Holds v' (commands ++ [])
  still_holds v v' disk store commands h =
      subst (λ (d : D). keys.IsKeyStoreOf (state d) v'.kms.store (commands ++ [])) (sym disk)
      (subst (λ (s : keys.StoreState). keys.IsKeyStoreOf (state v.disk) s (commands ++ [])) (sym store) (subst (keys.IsKeyStoreOf (state v.disk) v.kms.store) (sym (append-nil commands)) h))

  key_step : (v : KmsView D W) (a : KmsAct) (r : KmsActed) (v' : KmsView D W) → AreListsOf v.kms.acls lines → KmsSteps state to_come v a r v' → KeyStep v a r v'
  key_step v (key_act.Call user c) (key_acted.Call reply) v' are s =
      let acts = s.does.acts lines are in
      record {
        logged = acts.logged;
        acknowledges = record { now = s.does.now; drawn = acts.drawn; serves = acts.serves };
        lists = acts.lists;
        tells = acts.disk.run.tells;
        stands = acts.disk.stands;
        verdict = judged lines user _ _ _ c _ _ reply _ _ _ acts.serves;
      }
  key_step v key_act.Ticket (key_acted.Ticket ticket) v' are s = record {
    logged = [];
    acknowledges = refl;
    lists = ap (λ (x : KmsView D W). x.kms.acls) s.does.same;
    tells = ap (λ (x : KmsView D W). (state x.disk).tells) s.does.same;
    stands = λ telling commands h. still_holds v v' (ap (λ (x : KmsView D W). x.disk) s.does.same) (ap (λ (x : KmsView D W). x.kms.store) s.does.same) commands h;
    verdict = tt;
  }
  key_step v (key_act.Deposit x) (key_acted.Deposit answer) v' are s = record {
    logged = [];
    acknowledges = refl;
    lists = ap (λ (x : KmsView D W). x.kms.acls) s.does.left;
    tells = ap (λ (x : KmsView D W). (state x.disk).tells) s.does.left;
    stands = λ telling commands h. still_holds v v' (ap (λ (x : KmsView D W). x.disk) s.does.left) (ap (λ (x : KmsView D W). x.kms.store) s.does.left) commands h;
    verdict = tt;
  }
  key_step v (key_act.Call user c) (key_acted.Ticket ticket) v' are s = absurd s.does
  key_step v (key_act.Call user c) (key_acted.Deposit answer) v' are s = absurd s.does
  key_step v key_act.Ticket (key_acted.Call reply) v' are s = absurd s.does
  key_step v key_act.Ticket (key_acted.Deposit answer) v' are s = absurd s.does
  key_step v (key_act.Deposit x) (key_acted.Call reply) v' are s = absurd s.does
  key_step v (key_act.Deposit x) (key_acted.Ticket ticket) v' are s = absurd s.does

  -- what the entries of a legal history do
  record KeyHistory (v : KmsView D W) (es : List (KmsEntry D W)) : Type 0 where
    logged : List KeyCommand
    acknowledge : AllAcknowledge state to_come lines v es logged
    tells : (state (state_after v es).disk).tells ≡ (state v.disk).tells
    stands : Tells (state v.disk) → (commands : List KeyCommand) → Holds v commands → Holds (state_after v es) (commands ++ logged)
    verdicts : AllJudged lines es

  key_history : (before : List (KmsEntry D W)) (v : KmsView D W) (es : List (KmsEntry D W)) → AreListsOf v.kms.acls lines → LegalAfter (KmsSteps state to_come) KmsAllows before v es → KeyHistory v es
  key_history before v [] are legal = record {
    logged = [];
    acknowledge = refl;
    tells = refl;
    stands = λ telling commands h. subst (Holds v) (sym (append-nil commands)) h;
    verdicts = tt;
  }
  key_history before v (e ∷ es) are legal =
      let first = key_step v e.call e.reply e.after are legal.1 in
      let rest = key_history (before ++ e ∷ []) e.after es (subst (λ (l : Lists). AreListsOf l lines) (sym first.lists) are) legal.2 in
      record {
        logged = first.logged ++ rest.logged;
        acknowledge = (first.logged, rest.logged, refl, first.acknowledges, rest.acknowledge);
        tells = rest.tells ∙ first.tells;
        stands = λ telling commands h.
            subst (Holds (state_after e.after es)) (append_assoc commands first.logged rest.logged)
            (rest.stands (first.tells ∙ telling) (commands ++ first.logged) (first.stands telling commands h));
        verdicts = (first.verdict, rest.verdicts);
      }

pending_applies : (t : Table) (s : KmsState) (o : Option KeyCommand) → t ≡ s.table → IfSome o (IsPending s) → keys.Applies t o
pending_applies t s None same waits = tt
pending_applies t s (Some command) same waits = subst (λ (u : Table). applies u command ≡ true) (sym same) waits.fits

-- what the file of a store reads as
keys_read : (d : DiskState) (kms : RunningKms) (commands : List KeyCommand) → IsService (service_of (running kms)) → kms.store.log.file ≡ 0 → keys.IsKeyStoreOf d kms.store commands
    → keys.IsSoundLog (d.reads 0) commands kms.store.pending kms.store.table.keys
keys_read d kms commands rules of_file s = record {
  spelled = s.spelled;
  spelled_more = s.waits;
  makes = s.makes;
  fits = pending_applies kms.store.table.keys (service_of (running kms)).keys kms.store.pending refl rules.waits;
  log = subst (λ (file : ℕ). keys.IsLogOf commands kms.store.pending (d.reads file)) of_file (log_of_store d kms.store commands of_file s (d.reads kms.store.log.file) s.log.reads);
}

-- ---- the namesystem

module _ {D W : Type 0} (state : D → DiskState) (to_come : W → ℕ → ℕ) where
  abbrev HoldsOps : NameView D W → List EditOp → Type 0
  HoldsOps v ops = IsNamesystemOf (state v.disk) v.names ops

  record NameStep (v : NameView D W) (a : NameAct) (r : NameActed) (v' : NameView D W) : Type 0 where
    logged : List EditOp
    acknowledges : NameAcknowledges state v a r v' logged
    tells : (state v'.disk).tells ≡ (state v.disk).tells
    stands : Tells (state v.disk) → (ops : List EditOp) → HoldsOps v ops → HoldsOps v' (ops ++ logged)

  -- an entry that works on the log
  by_logs : (v : NameView D W) (a : NameAct) (r : NameActed) (v' : NameView D W) (own : Bool → EditOp → Type 0) (logged : List EditOp) → NameAcknowledges state v a r v' logged → Logs (state v.disk) (state v'.disk) v.names v'.names own logged
      → NameStep v a r v'
  by_logs v a r v' own logged acknowledges disk = record { logged = logged; acknowledges = acknowledges; tells = disk.run.tells; stands = disk.stands }

  walk_step : (v : NameView D W) (zone : NPath) (answer : Result Walked NameRefusal) (v' : NameView D W) → WalkSteps state v zone answer v' → NameStep v (name_act.Walk zone) (name_acted.Walk answer) v'
  walk_step v zone answer v' (inl done) = by_logs v (name_act.Walk zone) (name_acted.Walk answer) v' _ done.acts.logged (inl done.acts.serves) done.acts.disk
  walk_step v zone answer v' (inr lacks) = record {
    logged = [];
    acknowledges = inr (lacks, refl);
    tells = ap (λ (x : NameView D W). (state x.disk).tells) lacks.same;
    stands = λ telling ops h. subst (λ (x : NameView D W). HoldsOps x (ops ++ [])) (sym lacks.same) (subst (HoldsOps v) (sym (append-nil ops)) h);
  }

  name_step : (v : NameView D W) (a : NameAct) (r : NameActed) (v' : NameView D W) → NameSteps state to_come v a r v' → NameStep v a r v'
  name_step v (name_act.Call user c) (name_acted.Call reply) v' s = by_logs v (name_act.Call user c) (name_acted.Call reply) v' _ s.does.acts.logged s.does.acts.serves s.does.acts.disk
  name_step v (name_act.Ask user a) (name_acted.Ask answer) v' s = record {
    logged = [];
    acknowledges = refl;
    tells = ap (λ (d : D). (state d).tells) s.does.disk;
    stands = λ telling ops h.
        subst (λ (d : D). IsNamesystemOf (state d) v'.names (ops ++ [])) (sym s.does.disk)
        (subst (IsNamesystemOf (state v.disk) v'.names) (sym (append-nil ops)) (stands_after_ask (state v.disk) v.names v'.names user a answer ops s.does.asks s.does.store h));
  }
  name_step v (name_act.Finish answered) (name_acted.Finish answer) v' s = by_logs v (name_act.Finish answered) (name_acted.Finish answer) v' _ s.does.acts.logged s.does.acts.serves s.does.acts.disk
  name_step v (name_act.Walk zone) (name_acted.Walk answer) v' s = walk_step v zone answer v' s.does
  name_step v (name_act.Deliver front reply) (name_acted.Deliver answer) v' s = by_logs v (name_act.Deliver front reply) (name_acted.Deliver answer) v' _ s.does.acts.logged s.does.acts.serves s.does.acts.disk
  name_step v (name_act.Call user c) (name_acted.Ask answer) v' s = absurd s.does
  name_step v (name_act.Call user c) (name_acted.Finish answer) v' s = absurd s.does
  name_step v (name_act.Call user c) (name_acted.Walk answer) v' s = absurd s.does
  name_step v (name_act.Call user c) (name_acted.Deliver answer) v' s = absurd s.does
  name_step v (name_act.Ask user q) (name_acted.Call answer) v' s = absurd s.does
  name_step v (name_act.Ask user q) (name_acted.Finish answer) v' s = absurd s.does
  name_step v (name_act.Ask user q) (name_acted.Walk answer) v' s = absurd s.does
  name_step v (name_act.Ask user q) (name_acted.Deliver answer) v' s = absurd s.does
  name_step v (name_act.Finish answered) (name_acted.Call answer) v' s = absurd s.does
  name_step v (name_act.Finish answered) (name_acted.Ask answer) v' s = absurd s.does
  name_step v (name_act.Finish answered) (name_acted.Walk answer) v' s = absurd s.does
  name_step v (name_act.Finish answered) (name_acted.Deliver answer) v' s = absurd s.does
  name_step v (name_act.Walk zone) (name_acted.Call answer) v' s = absurd s.does
  name_step v (name_act.Walk zone) (name_acted.Ask answer) v' s = absurd s.does
  name_step v (name_act.Walk zone) (name_acted.Finish answer) v' s = absurd s.does
  name_step v (name_act.Walk zone) (name_acted.Deliver answer) v' s = absurd s.does
  name_step v (name_act.Deliver front reply) (name_acted.Call answer) v' s = absurd s.does
  name_step v (name_act.Deliver front reply) (name_acted.Ask answer) v' s = absurd s.does
  name_step v (name_act.Deliver front reply) (name_acted.Finish answer) v' s = absurd s.does
  name_step v (name_act.Deliver front reply) (name_acted.Walk answer) v' s = absurd s.does

  record NameHistory (v : NameView D W) (es : List (NameEntry D W)) : Type 0 where
    logged : List EditOp
    acknowledge : AllNamesAcknowledge state v es logged
    tells : (state (state_after v es).disk).tells ≡ (state v.disk).tells
    stands : Tells (state v.disk) → (ops : List EditOp) → HoldsOps v ops → HoldsOps (state_after v es) (ops ++ logged)

  name_history : (before : List (NameEntry D W)) (v : NameView D W) (es : List (NameEntry D W)) → LegalAfter (NameSteps state to_come) NameAllows before v es → NameHistory v es
  name_history before v [] legal = record {
    logged = [];
    acknowledge = refl;
    tells = refl;
    stands = λ telling ops h. subst (HoldsOps v) (sym (append-nil ops)) h;
  }
  name_history before v (e ∷ es) legal =
      let first = name_step v e.call e.reply e.after legal.1 in
      let rest = name_history (before ++ e ∷ []) e.after es legal.2 in
      record {
        logged = first.logged ++ rest.logged;
        acknowledge = (first.logged, rest.logged, refl, first.acknowledges, rest.acknowledge);
        tells = rest.tells ∙ first.tells;
        stands = λ telling ops h.
            subst (HoldsOps (state_after e.after es)) (append_assoc ops first.logged rest.logged)
            (rest.stands (first.tells ∙ telling) (ops ++ first.logged) (first.stands telling ops h));
      }

names_read : (d : DiskState) (r : RunningNames) (ops : List EditOp) → r.store.log.log.file ≡ 1 → (s : IsNamesystemOf d r ops) → names.IsSoundLog (d.reads 1) ops r.store.log.pending (names.made_with r.store s.used)
names_read d r ops of_file s = record {
  spelled = s.store.log.spelled;
  spelled_more = s.store.log.waits;
  makes = s.store.makes;
  fits = s.store.waits;
  log = subst (λ (file : ℕ). names.IsLogOf ops r.store.log.pending (d.reads file)) of_file (log_of_name_store d r.store s.used ops of_file s.store (d.reads r.store.log.log.file) s.store.log.log.reads);
}

-- ---- the server

module _ {D W I O : Type 0} (state : D → DiskState) (to_come : W → ℕ → ℕ) (serves : Serving I O D W) (conns : ℕ) (old new : YardState) (door door' : DoorState I O) (first second : ℕ → ℕ) (props : Props) (words : W) (port : ℕ) (end : ServeEnd)
    (failed : Bool) (r : RanServer state to_come serves first second props words port conns old new door door' end failed) where
  abbrev calls : List (KmsEntry D W)
  calls = r.ran.keys_closed.all

  pub first_call : r.ran.met.start ≡ Some r.k
  first_call = r.ran.kept_met.start ∙ r.ran.served.connections.met_keys.start ∙ r.ran.begins.keys_begin.0

  pub last_call : r.last_k ≡ state_after r.k calls
  last_call = let is : Some r.last_k ≡ Some (state_after r.k calls) = r.ran.keys_closed.core_is ∙ ap (λ (s : Option (KmsView D W)). state_of s calls) first_call in cc is

  key_log : KeyHistory state to_come props.lines r.k calls
  key_log =
      key_history state to_come props.lines [] r.k calls r.opened.lists
      (subst (λ (s : Option (KmsView D W)). LegalOf (KmsSteps state to_come) KmsAllows s calls) first_call r.ran.keys_closed.legal)

  abbrev acts : List (NameEntry D W)
  acts = r.ran.names_closed.all

  pub first_act : r.ran.names'.start ≡ Some r.n
  first_act = r.ran.served.makes.same.2 ∙ r.ran.served.connections.met_names.start ∙ r.ran.names_begin.0

  pub last_act : r.last_n ≡ state_after r.n acts
  last_act = let is : Some r.last_n ≡ Some (state_after r.n acts) = r.ran.names_closed.core_is ∙ ap (λ (s : Option (NameView D W)). state_of s acts) first_act in cc is

  name_log : NameHistory state to_come r.n acts
  name_log = name_history state to_come [] r.n acts (subst (λ (s : Option (NameView D W)). LegalOf (NameSteps state to_come) NameAllows s acts) first_act r.ran.names_closed.legal)

  pub opened_tells : r.opened.logs.mid.tells ≡ old.tells
  opened_tells = r.opened.logs.keys_opened.taken.tells

  keys_tell : (state r.k.disk).tells ≡ old.tells
  keys_tell = r.opened.logs.keys_opened.tells ∙ r.opened.logs.keys_opened.taken.own_tells

  names_tell : (state r.n.disk).tells ≡ old.tells
  names_tell = r.opened.logs.names_opened.tells ∙ r.opened.logs.names_opened.taken.own_tells ∙ opened_tells

  pub mid_tells : r.mid.tells ≡ old.tells
  mid_tells =
      r.keys_given.tells
      ∙ both_tell r.begun.tells (state r.last_k.disk).tells old.tells (r.opened.logs.names_opened.taken.tells ∙ opened_tells) (ap (λ (v : KmsView D W). (state v.disk).tells) last_call ∙ key_log.tells ∙ keys_tell)

  pub new_tells : new.tells ≡ old.tells
  new_tells = r.names_given.tells ∙ both_tell r.mid.tells (state r.last_n.disk).tells old.tells mid_tells (ap (λ (v : NameView D W). (state v.disk).tells) last_act ∙ name_log.tells ∙ names_tell)

  holds_keys : IsTrue old.tells → HoldsKeys (old.reads 0) (new.reads 0) key_log.logged r.last_k.kms.store
  holds_keys telling =
      let k = r.opened.logs.keys_opened in
      let log = k.starts.log (k.taken.own_tells ∙ telling) in
      let next : KeyCommand = keys.next_opening k.starts.table in
      let commands : List KeyCommand = log.0 ++ next ∷ key_log.logged in
      let stands : Holds state to_come props.lines (state_after r.k calls) commands =
      subst (Holds state to_come props.lines (state_after r.k calls)) (append_assoc log.0 (next ∷ []) key_log.logged) (key_log.stands (keys_tell ∙ telling) (log.0 ++ next ∷ []) log.2) in
      let bytes : new.reads 0 ≡ (state r.last_k.disk).reads 0 = r.names_given.other_reads (new_tells ∙ telling) ∙ r.keys_given.reads (mid_tells ∙ telling) in
      record {
        commands = log.0;
        table = k.starts.table;
        log = subst (λ (b : List ℕ). keys.IsKeyLog b log.0 k.starts.table) (k.taken.own_reads telling) log.1;
        left = subst (λ (b : List ℕ). keys.IsSoundLog b commands r.last_k.kms.store.pending r.last_k.kms.store.table.keys) (sym bytes)
            (keys_read (state r.last_k.disk) r.last_k.kms commands r.ran.keys_rules r.ran.keys_file (subst (λ (v : KmsView D W). Holds state to_come props.lines v commands) (sym last_call) stands));
      }

  holds_names : IsTrue old.tells → HoldsNames (old.reads 1) (new.reads 1) name_log.logged r.last_n.names.store
  holds_names telling =
      let k = r.opened.logs.keys_opened in
      let n = r.opened.logs.names_opened in
      let log = n.starts.log (n.taken.own_tells ∙ opened_tells ∙ telling) in
      let next : EditOp = next_opening n.starts.found in
      let ops : List EditOp = log.0 ++ next ∷ name_log.logged in
      let stands : HoldsOps state to_come (state_after r.n acts) ops = subst (HoldsOps state to_come (state_after r.n acts)) (append_assoc log.0 (next ∷ []) name_log.logged) (name_log.stands (names_tell ∙ telling) (log.0 ++ next ∷ []) log.3) in
      let ended : HoldsOps state to_come r.last_n ops = subst (λ (v : NameView D W). HoldsOps state to_come v ops) (sym last_act) stands in
      record {
        ops = log.0;
        made = record { table = n.starts.found; used = log.1 };
        log = subst (λ (b : List ℕ). names.IsNameLog b log.0 (record { table = n.starts.found; used = log.1 })) (n.taken.own_reads (opened_tells ∙ telling) ∙ k.taken.other_reads telling) log.2;
        used = ended.used;
        left = subst (λ (b : List ℕ). names.IsSoundLog b ops r.last_n.names.store.log.pending (names.made_with r.last_n.names.store ended.used)) (sym (r.names_given.reads (new_tells ∙ telling)))
            (names_read (state r.last_n.disk) r.last_n.names ops r.ran.names_file ended);
      }

module _ {D W I O : Type 0} (state : D → DiskState) (to_come : W → ℕ → ℕ) (serves : Serving I O D W) (conns : ℕ) (old new : YardState) (door door' : DoorState I O) where
  pub servers_hold_logs : ServersHoldLogs state to_come serves conns old new door door'
  servers_hold_logs first second props words port end failed r =
      let calls = key_log state to_come serves conns old new door door' first second props words port end failed r in
      let acts = name_log state to_come serves conns old new door door' first second props words port end failed r in (
        (calls.logged, calls.acknowledge, holds_keys state to_come serves conns old new door door' first second props words port end failed r),
        (acts.logged, acts.acknowledge, holds_names state to_come serves conns old new door door' first second props words port end failed r),
      )

  pub servers_judge : ServersJudge state to_come serves conns old new door door'
  servers_judge first second props words port end failed r = (key_log state to_come serves conns old new door door' first second props words port end failed r).verdicts
