-- A server that has ended keeps the promise on files in encryption zones.
use Rattle.std.proofs.Common.{◌≡◌, inl, inr, ℕ, Bool, true, false, IsTrue, List, [], ◌∷◌, ◌++◌, Option, Some, sym, ap, subst, ◌∙◌, append-nil, append_assoc}
use Rattle.std.specs.Prelude.{◌⊎◌, ◌&&◌}
use Rattle.std.specs.List.{AllByRecursion}
use Rattle.std.proofs.lemmas.List.{map-append}
use Rattle.hk_base.specs.Disk.{DiskState, Image, Tells}
use Rattle.frame_log.specs.Format.{IsAtRest}
use Rattle.prop_text.specs.declared.props.Props.{Props}
use Rattle.key_rows.specs.Records.{HasSpelling, spelling}
use Rattle.key_rows.specs.declared.rows.KeyCommand.{KeyCommand}
use Rattle.kms_store.specs.Store as keys
use Rattle.kms_store.specs.Store.{Opening}
use Rattle.kms_core.specs.State.{IsService}
use Rattle.name_store.specs.Store as names
use Rattle.name_core.specs.State.{IsNames, service_of}
use Rattle.hist_cell.specs.History.{LegalAfter, LegalOf, state_after}
use Rattle.kms_cell.specs.Entries.{KmsEntry}
use Rattle.kms_cell.specs.Steps.{KmsSteps}
use Rattle.kms_cell.specs.Tickets.{KmsAllows}
use Rattle.kms_cell.specs.Views.{KmsView}
use Rattle.name_history.specs.Asked.{NameAllows}
use Rattle.name_history.specs.Entries.{NameEntry}
use Rattle.name_history.specs.Steps.{NameSteps}
use Rattle.name_history.specs.Views.{NameView}
use Rattle.world_run.specs.Ledger.{FilesAtSubmission, Ledger, Past}
use Rattle.world_run.specs.Linked.{SoundFiles}
use Rattle.world_run.proofs.KeptLemmas.{image_kept}
use Rattle.thread_laws.specs.Cells.{AreClosed, KeptByCells}
use Rattle.thread_laws.specs.Files.{BeginsFrom, IsFileOf, IsLeftByServices}
use Rattle.thread_laws.specs.Promise.{KnownAfter}
use Rattle.thread_laws.specs.Worlds.{keys_of_view}
use Rattle.thread_laws.proofs.CellLemmas.{closed_cells_keep_files}
use Rattle.thread_laws.proofs.StartFiles.{starts_leave_sound}
use Rattle.server_parts.specs.Doors.{DoorState}
use Rattle.server_parts.specs.Yards.{YardState}
use Rattle.cell_server.specs.Connections.{Serving}
use Rattle.cell_server.specs.declared.ends.ServeEnd.{ServeEnd}
use Rattle.server_run.specs.Opening.{HasNewOpening, KeysNotOpened, OnlyKeysOpened}
use Rattle.server_run.specs.Runs.{RanServer}
use Rattle.world_run.specs.Kept.{IsKnownLater}
use Rattle.server_laws.specs.ServerFiles.{ServerKept, ServersKeepFiles, UnopenedKeepFiles}
use Rattle.server_laws.proofs.EndedLemmas.{first_act, first_call, last_act, last_call, mid_tells, new_tells, opened_tells}

both_true : (a b : Bool) → IsTrue (a && b) → IsTrue b
both_true true b h = h
both_true false b h = absurd (cc h)

-- what was known stays known
known_later : {D W : Type 0} (v : NameView D W) (es : List (NameEntry D W)) (past last : Past) → KnownAfter v es past last → IsKnownLater past last
known_later v [] past last k = record { entries = []; ledger = k.0 ∙ sym (append-nil past.ledger); begun = []; starts = k.1 ∙ sym (append-nil past.starts) }
known_later v (e ∷ es) past last (next, first, rest) =
    let more = known_later e.after es next last rest in
    record {
      entries = first.entries ++ more.entries;
      ledger = more.ledger ∙ ap (λ (l : Ledger). l ++ more.entries) first.ledger ∙ append_assoc past.ledger first.entries more.entries;
      begun = _;
      starts = more.starts ∙ ap (λ (l : FilesAtSubmission). l ++ more.begun) first.starts ∙ append_assoc past.starts _ more.begun;
    }

-- a log couldn't be opened

last_has : (commands : List KeyCommand) (command : KeyCommand) → AllByRecursion HasSpelling (commands ++ command ∷ []) → HasSpelling command
last_has [] command all = all.0
last_has (x ∷ xs) command all = last_has xs command all.1

opened_left : (found bytes : List ℕ) → HasNewOpening found bytes → keys.IsLeftByStart found bytes
opened_left found bytes o =
    let command : KeyCommand = keys.next_opening o.table in
    Opening o.commands o.table o.log
    (last_has o.commands command o.opened.spelled, inr (inl (subst (λ (payloads : List (List ℕ)). IsAtRest 0 payloads bytes) (map-append spelling o.commands (command ∷ [])) o.opened.log)))

pub unopened_keep_files : (old new : YardState) → UnopenedKeepFiles old new
unopened_keep_files old new file fault none telling past sound = image_kept past new.reads (first none.first)
  where
    first : ((file ≡ 0) × KeysNotOpened old new fault) ⊎ ((file ≡ 1) × OnlyKeysOpened old new fault) → SoundFiles past new.reads
    first (inl (is, k)) = starts_leave_sound past old.reads new.reads sound (inr (k.reads telling)) (inl (k.other_reads telling))
    first (inr (is, o)) = starts_leave_sound past old.reads new.reads sound (inr (opened_left (old.reads 0) (new.reads 0) (o.keys_read telling))) (inr (o.names_read telling))

module _ {D W : Type 0} (state : D → DiskState) (to_come : W → ℕ → ℕ) where
  -- a service keeps its rules from the first state on
  first_keys_rules : (before es : List (KmsEntry D W)) (k : KmsView D W) → LegalAfter (KmsSteps {D = D} {W = W} state to_come) (KmsAllows {S = KmsView D W}) before k es → IsService (keys_of_view (state_after k es)) → IsService (keys_of_view k)
  first_keys_rules before [] k legal rules = rules
  first_keys_rules before (e ∷ es) k legal rules = legal.1.before

  first_names_rules : (before es : List (NameEntry D W)) (n : NameView D W) → LegalAfter (NameSteps {D = D} {W = W} state to_come) (NameAllows {S = NameView D W}) before n es → IsNames (service_of (state_after n es).names) → IsNames (service_of n.names)
  first_names_rules before [] n legal rules = rules
  first_names_rules before (e ∷ es) n legal rules = legal.1.before

module _ {D W I O : Type 0} (state : D → DiskState) (to_come : W → ℕ → ℕ) (serves : Serving I O D W) (conns : ℕ) (old new : YardState) (door door' : DoorState I O) (first second : ℕ → ℕ) (props : Props) (words : W) (port : ℕ) (end : ServeEnd)
    (failed : Bool) (r : RanServer state to_come serves first second props words port conns old new door door' end failed) (telling : IsTrue old.tells) (past : Past) (sound : SoundFiles past old.reads) where
  abbrev calls : List (KmsEntry D W)
  calls = r.ran.keys_closed.all

  abbrev acts : List (NameEntry D W)
  acts = r.ran.names_closed.all

  key_start : r.ran.met.start ≡ Some r.k
  key_start = first_call state to_come serves conns old new door door' first second props words port end failed r

  name_start : r.ran.names'.start ≡ Some r.n
  name_start = first_act state to_come serves conns old new door door' first second props words port end failed r

  -- the disks tell what they hold

  new_telling : IsTrue new.tells
  new_telling = new_tells state to_come serves conns old new door door' first second props words port end failed r ∙ telling

  mid_telling : IsTrue r.mid.tells
  mid_telling = mid_tells state to_come serves conns old new door door' first second props words port end failed r ∙ telling

  keys_telling : Tells (state r.last_k.disk)
  keys_telling = both_true r.begun.tells (state r.last_k.disk).tells (sym r.keys_given.tells ∙ mid_telling)

  names_telling : Tells (state r.last_n.disk)
  names_telling = both_true r.mid.tells (state r.last_n.disk).tells (sym r.names_given.tells ∙ new_telling)

  -- the start

  keys_rules : IsService (keys_of_view r.k)
  keys_rules =
      first_keys_rules state to_come [] calls r.k (subst (λ (s : Option (KmsView D W)). LegalOf (KmsSteps {D = D} {W = W} state to_come) (KmsAllows {S = KmsView D W}) s calls) key_start r.ran.keys_closed.legal)
      (subst (λ (v : KmsView D W). IsService (keys_of_view v)) (last_call state to_come serves conns old new door door' first second props words port end failed r) r.ran.keys_rules)

  names_rules : IsNames (service_of r.n.names)
  names_rules =
      first_names_rules state to_come [] acts r.n (subst (λ (s : Option (NameView D W)). LegalOf (NameSteps {D = D} {W = W} state to_come) (NameAllows {S = NameView D W}) s acts) name_start r.ran.names_closed.legal)
      (subst (λ (v : NameView D W). IsNames (service_of v.names)) (last_act state to_come serves conns old new door door' first second props words port end failed r) r.ran.names_rules)

  start_telling : Tells (state r.k.disk)
  start_telling = let k = r.opened.logs.keys_opened in k.tells ∙ k.taken.own_tells ∙ telling

  begins : BeginsFrom old.reads r.k r.n
  begins =
      let k = r.opened.logs.keys_opened in
      let n = r.opened.logs.names_opened in
      let keys_log = k.starts.log (k.taken.own_tells ∙ telling) in
      let mid_tell = opened_tells state to_come serves conns old new door door' first second props words port end failed r in
      let names_log = n.starts.log (n.taken.own_tells ∙ mid_tell ∙ telling) in
      record {
        commands = keys_log.0;
        table = k.starts.table;
        key_log = subst (λ (b : List ℕ). keys.IsKeyLog b keys_log.0 k.starts.table) (k.taken.own_reads telling) keys_log.1;
        ops = names_log.0;
        made = record { table = n.starts.found; used = names_log.1 };
        edit_log = subst (λ (b : List ℕ). names.IsNameLog b names_log.0 (record { table = n.starts.found; used = names_log.1 })) (n.taken.own_reads (mid_tell ∙ telling) ∙ k.taken.other_reads telling) names_log.2;
        queues = r.k.kms.ready;
        keys = k.starts.opens;
        batch = props.sizes.batch;
        names = n.starts.opens;
        fit = record { keys = keys_rules; names = names_rules };
        start = r.ran.begins.kept_begins.0;
        seen = r.ran.begins.kept_begins.1;
        fronts = r.ran.begins.no_fronts;
      }

  -- the end

  closed : AreClosed state to_come r.n r.last_k r.last_n
  closed = record {
    names = r.ran.names';
    names_start = name_start;
    names_closed = r.ran.names_closed;
    keys = r.ran.keys';
    met = r.ran.met;
    kept_met = r.ran.kept_met;
    keys_closed = r.ran.keys_closed;
  }

  left : (c : Image) → IsFileOf (state r.last_k.disk) 0 (c 0) → IsFileOf (state r.last_n.disk) 1 (c 1) → IsLeftByServices state r.last_k r.last_n c
  left c keys_file names_file =
      let key_log = r.ran.keys_run.log keys_telling in
      let edit_log = r.ran.names_run names_telling in
      record {
        commands = key_log.0;
        key_log = key_log.1;
        key_file = r.ran.keys_file;
        keys = keys_file;
        ops = edit_log.0;
        edit_log = edit_log.1;
        edit_file = r.ran.names_file;
        names = names_file;
      }

  read_keys : new.reads 0 ≡ (state r.last_k.disk).reads 0
  read_keys = r.names_given.other_reads new_telling ∙ r.keys_given.reads mid_telling

  by_cells : KeptByCells state past r.n acts r.last_k r.last_n → ServerKept state past new r.n acts r.last_k r.last_n
  by_cells k = record {
    later = k.last;
    known = k.known;
    grows = known_later r.n acts past k.last k.known;
    files = k.kept;
    again = image_kept k.last new.reads (k.sound new.reads (left new.reads (inl read_keys) (inl (r.names_given.reads new_telling))));
    images = λ c keys_left names_left. image_kept k.last c (k.sound c (left c (inr keys_left) (inr names_left)));
  }

  kept : ServerKept state past new r.n acts r.last_k r.last_n
  unfolding closed
  kept = by_cells (closed_cells_keep_files state to_come past old.reads r.k r.n r.last_k r.last_n sound begins start_telling closed)

module _ {D W I O : Type 0} (state : D → DiskState) (to_come : W → ℕ → ℕ) (serves : Serving I O D W) (conns : ℕ) (old new : YardState) (door door' : DoorState I O) where
  pub servers_keep_files : ServersKeepFiles state to_come serves conns old new door door'
  servers_keep_files first second props words port end failed r telling past sound = kept state to_come serves conns old new door door' first second props words port end failed r telling past sound
