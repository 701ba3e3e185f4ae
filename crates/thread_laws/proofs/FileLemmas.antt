-- Histories that begin from sound files begin linked, and leave sound files.
use Rattle.std.proofs.Common.{◌≡◌, inl, inr, ℕ, zero, suc, ◌+◌, ◌*◌, ◌^◌, ◌<◌, List, [], map, Option, Some, refl, sym, subst, arith}
use Rattle.std.specs.Option.{option_map}
use Rattle.hk_base.specs.Disk.{DiskState, Image, IsImage}
use Rattle.edit_ops.specs.declared.ops.EditOp.{EditOp}
use Rattle.edit_ops.specs.Records.{spelling as name_spelling}
use Rattle.eek_queues.specs.Queues.{AllQueues}
use Rattle.frame_log.specs.Stands.{Is, Stands, front}
use Rattle.frame_log.specs.declared.log.Log.{Log}
use Rattle.key_rows.specs.declared.rows.KeyCommand.{KeyCommand}
use Rattle.key_rows.specs.Records.{spelling}
use Rattle.key_rows.specs.Table.{Table}
use Rattle.kms_core.specs.State.{ServiceState, service_after_opening}
use Rattle.kms_store.specs.Store as keys
use Rattle.kms_store.specs.Store.{IsKeyLog, IsKeyStoreOf, settled_table}
use Rattle.kms_store.proofs.Layers.{finds}
use Rattle.name_core.specs.State.{IsNamesystemOf, NameService, RunningNames, service_of, started}
use Rattle.name_store.specs.Store.{IsNameLog}
use Rattle.name_store.specs.Table.{NameTable, Replayed, settled_log}
use Rattle.name_store.proofs.Layers.{finds as finds_names}
use Rattle.hist_cell.specs.History.{LegalAfter, state_after}
use Rattle.kms_cell.specs.Steps.{KmsSteps}
use Rattle.kms_cell.specs.Tickets.{KmsAllows}
use Rattle.kms_cell.specs.Views.{KmsView}
use Rattle.name_history.specs.Views.{NameView}
use Rattle.world_run.specs.Acknowledged.{Acknowledged, HoldsLogs}
use Rattle.world_run.specs.Ledger.{Draw, FilesAtSubmission, Hidden, Ledger, Past, drawn_before, past_of}
use Rattle.world_run.specs.Linked.{IsOldBirth, IsRecordedBirth, LinkedTables, LinkedWorld, ServicesFit, SoundFiles}
use Rattle.world_run.specs.Promise.{In}
use Rattle.world_run.specs.World.{RunningWorld, none_kept, world_of}
use Rattle.world_run.proofs.CoveredKeys.{covered-place}
use Rattle.world_run.proofs.CoveredOps.{covered-same}
use Rattle.world_run.proofs.CrashLemmas.{rests-now}
use Rattle.world_run.proofs.Members.{numbered-in}
use Rattle.world_run.proofs.RowsAfter.{files-opened}
use Rattle.world_run.proofs.SoundLemmas.{none-replied}
use Rattle.world_run.proofs.WorldLemmas.{draws-later, ledger-more}
use Rattle.thread_laws.specs.Files.{HistoriesKeepFiles, IsFileOf, IsLeftByServices, LeavesSound, SoundFilesBeginLinked}
use Rattle.thread_laws.specs.Keys.{StaysOpen}
use Rattle.thread_laws.specs.Promise.{BeginsLinked}
use Rattle.thread_laws.specs.Worlds.{world_with}
use Rattle.thread_laws.proofs.Courses.{Tied, tied-after}
use Rattle.thread_laws.proofs.HistoryLemmas.{legal-second, state_after-both}
use Rattle.thread_laws.proofs.KeysKeep.{keys_keep_files_open, rules-after}
use Rattle.thread_laws.proofs.PromiseLemmas.{begins-tied, tied-keeps}

-- the start

first-linked : (past : Past) (queues : AllQueues) (table : Table) (batch : ℕ) (names : NameTable) → LinkedTables past table names
    → LinkedWorld (world_with (service_after_opening queues table) (started batch names) none_kept) (drawn_before past)
first-linked past queues table batch names l = record {
  draws = record {
    files = λ kept. files-opened past.ledger table.rows names (names.opening + 1) l.files;
    replies = record { as_many = refl; keys_open = λ r o at. absurd (none-replied r o at); one_reply = λ n m d at other. absurd (numbered-in [] n (Some d) at) };
    draws = draws-later (drawn_before past) (IsRecordedBirth table) (IsOldBirth (service_after_opening queues table).keys.table) (λ b h. inl h) l.draws;
    ledger = ledger-more past.ledger [] [] [] ((names.opening + 1) * 2 ^ 32) ((names.opening + 1) * 2 ^ 32 + 1) (omega arith) l.fits;
    queues = record { opens = λ birth. tt; current = tt; rising = λ birth. tt; not_replied = λ birth d i. absurd i; not_entered = λ birth id d i. absurd i };
    tickets = λ ticket i. absurd i;
    batches = record { sent = λ batch x i j. absurd i; sessions = λ batch x i j. absurd i; back = λ r i. absurd i };
    versions = l.versions;
  };
  covered = λ kept. covered-same past table.rows names [] (names.opening + 1) names.snaps l.covered;
}

-- the two tables that are found in sound files are linked
found-linked : (past : Past) (c : Image) (commands : List KeyCommand) (table : Table) (ops : List EditOp) (made : Replayed) → SoundFiles past c → IsKeyLog (c 0) commands table → IsNameLog (c 1) ops made → LinkedTables past table made.table
found-linked past c commands table ops made s keys names =
    let f = finds (c 0) s.commands s.more s.table commands table s.keys keys in
    let g = finds_names (c 1) s.ops s.more_ops s.made ops made s.names names in
    subst (λ (t : Table). LinkedTables past t made.table) (sym f.made_is)
    (subst (λ (m : Replayed). LinkedTables past (settled_table f.kept s.more s.table) m.table) (sym g.made_is) (s.linked f.kept g.kept))

pub sound_files_begin_linked : {D W : Type 0} → SoundFilesBeginLinked D W
sound_files_begin_linked past c k v s b = record {
  start = b.start;
  seen = b.seen;
  fronts = b.fronts;
  fit = b.fit;
  linked = subst (λ (keys : ServiceState). LinkedWorld (world_with keys (service_of v.names) none_kept) (drawn_before past)) (sym b.keys)
      (subst (λ (names : NameService). LinkedWorld (world_with (service_after_opening b.queues b.table) names none_kept) (drawn_before past)) (sym b.names)
      (first-linked past b.queues b.table b.batch b.made.table (found-linked past c b.commands b.table b.ops b.made s b.key_log b.edit_log)));
}

-- the end: the key log of one disk beside the edit log of another

reads-beside : DiskState → DiskState → ℕ → List ℕ
reads-beside d e zero = d.reads zero
reads-beside d e (suc file) = e.reads (suc file)

leaves-beside : DiskState → DiskState → ℕ → List ℕ → Type 0
leaves-beside d e zero bytes = IsFileOf d zero bytes
leaves-beside d e (suc file) bytes = IsFileOf e (suc file) bytes

beside : DiskState → DiskState → DiskState
beside d e = record d { reads = reads-beside d e; leaves = leaves-beside d e }

-- the file of the one disk reads as that of the other, and a crash leaves of it what that reads as or what a crash leaves of that
record IsAs (d e : DiskState) (file : ℕ) : Type 0 where
  reads : d.reads file ≡ e.reads file
  leaves : (bytes : List ℕ) → d.leaves file bytes → IsFileOf e file bytes
  back : (bytes : List ℕ) → IsFileOf e file bytes → d.leaves file bytes

as-first : (d e : DiskState) (file : ℕ) → file ≡ 0 → IsAs (beside d e) d file
unfolding beside reads-beside leaves-beside
as-first d e zero is = record { reads = refl; leaves = λ bytes l. l; back = λ bytes l. l }
as-first d e (suc file) is = absurd (cc is)

as-second : (d e : DiskState) (file : ℕ) → file ≡ 1 → IsAs (beside d e) e file
unfolding beside reads-beside leaves-beside
as-second d e zero is = absurd (cc is)
as-second d e (suc file) is = record { reads = refl; leaves = λ bytes l. l; back = λ bytes l. l }

stands-as : (d e : DiskState) (log : Log) (payloads : List (List ℕ)) (unsettled : Option (List ℕ)) → IsAs d e log.file → Stands e log payloads unsettled → Stands d log payloads unsettled
stands-as d e log payloads unsettled same s = record {
  is_base = s.is_base;
  sized = s.sized;
  payload = s.payload;
  end = s.end;
  waits = s.waits;
  reads = subst (λ (b : List ℕ). Is (front log.file payloads) unsettled b) (sym same.reads) s.reads;
  leaves = λ bytes l. elim (same.leaves bytes l) [
    | inl reads ↦ subst (λ (b : List ℕ). Is (front log.file payloads) unsettled b) (sym reads) s.reads
    | inr left ↦ s.leaves bytes left
  ];
}

keys-stand : (d e : DiskState) (store : keys.StoreState) (commands : List KeyCommand) → IsAs d e store.log.file → IsKeyStoreOf e store commands → IsKeyStoreOf d store commands
keys-stand d e store commands same s = record { spelled = s.spelled; makes = s.makes; waits = s.waits; log = stands-as d e store.log (map spelling commands) (option_map spelling store.pending) same s.log; materials = s.materials }

names-stand : (d e : DiskState) (r : RunningNames) (ops : List EditOp) → IsAs d e r.store.log.log.file → IsNamesystemOf e r ops → IsNamesystemOf d r ops
names-stand d e r ops same s = record {
  used = s.used;
  store = record {
    log = record {
      spelled = s.store.log.spelled;
      waits = s.store.log.waits;
      log = stands-as d e r.store.log.log (map name_spelling ops) (option_map name_spelling r.store.log.pending) same s.store.log.log;
    };
    makes = s.store.makes;
    waits = s.store.waits;
  };
  below = s.below;
  free = s.free;
}

-- sound files name no place of the next draw, except that each draw of the ledger comes before it
sound-as : (p q : Past) (c : Image) → p.ledger ≡ q.ledger → p.starts ≡ q.starts → ((id : ℕ) (d : Draw) → In (id, d) q.ledger → d.place < q.place) → SoundFiles p c → SoundFiles q c
sound-as p q c ledger starts below s = record {
  commands = s.commands;
  more = s.more;
  table = s.table;
  ops = s.ops;
  more_ops = s.more_ops;
  made = s.made;
  keys = s.keys;
  names = s.names;
  linked = λ found found_names. placed (settled_table found s.more s.table) (settled_log found_names s.more_ops s.made).table (
      subst (λ (x : FilesAtSubmission). LinkedTables (record { ledger = q.ledger; place = p.place; starts = x }) (settled_table found s.more s.table) (settled_log found_names s.more_ops s.made).table) starts
      (subst (λ (l : Ledger). LinkedTables (record { ledger = l; place = p.place; starts = p.starts }) (settled_table found s.more s.table) (settled_log found_names s.more_ops s.made).table) ledger
      (s.linked found found_names))
      );
}
  where
    placed : (keys : Table) (names : NameTable) → LinkedTables (record { ledger = q.ledger; place = p.place; starts = q.starts }) keys names → LinkedTables q keys names
    placed keys names l = record {
      files = l.files;
      draws = record {
        below = λ d i. elim i [
          | inl entered ↦ below entered.0 d entered.1
          | inr none ↦ absurd (elim none [ inl replied ↦ replied | inr queued ↦ queued.1 ])
        ];
        one_place = l.draws.one_place;
        born = l.draws.born;
        recent = l.draws.recent;
      };
      fits = l.fits;
      versions = l.versions;
      covered = covered-place (record { ledger = q.ledger; place = p.place; starts = q.starts }) q.place keys.rows names [] l.covered;
    }

-- what a crash leaves of both disks, while nothing is written
left-sound : (d e : DiskState) (r : RunningWorld) (h : Hidden) (commands : List KeyCommand) (ops : List EditOp) (c : Image) → r.keys.store.log.file ≡ 0 → r.names.store.log.log.file ≡ 1 → ServicesFit (world_of r) → LinkedWorld (world_of r) h
    → IsKeyStoreOf d r.keys.store commands → IsNamesystemOf e r.names ops → IsFileOf d 0 (c 0) → IsFileOf e 1 (c 1) → SoundFiles (past_of h) c
left-sound d e r h commands ops c keys_file names_file fit l key_log edit_log left_keys left_names = (rests-now (beside d e) r keys_file names_file fit done logs c image).1 h l
  where
    done : Acknowledged
    done = record { keys = commands; names = ops }

    logs : HoldsLogs (beside d e) r done
    logs = record {
      keys = keys-stand (beside d e) d r.keys.store commands (as-first d e r.keys.store.log.file keys_file) key_log;
      names = names-stand (beside d e) e r.names ops (as-second d e r.names.store.log.log.file names_file) edit_log;
    }

    image : IsImage (beside d e) c
    image zero within = (as-first d e 0 refl).back (c 0) left_keys
    image (suc zero) within = (as-second d e 1 refl).back (c 1) left_names
    image (suc (suc file)) within = absurd (omega (arith, within))

module _ {D W : Type 0} (state : D → DiskState) (to_come : W → ℕ → ℕ) where
  pub tied-leaves : (k : KmsView D W) (v : NameView D W) (t : Tied k v) → LeavesSound state to_come k v (past_of t.hidden)
  tied-leaves k v t more legal c left = sound-as (past_of m.hidden) (past_of t.hidden) c m.ledger m.starts (λ id d i. t.linked.draws.draws.below d (inl (id, i))) sound
    where
      second : LegalAfter (KmsSteps {D = D} {W = W} state to_come) (KmsAllows {S = KmsView D W}) v.keys.seen (state_after k v.keys.seen) more
      second = legal-second (KmsSteps {D = D} {W = W} state to_come) (KmsAllows {S = KmsView D W}) [] v.keys.seen more k legal

      last : KmsView D W
      last = state_after (state_after k v.keys.seen) more

      m : StaysOpen (service_of v.names) t.hidden last
      m = keys_keep_files_open state to_come v.keys.seen more (state_after k v.keys.seen) (service_of v.names) t.kept t.hidden t.fit t.linked t.ties.tickets second

      at : IsLeftByServices state last v c
      at = subst (λ (s : KmsView D W). IsLeftByServices state s v c) (state_after-both k v.keys.seen more) left

      sound : SoundFiles (past_of m.hidden) c
      sound =
          left-sound (state last.disk) (state v.disk) (record { keys = last.kms; names = v.names; kept = m.kept }) m.hidden at.commands at.ops c at.key_file at.edit_file
          (record { keys = rules-after state to_come v.keys.seen more (state_after k v.keys.seen) second t.fit.keys; names = t.fit.names }) m.linked at.key_log at.edit_log at.keys at.names

  pub histories_keep_files : HistoriesKeepFiles state to_come
  histories_keep_files past c k v es s begins telling legal =
      let b : BeginsLinked k v (drawn_before past) = sound_files_begin_linked past c k v s begins in
      let last = tied-after state to_come k telling [] es v (begins-tied state to_come k v (drawn_before past) b) b.start legal in
      record { last = past_of last.tied.hidden; known = last.known; kept = tied-keeps state to_come k (state_after v es) last.tied; sound = tied-leaves k (state_after v es) last.tied }
