-- A start of both services: what it finds in the two logs, and what a crash leaves meanwhile.
use Rattle.std.proofs.Common.{◌≡◌, ◌⊎◌, inl, inr, ℕ, zero, suc, ◌+◌, ◌*◌, ◌^◌, ◌<◌, ◌≤◌, ◌==◌, ◌∙◌, Bool, true, false, List, [], ◌∷◌, ◌++◌, Option, Some, None, Ok, Err, refl, sym, ap, subst, ⊎_elim, arith}
use Rattle.std.specs.Prelude.{⊤, ◌&&◌, IfSome, IsErrOf}
use Rattle.std.specs.List.{AllByRecursion}
use Rattle.std.specs.declared.result.Result.{Result}
use Rattle.std.proofs.lemmas.Bool.Decides.{nat_tests}
use Rattle.std.proofs.lemmas.List.{map-append}
use Rattle.std.proofs.lemmas.Bool.{and_parts as both}
use Rattle.hk_base.specs.Disk.{DiskState, Image, IsImage, LeavesOnly, RunOn, Tells}
use Rattle.hk_base.proofs.Runs.{begin}
use Rattle.eek_queues.specs.Queues.{AllQueues}
use Rattle.frame_log.specs.Format.{IsAtRest}
use Rattle.frame_log.specs.Opens.{OpensLog}
use Rattle.frame_log.specs.Stands.{LeavesFrom}
use Rattle.frame_log.proofs.Openings.{opens_for, rose_since, why_for}
use Rattle.frame_log.specs.declared.fault.StartFault.{StartFault}
use Rattle.frame_log.specs.declared.fault.StartFault.TheVariants as start
use Rattle.edit_ops.specs.declared.ops.EditOp.{EditOp}
use Rattle.edit_ops.specs.declared.ops.EditOp.TheVariants as op
use Rattle.edit_ops.specs.Records.{HasSpelling as HasNameSpelling}
use Rattle.key_rows.specs.declared.rows.KeyCommand.{KeyCommand}
use Rattle.key_rows.specs.declared.rows.KeyCommand.TheVariants.{Opened, Create, Roll, Delete}
use Rattle.key_rows.specs.Records.{HasSpelling, spelling}
use Rattle.key_rows.specs.Table.{Table, after, applies}
use Rattle.prop_text.specs.SizeValues.{SizeValues}
use Rattle.kms_store.specs.Store.{AKeyOpening, Applies, IsKeyLog, IsLeftByStart, IsLogOf, Opening, OpensKeys, is_key_opening, next_opening, settled_commands, settled_table}
use Rattle.kms_store.proofs.Layers.{finds, left_by_start, log_of_store, sound_left}
use Rattle.kms_core.specs.Service.{Starts}
use Rattle.kms_core.specs.State.{Running, ServiceState, no_queues, service_after_opening}
use Rattle.kms_core.specs.Users.{running}
use Rattle.name_store.specs.Store.{AnOpening, IsDamagedAt as IsDamagedName, IsLeftByStart as IsLeftByNameStart, IsNameLog, OpensNames, SpentNames, is_opening}
use Rattle.name_store.specs.Table.{NameTable, Replayed, after_table, allows, is_fresh, next_opening as next_opening_of_names, settled_log, settled_ops}
use Rattle.name_core.specs.Service.{Starts as NamesStart}
use Rattle.name_core.specs.State.{RunningNames}
use Rattle.world_run.specs.declared.fault.WorldFault.{WorldFault}
use Rattle.world_run.specs.Acknowledged.{LeavesBoth, RunBoth}
use Rattle.world_run.specs.Keeps.{BeginsFirstWorld, IsOpenedLog, LeftByFirst, LeftBySecond, LeftByStarts}
use Rattle.world_run.specs.Ledger.{Past, drawn_before}
use Rattle.world_run.specs.Linked.{IsOldBirth, IsRecordedBirth, LinkedTables, LinkedWorld, ServicesFit, SoundFiles, StartsSound}
use Rattle.world_run.specs.Starts.{FailsAt, KeyLogOpened, OpensBoth}
use Rattle.world_run.specs.World.{RunningWorld, WorldState, first_world, none_kept, world_of}
use Rattle.world_run.proofs.BothLemmas.{both-of, keys-beside, leaves-keys}
use Rattle.world_run.proofs.CrashLemmas.{rests-now}
use Rattle.world_run.proofs.CoveredOps.{covered-same}
use Rattle.world_run.proofs.KeepLemmas.{linked-promise, world-apart}
use Rattle.world_run.proofs.Laters.{next-rises, recorded-more}
use Rattle.world_run.proofs.Members.{numbered-in}
use Rattle.world_run.proofs.RowsAfter.{files-opened}
use Rattle.world_run.proofs.SoundLemmas.{none-replied}
use Rattle.name_store.proofs.Layers.{finds as finds_names, left_by_start as names_left_by_start, sound_left as sound_names_left}
use Rattle.world_run.proofs.WorldLemmas.{draws-later, ledger-more}

-- two files as an image

abbrev pub pair : List ℕ → List ℕ → Image
pair a b zero = a
pair a b (suc file) = b

pub pair-image : (d : DiskState) (a b : List ℕ) → d.leaves 0 a → d.leaves 1 b → IsImage d (pair a b)
pair-image d a b p q zero lt = p
pair-image d a b p q (suc zero) lt = q
pair-image d a b p q (suc (suc file)) lt = absurd (omega (arith, lt))

-- only the bytes of the two files count
pair-sound : (past : Past) (c : Image) → SoundFiles past (pair (c 0) (c 1)) → SoundFiles past c
pair-sound past c s = record { commands = s.commands; more = s.more; table = s.table; ops = s.ops; more_ops = s.more_ops; made = s.made; keys = s.keys; names = s.names; linked = s.linked }

last-has : (commands : List KeyCommand) (command : KeyCommand) → AllByRecursion HasSpelling (commands ++ command ∷ []) → HasSpelling command
last-has [] command all = all.0
last-has (x ∷ xs) command all = last-has xs command all.1

-- the file that a start leaves is sound again with the other

-- a later opening of the key log
key-opened-linked : (past : Past) (t : Table) (names : NameTable) (opening : ℕ) → t.opening ≤ opening → LinkedTables past t names → LinkedTables past (record t { opening = opening }) names
key-opened-linked past t names opening le l = record {
  files = l.files;
  draws = draws-later (drawn_before past) (IsRecordedBirth t) (IsRecordedBirth (record t { opening = opening })) (λ b h. recorded-more t.opening opening b le h) l.draws;
  fits = l.fits;
  versions = l.versions;
  covered = l.covered;
}

next-key-linked : (past : Past) (t : Table) (names : NameTable) (c : KeyCommand) → is_key_opening c ≡ true → applies t c ≡ true → LinkedTables past t names → LinkedTables past (after t c) names
next-key-linked past t names (Opened opening) is may l = key-opened-linked past t names opening (next-rises t.opening opening may) l
next-key-linked past t names (Create birth name bits description created material) is may l = absurd (cc is)
next-key-linked past t names (Roll birth number material) is may l = absurd (cc is)
next-key-linked past t names (Delete birth) is may l = absurd (cc is)

-- the command that was pending, kept after all
pub key-kept-after-all : (table : Table) (kept : Bool) (more : Option KeyCommand) (c : KeyCommand) → kept ≡ false → more ≡ Some c → after (settled_table kept more table) c ≡ settled_table true more table
key-kept-after-all table kept more c dropped is =
    (λ i. after (settled_table (dropped i) (is i) table) c) ∙ ap (λ (p : Option KeyCommand). settled_table true p table) (sym is)

keys-linked : (past : Past) (names : NameTable) (more : Option KeyCommand) (table : Table) → ((found : Bool) → LinkedTables past (settled_table found more table) names) → (kept found : Bool) (behind : Option KeyCommand)
    → IfSome behind (λ c. ((kept ≡ false) × (more ≡ Some c)) ⊎ AKeyOpening kept c) → Applies (settled_table kept more table) behind
    → LinkedTables past (settled_table found behind (settled_table kept more table)) names
keys-linked past names more table linked kept found None is may = linked kept
keys-linked past names more table linked kept false (Some c) is may = linked kept
keys-linked past names more table linked kept true (Some c) (inl is) may = subst (λ (t : Table). LinkedTables past t names) (sym (key-kept-after-all table kept more c is.0 is.1)) (linked true)
keys-linked past names more table linked kept true (Some c) (inr is) may = next-key-linked past (settled_table kept more table) names c is may (linked kept)

keys-started : (past : Past) (a b left : List ℕ) → SoundFiles past (pair a b) → IsLeftByStart a left → SoundFiles past (pair left b)
keys-started past a b left s l =
    let k = left_by_start a s.commands s.more s.table s.keys left l in
    record {
      commands = s.commands ++ settled_commands k.kept s.more;
      more = k.more;
      table = settled_table k.kept s.more s.table;
      ops = s.ops;
      more_ops = s.more_ops;
      made = s.made;
      keys = sound_left s.table s.more AKeyOpening s.commands left s.keys.spelled s.keys.spelled_more s.keys.makes s.keys.fits k;
      names = s.names;
      linked = λ found found_names. keys-linked past (settled_log found_names s.more_ops s.made).table s.more s.table (λ again. s.linked again found_names) k.kept found k.more k.more_is k.fits;
    }

-- a later opening of the edit log
opened-linked : (past : Past) (keys : Table) (t : NameTable) (opening : ℕ) → t.opening ≤ opening → LinkedTables past keys t → LinkedTables past keys (record t { opening = opening })
opened-linked past keys t opening le l = record {
  files = files-opened past.ledger keys.rows t opening l.files;
  draws = l.draws;
  fits = ledger-more past.ledger [] [] [] ((t.opening + 1) * 2 ^ 32) ((opening + 1) * 2 ^ 32) (omega (arith, le)) l.fits;
  versions = l.versions;
  covered = covered-same past keys.rows t [] opening t.snaps l.covered;
}

next-linked : (past : Past) (keys : Table) (t : NameTable) (o : EditOp) → is_opening o ≡ true → allows t o ≡ true → LinkedTables past keys t → LinkedTables past keys (after_table t o)
next-linked past keys t (op.Opened opening) is may l = opened-linked past keys t opening (next t.opening opening may) l
  where
    next : (a b : ℕ) → (b == a + 1) ≡ true → a ≤ b
    next a b h = grind (arith, nat_tests)
next-linked past keys t (op.Mkdir id p) is may l = absurd (cc is)
next-linked past keys t (op.File id p edek) is may l = absurd (cc is)
next-linked past keys t (op.Remove p) is may l = absurd (cc is)
next-linked past keys t (op.Rename p q) is may l = absurd (cc is)
next-linked past keys t (op.Zone p key) is may l = absurd (cc is)
next-linked past keys t (op.Allow p) is may l = absurd (cc is)
next-linked past keys t (op.Disallow p) is may l = absurd (cc is)
next-linked past keys t (op.Snap p name) is may l = absurd (cc is)
next-linked past keys t (op.Unsnap p name) is may l = absurd (cc is)
next-linked past keys t (op.Submit session p noted) is may l = absurd (cc is)
next-linked past keys t (op.Update session failed mark files) is may l = absurd (cc is)
next-linked past keys t (op.Cancel session) is may l = absurd (cc is)
next-linked past keys t (op.Complete session) is may l = absurd (cc is)

-- the operation that was pending, kept after all
kept-after-all : (made : Replayed) (kept : Bool) (more : Option EditOp) (o : EditOp) → kept ≡ false → more ≡ Some o → after_table (settled_log kept more made).table o ≡ (settled_log true more made).table
kept-after-all made kept more o dropped is =
    (λ i. after_table (settled_log (dropped i) (is i) made).table o) ∙ ap (λ (p : Option EditOp). (settled_log true p made).table) (sym is)

names-linked : (past : Past) (keys : Table) (more : Option EditOp) (made : Replayed) → ((found : Bool) → LinkedTables past keys (settled_log found more made).table) → (kept found : Bool) (behind : Option EditOp)
    → IfSome behind (λ o. ((kept ≡ false) × (more ≡ Some o)) ⊎ AnOpening kept o) → IfSome behind (λ o. (allows (settled_log kept more made).table o && is_fresh (settled_log kept more made).used o) ≡ true)
    → LinkedTables past keys (settled_log found behind (settled_log kept more made)).table
names-linked past keys more made linked kept found None is may = linked kept
names-linked past keys more made linked kept false (Some o) is may = linked kept
names-linked past keys more made linked kept true (Some o) (inl is) may = subst (λ (t : NameTable). LinkedTables past keys t) (sym (kept-after-all made kept more o is.0 is.1)) (linked true)
names-linked past keys more made linked kept true (Some o) (inr is) may =
    next-linked past keys (settled_log kept more made).table o is (both (allows (settled_log kept more made).table o) (is_fresh (settled_log kept more made).used o) may).0 (linked kept)

names-started : (past : Past) (a b left : List ℕ) → SoundFiles past (pair a b) → IsLeftByNameStart b left → SoundFiles past (pair a left)
names-started past a b left s l =
    let n = names_left_by_start b s.ops s.more_ops s.made s.names left l in
    record {
      commands = s.commands;
      more = s.more;
      table = s.table;
      ops = s.ops ++ settled_ops n.kept s.more_ops;
      more_ops = n.more;
      made = settled_log n.kept s.more_ops s.made;
      keys = s.keys;
      names = sound_names_left s.made s.more_ops AnOpening s.ops left s.names.spelled s.names.spelled_more s.names.makes s.names.fits n;
      linked = λ found found_names. names-linked past (settled_table found s.more s.table) s.more_ops s.made (s.linked found) n.kept found_names n.more n.more_is n.fits;
    }

-- the laws of a disk at a moment, as a start needs them

pub record Moment (d : DiskState) : Type 0 where
  pub counts : (t : ℕ) (c : Image) → t ≤ d.moment → IsImage d c → d.left_since t c
  pub only : (c : Image) → d.left_since d.moment c → IsImage d c
  pub is_one : Tells d → (file : ℕ) → file < 2 → d.leaves file (d.reads file)

-- an opened key log is one that a start leaves
pub by-start : (found bytes : List ℕ) → IsOpenedLog found bytes → IsLeftByStart found bytes
by-start found bytes o =
    let command : KeyCommand = next_opening o.table in
    Opening o.commands o.table o.log
    (last-has o.commands command o.sound.spelled, inr (inl (subst (λ (payloads : List (List ℕ)). IsAtRest 0 payloads bytes) (map-append spelling o.commands (command ∷ [])) o.sound.log)))

left-sound : (old : DiskState) (past : Past) → Moment old → Tells old → StartsSound old past → (c : Image) → LeftByFirst old c ⊎ LeftBySecond old c → SoundFiles past c
left-sound old past m telling sound c left = pair-sound past c (go left)
  where
    keys-one : old.leaves 0 (old.reads 0)
    keys-one = m.is_one telling 0 (omega arith)

    names-one : old.leaves 1 (old.reads 1)
    names-one = m.is_one telling 1 (omega arith)

    second : IsLeftByStart (old.reads 0) (c 0) → old.leaves 1 (c 1) ⊎ IsLeftByNameStart (old.reads 1) (c 1) → SoundFiles past (pair (c 0) (c 1))
    second a (inl b) = keys-started past (old.reads 0) (c 1) (c 0) (sound (pair (old.reads 0) (c 1)) (pair-image old (old.reads 0) (c 1) keys-one b)) a
    second a (inr b) =
        names-started past (c 0) (old.reads 1) (c 1)
        (keys-started past (old.reads 0) (old.reads 1) (c 0) (sound (pair (old.reads 0) (old.reads 1)) (pair-image old (old.reads 0) (old.reads 1) keys-one names-one)) a) b

    go : LeftByFirst old c ⊎ LeftBySecond old c → SoundFiles past (pair (c 0) (c 1))
    go (inl f) = elim f.keys [
      | inl a ↦ sound (pair (c 0) (c 1)) (pair-image old (c 0) (c 1) a f.names)
      | inr a ↦ second a (inl f.names)
    ]
    go (inr s) = second (by-start (old.reads 0) (c 0) s.keys) s.names

left-by : (old : DiskState) → Moment old → Tells old → (c : Image) → LeftByFirst old c ⊎ LeftBySecond old c → LeftByStarts old c
left-by old m telling c left = record { left = left; sound = λ past sound. left-sound old past m telling sound c left }

-- what a crash leaves while both logs are opened

abbrev KeysMoments : DiskState → DiskState → Type 0
KeysMoments old mid = LeavesOnly 0 old mid (λ c. old.leaves 0 c ⊎ IsLeftByStart (old.reads 0) c)

abbrev NamesMoments : DiskState → DiskState → Type 0
NamesMoments mid new = LeavesOnly 1 mid new (λ c. mid.leaves 1 c ⊎ IsLeftByNameStart (mid.reads 1) c)

tells-on : (file : ℕ) (old mid : DiskState) → RunOn file old mid → Tells old → Tells mid
tells-on file old mid run telling = run.tells ∙ telling

keys-opened : (old new : DiskState) → Moment old → Tells old → KeysMoments old new → LeavesBoth old new (LeftByStarts old)
keys-opened old new m telling moments =
    leaves-keys old new (λ c. old.leaves 0 c ⊎ IsLeftByStart (old.reads 0) c) (LeftByStarts old) (λ c keys names. left-by old m telling c (inl (record { keys = keys; names = names }))) moments

-- each image of an opened key log
opened-log : (old new : DiskState) → KeyLogOpened old new → (bytes : List ℕ) → new.leaves 0 bytes → IsOpenedLog (old.reads 0) bytes
opened-log old new o bytes left = record { commands = o.commands; table = o.table; log = o.log; room = o.room; sound = o.left bytes left }

-- the opening of the edit log leaves the key log alone
keys-still-opened : (old mid new : DiskState) → KeyLogOpened old mid → RunOn 1 mid new → KeyLogOpened old new
keys-still-opened old mid new o run = record { commands = o.commands; table = o.table; log = o.log; room = o.room; left = λ bytes left. o.left bytes ((run.other_leaves bytes).0 left) }

both-opened : (old mid new : DiskState) → Moment old → RunOn 0 old mid → Tells old → KeyLogOpened old mid → KeysMoments old mid → NamesMoments mid new → LeavesBoth old new (LeftByStarts old)
both-opened old mid new m run telling opened first second = record {
  before = λ t c le left. ⊎_elim
      (λ past. ⊎_elim (λ before. inl before) (λ now. inr (left-by old m telling c (inl (record { keys = now.0; names = now.1 })))) (first.before t c le past))
      (λ now. inr (left-by old m telling c (inr (record { keys = opened-log old mid opened (c 0) now.1; names = names-then (c 1) now.0 }))))
      (second.before t c (let later = run.later in omega (arith, le, later)) left);
}
  where
    names-then : (bytes : List ℕ) → mid.leaves 1 bytes ⊎ IsLeftByNameStart (mid.reads 1) bytes → old.leaves 1 bytes ⊎ IsLeftByNameStart (old.reads 1) bytes
    names-then bytes (inl before) = inl ((run.other_leaves bytes).0 before)
    names-then bytes (inr found) = inr (subst (λ (b : List ℕ). IsLeftByNameStart b bytes) (run.other_reads telling) found)

-- an opening that was done

abbrev KeysDone : DiskState → DiskState → Type 0
KeysDone old mid = OpensKeys old mid (λ fault. ⊥)

abbrev NamesDone : DiskState → DiskState → Type 0
NamesDone mid new = OpensNames mid new (λ fault. ⊥)

-- since the first sync of its opening it leaves of each file what the opening leaves

keys-synced : (old mid : DiskState) → KeysDone old mid → Tells old → LeavesFrom 0 old mid (IsLeftByStart (old.reads 0))
keys-synced old mid o telling = ⊎_elim (λ failed. absurd failed.0) (λ since. since) (o.since_sync telling)

names-synced : (mid new : DiskState) → NamesDone mid new → Tells mid → LeavesFrom 1 mid new (IsLeftByNameStart (mid.reads 1))
names-synced mid new o telling = ⊎_elim (λ failed. absurd failed.0) (λ since. since) (o.since_sync telling)

-- the second opening leaves file 0 alone
keys-since : (old mid new : DiskState) → Moment mid → RunOn 0 old mid → Tells old → LeavesFrom 0 old mid (IsLeftByStart (old.reads 0)) → NamesMoments mid new → RunOn 1 mid new → LeavesFrom 0 old new (IsLeftByStart (old.reads 0))
keys-since old mid new n run telling since second other_run = record {
  moment = since.moment;
  begun = since.begun;
  reached = omega (arith, since.reached, other_run.later);
  only = λ c left. ⊎_elim (λ past. since.only c past)
      (λ now.
      let d = pair (c 0) (mid.reads 1) in
      since.only d (n.counts since.moment d since.reached (pair-image mid (c 0) (mid.reads 1) now.1 (n.is_one (tells-on 0 old mid run telling) 1 (omega arith)))))
      (second.before since.moment c since.reached left);
}

-- and the first opening leaves file 1 alone

names-since : (old mid new : DiskState) → RunOn 0 old mid → Tells old → LeavesFrom 1 mid new (IsLeftByNameStart (mid.reads 1)) → LeavesFrom 1 old new (IsLeftByNameStart (old.reads 1))
names-since old mid new run telling since = record {
  moment = since.moment;
  begun = omega (arith, run.later, since.begun);
  reached = since.reached;
  only = λ c left. subst (λ (b : List ℕ). IsLeftByNameStart b (c 1)) (run.other_reads telling) (since.only c left);
}

names-beside-keys : (old new : DiskState) → KeysMoments old new → LeavesBoth old new (λ c. old.leaves 1 (c 1))
names-beside-keys old new first = leaves-keys old new (λ c. old.leaves 0 c ⊎ IsLeftByStart (old.reads 0) c) (λ c. old.leaves 1 (c 1)) (λ c keys names. names) first

names-as-before : (old mid new : DiskState) → RunOn 0 old mid → KeysMoments old mid → LeavesOnly 1 mid new (mid.leaves 1) → LeavesBoth old new (λ c. old.leaves 1 (c 1))
names-as-before old mid new run first only = record {
  before = λ t c le left. ⊎_elim
      (λ past. ⊎_elim (λ before. inl before) (λ now. inr now.1) (first.before t c le past))
      (λ now. inr ((run.other_leaves (c 1)).0 now.0))
      (only.before t c (omega (arith, le, run.later)) left);
}

-- a log that was opened has room for its new opening

last-name : (ops : List EditOp) (o : EditOp) → AllByRecursion HasNameSpelling (ops ++ o ∷ []) → HasNameSpelling o
last-name [] o all = all.0
last-name (x ∷ xs) o all = last-name xs o all.1

keys-room : (old new : DiskState) (r : Running) → (s : Starts old new r) → Tells old → s.table.opening < 4294967295
keys-room old new r s telling =
    let k = s.log telling in
    let fits : s.table.opening + 1 < 2 ^ 32 = last-has k.0 (next_opening s.table) k.2.spelled in omega (arith, fits)

names-room : (old new : DiskState) (r : RunningNames) (batch : ℕ) → (s : NamesStart batch old new r) → Tells old → s.found.opening < 4294967295
names-room old new r batch s telling =
    let n = s.log telling in
    let fits : s.found.opening + 1 < 2 ^ 32 = last-name n.0 (next_opening_of_names s.found) n.3.store.log.spelled in omega (arith, fits)

-- the first world

first-linked : (past : Past) (sizes : SizeValues) (table : Table) (names : NameTable) → LinkedTables past table names → LinkedWorld (first_world sizes table names) (drawn_before past)
first-linked past sizes table names l = record {
  draws = record {
    files = λ kept. files-opened past.ledger table.rows names (names.opening + 1) l.files;
    replies = record { as_many = refl; keys_open = λ r o at. absurd (none-replied r o at); one_reply = λ n m d at other. absurd (numbered-in [] n (Some d) at) };
    draws = draws-later (drawn_before past) (IsRecordedBirth table) (IsOldBirth (first_world sizes table names).keys.keys.table) (λ b h. inl h) l.draws;
    ledger = ledger-more past.ledger [] [] [] ((names.opening + 1) * 2 ^ 32) ((names.opening + 1) * 2 ^ 32 + 1) (omega arith) l.fits;
    queues = record { opens = λ birth. tt; current = tt; rising = λ birth. tt; not_replied = λ birth d i. absurd i; not_entered = λ birth id d i. absurd i };
    tickets = λ ticket i. absurd i;
    batches = record { sent = λ batch x i j. absurd i; sessions = λ batch x i j. absurd i; back = λ r i. absurd i };
    versions = l.versions;
  };
  covered = λ kept. covered-same past table.rows names [] (names.opening + 1) names.snaps l.covered;
}

-- the two tables that are found in sound files are linked
found-linked : (past : Past) (a b : List ℕ) (commands : List KeyCommand) (table : Table) (ops : List EditOp) (made : Replayed) → SoundFiles past (pair a b) → IsKeyLog a commands table → IsNameLog b ops made
    → LinkedTables past table made.table
found-linked past a b commands table ops made s keys names =
    let f = finds a s.commands s.more s.table commands table s.keys keys in
    let g = finds_names b s.ops s.more_ops s.made ops made s.names names in
    subst (λ (t : Table). LinkedTables past t made.table) (sym f.made_is)
    (subst (λ (m : Replayed). LinkedTables past (settled_table f.kept s.more s.table) m.table) (sym g.made_is) (s.linked f.kept g.kept))

pub begins : (sizes : SizeValues) (old mid new : DiskState) (r : RunningWorld) → r.keys.ready ≡ no_queues sizes → Moment old → r.keys.store.log.file ≡ 0 → r.names.store.log.log.file ≡ 1 → ServicesFit (world_of r) → r.kept ≡ none_kept
    → RunOn 0 old mid → RunOn 1 mid new → Starts old mid (running r.keys) → NamesStart sizes.batch mid new r.names → BeginsFirstWorld sizes old new r
begins sizes old mid new r same_sizes m keys_file names_file fit nothing run other_run ks ns = record {
  table = ks.table;
  names = ns.found;
  first = first;
  log = λ telling.
      let k = ks.log telling in
      let n = ns.log (tells-on 0 old mid run telling) in
      record {
        commands = k.0;
        ops = n.0;
        used = n.1;
        keys = k.1;
        edits = edits telling;
        keys_room = keys-room old mid (running r.keys) ks telling;
        names_room = names-room mid new r.names sizes.batch ns (tells-on 0 old mid run telling);
        holds = record { keys = keys-beside mid new r.keys.store _ keys_file other_run (tells-on 0 old mid run telling) k.2; names = n.3 };
      };
  linked = linked;
  files_open = λ telling past sound. linked-promise (world_of r) (drawn_before past) fit.keys (linked telling past sound);
  draws_apart = λ telling past sound apart. world-apart (world_of r) (drawn_before past) (linked telling past sound).draws apart;
  rests = rests-now new r keys_file names_file fit;
}
  where
    first : world_of r ≡ first_world sizes ks.table ns.found
    first = λ i. record { keys = (ks.opens ∙ ap (λ (all : AllQueues). service_after_opening all ks.table) same_sizes) i; names = ns.opens i; kept = nothing i }

    edits : (telling : Tells old) → IsNameLog (old.reads 1) (ns.log (tells-on 0 old mid run telling)).0 (record { table = ns.found; used = (ns.log (tells-on 0 old mid run telling)).1 })
    edits telling = subst (λ (b : List ℕ). IsNameLog b (ns.log (tells-on 0 old mid run telling)).0 (record { table = ns.found; used = (ns.log (tells-on 0 old mid run telling)).1 })) (run.other_reads telling) (ns.log (tells-on 0 old mid run telling)).2

    linked : Tells old → (past : Past) → StartsSound old past → LinkedWorld (world_of r) (drawn_before past)
    linked telling past sound =
        subst (λ (w : WorldState). LinkedWorld w (drawn_before past)) (sym first)
        (first-linked past sizes ks.table ns.found
        (found-linked past (old.reads 0) (old.reads 1) (ks.log telling).0 ks.table (ns.log (tells-on 0 old mid run telling)).0 _
        (sound (pair (old.reads 0) (old.reads 1)) (pair-image old (old.reads 0) (old.reads 1) (m.is_one telling 0 (omega arith)) (m.is_one telling 1 (omega arith)))) (ks.log telling).1 (edits telling)))

both-runs : (old mid new : DiskState) → RunOn 0 old mid → RunOn 1 mid new → RunBoth old new
both-runs old mid new a b = record {
  tells = b.tells ∙ a.tells;
  faults = let f = a.faults in let g = b.faults in omega (arith, f, g);
  later = let f = a.later in let g = b.later in omega (arith, f, g);
}

-- a key log that was opened has its new opening, and no record is pending
pub keys-are-opened : (old new : DiskState) (r : Running) → r.store.log.file ≡ 0 → Starts old new r → Tells old → KeyLogOpened old new
keys-are-opened old new r of_file s telling =
    let k = s.log telling in
    let commands : List KeyCommand = k.0 ++ next_opening s.table ∷ [] in
    let none : r.store.pending ≡ None = ap (λ (v : ServiceState). v.pending) s.opens in
    let made : r.store.table.keys ≡ after s.table (next_opening s.table) = ap (λ (v : ServiceState). v.keys.table) s.opens in
    record {
      commands = k.0;
      table = s.table;
      log = k.1;
      room = keys-room old new r s telling;
      left = λ bytes left.
          record {
            spelled = k.2.spelled;
            spelled_more = tt;
            makes = k.2.makes ∙ ap Some made;
            fits = tt;
            log = subst (λ (o : Option KeyCommand). IsLogOf commands o bytes) none
                (log_of_store new r.store commands of_file k.2 bytes (k.2.log.leaves bytes (subst (λ (file : ℕ). new.leaves file bytes) (sym of_file) left)));
          };
    }

-- a start that fails at one of the files

not-second : zero ≡ 1 → ⊥
not-second is = absurd (omega (arith, is))

not-first : suc zero ≡ 0 → ⊥
not-first is = absurd (omega (arith, is))

-- memory runs out before a log is opened
pub no-start : (old : DiskState) → OpensBoth old old (FailsAt 0 start.NoMemory)
no-start old = record {
  file = λ file fault is. inl (sym is.0);
  keys = record { damaged = λ at is. absurd (cc is.1); spent = λ is. absurd (cc is.1); cause = λ is. absurd (cc is.1) };
  names = record { damaged = λ at is. absurd (cc is.1); spent = λ is. absurd (cc is.1); cause = λ is. absurd (cc is.1) };
  first_keys = λ fault is. absurd (not-second is.0);
  first_names = λ fault is. (begin 0 old (λ c. ⊤)).run;
  any_moment = λ telling. record { before = λ t c le left. inl left };
  since_sync_keys = λ telling. inl (inr (refl, refl), (begin 0 old (old.leaves 0)).moments);
  since_sync_names = λ telling. inl (inl (start.NoMemory, (refl, refl)), record { before = λ t c le left. inl left });
  run = both-of 0 old old (begin 0 old (λ c. ⊤)).run;
}

pub keys-not-started : (old new : DiskState) (fault : StartFault) → Moment old → OpensKeys old new (λ other. fault ≡ other) → OpensBoth old new (FailsAt 0 fault)
keys-not-started old new fault m o = record {
  file = λ file other is. inl (sym is.0);
  keys = why_for (λ other is. is.1) o.why;
  names = record { damaged = λ at is. absurd (not-second is.0); spent = λ is. absurd (not-second is.0); cause = λ is. absurd (not-second is.0) };
  first_keys = λ other is. absurd (not-second is.0);
  first_names = λ other is. o.run;
  any_moment = λ telling. keys-opened old new m telling (o.any_moment telling);
  since_sync_keys = λ telling. ⊎_elim (λ failed. inl (inl (refl, failed.0), failed.1)) (λ since. inr since) (o.since_sync telling);
  since_sync_names = λ telling. inl (inl (fault, (refl, refl)), names-beside-keys old new (o.any_moment telling));
  run = both-of 0 old new o.run;
}

-- the key log was opened, and then the edit log, or not
module _ (old mid new : DiskState) (m : Moment old) (n : Moment mid) (opened : Tells old → KeyLogOpened old mid) (o : KeysDone old mid) where
  both-moments : {fails : StartFault → Type 0} → OpensNames mid new fails → Tells old → LeavesBoth old new (LeftByStarts old)
  both-moments then telling = both-opened old mid new m o.run telling (opened telling) (o.any_moment telling) (then.any_moment (tells-on 0 old mid o.run telling))

  keys-still-synced : {fails : StartFault → Type 0} → OpensNames mid new fails → Tells old → LeavesFrom 0 old new (IsLeftByStart (old.reads 0))
  keys-still-synced then telling = keys-since old mid new n o.run telling (keys-synced old mid o telling) (then.any_moment (tells-on 0 old mid o.run telling)) then.run

  pub names-not-started : (fault : StartFault) → OpensNames mid new (λ other. fault ≡ other) → OpensBoth old new (FailsAt 1 fault)
  names-not-started fault then = record {
    file = λ file other is. inr (sym is.0);
    keys = record { damaged = λ at is. absurd (not-first is.0); spent = λ is. absurd (not-first is.0); cause = λ is. absurd (not-first is.0) };
    names = record {
      damaged = λ at is telling. subst (λ (b : List ℕ). IsDamagedName b at) (o.run.other_reads telling) (then.why.damaged at is.1 (tells-on 0 old mid o.run telling));
      spent = λ is telling. subst SpentNames (o.run.other_reads telling) (then.why.spent is.1 (tells-on 0 old mid o.run telling));
      cause = λ is. rose_since o.run.faults (then.why.cause is.1);
    };
    first_keys = λ other is telling. keys-still-opened old mid new (opened telling) then.run;
    first_names = λ other is. absurd (not-first is.0);
    any_moment = both-moments then;
    since_sync_keys = λ telling. inr (keys-still-synced then telling);
    since_sync_names = λ telling. ⊎_elim (λ failed. inl (inr (refl, failed.0), names-as-before old mid new o.run (o.any_moment telling) failed.1)) (λ since. inr (names-since old mid new o.run telling since)) (then.since_sync (tells-on 0 old mid o.run telling));
    run = both-runs old mid new o.run then.run;
  }

  pub both-started : {fails : ℕ → StartFault → Type 0} → ((file : ℕ) (fault : StartFault) → fails file fault → ⊥) → NamesDone mid new → OpensBoth old new fails
  both-started never then = record {
    file = λ file fault is. absurd (never file fault is);
    keys = record { damaged = λ at is. absurd (never 0 _ is); spent = λ is. absurd (never 0 _ is); cause = λ is. absurd (never 0 _ is) };
    names = record { damaged = λ at is. absurd (never 1 _ is); spent = λ is. absurd (never 1 _ is); cause = λ is. absurd (never 1 _ is) };
    first_keys = λ fault is. absurd (never 1 fault is);
    first_names = λ fault is. absurd (never 0 fault is);
    any_moment = both-moments then;
    since_sync_keys = λ telling. inr (keys-still-synced then telling);
    since_sync_names = λ telling. inr (names-since old mid new o.run telling (names-synced mid new then (tells-on 0 old mid o.run telling)));
    run = both-runs old mid new o.run then.run;
  }

-- a start, by its result

-- the opening of one log
module _ {file : ℕ} {Damage : List ℕ → ℕ → Type 0} {Used : List ℕ → Type 0} {Left : List ℕ → List ℕ → Type 0} {old new : DiskState} {T : Type 0} where
  pub done : (x : T) → OpensLog file Damage Used Left old new (λ fault. IsErrOf (Ok x) fault) → OpensLog file Damage Used Left old new (λ fault. ⊥)
  done x o = opens_for (λ fault none. absurd none) (λ is. absurd (cc is)) o

  pub failed : (why : StartFault) → OpensLog file Damage Used Left old new (λ fault. IsErrOf {T = T} (Err why) fault) → OpensLog file Damage Used Left old new (λ fault. why ≡ fault)
  failed why o = opens_for (λ fault is. ap Err is) (λ is. cc is) o

-- other words for the faults
pub both-for : {old new : DiskState} {fails fails' : ℕ → StartFault → Type 0} → ((file : ℕ) (fault : StartFault) → fails' file fault → fails file fault) → ((file : ℕ) (fault : StartFault) → fails file fault → fails' file fault)
    → OpensBoth old new fails → OpensBoth old new fails'
both-for f g o = record {
  file = λ file fault is. o.file file fault (f file fault is);
  keys = why_for (f 0) o.keys;
  names = why_for (f 1) o.names;
  first_keys = λ fault is. o.first_keys fault (f 1 fault is);
  first_names = λ fault is. o.first_names fault (f 0 fault is);
  any_moment = o.any_moment;
  since_sync_keys = λ telling. ⊎_elim (λ no. inl (⊎_elim (λ is. inl (g 0 start.StoreFault is)) (λ is. inr (g 0 start.NoMemory is)) no.0, no.1)) (λ since. inr since) (o.since_sync_keys telling);
  since_sync_names = λ telling. ⊎_elim (λ no. inl (⊎_elim (λ is. inl (is.0, g 0 is.0 is.1)) (λ is. inr (g 1 start.StoreFault is)) no.0, no.1)) (λ since. inr since) (o.since_sync_names telling);
  run = o.run;
}

abbrev failed-by : WorldFault → Result RunningWorld WorldFault
failed-by why = Err why

-- the fault of the result
pub fails-at : (result : Result RunningWorld WorldFault) (why : WorldFault) → IsErrOf result why → (file : ℕ) (fault : StartFault) → IsErrOf result (record { file = file; fault = fault }) → FailsAt why.file why.fault file fault
fails-at result why is file fault that =
    let one : why ≡ record { file = file; fault = fault } = cc (is, that) in
    (ap (λ (w : WorldFault). w.file) one, ap (λ (w : WorldFault). w.fault) one)

pub fails-so : (result : Result RunningWorld WorldFault) (why : WorldFault) → IsErrOf result why → (file : ℕ) (fault : StartFault) → FailsAt why.file why.fault file fault → IsErrOf result (record { file = file; fault = fault })
fails-so result why is file fault at = is ∙ (λ i. failed-by (record { file = at.0 i; fault = at.1 i }))

pub failed-at : {old new : DiskState} (file : ℕ) (fault : StartFault) → OpensBoth old new (FailsAt file fault) → OpensBoth old new (λ other_file other. IsErrOf (failed-by (record { file = file; fault = fault })) (record { file = other_file; fault = other }))
failed-at file fault o =
    let why : WorldFault = record { file = file; fault = fault } in
    both-for (fails-at (failed-by why) why refl) (fails-so (failed-by why) why refl) o
