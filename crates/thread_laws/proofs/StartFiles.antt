-- What a start leaves of sound files is sound again.
use Rattle.std.proofs.Common.{◌≡◌, ◌⊎◌, inl, inr, ℕ, zero, suc, ◌+◌, ◌*◌, ◌^◌, ◌≤◌, ◌==◌, Bool, true, false, List, [], ◌++◌, Option, Some, None, refl, sym, ap, subst, ◌∙◌, arith}
use Rattle.std.specs.Prelude.{◌&&◌, IfSome}
use Rattle.std.proofs.lemmas.Bool.Decides.{nat_tests}
use Rattle.std.proofs.lemmas.Bool.{and_parts}
use Rattle.hk_base.specs.Disk.{Image}
use Rattle.edit_ops.specs.declared.ops.EditOp.{EditOp}
use Rattle.edit_ops.specs.declared.ops.EditOp.TheVariants as op
use Rattle.key_rows.specs.declared.rows.KeyCommand.{KeyCommand}
use Rattle.key_rows.specs.declared.rows.KeyCommand.TheVariants.{Opened, Create, Roll, Delete}
use Rattle.key_rows.specs.Table.{Table, after, applies}
use Rattle.kms_store.specs.Store.{AKeyOpening, Applies, IsLeftByStart, is_key_opening, settled_commands, settled_table}
use Rattle.kms_store.proofs.Layers.{left_by_start, sound_left}
use Rattle.name_store.specs.Store.{AnOpening, IsLeftByStart as IsLeftByNameStart, is_opening}
use Rattle.name_store.specs.Table.{NameTable, Replayed, after_table, allows, is_fresh, settled_log, settled_ops}
use Rattle.name_store.specs.Store as names
use Rattle.name_store.proofs.Layers.{left_by_start as names_left_by_start, sound_left as sound_names_left}
use Rattle.world_run.specs.Ledger.{Past, drawn_before}
use Rattle.world_run.specs.Linked.{IsRecordedBirth, LinkedTables, SoundFiles}
use Rattle.world_run.proofs.CoveredOps.{covered-same}
use Rattle.world_run.proofs.Laters.{next-rises, recorded-more}
use Rattle.world_run.proofs.RowsAfter.{files-opened}
use Rattle.world_run.proofs.WorldLemmas.{draws-later, ledger-more}
use Rattle.kms_store.specs.Store as keys
use Rattle.thread_laws.specs.Files.{StartsLeaveSound}

-- the key log

-- a later opening of the key log
key-opened-linked : (past : Past) (t : Table) (names : NameTable) (opening : ℕ) → t.opening ≤ opening → LinkedTables past t names → LinkedTables past (record t { opening = opening }) names
key-opened-linked past t names opening le l = record {
  files = l.files;
  draws = draws-later (drawn_before past) (IsRecordedBirth t) (IsRecordedBirth (record t { opening = opening })) (λ b h. recorded-more t.opening opening b le h) l.draws;
  fits = l.fits;
  versions = l.versions;
  covered = l.covered;
}

next-key-linked : (past : Past) (t : Table) (names : NameTable) (c : KeyCommand) → is_key_opening c ≡ true → applies t c ≡ true → LinkedTables past t names → LinkedTables past (after t c) names
next-key-linked past t names (Opened opening) is may l = key-opened-linked past t names opening (next-rises t.opening opening may) l
next-key-linked past t names (Create birth name bits description created material) is may l = absurd (cc is)
next-key-linked past t names (Roll birth number material) is may l = absurd (cc is)
next-key-linked past t names (Delete birth) is may l = absurd (cc is)

-- the command that was pending, kept after all
key-kept-after-all : (table : Table) (kept : Bool) (more : Option KeyCommand) (c : KeyCommand) → kept ≡ false → more ≡ Some c → after (settled_table kept more table) c ≡ settled_table true more table
key-kept-after-all table kept more c dropped is =
    (λ i. after (settled_table (dropped i) (is i) table) c) ∙ ap (λ (p : Option KeyCommand). settled_table true p table) (sym is)

keys-linked : (past : Past) (names : NameTable) (more : Option KeyCommand) (table : Table) → ((found : Bool) → LinkedTables past (settled_table found more table) names) → (kept found : Bool) (behind : Option KeyCommand)
    → IfSome behind (λ c. ((kept ≡ false) × (more ≡ Some c)) ⊎ AKeyOpening kept c) → Applies (settled_table kept more table) behind
    → LinkedTables past (settled_table found behind (settled_table kept more table)) names
keys-linked past names more table linked kept found None is may = linked kept
keys-linked past names more table linked kept false (Some c) is may = linked kept
keys-linked past names more table linked kept true (Some c) (inl is) may = subst (λ (t : Table). LinkedTables past t names) (sym (key-kept-after-all table kept more c is.0 is.1)) (linked true)
keys-linked past names more table linked kept true (Some c) (inr is) may = next-key-linked past (settled_table kept more table) names c is may (linked kept)

-- the edit log

-- a later opening of the edit log
opened-linked : (past : Past) (keys : Table) (t : NameTable) (opening : ℕ) → t.opening ≤ opening → LinkedTables past keys t → LinkedTables past keys (record t { opening = opening })
opened-linked past keys t opening le l = record {
  files = files-opened past.ledger keys.rows t opening l.files;
  draws = l.draws;
  fits = ledger-more past.ledger [] [] [] ((t.opening + 1) * 2 ^ 32) ((opening + 1) * 2 ^ 32) (omega (arith, le)) l.fits;
  versions = l.versions;
  covered = covered-same past keys.rows t [] opening t.snaps l.covered;
}

next-linked : (past : Past) (keys : Table) (t : NameTable) (o : EditOp) → is_opening o ≡ true → allows t o ≡ true → LinkedTables past keys t → LinkedTables past keys (after_table t o)
next-linked past keys t (op.Opened opening) is may l = opened-linked past keys t opening (next t.opening opening may) l
  where
    next : (a b : ℕ) → (b == a + 1) ≡ true → a ≤ b
    next a b h = grind (arith, nat_tests)
next-linked past keys t (op.Mkdir id p) is may l = absurd (cc is)
next-linked past keys t (op.File id p edek) is may l = absurd (cc is)
next-linked past keys t (op.Remove p) is may l = absurd (cc is)
next-linked past keys t (op.Rename p q) is may l = absurd (cc is)
next-linked past keys t (op.Zone p key) is may l = absurd (cc is)
next-linked past keys t (op.Allow p) is may l = absurd (cc is)
next-linked past keys t (op.Disallow p) is may l = absurd (cc is)
next-linked past keys t (op.Snap p name) is may l = absurd (cc is)
next-linked past keys t (op.Unsnap p name) is may l = absurd (cc is)
next-linked past keys t (op.Submit session p noted) is may l = absurd (cc is)
next-linked past keys t (op.Update session failed mark files) is may l = absurd (cc is)
next-linked past keys t (op.Cancel session) is may l = absurd (cc is)
next-linked past keys t (op.Complete session) is may l = absurd (cc is)

-- the operation that was pending, kept after all
kept-after-all : (made : Replayed) (kept : Bool) (more : Option EditOp) (o : EditOp) → kept ≡ false → more ≡ Some o → after_table (settled_log kept more made).table o ≡ (settled_log true more made).table
kept-after-all made kept more o dropped is =
    (λ i. after_table (settled_log (dropped i) (is i) made).table o) ∙ ap (λ (p : Option EditOp). (settled_log true p made).table) (sym is)

names-linked : (past : Past) (keys : Table) (more : Option EditOp) (made : Replayed) → ((found : Bool) → LinkedTables past keys (settled_log found more made).table) → (kept found : Bool) (behind : Option EditOp)
    → IfSome behind (λ o. ((kept ≡ false) × (more ≡ Some o)) ⊎ AnOpening kept o) → IfSome behind (λ o. (allows (settled_log kept more made).table o && is_fresh (settled_log kept more made).used o) ≡ true)
    → LinkedTables past keys (settled_log found behind (settled_log kept more made)).table
names-linked past keys more made linked kept found None is may = linked kept
names-linked past keys more made linked kept false (Some o) is may = linked kept
names-linked past keys more made linked kept true (Some o) (inl is) may = subst (λ (t : NameTable). LinkedTables past keys t) (sym (kept-after-all made kept more o is.0 is.1)) (linked true)
names-linked past keys more made linked kept true (Some o) (inr is) may =
    next-linked past keys (settled_log kept more made).table o is (and_parts (allows (settled_log kept more made).table o) (is_fresh (settled_log kept more made).used o) may).0 (linked kept)

-- and_parts files

keys-started : (past : Past) (c left : Image) → SoundFiles past c → IsLeftByStart (c 0) (left 0) → left 1 ≡ c 1 → SoundFiles past left
keys-started past c left s l same =
    let k = left_by_start (c 0) s.commands s.more s.table s.keys (left 0) l in
    record {
      commands = s.commands ++ settled_commands k.kept s.more;
      more = k.more;
      table = settled_table k.kept s.more s.table;
      ops = s.ops;
      more_ops = s.more_ops;
      made = s.made;
      keys = sound_left s.table s.more AKeyOpening s.commands (left 0) s.keys.spelled s.keys.spelled_more s.keys.makes s.keys.fits k;
      names = subst (λ (b : List ℕ). names.IsSoundLog b s.ops s.more_ops s.made) (sym same) s.names;
      linked = λ found found_names. keys-linked past (settled_log found_names s.more_ops s.made).table s.more s.table (λ again. s.linked again found_names) k.kept found k.more k.more_is k.fits;
    }

names-started : (past : Past) (c left : Image) → SoundFiles past c → left 0 ≡ c 0 → IsLeftByNameStart (c 1) (left 1) → SoundFiles past left
names-started past c left s same l =
    let n = names_left_by_start (c 1) s.ops s.more_ops s.made s.names (left 1) l in
    record {
      commands = s.commands;
      more = s.more;
      table = s.table;
      ops = s.ops ++ settled_ops n.kept s.more_ops;
      more_ops = n.more;
      made = settled_log n.kept s.more_ops s.made;
      keys = subst (λ (b : List ℕ). keys.IsSoundLog b s.commands s.more s.table) (sym same) s.keys;
      names = sound_names_left s.made s.more_ops AnOpening s.ops (left 1) s.names.spelled s.names.spelled_more s.names.makes s.names.fits n;
      linked = λ found found_names. names-linked past (settled_table found s.more s.table) s.more_ops s.made (s.linked found) n.kept found_names n.more n.more_is n.fits;
    }

-- other bytes of the first file
with-keys : Image → List ℕ → Image
with-keys c bytes zero = bytes
with-keys c bytes (suc file) = c (suc file)

pub starts_leave_sound : StartsLeaveSound
unfolding with-keys
starts_leave_sound past c left s (inl keys_same) (inl names_same) = record {
  commands = s.commands;
  more = s.more;
  table = s.table;
  ops = s.ops;
  more_ops = s.more_ops;
  made = s.made;
  keys = subst (λ (b : List ℕ). keys.IsSoundLog b s.commands s.more s.table) (sym keys_same) s.keys;
  names = subst (λ (b : List ℕ). names.IsSoundLog b s.ops s.more_ops s.made) (sym names_same) s.names;
  linked = s.linked;
}
starts_leave_sound past c left s (inl keys_same) (inr started) = names-started past c left s keys_same started
starts_leave_sound past c left s (inr started) (inl names_same) = keys-started past c left s started names_same
starts_leave_sound past c left s (inr started) (inr names_started) = names-started past (with-keys c (left 0)) left (keys-started past c (with-keys c (left 0)) s started refl) refl names_started
