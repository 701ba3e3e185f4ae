-- Files that a run may start from: they are whole, and their files in zones open.
use Rattle.std.proofs.Common.{◌≡◌, inl, inr, ℕ, ◌≤◌, ◌∙◌, Bool, true, false, List, [], ◌∷◌, Some, None, refl, sym, ap, subst, arith}
use Rattle.std.specs.Prelude.{drop, length, if◌then◌else◌}
use Rattle.std.specs.List.{AllByRecursion}
use Rattle.std.proofs.lemmas.Bool.{le-leb}
use Rattle.frame_log.specs.Format.{Found, IsAtRest, NoLog, frames_at, magic, starts_with}
use Rattle.inode_tree.specs.declared.rows.Row.{Row}
use Rattle.inode_tree.specs.Rows.{Entry, root_only}
use Rattle.key_rows.specs.declared.rows.KeyCommand.{KeyCommand}
use Rattle.key_rows.specs.declared.rows.KeyCommand.TheVariants.{Opened, Create, Roll, Delete}
use Rattle.key_rows.specs.Records.{HasSpelling}
use Rattle.key_rows.specs.Sound.{IsKeyTable}
use Rattle.key_rows.specs.Table.{Table, after, applies, no_keys}
use Rattle.key_rows.proofs.TableLemmas.{sound_create, sound_delete, sound_roll}
use Rattle.kms_store.specs.Replay.{key_replay}
use Rattle.kms_store.proofs.Layers.{not_damaged}
use Rattle.name_store.specs.Table.{key_of_zone, nothing_logged, settled_log}
use Rattle.kms_store.specs.Store.{settled_table}
use Rattle.world_run.specs.Laws.{EmptyFilesAreSound, SoundFilesAreWhole, SoundFilesOpen}
use Rattle.world_run.specs.Ledger.{Draw, drawn_before}
use Rattle.world_run.specs.Linked.{IsDrawn, LinkedTables}
use Rattle.world_run.specs.Promise.{FitsZone, edek_of}
use Rattle.world_run.proofs.KeepLemmas.{tables-open}
use Rattle.world_run.proofs.Laters.{names-with}
use Rattle.name_store.proofs.Layers.{not_damaged as names_not_damaged}

-- files that were never written

at-rest : (file : ℕ) (bytes : List ℕ) → length bytes ≤ 9 → IsAtRest file [] bytes
at-rest file bytes short = ap (λ (b : Bool). if b then Found [] 0 else (if starts_with (magic file) bytes then frames_at (length bytes) 8 (drop 8 bytes) else NoLog 0)) (le-leb (length bytes) 9 short)

pub none-drawn : (d : Draw) → IsDrawn (drawn_before (record { ledger = []; place = 0; starts = [] })) d → ⊥
none-drawn d (inl (id, none)) = absurd none
none-drawn d (inr (inl none)) = absurd none
none-drawn d (inr (inr (birth, none))) = absurd none

nothing-linked : LinkedTables (record { ledger = []; place = 0; starts = [] }) no_keys nothing_logged.table
nothing-linked = record {
  files = record {
    files = λ row e i h. elim i [ inl is ↦ let none : None ≡ Some e = ap (λ (r : Row). edek_of r.kind) (sym is) ∙ h in absurd cc | inr none ↦ absurd none ];
    zones = λ x i. elim i [ inl is ↦ subst (λ (y : Entry). FitsZone (key_of_zone root_only y.path) y.row.kind) (sym is) tt | inr none ↦ absurd none ];
    statuses = λ s i. absurd i;
    distinct = tt;
  };
  draws = record { below = λ d i. absurd (none-drawn d i); one_place = λ d f i j. absurd (none-drawn d i); born = λ d i. absurd (none-drawn d i); recent = λ d i. absurd (none-drawn d i) };
  fits = record { one_draw = λ id d f i j. absurd i; one_file = λ i j d p q. absurd p; below = λ id d i. absurd i; recent = λ id d i. absurd i; not_open = λ a d i j. absurd i; its_ask = λ id r d i at. absurd i };
  versions = λ id d row i j born. absurd i;
  covered = record {
    going_on = λ s x i. absurd i;
    completed = λ s x i. absurd i;
    still_sent = λ s x b y i. absurd i;
    walks_fit = λ s i. absurd i;
    in_zone = λ s x i. absurd i;
    uncancelled = λ s i. absurd i;
    sessions = λ session ids i. absurd i;
    files = λ session ids id i. absurd i;
    begun = λ w i. absurd i;
  };
}

pub empty-sound : EmptyFilesAreSound
empty-sound c keys names = record {
  commands = [];
  more = None;
  table = no_keys;
  ops = [];
  more_ops = None;
  made = nothing_logged;
  keys = record { spelled = tt; spelled_more = tt; makes = refl; fits = tt; log = at-rest 0 (c 0) keys };
  names = record { spelled = tt; spelled_more = tt; makes = refl; fits = tt; log = at-rest 1 (c 1) names };
  linked = λ found found_names. nothing-linked;
}

-- no damage

pub sound-whole : SoundFilesAreWhole
sound-whole past c at s = (not_damaged (c 0) s.commands s.more s.table at s.keys, names_not_damaged (c 1) s.ops s.more_ops s.made at s.names)

-- the tables that are found

table-after : (t : Table) (c : KeyCommand) → HasSpelling c → IsKeyTable t → applies t c ≡ true → IsKeyTable (after t c)
table-after t (Opened opening) spelled is may = record { opening = spelled; few = is.few; births = is.births; names = is.names; rows = is.rows }
table-after t (Create birth name bits description created material) spelled is may = sound_create t birth name bits description created material is may
table-after t (Roll birth number material) spelled is may = sound_roll t birth number material is may
table-after t (Delete birth) spelled is may = sound_delete t birth is

pub replayed-table : (t u : Table) (commands : List KeyCommand) → AllByRecursion HasSpelling commands → IsKeyTable t → key_replay t commands ≡ Some u → IsKeyTable u
replayed-table t u [] spelled is made = let same : t ≡ u = cc made in subst IsKeyTable same is
replayed-table t u (c ∷ commands) spelled is made = go (applies t c) refl (λ may. replayed-table (after t c) u commands spelled.1 (table-after t c spelled.0 is may)) made
  where
    go : (b : Bool) → applies t c ≡ b → (applies t c ≡ true → key_replay (after t c) commands ≡ Some u → IsKeyTable u) → (if b then key_replay (after t c) commands else None) ≡ Some u → IsKeyTable u
    go true may rest made = rest may made
    go false may rest made = absurd (cc made)

pub no-keys-table : IsKeyTable no_keys
no-keys-table = record { opening = omega arith; few = omega arith; births = omega arith; names = tt; rows = tt }

pub sound-open : SoundFilesOpen
sound-open past c s found found_names =
    tables-open past (settled_table found s.more s.table) (settled_log found_names s.more_ops s.made).table
    (names-with found s.more s.table (replayed-table no_keys s.table s.commands s.keys.spelled no-keys-table s.keys.makes) s.keys.fits) (s.linked found found_names)
