-- A check of one key with two versions, and of three files.
use Rattle.std.proofs.Common.{◌≡◌, [], ◌∷◌, codes, false, Some, None, refl}
use Rattle.inode_tree.specs.declared.rows.Kind.TheVariants.{Dir, File}
use Rattle.inode_tree.specs.Rows.{Entry}
use Rattle.key_rows.specs.declared.rows.KeyRow.{KeyRow}
use Rattle.key_rows.specs.Table.{Table}
use Rattle.name_store.specs.Table.{NameTable}
use Rattle.check_run.specs.Summary.{check_counts, line_of_entry, lost_line}

-- key k with the versions k@0 and k@1
abbrev key : KeyRow
key = record { name = codes "k"; birth = 4294967297; bits = 128; materials = [] ∷ [] ∷ []; description = []; created = 7 }

abbrev keys : Table
keys = record { opening = 1; greatest = 4294967297; rows = key ∷ [] }

-- the directories / and /z, which is a zone, and the files /h, /z/f under k@1 and /z/g under k@2
abbrev root : Entry
root = record { path = []; row = record { id = 0; kind = Dir None } }

abbrev outside : Entry
outside = record { path = codes "h" ∷ []; row = record { id = 4294967298; kind = File None } }

abbrev zone : Entry
zone = record { path = codes "z" ∷ []; row = record { id = 4294967296; kind = Dir (Some (codes "k")) } }

abbrev kept : Entry
kept = record { path = codes "z" ∷ codes "f" ∷ []; row = record { id = 4294967299; kind = File (Some (record { version = record { key = codes "k"; number = 1 }; iv = []; sealed = [] })) } }

abbrev lost : Entry
lost = record { path = codes "z" ∷ codes "g" ∷ []; row = record { id = 4294967300; kind = File (Some (record { version = record { key = codes "k"; number = 2 }; iv = []; sealed = [] })) } }

-- a snapshot of /z, and its re-encryption, which goes on
abbrev names : NameTable
names = record {
  opening = 1;
  rows = root ∷ outside ∷ zone ∷ kept ∷ lost ∷ [];
  snaps = record { allowed = 4294967296 ∷ []; taken = record { dir = 4294967296; name = codes "s"; rows = [] } ∷ [] };
  statuses = record { zone = 4294967296; session = 4294967301; noted = record { key = codes "k"; number = 1 }; completed = false; cancelled = false; reencrypted = 0; failed = 0; mark = None } ∷ [];
}

numbers : check_counts keys names ≡ record { keys = 1; versions = 2; directories = 2; files = 3; zones = 1; snapshots = 1; reencryptions = 1; lost = 1 }
numbers = refl

-- the file under k@2 has a line, and the others have none

line_of_lost : line_of_entry keys.rows lost ≡ lost_line (codes "z" ∷ codes "g" ∷ []) (record { key = codes "k"; number = 2 })
line_of_lost = refl

line_of_kept : line_of_entry keys.rows kept ≡ []
line_of_kept = refl

line_of_outside : line_of_entry keys.rows outside ≡ []
line_of_outside = refl
