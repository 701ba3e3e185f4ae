-- The image of a small table: a zone with one file, a snapshot of the zone, and a re-encryption that has ended.
use Rattle.std.proofs.Common.{◌≡◌, ℕ, ◌+◌, ◌^◌, true, false, List, [], ◌∷◌, length, Some, None, refl}
use Rattle.hk_base.specs.Names.{Encrypted}
use Rattle.inode_tree.specs.declared.rows.Kind.TheVariants.{Dir, File}
use Rattle.inode_tree.specs.Rows.{Entry}
use Rattle.snap_store.specs.Snapshots.{Snapshot}
use Rattle.zone_table.specs.declared.statuses.StatusRow.{StatusRow}
use Rattle.name_store.specs.Table.{NameTable, nothing_logged}
use Rattle.name_images.specs.Images.{by_zone, name_image}

abbrev key : List ℕ
key = 107 ∷ []

abbrev f : List ℕ
f = 102 ∷ []

abbrev z : List ℕ
z = 122 ∷ []

abbrev id_of : ℕ → ℕ
id_of n = 2 ^ 32 + n

abbrev edek : Encrypted
edek = record {
  version = record { key = key; number = 0 };
  iv = 1 ∷ 2 ∷ 3 ∷ 4 ∷ 5 ∷ 6 ∷ 7 ∷ 8 ∷ 9 ∷ 10 ∷ 11 ∷ 12 ∷ 13 ∷ 14 ∷ 15 ∷ 16 ∷ [];
  sealed = 201 ∷ 202 ∷ 203 ∷ 204 ∷ 205 ∷ 206 ∷ 207 ∷ 208 ∷ 209 ∷ 210 ∷ 211 ∷ 212 ∷ 213 ∷ 214 ∷ 215 ∷ 216 ∷ [];
}

-- the zone and its file, seen from the directory at a path
abbrev zone_rows : List (List ℕ) → List (List ℕ) → List Entry
zone_rows p q =
    record { path = p; row = record { id = id_of 1; kind = Dir (Some key) } }
    ∷ record { path = q; row = record { id = id_of 2; kind = File (Some edek) } } ∷ []

abbrev snapshot : Snapshot
snapshot = record { dir = id_of 1; name = 115 ∷ []; rows = zone_rows [] (f ∷ []) }

abbrev status : StatusRow
status = record {
  zone = id_of 1;
  session = id_of 3;
  noted = record { key = key; number = 0 };
  completed = true;
  cancelled = false;
  reencrypted = 1;
  failed = 0;
  mark = Some (f ∷ []);
}

abbrev table : NameTable
table = record {
  opening = 1;
  rows = record { path = []; row = record { id = 0; kind = Dir None } } ∷ zone_rows (z ∷ []) (z ∷ f ∷ []);
  snaps = record { allowed = id_of 1 ∷ []; taken = snapshot ∷ [] };
  statuses = status ∷ [];
}

abbrev image : List ℕ
image =
    0 ∷ 0 ∷ 0 ∷ 1 ∷ 0 ∷ 0 ∷ 0 ∷ 3 ∷ 0 ∷ 1 ∷ 47 ∷ 0 ∷ 0 ∷ 0 ∷ 0 ∷ 0 ∷ 0 ∷ 0 ∷ 0 ∷ 0 ∷ 0 ∷ 0 ∷ 2 ∷ 47 ∷ 122 ∷ 0 ∷ 0 ∷ 0 ∷ 1 ∷ 0 ∷
    0 ∷ 0 ∷ 1 ∷ 0 ∷ 1 ∷ 1 ∷ 107 ∷ 0 ∷ 4 ∷ 47 ∷ 122 ∷ 47 ∷ 102 ∷ 0 ∷ 0 ∷ 0 ∷ 1 ∷ 0 ∷ 0 ∷ 0 ∷ 2 ∷ 1 ∷ 1 ∷ 1 ∷ 107 ∷ 0 ∷ 0 ∷ 1 ∷ 2 ∷ 3 ∷
    4 ∷ 5 ∷ 6 ∷ 7 ∷ 8 ∷ 9 ∷ 10 ∷ 11 ∷ 12 ∷ 13 ∷ 14 ∷ 15 ∷ 16 ∷ 16 ∷ 201 ∷ 202 ∷ 203 ∷ 204 ∷ 205 ∷ 206 ∷ 207 ∷ 208 ∷ 209 ∷ 210 ∷ 211 ∷ 212 ∷ 213 ∷ 214 ∷ 215 ∷ 216 ∷
    0 ∷ 0 ∷ 0 ∷ 1 ∷ 0 ∷ 0 ∷ 0 ∷ 1 ∷ 0 ∷ 0 ∷ 0 ∷ 1 ∷ 0 ∷ 0 ∷ 0 ∷ 1 ∷ 0 ∷ 0 ∷ 0 ∷ 1 ∷ 0 ∷ 0 ∷ 0 ∷ 1 ∷ 0 ∷ 1 ∷ 115 ∷ 0 ∷ 0 ∷ 0 ∷
    2 ∷ 0 ∷ 1 ∷ 47 ∷ 0 ∷ 0 ∷ 0 ∷ 1 ∷ 0 ∷ 0 ∷ 0 ∷ 1 ∷ 0 ∷ 1 ∷ 1 ∷ 107 ∷ 0 ∷ 2 ∷ 47 ∷ 102 ∷ 0 ∷ 0 ∷ 0 ∷ 1 ∷ 0 ∷ 0 ∷ 0 ∷ 2 ∷ 1 ∷ 1 ∷
    1 ∷ 107 ∷ 0 ∷ 0 ∷ 1 ∷ 2 ∷ 3 ∷ 4 ∷ 5 ∷ 6 ∷ 7 ∷ 8 ∷ 9 ∷ 10 ∷ 11 ∷ 12 ∷ 13 ∷ 14 ∷ 15 ∷ 16 ∷ 16 ∷ 201 ∷ 202 ∷ 203 ∷ 204 ∷ 205 ∷ 206 ∷ 207 ∷ 208 ∷ 209 ∷
    210 ∷ 211 ∷ 212 ∷ 213 ∷ 214 ∷ 215 ∷ 216 ∷ 0 ∷ 0 ∷ 0 ∷ 1 ∷ 0 ∷ 0 ∷ 0 ∷ 1 ∷ 0 ∷ 0 ∷ 0 ∷ 1 ∷ 0 ∷ 0 ∷ 0 ∷ 1 ∷ 0 ∷ 0 ∷ 0 ∷ 3 ∷ 1 ∷ 107 ∷ 0 ∷
    0 ∷ 1 ∷ 0 ∷ 1 ∷ 0 ∷ 2 ∷ 47 ∷ 102 ∷ 0 ∷ 0 ∷ 0 ∷ 0 ∷ 0 ∷ 0 ∷ 0 ∷ 1 ∷ 0 ∷ 0 ∷ 0 ∷ 0 ∷ 0 ∷ 0 ∷ 0 ∷ 0 ∷ []

image-is : name_image table ≡ image
image-is = refl

image-has : length (name_image table) ≡ 234
image-has = refl

-- the root alone, before the first opening
root-has : length (name_image nothing_logged.table) ≡ 33
root-has = refl

-- the statuses of two zones, of which the second was submitted first
abbrev other : StatusRow
other = record status { zone = id_of 4; session = id_of 2 }

sorted : by_zone (other ∷ status ∷ []) ≡ status ∷ other ∷ []
sorted = refl
