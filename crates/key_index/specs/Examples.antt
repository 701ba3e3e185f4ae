-- An index of one key with two versions, its table, and its log.
use Rattle.std.specs.Prelude.{◌≡◌, [], ◌∷◌, map, Some, None, false, refl}
use Rattle.std.specs.List.{concat}
use Rattle.hk_base.specs.Disk.{piece}
use Rattle.hk_base.specs.declared.names.Dek.{Dek}
use Rattle.key_rows.specs.declared.rows.KeyCommand.{KeyCommand}
use Rattle.key_rows.specs.declared.rows.KeyCommand.TheVariants.{Opened, Create, Roll, Delete}
use Rattle.key_rows.specs.Table.{after, applies, no_keys}
use Rattle.key_index.specs.Held.{log_front, material_at}
use Rattle.key_index.specs.Index.{Index, Materials, after_at, materials_after, no_index, place_of, table_of}
use Rattle.key_index.specs.Runs.{run_places}

abbrev pub first_material : Dek
first_material = 1 ∷ 2 ∷ 3 ∷ 4 ∷ 5 ∷ 6 ∷ 7 ∷ 8 ∷ 9 ∷ 10 ∷ 11 ∷ 12 ∷ 13 ∷ 14 ∷ 15 ∷ 16 ∷ []

abbrev pub second_material : Dek
second_material = 21 ∷ 22 ∷ 23 ∷ 24 ∷ 25 ∷ 26 ∷ 27 ∷ 28 ∷ 29 ∷ 30 ∷ 31 ∷ 32 ∷ 33 ∷ 34 ∷ 35 ∷ 36 ∷ []

-- key k of 128 bits with the description d, and its second version
abbrev pub opened : KeyCommand
opened = Opened 1

abbrev pub created : KeyCommand
created = Create 4294967297 (107 ∷ []) 128 (100 ∷ []) 7 first_material

abbrev pub rolled : KeyCommand
rolled = Roll 4294967297 1 second_material

-- the records begin at offsets 13, 23 and 68
pub first_place : material_at 23 created ≡ 47
first_place = refl

pub second_place : material_at 68 rolled ≡ 79
second_place = refl

abbrev pub with_key : Index
with_key = after_at (after_at no_index opened 18) created 47

abbrev pub with_two : Index
with_two = after_at with_key rolled 79

pub places : place_of with_two.rows (record { key = 107 ∷ []; number = 0 }) ≡ Some 47
places = refl

-- the current version has no older material
pub current : place_of with_two.rows (record { key = 107 ∷ []; number = 1 }) ≡ None
current = refl

pub no_version : place_of with_two.rows (record { key = 107 ∷ []; number = 2 }) ≡ None
no_version = refl

pub no_key : place_of with_two.rows (record { key = 106 ∷ []; number = 0 }) ≡ None
no_key = refl

-- the log has the materials at their places
pub in_log : map (λ place. piece place 16 (log_front (opened ∷ created ∷ rolled ∷ []))) (47 ∷ 79 ∷ []) ≡ first_material ∷ second_material ∷ []
in_log = refl

-- the table of the same commands, whatever the materials are said to be before
pub table : (m : Materials) → table_of (materials_after m with_key rolled) with_two ≡ after (after (after no_keys opened) created) rolled
table m = refl

pub no_third : (m : Materials) → applies (table_of m with_two) rolled ≡ false
no_third m = refl

pub deleted : (after_at with_two (Delete 4294967297) 0).rows ≡ []
deleted = refl

-- three places of a run, and one beside it
pub in_runs : concat (run_places 79 26 3 ∷ run_places 300 0 1 ∷ []) ≡ 79 ∷ 105 ∷ 131 ∷ 300 ∷ []
in_runs = refl
