-- The image of a table byte by byte: opening 2, and one key that was created in opening 1 and rolled once.
use Rattle.std.specs.Prelude.{◌≡◌, ℕ, List, [], ◌∷◌, length, refl}
use Rattle.hk_base.specs.declared.names.Dek.{Dek}
use Rattle.key_rows.specs.Image.{key_image}
use Rattle.key_rows.specs.Table.{Table, after, no_keys}
use Rattle.key_rows.specs.declared.rows.KeyCommand.TheVariants.{Opened, Create, Roll, Delete}

abbrev pub example_material : Dek
example_material = 43 ∷ 126 ∷ 21 ∷ 22 ∷ 40 ∷ 174 ∷ 210 ∷ 166 ∷ 171 ∷ 247 ∷ 21 ∷ 136 ∷ 9 ∷ 207 ∷ 79 ∷ 60 ∷ []

-- key k of 128 bits without a description, created by event 1, whose second version has the same material
abbrev pub twice_opened : Table
twice_opened = after (after (after (after no_keys (Opened 1)) (Create 4294967297 (107 ∷ []) 128 [] 1 example_material)) (Roll 4294967297 1 example_material)) (Opened 2)

abbrev pub image_of_one_key : List ℕ
image_of_one_key = 0 ∷ 0 ∷ 0 ∷ 2 ∷ 0 ∷ 0 ∷ 0 ∷ 1 ∷ 0 ∷ 0 ∷ 0 ∷ 1 ∷ 0 ∷ 0 ∷ 0 ∷ 1 ∷ 0 ∷ 0 ∷ 0 ∷ 1 ∷ 0 ∷ 0 ∷ 0 ∷ 1 ∷ 1 ∷ 107 ∷ 0 ∷ 128 ∷ 0 ∷ 0 ∷ 0 ∷ 0 ∷ 0 ∷ 0 ∷ 0 ∷ 0 ∷ 0 ∷ 1 ∷ 0 ∷ 0 ∷ 0 ∷ 2 ∷ 43 ∷ 126 ∷ 21 ∷ 22 ∷ 40 ∷ 174 ∷ 210 ∷ 166 ∷ 171 ∷ 247 ∷ 21 ∷ 136 ∷ 9 ∷ 207 ∷ 79 ∷ 60 ∷ 43 ∷ 126 ∷ 21 ∷ 22 ∷ 40 ∷ 174 ∷ 210 ∷ 166 ∷ 171 ∷ 247 ∷ 21 ∷ 136 ∷ 9 ∷ 207 ∷ 79 ∷ 60 ∷ []

pub one_key : key_image twice_opened ≡ image_of_one_key
one_key = refl

pub its_size : length image_of_one_key ≡ 74
its_size = refl

-- once the key is deleted its birth is still the greatest one
pub no_key_left : key_image (after twice_opened (Delete 4294967297)) ≡ 0 ∷ 0 ∷ 0 ∷ 2 ∷ 0 ∷ 0 ∷ 0 ∷ 1 ∷ 0 ∷ 0 ∷ 0 ∷ 1 ∷ 0 ∷ 0 ∷ 0 ∷ 0 ∷ []
no_key_left = refl

pub before_any_opening : key_image no_keys ≡ 0 ∷ 0 ∷ 0 ∷ 0 ∷ 0 ∷ 0 ∷ 0 ∷ 0 ∷ 0 ∷ 0 ∷ 0 ∷ 0 ∷ 0 ∷ 0 ∷ 0 ∷ 0 ∷ []
before_any_opening = refl
