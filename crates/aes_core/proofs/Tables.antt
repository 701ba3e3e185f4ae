-- The tables agree with the definitions. Each is computed at all of its indices at once.
use Rattle.std.proofs.Common.{◌≡◌, ℕ, ◌+◌, ◌-◌, ◌≤◌, ◌<◌, List, [], ◌∷◌, get_or, map, refl, sym, ap, ◌∙◌, arith, bit_and}
use Rattle.std.specs.List.{range_with_len}
use Rattle.std.proofs.lemmas.List.FromFn.{get_or-map-range_with_len}
use Rattle.aes_core.specs.Field.{field_product, power_of_x, s_box}
use Rattle.aes_core.specs.Words.{byte_of, times_0, times_1, times_2, times_3, word_bytes}
use Rattle.aes_core.specs.declared.key_schedule.TheConstants.{RCON}
use Rattle.aes_core.specs.declared.round_tables.TheConstants.{PRODUCTS}
use Rattle.aes_core.specs.declared.substitution.TheConstants.{S_BOX}

-- equal lists of values below n give equal values at each number below n
same_below : {A : Type 0} (default : A) (f g : ℕ → A) (n a : ℕ) → map f (range_with_len 0 n) ≡ map g (range_with_len 0 n) → a < n → f a ≡ g a
same_below default f g n a same within =
    sym (get_or-map-range_with_len f 0 n a a default within (omega arith)) ∙ ap (λ xs. get_or xs a default) same ∙ get_or-map-range_with_len g 0 n a a default within (omega arith)

s_box_table : map s_box (range_with_len 0 256) ≡ S_BOX
unfolding s_box field_product
s_box_table = refl

pub substituted_is : (a : ℕ) → a < 256 → get_or S_BOX a 0 ≡ s_box a
substituted_is a within = ap (λ (xs : List ℕ). get_or xs a 0) (sym s_box_table) ∙ get_or-map-range_with_len s_box 0 256 a a 0 within (omega arith)

rcon_table : map (λ i. get_or RCON (i + 1) 0) (range_with_len 0 10) ≡ map power_of_x (range_with_len 0 10)
unfolding field_product
rcon_table = refl

pub rcon_is : (j : ℕ) → 1 ≤ j → j < 11 → get_or RCON j 0 ≡ power_of_x (j - 1)
rcon_is j positive within =
    let back : j - 1 + 1 ≡ j = omega arith in
    rw back at (same_below 0 (λ i. get_or RCON (i + 1) 0) power_of_x 10 (j - 1) rcon_table (omega arith))

-- the tables of products agree with the table of the S-box
table_0 : map (λ x. word_bytes (get_or (get_or PRODUCTS 0 []) x 0)) (range_with_len 0 256) ≡ map (λ x. times_0 (get_or S_BOX x 0)) (range_with_len 0 256)
unfolding field_product byte_of
table_0 = refl

table_1 : map (λ x. word_bytes (get_or (get_or PRODUCTS 1 []) x 0)) (range_with_len 0 256) ≡ map (λ x. times_1 (get_or S_BOX x 0)) (range_with_len 0 256)
unfolding field_product byte_of
table_1 = refl

table_2 : map (λ x. word_bytes (get_or (get_or PRODUCTS 2 []) x 0)) (range_with_len 0 256) ≡ map (λ x. times_2 (get_or S_BOX x 0)) (range_with_len 0 256)
unfolding field_product byte_of
table_2 = refl

table_3 : map (λ x. word_bytes (get_or (get_or PRODUCTS 3 []) x 0)) (range_with_len 0 256) ≡ map (λ x. times_3 (get_or S_BOX x 0)) (range_with_len 0 256)
unfolding field_product byte_of
table_3 = refl

products_at : (table : List ℕ) (times : ℕ → List ℕ) (x : ℕ) → map (λ y. word_bytes (get_or table y 0)) (range_with_len 0 256) ≡ map (λ y. times (get_or S_BOX y 0)) (range_with_len 0 256)
    → x < 256 → word_bytes (get_or table x 0) ≡ times (s_box x)
products_at table times x same within =
    same_below [] (λ y. word_bytes (get_or table y 0)) (λ y. times (get_or S_BOX y 0)) 256 x same within
    ∙ ap times (substituted_is x within)

pub products_0_is : (x : ℕ) → x < 256 → word_bytes (get_or (get_or PRODUCTS 0 []) x 0) ≡ times_0 (s_box x)
products_0_is x within = products_at (get_or PRODUCTS 0 []) times_0 x table_0 within

pub products_1_is : (x : ℕ) → x < 256 → word_bytes (get_or (get_or PRODUCTS 1 []) x 0) ≡ times_1 (s_box x)
products_1_is x within = products_at (get_or PRODUCTS 1 []) times_1 x table_1 within

pub products_2_is : (x : ℕ) → x < 256 → word_bytes (get_or (get_or PRODUCTS 2 []) x 0) ≡ times_2 (s_box x)
products_2_is x within = products_at (get_or PRODUCTS 2 []) times_2 x table_2 within

pub products_3_is : (x : ℕ) → x < 256 → word_bytes (get_or (get_or PRODUCTS 3 []) x 0) ≡ times_3 (s_box x)
products_3_is x within = products_at (get_or PRODUCTS 3 []) times_3 x table_3 within

-- the S-box value alone is left of an entry, in the row that it is wanted in
abbrev alone_0 : ℕ → List ℕ
alone_0 s = s ∷ 0 ∷ 0 ∷ 0 ∷ []

last_table_0 : map (λ x. word_bytes (bit_and (get_or (get_or PRODUCTS 2 []) x 0) 255)) (range_with_len 0 256) ≡ map (λ x. alone_0 (get_or S_BOX x 0)) (range_with_len 0 256)
unfolding byte_of
last_table_0 = refl

pub last_0_is : (x : ℕ) → x < 256 → word_bytes (bit_and (get_or (get_or PRODUCTS 2 []) x 0) 255) ≡ s_box x ∷ 0 ∷ 0 ∷ 0 ∷ []
last_0_is x within =
    same_below [] (λ y. word_bytes (bit_and (get_or (get_or PRODUCTS 2 []) y 0) 255)) (λ y. alone_0 (get_or S_BOX y 0)) 256 x last_table_0 within
    ∙ ap alone_0 (substituted_is x within)

abbrev alone_1 : ℕ → List ℕ
alone_1 s = 0 ∷ s ∷ 0 ∷ 0 ∷ []

last_table_1 : map (λ x. word_bytes (bit_and (get_or (get_or PRODUCTS 3 []) x 0) 65280)) (range_with_len 0 256) ≡ map (λ x. alone_1 (get_or S_BOX x 0)) (range_with_len 0 256)
unfolding byte_of
last_table_1 = refl

pub last_1_is : (x : ℕ) → x < 256 → word_bytes (bit_and (get_or (get_or PRODUCTS 3 []) x 0) 65280) ≡ 0 ∷ s_box x ∷ 0 ∷ 0 ∷ []
last_1_is x within =
    same_below [] (λ y. word_bytes (bit_and (get_or (get_or PRODUCTS 3 []) y 0) 65280)) (λ y. alone_1 (get_or S_BOX y 0)) 256 x last_table_1 within
    ∙ ap alone_1 (substituted_is x within)

abbrev alone_2 : ℕ → List ℕ
alone_2 s = 0 ∷ 0 ∷ s ∷ 0 ∷ []

last_table_2 : map (λ x. word_bytes (bit_and (get_or (get_or PRODUCTS 0 []) x 0) 16711680)) (range_with_len 0 256) ≡ map (λ x. alone_2 (get_or S_BOX x 0)) (range_with_len 0 256)
unfolding byte_of
last_table_2 = refl

pub last_2_is : (x : ℕ) → x < 256 → word_bytes (bit_and (get_or (get_or PRODUCTS 0 []) x 0) 16711680) ≡ 0 ∷ 0 ∷ s_box x ∷ 0 ∷ []
last_2_is x within =
    same_below [] (λ y. word_bytes (bit_and (get_or (get_or PRODUCTS 0 []) y 0) 16711680)) (λ y. alone_2 (get_or S_BOX y 0)) 256 x last_table_2 within
    ∙ ap alone_2 (substituted_is x within)

abbrev alone_3 : ℕ → List ℕ
alone_3 s = 0 ∷ 0 ∷ 0 ∷ s ∷ []

last_table_3 : map (λ x. word_bytes (bit_and (get_or (get_or PRODUCTS 1 []) x 0) 4278190080)) (range_with_len 0 256) ≡ map (λ x. alone_3 (get_or S_BOX x 0)) (range_with_len 0 256)
unfolding byte_of
last_table_3 = refl

pub last_3_is : (x : ℕ) → x < 256 → word_bytes (bit_and (get_or (get_or PRODUCTS 1 []) x 0) 4278190080) ≡ 0 ∷ 0 ∷ 0 ∷ s_box x ∷ []
last_3_is x within =
    same_below [] (λ y. word_bytes (bit_and (get_or (get_or PRODUCTS 1 []) y 0) 4278190080)) (λ y. alone_3 (get_or S_BOX y 0)) 256 x last_table_3 within
    ∙ ap alone_3 (substituted_is x within)
