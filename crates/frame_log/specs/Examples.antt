-- Files of known bytes, read as logs.
use Rattle.std.specs.Prelude.{◌≡◌, ℕ, List, [], ◌∷◌, ◌++◌, take, set, refl, length}
use Rattle.frame_log.specs.Format.{log_of, Found, NoLog, magic, bytes_after_opening, frames}

-- the record of opening 1
abbrev pub opened_1 : List ℕ
opened_1 = 1 ∷ 0 ∷ 0 ∷ 0 ∷ 1 ∷ []

-- key k of 128 bits, created at time 1 with birth 4294967297
abbrev pub create_k : List ℕ
create_k =
    2 ∷ 0 ∷ 0 ∷ 0 ∷ 1 ∷ 0 ∷ 0 ∷ 0 ∷ 1 ∷ 1 ∷ 107 ∷ 0 ∷ 128 ∷ 0 ∷ 0 ∷ 0 ∷ 0 ∷ 0 ∷ 0 ∷ 0 ∷ 0 ∷ 0 ∷ 1
    ∷ 43 ∷ 126 ∷ 21 ∷ 22 ∷ 40 ∷ 174 ∷ 210 ∷ 166 ∷ 171 ∷ 247 ∷ 21 ∷ 136 ∷ 9 ∷ 207 ∷ 79 ∷ 60 ∷ []

-- its second version
abbrev pub roll_k : List ℕ
roll_k =
    3 ∷ 0 ∷ 0 ∷ 0 ∷ 1 ∷ 0 ∷ 0 ∷ 0 ∷ 1 ∷ 0 ∷ 1
    ∷ 43 ∷ 126 ∷ 21 ∷ 22 ∷ 40 ∷ 174 ∷ 210 ∷ 166 ∷ 171 ∷ 247 ∷ 21 ∷ 136 ∷ 9 ∷ 207 ∷ 79 ∷ 60 ∷ []

abbrev pub rolled_log : List ℕ
rolled_log = magic 0 ++ (1 ∷ 0 ∷ 0 ∷ 0 ∷ 5 ∷ opened_1) ++ (1 ∷ 0 ∷ 0 ∷ 0 ∷ 39 ∷ create_k) ++ (1 ∷ 0 ∷ 0 ∷ 0 ∷ 27 ∷ roll_k) ++ 0 ∷ []

pub size : length rolled_log ≡ 95
size = refl

pub whole : log_of 0 rolled_log ≡ Found (opened_1 ∷ create_k ∷ roll_k ∷ []) 0
whole = refl

pub spelled : rolled_log ≡ magic 0 ++ frames (opened_1 ∷ create_k ∷ roll_k ∷ []) ++ 0 ∷ []
spelled = refl

pub gate_7 : log_of 0 (set rolled_log 62 7) ≡ Found (opened_1 ∷ create_k ∷ []) 7
gate_7 = refl

pub gate_7_opened : log_of 0 (bytes_after_opening 0 (set rolled_log 62 7)) ≡ Found (opened_1 ∷ create_k ∷ roll_k ∷ []) 0
gate_7_opened = refl

pub cut_80 : log_of 0 (take 80 rolled_log) ≡ NoLog 62
cut_80 = refl

pub cut_80_shut : log_of 0 (take 80 (set rolled_log 62 0)) ≡ Found (opened_1 ∷ create_k ∷ []) 0
cut_80_shut = refl

-- the second payload then has one more byte, which is the gate of the third
pub longer : log_of 0 (set rolled_log 22 40) ≡ Found (opened_1 ∷ (create_k ++ 1 ∷ []) ∷ []) 0
longer = refl

pub short : log_of 0 (take 9 rolled_log) ≡ Found [] 0
short = refl

pub other_magic : log_of 1 rolled_log ≡ NoLog 0
other_magic = refl

-- two openings
pub opened_twice : log_of 0 (magic 0 ++ (1 ∷ 0 ∷ 0 ∷ 0 ∷ 5 ∷ opened_1) ++ (1 ∷ 0 ∷ 0 ∷ 0 ∷ 5 ∷ 1 ∷ 0 ∷ 0 ∷ 0 ∷ 2 ∷ []) ++ 0 ∷ []) ≡ Found (opened_1 ∷ (1 ∷ 0 ∷ 0 ∷ 0 ∷ 2 ∷ []) ∷ []) 0
opened_twice = refl
