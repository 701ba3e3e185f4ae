-- Lines and the text that they make.
use Rattle.std.proofs.Common.{◌≡◌, ℕ, ◌+◌, List, [], ◌∷◌, ◌++◌, length, refl, ap, sym, ◌∙◌, Bool, true, false, not, ◌&&◌, ◌==◌, cond, append_assoc, append-nil, arith}
use Rattle.std.specs.List.{list_all, onto_first, count_by}
use Rattle.std.proofs.lemmas.Grind.{flat_map-append}
use Rattle.std.proofs.lemmas.List.Folds.{list_all-append}
use Rattle.std.proofs.lemmas.List.Sums.{sum_by-cons}
use Rattle.std.proofs.lemmas.Bool.{and_parts, not-true}
use Rattle.command_io.specs.Lines.{is_line, is_lf, lines_of, text_of}

-- a line that is ended
pub split_ended : (line rest : List ℕ) → is_line line ≡ true → lines_of (line ++ 10 ∷ rest) ≡ line ∷ lines_of rest
split_ended [] rest h = refl
split_ended (b ∷ bs) rest h =
    let here = and_parts (not (b == 10)) (is_line bs) h in
    ap (λ t. cond t ([] ∷ lines_of (bs ++ 10 ∷ rest)) (onto_first b (lines_of (bs ++ 10 ∷ rest)))) (not-true (b == 10) here.0)
    ∙ ap (onto_first b) (split_ended bs rest here.1)

-- there is a first line
pub parts : (text : List ℕ) → (first : List ℕ) × (others : List (List ℕ)) × (lines_of text ≡ first ∷ others)
parts [] = ([], [], refl)
parts (b ∷ bs) =
    let rest = parts bs in
    let P : Bool → Type 0 = λ t. (first : List ℕ) × (others : List (List ℕ)) × (cond t ([] ∷ lines_of bs) (onto_first b (lines_of bs)) ≡ first ∷ others) in
    elim (b == 10) as P [
      | true ↦ ([], lines_of bs, refl)
      | false ↦ (b ∷ rest.0, rest.1, ap (onto_first b) rest.2)
    ]

-- a line that goes on
pub split_on : (line rest first : List ℕ) (others : List (List ℕ)) → is_line line ≡ true → lines_of rest ≡ first ∷ others → lines_of (line ++ rest) ≡ (line ++ first) ∷ others
split_on [] rest first others h e = e
split_on (b ∷ bs) rest first others h e =
    let here = and_parts (not (b == 10)) (is_line bs) h in
    ap (λ t. cond t ([] ∷ lines_of (bs ++ rest)) (onto_first b (lines_of (bs ++ rest)))) (not-true (b == 10) here.0)
    ∙ ap (onto_first b) (split_on bs rest first others here.1 e)

pub split_last : (line : List ℕ) → is_line line ≡ true → lines_of line ≡ line ∷ []
split_last line h = ap lines_of (sym (append-nil line)) ∙ split_on line [] [] [] h refl ∙ ap (λ l. l ∷ []) (append-nil line)

-- lines first
pub split_text : (lines : List (List ℕ)) (rest : List ℕ) → list_all is_line lines ≡ true → lines_of (text_of lines ++ rest) ≡ lines ++ lines_of rest
split_text [] rest h = refl
split_text (line ∷ lines) rest h =
    let here = and_parts (is_line line) (list_all is_line lines) h in
    ap lines_of (append_assoc (line ++ 10 ∷ []) (text_of lines) rest ∙ append_assoc line (10 ∷ []) (text_of lines ++ rest))
    ∙ split_ended line (text_of lines ++ rest) here.0
    ∙ ap (λ l. line ∷ l) (split_text lines rest here.1)

-- one more line
pub text_more : (lines : List (List ℕ)) (line : List ℕ) → text_of (lines ++ line ∷ []) ≡ text_of lines ++ (line ++ 10 ∷ [])
text_more lines line = flat_map-append (λ l. l ++ 10 ∷ []) lines (line ∷ []) ∙ ap (λ l. text_of lines ++ l) (append-nil (line ++ 10 ∷ []))

pub whole_more : (lines : List (List ℕ)) (line : List ℕ) → list_all is_line lines ≡ true → is_line line ≡ true → list_all is_line (lines ++ line ∷ []) ≡ true
whole_more lines line h g = list_all-append is_line lines (line ∷ []) ∙ ap (λ t. t && (is_line line && true)) h ∙ ap (λ t. t && true) g

-- a line has no LF, and each of the others has one
abbrev lf : ℕ → ℕ
lf b = cond (is_lf b) 1 0

pub no_lf : (line rest : List ℕ) → is_line line ≡ true → count_by is_lf (line ++ rest) ≡ count_by is_lf rest
no_lf [] rest h = refl
no_lf (b ∷ bs) rest h =
    let here = and_parts (not (b == 10)) (is_line bs) h in
    sum_by-cons lf b (bs ++ rest) ∙ ap (λ t. cond t 1 0 + count_by is_lf (bs ++ rest)) (not-true (b == 10) here.0) ∙ omega (arith, no_lf bs rest here.1)

pub count_lf : (lines : List (List ℕ)) (rest : List ℕ) → list_all is_line lines ≡ true → is_line rest ≡ true → count_by is_lf (text_of lines ++ rest) ≡ length lines
count_lf [] rest h g = ap (count_by is_lf) (sym (append-nil rest)) ∙ no_lf rest [] g
count_lf (line ∷ lines) rest h g =
    let here = and_parts (is_line line) (list_all is_line lines) h in
    ap (count_by is_lf) (append_assoc (line ++ 10 ∷ []) (text_of lines) rest ∙ append_assoc line (10 ∷ []) (text_of lines ++ rest))
    ∙ no_lf line (10 ∷ (text_of lines ++ rest)) here.0 ∙ sum_by-cons lf 10 (text_of lines ++ rest) ∙ omega (arith, count_lf lines rest here.1 g)
