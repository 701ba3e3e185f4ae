-- Steps of writing, one after another.
use Rattle.std.proofs.Common.{◌≡◌, ℕ, ◌+◌, ◌<◌, ◌≤◌, List, [], ◌∷◌, ◌++◌, length, get_or, take, refl, ap, sym, subst, ◌∙◌, append_assoc, append-nil, Result, Ok, Err, OnOk}
use Rattle.std.proofs.lemmas.List.{take_all, take_more}
use Rattle.hk_base.specs.declared.texts.NoMemory.{NoMemory}
use Rattle.json.specs.Token.{Token, begin_array, end_array, end_object}
use Rattle.json.specs.Tree.{items_tokens}
use Rattle.json.specs.Written.{Written}
use Rattle.serde_json.specs.Data.{Data}
use Rattle.serde_json.specs.View.{items_of}
use Rattle.serde_json.specs.Written.{items_outline}
use Rattle.std.specs.Prelude.{map}
use Rattle.kms_json.specs.Replies.{list_data}
use Rattle.kms_json.specs.Writing.{AddsTokens, tokens_of}

pub adds_then : {a b : List Token} {old mid new : Written} → AddsTokens a old mid → AddsTokens b mid new → AddsTokens (a ++ b) old new
adds_then {a = a} {b = b} {old = old} first next = record {
  tokens = next.tokens ∙ ap (λ ts. ts ++ b) first.tokens ∙ append_assoc old.tokens a b;
  before = next.before ∙ first.before;
}

pub adds_none : (w : Written) → AddsTokens [] w w
adds_none w = record { tokens = sym (append-nil w.tokens); before = refl }

-- the tokens of the rows, one after another
abbrev pub tokens_each : {A : Type 0} → (A → Data) → List A → List Token
tokens_each data_of [] = []
tokens_each data_of (row ∷ rows) = tokens_of (data_of row) ++ tokens_each data_of rows

pub tokens_of_items : {A : Type 0} (data_of : A → Data) (rows : List A)
    → items_tokens (items_outline (items_of (map data_of rows))) ≡ tokens_each data_of rows ++ end_array ∷ []
tokens_of_items data_of [] = refl
tokens_of_items data_of (row ∷ rows) =
    ap (λ ts. tokens_of (data_of row) ++ ts) (tokens_of_items data_of rows)
    ∙ sym (append_assoc (tokens_of (data_of row)) (tokens_each data_of rows) (end_array ∷ []))

pub tokens_each-append : {A : Type 0} (data_of : A → Data) (rows more : List A)
    → tokens_each data_of (rows ++ more) ≡ tokens_each data_of rows ++ tokens_each data_of more
tokens_each-append data_of [] more = refl
tokens_each-append data_of (row ∷ rows) more =
    ap (λ ts. tokens_of (data_of row) ++ ts) (tokens_each-append data_of rows more)
    ∙ sym (append_assoc (tokens_of (data_of row)) (tokens_each data_of rows) (tokens_each data_of more))

-- the last step, which may fail
adds_last : {a : List Token} {old mid : Written} (b : List Token) (new : Written) (r : Result (Unit {0}) NoMemory)
    → AddsTokens a old mid → OnOk r (AddsTokens b mid new) → OnOk r (AddsTokens (a ++ b) old new)
adds_last b new (Ok done) first next = adds_then first next
adds_last b new (Err e) first next = tt

pub closes : {a : List Token} {old mid : Written} (new : Written) (r : Result (Unit {0}) NoMemory)
    → AddsTokens a old mid → OnOk r (AddsTokens (end_object ∷ []) mid new) → OnOk r (AddsTokens (a ++ end_object ∷ []) old new)
closes new r first next = adds_last (end_object ∷ []) new r first next

pub one_more_row : {A : Type 0} (data_of : A → Data) (rows : List A) (place : ℕ) (row : A) (first mid new : Written)
    → place < length rows → row ≡ get_or rows place row
    → AddsTokens (tokens_each data_of (take place rows)) first mid → AddsTokens (tokens_of (data_of row)) mid new → AddsTokens (tokens_each data_of (take (place + 1) rows)) first new
one_more_row data_of rows place row first mid new below is so_far added =
    let front : tokens_each data_of (take (place + 1) rows) ≡ tokens_each data_of (take place rows) ++ tokens_of (data_of row) =
    ap (tokens_each data_of) (take_more rows place row below ∙ ap (λ x. take place rows ++ x ∷ []) (sym is))
    ∙ tokens_each-append data_of (take place rows) (row ∷ []) ∙ ap (λ ts. tokens_each data_of (take place rows) ++ ts) (append-nil (tokens_of (data_of row))) in
    subst (λ (ts : List Token). AddsTokens ts first new) (sym front) (adds_then so_far added)

pub all_rows : {A : Type 0} (data_of : A → Data) (rows whole : List A) (place : ℕ) (old opened filled new : Written) (r : Result (Unit {0}) NoMemory)
    → length rows ≤ place → rows ≡ whole
    → AddsTokens (begin_array ∷ []) old opened → AddsTokens (tokens_each data_of (take place rows)) opened filled → OnOk r (AddsTokens (end_array ∷ []) filled new)
    → OnOk r (AddsTokens (tokens_of (list_data data_of whole)) old new)
all_rows data_of rows whole place old opened filled new r past same opens fills close =
    let each : tokens_each data_of (take place rows) ≡ tokens_each data_of whole = ap (tokens_each data_of) (take_all place rows past ∙ same) in
    let list : (begin_array ∷ tokens_each data_of (take place rows)) ++ end_array ∷ [] ≡ tokens_of (list_data data_of whole) =
    ap (λ ts. begin_array ∷ (ts ++ end_array ∷ [])) each ∙ ap (λ ts. begin_array ∷ ts) (sym (tokens_of_items data_of whole)) in
    subst (λ (ts : List Token). OnOk r (AddsTokens ts old new)) list (adds_last (end_array ∷ []) new r (adds_then opens fills) close)
