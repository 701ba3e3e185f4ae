-- The elements of a batch, one after another.
use Rattle.std.proofs.Common.{◌≡◌, ℕ, ◌+◌, ◌<◌, ◌≤◌, List, [], ◌∷◌, ◌++◌, length, get_or, drop, drop-cons, add-one, refl, ap, ap₂, sym, ◌∙◌, append_assoc, append-nil, Result, Ok, Err}
use Rattle.std.proofs.lemmas.List.{drop_all}
use Rattle.serde_json.specs.Data.{Data, Items, item}
use Rattle.serde_json.specs.View.{items_view, view}
use Rattle.serde_json.specs.declared.value.Value.{Value}
use Rattle.kms_calls.specs.declared.calls.RawEdek.{RawEdek}
use Rattle.kms_json.specs.declared.faults.JsonFault.{JsonFault}
use Rattle.kms_json.specs.Members.{and_then}
use Rattle.kms_json.specs.Bodies.{element_of, elements_of}

-- the elements that were read before, and then these
abbrev pub behind : List RawEdek → Result (List RawEdek) JsonFault → Result (List RawEdek) JsonFault
behind sent rest = and_then rest (λ more. Ok (sent ++ more))

-- the elements from an index on
abbrev pub from_place : List Value → ℕ → Result (List RawEdek) JsonFault
from_place values place = elements_of (items_view (drop place values))

prepend : (sent : List RawEdek) (e : RawEdek) (rest : Result (List RawEdek) JsonFault)
    → behind sent (and_then rest (λ es. Ok (e ∷ es))) ≡ behind (sent ++ e ∷ []) rest
prepend sent e (Ok es) = ap (λ xs. Ok xs) (sym (append_assoc sent (e ∷ []) es))
prepend sent e (Err f) = refl

behind_nothing : (rest : Result (List RawEdek) JsonFault) → behind [] rest ≡ rest
behind_nothing (Ok es) = refl
behind_nothing (Err f) = refl

first_read : (d : Data) (ds : Items) (e : RawEdek) → element_of d ≡ Ok e → elements_of (item d ds) ≡ and_then (elements_of ds) (λ es. Ok (e ∷ es))
first_read d ds e is = rw is

first_fails : (d : Data) (ds : Items) (f : JsonFault) → element_of d ≡ Err f → elements_of (item d ds) ≡ Err f
first_fails d ds f is = rw is

here : (values : List Value) (place : ℕ) (v : Value) → place < length values → v ≡ get_or values place v
    → from_place values place ≡ elements_of (item (view v) (items_view (drop (place + 1) values)))
here values place v below is =
    ap (λ vs. elements_of (items_view vs)) (drop-cons values place v below)
    ∙ ap₂ (λ x n. elements_of (item (view x) (items_view (drop n values)))) (sym is) (sym (add-one place))

pub one_more : (values : List Value) (place : ℕ) (v : Value) (sent : List RawEdek) (e : RawEdek) (whole : Result (List RawEdek) JsonFault)
    → place < length values → v ≡ get_or values place v → element_of (view v) ≡ Ok e
    → whole ≡ behind sent (from_place values place) → whole ≡ behind (sent ++ e ∷ []) (from_place values (place + 1))
one_more values place v sent e whole below is element so_far =
    so_far ∙ ap (behind sent) (here values place v below is ∙ first_read (view v) (items_view (drop (place + 1) values)) e element) ∙ prepend sent e (from_place values (place + 1))

pub stops_here : (values : List Value) (place : ℕ) (v : Value) (sent : List RawEdek) (f : JsonFault) (whole : Result (List RawEdek) JsonFault)
    → place < length values → v ≡ get_or values place v → element_of (view v) ≡ Err f
    → whole ≡ behind sent (from_place values place) → whole ≡ Err f
stops_here values place v sent f whole below is element so_far =
    so_far ∙ ap (behind sent) (here values place v below is ∙ first_fails (view v) (items_view (drop (place + 1) values)) f element)

pub all_read : (values : List Value) (place : ℕ) (sent : List RawEdek) (whole : Result (List RawEdek) JsonFault)
    → length values ≤ place → whole ≡ behind sent (from_place values place) → whole ≡ Ok sent
all_read values place sent whole past so_far =
    so_far ∙ ap (λ vs. behind sent (elements_of (items_view vs))) (drop_all place values past) ∙ ap (λ xs. Ok xs) (append-nil sent)

pub none_read : (values over : List Value) → over ≡ values → elements_of (items_view values) ≡ behind [] (from_place over 0)
none_read values over same = sym (behind_nothing (elements_of (items_view values))) ∙ ap (λ vs. behind [] (elements_of (items_view vs))) (sym same)
