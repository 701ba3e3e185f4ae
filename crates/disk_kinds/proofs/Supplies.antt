-- A read takes the first bytes that are left.
use Rattle.std.proofs.Common.{◌≡◌, ℕ, ◌+◌, ◌-◌, ◌<◌, ◌≤◌, min, List, [], ◌++◌, length, take, drop, sym, ap, ◌∙◌, arith, length-take, length-drop, take-append-drop}
use Rattle.std.proofs.lemmas.List.{drop-drop, drop_all}
use lib.Seq.{take-take}

pub front_and_rest : (items left got : List ℕ) (at n count : ℕ) → drop at items ≡ left → got ≡ take count (take n (drop at items)) → count ≤ n → left ≡ got ++ drop (at + count) items
front_and_rest items left got at n count rest front within =
    sym rest ∙ sym (take-append-drop count (drop at items)) ∙ ap (λ l. l ++ drop count (drop at items)) (sym (front ∙ take-take count n (drop at items) within)) ∙ ap (λ l. got ++ l) (drop-drop count at items)

pub none_left : (items : List ℕ) (at n most count room : ℕ) → n ≡ min (length items - at) most → 0 < most → count ≡ min room (length (take n (drop at items))) → count ≡ 0 → 0 < room → drop (at + count) items ≡ []
none_left items at n most count room is_n some is_count none roomy =
    let short : length items ≤ at + count = omega (arith, length-take n (drop at items), length-drop at items) in
    drop_all (at + count) items short
