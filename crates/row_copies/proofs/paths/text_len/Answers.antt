use Rattle.std.proofs.Common.{◌≡◌, ◌<◌, ◌+◌, ℕ, List, [], ◌∷◌, length, get_or, take, ap, ◌∙◌, arith, length-append}
use Rattle.std.proofs.lemmas.List.{take_more}
use Rattle.name_calls.specs.Paths.{names_text}
use Rattle.name_calls.proofs.PathLemmas.{names-text-snoc}
use Rattle.inode_tree.proofs.MovedLengths.{front-short}
use Rattle.row_copies.proofs.paths.text_len.Goals as goal

-- one name more
more : (p : List (List ℕ)) (k len : ℕ) → k < length p → len ≡ length (names_text (take k p)) → len + (length (get_or p k []) + 1) ≡ length (names_text (take (k + 1) p))
more p k len h e =
    let f = ap (λ (r : List (List ℕ)). length (names_text r)) (take_more p k [] h) in
    let g = ap length (names-text-snoc (take k p) (get_or p k [])) in
    omega (arith, length-append (names_text (take k p)) (47 ∷ get_or p k []))

-- the name as the code reads it
read : (p : List (List ℕ)) (k len : ℕ) (name bytes : List ℕ) → k < length p → len ≡ length (names_text (take k p)) → name ≡ get_or p k [] → bytes ≡ name → len + (length bytes + 1) ≡ length (names_text (take (k + 1) p))
read p k len name bytes h e f g = ap (λ (xs : List ℕ). len + (length xs + 1)) (g ∙ f) ∙ more p k len h e

pub overflow_add-len-in-names : goal.overflow_add-len-in-names
overflow_add-len-in-names c =
    let t : c.names.k < length c.args.path.now = let t = c.names-test.true in let l = c.len.ensures.len in omega arith in
    let r = read c.args.path.now c.names.k c.names.len c.name.result.now c.as_str.result.now t c.names.invariant.len c.name.ensures c.as_str.ensures in
    let s = front-short c.args.path.now (c.names.k + 1) c.len.ensures.rule in omega arith

pub names-preserved : goal.names-preserved
names-preserved c =
    let t : c.names.k < length c.args.path.now = let t = c.names-test.true in let l = c.len.ensures.len in omega arith in
    record {
      upto = omega arith;
      len = read c.args.path.now c.names.k c.names.len c.name.result.now c.as_str.result.now t c.names.invariant.len c.name.ensures c.as_str.ensures;
    }
