-- An image that is written part by part.
use Rattle.std.proofs.Common.{◌≡◌, ℕ, ◌+◌, ◌-◌, ◌≤◌, min, List, ◌++◌, length, take, drop, sym, ◌∙◌, ap, arith, length-drop, take-append-drop}
use Rattle.std.proofs.lemmas.List.{drop-take, length-take, length-take-le, take-take, take_min}
use Rattle.hk_base.specs.Disk.{piece, written}
use Rattle.frame_log.proofs.Writes.{written_long, written_next}

take_on : (i k : ℕ) (l : List ℕ) → take i l ++ take k (drop i l) ≡ take (i + k) l
take_on i k l =
    let first : take i l ≡ take i (take (i + k) l) = sym (take-take i (i + k) l (omega arith)) in
    let second : take k (drop i l) ≡ drop i (take (i + k) l) = sym (drop-take i k l) in
    (λ j. first j ++ second j) ∙ take-append-drop i (take (i + k) l)

module _ (at size : ℕ) (img old : List ℕ) (long : size ≡ length img) (place : at ≤ length old) where
  pub part_place : (done : ℕ) (now : List ℕ) → done ≤ size → now ≡ written at (take done img) old → at + done ≤ length now
  part_place done now le is = omega (arith, written_long at (take done img) old place, length-take-le done img (omega (arith, le, long)), ap length is)

  -- a part that was copied has as many bytes as there are, and there is room for
  pub part_long : (done n : ℕ) (buf : List ℕ) → n ≤ length buf → take n buf ≡ piece done (length buf) img → n ≡ min (length buf) (size - done)
  part_long done n buf most is =
      let size_of : length (take n buf) ≡ n = length-take-le n buf most in
      omega (arith, size_of, ap length is, length-take (length buf) (drop done img), length-drop done img, long)

  -- it is written behind the earlier ones
  pub part_next : (done n : ℕ) (buf chunk now next : List ℕ) → done ≤ size → now ≡ written at (take done img) old → n ≤ length buf → take n buf ≡ piece done (length buf) img → chunk ≡ take n buf → next ≡ written (at + done) chunk now
      → next ≡ written at (take (done + n) img) old
  part_next done n buf chunk now next le is most part chunk_is wrote =
      let rest : List ℕ = drop done img in
      let n_is : n ≡ min (length buf) (length rest) = omega (arith, part_long done n buf most part, length-drop done img, long) in
      let taken : chunk ≡ take n rest = chunk_is ∙ part ∙ sym (take_min (length buf) rest) ∙ ap (λ (k : ℕ). take k rest) (sym n_is) in
      written_next at (at + done) (take done img) chunk old now next place (omega (arith, length-take-le done img (omega (arith, le, long)))) is wrote
      ∙ ap (λ (l : List ℕ). written at (take done img ++ l) old) taken
      ∙ ap (λ (l : List ℕ). written at l old) (take_on done n img)
