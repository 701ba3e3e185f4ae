use Rattle.std.proofs.Common.{◌∙◌, ◌++◌, [], ap, subst, append_assoc, arith, refl, length, List, ℕ}
use Rattle.std.specs.Int.{w32, w64, to_be_bytes}
use Rattle.image_parts.specs.Parts.{KeepsPart}
use Rattle.key_images.proofs.Spelled.{counted}
use Rattle.key_images.proofs.parts.put_top.Goals as goal

-- before anything was told
none : (at : ℕ) (buf : List ℕ) → KeepsPart at 0 [] buf
none at buf = record { count = refl; holds = λ fits i within past. absurd (omega (arith, past)) }

pub returns-clause-told : goal.returns-clause-told
returns-clause-told c =
    let x = c.args.index.now.index in
    let a = c.to_be_bytes.ensures ∙ ap (to_be_bytes w32) c.opening.ensures.opening in
    let b = c.to_be_bytes-2.ensures ∙ ap (to_be_bytes w64) c.greatest.ensures in
    let d = c.to_be_bytes-3.ensures ∙ ap (to_be_bytes w32) (counted x c.count.result c.count.ensures) in
    subst (λ (l : List ℕ). KeepsPart c.args.at c.put.result l c.put.new.buf)
    ((λ i. (a i ++ b i) ++ d i) ∙ append_assoc (to_be_bytes w32 x.opening) (to_be_bytes w64 x.greatest) (to_be_bytes w32 (length x.rows)))
    (c.put.ensures.told _ (c.put-b.ensures.told _ (c.put-a.ensures.told [] (none c.args.at c.args.buf.now))))
