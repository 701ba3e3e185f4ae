use Rattle.std.proofs.Common.{◌≡◌, ◌∙◌, ◌++◌, ◌∷◌, [], ap, sym, subst, append_assoc, length, List, ℕ}
use Rattle.std.specs.Int.{w16, w32, to_be_bytes}
use Rattle.key_rows.proofs.ImageLemmas.{Head, head_parts}
use Rattle.image_parts.specs.Parts.{KeepsPart}
use Rattle.key_images.proofs.parts.put_head.Goals as goal

-- eight pieces, one after the other
eight : (all a b c d e f g h : List ℕ) → (((((((all ++ a) ++ b) ++ c) ++ d) ++ e) ++ f) ++ g) ++ h ≡ all ++ (a ++ (b ++ (c ++ (d ++ (e ++ (f ++ (g ++ h)))))))
eight all a b c d e f g h =
    append_assoc ((((((all ++ a) ++ b) ++ c) ++ d) ++ e) ++ f) g h
    ∙ append_assoc (((((all ++ a) ++ b) ++ c) ++ d) ++ e) f (g ++ h)
    ∙ append_assoc ((((all ++ a) ++ b) ++ c) ++ d) e (f ++ (g ++ h))
    ∙ append_assoc (((all ++ a) ++ b) ++ c) d (e ++ (f ++ (g ++ h)))
    ∙ append_assoc ((all ++ a) ++ b) c (d ++ (e ++ (f ++ (g ++ h))))
    ∙ append_assoc (all ++ a) b (c ++ (d ++ (e ++ (f ++ (g ++ h)))))
    ∙ append_assoc all a (b ++ (c ++ (d ++ (e ++ (f ++ (g ++ h))))))

pub returns-clause-told : goal.returns-clause-told
returns-clause-told c = λ all t.
    let row = c.args.row.now in
    let h : Head = record { birth = row.birth; name = row.name; bits = row.bits; description = row.description; created = row.created } in
    let text = c.as_str-text.ensures ∙ c.as_text.ensures.text in
    let birth = c.to_be_bytes.ensures in
    let name = c.as_bytes-name.ensures.bytes in
    let bits = c.to_be_bytes-2.ensures in
    let size = c.to_be_bytes-3.ensures ∙ ap (λ (w : List ℕ). to_be_bytes w16 (length w)) text in
    let description = c.as_bytes.ensures.value ∙ text in
    let created = c.to_be_bytes-4.ensures in
    let versions = c.to_be_bytes-5.ensures in
    subst (λ (l : List ℕ). KeepsPart c.args.at c.put.result l c.put.new.buf)
    (eight all _ _ _ _ _ _ _ _
    ∙ (λ i. all ++ (birth i ++ ((length (name i) ∷ []) ++ (name i ++ (bits i ++ (size i ++ (description i ++ (created i ++ versions i))))))))
    ∙ ap (λ (l : List ℕ). all ++ l) (sym (head_parts h (to_be_bytes w32 row.versions))))
    (c.put.ensures.told _ (c.put-g.ensures.told _ (c.put-f.ensures.told _ (c.put-e.ensures.told _ (c.put-d.ensures.told _ (c.put-c.ensures.told _ (c.put-b.ensures.told _ (c.put-a.ensures.told all t))))))))
