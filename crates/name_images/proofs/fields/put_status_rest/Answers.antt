use Rattle.std.proofs.Common.{◌≡◌, ◌∙◌, ◌++◌, ℕ, List, subst, append_assoc}
use Rattle.edit_ops.specs.Records.{opt_field, path_field}
use Rattle.image_parts.specs.Parts.{KeepsPart}
use Rattle.name_images.proofs.fields.put_status_rest.Goals as goal

-- three pieces, one after the other
three : (all a b c : List ℕ) → ((all ++ a) ++ b) ++ c ≡ all ++ (a ++ (b ++ c))
three all a b c = append_assoc (all ++ a) b c ∙ append_assoc all a (b ++ c)

pub returns-clause-told : goal.returns-clause-told
returns-clause-told c = λ all t.
    subst (λ (l : List ℕ). KeepsPart c.args.at c.put.result l c.put.new.buf)
    (three all (opt_field path_field c.args.status.now.mark) c.to_be_bytes.result c.to_be_bytes-2.result
    ∙ (λ i. all ++ (opt_field path_field c.args.status.now.mark ++ (c.to_be_bytes.ensures i ++ c.to_be_bytes-2.ensures i))))
    (c.put.ensures.told _ (c.put-counted.ensures.told _ (c.put_opt_path-marked.ensures.told _ t)))
