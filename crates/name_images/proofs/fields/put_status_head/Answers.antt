use Rattle.std.proofs.Common.{◌≡◌, ◌∙◌, ◌++◌, ℕ, List, subst, append_assoc}
use Rattle.edit_ops.specs.Records.{version_field}
use Rattle.name_images.specs.Fields.{truth_field}
use Rattle.image_parts.specs.Parts.{KeepsPart}
use Rattle.name_images.proofs.fields.put_status_head.Goals as goal

-- five pieces, one after the other
five : (all a b c d e : List ℕ) → ((((all ++ a) ++ b) ++ c) ++ d) ++ e ≡ all ++ (a ++ (b ++ (c ++ (d ++ e))))
five all a b c d e =
    append_assoc (((all ++ a) ++ b) ++ c) d e
    ∙ append_assoc ((all ++ a) ++ b) c (d ++ e)
    ∙ append_assoc (all ++ a) b (c ++ (d ++ e))
    ∙ append_assoc all a (b ++ (c ++ (d ++ e)))

pub returns-clause-told : goal.returns-clause-told
returns-clause-told c = λ all t.
    subst (λ (l : List ℕ). KeepsPart c.args.at c.put_truth.result l c.put_truth.new.buf)
    (five all c.to_be_bytes.result c.to_be_bytes-2.result (version_field c.args.status.now.noted) (truth_field c.args.status.now.completed) (truth_field c.args.status.now.cancelled)
    ∙ (λ i. all ++ (c.to_be_bytes.ensures i ++ (c.to_be_bytes-2.ensures i ++ (version_field c.args.status.now.noted ++ (truth_field c.args.status.now.completed ++ truth_field c.args.status.now.cancelled))))))
    (c.put_truth.ensures.told _ (c.put_truth-ended.ensures.told _ (c.put_version-noted.ensures.told _ (c.put-begun.ensures.told _ (c.put-placed.ensures.told _ t)))))
