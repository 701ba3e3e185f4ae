use Rattle.std.proofs.Common.{◌≡◌, ◌∙◌, ◌++◌, ℕ, List, ap, subst, append_assoc}
use Rattle.std.specs.Int.{w64, to_be_bytes}
use Rattle.edit_ops.specs.Records.{version_field}
use Rattle.zone_table.specs.declared.statuses.StatusRow.{StatusRow}
use Rattle.name_images.specs.Fields.{status_field, truth_field}
use Rattle.image_parts.specs.Parts.{KeepsPart}
use Rattle.name_images.specs.Pieces.{status_head, status_rest}
use Rattle.name_images.proofs.fields.put_status.Goals as goal

joined : (z s v c d rest : List ℕ) → (z ++ (s ++ (v ++ (c ++ d)))) ++ rest ≡ z ++ (s ++ (v ++ (c ++ (d ++ rest))))
joined z s v c d rest =
    append_assoc z (s ++ (v ++ (c ++ d))) rest
    ∙ ap (λ (l : List ℕ). z ++ l)
    (append_assoc s (v ++ (c ++ d)) rest ∙ ap (λ (l : List ℕ). s ++ l) (append_assoc v (c ++ d) rest ∙ ap (λ (l : List ℕ). v ++ l) (append_assoc c d rest)))

both-parts : (s : StatusRow) → status_head s ++ status_rest s ≡ status_field s
both-parts s = joined (to_be_bytes w64 s.zone) (to_be_bytes w64 s.session) (version_field s.noted) (truth_field s.completed) (truth_field s.cancelled) (status_rest s)

pub returns-clause-told : goal.returns-clause-told
returns-clause-told c = λ all t.
    subst (λ (l : List ℕ). KeepsPart c.args.at c.put_status_rest.result l c.put_status_rest.new.buf)
    (append_assoc all (status_head c.args.status.now) (status_rest c.args.status.now) ∙ ap (λ (l : List ℕ). all ++ l) (both-parts c.args.status.now))
    (c.put_status_rest.ensures.told _ (c.put_status_head-marked.ensures.told _ t))
