use Rattle.std.proofs.Common.{◌≡◌, ◌∙◌, ◌++◌, [], ℕ, List, ap, append_assoc, subst}
use Rattle.image_parts.specs.Parts.{KeepsPart}
use Rattle.name_images.specs.Fields.{ids_field, many_field, rows_field, snapshot_field, status_field}
use Rattle.name_images.specs.Images.{by_zone}
use Rattle.name_images.proofs.PartLemmas.{nothing-told}
use Rattle.name_images.proofs.image.put_image.Goals as goal

-- five parts, one after the other
five : (a b r i s t : List ℕ) → a ≡ b → (((a ++ r) ++ i) ++ s) ++ t ≡ b ++ (r ++ (i ++ (s ++ t)))
five a b r i s t e = append_assoc ((a ++ r) ++ i) s t ∙ append_assoc (a ++ r) i (s ++ t) ∙ append_assoc a r (i ++ (s ++ t)) ∙ ap (λ (l : List ℕ). l ++ (r ++ (i ++ (s ++ t)))) e

pub returns-clause-told : goal.returns-clause-told
returns-clause-told c =
    subst (λ (l : List ℕ). KeepsPart c.args.at c.put_statuses.result l c.put_statuses.new.buf)
    (five c.to_be_bytes.result _ (rows_field c.args.tree.now.rows) (ids_field c.args.snaps.now.table.allowed) (many_field snapshot_field c.args.snaps.now.table.taken) (many_field status_field (by_zone c.args.statuses.now.rows)) c.to_be_bytes.ensures)
    (c.put_statuses.ensures.told _ (c.put_snapshots-taken.ensures.told _ (c.put_allowed-allowed.ensures.told _ (c.put_rows-rowed.ensures.told _ (c.put-opened.ensures.told [] (nothing-told c.args.at c.args.buf.now))))))
