use Rattle.std.proofs.Common.{◌∙◌, ◌++◌, ℕ, List, take, get_or, sym, ap, subst, append_assoc, arith}
use Rattle.std.specs.Int.{w64, to_be_bytes}
use Rattle.std.proofs.lemmas.List.{get_or_default, take_all}
use Rattle.edit_ops.specs.Records.{list_field}
use Rattle.image_parts.specs.Parts.{KeepsPart}
use Rattle.name_images.proofs.Lists.{fields-more}
use Rattle.name_images.proofs.fields.put_ids.Goals as goal

pub loop-id-preserved : goal.loop-id-preserved
loop-id-preserved c =
    let k = c.loop-id.id-index in
    let ids = c.args.ids.now in
    let id = get_or ids k 0 in
    record {
      long = c.put-next.ensures.length ∙ c.loop-id.invariant.long;
      held = λ all t.
          subst (λ (l : List ℕ). KeepsPart c.args.at c.put-next.result l c.put-next.new.buf)
          (append_assoc all (list_field (to_be_bytes w64) (take k ids)) c.to_be_bytes.result
          ∙ ap (λ (l : List ℕ). all ++ l) (ap (λ (l : List ℕ). list_field (to_be_bytes w64) (take k ids) ++ l) c.to_be_bytes.ensures ∙ sym (fields-more (to_be_bytes w64) ids k id c.loop-id-test.true (get_or_default ids k 0 id c.loop-id-test.true))))
          (c.put-next.ensures.told _ (c.loop-id.invariant.held all t));
    }

pub returns-clause-told : goal.returns-clause-told
returns-clause-told c = λ all t.
    subst (λ (l : List ℕ). KeepsPart c.args.at c.loop-id.told (all ++ list_field (to_be_bytes w64) l) c.loop-id.buf)
    (take_all c.loop-id.id-index c.args.ids.now (let h = c.loop-id-test.false in omega (arith, h)))
    (c.loop-id.invariant.held all t)
