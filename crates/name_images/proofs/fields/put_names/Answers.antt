use Rattle.std.proofs.Common.{◌∙◌, ◌++◌, ◌∷◌, [], ℕ, List, take, refl, subst, arith}
use Rattle.name_calls.specs.Paths.{names_text}
use Rattle.name_calls.proofs.PathLemmas.{text-more}
use Rattle.image_parts.specs.Parts.{KeepsPart}
use Rattle.name_images.proofs.fields.put_names.Goals as goal

pub loop-k-preserved : goal.loop-k-preserved
loop-k-preserved c = record {
  long = c.put-next.ensures.length ∙ c.put-slashed.ensures.length ∙ c.loop-k.invariant.long;
  held = λ all t.
      subst (λ (l : List ℕ). KeepsPart c.args.at c.put-next.result l c.put-next.new.buf)
      (text-more all (all ++ names_text (take c.loop-k.k c.args.path.now)) ((all ++ names_text (take c.loop-k.k c.args.path.now)) ++ 47 ∷ []) _ c.args.path.now c.loop-k.k c.as_bytes.result.now (let lt = c.loop-k-test.true in let len = c.len-k-end.ensures.len in omega (arith, lt, len)) refl refl refl (c.as_bytes.ensures.value ∙ c.as_str.ensures ∙ c.name.ensures))
      (c.put-next.ensures.told _ (c.put-slashed.ensures.told _ (c.loop-k.invariant.held all t)));
}
