use Rattle.std.proofs.Common.{◌≡◌, ◌∙◌, ◌++◌, ◌∷◌, ℕ, List, [], arith, get_or, refl, subst, take, take_all}
use Rattle.name_calls.specs.Paths.{names_text}
use Rattle.name_calls.proofs.PathLemmas.{text-more}
use Rattle.frozen_nodes.specs.Copies.{no_entry, path_at}
use Rattle.frozen_nodes.proofs.Copying.{some-at}
use Rattle.image_parts.specs.Parts.{KeepsPart}
use Rattle.name_images.proofs.RowsAt.{has-name}
use Rattle.name_images.proofs.rows.put_names.Goals as goal

pub name_at_place-requires-clause-k : goal.name_at_place-requires-clause-k
name_at_place-requires-clause-k c = has-name c.args.tree.now.rows c.args.place c.loop-k.k c.args.depth c.requires.depth c.loop-k-test.true

pub loop-k-preserved : goal.loop-k-preserved
loop-k-preserved c =
    let path = path_at c.args.tree.now.rows c.args.place in
    let is : c.name_at_place.result.now ≡ get_or path c.loop-k.k [] = c.name_at_place.ensures (get_or c.args.tree.now.rows c.args.place no_entry) (some-at c.args.tree.now.rows c.args.place c.requires.place) in
    record {
      long = c.put-next.ensures.length ∙ c.put-slashed.ensures.length ∙ c.loop-k.invariant.long;
      held = λ all t.
          subst (λ (l : List ℕ). KeepsPart c.args.at c.put-next.result l c.put-next.new.buf)
          (text-more all (all ++ names_text (take c.loop-k.k path)) ((all ++ names_text (take c.loop-k.k path)) ++ 47 ∷ []) _ path c.loop-k.k c.name_at_place.result.now (let lt = c.loop-k-test.true in let d = c.requires.depth in omega (arith, lt, d)) refl refl refl is)
          (c.put-next.ensures.told _ (c.put-slashed.ensures.told _ (c.loop-k.invariant.held all t)));
    }

pub returns-clause-told : goal.returns-clause-told
returns-clause-told c = λ all t.
    let path = path_at c.args.tree.now.rows c.args.place in
    subst (λ (p : List (List ℕ)). KeepsPart c.args.at c.loop-k.told (all ++ names_text p) c.loop-k.buf)
    (take_all c.loop-k.k path (let h = c.loop-k-test.false in let d = c.requires.depth in omega (arith, h, d)))
    (c.loop-k.invariant.held all t)
