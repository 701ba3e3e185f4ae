use Rattle.std.proofs.Common.{◌≡◌, ◌∙◌, ◌++◌, ◌∷◌, ℕ, List, [], arith, get_or, length, refl, subst, sym, take, take_all}
use Rattle.std.proofs.lemmas.List.{get_or-map, length-map}
use Rattle.name_calls.specs.Paths.{names_text}
use Rattle.name_calls.proofs.PathLemmas.{text-more}
use Rattle.frozen_nodes.specs.Forest.{node_at}
use Rattle.image_parts.specs.Parts.{KeepsPart}
use Rattle.name_images.specs.Walks.{names_in}
use Rattle.name_images.proofs.nodes.put_names.Goals as goal

pub loop-n-preserved : goal.loop-n-preserved
loop-n-preserved c =
    let ns = c.args.forest.now.nodes in
    let path = c.args.path.now in
    let names = names_in ns path in
    let i = c.loop-n.n-index in
    let long : length names ≡ length path = length-map path (λ (k : ℕ). (node_at ns k).name) in
    let is : c.name.result.now ≡ get_or names i [] = c.name.ensures.name ∙ sym (get_or-map (λ (k : ℕ). (node_at ns k).name) path i 0 [] c.loop-n-test.true) in
    record {
      long = c.put-next.ensures.length ∙ c.put-slashed.ensures.length ∙ c.loop-n.invariant.long;
      held = λ all t.
          subst (λ (l : List ℕ). KeepsPart c.args.at c.put-next.result l c.put-next.new.buf)
          (text-more all (all ++ names_text (take i names)) ((all ++ names_text (take i names)) ++ 47 ∷ []) _ names i c.name.result.now (let lt = c.loop-n-test.true in omega (arith, long, lt)) refl refl refl is)
          (c.put-next.ensures.told _ (c.put-slashed.ensures.told _ (c.loop-n.invariant.held all t)));
    }

pub returns-clause-told : goal.returns-clause-told
returns-clause-told c = λ all t.
    let names = names_in c.args.forest.now.nodes c.args.path.now in
    let long : length names ≡ length c.args.path.now = length-map c.args.path.now (λ (k : ℕ). (node_at c.args.forest.now.nodes k).name) in
    subst (λ (p : List (List ℕ)). KeepsPart c.args.at c.loop-n.told (all ++ names_text p) c.loop-n.buf)
    (take_all c.loop-n.n-index names (let h = c.loop-n-test.false in omega (arith, h, long)))
    (c.loop-n.invariant.held all t)
