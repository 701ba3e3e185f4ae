use Rattle.std.proofs.Common.{rules, tests, ◌∙◌}
use Rattle.std.proofs.lemmas.Iterator.{YieldsList-from_slice, YieldsList-from_map_by}
use Rattle.std.proofs.lemmas.Iterator.Consumers.{map_from_collect}
use Rattle.std.proofs.lemmas.List.{map-id}
use Rattle.std.proofs.lemmas.Result.{IfOk-weaker}
use Rattle.clap_lines.proofs.values.texts_of.Goals as goal

pub returns : goal.returns
returns c =
    let steps = YieldsList-from_map_by _ (λ r. r.now) (λ text. text) (YieldsList-from_slice c.args.words.now cc) c.map.ensures.closure (λ x r q k. search (rules, tests)) in
    IfOk-weaker c.collect.result _ _ (λ texts given. given ∙ map-id c.args.words.now) (map_from_collect _ c.collect.ensures.ran steps)
