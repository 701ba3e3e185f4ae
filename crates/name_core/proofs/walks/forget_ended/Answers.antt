use Rattle.std.proofs.Common.{rules}
use Rattle.std.proofs.lemmas.Fn.{filter_same}
use Rattle.reenc_walk.specs.Walks.{WalkState}
use Rattle.zone_table.specs.Statuses.{session_goes_on}
use Rattle.name_core.proofs.walks.forget_ended.Goals as goal

pub returns : goal.returns
returns c = filter_same _ (λ (w : WalkState). session_goes_on c.args.statuses.now.rows w.session) _ (λ x b g says. search rules) _ _ c.retain.ensures.filtered
