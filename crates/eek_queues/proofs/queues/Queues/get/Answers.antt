use Rattle.std.proofs.Common.{◌∙◌, ap, sym}
use Rattle.std.specs.Prelude.{slice_get}
use Rattle.eek_queues.proofs.RingLemmas.{IsAt, absent-seen, found, ready-seen}
use Rattle.eek_queues.proofs.queues.Queues.get.Goals as goal

pub returns-in-Some : goal.returns-in-Some
returns-in-Some c =
    let h : IsAt c.self.inside.rings.items c.args.birth c.in-Some.at c.index.result.now =
    found _ _ _ _ c.self.invariant.0.rising c.in-Some.ensures.within c.index.ensures c.in-Some.ensures.birth in
    c.copied.ensures ∙ c.get.ensures ∙ ap (λ xs. slice_get xs c.args.position) (sym (ready-seen c.args.self.now c.self.inside.size c.self.inside.watermark c.self.inside.rings.items c.self.view_is c.args.birth c.in-Some.at c.index.result.now h))

pub returns-in-None : goal.returns-in-None
returns-in-None c =
    sym (ap (λ xs. slice_get xs c.args.position) (absent-seen c.args.self.now c.self.inside.size c.self.inside.watermark c.self.inside.rings.items c.self.view_is c.args.birth c.in-None.ensures.none))
