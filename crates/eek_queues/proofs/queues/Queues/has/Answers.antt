use Rattle.std.proofs.Common.{◌≡◌, ◌<◌, ◌∙◌, ℕ, false, List, Option, Some, None, get_or, length, sym}
use Rattle.std.specs.Option.{IfNone, IfSome, is_some}
use Rattle.eek_queues.specs.declared.rings.Ring.{Ring}
use Rattle.eek_queues.specs.Queues.{has_queue}
use Rattle.eek_queues.specs.Kept.{AreQueuesRising, queues_of}
use Rattle.eek_queues.proofs.RingLemmas.{has-found, has-seen}
use Rattle.eek_queues.proofs.queues.Queues.has.Goals as goal

either : (rings : List Ring) (birth : ℕ) (r : Option ℕ) → AreQueuesRising (queues_of rings) → IfNone r (has_queue (queues_of rings) birth ≡ false) → IfSome r (λ at. at < length rings) → IfSome r (λ at. (d : Ring) → (get_or rings at d).birth ≡ birth)
    → is_some r ≡ has_queue (queues_of rings) birth
either rings birth None h n w b = sym n
either rings birth (Some at) h n w b = sym (has-found rings birth at h w b)

pub returns : goal.returns
returns c =
    c.is_some.ensures
    ∙ either c.self.inside.rings.items c.args.birth c.find.result c.self.invariant.0.rising c.find.ensures.none c.find.ensures.within c.find.ensures.birth
    ∙ sym (has-seen c.args.self.now c.self.inside.size c.self.inside.watermark c.self.inside.rings.items c.self.view_is c.args.birth)
