use Rattle.std.proofs.Common.{◌≡◌, ◌∙◌, ℕ, List, Option, Some, None, ap, refl, subst}
use Rattle.std.specs.Prelude.{min, slice_get}
use Rattle.std.specs.Option.{option_map}
use Rattle.eek_queues.specs.declared.order.QueuePlace.{QueuePlace}
use Rattle.eek_queues.specs.declared.rings.Ring.{Ring}
use Rattle.eek_queues.specs.Queues.{AllQueues, IsLowest, Queue, limit, lowest}
use Rattle.eek_queues.specs.Kept.{AreQueuesKept, queues_of}
use Rattle.eek_queues.proofs.Lowest.{birth-of-place, first-place, lowest-is, none-is}
use Rattle.eek_queues.proofs.RingLemmas.{seen}
use Rattle.eek_queues.proofs.queues.Queues.low.Goals as goal

-- the birth of the first place is that of the lowest queue
module _ (old : AllQueues) (size watermark n : ℕ) (rings : List Ring) (places : List QueuePlace) (spare : ℕ) (k : AreQueuesKept size n rings places spare) (m : n ≡ min watermark size) (view : seen size watermark (queues_of rings) ≡ old) where
  first : (o : Option QueuePlace) → o ≡ slice_get places 0 → option_map (λ (p : QueuePlace). p.birth) o ≡ option_map (λ (q : Queue). q.birth) (lowest (limit old) old.queues)
  first o e =
      ap (option_map (λ (p : QueuePlace). p.birth)) (e ∙ ap (λ ps. slice_get ps 0) k.order ∙ first-place n (queues_of rings))
      ∙ birth-of-place (lowest n (queues_of rings))
      ∙ ap (λ (x : ℕ). option_map (λ (q : Queue). q.birth) (lowest x (queues_of rings))) m
      ∙ ap (λ (x : AllQueues). option_map (λ (q : Queue). q.birth) (lowest (limit x) x.queues)) view

  lowest_of : (birth : ℕ) → Some birth ≡ option_map (λ (q : Queue). q.birth) (lowest (limit old) old.queues) → IsLowest (limit old) old.queues birth
  lowest_of birth e =
      subst (λ (x : AllQueues). Some birth ≡ option_map (λ (q : Queue). q.birth) (lowest (limit x) x.queues) → IsLowest (limit x) x.queues birth) view
      (λ f. go (min watermark size) (lowest (min watermark size) (queues_of rings)) refl f) e
    where
      go : (x : ℕ) (o : Option Queue) → lowest x (queues_of rings) ≡ o → Some birth ≡ option_map (λ (q : Queue). q.birth) o → IsLowest x (queues_of rings) birth
      go x None f h = cc
      go x (Some q) f h = let b : q.birth ≡ birth = cc in subst (λ (y : ℕ). IsLowest x (queues_of rings) y) b (lowest-is x (queues_of rings) q k.rising f)

pub returns-in-Some-clause-value : goal.returns-in-Some-clause-value
returns-in-Some-clause-value c =
    first c.args.self.now _ _ _ _ _ _ c.self.invariant.0 c.self.invariant.1 c.self.view_is (Some c.in-Some.place) c.in-Some.ensures

pub returns-in-Some-clause-none : goal.returns-in-Some-clause-none
returns-in-Some-clause-none c =
    none-is (limit c.args.self.now) c.args.self.now.queues (Some c.in-Some.place.birth)
    (first c.args.self.now _ _ _ _ _ _ c.self.invariant.0 c.self.invariant.1 c.self.view_is (Some c.in-Some.place) c.in-Some.ensures)

pub returns-in-Some-clause-lowest : goal.returns-in-Some-clause-lowest
returns-in-Some-clause-lowest c =
    lowest_of c.args.self.now _ _ _ _ _ _ c.self.invariant.0 c.self.invariant.1 c.self.view_is c.in-Some.place.birth
    (first c.args.self.now _ _ _ _ _ _ c.self.invariant.0 c.self.invariant.1 c.self.view_is (Some c.in-Some.place) c.in-Some.ensures)

pub returns-in-None-clause-value : goal.returns-in-None-clause-value
returns-in-None-clause-value c =
    first c.args.self.now _ _ _ _ _ _ c.self.invariant.0 c.self.invariant.1 c.self.view_is None c.in-None.ensures

pub returns-in-None-clause-none : goal.returns-in-None-clause-none
returns-in-None-clause-none c =
    none-is (limit c.args.self.now) c.args.self.now.queues None
    (first c.args.self.now _ _ _ _ _ _ c.self.invariant.0 c.self.invariant.1 c.self.view_is None c.in-None.ensures)
