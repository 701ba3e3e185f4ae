use Rattle.std.proofs.Common.{◌≡◌, ◌<◌, ◌≤◌, ◌+◌, ◌∙◌, ℕ, true, false, [], ◌∷◌, ◌++◌, Option, ap, get_or, length, length-append, refl, subst, sym, arith}
use Rattle.std.specs.Option.{IfSome}
use Rattle.circular_buffer.specs.Buffer.{Buffer}
use Rattle.hk_base.specs.declared.names.Edek.{Edek}
use Rattle.eek_queues.specs.declared.rings.Ring.{Ring}
use Rattle.eek_queues.specs.Queues.{AllQueues, dropped, ready_in, set_ready}
use Rattle.eek_queues.specs.Order.{places_of}
use Rattle.eek_queues.specs.Kept.{queues_of}
use Rattle.eek_queues.proofs.RingLemmas.{IsAt, changed, found, has-ring, kept-set, ready-ring, ready-seen, replace-ring, room-at, stands, stands-is}
use Rattle.eek_queues.proofs.queues.Queues.put.Goals as goal

at-most : (n m : ℕ) → n ≤ m → (n < m → false ≡ true) → n ≡ m
at-most n m l f =
    let no : n < m → ⊥ = λ k. (let e : false ≡ true = f k in cc) in
    omega arith

pub follow-requires : goal.follow-requires
follow-requires c =
    let h : IsAt c.self.inside.rings.items c.args.birth c.unwrap-at.result c.index_mut-ring.result.now =
    found _ _ _ _ c.self.invariant.0.rising
    (subst (λ (r : Option ℕ). IfSome r (λ at. at < length c.self.inside.rings.items)) c.unwrap-at.ensures c.find.ensures.within)
    c.index_mut-ring.ensures.value
    (subst (λ (r : Option ℕ). IfSome r (λ at. (d : Ring) → (get_or c.self.inside.rings.items at d).birth ≡ c.args.birth)) c.unwrap-at.ensures c.find.ensures.birth) in
    stands _ _ _ _ _ c.self.invariant.0 c.args.birth c.len-count.result (has-ring _ _ _ _ h) (c.len-count.ensures.len ∙ ap length (sym (ready-ring _ _ _ _ h)))

pub invariant_of-self : goal.invariant_of-self
invariant_of-self c =
    let h : IsAt c.self.inside.rings.items c.args.birth c.unwrap-at.result c.index_mut-ring.result.now =
    found _ _ _ _ c.self.invariant.0.rising
    (subst (λ (r : Option ℕ). IfSome r (λ at. at < length c.self.inside.rings.items)) c.unwrap-at.ensures c.find.ensures.within)
    c.index_mut-ring.ensures.value
    (subst (λ (r : Option ℕ). IfSome r (λ at. (d : Ring) → (get_or c.self.inside.rings.items at d).birth ≡ c.args.birth)) c.unwrap-at.ensures c.find.ensures.birth) in (
      kept-set _ _ _ _ _ c.self.invariant.0 c.args.birth c.unwrap-at.result c.index_mut-ring.result.now _ (c.len-count.result + 1) c.follow.new.self.limit _ _ h h.its_birth
          (ap (λ (b : Buffer Edek). b.capacity) c.in-Ok.ensures.ok ∙ room-at _ _ _ _ _ c.self.invariant.0 c.args.birth c.unwrap-at.result c.index_mut-ring.result.now h)
          (ap (λ n. n + 1) c.len-count.ensures.len ∙ sym (length-append c.index_mut-ring.result.now.ready.items (c.args.ready ∷ [])) ∙ ap (λ (b : Buffer Edek). length b.items) (sym c.in-Ok.ensures.ok))
          c.follow.ensures.limit
          (c.follow.ensures.places (places_of c.self.inside.order.limit (dropped (queues_of c.self.inside.rings.items) c.args.birth))
          (stands-is _ _ _ _ _ c.self.invariant.0 c.args.birth c.len-count.result (has-ring _ _ _ _ h) (c.len-count.ensures.len ∙ ap length (sym (ready-ring _ _ _ _ h)))))
          c.follow.ensures.room,
      c.follow.ensures.limit ∙ c.self.invariant.1,
    )

pub returns-in-Ok-clause-full : goal.returns-in-Ok-clause-full
returns-in-Ok-clause-full c =
    let h : IsAt c.self.inside.rings.items c.args.birth c.unwrap-at.result c.index_mut-ring.result.now =
    found _ _ _ _ c.self.invariant.0.rising
    (subst (λ (r : Option ℕ). IfSome r (λ at. at < length c.self.inside.rings.items)) c.unwrap-at.ensures c.find.ensures.within)
    c.index_mut-ring.ensures.value
    (subst (λ (r : Option ℕ). IfSome r (λ at. (d : Ring) → (get_or c.self.inside.rings.items at d).birth ≡ c.args.birth)) c.unwrap-at.ensures c.find.ensures.birth) in
    let room : c.index_mut-ring.result.now.ready.capacity ≡ c.self.inside.size = room-at _ _ _ _ _ c.self.invariant.0 c.args.birth c.unwrap-at.result c.index_mut-ring.result.now h in
    let many : length (ready_in c.args.self.now.queues c.args.birth) ≡ length c.index_mut-ring.result.now.ready.items = ap length (ready-seen c.args.self.now c.self.inside.size c.self.inside.watermark c.self.inside.rings.items c.self.view_is c.args.birth c.unwrap-at.result c.index_mut-ring.result.now h) in
    let size : c.self.inside.size ≡ c.args.self.now.size = ap (λ (o : AllQueues). o.size) c.self.view_is in
    let less : length c.index_mut-ring.result.now.ready.items < c.index_mut-ring.result.now.ready.capacity = c.in-Ok.ensures.variant.0 refl in
    (λ e. cc, λ e. absurd (omega arith))

pub returns-in-Ok-clause-ok : goal.returns-in-Ok-clause-ok
returns-in-Ok-clause-ok c =
    let h : IsAt c.self.inside.rings.items c.args.birth c.unwrap-at.result c.index_mut-ring.result.now =
    found _ _ _ _ c.self.invariant.0.rising
    (subst (λ (r : Option ℕ). IfSome r (λ at. at < length c.self.inside.rings.items)) c.unwrap-at.ensures c.find.ensures.within)
    c.index_mut-ring.ensures.value
    (subst (λ (r : Option ℕ). IfSome r (λ at. (d : Ring) → (get_or c.self.inside.rings.items at d).birth ≡ c.args.birth)) c.unwrap-at.ensures c.find.ensures.birth) in
    changed (λ qs. set_ready qs c.args.birth (ready_in qs c.args.birth ++ c.args.ready ∷ [])) c.args.self.now c.self.inside.size c.self.inside.watermark c.self.inside.rings.items _ c.self.view_is
    (replace-ring c.self.inside.rings.items c.args.birth c.unwrap-at.result c.index_mut-ring.result.now _ (λ ready. ready ++ c.args.ready ∷ []) _ h refl c.in-Ok.ensures.ok)

pub returns-in-Err-clause-full : goal.returns-in-Err-clause-full
returns-in-Err-clause-full c =
    let h : IsAt c.self.inside.rings.items c.args.birth c.unwrap-at.result c.index_mut-ring.result.now =
    found _ _ _ _ c.self.invariant.0.rising
    (subst (λ (r : Option ℕ). IfSome r (λ at. at < length c.self.inside.rings.items)) c.unwrap-at.ensures c.find.ensures.within)
    c.index_mut-ring.ensures.value
    (subst (λ (r : Option ℕ). IfSome r (λ at. (d : Ring) → (get_or c.self.inside.rings.items at d).birth ≡ c.args.birth)) c.unwrap-at.ensures c.find.ensures.birth) in
    let room : c.index_mut-ring.result.now.ready.capacity ≡ c.self.inside.size = room-at _ _ _ _ _ c.self.invariant.0 c.args.birth c.unwrap-at.result c.index_mut-ring.result.now h in
    let many : length (ready_in c.args.self.now.queues c.args.birth) ≡ length c.index_mut-ring.result.now.ready.items = ap length (ready-seen c.args.self.now c.self.inside.size c.self.inside.watermark c.self.inside.rings.items c.self.view_is c.args.birth c.unwrap-at.result c.index_mut-ring.result.now h) in
    let size : c.self.inside.size ≡ c.args.self.now.size = ap (λ (o : AllQueues). o.size) c.self.view_is in
    let full : length c.index_mut-ring.result.now.ready.items ≡ c.index_mut-ring.result.now.ready.capacity = at-most _ _ (omega arith) c.in-Err.ensures.variant.1 in
    (λ e. omega arith, λ e. refl)
