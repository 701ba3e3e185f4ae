use Rattle.std.proofs.Common.{◌≡◌, ◌∙◌, ℕ, Bool, List, Some, None, cond, ap, subst, sym, arith, get_or}
use Rattle.frozen_nodes.specs.Forest.{AreNamedInOrder, kid_named}
use Rattle.frozen_nodes.proofs.Sought.{sought-here, sought-past}
use Rattle.frozen_nodes.proofs.forest.Forest.kid_named.Goals as goal

pub kid_place-at-requires : goal.kid_place-at-requires
kid_place-at-requires c = subst (λ (ks : List ℕ). AreNamedInOrder c.args.self.now.nodes ks) (sym c.kids-kids.ensures.kids) (c.invariants.ensures c.args.n).order

pub returns-then-at-kids : goal.returns-then-at-kids
returns-then-at-kids c =
    sym (subst (λ (ks : List ℕ). kid_named c.args.self.now.nodes ks c.args.name.now ≡ None) c.kids-kids.ensures.kids
    (sought-past c.args.self.now.nodes c.args.name.now c.kids-kids.result.now c.kid_place-at.result (let e = c.if-at-kids.true in omega arith) c.kid_place-at.ensures.parted))

pub returns-then-is_named : goal.returns-then-is_named
returns-then-is_named c =
    sym (subst (λ (ks : List ℕ). kid_named c.args.self.now.nodes ks c.args.name.now ≡ Some (get_or c.kids-kids.result.now c.kid_place-at.result 0)) c.kids-kids.ensures.kids
    (sought-here c.args.self.now.nodes c.args.name.now c.kids-kids.result.now c.kid_place-at.result 0
    (subst (λ (ks : List ℕ). AreNamedInOrder c.args.self.now.nodes ks) (sym c.kids-kids.ensures.kids) (c.invariants.ensures c.args.n).order)
    (let e = c.if-at-kids.false in let m = c.kid_place-at.ensures.most in omega arith) c.kid_place-at.ensures.parted
    ∙ ap (λ (t : Bool). cond t (Some (get_or c.kids-kids.result.now c.kid_place-at.result 0)) None) (sym c.is_named.ensures ∙ c.if-is_named.true)))

pub returns-else-is_named : goal.returns-else-is_named
returns-else-is_named c =
    sym (subst (λ (ks : List ℕ). kid_named c.args.self.now.nodes ks c.args.name.now ≡ None) c.kids-kids.ensures.kids
    (sought-here c.args.self.now.nodes c.args.name.now c.kids-kids.result.now c.kid_place-at.result 0
    (subst (λ (ks : List ℕ). AreNamedInOrder c.args.self.now.nodes ks) (sym c.kids-kids.ensures.kids) (c.invariants.ensures c.args.n).order)
    (let e = c.if-at-kids.false in let m = c.kid_place-at.ensures.most in omega arith) c.kid_place-at.ensures.parted
    ∙ ap (λ (t : Bool). cond t (Some (get_or c.kids-kids.result.now c.kid_place-at.result 0)) None) (sym c.is_named.ensures ∙ c.if-is_named.false)))
