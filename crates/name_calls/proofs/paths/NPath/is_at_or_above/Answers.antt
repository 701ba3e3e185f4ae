use Rattle.std.proofs.Common.{◌≡◌, ◌<◌, ◌+◌, ◌∙◌, ◌&&◌, [], Bool, List, ℕ, true, false, suc, drop, get_or, length, refl, sym, ap, subst, arith}
use Rattle.std.specs.Str.{bytes_eq}
use Rattle.name_calls.specs.Paths.{is_prefix}
use Rattle.name_calls.proofs.PathLemmas.{ends-at, longer-is-no-prefix, prefix-from}
use Rattle.name_calls.proofs.paths.NPath.is_at_or_above.Goals as goal

pub returns-then-len : goal.returns-then-len
returns-then-len c = sym (longer-is-no-prefix c.args.self.now c.args.other.now (omega (arith, c.len.ensures.len, c.len-2.ensures.len, c.if-len.true)))

pub loop-k-init : goal.loop-k-init
loop-k-init c = refl

-- whether the names from the k-th on are the same, by whether the k-th are
from-names : (p q : List (List ℕ)) (k : ℕ) (x y : List ℕ) (same : Bool) → is_prefix (drop k p) (drop k q) ≡ is_prefix p q → k < length p → k < length q → x ≡ get_or p k [] → y ≡ get_or q k [] → bytes_eq x y ≡ same → (same && is_prefix (drop (suc k) p) (drop (suc k) q)) ≡ is_prefix p q
from-names p q k x y same whole in-p in-q is-x is-y is =
    ap (λ (b : Bool). b && is_prefix (drop (suc k) p) (drop (suc k) q)) (sym is ∙ ap (λ (n : List ℕ). bytes_eq n y) is-x ∙ ap (λ (n : List ℕ). bytes_eq (get_or p k []) n) is-y)
    ∙ sym (prefix-from p q k in-p in-q) ∙ whole

pub returns-then-not-is_same_name : goal.returns-then-not-is_same_name
returns-then-not-is_same_name c =
    from-names c.args.self.now c.args.other.now c.loop-k.k c.name.result.now c.name-in-loop-k.result.now false c.loop-k.invariant (omega (arith, c.len-k-end.ensures.len, c.loop-k-test.true))
    (omega (arith, c.len.ensures.len, c.len-2.ensures.len, c.len-k-end.ensures.len, c.if-len.false, c.loop-k-test.true)) c.name.ensures c.name-in-loop-k.ensures (sym c.is_same_name.ensures ∙ c.if-not-is_same_name.true)

pub loop-k-preserved : goal.loop-k-preserved
loop-k-preserved c =
    let next : suc c.loop-k.k ≡ c.loop-k.k + 1 = omega arith in
    subst (λ (n : ℕ). is_prefix (drop n c.args.self.now) (drop n c.args.other.now) ≡ is_prefix c.args.self.now c.args.other.now) next
    (from-names c.args.self.now c.args.other.now c.loop-k.k c.name.result.now c.name-in-loop-k.result.now true c.loop-k.invariant (omega (arith, c.len-k-end.ensures.len, c.loop-k-test.true))
    (omega (arith, c.len.ensures.len, c.len-2.ensures.len, c.len-k-end.ensures.len, c.if-len.false, c.loop-k-test.true)) c.name.ensures c.name-in-loop-k.ensures (sym c.is_same_name.ensures ∙ c.if-not-is_same_name.false))

pub returns : goal.returns
returns c = sym (sym c.loop-k.invariant ∙ ends-at c.args.self.now (drop c.loop-k.k c.args.other.now) c.loop-k.k (omega (arith, c.len-k-end.ensures.len, c.loop-k-test.false)))
