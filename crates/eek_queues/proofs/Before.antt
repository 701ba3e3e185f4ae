-- The order of places is total.
use Rattle.std.proofs.Common.{◌≡◌, ℕ, true, false, cond, arith}
use Rattle.std.specs.Prelude.{◌==◌, nat_lt}
use Rattle.std.proofs.lemmas.Bool.Decides.{nat_tests}
use Rattle.eek_queues.specs.declared.order.QueuePlace.{QueuePlace}
use Rattle.eek_queues.specs.Order.{is_before}

test-self : (a x : ℕ) → cond (a == a) (nat_lt x x) (nat_lt a a) ≡ false
test-self a x = grind (arith, nat_tests)

test-back : (a x b y : ℕ) → cond (a == b) (nat_lt x y) (nat_lt a b) ≡ true → cond (b == a) (nat_lt y x) (nat_lt b a) ≡ false
test-back a x b y h = grind (arith, nat_tests)

test-along : (a x b y c z : ℕ) → cond (b == a) (nat_lt y x) (nat_lt b a) ≡ false → cond (c == b) (nat_lt z y) (nat_lt c b) ≡ false → cond (c == a) (nat_lt z x) (nat_lt c a) ≡ false
test-along a x b y c z h k = grind (arith, nat_tests)

test-count : (a x b y : ℕ) → cond (a == b) (nat_lt x y) (nat_lt a b) ≡ false → cond (b == a) (nat_lt y x) (nat_lt b a) ≡ false → a ≡ b
test-count a x b y h k = grind (arith, nat_tests)

test-birth : (a x b y : ℕ) → cond (a == b) (nat_lt x y) (nat_lt a b) ≡ false → cond (b == a) (nat_lt y x) (nat_lt b a) ≡ false → x ≡ y
test-birth a x b y h k = grind (arith, nat_tests)

pub before-self : (a : QueuePlace) → is_before a a ≡ false
before-self a = test-self a.count a.birth

pub before-back : (a b : QueuePlace) → is_before a b ≡ true → is_before b a ≡ false
before-back a b h = test-back a.count a.birth b.count b.birth h

-- a is not after b, nor b after c
pub before-along : (a b c : QueuePlace) → is_before b a ≡ false → is_before c b ≡ false → is_before c a ≡ false
before-along a b c h k = test-along a.count a.birth b.count b.birth c.count c.birth h k

pub before-either : (a b : QueuePlace) → is_before a b ≡ false → is_before b a ≡ false → a ≡ b
before-either a b h k =
    let n : a.count ≡ b.count = test-count a.count a.birth b.count b.birth h k in
    let m : a.birth ≡ b.birth = test-birth a.count a.birth b.count b.birth h k in
    λ i. record { count = n i; birth = m i }
