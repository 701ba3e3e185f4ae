use Rattle.std.proofs.Common.{◌≡◌, ◌+◌, ◌<◌, ℕ, ◌∙◌, List, true, length, get_or, [], arith, sym, subst}
use Rattle.name_calls.specs.Paths.{is_relative}
use Rattle.name_core.proofs.PathCopies.{joined-more, relative-upto}
use Rattle.name_core.proofs.copies.joined.Goals as goal

pub push-requires : goal.push-requires
push-requires c =
    let within : c.loop-k.k < length c.args.below.now = omega arith in
    let name : c.in_ok-copy_of_name.field-0 ≡ get_or c.args.below.now c.loop-k.k [] = c.in_ok-copy_of_name.ensures ∙ c.name.ensures in
    subst (λ (p : List (List ℕ)). is_relative p ≡ true) (sym (joined-more c.args.path c.args.below.now c.loop-k.joined c.loop-k.k c.in_ok-copy_of_name.field-0 c.loop-k.invariant within name))
    (relative-upto c.args.path c.args.below.now (c.loop-k.k + 1) c.args.count (omega arith) c.requires.rule)

pub loop-k-preserved : goal.loop-k-preserved
loop-k-preserved c =
    let within : c.loop-k.k < length c.args.below.now = omega arith in
    let name : c.in_ok-copy_of_name.field-0 ≡ get_or c.args.below.now c.loop-k.k [] = c.in_ok-copy_of_name.ensures ∙ c.name.ensures in
    c.in_ok-push.ensures.ok ∙ joined-more c.args.path c.args.below.now c.loop-k.joined c.loop-k.k c.in_ok-copy_of_name.field-0 c.loop-k.invariant within name
