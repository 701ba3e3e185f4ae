use Rattle.std.proofs.Common.{arith, ◌≡◌, ◌<◌, ◌≤◌, ◌+◌, ℕ, List, length, get_or, set, refl, sym, ap, ◌∙◌, inl, inr, length-set, get_or-set_same, get_or-set_other}
use Rattle.std.proofs.lemmas.Bool.{cases_eq}
use Rattle.std.proofs.lemmas.Grind.{same_number_lists}
use Rattle.inode_tree.specs.Listed.{raised}
use Rattle.inode_tree.proofs.Raises.{length-raised, raised-after, raised-before}
use Rattle.inode_tree.proofs.order.raise.Goals as goal

-- one step, over plain variables
module _ (first now : List ℕ) (c j : ℕ) (low : c < j) (within : j < length now) (same : length now ≡ length first) (rest : (k : ℕ) → j ≤ k → get_or now k 0 ≡ get_or first k 0) where
  pub done-more : ((k : ℕ) → k < j → get_or now k 0 ≡ get_or (raised c first) k 0) → (k : ℕ) → k < j + 1 → get_or (set now j (get_or now j 0 + 1)) k 0 ≡ get_or (raised c first) k 0
  done-more done k h = elim (cases_eq k j) [
    | inl e ↦ ap (λ (i : ℕ). get_or (set now j (get_or now j 0 + 1)) i 0) e ∙ get_or-set_same now j (get_or now j 0 + 1) 0 within ∙ ap (λ (y : ℕ). y + 1) (rest j (omega arith)) ∙ sym (raised-after c first j low (omega arith)) ∙ ap (λ (i : ℕ). get_or (raised c first) i 0) (sym e)
    | inr a ↦ get_or-set_other now j k (get_or now j 0 + 1) 0 a ∙ done k (omega arith)
  ]

  pub rest-more : (k : ℕ) → j + 1 ≤ k → get_or (set now j (get_or now j 0 + 1)) k 0 ≡ get_or first k 0
  rest-more k h = get_or-set_other now j k (get_or now j 0 + 1) 0 (λ e. omega arith) ∙ rest k (omega arith)

pub raise-init : goal.raise-init
raise-init c = record { low = omega arith; same = refl; done = λ k h. sym (raised-before c.args.c c.args.starts.now k (omega arith)); rest = λ k h. refl }

pub raise-preserved : goal.raise-preserved
raise-preserved c =
    let t = c.raise-test.true in
    let s = c.raise.invariant.same in
    let within : c.raise.j < length c.raise.starts = omega arith in
    record {
      low = let l = c.raise.invariant.low in omega arith;
      same = length-set c.raise.starts c.raise.j (get_or c.raise.starts c.raise.j 0 + 1) ∙ s;
      done = done-more c.args.starts.now c.raise.starts c.args.c c.raise.j c.raise.invariant.low within s c.raise.invariant.rest c.raise.invariant.done;
      rest = rest-more c.args.starts.now c.raise.starts c.args.c c.raise.j c.raise.invariant.low within s c.raise.invariant.rest;
    }

pub returns : goal.returns
returns c =
    let t = c.raise-test.false in
    same_number_lists c.raise.starts (raised c.args.c c.args.starts.now) (c.raise.invariant.same ∙ sym (length-raised c.args.c c.args.starts.now)) (λ k h. c.raise.invariant.done k (omega arith))
