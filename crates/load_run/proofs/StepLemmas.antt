-- One step more of the generator.
use Rattle.std.proofs.Common.{◌≡◌, ◌∙◌, ℕ, ◌+◌, ◌^◌, List, [], ◌∷◌, ◌++◌, add-one, ap, append_assoc, refl, sym}
use Rattle.std.specs.Prelude.{◌/◌}
use Rattle.load_run.specs.declared.task.Task.{Task}
use Rattle.load_run.specs.Generator.{random, random_after, step_by, step_of, steps}

steps_more : (n i : ℕ) → steps n (i + 1) ≡ steps n i ++ step_of n (i + 1) ∷ []
steps_more n i = rw add-one refl

-- the next random number
pub drawn : (n i x y : ℕ) → x ≡ random n i → y ≡ random_after x → y ≡ random n (i + 1)
drawn n i x y x_is y_is = rw add-one (y_is ∙ ap (λ (r : ℕ). random_after r) x_is)

-- the task of the next step is appended
pub appended : (n i y bits : ℕ) (t : Task) (before now after : List Task)
    → y ≡ random n (i + 1) → bits ≡ y / 2 ^ 32 → t ≡ step_by bits (i + 1) → now ≡ before ++ steps n i → after ≡ now ++ t ∷ [] → after ≡ before ++ steps n (i + 1)
appended n i y bits t before now after y_is bits_is t_is now_is after_is =
    let chosen : t ≡ step_of n (i + 1) = t_is ∙ ap (λ (b : ℕ). step_by b (i + 1)) (bits_is ∙ ap (λ (r : ℕ). r / 2 ^ 32) y_is) in
    after_is
    ∙ ap (λ (xs : List Task). xs ++ t ∷ []) now_is
    ∙ append_assoc before (steps n i) (t ∷ [])
    ∙ ap (λ (x : Task). before ++ (steps n i ++ x ∷ [])) chosen
    ∙ ap (λ (xs : List Task). before ++ xs) (sym (steps_more n i))
