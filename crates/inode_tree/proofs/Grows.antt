-- One more node.
use Rattle.std.proofs.Common.{◌≡◌, ℕ, ◌+◌, ◌<◌, ◌≤◌, zero, suc, Bool, true, false, cond, List, [], ◌∷◌, ◌++◌, length, refl, sym, ap, ◌∙◌, subst, arith, length-append, ◌⊎◌, inl, inr, ⊎_elim}
use Rattle.std.specs.Prelude.{◌==◌}
use Rattle.std.proofs.lemmas.List.{get_or_append_left}
use Rattle.std.proofs.lemmas.Bool.{cases_lt}
use Rattle.std.specs.List.{insert}
use Rattle.std.proofs.lemmas.Bool.Decides.{nat_tests}
use Rattle.inode_tree.specs.declared.rows.Node.{Node}
use Rattle.inode_tree.specs.Arena.{rows_of, node_at, path_of, up, IsLinked, blank, AllWithin}

pub node-old : (ns : List Node) (x : Node) (n : ℕ) → n < length ns → node_at (ns ++ x ∷ []) n ≡ node_at ns n
node-old ns x n h = get_or_append_left ns (x ∷ []) blank n h

pub node-new : (ns : List Node) (x : Node) → node_at (ns ++ x ∷ []) (length ns) ≡ x
node-new [] x = refl
node-new (y ∷ ns) x = node-new ns x

pub up-grow : (f : ℕ) (ns : List Node) (x : Node) (n : ℕ) → IsLinked ns → n < length ns → up f (ns ++ x ∷ []) n ≡ up f ns n
unfolding up
up-grow zero ns x n l h = refl
up-grow (suc f) ns x n l h =
    ap (λ (y : Node). cond (n == 0) [] (up f (ns ++ x ∷ []) y.parent ++ (y.name ∷ []))) (node-old ns x n h)
    ∙ ap (λ (q : List (List ℕ)). cond (n == 0) [] (q ++ ((node_at ns n).name ∷ []))) (up-grow f ns x (node_at ns n).parent l (l.below n h))

pub path-old : (ns : List Node) (x : Node) (n : ℕ) → IsLinked ns → n < length ns → path_of (ns ++ x ∷ []) n ≡ path_of ns n
unfolding path_of
path-old ns x n l h = up-grow 128 ns x n l h

-- a climb that ends early is as long with one step less
pub up-less : (f : ℕ) (ns : List Node) (n : ℕ) → length (up (suc f) ns n) ≤ f → up (suc f) ns n ≡ up f ns n
unfolding up
up-less zero ns n h = go (n == 0) h
  where
    go : (b : Bool) → length (cond b [] ([] ++ ((node_at ns n).name ∷ []))) ≤ 0 → cond b [] ([] ++ ((node_at ns n).name ∷ [])) ≡ []
    go true k = refl
    go false k = absurd (omega arith)
up-less (suc f) ns n h = go (n == 0) h (up-less f ns (node_at ns n).parent)
  where
    go : (b : Bool) → length (cond b [] (up (suc f) ns (node_at ns n).parent ++ ((node_at ns n).name ∷ []))) ≤ suc f
        → (length (up (suc f) ns (node_at ns n).parent) ≤ f → up (suc f) ns (node_at ns n).parent ≡ up f ns (node_at ns n).parent)
        → cond b [] (up (suc f) ns (node_at ns n).parent ++ ((node_at ns n).name ∷ [])) ≡ cond b [] (up f ns (node_at ns n).parent ++ ((node_at ns n).name ∷ []))
    go true k ih = refl
    go false k ih = ap (λ (q : List (List ℕ)). q ++ ((node_at ns n).name ∷ [])) (ih (omega (arith, length-append (up (suc f) ns (node_at ns n).parent) ((node_at ns n).name ∷ []))))

eqb-no : (n : ℕ) → (n ≡ 0 → ⊥) → (n == 0) ≡ false
eqb-no n h = grind (arith, nat_tests)

pub up-step : (f : ℕ) (ns : List Node) (n : ℕ) → (n ≡ 0 → ⊥) → up (suc f) ns n ≡ up f ns (node_at ns n).parent ++ ((node_at ns n).name ∷ [])
unfolding up
up-step f ns n apart = go (n == 0) (eqb-no n apart)
  where
    go : (b : Bool) → b ≡ false → cond b [] (up f ns (node_at ns n).parent ++ ((node_at ns n).name ∷ [])) ≡ up f ns (node_at ns n).parent ++ ((node_at ns n).name ∷ [])
    go true e = cc
    go false e = refl

up-new : (f : ℕ) (ns : List Node) (n : ℕ) → (n ≡ 0 → ⊥) → length (up (suc f) ns (node_at ns n).parent) ≤ f → up (suc f) ns n ≡ up (suc f) ns (node_at ns n).parent ++ ((node_at ns n).name ∷ [])
up-new f ns n apart h = up-step f ns n apart ∙ ap (λ (q : List (List ℕ)). q ++ ((node_at ns n).name ∷ [])) (sym (up-less f ns (node_at ns n).parent h))

pub path-new : (ns : List Node) (n : ℕ) → (n ≡ 0 → ⊥) → length (path_of ns (node_at ns n).parent) ≤ 127 → path_of ns n ≡ path_of ns (node_at ns n).parent ++ ((node_at ns n).name ∷ [])
unfolding path_of
path-new ns n apart h = up-new 127 ns n apart h

split : (m n : ℕ) → m < n + 1 → (m < n) ⊎ (m ≡ n)
split m n h = elim (cases_lt m n) [ inl a ↦ inl a | inr b ↦ inr (omega arith) ]

pub linked-grow : (ns : List Node) (x : Node) → IsLinked ns → x.parent < length ns → length (path_of ns x.parent) ≤ 127 → IsLinked (ns ++ x ∷ [])
linked-grow ns x l b h = record {
  some = let some = l.some in omega (arith, length-append ns (x ∷ []));
  below = λ m k. ⊎_elim
      (λ a. let low = l.below m a in subst (λ (y : Node). y.parent < length (ns ++ x ∷ [])) (sym (node-old ns x m a)) (omega (arith, length-append ns (x ∷ []))))
      (λ e. subst (λ (j : ℕ). (node_at (ns ++ x ∷ []) j).parent < length (ns ++ x ∷ [])) (sym e) (subst (λ (y : Node). y.parent < length (ns ++ x ∷ [])) (sym (node-new ns x)) (omega (arith, length-append ns (x ∷ [])))))
      (split m (length ns) (omega (arith, length-append ns (x ∷ []))));
  step = λ m k apart. ⊎_elim
      (λ a. path-old ns x m l a ∙ l.step m a apart
      ∙ ap (λ (q : List (List ℕ)). q ++ ((node_at ns m).name ∷ [])) (sym (path-old ns x (node_at ns m).parent l (l.below m a)))
      ∙ ap (λ (y : Node). path_of (ns ++ x ∷ []) y.parent ++ (y.name ∷ [])) (sym (node-old ns x m a)))
      (λ e. path-new (ns ++ x ∷ []) m apart
      (subst (λ (j : ℕ). length (path_of (ns ++ x ∷ []) (node_at (ns ++ x ∷ []) j).parent) ≤ 127) (sym e)
      (subst (λ (y : Node). length (path_of (ns ++ x ∷ []) y.parent) ≤ 127) (sym (node-new ns x))
      (subst (λ (q : List (List ℕ)). length q ≤ 127) (sym (path-old ns x x.parent l b)) h))))
      (split m (length ns) (omega (arith, length-append ns (x ∷ []))));
}

pub within-more : (n : ℕ) (ks : List ℕ) → AllWithin n ks → AllWithin (n + 1) ks
within-more n [] a = tt
within-more n (k ∷ ks) a = (let b = a.0 in omega arith, within-more n ks a.1)

pub within-insert : (n : ℕ) (ks : List ℕ) (i k : ℕ) → AllWithin n ks → k < n → AllWithin n (insert ks i k)
within-insert n [] zero k a h = (h, tt)
within-insert n [] (suc i) k a h = (h, tt)
within-insert n (j ∷ ks) zero k a h = (h, a)
within-insert n (j ∷ ks) (suc i) k a h = (a.0, within-insert n ks i k a.1 h)

pub rows-old : (ns : List Node) (x : Node) (order : List ℕ) → IsLinked ns → AllWithin (length ns) order → rows_of (ns ++ x ∷ []) order ≡ rows_of ns order
rows-old ns x [] l a = refl
rows-old ns x (n ∷ order) l a =
    let e : path_of (ns ++ x ∷ []) n ≡ path_of ns n = path-old ns x n l a.0 in
    let f : node_at (ns ++ x ∷ []) n ≡ node_at ns n = node-old ns x n a.0 in
    let g : rows_of (ns ++ x ∷ []) order ≡ rows_of ns order = rows-old ns x order l a.1 in
    λ i. record { path = e i; row = (f i).row } ∷ g i
