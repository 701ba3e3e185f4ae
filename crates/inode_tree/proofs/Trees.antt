-- Properties of a tree's rows, by its parts.
use Rattle.std.proofs.Common.{◌≡◌, ℕ, ◌<◌, ◌≤◌, zero, suc, Bool, true, false, cond, List, [], ◌∷◌, length, get_or, Option, Some, None, refl, sym, ap, ◌∙◌, subst, arith, Ordering}
use Rattle.std.specs.Prelude.{◌==◌}
use Rattle.std.specs.Ordering.{is_eq}
use Rattle.std.specs.Option.{option_map}
use Rattle.std.proofs.lemmas.Bool.Decides.{nat_tests}
use Rattle.std.proofs.lemmas.Bool.{eqb-true}
use Rattle.inode_tree.specs.declared.rows.Node.{Node}
use Rattle.inode_tree.specs.declared.rows.Row.{Row}
use Rattle.name_calls.specs.Paths.{path_cmp, same_path}
use Rattle.inode_tree.specs.Rows.{row_at, entry_of}
use Rattle.inode_tree.specs.Arena.{IsTree, IsRising, rank, rows_of, entry_at, node_at, path_of, number_of}
use Rattle.inode_tree.proofs.Ranks.{within-at}
use Rattle.inode_tree.proofs.Seeks.{number-pick, pick-at, pick-past, same-cmp, number-live, row-number}

pub sought : (ns : List Node) (order : List ℕ) (p : List (List ℕ)) (k n : ℕ) (o : Ordering) → IsRising (rows_of ns order) → k ≡ rank (rows_of ns order) p → k < length order → n ≡ get_or order k 0 → o ≡ path_cmp (path_of ns n) p
    → cond (is_eq o) (Some n) None ≡ number_of ns order p
sought ns order p k n o r ek h en eo =
    sym (number-pick ns order p r ∙ ap (λ (j : ℕ). pick-of j) (sym ek) ∙ pick-at ns order k p h ∙ ap (λ (m : ℕ). cond (same_path (path_of ns m) p) (Some m) None) (sym en) ∙ ap (λ (b : Bool). cond b (Some n) None) (same-cmp (path_of ns n) p ∙ ap is_eq (sym eo)))
  where
    pick-of : ℕ → Option ℕ
    pick-of j = Rattle.inode_tree.proofs.Seeks.pick ns order j p

pub sought-past : (ns : List Node) (order : List ℕ) (p : List (List ℕ)) (k : ℕ) → IsRising (rows_of ns order) → k ≡ rank (rows_of ns order) p → length order ≤ k → None ≡ number_of ns order p
sought-past ns order p k r ek h = sym (number-pick ns order p r ∙ pick-past ns order _ p (subst (λ (j : ℕ). length order ≤ j) ek h))

pub number-below : (ns : List Node) (order : List ℕ) (ids : ℕ → Option ℕ) (p : List (List ℕ)) (n : ℕ) → IsTree ns order ids → number_of ns order p ≡ Some n → n < length ns
number-below ns order ids p n t e = let w = number-live ns order p n e in subst (λ (j : ℕ). j < length ns) w.2 (within-at (length ns) order w.0 t.within w.1)

pub row-found : (ns : List Node) (order : List ℕ) (p : List (List ℕ)) (n : ℕ) (row : Row) → number_of ns order p ≡ Some n → row ≡ (node_at ns n).row → Some row ≡ row_at (rows_of ns order) p
row-found ns order p n row e f = ap Some f ∙ sym (row-number ns order p ∙ ap (option_map (λ (j : ℕ). (node_at ns j).row)) e)

pub row-missing : (ns : List Node) (order : List ℕ) (p : List (List ℕ)) → number_of ns order p ≡ None → None ≡ row_at (rows_of ns order) p
row-missing ns order p e = sym (row-number ns order p ∙ ap (option_map (λ (j : ℕ). (node_at ns j).row)) e)

entry-none : (ns : List Node) (order : List ℕ) (id : ℕ) → ((k : ℕ) → k < length order → (node_at ns (get_or order k 0)).row.id ≡ id → ⊥) → entry_of (rows_of ns order) id ≡ None
entry-none ns [] id h = refl
entry-none ns (n ∷ order) id h = go ((node_at ns n).row.id == id) refl (entry-none ns order id (λ k b. h (suc k) (omega arith)))
  where
    go : (t : Bool) → ((node_at ns n).row.id == id) ≡ t → entry_of (rows_of ns order) id ≡ None → cond t (Some (entry_at ns n)) (entry_of (rows_of ns order) id) ≡ None
    go true e f = absurd (h 0 (omega arith) (eqb-true _ _ e))
    go false e f = f

entry-some : (ns : List Node) (order : List ℕ) (id n k : ℕ) → k < length order → get_or order k 0 ≡ n → (node_at ns n).row.id ≡ id
    → ((j : ℕ) → j < length order → (node_at ns (get_or order j 0)).row.id ≡ id → get_or order j 0 ≡ n) → entry_of (rows_of ns order) id ≡ Some (entry_at ns n)
entry-some ns [] id n k h e f one = absurd (omega arith)
entry-some ns (m ∷ order) id n zero h e f one = ap (λ (b : Bool). cond b (Some (entry_at ns m)) (entry_of (rows_of ns order) id)) same ∙ ap (λ (j : ℕ). Some (entry_at ns j)) e
  where
    same : ((node_at ns m).row.id == id) ≡ true
    same = let g : (node_at ns m).row.id ≡ id = subst (λ (j : ℕ). (node_at ns j).row.id ≡ id) (sym e) f in grind (arith, nat_tests)
entry-some ns (m ∷ order) id n (suc k) h e f one = go ((node_at ns m).row.id == id) refl (entry-some ns order id n k (omega arith) e f (λ j b. one (suc j) (omega arith)))
  where
    go : (t : Bool) → ((node_at ns m).row.id == id) ≡ t → entry_of (rows_of ns order) id ≡ Some (entry_at ns n) → cond t (Some (entry_at ns m)) (entry_of (rows_of ns order) id) ≡ Some (entry_at ns n)
    go true g ih = ap (λ (j : ℕ). Some (entry_at ns j)) (one 0 (omega arith) (eqb-true _ _ g))
    go false g ih = ih

-- the row of an id
pub entry-number : (ns : List Node) (order : List ℕ) (ids : ℕ → Option ℕ) (id : ℕ) → IsTree ns order ids → entry_of (rows_of ns order) id ≡ option_map (entry_at ns) (ids id)
entry-number ns order ids id t = go (ids id) refl
  where
    go : (o : Option ℕ) → ids id ≡ o → entry_of (rows_of ns order) id ≡ option_map (entry_at ns) o
    go None e = entry-none ns order id (λ k b f. let g : ids id ≡ Some (get_or order k 0) = subst (λ (j : ℕ). ids j ≡ Some (get_or order k 0)) f (t.named k b) in cc)
    go (Some n) e =
        let w = t.stands id n e in
        entry-some ns order id n w.0 w.1 w.2 w.3 (λ j b f. let g : ids id ≡ Some (get_or order j 0) = subst (λ (i : ℕ). ids i ≡ Some (get_or order j 0)) f (t.named j b) in cc)

pub id-below : (ns : List Node) (order : List ℕ) (ids : ℕ → Option ℕ) (id n : ℕ) → IsTree ns order ids → ids id ≡ Some n → n < length ns
id-below ns order ids id n t e = let w = t.stands id n e in subst (λ (j : ℕ). j < length ns) w.2 (within-at (length ns) order w.0 t.within w.1)
