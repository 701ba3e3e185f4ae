-- How many rows come before a path.
use Rattle.std.proofs.Common.{◌≡◌, ℕ, ◌+◌, ◌<◌, ◌≤◌, zero, suc, Bool, true, false, cond, List, [], ◌∷◌, length, get_or, refl, sym, ap, ◌∙◌, subst, arith, Ordering}
use Rattle.std.specs.declared.cmp.Ordering.TheVariants.{Less, Equal, Greater}
use Rattle.std.specs.Ordering.{is_lt}
use Rattle.std.specs.Cmp.{IsTotalOrder}
use Rattle.std.proofs.lemmas.Cmp.{nat_list_cmp_total, lists_total}
use Rattle.inode_tree.specs.Rows.{Entry}
use Rattle.inode_tree.specs.declared.rows.Node.{Node}
use Rattle.inode_tree.specs.declared.rows.Kind.TheVariants.{Dir}
use Rattle.name_calls.specs.Paths.{path_cmp, is_before}
use Rattle.inode_tree.specs.Arena.{AllAfter, IsRising, rank, rows_of, entry_at, AllWithin}
use Rattle.std.specs.Prelude.{None}

pub path-total : IsTotalOrder path_cmp
path-total = lists_total nat_list_cmp_total

lt-less : (o : Ordering) → is_lt o ≡ true → o ≡ Less
lt-less Less h = refl
lt-less Equal h = cc
lt-less Greater h = cc

pub before-trans : (p q r : List (List ℕ)) → is_before p q ≡ true → is_before q r ≡ true → is_before p r ≡ true
before-trans p q r h k = ap is_lt (path-total.trans p q r (lt-less _ h) (lt-less _ k))

abbrev pub any_entry : Entry
any_entry = record { path = []; row = record { id = 0; kind = Dir None } }

pub after-at : (p : List (List ℕ)) (es : List Entry) (k : ℕ) → AllAfter p es → k < length es → is_before p (get_or es k any_entry).path ≡ true
after-at p [] k a h = absurd (omega arith)
after-at p (e ∷ es) zero a h = a.0
after-at p (e ∷ es) (suc k) a h = after-at p es k a.1 (omega arith)

pub rank-above : (es : List Entry) (p : List (List ℕ)) (k : ℕ) → IsRising es → k < length es → is_before (get_or es k any_entry).path p ≡ true → k < rank es p
rank-above [] p k r h b = absurd (omega arith)
rank-above (e ∷ es) p zero r h b = subst (λ (t : Bool). 0 < cond t (suc (rank es p)) 0) (sym b) (omega arith)
rank-above (e ∷ es) p (suc k) r h b =
    let low : k < rank es p = rank-above es p k r.1 (omega arith) b in
    subst (λ (t : Bool). suc k < cond t (suc (rank es p)) 0) (sym (before-trans e.path (get_or es k any_entry).path p (after-at e.path es k r.0 (omega arith)) b)) (omega arith)

pub rank-below : (es : List Entry) (p : List (List ℕ)) (k : ℕ) → k < length es → is_before (get_or es k any_entry).path p ≡ false → rank es p ≤ k
rank-below [] p k h b = absurd (omega arith)
rank-below (e ∷ es) p zero h b = subst (λ (t : Bool). cond t (suc (rank es p)) 0 ≤ 0) (sym b) (omega arith)
rank-below (e ∷ es) p (suc k) h b = go (is_before e.path p) (rank-below es p k (omega arith) b)
  where
    go : (t : Bool) → rank es p ≤ k → cond t (suc (rank es p)) 0 ≤ suc k
    go true i = omega arith
    go false i = omega arith

pub rank-most : (es : List Entry) (p : List (List ℕ)) → rank es p ≤ length es
rank-most [] p = omega arith
rank-most (e ∷ es) p = go (is_before e.path p) (rank-most es p)
  where
    go : (t : Bool) → rank es p ≤ length es → cond t (suc (rank es p)) 0 ≤ suc (length es)
    go true i = omega arith
    go false i = omega arith

pub rows-at : (ns : List Node) (order : List ℕ) (k : ℕ) → k < length order → get_or (rows_of ns order) k any_entry ≡ entry_at ns (get_or order k 0)
rows-at ns [] k h = absurd (omega arith)
rows-at ns (n ∷ order) zero h = refl
rows-at ns (n ∷ order) (suc k) h = rows-at ns order k (omega arith)

pub length-rows : (ns : List Node) (order : List ℕ) → length (rows_of ns order) ≡ length order
length-rows ns [] = refl
length-rows ns (n ∷ order) = ap suc (length-rows ns order)

pub within-at : (n : ℕ) (ks : List ℕ) (k : ℕ) → AllWithin n ks → k < length ks → get_or ks k 0 < n
within-at n [] k a h = absurd (omega arith)
within-at n (x ∷ ks) zero a h = a.0
within-at n (x ∷ ks) (suc k) a h = within-at n ks k a.1 (omega arith)

-- one step of a search by halves
pub goes-on : (ns : List Node) (order : List ℕ) (p : List (List ℕ)) (k : ℕ) → IsRising (rows_of ns order) → k < length order → path_cmp (entry_at ns (get_or order k 0)).path p ≡ Less → k + 1 ≤ rank (rows_of ns order) p
goes-on ns order p k r h e =
    let low : k < rank (rows_of ns order) p = rank-above (rows_of ns order) p k r (omega (arith, length-rows ns order)) (ap (λ (x : Entry). is_before x.path p) (rows-at ns order k h) ∙ ap is_lt e) in omega arith

pub stops : (ns : List Node) (order : List ℕ) (p : List (List ℕ)) (k : ℕ) → k < length order → is_lt (path_cmp (entry_at ns (get_or order k 0)).path p) ≡ false → rank (rows_of ns order) p ≤ k
stops ns order p k h e = rank-below (rows_of ns order) p k (omega (arith, length-rows ns order)) (ap (λ (x : Entry). is_before x.path p) (rows-at ns order k h) ∙ e)
