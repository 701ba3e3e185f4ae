-- A row put in at its place.
use Rattle.std.proofs.Common.{◌≡◌, ℕ, zero, suc, Bool, true, false, cond, List, [], ◌∷◌, Some, None, refl, ap, ◌∙◌}
use Rattle.std.specs.List.{insert}
use Rattle.inode_tree.specs.Rows.{Entry}
use Rattle.inode_tree.specs.declared.rows.Node.{Node}
use Rattle.name_calls.specs.Paths.{is_before, same_path}
use Rattle.inode_tree.specs.Rows.{row_at, put}
use Rattle.inode_tree.specs.Arena.{AllAfter, IsRising, rank, rows_of, entry_at}
use Rattle.inode_tree.proofs.Ranks.{before-trans}
use Rattle.inode_tree.proofs.Seeks.{other-before, same-itself, same-is, not-before-itself}

pub absent-parts : (e : Entry) (es : List Entry) (p : List (List ℕ)) → row_at (e ∷ es) p ≡ None → (same_path e.path p ≡ false) × (row_at es p ≡ None)
absent-parts e es p h = go (same_path e.path p) h
  where
    go : (t : Bool) → cond t (Some e.row) (row_at es p) ≡ None → (t ≡ false) × (row_at es p ≡ None)
    go true f = cc
    go false f = (refl, f)

pub same-turned : (p q : List (List ℕ)) → same_path p q ≡ false → same_path q p ≡ false
same-turned p q h = go (same_path q p) refl
  where
    go : (t : Bool) → same_path q p ≡ t → t ≡ false
    go true e = let f : same_path p q ≡ true = ap (same_path p) (same-is q p e) ∙ same-itself p in cc
    go false e = refl

pub not-both : (p q : List (List ℕ)) → is_before p q ≡ true → is_before q p ≡ true → ⊥
not-both p q h k = let f = before-trans p q p h k in let g = not-before-itself p in cc

pub put-rank : (es : List Entry) (e : Entry) → row_at es e.path ≡ None → put e es ≡ insert es (rank es e.path) e
put-rank [] e h = refl
put-rank (x ∷ es) e h = go (is_before e.path x.path) (is_before x.path e.path) refl refl (put-rank es e (absent-parts x es e.path h).1)
  where
    go : (s t : Bool) → is_before e.path x.path ≡ s → is_before x.path e.path ≡ t → put e es ≡ insert es (rank es e.path) e → cond s (e ∷ x ∷ es) (x ∷ put e es) ≡ insert (x ∷ es) (cond t (suc (rank es e.path)) 0) e
    go true true f g rest = absurd (not-both e.path x.path f g)
    go true false f g rest = refl
    go false true f g rest = ap (λ (ys : List Entry). x ∷ ys) rest
    go false false f g rest = let o = other-before x.path e.path (absent-parts x es e.path h).0 g in cc

after-trans : (p q : List (List ℕ)) (es : List Entry) → is_before p q ≡ true → AllAfter q es → AllAfter p es
after-trans p q [] b a = tt
after-trans p q (e ∷ es) b a = (before-trans p q e.path b a.0, after-trans p q es b a.1)

after-put : (p : List (List ℕ)) (es : List Entry) (e : Entry) → AllAfter p es → is_before p e.path ≡ true → AllAfter p (put e es)
after-put p [] e a b = (b, tt)
after-put p (x ∷ es) e a b = go (is_before e.path x.path) (after-put p es e a.1 b)
  where
    go : (t : Bool) → AllAfter p (put e es) → AllAfter p (cond t (e ∷ x ∷ es) (x ∷ put e es))
    go true h = (b, (a.0, a.1))
    go false h = (a.0, h)

pub rising-put : (es : List Entry) (e : Entry) → IsRising es → row_at es e.path ≡ None → IsRising (put e es)
rising-put [] e r h = (tt, tt)
rising-put (x ∷ es) e r h = go (is_before e.path x.path) refl (rising-put es e r.1 (absent-parts x es e.path h).1)
  where
    go : (t : Bool) → is_before e.path x.path ≡ t → IsRising (put e es) → IsRising (cond t (e ∷ x ∷ es) (x ∷ put e es))
    go true f i = ((f, after-trans e.path x.path es f r.0), (r.0, r.1))
    go false f i = (after-put x.path es e r.0 (other-before e.path x.path (same-turned x.path e.path (absent-parts x es e.path h).0) f), i)

pub rows-insert : (ns : List Node) (order : List ℕ) (i n : ℕ) → rows_of ns (insert order i n) ≡ insert (rows_of ns order) i (entry_at ns n)
rows-insert ns [] zero n = refl
rows-insert ns [] (suc i) n = refl
rows-insert ns (m ∷ order) zero n = refl
rows-insert ns (m ∷ order) (suc i) n = ap (λ (es : List Entry). entry_at ns m ∷ es) (rows-insert ns order i n)
