-- The rows of a directory.
use Rattle.std.proofs.Common.{◌≡◌, ℕ, Bool, true, false, cond, List, ◌∷◌, [], Option, Some, None, refl, ap, subst}
use Rattle.std.specs.Prelude.{◌==◌, IsSome, is_some}
use Rattle.std.specs.Option.{option_map}
use Rattle.inode_tree.specs.Rows.{Entry, entry_of, row_at}
use Rattle.inode_tree.proofs.Seeks.{same-itself}
use Rattle.name_calls.specs.Paths.{same_path}

some-there : (es : List Entry) (e : Entry) → (dir : ℕ) → entry_of es dir ≡ Some e → is_some (row_at es e.path) ≡ true
some-there [] e dir h = cc
some-there (x ∷ es) e dir h = go (x.row.id == dir) h (some-there es e dir)
  where
    go : (t : Bool) → cond t (Some x) (entry_of es dir) ≡ Some e → (entry_of es dir ≡ Some e → is_some (row_at es e.path) ≡ true) → is_some (row_at (x ∷ es) e.path) ≡ true
    go true f ih = let g : x ≡ e = cc in subst (λ (y : Entry). is_some (row_at (x ∷ es) y.path) ≡ true) g (ap (λ (b : Bool). is_some (cond b (Some x.row) (row_at es x.path))) (same-itself x.path))
    go false f ih = two (same_path x.path e.path)
      where
        two : (u : Bool) → is_some (cond u (Some x.row) (row_at es e.path)) ≡ true
        two true = refl
        two false = ih f

-- the path of a row has a row
pub row-there : (es : List Entry) (dir : ℕ) (p : List (List ℕ)) → option_map (λ (e : Entry). e.path) (entry_of es dir) ≡ Some p → IsSome (row_at es p)
row-there es dir p h = go (entry_of es dir) refl h
  where
    go : (o : Option Entry) → entry_of es dir ≡ o → option_map (λ (e : Entry). e.path) o ≡ Some p → IsSome (row_at es p)
    go None e f = cc
    go (Some x) e f = let g : x.path ≡ p = cc in subst (λ (q : List (List ℕ)). is_some (row_at es q) ≡ true) g (some-there es x dir e)
