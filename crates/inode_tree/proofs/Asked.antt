-- Questions about rows, answered by the parts.
use Rattle.std.proofs.Common.{◌≡◌, ℕ, ◌-◌, ◌<◌, zero, suc, Bool, true, false, cond, List, [], ◌∷◌, length, get_or, take, Option, Some, None, refl, sym, ap, ◌∙◌, subst, arith}
use Rattle.std.specs.Option.{option_map}
use Rattle.name_calls.specs.Paths.{parent, same_path}
use Rattle.inode_tree.specs.Rows.{Entry, row_at, entry_of, is_dir, is_dir_at}
use Rattle.inode_tree.specs.declared.rows.Kind.{Kind}
use Rattle.inode_tree.specs.declared.rows.Node.{Node}
use Rattle.inode_tree.specs.Arena.{IsTree, node_at, number_of, rows_of, path_of, entry_at}
use Rattle.inode_tree.proofs.Ups.{path-root}
use Rattle.inode_tree.proofs.Seeks.{row-number}
use Rattle.inode_tree.proofs.Trees.{entry-number}

map-none : {X Y : Type 0} (f : X → Y) (o : Option X) → option_map f o ≡ None → o ≡ None
map-none f None h = refl
map-none f (Some x) h = cc

pub absent-number : (ns : List Node) (order : List ℕ) (p : List (List ℕ)) → row_at (rows_of ns order) p ≡ None → number_of ns order p ≡ None
absent-number ns order p h = map-none (λ (n : ℕ). (node_at ns n).row) (number_of ns order p) (sym (row-number ns order p) ∙ h)

pub fresh-number : (ns : List Node) (order : List ℕ) (ids : ℕ → Option ℕ) (id : ℕ) → IsTree ns order ids → entry_of (rows_of ns order) id ≡ None → ids id ≡ None
fresh-number ns order ids id t h = map-none (entry_at ns) (ids id) (sym (entry-number ns order ids id t) ∙ h)

pub none-at : (ns : List Node) (order : List ℕ) (p : List (List ℕ)) (k : ℕ) → number_of ns order p ≡ None → k < length order → same_path (path_of ns (get_or order k 0)) p ≡ false
none-at ns [] p k h b = absurd (omega arith)
none-at ns (n ∷ order) p k h b = go (same_path (path_of ns n) p) refl h k b (none-at ns order p)
  where
    go : (t : Bool) → same_path (path_of ns n) p ≡ t → cond t (Some n) (number_of ns order p) ≡ None → (k : ℕ) → k < suc (length order)
        → ((k : ℕ) → number_of ns order p ≡ None → k < length order → same_path (path_of ns (get_or order k 0)) p ≡ false) → same_path (path_of ns (get_or (n ∷ order) k 0)) p ≡ false
    go true e f k b ih = cc
    go false e f zero b ih = e
    go false e f (suc k) b ih = ih k f (omega arith)

pub deep-number : (ns : List Node) (order : List ℕ) (ids : ℕ → Option ℕ) (p : List (List ℕ)) → IsTree ns order ids → number_of ns order p ≡ None → 0 < length p
deep-number ns order ids [] t h =
    let w = t.rooted in
    let e : same_path (path_of ns (get_or order w.0 0)) [] ≡ false = none-at ns order [] w.0 h w.1 in
    let f : path_of ns (get_or order w.0 0) ≡ [] = ap (path_of ns) w.2 ∙ path-root ns in
    let g : same_path [] [] ≡ false = subst (λ (q : List (List ℕ)). same_path q [] ≡ false) f e in cc
deep-number ns order ids (x ∷ p) t h = omega arith

pub parent-take : (p : List (List ℕ)) → parent p ≡ take (length p - 1) p
parent-take [] = refl
parent-take (x ∷ []) = refl
parent-take (x ∷ y ∷ p) = ap (λ (q : List (List ℕ)). x ∷ q) (parent-take (y ∷ p)) ∙ step (length p)
  where
    step : (n : ℕ) → x ∷ take (suc n - 1) (y ∷ p) ≡ take (suc (suc n) - 1) (x ∷ y ∷ p)
    step n = let e : suc (suc n) - 1 ≡ suc n = omega arith in let f : suc n - 1 ≡ n = omega arith in rw (e, f) refl

-- the directory at a path, by its number
pub directory-number : (ns : List Node) (order : List ℕ) (q : List (List ℕ)) (n : ℕ) → is_dir_at (row_at (rows_of ns order) q) ≡ true → number_of ns order q ≡ Some n → is_dir (node_at ns n).row.kind ≡ true
directory-number ns order q n h e = sym (ap is_dir_at (row-number ns order q ∙ ap (option_map (λ (m : ℕ). (node_at ns m).row)) e)) ∙ h

pub directory-found : (ns : List Node) (order : List ℕ) (q : List (List ℕ)) → is_dir_at (row_at (rows_of ns order) q) ≡ true → number_of ns order q ≡ None → ⊥
directory-found ns order q h e = let f : is_dir_at None ≡ true = sym (ap is_dir_at (row-number ns order q ∙ ap (option_map (λ (m : ℕ). (node_at ns m).row)) e)) ∙ h in cc

-- the kind of the row of an id
pub kind-number : (ns : List Node) (order : List ℕ) (ids : ℕ → Option ℕ) (id n : ℕ) (kind : Kind) → IsTree ns order ids → option_map (λ (e : Entry). is_dir e.row.kind) (entry_of (rows_of ns order) id) ≡ Some (is_dir kind) → ids id ≡ Some n → is_dir kind ≡ is_dir (node_at ns n).row.kind
kind-number ns order ids id n kind t h e =
    let f : Some (is_dir (node_at ns n).row.kind) ≡ Some (is_dir kind) = sym (ap (option_map (λ (x : Entry). is_dir x.row.kind)) (entry-number ns order ids id t ∙ ap (option_map (entry_at ns)) e)) ∙ h in cc

pub kind-found : (ns : List Node) (order : List ℕ) (ids : ℕ → Option ℕ) (id : ℕ) (b : Bool) → IsTree ns order ids → option_map (λ (e : Entry). is_dir e.row.kind) (entry_of (rows_of ns order) id) ≡ Some b → ids id ≡ None → ⊥
kind-found ns order ids id b t h e =
    let f : None ≡ Some b = sym (ap (option_map (λ (x : Entry). is_dir x.row.kind)) (entry-number ns order ids id t ∙ ap (option_map (entry_at ns)) e)) ∙ h in cc

pub dir-kind : (o : Option Entry) → is_dir_at (option_map (λ (e : Entry). e.row) o) ≡ true → option_map (λ (e : Entry). is_dir e.row.kind) o ≡ Some true
dir-kind None h = cc
dir-kind (Some e) h = ap (λ (b : Bool). Some b) h
