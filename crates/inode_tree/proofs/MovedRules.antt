-- Moved paths keep the rule of paths.
use Rattle.std.proofs.Common.{◌≡◌, ℕ, ◌+◌, ◌<◌, ◌≤◌, Bool, true, false, cond, ◌&&◌, List, [], ◌∷◌, ◌++◌, length, drop, map, refl, sym, ap, ◌∙◌, arith, append_assoc, length-append}
use Rattle.std.specs.Prelude.{max, nat_le}
use Rattle.std.specs.List.{AllByRecursion, filter, list_all}
use Rattle.std.proofs.lemmas.List.Folds.{list_all-append}
use Rattle.std.proofs.lemmas.Bool.{leb-true, le-leb, and_from, and_parts}
use Rattle.name_calls.specs.Paths.{is_component, is_prefix, is_relative, is_short, names_text, path_text}
use Rattle.inode_tree.specs.Rows.{Entry}
use Rattle.inode_tree.specs.Moves.{greatest, most_bytes, most_names, move_fits, moved_path}
use Rattle.inode_tree.proofs.MovedPaths.{path-moves, path-stays, prefix-split}

-- the parts of the rule of lengths
pub fits-parts : (rows : List Entry) (p q : List (List ℕ)) → move_fits rows p q ≡ true → (length (names_text q) + most_bytes rows p ≤ 8000) × (length q + most_names rows p ≤ 100)
fits-parts rows p q h =
    let w = and_parts (nat_le (length (names_text q) + most_bytes rows p) 8000) (nat_le (length q + most_names rows p) 100) h in
    (leb-true _ _ w.0, leb-true _ _ w.1)

names-append : (p q : List (List ℕ)) → names_text (p ++ q) ≡ names_text p ++ names_text q
names-append [] q = refl
names-append (x ∷ p) q = ap (λ (ys : List ℕ). 47 ∷ (x ++ ys)) (names-append p q) ∙ ap (λ (ys : List ℕ). 47 ∷ ys) (sym (append_assoc x (names_text p) (names_text q)))

max-parts : (a b n : ℕ) → max a b ≤ n → (a ≤ n) × (b ≤ n)
max-parts a b n h = (omega arith, omega arith)

short-joined : (q y : List (List ℕ)) → 0 < length q → length (names_text q) + length (names_text y) ≤ 8000 → length q + length y ≤ 100 → is_short (q ++ y) ≡ true
short-joined [] y some h k = absurd (omega arith)
short-joined (x ∷ q) y some h k =
    let e = ap length (names-append (x ∷ q) y) in
    and_from (nat_le (length (path_text (x ∷ (q ++ y)))) 8000) (nat_le (length (x ∷ (q ++ y))) 100) (le-leb _ _ (omega (arith, length-append (names_text (x ∷ q)) (names_text y)))) (le-leb _ _ (omega (arith, length-append q y)))

module _ (p q : List (List ℕ)) (some : 0 < length q) (rule : is_relative q ≡ true) where
  relative-joined : (r : List (List ℕ)) → is_prefix p r ≡ true → is_relative r ≡ true → length (names_text q) + length (names_text (drop (length p) r)) ≤ 8000 → length q + length (drop (length p) r) ≤ 100 → is_relative (q ++ drop (length p) r) ≡ true
  relative-joined r h rel b n =
      let all : (list_all is_component p && list_all is_component (drop (length p) r)) ≡ true = sym (list_all-append is_component p (drop (length p) r)) ∙ ap (list_all is_component) (sym (prefix-split p r h)) ∙ (and_parts (list_all is_component r) (is_short r) rel).0 in
      let mine = (and_parts (list_all is_component q) (is_short q) rule).0 in
      let each : list_all is_component (q ++ drop (length p) r) ≡ true = list_all-append is_component q (drop (length p) r) ∙ and_from (list_all is_component q) (list_all is_component (drop (length p) r)) mine (and_parts (list_all is_component p) (list_all is_component (drop (length p) r)) all).1 in
      and_from (list_all is_component (q ++ drop (length p) r)) (is_short (q ++ drop (length p) r)) each (short-joined q (drop (length p) r) some b n)

  pub ruled-moved : (es : List Entry) → length (names_text q) + most_bytes es p ≤ 8000 → length q + most_names es p ≤ 100 → AllByRecursion (λ e. is_relative e.path ≡ true) es → AllByRecursion (λ e. is_relative (moved_path p q e.path) ≡ true) es
  ruled-moved [] b n a = tt
  ruled-moved (e ∷ es) b n a = go (is_prefix p e.path) refl b n (ruled-moved es)
    where
      go : (t : Bool) → is_prefix p e.path ≡ t
          → length (names_text q) + greatest (map (λ (f : Entry). length (names_text f.path)) (map (λ (f : Entry). record f { path = drop (length p) f.path }) (cond t (e ∷ filter (λ f. is_prefix p f.path) es) (filter (λ f. is_prefix p f.path) es)))) ≤ 8000
          → length q + greatest (map (λ (f : Entry). length f.path) (map (λ (f : Entry). record f { path = drop (length p) f.path }) (cond t (e ∷ filter (λ f. is_prefix p f.path) es) (filter (λ f. is_prefix p f.path) es)))) ≤ 100
          → (length (names_text q) + most_bytes es p ≤ 8000 → length q + most_names es p ≤ 100 → AllByRecursion (λ e. is_relative e.path ≡ true) es → AllByRecursion (λ e. is_relative (moved_path p q e.path) ≡ true) es)
          → (is_relative (moved_path p q e.path) ≡ true) × AllByRecursion (λ e. is_relative (moved_path p q e.path) ≡ true) es
      go true h b n ih =
          let u = max-parts (length (names_text (drop (length p) e.path))) (most_bytes es p) (max (length (names_text (drop (length p) e.path))) (most_bytes es p)) (omega arith) in
          let v = max-parts (length (drop (length p) e.path)) (most_names es p) (max (length (drop (length p) e.path)) (most_names es p)) (omega arith) in
          (ap is_relative (path-moves p q e.path h) ∙ relative-joined e.path h a.0 (let w = u.0 in omega arith) (let w = v.0 in omega arith), ih (let w = u.1 in omega arith) (let w = v.1 in omega arith) a.1)
      go false h b n ih = (ap is_relative (path-stays p q e.path h) ∙ a.0, ih b n a.1)
