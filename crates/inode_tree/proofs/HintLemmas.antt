-- From a node to the one that has a name in it.
use Rattle.std.proofs.Common.{◌≡◌, ℕ, ◌+◌, ◌-◌, ◌<◌, arith, List, [], ◌∷◌, ◌++◌, length, get_or, take, Option, Some, sym, ap, ◌∙◌}
use Rattle.std.proofs.lemmas.List.{take_more}
use Rattle.inode_tree.specs.declared.rows.Link.{Link}
use Rattle.inode_tree.specs.declared.rows.Node.{Node}
use Rattle.inode_tree.specs.Arena.{IsChildNode, IsLive, IsTree, link_at, node_at, number_of, path_of}
use Rattle.inode_tree.proofs.RowFacts.{number-at}
use Rattle.inode_tree.proofs.Ups.{full-from}

module _ (ns : List Node) (order : List ℕ) (ids : ℕ → Option ℕ) (t : IsTree ns order ids) where
  -- a live node is found by its path
  pub live-number : (n : ℕ) (p : List (List ℕ)) → IsLive order n → path_of ns n ≡ p → number_of ns order p ≡ Some n
  live-number n p w e =
      ap (number_of ns order) (sym (ap (path_of ns) w.2 ∙ e)) ∙ number-at ns order ids t w.0 w.1 ∙ ap (λ (m : ℕ). Some m) w.2

  pub child-live : (n m : ℕ) (x : List ℕ) → IsChildNode ns n m x → IsLive order n
  child-live n m x h = t.held n h.below (λ e. h.named (ap length (sym h.name_is) ∙ e))

  pub child-path : (n m k : ℕ) (p : List (List ℕ)) → k < length p → IsChildNode ns n m (get_or p k []) → path_of ns m ≡ take k p → path_of ns n ≡ take (k + 1) p
  child-path n m k p b h e =
      t.linked.step n h.below h.deep
      ∙ ap (λ (j : ℕ). path_of ns j ++ ((node_at ns n).name ∷ [])) h.parent_is
      ∙ ap (λ (x : List ℕ). path_of ns m ++ (x ∷ [])) h.name_is
      ∙ ap (λ (q : List (List ℕ)). q ++ (get_or p k [] ∷ [])) e
      ∙ sym (take_more p k [] b)

  -- a node that has the last name of a prefix of a path, if its directory is at the rest of that prefix
  pub named-step : (m k : ℕ) (x : Link) (p : List (List ℕ)) → m < length ns → (m ≡ 0 → ⊥) → x ≡ link_at ns m → 0 < k → k - 1 < length p → x.name ≡ get_or p (k - 1) [] → path_of ns x.parent ≡ take (k - 1) p → path_of ns m ≡ take k p
  named-step m k x p b apart ex some below en e =
      let more : k - 1 + 1 ≡ k = omega arith in
      full-from ns t.linked m x b apart ex
      ∙ ap (λ (q : List (List ℕ)). q ++ (x.name ∷ [])) e
      ∙ ap (λ (y : List ℕ). take (k - 1) p ++ (y ∷ [])) en
      ∙ sym (take_more p (k - 1) [] below)
      ∙ ap (λ (j : ℕ). take j p) more
