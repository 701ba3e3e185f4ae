-- Whether a path is that of a row.
use Rattle.std.proofs.Common.{◌≡◌, ℕ, true, false, List, Option, Some, None, ap, ◌∙◌}
use Rattle.std.specs.Option.{option_map, option_map_or}
use Rattle.inode_tree.specs.Below.{at_or_above, at_or_below}
use Rattle.name_calls.specs.Paths.{is_prefix}
use Rattle.inode_tree.specs.Rows.{Entry, entry_of}
use Rattle.inode_tree.proofs.ZoneLemmas.{prefix-itself, prefix-whole}
use Rattle.snap_store.proofs.Zones.{prefix-length}

both-ways : (a b : List (List ℕ)) → is_prefix a b ≡ true → is_prefix b a ≡ true → a ≡ b
both-ways a b h k = prefix-whole a b h (prefix-length b a k)

module _ (es : List Entry) (dir : ℕ) (p : List (List ℕ)) where
  pub entry-path : at_or_above es dir p ≡ true → at_or_below es dir p ≡ true → option_map (λ (e : Entry). e.path) (entry_of es dir) ≡ Some p
  entry-path a b = go (entry_of es dir) a b
    where
      go : (o : Option Entry) → option_map_or (λ e. is_prefix e.path p) o false ≡ true → option_map_or (λ e. is_prefix p e.path) o false ≡ true → option_map (λ (e : Entry). e.path) o ≡ Some p
      go None f g = cc
      go (Some e) f g = ap (λ (q : List (List ℕ)). Some q) (both-ways e.path p f g)

  pub path-above : option_map (λ (e : Entry). e.path) (entry_of es dir) ≡ Some p → at_or_above es dir p ≡ true
  path-above h = go (entry_of es dir) h
    where
      go : (o : Option Entry) → option_map (λ (e : Entry). e.path) o ≡ Some p → option_map_or (λ e. is_prefix e.path p) o false ≡ true
      go None f = cc
      go (Some e) f = let g : e.path ≡ p = cc in ap (λ (q : List (List ℕ)). is_prefix q p) g ∙ prefix-itself p

  pub path-below : option_map (λ (e : Entry). e.path) (entry_of es dir) ≡ Some p → at_or_below es dir p ≡ true
  path-below h = go (entry_of es dir) h
    where
      go : (o : Option Entry) → option_map (λ (e : Entry). e.path) o ≡ Some p → option_map_or (λ e. is_prefix p e.path) o false ≡ true
      go None f = cc
      go (Some e) f = let g : e.path ≡ p = cc in ap (is_prefix p) g ∙ prefix-itself p
