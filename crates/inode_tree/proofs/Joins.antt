-- Nodes made of links and rows.
use Rattle.std.proofs.Common.{◌≡◌, ℕ, ◌<◌, zero, suc, List, [], ◌∷◌, ◌++◌, length, get_or, set, refl, sym, ap, ◌∙◌, arith}
use Rattle.inode_tree.specs.declared.rows.Kind.{Kind}
use Rattle.inode_tree.specs.declared.rows.Link.{Link}
use Rattle.inode_tree.specs.declared.rows.Node.{Node}
use Rattle.inode_tree.specs.declared.rows.Row.{Row}
use Rattle.inode_tree.specs.Arena.{link_at, node_at, rekind, with_place}
use Rattle.inode_tree.specs.NodeList.{joined}

abbrev node : Link → Row → Node
node l r = record { parent = l.parent; name = l.name; row = r }

pub length-joined : (ls : List Link) (rs : List Row) → length rs ≡ length ls → length (joined ls rs) ≡ length ls
length-joined [] rs e = refl
length-joined (l ∷ ls) [] e = absurd (omega arith)
length-joined (l ∷ ls) (r ∷ rs) e = let h = length-joined ls rs (omega arith) in omega arith

pub link-joined : (ls : List Link) (rs : List Row) (n : ℕ) (x : Link) → length rs ≡ length ls → n < length ls → x ≡ get_or ls n x → x ≡ link_at (joined ls rs) n
link-joined [] rs n x e b h = absurd (omega arith)
link-joined (l ∷ ls) [] n x e b h = absurd (omega arith)
link-joined (l ∷ ls) (r ∷ rs) zero x e b h = h
link-joined (l ∷ ls) (r ∷ rs) (suc n) x e b h = link-joined ls rs n x (omega arith) (omega arith) h

pub row-joined : (ls : List Link) (rs : List Row) (n : ℕ) (x : Row) → length rs ≡ length ls → n < length ls → x ≡ get_or rs n x → x ≡ (node_at (joined ls rs) n).row
row-joined [] rs n x e b h = absurd (omega arith)
row-joined (l ∷ ls) [] n x e b h = absurd (omega arith)
row-joined (l ∷ ls) (r ∷ rs) zero x e b h = h
row-joined (l ∷ ls) (r ∷ rs) (suc n) x e b h = row-joined ls rs n x (omega arith) (omega arith) h

pub push-joined : (ls : List Link) (rs : List Row) (l : Link) (r : Row) → length rs ≡ length ls → joined (ls ++ l ∷ []) (rs ++ r ∷ []) ≡ joined ls rs ++ node l r ∷ []
push-joined [] [] l r e = refl
push-joined [] (s ∷ rs) l r e = absurd (omega arith)
push-joined (k ∷ ls) [] l r e = absurd (omega arith)
push-joined (k ∷ ls) (s ∷ rs) l r e = ap (λ (ns : List Node). node k s ∷ ns) (push-joined ls rs l r (omega arith))

pub set-joined : (ls : List Link) (rs : List Row) (n : ℕ) (l : Link) (r : Row) → length rs ≡ length ls → joined (set ls n l) (set rs n r) ≡ set (joined ls rs) n (node l r)
set-joined [] [] n l r e = refl
set-joined [] (s ∷ rs) n l r e = absurd (omega arith)
set-joined (k ∷ ls) [] n l r e = absurd (omega arith)
set-joined (k ∷ ls) (s ∷ rs) zero l r e = refl
set-joined (k ∷ ls) (s ∷ rs) (suc n) l r e = ap (λ (ns : List Node). node k s ∷ ns) (set-joined ls rs n l r (omega arith))

pub set-row-joined : (ls : List Link) (rs : List Row) (n : ℕ) (r : Row) → length rs ≡ length ls → joined ls (set rs n r) ≡ set (joined ls rs) n (node (link_at (joined ls rs) n) r)
set-row-joined [] [] n r e = refl
set-row-joined [] (s ∷ rs) n r e = absurd (omega arith)
set-row-joined (k ∷ ls) [] n r e = absurd (omega arith)
set-row-joined (k ∷ ls) (s ∷ rs) zero r e = refl
set-row-joined (k ∷ ls) (s ∷ rs) (suc n) r e = ap (λ (ns : List Node). node k s ∷ ns) (set-row-joined ls rs n r (omega arith))

pub set-link-joined : (ls : List Link) (rs : List Row) (n : ℕ) (l : Link) → length rs ≡ length ls → joined (set ls n l) rs ≡ with_place (joined ls rs) n l.parent l.name
set-link-joined [] [] n l e = refl
set-link-joined [] (s ∷ rs) n l e = absurd (omega arith)
set-link-joined (k ∷ ls) [] n l e = absurd (omega arith)
set-link-joined (k ∷ ls) (s ∷ rs) zero l e = refl
set-link-joined (k ∷ ls) (s ∷ rs) (suc n) l e = ap (λ (ns : List Node). node k s ∷ ns) (set-link-joined ls rs n l (omega arith))

-- over a list that the links and rows make
module _ (ls : List Link) (rs : List Row) (ns : List Node) (is : joined ls rs ≡ ns) (same : length rs ≡ length ls) where
  pub links-length : length ns ≡ length ls
  links-length = ap length (sym is) ∙ length-joined ls rs same

  pub links-below : (n : ℕ) → n < length ns → n < length ls
  links-below n b = let e = links-length in omega arith

  pub rows-below : (n : ℕ) → n < length ns → n < length rs
  rows-below n b = let e = links-length in omega arith

  pub link-is : (n : ℕ) (x : Link) → n < length ns → x ≡ get_or ls n x → x ≡ link_at ns n
  link-is n x b e = link-joined ls rs n x same (links-below n b) e ∙ ap (λ (ms : List Node). link_at ms n) is

  pub row-is : (n : ℕ) (x : Row) → n < length ns → x ≡ get_or rs n x → x ≡ (node_at ns n).row
  row-is n x b e = row-joined ls rs n x same (links-below n b) e ∙ ap (λ (ms : List Node). (node_at ms n).row) is

  pub pushed : (ls' : List Link) (rs' : List Row) (x : Node) → ls' ≡ ls ++ record { parent = x.parent; name = x.name } ∷ [] → rs' ≡ rs ++ x.row ∷ [] → joined ls' rs' ≡ ns ++ x ∷ []
  pushed ls' rs' x el er =
      ap (λ (ks : List Link). joined ks rs') el
      ∙ ap (joined (ls ++ record { parent = x.parent; name = x.name } ∷ [])) er
      ∙ push-joined ls rs (record { parent = x.parent; name = x.name }) x.row same
      ∙ ap (λ (ms : List Node). ms ++ x ∷ []) is

  pub written : (n : ℕ) (x : Node) → joined (set ls n (record { parent = x.parent; name = x.name })) (set rs n x.row) ≡ set ns n x
  written n x = set-joined ls rs n (record { parent = x.parent; name = x.name }) x.row same ∙ ap (λ (ms : List Node). set ms n x) is

  pub kind-written : (n : ℕ) (x : Row) (kind : Kind) → n < length ns → x ≡ get_or rs n x → joined ls (set rs n (record { id = x.id; kind = kind })) ≡ rekind ns n kind
  kind-written n x kind b e =
      ap (λ (y : Row). joined ls (set rs n (record { id = y.id; kind = kind }))) (row-is n x b e)
      ∙ set-row-joined ls rs n (record { id = (node_at ns n).row.id; kind = kind }) same
      ∙ ap (λ (ms : List Node). set ms n (record { parent = (node_at ms n).parent; name = (node_at ms n).name; row = record { id = (node_at ns n).row.id; kind = kind } })) is

  pub link-written : (n : ℕ) (x : Link) → joined (set ls n x) rs ≡ with_place ns n x.parent x.name
  link-written n x = set-link-joined ls rs n x same ∙ ap (λ (ms : List Node). with_place ms n x.parent x.name) is
