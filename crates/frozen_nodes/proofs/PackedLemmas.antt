-- Nodes in memory: what is there stays when a node is appended.
use Rattle.std.proofs.Common.{◌≡◌, ℕ, ◌+◌, ◌<◌, ◌≤◌, zero, suc, List, [], ◌∷◌, ◌++◌, length, map, take, drop, get_or, refl, sym, ◌∙◌, ap, subst, arith, length-append, length-drop}
use Rattle.std.proofs.lemmas.List.{drop-append-le, get_or-map, take-append-le}
use Rattle.std.proofs.Math.Seq.{drop-append_seam, take-length}
use Rattle.inode_tree.specs.declared.rows.Row.{Row}
use Rattle.frozen_nodes.specs.Forest.{no_node, node_at}
use Rattle.frozen_nodes.specs.Packed.{AllInside, PlacedNode, node_in, nodes_in, part}

part-kept : (from count : ℕ) (xs ys : List ℕ) → from + count ≤ length xs → part from count (xs ++ ys) ≡ part from count xs
part-kept from count xs ys h =
    ap (take count) (drop-append-le from xs ys (omega arith))
    ∙ take-append-le count (drop from xs) ys (omega (arith, h, length-drop from xs))

part-last : (xs ys : List ℕ) → part (length xs) (length ys) (xs ++ ys) ≡ ys
part-last xs ys = ap (take (length ys)) (drop-append_seam xs ys) ∙ take-length ys

pub nodes-kept : (names more kids ks : List ℕ) (ns : List PlacedNode) → AllInside (length names) (length kids) ns → nodes_in (names ++ more) (kids ++ ks) ns ≡ nodes_in names kids ns
nodes-kept names more kids ks [] h = refl
nodes-kept names more kids ks (n ∷ ns) h = λ i. record { name = part-kept n.name n.name_len names more h.0 i; row = n.row; kids = part-kept n.kids n.kid_count kids ks h.1 i } ∷ nodes-kept names more kids ks ns h.2 i

pub inside-push : (a b c d : ℕ) (ns : List PlacedNode) (n : PlacedNode) → a ≤ c → b ≤ d → AllInside a b ns → n.name + n.name_len ≤ c → n.kids + n.kid_count ≤ d → AllInside c d (ns ++ n ∷ [])
inside-push a b c d [] n e f h p q = (p, q, tt)
inside-push a b c d (m ∷ ns) n e f h p q = (let w = h.0 in omega arith, let w = h.1 in omega arith, inside-push a b c d ns n e f h.2 p q)

map-push : {X Y : Type 0} (f : X → Y) (xs : List X) (x : X) → map f (xs ++ x ∷ []) ≡ map f xs ++ f x ∷ []
map-push f [] x = refl
map-push f (y ∷ xs) x = λ i. f y ∷ map-push f xs x i

-- the node that is appended
abbrev pub placed : List ℕ → List ℕ → List ℕ → List ℕ → Row → PlacedNode
placed names more kids ks row = record { row = row; name = length names; name_len = length more; kids = length kids; kid_count = length ks }

pub nodes-pushed : (names more kids ks : List ℕ) (ns : List PlacedNode) (row : Row) → AllInside (length names) (length kids) ns
    → nodes_in (names ++ more) (kids ++ ks) (ns ++ placed names more kids ks row ∷ []) ≡ nodes_in names kids ns ++ record { name = more; row = row; kids = ks } ∷ []
nodes-pushed names more kids ks ns row h =
    map-push (node_in (names ++ more) (kids ++ ks)) ns (placed names more kids ks row)
    ∙ (λ i. nodes-kept names more kids ks ns h i ++ record { name = part-last names more i; row = row; kids = part-last kids ks i } ∷ [])

-- the n-th node
pub node-there : (names kids : List ℕ) (ns : List PlacedNode) (n : ℕ) (x : PlacedNode) → n < length ns → x ≡ get_or ns n x → node_at (nodes_in names kids ns) n ≡ node_in names kids x
node-there names kids ns n x lt is = get_or-map (node_in names kids) ns n x no_node lt ∙ ap (node_in names kids) (sym is)

pub node-none : (names kids : List ℕ) (ns : List PlacedNode) (n : ℕ) → length ns ≤ n → node_at (nodes_in names kids ns) n ≡ no_node
node-none names kids [] n le = refl
node-none names kids (x ∷ ns) zero le = absurd (omega arith)
node-none names kids (x ∷ ns) (suc n) le = node-none names kids ns n (omega arith)

-- a node more, whose name and kids are at the ends of their lists
module _ (names more new_names kids ks new_kids : List ℕ) (ns new_ns : List PlacedNode) (row : Row) (x : PlacedNode) (names_are : new_names ≡ names ++ more) (kids_are : new_kids ≡ kids ++ ks) (nodes_are : new_ns ≡ ns ++ x ∷ []) (x_is : x ≡ placed names more kids ks row) (all : AllInside (length names) (length kids) ns) where
  pub nodes-appended : nodes_in new_names new_kids new_ns ≡ nodes_in names kids ns ++ record { name = more; row = row; kids = ks } ∷ []
  nodes-appended =
      (λ i. nodes_in (names_are i) (kids_are i) (nodes_are i))
      ∙ (λ i. nodes_in (names ++ more) (kids ++ ks) (ns ++ x_is i ∷ []))
      ∙ nodes-pushed names more kids ks ns row all

  longer-names : length new_names ≡ length names + length more
  longer-names = ap length names_are ∙ length-append names more

  longer-kids : length new_kids ≡ length kids + length ks
  longer-kids = ap length kids_are ∙ length-append kids ks

  pub inside-appended : AllInside (length new_names) (length new_kids) new_ns
  inside-appended =
      subst (λ (ms : List PlacedNode). AllInside (length new_names) (length new_kids) ms) (sym (nodes_are ∙ (λ i. ns ++ x_is i ∷ [])))
      (inside-push (length names) (length kids) (length new_names) (length new_kids) ns (placed names more kids ks row) (omega (arith, longer-names)) (omega (arith, longer-kids)) all (omega (arith, longer-names)) (omega (arith, longer-kids)))
