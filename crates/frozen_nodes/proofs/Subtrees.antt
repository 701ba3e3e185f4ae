-- The rows at and below a node are its own row and those of its kids.
use Rattle.std.proofs.Common.{◌≡◌, ℕ, ◌+◌, ◌<◌, ◌≤◌, zero, suc, List, [], ◌∷◌, ◌++◌, length, map, refl, sym, ◌∙◌, ap, arith, length-append}
use Rattle.std.proofs.lemmas.List.{get_or_push}
use Rattle.frozen_nodes.specs.Forest.{AreBelow, FrozenNode, IsForest, Subtree, kid_rows, no_node, no_subtree, node_at, rows_from, rows_of_node, subtree_at, subtree_of, subtrees, subtrees_after, under}

pub at-push : (done : List Subtree) (x : Subtree) (k : ℕ) → k < length done → subtree_at (done ++ x ∷ []) k ≡ subtree_at done k
at-push [] x k lt = absurd (omega arith)
at-push (y ∷ done) x zero lt = refl
at-push (y ∷ done) x (suc k) lt = at-push done x k (omega arith)

pub at-last : (done : List Subtree) (x : Subtree) (k : ℕ) → length done ≡ k → subtree_at (done ++ x ∷ []) k ≡ x
at-last done x k is = get_or_push done x no_subtree k is

at-past : (done : List Subtree) (k : ℕ) → length done ≤ k → subtree_at done k ≡ no_subtree
at-past [] k le = refl
at-past (y ∷ done) zero le = absurd (omega arith)
at-past (y ∷ done) (suc k) le = at-past done k (omega arith)

pub longer : (done : List Subtree) (x : Subtree) → length (done ++ x ∷ []) ≡ suc (length done)
longer done x = omega (arith, length-append done (x ∷ []))

-- what is there stays
pub stays : (ns : List FrozenNode) (done : List Subtree) (k : ℕ) → k < length done → subtree_at (subtrees_after done ns) k ≡ subtree_at done k
stays [] done k lt = refl
stays (n ∷ ns) done k lt = stays ns (done ++ subtree_of done n ∷ []) k (omega (arith, longer done (subtree_of done n))) ∙ at-push done (subtree_of done n) k lt

pub same-kids : (f g : ℕ → Subtree) (n : ℕ) (ks : List ℕ) → ((k : ℕ) → k < n → f k ≡ g k) → AreBelow n ks → kid_rows f ks ≡ kid_rows g ks
same-kids f g n [] same b = refl
same-kids f g n (k ∷ ks) same b = λ j. map (under (same k b.0 j).name) (same k b.0 j).rows ++ same-kids f g n ks same b.1 j

here : (ns : List FrozenNode) (done : List Subtree) (x : FrozenNode) (n : ℕ) → length done ≡ n → AreBelow n x.kids
    → subtree_at (subtrees_after (done ++ subtree_of done x ∷ []) ns) n ≡ subtree_of (subtrees_after (done ++ subtree_of done x ∷ []) ns) x
here ns done x n e b =
    stays ns (done ++ subtree_of done x ∷ []) n (omega (arith, e, longer done (subtree_of done x)))
    ∙ at-last done (subtree_of done x) n e
    ∙ (λ j. record { name = x.name; rows = record { path = []; row = x.row } ∷ same-kids (subtree_at done) (subtree_at (subtrees_after (done ++ subtree_of done x ∷ []) ns)) n x.kids kept b j })
  where
    kept : (k : ℕ) → k < n → subtree_at done k ≡ subtree_at (subtrees_after (done ++ subtree_of done x ∷ []) ns) k
    kept k lt =
        sym (stays ns (done ++ subtree_of done x ∷ []) k (omega (arith, e, lt, longer done (subtree_of done x)))
        ∙ at-push done (subtree_of done x) k (omega (arith, e, lt)))

found : (ns : List FrozenNode) (done : List Subtree) (m n : ℕ) → n ≡ length done + m → m < length ns → AreBelow n (node_at ns m).kids
    → subtree_at (subtrees_after done ns) n ≡ subtree_of (subtrees_after done ns) (node_at ns m)
found [] done m n e lt b = absurd (omega arith)
found (x ∷ ns) done zero n e lt b = here ns done x n (omega arith) b
found (x ∷ ns) done (suc m) n e lt b = found ns (done ++ subtree_of done x ∷ []) m n (omega (arith, e, longer done (subtree_of done x))) (omega arith) b

named : (ns : List FrozenNode) (done : List Subtree) (m n : ℕ) → n ≡ length done + m → (subtree_at (subtrees_after done ns) n).name ≡ (node_at ns m).name
named [] done m n e = ap (λ (s : Subtree). s.name) (at-past done n (omega arith))
named (x ∷ ns) done zero n e =
    ap (λ (s : Subtree). s.name) (stays ns (done ++ subtree_of done x ∷ []) n (omega (arith, e, longer done (subtree_of done x))) ∙ at-last done (subtree_of done x) n (omega arith))
named (x ∷ ns) done (suc m) n e = named ns (done ++ subtree_of done x ∷ []) m n (omega (arith, e, longer done (subtree_of done x)))

pub name-is : (ns : List FrozenNode) (n : ℕ) → (subtree_at (subtrees ns) n).name ≡ (node_at ns n).name
name-is ns n = named ns [] n n (omega arith)

-- the rows at and below a node, by those of its kids
pub rows-are : (ns : List FrozenNode) → IsForest ns → (n : ℕ) → n < length ns → rows_from ns n ≡ record { path = []; row = (node_at ns n).row } ∷ kid_rows (subtree_at (subtrees ns)) (node_at ns n).kids
unfolding rows_from
rows-are ns forest n lt = ap (λ (s : Subtree). s.rows) (found ns [] n n (omega arith) lt (forest n).below)

-- one node more
pub one-more : (done : List Subtree) (ns : List FrozenNode) (n : FrozenNode) → subtrees_after done (ns ++ n ∷ []) ≡ subtrees_after done ns ++ subtree_of (subtrees_after done ns) n ∷ []
one-more done [] n = refl
one-more done (x ∷ ns) n = one-more (done ++ subtree_of done x ∷ []) ns n

count-is : (ns : List FrozenNode) (done : List Subtree) → length (subtrees_after done ns) ≡ length done + length ns
count-is [] done = omega arith
count-is (x ∷ ns) done = let h = count-is ns (done ++ subtree_of done x ∷ []) in omega (arith, h, longer done (subtree_of done x))

-- the nodes before it keep their rows
pub rows-stay : (ns : List FrozenNode) (n : FrozenNode) (k : ℕ) → k < length ns → rows_from (ns ++ n ∷ []) k ≡ rows_from ns k
unfolding rows_from
rows-stay ns n k lt =
    ap (λ (ss : List Subtree). (subtree_at ss k).rows) (one-more [] ns n)
    ∙ ap (λ (s : Subtree). s.rows) (at-push (subtrees ns) (subtree_of (subtrees ns) n) k (omega (arith, lt, count-is ns [])))

-- a node's rows, by those of its kids
pub rows-by-kids : (ns : List FrozenNode) → IsForest ns → (n : ℕ) → n < length ns → rows_from ns n ≡ rows_of_node ns (node_at ns n)
unfolding rows_of_node
rows-by-kids ns forest n lt = rows-are ns forest n lt

subtree-stays : (ns : List FrozenNode) (x : FrozenNode) (k : ℕ) → k < length ns → subtree_at (subtrees (ns ++ x ∷ [])) k ≡ subtree_at (subtrees ns) k
subtree-stays ns x k lt =
    ap (λ (ss : List Subtree). subtree_at ss k) (one-more [] ns x)
    ∙ at-push (subtrees ns) (subtree_of (subtrees ns) x) k (omega (arith, lt, count-is ns []))

-- the rows of a new node
pub rows-new : (ns : List FrozenNode) (x : FrozenNode) → IsForest (ns ++ x ∷ []) → AreBelow (length ns) x.kids → rows_from (ns ++ x ∷ []) (length ns) ≡ rows_of_node ns x
unfolding rows_of_node
rows-new ns x forest below =
    rows-are (ns ++ x ∷ []) forest (length ns) (omega (arith, length-append ns (x ∷ [])))
    ∙ (λ i. record { path = []; row = (last i).row } ∷ kid_rows (subtree_at (subtrees (ns ++ x ∷ []))) (last i).kids)
    ∙ (λ i. record { path = []; row = x.row } ∷ same-kids (subtree_at (subtrees (ns ++ x ∷ []))) (subtree_at (subtrees ns)) (length ns) x.kids (subtree-stays ns x) below i)
  where
    last : node_at (ns ++ x ∷ []) (length ns) ≡ x
    last = get_or_push ns x no_node (length ns) refl
