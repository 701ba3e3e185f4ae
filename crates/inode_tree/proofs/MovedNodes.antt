-- A tree whose row at p, with all rows below it, has moved to q: one node is written, and two runs of numbers change places.
use Rattle.std.proofs.Common.{◌≡◌, ℕ, ◌-◌, ◌<◌, ◌≤◌, zero, suc, Bool, true, false, ◌&&◌, ◌||◌, List, [], ◌∷◌, ◌++◌, length, get_or, set, take, drop, map, Option, Some, refl, sym, ap, ◌∙◌, subst, arith, length-append, length-set, get_or-set_same, get_or-set_other, ◌⊎◌, inl, inr}
use Rattle.std.specs.List.{AllByRecursion, between, drop-map, list_all, take-map}
use Rattle.std.specs.Str.{bytes_eq}
use Rattle.std.proofs.lemmas.Slice.Eq.{bytes_eq-Decides}
use Rattle.std.proofs.lemmas.List.{map-append}
use Rattle.std.proofs.lemmas.Bool.{cases_eq, and_parts}
use Rattle.name_calls.specs.Paths.{is_component, is_prefix, is_relative, is_short, same_path}
use Rattle.name_calls.proofs.PathLemmas.{relative-short}
use Rattle.inode_tree.specs.declared.rows.Node.{Node}
use Rattle.inode_tree.specs.declared.rows.Row.{Row}
use Rattle.inode_tree.specs.Rows.{Entry, is_dir}
use Rattle.inode_tree.specs.Arena.{AllWithin, IsFree, IsLinked, IsLive, IsRising, IsTree, blank, entry_at, node_at, path_of, rows_of, up}
use Rattle.inode_tree.specs.Listed.{turned}
use Rattle.inode_tree.specs.Moves.{moved, moved_path}
use Rattle.inode_tree.proofs.Each.{from-places, places-back, places-turned}
use Rattle.inode_tree.proofs.Grows.{up-step}
use Rattle.inode_tree.proofs.MovedPaths.{path-child, path-itself, path-stays}
use Rattle.inode_tree.proofs.Ranks.{within-at}
use Rattle.inode_tree.proofs.Runs.{length-turned}
use Rattle.inode_tree.proofs.Seeks.{same-is}
use Rattle.inode_tree.proofs.Ups.{path-root}
use Rattle.inode_tree.proofs.ZoneLemmas.{below-live, live-once, prefix-snoc}

-- the node n of the path p is to be in the node h, so that its path is q
pub record HasMoved (ns : List Node) (order : List ℕ) (ids : ℕ → Option ℕ) (p q : List (List ℕ)) (n h : ℕ) (name : List ℕ) : Type 0 where
  pub old : IsTree ns order ids
  pub live : IsLive order n
  pub at : path_of ns n ≡ p
  pub into : IsLive order h
  pub name_is : q ≡ path_of ns h ++ name ∷ []
  pub directory : is_dir (node_at ns h).row.kind ≡ true
  pub apart : is_prefix p q ≡ false
  pub ruled : (k : ℕ) → k < length order → is_relative (moved_path p q (path_of ns (get_or order k 0))) ≡ true

-- a path that keeps the rule has no empty name at its front
named-first : (r : List (List ℕ)) → is_relative ([] ∷ r) ≡ true → ⊥
named-first r h = let a = (and_parts (list_all is_component ([] ∷ r)) (is_short ([] ∷ r)) h).0 in cc

module _ (ns : List Node) (order : List ℕ) (ids : ℕ → Option ℕ) (p q : List (List ℕ)) (n h : ℕ) (name : List ℕ) (m : HasMoved ns order ids p q n h name) where
  abbrev x : Node
  x = record { parent = h; name = name; row = (node_at ns n).row }

  abbrev after : List Node
  after = set ns n x

  abbrev new_path : ℕ → List (List ℕ)
  new_path k = moved_path p q (path_of ns k)

  below : n < length ns
  below = below-live ns order ids n m.old m.live

  below-into : h < length ns
  below-into = below-live ns order ids h m.old m.into

  node-is : node_at (set ns n x) n ≡ x
  node-is = get_or-set_same ns n x blank below

  node-old : (k : ℕ) → (k ≡ n → ⊥) → node_at (set ns n x) k ≡ node_at ns k
  node-old k a = get_or-set_other ns n k x blank a

  row-is : (k : ℕ) → (node_at (set ns n x) k).row ≡ (node_at ns k).row
  row-is k = elim (cases_eq k n) [
    | inl e ↦ ap (λ (j : ℕ). (node_at (set ns n x) j).row) e ∙ ap (λ (y : Node). y.row) node-is ∙ ap (λ (j : ℕ). (node_at ns j).row) (sym e)
    | inr a ↦ ap (λ (y : Node). y.row) (node-old k a)
  ]

  not-root : is_prefix p [] ≡ false
  not-root = go p m.apart
    where
      go : (r : List (List ℕ)) → is_prefix r q ≡ false → is_prefix r [] ≡ false
      go [] e = cc
      go (a ∷ r) e = refl

  deep : n ≡ 0 → ⊥
  deep e =
      let f : p ≡ [] = sym m.at ∙ ap (path_of ns) e ∙ path-root ns in
      let g : is_prefix [] [] ≡ false = subst (λ (r : List (List ℕ)). is_prefix r [] ≡ false) f not-root in cc

  p-ruled : is_relative p ≡ true
  p-ruled = let w = m.live in subst (λ (r : List (List ℕ)). is_relative r ≡ true) (ap (path_of ns) w.2 ∙ m.at) (m.old.ruled w.0 w.1)

  nil : (xs : List ℕ) → length xs ≡ 0 → xs ≡ []
  nil [] e = refl
  nil (y ∷ ys) e = absurd (omega arith)

  -- each node is live, or an unused one
  live-or : (k : ℕ) → k < length ns → IsLive order k ⊎ (path_of ns k ≡ [] ∷ [])
  live-or k b = elim (cases_eq k 0) [
    | inl e ↦ (let w = m.old.rooted in inl (w.0, w.1, w.2 ∙ sym e))
    | inr a ↦ elim (cases_eq (node_at ns k).parent 0) [
      | inl e ↦ elim (cases_eq (length (node_at ns k).name) 0) [
        | inl f ↦ inr (m.old.linked.step k b a ∙ ap (λ (j : ℕ). path_of ns j ++ ((node_at ns k).name ∷ [])) e ∙ ap (λ (r : List (List ℕ)). r ++ ((node_at ns k).name ∷ [])) (path-root ns) ∙ ap (λ (y : List ℕ). y ∷ []) (nil (node_at ns k).name f))
        | inr f ↦ inl (m.old.held k b f)
      ]
      | inr e ↦ inl (m.old.used k b e)
    ]
  ]

  -- an unused one is not below p
  unused-off : (r : List (List ℕ)) → is_relative r ≡ true → is_prefix r [] ≡ false → is_prefix r ([] ∷ []) ≡ false
  unused-off [] ru e = cc
  unused-off (a ∷ r) ru e = go (bytes_eq a []) refl
    where
      go : (t : Bool) → bytes_eq a [] ≡ t → (t && is_prefix r []) ≡ false
      go true f = let g : a ≡ [] = (bytes_eq-Decides a []).0 f in absurd (named-first r (subst (λ (y : List ℕ). is_relative (y ∷ r) ≡ true) g ru))
      go false f = refl

  -- no other node has the path p
  only : (k : ℕ) → k < length ns → path_of ns k ≡ p → k ≡ n
  only k b e = elim (live-or k b) [
    | inl w ↦ (let v = m.live in sym w.2 ∙ live-once ns order w.0 v.0 m.old.rising w.1 v.1 (ap (path_of ns) w.2 ∙ e ∙ sym (ap (path_of ns) v.2 ∙ m.at)) ∙ v.2)
    | inr f ↦ absurd (named-first [] (subst (λ (r : List (List ℕ)). is_relative r ≡ true) (sym e ∙ f) p-ruled))
  ]

  -- the new directory is not below p
  into-off : is_prefix p (path_of ns h) ≡ false
  into-off = go (is_prefix p (path_of ns h)) refl
    where
      go : (t : Bool) → is_prefix p (path_of ns h) ≡ t → t ≡ false
      go true e = let f : is_prefix p q ≡ true = ap (is_prefix p) m.name_is ∙ prefix-snoc p (path_of ns h) name ∙ ap (λ (t : Bool). t || same_path p (path_of ns h ++ name ∷ [])) e in let g = m.apart in cc
      go false e = refl

  -- a new path is that of the directory and the name
  new-step : (k : ℕ) → k < length ns → (k ≡ 0 → ⊥) → new_path k ≡ new_path (node_at (set ns n x) k).parent ++ ((node_at (set ns n x) k).name ∷ [])
  new-step k b a = elim (cases_eq k n) [
    | inl e ↦ ap new_path e ∙ here ∙ ap (λ (j : ℕ). new_path (node_at (set ns n x) j).parent ++ ((node_at (set ns n x) j).name ∷ [])) (sym e)
    | inr d ↦ there d ∙ ap (λ (y : Node). new_path y.parent ++ (y.name ∷ [])) (sym (node-old k d))
  ]
    where
      here : new_path n ≡ new_path (node_at (set ns n x) n).parent ++ ((node_at (set ns n x) n).name ∷ [])
      here =
          ap (moved_path p q) m.at ∙ path-itself p q ∙ m.name_is
          ∙ ap (λ (r : List (List ℕ)). r ++ (name ∷ [])) (sym (path-stays p q (path_of ns h) into-off))
          ∙ ap (λ (y : Node). new_path y.parent ++ (y.name ∷ [])) (sym node-is)

      there : (k ≡ n → ⊥) → new_path k ≡ new_path (node_at ns k).parent ++ ((node_at ns k).name ∷ [])
      there d = ap (moved_path p q) (m.old.linked.step k b a) ∙ by (is_prefix p (path_of ns (node_at ns k).parent)) refl
        where
          other : same_path p (path_of ns (node_at ns k).parent ++ ((node_at ns k).name ∷ [])) ≡ false
          other = go (same_path p (path_of ns (node_at ns k).parent ++ ((node_at ns k).name ∷ []))) refl
            where
              go : (t : Bool) → same_path p (path_of ns (node_at ns k).parent ++ ((node_at ns k).name ∷ [])) ≡ t → t ≡ false
              go true e = absurd (d (only k b (m.old.linked.step k b a ∙ sym (same-is p _ e))))
              go false e = refl

          by : (t : Bool) → is_prefix p (path_of ns (node_at ns k).parent) ≡ t → moved_path p q (path_of ns (node_at ns k).parent ++ ((node_at ns k).name ∷ [])) ≡ new_path (node_at ns k).parent ++ ((node_at ns k).name ∷ [])
          by true e = path-child p q (path_of ns (node_at ns k).parent) (node_at ns k).name e
          by false e =
              path-stays p q (path_of ns (node_at ns k).parent ++ ((node_at ns k).name ∷ [])) (prefix-snoc p (path_of ns (node_at ns k).parent) (node_at ns k).name ∙ ap (λ (t : Bool). t || same_path p (path_of ns (node_at ns k).parent ++ ((node_at ns k).name ∷ []))) e ∙ other)
              ∙ ap (λ (r : List (List ℕ)). r ++ ((node_at ns k).name ∷ [])) (sym (path-stays p q (path_of ns (node_at ns k).parent) e))

  root-stays : new_path 0 ≡ []
  root-stays = ap (moved_path p q) (path-root ns) ∙ path-stays p q [] not-root

  below-parent : (k : ℕ) → k < length ns → (node_at (set ns n x) k).parent < length ns
  below-parent k b = elim (cases_eq k n) [
    | inl e ↦ subst (λ (j : ℕ). (node_at (set ns n x) j).parent < length ns) (sym e) (subst (λ (y : Node). y.parent < length ns) (sym node-is) below-into)
    | inr d ↦ subst (λ (y : Node). y.parent < length ns) (sym (node-old k d)) (m.old.linked.below k b)
  ]

  climb : (f k : ℕ) → k < length ns → length (new_path k) ≤ f → up f (set ns n x) k ≡ new_path k
  unfolding up
  climb zero k b l = sym (empty (new_path k) l)
    where
      empty : (r : List (List ℕ)) → length r ≤ 0 → r ≡ []
      empty [] l = refl
      empty (a ∷ r) l = absurd (omega arith)
  climb (suc f) k b l = elim (cases_eq k 0) [
    | inl e ↦ subst (λ (j : ℕ). up (suc f) (set ns n x) j ≡ new_path j) (sym e) (sym root-stays)
    | inr a ↦ (
        let s = new-step k b a in
        let g = ap length s in
        up-step f (set ns n x) k a
        ∙ ap (λ (r : List (List ℕ)). r ++ ((node_at (set ns n x) k).name ∷ [])) (climb f (node_at (set ns n x) k).parent (below-parent k b) (omega (arith, length-append (new_path (node_at (set ns n x) k).parent) ((node_at (set ns n x) k).name ∷ []))))
        ∙ sym s)
  ]

  short : (k : ℕ) → k < length ns → length (new_path k) ≤ 128
  short k b = elim (live-or k b) [
    | inl w ↦ (let r = relative-short (new_path (get_or order w.0 0)) (m.ruled w.0 w.1) in let e = ap (λ (j : ℕ). length (new_path j)) w.2 in omega arith)
    | inr f ↦ (let e = ap length (ap (moved_path p q) f ∙ path-stays p q ([] ∷ []) (unused-off p p-ruled not-root)) in omega arith)
  ]

  pub path-after : (k : ℕ) → k < length ns → path_of (set ns n x) k ≡ moved_path p q (path_of ns k)
  unfolding path_of
  path-after k b = climb 128 k b (short k b)

  linked : IsLinked (set ns n x)
  linked = record {
    some = let some = m.old.linked.some in omega (arith, length-set ns n x);
    below = λ k b. let c = below-parent k (omega (arith, length-set ns n x)) in omega (arith, length-set ns n x);
    step = λ k b a.
        let c : k < length ns = omega (arith, length-set ns n x) in
        path-after k c ∙ new-step k c a ∙ ap (λ (r : List (List ℕ)). r ++ ((node_at (set ns n x) k).name ∷ [])) (sym (path-after (node_at (set ns n x) k).parent (below-parent k c)));
  }

  -- the rows in any order
  pub rows-after : (os : List ℕ) → AllWithin (length ns) os → rows_of (set ns n x) os ≡ map (moved p q) (rows_of ns os)
  rows-after [] w = refl
  rows-after (k ∷ os) w =
      let e = path-after k w.0 in
      let f = row-is k in
      let g = rows-after os w.1 in
      λ i. record { path = e i; row = f i } ∷ g i

  module _ (a b c : ℕ) (low : a ≤ b) (high : b ≤ c) (inside : c ≤ length order) where
    abbrev new : List ℕ
    new = turned a b c order

    live-turned : (k : ℕ) → IsLive order k → IsLive (turned a b c order) k
    live-turned k w =
        subst (IsLive (turned a b c order)) w.2 (places-back (IsLive (turned a b c order)) order a b c low high (λ j d. (j, d, refl)) w.0 w.1)

    within-after : AllWithin (length ns) (turned a b c order)
    within-after = go (turned a b c order) (from-places (λ k. k < length ns) (turned a b c order) (places-turned (λ k. k < length ns) order a b c low high (λ k d. within-at (length ns) order k m.old.within d)))
      where
        go : (ks : List ℕ) → AllByRecursion (λ k. k < length ns) ks → AllWithin (length ns) ks
        go [] e = tt
        go (k ∷ ks) e = (e.0, go ks e.1)

    -- rows in runs that change places
    map-turned : map (entry_at ns) (turned a b c order) ≡ turned a b c (rows_of ns order)
    map-turned =
        map-append f (take a order) (between b c order ++ (between a b order ++ drop c order))
        ∙ ap (λ (es : List Entry). es ++ map f (between b c order ++ (between a b order ++ drop c order))) (sym (take-map f a order))
        ∙ ap (λ (es : List Entry). take a (rows_of ns order) ++ es) (map-append f (between b c order) (between a b order ++ drop c order))
        ∙ ap (λ (es : List Entry). take a (rows_of ns order) ++ (es ++ map f (between a b order ++ drop c order))) (part b c)
        ∙ ap (λ (es : List Entry). take a (rows_of ns order) ++ (between b c (rows_of ns order) ++ es)) (map-append f (between a b order) (drop c order))
        ∙ ap (λ (es : List Entry). take a (rows_of ns order) ++ (between b c (rows_of ns order) ++ (es ++ map f (drop c order)))) (part a b)
        ∙ ap (λ (es : List Entry). take a (rows_of ns order) ++ (between b c (rows_of ns order) ++ (between a b (rows_of ns order) ++ es))) (sym (drop-map f c order))
      where
        f : ℕ → Entry
        f k = entry_at ns k

        part : (i j : ℕ) → map f (between i j order) ≡ between i j (map f order)
        part i j = sym (ap (take (j - i)) (drop-map f i order) ∙ take-map f (j - i) (drop i order))

    pub rows-turned : rows_of (set ns n x) (turned a b c order) ≡ map (moved p q) (turned a b c (rows_of ns order))
    rows-turned = rows-after (turned a b c order) within-after ∙ ap (map (moved p q)) map-turned

    pub tree-moved : IsRising (map (moved p q) (turned a b c (rows_of ns order))) → IsTree (set ns n x) (turned a b c order) ids
    tree-moved rises = record {
      linked = linked;
      within = subst (λ (k : ℕ). AllWithin k (turned a b c order)) (sym (length-set ns n x)) within-after;
      rising = subst IsRising (sym rows-turned) rises;
      ruled = places-turned (λ k. is_relative (path_of (set ns n x) k) ≡ true) order a b c low high (λ k d. ap is_relative (path-after (get_or order k 0) (within-at (length ns) order k m.old.within d)) ∙ m.ruled k d);
      root_is = ap (λ (y : Node). y.row.id) root-old ∙ m.old.root_is;
      root_dir = ap (λ (y : Node). is_dir y.row.kind) root-old ∙ m.old.root_dir;
      root_in = ap (λ (y : Node). y.parent) root-old ∙ m.old.root_in;
      rooted = live-turned 0 m.old.rooted;
      full = let e = m.old.full in omega (arith, longer, length-set ns n x);
      few = let e = m.old.few in omega (arith, longer);
      named = places-turned (λ k. ids (node_at (set ns n x) k).row.id ≡ Some k) order a b c low high (λ k d. ap ids (ap (λ (r : Row). r.id) (row-is (get_or order k 0))) ∙ m.old.named k d);
      stands = λ id k e. let w = m.old.stands id k e in let v = live-turned k (w.0, w.1, w.2) in (v.0, v.1, v.2, ap (λ (r : Row). r.id) (row-is k) ∙ w.3);
      nested = places-turned (λ k. is_dir (node_at (set ns n x) (node_at (set ns n x) k).parent).row.kind ≡ true) order a b c low high
          (λ k d. ap (λ (r : Row). is_dir r.kind) (row-is (node_at (set ns n x) (get_or order k 0)).parent) ∙ each-parent (λ j. is_dir (node_at ns j).row.kind ≡ true) m.directory (get_or order k 0) (m.old.nested k d));
      housed = places-turned (λ k. IsLive (turned a b c order) (node_at (set ns n x) k).parent) order a b c low high
          (λ k d. each-parent (IsLive (turned a b c order)) (live-turned h m.into) (get_or order k 0) (live-turned (node_at ns (get_or order k 0)).parent (m.old.housed k d)));
      used = λ k d apart. elim (cases_eq k n) [
        | inl e ↦ subst (IsLive (turned a b c order)) (sym e) (live-turned n m.live)
        | inr f ↦ live-turned k (m.old.used k (omega (arith, length-set ns n x)) (λ e. apart (ap (λ (y : Node). y.parent) (node-old k f) ∙ e)))
      ];
      held = λ k d apart. elim (cases_eq k n) [
        | inl e ↦ subst (IsLive (turned a b c order)) (sym e) (live-turned n m.live)
        | inr f ↦ live-turned k (m.old.held k (omega (arith, length-set ns n x)) (λ e. apart (ap (λ (y : Node). length y.name) (node-old k f) ∙ e)))
      ];
    }
      where
        longer : length (turned a b c order) ≡ length order
        longer = length-turned order a b c low high inside

        root-old : node_at (set ns n x) 0 ≡ node_at ns 0
        root-old = node-old 0 (λ e. deep (sym e))

        -- what is true of the new directory and of the old one
        each-parent : (P : ℕ → Type 0) → P h → (k : ℕ) → P (node_at ns k).parent → P (node_at (set ns n x) k).parent
        each-parent P new k old = elim (cases_eq k n) [
          | inl e ↦ subst (λ (j : ℕ). P (node_at (set ns n x) j).parent) (sym e) (subst (λ (y : Node). P y.parent) (sym node-is) new)
          | inr d ↦ subst (λ (y : Node). P y.parent) (sym (node-old k d)) old
        ]

    pub free-moved : (free : List ℕ) → IsFree ns order free → IsFree (set ns n x) (turned a b c order) free
    free-moved free f = record {
      below = λ k d. let e = f.below k d in omega (arith, length-set ns n x);
      unused = λ k j d e. places-turned (λ i. get_or free k 0 ≡ i → ⊥) order a b c low high (λ i g. f.unused k i d g) j e;
      once = f.once;
      count = let e = f.count in omega (arith, length-turned order a b c low high inside, length-set ns n x);
      most = let e = f.most in omega (arith, length-set ns n x);
    }
