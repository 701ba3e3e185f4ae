-- A tree with one more row.
use Rattle.std.proofs.Common.{◌≡◌, ℕ, ◌+◌, ◌-◌, ◌<◌, ◌≤◌, zero, suc, Bool, true, false, cond, List, [], ◌∷◌, ◌++◌, length, get_or, set, take, Option, Some, None, refl, sym, ap, ◌∙◌, subst, arith, length-append, length-set, length-take, get_or-take, ◌⊎◌, inl, inr}
use Rattle.std.specs.Bool.{nat_eq}
use Rattle.std.specs.List.{insert}
use Rattle.std.proofs.lemmas.Bool.{cases_eq, cases_lt}
use Rattle.std.proofs.lemmas.Bool.Decides.{nat_tests}
use Rattle.std.proofs.lemmas.List.Edits.{get_or-insert_below, get_or-insert_at, get_or-insert_above, length-insert}
use Rattle.std.specs.Option.{option_map}
use Rattle.inode_tree.specs.Rows.{Entry}
use Rattle.inode_tree.specs.declared.rows.Node.{Node}
use Rattle.name_calls.specs.Paths.{is_relative}
use Rattle.name_calls.proofs.PathLemmas.{relative-short}
use Rattle.inode_tree.specs.Rows.{is_dir, row_at, put}
use Rattle.inode_tree.specs.Arena.{IsTree, IsRising, rank, rows_of, entry_at, node_at, path_of, IsFree, IsLinked, IsLive, number_of, AllWithin}
use Rattle.inode_tree.proofs.Ranks.{rank-most, length-rows, within-at}
use Rattle.inode_tree.proofs.Seeks.{number-live, row-number}
use Rattle.inode_tree.proofs.Puts.{put-rank, rising-put, rows-insert}
use Rattle.inode_tree.proofs.Grows.{within-insert}
use Rattle.inode_tree.proofs.Writes.{IsUnpassed, linked-written, path-other, path-written, rows-other, unpassed-free, unwritten, written}

-- the place k of a list with x put in at i: before it, at it, or one further
places-of : (k i : ℕ) → (k < i) ⊎ ((k ≡ i) ⊎ ((j : ℕ) × (k ≡ j + 1) × (i ≤ j)))
places-of k i = elim (cases_lt k i) [ inl a ↦ inl a | inr b ↦ inr (above k b) ]
  where
    above : (k : ℕ) → i ≤ k → (k ≡ i) ⊎ ((j : ℕ) × (k ≡ j + 1) × (i ≤ j))
    above zero b = inl (omega arith)
    above (suc k) b = elim (cases_lt i (suc k)) [ inl a ↦ inr (k, omega arith, omega arith) | inr e ↦ inl (omega arith) ]

-- a property of the old numbers and of the new one is true of all
pub each-insert : (P : ℕ → Type 0) (order : List ℕ) (i n : ℕ) → i ≤ length order → ((k : ℕ) → k < length order → P (get_or order k 0)) → P n → (k : ℕ) → k < length (insert order i n) → P (get_or (insert order i n) k 0)
each-insert P order i n h old new k b = elim (places-of k i) [
  | inl a ↦ subst P (sym (get_or-insert_below order i n 0 k a h)) (old k (omega arith))
  | inr r ↦ elim r [
    | inl e ↦ subst P (sym (ap (λ (j : ℕ). get_or (insert order i n) j 0) e ∙ get_or-insert_at order i n 0 h)) new
    | inr w ↦ subst P (sym (ap (λ (j : ℕ). get_or (insert order i n) j 0) w.1 ∙ get_or-insert_above order i n 0 w.0 w.2 h)) (old w.0 (let e = w.1 in omega (arith, length-insert order i n h)))
  ]
]

-- a number of the old list has a place in the new one
pub still-in : (order : List ℕ) (i n m k : ℕ) → i ≤ length order → k < length order → get_or order k 0 ≡ m → (j : ℕ) × (j < length (insert order i n)) × (get_or (insert order i n) j 0 ≡ m)
still-in order i n m k h b e = elim (cases_lt k i) [
  | inl a ↦ (k, omega (arith, length-insert order i n h), get_or-insert_below order i n 0 k a h ∙ e)
  | inr c ↦ (k + 1, omega (arith, length-insert order i n h), get_or-insert_above order i n 0 k c h ∙ e)
]

pub new-in : (order : List ℕ) (i n : ℕ) → i ≤ length order → (j : ℕ) × (j < length (insert order i n)) × (get_or (insert order i n) j 0 ≡ n)
new-in order i n h = (i, omega (arith, length-insert order i n h), get_or-insert_at order i n 0 h)

nat-self : (n : ℕ) → nat_eq n n ≡ true
nat-self n = grind (arith, nat_tests)

nat-apart : (m n : ℕ) → (m ≡ n → ⊥) → nat_eq m n ≡ false
nat-apart m n h = grind (arith, nat_tests)

nat-yes : (m n : ℕ) → nat_eq m n ≡ true → m ≡ n
nat-yes m n h = grind (arith, nat_tests)

-- one more row, whose node is written over one that is not live
pub record HasGrown (ns : List Node) (order : List ℕ) (ids : ℕ → Option ℕ) (n : ℕ) (p q : List (List ℕ)) (x : Node) : Type 0 where
  pub old : IsTree ns order ids
  pub slot : n < length ns
  pub apart : (k : ℕ) → k < length order → get_or order k 0 ≡ n → ⊥
  pub room : length order < length ns
  pub at : p ≡ q ++ (x.name ∷ [])
  pub ruled : is_relative p ≡ true
  pub absent : number_of ns order p ≡ None
  pub housed : number_of ns order q ≡ Some x.parent
  pub few : length order < 1000000
  pub directory : is_dir (node_at ns x.parent).row.kind ≡ true
  pub fresh : ids x.row.id ≡ None

module _ (ns : List Node) (order : List ℕ) (ids : ℕ → Option ℕ) (n : ℕ) (p q : List (List ℕ)) (x : Node) (h : HasGrown ns order ids n p q x) where
  unpassed : IsUnpassed ns n
  unpassed = unpassed-free ns order ids n h.old h.slot h.apart

  parent-in : (k : ℕ) × (k < length order) × (get_or order k 0 ≡ x.parent) × (path_of ns x.parent ≡ q)
  parent-in = number-live ns order q x.parent h.housed

  parent-below : x.parent < length ns
  parent-below = subst (λ (j : ℕ). j < length ns) parent-in.2 (within-at (length ns) order parent-in.0 h.old.within parent-in.1)

  parent-apart : x.parent ≡ n → ⊥
  parent-apart e = h.apart parent-in.0 parent-in.1 (parent-in.2 ∙ e)

  parent-short : length (path_of ns x.parent) ≤ 127
  parent-short = let e : length p ≡ length q + 1 = ap length h.at ∙ length-append q (x.name ∷ []) in let f = ap length parent-in.3 in let g = relative-short p h.ruled in omega arith

  linked : IsLinked (set ns n x)
  linked = linked-written ns n x unpassed h.old.linked parent-below parent-apart parent-short

  node-is : node_at (set ns n x) n ≡ x
  node-is = written ns n x unpassed h.old.linked

  node-old : (m : ℕ) → (m ≡ n → ⊥) → node_at (set ns n x) m ≡ node_at ns m
  node-old m a = unwritten ns n x unpassed h.old.linked m a

  -- the new node's path
  path-is : path_of (set ns n x) n ≡ p
  path-is = path-written ns n x unpassed h.old.linked parent-below parent-apart parent-short ∙ ap (λ (r : List (List ℕ)). r ++ (x.name ∷ [])) parent-in.3 ∙ sym h.at

  live-below : (k : ℕ) → k < length order → get_or order k 0 < length ns
  live-below k b = within-at (length ns) order k h.old.within b

  entry-is : entry_at (set ns n x) n ≡ record { path = p; row = x.row }
  entry-is = λ i. record { path = path-is i; row = (node-is i).row }

  absent-row : row_at (rows_of ns order) p ≡ None
  absent-row = row-number ns order p ∙ ap (option_map (λ (m : ℕ). (node_at ns m).row)) h.absent

  at-most : rank (rows_of ns order) p ≤ length order
  at-most = let m = rank-most (rows_of ns order) p in omega (arith, length-rows ns order)

  -- the rows
  pub rows-grown : rows_of (set ns n x) (insert order (rank (rows_of ns order) p) n) ≡ put (record { path = p; row = x.row }) (rows_of ns order)
  rows-grown =
      rows-insert (set ns n x) order (rank (rows_of ns order) p) n
      ∙ ap (λ (es : List Entry). insert es (rank (rows_of ns order) p) (entry_at (set ns n x) n)) (rows-other ns n x unpassed h.old.linked order h.old.within h.apart)
      ∙ ap (insert (rows_of ns order) (rank (rows_of ns order) p)) entry-is
      ∙ sym (put-rank (rows_of ns order) (record { path = p; row = x.row }) absent-row)

  pub grown : (ids' : ℕ → Option ℕ) → ((id : ℕ) → ids' id ≡ cond (nat_eq x.row.id id) (Some n) (ids id)) → IsTree (set ns n x) (insert order (rank (rows_of ns order) p) n) ids'
  grown ids' new = record {
    linked = linked;
    within = subst (λ (m : ℕ). AllWithin m (insert order (rank (rows_of ns order) p) n)) (sym (length-set ns n x)) (within-insert (length ns) order (rank (rows_of ns order) p) n h.old.within h.slot);
    rising = subst IsRising (sym rows-grown) (rising-put (rows_of ns order) (record { path = p; row = x.row }) h.old.rising absent-row);
    ruled = each-insert (λ m. is_relative (path_of (set ns n x) m) ≡ true) order (rank (rows_of ns order) p) n at-most
        (λ k b. ap is_relative (path-other ns n x unpassed h.old.linked (get_or order k 0) (live-below k b) (h.apart k b)) ∙ h.old.ruled k b)
        (ap is_relative path-is ∙ h.ruled);
    root_is = ap (λ (y : Node). y.row.id) root-old ∙ h.old.root_is;
    root_dir = ap (λ (y : Node). is_dir y.row.kind) root-old ∙ h.old.root_dir;
    root_in = ap (λ (y : Node). y.parent) root-old ∙ h.old.root_in;
    nested = each-insert (λ m. is_dir (node_at (set ns n x) (node_at (set ns n x) m).parent).row.kind ≡ true) order (rank (rows_of ns order) p) n at-most
        (λ k b.
        ap (λ (y : Node). is_dir (node_at (set ns n x) y.parent).row.kind) (node-old (get_or order k 0) (h.apart k b))
        ∙ ap (λ (y : Node). is_dir y.row.kind) (node-old (node_at ns (get_or order k 0)).parent (unpassed.none (get_or order k 0) (live-below k b)))
        ∙ h.old.nested k b)
        (ap (λ (y : Node). is_dir (node_at (set ns n x) y.parent).row.kind) node-is ∙ ap (λ (y : Node). is_dir y.row.kind) (node-old x.parent parent-apart) ∙ h.directory);
    rooted = let w = h.old.rooted in still-in order (rank (rows_of ns order) p) n 0 w.0 at-most w.1 w.2;
    full = let room = h.room in omega (arith, length-insert order (rank (rows_of ns order) p) n at-most, length-set ns n x);
    few = let few = h.few in omega (arith, length-insert order (rank (rows_of ns order) p) n at-most);
    named = each-insert (λ m. ids' (node_at (set ns n x) m).row.id ≡ Some m) order (rank (rows_of ns order) p) n at-most
        (λ k b.
        let had : ids (node_at ns (get_or order k 0)).row.id ≡ Some (get_or order k 0) = h.old.named k b in
        let apart : x.row.id ≡ (node_at ns (get_or order k 0)).row.id → ⊥ = λ e. let f : ids (node_at ns (get_or order k 0)).row.id ≡ None = ap ids (sym e) ∙ h.fresh in cc in
        ap (λ (y : Node). ids' y.row.id) (node-old (get_or order k 0) (h.apart k b))
        ∙ new (node_at ns (get_or order k 0)).row.id
        ∙ ap (λ (t : Bool). cond t (Some n) (ids (node_at ns (get_or order k 0)).row.id)) (nat-apart _ _ apart) ∙ had)
        (ap (λ (y : Node). ids' y.row.id) node-is ∙ new x.row.id ∙ ap (λ (t : Bool). cond t (Some n) (ids x.row.id)) (nat-self x.row.id));
    stands = λ id m e. found id m (sym (new id) ∙ e);
    housed = each-insert (λ m. (j : ℕ) × (j < length (insert order (rank (rows_of ns order) p) n)) × (get_or (insert order (rank (rows_of ns order) p) n) j 0 ≡ (node_at (set ns n x) m).parent)) order (rank (rows_of ns order) p) n at-most
        (λ k b.
        let w = h.old.housed k b in
        still-in order (rank (rows_of ns order) p) n (node_at (set ns n x) (get_or order k 0)).parent w.0 at-most w.1 (w.2 ∙ ap (λ (y : Node). y.parent) (sym (node-old (get_or order k 0) (h.apart k b)))))
        (still-in order (rank (rows_of ns order) p) n (node_at (set ns n x) n).parent parent-in.0 at-most parent-in.1 (parent-in.2 ∙ ap (λ (y : Node). y.parent) (sym node-is)));
    used = λ m b deep. elim (cases_eq m n) [
      | inl e ↦ subst (IsLive (insert order (rank (rows_of ns order) p) n)) (sym e) (new-in order (rank (rows_of ns order) p) n at-most)
      | inr a ↦ (
          let w = h.old.used m (omega (arith, length-set ns n x)) (λ e. deep (ap (λ (y : Node). y.parent) (node-old m a) ∙ e)) in
          still-in order (rank (rows_of ns order) p) n m w.0 at-most w.1 w.2)
    ];
    held = λ m b deep. elim (cases_eq m n) [
      | inl e ↦ subst (IsLive (insert order (rank (rows_of ns order) p) n)) (sym e) (new-in order (rank (rows_of ns order) p) n at-most)
      | inr a ↦ (
          let w = h.old.held m (omega (arith, length-set ns n x)) (λ e. deep (ap (λ (y : Node). length y.name) (node-old m a) ∙ e)) in
          still-in order (rank (rows_of ns order) p) n m w.0 at-most w.1 w.2)
    ];
  }
    where
      root-old : node_at (set ns n x) 0 ≡ node_at ns 0
      root-old = node-old 0 (λ e. unpassed.deep (sym e))

      found : (id m : ℕ) → cond (nat_eq x.row.id id) (Some n) (ids id) ≡ Some m → (k : ℕ) × (k < length (insert order (rank (rows_of ns order) p) n)) × (get_or (insert order (rank (rows_of ns order) p) n) k 0 ≡ m) × ((node_at (set ns n x) m).row.id ≡ id)
      found id m = go (nat_eq x.row.id id) refl
        where
          go : (t : Bool) → nat_eq x.row.id id ≡ t → cond t (Some n) (ids id) ≡ Some m → (k : ℕ) × (k < length (insert order (rank (rows_of ns order) p) n)) × (get_or (insert order (rank (rows_of ns order) p) n) k 0 ≡ m) × ((node_at (set ns n x) m).row.id ≡ id)
          go true e f =
              let g : n ≡ m = cc in
              let w = new-in order (rank (rows_of ns order) p) n at-most in
              (w.0, w.1, w.2 ∙ g, subst (λ (j : ℕ). (node_at (set ns n x) j).row.id ≡ id) g (ap (λ (y : Node). y.row.id) node-is ∙ nat-yes _ _ e))
          go false e f =
              let w = h.old.stands id m f in
              let apart : m ≡ n → ⊥ = λ g. h.apart w.0 w.1 (w.2 ∙ g) in
              let s = still-in order (rank (rows_of ns order) p) n m w.0 at-most w.1 w.2 in
              (s.0, s.1, s.2, ap (λ (y : Node). y.row.id) (node-old m apart) ∙ w.3)

-- the free nodes without the last of them
pub free-grown : (ns : List Node) (order free : List ℕ) (i n : ℕ) (x : Node) → IsFree ns order free → 0 < length free → n ≡ get_or free (length free - 1) 0 → i ≤ length order → IsFree (set ns n x) (insert order i n) (take (length free - 1) free)
free-grown ns order free i n x f some e most = record {
  below = λ k h.
      let b : k < length free - 1 = omega (arith, length-take (length free - 1) free) in
      let w = f.below k (omega arith) in
      subst (λ (j : ℕ). j < length (set ns n x)) (sym (front k b)) (omega (arith, length-set ns n x));
  unused = λ k j h g same.
      let b : k < length free - 1 = omega (arith, length-take (length free - 1) free) in
      each-insert (λ m. get_or free k 0 ≡ m → ⊥) order i n most (λ l c. f.unused k l (omega arith) c) (λ a. f.once k (length free - 1) b (omega arith) (a ∙ e)) j g (sym (front k b) ∙ same);
  once = λ j k l h same.
      let b : k < length free - 1 = omega (arith, length-take (length free - 1) free) in
      f.once j k l (omega arith) (sym (front j (omega arith)) ∙ same ∙ front k b);
  count = let c = f.count in omega (arith, length-insert order i n most, length-take (length free - 1) free, length-set ns n x);
  most = let m = f.most in omega (arith, length-set ns n x);
}
  where
    front : (k : ℕ) → k < length free - 1 → get_or (take (length free - 1) free) k 0 ≡ get_or free k 0
    front k b = get_or-take (length free - 1) free k 0 b
