-- A tree without a row that had no children.
use Rattle.std.proofs.Common.{◌≡◌, ℕ, ◌+◌, ◌-◌, ◌<◌, zero, suc, Bool, true, false, cond, List, [], ◌∷◌, ◌++◌, length, get_or, set, Option, Some, None, refl, sym, ap, ◌∙◌, subst, arith, length-append, length-set, inl, inr}
use Rattle.std.specs.Bool.{nat_eq}
use Rattle.std.specs.List.{remove}
use Rattle.std.proofs.lemmas.Bool.{cases_eq, cases_lt}
use Rattle.std.proofs.lemmas.Bool.Decides.{nat_tests}
use Rattle.std.proofs.lemmas.List.{get_or_append_left}
use Rattle.std.proofs.lemmas.List.Edits.{get_or-remove_above, get_or-remove_below, length-remove}
use Rattle.inode_tree.specs.declared.rows.Node.{Node}
use Rattle.name_calls.specs.Paths.{is_before, is_relative}
use Rattle.inode_tree.specs.Rows.{Entry, is_dir}
use Rattle.inode_tree.specs.Arena.{AllAfter, AllWithin, IsFree, IsLeaf, IsLive, IsRising, IsTree, blank, entry_at, node_at, path_of, rows_of}
use Rattle.inode_tree.proofs.Ranks.{within-at}
use Rattle.inode_tree.proofs.Seeks.{not-before-itself}
use Rattle.inode_tree.proofs.Ups.{path-root}
use Rattle.inode_tree.proofs.Writes.{IsUnpassed, linked-written, path-other, rows-other, unpassed-leaf, unwritten, written}
use Rattle.inode_tree.proofs.ZoneLemmas.{rising-before}

-- a property of the other numbers is true of all that are left
each-remove : (P : ℕ → Type 0) (order : List ℕ) (at : ℕ) → at < length order → ((k : ℕ) → k < length order → (k ≡ at → ⊥) → P (get_or order k 0)) → (k : ℕ) → k < length (remove order at) → P (get_or (remove order at) k 0)
each-remove P order at h old k b = elim (cases_lt k at) [
  | inl a ↦ subst P (sym (get_or-remove_below order at 0 k a h)) (old k (omega (arith, length-remove order at h)) (λ e. omega arith))
  | inr a ↦ subst P (sym (get_or-remove_above order at 0 k a h)) (old (k + 1) (omega (arith, length-remove order at h)) (λ e. omega arith))
]

-- another number is still there
stays-in : (order : List ℕ) (at m k : ℕ) → at < length order → k < length order → get_or order k 0 ≡ m → (m ≡ get_or order at 0 → ⊥) → IsLive (remove order at) m
stays-in order at m k h b e apart = elim (cases_lt k at) [
  | inl a ↦ (k, omega (arith, length-remove order at h), get_or-remove_below order at 0 k a h ∙ e)
  | inr a ↦ elim (cases_eq k at) [
    | inl s ↦ absurd (apart (sym e ∙ ap (λ (j : ℕ). get_or order j 0) s))
    | inr s ↦ (
        let back : k - 1 + 1 ≡ k = omega arith in
        (k - 1, omega (arith, length-remove order at h), get_or-remove_above order at 0 (k - 1) (omega arith) h ∙ ap (λ (j : ℕ). get_or order j 0) back ∙ e))
  ]
]

-- no number comes twice
pub number-once : (ns : List Node) (order : List ℕ) (i j : ℕ) → IsRising (rows_of ns order) → i < j → j < length order → get_or order i 0 ≡ get_or order j 0 → ⊥
number-once ns [] i j r h b e = absurd (omega arith)
number-once ns (n ∷ order) i zero r h b e = absurd (omega arith)
number-once ns (n ∷ order) zero (suc j) r h b e =
    let f : is_before (path_of ns n) (path_of ns n) ≡ true = ap (λ (m : ℕ). is_before (path_of ns n) (path_of ns m)) e ∙ rising-before ns n order j r.0 (omega arith) in
    let g = not-before-itself (path_of ns n) in cc
number-once ns (n ∷ order) (suc i) (suc j) r h b e = number-once ns order i j r.1 (omega arith) (omega arith) e

pub number-apart : (ns : List Node) (order : List ℕ) (k at : ℕ) → IsRising (rows_of ns order) → k < length order → at < length order → (k ≡ at → ⊥) → get_or order k 0 ≡ get_or order at 0 → ⊥
number-apart ns order k at r b h a e = elim (cases_lt k at) [ inl l ↦ number-once ns order k at r l h e | inr l ↦ number-once ns order at k r (omega arith) b (sym e) ]

within-remove : (n : ℕ) (order : List ℕ) (at : ℕ) → AllWithin n order → AllWithin n (remove order at)
within-remove n [] zero w = tt
within-remove n [] (suc at) w = tt
within-remove n (m ∷ order) zero w = w.1
within-remove n (m ∷ order) (suc at) w = (w.0, within-remove n order at w.1)

after-remove : (p : List (List ℕ)) (es : List Entry) (at : ℕ) → AllAfter p es → AllAfter p (remove es at)
after-remove p [] zero a = tt
after-remove p [] (suc at) a = tt
after-remove p (e ∷ es) zero a = a.1
after-remove p (e ∷ es) (suc at) a = (a.0, after-remove p es at a.1)

rising-remove : (es : List Entry) (at : ℕ) → IsRising es → IsRising (remove es at)
rising-remove [] zero r = tt
rising-remove [] (suc at) r = tt
rising-remove (e ∷ es) zero r = r.1
rising-remove (e ∷ es) (suc at) r = (after-remove e.path es at r.0, rising-remove es at r.1)

rows-remove : (ns : List Node) (order : List ℕ) (at : ℕ) → rows_of ns (remove order at) ≡ remove (rows_of ns order) at
rows-remove ns [] zero = refl
rows-remove ns [] (suc at) = refl
rows-remove ns (n ∷ order) zero = refl
rows-remove ns (n ∷ order) (suc at) = ap (λ (es : List Entry). entry_at ns n ∷ es) (rows-remove ns order at)

nat-apart : (m n : ℕ) → (m ≡ n → ⊥) → nat_eq m n ≡ false
nat-apart m n h = grind (arith, nat_tests)

nat-no : (m n : ℕ) → nat_eq m n ≡ false → m ≡ n → ⊥
nat-no m n h e = grind (arith, nat_tests)

module _ (ns : List Node) (order : List ℕ) (ids : ℕ → Option ℕ) (at n : ℕ) (t : IsTree ns order ids) (leaf : IsLeaf ns order at) (en : n ≡ get_or order at 0) where
  unpassed : IsUnpassed ns n
  unpassed = subst (IsUnpassed ns) (sym en) (unpassed-leaf ns order ids at t leaf)

  node-old : (m : ℕ) → (m ≡ n → ⊥) → node_at (set ns n blank) m ≡ node_at ns m
  node-old m a = unwritten ns n blank unpassed t.linked m a

  root-old : node_at (set ns n blank) 0 ≡ node_at ns 0
  root-old = node-old 0 (λ e. unpassed.deep (sym e))

  live-below : (k : ℕ) → k < length order → get_or order k 0 < length ns
  live-below k b = within-at (length ns) order k t.within b

  other : (k : ℕ) → k < length order → (k ≡ at → ⊥) → get_or order k 0 ≡ n → ⊥
  other k b a e = number-apart ns order k at t.rising b leaf.inside a (e ∙ en)

  left-apart : (k : ℕ) → k < length (remove order at) → get_or (remove order at) k 0 ≡ n → ⊥
  left-apart = each-remove (λ m. m ≡ n → ⊥) order at leaf.inside other

  stays : (m k : ℕ) → k < length order → get_or order k 0 ≡ m → (m ≡ n → ⊥) → IsLive (remove order at) m
  stays m k b e a = stays-in order at m k leaf.inside b e (λ f. a (f ∙ sym en))

  pub rows-shrunk : rows_of (set ns n blank) (remove order at) ≡ remove (rows_of ns order) at
  rows-shrunk = rows-other ns n blank unpassed t.linked (remove order at) (within-remove (length ns) order at t.within) left-apart ∙ rows-remove ns order at

  pub shrunk : (ids' : ℕ → Option ℕ) → ((id : ℕ) → ids' id ≡ cond (nat_eq (node_at ns n).row.id id) None (ids id)) → IsTree (set ns n blank) (remove order at) ids'
  shrunk ids' new = record {
    linked = linked-written ns n blank unpassed t.linked t.linked.some (λ e. unpassed.deep (sym e)) (let e = ap length (path-root ns) in omega arith);
    within = subst (λ (m : ℕ). AllWithin m (remove order at)) (sym (length-set ns n blank)) (within-remove (length ns) order at t.within);
    rising = subst IsRising (sym rows-shrunk) (rising-remove (rows_of ns order) at t.rising);
    ruled = each-remove (λ m. is_relative (path_of (set ns n blank) m) ≡ true) order at leaf.inside
        (λ k b a. ap is_relative (path-other ns n blank unpassed t.linked (get_or order k 0) (live-below k b) (other k b a)) ∙ t.ruled k b);
    root_is = ap (λ (y : Node). y.row.id) root-old ∙ t.root_is;
    root_dir = ap (λ (y : Node). is_dir y.row.kind) root-old ∙ t.root_dir;
    root_in = ap (λ (y : Node). y.parent) root-old ∙ t.root_in;
    rooted = let w = t.rooted in stays 0 w.0 w.1 w.2 (λ e. unpassed.deep (sym e));
    full = let full = t.full in omega (arith, length-remove order at leaf.inside, length-set ns n blank);
    few = let few = t.few in omega (arith, length-remove order at leaf.inside);
    named = each-remove (λ m. ids' (node_at (set ns n blank) m).row.id ≡ Some m) order at leaf.inside
        (λ k b a.
        let had : ids (node_at ns (get_or order k 0)).row.id ≡ Some (get_or order k 0) = t.named k b in
        let mine : ids (node_at ns n).row.id ≡ Some n = subst (λ (m : ℕ). ids (node_at ns m).row.id ≡ Some m) (sym en) (t.named at leaf.inside) in
        let apart : (node_at ns n).row.id ≡ (node_at ns (get_or order k 0)).row.id → ⊥ = λ e. let f : ids (node_at ns n).row.id ≡ Some (get_or order k 0) = ap ids e ∙ had in let g : get_or order k 0 ≡ n = cc in other k b a g in
        ap (λ (y : Node). ids' y.row.id) (node-old (get_or order k 0) (other k b a))
        ∙ new (node_at ns (get_or order k 0)).row.id
        ∙ ap (λ (s : Bool). cond s None (ids (node_at ns (get_or order k 0)).row.id)) (nat-apart _ _ apart) ∙ had);
    stands = λ id m e. found id m (sym (new id) ∙ e);
    nested = each-remove (λ m. is_dir (node_at (set ns n blank) (node_at (set ns n blank) m).parent).row.kind ≡ true) order at leaf.inside
        (λ k b a.
        ap (λ (y : Node). is_dir (node_at (set ns n blank) y.parent).row.kind) (node-old (get_or order k 0) (other k b a))
        ∙ ap (λ (y : Node). is_dir y.row.kind) (node-old (node_at ns (get_or order k 0)).parent (unpassed.none (get_or order k 0) (live-below k b)))
        ∙ t.nested k b);
    housed = each-remove (λ m. IsLive (remove order at) (node_at (set ns n blank) m).parent) order at leaf.inside
        (λ k b a.
        let w = t.housed k b in
        subst (λ (y : Node). IsLive (remove order at) y.parent) (sym (node-old (get_or order k 0) (other k b a))) (stays (node_at ns (get_or order k 0)).parent w.0 w.1 w.2 (unpassed.none (get_or order k 0) (live-below k b))));
    used = λ m b deep. elim (cases_eq m n) [
      | inl e ↦ absurd (deep (ap (λ (j : ℕ). (node_at (set ns n blank) j).parent) e ∙ ap (λ (y : Node). y.parent) (written ns n blank unpassed t.linked)))
      | inr a ↦ (
          let w = t.used m (omega (arith, length-set ns n blank)) (λ e. deep (ap (λ (y : Node). y.parent) (node-old m a) ∙ e)) in
          stays m w.0 w.1 w.2 a)
    ];
    held = λ m b deep. elim (cases_eq m n) [
      | inl e ↦ absurd (deep (ap (λ (j : ℕ). length (node_at (set ns n blank) j).name) e ∙ ap (λ (y : Node). length y.name) (written ns n blank unpassed t.linked)))
      | inr a ↦ (
          let w = t.held m (omega (arith, length-set ns n blank)) (λ e. deep (ap (λ (y : Node). length y.name) (node-old m a) ∙ e)) in
          stays m w.0 w.1 w.2 a)
    ];
  }
    where
      found : (id m : ℕ) → cond (nat_eq (node_at ns n).row.id id) None (ids id) ≡ Some m → (k : ℕ) × (k < length (remove order at)) × (get_or (remove order at) k 0 ≡ m) × ((node_at (set ns n blank) m).row.id ≡ id)
      found id m = go (nat_eq (node_at ns n).row.id id) refl
        where
          go : (s : Bool) → nat_eq (node_at ns n).row.id id ≡ s → cond s None (ids id) ≡ Some m → (k : ℕ) × (k < length (remove order at)) × (get_or (remove order at) k 0 ≡ m) × ((node_at (set ns n blank) m).row.id ≡ id)
          go true e f = cc
          go false e f =
              let w = t.stands id m f in
              let apart : m ≡ n → ⊥ = λ g. nat-no _ _ e (ap (λ (j : ℕ). (node_at ns j).row.id) (sym g) ∙ w.3) in
              let s = stays m w.0 w.1 w.2 apart in
              (s.0, s.1, s.2, ap (λ (y : Node). y.row.id) (node-old m apart) ∙ w.3)

  -- the free nodes with one more
  pub free-shrunk : (free : List ℕ) → IsFree ns order free → IsFree (set ns n blank) (remove order at) (free ++ n ∷ [])
  free-shrunk free f = record {
    below = each-more (λ m. m < length (set ns n blank)) free n (λ k h. let w = f.below k h in omega (arith, length-set ns n blank)) (let w = unpassed.below in omega (arith, length-set ns n blank));
    unused = λ k j h g same.
        each-more (λ m. m ≡ get_or (remove order at) j 0 → ⊥) free n
        (λ l c. each-remove (λ m. get_or free l 0 ≡ m → ⊥) order at leaf.inside (λ i b a. f.unused l i c b) j g)
        (λ e. left-apart j g (sym e)) k h same;
    once = λ j k l h same.
        let c : length (free ++ n ∷ []) ≡ length free + 1 = length-append free (n ∷ []) in
        elim (cases_lt k (length free)) [
          | inl b ↦ f.once j k l b (sym (get_or_append_left free (n ∷ []) 0 j (omega arith)) ∙ same ∙ get_or_append_left free (n ∷ []) 0 k b)
          | inr b ↦ f.unused j at (omega arith) leaf.inside (sym (get_or_append_left free (n ∷ []) 0 j (omega arith)) ∙ same ∙ ap (λ (i : ℕ). get_or (free ++ n ∷ []) i 0) (let e : k ≡ length free = omega arith in e) ∙ last free ∙ en)
        ];
    count = let c = f.count in omega (arith, length-remove order at leaf.inside, length-append free (n ∷ []), length-set ns n blank);
    most = let m = f.most in omega (arith, length-set ns n blank);
  }
    where
      last : (xs : List ℕ) → get_or (xs ++ n ∷ []) (length xs) 0 ≡ n
      last [] = refl
      last (m ∷ xs) = last xs

      each-more : (P : ℕ → Type 0) (free : List ℕ) (n : ℕ) → ((k : ℕ) → k < length free → P (get_or free k 0)) → P n → (k : ℕ) → k < length (free ++ n ∷ []) → P (get_or (free ++ n ∷ []) k 0)
      each-more P [] n old new zero h = new
      each-more P [] n old new (suc k) h = absurd (omega arith)
      each-more P (m ∷ free) n old new zero h = old 0 (omega arith)
      each-more P (m ∷ free) n old new (suc k) h = each-more P free n (λ j b. old (suc j) (omega arith)) new k (omega arith)
