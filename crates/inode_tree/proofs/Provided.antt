-- A tree with one more free node.
use Rattle.std.proofs.Common.{◌≡◌, ℕ, ◌+◌, ◌<◌, List, [], ◌∷◌, ◌++◌, length, get_or, Option, sym, ap, ◌∙◌, subst, arith, length-append, inl, inr}
use Rattle.std.proofs.lemmas.Bool.{cases_lt}
use Rattle.inode_tree.specs.declared.rows.Node.{Node}
use Rattle.name_calls.specs.Paths.{is_relative}
use Rattle.inode_tree.specs.Rows.{is_dir}
use Rattle.inode_tree.specs.Arena.{AllWithin, IsFree, IsRising, IsTree, blank, node_at, rows_of}
use Rattle.inode_tree.proofs.Grows.{linked-grow, node-new, node-old, path-old, rows-old, within-more}
use Rattle.inode_tree.proofs.Ranks.{within-at}
use Rattle.inode_tree.proofs.Ups.{path-root}

module _ (ns : List Node) (order : List ℕ) (ids : ℕ → Option ℕ) (t : IsTree ns order ids) where
  longer : length (ns ++ blank ∷ []) ≡ length ns + 1
  longer = length-append ns (blank ∷ [])

  live : (k : ℕ) → k < length order → get_or order k 0 < length ns
  live k b = within-at (length ns) order k t.within b

  root-old : node_at (ns ++ blank ∷ []) 0 ≡ node_at ns 0
  root-old = node-old ns blank 0 t.linked.some

  pub rows-provided : rows_of (ns ++ blank ∷ []) order ≡ rows_of ns order
  rows-provided = rows-old ns blank order t.linked t.within

  pub provided : IsTree (ns ++ blank ∷ []) order ids
  provided = record {
    linked = linked-grow ns blank t.linked t.linked.some (let e = ap length (path-root ns) in omega arith);
    within = subst (λ (n : ℕ). AllWithin n order) (sym longer) (within-more (length ns) order t.within);
    rising = subst IsRising (sym rows-provided) t.rising;
    ruled = λ k b. ap is_relative (path-old ns blank (get_or order k 0) t.linked (live k b)) ∙ t.ruled k b;
    root_is = ap (λ (y : Node). y.row.id) root-old ∙ t.root_is;
    root_dir = ap (λ (y : Node). is_dir y.row.kind) root-old ∙ t.root_dir;
    root_in = ap (λ (y : Node). y.parent) root-old ∙ t.root_in;
    nested = λ k b.
        ap (λ (y : Node). is_dir (node_at (ns ++ blank ∷ []) y.parent).row.kind) (node-old ns blank (get_or order k 0) (live k b))
        ∙ ap (λ (y : Node). is_dir y.row.kind) (node-old ns blank (node_at ns (get_or order k 0)).parent (t.linked.below (get_or order k 0) (live k b)))
        ∙ t.nested k b;
    rooted = t.rooted;
    full = let full = t.full in omega (arith, longer);
    few = t.few;
    named = λ k b. ap (λ (y : Node). ids y.row.id) (node-old ns blank (get_or order k 0) (live k b)) ∙ t.named k b;
    stands = λ id n e.
        let w = t.stands id n e in
        let b : n < length ns = subst (λ (m : ℕ). m < length ns) w.2 (live w.0 w.1) in
        (w.0, w.1, w.2, ap (λ (y : Node). y.row.id) (node-old ns blank n b) ∙ w.3);
    housed = λ k b. let w = t.housed k b in (w.0, w.1, w.2 ∙ ap (λ (y : Node). y.parent) (sym (node-old ns blank (get_or order k 0) (live k b))));
    used = λ m b deep. elim (cases_lt m (length ns)) [
      | inl a ↦ t.used m a (λ e. deep (ap (λ (y : Node). y.parent) (node-old ns blank m a) ∙ e))
      | inr a ↦ absurd (deep (ap (λ (j : ℕ). (node_at (ns ++ blank ∷ []) j).parent) (let e : m ≡ length ns = omega (arith, longer) in e) ∙ ap (λ (y : Node). y.parent) (node-new ns blank)))
    ];
    held = λ m b deep. elim (cases_lt m (length ns)) [
      | inl a ↦ t.held m a (λ e. deep (ap (λ (y : Node). length y.name) (node-old ns blank m a) ∙ e))
      | inr a ↦ absurd (deep (ap (λ (j : ℕ). length (node_at (ns ++ blank ∷ []) j).name) (let e : m ≡ length ns = omega (arith, longer) in e) ∙ ap (λ (y : Node). length y.name) (node-new ns blank)))
    ];
  }

  pub free-provided : (free : List ℕ) → length free ≡ 0 → IsFree ns order free → IsFree (ns ++ blank ∷ []) order (length ns ∷ [])
  free-provided free e f = record {
    below = λ k h. subst (λ (j : ℕ). get_or (length ns ∷ []) j 0 < length (ns ++ blank ∷ [])) (sym (zero-only k h)) (omega (arith, longer));
    unused = λ k j h g same. let s : length ns ≡ get_or order j 0 = ap (λ (i : ℕ). get_or (length ns ∷ []) i 0) (sym (zero-only k h)) ∙ same in let b = live j g in absurd (omega arith);
    once = λ j k l h. absurd (omega arith);
    count = let c = f.count in omega (arith, longer);
    most = let few = t.few in let c = f.count in omega (arith, longer);
  }
    where
      zero-only : (k : ℕ) → k < 1 → k ≡ 0
      zero-only k h = omega arith
