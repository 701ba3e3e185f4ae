-- Nodes whose rows change and whose places stay.
use Rattle.std.proofs.Common.{◌≡◌, ℕ, ◌<◌, zero, suc, Bool, true, false, cond, List, [], ◌∷◌, ◌++◌, length, get_or, Option, Some, refl, sym, ap, ◌∙◌, subst, arith, length-set, inl, inr, get_or-set_same, get_or-set_other, ◌≤◌}
use Rattle.std.specs.Prelude.{◌==◌}
use Rattle.std.proofs.lemmas.Bool.{cases_eq}
use Rattle.std.proofs.lemmas.Bool.Decides.{nat_tests}
use Rattle.name_calls.specs.Paths.{is_before, is_relative}
use Rattle.inode_tree.specs.Rows.{is_dir, set_kind, with_kind}
use Rattle.inode_tree.specs.declared.rows.Node.{Node}
use Rattle.inode_tree.specs.declared.rows.Kind.{Kind}
use Rattle.inode_tree.proofs.Trees.{id-below}
use Rattle.inode_tree.specs.Arena.{IsTree, AllWithin, AllAfter, IsRising, node_at, rows_of, path_of, up, entry_at, blank, rekind}

-- the same directory, name and id at each place
pub record SameShape (ns ns' : List Node) : Type 0 where
  pub length_is : length ns' ≡ length ns
  pub parent : (m : ℕ) → (node_at ns' m).parent ≡ (node_at ns m).parent
  pub name : (m : ℕ) → (node_at ns' m).name ≡ (node_at ns m).name
  pub id : (m : ℕ) → (node_at ns' m).row.id ≡ (node_at ns m).row.id

pub up-shape : (f : ℕ) (ns ns' : List Node) → SameShape ns ns' → (n : ℕ) → up f ns' n ≡ up f ns n
unfolding up
up-shape zero ns ns' s n = refl
up-shape (suc f) ns ns' s n =
    ap (λ (k : ℕ). cond (n == 0) [] (up f ns' k ++ ((node_at ns' n).name ∷ []))) (s.parent n)
    ∙ ap (λ (x : List ℕ). cond (n == 0) [] (up f ns' (node_at ns n).parent ++ (x ∷ []))) (s.name n)
    ∙ ap (λ (q : List (List ℕ)). cond (n == 0) [] (q ++ ((node_at ns n).name ∷ []))) (up-shape f ns ns' s (node_at ns n).parent)

pub path-shape : (ns ns' : List Node) → SameShape ns ns' → (n : ℕ) → path_of ns' n ≡ path_of ns n
unfolding path_of
path-shape ns ns' s n = up-shape 128 ns ns' s n

after-shape : (ns ns' : List Node) → SameShape ns ns' → (p : List (List ℕ)) (order : List ℕ) → AllAfter p (rows_of ns order) → AllAfter p (rows_of ns' order)
after-shape ns ns' s p [] a = tt
after-shape ns ns' s p (n ∷ order) a = (ap (is_before p) (path-shape ns ns' s n) ∙ a.0, after-shape ns ns' s p order a.1)

rising-shape : (ns ns' : List Node) → SameShape ns ns' → (order : List ℕ) → IsRising (rows_of ns order) → IsRising (rows_of ns' order)
rising-shape ns ns' s [] r = tt
rising-shape ns ns' s (n ∷ order) r = (after-shape ns ns' s (path_of ns' n) order (subst (λ (q : List (List ℕ)). AllAfter q (rows_of ns order)) (sym (path-shape ns ns' s n)) r.0), rising-shape ns ns' s order r.1)

pub tree-shape : (ns ns' : List Node) → SameShape ns ns' → ((m : ℕ) → is_dir (node_at ns' m).row.kind ≡ is_dir (node_at ns m).row.kind) → (order : List ℕ) (ids : ℕ → Option ℕ) → IsTree ns order ids → IsTree ns' order ids
tree-shape ns ns' s dirs order ids t = record {
  linked = record {
    some = subst (λ (k : ℕ). 0 < k) (sym s.length_is) t.linked.some;
    below = λ m h. subst (λ (k : ℕ). k < length ns') (sym (s.parent m)) (subst (λ (k : ℕ). (node_at ns m).parent < k) (sym s.length_is) (t.linked.below m (subst (λ (k : ℕ). m < k) s.length_is h)));
    step = λ m h apart. path-shape ns ns' s m ∙ t.linked.step m (subst (λ (k : ℕ). m < k) s.length_is h) apart
        ∙ ap (λ (q : List (List ℕ)). q ++ ((node_at ns m).name ∷ [])) (sym (path-shape ns ns' s (node_at ns m).parent))
        ∙ ap (λ (k : ℕ). path_of ns' k ++ ((node_at ns m).name ∷ [])) (sym (s.parent m))
        ∙ ap (λ (x : List ℕ). path_of ns' (node_at ns' m).parent ++ (x ∷ [])) (sym (s.name m));
  };
  within = subst (λ (k : ℕ). AllWithin k order) (sym s.length_is) t.within;
  rising = rising-shape ns ns' s order t.rising;
  ruled = λ k h. ap is_relative (path-shape ns ns' s (get_or order k 0)) ∙ t.ruled k h;
  root_is = s.id 0 ∙ t.root_is;
  root_dir = dirs 0 ∙ t.root_dir;
  root_in = s.parent 0 ∙ t.root_in;
  nested = λ k h. ap (λ (m : ℕ). is_dir (node_at ns' m).row.kind) (s.parent (get_or order k 0)) ∙ dirs (node_at ns (get_or order k 0)).parent ∙ t.nested k h;
  rooted = t.rooted;
  full = subst (λ (k : ℕ). length order ≤ k) (sym s.length_is) t.full;
  few = t.few;
  named = λ k h. ap ids (s.id (get_or order k 0)) ∙ t.named k h;
  stands = λ id n e. let w = t.stands id n e in (w.0, w.1, w.2, s.id n ∙ w.3);
  housed = λ k h. let w = t.housed k h in (w.0, w.1, w.2 ∙ sym (s.parent (get_or order k 0)));
  used = λ m h a. t.used m (subst (λ (k : ℕ). m < k) s.length_is h) (λ e. a (s.parent m ∙ e));
  held = λ m h a. t.held m (subst (λ (k : ℕ). m < k) s.length_is h) (λ e. a (ap length (s.name m) ∙ e));
}

-- a property of the node with another kind, and of the others
each-rekind : (ns : List Node) (n : ℕ) (kind : Kind) → n < length ns → (P : Node → Type 0) (m : ℕ) → (m ≡ n → P (record { parent = (node_at ns n).parent; name = (node_at ns n).name; row = record { id = (node_at ns n).row.id; kind = kind } })) → P (node_at ns m) → P (node_at (rekind ns n kind) m)
each-rekind ns n kind h P m here there = elim (cases_eq m n) [
  | inl e ↦ subst P (sym (ap (λ (k : ℕ). node_at (rekind ns n kind) k) e ∙ get_or-set_same ns n _ blank h)) (here e)
  | inr a ↦ subst P (sym (get_or-set_other ns n m _ blank a)) there
]

pub shape-rekind : (ns : List Node) (n : ℕ) (kind : Kind) → n < length ns → SameShape ns (rekind ns n kind)
shape-rekind ns n kind h = record {
  length_is = length-set ns n _;
  parent = λ m. each-rekind ns n kind h (λ (x : Node). x.parent ≡ (node_at ns m).parent) m (λ e. ap (λ (k : ℕ). (node_at ns k).parent) (sym e)) refl;
  name = λ m. each-rekind ns n kind h (λ (x : Node). x.name ≡ (node_at ns m).name) m (λ e. ap (λ (k : ℕ). (node_at ns k).name) (sym e)) refl;
  id = λ m. each-rekind ns n kind h (λ (x : Node). x.row.id ≡ (node_at ns m).row.id) m (λ e. ap (λ (k : ℕ). (node_at ns k).row.id) (sym e)) refl;
}

dirs-rekind : (ns : List Node) (n : ℕ) (kind : Kind) → n < length ns → is_dir kind ≡ is_dir (node_at ns n).row.kind → (m : ℕ) → is_dir (node_at (rekind ns n kind) m).row.kind ≡ is_dir (node_at ns m).row.kind
dirs-rekind ns n kind h same m = each-rekind ns n kind h (λ (x : Node). is_dir x.row.kind ≡ is_dir (node_at ns m).row.kind) m (λ e. same ∙ ap (λ (k : ℕ). is_dir (node_at ns k).row.kind) (sym e)) refl

-- the rows with another kind at the id of n
pub rows-rekind : (ns : List Node) (n id : ℕ) (kind : Kind) → n < length ns → (node_at ns n).row.id ≡ id → (order : List ℕ) → ((k : ℕ) → k < length order → (node_at ns (get_or order k 0)).row.id ≡ id → get_or order k 0 ≡ n)
    → rows_of (rekind ns n kind) order ≡ set_kind (rows_of ns order) id kind
rows-rekind ns n id kind h e [] one = refl
rows-rekind ns n id kind h e (m ∷ order) one =
    let f : rows_of (rekind ns n kind) order ≡ set_kind (rows_of ns order) id kind = rows-rekind ns n id kind h e order (λ k b. one (suc k) (omega arith)) in
    let g : entry_at (rekind ns n kind) m ≡ with_kind id kind (entry_at ns m) = elim (cases_eq m n) [ inl a ↦ here a | inr a ↦ there a ] in
    λ i. g i ∷ f i
  where
    path : path_of (rekind ns n kind) m ≡ path_of ns m
    path = path-shape ns (rekind ns n kind) (shape-rekind ns n kind h) m

    here : m ≡ n → entry_at (rekind ns n kind) m ≡ with_kind id kind (entry_at ns m)
    here a =
        let same : ((node_at ns m).row.id == id) ≡ true = let i : (node_at ns m).row.id ≡ id = ap (λ (k : ℕ). (node_at ns k).row.id) a ∙ e in grind (arith, nat_tests) in
        let new : node_at (rekind ns n kind) m ≡ record { parent = (node_at ns n).parent; name = (node_at ns n).name; row = record { id = (node_at ns n).row.id; kind = kind } } = ap (λ (k : ℕ). node_at (rekind ns n kind) k) a ∙ get_or-set_same ns n _ blank h in
        (λ i. record { path = path i; row = record { id = (ap (λ (x : Node). x.row.id) new ∙ e) i; kind = (new i).row.kind } })
        ∙ sym (ap (λ (b : Bool). cond b (record { path = path_of ns m; row = record { id = id; kind = kind } }) (entry_at ns m)) same)

    there : (m ≡ n → ⊥) → entry_at (rekind ns n kind) m ≡ with_kind id kind (entry_at ns m)
    there a =
        let apart : (node_at ns m).row.id ≡ id → ⊥ = λ f. a (one 0 (omega arith) f) in
        let other : ((node_at ns m).row.id == id) ≡ false = grind (arith, nat_tests) in
        let old : node_at (rekind ns n kind) m ≡ node_at ns m = get_or-set_other ns n m _ blank a in
        (λ i. record { path = path i; row = (old i).row }) ∙ sym (ap (λ (b : Bool). cond b (record { path = path_of ns m; row = record { id = id; kind = kind } }) (entry_at ns m)) other)

pub set-tree : (ns : List Node) (order : List ℕ) (ids : ℕ → Option ℕ) (id n : ℕ) (kind : Kind) → IsTree ns order ids → ids id ≡ Some n → is_dir kind ≡ is_dir (node_at ns n).row.kind → (n < length ns) × IsTree (rekind ns n kind) order ids × (rows_of (rekind ns n kind) order ≡ set_kind (rows_of ns order) id kind)
set-tree ns order ids id n kind t e same =
    let below : n < length ns = id-below ns order ids id n t e in
    let w = t.stands id n e in (
      below,
      tree-shape ns (rekind ns n kind) (shape-rekind ns n kind below) (dirs-rekind ns n kind below same) order ids t,
      rows-rekind ns n id kind below w.3 order (λ k b f. let g : ids id ≡ Some (get_or order k 0) = subst (λ (i : ℕ). ids i ≡ Some (get_or order k 0)) f (t.named k b) in cc),
    )
