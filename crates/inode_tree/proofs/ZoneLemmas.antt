-- The zone of a node, by climbing.
use Rattle.std.proofs.Common.{◌≡◌, ℕ, ◌+◌, ◌-◌, ◌<◌, ◌≤◌, zero, suc, Bool, true, false, cond, ◌&&◌, ◌||◌, List, [], ◌∷◌, ◌++◌, length, get_or, take, Option, Some, None, refl, sym, ap, ◌∙◌, subst, arith}
use Rattle.std.specs.Prelude.{nat_lt}
use Rattle.std.specs.Str.{bytes_eq}
use Rattle.std.proofs.lemmas.Slice.Eq.{bytes_eq-Decides}
use Rattle.std.proofs.lemmas.List.{take_more}
use Rattle.std.proofs.lemmas.Bool.Decides.{nat_tests}
use Rattle.std.proofs.lemmas.Bool.{and_parts}
use Rattle.name_calls.specs.Paths.{is_before, is_prefix, same_path}
use Rattle.inode_tree.specs.Rows.{zone_of, longer, is_marked}
use Rattle.inode_tree.specs.declared.rows.Node.{Node}
use Rattle.inode_tree.specs.Rows.{Entry}
use Rattle.inode_tree.specs.Arena.{IsTree, AllAfter, IsRising, node_at, rows_of, path_of, entry_at, number_of, IsLive}
use Rattle.inode_tree.proofs.Asked.{none-at}
use Rattle.inode_tree.proofs.Ups.{path-root}
use Rattle.inode_tree.proofs.Ranks.{within-at}
use Rattle.inode_tree.proofs.Seeks.{same-is, not-before-itself}

spread : (b u v : Bool) → (b && (u || v)) ≡ ((b && u) || (b && v))
spread true u v = refl
spread false u v = refl

pub prefix-snoc : (a p : List (List ℕ)) (x : List ℕ) → is_prefix a (p ++ x ∷ []) ≡ (is_prefix a p || same_path a (p ++ x ∷ []))
prefix-snoc [] p x = refl
prefix-snoc (y ∷ []) [] x = refl
prefix-snoc (y ∷ z ∷ a) [] x = refl
prefix-snoc (y ∷ a) (z ∷ p) x = ap (λ (b : Bool). bytes_eq y z && b) (prefix-snoc a p x) ∙ spread (bytes_eq y z) (is_prefix a p) (same_path a (p ++ x ∷ []))

pub prefix-length : (a p : List (List ℕ)) → is_prefix a p ≡ true → length a ≤ length p
prefix-length [] p h = omega arith
prefix-length (x ∷ a) [] h = cc
prefix-length (x ∷ a) (y ∷ p) h = let i = prefix-length a p (and_parts _ _ h).1 in omega arith

pub prefix-whole : (a p : List (List ℕ)) → is_prefix a p ≡ true → length p ≤ length a → a ≡ p
prefix-whole [] [] h l = refl
prefix-whole [] (y ∷ p) h l = absurd (omega arith)
prefix-whole (x ∷ a) [] h l = cc
prefix-whole (x ∷ a) (y ∷ p) h l =
    let parts = and_parts (bytes_eq x y) (is_prefix a p) h in
    let e : x ≡ y = (bytes_eq-Decides x y).0 parts.0 in
    let f : a ≡ p = prefix-whole a p parts.1 (omega arith) in cc

pub prefix-itself : (p : List (List ℕ)) → is_prefix p p ≡ true
prefix-itself [] = refl
prefix-itself (x ∷ p) = ap (λ (b : Bool). b && is_prefix p p) ((bytes_eq-Decides x x).1 refl) ∙ prefix-itself p

pub zone-short : (es : List Entry) (p : List (List ℕ)) (f : Entry) → zone_of es p ≡ Some f → length f.path ≤ length p
zone-short [] p f h = cc
zone-short (e ∷ es) p f h = go (is_marked e.row && is_prefix e.path p) refl (zone_of es p) refl (zone-short es p) h
  where
    mine : (is_marked e.row && is_prefix e.path p) ≡ true → length e.path ≤ length p
    mine t = prefix-length e.path p (and_parts (is_marked e.row) (is_prefix e.path p) t).1

    go : (t : Bool) → (is_marked e.row && is_prefix e.path p) ≡ t → (o : Option Entry) → zone_of es p ≡ o → ((g : Entry) → zone_of es p ≡ Some g → length g.path ≤ length p) → cond t (Some (longer e o)) o ≡ Some f → length f.path ≤ length p
    go true t None eo ih k = let g : e ≡ f = cc in subst (λ (x : Entry). length x.path ≤ length p) g (mine t)
    go true t (Some g) eo ih k = two (nat_lt (length e.path) (length g.path)) k
      where
        two : (b : Bool) → Some (cond b g e) ≡ Some f → length f.path ≤ length p
        two true k = let g2 : g ≡ f = cc in subst (λ (x : Entry). length x.path ≤ length p) g2 (ih g eo)
        two false k = let g2 : e ≡ f = cc in subst (λ (x : Entry). length x.path ≤ length p) g2 (mine t)
    go false t o eo ih k = ih f (eo ∙ k)

-- no marked row is at q: its zone is that of the directory
zone-above : (ns : List Node) (order : List ℕ) (p : List (List ℕ)) (x : List ℕ) → ((k : ℕ) → k < length order → same_path (path_of ns (get_or order k 0)) (p ++ x ∷ []) ≡ true → is_marked (node_at ns (get_or order k 0)).row ≡ false)
    → zone_of (rows_of ns order) (p ++ x ∷ []) ≡ zone_of (rows_of ns order) p
zone-above ns [] p x h = refl
zone-above ns (n ∷ order) p x h = go (is_marked (node_at ns n).row) (is_prefix (path_of ns n) p) (same_path (path_of ns n) (p ++ x ∷ [])) refl (h 0 (omega arith)) (prefix-snoc (path_of ns n) p x) (zone-above ns order p x (λ k b. h (suc k) (omega arith)))
  where
    go : (m a s : Bool) → is_marked (node_at ns n).row ≡ m → (s ≡ true → is_marked (node_at ns n).row ≡ false) → is_prefix (path_of ns n) (p ++ x ∷ []) ≡ (a || s) → zone_of (rows_of ns order) (p ++ x ∷ []) ≡ zone_of (rows_of ns order) p
        → cond (is_marked (node_at ns n).row && is_prefix (path_of ns n) (p ++ x ∷ [])) (Some (longer (entry_at ns n) (zone_of (rows_of ns order) (p ++ x ∷ [])))) (zone_of (rows_of ns order) (p ++ x ∷ []))
        ≡ cond (is_marked (node_at ns n).row && a) (Some (longer (entry_at ns n) (zone_of (rows_of ns order) p))) (zone_of (rows_of ns order) p)
    go false a s em hs ep ih = rw (em, ih) refl
    go true a true em hs ep ih = let f : is_marked (node_at ns n).row ≡ false = hs refl in cc
    go true true false em hs ep ih = rw (em, ep, ih) refl
    go true false false em hs ep ih = rw (em, ep, ih) refl

pub rising-before : (ns : List Node) (n : ℕ) (order : List ℕ) (k : ℕ) → AllAfter (path_of ns n) (rows_of ns order) → k < length order → is_before (path_of ns n) (path_of ns (get_or order k 0)) ≡ true
rising-before ns n [] k a h = absurd (omega arith)
rising-before ns n (m ∷ order) zero a h = a.0
rising-before ns n (m ∷ order) (suc k) a h = rising-before ns n order k a.1 (omega arith)

-- a marked row is its own zone
zone-here : (ns : List Node) (order : List ℕ) (p : List (List ℕ)) (k : ℕ) → IsRising (rows_of ns order) → k < length order → path_of ns (get_or order k 0) ≡ p → is_marked (node_at ns (get_or order k 0)).row ≡ true → zone_of (rows_of ns order) p ≡ Some (entry_at ns (get_or order k 0))
zone-here ns [] p k r h e m = absurd (omega arith)
zone-here ns (n ∷ order) p zero r h e m = over ∙ longest (zone_of (rows_of ns order) p) (zone-short (rows_of ns order) p)
  where
    same : is_prefix (path_of ns n) p ≡ true
    same = subst (λ (q : List (List ℕ)). is_prefix (path_of ns n) q ≡ true) e (prefix-itself (path_of ns n))

    over : zone_of (rows_of ns (n ∷ order)) p ≡ Some (longer (entry_at ns n) (zone_of (rows_of ns order) p))
    over = rw (m, same) refl

    longest : (o : Option Entry) → ((f : Entry) → o ≡ Some f → length f.path ≤ length p) → Some (longer (entry_at ns n) o) ≡ Some (entry_at ns n)
    longest None s = refl
    longest (Some f) s =
        let g : length f.path ≤ length p = s f refl in
        let l : length (path_of ns n) ≡ length p = ap length e in
        let b : nat_lt (length (path_of ns n)) (length f.path) ≡ false = not-lt (length (path_of ns n)) (length f.path) (omega arith) in
        ap (λ (t : Bool). Some (cond t f (entry_at ns n))) b
      where
        not-lt : (a b : ℕ) → b ≤ a → nat_lt a b ≡ false
        not-lt a b h = grind (arith, nat_tests)
zone-here ns (n ∷ order) p (suc k) r h e m = go (is_marked (node_at ns n).row && is_prefix (path_of ns n) p) refl (zone-here ns order p k r.1 (omega arith) e m)
  where
    go : (t : Bool) → (is_marked (node_at ns n).row && is_prefix (path_of ns n) p) ≡ t → zone_of (rows_of ns order) p ≡ Some (entry_at ns (get_or order k 0))
        → cond t (Some (longer (entry_at ns n) (zone_of (rows_of ns order) p))) (zone_of (rows_of ns order) p) ≡ Some (entry_at ns (get_or order k 0))
    go false t ih = ih
    go true t ih =
        let pre : is_prefix (path_of ns n) p ≡ true = (and_parts _ _ t).1 in
        let bef : is_before (path_of ns n) p ≡ true = subst (λ (q : List (List ℕ)). is_before (path_of ns n) q ≡ true) e (rising-before ns n order k r.0 (omega arith)) in
        let b : nat_lt (length (path_of ns n)) (length (path_of ns (get_or order k 0))) ≡ true = lt-from (path_of ns n) p (path_of ns (get_or order k 0)) e pre bef in
        ap (λ (o : Option Entry). Some (longer (entry_at ns n) o)) ih ∙ ap (λ (u : Bool). Some (cond u (entry_at ns (get_or order k 0)) (entry_at ns n))) b
      where
        is-lt : (a b : ℕ) → (b ≤ a → ⊥) → nat_lt a b ≡ true
        is-lt a b h = grind (arith, nat_tests)

        lt-from : (a p q : List (List ℕ)) → q ≡ p → is_prefix a p ≡ true → is_before a p ≡ true → nat_lt (length a) (length q) ≡ true
        lt-from a p q e pre bef = is-lt (length a) (length q) (λ l.
            let f : a ≡ p = prefix-whole a p pre (let g = ap length e in omega arith) in
            let g : is_before p p ≡ true = subst (λ (u : List (List ℕ)). is_before u p ≡ true) f bef in
            let i = not-before-itself p in cc)

-- live nodes at one path are one
pub live-once : (ns : List Node) (order : List ℕ) (j k : ℕ) → IsRising (rows_of ns order) → j < length order → k < length order → path_of ns (get_or order j 0) ≡ path_of ns (get_or order k 0) → get_or order j 0 ≡ get_or order k 0
live-once ns [] j k r h l e = absurd (omega arith)
live-once ns (n ∷ order) zero zero r h l e = refl
live-once ns (n ∷ order) zero (suc k) r h l e =
    let b : is_before (path_of ns n) (path_of ns n) ≡ true = subst (λ (q : List (List ℕ)). is_before (path_of ns n) q ≡ true) (sym e) (rising-before ns n order k r.0 (omega arith)) in let i = not-before-itself (path_of ns n) in cc
live-once ns (n ∷ order) (suc j) zero r h l e =
    let b : is_before (path_of ns n) (path_of ns n) ≡ true = subst (λ (q : List (List ℕ)). is_before (path_of ns n) q ≡ true) e (rising-before ns n order j r.0 (omega arith)) in let i = not-before-itself (path_of ns n) in cc
live-once ns (n ∷ order) (suc j) (suc k) r h l e = live-once ns order j k r.1 (omega arith) (omega arith) e

-- steps of a climb
pub zone-found : (ns : List Node) (order : List ℕ) (ids : ℕ → Option ℕ) (m : ℕ) → IsTree ns order ids → IsLive order m → is_marked (node_at ns m).row ≡ true → zone_of (rows_of ns order) (path_of ns m) ≡ Some (entry_at ns m)
zone-found ns order ids m t w h =
    zone-here ns order (path_of ns m) w.0 t.rising w.1 (ap (path_of ns) w.2) (ap (λ (j : ℕ). is_marked (node_at ns j).row) w.2 ∙ h) ∙ ap (λ (j : ℕ). Some (entry_at ns j)) w.2

pub zone-climb : (ns : List Node) (order : List ℕ) (ids : ℕ → Option ℕ) (m : ℕ) → IsTree ns order ids → IsLive order m → (m ≡ 0 → ⊥) → is_marked (node_at ns m).row ≡ false → zone_of (rows_of ns order) (path_of ns m) ≡ zone_of (rows_of ns order) (path_of ns (node_at ns m).parent)
zone-climb ns order ids m t w apart h =
    let below : m < length ns = subst (λ (j : ℕ). j < length ns) w.2 (within-at (length ns) order w.0 t.within w.1) in
    let e : path_of ns m ≡ path_of ns (node_at ns m).parent ++ ((node_at ns m).name ∷ []) = t.linked.step m below apart in
    ap (zone_of (rows_of ns order)) e ∙ zone-above ns order (path_of ns (node_at ns m).parent) (node_at ns m).name
    (λ k b s. let f : path_of ns (get_or order k 0) ≡ path_of ns (get_or order w.0 0) = same-is _ _ s ∙ sym e ∙ ap (path_of ns) (sym w.2) in
    ap (λ (j : ℕ). is_marked (node_at ns j).row) (live-once ns order k w.0 t.rising b w.1 f ∙ w.2) ∙ h)

pub live-parent : (ns : List Node) (order : List ℕ) (ids : ℕ → Option ℕ) (m : ℕ) → IsTree ns order ids → IsLive order m → IsLive order (node_at ns m).parent
live-parent ns order ids m t w = let v = t.housed w.0 w.1 in (v.0, v.1, v.2 ∙ ap (λ (j : ℕ). (node_at ns j).parent) w.2)

zone-none : (ns : List Node) (order : List ℕ) → ((k : ℕ) → k < length order → is_prefix (path_of ns (get_or order k 0)) [] ≡ true → is_marked (node_at ns (get_or order k 0)).row ≡ false) → zone_of (rows_of ns order) [] ≡ None
zone-none ns [] h = refl
zone-none ns (n ∷ order) h = go (is_marked (node_at ns n).row) (is_prefix (path_of ns n) []) refl (h 0 (omega arith)) (zone-none ns order (λ k b. h (suc k) (omega arith)))
  where
    go : (m a : Bool) → is_marked (node_at ns n).row ≡ m → (a ≡ true → is_marked (node_at ns n).row ≡ false) → zone_of (rows_of ns order) [] ≡ None
        → cond (is_marked (node_at ns n).row && a) (Some (longer (entry_at ns n) (zone_of (rows_of ns order) []))) (zone_of (rows_of ns order) []) ≡ None
    go false a e h ih = rw (e, ih) refl
    go true true e h ih = let f : is_marked (node_at ns n).row ≡ false = h refl in cc
    go true false e h ih = rw (e, ih) refl

pub zone-root : (ns : List Node) (order : List ℕ) (ids : ℕ → Option ℕ) → IsTree ns order ids → is_marked (node_at ns 0).row ≡ false → zone_of (rows_of ns order) (path_of ns 0) ≡ None
zone-root ns order ids t h =
    ap (zone_of (rows_of ns order)) (path-root ns) ∙ zone-none ns order (λ k b s.
    let w = t.rooted in
    let e : path_of ns (get_or order k 0) ≡ path_of ns (get_or order w.0 0) = prefix-whole _ [] s (omega arith) ∙ sym (path-root ns) ∙ ap (path_of ns) (sym w.2) in
    ap (λ (j : ℕ). is_marked (node_at ns j).row) (live-once ns order k w.0 t.rising b w.1 e ∙ w.2) ∙ h)

pub below-live : (ns : List Node) (order : List ℕ) (ids : ℕ → Option ℕ) (m : ℕ) → IsTree ns order ids → IsLive order m → m < length ns
below-live ns order ids m t w = subst (λ (j : ℕ). j < length ns) w.2 (within-at (length ns) order w.0 t.within w.1)

-- if no row is at a prefix of a path, the zone is that of the prefix without its last name
pub zone-shorter : (ns : List Node) (order : List ℕ) (p : List (List ℕ)) (u : ℕ) → 0 < u → u ≤ length p → number_of ns order (take u p) ≡ None → zone_of (rows_of ns order) (take (u - 1) p) ≡ zone_of (rows_of ns order) (take u p)
zone-shorter ns order p zero h l e = absurd (omega arith)
zone-shorter ns order p (suc v) h l e =
    let less : suc v - 1 ≡ v = omega arith in
    let cut : take (suc v) p ≡ take v p ++ get_or p v [] ∷ [] = ap (λ (n : ℕ). take n p) (one-more v) ∙ take_more p v [] (omega arith) in
    ap (λ (n : ℕ). zone_of (rows_of ns order) (take n p)) less
    ∙ sym (zone-above ns order (take v p) (get_or p v []) (λ k b s.
    let f : same_path (path_of ns (get_or order k 0)) (take (suc v) p) ≡ true = ap (same_path (path_of ns (get_or order k 0))) cut ∙ s in
    let g = none-at ns order (take (suc v) p) k e b in cc))
    ∙ ap (zone_of (rows_of ns order)) (sym cut)
  where
    one-more : (n : ℕ) → suc n ≡ n + 1
    one-more n = omega arith
