-- Rows that are moved, in path order.
use Rattle.std.proofs.Common.{◌≡◌, ℕ, Bool, true, false, cond, List, [], ◌∷◌, ◌++◌, length, drop, refl, sym, ap, ◌∙◌, subst, map, append_assoc}
use Rattle.std.proofs.lemmas.List.{map-append}
use Rattle.std.specs.Prelude.{⊤}
use Rattle.std.specs.List.{AllByRecursion}
use Rattle.name_calls.specs.Paths.{is_before, is_prefix}
use Rattle.inode_tree.specs.Rows.{AllAfter, Entry, IsRising, put}
use Rattle.inode_tree.specs.Moves.{in_order, moved, moved_path}
use Rattle.inode_tree.proofs.MovedPaths.{after-more, before-append, before-more, path-moves, path-stays, prefix-split}
use Rattle.inode_tree.proofs.Puts.{not-both}
use Rattle.inode_tree.proofs.Ranks.{before-trans}

-- each of the rows comes before each of the others
abbrev pub Precede : List Entry → List Entry → Type 0
Precede [] ys = ⊤
Precede (x ∷ xs) ys = AllAfter x.path ys × Precede xs ys

pub after-append : (p : List (List ℕ)) (xs ys : List Entry) → AllAfter p xs → AllAfter p ys → AllAfter p (xs ++ ys)
after-append p [] ys a b = b
after-append p (x ∷ xs) ys a b = (a.0, after-append p xs ys a.1 b)

pub after-parts : (p : List (List ℕ)) (xs ys : List Entry) → AllAfter p (xs ++ ys) → AllAfter p xs × AllAfter p ys
after-parts p [] ys a = (tt, a)
after-parts p (x ∷ xs) ys a = let r = after-parts p xs ys a.1 in ((a.0, r.0), r.1)

pub rising-append : (xs ys : List Entry) → IsRising xs → IsRising ys → Precede xs ys → IsRising (xs ++ ys)
rising-append [] ys r s p = s
rising-append (x ∷ xs) ys r s p = (after-append x.path xs ys r.0 p.0, rising-append xs ys r.1 s p.1)

pub rising-parts : (xs ys : List Entry) → IsRising (xs ++ ys) → IsRising xs × IsRising ys × Precede xs ys
rising-parts [] ys r = (tt, r, tt)
rising-parts (x ∷ xs) ys r =
    let a = after-parts x.path xs ys r.0 in
    let i = rising-parts xs ys r.1 in
    ((a.0, i.0), i.1, (a.1, i.2))

-- a part taken out
pub rising-without : (xs ys zs : List Entry) → IsRising (xs ++ (ys ++ zs)) → IsRising (xs ++ zs)
rising-without [] ys zs r = (rising-parts ys zs r).1
rising-without (x ∷ xs) ys zs r =
    let a = after-parts x.path xs (ys ++ zs) r.0 in
    (after-append x.path xs zs a.0 (after-parts x.path ys zs a.1).1, rising-without xs ys zs r.1)

-- rows in path order stay as they are
pub order-is : (es : List Entry) → IsRising es → in_order es ≡ es
order-is [] r = refl
order-is (e ∷ es) r = ap (put e) (order-is es r.1) ∙ front e es r.0
  where
    front : (e : Entry) (es : List Entry) → AllAfter e.path es → put e es ≡ e ∷ es
    front e [] a = refl
    front e (x ∷ es) a = ap (λ (t : Bool). cond t (e ∷ x ∷ es) (x ∷ put e es)) a.0

-- two rows may be put in in either order
put-swap : (e f : Entry) (es : List Entry) → is_before e.path f.path ≡ true → put e (put f es) ≡ put f (put e es)
put-swap e f es h = go es
  where
    off : is_before f.path e.path ≡ false
    off = by (is_before f.path e.path) refl
      where
        by : (t : Bool) → is_before f.path e.path ≡ t → t ≡ false
        by true k = absurd (not-both e.path f.path h k)
        by false k = refl

    go : (es : List Entry) → put e (put f es) ≡ put f (put e es)
    go [] = ap (λ (t : Bool). cond t (e ∷ f ∷ []) (f ∷ e ∷ [])) h ∙ sym (ap (λ (t : Bool). cond t (f ∷ e ∷ []) (e ∷ f ∷ [])) off)
    go (x ∷ es) = two (is_before e.path x.path) refl (is_before f.path x.path) refl (go es)
      where
        two : (s : Bool) → is_before e.path x.path ≡ s → (t : Bool) → is_before f.path x.path ≡ t → put e (put f es) ≡ put f (put e es)
            → put e (cond t (f ∷ x ∷ es) (x ∷ put f es)) ≡ put f (cond s (e ∷ x ∷ es) (x ∷ put e es))
        two true a true b ih =
            ap (λ (t : Bool). cond t (e ∷ f ∷ x ∷ es) (f ∷ put e (x ∷ es))) h
            ∙ sym (ap (λ (t : Bool). cond t (f ∷ e ∷ x ∷ es) (e ∷ put f (x ∷ es))) off ∙ ap (λ (t : Bool). e ∷ cond t (f ∷ x ∷ es) (x ∷ put f es)) b)
        two true a false b ih =
            ap (λ (t : Bool). cond t (e ∷ x ∷ put f es) (x ∷ put e (put f es))) a
            ∙ sym (ap (λ (t : Bool). cond t (f ∷ e ∷ x ∷ es) (e ∷ put f (x ∷ es))) off ∙ ap (λ (t : Bool). e ∷ cond t (f ∷ x ∷ es) (x ∷ put f es)) b)
        two false a true b ih = let g = before-trans e.path f.path x.path h b in cc
        two false a false b ih =
            ap (λ (t : Bool). cond t (e ∷ x ∷ put f es) (x ∷ put e (put f es))) a ∙ ap (λ (ys : List Entry). x ∷ ys) ih
            ∙ sym (ap (λ (t : Bool). cond t (f ∷ x ∷ put e es) (x ∷ put f (put e es))) b)

abbrev puts : List Entry → List Entry → List Entry
puts [] zs = zs
puts (x ∷ xs) zs = put x (puts xs zs)

order-append : (xs ys : List Entry) → in_order (xs ++ ys) ≡ puts xs (in_order ys)
order-append [] ys = refl
order-append (x ∷ xs) ys = ap (put x) (order-append xs ys)

put-through : (e : Entry) (xs zs : List Entry) → AllAfter e.path xs → puts xs (put e zs) ≡ put e (puts xs zs)
put-through e [] zs a = refl
put-through e (x ∷ xs) zs a = ap (put x) (put-through e xs zs a.1) ∙ sym (put-swap e x (puts xs zs) a.0)

puts-swap : (xs ys zs : List Entry) → Precede ys xs → puts xs (puts ys zs) ≡ puts ys (puts xs zs)
puts-swap xs [] zs p = refl
puts-swap xs (y ∷ ys) zs p = put-through y xs (puts ys zs) p.0 ∙ ap (put y) (puts-swap xs ys zs p.1)

precede-front : (xs ys zs : List Entry) → Precede xs (ys ++ zs) → Precede xs ys
precede-front [] ys zs p = tt
precede-front (x ∷ xs) ys zs p = ((after-parts x.path ys zs p.0).0, precede-front xs ys zs p.1)

-- two runs that change places are in order then
pub order-swapped : (ws bs cs ds : List Entry) → IsRising (ws ++ (cs ++ (bs ++ ds))) → in_order (ws ++ (bs ++ (cs ++ ds))) ≡ ws ++ (cs ++ (bs ++ ds))
order-swapped ws bs cs ds r =
    let inner = (rising-parts ws (cs ++ (bs ++ ds)) r).1 in
    let p = precede-front cs bs ds (rising-parts cs (bs ++ ds) inner).2 in
    order-append ws (bs ++ (cs ++ ds))
    ∙ ap (puts ws) (order-append bs (cs ++ ds) ∙ ap (puts bs) (order-append cs ds) ∙ puts-swap bs cs (in_order ds) p ∙ ap (puts cs) (sym (order-append bs ds)) ∙ sym (order-append cs (bs ++ ds)))
    ∙ sym (order-append ws (cs ++ (bs ++ ds)))
    ∙ order-is (ws ++ (cs ++ (bs ++ ds))) r

-- rows about the place of a path
abbrev pub IsFront : List (List ℕ) → Entry → Type 0
IsFront q e = is_before e.path q ≡ true

abbrev pub IsBack : List (List ℕ) → Entry → Type 0
IsBack q e = (is_before e.path q ≡ false) × (is_prefix q e.path ≡ false)

abbrev pub IsBelow : List (List ℕ) → Entry → Type 0
IsBelow p e = is_prefix p e.path ≡ true

abbrev pub IsOff : List (List ℕ) → Entry → Type 0
IsOff p e = is_prefix p e.path ≡ false

module _ (p q : List (List ℕ)) where
  pub stays : (es : List Entry) → AllByRecursion (IsOff p) es → map (moved p q) es ≡ es
  stays [] a = refl
  stays (e ∷ es) a =
      let f : moved_path p q e.path ≡ e.path = path-stays p q e.path a.0 in
      let g : map (moved p q) es ≡ es = stays es a.1 in
      λ i. record e { path = f i } ∷ g i

  -- paths below p compare as they did
  before-moved : (r s : List (List ℕ)) → is_prefix p r ≡ true → is_prefix p s ≡ true → is_before r s ≡ true → is_before (moved_path p q r) (moved_path p q s) ≡ true
  before-moved r s h k b =
      ap (λ (x : List (List ℕ)). is_before x (moved_path p q s)) (path-moves p q r h)
      ∙ ap (is_before (q ++ drop (length p) r)) (path-moves p q s k)
      ∙ before-append q (drop (length p) r) (drop (length p) s)
      ∙ sym (before-append p (drop (length p) r) (drop (length p) s))
      ∙ ap (λ (x : List (List ℕ)). is_before x (p ++ drop (length p) s)) (sym (prefix-split p r h))
      ∙ ap (is_before r) (sym (prefix-split p s k)) ∙ b

  rising-moved : (es : List Entry) → AllByRecursion (IsBelow p) es → IsRising es → IsRising (map (moved p q) es)
  rising-moved [] a r = tt
  rising-moved (e ∷ es) a r = (after e.path es a.0 a.1 r.0, rising-moved es a.1 r.1)
    where
      after : (r : List (List ℕ)) (es : List Entry) → is_prefix p r ≡ true → AllByRecursion (IsBelow p) es → AllAfter r es → AllAfter (moved_path p q r) (map (moved p q) es)
      after r [] h a b = tt
      after r (x ∷ es) h a b = (before-moved r x.path h a.0 b.0, after r es h a.1 b.1)

  front-after : (r : List (List ℕ)) (ms : List Entry) → is_before r q ≡ true → AllByRecursion (IsBelow p) ms → AllAfter r (map (moved p q) ms)
  front-after r [] h a = tt
  front-after r (m ∷ ms) h a = (ap (is_before r) (path-moves p q m.path a.0) ∙ before-more r q (drop (length p) m.path) h, front-after r ms h a.1)

  front-precede : (ls ms : List Entry) → AllByRecursion (IsFront q) ls → AllByRecursion (IsBelow p) ms → Precede ls (map (moved p q) ms)
  front-precede [] ms a b = tt
  front-precede (l ∷ ls) ms a b = (front-after l.path ms a.0 b, front-precede ls ms a.1 b)

  back-after : (m : Entry) (rs : List Entry) → is_prefix p m.path ≡ true → AllByRecursion (IsBack q) rs → AllAfter (moved_path p q m.path) rs
  back-after m [] h a = tt
  back-after m (r ∷ rs) h a =
      (ap (λ (x : List (List ℕ)). is_before x r.path) (path-moves p q m.path h) ∙ after-more q r.path (drop (length p) m.path) a.0.0 a.0.1, back-after m rs h a.1)

  back-precede : (ms rs : List Entry) → AllByRecursion (IsBelow p) ms → AllByRecursion (IsBack q) rs → Precede (map (moved p q) ms) rs
  back-precede [] rs a b = tt
  back-precede (m ∷ ms) rs a b = (back-after m rs a.0 b, back-precede ms rs a.1 b)

  precede-append : (xs ys zs : List Entry) → Precede xs ys → Precede xs zs → Precede xs (ys ++ zs)
  precede-append [] ys zs a b = tt
  precede-append (x ∷ xs) ys zs a b = (after-append x.path ys zs a.0 b.0, precede-append xs ys zs a.1 b.1)

  -- the moved rows at their new place
  pub placed : (ls ms rs : List Entry) → IsRising (ls ++ rs) → IsRising ms → AllByRecursion (IsFront q) ls → AllByRecursion (IsBelow p) ms → AllByRecursion (IsBack q) rs → IsRising (ls ++ (map (moved p q) ms ++ rs))
  placed ls ms rs r s a b d =
      let w = rising-parts ls rs r in
      rising-append ls (map (moved p q) ms ++ rs) w.0 (rising-append (map (moved p q) ms) rs (rising-moved ms b s) w.1 (back-precede ms rs b d))
      (precede-append ls (map (moved p q) ms) rs (front-precede ls ms a b) w.2)

  abbrev move : Entry → Entry
  move = moved p q

  -- a run that moves to an earlier place
  pub run-back : (ls gs ms ds : List Entry) → IsRising (ls ++ (gs ++ (ms ++ ds))) → AllByRecursion (IsFront q) ls → AllByRecursion (IsBelow p) ms → AllByRecursion (IsBack q) (gs ++ ds) → AllByRecursion (IsOff p) ls → AllByRecursion (IsOff p) (gs ++ ds) → IsRising (map (moved p q) (ls ++ (ms ++ (gs ++ ds))))
  run-back ls gs ms ds r a b d u v =
      let inner = (rising-parts gs (ms ++ ds) (rising-parts ls (gs ++ (ms ++ ds)) r).1).1 in
      let kept : IsRising (ls ++ (gs ++ ds)) = subst IsRising (append_assoc ls gs ds) (rising-without (ls ++ gs) ms ds (subst IsRising (sym (append_assoc ls gs (ms ++ ds))) r)) in
      subst IsRising (sym (
      map-append move ls (ms ++ (gs ++ ds))
      ∙ ap (λ (xs : List Entry). xs ++ map move (ms ++ (gs ++ ds))) (stays ls u)
      ∙ ap (λ (xs : List Entry). ls ++ xs) (map-append move ms (gs ++ ds))
      ∙ ap (λ (xs : List Entry). ls ++ (map move ms ++ xs)) (stays (gs ++ ds) v)))
      (placed ls ms (gs ++ ds) kept (rising-parts ms ds inner).0 a b d)

  -- a run that moves to a later place
  pub run-on : (ls ms gs ds : List Entry) → IsRising (ls ++ (ms ++ (gs ++ ds))) → AllByRecursion (IsFront q) (ls ++ gs) → AllByRecursion (IsBelow p) ms → AllByRecursion (IsBack q) ds → AllByRecursion (IsOff p) ls → AllByRecursion (IsOff p) gs → AllByRecursion (IsOff p) ds → IsRising (map (moved p q) (ls ++ (gs ++ (ms ++ ds))))
  run-on ls ms gs ds r a b d u v w =
      let inner = (rising-parts ls (ms ++ (gs ++ ds)) r).1 in
      let kept : IsRising ((ls ++ gs) ++ ds) = subst IsRising (sym (append_assoc ls gs ds)) (rising-without ls ms (gs ++ ds) r) in
      subst IsRising (sym (
      map-append move ls (gs ++ (ms ++ ds))
      ∙ ap (λ (xs : List Entry). xs ++ map move (gs ++ (ms ++ ds))) (stays ls u)
      ∙ ap (λ (xs : List Entry). ls ++ xs) (map-append move gs (ms ++ ds))
      ∙ ap (λ (xs : List Entry). ls ++ (xs ++ map move (ms ++ ds))) (stays gs v)
      ∙ ap (λ (xs : List Entry). ls ++ (gs ++ xs)) (map-append move ms ds)
      ∙ ap (λ (xs : List Entry). ls ++ (gs ++ (map move ms ++ xs))) (stays ds w)
      ∙ sym (append_assoc ls gs (map move ms ++ ds))))
      (placed (ls ++ gs) ms ds kept (rising-parts ms (gs ++ ds) inner).0 a b d)
