-- A set of keys, seen as the list of their bytes.
use Rattle.std.proofs.Common.{◌≡◌, ℕ, List, [], ◌∷◌, refl, ap, sym, ◌∙◌, Bool, true, false, ◌||◌, map, Ordering, Less, Equal, Greater}
use Rattle.std.specs.List.{list_any}
use Rattle.std.specs.Str.{bytes_eq}
use Rattle.std.specs.Ordering.{is_eq, nat_cmp, match_ordering}
use Rattle.std.specs.Cmp.Lexicographic.{slice_cmp}
use Rattle.std.specs.BTreeMap.{is_at}
use Rattle.std.specs.BTreeSet.{insert_key}
use Rattle.std.proofs.lemmas.Map.Text.{is_eq-slice_cmp}
use Rattle.std.proofs.lemmas.Slice.Eq.{bytes_eq-Decides}
use Rattle.prop_text.specs.Properties.{is_among}

abbrev pub by_bytes : {K : Type 0} → (K → List ℕ) → K → K → Ordering
by_bytes f x y = slice_cmp nat_cmp (f x) (f y)

pub has_bytes : {K : Type 0} (f : K → List ℕ) (bytes : List ℕ) (ks : List K) → list_any (is_at (λ k. slice_cmp nat_cmp bytes (f k))) ks ≡ is_among bytes (map f ks)
has_bytes f bytes [] = refl
has_bytes f bytes (y ∷ ys) = ap (λ t. t || list_any (is_at (λ k. slice_cmp nat_cmp bytes (f k))) ys) (is_eq-slice_cmp bytes (f y)) ∙ ap (λ t. bytes_eq bytes (f y) || t) (has_bytes f bytes ys)

again : (a b : Bool) → (a || b) ≡ (a || (a || b))
again true b = refl
again false b = refl

swapped : (a b c : Bool) → (a || (b || c)) ≡ (b || (a || c))
swapped true true c = refl
swapped true false c = refl
swapped false true c = refl
swapped false false c = refl

put_by : {K : Type 0} (f : K → List ℕ) (k y : K) (ys put : List K) (q : List ℕ) (o : Ordering) → o ≡ by_bytes f k y → is_among q (map f put) ≡ (bytes_eq q (f k) || is_among q (map f ys)) → is_among q (map f (match_ordering o (k ∷ y ∷ ys) (y ∷ ys) (y ∷ put))) ≡ (bytes_eq q (f k) || is_among q (map f (y ∷ ys)))
put_by f k y ys put q Less is more = refl
put_by f k y ys put q Equal is more =
    let found : true ≡ bytes_eq (f k) (f y) = ap is_eq is ∙ is_eq-slice_cmp (f k) (f y) in
    let same : f k ≡ f y = (bytes_eq-Decides (f k) (f y)).0 (sym found) in
    again (bytes_eq q (f y)) (is_among q (map f ys)) ∙ ap (λ bytes. bytes_eq q bytes || (bytes_eq q (f y) || is_among q (map f ys))) (sym same)
put_by f k y ys put q Greater is more = ap (λ t. bytes_eq q (f y) || t) more ∙ swapped (bytes_eq q (f y)) (bytes_eq q (f k)) (is_among q (map f ys))

pub put_bytes : {K : Type 0} (f : K → List ℕ) (k : K) (ks : List K) (q : List ℕ) → is_among q (map f (insert_key (by_bytes f) ks k)) ≡ (bytes_eq q (f k) || is_among q (map f ks))
put_bytes f k [] q = refl
put_bytes f k (y ∷ ys) q = put_by f k y ys (insert_key (by_bytes f) ys k) q (by_bytes f k y) refl (put_bytes f k ys q)
