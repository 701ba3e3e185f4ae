-- Maps with names as keys, seen as lists of names and values.
use Rattle.std.proofs.Common.{◌≡◌, ℕ, List, [], ◌∷◌, refl, ap, sym, ◌∙◌, Bool, true, false, cond, map, Some, Ordering, Less, Equal, Greater}
use Rattle.std.specs.Str.{bytes_eq}
use Rattle.std.specs.Ordering.{is_eq, nat_cmp, match_ordering}
use Rattle.std.specs.Cmp.Lexicographic.{slice_cmp}
use Rattle.std.specs.BTreeMap.{insert_entry, is_at}
use Rattle.std.specs.Map.{lookup, remove_entry}
use Rattle.std.proofs.lemmas.Map.Text.{is_eq-slice_cmp}
use Rattle.std.proofs.lemmas.Slice.Eq.{bytes_eq-Decides}

-- the entries, with the bytes of their keys
abbrev pub by_name : {K X : Type 0} → (K → List ℕ) → List (K × X) → List (List ℕ × X)
by_name f es = map (λ e. (f e.0, e.1)) es

pub look : {K X : Type 0} (f : K → List ℕ) (name : List ℕ) (es : List (K × X)) → lookup (is_at (λ k. slice_cmp nat_cmp name (f k))) es ≡ lookup (bytes_eq name) (by_name f es)
look f name [] = refl
look f name (e ∷ es) =
    ap (λ t. cond t (Some e.1) (lookup (is_at (λ k. slice_cmp nat_cmp name (f k))) es)) (is_eq-slice_cmp name (f e.0))
    ∙ ap (λ rest. cond (bytes_eq name (f e.0)) (Some e.1) rest) (look f name es)

cond_again : {X : Type 0} (b : Bool) (x y z : X) → cond b x z ≡ cond b x (cond b y z)
cond_again true x y z = refl
cond_again false x y z = refl

cond_turned : {X : Type 0} (b c : Bool) (x y z : X) → (b ≡ true → c ≡ true → ⊥) → cond b x (cond c y z) ≡ cond c y (cond b x z)
cond_turned true true x y z apart = absurd (apart refl refl)
cond_turned true false x y z apart = refl
cond_turned false true x y z apart = refl
cond_turned false false x y z apart = refl

put_by : {K X : Type 0} (f : K → List ℕ) (k : K) (v : X) (e : K × X) (es put : List (K × X)) (q : List ℕ) (o : Ordering) → o ≡ slice_cmp nat_cmp (f k) (f e.0) → lookup (bytes_eq q) (by_name f put) ≡ cond (bytes_eq q (f k)) (Some v) (lookup (bytes_eq q) (by_name f es)) → lookup (bytes_eq q) (by_name f (match_ordering o ((k, v) ∷ e ∷ es) ((e.0, v) ∷ es) (e ∷ put))) ≡ cond (bytes_eq q (f k)) (Some v) (lookup (bytes_eq q) (by_name f (e ∷ es)))
put_by f k v e es put q Less is more = refl
put_by f k v e es put q Equal is more =
    let found : true ≡ bytes_eq (f k) (f e.0) = ap is_eq is ∙ is_eq-slice_cmp (f k) (f e.0) in
    let same : f k ≡ f e.0 = (bytes_eq-Decides (f k) (f e.0)).0 (sym found) in
    let rest = lookup (bytes_eq q) (by_name f es) in
    cond_again (bytes_eq q (f e.0)) (Some v) (Some e.1) rest
    ∙ ap (λ name. cond (bytes_eq q name) (Some v) (cond (bytes_eq q (f e.0)) (Some e.1) rest)) (sym same)
put_by f k v e es put q Greater is more =
    let other : false ≡ bytes_eq (f k) (f e.0) = ap is_eq is ∙ is_eq-slice_cmp (f k) (f e.0) in
    let apart : bytes_eq q (f e.0) ≡ true → bytes_eq q (f k) ≡ true → ⊥ = λ at_e at_k.
    let same : f k ≡ f e.0 = sym ((bytes_eq-Decides q (f k)).0 at_k) ∙ (bytes_eq-Decides q (f e.0)).0 at_e in
    let found : bytes_eq (f k) (f e.0) ≡ true = (bytes_eq-Decides (f k) (f e.0)).1 same in
    cc in
    ap (λ rest. cond (bytes_eq q (f e.0)) (Some e.1) rest) more
    ∙ cond_turned (bytes_eq q (f e.0)) (bytes_eq q (f k)) (Some e.1) (Some v) (lookup (bytes_eq q) (by_name f es)) apart

pub put_at : {K X : Type 0} (f : K → List ℕ) (k : K) (v : X) (es : List (K × X)) (q : List ℕ) → lookup (bytes_eq q) (by_name f (insert_entry (λ x y. slice_cmp nat_cmp (f x) (f y)) es k v)) ≡ cond (bytes_eq q (f k)) (Some v) (lookup (bytes_eq q) (by_name f es))
put_at f k v [] q = refl
put_at f k v (e ∷ es) q = put_by f k v e es (insert_entry (λ x y. slice_cmp nat_cmp (f x) (f y)) es k v) q (slice_cmp nat_cmp (f k) (f e.0)) refl (put_at f k v es q)

apart_from : (q name other : List ℕ) → bytes_eq q name ≡ false → bytes_eq name other ≡ true → bytes_eq q other ≡ false
apart_from q name other apart same = ap (bytes_eq q) (sym ((bytes_eq-Decides name other).0 same)) ∙ apart

removed_by : {K X : Type 0} (f : K → List ℕ) (name q : List ℕ) (e : K × X) (es rest : List (K × X)) (b : Bool) → b ≡ bytes_eq name (f e.0) → bytes_eq q name ≡ false → lookup (bytes_eq q) (by_name f rest) ≡ lookup (bytes_eq q) (by_name f es) → lookup (bytes_eq q) (by_name f (cond b es (e ∷ rest))) ≡ lookup (bytes_eq q) (by_name f (e ∷ es))
removed_by f name q e es rest true is apart same = ap (λ t. cond t (Some e.1) (lookup (bytes_eq q) (by_name f es))) (sym (apart_from q name (f e.0) apart (sym is)))
removed_by f name q e es rest false is apart same = ap (λ found. cond (bytes_eq q (f e.0)) (Some e.1) found) same

pub removed : {K X : Type 0} (f : K → List ℕ) (name q : List ℕ) (es : List (K × X)) → bytes_eq q name ≡ false → lookup (bytes_eq q) (by_name f (remove_entry (is_at (λ k. slice_cmp nat_cmp name (f k))) es)) ≡ lookup (bytes_eq q) (by_name f es)
removed f name q [] apart = refl
removed f name q (e ∷ es) apart =
    removed_by f name q e es (remove_entry (is_at (λ k. slice_cmp nat_cmp name (f k))) es) (is_eq (slice_cmp nat_cmp name (f e.0))) (is_eq-slice_cmp name (f e.0)) apart (removed f name q es apart)
