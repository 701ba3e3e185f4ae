-- The entries of a cache after a look-up and after a material is put.
use Rattle.std.proofs.Common.{◌≡◌, ℕ, zero, suc, ◌-◌, ◌==◌, ◌⊎◌, Bool, true, false, cond, List, [], ◌∷◌, take, Contains, Option, None, Some, IfSome, refl, sym, subst, inl, inr}
use Rattle.std.specs.Prelude.{OnErr, OnOk, Result, Ok, Err}
use Rattle.std.specs.List.{AllByRecursion}
use Rattle.std.specs.Option.{option_map_or}
use Rattle.std.specs.Map.{lookup, lookup_entry, remove_entry}
use Rattle.std.proofs.lemmas.Bool.Decides.{Decides-eqb}
use Rattle.std.proofs.lemmas.Bool.{and_parts}
use Rattle.hk_base.specs.declared.names.Dek.{Dek}
use Rattle.lru.specs.LruCache.{LruCache, lru_cache, promoted, put_entries}
use Rattle.lru.proofs.CallerLemmas.{Contains-put_entries}
use Rattle.key_index.specs.declared.cache.MaterialKey.{MaterialKey}
use Rattle.key_index.specs.Cache.{AreCached, IsMaterialOf, IsOlder, is_key}
use Rattle.key_index.specs.Index.{Index, Materials}

abbrev Entry : Type 0
Entry = MaterialKey × Dek

same_key : (a b : MaterialKey) → is_key a b ≡ true → b ≡ a
same_key a b test =
    let t = and_parts (a.birth == b.birth) (a.number == b.number) test in
    let births : b.birth ≡ a.birth = sym ((Decides-eqb a.birth b.birth).0 t.0) in
    let numbers : b.number ≡ a.number = sym ((Decides-eqb a.number b.number).0 t.1) in
    λ i. record { birth = births i; number = numbers i }

module _ (P : Entry → Type 0) (key : MaterialKey) where
  removed : (es : List Entry) → AllByRecursion P es → AllByRecursion P (remove_entry (is_key key) es)
  removed [] all = tt
  removed (e ∷ es) all =
      let Q : Bool → Type 0 = λ b. AllByRecursion P (cond b es (e ∷ remove_entry (is_key key) es)) in
      elim (is_key key e.0) as Q [ true ↦ all.1 | false ↦ (all.0, removed es all.1) ]

  found_entry : (es : List Entry) → AllByRecursion P es → IfSome (lookup_entry (is_key key) es) (λ e. P e × (e.0 ≡ key))
  found_entry [] all = tt
  found_entry (e ∷ es) all =
      let Q : Bool → Type 0 = λ b. is_key key e.0 ≡ b → IfSome (cond b (Some e) (lookup_entry (is_key key) es)) (λ e. P e × (e.0 ≡ key)) in
      (elim (is_key key e.0) as Q [ true ↦ λ here. (all.0, same_key key e.0 here) | false ↦ λ other. found_entry es all.1 ]) refl

  pub found_value : (es : List Entry) → AllByRecursion P es → IfSome (lookup (is_key key) es) (λ v. P (key, v))
  found_value [] all = tt
  found_value (e ∷ es) all =
      let Q : Bool → Type 0 = λ b. is_key key e.0 ≡ b → IfSome (cond b (Some e.1) (lookup (is_key key) es)) (λ v. P (key, v)) in
      (elim (is_key key e.0) as Q [ true ↦ λ here. subst (λ (k : MaterialKey). P (k, e.1)) (same_key key e.0 here) all.0 | false ↦ λ other. found_value es all.1 ]) refl

  taken : (n : ℕ) (es : List Entry) → AllByRecursion P es → AllByRecursion P (take n es)
  taken zero es all = tt
  taken (suc n) [] all = tt
  taken (suc n) (e ∷ es) all = (all.0, taken n es all.1)

  pub promoted_all : (es : List Entry) → AllByRecursion P es → AllByRecursion P (promoted (is_key key) es)
  promoted_all es all = go (lookup_entry (is_key key) es) (found_entry es all)
    where
      go : (o : Option Entry) → IfSome o (λ e. P e × (e.0 ≡ key)) → AllByRecursion P (option_map_or (λ e. e ∷ remove_entry (is_key key) es) o es)
      go None found = all
      go (Some e) found = (found.0, removed es all)

  pub put_all : (cache : LruCache MaterialKey Dek) (material : Dek) → AllByRecursion P cache.entries → P (key, material) → AllByRecursion P (put_entries is_key cache key material)
  put_all cache material all new = go (lookup_entry (is_key key) cache.entries) (found_entry cache.entries all)
    where
      go : (o : Option Entry) → IfSome o (λ e. P e × (e.0 ≡ key)) → AllByRecursion P (option_map_or (λ e. (e.0, material) ∷ remove_entry (is_key key) cache.entries) o ((key, material) ∷ take (cache.cap - 1) cache.entries))
      go None found = (new, taken (cache.cap - 1) cache.entries all)
      go (Some e) found = (subst (λ (k : MaterialKey). P (k, material)) (sym found.1) new, removed cache.entries all)

-- the entry that is put has the key that was given
pub put_only : (cache : LruCache MaterialKey Dek) (key : MaterialKey) (material : Dek) (entry : Entry) → Contains (put_entries is_key cache key material) entry → Contains cache.entries entry ⊎ (entry ≡ (key, material))
put_only cache key material entry has = elim (Contains-put_entries is_key cache key material entry has) [
  | inl old ↦ inl old
  | inr put ↦ elim put.1 [
    | inl same ↦ inr (λ i. (same i, put.0 i))
    | inr there ↦ inr (λ i. (same_key key entry.0 there.2 i, put.0 i))
  ]
]

-- a material that is found, and what is kept

pub found_material : (m : Materials) (x : Index) (key : MaterialKey) (es : List Entry) → AreCached m x es → IfSome (lookup (is_key key) es) (λ material. material ≡ m key.birth key.number)
found_material m x key es cached = found_value (λ entry. IsMaterialOf m entry) key es (materials es cached)
  where
    materials : (es : List Entry) → AreCached m x es → AllByRecursion (λ (entry : Entry). IsMaterialOf m entry) es
    materials [] cached = tt
    materials (e ∷ es) cached = (cached.0.0, materials es cached.1)

abbrev IsKept : LruCache MaterialKey Dek → LruCache MaterialKey Dek → MaterialKey → Dek → Type 0
IsKept old new key material = (new ≡ lru_cache (put_entries is_key old key material) old.cap) ⊎ (new ≡ old)

pub kept_only : (old new : LruCache MaterialKey Dek) (key : MaterialKey) (material : Dek) → IsKept old new key material → (entry : Entry) → Contains new.entries entry → Contains old.entries entry ⊎ (entry ≡ (key, material))
kept_only old new key material kept entry has = elim kept [
  | inl is ↦ put_only old key material entry (subst (λ (s : LruCache MaterialKey Dek). Contains s.entries entry) is has)
  | inr is ↦ inl (subst (λ (s : LruCache MaterialKey Dek). Contains s.entries entry) is has)
]

pub kept_cached : (m : Materials) (x : Index) (old new : LruCache MaterialKey Dek) (key : MaterialKey) (material : Dek) → IsKept old new key material → AreCached m x old.entries
    → material ≡ m key.birth key.number → IsOlder x key → AreCached m x new.entries
kept_cached m x old new key material kept cached its older = elim kept [
  | inl is ↦ subst (λ (s : LruCache MaterialKey Dek). AreCached m x s.entries) (sym is) (put_all (λ entry. IsMaterialOf m entry × IsOlder x entry.0) key old material cached (its, older))
  | inr is ↦ subst (λ (s : LruCache MaterialKey Dek). AreCached m x s.entries) (sym is) cached
]

-- a call that did what its Ok says, or what its Err says
pub put_or_not : {T E P Q : Type 0} (r : Result T E) → OnOk r P → OnErr r Q → P ⊎ Q
put_or_not (Ok x) done kept = inl done
put_or_not (Err e) done kept = inr kept
