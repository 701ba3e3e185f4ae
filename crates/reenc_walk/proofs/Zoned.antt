-- The files of a zone among the rows of a tree, about a place.
use Rattle.std.proofs.Common.{◌≡◌, ℕ, ◌<◌, ◌≤◌, Bool, true, false, not, cond, ◌&&◌, ◌||◌, List, [], ◌∷◌, length, drop, Option, Some, None, is_some, refl, sym, ap, ◌∙◌, subst, arith}
use Rattle.std.specs.Prelude.{slice_get, nat_lt}
use Rattle.std.specs.List.{All}
use Rattle.std.specs.Option.{option_map, option_map_or}
use Rattle.std.proofs.lemmas.List.Elements.{All-head, All-tail}
use Rattle.std.proofs.lemmas.Bool.Decides.{nat_tests}
use Rattle.std.proofs.lemmas.Bool.{eqb-true, and_left, and_parts}
use Rattle.name_calls.specs.Paths.{is_prefix}
use Rattle.inode_tree.specs.Arena.{rank}
use Rattle.inode_tree.specs.Rows.{Entry, IsRows, entry_of, is_marked, longer, same_id, zone_id, zone_of}
use Rattle.inode_tree.proofs.Blocks.{between, prefix-not-before}
use Rattle.reenc_walk.specs.Files.{edek_of, is_after, is_file_of, path_in}
use Rattle.reenc_walk.specs.Steps.{IsStart}
use Rattle.reenc_walk.proofs.Starts.{before-get, not-before-get, rising-get, same-get}

-- the zone of a path is a row whose path is a prefix of it
zone-holds : (P : Entry → Type 0) (es : List Entry) (p : List (List ℕ)) (f : Entry) → All P es → zone_of es p ≡ Some f → P f × (is_prefix f.path p ≡ true)
zone-holds P [] p f a h = cc
zone-holds P (e ∷ es) p f a h = go (is_marked e.row && is_prefix e.path p) refl (zone_of es p) refl (λ i. zone-holds P es p f (All-tail P e es a) i) h
  where
    here : (is_marked e.row && is_prefix e.path p) ≡ true → e ≡ f → P f × (is_prefix f.path p ≡ true)
    here t i = (subst P i (All-head P e es a), subst (λ (x : Entry). is_prefix x.path p ≡ true) i (and_parts (is_marked e.row) (is_prefix e.path p) t).1)

    go : (t : Bool) → (is_marked e.row && is_prefix e.path p) ≡ t → (o : Option Entry) → zone_of es p ≡ o → (zone_of es p ≡ Some f → P f × (is_prefix f.path p ≡ true)) → cond t (Some (longer e o)) o ≡ Some f → P f × (is_prefix f.path p ≡ true)
    go true t None o ih k = here t cc
    go true t (Some g) o ih k = two (nat_lt (length e.path) (length g.path)) k
      where
        two : (b : Bool) → Some (cond b g e) ≡ Some f → P f × (is_prefix f.path p ≡ true)
        two true k = let i : g ≡ f = cc in ih (o ∙ ap (λ (x : Entry). Some x) i)
        two false k = here t cc
    go false t o i ih k = ih (i ∙ k)

-- the directory of a zone that a path lies in
pub in-zone : (rows : List Entry) (zone : ℕ) (p : List (List ℕ)) → IsRows rows → same_id (zone_id rows p) (Some zone) ≡ true → (z : Entry) × (entry_of rows zone ≡ Some z) × (is_prefix z.path p ≡ true)
in-zone rows zone p r h = go (zone_of rows p) refl h
  where
    go : (o : Option Entry) → zone_of rows p ≡ o → same_id (option_map (λ (e : Entry). e.row.id) o) (Some zone) ≡ true → (z : Entry) × (entry_of rows zone ≡ Some z) × (is_prefix z.path p ≡ true)
    go None e k = cc
    go (Some f) e k =
        let w = zone-holds (λ (x : Entry). entry_of rows x.row.id ≡ Some x) rows p f r.once e in
        (f, subst (λ (id : ℕ). entry_of rows id ≡ Some f) (eqb-true f.row.id zone k) w.0, w.1)

-- a file of a zone
abbrev pub test : List Entry → ℕ → Option (List (List ℕ)) → Entry → Bool
test rows zone after e = is_file_of rows zone e && is_after after (path_in rows zone e.path)

-- without the directory there are no files of the zone
pub no-zone : (rows : List Entry) (zone : ℕ) (after : Option (List (List ℕ))) (e : Entry) → IsRows rows → entry_of rows zone ≡ None → test rows zone after e ≡ false
no-zone rows zone after e r n = and_left (is_file_of rows zone e) _ (two (is_some (edek_of e.row.kind)) (same_id (zone_id rows e.path) (Some zone)) refl)
  where
    two : (s t : Bool) → same_id (zone_id rows e.path) (Some zone) ≡ t → (s && t) ≡ false
    two true true h = let w = in-zone rows zone e.path r h in let i : Some w.0 ≡ None = sym w.1 ∙ n in cc
    two true false h = refl
    two false t h = refl

-- paths in a zone, by the path of its directory
pub path-from-dir : (rows : List Entry) (zone : ℕ) (dir : List (List ℕ)) → option_map (λ (e : Entry). e.path) (entry_of rows zone) ≡ Some dir → (p : List (List ℕ)) → path_in rows zone p ≡ drop (length dir) p
path-from-dir rows zone dir is p = ap (λ (d : List (List ℕ)). drop (length d) p) (go (entry_of rows zone) is)
  where
    go : (o : Option Entry) → option_map (λ (e : Entry). e.path) o ≡ Some dir → option_map_or (λ (e : Entry). e.path) o [] ≡ dir
    go None h = cc
    go (Some e) h = cc

module _ (rows : List Entry) (zone : ℕ) (after : Option (List (List ℕ))) (dir : List (List ℕ)) (at : ℕ) (r : IsRows rows) (is : option_map (λ (e : Entry). e.path) (entry_of rows zone) ≡ Some dir) (start : IsStart rows dir after at) where
  -- the files of the zone are below its directory
  file-below : (e : Entry) → is_file_of rows zone e ≡ true → is_prefix dir e.path ≡ true
  file-below e h =
      let w = in-zone rows zone e.path r (and_parts (is_some (edek_of e.row.kind)) (same_id (zone_id rows e.path) (Some zone)) h).1 in
      let i : Some w.0.path ≡ Some dir = ap (option_map (λ (e : Entry). e.path)) (sym w.1) ∙ is in
      let j : w.0.path ≡ dir = cc in
      subst (λ (p : List (List ℕ)). is_prefix p e.path ≡ true) j w.2

  path-is : (p : List (List ℕ)) → path_in rows zone p ≡ drop (length dir) p
  path-is = path-from-dir rows zone dir is

  not-below : (e : Entry) → is_prefix dir e.path ≡ false → test rows zone after e ≡ false
  not-below e n = and_left (is_file_of rows zone e) _ (go (is_file_of rows zone e) refl)
    where
      go : (t : Bool) → is_file_of rows zone e ≡ t → t ≡ false
      go true h = let f = file-below e h in cc
      go false h = refl

  -- no row before the place is among the files of the walk
  pub none-before : (k : ℕ) (e : Entry) → k < at → slice_get rows k ≡ Some e → test rows zone after e ≡ false
  none-before k e b g = go (is_prefix dir e.path) refl (nat_lt k (rank rows dir)) refl
    where
      go : (t : Bool) → is_prefix dir e.path ≡ t → (u : Bool) → nat_lt k (rank rows dir) ≡ u → test rows zone after e ≡ false
      go false f u h = not-below e f
      go true f true h =
          let low : k < rank rows dir = lt-yes k (rank rows dir) h in
          let i = before-get rows dir k e low g in
          let j = prefix-not-before dir e.path f in cc
        where
          lt-yes : (a b : ℕ) → nat_lt a b ≡ true → a < b
          lt-yes a b h = grind (arith, nat_tests)
      go true f false h =
          let low : rank rows dir ≤ k = lt-no k (rank rows dir) h in
          let i : (not (is_prefix dir e.path) || is_after after (drop (length dir) e.path)) ≡ false = start.before k e low b g in
          let j : is_after after (drop (length dir) e.path) ≡ false = ap (λ (t : Bool). not t || is_after after (drop (length dir) e.path)) (sym f) ∙ i in
          no-second (is_file_of rows zone e) (is_after after (path_in rows zone e.path)) (ap (is_after after) (path-is e.path) ∙ j)
        where
          lt-no : (a b : ℕ) → nat_lt a b ≡ false → b ≤ a
          lt-no a b h = grind (arith, nat_tests)

          no-second : (a b : Bool) → b ≡ false → (a && b) ≡ false
          no-second true b h = h
          no-second false b h = refl

  -- from the place on, each file of the zone is among them
  pub each-after : (k : ℕ) (e : Entry) → at ≤ k → slice_get rows k ≡ Some e → test rows zone after e ≡ is_file_of rows zone e
  each-after k e b g = go (is_file_of rows zone e) refl
    where
      go : (t : Bool) → is_file_of rows zone e ≡ t → (t && is_after after (path_in rows zone e.path)) ≡ t
      go false f = refl
      go true f =
          let p = file-below e f in
          let i : (not (is_prefix dir e.path) || is_after after (drop (length dir) e.path)) ≡ true = start.after k e b g in
          ap (is_after after) (path-is e.path) ∙ ap (λ (t : Bool). not t || is_after after (drop (length dir) e.path)) (sym p) ∙ i

  -- after a row that is not below the directory there are none
  pub none-after : (j k : ℕ) (x e : Entry) → at ≤ j → slice_get rows j ≡ Some x → is_prefix dir x.path ≡ false → j ≤ k → slice_get rows k ≡ Some e → test rows zone after e ≡ false
  none-after j k x e b f n h g = not-below e (go (is_prefix dir e.path) refl)
    where
      from : rank rows dir ≤ j
      from = let s = start.from in omega arith

      go : (t : Bool) → is_prefix dir e.path ≡ t → t ≡ false
      go false i = refl
      go true i = two (nat_lt j k) refl
        where
          yes : (a b : ℕ) → nat_lt a b ≡ true → a < b
          yes a b h = grind (arith, nat_tests)

          same : (a b : ℕ) → nat_lt a b ≡ false → a ≤ b → a ≡ b
          same a b h k = grind (arith, nat_tests)

          two : (t : Bool) → nat_lt j k ≡ t → true ≡ false
          two true l =
              let p = between dir x.path e.path (not-before-get rows dir j x r.rising from f) (rising-get rows j k x e r.rising (yes j k l) f g) i in cc
          two false l =
              let m : j ≡ k = same j k l h in
              let q : x ≡ e = same-get rows j x e f (ap (slice_get rows) m ∙ g) in
              let o : is_prefix dir e.path ≡ false = subst (λ (z : Entry). is_prefix dir z.path ≡ false) q n in cc
