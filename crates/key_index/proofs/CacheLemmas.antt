-- The cache stays right while commands are applied.
use Rattle.std.proofs.Common.{◌≡◌, ◌≢◌, ℕ, ◌+◌, ◌<◌, ◌≤◌, Bool, true, false, not, cond, nat_lt, List, [], ◌∷◌, map, find, Option, None, Some, IfSome, refl, sym, ◌∙◌, ap, subst, arith, inl, inr}
use Rattle.std.specs.Prelude.{option_and_then, slice_get}
use Rattle.std.specs.List.{AllByRecursion}
use Rattle.std.proofs.lemmas.Bool.{cases_eq, ltb-true, and_parts}
use Rattle.std.proofs.lemmas.Bool.Decides.{Decides-eqb}
use Rattle.std.proofs.lemmas.Option.{same_Some}
use Rattle.hk_base.specs.declared.names.Dek.{Dek}
use Rattle.hk_base.specs.declared.names.VersionName.{VersionName}
use Rattle.key_rows.specs.declared.rows.KeyCommand.{KeyCommand}
use Rattle.key_rows.specs.declared.rows.KeyCommand.TheVariants.{Opened, Create, Roll, Delete}
use Rattle.key_rows.specs.Sound.{AreRowsRising}
use Rattle.key_rows.proofs.Births.{each_filter, each_more, found_has}
use Rattle.key_index.specs.declared.cache.MaterialKey.{MaterialKey}
use Rattle.key_index.specs.declared.rows.PlacedRow.{PlacedRow}
use Rattle.key_index.specs.Index.{Index, Materials, after_at, applies_at, first_version, is_born, is_named, materials_after, may_roll_at, newest, older_place, place_of, rolled_at, rows_of, with_version}
use Rattle.key_index.specs.Cache.{AreCached, IsMaterialOf, IsOlder}
use Rattle.key_index.specs.Sound.{IsSoundIndex}
use Rattle.key_index.proofs.Commands.{not_born, roll_says}
use Rattle.key_index.proofs.Searches.{by_birth, nothing, rest_of}
use Rattle.key_index.proofs.Sounds.{create_says}
use Rattle.key_index.proofs.Standing.{before, elsewhere, next}

-- the key that is found has the birth
found_born : (birth : ℕ) (rows : List PlacedRow) → IfSome (find (is_born birth) rows) (λ placed. placed.row.birth ≡ birth)
found_born birth [] = tt
found_born birth (placed ∷ rows) =
    let Q : Bool → Type 0 = λ b. is_born birth placed ≡ b → IfSome (cond b (Some placed) (find (is_born birth) rows)) (λ p. p.row.birth ≡ birth) in
    (elim (is_born birth placed) as Q [ true ↦ λ e. (Decides-eqb placed.row.birth birth).0 e | false ↦ λ e. found_born birth rows ]) refl

-- a version that a roll makes an older one is not older yet
module _ (birth number : ℕ) (material : Dek) (place : ℕ) (key : MaterialKey) where
  found_later : (f : Option PlacedRow) → IfSome f (λ placed. placed.row.birth ≡ birth) → IfSome f (λ placed. placed.row.birth ≡ key.birth → key.number + 1 < placed.row.versions) → may_roll_at f number material ≡ true
      → key.birth ≡ birth → key.number + 1 ≢ number
  found_later None born older may same is = absurd cc
  found_later (Some placed) born older may same is = absurd (omega (arith, older (born ∙ sym same), (roll_says placed number material may).count, is))

  versions_grow : (rows : List PlacedRow) → AllByRecursion (λ (placed : PlacedRow). placed.row.birth ≡ key.birth → key.number + 1 < placed.row.versions) rows
      → AllByRecursion (λ (placed : PlacedRow). placed.row.birth ≡ key.birth → key.number + 1 < placed.row.versions) (map (rolled_at birth material place) rows)
  versions_grow [] older = tt
  versions_grow (placed ∷ rows) older = (grown (is_born birth placed), versions_grow rows older.1)
    where
      grown : (b : Bool) → (cond b (with_version material place placed) placed).row.birth ≡ key.birth → key.number + 1 < (cond b (with_version material place placed) placed).row.versions
      grown true same = omega (arith, older.0 same)
      grown false same = older.0 same

module _ (m : Materials) (x : Index) (place : ℕ) (is : IsSoundIndex x) where
  cached_roll : (birth number : ℕ) (material : Dek) → may_roll_at (find (is_born birth) x.rows) number material ≡ true → (entry : MaterialKey × Dek) → IsMaterialOf m entry × IsOlder x entry.0
      → IsMaterialOf (next m birth number material (newest birth x.rows) place) entry × IsOlder (record x { rows = map (rolled_at birth material place) x.rows }) entry.0
  cached_roll birth number material may entry cached =
      let key : MaterialKey = entry.0 in
      let same : next m birth number material (newest birth x.rows) place key.birth key.number ≡ m key.birth key.number = elim (cases_eq key.birth birth) [
        | inl here ↦ before m birth number material (newest birth x.rows) place key.birth key.number
            (found_later birth number material place key (find (is_born birth) x.rows) (found_born birth x.rows) (found_has (λ (placed : PlacedRow). placed.row.birth ≡ key.birth → key.number + 1 < placed.row.versions) (is_born birth) x.rows cached.1.older) may here)
        | inr other ↦ elsewhere m birth number material (newest birth x.rows) place key.birth key.number other
      ] in
      (cached.0 ∙ sym same, record { older = versions_grow birth number material place key x.rows cached.1.older; born = cached.1.born })

  -- a command that applies keeps what is in the cache
  one_after : (command : KeyCommand) → applies_at x command ≡ true → (entry : MaterialKey × Dek) → IsMaterialOf m entry × IsOlder x entry.0 → IsMaterialOf (materials_after m x command) entry × IsOlder (after_at x command place) entry.0
  unfolding next
  one_after (Opened opening) may entry cached = (cached.0, record { older = cached.1.older; born = cached.1.born })
  one_after (Create birth name bits description created material) may entry cached =
      let says = create_says x name birth bits material may in (
        cached.0,
        record {
          older = each_more (λ (placed : PlacedRow). placed.row.birth ≡ entry.0.birth → entry.0.number + 1 < placed.row.versions) x.rows (record { row = first_version birth name bits description created material; places = place ∷ [] }) cached.1.older
              (λ same. absurd (omega (arith, same, says.above, cached.1.born)));
          born = omega (arith, says.above, cached.1.born);
        },
      )
  one_after (Roll birth number material) may entry cached = cached_roll birth number material (and_parts (nat_lt 0 x.opening) (may_roll_at (find (is_born birth) x.rows) number material) may).1 entry cached
  one_after (Delete birth) may entry cached = (
    cached.0,
    record { older = each_filter (λ (placed : PlacedRow). placed.row.birth ≡ entry.0.birth → entry.0.number + 1 < placed.row.versions) (λ placed. not (is_born birth placed)) x.rows cached.1.older; born = cached.1.born },
  )

  pub cached_after : (command : KeyCommand) → applies_at x command ≡ true → (entries : List (MaterialKey × Dek)) → AreCached m x entries → AreCached (materials_after m x command) (after_at x command place) entries
  cached_after command may [] cached = tt
  cached_after command may (entry ∷ entries) cached = (one_after command may entry cached.0, cached_after command may entries cached.1)

-- a version that has a place is an older one

low_top : (m : Materials) (low : ℕ) (rows : List PlacedRow) (top : ℕ) → AreRowsRising low (rows_of m rows) top → low ≤ top
low_top m low [] top rising = rising
low_top m low (placed ∷ rows) top rising = omega (arith, rising.0, low_top m placed.row.birth rows top rising.1)

below_top : (m : Materials) (low : ℕ) (rows : List PlacedRow) (top : ℕ) → AreRowsRising low (rows_of m rows) top → AllByRecursion (λ (placed : PlacedRow). placed.row.birth ≤ top) rows
below_top m low [] top rising = tt
below_top m low (placed ∷ rows) top rising = (low_top m placed.row.birth rows top rising.1, below_top m placed.row.birth rows top rising.1)

module _ (key : MaterialKey) where
  abbrev Older : PlacedRow → Type 0
  Older placed = placed.row.birth ≡ key.birth → key.number + 1 < placed.row.versions

  others_older : (rows : List PlacedRow) → AllByRecursion (λ (placed : PlacedRow). is_born key.birth placed ≡ false) rows → AllByRecursion Older rows
  others_older [] none = tt
  others_older (placed ∷ rows) none = (λ same. absurd (not_born key.birth placed none.0 same), others_older rows none.1)

  all_older : (low : ℕ) (rows : List PlacedRow) (top : ℕ) (row : PlacedRow) → AreRowsRising low (rows_of nothing rows) top → find (is_born key.birth) rows ≡ Some row → key.number + 1 < row.row.versions → AllByRecursion Older rows
  all_older low [] top row rising found more = tt
  all_older low (placed ∷ rows) top row rising found more =
      let Q : Bool → Type 0 = λ b. is_born key.birth placed ≡ b → cond b (Some placed) (find (is_born key.birth) rows) ≡ Some row → AllByRecursion Older (placed ∷ rows) in
      let cases : Q (is_born key.birth placed) = elim (is_born key.birth placed) as Q [
        | true ↦ λ e h.
            let same : placed ≡ row = same_Some placed row h in
            let born : placed.row.birth ≡ key.birth = (Decides-eqb placed.row.birth key.birth).0 e in
            (λ b. subst (λ (p : PlacedRow). key.number + 1 < p.row.versions) (sym same) more, others_older rows (rest_of nothing placed.row.birth key.birth rows top (omega (arith, born)) rising.1))
        | false ↦ λ e h. (λ b. absurd (not_born key.birth placed e b), all_older placed.row.birth rows top row rising.1 h more)
      ] in
      cases refl found

-- whether a version has more after it
has_more : (number : ℕ) (placed : PlacedRow) (place : ℕ) → older_place number placed ≡ Some place → number + 1 < placed.row.versions
has_more number placed place found = ltb-true (number + 1) placed.row.versions (tested (nat_lt (number + 1) placed.row.versions) found)
  where
    tested : (b : Bool) → cond b (slice_get placed.places number) None ≡ Some place → b ≡ true
    tested true e = refl
    tested false e = absurd cc

pub placed_older : (x : Index) (version : VersionName) (row : PlacedRow) (place : ℕ) → IsSoundIndex x → find (is_named version.key) x.rows ≡ Some row → place_of x.rows version ≡ Some place
    → IsOlder x (record { birth = row.row.birth; number = version.number })
placed_older x version row place is found placed =
    let at : older_place version.number row ≡ Some place = ap (λ (o : Option PlacedRow). option_and_then (older_place version.number) o) (sym found) ∙ placed in
    let its : find (is_born row.row.birth) x.rows ≡ Some row =
    subst (λ (o : Option PlacedRow). IfSome o (λ p. find (is_born p.row.birth) x.rows ≡ Some p)) found (by_birth nothing 0 (is_named version.key) x.rows x.greatest (is.births nothing)) in
    record {
      older = all_older (record { birth = row.row.birth; number = version.number }) 0 x.rows x.greatest row (is.births nothing) its (has_more version.number row place at);
      born = subst (λ (o : Option PlacedRow). IfSome o (λ p. p.row.birth ≤ x.greatest)) found (found_has (λ (p : PlacedRow). p.row.birth ≤ x.greatest) (is_named version.key) x.rows (below_top nothing 0 x.rows x.greatest (is.births nothing)));
    }
