-- Keys that were added one after the other, and what their bytes are.
use Rattle.std.proofs.Common.{◌≡◌, ◌≢◌, ℕ, zero, suc, ◌+◌, ◌-◌, ◌^◌, ◌<◌, ◌≤◌, Bool, true, false, cond, List, [], ◌∷◌, ◌++◌, length, find, Some, None, refl, sym, ap, subst, ◌∙◌, append_assoc, arith, length-append}
use Rattle.std.specs.Prelude.{bytes_eq}
use Rattle.std.specs.List.{AllByRecursion}
use Rattle.std.proofs.lemmas.List.{append-nil}
use Rattle.std.proofs.lemmas.Slice.Eq.{bytes_eq-Decides}
use Rattle.key_rows.specs.declared.rows.KeyRow.{KeyRow}
use Rattle.key_rows.specs.Image.{IsSpelledKey, key_row_image, key_rows_image}
use Rattle.key_rows.specs.Sound.{AreRowsRising, IsRow, NamesOnce}
use Rattle.key_rows.proofs.Births.{each_more, names_more, rising_lower, rising_more}
use Rattle.key_rows.proofs.ImageLemmas.{IsImagedKey, imaged_rows, one_rows}
use Rattle.key_index.specs.declared.rows.PlacedRow.{PlacedRow}
use Rattle.key_index.specs.Index.{Index, is_named}
use Rattle.key_images.specs.Adding.{AddsKeys, AddsNoKeys, IsNextKey, IsNoNextKey}
use Rattle.key_images.specs.Places.{placed_key, placed_keys}
use Rattle.key_images.proofs.KeyLemmas.{AreBelow}

-- the birth before the first one
abbrev pub before_first : ℕ
before_first = 4294967295

abbrev pub last_birth : ℕ → List KeyRow → ℕ
last_birth low [] = low
last_birth low (row ∷ rows) = last_birth row.birth rows

last_more : (low : ℕ) (rows : List KeyRow) (row : KeyRow) → last_birth low (rows ++ row ∷ []) ≡ row.birth
last_more low [] row = refl
last_more low (r ∷ rows) row = last_more r.birth rows row

image_more : (rows : List KeyRow) (row : KeyRow) (more : List KeyRow) → key_rows_image (rows ++ row ∷ more) ≡ key_rows_image rows ++ (key_row_image row ++ key_rows_image more)
image_more [] row more = refl
image_more (r ∷ rows) row more = ap (λ (w : List ℕ). key_row_image r ++ w) (image_more rows row more) ∙ sym (append_assoc (key_row_image r) (key_rows_image rows) (key_row_image row ++ key_rows_image more))

image_then : (rows : List KeyRow) (row : KeyRow) (rest : List ℕ) → key_rows_image rows ++ (key_row_image row ++ rest) ≡ key_rows_image (rows ++ row ∷ []) ++ rest
image_then rows row rest =
    sym (append_assoc (key_rows_image rows) (key_row_image row) rest)
    ∙ ap (λ (w : List ℕ). (key_rows_image rows ++ w) ++ rest) (sym (append-nil (key_row_image row)))
    ∙ ap (λ (w : List ℕ). w ++ rest) (sym (image_more rows row []))

placed_more : (place : ℕ) (rows : List KeyRow) (row : KeyRow) → placed_keys place (rows ++ row ∷ []) ≡ placed_keys place rows ++ placed_key (place + length (key_rows_image rows)) row ∷ []
placed_more place [] row = ap (λ n. placed_key n row ∷ []) (omega arith)
placed_more place (r ∷ rows) row =
    let next : place + length (key_row_image r) + length (key_rows_image rows) ≡ place + length (key_rows_image (r ∷ rows)) = omega (arith, length-append (key_row_image r) (key_rows_image rows)) in
    ap (λ (w : List PlacedRow). placed_key place r ∷ w) (placed_more (place + length (key_row_image r)) rows row ∙ ap (λ n. placed_keys (place + length (key_row_image r)) rows ++ placed_key n row ∷ []) next)

rising_le : (low : ℕ) (rows : List KeyRow) (top : ℕ) → AreRowsRising low rows top → low ≤ top
rising_le low [] top rising = rising
rising_le low (r ∷ rows) top rising = omega (arith, rising.0, rising_le r.birth rows top rising.1)

rising_then : (low : ℕ) (rows : List KeyRow) (last top : ℕ) (row : KeyRow) → AreRowsRising low rows last → last < row.birth → row.birth ≤ top → AreRowsRising low (rows ++ row ∷ []) top
rising_then low [] last top row rising above below = (omega (arith, rising, above), below)
rising_then low (r ∷ rows) last top row rising above below = (rising.0, rising_then r.birth rows last top row rising.1 above below)

-- names

apart : (name : List ℕ) (row : KeyRow) (rows : List PlacedRow) (place : ℕ) → find (is_named name) (placed_key place row ∷ rows) ≡ None → (row.name ≢ name) × (find (is_named name) rows ≡ None)
apart name row rows place none =
    let Q : Bool → Type 0 = λ b. bytes_eq row.name name ≡ b → cond b (Some (placed_key place row)) (find (is_named name) rows) ≡ None → (row.name ≢ name) × (find (is_named name) rows ≡ None) in
    (elim (bytes_eq row.name name) as Q [
      | true ↦ λ e h. absurd cc
      | false ↦ λ e h. (λ same. let yes : bytes_eq row.name name ≡ true = (bytes_eq-Decides row.name name).1 same in cc, h)
    ]) refl none

other_names : (name : List ℕ) (rows : List KeyRow) (place : ℕ) → find (is_named name) (placed_keys place rows) ≡ None → AllByRecursion (λ (other : KeyRow). other.name ≢ name) rows
other_names name [] place none = tt
other_names name (row ∷ rows) place none =
    let both = apart name row (placed_keys (place + length (key_row_image row)) rows) place none in
    (both.0, other_names name rows (place + length (key_row_image row)) both.1)

fresh_in : (name : List ℕ) (rows : List KeyRow) (place : ℕ) → AllByRecursion (λ (other : KeyRow). other.name ≢ name) rows → find (is_named name) (placed_keys place rows) ≡ None
fresh_in name [] place others = refl
fresh_in name (row ∷ rows) place others =
    let rest = fresh_in name rows (place + length (key_row_image row)) others.1 in
    let Q : Bool → Type 0 = λ b. bytes_eq row.name name ≡ b → cond b (Some (placed_key place row)) (find (is_named name) (placed_keys (place + length (key_row_image row)) rows)) ≡ None in
    (elim (bytes_eq row.name name) as Q [
      | true ↦ λ e. absurd (others.0 ((bytes_eq-Decides row.name name).0 e))
      | false ↦ λ e. rest
    ]) refl

-- a key among others

front_names : (front : List KeyRow) (key : KeyRow) (more : List KeyRow) → NamesOnce (front ++ key ∷ more) → AllByRecursion (λ (other : KeyRow). other.name ≢ key.name) front
front_names [] key more once = tt
front_names (r ∷ front) key more once = (λ same. middle (λ (other : KeyRow). other.name ≢ r.name) front key more once.0 (sym same), front_names front key more once.1)
  where
    middle : (P : KeyRow → Type 0) (front : List KeyRow) (key : KeyRow) (more : List KeyRow) → AllByRecursion P (front ++ key ∷ more) → P key
    middle P [] key more each = each.0
    middle P (r ∷ front) key more each = middle P front key more each.1

at_middle : (P : KeyRow → Type 0) (front : List KeyRow) (key : KeyRow) (more : List KeyRow) → AllByRecursion P (front ++ key ∷ more) → AllByRecursion P front × P key
at_middle P [] key more each = (tt, each.0)
at_middle P (r ∷ front) key more each = let rest = at_middle P front key more each.1 in ((each.0, rest.0), rest.1)

last_below : (low : ℕ) (front : List KeyRow) (key : KeyRow) (more : List KeyRow) (top : ℕ) → AreRowsRising low (front ++ key ∷ more) top → (last_birth low front < key.birth) × (key.birth ≤ top)
last_below low [] key more top rising = (rising.0, rising_le key.birth more top rising.1)
last_below low (r ∷ front) key more top rising = last_below r.birth front key more top rising.1

above_last : (front : List KeyRow) (key : KeyRow) (more : List KeyRow) (top : ℕ) → AreRowsRising 0 (front ++ key ∷ more) top → AllByRecursion IsRow (front ++ key ∷ more) → last_birth before_first front < key.birth
above_last [] key more top rising rules = omega (arith, rules.0.born)
above_last (r ∷ front) key more top rising rules = (last_below r.birth front key more top rising.1).0

record Parted (rows : List KeyRow) (k : ℕ) : Type 0 where
  front : List KeyRow
  key : KeyRow
  more : List KeyRow
  rows_are : rows ≡ front ++ key ∷ more
  counted : length front ≡ k

part : (rows : List KeyRow) (k : ℕ) → k < length rows → Parted rows k
part [] k within = absurd (omega arith)
part (row ∷ rows) zero within = record { front = []; key = row; more = rows; rows_are = refl; counted = refl }
part (row ∷ rows) (suc k) within =
    let p = part rows k (omega arith) in
    record { front = row ∷ p.front; key = p.key; more = p.more; rows_are = ap (λ (w : List KeyRow). row ∷ w) p.rows_are; counted = ap suc p.counted }

-- the first k keys were added
pub record Passed (bytes : List ℕ) (end : ℕ) (old : Index) (k low : ℕ) (rest : List ℕ) (new : Index) : Type 0 where
  pub done : List KeyRow
  pub counted : length done ≡ k
  pub parts : bytes ≡ key_rows_image done ++ rest
  pub low_is : low ≡ last_birth before_first done
  pub rising : AreRowsRising before_first done low
  pub used : AreRowsRising 0 done old.greatest
  pub names : NamesOnce done
  pub rules : AllByRecursion IsRow done
  pub spelled : AllByRecursion IsSpelledKey done
  pub new_is : new ≡ record old { rows = placed_keys (end - length bytes) done }

pub passed_none : (bytes : List ℕ) (end : ℕ) (old : Index) → old.rows ≡ [] → Passed bytes end old 0 before_first bytes old
passed_none bytes end old empty = record {
  done = [];
  counted = refl;
  parts = refl;
  low_is = refl;
  rising = omega arith;
  used = omega arith;
  names = tt;
  rules = tt;
  spelled = tt;
  new_is = λ i. record old { rows = empty i };
}

module _ (bytes : List ℕ) (end : ℕ) (old : Index) (k low : ℕ) (rest : List ℕ) (new : Index) (p : Passed bytes end old k low rest new) (within : length bytes ≤ end) where
  rest_at : end - length bytes + length (key_rows_image p.done) ≡ end - length rest
  rest_at = omega (arith, ap length p.parts, length-append (key_rows_image p.done) rest, within)

  pub rest_within : length rest ≤ end
  rest_within = omega (arith, ap length p.parts, length-append (key_rows_image p.done) rest, within)

  pub passed_more : (later : Index) (birth : ℕ) (behind : List ℕ) → IsNextKey rest end low new later birth behind → Passed bytes end old (k + 1) birth behind later
  passed_more later birth behind next =
      let key = next.key in
      let same_greatest : new.greatest ≡ old.greatest = ap (λ (x : Index). x.greatest) p.new_is in
      let fresh : find (is_named key.name) (placed_keys (end - length bytes) p.done) ≡ None = ap (λ (x : Index). find (is_named key.name) x.rows) (sym p.new_is) ∙ next.may.fresh in
      let below : key.birth ≤ old.greatest = omega (arith, next.may.used, same_greatest) in
      record {
        done = p.done ++ key ∷ [];
        counted = omega (arith, length-append p.done (key ∷ []), p.counted);
        parts = p.parts ∙ ap (λ (w : List ℕ). key_rows_image p.done ++ w) next.parts ∙ image_then p.done key behind;
        low_is = next.birth_is ∙ sym (last_more before_first p.done key);
        rising = subst (λ n. AreRowsRising before_first (p.done ++ key ∷ []) n) (sym next.birth_is) (rising_more before_first p.done low key p.rising next.may.above);
        used = rising_lower before_first 0 (p.done ++ key ∷ []) old.greatest (omega arith) (rising_then before_first p.done low old.greatest key p.rising next.may.above below);
        names = names_more p.done key p.names (other_names key.name p.done (end - length bytes) fresh);
        rules = each_more IsRow p.done key p.rules next.may.rules;
        spelled = each_more IsSpelledKey p.done key p.spelled next.may.spelled;
        new_is =
            next.added
            ∙ ap (λ (x : Index). record x { rows = x.rows ++ placed_key (end - length rest) key ∷ [] }) p.new_is
            ∙ ap (λ n. record old { rows = placed_keys (end - length bytes) p.done ++ placed_key n key ∷ [] }) (sym rest_at)
            ∙ ap (λ (rows : List PlacedRow). record old { rows = rows }) (sym (placed_more (end - length bytes) p.done key));
      }

  pub passed_all : rest ≡ [] → AddsKeys bytes end k old new
  passed_all empty = record {
    rows = p.done;
    counted = p.counted;
    are = record { births = p.used; names = p.names; rules = p.rules; spelled = p.spelled };
    bytes_are = p.parts ∙ ap (λ (w : List ℕ). key_rows_image p.done ++ w) empty ∙ append-nil (key_rows_image p.done);
    added = p.new_is;
  }

  module _ (small : old.greatest < 2 ^ 64) where
    imaged_done : AllByRecursion IsImagedKey p.done
    imaged_done = (imaged_rows 0 old.greatest p.done small p.used p.rules p.spelled).1

    pub too_many : rest ≢ [] → AddsNoKeys bytes k old
    too_many more rows counted are same =
        let imaged = (imaged_rows 0 old.greatest rows small are.births are.rules are.spelled).1 in
        let both = one_rows rows p.done [] rest imaged imaged_done (counted ∙ sym p.counted) (append-nil (key_rows_image rows) ∙ sym same ∙ p.parts) in
        more (sym both.1)

    pub stopped : (count : ℕ) → k < count → IsNoNextKey rest low new → AddsNoKeys bytes count old
    stopped count few none rows counted are same =
        let q = part rows k (omega (arith, few, counted)) in
        let key = q.key in
        let births = subst (λ (w : List KeyRow). AreRowsRising 0 w old.greatest) q.rows_are are.births in
        let names = subst NamesOnce q.rows_are are.names in
        let rules = subst (AllByRecursion IsRow) q.rows_are are.rules in
        let spelled = subst (AllByRecursion IsSpelledKey) q.rows_are are.spelled in
        let imaged = (imaged_rows 0 old.greatest (q.front ++ key ∷ q.more) small births rules spelled).1 in
        let images : key_rows_image q.front ++ (key_row_image key ++ key_rows_image q.more) ≡ key_rows_image p.done ++ rest =
        sym (image_more q.front key q.more) ∙ ap key_rows_image (sym q.rows_are) ∙ sym same ∙ p.parts in
        let both = one_rows q.front p.done (key_row_image key ++ key_rows_image q.more) rest (at_middle IsImagedKey q.front key q.more imaged).0 imaged_done (q.counted ∙ sym p.counted) images in
        let above : last_birth before_first q.front < key.birth = above_last q.front key q.more old.greatest births rules in
        let lower : low ≡ last_birth before_first q.front = p.low_is ∙ ap (last_birth before_first) (sym both.0) in
        let used : key.birth ≤ old.greatest = (last_below 0 q.front key q.more old.greatest births).1 in
        let same_greatest : new.greatest ≡ old.greatest = ap (λ (x : Index). x.greatest) p.new_is in
        let fresh : find (is_named key.name) new.rows ≡ None =
        ap (λ (x : Index). find (is_named key.name) x.rows) p.new_is
        ∙ ap (λ (w : List KeyRow). find (is_named key.name) (placed_keys (end - length bytes) w)) (sym both.0)
        ∙ fresh_in key.name q.front (end - length bytes) (front_names q.front key q.more names) in
        none key (key_rows_image q.more)
        (record { rules = (at_middle IsRow q.front key q.more rules).1; spelled = (at_middle IsSpelledKey q.front key q.more spelled).1; above = omega (arith, above, lower); used = omega (arith, used, same_greatest); fresh = fresh })
        (sym both.1)

  -- births of the keys that were added
  below_all : (l : ℕ) (rows : List KeyRow) (place last : ℕ) → AreRowsRising l rows last → AreBelow last (placed_keys place rows)
  below_all l [] place last rising = tt
  below_all l (r ∷ rows) place last rising = (rising_le r.birth rows last rising.1, below_all r.birth rows (place + length (key_row_image r)) last rising.1)

  pub rows_below : AreBelow low new.rows
  rows_below = subst (λ (x : Index). AreBelow low x.rows) (sym p.new_is) (below_all before_first p.done (end - length bytes) low p.rising)

  count_placed : (place : ℕ) (rows : List KeyRow) → length (placed_keys place rows) ≡ length rows
  count_placed place [] = refl
  count_placed place (r ∷ rows) = ap suc (count_placed (place + length (key_row_image r)) rows)

  pub rows_counted : length new.rows ≡ k
  rows_counted = ap (λ (x : Index). length x.rows) p.new_is ∙ count_placed (end - length bytes) p.done ∙ p.counted

  pub greatest_same : new.greatest ≡ old.greatest
  greatest_same = ap (λ (x : Index). x.greatest) p.new_is

  pub low_enough : 2 ^ 32 ≤ low + 1
  low_enough = omega (arith, rising_le before_first p.done low p.rising)
