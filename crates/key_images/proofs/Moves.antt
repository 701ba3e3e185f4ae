-- The materials of the keys of an index, placed one key after the other.
use Rattle.std.proofs.Common.{◌≡◌, ℕ, suc, ◌+◌, ◌-◌, ◌*◌, ◌/◌, ◌<◌, ◌≤◌, List, [], ◌∷◌, ◌++◌, length, get_or, set, ap, sym, ◌∙◌, arith, append_assoc, length-append, refl}
use Rattle.std.specs.List.{AllByRecursion, HoldsAt, concat}
use Rattle.std.proofs.lemmas.List.{append-nil, get_or_at, nil_from_length, set_at}
use Rattle.key_rows.specs.Image.{key_image, key_row_image}
use Rattle.key_index.specs.declared.rows.IndexRow.{IndexRow}
use Rattle.key_index.specs.declared.rows.PlacedRow.{PlacedRow}
use Rattle.hk_base.specs.Disk.{piece}
use Rattle.key_index.specs.Held.{AreHeld}
use Rattle.key_index.specs.Index.{Index, Materials, older, row_of, rows_of, table_of}
use Rattle.key_index.specs.Runs.{run_places}
use Rattle.key_index.specs.Sound.{AllSized, AreSized, IsPlacedRow, IsSoundIndex}
use Rattle.key_index.specs.Walk.{placed_from, with_at}
use Rattle.key_index.proofs.Standing.{versions_of}
use Rattle.key_images.specs.Places.{brief, index_at, last_of, newest_of, placed_key, placed_keys}
use Rattle.key_images.specs.Sizes.{row_len, rows_len}
use Rattle.key_images.proofs.ChunkLemmas.{length_concat}
use Rattle.key_images.proofs.Holds.{Fits, image_holds, table_stands}
use Rattle.key_images.proofs.Lengths.{row_of_length, rows_len_more}

abbrev pub moved_row : ℕ → PlacedRow → PlacedRow
moved_row place placed = placed_from (place + row_len placed.row - placed.row.versions * (placed.row.bits / 8)) placed

abbrev pub moved_rows : ℕ → List PlacedRow → List PlacedRow
moved_rows place [] = []
moved_rows place (placed ∷ rows) = moved_row place placed ∷ moved_rows (place + row_len placed.row) rows

-- they are placed as those of a table

last_last : (first : List ℕ) (ms : List (List ℕ)) (last : List ℕ) → last_of first (ms ++ last ∷ []) ≡ last
last_last first [] last = refl
last_last first (m ∷ ms) last = last_last m ms last

newest_last : (ms : List (List ℕ)) (last : List ℕ) → newest_of (ms ++ last ∷ []) ≡ last
newest_last [] last = refl
newest_last (m ∷ ms) last = last_last m ms last

brief_is : (m : Materials) (row : IndexRow) → 0 < row.versions → brief (row_of m row) ≡ row
brief_is m row some =
    let current = newest_last (older m row.birth (row.versions - 1)) row.current in
    let count = versions_of m row some in
    λ i. record { name = row.name; birth = row.birth; bits = row.bits; current = current i; versions = count i; description = row.description; created = row.created }

row_placed : (m : Materials) (place : ℕ) (placed : PlacedRow) → 0 < placed.row.versions → AreSized m placed.row → moved_row place placed ≡ placed_key place (row_of m placed.row)
row_placed m place placed some sized =
    let key = row_of m placed.row in
    let len = placed.row.bits / 8 in
    let count = versions_of m placed.row some in
    let all : length (concat key.materials) ≡ placed.row.versions * len = length_concat len key.materials sized ∙ ap (λ n. n * len) count in
    let size : length (key_row_image key) ≡ row_len placed.row = row_of_length m placed.row some sized in
    let first : place + length (key_row_image key) - length (concat key.materials) ≡ place + row_len placed.row - placed.row.versions * len = λ i. place + size i - all i in
    sym (λ i. record { row = brief_is m placed.row some i; places = run_places (first i) len (count i) })

pub rows_placed : (m : Materials) (place : ℕ) (rows : List PlacedRow) → AllByRecursion IsPlacedRow rows → AllByRecursion (λ (placed : PlacedRow). AreSized m placed.row) rows → moved_rows place rows ≡ placed_keys place (rows_of m rows)
rows_placed m place [] are sized = refl
rows_placed m place (placed ∷ rows) are sized =
    let size : row_len placed.row ≡ length (key_row_image (row_of m placed.row)) = sym (row_of_length m placed.row are.0.row.some sized.0) in
    (λ i. row_placed m place placed are.0.row.some sized.0 i ∷ rows_placed m (place + row_len placed.row) rows are.1 sized.1 i)
    ∙ ap (λ n. placed_key place (row_of m placed.row) ∷ placed_keys (place + n) (rows_of m rows)) size

-- key by key

length_moved : (place : ℕ) (rows : List PlacedRow) → length (moved_rows place rows) ≡ length rows
length_moved place [] = refl
length_moved place (placed ∷ rows) = ap suc (length_moved (place + row_len placed.row) rows)

moved_more : (place : ℕ) (rows : List PlacedRow) (placed : PlacedRow) → moved_rows place (rows ++ placed ∷ []) ≡ moved_rows place rows ++ moved_row (place + rows_len rows) placed ∷ []
moved_more place [] placed = ap (λ n. moved_row n placed ∷ []) (omega arith)
moved_more place (r ∷ rows) placed =
    let next : place + row_len r.row + rows_len rows ≡ place + rows_len (r ∷ rows) = omega arith in
    ap (λ (l : List PlacedRow). moved_row place r ∷ l) (moved_more (place + row_len r.row) rows placed ∙ ap (λ n. moved_rows (place + row_len r.row) rows ++ moved_row n placed ∷ []) next)

-- the first k keys were placed
pub record Moved (old : Index) (at k place : ℕ) (new : Index) : Type 0 where
  pub done : List PlacedRow
  pub rest : List PlacedRow
  pub counted : length done ≡ k
  pub rows_are : old.rows ≡ done ++ rest
  pub place_is : place ≡ at + 16 + rows_len done
  pub new_is : new ≡ record old { rows = moved_rows (at + 16) done ++ rest }

pub moved_none : (x : Index) (at : ℕ) → Moved x at 0 (at + 16) x
moved_none x at = record { done = []; rest = x.rows; counted = refl; rows_are = refl; place_is = omega arith; new_is = refl }

record Next (rest : List PlacedRow) : Type 0 where
  placed : PlacedRow
  more : List PlacedRow
  is : rest ≡ placed ∷ more

next_of : (rest : List PlacedRow) → 0 < length rest → Next rest
next_of [] some = absurd (omega arith)
next_of (placed ∷ more) some = record { placed = placed; more = more; is = refl }

module _ (old : Index) (at k place : ℕ) (new : Index) (moved : Moved old at k place new) (within : k < length old.rows) where
  next : Next moved.rest
  next = next_of moved.rest (omega (arith, within, ap (λ (l : List PlacedRow). length l) moved.rows_are, length-append moved.done moved.rest, moved.counted))

  abbrev done_rows : List PlacedRow
  done_rows = moved_rows (at + 16) moved.done

  counted_rows : length done_rows ≡ k
  counted_rows = length_moved (at + 16) moved.done ∙ moved.counted

  now : new.rows ≡ done_rows ++ next.placed ∷ next.more
  now = ap (λ (x : Index). x.rows) moved.new_is ∙ ap (λ (l : List PlacedRow). done_rows ++ l) next.is

  pub now_within : k < length new.rows
  now_within = omega (arith, ap (λ (l : List PlacedRow). length l) now, length-append done_rows (next.placed ∷ next.more), counted_rows)

  here : (d : PlacedRow) → get_or new.rows k d ≡ next.placed
  here d = ap (λ (l : List PlacedRow). get_or l k d) now ∙ get_or_at done_rows next.placed next.more d k counted_rows

  pub ends : (top : ℕ) → at + (16 + rows_len old.rows) ≤ top → HoldsAt (λ placed. place + row_len placed.row ≤ top) new.rows k
  ends top below d =
      let all : rows_len old.rows ≡ rows_len moved.done + row_len next.placed.row + rows_len next.more =
      ap rows_len moved.rows_are ∙ ap (λ (l : List PlacedRow). rows_len (moved.done ++ l)) next.is ∙ rows_len_more moved.done 0 next.placed next.more in
      let one : row_len (get_or new.rows k d).row ≡ row_len next.placed.row = ap (λ (p : PlacedRow). row_len p.row) (here d) in
      omega (arith, all, one, moved.place_is, below)

  pub moved_next : (end : ℕ) (later : Index) → HoldsAt (λ placed. end ≡ place + row_len placed.row) new.rows k → HoldsAt (λ placed. later ≡ with_at new k (moved_row place placed)) new.rows k → Moved old at (k + 1) end later
  moved_next end later ended is =
      let p = next.placed in
      let one : row_len (get_or new.rows k p).row ≡ row_len p.row = ap (λ (q : PlacedRow). row_len q.row) (here p) in
      let more : rows_len (moved.done ++ p ∷ []) ≡ rows_len moved.done + row_len p.row + 0 = rows_len_more moved.done 0 p [] in
      let row : moved_row place (get_or new.rows k p) ≡ moved_row (at + 16 + rows_len moved.done) p = ap (moved_row place) (here p) ∙ ap (λ n. moved_row n p) moved.place_is in
      let rows : set new.rows k (moved_row place (get_or new.rows k p)) ≡ moved_rows (at + 16) (moved.done ++ p ∷ []) ++ next.more =
      (λ i. set (now i) k (row i))
      ∙ set_at done_rows p next.more (moved_row (at + 16 + rows_len moved.done) p) k counted_rows
      ∙ sym (append_assoc done_rows (moved_row (at + 16 + rows_len moved.done) p ∷ []) next.more)
      ∙ ap (λ (l : List PlacedRow). l ++ next.more) (sym (moved_more (at + 16) moved.done p)) in
      record {
        done = moved.done ++ p ∷ [];
        rest = next.more;
        counted = omega (arith, length-append moved.done (p ∷ []), moved.counted);
        rows_are = moved.rows_are ∙ ap (λ (l : List PlacedRow). moved.done ++ l) next.is ∙ sym (append_assoc moved.done (p ∷ []) next.more);
        place_is = omega (arith, ended p, one, more, moved.place_is);
        new_is = is p ∙ (λ i. record (moved.new_is i) { rows = rows i });
      }

pub moved_all : (old : Index) (at k place : ℕ) (new : Index) (m : Materials) → Moved old at k place new → length old.rows ≤ k → IsSoundIndex old → AllSized m old → new ≡ index_at at (table_of m old)
moved_all old at k place new m moved whole is sized =
    let none : moved.rest ≡ [] = nil_from_length moved.rest (omega (arith, ap (λ (l : List PlacedRow). length l) moved.rows_are, length-append moved.done moved.rest, moved.counted, whole)) in
    let done : moved.done ≡ old.rows = sym (moved.rows_are ∙ ap (λ (l : List PlacedRow). moved.done ++ l) none ∙ append-nil moved.done) in
    moved.new_is
    ∙ (λ i. record old { rows = moved_rows (at + 16) (done i) ++ none i })
    ∙ ap (λ (l : List PlacedRow). record old { rows = l }) (append-nil (moved_rows (at + 16) old.rows) ∙ rows_placed m (at + 16) old.rows is.rows sized)

-- the file with the image

rows_fit : (m : Materials) (rows : List PlacedRow) → AllByRecursion IsPlacedRow rows → AllByRecursion (λ (placed : PlacedRow). AreSized m placed.row) rows → AllByRecursion (Fits m) (rows_of m rows)
rows_fit m [] are sized = tt
rows_fit m (placed ∷ rows) are sized = (record { stands = ap (row_of m) (brief_is m placed.row are.0.row.some); long = sized.0 }, rows_fit m rows are.1 sized.1)

pub moved_is_held : (m : Materials) (file : List ℕ) (x : Index) (place : ℕ) → IsSoundIndex x → AllSized m x → piece place (length (key_image (table_of m x))) file ≡ key_image (table_of m x)
    → AreHeld m file (index_at place (table_of m x)) × (table_of m (index_at place (table_of m x)) ≡ table_of m x)
moved_is_held m file x place is sized there =
    let fit = rows_fit m x.rows is.rows sized in
    (image_holds m file place (table_of m x) fit there, table_stands m place (table_of m x) fit)
