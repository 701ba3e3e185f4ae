-- The steps of the walk.
use Rattle.std.proofs.Common.{◌≡◌, ◌⊎◌, inl, inr, ℕ, zero, suc, ◌+◌, ◌<◌, ◌≤◌, Bool, true, false, cond, List, [], ◌∷◌, ◌++◌, length, take, drop, map, get_or, Some, None, refl, sym, ap, ◌∙◌, subst, arith, take_all}
use Rattle.std.specs.Prelude.{not, count_by}
use Rattle.std.proofs.lemmas.List.{append-nil}
use Rattle.std.proofs.lemmas.List.Sums.{sum_by-append}
use Rattle.name_calls.specs.declared.listing.Child.{Child}
use Rattle.name_calls.specs.Paths.{is_relative, last_name}
use Rattle.inode_tree.specs.declared.rows.Kind.{Kind}
use Rattle.inode_tree.specs.declared.rows.Kind.TheVariants.{Dir, File}
use Rattle.inode_tree.specs.declared.rows.Row.{Row}
use Rattle.inode_tree.specs.Below.{rows_below}
use Rattle.inode_tree.specs.Listing.{child_of, children}
use Rattle.inode_tree.specs.Rows.{Entry, IsRising, IsRows, is_dir, is_marked, row_at}
use Rattle.row_blocks.specs.Below.{below, belows}
use Rattle.row_blocks.proofs.Rows.{all-in}
use Rattle.row_copies.specs.declared.walk.Copied.{Copied}
use Rattle.row_copies.specs.Clusters.{CopyState, IsTreeOfRows, KeepsBoth, KeepsRows, MakesCopyDirectory}
use Rattle.row_copies.specs.Copies.{is_file}
use Rattle.row_copies.specs.Walks.{AddsCopies, CopiesRow, CountsOne, CountsRows, IsNextSubtree, MakesCopy, MakesKind, StopsWalk, entry_at, is_directory, one_if}
use Rattle.row_copies.proofs.AddLemmas.{adds-directory, adds-file, adds-join, keeps-adds, keeps-rows, stops-half, stops-here, stops-more, stops-then}
use Rattle.row_copies.proofs.NextLemmas.{all-before, block-is, blocks-at, kid-at, kids-of, next-kid, no-kids, take-next, belows-join}
use Rattle.row_copies.proofs.PutLemmas.{AllBefore}

-- counts

count-join : (p : Entry → Bool) (xs ys : List Entry) → count_by p (xs ++ ys) ≡ count_by p xs + count_by p ys
count-join p xs ys = sum_by-append (λ (e : Entry). cond (p e) 1 0) xs ys

pub counts-join : (xs ys : List Entry) (c d e : Copied) → CountsRows xs c d → CountsRows ys d e → CountsRows (xs ++ ys) c e
counts-join xs ys c d e f g = (omega (arith, f.0, g.0, count-join is_file xs ys), omega (arith, f.1, g.1, count-join is_directory xs ys))

pub counts-one : (x : Entry) (directory : Bool) (c d : Copied) → directory ≡ is_dir x.row.kind → CountsOne directory c d → CountsRows (x ∷ []) c d
counts-one x directory c d is f =
    let one = go (is_dir x.row.kind) in
    let same = subst (λ (b : Bool). CountsOne b c d) is f in
    (omega (arith, same.0, one.0), omega (arith, same.1, one.1))
  where
    go : (b : Bool) → (one_if (not b) ≡ cond (not b) 1 0 + 0) × (one_if b ≡ cond b 1 0 + 0)
    go true = (refl, refl)
    go false = (refl, refl)

-- one row

module _ (from to : List (List ℕ)) (a : CopyState) (n : IsNextSubtree from to a) (t : IsTreeOfRows a.source.rows) (r : IsRows a.target.rows) where
  before : (b : CopyState) → KeepsBoth a b → AllBefore to from (rows_below b.target.rows to)
  before b k = subst (λ (rows : List Entry). AllBefore to from (rows_below rows to)) (sym k.target.rows) (all-before from to a n t)

  rising : (b : CopyState) → KeepsBoth a b → IsRising b.target.rows
  rising b k = subst IsRising (sym k.target.rows) r.rising

  pub row-copied : (row : Row) (directory : Bool) (b c : CopyState) → row_at a.source.rows from ≡ Some row → KeepsBoth a b → MakesCopy row (to ++ from) directory b c → CopiesRow from to directory a c
  row-copied row directory b c at k m = record { row = row; is_row = at; kind = m.0; adds = adds-join to [] (entry_at from row ∷ []) a b c (keeps-adds to a b k) (go row.kind refl m.1) }
    where
      go : (kind : Kind) → row.kind ≡ kind → MakesKind kind row.id (to ++ from) b c → AddsCopies to (entry_at from row ∷ []) b c
      go (Dir key) is m = adds-directory to (entry_at from row) (Dir key) b c (rising b k) (before b k) is refl m
      go (File edek) is m = adds-file to (entry_at from row) edek b c (rising b k) (before b k) is m

  pub row-stopped : (row : Row) (b c : CopyState) → row_at a.source.rows from ≡ Some row → KeepsBoth a b → KeepsRows b c ⊎ ((is_marked row ≡ true) × MakesCopyDirectory (to ++ from) b c) → StopsWalk to (below a.source.rows from) a c
  row-stopped row b c at k (inl kept) = stops-then to [] (below a.source.rows from) a b c (keeps-adds to a b k) (stops-here to (below a.source.rows from) b c kept)
  row-stopped row b c at k (inr (zone, made)) =
      subst (λ (l : List Entry). StopsWalk to l a c) (sym (block-is a.source.rows from row t at))
      (stops-then to [] (entry_at from row ∷ belows (kids-of a.source.rows from) a.source.rows) a b c (keeps-adds to a b k)
      (stops-half to (entry_at from row) (belows (kids-of a.source.rows from) a.source.rows) b c (rising b k) (before b k) zone made))

pub kept-stops : (to : List (List ℕ)) (block : List Entry) (a b : CopyState) → KeepsBoth a b → StopsWalk to block a b
kept-stops to block a b k = stops-here to block a b (keeps-rows a b k)

-- the rows below

pub no_entry : Entry
no_entry = record { path = []; row = record { id = 0; kind = Dir None } }

-- the row at `from` and the blocks of its first k children are copied, and counted
pub record Walked (from to : List (List ℕ)) (k : ℕ) (a b : CopyState) (counts now : Copied) : Type 0 where
  pub row : Row
  pub is_row : row_at a.source.rows from ≡ Some row
  pub adds : AddsCopies to (entry_at from row ∷ belows (take k (kids-of a.source.rows from)) a.source.rows) a b
  pub counts_are : CountsRows (entry_at from row ∷ belows (take k (kids-of a.source.rows from)) a.source.rows) counts now

pub walked-first : (from to : List (List ℕ)) (directory : Bool) (a b c : CopyState) (counts now : Copied) → CopiesRow from to directory a b → CountsOne directory counts now → KeepsBoth b c → Walked from to 0 a c counts now
walked-first from to directory a b c counts now f one k = record {
  row = f.row;
  is_row = f.is_row;
  adds = adds-join to (entry_at from f.row ∷ []) [] a b c f.adds (keeps-adds to b c k);
  counts_are = counts-one (entry_at from f.row) directory counts now f.kind one;
}

module _ (from to : List (List ℕ)) (k : ℕ) (a b : CopyState) (counts now : Copied) (t : IsTreeOfRows a.source.rows) (w : Walked from to k a b counts now) where
  abbrev pub kids : List Entry
  kids = kids-of a.source.rows from

  abbrev pub first : List Entry
  first = entry_at from w.row ∷ belows (take k kids) a.source.rows

  pub walked-next : (c : CopyState) (then : Copied) → k < length kids → AddsCopies to (below b.source.rows (get_or kids k no_entry).path) b c → CountsRows (below b.source.rows (get_or kids k no_entry).path) now then
      → Walked from to (suc k) a c counts then
  walked-next c then h f counted =
      let rows = a.source.rows in
      let kid = get_or kids k no_entry in
      let more : first ++ below rows kid.path ≡ entry_at from w.row ∷ belows (take (suc k) kids) rows =
      ap (λ (l : List Entry). entry_at from w.row ∷ l)
      (ap (λ (l : List Entry). belows (take k kids) rows ++ l) (sym (append-nil (below rows kid.path))) ∙ sym (belows-join (take k kids) (kid ∷ []) rows) ∙ ap (λ (l : List Entry). belows l rows) (sym (take-next kids k no_entry h))) in
      record {
        row = w.row;
        is_row = w.is_row;
        adds = subst (λ (l : List Entry). AddsCopies to l a c) more (adds-join to first (below rows kid.path) a b c w.adds (subst (λ (es : List Entry). AddsCopies to (below es kid.path) b c) w.adds.source.rows f));
        counts_are = subst (λ (l : List Entry). CountsRows l counts then) more (counts-join first (below rows kid.path) counts now then w.counts_are (subst (λ (es : List Entry). CountsRows (below es kid.path) now then) w.adds.source.rows counted));
      }

  pub walked-stops : (c : CopyState) → k < length kids → StopsWalk to (below b.source.rows (get_or kids k no_entry).path) b c → StopsWalk to (below a.source.rows from) a c
  walked-stops c h s =
      let rows = a.source.rows in
      let kid = get_or kids k no_entry in
      let later = belows (drop (suc k) kids) rows in
      subst (λ (l : List Entry). StopsWalk to l a c) (sym (blocks-at rows from w.row k no_entry t w.is_row h))
      (stops-then to first (below rows kid.path ++ later) a b c w.adds (stops-more to (below rows kid.path) later b c (subst (λ (es : List Entry). StopsWalk to (below es kid.path) b c) w.adds.source.rows s)))

  pub walked-early : (c : CopyState) → k < length kids → KeepsRows b c → StopsWalk to (below a.source.rows from) a c
  walked-early c h kept = walked-stops c h (stops-here to (below b.source.rows (get_or kids k no_entry).path) b c kept)

  pub walked-all : length kids ≤ k → AddsCopies to (below a.source.rows from) a b × CountsRows (below a.source.rows from) counts now
  walked-all h =
      let whole : first ≡ below a.source.rows from = ap (λ (l : List Entry). entry_at from w.row ∷ belows l a.source.rows) (take_all k kids h) ∙ sym (block-is a.source.rows from w.row t w.is_row) in
      (subst (λ (l : List Entry). AddsCopies to l a b) whole w.adds, subst (λ (l : List Entry). CountsRows l counts now) whole w.counts_are)

  pub walked-kid : (n : IsNextSubtree from to a) → k < length kids → IsNextSubtree (get_or kids k no_entry).path to b
  walked-kid n h = next-kid from to w.row k no_entry a b n t w.is_row h w.adds

-- a file has nothing below it
pub file-done : (from to : List (List ℕ)) (directory : Bool) (a b : CopyState) (counts now : Copied) → IsTreeOfRows a.source.rows → CopiesRow from to directory a b → CountsOne directory counts now → directory ≡ false
    → AddsCopies to (below a.source.rows from) a b × CountsRows (below a.source.rows from) counts now
file-done from to directory a b counts now t f one file =
    let whole : entry_at from f.row ∷ [] ≡ below a.source.rows from =
    sym (block-is a.source.rows from f.row t f.is_row ∙ ap (λ (l : List Entry). entry_at from f.row ∷ belows l a.source.rows) (no-kids a.source.rows from f.row t f.is_row (sym f.kind ∙ file))) in
    (subst (λ (l : List Entry). AddsCopies to l a b) whole f.adds, subst (λ (l : List Entry). CountsRows l counts now) whole (counts-one (entry_at from f.row) directory counts now f.kind one))

-- a walk that ends right after a row
pub row-then-stops : (from to : List (List ℕ)) (directory : Bool) (a b c : CopyState) → IsTreeOfRows a.source.rows → CopiesRow from to directory a b → KeepsBoth b c → StopsWalk to (below a.source.rows from) a c
row-then-stops from to directory a b c t f k =
    subst (λ (l : List Entry). StopsWalk to l a c) (sym (block-is a.source.rows from f.row t f.is_row))
    (stops-then to (entry_at from f.row ∷ []) (belows (kids-of a.source.rows from) a.source.rows) a b c f.adds (kept-stops to (belows (kids-of a.source.rows from) a.source.rows) b c k))

-- the list of the children

get-map : (es : List Entry) (k : ℕ) (c : Child) (d : Entry) → k < length es → get_or (map child_of es) k c ≡ child_of (get_or es k d)
get-map [] k c d h = absurd (omega (arith, h))
get-map (e ∷ es) zero c d h = refl
get-map (e ∷ es) (suc k) c d h = get-map es k c d (omega (arith, h))

long-map : (es : List Entry) → length (map child_of es) ≡ length es
long-map [] = refl
long-map (e ∷ es) = ap suc (long-map es)

pub many-kids : (rows : List Entry) (from : List (List ℕ)) (items : List Child) → items ≡ children rows from → length items ≡ length (kids-of rows from)
many-kids rows from items is = ap length is ∙ long-map (kids-of rows from)

pub kid-path : (rows : List Entry) (from : List (List ℕ)) (items : List Child) (k : ℕ) (c child : Child) → items ≡ children rows from → k < length items → child ≡ get_or items k c
    → from ++ child.name ∷ [] ≡ (get_or (kids-of rows from) k no_entry).path
kid-path rows from items k c child is h is_child =
    let few : k < length (kids-of rows from) = omega (arith, h, many-kids rows from items is) in
    let name : child.name ≡ last_name (get_or (kids-of rows from) k no_entry).path =
    ap (λ (x : Child). x.name) (is_child ∙ ap (λ (l : List Child). get_or l k c) is ∙ get-map (kids-of rows from) k c no_entry few) in
    ap (λ (x : List ℕ). from ++ x ∷ []) name ∙ sym (kid-at rows from k no_entry few).path

pub kid-ruled : (rows : List Entry) (from : List (List ℕ)) (k : ℕ) → IsTreeOfRows rows → k < length (kids-of rows from) → is_relative (get_or (kids-of rows from) k no_entry).path ≡ true
kid-ruled rows from k t h = all-in (λ (e : Entry). is_relative e.path ≡ true) rows (get_or (kids-of rows from) k no_entry) t.ruled (kid-at rows from k no_entry h).is_in
