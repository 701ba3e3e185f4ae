-- What a whole copy comes to.
use Rattle.std.proofs.Common.{◌≡◌, inl, inr, arith, ℕ, zero, suc, Bool, true, false, cond, List, [], ◌∷◌, ◌++◌, length, take, ◌<◌, ◌≤◌, Option, Some, None, refl, sym, ap, ◌∙◌, subst}
use Rattle.std.specs.Prelude.{count_by, is_some}
use Rattle.std.specs.List.{AllByRecursion}
use Rattle.std.proofs.lemmas.List.{append-nil, length-take-le}
use Rattle.body_stream.specs.Vaults.{KeepsBodies}
use Rattle.name_calls.specs.Paths.{is_before, is_prefix, same_path}
use Rattle.inode_tree.specs.declared.rows.Row.{Row}
use Rattle.inode_tree.specs.Below.{rows_below}
use Rattle.inode_tree.specs.Rows.{Entry, IsRows, entry_of, is_dir_at, is_marked, put, row_at}
use Rattle.inode_tree.proofs.Seeks.{same-is}
use Rattle.row_blocks.specs.Below.{below}
use Rattle.row_blocks.proofs.Blocks.{both}
use Rattle.row_copies.specs.Clusters.{CopyState, IsTreeOfRows, KeepsBoth, KeepsCluster, MakesCopyDirectory, directory_at}
use Rattle.row_copies.specs.Copies.{AreCopies, CopiesAll, CopiesPart, HasBodyOf, MakesAbove, MakesMissing, MakesParents, PairsOfRows, StopsEarly, above}
use Rattle.row_copies.specs.Walks.{AddsCopies, IsNextSubtree, StopsWalk}
use Rattle.row_copies.proofs.AddLemmas.{all-right, all-same, cluster-join, keeps-join, makes-keeps, not-new, rebody, tells-too}
use Rattle.row_copies.proofs.NextLemmas.{all-below, none-below, none-removed, none-to-see}
use Rattle.row_copies.proofs.PutLemmas.{below-has, free-put}

-- the directories above

-- a path that is free once a row was put in was free before
absent-put : (e : Entry) (es : List Entry) (q : List (List ℕ)) → row_at (put e es) q ≡ None → row_at es q ≡ None
absent-put e [] q h = refl
absent-put e (x ∷ es) q h = go (is_before e.path x.path) h (absent-put e es q)
  where
    later : (b : Bool) (f : Entry) (fs : List Entry) → cond b (Some f.row) (row_at fs q) ≡ None → (b ≡ false) × (row_at fs q ≡ None)
    later true f fs h = cc
    later false f fs h = (refl, h)

    go : (b : Bool) → row_at (cond b (e ∷ x ∷ es) (x ∷ put e es)) q ≡ None → (row_at (put e es) q ≡ None → row_at es q ≡ None) → row_at (x ∷ es) q ≡ None
    go true h ih = (later (same_path e.path q) e (x ∷ es) h).1
    go false h ih =
        let parts = later (same_path x.path q) x (put e es) h in
        ap (λ (b : Bool). cond b (Some x.row) (row_at es q)) parts.0 ∙ ih parts.1

-- a row that is put in is not found at another path
put-other : (e : Entry) (es : List Entry) (q : List (List ℕ)) → same_path e.path q ≡ false → row_at (put e es) q ≡ row_at es q
put-other e [] q h = ap (λ (b : Bool). cond b (Some e.row) None) h
put-other e (x ∷ es) q h = go (is_before e.path x.path) (put-other e es q h)
  where
    go : (b : Bool) → row_at (put e es) q ≡ row_at es q → row_at (cond b (e ∷ x ∷ es) (x ∷ put e es)) q ≡ row_at (x ∷ es) q
    go true ih = ap (λ (b : Bool). cond b (Some e.row) (row_at (x ∷ es) q)) h
    go false ih = ap (λ (o : Option Row). cond (same_path x.path q) (Some x.row) o) ih

shorter-other : (p q : List (List ℕ)) → length p < length q → same_path p q ≡ false
shorter-other p q h = go (same_path p q) refl
  where
    go : (b : Bool) → same_path p q ≡ b → b ≡ false
    go true s = let e = ap length (same-is p q s) in absurd (omega (arith, h, e))
    go false s = refl

missing-other : (found : Option Row) (path to : List (List ℕ)) (a b : CopyState) → same_path path to ≡ false → MakesMissing found path a b → row_at b.target.rows to ≡ row_at a.target.rows to
missing-other None path to a b h m = ap (λ (rows : List Entry). row_at rows to) m.rows ∙ put-other (directory_at m.id path None) a.target.rows to h
missing-other (Some row) path to a b h k = ap (λ (rows : List Entry). row_at rows to) k.target.rows

-- the directories above a path are not at it
above-other : (n : ℕ) (to : List (List ℕ)) (a b : CopyState) → n ≤ above to → MakesAbove n to a b → row_at b.target.rows to ≡ row_at a.target.rows to
above-other zero to a b h k = ap (λ (rows : List Entry). row_at rows to) k.target.rows
above-other (suc n) to a b h m =
    let short = length-take-le (suc n) to (omega (arith, h)) in
    missing-other (row_at m.0.target.rows (take (suc n) to)) (take (suc n) to) to m.0 b (shorter-other (take (suc n) to) to (omega (arith, h, short))) m.2
    ∙ above-other n to a m.0 (omega (arith, h)) m.1

-- so a row at it was there before
pub taken-before : (to : List (List ℕ)) (a b c : CopyState) → KeepsBoth a b → MakesAbove (above to) to b c → is_some (row_at c.target.rows to) ≡ true → is_some (row_at a.target.rows to) ≡ true
taken-before to a b c k m some =
    subst (λ (o : Option Row). is_some o ≡ true) (above-other (above to) to b c (omega arith) m ∙ ap (λ (rows : List Entry). row_at rows to) k.target.rows) some

-- what stays when directories are made
pub record Led (a b : CopyState) : Type 0 where
  pub source : KeepsCluster a.source b.source
  pub bodies : KeepsBodies a.target.bodies b.target.bodies
  pub kept : (id : ℕ) → entry_of b.target.rows id ≡ None → entry_of a.target.rows id ≡ None
  pub absent : (q : List (List ℕ)) → row_at b.target.rows q ≡ None → row_at a.target.rows q ≡ None

pub led-keeps : (a b : CopyState) → KeepsBoth a b → Led a b
led-keeps a b k = record {
  source = k.source;
  bodies = k.target.bodies;
  kept = λ id none. subst (λ (rows : List Entry). entry_of rows id ≡ None) k.target.rows none;
  absent = λ q none. subst (λ (rows : List Entry). row_at rows q ≡ None) k.target.rows none;
}

pub led-makes : (path : List (List ℕ)) (a b : CopyState) → MakesCopyDirectory path a b → Led a b
led-makes path a b m = record {
  source = m.source;
  bodies = m.bodies;
  kept = λ id none. (free-put (directory_at m.id path None) a.target.rows id (subst (λ (rows : List Entry). entry_of rows id ≡ None) m.rows none)).1;
  absent = λ q none. absent-put (directory_at m.id path None) a.target.rows q (subst (λ (rows : List Entry). row_at rows q ≡ None) m.rows none);
}

led-missing : (found : Option Row) (path : List (List ℕ)) (a b : CopyState) → MakesMissing found path a b → Led a b
led-missing None path a b m = led-makes path a b m
led-missing (Some row) path a b k = led-keeps a b k

led-join : (a b c : CopyState) → Led a b → Led b c → Led a c
led-join a b c f g = record {
  source = cluster-join a.source b.source c.source f.source g.source;
  bodies = record { tells = g.bodies.tells ∙ f.bodies.tells; bodies = λ tells id. g.bodies.bodies (tells-too a.target.bodies b.target.bodies f.bodies.tells tells) id ∙ f.bodies.bodies tells id };
  kept = λ id none. f.kept id (g.kept id none);
  absent = λ q none. f.absent q (g.absent q none);
}

pub led : (n : ℕ) (to : List (List ℕ)) (a b : CopyState) → MakesAbove n to a b → Led a b
led zero to a b k = led-keeps a b k
led (suc n) to a b m = led-join a m.0 b (led n to a m.0 m.1) (led-missing (row_at m.0.target.rows (take (suc n) to)) (take (suc n) to) m.0 b m.2)

missing-keeps : (found : Option Row) (path : List (List ℕ)) (a b c : CopyState) → MakesMissing found path a b → KeepsBoth b c → MakesMissing found path a c
missing-keeps None path a b c m k = makes-keeps path a b c m k
missing-keeps (Some row) path a b c m k = keeps-join a b c m k

pub above-keeps : (n : ℕ) (to : List (List ℕ)) (a b c : CopyState) → MakesAbove n to a b → KeepsBoth b c → MakesAbove n to a c
above-keeps zero to a b c m k = keeps-join a b c m k
above-keeps (suc n) to a b c m k = (m.0, m.1, missing-keeps (row_at m.0.target.rows (take (suc n) to)) (take (suc n) to) m.0 b c m.2 k)

pub above-since : (n : ℕ) (to : List (List ℕ)) (a b c : CopyState) → KeepsBoth a b → MakesAbove n to b c → MakesAbove n to a c
above-since zero to a b c k m = keeps-join a b c k m
above-since (suc n) to a b c k m = (m.0, above-since n to a b m.0 k m.1, m.2)

pub above-next : (n m : ℕ) (to path : List (List ℕ)) (a b c : CopyState) → m ≡ suc n → path ≡ take m to → MakesAbove n to a b → MakesMissing (row_at b.target.rows path) path b c → MakesAbove m to a c
above-next n m to path a b c is is_path f g =
    let same : path ≡ take (suc n) to = is_path ∙ ap (λ (k : ℕ). take k to) is in
    subst (λ (k : ℕ). MakesAbove k to a c) (sym is) (b, f, subst (λ (q : List (List ℕ)). MakesMissing (row_at b.target.rows q) q b c) same g)

-- the end

some-is : (o : Option Entry) → (o ≡ None → ⊥) → is_some o ≡ true
some-is None h = absurd (h refl)
some-is (Some e) h = refl

none-is : (o : Option Entry) → is_some o ≡ true → o ≡ None → ⊥
none-is None h e = cc
none-is (Some x) h e = cc

all-kept : (rows ys : List Entry) (f g : ℕ → List ℕ) → ((id : ℕ) → is_some (entry_of rows id) ≡ true → g id ≡ f id) → AllByRecursion (λ (y : Entry). entry_of rows y.row.id ≡ None → ⊥) ys
    → AllByRecursion (λ (y : Entry). g y.row.id ≡ f y.row.id) ys
all-kept rows [] f g own has = tt
all-kept rows (y ∷ ys) f g own has = (own y.row.id (some-is (entry_of rows y.row.id) has.0), all-kept rows ys f g own has.1)

module _ (to : List (List ℕ)) (a p b : CopyState) (made : MakesAbove (above to) to a p) (rows : IsRows p.target.rows) (absent : row_at p.target.rows to ≡ None) where
  l : Led a p
  l = led (above to) to a p made

  none : AllByRecursion (λ (e : Entry). is_prefix to e.path ≡ false) p.target.rows
  none = none-below p.target.rows to rows absent

  empty : rows_below p.target.rows to ≡ []
  empty = none-to-see p.target.rows to none

  pub source-rows : below p.source.rows [] ≡ a.source.rows
  source-rows = all-below p.source.rows ∙ l.source.rows

  pub was-absent : row_at a.target.rows to ≡ None
  was-absent = l.absent to absent

  pub copies-all : AddsCopies to (below p.source.rows []) p b → CopiesAll to a b
  copies-all f = record {
    rows = f.made;
    makes = record {
      parents = p;
      led = made;
      made_is = f.there ∙ ap (λ (l : List Entry). l ++ f.made) empty;
      others = f.removed_is ∙ none-removed p.target.rows to none;
      source = cluster-join a.source p.source b.source l.source f.source;
      tells = f.tells ∙ l.bodies.tells;
    };
    copied = subst (λ (xs : List Entry). AreCopies xs f.made) source-rows f.copied;
    bodies = λ t u.
        rebody a.source.bodies.bodies p.source.bodies.bodies b.target.bodies.bodies b.target.bodies.bodies a.source.rows f.made (λ id. l.source.bodies.bodies t id) (all-same b.target.bodies.bodies f.made)
        (subst (λ (xs : List Entry). PairsOfRows (HasBodyOf p.source.bodies.bodies b.target.bodies.bodies) xs f.made) source-rows
        (f.bodies (tells-too a.source.bodies p.source.bodies l.source.bodies.tells t) (tells-too a.target.bodies p.target.bodies l.bodies.tells u)));
    others = λ u id no. f.others (tells-too a.target.bodies p.target.bodies l.bodies.tells u) id no ∙ l.bodies.bodies u id;
  }

  pub copies-part : StopsWalk to (below p.source.rows []) p b → CopiesPart to a b
  copies-part s =
      let f = s.adds in
      let m = s.mid in
      let has : AllByRecursion (λ (y : Entry). entry_of m.target.rows y.row.id ≡ None → ⊥) f.made =
      all-right (λ (y : Entry). entry_of m.target.rows y.row.id ≡ None → ⊥) (rows_below p.target.rows to) f.made
      (subst (λ (ys : List Entry). AllByRecursion (λ (y : Entry). entry_of m.target.rows y.row.id ≡ None → ⊥) ys) f.there (below-has m.target.rows to)) in
      record {
        done = s.part;
        rest = s.more;
        whole = s.whole ∙ source-rows;
        rows = f.made;
        unmarked = s.ends.unmarked;
        makes = record {
          parents = p;
          led = made;
          made_is = s.ends.there ∙ ap (λ (l : List Entry). l ++ s.ends.unmarked) (f.there ∙ ap (λ (l : List Entry). l ++ f.made) empty);
          others = s.ends.removed_is ∙ f.removed_is ∙ none-removed p.target.rows to none;
          source = cluster-join a.source p.source b.source l.source (cluster-join p.source m.source b.source f.source s.ends.source);
          tells = s.ends.tells ∙ f.tells ∙ l.bodies.tells;
        };
        copied = f.copied;
        bodies = λ t u.
            let t' = tells-too a.source.bodies p.source.bodies l.source.bodies.tells t in
            let u' = tells-too a.target.bodies p.target.bodies l.bodies.tells u in
            rebody a.source.bodies.bodies p.source.bodies.bodies m.target.bodies.bodies b.target.bodies.bodies s.part f.made (λ id. l.source.bodies.bodies t id)
            (all-kept m.target.rows f.made m.target.bodies.bodies b.target.bodies.bodies (λ id some. s.ends.bodies (tells-too p.target.bodies m.target.bodies f.tells u') id some) has)
            (f.bodies t' u');
        own = λ u id some.
            let u' = tells-too a.target.bodies p.target.bodies l.bodies.tells u in
            let in_p : entry_of p.target.rows id ≡ None → ⊥ = λ no. none-is (entry_of a.target.rows id) some (l.kept id no) in
            let in_m : entry_of m.target.rows id ≡ None → ⊥ = λ no. in_p (f.kept id no) in
            s.ends.bodies (tells-too p.target.bodies m.target.bodies f.tells u') id (some-is (entry_of m.target.rows id) in_m)
            ∙ f.others u' id (not-new p.target.rows f.made id f.fresh in_p)
            ∙ l.bodies.bodies u id;
        next = s.ends.next;
      }

  -- the root of the source is next
  pub first-next : (row : Row) → row_at p.source.rows [] ≡ Some row → IsNextSubtree [] to p
  first-next row at = record {
    row = row;
    is_row = at;
    done = [];
    rest = [];
    whole = append-nil (below p.source.rows []) ∙ all-below p.source.rows;
    there = subst (λ (ys : List Entry). AreCopies [] ys) (sym empty) tt;
  }

-- the whole copy: the check of the source, the directories above, the check of the target, and the rows

root-row : (o : Option Row) → is_dir_at o ≡ true → (row : Row) × (o ≡ Some row)
root-row None h = cc
root-row (Some row) h = (row, refl)

pub zone-stops : (to : List (List ℕ)) (a b : CopyState) → KeepsBoth a b → StopsEarly to a b
zone-stops to a b k = inl (record { count = 0; few = omega arith; made = k })

pub parents-stop : (to : List (List ℕ)) (a b c : CopyState) → KeepsBoth a b → MakesParents to b c → StopsEarly to a c
parents-stop to a b c k m = inl (record { count = m.count; few = m.few; made = above-since m.count to a b c k m.made })

pub absent-stops : (to : List (List ℕ)) (a b c d : CopyState) → KeepsBoth a b → MakesAbove (above to) to b c → KeepsBoth c d → StopsEarly to a d
absent-stops to a b c d k m l = inl (record { count = above to; few = omega arith; made = above-keeps (above to) to a c d (above-since (above to) to a b c k m) l })

module _ (to root : List (List ℕ)) (a b c p : CopyState) (is_root : root ≡ []) (k : KeepsBoth a b) (m : MakesAbove (above to) to b c) (l : KeepsBoth c p) (none_at : row_at c.target.rows to ≡ None)
    (t : IsTreeOfRows p.source.rows) (rows : IsRows p.target.rows) where
  made : MakesAbove (above to) to a p
  made = above-keeps (above to) to a c p (above-since (above to) to a b c k m) l

  absent : row_at p.target.rows to ≡ None
  absent = ap (λ (es : List Entry). row_at es to) l.target.rows ∙ none_at

  pub whole-next : IsNextSubtree root to p
  whole-next =
      let row = root-row (row_at p.source.rows []) t.rooted in
      subst (λ (q : List (List ℕ)). IsNextSubtree q to p) (sym is_root) (first-next to a p p made rows absent row.0 row.1)

  pub whole-all : (e : CopyState) → AddsCopies to (below p.source.rows root) p e → CopiesAll to a e
  whole-all e f = copies-all to a p e made rows absent (subst (λ (q : List (List ℕ)). AddsCopies to (below p.source.rows q) p e) is_root f)

  pub whole-part : (e : CopyState) → StopsWalk to (below p.source.rows root) p e → StopsEarly to a e
  whole-part e s = inr (copies-part to a p e made rows absent (subst (λ (q : List (List ℕ)). StopsWalk to (below p.source.rows q) p e) is_root s))

  pub whole-count : (test : Entry → Bool) → count_by test (below p.source.rows root) ≡ count_by test a.source.rows
  whole-count test = ap (λ (q : List (List ℕ)). count_by test (below p.source.rows q)) is_root ∙ ap (count_by test) (source-rows to a p p made rows absent)

  pub whole-absent : row_at a.target.rows to ≡ None
  whole-absent = was-absent to a p p made rows absent

abbrev marks : Option Row → Bool
marks None = false
marks (Some row) = is_marked row

-- a directory that is marked is not without a mark
pub marked-not : (rows : List Entry) (root : List (List ℕ)) (row : Row) → root ≡ [] → ((found : Row) × (row_at rows root ≡ Some found) × (is_marked found ≡ true)) → row_at rows [] ≡ Some row → is_marked row ≡ false → ⊥
marked-not rows root row is_root found at plain =
    both (is_marked row) (ap marks (sym at ∙ ap (row_at rows) (sym is_root) ∙ found.1) ∙ found.2) plain
