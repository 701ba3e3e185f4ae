-- Copies that come one after another.
use Rattle.std.proofs.Common.{◌≡◌, ℕ, Bool, true, false, ◌&&◌, IsTrue, List, [], ◌∷◌, ◌++◌, Option, Some, None, refl, sym, ap, ◌∙◌, subst, append_assoc}
use Rattle.std.specs.Prelude.{◌==◌}
use Rattle.std.specs.List.{AllByRecursion}
use Rattle.std.proofs.lemmas.List.{append-nil}
use Rattle.std.proofs.lemmas.Bool.{eq-eqb, eqb-true, or_parts, or_from}
use Rattle.hk_base.specs.declared.names.Edek.{Edek}
use Rattle.hk_base.specs.declared.names.KeyName.{KeyName}
use Rattle.body_stream.specs.Vaults.{TellsBodies, VaultState}
use Rattle.inode_tree.specs.declared.rows.Kind.{Kind}
use Rattle.inode_tree.specs.declared.rows.Kind.TheVariants.{Dir, File}
use Rattle.inode_tree.specs.declared.rows.Row.{Row}
use Rattle.inode_tree.specs.Below.{rows_below}
use Rattle.inode_tree.specs.Rows.{Entry, IsRising, entry_of, is_dir, is_marked, removed, row_at, set_kind}
use Rattle.inode_tree.proofs.MovedPaths.{prefix-append}
use Rattle.row_blocks.proofs.Blocks.{both}
use Rattle.row_copies.specs.Clusters.{ClusterState, CopiesFile, CopyState, KeepsBoth, KeepsCluster, KeepsRows, MakesCopyDirectory, MarksCopyDirectory, directory_at, file_at}
use Rattle.row_copies.specs.Copies.{HasBodyOf, IsCopyOf, IsUnmarked, PairsOfRows, has_file, is_file}
use Rattle.row_copies.specs.Walks.{AddsCopies, EndsWalk, MakesRow, StopsWalk, entry_at}
use Rattle.row_copies.proofs.PutLemmas.{AllBefore, below-has, below-put, free-put, removed-put, row-of-put, set-put}

pub tells-too : (old new : VaultState) → new.tells ≡ old.tells → TellsBodies old → TellsBodies new
tells-too old new same tells = subst (λ (b : Bool). IsTrue b) (sym same) tells

-- pairs

pub pairs-join : (R : Entry → Entry → Type 0) (xs ys xs' ys' : List Entry) → PairsOfRows R xs ys → PairsOfRows R xs' ys' → PairsOfRows R (xs ++ xs') (ys ++ ys')
pairs-join R [] [] xs' ys' h more = more
pairs-join R [] (y ∷ ys) xs' ys' h more = absurd h
pairs-join R (x ∷ xs) [] xs' ys' h more = absurd h
pairs-join R (x ∷ xs) (y ∷ ys) xs' ys' h more = (h.0, pairs-join R xs ys xs' ys' h.1 more)

pub all-right : (P : Entry → Type 0) (xs ys : List Entry) → AllByRecursion P (xs ++ ys) → AllByRecursion P ys
all-right P [] ys h = h
all-right P (x ∷ xs) ys h = all-right P xs ys h.1

all-join : (P : Entry → Type 0) (xs ys : List Entry) → AllByRecursion P xs → AllByRecursion P ys → AllByRecursion P (xs ++ ys)
all-join P [] ys h more = more
all-join P (x ∷ xs) ys h more = (h.0, all-join P xs ys h.1 more)

all-so : (P Q : Entry → Type 0) (xs : List Entry) → ((e : Entry) → P e → Q e) → AllByRecursion P xs → AllByRecursion Q xs
all-so P Q [] so h = tt
all-so P Q (x ∷ xs) so h = (so x h.0, all-so P Q xs so h.1)

-- the bodies of these files are the same elsewhere
pub rebody : (bodies bodies' copies copies' : ℕ → List ℕ) (xs ys : List Entry) → ((id : ℕ) → bodies' id ≡ bodies id) → AllByRecursion (λ (y : Entry). copies' y.row.id ≡ copies y.row.id) ys
    → PairsOfRows (HasBodyOf bodies' copies) xs ys → PairsOfRows (HasBodyOf bodies copies') xs ys
rebody bodies bodies' copies copies' [] [] same alike h = tt
rebody bodies bodies' copies copies' [] (y ∷ ys) same alike h = absurd h
rebody bodies bodies' copies copies' (x ∷ xs) [] same alike h = absurd h
rebody bodies bodies' copies copies' (x ∷ xs) (y ∷ ys) same alike h =
    (λ file. alike.0 ∙ h.0 file ∙ same x.row.id, rebody bodies bodies' copies copies' xs ys same alike.1 h.1)

pub all-same : (f : ℕ → List ℕ) (ys : List Entry) → AllByRecursion (λ (y : Entry). f y.row.id ≡ f y.row.id) ys
all-same f [] = tt
all-same f (y ∷ ys) = (refl, all-same f ys)

-- files

pub and-no : (a b : Bool) → (b ≡ true → ⊥) → (a && b) ≡ false
and-no true true h = absurd (h refl)
and-no true false h = refl
and-no false b h = refl

pub files-parts : (xs ys : List Entry) (id : ℕ) → has_file (xs ++ ys) id ≡ false → (has_file xs id ≡ false) × (has_file ys id ≡ false)
files-parts [] ys id h = (refl, h)
files-parts (x ∷ xs) ys id h =
    let parts = or_parts (is_file x && x.row.id == id) (has_file (xs ++ ys) id) h in
    let more = files-parts xs ys id parts.1 in
    (or_from (is_file x && x.row.id == id) (has_file xs id) parts.0 more.0, more.1)

-- an id that is not free is not that of a new row
pub not-new : (rows made : List Entry) (id : ℕ) → AllByRecursion (λ (z : Entry). entry_of rows z.row.id ≡ None) made → (entry_of rows id ≡ None → ⊥) → has_file made id ≡ false
not-new rows [] id fresh has = refl
not-new rows (z ∷ made) id fresh has =
    or_from (is_file z && z.row.id == id) (has_file made id)
    (and-no (is_file z) (z.row.id == id) (λ same. has (subst (λ (j : ℕ). entry_of rows j ≡ None) (eqb-true z.row.id id same) fresh.0)))
    (not-new rows made id fresh.1 has)

all-old : (rows made ys : List Entry) (f g : ℕ → List ℕ) → AllByRecursion (λ (z : Entry). entry_of rows z.row.id ≡ None) made → ((id : ℕ) → has_file made id ≡ false → g id ≡ f id)
    → AllByRecursion (λ (y : Entry). entry_of rows y.row.id ≡ None → ⊥) ys → AllByRecursion (λ (y : Entry). g y.row.id ≡ f y.row.id) ys
all-old rows made [] f g fresh others has = tt
all-old rows made (y ∷ ys) f g fresh others has = (others y.row.id (not-new rows made y.row.id fresh has.0), all-old rows made ys f g fresh others has.1)

-- clusters

pub cluster-join : (a b c : ClusterState) → KeepsCluster a b → KeepsCluster b c → KeepsCluster a c
cluster-join a b c f g = record {
  rows = g.rows ∙ f.rows;
  bodies = record {
    tells = g.bodies.tells ∙ f.bodies.tells;
    bodies = λ tells id. g.bodies.bodies (tells-too a.bodies b.bodies f.bodies.tells tells) id ∙ f.bodies.bodies tells id;
  };
}

pub keeps-join : (a b c : CopyState) → KeepsBoth a b → KeepsBoth b c → KeepsBoth a c
keeps-join a b c f g = record { source = cluster-join a.source b.source c.source f.source g.source; target = cluster-join a.target b.target c.target f.target g.target }

pub cluster-same : (a : ClusterState) → KeepsCluster a a
cluster-same a = record { rows = refl; bodies = record { tells = refl; bodies = λ tells id. refl } }

pub keeps-same : (a : CopyState) → KeepsBoth a a
keeps-same a = record { source = cluster-same a.source; target = cluster-same a.target }

pub keeps-rows : (a b : CopyState) → KeepsBoth a b → KeepsRows a b
keeps-rows a b k = record { source = k.source; rows = k.target.rows; tells = k.target.bodies.tells; bodies = λ tells id has. k.target.bodies.bodies tells id }

abbrev id-of : Option Row → ℕ
id-of None = 0
id-of (Some row) = row.id

-- a directory is made, and marked
pub makes-marks : (path : List (List ℕ)) (key : KeyName) (a b c : CopyState) → MakesCopyDirectory path a b → MarksCopyDirectory path key b c → MakesRow (Dir (Some key)) path a c
makes-marks path key a b c m k =
    let made : row_at b.target.rows path ≡ Some (record { id = m.id; kind = Dir None }) =
    ap (λ (rows : List Entry). row_at rows path) m.rows ∙ row-of-put (directory_at m.id path None) a.target.rows m.absent in
    let same : k.id ≡ m.id = ap id-of (sym k.was ∙ made) in
    record {
      source = cluster-join a.source b.source c.source m.source k.source;
      id = m.id;
      free = m.free;
      absent = m.absent;
      rows = k.rows ∙ (λ i. set_kind (m.rows i) (same i) (Dir (Some key))) ∙ set-put (directory_at m.id path None) a.target.rows (Dir (Some key)) m.free;
      bodies = (cluster-join a.target (record { rows = a.target.rows; bodies = b.target.bodies }) (record { rows = a.target.rows; bodies = c.target.bodies }) (record { rows = refl; bodies = m.bodies }) (record { rows = refl; bodies = k.bodies })).bodies;
    }

pub makes-plain : (path : List (List ℕ)) (a b : CopyState) → MakesCopyDirectory path a b → MakesRow (Dir None) path a b
makes-plain path a b m = record { source = m.source; id = m.id; free = m.free; absent = m.absent; rows = m.rows; bodies = m.bodies }

-- and then nothing changes
pub makes-keeps : (path : List (List ℕ)) (a b c : CopyState) → MakesCopyDirectory path a b → KeepsBoth b c → MakesCopyDirectory path a c
makes-keeps path a b c m k = record {
  source = cluster-join a.source b.source c.source m.source k.source;
  id = m.id;
  free = m.free;
  absent = m.absent;
  rows = k.target.rows ∙ m.rows;
  bodies = (cluster-join a.target (record { rows = a.target.rows; bodies = b.target.bodies }) (record { rows = a.target.rows; bodies = c.target.bodies }) (record { rows = refl; bodies = m.bodies }) (record { rows = refl; bodies = k.target.bodies })).bodies;
}

module _ (to : List (List ℕ)) where
  pub keeps-adds : (a b : CopyState) → KeepsBoth a b → AddsCopies to [] a b
  keeps-adds a b k = record {
    made = [];
    there = ap (λ (rows : List Entry). rows_below rows to) k.target.rows ∙ sym (append-nil (rows_below a.target.rows to));
    copied = tt;
    removed_is = ap (removed to) k.target.rows;
    source = k.source;
    tells = k.target.bodies.tells;
    bodies = λ t u. tt;
    others = λ tells id none. k.target.bodies.bodies tells id;
    fresh = tt;
    kept = λ id none. subst (λ (rows : List Entry). entry_of rows id ≡ None) k.target.rows none;
  }

  pub adds-join : (xs ys : List Entry) (a b c : CopyState) → AddsCopies to xs a b → AddsCopies to ys b c → AddsCopies to (xs ++ ys) a c
  adds-join xs ys a b c f g =
      let source = cluster-join a.source b.source c.source f.source g.source in
      let has : AllByRecursion (λ (y : Entry). entry_of b.target.rows y.row.id ≡ None → ⊥) f.made =
      all-right (λ (y : Entry). entry_of b.target.rows y.row.id ≡ None → ⊥) (rows_below a.target.rows to) f.made
      (subst (λ (ys : List Entry). AllByRecursion (λ (y : Entry). entry_of b.target.rows y.row.id ≡ None → ⊥) ys) f.there (below-has b.target.rows to)) in
      record {
        made = f.made ++ g.made;
        there = g.there ∙ ap (λ (l : List Entry). l ++ g.made) f.there ∙ append_assoc (rows_below a.target.rows to) f.made g.made;
        copied = pairs-join IsCopyOf xs f.made ys g.made f.copied g.copied;
        removed_is = g.removed_is ∙ f.removed_is;
        source = source;
        tells = g.tells ∙ f.tells;
        bodies = λ t u.
            let t' = tells-too a.source.bodies b.source.bodies f.source.bodies.tells t in
            let u' = tells-too a.target.bodies b.target.bodies f.tells u in
            pairs-join (HasBodyOf a.source.bodies.bodies c.target.bodies.bodies) xs f.made ys g.made
            (rebody a.source.bodies.bodies a.source.bodies.bodies b.target.bodies.bodies c.target.bodies.bodies xs f.made (λ id. refl)
            (all-old b.target.rows g.made f.made b.target.bodies.bodies c.target.bodies.bodies g.fresh (λ id none. g.others u' id none) has) (f.bodies t u))
            (rebody a.source.bodies.bodies b.source.bodies.bodies c.target.bodies.bodies c.target.bodies.bodies ys g.made (λ id. f.source.bodies.bodies t id)
            (all-same c.target.bodies.bodies g.made) (g.bodies t' u'));
        others = λ tells id none.
            let parts = files-parts f.made g.made id none in
            g.others (tells-too a.target.bodies b.target.bodies f.tells tells) id parts.1 ∙ f.others tells id parts.0;
        fresh = all-join (λ (y : Entry). entry_of a.target.rows y.row.id ≡ None) f.made g.made f.fresh
            (all-so (λ (y : Entry). entry_of b.target.rows y.row.id ≡ None) (λ (y : Entry). entry_of a.target.rows y.row.id ≡ None) g.made (λ y none. f.kept y.row.id none) g.fresh);
        kept = λ id none. f.kept id (g.kept id none);
      }

  -- a directory is copied
  pub adds-directory : (x : Entry) (kind : Kind) (a b : CopyState) → IsRising a.target.rows → AllBefore to x.path (rows_below a.target.rows to) → x.row.kind ≡ kind → is_dir kind ≡ true
      → MakesRow kind (to ++ x.path) a b → AddsCopies to (x ∷ []) a b
  adds-directory x kind a b rising before is dir m =
      let row : Row = record { id = m.id; kind = kind } in
      record {
        made = entry_at x.path (record { id = m.id; kind = kind }) ∷ [];
        there = ap (λ (rows : List Entry). rows_below rows to) m.rows ∙ below-put to x.path (record { id = m.id; kind = kind }) a.target.rows rising before;
        copied = ((refl, sym is), tt);
        removed_is = ap (removed to) m.rows ∙ removed-put to (entry_at (to ++ x.path) (record { id = m.id; kind = kind })) a.target.rows (prefix-append to x.path);
        source = m.source;
        tells = m.bodies.tells;
        bodies = λ t u. (λ file. absurd (both (is_dir x.row.kind) (ap is_dir is ∙ dir) file), tt);
        others = λ tells id none. m.bodies.bodies tells id;
        fresh = (m.free, tt);
        kept = λ id none. (free-put (entry_at (to ++ x.path) (record { id = m.id; kind = kind })) a.target.rows id (subst (λ (rows : List Entry). entry_of rows id ≡ None) m.rows none)).1;
      }

  -- a file is copied
  pub adds-file : (x : Entry) (edek : Option Edek) (a b : CopyState) → IsRising a.target.rows → AllBefore to x.path (rows_below a.target.rows to) → x.row.kind ≡ File edek
      → CopiesFile x.row.id (to ++ x.path) edek a b → AddsCopies to (x ∷ []) a b
  adds-file x edek a b rising before is m = record {
    made = file_at m.id x.path edek ∷ [];
    there = ap (λ (rows : List Entry). rows_below rows to) m.rows ∙ below-put to x.path (record { id = m.id; kind = File edek }) a.target.rows rising before;
    copied = ((refl, sym is), tt);
    removed_is = ap (removed to) m.rows ∙ removed-put to (file_at m.id (to ++ x.path) edek) a.target.rows (prefix-append to x.path);
    source = m.source;
    tells = m.tells;
    bodies = λ t u. (λ file. m.body t u, tt);
    others = λ tells id none. m.others tells id (λ same. both (m.id == id) (eq-eqb m.id id (sym same)) (or_parts (m.id == id) false none).0);
    fresh = (m.free, tt);
    kept = λ id none. (free-put (file_at m.id (to ++ x.path) edek) a.target.rows id (subst (λ (rows : List Entry). entry_of rows id ≡ None) m.rows none)).1;
  }

  -- ends

  pub ends-here : (more : List Entry) (a b : CopyState) → KeepsRows a b → EndsWalk to more a b
  ends-here more a b k = record {
    unmarked = [];
    next = none more;
    there = ap (λ (rows : List Entry). rows_below rows to) k.rows ∙ sym (append-nil (rows_below a.target.rows to));
    removed_is = ap (removed to) k.rows;
    source = k.source;
    tells = k.tells;
    bodies = k.bodies;
  }
    where
      none : (more : List Entry) → IsUnmarked more []
      none [] = tt
      none (x ∷ xs) = tt

  pub stops-here : (block : List Entry) (a b : CopyState) → KeepsRows a b → StopsWalk to block a b
  stops-here block a b k = record { part = []; more = block; whole = refl; mid = a; adds = keeps-adds a a (keeps-same a); ends = ends-here block a b k }

  pub stops-half : (x : Entry) (rest : List Entry) (a b : CopyState) → IsRising a.target.rows → AllBefore to x.path (rows_below a.target.rows to) → is_marked x.row ≡ true
      → MakesCopyDirectory (to ++ x.path) a b → StopsWalk to (x ∷ rest) a b
  stops-half x rest a b rising before zone m = record {
    part = [];
    more = x ∷ rest;
    whole = refl;
    mid = a;
    adds = keeps-adds a a (keeps-same a);
    ends = record {
      unmarked = directory_at m.id x.path None ∷ [];
      next = (refl, zone, refl, refl);
      there = ap (λ (rows : List Entry). rows_below rows to) m.rows ∙ below-put to x.path (record { id = m.id; kind = Dir None }) a.target.rows rising before;
      removed_is = ap (removed to) m.rows ∙ removed-put to (directory_at m.id (to ++ x.path) None) a.target.rows (prefix-append to x.path);
      source = m.source;
      tells = m.bodies.tells;
      bodies = λ tells id has. m.bodies.bodies tells id;
    };
  }

  pub stops-then : (xs ys : List Entry) (a b c : CopyState) → AddsCopies to xs a b → StopsWalk to ys b c → StopsWalk to (xs ++ ys) a c
  stops-then xs ys a b c f s = record {
    part = xs ++ s.part;
    more = s.more;
    whole = append_assoc xs s.part s.more ∙ ap (λ (l : List Entry). xs ++ l) s.whole;
    mid = s.mid;
    adds = adds-join xs s.part a b s.mid f s.adds;
    ends = s.ends;
  }

  unmarked-more : (more ys u : List Entry) → IsUnmarked more u → IsUnmarked (more ++ ys) u
  unmarked-more [] [] [] h = tt
  unmarked-more [] (y ∷ ys) [] h = tt
  unmarked-more [] ys (z ∷ u) h = absurd h
  unmarked-more (x ∷ more) ys [] h = tt
  unmarked-more (x ∷ more) ys (z ∷ u) h = h

  pub stops-more : (xs ys : List Entry) (a b : CopyState) → StopsWalk to xs a b → StopsWalk to (xs ++ ys) a b
  stops-more xs ys a b s = record {
    part = s.part;
    more = s.more ++ ys;
    whole = sym (append_assoc s.part s.more ys) ∙ ap (λ (l : List Entry). l ++ ys) s.whole;
    mid = s.mid;
    adds = s.adds;
    ends = record {
      unmarked = s.ends.unmarked;
      next = unmarked-more s.more ys s.ends.unmarked s.ends.next;
      there = s.ends.there;
      removed_is = s.ends.removed_is;
      source = s.ends.source;
      tells = s.ends.tells;
      bodies = s.ends.bodies;
    };
  }
