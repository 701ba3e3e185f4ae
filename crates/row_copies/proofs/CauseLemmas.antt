-- Why a copy ended as it did.
use Rattle.std.proofs.Common.{◌≡◌, ◌⊎◌, inl, inr, ℕ, Bool, true, false, ◌&&◌, List, [], ◌∷◌, ◌++◌, Option, Some, None, refl, sym, ap, ◌∙◌, subst}
use Rattle.std.specs.Prelude.{◌==◌, is_some, Result, Ok, Err, IfErr}
use Rattle.std.specs.Option.{option_map}
use Rattle.std.specs.List.{AllByRecursion}
use Rattle.std.proofs.lemmas.Bool.{eqb-true, or_from}
use Rattle.file_orders.specs.Ends.{IsFailure}
use Rattle.file_orders.specs.declared.ends.FsEnd.{FsEnd}
use Rattle.file_orders.specs.declared.ends.FsEnd.TheVariants as end
use Rattle.name_calls.specs.declared.calls.NameRefusal.{NameRefusal}
use Rattle.inode_tree.specs.declared.rows.Row.{Row}
use Rattle.inode_tree.specs.Below.{rows_below}
use Rattle.inode_tree.specs.Rows.{Entry, entry_of, is_dir, row_at}
use Rattle.row_copies.specs.Clusters.{CopyState, EndsFor, KeepsBoth, MakesCopyDirectory}
use Rattle.row_copies.specs.Copies.{CopyEnds, Done, FailsLast, CopyRefused, HasNoMark, IsLong, IsPathTaken, IsTooLong, KeepsFree, MakesAbove, RefusedLast, StepRefuses, ChainOf, WholeEnds, has_file, is_file}
use Rattle.row_copies.specs.Walks.{AddsCopies}
use Rattle.row_copies.proofs.AddLemmas.{all-right, and-no, cluster-join, cluster-same, tells-too}
use Rattle.row_copies.proofs.EndLemmas.{Led, led, led-keeps, led-makes}
use Rattle.row_copies.proofs.PutLemmas.{below-has}
use Rattle.row_copies.proofs.StepLemmas.{steps-join}

-- ---- ends

pub ends-so : (store vault store' vault' : Type 0) (refused refused' : FsEnd → Type 0) (why : FsEnd) → (store → store') → (vault → vault') → (refused why → refused' why) → EndsFor store vault refused why → EndsFor store' vault' refused' why
ends-so store vault store' vault' refused refused' (end.Put count) s v r e = absurd e.0
ends-so store vault store' vault' refused refused' (end.Read count) s v r e = absurd e.0
ends-so store vault store' vault' refused refused' (end.NameRefused cause) s v r e = (tt, r e.1)
ends-so store vault store' vault' refused refused' (end.KeyRefused cause) s v r e = (tt, r e.1)
ends-so store vault store' vault' refused refused' end.Directory s v r e = (tt, r e.1)
ends-so store vault store' vault' refused refused' end.StoreFault s v r e = s e
ends-so store vault store' vault' refused refused' end.NoMemory s v r e = tt
ends-so store vault store' vault' refused refused' end.ReadFault s v r e = absurd e.0
ends-so store vault store' vault' refused refused' end.WriteFault s v r e = absurd e.0
ends-so store vault store' vault' refused refused' end.VaultFault s v r e = v e
ends-so store vault store' vault' refused refused' end.TooLong s v r e = absurd e.0

-- allocation failed
pub ends-plain : (store vault : Type 0) (refused : FsEnd → Type 0) (why : FsEnd) → why ≡ end.NoMemory → EndsFor store vault refused why
ends-plain store vault refused why is = subst (EndsFor store vault refused) (sym is) tt

refuses-so : (refused : FsEnd → Type 0) (why : FsEnd) → (why ≡ end.NoMemory → ⊥) → (why ≡ end.NoMemory) ⊎ refused why → refused why
refuses-so refused why other (inl is) = absurd (other is)
refuses-so refused why other (inr r) = r

-- an order of the namesystem failed: allocation did, or it was refused
pub ends-failed : (store vault : Type 0) (refused : FsEnd → Type 0) (why : FsEnd) → IsFailure why → (why ≡ end.StoreFault → store) → (why ≡ end.NoMemory) ⊎ refused why → EndsFor store vault refused why
ends-failed store vault refused (end.Put count) f s r = absurd f
ends-failed store vault refused (end.Read count) f s r = absurd f
ends-failed store vault refused (end.NameRefused cause) f s r = (tt, refuses-so refused (end.NameRefused cause) (λ is. cc) r)
ends-failed store vault refused (end.KeyRefused cause) f s r = (tt, refuses-so refused (end.KeyRefused cause) (λ is. cc) r)
ends-failed store vault refused end.Directory f s r = (tt, refuses-so refused end.Directory (λ is. cc) r)
ends-failed store vault refused end.StoreFault f s r = s refl
ends-failed store vault refused end.NoMemory f s r = tt
ends-failed store vault refused end.ReadFault f s r = absurd f
ends-failed store vault refused end.WriteFault f s r = absurd f
ends-failed store vault refused end.VaultFault f s r = absurd f
ends-failed store vault refused end.TooLong f s r = absurd f

-- ---- what is free

free-led : (a b : CopyState) → Led a b → KeepsFree a b
free-led a b l = record { source = l.source; tells = l.bodies.tells; free = l.kept; bodies = λ tells id none. l.bodies.bodies tells id }

pub free-same : (a : CopyState) → KeepsFree a a
free-same a = record { source = cluster-same a.source; tells = refl; free = λ id none. none; bodies = λ tells id none. refl }

pub free-keeps : (a b : CopyState) → KeepsBoth a b → KeepsFree a b
free-keeps a b k = free-led a b (led-keeps a b k)

pub free-makes : (path : List (List ℕ)) (a b : CopyState) → MakesCopyDirectory path a b → KeepsFree a b
free-makes path a b m = free-led a b (led-makes path a b m)

pub free-above : (n : ℕ) (to : List (List ℕ)) (a b : CopyState) → MakesAbove n to a b → KeepsFree a b
free-above n to a b m = free-led a b (led n to a b m)

-- a free id is not that of a row that was made
not-made : (rows made : List Entry) (id : ℕ) → AllByRecursion (λ (z : Entry). entry_of rows z.row.id ≡ None → ⊥) made → entry_of rows id ≡ None → has_file made id ≡ false
not-made rows [] id has none = refl
not-made rows (z ∷ made) id has none =
    or_from (is_file z && z.row.id == id) (has_file made id)
    (and-no (is_file z) (z.row.id == id) (λ same. has.0 (subst (λ (j : ℕ). entry_of rows j ≡ None) (sym (eqb-true z.row.id id same)) none)))
    (not-made rows made id has.1 none)

pub free-adds : (to : List (List ℕ)) (xs : List Entry) (a b : CopyState) → AddsCopies to xs a b → KeepsFree a b
free-adds to xs a b f =
    let has : AllByRecursion (λ (y : Entry). entry_of b.target.rows y.row.id ≡ None → ⊥) f.made =
    all-right (λ (y : Entry). entry_of b.target.rows y.row.id ≡ None → ⊥) (rows_below a.target.rows to) f.made
    (subst (λ (ys : List Entry). AllByRecursion (λ (y : Entry). entry_of b.target.rows y.row.id ≡ None → ⊥) ys) f.there (below-has b.target.rows to)) in
    record { source = f.source; tells = f.tells; free = f.kept; bodies = λ tells id none. f.others tells id (not-made b.target.rows f.made id has none) }

pub free-join : (a b c : CopyState) → KeepsFree a b → KeepsFree b c → KeepsFree a c
free-join a b c f g = record {
  source = cluster-join a.source b.source c.source f.source g.source;
  tells = g.tells ∙ f.tells;
  free = λ id none. f.free id (g.free id none);
  bodies = λ tells id none. g.bodies (tells-too a.target.bodies b.target.bodies f.tells tells) id none ∙ f.bodies tells id (g.free id none);
}

-- ---- the last step

module _ {X : Type 0} (state : X → CopyState) (follows : X → X → Type 0) where
  fails-now : (fails : X → X → Type 0) (a b : X) → fails a b → FailsLast state follows fails a b
  fails-now fails a b f = record { mid = a; before = Done; kept = free-same (state a); last = f }

  fails-then : (fails : X → X → Type 0) (a b c : X) → ChainOf follows a b → KeepsFree (state a) (state b) → FailsLast state follows fails b c → FailsLast state follows fails a c
  fails-then fails a b c s k f = record { mid = f.mid; before = steps-join follows a b f.mid s f.before; kept = free-join (state a) (state b) (state f.mid) k f.kept; last = f.last }

  fails-so : (fails fails' : X → X → Type 0) (a b : X) → ((x : X) → fails x b → fails' x b) → FailsLast state follows fails a b → FailsLast state follows fails' a b
  fails-so fails fails' a b so f = record { mid = f.mid; before = f.before; kept = f.kept; last = so f.mid f.last }

module _ {X : Type 0} (state : X → CopyState) (follows store vault : X → X → Type 0) (refuses : X → X → FsEnd → Type 0) where
  -- the only step failed
  pub ends-now : (a b : X) (why : FsEnd) → EndsFor (store a b) (vault a b) (refuses a b) why → CopyEnds state follows store vault refuses a b why
  ends-now a b why e =
      ends-so (store a b) (vault a b) (FailsLast state follows store a b) (FailsLast state follows vault a b) (refuses a b) (RefusedLast state follows refuses a b) why
      (λ s. fails-now state follows store a b s) (λ v. fails-now state follows vault a b v) (λ r. fails-now state follows (λ (x y : X). refuses x y why) a b r) e

  -- and steps that were done came before
  pub ends-then : (a b c : X) (why : FsEnd) → ChainOf follows a b → KeepsFree (state a) (state b) → CopyEnds state follows store vault refuses b c why → CopyEnds state follows store vault refuses a c why
  ends-then a b c why s k e =
      ends-so (FailsLast state follows store b c) (FailsLast state follows vault b c) (FailsLast state follows store a c) (FailsLast state follows vault a c) (RefusedLast state follows refuses b c) (RefusedLast state follows refuses a c) why
      (λ f. fails-then state follows store a b c s k f) (λ f. fails-then state follows vault a b c s k f) (λ f. fails-then state follows (λ (x y : X). refuses x y why) a b c s k f) e

  pub ends-last : (a b c : X) (why : FsEnd) → ChainOf follows a b → KeepsFree (state a) (state b) → EndsFor (store b c) (vault b c) (refuses b c) why → CopyEnds state follows store vault refuses a c why
  ends-last a b c why s k e = ends-then a b c why s k (ends-now b c why e)

  -- allocation failed
  pub ends-memory : (a b : X) (why : FsEnd) → why ≡ end.NoMemory → CopyEnds state follows store vault refuses a b why
  ends-memory a b why is = ends-plain (FailsLast state follows store a b) (FailsLast state follows vault a b) (RefusedLast state follows refuses a b) why is

  -- the same of results

  pub now-ends : {T : Type 0} (a b : X) (r : Result T FsEnd) → IfErr r (EndsFor (store a b) (vault a b) (refuses a b)) → IfErr r (CopyEnds state follows store vault refuses a b)
  now-ends a b (Ok done) e = e
  now-ends a b (Err why) e = ends-now a b why e

  pub then-ends : {T : Type 0} (a b c : X) (r : Result T FsEnd) → ChainOf follows a b → KeepsFree (state a) (state b) → IfErr r (CopyEnds state follows store vault refuses b c) → IfErr r (CopyEnds state follows store vault refuses a c)
  then-ends a b c (Ok done) s k e = e
  then-ends a b c (Err why) s k e = ends-then a b c why s k e

  pub last-ends : {T : Type 0} (a b c : X) (r : Result T FsEnd) → ChainOf follows a b → KeepsFree (state a) (state b) → IfErr r (EndsFor (store b c) (vault b c) (refuses b c)) → IfErr r (CopyEnds state follows store vault refuses a c)
  last-ends a b c r s k e = then-ends a b c r s k (now-ends b c r e)

  -- ---- a rule besides

  -- the call of a step failed
  pub ends-call : (rule : CopyState → FsEnd → Type 0) (a b : X) (why : FsEnd) → EndsFor (store a b) (vault a b) (refuses a b) why → EndsFor (store a b) (vault a b) (StepRefuses state refuses rule a b) why
  ends-call rule a b why e = ends-so (store a b) (vault a b) (store a b) (vault a b) (refuses a b) (StepRefuses state refuses rule a b) why (λ s. s) (λ v. v) (λ r. inl r) e

  -- a rule refuses a name
  pub ends-rule : (rule : CopyState → FsEnd → Type 0) (a b : X) (cause : NameRefusal) → rule (state a) (end.NameRefused cause) → EndsFor (store a b) (vault a b) (StepRefuses state refuses rule a b) (end.NameRefused cause)
  ends-rule rule a b cause r = (tt, inr r)

  -- there may be more causes
  pub ends-wide : (wide : X → X → FsEnd → Type 0) (a b : X) (why : FsEnd) → ((x : X) → refuses x b why → wide x b why) → CopyEnds state follows store vault refuses a b why → CopyEnds state follows store vault wide a b why
  ends-wide wide a b why so e =
      ends-so (FailsLast state follows store a b) (FailsLast state follows vault a b) (FailsLast state follows store a b) (FailsLast state follows vault a b) (RefusedLast state follows refuses a b) (RefusedLast state follows wide a b) why
      (λ f. f) (λ f. f) (λ f. fails-so state follows (λ (x y : X). refuses x y why) (λ (x y : X). wide x y why) a b so f) e

  pub wide-ends : {T : Type 0} (wide : X → X → FsEnd → Type 0) (a b : X) (r : Result T FsEnd) → ((why : FsEnd) (x : X) → refuses x b why → wide x b why) → IfErr r (CopyEnds state follows store vault refuses a b)
      → IfErr r (CopyEnds state follows store vault wide a b)
  wide-ends wide a b (Ok done) so e = e
  wide-ends wide a b (Err why) so e = ends-wide wide a b why (so why) e

-- a path that may not be made ends the step
pub ends-long : {X : Type 0} (state : X → CopyState) (refuses : X → X → FsEnd → Type 0) (to from : List (List ℕ)) (row : Row) (store vault : Type 0) (a b : X) (why : FsEnd) → row_at (state a).source.rows from ≡ Some row
    → (why ≡ end.NoMemory) ⊎ IsLong (to ++ from) why → EndsFor store vault (StepRefuses state refuses (IsTooLong to) a b) why
ends-long state refuses to from row store vault a b why at (inl is) = ends-plain store vault (StepRefuses state refuses (IsTooLong to) a b) why is
ends-long state refuses to from row store vault a b why at (inr long) =
    subst (EndsFor store vault (StepRefuses state refuses (IsTooLong to) a b)) (sym long.0) (tt, inr (from, ap is_some at, (refl, long.1)))

-- ---- the whole copy

module _ {X : Type 0} (state : X → CopyState) (follows store vault : X → X → Type 0) (refuses : X → X → FsEnd → Type 0) (to : List (List ℕ)) (a : X) where
  whole-so : (b : X) (why : FsEnd) (refused : FsEnd → Type 0) → (refused why → CopyRefused state follows refuses to a b why) → EndsFor (FailsLast state follows store a b) (FailsLast state follows vault a b) refused why
      → WholeEnds state follows store vault refuses to a b why
  whole-so b why refused so e =
      ends-so (FailsLast state follows store a b) (FailsLast state follows vault a b) (FailsLast state follows store a b) (FailsLast state follows vault a b) refused (CopyRefused state follows refuses to a b) why (λ f. f) (λ f. f) so e

  -- no rule refuses it
  pub whole-plain : (b : X) (why : FsEnd) → CopyEnds state follows store vault refuses a b why → WholeEnds state follows store vault refuses to a b why
  whole-plain b why e = whole-so b why (RefusedLast state follows refuses a b) (λ r. inl r) e

  long-whole : (b : X) (why : FsEnd) → RefusedLast state follows (StepRefuses state refuses (IsTooLong to)) a b why → CopyRefused state follows refuses to a b why
  long-whole b why f = go f.last
    where
      go : StepRefuses state refuses (IsTooLong to) f.mid b why → CopyRefused state follows refuses to a b why
      go (inl r) = inl (record { mid = f.mid; before = f.before; kept = f.kept; last = r })
      go (inr (from, some, long)) =
          let kept = f.kept in
          inr (inr (inr (from, subst (λ (rows : List Entry). is_some (row_at rows from) ≡ true) kept.source.rows some, long)))

  -- a path would be too long
  pub whole-long : (b : X) (why : FsEnd) → CopyEnds state follows store vault (StepRefuses state refuses (IsTooLong to)) a b why → WholeEnds state follows store vault refuses to a b why
  whole-long b why e = whole-so b why (RefusedLast state follows (StepRefuses state refuses (IsTooLong to)) a b) (long-whole b why) e

  -- the source is checked first
  pub whole-mark : (root : List (List ℕ)) (b : X) (why : FsEnd) → root ≡ [] → EndsFor (store a b) (vault a b) (StepRefuses state refuses (HasNoMark root) a b) why → WholeEnds state follows store vault refuses to a b why
  whole-mark root b why is e =
      ends-so (store a b) (vault a b) (FailsLast state follows store a b) (FailsLast state follows vault a b) (StepRefuses state refuses (HasNoMark []) a b) (CopyRefused state follows refuses to a b) why
      (λ s. fails-now state follows store a b s) (λ v. fails-now state follows vault a b v) go (subst (λ (q : List (List ℕ)). EndsFor (store a b) (vault a b) (StepRefuses state refuses (HasNoMark q) a b) why) is e)
    where
      go : StepRefuses state refuses (HasNoMark []) a b why → CopyRefused state follows refuses to a b why
      go (inl r) = inl (fails-now state follows (λ (x y : X). refuses x y why) a b r)
      go (inr rule) = inr (inl rule)

  -- and the path of the target once its parents are there
  pub whole-taken : (b c : X) (why : FsEnd) → ChainOf follows a b → KeepsFree (state a) (state b) → (is_some (row_at (state b).target.rows to) ≡ true → is_some (row_at (state a).target.rows to) ≡ true)
      → EndsFor (store b c) (vault b c) (StepRefuses state refuses (IsPathTaken to) b c) why → WholeEnds state follows store vault refuses to a c why
  whole-taken b c why s k back e =
      ends-so (store b c) (vault b c) (FailsLast state follows store a c) (FailsLast state follows vault a c) (StepRefuses state refuses (IsPathTaken to) b c) (CopyRefused state follows refuses to a c) why
      (λ f. fails-then state follows store a b c s k (fails-now state follows store b c f)) (λ f. fails-then state follows vault a b c s k (fails-now state follows vault b c f)) go e
    where
      go : StepRefuses state refuses (IsPathTaken to) b c why → CopyRefused state follows refuses to a c why
      go (inl r) = inl (fails-then state follows (λ (x y : X). refuses x y why) a b c s k (fails-now state follows (λ (x y : X). refuses x y why) b c r))
      go (inr (is, some)) = inr (inr (inl (is, back some)))

-- there is a row where one is found
pub found-some : (row : Option Row) (found : Option Bool) (directory : Bool) → found ≡ Some directory → found ≡ option_map (λ (r : Row). is_dir r.kind) row → is_some row ≡ true
found-some None found directory some is = cc
found-some (Some row) found directory some is = refl
