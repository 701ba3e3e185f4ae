-- What it means that rows and bodies are copied.
use Rattle.std.specs.Prelude.{◌≡◌, ◌⊎◌, ◌≤◌, ◌-◌, ℕ, zero, suc, Bool, true, false, not, ◌&&◌, ◌||◌, ◌==◌, List, [], ◌∷◌, ◌++◌, length, take, Option, Some, None, is_some, ⊤}
use Rattle.body_stream.specs.Vaults.{TellsBodies}
use Rattle.file_orders.specs.declared.ends.FsEnd.{FsEnd}
use Rattle.file_orders.specs.declared.ends.FsEnd.TheVariants as end
use Rattle.name_calls.specs.Paths.{is_relative}
use Rattle.name_calls.specs.declared.calls.NameRefusal.TheVariants as refusal
use Rattle.inode_tree.specs.declared.rows.Row.{Row}
use Rattle.inode_tree.specs.declared.rows.Kind.TheVariants.{Dir}
use Rattle.inode_tree.specs.Below.{rows_below}
use Rattle.inode_tree.specs.Rows.{Entry, entry_of, is_dir, is_marked, removed, row_at}
use Rattle.row_copies.specs.Clusters.{CopyState, EndsFor, KeepsBoth, KeepsCluster, MakesCopyDirectory}

-- two lists are of one length, and the relation holds of the entries at each place
abbrev pub PairsOfRows : (Entry → Entry → Type 0) → List Entry → List Entry → Type 0
PairsOfRows R [] [] = ⊤
PairsOfRows R [] (y ∷ ys) = ⊥
PairsOfRows R (x ∷ xs) [] = ⊥
PairsOfRows R (x ∷ xs) (y ∷ ys) = R x y × PairsOfRows R xs ys

-- The paths are the same, and so are the kinds: whether it is a directory, its mark, its encrypted key. The ids may differ.
abbrev pub IsCopyOf : Entry → Entry → Type 0
IsCopyOf x y = (y.path ≡ x.path) × (y.row.kind ≡ x.row.kind)

abbrev pub AreCopies : List Entry → List Entry → Type 0
AreCopies xs ys = PairsOfRows IsCopyOf xs ys

-- if it is a file, its copy has its body
abbrev pub HasBodyOf : (ℕ → List ℕ) → (ℕ → List ℕ) → Entry → Entry → Type 0
HasBodyOf bodies copies x y = is_dir x.row.kind ≡ false → copies y.row.id ≡ bodies x.row.id

abbrev pub BodiesCopied : (old new : CopyState) → List Entry → List Entry → Type 0
BodiesCopied old new xs ys = TellsBodies old.source.bodies → TellsBodies old.target.bodies → PairsOfRows (HasBodyOf old.source.bodies.bodies new.target.bodies.bodies) xs ys

abbrev pub is_file : Entry → Bool
is_file e = not (is_dir e.row.kind)

-- one of these is a file with the id
abbrev pub has_file : List Entry → ℕ → Bool
has_file [] id = false
has_file (e ∷ es) id = (is_file e && e.row.id == id) || has_file es id

-- The bodies of all ids are unchanged, except those of these files.
abbrev pub OthersKept : (old new : CopyState) → List Entry → Type 0
OthersKept old new files = TellsBodies old.target.bodies → (id : ℕ) → has_file files id ≡ false → new.target.bodies.bodies id ≡ old.target.bodies.bodies id

-- The bodies of the rows that the target had are unchanged.
abbrev pub OwnKept : (old new : CopyState) → Type 0
OwnKept old new = TellsBodies old.target.bodies → (id : ℕ) → is_some (entry_of old.target.rows id) ≡ true → new.target.bodies.bodies id ≡ old.target.bodies.bodies id

-- the directories above a path

-- a path is that of a row already, or a directory is made there
abbrev pub MakesMissing : Option Row → List (List ℕ) → (old new : CopyState) → Type 0
MakesMissing (Some row) path old new = KeepsBoth old new
MakesMissing None path old new = MakesCopyDirectory path old new

-- the paths of 1 to n names that lead to a path were made where they were missing, from above
abbrev pub MakesAbove : (n : ℕ) → List (List ℕ) → (old new : CopyState) → Type 0
MakesAbove zero to old new = KeepsBoth old new
MakesAbove (suc n) to old new = (mid : CopyState) × MakesAbove n to old mid × MakesMissing (row_at mid.target.rows (take (suc n) to)) (take (suc n) to) mid new

-- the number of directories between the root and a path
abbrev pub above : List (List ℕ) → ℕ
above to = length to - 1

-- What a copy has made: the directories above `to` that were missing, and then the rows at and below `to`. Nothing else changed.
pub record MakesRows (to : List (List ℕ)) (made : List Entry) (old new : CopyState) : Type 0 where
  pub parents : CopyState
  pub led : MakesAbove (above to) to old parents
  pub made_is : rows_below new.target.rows to ≡ made
  pub others : removed to new.target.rows ≡ parents.target.rows
  pub source : KeepsCluster old.source new.source
  pub tells : new.target.bodies.tells ≡ old.target.bodies.tells

-- All is copied: the rows at and below `to` are copies of the source's, with the same bodies.
pub record CopiesAll (to : List (List ℕ)) (old new : CopyState) : Type 0 where
  pub rows : List Entry
  pub makes : MakesRows to rows old new
  pub copied : AreCopies old.source.rows rows
  pub bodies : BodiesCopied old new old.source.rows rows
  pub others : OthersKept old new rows

-- at most one row after the copied ones: the directory that was to be marked next
abbrev pub IsUnmarked : List Entry → List Entry → Type 0
IsUnmarked rest [] = ⊤
IsUnmarked [] (y ∷ ys) = ⊥
IsUnmarked (x ∷ rest) (y ∷ ys) = (ys ≡ []) × (is_marked x.row ≡ true) × (y.path ≡ x.path) × (y.row.kind ≡ Dir None)

-- The rows at and below `to` are copies of the first rows of the source, in path order, with the same bodies. After them the next directory may
-- be there, still without its mark.
pub record CopiesPart (to : List (List ℕ)) (old new : CopyState) : Type 0 where
  pub done : List Entry
  pub rest : List Entry
  pub whole : done ++ rest ≡ old.source.rows
  pub rows : List Entry
  pub unmarked : List Entry
  pub makes : MakesRows to (rows ++ unmarked) old new
  pub copied : AreCopies done rows
  pub bodies : BodiesCopied old new done rows
  pub own : OwnKept old new
  pub next : IsUnmarked rest unmarked

-- some of the missing directories above `to` were made, and nothing else changed
pub record MakesParents (to : List (List ℕ)) (old new : CopyState) : Type 0 where
  pub count : ℕ
  pub few : count ≤ above to
  pub made : MakesAbove count to old new

-- what a copy that ended early has left
abbrev pub StopsEarly : List (List ℕ) → (old new : CopyState) → Type 0
StopsEarly to old new = MakesParents to old new ⊎ CopiesPart to old new

-- steps that follow one another
pub data ChainOf {X : Type 0} (follows : X → X → Type 0) (a : X) : X → Type 0 where
  Done : ChainOf follows a a
  Then : (b c : X) → ChainOf follows a b → follows b c → ChainOf follows a c

-- The source is unchanged. Each id that is free in the target was free before, and has the body that it had.
pub record KeepsFree (old new : CopyState) : Type 0 where
  pub source : KeepsCluster old.source new.source
  pub tells : new.target.bodies.tells ≡ old.target.bodies.tells
  pub free : (id : ℕ) → entry_of new.target.rows id ≡ None → entry_of old.target.rows id ≡ None
  pub bodies : TellsBodies old.target.bodies → (id : ℕ) → entry_of new.target.rows id ≡ None → new.target.bodies.bodies id ≡ old.target.bodies.bodies id

-- the last step failed; those before it were done
pub record FailsLast {X : Type 0} (state : X → CopyState) (follows fails : X → X → Type 0) (a b : X) : Type 0 where
  pub mid : X
  pub before : ChainOf follows a mid
  pub kept : KeepsFree (state a) (state mid)
  pub last : fails mid b

-- the last step was refused by this end; those before it were done
abbrev pub RefusedLast : {X : Type 0} → (X → CopyState) → (follows : X → X → Type 0) (refuses : X → X → FsEnd → Type 0) (a b : X) → FsEnd → Type 0
RefusedLast {X} state follows refuses a b why = FailsLast state follows (λ (x y : X). refuses x y why) a b

-- why a copy ends so: if a disk or a vault failed, or the copy was refused, that was in the last step
abbrev pub CopyEnds : {X : Type 0} → (X → CopyState) → (follows store vault : X → X → Type 0) (refuses : X → X → FsEnd → Type 0) (a b : X) → FsEnd → Type 0
CopyEnds state follows store vault refuses a b why = EndsFor (FailsLast state follows store a b) (FailsLast state follows vault a b) (RefusedLast state follows refuses a b) why

-- ---- the rules of a copy

-- the row of the source at a path has no mark
abbrev pub HasNoMark : List (List ℕ) → CopyState → FsEnd → Type 0
HasNoMark path s why = (why ≡ end.NameRefused refusal.NotAZoneRoot) × ((row : Row) × (row_at s.source.rows path ≡ Some row) × (is_marked row ≡ false))

-- there is a row of the target at the path of the copy
abbrev pub IsPathTaken : List (List ℕ) → CopyState → FsEnd → Type 0
IsPathTaken to s why = (why ≡ end.NameRefused refusal.Exists) × (is_some (row_at s.target.rows to) ≡ true)

abbrev pub IsLong : List (List ℕ) → FsEnd → Type 0
IsLong path why = (why ≡ end.NameRefused refusal.BadPath) × (is_relative path ≡ false)

-- a row of the source would get a path that is too long
abbrev pub IsTooLong : List (List ℕ) → CopyState → FsEnd → Type 0
IsTooLong to s why = (from : List (List ℕ)) × (is_some (row_at s.source.rows from) ≡ true) × IsLong (to ++ from) why

-- one of the rules refuses a copy to a path by this end
abbrev pub RuleRefuses : List (List ℕ) → CopyState → FsEnd → Type 0
RuleRefuses to s why = HasNoMark [] s why ⊎ (IsPathTaken to s why ⊎ IsTooLong to s why)

-- the call was refused, or a rule refuses what stands before it
abbrev pub StepRefuses : {X : Type 0} → (X → CopyState) → (refuses : X → X → FsEnd → Type 0) (rule : CopyState → FsEnd → Type 0) (a b : X) → FsEnd → Type 0
StepRefuses state refuses rule a b why = refuses a b why ⊎ rule (state a) why

-- The last step of a copy to a path was refused, or a rule refuses the copy by what was there in the beginning.
abbrev pub CopyRefused : {X : Type 0} → (X → CopyState) → (follows : X → X → Type 0) (refuses : X → X → FsEnd → Type 0) (to : List (List ℕ)) (a b : X) → FsEnd → Type 0
CopyRefused state follows refuses to a b why = RefusedLast state follows refuses a b why ⊎ RuleRefuses to (state a) why

-- why a whole copy ends so
abbrev pub WholeEnds : {X : Type 0} → (X → CopyState) → (follows store vault : X → X → Type 0) (refuses : X → X → FsEnd → Type 0) (to : List (List ℕ)) (a b : X) → FsEnd → Type 0
WholeEnds state follows store vault refuses to a b why = EndsFor (FailsLast state follows store a b) (FailsLast state follows vault a b) (CopyRefused state follows refuses to a b) why
