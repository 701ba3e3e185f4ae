-- What each step of a walk over the source adds to the target.
use Rattle.std.specs.Prelude.{◌≡◌, ◌+◌, ℕ, Bool, true, false, not, List, [], ◌∷◌, ◌++◌, count_by, Some, None}
use Rattle.std.specs.List.{AllByRecursion}
use Rattle.body_stream.specs.Vaults.{KeepsBodies}
use Rattle.inode_tree.specs.declared.rows.Kind.{Kind}
use Rattle.inode_tree.specs.declared.rows.Kind.TheVariants.{Dir, File}
use Rattle.inode_tree.specs.declared.rows.Row.{Row}
use Rattle.inode_tree.specs.Below.{rows_below}
use Rattle.inode_tree.specs.Rows.{Entry, entry_of, is_dir, put, removed, row_at}
use Rattle.row_blocks.specs.Below.{below}
use Rattle.row_copies.specs.declared.walk.Copied.{Copied}
use Rattle.row_copies.specs.Clusters.{CopiesFile, CopyState, KeepsCluster}
use Rattle.row_copies.specs.Copies.{AreCopies, BodiesCopied, IsUnmarked, OthersKept, OwnKept, is_file}

abbrev pub entry_at : List (List ℕ) → Row → Entry
entry_at path row = record { path = path; row = row }

abbrev pub is_directory : Entry → Bool
is_directory e = is_dir e.row.kind

-- the files and directories of these rows are counted
abbrev pub CountsRows : List Entry → Copied → Copied → Type 0
CountsRows es old new = (new.files ≡ old.files + count_by is_file es) × (new.directories ≡ old.directories + count_by is_directory es)

-- the rows at and below a path of the source are next: all before them are copied, and no other
pub record IsNextSubtree (from to : List (List ℕ)) (s : CopyState) : Type 0 where
  pub row : Row
  pub is_row : row_at s.source.rows from ≡ Some row
  pub done : List Entry
  pub rest : List Entry
  pub whole : done ++ (below s.source.rows from ++ rest) ≡ s.source.rows
  pub there : AreCopies done (rows_below s.target.rows to)

-- copies of these rows come after those at and below `to`
pub record AddsCopies (to : List (List ℕ)) (block : List Entry) (old new : CopyState) : Type 0 where
  pub made : List Entry
  pub there : rows_below new.target.rows to ≡ rows_below old.target.rows to ++ made
  pub copied : AreCopies block made
  pub removed_is : removed to new.target.rows ≡ removed to old.target.rows
  pub source : KeepsCluster old.source new.source
  pub tells : new.target.bodies.tells ≡ old.target.bodies.tells
  pub bodies : BodiesCopied old new block made
  pub others : OthersKept old new made
  pub fresh : AllByRecursion (λ (y : Entry). entry_of old.target.rows y.row.id ≡ None) made
  pub kept : (id : ℕ) → entry_of new.target.rows id ≡ None → entry_of old.target.rows id ≡ None

-- no copy was added, except that the next row may be there without its mark
pub record EndsWalk (to : List (List ℕ)) (more : List Entry) (old new : CopyState) : Type 0 where
  pub unmarked : List Entry
  pub next : IsUnmarked more unmarked
  pub there : rows_below new.target.rows to ≡ rows_below old.target.rows to ++ unmarked
  pub removed_is : removed to new.target.rows ≡ removed to old.target.rows
  pub source : KeepsCluster old.source new.source
  pub tells : new.target.bodies.tells ≡ old.target.bodies.tells
  pub bodies : OwnKept old new

-- copies of the first of these rows were added; then the walk ended
pub record StopsWalk (to : List (List ℕ)) (block : List Entry) (old new : CopyState) : Type 0 where
  pub part : List Entry
  pub more : List Entry
  pub whole : part ++ more ≡ block
  pub mid : CopyState
  pub adds : AddsCopies to part old mid
  pub ends : EndsWalk to more mid new

-- a row of a kind is made in the target, under an id that was free
pub record MakesRow (kind : Kind) (path : List (List ℕ)) (old new : CopyState) : Type 0 where
  pub source : KeepsCluster old.source new.source
  pub id : ℕ
  pub free : entry_of old.target.rows id ≡ None
  pub absent : row_at old.target.rows path ≡ None
  pub rows : new.target.rows ≡ put (entry_at path (record { id = id; kind = kind })) old.target.rows
  pub bodies : KeepsBodies old.target.bodies new.target.bodies

-- a row of the target is made that is a copy of a row of the source
abbrev pub MakesKind : Kind → ℕ → List (List ℕ) → (old new : CopyState) → Type 0
MakesKind (Dir key) from path old new = MakesRow (Dir key) path old new
MakesKind (File edek) from path old new = CopiesFile from path edek old new

abbrev pub MakesCopy : Row → List (List ℕ) → Bool → (old new : CopyState) → Type 0
MakesCopy row path directory old new = (directory ≡ is_dir row.kind) × MakesKind row.kind row.id path old new

-- the row of the source at a path is copied
pub record CopiesRow (from to : List (List ℕ)) (directory : Bool) (old new : CopyState) : Type 0 where
  pub row : Row
  pub is_row : row_at old.source.rows from ≡ Some row
  pub kind : directory ≡ is_dir row.kind
  pub adds : AddsCopies to (entry_at from row ∷ []) old new

abbrev pub one_if : Bool → ℕ
one_if true = 1
one_if false = 0

-- a directory or a file is counted
abbrev pub CountsOne : Bool → Copied → Copied → Type 0
CountsOne directory old new = (new.files ≡ old.files + one_if (not directory)) × (new.directories ≡ old.directories + one_if directory)
