-- Two clusters, and what each call on them does.
use Rattle.std.specs.Prelude.{◌≡◌, ℕ, true, List, [], Option, Some, None, is_some, ⊤}
use Rattle.std.specs.List.{All}
use Rattle.hk_base.specs.declared.names.Edek.{Edek}
use Rattle.hk_base.specs.declared.names.KeyName.{KeyName}
use Rattle.body_stream.specs.Vaults.{KeepsBodies, OtherBodiesStay, TellsBodies, VaultState}
use Rattle.file_orders.specs.Ends.{IsFailure}
use Rattle.file_orders.specs.declared.ends.FsEnd.{FsEnd}
use Rattle.file_orders.specs.declared.ends.FsEnd.TheVariants as end
use Rattle.name_calls.specs.Paths.{is_relative, parent}
use Rattle.inode_tree.specs.declared.rows.Kind.TheVariants.{Dir, File}
use Rattle.inode_tree.specs.Rows.{Entry, IsRising, entry_of, is_dir_at, put, row_at, set_kind}

pub record ClusterState : Type 0 where
  -- the rows of its namesystem; of the source those at and below a directory, as they are seen from it
  pub rows : List Entry
  -- the vault with the bodies of its files
  pub bodies : VaultState

pub record CopyState : Type 0 where
  pub source : ClusterState
  pub target : ClusterState

-- Rows seen from a directory: the directory is there, and the parent of each is a directory of them.
pub record IsTreeOfRows (rows : List Entry) : Type 0 where
  pub rising : IsRising rows
  pub ruled : All (λ e. is_relative e.path ≡ true) rows
  pub rooted : is_dir_at (row_at rows []) ≡ true
  pub housed : All (λ e. is_dir_at (row_at rows (parent e.path)) ≡ true) rows

-- no row and no body changes
pub record KeepsCluster (old new : ClusterState) : Type 0 where
  pub rows : new.rows ≡ old.rows
  pub bodies : KeepsBodies old.bodies new.bodies

pub record KeepsBoth (old new : CopyState) : Type 0 where
  pub source : KeepsCluster old.source new.source
  pub target : KeepsCluster old.target new.target

abbrev pub directory_at : ℕ → List (List ℕ) → Option KeyName → Entry
directory_at id p key = record { path = p; row = record { id = id; kind = Dir key } }

abbrev pub file_at : ℕ → List (List ℕ) → Option Edek → Entry
file_at id p edek = record { path = p; row = record { id = id; kind = File edek } }

-- a directory without a key is made in the target, under an id that was free
pub record MakesCopyDirectory (path : List (List ℕ)) (old new : CopyState) : Type 0 where
  pub source : KeepsCluster old.source new.source
  pub id : ℕ
  pub free : entry_of old.target.rows id ≡ None
  pub absent : row_at old.target.rows path ≡ None
  pub rows : new.target.rows ≡ put (directory_at id path None) old.target.rows
  pub bodies : KeepsBodies old.target.bodies new.target.bodies

-- a directory of the target that had no key gets one
pub record MarksCopyDirectory (path : List (List ℕ)) (key : KeyName) (old new : CopyState) : Type 0 where
  pub source : KeepsCluster old.source new.source
  pub id : ℕ
  pub was : row_at old.target.rows path ≡ Some (record { id = id; kind = Dir None })
  pub rows : new.target.rows ≡ set_kind old.target.rows id (Dir (Some key))
  pub bodies : KeepsBodies old.target.bodies new.target.bodies

-- a file is made in the target, under an id that was free, and gets the body of a file of the source
pub record CopiesFile (from : ℕ) (path : List (List ℕ)) (edek : Option Edek) (old new : CopyState) : Type 0 where
  pub source : KeepsCluster old.source new.source
  pub id : ℕ
  pub free : entry_of old.target.rows id ≡ None
  pub absent : row_at old.target.rows path ≡ None
  pub rows : new.target.rows ≡ put (file_at id path edek) old.target.rows
  pub tells : new.target.bodies.tells ≡ old.target.bodies.tells
  pub body : TellsBodies old.source.bodies → TellsBodies old.target.bodies → new.target.bodies.bodies id ≡ old.source.bodies.bodies from
  pub others : TellsBodies old.target.bodies → OtherBodiesStay id old.target.bodies.bodies new.target.bodies.bodies

-- no row changes, and no body of a row of the target; the body of another id may
pub record KeepsRows (old new : CopyState) : Type 0 where
  pub source : KeepsCluster old.source new.source
  pub rows : new.target.rows ≡ old.target.rows
  pub tells : new.target.bodies.tells ≡ old.target.bodies.tells
  pub bodies : TellsBodies old.target.bodies → (id : ℕ) → is_some (entry_of old.target.rows id) ≡ true → new.target.bodies.bodies id ≡ old.target.bodies.bodies id

-- Why a call ends so. A disk or a vault failed, or the call was refused, and then there is this cause; or there was no memory. No other end comes.
abbrev pub EndsFor : (store vault : Type 0) (refused : FsEnd → Type 0) → FsEnd → Type 0
EndsFor store vault refused end.StoreFault = store
EndsFor store vault refused end.VaultFault = vault
EndsFor store vault refused end.NoMemory = ⊤
EndsFor store vault refused why = IsFailure why × refused why
