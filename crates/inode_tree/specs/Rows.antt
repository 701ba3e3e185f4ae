-- The rows of the namesystem: a list in path order, the root first.
use Rattle.std.specs.Prelude.{◌≡◌, ℕ, ◌+◌, Bool, true, false, not, ◌&&◌, ◌==◌, nat_lt, List, [], ◌∷◌, length, map, Option, Some, None, is_some, option_map, if◌then◌else◌, ⊤}
use Rattle.std.specs.List.{All, filter, list_any}
use Rattle.hk_base.specs.declared.names.KeyName.{KeyName}
use Rattle.inode_tree.specs.declared.rows.Row.{Row}
use Rattle.inode_tree.specs.declared.rows.Kind.{Kind}
use Rattle.inode_tree.specs.declared.rows.Kind.TheVariants.{Dir, File}
use Rattle.name_calls.specs.Paths.{is_before, is_relative, same_path, is_prefix, is_child, last_name, parent}

-- a row at its path
pub record Entry : Type 0 where
  pub path : List (List ℕ)
  pub row : Row

abbrev pub root_only : List Entry
root_only = record { path = []; row = record { id = 0; kind = Dir None } } ∷ []

-- the rows of a tree, and the room that it keeps for one more: one that needs no more than `spare` takes no memory
pub record TreeState : Type 0 where
  pub rows : List Entry
  pub spare : ℕ

-- the room that a row at the path needs: a place, and room for its name
abbrev pub need : List (List ℕ) → ℕ
need p = length (last_name p) + 1

-- the mark of a directory
abbrev pub mark_of : Kind → Option KeyName
mark_of (Dir key) = key
mark_of (File edek) = None

abbrev pub is_dir : Kind → Bool
is_dir (Dir key) = true
is_dir (File edek) = false

abbrev pub is_marked : Row → Bool
is_marked row = is_some (mark_of row.kind)

abbrev pub row_at : List Entry → List (List ℕ) → Option Row
row_at [] p = None
row_at (e ∷ es) p = if same_path e.path p then Some e.row else row_at es p

abbrev pub entry_of : List Entry → ℕ → Option Entry
entry_of [] id = None
entry_of (e ∷ es) id = if e.row.id == id then Some e else entry_of es id

abbrev pub is_dir_at : Option Row → Bool
is_dir_at None = false
is_dir_at (Some row) = is_dir row.kind

-- some row is a child of the directory
abbrev pub has_children : List Entry → List (List ℕ) → Bool
has_children rows p = list_any (λ e. is_child p e.path) rows

-- a row put in at its place in path order
abbrev pub put : Entry → List Entry → List Entry
put e [] = e ∷ []
put e (x ∷ xs) = if is_before e.path x.path then e ∷ x ∷ xs else x ∷ put e xs

abbrev pub with_kind : ℕ → Kind → Entry → Entry
with_kind id kind e = if e.row.id == id then record e { row = record { id = id; kind = kind } } else e

-- the rows with another kind at an id
abbrev pub set_kind : List Entry → ℕ → Kind → List Entry
set_kind rows id kind = map (with_kind id kind) rows

-- the rows without those at the path and below it
abbrev pub removed : List (List ℕ) → List Entry → List Entry
removed p rows = filter (λ e. not (is_prefix p e.path)) rows

-- the one with the longer path
abbrev pub longer : Entry → Option Entry → Entry
longer e None = e
longer e (Some f) = if nat_lt (length e.path) (length f.path) then f else e

abbrev pub is_zone_over : List (List ℕ) → Entry → Bool
is_zone_over p e = is_marked e.row && is_prefix e.path p

-- of the marked rows whose path is the path or a prefix of it, the one with the longest path
abbrev pub zone_of : List Entry → List (List ℕ) → Option Entry
zone_of [] p = None
zone_of (e ∷ es) p = if is_zone_over p e then Some (longer e (zone_of es p)) else zone_of es p

abbrev pub zone_id : List Entry → List (List ℕ) → Option ℕ
zone_id rows p = option_map (λ e. e.row.id) (zone_of rows p)

abbrev pub same_id : Option ℕ → Option ℕ → Bool
same_id None None = true
same_id None (Some j) = false
same_id (Some i) None = false
same_id (Some i) (Some j) = i == j

-- the parents lie in one zone, or both in none
abbrev pub move_allowed : List Entry → List (List ℕ) → List (List ℕ) → Bool
move_allowed rows p q = same_id (zone_id rows (parent p)) (zone_id rows (parent q))

-- each row comes after the path
abbrev pub AllAfter : List (List ℕ) → List Entry → Type 0
AllAfter p [] = ⊤
AllAfter p (e ∷ es) = (is_before p e.path ≡ true) × AllAfter p es

-- in path order, no path twice
abbrev pub IsRising : List Entry → Type 0
IsRising [] = ⊤
IsRising (e ∷ es) = AllAfter e.path es × IsRising es

-- a directory with id 0
abbrev pub IsRoot : Option Row → Type 0
IsRoot None = ⊥
IsRoot (Some row) = (row.id ≡ 0) × (is_dir row.kind ≡ true)

-- what is always true of the rows
pub record IsRows (rows : List Entry) : Type 0 where
  -- they are in path order, and no path comes twice
  pub rising : IsRising rows
  -- each path keeps the rule
  pub ruled : All (λ e. is_relative e.path ≡ true) rows
  -- each id is that of one row
  pub once : All (λ e. entry_of rows e.row.id ≡ Some e) rows
  -- the root is there
  pub rooted : IsRoot (row_at rows [])
  -- and the parent of each row is a directory
  pub housed : All (λ e. is_dir_at (row_at rows (parent e.path)) ≡ true) rows
