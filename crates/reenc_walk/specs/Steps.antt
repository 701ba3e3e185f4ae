-- What the functions of a walk say to one another.
use Rattle.std.specs.Prelude.{◌≡◌, ◌≢◌, ◌≤◌, ◌<◌, ℕ, Bool, true, false, not, ◌||◌, List, [], ◌∷◌, ◌++◌, length, take, drop, Option, Some, None, slice_get, if◌then◌else◌}
use Rattle.std.specs.Option.{option_map}
use Rattle.inode_tree.specs.Arena.{rank}
use Rattle.inode_tree.specs.Rows.{Entry}
use Rattle.name_calls.specs.Paths.{is_prefix}
use Rattle.reenc_walk.specs.declared.sent.Sent.{Sent}
use Rattle.reenc_walk.specs.declared.files.Files.{Files}
use Rattle.reenc_walk.specs.Files.{is_after, is_file_of, last_in, last_path, sent_list, sent_of, walk_list}

-- the row does not lie below the directory, or it comes after the path in it
abbrev pub is_past : List (List ℕ) → Option (List (List ℕ)) → Entry → Bool
is_past dir cursor e = not (is_prefix dir e.path) || is_after cursor (drop (length dir) e.path)

-- of the rows from the directory on, those from a place on are past the path in it, and no others
pub record IsStart (rows : List Entry) (dir : List (List ℕ)) (cursor : Option (List (List ℕ))) (at : ℕ) : Type 0 where
  pub from : rank rows dir ≤ at
  pub upto : at ≤ length rows
  pub before : (k : ℕ) (e : Entry) → rank rows dir ≤ k → k < at → slice_get rows k ≡ Some e → is_past dir cursor e ≡ false
  pub after : (k : ℕ) (e : Entry) → at ≤ k → slice_get rows k ≡ Some e → is_past dir cursor e ≡ true

-- what is sent of a row
abbrev pub file_sent : List Entry → ℕ → Entry → Option Sent
file_sent rows zone e = if is_file_of rows zone e then sent_of e else None

abbrev pub added : Option Sent → List Sent → List Sent
added None sent = sent
added (Some s) sent = sent ++ s ∷ []

abbrev pub last_after : ℕ → Option Sent → ℕ → ℕ
last_after at None last = last
last_after at (Some s) last = at

-- what is sent of the first files of the walk, and the place of the last of them
pub record IsFound (rows : List Entry) (zone : ℕ) (after : Option (List (List ℕ))) (size : ℕ) (sent : List Sent) (last : ℕ) : Type 0 where
  pub sent_is : sent ≡ sent_list (take size (walk_list rows zone after))
  pub count : length sent ≡ length (take size (walk_list rows zone after))
  pub last_is : 1 ≤ length sent → option_map (λ e. e.path) (slice_get rows last) ≡ Some (last_path [] (take size (walk_list rows zone after)))

-- the files that were found, with the path of the last one
pub record IsPacked (rows : List Entry) (names : ℕ) (sent : List Sent) (last : ℕ) (files : Files) : Type 0 where
  pub some : 1 ≤ length sent
  pub sent_is : files.sent ≡ sent
  pub kept_is : files.kept ≡ sent
  pub last_is : option_map (λ e. drop names e.path) (slice_get rows last) ≡ Some files.last
  pub cursor_is : option_map (λ e. drop names e.path) (slice_get rows last) ≡ Some files.cursor

abbrev pub Packs : List Entry → ℕ → List Sent → ℕ → Option Files → Type 0
Packs rows names sent last None = length sent ≡ 0
Packs rows names sent last (Some files) = IsPacked rows names sent last files

-- the next files of a walk
pub record AreNext (rows : List Entry) (zone : ℕ) (after : Option (List (List ℕ))) (size : ℕ) (files : Files) : Type 0 where
  pub some : walk_list rows zone after ≢ []
  pub sent_is : files.sent ≡ sent_list (take size (walk_list rows zone after))
  pub kept_is : files.kept ≡ sent_list (take size (walk_list rows zone after))
  pub last_is : files.last ≡ last_in rows zone (take size (walk_list rows zone after))
  pub cursor_is : files.cursor ≡ last_in rows zone (take size (walk_list rows zone after))

abbrev pub Goes : List Entry → ℕ → Option (List (List ℕ)) → ℕ → Option Files → Type 0
Goes rows zone after size None = walk_list rows zone after ≡ []
Goes rows zone after size (Some files) = AreNext rows zone after size files
