-- The files of a zone in the order of a walk, and files as a batch sends them.
use Rattle.std.specs.Prelude.{ℕ, Bool, true, false, ◌&&◌, ◌==◌, List, [], ◌∷◌, Option, Some, None}
use Rattle.std.specs.List.{filter, filter_map}
use Rattle.std.specs.Option.{option_map}
use Rattle.std.specs.Str.{bytes_eq}
use Rattle.hk_base.specs.Names.{Encrypted}
use Rattle.inode_tree.specs.Rows.{Entry}
pub use Rattle.inode_tree.specs.ZoneFiles.{edek_of, is_file_of, path_in, zone_path}
use Rattle.name_calls.specs.Paths.{is_before}
use Rattle.reenc_walk.specs.declared.sent.Sent.{Sent}

abbrev pub is_after : Option (List (List ℕ)) → List (List ℕ) → Bool
is_after None p = true
is_after (Some q) p = is_before q p

-- the files of a zone whose path in it comes after another one, or all of them, in path order
abbrev pub walk_list : List Entry → ℕ → Option (List (List ℕ)) → List Entry
walk_list rows zone after = filter (λ e. is_file_of rows zone e && is_after after (path_in rows zone e.path)) rows

-- a file as a batch sends it
abbrev pub sent_of : Entry → Option Sent
sent_of e = option_map (λ edek. record { id = e.row.id; edek = edek }) (edek_of e.row.kind)

abbrev pub sent_list : List Entry → List Sent
sent_list files = filter_map sent_of files

-- the path of the last file
abbrev pub last_path : List (List ℕ) → List Entry → List (List ℕ)
last_path p [] = p
last_path p (e ∷ es) = last_path e.path es

-- the path of the last file in the zone
abbrev pub last_in : List Entry → ℕ → List Entry → List (List ℕ)
last_in rows zone files = path_in rows zone (last_path [] files)

abbrev pub same_edek : Encrypted → Encrypted → Bool
same_edek a b = bytes_eq a.version.key b.version.key && a.version.number == b.version.number && bytes_eq a.iv b.iv && bytes_eq a.sealed b.sealed

abbrev pub same_file : Sent → Sent → Bool
same_file a b = a.id == b.id && same_edek a.edek b.edek

abbrev pub same_sent : List Sent → List Sent → Bool
same_sent [] [] = true
same_sent [] (y ∷ ys) = false
same_sent (x ∷ xs) [] = false
same_sent (x ∷ xs) (y ∷ ys) = same_file x y && same_sent xs ys
