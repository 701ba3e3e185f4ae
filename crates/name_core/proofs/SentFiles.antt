-- What a delivery changes are files that have encrypted keys.
use Rattle.std.proofs.Common.{◌≡◌, ℕ, Bool, true, false, ◌&&◌, is_some, if◌then◌else◌, List, [], ◌∷◌, Option, Some, None, refl}
use Rattle.std.specs.List.{AllByRecursion, list_all}
use Rattle.std.specs.Option.{option_and_then, option_map_or}
use Rattle.std.specs.Prelude.{not}
use Rattle.std.proofs.lemmas.Bool.{and_parts}
use Rattle.hk_base.specs.Names.{Encrypted}
use Rattle.edit_ops.specs.declared.files.FileKey.{FileKey}
use Rattle.inode_tree.specs.Rows.{Entry, entry_of}
use Rattle.inode_tree.specs.ZoneFiles.{edek_of, is_file_of}
use Rattle.name_store.specs.Table.{NameTable, is_of_key, is_under, may_update}
use Rattle.reenc_walk.specs.declared.sent.Sent.{Sent}
use Rattle.reenc_walk.specs.Files.{same_edek}
use Rattle.reenc_update.specs.declared.reply.BatchResult.{BatchResult}
use Rattle.reenc_update.specs.declared.reply.BatchResult.TheVariants.{Refused, Ready}
use Rattle.reenc_update.specs.Changes.{changed, changes_of, has_edek, is_changed}

abbrev edek-at : Option Entry → Option Encrypted
edek-at o = option_and_then (λ (e : Entry). edek_of e.row.kind) o

-- the row with the id of the file has an encrypted key
abbrev pub has_file : List Entry → FileKey → Bool
has_file rows f = is_some (option_and_then (λ (e : Entry). edek_of e.row.kind) (entry_of rows f.id))

abbrev pub AreFiles : List Entry → List FileKey → Type 0
AreFiles rows files = AllByRecursion (λ (f : FileKey). has_file rows f ≡ true) files

-- a file that is changed has an encrypted key
has-one : (rows : List Entry) (zone : ℕ) (x : Sent) (e : Encrypted) → is_changed rows zone x e ≡ true → is_some (edek-at (entry_of rows x.id)) ≡ true
has-one rows zone x e is = go (entry_of rows x.id) (and_parts (option_map_or (has_edek rows zone x.edek) (entry_of rows x.id) false) (not (same_edek x.edek e)) is).0
  where
    go : (o : Option Entry) → option_map_or (has_edek rows zone x.edek) o false ≡ true → is_some (edek-at o) ≡ true
    go None found = absurd cc
    go (Some f) found =
        (and_parts (is_some (edek_of f.row.kind)) _ (and_parts (is_file_of rows zone f) (option_map_or (same_edek x.edek) (edek_of f.row.kind) false) found).0).0

changed-files : (rows : List Entry) (zone : ℕ) (sent : List Sent) (edeks : List Encrypted) → AreFiles rows (changed rows zone sent edeks)
changed-files rows zone [] edeks = tt
changed-files rows zone (x ∷ xs) [] = tt
changed-files rows zone (x ∷ xs) (e ∷ es) = go (is_changed rows zone x e) refl (changed-files rows zone xs es)
  where
    go : (t : Bool) → is_changed rows zone x e ≡ t → AreFiles rows (changed rows zone xs es)
        → AreFiles rows (if t then record { id = x.id; edek = e } ∷ changed rows zone xs es else changed rows zone xs es)
    go true is rest = (has-one rows zone x e is, rest)
    go false is rest = rest

-- so are all files of the changes of a reply
pub delivered-files : (rows : List Entry) (zone : ℕ) (sent : List Sent) (came : BatchResult) → AreFiles rows (changes_of rows zone sent came).files
delivered-files rows zone sent Refused = tt
delivered-files rows zone sent (Ready edeks) = changed-files rows zone sent edeks

-- so are those that an update may change
may-file : (t : NameTable) (session : ℕ) (f : FileKey) → may_update t session f ≡ true → has_file t.rows f ≡ true
may-file t session f may = go (entry_of t.rows f.id) may
  where
    go : (o : Option Entry) → option_map_or (λ (e : Entry). is_under t session e && is_of_key f e) o false ≡ true → is_some (edek-at o) ≡ true
    go None may = absurd cc
    go (Some e) may = (and_parts (is_some (edek_of e.row.kind)) _ (and_parts (is_under t session e) (is_of_key f e) may).0).0

pub updated-files : (t : NameTable) (session : ℕ) (files : List FileKey) → list_all (may_update t session) files ≡ true → AreFiles t.rows files
updated-files t session [] may = tt
updated-files t session (f ∷ fs) may =
    let parts = and_parts (may_update t session f) (list_all (may_update t session) fs) may in
    (may-file t session f parts.0, updated-files t session fs parts.1)
