-- Rows with the id of a zone keep its key while operations take effect.
use Rattle.std.proofs.Common.{◌≡◌, ℕ, Bool, true, false, cond, is_some, nat_lt, List, [], ◌∷◌, length, get_or, map, Option, Some, None, IfSome, refl, sym, ap, ◌∙◌}
use Rattle.std.specs.Prelude.{◌==◌, not}
use Rattle.std.specs.Bool.{⊤}
use Rattle.std.specs.List.{All, AllByRecursion}
use Rattle.std.specs.Option.{option_and_then}
use Rattle.std.proofs.lemmas.Bool.{and_parts, eqb-true}
use Rattle.std.proofs.lemmas.List.Elements.{All-filter, All-head, All-map, All-tail}
use Rattle.hk_base.specs.declared.names.KeyName.{KeyName}
use Rattle.inode_tree.specs.declared.rows.Kind.{Kind}
use Rattle.inode_tree.specs.declared.rows.Kind.TheVariants.{Dir, File}
use Rattle.inode_tree.specs.declared.rows.Row.{Row}
use Rattle.name_calls.specs.Paths.{is_prefix, same_path}
use Rattle.inode_tree.specs.Moves.{in_order, moved}
use Rattle.inode_tree.specs.Rows.{Entry, entry_of, is_dir_at, is_marked, is_zone_over, longer, mark_of, row_at, set_kind, with_kind, zone_of}
use Rattle.inode_tree.specs.ZoneFiles.{edek_of}
use Rattle.edit_ops.specs.declared.files.FileKey.{FileKey}
use Rattle.edit_ops.specs.declared.ops.EditOp.{EditOp}
use Rattle.edit_ops.specs.declared.ops.EditOp.TheVariants as op
use Rattle.name_store.specs.Causes.{mark_at}
use Rattle.name_store.specs.Table.{NameTable, after_table, id_of, new_directory, new_file, with_edeks}
use Rattle.name_core.proofs.RowLemmas.{all-put}
use Rattle.name_core.proofs.SentFiles.{AreFiles, has_file}

-- a property of each marked row is true of the row of a zone
pub zone-holds : (P : Entry → Type 0) (p : List (List ℕ)) (rows : List Entry) → All (λ (e : Entry). is_marked e.row ≡ true → P e) rows → IfSome (zone_of rows p) P
zone-holds P p [] h = tt
zone-holds P p (x ∷ rows) h = go (is_zone_over p x) refl (zone_of rows p) (zone-holds P p rows (All-tail (λ (e : Entry). is_marked e.row ≡ true → P e) x rows h))
  where
    here : is_zone_over p x ≡ true → P x
    here over = All-head (λ (e : Entry). is_marked e.row ≡ true → P e) x rows h (and_parts (is_marked x.row) (is_prefix x.path p) over).0

    longest : (t : Bool) (f : Entry) → P x → P f → P (cond t f x)
    longest true f h g = g
    longest false f h g = h

    go : (t : Bool) → is_zone_over p x ≡ t → (o : Option Entry) → IfSome o P → IfSome (cond t (Some (longer x o)) o) P
    go false over o rest = rest
    go true over None rest = here over
    go true over (Some f) rest = longest (nat_lt (length x.path) (length f.path)) f (here over) rest

-- a property of each row is true of them in path order
all-order : (P : Entry → Type 0) (es : List Entry) → All P es → All P (in_order es)
all-order P [] h = h
all-order P (e ∷ es) h = all-put P e (in_order es) (All-head P e es h) (all-order P es (All-tail P e es h))

-- a row that has the id of the zone has its key
abbrev pub HasKey : Option ℕ → Option KeyName → Entry → Type 0
HasKey under key e = under ≡ Some e.row.id → mark_of e.row.kind ≡ key

-- an operation that makes no row with the id of the zone, gives it no encrypted key, and marks only a directory without a mark
abbrev pub LeavesZone : Option ℕ → List Entry → EditOp → Type 0
LeavesZone under rows (op.Opened opening) = ⊤
LeavesZone under rows (op.Mkdir id p) = under ≡ Some id → ⊥
LeavesZone under rows (op.File id p edek) = under ≡ Some id → ⊥
LeavesZone under rows (op.Remove p) = ⊤
LeavesZone under rows (op.Rename p q) = ⊤
LeavesZone under rows (op.Zone p key) = (is_dir_at (row_at rows p) ≡ true) × (mark_at rows p ≡ None)
LeavesZone under rows (op.Allow p) = ⊤
LeavesZone under rows (op.Disallow p) = ⊤
LeavesZone under rows (op.Snap p name) = ⊤
LeavesZone under rows (op.Unsnap p name) = ⊤
LeavesZone under rows (op.Submit session p noted) = ⊤
LeavesZone under rows (op.Update session failed mark files) = AllByRecursion (λ (f : FileKey). under ≡ Some f.id → ⊥) files
LeavesZone under rows (op.Cancel session) = ⊤
LeavesZone under rows (op.Complete session) = ⊤

module _ (under : Option ℕ) (key : Option KeyName) (marked : (i : ℕ) → under ≡ Some i → is_some key ≡ true) where
  -- a directory without a mark is not the zone
  not-the-zone : (rows : List Entry) (p : List (List ℕ)) → All (HasKey under key) rows → is_dir_at (row_at rows p) ≡ true → mark_at rows p ≡ None → under ≡ Some (id_of (row_at rows p)) → ⊥
  not-the-zone [] p h dir none = absurd cc
  not-the-zone (x ∷ rows) p h dir none = go (same_path x.path p) (not-the-zone rows p (All-tail (HasKey under key) x rows h)) dir none
    where
      mark : Option Row → Option KeyName
      mark o = option_and_then (λ (r : Row). mark_of r.kind) o

      go : (t : Bool) → (is_dir_at (row_at rows p) ≡ true → mark (row_at rows p) ≡ None → under ≡ Some (id_of (row_at rows p)) → ⊥) → is_dir_at (cond t (Some x.row) (row_at rows p)) ≡ true
          → mark (cond t (Some x.row) (row_at rows p)) ≡ None → under ≡ Some (id_of (cond t (Some x.row) (row_at rows p))) → ⊥
      go true rest dir none is =
          let some : is_some (mark_of x.row.kind) ≡ true = ap is_some (All-head (HasKey under key) x rows h is) ∙ marked x.row.id is in
          let both : true ≡ false = sym some ∙ ap is_some none in
          absurd cc
      go false rest dir none is = rest dir none is

  -- the zone is no file with an encrypted key
  not-a-file : (rows : List Entry) (f : FileKey) → All (HasKey under key) rows → has_file rows f ≡ true → under ≡ Some f.id → ⊥
  not-a-file [] f h is at = absurd cc
  not-a-file (x ∷ rows) f h is at = go (x.row.id == f.id) refl is (λ file. not-a-file rows f (All-tail (HasKey under key) x rows h) file at)
    where
      no-mark : (kind : Kind) → is_some (edek_of kind) ≡ true → is_some (mark_of kind) ≡ false
      no-mark (Dir mark) file = absurd cc
      no-mark (File edek) file = refl

      go : (t : Bool) → (x.row.id == f.id) ≡ t → is_some (option_and_then (λ (e : Entry). edek_of e.row.kind) (cond t (Some x) (entry_of rows f.id))) ≡ true
          → (has_file rows f ≡ true → ⊥) → ⊥
      go true here file rest =
          let same : x.row.id ≡ f.id = eqb-true x.row.id f.id here in
          let its : under ≡ Some x.row.id = at ∙ ap (λ (i : ℕ). Some i) (sym same) in
          let none = no-mark x.row.kind file in
          let some : is_some (mark_of x.row.kind) ≡ true = ap is_some (All-head (HasKey under key) x rows h its) ∙ marked x.row.id its in
          let both : true ≡ false = sym some ∙ none in
          absurd cc
      go false other file rest = rest file

  -- files that have encrypted keys are not the zone
  pub not-zones : (rows : List Entry) (files : List FileKey) → AreFiles rows files → All (HasKey under key) rows → AllByRecursion (λ (f : FileKey). under ≡ Some f.id → ⊥) files
  not-zones rows [] are h = tt
  not-zones rows (f ∷ fs) are h = (not-a-file rows f h are.0, not-zones rows fs are.1 h)

  -- the rows keep the key of the zone after others got encrypted keys
  edeks-stay : (files : List FileKey) (rows : List Entry) → AllByRecursion (λ (f : FileKey). under ≡ Some f.id → ⊥) files → All (HasKey under key) rows → All (HasKey under key) (with_edeks files rows)
  edeks-stay [] rows apart h = h
  edeks-stay (f ∷ fs) rows apart h =
      edeks-stay fs (set_kind rows f.id (File (Some f.edek))) apart.1 (All-map (HasKey under key) (with_kind f.id (File (Some f.edek))) rows (λ i d b. with-edek (get_or rows i d) (h i d b)))
    where
      with-edek : (e : Entry) → HasKey under key e → HasKey under key (with_kind f.id (File (Some f.edek)) e)
      with-edek e has = go (e.row.id == f.id)
        where
          go : (t : Bool) → HasKey under key (cond t (record e { row = record { id = f.id; kind = File (Some f.edek) } }) e)
          go true = λ is. absurd (apart.0 is)
          go false = has

  -- the rows keep the key of the zone after such an operation
  pub keys-stay : (t : NameTable) (o : EditOp) → LeavesZone under t.rows o → All (HasKey under key) t.rows → All (HasKey under key) (after_table t o).rows
  keys-stay t (op.Opened opening) leaves h = h
  keys-stay t (op.Mkdir id p) leaves h = all-put (HasKey under key) (new_directory id p) t.rows (λ is. absurd (leaves is)) h
  keys-stay t (op.File id p edek) leaves h = all-put (HasKey under key) (new_file id p edek) t.rows (λ is. absurd (leaves is)) h
  keys-stay t (op.Remove p) leaves h = All-filter (λ (e : Entry). not (is_prefix p e.path)) (HasKey under key) t.rows h
  keys-stay t (op.Rename p q) leaves h = all-order (HasKey under key) (map (moved p q) t.rows) (All-map (HasKey under key) (moved p q) t.rows h)
  keys-stay t (op.Allow p) leaves h = h
  keys-stay t (op.Disallow p) leaves h = h
  keys-stay t (op.Snap p name) leaves h = h
  keys-stay t (op.Unsnap p name) leaves h = h
  keys-stay t (op.Submit session p noted) leaves h = h
  keys-stay t (op.Update session failed mark files) leaves h = edeks-stay files t.rows leaves h
  keys-stay t (op.Cancel session) leaves h = h
  keys-stay t (op.Complete session) leaves h = h
  keys-stay t (op.Zone p k) leaves h = All-map (HasKey under key) (with_kind id (Dir (Some k))) t.rows (λ i d b. with-kind (get_or t.rows i d) (h i d b))
    where
      id : ℕ
      id = id_of (row_at t.rows p)

      with-kind : (e : Entry) → HasKey under key e → HasKey under key (with_kind id (Dir (Some k)) e)
      with-kind e has = go (e.row.id == id)
        where
          go : (t : Bool) → HasKey under key (cond t (record e { row = record { id = id; kind = Dir (Some k) } }) e)
          go true = λ is. absurd (not-the-zone t.rows p h leaves.0 leaves.1 is)
          go false = has
