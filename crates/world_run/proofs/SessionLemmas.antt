-- The files of a zone have encrypted keys of the key that its re-encryption notes.
use Rattle.std.proofs.Common.{◌≡◌, inl, inr, ℕ, true, List, [], ◌∷◌, Option, Some, None, is_some, refl, sym, ap, subst, ◌∙◌}
use Rattle.std.specs.List.{All}
use Rattle.std.specs.Option.{option_and_then, option_map}
use Rattle.std.proofs.lemmas.List.Elements.{All-head, All-tail}
use Rattle.std.proofs.lemmas.Bool.{eqb-true, and_parts}
use Rattle.hk_base.specs.declared.names.Edek.{Edek}
use Rattle.hk_base.specs.declared.names.KeyName.{KeyName}
use Rattle.inode_tree.specs.declared.rows.Kind.{Kind}
use Rattle.inode_tree.specs.declared.rows.Kind.TheVariants.{Dir, File}
use Rattle.inode_tree.specs.Rows.{Entry, mark_of, same_id, zone_id, zone_of}
use Rattle.inode_tree.specs.ZoneFiles.{is_file_of}
use Rattle.name_store.specs.Table.{key_of_zone}
use Rattle.zone_table.specs.declared.statuses.StatusRow.{StatusRow}
use Rattle.zone_table.specs.Statuses.{StatusesFit, mark_of_id}
use Rattle.world_run.specs.Promise.{FitsZone, In, edek_of}
use Rattle.world_run.proofs.RenameLemmas.{zone-member}
use Rattle.world_run.proofs.RowLemmas.{InPlace}

all-has : {X : Type 0} (P : X → Type 0) (xs : List X) (x : X) → All P xs → In x xs → P x
all-has P [] x all i = absurd i
all-has P (y ∷ ys) x all (inl is) = subst P (sym is) (All-head P y ys all)
all-has P (y ∷ ys) x all (inr i) = all-has P ys x (All-tail P y ys all) i

-- the directory of the zone of a file
zone-known : (rows : List Entry) (zone : ℕ) (x : Entry) → is_file_of rows zone x ≡ true → (z : Entry) × (zone_of rows x.path ≡ Some z) × (z.row.id ≡ zone)
zone-known rows zone x file = go (zone_of rows x.path) refl (and_parts (is_some (edek_of x.row.kind)) (same_id (zone_id rows x.path) (Some zone)) file).1
  where
    go : (o : Option Entry) → zone_of rows x.path ≡ o → same_id (option_map (λ (e : Entry). e.row.id) o) (Some zone) ≡ true → (z : Entry) × (zone_of rows x.path ≡ Some z) × (z.row.id ≡ zone)
    go None is same = absurd cc
    go (Some z) is same = (z, is, eqb-true z.row.id zone same)

-- its key is that of the version noted
zone-noted : (rows : List Entry) (statuses : List StatusRow) (st : StatusRow) (x : Entry) → InPlace rows → StatusesFit rows statuses → In st statuses → is_file_of rows st.zone x ≡ true → key_of_zone rows x.path ≡ Some st.noted.key
zone-noted rows statuses st x good fit i file =
    let z = zone-known rows st.zone x file in
    let mark = option_and_then (λ (e : Entry). mark_of e.row.kind) in
    ap mark z.1 ∙ sym (ap mark (good.once z.0 (zone-member rows x.path z.0 z.1))) ∙ ap (mark_of_id rows) z.2 ∙ all-has (λ (s : StatusRow). mark_of_id rows s.zone ≡ Some s.noted.key) statuses st fit i

fits-key : (zone : Option KeyName) (kind : Kind) (key : KeyName) (e : Edek) → zone ≡ Some key → edek_of kind ≡ Some e → FitsZone zone kind → e.version.key ≡ key
fits-key None kind key e is has fits = absurd cc
fits-key (Some k) (Dir mark) key e is has fits = absurd cc
fits-key (Some k) (File None) key e is has fits = absurd fits
fits-key (Some k) (File (Some f)) key e is has fits = ap (λ (y : Edek). y.version.key) (some e f has) ∙ fits ∙ name k key is
  where
    some : (x y : Edek) → Some y ≡ Some x → x ≡ y
    some x y h = cc

    name : (x y : KeyName) → Some x ≡ Some y → x ≡ y
    name x y h = cc

-- and so is the key of the file
pub file-noted : (rows : List Entry) (statuses : List StatusRow) (st : StatusRow) (x : Entry) (e : Edek) → InPlace rows → StatusesFit rows statuses → In st statuses → FitsZone (key_of_zone rows x.path) x.row.kind → is_file_of rows st.zone x ≡ true
    → edek_of x.row.kind ≡ Some e → e.version.key ≡ st.noted.key
file-noted rows statuses st x e good fit i fits file has = fits-key (key_of_zone rows x.path) x.row.kind st.noted.key e (zone-noted rows statuses st x good fit i file) has fits
