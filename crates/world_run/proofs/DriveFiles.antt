-- The files that a walk has left: as many are left after some files got other encrypted keys.
use Rattle.std.proofs.Common.{◌≡◌, ◌≢◌, ◌<◌, inl, inr, ℕ, suc, Bool, true, false, cond, ◌&&◌, List, [], ◌∷◌, length, map, Option, Some, is_some, refl, sym, ap, ◌∙◌, subst, arith}
use Rattle.std.specs.List.{filter}
use Rattle.std.specs.Option.{option_map_or}
use Rattle.edit_ops.specs.declared.files.FileKey.{FileKey}
use Rattle.inode_tree.specs.declared.rows.Kind.TheVariants.{File}
use Rattle.inode_tree.specs.Rows.{Entry, entry_of, set_kind, with_kind}
use Rattle.inode_tree.specs.ZoneFiles.{edek_of, is_file_of, path_in}
use Rattle.name_calls.specs.declared.paths.NPath.{NPath}
use Rattle.reenc_walk.specs.declared.sent.Sent.{Sent}
use Rattle.reenc_walk.specs.Files.{is_after, walk_list}
use Rattle.reenc_walk.specs.Walks.{outstanding}
use Rattle.reenc_update.specs.declared.reply.BatchResult.{BatchResult}
use Rattle.reenc_update.specs.declared.reply.BatchResult.TheVariants.{Refused, Ready}
use Rattle.reenc_update.specs.Changes.{changed, changes_of}
use Rattle.reenc_update.specs.Laws.{In as InChanges}
use Rattle.reenc_update.proofs.ChangeLemmas.{changed-delivered}
use Rattle.zone_table.specs.declared.statuses.StatusRow.{StatusRow}
use Rattle.name_store.specs.Causes.{id_at}
use Rattle.name_store.specs.Table.{with_edeks}
use Rattle.name_core.specs.State.{NameState}
use Rattle.name_core.specs.Walks.{status_at, walk_of}
use Rattle.world_run.specs.Drives.{files_left, outstanding_in}
use Rattle.world_run.specs.Promise.{In}
use Rattle.world_run.proofs.Members.{map-in, some-is}
use Rattle.world_run.proofs.RekeyedFiles.{AreKeyed, id-stays, rekeyed, was-row}
use Rattle.world_run.proofs.RowLemmas.{InPlace, one-of-id}

-- lists

map-twice : (f g : Entry → Entry) (es : List Entry) → map g (map f es) ≡ map (λ (e : Entry). g (f e)) es
map-twice f g [] = refl
map-twice f g (e ∷ es) = ap (λ (l : List Entry). g (f e) ∷ l) (map-twice f g es)

map-nothing : (es : List Entry) → es ≡ map (λ (e : Entry). e) es
map-nothing [] = refl
map-nothing (e ∷ es) = ap (λ (l : List Entry). e ∷ l) (map-nothing es)

-- as many elements pass the test afterwards, if each passes exactly if it did before
filter-mapped : (p q : Entry → Bool) (f : Entry → Entry) (es : List Entry) → ((x : Entry) → In x es → q (f x) ≡ p x) → length (filter q (map f es)) ≡ length (filter p es)
filter-mapped p q f [] same = refl
filter-mapped p q f (e ∷ es) same =
    ap (λ (t : Bool). length (cond t (f e ∷ filter q (map f es)) (filter q (map f es)))) (same e (inl refl)) ∙ go (p e) (filter-mapped p q f es (λ x i. same x (inr i)))
  where
    go : (t : Bool) → length (filter q (map f es)) ≡ length (filter p es) → length (cond t (f e ∷ filter q (map f es)) (filter q (map f es))) ≡ length (cond t (e ∷ filter p es) (filter p es))
    go true ih = ap suc ih
    go false ih = ih

pub some-length : (es : List Entry) → es ≢ [] → 0 < length es
some-length [] some = absurd (some refl)
some-length (e ∷ es) some = omega arith

-- rows

edeks-map : (files : List FileKey) (rows : List Entry) → with_edeks files rows ≡ map (rekeyed files) rows
edeks-map [] rows = map-nothing rows
edeks-map (f ∷ fs) rows = edeks-map fs (set_kind rows f.id (File (Some f.edek))) ∙ map-twice (with_kind f.id (File (Some f.edek))) (rekeyed fs) rows

-- as many files of the zone come after a path
pub walk-rekeyed : (rows : List Entry) (files : List FileKey) (zone : ℕ) (after : Option (List (List ℕ))) → InPlace rows → AreKeyed rows files
    → length (walk_list (with_edeks files rows) zone after) ≡ length (walk_list rows zone after)
walk-rekeyed rows files zone after good keyed =
    ap (λ (l : List Entry). length (filter (left (with_edeks files rows)) l)) (edeks-map files rows)
    ∙ filter-mapped (left rows) (left (with_edeks files rows)) (rekeyed files) rows same
  where
    left : List Entry → Entry → Bool
    left es e = is_file_of es zone e && is_after after (path_in es zone e.path)

    same : (x : Entry) → In x rows → left (with_edeks files rows) (rekeyed files x) ≡ left rows x
    same x i =
        let was = was-row rows files keyed (rekeyed files x) (subst (In (rekeyed files x)) (sym (edeks-map files rows)) (map-in (rekeyed files) x rows i)) in
        let is : was.old ≡ x = one-of-id rows good was.old x was.member i (sym was.id ∙ id-stays files x) in
        (λ k. was.file zone k && is_after after (was.place zone k)) ∙ ap (left rows) is

-- the files of a delivery

to-changes : (f : FileKey) (files : List FileKey) → In f files → InChanges f files
to-changes f [] i = i
to-changes f (g ∷ files) (inl is) = inl is
to-changes f (g ∷ files) (inr i) = inr (to-changes f files i)

-- each has an encrypted key
pub changes-keyed : (rows : List Entry) (zone : ℕ) (sent : List Sent) (result : BatchResult) → InPlace rows → AreKeyed rows (changes_of rows zone sent result).files
changes-keyed rows zone sent Refused good = λ f x i. absurd i
changes-keyed rows zone sent (Ready edeks) good = λ f x i j same.
    let d = changed-delivered rows zone sent edeks f (to-changes f (changed rows zone sent edeks) i) in
    let is : d.still.entry ≡ x = some-is d.still.entry x (sym d.still.stands ∙ ap (entry_of rows) (sym same) ∙ good.once x j) in
    ap (λ (y : Entry). is_some (edek_of y.row.kind)) (sym is) ∙ ap is_some d.still.has

-- what is left to do in a zone, by its status

abbrev pub left-by : NameState → ℕ → StatusRow → ℕ
left-by s zone st = length (walk_list s.table.rows zone (walk_of s.walks st).cursor)

abbrev pub out-by : NameState → StatusRow → ℕ
out-by s st = outstanding (walk_of s.walks st).batches

pub left-at : (s : NameState) (zone : NPath) (st : StatusRow) → status_at s.table zone ≡ Some st → files_left s zone ≡ left-by s (id_at s.table.rows zone) st
left-at s zone st found = ap (λ (o : Option StatusRow). option_map_or (left-by s (id_at s.table.rows zone)) o 0) found

pub out-at : (s : NameState) (zone : NPath) (st : StatusRow) → status_at s.table zone ≡ Some st → outstanding_in s zone ≡ out-by s st
out-at s zone st found = ap (λ (o : Option StatusRow). option_map_or (out-by s) o 0) found
