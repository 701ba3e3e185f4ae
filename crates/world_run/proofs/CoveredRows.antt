-- Rows that change, as the zones that are re-encrypted see them.
use Rattle.std.proofs.Common.{◌≡◌, inl, inr, ℕ, Bool, true, false, cond, not, ◌&&◌, List, [], ◌∷◌, ◌++◌, length, drop, Option, Some, None, is_some, refl, sym, ap, subst, ◌∙◌, arith, length-append}
use Rattle.std.specs.Prelude.{◌==◌, nat_lt}
use Rattle.std.specs.List.{filter, find}
use Rattle.std.specs.Option.{option_and_then, option_map, option_map_or}
use Rattle.std.proofs.Math.Seq.{drop-append-add}
use Rattle.std.proofs.lemmas.Bool.Decides.{nat_tests}
use Rattle.std.proofs.lemmas.List.{drop-drop}
use Rattle.std.proofs.lemmas.List.Elements.{recursion_from_All}
use Rattle.std.proofs.lemmas.Bool.{eqb-true, not-true as no}
use Rattle.hk_base.specs.declared.names.KeyName.{KeyName}
use Rattle.inode_tree.specs.declared.rows.Kind.{Kind}
use Rattle.inode_tree.specs.declared.rows.Kind.TheVariants.{Dir, File}
use Rattle.inode_tree.specs.declared.rows.Row.{Row}
use Rattle.name_calls.specs.Paths.{is_prefix, parent}
use Rattle.inode_tree.specs.Below.{at_or_below}
use Rattle.inode_tree.specs.Moves.{CanMove, moved, moved_path, renamed}
use Rattle.inode_tree.specs.Rows.{Entry, entry_of, is_dir, is_marked, is_zone_over, longer, mark_of, move_allowed, put, removed, same_id, set_kind, with_kind, zone_id, zone_of}
use Rattle.inode_tree.specs.ZoneFiles.{edek_of, is_file_of, path_in, zone_path}
use Rattle.inode_tree.proofs.MovedLaws.{IsPlaced, entry-placed, free}
use Rattle.inode_tree.proofs.MovedPaths.{path-moves, path-stays, prefix-split, prefix-trans}
use Rattle.inode_tree.proofs.MovedRows.{IsOff}
use Rattle.inode_tree.proofs.MovedZones.{or_zone, same-id-yes, zone-placed, zone-placed-before, zone-placed-elsewhere, zone_inside}
use Rattle.zone_table.specs.declared.statuses.StatusRow.{StatusRow}
use Rattle.zone_table.specs.Statuses.{StatusesFit, goes_on, is_of, mark_of_id, without_below, zone_goes_on}
use Rattle.name_store.specs.Causes.{is_under_reencryption}
use Rattle.world_run.specs.Ledger.{Draw, Ledger}
use Rattle.world_run.specs.Linked.{AreDistinct, IsOther}
use Rattle.world_run.specs.Promise.{In}
use Rattle.world_run.proofs.Members.{each-in, in-filter, in-map, some-is}
use Rattle.world_run.proofs.RenameLemmas.{in-renamed, is-placed, zone-member}
use Rattle.world_run.proofs.RowLemmas.{InPlace, Markable, beside, dir-row, in-put, in-removed, member-at, one-of-id, which, zone-beside, zone-put, zone-removed}
use Rattle.world_run.proofs.RowsAfter.{entry-mark, entry-old, path-stays as mark-path}

-- What an entry was before the rows changed.
pub record Was (olds news : List Entry) (statuses : List StatusRow) (x : Entry) : Type 0 where
  pub old : Entry
  pub member : In old olds
  pub id : x.row.id ≡ old.row.id
  pub edek : edek_of x.row.kind ≡ edek_of old.row.kind
  -- it is a file of the same zones, and it has the same path in each zone that is being re-encrypted
  pub file : (s : StatusRow) → In s statuses → is_file_of news s.zone x ≡ is_file_of olds s.zone old
  pub place : (s : StatusRow) → In s statuses → s.completed ≡ false → is_file_of olds s.zone old ≡ true → path_in news s.zone x.path ≡ path_in olds s.zone old.path

-- each entry that has a draw was there before
abbrev pub KeepsFiles : Ledger → List Entry → List Entry → List StatusRow → Type 0
KeepsFiles ledger olds news statuses = (x : Entry) (d : Draw) → In x news → In (x.row.id, d) ledger → Was olds news statuses x

-- the same zone and the same directory

file-same : (olds news : List Entry) (zone : ℕ) (x : Entry) → zone_of news x.path ≡ zone_of olds x.path → is_file_of news zone x ≡ is_file_of olds zone x
file-same olds news zone x same = ap (λ (o : Option Entry). is_some (edek_of x.row.kind) && same_id (option_map (λ (e : Entry). e.row.id) o) (Some zone)) same

abbrev path_of_entry : Option Entry → List (List ℕ)
path_of_entry o = option_map_or (λ (e : Entry). e.path) o []

place-same : (olds news : List Entry) (zone : ℕ) (p : List (List ℕ)) → entry_of news zone ≡ entry_of olds zone → path_in news zone p ≡ path_in olds zone p
place-same olds news zone p same = ap (λ (o : Option Entry). drop (length (path_of_entry o)) p) same

no-dir-file : (rows : List Entry) (zone : ℕ) (x : Entry) → is_dir x.row.kind ≡ true → is_file_of rows zone x ≡ false
no-dir-file rows zone x dir = go x.row.kind dir
  where
    go : (kind : Kind) → is_dir kind ≡ true → (is_some (edek_of kind) && same_id (zone_id rows x.path) (Some zone)) ≡ false
    go (Dir key) h = refl
    go (File edek) h = absurd cc

both : (b : Bool) → b ≡ true → b ≡ false → ⊥
both true h k = absurd cc
both false h k = absurd cc

-- a row that is put in

-- a marked directory has another id than one that no row has
other-id : (rows : List Entry) (id zone : ℕ) (key : KeyName) → entry_of rows id ≡ None → mark_of_id rows zone ≡ Some key → (id == zone) ≡ false
other-id rows id zone key fresh marked = go (id == zone) refl
  where
    unmarked : None ≡ Some key → ⊥
    unmarked h = absurd cc

    go : (b : Bool) → (id == zone) ≡ b → b ≡ false
    go true is = absurd (unmarked (sym (ap (option_and_then (λ (e : Entry). mark_of e.row.kind)) fresh) ∙ ap (mark_of_id rows) (eqb-true id zone is) ∙ marked))
    go false is = refl

-- the zone of a status is marked
zone-marked : (rows : List Entry) (statuses : List StatusRow) (s : StatusRow) → StatusesFit rows statuses → In s statuses → mark_of_id rows s.zone ≡ Some s.noted.key
zone-marked rows statuses s fit i = each-in (λ (t : StatusRow). mark_of_id rows t.zone ≡ Some t.noted.key) statuses s (recursion_from_All (λ (t : StatusRow). mark_of_id rows t.zone ≡ Some t.noted.key) statuses fit) i

pub put-keeps : (ledger : Ledger) (rows : List Entry) (e : Entry) (statuses : List StatusRow) → is_marked e.row ≡ false → entry_of rows e.row.id ≡ None → ((d : Draw) → In (e.row.id, d) ledger → ⊥) → StatusesFit rows statuses
    → KeepsFiles ledger rows (put e rows) statuses
put-keeps ledger rows e statuses plain fresh undrawn fit x d i drawn = elim (in-put x e rows i) [
  | inl is ↦ absurd (undrawn d (subst (λ (y : Entry). In (y.row.id, d) ledger) is drawn))
  | inr old ↦ record {
    old = x;
    member = old;
    id = refl;
    edek = refl;
    file = λ s j. file-same rows (put e rows) s.zone x (zone-put e rows x.path plain);
    place = λ s j going file. place-same rows (put e rows) s.zone x.path (entry-old e rows s.zone (other-id rows e.row.id s.zone s.noted.key fresh (zone-marked rows statuses s fit j)));
  }
]

-- rows that are taken away

-- a row that is not taken away keeps its id
entry-stays : (p : List (List ℕ)) (rows : List Entry) (id : ℕ) → at_or_below rows id p ≡ false → entry_of (removed p rows) id ≡ entry_of rows id
entry-stays p [] id out = refl
entry-stays p (y ∷ ys) id out = go (is_prefix p y.path) refl (y.row.id == id) refl out (entry-stays p ys id)
  where
    go : (b : Bool) → is_prefix p y.path ≡ b → (t : Bool) → (y.row.id == id) ≡ t → option_map_or (λ (e : Entry). is_prefix p e.path) (cond t (Some y) (entry_of ys id)) false ≡ false
        → (at_or_below ys id p ≡ false → entry_of (removed p ys) id ≡ entry_of ys id) → entry_of (cond (not b) (y ∷ removed p ys) (removed p ys)) id ≡ cond t (Some y) (entry_of ys id)
    go true in_it true is h ih = absurd (both (is_prefix p y.path) in_it h)
    go true in_it false is h ih = ih h
    go false beside true is h ih = ap (λ c. cond c (Some y) (entry_of (removed p ys) id)) is
    go false beside false is h ih = ap (λ c. cond c (Some y) (entry_of (removed p ys) id)) is ∙ ih h

pub removed-keeps : (ledger : Ledger) (rows : List Entry) (p : List (List ℕ)) (statuses : List StatusRow) → KeepsFiles ledger rows (removed p rows) (without_below rows p statuses)
removed-keeps ledger rows p statuses x d i drawn =
    let was = in-removed p x rows i in
    record {
      old = x;
      member = was.0;
      id = refl;
      edek = refl;
      file = λ s j. file-same rows (removed p rows) s.zone x (zone-removed p x.path rows was.1);
      place = λ s j going file.
          let stays = in-filter (λ (t : StatusRow). not (at_or_below rows t.zone p)) s statuses j in
          place-same rows (removed p rows) s.zone x.path (entry-stays p rows s.zone (no (at_or_below rows s.zone p) stays.1));
    }

-- the statuses that stay were there
pub status-stays : (rows : List Entry) (p : List (List ℕ)) (statuses : List StatusRow) (s : StatusRow) → In s (without_below rows p statuses) → In s statuses
status-stays rows p statuses s i = (in-filter (λ (t : StatusRow). not (at_or_below rows t.zone p)) s statuses i).0

-- a directory that is marked

module _ (rows : List Entry) (p : List (List ℕ)) (dir : ℕ) (key : KeyName) (good : InPlace rows) (m : Markable rows p dir) where
  abbrev news : List Entry
  news = set_kind rows dir (Dir (Some key))

  -- an entry with the directory's id is the directory
  dir-is : (y : Entry) → In y rows → y.row.id ≡ dir → is_dir y.row.kind ≡ true
  dir-is y i same =
      let z = member-at rows p m.row m.stands in
      let is : z.0 ≡ y = one-of-id rows good z.0 y z.1 i (ap (λ (r : Row). r.id) z.3 ∙ m.of_id ∙ sym same) in
      subst (λ (u : Entry). is_dir u.row.kind ≡ true) is (ap (λ (r : Row). is_dir r.kind) z.3 ∙ m.is_dir)

  root-stays : (zone : ℕ) → zone_path news zone ≡ zone_path rows zone
  root-stays zone = ap path_of_entry (entry-mark dir key rows zone) ∙ go (entry_of rows zone)
    where
      go : (o : Option Entry) → path_of_entry (option_map (with_kind dir (Dir (Some key))) o) ≡ path_of_entry o
      go None = refl
      go (Some e) = mark-path dir key e

  file-stays : (zone : ℕ) (y : Entry) → In y rows → is_file_of news zone y ≡ is_file_of rows zone y
  file-stays zone y i = go (is_dir y.row.kind) refl
    where
      go : (b : Bool) → is_dir y.row.kind ≡ b → is_file_of news zone y ≡ is_file_of rows zone y
      go true is = no-dir-file news zone y is ∙ sym (no-dir-file rows zone y is)
      go false is = file-same rows news zone y (zone-beside dir key rows p y.path (beside rows p dir good m y i is) (dir-row rows p dir good m))

  no-key : (kind : Kind) → is_dir kind ≡ true → edek_of kind ≡ None
  no-key (Dir mark) h = refl
  no-key (File edek) h = absurd cc

  mark-was : (statuses : List StatusRow) (y : Entry) → In y rows → Was rows news statuses (with_kind dir (Dir (Some key)) y)
  mark-was statuses y i = elim (which dir key y) [
    | inl (same, is) ↦ subst (Was rows news statuses) (sym is) (record {
      old = y;
      member = i;
      id = sym same;
      edek = sym (no-key y.row.kind (dir-is y i same));
      file = λ s j. sym (no-dir-file rows s.zone y (dir-is y i same));
      place = λ s j going file. absurd (both (is_file_of rows s.zone y) file (no-dir-file rows s.zone y (dir-is y i same)));
    })
    | inr is ↦ subst (Was rows news statuses) (sym is) (record {
      old = y;
      member = i;
      id = refl;
      edek = refl;
      file = λ s j. file-stays s.zone y i;
      place = λ s j going file. ap (λ (q : List (List ℕ)). drop (length q) y.path) (root-stays s.zone);
    })
  ]

  pub marked-keeps : (ledger : Ledger) (statuses : List StatusRow) → KeepsFiles ledger rows (set_kind rows dir (Dir (Some key))) statuses
  marked-keeps ledger statuses x d i drawn =
      let y = in-map (with_kind dir (Dir (Some key))) x rows i in
      subst (Was rows news statuses) (sym y.2) (mark-was statuses y.0 y.1)

-- rows that move

-- a zone is over the path that it is found for
zone-over : (rows : List Entry) (p : List (List ℕ)) (z : Entry) → zone_of rows p ≡ Some z → is_zone_over p z ≡ true
zone-over [] p z h = absurd cc
zone-over (e ∷ es) p z h = go (is_zone_over p e) refl (zone_of es p) h (zone-over es p z)
  where
    longest : is_zone_over p e ≡ true → (b : Bool) (f : Entry) → Some (cond b f e) ≡ Some z → (Some f ≡ Some z → is_zone_over p z ≡ true) → is_zone_over p z ≡ true
    longest is true f h ih = ih h
    longest is false f h ih = ap (is_zone_over p) (sym (some-is e z h)) ∙ is

    go : (b : Bool) → is_zone_over p e ≡ b → (o : Option Entry) → cond b (Some (longer e o)) o ≡ Some z → (o ≡ Some z → is_zone_over p z ≡ true) → is_zone_over p z ≡ true
    go false is o h ih = ih h
    go true is None h ih = ap (is_zone_over p) (sym (some-is e z h)) ∙ is
    go true is (Some f) h ih = longest is (nat_lt (length e.path) (length f.path)) f h ih

second : (a b : Bool) → (a && b) ≡ true → b ≡ true
second true b h = h
second false b h = absurd cc

-- the zone of a file, and its directory
record ZoneOf (rows : List Entry) (zone : ℕ) (y : Entry) : Type 0 where
  root : Entry
  found : zone_of rows y.path ≡ Some root
  its : root.row.id ≡ zone
  by_id : entry_of rows zone ≡ Some root

zone-of-file : (rows : List Entry) (zone : ℕ) (y : Entry) → InPlace rows → is_file_of rows zone y ≡ true → ZoneOf rows zone y
zone-of-file rows zone y good file = go (zone_of rows y.path) refl (same-id-yes (zone_id rows y.path) (Some zone) (second (is_some (edek_of y.row.kind)) (same_id (zone_id rows y.path) (Some zone)) file))
  where
    go : (o : Option Entry) → zone_of rows y.path ≡ o → option_map (λ (e : Entry). e.row.id) o ≡ Some zone → ZoneOf rows zone y
    go None is h = absurd cc
    go (Some e) is h =
        let its : e.row.id ≡ zone = some-is e.row.id zone h in
        record { root = e; found = is; its = its; by_id = ap (entry_of rows) (sym its) ∙ good.once e (zone-member rows y.path e is) }

-- the status of a zone that goes on
goes-on-there : (statuses : List StatusRow) (s : StatusRow) → AreDistinct statuses → In s statuses → s.completed ≡ false → zone_goes_on statuses s.zone ≡ true
goes-on-there [] s distinct i going = absurd i
goes-on-there (t ∷ ts) s distinct (inl same) going =
    ap (λ b. option_map_or goes_on (cond b (Some t) (find (is_of s.zone) ts)) false) (ap (is_of s.zone) (sym same) ∙ same-number s.zone) ∙ ap goes_on (sym same) ∙ ap not going
  where
    same-number : (n : ℕ) → (n == n) ≡ true
    same-number n = grind (arith, nat_tests)
goes-on-there (t ∷ ts) s distinct (inr i) going = ap (λ b. option_map_or goes_on (cond b (Some t) (find (is_of s.zone) ts)) false) (other (is_of s.zone t) refl) ∙ goes-on-there ts s distinct.1 i going
  where
    other : (b : Bool) → is_of s.zone t ≡ b → b ≡ false
    other true is = absurd ((each-in (IsOther t) ts s distinct.0 i).zone (eqb-true t.zone s.zone is))
    other false is = refl

-- the path of a moved file in a directory that moves with it
moved-together : (p q r y : List (List ℕ)) → is_prefix p r ≡ true → is_prefix p y ≡ true → drop (length (moved_path p q r)) (moved_path p q y) ≡ drop (length r) y
moved-together p q r y over below =
    ap (λ (u : List (List ℕ)). drop (length u) (moved_path p q y)) (path-moves p q r over)
    ∙ ap (drop (length (q ++ drop (length p) r))) (path-moves p q y below)
    ∙ ap (λ (n : ℕ). drop n (q ++ drop (length p) y)) (length-append q (drop (length p) r))
    ∙ drop-append-add q (drop (length p) y) (length (drop (length p) r))
    ∙ drop-drop (length (drop (length p) r)) (length p) y
    ∙ ap (λ (n : ℕ). drop n y) (sym (length-append p (drop (length p) r)) ∙ sym (ap length (prefix-split p r over)))

module _ (rows : List Entry) (p q : List (List ℕ)) (good : InPlace rows) (can : CanMove rows p q) (allowed : move_allowed rows p q ≡ true) where
  in-row-order : IsPlaced rows
  in-row-order = is-placed rows p q good can

  off : (y : Entry) → In y rows → is_prefix q y.path ≡ false
  off y i = each-in (IsOff q) rows y (free rows p q in-row-order can) i

  -- a moved path stays in its zone
  zone-kept : (x : List (List ℕ)) → zone_id (renamed p q rows) (q ++ x) ≡ zone_id rows (p ++ x)
  zone-kept x = ap id-of (zone-placed rows p q in-row-order can x) ∙ go (zone_inside p rows x) ∙ sym (ap id-of (zone-placed-before rows p q in-row-order can x))
    where
      id-of : Option Entry → Option ℕ
      id-of o = option_map (λ (e : Entry). e.row.id) o

      go : (i : Option Entry) → id-of (or_zone (option_map (moved p q) i) (zone_of rows (parent q))) ≡ id-of (or_zone i (zone_of rows (parent p)))
      go None = sym (same-id-yes (zone_id rows (parent p)) (zone_id rows (parent q)) allowed)
      go (Some e) = refl

  -- each row stays in its zone
  pub zone-moved : (y : Entry) → In y rows → zone_id (renamed p q rows) (moved_path p q y.path) ≡ zone_id rows y.path
  zone-moved y i = go (is_prefix p y.path) refl
    where
      go : (b : Bool) → is_prefix p y.path ≡ b → zone_id (renamed p q rows) (cond b (q ++ drop (length p) y.path) y.path) ≡ zone_id rows y.path
      go true below = zone-kept (drop (length p) y.path) ∙ ap (zone_id rows) (sym (prefix-split p y.path below))
      go false beside = ap (option_map (λ (e : Entry). e.row.id)) (zone-placed-elsewhere rows p q in-row-order can y.path beside (off y i))

  root-moves : (zone : ℕ) (root : Entry) → entry_of rows zone ≡ Some root → zone_path (renamed p q rows) zone ≡ moved_path p q root.path
  root-moves zone root is = ap path_of_entry (entry-placed rows p q in-row-order can zone ∙ ap (option_map (moved p q)) is)

  -- a file keeps its path in its zone, unless the zone of what moves is that zone
  path-kept : (y : Entry) (root : Entry) → zone_of rows y.path ≡ Some root → (zone_of rows (parent p) ≡ Some root → ⊥) → drop (length (moved_path p q root.path)) (moved_path p q y.path) ≡ drop (length root.path) y.path
  path-kept y root found apart = go (is_prefix p y.path) refl
    where
      over : is_prefix root.path y.path ≡ true
      over = second (is_marked root.row) (is_prefix root.path y.path) (zone-over rows y.path root found)

      outside : is_prefix p y.path ≡ false → (b : Bool) → is_prefix p root.path ≡ b → b ≡ false
      outside beside true h = absurd (both (is_prefix p y.path) (prefix-trans p root.path y.path h over) beside)
      outside beside false h = refl

      inside : is_prefix p y.path ≡ true → (o : Option Entry) → zone_inside p rows (drop (length p) y.path) ≡ o → or_zone o (zone_of rows (parent p)) ≡ Some root → is_prefix p root.path ≡ true
      inside below None is h = absurd (apart h)
      inside below (Some i) is h =
          let member = zone-member (filter (λ (e : Entry). is_prefix p e.path) rows) (p ++ drop (length p) y.path) i is in
          subst (λ (e : Entry). is_prefix p e.path ≡ true) (some-is i root h) (in-filter (λ (e : Entry). is_prefix p e.path) i rows member).1

      go : (b : Bool) → is_prefix p y.path ≡ b → drop (length (moved_path p q root.path)) (moved_path p q y.path) ≡ drop (length root.path) y.path
      go true below =
          let here : zone_of rows (p ++ drop (length p) y.path) ≡ Some root = ap (zone_of rows) (sym (prefix-split p y.path below)) ∙ found in
          moved-together p q root.path y.path (inside below (zone_inside p rows (drop (length p) y.path)) refl (sym (zone-placed-before rows p q in-row-order can (drop (length p) y.path)) ∙ here)) below
      go false beside =
          ap (λ (u : List (List ℕ)). drop (length u) (moved_path p q y.path)) (path-stays p q root.path (outside beside (is_prefix p root.path) refl))
          ∙ ap (drop (length root.path)) (path-stays p q y.path beside)

  -- nothing moves within a zone that is being re-encrypted
  not-within : (statuses : List StatusRow) (s : StatusRow) (root : Entry) → AreDistinct statuses → In s statuses → s.completed ≡ false → is_under_reencryption rows statuses p ≡ false → root.row.id ≡ s.zone
      → zone_of rows (parent p) ≡ Some root → ⊥
  not-within statuses s root distinct i going free its found =
      both (zone_goes_on statuses s.zone) (goes-on-there statuses s distinct i going)
      (ap (zone_goes_on statuses) (sym its) ∙ sym (ap (λ (o : Option Entry). option_map_or (zone_goes_on statuses) (option_map (λ (e : Entry). e.row.id) o) false) found) ∙ free)

  pub renamed-keeps : (ledger : Ledger) (statuses : List StatusRow) → AreDistinct statuses → is_under_reencryption rows statuses p ≡ false → KeepsFiles ledger rows (renamed p q rows) statuses
  renamed-keeps ledger statuses distinct unmoved x d i drawn =
      let y = in-renamed x p q rows i in
      subst (Was rows (renamed p q rows) statuses) (sym y.2) (record {
        old = y.0;
        member = y.1;
        id = refl;
        edek = refl;
        file = λ s j. ap (λ (o : Option ℕ). is_some (edek_of y.0.row.kind) && same_id o (Some s.zone)) (zone-moved y.0 y.1);
        place = λ s j going file.
            let z = zone-of-file rows s.zone y.0 good file in
            ap (λ (u : List (List ℕ)). drop (length u) (moved_path p q y.0.path)) (root-moves s.zone z.root z.by_id)
            ∙ path-kept y.0 z.root z.found (not-within statuses s z.root distinct j going unmoved z.its)
            ∙ sym (ap (λ (o : Option Entry). drop (length (path_of_entry o)) y.0.path) z.by_id);
      })
