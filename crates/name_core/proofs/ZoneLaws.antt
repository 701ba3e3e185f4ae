-- Info of a directory that was made a zone.
use Rattle.std.proofs.Common.{◌≡◌, ℕ, ◌⊎◌, inl, inr, Bool, true, false, cond, List, [], ◌∷◌, Option, Some, None, refl, ap, ◌∙◌, subst}
use Rattle.std.specs.Prelude.{◌==◌}
use Rattle.std.specs.Option.{option_map}
use Rattle.std.proofs.lemmas.Bool.{eq-eqb}
use Rattle.hk_base.specs.declared.names.KeyName.{KeyName}
use Rattle.inode_tree.specs.declared.rows.Row.{Row}
use Rattle.inode_tree.specs.declared.rows.Kind.{Kind}
use Rattle.inode_tree.specs.declared.rows.Kind.TheVariants.{Dir}
use Rattle.name_calls.specs.Paths.{same_path}
use Rattle.name_calls.specs.ReadPaths.{as_it_is}
use Rattle.inode_tree.specs.Rows.{Entry, is_dir_at, row_at, set_kind, with_kind}
use Rattle.name_calls.specs.declared.calls.Ask.{Ask}
use Rattle.name_calls.specs.declared.calls.NameReply.TheVariants.{Refused}
use Rattle.name_calls.specs.declared.calls.NameRefusal.TheVariants.{NoMemory}
use Rattle.name_core.specs.State.{NameState}
use Rattle.name_store.specs.Causes.{id_at, id_of}
use Rattle.name_store.specs.Table.{after_table}
use Rattle.name_store.proofs.CauseLemmas.{IsMarkable, markable}
use Rattle.name_store.proofs.StatusLemmas.{zone-at}
use Rattle.name_core.specs.Asks.{finish_causes, finish_op, finished}
use Rattle.name_core.specs.Calls.{first_cause}
use Rattle.name_core.specs.Reads.{info_reply, path_of_zone, shown_at}
use Rattle.name_core.specs.Laws.{ZoneIsReported}
use Rattle.name_core.proofs.AllowedLemmas.{may-make-zone}
use Rattle.name_core.proofs.AskLaws.{finished-by}
use Rattle.name_core.proofs.LawLemmas.{info-by}

-- a row keeps its path

pub kind-path : (id : ℕ) (kind : Kind) (e : Entry) → (with_kind id kind e).path ≡ e.path
kind-path id kind e = go (e.row.id == id)
  where
    go : (t : Bool) → (cond t (record e { row = record { id = id; kind = kind } }) e).path ≡ e.path
    go true = refl
    go false = refl

abbrev with_mark : ℕ → Kind → Row
with_mark id kind = record { id = id; kind = kind }

row-here : (x : Entry) (id : ℕ) (kind : Kind) → x.row.id ≡ id → (with_kind id kind x).row ≡ with_mark id kind
row-here x id kind h = ap (λ (t : Bool). (cond t (record x { row = with_mark id kind }) x).row) (eq-eqb x.row.id id h)

-- the row at the path has the kind
row-marked : (es : List Entry) (p : List (List ℕ)) (row : Row) (kind : Kind) → row_at es p ≡ Some row → row_at (set_kind es row.id kind) p ≡ Some (with_mark row.id kind)
row-marked [] p row kind h = absurd cc
row-marked (x ∷ es) p row kind h =
    ap (λ (q : List (List ℕ)). cond (same_path q p) (Some (with_kind row.id kind x).row) (row_at (set_kind es row.id kind) p)) (kind-path row.id kind x)
    ∙ go (same_path x.path p) (row-marked es p row kind) h
  where
    go : (t : Bool) → (row_at es p ≡ Some row → row_at (set_kind es row.id kind) p ≡ Some (with_mark row.id kind)) → cond t (Some x.row) (row_at es p) ≡ Some row
        → cond t (Some (with_kind row.id kind x).row) (row_at (set_kind es row.id kind) p) ≡ Some (with_mark row.id kind)
    go true rest h = let same : x.row ≡ row = cc in ap Some (row-here x row.id kind (ap (λ (r : Row). r.id) same))
    go false rest h = rest h

-- a marked directory is its own zone
marked-reply : (rows : List Entry) (p : List (List ℕ)) (key : KeyName) (o : Option Row) → row_at rows p ≡ o → is_dir_at o ≡ true
    → shown_at (path_of_zone (set_kind rows (id_of o) (Dir (Some key))) p) (row_at (set_kind rows (id_of o) (Dir (Some key))) p) ≡ shown_at (Some p) (Some (with_mark (id_of o) (Dir (Some key))))
marked-reply rows p key None stands dir = absurd cc
marked-reply rows p key (Some row) stands dir =
    let marked = row-marked rows p row (Dir (Some key)) stands in
    let its = zone-at (set_kind rows row.id (Dir (Some key))) p (with_mark row.id (Dir (Some key))) marked refl in
    λ i. shown_at ((ap (option_map (λ (e : Entry). e.path)) its.found ∙ ap Some its.its_path) i) (marked i)

pub zone_is_reported : ZoneIsReported
zone_is_reported s a p key edek s' answer s'' good asks finishes info = reply (info-by s' p answer s'' info)
  where
    id_there : ℕ
    id_there = id_at s.table.rows p

    done : (first_cause (finish_causes s.table.rows s.table.statuses a edek a.ask) ≡ None) × (s' ≡ finished s a edek)
    done = finished-by s a edek s' finishes

    may : IsMarkable s.table.rows p
    may = markable s.table.rows p (may-make-zone s.table.rows s.table.statuses a edek p key (subst (λ (k : Ask). first_cause (finish_causes s.table.rows s.table.statuses a edek k) ≡ None) asks done.0))

    rows : s'.table.rows ≡ set_kind s.table.rows id_there (Dir (Some key))
    rows = ap (λ (t : NameState). t.table.rows) done.1 ∙ ap (λ (k : Ask). (after_table s.table (finish_op a.id edek k)).rows) asks

    reply : (answer ≡ Refused NoMemory) ⊎ (answer ≡ info_reply s'.table (as_it_is p)) → (answer ≡ Refused NoMemory) ⊎ (answer ≡ shown_at (Some p) (Some (with_mark id_there (Dir (Some key)))))
    reply (inl wanting) = inl wanting
    reply (inr is) = inr (is ∙ ap (λ (es : List Entry). shown_at (path_of_zone es p) (row_at es p)) rows ∙ marked-reply s.table.rows p key (row_at s.table.rows p) refl may.dir)
