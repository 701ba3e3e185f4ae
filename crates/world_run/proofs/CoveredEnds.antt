-- Submissions, ends and restarts keep re-encryptions covered.
use Rattle.std.proofs.Common.{◌≡◌, ◌⊎◌, inl, inr, ℕ, Bool, true, false, not, cond, ◌&&◌, List, [], ◌∷◌, ◌++◌, length, filter, find, Option, Some, None, refl, sym, ap, ◌∙◌, subst, arith}
use Rattle.std.specs.Prelude.{◌==◌}
use Rattle.std.specs.Option.{option_map_or}
use Rattle.std.proofs.lemmas.Bool.{eqb-true, and_parts, and_from, ne_eqb}
use Rattle.hk_base.specs.declared.names.VersionName.{VersionName}
use Rattle.key_rows.specs.declared.rows.KeyRow.{KeyRow}
use Rattle.edit_ops.specs.declared.ops.EditOp.TheVariants as op
use Rattle.name_calls.specs.declared.paths.NPath.{NPath}
use Rattle.inode_tree.specs.Rows.{Entry}
use Rattle.inode_tree.specs.ZoneFiles.{is_file_of, path_in}
use Rattle.reenc_walk.specs.declared.batches.WalkedBatch.{WalkedBatch}
use Rattle.reenc_walk.specs.Files.{is_after, walk_list}
use Rattle.reenc_walk.specs.Walks.{WalkState, outstanding}
use Rattle.zone_table.specs.declared.statuses.StatusRow.{StatusRow}
use Rattle.zone_table.specs.Statuses.{ended, goes_on, goes_on_under, is_of, new_status, with_end, with_status}
use Rattle.name_store.specs.Causes.{id_at}
use Rattle.name_store.specs.Table.{NameTable, after_table, rows_of_entries, snapped_rows}
use Rattle.name_core.specs.State.{walk_under}
use Rattle.name_core.specs.Walks.{new_walk, or_new_walk, walk_of}
use Rattle.world_run.specs.Covered.{CoveredBy, IsAhead, IsAwaited, IsFileDone, WalkCovered}
use Rattle.world_run.specs.Ledger.{Draw, Ledger, Past, files_of_zone, files_under, is_session}
use Rattle.world_run.specs.Linked.{AreDistinct, FilesLinked}
use Rattle.world_run.specs.Promise.{In, IsInForce, IsReencrypted, WasThere}
use Rattle.world_run.proofs.CoveredWalks.{itself, key-of-file, row-in}
use Rattle.world_run.proofs.Members.{filter-in, in-filter, in-left, in-map, in-more, in-right}
use Rattle.world_run.proofs.RowLemmas.{InPlace, one-of-id}
use Rattle.world_run.proofs.StatusLemmas.{distinct-same, in-with}

-- A re-encryption that is completed, not cancelled, and counts no failure left no file behind.
pub covered-completed : (past : Past) (keys : List KeyRow) (names : NameTable) (walks : List WalkState) → CoveredBy past keys names walks
    → (s : StatusRow) (x : Entry) → In s names.statuses → IsInForce past.ledger keys s → s.completed ≡ true → s.failed ≡ 0 → In x names.rows → WasThere past.starts s.session x.row.id → IsReencrypted s x
covered-completed past keys names walks r s x i counts ended none j was = elim (r.completed s x i counts ended j was) [ inl done ↦ done | inr some ↦ absurd (some none) ]

-- new walks

-- a walk without batches is covered
new-fits : (ledger : Ledger) (rows : List Entry) (s : StatusRow) → WalkCovered ledger rows s (new_walk s)
new-fits ledger rows s = record {
  not_before_mark = λ p h. h;
  after_mark = λ b x none. absurd none;
  up_to_cursor = λ b p none. absurd none;
  some_file = λ b none. absurd none;
  entered = λ b y none. absurd none;
  in_order = tt;
  up_to_last = λ b x none. absurd none;
  none_shared = tt;
}

-- Without the walks, each goes on from the mark: what was awaited or ahead comes after it.
pub covered-forget : (past : Past) (keys : List KeyRow) (names : NameTable) (walks : List WalkState) → CoveredBy past keys names walks → CoveredBy past keys names []
covered-forget past keys names walks r = record {
  going_on = λ s x i counts goes j was. fallen s x j (r.in_zone s x i j was) (r.walks_fit s i goes) (r.going_on s x i counts goes j was);
  completed = r.completed;
  still_sent = λ s x b y i counts goes none. absurd none;
  walks_fit = λ s i goes. new-fits past.ledger names.rows s;
  in_zone = r.in_zone;
  uncancelled = r.uncancelled;
  sessions = r.sessions;
  files = r.files;
  begun = λ w none. absurd none;
}
  where
    fallen : (s : StatusRow) (x : Entry) → In x names.rows → is_file_of names.rows s.zone x ≡ true → WalkCovered past.ledger names.rows s (walk_of walks s)
        → IsFileDone s x ⊎ (IsAwaited (walk_of walks s) x ⊎ IsAhead names.rows s.zone (walk_of walks s) x) → IsFileDone s x ⊎ (IsAwaited (new_walk s) x ⊎ IsAhead names.rows s.zone (new_walk s) x)
    fallen s x j file k (inl done) = inl done
    fallen s x j file k (inr (inl (b, i, out, m))) = inr (inr (k.after_mark b x i out j file m))
    fallen s x j file k (inr (inr ahead)) = inr (inr (k.not_before_mark (path_in names.rows s.zone x.path) ahead))

-- ends

-- a status ends, or stays
which-end : (session : ℕ) (cancelled : Bool) (u : StatusRow) → ((goes_on_under session u ≡ true) × (with_end session cancelled u ≡ record u { completed = true; cancelled = cancelled })) ⊎ (with_end session cancelled u ≡ u)
which-end session cancelled u = go (goes_on_under session u) refl
  where
    go : (b : Bool) → goes_on_under session u ≡ b
        → ((goes_on_under session u ≡ true) × (cond b (record u { completed = true; cancelled = cancelled }) u ≡ record u { completed = true; cancelled = cancelled })) ⊎ (cond b (record u { completed = true; cancelled = cancelled }) u ≡ u)
    go true h = inl (h, refl)
    go false h = inr refl

-- a status that goes on is not completed
pub unended-yes : (u : StatusRow) → goes_on u ≡ true → u.completed ≡ false
unended-yes u h = go u.completed h
  where
    go : (b : Bool) → not b ≡ true → b ≡ false
    go true h = absurd cc
    go false h = refl

-- the status goes on, and has the session
pub under-parts : (session : ℕ) (u : StatusRow) → goes_on_under session u ≡ true → (u.session ≡ session) × (u.completed ≡ false)
under-parts session u h = let p = and_parts (u.session == session) (goes_on u) h in (eqb-true u.session session p.0, unended-yes u p.1)

-- the session ends; if it is not cancelled, all is done
module _ (past : Past) (keys : List KeyRow) (names : NameTable) (walks : List WalkState) (session : ℕ) (cancelled : Bool) (r : CoveredBy past keys names walks)
    (done : (u : StatusRow) (x : Entry) → In u names.statuses → goes_on_under session u ≡ true → cancelled ≡ false → IsInForce past.ledger keys u → In x names.rows → WasThere past.starts u.session x.row.id → IsFileDone u x) where
  abbrev as_ended : StatusRow → StatusRow
  as_ended u = record u { completed = true; cancelled = cancelled }

  -- a status afterwards stayed, or has just ended
  data FromStatus (s : StatusRow) : Type 0 where
    Stayed : In s names.statuses → FromStatus s
    Ended : (u : StatusRow) → In u names.statuses → goes_on_under session u ≡ true → s ≡ as_ended u → FromStatus s

  from : (s : StatusRow) → In s (ended session cancelled names.statuses) → FromStatus s
  from s i =
      let u = in-map (with_end session cancelled) s names.statuses i in
      elim (which-end session cancelled u.0) [ inl e ↦ Ended u.0 u.1 e.0 (u.2 ∙ e.1) | inr e ↦ Stayed (subst (λ (t : StatusRow). In t names.statuses) (sym (u.2 ∙ e)) u.1) ]

  -- one that still goes on stayed
  stayed : (s : StatusRow) → FromStatus s → s.completed ≡ false → In s names.statuses
  stayed s (Stayed i) goes = i
  stayed s (Ended u i under is) goes = let f : true ≡ false = sym (ap (λ (t : StatusRow). t.completed) is) ∙ goes in absurd cc

  completed-after : (s : StatusRow) (x : Entry) → FromStatus s → IsInForce past.ledger keys s → s.completed ≡ true → In x names.rows → WasThere past.starts s.session x.row.id → IsFileDone s x
  completed-after s x (Stayed i) counts end j was = r.completed s x i counts end j was
  completed-after s x (Ended u i under is) counts end j was =
      subst (λ (t : StatusRow). IsFileDone t x) (sym is)
      (done u x i under (sym (ap (λ (t : StatusRow). t.cancelled) is) ∙ counts.uncancelled) its j (subst (λ (n : ℕ). WasThere past.starts n x.row.id) (ap (λ (t : StatusRow). t.session) is) was))
    where
      its : IsInForce past.ledger keys u
      its = record {
        uncancelled = r.uncancelled u i (under-parts session u under).1;
        draw = counts.draw;
        entered = subst (λ (n : ℕ). In (n, counts.draw) past.ledger) (ap (λ (t : StatusRow). t.session) is) counts.entered;
        row = counts.row;
        stands = counts.stands;
        born = counts.born;
      }

  in-zone-after : (s : StatusRow) (x : Entry) → FromStatus s → In x names.rows → WasThere past.starts s.session x.row.id → is_file_of names.rows s.zone x ≡ true
  in-zone-after s x (Stayed i) j was = r.in_zone s x i j was
  in-zone-after s x (Ended u i under is) j was =
      subst (λ (t : StatusRow). is_file_of names.rows t.zone x ≡ true) (sym is)
      (r.in_zone u x i j (subst (λ (n : ℕ). WasThere past.starts n x.row.id) (ap (λ (t : StatusRow). t.session) is) was))

  covered-end : CoveredBy past keys (record names { statuses = ended session cancelled names.statuses }) walks
  covered-end = record {
    going_on = λ s x i counts goes. r.going_on s x (stayed s (from s i) goes) counts goes;
    completed = λ s x i. completed-after s x (from s i);
    still_sent = λ s x b y i counts goes. r.still_sent s x b y (stayed s (from s i) goes) counts goes;
    walks_fit = λ s i goes. r.walks_fit s (stayed s (from s i) goes) goes;
    in_zone = λ s x i. in-zone-after s x (from s i);
    uncancelled = λ s i goes. r.uncancelled s (stayed s (from s i) goes) goes;
    sessions = r.sessions;
    files = r.files;
    begun = r.begun;
  }

pub covered-cancel : (past : Past) (keys : List KeyRow) (names : NameTable) (walks : List WalkState) (session : ℕ) → CoveredBy past keys names walks → CoveredBy past keys (after_table names (op.Cancel session)) walks
covered-cancel past keys names walks session r = covered-end past keys names walks session true r (λ u x i under uncancelled. absurd cc)

pub none-in : {X : Type 0} (x : X) (xs : List X) → length xs ≡ 0 → In x xs → ⊥
none-in x [] h i = i
none-in x (y ∷ ys) h i = omega (arith, h)

-- No file is left after the cursor, and no batch is outstanding.
pub covered-complete : (past : Past) (keys : List KeyRow) (names : NameTable) (walks : List WalkState) (st : StatusRow) → AreDistinct names.statuses → In st names.statuses → st.completed ≡ false
    → outstanding (walk_of walks st).batches ≡ 0 → walk_list names.rows st.zone (walk_of walks st).cursor ≡ [] → CoveredBy past keys names walks → CoveredBy past keys (after_table names (op.Complete st.session)) walks
covered-complete past keys names walks st distinct here goes none left r = covered-end past keys names walks st.session false r done
  where
    nothing : (x : Entry) → In x names.rows → is_file_of names.rows st.zone x ≡ true → IsAwaited (walk_of walks st) x ⊎ IsAhead names.rows st.zone (walk_of walks st) x → ⊥
    nothing x j file (inl (b, i, out, m)) = none-in b _ none (filter-in (λ (c : WalkedBatch). c.outstanding) b (walk_of walks st).batches i out)
    nothing x j file (inr ahead) =
        subst (In x) left
        (filter-in (λ (e : Entry). is_file_of names.rows st.zone e && is_after (walk_of walks st).cursor (path_in names.rows st.zone e.path)) x names.rows j
        (and_from (is_file_of names.rows st.zone x) (is_after (walk_of walks st).cursor (path_in names.rows st.zone x.path)) file ahead))

    of-st : (x : Entry) → IsInForce past.ledger keys st → In x names.rows → WasThere past.starts st.session x.row.id → IsFileDone st x
    of-st x counts j was = elim (r.going_on st x here counts goes j was) [ inl done ↦ done | inr more ↦ absurd (nothing x j (r.in_zone st x here j was) more) ]

    done : (u : StatusRow) (x : Entry) → In u names.statuses → goes_on_under st.session u ≡ true → false ≡ false → IsInForce past.ledger keys u → In x names.rows → WasThere past.starts u.session x.row.id → IsFileDone u x
    done u x i under uncancelled =
        subst (λ (t : StatusRow). IsInForce past.ledger keys t → In x names.rows → WasThere past.starts t.session x.row.id → IsFileDone t x)
        (sym (distinct-same names.statuses u st distinct i here (inl (under-parts st.session u under).0))) (of-st x)

-- submissions

-- the status that is found is the new one
find-new : (new : StatusRow) (ts : List StatusRow) → ((s : StatusRow) → In s ts → s.session ≡ new.session → ⊥) → find (is_session new.session) (with_status new ts) ≡ Some new
find-new new [] none = ap (λ (b : Bool). cond b (Some new) None) (itself new.session)
find-new new (t ∷ ts) none = go (is_of new.zone t) (find-new new ts (λ s i. none s (inr i)))
  where
    go : (b : Bool) → find (is_session new.session) (with_status new ts) ≡ Some new → find (is_session new.session) (cond b (new ∷ ts) (t ∷ with_status new ts)) ≡ Some new
    go true ih = ap (λ (b : Bool). cond b (Some new) (find (is_session new.session) ts)) (itself new.session)
    go false ih = ap (λ (b : Bool). cond b (Some t) (find (is_session new.session) (with_status new ts))) (ne_eqb t.session new.session (none t (inl refl))) ∙ ih

no-walk : (session : ℕ) (ws : List WalkState) → ((w : WalkState) → In w ws → w.session ≡ session → ⊥) → walk_under ws session ≡ None
no-walk session [] none = refl
no-walk session (w ∷ ws) none =
    ap (λ (b : Bool). cond b (Some w) (walk_under ws session)) (ne_eqb w.session session (none w (inl refl))) ∙ no-walk session ws (λ v i. none v (inr i))

-- a file of the zone that has the id
in-files : (rows : List Entry) (zone id : ℕ) → In id (files_of_zone rows zone) → (x : Entry) × In x rows × (is_file_of rows zone x ≡ true) × (id ≡ x.row.id)
in-files rows zone id i =
    let x = in-map (λ (e : Entry). e.row.id) id (filter (is_file_of rows zone) rows) i in
    let m = in-filter (is_file_of rows zone) x.0 rows x.1 in (x.0, m.0, m.1, x.2)

-- the walk is covered with more entries of the ledger
more-entries : (ledger more : Ledger) (rows : List Entry) (s : StatusRow) (w : WalkState) → WalkCovered ledger rows s w → WalkCovered (ledger ++ more) rows s w
more-entries ledger more rows s w k = record {
  not_before_mark = k.not_before_mark;
  after_mark = k.after_mark;
  up_to_cursor = k.up_to_cursor;
  some_file = k.some_file;
  entered = λ b y i m. let e = k.entered b y i m in (e.0, in-left (y.id, e.0) ledger more e.1);
  in_order = k.in_order;
  up_to_last = k.up_to_last;
  none_shared = k.none_shared;
}

module _ (past : Past) (keys : List KeyRow) (t : NameTable) (walks : List WalkState) (session : ℕ) (p : NPath) (noted : VersionName) (d : Draw) (linked : FilesLinked past.ledger keys t)
    (fresh : (e : Draw) → In (session, e) past.ledger → ⊥) (begins : List ℕ) (in_zone : (x : Entry) → In x t.rows → In x.row.id begins → is_file_of t.rows (id_at t.rows p) x ≡ true)
    (drawn : (id : ℕ) → In id begins → (e : Draw) × In (id, e) past.ledger) (r : CoveredBy past keys t walks) where
  abbrev zone : ℕ
  zone = id_at t.rows p

  abbrev new : StatusRow
  new = new_status zone session noted

  abbrev table-after : NameTable
  table-after = after_table t (op.Submit session p noted)

  abbrev past-after : Past
  past-after = record past { ledger = past.ledger ++ (session, d) ∷ []; starts = past.starts ++ (session, begins) ∷ [] }

  -- no earlier status and no walk has the session

  other-status : (s : StatusRow) → In s t.statuses → s.session ≡ session → ⊥
  other-status s i same = let n = linked.statuses s i in fresh n.draw (subst (λ (id : ℕ). In (id, n.draw) past.ledger) same n.entered)

  other-walk : (w : WalkState) → In w walks → w.session ≡ session → ⊥
  other-walk w i same = let b = r.begun w i in fresh b.0 (subst (λ (id : ℕ). In (id, b.0) past.ledger) same b.1)

  walk-is : walk_of walks new ≡ new_walk new
  walk-is = ap (λ (o : Option WalkState). or_new_walk o new) (no-walk session walks other-walk)

  -- the earlier ones are as before

  was-old : (s : StatusRow) (id : ℕ) → In s t.statuses → WasThere past-after.starts s.session id → WasThere past.starts s.session id
  was-old s id i (ids, j, m) = elim (in-more (s.session, ids) (session, begins) past.starts j) [ inl old ↦ (ids, old, m) | inr is ↦ absurd (other-status s i (ap (λ (e : ℕ × List ℕ). e.0) is)) ]

  counts-old : (s : StatusRow) → In s t.statuses → IsInForce past-after.ledger keys s → IsInForce past.ledger keys s
  counts-old s i c = record {
    uncancelled = c.uncancelled;
    draw = c.draw;
    entered = elim (in-more (s.session, c.draw) (session, d) past.ledger c.entered) [ inl old ↦ old | inr is ↦ absurd (other-status s i (ap (λ (e : ℕ × Draw). e.0) is)) ];
    row = c.row;
    stands = c.stands;
    born = c.born;
  }

  -- the files of the new one

  in-new : (x : Entry) → In x t.rows → WasThere past-after.starts session x.row.id → is_file_of t.rows zone x ≡ true
  in-new x j (ids, k, m) = elim (in-more (session, ids) (session, begins) past.starts k) [
    | inl old ↦ (let e = r.sessions session ids old in absurd (fresh e.0 e.1))
    | inr is ↦ in_zone x j (subst (In x.row.id) (ap (λ (e : ℕ × List ℕ). e.1) is) m)
  ]

  -- the statuses afterwards

  abbrev Goes : StatusRow → Entry → Type 0
  Goes s x = IsFileDone s x ⊎ (IsAwaited (walk_of walks s) x ⊎ IsAhead t.rows s.zone (walk_of walks s) x)

  new-goes : (x : Entry) → Goes new x
  new-goes x = inr (inr (subst (λ (w : WalkState). IsAhead t.rows zone w x) (sym walk-is) refl))

  not-ended : (s : StatusRow) → s ≡ new → s.completed ≡ true → ⊥
  not-ended s is end = let f : true ≡ false = sym end ∙ ap (λ (u : StatusRow). u.completed) is in absurd cc

  no-batch : (s : StatusRow) (b : WalkedBatch) → s ≡ new → In b (walk_of walks s).batches → ⊥
  no-batch s b is i = subst (λ (w : WalkState). In b w.batches) (ap (walk_of walks) is ∙ walk-is) i

  submitted : CoveredBy past-after keys table-after walks
  submitted = record {
    going_on = λ s x i counts goes j was. elim (in-with new s t.statuses i) [
      | inl is ↦ subst (λ (u : StatusRow). Goes u x) (sym is) (new-goes x)
      | inr old ↦ r.going_on s x old (counts-old s old counts) goes j (was-old s x.row.id old was)
    ];
    completed = λ s x i counts end j was. elim (in-with new s t.statuses i) [
      | inl is ↦ absurd (not-ended s is end)
      | inr old ↦ r.completed s x old (counts-old s old counts) end j (was-old s x.row.id old was)
    ];
    still_sent = λ s x b y i counts goes k. elim (in-with new s t.statuses i) [
      | inl is ↦ absurd (no-batch s b is k)
      | inr old ↦ r.still_sent s x b y old (counts-old s old counts) goes k
    ];
    walks_fit = λ s i goes. elim (in-with new s t.statuses i) [
      | inl is ↦ subst (λ (u : StatusRow). WalkCovered past-after.ledger t.rows u (walk_of walks u)) (sym is) (subst (WalkCovered past-after.ledger t.rows new) (sym walk-is) (new-fits past-after.ledger t.rows new))
      | inr old ↦ more-entries past.ledger ((session, d) ∷ []) t.rows s (walk_of walks s) (r.walks_fit s old goes)
    ];
    in_zone = λ s x i j was. elim (in-with new s t.statuses i) [
      | inl is ↦ subst (λ (u : StatusRow). is_file_of t.rows u.zone x ≡ true) (sym is) (in-new x j (subst (λ (u : StatusRow). WasThere past-after.starts u.session x.row.id) is was))
      | inr old ↦ r.in_zone s x old j (was-old s x.row.id old was)
    ];
    uncancelled = λ s i goes. elim (in-with new s t.statuses i) [ inl is ↦ ap (λ (u : StatusRow). u.cancelled) is | inr old ↦ r.uncancelled s old goes ];
    sessions = λ n ids i. elim (in-more (n, ids) (session, begins) past.starts i) [
      | inl old ↦ (let e = r.sessions n ids old in (e.0, in-left (n, e.0) past.ledger ((session, d) ∷ []) e.1))
      | inr is ↦ (d, in-right (n, d) past.ledger ((session, d) ∷ []) (inl (ap (λ (e : ℕ × List ℕ). (e.0, d)) is)))
    ];
    files = λ n ids id i m. elim (in-more (n, ids) (session, begins) past.starts i) [
      | inl old ↦ (let e = r.files n ids id old m in (e.0, in-left (id, e.0) past.ledger ((session, d) ∷ []) e.1))
      | inr is ↦ (let e = drawn id (subst (In id) (ap (λ (e : ℕ × List ℕ). e.1) is) m) in (e.0, in-left (id, e.0) past.ledger ((session, d) ∷ []) e.1))
    ];
    begun = λ w i. let e = r.begun w i in (e.0, in-left (w.session, e.0) past.ledger ((session, d) ∷ []) e.1);
  }

-- A submission begins with files of its zone.
pub covered-begun : (past : Past) (keys : List KeyRow) (t : NameTable) (walks : List WalkState) (session : ℕ) (p : NPath) (noted : VersionName) (d : Draw) → FilesLinked past.ledger keys t
    → ((e : Draw) → In (session, e) past.ledger → ⊥) → (begins : List ℕ) → ((x : Entry) → In x t.rows → In x.row.id begins → is_file_of t.rows (id_at t.rows p) x ≡ true)
    → ((id : ℕ) → In id begins → (e : Draw) × In (id, e) past.ledger) → CoveredBy past keys t walks
    → CoveredBy (record past { ledger = past.ledger ++ (session, d) ∷ []; starts = past.starts ++ (session, begins) ∷ [] }) keys (after_table t (op.Submit session p noted)) walks
covered-begun past keys t walks session p noted d linked fresh begins in_zone drawn r = submitted past keys t walks session p noted d linked fresh begins in_zone drawn r

-- those that the zone has when it is submitted
module _ (past : Past) (keys : List KeyRow) (t : NameTable) (session : ℕ) (p : NPath) (noted : VersionName) (linked : FilesLinked past.ledger keys t) (fresh : (e : Draw) → In (session, e) past.ledger → ⊥) where
  no-status : (s : StatusRow) → In s t.statuses → s.session ≡ session → ⊥
  no-status s i same = let n = linked.statuses s i in fresh n.draw (subst (λ (id : ℕ). In (id, n.draw) past.ledger) same n.entered)

  pub begins-with : (id : ℕ) → In id (files_under (after_table t (op.Submit session p noted)) session) → (x : Entry) × In x t.rows × (is_file_of t.rows (id_at t.rows p) x ≡ true) × (id ≡ x.row.id)
  begins-with id i =
      let zone : ℕ = id_at t.rows p in
      in-files t.rows zone id
      (subst (λ (o : Option StatusRow). In id (option_map_or (λ (s : StatusRow). files_of_zone t.rows s.zone) o [])) (find-new (new_status zone session noted) t.statuses no-status) i)

  pub begins-drawn : (id : ℕ) → In id (files_under (after_table t (op.Submit session p noted)) session) → (e : Draw) × In (id, e) past.ledger
  begins-drawn id i =
      let x = begins-with id i in
      let k = key-of-file t.rows (id_at t.rows p) x.0 x.2 in
      let has = linked.files x.0.row k.0 (in-left x.0.row (rows_of_entries t.rows) (snapped_rows t.snaps.taken) (row-in x.0 t.rows x.1)) k.1 in
      (has.draw, subst (λ (n : ℕ). In (n, has.draw) past.ledger) (sym x.3) has.entered)

pub covered-submit : (past : Past) (keys : List KeyRow) (t : NameTable) (walks : List WalkState) (session : ℕ) (p : NPath) (noted : VersionName) (d : Draw) → InPlace t.rows → FilesLinked past.ledger keys t
    → ((e : Draw) → In (session, e) past.ledger → ⊥) → CoveredBy past keys t walks
    → CoveredBy (record past { ledger = past.ledger ++ (session, d) ∷ []; starts = past.starts ++ (session, files_under (after_table t (op.Submit session p noted)) session) ∷ [] }) keys
    (after_table t (op.Submit session p noted)) walks
covered-submit past keys t walks session p noted d good linked fresh r =
    covered-begun past keys t walks session p noted d linked fresh (files_under (after_table t (op.Submit session p noted)) session)
    (λ x j m. let y = begins-with past keys t session p noted linked fresh x.row.id m in subst (λ (z : Entry). is_file_of t.rows (id_at t.rows p) z ≡ true) (one-of-id t.rows good y.0 x y.1 j (sym y.3)) y.2)
    (begins-drawn past keys t session p noted linked fresh) r
