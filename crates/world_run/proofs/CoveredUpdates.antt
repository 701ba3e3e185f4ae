-- An update keeps re-encryptions covered.
use Rattle.std.proofs.Common.{◌≡◌, ◌≢◌, ◌⊎◌, inl, inr, ◌+◌, ◌-◌, ◌^◌, ◌≤◌, ℕ, suc, Bool, true, false, not, cond, List, [], ◌∷◌, length, slice_get, Option, Some, None, is_some, refl, sym, ap, ◌∙◌, subst, arith}
use Rattle.std.specs.Prelude.{◌==◌, nat_lt}
use Rattle.std.specs.Option.{option_and_then, option_map_or}
use Rattle.std.specs.Str.{bytes_eq}
use Rattle.std.proofs.lemmas.Bool.{and_parts, eqb-true, and_from}
use Rattle.hk_base.specs.declared.names.VersionName.{VersionName}
use Rattle.hk_base.specs.Names.{Encrypted}
use Rattle.key_rows.specs.declared.rows.KeyRow.{KeyRow}
use Rattle.edit_ops.specs.declared.files.FileKey.{FileKey}
use Rattle.inode_tree.specs.Rows.{Entry, entry_of, same_id, zone_id}
use Rattle.inode_tree.specs.ZoneFiles.{edek_of, is_file_of}
use Rattle.reenc_walk.specs.declared.batches.WalkedBatch.{WalkedBatch}
use Rattle.reenc_walk.specs.declared.sent.BatchNote.{BatchNote}
use Rattle.reenc_walk.specs.declared.sent.Sent.{Sent}
use Rattle.reenc_walk.specs.Files.{is_after, same_edek, same_sent}
use Rattle.reenc_walk.specs.Walks.{WalkState, is_of, mark_after, retire, retired}
use Rattle.reenc_update.specs.declared.changes.Changes.{Changes}
use Rattle.reenc_update.specs.declared.reply.BatchResult.{BatchResult}
use Rattle.reenc_update.specs.declared.reply.BatchResult.TheVariants.{Refused, Ready}
use Rattle.reenc_update.specs.Changes.{all_failed, changed, changes_of}
use Rattle.reenc_update.specs.Laws.{CameFor, In as InChanges}
use Rattle.reenc_update.specs.Replies.{FitsSent, ReplyState, are_of_keys}
use Rattle.reenc_update.proofs.ChangeLemmas.{changed-delivered, delivered-changed, edek-self, same-edek}
use Rattle.zone_table.specs.declared.statuses.StatusRow.{StatusRow}
use Rattle.zone_table.specs.Statuses.{capped, counted, goes_on, goes_on_under, with_counts}
use Rattle.name_store.specs.Table.{NameTable, after_table, with_edeks}
use Rattle.name_core.specs.State.{NameState, is_walk_of, retired_under, walk_under, walks_after, with_walk}
use Rattle.name_core.specs.Updates.{is_outstanding, mark_by, update_op}
use Rattle.name_core.specs.Walks.{or_new_walk, walk_of}
use Rattle.name_core.proofs.UpdateLemmas.{Outstanding, outstanding-at}
use Rattle.name_core.proofs.WalkLemmas.{of-session}
use Rattle.name_core.proofs.WalkOrder.{under-with}
use Rattle.world_run.specs.Covered.{AreInWalkOrder, CoveredBy, IsAhead, IsAwaited, IsFileDone, WalkCovered, ids_sent}
use Rattle.world_run.specs.Ledger.{Draw, Past}
use Rattle.world_run.specs.Linked.{AreDistinct, FilesLinked, HasNoted, IsOther, KeysCameBack}
use Rattle.world_run.specs.Promise.{In, IsInForce, IsReencrypted, WasThere}
use Rattle.world_run.proofs.CoveredWalks.{in-with-walk, itself, key-of-file, status-in, under-other}
use Rattle.world_run.proofs.CoveredEnds.{none-in, under-parts, unended-yes}
use Rattle.world_run.proofs.Members.{each-in, found-in, in-map, some-is}
use Rattle.world_run.proofs.RowLemmas.{InPlace}
use Rattle.world_run.proofs.RekeyedFiles.{AllNoted, AreKeyed, IsNoted, WasRow, done-now, same-or-done, still-done, untouched, was-row}
use Rattle.world_run.proofs.RetiredBatches.{from-keeps, retire-fits, retired-keeps, same-files, was-batch}
use Rattle.world_run.proofs.StatusLemmas.{distinct-same}

-- counts

capped-some : (n : ℕ) → n ≢ 0 → capped n ≢ 0
capped-some n some = go (nat_lt n (2 ^ 64))
  where
    go : (b : Bool) → cond b n (2 ^ 64 - 1) ≢ 0
    go true = some
    go false = λ none. absurd cc

sum-first : (m n : ℕ) → m ≢ 0 → m + n ≢ 0
sum-first m n some none = some (omega (arith, none))

sum-second : (m n : ℕ) → n ≢ 0 → m + n ≢ 0
sum-second m n some none = some (omega (arith, none))

-- zones

id-is : (o : Option ℕ) (n : ℕ) → same_id o (Some n) ≡ true → o ≡ Some n
id-is None n h = absurd cc
id-is (Some m) n h = ap Some (eqb-true m n h)

-- a file lies in one zone
lies-in : (rows : List Entry) (zone : ℕ) (x : Entry) → is_file_of rows zone x ≡ true → zone_id rows x.path ≡ Some zone
lies-in rows zone x file = id-is (zone_id rows x.path) zone (and_parts (is_some (edek_of x.row.kind)) (same_id (zone_id rows x.path) (Some zone)) file).1

one-zone : (rows : List Entry) (a b : ℕ) (x : Entry) → is_file_of rows a x ≡ true → is_file_of rows b x ≡ true → a ≡ b
one-zone rows a b x h k = some-is a b (sym (lies-in rows a x h) ∙ lies-in rows b x k)

-- statuses

-- each status afterwards is one that did not count the files, or the one that did
in-counted : (session changed failed : ℕ) (mark : Option (List (List ℕ))) (ts : List StatusRow) (s : StatusRow) → AreDistinct ts → In s (counted session changed failed mark ts)
    → (In s ts × (goes_on_under session s ≡ false)) ⊎ ((t : StatusRow) × In t ts × (goes_on_under session t ≡ true) × (s ≡ with_counts changed failed mark t))
in-counted session changed failed mark [] s distinct i = absurd i
in-counted session changed failed mark (t ∷ ts) s distinct i = go (goes_on_under session t) refl i (in-counted session changed failed mark ts s distinct.1)
  where
    Was : List StatusRow → Type 0
    Was us = (In s us × (goes_on_under session s ≡ false)) ⊎ ((u : StatusRow) × In u us × (goes_on_under session u ≡ true) × (s ≡ with_counts changed failed mark u))

    -- no other status goes on under the session
    other : goes_on_under session t ≡ true → In s ts → (b : Bool) → goes_on_under session s ≡ b → goes_on_under session s ≡ false
    other at j true h = absurd ((each-in (IsOther t) ts s distinct.0 j).session ((under-parts session t at).0 ∙ sym (under-parts session s h).0))
    other at j false h = h

    go : (b : Bool) → goes_on_under session t ≡ b → In s (cond b (with_counts changed failed mark t ∷ ts) (t ∷ counted session changed failed mark ts)) → (In s (counted session changed failed mark ts) → Was ts) → Was (t ∷ ts)
    go true at (inl is) ih = inr (t, inl refl, at, is)
    go true at (inr j) ih = inl (inr j, other at j (goes_on_under session s) refl)
    go false at (inl is) ih = inl (inl is, ap (goes_on_under session) is ∙ at)
    go false at (inr j) ih = elim (ih j) [ inl old ↦ inl (inr old.0, old.1) | inr new ↦ inr (new.0, inr new.1, new.2, new.3) ]

-- what an update brings to the files of the zone of this status
pub record Brings (past : Past) (keys : List KeyRow) (rows : List Entry) (st : StatusRow) (sent : List Sent) (files : List FileKey) (failed : ℕ) : Type 0 where
  -- each file lies in the zone, and its new key is noted
  pub in_zone : (f : FileKey) (x : Entry) → In f files → In x rows → x.row.id ≡ f.id → is_file_of rows st.zone x ≡ true
  pub noted : IsInForce past.ledger keys st → AllNoted st files
  -- each file that was sent gets a new key or is re-encrypted, or some failed
  pub each : IsInForce past.ledger keys st → (x : Entry) → In x rows → is_file_of rows st.zone x ≡ true → In x.row.id (ids_sent sent)
      → ((y : Sent) → In y sent → x.row.id ≡ y.id → (edek_of x.row.kind ≡ Some y.edek) ⊎ IsReencrypted st x)
      → (failed ≢ 0) ⊎ (IsReencrypted st x ⊎ ((f : FileKey) × In f files × (x.row.id ≡ f.id)))

-- the batch of the walk of this status is updated
module _ (past : Past) (keys : List KeyRow) (names : NameTable) (walks : List WalkState) (st : StatusRow) (w : WalkState) (sent : List Sent) (files : List FileKey) (count failed : ℕ) (distinct : AreDistinct names.statuses)
    (here : In st names.statuses) (unended : st.completed ≡ false) (found : walk_under walks st.session ≡ Some w) (brings : Brings past keys names.rows st sent files failed) (r : CoveredBy past keys names walks) where
  abbrev mark : Option (List (List ℕ))
  mark = mark_after w.batches sent

  abbrev rows-after : List Entry
  rows-after = with_edeks files names.rows

  abbrev st-after : StatusRow
  st-after = with_counts count failed mark st

  abbrev statuses-after : List StatusRow
  statuses-after = counted st.session count failed mark names.statuses

  abbrev retires : WalkState
  retires = retire sent w

  abbrev walks-later : List WalkState
  walks-later = with_walk retires walks

  -- walks

  walk-is : walk_of walks st ≡ w
  walk-is = ap (λ (o : Option WalkState). or_new_walk o st) found

  its-session : w.session ≡ st.session
  its-session = subst (λ (v : WalkState). v.session ≡ st.session) walk-is (of-session walks st)

  retired-walk : walk_of walks-later st-after ≡ retires
  retired-walk = ap (λ (o : Option WalkState). or_new_walk o st-after) (ap (walk_under walks-later) (sym its-session) ∙ under-with retires walks)

  -- the session of another status is another one
  apart : (s : StatusRow) → In s names.statuses → (s ≡ st → ⊥) → s.session ≡ st.session → ⊥
  apart s i other same = other (distinct-same names.statuses s st distinct i here (inl same))

  same-walk : (s : StatusRow) → In s names.statuses → (s ≡ st → ⊥) → walk_of walks-later s ≡ walk_of walks s
  same-walk s i other = ap (λ (o : Option WalkState). or_new_walk o s) (under-other retires walks s.session (λ e. apart s i other (sym e ∙ its-session)))

  -- statuses

  data FromStatus (s : StatusRow) : Type 0 where
    Other : In s names.statuses → (s ≡ st → ⊥) → FromStatus s
    Counted : s ≡ st-after → FromStatus s

  from : (s : StatusRow) → In s statuses-after → FromStatus s
  from s i = elim (in-counted st.session count failed mark names.statuses s distinct i) [
    | inl old ↦ Other old.0 (not-it old.1)
    | inr new ↦ Counted (new.3 ∙ ap (with_counts count failed mark) (distinct-same names.statuses new.0 st distinct new.1 here (inl (under-parts st.session new.0 new.2).0)))
  ]
    where
      goes : goes_on_under st.session st ≡ true
      goes = and_from (st.session == st.session) (goes_on st) (itself st.session) (ap not unended)

      not-it : goes_on_under st.session s ≡ false → s ≡ st → ⊥
      not-it h is = let f : true ≡ false = sym goes ∙ ap (goes_on_under st.session) (sym is) ∙ h in absurd cc

  -- rows

  keyed : AreKeyed names.rows files
  keyed f x i j same = let k = key-of-file names.rows st.zone x (brings.in_zone f x i j same) in ap is_some k.1

  was : (x : Entry) → In x rows-after → WasRow names.rows files x
  was x i = was-row names.rows files keyed x i

  was-there : (session : ℕ) (x : Entry) (o : WasRow names.rows files x) → WasThere past.starts session x.row.id → WasThere past.starts session o.old.row.id
  was-there session x o there = (there.0, there.1, subst (λ (id : ℕ). In id there.0) o.id there.2)

  -- a file of another zone that is re-encrypted stays
  stays : (s : StatusRow) (x : Entry) → In s names.statuses → (s ≡ st → ⊥) → (o : WasRow names.rows files x) → is_file_of names.rows s.zone o.old ≡ true → x ≡ o.old
  stays s x i other o file =
      o.is ∙ untouched files o.old (λ f j same. other (distinct-same names.statuses s st distinct i here (inr (one-zone names.rows s.zone st.zone o.old file (brings.in_zone f o.old j o.member same)))))

  -- counts

  counts-st : IsInForce past.ledger keys st-after → IsInForce past.ledger keys st
  counts-st c = record { uncancelled = c.uncancelled; draw = c.draw; entered = c.entered; row = c.row; stands = c.stands; born = c.born }

  noted : IsInForce past.ledger keys st-after → AllNoted st files
  noted c = brings.noted (counts-st c)

  -- a file that was re-encrypted still is
  done-after : IsInForce past.ledger keys st-after → (x : Entry) (o : WasRow names.rows files x) → IsReencrypted st o.old → IsReencrypted st-after x
  done-after c x o done = subst (IsReencrypted st) (sym o.is) (still-done st files o.old (noted c) done)

  -- what was sent is still there, or re-encrypted

  abbrev StillSent : StatusRow → Entry → Sent → Type 0
  StillSent s x y = (edek_of x.row.kind ≡ Some y.edek) ⊎ IsReencrypted s x

  sent-st : IsInForce past.ledger keys st-after → (x : Entry) (b : WalkedBatch) (y : Sent) → In b w.batches → b.outstanding ≡ true → In y b.sent → In x names.rows → is_file_of names.rows st.zone x ≡ true → x.row.id ≡ y.id → StillSent st x y
  sent-st c x b y i out m j file same = r.still_sent st x b y here (counts-st c) unended (subst (λ (v : WalkState). In b v.batches) (sym walk-is) i) out m j file same

  sent-after : IsInForce past.ledger keys st-after → (x : Entry) (o : WasRow names.rows files x) (y : Sent) → StillSent st o.old y → StillSent st-after x y
  sent-after c x o y (inr done) = inr (done-after c x o done)
  sent-after c x o y (inl has) = elim (same-or-done st files o.old (noted c)) [
    | inl same ↦ inl (ap (λ (z : Entry). edek_of z.row.kind) (o.is ∙ same) ∙ has)
    | inr done ↦ inr (subst (IsReencrypted st) (sym o.is) done)
  ]

  -- what was done, awaited or ahead still is

  abbrev Going : List Entry → StatusRow → Entry → WalkState → Type 0
  Going rows s x v = IsFileDone s x ⊎ (IsAwaited v x ⊎ IsAhead rows s.zone v x)

  other-going : (s : StatusRow) (x : Entry) (v : WalkState) (o : WasRow names.rows files x) → x ≡ o.old → Going names.rows s o.old v → Going rows-after s x v
  other-going s x v o same (inl done) = inl (subst (IsFileDone s) (sym same) done)
  other-going s x v o same (inr (inl awaited)) = inr (inl (subst (IsAwaited v) (sym same) awaited))
  other-going s x v o same (inr (inr ahead)) = inr (inr (subst (λ (p : List (List ℕ)). is_after v.cursor p ≡ true) (sym (o.place s.zone)) ahead))

  some-failed : (failed ≢ 0) ⊎ (st.failed ≢ 0) → st-after.failed ≢ 0
  some-failed (inl new) = capped-some (st.failed + failed) (sum-second st.failed failed new)
  some-failed (inr old) = capped-some (st.failed + failed) (sum-first st.failed failed old)

  going-st : IsInForce past.ledger keys st-after → (x : Entry) (o : WasRow names.rows files x) → is_file_of names.rows st.zone o.old ≡ true → Going names.rows st o.old w → Going rows-after st-after x retires
  going-st c x o file (inl (inl done)) = inl (inl (done-after c x o done))
  going-st c x o file (inl (inr some)) = inl (inr (some-failed (inr some)))
  going-st c x o file (inr (inr ahead)) = inr (inr (subst (λ (p : List (List ℕ)). is_after w.cursor p ≡ true) (sym (o.place st.zone)) ahead))
  going-st c x o file (inr (inl (b, i, out, m))) = go (is_of sent b) refl
    where
      -- its batch is updated, or still awaited
      go : (k : Bool) → is_of sent b ≡ k → Going rows-after st-after x retires
      go true h =
          let same : b.sent ≡ sent = same-files b.sent sent (and_parts b.outstanding (same_sent b.sent sent) h).1 in
          elim (brings.each (counts-st c) o.old o.member file (subst (λ (l : List Sent). In o.old.row.id (ids_sent l)) same m) (λ y k at. sent-st c o.old b y i out (subst (In y) (sym same) k) o.member file at)) [
            | inl some ↦ inl (inr (some-failed (inl some)))
            | inr (inl done) ↦ inl (inl (done-after c x o done))
            | inr (inr f) ↦ inl (inl (subst (IsReencrypted st) (sym o.is) (done-now st files o.old f.0 (noted c) f.1 f.2)))
          ]
      go false h = inr (inl (b, from-keeps (retired sent w.batches) b (retired-keeps sent w.batches b i h) out, out, subst (λ (id : ℕ). In id (ids_sent b.sent)) (sym o.id) m))

  -- walks are covered with the rows afterwards

  order-later : (zone : ℕ) (bs : List WalkedBatch) → AreInWalkOrder names.rows zone bs → AreInWalkOrder rows-after zone bs
  order-later zone [] o = o
  order-later zone (b ∷ bs) o = (
    λ c x i j file m. let k = was x j in
        subst (λ (p : List (List ℕ)). is_after (Some b.last) p ≡ true) (sym (k.place zone)) (o.0 c k.old i k.member (sym (k.file zone) ∙ file) (subst (λ (id : ℕ). In id (ids_sent c.sent)) k.id m)),
    order-later zone bs o.1,
  )

  fits-later : (s : StatusRow) (v : WalkState) → WalkCovered past.ledger names.rows s v → WalkCovered past.ledger rows-after s v
  fits-later s v k = record {
    not_before_mark = k.not_before_mark;
    after_mark = λ b x i out j file m.
        let o = was x j in
        subst (λ (p : List (List ℕ)). is_after s.mark p ≡ true) (sym (o.place s.zone))
        (k.after_mark b o.old i out o.member (sym (o.file s.zone) ∙ file) (subst (λ (id : ℕ). In id (ids_sent b.sent)) o.id m));
    up_to_cursor = k.up_to_cursor;
    some_file = k.some_file;
    entered = k.entered;
    in_order = order-later s.zone v.batches k.in_order;
    up_to_last = λ b x i j file m.
        let o = was x j in
        subst (λ (p : List (List ℕ)). is_after (Some b.last) p ≡ false) (sym (o.place s.zone))
        (k.up_to_last b o.old i o.member (sym (o.file s.zone) ∙ file) (subst (λ (id : ℕ). In id (ids_sent b.sent)) o.id m));
    none_shared = k.none_shared;
  }

  -- each status afterwards

  going-after : (s : StatusRow) (x : Entry) → FromStatus s → IsInForce past.ledger keys s → s.completed ≡ false → In x rows-after → WasThere past.starts s.session x.row.id → Going rows-after s x (walk_of walks-later s)
  going-after s x (Other i other) c goes j there =
      let o = was x j in
      let before = was-there s.session x o there in
      subst (Going rows-after s x) (sym (same-walk s i other))
      (other-going s x (walk_of walks s) o (stays s x i other o (r.in_zone s o.old i o.member before)) (r.going_on s o.old i c goes o.member before))
  going-after s x (Counted is) c goes j there =
      subst (λ (u : StatusRow). Going rows-after u x (walk_of walks-later u)) (sym is)
      (subst (Going rows-after st-after x) (sym retired-walk)
      (going-st its x o (r.in_zone st o.old here o.member before) (subst (Going names.rows st o.old) walk-is (r.going_on st o.old here (counts-st its) unended o.member before))))
    where
      its : IsInForce past.ledger keys st-after
      its = subst (IsInForce past.ledger keys) is c

      o : WasRow names.rows files x
      o = was x j

      before : WasThere past.starts st.session o.old.row.id
      before = was-there st.session x o (subst (λ (u : StatusRow). WasThere past.starts u.session x.row.id) is there)

  completed-after : (s : StatusRow) (x : Entry) → FromStatus s → IsInForce past.ledger keys s → s.completed ≡ true → In x rows-after → WasThere past.starts s.session x.row.id → IsFileDone s x
  completed-after s x (Other i other) c end j there =
      let o = was x j in
      let before = was-there s.session x o there in
      subst (IsFileDone s) (sym (stays s x i other o (r.in_zone s o.old i o.member before))) (r.completed s o.old i c end o.member before)
  completed-after s x (Counted is) c end j there = let f : true ≡ false = sym end ∙ ap (λ (u : StatusRow). u.completed) is ∙ unended in absurd cc

  still-after : (s : StatusRow) (x : Entry) (b : WalkedBatch) (y : Sent) → FromStatus s → IsInForce past.ledger keys s → s.completed ≡ false → In b (walk_of walks-later s).batches → b.outstanding ≡ true → In y b.sent
      → In x rows-after → is_file_of rows-after s.zone x ≡ true → x.row.id ≡ y.id → StillSent s x y
  still-after s x b y (Other i other) c goes k out m j file same =
      let o = was x j in
      let before : is_file_of names.rows s.zone o.old ≡ true = sym (o.file s.zone) ∙ file in
      subst (λ (z : Entry). StillSent s z y) (sym (stays s x i other o before))
      (r.still_sent s o.old b y i c goes (subst (λ (v : WalkState). In b v.batches) (same-walk s i other) k) out m o.member before (sym o.id ∙ same))
  still-after s x b y (Counted is) c goes k out m j file same =
      let o = was x j in
      let its = subst (IsInForce past.ledger keys) is c in
      let v = was-batch sent w b (subst (λ (u : WalkState). In b u.batches) (ap (walk_of walks-later) is ∙ retired-walk) k) in
      let before : is_file_of names.rows st.zone o.old ≡ true = sym (o.file st.zone) ∙ subst (λ (u : StatusRow). is_file_of rows-after u.zone x ≡ true) is file in
      subst (λ (u : StatusRow). StillSent u x y) (sym is)
      (sent-after its x o y
      (sent-st its o.old v.old y v.member (subst (λ (d : WalkedBatch). d.outstanding ≡ true) (v.stays out) out) (subst (In y) v.sent m) o.member before (sym o.id ∙ same)))

  fits-after : (s : StatusRow) → FromStatus s → s.completed ≡ false → WalkCovered past.ledger rows-after s (walk_of walks-later s)
  fits-after s (Other i other) goes = subst (WalkCovered past.ledger rows-after s) (sym (same-walk s i other)) (fits-later s (walk_of walks s) (r.walks_fit s i goes))
  fits-after s (Counted is) goes =
      subst (λ (u : StatusRow). WalkCovered past.ledger rows-after u (walk_of walks-later u)) (sym is)
      (subst (WalkCovered past.ledger rows-after st-after) (sym retired-walk)
      (fits-later st-after retires (retire-fits past.ledger names.rows st w sent count failed (subst (WalkCovered past.ledger names.rows st) walk-is (r.walks_fit st here unended)))))

  in-zone-after : (s : StatusRow) (x : Entry) → FromStatus s → In x rows-after → WasThere past.starts s.session x.row.id → is_file_of rows-after s.zone x ≡ true
  in-zone-after s x (Other i other) j there = let o = was x j in o.file s.zone ∙ r.in_zone s o.old i o.member (was-there s.session x o there)
  in-zone-after s x (Counted is) j there =
      let o = was x j in
      subst (λ (u : StatusRow). is_file_of rows-after u.zone x ≡ true) (sym is)
      (o.file st.zone ∙ r.in_zone st o.old here o.member (was-there st.session x o (subst (λ (u : StatusRow). WasThere past.starts u.session x.row.id) is there)))

  uncancelled-after : (s : StatusRow) → FromStatus s → s.completed ≡ false → s.cancelled ≡ false
  uncancelled-after s (Other i other) goes = r.uncancelled s i goes
  uncancelled-after s (Counted is) goes = ap (λ (u : StatusRow). u.cancelled) is ∙ r.uncancelled st here unended

  begun-after : (v : WalkState) → In v walks-later → (d : Draw) × In (v.session, d) past.ledger
  begun-after v i = elim (in-with-walk retires v walks i) [
    | inl is ↦ (let b = r.begun w (found-in (is_walk_of st.session) walks w found) in (b.0, subst (λ (u : WalkState). In (u.session, b.0) past.ledger) (sym is) b.1))
    | inr old ↦ r.begun v old
  ]

  updated : CoveredBy past keys (record names { rows = rows-after; statuses = statuses-after }) walks-later
  updated = record {
    going_on = λ s x i. going-after s x (from s i);
    completed = λ s x i. completed-after s x (from s i);
    still_sent = λ s x b y i. still-after s x b y (from s i);
    walks_fit = λ s i. fits-after s (from s i);
    in_zone = λ s x i. in-zone-after s x (from s i);
    uncancelled = λ s i. uncancelled-after s (from s i);
    sessions = r.sessions;
    files = r.files;
    begun = begun-after;
  }

-- the status that an outstanding batch belongs to

covered-applied : (past : Past) (keys : List KeyRow) (s : NameState) (note : BatchNote) (changes : Changes) (o : Outstanding s note) → AreDistinct s.table.statuses
    → Brings past keys s.table.rows o.status note.sent changes.files changes.failed → CoveredBy past keys s.table s.walks
    → CoveredBy past keys (after_table s.table (update_op s note changes)) (walks_after (Some note.sent) (update_op s note changes) s.walks)
covered-applied past keys s note changes o distinct brings r =
    subst (λ (session : ℕ). CoveredBy past keys (counts session (mark_by s note)) (retired_under note.session note.sent s.walks)) o.session_is
    (subst (λ (mark : Option (List (List ℕ))). CoveredBy past keys (counts o.status.session mark) (retired_under note.session note.sent s.walks))
    (sym (ap (option_and_then (λ (w : WalkState). mark_after w.batches note.sent)) o.under))
    (subst (CoveredBy past keys (counts o.status.session (mark_after o.walk.batches note.sent))) (sym (ap (λ (w : Option WalkState). option_map_or (λ (x : WalkState). with_walk (retire note.sent x) s.walks) w s.walks) o.under))
    (updated past keys s.table s.walks o.status o.walk note.sent changes.files (length changes.files) changes.failed distinct (status-in s.table.statuses note.zone o.status o.found).0 (unended-yes o.status o.goes)
    (ap (walk_under s.walks) o.session_is ∙ o.under) brings r)))
  where
    counts : ℕ → Option (List (List ℕ)) → NameTable
    counts session mark = record s.table { rows = with_edeks changes.files s.table.rows; statuses = counted session (length changes.files) changes.failed mark s.table.statuses }

-- all files of the batch failed
brings-failed : (past : Past) (keys : List KeyRow) (rows : List Entry) (st : StatusRow) (sent : List Sent) → Brings past keys rows st sent [] (length sent)
brings-failed past keys rows st sent = record {
  in_zone = λ f x i. absurd i;
  noted = λ c f i. absurd i;
  each = λ c x j file m still. inl (λ none. let y = in-map (λ (z : Sent). z.id) x.row.id sent m in none-in y.0 sent none y.1);
}

-- keys that came back

-- the lists of both crates have the same members
from-changes : {X : Type 0} (x : X) (xs : List X) → InChanges x xs → In x xs
from-changes x [] i = i
from-changes x (y ∷ ys) (inl is) = inl is
from-changes x (y ∷ ys) (inr i) = inr (from-changes x ys i)

to-changes : {X : Type 0} (x : X) (xs : List X) → In x xs → InChanges x xs
to-changes x [] i = i
to-changes x (y ∷ ys) (inl is) = inl is
to-changes x (y ∷ ys) (inr i) = inr (to-changes x ys i)

-- a key came back for each file that was sent
came-for : (sent : List Sent) (edeks : List Encrypted) (y : Sent) → are_of_keys sent edeks ≡ true → In y sent → (e : Encrypted) × CameFor sent edeks y e
came-for [] edeks y fits i = absurd i
came-for (x ∷ xs) [] y fits i = absurd cc
came-for (x ∷ xs) (e ∷ es) y fits (inl is) = (e, inl (is, refl))
came-for (x ∷ xs) (e ∷ es) y fits (inr i) =
    let c = came-for xs es y (and_parts (bytes_eq e.version.key x.edek.version.key) (are_of_keys xs es) fits).1 i in (c.0, inr c.1)

-- the place of a file and the key that came back for it
place-of : (sent : List Sent) (edeks : List Encrypted) (y : Sent) (e : Encrypted) → CameFor sent edeks y e → (place : ℕ) × (slice_get sent place ≡ Some y) × (slice_get edeks place ≡ Some e)
place-of [] edeks y e came = absurd came
place-of (x ∷ xs) [] y e came = absurd came
place-of (x ∷ xs) (d ∷ ds) y e (inl is) = (0, ap Some (sym is.0), ap Some (sym is.1))
place-of (x ∷ xs) (d ∷ ds) y e (inr came) = let p = place-of xs ds y e came in (suc p.0, p.1, p.2)

module _ (past : Past) (keys : List KeyRow) (rows : List Entry) (st : StatusRow) (note : BatchNote) (edeks : List Encrypted) (good : InPlace rows)
    (one : (id : ℕ) (d f : Draw) → In (id, d) past.ledger → In (id, f) past.ledger → d ≡ f) (has : HasNoted past.ledger st.session st.noted) (session : st.session ≡ note.session) (zone : st.zone ≡ note.zone)
    (fits : are_of_keys note.sent edeks ≡ true) (back : KeysCameBack past.ledger keys note (Ready edeks)) where
  abbrev files : List FileKey
  files = changed rows note.zone note.sent edeks

  once : (x : Entry) → In x rows → entry_of rows x.row.id ≡ Some x
  once x i = good.once x i

  in-note : (x : Entry) → is_file_of rows st.zone x ≡ true → is_file_of rows note.zone x ≡ true
  in-note x file = subst (λ (n : ℕ). is_file_of rows n x ≡ true) zone file

  -- a key that came back is noted
  came-noted : IsInForce past.ledger keys st → (y : Sent) (e : Encrypted) → CameFor note.sent edeks y e → IsNoted st e
  came-noted c y e came =
      let p = place-of note.sent edeks y e came in
      let b = back p.0 y e p.1 p.2 in
      let noted : In (note.session, has.draw) past.ledger = subst (λ (n : ℕ). In (n, has.draw) past.ledger) session has.entered in
      let counted : In (note.session, c.draw) past.ledger = subst (λ (n : ℕ). In (n, c.draw) past.ledger) session c.entered in (
        sym b.of_session.of_key ∙ ap (λ (d : Draw). d.version.key) (one note.session b.of_session.draw has.draw b.of_session.entered noted) ∙ ap (λ (v : VersionName). v.key) (sym has.noted_is),
        subst (λ (n : ℕ). n ≤ e.version.number) (ap (λ (d : Draw). d.version.number) (one note.session c.draw has.draw counted noted) ∙ ap (λ (v : VersionName). v.number) (sym has.noted_is))
            (b.not_below c.draw c.row counted c.stands c.born),
      )

  -- a file that changes lies in the zone
  changed-in : (f : FileKey) (x : Entry) → In f files → In x rows → x.row.id ≡ f.id → is_file_of rows st.zone x ≡ true
  changed-in f x i j same =
      let d = changed-delivered rows note.zone note.sent edeks f (to-changes f files i) in
      let is : d.still.entry ≡ x = some-is d.still.entry x (sym d.still.stands ∙ ap (entry_of rows) (sym same) ∙ once x j) in
      subst (λ (n : ℕ). is_file_of rows n x ≡ true) (sym zone)
      (subst (λ (z : Entry). is_file_of rows note.zone z ≡ true) is
      (and_from (is_some (edek_of d.still.entry.row.kind)) (same_id (zone_id rows d.still.entry.path) (Some note.zone)) (ap is_some d.still.has) (ap (λ (o : Option ℕ). same_id o (Some note.zone)) d.still.lies ∙ itself note.zone)))

  changed-noted : IsInForce past.ledger keys st → AllNoted st files
  changed-noted c f i = let d = changed-delivered rows note.zone note.sent edeks f (to-changes f files i) in came-noted c d.file f.edek d.came

  -- a file that has the key that was sent has the one that came back, or gets it
  still-sent : IsInForce past.ledger keys st → (x : Entry) (y : Sent) (e : Encrypted) → In x rows → is_file_of rows st.zone x ≡ true → x.row.id ≡ y.id → CameFor note.sent edeks y e → edek_of x.row.kind ≡ Some y.edek
      → IsReencrypted st x ⊎ ((f : FileKey) × In f files × (x.row.id ≡ f.id))
  still-sent c x y e j file at came its = go (same_edek y.edek e) refl
    where
      go : (b : Bool) → same_edek y.edek e ≡ b → IsReencrypted st x ⊎ ((f : FileKey) × In f files × (x.row.id ≡ f.id))
      go true h = let n = came-noted c y e came in inl (e, its ∙ ap Some (same-edek y.edek e h), n.0, n.1)
      go false h = inr (
        record { id = x.row.id; edek = e },
        from-changes (record { id = x.row.id; edek = e }) files (delivered-changed rows note.zone note.sent edeks (record { id = x.row.id; edek = e }) (record {
          file = y;
          came = came;
          id = sym at;
          still = record { entry = x; stands = once x j; lies = lies-in rows note.zone x (in-note x file); has = its };
          another = λ same. let f : false ≡ true = sym h ∙ ap (same_edek y.edek) same ∙ edek-self y.edek in absurd cc;
        })),
        refl,
      )

  brings-ready : Brings past keys rows st note.sent files 0
  brings-ready = record {
    in_zone = changed-in;
    noted = changed-noted;
    each = λ c x j file m still.
        let y = in-map (λ (z : Sent). z.id) x.row.id note.sent m in
        let e = came-for note.sent edeks y.0 fits y.1 in
        inr (elim (still y.0 y.1 y.2) [ inl its ↦ still-sent c x y.0 e.0 j file y.2 e.1 its | inr done ↦ inl done ]);
  }

-- Each file of a batch that is given up failed.
pub covered-given-up : (past : Past) (keys : List KeyRow) (s : NameState) (note : BatchNote) → AreDistinct s.table.statuses → is_outstanding s note ≡ true → CoveredBy past keys s.table s.walks
    → CoveredBy past keys (after_table s.table (update_op s note (all_failed note.sent))) (walks_after (Some note.sent) (update_op s note (all_failed note.sent)) s.walks)
covered-given-up past keys s note distinct is r =
    let o = outstanding-at s note is in covered-applied past keys s note (all_failed note.sent) o distinct (brings-failed past keys s.table.rows o.status note.sent) r

-- The files of a batch get the keys that came back for them, or all failed.
pub covered-delivered : (past : Past) (keys : List KeyRow) (s : NameState) (reply : ReplyState) → InPlace s.table.rows → ((id : ℕ) (d f : Draw) → In (id, d) past.ledger → In (id, f) past.ledger → d ≡ f)
    → FilesLinked past.ledger keys s.table → is_outstanding s reply.note ≡ true → FitsSent reply.note.sent reply.result → KeysCameBack past.ledger keys reply.note reply.result → CoveredBy past keys s.table s.walks
    → CoveredBy past keys (after_table s.table (update_op s reply.note (changes_of s.table.rows reply.note.zone reply.note.sent reply.result)))
    (walks_after (Some reply.note.sent) (update_op s reply.note (changes_of s.table.rows reply.note.zone reply.note.sent reply.result)) s.walks)
covered-delivered past keys s reply good one linked is fits back r = go reply.result fits back
  where
    o : Outstanding s reply.note
    o = outstanding-at s reply.note is

    here : In o.status s.table.statuses × (o.status.zone ≡ reply.note.zone)
    here = status-in s.table.statuses reply.note.zone o.status o.found

    go : (result : BatchResult) → FitsSent reply.note.sent result → KeysCameBack past.ledger keys reply.note result
        → CoveredBy past keys (after_table s.table (update_op s reply.note (changes_of s.table.rows reply.note.zone reply.note.sent result)))
        (walks_after (Some reply.note.sent) (update_op s reply.note (changes_of s.table.rows reply.note.zone reply.note.sent result)) s.walks)
    go Refused fits back = covered-applied past keys s reply.note (all_failed reply.note.sent) o linked.distinct (brings-failed past keys s.table.rows o.status reply.note.sent) r
    go (Ready edeks) fits back =
        covered-applied past keys s reply.note (changes_of s.table.rows reply.note.zone reply.note.sent (Ready edeks)) o linked.distinct
        (brings-ready past keys s.table.rows o.status reply.note edeks good one (linked.statuses o.status here.0) o.session_is here.1 fits back) r
