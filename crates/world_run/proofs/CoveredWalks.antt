-- A walk that takes a batch keeps re-encryptions covered.
use Rattle.std.proofs.Common.{◌≡◌, ◌≢◌, ◌⊎◌, inl, inr, ◌≤◌, ℕ, zero, suc, Bool, true, false, not, cond, ◌&&◌, List, [], ◌∷◌, ◌++◌, take, drop, Option, Some, None, is_some, refl, sym, ap, ◌∙◌, subst, arith}
use Rattle.std.specs.Prelude.{◌==◌}
use Rattle.std.specs.Option.{option_map}
use Rattle.std.specs.List.{filter}
use Rattle.std.proofs.lemmas.Bool.{both_ways, cases_eq, ne_eqb, or_left, or_right, and_parts, eqb-true, and_from}
use Rattle.std.proofs.lemmas.Bool.Decides.{nat_tests}
use Rattle.key_rows.specs.declared.rows.KeyRow.{KeyRow}
use Rattle.name_calls.specs.Paths.{is_before}
use Rattle.inode_tree.specs.Rows.{AllAfter as ComesAfter, Entry, IsRising, IsRows, same_id, zone_id}
use Rattle.inode_tree.specs.ZoneFiles.{edek_of, is_file_of, path_in}
use Rattle.inode_tree.proofs.Ranks.{before-trans}
use Rattle.inode_tree.proofs.Seeks.{not-before-itself}
use Rattle.hk_base.specs.Names.{Encrypted}
use Rattle.reenc_walk.specs.declared.batches.WalkedBatch.{WalkedBatch}
use Rattle.reenc_walk.specs.declared.sent.Sent.{Sent}
use Rattle.reenc_walk.specs.Files.{is_after, last_in, last_path, sent_list, sent_of, walk_list}
use Rattle.reenc_walk.specs.Walks.{WalkState, walked}
use Rattle.zone_table.specs.declared.statuses.StatusRow.{StatusRow}
use Rattle.zone_table.specs.Statuses.{goes_on_under, is_of, session_goes_on, status_of}
use Rattle.name_store.specs.Table.{NameTable, rows_of_entries, snapped_rows}
use Rattle.name_core.specs.State.{NameState, is_walk_of, walk_under, with_walk}
use Rattle.name_core.specs.Walks.{going_on, or_new_walk, taken, walk_of}
use Rattle.name_core.proofs.WalkLemmas.{of-session}
use Rattle.name_core.proofs.WalkOrder.{some-taken, under-going, under-with, walk-follows}
use Rattle.world_run.specs.Covered.{AreBatchesApart, AreInWalkOrder, AreSentAfter, CoveredBy, IsAhead, IsAwaited, IsFileDone, NoneShared, WalkCovered, ids_sent}
use Rattle.world_run.specs.Ledger.{Draw, Past}
use Rattle.world_run.specs.Linked.{FilesLinked}
use Rattle.world_run.specs.Promise.{In, IsReencrypted}
use Rattle.world_run.proofs.Members.{filter-in, filter-map-in, found-in, in-filter, in-filter-map, in-left, in-map, in-more, in-right, in-take, map-in, some-is, take-or-drop}
use Rattle.world_run.proofs.PairLemmas.{in-drop}
use Rattle.world_run.proofs.RowLemmas.{in-place, one-of-id}
use Rattle.world_run.proofs.StatusLemmas.{distinct-same}

-- numbers

pub itself : (n : ℕ) → (n == n) ≡ true
itself n = grind (arith, nat_tests)

-- sessions

-- the session of a status that goes on goes on
pub goes-in : (statuses : List StatusRow) (s : StatusRow) → In s statuses → s.completed ≡ false → session_goes_on statuses s.session ≡ true
goes-in [] s i goes = absurd i
goes-in (t ∷ ts) s (inl is) goes =
    or_left (goes_on_under s.session t) (session_goes_on ts s.session)
    (subst (λ (u : StatusRow). goes_on_under s.session u ≡ true) is (and_from (s.session == s.session) (not s.completed) (itself s.session) (ap not goes)))
goes-in (t ∷ ts) s (inr i) goes = or_right (goes_on_under s.session t) (session_goes_on ts s.session) (goes-in ts s i goes)

-- walks

-- the walks of other sessions are the same with another state of one
pub under-other : (w : WalkState) (ws : List WalkState) (session : ℕ) → (w.session ≡ session → ⊥) → walk_under (with_walk w ws) session ≡ walk_under ws session
under-other w [] session apart = ap (λ (b : Bool). cond b (Some w) None) (ne_eqb w.session session apart)
under-other w (x ∷ ws) session apart = go (is_walk_of w.session x) refl (under-other w ws session apart)
  where
    go : (b : Bool) → is_walk_of w.session x ≡ b → walk_under (with_walk w ws) session ≡ walk_under ws session → walk_under (cond b (w ∷ ws) (x ∷ with_walk w ws)) session ≡ walk_under (x ∷ ws) session
    go true at ih =
        ap (λ (b : Bool). cond b (Some w) (walk_under ws session)) (ne_eqb w.session session apart)
        ∙ sym (ap (λ (b : Bool). cond b (Some x) (walk_under ws session)) (ne_eqb x.session session (λ e. apart (sym (eqb-true x.session w.session at) ∙ e))))
    go false at ih = ap (λ (o : Option WalkState). cond (is_walk_of session x) (Some x) o) ih

pub in-with-walk : (w v : WalkState) (ws : List WalkState) → In v (with_walk w ws) → (v ≡ w) ⊎ In v ws
in-with-walk w v [] (inl is) = inl is
in-with-walk w v [] (inr none) = absurd none
in-with-walk w v (x ∷ ws) i = go (is_walk_of w.session x) i (in-with-walk w v ws)
  where
    go : (b : Bool) → In v (cond b (w ∷ ws) (x ∷ with_walk w ws)) → (In v (with_walk w ws) → (v ≡ w) ⊎ In v ws) → (v ≡ w) ⊎ In v (x ∷ ws)
    go true (inl is) ih = inl is
    go true (inr j) ih = inr (inr j)
    go false (inl is) ih = inr (inl is)
    go false (inr j) ih = elim (ih j) [ inl is ↦ inl is | inr k ↦ inr (inr k) ]

-- files

some-of : {X : Type 0} (o : Option X) → is_some o ≡ true → (x : X) × (o ≡ Some x)
some-of None is = absurd cc
some-of (Some x) is = (x, refl)

-- a file of a zone has an encrypted key
pub key-of-file : (rows : List Entry) (zone : ℕ) (x : Entry) → is_file_of rows zone x ≡ true → (e : Encrypted) × (edek_of x.row.kind ≡ Some e)
key-of-file rows zone x file = some-of (edek_of x.row.kind) (and_parts (is_some (edek_of x.row.kind)) (same_id (zone_id rows x.path) (Some zone)) file).0

pub row-in : (e : Entry) (rows : List Entry) → In e rows → In e.row (rows_of_entries rows)
row-in e [] i = absurd i
row-in e (y ∷ ys) (inl is) = inl (ap (λ (z : Entry). z.row) is)
row-in e (y ∷ ys) (inr i) = inr (row-in e ys i)

last-of : (p : List (List ℕ)) (es : List Entry) → es ≢ [] → (z : Entry) × In z es × (z.path ≡ last_path p es)
last-of p [] some = absurd (some refl)
last-of p (e ∷ []) some = (e, inl refl, refl)
last-of p (e ∷ f ∷ es) some = let l = last-of e.path (f ∷ es) (λ none. absurd cc) in (l.0, inr l.1, l.2)

pub after-trans : (c : Option (List (List ℕ))) (a b : List (List ℕ)) → is_after c a ≡ true → is_before a b ≡ true → is_after c b ≡ true
after-trans None a b h k = refl
after-trans (Some c) a b h k = before-trans c a b h k

sent-parts : (e : Entry) (k : Encrypted) → edek_of e.row.kind ≡ Some k → sent_of e ≡ Some (record { id = e.row.id; edek = k })
sent-parts e k has = ap (λ (o : Option Encrypted). option_map (λ (d : Encrypted). record { id = e.row.id; edek = d }) o) has

-- what is sent of a row is its id and its encrypted key
pub sent-is : (e : Entry) (y : Sent) → sent_of e ≡ Some y → (e.row.id ≡ y.id) × (edek_of e.row.kind ≡ Some y.edek)
sent-is e y is = go (edek_of e.row.kind) refl is
  where
    go : (o : Option Encrypted) → edek_of e.row.kind ≡ o → option_map (λ (k : Encrypted). record { id = e.row.id; edek = k }) o ≡ Some y → (e.row.id ≡ y.id) × (edek_of e.row.kind ≡ Some y.edek)
    go None has is = absurd cc
    go (Some k) has is =
        let same : (record { id = e.row.id; edek = k }) ≡ y = some-is (record { id = e.row.id; edek = k }) y is in
        (ap (λ (z : Sent). z.id) same, has ∙ ap (λ (z : Sent). Some z.edek) same)

-- rows in path order are taken once

after-in : (p : List (List ℕ)) (es : List Entry) (x : Entry) → ComesAfter p es → In x es → is_before p x.path ≡ true
after-in p [] x a i = absurd i
after-in p (e ∷ es) x a (inl is) = subst (λ (z : Entry). is_before p z.path ≡ true) (sym is) a.0
after-in p (e ∷ es) x a (inr i) = after-in p es x a.1 i

after-filter : (t : Entry → Bool) (p : List (List ℕ)) (es : List Entry) → ComesAfter p es → ComesAfter p (filter t es)
after-filter t p [] a = tt
after-filter t p (e ∷ es) a = go (t e) (after-filter t p es a.1)
  where
    go : (b : Bool) → ComesAfter p (filter t es) → ComesAfter p (cond b (e ∷ filter t es) (filter t es))
    go true rest = (a.0, rest)
    go false rest = rest

rising-filter : (t : Entry → Bool) (es : List Entry) → IsRising es → IsRising (filter t es)
rising-filter t [] r = tt
rising-filter t (e ∷ es) r = go (t e) (rising-filter t es r.1)
  where
    go : (b : Bool) → IsRising (filter t es) → IsRising (cond b (e ∷ filter t es) (filter t es))
    go true rest = (after-filter t e.path es r.0, rest)
    go false rest = rest

taken-once : (n : ℕ) (es : List Entry) (x : Entry) → IsRising es → In x (take n es) → In x (drop n es) → ⊥
taken-once zero es x r i j = absurd i
taken-once (suc n) [] x r i j = absurd i
taken-once (suc n) (e ∷ es) x r (inl is) j =
    both_ways (is_before x.path x.path) (not-before-itself x.path)
    (subst (λ (z : Entry). is_before z.path x.path ≡ true) (sym is) (after-in e.path es x r.0 (in-drop n x es j)))
taken-once (suc n) (e ∷ es) x r (inr i) j = taken-once n es x r.1 i j

-- one more batch shares no file with the others, if each of them shares none with it
shared-more : (b : WalkedBatch) (bs : List WalkedBatch) → ((c : WalkedBatch) → In c bs → AreBatchesApart c b) → NoneShared bs → NoneShared (bs ++ b ∷ [])
shared-more b [] apart o = (λ c none. absurd none, tt)
shared-more b (c ∷ cs) apart o = (
  λ d i. elim (in-more d b cs i) [ inl old ↦ o.0 d old | inr is ↦ subst (AreBatchesApart c) (sym is) (apart c (inl refl)) ],
  shared-more b cs (λ d i. apart d (inr i)) o.1,
)

-- one more batch comes last, if its files come after each other
order-more : (rows : List Entry) (zone : ℕ) (b : WalkedBatch) (bs : List WalkedBatch) → ((c : WalkedBatch) → In c bs → AreSentAfter rows zone c.last (b ∷ [])) → AreInWalkOrder rows zone bs → AreInWalkOrder rows zone (bs ++ b ∷ [])
order-more rows zone b [] after o = (λ c x none. absurd none, tt)
order-more rows zone b (c ∷ cs) after o = (
  λ d x i j file m. elim (in-more d b cs i) [ inl old ↦ o.0 d x old j file m | inr is ↦ after c (inl refl) d x (inl is) j file m ],
  order-more rows zone b cs (λ d i. after d (inr i)) o.1,
)

-- the walk of this status takes a batch
module _ (past : Past) (keys : List KeyRow) (names : NameTable) (walks : List WalkState) (st : StatusRow) (size : ℕ) (rules : IsRows names.rows) (some : 1 ≤ size) (linked : FilesLinked past.ledger keys names)
    (here : In st names.statuses) (unended : st.completed ≡ false) (left : walk_list names.rows st.zone (walk_of walks st).cursor ≢ []) (r : CoveredBy past keys names walks) where
  abbrev w : WalkState
  w = walk_of walks st

  abbrev list : List Entry
  list = walk_list names.rows st.zone w.cursor

  abbrev files : List Entry
  files = take size list

  abbrev last : List (List ℕ)
  last = last_in names.rows st.zone files

  abbrev batch : WalkedBatch
  batch = record { sent = sent_list files; last = last; outstanding = true }

  abbrev grown : WalkState
  grown = walked names.rows st.zone size w

  abbrev walks-after : List WalkState
  walks-after = going_on names.statuses (with_walk grown walks)

  there : files ≢ []
  there = some-taken size list some left

  one : (x y : Entry) → In x names.rows → In y names.rows → x.row.id ≡ y.row.id → x ≡ y
  one = one-of-id names.rows (in-place names.rows rules)

  -- the files of the walk

  in-list : (x : Entry) → In x names.rows → is_file_of names.rows st.zone x ≡ true → is_after w.cursor (path_in names.rows st.zone x.path) ≡ true → In x list
  in-list x i file ahead =
      filter-in (λ (e : Entry). is_file_of names.rows st.zone e && is_after w.cursor (path_in names.rows st.zone e.path)) x names.rows i
      (and_from (is_file_of names.rows st.zone x) (is_after w.cursor (path_in names.rows st.zone x.path)) file ahead)

  record IsListed (after : Option (List (List ℕ))) (x : Entry) : Type 0 where
    row : In x names.rows
    file : is_file_of names.rows st.zone x ≡ true
    ahead : is_after after (path_in names.rows st.zone x.path) ≡ true

  listed : (after : Option (List (List ℕ))) (x : Entry) → In x (walk_list names.rows st.zone after) → IsListed after x
  listed after x i =
      let m = in-filter (λ (e : Entry). is_file_of names.rows st.zone e && is_after after (path_in names.rows st.zone e.path)) x names.rows i in
      let both = and_parts (is_file_of names.rows st.zone x) (is_after after (path_in names.rows st.zone x.path)) m.1 in
      record { row = m.0; file = both.0; ahead = both.1 }

  file-is : (x : Entry) → In x files → IsListed w.cursor x
  file-is x i = listed w.cursor x (in-take size x list i)

  -- what is sent of them

  id-sent : (x : Entry) → In x files → In x.row.id (ids_sent batch.sent)
  id-sent x i =
      let k = key-of-file names.rows st.zone x (file-is x i).file in
      map-in (λ (y : Sent). y.id) (record { id = x.row.id; edek = k.0 }) batch.sent (filter-map-in sent_of x (record { id = x.row.id; edek = k.0 }) files i (sent-parts x k.0 k.1))

  -- a row with the id of what was sent is a file of the batch, and has the key that was sent
  sent-row : (x : Entry) (y : Sent) → In x names.rows → In y batch.sent → x.row.id ≡ y.id → In x files × (edek_of x.row.kind ≡ Some y.edek)
  sent-row x y i m at =
      let f = in-filter-map sent_of y files m in
      let is = sent-is f.0 y f.2 in
      let same : f.0 ≡ x = one f.0 x (file-is f.0 f.1).row i (is.0 ∙ sym at) in
      (subst (λ (z : Entry). In z files) same f.1, subst (λ (z : Entry). edek_of z.row.kind ≡ Some y.edek) same is.1)

  id-row : (x : Entry) → In x names.rows → In x.row.id (ids_sent batch.sent) → In x files
  id-row x i m = let y = in-map (λ (z : Sent). z.id) x.row.id batch.sent m in (sent-row x y.0 i y.1 y.2).0

  -- the cursor has moved on

  passed : (p : List (List ℕ)) → is_after (Some last) p ≡ true → is_after w.cursor p ≡ true
  passed p h =
      let z = last-of [] files there in
      after-trans w.cursor last p (subst (λ (q : List (List ℕ)). is_after w.cursor (path_in names.rows st.zone q) ≡ true) z.2 (file-is z.0 z.1).ahead) h

  -- each file of the zone that was awaited or ahead still is

  abbrev Going : StatusRow → Entry → WalkState → Type 0
  Going s x v = IsFileDone s x ⊎ (IsAwaited v x ⊎ IsAhead names.rows s.zone v x)

  still-going : (x : Entry) → In x names.rows → is_file_of names.rows st.zone x ≡ true → Going st x w → Going st x grown
  still-going x i file (inl done) = inl done
  still-going x i file (inr (inl (b, k, out, m))) = inr (inl (b, in-left b w.batches (batch ∷ []) k, out, m))
  still-going x i file (inr (inr ahead)) = elim (take-or-drop size x list (in-list x i file ahead)) [
    | inl taken ↦ inr (inl (batch, in-right batch w.batches (batch ∷ []) (inl refl), refl, id-sent x taken))
    | inr later ↦ inr (inr (listed (Some last) x (subst (In x) (sym (walk-follows names.rows st.zone rules w.cursor size there)) later)).ahead)
  ]

  -- the walk that has grown is covered

  abbrev Fits : Type 0
  Fits = WalkCovered past.ledger names.rows st w

  drawn : (y : Sent) → In y batch.sent → (d : Draw) × In (y.id, d) past.ledger
  drawn y m =
      let f = in-filter-map sent_of y files m in
      let is = sent-is f.0 y f.2 in
      let has = linked.files f.0.row y.edek (in-left f.0.row (rows_of_entries names.rows) (snapped_rows names.snaps.taken) (row-in f.0 names.rows (file-is f.0 f.1).row)) is.1 in
      (has.draw, subst (λ (id : ℕ). In (id, has.draw) past.ledger) is.0 has.entered)

  grown-fits : Fits → WalkCovered past.ledger names.rows st grown
  grown-fits k = record {
    not_before_mark = λ p h. k.not_before_mark p (passed p h);
    after_mark = λ b x i out j file m. elim (in-more b batch w.batches i) [
      | inl old ↦ k.after_mark b x old out j file m
      | inr is ↦ k.not_before_mark (path_in names.rows st.zone x.path) (file-is x (id-row x j (subst (λ (c : WalkedBatch). In x.row.id (ids_sent c.sent)) is m))).ahead
    ];
    up_to_cursor = λ b p i h. elim (in-more b batch w.batches i) [
      | inl old ↦ k.up_to_cursor b p old (passed p h)
      | inr is ↦ subst (λ (c : WalkedBatch). is_after (Some c.last) p ≡ true) (sym is) h
    ];
    some_file = λ b i. elim (in-more b batch w.batches i) [
      | inl old ↦ k.some_file b old
      | inr is ↦ subst (λ (c : WalkedBatch). c.sent ≢ []) (sym is) (λ none. some-sent none)
    ];
    entered = λ b y i m. elim (in-more b batch w.batches i) [
      | inl old ↦ k.entered b y old m
      | inr is ↦ drawn y (subst (λ (c : WalkedBatch). In y c.sent) is m)
    ];
    in_order = order-more names.rows st.zone batch w.batches (λ c i b x j m file n. k.up_to_cursor c (path_in names.rows st.zone x.path) i (ahead x b j m n)) k.in_order;
    up_to_last = λ b x i j file m. elim (in-more b batch w.batches i) [
      | inl old ↦ k.up_to_last b x old j file m
      | inr is ↦ subst (λ (c : WalkedBatch). is_after (Some c.last) (path_in names.rows st.zone x.path) ≡ false) (sym is)
          (not-after x (id-row x j (subst (λ (c : WalkedBatch). In x.row.id (ids_sent c.sent)) is m)))
    ];
    none_shared = shared-more batch w.batches (λ c i. apart k c i) k.none_shared;
  }
    where
      -- a file that was taken does not come after the last one
      not-after : (x : Entry) → In x files → is_after (Some last) (path_in names.rows st.zone x.path) ≡ false
      not-after x i = go (is_after (Some last) (path_in names.rows st.zone x.path)) refl
        where
          go : (b : Bool) → is_after (Some last) (path_in names.rows st.zone x.path) ≡ b → b ≡ false
          go false later = refl
          go true later =
              let f = file-is x i in
              let again : In x (walk_list names.rows st.zone (Some last)) =
              filter-in (λ (e : Entry). is_file_of names.rows st.zone e && is_after (Some last) (path_in names.rows st.zone e.path)) x names.rows f.row
              (and_from (is_file_of names.rows st.zone x) (is_after (Some last) (path_in names.rows st.zone x.path)) f.file later) in
              absurd (taken-once size list x (rising-filter (λ (e : Entry). is_file_of names.rows st.zone e && is_after w.cursor (path_in names.rows st.zone e.path)) names.rows rules.rising) i
              (subst (In x) (walk-follows names.rows st.zone rules w.cursor size there) again))

      -- an earlier batch has not sent it
      apart : Fits → (c : WalkedBatch) → In c w.batches → AreBatchesApart c batch
      apart k c i id m n =
          let y = in-map (λ (z : Sent). z.id) id batch.sent n in
          let f = in-filter-map sent_of y.0 files y.1 in
          let f_id : id ≡ f.0.row.id = y.2 ∙ sym (sent-is f.0 y.0 f.2).0 in
          let is = file-is f.0 f.1 in
          both_ways (is_after (Some c.last) (path_in names.rows st.zone f.0.path)) (k.up_to_last c f.0 i is.row is.file (subst (λ (n : ℕ). In n (ids_sent c.sent)) f_id m))
          (k.up_to_cursor c (path_in names.rows st.zone f.0.path) i is.ahead)

      some-sent : batch.sent ≡ [] → ⊥
      some-sent none = let z = last-of [] files there in subst (λ (sent : List Sent). In z.0.row.id (ids_sent sent)) none (id-sent z.0 z.1)

      ahead : (x : Entry) (b : WalkedBatch) → In b (batch ∷ []) → In x names.rows → In x.row.id (ids_sent b.sent) → is_after w.cursor (path_in names.rows st.zone x.path) ≡ true
      ahead x b (inl is) m n = (file-is x (id-row x m (subst (λ (c : WalkedBatch). In x.row.id (ids_sent c.sent)) is n))).ahead
      ahead x b (inr none) m n = absurd none

  -- the walks after it

  of-st : grown.session ≡ st.session
  of-st = of-session walks st

  -- the walk of another status is the same
  data WalkAfter (s : StatusRow) : Type 0 where
    Same : walk_of walks-after s ≡ walk_of walks s → WalkAfter s
    Grown : s ≡ st → walk_of walks-after s ≡ grown → WalkAfter s

  walk-after : (s : StatusRow) → In s names.statuses → s.completed ≡ false → WalkAfter s
  walk-after s i goes = elim (cases_eq s.session st.session) [
    | inl at ↦ Grown (distinct-same names.statuses s st linked.distinct i here (inl at)) (ap (λ (o : Option WalkState). or_new_walk o s) (kept ∙ ap (walk_under (with_walk grown walks)) (at ∙ sym of-st) ∙ under-with grown walks))
    | inr apart ↦ Same (ap (λ (o : Option WalkState). or_new_walk o s) (kept ∙ under-other grown walks s.session (λ e. apart (sym e ∙ of-st))))
  ]
    where
      kept : walk_under walks-after s.session ≡ walk_under (with_walk grown walks) s.session
      kept = under-going names.statuses s.session (with_walk grown walks) (goes-in names.statuses s i goes)

  going-after : (s : StatusRow) (x : Entry) → In x names.rows → is_file_of names.rows s.zone x ≡ true → WalkAfter s → Going s x (walk_of walks s) → Going s x (walk_of walks-after s)
  going-after s x i file (Same is) g = subst (Going s x) (sym is) g
  going-after s x i file (Grown at is) g =
      subst (Going s x) (sym is)
      (subst (λ (u : StatusRow). Going u x grown) (sym at)
      (still-going x i (subst (λ (u : StatusRow). is_file_of names.rows u.zone x ≡ true) at file) (subst (λ (u : StatusRow). Going u x (walk_of walks u)) at g)))

  fits-after : (s : StatusRow) → WalkAfter s → WalkCovered past.ledger names.rows s (walk_of walks s) → WalkCovered past.ledger names.rows s (walk_of walks-after s)
  fits-after s (Same is) k = subst (WalkCovered past.ledger names.rows s) (sym is) k
  fits-after s (Grown at is) k =
      subst (WalkCovered past.ledger names.rows s) (sym is)
      (subst (λ (u : StatusRow). WalkCovered past.ledger names.rows u grown) (sym at)
      (grown-fits (subst (λ (u : StatusRow). WalkCovered past.ledger names.rows u (walk_of walks u)) at k)))

  -- each file that is sent has the key that was sent, or is re-encrypted
  abbrev StillSent : StatusRow → Entry → Sent → Type 0
  StillSent s x y = (edek_of x.row.kind ≡ Some y.edek) ⊎ IsReencrypted s x

  sent-after : (s : StatusRow) (x : Entry) (b : WalkedBatch) (y : Sent) → In x names.rows → x.row.id ≡ y.id → In y b.sent → WalkAfter s → (In b (walk_of walks s).batches → StillSent s x y) → In b (walk_of walks-after s).batches → StillSent s x y
  sent-after s x b y i at m (Same is) old k = old (subst (λ (v : WalkState). In b v.batches) is k)
  sent-after s x b y i at m (Grown st-is is) old k = elim (in-more b batch w.batches (subst (λ (v : WalkState). In b v.batches) is k)) [
    | inl was ↦ old (subst (λ (u : StatusRow). In b (walk_of walks u).batches) (sym st-is) was)
    | inr new ↦ inl (sent-row x y i (subst (λ (c : WalkedBatch). In y c.sent) new m) at).1
  ]

  walk-begun : (v : WalkState) → In v walks-after → (d : Draw) × In (v.session, d) past.ledger
  walk-begun v i = elim (in-with-walk grown v walks (in-filter (λ (u : WalkState). session_goes_on names.statuses u.session) v (with_walk grown walks) i).0) [
    | inl is ↦
        (let noted = linked.statuses st here in
        (noted.draw, subst (λ (session : ℕ). In (session, noted.draw) past.ledger) (sym (ap (λ (u : WalkState). u.session) is ∙ of-st)) noted.entered))
    | inr old ↦ r.begun v old
  ]

  covered : CoveredBy past keys names walks-after
  covered = record {
    going_on = λ s x i counts goes j was. going-after s x j (r.in_zone s x i j was) (walk-after s i goes) (r.going_on s x i counts goes j was);
    completed = r.completed;
    still_sent = λ s x b y i counts goes k out m j file at. sent-after s x b y j at m (walk-after s i goes) (λ old. r.still_sent s x b y i counts goes old out m j file at) k;
    walks_fit = λ s i goes. fits-after s (walk-after s i goes) (r.walks_fit s i goes);
    in_zone = r.in_zone;
    uncancelled = r.uncancelled;
    sessions = r.sessions;
    files = r.files;
    begun = walk-begun;
  }

-- A walk of a zone whose re-encryption goes on takes the next files.
pub covered-batch : (past : Past) (keys : List KeyRow) (names : NameTable) (walks : List WalkState) (st : StatusRow) (size : ℕ) → IsRows names.rows → 1 ≤ size → FilesLinked past.ledger keys names
    → In st names.statuses → st.completed ≡ false → walk_list names.rows st.zone (walk_of walks st).cursor ≢ [] → CoveredBy past keys names walks
    → CoveredBy past keys names (going_on names.statuses (with_walk (walked names.rows st.zone size (walk_of walks st)) walks))
covered-batch past keys names walks st size rules some linked here unended left r = covered past keys names walks st size rules some linked here unended left r

pub status-in : (statuses : List StatusRow) (zone : ℕ) (st : StatusRow) → status_of statuses zone ≡ Some st → In st statuses × (st.zone ≡ zone)
status-in statuses zone st is = (found-in (is_of zone) statuses st is, of-zone statuses is)
  where
    of-zone : (ts : List StatusRow) → status_of ts zone ≡ Some st → st.zone ≡ zone
    of-zone [] is = absurd cc
    of-zone (t ∷ ts) is = go (is_of zone t) refl is (of-zone ts)
      where
        go : (b : Bool) → is_of zone t ≡ b → cond b (Some t) (status_of ts zone) ≡ Some st → (status_of ts zone ≡ Some st → st.zone ≡ zone) → st.zone ≡ zone
        go true at is ih = ap (λ (u : StatusRow). u.zone) (sym (some-is t st is)) ∙ eqb-true t.zone zone at
        go false at is ih = ih is

-- The same for what a walk of the zone does.
pub covered-taken : (past : Past) (keys : List KeyRow) (s : NameState) (zone : ℕ) (st : StatusRow) → IsRows s.table.rows → 1 ≤ s.batch → FilesLinked past.ledger keys s.table
    → status_of s.table.statuses zone ≡ Some st → st.completed ≡ false → walk_list s.table.rows zone (walk_of s.walks st).cursor ≢ [] → CoveredBy past keys s.table s.walks
    → CoveredBy past keys s.table (taken s zone (walk_of s.walks st)).state.walks
covered-taken past keys s zone st rules some linked found goes left r =
    let i = status-in s.table.statuses zone st found in
    subst (λ (z : ℕ). CoveredBy past keys s.table (taken s z (walk_of s.walks st)).state.walks) i.1
    (covered-batch past keys s.table s.walks st s.batch rules some linked i.0 goes
    (subst (λ (z : ℕ). walk_list s.table.rows z (walk_of s.walks st).cursor ≢ []) (sym i.1) left) r)
