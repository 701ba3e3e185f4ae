-- A finish keeps re-encryptions covered: a submission begins with the files of its zone.
use Rattle.std.proofs.Common.{◌≡◌, inl, inr, ℕ, Bool, true, false, List, [], ◌++◌, Option, Some, None, is_some, Err, refl, sym, ap, subst, ◌∙◌}
use Rattle.std.specs.Option.{option_map}
use Rattle.std.specs.declared.result.Result.{Result}
use Rattle.std.proofs.lemmas.List.{append-nil}
use Rattle.std.proofs.lemmas.Bool.{eqb-true, not-false}
use Rattle.hk_base.specs.declared.names.Edek.{Edek}
use Rattle.key_rows.specs.declared.rows.KeyRow.{KeyRow}
use Rattle.inode_tree.specs.declared.rows.Row.{Row}
use Rattle.inode_tree.specs.Rows.{Entry, same_id, zone_id}
use Rattle.inode_tree.specs.ZoneFiles.{is_file_of}
use Rattle.edit_ops.specs.declared.ops.EditOp.{EditOp}
use Rattle.edit_ops.specs.declared.ops.EditOp.TheVariants as op
use Rattle.name_calls.specs.declared.calls.Ask.{Ask}
use Rattle.name_calls.specs.declared.calls.Ask.TheVariants as ask
use Rattle.name_calls.specs.declared.calls.KeyAnswer.{KeyAnswer}
use Rattle.name_calls.specs.declared.calls.KeyAnswer.TheVariants.{Given, Refused}
use Rattle.name_calls.specs.declared.calls.NameRefusal.{NameRefusal}
use Rattle.name_calls.specs.declared.calls.NameRefusal.TheVariants as refusal
use Rattle.reenc_walk.specs.declared.sent.Sent.{Sent}
use Rattle.reenc_walk.specs.Walks.{WalkState}
use Rattle.zone_table.specs.declared.statuses.StatusRow.{StatusRow}
use Rattle.name_store.specs.Causes.{id_at, id_of, zone_root_causes}
use Rattle.name_store.specs.Table.{NameTable, after_table, allows}
use Rattle.name_core.specs.Asks.{FinishOutcome, Finishes, ask_gone, closed, finish_causes, finish_op, noted_of, open_ask, path_asked, unless_stopped}
use Rattle.name_core.specs.Calls.{NoRoom, Plain, first_cause}
use Rattle.name_core.specs.Service.{FinishServes, FinishServesAt, FinishServesOpen, closed_service}
use Rattle.name_core.specs.State.{IsNames, NameService, NameState, settled, walks_after}
use Rattle.name_core.specs.declared.asks.OpenAsk.{OpenAsk}
use Rattle.name_core.proofs.AllowedLemmas.{allowed-finish, may-submit}
use Rattle.name_store.proofs.CauseLemmas.{zone-root}
use Rattle.name_store.proofs.StatusLemmas.{marked-row, zone-at}
use Rattle.hk_events.specs.declared.event.Line.TheVariants as line
use Rattle.world_run.specs.declared.kept.KeptReply.TheVariants.{ToAsk}
use Rattle.world_run.specs.Covered.{CoveredBy}
use Rattle.world_run.specs.Ledger.{Draw, Hidden, Ledger, Past, entered, entry_under, enters, files_under, makes_entry, past_of, starts_of}
use Rattle.world_run.specs.Linked.{FilesLinked, KeyLinked, LinkedWorld, Replied, given}
use Rattle.world_run.specs.Promise.{In}
use Rattle.world_run.specs.Step.{finish_line}
use Rattle.world_run.specs.World.{WorldState}
use Rattle.world_run.proofs.CoveredCalls.{CoversNames, op-covers}
use Rattle.world_run.proofs.CoveredEnds.{begins-drawn, begins-with, covered-begun}
use Rattle.world_run.proofs.CoveredKeys.{covered-entry, files-none}
use Rattle.world_run.proofs.CoveredOps.{IsUnentered, covered-file, covered-zone}
use Rattle.world_run.proofs.CoveredWalks.{itself}
use Rattle.world_run.proofs.FinishLemmas.{Answered, open-in, submit-has-key, with_entry}
use Rattle.world_run.proofs.RowLemmas.{one-of-id}
use Rattle.world_run.proofs.SettledLemmas.{IsSettled, is-settled}
use Rattle.world_run.proofs.SettledRows.{settled-same}

-- what is hidden of earlier runs, with the entry of a finish or without it, if the files of its zone are those of this table
abbrev pub entered_past : Bool → ℕ → Option Draw → NameTable → Past → Past
entered_past enter id o begun past = record past { ledger = with_entry enter id o past.ledger; starts = past.starts ++ starts_of begun (entered enter (entry_under id o)) }

-- nothing is entered
pub unentered-covers : (past : Past) (keys : List KeyRow) (t : NameTable) (walks : List WalkState) → CoveredBy past keys t walks → CoveredBy (record past { ledger = past.ledger ++ []; starts = past.starts ++ [] }) keys t walks
unentered-covers past keys t walks c = subst (λ (x : Past). CoveredBy x keys t walks) (λ i. record past { ledger = sym (append-nil past.ledger) i; starts = sym (append-nil past.starts) i }) c

-- no re-encryption has an id without an entry
none-under : (ledger : Ledger) (keys : List KeyRow) (t : NameTable) (id : ℕ) → FilesLinked ledger keys t → IsUnentered ledger id → (s : StatusRow) → In s t.statuses → s.session ≡ id → ⊥
none-under ledger keys t id linked fresh s i same = let n = linked.statuses s i in fresh n.draw (subst (λ (x : ℕ). In (x, n.draw) ledger) same n.entered)

-- each file of the zone has a draw
abbrev pub StartDrawn : Ledger → NameTable → ℕ → Type 0
StartDrawn ledger begun id = (n : ℕ) → In n (files_under begun id) → (e : Draw) × In (n, e) ledger

none-drawn : (ledger : Ledger) (t : NameTable) (id : ℕ) → ((s : StatusRow) → In s t.statuses → s.session ≡ id → ⊥) → StartDrawn ledger t id
none-drawn ledger t id none n i = absurd (subst (In n) (files-none t id none) i)

module _ (past : Past) (keys : List KeyRow) (id : ℕ) (o : Option Draw) (fresh : IsUnentered past.ledger id) where
  -- another table
  pub entry-covers : (enter : Bool) (begun u : NameTable) (walks : List WalkState) → ((s : StatusRow) → In s u.statuses → s.session ≡ id → ⊥) → StartDrawn past.ledger begun id → CoveredBy past keys u walks
      → CoveredBy (entered_past enter id o begun past) keys u walks
  entry-covers false begun u walks none drawn c = unentered-covers past keys u walks c
  entry-covers true begun u walks none drawn c = go o
    where
      go : (d : Option Draw) → CoveredBy (entered_past true id d begun past) keys u walks
      go None = unentered-covers past keys u walks c
      go (Some d) = covered-entry past id d (files_under begun id) keys u walks none drawn c

  -- a table that is linked
  pub linked-drawn : (t : NameTable) → FilesLinked past.ledger keys t → StartDrawn past.ledger t id
  linked-drawn t linked = none-drawn past.ledger t id (none-under past.ledger keys t id linked fresh)

  -- and a table after the operation of a finish
  pub after-drawn : (t : NameTable) (edek : Option Edek) (x : Ask) → FilesLinked past.ledger keys t → StartDrawn past.ledger (after_table t (finish_op id edek x)) id
  after-drawn t edek (ask.Create p) linked = none-drawn past.ledger (after_table t (op.File id p edek)) id (none-under past.ledger keys t id linked fresh)
  after-drawn t edek (ask.Zone p key) linked = none-drawn past.ledger (after_table t (op.Zone p key)) id (none-under past.ledger keys t id linked fresh)
  after-drawn t edek (ask.Submit p) linked = begins-drawn past keys t id p (noted_of edek) linked fresh

-- the files of the zone that is submitted, if they are those of another table
abbrev pub StartLies : NameTable → NameTable → ℕ → Ask → Type 0
StartLies t begun id (ask.Create p) = Unit {0}
StartLies t begun id (ask.Zone p key) = Unit {0}
StartLies t begun id (ask.Submit p) = (x : Entry) → In x t.rows → In x.row.id (files_under begun id) → is_file_of t.rows (id_at t.rows p) x ≡ true

-- the operation of a finish that nothing stops
module _ (past : Past) (keys : List KeyRow) (s : NameState) (is : IsSettled past keys s) (a : OpenAsk) (o : Option Draw) (edek : Option Edek) (fresh : IsUnentered past.ledger a.id) (linked : KeyLinked keys edek o) where
  begins-here : (x : Ask) → StartLies s.table (after_table s.table (finish_op a.id edek x)) a.id x
  begins-here (ask.Create p) = tt
  begins-here (ask.Zone p key) = tt
  begins-here (ask.Submit p) = λ x i m.
      let y = begins-with past keys s.table a.id p (noted_of edek) is.files fresh x.row.id m in
      subst (λ (z : Entry). is_file_of s.table.rows (id_at s.table.rows p) z ≡ true) (one-of-id s.table.rows is.rows y.0 x y.1 i (sym y.3)) y.2

  submit-covers : (p : List (List ℕ)) (e : Edek) (q : Option Draw) (begun : NameTable) → KeyLinked keys (Some e) q → StartDrawn past.ledger begun a.id → StartLies s.table begun a.id (ask.Submit p)
      → CoveredBy (entered_past true a.id q begun past) keys (after_table s.table (op.Submit a.id p e.version)) s.walks
  submit-covers p e None begun none drawn lies = absurd none
  submit-covers p e (Some d) begun k drawn lies = covered-begun past keys s.table s.walks a.id p e.version d is.files fresh (files_under begun a.id) lies drawn is.covered

  op-applied-covers : (x : Ask) (enter : Bool) (begun : NameTable) → first_cause (finish_causes s.table.rows s.table.statuses a edek x) ≡ None → allows s.table (finish_op a.id edek x) ≡ true
      → (makes_entry a.id (Some (finish_op a.id edek x)) ≡ true → enter ≡ true) → StartDrawn past.ledger begun a.id → StartLies s.table begun a.id x
      → CoveredBy (entered_past enter a.id o begun past) keys (after_table s.table (finish_op a.id edek x)) s.walks
  op-applied-covers (ask.Create p) enter begun free may enters drawn lies =
      entry-covers past keys a.id o fresh enter begun (after_table s.table (op.File a.id p edek)) s.walks (none-under past.ledger keys s.table a.id is.files fresh) drawn
      (covered-file past keys s.table s.walks is.rows is.statuses a.id p edek may fresh is.covered)
  op-applied-covers (ask.Zone p key) enter begun free may enters drawn lies =
      entry-covers past keys a.id o fresh enter begun (after_table s.table (op.Zone p key)) s.walks (none-under past.ledger keys s.table a.id is.files fresh) drawn
      (covered-zone past keys s.table s.walks is.rows is.statuses p key may is.covered)
  op-applied-covers (ask.Submit p) enter begun free may enters drawn lies = go edek refl
    where
      go : (e : Option Edek) → edek ≡ e → CoveredBy (entered_past enter a.id o begun past) keys (after_table s.table (finish_op a.id edek (ask.Submit p))) s.walks
      go None none = absurd (submit-has-key s.table.rows s.table.statuses a p (subst (λ (k : Option Edek). first_cause (finish_causes s.table.rows s.table.statuses a k (ask.Submit p)) ≡ None) none free))
      go (Some e) some =
          subst (λ (b : Bool). CoveredBy (entered_past b a.id o begun past) keys (after_table s.table (finish_op a.id edek (ask.Submit p))) s.walks) (sym (enters (itself a.id)))
          (subst (λ (k : Option Edek). CoveredBy (entered_past true a.id o begun past) keys (after_table s.table (finish_op a.id k (ask.Submit p))) s.walks) (sym some)
          (submit-covers p e o begun (subst (λ (k : Option Edek). KeyLinked keys k o) some linked) drawn lies))

finish-walks : (sent : Option (List Sent)) (id : ℕ) (edek : Option Edek) (x : Ask) (walks : List WalkState) → walks_after sent (finish_op id edek x) walks ≡ walks
finish-walks sent id edek (ask.Create p) walks = refl
finish-walks sent id edek (ask.Zone p key) walks = refl
finish-walks sent id edek (ask.Submit p) walks = refl

-- a finish with this answer, and this state after it
abbrev pub FinishCovers : WorldState → Hidden → ℕ → Option Draw → Result (Unit {0}) NameRefusal → NameService → Type 0
FinishCovers w h id o result names = CoversNames (entered_past (enters id (finish_line result) names) id o (settled true names).table (past_of h)) w.keys.keys.table.rows names

-- the state after it is replaced by an equal one
ends-cover : (w : WorldState) (h : Hidden) (id : ℕ) (o : Option Draw) (result outcome : Result (Unit {0}) NameRefusal) (left names : NameService) → outcome ≡ result → names ≡ left → FinishCovers w h id o result left → FinishCovers w h id o outcome names
ends-cover w h id o result outcome left names same is c =
    subst (λ (r : Result (Unit {0}) NameRefusal). FinishCovers w h id o r names) (sym same) (subst (λ (n : NameService). FinishCovers w h id o result n) (sym is) c)

module _ (w : WorldState) (h : Hidden) (answer : KeyAnswer) (o : Option Draw) (a : OpenAsk) (fit : IsNames w.names) (l : LinkedWorld w h) (answered : Answered w h a a.id answer o) where
  abbrev past : Past
  past = past_of h

  abbrev keys : List KeyRow
  keys = w.keys.keys.table.rows

  pub ask-unentered : IsUnentered past.ledger a.id
  ask-unentered d i = l.draws.ledger.not_open a d (open-in w.names.names.asks a.id a answered.opened).0 i

  -- the earlier table, with the pending operation or without it
  pub before-covers : (enter : Bool) (begun : NameTable) (k : Bool) → StartDrawn past.ledger begun a.id → CoveredBy (entered_past enter a.id o begun past) keys (settled k w.names).table (settled k w.names).walks
  before-covers enter begun k drawn =
      entry-covers past keys a.id o ask-unentered enter begun (settled k w.names).table (settled k w.names).walks (none-under past.ledger keys (settled k w.names).table a.id (l.draws.files k) ask-unentered) drawn (l.covered k)

  key-linked : (edek : Option Edek) → answer ≡ Given edek → KeyLinked keys edek o
  key-linked edek said = subst (λ (x : KeyAnswer). KeyLinked keys (given x) o) said (l.draws.replies.keys_open (ToAsk a.id answer) o answered.at)

  finish-allowed : (k : Bool) (edek : Option Edek) → first_cause (finish_causes (settled k w.names).table.rows (settled k w.names).table.statuses a edek a.ask) ≡ None → allows (settled k w.names).table (finish_op a.id edek a.ask) ≡ true
  finish-allowed k edek free =
      let is = is-settled w h k fit l in
      allowed-finish (settled k w.names) a.id a edek is.opened is.few is.ids is.recent answered.opened free

  -- the table after its operation
  pub applied-covers : (k : Bool) (edek : Option Edek) (enter : Bool) (begun : NameTable) → answer ≡ Given edek → first_cause (finish_causes (settled k w.names).table.rows (settled k w.names).table.statuses a edek a.ask) ≡ None
      → (makes_entry a.id (Some (finish_op a.id edek a.ask)) ≡ true → enter ≡ true) → StartDrawn past.ledger begun a.id → StartLies (settled k w.names).table begun a.id a.ask
      → CoveredBy (entered_past enter a.id o begun past) keys (after_table (settled k w.names).table (finish_op a.id edek a.ask)) (settled k w.names).walks
  applied-covers k edek enter begun said free enters drawn lies =
      op-applied-covers past keys (settled k w.names) (is-settled w h k fit l) a o edek ask-unentered (key-linked edek said) a.ask enter begun free (finish-allowed k edek free) enters drawn lies

  pub own-drawn : (k : Bool) (edek : Option Edek) → StartDrawn past.ledger (after_table (settled k w.names).table (finish_op a.id edek a.ask)) a.id
  own-drawn k edek = after-drawn past keys a.id o ask-unentered (settled k w.names).table edek a.ask (l.draws.files k)

  own-applied : (k : Bool) (edek : Option Edek) (enter : Bool) → answer ≡ Given edek → first_cause (finish_causes (settled k w.names).table.rows (settled k w.names).table.statuses a edek a.ask) ≡ None
      → (makes_entry a.id (Some (finish_op a.id edek a.ask)) ≡ true → enter ≡ true)
      → CoveredBy (entered_past enter a.id o (after_table (settled k w.names).table (finish_op a.id edek a.ask)) past) keys (after_table (settled k w.names).table (finish_op a.id edek a.ask)) (settled k w.names).walks
  own-applied k edek enter said free enters =
      applied-covers k edek enter (after_table (settled k w.names).table (finish_op a.id edek a.ask)) said free enters (own-drawn k edek)
      (begins-here past keys (settled k w.names) (is-settled w h k fit l) a o edek ask-unentered (key-linked edek said) a.ask)

  pub earlier-drawn : (k : Bool) → StartDrawn past.ledger (settled k w.names).table a.id
  earlier-drawn k = linked-drawn past keys a.id o ask-unentered (settled k w.names).table (l.draws.files k)

  written-covers : (k : Bool) (edek : Option Edek) (result : Result (Unit {0}) NameRefusal) (changed : NameState) → answer ≡ Given edek → Finishes (settled k w.names) a edek result changed
      → FinishCovers w h a.id o result (record { names = changed; pending = None })
  written-covers k edek result changed said (NoRoom, may, is) =
      subst (λ (x : FinishOutcome). FinishCovers w h a.id o x.reply (record { names = x.state; pending = None })) (sym is) (λ kept. unentered-covers past keys (settled k w.names).table (settled k w.names).walks (l.covered k))
  written-covers k edek result changed said (Plain, may, is) =
      subst (λ (x : FinishOutcome). FinishCovers w h a.id o x.reply (record { names = x.state; pending = None })) (sym is) (go (first_cause (finish_causes (settled k w.names).table.rows (settled k w.names).table.statuses a edek a.ask)) refl)
    where
      walks-stay : (settled k w.names).walks ≡ walks_after (settled k w.names).updating (finish_op a.id edek a.ask) (settled k w.names).walks
      walks-stay = sym (finish-walks (settled k w.names).updating a.id edek a.ask (settled k w.names).walks)

      go : (c : Option NameRefusal) → first_cause (finish_causes (settled k w.names).table.rows (settled k w.names).table.statuses a edek a.ask) ≡ c
          → FinishCovers w h a.id o (unless_stopped c (settled k w.names) a edek).reply (record { names = (unless_stopped c (settled k w.names) a edek).state; pending = None })
      go (Some why) cause = λ kept. before-covers (enters a.id (line.Refused why) (record { names = closed (settled k w.names) a.id; pending = None })) (settled k w.names).table k (earlier-drawn k)
      go None free = λ kept.
          subst (CoveredBy (entered_past true a.id o (after_table (settled k w.names).table (finish_op a.id edek a.ask)) past) keys (after_table (settled k w.names).table (finish_op a.id edek a.ask))) walks-stay
          (own-applied k edek true said free (λ e. refl))

  -- the operation is left pending
  unwritten-covers : (k : Bool) (edek : Option Edek) → answer ≡ Given edek → first_cause (finish_causes (settled k w.names).table.rows (settled k w.names).table.statuses a edek a.ask) ≡ None
      → FinishCovers w h a.id o (Err refusal.StoreFault) (record { names = closed (settled k w.names) a.id; pending = Some (finish_op a.id edek a.ask) })
  unwritten-covers k edek said free =
      (op-covers (entered_past enter a.id o after past) keys (closed (settled k w.names) a.id) (finish_op a.id edek a.ask) (before-covers enter after k (own-drawn k edek))
      (subst (CoveredBy (entered_past enter a.id o after past) keys after) (sym (finish-walks (settled k w.names).updating a.id edek a.ask (settled k w.names).walks)) (own-applied k edek enter said free (λ e. e)))).1
    where
      enter : Bool
      enter = makes_entry a.id (Some (finish_op a.id edek a.ask))

      after : NameTable
      after = after_table (settled k w.names).table (finish_op a.id edek a.ask)

  -- the ask is closed, and the pending operation is still pending
  closed-covers : (enter : Bool) → CoversNames (entered_past enter a.id o (settled true w.names).table past) keys (closed_service w.names a)
  closed-covers enter = λ kept. before-covers enter (settled true w.names).table kept (earlier-drawn true)

  pub open-covers : (gave : KeyAnswer) (fault : Type 0) (result : Result (Unit {0}) NameRefusal) (ops : List EditOp) (names : NameService) → answer ≡ gave → FinishServesOpen w.names a gave fault result ops names → FinishCovers w h a.id o result names
  open-covers (Refused why) fault result ops names said e = ends-cover w h a.id o (Err (refusal.KeyRefused why)) result (closed_service w.names a) names e.reply_is e.left_is (closed-covers false)
  open-covers (Given edek) fault result ops names said (inl u) =
      ends-cover w h a.id o (Err refusal.StoreFault) result (closed_service w.names a) names u.ends.reply_is u.ends.left_is (closed-covers (makes_entry a.id w.names.pending))
  open-covers (Given edek) fault result ops names said (inr (k, inl d)) =
      ends-cover w h a.id o result result (record { names = d.changed; pending = None }) names refl d.left (written-covers k edek result d.changed said d.finishes)
  open-covers (Given edek) fault result ops names said (inr (k, inr u)) =
      ends-cover w h a.id o (Err refusal.StoreFault) result (record { names = closed (settled k w.names) a.id; pending = Some (finish_op a.id edek a.ask) }) names u.reply_is u.left
      (unwritten-covers k edek said u.free)

  -- the files that the submission of a finish begins with have draws
  written-drawn : (k : Bool) (edek : Option Edek) (result : Result (Unit {0}) NameRefusal) (changed : NameState) → Finishes (settled k w.names) a edek result changed → StartDrawn past.ledger changed.table a.id
  written-drawn k edek result changed (NoRoom, may, is) = subst (λ (x : FinishOutcome). StartDrawn past.ledger x.state.table a.id) (sym is) (earlier-drawn k)
  written-drawn k edek result changed (Plain, may, is) =
      subst (λ (x : FinishOutcome). StartDrawn past.ledger x.state.table a.id) (sym is) (go (first_cause (finish_causes (settled k w.names).table.rows (settled k w.names).table.statuses a edek a.ask)))
    where
      go : (c : Option NameRefusal) → StartDrawn past.ledger (unless_stopped c (settled k w.names) a edek).state.table a.id
      go (Some why) = earlier-drawn k
      go None = own-drawn k edek

  pub open-drawn : (gave : KeyAnswer) (fault : Type 0) (result : Result (Unit {0}) NameRefusal) (ops : List EditOp) (names : NameService) → FinishServesOpen w.names a gave fault result ops names → StartDrawn past.ledger (settled true names).table a.id
  open-drawn (Refused why) fault result ops names e = subst (λ (n : NameService). StartDrawn past.ledger (settled true n).table a.id) (sym e.left_is) (earlier-drawn true)
  open-drawn (Given edek) fault result ops names (inl u) = subst (λ (n : NameService). StartDrawn past.ledger (settled true n).table a.id) (sym u.ends.left_is) (earlier-drawn true)
  open-drawn (Given edek) fault result ops names (inr (k, inl d)) =
      subst (λ (n : NameService). StartDrawn past.ledger (settled true n).table a.id) (sym d.left) (written-drawn k edek result d.changed d.finishes)
  open-drawn (Given edek) fault result ops names (inr (k, inr u)) = subst (λ (n : NameService). StartDrawn past.ledger (settled true n).table a.id) (sym u.left) (own-drawn k edek)

-- the files of the zone that is submitted, whether the pending operation was kept or dropped

-- the zone at the path of its directory
root-zone : (rows : List Entry) (p : List (List ℕ)) → first_cause (zone_root_causes rows p) ≡ None → zone_id rows p ≡ Some (id_at rows p)
root-zone rows p free =
    let root = zone-root rows p free in
    let m = marked-row rows p root.key root.marked in
    let z = zone-at rows p m.row m.stands (ap is_some m.mark) in
    ap (option_map (λ (e : Entry). e.row.id)) z.found ∙ ap (λ (r : Row). Some r.id) z.its_row ∙ sym (ap (λ (r : Option Row). Some (id_of r)) m.stands)

one-zone : (a b : ℕ) (o : Option ℕ) → same_id (Some a) o ≡ true → same_id (Some b) o ≡ true → a ≡ b
one-zone a b None h k = absurd cc
one-zone a b (Some c) h k = eqb-true a c h ∙ sym (eqb-true b c k)

module _ (w : WorldState) (h : Hidden) (answer : KeyAnswer) (o : Option Draw) (a : OpenAsk) (fit : IsNames w.names) (l : LinkedWorld w h) (answered : Answered w h a a.id answer o) where
  -- the zone of a submission that nothing stops is that of the ask
  asked-zone : (k : Bool) (edek : Option Edek) (p : List (List ℕ)) → first_cause (finish_causes (settled k w.names).table.rows (settled k w.names).table.statuses a edek (ask.Submit p)) ≡ None → a.ask ≡ ask.Submit p
      → same_id (Some (id_at (settled k w.names).table.rows p)) a.zone ≡ true
  asked-zone k edek p free is =
      let may = may-submit (settled k w.names).table.rows (settled k w.names).table.statuses a edek p free in
      let path : path_asked a.ask ≡ p = ap path_asked is in
      ap (λ (z : Option ℕ). same_id z a.zone) (sym (root-zone (settled k w.names).table.rows p may.root))
      ∙ ap (λ (q : List (List ℕ)). same_id (zone_id (settled k w.names).table.rows q) a.zone) (sym path)
      ∙ not-false (same_id (zone_id (settled k w.names).table.rows (path_asked a.ask)) a.zone) may.same_zone

  submit-lies : (k j : Bool) (edek other : Option Edek) (p : List (List ℕ)) → a.ask ≡ ask.Submit p
      → first_cause (finish_causes (settled k w.names).table.rows (settled k w.names).table.statuses a edek (ask.Submit p)) ≡ None → first_cause (finish_causes (settled j w.names).table.rows (settled j w.names).table.statuses a other (ask.Submit p)) ≡ None
      → StartLies (settled k w.names).table (after_table (settled j w.names).table (op.Submit a.id p (noted_of other))) a.id (ask.Submit p)
  submit-lies k j edek other p is free also x i m =
      let fresh = ask-unentered w h answer o a fit l answered in
      let t : NameTable = (settled j w.names).table in
      let y = begins-with (past_of h) w.keys.keys.table.rows t a.id p (noted_of other) (l.draws.files j) fresh x.row.id m in
      let d = begins-drawn (past_of h) w.keys.keys.table.rows t a.id p (noted_of other) (l.draws.files j) fresh x.row.id m in
      let zone : id_at t.rows p ≡ id_at (settled k w.names).table.rows p = one-zone (id_at t.rows p) (id_at (settled k w.names).table.rows p) a.zone (asked-zone j other p also is) (asked-zone k edek p free is) in
      subst (λ (z : ℕ). is_file_of (settled k w.names).table.rows z x ≡ true) zone (sym (settled-same w.names d.0 k j fit (id_at t.rows p) x y.0 i y.1 y.3) ∙ y.2)

  -- a table without the re-encryption
  none-lies : (t begun : NameTable) → ((s : StatusRow) → In s begun.statuses → s.session ≡ a.id → ⊥) → (x : Ask) → StartLies t begun a.id x
  none-lies t begun none (ask.Create p) = tt
  none-lies t begun none (ask.Zone p key) = tt
  none-lies t begun none (ask.Submit p) = λ x i m. absurd (subst (In x.row.id) (files-none begun a.id none) m)

  earlier-lies : (t : NameTable) (j : Bool) → StartLies t (settled j w.names).table a.id a.ask
  earlier-lies t j =
      none-lies t (settled j w.names).table (none-under (past_of h).ledger w.keys.keys.table.rows (settled j w.names).table a.id (l.draws.files j) (ask-unentered w h answer o a fit l answered)) a.ask

  own-lies : (k j : Bool) (edek other : Option Edek) (x : Ask) → a.ask ≡ x → first_cause (finish_causes (settled k w.names).table.rows (settled k w.names).table.statuses a edek x) ≡ None
      → first_cause (finish_causes (settled j w.names).table.rows (settled j w.names).table.statuses a other x) ≡ None → StartLies (settled k w.names).table (after_table (settled j w.names).table (finish_op a.id other x)) a.id x
  own-lies k j edek other (ask.Create p) is free also = tt
  own-lies k j edek other (ask.Zone p key) is free also = tt
  own-lies k j edek other (ask.Submit p) is free also = submit-lies k j edek other p is free also

  written-lies : (k j : Bool) (edek other : Option Edek) (result : Result (Unit {0}) NameRefusal) (changed : NameState) → first_cause (finish_causes (settled k w.names).table.rows (settled k w.names).table.statuses a edek a.ask) ≡ None
      → Finishes (settled j w.names) a other result changed → StartLies (settled k w.names).table changed.table a.id a.ask
  written-lies k j edek other result changed free (NoRoom, may, is) = subst (λ (x : FinishOutcome). StartLies (settled k w.names).table x.state.table a.id a.ask) (sym is) (earlier-lies (settled k w.names).table j)
  written-lies k j edek other result changed free (Plain, may, is) =
      subst (λ (x : FinishOutcome). StartLies (settled k w.names).table x.state.table a.id a.ask) (sym is) (go (first_cause (finish_causes (settled j w.names).table.rows (settled j w.names).table.statuses a other a.ask)) refl)
    where
      go : (c : Option NameRefusal) → first_cause (finish_causes (settled j w.names).table.rows (settled j w.names).table.statuses a other a.ask) ≡ c
          → StartLies (settled k w.names).table (unless_stopped c (settled j w.names) a other).state.table a.id a.ask
      go (Some why) cause = earlier-lies (settled k w.names).table j
      go None also = own-lies k j edek other a.ask refl free also

  pub open-lies : (k : Bool) (edek : Option Edek) (gave : KeyAnswer) (fault : Type 0) (result : Result (Unit {0}) NameRefusal) (ops : List EditOp) (names : NameService)
      → first_cause (finish_causes (settled k w.names).table.rows (settled k w.names).table.statuses a edek a.ask) ≡ None → FinishServesOpen w.names a gave fault result ops names → StartLies (settled k w.names).table (settled true names).table a.id a.ask
  open-lies k edek (Refused why) fault result ops names free e = subst (λ (n : NameService). StartLies (settled k w.names).table (settled true n).table a.id a.ask) (sym e.left_is) (earlier-lies (settled k w.names).table true)
  open-lies k edek (Given other) fault result ops names free (inl u) = subst (λ (n : NameService). StartLies (settled k w.names).table (settled true n).table a.id a.ask) (sym u.ends.left_is) (earlier-lies (settled k w.names).table true)
  open-lies k edek (Given other) fault result ops names free (inr (j, inl d)) =
      subst (λ (n : NameService). StartLies (settled k w.names).table (settled true n).table a.id a.ask) (sym d.left) (written-lies k j edek other result d.changed free d.finishes)
  open-lies k edek (Given other) fault result ops names free (inr (j, inr u)) =
      subst (λ (n : NameService). StartLies (settled k w.names).table (settled true n).table a.id a.ask) (sym u.left) (own-lies k j edek other a.ask refl free u.free)

-- an open ask that a kept reply answers, by the ask's own id
pub own-answered : (w : WorldState) (h : Hidden) (id : ℕ) (answer : KeyAnswer) (o : Option Draw) (a : OpenAsk) → open_ask w.names.names.asks id ≡ Some a → Replied w.kept.replies h.replied (ToAsk id answer) o → Answered w h a a.id answer o
own-answered w h id answer o a found at =
    let same = (open-in w.names.names.asks id a found).1 in
    record { opened = ap (open_ask w.names.names.asks) same ∙ found; at = subst (λ (n : ℕ). Replied w.kept.replies h.replied (ToAsk n answer) o) (sym same) at }

-- a finish of the ask with this id
pub finishes-cover : (w : WorldState) (h : Hidden) (id : ℕ) (answer : KeyAnswer) (o : Option Draw) (fault : Type 0) (result : Result (Unit {0}) NameRefusal) (ops : List EditOp) (names : NameService) → IsNames w.names → LinkedWorld w h
    → Replied w.kept.replies h.replied (ToAsk id answer) o → FinishServes w.names id answer fault result ops names → FinishCovers w h id o result names
finishes-cover w h id answer o fault result ops names fit l at serves = go (open_ask w.names.names.asks id) refl serves
  where
    go : (q : Option OpenAsk) → open_ask w.names.names.asks id ≡ q → FinishServesAt w.names q answer fault result ops names → FinishCovers w h id o result names
    go None gone e =
        ends-cover w h id o (Err (ask_gone w.names.names)) result w.names names e.reply_is e.left_is (λ kept. unentered-covers (past_of h) w.keys.keys.table.rows (settled kept w.names).table (settled kept w.names).walks (l.covered kept))
    go (Some a) found s =
        subst (λ (n : ℕ). FinishCovers w h n o result names) (open-in w.names.names.asks id a found).1
        (open-covers w h answer o a fit l (own-answered w h id answer o a found at) answer fault result ops names refl s)
