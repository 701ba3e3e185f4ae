-- What a table covers stays covered under later keys, and with one more entry of the ledger.
use Rattle.std.proofs.Common.{◌≡◌, ◌⊎◌, inl, inr, ℕ, Bool, true, false, cond, List, [], ◌∷◌, ◌++◌, Some, find, refl, sym, ap, subst, arith}
use Rattle.std.specs.Prelude.{◌==◌}
use Rattle.std.specs.Option.{option_map_or}
use Rattle.std.proofs.lemmas.Bool.Decides.{nat_tests}
use Rattle.key_rows.specs.declared.rows.KeyRow.{KeyRow}
use Rattle.inode_tree.specs.Rows.{Entry}
use Rattle.reenc_walk.specs.Walks.{WalkState}
use Rattle.zone_table.specs.declared.statuses.StatusRow.{StatusRow}
use Rattle.name_store.specs.Table.{NameTable}
use Rattle.name_core.specs.Walks.{walk_of}
use Rattle.world_run.specs.Covered.{CoveredBy, WalkCovered}
use Rattle.world_run.specs.Ledger.{Draw, Ledger, Past, files_of_zone, files_under, is_session}
use Rattle.world_run.specs.Promise.{In, IsInForce, WasThere}
use Rattle.world_run.proofs.Laters.{LaterAt}
use Rattle.world_run.proofs.Members.{in-left, in-more, in-right}

-- later keys

counts-before : (ledger : Ledger) (olds rows : List KeyRow) (s : StatusRow) → ((id : ℕ) (d : Draw) → In (id, d) ledger → LaterAt olds rows d.birth) → IsInForce ledger rows s → IsInForce ledger olds s
counts-before ledger olds rows s later c =
    let old = later s.session c.draw c.entered c.row c.stands c.born in
    record { uncancelled = c.uncancelled; draw = c.draw; entered = c.entered; row = old.0; stands = old.1; born = old.2 }

-- each key of a birth that a draw of the ledger has was there
pub covered-keys : (past : Past) (olds rows : List KeyRow) (t : NameTable) (walks : List WalkState) → ((id : ℕ) (d : Draw) → In (id, d) past.ledger → LaterAt olds rows d.birth) → CoveredBy past olds t walks → CoveredBy past rows t walks
covered-keys past olds rows t walks later c = record {
  going_on = λ s x i counts. c.going_on s x i (counts-before past.ledger olds rows s later counts);
  completed = λ s x i counts. c.completed s x i (counts-before past.ledger olds rows s later counts);
  still_sent = λ s x b y i counts. c.still_sent s x b y i (counts-before past.ledger olds rows s later counts);
  walks_fit = c.walks_fit;
  in_zone = c.in_zone;
  uncancelled = c.uncancelled;
  sessions = c.sessions;
  files = c.files;
  begun = c.begun;
}

-- more words drawn
pub covered-place : (past : Past) (place : ℕ) (keys : List KeyRow) (t : NameTable) (walks : List WalkState) → CoveredBy past keys t walks → CoveredBy (record past { place = place }) keys t walks
covered-place past place keys t walks c = record {
  going_on = c.going_on;
  completed = c.completed;
  still_sent = c.still_sent;
  walks_fit = c.walks_fit;
  in_zone = c.in_zone;
  uncancelled = c.uncancelled;
  sessions = c.sessions;
  files = c.files;
  begun = c.begun;
}

-- one more entry of the ledger

-- the past with this draw for an id, and the files that its re-encryption began with
abbrev pub with_entry : ℕ → Draw → List ℕ → Past → Past
with_entry id d ids past = record past { ledger = past.ledger ++ (id, d) ∷ []; starts = past.starts ++ (id, ids) ∷ [] }

module _ (past : Past) (id : ℕ) (d : Draw) (ids : List ℕ) where
  drawn-too : (n : ℕ) → (e : Draw) × In (n, e) past.ledger → (e : Draw) × In (n, e) (with_entry id d ids past).ledger
  drawn-too n e = (e.0, in-left (n, e.0) past.ledger ((id, d) ∷ []) e.1)

  started-before : (session : ℕ) (others : List ℕ) → In (session, others) (with_entry id d ids past).starts → In (session, others) past.starts ⊎ ((session ≡ id) × (others ≡ ids))
  started-before session others i =
      elim (in-more (session, others) (id, ids) past.starts i) [ inl old ↦ inl old | inr is ↦ inr (ap (λ (e : ℕ × List ℕ). e.0) is, ap (λ (e : ℕ × List ℕ). e.1) is) ]

  there-before : (session x : ℕ) → (session ≡ id → ⊥) → WasThere (with_entry id d ids past).starts session x → WasThere past.starts session x
  there-before session x other (others, i, j) = elim (started-before session others i) [ inl old ↦ (others, old, j) | inr is ↦ absurd (other is.0) ]

  counts-too : (keys : List KeyRow) (s : StatusRow) → (s.session ≡ id → ⊥) → IsInForce (with_entry id d ids past).ledger keys s → IsInForce past.ledger keys s
  counts-too keys s other c = record { uncancelled = c.uncancelled; draw = c.draw; entered = old; row = c.row; stands = c.stands; born = c.born }
    where
      old : In (s.session, c.draw) past.ledger
      old = elim (in-more (s.session, c.draw) (id, d) past.ledger c.entered) [ inl i ↦ i | inr is ↦ absurd (other (ap (λ (e : ℕ × Draw). e.0) is)) ]

  walk-too : (rows : List Entry) (s : StatusRow) (w : WalkState) → WalkCovered past.ledger rows s w → WalkCovered (with_entry id d ids past).ledger rows s w
  walk-too rows s w c = record {
    not_before_mark = c.not_before_mark;
    after_mark = c.after_mark;
    up_to_cursor = c.up_to_cursor;
    some_file = c.some_file;
    entered = λ b y i j. drawn-too y.id (c.entered b y i j);
    in_order = c.in_order;
    up_to_last = c.up_to_last;
    none_shared = c.none_shared;
  }

  -- no status has the id, and each of the files has a draw
  pub covered-entry : (keys : List KeyRow) (t : NameTable) (walks : List WalkState) → ((s : StatusRow) → In s t.statuses → s.session ≡ id → ⊥) → ((n : ℕ) → In n ids → (e : Draw) × In (n, e) past.ledger)
      → CoveredBy past keys t walks → CoveredBy (with_entry id d ids past) keys t walks
  covered-entry keys t walks other drawn c = record {
    going_on = λ s x i counts going j there. c.going_on s x i (counts-too keys s (other s i) counts) going j (there-before s.session x.row.id (other s i) there);
    completed = λ s x i counts over j there. c.completed s x i (counts-too keys s (other s i) counts) over j (there-before s.session x.row.id (other s i) there);
    still_sent = λ s x b y i counts. c.still_sent s x b y i (counts-too keys s (other s i) counts);
    walks_fit = λ s i going. walk-too t.rows s (walk_of walks s) (c.walks_fit s i going);
    in_zone = λ s x i j there. c.in_zone s x i j (there-before s.session x.row.id (other s i) there);
    uncancelled = c.uncancelled;
    sessions = λ session others i. elim (started-before session others i) [
      | inl old ↦ drawn-too session (c.sessions session others old)
      | inr is ↦ (d, subst (λ (n : ℕ). In (n, d) (with_entry id d ids past).ledger) (sym is.0) (in-right (id, d) past.ledger ((id, d) ∷ []) (inl refl)))
    ];
    files = λ session others n i j. elim (started-before session others i) [
      | inl old ↦ drawn-too n (c.files session others n old j)
      | inr is ↦ drawn-too n (drawn n (subst (In n) is.1 j))
    ];
    begun = λ w i. drawn-too w.session (c.begun w i);
  }

-- no zone is re-encrypted under the id of a file
pub files-none : (t : NameTable) (id : ℕ) → ((s : StatusRow) → In s t.statuses → s.session ≡ id → ⊥) → files_under t id ≡ []
files-none t id other = go t.statuses other
  where
    same : (a b : ℕ) → (a == b) ≡ true → a ≡ b
    same a b h = grind (arith, nat_tests)

    go : (ss : List StatusRow) → ((s : StatusRow) → In s ss → s.session ≡ id → ⊥) → option_map_or (λ (s : StatusRow). files_of_zone t.rows s.zone) (find (is_session id) ss) [] ≡ []
    go [] none = refl
    go (s ∷ ss) none = by (s.session == id) refl (go ss (λ u i. none u (inr i)))
      where
        by : (b : Bool) → (s.session == id) ≡ b → option_map_or (λ (u : StatusRow). files_of_zone t.rows u.zone) (find (is_session id) ss) [] ≡ []
            → option_map_or (λ (u : StatusRow). files_of_zone t.rows u.zone) (cond b (Some s) (find (is_session id) ss)) [] ≡ []
        by true is ih = absurd (none s (inl refl) (same s.session id is))
        by false is ih = ih
