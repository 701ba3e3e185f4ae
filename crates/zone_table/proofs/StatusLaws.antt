-- The statuses fit the rows of a tree after each change of either.
use Rattle.std.proofs.Common.{◌≡◌, ℕ, Bool, true, false, not, cond, List, [], ◌∷◌, map, Option, Some, None, refl, sym, ap, ◌∙◌}
use Rattle.std.specs.Prelude.{◌==◌}
use Rattle.std.specs.List.{All}
use Rattle.std.specs.Option.{option_and_then, option_map, option_map_or}
use Rattle.std.proofs.lemmas.List.Elements.{All-cons, All-head, All-map, All-nil, All-tail, All-weaker, recursion_from_All}
use Rattle.std.proofs.lemmas.Bool.{eqb-true}
use Rattle.hk_base.specs.declared.names.KeyName.{KeyName}
use Rattle.inode_tree.specs.declared.rows.Kind.{Kind}
use Rattle.name_calls.specs.declared.paths.NPath.{NPath}
use Rattle.name_calls.specs.Paths.{is_before, is_prefix}
use Rattle.inode_tree.specs.Below.{at_or_below}
use Rattle.inode_tree.specs.Moves.{moved, renamed}
use Rattle.inode_tree.specs.Rows.{Entry, IsRows, entry_of, mark_of, put, removed, set_kind}
use Rattle.inode_tree.proofs.MovedLaws.{entry-order, has-ids, ids-moved}
use Rattle.zone_table.specs.declared.statuses.StatusRow.{StatusRow}
use Rattle.zone_table.specs.Statuses.{StatusesFit, counted, ended, goes_on_under, is_of, mark_of_id, with_counts, with_end, with_status, without_below}

module _ (P : StatusRow → Type 0) where
  -- what is true of a status and of all others is true of all after it was added
  pub all-with-status : (s : StatusRow) (ts : List StatusRow) → P s → All P ts → All P (with_status s ts)
  all-with-status s [] h a = All-cons P s [] h a
  all-with-status s (t ∷ ts) h a = go (is_of s.zone t) (all-with-status s ts h (All-tail P t ts a))
    where
      go : (b : Bool) → All P (with_status s ts) → All P (cond b (s ∷ ts) (t ∷ with_status s ts))
      go true ih = All-cons P s ts h (All-tail P t ts a)
      go false ih = All-cons P t (with_status s ts) (All-head P t ts a) ih

  -- what stays true of a status that ends is true of all after some have ended
  pub all-ended : (session : ℕ) (cancelled : Bool) → ((s : StatusRow) → P s → P (record s { completed = true; cancelled = cancelled })) → (ts : List StatusRow) → All P ts → All P (ended session cancelled ts)
  all-ended session cancelled stays ts a = All-map P (with_end session cancelled) ts (All-weaker P (λ (s : StatusRow). P (with_end session cancelled s)) one ts a)
    where
      one : (s : StatusRow) → P s → P (with_end session cancelled s)
      one s h = go (goes_on_under session s)
        where
          go : (b : Bool) → P (cond b (record s { completed = true; cancelled = cancelled }) s)
          go true = stays s h
          go false = h

  -- what stays true of a status that counts files is true of all after one has
  pub all-counted : (session changed failed : ℕ) (mark : Option NPath) → ((s : StatusRow) → P s → P (with_counts changed failed mark s)) → (ts : List StatusRow) → All P ts
      → All P (counted session changed failed mark ts)
  all-counted session changed failed mark stays [] a = a
  all-counted session changed failed mark stays (t ∷ ts) a = go (goes_on_under session t) (all-counted session changed failed mark stays ts (All-tail P t ts a))
    where
      go : (b : Bool) → All P (counted session changed failed mark ts) → All P (cond b (with_counts changed failed mark t ∷ ts) (t ∷ counted session changed failed mark ts))
      go true ih = All-cons P (with_counts changed failed mark t) ts (stays t (All-head P t ts a)) (All-tail P t ts a)
      go false ih = All-cons P t (counted session changed failed mark ts) (All-head P t ts a) ih

abbrev Fits : List Entry → StatusRow → Type 0
Fits rows s = mark_of_id rows s.zone ≡ Some s.noted.key

pub fit-none : (rows : List Entry) → StatusesFit rows []
fit-none rows = All-nil (Fits rows)

pub fit-submitted : (rows : List Entry) (s : StatusRow) (statuses : List StatusRow) → mark_of_id rows s.zone ≡ Some s.noted.key → StatusesFit rows statuses → StatusesFit rows (with_status s statuses)
fit-submitted rows s statuses h fit = all-with-status (Fits rows) s statuses h fit

pub fit-ended : (rows : List Entry) (session : ℕ) (cancelled : Bool) (statuses : List StatusRow) → StatusesFit rows statuses → StatusesFit rows (ended session cancelled statuses)
fit-ended rows session cancelled statuses fit = all-ended (Fits rows) session cancelled (λ s h. h) statuses fit

pub fit-counted : (rows : List Entry) (session changed failed : ℕ) (mark : Option NPath) (statuses : List StatusRow) → StatusesFit rows statuses → StatusesFit rows (counted session changed failed mark statuses)
fit-counted rows session changed failed mark statuses fit = all-counted (Fits rows) session changed failed mark (λ s h. h) statuses fit

-- the statuses fit other rows in which each marked directory has the same mark
pub fit-same : (rows others : List Entry) (statuses : List StatusRow) → ((id : ℕ) (key : KeyName) → mark_of_id rows id ≡ Some key → mark_of_id others id ≡ Some key) → StatusesFit rows statuses → StatusesFit others statuses
fit-same rows others statuses keeps fit = All-weaker (Fits rows) (Fits others) (λ s h. keeps s.zone s.noted.key h) statuses fit

abbrev mark_in : Option Entry → Option KeyName
mark_in o = option_and_then (λ (e : Entry). mark_of e.row.kind) o

-- another id than the one that has no mark
other-id : (rows : List Entry) (n id : ℕ) (key : KeyName) → mark_of_id rows n ≡ None → mark_of_id rows id ≡ Some key → (n == id) ≡ false
other-id rows n id key h k = go (n == id) refl
  where
    go : (b : Bool) → (n == id) ≡ b → b ≡ false
    go true e = let same : n ≡ id = eqb-true n id e in let f = sym h ∙ ap (mark_of_id rows) same ∙ k in cc
    go false e = refl

entry-other : (e : Entry) (rows : List Entry) (id : ℕ) → (e.row.id == id) ≡ false → entry_of (put e rows) id ≡ entry_of rows id
entry-other e [] id d = ap (λ (t : Bool). cond t (Some e) None) d
entry-other e (x ∷ xs) id d = go (is_before e.path x.path) (entry-other e xs id d)
  where
    go : (b : Bool) → entry_of (put e xs) id ≡ entry_of xs id → entry_of (cond b (e ∷ x ∷ xs) (x ∷ put e xs)) id ≡ entry_of (x ∷ xs) id
    go true ih = ap (λ (t : Bool). cond t (Some e) (entry_of (x ∷ xs) id)) d
    go false ih = ap (λ (o : Option Entry). cond (x.row.id == id) (Some x) o) ih

-- a row with an id that no row has yet is added
pub fit-put : (e : Entry) (rows : List Entry) (statuses : List StatusRow) → entry_of rows e.row.id ≡ None → StatusesFit rows statuses → StatusesFit (put e rows) statuses
fit-put e rows statuses free fit =
    fit-same rows (put e rows) statuses
    (λ id key h. ap mark_in (entry-other e rows id (other-id rows e.row.id id key (ap mark_in free) h)) ∙ h)
    fit

kind-other : (n : ℕ) (kind : Kind) (rows : List Entry) (id : ℕ) → (n == id) ≡ false → entry_of (set_kind rows n kind) id ≡ entry_of rows id
kind-other n kind [] id d = refl
kind-other n kind (x ∷ xs) id d = go (x.row.id == n) refl (kind-other n kind xs id d)
  where
    go : (b : Bool) → (x.row.id == n) ≡ b → entry_of (set_kind xs n kind) id ≡ entry_of xs id → entry_of (cond b (record x { row = record { id = n; kind = kind } }) x ∷ set_kind xs n kind) id ≡ entry_of (x ∷ xs) id
    go true e ih =
        ap (λ (t : Bool). cond t (Some (record x { row = record { id = n; kind = kind } })) (entry_of (set_kind xs n kind) id)) d
        ∙ ih ∙ sym (ap (λ (t : Bool). cond t (Some x) (entry_of xs id)) (ap (λ (i : ℕ). i == id) (eqb-true x.row.id n e) ∙ d))
    go false e ih = ap (λ (o : Option Entry). cond (x.row.id == id) (Some x) o) ih

-- a row without a mark, as a directory that becomes a zone, gets another kind
pub fit-kind : (rows : List Entry) (n : ℕ) (kind : Kind) (statuses : List StatusRow) → mark_of_id rows n ≡ None → StatusesFit rows statuses → StatusesFit (set_kind rows n kind) statuses
fit-kind rows n kind statuses unmarked fit =
    fit-same rows (set_kind rows n kind) statuses
    (λ id key h. ap mark_in (kind-other n kind rows id (other-id rows n id key unmarked h)) ∙ h)
    fit

entry-moved : (p q : List (List ℕ)) (rows : List Entry) (id : ℕ) → entry_of (map (moved p q) rows) id ≡ option_map (moved p q) (entry_of rows id)
entry-moved p q [] id = refl
entry-moved p q (x ∷ xs) id = go (x.row.id == id) (entry-moved p q xs id)
  where
    go : (b : Bool) → entry_of (map (moved p q) xs) id ≡ option_map (moved p q) (entry_of xs id) → cond b (Some (moved p q x)) (entry_of (map (moved p q) xs) id) ≡ option_map (moved p q) (cond b (Some x) (entry_of xs id))
    go true ih = refl
    go false ih = ih

mark-moved : (p q : List (List ℕ)) (o : Option Entry) → mark_in (option_map (moved p q) o) ≡ mark_in o
mark-moved p q None = refl
mark-moved p q (Some e) = refl

-- rows move to another path
pub fit-renamed : (rows : List Entry) (p q : List (List ℕ)) (statuses : List StatusRow) → IsRows rows → StatusesFit rows statuses → StatusesFit (renamed p q rows) statuses
fit-renamed rows p q statuses is fit = fit-same rows (renamed p q rows) statuses (λ id key h. same id ∙ h) fit
  where
    same : (id : ℕ) → mark_of_id (renamed p q rows) id ≡ mark_of_id rows id
    same id =
        ap mark_in (entry-order (map (moved p q) rows) id (ids-moved p q rows (has-ids rows is.rising (recursion_from_All (λ (e : Entry). entry_of rows e.row.id ≡ Some e) rows is.once))) ∙ entry-moved p q rows id)
        ∙ mark-moved p q (entry_of rows id)

-- the row of an id that is not removed
entry-kept : (p : List (List ℕ)) (rows : List Entry) (id : ℕ) (e : Entry) → entry_of rows id ≡ Some e → is_prefix p e.path ≡ false → entry_of (removed p rows) id ≡ Some e
entry-kept p [] id e h k = cc
entry-kept p (x ∷ xs) id e h k = go (x.row.id == id) refl (is_prefix p x.path) refl h (λ g. entry-kept p xs id e g k)
  where
    go : (b : Bool) → (x.row.id == id) ≡ b → (c : Bool) → is_prefix p x.path ≡ c → cond b (Some x) (entry_of xs id) ≡ Some e → (entry_of xs id ≡ Some e → entry_of (removed p xs) id ≡ Some e) → entry_of (cond (not c) (x ∷ removed p xs) (removed p xs)) id ≡ Some e
    go true f true g h ih = let same : x ≡ e = cc in let l : is_prefix p x.path ≡ false = ap (λ (y : Entry). is_prefix p y.path) same ∙ k in cc
    go true f false g h ih = ap (λ (t : Bool). cond t (Some x) (entry_of (removed p xs) id)) f ∙ h
    go false f true g h ih = ih h
    go false f false g h ih = ap (λ (t : Bool). cond t (Some x) (entry_of (removed p xs) id)) f ∙ ih h

mark-kept : (p : List (List ℕ)) (rows : List Entry) (id : ℕ) (key : KeyName) → at_or_below rows id p ≡ false → mark_of_id rows id ≡ Some key → mark_of_id (removed p rows) id ≡ Some key
mark-kept p rows id key h k = go (entry_of rows id) refl h k
  where
    go : (o : Option Entry) → entry_of rows id ≡ o → option_map_or (λ (e : Entry). is_prefix p e.path) o false ≡ false → mark_in o ≡ Some key → mark_of_id (removed p rows) id ≡ Some key
    go None e h k = cc
    go (Some x) e h k = ap mark_in (entry-kept p rows id x e h) ∙ k

-- the rows at a path and below it are removed, and the statuses of zones there
pub fit-removed : (rows : List Entry) (p : List (List ℕ)) (statuses : List StatusRow) → StatusesFit rows statuses → StatusesFit (removed p rows) (without_below rows p statuses)
fit-removed rows p [] fit = All-nil (Fits (removed p rows))
fit-removed rows p (s ∷ ss) fit = go (at_or_below rows s.zone p) refl (fit-removed rows p ss (All-tail (Fits rows) s ss fit))
  where
    go : (b : Bool) → at_or_below rows s.zone p ≡ b → StatusesFit (removed p rows) (without_below rows p ss) → StatusesFit (removed p rows) (cond (not b) (s ∷ without_below rows p ss) (without_below rows p ss))
    go true e ih = ih
    go false e ih = All-cons (Fits (removed p rows)) s (without_below rows p ss) (mark-kept p rows s.zone s.noted.key e (All-head (Fits rows) s ss fit)) ih
