-- The laws of directories that are made, and of ids.
use Rattle.std.proofs.Common.{◌≡◌, ℕ, ◌<◌, ◌⊎◌, inl, inr, Bool, true, false, cond, ◌&&◌, is_none, List, [], ◌∷◌, Option, Some, None, Ok, Err, refl, sym, ap, ◌∙◌, subst, arith}
use Rattle.std.specs.Option.{option_map}
use Rattle.std.specs.Str.{bytes_eq}
use Rattle.inode_tree.specs.declared.rows.Row.{Row}
use Rattle.name_calls.specs.Paths.{is_before, is_prefix, parent, same_path}
use Rattle.name_calls.specs.ReadPaths.{as_it_is}
use Rattle.inode_tree.specs.Rows.{Entry, is_marked, is_zone_over, longer, put, row_at, zone_of}
use Rattle.inode_tree.proofs.Seeks.{same-is, same-itself}
use Rattle.name_calls.specs.declared.calls.NameCall.{NameCall}
use Rattle.name_calls.specs.declared.calls.NameCall.TheVariants as call
use Rattle.name_calls.specs.declared.calls.NameReply.{NameReply}
use Rattle.name_calls.specs.declared.calls.NameReply.TheVariants.{Done, Refused}
use Rattle.name_calls.specs.declared.calls.NameRefusal.{NameRefusal}
use Rattle.name_calls.specs.declared.calls.NameRefusal.TheVariants.{NoSuchPath, TooManyInodes, NoMemory}
use Rattle.edit_ops.specs.declared.ops.EditOp.TheVariants as op
use Rattle.name_store.specs.Causes.{first_cause, make_causes}
use Rattle.name_store.specs.Table.{new_directory}
use Rattle.name_store.proofs.CauseLemmas.{makeable, none-of-both}
use Rattle.name_core.specs.State.{NameState, is_full, next_id}
use Rattle.name_core.specs.Calls.{NameActs, Plain, NoRoom, causes, deed, done_with, mkdir_causes, numbered, unless_refused}
use Rattle.name_core.specs.Reads.{answer_unless, info_causes, info_reply, path_of_zone, shown_at}
use Rattle.name_core.specs.Asks.{ask_causes, asked, note_of, ask_opened, unless_not_asked}
use Rattle.name_core.specs.Laws.{AskIdsRise, IdsRise, MadeIsReported, OthersStay}
use Rattle.name_calls.specs.declared.calls.AskNote.{AskNote}

-- properties of a mkdir that was done

abbrev made : NameState → List (List ℕ) → NameState
made s p = done_with (Some (op.Mkdir (next_id s) p)) (numbered s)

done-by : (s : NameState) (p : List (List ℕ)) (s' : NameState) → NameActs s (call.Mkdir p) Done s' → (first_cause (mkdir_causes s p) ≡ None) × (s' ≡ made s p)
done-by s p s' (NoRoom, may, is) = let f : Done ≡ Refused NoMemory = ap (λ o. o.reply) is in absurd cc
done-by s p s' (Plain, may, is) = go (first_cause (mkdir_causes s p)) is
  where
    go : (o : Option NameRefusal) → (record { reply = Done; state = s' }) ≡ unless_refused o s (record { answer = Done; logs = Some (op.Mkdir (next_id s) p); state = numbered s }) → (o ≡ None) × (s' ≡ made s p)
    go None is = (refl, ap (λ o. o.state) is)
    go (Some why) is = let f : Done ≡ Refused why = ap (λ o. o.reply) is in absurd cc

was-absent : (s : NameState) (p : List (List ℕ)) → first_cause (mkdir_causes s p) ≡ None → row_at s.table.rows p ≡ None
was-absent s p h = (makeable s.table.rows p (none-of-both (make_causes s.table.rows p) ((is_full s, TooManyInodes) ∷ []) h).0).absent

-- the rows with one more

apart : (x : Entry) (es : List Entry) (p : List (List ℕ)) → row_at (x ∷ es) p ≡ None → (same_path x.path p ≡ false) × (row_at es p ≡ None)
apart x es p h = go (same_path x.path p) h
  where
    go : (t : Bool) → cond t (Some x.row) (row_at es p) ≡ None → (t ≡ false) × (row_at es p ≡ None)
    go true f = absurd cc
    go false f = (refl, f)

pub row-new : (e : Entry) (es : List Entry) → row_at es e.path ≡ None → row_at (put e es) e.path ≡ Some e.row
row-new e [] h = ap (λ t. cond t (Some e.row) None) (same-itself e.path)
row-new e (x ∷ es) h = go (is_before e.path x.path) (row-new e es (apart x es e.path h).1)
  where
    go : (b : Bool) → row_at (put e es) e.path ≡ Some e.row → row_at (cond b (e ∷ x ∷ es) (x ∷ put e es)) e.path ≡ Some e.row
    go true rest = ap (λ t. cond t (Some e.row) (row_at (x ∷ es) e.path)) (same-itself e.path)
    go false rest = ap (λ t. cond t (Some x.row) (row_at (put e es) e.path)) (apart x es e.path h).0 ∙ rest

pub row-other : (e : Entry) (es : List Entry) (q : List (List ℕ)) → same_path e.path q ≡ false → row_at (put e es) q ≡ row_at es q
row-other e [] q h = ap (λ t. cond t (Some e.row) None) h
row-other e (x ∷ es) q h = go (is_before e.path x.path) (row-other e es q h)
  where
    go : (b : Bool) → row_at (put e es) q ≡ row_at es q → row_at (cond b (e ∷ x ∷ es) (x ∷ put e es)) q ≡ row_at (x ∷ es) q
    go true rest = ap (λ t. cond t (Some e.row) (row_at (x ∷ es) q)) h
    go false rest = ap (λ o. cond (same_path x.path q) (Some x.row) o) rest

no-zone : (e : Entry) (q : List (List ℕ)) → is_marked e.row ≡ false → is_zone_over q e ≡ false
no-zone e q h = ap (λ b. b && is_prefix e.path q) h

-- a row without a mark is no zone
pub zone-same : (e : Entry) (es : List Entry) (q : List (List ℕ)) → is_marked e.row ≡ false → zone_of (put e es) q ≡ zone_of es q
zone-same e [] q h = ap (λ b. cond b (Some e) None) (no-zone e q h)
zone-same e (x ∷ es) q h = go (is_before e.path x.path) (zone-same e es q h)
  where
    go : (b : Bool) → zone_of (put e es) q ≡ zone_of es q → zone_of (cond b (e ∷ x ∷ es) (x ∷ put e es)) q ≡ zone_of (x ∷ es) q
    go true rest = ap (λ b. cond b (Some (longer e (zone_of (x ∷ es) q))) (zone_of (x ∷ es) q)) (no-zone e q h)
    go false rest = ap (λ o. cond (is_zone_over q x) (Some (longer x o)) o) rest

none-below : (b : Bool) → (b && false) ≡ false
none-below true = refl
none-below false = refl

-- a prefix of a path, other than the path, is a prefix of its parent
pub prefix-parent : (q p : List (List ℕ)) → same_path q p ≡ false → is_prefix q p ≡ is_prefix q (parent p)
prefix-parent [] p h = refl
prefix-parent (x ∷ q) [] h = refl
prefix-parent (x ∷ []) (y ∷ []) h = h
prefix-parent (x ∷ z ∷ q) (y ∷ []) h = none-below (bytes_eq x y)
prefix-parent (x ∷ q) (y ∷ z ∷ p) h = go (bytes_eq x y) h (prefix-parent q (z ∷ p))
  where
    go : (b : Bool) → (b && same_path q (z ∷ p)) ≡ false → (same_path q (z ∷ p) ≡ false → is_prefix q (z ∷ p) ≡ is_prefix q (parent (z ∷ p)))
        → (b && is_prefix q (z ∷ p)) ≡ (b && is_prefix q (parent (z ∷ p)))
    go true h rest = rest h
    go false h rest = refl

pub zone-above : (es : List Entry) (p : List (List ℕ)) → row_at es p ≡ None → zone_of es p ≡ zone_of es (parent p)
zone-above [] p h = refl
zone-above (x ∷ es) p h =
    let over : is_zone_over p x ≡ is_zone_over (parent p) x = ap (λ b. is_marked x.row && b) (prefix-parent x.path p (apart x es p h).0) in
    let rest = zone-above es p (apart x es p h).1 in
    λ i. cond (over i) (Some (longer x (rest i))) (rest i)

-- the reply is that of the definition, unless memory ran out
pub answer-by : (s : NameState) (c : NameCall) (result : NameReply) (s' : NameState) → NameActs s c result s' → (result ≡ Refused NoMemory) ⊎ (result ≡ answer_unless (first_cause (causes s c)) (deed s c).answer)
answer-by s c result s' (NoRoom, may, is) = inl (ap (λ o. o.reply) is)
answer-by s c result s' (Plain, may, is) = inr (ap (λ o. o.reply) is ∙ go (first_cause (causes s c)))
  where
    go : (o : Option NameRefusal) → (unless_refused o s (deed s c)).reply ≡ answer_unless o (deed s c).answer
    go (Some why) = refl
    go None = refl

-- an entry that does not exist is shown as a refusal
pub shown-unless : (path : Option (List (List ℕ))) (o : Option Row) → answer_unless (cond (is_none o) (Some NoSuchPath) None) (shown_at path o) ≡ shown_at path o
shown-unless path None = refl
shown-unless path (Some row) = refl

pub info-by : (s : NameState) (p : List (List ℕ)) (result : NameReply) (s' : NameState) → NameActs s (call.Info (as_it_is p)) result s' → (result ≡ Refused NoMemory) ⊎ (result ≡ info_reply s.table (as_it_is p))
info-by s p result s' acts = go (answer-by s (call.Info (as_it_is p)) result s' acts)
  where
    go : (result ≡ Refused NoMemory) ⊎ (result ≡ answer_unless (first_cause (info_causes s.table (as_it_is p))) (info_reply s.table (as_it_is p))) → (result ≡ Refused NoMemory) ⊎ (result ≡ info_reply s.table (as_it_is p))
    go (inl wanting) = inl wanting
    go (inr is) = inr (is ∙ shown-unless (path_of_zone s.table.rows p) (row_at s.table.rows p))

pub made_is_reported : MadeIsReported
made_is_reported s p s' result s'' did asked = go (info-by s' p result s'' asked)
  where
    absent : row_at s.table.rows p ≡ None
    absent = was-absent s p (done-by s p s' did).0

    zone_is : path_of_zone (put (new_directory (next_id s) p) s.table.rows) p ≡ path_of_zone s.table.rows (parent p)
    zone_is = ap (option_map (λ e. e.path)) (zone-same (new_directory (next_id s) p) s.table.rows p refl ∙ zone-above s.table.rows p absent)

    go : (result ≡ Refused NoMemory) ⊎ (result ≡ info_reply s'.table (as_it_is p)) → (result ≡ Refused NoMemory) ⊎ (result ≡ shown_at (path_of_zone s.table.rows (parent p)) (Some (new_directory (next_id s) p).row))
    go (inl wanting) = inl wanting
    go (inr is) = inr (is ∙ ap (λ (t : NameState). info_reply t.table (as_it_is p)) (done-by s p s' did).1 ∙ (λ i. shown_at (zone_is i) (row-new (new_directory (next_id s) p) s.table.rows absent i)))

pub other : (p q : List (List ℕ)) → (q ≡ p → ⊥) → same_path p q ≡ false
other p q h = go (same_path p q) refl
  where
    go : (t : Bool) → same_path p q ≡ t → t ≡ false
    go true e = absurd (h (sym (same-is p q e)))
    go false e = refl

pub others_stay : OthersStay
others_stay s p s' q did apart =
    ap (λ (t : NameState). info_reply t.table (as_it_is q)) (done-by s p s' did).1
    ∙ (λ i. shown_at (option_map (λ e. e.path) (zone-same (new_directory (next_id s) p) s.table.rows q refl i)) (row-other (new_directory (next_id s) p) s.table.rows q (other p q apart) i))

pub ids_rise : IdsRise
ids_rise s p s' did = subst (λ (t : NameState). next_id s < next_id t) (sym (done-by s p s' did).1) (omega arith)

pub ask_ids_rise : AskIdsRise
ask_ids_rise s user a note s' (NoRoom, may, is) = let f : Ok note ≡ Err NoMemory = ap (λ o. o.reply) is in absurd cc
ask_ids_rise s user a note s' (Plain, may, is) = go (first_cause (ask_causes s user a)) is
  where
    go : (o : Option NameRefusal) → (record { reply = Ok note; state = s' }) ≡ unless_not_asked o s a → (note.id ≡ next_id s) × (next_id s < next_id s')
    go (Some why) is = let f : Ok note ≡ Err why = ap (λ o. o.reply) is in absurd cc
    go None is =
        let same : note ≡ note_of (ask_opened s a) = let f : Ok note ≡ Ok (note_of (ask_opened s a)) = ap (λ o. o.reply) is in cc in
        (ap (λ (n : AskNote). n.id) same, subst (λ (t : NameState). next_id s < next_id t) (sym (ap (λ o. o.state) is)) (omega arith))
