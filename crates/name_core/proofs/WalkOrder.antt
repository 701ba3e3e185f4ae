-- Two walks in a row take files that follow one another.
use Rattle.std.proofs.Common.{◌≡◌, ◌≤◌, ℕ, zero, suc, Bool, true, false, cond, ◌&&◌, List, [], ◌∷◌, ◌++◌, take, drop, Option, Some, None, is_some, Ok, refl, sym, ap, ◌∙◌, subst, arith}
use Rattle.std.specs.Prelude.{◌==◌, ◌≢◌}
use Rattle.std.specs.Bool.{⊤}
use Rattle.std.specs.List.{AllByRecursion, filter}
use Rattle.std.specs.Option.{option_map_or}
use Rattle.std.proofs.lemmas.Bool.Decides.{nat_tests}
use Rattle.std.proofs.lemmas.Bool.{false_from_ne_true, and_parts}
use Rattle.edit_ops.specs.declared.ops.EditOp.TheVariants as op
use Rattle.name_calls.specs.Paths.{is_before, is_prefix}
use Rattle.inode_tree.specs.Rows.{AllAfter, Entry, IsRising, IsRows, same_id, zone_id}
use Rattle.inode_tree.proofs.MovedPaths.{before-append, prefix-split}
use Rattle.inode_tree.proofs.Puts.{not-both}
use Rattle.inode_tree.proofs.Ranks.{before-trans}
use Rattle.inode_tree.proofs.Seeks.{not-before-itself}
use Rattle.reenc_walk.specs.Files.{edek_of, is_after, is_file_of, last_path, path_in, sent_list, walk_list, zone_path}
use Rattle.reenc_walk.specs.Walks.{WalkState, note_of, outstanding, walked}
use Rattle.reenc_walk.specs.declared.sent.BatchNote.{BatchNote}
use Rattle.reenc_walk.proofs.Zoned.{in-zone}
use Rattle.zone_table.specs.declared.statuses.StatusRow.{StatusRow}
use Rattle.zone_table.specs.Statuses.{session_goes_on}
use Rattle.name_store.specs.Causes.{id_at}
use Rattle.name_core.specs.declared.walks.Walked.TheVariants as result
use Rattle.name_core.specs.State.{NameState}
use Rattle.name_core.specs.Calls.{done_with}
use Rattle.name_core.specs.Walks.{WalkDeed, deed_by_files, deed_by_status, going_on, is_walk_of, or_new_walk, taken, walk_of, walk_under, with_walk}
use Rattle.name_core.specs.Laws.{BatchesFollow, FollowOn}
use Rattle.name_core.specs.Walking.{NameWalks}
use Rattle.name_core.proofs.WalkLaws.{WalkDid, walk-did}
use Rattle.name_core.proofs.WalkLemmas.{GoesOn, going-session, of-session, session-is, zone-goes}

-- lists

filter-both : {X : Type 0} (a b : X → Bool) (xs : List X) → filter (λ x. a x && b x) xs ≡ filter b (filter a xs)
filter-both a b [] = refl
filter-both a b (x ∷ xs) = go (a x) (filter-both a b xs)
  where
    go : (t : Bool) → filter (λ y. a y && b y) xs ≡ filter b (filter a xs)
        → cond (t && b x) (x ∷ filter (λ y. a y && b y) xs) (filter (λ y. a y && b y) xs) ≡ filter b (cond t (x ∷ filter a xs) (filter a xs))
    go true rest = ap (λ (l : List _). cond (b x) (x ∷ l) l) rest
    go false rest = rest

each-filter : {X : Type 0} (P : X → Type 0) (t : X → Bool) (xs : List X) → AllByRecursion P xs → AllByRecursion P (filter t xs)
each-filter P t [] h = tt
each-filter P t (x ∷ xs) h = go (t x) (each-filter P t xs h.1)
  where
    go : (b : Bool) → AllByRecursion P (filter t xs) → AllByRecursion P (cond b (x ∷ filter t xs) (filter t xs))
    go true rest = (h.0, rest)
    go false rest = rest

each-take : {X : Type 0} (P : X → Type 0) (n : ℕ) (xs : List X) → AllByRecursion P xs → AllByRecursion P (take n xs)
each-take P zero xs h = tt
each-take P (suc n) [] h = tt
each-take P (suc n) (x ∷ xs) h = (h.0, each-take P n xs h.1)

filter-all : {X : Type 0} (t : X → Bool) (xs : List X) → AllByRecursion (λ x. t x ≡ true) xs → filter t xs ≡ xs
filter-all t [] h = refl
filter-all t (x ∷ xs) h = (λ i. cond (h.0 i) (x ∷ filter t xs) (filter t xs)) ∙ ap (λ (l : List _). x ∷ l) (filter-all t xs h.1)

nothing-taken : {X : Type 0} (n : ℕ) (xs : List X) → take n xs ≡ [] → drop n xs ≡ xs
nothing-taken zero xs h = refl
nothing-taken (suc n) [] h = refl
nothing-taken (suc n) (x ∷ xs) h = absurd cc

-- the files of a zone

module _ (rows : List Entry) (zone : ℕ) where
  abbrev rel : Entry → List (List ℕ)
  rel e = path_in rows zone e.path

  abbrev from : Option (List (List ℕ)) → Entry → Bool
  from c e = is_after c (rel e)

  abbrev Before : Entry → Entry → Type 0
  Before e x = is_before (rel e) (rel x) ≡ true

  -- each comes before the later ones by its path in the zone
  abbrev IsRisingIn : List Entry → Type 0
  IsRisingIn [] = ⊤
  IsRisingIn (e ∷ es) = AllByRecursion (Before e) es × IsRisingIn es

  below : IsRows rows → (e : Entry) → is_file_of rows zone e ≡ true → e.path ≡ zone_path rows zone ++ rel e
  below good e h =
      let w = in-zone rows zone e.path good (and_parts (is_some (edek_of e.row.kind)) (same_id (zone_id rows e.path) (Some zone)) h).1 in
      prefix-split (zone_path rows zone) e.path (ap (λ (o : Option Entry). is_prefix (option_map_or (λ (z : Entry). z.path) o []) e.path) w.1 ∙ w.2)

  before-in : IsRows rows → (e x : Entry) → is_file_of rows zone e ≡ true → is_file_of rows zone x ≡ true → is_before e.path x.path ≡ true → Before e x
  before-in good e x h k b =
      sym (before-append (zone_path rows zone) (rel e) (rel x)) ∙ (λ i. is_before (sym (below good e h) i) (sym (below good x k) i)) ∙ b

  each-later : IsRows rows → (e : Entry) → is_file_of rows zone e ≡ true → (es : List Entry) → AllAfter e.path es → AllByRecursion (Before e) (filter (is_file_of rows zone) es)
  each-later good e h [] a = tt
  each-later good e h (x ∷ es) a = go (is_file_of rows zone x) refl (each-later good e h es a.1)
    where
      go : (b : Bool) → is_file_of rows zone x ≡ b → AllByRecursion (Before e) (filter (is_file_of rows zone) es)
          → AllByRecursion (Before e) (cond b (x ∷ filter (is_file_of rows zone) es) (filter (is_file_of rows zone) es))
      go true k rest = (before-in good e x h k a.0, rest)
      go false k rest = rest

  rising-files : IsRows rows → (es : List Entry) → IsRising es → IsRisingIn (filter (is_file_of rows zone) es)
  rising-files good [] r = tt
  rising-files good (e ∷ es) r = go (is_file_of rows zone e) refl (rising-files good es r.1)
    where
      go : (b : Bool) → is_file_of rows zone e ≡ b → IsRisingIn (filter (is_file_of rows zone) es) → IsRisingIn (cond b (e ∷ filter (is_file_of rows zone) es) (filter (is_file_of rows zone) es))
      go true h rest = (each-later good e h es r.0, rest)
      go false h rest = rest

  -- the last of some files that come after another
  last-after : (e : Entry) (p : List (List ℕ)) (es : List Entry) → AllByRecursion (Before e) es → es ≢ [] → is_before (rel e) (path_in rows zone (last_path p es)) ≡ true
  last-after e p [] h some = absurd (some refl)
  last-after e p (x ∷ []) h some = h.0
  last-after e p (x ∷ y ∷ es) h some = last-after e x.path (y ∷ es) h.1 (λ none. absurd cc)

  passed : (e : Entry) (p : List (List ℕ)) (es : List Entry) → AllByRecursion (Before e) es → es ≢ [] → is_before (path_in rows zone (last_path p es)) (rel e) ≡ false
  passed e p es h some = false_from_ne_true (is_before (path_in rows zone (last_path p es)) (rel e)) (λ yes. not-both (rel e) (path_in rows zone (last_path p es)) (last-after e p es h some) yes)

  later-from : (c : Option (List (List ℕ))) (e : Entry) (es : List Entry) → from c e ≡ true → AllByRecursion (Before e) es → AllByRecursion (λ x. from c x ≡ true) es
  later-from c e [] h b = tt
  later-from c e (x ∷ es) h b = (go c h, later-from c e es h b.1)
    where
      go : (c : Option (List (List ℕ))) → from c e ≡ true → from c x ≡ true
      go None h = refl
      go (Some q) h = before-trans q (rel e) (rel x) h b.0

  -- the files after the last one taken are those that were not taken
  cut : (es : List Entry) (c : Option (List (List ℕ))) (n : ℕ) (p : List (List ℕ)) (ys : List Entry) → IsRisingIn es → take n (filter (from c) es) ≡ ys → ys ≢ []
      → filter (from (Some (path_in rows zone (last_path p ys)))) es ≡ drop n (filter (from c) es)
  cut es c zero p ys r is some = absurd (some (sym is))
  cut [] c (suc n) p ys r is some = absurd (some (sym is))
  cut (x ∷ es) c (suc n) p ys r is some = go (from c x) refl is (λ m q zs h k. cut es c m q zs r.1 h k)
    where
      after : List (List ℕ) → Entry → Bool
      after q e = is_before q (rel e)

      left : List Entry
      left = filter (from c) es

      -- the first file is passed
      skip : (q : List (List ℕ)) (rest : List Entry) → is_before q (rel x) ≡ false → filter (after q) es ≡ rest → filter (after q) (x ∷ es) ≡ rest
      skip q rest h k = ap (λ (b : Bool). cond b (x ∷ filter (after q) es) (filter (after q) es)) h ∙ k

      -- the statement for the later files
      Rest : Type 0
      Rest = (m : ℕ) (q : List (List ℕ)) (zs : List Entry) → take m left ≡ zs → zs ≢ [] → filter (after (path_in rows zone (last_path q zs))) es ≡ drop m left

      go : (b : Bool) → from c x ≡ b → take (suc n) (cond b (x ∷ left) left) ≡ ys → Rest → filter (after (path_in rows zone (last_path p ys))) (x ∷ es) ≡ drop (suc n) (cond b (x ∷ left) left)
      go false at is rest =
          skip (path_in rows zone (last_path p ys)) (drop (suc n) left)
          (passed x p ys (subst (AllByRecursion (Before x)) is (each-take (Before x) (suc n) left (each-filter (Before x) (from c) es r.0))) some)
          (rest (suc n) p ys is some)
      go true at is rest = subst (λ (l : List Entry). filter (after (path_in rows zone (last_path p l))) (x ∷ es) ≡ drop n left) is (by-rest (take n left) refl)
        where
          by-rest : (zs : List Entry) → take n left ≡ zs → filter (after (path_in rows zone (last_path x.path zs))) (x ∷ es) ≡ drop n left
          by-rest [] none =
              skip (rel x) (drop n left) (not-before-itself (rel x))
              (filter-all (after (rel x)) es r.0 ∙ sym (filter-all (from c) es (later-from c x es at r.0)) ∙ sym (nothing-taken n left none))
          by-rest (z ∷ zs) more =
              skip (path_in rows zone (last_path x.path (z ∷ zs))) (drop n left)
              (passed x x.path (z ∷ zs) (subst (AllByRecursion (Before x)) more (each-take (Before x) n left (each-filter (Before x) (from c) es r.0))) (λ none. absurd cc))
              (rest n x.path (z ∷ zs) more (λ none. absurd cc))

  -- the same for the list of a walk
  pub walk-follows : IsRows rows → (c : Option (List (List ℕ))) (n : ℕ) → take n (walk_list rows zone c) ≢ []
      → walk_list rows zone (Some (path_in rows zone (last_path [] (take n (walk_list rows zone c))))) ≡ drop n (walk_list rows zone c)
  walk-follows good c n some =
      let files = filter (is_file_of rows zone) rows in
      let list : (d : Option (List (List ℕ))) → walk_list rows zone d ≡ filter (from d) files = λ d. filter-both (is_file_of rows zone) (from d) rows in
      list (Some (path_in rows zone (last_path [] (take n (walk_list rows zone c)))))
      ∙ cut files c n [] (take n (walk_list rows zone c)) (rising-files good rows good.rising) (ap (take n) (sym (list c))) some
      ∙ ap (drop n) (sym (list c))

-- the walk after a batch

pub under-with : (w : WalkState) (ws : List WalkState) → walk_under (with_walk w ws) w.session ≡ Some w
under-with w [] = ap (λ (b : Bool). cond b (Some w) None) (itself w.session)
  where
    itself : (n : ℕ) → (n == n) ≡ true
    itself n = grind (arith, nat_tests)
under-with w (x ∷ ws) = go (is_walk_of w.session x) refl (under-with w ws)
  where
    itself : (n : ℕ) → (n == n) ≡ true
    itself n = grind (arith, nat_tests)

    go : (b : Bool) → is_walk_of w.session x ≡ b → walk_under (with_walk w ws) w.session ≡ Some w → walk_under (cond b (w ∷ ws) (x ∷ with_walk w ws)) w.session ≡ Some w
    go true at rest = ap (λ (b : Bool). cond b (Some w) (walk_under ws w.session)) (itself w.session)
    go false at rest = ap (λ (b : Bool). cond b (Some x) (walk_under (with_walk w ws) w.session)) at ∙ rest

-- a walk of a session that goes on is not forgotten
pub under-going : (statuses : List StatusRow) (session : ℕ) (ws : List WalkState) → session_goes_on statuses session ≡ true → walk_under (going_on statuses ws) session ≡ walk_under ws session
under-going statuses session [] goes = refl
under-going statuses session (x ∷ ws) goes = go (session_goes_on statuses x.session) refl (is_walk_of session x) refl (under-going statuses session ws goes)
  where
    equal : (a b : ℕ) → (a == b) ≡ true → a ≡ b
    equal a b h = grind (arith, nat_tests, h)

    go : (k : Bool) → session_goes_on statuses x.session ≡ k → (b : Bool) → is_walk_of session x ≡ b → walk_under (going_on statuses ws) session ≡ walk_under ws session
        → walk_under (cond k (x ∷ going_on statuses ws) (going_on statuses ws)) session ≡ cond b (Some x) (walk_under ws session)
    go true keeps b at rest = (λ i. cond (at i) (Some x) (rest i))
    go false drops true at rest = let f : true ≡ false = sym goes ∙ ap (session_goes_on statuses) (sym (equal x.session session at)) ∙ drops in absurd cc
    go false drops false at rest = rest

walk-next : (statuses : List StatusRow) (ws : List WalkState) (st : StatusRow) (w : WalkState) → w.session ≡ st.session → session_goes_on statuses st.session ≡ true
    → walk_of (going_on statuses (with_walk w ws)) st ≡ w
walk-next statuses ws st w is goes =
    ap (λ (o : Option WalkState). or_new_walk o st)
    (under-going statuses st.session (with_walk w ws) goes ∙ ap (walk_under (with_walk w ws)) (sym is) ∙ under-with w ws)

-- a batch is the first files of the list
batch-of : (s : NameState) (zone : ℕ) (st : StatusRow) (note : BatchNote) (files : List Entry) → result.Batch note ≡ (deed_by_files s zone st files).answer
    → (note ≡ note_of s.table.rows zone s.batch (walk_of s.walks st)) × (files ≢ []) × (deed_by_files s zone st files ≡ taken s zone (walk_of s.walks st))
batch-of s zone st note [] is = absurd (never (count == 0) is)
  where
    count : ℕ
    count = outstanding (walk_of s.walks st).batches

    never : (b : Bool)
        → result.Batch note ≡ (cond {A = WalkDeed} b (record { answer = result.Completed; logs = Some (op.Complete st.session); state = s }) (record { answer = result.NoneLeft count; logs = None; state = s })).answer
        → ⊥
    never true h = absurd cc
    never false h = absurd cc
batch-of s zone st note (e ∷ es) is = (cc is, (λ none. absurd cc), refl)

pub some-taken : (n : ℕ) (es : List Entry) → 1 ≤ n → es ≢ [] → take n es ≢ []
some-taken zero es some there none = absurd (omega (arith, some))
some-taken (suc n) [] some there none = there refl
some-taken (suc n) (e ∷ es) some there none = absurd cc

module _ (s : NameState) (p : List (List ℕ)) (note : BatchNote) (s' : NameState) (note' : BatchNote) (s'' : NameState) (good : IsRows s.table.rows) (some : 1 ≤ s.batch)
    (first : NameWalks s p (Ok (result.Batch note)) s') (second : NameWalks s' p (Ok (result.Batch note')) s'') where
  did : WalkDid s p (result.Batch note) s'
  did = walk-did s p (result.Batch note) s' first

  g : GoesOn s.table p
  g = zone-goes s.table p did.free

  abbrev zone-here : ℕ
  zone-here = id_at s.table.rows p

  abbrev w : WalkState
  w = walk_of s.walks g.status

  abbrev files : List Entry
  files = walk_list s.table.rows zone-here w.cursor

  one : (note ≡ note_of s.table.rows zone-here s.batch w) × (files ≢ []) × (deed_by_files s zone-here g.status files ≡ taken s zone-here w)
  one = batch-of s zone-here g.status note files (did.answer ∙ ap (λ (o : Option StatusRow). (deed_by_status s zone-here o).answer) g.found)

  abbrev w-next : WalkState
  w-next = walked s.table.rows zone-here s.batch w

  abbrev t : NameState
  t = record s { walks = going_on s.table.statuses (with_walk w-next s.walks) }

  next : s' ≡ t
  next = did.left ∙ ap (λ (d : WalkDeed). done_with d.logs d.state) (ap (deed_by_status s zone-here) g.found ∙ one.2)

  did-next : WalkDid t p (result.Batch note') s''
  did-next = walk-did t p (result.Batch note') s'' (subst (λ (x : NameState). NameWalks x p (Ok (result.Batch note')) s'') next second)

  two : note' ≡ note_of s.table.rows zone-here s.batch (walk_of t.walks g.status)
  two = (batch-of t zone-here g.status note' (walk_list s.table.rows zone-here (walk_of t.walks g.status).cursor) (did-next.answer ∙ ap (λ (o : Option StatusRow). (deed_by_status t zone-here o).answer) g.found)).0

  walk-is : walk_of t.walks g.status ≡ w-next
  walk-is =
      walk-next s.table.statuses s.walks g.status w-next (of-session s.walks g.status)
      (ap (session_goes_on s.table.statuses) (session-is s.table p g.status g.found) ∙ going-session s.table p did.free)

  follow : FollowOn s p note note'
  follow = record {
    status = g.status;
    found = g.found;
    first = ap (λ (n : BatchNote). n.sent) one.0;
    second = ap (λ (n : BatchNote). n.sent) (two ∙ ap (note_of s.table.rows zone-here s.batch) walk-is)
        ∙ ap (λ (l : List Entry). sent_list (take s.batch l)) (walk-follows s.table.rows zone-here good w.cursor s.batch (some-taken s.batch files some one.1));
  }

pub batches_follow : BatchesFollow
batches_follow s p note s' note' s'' good some first second = follow s p note s' note' s'' good some first second
