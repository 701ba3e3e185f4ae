-- How connections go on.
use Rattle.std.specs.Prelude.{◌≡◌, ◌+◌, ℕ, List, [], ◌∷◌, ◌++◌, length, map, Option, None, Some}
use Rattle.std.proofs.Common.{refl, ap, sym, ◌∙◌, subst, inl, inr, append_assoc, append-nil, arith}
use mathlib.Core.List.{IsPrefix}
use Rattle.hist_cell.specs.declared.views.Known.{Known}
use Rattle.hist_cell.specs.History.{Distinct, IsIn, Meets, Splits, own}
use Rattle.hk_base.specs.declared.ended.Ended.{Ended}
use Rattle.kms_cell.specs.Entries.{KmsEntry, KmsKnown}
use Rattle.name_history.specs.Entries.{NameEntry, NameKnown}
use Rattle.server_parts.specs.Doors.{DoorState, with_accepted, with_left, with_more}
use Rattle.cell_server.specs.Connections.{AllFresh, AllServed, Connections, EndsServed, ConnectionsGoOn, Going, HasMet, Serving, Start, Visit, came_of, ends_of, keys_of, left_of, names_of}
use Rattle.cell_workers.specs.Work.{PoolWorks, IsFresh}
use Rattle.cell_workers.proofs.WorkLemmas.{in_left, in_right, work_seen}

map_snoc : {A B : Type 0} (f : A → B) (xs : List A) (x : A) → map f (xs ++ x ∷ []) ≡ map f xs ++ f x ∷ []
map_snoc f [] x = refl
map_snoc f (y ∷ xs) x = ap (λ l. f y ∷ l) (map_snoc f xs x)

snoc_append : {A : Type 0} (xs : List A) (x : A) (ys : List A) → xs ++ x ∷ ys ≡ (xs ++ x ∷ []) ++ ys
snoc_append [] x ys = refl
snoc_append (z ∷ xs) x ys = ap (λ l. z ∷ l) (snoc_append xs x ys)

length_snoc : {A : Type 0} (xs : List A) (x : A) → length (xs ++ x ∷ []) ≡ length xs + 1
length_snoc [] x = refl
length_snoc (y ∷ xs) x = let e : length (xs ++ x ∷ []) ≡ length xs + 1 = length_snoc xs x in omega (arith, e)

distinct_right : (ms ns : List ℕ) → Distinct (ms ++ ns) → Distinct ns
distinct_right [] ns d = d
distinct_right (m ∷ ms) ns d = distinct_right ms ns d.1

distinct_apart : (ms ns : List ℕ) → Distinct (ms ++ ns) → (k : ℕ) → IsIn k ns → ¬ IsIn k ms
distinct_apart [] ns d k i j = j
distinct_apart (m ∷ ms) ns d k i j = elim j [
  | inl here ↦ d.0 (subst (λ (n : ℕ). IsIn n (ms ++ ns)) here (in_right k ms ns i))
  | inr there ↦ distinct_apart ms ns d.1 k i there
]

prefix_trans : {A : Type 0} (xs ys zs : List A) → IsPrefix xs ys → IsPrefix ys zs → IsPrefix xs zs
prefix_trans xs ys zs p q = (p.0 ++ q.0, sym (append_assoc xs p.0 q.0) ∙ ap (λ l. l ++ q.0) p.1 ∙ q.1)

with_none : {A : Type 0} (o : Option (List A)) → o ≡ with_more o []
with_none None = refl
with_none (Some xs) = ap Some (sym (append-nil xs))

with_both : {A : Type 0} (o : Option (List A)) (xs ys : List A) → with_more (with_more o xs) ys ≡ with_more o (xs ++ ys)
with_both None xs ys = refl
with_both (Some zs) xs ys = ap Some (append_assoc zs xs ys)

-- ---- a pass into which others are met

module _ {Q R S : Type 0} where
  pub met_none : (v : Known Q R S) → HasMet v v []
  met_none v = record {
    number = refl;
    start = refl;
    ended = sym (append-nil v.ended);
    begins = ([], append-nil v.seen);
    same_own = λ k i. refl;
    new = λ k i. absurd i;
    different = tt;
  }

  pub met_more : (v w theirs x : Known Q R S) (numbers : List ℕ) → HasMet v w numbers → Meets w theirs x → HasMet v x (numbers ++ theirs.number ∷ theirs.ended)
  met_more v w theirs x numbers m met =
      let more : List ℕ = theirs.number ∷ theirs.ended in
      let ended : x.ended ≡ v.ended ++ (numbers ++ more) = met.ended ∙ (ap (λ l. l ++ more) m.ended ∙ append_assoc v.ended numbers more) in
      let all : Distinct ((v.number ∷ v.ended) ++ (numbers ++ more)) =
      subst Distinct (ap (λ (n : ℕ). n ∷ x.ended) (met.number ∙ m.number) ∙ ap (λ l. v.number ∷ l) ended) met.distinct in
      record {
        number = met.number ∙ m.number;
        start = met.start ∙ m.start;
        ended = ended;
        begins = prefix_trans v.seen w.seen x.seen m.begins met.this;
        same_own = λ k i. met.this_own k (subst (IsIn k) (sym (ap (λ (n : ℕ). n ∷ w.ended) m.number ∙ ap (λ l. v.number ∷ l) m.ended)) (in_left k (v.number ∷ v.ended) numbers i)) ∙ m.same_own k i;
        new = distinct_apart (v.number ∷ v.ended) (numbers ++ more) all;
        different = distinct_right (v.number ∷ v.ended) (numbers ++ more) all;
      }

  -- the same of a pass that met no others
  met_one : (v w theirs x : Known Q R S) (numbers : List ℕ) → HasMet v w numbers → Meets w theirs x → theirs.ended ≡ [] → HasMet v x (numbers ++ theirs.number ∷ [])
  met_one v w theirs x numbers m met none = subst (λ l. HasMet v x (numbers ++ theirs.number ∷ l)) none (met_more v w theirs x numbers m met)

  -- the entries of those that were met stay
  pub met_stays : (v w theirs x : Known Q R S) (numbers : List ℕ) → HasMet v w numbers → Meets w theirs x → (k : ℕ) → IsIn k numbers → own k x.seen ≡ own k w.seen
  met_stays v w theirs x numbers m met k i = met.this_own k (inr (subst (IsIn k) (sym m.ended) (in_right k v.ended numbers i)))

  pub met_same : (v w x : Known Q R S) (numbers : List ℕ) → x ≡ w → HasMet v w numbers → HasMet v x numbers
  met_same v w x numbers same m = subst (λ (y : Known Q R S). HasMet v y numbers) (sym same) m

module _ {I O D W : Type 0} where
  fresh_snoc : (starts : List (Start I O D W)) (s : Start I O D W) → AllFresh starts
      → (own s.keys.number s.keys.seen ≡ []) × (s.keys.ended ≡ []) × (own s.names.number s.names.seen ≡ []) × (s.names.ended ≡ []) → AllFresh (starts ++ s ∷ [])
  fresh_snoc [] s f is = (is, tt)
  fresh_snoc (t ∷ starts) s f is = (f.0, fresh_snoc starts s f.1 is)

module _ {I O D W : Type 0} (serves : Serving I O D W) where
  still_served : (keys keys' : List (KmsEntry D W)) (names names' : List (NameEntry D W)) (visits : List (Visit I O))
      → ((k : ℕ) → IsIn k (map keys_of visits) → own k keys' ≡ own k keys) → ((k : ℕ) → IsIn k (map names_of visits) → own k names' ≡ own k names)
      → AllServed serves keys names visits → AllServed serves keys' names' visits
  still_served keys keys' names names' [] same same' a = tt
  still_served keys keys' names names' (t ∷ visits) same same' a = (
    subst (λ (ks : List (KmsEntry D W)). serves t.input t.out ks (own t.names names') t.left.input t.left.out t.left.ended) (sym (same t.keys (inl refl)))
        (subst (λ (ns : List (NameEntry D W)). serves t.input t.out (own t.keys keys) ns t.left.input t.left.out t.left.ended) (sym (same' t.names (inl refl))) a.0),
    still_served keys keys' names names' visits (λ k i. same k (inr i)) (λ k i. same' k (inr i)) a.1,
  )

  served_snoc : (keys : List (KmsEntry D W)) (names : List (NameEntry D W)) (visits : List (Visit I O)) (t : Visit I O) → AllServed serves keys names visits
      → serves t.input t.out (own t.keys keys) (own t.names names) t.left.input t.left.out t.left.ended → AllServed serves keys names (visits ++ t ∷ [])
  served_snoc keys names [] t a is = (is, tt)
  served_snoc keys names (u ∷ visits) t a is = (a.0, served_snoc keys names visits t a.1 is)

  pub going_begins : (door : DoorState I O) (keys : KmsKnown D W) (names : NameKnown D W) → Going serves door keys names door keys names []
  going_begins door keys names = record {
    visits = [];
    accepted = omega arith;
    left = omega arith;
    came = with_none door.came;
    gone = with_none door.gone;
    port = refl;
    served = tt;
    met_keys = met_none keys;
    met_names = met_none names;
    fresh = tt;
  }

  pub going_accepts : (door : DoorState I O) (keys : KmsKnown D W) (names : NameKnown D W) (running : List (Start I O D W)) (door' : DoorState I O) (keys' : KmsKnown D W) (names' : NameKnown D W) (s : Start I O D W)
      → door' ≡ with_accepted door (ends_of s) → keys' ≡ keys → names' ≡ names → Splits keys s.keys → Splits names s.names → ConnectionsGoOn serves door keys names running door' keys' names' (running ++ s ∷ [])
  going_accepts door keys names running door' keys' names' s more still still' splits splits' door0 keys0 names0 g =
      let accepted : door'.accepted ≡ door.accepted + 1 = ap (λ (d : DoorState I O). d.accepted) more in
      let left : door'.left ≡ door.left = ap (λ (d : DoorState I O). d.left) more in
      let long : length (running ++ s ∷ []) ≡ length running + 1 = length_snoc running s in
      let before : door.accepted ≡ door0.accepted + (length g.visits + length running) = g.accepted in
      record {
        visits = g.visits;
        accepted = omega (arith, accepted, long, before);
        left = left ∙ g.left;
        came = ap (λ (d : DoorState I O). d.came) more ∙ (ap (λ o. with_more o (ends_of s ∷ [])) g.came
            ∙ (with_both door0.came (map came_of g.visits ++ map ends_of running) (ends_of s ∷ [])
            ∙ ap (with_more door0.came) (append_assoc (map came_of g.visits) (map ends_of running) (ends_of s ∷ []) ∙ ap (λ l. map came_of g.visits ++ l) (sym (map_snoc ends_of running s)))));
        gone = ap (λ (d : DoorState I O). d.gone) more ∙ g.gone;
        port = ap (λ (d : DoorState I O). d.port) more ∙ g.port;
        served = subst (λ (p : KmsKnown D W). AllServed serves p.seen names'.seen g.visits) (sym still) (subst (λ (p : NameKnown D W). AllServed serves keys.seen p.seen g.visits) (sym still') g.served);
        met_keys = met_same keys0 keys keys' (map keys_of g.visits) still g.met_keys;
        met_names = met_same names0 names names' (map names_of g.visits) still' g.met_names;
        fresh = fresh_snoc running s g.fresh (splits.no_own, splits.ended, splits'.no_own, splits'.ended);
      }

  pub going_finishes : (door : DoorState I O) (keys : KmsKnown D W) (names : NameKnown D W) (s : Start I O D W) (running : List (Start I O D W)) (door' : DoorState I O) (keys' : KmsKnown D W) (names' : NameKnown D W)
      (input : I) (out : O) (theirs : KmsKnown D W) (their_names : NameKnown D W) (how : Ended)
      → EndsServed serves s input out theirs their_names how → door' ≡ with_left door (record { input = input; out = out; ended = how })
      → Meets keys theirs keys' → Meets names their_names names'
      → ConnectionsGoOn serves door keys names (s ∷ running) door' keys' names' running
  going_finishes door keys names s running door' keys' names' input out theirs their_names how done left met met' door0 keys0 names0 g =
      let t : Visit I O = record { keys = theirs.number; names = their_names.number; input = s.input; out = s.out; left = record { input = input; out = out; ended = how } } in
      let none : theirs.ended ≡ [] = done.keys_ended ∙ g.fresh.0.1 in
      let none' : their_names.ended ≡ [] = done.names_ended ∙ g.fresh.0.3 in
      let accepted : door'.accepted ≡ door.accepted = ap (λ (d : DoorState I O). d.accepted) left in
      let gone : door'.left ≡ door.left + 1 = ap (λ (d : DoorState I O). d.left) left in
      let long : length (g.visits ++ t ∷ []) ≡ length g.visits + 1 = length_snoc g.visits t in
      let so_far : door.left ≡ door0.left + length g.visits = g.left in
      record {
        visits = g.visits ++ t ∷ [];
        accepted = omega (arith, accepted, long, g.accepted);
        left = omega (arith, gone, long, so_far);
        came = ap (λ (d : DoorState I O). d.came) left ∙ (g.came
            ∙ ap (with_more door0.came) (snoc_append (map came_of g.visits) (ends_of s) (map ends_of running) ∙ ap (λ l. l ++ map ends_of running) (sym (map_snoc came_of g.visits t))));
        gone = ap (λ (d : DoorState I O). d.gone) left ∙ (ap (λ o. with_more o (left_of t ∷ [])) g.gone
            ∙ (with_both door0.gone (map left_of g.visits) (left_of t ∷ []) ∙ ap (with_more door0.gone) (sym (map_snoc left_of g.visits t))));
        port = ap (λ (d : DoorState I O). d.port) left ∙ g.port;
        served = served_snoc keys'.seen names'.seen g.visits t
            (still_served keys.seen keys'.seen names.seen names'.seen g.visits
            (met_stays keys0 keys theirs keys' (map keys_of g.visits) g.met_keys met) (met_stays names0 names their_names names' (map names_of g.visits) g.met_names met') g.served)
            (subst (λ (ks : List (KmsEntry D W)). serves s.input s.out ks (own their_names.number names'.seen) input out how)
            (ap (λ (n : ℕ). own n theirs.seen) (sym done.keys_number) ∙ sym (met.that_own theirs.number (inl refl)))
            (subst (λ (ns : List (NameEntry D W)). serves s.input s.out (own s.keys.number theirs.seen) ns input out how)
            (ap (λ (n : ℕ). own n their_names.seen) (sym done.names_number) ∙ sym (met'.that_own their_names.number (inl refl))) done.served));
        met_keys = subst (HasMet keys0 keys') (sym (map_snoc keys_of g.visits t)) (met_one keys0 keys theirs keys' (map keys_of g.visits) g.met_keys met none);
        met_names = subst (HasMet names0 names') (sym (map_snoc names_of g.visits t)) (met_one names0 names their_names names' (map names_of g.visits) g.met_names met' none');
        fresh = g.fresh.1;
      }

  -- no connection runs any longer
  pub going_ends : (first second : ℕ → ℕ) (door0 : DoorState I O) (keys0 : KmsKnown D W) (names0 : NameKnown D W) (door : DoorState I O) (keys : KmsKnown D W) (names : NameKnown D W) → Going serves door0 keys0 names0 door keys names []
      → Connections serves first second door0 keys0 names0 door keys names
  going_ends first second door0 keys0 names0 door keys names g =
      let accepted : door.accepted ≡ door0.accepted + (length g.visits + 0) = g.accepted in
      record {
        visits = g.visits;
        accepted = omega (arith, accepted);
        left = g.left;
        came = g.came ∙ ap (with_more door0.came) (append-nil (map came_of g.visits));
        gone = g.gone;
        served = g.served;
        other_keys = [];
        other_names = [];
        work = inl (refl, refl);
        met_keys = subst (HasMet keys0 keys) (sym (append-nil (map keys_of g.visits))) g.met_keys;
        met_names = subst (HasMet names0 names) (sym (append-nil (map names_of g.visits))) g.met_names;
      }

  -- two passes of workers are met as well
  pub workers_end : (first second : ℕ → ℕ) (door0 : DoorState I O) (keys0 : KmsKnown D W) (names0 : NameKnown D W) (door : DoorState I O) (keys begun theirs keys' : KmsKnown D W) (names names_begun their_names names' : NameKnown D W)
      → Going serves door0 keys0 names0 door keys names [] → IsFresh begun → IsFresh names_begun → PoolWorks first second begun names_begun theirs their_names → Meets keys theirs keys' → Meets names their_names names'
      → Connections serves first second door0 keys0 names0 door keys' names'
  workers_end first second door0 keys0 names0 door keys begun theirs keys' names names_begun their_names names' g fresh fresh' works met met' =
      let accepted : door.accepted ≡ door0.accepted + (length g.visits + 0) = g.accepted in
      record {
        visits = g.visits;
        accepted = omega (arith, accepted);
        left = g.left;
        came = g.came ∙ ap (with_more door0.came) (append-nil (map came_of g.visits));
        gone = g.gone;
        served = still_served keys.seen keys'.seen names.seen names'.seen g.visits
            (met_stays keys0 keys theirs keys' (map keys_of g.visits) g.met_keys met) (met_stays names0 names their_names names' (map names_of g.visits) g.met_names met') g.served;
        other_keys = theirs.number ∷ theirs.ended;
        other_names = their_names.number ∷ their_names.ended;
        work = inr (work_seen first second theirs.seen keys'.seen their_names.seen names'.seen (theirs.number ∷ theirs.ended) (their_names.number ∷ their_names.ended) met.that_own met'.that_own (works fresh fresh'));
        met_keys = met_more keys0 keys theirs keys' (map keys_of g.visits) g.met_keys met;
        met_names = met_more names0 names their_names names' (map names_of g.visits) g.met_names met';
      }

  -- the same, after a split for the workers
  pub workers_end_after : (first second : ℕ → ℕ) (door0 : DoorState I O) (keys0 keys1 : KmsKnown D W) (names0 names1 : NameKnown D W) (door : DoorState I O) (keys begun theirs keys' : KmsKnown D W) (names names_begun their_names names' : NameKnown D W)
      → keys1 ≡ keys0 → names1 ≡ names0 → Splits keys0 begun → Splits names0 names_begun → Going serves door0 keys1 names1 door keys names [] → PoolWorks first second begun names_begun theirs their_names
      → Meets keys theirs keys' → Meets names their_names names' → Connections serves first second door0 keys0 names0 door keys' names'
  workers_end_after first second door0 keys0 keys1 names0 names1 door keys begun theirs keys' names names_begun their_names names' same same' splits splits' g works met met' =
      workers_end first second door0 keys0 names0 door keys begun theirs keys' names names_begun their_names names'
      (subst (λ (k : KmsKnown D W). Going serves door0 k names0 door keys names []) same (subst (λ (n : NameKnown D W). Going serves door0 keys1 n door keys names []) same' g))
      (splits.no_own, splits.ended) (splits'.no_own, splits'.ended) works met met'

  -- nothing has happened yet
  pub connections_none : (first second : ℕ → ℕ) (door : DoorState I O) (keys : KmsKnown D W) (names : NameKnown D W) → Connections serves first second door keys names door keys names
  connections_none first second door keys names = going_ends first second door keys names door keys names (going_begins door keys names)
