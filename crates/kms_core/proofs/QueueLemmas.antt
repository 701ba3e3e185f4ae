-- The queues of ready keys, and what calls do to them.
use Rattle.std.proofs.Common.{◌≡◌, ℕ, zero, suc, ◌+◌, List, [], ◌∷◌, ◌++◌, length, take, drop, map, find, filter, Bool, true, false, not, ◌==◌, cond, Option, None, Some, Result, Ok, Err, refl, ap, sym, ◌∙◌, subst, arith, add-one}
use Rattle.std.specs.Prelude.{OnErr, nat_lt, slice_get, option_map}
use Rattle.std.specs.List.{AllByRecursion}
use Rattle.std.proofs.lemmas.Bool.{eqb-true}
use Rattle.hk_base.specs.declared.names.Edek.{Edek}
use Rattle.eek_queues.specs.Queues.{AllQueues, Queue, dropped, has_queue, put_queue, ready_in, set_ready}
use Rattle.eek_queues.proofs.Put.{all-put}
use Rattle.key_rows.specs.declared.rows.KeyRow.{KeyRow}
use Rattle.key_rows.specs.declared.rows.KeyCommand.{KeyCommand}
use Rattle.key_rows.specs.declared.rows.KeyCommand.TheVariants.{Opened, Create, Roll, Delete}
use Rattle.key_rows.specs.Table.{Table, after, current_of, find_birth, is_born, rolled, with_material}
use Rattle.key_rows.proofs.Rolls.{birth-rolled}
use Rattle.kms_store.specs.Store.{settled_table}
use Rattle.kms_core.specs.declared.drawing.CurrentVersion.{CurrentVersion}
use Rattle.kms_core.specs.Calls.{handed_out, with_queue}
use Rattle.kms_core.specs.Draws.{place_of_draw}
use Rattle.kms_core.specs.State.{AllReady, IsReadyFor, queues_after, settled_queues}
use Rattle.kms_core.specs.Steps.{DrewKeys, DrewSome}
use Rattle.kms_core.proofs.KeyLemmas.{found_passes}

-- one more ready key copied
pub one_more_taken : {X : Type 0} (xs : List X) (i : ℕ) (x : X) → slice_get xs i ≡ Some x → take (i + 1) xs ≡ take i xs ++ x ∷ []
one_more_taken {X = X} xs i x is = ap (λ n. take n xs) (add-one i) ∙ go xs i is
  where
    go : (xs : List X) (i : ℕ) → slice_get xs i ≡ Some x → take (suc i) xs ≡ take i xs ++ x ∷ []
    go [] i is = absurd cc
    go (y ∷ ys) zero is = let same : y ≡ x = cc in ap (λ z. z ∷ []) same
    go (y ∷ ys) (suc i) is = ap (λ zs. y ∷ zs) (go ys i is)

pub on_err : {A E : Type 0} (Q : Type 0) (result : Result A E) → Q → OnErr result Q
on_err Q (Ok x) q = tt
on_err Q (Err e) q = q

-- memory ran out after all keys were drawn
pub drew_all : (current : CurrentVersion) (words words' : ℕ → ℕ) (count : ℕ) (others keys : List Edek) → DrewKeys current words words' count others keys → DrewSome current words words' count
drew_all current words words' count others keys drew = record { drawn = place_of_draw (length current.material) count; few = omega arith; rest = drew.rest }

-- each ready key is of the current version

each_drop : {X : Type 0} (P : X → Type 0) (n : ℕ) (xs : List X) → AllByRecursion P xs → AllByRecursion P (drop n xs)
each_drop P zero xs each = each
each_drop P (suc n) [] each = each
each_drop P (suc n) (x ∷ xs) each = each_drop P n xs each.1

abbrev pub AllOf : KeyRow → List Edek → Type 0
AllOf row ready = AllByRecursion (λ (e : Edek). e.version ≡ current_of row) ready

pub ready_are : (rows : List KeyRow) (qs : List Queue) (birth : ℕ) (row : KeyRow) → AllReady rows qs → find_birth rows birth ≡ Some row → AllOf row (ready_in qs birth)
ready_are rows [] birth row all found = tt
ready_are rows (q ∷ qs) birth row all found = go (q.birth == birth) refl (ready_are rows qs birth row all.1 found)
  where
    go : (b : Bool) → (q.birth == birth) ≡ b → AllOf row (ready_in qs birth) → AllOf row (cond b q.ready (ready_in qs birth))
    go true is rest =
        let same : Some all.0.0 ≡ Some row = sym all.0.1 ∙ ap (λ n. find_birth rows n) (eqb-true q.birth birth is) ∙ found in
        let row_is : all.0.0 ≡ row = cc in
        subst (λ (r : KeyRow). AllOf r q.ready) row_is all.0.2
    go false is rest = rest

pub all_set : (rows : List KeyRow) (qs : List Queue) (birth : ℕ) (ready : List Edek) → AllReady rows qs → ((row : KeyRow) → find_birth rows birth ≡ Some row → AllOf row ready) → AllReady rows (set_ready qs birth ready)
all_set rows [] birth ready all each = tt
all_set rows (q ∷ qs) birth ready all each = (go (q.birth == birth) refl, all_set rows qs birth ready all.1 each)
  where
    go : (b : Bool) → (q.birth == birth) ≡ b → IsReadyFor rows (cond b (record { birth = birth; ready = ready }) q)
    go true is =
        let found : find_birth rows birth ≡ Some all.0.0 = ap (λ n. find_birth rows n) (sym (eqb-true q.birth birth is)) ∙ all.0.1 in
        (all.0.0, found, each all.0.0 found)
    go false is = all.0

pub all_put : (rows : List KeyRow) (qs : List Queue) (q : Queue) → AllReady rows qs → IsReadyFor rows q → AllReady rows (put_queue q qs)
all_put rows qs q all one = all-put (λ (a b : Queue). nat_lt a.birth b.birth) (IsReadyFor rows) q qs one all

-- the queues after a generate

pub all_with_queue : (rows : List KeyRow) (all : AllQueues) (birth : ℕ) (row : KeyRow) → find_birth rows birth ≡ Some row → AllReady rows all.queues → AllReady rows (with_queue all birth).queues
all_with_queue rows all birth row found each = go (has_queue all.queues birth)
  where
    go : (b : Bool) → AllReady rows (cond b all (record all { queues = put_queue (record { birth = birth; ready = [] }) all.queues })).queues
    go true = each
    go false = all_put rows all.queues (record { birth = birth; ready = [] }) each (row, found, tt)

pub all_handed_out : (rows : List KeyRow) (all : AllQueues) (birth count : ℕ) (row : KeyRow) → find_birth rows birth ≡ Some row → AllReady rows all.queues → AllReady rows (handed_out all birth count).queues
all_handed_out rows all birth count row found each =
    let made = with_queue all birth in
    let here : AllReady rows made.queues = all_with_queue rows all birth row found each in
    all_set rows made.queues birth (drop count (ready_in made.queues birth)) here (λ r is. each_drop (λ (e : Edek). e.version ≡ current_of r) count (ready_in made.queues birth) (ready_are rows made.queues birth r here is))

-- the queues after a command took effect

found_more : {X : Type 0} (p : X → Bool) (xs : List X) (x more : X) → find p xs ≡ Some x → find p (xs ++ more ∷ []) ≡ Some x
found_more p [] x more is = absurd cc
found_more {X = X} p (y ∷ ys) x more is =
    let P : Bool → Type 0 = λ b. cond b (Some y) (find p ys) ≡ Some x → cond b (Some y) (find p (ys ++ more ∷ [])) ≡ Some x in
    let cases : P (p y) = elim (p y) as P [ true ↦ λ h. h | false ↦ λ h. found_more p ys x more h ] in
    cases is

pub found_filter : {X : Type 0} (p keep : X → Bool) (xs : List X) (x : X) → find p xs ≡ Some x → keep x ≡ true → find p (filter keep xs) ≡ Some x
found_filter p keep [] x is kept = absurd cc
found_filter {X = X} p keep (y ∷ ys) x is kept =
    let P : Bool → Type 0 = λ b. p y ≡ b → cond b (Some y) (find p ys) ≡ Some x → find p (filter keep (y ∷ ys)) ≡ Some x in
    let cases : P (p y) = elim (p y) as P [
      | true ↦ λ passes h.
          let same : y ≡ x = cc in
          ap (λ b. find p (cond b (y ∷ filter keep ys) (filter keep ys))) (ap keep same ∙ kept) ∙ ap (λ b. cond b (Some y) (find p (filter keep ys))) passes ∙ ap Some same
      | false ↦ λ other h. skip (keep y) other (found_filter p keep ys x h kept)
    ] in
    cases refl is
  where
    skip : (b : Bool) → p y ≡ false → find p (filter keep ys) ≡ Some x → find p (cond b (y ∷ filter keep ys) (filter keep ys)) ≡ Some x
    skip true other rest = ap (λ b. cond b (Some y) (find p (filter keep ys))) other ∙ rest
    skip false other rest = rest

pub all_created : (rows : List KeyRow) (made : KeyRow) (qs : List Queue) → AllReady rows qs → AllReady (rows ++ made ∷ []) qs
all_created rows made [] all = tt
all_created rows made (q ∷ qs) all = ((all.0.0, found_more (is_born q.birth) rows all.0.0 made all.0.1, all.0.2), all_created rows made qs all.1)

find_rolled : (birth : ℕ) (material : List ℕ) (rows : List KeyRow) (b : ℕ) → find_birth (map (rolled birth material) rows) b ≡ option_map (rolled birth material) (find_birth rows b)
find_rolled birth material [] b = refl
find_rolled birth material (row ∷ rows) b =
    ap (λ t. cond t (Some (rolled birth material row)) (find_birth (map (rolled birth material) rows) b)) (ap (λ n. n == b) (birth-rolled birth material row)) ∙ go (is_born b row) (find_rolled birth material rows b)
  where
    go : (t : Bool) → find_birth (map (rolled birth material) rows) b ≡ option_map (rolled birth material) (find_birth rows b)
        → cond t (Some (rolled birth material row)) (find_birth (map (rolled birth material) rows) b) ≡ option_map (rolled birth material) (cond t (Some row) (find_birth rows b))
    go true rest = refl
    go false rest = rest

-- the birth of a row that is found
found_born : (rows : List KeyRow) (birth : ℕ) (row : KeyRow) → find_birth rows birth ≡ Some row → row.birth ≡ birth
found_born rows birth row found = eqb-true row.birth birth (found_passes (is_born birth) rows row found)

pub all_rolled : (rows : List KeyRow) (qs : List Queue) (birth : ℕ) (material : List ℕ) → AllReady rows qs → AllReady (map (rolled birth material) rows) (set_ready qs birth [])
all_rolled rows [] birth material all = tt
all_rolled rows (q ∷ qs) birth material all = (go (q.birth == birth) refl, all_rolled rows qs birth material all.1)
  where
    found : find_birth (map (rolled birth material) rows) q.birth ≡ Some (rolled birth material all.0.0)
    found = find_rolled birth material rows q.birth ∙ ap (option_map (rolled birth material)) all.0.1

    go : (b : Bool) → (q.birth == birth) ≡ b → IsReadyFor (map (rolled birth material) rows) (cond b (record { birth = birth; ready = [] }) q)
    go true is = (rolled birth material all.0.0, ap (λ n. find_birth (map (rolled birth material) rows) n) (sym (eqb-true q.birth birth is)) ∙ found, tt)
    go false is =
        let other : is_born birth all.0.0 ≡ false = ap (λ n. n == birth) (found_born rows q.birth all.0.0 all.0.1) ∙ is in
        let same : rolled birth material all.0.0 ≡ all.0.0 = ap (λ b. cond b (with_material material all.0.0) all.0.0) other in
        (all.0.0, found ∙ ap Some same, all.0.2)

pub all_deleted : (rows : List KeyRow) (qs : List Queue) (birth : ℕ) → AllReady rows qs → AllReady (filter (λ row. not (is_born birth row)) rows) (dropped qs birth)
all_deleted rows [] birth all = tt
all_deleted rows (q ∷ qs) birth all = go (q.birth == birth) refl (all_deleted rows qs birth all.1)
  where
    go : (b : Bool) → (q.birth == birth) ≡ b → AllReady (filter (λ row. not (is_born birth row)) rows) (dropped qs birth)
        → AllReady (filter (λ row. not (is_born birth row)) rows) (cond (not b) (q ∷ dropped qs birth) (dropped qs birth))
    go true is rest = rest
    go false is rest =
        let kept : not (is_born birth all.0.0) ≡ true = ap (λ n. not (n == birth)) (found_born rows q.birth all.0.0 all.0.1) ∙ ap not is in
        ((all.0.0, found_filter (is_born q.birth) (λ row. not (is_born birth row)) rows all.0.0 all.0.1 kept, all.0.2), rest)

pub ready_after : (t : Table) (all : AllQueues) (command : KeyCommand) → AllReady t.rows all.queues → AllReady (after t command).rows (queues_after all command).queues
ready_after t all (Opened opening) each = each
ready_after t all (Create birth name bits description created material) each = all_created t.rows _ all.queues each
ready_after t all (Roll birth number material) each = all_rolled t.rows all.queues birth material each
ready_after t all (Delete birth) each = all_deleted t.rows all.queues birth each

pub ready_settled : (kept : Bool) (pending : Option KeyCommand) (t : Table) (all : AllQueues) → AllReady t.rows all.queues → AllReady (settled_table kept pending t).rows (settled_queues kept pending all).queues
ready_settled kept None t all each = each
ready_settled true (Some command) t all each = ready_after t all command each
ready_settled false (Some command) t all each = each

-- the pending command was dropped
pub unsettled_queues : (pending : Option KeyCommand) (all : AllQueues) → settled_queues false pending all ≡ all
unsettled_queues None all = refl
unsettled_queues (Some command) all = refl
