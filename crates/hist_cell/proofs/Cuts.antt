-- A view is cut in two.
use Rattle.std.proofs.Common.{◌≡◌, ◌≢◌, ℕ, zero, suc, ◌+◌, ◌<◌, ◌≤◌, true, false, true≢false, List, [], ◌∷◌, ◌++◌, length, refl, ap, sym, ◌∙◌, subst, arith, inl, inr, ◌⊎◌}
use Rattle.std.specs.Prelude.{slice_set, ⊤}
use mathlib.Core.Option.{some, some-injective, some-ne-none}
use lib.ListN.{get_elem?}
use Rattle.atomic_table.specs.Table.{State, Splits}
use Rattle.atomic_table.proofs.Lists.{at_set}
use Rattle.hist_cell.specs.declared.views.Entry.{Entry}
use Rattle.hist_cell.specs.declared.views.View.{View}
use Rattle.hist_cell.specs.History.{IsIn, own, Fits, HasTurn, KeepsRule, without_turn, as_before, turn_of, counted, newcomer}
use Rattle.hist_cell.proofs.Lists.{prefix_self, prefix_trans, own-none}

at_end : {A : Type 0} (l : List A) (a b : A) (j : ℕ) → get_elem? (l ++ a ∷ []) j ≡ some b → (get_elem? l j ≡ some b) ⊎ ((j ≡ length l) × (a ≡ b))
at_end [] a b zero e = inr (refl, some-injective a b e)
at_end [] a b (suc j) e = absurd (some-ne-none b (sym e))
at_end (x ∷ xs) a b zero e = inl e
at_end (x ∷ xs) a b (suc j) e = elim (at_end xs a b j e) [
  | inl h ↦ inl h
  | inr h ↦ inr (ap suc h.0, h.1)
]

module _ {Q R S : Type 0} (step : S → Q → R → S → Type 0) (allows : List (Entry Q R S) → Q → Type 0) where
  -- x has seen all, and its next number is above those of the view v and of a new view r
  Leads : List (Entry Q R S) → View Q R S → View Q R S → View Q R S → Type 0
  Leads log v r x = (x.spent ≡ false) × (x.seen ≡ log) × (v.next ≤ x.next) × ((k : ℕ) → IsIn k r.numbers → k < x.next) × ((k : ℕ) → x.next ≤ k → own k log ≡ [])

  module _ (start : S) (id : ℕ) (v l r : View Q R S) (s : State ⊤ (View Q R S)) (kept : KeepsRule step allows start s) (at : get_elem? s.views id ≡ some v) (turn : v.turn ≡ true)
      (same : l.numbers ≡ v.numbers) (new : (k : ℕ) → IsIn k r.numbers → v.next ≤ k)
      (starts_l : (l.start ≡ v.start) × (l.begun ≡ v.begun)) (starts_r : (r.start ≡ v.start) × (r.begun ≡ v.start)) (fits_l : Fits kept.log l) (fits_r : Fits kept.log r)
      (leads_l : l.turn ≡ true → Leads kept.log v r l) (leads_r : r.turn ≡ true → Leads kept.log v r r) (once : l.turn ≡ true → r.turn ≡ true → ⊥) where
    held : HasTurn kept.log s.views v
    held = kept.turn id v at turn

    rest : List (View Q R S)
    rest = slice_set s.views id l

    all : List (View Q R S)
    all = rest ++ r ∷ []

    -- a view is the new one, the one that was cut, or an old one without the turn
    is_of : (i : ℕ) (u : View Q R S) → get_elem? all i ≡ some u
        → ((i ≡ length rest) × (r ≡ u)) ⊎ (((i ≡ id) × (l ≡ u)) ⊎ ((i ≢ id) × (get_elem? s.views i ≡ some u)))
    unfolding all rest
    is_of i u got = elim (at_end (slice_set s.views id l) r u i got) [
      | inl h ↦ inr (at_set s.views id i l u h)
      | inr h ↦ inl h
    ]

    -- a number is the new one's, or one that the view there had before
    came : (i : ℕ) (u : View Q R S) → get_elem? all i ≡ some u → (k : ℕ) → IsIn k u.numbers
        → ((i ≡ length rest) × IsIn k r.numbers) ⊎ ((x : View Q R S) × (get_elem? s.views i ≡ some x) × IsIn k x.numbers)
    came i u got k is = elim (is_of i u got) [
      | inl h ↦ inl (h.0, subst (λ (y : View Q R S). IsIn k y.numbers) (sym h.1) is)
      | inr h ↦ elim h [
        | inl g ↦ inr (v, rw g.0 at, subst (IsIn k) (sym (ap (λ y. y.numbers) g.1) ∙ same) is)
        | inr g ↦ inr (u, g.1, is)
      ]
    ]

    to_turn : (x : View Q R S) → Leads kept.log v r x → HasTurn kept.log all x
    unfolding Leads
    to_turn x h = record {
      alive = h.0;
      all = h.1;
      below = λ i u got k is. (elim (came i u got k is) [
        | inl g ↦ h.3 k g.1
        | inr g ↦ (let lt : k < v.next = held.below i g.0 g.1 k g.2 in let le : v.next ≤ x.next = h.2 in omega (arith, lt, le))
      ]);
      fresh = h.4;
    }

    turn_all : (i : ℕ) (u : View Q R S) → get_elem? all i ≡ some u → u.turn ≡ true → HasTurn kept.log all u
    turn_all i u got t = elim (is_of i u got) [
      | inl h ↦ subst (HasTurn kept.log all) h.1 (to_turn r (leads_r (ap (λ y. y.turn) h.1 ∙ t)))
      | inr h ↦ elim h [
        | inl g ↦ subst (HasTurn kept.log all) g.1 (to_turn l (leads_l (ap (λ y. y.turn) g.1 ∙ t)))
        | inr g ↦ absurd (g.0 (kept.one i id u v g.1 at t turn))
      ]
    ]

    where_turn : (i : ℕ) (u : View Q R S) → get_elem? all i ≡ some u → u.turn ≡ true → ((i ≡ length rest) × (r.turn ≡ true)) ⊎ ((i ≡ id) × (l.turn ≡ true))
    where_turn i u got t = elim (is_of i u got) [
      | inl h ↦ inl (h.0, ap (λ y. y.turn) h.1 ∙ t)
      | inr h ↦ elim h [
        | inl g ↦ inr (g.0, ap (λ y. y.turn) g.1 ∙ t)
        | inr g ↦ absurd (g.0 (kept.one i id u v g.1 at t turn))
      ]
    ]

    clash : (k : ℕ) (i : ℕ) (x : View Q R S) → IsIn k r.numbers → get_elem? s.views i ≡ some x → IsIn k x.numbers → ⊥
    clash k i x p q is = (let le : v.next ≤ k = new k p in let lt : k < v.next = held.below i x q k is in omega (arith, le, lt))

    kept_cut : KeepsRule step allows start (record { words = s.words; homes = s.homes; views = all })
    kept_cut = record {
      log = kept.log;
      words = kept.words;
      legal = kept.legal;
      starts = λ i u got lives. (elim (is_of i u got) [
        | inl h ↦ (let k = kept.starts id v at held.alive in (sym (ap (λ y. y.start) h.1) ∙ (starts_r.0 ∙ k.0), sym (ap (λ y. y.begun) h.1) ∙ (starts_r.1 ∙ k.0)))
        | inr h ↦ elim h [
          | inl g ↦ (let k = kept.starts id v at held.alive in (sym (ap (λ y. y.start) g.1) ∙ (starts_l.0 ∙ k.0), sym (ap (λ y. y.begun) g.1) ∙ (starts_l.1 ∙ k.1)))
          | inr g ↦ kept.starts i u g.1 lives
        ]
      ]);
      fits = λ i u got. (elim (is_of i u got) [
        | inl h ↦ subst (Fits kept.log) h.1 fits_r
        | inr h ↦ elim h [
          | inl g ↦ subst (Fits kept.log) g.1 fits_l
          | inr g ↦ kept.fits i u g.1
        ]
      ]);
      turn = turn_all;
      one = λ i j a b x y p q. (elim (where_turn i a x p) [
        | inl h ↦ elim (where_turn j b y q) [
          | inl g ↦ h.0 ∙ sym g.0
          | inr g ↦ absurd (once g.1 h.1)
        ]
        | inr h ↦ elim (where_turn j b y q) [
          | inl g ↦ absurd (once h.1 g.1)
          | inr g ↦ h.0 ∙ sym g.0
        ]
      ]);
      apart = λ i j a b x y k p q. (elim (came i a x k p) [
        | inl h ↦ elim (came j b y k q) [
          | inl g ↦ h.0 ∙ sym g.0
          | inr g ↦ absurd (clash k j g.0 h.1 g.1 g.2)
        ]
        | inr h ↦ elim (came j b y k q) [
          | inl g ↦ absurd (clash k i h.0 g.1 h.1 h.2)
          | inr g ↦ kept.apart i j h.0 g.0 h.1 g.1 k h.2 g.2
        ]
      ]);
    }

  -- the turn goes back
  pub gives : (start : S) (id : ℕ) (v : View Q R S) → v.turn ≡ true → Splits (KeepsRule step allows start) id v (without_turn v) (turn_of v)
  unfolding all rest Leads
  gives start id v turn s kept at =
      let h = kept.turn id v at turn in
      let f = kept.fits id v at in
      kept_cut start id v (without_turn v) (turn_of v) s kept at turn refl (λ k i. absurd i) (refl, refl) (refl, refl)
      (record { begins = f.begins; all_own = f.all_own; base_begins = prefix_self v.seen; base_own = λ k i. refl; distinct = f.distinct })
      (record { begins = f.begins; all_own = λ k i. absurd i; base_begins = prefix_self v.seen; base_own = λ k i. refl; distinct = tt })
      (λ t. absurd (true≢false (sym t)))
      (λ t. (refl, h.all, omega arith, (λ k i. absurd i), h.fresh))
      (λ t. absurd (true≢false (sym t)))

  -- the turn goes back, and the view is what it was
  pub returns : (start : S) (id : ℕ) (v : View Q R S) → v.turn ≡ true → v.held ≡ v.numbers → Splits (KeepsRule step allows start) id v (as_before v) (turn_of v)
  unfolding all rest Leads
  returns start id v turn own_held s kept at =
      let h = kept.turn id v at turn in
      let f = kept.fits id v at in
      kept_cut start id v (as_before v) (turn_of v) s kept at turn refl (λ k i. absurd i) (refl, refl) (refl, refl)
      (record { begins = prefix_trans v.base v.seen kept.log f.base_begins f.begins; all_own = λ k i. f.all_own k i ∙ f.base_own k (subst (IsIn k) (sym own_held) i); base_begins = prefix_self v.base; base_own = λ k i. refl; distinct = f.distinct })
      (record { begins = f.begins; all_own = λ k i. absurd i; base_begins = prefix_self v.seen; base_own = λ k i. refl; distinct = tt })
      (λ t. absurd (true≢false (sym t)))
      (λ t. (refl, h.all, omega arith, (λ k i. absurd i), h.fresh))
      (λ t. absurd (true≢false (sym t)))

  -- a new view
  pub forks : (start : S) (id : ℕ) (v : View Q R S) → v.turn ≡ true → Splits (KeepsRule step allows start) id v (counted v) (newcomer v)
  unfolding all rest Leads
  forks start id v turn s kept at =
      let h = kept.turn id v at turn in
      let f = kept.fits id v at in
      let begins = prefix_trans v.base v.seen kept.log f.base_begins f.begins in
      let only : (k : ℕ) → IsIn k (v.next ∷ []) → k ≡ v.next = λ k i. elim i [ inl e ↦ e | inr e ↦ absurd e ] in
      let none : (k : ℕ) → IsIn k (v.next ∷ []) → own k kept.log ≡ [] = λ k i. (let e = only k i in h.fresh k (omega (arith, e))) in
      kept_cut start id v (counted v) (newcomer v) s kept at turn refl (λ k i. (let e = only k i in omega (arith, e))) (refl, refl) (refl, refl)
      (record { begins = f.begins; all_own = f.all_own; base_begins = f.base_begins; base_own = f.base_own; distinct = f.distinct })
      (record {
        begins = begins;
        all_own = λ k i. none k i ∙ sym (own-none k v.base kept.log begins (none k i));
        base_begins = prefix_self v.base;
        base_own = λ k i. refl;
        distinct = ((λ i. i), tt);
      })
      (λ t. (h.alive, h.all, omega arith, (λ k i. (let e = only k i in omega (arith, e))), (λ k le. (let l : v.next + 1 ≤ k = le in h.fresh k (omega (arith, l))))))
      (λ t. absurd (true≢false (sym t)))
      (λ t q. absurd (true≢false (sym q)))
