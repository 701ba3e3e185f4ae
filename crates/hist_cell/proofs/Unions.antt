-- Two views are made one.
use Rattle.std.proofs.Common.{◌≡◌, ◌≢◌, ℕ, Bool, true, false, true≢false, List, [], length, refl, ap, sym, ◌∙◌, subst, arith, inl, inr, ◌⊎◌, cond, ltb, ltb-true, ltb-false}
use Rattle.std.specs.Prelude.{slice_set, ⊤}
use mathlib.Core.Option.{some}
use mathlib.Core.List.{IsPrefix}
use lib.ListN.{get_elem?}
use Rattle.atomic_table.specs.Table.{State, Joins}
use Rattle.atomic_table.proofs.Lists.{at_set}
use Rattle.hist_cell.specs.declared.views.Entry.{Entry}
use Rattle.hist_cell.specs.declared.views.View.{View}
use Rattle.hist_cell.specs.History.{IsIn, own, longer, shorter, Fits, HasTurn, KeepsRule, with_turn, united, spent_view}
use Rattle.hist_cell.proofs.Lists.{longer_begins, shorter_begins, this_begins, that_begins, own-between, prefix_shorter, in_either, distinct_both}

module _ {Q R S : Type 0} (step : S → Q → R → S → Type 0) (allows : List (Entry Q R S) → Q → Type 0) where
  module _ (start : S) (id other : ℕ) (v w both : View Q R S) (s : State ⊤ (View Q R S)) (kept : KeepsRule step allows start s) (at : get_elem? s.views id ≡ some v) (apart : ¬ (other ≡ id))
      (at_other : get_elem? s.views other ≡ some w) (alive : v.spent ≡ false) (alive_w : w.spent ≡ false) (starts : (both.start ≡ v.start) × (both.begun ≡ w.start)) (fits : Fits kept.log both)
      (from : (k : ℕ) → IsIn k both.numbers → IsIn k v.numbers ⊎ IsIn k w.numbers)
      (leads : both.turn ≡ true → (w.turn ≡ true) × HasTurn kept.log s.views both) where
    all : List (View Q R S)
    all = slice_set (slice_set s.views id both) other spent_view

    is_of : (i : ℕ) (u : View Q R S) → get_elem? all i ≡ some u
        → ((i ≡ other) × (spent_view ≡ u)) ⊎ (((i ≡ id) × (i ≢ other) × (both ≡ u)) ⊎ ((i ≢ other) × (get_elem? s.views i ≡ some u)))
    unfolding all
    is_of i u got = elim (at_set (slice_set s.views id both) other i spent_view u got) [
      | inl h ↦ inl h
      | inr h ↦ elim (at_set s.views id i both u h.1) [
        | inl g ↦ inr (inl (g.0, h.0, g.1))
        | inr g ↦ inr (inr (h.0, g.1))
      ]
    ]

    -- the place o was the place i, or the one that is spent now
    From : ℕ → ℕ → Type 0
    From o i = ((o ≡ i) ⊎ ((o ≡ other) × (i ≡ id))) × (i ≢ other)

    met : (o o' i j : ℕ) → From o i → From o' j → o ≡ o' → i ≡ j
    unfolding From
    met o o' i j a b e = elim a.0 [
      | inl h ↦ elim b.0 [
        | inl g ↦ sym h ∙ (e ∙ g)
        | inr g ↦ absurd (a.1 (sym h ∙ (e ∙ g.0)))
      ]
      | inr h ↦ elim b.0 [
        | inl g ↦ absurd (b.1 (sym g ∙ (sym e ∙ h.0)))
        | inr g ↦ h.1 ∙ sym g.1
      ]
    ]

    -- which old view had the number
    came : (i : ℕ) (u : View Q R S) → get_elem? all i ≡ some u → (k : ℕ) → IsIn k u.numbers
        → (o : ℕ) × (x : View Q R S) × (get_elem? s.views o ≡ some x) × IsIn k x.numbers × From o i
    unfolding From
    came i u got k is = elim (is_of i u got) [
      | inl h ↦ absurd (subst (λ (y : View Q R S). IsIn k y.numbers) (sym h.1) is)
      | inr h ↦ elim h [
        | inl g ↦ elim (from k (subst (λ (y : View Q R S). IsIn k y.numbers) (sym g.2) is)) [
          | inl m ↦ (id, v, at, m, (inl (sym g.0), g.1))
          | inr m ↦ (other, w, at_other, m, (inr (refl, g.0), g.1))
        ]
        | inr g ↦ (i, u, g.1, is, (inl refl, g.0))
      ]
    ]

    -- which old view had the turn
    led : (i : ℕ) (u : View Q R S) → get_elem? all i ≡ some u → u.turn ≡ true
        → (o : ℕ) × (x : View Q R S) × (get_elem? s.views o ≡ some x) × (x.turn ≡ true) × From o i
    unfolding From
    led i u got t = elim (is_of i u got) [
      | inl h ↦ absurd (true≢false (sym (ap (λ y. y.turn) h.1 ∙ t)))
      | inr h ↦ elim h [
        | inl g ↦ (other, w, at_other, (leads (ap (λ y. y.turn) g.2 ∙ t)).0, (inr (refl, g.0), g.1))
        | inr g ↦ (i, u, g.1, t, (inl refl, g.0))
      ]
    ]

    to_turn : (x : View Q R S) → HasTurn kept.log s.views x → HasTurn kept.log all x
    to_turn x h = record {
      alive = h.alive;
      all = h.all;
      below = λ i u got k is. (let c = came i u got k is in h.below c.0 c.1 c.2 k c.3);
      fresh = h.fresh;
    }

    kept_union : KeepsRule step allows start (record { words = s.words; homes = s.homes; views = all })
    kept_union = record {
      log = kept.log;
      words = kept.words;
      legal = kept.legal;
      starts = λ i u got lives. (elim (is_of i u got) [
        | inl h ↦ absurd (true≢false (ap (λ y. y.spent) h.1 ∙ lives))
        | inr h ↦ elim h [
          | inl g ↦ (sym (ap (λ y. y.start) g.2) ∙ (starts.0 ∙ (kept.starts id v at alive).0), sym (ap (λ y. y.begun) g.2) ∙ (starts.1 ∙ (kept.starts other w at_other alive_w).0))
          | inr g ↦ kept.starts i u g.1 lives
        ]
      ]);
      fits = λ i u got. (elim (is_of i u got) [
        | inl h ↦ subst (Fits kept.log) h.1 (record { begins = (kept.log, refl); all_own = λ k i. absurd i; base_begins = ([], refl); base_own = λ k i. refl; distinct = tt })
        | inr h ↦ elim h [
          | inl g ↦ subst (Fits kept.log) g.2 fits
          | inr g ↦ kept.fits i u g.1
        ]
      ]);
      turn = λ i u got t. (elim (is_of i u got) [
        | inl h ↦ absurd (true≢false (sym (ap (λ y. y.turn) h.1 ∙ t)))
        | inr h ↦ elim h [
          | inl g ↦ subst (HasTurn kept.log all) g.2 (to_turn both (leads (ap (λ y. y.turn) g.2 ∙ t)).1)
          | inr g ↦ to_turn u (kept.turn i u g.1 t)
        ]
      ]);
      one = λ i j a b x y p q.
          let c = led i a x p in
          let d = led j b y q in
          met c.0 d.0 i j c.4 d.4 (kept.one c.0 d.0 c.1 d.1 c.2 d.2 c.3 d.3);
      apart = λ i j a b x y k p q.
          let c = came i a x k p in
          let d = came j b y k q in
          met c.0 d.0 i j c.4 d.4 (kept.apart c.0 d.0 c.1 d.1 c.2 d.2 k c.3 d.3);
    }

  there_was : (views : List (View Q R S)) (id other : ℕ) (both w : View Q R S) → ¬ (other ≡ id) → get_elem? (slice_set views id both) other ≡ some w → get_elem? views other ≡ some w
  there_was views id other both w apart there = elim (at_set views id other both w there) [
    | inl h ↦ absurd (apart h.0)
    | inr h ↦ h.1
  ]

  -- the turn is taken
  pub takes : (start : S) (id other : ℕ) (v w : View Q R S) → v.spent ≡ false → w.turn ≡ true → Joins (KeepsRule step allows start) id v other w (with_turn v w) spent_view
  unfolding all
  takes start id other v w alive turn s kept at apart there =
      let at_other = there_was s.views id other (with_turn v w) w apart there in
      let h = kept.turn other w at_other turn in
      let f = kept.fits id v at in
      kept_union start id other v w (with_turn v w) s kept at apart at_other alive h.alive (refl, refl)
      (record {
        begins = (kept.fits other w at_other).begins;
        all_own = λ k i. ap (own k) (sym h.all);
        base_begins = subst (λ l. IsPrefix v.seen l) (sym h.all) f.begins;
        base_own = λ k i. ap (own k) h.all ∙ f.all_own k i;
        distinct = f.distinct;
      })
      (λ k i. inl i)
      (λ t. (turn, record { alive = refl; all = h.all; below = h.below; fresh = h.fresh }))

  -- the numbers of whoever had seen less have all their entries in what it had seen
  shorter_by : (b : Bool) (v w : View Q R S) (log : List (Entry Q R S)) → ltb (length v.seen) (length w.seen) ≡ b → Fits log v → Fits log w
      → (k : ℕ) → IsIn k (cond b v.numbers w.numbers) → own k (cond b w.seen v.seen) ≡ own k (cond b v.seen w.seen)
  shorter_by true v w log is f g k i =
      let lt = ltb-true (length v.seen) (length w.seen) is in
      let p = prefix_shorter v.seen w.seen log f.begins g.begins (omega (arith, lt)) in
      sym (own-between k v.seen w.seen log p g.begins (f.all_own k i)) ∙ f.all_own k i
  shorter_by false v w log is f g k i =
      let p = prefix_shorter w.seen v.seen log g.begins f.begins (ltb-false (length v.seen) (length w.seen) is) in
      sym (own-between k w.seen v.seen log p f.begins (g.all_own k i)) ∙ g.all_own k i

  shorter_own : (v w : View Q R S) (log : List (Entry Q R S)) → Fits log v → Fits log w → (k : ℕ) → IsIn k (united v w).held → own k (longer v.seen w.seen) ≡ own k (shorter v.seen w.seen)
  shorter_own v w log f g k i = shorter_by (ltb (length v.seen) (length w.seen)) v w log refl f g k i

  -- one caller's view is met into another's
  pub unites : (start : S) (id other : ℕ) (v w : View Q R S) → v.spent ≡ false → w.spent ≡ false → Joins (KeepsRule step allows start) id v other w (united v w) spent_view
  unfolding all
  unites start id other v w alive alive_w s kept at apart there =
      let at_other = there_was s.views id other (united v w) w apart there in
      let f = kept.fits id v at in
      let g = kept.fits other w at_other in
      let begins = longer_begins v.seen w.seen kept.log f.begins g.begins in
      kept_union start id other v w (united v w) s kept at apart at_other alive alive_w (refl, refl)
      (record {
        begins = begins;
        all_own = λ k i. (elim (in_either k v.numbers w.numbers i) [
          | inl m ↦ own-between k v.seen (longer v.seen w.seen) kept.log (this_begins v.seen w.seen kept.log f.begins g.begins) begins (f.all_own k m)
          | inr m ↦ own-between k w.seen (longer v.seen w.seen) kept.log (that_begins v.seen w.seen kept.log f.begins g.begins) begins (g.all_own k m)
        ]);
        base_begins = shorter_begins v.seen w.seen kept.log f.begins g.begins;
        base_own = λ k i. shorter_own v w kept.log f g k i;
        distinct = distinct_both v.numbers w.numbers f.distinct g.distinct (λ k i j. apart (sym (kept.apart id other v w at at_other k i j)));
      })
      (λ k i. in_either k v.numbers w.numbers i)
      (λ t. absurd (true≢false (sym t)))
