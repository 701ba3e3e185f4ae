-- Commits and reads of the word keep the rule.
use Rattle.std.proofs.Common.{◌≡◌, ◌≢◌, ℕ, ◌+◌, ◌%◌, ◌^◌, ◌<◌, true, List, [], ◌∷◌, ◌++◌, length, refl, ap, sym, ◌∙◌, subst, arith, length-append, Option, Some, inl, inr, ne_eqb}
use Rattle.std.specs.Prelude.{slice_index, slice_set, ⊤}
use mathlib.Core.Option.{some}
use mathlib.Core.List.{IsPrefix}
use lib.ListN.{get_elem?}
use Rattle.atomic_table.specs.Table.{State, Allows, keeps}
use Rattle.atomic_table.proofs.Lists.{at_set, set_again}
use Rattle.hist_cell.specs.declared.views.Entry.{Entry}
use Rattle.hist_cell.specs.declared.views.View.{View}
use Rattle.hist_cell.specs.History.{IsIn, state_after, own, Legal, LegalOf, Follows, Fits, HasTurn, KeepsRule, Learns, with_entry, Committed}
use Rattle.hist_cell.proofs.Lists.{prefix_more, prefix_self, own-other, Legal-push, Legal-begins}

same_word : (ws : List ℕ) (n : ℕ) → ws ≡ n ∷ [] → slice_set ws 0 (slice_index ws 0) ≡ ws
same_word ws n is = subst (λ (us : List ℕ). slice_set us 0 (slice_index us 0) ≡ us) (sym is) refl

module _ {Q R S : Type 0} where
  words_after : (ws : List ℕ) (log : List (Entry Q R S)) (e : Entry Q R S) → ws ≡ length log ∷ [] → length log + 1 < 2 ^ 64
      → slice_set ws 0 ((slice_index ws 0 + 1) % 2 ^ 64) ≡ length (log ++ e ∷ []) ∷ []
  words_after ws log e is room =
      let m : (length log + 1) % 2 ^ 64 ≡ length (log ++ e ∷ []) = omega (arith, length-append log (e ∷ [])) in
      subst (λ (us : List ℕ). slice_set us 0 ((slice_index us 0 + 1) % 2 ^ 64) ≡ length (log ++ e ∷ []) ∷ []) (sym is) (ap (λ (k : ℕ). k ∷ []) m)

  module _ (step : S → Q → R → S → Type 0) (allows : List (Entry Q R S) → Q → Type 0) where
    follows_start : (start : S) (o : Option S) (es : List (Entry Q R S)) (e : Entry Q R S) → o ≡ Some start → Follows step allows o es e → allows es e.call × step (state_after start es) e.call e.reply e.after
    follows_start start o es e is h = subst (λ (p : Option S). Follows step allows p es e) is h

    module _ (start : S) (id : ℕ) (v : View Q R S) (e : Entry Q R S) (s : State ⊤ (View Q R S))
        (kept : KeepsRule step allows start s) (at : get_elem? s.views id ≡ some v) (turn : v.turn ≡ true) (mine : IsIn e.by v.numbers) where
      held : HasTurn kept.log s.views v
      held = kept.turn id v at turn

      after : List (View Q R S)
      after = slice_set s.views id (with_entry v e)

      -- the view that was there before
      was : (i : ℕ) (u : View Q R S) → get_elem? after i ≡ some u
          → (w : View Q R S) × (get_elem? s.views i ≡ some w) × (w.numbers ≡ u.numbers) × (w.spent ≡ u.spent) × (w.turn ≡ u.turn) × (w.start ≡ u.start) × (w.begun ≡ u.begun)
      unfolding after
      was i u got = elim (at_set s.views id i (with_entry v e) u got) [
        | inl h ↦ (v, rw h.0 at, ap (λ x. x.numbers) h.1, ap (λ x. x.spent) h.1, ap (λ x. x.turn) h.1, ap (λ x. x.start) h.1, ap (λ x. x.begun) h.1)
        | inr h ↦ (u, h.1, refl, refl, refl, refl, refl)
      ]

      fits_after : (i : ℕ) (u : View Q R S) → get_elem? after i ≡ some u → Fits (kept.log ++ e ∷ []) u
      unfolding after
      fits_after i u got = elim (at_set s.views id i (with_entry v e) u got) [
        | inl h ↦
            let f = kept.fits id v at in
            subst (Fits (kept.log ++ e ∷ [])) h.1 (record {
              begins = subst (λ l. IsPrefix (v.seen ++ e ∷ []) (l ++ e ∷ [])) held.all (prefix_self (v.seen ++ e ∷ []));
              all_own = λ k i. ap (λ l. own k (l ++ e ∷ [])) (sym held.all);
              base_begins = prefix_self (v.seen ++ e ∷ []);
              base_own = λ k i. refl;
              distinct = f.distinct;
            })
        | inr h ↦
            let f = kept.fits i u h.1 in
            record {
              begins = prefix_more u.seen kept.log e f.begins;
              all_own = λ k is.
                  let ne : e.by ≢ k = λ same. h.0 (sym (kept.apart id i v u at h.1 k (subst (λ (n : ℕ). IsIn n v.numbers) same mine) is)) in
                  own-other k kept.log e (ne_eqb e.by k ne) ∙ f.all_own k is;
              base_begins = f.base_begins;
              base_own = f.base_own;
              distinct = f.distinct;
            }
      ]

      turn_after : (i : ℕ) (u : View Q R S) → get_elem? after i ≡ some u → u.turn ≡ true → HasTurn (kept.log ++ e ∷ []) after u
      unfolding after
      turn_after i u got t = elim (at_set s.views id i (with_entry v e) u got) [
        | inl h ↦ subst (HasTurn (kept.log ++ e ∷ []) after) h.1 (record {
          alive = held.alive;
          all = ap (λ l. l ++ e ∷ []) held.all;
          below = λ j x got' k is. (let w = was j x got' in held.below j w.0 w.1 k (subst (IsIn k) (sym w.2) is));
          fresh = λ k le.
              let low : e.by < v.next = held.below id v at e.by mine in
              let ne : e.by ≢ k = λ same. absurd (omega (arith, low, le, same)) in
              own-other k kept.log e (ne_eqb e.by k ne) ∙ held.fresh k le;
        })
        | inr h ↦ absurd (h.0 (kept.one i id u v h.1 at t turn))
      ]

      kept_after : length v.seen + 1 < 2 ^ 64 → allows v.seen e.call → step (state_after start v.seen) e.call e.reply e.after
          → KeepsRule step allows start (record { words = slice_set s.words 0 ((slice_index s.words 0 + 1) % 2 ^ 64); homes = s.homes; views = after })
      kept_after room may right =
          let here = held.all in
          record {
            log = kept.log ++ e ∷ [];
            words = words_after s.words kept.log e kept.words (subst (λ l. length l + 1 < 2 ^ 64) here room);
            legal = Legal-push step allows start kept.log e kept.legal (subst (λ l. allows l e.call) here may) (subst (λ l. step (state_after start l) e.call e.reply e.after) here right);
            starts = λ i a x p. (let c = was i a x in let k = kept.starts i c.0 c.1 (c.3 ∙ p) in (sym c.5 ∙ k.0, sym c.6 ∙ k.1));
            fits = fits_after;
            turn = turn_after;
            one = λ i j a b x y p q.
                let c = was i a x in
                let d = was j b y in
                kept.one i j c.0 d.0 c.1 d.1 (c.4 ∙ p) (d.4 ∙ q);
            apart = λ i j a b x y k p q.
                let c = was i a x in
                let d = was j b y in
                kept.apart i j c.0 d.0 c.1 d.1 k (subst (IsIn k) (sym c.2) p) (subst (IsIn k) (sym d.2) q);
          }

    pub commits : (start : S) (slots id : ℕ) (v : View Q R S) (item : Option (Entry Q R S)) (carried : List (ℕ × ⊤)) (e : Entry Q R S)
        → item ≡ Some e → v.turn ≡ true → length v.seen + 1 < 2 ^ 64 → IsIn e.by v.numbers → Follows step allows v.start v.seen e
        → Allows (KeepsRule step allows start) slots id (v, carried) 0 (λ n. (n + 1) % 2 ^ 64) (λ found n. Committed step allows item v n.0 × (n.1 ≡ carried))
    unfolding after
    commits start slots id v item carried e said turn room mine right s kept homes at low =
        let held = kept.turn id v at turn in
        let is = (kept.starts id v at held.alive).0 in
        let right' = follows_start start v.start v.seen e is right in
        let all : Legal step allows start (v.seen ++ e ∷ []) = Legal-push step allows start v.seen e (subst (Legal step allows start) (sym held.all) kept.legal) right'.0 right'.1 in (
          with_entry v e,
          keeps,
          tt,
          kept_after start id v e s kept at turn mine room right'.0 right'.1,
          ((e, said, refl, subst (λ (o : Option S). LegalOf step allows o (v.seen ++ e ∷ [])) (sym is) all), refl),
        )

    pub learns : (start : S) (slots id : ℕ) (v : View Q R S) (carried : List (ℕ × ⊤))
        → Allows (KeepsRule step allows start) slots id (v, carried) 0 (λ n. n) (λ found n. Learns step allows v found × (n ≡ (v, carried)))
    learns start slots id v carried s kept homes at low =
        let f = kept.fits id v at in (
          v,
          keeps,
          tt,
          subst (λ (us : List ℕ). KeepsRule step allows start (record { words = us; homes = s.homes; views = slice_set s.views id v })) (sym (same_word s.words (length kept.log) kept.words))
              (subst (λ (vs : List (View Q R S)). KeepsRule step allows start (record { words = s.words; homes = s.homes; views = vs })) (sym (set_again s.views id v at)) kept),
          (
            record {
              begins = f.base_begins;
              base_own = f.base_own;
              distinct = f.distinct;
              legal = λ alive. subst (λ (o : Option S). LegalOf step allows o v.seen) (sym (kept.starts id v at alive).0) (Legal-begins step allows start v.seen kept.log f.begins kept.legal);
              same_start = λ alive. (let k = kept.starts id v at alive in k.1 ∙ sym k.0);
              leads = λ turn.
                  let held = kept.turn id v at turn in
                  record {
                    count = ap (λ us. slice_index us 0) kept.words ∙ ap length (sym held.all);
                    below = held.below id v at;
                    fresh = λ k le. ap (own k) held.all ∙ held.fresh k le;
                  };
            },
            refl,
          ),
        )
