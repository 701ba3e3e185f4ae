-- What a call under the lock comes to.
use Rattle.std.proofs.Common.{◌≡◌, ℕ, ◌<◌, Bool, true, false, List, [], ◌∷◌, ◌++◌, length, refl, ap, sym, ◌∙◌, subst, Option, Some, inl, eq-eqb, arith, cond, ltb}
use Rattle.hist_cell.specs.declared.views.Entry.{Entry}
use Rattle.hist_cell.specs.declared.views.Known.{Known}
use Rattle.hist_cell.specs.declared.views.View.{View}
use Rattle.hist_cell.specs.History.{IsIn, first_number, other_numbers, state_after, own, LegalOf, Learns, Lends, MakesEntryOn, Splits, TakesIn, Meets, Closes, state_of, Distinct, longer, shorter, united, known, with_turn, with_entry, without_turn, turn_of, newcomer, entry_by}
use Rattle.hist_cell.proofs.Lists.{own-mine, own-none, state_after-push, both_begin}

pub one_item : {A : Type 0} (x y : A) → x ∷ [] ≡ y ∷ [] → x ≡ y
one_item x y e = cc e

pub first_in : (ns : List ℕ) → ns ≡ first_number ns ∷ other_numbers ns → IsIn (first_number ns) ns
first_in ns is = subst (IsIn (first_number ns)) (sym is) (inl refl)

module _ {Q R S : Type 0} (step : S → Q → R → S → Type 0) (allows : List (Entry Q R S) → Q → Type 0) where
  acts_plain : (first s s' : S) (p t : View Q R S) (call : Q) (reply : R) (found : ℕ) → t.start ≡ Some first → s ≡ state_after first t.seen
      → p.numbers ≡ first_number p.numbers ∷ other_numbers p.numbers → Learns step allows (with_turn p t) found
      → LegalOf step allows p.start (t.seen ++ entry_by (with_turn p t) call reply s' ∷ [])
      → MakesEntryOn step allows s (known p) call reply (known (without_turn (with_entry (with_turn p t) (entry_by (with_turn p t) call reply s')))) s'
  acts_plain first s s' p t call reply found first_is before ns look legal =
      let e : Entry Q R S = entry_by (with_turn p t) call reply s' in
      record {
        acts = record {
          entry = e;
          between = look.begins.0;
          by = refl;
          call_is = refl;
          reply_is = refl;
          seen = ap (λ l. l ++ e ∷ []) (sym look.begins.1);
          mine = own-mine (first_number p.numbers) t.seen e (eq-eqb e.by (first_number p.numbers) refl) ∙ ap (λ l. l ++ e ∷ []) (look.base_own (first_number p.numbers) (first_in p.numbers ns));
          legal = legal;
          same = (refl, refl, refl);
        };
        first = first;
        first_is = sym (look.same_start refl) ∙ first_is;
        before = before ∙ ap (state_after first) (sym look.begins.1);
        after = refl;
      }

  -- what a call under the lock comes to: the caller p took the turn t, and their view m got the entry
  pub acts_by : (first s s' : S) (old : Known Q R S) (p t m w : View Q R S) (found : ℕ) (said call : Q) (reply : R) → t.start ≡ Some first → s ≡ state_after first t.seen
      → known p ≡ old → m ≡ with_turn p t → said ≡ call → p.numbers ≡ first_number p.numbers ∷ other_numbers p.numbers → Learns step allows m found
      → LegalOf step allows m.start (m.seen ++ entry_by m said reply s' ∷ []) → w ≡ without_turn (with_entry m (entry_by m said reply s'))
      → MakesEntryOn step allows s old call reply (known w) s'
  acts_by first s s' old p t m w found said call reply first_is before is took called ns look legal gave =
      let look' : Learns step allows (with_turn p t) found = subst (λ (y : View Q R S). Learns step allows y found) took look in
      let legal' : LegalOf step allows p.start (t.seen ++ entry_by (with_turn p t) said reply s' ∷ []) = subst (λ (y : View Q R S). LegalOf step allows y.start (y.seen ++ entry_by y said reply s' ∷ [])) took legal in
      let end : w ≡ without_turn (with_entry (with_turn p t) (entry_by (with_turn p t) said reply s')) = gave ∙ ap (λ y. without_turn (with_entry y (entry_by y said reply s'))) took in
      subst (λ (o : Known Q R S). MakesEntryOn step allows s o call reply (known w) s') is
      (subst (λ (q : Q). MakesEntryOn step allows s (known p) q reply (known w) s') called
      (subst (λ (y : View Q R S). MakesEntryOn step allows s (known p) said reply (known y) s') (sym end)
      (acts_plain first s s' p t said reply found first_is before ns look' legal')))

  -- the pass that was lent before the entry
  pub lends_by : {H : Type 0} (lends : S → H → Type 0) (s s' : S) (v w : Known Q R S) (call : Q) (reply : R) (lent : H)
      → MakesEntryOn step allows s v call reply w s' → lends s lent → Lends step allows lends v call reply w lent
  lends_by lends s s' v w call reply lent a given = record {
    acts = a.acts;
    first = a.first;
    first_is = a.first_is;
    given = subst (λ (x : S). lends x lent) a.before given;
  }

  -- the pass that was taken in before the entry
  pub takes_in_by : {H : Type 0} (takes : S → H → S → Type 0) (answers : S → Q → R → S → Type 0) (s s' : S) (v w : Known Q R S) (with : H) (call : Q) (reply : R)
      → MakesEntryOn step allows s v call reply w s' → ((met : S) × takes s with met × answers met call reply s') → TakesIn step allows takes answers v with call reply w
  takes_in_by takes answers s s' v w with call reply a m = record {
    acts = a.acts;
    first = a.first;
    first_is = a.first_is;
    met = m.0;
    took = subst (λ (x : S). takes x with m.0) a.before m.1;
    answered = subst (λ (x : S). answers m.0 call reply x) (sym a.after) m.2;
  }

  -- a caller's start is the turn's
  pub start_of : (p t m u : View Q R S) (first : S) (found : ℕ) → m ≡ with_turn p t → t ≡ u → u.start ≡ Some first → Learns step allows m found → m.start ≡ Some first
  start_of p t m u first found took same is look =
      sym (look.same_start (ap (λ (y : View Q R S). y.spent) took)) ∙ (ap (λ (y : View Q R S). y.begun) took ∙ (ap (λ (y : View Q R S). y.start) same ∙ is))

  -- the turn that was taken has seen what the invariant says
  pub core_seen : (first core : S) (t u : View Q R S) → core ≡ state_after first u.seen → t ≡ u → core ≡ state_after first t.seen
  core_seen first core t u is same = is ∙ ap (λ (y : View Q R S). state_after first y.seen) (sym same)

  -- the state after the entry too
  pub core_after : (first : S) (m w : View Q R S) (e : Entry Q R S) → w ≡ turn_of (with_entry m e) → e.after ≡ state_after first w.seen
  core_after first m w e gave = sym (state_after-push first m.seen e) ∙ ap (state_after first) (sym (ap (λ (y : View Q R S). y.seen) gave))

  splits_plain : (p t : View Q R S) (found : ℕ) → p.numbers ≡ first_number p.numbers ∷ other_numbers p.numbers → Learns step allows (with_turn p t) found → Splits (known p) (known (newcomer (with_turn p t)))
  splits_plain p t found ns look =
      let lead = look.leads refl in
      record {
        seen = refl;
        ended = refl;
        start = refl;
        new = λ i. (let low : t.next < t.next = lead.below t.next (subst (IsIn t.next) (sym ns) i) in omega (arith, low));
        no_own = own-none t.next p.seen t.seen look.begins (lead.fresh t.next (omega arith));
      }

  pub splits_by : (old : Known Q R S) (p t m n : View Q R S) (found : ℕ) → known p ≡ old → m ≡ with_turn p t → n ≡ newcomer m
      → p.numbers ≡ first_number p.numbers ∷ other_numbers p.numbers → Learns step allows m found → Splits old (known n)
  splits_by old p t m n found is took new ns look =
      subst (λ o. Splits o (known n)) is
      (subst (λ (y : View Q R S). Splits (known p) (known y)) (sym (new ∙ ap newcomer took))
      (splits_plain p t found ns (subst (λ (y : View Q R S). Learns step allows y found) took look)))

  first_both : (ms ns : List ℕ) → ms ≡ first_number ms ∷ other_numbers ms → first_number (ms ++ ns) ≡ first_number ms
  first_both [] ns e = absurd (cc e)
  first_both (m ∷ ms) ns e = refl

  others_both : (ms ns : List ℕ) → ms ≡ first_number ms ∷ other_numbers ms → ns ≡ first_number ns ∷ other_numbers ns → other_numbers (ms ++ ns) ≡ other_numbers ms ++ first_number ns ∷ other_numbers ns
  others_both [] ns e f = absurd (cc e)
  others_both (m ∷ ms) ns e f = ap (λ (l : List ℕ). ms ++ l) f

  not_none : (ms ns : List ℕ) → ms ≡ first_number ms ∷ other_numbers ms → ms ++ ns ≡ first_number (ms ++ ns) ∷ other_numbers (ms ++ ns)
  not_none [] ns e = absurd (cc e)
  not_none (m ∷ ms) ns e = refl

  owns_by : (b : Bool) (v w : View Q R S) (found : ℕ) → ltb (length v.seen) (length w.seen) ≡ b → Learns step allows (united v w) found
      → ((k : ℕ) → IsIn k v.numbers → own k (longer v.seen w.seen) ≡ own k v.seen) × ((k : ℕ) → IsIn k w.numbers → own k (longer v.seen w.seen) ≡ own k w.seen)
  owns_by true v w found is look =
      let l : longer v.seen w.seen ≡ w.seen = rw is refl in
      let s : shorter v.seen w.seen ≡ v.seen = rw is refl in
      let h : (united v w).held ≡ v.numbers = rw is refl in
      ((λ k i. look.base_own k (subst (IsIn k) (sym h) i) ∙ ap (own k) s), (λ k i. ap (own k) l))
  owns_by false v w found is look =
      let l : longer v.seen w.seen ≡ v.seen = rw is refl in
      let s : shorter v.seen w.seen ≡ w.seen = rw is refl in
      let h : (united v w).held ≡ w.numbers = rw is refl in
      ((λ k i. ap (own k) l), (λ k i. look.base_own k (subst (IsIn k) (sym h) i) ∙ ap (own k) s))

  meets_plain : (v w : View Q R S) (found : ℕ) → v.numbers ≡ first_number v.numbers ∷ other_numbers v.numbers → w.numbers ≡ first_number w.numbers ∷ other_numbers w.numbers
      → v.spent ≡ false → Learns step allows (united v w) found → Meets (known v) (known w) (known (united v w))
  meets_plain v w found nv nw alive look =
      let owns = owns_by (ltb (length v.seen) (length w.seen)) v w found refl look in
      let begin = both_begin v.seen w.seen look.begins in
      record {
        number = first_both v.numbers w.numbers nv;
        start = refl;
        same_start = look.same_start alive;
        ended = others_both v.numbers w.numbers nv nw;
        seen = refl;
        this = begin.0;
        that = begin.1;
        this_own = λ k i. owns.0 k (subst (IsIn k) (sym nv) i);
        that_own = λ k i. owns.1 k (subst (IsIn k) (sym nw) i);
        distinct = subst Distinct (not_none v.numbers w.numbers nv) look.distinct;
      }

  pub meets_by : (old from : Known Q R S) (v w m : View Q R S) (found : ℕ) → known v ≡ old → known w ≡ from → m ≡ united v w
      → v.numbers ≡ first_number v.numbers ∷ other_numbers v.numbers → w.numbers ≡ first_number w.numbers ∷ other_numbers w.numbers
      → v.spent ≡ false → Learns step allows m found → Meets old from (known m)
  meets_by old from v w m found is is' met nv nw alive look =
      subst (λ o. Meets o from (known m)) is
      (subst (λ o. Meets (known v) o (known m)) is'
      (subst (λ (y : View Q R S). Meets (known v) (known w) (known y)) (sym met)
      (meets_plain v w found nv nw alive (subst (λ (y : View Q R S). Learns step allows y found) met look))))

  pub still_numbered : (v w m : View Q R S) → m ≡ united v w → v.numbers ≡ first_number v.numbers ∷ other_numbers v.numbers → m.numbers ≡ first_number m.numbers ∷ other_numbers m.numbers
  still_numbered v w m met nv = subst (λ (y : View Q R S). y.numbers ≡ first_number y.numbers ∷ other_numbers y.numbers) (sym met) (not_none v.numbers w.numbers nv)

  count_by : (b : Bool) (xs ys : List (Entry Q R S)) → ltb (length xs) (length ys) ≡ b → cond b (length ys) (length xs) ≡ length (cond b ys xs)
  count_by true xs ys is = refl
  count_by false xs ys is = refl

  pub counts_both : (v w m : View Q R S) (a b c : ℕ) → m ≡ united v w → a ≡ length v.seen → b ≡ length w.seen → c ≡ cond (ltb a b) b a → c ≡ length m.seen
  counts_both v w m a b c met is is' more =
      more ∙ (ap (λ (x : ℕ). cond (ltb x b) b x) is ∙ (ap (λ (x : ℕ). cond (ltb (length v.seen) x) x (length v.seen)) is' ∙ (count_by (ltb (length v.seen) (length w.seen)) v.seen w.seen refl ∙ ap (λ y. length y.seen) (sym met))))

  closes_plain : (first core : S) (p t : View Q R S) (found : ℕ) → t.start ≡ Some first → core ≡ state_after first t.seen → p.numbers ≡ first_number p.numbers ∷ other_numbers p.numbers
      → Learns step allows (with_turn p t) found → Closes step allows (known p) core
  closes_plain first core p t found first_is core_is ns look = record {
    all = t.seen;
    begins = look.begins;
    legal = look.legal refl;
    core_is = ap Some core_is ∙ ap (λ (o : Option S). state_of o t.seen) (sym (sym (look.same_start refl) ∙ first_is));
    mine = λ k i. look.base_own k (subst (IsIn k) (sym ns) i);
  }

  pub closes_by : (old : Known Q R S) (first core : S) (p t m u : View Q R S) (found : ℕ) → known p ≡ old → m ≡ with_turn p t → t ≡ u → u.start ≡ Some first → core ≡ state_after first u.seen
      → p.numbers ≡ first_number p.numbers ∷ other_numbers p.numbers → Learns step allows m found → Closes step allows old core
  closes_by old first core p t m u found is took same first_is core_is ns look =
      subst (λ o. Closes step allows o core) is
      (closes_plain first core p t found (ap (λ (y : View Q R S). y.start) same ∙ first_is) (core_seen first core t u core_is same) ns (subst (λ (y : View Q R S). Learns step allows y found) took look))
