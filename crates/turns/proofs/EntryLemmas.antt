-- Entries that are made one after another.
use Rattle.std.proofs.Common.{◌≡◌, ℕ, List, [], ◌∷◌, ◌++◌, refl, ap, sym, ◌∙◌, subst, append_assoc, append-nil}
use Rattle.hist_cell.specs.declared.views.Entry.{Entry}
use Rattle.hist_cell.specs.declared.views.Known.{Known}
use Rattle.hist_cell.specs.History.{LegalOf, MakesEntry, own}
use Rattle.turns.specs.Entries.{MakesEntries}

module _ {Q R S : Type 0} (step : S → Q → R → S → Type 0) (allows : List (Entry Q R S) → Q → Type 0) where
  abbrev Makes : Known Q R S → List (Entry Q R S) → Known Q R S → Type 0
  Makes v made w = MakesEntries step allows v made w

  pub made_none : (v : Known Q R S) → LegalOf step allows v.start v.seen → Makes v [] v
  made_none v legal = record { begins = ([], append-nil v.seen); mine = sym (append-nil (own v.number v.seen)); legal = legal; same = (refl, refl, refl) }

  -- an entry, and then those that were made after it
  pub made_first : (v w x : Known Q R S) (made : List (Entry Q R S)) (q : Q) (r : R) → (a : MakesEntry step allows v q r w) → Makes w made x → Makes v (a.entry ∷ made) x
  made_first v w x made q r a m = record {
    begins = (
      (a.between ++ a.entry ∷ []) ++ m.begins.0,
      sym (append_assoc v.seen (a.between ++ a.entry ∷ []) m.begins.0)
          ∙ (ap (λ (l : List (Entry Q R S)). l ++ m.begins.0) (sym (append_assoc v.seen a.between (a.entry ∷ [])) ∙ sym a.seen) ∙ m.begins.1),
    );
    mine = subst (λ (n : ℕ). own n x.seen ≡ own n w.seen ++ made) a.same.0 m.mine
        ∙ (ap (λ (l : List (Entry Q R S)). l ++ made) a.mine ∙ append_assoc (own v.number v.seen) (a.entry ∷ []) made);
    legal = m.legal;
    same = (m.same.0 ∙ a.same.0, m.same.1 ∙ a.same.1, m.same.2 ∙ a.same.2);
  }

  pub made_one : (v w : Known Q R S) (q : Q) (r : R) → (a : MakesEntry step allows v q r w) → Makes v (a.entry ∷ []) w
  made_one v w q r a = made_first v w w [] q r a (made_none w a.legal)

  -- entries after others
  pub made_after : (v w x : Known Q R S) (made more : List (Entry Q R S)) → Makes v made w → Makes w more x → Makes v (made ++ more) x
  made_after v w x made more m n = record {
    begins = (
      m.begins.0 ++ n.begins.0,
      sym (append_assoc v.seen m.begins.0 n.begins.0) ∙ (ap (λ (l : List (Entry Q R S)). l ++ n.begins.0) m.begins.1 ∙ n.begins.1),
    );
    mine = subst (λ (k : ℕ). own k x.seen ≡ own k w.seen ++ more) m.same.0 n.mine
        ∙ (ap (λ (l : List (Entry Q R S)). l ++ more) m.mine ∙ append_assoc (own v.number v.seen) made more);
    legal = n.legal;
    same = (n.same.0 ∙ m.same.0, n.same.1 ∙ m.same.1, n.same.2 ∙ m.same.2);
  }

  -- if the pass had made no call, they are all entries of its number
  pub made_own : (v w : Known Q R S) (made : List (Entry Q R S)) → own v.number v.seen ≡ [] → Makes v made w → own v.number w.seen ≡ made
  made_own v w made none m = m.mine ∙ ap (λ (l : List (Entry Q R S)). l ++ made) none
