-- What the entries of workers come to.
use Rattle.std.specs.Prelude.{◌≡◌, ℕ, zero, suc, List, [], ◌∷◌, ◌++◌, All}
use Rattle.std.proofs.Common.{refl, ap, sym, ◌∙◌, subst, inl, inr, append_assoc, append-nil}
use Rattle.std.proofs.lemmas.List.Elements.{All-append, All-cons, All-nil}
use Rattle.hk_base.specs.Disk.{DiskState}
use Rattle.hist_cell.specs.declared.views.Entry.{Entry}
use Rattle.hist_cell.specs.declared.views.Known.{Known}
use Rattle.hist_cell.specs.History.{IsIn, MakesEntry, Meets, Splits, own}
use Rattle.kms_cell.specs.Entries.{KmsEntry, KmsKnown}
use Rattle.kms_cell.specs.Fills.{FillsTurn}
use Rattle.kms_cell.specs.declared.filling.FillTurn.{FillTurn}
use Rattle.name_history.specs.Entries.{NameEntry, NameKnown}
use Rattle.turns.specs.Entries.{MakesEntries}
use Rattle.cell_workers.specs.Work.{Adds, AreFillTurns, PoolWorks, FilledFrom, Fills, FillsBoth, IsPoolWork, IsFresh, IsNameWork, Works}

pub in_right : (k : ℕ) (ms ns : List ℕ) → IsIn k ns → IsIn k (ms ++ ns)
in_right k [] ns i = i
in_right k (m ∷ ms) ns i = inr (in_right k ms ns i)

pub in_left : (k : ℕ) (ms ns : List ℕ) → IsIn k ms → IsIn k (ms ++ ns)
in_left k [] ns i = absurd i
in_left k (m ∷ ms) ns i = elim i [
  | inl here ↦ inl here
  | inr there ↦ inr (in_left k ms ns there)
]

in_either : (P : Type 0) (k : ℕ) (ms ns : List ℕ) → (IsIn k ms → P) → (IsIn k ns → P) → IsIn k (ms ++ ns) → P
in_either P k [] ns f g i = g i
in_either P k (m ∷ ms) ns f g i = elim i [
  | inl here ↦ f (inl here)
  | inr there ↦ in_either P k ms ns (λ j. f (inr j)) g there
]

module _ {Q R S : Type 0} where
  -- ---- the entries of one pass

  adds_none : (v : Known Q R S) → Adds v [] [] v
  adds_none v = record { number = refl; ended = sym (append-nil v.ended); mine = sym (append-nil (own v.number v.seen)) }

  adds_then : (v w x : Known Q R S) (made more : List (Entry Q R S)) (others : List ℕ) → Adds v made [] w → Adds w more others x → Adds v (made ++ more) others x
  adds_then v w x made more others m n = record {
    number = n.number ∙ m.number;
    ended = n.ended ∙ ap (λ l. l ++ others) (m.ended ∙ append-nil v.ended);
    mine = subst (λ (k : ℕ). own k x.seen ≡ own k w.seen ++ more) m.number n.mine
        ∙ (ap (λ (l : List (Entry Q R S)). l ++ more) m.mine ∙ append_assoc (own v.number v.seen) made more);
  }

  -- another pass is met
  adds_met : (v w u x : Known Q R S) (made : List (Entry Q R S)) (others : List ℕ) → Adds v made others w → Meets w u x → Adds v made (others ++ u.number ∷ u.ended) x
  adds_met v w u x made others m met = record {
    number = met.number ∙ m.number;
    ended = met.ended ∙ (ap (λ l. l ++ u.number ∷ u.ended) m.ended ∙ append_assoc v.ended others (u.number ∷ u.ended));
    mine = met.this_own v.number (inl (sym m.number)) ∙ m.mine;
  }

  -- the entries of a pass that had made none
  own_made : (v w : Known Q R S) (made : List (Entry Q R S)) (others : List ℕ) (k : ℕ) → IsFresh v → Adds v made others w → k ≡ w.number → own k w.seen ≡ made
  own_made v w made others k fresh m is =
      ap (λ (n : ℕ). own n w.seen) (is ∙ m.number) ∙ (m.mine ∙ ap (λ (l : List (Entry Q R S)). l ++ made) fresh.0)

  -- the passes that were met into a pass into which none had been met
  ended_others : (v w : Known Q R S) (made : List (Entry Q R S)) (others : List ℕ) → IsFresh v → Adds v made others w → w.ended ≡ others
  ended_others v w made others fresh m = m.ended ∙ ap (λ l. l ++ others) fresh.1

  -- ---- work

  pub works_none : (work : Entry Q R S → Type 0) (v : Known Q R S) → Works work v [] v
  works_none work v = record { made = []; adds = adds_none v; all = All-nil work; all_others = λ k i. absurd i }

  pub works_then : (work : Entry Q R S → Type 0) (v w x : Known Q R S) (others : List ℕ) → Works work v [] w → Works work w others x → Works work v others x
  works_then work v w x others m n = record {
    made = m.made ++ n.made;
    adds = adds_then v w x m.made n.made others m.adds n.adds;
    all = All-append work m.made n.made m.all n.all;
    all_others = n.all_others;
  }

  pub works_same : (work : Entry Q R S → Type 0) (v w x : Known Q R S) (others : List ℕ) → x ≡ w → Works work v others w → Works work v others x
  works_same work v w x others same m = subst (λ (y : Known Q R S). Works work v others y) (sym same) m

  pub works_from : (work : Entry Q R S → Type 0) (u v w : Known Q R S) (others : List ℕ) → v ≡ u → Works work v others w → Works work u others w
  works_from work u v w others same m = subst (λ (y : Known Q R S). Works work y others w) same m

  pub works_entry : {step : S → Q → R → S → Type 0} {allows : List (Entry Q R S) → Q → Type 0} (work : Entry Q R S → Type 0) (v w : Known Q R S) (q : Q) (r : R)
      → (a : MakesEntry step allows v q r w) → work a.entry → Works work v [] w
  works_entry work v w q r a is = record {
    made = a.entry ∷ [];
    adds = record { number = a.same.0; ended = a.same.1 ∙ sym (append-nil v.ended); mine = a.mine };
    all = All-cons work a.entry [] is (All-nil work);
    all_others = λ k i. absurd i;
  }

  pub works_entries : {step : S → Q → R → S → Type 0} {allows : List (Entry Q R S) → Q → Type 0} (work : Entry Q R S → Type 0) (v w : Known Q R S) (made : List (Entry Q R S))
      → MakesEntries step allows v made w → All work made → Works work v [] w
  works_entries work v w made m all = record {
    made = made;
    adds = record { number = m.same.0; ended = m.same.1 ∙ sym (append-nil v.ended); mine = m.mine };
    all = all;
    all_others = λ k i. absurd i;
  }

  -- all entries of such a pass are work
  works_of : (work : Entry Q R S → Type 0) (v w : Known Q R S) (others : List ℕ) → IsFresh v → Works work v others w → (k : ℕ) → IsIn k (w.number ∷ others) → All work (own k w.seen)
  works_of work v w others fresh m k i = elim i [
    | inl here ↦ subst (All work) (sym (own_made v w m.made others k fresh m.adds here)) m.all
    | inr there ↦ m.all_others k there
  ]

  -- such a pass is met into another one
  pub works_met : (work : Entry Q R S → Type 0) (v w t u x : Known Q R S) (others theirs : List ℕ) → Works work v others w → Splits v t → Works work t theirs u → Meets w u x
      → Works work v (others ++ u.number ∷ theirs) x
  works_met work v w t u x others theirs m splits n met =
      let fresh : IsFresh t = (splits.no_own, splits.ended) in
      let ended : u.ended ≡ theirs = ended_others t u n.made theirs fresh n.adds in
      record {
        made = m.made;
        adds = subst (λ l. Adds v m.made (others ++ u.number ∷ l) x) ended (adds_met v w u x m.made others m.adds met);
        all = m.all;
        all_others = λ k i. in_either (All work (own k x.seen)) k others (u.number ∷ theirs)
            (λ j. subst (All work) (sym (met.this_own k (inr (subst (IsIn k) (sym m.adds.ended) (in_right k v.ended others j))))) (m.all_others k j))
            (λ j. subst (All work) (sym (met.that_own k (subst (λ l. IsIn k (u.number ∷ l)) (sym ended) j))) (works_of work t u theirs fresh n k j)) i;
      }

-- ---- fillers

module _ {D W : Type 0} where
  turns_then : (n m : ℕ) (words rest words' : ℕ → ℕ) (made more : List (KmsEntry D W)) → AreFillTurns n words made rest → AreFillTurns m rest more words'
      → (all : ℕ) × AreFillTurns all words (made ++ more) words'
  turns_then zero m words rest words' made more (none, same) turns =
      (m, subst (λ (l : List (KmsEntry D W)). AreFillTurns m words (l ++ more) words') (sym none) (subst (λ (f : ℕ → ℕ). AreFillTurns m f more words') same turns))
  turns_then (suc n) m words rest words' made more (here, there, mid, is, turn, before) turns =
      let (all, on) = turns_then n m mid rest words' there more before turns in
      (suc all, (here, there ++ more, mid, ap (λ (l : List (KmsEntry D W)). l ++ more) is ∙ append_assoc here there more, turn, on))

  pub fills_none : (words : ℕ → ℕ) (v : KmsKnown D W) → Fills words words v v
  fills_none words v = record { turns = 0; made = []; adds = adds_none v; fills = (refl, refl) }

  pub fills_then : (words rest words' : ℕ → ℕ) (v w x : KmsKnown D W) → Fills words rest v w → Fills rest words' w x → Fills words words' v x
  fills_then words rest words' v w x f g =
      let (all, turns) = turns_then f.turns g.turns words rest words' f.made g.made f.fills g.fills in
      record { turns = all; made = f.made ++ g.made; adds = adds_then v w x f.made g.made [] f.adds g.adds; fills = turns }

  fills_once : (state : D → DiskState) (to_come : W → ℕ → ℕ) (words words' : ℕ → ℕ) (v w : KmsKnown D W) (result : FillTurn) → FillsTurn state to_come words words' v result w → Fills words words' v w
  fills_once state to_come words words' v w result t = record {
    turns = 1;
    made = t.asked ∷ t.made;
    adds = record { number = t.makes.same.0; ended = t.makes.same.1 ∙ sym (append-nil v.ended); mine = t.makes.mine };
    fills = (
      t.asked ∷ t.made,
      [],
      words',
      sym (append-nil (t.asked ∷ t.made)),
      record { ticket = t.ticket; asked = t.asked; deposits = t.made; result = result; made_is = refl; call_is = t.call_is; reply_is = t.reply_is; fills = t.fills },
      (refl, refl),
    );
  }

  -- one more turn
  pub fills_more : (state : D → DiskState) (to_come : W → ℕ → ℕ) (words rest words' : ℕ → ℕ) (v w x : KmsKnown D W) (result : FillTurn) → Fills words rest v w
      → FillsTurn state to_come rest words' w result x → Fills words words' v x
  fills_more state to_come words rest words' v w x result f t = fills_then words rest words' v w x f (fills_once state to_come rest words' w x result t)

  -- both fillers are done, and the second one's pass is met
  pub fills_both : (first second rest rest' : ℕ → ℕ) (v v' w t u x : KmsKnown D W) → v' ≡ v → Splits v t → Fills first rest v' w → Fills second rest' t u → Meets w u x → FillsBoth first second v x
  fills_both first second rest rest' v v' w t u x same splits f g met =
      let fresh : IsFresh t = (splits.no_own, splits.ended) in
      let adds : Adds v f.made [] w = subst (λ (y : KmsKnown D W). Adds y f.made [] w) same f.adds in
      record {
        made = f.made;
        other = u.number;
        adds = subst (λ l. Adds v f.made (u.number ∷ l) x) (ended_others t u g.made [] fresh g.adds) (adds_met v w u x f.made [] adds met);
        fills = record { turns = f.turns; rest = rest; fills = f.fills };
        other_fills = subst (FilledFrom second) (sym (met.that_own u.number (inl refl) ∙ own_made t u g.made [] u.number fresh g.adds refl))
            (record { turns = g.turns; rest = rest'; fills = g.fills });
      }

  -- ---- all workers

  pub pool_works : (first second : ℕ → ℕ) (keys x : KmsKnown D W) (names asked n : NameKnown D W) (others : List ℕ) → FillsBoth first second keys x
      → Works IsNameWork names [] asked → Works IsNameWork asked others n → PoolWorks first second keys names x n
  pool_works first second keys x names asked n others b asks works fresh fresh' =
      let worked : Works IsNameWork names others n = works_then IsNameWork names asked n others asks works in
      record {
        filler = x.number;
        other_filler = b.other;
        numbers = ap (λ l. x.number ∷ l) (ended_others keys x b.made (b.other ∷ []) fresh b.adds);
        fills = subst (FilledFrom first) (sym (own_made keys x b.made (b.other ∷ []) x.number fresh b.adds refl)) b.fills;
        other_fills = b.other_fills;
        works = λ k i.
            works_of IsNameWork names n others fresh' worked k (subst (λ l. IsIn k (n.number ∷ l)) (ended_others names n worked.made others fresh' worked.adds) i);
      }

  -- work is seen by whoever has seen its entries
  pub work_seen : (first second : ℕ → ℕ) (keys keys' : List (KmsEntry D W)) (names names' : List (NameEntry D W)) (of_keys of_names : List ℕ)
      → ((k : ℕ) → IsIn k of_keys → own k keys' ≡ own k keys) → ((k : ℕ) → IsIn k of_names → own k names' ≡ own k names)
      → IsPoolWork first second keys names of_keys of_names → IsPoolWork first second keys' names' of_keys of_names
  work_seen first second keys keys' names names' of_keys of_names same same' d =
      let there : (k : ℕ) → IsIn k (d.filler ∷ d.other_filler ∷ []) → IsIn k of_keys = λ k i. subst (IsIn k) (sym d.numbers) i in
      record {
        filler = d.filler;
        other_filler = d.other_filler;
        numbers = d.numbers;
        fills = subst (FilledFrom first) (sym (same d.filler (there d.filler (inl refl)))) d.fills;
        other_fills = subst (FilledFrom second) (sym (same d.other_filler (there d.other_filler (inr (inl refl))))) d.other_fills;
        works = λ k i. subst (All (IsNameWork {D = D} {W = W})) (sym (same' k i)) (d.works k i);
      }
