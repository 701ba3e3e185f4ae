-- What the deposits of a filler come to.
use Rattle.std.proofs.Common.{◌≡◌, ℕ, suc, ◌+◌, ◌<◌, List, [], ◌∷◌, ◌++◌, length, map, Option, Some, None, refl, ap, sym, ◌∙◌, subst, inl, inr, arith, add-one, append_assoc, append-nil, length-append}
use Rattle.std.proofs.lemmas.List.{map-append}
use Rattle.hk_base.specs.Disk.{DiskState}
use Rattle.eek_seal.specs.Tickets.{SealedKey}
use Rattle.eek_seal.specs.declared.deposit.Deposit.{Deposit}
use Rattle.eek_seal.specs.declared.deposit.Deposit.TheVariants as deposit
use Rattle.eek_seal.specs.declared.tickets.Ticket.{Ticket}
use Rattle.hist_cell.specs.declared.views.Entry.{Entry}
use Rattle.hist_cell.specs.History.{LegalOf, own}
use Rattle.kms_core.specs.Draws.{place_of_draw, sealed_with, words_of_draw}
use Rattle.kms_core.specs.Steps.{Drew}
use Rattle.kms_cell.specs.Entries.{KmsEntry, KmsKnown, Makes, MakesAll}
use Rattle.kms_cell.specs.Fills.{AreDeposits, FillsKeys, FillsTurn, all_kept, deposits_of, sealed_draw}
use Rattle.kms_cell.specs.Steps.{KmsSteps}
use Rattle.kms_cell.specs.Tickets.{HasTicket, HasTicket-grows, IsSealedWith, KmsAllows, ReturnsTicket}
use Rattle.kms_cell.specs.Views.{KmsView}
use Rattle.kms_cell.specs.declared.acts.KmsAct.{KmsAct}
use Rattle.kms_cell.specs.declared.acts.KmsAct.TheVariants as act
use Rattle.kms_cell.specs.declared.acts.KmsActed.{KmsActed}
use Rattle.kms_cell.specs.declared.acts.KmsActed.TheVariants as acted
use Rattle.kms_cell.specs.declared.filling.FillTurn.{FillTurn}
use Rattle.kms_cell.specs.declared.filling.FillTurn.TheVariants as turn

length-push : {A : Type 0} (xs : List A) (x : A) → length (xs ++ x ∷ []) ≡ suc (length xs)
length-push xs x = length-append xs (x ∷ []) ∙ add-one (length xs)

-- words drawn after others
draws_on : (words words' words'' : ℕ → ℕ) (before count : ℕ) → Drew words words' before → Drew words' words'' count → Drew words words'' (before + count)
draws_on words words' words'' before count first second = λ k. second k ∙ first (count + k) ∙ ap words (omega arith)

next_place : (len number : ℕ) → place_of_draw len number + words_of_draw len ≡ place_of_draw len (number + 1)
next_place len number = grind arith

ticket_end : {S : Type 0} (ticket : Ticket) (es : List (Entry KmsAct KmsActed S)) (e : Entry KmsAct KmsActed S) → ReturnsTicket ticket e → HasTicket ticket (es ++ e ∷ [])
ticket_end ticket [] e returns = inl returns
ticket_end ticket (x ∷ es) e returns = inr (ticket_end ticket es e returns)

-- a key that was drawn and sealed with a ticket is one of its keys
sealed_by : (ticket : Ticket) (words : ℕ → ℕ) (x : SealedKey) → x ≡ sealed_with ticket words → IsSealedWith ticket x
sealed_by ticket words x is = record { words = words; is = is }

module _ {D W : Type 0} (state : D → DiskState) (to_come : W → ℕ → ℕ) where
  pub made_none : (v : KmsKnown D W) → LegalOf (KmsSteps {D = D} {W = W} state to_come) (KmsAllows {S = KmsView D W}) v.start v.seen → MakesAll state to_come v [] v
  made_none v legal = record { begins = ([], append-nil v.seen); mine = sym (append-nil (own v.number v.seen)); legal = legal; same = (refl, refl, refl) }

  -- one more entry after those that were made
  pub made_more : (v w x : KmsKnown D W) (made : List (KmsEntry D W)) (q : KmsAct) (r : KmsActed) → MakesAll state to_come v made w → (a : Makes state to_come w q r x)
      → MakesAll state to_come v (made ++ a.entry ∷ []) x
  made_more v w x made q r m a = record {
    begins = (
      m.begins.0 ++ (a.between ++ a.entry ∷ []),
      sym (append_assoc v.seen m.begins.0 (a.between ++ a.entry ∷ []))
          ∙ (ap (λ (l : List (KmsEntry D W)). l ++ (a.between ++ a.entry ∷ [])) m.begins.1
          ∙ (sym (append_assoc w.seen a.between (a.entry ∷ [])) ∙ sym a.seen)),
    );
    mine = subst (λ (n : ℕ). own n x.seen ≡ own n w.seen ++ a.entry ∷ []) m.same.0 a.mine
        ∙ (ap (λ (l : List (KmsEntry D W)). l ++ a.entry ∷ []) m.mine ∙ append_assoc (own v.number v.seen) made (a.entry ∷ []));
    legal = a.legal;
    same = (a.same.0 ∙ m.same.0, a.same.1 ∙ m.same.1, a.same.2 ∙ m.same.2);
  }

  -- an entry, and then those that were made after it
  pub made_first : (v w x : KmsKnown D W) (made : List (KmsEntry D W)) (q : KmsAct) (r : KmsActed) → (a : Makes state to_come v q r w) → MakesAll state to_come w made x
      → MakesAll state to_come v (a.entry ∷ made) x
  made_first v w x made q r a m = record {
    begins = (
      (a.between ++ a.entry ∷ []) ++ m.begins.0,
      sym (append_assoc v.seen (a.between ++ a.entry ∷ []) m.begins.0)
          ∙ (ap (λ (l : List (KmsEntry D W)). l ++ m.begins.0) (sym (append_assoc v.seen a.between (a.entry ∷ [])) ∙ sym a.seen) ∙ m.begins.1),
    );
    mine = subst (λ (n : ℕ). own n x.seen ≡ own n w.seen ++ made) a.same.0 m.mine
        ∙ (ap (λ (l : List (KmsEntry D W)). l ++ made) a.mine ∙ append_assoc (own v.number v.seen) (a.entry ∷ []) made);
    legal = m.legal;
    same = (m.same.0 ∙ a.same.0, m.same.1 ∙ a.same.1, m.same.2 ∙ a.same.2);
  }

  deposits_none : (ticket : Ticket) (words : ℕ → ℕ) → AreDeposits {D = D} {W = W} ticket words words [] []
  deposits_none ticket words = record {
    calls = refl;
    replies = refl;
    rest = λ k. (let e : k ≡ place_of_draw (length ticket.material) 0 + k = omega arith in ap words e);
  }

  -- one more deposit, of the next draw
  deposits_more : (ticket : Ticket) (words words' words'' : ℕ → ℕ) (made : List (KmsEntry D W)) (answers : List Deposit) (e : KmsEntry D W) (answer : Deposit)
      → AreDeposits ticket words words' made answers → e.call ≡ act.Deposit (sealed_with ticket words') → e.reply ≡ acted.Deposit answer
      → Drew words' words'' (words_of_draw (length ticket.material)) → AreDeposits ticket words words'' (made ++ e ∷ []) (answers ++ answer ∷ [])
  deposits_more ticket words words' words'' made answers e answer d call_is reply_is more =
      let len : ℕ = length ticket.material in
      let n : ℕ = length answers in
      let same : words' ≡ (λ (k : ℕ). words (place_of_draw len n + k)) = λ i k. d.rest k i in
      let call : e.call ≡ act.Deposit (sealed_draw ticket words n) = call_is ∙ ap (λ (w : ℕ → ℕ). act.Deposit (sealed_with ticket w)) same in
      record {
        calls = map-append (λ (e : KmsEntry D W). e.call) made (e ∷ [])
            ∙ (ap (λ (l : List KmsAct). l ++ e.call ∷ []) d.calls
            ∙ (ap (λ (q : KmsAct). deposits_of ticket words n ++ q ∷ []) call
            ∙ ap (deposits_of ticket words) (sym (length-push answers answer))));
        replies = map-append (λ (e : KmsEntry D W). e.reply) made (e ∷ [])
            ∙ (ap (λ (l : List KmsActed). l ++ e.reply ∷ []) d.replies
            ∙ (ap (λ (r : KmsActed). map acted.Deposit answers ++ r ∷ []) reply_is
            ∙ sym (map-append acted.Deposit answers (answer ∷ []))));
        rest = λ k. draws_on words words' words'' (place_of_draw len n) (words_of_draw len) d.rest more k
            ∙ ap (λ (m : ℕ). words (m + k)) (next_place len n ∙ ap (place_of_draw len) (add-one n ∙ sym (length-push answers answer)));
      }

  -- A filler deposited the first keys of a ticket, and each was kept.
  pub record Filling (ticket : Ticket) (words words' : ℕ → ℕ) (v : KmsKnown D W) (kept : ℕ) (w : KmsKnown D W) : Type 0 where
    pub made : List (KmsEntry D W)
    pub makes : MakesAll state to_come v made w
    pub deposits : AreDeposits ticket words words' made (all_kept kept)
    pub seen : HasTicket ticket w.seen

  pub filling_begins : (ticket : Ticket) (words : ℕ → ℕ) (v : KmsKnown D W) → LegalOf (KmsSteps {D = D} {W = W} state to_come) (KmsAllows {S = KmsView D W}) v.start v.seen → HasTicket ticket v.seen
      → Filling ticket words words v 0 v
  filling_begins ticket words v legal seen = record { made = []; makes = made_none v legal; deposits = deposits_none ticket words; seen = seen }

  -- the next key may be deposited
  pub filling_allows : (ticket : Ticket) (words words' : ℕ → ℕ) (v : KmsKnown D W) (kept : ℕ) (w : KmsKnown D W) (x : SealedKey) → Filling ticket words words' v kept w → x ≡ sealed_with ticket words'
      → (t : Ticket) × HasTicket t w.seen × IsSealedWith t x
  filling_allows ticket words words' v kept w x f is = (ticket, f.seen, sealed_by ticket words' x is)

  -- The next key was deposited.
  record FilledOn (ticket : Ticket) (words words'' : ℕ → ℕ) (v : KmsKnown D W) (kept : ℕ) (answer : Deposit) (x : KmsKnown D W) : Type 0 where
    made : List (KmsEntry D W)
    makes : MakesAll state to_come v made x
    deposits : AreDeposits ticket words words'' made (all_kept kept ++ answer ∷ [])
    seen : HasTicket ticket x.seen

  filled_on : (ticket : Ticket) (words words' words'' : ℕ → ℕ) (v : KmsKnown D W) (kept : ℕ) (w : KmsKnown D W) (key : SealedKey) (answer : Deposit) (x : KmsKnown D W)
      → Filling ticket words words' v kept w → key ≡ sealed_with ticket words' → Drew words' words'' (words_of_draw (length ticket.material))
      → Makes state to_come w (act.Deposit key) (acted.Deposit answer) x → FilledOn ticket words words'' v kept answer x
  filled_on ticket words words' words'' v kept w key answer x f is drew a = record {
    made = f.made ++ a.entry ∷ [];
    makes = made_more v w x f.made (act.Deposit key) (acted.Deposit answer) f.makes a;
    deposits = deposits_more ticket words words' words'' f.made (all_kept kept) a.entry answer f.deposits (a.call_is ∙ ap act.Deposit is) a.reply_is drew;
    seen = HasTicket-grows ticket w.seen x.seen (a.between ++ a.entry ∷ [], sym (append_assoc w.seen a.between (a.entry ∷ [])) ∙ sym a.seen) f.seen;
  }

  pub filling_kept : (ticket : Ticket) (words words' words'' : ℕ → ℕ) (v : KmsKnown D W) (kept : ℕ) (w : KmsKnown D W) (key : SealedKey) (answer : Deposit) (x : KmsKnown D W)
      → Filling ticket words words' v kept w → key ≡ sealed_with ticket words' → Drew words' words'' (words_of_draw (length ticket.material))
      → Makes state to_come w (act.Deposit key) (acted.Deposit answer) x → answer ≡ deposit.Kept → Filling ticket words words'' v (kept + 1) x
  filling_kept ticket words words' words'' v kept w key answer x f is drew a was =
      let on = filled_on ticket words words' words'' v kept w key answer x f is drew a in
      let all : all_kept kept ++ answer ∷ [] ≡ all_kept (kept + 1) = ap (λ (y : Deposit). all_kept kept ++ y ∷ []) was ∙ ap all_kept (sym (add-one kept)) in
      record { made = on.made; makes = on.makes; deposits = subst (λ (l : List Deposit). AreDeposits ticket words words'' on.made l) all on.deposits; seen = on.seen }

  pub filling_full : (ticket : Ticket) (words words' words'' : ℕ → ℕ) (v : KmsKnown D W) (kept : ℕ) (w : KmsKnown D W) (key : SealedKey) (answer : Deposit) (x : KmsKnown D W)
      → Filling ticket words words' v kept w → key ≡ sealed_with ticket words' → Drew words' words'' (words_of_draw (length ticket.material))
      → Makes state to_come w (act.Deposit key) (acted.Deposit answer) x → answer ≡ deposit.Full → kept < ticket.wanted
      → FillsKeys state to_come ticket words words'' v (turn.Filled kept) x
  filling_full ticket words words' words'' v kept w key answer x f is drew a was less =
      let on = filled_on ticket words words' words'' v kept w key answer x f is drew a in
      record {
        made = on.made;
        makes = on.makes;
        fills = record {
          answers = all_kept kept ++ answer ∷ [];
          deposits = on.deposits;
          ends = inr (ap (λ (y : Deposit). all_kept kept ++ y ∷ []) was, less);
        };
      }

  pub filling_stale : (ticket : Ticket) (words words' words'' : ℕ → ℕ) (v : KmsKnown D W) (kept : ℕ) (w : KmsKnown D W) (key : SealedKey) (answer : Deposit) (x : KmsKnown D W) (opening birth number : ℕ)
      → Filling ticket words words' v kept w → key ≡ sealed_with ticket words' → Drew words' words'' (words_of_draw (length ticket.material))
      → Makes state to_come w (act.Deposit key) (acted.Deposit answer) x → answer ≡ deposit.Stale opening birth number → kept < ticket.wanted
      → FillsKeys state to_come ticket words words'' v (turn.Stale opening birth number) x
  filling_stale ticket words words' words'' v kept w key answer x opening birth number f is drew a was less =
      let on = filled_on ticket words words' words'' v kept w key answer x f is drew a in
      record {
        made = on.made;
        makes = on.makes;
        fills = record {
          answers = all_kept kept ++ answer ∷ [];
          deposits = on.deposits;
          ends = (kept, ap (λ (y : Deposit). all_kept kept ++ y ∷ []) was, less);
        };
      }

  -- the pass that took a ticket has seen it
  pub has_taken : (v w : KmsKnown D W) (asked : Option Ticket) (ticket : Ticket) → Makes state to_come v act.Ticket (acted.Ticket asked) w → asked ≡ Some ticket → HasTicket ticket w.seen
  has_taken v w asked ticket a is =
      subst (HasTicket ticket) (sym a.seen) (ticket_end ticket (v.seen ++ a.between) a.entry (record { call_is = a.call_is; reply_is = a.reply_is ∙ ap acted.Ticket is }))

  pub turn_without : (words : ℕ → ℕ) (v w : KmsKnown D W) (asked : Option Ticket) → Makes state to_come v act.Ticket (acted.Ticket asked) w → asked ≡ None
      → FillsTurn state to_come words words v turn.NothingLow w
  turn_without words v w asked a is = record {
    ticket = None;
    asked = a.entry;
    made = [];
    call_is = a.call_is;
    reply_is = a.reply_is ∙ ap acted.Ticket is;
    makes = made_first v w w [] act.Ticket (acted.Ticket asked) a (made_none w a.legal);
    fills = record { none = refl; result_is = refl; rest = λ k. refl };
  }

  pub turn_with : (words words' : ℕ → ℕ) (v w x : KmsKnown D W) (asked : Option Ticket) (ticket : Ticket) (result : FillTurn)
      → Makes state to_come v act.Ticket (acted.Ticket asked) w → asked ≡ Some ticket → FillsKeys state to_come ticket words words' w result x
      → FillsTurn state to_come words words' v result x
  turn_with words words' v w x asked ticket result a is f = record {
    ticket = Some ticket;
    asked = a.entry;
    made = f.made;
    call_is = a.call_is;
    reply_is = a.reply_is ∙ ap acted.Ticket is;
    makes = made_first v w x f.made act.Ticket (acted.Ticket asked) a f.makes;
    fills = f.fills;
  }
