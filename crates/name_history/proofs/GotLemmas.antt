-- What a pass of the keys has got once it has made a call, and what another pass shows of it after the two have met.
use Rattle.std.specs.Prelude.{◌≡◌, ◌≤◌, ℕ, List, [], ◌∷◌, ◌++◌, length}
use Rattle.std.proofs.Common.{inl, inr, refl, sym, ap, subst, ◌∙◌, arith, append_assoc, length-append}
use Rattle.hk_base.specs.Disk.{DiskState}
use Rattle.kms_calls.specs.declared.calls.KmsReply.{KmsReply}
use Rattle.hist_cell.specs.History.{Distinct, IsIn, Meets, own}
use Rattle.hist_cell.proofs.Lists.{own-append}
use Rattle.kms_cell.specs.Entries.{KmsEntry, KmsKnown, Makes}
use Rattle.kms_cell.specs.declared.acts.KmsAct.{KmsAct}
use Rattle.kms_cell.specs.declared.acts.KmsActed.TheVariants as acted
use Rattle.name_history.specs.Served.{Got, Serves}

length-both : {A : Type 0} (xs ys : List A) → length xs ≤ length (xs ++ ys)
length-both xs ys = let h = length-append xs ys in omega (arith, h)

-- a list to which these are appended, and which is then the same
none-by-length : {A : Type 0} (ys : List A) → length ys ≡ 0 → ys ≡ []
none-by-length [] h = refl
none-by-length (y ∷ ys) h = absurd (omega (arith, h))

appended-none : {A : Type 0} (xs ys : List A) → xs ++ ys ≡ xs → ys ≡ []
appended-none xs ys h = let l = sym (length-append xs ys) ∙ ap length h in none-by-length ys (omega (arith, l))

-- numbers that have ended

pub in_right : (k : ℕ) (ms ns : List ℕ) → IsIn k ns → IsIn k (ms ++ ns)
in_right k [] ns i = i
in_right k (m ∷ ms) ns i = inr (in_right k ms ns i)

pub in_left : (k : ℕ) (ms ns : List ℕ) → IsIn k ms → IsIn k (ms ++ ns)
in_left k [] ns i = absurd i
in_left k (m ∷ ms) ns i = elim i [
  | inl h ↦ inl h
  | inr h ↦ inr (in_left k ms ns h)
]

-- no number of two lists that are distinct together is in both
apart_of : (k : ℕ) (ms ns : List ℕ) → Distinct (ms ++ ns) → IsIn k ms → IsIn k ns → ⊥
apart_of k [] ns d i j = i
apart_of k (m ∷ ms) ns d i j = elim i [
  | inl h ↦ d.0 (subst (λ (x : ℕ). IsIn x (ms ++ ns)) h (in_right k ms ns j))
  | inr h ↦ apart_of k ms ns d.1 h j
]

module _ {D W : Type 0} where
  -- a pass that was met into another one made no entries that it had not seen
  pub got_meets : (front : ℕ) (v w into : KmsKnown D W) (q : KmsAct) (r : KmsReply) → Got front q r w.number w.seen → Meets v w into → Got front q r w.number into.seen
  got_meets front v w into q r got met = record {
    before = got.before;
    entry = got.entry;
    after = got.after ++ more;
    seen_is = sym met.that.1 ∙ (ap (λ (l : List (KmsEntry D W)). l ++ more) got.seen_is ∙ append_assoc got.before (got.entry ∷ got.after) more);
    late = got.late;
    by_is = got.by_is;
    last = own-append w.number got.after more ∙ (ap (λ (l : List (KmsEntry D W)). l ++ own w.number more) got.last ∙ none);
    call_is = got.call_is;
    reply_is = got.reply_is;
  }
    where
      more : List (KmsEntry D W)
      more = met.that.0

      none : own w.number more ≡ []
      none = appended-none (own w.number w.seen) (own w.number more) (sym (own-append w.number w.seen more) ∙ (ap (own w.number) met.that.1 ∙ met.that_own w.number (inl refl)))

  -- the pass into which it was met shows the reply, and that its number has just ended
  pub serves_met : (front : ℕ) (v w into : KmsKnown D W) (q : KmsAct) (r : KmsReply) → Meets v w into → Got front q r w.number w.seen → Serves front q r v into
  serves_met front v w into q r met got = record {
    by = w.number;
    ended = subst (IsIn w.number) (sym met.ended) (in_right w.number v.ended (w.number ∷ w.ended) (inl refl));
    new = λ i. apart_of w.number v.ended (w.number ∷ w.ended) (subst Distinct met.ended met.distinct.1) i (inl refl);
    got = got_meets front v w into q r got met;
  }

module _ {D W : Type 0} (state : D → DiskState) (to_come : W → ℕ → ℕ) where
  -- the pass has got the reply, after all entries that it had seen
  pub got_by_call : (front : ℕ) (v w : KmsKnown D W) (q : KmsAct) (r : KmsReply) → front ≤ length v.seen → Makes state to_come v q (acted.Call r) w → Got front q r w.number w.seen
  got_by_call front v w q r few a = record {
    before = v.seen ++ a.between;
    entry = a.entry;
    after = [];
    seen_is = a.seen;
    late = let h = length-both v.seen a.between in omega (arith, few, h);
    by_is = a.by ∙ sym a.same.0;
    last = refl;
    call_is = a.call_is;
    reply_is = a.reply_is;
  }
