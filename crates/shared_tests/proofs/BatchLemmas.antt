-- What the pass that a walk lends has seen, and what it has got once it has served a batch.
use Rattle.std.specs.Prelude.{IfOk}
use Rattle.std.proofs.Common.{◌≡◌, ◌≤◌, ℕ, List, length, Ok, inl, inr, subst, arith}
use Rattle.std.specs.declared.result.Result.{Result}
use Rattle.hk_base.specs.Disk.{DiskState}
use Rattle.hk_base.specs.declared.texts.NoMemory.{NoMemory}
use Rattle.kms_calls.specs.declared.calls.KmsReply.{KmsReply}
use Rattle.name_calls.specs.declared.paths.NPath.{NPath}
use Rattle.reenc_walk.specs.declared.sent.BatchNote.{BatchNote}
use Rattle.reenc_update.specs.Replies.{ReplyState}
use Rattle.kms_cell.specs.Entries.{KmsEntry, KmsKnown}
use Rattle.kms_cell.specs.declared.acts.KmsAct.{KmsAct}
use Rattle.name_history.specs.Entries.{NameKnown}
use Rattle.name_history.specs.Served.{Got, GotForBatch}
use Rattle.turns.specs.Turns.{LendsTurn, ServesTurn}
use Rattle.turns.specs.declared.lent.Lent.{Lent}
use Rattle.turns.proofs.GotLemmas.{got_by_serving}

no_more : (m n : ℕ) → m ≡ n → m ≤ n
no_more m n same = omega (arith, same)

module _ {D W : Type 0} where
  got_later : (front later : ℕ) (q : KmsAct) (r : KmsReply) (number : ℕ) (seen : List (KmsEntry D W)) → front ≤ later → Got later q r number seen → Got front q r number seen
  got_later front later q r number seen few got = record {
    before = got.before;
    entry = got.entry;
    after = got.after;
    seen_is = got.seen_is;
    late = let late = got.late in omega (arith, few, late);
    by_is = got.by_is;
    last = got.last;
    call_is = got.call_is;
    reply_is = got.reply_is;
  }

  -- the same with an earlier front
  pub got_after_earlier : (front later : ℕ) (reply : ReplyState) (w : KmsKnown D W) → front ≤ later → GotForBatch later reply w → GotForBatch front reply w
  got_after_earlier front later reply w few (inl unserved) = inl unserved
  got_after_earlier front later reply w few (inr served) = inr (served.0, served.1, got_later front later _ served.0 w.number w.seen few served.2)

module _ {D W : Type 0} (state : D → DiskState) (to_come : W → ℕ → ℕ) where
  -- the front of a walk is how many entries the lent pass has seen
  pub front_lent : {K : Type 0} (seen : K → KmsKnown D W) (v w : NameKnown D W) (zone : NPath) (turn : Result (Lent K) NoMemory) (lent : Lent K)
      → IfOk turn (λ l. LendsTurn state to_come v zone l.walked l.front w (seen l.keys)) → turn ≡ Ok lent → lent.front ≡ length (seen lent.keys).seen
  front_lent {K = K} seen v w zone turn lent lends is = (subst (λ (r : Result (Lent K) NoMemory). IfOk r (λ l. LendsTurn state to_come v zone l.walked l.front w (seen l.keys))) is lends).front_is

  -- the pass that a walk lent has got the reply, after the front
  pub got_after_walk : (front : ℕ) (lent w : KmsKnown D W) (batch : BatchNote) (came : ReplyState) → front ≡ length lent.seen → ServesTurn state to_come lent batch came w → GotForBatch front came w
  got_after_walk front lent w batch came is served = got_by_serving state to_come front lent w batch came (no_more front (length lent.seen) is) served
