-- A kept reply whose draw no id has yet may be that of any ask.
use Rattle.std.proofs.Common.{◌≡◌, ◌⊎◌, inl, inr, ℕ, zero, suc, List, [], ◌∷◌, length, Option, Some, slice_get, refl, sym, ap, subst, ◌∙◌}
use Rattle.hk_base.specs.declared.names.Edek.{Edek}
use Rattle.name_calls.specs.declared.calls.KeyAnswer.TheVariants.{Given}
use Rattle.world_run.specs.declared.kept.KeptReply.{KeptReply}
use Rattle.world_run.specs.declared.kept.KeptReply.TheVariants.{ToAsk}
use Rattle.world_run.specs.Ledger.{Draw, Hidden}
use Rattle.world_run.specs.Linked.{IsReplyTo, KeyLinked, LinkedWorld, Replied, ReplyCameBack, key_in_reply}
use Rattle.world_run.specs.Promise.{In}
use Rattle.world_run.specs.World.{WorldState, numbered}
use Rattle.world_run.proofs.Members.{some-is}

-- a list with another value at a place
abbrev pub set_at : {X : Type 0} → ℕ → X → List X → List X
set_at n x [] = []
set_at zero x (y ∷ ys) = x ∷ ys
set_at (suc n) x (y ∷ ys) = y ∷ set_at n x ys

set-long : {X : Type 0} (n : ℕ) (x : X) (xs : List X) → length (set_at n x xs) ≡ length xs
set-long n x [] = refl
set-long zero x (y ∷ ys) = refl
set-long (suc n) x (y ∷ ys) = ap suc (set-long n x ys)

-- a value of it is the new one at that place, or was there
set-got : {X : Type 0} (n : ℕ) (x : X) (xs : List X) (k : ℕ) (r : X) → slice_get (set_at n x xs) k ≡ Some r → ((k ≡ n) × (r ≡ x)) ⊎ (slice_get xs k ≡ Some r)
set-got n x [] k r h = inr h
set-got zero x (y ∷ ys) zero r h = inl (refl, sym (some-is x r h))
set-got zero x (y ∷ ys) (suc k) r h = inr h
set-got (suc n) x (y ∷ ys) zero r h = inr h
set-got (suc n) x (y ∷ ys) (suc k) r h = elim (set-got n x ys k r h) [ inl g ↦ inl (ap suc g.0, g.1) | inr g ↦ inr g ]

set-in : {X : Type 0} (n : ℕ) (x : X) (xs : List X) (r : X) → In r (set_at n x xs) → (r ≡ x) ⊎ In r xs
set-in n x [] r i = absurd i
set-in zero x (y ∷ ys) r (inl is) = inl is
set-in zero x (y ∷ ys) r (inr i) = inr (inr i)
set-in (suc n) x (y ∷ ys) r (inl is) = inr (inl is)
set-in (suc n) x (y ∷ ys) r (inr i) = elim (set-in n x ys r i) [ inl is ↦ inl is | inr old ↦ inr (inr old) ]

set-numbered : {X : Type 0} (n : ℕ) (x : X) (xs : List X) (k : ℕ) (r : X) → numbered (set_at n x xs) k ≡ Some r → ((k ≡ suc n) × (r ≡ x)) ⊎ (numbered xs k ≡ Some r)
set-numbered n x xs zero r h = absurd cc
set-numbered n x xs (suc k) r h = elim (set-got n x xs k r h) [ inl g ↦ inl (ap suc g.0, g.1) | inr g ↦ inr g ]

set-here : {X : Type 0} (n : ℕ) (x y : X) (xs : List X) → slice_get xs n ≡ Some y → slice_get (set_at n x xs) n ≡ Some x
set-here n x y [] h = absurd cc
set-here zero x y (z ∷ xs) h = refl
set-here (suc n) x y (z ∷ xs) h = set-here n x y xs h

pub set-numbered-here : {X : Type 0} (n : ℕ) (x y : X) (xs : List X) → numbered xs (suc n) ≡ Some y → numbered (set_at n x xs) (suc n) ≡ Some x
set-numbered-here n x y xs h = set-here n x y xs h

set-other : {X : Type 0} (n k : ℕ) (x r : X) (xs : List X) → (k ≡ n → ⊥) → slice_get xs k ≡ Some r → slice_get (set_at n x xs) k ≡ Some r
set-other n k x r [] apart h = h
set-other zero zero x r (z ∷ xs) apart h = absurd (apart refl)
set-other zero (suc k) x r (z ∷ xs) apart h = h
set-other (suc n) zero x r (z ∷ xs) apart h = h
set-other (suc n) (suc k) x r (z ∷ xs) apart h = set-other n k x r xs (λ e. apart (ap suc e)) h

-- other values are where they were
pub set-numbered-other : {X : Type 0} (n k : ℕ) (x r : X) (xs : List X) → (k ≡ suc n → ⊥) → numbered xs k ≡ Some r → numbered (set_at n x xs) k ≡ Some r
set-numbered-other n zero x r xs apart h = h
set-numbered-other n (suc k) x r xs apart h = set-other n k x r xs (λ e. apart (ap suc e)) h

module _ (w : WorldState) (h : Hidden) (n was id : ℕ) (edek : Edek) (d : Draw) (l : LinkedWorld w h)
    (at : numbered w.kept.replies (suc n) ≡ Some (ToAsk was (Given (Some edek)))) (drew : numbered h.replied (suc n) ≡ Some (Some d)) (unentered : (i : ℕ) → In (i, d) h.ledger → ⊥) where
  abbrev new_reply : KeptReply
  new_reply = ToAsk id (Given (Some edek))

  abbrev pub renamed_replies : List KeptReply
  renamed_replies = set_at n new_reply w.kept.replies

  abbrev pub renamed_world : WorldState
  renamed_world = record w { kept = record w.kept { replies = renamed_replies } }

  same-draw : (o : Option Draw) (k : ℕ) → k ≡ suc n → numbered h.replied k ≡ Some o → o ≡ Some d
  same-draw o k is other = some-is o (Some d) (sym other ∙ ap (numbered h.replied) is ∙ drew)

  opens : (r : KeptReply) (o : Option Draw) → Replied renamed_replies h.replied r o → KeyLinked w.keys.keys.table.rows (key_in_reply r) o
  opens r o (k, got, other) = elim (set-numbered n new_reply w.kept.replies k r got) [
    | inl is ↦ subst (λ (x : KeptReply). KeyLinked w.keys.keys.table.rows (key_in_reply x) o) (sym is.1)
        (l.draws.replies.keys_open (ToAsk was (Given (Some edek))) o (suc n, at, ap (numbered h.replied) (sym is.0) ∙ other))
    | inr old ↦ l.draws.replies.keys_open r o (k, old, other)
  ]

  its-ask : (i : ℕ) (r : KeptReply) (f : Draw) → In (i, f) h.ledger → Replied renamed_replies h.replied r (Some f) → IsReplyTo i r
  its-ask i r f entered (k, got, other) = elim (set-numbered n new_reply w.kept.replies k r got) [
    | inl is ↦ absurd (unentered i (subst (λ (x : Draw). In (i, x) h.ledger) (some-is f d (same-draw (Some f) k is.0 other)) entered))
    | inr old ↦ l.draws.ledger.its_ask i r f entered (k, old, other)
  ]

  back : (r : KeptReply) → In r renamed_replies → ReplyCameBack h.ledger w.keys.keys.table.rows r
  back r i = elim (set-in n new_reply w.kept.replies r i) [
    | inl is ↦ subst (ReplyCameBack h.ledger w.keys.keys.table.rows) (sym is) tt
    | inr old ↦ l.draws.batches.back r old
  ]

  -- the reply is now that of the ask with this id
  pub renamed : LinkedWorld renamed_world h
  renamed = record {
    draws = record {
      files = l.draws.files;
      replies = record { as_many = l.draws.replies.as_many ∙ sym (set-long n new_reply w.kept.replies); keys_open = opens; one_reply = l.draws.replies.one_reply };
      draws = l.draws.draws;
      ledger = record {
        one_draw = l.draws.ledger.one_draw;
        one_file = l.draws.ledger.one_file;
        below = l.draws.ledger.below;
        recent = l.draws.ledger.recent;
        not_open = l.draws.ledger.not_open;
        its_ask = its-ask;
      };
      queues = l.draws.queues;
      tickets = l.draws.tickets;
      batches = record { sent = l.draws.batches.sent; sessions = l.draws.batches.sessions; back = back };
      versions = l.draws.versions;
    };
    covered = l.covered;
  }
