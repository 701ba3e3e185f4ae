-- A finish with a key that was generated for it: its draw is entered if it makes something, and the other draws that are kept stay unused.
use Rattle.std.proofs.Common.{◌≡◌, inl, inr, ℕ, zero, suc, Bool, true, false, List, [], ◌∷◌, ◌++◌, Option, Some, slice_get, refl, sym, ap, subst, ◌∙◌}
use Rattle.std.specs.declared.result.Result.{Result}
use Rattle.hk_base.specs.declared.names.Edek.{Edek}
use Rattle.edit_ops.specs.declared.ops.EditOp.{EditOp}
use Rattle.name_calls.specs.declared.calls.KeyAnswer.{KeyAnswer}
use Rattle.name_calls.specs.declared.calls.KeyAnswer.TheVariants.{Given}
use Rattle.name_calls.specs.declared.calls.NameRefusal.{NameRefusal}
use Rattle.name_core.specs.Service.{FinishServes}
use Rattle.name_core.specs.State.{IsNames, NameService, settled}
use Rattle.reenc_update.specs.Replies.{ReplyState}
use Rattle.hk_events.specs.declared.event.Event.TheVariants as event
use Rattle.world_run.specs.declared.kept.KeptReply.{KeptReply}
use Rattle.world_run.specs.declared.kept.KeptReply.TheVariants.{ToAsk, ToBatch}
use Rattle.world_run.specs.Ledger.{Draw, Hidden, Ledger, entered, entry_of, entry_under, enters, hidden_after, id_of_reply, starts_of}
use Rattle.world_run.specs.Linked.{LinkedWorld, ServicesFit}
use Rattle.world_run.specs.Promise.{In}
use Rattle.world_run.specs.Step.{finish_line}
use Rattle.world_run.specs.World.{WorldState, numbered}
use Rattle.world_run.proofs.Members.{in-append, some-is}
use Rattle.thread_laws.proofs.NamesNext.{Next, Waits, finish-at}
use Rattle.thread_laws.proofs.Renames.{renamed, set-numbered-here, set-numbered-other, set_at}

-- a value that is no ask's stays
set-keeps : (n : ℕ) (id : ℕ) (a : KeyAnswer) (was : ℕ) (b : KeyAnswer) (xs : List KeptReply) (r : ReplyState) → slice_get xs n ≡ Some (ToAsk was b) → In (ToBatch r) xs → In (ToBatch r) (set_at n (ToAsk id a) xs)
set-keeps n id a was b [] r at i = absurd i
set-keeps zero id a was b (x ∷ xs) r at (inl is) = let no : ToBatch r ≡ ToAsk was b = is ∙ some-is x (ToAsk was b) at in absurd cc
set-keeps zero id a was b (x ∷ xs) r at (inr i) = inr i
set-keeps (suc n) id a was b (x ∷ xs) r at (inl is) = inl is
set-keeps (suc n) id a was b (x ∷ xs) r at (inr i) = inr (set-keeps n id a was b xs r at i)

entered-in : (b : Bool) (x : ℕ × Draw) (l : Ledger) → In x (entered b l) → In x l
entered-in true x l i = i
entered-in false x l i = absurd i

-- the entry of a reply is its draw
entry-some : (k : Option KeptReply) (o : Option (Option Draw)) (id : ℕ) (a : KeyAnswer) (d : Draw) → k ≡ Some (ToAsk id a) → o ≡ Some (Some d) → entry_of k o ≡ entry_under id (Some d)
entry-some k o id a d k_is o_is = ap (λ (x : Option KeptReply). entry_of x o) k_is ∙ ap (λ (x : Option (Option Draw)). entry_of (Some (ToAsk id a)) x) o_is

id-some : (k : Option KeptReply) (id : ℕ) (a : KeyAnswer) → k ≡ Some (ToAsk id a) → id_of_reply k ≡ id
id-some k id a is = ap id_of_reply is

same-draw : (id i : ℕ) (d f : Draw) → In {X = ℕ × Draw} (i, f) ((id, d) ∷ []) → f ≡ d
same-draw id i d f (inl is) = ap (λ (e : ℕ × Draw). e.1) is
same-draw id i d f (inr none) = absurd none

to-ask-by : (a b : ℕ) (e f : Edek) → ToAsk a (Given (Some e)) ≡ ToAsk b (Given (Some f)) → a ≡ b
to-ask-by a b e f is = cc is

module _ (w : WorldState) (h : Hidden) (by id : ℕ) (edek : Edek) (fault : Type 0) (result : Result (Unit {0}) NameRefusal) (ops : List EditOp) (names : NameService) (fit : ServicesFit w) (then : IsNames names) (l : LinkedWorld w h)
    (serves : FinishServes w.names id (Given (Some edek)) fault result ops names) (d : Draw) where
  -- what the finish enters
  abbrev pub entries : Ledger
  entries = entered (enters id (finish_line result) names) (entry_under id (Some d))

  abbrev Finished : Type 0
  Finished = Next w h names entries (λ k. k ≡ by → ⊥)

  finished-at : (n : ℕ) → numbered w.kept.replies (suc n) ≡ Some (ToAsk by (Given (Some edek))) → numbered h.replied (suc n) ≡ Some (Some d) → ((i : ℕ) → In (i, d) h.ledger → ⊥) → Finished
  finished-at n at drew unentered = record {
    kept = now.kept;
    hidden = last;
    linked = finish-at now h (suc n) id (Given (Some edek)) fault result ops names (record { keys = fit.keys; names = fit.names }) then (renamed w h n by id edek d l at drew unentered) here serves;
    ledger = ap (λ (x : Ledger). h.ledger ++ x) entry-is;
    starts = ap (λ (x : Ledger). h.starts ++ starts_of (settled true names).table x) entry-is;
    tickets = refl;
    batches = λ b i. i;
    waits = λ k e f apart was.
        let other : was.at.0 ≡ suc n → ⊥ = λ same. apart (to-ask-by k by e edek (some-is (ToAsk k (Given (Some e))) (ToAsk by (Given (Some edek))) (sym was.at.1 ∙ ap (numbered w.kept.replies) same ∙ at))) in
        record {
          at = (was.at.0, set-numbered-other n was.at.0 (ToAsk id (Given (Some edek))) (ToAsk k (Given (Some e))) w.kept.replies other was.at.1, was.at.2);
          unentered = λ i m. elim (in-append (i, f) h.ledger entries (subst (λ (x : Ledger). In (i, f) x) (ap (λ (x : Ledger). h.ledger ++ x) entry-is) m)) [
            | inl old ↦ was.unentered i old
            | inr new ↦
                let same : f ≡ d = same-draw id i d f (entered-in (enters id (finish_line result) names) (i, f) ((id, d) ∷ []) new) in
                other (l.draws.replies.one_reply was.at.0 (suc n) d (was.at.2 ∙ ap (λ (x : Draw). Some (Some x)) same) drew)
          ];
        };
    answers = λ r i. set-keeps n id (Given (Some edek)) by (Given (Some edek)) w.kept.replies r at i;
  }
    where
      now : WorldState
      now = record w { kept = record w.kept { replies = set_at n (ToAsk id (Given (Some edek))) w.kept.replies } }

      last : Hidden
      last = hidden_after now (λ k. k) (event.Finish (suc n)) (finish_line result) 0 (record now { names = names }) h

      here : numbered now.kept.replies (suc n) ≡ Some (ToAsk id (Given (Some edek)))
      here = set-numbered-here n (ToAsk id (Given (Some edek))) (ToAsk by (Given (Some edek))) w.kept.replies at

      entry-is : entered (enters (id_of_reply (numbered now.kept.replies (suc n))) (finish_line result) names) (entry_of (numbered now.kept.replies (suc n)) (numbered h.replied (suc n))) ≡ entries
      entry-is =
          ap (λ (i : ℕ). entered (enters i (finish_line result) names) (entry_of (numbered now.kept.replies (suc n)) (numbered h.replied (suc n)))) (id-some (numbered now.kept.replies (suc n)) id (Given (Some edek)) here)
          ∙ ap (entered (enters id (finish_line result) names)) (entry-some (numbered now.kept.replies (suc n)) (numbered h.replied (suc n)) id (Given (Some edek)) d here drew)

  pub finish-key-next : Waits w.kept h by edek d → Finished
  finish-key-next waits = go waits.at.0 waits.at.1 waits.at.2
    where
      go : (number : ℕ) → numbered w.kept.replies number ≡ Some (ToAsk by (Given (Some edek))) → numbered h.replied number ≡ Some (Some d) → Finished
      go zero at drew = absurd cc
      go (suc n) at drew = finished-at n at drew waits.unentered
