-- What the kept values have of the entries of the keys that were seen: each ticket, the draw of each generated key that no finish has
-- used, and each answer to each batch that is outstanding.
use Rattle.std.proofs.Common.{◌≡◌, ◌⊎◌, inl, inr, ℕ, zero, suc, List, [], ◌∷◌, ◌++◌, drop, Some, sym, ap, subst, ◌∙◌}
use Rattle.hk_base.specs.declared.names.Edek.{Edek}
use Rattle.hk_base.specs.declared.names.KeyName.{KeyName}
use Rattle.eek_seal.specs.declared.tickets.Ticket.{Ticket}
use Rattle.kms_calls.specs.declared.calls.KmsCall.TheVariants as key_call
use Rattle.kms_calls.specs.declared.calls.KmsReply.{KmsReply}
use Rattle.kms_calls.specs.declared.calls.KmsReply.TheVariants as key_reply
use Rattle.kms_core.specs.State.{ServiceState}
use Rattle.name_calls.specs.declared.calls.KeyAnswer.TheVariants.{Given}
use Rattle.reenc_walk.specs.declared.sent.BatchNote.{BatchNote}
use Rattle.batch_calls.specs.Batches.{reply_for}
use Rattle.name_core.specs.Calls.{superuser}
use Rattle.hist_cell.specs.History.{IsIn}
use Rattle.kms_cell.specs.Entries.{KmsEntry}
use Rattle.kms_cell.specs.Tickets.{HasTicket, ReturnsTicket}
use Rattle.kms_cell.specs.declared.acts.KmsAct.TheVariants as key_act
use Rattle.kms_cell.specs.declared.acts.KmsActed.TheVariants as key_acted
use Rattle.name_history.specs.Served.{batch_act}
use Rattle.name_history.specs.declared.fronts.Front.{Front}
use Rattle.world_run.specs.declared.kept.KeptReply.TheVariants.{ToAsk, ToBatch}
use Rattle.world_run.specs.Ledger.{Draw, Hidden}
use Rattle.world_run.specs.Linked.{Replied}
use Rattle.world_run.specs.Promise.{In}
use Rattle.world_run.specs.World.{Kept, WorldState}
use Rattle.world_run.proofs.Members.{in-more}
use Rattle.thread_laws.specs.Promise.{Generates}
use Rattle.thread_laws.proofs.KeysKeep.{ticket-before}
use Rattle.thread_laws.proofs.Laters.{Later}

-- the entry generated this encrypted key, as an ask wants it
pub record Gave {D W : Type 0} (x : KmsEntry D W) (edek : Edek) : Type 0 where
  pub name : KeyName
  pub call_is : x.call ≡ key_act.Call superuser (key_call.Generate name 1)
  pub reply_is : x.reply ≡ key_acted.Call (key_reply.Ready (edek ∷ []))

-- its draw is kept for the entry, under its number, and no id has it
pub record HasReply {D W : Type 0} (kept : Kept) (h : Hidden) (x : KmsEntry D W) (edek : Edek) : Type 0 where
  pub draw : Draw
  pub at : Replied kept.replies h.replied (ToAsk x.by (Given (Some edek))) (Some draw)
  pub unentered : (id : ℕ) → In (id, draw) h.ledger → ⊥
  pub generates : Generates x edek draw

pub record Ties {D W : Type 0} (kept : Kept) (h : Hidden) (seen : List (KmsEntry D W)) (ended : List ℕ) (outstanding : List Front) : Type 0 where
  pub tickets : (t : Ticket) → HasTicket t seen → In t kept.tickets
  pub replies : (x : KmsEntry D W) (edek : Edek) → In x seen → Gave x edek → ¬ IsIn x.by ended → HasReply kept h x edek
  pub fronts : (f : Front) → In f outstanding → In f.note kept.batches
  pub answers :
      (f : Front) (x : KmsEntry D W) (r : KmsReply) → In f outstanding → In x (drop f.count seen) → x.call ≡ batch_act f.note → x.reply ≡ key_acted.Call r → In (ToBatch (reply_for f.note r)) kept.replies

pub in-drop-more : {X : Type 0} (n : ℕ) (xs : List X) (y x : X) → In x (drop n (xs ++ y ∷ [])) → In x (drop n xs) ⊎ (x ≡ y)
in-drop-more zero xs y x i = in-more x y xs i
in-drop-more (suc n) [] y x i = absurd (none n i)
  where
    none : (m : ℕ) → In x (drop m []) → ⊥
    none zero j = j
    none (suc m) j = j
in-drop-more (suc n) (z ∷ xs) y x i = in-drop-more n xs y x i

-- an unused draw stays one
pub has-later : {D W : Type 0} (w : WorldState) (h : Hidden) (keys : ServiceState) (m : Later w h keys) (x : KmsEntry D W) (edek : Edek) → HasReply w.kept h x edek → HasReply m.kept m.hidden x edek
has-later w h keys m x edek has = record {
  draw = has.draw;
  at = m.replies _ _ has.at;
  unentered = λ id i. has.unentered id (subst (λ (l : List (ℕ × Draw)). In (id, has.draw) l) m.ledger i);
  generates = has.generates;
}

-- Once the entry's own ticket, draw and answers are kept, the entry is tied too.
pub ties-more : {D W : Type 0} (w : WorldState) (h : Hidden) (keys : ServiceState) (seen : List (KmsEntry D W)) (ended : List ℕ) (outstanding : List Front) (x : KmsEntry D W) (m : Later w h keys)
    → Ties w.kept h seen ended outstanding → ((t : Ticket) → ReturnsTicket t x → In t m.kept.tickets) → ((edek : Edek) → Gave x edek → HasReply m.kept m.hidden x edek)
    → ((f : Front) (r : KmsReply) → In f outstanding → x.call ≡ batch_act f.note → x.reply ≡ key_acted.Call r → In (ToBatch (reply_for f.note r)) m.kept.replies)
    → Ties m.kept m.hidden (seen ++ x ∷ []) ended outstanding
ties-more {D = D} {W = W} w h keys seen ended outstanding x m t its_ticket its_draw its_answers = record {
  tickets = λ u i. elim (ticket-before u seen x i) [ inl old ↦ m.tickets u (t.tickets u old) | inr new ↦ its_ticket u new ];
  replies = λ y edek i g free. elim (in-more y x seen i) [
    | inl old ↦ has-later w h keys m y edek (t.replies y edek old g free)
    | inr is ↦ subst (λ (z : KmsEntry D W). HasReply m.kept m.hidden z edek) (sym is) (its_draw edek (subst (λ (z : KmsEntry D W). Gave z edek) is g))
  ];
  fronts = λ f i. subst (λ (bs : List BatchNote). In f.note bs) (sym m.batches) (t.fronts f i);
  answers = λ f y r i j call reply. elim (in-drop-more f.count seen x y j) [
    | inl old ↦ m.more (ToBatch (reply_for f.note r)) (t.answers f y r i old call reply)
    | inr is ↦ its_answers f r i (ap (λ (z : KmsEntry D W). z.call) (sym is) ∙ call) (ap (λ (z : KmsEntry D W). z.reply) (sym is) ∙ reply)
  ];
}

-- numbers that have ended since need no draw any longer
pub ties-ended : {D W : Type 0} (kept : Kept) (h : Hidden) (seen : List (KmsEntry D W)) (ended more : List ℕ) (outstanding : List Front) → ((k : ℕ) → IsIn k ended → IsIn k more)
    → Ties kept h seen ended outstanding → Ties kept h seen more outstanding
ties-ended kept h seen ended more outstanding grows t = record { tickets = t.tickets; replies = λ x edek i g free. t.replies x edek i g (λ was. free (grows x.by was)); fronts = t.fronts; answers = t.answers }
