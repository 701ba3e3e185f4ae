-- Each entry of the keys that is seen is tied: its ticket, its draw and its answers to outstanding batches are kept.
use Rattle.std.proofs.Common.{◌≡◌, inl, inr, ℕ, List, [], ◌∷◌, ◌++◌, Option, Some, refl, sym, ap, subst, ◌∙◌, append_assoc, append-nil}
use Rattle.hk_base.specs.Disk.{DiskState, Tells}
use Rattle.hk_base.specs.Faults.{Rose}
use Rattle.hk_base.specs.declared.names.Edek.{Edek}
use Rattle.hk_base.specs.declared.names.KeyName.{KeyName}
use Rattle.hk_base.specs.declared.texts.Text.{Text}
use Rattle.eek_seal.specs.Tickets.{SealedKey}
use Rattle.eek_seal.specs.declared.deposit.Deposit.{Deposit}
use Rattle.eek_seal.specs.declared.tickets.Ticket.{Ticket}
use Rattle.kms_calls.specs.declared.calls.KmsCall.{KmsCall}
use Rattle.kms_calls.specs.declared.calls.KmsCall.TheVariants as key_call
use Rattle.kms_calls.specs.declared.calls.KmsReply.{KmsReply}
use Rattle.kms_calls.specs.declared.calls.KmsReply.TheVariants as key_reply
use Rattle.kms_calls.specs.declared.calls.RawEdek.{RawEdek}
use Rattle.kms_core.specs.State.{IsService}
use Rattle.kms_core.specs.Users.{ServesUser}
use Rattle.name_calls.specs.Answers.{answer_of}
use Rattle.batch_calls.specs.Batches.{batch_call, reply_for}
use Rattle.name_core.specs.Calls.{superuser}
use Rattle.name_core.specs.State.{NameService}
use Rattle.hist_cell.specs.History.{LegalAfter, state_after}
use Rattle.kms_cell.specs.Entries.{KmsEntry}
use Rattle.kms_cell.specs.Steps.{CallSteps, DepositSteps, KmsDoes, KmsSteps, TicketSteps}
use Rattle.kms_cell.specs.Tickets.{KmsAllows, ReturnsTicket}
use Rattle.kms_cell.specs.Views.{KmsView}
use Rattle.kms_cell.specs.declared.acts.KmsAct.{KmsAct}
use Rattle.kms_cell.specs.declared.acts.KmsAct.TheVariants as act
use Rattle.kms_cell.specs.declared.acts.KmsActed.{KmsActed}
use Rattle.kms_cell.specs.declared.acts.KmsActed.TheVariants as acted
use Rattle.name_history.specs.Served.{batch_act}
use Rattle.name_history.specs.declared.fronts.Front.{Front}
use Rattle.world_run.specs.declared.kept.KeptReply.TheVariants.{ToBatch}
use Rattle.world_run.specs.Ledger.{Hidden}
use Rattle.world_run.specs.Linked.{LinkedWorld, ServicesFit, given}
use Rattle.world_run.specs.Promise.{In}
use Rattle.world_run.specs.World.{Kept, WorldState}
use Rattle.thread_laws.specs.Worlds.{keys_of_view, world_with}
use Rattle.thread_laws.proofs.Generating.{WithDraw, generated}
use Rattle.thread_laws.proofs.KeyReplies.{NoKey, OneGenerated, generate-gives}
use Rattle.thread_laws.proofs.KeysKeep.{turned-call, turned-deposit, turned-ticket}
use Rattle.thread_laws.proofs.Laters.{Later, same-later, then-later}
use Rattle.thread_laws.proofs.SameCalls.{CallSort, IsBatch, IsGenerate, IsOther, IsOtherCall, decide-generate, sort_of}
use Rattle.thread_laws.proofs.Serving.{served-all}
use Rattle.thread_laws.proofs.Ties.{Gave, Ties, ties-more}

-- calls and replies that differ

call-no-ticket : (u : Text) (c : KmsCall) → act.Call u c ≡ act.Ticket → ⊥
call-no-ticket u c same = absurd (cc same)

call-no-deposit : (u : Text) (c : KmsCall) (x : SealedKey) → act.Deposit x ≡ act.Call u c → ⊥
call-no-deposit u c x same = absurd (cc same)

deposit-no-ticket : (x : SealedKey) → act.Deposit x ≡ act.Ticket → ⊥
deposit-no-ticket x same = absurd (cc same)

generate-no-batch : (u v : Text) (m n : KeyName) (k : ℕ) (sent : List RawEdek) → act.Call u (key_call.Generate m k) ≡ act.Call v (key_call.Batch n sent) → ⊥
generate-no-batch u v m n k sent same = absurd (cc same)

same-reply : (r q : KmsReply) → acted.Call r ≡ acted.Call q → r ≡ q
same-reply r q same = cc same

no-key-ready : (r : KmsReply) (e : Edek) → NoKey r → r ≡ key_reply.Ready (e ∷ []) → ⊥
no-key-ready r e none is = let no = ap (λ (q : KmsReply). given (answer_of (Some q))) (sym is) ∙ none in absurd (cc no)

-- the world after an entry, to which the entry is tied
pub record EntryTied {D W : Type 0} (w : WorldState) (h : Hidden) (seen : List (KmsEntry D W)) (ended : List ℕ) (outstanding : List Front) (x : KmsEntry D W) : Type 0 where
  pub later : Later w h (keys_of_view x.after)
  pub ties : Ties later.kept later.hidden (seen ++ x ∷ []) ended outstanding

module _ {D W : Type 0} (state : D → DiskState) (to_come : W → ℕ → ℕ) (s : KmsView D W) (names : NameService) (kept : Kept) (h : Hidden) (seen : List (KmsEntry D W)) (ended : List ℕ) (outstanding : List Front) (x : KmsEntry D W)
    (fit : ServicesFit (world_with (keys_of_view s) names kept)) (then : IsService (keys_of_view x.after)) (l : LinkedWorld (world_with (keys_of_view s) names kept) h) (t : Ties kept h seen ended outstanding) (telling : Tells (state s.disk)) where
  abbrev w : WorldState
  w = world_with (keys_of_view s) names kept

  abbrev Tied : Type 0
  Tied = EntryTied w h seen ended outstanding x

  -- an entry that gives neither a ticket nor a draw nor an answer
  plain : Later w h (keys_of_view x.after) → ((u : Ticket) → ReturnsTicket u x → ⊥) → ((e : Edek) → Gave x e → ⊥) → ((f : Front) → x.call ≡ batch_act f.note → ⊥) → Tied
  plain m no_ticket no_draw no_batch = record {
    later = m;
    ties = ties-more w h (keys_of_view x.after) seen ended outstanding x m t (λ u r. absurd (no_ticket u r)) (λ e g. absurd (no_draw e g)) (λ f r i call reply. absurd (no_batch f call));
  }

  -- a call that is neither a generate nor one for a batch
  other-tied : (user : Text) (c : KmsCall) (reply : KmsReply) → x.call ≡ act.Call user c → IsOtherCall c → CallSteps state to_come s user c reply x.after → Tied
  other-tied user c reply call other step =
      plain (turned-call state to_come s x.after user c reply names kept h fit l step).later (λ u r. call-no-ticket user c (sym call ∙ r.call_is)) (λ e g. other.no_generate user superuser g.name 1 (sym call ∙ g.call_is))
      (λ f is. other.no_batch user superuser _ _ (sym call ∙ is))

  -- a generate that gives no key that an ask wants
  unasked-tied : (user : Text) (name : KeyName) (count : ℕ) (reply : KmsReply) → x.call ≡ act.Call user (key_call.Generate name count) → ((e : Edek) → Gave x e → ⊥) → CallSteps state to_come s user (key_call.Generate name count) reply x.after
      → Tied
  unasked-tied user name count reply call none step =
      plain (turned-call state to_come s x.after user (key_call.Generate name count) reply names kept h fit l step).later (λ u r. call-no-ticket user (key_call.Generate name count) (sym call ∙ r.call_is)) none
      (λ f is. generate-no-batch user superuser name _ count _ (sym call ∙ is))

  -- a key that was generated as an ask wants it
  drawn-tied : (name : KeyName) → x.call ≡ act.Call superuser (key_call.Generate name 1) → WithDraw w h x → Tied
  drawn-tied name call m = record {
    later = m.later;
    ties = ties-more w h (keys_of_view x.after) seen ended outstanding x m.later t (λ u r. absurd (call-no-ticket superuser (key_call.Generate name 1) (sym call ∙ r.call_is))) m.has
        (λ f r i is reply. absurd (generate-no-batch superuser superuser name _ 1 _ (sym call ∙ is)));
  }

  asked-tied : (name : KeyName) (reply : KmsReply) → x.call ≡ act.Call superuser (key_call.Generate name 1) → x.reply ≡ acted.Call reply → CallSteps state to_come s superuser (key_call.Generate name 1) reply x.after → Tied
  asked-tied name reply call answered step =
      let lines = step.has_lines.0 in
      let acts = step.acts lines step.has_lines.1 in
      let fault : Type 0 = Rose (state s.disk).faults (state x.after.disk).faults in
      let tells : Type 0 = Tells (state s.disk) in
      elim (generate-gives lines superuser w.keys (to_come s.words) step.now fault tells acts.drawn acts.logged (keys_of_view x.after) name reply acts.serves) [
        | inl none ↦ unasked-tied superuser name 1 reply call (λ e g. no-key-ready reply e none (same-reply reply (key_reply.Ready (e ∷ [])) (sym answered ∙ g.reply_is))) step
        | inr one ↦ drawn-tied name call (
            generated lines w h x (to_come s.words) step.now name fault tells acts.drawn acts.logged one.edek call (answered ∙ ap acted.Call one.reply_is) fit then
            (subst (λ (r : KmsReply). OneGenerated w.keys name r (keys_of_view x.after)) one.reply_is one)
            (subst (λ (r : KmsReply). ServesUser lines superuser w.keys (to_come s.words) step.now (key_call.Generate name 1) fault tells r acts.drawn acts.logged (keys_of_view x.after)) one.reply_is acts.serves) l
            )
      ]

  generate-tied : (user : Text) (name : KeyName) (count : ℕ) (reply : KmsReply) → x.call ≡ act.Call user (key_call.Generate name count) → x.reply ≡ acted.Call reply → CallSteps state to_come s user (key_call.Generate name count) reply x.after
      → Tied
  generate-tied user name count reply call answered step = elim (decide-generate user superuser name count) [
    | inl same ↦ asked-tied name reply (call ∙ ap (λ (u : Text). act.Call u (key_call.Generate name count)) same.user ∙ ap (λ (k : ℕ). act.Call superuser (key_call.Generate name k)) same.one) answered
        (subst (λ (k : ℕ). CallSteps state to_come s superuser (key_call.Generate name k) reply x.after) same.one
        (subst (λ (u : Text). CallSteps state to_come s u (key_call.Generate name count) reply x.after) same.user step))
    | inr other ↦ unasked-tied user name count reply call (λ e g. other g.name (sym call ∙ g.call_is)) step
  ]

  -- a call for batches
  batch-tied : (user : Text) (name : KeyName) (sent : List RawEdek) (reply : KmsReply) → x.call ≡ act.Call user (key_call.Batch name sent) → x.reply ≡ acted.Call reply → CallSteps state to_come s user (key_call.Batch name sent) reply x.after → Tied
  batch-tied user name sent reply call answered step =
      let lines = step.has_lines.0 in
      let acts = step.acts lines step.has_lines.1 in
      let all = served-all lines w h (keys_of_view x.after) (to_come s.words) step.now user name sent (Rose (state s.disk).faults (state x.after.disk).faults) (Tells (state s.disk)) reply acts.drawn acts.logged fit (record { keys = then; names = fit.names }) l acts.serves telling
      outstanding t.fronts in
      record {
        later = all.later;
        ties = ties-more w h (keys_of_view x.after) seen ended outstanding x all.later t (λ u r. absurd (call-no-ticket user (key_call.Batch name sent) (sym call ∙ r.call_is)))
            (λ e g. absurd (generate-no-batch superuser user g.name name 1 sent (sym g.call_is ∙ call)))
            (λ f r i is came. subst (λ (q : KmsReply). In (ToBatch (reply_for f.note q)) all.later.kept.replies) (same-reply reply r (sym answered ∙ came)) (all.answers f i (sym call ∙ is)));
      }

  call-tied : (user : Text) (c : KmsCall) (reply : KmsReply) → CallSort c → x.call ≡ act.Call user c → x.reply ≡ acted.Call reply → CallSteps state to_come s user c reply x.after → Tied
  call-tied user c reply (IsGenerate name count) call answered step = generate-tied user name count reply call answered step
  call-tied user c reply (IsBatch name sent) call answered step = batch-tied user name sent reply call answered step
  call-tied user c reply (IsOther d other) call answered step = other-tied user d reply call other step

  ticket-tied : (o : Option Ticket) → x.call ≡ act.Ticket → x.reply ≡ acted.Ticket o → TicketSteps s o x.after → Tied
  ticket-tied o call answered step =
      let m = turned-ticket state to_come s x.after o names kept h fit l step in
      record {
        later = m.later;
        ties = ties-more w h (keys_of_view x.after) seen ended outstanding x m.later t (λ u r. m.gave u (sym answered ∙ r.reply_is))
            (λ e g. absurd (call-no-ticket superuser (key_call.Generate g.name 1) (sym g.call_is ∙ call))) (λ f r i is came. absurd (call-no-ticket superuser (batch_call f.note) (sym is ∙ call)));
      }

  deposit-tied : (key : SealedKey) (a : Deposit) → KmsAllows seen (act.Deposit key) → x.call ≡ act.Deposit key → DepositSteps s key a x.after → Tied
  deposit-tied key a may call step =
      plain (turned-deposit state to_come s x.after may.0 key a names kept h fit l (t.tickets may.0 may.1) may.2 step).later (λ u r. deposit-no-ticket key (sym call ∙ r.call_is))
      (λ e g. call-no-deposit superuser (key_call.Generate g.name 1) key (sym call ∙ g.call_is)) (λ f is. call-no-deposit superuser (batch_call f.note) key (sym call ∙ is))

  pub entry-tied : (q : KmsAct) (r : KmsActed) → x.call ≡ q → x.reply ≡ r → KmsAllows seen q → KmsDoes state to_come s q r x.after → Tied
  entry-tied (act.Call user c) (acted.Call reply) call answered may step = call-tied user c reply (sort_of c) call answered step
  entry-tied (act.Call user c) (acted.Ticket o) call answered may step = absurd step
  entry-tied (act.Call user c) (acted.Deposit a) call answered may step = absurd step
  entry-tied act.Ticket (acted.Call reply) call answered may step = absurd step
  entry-tied act.Ticket (acted.Ticket o) call answered may step = ticket-tied o call answered step
  entry-tied act.Ticket (acted.Deposit a) call answered may step = absurd step
  entry-tied (act.Deposit key) (acted.Call reply) call answered may step = absurd step
  entry-tied (act.Deposit key) (acted.Ticket o) call answered may step = absurd step
  entry-tied (act.Deposit key) (acted.Deposit a) call answered may step = deposit-tied key a may call step

-- an entry leaves the disk one that tells its content, or does not, as it was
pub step-tells : {D W : Type 0} (state : D → DiskState) (to_come : W → ℕ → ℕ) (s t : KmsView D W) (q : KmsAct) (r : KmsActed) → KmsDoes state to_come s q r t → (state t.disk).tells ≡ (state s.disk).tells
step-tells state to_come s t (act.Call user c) (acted.Call reply) step = (step.acts step.has_lines.0 step.has_lines.1).disk.run.tells
step-tells state to_come s t (act.Call user c) (acted.Ticket o) step = absurd step
step-tells state to_come s t (act.Call user c) (acted.Deposit a) step = absurd step
step-tells state to_come s t act.Ticket (acted.Call reply) step = absurd step
step-tells state to_come s t act.Ticket (acted.Ticket o) step = ap (λ (v : KmsView _ _). (state v.disk).tells) step.same
step-tells state to_come s t act.Ticket (acted.Deposit a) step = absurd step
step-tells state to_come s t (act.Deposit key) (acted.Call reply) step = absurd step
step-tells state to_come s t (act.Deposit key) (acted.Ticket o) step = absurd step
step-tells state to_come s t (act.Deposit key) (acted.Deposit a) step = ap (λ (v : KmsView _ _). (state v.disk).tells) step.left

-- so do the entries of a legal history
pub history-tells : {D W : Type 0} (state : D → DiskState) (to_come : W → ℕ → ℕ) (before es more : List (KmsEntry D W)) (s : KmsView D W)
    → LegalAfter (KmsSteps {D = D} {W = W} state to_come) (KmsAllows {S = KmsView D W}) before s (es ++ more) → (state (state_after s es).disk).tells ≡ (state s.disk).tells
history-tells state to_come before [] more s legal = refl
history-tells state to_come before (x ∷ es) more s legal =
    history-tells state to_come (before ++ x ∷ []) es more x.after legal.2 ∙ step-tells state to_come s x.after x.call x.reply legal.1.does

-- all entries that were seen since

pub record KeysTied {D W : Type 0} (w : WorldState) (h : Hidden) (last : KmsView D W) (seen : List (KmsEntry D W)) (ended : List ℕ) (outstanding : List Front) : Type 0 where
  pub later : Later w h (keys_of_view last)
  pub ties : Ties later.kept later.hidden seen ended outstanding
  pub fit : IsService (keys_of_view last)

module _ {D W : Type 0} (state : D → DiskState) (to_come : W → ℕ → ℕ) (names : NameService) (ended : List ℕ) (outstanding : List Front) where
  pub keys-tied : (seen es : List (KmsEntry D W)) (s : KmsView D W) (kept : Kept) (h : Hidden) → ServicesFit (world_with (keys_of_view s) names kept) → LinkedWorld (world_with (keys_of_view s) names kept) h → Ties kept h seen ended outstanding
      → Tells (state s.disk) → LegalAfter (KmsSteps {D = D} {W = W} state to_come) (KmsAllows {S = KmsView D W}) seen s es → KeysTied (world_with (keys_of_view s) names kept) h (state_after s es) (seen ++ es) ended outstanding
  keys-tied seen [] s kept h fit l t telling legal = record {
    later = same-later (world_with (keys_of_view s) names kept) h l;
    ties = subst (λ (xs : List (KmsEntry D W)). Ties kept h xs ended outstanding) (sym (append-nil seen)) t;
    fit = fit.keys;
  }
  keys-tied seen (x ∷ es) s kept h fit l t telling legal =
      let first = entry-tied state to_come s names kept h seen ended outstanding x fit legal.1.after l t telling x.call x.reply refl refl legal.0 legal.1.does in
      let rest = keys-tied (seen ++ x ∷ []) es x.after first.later.kept first.later.hidden (record { keys = legal.1.after; names = fit.names }) first.later.linked first.ties
      (step-tells state to_come s x.after x.call x.reply legal.1.does ∙ telling) legal.2 in
      record {
        later = then-later (world_with (keys_of_view s) names kept) h (keys_of_view x.after) (keys_of_view (state_after x.after es)) first.later rest.later;
        ties = subst (λ (xs : List (KmsEntry D W)). Ties rest.later.kept rest.later.hidden xs ended outstanding) (append_assoc seen (x ∷ []) es) rest.ties;
        fit = rest.fit;
      }
