-- The call for a batch answers each outstanding batch with the same encrypted keys.
use Rattle.std.proofs.Common.{◌≡◌, inl, inr, ℕ, List, [], ◌∷◌, ◌++◌, Option, Some, None, refl, sym, ap, subst, ◌∙◌}
use Rattle.hk_base.specs.declared.texts.Text.{Text}
use Rattle.hk_base.specs.declared.names.KeyName.{KeyName}
use Rattle.key_rows.specs.declared.rows.KeyCommand.{KeyCommand}
use Rattle.prop_text.specs.declared.lines.PropLine.{PropLine}
use Rattle.kms_calls.specs.declared.calls.KmsCall.TheVariants as key_call
use Rattle.kms_calls.specs.declared.calls.KmsReply.{KmsReply}
use Rattle.kms_calls.specs.declared.calls.RawEdek.{RawEdek}
use Rattle.kms_core.specs.State.{ServiceState}
use Rattle.kms_core.specs.Users.{ServesUser}
use Rattle.reenc_walk.specs.declared.sent.BatchNote.{BatchNote}
use Rattle.batch_calls.specs.Batches.{batch_call, key_of_sent, raw_keys, reply_for}
use Rattle.hk_events.specs.declared.event.Event.TheVariants as event
use Rattle.hk_events.specs.declared.event.Line.TheVariants as line
use Rattle.name_core.specs.Calls.{superuser}
use Rattle.kms_cell.specs.declared.acts.KmsAct.TheVariants as key_act
use Rattle.name_history.specs.Served.{batch_act}
use Rattle.name_history.specs.declared.fronts.Front.{Front}
use Rattle.world_run.specs.declared.kept.KeptReply.{KeptReply}
use Rattle.world_run.specs.declared.kept.KeptReply.TheVariants.{ToBatch}
use Rattle.world_run.specs.Acknowledged.{of_keys}
use Rattle.world_run.specs.Ledger.{Hidden, moved_on}
use Rattle.world_run.specs.Linked.{LinkedWorld, ServicesFit}
use Rattle.world_run.specs.Promise.{In}
use Rattle.world_run.specs.Step.{ServeActs}
use Rattle.world_run.specs.World.{WorldState, next_reply, numbered, with_reply}
use Rattle.world_run.proofs.CoveredWorld.{keeps-world}
use Rattle.world_run.proofs.Members.{in-left, in-right}
use Rattle.thread_laws.specs.Worlds.{world_with}
use Rattle.thread_laws.proofs.Generating.{numbered-grows}
use Rattle.thread_laws.proofs.KeyReplies.{batch-same}
use Rattle.thread_laws.proofs.Laters.{Later, call-later, in-numbered, then-later}
use Rattle.thread_laws.proofs.SameCalls.{SameBatch, decide-batch}

-- one batch, as the event that serves it

record ServedOne (w : WorldState) (h : Hidden) (keys : ServiceState) (note : BatchNote) (reply : KmsReply) : Type 0 where
  later : Later w h keys
  answer : In (ToBatch (reply_for note reply)) later.kept.replies

serve-later : (lines : List PropLine) (w : WorldState) (h : Hidden) (keys : ServiceState) (words : ℕ → ℕ) (now : ℕ) (note : BatchNote) (fault tells : Type 0) (reply : KmsReply) (drawn : ℕ) (commands : List KeyCommand)
    → tells → ServicesFit w → LinkedWorld w h → In note w.kept.batches → ServesUser lines superuser w.keys words now (batch_call note) fault tells reply drawn commands keys → ServedOne w h keys note reply
serve-later lines w h keys words now note fault tells reply drawn commands telling fit l member serves = go (in-numbered note w.kept.batches member)
  where
    answered : KeptReply
    answered = ToBatch (reply_for note reply)

    after : WorldState
    after = with_reply answered (record w { keys = keys })

    go : (n : ℕ) × (numbered w.kept.batches n ≡ Some note) → ServedOne w h keys note reply
    go (number, at) = record {
      later = record {
        kept = after.kept;
        hidden = record (moved_on w.keys.keys.ready.queues keys.keys.ready.queues drawn h) { replied = h.replied ++ None ∷ [] };
        linked = keeps-world lines w words now (event.Serve number) fault tells (line.Replied (next_reply w) (Some reply)) drawn (of_keys commands) after h telling fit fit.names.table.rules
            (subst (λ (o : Option BatchNote). ServeActs lines w words now o fault tells (line.Replied (next_reply w) (Some reply)) drawn (of_keys commands) after) (sym at)
            (inl (record { reply = reply; keys = keys; commands = commands; serves = serves; logged_is = refl; reply_is = refl; left = refl }))) l;
        ledger = refl;
        starts = refl;
        tickets = λ t i. i;
        batches = refl;
        replies = λ r o q. (q.0, numbered-grows w.kept.replies (answered ∷ []) q.0 r q.1, numbered-grows h.replied (None ∷ []) q.0 o q.2);
        more = λ r i. in-left r w.kept.replies (answered ∷ []) i;
      };
      answer = in-right answered w.kept.replies (answered ∷ []) (inl refl);
    }

-- all of these batches whose call this is

pub record ServedAll (w : WorldState) (h : Hidden) (keys : ServiceState) (user : Text) (name : KeyName) (sent : List RawEdek) (reply : KmsReply) (fronts : List Front) : Type 0 where
  pub later : Later w h keys
  pub answers : (f : Front) → In f fronts → key_act.Call user (key_call.Batch name sent) ≡ batch_act f.note → In (ToBatch (reply_for f.note reply)) later.kept.replies

module _ (lines : List PropLine) (w : WorldState) (h : Hidden) (keys : ServiceState) (words : ℕ → ℕ) (now : ℕ) (user : Text) (name : KeyName) (sent : List RawEdek) (fault tells : Type 0) (reply : KmsReply) (drawn : ℕ) (commands : List KeyCommand)
    (fit : ServicesFit w) (then : ServicesFit (record w { keys = keys })) (l : LinkedWorld w h) (serves : ServesUser lines user w.keys words now (key_call.Batch name sent) fault tells reply drawn commands keys) (telling : tells) where
  -- the call may be made again
  serves-again : ServesUser lines user keys words now (key_call.Batch name sent) fault tells reply drawn commands keys
  serves-again =
      subst (λ (s : ServiceState). ServesUser lines user s words now (key_call.Batch name sent) fault tells reply drawn commands keys) (sym (batch-same lines user w.keys words now fault tells drawn commands keys name sent reply serves)) serves

  -- for a batch of which it is the call
  serves-note : (note : BatchNote) → SameBatch user superuser name (key_of_sent note.sent) sent (raw_keys note.sent) → ServesUser lines superuser keys words now (batch_call note) fault tells reply drawn commands keys
  serves-note note same =
      subst (λ (u : Text). ServesUser lines u keys words now (batch_call note) fault tells reply drawn commands keys) same.user
      (subst (λ (n : KeyName). ServesUser lines user keys words now (key_call.Batch n (raw_keys note.sent)) fault tells reply drawn commands keys) same.name
      (subst (λ (s : List RawEdek). ServesUser lines user keys words now (key_call.Batch name s) fault tells reply drawn commands keys) same.sent serves-again))

  abbrev Served : List Front → Type 0
  Served fronts = ServedAll w h keys user name sent reply fronts

  one-more : (f : Front) (fs : List Front) → In f.note w.kept.batches → Served fs → Served (f ∷ fs)
  one-more f fs member s = elim (decide-batch user superuser name (key_of_sent f.note.sent) sent (raw_keys f.note.sent)) [
    | inl same ↦
        let m = serve-later lines (world_with keys w.names s.later.kept) s.later.hidden keys words now f.note fault tells reply drawn commands telling (record { keys = then.keys; names = fit.names }) s.later.linked
        (subst (λ (bs : List BatchNote). In f.note bs) (sym s.later.batches) member) (serves-note f.note same) in
        record {
          later = then-later w h keys keys s.later m.later;
          answers = λ g i call. elim i [
            | inl is ↦ subst (λ (n : BatchNote). In (ToBatch (reply_for n reply)) m.later.kept.replies) (ap (λ (x : Front). x.note) (sym is)) m.answer
            | inr old ↦ m.later.more (ToBatch (reply_for g.note reply)) (s.answers g old call)
          ];
        }
    | inr other ↦ record {
      later = s.later;
      answers = λ g i call. elim i [
        | inl is ↦ absurd (other (call ∙ ap (λ (x : Front). batch_act x.note) is))
        | inr old ↦ s.answers g old call
      ];
    }
  ]

  pub served-all : (fronts : List Front) → ((f : Front) → In f fronts → In f.note w.kept.batches) → Served fronts
  served-all [] members = record { later = call-later lines w h keys words now user (key_call.Batch name sent) fault tells reply drawn commands fit l serves; answers = λ f i call. absurd i }
  served-all (f ∷ fs) members = one-more f fs (members f (inl refl)) (served-all fs (λ g i. members g (inr i)))
