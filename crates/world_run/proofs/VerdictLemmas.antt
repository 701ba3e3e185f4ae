-- Each call of the key management service is judged by the access control lists.
use Rattle.std.proofs.Common.{◌≡◌, inl, inr, ℕ, Bool, true, false, List, [], ◌∷◌, Option, None, Some, Ok, Err, refl, sym, ap, ◌∙◌, if◌then◌else◌}
use Rattle.std.specs.Prelude.{⊤}
use Rattle.std.specs.declared.result.Result.{Result}
use Rattle.hk_base.specs.declared.texts.Text.{Text}
use Rattle.key_rows.specs.declared.rows.KeyCommand.{KeyCommand}
use Rattle.kms_acls.specs.declared.answers.Denied.{Denied}
use Rattle.kms_acls.specs.declared.answers.Shown.{Shown}
use Rattle.kms_acls.specs.Verdict.{verdict}
use Rattle.kms_calls.specs.declared.calls.KmsCall.{KmsCall}
use Rattle.kms_calls.specs.declared.calls.KmsCall.TheVariants as call
use Rattle.kms_calls.specs.declared.calls.KmsRefusal.{KmsRefusal}
use Rattle.kms_calls.specs.declared.calls.KmsReply.{KmsReply}
use Rattle.kms_calls.specs.declared.calls.KmsReply.TheVariants as reply
use Rattle.kms_core.specs.Calls.{Deed, Ending, KmsActs, NoRoom, Outcome, Plain, causes, deed, first_cause, outcome, unless_refused}
use Rattle.kms_core.specs.Service.{Changes, Committing, Kind, KmsServes, OnlyReads, Reading, RefusesFor, ServesBy, Working, kind}
use Rattle.kms_core.specs.State.{KmsState, ServiceState, settled}
use Rattle.kms_core.specs.Users.{ServesUnder, ServesUser, hides, reply_to, without_material}
use Rattle.kms_store.specs.Store.{settled_commands}
use Rattle.prop_text.specs.declared.lines.PropLine.{PropLine}
use Rattle.world_run.specs.Verdicts.{IsJudged, denial_in, denied_by}

-- a call that is permitted is never answered by a denial

abbrev denial_of : Option KmsRefusal → Option Denied
denial_of None = None
denial_of (Some why) = denial_in (reply.Refused why)

-- none of these causes is a denial
abbrev Clean : List (Bool × KmsRefusal) → Type 0
Clean [] = ⊤
Clean (x ∷ xs) = (denial_in (reply.Refused x.1) ≡ None) × Clean xs

first_clean : (xs : List (Bool × KmsRefusal)) → Clean xs → denial_of (first_cause xs) ≡ None
first_clean [] clean = refl
first_clean (x ∷ xs) clean = go x.0 (first_clean xs clean.1)
  where
    go : (b : Bool) → denial_of (first_cause xs) ≡ None → denial_of (if b then Some x.1 else first_cause xs) ≡ None
    go true rest = clean.0
    go false rest = rest

causes_clean : (s : KmsState) (c : KmsCall) → Clean (causes s c)
causes_clean s (call.Create name bits material description) = (refl, (refl, (refl, (refl, tt))))
causes_clean s (call.Roll name material) = (refl, (refl, (refl, tt)))
causes_clean s (call.Delete name) = (refl, tt)
causes_clean s (call.Invalidate name) = (refl, tt)
causes_clean s (call.Metadata name) = (refl, tt)
causes_clean s (call.Metadatas names) = (refl, tt)
causes_clean s call.Names = tt
causes_clean s (call.Current name) = (refl, tt)
causes_clean s (call.Versions name) = (refl, tt)
causes_clean s (call.Version version) = (refl, (refl, tt))
causes_clean s (call.Generate name count) = (refl, (refl, tt))
causes_clean s (call.Decrypt name sent) = (refl, (refl, (refl, (refl, tt))))
causes_clean s (call.Reencrypt name sent) = (refl, (refl, (refl, (refl, tt))))
causes_clean s (call.Batch name sent) = (refl, (refl, (refl, (refl, (refl, tt)))))

deed_clean : (s : KmsState) (words : ℕ → ℕ) (now : ℕ) (c : KmsCall) → denial_in (deed s words now c).answer ≡ None
deed_clean s words now (call.Create name bits material description) = refl
deed_clean s words now (call.Roll name material) = refl
deed_clean s words now (call.Delete name) = refl
deed_clean s words now (call.Invalidate name) = refl
deed_clean s words now (call.Metadata name) = refl
deed_clean s words now (call.Metadatas names) = refl
deed_clean s words now call.Names = refl
deed_clean s words now (call.Current name) = refl
deed_clean s words now (call.Versions name) = refl
deed_clean s words now (call.Version version) = refl
deed_clean s words now (call.Generate name count) = refl
deed_clean s words now (call.Decrypt name sent) = refl
deed_clean s words now (call.Reencrypt name sent) = refl
deed_clean s words now (call.Batch name sent) = refl

unless_clean : (why : Option KmsRefusal) (s : KmsState) (d : Deed) → denial_of why ≡ None → denial_in d.answer ≡ None → denial_in (unless_refused why s d).reply ≡ None
unless_clean None s d cause done = done
unless_clean (Some why) s d cause done = cause

outcome_clean : (s : KmsState) (words : ℕ → ℕ) (now : ℕ) (c : KmsCall) (e : Ending) → denial_in (outcome s words now c e).reply ≡ None
outcome_clean s words now c Plain = unless_clean (first_cause (causes s c)) s (deed s words now c) (first_clean (causes s c) (causes_clean s c)) (deed_clean s words now c)
outcome_clean s words now c (NoRoom drawn) = refl

acts_clean : (s : KmsState) (words : ℕ → ℕ) (now : ℕ) (c : KmsCall) (answer : KmsReply) (drawn : ℕ) (s' : KmsState) → KmsActs s words now c answer drawn s' → denial_in answer ≡ None
acts_clean s words now c answer drawn s' acts = ap (λ (o : Outcome). denial_in o.reply) acts.2 ∙ outcome_clean s words now c acts.0

module _ (s : ServiceState) (words : ℕ → ℕ) (now : ℕ) (c : KmsCall) (fault tells : Type 0) (answer : KmsReply) (drawn : ℕ) (logged : List KeyCommand) (s' : ServiceState) where
  changes_clean : (kept : Bool) → Changes (settled kept s) (settled_commands kept s.pending) words now c fault answer drawn logged s' → denial_in answer ≡ None
  changes_clean kept (inl written) = acts_clean (settled kept s) words now c answer drawn written.changed written.acts
  changes_clean kept (inr unwritten) = ap denial_in unwritten.reply_is

  -- a call that changes nothing is refused for a cause, for want of memory or by the store, whatever the disk gives
  why_clean : (why : KmsRefusal) → RefusesFor s.keys c fault why → denial_of (Some why) ≡ None
  why_clean why (inl stands) = ap denial_of (sym stands) ∙ first_clean (causes s.keys c) (causes_clean s.keys c)
  why_clean why (inr (inl is)) = ap (λ (w : KmsRefusal). denial_of (Some w)) is
  why_clean why (inr (inr fails)) = ap (λ (w : KmsRefusal). denial_of (Some w)) fails.0

  reads_clean : OnlyReads s words now c fault tells answer drawn logged s' → (given : KmsReply) → answer ≡ given → denial_in given ≡ None
  reads_clean reads (reply.Version version material) is = refl
  reads_clean reads reply.Done is = refl
  reads_clean reads (reply.Metadata meta) is = refl
  reads_clean reads (reply.Metadatas metas) is = refl
  reads_clean reads (reply.Names names) is = refl
  reads_clean reads (reply.Versions versions) is = refl
  reads_clean reads (reply.Ready edeks) is = refl
  reads_clean reads (reply.Resealed edek) is = refl
  reads_clean reads (reply.Key dek) is = refl
  reads_clean reads (reply.Refused why) is = why_clean why (reads.refuses why is)

  kind_clean : (k : Kind) → ServesBy k s words now c fault tells answer drawn logged s' → denial_in answer ≡ None
  kind_clean Reading reads = reads_clean reads answer refl
  kind_clean Working works = acts_clean s.keys words now c answer drawn works.changed works.acts
  kind_clean Committing (inl unsettled) = ap denial_in unsettled.reply_is
  kind_clean Committing (inr changes) = changes_clean changes.0 changes.1

  serves_clean : KmsServes s words now c fault tells answer drawn logged s' → denial_in answer ≡ None
  serves_clean serves = kind_clean (kind c) serves

-- what is shown of a reply has the same denial

without_same : (answer : KmsReply) → denial_in (without_material answer) ≡ denial_in answer
without_same (reply.Version version material) = refl
without_same reply.Done = refl
without_same (reply.Metadata meta) = refl
without_same (reply.Metadatas metas) = refl
without_same (reply.Names names) = refl
without_same (reply.Versions versions) = refl
without_same (reply.Ready edeks) = refl
without_same (reply.Resealed edek) = refl
without_same (reply.Key dek) = refl
without_same (reply.Refused why) = refl

shown_same : (shown : Shown) (c : KmsCall) (answer : KmsReply) → denial_in (reply_to shown c answer) ≡ denial_in answer
shown_same shown c answer = go (hides shown c)
  where
    go : (b : Bool) → denial_in (if b then without_material answer else answer) ≡ denial_in answer
    go true = without_same answer
    go false = refl

-- a call of a user is judged
pub judged : (lines : List PropLine) (user : Text) (s : ServiceState) (words : ℕ → ℕ) (now : ℕ) (c : KmsCall) (fault tells : Type 0) (answer : KmsReply) (drawn : ℕ) (logged : List KeyCommand) (s' : ServiceState)
    → ServesUser lines user s words now c fault tells answer drawn logged s' → IsJudged lines user c answer
judged lines user s words now c fault tells answer drawn logged s' serves = by_verdict (verdict lines user c) serves
  where
    by_verdict : (v : Result Shown Denied) → ServesUnder v s words now c fault tells answer drawn logged s' → denial_in answer ≡ denied_by v
    by_verdict (Ok shown) p = ap denial_in p.reply_is ∙ shown_same shown c p.reply ∙ serves_clean s words now c fault tells p.reply drawn logged s' p.serves
    by_verdict (Err denied) d = ap denial_in d.reply_is
