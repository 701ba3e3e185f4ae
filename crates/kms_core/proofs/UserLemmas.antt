-- The calls of users: denied, or permitted and served.
use Rattle.std.proofs.Common.{◌≡◌, ◌⊎◌, inl, inr, ℕ, ◌+◌, List, [], Bool, true, false, cond, Option, Some, refl, ap, sym, ◌∙◌, subst, arith}
use Rattle.std.specs.Prelude.{Result, Ok, Err, IsTrue}
use Rattle.hk_base.specs.Disk.{DiskState, Tells}
use Rattle.hk_base.specs.Faults.{Rose}
use Rattle.key_rows.specs.declared.rows.KeyCommand.{KeyCommand}
use Rattle.kms_calls.specs.declared.calls.KmsCall.{KmsCall}
use Rattle.kms_calls.specs.declared.calls.KmsCall.TheVariants as call
use Rattle.kms_calls.specs.declared.calls.KmsReply.{KmsReply}
use Rattle.kms_calls.specs.declared.calls.KmsReply.TheVariants as reply
use Rattle.kms_calls.specs.declared.calls.KmsRefusal.TheVariants as refusal
use Rattle.prop_text.specs.declared.lines.PropLine.{PropLine}
use Rattle.kms_acls.specs.declared.answers.Shown.{Shown}
use Rattle.kms_acls.specs.declared.answers.Denied.{Denied}
use Rattle.kms_acls.specs.Verdict.{verdict}
use Rattle.kms_store.specs.Store.{IsLeftOf}
use Rattle.kms_core.specs.State.{ServiceState, service_of, settled}
use Rattle.kms_core.specs.Service.{KmsActsOnDisk, OwnOf, KmsServes, ReadFails, WasWritten, acknowledged}
use Rattle.kms_core.specs.Users.{ActsFor, Permits, RunningKms, ServesUnder, hides, running, reply_to, without_material}
use Rattle.kms_core.specs.Calls.{KmsActs, birth_of, edek_of, row_of}
use Rattle.kms_core.specs.Opening.{unseals}
use Rattle.hk_base.specs.declared.names.Dek.{Dek}
use Rattle.kms_core.proofs.LawLemmas.{decrypt_opens}
use Rattle.kms_core.specs.Laws.{DeletedIsGone, Gone, GoneStays, IsUsedUp, LostIsUsedUp, OnlyQueues, PermittedDecryptOpens, UsedUpStays}
use Rattle.kms_core.proofs.ServiceLemmas.{logs_leaving, unchanged}
use Rattle.kms_core.proofs.BirthLemmas.{deleted_is_gone, gone_stays, lost_is_used_up, only_queues, used_up_stays}

-- a call that is denied
pub is_denied : (d : DiskState) (k : RunningKms) (lines : List PropLine) (user : List ℕ) (words : ℕ → ℕ) (now : ℕ) (c : KmsCall) (denied : Denied) (result : KmsReply)
    → verdict lines user c ≡ Err denied → result ≡ reply.Refused (refusal.Denied denied.table denied.op) → ActsFor lines user d d k words now c result k words
is_denied d k lines user words now c denied result is reply_is = record {
  drawn = 0;
  logged = [];
  serves = subst (λ (v : Result Shown Denied). ServesUnder v (service_of (running k)) words now c (Rose d.faults d.faults) (Tells d) result 0 [] (service_of (running k))) (sym is)
      (record { reply_is = reply_is; none_drawn = refl; none_logged = refl; same = refl });
  rest = λ n. ap words (omega arith);
  disk = unchanged d k.store (IsLeftOf k.store.table.keys k.store.pending (OwnOf (service_of (running k)) words now c result (service_of (running k))));
  untouched = λ why denied. record { reads = refl; faults = refl; moment = refl; leaves = λ file c left. left; left = λ t c left. left };
  lists = refl;
}

-- an answer leaves out what is hidden, and nothing else

pub answers_hidden : (shown : Shown) (c : KmsCall) (result : KmsReply) → hides shown c ≡ true → without_material result ≡ reply_to shown c result
answers_hidden shown c result h = ap (λ b. cond b (without_material result) result) (sym h)

pub answers_shown : (shown : Shown) (c : KmsCall) (result : KmsReply) → hides shown c ≡ false → result ≡ reply_to shown c result
answers_shown shown c result h = ap (λ b. cond b (without_material result) result) (sym h)

without_acknowledged : (r : KmsReply) (o : Option KeyCommand) → acknowledged (without_material r) o ≡ acknowledged r o
without_acknowledged (reply.Version version material) o = refl
without_acknowledged reply.Done o = refl
without_acknowledged (reply.Metadata meta) o = refl
without_acknowledged (reply.Metadatas metas) o = refl
without_acknowledged (reply.Names names) o = refl
without_acknowledged (reply.Versions versions) o = refl
without_acknowledged (reply.Ready keys) o = refl
without_acknowledged (reply.Resealed key) o = refl
without_acknowledged (reply.Key key) o = refl
without_acknowledged (reply.Refused why) o = refl

-- hiding the material does not change what an answer acknowledges
hidden_acknowledged : (shown : Shown) (c : KmsCall) (r : KmsReply) (o : Option KeyCommand) → acknowledged (reply_to shown c r) o ≡ acknowledged r o
hidden_acknowledged shown c r o =
    let P : Bool → Type 0 = λ b. acknowledged (cond b (without_material r) r) o ≡ acknowledged r o in
    elim (hides shown c) as P [ true ↦ without_acknowledged r o | false ↦ refl ]

-- a call that is permitted
pub is_permitted : (old new : DiskState) (k k' : RunningKms) (lines : List PropLine) (user : List ℕ) (words : ℕ → ℕ) (now : ℕ) (c : KmsCall) (shown : Shown) (served result : KmsReply) (words' : ℕ → ℕ)
    → verdict lines user c ≡ Ok shown → result ≡ reply_to shown c served → k'.acls ≡ k.acls → KmsActsOnDisk old new (running k) words now c served (running k') words'
    → ActsFor lines user old new k words now c result k' words'
is_permitted old new k k' lines user words now c shown served result words' is reply_is lists a = record {
  drawn = a.drawn;
  logged = a.logged;
  serves = subst (λ (v : Result Shown Denied). ServesUnder v (service_of (running k)) words now c (Rose old.faults new.faults) (Tells old) result a.drawn a.logged (service_of (running k'))) (sym is)
      (record { reply = served; serves = a.serves; reply_is = reply_is });
  rest = a.rest;
  disk = logs_leaving old new k.store k'.store (OwnOf (service_of (running k)) words now c served (service_of (running k'))) (OwnOf (service_of (running k)) words now c result (service_of (running k')))
      a.logged own a.disk;
  untouched = λ why denied. absurd (cc (is, denied));
  lists = lists;
}
  where
    acks : (command : KeyCommand) → WasWritten served (service_of (running k')) command → WasWritten result (service_of (running k')) command
    acks command (inl written) = inl (ap (λ (r : KmsReply). acknowledged r (Some command)) reply_is ∙ hidden_acknowledged shown c served (Some command) ∙ written)
    acks command (inr pending) = inr pending

    own : (kept : Bool) (command : KeyCommand) → OwnOf (service_of (running k)) words now c served (service_of (running k')) kept command → OwnOf (service_of (running k)) words now c result (service_of (running k')) kept command
    own kept command h = record { free = h.free; is = h.is; was_written = acks command h.was_written }

-- births that are gone

pub gone_for_user : GoneStays
gone_for_user lines user s words now c before later tells result drawn logged s' is serves birth gone = by_verdict (verdict lines user c) serves
  where
    by_verdict : (v : Result Shown Denied) → ServesUnder v s words now c (Rose before later) (IsTrue tells) result drawn logged s' → Gone s'.keys.table birth
    by_verdict (Ok shown) p = gone_stays s words now c before later (IsTrue tells) p.reply drawn logged s' is p.serves birth gone
    by_verdict (Err denied) p = subst (λ (t : ServiceState). Gone t.keys.table birth) (sym p.same) gone

pub used_up_for_user : UsedUpStays
used_up_for_user lines user s words now c before later tells result drawn logged s' is serves birth used = by_verdict (verdict lines user c) serves
  where
    by_verdict : (v : Result Shown Denied) → ServesUnder v s words now c (Rose before later) (IsTrue tells) result drawn logged s' → IsUsedUp s' birth
    by_verdict (Ok shown) p = used_up_stays s words now c before later (IsTrue tells) p.reply drawn logged s' is p.serves birth used
    by_verdict (Err denied) p = subst (λ (t : ServiceState). IsUsedUp t birth) (sym p.same) used

pub lost_for_user : LostIsUsedUp
lost_for_user lines user s words now c before later tells result drawn logged s' is serves birth below none = by_verdict (verdict lines user c) serves
  where
    by_verdict : (v : Result Shown Denied) → ServesUnder v s words now c (Rose before later) (IsTrue tells) result drawn logged s' → IsUsedUp s' birth ⊎ OnlyQueues s s'
    by_verdict (Ok shown) p = lost_is_used_up s words now c before later (IsTrue tells) p.reply drawn logged s' is p.serves birth below none
    by_verdict (Err denied) p = inr (only_queues s s' p.same)

pub deleted_for_user : DeletedIsGone
deleted_for_user lines user s words now name before later tells drawn logged s' is serves = by_verdict (verdict lines user (call.Delete name)) serves
  where
    by_verdict : (v : Result Shown Denied) → ServesUnder v s words now (call.Delete name) (Rose before later) (IsTrue tells) reply.Done drawn logged s'
        → (kept : Bool) × Gone s'.keys.table (birth_of (row_of (settled kept s) name))
    by_verdict (Ok shown) p =
        deleted_is_gone s words now name before later (IsTrue tells) drawn logged s' is
        (subst (λ (r : KmsReply). KmsServes s words now (call.Delete name) (Rose before later) (IsTrue tells) r drawn logged s') (sym p.reply_is) p.serves)
    by_verdict (Err denied) p = let no : reply.Done ≡ reply.Refused (refusal.Denied denied.table denied.op) = p.reply_is in absurd cc

-- a decryption that is permitted

pub permitted_decrypt_opens : PermittedDecryptOpens
permitted_decrypt_opens lines user s words now name sent before later tells result drawn logged s' shown permitted none serves telling =
    by_permit (subst (λ (v : Result Shown Denied). ServesUnder v s words now (call.Decrypt name sent) (Rose before later) (IsTrue tells) result drawn logged s') permitted serves)
  where
    Opens : KmsReply → Type 0
    Opens r = ((key : Dek) × (unseals s.keys.table.rows (edek_of sent) ≡ Some key) × (r ≡ reply.Key key)) ⊎ ReadFails s.keys (call.Decrypt name sent) (Rose before later) r

    by_reply : (served : KmsReply) → KmsActs s.keys words now (call.Decrypt name sent) served drawn s.keys ⊎ ReadFails s.keys (call.Decrypt name sent) (Rose before later) served → Opens served
    by_reply served (inl acts) = inl (decrypt_opens s.keys words now name sent served s.keys (λ k. words (drawn + k)) none (record { drawn = drawn; acts = acts; rest = λ k. refl }))
    by_reply served (inr fails) = inr fails

    by_permit : Permits shown s words now (call.Decrypt name sent) (Rose before later) (IsTrue tells) result drawn logged s' → Opens result × (s' ≡ s)
    by_permit p = (subst Opens (sym p.reply_is) (by_reply p.reply (p.serves.acts (λ reads. telling reads.older))), p.serves.same)
