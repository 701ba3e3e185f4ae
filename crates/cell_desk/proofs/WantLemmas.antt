-- The reply to the call that a note wants answers it, since its entry is a step.
use Rattle.std.proofs.Common.{◌≡◌, ℕ, ◌-◌, false, nat_lt, List, [], ◌∷◌, ◌++◌, length, take, Option, Some, None, is_none, Ok, Err, slice_get, refl, ap, sym, subst, ◌∙◌, arith}
use Rattle.std.specs.declared.result.Result.{Result}
use Rattle.hk_base.specs.Disk.{DiskState, Tells}
use Rattle.hk_base.specs.Faults.{Rose}
use Rattle.hk_base.specs.declared.names.Edek.{Edek}
use Rattle.hk_base.specs.declared.names.KeyName.{KeyName}
use Rattle.hk_base.specs.declared.names.VersionName.{VersionName}
use Rattle.hk_base.specs.declared.texts.Text.{Text}
use Rattle.key_rows.specs.declared.rows.KeyCommand.{KeyCommand}
use Rattle.key_rows.specs.declared.rows.KeyRow.{KeyRow}
use Rattle.kms_acls.specs.declared.answers.Denied.{Denied}
use Rattle.kms_acls.specs.declared.answers.Shown.{Shown}
use Rattle.kms_acls.specs.Verdict.{verdict}
use Rattle.kms_calls.specs.declared.calls.KmsCall.TheVariants as call
use Rattle.kms_calls.specs.declared.calls.KmsRefusal.{KmsRefusal}
use Rattle.kms_calls.specs.declared.calls.KmsRefusal.TheVariants as refusal
use Rattle.kms_calls.specs.declared.calls.KmsReply.{KmsReply}
use Rattle.kms_core.specs.Calls.{KmsActs, NoRoom, Plain, causes, current_material, current_version, deed, first_cause, ready_of, row_of, unless_refused}
use Rattle.kms_core.specs.Draws.{drawn_edeks}
use Rattle.kms_core.specs.State.{IsService, KmsState, ServiceState, service_of}
use Rattle.kms_core.specs.Users.{ServesUnder, running}
use Rattle.kms_core.proofs.KeyLemmas.{named}
use Rattle.kms_core.proofs.LawLemmas.{ready_opens}
use Rattle.kms_core.proofs.MemoryReads.{acts-from-memory}
use Rattle.kms_core.proofs.SentLemmas.{none_stands}
use Rattle.name_calls.specs.declared.calls.Want.{Want}
use Rattle.name_calls.specs.declared.calls.Want.TheVariants as want
use Rattle.name_history.specs.Asked.{AnswersWant, IsOneOf}
use Rattle.kms_cell.specs.Entries.{KmsKnown, Makes}
use Rattle.kms_cell.specs.Steps.{CallSteps}
use Rattle.kms_cell.specs.Views.{KmsView}
use Rattle.kms_cell.specs.declared.acts.KmsAct.TheVariants as act
use Rattle.kms_cell.specs.declared.acts.KmsActed.TheVariants as acted
use Rattle.kms_cell.proofs.ReplyLemmas.{made_step}

-- one key of the name is generated: the oldest ready key, or one that is drawn
module _ (s : ServiceState) (words : ℕ → ℕ) (now : ℕ) (name : KeyName) (is_service : IsService s) where
  current-key : (o : Option KeyRow) → row_of s.keys name ≡ o → is_none o ≡ false → (current_version o).key ≡ name
  current-key None found some = absurd cc
  current-key (Some row) found some = named s.keys.table.rows name row found

  version-key : is_none (row_of s.keys name) ≡ false → (current_version (row_of s.keys name)).key ≡ name
  version-key stands = current-key (row_of s.keys name) refl stands

  one-key : is_none (row_of s.keys name) ≡ false → (ready : List Edek) → ready_of s.keys name ≡ ready → (material : List ℕ)
      → IsOneOf name (take 1 ready ++ drawn_edeks (current_version (row_of s.keys name)) material words (1 - length ready))
  one-key stands [] are material = version-key stands
  one-key stands (e ∷ es) are material =
      let none : 1 - length (e ∷ es) ≡ 0 = omega arith in
      let current : e.version.key ≡ name = ap (λ (v : VersionName). v.key) (ready_opens s name is_service stands 0 e (ap (λ (l : List Edek). slice_get l 0) are)).version ∙ version-key stands in
      subst (λ (rest : ℕ). IsOneOf name (e ∷ drawn_edeks (current_version (row_of s.keys name)) material words rest)) (sym none) current

  generate-answers : (o : Option KmsRefusal) → first_cause (causes s.keys (call.Generate name 1)) ≡ o
      → AnswersWant (want.Generate name) (Some (unless_refused o s.keys (deed s.keys words now (call.Generate name 1))).reply)
  generate-answers (Some why) cause = tt
  generate-answers None free =
      one-key (none_stands (is_none (row_of s.keys name)) refusal.NoSuchKey ((nat_lt 1000 1, refusal.TooManyAsked) ∷ []) free).0 (ready_of s.keys name) refl (current_material s.keys name)

  metadata-answers : (o : Option KmsRefusal) → AnswersWant (want.Metadata name) (Some (unless_refused o s.keys (deed s.keys words now (call.Metadata name))).reply)
  metadata-answers (Some why) = tt
  metadata-answers None = refl

  generate-acts : (reply : KmsReply) (drawn : ℕ) (k : KmsState) → KmsActs s.keys words now (call.Generate name 1) reply drawn k → AnswersWant (want.Generate name) (Some reply)
  generate-acts reply drawn k (NoRoom some, may, is) = subst (λ (r : KmsReply). AnswersWant (want.Generate name) (Some r)) (sym (ap (λ o. o.reply) is)) tt
  generate-acts reply drawn k (Plain, may, is) =
      subst (λ (r : KmsReply). AnswersWant (want.Generate name) (Some r)) (sym (ap (λ o. o.reply) is)) (generate-answers (first_cause (causes s.keys (call.Generate name 1))) refl)

  metadata-acts : (reply : KmsReply) (drawn : ℕ) (k : KmsState) → KmsActs s.keys words now (call.Metadata name) reply drawn k → AnswersWant (want.Metadata name) (Some reply)
  metadata-acts reply drawn k (NoRoom some, may, is) = subst (λ (r : KmsReply). AnswersWant (want.Metadata name) (Some r)) (sym (ap (λ o. o.reply) is)) tt
  metadata-acts reply drawn k (Plain, may, is) =
      subst (λ (r : KmsReply). AnswersWant (want.Metadata name) (Some r)) (sym (ap (λ o. o.reply) is)) (metadata-answers (first_cause (causes s.keys (call.Metadata name))))

  generate-served : (fault tells : Type 0) (reply : KmsReply) (drawn : ℕ) (logged : List KeyCommand) (after : ServiceState) (v : Result Shown Denied)
      → ServesUnder v s words now (call.Generate name 1) fault tells reply drawn logged after → AnswersWant (want.Generate name) (Some reply)
  generate-served fault tells reply drawn logged after (Err denied) d = subst (λ (r : KmsReply). AnswersWant (want.Generate name) (Some r)) (sym d.reply_is) tt
  generate-served fault tells reply drawn logged after (Ok shown) p =
      subst (λ (r : KmsReply). AnswersWant (want.Generate name) (Some r)) (sym p.reply_is) (generate-acts p.reply drawn p.serves.changed p.serves.acts)

  metadata-served : (fault tells : Type 0) (reply : KmsReply) (drawn : ℕ) (logged : List KeyCommand) (after : ServiceState) (v : Result Shown Denied)
      → ServesUnder v s words now (call.Metadata name) fault tells reply drawn logged after → AnswersWant (want.Metadata name) (Some reply)
  metadata-served fault tells reply drawn logged after (Err denied) d = subst (λ (r : KmsReply). AnswersWant (want.Metadata name) (Some r)) (sym d.reply_is) tt
  metadata-served fault tells reply drawn logged after (Ok shown) p =
      subst (λ (r : KmsReply). AnswersWant (want.Metadata name) (Some r)) (sym p.reply_is) (metadata-acts p.reply drawn s.keys (acts-from-memory s words now (call.Metadata name) fault tells p.reply drawn logged after refl p.serves))

module _ {D W : Type 0} (state : D → DiskState) (to_come : W → ℕ → ℕ) where
  generate-step : (s t : KmsView D W) (user : Text) (name : KeyName) (reply : KmsReply) → IsService (service_of (running s.kms)) → CallSteps state to_come s user (call.Generate name 1) reply t → AnswersWant (want.Generate name) (Some reply)
  generate-step s t user name reply rules step =
      let lines = step.has_lines.0 in
      let acts = step.acts lines step.has_lines.1 in
      generate-served (service_of (running s.kms)) (to_come s.words) step.now name rules (Rose (state s.disk).faults (state t.disk).faults) (Tells (state s.disk)) reply acts.drawn acts.logged (service_of (running t.kms))
      (verdict lines user (call.Generate name 1)) acts.serves

  metadata-step : (s t : KmsView D W) (user : Text) (name : KeyName) (reply : KmsReply) → IsService (service_of (running s.kms)) → CallSteps state to_come s user (call.Metadata name) reply t → AnswersWant (want.Metadata name) (Some reply)
  metadata-step s t user name reply rules step =
      let lines = step.has_lines.0 in
      let acts = step.acts lines step.has_lines.1 in
      metadata-served (service_of (running s.kms)) (to_come s.words) step.now name rules (Rose (state s.disk).faults (state t.disk).faults) (Tells (state s.disk)) reply acts.drawn acts.logged (service_of (running t.kms))
      (verdict lines user (call.Metadata name)) acts.serves

  pub generate_is_answered : (v w : KmsKnown D W) (user : Text) (name : KeyName) (reply : KmsReply) (wanted : Want) → Makes state to_come v (act.Call user (call.Generate name 1)) (acted.Call reply) w
      → wanted ≡ want.Generate name → AnswersWant wanted (Some reply)
  generate_is_answered v w user name reply wanted a is =
      let made = made_step state to_come v w (act.Call user (call.Generate name 1)) (acted.Call reply) a in
      subst (λ (x : Want). AnswersWant x (Some reply)) (sym is) (generate-step made.0 made.1 user name reply made.2.before made.2.does)

  pub metadata_is_answered : (v w : KmsKnown D W) (user : Text) (name : KeyName) (reply : KmsReply) (wanted : Want) → Makes state to_come v (act.Call user (call.Metadata name)) (acted.Call reply) w
      → wanted ≡ want.Metadata name → AnswersWant wanted (Some reply)
  metadata_is_answered v w user name reply wanted a is =
      let made = made_step state to_come v w (act.Call user (call.Metadata name)) (acted.Call reply) a in
      subst (λ (x : Want). AnswersWant x (Some reply)) (sym is) (metadata-step made.0 made.1 user name reply made.2.before made.2.does)
