-- What the key management service replies to the calls that asks and batches want.
use Rattle.std.proofs.Common.{◌≡◌, ◌⊎◌, inl, inr, ℕ, false, List, [], ◌∷◌, Some, None, Ok, Err, is_none, refl, sym, ap, subst, ◌∙◌}
use Rattle.std.specs.declared.result.Result.{Result}
use Rattle.hk_base.specs.declared.names.Edek.{Edek}
use Rattle.hk_base.specs.declared.names.KeyName.{KeyName}
use Rattle.hk_base.specs.declared.texts.Text.{Text}
use Rattle.key_rows.specs.declared.rows.KeyCommand.{KeyCommand}
use Rattle.kms_acls.specs.declared.answers.Denied.{Denied}
use Rattle.kms_acls.specs.declared.answers.Shown.{Shown}
use Rattle.kms_acls.specs.Verdict.{verdict}
use Rattle.kms_calls.specs.declared.calls.KmsCall.TheVariants as call
use Rattle.kms_calls.specs.declared.calls.KmsReply.{KmsReply}
use Rattle.kms_calls.specs.declared.calls.KmsReply.TheVariants as reply
use Rattle.kms_calls.specs.declared.calls.RawEdek.{RawEdek}
use Rattle.kms_core.specs.Calls.{row_of}
use Rattle.kms_core.specs.State.{ServiceState}
use Rattle.kms_core.specs.Users.{ServesUnder, ServesUser}
use Rattle.name_calls.specs.Answers.{answer_of}
use Rattle.prop_text.specs.declared.lines.PropLine.{PropLine}
use Rattle.world_run.specs.Linked.{given}
use Rattle.world_run.proofs.DrawLemmas.{generate-one, meta-answers}
use Rattle.kms_core.proofs.MemoryReads.{acts-from-memory}

-- one encrypted key was generated, of a key that exists
pub record OneGenerated (s : ServiceState) (name : KeyName) (result : KmsReply) (s' : ServiceState) : Type 0 where
  pub edek : Edek
  pub reply_is : result ≡ reply.Ready (edek ∷ [])
  pub stands : is_none (row_of s.keys name) ≡ false
  pub same : s'.keys.table ≡ s.keys.table

abbrev pub NoKey : KmsReply → Type 0
NoKey result = given (answer_of (Some result)) ≡ None

module _ (lines : List PropLine) (user : Text) (s : ServiceState) (words : ℕ → ℕ) (now : ℕ) (fault tells : Type 0) (drawn : ℕ) (logged : List KeyCommand) (s' : ServiceState) where
  pub generate-gives : (name : KeyName) (result : KmsReply) → ServesUser lines user s words now (call.Generate name 1) fault tells result drawn logged s' → NoKey result ⊎ OneGenerated s name result s'
  generate-gives name result serves = go (verdict lines user (call.Generate name 1)) serves
    where
      go : (v : Result Shown Denied) → ServesUnder v s words now (call.Generate name 1) fault tells result drawn logged s' → NoKey result ⊎ OneGenerated s name result s'
      go (Err denied) d = inl (subst NoKey (sym d.reply_is) refl)
      go (Ok shown) p = elim (generate-one s.keys words now name p.reply drawn p.serves.changed p.serves.acts) [
        | inl refused ↦ inl (subst NoKey (sym (p.reply_is ∙ refused.1)) refl)
        | inr one ↦ inr (elim one.2 [
          | inl taken ↦ record { edek = one.0; reply_is = p.reply_is ∙ one.1; stands = taken.stands; same = ap (λ (t : ServiceState). t.keys.table) p.serves.left ∙ taken.same }
          | inr fresh ↦ record { edek = one.0; reply_is = p.reply_is ∙ one.1; stands = fresh.stands; same = ap (λ (t : ServiceState). t.keys.table) p.serves.left ∙ fresh.same }
        ])
      ]

  pub metadata-gives : (name : KeyName) (result : KmsReply) → ServesUser lines user s words now (call.Metadata name) fault tells result drawn logged s' → NoKey result
  metadata-gives name result serves = go (verdict lines user (call.Metadata name)) serves
    where
      go : (v : Result Shown Denied) → ServesUnder v s words now (call.Metadata name) fault tells result drawn logged s' → NoKey result
      go (Err denied) d = subst NoKey (sym d.reply_is) refl
      go (Ok shown) p = subst NoKey (sym p.reply_is) (meta-answers s.keys words now name p.reply drawn s.keys (acts-from-memory s words now (call.Metadata name) fault tells p.reply drawn logged s' refl p.serves))

  -- the call for a batch changes nothing
  pub batch-same : (name : KeyName) (sent : List RawEdek) (result : KmsReply) → ServesUser lines user s words now (call.Batch name sent) fault tells result drawn logged s' → s' ≡ s
  batch-same name sent result serves = go (verdict lines user (call.Batch name sent)) serves
    where
      go : (v : Result Shown Denied) → ServesUnder v s words now (call.Batch name sent) fault tells result drawn logged s' → s' ≡ s
      go (Err denied) d = d.same
      go (Ok shown) p = p.serves.same
