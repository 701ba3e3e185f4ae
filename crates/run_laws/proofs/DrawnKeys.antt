-- The answer that a draw keeps has what its ask wanted, unless it is a refusal.
use Rattle.std.proofs.Common.{◌≡◌, ℕ, ◌-◌, false, Bool, true, cond, List, [], ◌∷◌, ◌++◌, length, take, Option, Some, None, Result, Ok, Err, is_none, refl, sym, ap, subst, ◌∙◌}
use Rattle.hk_base.specs.declared.names.Edek.{Edek}
use Rattle.hk_base.specs.declared.names.KeyName.{KeyName}
use Rattle.hk_base.specs.declared.names.VersionName.{VersionName}
use Rattle.kms_calls.specs.declared.calls.KmsCall.TheVariants as key_call
use Rattle.kms_calls.specs.declared.calls.KmsRefusal.{KmsRefusal}
use Rattle.kms_calls.specs.declared.calls.KmsRefusal.TheVariants as key_refusal
use Rattle.kms_calls.specs.declared.calls.KmsReply.{KmsReply}
use Rattle.kms_calls.specs.declared.calls.KmsReply.TheVariants as key_reply
use Rattle.key_rows.specs.declared.rows.KeyCommand.{KeyCommand}
use Rattle.key_rows.specs.declared.rows.KeyRow.{KeyRow}
use Rattle.key_rows.specs.Table.{current_of}
use Rattle.prop_text.specs.declared.lines.PropLine.{PropLine}
use Rattle.kms_acls.specs.declared.answers.Denied.{Denied}
use Rattle.kms_acls.specs.declared.answers.Shown.{Shown}
use Rattle.kms_acls.specs.Verdict.{verdict}
use Rattle.kms_core.specs.Calls.{KmsActs, NoRoom, Plain, current_material, current_version, first_cause, generate_causes, generated, ready_of, row_of, unless_refused}
use Rattle.kms_core.specs.Draws.{drawn_edeks}
use Rattle.kms_core.specs.State.{KmsState, ServiceState}
use Rattle.kms_core.specs.Users.{ServesUnder}
use Rattle.kms_core.proofs.KeyLemmas.{named}
use Rattle.kms_core.proofs.ReadyLemmas.{KeepsReady, first_ready, standing_row}
use Rattle.name_calls.specs.declared.calls.KeyAnswer.{KeyAnswer}
use Rattle.name_calls.specs.declared.calls.KeyAnswer.TheVariants as answer
use Rattle.name_calls.specs.declared.calls.Want.{Want}
use Rattle.name_calls.specs.declared.calls.Want.TheVariants as want
use Rattle.name_calls.specs.Answers.{answer_of, first_of}
use Rattle.name_core.specs.Calls.{superuser}
use Rattle.world_run.specs.Step.{WantActs}
use Rattle.run_laws.specs.Names.{GivesWanted}

-- an answer that is not a refusal has what was wanted
abbrev pub Fits : Want → KeyAnswer → Type 0
Fits wanted given = (edek : Option Edek) → given ≡ answer.Given edek → GivesWanted wanted edek

-- the key of the first encrypted key, which is a ready one or drawn
first-fits : (name : KeyName) (version : VersionName) (material : List ℕ) (words : ℕ → ℕ) (ready : List Edek) → ((e : Edek) (more : List Edek) → ready ≡ e ∷ more → e.version.key ≡ name) → version.key ≡ name
    → GivesWanted (want.Generate name) (first_of (take 1 ready ++ drawn_edeks version material words (1 - length ready)))
first-fits name version material words [] of-ready drawn = drawn
first-fits name version material words (e ∷ more) of-ready drawn = of-ready e more refl

refusal-fits : (name : KeyName) (why : KmsRefusal) (reply : KmsReply) → reply ≡ key_reply.Refused why → Fits (want.Generate name) (answer_of (Some reply))
refusal-fits name why reply is = λ edek given. let f = sym (ap (λ (r : KmsReply). answer_of (Some r)) is) ∙ given in absurd cc

first-free : (a : Bool) (why : KmsRefusal) (rest : Option KmsRefusal) → cond a (Some why) rest ≡ None → a ≡ false
first-free true why rest free = absurd cc
first-free false why rest free = refl

-- the key that a generate gives is of the current version of the key with the given name
ready-fits : (s : ServiceState) (words : ℕ → ℕ) (name : KeyName) (reply : KmsReply) → KeepsReady s → is_none (row_of s.keys name) ≡ false → reply ≡ (generated s.keys words name 1).answer
    → Fits (want.Generate name) (answer_of (Some reply))
ready-fits s words name reply ready stands is = λ edek given.
    let row = standing_row s.keys name ready.rising stands in
    let key : (current_of row.0).key ≡ name = named s.keys.table.rows name row.0 row.1 in
    let gives : answer.Given (first_of (take 1 (ready_of s.keys name) ++ drawn_edeks (current_version (row_of s.keys name)) (current_material s.keys name) words (1 - length (ready_of s.keys name)))) ≡ answer.Given edek =
    sym (ap (λ (r : KmsReply). answer_of (Some r)) is) ∙ given in
    subst (GivesWanted (want.Generate name)) (same-given _ edek gives)
    (first-fits name (current_version (row_of s.keys name)) (current_material s.keys name) words (ready_of s.keys name)
    (λ e more at. ap (λ (v : VersionName). v.key) (first_ready s name row.0 e more ready row.1 row.2 at) ∙ key)
    (ap (λ (o : Option KeyRow). (current_version o).key) row.1 ∙ key))
  where
    same-given : (a b : Option Edek) → answer.Given a ≡ answer.Given b → a ≡ b
    same-given a b h = cc

generated-fits : (s : ServiceState) (words : ℕ → ℕ) (now : ℕ) (name : KeyName) (reply : KmsReply) (drawn : ℕ) (s' : KmsState) → KeepsReady s → KmsActs s.keys words now (key_call.Generate name 1) reply drawn s'
    → Fits (want.Generate name) (answer_of (Some reply))
generated-fits s words now name reply drawn s' ready (NoRoom some, may, is) = refusal-fits name key_refusal.NoMemory reply (ap (λ o. o.reply) is)
generated-fits s words now name reply drawn s' ready (Plain, may, is) = go (first_cause (generate_causes (row_of s.keys name) 1)) refl is
  where
    go : (o : Option KmsRefusal) → first_cause (generate_causes (row_of s.keys name) 1) ≡ o → (record { reply = reply; drawn = drawn; state = s' }) ≡ unless_refused o s.keys (generated s.keys words name 1)
        → Fits (want.Generate name) (answer_of (Some reply))
    go (Some why) cause is = refusal-fits name why reply (ap (λ o. o.reply) is)
    go None cause is = ready-fits s words name reply ready (first-free (is_none (row_of s.keys name)) key_refusal.NoSuchKey _ cause) (ap (λ o. o.reply) is)

generate-fits : (s : ServiceState) (words : ℕ → ℕ) (now : ℕ) (name : KeyName) (fault tells : Type 0) (reply : KmsReply) (drawn : ℕ) (logged : List KeyCommand) (s' : ServiceState) (v : Result Shown Denied)
    → KeepsReady s → ServesUnder v s words now (key_call.Generate name 1) fault tells reply drawn logged s' → Fits (want.Generate name) (answer_of (Some reply))
generate-fits s words now name fault tells reply drawn logged s' (Ok shown) ready p =
    subst (λ (r : KmsReply). Fits (want.Generate name) (answer_of (Some r))) (sym p.reply_is) (generated-fits s words now name p.reply drawn p.serves.changed ready p.serves.acts)
generate-fits s words now name fault tells reply drawn logged s' (Err denied) ready d = refusal-fits name (key_refusal.Denied denied.table denied.op) reply d.reply_is

pub drawn-fits : (lines : List PropLine) (s : ServiceState) (words : ℕ → ℕ) (now : ℕ) (wanted : Want) (fault tells : Type 0) (reply : Option KmsReply) (drawn : ℕ) (logged : List KeyCommand) (s' : ServiceState)
    → KeepsReady s → WantActs lines s words now wanted fault tells reply drawn logged s' → Fits wanted (answer_of reply)
drawn-fits lines s words now want.Nothing fault tells reply drawn logged s' ready a =
    subst (λ (t : Option KmsReply). Fits want.Nothing (answer_of t)) (sym a.reply_is) (λ edek is. nothing edek is)
  where
    nothing : (edek : Option Edek) → answer.Given None ≡ answer.Given edek → GivesWanted want.Nothing edek
    nothing None is = tt
    nothing (Some e) is = absurd cc
drawn-fits lines s words now (want.Generate name) fault tells reply drawn logged s' ready a =
    subst (λ (t : Option KmsReply). Fits (want.Generate name) (answer_of t)) (sym a.reply_is) (generate-fits s words now name fault tells a.reply drawn logged s' (verdict lines superuser (key_call.Generate name 1)) ready a.serves)
drawn-fits lines s words now (want.Metadata name) fault tells reply drawn logged s' ready a = λ edek is. tt
