-- From the verb of a call to the calls that its fields may be.
use Rattle.std.proofs.Common.{◌≡◌, ℕ, List, [], ◌∷◌, length, codes, subst, sym, ◌∙◌, ap, Bool, true, false, refl, Option, None, Some, Result, Ok, Err, IfOk, MatchOption, bytes_eq, arith}
use Rattle.std.proofs.lemmas.Slice.Eq.{bytes_eq-Decides}
use Rattle.std.specs.Fmt.{decimal}
use Rattle.hk_base.specs.Names.{Version, version_text}
use Rattle.hk_base.specs.declared.texts.NoMemory.{NoMemory}
use Rattle.kms_calls.specs.declared.calls.RawEdek.{RawEdek}
use Rattle.kms_calls.specs.declared.calls.KmsCall.{KmsCall}
use Rattle.kms_calls.specs.declared.calls.KmsCall.TheVariants as call
use Rattle.replay_text.specs.Events.{SpellsBatch, SpellsCall, SpellsCreate, SpellsGenerate, SpellsMetadatas, SpellsNamed, SpellsRoll, SpellsSent, SpellsVersion, fields_of, is_space, takes_edeks}
use Rattle.replay_text.proofs.FieldLemmas.{never_empty}

-- words that do not compare as equal are different
pub apart : (a b : List ℕ) → bytes_eq a b ≡ false → a ≡ b → ⊥
apart a b differ is = let same : true ≡ false = sym ((bytes_eq-Decides a b).1 is) ∙ differ in cc

-- a verb that compares as different from a word is a different one
pub is_other : (verb word slice : List ℕ) → slice ≡ word → false ≡ bytes_eq verb slice → verb ≡ word → ⊥
is_other verb word slice is test = apart verb word (ap (bytes_eq verb) (sym is) ∙ sym test)

-- fields have only one first field
pub two_verbs : {A : Type 0} (fields rest more : List (List ℕ)) (verb other : List ℕ) → (verb ≡ other → ⊥) → fields ≡ verb ∷ rest → fields ≡ other ∷ more → A
two_verbs fields rest more verb other differ is also = absurd (differ cc)

-- the first word of a call
abbrev pub word_of : KmsCall → List ℕ
word_of (call.Create name bits material description) = codes "create"
word_of (call.Roll name material) = codes "roll"
word_of (call.Delete name) = codes "delete"
word_of (call.Invalidate name) = codes "invalidate"
word_of (call.Metadata name) = codes "metadata"
word_of (call.Metadatas names) = codes "metadatas"
word_of call.Names = codes "names"
word_of (call.Current name) = codes "current"
word_of (call.Versions name) = codes "versions"
word_of (call.Version version) = codes "version"
word_of (call.Generate name count) = codes "generate"
word_of (call.Decrypt name sent) = codes "decrypt"
word_of (call.Reencrypt name sent) = codes "reencrypt"
word_of (call.Batch name sent) = codes "batch"

pub begins_so : (fields : List (List ℕ)) (c : KmsCall) → SpellsCall fields c → (rest : List (List ℕ)) × (fields ≡ word_of c ∷ rest)
begins_so fields (call.Create name bits material description) x = (name ∷ decimal bits ∷ x.material_field ∷ [], x.fields_are)
begins_so fields (call.Roll name material) x = (name ∷ x.material_field ∷ [], x.fields_are)
begins_so fields (call.Delete name) x = (name ∷ [], x.fields_are)
begins_so fields (call.Invalidate name) x = (name ∷ [], x.fields_are)
begins_so fields (call.Metadata name) x = (name ∷ [], x.fields_are)
begins_so fields (call.Metadatas names) x = (x.list_field ∷ [], x.fields_are)
begins_so fields call.Names x = ([], x)
begins_so fields (call.Current name) x = (name ∷ [], x.fields_are)
begins_so fields (call.Versions name) x = (name ∷ [], x.fields_are)
begins_so fields (call.Version version) x = (version_text version.key version.number ∷ [], x.fields_are)
begins_so fields (call.Generate name count) x = (name ∷ decimal count ∷ [], x.fields_are)
begins_so fields (call.Decrypt name sent) x = (x.version_field ∷ x.iv_field ∷ x.sealed_field ∷ [], x.fields_are)
begins_so fields (call.Reencrypt name sent) x = (x.version_field ∷ x.iv_field ∷ x.sealed_field ∷ [], x.fields_are)
begins_so fields (call.Batch name sent) x = (name ∷ x.list_field ∷ [], x.fields_are)

-- fields that begin with a verb are not a call with a different verb
other_word : (word : List ℕ) (rest : List (List ℕ)) (c : KmsCall) → (word ≡ word_of c → ⊥) → ¬ SpellsCall (word ∷ rest) c
other_word word rest c differ x = let begin = begins_so (word ∷ rest) c x in differ (let is = begin.1 in cc)

none_create : (rest : List (List ℕ)) → ((name : List ℕ) (bits : ℕ) (material : Option (List ℕ)) (description : List ℕ) → ¬ SpellsCreate (codes "create" ∷ rest) name bits material description) → (c : KmsCall) → ¬ SpellsCall (codes "create" ∷ rest) c
none_create rest none (call.Create name bits material description) = none name bits material description
none_create rest none (call.Roll name material) = other_word (codes "create") rest (call.Roll name material) (apart _ _ refl)
none_create rest none (call.Delete name) = other_word (codes "create") rest (call.Delete name) (apart _ _ refl)
none_create rest none (call.Invalidate name) = other_word (codes "create") rest (call.Invalidate name) (apart _ _ refl)
none_create rest none (call.Metadata name) = other_word (codes "create") rest (call.Metadata name) (apart _ _ refl)
none_create rest none (call.Metadatas names) = other_word (codes "create") rest (call.Metadatas names) (apart _ _ refl)
none_create rest none call.Names = other_word (codes "create") rest call.Names (apart _ _ refl)
none_create rest none (call.Current name) = other_word (codes "create") rest (call.Current name) (apart _ _ refl)
none_create rest none (call.Versions name) = other_word (codes "create") rest (call.Versions name) (apart _ _ refl)
none_create rest none (call.Version version) = other_word (codes "create") rest (call.Version version) (apart _ _ refl)
none_create rest none (call.Generate name count) = other_word (codes "create") rest (call.Generate name count) (apart _ _ refl)
none_create rest none (call.Decrypt name sent) = other_word (codes "create") rest (call.Decrypt name sent) (apart _ _ refl)
none_create rest none (call.Reencrypt name sent) = other_word (codes "create") rest (call.Reencrypt name sent) (apart _ _ refl)
none_create rest none (call.Batch name sent) = other_word (codes "create") rest (call.Batch name sent) (apart _ _ refl)

none_roll : (rest : List (List ℕ)) → ((name : List ℕ) (material : Option (List ℕ)) → ¬ SpellsRoll (codes "roll" ∷ rest) name material) → (c : KmsCall) → ¬ SpellsCall (codes "roll" ∷ rest) c
none_roll rest none (call.Create name bits material description) = other_word (codes "roll") rest (call.Create name bits material description) (apart _ _ refl)
none_roll rest none (call.Roll name material) = none name material
none_roll rest none (call.Delete name) = other_word (codes "roll") rest (call.Delete name) (apart _ _ refl)
none_roll rest none (call.Invalidate name) = other_word (codes "roll") rest (call.Invalidate name) (apart _ _ refl)
none_roll rest none (call.Metadata name) = other_word (codes "roll") rest (call.Metadata name) (apart _ _ refl)
none_roll rest none (call.Metadatas names) = other_word (codes "roll") rest (call.Metadatas names) (apart _ _ refl)
none_roll rest none call.Names = other_word (codes "roll") rest call.Names (apart _ _ refl)
none_roll rest none (call.Current name) = other_word (codes "roll") rest (call.Current name) (apart _ _ refl)
none_roll rest none (call.Versions name) = other_word (codes "roll") rest (call.Versions name) (apart _ _ refl)
none_roll rest none (call.Version version) = other_word (codes "roll") rest (call.Version version) (apart _ _ refl)
none_roll rest none (call.Generate name count) = other_word (codes "roll") rest (call.Generate name count) (apart _ _ refl)
none_roll rest none (call.Decrypt name sent) = other_word (codes "roll") rest (call.Decrypt name sent) (apart _ _ refl)
none_roll rest none (call.Reencrypt name sent) = other_word (codes "roll") rest (call.Reencrypt name sent) (apart _ _ refl)
none_roll rest none (call.Batch name sent) = other_word (codes "roll") rest (call.Batch name sent) (apart _ _ refl)

none_delete : (rest : List (List ℕ)) → ((name : List ℕ) → ¬ SpellsNamed (codes "delete") (codes "delete" ∷ rest) name) → (c : KmsCall) → ¬ SpellsCall (codes "delete" ∷ rest) c
none_delete rest none (call.Create name bits material description) = other_word (codes "delete") rest (call.Create name bits material description) (apart _ _ refl)
none_delete rest none (call.Roll name material) = other_word (codes "delete") rest (call.Roll name material) (apart _ _ refl)
none_delete rest none (call.Delete name) = none name
none_delete rest none (call.Invalidate name) = other_word (codes "delete") rest (call.Invalidate name) (apart _ _ refl)
none_delete rest none (call.Metadata name) = other_word (codes "delete") rest (call.Metadata name) (apart _ _ refl)
none_delete rest none (call.Metadatas names) = other_word (codes "delete") rest (call.Metadatas names) (apart _ _ refl)
none_delete rest none call.Names = other_word (codes "delete") rest call.Names (apart _ _ refl)
none_delete rest none (call.Current name) = other_word (codes "delete") rest (call.Current name) (apart _ _ refl)
none_delete rest none (call.Versions name) = other_word (codes "delete") rest (call.Versions name) (apart _ _ refl)
none_delete rest none (call.Version version) = other_word (codes "delete") rest (call.Version version) (apart _ _ refl)
none_delete rest none (call.Generate name count) = other_word (codes "delete") rest (call.Generate name count) (apart _ _ refl)
none_delete rest none (call.Decrypt name sent) = other_word (codes "delete") rest (call.Decrypt name sent) (apart _ _ refl)
none_delete rest none (call.Reencrypt name sent) = other_word (codes "delete") rest (call.Reencrypt name sent) (apart _ _ refl)
none_delete rest none (call.Batch name sent) = other_word (codes "delete") rest (call.Batch name sent) (apart _ _ refl)

none_invalidate : (rest : List (List ℕ)) → ((name : List ℕ) → ¬ SpellsNamed (codes "invalidate") (codes "invalidate" ∷ rest) name) → (c : KmsCall) → ¬ SpellsCall (codes "invalidate" ∷ rest) c
none_invalidate rest none (call.Create name bits material description) = other_word (codes "invalidate") rest (call.Create name bits material description) (apart _ _ refl)
none_invalidate rest none (call.Roll name material) = other_word (codes "invalidate") rest (call.Roll name material) (apart _ _ refl)
none_invalidate rest none (call.Delete name) = other_word (codes "invalidate") rest (call.Delete name) (apart _ _ refl)
none_invalidate rest none (call.Invalidate name) = none name
none_invalidate rest none (call.Metadata name) = other_word (codes "invalidate") rest (call.Metadata name) (apart _ _ refl)
none_invalidate rest none (call.Metadatas names) = other_word (codes "invalidate") rest (call.Metadatas names) (apart _ _ refl)
none_invalidate rest none call.Names = other_word (codes "invalidate") rest call.Names (apart _ _ refl)
none_invalidate rest none (call.Current name) = other_word (codes "invalidate") rest (call.Current name) (apart _ _ refl)
none_invalidate rest none (call.Versions name) = other_word (codes "invalidate") rest (call.Versions name) (apart _ _ refl)
none_invalidate rest none (call.Version version) = other_word (codes "invalidate") rest (call.Version version) (apart _ _ refl)
none_invalidate rest none (call.Generate name count) = other_word (codes "invalidate") rest (call.Generate name count) (apart _ _ refl)
none_invalidate rest none (call.Decrypt name sent) = other_word (codes "invalidate") rest (call.Decrypt name sent) (apart _ _ refl)
none_invalidate rest none (call.Reencrypt name sent) = other_word (codes "invalidate") rest (call.Reencrypt name sent) (apart _ _ refl)
none_invalidate rest none (call.Batch name sent) = other_word (codes "invalidate") rest (call.Batch name sent) (apart _ _ refl)

none_metadata : (rest : List (List ℕ)) → ((name : List ℕ) → ¬ SpellsNamed (codes "metadata") (codes "metadata" ∷ rest) name) → (c : KmsCall) → ¬ SpellsCall (codes "metadata" ∷ rest) c
none_metadata rest none (call.Create name bits material description) = other_word (codes "metadata") rest (call.Create name bits material description) (apart _ _ refl)
none_metadata rest none (call.Roll name material) = other_word (codes "metadata") rest (call.Roll name material) (apart _ _ refl)
none_metadata rest none (call.Delete name) = other_word (codes "metadata") rest (call.Delete name) (apart _ _ refl)
none_metadata rest none (call.Invalidate name) = other_word (codes "metadata") rest (call.Invalidate name) (apart _ _ refl)
none_metadata rest none (call.Metadata name) = none name
none_metadata rest none (call.Metadatas names) = other_word (codes "metadata") rest (call.Metadatas names) (apart _ _ refl)
none_metadata rest none call.Names = other_word (codes "metadata") rest call.Names (apart _ _ refl)
none_metadata rest none (call.Current name) = other_word (codes "metadata") rest (call.Current name) (apart _ _ refl)
none_metadata rest none (call.Versions name) = other_word (codes "metadata") rest (call.Versions name) (apart _ _ refl)
none_metadata rest none (call.Version version) = other_word (codes "metadata") rest (call.Version version) (apart _ _ refl)
none_metadata rest none (call.Generate name count) = other_word (codes "metadata") rest (call.Generate name count) (apart _ _ refl)
none_metadata rest none (call.Decrypt name sent) = other_word (codes "metadata") rest (call.Decrypt name sent) (apart _ _ refl)
none_metadata rest none (call.Reencrypt name sent) = other_word (codes "metadata") rest (call.Reencrypt name sent) (apart _ _ refl)
none_metadata rest none (call.Batch name sent) = other_word (codes "metadata") rest (call.Batch name sent) (apart _ _ refl)

none_metadatas : (rest : List (List ℕ)) → ((names : List (List ℕ)) → ¬ SpellsMetadatas (codes "metadatas" ∷ rest) names) → (c : KmsCall) → ¬ SpellsCall (codes "metadatas" ∷ rest) c
none_metadatas rest none (call.Create name bits material description) = other_word (codes "metadatas") rest (call.Create name bits material description) (apart _ _ refl)
none_metadatas rest none (call.Roll name material) = other_word (codes "metadatas") rest (call.Roll name material) (apart _ _ refl)
none_metadatas rest none (call.Delete name) = other_word (codes "metadatas") rest (call.Delete name) (apart _ _ refl)
none_metadatas rest none (call.Invalidate name) = other_word (codes "metadatas") rest (call.Invalidate name) (apart _ _ refl)
none_metadatas rest none (call.Metadata name) = other_word (codes "metadatas") rest (call.Metadata name) (apart _ _ refl)
none_metadatas rest none (call.Metadatas names) = none names
none_metadatas rest none call.Names = other_word (codes "metadatas") rest call.Names (apart _ _ refl)
none_metadatas rest none (call.Current name) = other_word (codes "metadatas") rest (call.Current name) (apart _ _ refl)
none_metadatas rest none (call.Versions name) = other_word (codes "metadatas") rest (call.Versions name) (apart _ _ refl)
none_metadatas rest none (call.Version version) = other_word (codes "metadatas") rest (call.Version version) (apart _ _ refl)
none_metadatas rest none (call.Generate name count) = other_word (codes "metadatas") rest (call.Generate name count) (apart _ _ refl)
none_metadatas rest none (call.Decrypt name sent) = other_word (codes "metadatas") rest (call.Decrypt name sent) (apart _ _ refl)
none_metadatas rest none (call.Reencrypt name sent) = other_word (codes "metadatas") rest (call.Reencrypt name sent) (apart _ _ refl)
none_metadatas rest none (call.Batch name sent) = other_word (codes "metadatas") rest (call.Batch name sent) (apart _ _ refl)

none_current : (rest : List (List ℕ)) → ((name : List ℕ) → ¬ SpellsNamed (codes "current") (codes "current" ∷ rest) name) → (c : KmsCall) → ¬ SpellsCall (codes "current" ∷ rest) c
none_current rest none (call.Create name bits material description) = other_word (codes "current") rest (call.Create name bits material description) (apart _ _ refl)
none_current rest none (call.Roll name material) = other_word (codes "current") rest (call.Roll name material) (apart _ _ refl)
none_current rest none (call.Delete name) = other_word (codes "current") rest (call.Delete name) (apart _ _ refl)
none_current rest none (call.Invalidate name) = other_word (codes "current") rest (call.Invalidate name) (apart _ _ refl)
none_current rest none (call.Metadata name) = other_word (codes "current") rest (call.Metadata name) (apart _ _ refl)
none_current rest none (call.Metadatas names) = other_word (codes "current") rest (call.Metadatas names) (apart _ _ refl)
none_current rest none call.Names = other_word (codes "current") rest call.Names (apart _ _ refl)
none_current rest none (call.Current name) = none name
none_current rest none (call.Versions name) = other_word (codes "current") rest (call.Versions name) (apart _ _ refl)
none_current rest none (call.Version version) = other_word (codes "current") rest (call.Version version) (apart _ _ refl)
none_current rest none (call.Generate name count) = other_word (codes "current") rest (call.Generate name count) (apart _ _ refl)
none_current rest none (call.Decrypt name sent) = other_word (codes "current") rest (call.Decrypt name sent) (apart _ _ refl)
none_current rest none (call.Reencrypt name sent) = other_word (codes "current") rest (call.Reencrypt name sent) (apart _ _ refl)
none_current rest none (call.Batch name sent) = other_word (codes "current") rest (call.Batch name sent) (apart _ _ refl)

none_versions : (rest : List (List ℕ)) → ((name : List ℕ) → ¬ SpellsNamed (codes "versions") (codes "versions" ∷ rest) name) → (c : KmsCall) → ¬ SpellsCall (codes "versions" ∷ rest) c
none_versions rest none (call.Create name bits material description) = other_word (codes "versions") rest (call.Create name bits material description) (apart _ _ refl)
none_versions rest none (call.Roll name material) = other_word (codes "versions") rest (call.Roll name material) (apart _ _ refl)
none_versions rest none (call.Delete name) = other_word (codes "versions") rest (call.Delete name) (apart _ _ refl)
none_versions rest none (call.Invalidate name) = other_word (codes "versions") rest (call.Invalidate name) (apart _ _ refl)
none_versions rest none (call.Metadata name) = other_word (codes "versions") rest (call.Metadata name) (apart _ _ refl)
none_versions rest none (call.Metadatas names) = other_word (codes "versions") rest (call.Metadatas names) (apart _ _ refl)
none_versions rest none call.Names = other_word (codes "versions") rest call.Names (apart _ _ refl)
none_versions rest none (call.Current name) = other_word (codes "versions") rest (call.Current name) (apart _ _ refl)
none_versions rest none (call.Versions name) = none name
none_versions rest none (call.Version version) = other_word (codes "versions") rest (call.Version version) (apart _ _ refl)
none_versions rest none (call.Generate name count) = other_word (codes "versions") rest (call.Generate name count) (apart _ _ refl)
none_versions rest none (call.Decrypt name sent) = other_word (codes "versions") rest (call.Decrypt name sent) (apart _ _ refl)
none_versions rest none (call.Reencrypt name sent) = other_word (codes "versions") rest (call.Reencrypt name sent) (apart _ _ refl)
none_versions rest none (call.Batch name sent) = other_word (codes "versions") rest (call.Batch name sent) (apart _ _ refl)

none_version : (rest : List (List ℕ)) → ((version : Version) → ¬ SpellsVersion (codes "version" ∷ rest) version) → (c : KmsCall) → ¬ SpellsCall (codes "version" ∷ rest) c
none_version rest none (call.Create name bits material description) = other_word (codes "version") rest (call.Create name bits material description) (apart _ _ refl)
none_version rest none (call.Roll name material) = other_word (codes "version") rest (call.Roll name material) (apart _ _ refl)
none_version rest none (call.Delete name) = other_word (codes "version") rest (call.Delete name) (apart _ _ refl)
none_version rest none (call.Invalidate name) = other_word (codes "version") rest (call.Invalidate name) (apart _ _ refl)
none_version rest none (call.Metadata name) = other_word (codes "version") rest (call.Metadata name) (apart _ _ refl)
none_version rest none (call.Metadatas names) = other_word (codes "version") rest (call.Metadatas names) (apart _ _ refl)
none_version rest none call.Names = other_word (codes "version") rest call.Names (apart _ _ refl)
none_version rest none (call.Current name) = other_word (codes "version") rest (call.Current name) (apart _ _ refl)
none_version rest none (call.Versions name) = other_word (codes "version") rest (call.Versions name) (apart _ _ refl)
none_version rest none (call.Version version) = none version
none_version rest none (call.Generate name count) = other_word (codes "version") rest (call.Generate name count) (apart _ _ refl)
none_version rest none (call.Decrypt name sent) = other_word (codes "version") rest (call.Decrypt name sent) (apart _ _ refl)
none_version rest none (call.Reencrypt name sent) = other_word (codes "version") rest (call.Reencrypt name sent) (apart _ _ refl)
none_version rest none (call.Batch name sent) = other_word (codes "version") rest (call.Batch name sent) (apart _ _ refl)

none_generate : (rest : List (List ℕ)) → ((name : List ℕ) (count : ℕ) → ¬ SpellsGenerate (codes "generate" ∷ rest) name count) → (c : KmsCall) → ¬ SpellsCall (codes "generate" ∷ rest) c
none_generate rest none (call.Create name bits material description) = other_word (codes "generate") rest (call.Create name bits material description) (apart _ _ refl)
none_generate rest none (call.Roll name material) = other_word (codes "generate") rest (call.Roll name material) (apart _ _ refl)
none_generate rest none (call.Delete name) = other_word (codes "generate") rest (call.Delete name) (apart _ _ refl)
none_generate rest none (call.Invalidate name) = other_word (codes "generate") rest (call.Invalidate name) (apart _ _ refl)
none_generate rest none (call.Metadata name) = other_word (codes "generate") rest (call.Metadata name) (apart _ _ refl)
none_generate rest none (call.Metadatas names) = other_word (codes "generate") rest (call.Metadatas names) (apart _ _ refl)
none_generate rest none call.Names = other_word (codes "generate") rest call.Names (apart _ _ refl)
none_generate rest none (call.Current name) = other_word (codes "generate") rest (call.Current name) (apart _ _ refl)
none_generate rest none (call.Versions name) = other_word (codes "generate") rest (call.Versions name) (apart _ _ refl)
none_generate rest none (call.Version version) = other_word (codes "generate") rest (call.Version version) (apart _ _ refl)
none_generate rest none (call.Generate name count) = none name count
none_generate rest none (call.Decrypt name sent) = other_word (codes "generate") rest (call.Decrypt name sent) (apart _ _ refl)
none_generate rest none (call.Reencrypt name sent) = other_word (codes "generate") rest (call.Reencrypt name sent) (apart _ _ refl)
none_generate rest none (call.Batch name sent) = other_word (codes "generate") rest (call.Batch name sent) (apart _ _ refl)

none_decrypt : (rest : List (List ℕ)) → ((name : List ℕ) (sent : RawEdek) → ¬ SpellsSent (codes "decrypt") (codes "decrypt" ∷ rest) name sent) → (c : KmsCall) → ¬ SpellsCall (codes "decrypt" ∷ rest) c
none_decrypt rest none (call.Create name bits material description) = other_word (codes "decrypt") rest (call.Create name bits material description) (apart _ _ refl)
none_decrypt rest none (call.Roll name material) = other_word (codes "decrypt") rest (call.Roll name material) (apart _ _ refl)
none_decrypt rest none (call.Delete name) = other_word (codes "decrypt") rest (call.Delete name) (apart _ _ refl)
none_decrypt rest none (call.Invalidate name) = other_word (codes "decrypt") rest (call.Invalidate name) (apart _ _ refl)
none_decrypt rest none (call.Metadata name) = other_word (codes "decrypt") rest (call.Metadata name) (apart _ _ refl)
none_decrypt rest none (call.Metadatas names) = other_word (codes "decrypt") rest (call.Metadatas names) (apart _ _ refl)
none_decrypt rest none call.Names = other_word (codes "decrypt") rest call.Names (apart _ _ refl)
none_decrypt rest none (call.Current name) = other_word (codes "decrypt") rest (call.Current name) (apart _ _ refl)
none_decrypt rest none (call.Versions name) = other_word (codes "decrypt") rest (call.Versions name) (apart _ _ refl)
none_decrypt rest none (call.Version version) = other_word (codes "decrypt") rest (call.Version version) (apart _ _ refl)
none_decrypt rest none (call.Generate name count) = other_word (codes "decrypt") rest (call.Generate name count) (apart _ _ refl)
none_decrypt rest none (call.Decrypt name sent) = none name sent
none_decrypt rest none (call.Reencrypt name sent) = other_word (codes "decrypt") rest (call.Reencrypt name sent) (apart _ _ refl)
none_decrypt rest none (call.Batch name sent) = other_word (codes "decrypt") rest (call.Batch name sent) (apart _ _ refl)

none_reencrypt : (rest : List (List ℕ)) → ((name : List ℕ) (sent : RawEdek) → ¬ SpellsSent (codes "reencrypt") (codes "reencrypt" ∷ rest) name sent) → (c : KmsCall) → ¬ SpellsCall (codes "reencrypt" ∷ rest) c
none_reencrypt rest none (call.Create name bits material description) = other_word (codes "reencrypt") rest (call.Create name bits material description) (apart _ _ refl)
none_reencrypt rest none (call.Roll name material) = other_word (codes "reencrypt") rest (call.Roll name material) (apart _ _ refl)
none_reencrypt rest none (call.Delete name) = other_word (codes "reencrypt") rest (call.Delete name) (apart _ _ refl)
none_reencrypt rest none (call.Invalidate name) = other_word (codes "reencrypt") rest (call.Invalidate name) (apart _ _ refl)
none_reencrypt rest none (call.Metadata name) = other_word (codes "reencrypt") rest (call.Metadata name) (apart _ _ refl)
none_reencrypt rest none (call.Metadatas names) = other_word (codes "reencrypt") rest (call.Metadatas names) (apart _ _ refl)
none_reencrypt rest none call.Names = other_word (codes "reencrypt") rest call.Names (apart _ _ refl)
none_reencrypt rest none (call.Current name) = other_word (codes "reencrypt") rest (call.Current name) (apart _ _ refl)
none_reencrypt rest none (call.Versions name) = other_word (codes "reencrypt") rest (call.Versions name) (apart _ _ refl)
none_reencrypt rest none (call.Version version) = other_word (codes "reencrypt") rest (call.Version version) (apart _ _ refl)
none_reencrypt rest none (call.Generate name count) = other_word (codes "reencrypt") rest (call.Generate name count) (apart _ _ refl)
none_reencrypt rest none (call.Decrypt name sent) = other_word (codes "reencrypt") rest (call.Decrypt name sent) (apart _ _ refl)
none_reencrypt rest none (call.Reencrypt name sent) = none name sent
none_reencrypt rest none (call.Batch name sent) = other_word (codes "reencrypt") rest (call.Batch name sent) (apart _ _ refl)

none_batch : (rest : List (List ℕ)) → ((name : List ℕ) (sent : List RawEdek) → ¬ SpellsBatch (codes "batch" ∷ rest) name sent) → (c : KmsCall) → ¬ SpellsCall (codes "batch" ∷ rest) c
none_batch rest none (call.Create name bits material description) = other_word (codes "batch") rest (call.Create name bits material description) (apart _ _ refl)
none_batch rest none (call.Roll name material) = other_word (codes "batch") rest (call.Roll name material) (apart _ _ refl)
none_batch rest none (call.Delete name) = other_word (codes "batch") rest (call.Delete name) (apart _ _ refl)
none_batch rest none (call.Invalidate name) = other_word (codes "batch") rest (call.Invalidate name) (apart _ _ refl)
none_batch rest none (call.Metadata name) = other_word (codes "batch") rest (call.Metadata name) (apart _ _ refl)
none_batch rest none (call.Metadatas names) = other_word (codes "batch") rest (call.Metadatas names) (apart _ _ refl)
none_batch rest none call.Names = other_word (codes "batch") rest call.Names (apart _ _ refl)
none_batch rest none (call.Current name) = other_word (codes "batch") rest (call.Current name) (apart _ _ refl)
none_batch rest none (call.Versions name) = other_word (codes "batch") rest (call.Versions name) (apart _ _ refl)
none_batch rest none (call.Version version) = other_word (codes "batch") rest (call.Version version) (apart _ _ refl)
none_batch rest none (call.Generate name count) = other_word (codes "batch") rest (call.Generate name count) (apart _ _ refl)
none_batch rest none (call.Decrypt name sent) = other_word (codes "batch") rest (call.Decrypt name sent) (apart _ _ refl)
none_batch rest none (call.Reencrypt name sent) = other_word (codes "batch") rest (call.Reencrypt name sent) (apart _ _ refl)
none_batch rest none (call.Batch name sent) = none name sent

-- what reading the fields after a verb says about the fields with it
turn : (guard : Bool) (rest : List (List ℕ)) (verb word : List ℕ) (N : Type 0) (result : Result (Option KmsCall) NoMemory) → verb ≡ word → (N → (c : KmsCall) → ¬ SpellsCall (word ∷ rest) c)
    → IfOk result (λ found. MatchOption found N (SpellsCall (word ∷ rest))) → IfOk result (λ found. MatchOption found ((c : KmsCall) → takes_edeks c ≡ guard → ¬ SpellsCall (verb ∷ rest) c) (SpellsCall (verb ∷ rest)))
turn guard rest verb word N (Ok None) is none outcome = λ c here x. none outcome c (subst (λ (w : List ℕ). SpellsCall (w ∷ rest) c) is x)
turn guard rest verb word N (Ok (Some c)) is none outcome = subst (λ (w : List ℕ). SpellsCall (w ∷ rest) c) (sym is) outcome
turn guard rest verb word N (Err wanting) is none outcome = outcome

pub answers_create : (guard : Bool) (rest : List (List ℕ)) (verb : List ℕ) (result : Result (Option KmsCall) NoMemory) → verb ≡ codes "create"
    → IfOk result (λ found. MatchOption found ((name : List ℕ) (bits : ℕ) (material : Option (List ℕ)) (description : List ℕ) → ¬ SpellsCreate (codes "create" ∷ rest) name bits material description) (SpellsCall (codes "create" ∷ rest)))
    → IfOk result (λ found. MatchOption found ((c : KmsCall) → takes_edeks c ≡ guard → ¬ SpellsCall (verb ∷ rest) c) (SpellsCall (verb ∷ rest)))
answers_create guard rest verb result is outcome = turn guard rest verb (codes "create") _ result is (none_create rest) outcome

pub answers_roll : (guard : Bool) (rest : List (List ℕ)) (verb : List ℕ) (result : Result (Option KmsCall) NoMemory) → verb ≡ codes "roll"
    → IfOk result (λ found. MatchOption found ((name : List ℕ) (material : Option (List ℕ)) → ¬ SpellsRoll (codes "roll" ∷ rest) name material) (SpellsCall (codes "roll" ∷ rest)))
    → IfOk result (λ found. MatchOption found ((c : KmsCall) → takes_edeks c ≡ guard → ¬ SpellsCall (verb ∷ rest) c) (SpellsCall (verb ∷ rest)))
answers_roll guard rest verb result is outcome = turn guard rest verb (codes "roll") _ result is (none_roll rest) outcome

pub answers_delete : (guard : Bool) (rest : List (List ℕ)) (verb : List ℕ) (result : Result (Option KmsCall) NoMemory) → verb ≡ codes "delete"
    → IfOk result (λ found. MatchOption found ((name : List ℕ) → ¬ SpellsNamed (codes "delete") (codes "delete" ∷ rest) name) (SpellsCall (codes "delete" ∷ rest)))
    → IfOk result (λ found. MatchOption found ((c : KmsCall) → takes_edeks c ≡ guard → ¬ SpellsCall (verb ∷ rest) c) (SpellsCall (verb ∷ rest)))
answers_delete guard rest verb result is outcome = turn guard rest verb (codes "delete") _ result is (none_delete rest) outcome

pub answers_invalidate : (guard : Bool) (rest : List (List ℕ)) (verb : List ℕ) (result : Result (Option KmsCall) NoMemory) → verb ≡ codes "invalidate"
    → IfOk result (λ found. MatchOption found ((name : List ℕ) → ¬ SpellsNamed (codes "invalidate") (codes "invalidate" ∷ rest) name) (SpellsCall (codes "invalidate" ∷ rest)))
    → IfOk result (λ found. MatchOption found ((c : KmsCall) → takes_edeks c ≡ guard → ¬ SpellsCall (verb ∷ rest) c) (SpellsCall (verb ∷ rest)))
answers_invalidate guard rest verb result is outcome = turn guard rest verb (codes "invalidate") _ result is (none_invalidate rest) outcome

pub answers_metadata : (guard : Bool) (rest : List (List ℕ)) (verb : List ℕ) (result : Result (Option KmsCall) NoMemory) → verb ≡ codes "metadata"
    → IfOk result (λ found. MatchOption found ((name : List ℕ) → ¬ SpellsNamed (codes "metadata") (codes "metadata" ∷ rest) name) (SpellsCall (codes "metadata" ∷ rest)))
    → IfOk result (λ found. MatchOption found ((c : KmsCall) → takes_edeks c ≡ guard → ¬ SpellsCall (verb ∷ rest) c) (SpellsCall (verb ∷ rest)))
answers_metadata guard rest verb result is outcome = turn guard rest verb (codes "metadata") _ result is (none_metadata rest) outcome

pub answers_metadatas : (guard : Bool) (rest : List (List ℕ)) (verb : List ℕ) (result : Result (Option KmsCall) NoMemory) → verb ≡ codes "metadatas"
    → IfOk result (λ found. MatchOption found ((names : List (List ℕ)) → ¬ SpellsMetadatas (codes "metadatas" ∷ rest) names) (SpellsCall (codes "metadatas" ∷ rest)))
    → IfOk result (λ found. MatchOption found ((c : KmsCall) → takes_edeks c ≡ guard → ¬ SpellsCall (verb ∷ rest) c) (SpellsCall (verb ∷ rest)))
answers_metadatas guard rest verb result is outcome = turn guard rest verb (codes "metadatas") _ result is (none_metadatas rest) outcome

pub answers_current : (guard : Bool) (rest : List (List ℕ)) (verb : List ℕ) (result : Result (Option KmsCall) NoMemory) → verb ≡ codes "current"
    → IfOk result (λ found. MatchOption found ((name : List ℕ) → ¬ SpellsNamed (codes "current") (codes "current" ∷ rest) name) (SpellsCall (codes "current" ∷ rest)))
    → IfOk result (λ found. MatchOption found ((c : KmsCall) → takes_edeks c ≡ guard → ¬ SpellsCall (verb ∷ rest) c) (SpellsCall (verb ∷ rest)))
answers_current guard rest verb result is outcome = turn guard rest verb (codes "current") _ result is (none_current rest) outcome

pub answers_versions : (guard : Bool) (rest : List (List ℕ)) (verb : List ℕ) (result : Result (Option KmsCall) NoMemory) → verb ≡ codes "versions"
    → IfOk result (λ found. MatchOption found ((name : List ℕ) → ¬ SpellsNamed (codes "versions") (codes "versions" ∷ rest) name) (SpellsCall (codes "versions" ∷ rest)))
    → IfOk result (λ found. MatchOption found ((c : KmsCall) → takes_edeks c ≡ guard → ¬ SpellsCall (verb ∷ rest) c) (SpellsCall (verb ∷ rest)))
answers_versions guard rest verb result is outcome = turn guard rest verb (codes "versions") _ result is (none_versions rest) outcome

pub answers_version : (guard : Bool) (rest : List (List ℕ)) (verb : List ℕ) (result : Result (Option KmsCall) NoMemory) → verb ≡ codes "version"
    → IfOk result (λ found. MatchOption found ((version : Version) → ¬ SpellsVersion (codes "version" ∷ rest) version) (SpellsCall (codes "version" ∷ rest)))
    → IfOk result (λ found. MatchOption found ((c : KmsCall) → takes_edeks c ≡ guard → ¬ SpellsCall (verb ∷ rest) c) (SpellsCall (verb ∷ rest)))
answers_version guard rest verb result is outcome = turn guard rest verb (codes "version") _ result is (none_version rest) outcome

pub answers_generate : (guard : Bool) (rest : List (List ℕ)) (verb : List ℕ) (result : Result (Option KmsCall) NoMemory) → verb ≡ codes "generate"
    → IfOk result (λ found. MatchOption found ((name : List ℕ) (count : ℕ) → ¬ SpellsGenerate (codes "generate" ∷ rest) name count) (SpellsCall (codes "generate" ∷ rest)))
    → IfOk result (λ found. MatchOption found ((c : KmsCall) → takes_edeks c ≡ guard → ¬ SpellsCall (verb ∷ rest) c) (SpellsCall (verb ∷ rest)))
answers_generate guard rest verb result is outcome = turn guard rest verb (codes "generate") _ result is (none_generate rest) outcome

pub answers_decrypt : (guard : Bool) (rest : List (List ℕ)) (verb : List ℕ) (result : Result (Option KmsCall) NoMemory) → verb ≡ codes "decrypt"
    → IfOk result (λ found. MatchOption found ((name : List ℕ) (sent : RawEdek) → ¬ SpellsSent (codes "decrypt") (codes "decrypt" ∷ rest) name sent) (SpellsCall (codes "decrypt" ∷ rest)))
    → IfOk result (λ found. MatchOption found ((c : KmsCall) → takes_edeks c ≡ guard → ¬ SpellsCall (verb ∷ rest) c) (SpellsCall (verb ∷ rest)))
answers_decrypt guard rest verb result is outcome = turn guard rest verb (codes "decrypt") _ result is (none_decrypt rest) outcome

pub answers_reencrypt : (guard : Bool) (rest : List (List ℕ)) (verb : List ℕ) (result : Result (Option KmsCall) NoMemory) → verb ≡ codes "reencrypt"
    → IfOk result (λ found. MatchOption found ((name : List ℕ) (sent : RawEdek) → ¬ SpellsSent (codes "reencrypt") (codes "reencrypt" ∷ rest) name sent) (SpellsCall (codes "reencrypt" ∷ rest)))
    → IfOk result (λ found. MatchOption found ((c : KmsCall) → takes_edeks c ≡ guard → ¬ SpellsCall (verb ∷ rest) c) (SpellsCall (verb ∷ rest)))
answers_reencrypt guard rest verb result is outcome = turn guard rest verb (codes "reencrypt") _ result is (none_reencrypt rest) outcome

pub answers_batch : (guard : Bool) (rest : List (List ℕ)) (verb : List ℕ) (result : Result (Option KmsCall) NoMemory) → verb ≡ codes "batch"
    → IfOk result (λ found. MatchOption found ((name : List ℕ) (sent : List RawEdek) → ¬ SpellsBatch (codes "batch" ∷ rest) name sent) (SpellsCall (codes "batch" ∷ rest)))
    → IfOk result (λ found. MatchOption found ((c : KmsCall) → takes_edeks c ≡ guard → ¬ SpellsCall (verb ∷ rest) c) (SpellsCall (verb ∷ rest)))
answers_batch guard rest verb result is outcome = turn guard rest verb (codes "batch") _ result is (none_batch rest) outcome

-- the verb belongs to none of the calls on keys, and something follows it
pub no_key_verb : (verb bytes : List ℕ) → (verb ≡ codes "create" → ⊥) → (verb ≡ codes "roll" → ⊥) → (verb ≡ codes "delete" → ⊥) → (verb ≡ codes "invalidate" → ⊥) → (verb ≡ codes "metadata" → ⊥) → (verb ≡ codes "metadatas" → ⊥) → (verb ≡ codes "current" → ⊥) → (verb ≡ codes "versions" → ⊥) → (verb ≡ codes "version" → ⊥)
    → (c : KmsCall) → takes_edeks c ≡ false → ¬ SpellsCall (verb ∷ fields_of bytes) c
no_key_verb verb bytes n0 n1 n2 n3 n4 n5 n6 n7 n8 (call.Create name bits material description) here x = n0 (let is = x.fields_are in cc)
no_key_verb verb bytes n0 n1 n2 n3 n4 n5 n6 n7 n8 (call.Roll name material) here x = n1 (let is = x.fields_are in cc)
no_key_verb verb bytes n0 n1 n2 n3 n4 n5 n6 n7 n8 (call.Delete name) here x = n2 (let is = x.fields_are in cc)
no_key_verb verb bytes n0 n1 n2 n3 n4 n5 n6 n7 n8 (call.Invalidate name) here x = n3 (let is = x.fields_are in cc)
no_key_verb verb bytes n0 n1 n2 n3 n4 n5 n6 n7 n8 (call.Metadata name) here x = n4 (let is = x.fields_are in cc)
no_key_verb verb bytes n0 n1 n2 n3 n4 n5 n6 n7 n8 (call.Metadatas names) here x = n5 (let is = x.fields_are in cc)
no_key_verb verb bytes n0 n1 n2 n3 n4 n5 n6 n7 n8 call.Names here x = never_empty is_space bytes (let is = x in cc)
no_key_verb verb bytes n0 n1 n2 n3 n4 n5 n6 n7 n8 (call.Current name) here x = n6 (let is = x.fields_are in cc)
no_key_verb verb bytes n0 n1 n2 n3 n4 n5 n6 n7 n8 (call.Versions name) here x = n7 (let is = x.fields_are in cc)
no_key_verb verb bytes n0 n1 n2 n3 n4 n5 n6 n7 n8 (call.Version version) here x = n8 (let is = x.fields_are in cc)
no_key_verb verb bytes n0 n1 n2 n3 n4 n5 n6 n7 n8 (call.Generate name count) here x = absurd cc
no_key_verb verb bytes n0 n1 n2 n3 n4 n5 n6 n7 n8 (call.Decrypt name sent) here x = absurd cc
no_key_verb verb bytes n0 n1 n2 n3 n4 n5 n6 n7 n8 (call.Reencrypt name sent) here x = absurd cc
no_key_verb verb bytes n0 n1 n2 n3 n4 n5 n6 n7 n8 (call.Batch name sent) here x = absurd cc

-- the verb belongs to none of the calls on encrypted keys
pub no_edek_verb : (verb : List ℕ) (rest : List (List ℕ)) → (verb ≡ codes "generate" → ⊥) → (verb ≡ codes "decrypt" → ⊥) → (verb ≡ codes "reencrypt" → ⊥) → (verb ≡ codes "batch" → ⊥)
    → (c : KmsCall) → takes_edeks c ≡ true → ¬ SpellsCall (verb ∷ rest) c
no_edek_verb verb rest n0 n1 n2 n3 (call.Create name bits material description) here x = absurd cc
no_edek_verb verb rest n0 n1 n2 n3 (call.Roll name material) here x = absurd cc
no_edek_verb verb rest n0 n1 n2 n3 (call.Delete name) here x = absurd cc
no_edek_verb verb rest n0 n1 n2 n3 (call.Invalidate name) here x = absurd cc
no_edek_verb verb rest n0 n1 n2 n3 (call.Metadata name) here x = absurd cc
no_edek_verb verb rest n0 n1 n2 n3 (call.Metadatas names) here x = absurd cc
no_edek_verb verb rest n0 n1 n2 n3 call.Names here x = absurd cc
no_edek_verb verb rest n0 n1 n2 n3 (call.Current name) here x = absurd cc
no_edek_verb verb rest n0 n1 n2 n3 (call.Versions name) here x = absurd cc
no_edek_verb verb rest n0 n1 n2 n3 (call.Version version) here x = absurd cc
no_edek_verb verb rest n0 n1 n2 n3 (call.Generate name count) here x = n0 (let is = x.fields_are in cc)
no_edek_verb verb rest n0 n1 n2 n3 (call.Decrypt name sent) here x = n1 (let is = x.fields_are in cc)
no_edek_verb verb rest n0 n1 n2 n3 (call.Reencrypt name sent) here x = n2 (let is = x.fields_are in cc)
no_edek_verb verb rest n0 n1 n2 n3 (call.Batch name sent) here x = n3 (let is = x.fields_are in cc)

bare_none : (verb : List ℕ) → ¬ (verb ≡ codes "names") → (c : KmsCall) → ¬ SpellsCall (verb ∷ []) c
bare_none verb other (call.Create name bits material description) x = omega (arith, ap length x.fields_are)
bare_none verb other (call.Roll name material) x = omega (arith, ap length x.fields_are)
bare_none verb other (call.Delete name) x = omega (arith, ap length x.fields_are)
bare_none verb other (call.Invalidate name) x = omega (arith, ap length x.fields_are)
bare_none verb other (call.Metadata name) x = omega (arith, ap length x.fields_are)
bare_none verb other (call.Metadatas names) x = omega (arith, ap length x.fields_are)
bare_none verb other call.Names x = other (let is = x in cc)
bare_none verb other (call.Current name) x = omega (arith, ap length x.fields_are)
bare_none verb other (call.Versions name) x = omega (arith, ap length x.fields_are)
bare_none verb other (call.Version version) x = omega (arith, ap length x.fields_are)
bare_none verb other (call.Generate name count) x = omega (arith, ap length x.fields_are)
bare_none verb other (call.Decrypt name sent) x = omega (arith, ap length x.fields_are)
bare_none verb other (call.Reencrypt name sent) x = omega (arith, ap length x.fields_are)
bare_none verb other (call.Batch name sent) x = omega (arith, ap length x.fields_are)

-- a single word is only the call without arguments
pub bare_call : (verb : List ℕ) (found : Option KmsCall) → MatchOption found (¬ (verb ≡ codes "names")) (λ c. (verb ≡ codes "names") × (c ≡ call.Names))
    → MatchOption found ((c : KmsCall) → ¬ SpellsCall (verb ∷ []) c) (SpellsCall (verb ∷ []))
bare_call verb None other = bare_none verb other
bare_call verb (Some c) is = subst (SpellsCall (verb ∷ [])) (sym is.1) (ap (λ w. w ∷ []) is.0)

-- no call
pub no_call : (fields : List (List ℕ)) → ((c : KmsCall) → takes_edeks c ≡ false → ¬ SpellsCall fields c) → ((c : KmsCall) → takes_edeks c ≡ true → ¬ SpellsCall fields c) → (c : KmsCall) → ¬ SpellsCall fields c
no_call fields keys edeks c = either (takes_edeks c) refl
  where
    either : (b : Bool) → takes_edeks c ≡ b → ¬ SpellsCall fields c
    either true is = edeks c is
    either false is = keys c is
