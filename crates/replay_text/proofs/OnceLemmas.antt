-- A line is the text of at most one event.
use Rattle.std.proofs.Common.{◌≡◌, ℕ, ◌<◌, ◌^◌, List, [], ◌∷◌, ◌++◌, length, drop, bytes_eq, subst, if◌then◌else◌, true, false, ◌&&◌, nat_lt, nat_le, Option, None, Some, Ok, refl, ap, ap₂, sym, ◌∙◌, arith, append_assoc, codes}
use Rattle.std.specs.List.{list_all, onto_first, slice_split}
use Rattle.std.specs.Fmt.{decimal}
use Rattle.std.proofs.lemmas.Bool.{and_parts}
use Rattle.percent_encoding.specs.Percent.{percent_decode}
use Rattle.hk_base.specs.Names.{IsKeyName, Version, is_name_byte, version_text}
use Rattle.hk_base.proofs.Versions.{decimal_once}
use Rattle.kms_calls.specs.declared.calls.RawEdek.{RawEdek}
use Rattle.kms_calls.specs.declared.calls.KmsCall.{KmsCall}
use Rattle.kms_calls.specs.declared.calls.KmsCall.TheVariants as call
use Rattle.hk_events.specs.declared.event.Event.{Event}
use Rattle.hk_events.specs.declared.event.Event.TheVariants as event
use Rattle.replay_text.specs.Events.{AreTriples, IsEscaped, IsMaterial, IsQuietLine, IsTriple, IsUser, SpellsAskPath, SpellsAskZone, SpellsBatch, SpellsCall, SpellsCreate, SpellsEdek, SpellsEvent, SpellsGenerate, SpellsKept, SpellsKms, SpellsLine, SpellsMaterial, SpellsMetadatas, SpellsNamed, SpellsPath, SpellsRoll, SpellsSent, SpellsTwoFields, SpellsVersion, SpellsWalk, SpellsZones, delete_verb, fields_of, is_comma}
use Rattle.replay_text.proofs.CallLemmas.{apart, two_verbs}

-- versions

not_at_sign : is_name_byte 64 ≡ true → ⊥
not_at_sign may = cc

parts_once : (k l r s : List ℕ) → list_all is_name_byte k ≡ true → list_all is_name_byte l ≡ true → k ++ 64 ∷ r ≡ l ++ 64 ∷ s → (k ≡ l) × (r ≡ s)
parts_once [] [] r s named other same = (refl, cc)
parts_once [] (b ∷ bs) r s named other same =
    let here = and_parts (is_name_byte b) (list_all is_name_byte bs) other in
    let is : 64 ≡ b = cc in
    absurd (not_at_sign (ap is_name_byte is ∙ here.0))
parts_once (a ∷ more) [] r s named other same =
    let here = and_parts (is_name_byte a) (list_all is_name_byte more) named in
    let is : 64 ≡ a = cc in
    absurd (not_at_sign (ap is_name_byte is ∙ here.0))
parts_once (a ∷ more) (b ∷ bs) r s named other same =
    let first = and_parts (is_name_byte a) (list_all is_name_byte more) named in
    let second = and_parts (is_name_byte b) (list_all is_name_byte bs) other in
    let head : a ≡ b = cc in
    let rest = parts_once more bs r s first.1 second.1 cc in
    (ap₂ (λ x xs. x ∷ xs) head rest.0, rest.1)

bytes_of : (key : List ℕ) → IsKeyName key → list_all is_name_byte key ≡ true
bytes_of key name = (and_parts (nat_lt 0 (length key) && nat_le (length key) 64) (list_all is_name_byte key) name).1

version_once : (k l : List ℕ) (m n : ℕ) → IsKeyName k → IsKeyName l → m < 2 ^ 16 → n < 2 ^ 16 → version_text k m ≡ version_text l n → (k ≡ l) × (m ≡ n)
version_once k l m n named other small few same =
    let parts = parts_once k l (decimal m) (decimal n) (bytes_of k named) (bytes_of l other) (sym (append_assoc k (codes "@") (decimal m)) ∙ same ∙ append_assoc l (codes "@") (decimal n)) in
    (parts.0, decimal_once m n (omega arith) (omega arith) parts.1)

-- fields

bytes_once : (field a b : List ℕ) → IsMaterial field a → IsMaterial field b → a ≡ b
bytes_once field a b first second = let same : Ok a ≡ Ok b = sym first.decoded ∙ second.decoded in cc

material_once : (field : List ℕ) (a b : Option (List ℕ)) → SpellsMaterial field a → SpellsMaterial field b → a ≡ b
material_once field None None first second = refl
material_once field None (Some b) first second = absurd (omega (arith, ap length first, second.some))
material_once field (Some a) None first second = absurd (omega (arith, ap length second, first.some))
material_once field (Some a) (Some b) first second = ap (λ m. Some m) (bytes_once field a b first second)

edek_once : (v iv sealed : List ℕ) (a b : RawEdek) → SpellsEdek v iv sealed a → SpellsEdek v iv sealed b → a ≡ b
edek_once v iv_field sealed_field a b x y =
    let version = version_once a.version.key b.version.key a.version.number b.version.number x.key_is y.key_is x.number_is y.number_is (sym x.version_is ∙ y.version_is) in
    let iv : a.iv ≡ b.iv = bytes_once iv_field a.iv b.iv x.iv_is y.iv_is in
    let sealed : a.sealed ≡ b.sealed = bytes_once sealed_field a.sealed b.sealed x.sealed_is y.sealed_is in
    λ i. record { version = record { key = version.0 i; number = version.1 i }; iv = iv i; sealed = sealed i }

-- the same for fields that are equal
edek_same : (v iv sealed w jv tealed : List ℕ) (a b : RawEdek) → v ≡ w → iv ≡ jv → sealed ≡ tealed → SpellsEdek v iv sealed a → SpellsEdek w jv tealed b → a ≡ b
edek_same v iv sealed w jv tealed a b p q r x y =
    edek_once w jv tealed a b (subst (λ (f : List ℕ). SpellsEdek w jv f a) r (subst (λ (f : List ℕ). SpellsEdek w f sealed a) q (subst (λ (f : List ℕ). SpellsEdek f iv sealed a) p x))) y

sent_once : (verb : List ℕ) (fields : List (List ℕ)) (m n : List ℕ) (a b : RawEdek) → SpellsSent verb fields m a → SpellsSent verb fields n b → (m ≡ n) × (a ≡ b)
sent_once verb fields m n a b x y =
    let same = sym x.fields_are ∙ y.fields_are in
    let v : x.version_field ≡ y.version_field = cc in
    let iv : x.iv_field ≡ y.iv_field = cc in
    let sealed : x.sealed_field ≡ y.sealed_field = cc in
    let is = edek_same _ _ _ _ _ _ a b v iv sealed x.edek_is y.edek_is in
    (x.name_is ∙ ap (λ (e : RawEdek). e.version.key) is ∙ sym y.name_is, is)

triple_once : (part : List ℕ) (a b : RawEdek) → IsTriple part a → IsTriple part b → a ≡ b
triple_once part a b x y =
    let same = sym x.fields_are ∙ y.fields_are in
    let v : x.version_field ≡ y.version_field = cc in
    let iv : x.iv_field ≡ y.iv_field = cc in
    let sealed : x.sealed_field ≡ y.sealed_field = cc in
    edek_same _ _ _ _ _ _ a b v iv sealed x.edek_is y.edek_is

triples_once : (parts : List (List ℕ)) (a b : List RawEdek) → AreTriples parts a → AreTriples parts b → a ≡ b
triples_once [] [] [] x y = refl
triples_once [] [] (t ∷ ts) x y = absurd y
triples_once [] (s ∷ ss) b x y = absurd x
triples_once (p ∷ ps) [] b x y = absurd x
triples_once (p ∷ ps) (s ∷ ss) [] x y = absurd y
triples_once (p ∷ ps) (s ∷ ss) (t ∷ ts) x y = ap₂ (λ e es. e ∷ es) (triple_once p s t x.0 y.0) (triples_once ps ss ts x.1 y.1)

-- calls

create_once : (fields : List (List ℕ)) (m n : List ℕ) (a b : ℕ) (g h : Option (List ℕ)) (d e : List ℕ) → SpellsCreate fields m a g d → SpellsCreate fields n b h e → call.Create m a g d ≡ call.Create n b h e
create_once fields m n a b g h d e x y =
    let same = sym x.fields_are ∙ y.fields_are in
    let name : m ≡ n = cc in
    let text : decimal a ≡ decimal b = cc in
    let field : x.material_field ≡ y.material_field = cc in
    let bits : a ≡ b = decimal_once a b (omega (arith, x.small)) (omega (arith, y.small)) text in
    let material : g ≡ h = material_once y.material_field g h (subst (λ (f : List ℕ). SpellsMaterial f g) field x.material_is) y.material_is in
    let description : d ≡ e = x.description_is ∙ sym y.description_is in
    λ i. call.Create (name i) (bits i) (material i) (description i)

roll_once : (fields : List (List ℕ)) (m n : List ℕ) (g h : Option (List ℕ)) → SpellsRoll fields m g → SpellsRoll fields n h → call.Roll m g ≡ call.Roll n h
roll_once fields m n g h x y =
    let same = sym x.fields_are ∙ y.fields_are in
    let name : m ≡ n = cc in
    let field : x.material_field ≡ y.material_field = cc in
    let material : g ≡ h = material_once y.material_field g h (subst (λ (f : List ℕ). SpellsMaterial f g) field x.material_is) y.material_is in
    λ i. call.Roll (name i) (material i)

name_once : (verb : List ℕ) (fields : List (List ℕ)) (m n : List ℕ) → SpellsNamed verb fields m → SpellsNamed verb fields n → m ≡ n
name_once verb fields m n x y = let same = sym x.fields_are ∙ y.fields_are in cc

metadatas_once : (fields m n : List (List ℕ)) → SpellsMetadatas fields m → SpellsMetadatas fields n → m ≡ n
metadatas_once fields m n x y =
    let same = sym x.fields_are ∙ y.fields_are in
    let field : x.list_field ≡ y.list_field = cc in
    sym x.names_are ∙ ap (λ f. slice_split is_comma f) field ∙ y.names_are

one_version : (fields : List (List ℕ)) (v w : Version) → SpellsVersion fields v → SpellsVersion fields w → v ≡ w
one_version fields v w x y =
    let same = sym x.fields_are ∙ y.fields_are in
    let text : version_text v.key v.number ≡ version_text w.key w.number = cc in
    let is = version_once v.key w.key v.number w.number x.key_is y.key_is x.number_is y.number_is text in
    λ i. record { key = is.0 i; number = is.1 i }

generate_once : (fields : List (List ℕ)) (m n : List ℕ) (a b : ℕ) → SpellsGenerate fields m a → SpellsGenerate fields n b → call.Generate m a ≡ call.Generate n b
generate_once fields m n a b x y =
    let same = sym x.fields_are ∙ y.fields_are in
    let name : m ≡ n = cc in
    let text : decimal a ≡ decimal b = cc in
    let count : a ≡ b = decimal_once a b (omega (arith, x.small)) (omega (arith, y.small)) text in
    λ i. call.Generate (name i) (count i)

batch_once : (fields : List (List ℕ)) (m n : List ℕ) (a b : List RawEdek) → SpellsBatch fields m a → SpellsBatch fields n b → call.Batch m a ≡ call.Batch n b
batch_once fields m n a b x y =
    let same = sym x.fields_are ∙ y.fields_are in
    let name : m ≡ n = cc in
    let field : x.list_field ≡ y.list_field = cc in
    let sent : a ≡ b = triples_once (slice_split is_comma y.list_field) a b (subst (λ (f : List ℕ). AreTriples (slice_split is_comma f) a) field x.sent_are) y.sent_are in
    λ i. call.Batch (name i) (sent i)

call_once : (fields : List (List ℕ)) (c d : KmsCall) → SpellsCall fields c → SpellsCall fields d → c ≡ d
call_once fields (call.Create m a g d) (call.Create n b h e) x y = create_once fields m n a b g h d e x y
call_once fields (call.Create m a g d) (call.Roll n h) x y = two_verbs fields _ _ (codes "create") (codes "roll") (apart _ _ refl) x.fields_are y.fields_are
call_once fields (call.Create m a g d) (call.Delete n) x y = two_verbs fields _ _ (codes "create") (codes "delete") (apart _ _ refl) x.fields_are y.fields_are
call_once fields (call.Create m a g d) (call.Invalidate n) x y = two_verbs fields _ _ (codes "create") (codes "invalidate") (apart _ _ refl) x.fields_are y.fields_are
call_once fields (call.Create m a g d) (call.Metadata n) x y = two_verbs fields _ _ (codes "create") (codes "metadata") (apart _ _ refl) x.fields_are y.fields_are
call_once fields (call.Create m a g d) (call.Metadatas n) x y = two_verbs fields _ _ (codes "create") (codes "metadatas") (apart _ _ refl) x.fields_are y.fields_are
call_once fields (call.Create m a g d) call.Names x y = two_verbs fields _ _ (codes "create") (codes "names") (apart _ _ refl) x.fields_are y
call_once fields (call.Create m a g d) (call.Current n) x y = two_verbs fields _ _ (codes "create") (codes "current") (apart _ _ refl) x.fields_are y.fields_are
call_once fields (call.Create m a g d) (call.Versions n) x y = two_verbs fields _ _ (codes "create") (codes "versions") (apart _ _ refl) x.fields_are y.fields_are
call_once fields (call.Create m a g d) (call.Version n) x y = two_verbs fields _ _ (codes "create") (codes "version") (apart _ _ refl) x.fields_are y.fields_are
call_once fields (call.Create m a g d) (call.Generate n b) x y = two_verbs fields _ _ (codes "create") (codes "generate") (apart _ _ refl) x.fields_are y.fields_are
call_once fields (call.Create m a g d) (call.Decrypt n b) x y = two_verbs fields _ _ (codes "create") (codes "decrypt") (apart _ _ refl) x.fields_are y.fields_are
call_once fields (call.Create m a g d) (call.Reencrypt n b) x y = two_verbs fields _ _ (codes "create") (codes "reencrypt") (apart _ _ refl) x.fields_are y.fields_are
call_once fields (call.Create m a g d) (call.Batch n b) x y = two_verbs fields _ _ (codes "create") (codes "batch") (apart _ _ refl) x.fields_are y.fields_are
call_once fields (call.Roll m g) (call.Create n b h e) x y = two_verbs fields _ _ (codes "roll") (codes "create") (apart _ _ refl) x.fields_are y.fields_are
call_once fields (call.Roll m g) (call.Roll n h) x y = roll_once fields m n g h x y
call_once fields (call.Roll m g) (call.Delete n) x y = two_verbs fields _ _ (codes "roll") (codes "delete") (apart _ _ refl) x.fields_are y.fields_are
call_once fields (call.Roll m g) (call.Invalidate n) x y = two_verbs fields _ _ (codes "roll") (codes "invalidate") (apart _ _ refl) x.fields_are y.fields_are
call_once fields (call.Roll m g) (call.Metadata n) x y = two_verbs fields _ _ (codes "roll") (codes "metadata") (apart _ _ refl) x.fields_are y.fields_are
call_once fields (call.Roll m g) (call.Metadatas n) x y = two_verbs fields _ _ (codes "roll") (codes "metadatas") (apart _ _ refl) x.fields_are y.fields_are
call_once fields (call.Roll m g) call.Names x y = two_verbs fields _ _ (codes "roll") (codes "names") (apart _ _ refl) x.fields_are y
call_once fields (call.Roll m g) (call.Current n) x y = two_verbs fields _ _ (codes "roll") (codes "current") (apart _ _ refl) x.fields_are y.fields_are
call_once fields (call.Roll m g) (call.Versions n) x y = two_verbs fields _ _ (codes "roll") (codes "versions") (apart _ _ refl) x.fields_are y.fields_are
call_once fields (call.Roll m g) (call.Version n) x y = two_verbs fields _ _ (codes "roll") (codes "version") (apart _ _ refl) x.fields_are y.fields_are
call_once fields (call.Roll m g) (call.Generate n b) x y = two_verbs fields _ _ (codes "roll") (codes "generate") (apart _ _ refl) x.fields_are y.fields_are
call_once fields (call.Roll m g) (call.Decrypt n b) x y = two_verbs fields _ _ (codes "roll") (codes "decrypt") (apart _ _ refl) x.fields_are y.fields_are
call_once fields (call.Roll m g) (call.Reencrypt n b) x y = two_verbs fields _ _ (codes "roll") (codes "reencrypt") (apart _ _ refl) x.fields_are y.fields_are
call_once fields (call.Roll m g) (call.Batch n b) x y = two_verbs fields _ _ (codes "roll") (codes "batch") (apart _ _ refl) x.fields_are y.fields_are
call_once fields (call.Delete m) (call.Create n b h e) x y = two_verbs fields _ _ (codes "delete") (codes "create") (apart _ _ refl) x.fields_are y.fields_are
call_once fields (call.Delete m) (call.Roll n h) x y = two_verbs fields _ _ (codes "delete") (codes "roll") (apart _ _ refl) x.fields_are y.fields_are
call_once fields (call.Delete m) (call.Delete n) x y = ap call.Delete (name_once (codes "delete") fields m n x y)
call_once fields (call.Delete m) (call.Invalidate n) x y = two_verbs fields _ _ (codes "delete") (codes "invalidate") (apart _ _ refl) x.fields_are y.fields_are
call_once fields (call.Delete m) (call.Metadata n) x y = two_verbs fields _ _ (codes "delete") (codes "metadata") (apart _ _ refl) x.fields_are y.fields_are
call_once fields (call.Delete m) (call.Metadatas n) x y = two_verbs fields _ _ (codes "delete") (codes "metadatas") (apart _ _ refl) x.fields_are y.fields_are
call_once fields (call.Delete m) call.Names x y = two_verbs fields _ _ (codes "delete") (codes "names") (apart _ _ refl) x.fields_are y
call_once fields (call.Delete m) (call.Current n) x y = two_verbs fields _ _ (codes "delete") (codes "current") (apart _ _ refl) x.fields_are y.fields_are
call_once fields (call.Delete m) (call.Versions n) x y = two_verbs fields _ _ (codes "delete") (codes "versions") (apart _ _ refl) x.fields_are y.fields_are
call_once fields (call.Delete m) (call.Version n) x y = two_verbs fields _ _ (codes "delete") (codes "version") (apart _ _ refl) x.fields_are y.fields_are
call_once fields (call.Delete m) (call.Generate n b) x y = two_verbs fields _ _ (codes "delete") (codes "generate") (apart _ _ refl) x.fields_are y.fields_are
call_once fields (call.Delete m) (call.Decrypt n b) x y = two_verbs fields _ _ (codes "delete") (codes "decrypt") (apart _ _ refl) x.fields_are y.fields_are
call_once fields (call.Delete m) (call.Reencrypt n b) x y = two_verbs fields _ _ (codes "delete") (codes "reencrypt") (apart _ _ refl) x.fields_are y.fields_are
call_once fields (call.Delete m) (call.Batch n b) x y = two_verbs fields _ _ (codes "delete") (codes "batch") (apart _ _ refl) x.fields_are y.fields_are
call_once fields (call.Invalidate m) (call.Create n b h e) x y = two_verbs fields _ _ (codes "invalidate") (codes "create") (apart _ _ refl) x.fields_are y.fields_are
call_once fields (call.Invalidate m) (call.Roll n h) x y = two_verbs fields _ _ (codes "invalidate") (codes "roll") (apart _ _ refl) x.fields_are y.fields_are
call_once fields (call.Invalidate m) (call.Delete n) x y = two_verbs fields _ _ (codes "invalidate") (codes "delete") (apart _ _ refl) x.fields_are y.fields_are
call_once fields (call.Invalidate m) (call.Invalidate n) x y = ap call.Invalidate (name_once (codes "invalidate") fields m n x y)
call_once fields (call.Invalidate m) (call.Metadata n) x y = two_verbs fields _ _ (codes "invalidate") (codes "metadata") (apart _ _ refl) x.fields_are y.fields_are
call_once fields (call.Invalidate m) (call.Metadatas n) x y = two_verbs fields _ _ (codes "invalidate") (codes "metadatas") (apart _ _ refl) x.fields_are y.fields_are
call_once fields (call.Invalidate m) call.Names x y = two_verbs fields _ _ (codes "invalidate") (codes "names") (apart _ _ refl) x.fields_are y
call_once fields (call.Invalidate m) (call.Current n) x y = two_verbs fields _ _ (codes "invalidate") (codes "current") (apart _ _ refl) x.fields_are y.fields_are
call_once fields (call.Invalidate m) (call.Versions n) x y = two_verbs fields _ _ (codes "invalidate") (codes "versions") (apart _ _ refl) x.fields_are y.fields_are
call_once fields (call.Invalidate m) (call.Version n) x y = two_verbs fields _ _ (codes "invalidate") (codes "version") (apart _ _ refl) x.fields_are y.fields_are
call_once fields (call.Invalidate m) (call.Generate n b) x y = two_verbs fields _ _ (codes "invalidate") (codes "generate") (apart _ _ refl) x.fields_are y.fields_are
call_once fields (call.Invalidate m) (call.Decrypt n b) x y = two_verbs fields _ _ (codes "invalidate") (codes "decrypt") (apart _ _ refl) x.fields_are y.fields_are
call_once fields (call.Invalidate m) (call.Reencrypt n b) x y = two_verbs fields _ _ (codes "invalidate") (codes "reencrypt") (apart _ _ refl) x.fields_are y.fields_are
call_once fields (call.Invalidate m) (call.Batch n b) x y = two_verbs fields _ _ (codes "invalidate") (codes "batch") (apart _ _ refl) x.fields_are y.fields_are
call_once fields (call.Metadata m) (call.Create n b h e) x y = two_verbs fields _ _ (codes "metadata") (codes "create") (apart _ _ refl) x.fields_are y.fields_are
call_once fields (call.Metadata m) (call.Roll n h) x y = two_verbs fields _ _ (codes "metadata") (codes "roll") (apart _ _ refl) x.fields_are y.fields_are
call_once fields (call.Metadata m) (call.Delete n) x y = two_verbs fields _ _ (codes "metadata") (codes "delete") (apart _ _ refl) x.fields_are y.fields_are
call_once fields (call.Metadata m) (call.Invalidate n) x y = two_verbs fields _ _ (codes "metadata") (codes "invalidate") (apart _ _ refl) x.fields_are y.fields_are
call_once fields (call.Metadata m) (call.Metadata n) x y = ap call.Metadata (name_once (codes "metadata") fields m n x y)
call_once fields (call.Metadata m) (call.Metadatas n) x y = two_verbs fields _ _ (codes "metadata") (codes "metadatas") (apart _ _ refl) x.fields_are y.fields_are
call_once fields (call.Metadata m) call.Names x y = two_verbs fields _ _ (codes "metadata") (codes "names") (apart _ _ refl) x.fields_are y
call_once fields (call.Metadata m) (call.Current n) x y = two_verbs fields _ _ (codes "metadata") (codes "current") (apart _ _ refl) x.fields_are y.fields_are
call_once fields (call.Metadata m) (call.Versions n) x y = two_verbs fields _ _ (codes "metadata") (codes "versions") (apart _ _ refl) x.fields_are y.fields_are
call_once fields (call.Metadata m) (call.Version n) x y = two_verbs fields _ _ (codes "metadata") (codes "version") (apart _ _ refl) x.fields_are y.fields_are
call_once fields (call.Metadata m) (call.Generate n b) x y = two_verbs fields _ _ (codes "metadata") (codes "generate") (apart _ _ refl) x.fields_are y.fields_are
call_once fields (call.Metadata m) (call.Decrypt n b) x y = two_verbs fields _ _ (codes "metadata") (codes "decrypt") (apart _ _ refl) x.fields_are y.fields_are
call_once fields (call.Metadata m) (call.Reencrypt n b) x y = two_verbs fields _ _ (codes "metadata") (codes "reencrypt") (apart _ _ refl) x.fields_are y.fields_are
call_once fields (call.Metadata m) (call.Batch n b) x y = two_verbs fields _ _ (codes "metadata") (codes "batch") (apart _ _ refl) x.fields_are y.fields_are
call_once fields (call.Metadatas m) (call.Create n b h e) x y = two_verbs fields _ _ (codes "metadatas") (codes "create") (apart _ _ refl) x.fields_are y.fields_are
call_once fields (call.Metadatas m) (call.Roll n h) x y = two_verbs fields _ _ (codes "metadatas") (codes "roll") (apart _ _ refl) x.fields_are y.fields_are
call_once fields (call.Metadatas m) (call.Delete n) x y = two_verbs fields _ _ (codes "metadatas") (codes "delete") (apart _ _ refl) x.fields_are y.fields_are
call_once fields (call.Metadatas m) (call.Invalidate n) x y = two_verbs fields _ _ (codes "metadatas") (codes "invalidate") (apart _ _ refl) x.fields_are y.fields_are
call_once fields (call.Metadatas m) (call.Metadata n) x y = two_verbs fields _ _ (codes "metadatas") (codes "metadata") (apart _ _ refl) x.fields_are y.fields_are
call_once fields (call.Metadatas m) (call.Metadatas n) x y = ap call.Metadatas (metadatas_once fields m n x y)
call_once fields (call.Metadatas m) call.Names x y = two_verbs fields _ _ (codes "metadatas") (codes "names") (apart _ _ refl) x.fields_are y
call_once fields (call.Metadatas m) (call.Current n) x y = two_verbs fields _ _ (codes "metadatas") (codes "current") (apart _ _ refl) x.fields_are y.fields_are
call_once fields (call.Metadatas m) (call.Versions n) x y = two_verbs fields _ _ (codes "metadatas") (codes "versions") (apart _ _ refl) x.fields_are y.fields_are
call_once fields (call.Metadatas m) (call.Version n) x y = two_verbs fields _ _ (codes "metadatas") (codes "version") (apart _ _ refl) x.fields_are y.fields_are
call_once fields (call.Metadatas m) (call.Generate n b) x y = two_verbs fields _ _ (codes "metadatas") (codes "generate") (apart _ _ refl) x.fields_are y.fields_are
call_once fields (call.Metadatas m) (call.Decrypt n b) x y = two_verbs fields _ _ (codes "metadatas") (codes "decrypt") (apart _ _ refl) x.fields_are y.fields_are
call_once fields (call.Metadatas m) (call.Reencrypt n b) x y = two_verbs fields _ _ (codes "metadatas") (codes "reencrypt") (apart _ _ refl) x.fields_are y.fields_are
call_once fields (call.Metadatas m) (call.Batch n b) x y = two_verbs fields _ _ (codes "metadatas") (codes "batch") (apart _ _ refl) x.fields_are y.fields_are
call_once fields call.Names (call.Create n b h e) x y = two_verbs fields _ _ (codes "names") (codes "create") (apart _ _ refl) x y.fields_are
call_once fields call.Names (call.Roll n h) x y = two_verbs fields _ _ (codes "names") (codes "roll") (apart _ _ refl) x y.fields_are
call_once fields call.Names (call.Delete n) x y = two_verbs fields _ _ (codes "names") (codes "delete") (apart _ _ refl) x y.fields_are
call_once fields call.Names (call.Invalidate n) x y = two_verbs fields _ _ (codes "names") (codes "invalidate") (apart _ _ refl) x y.fields_are
call_once fields call.Names (call.Metadata n) x y = two_verbs fields _ _ (codes "names") (codes "metadata") (apart _ _ refl) x y.fields_are
call_once fields call.Names (call.Metadatas n) x y = two_verbs fields _ _ (codes "names") (codes "metadatas") (apart _ _ refl) x y.fields_are
call_once fields call.Names call.Names x y = refl
call_once fields call.Names (call.Current n) x y = two_verbs fields _ _ (codes "names") (codes "current") (apart _ _ refl) x y.fields_are
call_once fields call.Names (call.Versions n) x y = two_verbs fields _ _ (codes "names") (codes "versions") (apart _ _ refl) x y.fields_are
call_once fields call.Names (call.Version n) x y = two_verbs fields _ _ (codes "names") (codes "version") (apart _ _ refl) x y.fields_are
call_once fields call.Names (call.Generate n b) x y = two_verbs fields _ _ (codes "names") (codes "generate") (apart _ _ refl) x y.fields_are
call_once fields call.Names (call.Decrypt n b) x y = two_verbs fields _ _ (codes "names") (codes "decrypt") (apart _ _ refl) x y.fields_are
call_once fields call.Names (call.Reencrypt n b) x y = two_verbs fields _ _ (codes "names") (codes "reencrypt") (apart _ _ refl) x y.fields_are
call_once fields call.Names (call.Batch n b) x y = two_verbs fields _ _ (codes "names") (codes "batch") (apart _ _ refl) x y.fields_are
call_once fields (call.Current m) (call.Create n b h e) x y = two_verbs fields _ _ (codes "current") (codes "create") (apart _ _ refl) x.fields_are y.fields_are
call_once fields (call.Current m) (call.Roll n h) x y = two_verbs fields _ _ (codes "current") (codes "roll") (apart _ _ refl) x.fields_are y.fields_are
call_once fields (call.Current m) (call.Delete n) x y = two_verbs fields _ _ (codes "current") (codes "delete") (apart _ _ refl) x.fields_are y.fields_are
call_once fields (call.Current m) (call.Invalidate n) x y = two_verbs fields _ _ (codes "current") (codes "invalidate") (apart _ _ refl) x.fields_are y.fields_are
call_once fields (call.Current m) (call.Metadata n) x y = two_verbs fields _ _ (codes "current") (codes "metadata") (apart _ _ refl) x.fields_are y.fields_are
call_once fields (call.Current m) (call.Metadatas n) x y = two_verbs fields _ _ (codes "current") (codes "metadatas") (apart _ _ refl) x.fields_are y.fields_are
call_once fields (call.Current m) call.Names x y = two_verbs fields _ _ (codes "current") (codes "names") (apart _ _ refl) x.fields_are y
call_once fields (call.Current m) (call.Current n) x y = ap call.Current (name_once (codes "current") fields m n x y)
call_once fields (call.Current m) (call.Versions n) x y = two_verbs fields _ _ (codes "current") (codes "versions") (apart _ _ refl) x.fields_are y.fields_are
call_once fields (call.Current m) (call.Version n) x y = two_verbs fields _ _ (codes "current") (codes "version") (apart _ _ refl) x.fields_are y.fields_are
call_once fields (call.Current m) (call.Generate n b) x y = two_verbs fields _ _ (codes "current") (codes "generate") (apart _ _ refl) x.fields_are y.fields_are
call_once fields (call.Current m) (call.Decrypt n b) x y = two_verbs fields _ _ (codes "current") (codes "decrypt") (apart _ _ refl) x.fields_are y.fields_are
call_once fields (call.Current m) (call.Reencrypt n b) x y = two_verbs fields _ _ (codes "current") (codes "reencrypt") (apart _ _ refl) x.fields_are y.fields_are
call_once fields (call.Current m) (call.Batch n b) x y = two_verbs fields _ _ (codes "current") (codes "batch") (apart _ _ refl) x.fields_are y.fields_are
call_once fields (call.Versions m) (call.Create n b h e) x y = two_verbs fields _ _ (codes "versions") (codes "create") (apart _ _ refl) x.fields_are y.fields_are
call_once fields (call.Versions m) (call.Roll n h) x y = two_verbs fields _ _ (codes "versions") (codes "roll") (apart _ _ refl) x.fields_are y.fields_are
call_once fields (call.Versions m) (call.Delete n) x y = two_verbs fields _ _ (codes "versions") (codes "delete") (apart _ _ refl) x.fields_are y.fields_are
call_once fields (call.Versions m) (call.Invalidate n) x y = two_verbs fields _ _ (codes "versions") (codes "invalidate") (apart _ _ refl) x.fields_are y.fields_are
call_once fields (call.Versions m) (call.Metadata n) x y = two_verbs fields _ _ (codes "versions") (codes "metadata") (apart _ _ refl) x.fields_are y.fields_are
call_once fields (call.Versions m) (call.Metadatas n) x y = two_verbs fields _ _ (codes "versions") (codes "metadatas") (apart _ _ refl) x.fields_are y.fields_are
call_once fields (call.Versions m) call.Names x y = two_verbs fields _ _ (codes "versions") (codes "names") (apart _ _ refl) x.fields_are y
call_once fields (call.Versions m) (call.Current n) x y = two_verbs fields _ _ (codes "versions") (codes "current") (apart _ _ refl) x.fields_are y.fields_are
call_once fields (call.Versions m) (call.Versions n) x y = ap call.Versions (name_once (codes "versions") fields m n x y)
call_once fields (call.Versions m) (call.Version n) x y = two_verbs fields _ _ (codes "versions") (codes "version") (apart _ _ refl) x.fields_are y.fields_are
call_once fields (call.Versions m) (call.Generate n b) x y = two_verbs fields _ _ (codes "versions") (codes "generate") (apart _ _ refl) x.fields_are y.fields_are
call_once fields (call.Versions m) (call.Decrypt n b) x y = two_verbs fields _ _ (codes "versions") (codes "decrypt") (apart _ _ refl) x.fields_are y.fields_are
call_once fields (call.Versions m) (call.Reencrypt n b) x y = two_verbs fields _ _ (codes "versions") (codes "reencrypt") (apart _ _ refl) x.fields_are y.fields_are
call_once fields (call.Versions m) (call.Batch n b) x y = two_verbs fields _ _ (codes "versions") (codes "batch") (apart _ _ refl) x.fields_are y.fields_are
call_once fields (call.Version m) (call.Create n b h e) x y = two_verbs fields _ _ (codes "version") (codes "create") (apart _ _ refl) x.fields_are y.fields_are
call_once fields (call.Version m) (call.Roll n h) x y = two_verbs fields _ _ (codes "version") (codes "roll") (apart _ _ refl) x.fields_are y.fields_are
call_once fields (call.Version m) (call.Delete n) x y = two_verbs fields _ _ (codes "version") (codes "delete") (apart _ _ refl) x.fields_are y.fields_are
call_once fields (call.Version m) (call.Invalidate n) x y = two_verbs fields _ _ (codes "version") (codes "invalidate") (apart _ _ refl) x.fields_are y.fields_are
call_once fields (call.Version m) (call.Metadata n) x y = two_verbs fields _ _ (codes "version") (codes "metadata") (apart _ _ refl) x.fields_are y.fields_are
call_once fields (call.Version m) (call.Metadatas n) x y = two_verbs fields _ _ (codes "version") (codes "metadatas") (apart _ _ refl) x.fields_are y.fields_are
call_once fields (call.Version m) call.Names x y = two_verbs fields _ _ (codes "version") (codes "names") (apart _ _ refl) x.fields_are y
call_once fields (call.Version m) (call.Current n) x y = two_verbs fields _ _ (codes "version") (codes "current") (apart _ _ refl) x.fields_are y.fields_are
call_once fields (call.Version m) (call.Versions n) x y = two_verbs fields _ _ (codes "version") (codes "versions") (apart _ _ refl) x.fields_are y.fields_are
call_once fields (call.Version m) (call.Version n) x y = ap call.Version (one_version fields m n x y)
call_once fields (call.Version m) (call.Generate n b) x y = two_verbs fields _ _ (codes "version") (codes "generate") (apart _ _ refl) x.fields_are y.fields_are
call_once fields (call.Version m) (call.Decrypt n b) x y = two_verbs fields _ _ (codes "version") (codes "decrypt") (apart _ _ refl) x.fields_are y.fields_are
call_once fields (call.Version m) (call.Reencrypt n b) x y = two_verbs fields _ _ (codes "version") (codes "reencrypt") (apart _ _ refl) x.fields_are y.fields_are
call_once fields (call.Version m) (call.Batch n b) x y = two_verbs fields _ _ (codes "version") (codes "batch") (apart _ _ refl) x.fields_are y.fields_are
call_once fields (call.Generate m a) (call.Create n b h e) x y = two_verbs fields _ _ (codes "generate") (codes "create") (apart _ _ refl) x.fields_are y.fields_are
call_once fields (call.Generate m a) (call.Roll n h) x y = two_verbs fields _ _ (codes "generate") (codes "roll") (apart _ _ refl) x.fields_are y.fields_are
call_once fields (call.Generate m a) (call.Delete n) x y = two_verbs fields _ _ (codes "generate") (codes "delete") (apart _ _ refl) x.fields_are y.fields_are
call_once fields (call.Generate m a) (call.Invalidate n) x y = two_verbs fields _ _ (codes "generate") (codes "invalidate") (apart _ _ refl) x.fields_are y.fields_are
call_once fields (call.Generate m a) (call.Metadata n) x y = two_verbs fields _ _ (codes "generate") (codes "metadata") (apart _ _ refl) x.fields_are y.fields_are
call_once fields (call.Generate m a) (call.Metadatas n) x y = two_verbs fields _ _ (codes "generate") (codes "metadatas") (apart _ _ refl) x.fields_are y.fields_are
call_once fields (call.Generate m a) call.Names x y = two_verbs fields _ _ (codes "generate") (codes "names") (apart _ _ refl) x.fields_are y
call_once fields (call.Generate m a) (call.Current n) x y = two_verbs fields _ _ (codes "generate") (codes "current") (apart _ _ refl) x.fields_are y.fields_are
call_once fields (call.Generate m a) (call.Versions n) x y = two_verbs fields _ _ (codes "generate") (codes "versions") (apart _ _ refl) x.fields_are y.fields_are
call_once fields (call.Generate m a) (call.Version n) x y = two_verbs fields _ _ (codes "generate") (codes "version") (apart _ _ refl) x.fields_are y.fields_are
call_once fields (call.Generate m a) (call.Generate n b) x y = generate_once fields m n a b x y
call_once fields (call.Generate m a) (call.Decrypt n b) x y = two_verbs fields _ _ (codes "generate") (codes "decrypt") (apart _ _ refl) x.fields_are y.fields_are
call_once fields (call.Generate m a) (call.Reencrypt n b) x y = two_verbs fields _ _ (codes "generate") (codes "reencrypt") (apart _ _ refl) x.fields_are y.fields_are
call_once fields (call.Generate m a) (call.Batch n b) x y = two_verbs fields _ _ (codes "generate") (codes "batch") (apart _ _ refl) x.fields_are y.fields_are
call_once fields (call.Decrypt m a) (call.Create n b h e) x y = two_verbs fields _ _ (codes "decrypt") (codes "create") (apart _ _ refl) x.fields_are y.fields_are
call_once fields (call.Decrypt m a) (call.Roll n h) x y = two_verbs fields _ _ (codes "decrypt") (codes "roll") (apart _ _ refl) x.fields_are y.fields_are
call_once fields (call.Decrypt m a) (call.Delete n) x y = two_verbs fields _ _ (codes "decrypt") (codes "delete") (apart _ _ refl) x.fields_are y.fields_are
call_once fields (call.Decrypt m a) (call.Invalidate n) x y = two_verbs fields _ _ (codes "decrypt") (codes "invalidate") (apart _ _ refl) x.fields_are y.fields_are
call_once fields (call.Decrypt m a) (call.Metadata n) x y = two_verbs fields _ _ (codes "decrypt") (codes "metadata") (apart _ _ refl) x.fields_are y.fields_are
call_once fields (call.Decrypt m a) (call.Metadatas n) x y = two_verbs fields _ _ (codes "decrypt") (codes "metadatas") (apart _ _ refl) x.fields_are y.fields_are
call_once fields (call.Decrypt m a) call.Names x y = two_verbs fields _ _ (codes "decrypt") (codes "names") (apart _ _ refl) x.fields_are y
call_once fields (call.Decrypt m a) (call.Current n) x y = two_verbs fields _ _ (codes "decrypt") (codes "current") (apart _ _ refl) x.fields_are y.fields_are
call_once fields (call.Decrypt m a) (call.Versions n) x y = two_verbs fields _ _ (codes "decrypt") (codes "versions") (apart _ _ refl) x.fields_are y.fields_are
call_once fields (call.Decrypt m a) (call.Version n) x y = two_verbs fields _ _ (codes "decrypt") (codes "version") (apart _ _ refl) x.fields_are y.fields_are
call_once fields (call.Decrypt m a) (call.Generate n b) x y = two_verbs fields _ _ (codes "decrypt") (codes "generate") (apart _ _ refl) x.fields_are y.fields_are
call_once fields (call.Decrypt m a) (call.Decrypt n b) x y = let same = sent_once (codes "decrypt") fields m n a b x y in λ i. call.Decrypt (same.0 i) (same.1 i)
call_once fields (call.Decrypt m a) (call.Reencrypt n b) x y = two_verbs fields _ _ (codes "decrypt") (codes "reencrypt") (apart _ _ refl) x.fields_are y.fields_are
call_once fields (call.Decrypt m a) (call.Batch n b) x y = two_verbs fields _ _ (codes "decrypt") (codes "batch") (apart _ _ refl) x.fields_are y.fields_are
call_once fields (call.Reencrypt m a) (call.Create n b h e) x y = two_verbs fields _ _ (codes "reencrypt") (codes "create") (apart _ _ refl) x.fields_are y.fields_are
call_once fields (call.Reencrypt m a) (call.Roll n h) x y = two_verbs fields _ _ (codes "reencrypt") (codes "roll") (apart _ _ refl) x.fields_are y.fields_are
call_once fields (call.Reencrypt m a) (call.Delete n) x y = two_verbs fields _ _ (codes "reencrypt") (codes "delete") (apart _ _ refl) x.fields_are y.fields_are
call_once fields (call.Reencrypt m a) (call.Invalidate n) x y = two_verbs fields _ _ (codes "reencrypt") (codes "invalidate") (apart _ _ refl) x.fields_are y.fields_are
call_once fields (call.Reencrypt m a) (call.Metadata n) x y = two_verbs fields _ _ (codes "reencrypt") (codes "metadata") (apart _ _ refl) x.fields_are y.fields_are
call_once fields (call.Reencrypt m a) (call.Metadatas n) x y = two_verbs fields _ _ (codes "reencrypt") (codes "metadatas") (apart _ _ refl) x.fields_are y.fields_are
call_once fields (call.Reencrypt m a) call.Names x y = two_verbs fields _ _ (codes "reencrypt") (codes "names") (apart _ _ refl) x.fields_are y
call_once fields (call.Reencrypt m a) (call.Current n) x y = two_verbs fields _ _ (codes "reencrypt") (codes "current") (apart _ _ refl) x.fields_are y.fields_are
call_once fields (call.Reencrypt m a) (call.Versions n) x y = two_verbs fields _ _ (codes "reencrypt") (codes "versions") (apart _ _ refl) x.fields_are y.fields_are
call_once fields (call.Reencrypt m a) (call.Version n) x y = two_verbs fields _ _ (codes "reencrypt") (codes "version") (apart _ _ refl) x.fields_are y.fields_are
call_once fields (call.Reencrypt m a) (call.Generate n b) x y = two_verbs fields _ _ (codes "reencrypt") (codes "generate") (apart _ _ refl) x.fields_are y.fields_are
call_once fields (call.Reencrypt m a) (call.Decrypt n b) x y = two_verbs fields _ _ (codes "reencrypt") (codes "decrypt") (apart _ _ refl) x.fields_are y.fields_are
call_once fields (call.Reencrypt m a) (call.Reencrypt n b) x y = let same = sent_once (codes "reencrypt") fields m n a b x y in λ i. call.Reencrypt (same.0 i) (same.1 i)
call_once fields (call.Reencrypt m a) (call.Batch n b) x y = two_verbs fields _ _ (codes "reencrypt") (codes "batch") (apart _ _ refl) x.fields_are y.fields_are
call_once fields (call.Batch m a) (call.Create n b h e) x y = two_verbs fields _ _ (codes "batch") (codes "create") (apart _ _ refl) x.fields_are y.fields_are
call_once fields (call.Batch m a) (call.Roll n h) x y = two_verbs fields _ _ (codes "batch") (codes "roll") (apart _ _ refl) x.fields_are y.fields_are
call_once fields (call.Batch m a) (call.Delete n) x y = two_verbs fields _ _ (codes "batch") (codes "delete") (apart _ _ refl) x.fields_are y.fields_are
call_once fields (call.Batch m a) (call.Invalidate n) x y = two_verbs fields _ _ (codes "batch") (codes "invalidate") (apart _ _ refl) x.fields_are y.fields_are
call_once fields (call.Batch m a) (call.Metadata n) x y = two_verbs fields _ _ (codes "batch") (codes "metadata") (apart _ _ refl) x.fields_are y.fields_are
call_once fields (call.Batch m a) (call.Metadatas n) x y = two_verbs fields _ _ (codes "batch") (codes "metadatas") (apart _ _ refl) x.fields_are y.fields_are
call_once fields (call.Batch m a) call.Names x y = two_verbs fields _ _ (codes "batch") (codes "names") (apart _ _ refl) x.fields_are y
call_once fields (call.Batch m a) (call.Current n) x y = two_verbs fields _ _ (codes "batch") (codes "current") (apart _ _ refl) x.fields_are y.fields_are
call_once fields (call.Batch m a) (call.Versions n) x y = two_verbs fields _ _ (codes "batch") (codes "versions") (apart _ _ refl) x.fields_are y.fields_are
call_once fields (call.Batch m a) (call.Version n) x y = two_verbs fields _ _ (codes "batch") (codes "version") (apart _ _ refl) x.fields_are y.fields_are
call_once fields (call.Batch m a) (call.Generate n b) x y = two_verbs fields _ _ (codes "batch") (codes "generate") (apart _ _ refl) x.fields_are y.fields_are
call_once fields (call.Batch m a) (call.Decrypt n b) x y = two_verbs fields _ _ (codes "batch") (codes "decrypt") (apart _ _ refl) x.fields_are y.fields_are
call_once fields (call.Batch m a) (call.Reencrypt n b) x y = two_verbs fields _ _ (codes "batch") (codes "reencrypt") (apart _ _ refl) x.fields_are y.fields_are
call_once fields (call.Batch m a) (call.Batch n b) x y = batch_once fields m n a b x y

-- fields of lines

user_once : (f g user other : List ℕ) → f ≡ g → IsUser f user → IsUser g other → user ≡ other
user_once f g user other field x y = sym x.decoded ∙ ap percent_decode field ∙ y.decoded

path_once : (f g path other : List ℕ) → f ≡ g → IsEscaped f path → IsEscaped g other → path ≡ other
path_once f g path other field x y = sym x.decoded ∙ ap percent_decode field ∙ y.decoded

kms_once : (fields : List (List ℕ)) (user other : List ℕ) (c d : KmsCall) → SpellsKms fields user c → SpellsKms fields other d → event.Kms user c ≡ event.Kms other d
kms_once fields user other c d x y =
    let same = sym x.fields_are ∙ y.fields_are in
    let user_field : x.user_field ≡ y.user_field = cc in
    let call_fields : x.call_fields ≡ y.call_fields = cc in
    let who : user ≡ other = user_once x.user_field y.user_field user other user_field x.user_is y.user_is in
    let call : c ≡ d = call_once y.call_fields c d (subst (λ (fs : List (List ℕ)). SpellsCall fs c) call_fields x.call_is) y.call_is in
    λ i. event.Kms (who i) (call i)

-- two lines with the same verb have the same user and path
same_path : (verb : List ℕ) (fields : List (List ℕ)) (user other path also : List ℕ) → SpellsPath verb fields user path → SpellsPath verb fields other also → (user ≡ other) × (path ≡ also)
same_path verb fields user other path also x y =
    let same = sym x.fields_are ∙ y.fields_are in
    let user_field : x.user_field ≡ y.user_field = cc in
    let path_field : x.path_field ≡ y.path_field = cc in
    (user_once x.user_field y.user_field user other user_field x.user_is y.user_is, path_once x.path_field y.path_field path also path_field x.path_is y.path_is)

-- the same for lines with another path or the name of a snapshot
same_two_fields : (verb : List ℕ) (fields : List (List ℕ)) (user other path also second last : List ℕ) → SpellsTwoFields verb fields user path second → SpellsTwoFields verb fields other also last → (user ≡ other) × ((path ≡ also) × (second ≡ last))
same_two_fields verb fields user other path also second last x y =
    let same = sym x.fields_are ∙ y.fields_are in
    let user_field : x.user_field ≡ y.user_field = cc in
    let path_field : x.path_field ≡ y.path_field = cc in
    let second_field : x.second_field ≡ y.second_field = cc in (
      user_once x.user_field y.user_field user other user_field x.user_is y.user_is,
      (
        path_once x.path_field y.path_field path also path_field x.path_is y.path_is,
        path_once x.second_field y.second_field second last second_field x.second_is y.second_is,
      ),
    )

-- the same for asks with a path alone
same_ask : (verb : List ℕ) (fields : List (List ℕ)) (user other path also : List ℕ) → SpellsAskPath verb fields user path → SpellsAskPath verb fields other also → (user ≡ other) × (path ≡ also)
same_ask verb fields user other path also x y =
    let same = sym x.fields_are ∙ y.fields_are in
    let user_field : x.user_field ≡ y.user_field = cc in
    let path_field : x.path_field ≡ y.path_field = cc in
    (user_once x.user_field y.user_field user other user_field x.user_is y.user_is, path_once x.path_field y.path_field path also path_field x.path_is y.path_is)

ask_zone_once : (fields : List (List ℕ)) (user other path also key second : List ℕ) → SpellsAskZone fields user path key → SpellsAskZone fields other also second → event.AskZone user path key ≡ event.AskZone other also second
ask_zone_once fields user other path also key second x y =
    let same = sym x.fields_are ∙ y.fields_are in
    let user_field : x.user_field ≡ y.user_field = cc in
    let path_field : x.path_field ≡ y.path_field = cc in
    let named : key ≡ second = cc in
    let who : user ≡ other = user_once x.user_field y.user_field user other user_field x.user_is y.user_is in
    let where_ : path ≡ also = path_once x.path_field y.path_field path also path_field x.path_is y.path_is in
    λ i. event.AskZone (who i) (where_ i) (named i)

kept_once : (verb : List ℕ) (fields : List (List ℕ)) (m n : ℕ) → SpellsKept verb fields m → SpellsKept verb fields n → m ≡ n
kept_once verb fields m n x y =
    let same = sym x.fields_are ∙ y.fields_are in
    let text : decimal m ≡ decimal n = cc in
    decimal_once m n (omega (arith, x.small)) (omega (arith, y.small)) text

walk_once : (fields : List (List ℕ)) (path also : List ℕ) → SpellsWalk fields path → SpellsWalk fields also → path ≡ also
walk_once fields path also x y =
    let same = sym x.fields_are ∙ y.fields_are in
    let path_field : x.path_field ≡ y.path_field = cc in
    path_once x.path_field y.path_field path also path_field x.path_is y.path_is

zones_once : (fields : List (List ℕ)) (user other : List ℕ) → SpellsZones fields user → SpellsZones fields other → user ≡ other
zones_once fields user other x y =
    let same = sym x.fields_are ∙ y.fields_are in
    let user_field : x.user_field ≡ y.user_field = cc in
    user_once x.user_field y.user_field user other user_field x.user_is y.user_is

-- The kind of a line, told by its first field and the number of its fields, with the word that tells the lines of a kind apart.
data Kind : Type 0 where
  Call : Kind
  Restart : (service : List ℕ) → Kind
  OnPath : (verb : List ℕ) → Kind
  OnTwoFields : (verb : List ℕ) → Kind
  OnZones : Kind
  AskOnPath : (verb : List ℕ) → Kind
  NewZone : Kind
  OnWalk : Kind
  OfNumber : (verb : List ℕ) → Kind
  Alone : Kind

abbrev restart_kind : List (List ℕ) → Kind
restart_kind [] = Call
restart_kind (service ∷ more) = Restart service

-- from the fields after `nn U`
abbrev name_kind : List (List ℕ) → Kind
name_kind [] = Call
name_kind (verb ∷ []) = OnZones
name_kind (verb ∷ path ∷ []) = OnPath verb
name_kind (verb ∷ path ∷ second ∷ more) = OnTwoFields verb

-- from the fields after `ask U`
abbrev ask_kind : List (List ℕ) → Kind
ask_kind [] = Call
ask_kind (verb ∷ []) = Call
ask_kind (verb ∷ path ∷ []) = AskOnPath verb
ask_kind (verb ∷ path ∷ key ∷ more) = NewZone

-- a line that begins with another word: that word alone, or with a number after it
abbrev number_kind : List ℕ → List (List ℕ) → Kind
number_kind verb [] = Alone
number_kind verb (number ∷ more) = OfNumber verb

abbrev kind_of : List (List ℕ) → Kind
kind_of [] = Call
kind_of (first ∷ rest) =
    if bytes_eq first (codes "kms")
    then Call
    else if bytes_eq first (codes "restart")
    then restart_kind rest
    else if bytes_eq first (codes "nn")
    then name_kind (drop 1 rest)
    else if bytes_eq first (codes "ask")
    then ask_kind (drop 1 rest)
    else if bytes_eq first (codes "walk")
    then OnWalk
    else number_kind first rest

abbrev kind : Event → Kind
kind (event.Kms user c) = Call
kind event.Ticket = Alone
kind (event.Deposit n) = OfNumber (codes "deposit")
kind event.RestartKms = Restart (codes "kms")
kind event.RestartName = Restart (codes "nn")
kind (event.Mkdir user path) = OnPath (codes "mkdir")
kind (event.Delete user path false) = OnPath (codes "delete")
kind (event.Delete user path true) = OnPath (codes "rdelete")
kind (event.Rename user path to) = OnTwoFields (codes "rename")
kind (event.Info user path) = OnPath (codes "info")
kind (event.List user path) = OnPath (codes "list")
kind (event.Allow user path) = OnPath (codes "allow")
kind (event.Disallow user path) = OnPath (codes "disallow")
kind (event.Snap user path name) = OnTwoFields (codes "snap")
kind (event.Unsnap user path name) = OnTwoFields (codes "unsnap")
kind (event.Cancel user path) = OnPath (codes "cancel")
kind (event.Status user path) = OnPath (codes "status")
kind (event.Zones user) = OnZones
kind (event.AskCreate user path) = AskOnPath (codes "create")
kind (event.AskZone user path key) = NewZone
kind (event.AskSubmit user path) = AskOnPath (codes "submit")
kind (event.Draw n) = OfNumber (codes "draw")
kind (event.Finish n) = OfNumber (codes "finish")
kind (event.Walk path) = OnWalk
kind (event.Serve n) = OfNumber (codes "serve")
kind (event.Deliver n) = OfNumber (codes "deliver")
kind (event.GiveUp n) = OfNumber (codes "giveup")

kind_is : (fields : List (List ℕ)) (e : Event) → SpellsEvent fields e → kind_of fields ≡ kind e
kind_is fields (event.Kms user c) x = ap kind_of x.fields_are
kind_is fields event.Ticket x = ap kind_of x
kind_is fields (event.Deposit n) x = ap kind_of x.fields_are
kind_is fields event.RestartKms x = ap kind_of x
kind_is fields event.RestartName x = ap kind_of x
kind_is fields (event.Mkdir user path) x = ap kind_of x.fields_are
kind_is fields (event.Delete user path false) x = ap kind_of x.fields_are
kind_is fields (event.Delete user path true) x = ap kind_of x.fields_are
kind_is fields (event.Rename user path to) x = ap kind_of x.fields_are
kind_is fields (event.Info user path) x = ap kind_of x.fields_are
kind_is fields (event.List user path) x = ap kind_of x.fields_are
kind_is fields (event.Allow user path) x = ap kind_of x.fields_are
kind_is fields (event.Disallow user path) x = ap kind_of x.fields_are
kind_is fields (event.Snap user path name) x = ap kind_of x.fields_are
kind_is fields (event.Unsnap user path name) x = ap kind_of x.fields_are
kind_is fields (event.Cancel user path) x = ap kind_of x.fields_are
kind_is fields (event.Status user path) x = ap kind_of x.fields_are
kind_is fields (event.Zones user) x = ap kind_of x.fields_are
kind_is fields (event.AskCreate user path) x = ap kind_of x.fields_are
kind_is fields (event.AskZone user path key) x = ap kind_of x.fields_are
kind_is fields (event.AskSubmit user path) x = ap kind_of x.fields_are
kind_is fields (event.Draw n) x = ap kind_of x.fields_are
kind_is fields (event.Finish n) x = ap kind_of x.fields_are
kind_is fields (event.Walk path) x = ap kind_of x.fields_are
kind_is fields (event.Serve n) x = ap kind_of x.fields_are
kind_is fields (event.Deliver n) x = ap kind_of x.fields_are
kind_is fields (event.GiveUp n) x = ap kind_of x.fields_are

-- the event of a word
abbrev restart_event : List ℕ → Event
restart_event service = if bytes_eq service (codes "kms") then event.RestartKms else event.RestartName

abbrev path_event : List ℕ → List ℕ → List ℕ → Event
path_event verb user path =
    if bytes_eq verb (codes "mkdir")
    then event.Mkdir user path
    else if bytes_eq verb (codes "delete")
    then event.Delete user path false
    else if bytes_eq verb (codes "rdelete")
    then event.Delete user path true
    else if bytes_eq verb (codes "info")
    then event.Info user path
    else if bytes_eq verb (codes "list")
    then event.List user path
    else if bytes_eq verb (codes "allow")
    then event.Allow user path
    else if bytes_eq verb (codes "disallow")
    then event.Disallow user path
    else if bytes_eq verb (codes "cancel")
    then event.Cancel user path
    else event.Status user path

abbrev two_field_event : List ℕ → List ℕ → List ℕ → List ℕ → Event
two_field_event verb user path second =
    if bytes_eq verb (codes "rename")
    then event.Rename user path second
    else if bytes_eq verb (codes "snap")
    then event.Snap user path second
    else event.Unsnap user path second

abbrev ask_event : List ℕ → List ℕ → List ℕ → Event
ask_event verb user path = if bytes_eq verb (codes "create") then event.AskCreate user path else event.AskSubmit user path

abbrev number_event : List ℕ → ℕ → Event
number_event verb n =
    if bytes_eq verb (codes "draw")
    then event.Draw n
    else if bytes_eq verb (codes "finish")
    then event.Finish n
    else if bytes_eq verb (codes "serve")
    then event.Serve n
    else if bytes_eq verb (codes "deliver")
    then event.Deliver n
    else if bytes_eq verb (codes "giveup")
    then event.GiveUp n
    else event.Deposit n

-- the event of the fields of a line of this kind
abbrev Says : Kind → List (List ℕ) → Event → Type 0
Says Call fields e = (user : List ℕ) × ((c : KmsCall) × (SpellsKms fields user c × (e ≡ event.Kms user c)))
Says (Restart service) fields e = e ≡ restart_event service
Says (OnPath verb) fields e = (user : List ℕ) × ((path : List ℕ) × (SpellsPath verb fields user path × (e ≡ path_event verb user path)))
Says (OnTwoFields verb) fields e = (user : List ℕ) × ((path : List ℕ) × ((second : List ℕ) × (SpellsTwoFields verb fields user path second × (e ≡ two_field_event verb user path second))))
Says OnZones fields e = (user : List ℕ) × (SpellsZones fields user × (e ≡ event.Zones user))
Says (AskOnPath verb) fields e = (user : List ℕ) × ((path : List ℕ) × (SpellsAskPath verb fields user path × (e ≡ ask_event verb user path)))
Says NewZone fields e = (user : List ℕ) × ((path : List ℕ) × ((key : List ℕ) × (SpellsAskZone fields user path key × (e ≡ event.AskZone user path key))))
Says OnWalk fields e = (path : List ℕ) × (SpellsWalk fields path × (e ≡ event.Walk path))
Says (OfNumber verb) fields e = (n : ℕ) × (SpellsKept verb fields n × (e ≡ number_event verb n))
Says Alone fields e = e ≡ event.Ticket

says : (fields : List (List ℕ)) (e : Event) → SpellsEvent fields e → Says (kind e) fields e
says fields (event.Kms user c) x = (user, (c, (x, refl)))
says fields event.Ticket x = refl
says fields (event.Deposit n) x = (n, (x, refl))
says fields event.RestartKms x = refl
says fields event.RestartName x = refl
says fields (event.Mkdir user path) x = (user, (path, (x, refl)))
says fields (event.Delete user path false) x = (user, (path, (x, refl)))
says fields (event.Delete user path true) x = (user, (path, (x, refl)))
says fields (event.Rename user path to) x = (user, (path, (to, (x, refl))))
says fields (event.Info user path) x = (user, (path, (x, refl)))
says fields (event.List user path) x = (user, (path, (x, refl)))
says fields (event.Allow user path) x = (user, (path, (x, refl)))
says fields (event.Disallow user path) x = (user, (path, (x, refl)))
says fields (event.Snap user path name) x = (user, (path, (name, (x, refl))))
says fields (event.Unsnap user path name) x = (user, (path, (name, (x, refl))))
says fields (event.Cancel user path) x = (user, (path, (x, refl)))
says fields (event.Status user path) x = (user, (path, (x, refl)))
says fields (event.Zones user) x = (user, (x, refl))
says fields (event.AskCreate user path) x = (user, (path, (x, refl)))
says fields (event.AskZone user path key) x = (user, (path, (key, (x, refl))))
says fields (event.AskSubmit user path) x = (user, (path, (x, refl)))
says fields (event.Draw n) x = (n, (x, refl))
says fields (event.Finish n) x = (n, (x, refl))
says fields (event.Walk path) x = (path, (x, refl))
says fields (event.Serve n) x = (n, (x, refl))
says fields (event.Deliver n) x = (n, (x, refl))
says fields (event.GiveUp n) x = (n, (x, refl))

says_once : (k : Kind) (fields : List (List ℕ)) (a b : Event) → Says k fields a → Says k fields b → a ≡ b
says_once Call fields a b (user, (c, (x, is))) (other, (d, (y, also))) = is ∙ kms_once fields user other c d x y ∙ sym also
says_once (Restart service) fields a b is also = is ∙ sym also
says_once (OnPath verb) fields a b (user, (path, (x, is))) (other, (second, (y, also))) =
    let same = same_path verb fields user other path second x y in
    is ∙ (λ i. path_event verb (same.0 i) (same.1 i)) ∙ sym also
says_once (OnTwoFields verb) fields a b (user, (path, (second, (x, is)))) (other, (at, (last, (y, also)))) =
    let same = same_two_fields verb fields user other path at second last x y in
    is ∙ (λ i. two_field_event verb (same.0 i) (same.1.0 i) (same.1.1 i)) ∙ sym also
says_once OnZones fields a b (user, (x, is)) (other, (y, also)) = is ∙ ap event.Zones (zones_once fields user other x y) ∙ sym also
says_once (AskOnPath verb) fields a b (user, (path, (x, is))) (other, (second, (y, also))) =
    let same = same_ask verb fields user other path second x y in
    is ∙ (λ i. ask_event verb (same.0 i) (same.1 i)) ∙ sym also
says_once NewZone fields a b (user, (path, (key, (x, is)))) (other, (second, (word, (y, also)))) = is ∙ ask_zone_once fields user other path second key word x y ∙ sym also
says_once OnWalk fields a b (path, (x, is)) (second, (y, also)) = is ∙ ap event.Walk (walk_once fields path second x y) ∙ sym also
says_once (OfNumber verb) fields a b (m, (x, is)) (n, (y, also)) = is ∙ ap (number_event verb) (kept_once verb fields m n x y) ∙ sym also
says_once Alone fields a b is also = is ∙ sym also

-- the event of the kind that the fields tell
says_so : (fields : List (List ℕ)) (e : Event) → SpellsEvent fields e → Says (kind_of fields) fields e
says_so fields e x = subst (λ (k : Kind). Says k fields e) (sym (kind_is fields e x)) (says fields e x)

event_once : (fields : List (List ℕ)) (a b : Event) → SpellsEvent fields a → SpellsEvent fields b → a ≡ b
event_once fields a b x y = says_once (kind_of fields) fields a b (says_so fields a x) (says_so fields b y)

pub spelled_once : (line : List ℕ) (a b : Event) → SpellsLine line a → SpellsLine line b → a ≡ b
spelled_once line a b x y = event_once (fields_of line) a b x.fields y.fields

-- the first field of an event is not empty, and does not begin a comment
pub record Begins (fields : List (List ℕ)) : Type 0 where
  pub first : ℕ
  pub front : List ℕ
  pub more : List (List ℕ)
  pub begin : fields ≡ (first ∷ front) ∷ more
  pub no_comment : first ≡ 35 → ⊥

begins : (fields : List (List ℕ)) (event : Event) → SpellsEvent fields event → Begins fields
begins fields (event.Kms user call) x = record { first = 107; front = codes "ms"; more = x.user_field ∷ x.call_fields; begin = x.fields_are; no_comment = λ e. omega (arith, e) }
begins fields event.Ticket x = record { first = 116; front = codes "icket"; more = []; begin = x; no_comment = λ e. omega (arith, e) }
begins fields (event.Deposit number) x = record { first = 100; front = codes "eposit"; more = decimal number ∷ []; begin = x.fields_are; no_comment = λ e. omega (arith, e) }
begins fields event.RestartKms x = record { first = 114; front = codes "estart"; more = codes "kms" ∷ []; begin = x; no_comment = λ e. omega (arith, e) }
begins fields event.RestartName x = record { first = 114; front = codes "estart"; more = codes "nn" ∷ []; begin = x; no_comment = λ e. omega (arith, e) }
begins fields (event.Mkdir user path) x = record { first = 110; front = codes "n"; more = x.user_field ∷ codes "mkdir" ∷ x.path_field ∷ []; begin = x.fields_are; no_comment = λ e. omega (arith, e) }
begins fields (event.Delete user path recursive) x = record { first = 110; front = codes "n"; more = x.user_field ∷ delete_verb recursive ∷ x.path_field ∷ []; begin = x.fields_are; no_comment = λ e. omega (arith, e) }
begins fields (event.Rename user path to) x = record { first = 110; front = codes "n"; more = x.user_field ∷ codes "rename" ∷ x.path_field ∷ x.second_field ∷ []; begin = x.fields_are; no_comment = λ e. omega (arith, e) }
begins fields (event.Info user path) x = record { first = 110; front = codes "n"; more = x.user_field ∷ codes "info" ∷ x.path_field ∷ []; begin = x.fields_are; no_comment = λ e. omega (arith, e) }
begins fields (event.List user path) x = record { first = 110; front = codes "n"; more = x.user_field ∷ codes "list" ∷ x.path_field ∷ []; begin = x.fields_are; no_comment = λ e. omega (arith, e) }
begins fields (event.Allow user path) x = record { first = 110; front = codes "n"; more = x.user_field ∷ codes "allow" ∷ x.path_field ∷ []; begin = x.fields_are; no_comment = λ e. omega (arith, e) }
begins fields (event.Disallow user path) x = record { first = 110; front = codes "n"; more = x.user_field ∷ codes "disallow" ∷ x.path_field ∷ []; begin = x.fields_are; no_comment = λ e. omega (arith, e) }
begins fields (event.Snap user path name) x = record { first = 110; front = codes "n"; more = x.user_field ∷ codes "snap" ∷ x.path_field ∷ x.second_field ∷ []; begin = x.fields_are; no_comment = λ e. omega (arith, e) }
begins fields (event.Unsnap user path name) x = record { first = 110; front = codes "n"; more = x.user_field ∷ codes "unsnap" ∷ x.path_field ∷ x.second_field ∷ []; begin = x.fields_are; no_comment = λ e. omega (arith, e) }
begins fields (event.Cancel user path) x = record { first = 110; front = codes "n"; more = x.user_field ∷ codes "cancel" ∷ x.path_field ∷ []; begin = x.fields_are; no_comment = λ e. omega (arith, e) }
begins fields (event.Status user path) x = record { first = 110; front = codes "n"; more = x.user_field ∷ codes "status" ∷ x.path_field ∷ []; begin = x.fields_are; no_comment = λ e. omega (arith, e) }
begins fields (event.Zones user) x = record { first = 110; front = codes "n"; more = x.user_field ∷ codes "zones" ∷ []; begin = x.fields_are; no_comment = λ e. omega (arith, e) }
begins fields (event.AskCreate user path) x = record { first = 97; front = codes "sk"; more = x.user_field ∷ codes "create" ∷ x.path_field ∷ []; begin = x.fields_are; no_comment = λ e. omega (arith, e) }
begins fields (event.AskZone user path key) x = record { first = 97; front = codes "sk"; more = x.user_field ∷ codes "zone" ∷ x.path_field ∷ key ∷ []; begin = x.fields_are; no_comment = λ e. omega (arith, e) }
begins fields (event.AskSubmit user path) x = record { first = 97; front = codes "sk"; more = x.user_field ∷ codes "submit" ∷ x.path_field ∷ []; begin = x.fields_are; no_comment = λ e. omega (arith, e) }
begins fields (event.Draw number) x = record { first = 100; front = codes "raw"; more = decimal number ∷ []; begin = x.fields_are; no_comment = λ e. omega (arith, e) }
begins fields (event.Finish number) x = record { first = 102; front = codes "inish"; more = decimal number ∷ []; begin = x.fields_are; no_comment = λ e. omega (arith, e) }
begins fields (event.Walk path) x = record { first = 119; front = codes "alk"; more = x.path_field ∷ []; begin = x.fields_are; no_comment = λ e. omega (arith, e) }
begins fields (event.Serve number) x = record { first = 115; front = codes "erve"; more = decimal number ∷ []; begin = x.fields_are; no_comment = λ e. omega (arith, e) }
begins fields (event.Deliver number) x = record { first = 100; front = codes "eliver"; more = decimal number ∷ []; begin = x.fields_are; no_comment = λ e. omega (arith, e) }
begins fields (event.GiveUp number) x = record { first = 103; front = codes "iveup"; more = decimal number ∷ []; begin = x.fields_are; no_comment = λ e. omega (arith, e) }

-- the first byte of a line begins its first field
first_byte : (b c : ℕ) (fields : List (List ℕ)) (more : List ℕ) (rest : List (List ℕ)) → onto_first b fields ≡ (c ∷ more) ∷ rest → b ≡ c
first_byte b c [] more rest is = cc
first_byte b c (f ∷ fs) more rest is = cc

none_of_empty : (c : ℕ) (more : List ℕ) (rest : List (List ℕ)) → fields_of [] ≡ (c ∷ more) ∷ rest → ⊥
none_of_empty c more rest is = cc

comment_first : (c : ℕ) (bs more : List ℕ) (rest : List (List ℕ)) (b : ℕ) → b ≡ 35 → fields_of (b ∷ bs) ≡ (c ∷ more) ∷ rest → 35 ≡ c
comment_first c bs more rest b quiet is =
    first_byte 35 c (fields_of bs) more rest (ap (λ d. fields_of (d ∷ bs)) (sym quiet) ∙ is)

-- a quiet line has no event
pub quiet_spells_none : (line : List ℕ) (event : Event) → IsQuietLine line → ¬ SpellsLine line event
quiet_spells_none [] event quiet = λ x.
    let b = begins (fields_of []) event x.fields in none_of_empty b.first b.front b.more b.begin
quiet_spells_none (c ∷ cs) event quiet = λ x.
    let b = begins (fields_of (c ∷ cs)) event x.fields in b.no_comment (sym (comment_first b.first cs b.front b.more c quiet.0 b.begin))
