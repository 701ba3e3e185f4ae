-- The call that an operation makes of the open part of its path, its query and its body; and when it makes none.
use Rattle.std.specs.Prelude.{◌≡◌, ◌≢◌, ◌≤◌, ◌<◌, ◌^◌, ◌⊎◌, ◌&&◌, nat_lt, ℕ, Bool, List, [], ◌∷◌, length, codes, Option, None, Some, Result, Ok, Err, All, IsTrue, ⊤}
use Rattle.std.specs.Char.{is_ascii_digit}
use Rattle.std.specs.List.{list_all}
use Rattle.std.specs.Str.Parse.{digits_value}
use Rattle.serde_json.specs.Data.{Data}
use Rattle.hk_base.specs.Names.{IsKeyName, Version, version_text}
use Rattle.kms_calls.specs.declared.calls.KmsCall.{KmsCall}
use Rattle.kms_calls.specs.declared.calls.KmsCall.TheVariants as call
use Rattle.kms_calls.specs.declared.calls.RawEdek.{RawEdek}
use Rattle.kms_json.specs.declared.eek.EekBody.{EekBody}
use Rattle.kms_json.specs.declared.faults.JsonFault.{JsonFault}
use Rattle.kms_json.specs.declared.faults.JsonFault.TheVariants as json
use Rattle.kms_json.specs.Bodies.{IsReadingOf, batch_of, create_of, eek_of, or_no_members, roll_of}
use Rattle.path_routes.specs.declared.query.Parameter.{Parameter}
use Rattle.path_routes.specs.Queries.{values}
use Rattle.kms_rest.specs.declared.calls.EekOperation.{EekOperation}
use Rattle.kms_rest.specs.declared.calls.EekOperation.TheVariants as eek_op
use Rattle.kms_rest.specs.declared.faults.RestFault.{RestFault}
use Rattle.kms_rest.specs.declared.faults.RestFault.TheVariants as fault
use Rattle.kms_rest.specs.declared.operation.Operation.{Operation}
use Rattle.kms_rest.specs.declared.operation.Operation.TheVariants as op

-- the body has a fault other than lack of memory
abbrev pub IsFaultyBody : {A : Type 0} → (Data → Result A JsonFault) → List ℕ → Type 0
IsFaultyBody reading body = (why : JsonFault) × ((why ≢ json.NoMemory) × IsReadingOf reading body (Err why))

-- the text is the text of the version
abbrev pub NamesVersion : List ℕ → Version → Type 0
NamesVersion text version = IsKeyName version.key × ((version.number < 2 ^ 16) × (text ≡ version_text version.key version.number))

abbrev pub NamesNoVersion : List ℕ → Type 0
NamesNoVersion text = (version : Version) → ¬ NamesVersion text version

-- ---- the parameters of the query

abbrev pub operation_values : List Parameter → List (List ℕ)
operation_values ps = values (codes "eek_op") ps

abbrev pub count_values : List Parameter → List (List ℕ)
count_values ps = values (codes "num_keys") ps

abbrev pub key_values : List Parameter → List (List ℕ)
key_values ps = values (codes "key") ps

-- decimal digits, at least one
abbrev pub is_count : List ℕ → Bool
is_count text = nat_lt 0 (length text) && list_all is_ascii_digit text

abbrev pub IsCount : List ℕ → ℕ → Type 0
IsCount text count = IsTrue (is_count text) × ((digits_value 10 text ≡ count) × (count < 2 ^ 32))

-- the number of keys to generate: one by default
abbrev pub CountsKeys : List (List ℕ) → ℕ → Type 0
CountsKeys [] count = count ≡ 1
CountsKeys (text ∷ more) count = (more ≡ []) × IsCount text count

-- `eek_op` and `num_keys` are given at most once, for each operation
abbrev pub AreGivenOnce : List Parameter → Type 0
AreGivenOnce ps = (length (operation_values ps) ≤ 1) × (length (count_values ps) ≤ 1)

-- ---- calls

abbrev pub edek_of : Version → EekBody → RawEdek
edek_of version eek = record { version = version; iv = eek.iv; sealed = eek.sealed }

-- the call for an encrypted key, by `eek_op`
abbrev pub AsksEek : List (List ℕ) → Version → EekBody → KmsCall → Type 0
AsksEek found version eek asked =
    ((found ≡ codes "decrypt" ∷ []) × (asked ≡ call.Decrypt eek.name (edek_of version eek)))
    ⊎ ((found ≡ codes "reencrypt" ∷ []) × (asked ≡ call.Reencrypt eek.name (edek_of version eek)))

-- The part names a version, the query an operation on it, and the body gives the encrypted key.
pub record AsksOfEek (part : List ℕ) (ps : List Parameter) (body : List ℕ) (asked : KmsCall) : Type 0 where
  pub version : Version
  pub eek : EekBody
  pub named : NamesVersion part version
  pub stands : IsReadingOf eek_of body (Ok eek)
  pub asks : AsksEek (operation_values ps) version eek asked

-- The part names a key, and the query says how many keys to generate.
pub record AsksToGenerate (part : List ℕ) (ps : List Parameter) (asked : KmsCall) : Type 0 where
  pub count : ℕ
  pub name : IsKeyName part
  pub generate : operation_values ps ≡ codes "generate" ∷ []
  pub counts : CountsKeys (count_values ps) count
  pub is : asked ≡ call.Generate part count

-- the part is the name of a key, and this is the call
abbrev pub AsksOfKey : List ℕ → KmsCall → KmsCall → Type 0
AsksOfKey part asked is = IsKeyName part × (asked ≡ is)

-- the call of an operation
abbrev pub AsksBy : Operation → List ℕ → List Parameter → List ℕ → KmsCall → Type 0
AsksBy op.Create part ps body asked = IsReadingOf create_of body (Ok asked)
AsksBy op.Roll part ps body asked = IsKeyName part × IsReadingOf (roll_of part) (or_no_members body) (Ok asked)
AsksBy op.Delete part ps body asked = AsksOfKey part asked (call.Delete part)
AsksBy op.Invalidate part ps body asked = AsksOfKey part asked (call.Invalidate part)
AsksBy op.Metadata part ps body asked = AsksOfKey part asked (call.Metadata part)
AsksBy op.Current part ps body asked = AsksOfKey part asked (call.Current part)
AsksBy op.Versions part ps body asked = AsksOfKey part asked (call.Versions part)
AsksBy op.Generate part ps body asked = AsksToGenerate part ps asked
AsksBy op.Batch part ps body asked = IsKeyName part × IsReadingOf (batch_of part) body (Ok asked)
AsksBy op.Version part ps body asked = (version : Version) × (NamesVersion part version × (asked ≡ call.Version version))
AsksBy op.Eek part ps body asked = AsksOfEek part ps body asked
AsksBy op.Names part ps body asked = asked ≡ call.Names
AsksBy op.Metadatas part ps body asked = (key_values ps ≢ []) × (All IsKeyName (key_values ps) × (asked ≡ call.Metadatas (key_values ps)))

-- the version, the operation on the encrypted key, or the encrypted key is missing or wrong
abbrev pub AsksNoEek : List ℕ → List Parameter → List ℕ → Type 0
AsksNoEek part ps body =
    NamesNoVersion part
    ⊎ (((operation_values ps ≢ codes "decrypt" ∷ []) × (operation_values ps ≢ codes "reencrypt" ∷ []))
    ⊎ IsFaultyBody eek_of body)

abbrev pub AsksNotToGenerate : List ℕ → List Parameter → Type 0
AsksNotToGenerate part ps =
    ¬ IsKeyName part
    ⊎ ((operation_values ps ≢ codes "generate" ∷ [])
    ⊎ ((count : ℕ) → ¬ CountsKeys (count_values ps) count))

-- when an operation makes no call: a bad name, a query without what it needs, or a body with a fault
abbrev pub AsksNothingBy : Operation → List ℕ → List Parameter → List ℕ → Type 0
AsksNothingBy op.Create part ps body = IsFaultyBody create_of body
AsksNothingBy op.Roll part ps body = ¬ IsKeyName part ⊎ IsFaultyBody (roll_of part) (or_no_members body)
AsksNothingBy op.Delete part ps body = ¬ IsKeyName part
AsksNothingBy op.Invalidate part ps body = ¬ IsKeyName part
AsksNothingBy op.Metadata part ps body = ¬ IsKeyName part
AsksNothingBy op.Current part ps body = ¬ IsKeyName part
AsksNothingBy op.Versions part ps body = ¬ IsKeyName part
AsksNothingBy op.Generate part ps body = AsksNotToGenerate part ps
AsksNothingBy op.Batch part ps body = ¬ IsKeyName part ⊎ IsFaultyBody (batch_of part) body
AsksNothingBy op.Version part ps body = NamesNoVersion part
AsksNothingBy op.Eek part ps body = AsksNoEek part ps body
AsksNothingBy op.Names part ps body = ⊥
AsksNothingBy op.Metadatas part ps body = (key_values ps ≡ []) ⊎ ¬ All IsKeyName (key_values ps)

-- what a part, a query and a body mean under an operation
abbrev pub SaysCall : Operation → List ℕ → List Parameter → List ℕ → Result KmsCall RestFault → Type 0
SaysCall operation part ps body (Ok asked) = AsksBy operation part ps body asked
SaysCall operation part ps body (Err fault.BadRequest) = AsksNothingBy operation part ps body
SaysCall operation part ps body (Err fault.NoMemory) = ⊤
SaysCall operation part ps body (Err fault.NoRoute) = ⊥
SaysCall operation part ps body (Err fault.BadMethod) = ⊥
SaysCall operation part ps body (Err fault.NoUser) = ⊥

-- ---- by the code's types

-- the fault of a request for a fault of its body
abbrev pub fault_of : JsonFault → RestFault
fault_of json.NotJson = fault.BadRequest
fault_of (json.Missing m) = fault.BadRequest
fault_of (json.BadBase64 m) = fault.BadRequest
fault_of (json.BadValue m) = fault.BadRequest
fault_of json.NoMemory = fault.NoMemory

-- the operation on an encrypted key, by the values of `eek_op`
abbrev pub IsEekOperation : List (List ℕ) → Option EekOperation → Type 0
IsEekOperation found None = (found ≢ codes "decrypt" ∷ []) × (found ≢ codes "reencrypt" ∷ [])
IsEekOperation found (Some eek_op.Decrypt) = found ≡ codes "decrypt" ∷ []
IsEekOperation found (Some eek_op.Reencrypt) = found ≡ codes "reencrypt" ∷ []

abbrev pub eek_call : EekOperation → Version → EekBody → KmsCall
eek_call eek_op.Decrypt version eek = call.Decrypt eek.name (edek_of version eek)
eek_call eek_op.Reencrypt version eek = call.Reencrypt eek.name (edek_of version eek)

-- the call for these names, if there are any
abbrev pub SaysMetadatas : List (List ℕ) → Result KmsCall RestFault → Type 0
SaysMetadatas names (Ok asked) = (names ≢ []) × (asked ≡ call.Metadatas names)
SaysMetadatas names (Err why) = (names ≡ []) × (why ≡ fault.BadRequest)
