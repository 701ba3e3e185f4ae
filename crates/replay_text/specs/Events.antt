-- The event text: the event of a line.
use Rattle.std.specs.Prelude.{◌≡◌, ℕ, ◌-◌, ◌^◌, ◌<◌, ◌≤◌, ◌⊎◌, ◌==◌, ◌&&◌, not, nat_le, Bool, true, false, All, List, [], ◌∷◌, length, codes, IsTrue, Option, None, Some, Ok, if◌then◌else◌}
use Rattle.std.specs.List.{slice_split}
use Rattle.std.specs.Str.{IsUtf8}
use Rattle.hex.specs.Hex.{decode_of, is_hex_digit}
use Rattle.percent_encoding.specs.Percent.{percent_decode}
use Rattle.std.specs.Fmt.{decimal}
use Rattle.hk_base.specs.Names.{IsKeyName, Version, version_text}
use Rattle.kms_calls.specs.declared.calls.RawEdek.{RawEdek}
use Rattle.kms_calls.specs.declared.calls.KmsCall.{KmsCall}
use Rattle.kms_calls.specs.declared.calls.KmsCall.TheVariants as call
use Rattle.hk_events.specs.declared.event.Event.{Event}
use Rattle.hk_events.specs.declared.event.Event.TheVariants as event

-- the greatest length of a line in bytes
abbrev pub longest_line : ℕ
longest_line = 1048576

abbrev pub is_space : ℕ → Bool
is_space b = b == 32

abbrev pub is_comma : ℕ → Bool
is_comma b = b == 44

abbrev pub is_colon : ℕ → Bool
is_colon b = b == 58

-- exactly one space between two fields of a line
abbrev pub fields_of : List ℕ → List (List ℕ)
fields_of line = slice_split is_space line

-- a byte that needs no escape: '!' to '~', except '%', ',' and ':'
abbrev pub is_plain : ℕ → Bool
is_plain b = nat_le 33 b && nat_le b 126 && not (b == 37) && not (b == 44) && not (b == 58)

-- an escape is '%' and two hexadecimal digits, of which `wanted` are missing
abbrev pub is_escaped_from : ℕ → List ℕ → Bool
is_escaped_from wanted [] = wanted == 0
is_escaped_from wanted (b ∷ bs) =
    if wanted == 0
    then (if b == 37 then is_escaped_from 2 bs else is_plain b && is_escaped_from 0 bs)
    else is_hex_digit b && is_escaped_from (wanted - 1) bs

-- the field is the text of the user: 1 to 255 bytes of UTF-8
pub record IsUser (field user : List ℕ) : Type 0 where
  pub escaped : IsTrue (is_escaped_from 0 field)
  pub decoded : percent_decode field ≡ user
  pub text : IsUtf8 user
  pub some : 0 < length user
  pub few : length user ≤ 255

-- 2 to 128 hexadecimal digits are material, or other bytes; two digits are one byte
pub record IsMaterial (field material : List ℕ) : Type 0 where
  pub some : 2 ≤ length field
  pub few : length field ≤ 128
  pub decoded : decode_of field ≡ Ok material

-- the field is the given material, or '-' if none is given
abbrev pub SpellsMaterial : List ℕ → Option (List ℕ) → Type 0
SpellsMaterial field None = field ≡ codes "-"
SpellsMaterial field (Some material) = IsMaterial field material

-- `create K BITS H`
pub record SpellsCreate (fields : List (List ℕ)) (name : List ℕ) (bits : ℕ) (material : Option (List ℕ)) (description : List ℕ) : Type 0 where
  pub material_field : List ℕ
  pub fields_are : fields ≡ codes "create" ∷ name ∷ decimal bits ∷ material_field ∷ []
  pub name_is : IsKeyName name
  pub small : bits < 2 ^ 32
  pub material_is : SpellsMaterial material_field material
  pub description_is : description ≡ []

-- `roll K H`
pub record SpellsRoll (fields : List (List ℕ)) (name : List ℕ) (material : Option (List ℕ)) : Type 0 where
  pub material_field : List ℕ
  pub fields_are : fields ≡ codes "roll" ∷ name ∷ material_field ∷ []
  pub name_is : IsKeyName name
  pub material_is : SpellsMaterial material_field material

-- this verb and `K`
pub record SpellsNamed (verb : List ℕ) (fields : List (List ℕ)) (name : List ℕ) : Type 0 where
  pub fields_are : fields ≡ verb ∷ name ∷ []
  pub name_is : IsKeyName name

-- `metadatas K,K`, one or more names
pub record SpellsMetadatas (fields names : List (List ℕ)) : Type 0 where
  pub list_field : List ℕ
  pub fields_are : fields ≡ codes "metadatas" ∷ list_field ∷ []
  pub names_are : slice_split is_comma list_field ≡ names
  pub each : All IsKeyName names

-- `version V`
pub record SpellsVersion (fields : List (List ℕ)) (version : Version) : Type 0 where
  pub fields_are : fields ≡ codes "version" ∷ version_text version.key version.number ∷ []
  pub key_is : IsKeyName version.key
  pub number_is : version.number < 2 ^ 16

-- `generate K N`
pub record SpellsGenerate (fields : List (List ℕ)) (name : List ℕ) (count : ℕ) : Type 0 where
  pub fields_are : fields ≡ codes "generate" ∷ name ∷ decimal count ∷ []
  pub name_is : IsKeyName name
  pub small : count < 2 ^ 32

-- `V`, `IV` and `H` of an encrypted data encryption key that is sent
pub record SpellsEdek (version iv sealed : List ℕ) (sent : RawEdek) : Type 0 where
  pub version_is : version ≡ version_text sent.version.key sent.version.number
  pub key_is : IsKeyName sent.version.key
  pub number_is : sent.version.number < 2 ^ 16
  pub iv_is : IsMaterial iv sent.iv
  pub sealed_is : IsMaterial sealed sent.sealed

-- this verb and `V IV H`; the key's name is that of the version
pub record SpellsSent (verb : List ℕ) (fields : List (List ℕ)) (name : List ℕ) (sent : RawEdek) : Type 0 where
  pub version_field : List ℕ
  pub iv_field : List ℕ
  pub sealed_field : List ℕ
  pub fields_are : fields ≡ verb ∷ version_field ∷ iv_field ∷ sealed_field ∷ []
  pub name_is : name ≡ sent.version.key
  pub edek_is : SpellsEdek version_field iv_field sealed_field sent

-- `V:IV:H`
pub record IsTriple (part : List ℕ) (sent : RawEdek) : Type 0 where
  pub version_field : List ℕ
  pub iv_field : List ℕ
  pub sealed_field : List ℕ
  pub fields_are : slice_split is_colon part ≡ version_field ∷ iv_field ∷ sealed_field ∷ []
  pub edek_is : SpellsEdek version_field iv_field sealed_field sent

abbrev pub AreTriples : List (List ℕ) → List RawEdek → Type 0
AreTriples [] [] = Unit {0}
AreTriples [] (sent ∷ more) = ⊥
AreTriples (part ∷ parts) [] = ⊥
AreTriples (part ∷ parts) (sent ∷ more) = IsTriple part sent × AreTriples parts more

-- `batch K V:IV:H,V:IV:H`, one or more triples
pub record SpellsBatch (fields : List (List ℕ)) (name : List ℕ) (sent : List RawEdek) : Type 0 where
  pub list_field : List ℕ
  pub fields_are : fields ≡ codes "batch" ∷ name ∷ list_field ∷ []
  pub name_is : IsKeyName name
  pub sent_are : AreTriples (slice_split is_comma list_field) sent

-- the fields after the user are the text of the call
abbrev pub SpellsCall : List (List ℕ) → KmsCall → Type 0
SpellsCall fields (call.Create name bits material description) = SpellsCreate fields name bits material description
SpellsCall fields (call.Roll name material) = SpellsRoll fields name material
SpellsCall fields (call.Delete name) = SpellsNamed (codes "delete") fields name
SpellsCall fields (call.Invalidate name) = SpellsNamed (codes "invalidate") fields name
SpellsCall fields (call.Metadata name) = SpellsNamed (codes "metadata") fields name
SpellsCall fields (call.Metadatas names) = SpellsMetadatas fields names
SpellsCall fields call.Names = fields ≡ codes "names" ∷ []
SpellsCall fields (call.Current name) = SpellsNamed (codes "current") fields name
SpellsCall fields (call.Versions name) = SpellsNamed (codes "versions") fields name
SpellsCall fields (call.Version version) = SpellsVersion fields version
SpellsCall fields (call.Generate name count) = SpellsGenerate fields name count
SpellsCall fields (call.Decrypt name sent) = SpellsSent (codes "decrypt") fields name sent
SpellsCall fields (call.Reencrypt name sent) = SpellsSent (codes "reencrypt") fields name sent
SpellsCall fields (call.Batch name sent) = SpellsBatch fields name sent

-- the calls that make or take encrypted data encryption keys
abbrev pub takes_edeks : KmsCall → Bool
takes_edeks (call.Create name bits material description) = false
takes_edeks (call.Roll name material) = false
takes_edeks (call.Delete name) = false
takes_edeks (call.Invalidate name) = false
takes_edeks (call.Metadata name) = false
takes_edeks (call.Metadatas names) = false
takes_edeks call.Names = false
takes_edeks (call.Current name) = false
takes_edeks (call.Versions name) = false
takes_edeks (call.Version version) = false
takes_edeks (call.Generate name count) = true
takes_edeks (call.Decrypt name sent) = true
takes_edeks (call.Reencrypt name sent) = true
takes_edeks (call.Batch name sent) = true

-- the field is the text of a path or of the name of a snapshot: of any bytes
pub record IsEscaped (field bytes : List ℕ) : Type 0 where
  pub escaped : IsTrue (is_escaped_from 0 field)
  pub decoded : percent_decode field ≡ bytes

-- `kms U` and a call
pub record SpellsKms (fields : List (List ℕ)) (user : List ℕ) (call : KmsCall) : Type 0 where
  pub user_field : List ℕ
  pub call_fields : List (List ℕ)
  pub fields_are : fields ≡ codes "kms" ∷ user_field ∷ call_fields
  pub user_is : IsUser user_field user
  pub call_is : SpellsCall call_fields call

-- `nn U`, this verb and a path
pub record SpellsPath (verb : List ℕ) (fields : List (List ℕ)) (user path : List ℕ) : Type 0 where
  pub user_field : List ℕ
  pub path_field : List ℕ
  pub fields_are : fields ≡ codes "nn" ∷ user_field ∷ verb ∷ path_field ∷ []
  pub user_is : IsUser user_field user
  pub path_is : IsEscaped path_field path

-- `nn U`, this verb, a path, and another path or the name of a snapshot
pub record SpellsTwoFields (verb : List ℕ) (fields : List (List ℕ)) (user path second : List ℕ) : Type 0 where
  pub user_field : List ℕ
  pub path_field : List ℕ
  pub second_field : List ℕ
  pub fields_are : fields ≡ codes "nn" ∷ user_field ∷ verb ∷ path_field ∷ second_field ∷ []
  pub user_is : IsUser user_field user
  pub path_is : IsEscaped path_field path
  pub second_is : IsEscaped second_field second

-- `nn U zones`
pub record SpellsZones (fields : List (List ℕ)) (user : List ℕ) : Type 0 where
  pub user_field : List ℕ
  pub fields_are : fields ≡ codes "nn" ∷ user_field ∷ codes "zones" ∷ []
  pub user_is : IsUser user_field user

-- deleting a directory with all below it is a verb of its own
abbrev pub delete_verb : Bool → List ℕ
delete_verb false = codes "delete"
delete_verb true = codes "rdelete"

-- `ask U`, this verb and a path
pub record SpellsAskPath (verb : List ℕ) (fields : List (List ℕ)) (user path : List ℕ) : Type 0 where
  pub user_field : List ℕ
  pub path_field : List ℕ
  pub fields_are : fields ≡ codes "ask" ∷ user_field ∷ verb ∷ path_field ∷ []
  pub user_is : IsUser user_field user
  pub path_is : IsEscaped path_field path

-- `ask U zone P K`
pub record SpellsAskZone (fields : List (List ℕ)) (user path key : List ℕ) : Type 0 where
  pub user_field : List ℕ
  pub path_field : List ℕ
  pub fields_are : fields ≡ codes "ask" ∷ user_field ∷ codes "zone" ∷ path_field ∷ key ∷ []
  pub user_is : IsUser user_field user
  pub path_is : IsEscaped path_field path
  pub key_is : IsKeyName key

-- `walk P`
pub record SpellsWalk (fields : List (List ℕ)) (path : List ℕ) : Type 0 where
  pub path_field : List ℕ
  pub fields_are : fields ≡ codes "walk" ∷ path_field ∷ []
  pub path_is : IsEscaped path_field path

-- no event that begins with `ask`
abbrev pub SpellsNoAsk : List (List ℕ) → Type 0
SpellsNoAsk fields =
    ((user path : List ℕ) → ¬ SpellsAskPath (codes "create") fields user path)
    × (((user path : List ℕ) → ¬ SpellsAskPath (codes "submit") fields user path)
    × ((user path key : List ℕ) → ¬ SpellsAskZone fields user path key))

-- this verb and the number of a ticket, ask, reply or batch, below 2^32
pub record SpellsKept (verb : List ℕ) (fields : List (List ℕ)) (number : ℕ) : Type 0 where
  pub fields_are : fields ≡ verb ∷ decimal number ∷ []
  pub small : number < 2 ^ 32

-- `ticket` alone
abbrev pub SpellsTicket : List (List ℕ) → Type 0
SpellsTicket fields = fields ≡ codes "ticket" ∷ []

-- `restart kms` and `restart nn`
abbrev pub SpellsRestart : List ℕ → List (List ℕ) → Type 0
SpellsRestart service fields = fields ≡ codes "restart" ∷ service ∷ []

-- the fields of a line are the text of the event
abbrev pub SpellsEvent : List (List ℕ) → Event → Type 0
SpellsEvent fields (event.Kms user call) = SpellsKms fields user call
SpellsEvent fields event.Ticket = SpellsTicket fields
SpellsEvent fields (event.Deposit ticket) = SpellsKept (codes "deposit") fields ticket
SpellsEvent fields event.RestartKms = SpellsRestart (codes "kms") fields
SpellsEvent fields event.RestartName = SpellsRestart (codes "nn") fields
SpellsEvent fields (event.Mkdir user path) = SpellsPath (codes "mkdir") fields user path
SpellsEvent fields (event.Delete user path recursive) = SpellsPath (delete_verb recursive) fields user path
SpellsEvent fields (event.Rename user path to) = SpellsTwoFields (codes "rename") fields user path to
SpellsEvent fields (event.Info user path) = SpellsPath (codes "info") fields user path
SpellsEvent fields (event.List user path) = SpellsPath (codes "list") fields user path
SpellsEvent fields (event.Allow user path) = SpellsPath (codes "allow") fields user path
SpellsEvent fields (event.Disallow user path) = SpellsPath (codes "disallow") fields user path
SpellsEvent fields (event.Snap user path name) = SpellsTwoFields (codes "snap") fields user path name
SpellsEvent fields (event.Unsnap user path name) = SpellsTwoFields (codes "unsnap") fields user path name
SpellsEvent fields (event.Cancel user path) = SpellsPath (codes "cancel") fields user path
SpellsEvent fields (event.Status user path) = SpellsPath (codes "status") fields user path
SpellsEvent fields (event.Zones user) = SpellsZones fields user
SpellsEvent fields (event.AskCreate user path) = SpellsAskPath (codes "create") fields user path
SpellsEvent fields (event.AskZone user path key) = SpellsAskZone fields user path key
SpellsEvent fields (event.AskSubmit user path) = SpellsAskPath (codes "submit") fields user path
SpellsEvent fields (event.Draw ask) = SpellsKept (codes "draw") fields ask
SpellsEvent fields (event.Finish reply) = SpellsKept (codes "finish") fields reply
SpellsEvent fields (event.Walk path) = SpellsWalk fields path
SpellsEvent fields (event.Serve batch) = SpellsKept (codes "serve") fields batch
SpellsEvent fields (event.Deliver reply) = SpellsKept (codes "deliver") fields reply
SpellsEvent fields (event.GiveUp batch) = SpellsKept (codes "giveup") fields batch

-- the line is the text of the event
pub record SpellsLine (line : List ℕ) (event : Event) : Type 0 where
  pub short : length line ≤ longest_line
  pub fields : SpellsEvent (fields_of line) event

-- the verbs that take a path alone, and the event of each
abbrev pub IsPathVerb : List ℕ → Type 0
IsPathVerb verb =
    (verb ≡ codes "mkdir") ⊎ (verb ≡ codes "delete") ⊎ (verb ≡ codes "rdelete") ⊎ (verb ≡ codes "info") ⊎ (verb ≡ codes "list")
    ⊎ (verb ≡ codes "allow") ⊎ (verb ≡ codes "disallow") ⊎ (verb ≡ codes "cancel") ⊎ (verb ≡ codes "status")

abbrev pub IsPathEvent : List ℕ → List ℕ → List ℕ → Event → Type 0
IsPathEvent verb user path e =
    ((verb ≡ codes "mkdir") × (e ≡ event.Mkdir user path)) ⊎ ((verb ≡ codes "delete") × (e ≡ event.Delete user path false))
    ⊎ ((verb ≡ codes "rdelete") × (e ≡ event.Delete user path true)) ⊎ ((verb ≡ codes "info") × (e ≡ event.Info user path)) ⊎ ((verb ≡ codes "list") × (e ≡ event.List user path))
    ⊎ ((verb ≡ codes "allow") × (e ≡ event.Allow user path)) ⊎ ((verb ≡ codes "disallow") × (e ≡ event.Disallow user path))
    ⊎ ((verb ≡ codes "cancel") × (e ≡ event.Cancel user path)) ⊎ ((verb ≡ codes "status") × (e ≡ event.Status user path))

-- the verbs that take a path, and another path or the name of a snapshot, and the event of each
abbrev pub IsTwoFieldVerb : List ℕ → Type 0
IsTwoFieldVerb verb = (verb ≡ codes "rename") ⊎ (verb ≡ codes "snap") ⊎ (verb ≡ codes "unsnap")

abbrev pub IsTwoFieldEvent : List ℕ → List ℕ → List ℕ → List ℕ → Event → Type 0
IsTwoFieldEvent verb user path second e =
    ((verb ≡ codes "rename") × (e ≡ event.Rename user path second)) ⊎ ((verb ≡ codes "snap") × (e ≡ event.Snap user path second))
    ⊎ ((verb ≡ codes "unsnap") × (e ≡ event.Unsnap user path second))

-- the verbs that take a number alone, and the event of each
abbrev pub IsNumberVerb : List ℕ → Type 0
IsNumberVerb verb =
    (verb ≡ codes "deposit") ⊎ (verb ≡ codes "draw") ⊎ (verb ≡ codes "finish") ⊎ (verb ≡ codes "serve") ⊎ (verb ≡ codes "deliver") ⊎ (verb ≡ codes "giveup")

abbrev pub IsNumberEvent : List ℕ → ℕ → Event → Type 0
IsNumberEvent verb number e =
    ((verb ≡ codes "deposit") × (e ≡ event.Deposit number)) ⊎ ((verb ≡ codes "draw") × (e ≡ event.Draw number)) ⊎ ((verb ≡ codes "finish") × (e ≡ event.Finish number))
    ⊎ ((verb ≡ codes "serve") × (e ≡ event.Serve number)) ⊎ ((verb ≡ codes "deliver") × (e ≡ event.Deliver number)) ⊎ ((verb ≡ codes "giveup") × (e ≡ event.GiveUp number))

-- the line is empty or a comment: its first byte is '#'
abbrev pub IsQuietLine : List ℕ → Type 0
IsQuietLine [] = Unit {0}
IsQuietLine (b ∷ bs) = (b ≡ 35) × (length (b ∷ bs) ≤ longest_line)

-- the line is not quiet and not the text of an event
pub record IsBad (line : List ℕ) : Type 0 where
  pub not_quiet : ¬ IsQuietLine line
  pub no_event : (event : Event) → ¬ SpellsLine line event
