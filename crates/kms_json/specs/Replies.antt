-- The one text of a reply: compact JSON, with the members of each object in byte order of their names.
use Rattle.std.specs.Prelude.{ℕ, List, [], Option, None, Some, map, codes}
use Rattle.serde_json.specs.Data.{Data, Members, array, member, no_members, number, object, string, unsigned}
use Rattle.serde_json.specs.View.{items_of}
use Rattle.serde_json.specs.Written.{compact_text}
use Rattle.base64.specs.GeneralPurpose.{encode_of}
use Rattle.base64.specs.Engines.{url_safe_no_pad}
use Rattle.hk_base.specs.Names.{Encrypted, Version, version_text}
use Rattle.kms_calls.specs.Refusals.{refusal_text}
use Rattle.kms_calls.specs.Shown.{Shown}
use Rattle.kms_calls.specs.declared.calls.KeyMeta.{KeyMeta}
use Rattle.kms_calls.specs.declared.calls.KmsRefusal.{KmsRefusal}
use Rattle.kms_calls.specs.declared.calls.KmsRefusal.TheVariants as refusal
use Rattle.kms_calls.specs.declared.calls.KmsReply.{KmsReply}
use Rattle.kms_calls.specs.declared.calls.KmsReply.TheVariants as reply

-- bytes in the URL-safe alphabet of RFC 4648, without padding
abbrev pub bytes_data : List ℕ → Data
bytes_data bytes = string (encode_of url_safe_no_pad bytes)

abbrev pub version_data : Version → Data
version_data version = string (version_text version.key version.number)

-- the member `name` of a version
abbrev pub name_of_version : Version → Members
name_of_version version = member (codes "name") (version_data version) no_members

-- a version, with its material unless it is hidden
abbrev pub shown_data : Version → Option (List ℕ) → Data
shown_data version None = object (name_of_version version)
shown_data version (Some material) = object (member (codes "material") (bytes_data material) (name_of_version version))

abbrev pub row_data : Shown → Data
row_data row = shown_data row.version row.material

abbrev pub sealed_data : List ℕ → Data
sealed_data sealed = object (member (codes "material") (bytes_data sealed) (member (codes "versionName") (string (codes "EEK")) no_members))

abbrev pub edek_data : Encrypted → Data
edek_data edek =
    object (member (codes "encryptedKeyVersion") (sealed_data edek.sealed)
    (member (codes "iv") (bytes_data edek.iv) (member (codes "versionName") (version_data edek.version) no_members)))

abbrev pub key_data : List ℕ → Data
key_data key = object (member (codes "material") (bytes_data key) (member (codes "name") (string (codes "EK")) no_members))

abbrev pub number_data : ℕ → Data
number_data n = number (unsigned n)

abbrev pub meta_data : KeyMeta → Data
meta_data meta =
    object (member (codes "cipher") (string (codes "AES/CTR/NoPadding")) (member (codes "created") (number_data meta.created)
    (member (codes "description") (string meta.description) (member (codes "length") (number_data meta.bits)
    (member (codes "name") (string meta.name) (member (codes "versions") (number_data meta.versions) no_members))))))

abbrev pub refusal_name : KmsRefusal → List ℕ
refusal_name refusal.BadRequest = codes "BadRequest"
refusal_name refusal.NoUser = codes "NoUser"
refusal_name (refusal.Denied list op) = codes "Denied"
refusal_name refusal.NoSuchKey = codes "NoSuchKey"
refusal_name refusal.NoSuchVersion = codes "NoSuchVersion"
refusal_name refusal.KeyExists = codes "KeyExists"
refusal_name refusal.WrongKey = codes "WrongKey"
refusal_name refusal.BadMaterial = codes "BadMaterial"
refusal_name refusal.BadLength = codes "BadLength"
refusal_name refusal.TooManyKeys = codes "TooManyKeys"
refusal_name refusal.TooManyVersions = codes "TooManyVersions"
refusal_name refusal.TooManyAsked = codes "TooManyAsked"
refusal_name refusal.NoMemory = codes "NoMemory"
refusal_name refusal.StoreFault = codes "StoreFault"

abbrev pub exception_data : KmsRefusal → Data
exception_data why =
    object (member (codes "exception") (string (refusal_name why)) (member (codes "message") (string (refusal_text why)) no_members))

abbrev pub refusal_data : KmsRefusal → Data
refusal_data why = object (member (codes "RemoteException") (exception_data why) no_members)

abbrev pub list_data : {A : Type 0} → (A → Data) → List A → Data
list_data data_of rows = array (items_of (map data_of rows))

abbrev pub reply_data : KmsReply → Option Data
reply_data (reply.Version version material) = Some (shown_data version material)
reply_data reply.Done = None
reply_data (reply.Metadata meta) = Some (meta_data meta)
reply_data (reply.Metadatas metas) = Some (list_data meta_data metas)
reply_data (reply.Names names) = Some (list_data string names)
reply_data (reply.Versions versions) = Some (list_data row_data versions)
reply_data (reply.Ready edeks) = Some (list_data edek_data edeks)
reply_data (reply.Resealed edek) = Some (edek_data edek)
reply_data (reply.Key key) = Some (key_data key)
reply_data (reply.Refused why) = Some (refusal_data why)

-- the text of a value; without a value it is empty
abbrev pub text_of : Option Data → List ℕ
text_of None = []
text_of (Some d) = compact_text d

abbrev pub reply_text : KmsReply → List ℕ
reply_text r = text_of (reply_data r)
