-- The texts of access control lists.
use Rattle.std.specs.Prelude.{◌≡◌, ◌≢◌, ◌⊎◌, ℕ, ◌<◌, ◌≤◌, ◌==◌, not, ◌&&◌, Bool, true, false, List, [], ◌∷◌, length, codes, All, IsTrue}
use Rattle.std.specs.List.{slice_split, list_all}
use Rattle.std.specs.Str.{IsUtf8}
use Rattle.prop_text.specs.declared.acls.Acl.{Acl}

abbrev pub is_comma : ℕ → Bool
is_comma b = b == 44

abbrev pub is_space : ℕ → Bool
is_space b = b == 32

-- not a space and not a comma
abbrev pub is_plain : ℕ → Bool
is_plain b = not (is_space b) && not (is_comma b)

-- a user or a group: 1 to 255 bytes of UTF-8 without spaces and commas
pub record IsName (bytes : List ℕ) : Type 0 where
  pub some : 0 < length bytes
  pub few : length bytes ≤ 255
  pub plain : IsTrue (list_all is_plain bytes)
  pub text : IsUtf8 bytes

-- the parts between commas; empty bytes have no parts
abbrev pub comma_parts : List ℕ → List (List ℕ)
comma_parts [] = []
comma_parts (b ∷ bs) = slice_split is_comma (b ∷ bs)

-- the bytes list these names
pub record SpellsNames (bytes : List ℕ) (names : List (List ℕ)) : Type 0 where
  pub parts : comma_parts bytes ≡ names
  pub each : All IsName names

-- one part lists users, and two list users and groups
abbrev pub SpellsParts : List (List ℕ) → List (List ℕ) → List (List ℕ) → Type 0
SpellsParts [] users groups = ⊥
SpellsParts (first ∷ []) users groups = SpellsNames first users × (groups ≡ [])
SpellsParts (first ∷ second ∷ []) users groups = SpellsNames first users × SpellsNames second groups
SpellsParts (first ∷ second ∷ third ∷ more) users groups = ⊥

abbrev pub everybody_text : List ℕ
everybody_text = codes "*"

-- `*`
pub record SpellsEverybody (bytes : List ℕ) (acl : Acl) : Type 0 where
  pub star : bytes ≡ everybody_text
  pub everybody : acl.everybody ≡ true
  pub no_users : acl.users ≡ []
  pub no_groups : acl.groups ≡ []

-- anything else: users, or users, a space and groups
pub record SpellsSome (bytes : List ℕ) (acl : Acl) : Type 0 where
  pub no_star : bytes ≢ everybody_text
  pub not_everybody : acl.everybody ≡ false
  pub parts : SpellsParts (slice_split is_space bytes) acl.users acl.groups

-- the bytes are a text of the access control list
abbrev pub SpellsAcl : List ℕ → Acl → Type 0
SpellsAcl bytes acl = SpellsEverybody bytes acl ⊎ SpellsSome bytes acl
