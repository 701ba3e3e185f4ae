-- The properties file: its lines, the meaning of each, and the first fault.
use Rattle.std.specs.Prelude.{◌≡◌, ◌⊎◌, ℕ, ◌+◌, ◌<◌, ◌≤◌, ◌==◌, Bool, true, false, List, [], ◌∷◌, ◌++◌, length, take, drop, position, Option, None, Some, if◌then◌else◌}
use Rattle.std.specs.List.{slice_split, flat_map, list_any, IsDistinct}
use Rattle.std.specs.Option.{option_map}
use Rattle.std.specs.Str.{bytes_eq, IsUtf8}
use Rattle.std.specs.Fmt.{decimal}
use Rattle.prop_text.specs.Acls.{SpellsAcl, SpellsNames}
use Rattle.prop_text.specs.Names.{before, behind, group_front, setting_of}
use Rattle.prop_text.specs.Sizes.{sizes_of}
use Rattle.prop_text.specs.declared.acls.Acl.{Acl}
use Rattle.prop_text.specs.declared.lines.PropLine.{PropLine}
use Rattle.prop_text.specs.declared.lines.PropLine.TheVariants as line
use Rattle.prop_text.specs.declared.props.Props.{Props}
use Rattle.prop_text.specs.declared.faults.PropFault.{PropFault}
use Rattle.prop_text.specs.declared.faults.PropFault.TheVariants as fault
use Rattle.prop_text.specs.declared.setting.AclPlace.{AclPlace}
use Rattle.prop_text.specs.declared.setting.AclPlace.TheVariants as place
use Rattle.prop_text.specs.declared.setting.SizeName.{SizeName}
use Rattle.prop_text.specs.declared.setting.SizeName.TheVariants as size
use Rattle.prop_text.specs.declared.setting.Setting.{Setting}
use Rattle.prop_text.specs.declared.setting.Setting.TheVariants as setting

-- the greatest length of a text in bytes
abbrev pub longest_text : ℕ
longest_text = 1048576

abbrev pub is_lf : ℕ → Bool
is_lf b = b == 10

abbrev pub or_all : Option (List ℕ) → List ℕ → List ℕ
or_all None bytes = bytes
or_all (Some some) bytes = some

-- without one carriage return at the end, if there is one
abbrev pub without_cr : List ℕ → List ℕ
without_cr bytes = or_all (before (13 ∷ []) bytes) bytes

-- the last part has no LF at its end, and keeps its carriage return
abbrev pub ended : List (List ℕ) → List (List ℕ)
ended [] = []
ended (last ∷ []) = last ∷ []
ended (part ∷ next ∷ more) = without_cr part ∷ ended (next ∷ more)

-- the lines of a text; the part after the last LF is one too
abbrev pub lines_of : List ℕ → List (List ℕ)
lines_of text = ended (slice_split is_lf text)

-- an empty line or a comment sets nothing
abbrev pub is_quiet : List ℕ → Bool
is_quiet [] = true
is_quiet (b ∷ bs) = b == 35

abbrev pub is_equals : ℕ → Bool
is_equals b = b == 61

-- name and value, split at the first `=`
abbrev pub cut_at_equals : List ℕ → Option (List ℕ × List ℕ)
cut_at_equals line = option_map (λ n. (take n line, drop (n + 1) line)) (position is_equals line)

-- the line that sets a list
abbrev pub acl_line : AclPlace → Acl → PropLine
acl_line (place.Service op) acl = line.Service op acl
acl_line (place.Blacklist op) acl = line.Blacklist op acl
acl_line (place.Key key op) acl = line.Key key op acl
acl_line (place.KeyAll key) acl = line.KeyAll key acl
acl_line (place.Default op) acl = line.Default op acl
acl_line (place.Whitelist op) acl = line.Whitelist op acl

abbrev pub size_line : SizeName → ℕ → PropLine
size_line size.QueueSize n = line.QueueSize n
size_line size.QueueWatermark n = line.QueueWatermark n
size_line size.BatchSize n = line.BatchSize n
size_line size.CacheSize n = line.CacheSize n

-- the greatest value of a size
abbrev pub most : SizeName → ℕ
most size.QueueSize = 10000
most size.QueueWatermark = 10000
most size.BatchSize = 1000
most size.CacheSize = 65535

pub record SpellsList (place : AclPlace) (value : List ℕ) (prop : PropLine) : Type 0 where
  pub acl : Acl
  pub value_is : SpellsAcl value acl
  pub prop_is : prop ≡ acl_line place acl

-- the group's name is UTF-8, like its users' names
pub record SpellsGroup (name value : List ℕ) (prop : PropLine) : Type 0 where
  pub group : List ℕ
  pub users : List (List ℕ)
  pub group_is : behind group_front name ≡ Some group
  pub text : IsUtf8 group
  pub value_is : SpellsNames value users
  pub prop_is : prop ≡ line.Group group users

pub record SpellsSize (which : SizeName) (value : List ℕ) (prop : PropLine) : Type 0 where
  pub number : ℕ
  pub some : 1 ≤ number
  pub few : number ≤ most which
  pub value_is : value ≡ decimal number
  pub prop_is : prop ≡ size_line which number

-- the property that a value gives to a name that sets this
abbrev pub SpellsValue : Setting → List ℕ → List ℕ → PropLine → Type 0
SpellsValue (setting.List place) name value prop = SpellsList place value prop
SpellsValue setting.Group name value prop = SpellsGroup name value prop
SpellsValue (setting.Size which) name value prop = SpellsSize which value prop

-- the line sets a known name to a value
pub record Sets (line name value : List ℕ) (what : Setting) : Type 0 where
  pub not_quiet : is_quiet line ≡ false
  pub cut : cut_at_equals line ≡ Some (name, value)
  pub known : setting_of name ≡ Some what

pub record SaysProperty (line : List ℕ) (prop : PropLine) : Type 0 where
  pub name : List ℕ
  pub value : List ℕ
  pub what : Setting
  pub sets : Sets line name value what
  pub value_is : SpellsValue what name value prop

-- the properties that lines set, in order; quiet lines set none
abbrev pub SayAll : List (List ℕ) → List PropLine → Type 0
SayAll [] props = props ≡ []
SayAll (line ∷ lines) props = ((is_quiet line ≡ true) × SayAll lines props) ⊎ ((prop : PropLine) × (rest : List PropLine) × SaysProperty line prop × SayAll lines rest × (props ≡ prop ∷ rest))

abbrev pub name_part : Option (List ℕ × List ℕ) → List (List ℕ)
name_part None = []
name_part (Some parts) = parts.0 ∷ []

abbrev pub name_set : List ℕ → List (List ℕ)
name_set line = if is_quiet line then [] else name_part (cut_at_equals line)

-- the names that lines set
abbrev pub names_set : List (List ℕ) → List (List ℕ)
names_set lines = flat_map name_set lines

abbrev pub is_among : List ℕ → List (List ℕ) → Bool
is_among name names = list_any (bytes_eq name) names

-- a line without `=`
pub record IsUncut (line : List ℕ) : Type 0 where
  pub not_quiet : is_quiet line ≡ false
  pub cut : cut_at_equals line ≡ None

-- a known name that no earlier line set, with a value that is not allowed for it
pub record IsBadValue (earlier : List (List ℕ)) (line : List ℕ) : Type 0 where
  pub name : List ℕ
  pub value : List ℕ
  pub what : Setting
  pub sets : Sets line name value what
  pub first : is_among name earlier ≡ false
  pub bad : (prop : PropLine) → ¬ SpellsValue what name value prop

abbrev pub IsBadLine : List (List ℕ) → List ℕ → Type 0
IsBadLine earlier line = IsUncut line ⊎ IsBadValue earlier line

-- a known name that an earlier line set
pub record IsRepeated (earlier : List (List ℕ)) (line : List ℕ) : Type 0 where
  pub name : List ℕ
  pub value : List ℕ
  pub what : Setting
  pub sets : Sets line name value what
  pub again : is_among name earlier ≡ true

-- an unknown name
pub record IsUnknownName (earlier : List (List ℕ)) (line : List ℕ) : Type 0 where
  pub name : List ℕ
  pub value : List ℕ
  pub not_quiet : is_quiet line ≡ false
  pub cut : cut_at_equals line ≡ Some (name, value)
  pub unknown : setting_of name ≡ None

-- the lines set these properties, and no name is set twice
pub record ReadsAs (lines : List (List ℕ)) (props : List PropLine) : Type 0 where
  pub say : SayAll lines props
  pub once : IsDistinct bytes_eq (names_set lines)

-- the text has these lines and sizes
pub record IsProps (text : List ℕ) (props : Props) : Type 0 where
  pub short : length text ≤ longest_text
  pub reads : ReadsAs (lines_of text) props.lines
  pub sizes : props.sizes ≡ sizes_of props.lines

-- all earlier lines are read, and the line of this number has the fault
pub record IsFirst (text : List ℕ) (number : ℕ) (IsFault : List (List ℕ) → List ℕ → Type 0) : Type 0 where
  pub short : length text ≤ longest_text
  pub earlier : List (List ℕ)
  pub bad : List ℕ
  pub later : List (List ℕ)
  pub props : List PropLine
  pub lines : lines_of text ≡ earlier ++ bad ∷ later
  pub reads : ReadsAs earlier props
  pub place : number ≡ length earlier + 1
  pub is_fault : IsFault (names_set earlier) bad

-- when each fault comes
abbrev pub HasFault : List ℕ → PropFault → Type 0
HasFault text (fault.BadLine number) = IsFirst text number IsBadLine
HasFault text (fault.Repeated number) = IsFirst text number IsRepeated
HasFault text (fault.UnknownName number) = IsFirst text number IsUnknownName
HasFault text fault.TooLong = longest_text < length text
HasFault text fault.NoMemory = Unit {0}
