-- What one line sets, and what lines set.
use Rattle.std.proofs.Common.{◌≡◌, inl, inr, ℕ, ◌<◌, ◌≤◌, ◌^◌, List, [], ◌∷◌, ap, ap₂, sym, ◌∙◌, Option, Some, None, true, false, arith}
use Rattle.std.proofs.lemmas.Fmt.{decimal_is_IsNumeral}
use Rattle.std.specs.Fmt.{decimal}
use Rattle.std.specs.Str.Parse.{digits_value}
use Rattle.prop_text.specs.Acls.{SpellsAcl, SpellsNames, SpellsParts}
use Rattle.prop_text.specs.Properties.{SayAll, SaysProperty, Sets, SpellsGroup, SpellsList, SpellsSize, SpellsValue, acl_line, cut_at_equals, most, size_line}
use Rattle.prop_text.specs.Names.{setting_of}
use Rattle.prop_text.specs.declared.acls.Acl.{Acl}
use Rattle.prop_text.specs.declared.lines.PropLine.{PropLine}
use Rattle.prop_text.specs.declared.lines.PropLine.TheVariants as line
use Rattle.prop_text.specs.declared.setting.AclPlace.{AclPlace}
use Rattle.prop_text.specs.declared.setting.SizeName.{SizeName}
use Rattle.prop_text.specs.declared.setting.SizeName.TheVariants as size
use Rattle.prop_text.specs.declared.setting.Setting.{Setting}
use Rattle.prop_text.specs.declared.setting.Setting.TheVariants as setting

same_acl : (a b : Acl) → a.everybody ≡ b.everybody → a.users ≡ b.users → a.groups ≡ b.groups → a ≡ b
same_acl a b e u g = λ i. record { everybody = e i; users = u i; groups = g i }

names_once : (bytes : List ℕ) (some other : List (List ℕ)) → SpellsNames bytes some → SpellsNames bytes other → some ≡ other
names_once bytes some other s o = sym s.parts ∙ o.parts

parts_once : (parts users groups users' groups' : List (List ℕ)) → SpellsParts parts users groups → SpellsParts parts users' groups' → (users ≡ users') × (groups ≡ groups')
parts_once [] users groups users' groups' s o = absurd s
parts_once (first ∷ []) users groups users' groups' s o = (names_once first users users' s.0 o.0, s.1 ∙ sym o.1)
parts_once (first ∷ second ∷ []) users groups users' groups' s o = (names_once first users users' s.0 o.0, names_once second groups groups' s.1 o.1)
parts_once (first ∷ second ∷ third ∷ more) users groups users' groups' s o = absurd s

acl_once : (bytes : List ℕ) (a b : Acl) → SpellsAcl bytes a → SpellsAcl bytes b → a ≡ b
acl_once bytes a b (inl s) (inl o) = same_acl a b (s.everybody ∙ sym o.everybody) (s.no_users ∙ sym o.no_users) (s.no_groups ∙ sym o.no_groups)
acl_once bytes a b (inl s) (inr o) = absurd (o.no_star s.star)
acl_once bytes a b (inr s) (inl o) = absurd (s.no_star o.star)
acl_once bytes a b (inr s) (inr o) =
    let parts = parts_once _ a.users a.groups b.users b.groups s.parts o.parts in
    same_acl a b (s.not_everybody ∙ sym o.not_everybody) parts.0 parts.1

list_once : (place : AclPlace) (value : List ℕ) (p q : PropLine) → SpellsList place value p → SpellsList place value q → p ≡ q
list_once place value p q s o = s.prop_is ∙ ap (acl_line place) (acl_once value s.acl o.acl s.value_is o.value_is) ∙ sym o.prop_is

group_once : (name value : List ℕ) (p q : PropLine) → SpellsGroup name value p → SpellsGroup name value q → p ≡ q
group_once name value p q s o =
    let both : Some s.group ≡ Some o.group = sym s.group_is ∙ o.group_is in
    let group : s.group ≡ o.group = cc in
    s.prop_is ∙ ap₂ line.Group group (names_once value s.users o.users s.value_is o.value_is) ∙ sym o.prop_is

small : (which : SizeName) (number : ℕ) → number ≤ most which → number < 2 ^ 64
small size.QueueSize number few = omega arith
small size.QueueWatermark number few = omega arith
small size.BatchSize number few = omega arith
small size.CacheSize number few = omega arith

value_of : (value : List ℕ) (number : ℕ) → number < 2 ^ 64 → value ≡ decimal number → digits_value 10 value ≡ number
value_of value number few is = ap (digits_value 10) is ∙ (decimal_is_IsNumeral number few).1

size_once : (which : SizeName) (value : List ℕ) (p q : PropLine) → SpellsSize which value p → SpellsSize which value q → p ≡ q
size_once which value p q s o =
    let number : s.number ≡ o.number = sym (value_of value s.number (small which s.number s.few) s.value_is) ∙ value_of value o.number (small which o.number o.few) o.value_is in
    s.prop_is ∙ ap (size_line which) number ∙ sym o.prop_is

value_once : (what : Setting) (name value : List ℕ) (p q : PropLine) → SpellsValue what name value p → SpellsValue what name value q → p ≡ q
value_once (setting.List place) name value p q s o = list_once place value p q s o
value_once setting.Group name value p q s o = group_once name value p q s o
value_once (setting.Size which) name value p q s o = size_once which value p q s o

name_in : Option (List ℕ × List ℕ) → List ℕ
name_in None = []
name_in (Some parts) = parts.0

value_in : Option (List ℕ × List ℕ) → List ℕ
value_in None = []
value_in (Some parts) = parts.1

pub cut_once : (text name value name' value' : List ℕ) → cut_at_equals text ≡ Some (name, value) → cut_at_equals text ≡ Some (name', value') → (name ≡ name') × (value ≡ value')
unfolding name_in value_in
cut_once text name value name' value' s o = (ap name_in (sym s ∙ o), ap value_in (sym s ∙ o))

known_once : (name name' : List ℕ) (what what' : Setting) → name ≡ name' → setting_of name ≡ Some what → setting_of name' ≡ Some what' → what ≡ what'
known_once name name' what what' same s o = cc

-- a value that a line gives to a name has one spelling of its own there
pub moved_value : (text name value name' value' : List ℕ) (what what' : Setting) (p : PropLine) → Sets text name value what → Sets text name' value' what' → SpellsValue what' name' value' p → SpellsValue what name value p
moved_value text name value name' value' what what' p s o spells =
    let same = cut_once text name value name' value' s.cut o.cut in
    let known : what ≡ what' = known_once name name' what what' same.0 s.known o.known in
    rw (known, same.0, same.1) spells

pub says_once : (text : List ℕ) (p q : PropLine) → SaysProperty text p → SaysProperty text q → p ≡ q
says_once text p q s o = value_once s.what s.name s.value p q s.value_is (moved_value text s.name s.value o.name o.value s.what o.what q s.sets o.sets o.value_is)

pub all_once : (lines : List (List ℕ)) (ps qs : List PropLine) → SayAll lines ps → SayAll lines qs → ps ≡ qs
all_once [] ps qs s o = s ∙ sym o
all_once (l ∷ ls) ps qs (inl s) (inl o) = all_once ls ps qs s.1 o.1
all_once (l ∷ ls) ps qs (inl s) (inr (prop, rest, says, all, is)) = let bad : true ≡ false = sym s.0 ∙ says.sets.not_quiet in cc
all_once (l ∷ ls) ps qs (inr (prop, rest, says, all, is)) (inl o) = let bad : true ≡ false = sym o.0 ∙ says.sets.not_quiet in cc
all_once (l ∷ ls) ps qs (inr (prop, rest, says, all, is)) (inr (prop', rest', says', all', is')) =
    is ∙ ap₂ (λ (p : PropLine) (more : List PropLine). p ∷ more) (says_once l prop prop' says says') (all_once ls rest rest' all all') ∙ sym is'
