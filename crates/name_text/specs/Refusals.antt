-- Refusals of the namesystem as text: the number, the name, and the values of those that have some.
use Rattle.std.specs.Prelude.{ℕ, List, [], ◌++◌, codes}
use Rattle.std.specs.Fmt.{decimal}
use Rattle.name_calls.specs.declared.calls.NameRefusal.{NameRefusal}
use Rattle.name_calls.specs.declared.calls.NameRefusal.TheVariants as why
use Rattle.kms_calls.specs.Refusals.{refusal_text}

abbrev pub refusal_number : NameRefusal → ℕ
refusal_number why.BadPath = 1
refusal_number why.NoSuchPath = 2
refusal_number why.Exists = 3
refusal_number why.NotADirectory = 4
refusal_number why.NotEmpty = 5
refusal_number why.NotSuperuser = 6
refusal_number why.AlreadyInZone = 7
refusal_number why.NotAZoneRoot = 8
refusal_number why.CrossZone = 9
refusal_number why.UnderReencryption = 10
refusal_number why.HasSnapshots = 11
refusal_number why.NotSnapshottable = 12
refusal_number why.SnapshotExists = 13
refusal_number why.NoSuchSnapshot = 14
refusal_number why.TooManySnapshots = 15
refusal_number (why.AskGone opening next) = 16
refusal_number why.ZoneChanged = 17
refusal_number why.AlreadySubmitted = 18
refusal_number why.NotSubmitted = 19
refusal_number why.TooManyInodes = 20
refusal_number (why.KeyRefused refused) = 21
refusal_number why.NoMemory = 22
refusal_number why.StoreFault = 23
refusal_number why.NestedSnapshottable = 24
refusal_number why.RootOrInside = 25

abbrev pub refusal_name : NameRefusal → List ℕ
refusal_name why.BadPath = codes "BadPath"
refusal_name why.NoSuchPath = codes "NoSuchPath"
refusal_name why.Exists = codes "Exists"
refusal_name why.NotADirectory = codes "NotADirectory"
refusal_name why.NotEmpty = codes "NotEmpty"
refusal_name why.NotSuperuser = codes "NotSuperuser"
refusal_name why.AlreadyInZone = codes "AlreadyInZone"
refusal_name why.NotAZoneRoot = codes "NotAZoneRoot"
refusal_name why.CrossZone = codes "CrossZone"
refusal_name why.UnderReencryption = codes "UnderReencryption"
refusal_name why.HasSnapshots = codes "HasSnapshots"
refusal_name why.NotSnapshottable = codes "NotSnapshottable"
refusal_name why.SnapshotExists = codes "SnapshotExists"
refusal_name why.NoSuchSnapshot = codes "NoSuchSnapshot"
refusal_name why.TooManySnapshots = codes "TooManySnapshots"
refusal_name (why.AskGone opening next) = codes "AskGone"
refusal_name why.ZoneChanged = codes "ZoneChanged"
refusal_name why.AlreadySubmitted = codes "AlreadySubmitted"
refusal_name why.NotSubmitted = codes "NotSubmitted"
refusal_name why.TooManyInodes = codes "TooManyInodes"
refusal_name (why.KeyRefused refused) = codes "KeyRefused"
refusal_name why.NoMemory = codes "NoMemory"
refusal_name why.StoreFault = codes "StoreFault"
refusal_name why.NestedSnapshottable = codes "NestedSnapshottable"
refusal_name why.RootOrInside = codes "RootOrInside"

-- the values that are written after the name
abbrev pub refusal_values : NameRefusal → List ℕ
refusal_values (why.AskGone opening next) = codes " " ++ decimal opening ++ codes " " ++ decimal next
refusal_values (why.KeyRefused refused) = codes " " ++ refusal_text refused
refusal_values _ = []

abbrev pub name_refusal_text : NameRefusal → List ℕ
name_refusal_text why = codes "N" ++ decimal (refusal_number why) ++ codes " " ++ refusal_name why ++ refusal_values why
