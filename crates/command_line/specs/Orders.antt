-- The orders that the words of a command line give.
use Rattle.std.specs.Prelude.{◌≡◌, ◌≤◌, ◌⊎◌, ◌&&◌, ℕ, List, [], ◌∷◌, ◌++◌, codes, nat_le, Option, Some, None, if◌then◌else◌, option_and_then, option_map}
use Rattle.std.specs.Fmt.{decimal}
use Rattle.std.specs.Option.{option_map_or}
use Rattle.std.specs.Str.{bytes_eq}
use Rattle.std.specs.Str.Parse.{digits_value}
use Rattle.clap.specs.Words.{Kinds, IsAmong, Row, Text, first_of}
use Rattle.clap.specs.declared.error.ErrorKind.TheVariants.{DisplayHelp, DisplayVersion}
use Rattle.clap_lines.specs.Orders.{HasOrder}
use Rattle.clap_lines.specs.Orders as lines
use Rattle.clap_lines.specs.declared.told.Told.{Told}
use Rattle.clap_lines.specs.declared.told.Told.TheVariants as told
use Rattle.command_line.specs.Line as line
use Rattle.command_line.specs.declared.order.Order.{Order}
use Rattle.command_line.specs.declared.order.Order.TheVariants.{Replay, Pipe, Serve, Load, Check, Help, Version}

-- the number, if it is one from 1 to `most`
abbrev pub in_range : ℕ → ℕ → Option ℕ
in_range most number = if nat_le 1 number && nat_le number most then Some number else None

-- the number from 1 to `most` that a text writes in decimal, without a sign or a leading zero
abbrev pub number_at : ℕ → Text → Option ℕ
number_at most text =
    let number = digits_value 10 text in
    if bytes_eq text (decimal number) then in_range most number else None

-- the number of an option, which is `absent` if the option was not given
abbrev pub number_or : ℕ → ℕ → Option Text → Option ℕ
number_or absent most value = option_map_or (number_at most) value (Some absent)

-- the port, the number of connections, and how many at a time, that are given to `serve`
abbrev pub port_at : List Row → Option ℕ
port_at rows = number_or 9600 65535 (first_of (codes "port") rows)

abbrev pub conns_at : List Row → Option ℕ
conns_at rows = number_or 4294967295 4294967295 (first_of (codes "conns") rows)

abbrev pub places_at : List Row → Option ℕ
places_at rows = number_or 16 1024 (first_of (codes "connections") rows)

abbrev pub serve_order : Option ℕ → Option ℕ → Option ℕ → Option Order
serve_order (Some port) (Some conns) (Some places) = Some (Serve port conns places)
serve_order (Some port) (Some conns) None = None
serve_order (Some port) None places = None
serve_order None conns places = None

-- the number of steps that is given to `load`
abbrev pub count_at : List Row → Option ℕ
count_at rows = option_and_then (number_at 20000) (first_of (codes "count") rows)

abbrev pub load_order : Option ℕ → Option Order
load_order count = option_map Load count

-- the order of a command with this name and these values
abbrev pub order_named : Text → List Row → Option Order
order_named name rows =
    if bytes_eq name (codes "serve") then serve_order (port_at rows) (conns_at rows) (places_at rows)
    else (if bytes_eq name (codes "load") then load_order (count_at rows)
    else (if bytes_eq name (codes "replay") then Some Replay
    else (if bytes_eq name (codes "pipe") then Some Pipe
    else (if bytes_eq name (codes "check") then Some Check else None))))

-- The faults of the words: those that clap finds, or else that of the values. Clap takes `+1` and `01` for numbers, too.
abbrev pub line_fault : List Text → Kinds
line_fault words = lines.line_fault line.hkms order_named words

-- the words have no fault, and name the command of this order
abbrev pub Names : Order → List Text → Type 0
Names order words = HasOrder line.hkms order_named order words

-- the order to show a text
abbrev pub order_told : Told → Order
order_told (told.Help text) = Help text
order_told (told.Version text) = Version text

-- the order shows a text
abbrev pub IsHelp : Order → Type 0
IsHelp (Help text) = Unit {0}
IsHelp _ = ⊥

abbrev pub IsVersion : Order → Type 0
IsVersion (Version text) = Unit {0}
IsVersion _ = ⊥

-- the number of steps of a load
abbrev pub IsRightCount : ℕ → Type 0
IsRightCount count = (1 ≤ count) × (count ≤ 20000)

-- a load has a right number of steps
abbrev pub HasRightCount : Order → Type 0
HasRightCount (Load count) = IsRightCount count
HasRightCount _ = Unit {0}

-- the order is what the words say
abbrev pub IsOrderOf : Order → List Text → Type 0
IsOrderOf order words = lines.AnswersWords line.hkms order_named IsHelp IsVersion order words

-- the words that give an option its number: the name and the number, or one word of both with `=` between them
abbrev pub GivesNumber : Text → ℕ → List Text → Type 0
GivesNumber name number words = (words ≡ name ∷ decimal number ∷ []) ⊎ (words ≡ (name ++ 61 ∷ decimal number) ∷ [])

-- the words of an option with this number: none if it is the number of an absent option, or those that give it
abbrev pub IsOption : Text → ℕ → ℕ → ℕ → List Text → Type 0
IsOption name absent most number words =
    ((words ≡ []) × (number ≡ absent)) ⊎ ((1 ≤ number) × (number ≤ most) × GivesNumber name number words)

-- the word `serve` and the words of the port and of the number of connections, in either order
abbrev pub IsServe : List Text → List Text → List Text → Type 0
IsServe port conns words = (words ≡ codes "serve" ∷ (port ++ conns)) ⊎ (words ≡ codes "serve" ∷ (conns ++ port))

-- the words that name a command with its options or its number, and nothing else
abbrev pub IsSpelled : Order → List Text → Type 0
IsSpelled Replay words = words ≡ codes "replay" ∷ []
IsSpelled Pipe words = words ≡ codes "pipe" ∷ []
IsSpelled (Serve port conns places) words =
    ((places ≡ 16) × (port_words : List Text) × (conns_words : List Text) × IsOption (codes "--port") 9600 65535 port port_words
    × IsOption (codes "--conns") 4294967295 4294967295 conns conns_words × IsServe port_words conns_words words)
    ⊎ ((port ≡ 9600) × (conns ≡ 4294967295) × (places_words : List Text) × IsOption (codes "--connections") 16 1024 places places_words
    × (words ≡ codes "serve" ∷ places_words))
IsSpelled (Load count) words = IsRightCount count × (words ≡ codes "load" ∷ decimal count ∷ [])
IsSpelled Check words = words ≡ codes "check" ∷ []
IsSpelled (Help text) words = ⊥
IsSpelled (Version text) words = ⊥

-- the word that asks for help
abbrev pub IsHelpFlag : Text → Type 0
IsHelpFlag word = (word ≡ codes "--help") ⊎ (word ≡ codes "-h")

-- the word is the name of a command
abbrev pub IsCommand : Text → Type 0
IsCommand word = (word ≡ codes "replay") ⊎ ((word ≡ codes "pipe") ⊎ ((word ≡ codes "serve") ⊎ ((word ≡ codes "load") ⊎ (word ≡ codes "check"))))

-- the words begin with a request for help with the program or with a command, whatever follows
abbrev pub AsksForHelp : List Text → Type 0
AsksForHelp words =
    (flag : Text) × IsHelpFlag flag × (more : List Text) × ((words ≡ flag ∷ more) ⊎ ((command : Text) × IsCommand command × (words ≡ command ∷ flag ∷ more)))

-- the words begin with a request for the version, whatever follows
abbrev pub AsksForVersion : List Text → Type 0
AsksForVersion words = (more : List Text) × ((words ≡ codes "--version" ∷ more) ⊎ (words ≡ codes "-V" ∷ more))

-- clap finds a request for help in the words, or one for the version
abbrev pub FindsHelp : List Text → Type 0
FindsHelp words = IsAmong DisplayHelp (line_fault words)

abbrev pub FindsVersion : List Text → Type 0
FindsVersion words = IsAmong DisplayVersion (line_fault words)
