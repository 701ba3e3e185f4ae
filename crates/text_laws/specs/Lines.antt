-- What the words of a command line come to.
use Rattle.std.specs.Prelude.{◌≡◌, ◌⊎◌, List}
use Rattle.clap.specs.Words.{Text}
use Rattle.clap_lines.specs.Orders.{IsMistake}
use Rattle.command_line.specs.Orders.{AsksForHelp, AsksForVersion, FindsHelp, FindsVersion, IsSpelled, Names, line_fault}
use Rattle.command_line.specs.declared.order.Order.{Order}

-- the words are a mistake, or they show a text, or they name an order
abbrev pub AreWordsRead : List Text → Type 0
AreWordsRead words = IsMistake (line_fault words) ⊎ ((FindsHelp words ⊎ FindsVersion words) ⊎ ((order : Order) × Names order words))

-- words that name an order name no other one, and are no mistake, and show no text
abbrev pub IsReadOnce : List Text → Type 0
IsReadOnce words =
    (order : Order) → Names order words → ((other : Order) → Names other words → order ≡ other) × ¬ (IsMistake (line_fault words) ⊎ (FindsHelp words ⊎ FindsVersion words))

-- a mistake shows no text
abbrev pub IsNoText : List Text → Type 0
IsNoText words = IsMistake (line_fault words) → ¬ (FindsHelp words ⊎ FindsVersion words)

-- words that spell an order name it
abbrev pub SpelledIsNamed : List Text → Type 0
SpelledIsNamed words = (order : Order) → IsSpelled order words → Names order words

-- words that begin with a request for a text show it
abbrev pub AskedIsFound : List Text → Type 0
AskedIsFound words = (AsksForHelp words → FindsHelp words) × (AsksForVersion words → FindsVersion words)
