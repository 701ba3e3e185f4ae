-- What follows of what was done at an order.
use Rattle.std.proofs.Common.{◌≡◌, ◌⊎◌, inl, inr, ℕ, List, refl, ap, sym, ◌∙◌, subst}
use Rattle.std.specs.Prelude.{IfErr, IfOk, Ok, Err, Option, Result, string_bytes}
use Rattle.clap.specs.Words.{IsAmong, Text}
use Rattle.clap.specs.declared.error.ErrorKind.TheVariants.{DisplayHelp, DisplayVersion}
use Rattle.clap_lines.specs.Orders.{IsMistake, ShownAs}
use Rattle.fs_command_line.specs.Orders.{IsHelp, IsOrderOf, IsVersion, Names, line_fault}
use Rattle.fs_command_line.specs.declared.order.FsOrder.{FsOrder}
use Rattle.fs_command_line.specs.declared.order.FsOrder.TheVariants.{Put, Read, Help, Version}
use Rattle.clap_lines.specs.declared.told.OrderFault.{OrderFault}
use Rattle.clap_lines.specs.declared.told.OrderFault.TheVariants.{Usage, NoMemory}
use Rattle.data_stream.specs.Commands.{Obeys, ShowsText, WantsMemory}

abbrev pub OrderRead : Type 0
OrderRead = Result FsOrder OrderFault

module _ (puts : List ℕ → List ℕ → Type 0) (reads : List ℕ → List ℕ → ℕ → ℕ → Type 0) (same : Type 0) (written now : Option (List ℕ)) (status : ℕ) where
  pub helps_so : (order : OrderRead) → ShownAs IsHelp order → Obeys order puts reads same written now status → ShowsText same written now status ⊎ WantsMemory same written now status
  helps_so (Ok (Put user path)) is obeys = absurd is
  helps_so (Ok (Read user path from count)) is obeys = absurd is
  helps_so (Ok (Help text)) is obeys = inl (record { text = string_bytes text; untouched = obeys.0; shows = obeys.1 })
  helps_so (Ok (Version text)) is obeys = absurd is
  helps_so (Err Usage) is obeys = absurd cc
  helps_so (Err NoMemory) is obeys = inr obeys

  pub versions_so : (order : OrderRead) → ShownAs IsVersion order → Obeys order puts reads same written now status → ShowsText same written now status ⊎ WantsMemory same written now status
  versions_so (Ok (Put user path)) is obeys = absurd is
  versions_so (Ok (Read user path from count)) is obeys = absurd is
  versions_so (Ok (Help text)) is obeys = absurd is
  versions_so (Ok (Version text)) is obeys = inl (record { text = string_bytes text; untouched = obeys.0; shows = obeys.1 })
  versions_so (Err Usage) is obeys = absurd cc
  versions_so (Err NoMemory) is obeys = inr obeys

  -- an order that the words name is carried out, or there is no memory to read the words
  pub obeyed : (order : OrderRead) (o : FsOrder) → (order ≡ Ok o) ⊎ (order ≡ Err NoMemory) → Obeys order puts reads same written now status → Obeys (Ok o) puts reads same written now status ⊎ WantsMemory same written now status
  obeyed order o (inl is) obeys = inl (subst (λ (x : OrderRead). Obeys x puts reads same written now status) is obeys)
  obeyed order o (inr is) obeys = inr (subst (λ (x : OrderRead). Obeys x puts reads same written now status) is obeys)

-- words that name an order give it, or there is no memory to read them
pub named_so : (order : OrderRead) (words : List Text) → IfOk order (λ o. IsOrderOf o words) → IfErr order (λ fault. fault ≡ Usage → IsMistake (line_fault words)) → (o : FsOrder) → Names o words
    → (order ≡ Ok o) ⊎ (order ≡ Err NoMemory)
named_so (Err NoMemory) words answers usage o names = inr refl
named_so (Err Usage) words answers usage o names = absurd ((usage refl).0 names.no_fault)
named_so (Ok a) words (inl read) usage o names = let same : a ≡ o = cc (sym read.1 ∙ names.command) in inl (ap Ok same)
named_so (Ok a) words (inr (inl help)) usage o names = absurd (subst (IsAmong DisplayHelp) names.no_fault help.1)
named_so (Ok a) words (inr (inr version)) usage o names = absurd (subst (IsAmong DisplayVersion) names.no_fault version.1)
