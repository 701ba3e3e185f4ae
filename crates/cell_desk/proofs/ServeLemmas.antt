-- The entries that the passes of a connection make.
use Rattle.std.proofs.Common.{◌≡◌, ℕ, List, [], ◌++◌, Option, refl, sym, subst}
use Rattle.hk_base.specs.Disk.{DiskState}
use Rattle.hk_base.specs.declared.ended.Ended.{Ended}
use Rattle.http_wire.specs.Reading.{ahead}
use Rattle.hist_cell.specs.History.{LegalOf, own}
use Rattle.kms_cell.specs.Entries.{KmsEntry, KmsKnown}
use Rattle.kms_cell.specs.Steps.{KmsSteps}
use Rattle.kms_cell.specs.Tickets.{KmsAllows}
use Rattle.kms_cell.specs.Views.{KmsView}
use Rattle.name_history.specs.Asked.{NameAllows}
use Rattle.name_history.specs.Entries.{NameEntry, NameKnown}
use Rattle.name_history.specs.Steps.{NameSteps}
use Rattle.name_history.specs.Views.{NameView}
use Rattle.hk_serve.specs.Served.{Served}
use Rattle.cell_desk.specs.Connections.{AddsOrder, BothEntries, BothKnown, MakesOrder, ServedByCells}
use Rattle.turns.specs.Entries.{KeysMake, NamesMake}
use Rattle.turns.proofs.EntryLemmas.{made_after, made_none, made_own}
use Rattle.cell_desk.proofs.PairLemmas.{Pairs, served_paired}

module _ {D W : Type 0} (state : D → DiskState) (to_come : W → ℕ → ℕ) where
  -- the passes made these entries
  record Made (v : BothKnown D W) (w : BothKnown D W) (made : BothEntries D W) : Type 0 where
    keys : KeysMake state to_come v.keys made.keys w.keys
    names : NamesMake state to_come v.names made.names w.names

  made_begins : (v : BothKnown D W) → LegalOf (KmsSteps {D = D} {W = W} state to_come) (KmsAllows {S = KmsView D W}) v.keys.start v.keys.seen
      → LegalOf (NameSteps {D = D} {W = W} state to_come) (NameAllows {S = NameView D W}) v.names.start v.names.seen → Made v v (record { keys = []; names = [] })
  made_begins v legal_keys legal_names = record {
    keys = made_none (KmsSteps {D = D} {W = W} state to_come) (KmsAllows {S = KmsView D W}) v.keys legal_keys;
    names = made_none (NameSteps {D = D} {W = W} state to_come) (NameAllows {S = NameView D W}) v.names legal_names;
  }

  orders_add : (v : BothKnown D W) → Pairs (Made v) (MakesOrder state to_come) (AddsOrder {D = D} {W = W})
  orders_add v old new user done made so_far order = (
    record { keys = made.keys ++ order.keys; names = made.names ++ order.names },
    record { keys = order.keys; names = order.names; takes = order.takes; added_keys = refl; added_names = refl },
    record {
      keys = made_after (KmsSteps {D = D} {W = W} state to_come) (KmsAllows {S = KmsView D W}) v.keys old.keys new.keys made.keys order.keys so_far.keys order.makes_keys;
      names = made_after (NameSteps {D = D} {W = W} state to_come) (NameAllows {S = NameView D W}) v.names old.names new.names made.names order.names so_far.names order.makes_names;
    },
  )

  -- A connection over a desk that began with these passes is one by the entries that they made.
  pub served_by_entries : (v w : BothKnown D W) (source written source' written' : Option (List ℕ)) (unused : List ℕ) (how : Ended)
      → LegalOf (KmsSteps {D = D} {W = W} state to_come) (KmsAllows {S = KmsView D W}) v.keys.start v.keys.seen
      → LegalOf (NameSteps {D = D} {W = W} state to_come) (NameAllows {S = NameView D W}) v.names.start v.names.seen
      → Served (MakesOrder state to_come) (record { ahead = source; desk = v; written = written }) (record { ahead = ahead unused source'; desk = w; written = written' }) how
      → (keys : List (KmsEntry D W)) × (names : List (NameEntry D W)) × KeysMake state to_come v.keys keys w.keys × NamesMake state to_come v.names names w.names
      × ServedByCells source written keys names source' written' how
  served_by_entries v w source written source' written' unused how legal_keys legal_names served =
      let paired = served_paired (Made v) (MakesOrder state to_come) (AddsOrder {D = D} {W = W}) (orders_add v) _ _ how (record { keys = []; names = [] }) (made_begins v legal_keys legal_names) served in
      (paired.0.keys, paired.0.names, paired.2.keys, paired.2.names, record { unused = unused; served = paired.1 })

  same_passes : (desk : BothKnown D W) (keys : KmsKnown D W) (names : NameKnown D W) → keys ≡ desk.keys → names ≡ desk.names → desk ≡ record { keys = keys; names = names }
  same_passes desk keys names keys_are names_are = λ i. record { keys = sym keys_are i; names = sym names_are i }

  -- a connection over a desk that began with these passes, and gave those back
  pub served_over : (v desk desk' : BothKnown D W) (keys : KmsKnown D W) (names : NameKnown D W) (source written source' written' : Option (List ℕ)) (how : Ended)
      → desk ≡ v → keys ≡ desk'.keys → names ≡ desk'.names
      → ((unused : List ℕ) × Served (MakesOrder state to_come) (record { ahead = source; desk = desk; written = written }) (record { ahead = ahead unused source'; desk = desk'; written = written' }) how)
      → (unused : List ℕ) × Served (MakesOrder state to_come) (record { ahead = source; desk = v; written = written }) (record { ahead = ahead unused source'; desk = record { keys = keys; names = names }; written = written' }) how
  served_over v desk desk' keys names source written source' written' how began keys_are names_are served = (
    served.0,
    subst (λ (x : BothKnown D W). Served (MakesOrder state to_come) (record { ahead = source; desk = v; written = written }) (record { ahead = ahead served.0 source'; desk = x; written = written' }) how)
        (same_passes desk' keys names keys_are names_are)
        (subst (λ (x : BothKnown D W). Served (MakesOrder state to_come) (record { ahead = source; desk = x; written = written }) (record { ahead = ahead served.0 source'; desk = desk'; written = written' }) how) began served.1),
  )

  -- if the passes had made no call, they are all entries of their numbers
  pub served_by_own : (v w : BothKnown D W) (source written source' written' : Option (List ℕ)) (keys : List (KmsEntry D W)) (names : List (NameEntry D W)) (how : Ended)
      → own v.keys.number v.keys.seen ≡ [] → own v.names.number v.names.seen ≡ [] → KeysMake state to_come v.keys keys w.keys → NamesMake state to_come v.names names w.names
      → ServedByCells source written keys names source' written' how → ServedByCells source written (own v.keys.number w.keys.seen) (own v.names.number w.names.seen) source' written' how
  served_by_own v w source written source' written' keys names how no_keys no_names makes_keys makes_names served =
      let all_keys = made_own (KmsSteps {D = D} {W = W} state to_come) (KmsAllows {S = KmsView D W}) v.keys w.keys keys no_keys makes_keys in
      let all_names = made_own (NameSteps {D = D} {W = W} state to_come) (NameAllows {S = NameView D W}) v.names w.names names no_names makes_names in
      subst (λ (es : List (KmsEntry D W)). ServedByCells source written es (own v.names.number w.names.seen) source' written' how) (sym all_keys)
      (subst (λ (es : List (NameEntry D W)). ServedByCells source written keys es source' written' how) (sym all_names) served)
