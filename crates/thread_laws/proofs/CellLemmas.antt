-- Cells that were opened on sound files keep the promise on zone files until they are closed.
use Rattle.std.proofs.Common.{◌≡◌, ℕ, List, [], ◌∷◌, ◌++◌, Option, Some, refl, sym, ap, subst, ◌∙◌}
use mathlib.Core.List.{IsPrefix}
use Rattle.hk_base.specs.Disk.{DiskState}
use Rattle.hist_cell.specs.History.{LegalAfter, LegalOf, state_after, state_of}
use Rattle.hist_cell.proofs.Lists.{prefix_trans}
use Rattle.kms_cell.specs.Entries.{KmsEntry}
use Rattle.kms_cell.specs.Steps.{KmsSteps}
use Rattle.kms_cell.specs.Tickets.{KmsAllows}
use Rattle.kms_cell.specs.Views.{KmsView}
use Rattle.name_history.specs.Asked.{NameAllows}
use Rattle.name_history.specs.Entries.{NameEntry}
use Rattle.name_history.specs.Steps.{NameSteps}
use Rattle.name_history.specs.Views.{NameView}
use Rattle.world_run.specs.Ledger.{Past}
use Rattle.thread_laws.specs.Cells.{ClosedCellsKeepFiles, KeptByCells}
use Rattle.thread_laws.specs.Files.{KeepsServedFiles}
use Rattle.thread_laws.proofs.FileLemmas.{histories_keep_files}

some-same : {X : Type 0} (x y : X) → Some x ≡ Some y → x ≡ y
some-same x y is = cc is

module _ {D W : Type 0} (state : D → DiskState) (to_come : W → ℕ → ℕ) where
  abbrev NamesLegalFrom : Option (NameView D W) → List (NameEntry D W) → Type 0
  NamesLegalFrom o es = LegalOf (NameSteps {D = D} {W = W} state to_come) (NameAllows {S = NameView D W}) o es

  abbrev KeysLegalFrom : Option (KmsView D W) → List (KmsEntry D W) → Type 0
  KeysLegalFrom o es = LegalOf (KmsSteps {D = D} {W = W} state to_come) (KmsAllows {S = KmsView D W}) o es

  -- the kept pass stays one of the same history
  start-stays : (before es : List (NameEntry D W)) (v : NameView D W) → LegalAfter (NameSteps {D = D} {W = W} state to_come) (NameAllows {S = NameView D W}) before v es → (state_after v es).keys.start ≡ v.keys.start
  start-stays before [] v legal = refl
  start-stays before (e ∷ es) v legal = start-stays (before ++ e ∷ []) es e.after legal.2 ∙ legal.1.grows.start

  kept-at : (past : Past) (k : KmsView D W) (v : NameView D W) (es : List (NameEntry D W)) (all : List (KmsEntry D W)) → KeepsServedFiles state to_come past k v es → IsPrefix (state_after v es).keys.seen all → KeysLegalFrom (Some k) all
      → KeptByCells state past v es (state_after k all) (state_after v es)
  kept-at past k v es all h begins legal =
      subst (λ (xs : List (KmsEntry D W)). KeptByCells state past v es (state_after k xs) (state_after v es)) begins.1
      (record { last = h.last; known = h.known; kept = h.kept begins.0 from; sound = h.sound begins.0 from })
    where
      from : KeysLegalFrom (Some k) ((state_after v es).keys.seen ++ begins.0)
      from = subst (KeysLegalFrom (Some k)) (sym begins.1) legal

  pub closed_cells_keep_files : ClosedCellsKeepFiles state to_come
  closed_cells_keep_files past c k v last_k last_v s begins telling a =
      subst (λ (x : KmsView D W). KeptByCells state past v es x last_v) (sym last-key)
      (subst (λ (x : NameView D W). KeptByCells state past v es (state_after k a.keys_closed.all) x) (sym last-name)
      (kept-at past k v es a.keys_closed.all (histories_keep_files state to_come past c k v es s begins telling legal) shown keys-legal))
    where
      es : List (NameEntry D W)
      es = a.names_closed.all

      legal : NamesLegalFrom (Some v) es
      legal = subst (λ (o : Option (NameView D W)). NamesLegalFrom o es) a.names_start a.names_closed.legal

      last-name : last_v ≡ state_after v es
      last-name = some-same last_v (state_after v es) (a.names_closed.core_is ∙ ap (λ (o : Option (NameView D W)). state_of o es) a.names_start)

      start : a.met.start ≡ Some k
      start =
          a.kept_met.start ∙ sym a.kept_met.same_start ∙ ap (λ (x : NameView D W). x.keys.start) last-name ∙ start-stays [] es v legal ∙ begins.start

      shown : IsPrefix (state_after v es).keys.seen a.keys_closed.all
      shown =
          subst (λ (x : NameView D W). IsPrefix x.keys.seen a.keys_closed.all) last-name
          (prefix_trans last_v.keys.seen a.met.seen a.keys_closed.all a.kept_met.that a.keys_closed.begins)

      keys-legal : KeysLegalFrom (Some k) a.keys_closed.all
      keys-legal = subst (λ (o : Option (KmsView D W)). KeysLegalFrom o a.keys_closed.all) start a.keys_closed.legal

      last-key : last_k ≡ state_after k a.keys_closed.all
      last-key = some-same last_k (state_after k a.keys_closed.all) (a.keys_closed.core_is ∙ ap (λ (o : Option (KmsView D W)). state_of o a.keys_closed.all) start)
