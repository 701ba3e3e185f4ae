-- What was read of a copy, over the events of a history.
use Rattle.std.proofs.Common.{◌≡◌, inl, inr, ℕ, List, [], refl, ap, sym, ◌∙◌, subst}
use Rattle.std.specs.Prelude.{Option, Some, None, Result, Ok, Err}
use Rattle.std.specs.Io.KnownBytes.{Appends}
use Rattle.hk_base.specs.Faults.{Rose}
use Rattle.hk_base.specs.declared.names.Edek.{Edek}
use Rattle.inode_tree.specs.Rows.{Entry}
use Rattle.key_rows.specs.declared.rows.KeyRow.{KeyRow}
use Rattle.prop_text.specs.declared.lines.PropLine.{PropLine}
use Rattle.body_stream.specs.Forms.{stored_form}
use Rattle.body_stream.specs.Vaults.{TellsBodies, VaultState}
use Rattle.body_stream.specs.declared.keys.BodyKey.{BodyKey}
use Rattle.world_run.specs.Ledger.{Draw}
use Rattle.world_run.specs.World.{WorldState}
use Rattle.hk_runs.specs.Run.{History, Runs, faults_after, world_after}
use Rattle.file_orders.specs.Bodies.{Sends, SentWhole}
use Rattle.file_orders.specs.Events.{Leading}
use Rattle.file_orders.specs.Opening.{OpensShown}
use Rattle.file_orders.proofs.EndLemmas.{never}
use Rattle.file_orders.proofs.FollowLemmas.{Follows, FollowsTo, opens_shown_so}
use Rattle.file_orders.specs.declared.ends.FsEnd.{FsEnd}
use Rattle.file_orders.specs.declared.ends.FsEnd.TheVariants as end
use Rattle.file_orders.specs.declared.open.OpenFile.{OpenFile}
use Rattle.file_orders.specs.declared.open.ShownFile.{ShownFile}
use Rattle.data_stream.specs.Bodies.{stored_of}
use Rattle.data_stream.specs.Runs.{AddsEvent}
use Rattle.data_stream.proofs.KeyLemmas.{IsKeyOf, form_of_draw, key_at, key_of_draw, none_is_some}
use Rattle.data_stream.proofs.LastLemmas.{body_stores, edek_stores}
use Rattle.data_stream.proofs.OpenLemmas.{edek_opened}
use Rattle.data_stream.proofs.StoreLemmas.{no_read}
use Rattle.copy_reads.specs.Bodies.{HasReadCopy, IsDrawOfCopy}
use Rattle.copy_reads.specs.Copies.{FindsCopy, ReadsCopy}
use Rattle.copy_reads.proofs.FindLemmas.{not_opened, same_err}

-- ---- wherever events lead here, they lead there

pub copy_so : {X Y : Type 0} (leads : Leading X) (others : Leading Y) (R : X → Y → Type 0) → Follows leads others R → (rows : List Entry) (user path : List ℕ) (from count : ℕ) (a b : X) (y : Y) (how : FsEnd) (old new : VaultState) (written now : Option (List ℕ))
    → R a y → ReadsCopy leads rows user path from count a how b old new written now → FollowsTo R b (λ then. ReadsCopy others rows user path from count y how then old new written now)
copy_so leads others R follow rows user path from count a b y how old new written now r d =
    let one = opens_shown_so leads others R follow user d.found a b y d.opened r d.opens in
    record { then = one.then; did = record { found = d.found; finds = d.finds; opened = d.opened; opens = one.did; sends = d.sends }; follows = one.follows }

-- ---- the key of a copy

module _ (keys : List KeyRow) (file : ShownFile) where
  key_drawn : (given : Option Edek) (key : Option BodyKey) → file.edek ≡ given → IsKeyOf keys given key → (draw : Option Draw) → IsDrawOfCopy keys file draw → key ≡ key_of_draw draw
  key_drawn None key e none None of = none
  key_drawn None key e none (Some draw) of = absurd (none_is_some of.0 (sym e ∙ of.1))
  key_drawn (Some own) key e some None of = let bad : Some own ≡ None = sym e ∙ of in absurd cc
  key_drawn (Some own) key e some (Some draw) of =
      let same : of.0 ≡ own = let s : Some of.0 ≡ Some own = sym of.1 ∙ e in cc in
      let opens = of.2 in
      some.1 ∙ key_at some.0 draw.dek own.iv draw.iv
      (some.2 draw.dek (subst (λ (x : Edek). Rattle.kms_core.specs.Opening.unseals keys x ≡ Some draw.dek) same (opens.opens of.3 of.4 of.5)))
      (ap (λ (x : Edek). x.iv) (sym same) ∙ opens.carries)

  form_is : (key : Option BodyKey) → IsKeyOf keys file.edek key → (draw : Option Draw) → IsDrawOfCopy keys file draw → (bytes : List ℕ) → stored_form key 0 bytes ≡ stored_of draw bytes
  form_is key is draw of bytes = ap (λ (k : Option BodyKey). stored_form k 0 bytes) (key_drawn file.edek key refl is draw of) ∙ form_of_draw draw bytes

-- ---- a range that was read

module _ (lines : List PropLine) (tells : Type 0) (first : WorldState) (words : ℕ → ℕ) (before now : ℕ) (rows : List Entry) (user path : List ℕ) (from count : ℕ) (history : History) (runs : Runs lines tells first words before history)
    (how : FsEnd) (copies copies' : VaultState) (written body : Option (List ℕ)) where
  abbrev keys : List KeyRow
  keys = (world_after first history).keys.keys.table.rows

  whole : tells → (found : Result ShownFile FsEnd) (file : OpenFile) → FindsCopy rows path found → OpensShown (AddsEvent now) user found [] (Ok file) history → SentWhole file from count how copies written body → TellsBodies copies
      → HasReadCopy keys rows path from count copies written body
  whole telling (Err why) file finds (is, same) done told = absurd cc
  whole telling (Ok shown) file finds opens done told =
      let o = edek_opened lines tells first words before now user path telling shown.id shown.edek [] history file runs opens in
      let key_is = subst (λ (w : WorldState). IsKeyOf w.keys.keys.table.rows shown.edek file.key) (sym o.2) o.1 in
      record {
        file = shown;
        at = finds;
        range = λ draw of bytes is. subst (Appends written body) (done.reads.range told bytes (ap copies.bodies o.0 ∙ is ∙ sym (form_is keys shown file.key key_is draw of bytes))) done.reads.wrote;
      }

  sent_so : tells → (found : Result ShownFile FsEnd) (result : Result OpenFile FsEnd) → FindsCopy rows path found → OpensShown (AddsEvent now) user found [] result history → Sends from count result how copies copies' written body
      → (sent : ℕ) → how ≡ end.Read sent → TellsBodies copies → HasReadCopy keys rows path from count copies written body
  sent_so telling found (Ok file) finds opens (inl done, same) sent is told = whole telling found file finds opens done told
  sent_so telling found (Ok file) finds opens (inr cut, same) sent is told = absurd (no_read cut.fault sent (sym cut.how_is ∙ is))
  sent_so telling found (Err why) finds opens (same, unwritten, untouched) sent is told =
      absurd (never why (end.Read sent) (not_opened (AddsEvent now) rows user path found [] history (Err why) finds opens) (sym same ∙ is) (λ f. f))

  pub copy_written : tells → ReadsCopy (AddsEvent now) rows user path from count [] how history copies copies' written body → (sent : ℕ) → how ≡ end.Read sent → TellsBodies copies → HasReadCopy keys rows path from count copies written body
  copy_written telling r sent is told = sent_so telling r.found r.opened r.finds r.opens r.sends sent is told

  -- ---- a fault of the store is one of the disk

  none_stores : (found : Result ShownFile FsEnd) → FindsCopy rows path found → OpensShown (AddsEvent now) user found [] (Err end.StoreFault) history → Rose before (faults_after before history)
  none_stores (Err why) finds (is, same) = absurd (finds.no_fault (sym (same_err {T = OpenFile} end.StoreFault why is)))
  none_stores (Ok shown) finds opens = edek_stores lines tells first words before now user path shown.id shown.edek [] history runs opens

  sends_store : (found : Result ShownFile FsEnd) (result : Result OpenFile FsEnd) → FindsCopy rows path found → OpensShown (AddsEvent now) user found [] result history → Sends from count result how copies copies' written body → how ≡ end.StoreFault → Rose before (faults_after before history)
  sends_store found (Ok file) finds opens (inl done, same) is = let bad : end.Read done.sent ≡ end.StoreFault = sym done.how_is ∙ is in absurd cc
  sends_store found (Ok file) finds opens (inr cut, same) is = absurd (body_stores cut.fault (sym is ∙ cut.how_is))
  sends_store found (Err why) finds opens (same, unwritten, untouched) is =
      none_stores found finds (subst (λ (w : FsEnd). OpensShown (AddsEvent now) user found [] (Err w) history) (sym same ∙ is) opens)

  pub copy_store : ReadsCopy (AddsEvent now) rows user path from count [] how history copies copies' written body → how ≡ end.StoreFault → Rose before (faults_after before history)
  copy_store r is = sends_store r.found r.opened r.finds r.opens r.sends is
