-- The keys of zone files are decrypted, and ready keys are of the current version.
use Rattle.std.proofs.Common.{◌≡◌, ◌⊎◌, inl, inr, ℕ, zero, suc, ◌/◌, ◌<◌, Bool, true, false, List, [], ◌∷◌, length, Option, Some, None, Ok, slice_get, refl, sym, ap, subst, ◌∙◌, arith}
use Rattle.std.specs.Prelude.{IsTrue, not, ◌||◌, ◌==◌, nat_le}
use Rattle.std.specs.Option.{option_map}
use Rattle.std.proofs.lemmas.Bool.Decides.{nat_tests}
use Rattle.std.proofs.lemmas.Slice.Eq.{bytes_eq-Decides}
use Rattle.std.proofs.lemmas.Bool.{eq-eqb}
use Rattle.hk_base.specs.declared.names.Dek.{Dek}
use Rattle.hk_base.specs.declared.names.Edek.{Edek}
use Rattle.hk_base.specs.declared.names.Iv.{Iv}
use Rattle.hk_base.specs.declared.texts.Text.{Text}
use Rattle.hk_base.specs.Faults.{Rose}
use Rattle.eek_queues.specs.Queues.{Queue, has_queue, ready_in}
use Rattle.eek_queues.proofs.Births.{absent-ready}
use Rattle.eek_seal.specs.Seal.{unseal}
use Rattle.eek_seal.proofs.SealLemmas.{length-unseal}
use Rattle.key_rows.specs.declared.rows.KeyCommand.{KeyCommand}
use Rattle.key_rows.specs.declared.rows.KeyRow.{KeyRow}
use Rattle.key_rows.specs.Sound.{IsKeyTable}
use Rattle.key_rows.specs.Table.{is_named, material_of}
use Rattle.kms_calls.specs.declared.calls.KmsRefusal.{KmsRefusal}
use Rattle.kms_acls.specs.declared.answers.Shown.{Shown}
use Rattle.kms_acls.specs.Verdict.{verdict}
use Rattle.kms_calls.specs.declared.calls.KmsCall.TheVariants as call
use Rattle.kms_calls.specs.declared.calls.KmsReply.{KmsReply}
use Rattle.kms_calls.specs.declared.calls.KmsReply.TheVariants as reply
use Rattle.prop_text.specs.declared.lines.PropLine.{PropLine}
use Rattle.kms_core.specs.Calls.{first_cause, is_malformed, is_of_other_key, lacks_version, row_of, sent_causes}
use Rattle.kms_core.specs.Laws.{sent_of}
use Rattle.kms_core.specs.Opening.{unseals}
use Rattle.kms_core.specs.Service.{ReadFails}
use Rattle.kms_core.specs.State.{IsService, KmsState, ServiceState}
use Rattle.kms_core.specs.Users.{ServesUser}
use Rattle.kms_store.specs.Store.{is_older}
use Rattle.kms_core.proofs.DepositLemmas.{queue_stands}
use Rattle.kms_core.proofs.QueueLemmas.{ready_are}
use Rattle.kms_core.proofs.UserLemmas.{permitted_decrypt_opens}
use Rattle.world_run.specs.Ledger.{Draw}
use Rattle.world_run.specs.Linked.{Pairs, ReadyLinked}
use Rattle.world_run.specs.Promise.{In}
use Rattle.world_run.proofs.DrawLemmas.{only-named, opens-alone, opens-among, opens-named}
use Rattle.world_run.proofs.Members.{each-in, got-in, some-is}
use Rattle.world_run.proofs.VersionLemmas.{opens-below}
use Rattle.run_laws.specs.Keys.{OpenedKeysDecrypt, ReadyKeysAreCurrent, ZoneFilesDecrypt}

-- a decryption that nothing refuses

not-over : (n m : ℕ) → n < m → nat_le m n ≡ false
not-over n m below = grind (arith, nat_tests, below)

none-of-three : (b c d : Bool) (x y z : KmsRefusal) → b ≡ false → c ≡ false → d ≡ false → first_cause ((b, x) ∷ (c, y) ∷ (d, z) ∷ []) ≡ None
none-of-three false false false x y z f g k = refl
none-of-three true c d x y z f g k = absurd cc
none-of-three false true d x y z f g k = absurd cc
none-of-three false false true x y z f g k = absurd cc

neither : (a b : Bool) → a ≡ true → b ≡ true → (not a || not b) ≡ false
neither a b f g = ap (λ (x : Bool). not x || not b) f ∙ ap not g

-- an opened key is as long as the sealed one
sealed-long : (o : Option Dek) (iv : Iv) (sealed dek : Dek) → option_map (λ material. unseal material iv sealed) o ≡ Some dek → length sealed ≡ length dek
sealed-long None iv sealed dek h = absurd cc
sealed-long (Some material) iv sealed dek h = sym (length-unseal material iv sealed) ∙ ap length (some-is (unseal material iv sealed) dek h)

sent-free : (s : KmsState) (row : KeyRow) (e : Edek) (dek : Dek) → IsKeyTable s.table → In row s.table.rows → row.name ≡ e.version.key → unseals s.table.rows e ≡ Some dek → length dek ≡ row.bits / 8 → length e.iv ≡ 16
    → first_cause (sent_causes (row_of s e.version.key) e.version.key (sent_of e)) ≡ None
sent-free s row e dek table i name opens long vector =
    ap (λ (o : Option KeyRow). first_cause (sent_causes o e.version.key (sent_of e))) found
    ∙ none-of-three (lacks_version (Some row) (sent_of e)) (is_of_other_key e.version.key (sent_of e)) (is_malformed row.bits (sent_of e)) _ _ _ version own formed
  where
    named : is_named e.version.key row ≡ true
    named = (bytes_eq-Decides row.name e.version.key).1 name

    found : row_of s e.version.key ≡ Some row
    found = only-named e.version.key s.table.rows row table.names i named

    version : lacks_version (Some row) (sent_of e) ≡ false
    version = not-over e.version.number (length row.materials) (opens-below row e dek (opens-alone s.table.rows row e dek found named opens))

    own : is_of_other_key e.version.key (sent_of e) ≡ false
    own = ap not ((bytes_eq-Decides e.version.key e.version.key).1 refl)

    formed : is_malformed row.bits (sent_of e) ≡ false
    formed =
        neither (length e.sealed == row.bits / 8) (length e.iv == 16)
        (eq-eqb (length e.sealed) (row.bits / 8) (sealed-long (material_of s.table.rows e.version) e.iv e.sealed dek opens ∙ long)) (eq-eqb (length e.iv) 16 vector)

module _ (s : ServiceState) (edek : Edek) (row : KeyRow) (lines : List PropLine) (user : Text) (shown : Shown) (words : ℕ → ℕ) (now before later : ℕ) (tells : Bool) (result : KmsReply) (drawn : ℕ) (logged : List KeyCommand) (s' : ServiceState)
    (fit : IsService s) (j : In row s.keys.table.rows) (permitted : verdict lines user (call.Decrypt edek.version.key (sent_of edek)) ≡ Ok shown)
    (serves : ServesUser lines user s words now (call.Decrypt edek.version.key (sent_of edek)) (Rose before later) (IsTrue tells) result drawn logged s')
    (telling : IsTrue (is_older s.keys.table edek.version) → IsTrue tells) where
  abbrev Decrypted : Dek → Type 0
  Decrypted dek = ((result ≡ reply.Key dek) ⊎ ReadFails s.keys (call.Decrypt edek.version.key (sent_of edek)) (Rose before later) result) × (s' ≡ s)

  decrypts : (dek : Dek) → row.name ≡ edek.version.key → unseals s.keys.table.rows edek ≡ Some dek → length dek ≡ row.bits / 8 → length edek.iv ≡ 16 → Decrypted dek
  decrypts dek name opens long vector =
      let free = sent-free s.keys row edek dek fit.table j name opens long vector in
      let answered = permitted_decrypt_opens lines user s words now edek.version.key (sent_of edek) before later tells result drawn logged s' shown permitted free serves telling in (
        elim answered.0 [
          | inl opened ↦ (let dek_is : Some opened.0 ≡ Some dek = sym opened.1 ∙ opens in inl (opened.2 ∙ ap reply.Key (some-is opened.0 dek dek_is)))
          | inr fails ↦ inr fails
        ],
        answered.1,
      )

pub opened_keys_decrypt : OpenedKeysDecrypt
opened_keys_decrypt s edek draw row lines user shown words now before later tells result drawn logged s' fit opens j born permitted serves telling =
    let its = opens row j born in
    decrypts s edek row lines user shown words now before later tells result drawn logged s' fit j permitted serves telling draw.dek
    (opens-named row edek draw.dek its.opens) (opens-among s.keys.table.rows row edek draw.dek fit.table.names j its.opens) its.long its.vector

pub zone_files_decrypt : ZoneFilesDecrypt
zone_files_decrypt past names s file edek draw row lines user shown words now before later tells result drawn logged s' fit promise i is entered j born permitted serves telling =
    let its = promise.open_up file edek i is in
    let same : its.draw ≡ draw = promise.one_draw file.id its.draw draw its.entered entered in
    let born_its : row.birth ≡ its.draw.birth = born ∙ ap (λ (d : Draw). d.birth) (sym same) in
    let has = its.opens row j born_its in
    let long = its.long row j born_its in
    let answered = decrypts s edek row lines user shown words now before later tells result drawn logged s' fit j permitted serves telling its.draw.dek (has.0 ∙ sym its.of_key) has.1 long.0 long.1 in (
      elim answered.0 [
        | inl opened ↦ inl (opened ∙ ap (λ (d : Draw). reply.Key d.dek) same)
        | inr fails ↦ inr fails
      ],
      answered.1,
    )

-- ready keys

-- the element at the same place of the other list
pair-at : {X Y : Type 0} (P : X → Y → Type 0) (xs : List X) (ys : List Y) (n : ℕ) (x : X) → Pairs P xs ys → slice_get xs n ≡ Some x → (y : Y) × (slice_get ys n ≡ Some y) × P x y
pair-at P [] [] n x pairs at = absurd cc
pair-at P [] (y ∷ ys) n x pairs at = absurd pairs
pair-at P (z ∷ xs) [] n x pairs at = absurd pairs
pair-at P (z ∷ xs) (y ∷ ys) zero x pairs at = (y, refl, subst (λ (v : _). P v y) (some-is z x at) pairs.0)
pair-at P (z ∷ xs) (y ∷ ys) (suc n) x pairs at = pair-at P xs ys n x pairs.1 at

nothing-at : {X : Type 0} (xs : List X) (n : ℕ) (x : X) → xs ≡ [] → slice_get xs n ≡ Some x → ⊥
nothing-at [] n x is at = absurd cc
nothing-at (y ∷ ys) n x is at = absurd cc

-- a birth with a ready key has a queue
queued : (qs : List Queue) (birth n : ℕ) (e : Edek) → slice_get (ready_in qs birth) n ≡ Some e → has_queue qs birth ≡ true
queued qs birth n e at = go (has_queue qs birth) refl
  where
    go : (b : Bool) → has_queue qs birth ≡ b → b ≡ true
    go true has = refl
    go false none = absurd (nothing-at (ready_in qs birth) n e (absent-ready qs birth none) at)

pub ready_keys_are_current : ReadyKeysAreCurrent
ready_keys_are_current w h birth place edek linked at =
    let queues = linked.draws.queues in
    let rows : List KeyRow = w.keys.keys.table.rows in
    let ready : List Edek = ready_in w.keys.keys.ready.queues birth in
    let pair = pair-at (ReadyLinked rows birth) ready (h.queued birth) place edek (queues.opens birth) at in
    let key = queue_stands rows w.keys.keys.ready.queues birth queues.current (queued w.keys.keys.ready.queues birth place edek at) in
    let current = each-in _ ready edek (ready_are rows w.keys.keys.ready.queues birth key.0 queues.current key.1) (got-in ready place edek at) in
    (pair.0, pair.1, record { row = key.0; found = key.1; of_birth = pair.2.of_birth; of_version = pair.2.of_version; of_iv = pair.2.of_iv; current = current; opens = pair.2.opens })
