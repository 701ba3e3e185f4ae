-- A good log is not damaged, and its last opening is not used.
use Rattle.std.proofs.Common.{◌≡◌, ℕ, List, map, Some, sym, ap, ◌∙◌, arith}
use Rattle.frame_log.specs.Format.{Found}
use Rattle.edit_ops.specs.Records.{spelling as op_spelling}
use Rattle.key_rows.specs.Records.{spelling}
use Rattle.key_rows.specs.Table.{Table, no_keys}
use Rattle.log_kinds.proofs.Replays.{one_list}
use Rattle.log_kinds.proofs.Sound.{log_not_damaged}
use Rattle.kms_store.specs.Kind.{key_kind}
use Rattle.kms_store.specs.Replay.{key_replay}
use Rattle.kms_store.specs.Store.{IsDamagedAt, SpentKeys}
use Rattle.kms_store.proofs.Layers.{key_laws}
use Rattle.name_store.specs.Replay.{name_replay}
use Rattle.name_store.specs.Store.{IsDamagedAt as IsDamagedName, SpentNames}
use Rattle.name_store.specs.Table.{Replayed, name_kind, nothing_logged}
use Rattle.name_store.proofs.Layers.{name_laws}
use Rattle.command_laws.specs.Good.{GoodKeys, GoodNames}

pub keys_not_damaged : (bytes : List ℕ) (at : ℕ) → GoodKeys bytes → IsDamagedAt bytes at → ⊥
keys_not_damaged bytes at good = log_not_damaged key_kind key_laws bytes good.commands good.table at good.log

pub names_not_damaged : (bytes : List ℕ) (at : ℕ) → GoodNames bytes → IsDamagedName bytes at → ⊥
names_not_damaged bytes at good = log_not_damaged name_kind name_laws bytes good.ops good.made at good.log

pub keys_not_spent : (bytes : List ℕ) → GoodKeys bytes → SpentKeys bytes → ⊥
keys_not_spent bytes good spent =
    let both : Found (map spelling good.commands) good.log.gate ≡ Found (map spelling spent.commands) spent.log.gate = sym good.log.found ∙ spent.log.found in
    let commands : good.commands ≡ spent.commands = one_list key_kind key_laws good.commands spent.commands good.log.spelled spent.log.spelled (cc both) in
    let made : Some good.table ≡ Some spent.table = sym good.log.makes ∙ ap (key_replay no_keys) commands ∙ spent.log.makes in
    let table : good.table ≡ spent.table = cc made in
    absurd (omega (arith, good.room, spent.last, ap (λ (t : Table). t.opening) table))

pub names_not_spent : (bytes : List ℕ) → GoodNames bytes → SpentNames bytes → ⊥
names_not_spent bytes good spent =
    let both : Found (map op_spelling good.ops) good.log.gate ≡ Found (map op_spelling spent.ops) spent.log.gate = sym good.log.found ∙ spent.log.found in
    let ops : good.ops ≡ spent.ops = one_list name_kind name_laws good.ops spent.ops good.log.spelled spent.log.spelled (cc both) in
    let same : Some good.made ≡ Some spent.made = sym good.log.makes ∙ ap (name_replay nothing_logged) ops ∙ spent.log.makes in
    let made : good.made ≡ spent.made = cc same in
    absurd (omega (arith, good.room, spent.last, ap (λ (r : Replayed). r.table.opening) made))
