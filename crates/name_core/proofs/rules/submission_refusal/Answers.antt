use Rattle.std.proofs.Common.{◌++◌, ◌∷◌, [], Bool, List, ◌∙◌, sym}
use Rattle.name_calls.specs.declared.calls.NameRefusal.{NameRefusal}
use Rattle.name_calls.specs.declared.calls.NameRefusal.TheVariants as refusal
use Rattle.zone_table.specs.Statuses.{zone_goes_on}
use Rattle.name_store.specs.Causes.{id_at, zone_root_causes}
use Rattle.name_core.specs.Asks.{is_other_key, is_other_zone}
use Rattle.name_core.specs.Calls.{path_causes}
use Rattle.name_core.proofs.AskLemmas.{first-front}
use Rattle.name_core.proofs.SnapshotLaws.{behind-none}
use Rattle.name_core.proofs.rules.submission_refusal.Goals as goal

pub returns-in-Some-zone_root_refusal : goal.returns-in-Some-zone_root_refusal
returns-in-Some-zone_root_refusal c =
    let p = c.args.path.now in
    let rows = c.args.tree.now.rows in
    let last : List (Bool × NameRefusal) = (is_other_zone rows c.args.ask.now, refusal.ZoneChanged) ∷ (is_other_key rows p c.args.edek.now, refusal.ZoneChanged) ∷ (zone_goes_on c.args.statuses.now.rows (id_at rows p), refusal.AlreadySubmitted) ∷ [] in
    sym (behind-none (path_causes p) (zone_root_causes rows p ++ last) (sym c.path_refusal.ensures ∙ c.in_default.is)
    ∙ first-front (zone_root_causes rows p) last c.in-Some-zone_root_refusal.why (sym c.zone_root_refusal.ensures ∙ c.in-Some-zone_root_refusal.is))
