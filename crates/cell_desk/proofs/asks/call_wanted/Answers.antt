use Rattle.std.proofs.Common.{◌∙◌}
use Rattle.cell_desk.proofs.FinishLemmas.{generated_got, metadata_got, nothing_got}
use Rattle.cell_desk.proofs.WantLemmas.{generate_is_answered, metadata_is_answered}
use Rattle.cell_desk.proofs.asks.call_wanted.Goals as goal

pub returns-in-Nothing-clause-got : goal.returns-in-Nothing-clause-got
returns-in-Nothing-clause-got g c = nothing_got (g.S.Turns.keys_seen c.args.pass.now) c.args.want c.in-Nothing.is

pub returns-in-Nothing-clause-none_met : goal.returns-in-Nothing-clause-none_met
returns-in-Nothing-clause-none_met g c = c.requires.new.1.ended

pub returns-in-Generate-clause-got : goal.returns-in-Generate-clause-got
returns-in-Generate-clause-got g c =
    generated_got g.S.Turns.state g.S.Turns.to_come c.requires.new.0 (g.S.Turns.keys_seen c.args.pass.now) (g.S.Turns.keys_seen c.call_keys.new.pass) c.args.caller c.in-Generate.name c.call_keys.result c.args.want c.requires.new.1
    c.requires.caller c.in-Generate.is c.call_keys.ensures

pub returns-in-Generate-clause-none_met : goal.returns-in-Generate-clause-none_met
returns-in-Generate-clause-none_met g c = c.call_keys.ensures.same.1 ∙ c.requires.new.1.ended

pub returns-in-Generate-clause-answers : goal.returns-in-Generate-clause-answers
returns-in-Generate-clause-answers g c =
    generate_is_answered g.S.Turns.state g.S.Turns.to_come (g.S.Turns.keys_seen c.args.pass.now) (g.S.Turns.keys_seen c.call_keys.new.pass) c.args.caller c.in-Generate.name c.call_keys.result c.args.want c.call_keys.ensures c.in-Generate.is

pub returns-in-Metadata-clause-got : goal.returns-in-Metadata-clause-got
returns-in-Metadata-clause-got g c =
    metadata_got g.S.Turns.state g.S.Turns.to_come c.requires.new.0 (g.S.Turns.keys_seen c.args.pass.now) (g.S.Turns.keys_seen c.call_keys-in-Metadata.new.pass) c.args.caller c.in-Metadata.name c.call_keys-in-Metadata.result c.args.want
    c.requires.new.1 c.requires.caller c.in-Metadata.is c.call_keys-in-Metadata.ensures

pub returns-in-Metadata-clause-none_met : goal.returns-in-Metadata-clause-none_met
returns-in-Metadata-clause-none_met g c = c.call_keys-in-Metadata.ensures.same.1 ∙ c.requires.new.1.ended

pub returns-in-Metadata-clause-answers : goal.returns-in-Metadata-clause-answers
returns-in-Metadata-clause-answers g c =
    metadata_is_answered g.S.Turns.state g.S.Turns.to_come (g.S.Turns.keys_seen c.args.pass.now) (g.S.Turns.keys_seen c.call_keys-in-Metadata.new.pass) c.args.caller c.in-Metadata.name c.call_keys-in-Metadata.result c.args.want
    c.call_keys-in-Metadata.ensures c.in-Metadata.is
