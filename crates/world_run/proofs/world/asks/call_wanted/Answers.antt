use Rattle.world_run.proofs.StepLemmas.{generate-wanted, metadata-wanted, nothing-wanted}
use Rattle.world_run.proofs.world.asks.call_wanted.Goals as goal

pub returns-in-Nothing : goal.returns-in-Nothing
returns-in-Nothing g c lines lists = nothing-wanted lines (g.D.Disk.state c.args.disk.now) c.args.keys.now (g.W.Words.to_come c.args.words.now) c.args.now c.args.note.now.want c.in-Nothing.is

pub returns-in-Generate : goal.returns-in-Generate
returns-in-Generate g c lines lists = generate-wanted lines (g.D.Disk.state c.args.disk.now) (g.D.Disk.state c.act.new.disk) c.args.keys.now c.act.new.self (g.W.Words.to_come c.args.words.now) (g.W.Words.to_come c.act.new.words) c.args.now
    c.args.user.now c.args.note.now.want c.in-Generate.name c.act.result c.requires.user c.in-Generate.is (c.act.ensures lines lists)

pub returns-in-Metadata : goal.returns-in-Metadata
returns-in-Metadata g c lines lists = metadata-wanted lines (g.D.Disk.state c.args.disk.now) (g.D.Disk.state c.act-in-Metadata.new.disk) c.args.keys.now c.act-in-Metadata.new.self (g.W.Words.to_come c.args.words.now) (g.W.Words.to_come c.act-in-Metadata.new.words) c.args.now
    c.args.user.now c.args.note.now.want c.in-Metadata.name c.act-in-Metadata.result c.requires.user c.in-Metadata.is (c.act-in-Metadata.ensures lines lists)
