use Rattle.std.proofs.Common.{refl, string_bytes}
use Rattle.command_io.specs.declared.ends.ReplayEnd.TheVariants.{Done, WriteFault}
use Rattle.command_io.proofs.EndLemmas.{closes_numbered, closes_with_nothing}
use Rattle.command_io.proofs.ends.finish.Goals as goal

pub returns-in-Done-clause-closes : goal.returns-in-Done-clause-closes
returns-in-Done-clause-closes g c = closes_with_nothing c.args.stop Done c.args.count _ c.in-Done.is refl

pub returns-in-WriteFault-clause-closes : goal.returns-in-WriteFault-clause-closes
returns-in-WriteFault-clause-closes g c = closes_with_nothing c.args.stop WriteFault c.args.count _ c.in-WriteFault.is refl

pub returns-in_default-clause-closes : goal.returns-in_default-clause-closes
returns-in_default-clause-closes g c = closes_numbered string_bytes c.numbered_line.result c.args.stop c.args.stop _ c.args.count _ _ refl c.numbered_line.ensures c.numbered.ensures.wrote
