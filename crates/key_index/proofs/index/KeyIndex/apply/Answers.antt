use Rattle.std.proofs.Common.{ap, subst, sym, ◌∙◌}
use Rattle.key_index.specs.Held.{AreHeld}
use Rattle.key_index.specs.Index.{materials_after, table_of}
use Rattle.key_index.proofs.Commands.{applies_is, fits_applying}
use Rattle.key_index.proofs.Holding.{held_after, then_on}
use Rattle.key_index.proofs.Standing.{goes_on}
use Rattle.key_index.proofs.index.KeyIndex.apply.Goals as goal

pub change-requires : goal.change-requires
change-requires c = sym (applies_is c.requires.0 c.args.self.now.index c.args.command c.opening.ensures.sound) ∙ c.requires.1

pub returns-clause-table : goal.returns-clause-table
returns-clause-table c =
    let x = c.args.self.now.index in
    let sound = c.opening.ensures.sound in
    let may = sym (applies_is c.requires.0 x c.args.command sound) ∙ c.requires.1 in
    then_on c.change.result (λ new m. ap (table_of (materials_after m x c.args.command)) new ∙ goes_on m x c.args.command c.args.place (fits_applying x c.args.command sound may)) c.change.ensures.ok

pub returns-clause-held : goal.returns-clause-held
returns-clause-held c =
    let x = c.args.self.now.index in
    let sound = c.opening.ensures.sound in
    let may = sym (applies_is c.requires.0 x c.args.command sound) ∙ c.requires.1 in
    then_on c.change.result (λ new m file held there. subst (AreHeld (materials_after m x c.args.command) file) (sym new) (held_after m file x c.args.command c.args.place sound may held there)) c.change.ensures.ok
