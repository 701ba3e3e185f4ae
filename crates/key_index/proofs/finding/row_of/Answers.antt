use Rattle.std.proofs.Common.{sym, ◌∙◌}
use Rattle.key_index.proofs.Searches.{named_nowhere, named_there, nothing}
use Rattle.key_index.proofs.finding.row_of.Goals as goal

pub returns-in-Some : goal.returns-in-Some
returns-in-Some c =
    c.row_at.ensures
    ∙ named_there nothing c.args.rows.now.items c.args.names.now.items c.args.name.now c.in-Some.birth c.requires.rising.0 (c.requires.rising.1 nothing) (c.requires.names nothing) (sym c.birth_of.ensures ∙ c.in-Some.is)

pub birth_of-requires : goal.birth_of-requires
birth_of-requires c = (c.requires.names nothing).order

pub returns-in-None : goal.returns-in-None
returns-in-None c = sym (named_nowhere nothing c.args.rows.now.items c.args.names.now.items c.args.name.now (c.requires.names nothing) (sym c.birth_of.ensures ∙ c.in-None.is))
