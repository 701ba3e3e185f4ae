use Rattle.std.proofs.Common.{Ok, ap, inl, refl, subst, sym}
use Rattle.name_calls.specs.declared.calls.Ask.TheVariants as ask
use Rattle.name_core.specs.State.{names_of}
use Rattle.backup_names.specs.Changes.{IsAsked}
use Rattle.backup_names.proofs.AskedLemmas.{accepts, file_no_faults}
use Rattle.file_orders.specs.Ends.{IsFailure}
use Rattle.file_orders.proofs.EndLemmas.{names_fail}
use Rattle.backup_names.proofs.RefusalLemmas.{ask_caused}
use Rattle.backup_names.proofs.files.ask_file.Goals as goal

pub returns-in-Ok-ask-clause-asked : goal.returns-in-Ok-ask-clause-asked
returns-in-Ok-ask-clause-asked c =
    subst (λ p. IsAsked (ask.Create p) c.ask.new.self c.in-Ok-ask.note.id) c.in-Ok.ensures
    (accepts c.args.name.now c.ask.new.self c.args.user.now (ask.Create c.in-Ok.path) (Ok c.in-Ok-ask.note) (file_no_faults (names_of c.args.name.now) c.args.user.now c.in-Ok.path) c.invariants.ensures.names c.in-Ok-ask.ensures.store c.in-Ok-ask.ensures.asks).opened

pub returns-in-Err-ask-clause-failure : goal.returns-in-Err-ask-clause-failure
returns-in-Err-ask-clause-failure c = subst IsFailure (sym c.end_of_names.ensures) (names_fail c.in-Err-ask.why)

pub returns-in-Err-clause-cause : goal.returns-in-Err-clause-cause
returns-in-Err-clause-cause c = inl refl

pub returns-in-Err-ask-clause-cause : goal.returns-in-Err-ask-clause-cause
returns-in-Err-ask-clause-cause c =
    ask_caused c.args.name.now c.ask.new.self c.args.user.now (ask.Create c.in-Ok.path) (ask.Create c.args.path.now) c.in-Err-ask.why c.end_of_names.result (ap ask.Create c.in-Ok.ensures) c.end_of_names.ensures c.in-Err-ask.ensures.asks
