use Rattle.file_orders.specs.declared.ends.FsEnd.TheVariants as end
use Rattle.copy_reads.proofs.CauseLemmas.{sent_cause, unopened_cause}
use Rattle.copy_reads.proofs.FindLemmas.{never_so}
use Rattle.copy_reads.proofs.orders.read_copy.Goals as goal

pub returns-in-Err-clause-write : goal.returns-in-Err-clause-write
returns-in-Err-clause-write g c is = absurd (never_so g.T.Events.leads _ c.args.user.now c.args.path.now _ c.args.events.now c.open_shown.new.events _ c.in-Err.end end.WriteFault c.find_copy-found.ensures.finds c.open_shown.ensures.opens c.in-Err.is is (λ f. f))

pub returns-in-Err-clause-vault : goal.returns-in-Err-clause-vault
returns-in-Err-clause-vault g c is = absurd (never_so g.T.Events.leads _ c.args.user.now c.args.path.now _ c.args.events.now c.open_shown.new.events _ c.in-Err.end end.VaultFault c.find_copy-found.ensures.finds c.open_shown.ensures.opens c.in-Err.is is (λ f. f))

pub returns-in-Err-clause-own : goal.returns-in-Err-clause-own
returns-in-Err-clause-own g c = (
  λ is. never_so g.T.Events.leads _ c.args.user.now c.args.path.now _ c.args.events.now c.open_shown.new.events _ c.in-Err.end end.ReadFault c.find_copy-found.ensures.finds c.open_shown.ensures.opens c.in-Err.is is (λ f. f),
  λ is. never_so g.T.Events.leads _ c.args.user.now c.args.path.now _ c.args.events.now c.open_shown.new.events _ c.in-Err.end end.TooLong c.find_copy-found.ensures.finds c.open_shown.ensures.opens c.in-Err.is is (λ f. f),
)

pub returns-in-Err-clause-cause : goal.returns-in-Err-clause-cause
returns-in-Err-clause-cause g c =
    unopened_cause c.args.name.now c.args.user.now c.args.path.now g.T.Events.leads c.args.user.now c.args.events.now c.open_shown.new.events
    c.find_copy-found.result c.open_shown.result c.in-Err.end c.in-Err.is c.find_copy-found.ensures.cause c.open_shown.ensures.opens

pub returns-in-Ok-clause-cause : goal.returns-in-Ok-clause-cause
returns-in-Ok-clause-cause g c =
    sent_cause c.args.name.now c.args.user.now c.args.path.now c.in-Ok.file c.args.from c.args.count _ _ _ _ _ c.send.ensures.sends
