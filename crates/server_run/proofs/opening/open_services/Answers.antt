use Rattle.std.proofs.Common.{inr, ◌∙◌}
use Rattle.server_run.proofs.OpeningLemmas.{both_opened}
use Rattle.server_run.proofs.opening.open_services.Goals as goal

pub returns-in-Ok-new-clause-opened : goal.returns-in-Ok-new-clause-opened
returns-in-Ok-new-clause-opened g c =
    both_opened g.Y.Own.Disk.state c.args.props.now c.in-Ok.acls (g.Y.Yard.state c.args.yard.now) (g.Y.Yard.state c.open_logs.new.yard) c.args.words
    c.in_ok-kms.field-0.keys_disk c.in_ok-kms.field-0.kms c.in_ok-kms.field-0.names_disk c.in_ok-kms.field-0.names c.in-Ok-new.opening.keys.core c.in-Ok-new.opening.names c.in-Ok-new.opening.disk
    c.in-Ok.ensures c.in_ok-kms.ensures.opened (c.in-Ok-new.ensures.0 ∙ c.new-keys.ensures) c.in-Ok-new.ensures.1 c.in-Ok-new.ensures.2

-- both logs were opened, and there was no memory for the cell
pub returns-in-Err-clause-failed : goal.returns-in-Err-clause-failed
returns-in-Err-clause-failed g c = inr (record {
  lists = c.in-Ok.acls;
  lists_are = c.in-Ok.ensures;
  keys_disk = c.in_ok-kms.field-0.keys_disk;
  kms = c.in_ok-kms.field-0.kms;
  names_disk = c.in_ok-kms.field-0.names_disk;
  running_names = c.in_ok-kms.field-0.names;
  logs = c.in_ok-kms.ensures.opened;
})
