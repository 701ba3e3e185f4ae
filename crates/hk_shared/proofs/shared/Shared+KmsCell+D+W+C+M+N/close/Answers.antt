use Rattle.hk_shared.proofs.CloseLemmas.{both_closed}
use Rattle.hk_shared.proofs.shared.Shared+KmsCell+D+W+C+M+N.close.Goals as goal

pub returns-clause-closes : goal.returns-clause-closes
returns-clause-closes g c =
    both_closed g.D.Disk.state g.W.Words.to_come c.args.keys c.args.names c.close_keys-kms.result.0 c.close_keys-kms.result.1 c.close_names-names.result.0 c.close_names-names.result.1 c.close_names-names.result.2
    c.meet.new.into c.close_names-names.ensures.closes c.meet.ensures.both c.close_keys-kms.ensures.closes
