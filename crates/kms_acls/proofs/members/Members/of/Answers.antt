use Rattle.kms_acls.proofs.members.Members.of.Goals as goal

pub returns : goal.returns
returns c = λ i. record { everybody = c.args.acl.now.everybody; users = λ name. c.in_ok-users.ensures name i; groups = c.in_ok-groups.ensures i }
