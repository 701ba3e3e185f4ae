use Rattle.kms_json.proofs.replies.write_value.Goals as goal

pub returns-in-Resealed : goal.returns-in-Resealed
returns-in-Resealed c = rw c.in-Resealed.is c.write_edek.ensures
