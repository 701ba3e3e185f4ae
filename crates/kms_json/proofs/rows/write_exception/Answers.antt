use Rattle.kms_json.proofs.Adding.{adds_then, closes}
use Rattle.kms_json.proofs.rows.write_exception.Goals as goal

pub returns : goal.returns
returns c =
    let name = rw c.refusal_name.ensures at c.in_ok-text_member.ensures in
    closes c.close_object.new.out c.close_object.result (adds_then c.in_ok-open_object.ensures (adds_then name c.in_ok-message_member.ensures)) c.close_object.ensures
