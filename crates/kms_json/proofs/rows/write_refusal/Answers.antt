use Rattle.kms_json.proofs.Adding.{adds_then, closes}
use Rattle.kms_json.proofs.rows.write_refusal.Goals as goal

pub returns : goal.returns
returns c =
    closes c.close_object.new.out c.close_object.result (adds_then c.in_ok-open_object.ensures (adds_then c.in_ok-write_key.ensures c.in_ok-write_exception.ensures)) c.close_object.ensures
