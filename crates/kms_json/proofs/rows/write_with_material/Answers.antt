use Rattle.kms_json.proofs.Adding.{adds_then, closes}
use Rattle.kms_json.proofs.rows.write_with_material.Goals as goal

pub returns : goal.returns
returns c =
    let material = rw c.as_bytes.ensures.bytes at c.in_ok-bytes_member.ensures in
    closes c.close_object.new.out c.close_object.result (adds_then c.in_ok-open_object.ensures (adds_then material c.in_ok-version_member.ensures)) c.close_object.ensures
