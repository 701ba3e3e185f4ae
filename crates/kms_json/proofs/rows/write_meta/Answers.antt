use Rattle.kms_json.proofs.Adding.{adds_then, closes}
use Rattle.kms_json.proofs.rows.write_meta.Goals as goal

pub returns : goal.returns
returns c =
    let text = rw (c.as_str.ensures, c.as_text.ensures.text) at c.in_ok-text_member-2.ensures in
    closes c.close_object.new.out c.close_object.result (adds_then c.in_ok-open_object.ensures (adds_then c.in_ok-text_member.ensures (adds_then c.in_ok-number_member.ensures (adds_then text (adds_then c.in_ok-number_member-2.ensures (adds_then c.in_ok-name_member.ensures c.in_ok-number_member-3.ensures)))))) c.close_object.ensures
