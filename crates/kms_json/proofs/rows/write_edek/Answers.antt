use Rattle.std.proofs.Common.{OnOk, subst}
use Rattle.hk_base.specs.Names.{Encrypted}
use Rattle.kms_json.specs.Replies.{edek_data}
use Rattle.kms_json.specs.Writing.{AddsData}
use Rattle.kms_json.proofs.Adding.{adds_then, closes}
use Rattle.kms_json.proofs.rows.write_edek.Goals as goal

pub returns : goal.returns
returns c =
    let iv = rw c.as_bytes.ensures.bytes at c.in_ok-bytes_member.ensures in
    let whole = closes c.close_object.new.out c.close_object.result (adds_then c.in_ok-open_object.ensures (adds_then c.in_ok-write_sealed.ensures (adds_then iv c.in_ok-version_member.ensures))) c.close_object.ensures in
    subst (λ (e : Encrypted). OnOk c.close_object.result (AddsData (edek_data e) c.args.out.now c.close_object.new.out)) c.edek.view_is whole
