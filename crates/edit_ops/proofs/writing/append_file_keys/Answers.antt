use Rattle.edit_ops.specs.Records.{IsFileKey, file_field}
use Rattle.edit_ops.proofs.Counted.{all-more, fields-more}
use Rattle.edit_ops.proofs.writing.append_file_keys.Goals as goal

pub loop-file-preserved : goal.loop-file-preserved
loop-file-preserved c =
    let files = c.args.files.now in
    let k = c.loop-file.file-index in
    let file = c.file-item.result in
    let done = c.in_ok-append_file_key.ensures in (
      fields-more file_field files k file c.args.out.now c.loop-file.out c.append_file_key.new.out c.loop-file-test.true c.file-item.is c.loop-file.invariant.0 done.ok,
      all-more IsFileKey files k file c.loop-file-test.true c.file-item.is c.loop-file.invariant.1 done.is_file_key,
    )
