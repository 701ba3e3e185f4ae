use Rattle.std.proofs.Common.{◌-◌, ◌+◌, List, subst, sym}
use Rattle.edit_ops.specs.declared.files.FileKey.{FileKey}
use Rattle.edit_ops.specs.Reading.{file_key_at, files_of}
use Rattle.edit_ops.proofs.Counted.{GoesOn, fails-too, goes-on-more, goes-on-nowhere}
use Rattle.edit_ops.proofs.reading.files_of.Goals as goal

pub returns-in-Err : goal.returns-in-Err
returns-in-Err c =
    let count = c.args.count in
    let bytes = c.args.bytes.now in
    let left = c.loop.left.now in
    fails-too c.in-Err.fault (file_key_at left) (files_of count bytes)
    (λ none. goes-on-nowhere file_key_at count bytes c.loop.files.items c.loop.counter left c.loop-test.true none c.loop.invariant) c.in-Err.ensures

pub loop-preserved : goal.loop-preserved
loop-preserved c =
    let count = c.args.count in
    let bytes = c.args.bytes.now in
    let rest = c.in-Ok.rest.now in
    subst (λ (files : List FileKey). GoesOn file_key_at count bytes files (count - (c.loop.counter + 1)) rest) (sym c.in_ok-add-in-Ok.ensures)
    (goes-on-more file_key_at count bytes c.loop.files.items c.loop.counter c.loop.left.now c.in-Ok.file rest c.loop-test.true c.in-Ok.ensures c.loop.invariant)
