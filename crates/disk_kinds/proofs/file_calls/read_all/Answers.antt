use Rattle.std.proofs.Common.{length, drop, take, ap, ◌∙◌, arith, length-append}
use Rattle.disk_kinds.proofs.Rests.{rest_kept}
use Rattle.disk_kinds.proofs.file_calls.read_all.Goals as goal

pub loop-done-preserved : goal.loop-done-preserved
loop-done-preserved c =
    let done = c.loop-done.done in
    let here = c.in_ok-count.ensures.rest ∙ ap (λ l. drop c.in_ok-count.count l) c.split_at_mut-rest.ensures.back in
    rw c.split_at_mut-rest.ensures.front (record {
      within = omega (arith, c.in_ok-count.ensures.count, length-append (take done c.loop-done.buf) c.read_piece.new.buf, ap length c.split_at_mut-rest.ensures.front, c.split_at_mut-rest.ensures.front_len);
      rest = rest_kept c.loop-done.buf c.read_piece.new.buf c.args.buf.now done c.in_ok-count.count c.loop-done.invariant.within here c.loop-done.invariant.rest;
    })
