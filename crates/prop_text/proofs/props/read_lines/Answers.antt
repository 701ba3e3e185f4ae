use Rattle.prop_text.proofs.LoopLemmas.{all_read, nothing_yet, one_more}
use Rattle.prop_text.proofs.props.read_lines.Goals as goal

pub lines-init : goal.lines-init
lines-init c = record {
  so_far = nothing_yet c.args.text.now c.new-reading.result c.new-reading.ensures.names c.new-reading.ensures.lines c.new-reading.ensures.sizes;
}

pub lines-preserved : goal.lines-preserved
lines-preserved c =
    let cut = rw c.in-Some.is at c.cut_line.ensures.cut in
    let shorter = rw c.in-Some.is at c.cut_line.ensures.shorter in
    record {
      so_far = one_more c.args.text.now c.lines.rest.now c.in-Some.next.now c.cut_line.result.0.now c.lines.reading c.read_line.new.self c.lines.number c.lines.invariant.so_far cut shorter c.in_ok-read_line.ensures;
    }

pub returns-in-None : goal.returns-in-None
returns-in-None c =
    let cut = rw c.in-None.is at c.cut_line.ensures.cut in
    all_read c.args.text.now c.lines.rest.now c.cut_line.result.0.now c.lines.reading c.read_line.new.self c.lines.number c.requires c.lines.invariant.so_far cut c.in_ok-read_line.ensures
