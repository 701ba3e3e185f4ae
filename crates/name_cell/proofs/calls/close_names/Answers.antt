use Rattle.name_cell.proofs.calls.close_names.Goals as goal

pub returns : goal.returns
returns g c = record {
  closes = (c.close-side.result, c.close-side.ensures, c.into_parts.ensures.names, c.into_parts.ensures.disk, c.into_parts.ensures.keys);
  runs = c.into_parts.ensures.runs;
}
