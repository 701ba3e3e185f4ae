use Rattle.std.proofs.Common.{◌≡◌, ◌≤◌, drop}
use Rattle.replay_text.specs.Events.{is_escaped_from}
use Rattle.replay_text.proofs.fields.is_escaped.Given as goal

abbrev pub invariant-bytes : goal.invariant-bytes
invariant-bytes l = record {
  rest : is_escaped_from 0 l.field ≡ is_escaped_from l.wanted (drop l.byte-index l.field);
  few : l.wanted ≤ 2;
}
