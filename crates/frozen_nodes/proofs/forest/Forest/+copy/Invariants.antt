use Rattle.std.proofs.Common.{◌≡◌, ◌+◌, ◌*◌, ◌-◌, ◌<◌, ◌≤◌, ℕ, true, length, take, drop}
use Rattle.std.specs.Prelude.{vec_capacity, vec_len}
use Rattle.name_calls.specs.Paths.{is_prefix}
use Rattle.frozen_nodes.specs.Copies.{AreCopied, path_at, view_at}
use Rattle.frozen_nodes.specs.Forest.{KeepsNodes}
use Rattle.frozen_nodes.proofs.forest.Forest.+copy.Given as goal

abbrev pub invariant-below : goal.invariant-below
invariant-below l = record {
  start : l.start ≡ length l.fn.kids.items;
  start_len : l.start ≡ vec_len l.fn.kids;
  after : l.at < l.next;
  most : l.next ≤ l.end;
  same : take l.start l.kids.items ≡ l.fn.kids.items;
  copied : AreCopied l.tree.rows l.at l.next l.row.depth l.self.nodes (drop l.start l.kids.items);
  places : (j : ℕ) → l.at ≤ j → j < l.next → is_prefix (path_at l.tree.rows l.at) (path_at l.tree.rows j) ≡ true;
  low : l.at + 1 < l.next → l.next < l.end → length (path_at l.tree.rows l.next) ≤ l.row.depth + 1;
  view : l.next < l.end → record { depth = l.below.depth; name = l.below.name.now; row = l.below.row.now } ≡ view_at l.tree.rows l.next;
  none : l.end ≤ l.next → l.below.depth ≡ 0;
  kept : KeepsNodes l.fn.self.nodes l.self.nodes;
  count : length (drop l.start l.kids.items) + l.at < l.next;
  nodes : l.fn.self.room.nodes + l.at + 1 ≤ l.self.room.nodes + l.next;
  kids_left : l.fn.self.room.kids + l.at + 1 + length (drop l.start l.kids.items) ≤ l.self.room.kids + l.next;
  bytes : l.fn.self.room.bytes + 255 * (l.at + 1) ≤ l.self.room.bytes + 255 * l.next;
  kids_len : vec_len l.kids + l.at < l.start + l.next;
  kids_start : l.start ≤ vec_len l.kids;
  kids_capacity : vec_capacity l.fn.kids ≤ vec_capacity l.kids;
}

abbrev pub decreases-below : goal.decreases-below
decreases-below l = l.end - l.next

abbrev pub decreases-copy : goal.decreases-copy
decreases-copy l = l.end - l.at
