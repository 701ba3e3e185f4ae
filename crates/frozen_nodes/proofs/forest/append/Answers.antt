use Rattle.std.proofs.Common.{length}
use Rattle.frozen_nodes.proofs.PackedLemmas.{inside-appended, nodes-appended}
use Rattle.frozen_nodes.proofs.forest.append.Goals as goal

pub returns-clause-nodes : goal.returns-clause-nodes
returns-clause-nodes c =
    nodes-appended c.args.names.now.items c.args.name.now c.append_bytes.new.all.items c.args.all_kids.now.items c.args.kids.now c.append_numbers.new.all.items c.args.nodes.now.items c.push_reserved.new.self.items c.args.row _
    c.append_bytes.ensures.items c.append_numbers.ensures.items c.push_reserved.ensures.items
    (λ i. record { row = c.args.row; name = length (c.as_slice.ensures.value i); name_len = length c.args.name.now; kids = length (c.as_slice-2.ensures.value i); kid_count = length c.args.kids.now })
    c.requires.inside

pub returns-clause-inside : goal.returns-clause-inside
returns-clause-inside c =
    inside-appended c.args.names.now.items c.args.name.now c.append_bytes.new.all.items c.args.all_kids.now.items c.args.kids.now c.append_numbers.new.all.items c.args.nodes.now.items c.push_reserved.new.self.items c.args.row _
    c.append_bytes.ensures.items c.append_numbers.ensures.items c.push_reserved.ensures.items
    (λ i. record { row = c.args.row; name = length (c.as_slice.ensures.value i); name_len = length c.args.name.now; kids = length (c.as_slice-2.ensures.value i); kid_count = length c.args.kids.now })
    c.requires.inside
