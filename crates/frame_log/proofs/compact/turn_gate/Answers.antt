use Rattle.std.proofs.Common.{ℕ, List, subst, ◌∙◌}
use Rattle.hk_base.specs.Disk.{Torn}
use Rattle.hk_base.proofs.Runs.{weaker}
use Rattle.frame_log.proofs.Writes.{torn_byte, written_byte}
use Rattle.frame_log.proofs.compact.turn_gate.Goals as goal

pub returns-in_err-put_synced-clause-moments : goal.returns-in_err-put_synced-clause-moments
returns-in_err-put_synced-clause-moments g c tells =
    let old = g.D.Disk.state c.args.disk.now in
    let read = old.reads c.args.file in
    weaker (λ b from. torn_byte c.args.at read (c.requires.place tells) b (subst (λ (l : List ℕ). Torn c.args.at 1 l b) (c.requires.synced tells from.0 from.1) from.2)) (c.put_synced.ensures.writes tells).moments

pub returns-clause-moments : goal.returns-clause-moments
returns-clause-moments g c tells =
    let old = g.D.Disk.state c.args.disk.now in
    let read = old.reads c.args.file in
    weaker (λ b from. torn_byte c.args.at read (c.requires.place tells) b (subst (λ (l : List ℕ). Torn c.args.at 1 l b) (c.requires.synced tells from.0 from.1) from.2)) (c.put_synced.ensures.writes tells).moments

pub returns-clause-turned : goal.returns-clause-turned
returns-clause-turned g c tells =
    let read = (g.D.Disk.state c.args.disk.now).reads c.args.file in
    c.in_ok-put_synced.ensures.written tells ∙ written_byte c.args.at read (c.requires.place tells) c.args.byte
