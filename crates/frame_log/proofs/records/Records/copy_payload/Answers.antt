use Rattle.std.proofs.Common.{List, ℕ, ◌++◌, ◌∙◌, ap, arith}
use Rattle.frame_log.proofs.Windows.{shown}
use Rattle.frame_log.proofs.records.Records.copy_payload.Goals as goal

pub returns-clause-copied : goal.returns-clause-copied
returns-clause-copied g c tells window =
    let F = (g.D.Disk.state c.args.disk.now).reads c.args.self.now.file in
    c.in_ok-extend_from_slice.ensures.items
    ∙ ap (λ (l : List ℕ). l ++ c.bytes_at.result.now) c.clear.ensures.items
    ∙ c.bytes_at.ensures
    ∙ shown F c.show.new.self c.args.at c.args.count (omega (arith, c.requires.size tells, c.requires.place)) (c.in_ok-show.ensures.shows tells window)
