use Rattle.std.proofs.Common.{◌≡◌, ◌∙◌, ℕ, refl, subst}
use Rattle.world_events.specs.Events.{LeadsAt}
use Rattle.copy_reads.proofs.RunLemmas.{copy_seen}
use Rattle.copy_reads.proofs.command.read_over.Goals as goal

pub returns-clause-reads : goal.returns-clause-reads
returns-clause-reads g c =
    copy_seen (λ v. record { disk = v.disk.now; world = v.world.now; words = v.words.now }) (λ v. v.now ≡ c.args.events.now.now) _ (LeadsAt g.D.Disk.state g.W.Words.to_come c.args.events.now.now)
    (λ a b e answer holds led. (
      subst (λ (n : ℕ). LeadsAt g.D.Disk.state g.W.Words.to_come n (record { disk = a.disk.now; world = a.world.now; words = a.words.now }) e answer (record { disk = b.disk.now; world = b.world.now; words = b.words.now })) holds led.1,
      led.0.1.1.1 ∙ holds,
    )) _ _ _ _ _ _ _ _ _ _ _ _ refl c.read_copy.ensures.reads
