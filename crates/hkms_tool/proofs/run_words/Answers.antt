use Rattle.hkms_tool.proofs.run_words.Goals as goal

pub returns-in-Ok : goal.returns-in-Ok
returns-in-Ok g c = rw c.in-Ok.is (λ e. rw c.as_slice.ensures.value at (c.run.ensures e))
