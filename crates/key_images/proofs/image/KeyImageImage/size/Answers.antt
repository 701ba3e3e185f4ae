use Rattle.std.proofs.Common.{◌≡◌, ◌+◌, ◌∙◌, ℕ, sym, subst}
use Rattle.key_index.specs.Sound.{IsSoundIndex}
use Rattle.key_images.specs.Sizes.{rows_len}
use Rattle.key_images.specs.Sources.{AreIn, KeySource}
use Rattle.key_images.proofs.Lengths.{table_in_length}
use Rattle.key_images.proofs.image.KeyImageImage.size.Goals as goal

pub returns : goal.returns
returns c held long =
    let s : KeySource = c.args.self.now in
    let within = subst (λ (s : KeySource). AreIn s.from s.count s.index) c.self.view_is c.self.invariant in
    let sound = subst (λ (s : KeySource). IsSoundIndex s.index) c.self.view_is c.image_size.ensures.sound in
    let size = subst (λ (s : KeySource). c.image_size.result ≡ 16 + rows_len s.index.rows) c.self.view_is c.image_size.ensures.size in
    size ∙ sym (table_in_length s.from held s.index sound (subst (λ (n : ℕ). AreIn s.from n s.index) (sym long) within))
