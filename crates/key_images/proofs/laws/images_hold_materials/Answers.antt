use Rattle.key_images.proofs.Holds.{image_is_held}
use Rattle.key_images.proofs.laws.images_hold_materials.Goals as goal

pub returns : goal.returns
returns c = image_is_held
