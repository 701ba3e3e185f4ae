use Rattle.std.proofs.Common.{◌∙◌, ap, length}
use Rattle.image_parts.specs.Parts.{count_told}
use Rattle.name_store.specs.Table.{NameTable}
use Rattle.name_images.specs.Images.{name_image}
use Rattle.name_images.proofs.image.NameImage.size.Goals as goal

pub returns : goal.returns
returns c = c.put_image.ensures.told.count ∙ ap (λ (t : NameTable). count_told (length (name_image t))) c.self.view_is
