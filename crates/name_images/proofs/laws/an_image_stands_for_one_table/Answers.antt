use Rattle.name_images.proofs.ImageLaws.{has-image, one-table}
use Rattle.name_images.proofs.laws.an_image_stands_for_one_table.Goals as goal

pub returns-clause-one : goal.returns-clause-one
returns-clause-one c = one-table

pub returns-clause-has : goal.returns-clause-has
returns-clause-has c = has-image
