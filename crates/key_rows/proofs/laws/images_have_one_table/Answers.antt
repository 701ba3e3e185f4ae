use Rattle.key_rows.proofs.ImageLemmas.{empty_has_image, image_stays, one_table}
use Rattle.key_rows.proofs.laws.images_have_one_table.Goals as goal

pub returns-clause-one : goal.returns-clause-one
returns-clause-one c = one_table

pub returns-clause-empty : goal.returns-clause-empty
returns-clause-empty c = empty_has_image

pub returns-clause-stays : goal.returns-clause-stays
returns-clause-stays c = image_stays
