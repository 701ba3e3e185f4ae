use Rattle.name_images.proofs.Reached.{few-reached, ids-reached, sessions-reached, zones-reached}
use Rattle.name_images.proofs.laws.logged_tables_keep_image_rules.Goals as goal

pub returns-clause-few : goal.returns-clause-few
returns-clause-few c = few-reached

pub returns-clause-ids : goal.returns-clause-ids
returns-clause-ids c = ids-reached

pub returns-clause-zones : goal.returns-clause-zones
returns-clause-zones c = zones-reached

pub returns-clause-sessions : goal.returns-clause-sessions
returns-clause-sessions c = sessions-reached
