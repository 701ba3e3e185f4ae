use Rattle.kms_json.proofs.VersionLemmas.{named_by_text, text_of_named}
use Rattle.kms_json.proofs.laws.versions_are_named_by_their_texts.Goals as goal

pub returns-clause-text : goal.returns-clause-text
returns-clause-text c = named_by_text

pub returns-clause-only : goal.returns-clause-only
returns-clause-only c = text_of_named
