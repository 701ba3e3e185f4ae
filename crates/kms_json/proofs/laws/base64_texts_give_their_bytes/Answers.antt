use Rattle.kms_json.proofs.Base64Lemmas.{bytes_spelled, spelled_gives, spelled_once}
use Rattle.kms_json.proofs.laws.base64_texts_give_their_bytes.Goals as goal

pub returns-clause-spelled : goal.returns-clause-spelled
returns-clause-spelled c = bytes_spelled

pub returns-clause-gives : goal.returns-clause-gives
returns-clause-gives c = spelled_gives

pub returns-clause-once : goal.returns-clause-once
returns-clause-once c = spelled_once
