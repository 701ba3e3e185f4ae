-- The reply to the call for a batch.
use Rattle.std.specs.Prelude.{Bool, true, false, ◌&&◌, List, [], ◌∷◌, IsTrue, ⊤}
use Rattle.std.specs.Str.{bytes_eq}
use Rattle.hk_base.specs.Names.{Encrypted}
use Rattle.reenc_walk.specs.declared.sent.BatchNote.{BatchNote}
use Rattle.reenc_walk.specs.declared.sent.Sent.{Sent}
use Rattle.reenc_update.specs.declared.reply.BatchResult.{BatchResult}
use Rattle.reenc_update.specs.declared.reply.BatchResult.TheVariants.{Refused, Ready}

-- the batch, and what came back for it
pub record ReplyState : Type 0 where
  pub note : BatchNote
  pub result : BatchResult

-- one encrypted key for each file, of the same key as the one that was sent
abbrev pub are_of_keys : List Sent → List Encrypted → Bool
are_of_keys [] [] = true
are_of_keys [] (e ∷ es) = false
are_of_keys (x ∷ xs) [] = false
are_of_keys (x ∷ xs) (e ∷ es) = bytes_eq e.version.key x.edek.version.key && are_of_keys xs es

abbrev pub FitsSent : List Sent → BatchResult → Type 0
FitsSent sent Refused = ⊤
FitsSent sent (Ready edeks) = IsTrue (are_of_keys sent edeks)
