use Rattle.std.proofs.Common.{map}
use Rattle.clap.specs.Words.{app_of, found_of, rows_of}
use Rattle.clap_lines.proofs.FolderLemmas.{folder_of_error, folder_of_matches}
use Rattle.clap_lines.proofs.folder.folder_given.Goals as goal

pub returns-in-Ok-clause-ok : goal.returns-in-Ok-clause-ok
returns-in-Ok-clause-ok g c =
    folder_of_matches c.folder_in.result (app_of c.args.command) (map g.S.AsStr.text c.args.words.now) (rows_of (found_of c.in-Ok.matches)) c.in-Ok.ensures.kinds (λ s. (c.in-Ok.ensures.matches s).0)
    c.folder_in.ensures.ok

pub returns-in-Err-clause-ok : goal.returns-in-Err-clause-ok
returns-in-Err-clause-ok g c =
    folder_of_error c.folder_after.result (app_of c.args.command) (map g.S.AsStr.text c.args.words.now) c.in-Err.error c.in-Err.ensures.kinds c.folder_after.ensures.ok
