use Rattle.std.proofs.Common.{rules, ⊎_elim, ◌≡◌, ◌∙◌, ap}
use Rattle.std.specs.Prelude.{Ok, Err}
use Rattle.clap_lines.specs.declared.told.OrderFault.TheVariants.{Usage}
use Rattle.data_stream.specs.Statuses.{BadWords, Done, NoMemory, WriteFailed}
use Rattle.data_stream.proofs.StatusLemmas.{put_reason, read_reason}
use Rattle.data_stream.proofs.command.obey.Goals as goal

pub returns-in-Ok-Put-clause-reason : goal.returns-in-Ok-Put-clause-reason
returns-in-Ok-Put-clause-reason g c =
    put_reason _ c.run_put.result c.run_put.ensures.write_fault _ _ _ _ _ _ _ _ c.run_put.ensures.put (_, _, c.in-Ok-Put.is ∙ ap Ok c.in-Ok-Put.field-0-is) c.run_put.ensures.read_fault c.run_put.ensures.vault_fault c.run_put.ensures.long

pub returns-in-Ok-Read-clause-reason : goal.returns-in-Ok-Read-clause-reason
returns-in-Ok-Read-clause-reason g c =
    read_reason _ c.run_read.result c.run_read.ensures.write_fault _ _ _ _ _ _ _ _ _ c.run_read.ensures.read c.run_read.ensures.read_fault c.run_read.ensures.vault_fault c.run_read.ensures.long

pub returns-in-Ok-Help-clause-reason : goal.returns-in-Ok-Help-clause-reason
returns-in-Ok-Help-clause-reason g c = ⊎_elim (λ shown. (Done, shown.0, tt)) (λ cut. (WriteFailed, cut.0, c.show_made.ensures.write cut.0)) c.show_made.ensures.shows

pub returns-in-Ok-Version-clause-reason : goal.returns-in-Ok-Version-clause-reason
returns-in-Ok-Version-clause-reason g c =
    ⊎_elim (λ shown. (Done, shown.0, tt)) (λ cut. (WriteFailed, cut.0, c.show_made-in-Ok-Version.ensures.write cut.0)) c.show_made-in-Ok-Version.ensures.shows

pub returns-in-Err-Usage-clause-reason : goal.returns-in-Err-Usage-clause-reason
returns-in-Err-Usage-clause-reason g c =
    let mistake : c.args.order ≡ Err Usage = search rules in
    ⊎_elim (λ shown. (BadWords, shown.0, mistake)) (λ cut. (WriteFailed, cut.0, c.show.ensures.write cut.0)) c.show.ensures.shows

pub returns-in-Err-NoMemory-clause-reason : goal.returns-in-Err-NoMemory-clause-reason
returns-in-Err-NoMemory-clause-reason g c = ⊎_elim (λ shown. (NoMemory, shown.0, tt)) (λ cut. (WriteFailed, cut.0, c.show-in-Err-NoMemory.ensures.write cut.0)) c.show-in-Err-NoMemory.ensures.shows
