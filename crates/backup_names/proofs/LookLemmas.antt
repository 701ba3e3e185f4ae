-- How an order ends that failed.
use Rattle.std.specs.Prelude.{IfErr, Result, Ok, Err}
use Rattle.name_calls.specs.declared.calls.NameRefusal.{NameRefusal}
use Rattle.name_calls.specs.declared.calls.NameReply.{NameReply}
use Rattle.name_calls.specs.declared.calls.NameReply.TheVariants as reply
use Rattle.file_orders.specs.Ends.{IsFailure}
use Rattle.file_orders.proofs.EndLemmas.{names_fail}
use Rattle.backup_names.specs.Ends.{change_end, finish_end, row_end}

pub row_fails : (given : NameReply) → IfErr (row_end given) IsFailure
row_fails reply.Done = tt
row_fails (reply.Dir id area key) = tt
row_fails (reply.File id area edek) = tt
row_fails (reply.List children) = tt
row_fails (reply.Status status) = tt
row_fails (reply.Zones zones) = tt
row_fails (reply.Refused why) = names_fail why

pub change_fails : (given : NameReply) → IfErr (change_end given) IsFailure
change_fails reply.Done = tt
change_fails (reply.Dir id area key) = tt
change_fails (reply.File id area edek) = tt
change_fails (reply.List children) = tt
change_fails (reply.Status status) = tt
change_fails (reply.Zones zones) = tt
change_fails (reply.Refused why) = names_fail why

pub finish_fails : (finished : Result (Unit {0}) NameRefusal) → IfErr (finish_end finished) IsFailure
finish_fails (Ok done) = tt
finish_fails (Err why) = names_fail why
