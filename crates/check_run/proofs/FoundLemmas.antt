-- What both logs make, and what is reported of it.
use Rattle.std.proofs.Common.{◌≡◌, ◌∙◌, inl, inr, ℕ, Bool, true, false, cond, List, [], ◌∷◌, ◌++◌, Some, None, sym, ap, subst}
use Rattle.std.specs.Prelude.{IfErr, IfOk, MatchResult, Result, Ok, Err, Option}
use Rattle.hk_base.specs.Disk.{DiskState, Tells}
use Rattle.command_io.specs.Ends.{Reports, ShowsWith}
use Rattle.command_io.specs.declared.ends.ReplayEnd.{ReplayEnd}
use Rattle.command_io.specs.declared.ends.ReplayEnd.TheVariants as replay_end
use Rattle.key_rows.specs.declared.rows.KeyCommand.{KeyCommand}
use Rattle.key_rows.specs.Table.{Table, after, applies, no_keys}
use Rattle.kms_store.specs.Replay.{key_replay}
use Rattle.kms_store.specs.Store.{IsKeyLog, IsKeyStoreOf, StoreState, next_opening}
use Rattle.name_store.specs.Store.{Started}
use Rattle.name_store.specs.Store as names
use Rattle.name_store.specs.Table.{NameTable}
use Rattle.check_run.specs.Checks.{IsAnyKeyLog, IsUnsummed, IsUnsummedNames, ReportsFound, SumsUp, SumsUpNames}
use Rattle.check_run.specs.Summary.{check_text}

-- a start of the edit log adds an opening, which no line shows
pub sums_names : (table : Table) (old new : DiskState) (store : names.StoreState) (text : List ℕ) → Started old new store → Tells old → text ≡ check_text table store.table → SumsUpNames table (old.reads 1) text
sums_names table old new store text started telling is =
    let log = started.log telling in record {
      ops = log.ops;
      made = record { table = started.found; used = log.used };
      names = log.is;
      text_is = is ∙ ap (λ (t : NameTable). check_text table t) started.table;
    }

-- the last command of a log applies to the table that the others make

last_replayed : (t u v : Table) (commands : List KeyCommand) (command : KeyCommand) → key_replay t commands ≡ Some u → key_replay t (commands ++ command ∷ []) ≡ Some v → v ≡ after u command
last_replayed t u v [] command is more = go (applies t command) more
  where
    go : (b : Bool) → cond b (Some (after t command)) None ≡ Some v → v ≡ after u command
    go true h = let same : t ≡ u = cc is in let made : after t command ≡ v = cc h in sym made ∙ ap (λ (x : Table). after x command) same
    go false h = absurd cc
last_replayed t u v (c ∷ cs) command is more = go (last_replayed (after t c) u v cs command) (applies t c) is more
  where
    go : (key_replay (after t c) cs ≡ Some u → key_replay (after t c) (cs ++ command ∷ []) ≡ Some v → v ≡ after u command)
        → (b : Bool) → cond b (key_replay (after t c) cs) None ≡ Some u → cond b (key_replay (after t c) (cs ++ command ∷ [])) None ≡ Some v → v ≡ after u command
    go further true h k = further h k
    go further false h k = absurd cc

-- the keys that a start finds in a log
pub record FindsKeys (bytes : List ℕ) (opened : Table) : Type 0 where
  pub commands : List KeyCommand
  pub table : Table
  pub log : IsKeyLog bytes commands table
  pub opened_is : opened ≡ after table (next_opening table)

pub finds_keys : (bytes : List ℕ) (new : DiskState) (store : StoreState) → (commands : List KeyCommand) × (table : Table) × IsKeyLog bytes commands table × IsKeyStoreOf new store (commands ++ next_opening table ∷ []) → FindsKeys bytes store.table.keys
finds_keys bytes new store (commands, table, log, stands) =
    record { commands = commands; table = table; log = log; opened_is = last_replayed no_keys table store.table.keys commands (next_opening table) log.makes stands.makes }

pub sums_both : (found found' : ℕ → List ℕ) (opened : Table) (r : Result (List ℕ) ReplayEnd) → FindsKeys (found 0) opened → found' 1 ≡ found 1 → IfOk r (SumsUpNames opened (found' 1)) → IfOk r (SumsUp found)
sums_both found found' opened (Err end) keys same sums = tt
sums_both found found' opened (Ok text) keys same sums = record {
  commands = keys.commands;
  table = keys.table;
  ops = sums.ops;
  made = sums.made;
  keys = keys.log;
  names = subst (λ (bytes : List ℕ). names.IsNameLog bytes sums.ops sums.made) same sums.names;
  text_is = sums.text_is ∙ ap (λ (t : Table). check_text t sums.made.table) keys.opened_is;
}

any_key_log : (bytes : List ℕ) (opened : Table) → FindsKeys bytes opened → IsAnyKeyLog bytes
any_key_log bytes opened keys = record { commands = keys.commands; table = keys.table; log = keys.log }

unsummed_too : (found : ℕ → List ℕ) (opened : Table) (end : ReplayEnd) → FindsKeys (found 0) opened → IsUnsummedNames (found 1) end → IsUnsummed found end
unsummed_too found opened (replay_end.DamagedNames at) keys is = (any_key_log (found 0) opened keys, is)
unsummed_too found opened replay_end.Spent keys is = inr (any_key_log (found 0) opened keys, is)
unsummed_too found opened replay_end.NoMemory keys is = tt
unsummed_too found opened replay_end.Done keys is = absurd is
unsummed_too found opened (replay_end.AclRefused number) keys is = absurd is
unsummed_too found opened (replay_end.AclRepeated number) keys is = absurd is
unsummed_too found opened (replay_end.AclUnknown number) keys is = absurd is
unsummed_too found opened replay_end.AclTooLong keys is = absurd is
unsummed_too found opened replay_end.BadLine keys is = absurd is
unsummed_too found opened (replay_end.DamagedKeys at) keys is = absurd is
unsummed_too found opened replay_end.StoreFault keys is = absurd is
unsummed_too found opened replay_end.ReadFault keys is = absurd is
unsummed_too found opened replay_end.WriteFault keys is = absurd is

pub unsummed_both : (found found' : ℕ → List ℕ) (opened : Table) (r : Result (List ℕ) ReplayEnd) → FindsKeys (found 0) opened → found' 1 ≡ found 1 → IfErr r (IsUnsummedNames (found' 1)) → IfErr r (IsUnsummed found)
unsummed_both found found' opened (Ok text) keys same is = tt
unsummed_both found found' opened (Err end) keys same is = unsummed_too found opened end keys (subst (λ (bytes : List ℕ). IsUnsummedNames bytes end) same is)

pub reports_found : (found : ℕ → List ℕ) (r : Result (List ℕ) ReplayEnd) (written now : Option (List ℕ)) (status : ℕ) → IfOk r (SumsUp found) → IfErr r (IsUnsummed found)
    → MatchResult r (λ text. ShowsWith text 0 written now status) (λ end. Reports end written now status) → ReportsFound written now status found
reports_found found (Ok text) written now status sums unsummed shows = inl (text, sums, shows)
reports_found found (Err end) written now status sums unsummed shows = inr (end, unsummed, shows)
