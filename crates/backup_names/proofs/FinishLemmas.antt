-- What a finish does while nothing is pending.
use Rattle.std.proofs.Common.{◌≡◌, ℕ, ◌⊎◌, inl, inr, true, List, Option, None, Some, Result, Ok, Err, is_some, refl, sym, ap, ◌∙◌, subst}
use Rattle.hk_base.specs.declared.names.Edek.{Edek}
use Rattle.kms_calls.specs.declared.calls.KmsRefusal.{KmsRefusal}
use Rattle.kms_calls.specs.declared.calls.KmsRefusal.TheVariants as key
use Rattle.kms_calls.specs.declared.calls.KmsReply.{KmsReply}
use Rattle.kms_calls.specs.declared.calls.KmsReply.TheVariants as key_reply
use Rattle.edit_ops.specs.declared.ops.EditOp.{EditOp}
use Rattle.std.specs.Option.{option_and_then}
use Rattle.inode_tree.specs.declared.rows.Row.{Row}
use Rattle.inode_tree.specs.declared.rows.Kind.{Kind}
use Rattle.inode_tree.specs.declared.rows.Kind.TheVariants.{Dir, File}
use Rattle.inode_tree.specs.Rows.{Entry, is_dir, is_dir_at, mark_of, row_at}
use Rattle.name_calls.specs.Answers.{answer_of}
use Rattle.name_calls.specs.declared.calls.Ask.{Ask}
use Rattle.name_calls.specs.declared.calls.Ask.TheVariants as ask
use Rattle.name_calls.specs.declared.calls.KeyAnswer.{KeyAnswer}
use Rattle.name_calls.specs.declared.calls.KeyAnswer.TheVariants as answer
use Rattle.name_calls.specs.declared.calls.NameRefusal.{NameRefusal}
use Rattle.name_calls.specs.declared.calls.NameRefusal.TheVariants as refusal
use Rattle.file_orders.specs.Ends.{end_of_names}
use Rattle.file_orders.specs.declared.ends.FsEnd.TheVariants as end
use Rattle.zone_table.specs.declared.statuses.StatusRow.{StatusRow}
use Rattle.name_store.specs.Causes.{first_cause, id_at, id_of}
use Rattle.name_store.specs.Table.{NameTable, after_table}
use Rattle.name_store.proofs.CauseLemmas.{makeable, markable}
use Rattle.name_core.specs.declared.asks.OpenAsk.{OpenAsk}
use Rattle.name_core.specs.Asks.{Finishes, ask_gone, finish_causes, finish_op, open_ask, unless_stopped}
use Rattle.name_core.specs.Calls.{NoRoom, Plain}
use Rattle.name_core.specs.Service.{FinishServes, FinishServesAt, FinishServesOpen}
use Rattle.name_core.specs.State.{NameService, NameState, RunningNames, names_of, service_of}
use Rattle.name_core.proofs.AllowedLemmas.{may-make-file, may-make-zone}
use Rattle.name_core.proofs.AskLemmas.{open-id}
use Rattle.backup_names.specs.Changes.{ChangesTable, FinishesFile, FinishesZone}
use Rattle.backup_names.specs.Ends.{IsFaultOfKeys, ShowsRefusal, finish_end}
use Rattle.backup_names.specs.Orders.{IsSettled}
use Rattle.backup_names.proofs.MakeLemmas.{AllNoFaults, cause_is, same_error, settled_same, waits_not}

no_fault_causes : (rows : List Entry) (statuses : List StatusRow) (a : OpenAsk) (edek : Option Edek) (k : Ask) → AllNoFaults (finish_causes rows statuses a edek k)
no_fault_causes rows statuses a edek (ask.Create p) = (λ h. absurd cc, (λ h. absurd cc, (λ h. absurd cc, (λ h. absurd cc, (λ h. absurd cc, (λ h. absurd cc, (λ h. absurd cc, tt)))))))
no_fault_causes rows statuses a edek (ask.Zone p key) = (λ h. absurd cc, (λ h. absurd cc, (λ h. absurd cc, (λ h. absurd cc, (λ h. absurd cc, (λ h. absurd cc, tt))))))
no_fault_causes rows statuses a edek (ask.Submit p) = (λ h. absurd cc, (λ h. absurd cc, (λ h. absurd cc, (λ h. absurd cc, (λ h. absurd cc, (λ h. absurd cc, (λ h. absurd cc, tt)))))))

-- only a fault of its disk is a store fault of the key management service
fault_of_keys : (why : KmsRefusal) → end_of_names (refusal.KeyRefused why) ≡ end.StoreFault → why ≡ key.StoreFault
fault_of_keys key.BadRequest is = absurd cc
fault_of_keys key.NoUser is = absurd cc
fault_of_keys (key.Denied table op) is = absurd cc
fault_of_keys key.NoSuchKey is = absurd cc
fault_of_keys key.NoSuchVersion is = absurd cc
fault_of_keys key.KeyExists is = absurd cc
fault_of_keys key.WrongKey is = absurd cc
fault_of_keys key.BadMaterial is = absurd cc
fault_of_keys key.BadLength is = absurd cc
fault_of_keys key.TooManyKeys is = absurd cc
fault_of_keys key.TooManyVersions is = absurd cc
fault_of_keys key.TooManyAsked is = absurd cc
fault_of_keys key.NoMemory is = absurd cc
fault_of_keys key.StoreFault is = refl

-- the finish of an ask that nothing stops makes this change
abbrev pub Makes : RunningNames → ℕ → KeyAnswer → (NameTable → NameTable → Type 0) → Type 0
Makes r id given change =
    (a : OpenAsk) (edek : Option Edek) (new : NameTable) → open_ask r.asks id ≡ Some a → given ≡ answer.Given edek → first_cause (finish_causes r.store.table.rows r.store.table.statuses a edek a.ask) ≡ None
    → new ≡ after_table r.store.table (finish_op a.id edek a.ask) → change r.store.table new

-- The finish ended, and with a store fault only if a disk had a fault.
pub record Finished (r r' : RunningNames) (given : KeyAnswer) (change : NameTable → NameTable → Type 0) (fault : Type 0) (result : Result (Unit {0}) NameRefusal) : Type 0 where
  pub changes : ChangesTable (finish_end result) change r r'
  pub why : finish_end result ≡ Err end.StoreFault → fault ⊎ (given ≡ answer.Refused key.StoreFault)

module _ (r r' : RunningNames) (id : ℕ) (given : KeyAnswer) (change : NameTable → NameTable → Type 0) (fault : Type 0) (settled_is : IsSettled r) (makes : Makes r id given change) where
  abbrev Ends : Result (Unit {0}) NameRefusal → Type 0
  Ends result = Finished r r' given change fault result

  stopped : (why : NameRefusal) → r'.store.table ≡ r.store.table → (end_of_names why ≡ end.StoreFault → fault ⊎ (given ≡ answer.Refused key.StoreFault)) → Ends (Err why)
  stopped why same fails = record { changes = same; why = λ is. fails (same_error (Unit {0}) (end_of_names why) end.StoreFault is) }

  at_result : (result was : Result (Unit {0}) NameRefusal) → result ≡ was → Ends was → Ends result
  at_result result was same ended = subst Ends (sym same) ended

  finishes_end : (a : OpenAsk) (edek : Option Edek) (result : Result (Unit {0}) NameRefusal) (changed : NameState) → open_ask r.asks id ≡ Some a → given ≡ answer.Given edek → Finishes (names_of r) a edek result changed
      → service_of r' ≡ record { names = changed; pending = None } → Ends result
  finishes_end a edek result changed found gave (NoRoom, may, is) left =
      at_result result (Err refusal.NoMemory) (ap (λ o. o.reply) is) (stopped refusal.NoMemory (ap (λ (x : NameService). x.names.table) left ∙ ap (λ o. o.state.table) is) (λ h. absurd cc))
  finishes_end a edek result changed found gave (Plain, may, is) left = plain (first_cause (finish_causes r.store.table.rows r.store.table.statuses a edek a.ask)) refl is
    where
      plain : (o : Option NameRefusal) → first_cause (finish_causes r.store.table.rows r.store.table.statuses a edek a.ask) ≡ o → (record { reply = result; state = changed }) ≡ unless_stopped o (names_of r) a edek → Ends result
      plain (Some why) cause is =
          at_result result (Err why) (ap (λ o. o.reply) is)
          (stopped why (ap (λ (x : NameService). x.names.table) left ∙ ap (λ o. o.state.table) is) (λ h. absurd (cause_is (finish_causes r.store.table.rows r.store.table.statuses a edek a.ask) why (no_fault_causes r.store.table.rows r.store.table.statuses a edek a.ask) cause h)))
      plain None free is =
          at_result result (Ok tt) (ap (λ o. o.reply) is) (record {
            changes = (makes a edek r'.store.table found gave free (ap (λ (x : NameService). x.names.table) left ∙ ap (λ o. o.state.table) is), ap (λ (x : NameService). x.pending) left);
            why = λ h. absurd cc;
          })

  open_end : (a : OpenAsk) (given' : KeyAnswer) (result : Result (Unit {0}) NameRefusal) (logged : List EditOp) → open_ask r.asks id ≡ Some a → given ≡ given' → FinishServesOpen (service_of r) a given' fault result logged (service_of r')
      → Ends result
  open_end a (answer.Refused why) result logged found gave x =
      at_result result (Err (refusal.KeyRefused why)) x.reply_is
      (stopped (refusal.KeyRefused why) (ap (λ (y : NameService). y.names.table) x.left_is) (λ h. inr (gave ∙ ap answer.Refused (fault_of_keys why h))))
  open_end a (answer.Given edek) result logged found gave (inl x) = waits_not r.store.log.pending settled_is x.waits
  open_end a (answer.Given edek) result logged found gave (inr (kept, inl x)) =
      finishes_end a edek result x.changed found gave (subst (λ (n : NameState). Finishes n a edek result x.changed) (settled_same kept (service_of r) settled_is) x.finishes) x.left
  open_end a (answer.Given edek) result logged found gave (inr (kept, inr x)) =
      at_result result (Err refusal.StoreFault) x.reply_is
      (stopped refusal.StoreFault (ap (λ (y : NameService). y.names.table) x.left ∙ ap (λ (n : NameState). n.table) (settled_same kept (service_of r) settled_is)) (λ h. inl x.failed))

  pub finish_ended : (result : Result (Unit {0}) NameRefusal) (logged : List EditOp) → FinishServes (service_of r) id given fault result logged (service_of r') → Ends result
  finish_ended result logged serves = go (open_ask r.asks id) refl serves
    where
      go : (o : Option OpenAsk) → open_ask r.asks id ≡ o → FinishServesAt (service_of r) o given fault result logged (service_of r') → Ends result
      go None found x = at_result result (Err (ask_gone (names_of r))) x.reply_is (stopped (ask_gone (names_of r)) (ap (λ (y : NameService). y.names.table) x.left_is) (λ h. absurd cc))
      go (Some a) found x = open_end a given result logged found refl x

same_open : (a b : OpenAsk) (o : Option OpenAsk) → o ≡ Some a → o ≡ Some b → a ≡ b
same_open a b o is was = cc

abbrev row_with : ℕ → Kind → Row
row_with id kind = record { id = id; kind = kind }

-- a directory without a key
unmarked_row : (rows : List Entry) (p : List (List ℕ)) (o : Option Row) → row_at rows p ≡ o → is_dir_at o ≡ true → option_and_then (λ (r : Row). mark_of r.kind) o ≡ None
    → row_at rows p ≡ Some (record { id = id_of o; kind = Dir None })
unmarked_row rows p None there dir none = absurd cc
unmarked_row rows p (Some row) there dir none = there ∙ ap Some (go row.kind dir none)
  where
    go : (k : Kind) → is_dir k ≡ true → mark_of k ≡ None → row_with row.id k ≡ row_with row.id (Dir None)
    go (Dir None) dir none = refl
    go (Dir (Some key)) dir none = absurd cc
    go (File edek) dir none = absurd cc

-- the ask of a zone marks its directory
pub zone_makes : (r : RunningNames) (id : ℕ) (given : KeyAnswer) → Makes r id given (FinishesZone id r)
zone_makes r id given a edek new found gave free is path key asked =
    let for : a.ask ≡ ask.Zone path key = ap (λ (x : OpenAsk). x.ask) (same_open a asked.asked (open_ask r.asks id) found asked.found) ∙ asked.is in
    let may = markable r.store.table.rows path (may-make-zone r.store.table.rows r.store.table.statuses a edek path key (subst (λ (k : Ask). first_cause (finish_causes r.store.table.rows r.store.table.statuses a edek k) ≡ None) for free)) in
    record {
      id = id_at r.store.table.rows path;
      was = unmarked_row r.store.table.rows path (row_at r.store.table.rows path) refl may.dir may.unmarked;
      empty = may.empty;
      made = is ∙ ap (λ (k : Ask). after_table r.store.table (finish_op a.id edek k)) for;
    }

given_is : (a b : Option Edek) → answer.Given a ≡ answer.Given b → a ≡ b
given_is a b is = cc

-- the ask of a file makes it
pub file_makes : (r : RunningNames) (id : ℕ) (edek : Option Edek) → Makes r id (answer.Given edek) (FinishesFile id edek r)
file_makes r id edek a given new found gave free is path asked =
    let for : a.ask ≡ ask.Create path = ap (λ (x : OpenAsk). x.ask) (same_open a asked.asked (open_ask r.asks id) found asked.found) ∙ asked.is in
    let with : given ≡ edek = sym (given_is edek given gave) in
    let may = makeable r.store.table.rows path (may-make-file r.store.table.rows r.store.table.statuses a given path (subst (λ (k : Ask). first_cause (finish_causes r.store.table.rows r.store.table.statuses a given k) ≡ None) for free)).made in
    record {
      free = asked.free;
      house = may.house;
      absent = may.absent;
      made = is ∙ ap (λ (k : Ask). after_table r.store.table (finish_op a.id given k)) for ∙ (λ i. after_table r.store.table (finish_op (open-id r.asks id a found i) (with i) (ask.Create path)));
    }

-- an encrypted key was given, so no refusal
pub given_only : (edek : Option Edek) (fault : Type 0) → fault ⊎ (answer.Given edek ≡ answer.Refused key.StoreFault) → fault
given_only edek fault (inl failed) = failed
given_only edek fault (inr is) = absurd cc

-- a reply that means a refusal is one
pub refusal_given : (given : KmsReply) (why : KmsRefusal) → answer_of (Some given) ≡ answer.Refused why → given ≡ key_reply.Refused why
refusal_given (key_reply.Refused is) why same = let refused : is ≡ why = cc in ap key_reply.Refused refused
refusal_given (key_reply.Key dek) why same = absurd cc
refusal_given (key_reply.Version version material) why same = absurd cc
refusal_given (key_reply.Metadata meta) why same = absurd cc
refusal_given (key_reply.Metadatas metas) why same = absurd cc
refusal_given (key_reply.Names names) why same = absurd cc
refusal_given (key_reply.Versions versions) why same = absurd cc
refusal_given (key_reply.Ready keys) why same = absurd cc
refusal_given (key_reply.Resealed sealed) why same = absurd cc
refusal_given key_reply.Done why same = absurd cc

pub zone_fault : (given : KmsReply) (fault : Type 0) → fault ⊎ (answer_of (Some given) ≡ answer.Refused key.StoreFault) → fault ⊎ IsFaultOfKeys given
zone_fault given fault (inl failed) = inl failed
zone_fault given fault (inr is) = inr (refusal_given given key.StoreFault is)

-- the refusal of the key management service is shown

refused_at : (r r' : RunningNames) (o : Option OpenAsk) (why : KmsRefusal) (fault : Type 0) (result : Result (Unit {0}) NameRefusal) (logged : List EditOp) → is_some o ≡ true
    → FinishServesAt (service_of r) o (answer.Refused why) fault result logged (service_of r') → result ≡ Err (refusal.KeyRefused why)
refused_at r r' None why fault result logged there x = absurd cc
refused_at r r' (Some a) why fault result logged there x = x.reply_is

pub shows_refusal : (r r' : RunningNames) (id : ℕ) (given : KmsReply) (fault : Type 0) (result : Result (Unit {0}) NameRefusal) (logged : List EditOp)
    → FinishServes (service_of r) id (answer_of (Some given)) fault result logged (service_of r') → ShowsRefusal given id r (finish_end result)
shows_refusal r r' id (key_reply.Refused why) fault result logged serves = λ there. ap finish_end (refused_at r r' (open_ask r.asks id) why fault result logged there serves)
shows_refusal r r' id (key_reply.Key dek) fault result logged serves = tt
shows_refusal r r' id (key_reply.Version version material) fault result logged serves = tt
shows_refusal r r' id (key_reply.Metadata meta) fault result logged serves = tt
shows_refusal r r' id (key_reply.Metadatas metas) fault result logged serves = tt
shows_refusal r r' id (key_reply.Names names) fault result logged serves = tt
shows_refusal r r' id (key_reply.Versions versions) fault result logged serves = tt
shows_refusal r r' id (key_reply.Ready keys) fault result logged serves = tt
shows_refusal r r' id (key_reply.Resealed sealed) fault result logged serves = tt
shows_refusal r r' id key_reply.Done fault result logged serves = tt
