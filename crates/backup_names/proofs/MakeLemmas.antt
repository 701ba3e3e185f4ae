-- What a call for a directory does while nothing is pending.
use Rattle.std.proofs.Common.{◌≡◌, ℕ, ◌⊎◌, inl, inr, Bool, true, false, cond, List, [], ◌∷◌, Option, None, Some, Result, Err, is_some, refl, sym, ap, ◌∙◌, subst}
use Rattle.std.specs.Prelude.{⊤}
use Rattle.edit_ops.specs.declared.ops.EditOp.{EditOp}
use Rattle.name_calls.specs.declared.calls.NameCall.TheVariants as call
use Rattle.name_calls.specs.declared.calls.NameReply.{NameReply}
use Rattle.name_calls.specs.declared.calls.NameReply.TheVariants as reply
use Rattle.name_calls.specs.declared.calls.NameRefusal.{NameRefusal}
use Rattle.name_calls.specs.declared.calls.NameRefusal.TheVariants as refusal
use Rattle.file_orders.specs.Ends.{end_of_names}
use Rattle.file_orders.specs.declared.ends.FsEnd.{FsEnd}
use Rattle.file_orders.specs.declared.ends.FsEnd.TheVariants as end
use Rattle.name_store.specs.Causes.{first_cause, make_causes}
use Rattle.name_store.specs.Table.{settled_table}
use Rattle.name_store.proofs.CauseLemmas.{makeable, none-of-both}
use Rattle.name_core.specs.State.{IsNames, NameService, NameState, RunningNames, is_full, names_of, next_id, service_of, settled, settled_walks}
use Rattle.name_core.specs.Calls.{NameActs, NoRoom, Plain, deed, mkdir_causes, path_causes, unless_refused}
use Rattle.name_core.specs.Service.{NameServes, ServesUnless}
use Rattle.name_core.proofs.RowLemmas.{id-free}
use Rattle.backup_names.specs.Changes.{ChangesTable, MakesDirectory}
use Rattle.backup_names.specs.Ends.{change_end}
use Rattle.backup_names.specs.Orders.{IsSettled}

-- nothing was pending, so nothing is settled
pub settled_same : (kept : Bool) (s : NameService) → s.pending ≡ None → settled kept s ≡ s.names
settled_same kept s is = ap at is
  where
    at : Option EditOp → NameState
    at pending = record s.names { table = settled_table kept pending s.names.table; walks = settled_walks kept pending s.names.updating s.names.walks }

pub waits_not : {X : Type 0} (pending : Option EditOp) → pending ≡ None → is_some pending ≡ true → X
waits_not None is waits = absurd cc
waits_not (Some o) is waits = absurd cc

-- refusals that are no fault of a disk

abbrev pub IsNoFault : NameRefusal → Type 0
IsNoFault why = end_of_names why ≡ end.StoreFault → ⊥

abbrev pub AllNoFaults : List (Bool × NameRefusal) → Type 0
AllNoFaults [] = ⊤
AllNoFaults (c ∷ cs) = IsNoFault c.1 × AllNoFaults cs

pub cause_is : (cs : List (Bool × NameRefusal)) (why : NameRefusal) → AllNoFaults cs → first_cause cs ≡ Some why → IsNoFault why
cause_is [] why all is = absurd cc
cause_is (c ∷ cs) why all is = go c.0 is (cause_is cs why all.1)
  where
    go : (b : Bool) → cond b (Some c.1) (first_cause cs) ≡ Some why → (first_cause cs ≡ Some why → IsNoFault why) → IsNoFault why
    go true is rest = let same : c.1 ≡ why = cc in subst IsNoFault same all.0
    go false is rest = rest is

abbrev pub failed_by : (T : Type 0) → FsEnd → Result T FsEnd
failed_by T why = Err why

pub same_error : (T : Type 0) (a b : FsEnd) → failed_by T a ≡ failed_by T b → a ≡ b
same_error T a b is = cc

-- The call ended, and with a store fault only if the disk had a fault.
pub record DirectoryEnded (r r' : RunningNames) (p : List (List ℕ)) (fault : Type 0) (answer : NameReply) : Type 0 where
  pub changes : ChangesTable (change_end answer) (MakesDirectory p) r r'
  pub why : change_end answer ≡ Err end.StoreFault → fault

refused_end : (r r' : RunningNames) (p : List (List ℕ)) (fault : Type 0) (why : NameRefusal) → r'.store.table ≡ r.store.table → IsNoFault why ⊎ fault → DirectoryEnded r r' p fault (reply.Refused why)
refused_end r r' p fault why same (inl apart) = record { changes = same; why = λ is. absurd (apart (same_error (Unit {0}) (end_of_names why) end.StoreFault is)) }
refused_end r r' p fault why same (inr failed) = record { changes = same; why = λ is. failed }

pub directory_ended : (r r' : RunningNames) (user : List ℕ) (p : List (List ℕ)) (fault : Type 0) (answer : NameReply) (logged : List EditOp) → IsNames (service_of r) → IsSettled r
    → NameServes (service_of r) user (call.Mkdir p) fault answer logged (service_of r') → DirectoryEnded r r' p fault answer
directory_ended r r' user p fault answer logged names settled_is serves = go (first_cause (path_causes p)) refl serves
  where
    s : NameState
    s = names_of r

    early : (why : NameRefusal) → first_cause (path_causes p) ≡ Some why → IsNoFault why
    early why is = cause_is (path_causes p) why (λ h. absurd cc, tt) is

    late : (why : NameRefusal) → first_cause (mkdir_causes s p) ≡ Some why → IsNoFault why
    late why is = cause_is (mkdir_causes s p) why (λ h. absurd cc, (λ h. absurd cc, (λ h. absurd cc, (λ h. absurd cc, tt)))) is

    at_answer : (is : NameReply) → answer ≡ is → DirectoryEnded r r' p fault is → DirectoryEnded r r' p fault answer
    at_answer is same ended = subst (DirectoryEnded r r' p fault) (sym same) ended

    plain : (changed : NameState) (o : Option NameRefusal) → first_cause (mkdir_causes s p) ≡ o → (record { reply = answer; state = changed }) ≡ unless_refused o s (deed s (call.Mkdir p))
        → service_of r' ≡ record { names = changed; pending = None } → DirectoryEnded r r' p fault answer
    plain changed (Some why) cause is left =
        at_answer (reply.Refused why) (ap (λ o. o.reply) is)
        (refused_end r r' p fault why (ap (λ (x : NameService). x.names.table) left ∙ ap (λ o. o.state.table) is) (inl (late why cause)))
    plain changed None free is left =
        let may = makeable s.table.rows p (none-of-both (make_causes s.table.rows p) ((is_full s, refusal.TooManyInodes) ∷ []) free).0 in
        at_answer reply.Done (ap (λ o. o.reply) is) (record {
          changes = (
            record {
              id = next_id s;
              free = id-free s.table.rows (next_id s) names.ids.of_rows;
              house = may.house;
              absent = may.absent;
              made = ap (λ (x : NameService). x.names.table) left ∙ ap (λ o. o.state.table) is;
            },
            ap (λ (x : NameService). x.pending) left,
          );
          why = λ h. absurd cc;
        })

    acts : (changed : NameState) → NameActs s (call.Mkdir p) answer changed → service_of r' ≡ record { names = changed; pending = None } → DirectoryEnded r r' p fault answer
    acts changed (NoRoom, may, is) left =
        at_answer (reply.Refused refusal.NoMemory) (ap (λ o. o.reply) is)
        (refused_end r r' p fault refusal.NoMemory (ap (λ (x : NameService). x.names.table) left ∙ ap (λ o. o.state.table) is) (inl (λ h. absurd cc)))
    acts changed (Plain, may, is) left = plain changed (first_cause (mkdir_causes s p)) refl is left

    go : (o : Option NameRefusal) → first_cause (path_causes p) ≡ o → ServesUnless o (service_of r) (call.Mkdir p) fault answer logged (service_of r') → DirectoryEnded r r' p fault answer
    go (Some why) cause x = at_answer (reply.Refused why) x.reply_is (refused_end r r' p fault why (ap (λ (y : NameService). y.names.table) x.same) (inl (early why cause)))
    go None free (inl x) = waits_not r.store.log.pending settled_is x.waits
    go None free (inr (kept, inl x)) =
        acts x.changed (subst (λ (n : NameState). NameActs n (call.Mkdir p) answer x.changed) (settled_same kept (service_of r) settled_is) x.acts) x.left
    go None free (inr (kept, inr x)) =
        at_answer (reply.Refused refusal.StoreFault) x.reply_is
        (refused_end r r' p fault refusal.StoreFault (ap (λ (y : NameService). y.names.table) x.left ∙ ap (λ (n : NameState). n.table) (settled_same kept (service_of r) settled_is)) (inr x.failed))
