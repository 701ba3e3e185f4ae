-- An ask that was accepted is open, under an id that no row has.
use Rattle.std.proofs.Common.{◌≡◌, ℕ, ◌<◌, Bool, true, false, cond, List, [], ◌∷◌, ◌++◌, Option, None, Some, Result, refl, sym, ap, ◌∙◌, subst, arith}
use Rattle.std.specs.Prelude.{◌==◌, IfErr, IfOk}
use Rattle.std.specs.List.{AllByRecursion}
use Rattle.std.proofs.lemmas.Bool.Decides.{nat_tests}
use Rattle.hk_base.specs.declared.names.KeyName.{KeyName}
use Rattle.inode_tree.specs.Rows.{entry_of}
use Rattle.name_calls.specs.declared.calls.Ask.{Ask}
use Rattle.name_calls.specs.declared.calls.Ask.TheVariants as ask
use Rattle.name_calls.specs.declared.calls.AskNote.{AskNote}
use Rattle.name_calls.specs.declared.calls.NameRefusal.{NameRefusal}
use Rattle.name_store.specs.Causes.{first_cause}
use Rattle.name_store.specs.Store.{StoreState}
use Rattle.name_core.specs.declared.asks.OpenAsk.{OpenAsk}
use Rattle.name_core.specs.Asks.{Asks, ask_causes, ask_opened, open_ask, unless_not_asked}
use Rattle.name_core.specs.Calls.{NoRoom, Plain}
use Rattle.name_core.specs.State.{IsNames, NameState, RunningNames, names_of, next_id, service_of}
use Rattle.name_core.proofs.RowLemmas.{id-free}
use Rattle.backup_names.specs.Changes.{IsAsked}
use Rattle.backup_names.proofs.MakeLemmas.{AllNoFaults, IsNoFault, cause_is}

apart : (m n : ℕ) → m < n → (m == n) ≡ false
apart m n less = grind (arith, nat_tests, less)

itself : (n : ℕ) → (n == n) ≡ true
itself n = grind (arith, nat_tests)

-- the last of the asks, with the highest id
open_last : (asks : List OpenAsk) (q : OpenAsk) → AllByRecursion (λ (a : OpenAsk). a.id < q.id) asks → open_ask (asks ++ q ∷ []) q.id ≡ Some q
open_last [] q below = ap (λ (b : Bool). cond b (Some q) None) (itself q.id)
open_last (a ∷ asks) q below = ap (λ (b : Bool). cond b (Some a) (open_ask (asks ++ q ∷ []) q.id)) (apart a.id q.id below.0) ∙ open_last asks q below.1

-- An ask was accepted and is open, or refused, and then for no fault of a disk.
pub record Accepts (a : Ask) (r' : RunningNames) (answer : Result AskNote NameRefusal) : Type 0 where
  pub opened : IfOk answer (λ (note : AskNote). IsAsked a r' note.id)
  pub why : IfErr answer IsNoFault

pub accepts : (r r' : RunningNames) (user : List ℕ) (a : Ask) (answer : Result AskNote NameRefusal) → AllNoFaults (ask_causes (names_of r) user a) → IsNames (service_of r) → r'.store ≡ r.store → Asks (names_of r) user a answer (names_of r')
    → Accepts a r' answer
accepts r r' user a answer no_faults names same (NoRoom, may, is) =
    subst (Accepts a r') (sym (ap (λ o. o.reply) is)) (record { opened = tt; why = λ h. absurd cc })
accepts r r' user a answer no_faults names same (Plain, may, is) = go (first_cause (ask_causes (names_of r) user a)) refl is
  where
    s : NameState
    s = names_of r

    go : (o : Option NameRefusal) → first_cause (ask_causes s user a) ≡ o → (record { reply = answer; state = names_of r' }) ≡ unless_not_asked o s a → Accepts a r' answer
    go (Some why) cause is = subst (Accepts a r') (sym (ap (λ o. o.reply) is)) (record { opened = tt; why = cause_is (ask_causes s user a) why no_faults cause })
    go None free is =
        let asks : r'.asks ≡ s.asks ++ ask_opened s a ∷ [] = ap (λ o. o.state.asks) is in
        subst (Accepts a r') (sym (ap (λ o. o.reply) is)) (record {
          opened = record {
            asked = ask_opened s a;
            found = ap (λ (l : List OpenAsk). open_ask l (next_id s)) asks ∙ open_last s.asks (ask_opened s a) names.ids.of_asks;
            is = refl;
            free = ap (λ (x : StoreState). entry_of x.table.rows (next_id s)) same ∙ id-free s.table.rows (next_id s) names.ids.of_rows;
          };
          why = tt;
        })

pub file_no_faults : (s : NameState) (user : List ℕ) (p : List (List ℕ)) → AllNoFaults (ask_causes s user (ask.Create p))
file_no_faults s user p = (λ h. absurd cc, (λ h. absurd cc, (λ h. absurd cc, (λ h. absurd cc, (λ h. absurd cc, tt)))))

pub zone_no_faults : (s : NameState) (user : List ℕ) (p : List (List ℕ)) (key : KeyName) → AllNoFaults (ask_causes s user (ask.Zone p key))
zone_no_faults s user p key = (λ h. absurd cc, (λ h. absurd cc, (λ h. absurd cc, (λ h. absurd cc, (λ h. absurd cc, (λ h. absurd cc, (λ h. absurd cc, tt)))))))
