-- A finish in a run that is refused for its zone.
use Rattle.std.proofs.Common.{◌≡◌, ◌⊎◌, inl, inr, ℕ, suc, ◌<◌, List, [], ◌∷◌, Option, Some, None, Result, Ok, Err, refl, sym, ap, subst, ◌∙◌, arith}
use Rattle.std.specs.List.{AllByRecursion}
use Rattle.std.specs.Option.{option_map}
use Rattle.hk_base.specs.declared.names.Edek.{Edek}
use Rattle.hk_base.specs.declared.texts.Text.{Text}
use Rattle.name_calls.specs.declared.paths.NPath.{NPath}
use Rattle.name_calls.specs.Paths.{read_path}
use Rattle.kms_calls.specs.declared.calls.KmsReply.{KmsReply}
use Rattle.edit_ops.specs.declared.ops.EditOp.{EditOp}
use Rattle.name_core.specs.declared.asks.OpenAsk.{OpenAsk}
use Rattle.name_calls.specs.declared.calls.Ask.{Ask}
use Rattle.name_calls.specs.declared.calls.Ask.TheVariants as ask
use Rattle.name_calls.specs.declared.calls.AskNote.{AskNote}
use Rattle.name_calls.specs.declared.calls.KeyAnswer.{KeyAnswer}
use Rattle.name_calls.specs.declared.calls.KeyAnswer.TheVariants as answer
use Rattle.name_calls.specs.declared.calls.NameRefusal.{NameRefusal}
use Rattle.name_calls.specs.declared.calls.NameRefusal.TheVariants as refusal
use Rattle.name_calls.specs.Answers.{answer_of}
use Rattle.name_core.specs.Asks.{Asks, open_ask}
use Rattle.name_core.specs.Laws.{AnyFault, Asked, IsStep, Reaches}
use Rattle.name_core.specs.Service.{FinishServes, FinishServesAt}
use Rattle.name_core.specs.State.{IsNames, NameService, NameState, next_id}
use Rattle.name_core.specs.Steps.{Keeps}
use Rattle.name_core.proofs.AskLaws.{ids_stay_below}
use Rattle.name_core.proofs.AskLemmas.{open-holds, open-id}
use Rattle.name_core.proofs.KeepLemmas.{keeps-of, keeps-settled, settled-next}
use Rattle.name_core.proofs.LawLemmas.{ask_ids_rise}
use Rattle.hk_events.specs.declared.event.Event.{Event}
use Rattle.hk_events.specs.declared.event.Event.TheVariants as event
use Rattle.hk_events.specs.declared.event.Line.{Line}
use Rattle.hk_events.specs.declared.event.Line.TheVariants as line
use Rattle.world_run.specs.declared.kept.KeptReply.{KeptReply}
use Rattle.world_run.specs.declared.kept.KeptReply.TheVariants.{ToAsk}
use Rattle.kms_core.proofs.ReadyLemmas.{KeepsReady, service_keeps_ready}
use Rattle.world_run.specs.Step.{AskAt, DrawActs, FinishReply, after_ask, ask_line, finish_line, kept_reply, zone_with}
use Rattle.world_run.specs.World.{WorldState, next_note, next_reply, numbered, with_names}
use Rattle.run_laws.specs.Runs.{DiskTells, HappensIn, LeadThrough, RunsRefuseForTheZone, ask_of}
use Rattle.name_core.proofs.AskSteps.{AnyAsk, any-asks, asks-keep, keeps-reopened}
use Rattle.run_laws.proofs.DrawnKeys.{Fits, drawn-fits}
use Rattle.run_laws.proofs.EventSteps.{Reopened, Rests, Stepped, Turns, leads-keep, leads-ready, moves, numbered-last}
use Rattle.run_laws.proofs.RefusalLaw.{refused_for_its_zone}

-- an ask since it was made

abbrev pub IsNot : ℕ → OpenAsk → Type 0
IsNot id q = q.id ≡ id → ⊥

-- Since s, the namesystem only took steps, or no ask with the id is open, as after a restart. The id is used.
record Since (id : ℕ) (s t : NameService) : Type 0 where
  keeps : Keeps t
  used : id < next_id t.names
  how : ((between : List NameService) × Reaches s between t) ⊎ AllByRecursion (IsNot id) t.names.asks

one-more : (s : NameService) (between : List NameService) (t u : NameService) → Reaches s between t → IsStep t u → (more : List NameService) × Reaches s more u
one-more s [] t u is did = (u ∷ [], (subst (λ (x : NameService). IsStep x u) is did, refl))
one-more s (m ∷ ms) t u reaches did = let rest = one-more m ms t u reaches.1 did in (m ∷ rest.0, (reaches.0, rest.1))

since-turn : (id : ℕ) (e : Event) (s t u : NameService) → Turns e t u → Since id s t → Since id s u
since-turn id e s t u (Rests is) h = subst (Since id s) (sym is) h
since-turn id e s t u (Stepped did its) h = record {
  keeps = ids_stay_below t u did h.keeps;
  used = (asks-keep AnyAsk (suc id) (λ q later. tt) t u did h.keeps h.used (any-asks t.names.asks)).0;
  how = elim h.how [
    | inl steps ↦ inl (one-more s steps.0 t u steps.1 did)
    | inr gone ↦ inr (asks-keep (IsNot id) (suc id) (λ q later same. absurd (omega (arith, later, same))) t u did h.keeps h.used gone).1
  ];
}
since-turn id e s t u (Reopened kept is) h =
    subst (Since id s) (sym is) (record {
      keeps = keeps-reopened kept t h.keeps;
      used = let few = (keeps-settled kept t h.keeps).few in let same = settled-next kept t h.keeps in let used = h.used in omega (arith, few, same, used);
      how = inr tt;
    })

since-event : (id : ℕ) (s : NameService) (w : WorldState) (e : Event) (outcome : Line) (w' : WorldState) → HappensIn w e outcome w' → Since id s w.names → Since id s w'.names
since-event id s w e outcome w' happens h = since-turn id e s w.names w'.names (moves w e outcome w' happens).names h

since-run : (id : ℕ) (s : NameService) (w : WorldState) (between : List WorldState) (v : WorldState) → LeadThrough w between v → Since id s w.names → Since id s v.names
since-run id s w [] v is h = subst (λ (x : WorldState). Since id s x.names) (sym is) h
since-run id s w (m ∷ ms) v leads h = since-run id s m ms v leads.1 (since-event id s w leads.0.event leads.0.reply m leads.0.happens h)

-- the ask, which is accepted and whose note is kept
record Accepts (w : WorldState) (k : Ask) (number : ℕ) (note : AskNote) (w' : WorldState) : Type 0 where
  user : Text
  names : NameState
  asks : Asks w.names.names user k (Ok note) names
  left : w'.names ≡ record w.names { names = names }
  noted : numbered w'.kept.notes number ≡ Some note

accepts : (w : WorldState) (user : Text) (k : NPath → Ask) (o : Option NPath) (a : Ask) (number : ℕ) (note : AskNote) (w' : WorldState) → option_map k o ≡ Some a → AskAt w user k o (line.Asked number note) w'
    → Accepts w a number note w'
accepts w user k None a number note w' is acts = absurd cc
accepts w user k (Some p) a number note w' is (inr r) = let f = r.reply_is in absurd cc
accepts w user k (Some p) a number note w' is (inl acts) = go acts.result acts.asks acts.reply_is acts.left
  where
    go : (result : Result AskNote NameRefusal) → Asks w.names.names user (k p) result acts.names → line.Asked number note ≡ ask_line result (next_note w) → w' ≡ after_ask result (with_names acts.names w) → Accepts w a number note w'
    go (Err why) asks tells left = absurd cc
    go (Ok kept) asks tells left =
        let same : kept ≡ note = cc in
        let its : k p ≡ a = cc in
        let at : next_note w ≡ number = cc in
        record {
          user = user;
          names = acts.names;
          asks = subst (λ (x : Ask). Asks w.names.names user x (Ok note) acts.names) its (subst (λ (x : AskNote). Asks w.names.names user (k p) (Ok x) acts.names) same asks);
          left = ap (λ (x : WorldState). x.names) left;
          noted = subst (λ (n : ℕ). numbered w'.kept.notes n ≡ Some note) at (ap (λ (x : WorldState). numbered x.kept.notes (next_note w)) left ∙ numbered-last w.kept.notes kept ∙ ap Some same);
        }

asks-so : (w : WorldState) (e : Event) (a : Ask) (number : ℕ) (note : AskNote) (w' : WorldState) → ask_of e ≡ Some a → HappensIn w e (line.Asked number note) w' → Accepts w a number note w'
asks-so w (event.AskCreate user p) a number note w' is h = accepts w user ask.Create (read_path p) a number note w' is h.step.1
asks-so w (event.AskZone user p key) a number note w' is h = accepts w user (zone_with key) (read_path p) a number note w' is h.step.1
asks-so w (event.AskSubmit user p) a number note w' is h = accepts w user ask.Submit (read_path p) a number note w' is h.step.1
asks-so w (event.Kms user c) a number note w' is h = absurd cc
asks-so w event.Ticket a number note w' is h = absurd cc
asks-so w (event.Deposit n) a number note w' is h = absurd cc
asks-so w event.RestartKms a number note w' is h = absurd cc
asks-so w event.RestartName a number note w' is h = absurd cc
asks-so w (event.Mkdir user p) a number note w' is h = absurd cc
asks-so w (event.Delete user p recursive) a number note w' is h = absurd cc
asks-so w (event.Rename user p q) a number note w' is h = absurd cc
asks-so w (event.Info user p) a number note w' is h = absurd cc
asks-so w (event.List user p) a number note w' is h = absurd cc
asks-so w (event.Allow user p) a number note w' is h = absurd cc
asks-so w (event.Disallow user p) a number note w' is h = absurd cc
asks-so w (event.Snap user p name) a number note w' is h = absurd cc
asks-so w (event.Unsnap user p name) a number note w' is h = absurd cc
asks-so w (event.Cancel user p) a number note w' is h = absurd cc
asks-so w (event.Status user p) a number note w' is h = absurd cc
asks-so w (event.Zones user) a number note w' is h = absurd cc
asks-so w (event.Draw n) a number note w' is h = absurd cc
asks-so w (event.Finish n) a number note w' is h = absurd cc
asks-so w (event.Walk p) a number note w' is h = absurd cc
asks-so w (event.Serve n) a number note w' is h = absurd cc
asks-so w (event.Deliver n) a number note w' is h = absurd cc
asks-so w (event.GiveUp n) a number note w' is h = absurd cc

since-ask : (w : WorldState) (a : Ask) (number : ℕ) (note : AskNote) (w' : WorldState) → IsNames w.names → (acc : Accepts w a number note w') → Since note.id (record w.names { names = acc.names }) w'.names
since-ask w a number note w' names acc =
    let s : NameService = record w.names { names = acc.names } in
    let low = ask_ids_rise w.names.names acc.user a note acc.names acc.asks in
    subst (Since note.id s) (sym acc.left) (record {
      keeps = ids_stay_below w.names s (Asked acc.user a (Ok note) acc.asks refl) (keeps-of w.names names);
      used = omega (arith, low.0, low.1);
      how = inl ([], refl);
    })

-- the draw, whose reply is kept for the ask of the note
record Gives (note : AskNote) (number : ℕ) (w : WorldState) : Type 0 where
  given : KeyAnswer
  replied : numbered w.kept.replies number ≡ Some (ToAsk note.id given)
  fits : Fits note.want given

gives : (w : WorldState) (number : ℕ) (note : AskNote) (reply_number : ℕ) (reply : Option KmsReply) (w' : WorldState) → numbered w.kept.notes number ≡ Some note
    → KeepsReady w.keys → HappensIn w (event.Draw number) (line.Replied reply_number reply) w' → Gives note reply_number w'
gives w number note reply_number reply w' noted keeps h =
    go (subst (λ (o : Option AskNote). DrawActs h.lines w h.words h.now o AnyFault DiskTells (line.Replied reply_number reply) h.drawn h.logged w') noted h.step)
  where
    go : DrawActs h.lines w h.words h.now (Some note) AnyFault DiskTells (line.Replied reply_number reply) h.drawn h.logged w' → Gives note reply_number w'
    go (inr full) = let f = full.reply_is in absurd cc
    go (inl d) =
        let tells = d.reply_is in
        let at : next_reply w ≡ reply_number = cc in
        record {
          given = answer_of d.reply;
          replied = subst (λ (n : ℕ). numbered w'.kept.replies n ≡ Some (kept_reply note d.reply)) at
              (ap (λ (x : WorldState). numbered x.kept.replies (next_reply w)) d.left ∙ numbered-last w.kept.replies (kept_reply note d.reply));
          fits = drawn-fits h.lines w.keys h.words h.now note.want AnyFault DiskTells d.reply h.drawn d.commands d.keys keeps d.acts;
        }

-- the finish, which is refused with ZoneChanged
record Ends (w : WorldState) (id : ℕ) (given : KeyAnswer) (w' : WorldState) : Type 0 where
  ops : List EditOp
  serves : FinishServes w.names id given AnyFault (Err refusal.ZoneChanged) ops w'.names

ends : (w : WorldState) (number : ℕ) (id : ℕ) (given : KeyAnswer) (w' : WorldState) → numbered w.kept.replies number ≡ Some (ToAsk id given) → HappensIn w (event.Finish number) (line.Refused refusal.ZoneChanged) w' → Ends w id given w'
ends w number id given w' replied h = go (subst (λ (o : Option KeptReply). FinishReply w o AnyFault (line.Refused refusal.ZoneChanged) h.drawn h.logged w') replied h.step)
  where
    refused : (result : Result (Unit {0}) NameRefusal) → line.Refused refusal.ZoneChanged ≡ finish_line result → result ≡ Err refusal.ZoneChanged
    refused (Ok done) is = absurd cc
    refused (Err why) is = cc

    go : FinishReply w (Some (ToAsk id given)) AnyFault (line.Refused refusal.ZoneChanged) h.drawn h.logged w' → Ends w id given w'
    go f = record {
      ops = f.ops;
      serves = subst (λ (s : NameService). FinishServes w.names id given AnyFault (Err refusal.ZoneChanged) f.ops s) (sym (ap (λ (x : WorldState). x.names) f.left))
          (subst (λ (r : Result (Unit {0}) NameRefusal). FinishServes w.names id given AnyFault r f.ops f.names) (refused f.result f.reply_is) f.finishes);
    }

-- it is refused so only if its ask is open and it was given no refusal

was-open : (s : NameService) (id : ℕ) (given : KeyAnswer) (logged : List EditOp) (s' : NameService) → FinishServes s id given AnyFault (Err refusal.ZoneChanged) logged s' → AllByRecursion (IsNot id) s.names.asks → ⊥
was-open s id given logged s' finish gone = go (open_ask s.names.asks id) refl finish
  where
    go : (o : Option OpenAsk) → open_ask s.names.asks id ≡ o → FinishServesAt s o given AnyFault (Err refusal.ZoneChanged) logged s' → ⊥
    go None is e = let f = e.reply_is in absurd cc
    go (Some q) is e = open-holds (IsNot id) s.names.asks id q gone is (open-id s.names.asks id q is)

was-given : (s : NameService) (id : ℕ) (given : KeyAnswer) (logged : List EditOp) (s' : NameService) → FinishServes s id given AnyFault (Err refusal.ZoneChanged) logged s' → (edek : Option Edek) × (given ≡ answer.Given edek)
was-given s id (answer.Given edek) logged s' finish = (edek, refl)
was-given s id (answer.Refused why) logged s' finish = go (open_ask s.names.asks id) finish
  where
    go : (o : Option OpenAsk) → FinishServesAt s o (answer.Refused why) AnyFault (Err refusal.ZoneChanged) logged s' → (edek : Option Edek) × (answer.Refused why ≡ answer.Given edek)
    go None e = let f = e.reply_is in absurd cc
    go (Some q) e = let f = e.reply_is in absurd cc

-- the law

pub runs_refuse_for_the_zone : RunsRefuseForTheZone
runs_refuse_for_the_zone w e a number note asked before_draw ready reply_number reply drawn before_finish last refused names keys its asks leads draws leads' finishes = elim since.how [
  | inl steps ↦
      refused_for_its_zone w.names acc.user a note s steps.0 last.names given.0 finish.ops refused.names names acc.asks refl steps.1 (gave.fits given.0 given.1)
      (subst (λ (x : KeyAnswer). FinishServes last.names note.id x AnyFault (Err refusal.ZoneChanged) finish.ops refused.names) given.1 finish.serves)
  | inr gone ↦ absurd (was-open last.names note.id gave.given finish.ops refused.names finish.serves gone)
]
  where
    acc : Accepts w a number note asked
    acc = asks-so w e a number note asked its asks

    s : NameService
    s = record w.names { names = acc.names }

    gave : Gives note reply_number drawn
    gave = gives ready number note reply_number reply drawn ((leads-keep asked before_draw ready leads).notes number note acc.noted)
        (leads-ready asked before_draw ready leads ((moves w e (line.Asked number note) asked asks).ready (service_keeps_ready w.keys keys))) draws

    finish : Ends last note.id gave.given refused
    finish = ends last reply_number note.id gave.given refused ((leads-keep drawn before_finish last leads').replies reply_number _ gave.replied) finishes

    given : (edek : Option Edek) × (gave.given ≡ answer.Given edek)
    given = was-given last.names note.id gave.given finish.ops refused.names finish.serves

    since : Since note.id s last.names
    since =
        since-run note.id s drawn before_finish last leads'
        (since-event note.id s ready (event.Draw number) (line.Replied reply_number reply) drawn draws (since-run note.id s asked before_draw ready leads (since-ask w a number note asked names acc)))
