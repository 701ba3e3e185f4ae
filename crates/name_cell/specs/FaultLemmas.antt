-- A step of the namesystem over its disk is one of the namesystem, whatever the fault.
use Rattle.std.specs.Prelude.{ℕ, Bool, true, false, List, Option, Some, None, Result}
use Rattle.std.proofs.Common.{inl, inr}
use Rattle.hk_base.specs.declared.texts.Text.{Text}
use Rattle.edit_ops.specs.declared.ops.EditOp.{EditOp}
use Rattle.name_calls.specs.declared.calls.KeyAnswer.{KeyAnswer}
use Rattle.name_calls.specs.declared.calls.KeyAnswer.TheVariants as answer
use Rattle.name_calls.specs.declared.calls.NameCall.{NameCall}
use Rattle.name_calls.specs.declared.calls.NameRefusal.{NameRefusal}
use Rattle.name_calls.specs.declared.calls.NameReply.{NameReply}
use Rattle.name_calls.specs.declared.paths.NPath.{NPath}
use Rattle.name_calls.specs.declared.status.Delivered.{Delivered}
use Rattle.name_core.specs.declared.asks.OpenAsk.{OpenAsk}
use Rattle.name_core.specs.declared.walks.Walked.{Walked}
use Rattle.name_core.specs.State.{NameService, NameState}
use Rattle.name_core.specs.Asks.{open_ask}
use Rattle.name_core.specs.Calls.{early_causes, first_cause, path_causes}
use Rattle.name_core.specs.Laws.{AnyFault}
use Rattle.name_core.specs.Service.{FinishServes, FinishServesAt, FinishServesOpen, NameServes, ServesBy, ServesUnless, is_change}
use Rattle.name_core.specs.Updates.{UpdateDeed}
use Rattle.name_core.specs.Updating.{UpdateServes}
use Rattle.name_core.specs.Walking.{WalkServes, WalkServesUnless}

module _ (F : Type 0) where
  pub call_by_any : (s : NameService) (user : Text) (c : NameCall) (reply : NameReply) (logged : List EditOp) (s' : NameService) → NameServes s user c F reply logged s' → NameServes s user c AnyFault reply logged s'
  call_by_any s user c reply logged s' did = early (first_cause (early_causes user c)) did
    where
      by : (change : Bool) → ServesBy change s c F reply logged s' → ServesBy change s c AnyFault reply logged s'
      by false reads = reads
      by true (inl u) = inl (record { waits = u.waits; failed = tt; reply_is = u.reply_is; none_logged = u.none_logged; same = u.same })
      by true (inr (kept, inl w)) = inr (kept, inl w)
      by true (inr (kept, inr u)) = inr (kept, inr (record { failed = tt; free = u.free; reply_is = u.reply_is; logged_is = u.logged_is; left = u.left }))

      early : (o : Option NameRefusal) → ServesUnless o s c F reply logged s' → ServesUnless o s c AnyFault reply logged s'
      early (Some why) refused = refused
      early None did = by (is_change c) did

  pub finish_by_any : (s : NameService) (id : ℕ) (given : KeyAnswer) (result : Result (Unit {0}) NameRefusal) (logged : List EditOp) (s' : NameService) → FinishServes s id given F result logged s' → FinishServes s id given AnyFault result logged s'
  finish_by_any s id given result logged s' did = found (open_ask s.names.asks id) did
    where
      of : (a : OpenAsk) (given : KeyAnswer) → FinishServesOpen s a given F result logged s' → FinishServesOpen s a given AnyFault result logged s'
      of a (answer.Refused why) ends = ends
      of a (answer.Given edek) (inl u) = inl (record { waits = u.waits; failed = tt; ends = u.ends })
      of a (answer.Given edek) (inr (kept, inl w)) = inr (kept, inl w)
      of a (answer.Given edek) (inr (kept, inr u)) = inr (kept, inr (record { failed = tt; free = u.free; reply_is = u.reply_is; logged_is = u.logged_is; left = u.left }))

      found : (o : Option OpenAsk) → FinishServesAt s o given F result logged s' → FinishServesAt s o given AnyFault result logged s'
      found None ends = ends
      found (Some a) did = of a given did

  pub walk_by_any : (s : NameService) (p : NPath) (result : Result Walked NameRefusal) (logged : List EditOp) (s' : NameService) → WalkServes s p F result logged s' → WalkServes s p AnyFault result logged s'
  walk_by_any s p result logged s' did = early (first_cause (path_causes p)) did
    where
      early : (o : Option NameRefusal) → WalkServesUnless o s p F result logged s' → WalkServesUnless o s p AnyFault result logged s'
      early (Some why) refused = refused
      early None (inl u) = inl (record { waits = u.waits; failed = tt; ends = u.ends })
      early None (inr (kept, inl w)) = inr (kept, inl w)
      early None (inr (kept, inr u)) = inr (kept, inr (record { failed = tt; free = u.free; op = u.op; writes = u.writes; reply_is = u.reply_is; logged_is = u.logged_is; left = u.left }))

  pub update_by_any : (s : NameService) (d : NameState → UpdateDeed) (result : Result Delivered NameRefusal) (logged : List EditOp) (s' : NameService) → UpdateServes s d F result logged s' → UpdateServes s d AnyFault result logged s'
  update_by_any s d result logged s' (inl u) = inl (record { waits = u.waits; failed = tt; ends = u.ends })
  update_by_any s d result logged s' (inr (kept, inl w)) = inr (kept, inl w)
  update_by_any s d result logged s' (inr (kept, inr u)) = inr (kept, inr (record { failed = tt; op = u.op; writes = u.writes; reply_is = u.reply_is; logged_is = u.logged_is; left = u.left }))
