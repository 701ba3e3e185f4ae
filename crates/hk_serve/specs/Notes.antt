-- What is counted of the calls and the orders of connections.
use Rattle.std.specs.Prelude.{Bool, true, false, not}
use Rattle.kms_calls.specs.declared.calls.KmsCall.{KmsCall}
use Rattle.kms_calls.specs.declared.calls.KmsCall.TheVariants as call
use Rattle.kms_calls.specs.declared.calls.KmsRefusal.TheVariants as keys_refusal
use Rattle.kms_calls.specs.declared.calls.KmsReply.{KmsReply}
use Rattle.kms_calls.specs.declared.calls.KmsReply.TheVariants as keys_reply
use Rattle.name_calls.specs.declared.calls.NameCall.{NameCall}
use Rattle.name_calls.specs.declared.calls.NameCall.TheVariants as name_call
use Rattle.name_calls.specs.declared.calls.NameRefusal.TheVariants as names_refusal
use Rattle.name_calls.specs.declared.calls.NameReply.{NameReply}
use Rattle.name_calls.specs.declared.calls.NameReply.TheVariants as names_reply
use Rattle.name_rest.specs.declared.order.NameOrder.{NameOrder}
use Rattle.name_rest.specs.declared.order.NameOrder.TheVariants as order
use Rattle.service_health.specs.declared.counts.CallEnd.{CallEnd}
use Rattle.service_health.specs.declared.counts.CallEnd.TheVariants as end

-- a call writes a record of the key log if it is done
abbrev pub changes_keys : KmsCall → Bool
changes_keys (call.Create name bits material description) = true
changes_keys (call.Roll name material) = true
changes_keys (call.Delete name) = true
changes_keys _ = false

abbrev pub is_read : NameCall → Bool
is_read (name_call.Info path) = true
is_read (name_call.List path) = true
is_read (name_call.Status path) = true
is_read name_call.Zones = true
is_read _ = false

-- an order writes a record of the edit log if it is done
abbrev pub changes_names : NameOrder → Bool
changes_names (order.Call asked) = not (is_read asked)
changes_names (order.Ask asked) = true

-- how a call ended, by its reply
abbrev pub end_of_keys : KmsReply → CallEnd
end_of_keys (keys_reply.Refused keys_refusal.StoreFault) = end.Failed
end_of_keys (keys_reply.Refused _) = end.Refused
end_of_keys _ = end.Done

abbrev pub end_of_names : NameReply → CallEnd
end_of_names (names_reply.Refused names_refusal.StoreFault) = end.Failed
end_of_names (names_reply.Refused _) = end.Refused
end_of_names _ = end.Done
