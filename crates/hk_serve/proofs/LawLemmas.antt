-- A connection that its bytes end is determined by them.
use Rattle.std.proofs.Common.{◌≡◌, inl, inr, ℕ, List, refl}
use Rattle.std.specs.Prelude.{None, Some}
use Rattle.http_wire.specs.declared.faults.WireFault.{WireFault}
use Rattle.http_wire.specs.declared.faults.WireFault.TheVariants as wire
use Rattle.http_wire.specs.Laws.{OneListOfRequests}
use Rattle.http_wire.specs.Message.{Message}
use Rattle.hk_base.specs.declared.ended.Ended.{Ended}
use Rattle.hk_base.specs.declared.ended.Ended.TheVariants as ended
use Rattle.hk_serve.specs.Laws.{EndsByBytes}
use Rattle.hk_serve.specs.Served.{AreRequestsOf, IsOfWire}

not_end : (fault : WireFault) → IsOfWire fault → fault ≡ wire.End → ⊥
not_end fault (inl early) end = absurd cc
not_end wire.End (inr answered) end = absurd answered
not_end wire.BadHead (inr answered) end = absurd cc
not_end wire.HeadTooLong (inr answered) end = absurd cc
not_end wire.BadLength (inr answered) end = absurd cc
not_end wire.BodyTooLong (inr answered) end = absurd cc
not_end wire.Chunked (inr answered) end = absurd cc
not_end wire.EndedEarly (inr answered) end = absurd answered
not_end wire.ReadFault (inr answered) end = absurd answered
not_end wire.NoMemory (inr answered) end = absurd answered

pub one_connection : OneListOfRequests → (all : List ℕ) (requests others : List Message) (how other : Ended) → EndsByBytes how → EndsByBytes other → AreRequestsOf all requests how → AreRequestsOf all others other → (requests ≡ others) × (how ≡ other)
one_connection unique all requests others ended.End ended.End _ _ one two = ((unique all requests others (Some wire.End) (Some wire.End) one two).0, refl)
one_connection unique all requests others ended.End ended.Wire _ _ one two =
    let same = (unique all requests others (Some wire.End) (Some two.0) one two.1.1).1 in
    let fault : two.0 ≡ wire.End = cc in
    absurd (not_end two.0 two.1.0 fault)
one_connection unique all requests others ended.End ended.Closed _ _ one two =
    let same = (unique all requests others (Some wire.End) None one two).1 in absurd cc
one_connection unique all requests others ended.Wire ended.End _ _ one two =
    let same = (unique all requests others (Some one.0) (Some wire.End) one.1.1 two).1 in
    let fault : one.0 ≡ wire.End = cc in
    absurd (not_end one.0 one.1.0 fault)
one_connection unique all requests others ended.Wire ended.Wire _ _ one two = ((unique all requests others (Some one.0) (Some two.0) one.1.1 two.1.1).0, refl)
one_connection unique all requests others ended.Wire ended.Closed _ _ one two =
    let same = (unique all requests others (Some one.0) None one.1.1 two).1 in absurd cc
one_connection unique all requests others ended.Closed ended.End _ _ one two =
    let same = (unique all requests others None (Some wire.End) one two).1 in absurd cc
one_connection unique all requests others ended.Closed ended.Wire _ _ one two =
    let same = (unique all requests others None (Some two.0) one two.1.1).1 in absurd cc
one_connection unique all requests others ended.Closed ended.Closed _ _ one two = ((unique all requests others None None one two).0, refl)
one_connection unique all requests others ended.TooLong other one_is _ one two = absurd one_is
one_connection unique all requests others ended.ReadFault other one_is _ one two = absurd one_is
one_connection unique all requests others ended.WriteFault other one_is _ one two = absurd one_is
one_connection unique all requests others ended.NoMemory other one_is _ one two = absurd one_is
one_connection unique all requests others ended.End ended.TooLong _ two_is one two = absurd two_is
one_connection unique all requests others ended.End ended.ReadFault _ two_is one two = absurd two_is
one_connection unique all requests others ended.End ended.WriteFault _ two_is one two = absurd two_is
one_connection unique all requests others ended.End ended.NoMemory _ two_is one two = absurd two_is
one_connection unique all requests others ended.Wire ended.TooLong _ two_is one two = absurd two_is
one_connection unique all requests others ended.Wire ended.ReadFault _ two_is one two = absurd two_is
one_connection unique all requests others ended.Wire ended.WriteFault _ two_is one two = absurd two_is
one_connection unique all requests others ended.Wire ended.NoMemory _ two_is one two = absurd two_is
one_connection unique all requests others ended.Closed ended.TooLong _ two_is one two = absurd two_is
one_connection unique all requests others ended.Closed ended.ReadFault _ two_is one two = absurd two_is
one_connection unique all requests others ended.Closed ended.WriteFault _ two_is one two = absurd two_is
one_connection unique all requests others ended.Closed ended.NoMemory _ two_is one two = absurd two_is
