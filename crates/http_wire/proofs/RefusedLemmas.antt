-- Why a head is refused.
use Rattle.std.proofs.Common.{◌≡◌, ℕ, ◌≤◌, Bool, true, false, cond, List, length, take, map, Option, None, Some, Ok, Err, sym, ap, ◌∙◌, subst, arith}
use Rattle.std.proofs.lemmas.List.{length-map, length-take}
use Rattle.std.specs.List.{list_any}
use Rattle.std.specs.Prelude.{codes, nat_lt}
use Rattle.httparse.specs.Grammar.{RequestHead}
use Rattle.httparse.specs.Spans.{header_bytes, name_and_value}
use Rattle.httparse.specs.declared.spans.HeaderSpan.{HeaderSpan}
use Rattle.httparse.specs.declared.spans.RequestSpans.{RequestSpans}
use Rattle.http_wire.specs.declared.faults.WireFault.{WireFault}
use Rattle.http_wire.specs.declared.faults.WireFault.TheVariants.{Chunked, BadLength, BodyTooLong}
use Rattle.http_wire.specs.Fields.{fields_of, is_named, values, agreed, sized, body_length}
use Rattle.http_wire.specs.Heads.{IsHead}
use Rattle.http_wire.specs.Parsing.{FoundHead}
use Rattle.http_wire.specs.Requests.{Faulty, RefusesHead}

too_long : (b : Bool) (n : ℕ) (fault : WireFault) (P : WireFault → Type 0) → cond b (Err BodyTooLong) (Ok n) ≡ Err fault → P BodyTooLong → P fault
too_long true n fault P e long = let same : BodyTooLong ≡ fault = cc in subst P same long
too_long false n fault P e long = absurd (cc)

not_sized : (length : Option ℕ) (fault : WireFault) (P : WireFault → Type 0) → sized length ≡ Err fault → P BadLength → P BodyTooLong → P fault
not_sized None fault P e bad long = let same : BadLength ≡ fault = cc in subst P same bad
not_sized (Some n) fault P e bad long = too_long (nat_lt 4194304 n) n fault P e long

either : (b : Bool) (length : Option ℕ) (fault : WireFault) (P : WireFault → Type 0) → cond b (Err Chunked) (sized length) ≡ Err fault → P Chunked → P BadLength → P BodyTooLong → P fault
either true length fault P e chunked bad long = let same : Chunked ≡ fault = cc in subst P same chunked
either false length fault P e chunked bad long = not_sized length fault P e bad long

-- the three faults of fields
pub fault_of_fields : (fields : List (List ℕ × List ℕ)) (fault : WireFault) (P : WireFault → Type 0) → body_length fields ≡ Err fault → P Chunked → P BadLength → P BodyTooLong → P fault
unfolding body_length
fault_of_fields fields fault P e = either (list_any (is_named (codes "transfer-encoding")) fields) (agreed (values (codes "content-length") fields)) fault P e

pub refuses : (bytes : List ℕ) (fault : WireFault) → Faulty bytes fault → RefusesHead bytes fault
refuses bytes fault faulty = fault_of_fields (fields_of faulty.h) fault (λ f. Faulty bytes f → RefusesHead bytes f) faulty.why (λ h. h) (λ h. h) (λ h. h) faulty

-- a head whose fields fit has at most 64 of them
pub found_is_head : (bytes : List ℕ) (headers : List HeaderSpan) (spans : RequestSpans) (h : RequestHead) → FoundHead bytes headers spans h → length headers ≤ 64 → IsHead bytes h
found_is_head bytes headers spans h found room =
    let front = take spans.headers headers in
    let count : length h.fields ≡ length front = sym (length-map h.fields name_and_value) ∙ sym (ap length found.at.fields) ∙ length-map front (header_bytes bytes) in
    (found.reads, omega (arith, count, length-take spans.headers headers))

pub found_refused : (bytes : List ℕ) (headers : List HeaderSpan) (spans : RequestSpans) (h : RequestHead) (fault : WireFault) → FoundHead bytes headers spans h → length headers ≤ 64 → body_length (map (header_bytes bytes) (take spans.headers headers)) ≡ Err fault → RefusesHead bytes fault
found_refused bytes headers spans h fault found room why = refuses bytes fault (record {
  h = h;
  is = found_is_head bytes headers spans h found room;
  why = ap body_length (sym found.at.fields) ∙ why;
})
