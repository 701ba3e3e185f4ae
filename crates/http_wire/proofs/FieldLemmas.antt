-- The content of the fields, by their positions in the head.
use Rattle.std.proofs.Common.{◌≡◌, ℕ, Bool, true, false, ◌||◌, codes, List, [], ◌∷◌, map, Err, refl, ap, ◌∙◌}
use Rattle.std.specs.List.{list_any}
use Rattle.std.proofs.lemmas.Bool.{cond-true, cond-false}
use Rattle.httparse.specs.declared.spans.HeaderSpan.{HeaderSpan}
use Rattle.httparse.specs.Spans.{header_bytes}
use Rattle.http_wire.specs.declared.faults.WireFault.TheVariants.{Chunked}
use Rattle.http_wire.specs.Fields.{is_named, is_close, values, agreed, sized, body_length}

list_any-map : {X Y : Type 0} (p : Y → Bool) (f : X → Y) (xs : List X) → list_any p (map f xs) ≡ list_any (λ x. p (f x)) xs
list_any-map p f [] = refl
list_any-map p f (x ∷ xs) = ap (λ b. p (f x) || b) (list_any-map p f xs)

pub length_chunked : (buf : List ℕ) (headers : List HeaderSpan) → list_any (λ (header : HeaderSpan). is_named (codes "transfer-encoding") (header_bytes buf header)) headers ≡ true → body_length (map (header_bytes buf) headers) ≡ Err Chunked
unfolding body_length
length_chunked buf headers chunked = cond-true _ _ _ (list_any-map (is_named (codes "transfer-encoding")) (header_bytes buf) headers ∙ chunked)

pub length_sized : (buf : List ℕ) (headers : List HeaderSpan) → list_any (λ (header : HeaderSpan). is_named (codes "transfer-encoding") (header_bytes buf header)) headers ≡ false → body_length (map (header_bytes buf) headers) ≡ sized (agreed (values (codes "content-length") (map (header_bytes buf) headers)))
unfolding body_length
length_sized buf headers plain = cond-false _ _ _ (list_any-map (is_named (codes "transfer-encoding")) (header_bytes buf) headers ∙ plain)

pub closes_is : (buf : List ℕ) (headers : List HeaderSpan) → list_any is_close (map (header_bytes buf) headers) ≡ list_any (λ (header : HeaderSpan). is_close (header_bytes buf header)) headers
closes_is buf headers = list_any-map is_close (header_bytes buf) headers
