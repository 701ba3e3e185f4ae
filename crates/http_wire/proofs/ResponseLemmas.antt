-- The status line, part by part.
use Rattle.std.proofs.Common.{◌≡◌, ℕ, List, ◌++◌, codes, ap, ◌∙◌, append_assoc}
use Rattle.http.specs.StatusCode.{code_digits}
use Rattle.http_wire.specs.Responses.{phrase, crlf, status_line}

pub status_appended : (status : ℕ) (old a b c d new : List ℕ) → a ≡ old ++ codes "HTTP/1.1 " → b ≡ a ++ code_digits status → c ≡ b ++ codes " " → d ≡ c ++ phrase status → new ≡ d ++ crlf → new ≡ old ++ status_line status
unfolding status_line
status_appended status old a b c d new e1 e2 e3 e4 e5 =
    e5 ∙ ap (λ l. l ++ crlf) (e4 ∙ ap (λ l. l ++ phrase status) (e3 ∙ ap (λ l. l ++ codes " ") (e2 ∙ ap (λ l. l ++ code_digits status) e1))) ∙ simp append_assoc
