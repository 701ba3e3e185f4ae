-- The text of a response (RFC 9112, sections 4 and 6).
use Rattle.std.specs.Prelude.{ℕ, List, [], ◌∷◌, ◌++◌, Bool, ◌||◌, ◌==◌, codes, decimal, length, unwrap_or, IsTrue}
use Rattle.http.specs.StatusCode.{code_digits, reason_phrase}

-- the statuses of responses
abbrev pub is_status : ℕ → Bool
is_status n = n == 200 || n == 201 || n == 400 || n == 401 || n == 403 || n == 404 || n == 405 || n == 409 || n == 413 || n == 431 || n == 500 || n == 501 || n == 503

abbrev pub IsStatus : ℕ → Type 0
IsStatus n = IsTrue (is_status n)

-- the standard phrase of a status
unfoldable pub phrase : ℕ → List ℕ
phrase status = unwrap_or (reason_phrase status) []

abbrev pub crlf : List ℕ
crlf = 13 ∷ 10 ∷ []

unfoldable pub status_line : ℕ → List ℕ
status_line status = codes "HTTP/1.1 " ++ code_digits status ++ codes " " ++ phrase status ++ crlf

-- a body that is not empty is JSON
unfoldable pub type_line : List ℕ → List ℕ
type_line [] = []
type_line (_ ∷ _) = codes "Content-Type: application/json" ++ crlf

unfoldable pub length_line : List ℕ → List ℕ
length_line body = codes "Content-Length: " ++ decimal (length body) ++ crlf

-- the head of the response with this body, and then these bytes
unfoldable pub text_with : ℕ → List ℕ → List ℕ → List ℕ
text_with status body sent = status_line status ++ type_line body ++ length_line body ++ crlf ++ sent

-- the whole response
abbrev pub response_text : ℕ → List ℕ → List ℕ
response_text status body = text_with status body body

-- the response to HEAD: the head of the response with this body, without the body (RFC 9110, section 9.3.2)
abbrev pub head_text : ℕ → List ℕ → List ℕ
head_text status body = text_with status body []
