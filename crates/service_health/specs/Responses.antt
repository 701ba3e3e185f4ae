-- The responses with pages (RFC 9112).
use Rattle.std.specs.Prelude.{ℕ, Bool, true, false, List, [], ◌∷◌, ◌++◌, codes, length}
use Rattle.std.specs.Fmt.{decimal}
use Rattle.service_health.specs.declared.counts.CallCounts.{CallCounts}
use Rattle.service_health.specs.declared.pages.Page.{Page}
use Rattle.service_health.specs.Pages.{page_fails, page_text, page_type}

-- the line of a status that a page may have, without its end
abbrev pub status_line : Bool → List ℕ
status_line true = codes "HTTP/1.1 503 Service Unavailable"
status_line false = codes "HTTP/1.1 200 OK"

unfoldable pub crlf : List ℕ
crlf = 13 ∷ 10 ∷ []

-- a line of a head, with its end
unfoldable pub field_line : List ℕ → List ℕ → List ℕ
field_line name value = name ++ codes ": " ++ value ++ crlf

-- the first lines of a head, and the type of the body
unfoldable pub first_lines : List ℕ → List ℕ → List ℕ
first_lines lines type = lines ++ crlf ++ field_line (codes "Content-Type") type

unfoldable pub length_field : List ℕ → List ℕ
length_field body = field_line (codes "Content-Length") (decimal (length body))

-- the head of a response that begins with these lines, for this body of this type
unfoldable pub typed_head : List ℕ → List ℕ → List ℕ → List ℕ
typed_head lines type body = first_lines lines type ++ length_field body ++ crlf

-- the response with a page
abbrev pub page_response : Page → CallCounts → List ℕ
page_response page counts = typed_head (status_line (page_fails page counts)) (page_type page) (page_text page counts) ++ page_text page counts

-- the body of the response to another method than GET
unfoldable pub method_body : List ℕ
method_body = codes "{\"RemoteException\":{\"exception\":\"BadMethod\",\"message\":\"BadMethod\"}}"

-- the status line of that response, and the method that there is (RFC 9110, section 15.5.6)
unfoldable pub method_lines : List ℕ
method_lines = codes "HTTP/1.1 405 Method Not Allowed" ++ 13 ∷ 10 ∷ codes "Allow: GET"

abbrev pub method_head : List ℕ
method_head = typed_head method_lines (codes "application/json") method_body

-- the response to another method than GET, to HEAD without its body
abbrev pub method_response : Bool → List ℕ
method_response true = method_head
method_response false = method_head ++ method_body
