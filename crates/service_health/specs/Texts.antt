-- The texts of the pages.
use Rattle.std.specs.Prelude.{ℕ, Bool, true, false, List, ◌++◌, codes}
use Rattle.std.specs.Fmt.{decimal}
use Rattle.service_health.specs.declared.counts.CallTotals.{CallTotals}
use Rattle.service_health.specs.declared.counts.CallCounts.{CallCounts}
use Rattle.service_health.specs.Counts.{is_failing}

-- ---- the health, as JSON (RFC 8259)

abbrev pub state_text : Bool → List ℕ
state_text true = codes "\"failed\""
state_text false = codes "\"ok\""

-- the state of the whole, and that of each service
unfoldable pub health_text : CallCounts → List ℕ
health_text c =
    codes "{\"status\":" ++ state_text (is_failing c)
    ++ codes ",\"services\":{\"keys\":" ++ state_text c.keys.failing
    ++ codes ",\"names\":" ++ state_text c.names.failing
    ++ codes "}}\n"

-- ---- the metrics, in the Prometheus text format 0.0.4

-- a state as a number: 1 if it fails
abbrev pub state_number : Bool → ℕ
state_number true = 1
state_number false = 0

-- the comment lines of a metric
unfoldable pub comment_lines : List ℕ → List ℕ → List ℕ → List ℕ
comment_lines name kind help = codes "# HELP " ++ name ++ codes " " ++ help ++ codes "\n# TYPE " ++ name ++ codes " " ++ kind ++ codes "\n"

-- a line with the value of a metric that a service has
unfoldable pub sample_line : List ℕ → List ℕ → ℕ → List ℕ
sample_line name service value = name ++ codes "{service=\"" ++ service ++ codes "\"} " ++ decimal value ++ codes "\n"

-- a metric with a value of each service
unfoldable pub metric : List ℕ → List ℕ → List ℕ → ℕ → ℕ → List ℕ
metric name kind help keys names = comment_lines name kind help ++ sample_line name (codes "keys") keys ++ sample_line name (codes "names") names

-- a label with the value that it begins before
unfoldable pub label : List ℕ → List ℕ → List ℕ
label before value = before ++ value ++ codes "\""

unfoldable pub calls_labels : List ℕ → List ℕ → List ℕ → List ℕ
calls_labels service kind result = label (codes "hkms_calls_total{service=\"") service ++ label (codes ",kind=\"") kind ++ label (codes ",result=\"") result

-- a line with the number of calls of one service and one kind that ended so
unfoldable pub calls_line : List ℕ → List ℕ → List ℕ → ℕ → List ℕ
calls_line service kind result value = calls_labels service kind result ++ codes "} " ++ decimal value ++ codes "\n"

unfoldable pub totals_lines : List ℕ → List ℕ → CallTotals → List ℕ
totals_lines service kind t =
    calls_line service kind (codes "done") t.done ++ calls_line service kind (codes "refused") t.refused ++ calls_line service kind (codes "failed") t.failed

unfoldable pub calls_metric : CallCounts → List ℕ
calls_metric c =
    comment_lines (codes "hkms_calls_total") (codes "counter") (codes "Calls that connections were answered.")
    ++ totals_lines (codes "keys") (codes "read") c.keys.reads
    ++ totals_lines (codes "keys") (codes "change") c.keys.changes
    ++ totals_lines (codes "names") (codes "read") c.names.reads
    ++ totals_lines (codes "names") (codes "change") c.names.changes

unfoldable pub entries_metric : CallCounts → List ℕ
entries_metric c =
    metric (codes "hkms_entries_total") (codes "counter") (codes "Calls of a service since the start, those of workers included.") c.keys.entries c.names.entries

unfoldable pub failing_metric : CallCounts → List ℕ
failing_metric c =
    metric (codes "hkms_log_failing") (codes "gauge") (codes "1 if the log could not take the latest change.") (state_number c.keys.failing) (state_number c.names.failing)

unfoldable pub metrics_text : CallCounts → List ℕ
metrics_text c = calls_metric c ++ entries_metric c ++ failing_metric c

-- ---- the same for readers, as HTML

abbrev pub state_word : Bool → List ℕ
state_word true = codes "failed"
state_word false = codes "ok"

unfoldable pub table_cell : List ℕ → List ℕ
table_cell text = codes "<td>" ++ text ++ codes "</td>"

-- a row of the table: a heading, and what each service has
unfoldable pub table_row : List ℕ → List ℕ → List ℕ → List ℕ
table_row heading keys names = codes "<tr><th>" ++ heading ++ codes "</th>" ++ table_cell keys ++ table_cell names ++ codes "</tr>\n"

-- the calls of one kind, under these headings
unfoldable pub kind_rows : List ℕ → List ℕ → List ℕ → CallTotals → CallTotals → List ℕ
kind_rows done refused failed keys names =
    table_row done (decimal keys.done) (decimal names.done)
    ++ table_row refused (decimal keys.refused) (decimal names.refused)
    ++ table_row failed (decimal keys.failed) (decimal names.failed)

unfoldable pub home_head : List ℕ
home_head = codes "<!DOCTYPE html>\n<html lang=\"en\">\n<title>hkms</title>\n<h1>hkms</h1>\n<table>\n<tr><th></th><th>Keys</th><th>Namesystem</th></tr>\n"

unfoldable pub home_foot : List ℕ
home_foot = codes "</table>\n<p><a href=\"/health\">health</a> <a href=\"/metrics\">metrics</a></p>\n</html>\n"

unfoldable pub home_text : CallCounts → List ℕ
home_text c =
    home_head
    ++ table_row (codes "Log") (state_word c.keys.failing) (state_word c.names.failing)
    ++ table_row (codes "Calls, those of workers included") (decimal c.keys.entries) (decimal c.names.entries)
    ++ kind_rows (codes "Reads done") (codes "Reads refused") (codes "Reads failed") c.keys.reads c.names.reads
    ++ kind_rows (codes "Changes done") (codes "Changes refused") (codes "Changes failed") c.keys.changes c.names.changes
    ++ home_foot
