-- The pages: their paths, and the status, the type and the text of each.
use Rattle.std.specs.Prelude.{ℕ, Bool, false, List, codes, if◌then◌else◌}
use Rattle.service_health.specs.declared.counts.CallCounts.{CallCounts}
use Rattle.service_health.specs.declared.pages.Page.{Page}
use Rattle.service_health.specs.declared.pages.Page.TheVariants as page
use Rattle.service_health.specs.Counts.{is_failing}
use Rattle.service_health.specs.Texts.{health_text, home_text, metrics_text}

-- the path of a page
abbrev pub page_path : Page → List ℕ
page_path page.Home = codes "/"
page_path page.Health = codes "/health"
page_path page.Metrics = codes "/metrics"

-- the media type of a page
abbrev pub page_type : Page → List ℕ
page_type page.Home = codes "text/html; charset=utf-8"
page_type page.Health = codes "application/json"
page_type page.Metrics = codes "text/plain; version=0.0.4"

-- whether the status of a page says that the server fails: on that of the health, if the log of either service fails
abbrev pub page_fails : Page → CallCounts → Bool
page_fails page.Home c = false
page_fails page.Health c = is_failing c
page_fails page.Metrics c = false

-- the status of a page
abbrev pub page_status : Page → CallCounts → ℕ
page_status page c = if page_fails page c then 503 else 200

-- the text of a page
abbrev pub page_text : Page → CallCounts → List ℕ
page_text page.Home c = home_text c
page_text page.Health c = health_text c
page_text page.Metrics c = metrics_text c
