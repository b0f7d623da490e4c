-- What a peer has besides keys.
use Rattle.std.specs.Prelude.{ℕ, Bool, true, false, List, Option, Some, None, bytes_eq, codes, if◌then◌else◌}
use Rattle.http_calls.specs.declared.method.Method.{Method}
use Rattle.http_calls.specs.declared.page.Page.{Page}
use Rattle.http_calls.specs.declared.page.Page.TheVariants.{Home, List as Keys, Status, Metrics, Health, Ready, Backup, Members, Stop}
use Rattle.http_calls.specs.declared.problem.Allowed.{Allowed}
use Rattle.http_calls.specs.declared.problem.Allowed.TheVariants as Allow

abbrev pub page_of : List ℕ → Option Page
page_of path =
    if bytes_eq path (codes "/") then Some Home
    else (if bytes_eq path (codes "/v1/keys") then Some Keys
    else (if bytes_eq path (codes "/v1/status") then Some Status
    else (if bytes_eq path (codes "/metrics") then Some Metrics
    else (if bytes_eq path (codes "/healthz") then Some Health
    else (if bytes_eq path (codes "/readyz") then Some Ready
    else (if bytes_eq path (codes "/v1/backup") then Some Backup
    else (if bytes_eq path (codes "/v1/members") then Some Members
    else (if bytes_eq path (codes "/v1/stop") then Some Stop else None))))))))

abbrev pub page_methods : Page → Allowed
page_methods Home = Allow.Reads
page_methods Keys = Allow.Reads
page_methods Status = Allow.Reads
page_methods Metrics = Allow.Reads
page_methods Health = Allow.Reads
page_methods Ready = Allow.Reads
page_methods Backup = Allow.Reads
page_methods Members = Allow.Puts
page_methods Stop = Allow.Posts

abbrev pub is_read : Method → Bool
is_read Method.Get = true
is_read Method.Head = true
is_read Method.Put = false
is_read Method.Delete = false
is_read Method.Post = false
is_read Method.Other = false

abbrev pub is_put : Method → Bool
is_put Method.Get = false
is_put Method.Head = false
is_put Method.Put = true
is_put Method.Delete = false
is_put Method.Post = false
is_put Method.Other = false

abbrev pub is_post : Method → Bool
is_post Method.Get = false
is_post Method.Head = false
is_post Method.Put = false
is_post Method.Delete = false
is_post Method.Post = true
is_post Method.Other = false

abbrev pub is_known : Method → Bool
is_known Method.Get = true
is_known Method.Head = true
is_known Method.Put = true
is_known Method.Delete = true
is_known Method.Post = true
is_known Method.Other = false

abbrev pub allows : Allowed → Method → Bool
allows Allow.Keys m = is_known m
allows Allow.Reads m = is_read m
allows Allow.Posts m = is_post m
allows Allow.Puts m = is_put m
