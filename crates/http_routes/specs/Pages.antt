-- The routes of the server.
use Rattle.std.specs.Prelude.{◌++◌, ℕ, zero, suc, List, [], ◌∷◌, Option, Some, None, Result, Ok, Err, codes}
use Rattle.matchit.specs.Rows.{Rows, RowsOf, param_token}
use Rattle.matchit.specs.Route.{Scan, parse_route, scan_start}
use Rattle.matchit.specs.Order.{placed}
use Rattle.matchit.specs.Router.{RouteOf, nearest, rename, route_from}
use Rattle.matchit.specs.declared.error.InsertError.{InsertError}
use Rattle.http_routes.specs.declared.page.Page.{Page}
use Rattle.http_routes.specs.declared.page.Page.TheVariants.{Requests, Report, Events, Item, Unit as OneUnit}

abbrev pub Routes : Type 0
Routes = RowsOf (RouteOf Page)

-- the routes with one more, if it reads well and fits beside the others
abbrev pub if_apart : Option (RouteOf Page) → Scan → Page → Routes → Option Routes
if_apart None s page rows = Some (placed (s.pattern, route_from s page) rows)
if_apart (Some r) s page rows = None

abbrev pub added_read : Result Scan InsertError → Page → Routes → Option Routes
added_read (Ok s) page rows = if_apart (nearest s.pattern rows) s page rows
added_read (Err e) page rows = None

abbrev pub added : List ℕ → Page → Routes → Option Routes
added route page rows = added_read (parse_route route) page rows

-- a route by its text
abbrev pub read_or_empty : Result Scan InsertError → Scan
read_or_empty (Ok s) = s
read_or_empty (Err e) = scan_start

abbrev pub entry : List ℕ → Page → RouteOf Page
entry text page = route_from (read_or_empty (parse_route text)) page

abbrev pub page_entry : ℕ → RouteOf Page
page_entry zero = entry (codes "/batches/{batch}/events/{from}/{count}") Events
page_entry (suc zero) = entry (codes "/batches/{batch}") Report
page_entry (suc (suc zero)) = entry (codes "/items/{gtin}/{serial}") Item
page_entry (suc (suc (suc zero))) = entry (codes "/stations/{station}/requests/{number}") Requests
page_entry (suc (suc (suc (suc n)))) = entry (codes "/units/{sscc}") OneUnit

-- the patterns, in the router's order
abbrev pub key_rows : Rows
key_rows =
    (codes "/batches/" ++ param_token ∷ codes "/events/" ++ param_token ∷ codes "/" ++ param_token ∷ [], 0)
    ∷ (codes "/batches/" ++ param_token ∷ [], 1)
    ∷ (codes "/items/" ++ param_token ∷ codes "/" ++ param_token ∷ [], 2)
    ∷ (codes "/stations/" ++ param_token ∷ codes "/requests/" ++ param_token ∷ [], 3)
    ∷ (codes "/units/" ++ param_token ∷ [], 4)
    ∷ []

abbrev pub page_rows : Routes
page_rows = rename page_entry key_rows
