-- What a path names.
use Rattle.std.specs.Prelude.{◌==◌, ℕ, List, Option, Some, None, if◌then◌else◌, codes}
use Rattle.http_routes.specs.Chain.{◌>>=◌}
use Rattle.std.specs.List.{list_any}
use Rattle.http_routes.specs.declared.page.Page.{Page}
use Rattle.http_routes.specs.declared.page.Page.TheVariants as page
use Rattle.http_routes.specs.declared.target.Target.{Target}
use Rattle.http_routes.specs.declared.target.Target.TheVariants.{Submit, Report, Events, Item, Unit as OneUnit}
use Rattle.http_routes.specs.Paths.{pieces, page_of, segment_at}
use Rattle.http_routes.specs.Segments.{name_in, gtin_in, sscc_in, number_at, ranged_at}

unfoldable pub submit_in : List ℕ → List ℕ → Option Target
submit_in station number = do
  name ← name_in station
  n ← number_at 20 number
  Some (Submit name n)

unfoldable pub report_in : List ℕ → Option Target
report_in batch = do
  name ← name_in batch
  Some (Report name)

unfoldable pub events_in : List ℕ → List ℕ → List ℕ → Option Target
events_in batch from count = do
  name ← name_in batch
  first ← ranged_at 4294967295 from
  n ← ranged_at 100 count
  Some (Events name first n)

unfoldable pub item_in : List ℕ → List ℕ → Option Target
item_in gtin serial = do
  code ← gtin_in gtin
  name ← name_in serial
  Some (Item code name)

unfoldable pub unit_in : List ℕ → Option Target
unit_in sscc = do
  code ← sscc_in sscc
  Some (OneUnit code)

-- the segments of a page stand for a target
abbrev pub target_on : Option Page → List ℕ → Option Target
target_on None path = None
target_on (Some page.Requests) path = submit_in (segment_at 2 path) (segment_at 4 path)
target_on (Some page.Report) path = report_in (segment_at 2 path)
target_on (Some page.Events) path = events_in (segment_at 2 path) (segment_at 4 path) (segment_at 5 path)
target_on (Some page.Item) path = item_in (segment_at 2 path) (segment_at 3 path)
target_on (Some page.Unit) path = unit_in (segment_at 2 path)

-- what a path names; one with a query names nothing
abbrev pub target_in : List ℕ → Option Target
target_in path = if list_any (λ b. b == 63) path then None else target_on (page_of (pieces path)) path

-- the method of a target
abbrev pub method_of : Target → List ℕ
method_of (Submit station number) = codes "POST"
method_of (Report batch) = codes "GET"
method_of (Events batch from count) = codes "GET"
method_of (Item gtin serial) = codes "GET"
method_of (OneUnit sscc) = codes "GET"
