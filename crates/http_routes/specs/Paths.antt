-- What a path names, by its pieces between slashes.
use Rattle.std.specs.Prelude.{◌==◌, ◌&&◌, ℕ, Bool, true, false, List, [], ◌∷◌, Option, Some, None, slice_index_or, codes, if◌then◌else◌, bytes_eq}
use Rattle.std.specs.List.{slice_split}
use Rattle.http_routes.specs.declared.page.Page.{Page}
use Rattle.http_routes.specs.declared.page.Page.TheVariants.{Requests, Report, Events, Item, Unit as OneUnit}

-- the pieces between slashes
abbrev pub pieces : List ℕ → List (List ℕ)
pieces path = slice_split (λ b. b == 47) path

abbrev pub is_some_text : List ℕ → Bool
is_some_text [] = false
is_some_text (b ∷ rest) = true

-- after `batches`
abbrev pub batch_page : List (List ℕ) → Option Page
batch_page (a ∷ []) = if is_some_text a then Some Report else None
batch_page (a ∷ word ∷ b ∷ c ∷ []) =
    if is_some_text a && (bytes_eq word (codes "events") && (is_some_text b && is_some_text c)) then Some Events else None
batch_page _ = None

-- after `items`
abbrev pub item_page : List (List ℕ) → Option Page
item_page (a ∷ b ∷ []) = if is_some_text a && is_some_text b then Some Item else None
item_page _ = None

-- after `stations`
abbrev pub station_page : List (List ℕ) → Option Page
station_page (a ∷ word ∷ b ∷ []) =
    if is_some_text a && (bytes_eq word (codes "requests") && is_some_text b) then Some Requests else None
station_page _ = None

-- after `units`
abbrev pub unit_page : List (List ℕ) → Option Page
unit_page (a ∷ []) = if is_some_text a then Some OneUnit else None
unit_page _ = None

abbrev pub word_page : List ℕ → List (List ℕ) → Option Page
word_page word rest =
    if bytes_eq word (codes "batches") then batch_page rest
    else (if bytes_eq word (codes "items") then item_page rest
    else (if bytes_eq word (codes "stations") then station_page rest
    else (if bytes_eq word (codes "units") then unit_page rest else None)))

-- the page of a path's pieces: the first is empty, since a path begins with a slash
abbrev pub page_of : List (List ℕ) → Option Page
page_of ([] ∷ word ∷ rest) = word_page word rest
page_of _ = None

-- the piece at a place
abbrev pub segment_at : ℕ → List ℕ → List ℕ
segment_at at path = slice_index_or (pieces path) at []

-- how many pieces such a path has
abbrev pub width : Page → ℕ
width Requests = 5
width Report = 3
width Events = 6
width Item = 4
width OneUnit = 3
