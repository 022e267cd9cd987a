use Rattle.std.proofs.Common.{◌≡◌, ◌∙◌, ◌++◌, ◌==◌, ◌&&◌, ℕ, suc, Bool, true, false, cond, List, [], ◌∷◌, Option, Some, None, refl, sym, ap, codes, arith, bytes_eq, true≢false, option_map, ltb, not, ap₂}
use Rattle.std.specs.List.{list_all}
use Rattle.std.proofs.lemmas.Bool.{leb-true}
use Rattle.std.specs.Cmp.Lexicographic.{bytes_decides}
use Rattle.matchit.specs.Rows.{Rows, prepend}
use Rattle.matchit.specs.Seek.{or_else, first}
use Rattle.matchit.specs.Level.{IsText}
use Rattle.matchit.specs.Router.{RouteOf, map_key}
use Rattle.matchit.proofs.RenameLemmas.{first-rename}
use Rattle.matchit.proofs.SeekLemmas.{or_else-none}
use Rattle.http_routes.specs.declared.page.Page.{Page}
use Rattle.http_routes.specs.declared.page.Page.TheVariants.{Requests, Events}
use Rattle.http_routes.specs.Pages.{key_rows, page_rows, page_entry}
use Rattle.http_routes.specs.Paths.{pieces, page_of, word_page, batch_page, item_page, station_page, unit_page, is_some_text}
use Rattle.http_routes.proofs.Paths.{GoesBy, lit, param, param_rows, last_rows, lit-rows, param-rows, last-rows, either, IsWord}

abbrev nowhere : List (List ℕ) → Option ℕ
nowhere pp = None

-- after each first word
abbrev batch_keys : List (List ℕ) → Option ℕ
batch_keys = param (Some 1) (lit (codes "events") (param None (param (Some 0) nowhere)))

abbrev item_keys : List (List ℕ) → Option ℕ
item_keys = param None (param (Some 2) nowhere)

abbrev station_keys : List (List ℕ) → Option ℕ
station_keys = param None (lit (codes "requests") (param (Some 3) nowhere))

abbrev unit_keys : List (List ℕ) → Option ℕ
unit_keys = param (Some 4) nowhere

abbrev word_keys : List (List ℕ) → Option ℕ
word_keys pp =
    or_else (lit (codes "batches") batch_keys pp)
    (or_else (lit (codes "items") item_keys pp)
    (or_else (lit (codes "stations") station_keys pp)
    (lit (codes "units") unit_keys pp)))

-- the same of the rows
abbrev event_rows : Rows
event_rows = prepend (codes "events" ++ 47 ∷ []) (param_rows (last_rows (Some 0)) None)

abbrev batch_rows : Rows
batch_rows = param_rows event_rows (Some 1)

abbrev item_rows : Rows
item_rows = param_rows (last_rows (Some 2)) None

abbrev station_rows : Rows
station_rows = param_rows (prepend (codes "requests" ++ 47 ∷ []) (last_rows (Some 3))) None

abbrev unit_rows : Rows
unit_rows = last_rows (Some 4)

abbrev batches : Rows
batches = prepend (codes "batches" ++ 47 ∷ []) batch_rows

abbrev items : Rows
items = prepend (codes "items" ++ 47 ∷ []) item_rows

abbrev stations : Rows
stations = prepend (codes "stations" ++ 47 ∷ []) station_rows

abbrev units : Rows
units = prepend (codes "units" ++ 47 ∷ []) unit_rows

rows_are : key_rows ≡ prepend ([] ++ 47 ∷ []) (batches ++ (items ++ (stations ++ units)))
rows_are = refl

abbrev test : List ℕ → Bool
test w = list_all (λ x. ltb x 256 && not (x == 47)) w

both : (a b : Bool) → (a && b) ≡ true → (a ≡ true) × (b ≡ true)
both true b h = (refl, h)
both false b h = cc

word : (w : List ℕ) → test w ≡ true → IsWord w
word [] h = tt
word (x ∷ w) h =
    let a = both (ltb x 256 && not (x == 47)) (test w) h in
    let b = both (ltb x 256) (not (x == 47)) a.0 in
    (leb-true (suc x) 256 b.0, λ e. let yes : (x == 47) ≡ true = rw e refl in true≢false (sym (rw yes at b.1)), word w a.1)

batches-go : GoesBy batches (lit (codes "batches") batch_keys)
batches-go =
    let last = last-rows (Some 0) in
    let from = param-rows (last_rows (Some 0)) None (param (Some 0) nowhere) (omega arith) last in
    let events = lit-rows (codes "events") (param_rows (last_rows (Some 0)) None) (param None (param (Some 0) nowhere)) (word (codes "events") refl) from in
    lit-rows (codes "batches") batch_rows batch_keys (word (codes "batches") refl) (param-rows event_rows (Some 1) (lit (codes "events") (param None (param (Some 0) nowhere))) (omega arith) events)

items-go : GoesBy items (lit (codes "items") item_keys)
items-go = lit-rows (codes "items") item_rows item_keys (word (codes "items") refl) (param-rows (last_rows (Some 2)) None (param (Some 2) nowhere) (omega arith) (last-rows (Some 2)))

stations-go : GoesBy stations (lit (codes "stations") station_keys)
stations-go =
    let requests = lit-rows (codes "requests") (last_rows (Some 3)) (param (Some 3) nowhere) (word (codes "requests") refl) (last-rows (Some 3)) in
    lit-rows (codes "stations") station_rows station_keys (word (codes "stations") refl) (param-rows (prepend (codes "requests" ++ 47 ∷ []) (last_rows (Some 3))) None (lit (codes "requests") (param (Some 3) nowhere)) (omega arith) requests)

units-go : GoesBy units (lit (codes "units") unit_keys)
units-go = lit-rows (codes "units") unit_rows unit_keys (word (codes "units") refl) (last-rows (Some 4))

words-go : GoesBy (batches ++ (items ++ (stations ++ units))) word_keys
words-go p h =
    either 98 (codes "atches" ++ 47 ∷ []) batch_rows (items ++ (stations ++ units)) p (omega arith) ((omega arith, (omega arith, (omega arith, tt)))) ((λ e. omega arith), ((λ e. omega arith), ((λ e. omega arith), tt)))
    ∙ ap₂ or_else (batches-go p h)
    (either 105 (codes "tems" ++ 47 ∷ []) item_rows (stations ++ units) p (omega arith) ((omega arith, (omega arith, tt))) ((λ e. omega arith), ((λ e. omega arith), tt))
    ∙ ap₂ or_else (items-go p h)
    (either 115 (codes "tations" ++ 47 ∷ []) station_rows units p (omega arith) ((omega arith, tt)) ((λ e. omega arith), tt)
    ∙ ap₂ or_else (stations-go p h) (units-go p h)))

keys-go : GoesBy key_rows (lit [] word_keys)
keys-go = lit-rows [] (batches ++ (items ++ (stations ++ units))) word_keys tt words-go

-- ---- the page of a key

abbrev value : Option ℕ → Option Page
value o = option_map (λ (r : RouteOf Page). r.value) (map_key page_entry o)

batch : (rest : List (List ℕ)) → value (batch_keys rest) ≡ batch_page rest
batch [] = refl
batch ([] ∷ []) = refl
batch ((x ∷ a) ∷ []) = refl
batch ([] ∷ m ∷ []) = refl
batch ((x ∷ a) ∷ m ∷ []) = refl
batch ([] ∷ m ∷ b ∷ []) = refl
batch ((x ∷ a) ∷ m ∷ b ∷ []) = by (bytes_eq m (codes "events")) b
  where
    by : (v : Bool) (b : List ℕ) → value (cond v (param None (param (Some 0) nowhere) (b ∷ [])) None) ≡ None
    by true [] = refl
    by true (y ∷ b) = refl
    by false b = refl
batch ([] ∷ m ∷ b ∷ c ∷ []) = refl
batch ((x ∷ a) ∷ m ∷ b ∷ c ∷ []) = by (bytes_eq m (codes "events")) b c
  where
    by : (v : Bool) (b c : List ℕ) → value (cond v (param None (param (Some 0) nowhere) (b ∷ c ∷ [])) None) ≡ cond (v && (is_some_text b && is_some_text c)) (Some Events) None
    by true [] c = refl
    by true (y ∷ b) [] = refl
    by true (y ∷ b) (z ∷ c) = refl
    by false b c = refl
batch ([] ∷ m ∷ b ∷ c ∷ d ∷ rest) = refl
batch ((x ∷ a) ∷ m ∷ b ∷ c ∷ d ∷ rest) = by (bytes_eq m (codes "events")) b c
  where
    by : (v : Bool) (b c : List ℕ) → value (cond v (param None (param (Some 0) nowhere) (b ∷ c ∷ d ∷ rest)) None) ≡ None
    by true [] c = refl
    by true (y ∷ b) [] = refl
    by true (y ∷ b) (z ∷ c) = refl
    by false b c = refl

item : (rest : List (List ℕ)) → value (item_keys rest) ≡ item_page rest
item [] = refl
item ([] ∷ []) = refl
item ((x ∷ a) ∷ []) = refl
item ([] ∷ b ∷ []) = refl
item ((x ∷ a) ∷ [] ∷ []) = refl
item ((x ∷ a) ∷ (y ∷ b) ∷ []) = refl
item ([] ∷ b ∷ c ∷ rest) = refl
item ((x ∷ a) ∷ [] ∷ c ∷ rest) = refl
item ((x ∷ a) ∷ (y ∷ b) ∷ c ∷ rest) = refl

unit : (rest : List (List ℕ)) → value (unit_keys rest) ≡ unit_page rest
unit [] = refl
unit ([] ∷ []) = refl
unit ((x ∷ a) ∷ []) = refl
unit ([] ∷ b ∷ rest) = refl
unit ((x ∷ a) ∷ b ∷ rest) = refl

station : (rest : List (List ℕ)) → value (station_keys rest) ≡ station_page rest
station [] = refl
station ([] ∷ []) = refl
station ((x ∷ a) ∷ []) = refl
station ([] ∷ m ∷ []) = refl
station ((x ∷ a) ∷ m ∷ []) = refl
station ([] ∷ m ∷ b ∷ []) = refl
station ((x ∷ a) ∷ m ∷ b ∷ []) = by (bytes_eq m (codes "requests")) b
  where
    by : (v : Bool) (b : List ℕ) → value (cond v (param (Some 3) nowhere (b ∷ [])) None) ≡ cond (v && is_some_text b) (Some Requests) None
    by true [] = refl
    by true (y ∷ b) = refl
    by false b = refl
station ([] ∷ m ∷ b ∷ c ∷ rest) = refl
station ((x ∷ a) ∷ m ∷ b ∷ c ∷ rest) = by (bytes_eq m (codes "requests")) b
  where
    by : (v : Bool) (b : List ℕ) → value (cond v (param (Some 3) nowhere (b ∷ c ∷ rest)) None) ≡ None
    by true [] = refl
    by true (y ∷ b) = refl
    by false b = refl

nones : (b i s u : Bool) → cond {A = Option Page} b None (cond i None (cond s None (cond u None None))) ≡ None
nones true i s u = refl
nones false true s u = refl
nones false false true u = refl
nones false false false true = refl
nones false false false false = refl

same_word : (w v : List ℕ) → bytes_eq w v ≡ true → w ≡ v
same_word w v e = (bytes_decides w v).0 e

words : (w : List ℕ) (rest : List (List ℕ)) → value (word_keys (w ∷ rest)) ≡ word_page w rest
words w [] = sym (nones (bytes_eq w (codes "batches")) (bytes_eq w (codes "items")) (bytes_eq w (codes "stations")) (bytes_eq w (codes "units")))
words w (a ∷ rest) = by-b (bytes_eq w (codes "batches")) refl
  where
    by-u : (v : Bool) → bytes_eq w (codes "units") ≡ v → bytes_eq w (codes "batches") ≡ false → bytes_eq w (codes "items") ≡ false → bytes_eq w (codes "stations") ≡ false
        → value (word_keys (w ∷ a ∷ rest)) ≡ word_page w (a ∷ rest)
    by-u true e b i s = rw (b, i, s, e) (unit (a ∷ rest))
    by-u false e b i s = rw (b, i, s, e) refl

    by-s : (v : Bool) → bytes_eq w (codes "stations") ≡ v → bytes_eq w (codes "batches") ≡ false → bytes_eq w (codes "items") ≡ false
        → value (word_keys (w ∷ a ∷ rest)) ≡ word_page w (a ∷ rest)
    by-s true e b i = rw (same_word w (codes "stations") e) (rw (or_else-none (station_keys (a ∷ rest))) (station (a ∷ rest)))
    by-s false e b i = by-u (bytes_eq w (codes "units")) refl b i e

    by-i : (v : Bool) → bytes_eq w (codes "items") ≡ v → bytes_eq w (codes "batches") ≡ false → value (word_keys (w ∷ a ∷ rest)) ≡ word_page w (a ∷ rest)
    by-i true e b = rw (same_word w (codes "items") e) (rw (or_else-none (item_keys (a ∷ rest))) (item (a ∷ rest)))
    by-i false e b = by-s (bytes_eq w (codes "stations")) refl b e

    by-b : (v : Bool) → bytes_eq w (codes "batches") ≡ v → value (word_keys (w ∷ a ∷ rest)) ≡ word_page w (a ∷ rest)
    by-b true e = rw (same_word w (codes "batches") e) (rw (or_else-none (batch_keys (a ∷ rest))) (batch (a ∷ rest)))
    by-b false e = by-i (bytes_eq w (codes "items")) refl e

by_pieces : (pp : List (List ℕ)) → value (lit [] word_keys pp) ≡ page_of pp
by_pieces [] = refl
by_pieces ([] ∷ []) = refl
by_pieces ((x ∷ f) ∷ []) = refl
by_pieces ((x ∷ f) ∷ w ∷ rest) = refl
by_pieces ([] ∷ w ∷ rest) = words w rest

-- the router answers the page that the path's pieces name
pub served : (p : List ℕ) → IsText p → option_map (λ (r : RouteOf Page). r.value) (first page_rows p) ≡ page_of (pieces p)
served p h =
    ap (option_map (λ (r : RouteOf Page). r.value)) (first-rename page_entry key_rows p)
    ∙ ap value (keys-go p h) ∙ by_pieces (pieces p)
