-- How long sites are, and the spellings of each version.
use Rattle.std.proofs.Common.{◌≡◌, ◌⊎◌, ℕ, ◌*◌, ◌≤◌, List, [], ◌∷◌, ◌++◌, length, sym, ap, ◌∙◌, arith, inl, inr}
use Rattle.std.specs.List.{AllByRecursion, flat_map}
use Rattle.std.specs.Int.{w64, to_be_bytes}
use Rattle.std.proofs.lemmas.List.{length-append}
use Rattle.std.proofs.lemmas.List.Elements.{recursion_from_All}
use Rattle.gs1_keys.specs.Keys.{IsGtin, IsText}
use Rattle.gs1_keys.specs.declared.form.SerialForm.{SerialForm}
use Rattle.gs1_keys.proofs.Known.{gtin_length, gln_same, prefix_length, text_length}
use Rattle.deed_words.specs.Setups.{Setup}
use Rattle.deed_words.specs.declared.setup.Product.{Product}
use Rattle.deed_words.specs.declared.setup.Station.{Station}
use Rattle.deed_words.specs.declared.entry.Entry.{Entry}
use Rattle.entry_bytes.specs.declared.version.Version.{Version}
use Rattle.entry_bytes.specs.declared.version.Version.TheVariants.{First, Second}
use Rattle.entry_bytes.specs.Spelling.{text_bytes, list_bytes, group_bytes}
use Rattle.entry_bytes.specs.Groups.{IsOlder, SpellsGroup}
use Rattle.entry_bytes.specs.Sites.{form_in, product_in, role_byte, station_bytes, stations_bytes, codes_bytes, parts_in, setup_bytes, IsOlderSetup, SpellsSetup}
use Rattle.entry_bytes.proofs.SiteWhole.{offset_length}

form_most : (version : Version) (form : SerialForm) → length (form_in version form) ≤ 2
form_most First form = omega arith
form_most Second form = omega arith

products_most : (version : Version) (xs : List Product) → AllByRecursion (λ product. IsGtin product.gtin) xs → length (flat_map (product_in version) xs) ≤ 17 * length xs
products_most version [] h = omega arith
products_most version (x ∷ xs) h =
    let whole = length-append (product_in version x) (flat_map (product_in version) xs) in
    let one = length-append x.gtin (x.prefix_length ∷ form_in version x.form) in
    omega (arith, whole, one, gtin_length x.gtin h.0, form_most version x.form, products_most version xs h.1)

stations_most : (xs : List Station) → AllByRecursion (λ station. IsText station.name) xs → length (flat_map station_bytes xs) ≤ 22 * length xs
stations_most [] h = omega arith
stations_most (x ∷ xs) h =
    let whole = length-append (station_bytes x) (flat_map station_bytes xs) in
    let one = length-append (text_bytes x.name) (role_byte x.role ∷ []) in
    let size = text_length x.name h.0 in
    omega (arith, whole, one, size.1, stations_most xs h.1)

parts_most : (version : Version) (s : Setup) (bytes : List ℕ) → SpellsSetup s bytes → length (parts_in version s) ≤ 5804
unfolding codes_bytes
parts_most version s bytes h =
    let k = h.kept in
    let p = h.proper in
    let rest : List ℕ = s.offset ++ (list_bytes (product_in version) s.products ++ stations_bytes s.stations) in
    let whole = length-append (codes_bytes s) rest in
    let codes = length-append s.gln (text_bytes s.prefix ++ ((s.extension ∷ []) ++ to_be_bytes w64 s.reference)) in
    let prefix = length-append (text_bytes s.prefix) ((s.extension ∷ []) ++ to_be_bytes w64 s.reference) in
    let offset = length-append s.offset (list_bytes (product_in version) s.products ++ stations_bytes s.stations) in
    let lists = length-append (list_bytes (product_in version) s.products) (stations_bytes s.stations) in
    let gln = (gln_same s.gln s.gln k.codes.0).1 in
    let digits = prefix_length s.prefix k.codes.1.0 in
    let sign = offset_length s.offset p.offset in
    let products = products_most version s.products (recursion_from_All (λ product. IsGtin product.gtin) s.products k.gtins) in
    let stations = stations_most s.stations (recursion_from_All (λ station. IsText station.name) s.stations k.names) in
    omega (arith, whole, codes, prefix, offset, lists, gln, digits.1, sign, products, stations, p.product_count.1, p.station_count.1)

pub site_short : (s : Setup) (bytes : List ℕ) → SpellsSetup s bytes → length bytes ≤ 5805
site_short s bytes h = by h.spelling
  where
    by : (bytes ≡ setup_bytes s) ⊎ IsOlderSetup s bytes → length bytes ≤ 5805
    by (inl is) = let same = ap (λ (l : List ℕ). length l) is in omega (arith, same, parts_most Second s bytes h)
    by (inr o) = let same = ap (λ (l : List ℕ). length l) o.older in omega (arith, same, parts_most First s bytes h)

-- ---- the spellings of each version

pub group_versions : (group : List Entry) (one other : List ℕ) → SpellsGroup group one → SpellsGroup group other → (one ≡ other) ⊎ (((one ≡ group_bytes group) × IsOlder group other) ⊎ (IsOlder group one × (other ≡ group_bytes group)))
group_versions group one other s t = by s.spelling t.spelling
  where
    by : (one ≡ group_bytes group) ⊎ IsOlder group one → (other ≡ group_bytes group) ⊎ IsOlder group other → (one ≡ other) ⊎ (((one ≡ group_bytes group) × IsOlder group other) ⊎ (IsOlder group one × (other ≡ group_bytes group)))
    by (inl a) (inl b) = inl (a ∙ sym b)
    by (inl a) (inr b) = inr (inl (a, b))
    by (inr a) (inl b) = inr (inr (a, b))
    by (inr a) (inr b) = inl (a.older ∙ sym b.older)

pub site_versions : (site : Setup) (one other : List ℕ) → SpellsSetup site one → SpellsSetup site other → (one ≡ other) ⊎ (((one ≡ setup_bytes site) × IsOlderSetup site other) ⊎ (IsOlderSetup site one × (other ≡ setup_bytes site)))
site_versions site one other s t = by s.spelling t.spelling
  where
    by : (one ≡ setup_bytes site) ⊎ IsOlderSetup site one → (other ≡ setup_bytes site) ⊎ IsOlderSetup site other → (one ≡ other) ⊎ (((one ≡ setup_bytes site) × IsOlderSetup site other) ⊎ (IsOlderSetup site one × (other ≡ setup_bytes site)))
    by (inl a) (inl b) = inl (a ∙ sym b)
    by (inl a) (inr b) = inr (inl (a, b))
    by (inr a) (inl b) = inr (inr (a, b))
    by (inr a) (inr b) = inl (a.older ∙ sym b.older)
