-- Where the batches of order rows were first ordered.
use Rattle.std.specs.Prelude.{◌≡◌, ℕ, Bool, false, List, map, nat_eq, Option, Some, option_map}
use Rattle.std.specs.List.{position}
use Rattle.std.specs.Option.{option_or}
use Rattle.place_table.specs.Hash.{text_hash}
use Rattle.deed_words.specs.Names.{Text, same}
use Rattle.deed_words.specs.declared.deed.OrderRow.{OrderRow}
use Rattle.batch_book.specs.Batches.{is_called}
use Rattle.batch_book.specs.Content.{Content}
use Rattle.site_rules.specs.declared.origins.Origin.{Origin}
use Rattle.site_rules.specs.declared.origins.Origin.TheVariants.{There, Row}

-- the batch of the name that is there, or else the first of the rows that orders one of the name
unfoldable pub origin_of : Content → List OrderRow → Text → Option Origin
origin_of c rows name = option_or (option_map There (position (is_called name) c.batches)) (option_map Row (position (λ row. same row.batch name) rows))

-- these are the origins of the rows
abbrev pub AreOrigins : Content → List OrderRow → List Origin → Type 0
AreOrigins c rows origins = map Some origins ≡ map (λ row. origin_of c rows row.batch) rows

-- it is the row at the place
unfoldable pub is_row : ℕ → Origin → Bool
is_row place (There at) = false
is_row place (Row first) = nat_eq first place

-- the hash under which a row is found
abbrev pub row_hash : OrderRow → ℕ
row_hash row = text_hash row.batch
