-- The words of a file's parts and fields.
use Rattle.std.specs.Prelude.{ℕ, List, codes}
use Rattle.site_files.specs.declared.fault.Word.{Word}
use Rattle.site_files.specs.declared.fault.Word.TheVariants as word

abbrev pub word_text : Word → List ℕ
word_text word.Site = codes "site"
word_text word.Gln = codes "gln"
word_text word.Prefix = codes "prefix"
word_text word.Extension = codes "extension"
word_text word.Reference = codes "reference"
word_text word.Offset = codes "offset"
word_text word.Product = codes "product"
word_text word.Gtin = codes "gtin"
word_text word.PrefixLength = codes "prefix_length"
word_text word.SerialLength = codes "serial_length"
word_text word.SerialAlphabet = codes "serial_alphabet"
word_text word.Station = codes "station"
word_text word.Name = codes "name"
word_text word.Role = codes "role"
word_text word.Rows = codes "rows"
