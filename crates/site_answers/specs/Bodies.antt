-- Bodies as bytes.
use Rattle.std.specs.Prelude.{ℕ, List}
use Rattle.site_answers.specs.declared.response.Body.{Body}
use Rattle.site_answers.specs.declared.response.Body.TheVariants.{Made, Fixed}
use Rattle.site_answers.specs.Saying.{fault_text}

abbrev pub bytes_of : Body → List ℕ
bytes_of (Made bytes) = bytes.items
bytes_of (Fixed name) = fault_text name
