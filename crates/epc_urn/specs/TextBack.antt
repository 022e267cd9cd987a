-- A text's bytes give its fields back.
use Rattle.std.specs.Prelude.{◌≡◌, ℕ, List, ◌++◌, ◌-◌, length, take, replicate}
use Rattle.std.proofs.Common.{ap, ◌∙◌}
use Rattle.gs1_keys.specs.Inline.{IsInline, front_length, buffer_is_back}
use Rattle.epc_urn.specs.declared.text.UrnText.TheInside.{Inside}

abbrev pub remade : List ℕ → ℕ → Inside
remade bytes len = record { bytes = bytes; len = len }

pub text_is_back : (t : Inside) → IsInline 92 t.bytes t.len → remade (take t.len t.bytes ++ replicate (92 - length (take t.len t.bytes)) 0) (length (take t.len t.bytes)) ≡ t
text_is_back t h = ap (λ bytes. remade bytes (length (take t.len t.bytes))) (buffer_is_back 92 t.bytes t.len h) ∙ ap (λ len. remade t.bytes len) (front_length 92 t.bytes t.len h)
