use Rattle.std.proofs.Common.{◌≡◌, ◌≤◌, ◌+◌, ◌++◌, length, take, refl, sym, ap, ◌∙◌, arith}
use Rattle.gs1_keys.specs.Inline.{front_length}
use Rattle.gs1_element.proofs.Buffer.{text_after_put, inline_after_put}
use Rattle.gs1_element.proofs.code_text.CodeText.put.Goals as goal

pub invariant_of-self : goal.invariant_of-self
invariant_of-self c =
    let front : length (take c.self.inside.len c.self.inside.bytes) ≡ c.self.inside.len = front_length 69 c.self.inside.bytes c.self.inside.len c.self.invariant in
    let view : length c.args.self.now ≡ c.self.inside.len = ap length (sym c.self.view_is) ∙ front in
    let fits : c.self.inside.len + length c.args.part.now ≤ 69 = omega (arith, c.requires) in
    rw c.from-start.ensures (inline_after_put 69 c.self.inside.len (c.self.inside.len + length c.args.part.now) c.self.inside.bytes c.args.part.now c.copy_from_slice.new.self c.self.invariant c.copy_from_slice.ensures.after refl fits)

pub returns-clause-is : goal.returns-clause-is
returns-clause-is c =
    let front : length (take c.self.inside.len c.self.inside.bytes) ≡ c.self.inside.len = front_length 69 c.self.inside.bytes c.self.inside.len c.self.invariant in
    let view : length c.args.self.now ≡ c.self.inside.len = ap length (sym c.self.view_is) ∙ front in
    let fits : c.self.inside.len + length c.args.part.now ≤ 69 = omega (arith, c.requires) in
    rw c.from-start.ensures (text_after_put 69 c.self.inside.len (c.self.inside.len + length c.args.part.now) c.self.inside.bytes c.args.part.now c.copy_from_slice.new.self c.self.invariant c.copy_from_slice.ensures.after refl fits ∙ ap (λ w. w ++ c.args.part.now) c.self.view_is)
