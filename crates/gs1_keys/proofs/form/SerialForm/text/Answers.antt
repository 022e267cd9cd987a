use Rattle.std.proofs.Common.{rules, ◌≡◌, Ok, ◌∙◌, ap}
use Rattle.gs1_keys.specs.Forms.{text_in}
use Rattle.gs1_keys.specs.Keys.{text_of}
use Rattle.gs1_keys.proofs.Forming.{written, IsText-text_in}
use Rattle.gs1_keys.proofs.form.SerialForm.text.Goals as goal

pub unreachable-requires : goal.unreachable-requires
unreachable-requires c =
    let made : c.write.new.out ≡ text_in c.args.self.now c.args.number = written c.args.self.now _ c.args.number c.write.new.out _ c.from.ensures (search rules) c.write.ensures in
    let is : text_of (text_in c.args.self.now c.args.number) ≡ Ok (text_in c.args.self.now c.args.number) = IsText-text_in c.args.self.now c.args.number (search rules) in
    let read = c.read.ensures.is ∙ ap text_of made ∙ is in
    let err = c.in-Err.is in
    absurd cc

pub returns : goal.returns
returns c =
    let made : c.write.new.out ≡ text_in c.args.self.now c.args.number = written c.args.self.now _ c.args.number c.write.new.out _ c.from.ensures (search rules) c.write.ensures in
    let is : text_of (text_in c.args.self.now c.args.number) ≡ Ok (text_in c.args.self.now c.args.number) = IsText-text_in c.args.self.now c.args.number (search rules) in
    let read = c.read.ensures.is ∙ ap text_of made ∙ is in
    let ok = c.in-Ok.is in
    cc
