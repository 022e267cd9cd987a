use Rattle.std.proofs.Common.{◌∙◌, ◌++◌, ◌∷◌, [], ap, refl}
use Rattle.std.proofs.lemmas.Result.{err_from_is_err_and}
use Rattle.outside.specs.declared.devices.Failed.{Failed}
use Rattle.deed_words.specs.Setups.{Setup}
use Rattle.site_console.specs.Newline.{newline}
use Rattle.site_console.specs.Answers.{answer_text}
use Rattle.site_console.specs.Open.{point_of, told_of}
use Rattle.site_console.proofs.Served.{stepped, unprinted, cut_short, put_whole}
use Rattle.site_console.proofs.script.serve_request.Goals as goal

pub returns-in_err-text-clause-serves : goal.returns-in_err-text-clause-serves
returns-in_err-text-clause-serves g c = λ text held.
    let p = err_from_is_err_and c.from_residual.result c.from_residual.ensures.1 in
    let a = c.answer_line-answer in
    let s = c.args.store.now in
    let u = a.new.store in
    let old = point_of g.D.Disk g.C.Clock g.W.Words s in
    let new = point_of g.D.Disk g.C.Clock g.W.Words u in
    let before = told_of g.C.Clock g.W.Words (g.O.Sink.held c.args.out.now) s.clock s.words in
    let after = told_of g.C.Clock g.W.Words (g.O.Sink.held c.args.out.now) u.clock u.words in
    rw (p.1, p.2) (unprinted s.site.setup (Unit {0}) old text before after _ new (stepped s.site.setup old text a.result before after new (a.ensures.answer text held) a.ensures.blames) refl)

pub returns-in_default-clause-serves : goal.returns-in_default-clause-serves
returns-in_default-clause-serves g c = λ text held.
    let a = c.answer_line-answer in
    let s = c.args.store.now in
    let u = a.new.store in
    let old = point_of g.D.Disk g.C.Clock g.W.Words s in
    let new = point_of g.D.Disk g.C.Clock g.W.Words u in
    let before = told_of g.C.Clock g.W.Words (g.O.Sink.held c.args.out.now) s.clock s.words in
    let after = told_of g.C.Clock g.W.Words (g.O.Sink.held c.put_all.new.out) u.clock u.words in
    let printed = c.as_bytes.ensures.value ∙ c.in_ok-text.ensures ∙ ap (λ (s : Setup). answer_text s a.result ++ newline ∷ []) (c.setup.ensures ∙ ap (λ v. v.setup) c.site.ensures ∙ a.ensures.setup) in
    cut_short s.site.setup (Unit {0}) (Unit {0}) Failed old text before after _ new c.as_bytes.result.now c.in_default.field-0 (stepped s.site.setup old text a.result before after new (a.ensures.answer text held) a.ensures.blames) printed c.in_default.ensures.put

pub returns-clause-serves : goal.returns-clause-serves
returns-clause-serves g c = λ text held.
    let a = c.answer_line-answer in
    let s = c.args.store.now in
    let u = a.new.store in
    let old = point_of g.D.Disk g.C.Clock g.W.Words s in
    let new = point_of g.D.Disk g.C.Clock g.W.Words u in
    let before = told_of g.C.Clock g.W.Words (g.O.Sink.held c.args.out.now) s.clock s.words in
    let after = told_of g.C.Clock g.W.Words (g.O.Sink.held c.put_all.new.out) u.clock u.words in
    let printed = c.as_bytes.ensures.value ∙ c.in_ok-text.ensures ∙ ap (λ (s : Setup). answer_text s a.result ++ newline ∷ []) (c.setup.ensures ∙ ap (λ v. v.setup) c.site.ensures ∙ a.ensures.setup) in
    put_whole s.site.setup (Unit {0}) (Unit {0}) Failed old text before after _ new c.as_bytes.result.now (tt {0}) (tt {0}) (stepped s.site.setup old text a.result before after new (a.ensures.answer text held) a.ensures.blames) printed c.in-Ok.ensures.put
