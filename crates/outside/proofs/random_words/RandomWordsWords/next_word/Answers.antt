use Rattle.std.proofs.Common.{◌≡◌, ◌+◌, ◌-◌, ◌∷◌, [], ℕ, take, drop, subst, sym, ap, ◌∙◌, arith, rules}
use Rattle.std.specs.Io.KnownBytes.{Consumes}
use Rattle.outside.specs.Readers.{bytes_ahead, left_in, words_told}
use Rattle.outside.proofs.Buffers.{word_goes}
use Rattle.outside.proofs.random_words.RandomWordsWords.next_word.Goals as goal

pub returns-clause-word : goal.returns-clause-word
returns-clause-word g c =
    let old = bytes_ahead g.R.Read.remaining c.args.self.now.buffer c.args.self.now.start c.args.self.now.end c.args.self.now.inner in
    let new = words_told (bytes_ahead g.R.Read.remaining c.refill.new.self.buffer (c.refill.new.self.start + 8) c.refill.new.self.end c.refill.new.self.inner) in
    let eight : c.refill.new.self.start + 8 - c.refill.new.self.start ≡ 8 = omega arith in
    subst (λ (word : ℕ). Consumes (words_told old) new (word ∷ [])) (sym c.from_le_bytes.ensures)
    (word_goes old (left_in g.R.Read.remaining c.refill.new.self.inner) c.refill.new.self.buffer c.copy_from_slice.new.self c.refill.new.self.start c.refill.new.self.end c.refill.ensures.bytes (omega (arith, c.if-self-lt8.false)) (search rules)
    (c.copy_from_slice.ensures.after ∙ ap (λ (k : ℕ). take k (drop c.refill.new.self.start c.refill.new.self.buffer)) eight))
