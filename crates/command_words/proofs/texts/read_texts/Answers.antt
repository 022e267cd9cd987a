use Rattle.std.proofs.Common.{◌≡◌, ◌∙◌, true, refl, ap, map, string_bytes, codes}
use Rattle.clap.specs.Words.{takes, found_of, first_of, matches_of, is_simple}
use Rattle.clap.proofs.WalkLemmas.{first_value-rows}
use Rattle.clap.proofs.OnLiterals.{clap_on_literals}
use Rattle.command_words.specs.Texts.{five_texts}
use Rattle.command_words.proofs.Five.{words_read}
use Rattle.command_words.proofs.texts.read_texts.Goals as goal

simple : is_simple five_texts ≡ true
unfolding clap_on_literals
simple = refl

pub unreachable-requires : goal.unreachable-requires
unreachable-requires c =
    let texts = map string_bytes c.args.args.now in
    let taken = ap (λ a. takes a texts) c.in_ok-command.ensures ∙ (words_read texts c.requires).taken in
    c.in_default.not-OutOfMemory (c.kind.ensures ∙ c.in-Err.ensures.passes taken)

pub returns-in-Ok : goal.returns-in-Ok
returns-in-Ok c =
    let texts = map string_bytes c.args.args.now in
    let read = words_read texts c.requires in
    let rows = (c.in-Ok.ensures.matches (ap is_simple c.in_ok-command.ensures ∙ simple)).0 ∙ ap (λ a. matches_of a texts) c.in_ok-command.ensures in
    let found = found_of c.in-Ok.matches in
    record {
      first = c.get_str.ensures ∙ first_value-rows found _ ∙ ap (first_of (codes "1")) rows ∙ read.first;
      second = c.get_str-in-Ok.ensures ∙ first_value-rows found _ ∙ ap (first_of (codes "2")) rows ∙ read.second;
      third = c.get_str-in-Ok-2.ensures ∙ first_value-rows found _ ∙ ap (first_of (codes "3")) rows ∙ read.third;
      fourth = c.get_str-in-Ok-3.ensures ∙ first_value-rows found _ ∙ ap (first_of (codes "4")) rows ∙ read.fourth;
      fifth = c.get_str-in-Ok-4.ensures ∙ first_value-rows found _ ∙ ap (first_of (codes "5")) rows ∙ read.fifth;
    }
