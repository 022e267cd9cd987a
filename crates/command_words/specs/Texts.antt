-- The words of the command line, and what clap is told of them.
use Rattle.std.specs.Prelude.{◌≡◌, ◌==◌, ◌&&◌, ℕ, Bool, true, false, not, List, [], ◌∷◌}
use Rattle.std.specs.Prelude.{length, nat_le, option_map, slice_get, codes}
use Rattle.std.specs.List.{list_all}
use Rattle.clap.specs.Words.{App, new_app, new_rule, with_rule}
use Rattle.command_words.specs.declared.texts.Texts.{Texts}

-- a word that isn't empty and has no hyphen in front
abbrev pub is_word : List ℕ → Bool
is_word [] = false
is_word (b ∷ rest) = not (b == 45)

-- one to five of them
abbrev pub are_words : List (List ℕ) → Bool
are_words words = nat_le 1 (length words) && (nat_le (length words) 5 && list_all is_word words)

-- the command: five optional texts, and no program's name in front
abbrev pub five_texts : App
five_texts =
    let empty = new_app (codes "packsite") in
    let bare = record empty { top = record empty.top { no_binary_name = true } } in
    with_rule (with_rule (with_rule (with_rule (with_rule bare (new_rule (codes "1")))
    (new_rule (codes "2"))) (new_rule (codes "3"))) (new_rule (codes "4"))) (new_rule (codes "5"))

-- each text stands at its place
pub record HasTexts (words : List (List ℕ)) (texts : Texts) : Type 0 where
  pub first : option_map (λ s. s.now) texts.first ≡ slice_get words 0
  pub second : option_map (λ s. s.now) texts.second ≡ slice_get words 1
  pub third : option_map (λ s. s.now) texts.third ≡ slice_get words 2
  pub fourth : option_map (λ s. s.now) texts.fourth ≡ slice_get words 3
  pub fifth : option_map (λ s. s.now) texts.fifth ≡ slice_get words 4
