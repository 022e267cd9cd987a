-- Texts that are put one behind the other.
use Rattle.std.proofs.Common.{◌≡◌, ℕ, ◌-◌, ◌≤◌, List, [], ◌∷◌, ◌++◌, length, replicate, take, ◌∙◌, ap, sym, append_assoc, codes, Some, option_map}
use Rattle.std.proofs.lemmas.List.{take-replicate}
use Rattle.std.specs.List.{flat_map}
use Rattle.deed_words.specs.Names.{Text}
use Rattle.deed_words.specs.Setups.{Setup}
use Rattle.deed_words.specs.History.{world_of}
use Rattle.deed_words.specs.World.{batch_of}
use Rattle.deed_words.specs.declared.entry.Entry.{Entry}
use Rattle.deed_words.specs.declared.world.Batch.{Batch}
use Rattle.batch_report.specs.declared.view.BatchView.{BatchView}
use Rattle.batch_report.specs.declared.view.LineRow.{LineRow}
use Rattle.batch_report.specs.Texts.{left, right, number_cell, text_line, number_line, line_line, report_of}
use Rattle.batch_report.specs.Views.{view_of, report_text}

-- two texts put behind a first one, and three, and four
two : (new mid out a b : Text) → new ≡ mid ++ b → mid ≡ out ++ a → new ≡ out ++ (a ++ b)
two new mid out a b e d = e ∙ ap (λ (xs : Text). xs ++ b) d ∙ append_assoc out a b

three : (new last mid out a b c : Text) → new ≡ last ++ c → last ≡ mid ++ b → mid ≡ out ++ a → new ≡ out ++ (a ++ b ++ c)
three new last mid out a b c f e d = two new last out (a ++ b) c f (two last mid out a b e d)

four : (new third second first out a b c d : Text) → new ≡ third ++ d → third ≡ second ++ c → second ≡ first ++ b → first ≡ out ++ a → new ≡ out ++ (a ++ b ++ c ++ d)
four new third second first out a b c d h g f e = two new third out (a ++ b ++ c) d h (three third second first out a b c g f e)

pub spaces_put : (new out : Text) (count : ℕ) → count ≤ 20 → new ≡ out ++ take count (replicate 20 32) → new ≡ out ++ replicate count 32
spaces_put new out count few e = e ∙ ap (λ (xs : Text). out ++ xs) (take-replicate count 20 32 few)

pub left_put : (new mid out text : Text) (width count : ℕ) → new ≡ mid ++ replicate count 32 → mid ≡ out ++ text → count ≡ width - length text → new ≡ out ++ left width text
unfolding left
left_put new mid out text width count e d same = two new mid out text (replicate (width - length text) 32) (e ∙ ap (λ (n : ℕ). mid ++ replicate n 32) same) d

pub right_put : (new mid out shown text : Text) (count : ℕ) → new ≡ mid ++ shown → mid ≡ out ++ replicate count 32 → count ≡ 9 - length shown → shown ≡ text → new ≡ out ++ right 9 text
unfolding right
right_put new mid out shown text count e d same is =
    two new mid out (replicate (9 - length text) 32) text (e ∙ ap (λ (xs : Text). mid ++ xs) is)
    (d ∙ ap (λ (n : ℕ). out ++ replicate n 32) (same ∙ ap (λ (xs : Text). 9 - length xs) is))

pub text_put : (new last mid out label value : Text) → new ≡ last ++ 10 ∷ [] → last ≡ mid ++ value → mid ≡ out ++ left 14 label → new ≡ out ++ text_line label value
unfolding text_line
text_put new last mid out label value f e d = three new last mid out (left 14 label) value (10 ∷ []) f e d

pub number_put : (new last mid out label : Text) (number : ℕ) → new ≡ last ++ 10 ∷ [] → last ≡ mid ++ number_cell number → mid ≡ out ++ left 14 label → new ≡ out ++ number_line label number
unfolding number_line
number_put new last mid out label number f e d = three new last mid out (left 14 label) (number_cell number) (10 ∷ []) f e d

pub line_put : (new third second first out name : Text) (line : LineRow) → new ≡ third ++ 10 ∷ [] → third ≡ second ++ flat_map number_cell line.numbers → second ≡ first ++ left 20 name → name ≡ line.name → first ≡ out ++ left 14 (codes "line")
    → new ≡ out ++ line_line line
unfolding line_line
line_put new third second first out name line h g f is e =
    four new third second first out (left 14 (codes "line")) (left 20 line.name) (flat_map number_cell line.numbers) (10 ∷ []) h g (f ∙ ap (λ (xs : Text). first ++ left 20 xs) is) e

-- the text of the view of a batch is the report of the batch
pub report_is : (site : Setup) (history : List Entry) (name text : Text) (batch : Batch) (view : BatchView) → batch_of (world_of site history) name ≡ Some batch → view ≡ view_of site history batch → text ≡ report_of view
    → report_text site history name ≡ Some text
unfolding report_text
report_is site history name text batch view there is told =
    ap (option_map (λ b. report_of (view_of site history b))) there ∙ ap Some (sym (told ∙ ap report_of is))
