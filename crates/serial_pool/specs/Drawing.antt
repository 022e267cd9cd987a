-- Which serials a draw takes from random words: the candidates of the first words, each once, without those that
-- the GTIN has.
use Rattle.std.specs.Prelude.{◌≡◌, ◌+◌, ◌*◌, ◌/◌, ◌%◌, ◌^◌, ◌<◌, ◌≤◌, ℕ, not, List, [], ◌∷◌, if◌then◌else◌, length, take, nat_lt, Option, Some, None, bytes_eq, filter, count_by}
use Rattle.std.specs.List.{filter_map, enumerate_from}
use Rattle.gs1_keys.specs.declared.form.SerialForm.{SerialForm}
use Rattle.gs1_keys.specs.Forms.{form_size, text_in, is_among}

-- a word at or past the last whole block of serials is passed over, so that each serial comes from as many words
abbrev pub words_end : SerialForm → ℕ
words_end form = 2 ^ 64 / form_size form * form_size form

-- the serial of the form that a word stands for, if it does
abbrev pub candidate : SerialForm → ℕ → Option (List ℕ)
candidate form word = if nat_lt word (words_end form) then Some (text_in form (word % form_size form)) else None

-- the serial, where it isn't one of those
abbrev pub unless_among : List (List ℕ) → Option (List ℕ) → Option (List ℕ)
unless_among serials None = None
unless_among serials (Some serial) = if is_among serials serial then None else Some serial

-- each serial at its first place alone
abbrev pub firsts : List (List ℕ) → List (List ℕ)
firsts [] = []
firsts (serial ∷ serials) = serial ∷ filter (λ other. not (bytes_eq serial other)) (firsts serials)

-- the candidates of these words, each once, without those that were had
abbrev pub fresh : List (List ℕ) → SerialForm → List ℕ → List (List ℕ)
fresh had form words = filter (λ serial. not (is_among had serial)) (firsts (filter_map (candidate form) words))

-- how many words a draw of so many serials may take
abbrev pub word_limit : ℕ → ℕ
word_limit count = 4 * count + 64

-- what a draw of so many serials takes from the words to come
abbrev pub drawn : List ℕ → List (List ℕ) → SerialForm → ℕ → List (List ℕ)
drawn words had form count = take count (fresh had form (take (word_limit count) words))

-- how many serials that are
abbrev pub found : List ℕ → List (List ℕ) → SerialForm → ℕ → ℕ
found words had form count = length (drawn words had form count)

-- how many words are taken for it: those with fewer new candidates before them than are asked
abbrev pub used : List ℕ → List (List ℕ) → SerialForm → ℕ → ℕ
used words had form count = count_by (λ p. nat_lt (length (fresh had form (take p.0 words))) count) (enumerate_from 0 (take (word_limit count) words))

-- these words and no fewer are what a draw of so many serials takes
pub record IsDraw (had : List (List ℕ)) (form : SerialForm) (count : ℕ) (taken : List ℕ) (serials : List (List ℕ)) : Type 0 where
  pub made : fresh had form taken ≡ serials
  pub enough : length serials ≡ count
  pub within : length taken ≤ word_limit count
  pub needed : (k : ℕ) → k < length taken → length (fresh had form (take k taken)) < count

-- all the words that a draw may take hold too few
pub record IsSpent (had : List (List ℕ)) (form : SerialForm) (count : ℕ) (taken : List ℕ) (few_found : ℕ) : Type 0 where
  pub counted : length (fresh had form taken) ≡ few_found
  pub few : few_found < count
  pub all : length taken ≡ word_limit count

-- the words so far hold too few, and more may be taken
pub record IsUnfinished (had : List (List ℕ)) (form : SerialForm) (count : ℕ) (taken : List ℕ) : Type 0 where
  pub few : length (fresh had form taken) < count
  pub more : length taken < word_limit count
