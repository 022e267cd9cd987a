-- The lines of a log, by their places.
use Rattle.std.proofs.Common.{◌≡◌, ◌<◌, ◌+◌, ◌-◌, ℕ, suc, List, [], ◌∷◌, ◌++◌, length, take, drop, get_or, refl, sym, ap, ◌∙◌, arith}
use Rattle.std.proofs.lemmas.List.{length-take-le, drop_more}
use Rattle.deed_words.specs.History.{world_from, world_of}
use Rattle.deed_words.specs.Names.{Text}
use Rattle.deed_words.specs.Replies.{after}
use Rattle.deed_words.specs.Setups.{Setup}
use Rattle.deed_words.specs.Walk.{Step, steps_from, steps_of}
use Rattle.deed_words.specs.World.{World, nothing_yet}
use Rattle.deed_words.specs.declared.entry.Entry.{Entry}
use Rattle.deed_json.specs.Replies.{station_name}
use Rattle.site_core.specs.declared.views.Logged.{Logged}
use Rattle.site_core.specs.Seen.{IsLogOf}
use Rattle.site_deeds.proofs.Shared.{got}
use Rattle.site_store.proofs.Taking.{take_here}
use Rattle.site_stores.proofs.Finding.{read_at}
use Rattle.deed_json.specs.Deeds.{deed_word}
use Rattle.site_console.specs.Logs.{joined, line_of, lines_from, log_line, log_lines, operator_word, verdict_word}

abbrev step_of : World → Entry → Step
step_of w entry = record { before = w; entry = entry }

lines_many : (site : Setup) (number : ℕ) (steps : List Step) → length (lines_from site number steps) ≡ length steps
unfolding lines_from
lines_many site number [] = refl
lines_many site number (step ∷ steps) = ap suc (lines_many site (suc number) steps)

steps_many : (site : Setup) (w : World) (entries : List Entry) → length (steps_from site w entries) ≡ length entries
unfolding steps_from
steps_many site w [] = refl
steps_many site w (entry ∷ entries) = ap suc (steps_many site (after site w entry) entries)

-- as many lines as entries
pub as_many_lines : (site : Setup) (history : List Entry) → length (log_lines site history) ≡ length history
unfolding log_lines
as_many_lines site history = lines_many site 1 (steps_of site history) ∙ steps_many site nothing_yet history

line_from : (site : Setup) (number : ℕ) (w : World) (front more : List Entry) (entry : Entry) (d : Text)
    → get_or (lines_from site number (steps_from site w (front ++ entry ∷ more))) (length front) d ≡ log_line site (number + length front) (step_of (world_from site w front) entry)
unfolding lines_from steps_from world_from
line_from site number w [] more entry d = let same : number ≡ number + 0 = omega arith in ap (λ (n : ℕ). log_line site n (step_of w entry)) same
line_from site number w (first ∷ front) more entry d =
    let same : suc number + length front ≡ number + suc (length front) = omega arith in
    line_from site (suc number) (after site w first) front more entry d ∙ ap (λ (n : ℕ). log_line site n (step_of (world_from site (after site w first) front) entry)) same

-- the line of the entry behind these
line_there : (site : Setup) (history front more : List Entry) (entry : Entry) (place : ℕ) → history ≡ front ++ entry ∷ more → length front ≡ place → get_or (log_lines site history) place [] ≡ log_line site (place + 1) (step_of (world_of site front) entry)
unfolding log_lines world_of
line_there site history front more entry place split long =
    let next : 1 + length front ≡ place + 1 = omega (arith, long) in
    ap (λ (k : ℕ). get_or (log_lines site history) k []) (sym long) ∙ ap (λ (h : List Entry). get_or (log_lines site h) (length front) []) split
    ∙ line_from site 1 nothing_yet front more entry [] ∙ ap (λ (n : ℕ). log_line site n (step_of (world_from site nothing_yet front) entry)) next

-- a line as it is told
told_line : (site : Setup) (w : World) (entry : Entry) (logged : Logged) (number : ℕ) → IsLogOf site w entry logged
    → line_of number (station_name site logged.station) logged.number (deed_word logged.deed.now) (operator_word logged.operator) (verdict_word logged.rule) ≡ log_line site number (step_of w entry)
unfolding log_line
told_line site w entry logged number is = rw (is.station, is.number, is.deed, is.operator, is.rule) refl

pub line_is : (site : Setup) (history : List Entry) (place : ℕ) (logged : Logged) → place < length history → ((front more : List Entry) (entry : Entry) → history ≡ front ++ entry ∷ more → length front ≡ place → IsLogOf site (world_of site front) entry logged)
    → line_of (place + 1) (station_name site logged.station) logged.number (deed_word logged.deed.now) (operator_word logged.operator) (verdict_word logged.rule) ≡ get_or (log_lines site history) place []
line_is site history place logged there is =
    let entry = got history place there in
    let front = take place history in
    let more = drop (place + 1) history in
    let split = take_here history place entry.0 there (sym (read_at history place entry.0 entry.0 entry.1)) in
    let long = length-take-le place history (omega (arith, there)) in
    told_line site (world_of site front) entry.0 logged (place + 1) (is front more entry.0 split long) ∙ sym (line_there site history front more entry.0 place split long)

-- the line at a place, and those behind it up to another
pub next_line : (lines : List Text) (place past : ℕ) → place < past → place < length lines → joined (take (past - place) (drop place lines)) ≡ get_or lines place [] ++ joined (take (past - (place + 1)) (drop (place + 1) lines))
next_line lines place past there within =
    let size : past - place ≡ suc (past - (place + 1)) = omega (arith, there) in
    ap (λ (k : ℕ). joined (take k (drop place lines))) size ∙ ap (λ (rest : List Text). joined (take (suc (past - (place + 1))) rest)) (drop_more lines place [] within)
