-- A look at a page tells what the number means in the history.
use Rattle.std.proofs.Common.{◌≡◌, ◌≢◌, ◌<◌, ◌+◌, ◌-◌, ◌⊎◌, inl, inr, ℕ, List, length, map, get_or, Some, refl, sym, ap, ◌∙◌, arith}
use Rattle.std.specs.List.{slice_get}
use Rattle.std.proofs.lemmas.List.{length-map, get_or-map}
use Rattle.std.proofs.lemmas.Option.{slice_get_cases}
use Rattle.deed_words.specs.Setups.{Setup}
use Rattle.deed_words.specs.declared.deed.Deed.{Deed}
use Rattle.deed_words.specs.declared.entry.Entry.{Entry}
use Rattle.deed_words.specs.declared.reply.Reply.{Reply}
use Rattle.deed_words.specs.History.{own, told_to}
use Rattle.deed_words.specs.Numbers.{Means, Kept, Reused, New, Gap, IsTold}
use Rattle.request_memo.specs.declared.page.Told.{Told}
use Rattle.request_memo.specs.Seeing.{told_of, AreToldTo}
use Rattle.std.specs.Prelude.{nat_eq, cond, Bool, true, false, filter, suc, [], ◌∷◌}
use Rattle.deed_words.specs.World.{World, nothing_yet}
use Rattle.deed_words.specs.Replies.{after, reply_to}
use Rattle.deed_words.specs.Walk.{steps_from}
use Rattle.deed_words.specs.History.{told_from}

-- each entry of a station has its reply
length_from : (site : Setup) (w : World) (station : ℕ) (history : List Entry) → length (filter (λ told. nat_eq told.0.station station) (told_from site w history)) ≡ length (own station history)
unfolding told_from steps_from own
length_from site w station [] = refl
length_from site w station (entry ∷ entries) = one (nat_eq entry.station station) (length_from site (after site w entry) station entries)
  where
    one : (b : Bool) → length (filter (λ told. nat_eq told.0.station station) (told_from site (after site w entry) entries)) ≡ length (filter (λ e. nat_eq e.station station) entries)
        → length (cond b ((entry, reply_to site w entry) ∷ filter (λ told. nat_eq told.0.station station) (told_from site (after site w entry) entries)) (filter (λ told. nat_eq told.0.station station) (told_from site (after site w entry) entries)))
        ≡ length (cond b (entry ∷ filter (λ e. nat_eq e.station station) entries) (filter (λ e. nat_eq e.station station) entries))
    one true is = ap suc is
    one false is = is

-- a station was told as much as it has entries
count_told : (site : Setup) (history : List Entry) (station : ℕ) (told : List Told) → AreToldTo site history station told → length told ≡ length (own station history)
unfolding told_to
count_told site history station told are = ap (λ (ts : List Told). length ts) are ∙ length-map (told_to site history station) told_of ∙ length_from site nothing_yet station history

-- what stands at a place is an entry's
told_there : (pairs : List (Entry × Reply)) (told : List Told) (k : ℕ) (t : Told) → told ≡ map told_of pairs → k < length told → t ≡ get_or told k t → (p : Entry × Reply) × (slice_get pairs k ≡ Some p) × (told_of p ≡ t)
told_there pairs told k t are within is =
    let long : length told ≡ length pairs = ap (λ (ts : List Told). length ts) are ∙ length-map pairs told_of in
    elim ((slice_get_cases pairs k).1) as (λ _. (p : Entry × Reply) × (slice_get pairs k ≡ Some p) × (told_of p ≡ t)) [
      | inl there ↦ (
        there.0,
        there.2,
        ap told_of (sym there.3) ∙ sym (get_or-map told_of pairs k there.0 t there.1) ∙ ap (λ (ts : List Told). get_or ts k t) (sym are) ∙ sym is,
      )
      | inr past ↦ absurd (omega (arith, past.0, within, long))
    ]

-- the number after a place
after_place : (place : ℕ) → place + 1 - 1 ≡ place
after_place place = omega arith

pub kept_means : (site : Setup) (history : List Entry) (station place : ℕ) (deed : Deed) (told : List Told) (t : Told) → AreToldTo site history station told
    → place < length told → t ≡ get_or told place t → t.deed ≡ deed → Means site history station (place + 1) deed (Kept t.reply)
unfolding Means IsTold
kept_means site history station place deed told t are within is same =
    let p = told_there (told_to site history station) told place t are within is in
    let reply : p.0.1 ≡ t.reply = ap (λ (x : Told). x.reply) p.2 in
    let there : slice_get (told_to site history station) (place + 1 - 1) ≡ Some p.0 = ap (slice_get (told_to site history station)) (after_place place) ∙ p.1 in
    (p.0.0, (omega arith, there ∙ ap (λ (r : Reply). let of : Entry × Reply = (p.0.0, r) in Some of) reply), ap (λ (x : Told). x.deed) p.2 ∙ same)

pub reused_means : (site : Setup) (history : List Entry) (station place : ℕ) (deed : Deed) (told : List Told) (t : Told) → AreToldTo site history station told
    → place < length told → t ≡ get_or told place t → t.deed ≢ deed → Means site history station (place + 1) deed (Reused t.deed)
unfolding Means IsTold
reused_means site history station place deed told t are within is other =
    let p = told_there (told_to site history station) told place t are within is in
    let there : slice_get (told_to site history station) (place + 1 - 1) ≡ Some p.0 = ap (slice_get (told_to site history station)) (after_place place) ∙ p.1 in
    (p.0.0, p.0.1, (omega arith, there), ap (λ (x : Told). x.deed) p.2, other)

pub new_means : (site : Setup) (history : List Entry) (station number : ℕ) (deed : Deed) (told : List Told) → AreToldTo site history station told
    → number ≡ length told + 1 → Means site history station number deed New
unfolding Means
new_means site history station number deed told are next =
    let long = count_told site history station told are in
    omega (arith, next, long)

pub gap_means : (site : Setup) (history : List Entry) (station number last : ℕ) (deed : Deed) (told : List Told) → AreToldTo site history station told
    → last ≡ length told → (number ≡ 0) ⊎ (last + 1 < number) → Means site history station number deed (Gap last)
unfolding Means
gap_means site history station number last deed told are is out = (is ∙ count_told site history station told are, out)
