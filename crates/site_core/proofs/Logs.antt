-- An entry at its place: who asked what, and what was told.
use Rattle.std.proofs.Common.{◌≡◌, ◌<◌, ◌-◌, ℕ, zero, suc, List, [], ◌∷◌, ◌++◌, length, get_or, Option, Some, None, refl, sym, ap, ◌∙◌, subst, arith}
use Rattle.std.specs.List.{slice_get, AllByRecursion as Every}
use Rattle.std.proofs.Math.Seq.{get_or-append_seam}
use Rattle.std.proofs.lemmas.List.{get_or-map, get_or_past, get_or_default, length-map}
use Rattle.std.proofs.lemmas.Option.{slice_get_within}
use native.Mathlib.Decide.{dec_lt}
use Rattle.deed_words.specs.Setups.{Setup}
use Rattle.deed_words.specs.Rules.{broken}
use Rattle.deed_words.specs.Replies.{reply_to, replied}
use Rattle.deed_words.specs.World.{World}
use Rattle.deed_words.specs.History.{told_to}
use Rattle.deed_words.specs.Numbers.{Means, IsTold, Kept as KeptAs}
use Rattle.deed_words.specs.declared.entry.Entry.{Entry}
use Rattle.deed_words.specs.declared.reply.Reply.{Reply}
use Rattle.deed_words.specs.declared.rule.Rule.{Rule}
use Rattle.request_memo.specs.declared.page.Told.{Told}
use Rattle.request_memo.specs.Memos.{told_by}
use Rattle.request_memo.specs.Seeing.{told_of, AreToldTo}
use Rattle.batch_book.proofs.Lists.{get_or_got}
use Rattle.site_core.specs.declared.kept.Kept.{Kept}
use Rattle.site_core.specs.Entries.{unasked, told_at, entry_in, history_in}
use Rattle.site_core.specs.Seen.{rule_told}
use Rattle.site_core.proofs.Pages.{IsPaged}

every_at : {A : Type 0} (P : A → Type 0) (xs : List A) → Every P xs → (i : ℕ) (d : A) → i < length xs → P (get_or xs i d)
every_at P [] all i d l = absurd (omega (arith, l))
every_at P (x ∷ xs) all zero d l = all.0
every_at P (x ∷ xs) all (suc i) d l = every_at P xs all.1 i d (omega (arith, l))

pub as_many : (told : List (List Told)) (kept : List Kept) → length (history_in told kept) ≡ length kept
unfolding history_in
as_many told kept = length-map kept (entry_in told)

-- the number at a place stands on its page
pub on_page : (told : List (List Told)) (kept : List Kept) (place : ℕ) (k : Kept) → Every (λ e. IsPaged told e.station e.number) (history_in told kept) → place < length kept → k ≡ get_or kept place k → IsPaged told k.station k.number
unfolding history_in entry_in
on_page told kept place k all l is =
    let at = every_at (λ (e : Entry). IsPaged told e.station e.number) (history_in told kept) all place (entry_in told k) (omega (arith, l, as_many told kept)) in
    let e : get_or (history_in told kept) place (entry_in told k) ≡ entry_in told k = get_or-map (entry_in told) kept place k (entry_in told k) l ∙ ap (entry_in told) (sym is) in
    subst (λ (x : Entry). IsPaged told x.station x.number) e at

-- a station with a page is there
pub page_there : (told : List (List Told)) (station number : ℕ) → IsPaged told station number → station < length told
page_there told station number p = elim (dec_lt station (length told)) [
  | yes l ↦ l
  | no n ↦
      let none : length (told_by told station) ≡ 0 = ap (λ (ts : List Told). length ts) (get_or_past told station [] (omega (arith, n))) in
      absurd (omega (arith, none, p.0, p.1))
]

-- the entry of the history is the one that is kept
pub entry_at : (told : List (List Told)) (kept : List Kept) (front more : List Entry) (entry : Entry) (place : ℕ) (k : Kept) → history_in told kept ≡ front ++ entry ∷ more → length front ≡ place → place < length kept → k ≡ get_or kept place k → entry_in told k ≡ entry
unfolding history_in
entry_at told kept front more entry place k e long l is =
    ap (entry_in told) is
    ∙ sym (get_or-map (entry_in told) kept place k entry l)
    ∙ ap (λ (es : List Entry). get_or es place entry) e
    ∙ ap (λ (n : ℕ). get_or (front ++ entry ∷ more) n entry) (sym long)
    ∙ get_or-append_seam front entry more entry

-- the entry at a place
pub entry_got : (told : List (List Told)) (kept : List Kept) (place : ℕ) (k : Kept) (e : Entry) → place < length kept → k ≡ get_or kept place k → get_or (history_in told kept) place e ≡ entry_in told k
unfolding history_in
entry_got told kept place k e l is = get_or-map (entry_in told) kept place k e l ∙ ap (entry_in told) (sym is)

-- what stands on the page under its number is what is told at it
pub told_is_at : (told : List (List Told)) (k : Kept) (t : Told) → IsPaged told k.station k.number → t ≡ get_or (told_by told k.station) (k.number - 1) t → t ≡ told_at told k
unfolding told_at
told_is_at told k t p is = is ∙ sym (get_or_default (told_by told k.station) (k.number - 1) unasked t (omega (arith, p.0, p.1)))

-- and its reply is the one that the entry got
pub reply_is : (site : Setup) (history : List Entry) (station number : ℕ) (page : List Told) (t : Told) (entry : Entry) (reply : Reply) → AreToldTo site history station page → Means site history station number entry.deed (KeptAs reply)
    → t ≡ get_or page (number - 1) t → t.reply ≡ reply
unfolding Means IsTold
reply_is site history station number page t entry reply are means is =
    let all = told_to site history station in
    let there : slice_get all (number - 1) ≡ Some (means.0, reply) = means.1.1 in
    ap (λ (x : Told). x.reply)
    (is ∙ ap (λ (p : List Told). get_or p (number - 1) t) are
    ∙ get_or-map told_of all (number - 1) (means.0, reply) t (slice_get_within all (number - 1) (means.0, reply) there)
    ∙ ap told_of (get_or_got all (number - 1) (means.0, reply) (means.0, reply) there))

-- a reply tells the rule that is broken
pub rule_is : (site : Setup) (w : World) (entry : Entry) → rule_told (reply_to site w entry) ≡ broken site w entry.station entry.deed
unfolding rule_told reply_to replied
rule_is site w entry = by (broken site w entry.station entry.deed)
  where
    by : (o : Option Rule) → rule_told (replied site w entry o) ≡ o
    by None = refl
    by (Some rule) = refl
