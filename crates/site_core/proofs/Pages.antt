-- What each station asked and was told, with one thing more and with one thing less.
use Rattle.std.proofs.Common.{◌≡◌, ◌≢◌, ◌<◌, ◌≤◌, ◌+◌, ◌⊎◌, inl, inr, ℕ, suc, Bool, true, false, cond, nat_eq, List, [], ◌∷◌, ◌++◌, length, map, filter, refl, sym, ap, ◌∙◌, subst, arith, append_assoc, append-nil}
use Rattle.std.specs.Cmp.{nat_eq_equiv}
use Rattle.std.specs.List.{AllByRecursion as Every}
use Rattle.std.proofs.lemmas.Bool.Decides.{nat_tests}
use Rattle.std.proofs.lemmas.List.{length-map, map-append, length-append, get_or-set_same, get_or-set_other, same_from_push}
use Rattle.std.proofs.lemmas.List.Elements.{filter-append}
use Rattle.std.proofs.lemmas.List.Sums.{length-filter, count_by-le-length}
use Rattle.deed_words.specs.Setups.{Setup}
use Rattle.deed_words.specs.World.{World, nothing_yet}
use Rattle.deed_words.specs.declared.entry.Entry.{Entry}
use Rattle.deed_words.specs.declared.reply.Reply.{Reply}
use Rattle.deed_words.specs.Replies.{after, reply_to}
use Rattle.deed_words.specs.Walk.{steps_from}
use Rattle.deed_words.specs.History.{AllFollow, IsLawful, own, told_from, told_to, world_from, world_of}
use Rattle.request_memo.specs.declared.page.Told.{Told}
use Rattle.request_memo.specs.Memos.{told_by, with_told}
use Rattle.request_memo.specs.Seeing.{told_of, AreToldTo}

-- ---- numbers

pub equal : (n m : ℕ) → nat_eq n m ≡ true → n ≡ m
equal n m e = grind (arith, nat_tests)

pub differ : (n m : ℕ) → n ≢ m → nat_eq n m ≡ false
differ n m d = grind (arith, nat_tests)

pub apart : (n m : ℕ) → nat_eq n m ≡ false → n ≢ m
apart n m e = grind (arith, nat_tests)

pub same_or_not : (n m : ℕ) → (n ≡ m) ⊎ (n ≢ m)
same_or_not n m = (elim (nat_eq n m) as (λ (b : Bool). nat_eq n m ≡ b → (n ≡ m) ⊎ (n ≢ m)) [ true ↦ λ e. inl (equal n m e) | false ↦ λ e. inr (apart n m e) ]) refl

-- ---- entries of a station with their replies

told_from-append : (site : Setup) (w : World) (entries more : List Entry) → told_from site w (entries ++ more) ≡ told_from site w entries ++ told_from site (world_from site w entries) more
unfolding told_from steps_from world_from
told_from-append site w [] more = refl
told_from-append site w (entry ∷ entries) more = ap (λ (xs : List (Entry × Reply)). (entry, reply_to site w entry) ∷ xs) (told_from-append site (after site w entry) entries more)

told_to-more : (site : Setup) (history : List Entry) (entry : Entry) (station : ℕ)
    → told_to site (history ++ entry ∷ []) station ≡ told_to site history station ++ cond (nat_eq entry.station station) ((entry, reply_to site (world_of site history) entry) ∷ []) []
unfolding told_to world_of told_from steps_from
told_to-more site history entry station =
    ap (λ (xs : List (Entry × Reply)). filter (λ told. nat_eq told.0.station station) xs) (told_from-append site nothing_yet history (entry ∷ []))
    ∙ filter-append (λ (told : Entry × Reply). nat_eq told.0.station station) (told_from site nothing_yet history) (told_from site (world_from site nothing_yet history) (entry ∷ []))

here_more : (site : Setup) (history : List Entry) (entry : Entry)
    → told_to site (history ++ entry ∷ []) entry.station ≡ told_to site history entry.station ++ (entry, reply_to site (world_of site history) entry) ∷ []
here_more site history entry =
    told_to-more site history entry entry.station
    ∙ ap (λ (b : Bool). told_to site history entry.station ++ cond b ((entry, reply_to site (world_of site history) entry) ∷ []) []) (nat_eq_equiv.refl entry.station)

other_more : (site : Setup) (history : List Entry) (entry : Entry) (station : ℕ) → entry.station ≢ station → told_to site (history ++ entry ∷ []) station ≡ told_to site history station
other_more site history entry station d =
    told_to-more site history entry station
    ∙ ap (λ (b : Bool). told_to site history station ++ cond b ((entry, reply_to site (world_of site history) entry) ∷ []) []) (differ entry.station station d)
    ∙ append-nil (told_to site history station)

-- ---- pages

pub page_here : (told : List (List Told)) (station : ℕ) (t : Told) → station < length told → told_by (with_told told station t) station ≡ told_by told station ++ t ∷ []
page_here told station t within = get_or-set_same told station (told_by told station ++ t ∷ []) [] within

pub page_other : (told : List (List Told)) (station other : ℕ) (t : Told) → station ≢ other → told_by (with_told told station t) other ≡ told_by told other
page_other told station other t d = get_or-set_other told station other (told_by told station ++ t ∷ []) [] (λ e. d (sym e))

pub told_more : (site : Setup) (history : List Entry) (told new : List (List Told)) (entry : Entry) (t : Told) → ((s : ℕ) → AreToldTo site history s (told_by told s)) → entry.station < length told
    → new ≡ with_told told entry.station t → t ≡ told_of (entry, reply_to site (world_of site history) entry) → (s : ℕ) → AreToldTo site (history ++ entry ∷ []) s (told_by new s)
told_more site history told new entry t are within is told_is s =
    elim (same_or_not entry.station s) as (λ _. AreToldTo site (history ++ entry ∷ []) s (told_by new s)) [
      | inl e ↦ subst (λ (k : ℕ). AreToldTo site (history ++ entry ∷ []) k (told_by new k)) e (
          ap (λ (pages : List (List Told)). told_by pages entry.station) is ∙ page_here told entry.station t within
          ∙ ap (λ (ts : List Told). ts ++ t ∷ []) (are entry.station) ∙ ap (λ (x : Told). map told_of (told_to site history entry.station) ++ x ∷ []) told_is
          ∙ sym (map-append told_of (told_to site history entry.station) ((entry, reply_to site (world_of site history) entry) ∷ []))
          ∙ sym (ap (λ (ts : List (Entry × Reply)). map told_of ts) (here_more site history entry)))
      | inr d ↦ ap (λ (pages : List (List Told)). told_by pages s) is ∙ page_other told entry.station s t d ∙ are s
          ∙ sym (ap (λ (ts : List (Entry × Reply)). map told_of ts) (other_more site history entry s d))
    ]

page_before : (site : Setup) (front : List Entry) (told new : List (List Told)) (entry : Entry) (t : Told) → ((s : ℕ) → AreToldTo site (front ++ entry ∷ []) s (told_by told s)) → entry.station < length new
    → told ≡ with_told new entry.station t → (told_by new entry.station ≡ map told_of (told_to site front entry.station)) × (t ≡ told_of (entry, reply_to site (world_of site front) entry))
page_before site front told new entry t are within is =
    same_from_push (told_by new entry.station) (map told_of (told_to site front entry.station)) t (told_of (entry, reply_to site (world_of site front) entry))
    (sym (page_here new entry.station t within) ∙ ap (λ (pages : List (List Told)). told_by pages entry.station) (sym is) ∙ are entry.station
    ∙ ap (λ (ts : List (Entry × Reply)). map told_of ts) (here_more site front entry)
    ∙ map-append told_of (told_to site front entry.station) ((entry, reply_to site (world_of site front) entry) ∷ []))

pub told_last : (site : Setup) (front : List Entry) (told new : List (List Told)) (entry : Entry) (t : Told) → ((s : ℕ) → AreToldTo site (front ++ entry ∷ []) s (told_by told s)) → entry.station < length new
    → told ≡ with_told new entry.station t → t ≡ told_of (entry, reply_to site (world_of site front) entry)
told_last site front told new entry t are within is = (page_before site front told new entry t are within is).1

pub told_less : (site : Setup) (front : List Entry) (told new : List (List Told)) (entry : Entry) (t : Told) → ((s : ℕ) → AreToldTo site (front ++ entry ∷ []) s (told_by told s)) → entry.station < length new
    → told ≡ with_told new entry.station t → (s : ℕ) → AreToldTo site front s (told_by new s)
told_less site front told new entry t are within is s =
    elim (same_or_not entry.station s) as (λ _. AreToldTo site front s (told_by new s)) [
      | inl e ↦ subst (λ (k : ℕ). AreToldTo site front k (told_by new k)) e (page_before site front told new entry t are within is).0
      | inr d ↦ sym (page_other new entry.station s t d) ∙ ap (λ (pages : List (List Told)). told_by pages s) (sym is) ∙ are s
          ∙ ap (λ (ts : List (Entry × Reply)). map told_of ts) (other_more site front entry s d)
    ]

-- a station was told as much as it has entries
length_from : (site : Setup) (w : World) (station : ℕ) (history : List Entry) → length (filter (λ told. nat_eq told.0.station station) (told_from site w history)) ≡ length (own station history)
unfolding told_from steps_from own
length_from site w station [] = refl
length_from site w station (entry ∷ entries) = one (nat_eq entry.station station) (length_from site (after site w entry) station entries)
  where
    one : (b : Bool) → length (filter (λ told. nat_eq told.0.station station) (told_from site (after site w entry) entries)) ≡ length (filter (λ e. nat_eq e.station station) entries)
        → length (cond b ((entry, reply_to site w entry) ∷ filter (λ told. nat_eq told.0.station station) (told_from site (after site w entry) entries)) (filter (λ told. nat_eq told.0.station station) (told_from site (after site w entry) entries)))
        ≡ length (cond b (entry ∷ filter (λ e. nat_eq e.station station) entries) (filter (λ e. nat_eq e.station station) entries))
    one true is = ap suc is
    one false is = is

pub count_told : (site : Setup) (history : List Entry) (station : ℕ) (told : List Told) → AreToldTo site history station told → length told ≡ length (own station history)
unfolding told_to
count_told site history station told are = ap (λ (ts : List Told). length ts) are ∙ length-map (told_to site history station) told_of ∙ length_from site nothing_yet station history

-- ---- each number stands on its page

numbered_from : (site : Setup) (history : List Entry) (w : World) (entries : List Entry) → AllFollow site history w entries → Every (λ e. (1 ≤ e.number) × (e.number ≤ length (own e.station (history ++ entries)))) entries
unfolding AllFollow own
numbered_from site history w [] a = tt
numbered_from site history w (entry ∷ entries) a =
    let test = λ (e : Entry). nat_eq e.station entry.station in
    let all : length (filter test (history ++ entry ∷ entries)) ≡ length (filter test history) + length (filter test (entry ∷ entries)) = ap (λ (es : List Entry). length es) (filter-append test history (entry ∷ entries)) ∙ length-append (filter test history) (filter test (entry ∷ entries)) in
    let one : length (filter test (entry ∷ entries)) ≡ length (filter test entries) + 1 = ap (λ (b : Bool). length (cond b (entry ∷ filter test entries) (filter test entries))) (nat_eq_equiv.refl entry.station) ∙ omega arith in
    let number : entry.number ≡ length (filter test history) + 1 = a.0.number in
    ((omega (arith, number), omega (arith, number, all, one)), subst (λ (h : List Entry). Every (λ e. (1 ≤ e.number) × (e.number ≤ length (own e.station h))) entries) (append_assoc history (entry ∷ []) entries) (numbered_from site (history ++ entry ∷ []) (after site w entry) entries a.1))

numbered : (site : Setup) (history : List Entry) → IsLawful site history → Every (λ e. (1 ≤ e.number) × (e.number ≤ length (own e.station history))) history
unfolding IsLawful
numbered site history lawful = numbered_from site [] nothing_yet history lawful

-- what is asked under each number stands on the page of its station
abbrev pub IsPaged : List (List Told) → ℕ → ℕ → Type 0
IsPaged told station number = (1 ≤ number) × (number ≤ length (told_by told station))

paged_from : (site : Setup) (history : List Entry) (told : List (List Told)) → ((s : ℕ) → AreToldTo site history s (told_by told s)) → (entries : List Entry)
    → Every (λ e. (1 ≤ e.number) × (e.number ≤ length (own e.station history))) entries → Every (λ e. IsPaged told e.station e.number) entries
paged_from site history told are [] all = tt
paged_from site history told are (entry ∷ entries) all =
    let long = count_told site history entry.station (told_by told entry.station) (are entry.station) in
    ((all.0.0, omega (arith, all.0.1, long)), paged_from site history told are entries all.1)

pub paged : (site : Setup) (history : List Entry) (told : List (List Told)) → IsLawful site history → ((s : ℕ) → AreToldTo site history s (told_by told s)) → Every (λ e. IsPaged told e.station e.number) history
paged site history told lawful are = paged_from site history told are history (numbered site history lawful)

-- a station has at least its last entry
pub own_some : (front : List Entry) (entry : Entry) → 0 < length (own entry.station (front ++ entry ∷ []))
unfolding own
own_some front entry =
    let test = λ (e : Entry). nat_eq e.station entry.station in
    let all : length (filter test (front ++ entry ∷ [])) ≡ length (filter test front) + length (filter test (entry ∷ [])) = ap (λ (es : List Entry). length es) (filter-append test front (entry ∷ [])) ∙ length-append (filter test front) (filter test (entry ∷ [])) in
    let one : length (filter test (entry ∷ [])) ≡ 1 = ap (λ (b : Bool). length (cond b (entry ∷ []) [])) (nat_eq_equiv.refl entry.station) in
    omega (arith, all, one)

-- and no more than there are
pub own_few : (station : ℕ) (history : List Entry) → length (own station history) ≤ length history
unfolding own
own_few station history =
    let test = λ (e : Entry). nat_eq e.station station in
    subst (λ n. n ≤ length history) (sym (length-filter test history)) (count_by-le-length test history)
