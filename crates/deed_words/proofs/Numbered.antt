-- What a number of a station means, in a history and in longer ones.
use Rattle.std.proofs.Common.{◌≡◌, ◌∙◌, ◌≢◌, ◌≤◌, ◌<◌, ◌+◌, ◌-◌, ◌⊎◌, inl, inr, ℕ, zero, suc, Bool, true, false, cond, nat_eq, List, [], ◌∷◌, ◌++◌, length, filter, Option, Some, refl, sym, subst, ap, arith, append_assoc}
use Rattle.std.specs.List.{slice_get}
use Rattle.std.specs.Cmp.{nat_eq_equiv}
use Rattle.std.proofs.lemmas.Option.{slice_get_within, slice_get_cases}
use Rattle.std.proofs.lemmas.List.Elements.{filter-append}
use Rattle.deed_words.specs.Setups.{Setup}
use Rattle.deed_words.specs.World.{World, nothing_yet}
use Rattle.deed_words.specs.declared.deed.Deed.{Deed}
use Rattle.deed_words.specs.declared.entry.Entry.{Entry}
use Rattle.deed_words.specs.declared.reply.Reply.{Reply}
use Rattle.deed_words.specs.Replies.{after, reply_to}
use Rattle.deed_words.specs.Walk.{steps_from}
use Rattle.deed_words.specs.History.{IsLawful, MayFollow, own, told_from, told_to, world_from, world_of}
use Rattle.deed_words.specs.Numbers.{Means, Meaning, Kept, Reused, New, Gap, IsTold}
use Rattle.deed_words.proofs.Following.{lawful_front, lawful_last}
use Rattle.deed_words.proofs.Deciding.{deeds, numbers}

-- ---- lists

get_front : {X : Type 0} (xs ys : List X) (i : ℕ) (x : X) → slice_get xs i ≡ Some x → slice_get (xs ++ ys) i ≡ Some x
get_front [] ys i x is = absurd (cc)
get_front (y ∷ xs) ys zero x is = is
get_front (y ∷ xs) ys (suc i) x is = get_front xs ys i x is

at_end : {X : Type 0} (xs : List X) (x : X) → slice_get (xs ++ x ∷ []) (length xs) ≡ Some x
at_end [] x = refl
at_end (y ∷ xs) x = at_end xs x

get_last : {X : Type 0} (xs : List X) (i : ℕ) (x : X) → i ≡ length xs → slice_get (xs ++ x ∷ []) i ≡ Some x
get_last xs i x is = subst (λ (k : ℕ). slice_get (xs ++ x ∷ []) k ≡ Some x) (sym is) (at_end xs x)

-- ---- entries of a station with their replies

pub told_from-append : (site : Setup) (w : World) (entries more : List Entry) → told_from site w (entries ++ more) ≡ told_from site w entries ++ told_from site (world_from site w entries) more
unfolding told_from steps_from world_from
told_from-append site w [] more = refl
told_from-append site w (entry ∷ entries) more = ap (λ (xs : List (Entry × Reply)). (entry, reply_to site w entry) ∷ xs) (told_from-append site (after site w entry) entries more)

pub told_to-append : (site : Setup) (history more : List Entry) (station : ℕ) → told_to site (history ++ more) station ≡ told_to site history station ++ filter (λ told. nat_eq told.0.station station) (told_from site (world_of site history) more)
unfolding told_to world_of
told_to-append site history more station =
    ap (λ (xs : List (Entry × Reply)). filter (λ told. nat_eq told.0.station station) xs) (told_from-append site nothing_yet history more)
    ∙ filter-append (λ (told : Entry × Reply). nat_eq told.0.station station) (told_from site nothing_yet history) (told_from site (world_from site nothing_yet history) more)

-- each entry of a station has its reply
length_told : (site : Setup) (w : World) (station : ℕ) (history : List Entry) → length (filter (λ told. nat_eq told.0.station station) (told_from site w history)) ≡ length (own station history)
unfolding told_from steps_from own
length_told site w station [] = refl
length_told site w station (entry ∷ entries) = one (nat_eq entry.station station) (length_told site (after site w entry) station entries)
  where
    one : (b : Bool) → length (filter (λ told. nat_eq told.0.station station) (told_from site (after site w entry) entries)) ≡ length (filter (λ e. nat_eq e.station station) entries)
        → length (cond b ((entry, reply_to site w entry) ∷ filter (λ told. nat_eq told.0.station station) (told_from site (after site w entry) entries)) (filter (λ told. nat_eq told.0.station station) (told_from site (after site w entry) entries)))
        ≡ length (cond b (entry ∷ filter (λ e. nat_eq e.station station) entries) (filter (λ e. nat_eq e.station station) entries))
    one true is = ap suc is
    one false is = is

pub length_told_to : (site : Setup) (station : ℕ) (history : List Entry) → length (told_to site history station) ≡ length (own station history)
unfolding told_to
length_told_to site station history = length_told site nothing_yet station history

-- ---- longer histories

told_on : (site : Setup) (history more : List Entry) (station number : ℕ) (entry : Entry) (reply : Reply) → IsTold site history station number entry reply → IsTold site (history ++ more) station number entry reply
unfolding IsTold
told_on site history more station number entry reply is = (
  is.0,
  subst (λ (xs : List (Entry × Reply)). slice_get xs (number - 1) ≡ Some (entry, reply)) (sym (told_to-append site history more station)) (get_front (told_to site history station) _ (number - 1) (entry, reply) is.1),
)

pub kept_on : (site : Setup) (history more : List Entry) (station number : ℕ) (deed : Deed) (reply : Reply) → Means site history station number deed (Kept reply) → Means site (history ++ more) station number deed (Kept reply)
unfolding Means
kept_on site history more station number deed reply is = (is.0, told_on site history more station number is.0 reply is.1, is.2)

pub reused_on : (site : Setup) (history more : List Entry) (station number : ℕ) (deed kept : Deed) → Means site history station number deed (Reused kept) → Means site (history ++ more) station number deed (Reused kept)
unfolding Means
reused_on site history more station number deed kept is = (is.0, is.1, told_on site history more station number is.0 is.1 is.2, is.3, is.4)

pub kept_deed : (site : Setup) (history : List Entry) (station number : ℕ) (deed kept : Deed) → Means site history station number deed (Reused kept) → (reply : Reply) × Means site history station number kept (Kept reply)
unfolding Means
kept_deed site history station number deed kept is = (is.1, (is.0, is.2, is.3))

-- a new entry is kept with its reply
pub kept_new : (site : Setup) (history : List Entry) (entry : Entry) → entry.number ≡ length (own entry.station history) + 1
    → Means site (history ++ entry ∷ []) entry.station entry.number entry.deed (Kept (reply_to site (world_of site history) entry))
unfolding Means IsTold told_from steps_from
kept_new site history entry next =
    let station : ℕ = entry.station in
    let told : Entry × Reply = (entry, reply_to site (world_of site history) entry) in
    let last : filter (λ told. nat_eq told.0.station station) (told ∷ []) ≡ told ∷ [] = ap (λ (b : Bool). cond b (told ∷ []) []) (nat_eq_equiv.refl station) in
    let all : told_to site (history ++ entry ∷ []) station ≡ told_to site history station ++ told ∷ [] = told_to-append site history (entry ∷ []) station ∙ ap (λ (xs : List (Entry × Reply)). told_to site history station ++ xs) last in
    let long = length_told_to site station history in
    let place : entry.number - 1 ≡ length (told_to site history station) = omega (arith, next, long) in
    (entry, (omega (arith, next), subst (λ (xs : List (Entry × Reply)). slice_get xs (entry.number - 1) ≡ Some told) (sym all) (get_last (told_to site history station) (entry.number - 1) told place)), refl)

pub kept_entry : (site : Setup) (front more : List Entry) (entry : Entry) → IsLawful site (front ++ entry ∷ more)
    → Means site (front ++ entry ∷ more) entry.station entry.number entry.deed (Kept (reply_to site (world_of site front) entry))
kept_entry site front more entry lawful =
    let split : (front ++ entry ∷ []) ++ more ≡ front ++ entry ∷ more = append_assoc front (entry ∷ []) more in
    let both : IsLawful site ((front ++ entry ∷ []) ++ more) = subst (IsLawful site) (sym split) lawful in
    let may : MayFollow site front (world_of site front) entry = lawful_last site front entry (lawful_front site (front ++ entry ∷ []) more both) in
    subst (λ (h : List Entry). Means site h entry.station entry.number entry.deed (Kept (reply_to site (world_of site front) entry))) split
    (kept_on site (front ++ entry ∷ []) more entry.station entry.number entry.deed (reply_to site (world_of site front) entry) (kept_new site front entry may.number))

-- ---- one meaning

told_range : (site : Setup) (history : List Entry) (station number : ℕ) (entry : Entry) (reply : Reply) → IsTold site history station number entry reply → (1 ≤ number) × (number ≤ length (own station history))
unfolding IsTold
told_range site history station number entry reply is =
    let within = slice_get_within (told_to site history station) (number - 1) (entry, reply) is.1 in
    let long = length_told_to site station history in
    (is.0, omega (arith, is.0, within, long))

same_told : (site : Setup) (history : List Entry) (station number : ℕ) (entry entry' : Entry) (reply reply' : Reply) → IsTold site history station number entry reply → IsTold site history station number entry' reply' → (entry ≡ entry') × (reply ≡ reply')
unfolding IsTold
same_told site history station number entry entry' reply reply' is is' =
    let one : Option (Entry × Reply) = Some (entry, reply) in
    let other : Option (Entry × Reply) = Some (entry', reply') in
    let both : one ≡ other = sym is.1 ∙ is'.1 in
    let told : Entry × Reply = (entry, reply) in
    let told' : Entry × Reply = (entry', reply') in
    let pair : told ≡ told' = cc in
    (ap (λ (p : Entry × Reply). p.0) pair, ap (λ (p : Entry × Reply). p.1) pair)

-- where the number was kept, nothing else holds of it
only_told : (site : Setup) (history : List Entry) (station number : ℕ) (deed : Deed) (entry : Entry) (reply : Reply) → IsTold site history station number entry reply
    → (entry.deed ≡ deed) ⊎ (entry.deed ≢ deed) → (meaning : Meaning) × Means site history station number deed meaning × ((other : Meaning) → Means site history station number deed other → other ≡ meaning)
unfolding Means
only_told site history station number deed entry reply is (inl e) = (Kept reply, (entry, is, e), others)
  where
    others : (other : Meaning) → Means site history station number deed other → other ≡ Kept reply
    others (Kept r) m = ap Kept (sym (same_told site history station number entry m.0 reply r is m.1).1)
    others (Reused d) m =
        let same : entry ≡ m.0 = (same_told site history station number entry m.0 reply m.1 is m.2).0 in
        absurd (m.4 (sym m.3 ∙ sym (ap (λ (x : Entry). x.deed) same) ∙ e))
    others New m = let r = told_range site history station number entry reply is in absurd (omega (arith, m, r.1))
    others (Gap last) m =
        let r = told_range site history station number entry reply is in
        let is_last : last ≡ length (own station history) = m.0 in
        elim m.1 as (λ _. Gap last ≡ Kept reply) [ inl none ↦ absurd (omega (arith, none, r.0)) | inr far ↦ absurd (omega (arith, far, r.1, is_last)) ]
only_told site history station number deed entry reply is (inr d) = (Reused entry.deed, (entry, reply, is, refl, d), others)
  where
    others : (other : Meaning) → Means site history station number deed other → other ≡ Reused entry.deed
    others (Kept r) m =
        let same : entry ≡ m.0 = (same_told site history station number entry m.0 reply r is m.1).0 in
        absurd (d (ap (λ (x : Entry). x.deed) same ∙ m.2))
    others (Reused k) m =
        let same : entry ≡ m.0 = (same_told site history station number entry m.0 reply m.1 is m.2).0 in
        ap Reused (sym m.3 ∙ sym (ap (λ (x : Entry). x.deed) same))
    others New m = let r = told_range site history station number entry reply is in absurd (omega (arith, m, r.1))
    others (Gap last) m =
        let r = told_range site history station number entry reply is in
        let is_last : last ≡ length (own station history) = m.0 in
        elim m.1 as (λ _. Gap last ≡ Reused entry.deed) [ inl none ↦ absurd (omega (arith, none, r.0)) | inr far ↦ absurd (omega (arith, far, r.1, is_last)) ]

only_new : (site : Setup) (history : List Entry) (station number : ℕ) (deed : Deed) → number ≡ length (own station history) + 1
    → (other : Meaning) → Means site history station number deed other → other ≡ New
unfolding Means
only_new site history station number deed next (Kept r) m = let r' = told_range site history station number m.0 r m.1 in absurd (omega (arith, next, r'.1))
only_new site history station number deed next (Reused k) m = let r' = told_range site history station number m.0 m.1 m.2 in absurd (omega (arith, next, r'.1))
only_new site history station number deed next New m = refl
only_new site history station number deed next (Gap last) m =
    let is_last : last ≡ length (own station history) = m.0 in
    elim m.1 as (λ _. Gap last ≡ New) [ inl none ↦ absurd (omega (arith, none, next)) | inr far ↦ absurd (omega (arith, far, next, is_last)) ]

only_gap : (site : Setup) (history : List Entry) (station number : ℕ) (deed : Deed) → (number ≡ 0) ⊎ (length (own station history) + 1 < number)
    → (other : Meaning) → Means site history station number deed other → other ≡ Gap (length (own station history))
unfolding Means
only_gap site history station number deed out (Kept r) m =
    let r' = told_range site history station number m.0 r m.1 in
    elim out as (λ _. Kept r ≡ Gap (length (own station history))) [ inl none ↦ absurd (omega (arith, none, r'.0)) | inr far ↦ absurd (omega (arith, far, r'.1)) ]
only_gap site history station number deed out (Reused k) m =
    let r' = told_range site history station number m.0 m.1 m.2 in
    elim out as (λ _. Reused k ≡ Gap (length (own station history))) [ inl none ↦ absurd (omega (arith, none, r'.0)) | inr far ↦ absurd (omega (arith, far, r'.1)) ]
only_gap site history station number deed out New m =
    elim out as (λ _. New ≡ Gap (length (own station history))) [ inl none ↦ absurd (omega (arith, none, m)) | inr far ↦ absurd (omega (arith, far, m)) ]
only_gap site history station number deed out (Gap last) m = ap Gap m.0

-- one thing that the number means, and nothing else
abbrev OneMeaning : Setup → List Entry → ℕ → ℕ → Deed → Type 0
OneMeaning site history station number deed = (meaning : Meaning) × Means site history station number deed meaning × ((other : Meaning) → Means site history station number deed other → other ≡ meaning)

gap_means : (site : Setup) (history : List Entry) (station number : ℕ) (deed : Deed) → (number ≡ 0) ⊎ (length (own station history) + 1 < number) → OneMeaning site history station number deed
unfolding Means
gap_means site history station number deed out = (Gap (length (own station history)), (refl, out), only_gap site history station number deed out)

past_means : (site : Setup) (history : List Entry) (station number : ℕ) (deed : Deed) → number ≢ 0 → length (told_to site history station) ≤ number - 1 → OneMeaning site history station number deed
unfolding Means
past_means site history station number deed some past =
    let long = length_told_to site station history in
    elim (numbers number (length (own station history) + 1)) as (λ _. OneMeaning site history station number deed) [
      | inl next ↦ (New, next, only_new site history station number deed next)
      | inr other ↦ gap_means site history station number deed (inr (omega (arith, some, past, other, long)))
    ]

some_means : (site : Setup) (history : List Entry) (station number : ℕ) (deed : Deed) → number ≢ 0 → OneMeaning site history station number deed
unfolding IsTold
some_means site history station number deed some =
    elim ((slice_get_cases (told_to site history station) (number - 1)).1) as (λ _. OneMeaning site history station number deed) [
      | inl told ↦ only_told site history station number deed told.0.0 told.0.1 (omega (arith, some), told.2) (deeds told.0.0.deed deed)
      | inr past ↦ past_means site history station number deed some past.0
    ]

pub one_meaning : (site : Setup) (history : List Entry) (station number : ℕ) (deed : Deed) → (meaning : Meaning) × Means site history station number deed meaning × ((other : Meaning) → Means site history station number deed other → other ≡ meaning)
one_meaning site history station number deed =
    elim (numbers number 0) as (λ _. OneMeaning site history station number deed) [
      | inl none ↦ gap_means site history station number deed (inl none)
      | inr some ↦ some_means site history station number deed some
    ]
