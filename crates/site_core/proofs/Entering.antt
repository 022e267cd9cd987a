-- The history by what is kept of it.
use Rattle.std.proofs.Common.{◌≡◌, ◌<◌, ◌+◌, ◌-◌, inl, inr, ℕ, zero, suc, List, [], ◌∷◌, ◌++◌, length, map, get_or, Option, None, Some, refl, sym, ap, ap₂, ◌∙◌, subst, arith}
use Rattle.std.specs.List.{AllByRecursion as Every, slice_get}
use Rattle.std.proofs.Math.Seq.{get_or-append_seam}
use Rattle.std.proofs.lemmas.List.{length-map, length_push, map-append, get_or_append_left, same_from_push}
use Rattle.deed_words.specs.Names.{Text}
use Rattle.deed_words.specs.Setups.{Setup}
use Rattle.deed_words.specs.World.{World}
use Rattle.deed_words.specs.declared.deed.Deed.{Deed}
use Rattle.deed_words.specs.declared.deed.Deed.TheVariants.{Draw}
use Rattle.deed_words.specs.declared.entry.Entry.{Entry}
use Rattle.deed_words.specs.declared.reply.Reply.{Reply}
use Rattle.deed_words.specs.declared.rule.Rule.{Rule}
use Rattle.deed_words.specs.Replies.{answer_to, replied, reply_to}
use Rattle.deed_words.specs.Rules.{broken}
use Rattle.deed_words.specs.History.{MayDraw, last_stamp}
use Rattle.request_memo.specs.declared.page.Told.{Told}
use Rattle.request_memo.specs.Memos.{told_by, with_told}
use Rattle.site_core.specs.declared.kept.Kept.{Kept}
use Rattle.site_core.specs.Entries.{serials_told, unasked, told_at, entry_in, history_in}
use Rattle.site_core.proofs.Pages.{IsPaged, page_here, page_other, same_or_not}

-- what is kept of an entry
abbrev pub kept_of : Entry → Kept
kept_of entry = record { station = entry.station; number = entry.number; worker = entry.worker; stamp = entry.stamp; operator = entry.operator }

-- ---- what was drawn is told by the reply

drawn_by : (site : Setup) (w : World) (entry : Entry) (rule : Option Rule) (deed : Deed) → entry.deed ≡ deed → MayDraw site w rule deed entry.drawn → entry.drawn ≡ serials_told deed (replied site w entry rule)
unfolding MayDraw serials_told replied answer_to
drawn_by site w entry None (Draw name count) is may = sym (ap (λ (d : Deed). serials_told (Draw name count) (replied site w (record entry { deed = d }) None)) is)
drawn_by site w entry None deed is may = may
drawn_by site w entry (Some rule) (Draw name count) is may = may
drawn_by site w entry (Some rule) deed is may = may

pub drawn_told : (site : Setup) (w : World) (entry : Entry) → MayDraw site w (broken site w entry.station entry.deed) entry.deed entry.drawn → entry.drawn ≡ serials_told entry.deed (reply_to site w entry)
unfolding reply_to
drawn_told site w entry may = drawn_by site w entry (broken site w entry.station entry.deed) entry.deed refl may

-- ---- one entry

same_entry : (told new : List (List Told)) (kept : Kept) → told_at new kept ≡ told_at told kept → entry_in new kept ≡ entry_in told kept
unfolding entry_in
same_entry told new kept e =
    ap (λ (t : Told). record { station = kept.station; number = kept.number; worker = kept.worker; stamp = kept.stamp; operator = kept.operator; deed = t.deed; drawn = serials_told t.deed t.reply }) e

same_page : (told new : List (List Told)) (station : ℕ) (t : Told) (kept : Kept) → station < length told → new ≡ with_told told station t → IsPaged told kept.station kept.number → told_at new kept ≡ told_at told kept
unfolding told_at
same_page told new station t kept within is on =
    elim (same_or_not station kept.station) as (λ _. get_or (told_by new kept.station) (kept.number - 1) unasked ≡ get_or (told_by told kept.station) (kept.number - 1) unasked) [
      | inl e ↦
          let page : told_by new kept.station ≡ told_by told kept.station ++ t ∷ [] =
          ap (λ (pages : List (List Told)). told_by pages kept.station) is ∙ subst (λ (k : ℕ). told_by (with_told told station t) k ≡ told_by told k ++ t ∷ []) e (page_here told station t within) in
          ap (λ (ts : List Told). get_or ts (kept.number - 1) unasked) page ∙ get_or_append_left (told_by told kept.station) (t ∷ []) unasked (kept.number - 1) (omega (arith, on.0, on.1))
      | inr d ↦ ap (λ (pages : List (List Told)). get_or (told_by pages kept.station) (kept.number - 1) unasked) is
          ∙ ap (λ (ts : List Told). get_or ts (kept.number - 1) unasked) (page_other told station kept.station t d)
    ]

-- the entry that was kept last
pub entered : (told new : List (List Told)) (entry : Entry) (reply : Reply) → entry.station < length told → new ≡ with_told told entry.station (record { deed = entry.deed; reply = reply }) → entry.number ≡ length (told_by told entry.station) + 1
    → entry.drawn ≡ serials_told entry.deed reply → entry_in new (kept_of entry) ≡ entry
unfolding entry_in told_at
entered told new entry reply within is number drawn =
    let t : Told = record { deed = entry.deed; reply = reply } in
    let page : told_by new entry.station ≡ told_by told entry.station ++ t ∷ [] = ap (λ (pages : List (List Told)). told_by pages entry.station) is ∙ page_here told entry.station t within in
    let place : entry.number - 1 ≡ length (told_by told entry.station) = omega (arith, number) in
    let at : get_or (told_by new entry.station) (entry.number - 1) unasked ≡ t =
    ap (λ (ts : List Told). get_or ts (entry.number - 1) unasked) page ∙ ap (λ (k : ℕ). get_or (told_by told entry.station ++ t ∷ []) k unasked) place ∙ get_or-append_seam (told_by told entry.station) t [] unasked in
    ap (λ (x : Told). record { station = entry.station; number = entry.number; worker = entry.worker; stamp = entry.stamp; operator = entry.operator; deed = x.deed; drawn = serials_told x.deed x.reply }) at
    ∙ ap (λ (serials : List Text). record entry { drawn = serials }) (sym drawn)

-- ---- all entries

kept_paged : (told other : List (List Told)) (kept : List Kept) → Every (λ e. IsPaged told e.station e.number) (history_in other kept) → Every (λ k. IsPaged told k.station k.number) kept
unfolding history_in entry_in
kept_paged told other [] all = tt
kept_paged told other (k ∷ kept) all = (all.0, kept_paged told other kept all.1)

same_entries : (told new : List (List Told)) (station : ℕ) (t : Told) → station < length told → new ≡ with_told told station t → (kept : List Kept) → Every (λ k. IsPaged told k.station k.number) kept → history_in new kept ≡ history_in told kept
unfolding history_in
same_entries told new station t within is [] all = refl
same_entries told new station t within is (k ∷ kept) all =
    ap₂ (λ (x : Entry) (xs : List Entry). x ∷ xs) (same_entry told new k (same_page told new station t k within is all.0)) (same_entries told new station t within is kept all.1)

-- with one thing more on a page the history stays
pub history_kept : (told new : List (List Told)) (station : ℕ) (t : Told) (other : List (List Told)) (kept : List Kept) → station < length told → new ≡ with_told told station t
    → Every (λ e. IsPaged told e.station e.number) (history_in other kept) → history_in new kept ≡ history_in told kept
history_kept told new station t other kept within is all = same_entries told new station t within is kept (kept_paged told other kept all)

pub history_more : (told new : List (List Told)) (kept all : List Kept) (entry : Entry) (reply : Reply) → all ≡ kept ++ kept_of entry ∷ [] → Every (λ e. IsPaged told e.station e.number) (history_in told kept)
    → entry.station < length told → new ≡ with_told told entry.station (record { deed = entry.deed; reply = reply }) → entry.number ≡ length (told_by told entry.station) + 1
    → entry.drawn ≡ serials_told entry.deed reply → history_in new all ≡ history_in told kept ++ entry ∷ []
unfolding history_in
history_more told new kept all entry reply more paged within is number drawn =
    ap (λ (ks : List Kept). map (entry_in new) ks) more ∙ map-append (entry_in new) kept (kept_of entry ∷ [])
    ∙ ap (λ (es : List Entry). es ++ entry_in new (kept_of entry) ∷ []) (history_kept told new entry.station (record { deed = entry.deed; reply = reply }) told kept within is paged)
    ∙ ap (λ (e : Entry). map (entry_in told) kept ++ e ∷ []) (entered told new entry reply within is number drawn)

-- the last of what is kept is of the last entry, and the others of those in front of it
pub history_front : (told : List (List Told)) (all kept : List Kept) (k : Kept) (front : List Entry) (entry : Entry) → all ≡ kept ++ k ∷ [] → history_in told all ≡ front ++ entry ∷ [] → (history_in told kept ≡ front) × (entry_in told k ≡ entry)
unfolding history_in
history_front told all kept k front entry split is =
    same_from_push (map (entry_in told) kept) front (entry_in told k) entry (sym (map-append (entry_in told) kept (k ∷ [])) ∙ ap (λ (ks : List Kept). map (entry_in told) ks) (sym split) ∙ is)

-- what is kept of the entry
pub kept_is : (told : List (List Told)) (k : Kept) (entry : Entry) → entry_in told k ≡ entry → k ≡ kept_of entry
unfolding entry_in
kept_is told k entry e = ap (λ (x : Entry). kept_of x) e

-- ---- the last stamp

stamp_there : (told : List (List Told)) (kept : List Kept) (k : Kept) → Some k ≡ slice_get kept (length kept - 1) → k.stamp ≡ last_stamp (history_in told kept)
unfolding last_stamp history_in entry_in
stamp_there told [] k e = absurd (cc)
stamp_there told (x ∷ []) k e = let s : k ≡ x = cc in ap (λ (y : Kept). y.stamp) s
stamp_there told (x ∷ y ∷ kept) k e =
    let n : length (x ∷ y ∷ kept) - 1 ≡ suc (length (y ∷ kept) - 1) = omega arith in
    stamp_there told (y ∷ kept) k (e ∙ ap (λ (n : ℕ). slice_get (x ∷ y ∷ kept) n) n)

pub stamp_is : (told : List (List Told)) (kept : List Kept) (k : Kept) → Some k ≡ slice_get kept (length kept - 1) → k.stamp ≡ last_stamp (history_in told kept)
stamp_is told kept k e = stamp_there told kept k e

none_there : (kept : List Kept) (k : ℕ) → k < length kept → None ≡ slice_get kept k → ⊥
none_there [] k l e = omega (arith, l)
none_there (x ∷ kept) zero l e = absurd (cc)
none_there (x ∷ kept) (suc k) l e = none_there kept k (omega (arith, l)) e

pub no_stamp : (told : List (List Told)) (kept : List Kept) → None ≡ slice_get kept (length kept - 1) → 0 ≡ last_stamp (history_in told kept)
unfolding last_stamp history_in
no_stamp told [] e = refl
no_stamp told (x ∷ kept) e = absurd (none_there (x ∷ kept) (length (x ∷ kept) - 1) (omega arith) e)

-- ---- as many entries as are kept

pub counted : (told : List (List Told)) (kept : List Kept) → length kept ≡ length (history_in told kept)
unfolding history_in
counted told kept = sym (length-map kept (entry_in told))

pub history_none : (told : List (List Told)) (kept : List Kept) → kept ≡ [] → history_in told kept ≡ []
unfolding history_in
history_none told kept none = ap (λ (ks : List Kept). map (entry_in told) ks) none

-- where there is a last entry, something is kept
pub kept_some : (told : List (List Told)) (kept : List Kept) (front : List Entry) (entry : Entry) → history_in told kept ≡ front ++ entry ∷ [] → 0 < length kept
kept_some told kept front entry e = let all = counted told kept in let one = ap (λ (es : List Entry). length es) e in let long = length_push front entry in omega (arith, all, one, long)
