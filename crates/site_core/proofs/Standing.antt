-- What a site keeps when an entry is committed, and when it is taken back.
use Rattle.std.proofs.Common.{◌≡◌, ◌<◌, ℕ, Some, List, [], ◌∷◌, ◌++◌, length, replicate, refl, sym, ap, ◌∙◌, subst, arith}
use Rattle.std.specs.Prelude.{All, zero, suc, true}
use Rattle.gs1_keys.specs.Forms.{is_among}
use Rattle.std.specs.List.{AllByRecursion as Every}
use Rattle.std.proofs.lemmas.List.{length-set, length-replicate, append_cancel_right}
use Rattle.std.proofs.lemmas.List.Elements.{All-nil, All-push, All-pop}
use Rattle.deed_words.specs.Proper.{IsProperEntry}
use Rattle.deed_words.specs.Setups.{Setup}
use Rattle.deed_words.specs.World.{nothing_yet}
use Rattle.deed_words.specs.declared.deed.Deed.{Deed}
use Rattle.deed_words.specs.declared.entry.Entry.{Entry}
use Rattle.deed_words.specs.declared.reply.Reply.{Reply}
use Rattle.deed_words.specs.Replies.{after, reply_to}
use Rattle.deed_words.specs.Walk.{steps_from}
use Rattle.deed_words.specs.History.{AllFollow, IsLawful, world_of, world_from, told_from, told_to}
use Rattle.deed_words.proofs.Following.{world_from-append, lawful_more, lawful_front}
use Rattle.serial_pool.specs.declared.drawn.DrawnSerial.{DrawnSerial}
use Rattle.serial_pool.specs.Held.{PoolView}
use Rattle.batch_book.specs.Content.{Content, world_in}
use Rattle.request_memo.specs.declared.page.Told.{Told}
use Rattle.request_memo.specs.Memos.{told_by, with_told}
use Rattle.request_memo.specs.Seeing.{AreToldTo, told_of}
use Rattle.site_stores.specs.Changes.{applied, taken_back}
use Rattle.site_stores.proofs.Undoing.{applied_and_back}
use Rattle.site_deeds.specs.Draws.{drawn_in, drawn_by_plan}
use Rattle.site_core.specs.declared.planned.Planned.{Planned}
use Rattle.site_core.specs.Plans.{IsNext, IsLast}
use Rattle.site_core.specs.Rooms.{IsKnown}
use Rattle.site_core.specs.Standing.{Stands}
use Rattle.site_core.specs.declared.kept.Kept.{Kept}
use Rattle.site_core.specs.Entries.{history_in, serials_told}
use Rattle.site_core.proofs.Drawing.{known_more, known_front, known_last, known_still}
use Rattle.site_core.proofs.Entering.{kept_of, drawn_told, history_more, history_front, history_kept, kept_is as kept_here}
use Rattle.site_core.proofs.Pages.{count_told, own_some, IsPaged, paged, told_last, told_more, told_less}

-- the world with one entry more
pub world_more : (site : Setup) (history : List Entry) (entry : Entry) → world_of site (history ++ entry ∷ []) ≡ after site (world_of site history) entry
unfolding world_of world_from
world_more site history entry = world_from-append site nothing_yet history (entry ∷ [])

-- ---- a site in which nothing has happened

no_page : (n k : ℕ) → told_by (replicate n []) k ≡ []
no_page zero k = refl
no_page (suc n) zero = refl
no_page (suc n) (suc k) = no_page n k

pub begun : (site : Setup) (history : List Entry) (told : List (List Told)) (c : Content) (pool : PoolView) (n : ℕ) → history ≡ [] → told ≡ replicate n [] → n ≡ length site.stations → c ≡ record { batches = []; rows = []; units = []; links = []; last = 0; said = [] } → pool.drawn ≡ []
    → Stands site history told c pool
unfolding IsLawful AllFollow world_of world_from told_to told_from steps_from
begun site history told c pool n none no_pages long empty nothing = record {
  lawful = subst (IsLawful site) (sym none) tt;
  proper = subst (All IsProperEntry) (sym none) (All-nil IsProperEntry);
  world = ap world_in empty ∙ ap (world_of site) (sym none);
  drawn = nothing ∙ ap (λ (h : List Entry). drawn_in (world_of site h)) (sym none);
  known = subst (λ (ps : List DrawnSerial). Every (λ pair. is_among pool.gtins pair.gtin ≡ true) ps) (sym nothing) tt;
  stations = ap (λ (ts : List (List Told)). length ts) no_pages ∙ length-replicate n [] ∙ long;
  told = λ s. subst (λ (h : List Entry). AreToldTo site h s (told_by told s)) (sym none) (ap (λ (ts : List (List Told)). told_by ts s) no_pages ∙ no_page n s);
}

-- ---- one entry more

pub grown : (site : Setup) (history new_history : List Entry) (told new_told : List (List Told)) (c new_c : Content) (pool new_pool : PoolView) (planned : Planned) → Stands site history told c pool → IsNext site history c planned → IsKnown pool.gtins planned.draw
    → new_history ≡ history ++ planned.entry ∷ [] → new_told ≡ with_told told planned.entry.station (record { deed = planned.entry.deed; reply = planned.reply }) → new_c ≡ applied c planned.change → new_pool.drawn ≡ pool.drawn ++ drawn_by_plan planned.draw → new_pool.gtins ≡ pool.gtins
    → Stands site new_history new_told new_c new_pool
grown site history new_history told new_told c new_c pool new_pool planned stands next known more told_is is drawn gtins =
    let w = world_of site history in
    let world : world_of site new_history ≡ after site w planned.entry = ap (world_of site) more ∙ world_more site history planned.entry in
    let t : Told = record { deed = planned.entry.deed; reply = planned.reply } in
    let reply : t ≡ told_of (planned.entry, reply_to site w planned.entry) = ap (λ (r : Reply). record { deed = planned.entry.deed; reply = r }) next.reply in
    record {
      lawful = subst (IsLawful site) (sym more) (lawful_more site history planned.entry stands.lawful next.follows);
      proper = subst (All IsProperEntry) (sym more) (All-push IsProperEntry history planned.entry stands.proper next.proper);
      world = ap world_in is ∙ next.effect ∙ sym world;
      drawn = drawn ∙ ap (λ (ps : List DrawnSerial). ps ++ drawn_by_plan planned.draw) stands.drawn ∙ sym next.draw ∙ sym (ap drawn_in world);
      known = subst (λ (g : List (List ℕ)). Every (λ pair. is_among g pair.gtin ≡ true) new_pool.drawn) (sym gtins) (subst (λ (ps : List DrawnSerial). Every (λ pair. is_among pool.gtins pair.gtin ≡ true) ps) (sym drawn) (known_more pool.gtins pool.drawn planned.draw stands.known known));
      stations = ap (λ (ts : List (List Told)). length ts) told_is ∙ length-set told planned.entry.station (told_by told planned.entry.station ++ t ∷ []) ∙ stands.stations;
      told = λ s. subst (λ (h : List Entry). AreToldTo site h s (told_by new_told s)) (sym more) (told_more site history told new_told planned.entry t stands.told (let in_site = next.follows.station in let long = stands.stations in omega (arith, in_site, long)) told_is reply s);
    }

-- after a commit the site is as taking back wants it
pub last_of : (site : Setup) (history new_history : List Entry) (c new_c : Content) (planned : Planned) → world_in c ≡ world_of site history → IsNext site history c planned → new_history ≡ history ++ planned.entry ∷ [] → new_c ≡ applied c planned.change → IsLast site new_history new_c planned
last_of site history new_history c new_c planned world next more is = record { front = history; before = c; history_is = more; content_is = is; world_is = world; next = next }

-- ---- one entry fewer

-- the content before the last commit
pub before_is : (site : Setup) (history : List Entry) (c new_c : Content) (committed : Planned) → (last : IsLast site history c committed) → new_c ≡ taken_back c committed.change → new_c ≡ last.before
before_is site history c new_c committed last is =
    is ∙ ap (λ (k : Content). taken_back k committed.change) last.content_is ∙ applied_and_back last.before committed.change last.next.may

-- the pool's serials are those before the last commit, and then what that drew
pub drawn_split : (site : Setup) (history : List Entry) (told : List (List Told)) (c : Content) (pool : PoolView) (committed : Planned) → Stands site history told c pool → (last : IsLast site history c committed)
    → pool.drawn ≡ drawn_in (world_of site last.front) ++ drawn_by_plan committed.draw
drawn_split site history told c pool committed stands last =
    stands.drawn ∙ ap (λ (h : List Entry). drawn_in (world_of site h)) last.history_is ∙ ap drawn_in (world_more site last.front committed.entry) ∙ last.next.draw

pub known_gtin : (site : Setup) (history : List Entry) (told : List (List Told)) (c : Content) (pool : PoolView) (committed : Planned) → Stands site history told c pool → IsLast site history c committed → IsKnown pool.gtins committed.draw
known_gtin site history told c pool committed stands last =
    known_last pool.gtins pool.drawn (drawn_in (world_of site last.front)) committed.draw stands.known (drawn_split site history told c pool committed stands last) last.next.some

pub shrunk : (site : Setup) (history new_history : List Entry) (told new_told : List (List Told)) (c new_c : Content) (pool new_pool : PoolView) (committed : Planned) (t : Told) → Stands site history told c pool → (last : IsLast site history c committed)
    → new_history ≡ last.front → told ≡ with_told new_told committed.entry.station t → new_c ≡ taken_back c committed.change → pool.drawn ≡ new_pool.drawn ++ drawn_by_plan committed.draw → new_pool.gtins ≡ pool.gtins
    → Stands site new_history new_told new_c new_pool
shrunk site history new_history told new_told c new_c pool new_pool committed t stands last front told_is is drawn gtins =
    let entry = committed.entry in
    let long : length new_told ≡ length site.stations = sym (ap (λ (ts : List (List Told)). length ts) told_is ∙ length-set new_told entry.station (told_by new_told entry.station ++ t ∷ [])) ∙ stands.stations in
    let lawful : IsLawful site (last.front ++ entry ∷ []) = subst (IsLawful site) last.history_is stands.lawful in
    let told_to_all : (s : ℕ) → AreToldTo site (last.front ++ entry ∷ []) s (told_by told s) = λ s. subst (λ (h : List Entry). AreToldTo site h s (told_by told s)) last.history_is (stands.told s) in
    let before : new_pool.drawn ≡ drawn_in (world_of site last.front) = append_cancel_right new_pool.drawn (drawn_in (world_of site last.front)) (drawn_by_plan committed.draw) (sym drawn ∙ drawn_split site history told c pool committed stands last) in
    record {
      lawful = subst (IsLawful site) (sym front) (lawful_front site last.front (entry ∷ []) lawful);
      proper = subst (All IsProperEntry) (sym front) ((All-pop IsProperEntry (last.front ++ entry ∷ []) last.front (Some entry) refl (subst (All IsProperEntry) last.history_is stands.proper)).0);
      world = ap world_in (before_is site history c new_c committed last is) ∙ last.world_is ∙ ap (world_of site) (sym front);
      drawn = before ∙ ap (λ (h : List Entry). drawn_in (world_of site h)) (sym front);
      known = subst (λ (g : List (List ℕ)). Every (λ pair. is_among g pair.gtin ≡ true) new_pool.drawn) (sym gtins) (known_front pool.gtins new_pool.drawn (drawn_by_plan committed.draw) (subst (λ (ps : List DrawnSerial). Every (λ pair. is_among pool.gtins pair.gtin ≡ true) ps) drawn stands.known));
      stations = long;
      told = λ s. subst (λ (h : List Entry). AreToldTo site h s (told_by new_told s)) (sym front)
          (told_less site last.front told new_told entry t told_to_all (let in_site = last.next.follows.station in omega (arith, in_site, long)) told_is s);
    }

-- what was taken back may come next
pub next_again : (site : Setup) (history new_history : List Entry) (c new_c : Content) (committed : Planned) → (last : IsLast site history c committed) → new_history ≡ last.front → new_c ≡ taken_back c committed.change → IsNext site new_history new_c committed
next_again site history new_history c new_c committed last front is =
    subst (λ (h : List Entry). IsNext site h new_c committed) (sym front) (subst (λ (k : Content). IsNext site last.front k committed) (sym (before_is site history c new_c committed last is)) last.next)

-- ---- what the site holds stays

pub stands_still : (site : Setup) (history : List Entry) (told : List (List Told)) (c new_c : Content) (pool new_pool : PoolView) → Stands site history told c pool → new_c ≡ c → new_pool.drawn ≡ pool.drawn
    → ((gtin : List ℕ) → is_among pool.gtins gtin ≡ true → is_among new_pool.gtins gtin ≡ true) → Stands site history told new_c new_pool
stands_still site history told c new_c pool new_pool stands same drawn still = record {
  lawful = stands.lawful;
  proper = stands.proper;
  world = ap world_in same ∙ stands.world;
  drawn = drawn ∙ stands.drawn;
  known = subst (λ (ps : List DrawnSerial). Every (λ pair. is_among new_pool.gtins pair.gtin ≡ true) ps) (sym drawn) (known_still pool.gtins new_pool.gtins pool.drawn still stands.known);
  stations = stands.stations;
  told = stands.told;
}

-- ---- what is kept of the entry that is committed

pub told_is : (told new_told : List (List Told)) (planned : Planned) (k : Kept) (station : ℕ) (deed : Deed) → k ≡ kept_of planned.entry → station ≡ k.station → deed ≡ planned.entry.deed
    → new_told ≡ with_told told station (record { deed = deed; reply = planned.reply }) → new_told ≡ with_told told planned.entry.station (record { deed = planned.entry.deed; reply = planned.reply })
told_is told new_told planned k station deed kept_is station_is deed_is is =
    is ∙ ap (λ (s : ℕ). with_told told s (record { deed = deed; reply = planned.reply })) (station_is ∙ ap (λ (x : Kept). x.station) kept_is)
    ∙ ap (λ (d : Deed). with_told told planned.entry.station (record { deed = d; reply = planned.reply })) deed_is

pub history_grown : (site : Setup) (told new_told : List (List Told)) (kept all : List Kept) (c : Content) (pool : PoolView) (planned : Planned) (k : Kept) → Stands site (history_in told kept) told c pool → IsNext site (history_in told kept) c planned
    → k ≡ kept_of planned.entry → all ≡ kept ++ k ∷ [] → new_told ≡ with_told told planned.entry.station (record { deed = planned.entry.deed; reply = planned.reply }) → history_in new_told all ≡ history_in told kept ++ planned.entry ∷ []
history_grown site told new_told kept all c pool planned k stands next kept_is more is =
    let history = history_in told kept in
    let entry = planned.entry in
    let long = count_told site history entry.station (told_by told entry.station) (stands.told entry.station) in
    let number = next.follows.number in
    let in_site = next.follows.station in
    let pages = stands.stations in
    history_more told new_told kept all entry planned.reply (more ∙ ap (λ (x : Kept). kept ++ x ∷ []) kept_is) (paged site history told stands.lawful stands.told)
    (omega (arith, in_site, pages)) is (omega (arith, long, number)) (drawn_told site (world_of site history) entry next.follows.drawn ∙ ap (serials_told entry.deed) (sym next.reply))

-- what is left of the history after the last commit was taken back
pub history_shrunk : (site : Setup) (told new_told : List (List Told)) (all kept : List Kept) (c : Content) (pool : PoolView) (committed : Planned) (k : Kept) (t : Told) → Stands site (history_in told all) told c pool → (last : IsLast site (history_in told all) c committed)
    → all ≡ kept ++ k ∷ [] → told ≡ with_told new_told committed.entry.station t → history_in new_told kept ≡ last.front
history_shrunk site told new_told all kept c pool committed k t stands last split is =
    let entry = committed.entry in
    let both = history_front told all kept k last.front entry split last.history_is in
    let long : length new_told ≡ length site.stations = sym (ap (λ (ts : List (List Told)). length ts) is ∙ length-set new_told entry.station (told_by new_told entry.station ++ t ∷ [])) ∙ stands.stations in
    let in_site = last.next.follows.station in
    let lawful : IsLawful site (last.front ++ entry ∷ []) = subst (IsLawful site) last.history_is stands.lawful in
    let told_to_all : (s : ℕ) → AreToldTo site (last.front ++ entry ∷ []) s (told_by told s) = λ s. subst (λ (h : List Entry). AreToldTo site h s (told_by told s)) last.history_is (stands.told s) in
    let on_pages : Every (λ e. IsPaged new_told e.station e.number) last.front = paged site last.front new_told (lawful_front site last.front (entry ∷ []) lawful) (told_less site last.front told new_told entry t told_to_all (omega (arith, in_site, long)) is) in
    sym (history_kept new_told told entry.station t told kept (omega (arith, in_site, long)) is (subst (λ (h : List Entry). Every (λ e. IsPaged new_told e.station e.number) h) (sym both.0) on_pages)) ∙ both.0

-- what is kept of the last entry is of it
pub last_kept : (site : Setup) (told : List (List Told)) (all kept : List Kept) (c : Content) (committed : Planned) (k : Kept) → IsLast site (history_in told all) c committed → all ≡ kept ++ k ∷ [] → k ≡ kept_of committed.entry
last_kept site told all kept c committed k last split =
    kept_here told k committed.entry (history_front told all kept k last.front committed.entry split last.history_is).1

-- and what the memo gave back is its deed and its reply
pub last_told : (site : Setup) (told new_told : List (List Told)) (history : List Entry) (c : Content) (pool : PoolView) (committed : Planned) (t : Told) → Stands site history told c pool → (last : IsLast site history c committed) → told ≡ with_told new_told committed.entry.station t
    → t ≡ record { deed = committed.entry.deed; reply = committed.reply }
last_told site told new_told history c pool committed t stands last is =
    let entry = committed.entry in
    let long : length new_told ≡ length site.stations = sym (ap (λ (ts : List (List Told)). length ts) is ∙ length-set new_told entry.station (told_by new_told entry.station ++ t ∷ [])) ∙ stands.stations in
    let in_site = last.next.follows.station in
    let told_to_all : (s : ℕ) → AreToldTo site (last.front ++ entry ∷ []) s (told_by told s) = λ s. subst (λ (h : List Entry). AreToldTo site h s (told_by told s)) last.history_is (stands.told s) in
    told_last site last.front told new_told entry t told_to_all (omega (arith, in_site, long)) is ∙ ap (λ (r : Reply). record { deed = entry.deed; reply = r }) (sym last.next.reply)

-- the station of the last entry has a page with something on it
pub last_page : (site : Setup) (told : List (List Told)) (history : List Entry) (c : Content) (pool : PoolView) (committed : Planned) → Stands site history told c pool → IsLast site history c committed → 0 < length (told_by told committed.entry.station)
last_page site told history c pool committed stands last =
    let entry = committed.entry in
    let all : AreToldTo site (last.front ++ entry ∷ []) entry.station (told_by told entry.station) = subst (λ (h : List Entry). AreToldTo site h entry.station (told_by told entry.station)) last.history_is (stands.told entry.station) in
    let long = count_told site (last.front ++ entry ∷ []) entry.station (told_by told entry.station) all in
    let one = own_some last.front entry in
    omega (arith, long, one)
