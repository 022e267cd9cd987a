-- Reading a history back.
use Rattle.std.proofs.Common.{◌≡◌, ◌≢◌, ◌∙◌, ◌+◌, ◌⊎◌, inl, inr, ⊎_elim, ℕ, List, [], ◌∷◌, ◌++◌, length, Option, Some, Result, Ok, Err, refl, sym, subst, ap, arith, append_assoc, append-nil}
use Rattle.std.proofs.lemmas.List.{map-append, map_push, length-append}
use Rattle.std.specs.Prelude.{All}
use Rattle.std.proofs.lemmas.List.Elements.{All-from_recursion, recursion_from_All}
use Rattle.deed_words.specs.Setups.{Setup}
use Rattle.deed_words.specs.Proper.{IsProperEntry}
use Rattle.deed_words.specs.declared.entry.Entry.{Entry}
use Rattle.deed_words.specs.History.{IsLawful, AllFollow, MayFollow, world_of}
use Rattle.deed_words.proofs.Following.{lawful_more, lawful_front, lawful_last}
use Rattle.gate_journal.specs.Grammar.{Holds, front, records, block, placed}
use Rattle.gate_journal.specs.Journals.{IsSettled}
use Rattle.gate_journal.specs.Readings.{LoadedFrom, bytes_of, places_of}
use Rattle.gate_journal.specs.declared.loaded.Loaded.{Loaded}
use Rattle.gate_journal.specs.declared.payload.Payload.{Payload}
use Rattle.gate_journal.proofs.Blocks.{length-block}
use Rattle.site_core.specs.Adopting.{Fails}
use Rattle.site_core.specs.View.{View}
use Rattle.site_core.specs.declared.unlawful.Unlawful.{Unlawful}
use Rattle.site_core.specs.declared.unlawful.Unlawful.TheVariants.{BadStation, BadNumber, StampFell, BadDrawn, Memory}
use Rattle.entry_bytes.specs.Groups.{SpellsGroup}
use Rattle.entry_bytes.specs.Sites.{SpellsSetup}
use Rattle.entry_bytes.specs.declared.fault.EntryFault.{EntryFault}
use Rattle.entry_bytes.specs.declared.fault.EntryFault.TheVariants as entry_fault
use Rattle.entry_bytes.proofs.SiteSizes.{site_short}
use Rattle.site_store.specs.Entries.{AreProper}
use Rattle.site_store.specs.Held.{AreGroups, Spoils, IsBadHistory, furthest}
use Rattle.site_store.specs.Loads.{IsReplayed, IsSpoiltAt}
use Rattle.site_store.specs.Standing.{IsSound, end_of}
use Rattle.site_store.proofs.Sizes.{groups_reach, length-front}
use Rattle.site_store.proofs.Stamps.{proper_more, proper_last}
use Rattle.site_store.proofs.Back.{no_room}

-- ---- one entry

-- a reason other than want of memory says that the entry may not follow
pub never_follows : (site : Setup) (history : List Entry) (entry : Entry) (fault : Unlawful) → Fails site history entry fault → fault ≢ Memory → MayFollow site history (world_of site history) entry → ⊥
never_follows site history entry BadStation is some follows = absurd (omega (arith, is, follows.station))
never_follows site history entry (BadNumber told) is some follows = is.2 follows.number
never_follows site history entry StampFell is some follows = absurd (omega (arith, is.1, follows.stamp))
never_follows site history entry BadDrawn is some follows = is.1 follows.drawn
never_follows site history entry Memory is some follows = some refl

pub adopted : (site setup : Setup) (history new : List Entry) (entry : Entry) → setup ≡ site → IsLawful site history → MayFollow setup history (world_of setup history) entry → new ≡ history ++ entry ∷ [] → IsLawful site new
adopted site setup history new entry setup_is lawful follows new_is =
    subst (λ (h : List Entry). IsLawful site h) (sym new_is) (lawful_more site history entry lawful (subst (λ (s : Setup). MayFollow s history (world_of s history) entry) setup_is follows))

pub items_go : (new history rest rest' all : List Entry) (entry : Entry) → new ≡ history ++ entry ∷ [] → rest ≡ entry ∷ rest' → history ++ rest ≡ all → new ++ rest' ≡ all
items_go new history rest rest' all entry new_is rest_is was =
    ap (λ (h : List Entry). h ++ rest') new_is ∙ append_assoc history (entry ∷ []) rest' ∙ ap (λ (r : List Entry). history ++ r) (sym rest_is) ∙ was

pub refused : (site setup : Setup) (history rest rest' all : List Entry) (entry : Entry) → setup ≡ site → rest ≡ entry ∷ rest' → history ++ rest ≡ all → (MayFollow setup history (world_of setup history) entry → ⊥) → IsLawful site all → ⊥
refused site setup history rest rest' all entry setup_is rest_is was never lawful =
    let whole : all ≡ (history ++ entry ∷ []) ++ rest' = sym was ∙ ap (λ (r : List Entry). history ++ r) rest_is ∙ sym (append_assoc history (entry ∷ []) rest') in
    let front : IsLawful site (history ++ entry ∷ []) = lawful_front site (history ++ entry ∷ []) rest' (subst (λ (h : List Entry). IsLawful site h) whole lawful) in
    never (subst (λ (s : Setup). MayFollow s history (world_of s history) entry) (sym setup_is) (lawful_last site history entry front))

pub first_proper : (rest rest' : List Entry) (entry : Entry) → rest ≡ entry ∷ rest' → All IsProperEntry rest → IsProperEntry entry
first_proper rest rest' entry is all = (subst (λ (l : List Entry). AreProper l) is (recursion_from_All IsProperEntry rest all)).0

pub rest_proper : (rest rest' : List Entry) (entry : Entry) → rest ≡ entry ∷ rest' → All IsProperEntry rest → All IsProperEntry rest'
rest_proper rest rest' entry is all = All-from_recursion IsProperEntry rest' (subst (λ (l : List Entry). AreProper l) is (recursion_from_All IsProperEntry rest all)).1

-- ---- one payload

-- bytes that don't read, but for want of memory, are of no group
pub unread_spoils : (site : Setup) (history : List Entry) (payload : List ℕ) (fault : EntryFault) → ((group : List Entry) → SpellsGroup group payload → (fault ≡ entry_fault.Memory) ⊎ (let one : Result (List Entry) EntryFault = Ok group in one ≡ Err fault)) → fault ≢ entry_fault.Memory → Spoils site history payload
unread_spoils site history payload fault only some = inl (λ group spells. ⊎_elim (λ wants. some wants) (λ is. absurd (cc)) (only group spells))

pub unlawful_spoils : (site : Setup) (history group : List Entry) (payload : List ℕ) → SpellsGroup group payload → (IsLawful site (history ++ group) → ⊥) → Spoils site history payload
unlawful_spoils site history group payload spells never = inr (group, spells, never)

pub nothing_replayed : (site : Setup) (history : List Entry) → history ≡ [] → IsReplayed site [] history
unfolding IsLawful AllFollow
nothing_replayed site history none = record {
  groups = none;
  lawful = subst (λ (h : List Entry). IsLawful site h) (sym none) tt;
  proper = subst (λ (h : List Entry). AreProper h) (sym none) tt;
}

pub groups_push : (payloads : List (List ℕ)) (history group : List Entry) (payload : List ℕ) → AreGroups payloads history → SpellsGroup group payload → AreGroups (payloads ++ payload ∷ []) (history ++ group)
groups_push [] history group payload are spells =
    (group, [], ap (λ (h : List Entry). h ++ group) are ∙ sym (append-nil group), spells, refl)
groups_push (p ∷ ps) history group payload are spells =
    (are.0, are.1 ++ group, ap (λ (h : List Entry). h ++ group) are.2 ∙ append_assoc are.0 are.1 group, are.3, groups_push ps are.1 group payload are.4 spells)

pub replayed_more : (site setup : Setup) (before more : List Payload) (payload : Payload) (history group new : List Entry) → more ≡ before ++ payload ∷ [] → setup ≡ site → IsReplayed site (bytes_of before) history → SpellsGroup group payload.bytes → new ≡ history ++ group → IsLawful setup (history ++ group) → IsReplayed site (bytes_of more) new
replayed_more site setup before more payload history group new more_is setup_is was spells new_is lawful =
    let bytes : bytes_of more ≡ bytes_of before ++ payload.bytes ∷ [] = ap (λ (l : List Payload). bytes_of l) more_is ∙ map_push (λ (p : Payload). p.bytes) before payload in
    record {
      groups = subst (λ (ps : List (List ℕ)). AreGroups ps new) (sym bytes) (subst (λ (h : List Entry). AreGroups (bytes_of before ++ payload.bytes ∷ []) h) (sym new_is) (groups_push (bytes_of before) history group payload.bytes was.groups spells));
      lawful = subst (λ (s : Setup). IsLawful s new) setup_is (subst (λ (h : List Entry). IsLawful setup h) (sym new_is) lawful);
      proper = subst (λ (h : List Entry). AreProper h) (sym new_is) (proper_more history group was.proper (recursion_from_All IsProperEntry group spells.is.proper));
    }

pub spoilt_here : (site setup : Setup) (payloads before after : List Payload) (payload : Payload) (history : List Entry) (place at : ℕ) → payloads ≡ before ++ payload ∷ after → setup ≡ site → IsReplayed site (bytes_of before) history → Spoils setup history payload.bytes → payload.at ≡ at → at ≡ place → IsSpoiltAt site payloads place
spoilt_here site setup payloads before after payload history place at all setup_is was spoils at_is place_is = record {
  before = before;
  payload = payload;
  after = after;
  history = history;
  payloads_are = all;
  replayed = was;
  spoils = subst (λ (s : Setup). Spoils s history payload.bytes) setup_is spoils;
  place_is = at_is ∙ place_is;
}

-- ---- all of it

head_place : (p q : ℕ × List ℕ) (ps qs : List (ℕ × List ℕ)) → p ∷ ps ≡ q ∷ qs → p.0 ≡ q.0
head_place p q ps qs is = ap first is
  where
    first : List (ℕ × List ℕ) → ℕ
    first [] = 0
    first (r ∷ rs) = r.0

tail_places : (p q : ℕ × List ℕ) (ps qs : List (ℕ × List ℕ)) → p ∷ ps ≡ q ∷ qs → ps ≡ qs
tail_places p q ps qs is = ap rest is
  where
    rest : List (ℕ × List ℕ) → List (ℕ × List ℕ)
    rest [] = []
    rest (r ∷ rs) = rs

place_at : (start : ℕ) (before after : List Payload) (payload : Payload) → places_of (before ++ payload ∷ after) ≡ placed start (bytes_of (before ++ payload ∷ after)) → payload.at ≡ start + length (records (bytes_of before))
place_at start [] after payload is = let at = head_place (payload.at, payload.bytes) (start, payload.bytes) (places_of after) (placed (start + 5 + length payload.bytes) (bytes_of after)) is in omega (arith, at)
place_at start (p ∷ before) after payload is =
    let rest = tail_places (p.at, p.bytes) (start, p.bytes) (places_of (before ++ payload ∷ after)) (placed (start + 5 + length p.bytes) (bytes_of (before ++ payload ∷ after))) is in
    let at = place_at (start + 5 + length p.bytes) before after payload rest in
    let long = length-append (1 ∷ block p.bytes) (records (bytes_of before)) in
    let of_block = length-block p.bytes in
    omega (arith, at, long, of_block)

pub no_setup_bad : (told : Option (List ℕ)) (loaded : Loaded) (end place : ℕ) (c : List ℕ) → LoadedFrom told loaded end → place ≡ 0 → ((setup : Setup) → SpellsSetup setup loaded.site → ⊥) → told ≡ Some c → IsBadHistory c place
no_setup_bad told loaded end place c is zero unread tells = inr (inl (zero, record { site_bytes = loaded.site; payloads = bytes_of loaded.payloads; holds = is.holds c tells; unread = unread }))

pub spoilt_bad : (told : Option (List ℕ)) (loaded : Loaded) (end place : ℕ) (setup : Setup) (c : List ℕ) → LoadedFrom told loaded end → SpellsSetup setup loaded.site → IsSpoiltAt setup loaded.payloads place → told ≡ Some c → IsBadHistory c place
spoilt_bad told loaded end place setup c is spells spoilt tells =
    let bytes : bytes_of loaded.payloads ≡ bytes_of spoilt.before ++ spoilt.payload.bytes ∷ bytes_of spoilt.after =
    ap (λ (l : List Payload). bytes_of l) spoilt.payloads_are ∙ map-append (λ (p : Payload). p.bytes) spoilt.before (spoilt.payload ∷ spoilt.after) in
    let places : places_of (spoilt.before ++ spoilt.payload ∷ spoilt.after) ≡ placed (13 + length loaded.site) (bytes_of (spoilt.before ++ spoilt.payload ∷ spoilt.after)) =
    subst (λ (l : List Payload). places_of l ≡ placed (13 + length loaded.site) (bytes_of l)) spoilt.payloads_are is.places in
    let at = place_at (13 + length loaded.site) spoilt.before spoilt.after spoilt.payload places in
    let long = length-front loaded.site (bytes_of spoilt.before) in
    inr (inr (record {
      site = setup;
      site_bytes = loaded.site;
      before = bytes_of spoilt.before;
      payload = spoilt.payload.bytes;
      after = bytes_of spoilt.after;
      history = spoilt.history;
      holds = subst (λ (ps : List (List ℕ)). Holds loaded.site ps c) bytes (is.holds c tells);
      spelled = spells;
      groups = spoilt.replayed.groups;
      lawful = spoilt.replayed.lawful;
      spoils = spoilt.spoils;
      place_is = omega (arith, spoilt.place_is, at, long);
    }))

pub loaded_sound : (image : List ℕ → Type 0) (end : ℕ) (jp : Option ℕ) (view : View) (spare : ℕ) (site_bytes : List ℕ) (payloads : List (List ℕ)) → SpellsSetup view.setup site_bytes → IsReplayed view.setup payloads view.history → IsSettled image end jp site_bytes payloads → end ≡ length (front site_bytes payloads) → IsSound image end jp view [] spare
loaded_sound image end jp view spare site_bytes payloads spells replayed settled end_is =
    let at : end_of end jp ≡ end = ap (end_of end) settled.settled in
    let all = append-nil view.history in
    let far : furthest view.setup (view.history ++ []) ≡ furthest view.setup view.history = ap (furthest view.setup) all in
    let long : length (view.history ++ []) ≡ length view.history = ap (λ (h : List Entry). length h) all in
    let reach = groups_reach payloads view.history replayed.groups in
    let whole = length-front site_bytes payloads in
    let size = site_short view.setup site_bytes spells in
    record {
      kept = record {
        site_bytes = site_bytes;
        payloads = payloads;
        spelled = spells;
        groups = replayed.groups;
        stands = settled;
        in_reach = omega (arith, at, far, reach.reach, whole, size, end_is);
        counted = omega (arith, at, long, reach.counted, whole, end_is);
        within = λ some. absurd (some refl);
      };
      may = record { room = no_room view; next = tt; noted = omega arith; proper = tt };
      lawful = replayed.lawful;
      in_range = proper_last view.history replayed.proper;
    }
