-- Steps and stops, and what is kept over them.
use Rattle.std.proofs.Common.{◌≡◌, ◌∙◌, ◌+◌, ◌-◌, ◌⊎◌, inl, inr, ⊎_elim, ℕ, zero, suc, Bool, true, false, cond, nat_eq, List, [], ◌∷◌, ◌++◌, length, map, filter, Some, refl, sym, subst, ap, arith, append-nil, append_assoc, eq-eqb, eqb-true}
use Rattle.std.specs.List.{slice_get, AllByRecursion as Every}
use Rattle.std.proofs.lemmas.List.{length-append}
use Rattle.std.proofs.lemmas.List.Elements.{filter-append}
use Rattle.deed_words.specs.Setups.{Setup}
use Rattle.deed_words.specs.World.{World, nothing_yet}
use Rattle.deed_words.specs.declared.deed.Deed.{Deed}
use Rattle.deed_words.specs.declared.entry.Ask.{Ask}
use Rattle.deed_words.specs.declared.entry.Entry.{Entry}
use Rattle.deed_words.specs.declared.reply.Reply.{Reply}
use Rattle.deed_words.specs.Replies.{after, reply_to}
use Rattle.deed_words.specs.History.{IsLawful, AllFollow, MayFollow, own, told_from, told_to, world_from, world_of}
use Rattle.deed_words.specs.Numbers.{Means, Kept, IsTold}
use Rattle.deed_words.specs.Walk.{steps_from}
use Rattle.deed_words.proofs.Following.{lawful_front, lawful_more}
use Rattle.site_store.specs.declared.outcome.Outcome.{Outcome}
use Rattle.site_store.specs.declared.outcome.Outcome.TheVariants.{Replied, NumberReused, NumberGap, DiskFault, ClockFault, ClockRange, WordsFault, WordsSpent, JournalFull, Memory}
use Rattle.site_store.specs.Images.{Extends}
use Rattle.site_store.specs.Moved.{Taken}
use Rattle.site_store.specs.Noting.{Noted}
use Rattle.site_store.specs.States.{State, all_of, settled}
use Rattle.site_store.specs.Steps.{Try, Tries, AreTries, Enters, Written, Lost, Answers, Steps, asks_in, outcomes_in, new_in, lost_from, lost_in}
use Rattle.site_store.proofs.Leading.{steps_grow}
use Rattle.site_store.specs.Stops.{Event, Served, Cut, Stopped, MayHold, Leads, Runs, Answered, handed_by, handed_all, handed_in, handed_out, IsKeptIn, AllKept}

-- ---- lists

get_front : {X : Type 0} (xs ys : List X) (i : ℕ) (x : X) → slice_get xs i ≡ Some x → slice_get (xs ++ ys) i ≡ Some x
get_front [] ys i x is = absurd (cc)
get_front (y ∷ xs) ys zero x is = is
get_front (y ∷ xs) ys (suc i) x is = get_front xs ys i x is

get_last : {X : Type 0} (xs : List X) (i : ℕ) (x : X) → i ≡ length xs → slice_get (xs ++ x ∷ []) i ≡ Some x
get_last xs i x is = subst (λ (k : ℕ). slice_get (xs ++ x ∷ []) k ≡ Some x) (sym is) (at_end xs x)
  where
    at_end : {X : Type 0} (xs : List X) (x : X) → slice_get (xs ++ x ∷ []) (length xs) ≡ Some x
    at_end [] x = refl
    at_end (y ∷ xs) x = at_end xs x

every_more : {X : Type 0} (P : X → Type 0) (xs ys : List X) → Every P xs → Every P ys → Every P (xs ++ ys)
every_more P [] ys first second = second
every_more P (x ∷ xs) ys first second = (first.0, every_more P xs ys first.1 second)

every_weaker : {X : Type 0} (P Q : X → Type 0) (xs : List X) → ((x : X) → P x → Q x) → Every P xs → Every Q xs
every_weaker P Q [] weaker all = tt
every_weaker P Q (x ∷ xs) weaker all = (weaker x all.0, every_weaker P Q xs weaker all.1)

extends_refl : (h : List Entry) → Extends h h
extends_refl h = ([], sym (append-nil h))

extends_trans : (a b c : List Entry) → Extends a b → Extends b c → Extends a c
extends_trans a b c first second = (first.0 ++ second.0, second.1 ∙ ap (λ (h : List Entry). h ++ second.0) first.1 ∙ append_assoc a first.0 second.0)

extends_more : (h more : List Entry) → Extends h (h ++ more)
extends_more h more = (more, refl)

extends_is : (a b c : List Entry) → b ≡ c → Extends a b → Extends a c
extends_is a b c is ext = (ext.0, sym is ∙ ext.1)

-- ---- replies

told_from-append : (site : Setup) (w : World) (entries more : List Entry) → told_from site w (entries ++ more) ≡ told_from site w entries ++ told_from site (world_from site w entries) more
unfolding told_from steps_from world_from
told_from-append site w [] more = refl
told_from-append site w (entry ∷ entries) more = ap (λ (xs : List (Entry × Reply)). (entry, reply_to site w entry) ∷ xs) (told_from-append site (after site w entry) entries more)

told_to-append : (site : Setup) (history more : List Entry) (station : ℕ) → told_to site (history ++ more) station ≡ told_to site history station ++ filter (λ told. nat_eq told.0.station station) (told_from site (world_of site history) more)
unfolding told_to world_of
told_to-append site history more station =
    ap (λ (xs : List (Entry × Reply)). filter (λ told. nat_eq told.0.station station) xs) (told_from-append site nothing_yet history more) ∙ filter-append (λ (told : Entry × Reply). nat_eq told.0.station station) (told_from site nothing_yet history) (told_from site (world_from site nothing_yet history) more)

-- each entry of a station has its reply
length_told : (site : Setup) (w : World) (station : ℕ) (history : List Entry) → length (filter (λ told. nat_eq told.0.station station) (told_from site w history)) ≡ length (own station history)
unfolding told_from steps_from own
length_told site w station [] = refl
length_told site w station (entry ∷ entries) = one (nat_eq entry.station station) (length_told site (after site w entry) station entries)
  where
    one : (b : Bool) → length (filter (λ told. nat_eq told.0.station station) (told_from site (after site w entry) entries)) ≡ length (filter (λ e. nat_eq e.station station) entries)
        → length (cond b ((entry, reply_to site w entry) ∷ filter (λ told. nat_eq told.0.station station) (told_from site (after site w entry) entries)) (filter (λ told. nat_eq told.0.station station) (told_from site (after site w entry) entries)))
        ≡ length (cond b (entry ∷ filter (λ e. nat_eq e.station station) entries) (filter (λ e. nat_eq e.station station) entries))
    one true is = ap suc is
    one false is = is

length_told_to : (site : Setup) (station : ℕ) (history : List Entry) → length (told_to site history station) ≡ length (own station history)
unfolding told_to
length_told_to site station history = length_told site nothing_yet station history

-- what is kept stays kept
kept_on : (site : Setup) (history more : List Entry) (station number : ℕ) (deed : Deed) (reply : Reply) → Means site history station number deed (Kept reply) → Means site (history ++ more) station number deed (Kept reply)
unfolding Means IsTold
kept_on site history more station number deed reply is = (
  is.0,
  (
    is.1.0,
    subst (λ (xs : List (Entry × Reply)). slice_get xs (number - 1) ≡ Some (is.0, reply)) (sym (told_to-append site history more station))
        (get_front (told_to site history station) _ (number - 1) (is.0, reply) is.1.1),
  ),
  is.2,
)

kept_extends : (site : Setup) (a b : List Entry) (answered : Answered) → Extends a b → IsKeptIn site a answered → IsKeptIn site b answered
kept_extends site a b answered ext is = subst (λ (h : List Entry). IsKeptIn site h answered) (sym ext.1) (kept_on site a ext.0 answered.ask.station answered.ask.number answered.ask.deed answered.reply is)

-- a new entry is kept with its reply
kept_new : (site : Setup) (g : List Entry) (entry : Entry) (station number : ℕ) (deed : Deed) → entry.station ≡ station → entry.number ≡ number → entry.deed ≡ deed → number ≡ length (own station g) + 1 → Means site (g ++ entry ∷ []) station number deed (Kept (reply_to site (world_of site g) entry))
unfolding Means IsTold told_from steps_from
kept_new site g entry station number deed station_is number_is deed_is next =
    let told : Entry × Reply = (entry, reply_to site (world_of site g) entry) in
    let mine : nat_eq entry.station station ≡ true = eq-eqb entry.station station station_is in
    let last : filter (λ told. nat_eq told.0.station station) (told ∷ []) ≡ told ∷ [] = ap (λ (b : Bool). cond b (told ∷ []) []) mine in
    let all : told_to site (g ++ entry ∷ []) station ≡ told_to site g station ++ told ∷ [] = told_to-append site g (entry ∷ []) station ∙ ap (λ (xs : List (Entry × Reply)). told_to site g station ++ xs) last in
    let long = length_told_to site station g in
    let place : number - 1 ≡ length (told_to site g station) = omega (arith, next, long) in
    (entry, (omega (arith, next), subst (λ (xs : List (Entry × Reply)). slice_get xs (number - 1) ≡ Some told) (sym all) (get_last (told_to site g station) (number - 1) told place)), deed_is)

-- ---- numbers

own_push : (station : ℕ) (history : List Entry) (entry : Entry) → own station (history ++ entry ∷ []) ≡ own station history ++ own station (entry ∷ [])
unfolding own
own_push station history entry = filter-append (λ (e : Entry). nat_eq e.station station) history (entry ∷ [])

by_own : (station : ℕ) (site : Setup) (history : List Entry) (w : World) (e : Entry) (entries : List Entry) (entry : Entry) (b : Bool) → nat_eq e.station station ≡ b → MayFollow site history w e
    → ((j : ℕ) → slice_get (own station entries) j ≡ Some entry → entry.number ≡ length (own station (history ++ e ∷ [])) + j + 1) → (i : ℕ) → slice_get (cond b (e ∷ own station entries) (own station entries)) i ≡ Some entry → entry.number ≡ length (own station history) + i + 1
unfolding own
by_own station site history w e entries entry false other follows rest i is =
    let more : length (own station (history ++ e ∷ [])) ≡ length (own station history) = ap (λ (xs : List Entry). length xs) (own_push station history e ∙ ap (λ (b : Bool). own station history ++ cond b (e ∷ []) []) other ∙ append-nil (own station history)) in
    let n = rest i is in omega (arith, n, more)
by_own station site history w e entries entry true mine follows rest zero is =
    let same : e ≡ entry = cc in
    let at : e.station ≡ station = eqb-true e.station station mine in
    let n = follows.number in
    let m : length (own e.station history) ≡ length (own station history) = ap (λ (s : ℕ). length (own s history)) at in
    let k : entry.number ≡ e.number = ap (λ (x : Entry). x.number) (sym same) in
    omega (arith, n, m, k)
by_own station site history w e entries entry true mine follows rest (suc j) is =
    let more : length (own station (history ++ e ∷ [])) ≡ length (own station history) + 1 = ap (λ (xs : List Entry). length xs) (own_push station history e ∙ ap (λ (b : Bool). own station history ++ cond b (e ∷ []) []) mine) ∙ length-append (own station history) (e ∷ []) in
    let n = rest j is in omega (arith, n, more)

numbers : (site : Setup) (history : List Entry) (w : World) (entries : List Entry) (station : ℕ) (entry : Entry) → AllFollow site history w entries → (i : ℕ) → slice_get (own station entries) i ≡ Some entry → entry.number ≡ length (own station history) + i + 1
unfolding AllFollow own
numbers site history w [] station entry all i is = absurd (cc)
numbers site history w (e ∷ entries) station entry all i is =
    by_own station site history w e entries entry (nat_eq e.station station) refl all.0 (numbers site (history ++ e ∷ []) (after site w e) entries station entry all.1) i is

pub numbers_once : (site : Setup) (history : List Entry) (station i : ℕ) (entry : Entry) → IsLawful site history → slice_get (own station history) i ≡ Some entry → entry.number ≡ i + 1
unfolding IsLawful own
numbers_once site history station i entry lawful is = let n = numbers site [] nothing_yet history station entry lawful i is in omega (arith, n)

-- ---- one step

pub record Goes (site : Setup) (old new : State) (answers : List Answered) : Type 0 where
  pub history : Extends old.history new.history
  pub all : Extends (all_of old) (all_of new)
  pub lawful : IsLawful site (all_of new)
  pub kept : AllKept site new.history answers

one_same : (site : Setup) (h new : List Entry) (answers : List Answered) → new ≡ [] → IsLawful site h → AllKept site h answers → IsLawful site (h ++ new) × AllKept site (h ++ new) answers
one_same site h new answers none lawful kept =
    let is : h ≡ h ++ new = sym (ap (λ (l : List Entry). h ++ l) none ∙ append-nil h) in
    (subst (λ (l : List Entry). IsLawful site l) is lawful, subst (λ (l : List Entry). AllKept site l answers) is kept)

one_new : (site : Setup) (end : ℕ) (h front : List Entry) (worker : ℕ) (ask : Ask) (taken : Taken) (reply : Reply) (new : List Entry) → IsLawful site h → Enters site end h front worker ask taken reply new → IsLawful site (h ++ new) × AllKept site (h ++ new) (record { ask = ask; reply = reply } ∷ [])
unfolding Means
one_new site end h front worker ask taken reply new lawful is =
    let m = is.makes in
    let e = is.entry in
    let all : h ++ e ∷ [] ≡ h ++ new = ap (λ (l : List Entry). h ++ l) (sym is.new_is) in
    let kept : Means site (h ++ e ∷ []) ask.station ask.number ask.deed (Kept reply) = subst (λ (r : Reply). Means site (h ++ e ∷ []) ask.station ask.number ask.deed (Kept r)) (sym is.reply_is)
    (kept_new site h e ask.station ask.number ask.deed (ap (λ (x : Entry). x.station) m.entry_is) (ap (λ (x : Entry). x.number) m.entry_is) (ap (λ (x : Entry). x.deed) m.entry_is) m.comes.means) in
    let answered : Answered = record { ask = ask; reply = reply } in
    (subst (λ (l : List Entry). IsLawful site l) all (lawful_more site h e lawful m.follows), subst (λ (l : List Entry). AllKept site l (answered ∷ [])) all (kept, tt))

-- one request of a group
one_goes : (site : Setup) (end : ℕ) (h front : List Entry) (worker : ℕ) (ask : Ask) (taken : Taken) (outcome : Outcome) (new : List Entry) → IsLawful site h → Tries site end h front worker ask taken outcome new → IsLawful site (h ++ new) × AllKept site (h ++ new) (handed_by ask outcome)
one_goes site end h front worker ask taken (Replied reply) new lawful (inl was) = one_same site h new (record { ask = ask; reply = reply } ∷ []) was.1 lawful (was.0.means, tt)
one_goes site end h front worker ask taken (Replied reply) new lawful (inr is) = one_new site end h front worker ask taken reply new lawful is
one_goes site end h front worker ask taken NumberReused new lawful is = one_same site h new [] is.1 lawful tt
one_goes site end h front worker ask taken (NumberGap last) new lawful is = one_same site h new [] is.1 lawful tt
one_goes site end h front worker ask taken ClockFault new lawful is = one_same site h new [] is.1 lawful tt
one_goes site end h front worker ask taken (ClockRange ms) new lawful is = one_same site h new [] is.1 lawful tt
one_goes site end h front worker ask taken WordsFault new lawful is = one_same site h new [] is.1 lawful tt
one_goes site end h front worker ask taken (WordsSpent found) new lawful is = one_same site h new [] is.1 lawful tt
one_goes site end h front worker ask taken (JournalFull told asked) new lawful is = one_same site h new [] is.1 lawful tt
one_goes site end h front worker ask taken DiskFault new lawful is = absurd is
one_goes site end h front worker ask taken Memory new lawful is = one_same site h new [] is.1 lawful tt

-- all of them, where what is new is written
all_go : (site : Setup) (end : ℕ) (h front : List Entry) (worker : ℕ) (ts : List Try) → IsLawful site h → AreTries site end h front worker ts → IsLawful site (h ++ new_in ts) × AllKept site (h ++ new_in ts) (handed_all (asks_in ts) (outcomes_in ts))
all_go site end h front worker [] lawful are = (subst (λ (l : List Entry). IsLawful site l) (sym (append-nil h)) lawful, tt)
all_go site end h front worker (t ∷ ts) lawful are =
    let first = one_goes site end h front worker t.ask t.taken t.outcome t.new lawful are.0 in
    let rest = all_go site end (h ++ t.new) (front ++ t.new) worker ts first.0 are.1 in
    let all : (h ++ t.new) ++ new_in ts ≡ h ++ new_in (t ∷ ts) = append_assoc h t.new (new_in ts) in
    let longer : Extends (h ++ t.new) (h ++ new_in (t ∷ ts)) = (new_in ts, sym all) in (
      subst (λ (l : List Entry). IsLawful site l) all rest.0,
      every_more (IsKeptIn site (h ++ new_in (t ∷ ts))) (handed_by t.ask t.outcome) (handed_all (asks_in ts) (outcomes_in ts))
          (every_weaker (IsKeptIn site (h ++ t.new)) (IsKeptIn site (h ++ new_in (t ∷ ts))) (handed_by t.ask t.outcome) (λ a. kept_extends site (h ++ t.new) (h ++ new_in (t ∷ ts)) a longer) first.1)
          (subst (λ (l : List Entry). AllKept site l (handed_all (asks_in ts) (outcomes_in ts))) all rest.1),
    )

-- a fault or want of memory hands out nothing
none_handed : {X : Type 0} (asks : List Ask) (xs : List X) (outcome : Outcome) → (outcome ≡ DiskFault) ⊎ (outcome ≡ Memory) → handed_all asks (map (λ (x : X). outcome) xs) ≡ []
none_handed [] xs outcome is = refl
none_handed (ask ∷ asks) [] outcome is = refl
none_handed (ask ∷ asks) (x ∷ xs) outcome is =
    let none : handed_by ask outcome ≡ [] = ⊎_elim (λ e. ap (handed_by ask) e) (λ e. ap (handed_by ask) e) is in
    ap (λ (l : List Answered). l ++ handed_all asks (map (λ (y : _). outcome) xs)) none ∙ none_handed asks xs outcome is

-- .. and where the append fails: only the first answers, before any new entry, hand out replies
lost_go : (site : Setup) (end : ℕ) (h front : List Entry) (worker : ℕ) (ts : List Try) → IsLawful site h → AreTries site end h front worker ts → AllKept site h (handed_all (asks_in ts) (lost_in ts))
lost_go site end h front worker [] lawful are = tt
lost_go site end h front worker (t ∷ ts) lawful are =
    let first = one_goes site end h front worker t.ask t.taken t.outcome t.new lawful are.0 in
    by_new t.new first.1 (lost_go site end (h ++ t.new) (front ++ t.new) worker ts first.0 are.1)
  where
    by_new : (new : List Entry) → AllKept site (h ++ new) (handed_by t.ask t.outcome) → AllKept site (h ++ new) (handed_all (asks_in ts) (lost_in ts)) → AllKept site h (handed_all (t.ask ∷ asks_in ts) (lost_from new t.outcome ts (lost_in ts)))
    by_new [] first rest = every_more (IsKeptIn site h) (handed_by t.ask t.outcome) (handed_all (asks_in ts) (lost_in ts))
        (subst (λ (l : List Entry). AllKept site l (handed_by t.ask t.outcome)) (append-nil h) first) (subst (λ (l : List Entry). AllKept site l (handed_all (asks_in ts) (lost_in ts))) (append-nil h) rest)
    by_new (entry ∷ entries) first rest = subst (λ (l : List Answered). AllKept site h l) (sym (none_handed (asks_in ts) ts DiskFault (inl refl))) tt

-- behind a history with nothing pending
answers_go : (site : Setup) (end : ℕ) (g : List Entry) (worker : ℕ) (asks : List Ask) (taken : Taken) (outcomes : List Outcome) (new : State) (more : List Noted) → IsLawful site g → Answers site end g worker asks taken outcomes new more → IsLawful site (all_of new) × AllKept site new.history (handed_all asks outcomes)
answers_go site end g worker asks taken outcomes new more lawful a =
    let all = all_go site end g [] worker a.tries lawful a.are in
    ⊎_elim (λ w. written w all) (λ l. lost l all.0 (lost_go site end g [] worker a.tries lawful a.are)) a.comes
  where
    written : Written g worker a.tries outcomes new more → IsLawful site (g ++ new_in a.tries) × AllKept site (g ++ new_in a.tries) (handed_all (asks_in a.tries) (outcomes_in a.tries)) → IsLawful site (all_of new) × AllKept site new.history (handed_all asks outcomes)
    written w all =
        let handed : handed_all (asks_in a.tries) (outcomes_in a.tries) ≡ handed_all asks outcomes = ap (λ (l : List Ask). handed_all l (outcomes_in a.tries)) (sym a.asks_are) ∙ ap (λ (l : List Outcome). handed_all asks l) (sym w.outcomes_are) in
        let state : settled (g ++ new_in a.tries) ≡ new = sym w.state in (
          subst (λ (s : State). IsLawful site (all_of s)) state (subst (λ (l : List Entry). IsLawful site l) (sym (append-nil (g ++ new_in a.tries))) all.0),
          subst (λ (s : State). AllKept site s.history (handed_all asks outcomes)) state (subst (λ (l : List Answered). AllKept site (g ++ new_in a.tries) l) handed all.1),
        )

    lost : Lost g worker a.tries outcomes new more → IsLawful site (g ++ new_in a.tries) → AllKept site g (handed_all (asks_in a.tries) (lost_in a.tries)) → IsLawful site (all_of new) × AllKept site new.history (handed_all asks outcomes)
    lost l longer kept =
        let handed : handed_all (asks_in a.tries) (lost_in a.tries) ≡ handed_all asks outcomes = ap (λ (x : List Ask). handed_all x (lost_in a.tries)) (sym a.asks_are) ∙ ap (λ (x : List Outcome). handed_all asks x) (sym l.outcomes_are) in
        let history : g ≡ new.history = sym l.history in
        let both : IsLawful site (g ++ new.pending) = ⊎_elim
        (λ none. subst (λ (x : List Entry). IsLawful site x) (sym (ap (λ (p : List Entry). g ++ p) none ∙ append-nil g)) lawful)
        (λ some. subst (λ (x : List Entry). IsLawful site x) (sym (ap (λ (p : List Entry). g ++ p) some)) longer) l.pending in
        (subst (λ (x : List Entry). IsLawful site (x ++ new.pending)) history both, subst (λ (x : List Entry). AllKept site x (handed_all asks outcomes)) history (subst (λ (x : List Answered). AllKept site g x) handed kept))

pub steps_go : (site : Setup) (end : ℕ) (old : State) (worker : ℕ) (asks : List Ask) (taken : Taken) (outcomes : List Outcome) (new : State) (notes : List Noted) → IsLawful site (all_of old) → Steps site end old worker asks taken outcomes new notes → Goes site old new (handed_all asks outcomes)
steps_go site end old worker asks taken outcomes new notes lawful (inl un) =
    let none : handed_all asks outcomes ≡ [] = ⊎_elim (λ failed. ap (λ (l : List Outcome). handed_all asks l) failed.0 ∙ none_handed asks asks DiskFault (inl refl)) (λ wants. ap (λ (l : List Outcome). handed_all asks l) wants.0 ∙ none_handed asks asks Memory (inr refl)) un.told in
    subst (λ (s : State). Goes site old s (handed_all asks outcomes)) (sym un.stays) (record {
      history = extends_refl old.history;
      all = extends_refl (all_of old);
      lawful = lawful;
      kept = subst (λ (xs : List Answered). AllKept site old.history xs) (sym none) tt;
    })
steps_go site end old worker asks taken outcomes new notes lawful (inr m) =
    let grows = steps_grow site end old worker asks taken outcomes new notes (inr m) in
    let goes = answers_go site end (all_of old) worker asks taken outcomes new m.more lawful m.answers in
    record { history = grows.history; all = grows.all; lawful = goes.0; kept = goes.1 }

-- ---- all of them

hold_extends : (old : State) (loaded : List Entry) → MayHold old loaded → Extends old.history loaded
hold_extends old loaded (inl is) = extends_is old.history old.history loaded (sym is) (extends_refl old.history)
hold_extends old loaded (inr is) = extends_is old.history (all_of old) loaded (sym is) (extends_more old.history old.pending)

hold_lawful : (site : Setup) (old : State) (loaded : List Entry) → IsLawful site (all_of old) → MayHold old loaded → IsLawful site loaded
hold_lawful site old loaded lawful (inl is) = subst (λ (h : List Entry). IsLawful site h) (sym is) (lawful_front site old.history old.pending lawful)
hold_lawful site old loaded lawful (inr is) = subst (λ (h : List Entry). IsLawful site h) (sym is) lawful

pub record Keeps (site : Setup) (old new : State) (answers : List Answered) : Type 0 where
  pub history : Extends old.history new.history
  pub lawful : IsLawful site (all_of new)
  pub kept : AllKept site new.history answers

loaded_keeps : (site : Setup) (old new : State) (loaded : List Entry) → Extends old.history loaded → IsLawful site loaded → new ≡ settled loaded → Keeps site old new []
loaded_keeps site old new loaded ext lawful is = subst (λ (s : State). Keeps site old s []) (sym is) (record { history = ext; lawful = subst (λ (h : List Entry). IsLawful site h) (sym (append-nil loaded)) lawful; kept = tt })

event_keeps : (site : Setup) (old new : State) (event : Event) → IsLawful site (all_of old) → Leads site old event new → Keeps site old new (handed_in event)
event_keeps site old new (Served turn) lawful leads =
    let goes = steps_go site turn.end old turn.worker turn.asks turn.taken turn.outcomes turn.after turn.notes lawful leads.0 in
    subst (λ (s : State). Keeps site old s (handed_all turn.asks turn.outcomes)) (sym leads.1) (record { history = goes.history; lawful = goes.lawful; kept = goes.kept })
event_keeps site old new (Cut turn loaded) lawful leads =
    let goes = steps_go site turn.end old turn.worker turn.asks turn.taken turn.outcomes turn.after turn.notes lawful leads.0 in
    ⊎_elim
    (λ was. loaded_keeps site old new loaded (hold_extends old loaded was) (hold_lawful site old loaded lawful was) leads.2)
    (λ all. loaded_keeps site old new loaded (extends_is old.history (all_of turn.after) loaded (sym all) (extends_trans old.history (all_of old) (all_of turn.after) (extends_more old.history old.pending) goes.all)) (subst (λ (h : List Entry). IsLawful site h) (sym all) goes.lawful) leads.2)
    leads.1
event_keeps site old new (Stopped loaded) lawful leads = loaded_keeps site old new loaded (hold_extends old loaded leads.0) (hold_lawful site old loaded lawful leads.0) leads.1

pub runs_keep : (site : Setup) (old new : State) (events : List Event) → IsLawful site (all_of old) → Runs site old events new → Keeps site old new (handed_out events)
runs_keep site old new [] lawful is = subst (λ (s : State). Keeps site old s []) (sym is) (record { history = extends_refl old.history; lawful = lawful; kept = tt })
runs_keep site old new (event ∷ events) lawful runs =
    let mid = runs.0 in
    let first = event_keeps site old mid event lawful runs.1 in
    let rest = runs_keep site mid new events first.lawful runs.2 in
    record {
      history = extends_trans old.history mid.history new.history first.history rest.history;
      lawful = rest.lawful;
      kept = every_more (IsKeptIn site new.history) (handed_in event) (handed_out events) (every_weaker (IsKeptIn site mid.history) (IsKeptIn site new.history) (handed_in event) (λ a. kept_extends site mid.history new.history a rest.history) first.kept) rest.kept;
    }
