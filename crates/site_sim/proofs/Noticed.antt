-- From a request to what is true between two requests.
use Rattle.std.proofs.Common.{◌≡◌, ◌<◌, ◌+◌, ◌^◌, ◌∙◌, Bool, true, false, List, [], ◌∷◌, ◌++◌, length, Result, Ok, Err, refl, sym, ap, subst, arith, true≢false}
use Rattle.std.specs.Prelude.{IfErr, IfOk, OnOk}
use Rattle.site_sim.specs.declared.fault.SimFault.{SimFault}
use Rattle.site_sim.specs.declared.fault.SimFault.TheVariants.{JournalThere, Memory}
use Rattle.site_sim.specs.Simulated.{is_disk, is_there}
use Rattle.outside.specs.declared.disk.Disk as disk
use Rattle.outside.specs.declared.devices.Words as words
use Rattle.outside.specs.declared.clock.Clock as clock
use Rattle.deed_words.specs.Setups.{Setup}
use Rattle.deed_words.specs.Sound.{IsSound}
use Rattle.deed_words.specs.declared.entry.Entry.{Entry}
use Rattle.deed_words.specs.declared.reply.Reply.{Reply}
use Rattle.deed_words.specs.History.{world_of}
use Rattle.site_store.specs.declared.store.Store.{Store}
use Rattle.site_store.specs.Open.{IsOpen, store_state}
use Rattle.site_store.specs.States.{State, settled}
use Rattle.site_sim.specs.declared.known.Known.{Known}
use Rattle.site_sim.specs.declared.request.Request.{Request}
use Rattle.site_sim.specs.Asking.{ask_at, lent_in}
use Rattle.site_sim.specs.Example as example
use Rattle.site_sim.specs.Knowing.{AreNamed, IsSmall, Knows, Learns, drawn_for}
use Rattle.site_sim.specs.Standing.{Stands}
use Rattle.site_sim.proofs.Growing.{named_more, rows_more}
use Rattle.site_sim.proofs.Keeping.{knows_later, knows_more, small_later, small_more}
use Rattle.site_sim.proofs.Turned.{Entered, OneMeaning, enters, left_so, repeats}
use Rattle.deed_words.specs.declared.entry.Ask.{Ask}
use Rattle.site_store.specs.declared.outcome.Outcome.{Outcome}
use Rattle.site_store.specs.Moved.{Taken}
use Rattle.site_sim.specs.declared.sending.Coming.{Coming}
use Rattle.site_sim.specs.declared.sending.Coming.TheVariants as coming
use Rattle.site_sim.specs.Requests.{send}
use Rattle.site_sim.specs.Sends.{TurnsTo, coming_of}

abbrev pub later : Known → Known
later old = record old { sent = old.sent + 1 }

-- the serials drawn are no more than a site may have
pub serials_fit : (setup : Setup) (history h : List Entry) (old : Known) (r : Request) (told : Reply) (new : State) → Knows h old → Entered h r told new → setup ≡ example.site → history ≡ new.history → IsSound setup (world_of setup history) → old.serials + length (drawn_for r told) < 2 ^ 64
serials_fit setup history h old r told new knows e same is sound =
    let there : history ≡ h ++ e.entry ∷ [] = is ∙ ap (λ (s : State). s.history) e.state in
    let few = (subst (λ (x : List Entry). IsSound example.site (world_of example.site x)) there (subst (λ (s : Setup). IsSound s (world_of s history)) same sound)).few_serials in
    let more = rows_more h (lent_in h) r e.entry e.what in
    let shown = ap (λ (t : Reply). length (drawn_for r t)) e.told_is in
    let had = knows.serials in
    omega (arith, few, more, shown, had)

module _ {D C W : Type 0} (g : disk.Ghosts D) (k : clock.Ghosts C) (w : words.Ghosts W) where
  -- a request became an entry
  pub stands_more : (u : Store D C W g) (h : List Entry) (old new : Known) (r : Request) (told : Reply) → IsOpen g k w u → u.site.setup ≡ example.site → Knows h old → IsSmall old → AreNamed (world_of example.site h).batches → Entered h r told (store_state u) → Learns (later old) new r told → Stands g k w u new
  stands_more u h old new r told opens setup knows small named e learns =
      let there : u.site.history ≡ h ++ e.entry ∷ [] = ap (λ (s : State). s.history) e.state in
      record {
        is_open = opens;
        setup = setup;
        none = ap (λ (s : State). s.pending) e.state;
        knows = subst (λ (x : List Entry). Knows x new) (sym there) (knows_more h (later old) new r e.entry told (knows_later h old (old.sent + 1) knows) e.whose e.what e.told_is learns);
        named = subst (λ (x : List Entry). AreNamed (world_of example.site x).batches) (sym there) (named_more h (lent_in h) r e.entry e.what named);
        small = small_more old (later old) new r told small refl learns;
      }

  -- a request changed nothing
  pub stands_still : (u : Store D C W g) (h : List Entry) (old new : Known) → IsOpen g k w u → u.site.setup ≡ example.site → Knows h old → IsSmall old → AreNamed (world_of example.site h).batches → store_state u ≡ settled h → new ≡ later old → Stands g k w u new
  stands_still u h old new opens setup knows small named same is =
      let there : u.site.history ≡ h = ap (λ (s : State). s.history) same in
      subst (Stands g k w u) (sym is)
      (record {
        is_open = opens;
        setup = setup;
        none = ap (λ (s : State). s.pending) same;
        knows = subst (λ (x : List Entry). Knows x (later old)) (sym there) (knows_later h old (old.sent + 1) knows);
        named = subst (λ (x : List Entry). AreNamed (world_of example.site x).batches) (sym there) named;
        small = small_later old small;
      })

-- ---- results

pub if_ok : {T E : Type 0} (r : Result T E) (P : T → Type 0) → ((x : T) → r ≡ Ok x → P x) → IfOk r P
if_ok (Ok x) P f = f x refl
if_ok (Err e) P f = tt

pub of_ok : {T E : Type 0} (r : Result T E) (P : T → Type 0) (x : T) → IfOk r P → r ≡ Ok x → P x
of_ok (Ok y) P x is e = let same : y ≡ x = cc in subst P same is
of_ok (Err f) P x is e = absurd (cc)

pub on_ok : {T E : Type 0} (r : Result T E) (P : Type 0) → ((x : T) → r ≡ Ok x → P) → OnOk r P
on_ok (Ok x) P f = f x refl
on_ok (Err e) P f = tt

pub when_ok : {T E : Type 0} (r : Result T E) (P : Type 0) (x : T) → OnOk r P → r ≡ Ok x → P
when_ok (Ok y) P x is e = is
when_ok (Err f) P x is e = absurd (cc)

-- a refusal that isn't the disk's
pub not_disk : {T : Type 0} (r : Result T SimFault) → IfErr r (λ e. e ≡ Memory) → is_disk r ≡ false
not_disk (Ok x) is = refl
not_disk (Err e) is = ap (λ (f : SimFault). is_disk {T = Unit {0}} (Err f)) is ∙ refl

pub not_there : {T : Type 0} (r : Result T SimFault) → IfErr r (λ e. e ≡ Memory) → is_there r ≡ false
not_there (Ok x) is = refl
not_there (Err e) is = ap (λ (f : SimFault). is_there {T = Unit {0}} (Err f)) is ∙ refl

pub never_there : {T : Type 0} (r : Result T SimFault) → is_there r ≡ false → r ≡ Err JournalThere → ⊥
never_there r not_so is = true≢false (sym (ap is_there is) ∙ not_so)

-- ---- one request

pub came_bound : OneMeaning → (os new : State) (setup : Setup) (history : List Entry) (old : Known) (r : Request) (again : Bool) (ask : Ask) (taken : Taken) (outcome : Outcome) (came : Coming) (told : Reply) → os.pending ≡ [] → ask ≡ ask_at os.history (send r again) → TurnsTo os ask taken outcome new → came ≡ coming_of outcome → came ≡ coming.Came told
    → Knows os.history old → setup ≡ example.site → history ≡ new.history → IsSound setup (world_of setup history) → again ≡ false → old.serials + length (drawn_for r told) < 2 ^ 64
came_bound one os new setup history old r again ask taken outcome came told none asks t is replied knows same there sound first =
    let asks' = asks ∙ ap (λ (b : Bool). ask_at os.history (send r b)) first in
    serials_fit setup history os.history old r told new knows (enters one os r ask taken outcome new came told none asks' t is replied) same there sound

module _ {D C W : Type 0} (g : disk.Ghosts D) (k : clock.Ghosts C) (w : words.Ghosts W) where
  -- a reply came
  pub came_stands : OneMeaning → (os : State) (u : Store D C W g) (old new : Known) (r : Request) (again : Bool) (ask : Ask) (taken : Taken) (outcome : Outcome) (came : Coming) (told : Reply) → os.pending ≡ [] → ask ≡ ask_at os.history (send r again) → TurnsTo os ask taken outcome (store_state u) → came ≡ coming_of outcome → came ≡ coming.Came told
      → IsOpen g k w u → u.site.setup ≡ example.site → Knows os.history old → IsSmall old → AreNamed (world_of example.site os.history).batches → (again ≡ false → Learns (later old) new r told) → (again ≡ true → new ≡ later old) → Stands g k w u new
  came_stands one os u old new r false ask taken outcome came told none asks t is replied opens setup knows small named learns stays =
      stands_more g k w u os.history old new r told opens setup knows small named (enters one os r ask taken outcome (store_state u) came told none asks t is replied) (learns refl)
  came_stands one os u old new r true ask taken outcome came told none asks t is replied opens setup knows small named learns stays =
      stands_still g k w u os.history old new opens setup knows small named (repeats os r ask taken outcome (store_state u) came told none asks t is replied) (stays refl)

  -- something else came of it
  pub left_stands : (os : State) (u : Store D C W g) (old : Known) (ask : Ask) (taken : Taken) (outcome : Outcome) (came : Coming) → os.pending ≡ [] → TurnsTo os ask taken outcome (store_state u) → came ≡ coming_of outcome → came ≡ coming.Other
      → IsOpen g k w u → u.site.setup ≡ example.site → Knows os.history old → IsSmall old → AreNamed (world_of example.site os.history).batches → Stands g k w u (later old)
  left_stands os u old ask taken outcome came none t is other opens setup knows small named =
      stands_still g k w u os.history old (later old) opens setup knows small named (left_so os ask taken outcome (store_state u) came none t is other).0 refl
