-- A run from what was loaded.
use Rattle.std.proofs.Common.{◌≡◌, ℕ, List, Option, Result, sym, ap, subst, append-nil}
use Rattle.std.specs.Io.KnownBytes.{IsAtEnd}
use Rattle.outside.specs.Disks.{LeavesOnly, Tells}
use Rattle.outside.specs.declared.disk.Disk as disk
use Rattle.outside.specs.declared.devices.Words as words
use Rattle.outside.specs.declared.clock.Clock as clock
use Rattle.deed_words.specs.Setups.{Setup}
use Rattle.deed_words.specs.declared.entry.Entry.{Entry}
use Rattle.deed_words.specs.History.{IsLawful}
use Rattle.site_store.specs.declared.store.Devices.{Devices}
use Rattle.site_store.specs.Images.{HoldsState}
use Rattle.site_store.specs.Open.{HoldsSince}
use Rattle.site_store.specs.Readings.{ReadsAs, Kept}
use Rattle.site_store.specs.States.{State, all_of, settled}
use Rattle.site_console.specs.declared.ending.Ending.{Ending}
use Rattle.site_console.specs.declared.fault.Fault.{Fault}
use Rattle.site_console.specs.Endings.{ending_of}
use Rattle.site_console.specs.Open.{Point, counts_of, told_of}
use Rattle.site_console.specs.Promises.{Promises}
use Rattle.site_console.specs.Script.{Talk, Ran, handed}
use Rattle.site_console.specs.Sessions.{RanFrom}
use Rattle.site_console.specs.Told.{Told, Stream}
use Rattle.site_console.proofs.Kept.{ended_keeps, image_answers}

abbrev pub told_from : Option (List ℕ) → Option (List ℕ) → Option (List ℕ) → Told
told_from held m w = record { held = held; moments = m; words = w }

pub told_is : (held m m' w w' : Option (List ℕ)) → m' ≡ m → w' ≡ w → told_from held m' w' ≡ told_from held m w
told_is held m m' w w' a b = cc

abbrev pub point_from : State → ℕ → ℕ → ℕ → Point
point_from s d c w = record { state = s; counts = record { disk = d; clock = c; words = w } }

pub point_is : (s s' : State) (d d' c c' w w' : ℕ) → s' ≡ s → d' ≡ d → c' ≡ c → w' ≡ w → point_from s' d' c' w' ≡ point_from s d c w
point_is s s' d d' c c' w w' a b e f = cc

module _ {D C W : Type 0} (g : disk.Ghosts D) (k : clock.Ghosts C) (w : words.Ghosts W) where
  pub ran_from : (old new : Devices D C W) (input_old input_new out_old out_new : Stream) (ending : Ending) (site : Setup) (history : List Entry) (result : Result (Unit {0}) Fault) (state : State)
      → ending ≡ ending_of result → Tells (g.content old.disk) (ReadsAs (Kept site history)) → IsLawful site history → (IsLawful site (all_of state) → Promises site (all_of state))
      → (ran : (talk : Talk) × Ran site (record { state = settled history; counts = counts_of g k w old.disk old.clock old.words }) input_old.bytes input_new.bytes (told_of k w out_old.bytes old.clock old.words) (told_of k w out_new.bytes new.clock new.words) result (record { state = state; counts = counts_of g k w new.disk new.clock new.words }) talk)
      → LeavesOnly g.moment g.image_since old.disk new.disk (HoldsSince (g.image old.disk) site history (all_of state)) → ((c : List ℕ) → g.image new.disk c → HoldsState site state c)
      → RanFrom g k w old new input_old input_new out_old out_new ending
  ran_from old new input_old input_new out_old out_new ending site history result state is loaded lawful promises ran run at_return =
      let talk = ran.0 in
      let same : talk.point.state ≡ state = ap (λ (p : Point). p.state) ran.1.point_is in
      let keeps = ended_keeps (Unit {0}) site (record { state = settled history; counts = counts_of g k w old.disk old.clock old.words }) result (IsAtEnd input_new.bytes) talk (subst (IsLawful site) (sym (append-nil history)) lawful) ran.1.ended in
      let all_lawful = subst (λ (s : State). IsLawful site (all_of s)) same keeps.lawful in
      record {
        site = site;
        history = history;
        result = result;
        state = state;
        talk = talk;
        ending_is = is;
        loaded = loaded;
        ran = ran.1;
        at_return = at_return;
        since_start = run;
        answered = λ c left. image_answers site talk.point.state (handed site talk.exchanges) c keeps.kept (subst (λ (s : State). HoldsState site s c) (sym same) (at_return c left));
        lawful = all_lawful;
        promises = promises all_lawful;
      }

-- the same run, of what is the same
pub ran_same : (site : Setup) (loaded loaded' : Point) (left_old left_new : Option (List ℕ)) (old old' new : Told) (result : Result (Unit {0}) Fault) (point : Point) → loaded ≡ loaded' → old ≡ old'
    → ((talk : Talk) × Ran site loaded left_old left_new old new result point talk) → (talk : Talk) × Ran site loaded' left_old left_new old' new result point talk
ran_same site loaded loaded' left_old left_new old old' new result point one two ran =
    (ran.0, subst (λ (t : Told). Ran site loaded' left_old left_new t new result point ran.0) two (subst (λ (p : Point). Ran site p left_old left_new old new result point ran.0) one ran.1))
