-- The rule of a desk, and what each of its steps tells.
-- Word 0 is the number of tickets that were taken, word 1 the number of turns that are over, word 2 is 1 while a worker has the value, and word 3 is the number of notes. The one slot has the value.
use Rattle.std.specs.Prelude.{◌≡◌, ◌≢◌, ◌⊎◌, ℕ, suc, ◌+◌, ◌-◌, ◌*◌, ◌%◌, ◌^◌, ◌<◌, ◌≤◌, List, [], ◌∷◌, ◌++◌, length, sum_by, true, false, None}
use mathlib.Core.Option.{some, none}
use mathlib.Core.Option as maybe
use lib.ListN.{get_elem?}
use Rattle.atomic_table.specs.Table.{State, Me, Step}
use Rattle.turn_desk.specs.declared.view.Noted.{Noted}
use Rattle.turn_desk.specs.declared.view.Origin.{Origin}
use Rattle.turn_desk.specs.declared.view.View.{View}
use Rattle.turn_desk.specs.declared.view.Stage.{Stage}
use Rattle.turn_desk.specs.declared.view.Stage.TheVariants.{Idle, Waits, First, Works, Counted, Back}
use Rattle.turn_desk.specs.Notes.{own, IsOfOthers, Begins}

-- the worker has the ticket k
abbrev pub HasTicket : Stage → ℕ → Type 0
HasTicket Idle k = ⊥
HasTicket (Waits a) k = a ≡ k
HasTicket (First a) k = a ≡ k
HasTicket (Works a) k = a ≡ k
HasTicket (Counted a) k = a ≡ k
HasTicket (Back a) k = a ≡ k

abbrev pub IsWorking : Stage → Type 0
IsWorking Idle = ⊥
IsWorking (Waits a) = ⊥
IsWorking (First a) = ⊥
IsWorking (Works a) = Unit {0}
IsWorking (Counted a) = Unit {0}
IsWorking (Back a) = ⊥

-- what a stage means where t tickets were taken, n turns are over, and f is 1 while a worker has the value
abbrev pub AtStage : ℕ → ℕ → ℕ → List Noted → List Noted → Stage → Type 0
AtStage t n f log seen Idle = Unit {0}
AtStage t n f log seen (Waits k) = (n ≤ k) × (k < t)
AtStage t n f log seen (First k) = (k ≡ n) × (n < t)
AtStage t n f log seen (Works k) = (k ≡ n) × (n < t) × (seen ≡ log) × (f ≡ 1)
AtStage t n f log seen (Counted k) = (k ≡ n) × (n < t) × (seen ≡ log) × (f ≡ 1)
AtStage t n f log seen (Back k) = (k ≡ n) × (n < t)

-- what the rule says of the view v of the seat i, of c seats
pub record Fits (from : Origin) (t n f c : ℕ) (log : List Noted) (i : ℕ) (v : View) : Type 0 where
  pub sprung : v.origin ≡ from
  pub begins : Begins v.seen log
  pub owns : own v.worker log ≡ own v.worker v.seen
  pub stage : AtStage t n f log v.seen v.stage
  pub first : v.first ≡ true → (i ≡ 0) × (suc v.worker ≡ c) × (v.low + length v.known ≡ v.worker)
  pub other : v.first ≡ false → (suc v.worker ≡ i) × (v.known ≡ [])
  pub known : (k : ℕ) (u : List Noted) → get_elem? v.known k ≡ some u → Begins u log × (own (v.low + k) log ≡ own (v.low + k) u)

-- what the rule says of two seats: no ticket is of both, and the first seat has not taken in a worker that may still work
pub record Apart (i : ℕ) (v : View) (j : ℕ) (w : View) : Type 0 where
  pub tickets : (k : ℕ) → HasTicket v.stage k → HasTicket w.stage k → i ≡ j
  pub behind : v.first ≡ true → i ≢ j → w.worker < v.low

module _ {S : Type 0} (noted : S → List Noted) (origin : S → Origin) (sound : S → Type 0) (from : Origin) where
  -- the value is at home, or some worker has it
  abbrev pub Lies : ℕ → List (maybe.Option S) → List View → List Noted → Type 0
  Lies f homes views log =
      ((y : S) × (homes ≡ some y ∷ []) × (noted y ≡ log) × (origin y ≡ from) × (f ≡ 0) × sound y)
      ⊎ ((homes ≡ none ∷ []) × (f ≡ 1) × ((j : ℕ) × (v : View) × (get_elem? views j ≡ some v) × (v.live ≡ true) × IsWorking v.stage))

  pub record Kept (s : State S View) : Type 0 where
    pub t : ℕ
    pub n : ℕ
    pub f : ℕ
    pub log : List Noted
    pub words : s.words ≡ t ∷ n ∷ f ∷ length log % 2 ^ 64 ∷ []
    pub order : n ≤ t
    pub room : t + sum_by (λ v. v.left) s.views ≤ 2 ^ 63
    pub lies : Lies f s.homes s.views log
    pub few : (k : ℕ) → length s.views ≤ k → own k log ≡ []
    pub each : (i : ℕ) (v : View) → get_elem? s.views i ≡ some v → v.live ≡ true → Fits from t n f (length s.views) log i v
    pub apart : (i : ℕ) (v : View) (j : ℕ) (w : View) → get_elem? s.views i ≡ some v → v.live ≡ true → get_elem? s.views j ≡ some w → w.live ≡ true → Apart i v j w

-- the first worker, before there are others
abbrev pub first_view : Origin → View
first_view from = record { live = true; first = true; worker = 0; origin = from; seen = []; left = 2 ^ 63; stage = Idle; low = 0; known = [] }

-- a worker is cut from the first seat, which has its number from then on plus one
abbrev pub parted : View → View
parted v = record v { worker = suc v.worker; left = v.left - 2 ^ 57; low = suc v.low }

abbrev pub part : View → View
part v = record { live = true; first = false; worker = v.worker; origin = v.origin; seen = []; left = 2 ^ 57; stage = Idle; low = 0; known = [] }

-- the first seat has taken in a worker
abbrev pub gathered : View → View → View
gathered v w = record v { low = w.worker; known = w.seen ∷ v.known }

-- the first seat, once it has taken in the workers from this one on
abbrev pub knowing : ℕ → List (List Noted) → View → View
knowing low known v = record v { low = low; known = known }

-- the first seat, once it has dealt out so many others
abbrev pub dealt : Origin → ℕ → View
dealt from k = record (first_view from) { worker = k; left = 2 ^ 63 - k * 2 ^ 57; low = k }

-- what the first seat knows of all notes, once it has taken in all others
pub record Settled (notes : List Noted) (v : View) : Type 0 where
  pub begins : Begins v.seen notes
  pub owns : own v.worker notes ≡ own v.worker v.seen
  pub known : (k : ℕ) (u : List Noted) → get_elem? v.known k ≡ some u → Begins u notes × (own k notes ≡ own k u)
  pub nobody : (k : ℕ) → v.worker < k → own k notes ≡ []

abbrev pub no_origin : Origin
no_origin = record {
  setup = record { gln = []; prefix = []; extension = 0; reference = 0; offset = []; products = []; stations = [] };
  opening = [];
  disk_faults = 0;
  clock_faults = 0;
  word_faults = 0;
  moments = None;
  words = None;
}

abbrev pub spent : View
spent = record { live = false; first = false; worker = 0; origin = no_origin; seen = []; left = 0; stage = Idle; low = 0; known = [] }

abbrev pub waiting : ℕ → View → View
waiting k v = record v { stage = Waits k; left = v.left - 1 }

abbrev pub first_at : ℕ → View → View
first_at k v = record v { stage = First k }

abbrev pub working : ℕ → List Noted → View → View
working k seen v = record v { stage = Works k; seen = seen }

abbrev pub counted : ℕ → List Noted → View → View
counted k seen v = record v { stage = Counted k; seen = seen }

abbrev pub back : ℕ → View → View
back k v = record v { stage = Back k }

abbrev pub resting : View → View
resting v = record v { stage = Idle }

module _ {S : Type 0} where
  abbrev pub ticketed : Step S → Me S View → ℕ → Me S View → Type 0
  ticketed st m r m' = m' ≡ (waiting r m.0, m.1)

  abbrev pub Watched : Me S View → ℕ → Me S View → Stage → Type 0
  Watched m r m' Idle = Unit {0}
  Watched m r m' (Waits k) = (r ≡ k → m' ≡ (first_at k m.0, m.1)) × (r ≢ k → m' ≡ m)
  Watched m r m' (First k) = Unit {0}
  Watched m r m' (Works k) = Unit {0}
  Watched m r m' (Counted k) = Unit {0}
  Watched m r m' (Back k) = Unit {0}

  abbrev pub watched : Step S → Me S View → ℕ → Me S View → Type 0
  watched st m r m' = Watched m r m' m.0.stage

  -- the value was taken, and stands for what was seen and then for others' notes
  abbrev pub Took : (S → List Noted) → (S → Origin) → (S → Type 0) → ℕ → Me S View → Me S View → Type 0
  Took noted origin sound k m m' =
      (y : S) × (others : List Noted) × (m' ≡ (working k (m.0.seen ++ others) m.0, (0, y) ∷ []))
      × (noted y ≡ m.0.seen ++ others) × (origin y ≡ m.0.origin) × IsOfOthers m.0.worker others × sound y

  abbrev pub taken : (S → List Noted) → (S → Origin) → (S → Type 0) → Step S → Me S View → ℕ → Me S View → Type 0
  taken noted origin sound st m r m' = (k : ℕ) → m.0.stage ≡ First k → Took noted origin sound k m m'

  abbrev pub added : (S → List Noted) → Step S → Me S View → ℕ → Me S View → Type 0
  added noted st m r m' = (k : ℕ) (y : S) → m.0.stage ≡ Works k → m.1 ≡ (0, y) ∷ [] → m' ≡ (counted k (noted y) m.0, m.1)

  abbrev pub given : Step S → Me S View → ℕ → Me S View → Type 0
  given st m r m' = (k : ℕ) → m.0.stage ≡ Counted k → m' ≡ (back k m.0, [])

  abbrev pub passed : Step S → Me S View → ℕ → Me S View → Type 0
  passed st m r m' = m' ≡ (resting m.0, m.1)
