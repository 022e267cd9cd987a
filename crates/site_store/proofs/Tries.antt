-- One request more of a group.
use Rattle.std.proofs.Common.{◌≡◌, ◌∙◌, ◌≢◌, ◌+◌, ℕ, List, [], ◌∷◌, ◌++◌, length, refl, sym, subst, ap, arith, append_assoc, append-nil}
use Rattle.std.proofs.lemmas.List.{length-append, map_push}
use Rattle.deed_words.specs.Setups.{Setup}
use Rattle.deed_words.specs.declared.entry.Entry.{Entry}
use Rattle.deed_words.specs.declared.entry.Note.{Note}
use Rattle.deed_words.specs.declared.entry.Note.TheVariants.{Done, Fault}
use Rattle.site_store.specs.declared.outcome.Outcome.{Outcome}
use Rattle.site_store.specs.declared.outcome.Outcome.TheVariants.{Replied, NumberReused, NumberGap, DiskFault, ClockFault, ClockRange, WordsFault, WordsSpent, JournalFull, Memory}
use Rattle.site_store.specs.Moved.{Taken}
use Rattle.site_store.specs.Noting.{Noted, dones}
use Rattle.site_store.specs.Steps.{Try, Tries, AreTries, outcomes_in, new_in, taken_in, lost_from, lost_in, notes_in, faults_in, faults_told}
use Rattle.site_store.specs.Trying.{no_dones}

pub new_push : (ts : List Try) (t : Try) → new_in (ts ++ t ∷ []) ≡ new_in ts ++ t.new
new_push [] t = append-nil t.new
new_push (s ∷ ts) t = ap (λ (l : List Entry). s.new ++ l) (new_push ts t) ∙ sym (append_assoc s.new (new_in ts) t.new)

pub tries_push : (site : Setup) (end : ℕ) (g front : List Entry) (worker : ℕ) (ts : List Try) (t : Try) → AreTries site end g front worker ts → Tries site end (g ++ new_in ts) (front ++ new_in ts) worker t.ask t.taken t.outcome t.new → AreTries site end g front worker (ts ++ t ∷ [])
tries_push site end g front worker [] t are more =
    (subst (λ (h : List Entry). Tries site end h front worker t.ask t.taken t.outcome t.new) (append-nil g) (subst (λ (f : List Entry). Tries site end (g ++ []) f worker t.ask t.taken t.outcome t.new) (append-nil front) more), tt)
tries_push site end g front worker (s ∷ ts) t are more = (
  are.0,
  tries_push site end (g ++ s.new) (front ++ s.new) worker ts t are.1
      (subst (λ (h : List Entry). Tries site end h ((front ++ s.new) ++ new_in ts) worker t.ask t.taken t.outcome t.new) (sym (append_assoc g s.new (new_in ts)))
      (subst (λ (f : List Entry). Tries site end (g ++ (s.new ++ new_in ts)) f worker t.ask t.taken t.outcome t.new) (sym (append_assoc front s.new (new_in ts))) more)),
)

pub notes_push : (worker place : ℕ) (ts : List Try) (t : Try) → notes_in worker place (ts ++ t ∷ []) ≡ notes_in worker place ts ++ (faults_told worker t.outcome ++ dones worker (place + length (new_in ts)) t.new)
notes_push worker place [] t = append-nil (faults_told worker t.outcome ++ dones worker place t.new) ∙ ap (λ (n : ℕ). faults_told worker t.outcome ++ dones worker n t.new) (omega arith)
notes_push worker place (s ∷ ts) t =
    let first = faults_told worker s.outcome ++ dones worker place s.new in
    let long : (place + length s.new) + length (new_in ts) ≡ place + length (new_in (s ∷ ts)) = let both = length-append s.new (new_in ts) in omega (arith, both) in
    ap (λ (l : List Noted). first ++ l) (notes_push worker (place + length s.new) ts t ∙ ap (λ (n : ℕ). notes_in worker (place + length s.new) ts ++ (faults_told worker t.outcome ++ dones worker n t.new)) long)
    ∙ sym (append_assoc first (notes_in worker (place + length s.new) ts) (faults_told worker t.outcome ++ dones worker (place + length (new_in (s ∷ ts))) t.new))

taken_is : (a b : Taken) → a.moments ≡ b.moments → a.words ≡ b.words → a ≡ b
taken_is a b m w = ap (λ (l : List ℕ). record { moments = l; words = a.words }) m ∙ ap (λ (l : List ℕ). record { moments = b.moments; words = l }) w

pub moments_push : (ts : List Try) (t : Try) → (taken_in (ts ++ t ∷ [])).moments ≡ (taken_in ts).moments ++ t.taken.moments
moments_push [] t = append-nil t.taken.moments
moments_push (s ∷ ts) t = ap (λ (l : List ℕ). s.taken.moments ++ l) (moments_push ts t) ∙ sym (append_assoc s.taken.moments (taken_in ts).moments t.taken.moments)

pub words_push : (ts : List Try) (t : Try) → (taken_in (ts ++ t ∷ [])).words ≡ (taken_in ts).words ++ t.taken.words
words_push [] t = append-nil t.taken.words
words_push (s ∷ ts) t = ap (λ (l : List ℕ). s.taken.words ++ l) (words_push ts t) ∙ sym (append_assoc s.taken.words (taken_in ts).words t.taken.words)

-- ---- where the append fails

no_dones-append : (xs ys : List Noted) → no_dones (xs ++ ys) ≡ no_dones xs ++ no_dones ys
no_dones-append [] ys = refl
no_dones-append (x ∷ xs) ys = by_note (no_dones-append xs ys) x.note
  where
    by_note : no_dones (xs ++ ys) ≡ no_dones xs ++ no_dones ys → (n : Note) → no_dones (record { note = n; group = x.group } ∷ (xs ++ ys)) ≡ no_dones (record { note = n; group = x.group } ∷ xs) ++ no_dones ys
    by_note rest (Done place worker) = rest
    by_note rest (Fault kind worker) = ap (λ (l : List Noted). record { note = Fault kind worker; group = x.group } ∷ l) rest

no_dones-dones : (worker place : ℕ) (entries : List Entry) → no_dones (dones worker place entries) ≡ []
no_dones-dones worker place [] = refl
no_dones-dones worker place (entry ∷ entries) = no_dones-dones worker (place + 1) entries

no_dones-told : (worker : ℕ) (outcome : Outcome) → no_dones (faults_told worker outcome) ≡ faults_told worker outcome
no_dones-told worker (Replied reply) = refl
no_dones-told worker NumberReused = refl
no_dones-told worker (NumberGap last) = refl
no_dones-told worker DiskFault = refl
no_dones-told worker ClockFault = refl
no_dones-told worker (ClockRange ms) = refl
no_dones-told worker WordsFault = refl
no_dones-told worker (WordsSpent found) = refl
no_dones-told worker (JournalFull told asked) = refl
no_dones-told worker Memory = refl

pub only_faults : (worker place : ℕ) (ts : List Try) → no_dones (notes_in worker place ts) ≡ faults_in worker ts
only_faults worker place [] = refl
only_faults worker place (t ∷ ts) =
    let told = faults_told worker t.outcome in
    no_dones-append (told ++ dones worker place t.new) (notes_in worker (place + length t.new) ts)
    ∙ ap (λ (l : List Noted). l ++ no_dones (notes_in worker (place + length t.new) ts)) (no_dones-append told (dones worker place t.new) ∙ ap (λ (l : List Noted). l ++ no_dones (dones worker place t.new)) (no_dones-told worker t.outcome) ∙ ap (λ (l : List Noted). told ++ l) (no_dones-dones worker place t.new) ∙ append-nil told)
    ∙ ap (λ (l : List Noted). told ++ l) (only_faults worker (place + length t.new) ts)

-- where nothing is new, each answer stands
pub all_stand : (ts : List Try) → new_in ts ≡ [] → lost_in ts ≡ outcomes_in ts
all_stand [] none = refl
all_stand (t ∷ ts) none = by_new (λ rest. all_stand ts rest) t.new none
  where
    by_new : (new_in ts ≡ [] → lost_in ts ≡ outcomes_in ts) → (new : List Entry) → new ++ new_in ts ≡ [] → lost_from new t.outcome ts (lost_in ts) ≡ t.outcome ∷ outcomes_in ts
    by_new go [] rest = ap (λ (l : List Outcome). t.outcome ∷ l) (go rest)
    by_new go (entry ∷ entries) rest = absurd (cc)

-- a further request is lost where something is new already
pub lost_more : (ts : List Try) (t : Try) → new_in ts ≢ [] → lost_in (ts ++ t ∷ []) ≡ lost_in ts ++ DiskFault ∷ []
lost_more [] t some = absurd (some refl)
lost_more (s ∷ ts) t some = by_new (λ rest. lost_more ts t rest) s.new some
  where
    by_new : ((new_in ts ≡ [] → ⊥) → lost_in (ts ++ t ∷ []) ≡ lost_in ts ++ DiskFault ∷ []) → (new : List Entry) → (new ++ new_in ts ≡ [] → ⊥) → lost_from new s.outcome (ts ++ t ∷ []) (lost_in (ts ++ t ∷ [])) ≡ lost_from new s.outcome ts (lost_in ts) ++ DiskFault ∷ []
    by_new go [] rest = ap (λ (l : List Outcome). s.outcome ∷ l) (go rest)
    by_new go (entry ∷ entries) rest = ap (λ (l : List Outcome). DiskFault ∷ l) (map_push (λ (u : Try). DiskFault) ts t)

-- .. and where it is the first with a new entry
pub lost_first : (ts : List Try) (t : Try) → new_in ts ≡ [] → t.new ≢ [] → lost_in (ts ++ t ∷ []) ≡ outcomes_in ts ++ DiskFault ∷ []
lost_first [] t none some = by_new t.new some
  where
    by_new : (new : List Entry) → (new ≡ [] → ⊥) → lost_from new t.outcome [] [] ≡ DiskFault ∷ []
    by_new [] never = absurd (never refl)
    by_new (entry ∷ entries) never = refl
lost_first (s ∷ ts) t none some = by_new (λ rest. lost_first ts t rest some) s.new none
  where
    by_new : (new_in ts ≡ [] → lost_in (ts ++ t ∷ []) ≡ outcomes_in ts ++ DiskFault ∷ []) → (new : List Entry) → new ++ new_in ts ≡ [] → lost_from new s.outcome (ts ++ t ∷ []) (lost_in (ts ++ t ∷ [])) ≡ s.outcome ∷ (outcomes_in ts ++ DiskFault ∷ [])
    by_new go [] rest = ap (λ (l : List Outcome). s.outcome ∷ l) (go rest)
    by_new go (entry ∷ entries) rest = absurd (cc)
