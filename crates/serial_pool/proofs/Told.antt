-- Draws from words that are known, and what any draw holds.
use Rattle.std.proofs.Common.{◌≡◌, ◌≤◌, ◌<◌, ℕ, ◌+◌, ◌-◌, List, ◌++◌, length, take, arith, sym, ◌∙◌, ap, subst, Bool, true, false, cond, [], ◌∷◌, drop, min, refl, ⊎_elim, length-append, length-take, nat_lt, Option, Some, None, Result, Ok, Err}
use Rattle.std.specs.Prelude.{All, count_by}
use Rattle.std.specs.List.{enumerate_from}
use Rattle.std.specs.Io.KnownBytes.{Consumes}
use Rattle.gs1_keys.specs.declared.form.SerialForm.{SerialForm}
use Rattle.gs1_keys.specs.Forms.{AreDistinct, AreNew, is_in_form}
use Rattle.outside.specs.Devices.{Takes}
use Rattle.serial_pool.specs.declared.fault.DrawFault.{DrawFault}
use Rattle.serial_pool.specs.declared.fault.DrawFault.TheVariants.{PoolThin, WordsSpent, WordsFault, Memory}
use Rattle.serial_pool.specs.Ends.{DrawEnds, DrawsFrom}
use Rattle.std.proofs.lemmas.Bool.{cases_lt, lt-ltb, le-ltb}
use Rattle.std.proofs.Math.Seq.{take-append-add}
use Rattle.std.proofs.lemmas.List.{take_at, take_all, take-append-le, take-append-drop, drop_at}
use Rattle.std.proofs.lemmas.List.Elements.{All-weaker}
use Rattle.std.proofs.lemmas.List.Sums.{sum_by-cons}
use Rattle.gs1_keys.specs.Keys.{IsText}
use Rattle.serial_pool.specs.Drawing.{fresh, drawn, found, used, word_limit, IsDraw, IsSpent}
use Rattle.serial_pool.specs.Held.{PlanView}
use Rattle.gs1_keys.specs.Forms.{is_form}
use Rattle.gs1_keys.proofs.Forming.{IsText-form}
use Rattle.serial_pool.proofs.Fresh.{fresh-append, fresh-once, fresh-unknown, fresh-serials}
use Rattle.serial_pool.proofs.Holding.{distinct_end}

pub first_drawn : (had : List (List ℕ)) (form : SerialForm) (count : ℕ) (taken more : List ℕ) (serials : List (List ℕ)) → IsDraw had form count taken serials → drawn (taken ++ more) had form count ≡ serials
first_drawn had form count taken more serials d =
    let n = word_limit count - length taken in
    let size : word_limit count ≡ length taken + n = omega (arith, d.within) in
    let words : take (word_limit count) (taken ++ more) ≡ taken ++ take n more = ap (λ k. take k (taken ++ more)) size ∙ take-append-add taken more n in
    let rest = fresh (had ++ fresh had form taken) form (take n more) in
    ap (λ (ws : List ℕ). take count (fresh had form ws)) words
    ∙ ap (take count) (fresh-append had form taken (take n more) ∙ ap (λ (xs : List (List ℕ)). xs ++ rest) d.made)
    ∙ take_at serials rest count d.enough

pub all_spent : (had : List (List ℕ)) (form : SerialForm) (count : ℕ) (taken more : List ℕ) (n : ℕ) → IsSpent had form count taken n → found (taken ++ more) had form count ≡ n
all_spent had form count taken more n s =
    let few : length (fresh had form taken) ≤ count = omega (arith, s.counted, s.few) in
    ap (λ (ws : List ℕ). length (take count (fresh had form ws))) (take_at taken more (word_limit count) s.all) ∙ ap length (take_all count (fresh had form taken) few) ∙ s.counted

head : (t : ℕ → Bool) (i w : ℕ) (words : List ℕ) → count_by (λ p. t p.0) (enumerate_from i (w ∷ words)) ≡ cond (t i) 1 0 + count_by (λ p. t p.0) (enumerate_from (i + 1) words)
head t i w words = sum_by-cons (λ (p : ℕ × ℕ). cond (t p.0) 1 0) (i, w) (enumerate_from (i + 1) words)

-- the test holds of the places below m alone
count_below : (t : ℕ → Bool) (i m : ℕ) (words : List ℕ) → ((k : ℕ) → k < m → t k ≡ true) → ((k : ℕ) → m ≤ k → t k ≡ false) → count_by (λ p. t p.0) (enumerate_from i words) ≡ min (length words) (m - i)
count_below t i m [] below past = omega arith
count_below t i m (w ∷ words) below past = ⊎_elim
    (λ lt. head t i w words ∙ ap (λ b. cond b 1 0 + count_by (λ p. t p.0) (enumerate_from (i + 1) words)) (below i lt) ∙ (let rest = count_below t (i + 1) m words below past in omega (arith, rest)))
    (λ ge. head t i w words ∙ ap (λ b. cond b 1 0 + count_by (λ p. t p.0) (enumerate_from (i + 1) words)) (past i ge) ∙ (let rest = count_below t (i + 1) m words below past in omega (arith, rest)))
    (cases_lt i m)

count_all : (t : ℕ → Bool) (i m : ℕ) (words : List ℕ) → i + length words ≤ m → ((k : ℕ) → k < m → t k ≡ true) → count_by (λ p. t p.0) (enumerate_from i words) ≡ length words
count_all t i m [] size below = refl
count_all t i m (w ∷ words) size below = head t i w words ∙ ap (λ b. cond b 1 0 + count_by (λ p. t p.0) (enumerate_from (i + 1) words)) (below i (omega arith)) ∙ (let rest = count_all t (i + 1) m words (omega arith) below in omega (arith, rest))

-- a front of the words
front_of : (taken more : List ℕ) (k : ℕ) → k ≤ length taken → take k (taken ++ more) ≡ take k taken
front_of taken more k le = rw take-append-le refl

pub first_used : (had : List (List ℕ)) (form : SerialForm) (count : ℕ) (taken more : List ℕ) (serials : List (List ℕ)) → IsDraw had form count taken serials → used (taken ++ more) had form count ≡ length taken
first_used had form count taken more serials d =
    let short : ℕ → Bool = λ k. nat_lt (length (fresh had form (take k (taken ++ more)))) count in
    let words : List ℕ = take (word_limit count) (taken ++ more) in
    let below : (k : ℕ) → k < length taken → short k ≡ true = λ k lt.
    lt-ltb (length (fresh had form (take k (taken ++ more)))) count (subst (λ (ws : List ℕ). length (fresh had form ws) < count) (sym (front_of taken more k (omega arith))) (d.needed k lt)) in
    let past : (k : ℕ) → length taken ≤ k → short k ≡ false = λ k le.
    let rest : List ℕ = take (k - length taken) more in
    let front : take k (taken ++ more) ≡ taken ++ rest = ap (λ n. take n (taken ++ more)) (let sum : k ≡ length taken + (k - length taken) = omega arith in sum) ∙ take-append-add taken more (k - length taken) in
    let all : fresh had form (take k (taken ++ more)) ≡ serials ++ fresh (had ++ fresh had form taken) form rest = ap (fresh had form) front ∙ fresh-append had form taken rest ∙ ap (λ (xs : List (List ℕ)). xs ++ fresh (had ++ fresh had form taken) form rest) d.made in
    le-ltb (length (fresh had form (take k (taken ++ more)))) count (omega (arith, ap length all, length-append serials (fresh (had ++ fresh had form taken) form rest), d.enough)) in
    let size : length words ≡ min (word_limit count) (length (taken ++ more)) = length-take (word_limit count) (taken ++ more) in
    count_below short 0 (length taken) words below past ∙ omega (arith, size, length-append taken more, d.within)

pub all_used : (had : List (List ℕ)) (form : SerialForm) (count : ℕ) (taken more : List ℕ) (few : ℕ) → IsSpent had form count taken few → used (taken ++ more) had form count ≡ word_limit count
all_used had form count taken more few s =
    let short : ℕ → Bool = λ k. nat_lt (length (fresh had form (take k (taken ++ more)))) count in
    let words : List ℕ = take (word_limit count) (taken ++ more) in
    let size : length words ≡ word_limit count = ap length (take_at taken more (word_limit count) s.all) ∙ s.all in
    let below : (k : ℕ) → k < word_limit count → short k ≡ true = λ k lt.
    let front : take k (taken ++ more) ≡ take k taken = front_of taken more k (omega (arith, s.all)) in
    let whole : fresh had form taken ≡ fresh had form (take k taken) ++ fresh (had ++ fresh had form (take k taken)) form (drop k taken) = ap (fresh had form) (sym (take-append-drop k taken)) ∙ fresh-append had form (take k taken) (drop k taken) in
    lt-ltb (length (fresh had form (take k (taken ++ more)))) count
    (omega (arith, ap (λ (ws : List ℕ). length (fresh had form ws)) front, ap length whole, length-append (fresh had form (take k taken)) (fresh (had ++ fresh had form (take k taken)) form (drop k taken)), s.counted, s.few)) in
    count_all short 0 (word_limit count) words (omega (arith, size)) below ∙ size

-- what words give is new, told or not
pub draws_new : (had : List (List ℕ)) (form : SerialForm) (count : ℕ) (taken : List ℕ) (serials : List (List ℕ)) → AreDistinct had → IsDraw had form count taken serials → AreNew had form serials
draws_new had form count taken serials once d =
    subst (AreNew had form) d.made (record {
      formed = fresh-serials had form taken;
      unknown = fresh-unknown had form taken;
      distinct = distinct_end had (fresh had form taken) (fresh-once had form taken once);
    })

pub draws_once : (had : List (List ℕ)) (form : SerialForm) (count : ℕ) (taken : List ℕ) (serials : List (List ℕ)) → AreDistinct had → IsDraw had form count taken serials → AreDistinct (had ++ serials)
draws_once had form count taken serials once d = subst (λ (xs : List (List ℕ)). AreDistinct (had ++ xs)) d.made (fresh-once had form taken once)

pub draws_texts : (had : List (List ℕ)) (form : SerialForm) (serials : List (List ℕ)) → is_form form ≡ true → AreNew had form serials → All IsText serials
draws_texts had form serials proper new = All-weaker (λ s. is_in_form form s ≡ true) IsText (λ s e. IsText-form form s proper e) serials new.formed

-- what is left where words were told
left_told : (left : List ℕ) (new : Option (List ℕ)) (taken : List ℕ) → Consumes (Some left) new taken → (more : List ℕ) × (left ≡ taken ++ more) × (new ≡ Some more)
left_told left None taken e = absurd e
left_told left (Some more) taken e = (more, e, refl)

pub draws_told : (had : List (List ℕ)) (form : SerialForm) (count : ℕ) (left : List ℕ) (new : Option (List ℕ)) (result : Result PlanView DrawFault)
    → Takes (Some left) new (λ taken. DrawEnds had form count taken result) → DrawsFrom had form count left new result
draws_told had form count left new (Ok plan) (taken, from, ends) =
    let p = left_told left new taken from in
    let d = ends.1 in
    let words = p.1 in
    let number : used left had form count ≡ length taken = ap (λ (ws : List ℕ). used ws had form count) words ∙ first_used had form count taken p.0 plan.serials d in (
      sym (ap (λ (ws : List ℕ). drawn ws had form count) words ∙ first_drawn had form count taken p.0 plan.serials d),
      p.2 ∙ ap Some (sym (ap (λ n. drop n left) number ∙ ap (drop (length taken)) words ∙ drop_at taken p.0 (length taken) refl)),
    )
draws_told had form count left new (Err (PoolThin have asked half)) (taken, from, ends) =
    let p = left_told left new taken from in p.2 ∙ ap Some (sym (p.1 ∙ ap (λ (ws : List ℕ). ws ++ p.0) ends.1))
draws_told had form count left new (Err (WordsSpent few)) (taken, from, ends) =
    let p = left_told left new taken from in
    let s = ends.1 in
    let words = p.1 in (
      sym (ap (λ (ws : List ℕ). found ws had form count) words ∙ all_spent had form count taken p.0 few s),
      s.few,
      p.2 ∙ ap Some (sym (ap (drop (word_limit count)) words ∙ drop_at taken p.0 (word_limit count) s.all)),
    )
draws_told had form count left new (Err WordsFault) (taken, from, ends) = tt
draws_told had form count left new (Err Memory) (taken, from, ends) = tt
