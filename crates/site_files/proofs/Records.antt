-- The records that a reader has left, one read after the other.
use Rattle.std.proofs.Common.{◌≡◌, ℕ, zero, suc, ◌<◌, ◌≤◌, ◌==◌, ◌&&◌, List, [], ◌∷◌, length, Bool, true, false, cond, Option, Some, None, refl, sym, ◌∙◌, subst, inl, inr, arith, Bor}
use Rattle.std.proofs.lemmas.Bool.{cases_Bool, false≢true}
use Rattle.csv.specs.Machine.{Read, next_record, step, in_field, start_field, start_record, after_end, ends_at_end, ends_with, is_byte, line_feed, is_end}
use Rattle.csv.specs.Reading.{NextIs, ReadsNext, ReadRecord, Ready, default_config, records_from, records_next}
use Rattle.csv.specs.declared.parser.Config.{Config}
use Rattle.csv.specs.declared.parser.Terminator.{Terminator}
use Rattle.csv.specs.declared.parser.Terminator.TheVariants as term
use Rattle.csv.specs.declared.parser.State.{State}
use Rattle.csv.specs.declared.parser.State.TheVariants as st
use Rattle.csv.specs.declared.parser.Action.{Action}
use Rattle.csv.specs.declared.parser.Action.TheVariants as act
use Rattle.csv.specs.declared.reader.Reader.{Reader}
use Rattle.site_files.specs.Left.{HasLeft, TakesNext}

-- a step that ends a record leaves a state between records
record Stops (r : State × Action) : Type 0 where
  stops : is_end r.1 ≡ true → ends_at_end r.0 ≡ false

goes_on : (s : State) (a : Action) → is_end a ≡ false → Stops (s, a)
goes_on s a e = record { stops = λ h. absurd (false≢true (sym e ∙ h)) }

ends : (s : State) (a : Action) → ends_at_end s ≡ false → Stops (s, a)
ends s a e = record { stops = λ _. e }

stops_if : (b : Bool) (x y : State × Action) → Stops x → Stops y → Stops (cond b x y)
stops_if true x y p q = p
stops_if false x y p q = q

between_if : (b : Bool) (x y : State) → ends_at_end x ≡ false → ends_at_end y ≡ false → ends_at_end (cond b x y) ≡ false
between_if true x y p q = p
between_if false x y p q = q

after_end_between : (t : Terminator) (c : ℕ) → ends_at_end (after_end t c) ≡ false
after_end_between term.CRLF c = between_if (c == 13) _ _ refl refl
after_end_between (term.Any t) c = refl

in_field_stops : (cfg : Config) (c : ℕ) → Stops (in_field cfg c)
in_field_stops cfg c =
    stops_if (c == cfg.delimiter) (st.StartField, act.EndField) _ (goes_on _ _ refl)
    (stops_if (ends_with cfg.terminator c) (after_end cfg.terminator c, act.EndRecord) (st.InField, act.Copy) (ends _ _ (after_end_between cfg.terminator c)) (goes_on _ _ refl))

start_field_stops : (cfg : Config) (c : ℕ) → Stops (start_field cfg c)
start_field_stops cfg c = stops_if (cfg.quoting && (c == cfg.quote)) (st.InQuoted, act.Skip) _ (goes_on _ _ refl) (in_field_stops cfg c)

start_record_stops : (cfg : Config) (c : ℕ) → Stops (start_record cfg c)
start_record_stops cfg c =
    stops_if (ends_with cfg.terminator c) (st.StartRecord, act.Skip) _ (goes_on _ _ refl)
    (stops_if (is_byte cfg.comment c) (st.InComment, act.Skip) _ (goes_on _ _ refl) (start_field_stops cfg c))

step_stops : (cfg : Config) (s : State) (c : ℕ) → Stops (step cfg s c)
step_stops cfg st.StartRecord c = start_record_stops cfg c
step_stops cfg st.StartField c = start_field_stops cfg c
step_stops cfg st.InField c = in_field_stops cfg c
step_stops cfg st.InQuoted c =
    stops_if (cfg.quoting && (c == cfg.quote)) (st.AfterQuote, act.Skip) _ (goes_on _ _ refl)
    (stops_if (cfg.quoting && is_byte cfg.escape c) (st.InEscape, act.Skip) (st.InQuoted, act.Copy) (goes_on _ _ refl) (goes_on _ _ refl))
step_stops cfg st.InEscape c = goes_on _ _ refl
step_stops cfg st.AfterQuote c = stops_if (cfg.quoting && cfg.double_quote && (c == cfg.quote)) (st.InQuoted, act.Copy) _ (goes_on _ _ refl) (in_field_stops cfg c)
step_stops cfg st.InComment c = stops_if (c == line_feed) (st.StartRecord, act.Skip) (st.InComment, act.Skip) (goes_on _ _ refl) (goes_on _ _ refl)
step_stops cfg st.AfterCr c = stops_if (c == line_feed) (st.StartRecord, act.Skip) _ (goes_on _ _ refl) (start_record_stops cfg c)

-- what a record leaves: no more bytes, and a state between records
abbrev Leaves : ℕ → Read → Type 0
Leaves n p = (length p.2 ≤ n) × (ends_at_end p.1 ≡ false)

some_read : (n : ℕ) (q p : Read) → Leaves n q → Some q ≡ Some p → Leaves n p
some_read n q p h e = let same : q ≡ p = cc in subst (Leaves n) same h

wider : (m n : ℕ) (p : Read) → m ≤ n → Leaves m p → Leaves n p
wider m n p le h = (omega (arith, h.0), h.1)

next_leaves : (cfg : Config) (s : State) (fs : List (List ℕ)) (f : List ℕ) (xs : List ℕ) (p : Read) → next_record cfg s fs f xs ≡ Some p → Leaves (length xs) p
unfolding next_record
next_leaves cfg s fs f [] p e = elim (cases_Bool (ends_at_end s)) [
  | inl ended ↦ some_read 0 _ p (omega arith, refl) (rw ended at e)
  | inr open_ ↦ absurd (let none : None ≡ Some p = rw open_ at e in cc)
]
next_leaves cfg s fs f (c ∷ rest) p e = elim (cases_Bool (is_end (step cfg s c).1)) [
  | inl ended ↦ some_read _ _ p (omega arith, (step_stops cfg s c).stops ended) (rw ended at e)
  | inr open_ ↦ wider (length rest) _ p (omega arith) (next_leaves cfg (step cfg s c).0 _ _ rest p (rw open_ at e))
]

-- from between records, a record takes a byte
next_shorter : (cfg : Config) (s : State) (xs : List ℕ) (p : Read) → ends_at_end s ≡ false → next_record cfg s [] [] xs ≡ Some p → (length p.2 < length xs) × (ends_at_end p.1 ≡ false)
unfolding next_record
next_shorter cfg s [] p between e = absurd (let none : None ≡ Some p = rw between at e in cc)
next_shorter cfg s (c ∷ rest) p between e = elim (cases_Bool (is_end (step cfg s c).1)) [
  | inl ended ↦ let h = some_read (length rest) _ p (omega arith, (step_stops cfg s c).stops ended) (rw ended at e) in (omega (arith, h.0), h.1)
  | inr on ↦ let h = next_leaves cfg (step cfg s c).0 _ _ rest p (rw on at e) in (omega (arith, h.0), h.1)
]

-- ---- one read of a reader

abbrev Rest : Option (List ℕ) → State → List (List (List ℕ)) → Type 0
Rest k s recs = (z : List ℕ) × (k ≡ Some z) × (m : ℕ) × (length z < m) × (ends_at_end s ≡ false) × (recs ≡ records_from default_config m s z)

taken : (s : State) (y : List ℕ) (m : ℕ) (z : List ℕ) (found : Bool) (f : List (List ℕ)) (s2 : State) (o : Option Read) → ends_at_end s ≡ false → length y < suc m
    → next_record default_config s [] [] y ≡ o → NextIs o found f s2 z → TakesNext found f (records_next (records_from default_config m) o) (Rest (Some z) s2)
taken s y m z found f s2 None between enough is h = rw h tt
taken s y m z found f s2 (Some p) between enough is h =
    let short = next_shorter default_config s y p between is in
    let fewer : length z < m = rw h.3 (omega (arith, short.0)) in
    let still : ends_at_end s2 ≡ false = rw h.2 short.1 in
    rw h.0 (h.1, (z, refl, m, fewer, still, rw (h.2, h.3) refl))

take_go : (s : State) (y : List ℕ) (n : ℕ) (k : Option (List ℕ)) (found : Bool) (f : List (List ℕ)) (s2 : State) → ends_at_end s ≡ false → length y < n
    → ReadsNext default_config s (Some y) k found f s2 → TakesNext found f (records_from default_config n s y) (Rest k s2)
unfolding records_from
take_go s y n None found f s2 between enough h = absurd h
take_go s y zero (Some z) found f s2 between enough h = absurd (omega arith)
take_go s y (suc m) (Some z) found f s2 between enough h = taken s y m z found f s2 _ between enough refl h

takes_weaker : (found : Bool) (f : List (List ℕ)) (recs : List (List (List ℕ))) (P Q : List (List (List ℕ)) → Type 0) → ((rs : List (List (List ℕ))) → P rs → Q rs) → TakesNext found f recs P → TakesNext found f recs Q
takes_weaker true f [] P Q w h = h
takes_weaker true f (r ∷ rs) P Q w h = (h.0, w rs h.1)
takes_weaker false f [] P Q w h = h
takes_weaker false f (r ∷ rs) P Q w h = h

-- a read takes the first record that is left
pub take_next : (a b : Reader (Bor (List ℕ))) (found : Bool) (f : List (List ℕ)) (recs : List (List (List ℕ))) → HasLeft a recs → ReadRecord (λ (s : Bor (List ℕ)). Some s.now) a b found f → Ready b
    → TakesNext found f recs (HasLeft b)
take_next a b found f recs h r ready =
    let reads = rw (h.config, h.source) at r.0 in
    let go = take_go a.state h.rest h.turns _ found f b.state h.between h.enough reads in
    rw h.are (takes_weaker found f _ _ _ (λ rs rest. record {
      plain = r.3 ∙ h.plain;
      ready = ready;
      config = r.2 ∙ h.config;
      rest = rest.0;
      source = rw r.1 rest.1;
      turns = rest.2;
      enough = rest.3;
      between = rest.4;
      are = rest.5;
    }) go)
