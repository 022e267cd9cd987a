-- A run that goes on: what it has said so far, and the bytes that it knows and hasn't cut into lines.
use Rattle.std.proofs.Common.{◌≡◌, ◌≤◌, ◌<◌, ℕ, ◌+◌, ◌-◌, Bool, true, false, List, [], ◌∷◌, ◌++◌, length, Option, Result, Ok, Err, refl, sym, ap, ◌∙◌, subst, arith, append_assoc, append-nil, inl, inr, cond}
use Rattle.std.specs.Prelude.{not, MatchBool, ⊤}
use Rattle.std.specs.List.{All, flat_map}
use Rattle.std.specs.Io.KnownBytes.{Consumes, Appends, IsAtEnd}
use Rattle.std.proofs.KnownBytes.{Consumes-nil, Consumes-trans, Appends-nil, Appends-trans}
use Rattle.std.proofs.lemmas.List.{length-append, map-append}
use Rattle.std.proofs.lemmas.List.Concat.{flat_map-append}
use Rattle.std.proofs.lemmas.List.Elements.{All-nil, All-push, filter-append}
use Rattle.std.proofs.lemmas.Bool.{false≢true}
use Rattle.deed_words.specs.Setups.{Setup}
use Rattle.site_console.specs.declared.fault.Fault.{Fault}
use Rattle.site_console.specs.declared.fault.Fault.TheVariants.{Read, Write, Memory, InputTooLong}
use Rattle.site_console.specs.Limits.{input_limit}
use Rattle.site_console.specs.Newline.{newline, HasNoNewline}
use Rattle.site_console.specs.Open.{Point}
use Rattle.site_console.specs.Reading.{Reading}
use Rattle.site_console.specs.Lines.{Cuts, ended, is_empty, asked_lines, Gives}
use Rattle.site_console.specs.Puts.{IsPart}
use Rattle.site_console.specs.Answers.{answer_text}
use Rattle.site_console.specs.Script.{Exchange, Exchanges, exchange_text, IsLineEnd, Run, Talk, Script, AnswersWhole, StopsInside, Ended, Carries, Ran}
use Rattle.site_console.specs.Serving.{Serves, ServesOrPasses, Steppings}
use Rattle.site_console.specs.Told.{Told}
use Rattle.site_console.proofs.Counting.{ended_counts}
use Rattle.site_console.proofs.Limit.{limit_told}

pub record Going (site : Setup) (loaded : Point) (left_old left_new : Option (List ℕ)) (old new : Told) (known : List ℕ) (size : ℕ) (point : Point) : Type 0 where
  pub talk : Talk
  pub lines : List (List ℕ)
  pub carries : Carries left_old left_new old new talk
  pub whole : talk.read ≡ flat_map ended lines ++ known
  pub counted : length talk.read ≡ size
  pub each : All HasNoNewline lines
  pub script : Script site loaded lines talk
  pub point_is : talk.point ≡ point

-- at the start
pub start : (site : Setup) (left : Option (List ℕ)) (told : Told) (known : List ℕ) (size : ℕ) (point : Point) → known ≡ [] → size ≡ 0 → Going site point left left told told known size point
start site left told known size point none zero = record {
  talk = record { read = []; put = []; moments = []; words = []; exchanges = []; point = point };
  lines = [];
  carries = record { read = Consumes-nil left; put = Appends-nil told.held; moments = Consumes-nil told.moments; words = Consumes-nil told.words };
  whole = sym none;
  counted = sym zero;
  each = All-nil HasNoNewline;
  script = record { asked = refl; answered = refl; used_moments = refl; used_words = refl; run = refl };
  point_is = refl;
}

-- more was read
pub heard : (site : Setup) (loaded : Point) (left_old left_mid left_new : Option (List ℕ)) (old new : Told) (pending bytes : List ℕ) (size size' : ℕ) (point : Point)
    → Going site loaded left_old left_mid old new pending size point → Consumes left_mid left_new bytes → size' ≡ size + length bytes → Going site loaded left_old left_new old new (pending ++ bytes) size' point
heard site loaded left_old left_mid left_new old new pending bytes size size' point g from more =
    let t = g.talk in
    record {
      talk = record { read = t.read ++ bytes; put = t.put; moments = t.moments; words = t.words; exchanges = t.exchanges; point = t.point };
      lines = g.lines;
      carries = record { read = Consumes-trans left_old left_mid left_new t.read bytes g.carries.read from; put = g.carries.put; moments = g.carries.moments; words = g.carries.words };
      whole = ap (λ (xs : List ℕ). xs ++ bytes) g.whole ∙ append_assoc (flat_map ended g.lines) pending bytes;
      counted = omega (arith, length-append t.read bytes, g.counted, more);
      each = g.each;
      script = record { asked = g.script.asked; answered = g.script.answered; used_moments = g.script.used_moments; used_words = g.script.used_words; run = g.script.run };
      point_is = g.point_is;
    }

-- a line more
ended-push : (lines : List (List ℕ)) (line rest : List ℕ) → flat_map ended lines ++ (line ++ newline ∷ rest) ≡ flat_map ended (lines ++ line ∷ []) ++ rest
ended-push lines line rest = simp (flat_map-append, append_assoc)

asked_lines-push : (lines : List (List ℕ)) (line : List ℕ) → asked_lines (lines ++ line ∷ []) ≡ asked_lines lines ++ (cond (not (is_empty line)) (line ∷ []) [])
asked_lines-push lines line = filter-append (λ line. not (is_empty line)) lines (line ∷ [])

asked_empty : (lines : List (List ℕ)) (line : List ℕ) → is_empty line ≡ true → asked_lines (lines ++ line ∷ []) ≡ asked_lines lines
asked_empty lines line e = asked_lines-push lines line ∙ ap (λ b. asked_lines lines ++ (cond (not b) (line ∷ []) [])) e ∙ append-nil (asked_lines lines)

asked_some : (lines : List (List ℕ)) (line : List ℕ) → is_empty line ≡ false → asked_lines (lines ++ line ∷ []) ≡ asked_lines lines ++ line ∷ []
asked_some lines line e = asked_lines-push lines line ∙ ap (λ b. asked_lines lines ++ (cond (not b) (line ∷ []) [])) e

Run-push : (site : Setup) (old : Point) (xs : List Exchange) (mid : Point) (x : Exchange) (new : Point) → Run site old xs mid → Exchanges site mid x new → Run site old (xs ++ x ∷ []) new
Run-push site old [] mid x new r a = (new, subst (λ (p : Point). Exchanges site p x new) r a, refl)
Run-push site old (y ∷ ys) mid x new r a = (r.0, r.1, Run-push site r.0 ys mid x new r.2 a)

-- an empty line is passed over
pub script_empty : (site : Setup) (loaded : Point) (lines : List (List ℕ)) (line : List ℕ) (talk : Talk) → is_empty line ≡ true → Script site loaded lines talk → Script site loaded (lines ++ line ∷ []) talk
script_empty site loaded lines line talk e s = record { asked = s.asked ∙ sym (asked_empty lines line e); answered = s.answered; used_moments = s.used_moments; used_words = s.used_words; run = s.run }

-- what is said with one exchange more
abbrev pub with_exchange : Setup → Talk → Exchange → Point → Talk
with_exchange site t x new = record { read = t.read; put = t.put ++ exchange_text site x; moments = t.moments ++ x.taken.moments; words = t.words ++ x.taken.words; exchanges = t.exchanges ++ x ∷ []; point = new }

-- the texts or words of one exchange more
joined : (f : Exchange → List ℕ) (xs : List Exchange) (x : Exchange) (all : List ℕ) → all ≡ flat_map f xs → all ++ f x ≡ flat_map f (xs ++ x ∷ [])
joined f xs x all is = ap (λ (ys : List ℕ). ys ++ f x) is ∙ sym (flat_map-append f xs (x ∷ []) ∙ ap (λ (ys : List ℕ). flat_map f xs ++ ys) (append-nil (f x)))

-- a line is answered
pub script_more : (site : Setup) (loaded : Point) (lines : List (List ℕ)) (line : List ℕ) (talk : Talk) (x : Exchange) (new : Point) → is_empty line ≡ false → x.line ≡ line → Exchanges site talk.point x new
    → Script site loaded lines talk → Script site loaded (lines ++ line ∷ []) (with_exchange site talk x new)
script_more site loaded lines line t x new e same step s = record {
  asked = map-append (λ (y : Exchange). y.line) t.exchanges (x ∷ []) ∙ ap (λ (ls : List (List ℕ)). ls ++ x.line ∷ []) s.asked ∙ ap (λ (l : List ℕ). asked_lines lines ++ l ∷ []) same ∙ sym (asked_some lines line e);
  answered = joined (exchange_text site) t.exchanges x t.put s.answered;
  used_moments = joined (λ (y : Exchange). y.taken.moments) t.exchanges x t.moments s.used_moments;
  used_words = joined (λ (y : Exchange). y.taken.words) t.exchanges x t.words s.used_words;
  run = Run-push site loaded t.exchanges t.point x new s.run step;
}

-- what was told, with one exchange more, of which this was put
carries_step : (site : Setup) (left_old left_new : Option (List ℕ)) (old mid new : Told) (t : Talk) (text put : List ℕ) (point new_point : Point) (x : Exchange) (exchanges : List Exchange)
    → Carries left_old left_new old mid t → Steppings site point text mid new x new_point → Appends mid.held new.held put
    → Carries left_old left_new old new (record { read = t.read; put = t.put ++ put; moments = t.moments ++ x.taken.moments; words = t.words ++ x.taken.words; exchanges = exchanges; point = new_point })
carries_step site left_old left_new old mid new t text put point new_point x exchanges c s held = record {
  read = c.read;
  put = Appends-trans old.held mid.held new.held t.put put c.put held;
  moments = Consumes-trans old.moments mid.moments new.moments t.moments x.taken.moments c.moments s.moments;
  words = Consumes-trans old.words mid.words new.words t.words x.taken.words c.words s.words;
}

by_cases : (b : Bool) (P Q R : Type 0) → MatchBool b P Q → (b ≡ true → P → R) → (b ≡ false → Q → R) → R
by_cases true P Q R m f h = f refl m
by_cases false P Q R m f h = h refl m

-- the next line was passed over
passed : (site : Setup) (loaded : Point) (left_old left_new : Option (List ℕ)) (old mid new : Told) (text known rest : List ℕ) (size : ℕ) (point point' : Point)
    → Going site loaded left_old left_new old mid known size point → known ≡ text ++ newline ∷ rest → HasNoNewline text → is_empty text ≡ true → new ≡ mid → point' ≡ point → Going site loaded left_old left_new old new rest size point'
passed site loaded left_old left_new old mid new text known rest size point point' g cut one empty same kept = record {
  talk = g.talk;
  lines = g.lines ++ text ∷ [];
  carries = subst (λ (told : Told). Carries left_old left_new old told g.talk) (sym same) g.carries;
  whole = g.whole ∙ ap (λ (xs : List ℕ). flat_map ended g.lines ++ xs) cut ∙ ended-push g.lines text rest;
  counted = g.counted;
  each = All-push HasNoNewline g.lines text g.each one;
  script = script_empty site loaded g.lines text g.talk empty g.script;
  point_is = g.point_is ∙ sym kept;
}

-- the next line was answered
answered : (site : Setup) (loaded : Point) (T : Type 0) (done : T) (left_old left_new : Option (List ℕ)) (old mid new : Told) (text known rest : List ℕ) (size : ℕ) (point point' : Point)
    → Going site loaded left_old left_new old mid known size point → known ≡ text ++ newline ∷ rest → HasNoNewline text → is_empty text ≡ false
    → Serves {T = T} site point text mid new (Ok done) point' → Going site loaded left_old left_new old new rest size point'
answered site loaded T done left_old left_new old mid new text known rest size point point' g cut one some s =
    let t = g.talk in
    let x = s.exchange in
    record {
      talk = with_exchange site t x point';
      lines = g.lines ++ text ∷ [];
      carries = carries_step site left_old left_new old mid new t text (exchange_text site x) point point' x (t.exchanges ++ x ∷ []) g.carries s.stepped (subst (Appends mid.held new.held) s.answered s.held);
      whole = g.whole ∙ ap (λ (xs : List ℕ). flat_map ended g.lines ++ xs) cut ∙ ended-push g.lines text rest;
      counted = g.counted;
      each = All-push HasNoNewline g.lines text g.each one;
      script = script_more site loaded g.lines text t x point' some s.stepped.line (subst (λ (p : Point). Exchanges site p x point') (sym g.point_is) s.stepped.step) g.script;
      point_is = refl;
    }

-- the next line was dealt with
pub went_on : (site : Setup) (loaded : Point) (T : Type 0) (done : T) (left_old left_new : Option (List ℕ)) (old mid new : Told) (text known rest : List ℕ) (size : ℕ) (point point' : Point)
    → Going site loaded left_old left_new old mid known size point → known ≡ text ++ newline ∷ rest → HasNoNewline text
    → ServesOrPasses {T = T} site point text mid new (Ok done) point' → Going site loaded left_old left_new old new rest size point'
went_on site loaded T done left_old left_new old mid new text known rest size point point' g cut one s =
    by_cases (is_empty text) _ _ (Going site loaded left_old left_new old new rest size point') s
    (λ empty p. passed site loaded left_old left_new old mid new text known rest size point point' g cut one empty p.told p.same)
    (λ some p. answered site loaded T done left_old left_new old mid new text known rest size point point' g cut one some p)

-- all that a run says at its end
ran : (site : Setup) (loaded : Point) (T : Type 0) (left_old left_new : Option (List ℕ)) (old new : Told) (point : Point) (result : Result T Fault) (talk : Talk)
    → Carries left_old left_new old new talk → talk.point ≡ point → length talk.read ≤ input_limit → Ended site loaded result (IsAtEnd left_new) talk → (talk : Talk) × Ran {T = T} site loaded left_old left_new old new result point talk
ran site loaded T left_old left_new old new point result talk carries is within ended = (
  talk,
  record {
    carries = carries;
    ended = ended;
    limit = limit_told T site loaded result (IsAtEnd left_new) talk ended;
    within = within;
    counted = ended_counts T site loaded result (IsAtEnd left_new) talk point is ended;
    point_is = is;
  },
)

-- all whole lines are answered, and what is known has no newline
whole : (site : Setup) (loaded : Point) (left_old left_new : Option (List ℕ)) (old new : Told) (known : List ℕ) (size : ℕ) (point : Point) → (g : Going site loaded left_old left_new old new known size point) → HasNoNewline known → AnswersWhole site loaded g.talk
whole site loaded left_old left_new old new known size point g none =
    record { lines = g.lines; rest = known; cuts = record { whole = g.whole; each = g.each; last = none }; script = g.script }

pub read_failed : (site : Setup) (loaded : Point) (T : Type 0) (left_old left_new : Option (List ℕ)) (old new : Told) (known : List ℕ) (size : ℕ) (point : Point) → Going site loaded left_old left_new old new known size point → HasNoNewline known → size < input_limit
    → (talk : Talk) × Ran {T = T} site loaded left_old left_new old new (Err Read) point talk
read_failed site loaded T left_old left_new old new known size point g none room =
    ran site loaded T left_old left_new old new point (Err Read) g.talk g.carries g.point_is (omega (arith, g.counted)) (whole site loaded left_old left_new old new known size point g none, omega (arith, g.counted))

pub too_long : (site : Setup) (loaded : Point) (T : Type 0) (left_old left_new : Option (List ℕ)) (old new : Told) (known : List ℕ) (size : ℕ) (point : Point) → Going site loaded left_old left_new old new known size point → HasNoNewline known → size ≡ input_limit
    → (talk : Talk) × Ran {T = T} site loaded left_old left_new old new (Err InputTooLong) point talk
too_long site loaded T left_old left_new old new known size point g none full =
    ran site loaded T left_old left_new old new point (Err InputTooLong) g.talk g.carries g.point_is (omega (arith, g.counted)) (whole site loaded left_old left_new old new known size point g none, g.counted ∙ full)

pub no_memory : (site : Setup) (loaded : Point) (T : Type 0) (left_old left_new : Option (List ℕ)) (old new : Told) (known : List ℕ) (size : ℕ) (point : Point) → Going site loaded left_old left_new old new known size point → size ≤ input_limit
    → (talk : Talk) × Ran {T = T} site loaded left_old left_new old new (Err Memory) point talk
no_memory site loaded T left_old left_new old new known size point g within =
    ran site loaded T left_old left_new old new point (Err Memory) g.talk g.carries g.point_is (omega (arith, g.counted)) (inl (record { lines = g.lines; more = known; whole = g.whole; each = g.each; script = g.script }))

-- the last line, which has no newline, was passed over or answered
pub finished : (site : Setup) (loaded : Point) (T : Type 0) (done : T) (left_old left_new : Option (List ℕ)) (old mid new : Told) (text known : List ℕ) (size : ℕ) (point point' : Point)
    → Going site loaded left_old left_new old mid known size point → known ≡ text → HasNoNewline text → size < input_limit → IsAtEnd left_new
    → ServesOrPasses {T = T} site point text mid new (Ok done) point' → (talk : Talk) × Ran {T = T} site loaded left_old left_new old new (Ok done) point' talk
finished site loaded T done left_old left_new old mid new text known size point point' g cut one room end s =
    let t = g.talk in
    let cuts : Cuts t.read g.lines text = record { whole = g.whole ∙ ap (λ (xs : List ℕ). flat_map ended g.lines ++ xs) cut; each = g.each; last = one } in
    by_cases (is_empty text) _ _ ((talk : Talk) × Ran {T = T} site loaded left_old left_new old new (Ok done) point' talk) s
    (λ empty p. ran site loaded T left_old left_new old new point' (Ok done) t (subst (λ (told : Told). Carries left_old left_new old told t) (sym p.told) g.carries) (g.point_is ∙ sym p.same) (omega (arith, g.counted))
    (record { lines = g.lines; rest = text; cuts = cuts; script = script_empty site loaded g.lines text t empty g.script }, omega (arith, g.counted), end))
    (λ some p. ran site loaded T left_old left_new old new point' (Ok done) (with_exchange site t p.exchange point')
    (carries_step site left_old left_new old mid new t text (exchange_text site p.exchange) point point' p.exchange (t.exchanges ++ p.exchange ∷ []) g.carries p.stepped (subst (Appends mid.held new.held) p.answered p.held)) refl (omega (arith, g.counted)) (
      record {
        lines = g.lines;
        rest = text;
        cuts = cuts;
        script = script_more site loaded g.lines text t p.exchange point' some p.stepped.line (subst (λ (h : Point). Exchanges site h p.exchange point') (sym g.point_is) p.stepped.step) g.script;
      },
      omega (arith, g.counted),
      end,
    ))

counted_end : (more : List ℕ) (at_end : Type 0) (n m : ℕ) → n ≡ m → IsLineEnd (at_end × (m < input_limit)) more → IsLineEnd (at_end × (n < input_limit)) more
counted_end [] at_end n m e ends = let room = ends.1 in (ends.0, omega (arith, room, e))
counted_end (b ∷ bs) at_end n m e ends = ends

-- what is said with a step more, of whose answer this was put
abbrev pub with_part : Talk → Exchange → List ℕ → Point → Talk
with_part t x put new = record { read = t.read; put = t.put ++ put; moments = t.moments ++ x.taken.moments; words = t.words ++ x.taken.words; exchanges = t.exchanges; point = new }

-- the next line took its step, and its answer wasn't put whole
stopped : (site : Setup) (loaded : Point) (at_end : Type 0) (T : Type 0) (fault : Fault) (left_old left_new : Option (List ℕ)) (old mid new : Told) (text known more : List ℕ) (size : ℕ) (point point' : Point)
    → (g : Going site loaded left_old left_new old mid known size point) → known ≡ text ++ more → IsLineEnd (at_end × (size < input_limit)) more → is_empty text ≡ false → HasNoNewline text
    → (s : Serves {T = T} site point text mid new (Err fault) point') → IsPart s.put (exchange_text site s.exchange)
    → StopsInside site loaded at_end (with_part g.talk s.exchange s.put point') s.put
stopped site loaded at_end T fault left_old left_new old mid new text known more size point point' g cut ends some one s short =
    let same : text ≡ s.exchange.line = sym s.stepped.line in
    record {
      front = g.talk;
      lines = g.lines;
      next = s.exchange;
      more = more;
      whole = g.whole ∙ ap (λ (xs : List ℕ). flat_map ended g.lines ++ xs) (cut ∙ ap (λ (xs : List ℕ). xs ++ more) same);
      each = g.each;
      one = subst HasNoNewline same one;
      ends = counted_end more at_end (length g.talk.read) size g.counted ends;
      asked = subst (λ (xs : List ℕ). is_empty xs ≡ false) same some;
      script = g.script;
      step = subst (λ (p : Point). Exchanges site p s.exchange point') (sym g.point_is) s.stepped.step;
      exchanges = refl;
      used_moments = refl;
      used_words = refl;
      put = refl;
      short = short;
    }

-- the next line's answer couldn't be printed or put
served_in_part : (site : Setup) (loaded : Point) (T : Type 0) (fault : Fault) (left_old left_new : Option (List ℕ)) (old mid new : Told) (text known more : List ℕ) (size : ℕ) (point point' : Point)
    → Going site loaded left_old left_new old mid known size point → size ≤ input_limit → known ≡ text ++ more → IsLineEnd (IsAtEnd left_new × (size < input_limit)) more → is_empty text ≡ false → HasNoNewline text
    → Serves {T = T} site point text mid new (Err fault) point' → (talk : Talk) × Ran {T = T} site loaded left_old left_new old new (Err fault) point' talk
served_in_part site loaded T Write left_old left_new old mid new text known more size point point' g within cut ends some one s =
    ran site loaded T left_old left_new old new point' (Err Write) (with_part g.talk s.exchange s.put point') (carries_step site left_old left_new old mid new g.talk text s.put point point' s.exchange g.talk.exchanges g.carries s.stepped s.held) refl (omega (arith, g.counted))
    (s.put, stopped site loaded (IsAtEnd left_new) T Write left_old left_new old mid new text known more size point point' g cut ends some one s s.answered)
served_in_part site loaded T Memory left_old left_new old mid new text known more size point point' g within cut ends some one s =
    let none : IsPart [] (exchange_text site s.exchange) = record { more = exchange_text site s.exchange; some = omega (arith, length-append (answer_text site s.exchange.answer) (newline ∷ [])); whole = refl } in
    let part = subst (λ (xs : List ℕ). IsPart xs (exchange_text site s.exchange)) (sym s.answered) none in
    ran site loaded T left_old left_new old new point' (Err Memory) (with_part g.talk s.exchange s.put point') (carries_step site left_old left_new old mid new g.talk text s.put point point' s.exchange g.talk.exchanges g.carries s.stepped s.held) refl (omega (arith, g.counted))
    (inr (subst (λ (xs : List ℕ). StopsInside site loaded (IsAtEnd left_new) (with_part g.talk s.exchange s.put point') xs) s.answered (stopped site loaded (IsAtEnd left_new) T Memory left_old left_new old mid new text known more size point point' g cut ends some one s part)))
served_in_part site loaded T Read left_old left_new old mid new text known more size point point' g within cut ends some one s = absurd s.answered
served_in_part site loaded T InputTooLong left_old left_new old mid new text known more size point point' g within cut ends some one s = absurd s.answered

pub gave_up : (site : Setup) (loaded : Point) (T : Type 0) (fault : Fault) (left_old left_new : Option (List ℕ)) (old mid new : Told) (text known more : List ℕ) (size : ℕ) (point point' : Point)
    → Going site loaded left_old left_new old mid known size point → size ≤ input_limit → known ≡ text ++ more → IsLineEnd (IsAtEnd left_new × (size < input_limit)) more → HasNoNewline text
    → ServesOrPasses {T = T} site point text mid new (Err fault) point' → (talk : Talk) × Ran {T = T} site loaded left_old left_new old new (Err fault) point' talk
gave_up site loaded T fault left_old left_new old mid new text known more size point point' g within cut ends one s =
    by_cases (is_empty text) _ _ ((talk : Talk) × Ran {T = T} site loaded left_old left_new old new (Err fault) point' talk) s
    (λ empty p. absurd (false≢true p.ok))
    (λ some p. served_in_part site loaded T fault left_old left_new old mid new text known more size point point' g within cut ends some one p)

-- the next line couldn't be read
pub next_failed : (site : Setup) (loaded : Point) (T : Type 0) (fault : Fault) (left_old left_new : Option (List ℕ)) (old new : Told) (known : List ℕ) (reading : Reading) (at_end : Type 0) (point : Point)
    → Going site loaded left_old left_new old new known reading.taken point → reading.taken ≤ input_limit → Gives known (Err fault) reading at_end → (talk : Talk) × Ran {T = T} site loaded left_old left_new old new (Err fault) point talk
next_failed site loaded T Read left_old left_new old new known reading at_end point g within gives = read_failed site loaded T left_old left_new old new known reading.taken point g gives.0 gives.1
next_failed site loaded T InputTooLong left_old left_new old new known reading at_end point g within gives = too_long site loaded T left_old left_new old new known reading.taken point g gives.0 gives.1
next_failed site loaded T Memory left_old left_new old new known reading at_end point g within gives = no_memory site loaded T left_old left_new old new known reading.taken point g within
next_failed site loaded T Write left_old left_new old new known reading at_end point g within gives = absurd gives

pub if_true : (b : Bool) (P Q : Type 0) → b ≡ true → MatchBool b P Q → P
if_true true P Q e m = m
if_true false P Q e m = absurd (false≢true e)

pub if_false : (b : Bool) (P Q : Type 0) → b ≡ false → MatchBool b P Q → Q
if_false false P Q e m = m
if_false true P Q e m = absurd (false≢true (sym e))

-- a line and whatever follows it
pub some_more : (b : Bool) (known text rest : List ℕ) (room at_end : Type 0) → MatchBool b ((known ≡ text) × (rest ≡ [])) (known ≡ text ++ newline ∷ rest) → MatchBool b (room × at_end) ⊤
    → (more : List ℕ) × (known ≡ text ++ more) × IsLineEnd (at_end × room) more
some_more true known text rest room at_end m e = ([], m.0 ∙ sym (append-nil text), (e.1, e.0))
some_more false known text rest room at_end m e = (newline ∷ rest, m, refl)

-- each line takes a byte at least
pub nearer : (pending bytes text rest : List ℕ) (taken taken' limit : ℕ) → pending ++ bytes ≡ text ++ newline ∷ rest → taken' ≡ taken + length bytes → taken' ≤ limit → (limit - taken') + length rest < (limit - taken) + length pending
nearer pending bytes text rest taken taken' limit cut more within =
    let lengths : length pending + length bytes ≡ length text + length (newline ∷ rest) = sym (length-append pending bytes) ∙ ap length cut ∙ length-append text (newline ∷ rest) in
    omega arith
