-- A run that took all the bytes that it may take, and answered each whole line in them.
use Rattle.std.proofs.Common.{◌≡◌, ◌<◌, ℕ, suc, Bool, true, false, cond, not, List, [], ◌∷◌, ◌++◌, length, refl, sym, ap, ◌∙◌, arith, append_assoc}
use Rattle.std.specs.Prelude.{◌≢◌, Result, Ok, Err}
use Rattle.std.specs.List.{All, flat_map, AllByRecursion as Every}
use Rattle.std.proofs.lemmas.List.{length-map}
use Rattle.std.proofs.lemmas.List.Elements.{recursion_from_All}
use Rattle.deed_words.specs.Setups.{Setup}
use Rattle.site_console.specs.declared.fault.Fault.{Fault}
use Rattle.site_console.specs.declared.fault.Fault.TheVariants.{Read, Write, Memory, InputTooLong}
use Rattle.site_console.specs.Limits.{input_limit}
use Rattle.site_console.specs.Newline.{newline, HasNoNewline}
use Rattle.site_console.specs.Lines.{ended, is_empty, asked_lines}
use Rattle.site_console.specs.Open.{Point}
use Rattle.site_console.specs.Script.{Exchange, Talk, IsLineEnd, IsLimitEnd, AnswersWhole, StopsInside, Ended}

abbrev Plain : List ℕ → Type 0
Plain bytes = Every (λ b. b ≢ newline) bytes

-- the first newline stands at one place
first_same : (a b x y : List ℕ) → Plain a → Plain b → a ++ newline ∷ x ≡ b ++ newline ∷ y → (a ≡ b) × (x ≡ y)
first_same [] [] x y p q e = (refl, cc)
first_same [] (c ∷ b) x y p q e = absurd (q.0 (let f : newline ≡ c = cc in sym f))
first_same (c ∷ a) [] x y p q e = absurd (p.0 (let f : c ≡ newline = cc in f))
first_same (c ∷ a) (d ∷ b) x y p q e =
    let h : c ≡ d = cc in
    let t : a ++ newline ∷ x ≡ b ++ newline ∷ y = cc in
    let r = first_same a b x y p.1 q.1 t in
    (cc, r.1)

none_in : (a x rest : List ℕ) → Plain rest → a ++ newline ∷ x ≡ rest → ⊥
none_in [] x [] q e = absurd cc
none_in [] x (r ∷ rest) q e = q.0 (let f : newline ≡ r = cc in sym f)
none_in (c ∷ a) x [] q e = absurd cc
none_in (c ∷ a) x (r ∷ rest) q e = none_in a x rest q.1 (let t : a ++ newline ∷ x ≡ rest = cc in t)

-- lines without newlines
plain_lines : (lines : List (List ℕ)) → All HasNoNewline lines → Every Plain lines
plain_lines lines h = recursion_from_All Plain lines (λ k d lt. recursion_from_All (λ b. b ≢ newline) _ (h k d lt))

-- a line in front
behind : (l : List ℕ) (ls : List (List ℕ)) (x : List ℕ) → flat_map ended (l ∷ ls) ++ x ≡ l ++ newline ∷ (flat_map ended ls ++ x)
behind l ls x = append_assoc (l ++ newline ∷ []) (flat_map ended ls) x ∙ append_assoc l (newline ∷ []) (flat_map ended ls ++ x)

-- where one whole line more stands in the bytes, more lines are answered
more_lines : (lines others : List (List ℕ)) (line y rest : List ℕ) → Every Plain lines → Every Plain others → Plain line → Plain rest → is_empty line ≡ false
    → flat_map ended lines ++ (line ++ newline ∷ y) ≡ flat_map ended others ++ rest → length (asked_lines lines) < length (asked_lines others)
more_lines [] [] line y rest p q plain last some e = absurd (none_in line y rest last e)
more_lines [] (l ∷ ls) line y rest p q plain last some e =
    let same = (first_same line l y (flat_map ended ls ++ rest) plain q.0 (e ∙ behind l ls rest)).0 in
    let shown : length (asked_lines (l ∷ ls)) ≡ suc (length (asked_lines ls)) = ap (λ b. length (cond (not b) (l ∷ asked_lines ls) (asked_lines ls))) (sym (ap is_empty same) ∙ some) in
    omega (arith, shown)
more_lines (k ∷ ks) [] line y rest p q plain last some e = absurd (none_in k (flat_map ended ks ++ (line ++ newline ∷ y)) rest last (sym (behind k ks (line ++ newline ∷ y)) ∙ e))
more_lines (k ∷ ks) (l ∷ ls) line y rest p q plain last some e =
    let r = first_same k l (flat_map ended ks ++ (line ++ newline ∷ y)) (flat_map ended ls ++ rest) p.0 q.0 (sym (behind k ks (line ++ newline ∷ y)) ∙ e ∙ behind l ls rest) in
    let less = more_lines ks ls line y rest p.1 q.1 plain last some r.1 in
    one_more (is_empty k) (is_empty l) (asked_lines ks) (asked_lines ls) k l (ap is_empty r.0) less
  where
    one_more : (a b : Bool) (xs ys : List (List ℕ)) (k l : List ℕ) → a ≡ b → length xs < length ys → length (cond (not a) (k ∷ xs) xs) < length (cond (not b) (l ∷ ys) ys)
    one_more true true xs ys k l e h = h
    one_more false false xs ys k l e h = omega (arith, h)
    one_more true false xs ys k l e h = absurd cc
    one_more false true xs ys k l e h = absurd cc

-- the line that stopped the run ends with the input, or stands whole in the bytes
stopped_early : (site : Setup) (old : Point) (at_end : Type 0) (talk : Talk) (part more : List ℕ) (s : StopsInside site old at_end talk part) → s.more ≡ more → IsLineEnd (at_end × (length talk.read < input_limit)) more → length talk.read ≡ input_limit → AnswersWhole site old talk → ⊥
stopped_early site old at_end talk part [] s same ends full w = let room = ends.1 in absurd (omega (arith, room, full))
stopped_early site old at_end talk part (b ∷ y) s same ends full w =
    let whole : flat_map ended s.lines ++ (s.next.line ++ newline ∷ y) ≡ flat_map ended w.lines ++ w.rest =
    ap (λ (c : ℕ). flat_map ended s.lines ++ (s.next.line ++ c ∷ y)) (sym ends) ∙ ap (λ (xs : List ℕ). flat_map ended s.lines ++ (s.next.line ++ xs)) (sym same) ∙ sym s.whole ∙ w.cuts.whole in
    let less = more_lines s.lines w.lines s.next.line y w.rest (plain_lines s.lines s.each) (plain_lines w.lines w.cuts.each) (recursion_from_All (λ b. b ≢ newline) s.next.line s.one) (recursion_from_All (λ b. b ≢ newline) w.rest w.cuts.last) s.asked whole in
    let a = ap length w.script.asked in
    let d = ap length s.script.asked in
    let one = length-map talk.exchanges (λ (x : Exchange). x.line) in
    let two = length-map s.front.exchanges (λ (x : Exchange). x.line) in
    let e = ap length s.exchanges in
    absurd (omega (arith, less, a, d, one, two, e))

-- a run that took all its bytes and answered each whole line in them ends so, or for want of memory
pub limit_told : (T : Type 0) (site : Setup) (old : Point) (result : Result T Fault) (at_end : Type 0) (talk : Talk) → Ended {T = T} site old result at_end talk → length talk.read ≡ input_limit → AnswersWhole site old talk → IsLimitEnd result
limit_told T site old (Ok done) at_end talk ended full w = let room = ended.1 in absurd (omega (arith, room, full))
limit_told T site old (Err Read) at_end talk ended full w = let room = ended.1 in absurd (omega (arith, room, full))
limit_told T site old (Err InputTooLong) at_end talk ended full w = tt
limit_told T site old (Err Memory) at_end talk ended full w = tt
limit_told T site old (Err Write) at_end talk ended full w = stopped_early site old at_end talk ended.0 ended.1.more ended.1 refl ended.1.ends full w
