use Rattle.std.proofs.Common.{◌≡◌, ◌≢◌, ◌∙◌, ◌++◌, ◌-◌, ◌<◌, ◌≤◌, ◌==◌, ◌&&◌, ℕ, suc, Bool, true, false, cond, List, [], ◌∷◌, Option, Some, None, refl, sym, ap, length, drop, append-nil, length-append, nat_eq, arith, ltb, bytes_eq, Fits, w8, get_or}
use Rattle.std.proofs.lemmas.Bool.Decides.{nat_tests}
use Rattle.std.specs.List.{ends_with}
use Rattle.matchit.specs.Rows.{Rows, Seen, prepend, ends, rows_of, param_token, catch_all_token}
use Rattle.matchit.specs.Seek.{own, step, or_else, seek, first, after_param, segment, has_slash, longest_suffix, cuts, better, param_step}
use Rattle.matchit.specs.Level.{IsText, AreSuffixes, AllSegment}
use Rattle.matchit.proofs.SeekLemmas.{prepend-nil, own-append, own-prepend, step-append, step-hit, step-miss, seek-empty, seek-lit, or_else-none, param_step-empty}
use Rattle.matchit.proofs.LevelLemmas.{level-cons}
use Rattle.matchit.proofs.ParamLemmas.{after_param-end, after_param-stop, after_param-kid}
use Rattle.matchit.proofs.LongestLemmas.{longest-kid}
use Rattle.std.specs.List.{onto_first as with_front}
use Rattle.http_routes.specs.Paths.{pieces}

-- ---- the first piece

-- the text before the first slash, and what follows it
abbrev pub cut_at : Bool → ℕ → List ℕ → List ℕ × Option (List ℕ) → List ℕ × Option (List ℕ)
cut_at true b rest c = ([], Some rest)
cut_at false b rest c = (b ∷ c.0, c.1)

abbrev pub cut : List ℕ → List ℕ × Option (List ℕ)
cut [] = ([], None)
cut (b ∷ rest) = cut_at (b == 47) b rest (cut rest)

abbrev pub after : Option (List ℕ) → List (List ℕ)
after None = []
after (Some r) = pieces r

pub pieces-cut : (p : List ℕ) → pieces p ≡ (cut p).0 ∷ after (cut p).1
pieces-cut [] = refl
pieces-cut (b ∷ rest) = by (b == 47) (pieces-cut rest)
  where
    by : (v : Bool) → pieces rest ≡ (cut rest).0 ∷ after (cut rest).1
        → cond v ([] ∷ pieces rest) (with_front b (pieces rest)) ≡ (cut_at v b rest (cut rest)).0 ∷ after (cut_at v b rest (cut rest)).1
    by true ih = refl
    by false ih = ap (with_front b) ih

pub record HasNoSlash (p : List ℕ) : Type 0 where
  pub segment_is : segment p ≡ p
  pub slash_not : has_slash p ≡ false
  pub piece_is : (cut p).0 ≡ p

pub no_slash : (p : List ℕ) → (cut p).1 ≡ None → HasNoSlash p
no_slash [] e = record { segment_is = refl; slash_not = refl; piece_is = refl }
no_slash (b ∷ rest) e = by (b == 47) refl e (no_slash rest)
  where
    by : (v : Bool) → (b == 47) ≡ v → (cut_at v b rest (cut rest)).1 ≡ None → ((cut rest).1 ≡ None → HasNoSlash rest) → HasNoSlash (b ∷ rest)
    by true q k ih = cc
    by false q k ih =
        let h = ih k in
        record { segment_is = rw q (ap (λ z. b ∷ z) h.segment_is); slash_not = rw q h.slash_not; piece_is = rw q (ap (λ z. b ∷ z) h.piece_is) }

pub record HasSlash (p r : List ℕ) : Type 0 where
  pub segment_is : segment p ≡ (cut p).0 ++ 47 ∷ []
  pub slash_is : has_slash p ≡ true
  pub rest_is : drop (length (cut p).0) p ≡ 47 ∷ r
  pub text : IsText p → IsText r

pub one_slash : (p r : List ℕ) → (cut p).1 ≡ Some r → HasSlash p r
one_slash [] r e = cc
one_slash (b ∷ rest) r e = by (b == 47) refl e (one_slash rest r)
  where
    by : (v : Bool) → (b == 47) ≡ v → (cut_at v b rest (cut rest)).1 ≡ Some r → ((cut rest).1 ≡ Some r → HasSlash rest r) → HasSlash (b ∷ rest) r
    by true q k ih =
        let b47 : b ≡ 47 = grind (arith, nat_tests) in
        let same : rest ≡ r = cc in
        record { segment_is = rw q (ap (λ z. z ∷ []) b47); slash_is = rw q refl; rest_is = rw (q, b47, same) refl; text = λ t. rw same at t.1 }
    by false q k ih =
        let h = ih k in
        record { segment_is = rw q (ap (λ z. b ∷ z) h.segment_is); slash_is = rw q h.slash_is; rest_is = rw q h.rest_is; text = λ t. h.text t.1 }

-- ---- a text and a slash

abbrev pub lit : List ℕ → (List (List ℕ) → Option ℕ) → List (List ℕ) → Option ℕ
lit w f [] = None
lit w f (a ∷ []) = None
lit w f (a ∷ b ∷ rest) = cond (bytes_eq a w) (f (b ∷ rest)) None

-- the rows t go by the pieces as f does
abbrev pub GoesBy : Rows → (List (List ℕ) → Option ℕ) → Type 0
GoesBy t f = (p : List ℕ) → IsText p → first t p ≡ f (pieces p)

IsText-head : (y : ℕ) (q : List ℕ) → IsText (y ∷ q) → y < 256
IsText-head y q h = h.0

lit_here : (w : List ℕ) (f : List (List ℕ) → Option ℕ) (y x : ℕ) (pp : List (List ℕ)) → x ≡ y → lit w f pp ≡ lit (x ∷ w) f (with_front y pp)
lit_here w f y x [] e = refl
lit_here w f y x (a ∷ []) e = refl
lit_here w f y x (a ∷ b ∷ rest) e = let yes : (y == x) ≡ true = grind (arith, nat_tests) in rw yes refl

lit_other : (w : List ℕ) (f : List (List ℕ) → Option ℕ) (y x : ℕ) (pp : List (List ℕ)) → x ≢ y → lit (x ∷ w) f (with_front y pp) ≡ None
lit_other w f y x [] e = refl
lit_other w f y x (a ∷ []) e = refl
lit_other w f y x (a ∷ b ∷ rest) e = let no : (y == x) ≡ false = grind (arith, nat_tests) in rw no refl

lit_empty : (w : List ℕ) (f : List (List ℕ) → Option ℕ) (x : ℕ) (pp : List (List ℕ)) → lit (x ∷ w) f ([] ∷ pp) ≡ None
lit_empty w f x [] = refl
lit_empty w f x (b ∷ rest) = refl

lit_nil : (f : List (List ℕ) → Option ℕ) (y : ℕ) (pp : List (List ℕ)) → lit [] f (with_front y pp) ≡ None
lit_nil f y [] = refl
lit_nil f y (a ∷ []) = refl
lit_nil f y (a ∷ b ∷ rest) = refl

lit_first : (f : List (List ℕ) → Option ℕ) (p : List ℕ) → f (pieces p) ≡ lit [] f ([] ∷ pieces p)
lit_first f p = rw (pieces-cut p) refl

abbrev pub IsWord : List ℕ → Type 0
IsWord [] = Unit {0}
IsWord (x ∷ w) = (x < 256) × (x ≢ 47) × IsWord w

-- rows after a word and a slash
pub lit-rows : (w : List ℕ) (t : Rows) (f : List (List ℕ) → Option ℕ) → IsWord w → GoesBy t f → GoesBy (prepend (w ++ 47 ∷ []) t) (lit w f)
unfolding seek
lit-rows [] t f h g [] k = own-prepend 47 [] t
lit-rows [] t f h g (y ∷ q) k = seek-lit 47 [] t y q (omega arith) ∙ by (y == 47) refl
  where
    by : (v : Bool) → (y == 47) ≡ v → seek 0 (step y (prepend (47 ∷ []) t)) q ≡ lit [] f (pieces (y ∷ q))
    by true e =
        let same : y ≡ 47 = grind (arith, nat_tests) in
        rw (e, same, step-hit 47 [] t, prepend-nil t) (g q k.1 ∙ lit_first f q)
    by false e =
        let n : 47 ≢ y = λ z. grind (arith, nat_tests) in
        rw (e, step-miss y 47 [] t n, seek-empty 0 q) (sym (lit_nil f y (pieces q)))
lit-rows (x ∷ w) t f h g [] k = own-prepend x (w ++ 47 ∷ []) t
lit-rows (x ∷ w) t f h g (y ∷ q) k = seek-lit x (w ++ 47 ∷ []) t y q h.0 ∙ by (x == y) refl (y == 47) refl (lit-rows w t f h.2 g q k.1)
  where
    by : (v : Bool) → (x == y) ≡ v → (u : Bool) → (y == 47) ≡ u → first (prepend (w ++ 47 ∷ []) t) q ≡ lit w f (pieces q)
        → seek 0 (step y (prepend (x ∷ w ++ 47 ∷ []) t)) q ≡ lit (x ∷ w) f (pieces (y ∷ q))
    by true e true d ih = absurd (h.1 (grind (arith, nat_tests)))
    by true e false d ih =
        let same : x ≡ y = grind (arith, nat_tests) in
        rw d (rw (← same, step-hit x (w ++ 47 ∷ []) t) (ih ∙ lit_here w f x x (pieces q) refl))
    by false e u d ih =
        let n : x ≢ y = λ z. grind (arith, nat_tests) in
        rw (step-miss y x (w ++ 47 ∷ []) t n, seek-empty 0 q) (sym (none u d n))
      where
        none : (u : Bool) → (y == 47) ≡ u → x ≢ y → lit (x ∷ w) f (pieces (y ∷ q)) ≡ None
        none true d n = rw d (lit_empty w f x (pieces q))
        none false d n = rw d (lit_other w f y x (pieces q) n)

-- ---- a parameter

abbrev pub param : Option ℕ → (List (List ℕ) → Option ℕ) → List (List ℕ) → Option ℕ
param v f [] = None
param v f ([] ∷ rest) = None
param v f ((x ∷ a) ∷ []) = v
param v f ((x ∷ a) ∷ b ∷ rest) = f (b ∷ rest)

-- the rows that go on after a slash
abbrev pub node : Rows → Seen
node t = record { prefix = 47 ∷ []; tails = t; height = 0 }

abbrev pub param_rows : Rows → Option ℕ → Rows
param_rows t v = prepend (param_token ∷ []) (rows_of (node t ∷ []) ++ ends v)

abbrev pub last_rows : Option ℕ → Rows
last_rows v = prepend (param_token ∷ []) (ends v)

slash_segments : (t : Rows) → AllSegment (47 ∷ []) (prepend (47 ∷ []) t)
slash_segments [] = tt
slash_segments ((x, k) ∷ t) = (refl, slash_segments t)

length-slash : (t : Rows) → length (prepend (47 ∷ []) t) ≡ length t
length-slash [] = refl
length-slash ((x, k) ∷ t) = ap suc (length-slash t)

suffix : (t : Rows) → 0 < length t → AreSuffixes (node t ∷ [])
suffix t n = (record { some_prefix = omega arith; some_rows = rw (length-slash t) n; all_segment = slash_segments t }, tt, tt)

-- the walk at a parameter
at_param : (ss : List Seen) (v : Option ℕ) (b : ℕ) (q : List ℕ) → b < 256
    → first (prepend (param_token ∷ []) (rows_of ss ++ ends v)) (b ∷ q) ≡ after_param (rows_of ss ++ ends v) (b ∷ q)
at_param ss v b q h =
    ap (λ r. first r (b ∷ q)) (sym (append-nil (prepend (param_token ∷ []) (rows_of ss ++ ends v))))
    ∙ level-cons [] [] ss v None None b q tt h
    ∙ rw (seek-empty 0 q) (or_else-none _)

-- whether a text ends with a slash
ends_not : (p : List ℕ) → has_slash p ≡ false → ends_with nat_eq p (47 ∷ []) ≡ false
ends_not [] h = refl
ends_not (x ∷ []) h = by (x == 47) refl h
  where
    by : (v : Bool) → (x == 47) ≡ v → cond v true false ≡ false → ends_with nat_eq (x ∷ []) (47 ∷ []) ≡ false
    by true e k = cc
    by false e k = let no : nat_eq 47 x ≡ false = grind (arith, nat_tests) in rw no refl
ends_not (x ∷ y ∷ r) h = by (x == 47) refl h (ends_not (y ∷ r))
  where
    by : (v : Bool) → (x == 47) ≡ v → cond v true (has_slash (y ∷ r)) ≡ false
        → (has_slash (y ∷ r) ≡ false → ends_with nat_eq (y ∷ r) (47 ∷ []) ≡ false) → ends_with nat_eq (x ∷ y ∷ r) (47 ∷ []) ≡ false
    by true e k ih = cc
    by false e k ih =
        let more : length (x ∷ y ∷ r) - 1 ≡ suc (length (y ∷ r) - 1) = omega arith in
        rw more (ih k)

drop_all : (a l : List ℕ) → drop (length a) (a ++ l) ≡ l
drop_all [] l = refl
drop_all (x ∷ a) l = drop_all a l

less_one : (a : List ℕ) → length (a ++ 47 ∷ []) - 1 ≡ length a
less_one [] = refl
less_one (x ∷ a) = let ih = less_one a in let more : length ((x ∷ a) ++ 47 ∷ []) ≡ suc (length (a ++ 47 ∷ [])) = refl in omega (arith, ih, more, length-append a (47 ∷ []))

ends_so : (a : List ℕ) → ends_with nat_eq (a ++ 47 ∷ []) (47 ∷ []) ≡ true
ends_so a = rw (less_one a, drop_all a (47 ∷ [])) refl

and_false : (a : Bool) → (a && false) ≡ false
and_false true = refl
and_false false = refl

longest_is : (seg : List ℕ) (t : Rows) → 0 < length t → longest_suffix seg (rows_of (node t ∷ [])) ≡ better seg [] (47 ∷ [])
longest_is seg t n = ap (λ r. longest_suffix seg r) (append-nil (prepend (47 ∷ []) t)) ∙ longest-kid seg [] (47 ∷ []) (prepend (47 ∷ []) t) (slash_segments t) (rw (length-slash t) n)

no_suffix : (seg : List ℕ) (t : Rows) → 0 < length t → cuts seg (47 ∷ []) ≡ false → longest_suffix seg (rows_of (node t ∷ [])) ≡ []
no_suffix seg t n h = longest_is seg t n ∙ rw h refl

slash_suffix : (seg : List ℕ) (t : Rows) → 0 < length t → cuts seg (47 ∷ []) ≡ true → longest_suffix seg (rows_of (node t ∷ [])) ≡ 47 ∷ []
slash_suffix seg t n h = longest_is seg t n ∙ rw h refl

param_last : (v : Option ℕ) (f : List (List ℕ) → Option ℕ) (x : ℕ) (a r : List ℕ) → param v f ((x ∷ a) ∷ pieces r) ≡ f (pieces r)
param_last v f x a r = rw (pieces-cut r) refl

-- rows after a parameter that a slash follows, and the row that ends with it
pub param-rows : (t : Rows) (v : Option ℕ) (f : List (List ℕ) → Option ℕ) → 0 < length t → GoesBy t f → GoesBy (param_rows t v) (param v f)
unfolding seek
param-rows t v f n g [] k = own-prepend param_token [] (rows_of (node t ∷ []) ++ ends v)
param-rows t v f n g (b ∷ q) k = at_param (node t ∷ []) v b q k.0 ∙ by (cut (b ∷ q)).1 refl
  where
    slash : (r c : List ℕ) → (cut (b ∷ q)).0 ≡ c → HasSlash (b ∷ q) r → after_param (rows_of (node t ∷ []) ++ ends v) (b ∷ q) ≡ param v f (c ∷ pieces r)
    slash r [] e s =
        let seg : segment (b ∷ q) ≡ 47 ∷ [] = s.segment_is ∙ ap (λ z. z ++ 47 ∷ []) e in
        after_param-stop (node t ∷ []) v b q (no_suffix (segment (b ∷ q)) t n (rw seg refl)) s.slash_is
    slash r (x ∷ a) e s =
        let seg : segment (b ∷ q) ≡ (x ∷ a) ++ 47 ∷ [] = s.segment_is ∙ ap (λ z. z ++ 47 ∷ []) e in
        let long : ltb 1 (length ((x ∷ a) ++ 47 ∷ [])) ≡ true = grind (arith, nat_tests, length-append (x ∷ a) (47 ∷ [])) in
        let fits : cuts (segment (b ∷ q)) (47 ∷ []) ≡ true = rw (seg, long, ends_so (x ∷ a)) refl in
        let rest : drop (length (x ∷ a)) (b ∷ q) ≡ 47 ∷ r = rw e at s.rest_is in
        let kid = after_param-kid (node t ∷ []) 0 (node t) v b q (suffix t n) (omega arith) (sym (slash_suffix (segment (b ∷ q)) t n fits)) in
        let skipped : length (segment (b ∷ q)) - 1 ≡ length (x ∷ a) = ap (λ z. length z - 1) seg ∙ less_one (x ∷ a) in
        let on : first (prepend (47 ∷ []) t) (47 ∷ r) ≡ lit [] f ([] ∷ pieces r) = lit-rows [] t f tt g (47 ∷ r) (omega arith, s.text k) in
        kid ∙ rw (skipped, rest) on ∙ sym (lit_first f r) ∙ sym (param_last v f x a r)

    by : (o : Option (List ℕ)) → (cut (b ∷ q)).1 ≡ o → after_param (rows_of (node t ∷ []) ++ ends v) (b ∷ q) ≡ param v f (pieces (b ∷ q))
    by None e =
        let h = no_slash (b ∷ q) e in
        let seg_not : cuts (segment (b ∷ q)) (47 ∷ []) ≡ false = rw (h.segment_is, ends_not (b ∷ q) h.slash_not) (and_false _) in
        let whole : pieces (b ∷ q) ≡ (b ∷ q) ∷ [] = pieces-cut (b ∷ q) ∙ rw (e, h.piece_is) refl in
        after_param-end (node t ∷ []) v b q (suffix t n) (no_suffix (segment (b ∷ q)) t n seg_not) h.slash_not ∙ rw whole refl
    by (Some r) e =
        let whole : pieces (b ∷ q) ≡ (cut (b ∷ q)).0 ∷ pieces r = pieces-cut (b ∷ q) ∙ rw e refl in
        slash r (cut (b ∷ q)).0 refl (one_slash (b ∷ q) r e) ∙ ap (param v f) (sym whole)

-- rows that end with a parameter
pub last-rows : (v : Option ℕ) → GoesBy (last_rows v) (param v (λ _. None))
unfolding seek
last-rows v [] k = own-prepend param_token [] (ends v)
last-rows v (b ∷ q) k = at_param [] v b q k.0 ∙ by (cut (b ∷ q)).1 refl
  where
    slash : (r c : List ℕ) → ◌≡◌ {A = Option ℕ} None (param v (λ _. None) (c ∷ pieces r))
    slash r [] = refl
    slash r (x ∷ a) = sym (param_last v (λ _. None) x a r)

    by : (o : Option (List ℕ)) → (cut (b ∷ q)).1 ≡ o → after_param (rows_of [] ++ ends v) (b ∷ q) ≡ param v (λ _. None) (pieces (b ∷ q))
    by None e =
        let h = no_slash (b ∷ q) e in
        let whole : pieces (b ∷ q) ≡ (b ∷ q) ∷ [] = pieces-cut (b ∷ q) ∙ rw (e, h.piece_is) refl in
        after_param-end [] v b q tt refl h.slash_not ∙ rw whole refl
    by (Some r) e =
        let whole : pieces (b ∷ q) ≡ (cut (b ∷ q)).0 ∷ pieces r = pieces-cut (b ∷ q) ∙ rw e refl in
        after_param-stop [] v b q refl (one_slash (b ∷ q) r e).slash_is ∙ slash r (cut (b ∷ q)).0 ∙ ap (param v (λ _. None)) (sym whole)

-- ---- two groups of rows, with other first bytes

-- no row begins with this token, and none is empty
abbrev pub IsApart : Rows → Type 0
IsApart [] = Unit {0}
IsApart (([], k) ∷ r) = ⊥
IsApart ((x ∷ t, k) ∷ r) = (x < 256) × IsApart r

abbrev pub Lacks : ℕ → Rows → Type 0
Lacks y [] = Unit {0}
Lacks y (([], k) ∷ r) = ⊥
Lacks y ((x ∷ t, k) ∷ r) = (x ≢ y) × Lacks y r

apart-step : (z : ℕ) (s : Rows) → 256 ≤ z → IsApart s → step z s ≡ []
apart-step z [] l h = refl
apart-step z (([], k) ∷ r) l h = elim h [ ]
apart-step z ((x ∷ t, k) ∷ r) l h = let no : (x == z) ≡ false = grind (arith, nat_tests, h.0) in rw no (apart-step z r l h.1)

lacks-step : (y : ℕ) (s : Rows) → Lacks y s → step y s ≡ []
lacks-step y [] h = refl
lacks-step y (([], k) ∷ r) h = elim h [ ]
lacks-step y ((x ∷ t, k) ∷ r) h = let no : (x == y) ≡ false = grind (arith, nat_tests, h.0) in rw no (lacks-step y r h.1)

apart-own : (s : Rows) → IsApart s → own s ≡ None
apart-own [] h = refl
apart-own (([], k) ∷ r) h = elim h [ ]
apart-own ((x ∷ t, k) ∷ r) h = apart-own r h.1

apart-first : (s : Rows) (y : ℕ) (q : List ℕ) → IsApart s → first s (y ∷ q) ≡ seek 0 (step y s) q
unfolding seek
apart-first s y q h =
    simp (apart-step param_token s (omega arith) h, apart-step catch_all_token s (omega arith) h, param_step-empty (y ∷ q), seek-empty ((param_step {K = ℕ} [] (y ∷ q)).0 - 1) q, or_else-none)

apart-prepend : (x : ℕ) (w : List ℕ) (t : Rows) → x < 256 → IsApart (prepend (x ∷ w) t)
apart-prepend x w [] h = tt
apart-prepend x w ((u, k) ∷ t) h = (h, apart-prepend x w t h)

pub apart-append : (a b : Rows) → IsApart a → IsApart b → IsApart (a ++ b)
apart-append [] b h g = g
apart-append (([], k) ∷ r) b h g = elim h [ ]
apart-append ((x ∷ t, k) ∷ r) b h g = (h.0, apart-append r b h.1 g)

pub either : (x : ℕ) (w : List ℕ) (t r : Rows) (p : List ℕ) → x < 256 → IsApart r → Lacks x r
    → first (prepend (x ∷ w) t ++ r) p ≡ or_else (first (prepend (x ∷ w) t) p) (first r p)
unfolding seek
either x w t r [] l h g = own-append (prepend (x ∷ w) t) r
either x w t r (y ∷ q) l h g =
    apart-first (prepend (x ∷ w) t ++ r) y q (apart-append (prepend (x ∷ w) t) r (apart-prepend x w t l) h)
    ∙ rw (apart-first (prepend (x ∷ w) t) y q (apart-prepend x w t l), apart-first r y q h, step-append y (prepend (x ∷ w) t) r) (by (x == y) refl)
  where
    by : (v : Bool) → (x == y) ≡ v → seek 0 (step y (prepend (x ∷ w) t) ++ step y r) q ≡ or_else (seek 0 (step y (prepend (x ∷ w) t)) q) (seek 0 (step y r) q)
    by true e =
        let same : x ≡ y = grind (arith, nat_tests) in
        let gone : step y r ≡ [] = rw (← same) (lacks-step x r g) in
        rw (gone, append-nil (step y (prepend (x ∷ w) t)), seek-empty 0 q) (sym (or_else-none _))
    by false e =
        let n : x ≢ y = λ z. grind (arith, nat_tests) in
        rw (step-miss y x w t n, seek-empty 0 q) refl

-- the bytes of a text are bytes
pub text_of : (p : List ℕ) → ((i : ℕ) → Fits w8 (get_or p i 0)) → IsText p
text_of [] h = tt
text_of (x ∷ p) h = let first : Fits w8 x = h 0 in (omega (arith, first), text_of p (λ i. h (suc i)))
