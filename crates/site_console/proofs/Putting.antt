-- A text that is put in parts.
use Rattle.std.proofs.Common.{◌≡◌, ℕ, List, [], ◌++◌, take, drop, ◌∙◌, sym, ap, subst, arith, append_assoc, Option, Result, Ok, Err, refl}
use Rattle.std.specs.Io.KnownBytes.{Appends}
use Rattle.std.proofs.KnownBytes.{Appends-nil, Appends-trans}
use Rattle.std.proofs.lemmas.List.{length-append, take-append-drop}
use Rattle.outside.specs.Devices.{Puts}
use Rattle.site_console.specs.Puts.{IsPart, IsPutOf}

pub record Part (old new : Option (List ℕ)) (all rest : List ℕ) : Type 0 where
  pub put : List ℕ
  pub held : Appends old new put
  pub whole : put ++ rest ≡ all

pub none_put : (old : Option (List ℕ)) (all : List ℕ) → Part old old all all
none_put old all = record { put = []; held = Appends-nil old; whole = refl }

pub more_put : (old mid new : Option (List ℕ)) (all rest : List ℕ) (count : ℕ) → Part old mid all rest → Appends mid new (take count rest) → Part old new all (drop count rest)
more_put old mid new all rest count p held =
    record {
      put = p.put ++ take count rest;
      held = Appends-trans old mid new p.put (take count rest) p.held held;
      whole = append_assoc p.put (take count rest) (drop count rest) ∙ ap (λ (xs : List ℕ). p.put ++ xs) (take-append-drop count rest) ∙ p.whole;
    }

-- ---- a text behind another

-- the front of the first text is one of both
pub front_cut : (a b put : List ℕ) → IsPart put a → IsPart put (a ++ b)
front_cut a b put s = record { more = s.more ++ b; some = omega (arith, length-append s.more b, s.some); whole = sym (append_assoc put s.more b) ∙ ap (λ (xs : List ℕ). xs ++ b) s.whole }

pub first_cut : (old new : Option (List ℕ)) (a b : List ℕ) → Puts old new (λ put. IsPart put a) → Puts old new (λ put. IsPart put (a ++ b))
first_cut old new a b puts = (puts.0, puts.1, front_cut a b puts.0 puts.2)

-- the first was put whole
pub behind : (T E : Type 0) (old mid new : Option (List ℕ)) (a b : List ℕ) (result : Result T E) → Puts old mid (λ put. put ≡ a) → Puts mid new (λ put. IsPutOf b result put) → Puts old new (λ put. IsPutOf (a ++ b) result put)
behind T E old mid new a b (Ok done) first rest = (first.0 ++ rest.0, Appends-trans old mid new first.0 rest.0 first.1 rest.1, ap (λ (xs : List ℕ). xs ++ rest.0) first.2 ∙ ap (λ (xs : List ℕ). a ++ xs) rest.2)
behind T E old mid new a b (Err fault) first rest = (
  first.0 ++ rest.0,
  Appends-trans old mid new first.0 rest.0 first.1 rest.1,
  record {
    more = rest.2.more;
    some = rest.2.some;
    whole = ap (λ (xs : List ℕ). (xs ++ rest.0) ++ rest.2.more) first.2 ∙ append_assoc a rest.0 rest.2.more ∙ ap (λ (xs : List ℕ). a ++ xs) rest.2.whole;
  },
)

-- .. before two
pub behind_first : (T E : Type 0) (old mid new : Option (List ℕ)) (a b c : List ℕ) (result : Result T E) → Puts old mid (λ put. put ≡ a) → Puts mid new (λ put. IsPutOf (b ++ c) result put) → Puts old new (λ put. IsPutOf (a ++ b ++ c) result put)
behind_first T E old mid new a b c result first rest =
    let all = behind T E old mid new a (b ++ c) result first rest in
    (all.0, all.1, subst (λ (xs : List ℕ). IsPutOf xs result all.0) (sym (append_assoc a b c)) all.2)
