-- Answers, put one after the other.
use Rattle.std.proofs.Common.{◌≡◌, ℕ, Bool, List, [], ◌∷◌, ◌++◌, length, Option, sym, refl, ap, ◌∙◌, append_assoc, append-nil, arith}
use Rattle.std.specs.Prelude.{◌==◌, ◌&&◌}
use Rattle.std.specs.Io.KnownBytes.{Appends}
use Rattle.std.proofs.KnownBytes.{Appends-nil, Appends-trans}
use Rattle.std.proofs.lemmas.List.{length-append}
use Rattle.outside.specs.Devices.{Puts}
use Rattle.station_http.specs.Puts.{IsPart}
use Rattle.site_answers.specs.Saying.{Answer, text_of}
use Rattle.site_server.specs.Gathered.{texts_to}

-- what was put, and the answers that are left
pub record Part (held held' : Option (List ℕ)) (all left : List Answer) (last : Bool) : Type 0 where
  pub put : List ℕ
  pub to : Appends held held' put
  pub whole : texts_to all last ≡ put ++ texts_to left last

pub none_put : (held : Option (List ℕ)) (all : List Answer) (last : Bool) → Part held held all all last
none_put held all last = record { put = []; to = Appends-nil held; whole = refl }

module _ (held held1 held2 : Option (List ℕ)) (all left later : List Answer) (last end : Bool) (first : Answer) where
  -- the first of them is one text in front of the others
  parts : (s : Part held held1 all left last) → left ≡ first ∷ later → end ≡ (last && (length later == 0)) → texts_to all last ≡ s.put ++ (text_of first end ++ texts_to later last)
  parts s is ends =
      s.whole ∙ (ap (λ (l : List Answer). s.put ++ texts_to l last) is ∙ ap (λ (b : Bool). s.put ++ (text_of first b ++ texts_to later last)) (sym ends))

  pub one_put : Part held held1 all left last → left ≡ first ∷ later → end ≡ (last && (length later == 0)) → Puts held1 held2 (λ put. put ≡ text_of first end) → Part held held2 all later last
  one_put s is ends p = record {
    put = s.put ++ p.0;
    to = Appends-trans held held1 held2 s.put p.0 s.to p.1;
    whole = parts s is ends ∙ (sym (append_assoc s.put (text_of first end) (texts_to later last)) ∙ ap (λ (l : List ℕ). (s.put ++ l) ++ texts_to later last) (sym p.2));
  }

  -- its put failed
  pub one_failed : Part held held1 all left last → left ≡ first ∷ later → end ≡ (last && (length later == 0)) → Puts held1 held2 (λ put. IsPart put (text_of first end)) → Puts held held2 (λ put. IsPart put (texts_to all last))
  one_failed s is ends p =
      let some = p.2.some in let sum = length-append p.2.more (texts_to later last) in (
        s.put ++ p.0,
        Appends-trans held held1 held2 s.put p.0 s.to p.1,
        record {
          more = p.2.more ++ texts_to later last;
          some = omega (arith, some, sum);
          whole = append_assoc s.put p.0 (p.2.more ++ texts_to later last)
              ∙ (ap (λ (l : List ℕ). s.put ++ l) (sym (append_assoc p.0 p.2.more (texts_to later last)) ∙ ap (λ (l : List ℕ). l ++ texts_to later last) p.2.whole) ∙ sym (parts s is ends));
        },
      )

-- all were put
pub all_put : (held held1 : Option (List ℕ)) (all left : List Answer) (last : Bool) → Part held held1 all left last → left ≡ [] → Puts held held1 (λ put. put ≡ texts_to all last)
all_put held held1 all left last s none =
    (s.put, s.to, sym (s.whole ∙ (ap (λ (l : List Answer). s.put ++ texts_to l last) none ∙ append-nil s.put)))
