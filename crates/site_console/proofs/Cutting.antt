-- Lines that are cut off piece by piece.
use Rattle.std.proofs.Common.{◌≡◌, ◌≢◌, ◌<◌, ℕ, ◌+◌, Bool, true, false, List, [], ◌∷◌, ◌++◌, length, take, drop, arith, sym, ◌∙◌, ap, refl, append_assoc, append-nil, subst, Option, Ok}
use Rattle.std.specs.Prelude.{slice_range}
use Rattle.std.specs.Io.KnownBytes.{Consumes}
use Rattle.std.proofs.KnownBytes.{Consumes-trans}
use Rattle.std.proofs.lemmas.List.{drop-drop, length-append}
use Rattle.std.proofs.lemmas.List.Elements.{All-append}
use Rattle.std.proofs.lemmas.Slice.{between_is}
use Rattle.site_console.specs.declared.lines.Line.{Line}
use Rattle.site_console.specs.Reading.{Reading}
use Rattle.site_console.specs.Newline.{newline, HasNoNewline, FoundNewline}
use Rattle.site_console.specs.Limits.{input_limit}
use Rattle.site_console.specs.Lines.{IsHeld, GivesLine, Fills}

-- a part of a part
pub drop-slice_range : (xs : List ℕ) (i j m : ℕ) → drop m (slice_range xs i j) ≡ slice_range xs (i + m) j
drop-slice_range xs i j m = ap (drop m) (between_is xs i j) ∙ drop-drop m i (take j xs) ∙ sym (between_is xs (i + m) j)

-- what was pending, up to its newline, and the rest
pub cut_at : (xs : List ℕ) (i j count : ℕ) → FoundNewline (slice_range xs i j) count → slice_range xs i j ≡ take count (slice_range xs i j) ++ newline ∷ slice_range xs (i + (count + 1)) j
cut_at xs i j count found = found.whole ∙ ap (λ (ys : List ℕ). take count (slice_range xs i j) ++ newline ∷ ys) (drop-slice_range xs i j (count + 1))

-- The line so far: known are the bytes that were pending at the call and those that it took.
pub record Sofar (left_old left_new : Option (List ℕ)) (old new : Reading) (line : Line) : Type 0 where
  pub bytes : List ℕ
  pub text : List ℕ
  pub from : Consumes left_old left_new bytes
  pub size : new.taken ≡ old.taken + length bytes
  pub known : old.pending ++ bytes ≡ text ++ new.pending
  pub held : IsHeld line text
  pub one : HasNoNewline text

-- The line holds all that is known.
pub record AllHeld (left_old left_new : Option (List ℕ)) (old : Reading) (taken : ℕ) (line : Line) : Type 0 where
  pub bytes : List ℕ
  pub from : Consumes left_old left_new bytes
  pub size : taken ≡ old.taken + length bytes
  pub held : IsHeld line (old.pending ++ bytes)
  pub one : HasNoNewline (old.pending ++ bytes)

-- after all that was pending went to the line
pub all_held : (left_old left_new : Option (List ℕ)) (old new : Reading) (line longer : Line) (taken : ℕ)
    → (s : Sofar left_old left_new old new line) → taken ≡ new.taken → HasNoNewline new.pending → IsHeld longer (s.text ++ new.pending) → AllHeld left_old left_new old taken longer
all_held left_old left_new old new line longer taken s same none held =
    record {
      bytes = s.bytes;
      from = s.from;
      size = same ∙ s.size;
      held = subst (IsHeld longer) (sym s.known) held;
      one = subst HasNoNewline (sym s.known) (All-append (λ b. b ≢ newline) s.text new.pending s.one none);
    }

-- a piece more is pending
pub more_pending : (left_old left_mid left_new : Option (List ℕ)) (old new : Reading) (taken : ℕ) (line : Line) (piece : List ℕ)
    → AllHeld left_old left_mid old taken line → Consumes left_mid left_new piece → new.pending ≡ piece → new.taken ≡ taken + length piece → Sofar left_old left_new old new line
more_pending left_old left_mid left_new old new taken line piece h from pending size =
    record {
      bytes = h.bytes ++ piece;
      text = old.pending ++ h.bytes;
      from = Consumes-trans left_old left_mid left_new h.bytes piece h.from from;
      size = omega (arith, h.size, size, length-append h.bytes piece);
      known = sym (append_assoc old.pending h.bytes piece) ∙ ap (λ (xs : List ℕ). (old.pending ++ h.bytes) ++ xs) (sym pending);
      held = h.held;
      one = h.one;
    }

-- nothing more was taken
pub none_more : (left_old left_mid left_new : Option (List ℕ)) (old : Reading) (taken now : ℕ) (line : Line) (piece : List ℕ)
    → AllHeld left_old left_mid old taken line → Consumes left_mid left_new piece → piece ≡ [] → now ≡ taken → AllHeld left_old left_new old now line
none_more left_old left_mid left_new old taken now line piece h from none same =
    record {
      bytes = h.bytes;
      from = subst (Consumes left_old left_new) (ap (λ (xs : List ℕ). h.bytes ++ xs) none ∙ append-nil h.bytes) (Consumes-trans left_old left_mid left_new h.bytes piece h.from from);
      size = same ∙ h.size;
      held = h.held;
      one = h.one;
    }

-- the reader took a piece
pub after_more : (E : Type 0) (left_old left_mid left_new : Option (List ℕ)) (old mid new : Reading) (line : Line) (b : Bool) (at_end : Type 0)
    → AllHeld left_old left_mid old mid.taken line → b ≡ true → (x : List ℕ) × Consumes left_mid left_new x × Fills {E = E} mid x (Ok b) new at_end → Sofar left_old left_new old new line
after_more E left_old left_mid left_new old mid new line b at_end held e f =
    let filled = subst (λ b. Fills {E = E} mid f.0 (Ok b) new at_end) e f.2 in
    more_pending left_old left_mid left_new old new mid.taken line f.0 held f.1 filled.1 filled.2

-- the reader found the end
pub after_end : (E : Type 0) (left_old left_mid left_new : Option (List ℕ)) (old mid new : Reading) (line : Line) (b : Bool) (at_end : Type 0)
    → AllHeld left_old left_mid old mid.taken line → b ≡ false → mid.taken < input_limit → (x : List ℕ) × Consumes left_mid left_new x × Fills {E = E} mid x (Ok b) new at_end
    → (x : List ℕ) × Consumes left_old left_new x × ((new.taken ≡ old.taken + length x) × (GivesLine (old.pending ++ x) (record { line = line; is_last = true }) new.pending × ((new.taken < input_limit) × at_end)))
after_end E left_old left_mid left_new old mid new line b at_end held e room f =
    let filled = subst (λ b. Fills {E = E} mid f.0 (Ok b) new at_end) e f.2 in
    let all = none_more left_old left_mid left_new old mid.taken new.taken line f.0 held f.1 filled.0 filled.2 in (
      all.bytes,
      all.from,
      (
        all.size,
        (
          record { text = old.pending ++ all.bytes; held = all.held; one = all.one; cut = (refl, filled.1) },
          (omega (arith, filled.2, room), filled.3),
        ),
      ),
    )
