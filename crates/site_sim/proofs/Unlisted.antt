-- A reply that lists nothing teaches no serials.
use Rattle.std.proofs.Common.{◌≡◌, ◌+◌, ◌∙◌, ℕ, false, not, List, [], ◌++◌, length, refl, sym, ap, arith, append-nil}
use Rattle.deed_words.specs.Names.{Text}
use Rattle.deed_words.specs.declared.reply.Reply.{Reply}
use Rattle.deed_words.specs.declared.reply.Reply.TheVariants.{Refused}
use Rattle.deed_words.specs.declared.rule.Rule.{Rule}
use Rattle.deed_words.specs.Once.{listed, made_told}
use Rattle.site_sim.specs.declared.known.Known.{Known}
use Rattle.site_sim.specs.declared.request.Request.{Request}
use Rattle.site_sim.specs.declared.request.Request.TheVariants as request
use Rattle.site_sim.specs.Knowing.{Learns, drawn_for, is_accepted, lent_for, one_if}
use Rattle.site_sim.specs.Requests.{is_planners}

nothing_lent : (r : Request) (told : Reply) → listed told ≡ [] → lent_for r told ≡ []
unfolding lent_for
nothing_lent (request.Order quantity) told none = refl
nothing_lent request.Start told none = refl
nothing_lent (request.Draw size) told none = refl
nothing_lent (request.Lend size) told none = none
nothing_lent (request.Commission part) told none = refl
nothing_lent (request.Make level) told none = refl
nothing_lent (request.PackItems place part) told none = refl
nothing_lent (request.PackCases place part) told none = refl
nothing_lent (request.Seal place) told none = refl
nothing_lent (request.Declare good) told none = refl
nothing_lent request.Close told none = refl

nothing_drawn : (r : Request) (told : Reply) → listed told ≡ [] → drawn_for r told ≡ []
unfolding drawn_for
nothing_drawn (request.Order quantity) told none = refl
nothing_drawn request.Start told none = refl
nothing_drawn (request.Draw size) told none = none
nothing_drawn (request.Lend size) told none = refl
nothing_drawn (request.Commission part) told none = refl
nothing_drawn (request.Make level) told none = refl
nothing_drawn (request.PackItems place part) told none = refl
nothing_drawn (request.PackCases place part) told none = refl
nothing_drawn (request.Seal place) told none = refl
nothing_drawn (request.Declare good) told none = refl
nothing_drawn request.Close told none = refl

pub lent_nothing : (xs : List Text) (r : Request) (told : Reply) → listed told ≡ [] → xs ≡ xs ++ lent_for r told
lent_nothing xs r told none = sym (ap (λ (ys : List Text). xs ++ ys) (nothing_lent r told none) ∙ append-nil xs)

pub drawn_nothing : (n : ℕ) (r : Request) (told : Reply) → listed told ≡ [] → n ≡ n + length (drawn_for r told)
drawn_nothing n r told none = let e = ap length (nothing_drawn r told none) in omega (arith, e)

same_count : (n m : ℕ) (xs : List Text) → m ≡ n → xs ≡ [] → m ≡ n + length xs
same_count n m xs same none = let e = ap length none in omega (arith, same, e)

-- a refusal teaches its number alone
pub refusal_teaches : (old new : Known) (r : Request) (rule : Rule) (told : Reply) → told ≡ Refused rule → new.planner ≡ old.planner + one_if (is_planners r) → new.line ≡ old.line + one_if (not (is_planners r))
    → (new.lent ≡ old.lent) × (new.accepted ≡ old.accepted) × (new.serials ≡ old.serials) × (new.units ≡ old.units) × (new.sent ≡ old.sent) → Learns old new r told
unfolding listed made_told
refusal_teaches old new r rule told is planner line rest =
    let taken : is_accepted told ≡ false = ap is_accepted is in
    let counted : one_if (is_accepted told) ≡ 0 = ap one_if taken in
    let same = rest.1 in
    record {
      lent = rest.0 ∙ lent_nothing old.lent r told (ap listed is);
      planner = planner;
      line = line;
      accepted = omega (arith, same, counted);
      serials = same_count old.serials new.serials (drawn_for r told) rest.2 (nothing_drawn r told (ap listed is));
      units = same_count old.units new.units (made_told told) rest.3 (ap made_told is);
      sent = rest.4;
    }
