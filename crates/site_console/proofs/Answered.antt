-- What was answered to a number stays its answer in each longer history.
use Rattle.std.proofs.Common.{◌≡◌, ◌∙◌, ◌-◌, ℕ, zero, suc, nat_eq, List, [], ◌∷◌, ◌++◌, filter, Some, refl, sym, subst, ap}
use Rattle.std.specs.List.{slice_get}
use Rattle.std.proofs.lemmas.List.Elements.{filter-append}
use Rattle.deed_words.specs.Setups.{Setup}
use Rattle.deed_words.specs.World.{World, nothing_yet}
use Rattle.deed_words.specs.declared.deed.Deed.{Deed}
use Rattle.deed_words.specs.declared.entry.Entry.{Entry}
use Rattle.deed_words.specs.declared.reply.Reply.{Reply}
use Rattle.deed_words.specs.Replies.{after, reply_to}
use Rattle.deed_words.specs.History.{told_from, told_to, world_from, world_of}
use Rattle.deed_words.specs.Numbers.{Means, Kept, IsTold}
use Rattle.deed_words.specs.Walk.{steps_from}

get_front : {X : Type 0} (xs ys : List X) (i : ℕ) (x : X) → slice_get xs i ≡ Some x → slice_get (xs ++ ys) i ≡ Some x
get_front [] ys i x is = absurd (cc)
get_front (y ∷ xs) ys zero x is = is
get_front (y ∷ xs) ys (suc i) x is = get_front xs ys i x is

told_from-append : (site : Setup) (w : World) (entries more : List Entry) → told_from site w (entries ++ more) ≡ told_from site w entries ++ told_from site (world_from site w entries) more
unfolding told_from steps_from world_from
told_from-append site w [] more = refl
told_from-append site w (entry ∷ entries) more = ap (λ (xs : List (Entry × Reply)). (entry, reply_to site w entry) ∷ xs) (told_from-append site (after site w entry) entries more)

told_to-append : (site : Setup) (history more : List Entry) (station : ℕ) → told_to site (history ++ more) station ≡ told_to site history station ++ filter (λ told. nat_eq told.0.station station) (told_from site (world_of site history) more)
unfolding told_to world_of
told_to-append site history more station =
    ap (λ (xs : List (Entry × Reply)). filter (λ told. nat_eq told.0.station station) xs) (told_from-append site nothing_yet history more) ∙ filter-append (λ (told : Entry × Reply). nat_eq told.0.station station) (told_from site nothing_yet history) (told_from site (world_from site nothing_yet history) more)

pub kept_on : (site : Setup) (history more : List Entry) (station number : ℕ) (deed : Deed) (reply : Reply) → Means site history station number deed (Kept reply) → Means site (history ++ more) station number deed (Kept reply)
unfolding Means IsTold
kept_on site history more station number deed reply is = (
  is.0,
  (
    is.1.0,
    subst (λ (xs : List (Entry × Reply)). slice_get xs (number - 1) ≡ Some (is.0, reply)) (sym (told_to-append site history more station))
        (get_front (told_to site history station) _ (number - 1) (is.0, reply) is.1.1),
  ),
  is.2,
)
