-- Histories grow at their end.
use Rattle.std.proofs.Common.{◌≡◌, List, [], ◌∷◌, ◌++◌, sym, refl, subst, append_assoc, append-nil}
use Rattle.deed_words.specs.Setups.{Setup}
use Rattle.deed_words.specs.declared.entry.Entry.{Entry}
use Rattle.deed_words.specs.World.{World, nothing_yet}
use Rattle.deed_words.specs.Replies.{after}
use Rattle.deed_words.specs.History.{world_from, world_of, AllFollow, IsLawful, MayFollow}

pub world_from-append : (site : Setup) (w : World) (entries more : List Entry) → world_from site w (entries ++ more) ≡ world_from site (world_from site w entries) more
unfolding world_from
world_from-append site w [] more = refl
world_from-append site w (entry ∷ entries) more = world_from-append site (after site w entry) entries more

pub follow_front : (site : Setup) (history : List Entry) (w : World) (entries more : List Entry) → AllFollow site history w (entries ++ more) → AllFollow site history w entries
unfolding AllFollow
follow_front site history w [] more a = tt
follow_front site history w (entry ∷ entries) more a = (a.0, follow_front site (history ++ entry ∷ []) (after site w entry) entries more a.1)

pub follow_more : (site : Setup) (history : List Entry) (w : World) (entries : List Entry) (entry : Entry) → AllFollow site history w entries → MayFollow site (history ++ entries) (world_from site w entries) entry → AllFollow site history w (entries ++ entry ∷ [])
unfolding AllFollow world_from
follow_more site history w [] entry a m = (subst (λ (h : List Entry). MayFollow site h w entry) (append-nil history) m, tt)
follow_more site history w (e ∷ entries) entry a m =
    (a.0, follow_more site (history ++ e ∷ []) (after site w e) entries entry a.1 (subst (λ (h : List Entry). MayFollow site h (world_from site (after site w e) entries) entry) (sym (append_assoc history (e ∷ []) entries)) m))

pub follow_last : (site : Setup) (history : List Entry) (w : World) (entries : List Entry) (entry : Entry) → AllFollow site history w (entries ++ entry ∷ []) → MayFollow site (history ++ entries) (world_from site w entries) entry
unfolding AllFollow world_from
follow_last site history w [] entry a = subst (λ (h : List Entry). MayFollow site h w entry) (sym (append-nil history)) a.0
follow_last site history w (e ∷ entries) entry a =
    subst (λ (h : List Entry). MayFollow site h (world_from site (after site w e) entries) entry) (append_assoc history (e ∷ []) entries) (follow_last site (history ++ e ∷ []) (after site w e) entries entry a.1)

pub lawful_front : (site : Setup) (history more : List Entry) → IsLawful site (history ++ more) → IsLawful site history
unfolding IsLawful
lawful_front site history more a = follow_front site [] nothing_yet history more a

pub lawful_more : (site : Setup) (history : List Entry) (entry : Entry) → IsLawful site history → MayFollow site history (world_of site history) entry → IsLawful site (history ++ entry ∷ [])
unfolding IsLawful world_of
lawful_more site history entry a m = follow_more site [] nothing_yet history entry a m

pub lawful_last : (site : Setup) (history : List Entry) (entry : Entry) → IsLawful site (history ++ entry ∷ []) → MayFollow site history (world_of site history) entry
unfolding IsLawful world_of
lawful_last site history entry a = follow_last site [] nothing_yet history entry a
