-- Parts of a list that may pass its end.
use Rattle.std.proofs.Common.{◌≡◌, ◌<◌, ◌+◌, ◌∙◌, ℕ, List, [], ◌∷◌, ◌++◌, length, map, take, drop, get_or, sym, ap, arith, append_assoc}
use Rattle.std.specs.Prelude.{min}
use Rattle.std.proofs.lemmas.List.{take_min, drop_min, drop_more}
use Rattle.std.proofs.lemmas.List.FromFn.{map-range_with_len_more}
use Rattle.deed_words.specs.Names.{Text}
use Rattle.site_sim.specs.Asking.{printed}
use Rattle.site_sim.specs.Example as example
use Rattle.site_sim.specs.Requests.{below}

pub part_is : {X : Type 0} (from size : ℕ) (xs : List X) → take (min size (length (drop (min from (length xs)) xs))) (drop (min from (length xs)) xs) ≡ take size (drop from xs)
part_is from size xs = take_min size (drop (min from (length xs)) xs) ∙ ap (take size) (drop_min from xs)

-- one number more
pub one_more : {X : Type 0} (f : ℕ → X) (n : ℕ) → map f (below (n + 1)) ≡ map f (below n) ++ f n ∷ []
one_more f n = map-range_with_len_more f 0 n n (omega arith)

-- what is made of the one at a place comes behind what was made of those before it
pub put_on : {X Y : Type 0} (f : X → Y) (done new all : List Y) (xs : List X) (i : ℕ) (x : X) (y : Y) → i < length xs → get_or xs i x ≡ x → y ≡ f x → new ≡ done ++ y ∷ [] → done ++ map f (drop i xs) ≡ all → new ++ map f (drop (i + 1) xs) ≡ all
put_on f done new all xs i x y less is made next before =
    ap (λ (ys : List _). ys ++ map f (drop (i + 1) xs)) (next ∙ ap (λ (z : _). done ++ z ∷ []) made)
    ∙ append_assoc done (f x ∷ []) (map f (drop (i + 1) xs))
    ∙ ap (λ (ys : List _). done ++ map f ys) (sym (drop_more xs i x less ∙ ap (λ (z : _). z ∷ drop (i + 1) xs) is)) ∙ before

pub is_printed : (gtin serial lot : Text) → gtin ≡ example.first_gtin → lot ≡ example.batch → record { gtin = gtin; serial = serial; lot = lot; expiry = example.expiry } ≡ printed serial
is_printed gtin serial lot g l = ap (λ (t : Text). record { gtin = t; serial = serial; lot = lot; expiry = example.expiry }) g ∙ ap (λ (t : Text). record { gtin = example.first_gtin; serial = serial; lot = t; expiry = example.expiry }) l
