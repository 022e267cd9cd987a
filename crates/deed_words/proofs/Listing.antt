-- What replies list is what is issued.
use Rattle.std.proofs.Common.{◌≡◌, ℕ, List, [], ◌∷◌, ◌++◌, ◌∙◌, map, sym, refl, ap, Option, None, Some}
use Rattle.std.specs.Prelude.{flat_map}
use Rattle.epc_urn.specs.declared.epc.Epc.TheVariants.{Item}
use Rattle.deed_words.specs.declared.entry.Entry.{Entry}
use Rattle.deed_words.specs.declared.rule.Rule.{Rule}
use Rattle.deed_words.specs.declared.deed.Deed.{Deed}
use Rattle.deed_words.specs.declared.deed.Deed.TheVariants.{Draw, Lend, Container as MakeUnit}
use Rattle.deed_words.specs.declared.reply.Reply.{Reply}
use Rattle.deed_words.specs.declared.reply.Reply.TheVariants.{Accepted}
use Rattle.deed_words.specs.declared.world.Row.{Row}
use Rattle.deed_words.specs.Names.{Text}
use Rattle.deed_words.specs.World.{World, name_of, nothing_yet}
use Rattle.deed_words.specs.Setups.{Setup}
use Rattle.deed_words.specs.Effects.{gtin_of, lent_rows}
use Rattle.deed_words.specs.Rules.{broken}
use Rattle.deed_words.specs.Replies.{orders_answer, answer_to, replied, reply_to}
use Rattle.deed_words.specs.Once.{drawn_by, lent_by, made_by, if_accepted, issued_by, issued_from, all_codes_made, serial_of, listed, made_told}
use Rattle.deed_words.specs.Walk.{Step, steps_of, rule_at}
use Rattle.deed_words.specs.History.{told_from}

serials_of_rows : (rows : List Row) → map serial_of (map name_of rows) ≡ map (λ row. row.serial) rows
unfolding serial_of
serials_of_rows [] = refl
serials_of_rows (row ∷ rows) = ap (λ serials. row.serial ∷ serials) (serials_of_rows rows)

serials_of_items : (gtin : Text) (serials : List Text) → map serial_of (map (Item gtin) serials) ≡ serials
unfolding serial_of
serials_of_items gtin [] = refl
serials_of_items gtin (serial ∷ serials) = ap (λ more. serial ∷ more) (serials_of_items gtin serials)

drawn_told : (site : Setup) (w : World) (entry : Entry) (name : Text) (count : ℕ) (rule : Option Rule) → entry.deed ≡ Draw name count → listed (replied site w entry rule) ≡ map serial_of (if_accepted rule (drawn_by w entry.deed entry.drawn))
unfolding replied if_accepted listed answer_to drawn_by
drawn_told site w entry name count None e = rw e (sym (serials_of_items (gtin_of w name) entry.drawn))
drawn_told site w entry name count (Some rule) e = refl

lent_told : (site : Setup) (w : World) (entry : Entry) (name : Text) (count : ℕ) (rule : Option Rule) → entry.deed ≡ Lend name count → listed (replied site w entry rule) ≡ map serial_of (if_accepted rule (lent_by w entry.deed entry.drawn))
unfolding replied if_accepted listed answer_to lent_by
lent_told site w entry name count None e = rw e (sym (serials_of_rows (lent_rows w name count)))
lent_told site w entry name count (Some rule) e = refl

pub draws_told : (site : Setup) (w : World) (entry : Entry) (name : Text) (count : ℕ) → entry.deed ≡ Draw name count → listed (reply_to site w entry) ≡ map serial_of (issued_by drawn_by site w entry)
unfolding reply_to
draws_told site w entry name count e = drawn_told site w entry name count (broken site w entry.station entry.deed) e

pub lends_told : (site : Setup) (w : World) (entry : Entry) (name : Text) (count : ℕ) → entry.deed ≡ Lend name count → listed (reply_to site w entry) ≡ map serial_of (issued_by lent_by site w entry)
unfolding reply_to
lends_told site w entry name count e = lent_told site w entry name count (broken site w entry.station entry.deed) e

-- ---- the codes that are made

made_unless : (site : Setup) (w : World) (station : ℕ) (deed : Deed) (drawn : List Text) → made_told (Accepted (answer_to site w deed drawn)) ≡ made_by site w deed drawn
unfolding made_told made_by answer_to orders_answer
made_unless site w station (MakeUnit name level) drawn = refl
made_unless site w station deed drawn = refl

made_told_by : (site : Setup) (w : World) (entry : Entry) (rule : Option Rule) → made_told (replied site w entry rule) ≡ if_accepted rule (made_by site w entry.deed entry.drawn)
unfolding replied if_accepted made_told
made_told_by site w entry None = made_unless site w entry.station entry.deed entry.drawn
made_told_by site w entry (Some rule) = refl

flat_mapped : {A B C : Type 0} (g : A → B) (f : B → List C) (h : A → List C) → ((x : A) → f (g x) ≡ h x) → (xs : List A) → flat_map f (map g xs) ≡ flat_map h xs
flat_mapped g f h e [] = refl
flat_mapped {A} {B} {C} g f h e (x ∷ xs) = ap (λ (ys : List C). ys ++ flat_map f (map g xs)) (e x) ∙ ap (λ (ys : List C). h x ++ ys) (flat_mapped g f h e xs)

pub codes_told : (site : Setup) (history : List Entry) → flat_map (λ told. made_told told.1) (told_from site nothing_yet history) ≡ all_codes_made site history
unfolding told_from issued_from reply_to
codes_told site history =
    flat_mapped (λ (step : Step). (step.entry, reply_to site step.before step.entry)) (λ (told : Entry × Reply). made_told told.1) (λ (step : Step). issued_by (made_by site) site step.before step.entry)
    (λ step. made_told_by site step.before step.entry (rule_at site step)) (steps_of site history)
