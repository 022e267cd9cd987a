-- A worked history: it is lawful, its setup and entries are proper, and each number of its station has its meaning.
use Rattle.std.proofs.Common.{◌≡◌, List, [], ◌∷◌, refl, arith, true, false, Some, None, inr}
use Rattle.std.specs.Prelude.{codes}
use Rattle.std.proofs.lemmas.List.Elements.{All-nil, All-cons}
use Rattle.std.specs.List.{IsDistinct}
use Rattle.gs1_keys.specs.Forms.{is_in_form, is_among}
use Rattle.gs1_keys.specs.declared.form.SerialForm.{SerialForm}
use Rattle.gs1_keys.specs.declared.form.Alphabet.TheVariants.{Digits}
use Rattle.gs1_element.specs.Dates.{is_expiry, date_fault}
use Rattle.deed_words.specs.Names.{Text, same, same_name, same_order}
use Rattle.deed_words.specs.Chain.{first, when, holds_of, each, each_from, is_empty}
use Rattle.deed_words.specs.World.{World, nothing_yet, batch_of, row_of}
use Rattle.deed_words.specs.Setups.{IsProper, begins_with, is_offset, is_product, reference_bound, role_of, product_of, half_pool}
use Rattle.deed_words.specs.Proper.{is_order, IsProperEntry}
use Rattle.deed_words.specs.Deeds.{order_rows, batch_named, batch_for}
use Rattle.deed_words.specs.Roles.{is_for, is_planner}
use Rattle.deed_words.specs.Orders.{is_ordered, new_orders, orders_in, conflicts}
use Rattle.deed_words.specs.Tests.{role_forbids, unknown_product, order_conflict, unknown_batch, is_closed, closed, count_range, out_of_range, full, site_full, rows_of_gtin, thin, asked, pool_thin}
use Rattle.deed_words.specs.Rules.{rules_of, broken}
use Rattle.deed_words.specs.Effects.{effect, with_orders, gtin_of}
use Rattle.deed_words.specs.Replies.{orders_answer, answer_to, unless_broken, after, replied, reply_to}
use Rattle.deed_words.specs.Walk.{steps_from}
use Rattle.deed_words.specs.History.{own, last_stamp, serials_of, AreNewFor, MayDraw, AllFollow, IsLawful, told_from, told_to}
use Rattle.deed_words.specs.Numbers.{IsTold, Means, Kept, Reused, New, Gap}
use Rattle.deed_words.specs.declared.entry.Entry.{Entry}
use Rattle.deed_words.specs.declared.deed.OrderRow.{OrderRow}
use Rattle.deed_words.specs.declared.deed.Deed.TheVariants.{Order, Draw}
use Rattle.deed_words.specs.declared.reply.Reply.TheVariants.{Accepted}
use Rattle.deed_words.specs.declared.reply.Answer.TheVariants.{Listed}
use Rattle.deed_words.proofs.ExampleSite.{second_product, site, p1}

site_is_proper : IsProper site
unfolding begins_with same is_offset is_product reference_bound IsDistinct
site_is_proper = record {
  gln = refl;
  prefix = (omega arith, omega arith);
  extension = omega arith;
  reference = omega arith;
  offset = refl;
  product_count = (omega arith, omega arith);
  products = refl;
  gtins_differ = ((refl, tt), (tt, tt));
  station_count = (omega arith, omega arith);
  names_differ = ((refl, (refl, (refl, tt))), ((refl, (refl, tt)), ((refl, tt), (tt, tt))));
}

abbrev name : Text
name = codes "B6"

abbrev order : OrderRow
order = record { batch = name; gtin = second_product; lot = codes "LOT6"; expiry = codes "271231"; quantity = 2; case_size = 2; pallet_size = 0 }

abbrev ordering : Entry
ordering = record { station = p1; number = 1; worker = 0; stamp = 1767225600000; operator = None; deed = Order order; drawn = [] }

abbrev drawing : Entry
drawing = record { station = p1; number = 2; worker = 0; stamp = 1767225600000; operator = Some (codes "ann"); deed = Draw name 2; drawn = codes "000005" ∷ codes "000007" ∷ [] }

abbrev history : List Entry
history = ordering ∷ drawing ∷ []

both_proper : IsProperEntry ordering × IsProperEntry drawing
unfolding is_order is_empty is_expiry date_fault
both_proper = (record { stamp = omega arith; deed = refl; drawn = omega arith }, record { stamp = omega arith; deed = tt; drawn = omega arith })

-- the world after the order
abbrev ordered : World
ordered = after site nothing_yet ordering

abbrev six_digits : SerialForm
six_digits = record { alphabet = Digits; length = 6 }

both_new : AreNewFor site ordered second_product 2 drawing.drawn
unfolding serials_of rows_of_gtin after unless_broken broken rules_of first when holds_of each each_from role_forbids is_for is_planner role_of unknown_product order_rows product_of order_conflict conflicts orders_in site_full full new_orders is_ordered effect with_orders same IsDistinct same_order same_name
both_new = record {
  product = record { gtin = second_product; prefix_length = 7; form = six_digits };
  made = refl;
  counted = refl;
  new = record {
    formed =
        All-cons (λ (serial : Text). is_in_form six_digits serial ≡ true) (codes "000005") (codes "000007" ∷ []) refl
        (All-cons (λ (serial : Text). is_in_form six_digits serial ≡ true) (codes "000007") [] refl (All-nil (λ (serial : Text). is_in_form six_digits serial ≡ true)));
    unknown =
        All-cons (λ (serial : Text). is_among [] serial ≡ false) (codes "000005") (codes "000007" ∷ []) refl
        (All-cons (λ (serial : Text). is_among [] serial ≡ false) (codes "000007") [] refl (All-nil (λ (serial : Text). is_among [] serial ≡ false)));
    distinct = ((refl, tt), (tt, tt));
  };
}

lawful : IsLawful site history
unfolding IsLawful AllFollow own last_stamp MayDraw row_of after unless_broken broken rules_of first when holds_of each each_from role_forbids is_for is_planner role_of unknown_product order_rows product_of order_conflict conflicts orders_in site_full full new_orders is_ordered effect with_orders same same_order same_name unknown_batch batch_for batch_of batch_named closed is_closed out_of_range count_range pool_thin thin asked half_pool rows_of_gtin gtin_of
lawful = (
  record { station = omega arith; number = refl; stamp = omega arith; drawn = refl },
  (record { station = omega arith; number = refl; stamp = omega arith; drawn = both_new }, tt),
)

-- the second number again, whoever operates now, with another deed, the next one, and one that leaves a gap
numbers :
    Means site history p1 2 (Draw name 2) (Kept (Accepted (Listed drawing.drawn)))
    × Means site history p1 2 (Draw name 3) (Reused (Draw name 2))
    × Means site history p1 3 (Draw name 3) New
    × Means site history p1 9 (Draw name 3) (Gap 2)
unfolding Means IsTold steps_from told_to told_from own reply_to replied answer_to orders_answer row_of after unless_broken broken rules_of first when holds_of each each_from role_forbids is_for is_planner role_of unknown_product order_rows product_of order_conflict conflicts orders_in site_full full new_orders is_ordered effect with_orders same same_order same_name unknown_batch batch_for batch_of batch_named closed is_closed out_of_range count_range pool_thin thin asked half_pool rows_of_gtin gtin_of
numbers = (
  (drawing, (omega arith, refl), refl),
  (drawing, Accepted (Listed drawing.drawn), (omega arith, refl), refl, λ e. cc),
  refl,
  (refl, inr (omega arith)),
)
