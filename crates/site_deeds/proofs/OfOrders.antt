-- Orders that are new.
use Rattle.std.proofs.Common.{◌≡◌, ◌-◌, ◌≤◌, ℕ, suc, Bool, true, false, ◌||◌, List, [], ◌∷◌, ◌++◌, length, map, Some, All, refl, sym, ap, ◌∙◌, subst, arith, true≢false}
use Rattle.std.specs.Prelude.{if◌then◌else◌}
use Rattle.std.specs.List.{list_any}
use Rattle.std.proofs.lemmas.List.{map-append, append-nil}
use Rattle.std.proofs.lemmas.List.Elements.{All-cons}
use Rattle.deed_words.specs.Deeds.{order_rows}
use Rattle.deed_words.specs.Effects.{with_orders}
use Rattle.deed_words.specs.Names.{Text, same}
use Rattle.deed_words.specs.Orders.{is_ordered, new_orders, orders_in}
use Rattle.deed_words.specs.declared.deed.Deed.{Deed}
use Rattle.deed_words.specs.declared.deed.OrderRow.{OrderRow}
use Rattle.deed_words.specs.declared.reply.Answer.TheVariants.{Orders}
use Rattle.deed_words.specs.declared.world.Batch.{Batch}
use Rattle.pack_tree.specs.Stepping.{MayStep}
use Rattle.batch_book.specs.Batches.{is_called, planned}
use Rattle.batch_book.specs.Content.{Content, world_in}
use Rattle.site_rules.specs.Asked.{IsFound}
use Rattle.site_rules.specs.Origins.{origin_of, AreOrigins}
use Rattle.site_rules.specs.Rows.{kept}
use Rattle.site_rules.specs.declared.found.Found.{Found}
use Rattle.site_rules.specs.declared.origins.Origin.{Origin}
use Rattle.site_stores.specs.declared.change.Change.TheVariants.{Ordered}
use Rattle.site_stores.specs.Changes.{MayChange, MayOrder}
use Rattle.site_stores.specs.Holding.{Held, IsWhole}
use Rattle.site_stores.proofs.Growing.{ordered_world}
use Rattle.site_deeds.specs.declared.done.Done.{Done}
use Rattle.site_deeds.specs.Does.{Does}
use Rattle.site_deeds.proofs.Shared.{does_by}

-- the origins that were found for the deed's rows
pub found_origins : (c : Content) (deed : Deed) (found : Found) (rows : List OrderRow) (origins : List Origin) → IsFound c deed found → rows ≡ order_rows deed → origins ≡ found.origins.items → AreOrigins c rows origins
found_origins c deed found rows origins is same_rows same_origins =
    ap (map Some) same_origins ∙ is.origins_are ∙ ap (λ (rs : List OrderRow). map (λ (row : OrderRow). origin_of c rs row.batch) rs) (sym same_rows)

-- ---- rows that are new

pub kept_old : (is_new : Bool) (new : List OrderRow) (row : OrderRow) → is_new ≡ false → new ≡ new ++ kept is_new row
kept_old is_new new row e = sym (ap (λ (b : Bool). new ++ kept b row) e ∙ append-nil new)

pub kept_new : (is_new : Bool) (new : List OrderRow) (row : OrderRow) → is_new ≡ true → new ++ row ∷ [] ≡ new ++ kept is_new row
kept_new is_new new row e = sym (ap (λ (b : Bool). new ++ kept b row) e)

pub few_new : (orders rows : List OrderRow) → length (new_orders orders rows) ≤ length rows
unfolding new_orders
few_new orders [] = omega arith
few_new orders (row ∷ rows) =
    let a = few_new orders rows in
    let b = few_new (orders ++ row ∷ []) rows in
    elim (is_ordered orders row.batch) as (λ t. length (if t then new_orders orders rows else row ∷ new_orders (orders ++ row ∷ []) rows) ≤ suc (length rows)) [ true ↦ omega (arith, a) | false ↦ omega (arith, b) ]

-- ---- they may be ordered one after the other

order_of : Batch → OrderRow
order_of batch = batch.order

neither : (a b : Bool) → (a || b) ≡ false → (a ≡ false) × (b ≡ false)
neither true b e = absurd (true≢false e)
neither false b e = (refl, e)

none_called : (name : Text) (batches : List Batch) → list_any (λ (o : OrderRow). same o.batch name) (map (λ (batch : Batch). batch.order) batches) ≡ false → All (λ batch. is_called name batch ≡ false) batches
unfolding is_called
none_called name [] e = λ k d l. absurd (omega (arith, l))
none_called name (batch ∷ batches) e =
    let p = neither (same batch.order.batch name) (list_any (λ (o : OrderRow). same o.batch name) (map (λ (b : Batch). b.order) batches)) e in
    All-cons (λ (b : Batch). same b.order.batch name ≡ false) batch batches p.0 (none_called name batches p.1)

may_order : (batches : List Batch) (rows : List OrderRow) → MayOrder batches (new_orders (map (λ (batch : Batch). batch.order) batches) rows)
unfolding MayStep new_orders is_ordered
may_order batches [] = tt
may_order batches (row ∷ rows) =
    let orders : List OrderRow = map (λ (batch : Batch). batch.order) batches in
    (elim (list_any (λ (o : OrderRow). same o.batch row.batch) orders) as (λ b. list_any (λ (o : OrderRow). same o.batch row.batch) orders ≡ b → MayOrder batches (if b then new_orders orders rows else row ∷ new_orders (orders ++ row ∷ []) rows)) [
      | true ↦ λ _. may_order batches rows
      | false ↦ λ e. (
        record { new = none_called row.batch batches e },
        subst (λ (os : List OrderRow). MayOrder (batches ++ planned row ∷ []) (new_orders os rows)) (map-append (λ (batch : Batch). batch.order) batches (planned row ∷ [])) (may_order (batches ++ planned row ∷ []) rows),
      )
    ]) refl

pub order_does : (held : Held) (done : Done) (rows new : List OrderRow) (added already : ℕ) → IsWhole held.content → new ≡ new_orders (orders_in (world_in held.content)) rows → added ≡ length new → already ≡ length rows - added
    → done.answer ≡ Orders added already → done.change ≡ Ordered new → length new ≤ held.room.batches
    → Does held done (Orders (length (new_orders (orders_in (world_in held.content)) rows)) (length rows - length (new_orders (orders_in (world_in held.content)) rows))) (with_orders (world_in held.content) rows)
unfolding MayChange orders_in
order_does held done rows new added already whole are counted others told is room =
    let orders : List OrderRow = orders_in (world_in held.content) in
    let count : added ≡ length (new_orders orders rows) = counted ∙ ap length are in
    let rest : already ≡ length rows - length (new_orders orders rows) = others ∙ ap (λ (n : ℕ). length rows - n) count in
    does_by held done (Orders (length (new_orders orders rows)) (length rows - length (new_orders orders rows))) (Ordered new) _
    (told ∙ (λ z. Orders (count z) (rest z))) is whole
    (subst (MayOrder held.content.batches) (sym are) (may_order held.content.batches rows))
    (ordered_world held.content new rows whole are)
    (record { batches = room; declarations = omega arith; rows = omega arith; units = omega arith })
