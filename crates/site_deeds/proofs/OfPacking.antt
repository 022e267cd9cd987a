-- Deeds on what stands in a unit.
use Rattle.std.proofs.Common.{◌≡◌, ◌+◌, ◌<◌, ◌^◌, ℕ, List, [], length, map, get_or, Some, None, sym, ap, ◌∙◌}
use Rattle.std.proofs.lemmas.List.{length-map}
use Rattle.std.specs.List.{position, slice_get, IsDistinct, AllByRecursion as Every}
use Rattle.epc_urn.specs.declared.epc.Epc.{Epc}
use Rattle.deed_words.specs.Effects.{with_children, without_children, emptied}
use Rattle.deed_words.specs.Names.{Text, same_name}
use Rattle.deed_words.specs.World.{parent, inside}
use Rattle.deed_words.specs.declared.reply.Answer.TheVariants as answer
use Rattle.pack_tree.specs.declared.link.Taken.{Taken as OneTaken}
use Rattle.pack_tree.specs.declared.node.Node.{Node}
use Rattle.pack_tree.specs.declared.node.UnitRow.{UnitRow}
use Rattle.pack_tree.specs.Many.{MayTake}
use Rattle.pack_tree.specs.Pairs as tree
use Rattle.pack_tree.specs.Units.{is_coded, code_in}
use Rattle.batch_book.specs.Content.{Content, world_in, row_names, unit_codes, node_name}
use Rattle.site_stores.specs.declared.change.Change.TheVariants as change
use Rattle.site_stores.specs.Changes.{MayChange}
use Rattle.site_stores.specs.Holding.{Held, IsWhole, packed_in}
use Rattle.site_stores.specs.Places.{AreAt}
use Rattle.site_stores.proofs.Finding.{within, part_there}
use Rattle.site_stores.proofs.Placing.{inside_named}
use Rattle.site_stores.proofs.Packs.{may_pack, packed_world, unpacked_world}
use Rattle.site_stores.proofs.Worlds.{emptied_world}
use Rattle.site_deeds.specs.declared.done.Done.{Done}
use Rattle.site_deeds.specs.Does.{Does}
use Rattle.site_deeds.proofs.Shared.{code_found, nothing_needed, does_by}

pub put_does : (held : Held) (done : Done) (sscc : Text) (at : ℕ) (kept : UnitRow) (names : List Epc) (nodes : List Node) → IsWhole held.content → position (is_coded sscc) held.content.units ≡ Some at → slice_get held.content.units at ≡ Some kept
    → AreAt held.content names nodes → IsDistinct same_name names → Every (λ (name : Epc). parent (world_in held.content) name ≡ None) names → held.content.last + length names < 2 ^ 64
    → done.answer ≡ answer.Plain → done.change ≡ change.Put at nodes → Does held done answer.Plain (with_children (world_in held.content) sscc names)
put_does held done sscc at kept names nodes whole found there places once alone last told is =
    let c = held.content in
    does_by held done answer.Plain (change.Put at nodes) _ told is whole (may_pack c at names nodes whole (within (is_coded sscc) c.units at found) once places alone last).may
    (packed_world c at kept names nodes there places ∙ ap (λ (code : Text). with_children (world_in c) code names) (code_found sscc c.units at kept found there)) (nothing_needed held.room)

pub take_does : (held : Held) (done : Done) (names : List Epc) (nodes : List Node) (gone : List OneTaken) → IsWhole held.content → AreAt held.content names nodes → MayTake (packed_in held.content) gone
    → map (λ (taken : OneTaken). taken.child) gone ≡ nodes → done.answer ≡ answer.Plain → done.change ≡ change.Taken gone → Does held done answer.Plain (without_children (world_in held.content) names)
unfolding MayChange
take_does held done names nodes gone whole places may are told is =
    does_by held done answer.Plain (change.Taken gone) _ told is whole may (unpacked_world held.content gone names whole (places ∙ ap (map Some) (sym are))) (nothing_needed held.room)

-- as many are taken out as stand in the unit
all_counted : (c : Content) (sscc : Text) (at : ℕ) (gone : List OneTaken) → IsWhole c → position (is_coded sscc) c.units ≡ Some at → map (λ (taken : OneTaken). taken.child) gone ≡ tree.inside at c.links → length gone ≡ length (inside (world_in c) sscc)
all_counted c sscc at gone whole found are =
    sym (length-map gone (λ (taken : OneTaken). taken.child)) ∙ ap length are ∙ sym (length-map (tree.inside at c.links) (node_name (row_names c) (unit_codes c))) ∙ sym (ap length (inside_named c sscc at whole.units_apart whole.there found))

pub empty_does : (held : Held) (done : Done) (sscc : Text) (at : ℕ) (kept : UnitRow) (count : ℕ) (gone : List OneTaken) → IsWhole held.content → position (is_coded sscc) held.content.units ≡ Some at → slice_get held.content.units at ≡ Some kept
    → MayTake (packed_in held.content) gone → map (λ (taken : OneTaken). taken.child) gone ≡ tree.inside at held.content.links → count ≡ length gone → done.answer ≡ answer.Taken count → done.change ≡ change.Taken gone
    → Does held done (answer.Taken (length (inside (world_in held.content) sscc))) (emptied (world_in held.content) sscc)
unfolding MayChange
empty_does held done sscc at kept count gone whole found there may are many told is =
    let c = held.content in
    let counted : length gone ≡ length (inside (world_in c) sscc) = all_counted c sscc at gone whole found are in
    let code : get_or (unit_codes c) at [] ≡ sscc = part_there code_in c.units at kept [] there ∙ code_found sscc c.units at kept found there in
    does_by held done (answer.Taken (length (inside (world_in c) sscc))) (change.Taken gone) _ (told ∙ ap answer.Taken (many ∙ counted)) is whole may
    (emptied_world c gone at whole (within (is_coded sscc) c.units at found) are ∙ ap (emptied (world_in c)) code) (nothing_needed held.room)
