-- Deeds on one batch.
use Rattle.std.proofs.Common.{◌≡◌, ◌≢◌, ◌≤◌, ℕ, [], ◌∷◌, Some, refl, ap, ◌∙◌, arith}
use Rattle.std.specs.List.{position, slice_get}
use Rattle.deed_words.specs.Effects.{with_phase, with_quantity, with_declaration}
use Rattle.deed_words.specs.Names.{Text}
use Rattle.deed_words.specs.declared.reply.Answer.TheVariants.{Plain}
use Rattle.deed_words.specs.declared.words.Phase.{Phase}
use Rattle.deed_words.specs.declared.words.Phase.TheVariants.{Started, Closed}
use Rattle.deed_words.specs.declared.world.Batch.{Batch}
use Rattle.batch_book.specs.Batches.{is_called}
use Rattle.batch_book.specs.Content.{world_in}
use Rattle.site_stores.specs.declared.change.Change.TheVariants.{Phased, Amended, Said}
use Rattle.site_stores.specs.Changes.{MayChange}
use Rattle.site_stores.specs.Holding.{Held, IsWhole}
use Rattle.site_stores.proofs.Worlds.{phased_world, amended_world, said_world}
use Rattle.site_deeds.specs.declared.done.Done.{Done}
use Rattle.site_deeds.specs.Does.{Does}
use Rattle.site_deeds.proofs.Shared.{name_called, nothing_needed, does_by}

module _ (held : Held) (done : Done) (name : Text) (at : ℕ) (kept : Batch) (whole : IsWhole held.content) (found : position (is_called name) held.content.batches ≡ Some at) (there : slice_get held.content.batches at ≡ Some kept) (told : done.answer ≡ Plain) where
  called : kept.order.batch ≡ name
  called = name_called name held.content.batches at kept found there

  pub to_phase_does : (phase : Phase) → done.change ≡ Phased at kept.phase phase → Does held done Plain (with_phase (world_in held.content) phase name)
  unfolding MayChange
  to_phase_does phase is =
      does_by held done Plain (Phased at kept.phase phase) _ told is whole (record { kept = kept; there = there; is = refl })
      (phased_world held.content at kept.phase phase kept whole there ∙ ap (with_phase (world_in held.content) phase) called) (nothing_needed held.room)

  pub amend_does : (quantity : ℕ) → kept.phase ≢ Closed → done.change ≡ Amended at kept.quantity quantity → Does held done Plain (with_quantity (world_in held.content) quantity name)
  unfolding MayChange
  amend_does quantity open_ is =
      does_by held done Plain (Amended at kept.quantity quantity) _ told is whole (record { kept = kept; there = there; open_ = open_; is = refl })
      (amended_world held.content at kept.quantity quantity kept whole there ∙ ap (with_quantity (world_in held.content) quantity) called) (nothing_needed held.room)

  pub declare_does : (line good spoiled returned : ℕ) → kept.phase ≡ Started → 1 ≤ held.room.declarations → done.change ≡ Said at line (good ∷ spoiled ∷ returned ∷ [])
      → Does held done Plain (with_declaration (world_in held.content) (record { batch = name; line = line; good = good; spoiled = spoiled; returned = returned }))
  unfolding MayChange
  declare_does line good spoiled returned started room is =
      does_by held done Plain (Said at line (good ∷ spoiled ∷ returned ∷ [])) _ told is whole (record { kept = kept; there = there; is = started })
      (said_world held.content at line (good ∷ spoiled ∷ returned ∷ []) kept there
      ∙ ap (λ (n : Text). with_declaration (world_in held.content) (record { batch = n; line = line; good = good; spoiled = spoiled; returned = returned })) called)
      (record { batches = omega arith; declarations = room; rows = omega arith; units = omega arith })
