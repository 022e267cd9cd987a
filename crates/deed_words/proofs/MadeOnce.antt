-- No container code is made twice.
use Rattle.std.proofs.Common.{◌≡◌, ℕ, true, false, List, [], ◌∷◌, ◌++◌, map, sym, ◌∙◌, ap, refl, subst, Option, None, Some, append_assoc, append-nil}
use Rattle.std.specs.Prelude.{if◌then◌else◌}
use Rattle.std.specs.List.{IsDistinct}
use Rattle.std.proofs.lemmas.List.{map-append}
use Rattle.deed_words.specs.Names.{Text, same}
use Rattle.deed_words.specs.Setups.{Setup, IsProper}
use Rattle.deed_words.specs.declared.entry.Entry.{Entry}
use Rattle.deed_words.specs.declared.rule.Rule.{Rule}
use Rattle.deed_words.specs.declared.deed.Deed.{Deed}
use Rattle.deed_words.specs.declared.deed.Deed.TheVariants.{Container as MakeUnit, Seal, Unseal, Void}
use Rattle.deed_words.specs.declared.words.Mark.{Mark}
use Rattle.deed_words.specs.declared.words.Mark.TheVariants as mark
use Rattle.deed_words.specs.declared.world.Container.{Container}
use Rattle.deed_words.specs.World.{World, nothing_yet}
use Rattle.deed_words.specs.Rules.{broken}
use Rattle.deed_words.specs.Effects.{effect, with_orders, with_phase, with_quantity, with_drawn, with_rows, with_unit, marked, with_mark, with_children, without_children, emptied, with_declaration}
use Rattle.deed_words.specs.Replies.{after, unless_broken}
use Rattle.deed_words.specs.Walk.{steps_from}
use Rattle.deed_words.specs.History.{world_from, world_of, IsLawful}
use Rattle.deed_words.proofs.Items.{map-map}
use Rattle.deed_words.specs.Once.{made_by, if_accepted, issued_from, all_codes_made}
use Rattle.deed_words.proofs.UnitCodes.{units_differ}
use Rattle.deed_words.proofs.Soundness.{lawful_is_sound}

codes : List Container → List Text
codes us = map (λ (u : Container). u.sscc) us

code_kept : (to : Mark) (sscc : Text) (u : Container) → (marked to sscc u).sscc ≡ u.sscc
unfolding marked
code_kept to sscc u = elim (same u.sscc sscc) as (λ b. (if b then record u { mark = to } else u).sscc ≡ u.sscc) [ true ↦ refl | false ↦ refl ]

units_grow : (site : Setup) (w : World) (station : ℕ) (deed : Deed) (drawn : List Text) → map (λ (u : Container). u.sscc) (effect site w station deed drawn).units ≡ map (λ (u : Container). u.sscc) w.units ++ made_by site w deed drawn
unfolding effect made_by with_orders with_phase with_quantity with_unit with_mark with_children without_children emptied with_declaration with_rows with_drawn
units_grow site w station (MakeUnit name level) drawn = map-append (λ (u : Container). u.sscc) w.units _
units_grow site w station (Seal unit) drawn = map-map (λ (u : Container). u.sscc) (marked mark.Sealed unit) (code_kept mark.Sealed unit) w.units ∙ sym (append-nil _)
units_grow site w station (Unseal unit) drawn = map-map (λ (u : Container). u.sscc) (marked mark.Filling unit) (code_kept mark.Filling unit) w.units ∙ sym (append-nil _)
units_grow site w station (Void unit) drawn = map-map (λ (u : Container). u.sscc) (marked mark.Void unit) (code_kept mark.Void unit) w.units ∙ sym (append-nil _)
units_grow site w station deed drawn = sym (append-nil _)

grow_unless : (site : Setup) (w : World) (entry : Entry) (rule : Option Rule) → map (λ (u : Container). u.sscc) (unless_broken site w entry rule).units ≡ map (λ (u : Container). u.sscc) w.units ++ if_accepted rule (made_by site w entry.deed entry.drawn)
unfolding unless_broken if_accepted
grow_unless site w entry None = units_grow site w entry.station entry.deed entry.drawn
grow_unless site w entry (Some rule) = sym (append-nil _)

codes_grow : (site : Setup) (w : World) (entries : List Entry) → map (λ (u : Container). u.sscc) (world_from site w entries).units ≡ map (λ (u : Container). u.sscc) w.units ++ issued_from (made_by site) site w entries
unfolding world_from issued_from steps_from after
codes_grow site w [] = sym (append-nil _)
codes_grow site w (entry ∷ entries) =
    codes_grow site (after site w entry) entries
    ∙ ap (λ (cs : List Text). cs ++ issued_from (made_by site) site (after site w entry) entries) (grow_unless site w entry (broken site w entry.station entry.deed))
    ∙ append_assoc (map (λ (u : Container). u.sscc) w.units) _ _

pub codes_once : (site : Setup) (history : List Entry) → IsProper site → IsLawful site history → IsDistinct same (all_codes_made site history)
unfolding world_of
codes_once site history proper lawful = subst (IsDistinct same) (codes_grow site nothing_yet history) (units_differ site (world_of site history) (lawful_is_sound site history proper lawful))

pub codes_of_units : (site : Setup) (history : List Entry) → map (λ unit. unit.sscc) (world_of site history).units ≡ all_codes_made site history
unfolding world_of
codes_of_units site history = codes_grow site nothing_yet history
