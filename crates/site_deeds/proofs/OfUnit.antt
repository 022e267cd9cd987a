-- Deeds on one unit.
use Rattle.std.proofs.Common.{◌≡◌, ◌+◌, ◌<◌, ◌≤◌, ℕ, zero, suc, false, true≢false, List, [], ◌∷◌, length, map, Some, None, get_or, refl, sym, ap, ◌∙◌, subst, arith}
use Rattle.std.specs.List.{position, slice_get, AllByRecursion as Every}
use Rattle.std.proofs.lemmas.Bool.{false_from_ne_true}
use Rattle.std.proofs.lemmas.List.{length-map}
use Rattle.std.proofs.lemmas.List.Quantifiers.{position-Some}
use Rattle.deed_words.specs.Chain.{numbers_below}
use Rattle.deed_words.specs.Effects.{with_mark, with_unit}
use Rattle.deed_words.specs.Names.{Text, same}
use Rattle.deed_words.specs.Setups.{Setup, code_of, reference_bound}
use Rattle.deed_words.specs.Sound.{IsSound}
use Rattle.deed_words.specs.declared.reply.Answer.TheVariants.{Plain, Made}
use Rattle.deed_words.specs.declared.words.Level.{Level}
use Rattle.deed_words.specs.declared.words.Level.TheVariants.{Case}
use Rattle.deed_words.specs.declared.words.Mark.{Mark}
use Rattle.deed_words.specs.declared.world.Batch.{Batch}
use Rattle.deed_words.specs.declared.world.Container.{Container}
use Rattle.deed_words.proofs.Items.{Every-append, Every-weaker, Every-map, Every-of_map}
use Rattle.deed_words.proofs.Sameness.{same-true}
use Rattle.deed_words.proofs.UnitCodes.{code_apart}
use Rattle.pack_tree.specs.declared.node.UnitRow.{UnitRow}
use Rattle.pack_tree.specs.Units.{is_coded, code_in, new_unit}
use Rattle.batch_book.specs.Batches.{is_called}
use Rattle.batch_book.specs.Content.{Content, world_in, unit_in, batch_names}
use Rattle.site_stores.specs.declared.change.Change.TheVariants as change
use Rattle.site_stores.specs.Changes.{MayChange}
use Rattle.site_stores.specs.Holding.{Held, IsWhole}
use Rattle.site_stores.proofs.Finding.{within}
use Rattle.site_stores.proofs.Growing.{made_world}
use Rattle.site_stores.proofs.Worlds.{marked_world}
use Rattle.site_deeds.specs.declared.done.Done.{Done}
use Rattle.site_deeds.specs.Does.{Does}
use Rattle.site_deeds.proofs.Shared.{name_called, code_found, nothing_needed, does_by}

pub to_mark_does : (held : Held) (done : Done) (sscc : Text) (at : ℕ) (kept : UnitRow) (mark : Mark) → IsWhole held.content → position (is_coded sscc) held.content.units ≡ Some at → slice_get held.content.units at ≡ Some kept → done.answer ≡ Plain
    → done.change ≡ change.Marked at kept.mark mark → Does held done Plain (with_mark (world_in held.content) mark sscc)
unfolding MayChange
to_mark_does held done sscc at kept mark whole found there told is =
    does_by held done Plain (change.Marked at kept.mark mark) _ told is whole (record { kept = kept; there = there; is = refl })
    (marked_world held.content at kept.mark mark kept whole there ∙ ap (with_mark (world_in held.content) mark) (code_found sscc held.content.units at kept found there)) (nothing_needed held.room)

-- ---- the code of the next unit is new

below : (n : ℕ) → Every (λ i. i < n) (numbers_below n)
unfolding numbers_below
below zero = tt
below (suc n) = Every-append (λ i. i < suc n) (numbers_below n) (n ∷ []) (Every-weaker (λ i. i < n) (λ i. i < suc n) (λ i h. omega arith) (numbers_below n) (below n)) (omega arith, tt)

codes_before : (site : Setup) (n : ℕ) → site.reference + n < reference_bound site → Every (λ code. same code (code_of site n) ≡ false) (map (code_of site) (numbers_below n))
codes_before site n unspent =
    Every-map (λ code. same code (code_of site n) ≡ false) (code_of site) (numbers_below n)
    (Every-weaker (λ i. i < n) (λ i. same (code_of site i) (code_of site n) ≡ false)
    (λ i h. false_from_ne_true (same (code_of site i) (code_of site n)) (λ t. let e : i ≡ n = code_apart site i n (omega arith) unspent (same-true (code_of site i) (code_of site n) t) in absurd (omega arith)))
    (numbers_below n) (below n))

codes_in : (names : List Text) (units : List UnitRow) → map (λ (u : Container). u.sscc) (map (unit_in names) units) ≡ map code_in units
codes_in names [] = refl
codes_in names (unit ∷ units) = ap (λ (cs : List Text). unit.sscc ∷ cs) (codes_in names units)

every_get : {A : Type 0} (P : A → Type 0) (xs : List A) (i : ℕ) (d : A) → i < length xs → Every P xs → P (get_or xs i d)
every_get P [] i d l a = absurd (omega (arith, l))
every_get P (x ∷ xs) zero d l a = a.0
every_get P (x ∷ xs) (suc i) d l a = every_get P xs i d (omega (arith, l)) a.1

no_box : UnitRow
no_box = new_unit [] 0 Case

not_placed : (code : Text) (units : List UnitRow) → Every (λ other. same other code ≡ false) (map code_in units) → position (is_coded code) units ≡ None
unfolding is_coded
not_placed code units apart =
    (elim (position (is_coded code) units) as (λ o. position (is_coded code) units ≡ o → o ≡ None) [
      | None ↦ λ _. refl
      | Some k ↦ λ e.
          let p = position-Some (is_coded code) units k no_box e in
          absurd (true≢false (sym p.1 ∙ every_get (λ (u : UnitRow). same (code_in u) code ≡ false) units k no_box p.0 (Every-of_map (λ other. same other code ≡ false) code_in units apart)))
    ]) refl

code_is_new : (site : Setup) (c : Content) → IsSound site (world_in c) → site.reference + length c.units < reference_bound site → position (is_coded (code_of site (length c.units))) c.units ≡ None
code_is_new site c sound unspent =
    let long : length (world_in c).units ≡ length c.units = length-map c.units (unit_in (batch_names c)) in
    let issued : map code_in c.units ≡ map (code_of site) (numbers_below (length c.units)) = sym (codes_in (batch_names c) c.units) ∙ sound.issued ∙ ap (λ (n : ℕ). map (code_of site) (numbers_below n)) long in
    not_placed (code_of site (length c.units)) c.units (subst (Every (λ code. same code (code_of site (length c.units)) ≡ false)) (sym issued) (codes_before site (length c.units) unspent))

pub make_does : (site : Setup) (held : Held) (done : Done) (name sscc : Text) (at : ℕ) (kept : Batch) (level : Level) → IsWhole held.content → IsSound site (world_in held.content) → site.reference + length held.content.units < reference_bound site
    → position (is_called name) held.content.batches ≡ Some at → slice_get held.content.batches at ≡ Some kept → sscc ≡ code_of site (length held.content.units) → done.answer ≡ Made sscc → done.change ≡ change.Made sscc at level → 1 ≤ held.room.units
    → Does held done (Made (code_of site (length (world_in held.content).units))) (with_unit site (world_in held.content) name level)
unfolding MayChange
make_does site held done name sscc at kept level whole sound unspent found there code told is room =
    let long : length held.content.units ≡ length (world_in held.content).units = sym (length-map held.content.units (unit_in (batch_names held.content))) in
    does_by held done (Made (code_of site (length (world_in held.content).units))) (change.Made sscc at level) _ (told ∙ ap Made (code ∙ ap (code_of site) long)) is whole
    (record { there = within (is_called name) held.content.batches at found; new = ap (λ (t : Text). position (is_coded t) held.content.units) code ∙ code_is_new site held.content sound unspent })
    (made_world site held.content sscc at level kept whole there code ∙ ap (λ (n : Text). with_unit site (world_in held.content) n level) (name_called name held.content.batches at kept found there))
    (record { batches = omega arith; declarations = omega arith; rows = omega arith; units = room })
