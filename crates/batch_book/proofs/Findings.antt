-- The seven findings over the world by name, by what is found by number.
use Rattle.std.proofs.Common.{◌≡◌, ℕ, ◌<◌, ◌&&◌, not, true, false, eqb, List, [], ◌∷◌, length, map, Option, Some, None, refl, sym, ap, ◌∙◌, All}
use Rattle.std.specs.Prelude.{find, option_map, option_and_then, is_none, nat_lt, if◌then◌else◌}
use Rattle.std.specs.List.{slice_get, position}
use Rattle.std.proofs.lemmas.List.{get_or-map}
use Rattle.std.proofs.lemmas.Option.{slice_get_within}
use Rattle.epc_urn.specs.declared.epc.Epc.{Epc}
use Rattle.epc_urn.specs.declared.epc.Epc.TheVariants.{Unit as Box}
use Rattle.deed_words.specs.Names.{Text, same}
use Rattle.deed_words.specs.Chain.{first, when, each, holds_of}
use Rattle.deed_words.specs.Setups.{Setup}
use Rattle.deed_words.specs.World.{parent, name_of, units_in}
use Rattle.deed_words.specs.Moves.{is_lent, is_rejected, is_active, is_filling, is_sealed}
use Rattle.deed_words.specs.Accounts.{is_case, has_pallets, stands_loose, differs, still_lent, still_rejected, unpacked, unit_open, unit_loose, not_declared, declared_differs, findings, finding}
use Rattle.deed_words.specs.declared.rule.Finding.{Finding}
use Rattle.deed_words.specs.declared.rule.Finding.TheVariants.{StillLent, StillRejected, Unpacked, UnitOpen, UnitLoose, NotDeclared, DeclaredDiffers}
use Rattle.deed_words.specs.declared.words.State.{State}
use Rattle.deed_words.specs.declared.words.State.TheVariants.{Fresh, Lent, Returned, Spoiled, Active, Sampled, Rejected, Gone}
use Rattle.deed_words.specs.declared.world.Batch.{Batch}
use Rattle.deed_words.specs.declared.world.Row.{Row}
use Rattle.deed_words.specs.declared.world.Container.{Container}
use Rattle.item_store.specs.declared.row.ItemRow.{ItemRow}
use Rattle.item_store.specs.Rows.{state_code, has_state, is_in, item_name, is_lent_to, line_counts_of}
use Rattle.item_store.specs.Rows as rows
use Rattle.pack_tree.specs.declared.node.Node.TheVariants.{Item as AnItem, Unit as AUnit}
use Rattle.pack_tree.specs.declared.node.UnitRow.{UnitRow}
use Rattle.pack_tree.specs.Pairs.{parent_in}
use Rattle.pack_tree.specs.Packing.{IsThereIn}
use Rattle.pack_tree.specs.Units.{code_in}
use Rattle.pack_tree.specs.Units as units
use Rattle.batch_book.specs.Batches.{name_in, AreApart, IsNamed}
use Rattle.batch_book.specs.Content.{Content, row_names, unit_codes, name_at, unit_in, node_name, world_in}
use Rattle.batch_book.specs.declared.packed.Fault.TheVariants.{Open, Loose}
use Rattle.batch_book.specs.Closing.{IsFirstIn, IsFirstFor, is_free, is_unpacked, shows, is_shown, silent, differing}
use Rattle.batch_book.proofs.Lists.{get_or_got}
use Rattle.batch_book.proofs.Found.{first_position, each_first}
use Rattle.batch_book.proofs.Bridge.{row_there, row_nowhere, unit_there, unit_nowhere, batch_there, parent_is}
use Rattle.batch_book.proofs.Reckoned.{has_line_is, line_numbers_is, declared_is}

lent_code : (s : State) → is_lent s ≡ eqb (state_code s) 1
unfolding is_lent
lent_code Fresh = refl
lent_code Lent = refl
lent_code Returned = refl
lent_code Spoiled = refl
lent_code Active = refl
lent_code Sampled = refl
lent_code Rejected = refl
lent_code Gone = refl

rejected_code : (s : State) → is_rejected s ≡ eqb (state_code s) 6
unfolding is_rejected
rejected_code Fresh = refl
rejected_code Lent = refl
rejected_code Returned = refl
rejected_code Spoiled = refl
rejected_code Active = refl
rejected_code Sampled = refl
rejected_code Rejected = refl
rejected_code Gone = refl

none_mapped : {A B : Type 0} (f : A → B) (o : Option A) → is_none (option_map f o) ≡ is_none o
none_mapped f None = refl
none_mapped f (Some x) = refl

module _ (c : Content) (apart : AreApart c.batches) (named : All IsNamed c.batches) (batch : ℕ) (within : batch < length c.batches) where
  abbrev names : List Text
  names = map name_in c.batches

  abbrev name : Text
  name = name_at c.batches batch

  -- ---- serials that are lent, or rejected
  pub lent_there : (at : ℕ) (row : ItemRow) → position (is_in batch Lent) c.rows ≡ Some at → slice_get c.rows at ≡ Some row → still_lent (world_in c) name ≡ Some (StillLent row.serial)
  unfolding still_lent
  lent_there at row e f =
      ap (option_map (λ (r : Row). StillLent r.serial)) (row_there c apart named batch within (λ (r : Row). is_lent r.state) (λ k r. has_state Lent r) (λ k r g. lent_code r.state) at row f (first_position (is_in batch Lent) c.rows (Some at) e))

  pub lent_nowhere : position (is_in batch Lent) c.rows ≡ None → still_lent (world_in c) name ≡ None
  unfolding still_lent
  lent_nowhere e =
      ap (option_map (λ (r : Row). StillLent r.serial)) (row_nowhere c apart named batch within (λ (r : Row). is_lent r.state) (λ k r. has_state Lent r) (λ k r g. lent_code r.state) (first_position (is_in batch Lent) c.rows None e))

  pub rejected_there : (at : ℕ) (row : ItemRow) → position (is_in batch Rejected) c.rows ≡ Some at → slice_get c.rows at ≡ Some row → still_rejected (world_in c) name ≡ Some (StillRejected row.serial)
  unfolding still_rejected
  rejected_there at row e f =
      ap (option_map (λ (r : Row). StillRejected r.serial)) (row_there c apart named batch within (λ (r : Row). is_rejected r.state) (λ k r. has_state Rejected r) (λ k r g. rejected_code r.state) at row f (first_position (is_in batch Rejected) c.rows (Some at) e))

  pub rejected_nowhere : position (is_in batch Rejected) c.rows ≡ None → still_rejected (world_in c) name ≡ None
  unfolding still_rejected
  rejected_nowhere e =
      ap (option_map (λ (r : Row). StillRejected r.serial)) (row_nowhere c apart named batch within (λ (r : Row). is_rejected r.state) (λ k r. has_state Rejected r) (λ k r g. rejected_code r.state) (first_position (is_in batch Rejected) c.rows None e))

  -- ---- units that are open
  pub open_there : (at : ℕ) (unit : UnitRow) → IsFirstIn (is_shown batch Open c.links) c.units (Some at) → slice_get c.units at ≡ Some unit → unit_open (world_in c) name ≡ Some (UnitOpen unit.sscc)
  unfolding unit_open
  open_there at unit h e = ap (option_map (λ (u : Container). UnitOpen u.sscc)) (unit_there c apart named batch within (λ (u : Container). is_filling u.mark) (shows Open c.links) (λ k u f. refl) at unit e h)

  pub open_nowhere : IsFirstIn (is_shown batch Open c.links) c.units None → unit_open (world_in c) name ≡ None
  unfolding unit_open
  open_nowhere h = ap (option_map (λ (u : Container). UnitOpen u.sscc)) (unit_nowhere c apart named batch within (λ (u : Container). is_filling u.mark) (shows Open c.links) (λ k u f. refl) h)

  -- ---- what stands in nothing
  module _ (items_apart : rows.AreApart c.rows) (units_apart : units.AreApart c.units) (there : All (IsThereIn (length c.rows) (length c.units)) c.links) where
    free_same : (k : ℕ) (row : ItemRow) → slice_get c.rows k ≡ Some row → (is_active row.state && is_none (parent (world_in c) (item_name row))) ≡ is_free c.links k row
    free_same k row e =
        let l : k < length c.rows = slice_get_within c.rows k row e in
        let named_here : node_name (row_names c) (unit_codes c) (AnItem k) ≡ item_name row = get_or-map item_name c.rows k row (Box []) l ∙ ap item_name (get_or_got c.rows k row row e) in
        let none : is_none (parent (world_in c) (item_name row)) ≡ is_none (parent_in c.links (AnItem k)) =
        ap (λ (n : Epc). is_none (parent (world_in c) n)) (sym named_here) ∙ ap (λ (o : Option Text). is_none o) (parent_is c items_apart units_apart there (AnItem k) l) ∙ none_mapped _ (parent_in c.links (AnItem k)) in
        λ z. is_active row.state && none z

    pub unpacked_there : (at : ℕ) (row : ItemRow) → IsFirstIn (is_unpacked batch c.links) c.rows (Some at) → slice_get c.rows at ≡ Some row → unpacked (world_in c) name ≡ Some (Unpacked row.serial)
    unfolding unpacked
    unpacked_there at row h e =
        ap (option_map (λ (r : Row). Unpacked r.serial)) (row_there c apart named batch within (λ (r : Row). is_active r.state && is_none (parent (world_in c) (name_of r))) (is_free c.links) free_same at row e h)

    pub unpacked_nowhere : IsFirstIn (is_unpacked batch c.links) c.rows None → unpacked (world_in c) name ≡ None
    unfolding unpacked
    unpacked_nowhere h = ap (option_map (λ (r : Row). Unpacked r.serial)) (row_nowhere c apart named batch within (λ (r : Row). is_active r.state && is_none (parent (world_in c) (name_of r))) (is_free c.links) free_same h)

    loose_same : (k : ℕ) (unit : UnitRow) → slice_get c.units k ≡ Some unit → stands_loose (world_in c) (unit_in names unit) ≡ shows Loose c.links k unit
    unfolding stands_loose
    loose_same k unit e =
        let l : k < length c.units = slice_get_within c.units k unit e in
        let named_here : node_name (row_names c) (unit_codes c) (AUnit k) ≡ Box unit.sscc = ap Box (get_or-map code_in c.units k unit [] l ∙ ap code_in (get_or_got c.units k unit unit e)) in
        let none : is_none (parent (world_in c) (Box unit.sscc)) ≡ is_none (parent_in c.links (AUnit k)) =
        ap (λ (n : Epc). is_none (parent (world_in c) n)) (sym named_here) ∙ ap (λ (o : Option Text). is_none o) (parent_is c items_apart units_apart there (AUnit k) l) ∙ none_mapped _ (parent_in c.links (AUnit k)) in
        λ z. is_case unit.level && is_sealed unit.mark && none z

    module _ (kept : Batch) (e : slice_get c.batches batch ≡ Some kept) where
      pallets : has_pallets (world_in c) name ≡ nat_lt 0 kept.order.pallet_size
      unfolding has_pallets holds_of
      pallets = ap (holds_of (λ (b : Batch). nat_lt 0 b.order.pallet_size)) (batch_there c apart named batch kept e)

      pub loose_there : (at : ℕ) (unit : UnitRow) → nat_lt 0 kept.order.pallet_size ≡ true → IsFirstIn (is_shown batch Loose c.links) c.units (Some at) → slice_get c.units at ≡ Some unit → unit_loose (world_in c) name ≡ Some (UnitLoose unit.sscc)
      unfolding unit_loose
      loose_there at unit p h f =
          (λ z. if (pallets ∙ p) z then option_map (λ (u : Container). UnitLoose u.sscc) (unit_there c apart named batch within (stands_loose (world_in c)) (shows Loose c.links) loose_same at unit f h z) else None)

      pub loose_nowhere : nat_lt 0 kept.order.pallet_size ≡ true → IsFirstIn (is_shown batch Loose c.links) c.units None → unit_loose (world_in c) name ≡ None
      unfolding unit_loose
      loose_nowhere p h = (λ z. if (pallets ∙ p) z then option_map (λ (u : Container). UnitLoose u.sscc) (unit_nowhere c apart named batch within (stands_loose (world_in c)) (shows Loose c.links) loose_same h z) else None)

      pub no_pallets : nat_lt 0 kept.order.pallet_size ≡ false → unit_loose (world_in c) name ≡ None
      unfolding unit_loose
      no_pallets p =
          ap (λ b. if b then option_map (λ (u : Container). UnitLoose u.sscc) (find (stands_loose (world_in c)) (units_in (world_in c) name)) else None) (pallets ∙ p)

  -- ---- lines
  pub not_declared_is : (site : Setup) (found : Option Finding) → IsFirstFor (silent batch c.rows c.said) (length site.stations) found → not_declared site (world_in c) name ≡ found
  unfolding not_declared
  not_declared_is site found h =
      (λ z. each site.stations (λ line station. when (has_line_is c apart named batch within line z && is_none (declared_is c apart named batch within line z)) (NotDeclared line)))
      ∙ each_first (silent batch c.rows c.said) site.stations found h

  pub declared_differs_is : (site : Setup) (found : Option Finding) → IsFirstFor (differing batch c.rows c.said) (length site.stations) found → declared_differs site (world_in c) name ≡ found
  unfolding declared_differs differs
  declared_differs_is site found h =
      (λ z. each site.stations (λ line station.
      if has_line_is c apart named batch within line z then
      option_and_then
      (λ said. when (not (same said (line_numbers_is c apart named batch within line z))) (DeclaredDiffers line (line_numbers_is c apart named batch within line z) said))
      (declared_is c apart named batch within line z)
      else None))
      ∙ each_first (differing batch c.rows c.said) site.stations found h

-- ---- the first of the seven
module _ (site : Setup) (c : Content) (name : Text) where
  pub found_lent : (e : Finding) → Some e ≡ still_lent (world_in c) name → Some e ≡ finding site (world_in c) name
  unfolding finding findings first
  found_lent e a =
      λ z. first (a z ∷ still_rejected (world_in c) name ∷ unpacked (world_in c) name ∷ unit_open (world_in c) name ∷ unit_loose (world_in c) name ∷ not_declared site (world_in c) name ∷ declared_differs site (world_in c) name ∷ [])

  module _ (lent : None ≡ still_lent (world_in c) name) where
    pub found_rejected : (e : Finding) → Some e ≡ still_rejected (world_in c) name → Some e ≡ finding site (world_in c) name
    unfolding finding findings first
    found_rejected e b = λ z. first (lent z ∷ b z ∷ unpacked (world_in c) name ∷ unit_open (world_in c) name ∷ unit_loose (world_in c) name ∷ not_declared site (world_in c) name ∷ declared_differs site (world_in c) name ∷ [])

    module _ (rejected : None ≡ still_rejected (world_in c) name) where
      pub found_unpacked : (e : Finding) → Some e ≡ unpacked (world_in c) name → Some e ≡ finding site (world_in c) name
      unfolding finding findings first
      found_unpacked e b = λ z. first (lent z ∷ rejected z ∷ b z ∷ unit_open (world_in c) name ∷ unit_loose (world_in c) name ∷ not_declared site (world_in c) name ∷ declared_differs site (world_in c) name ∷ [])

      module _ (packed : None ≡ unpacked (world_in c) name) where
        pub found_open : (e : Finding) → Some e ≡ unit_open (world_in c) name → Some e ≡ finding site (world_in c) name
        unfolding finding findings first
        found_open e b = λ z. first (lent z ∷ rejected z ∷ packed z ∷ b z ∷ unit_loose (world_in c) name ∷ not_declared site (world_in c) name ∷ declared_differs site (world_in c) name ∷ [])

        module _ (open_ : None ≡ unit_open (world_in c) name) where
          pub found_loose : (e : Finding) → Some e ≡ unit_loose (world_in c) name → Some e ≡ finding site (world_in c) name
          unfolding finding findings first
          found_loose e b = λ z. first (lent z ∷ rejected z ∷ packed z ∷ open_ z ∷ b z ∷ not_declared site (world_in c) name ∷ declared_differs site (world_in c) name ∷ [])

          module _ (loose : None ≡ unit_loose (world_in c) name) where
            pub found_silent : (e : Finding) → Some e ≡ not_declared site (world_in c) name → Some e ≡ finding site (world_in c) name
            unfolding finding findings first
            found_silent e b = λ z. first (lent z ∷ rejected z ∷ packed z ∷ open_ z ∷ loose z ∷ b z ∷ declared_differs site (world_in c) name ∷ [])

            pub found_last : (o : Option Finding) → None ≡ not_declared site (world_in c) name → o ≡ declared_differs site (world_in c) name → o ≡ finding site (world_in c) name
            unfolding finding findings first
            found_last o b d = last_of o ∙ (λ z. first (lent z ∷ rejected z ∷ packed z ∷ open_ z ∷ loose z ∷ b z ∷ d z ∷ []))
              where
                last_of : (o : Option Finding) → o ≡ first (o ∷ [])
                last_of None = refl
                last_of (Some e) = refl
