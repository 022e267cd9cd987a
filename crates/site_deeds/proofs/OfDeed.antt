-- What each deed is told and does is what its kind is told and does.
use Rattle.std.proofs.Common.{◌≡◌, ◌⊎◌, inl, inr, ◌-◌, ℕ, true, true≢false, List, [], ◌∷◌, length, map, refl, sym, ap, subst}
use Rattle.std.specs.Prelude.{Result, IfOk}
use Rattle.gs1_element.specs.declared.code.Code.{Code}
use Rattle.epc_urn.specs.declared.epc.Epc.{Epc}
use Rattle.deed_words.specs.Deeds.{named, order_rows}
use Rattle.deed_words.specs.Effects.{effect, with_orders, with_phase, with_quantity, with_rows, lent_to, lent_rows, moved_row, with_unit, with_children, without_children, emptied, with_mark, with_declaration}
use Rattle.deed_words.specs.Names.{Text}
use Rattle.deed_words.specs.Orders.{new_orders, orders_in}
use Rattle.deed_words.specs.Replies.{answer_to, orders_answer}
use Rattle.deed_words.specs.Setups.{Setup, code_of}
use Rattle.deed_words.specs.World.{World, inside, name_of}
use Rattle.deed_words.specs.declared.deed.Deed.{Deed}
use Rattle.deed_words.specs.declared.deed.Deed.TheVariants.{Order, Orders, Start, Lend, Commission, Spoil, Giveback, Sample, Reject, Reinstate, Destroy, Decommission, Container as MakeUnit, Pack, Unpack, UnpackAll, Seal, Unseal, Void, Declare, Close, Amend}
use Rattle.deed_words.specs.declared.deed.OrderRow.{OrderRow}
use Rattle.deed_words.specs.declared.reply.Answer.{Answer}
use Rattle.deed_words.specs.declared.reply.Answer.TheVariants as answer
use Rattle.deed_words.specs.declared.words.Level.{Level}
use Rattle.deed_words.specs.declared.words.Mark.TheVariants as mark
use Rattle.deed_words.specs.declared.words.Phase.TheVariants.{Started, Closed}
use Rattle.deed_words.specs.declared.world.Row.{Row}
use Rattle.batch_book.specs.Content.{world_in}
use Rattle.site_stores.specs.Holding.{Held}
use Rattle.site_deeds.specs.declared.done.Done.{Done}
use Rattle.site_deeds.specs.Does.{Does, DoesDeed}
use Rattle.site_deeds.proofs.FromRules.{is_moving}

answer_is : (site : Setup) (w : World) (deed : Deed) → is_moving deed ≡ true → answer_to site w deed [] ≡ answer.Plain
unfolding answer_to is_moving
answer_is site w (Commission name codes) m = refl
answer_is site w (Spoil name serials) m = refl
answer_is site w (Giveback name serials) m = refl
answer_is site w (Sample name items) m = refl
answer_is site w (Reject name items) m = refl
answer_is site w (Reinstate name items) m = refl
answer_is site w (Destroy name items) m = refl
answer_is site w (Decommission name items) m = refl
answer_is site w deed m = absurd (true≢false (sym m))

effect_is : (site : Setup) (w : World) (station : ℕ) (deed : Deed) → is_moving deed ≡ true → effect site w station deed [] ≡ with_rows w (moved_row deed) (named w deed)
unfolding effect is_moving
effect_is site w station (Commission name codes) m = refl
effect_is site w station (Spoil name serials) m = refl
effect_is site w station (Giveback name serials) m = refl
effect_is site w station (Sample name items) m = refl
effect_is site w station (Reject name items) m = refl
effect_is site w station (Reinstate name items) m = refl
effect_is site w station (Destroy name items) m = refl
effect_is site w station (Decommission name items) m = refl
effect_is site w station deed m = absurd (true≢false (sym m))

module _ {E : Type 0} (site : Setup) (station : ℕ) (deed : Deed) (held : Held) (r : Result Done E) where
  as_deed : (other : Deed) → deed ≡ other → IfOk r (λ done. DoesDeed site held station other [] done) → IfOk r (λ done. DoesDeed site held station deed [] done)
  as_deed other is d = subst (λ (x : Deed). IfOk r (λ done. DoesDeed site held station x [] done)) (sym is) d

  pub does_order : (row : OrderRow) (rows : List OrderRow) → deed ≡ Order row → rows ≡ row ∷ [] → IfOk r (λ done. Does held done (answer.Orders (length (new_orders (orders_in (world_in held.content)) rows)) (length rows - length (new_orders (orders_in (world_in held.content)) rows))) (with_orders (world_in held.content) rows))
      → IfOk r (λ done. DoesDeed site held station deed [] done)
  unfolding answer_to orders_answer order_rows effect
  does_order row rows is are d =
      as_deed (Order row) is (subst (λ (rs : List OrderRow). IfOk r (λ done. Does held done (answer.Orders (length (new_orders (orders_in (world_in held.content)) rs)) (length rs - length (new_orders (orders_in (world_in held.content)) rs))) (with_orders (world_in held.content) rs))) are d)

  pub does_orders : (rows : List OrderRow) (given : List OrderRow) → deed ≡ Orders given → rows ≡ given → IfOk r (λ done. Does held done (answer.Orders (length (new_orders (orders_in (world_in held.content)) rows)) (length rows - length (new_orders (orders_in (world_in held.content)) rows))) (with_orders (world_in held.content) rows))
      → IfOk r (λ done. DoesDeed site held station deed [] done)
  unfolding answer_to orders_answer order_rows effect
  does_orders rows given is are d =
      as_deed (Orders given) is (subst (λ (rs : List OrderRow). IfOk r (λ done. Does held done (answer.Orders (length (new_orders (orders_in (world_in held.content)) rs)) (length rs - length (new_orders (orders_in (world_in held.content)) rs))) (with_orders (world_in held.content) rs))) are d)

  pub does_lend : (name : Text) (count : ℕ) → deed ≡ Lend name count
      → IfOk r (λ done. Does held done (answer.Listed (map (λ (row : Row). row.serial) (lent_rows (world_in held.content) name count))) (with_rows (world_in held.content) (lent_to station) (map name_of (lent_rows (world_in held.content) name count))))
      → IfOk r (λ done. DoesDeed site held station deed [] done)
  unfolding answer_to effect
  does_lend name count is d = as_deed (Lend name count) is d

  pub does_make : (name : Text) (level : Level) → deed ≡ MakeUnit name level → IfOk r (λ done. Does held done (answer.Made (code_of site (length (world_in held.content).units))) (with_unit site (world_in held.content) name level))
      → IfOk r (λ done. DoesDeed site held station deed [] done)
  unfolding answer_to effect
  does_make name level is d = as_deed (MakeUnit name level) is d

  pub does_put : (unit : Text) (children given : List Epc) → deed ≡ Pack unit given → children ≡ given → IfOk r (λ done. Does held done answer.Plain (with_children (world_in held.content) unit children)) → IfOk r (λ done. DoesDeed site held station deed [] done)
  unfolding answer_to effect
  does_put unit children given is are d = as_deed (Pack unit given) is (subst (λ (cs : List Epc). IfOk r (λ done. Does held done answer.Plain (with_children (world_in held.content) unit cs))) are d)

  pub does_take : (unit : Text) (children given : List Epc) → deed ≡ Unpack unit given → children ≡ given → IfOk r (λ done. Does held done answer.Plain (without_children (world_in held.content) children)) → IfOk r (λ done. DoesDeed site held station deed [] done)
  unfolding answer_to effect
  does_take unit children given is are d = as_deed (Unpack unit given) is (subst (λ (cs : List Epc). IfOk r (λ done. Does held done answer.Plain (without_children (world_in held.content) cs))) are d)

  pub does_empty : (unit : Text) → deed ≡ UnpackAll unit → IfOk r (λ done. Does held done (answer.Taken (length (inside (world_in held.content) unit))) (emptied (world_in held.content) unit)) → IfOk r (λ done. DoesDeed site held station deed [] done)
  unfolding answer_to effect
  does_empty unit is d = as_deed (UnpackAll unit) is d

  pub does_declare : (name : Text) (good spoiled returned : ℕ) → deed ≡ Declare name good spoiled returned
      → IfOk r (λ done. Does held done answer.Plain (with_declaration (world_in held.content) (record { batch = name; line = station; good = good; spoiled = spoiled; returned = returned }))) → IfOk r (λ done. DoesDeed site held station deed [] done)
  unfolding answer_to effect
  does_declare name good spoiled returned is d = as_deed (Declare name good spoiled returned) is d

  pub does_move : is_moving deed ≡ true → IfOk r (λ done. Does held done answer.Plain (with_rows (world_in held.content) (moved_row deed) (named (world_in held.content) deed))) → IfOk r (λ done. DoesDeed site held station deed [] done)
  does_move m d =
      subst (λ (a : Answer). IfOk r (λ done. Does held done a (effect site (world_in held.content) station deed []))) (sym (answer_is site (world_in held.content) deed m))
      (subst (λ (w : World). IfOk r (λ done. Does held done answer.Plain w)) (sym (effect_is site (world_in held.content) station deed m)) d)

module _ (site : Setup) (station : ℕ) (deed : Deed) (held : Held) (done : Done) where
  done_as : (other : Deed) → deed ≡ other → DoesDeed site held station other [] done → DoesDeed site held station deed [] done
  done_as other is d = subst (λ (x : Deed). DoesDeed site held station x [] done) (sym is) d

  pub does_start : (name : Text) → deed ≡ Start name → Does held done answer.Plain (with_phase (world_in held.content) Started name) → DoesDeed site held station deed [] done
  unfolding answer_to effect
  does_start name is d = done_as (Start name) is d

  pub does_close : (name : Text) → deed ≡ Close name → Does held done answer.Plain (with_phase (world_in held.content) Closed name) → DoesDeed site held station deed [] done
  unfolding answer_to effect
  does_close name is d = done_as (Close name) is d

  pub does_amend : (name : Text) (quantity : ℕ) → deed ≡ Amend name quantity → Does held done answer.Plain (with_quantity (world_in held.content) quantity name) → DoesDeed site held station deed [] done
  unfolding answer_to effect
  does_amend name quantity is d = done_as (Amend name quantity) is d

  pub does_seal : (unit : Text) → deed ≡ Seal unit → Does held done answer.Plain (with_mark (world_in held.content) mark.Sealed unit) → DoesDeed site held station deed [] done
  unfolding answer_to effect
  does_seal unit is d = done_as (Seal unit) is d

  pub does_unseal : (unit : Text) → deed ≡ Unseal unit → Does held done answer.Plain (with_mark (world_in held.content) mark.Filling unit) → DoesDeed site held station deed [] done
  unfolding answer_to effect
  does_unseal unit is d = done_as (Unseal unit) is d

  pub does_void : (unit : Text) → deed ≡ Void unit → Does held done answer.Plain (with_mark (world_in held.content) mark.Void unit) → DoesDeed site held station deed [] done
  unfolding answer_to effect
  does_void unit is d = done_as (Void unit) is d

-- a deed that moves rows is one of eight
pub moves_rows : (deed : Deed)
    → (((x : Text) × (x' : List Code) × (deed ≡ Commission x x')) ⊎ (((x : Text) × (x' : List Text) × (deed ≡ Spoil x x')) ⊎ (((x : Text) × (x' : List Text) × (deed ≡ Giveback x x')) ⊎ (((x : Text) × (x' : List Epc) × (deed ≡ Sample x x')) ⊎ (((x : Text) × (x' : List Epc) × (deed ≡ Reject x x')) ⊎ (((x : Text) × (x' : List Epc) × (deed ≡ Reinstate x x')) ⊎ (((x : Text) × (x' : List Epc) × (deed ≡ Destroy x x')) ⊎ ((x : Text) × (x' : List Epc) × (deed ≡ Decommission x x')))))))))
    → is_moving deed ≡ true
unfolding is_moving
moves_rows deed (inl p) = ap is_moving p.2
moves_rows deed (inr (inl p)) = ap is_moving p.2
moves_rows deed (inr (inr (inl p))) = ap is_moving p.2
moves_rows deed (inr (inr (inr (inl p)))) = ap is_moving p.2
moves_rows deed (inr (inr (inr (inr (inl p))))) = ap is_moving p.2
moves_rows deed (inr (inr (inr (inr (inr (inl p)))))) = ap is_moving p.2
moves_rows deed (inr (inr (inr (inr (inr (inr (inl p))))))) = ap is_moving p.2
moves_rows deed (inr (inr (inr (inr (inr (inr (inr p))))))) = ap is_moving p.2
