-- What each kind of change needs, where it may be made and where it was made.
use Rattle.std.proofs.Common.{◌≡◌, ◌<◌, ◌-◌, ℕ, suc, Bool, false, cond, List, [], ◌∷◌, ◌++◌, length, get_or, Some, None, refl, sym, ap, ◌∙◌, subst, arith, All}
use Rattle.std.proofs.lemmas.Option.{slice_get_within}
use Rattle.std.proofs.lemmas.Bool.{ne_eqb}
use Rattle.std.proofs.lemmas.List.{length_push}
use Rattle.deed_words.specs.Names.{Text}
use Rattle.deed_words.specs.declared.deed.OrderRow.{OrderRow}
use Rattle.deed_words.specs.declared.words.Level.{Level}
use Rattle.deed_words.specs.declared.words.Mark.{Mark}
use Rattle.deed_words.specs.declared.words.Phase.{Phase}
use Rattle.deed_words.specs.declared.words.Phase.TheVariants.{Started, Closed}
use Rattle.deed_words.specs.declared.world.Batch.{Batch}
use Rattle.pack_tree.specs.declared.link.Pair.{Pair as Link}
use Rattle.pack_tree.specs.declared.link.Taken.{Taken as OneTaken}
use Rattle.pack_tree.specs.declared.node.Node.{Node}
use Rattle.pack_tree.specs.declared.node.Node.TheVariants.{Item as AnItem, Unit as AUnit}
use Rattle.pack_tree.specs.declared.node.UnitRow.{UnitRow}
use Rattle.pack_tree.specs.Many.{with_all_put, MayPut, WerePut, without_all, MayTake, WereTaken}
use Rattle.pack_tree.specs.Packing.{Packed, IsThereIn, HasRoom}
use Rattle.pack_tree.specs.Pairs.{same_node, parent_in, inside}
use Rattle.pack_tree.specs.Units.{new_unit}
use Rattle.pack_tree.proofs.ManyLaws.{put_keeps, take_keeps}
use Rattle.batch_book.specs.Content.{Content}
use Rattle.batch_book.proofs.Named.{amended_open}
use Rattle.site_stores.specs.declared.change.Change.{Change}
use Rattle.site_stores.specs.declared.change.Change.TheVariants.{Turned, Put, Taken, Phased, Amended, Marked, Said, Made, Ordered, Drawn}
use Rattle.site_stores.specs.declared.change.Turn.{Turn}
use Rattle.site_stores.specs.Changes.{MayTurn, WereTurned, MayOrder, WereOrdered, IsPhased, IsOpen, IsMarked, IsNewUnit, applied, MayChange, MayApply, WasApplied, AreUnused, WereDrawn, AreNewRows}
use Rattle.site_stores.specs.Holding.{packed_in, with_packed}
use Rattle.site_stores.proofs.Booking.{as_many_phased, as_many_amended, as_many_marked, more_ordered}
use Rattle.site_stores.proofs.RowsDrawn.{more_drawn}
use Rattle.site_stores.proofs.Finding.{read_at}

-- ---- where it may be made

pub may_turn : (c : Content) (change : Change) (turns : List Turn) → change ≡ Turned turns → MayApply c change → MayTurn c.rows turns
unfolding MayChange
may_turn c change turns e may = subst (MayChange c) e may.may

pub may_put : (c : Content) (change : Change) (unit : ℕ) (nodes : List Node) → change ≡ Put unit nodes → MayApply c change → MayPut (packed_in c) unit nodes
unfolding MayChange
may_put c change unit nodes e may = subst (MayChange c) e may.may

pub may_take : (c : Content) (change : Change) (gone : List OneTaken) → change ≡ Taken gone → MayApply c change → MayTake (packed_in c) gone
unfolding MayChange
may_take c change gone e may = subst (MayChange c) e may.may

pub may_phase : (c : Content) (change : Change) (batch : ℕ) (old new : Phase) → change ≡ Phased batch old new → MayApply c change → IsPhased c batch old
unfolding MayChange
may_phase c change batch old new e may = subst (MayChange c) e may.may

pub may_amend : (c : Content) (change : Change) (batch old new : ℕ) → change ≡ Amended batch old new → MayApply c change → IsOpen c batch old
unfolding MayChange
may_amend c change batch old new e may = subst (MayChange c) e may.may

pub may_mark : (c : Content) (change : Change) (unit : ℕ) (old new : Mark) → change ≡ Marked unit old new → MayApply c change → IsMarked c unit old
unfolding MayChange
may_mark c change unit old new e may = subst (MayChange c) e may.may

pub may_say : (c : Content) (change : Change) (batch line : ℕ) (numbers : List ℕ) → change ≡ Said batch line numbers → MayApply c change → IsPhased c batch Started
unfolding MayChange
may_say c change batch line numbers e may = subst (MayChange c) e may.may

pub may_make : (c : Content) (change : Change) (sscc : Text) (batch : ℕ) (level : Level) → change ≡ Made sscc batch level → MayApply c change → IsNewUnit c sscc batch
unfolding MayChange
may_make c change sscc batch level e may = subst (MayChange c) e may.may

pub may_order : (c : Content) (change : Change) (orders : List OrderRow) → change ≡ Ordered orders → MayApply c change → MayOrder c.batches orders
unfolding MayChange
may_order c change orders e may = subst (MayChange c) e may.may

pub may_draw : (c : Content) (change : Change) (batch : ℕ) (gtin : Text) (serials : List Text) → change ≡ Drawn batch gtin serials → MayApply c change → AreNewRows c batch gtin serials
unfolding MayChange
may_draw c change batch gtin serials e may = subst (MayChange c) e may.may

-- ---- what that says of a batch

pub phased_there : (c : Content) (batch : ℕ) (phase : Phase) → IsPhased c batch phase → batch < length c.batches
phased_there c batch phase is = slice_get_within c.batches batch is.kept is.there

pub phased_at : (c : Content) (batch : ℕ) (phase : Phase) → IsPhased c batch phase → (d : Batch) → (get_or c.batches batch d).phase ≡ phase
phased_at c batch phase is d = ap (λ (b : Batch). b.phase) (read_at c.batches batch is.kept d is.there) ∙ is.is

pub open_there : (c : Content) (batch quantity : ℕ) → IsOpen c batch quantity → batch < length c.batches
open_there c batch quantity is = slice_get_within c.batches batch is.kept is.there

pub open_at : (c : Content) (batch quantity : ℕ) → IsOpen c batch quantity → (d : Batch) → (get_or c.batches batch d).phase ≡ Closed → ⊥
open_at c batch quantity is d closed = is.open_ (sym (ap (λ (b : Batch). b.phase) (read_at c.batches batch is.kept d is.there)) ∙ closed)

pub marked_there : (c : Content) (unit : ℕ) (mark : Mark) → IsMarked c unit mark → unit < length c.units
marked_there c unit mark is = slice_get_within c.units unit is.kept is.there

-- ---- where it was made

came : (c : Content) (change kind : Change) → change ≡ kind → (w : WasApplied c change) → c ≡ applied w.before kind
came c change kind e w = w.is ∙ ap (applied w.before) e

pub were_turned : (c : Content) (change : Change) (turns : List Turn) → change ≡ Turned turns → WasApplied c change → WereTurned c.rows turns
were_turned c change turns e w =
    record { before = w.before.rows; may = may_turn w.before change turns e w.may; are = ap (λ (k : Content). k.rows) (came c change (Turned turns) e w) }

pub packed_again : (c : Content) (p : Packed) → p.items ≡ length c.rows → p.units ≡ length c.units → packed_in (with_packed c p) ≡ p
packed_again c p i u = λ z. record { pairs = p.pairs; last = p.last; items = sym i z; units = sym u z }

pub were_put : (c : Content) (change : Change) (unit : ℕ) (nodes : List Node) → change ≡ Put unit nodes → WasApplied c change → WerePut (packed_in c) unit nodes
were_put c change unit nodes e w =
    let p = packed_in w.before in
    record {
      before = p;
      may = may_put w.before change unit nodes e w.may;
      are = ap packed_in (came c change (Put unit nodes) e w) ∙ packed_again w.before (with_all_put p unit nodes) (put_keeps p unit nodes).0 (put_keeps p unit nodes).1;
    }

pub were_taken : (c : Content) (change : Change) (gone : List OneTaken) → change ≡ Taken gone → WasApplied c change → WereTaken (packed_in c) gone
were_taken c change gone e w =
    let p = packed_in w.before in
    record {
      before = p;
      may = may_take w.before change gone e w.may;
      are = ap packed_in (came c change (Taken gone) e w) ∙ packed_again w.before (without_all p gone) (take_keeps p gone).0 (take_keeps p gone).1;
    }

pub was_phased : (c : Content) (change : Change) (batch : ℕ) (old new : Phase) → change ≡ Phased batch old new → WasApplied c change → batch < length c.batches
was_phased c change batch old new e w =
    let there = phased_there w.before batch old (may_phase w.before change batch old new e w.may) in
    let long = as_many_phased w.before.batches c.batches batch new (ap (λ (k : Content). k.batches) (came c change (Phased batch old new) e w)) in
    omega (arith, there, long)

pub was_amended : (c : Content) (change : Change) (batch old new : ℕ) → change ≡ Amended batch old new → WasApplied c change → batch < length c.batches
was_amended c change batch old new e w =
    let there = open_there w.before batch old (may_amend w.before change batch old new e w.may) in
    let long = as_many_amended w.before.batches c.batches batch new (ap (λ (k : Content). k.batches) (came c change (Amended batch old new) e w)) in
    omega (arith, there, long)

pub still_open : (c : Content) (change : Change) (batch old new : ℕ) → change ≡ Amended batch old new → WasApplied c change → (d : Batch) → (get_or c.batches batch d).phase ≡ Closed → ⊥
still_open c change batch old new e w =
    let may = may_amend w.before change batch old new e w.may in
    amended_open w.before.batches c.batches batch new (open_there w.before batch old may) (ap (λ (k : Content). k.batches) (came c change (Amended batch old new) e w)) (open_at w.before batch old may)

pub was_marked : (c : Content) (change : Change) (unit : ℕ) (old new : Mark) → change ≡ Marked unit old new → WasApplied c change → unit < length c.units
was_marked c change unit old new e w =
    let there = marked_there w.before unit old (may_mark w.before change unit old new e w.may) in
    let long = as_many_marked w.before.units c.units unit new (ap (λ (k : Content). k.units) (came c change (Marked unit old new) e w)) in
    omega (arith, there, long)

-- ---- nothing is in a unit that is only being made

not_above : (items n : ℕ) (child : Node) → HasRoom items n child → same_node child (AUnit n) ≡ false
not_above items n (AnItem k) l = refl
not_above items n (AUnit k) l = ne_eqb k n (λ e. omega (arith, e, l))

none_above : (items n : ℕ) (links : List Link) → All (IsThereIn items n) links → parent_in links (AUnit n) ≡ None
none_above items n [] t = refl
none_above items n (link ∷ links) t =
    ap (λ (b : Bool). cond b (Some link.parent) (parent_in links (AUnit n))) (not_above items n link.child (t 0 link (omega arith)).child) ∙ none_above items n links (λ k d l. t (suc k) d (omega (arith, l)))

none_in : (items n : ℕ) (links : List Link) → All (IsThereIn items n) links → inside n links ≡ []
none_in items n [] t = refl
none_in items n (link ∷ links) t =
    ap (λ (b : Bool). cond b (link.child ∷ inside n links) (inside n links)) (ne_eqb link.parent n (λ e. let l = (t 0 link (omega arith)).parent in omega (arith, e, l))) ∙ none_in items n links (λ k d l. t (suc k) d (omega (arith, l)))

last_unit : (units : List UnitRow) (unit : UnitRow) → length (units ++ unit ∷ []) - 1 ≡ length units
last_unit units unit = let long = length_push units unit in omega (arith, long)

pub made_alone : (c : Content) (change : Change) (sscc : Text) (batch : ℕ) (level : Level) → change ≡ Made sscc batch level → WasApplied c change → parent_in c.links (AUnit (length c.units - 1)) ≡ None
made_alone c change sscc batch level e w =
    ap (λ (k : Content). parent_in k.links (AUnit (length k.units - 1))) (came c change (Made sscc batch level) e w)
    ∙ ap (λ (n : ℕ). parent_in w.before.links (AUnit n)) (last_unit w.before.units (new_unit sscc batch level))
    ∙ none_above (length w.before.rows) (length w.before.units) w.before.links w.may.whole.there

pub made_empty : (c : Content) (change : Change) (sscc : Text) (batch : ℕ) (level : Level) → change ≡ Made sscc batch level → WasApplied c change → inside (length c.units - 1) c.links ≡ []
made_empty c change sscc batch level e w =
    ap (λ (k : Content). inside (length k.units - 1) k.links) (came c change (Made sscc batch level) e w)
    ∙ ap (λ (n : ℕ). inside n w.before.links) (last_unit w.before.units (new_unit sscc batch level))
    ∙ none_in (length w.before.rows) (length w.before.units) w.before.links w.may.whole.there

-- ---- nothing is of batches that are only being ordered

pub were_ordered : (c : Content) (change : Change) (orders : List OrderRow) → change ≡ Ordered orders → WasApplied c change → WereOrdered c.batches orders
were_ordered c change orders e w =
    record { before = w.before.batches; may = may_order w.before change orders e w.may; are = ap (λ (k : Content). k.batches) (came c change (Ordered orders) e w) }

pub ordered_unused : (c : Content) (change : Change) (orders : List OrderRow) → change ≡ Ordered orders → WasApplied c change → AreUnused c (length orders)
ordered_unused c change orders e w =
    let long = more_ordered w.before.batches orders in
    let own : AreUnused (applied w.before (Ordered orders)) (length orders) = record {
      rows = λ k d l. let r = w.may.whole.rows k d l in omega (arith, r, long);
      units = λ k d l. let u = w.may.whole.units k d l in omega (arith, u, long);
      said = λ k d l. let s = w.may.whole.said k d l in omega (arith, s, long);
    } in
    subst (λ (k : Content). AreUnused k (length orders)) (sym (came c change (Ordered orders) e w)) own

-- ---- nothing of rows that are only being drawn is packed

pub were_drawn : (c : Content) (change : Change) (batch : ℕ) (gtin : Text) (serials : List Text) → change ≡ Drawn batch gtin serials → WasApplied c change → WereDrawn batch gtin c.rows serials
were_drawn c change batch gtin serials e w =
    record { before = w.before.rows; may = (may_draw w.before change batch gtin serials e w.may).may; are = ap (λ (k : Content). k.rows) (came c change (Drawn batch gtin serials) e w) }

pub drawn_unpacked : (c : Content) (change : Change) (batch : ℕ) (gtin : Text) (serials : List Text) → change ≡ Drawn batch gtin serials → WasApplied c change → All (IsThereIn (length c.rows - length serials) (length c.units)) c.links
drawn_unpacked c change batch gtin serials e w =
    let is = came c change (Drawn batch gtin serials) e w in
    let long = more_drawn batch gtin w.before.rows serials in
    let own : All (IsThereIn (length (applied w.before (Drawn batch gtin serials)).rows - length serials) (length w.before.units)) w.before.links =
    subst (λ (n : ℕ). All (IsThereIn n (length w.before.units)) w.before.links) (omega (arith, long)) w.may.whole.there in
    subst (λ (k : Content). All (IsThereIn (length k.rows - length serials) (length k.units)) k.links) (sym is) own
