-- The closed batches of a world whose batches have one name.
use Rattle.std.proofs.Common.{◌≡◌, ◌+◌, ◌∙◌, ℕ, Bool, true, false, cond, List, [], ◌∷◌, length, map, Option, None, Some, refl, sym, ap, subst, true≢false}
use Rattle.std.specs.Prelude.{filter}
use Rattle.std.specs.List.{IsDistinct, position, position_from, slice_get}
use Rattle.std.proofs.lemmas.Iterator.Adapters.{position_from-zero}
use Rattle.deed_words.specs.Names.{Text, same}
use Rattle.deed_words.specs.Setups.{Setup}
use Rattle.deed_words.specs.Sound.{IsSound}
use Rattle.deed_words.specs.declared.entry.Entry.{Entry}
use Rattle.deed_words.specs.declared.words.Phase.{Phase}
use Rattle.deed_words.specs.History.{world_of}
use Rattle.batch_report.specs.declared.view.BatchView.{BatchView}
use Rattle.batch_report.specs.Views.{view_of, view_in}
use Rattle.deed_words.specs.declared.world.Batch.{Batch}
use Rattle.batch_book.specs.Batches.{is_called}
use Rattle.site_sim.specs.Example as example
use Rattle.site_sim.specs.Knowing.{AreNamed, one_if}
use Rattle.site_sim.specs.Results.{is_closed}

abbrev pub closed_in : List Batch → ℕ
closed_in batches = length (filter (λ batch. is_closed batch.phase) batches)

same_some : (a b : ℕ) → Some a ≡ Some b → a ≡ b
same_some a b e = cc

named_same : (name : Text) → name ≡ example.batch → same name example.batch ≡ true
unfolding same
named_same name is = rw is refl

found_first : (b : Batch) (bs : List Batch) → b.order.batch ≡ example.batch → position (is_called example.batch) (b ∷ bs) ≡ Some 0
unfolding is_called
found_first b bs is =
    position_from-zero (is_called example.batch) (b ∷ bs) ∙ ap (λ (c : Bool). cond c (Some 0) (position_from (is_called example.batch) (0 + 1) bs)) (named_same b.order.batch is)

pub none_closed : (batches : List Batch) → AreNamed batches → position (is_called example.batch) batches ≡ None → closed_in batches ≡ 0
none_closed [] named none = refl
none_closed (b ∷ bs) named none = let there = found_first b bs named.0 in absurd (cc)

one_closed : (b : Batch) → closed_in (b ∷ []) ≡ one_if (is_closed b.phase)
one_closed b = elim (is_closed b.phase) as (λ c. length (cond c (b ∷ []) []) ≡ one_if c) [ true ↦ refl | false ↦ refl ]

two_named : (a b : Batch) (bs : List Batch) → AreNamed (a ∷ b ∷ bs) → IsDistinct same (map (λ (batch : Batch). batch.order.batch) (a ∷ b ∷ bs)) → ⊥
unfolding IsDistinct
two_named a b bs named apart =
    let differ : same a.order.batch b.order.batch ≡ false = apart.0.0 in
    let alike : same a.order.batch b.order.batch ≡ true = ap (λ (n : Text). same a.order.batch n) named.1.0 ∙ named_same a.order.batch named.0 in
    true≢false (sym alike ∙ differ)

-- the one batch
record Only (batches : List Batch) (k : ℕ) : Type 0 where
  batch : Batch
  there : slice_get batches k ≡ Some batch
  closed : closed_in batches ≡ one_if (is_closed batch.phase)

only_one : (batches : List Batch) (k : ℕ) → AreNamed batches → IsDistinct same (map (λ (b : Batch). b.order.batch) batches) → position (is_called example.batch) batches ≡ Some k → Only batches k
only_one [] k named apart at = absurd (cc)
only_one (b ∷ []) k named apart at =
    let first = found_first b [] named.0 in
    let zero_is : 0 ≡ k = same_some 0 k (sym first ∙ at) in
    record { batch = b; there = subst (λ (n : ℕ). slice_get (b ∷ []) n ≡ Some b) zero_is refl; closed = one_closed b }
only_one (a ∷ b ∷ bs) k named apart at = absurd (two_named a b bs named apart)

pub none_at : (setup : Setup) (history : List Entry) (name : Text) (found : Option ℕ) → setup ≡ example.site → name ≡ example.batch → found ≡ position (is_called name) (world_of setup history).batches → found ≡ None → AreNamed (world_of example.site history).batches
    → 0 ≡ closed_in (world_of example.site history).batches
none_at setup history name found setup_is named_so is none named =
    let at : found ≡ position (is_called example.batch) (world_of example.site history).batches =
    is ∙ ap (λ (n : Text). position (is_called n) (world_of setup history).batches) named_so ∙ ap (λ (s : Setup). position (is_called example.batch) (world_of s history).batches) setup_is in
    sym (none_closed (world_of example.site history).batches named (sym at ∙ none))

phase_is : (setup : Setup) (history : List Entry) (view : BatchView) (batch : Batch) → view ≡ view_of setup history batch → view.phase ≡ batch.phase
unfolding view_of view_in
phase_is setup history view batch is = ap (λ (v : BatchView). v.phase) is

pub some_at : (setup : Setup) (history : List Entry) (name : Text) (found : Option ℕ) (k : ℕ) (view : BatchView) (count : ℕ) → setup ≡ example.site → name ≡ example.batch → found ≡ position (is_called name) (world_of setup history).batches → found ≡ Some k → AreNamed (world_of example.site history).batches
    → IsSound setup (world_of setup history) → ((kept : Batch) → slice_get (world_of setup history).batches k ≡ Some kept → view ≡ view_of setup history kept) → count ≡ one_if (is_closed view.phase) → count ≡ closed_in (world_of example.site history).batches
some_at setup history name found k view count setup_is named_so is some named sound sees counted =
    let at : found ≡ position (is_called example.batch) (world_of example.site history).batches =
    is ∙ ap (λ (n : Text). position (is_called n) (world_of setup history).batches) named_so ∙ ap (λ (s : Setup). position (is_called example.batch) (world_of s history).batches) setup_is in
    let apart = (subst (λ (s : Setup). IsSound s (world_of s history)) setup_is sound).batches_differ in
    let only = only_one (world_of example.site history).batches k named apart (sym at ∙ some) in
    let there = subst (λ (s : Setup). slice_get (world_of s history).batches k ≡ Some only.batch) (sym setup_is) only.there in
    counted ∙ ap (λ (p : Phase). one_if (is_closed p)) (phase_is setup history view only.batch (sees only.batch there)) ∙ sym only.closed
