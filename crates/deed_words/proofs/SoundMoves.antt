-- Rows that a deed may move keep a world sound.
use Rattle.std.proofs.Common.{◌≡◌, ℕ, zero, suc, Bool, true, false, cond, ◌&&◌, ◌||◌, List, [], ◌∷◌, map, take, sym, ◌∙◌, ap, refl, subst, Option, None, Some, true≢false, ◌⊎◌, ⊎_elim}
use Rattle.std.specs.Prelude.{if◌then◌else◌, filter, is_none, unwrap_or}
use Rattle.std.specs.List.{AllByRecursion as Every, IsDistinct, list_any}
use Rattle.std.proofs.lemmas.Bool.{and_parts}
use Rattle.std.proofs.lemmas.Map.Keys.{IsDistinct-head, IsDistinct-tail}
use Rattle.deed_words.specs.Names.{Text, same, same_name, is_among}
use Rattle.epc_urn.specs.declared.epc.Epc.{Epc}
use Rattle.deed_words.specs.Setups.{Setup}
use Rattle.deed_words.specs.declared.deed.Deed.{Deed}
use Rattle.deed_words.specs.declared.deed.Deed.TheVariants.{Commission, Spoil, Giveback, Sample, Reject, Reinstate, Destroy, Decommission}
use Rattle.deed_words.specs.declared.words.Phase.TheVariants.{Planned}
use Rattle.deed_words.specs.declared.words.State.{State}
use Rattle.deed_words.specs.declared.words.State.TheVariants as state
use Rattle.deed_words.specs.declared.world.Batch.{Batch}
use Rattle.deed_words.specs.declared.world.Row.{Row}
use Rattle.deed_words.specs.World.{World, name_of, batch_of, parent}
use Rattle.deed_words.specs.Moves.{moved, is_fresh}
use Rattle.deed_words.specs.Tests.{fresh_rows}
use Rattle.deed_words.specs.Effects.{rewrite, with_rows, lent_rows, lent_to, moved_row}
use Rattle.deed_words.specs.Sound.{IsSound}
use Rattle.deed_words.proofs.Sameness.{same-true, same_name_equiv}
use Rattle.deed_words.proofs.Items.{Every-weaker, Every-both, Every-map, Every-of_map, Every-filter, none_like}
use Rattle.deed_words.proofs.SoundRows.{KeepsRow, sound_rows}
use Rattle.deed_words.proofs.Allowed.{among_every}

-- a rewriting, by what it needs of the named rows
keeps_rewritten : (w : World) (change : Row → Row) (names : List Epc) (row : Row) → is_fresh row.state ≡ is_none row.line → (is_among names (name_of row) ≡ true → KeepsRow w change row) → KeepsRow w (rewrite change names) row
unfolding rewrite
keeps_rewritten w change names row before h =
    record {
      fresh = (elim (is_among names (name_of row)) as (λ b. (b ≡ true → KeepsRow w change row) → is_fresh (if b then change row else row).state ≡ is_none (if b then change row else row).line) [ true ↦ λ k. (k refl).fresh | false ↦ λ k. before ]) h;
      packed = (elim (is_among names (name_of row)) as (λ b. (b ≡ true → KeepsRow w change row) → row.state ≡ state.Active → (sscc : Text) → parent w (name_of row) ≡ Some sscc → (if b then change row else row) ≡ row) [ true ↦ λ k. (k refl).packed | false ↦ λ k _ _ _. refl ]) h;
      untouched = (elim (is_among names (name_of row)) as (λ b. (b ≡ true → KeepsRow w change row) → is_fresh row.state ≡ true → (batch : Batch) → batch_of w row.batch ≡ Some batch → batch.phase ≡ Planned → (if b then change row else row) ≡ row) [ true ↦ λ k. (k refl).untouched | false ↦ λ k _ _ _ _. refl ]) h;
    }

rewrite-kept : {A : Type 0} (change : Row → Row) (names : List Epc) (part : Row → A) → ((row : Row) → part (change row) ≡ part row) → (row : Row) → part (rewrite change names row) ≡ part row
unfolding rewrite
rewrite-kept change names part keeps row = elim (is_among names (name_of row)) as (λ b. part (if b then change row else row) ≡ part row) [ true ↦ keeps row | false ↦ refl ]

sound_rewrite : (site : Setup) (w : World) (change : Row → Row) (names : List Epc) → ((row : Row) → (change row).gtin ≡ row.gtin) → ((row : Row) → (change row).serial ≡ row.serial) → ((row : Row) → (change row).batch ≡ row.batch)
    → Every (λ (row : Row). is_among names (name_of row) ≡ true → KeepsRow w change row) w.rows → IsSound site w → IsSound site (with_rows w change names)
unfolding with_rows
sound_rewrite site w change names g n b keeps s =
    sound_rows site w (rewrite change names) (rewrite-kept change names (λ row. row.gtin) g) (rewrite-kept change names (λ row. row.serial) n) (rewrite-kept change names (λ row. row.batch) b)
    (Every-both (λ (row : Row). is_fresh row.state ≡ is_none row.line) (λ (row : Row). is_among names (name_of row) ≡ true → KeepsRow w change row) (KeepsRow w (rewrite change names)) (λ row before h. keeps_rewritten w change names row before h) w.rows s.fresh keeps) s

-- moves

pub moved-fresh : (deed : Deed) (s : State) → is_fresh (unwrap_or (moved deed s) s) ≡ is_fresh s
unfolding moved is_fresh
moved-fresh (Commission name codes) state.Lent = refl
moved-fresh (Spoil name serials) state.Lent = refl
moved-fresh (Giveback name serials) state.Lent = refl
moved-fresh (Sample name items) state.Active = refl
moved-fresh (Reject name items) state.Active = refl
moved-fresh (Reinstate name items) state.Rejected = refl
moved-fresh (Destroy name items) state.Rejected = refl
moved-fresh (Destroy name items) state.Sampled = refl
moved-fresh (Decommission name items) state.Active = refl
moved-fresh deed s = refl

moved-from_fresh : (deed : Deed) → moved deed state.Fresh ≡ None
unfolding moved
moved-from_fresh (Commission name codes) = refl
moved-from_fresh deed = refl

fresh-stays : (deed : Deed) (s : State) → is_fresh s ≡ true → unwrap_or (moved deed s) s ≡ s
unfolding moved is_fresh
fresh-stays deed state.Fresh e = ap (λ (o : Option State). unwrap_or o state.Fresh) (moved-from_fresh deed)
fresh-stays deed state.Lent e = absurd (true≢false (sym e))
fresh-stays deed state.Returned e = absurd (true≢false (sym e))
fresh-stays deed state.Spoiled e = absurd (true≢false (sym e))
fresh-stays deed state.Active e = absurd (true≢false (sym e))
fresh-stays deed state.Sampled e = absurd (true≢false (sym e))
fresh-stays deed state.Rejected e = absurd (true≢false (sym e))
fresh-stays deed state.Gone e = absurd (true≢false (sym e))

-- a move keeps what it must, where it isn't of Active rows or none of the named has a parent
pub sound_move : (site : Setup) (w : World) (deed : Deed) (names : List Epc) → (moved deed state.Active ≡ None) ⊎ Every (λ (c : Epc). parent w c ≡ None) names → IsSound site w → IsSound site (with_rows w (moved_row deed) names)
unfolding moved_row
sound_move site w deed names either s =
    sound_rewrite site w (moved_row deed) names (λ row. refl) (λ row. refl) (λ row. refl)
    (Every-weaker (λ (row : Row). is_fresh row.state ≡ is_none row.line) (λ (row : Row). is_among names (name_of row) ≡ true → KeepsRow w (moved_row deed) row)
    (λ row before there. record {
      fresh = moved-fresh deed row.state ∙ before;
      packed = λ act sscc par. ⊎_elim
          (λ none. ap (λ (t : State). record row { state = t }) (ap (λ (t : State). unwrap_or (moved deed t) t) act ∙ ap (λ (o : Option State). unwrap_or o state.Active) none ∙ sym act))
          (λ free. let no : Some sscc ≡ None = sym par ∙ among_every (λ (c : Epc). parent w c ≡ None) names (name_of row) there free in absurd (cc)) either;
      untouched = λ fr _ _ _. ap (λ (t : State). record row { state = t }) (fresh-stays deed row.state fr);
    }) w.rows s.fresh) s

-- lending

-- of rows whose names differ, those among the chosen ones are chosen
pub among_chosen : (test : Row → Bool) (rows : List Row) → IsDistinct same_name (map name_of rows) → Every (λ (row : Row). is_among (map name_of (filter test rows)) (name_of row) ≡ true → test row ≡ true) rows
unfolding is_among
among_chosen test [] d = tt
among_chosen test (x ∷ rows) d =
    let chosen : List Row = filter test rows in
    let head : Every (λ (row : Row). same_name (name_of x) (name_of row) ≡ false) rows = Every-of_map (λ (c : Epc). same_name (name_of x) c ≡ false) name_of rows (IsDistinct-head same_name (name_of x) (map name_of rows) d) in
    let alone : list_any (same_name (name_of x)) (map name_of chosen) ≡ false =
    none_like same_name (name_of x) (map name_of chosen) (Every-map (λ (c : Epc). same_name (name_of x) c ≡ false) name_of chosen (Every-filter (λ (row : Row). same_name (name_of x) (name_of row) ≡ false) test rows head)) in (
      (elim (test x) as (λ b. list_any (same_name (name_of x)) (map name_of (cond b (x ∷ chosen) chosen)) ≡ true → b ≡ true) [ true ↦ λ _. refl | false ↦ λ t. absurd (true≢false (sym t ∙ alone)) ]),
      Every-both (λ (row : Row). same_name (name_of x) (name_of row) ≡ false) (λ (row : Row). list_any (same_name (name_of row)) (map name_of chosen) ≡ true → test row ≡ true)
          (λ (row : Row). list_any (same_name (name_of row)) (map name_of (cond (test x) (x ∷ chosen) chosen)) ≡ true → test row ≡ true)
          (λ row apart rest. elim (test x) as (λ b. list_any (same_name (name_of row)) (map name_of (cond b (x ∷ chosen) chosen)) ≡ true → test row ≡ true) [
            | true ↦ λ t. rest (ap (λ b. b || list_any (same_name (name_of row)) (map name_of chosen)) (sym (same_name_equiv.symm (name_of row) (name_of x) ∙ apart)) ∙ t)
            | false ↦ rest
          ]) rows head (among_chosen test rows (IsDistinct-tail same_name (name_of x) (map name_of rows) d)),
    )

pub among-take : (k : ℕ) (rows : List Row) (c : Epc) → is_among (map name_of (take k rows)) c ≡ true → is_among (map name_of rows) c ≡ true
unfolding is_among
among-take zero rows c e = absurd (true≢false (sym e))
among-take (suc k) [] c e = e
among-take (suc k) (x ∷ rows) c e =
    (elim (same_name c (name_of x)) as (λ b. (b || list_any (same_name c) (map name_of (take k rows))) ≡ true → (b || list_any (same_name c) (map name_of rows)) ≡ true) [ true ↦ λ _. refl | false ↦ λ t. among-take k rows c t ]) e

active-not_fresh : (s : State) → s ≡ state.Active → is_fresh s ≡ false
unfolding is_fresh
active-not_fresh s e = subst (λ (t : State). is_fresh t ≡ false) (sym e) refl

pub sound_lend : (site : Setup) (w : World) (station : ℕ) (n : Text) (count : ℕ) → ((batch : Batch) → batch_of w n ≡ Some batch → batch.phase ≡ Planned → ⊥) → IsSound site w → IsSound site (with_rows w (lent_to station) (map name_of (lent_rows w n count)))
unfolding lent_rows fresh_rows is_fresh
sound_lend site w station n count begun s =
    let test : Row → Bool = λ row. same row.batch n && is_fresh row.state in
    let names : List Epc = map name_of (lent_rows w n count) in
    sound_rewrite site w (lent_to station) names (λ row. refl) (λ row. refl) (λ row. refl)
    (Every-weaker (λ (row : Row). is_among (map name_of (filter test w.rows)) (name_of row) ≡ true → test row ≡ true) (λ (row : Row). is_among names (name_of row) ≡ true → KeepsRow w (lent_to station) row)
    (λ row h there.
    let parts = and_parts (same row.batch n) (is_fresh row.state) (h (among-take count (filter test w.rows) (name_of row) there)) in
    record {
      fresh = refl;
      packed = λ act _ _. absurd (true≢false (sym parts.1 ∙ active-not_fresh row.state act));
      untouched = λ _ b at plan. absurd (begun b (ap (batch_of w) (sym (same-true row.batch n parts.0)) ∙ at) plan);
    }) w.rows (among_chosen test w.rows s.rows_differ)) s
