-- A mend, failed or not.
use Rattle.std.proofs.Common.{◌≡◌, ◌∙◌, ◌≢◌, ◌≤◌, ◌+◌, ◌^◌, ◌⊎◌, inl, inr, ℕ, List, [], ◌∷◌, ◌++◌, length, Option, Some, None, Result, Ok, Err, IsErrOf, refl, sym, subst, ap, arith, append-nil}
use Rattle.std.proofs.lemmas.List.{length-append}
use Rattle.deed_words.specs.declared.entry.Entry.{Entry}
use Rattle.deed_words.specs.History.{IsLawful}
use Rattle.gate_journal.specs.Journals.{IsSettled, IsBehind, HoldsWithOrWithout}
use Rattle.gate_journal.specs.declared.fault.JournalFault.{JournalFault}
use Rattle.gate_journal.specs.declared.fault.JournalFault.TheVariants.{Disk}
use Rattle.outside.specs.Disks.{LeavesOnly}
use Rattle.outside.proofs.Moments.{started, weaker}
use Rattle.site_core.specs.View.{View}
use Rattle.site_core.specs.declared.planned.Planned.{Planned}
use Rattle.site_store.specs.Held.{AreGroups, furthest}
use Rattle.site_store.specs.Images.{HoldsState}
use Rattle.site_store.specs.States.{settled}
use Rattle.site_store.specs.Standing.{IsKept, IsSound, StandsAs, end_of, entries_of, state_of, in_order}
use Rattle.site_store.proofs.Back.{lawful_next}
use Rattle.site_store.proofs.Finishing.{nothing_sound, kept_settled, stamps_more, long_entries}
use Rattle.site_store.proofs.Holding.{with_group, kept_holds}
use Rattle.site_store.proofs.Replaying.{groups_push}

-- a fault of the journal here is one of the disk
pub disk_here : (r : Result Unit JournalFault) (fault : JournalFault) → (r ≡ Ok tt) ⊎ (r ≡ Err Disk) → r ≡ Err fault → IsErrOf r Disk
disk_here r fault (inl ok) is = absurd (cc)
disk_here r fault (inr disk) is = disk

-- it failed, and everything is as before
pub still_sound : (image image' : List ℕ → Type 0) (end end' : ℕ) (jp jp' : Option ℕ) (view : View) (ps : List Planned) (spare spare' : ℕ) → IsSound image end jp view ps spare
    → (jp ≡ None → ⊥) → end' ≡ end → jp' ≡ jp → length ps ≤ spare' → ((sb : List ℕ) (pays : List (List ℕ)) (p : List ℕ) → IsBehind image end jp sb pays p → IsBehind image' end' jp' sb pays p)
    → IsSound image' end' jp' view ps spare'
still_sound image image' end end' jp jp' view ps spare spare' sound some end_is jp_is room behind =
    let kept = sound.kept in
    let same : end_of end' jp' ≡ end_of end jp = ap (λ (e : ℕ). end_of e jp') end_is ∙ ap (end_of end) jp_is in
    record {
      kept = record {
        site_bytes = kept.site_bytes;
        payloads = kept.payloads;
        spelled = kept.spelled;
        groups = kept.groups;
        stands = still_stands (entries_of ps) kept.stands;
        in_reach = omega (arith, same, kept.in_reach);
        counted = omega (arith, same, kept.counted);
        within = λ there. omega (arith, same, kept.within there);
      };
      may = record { room = sound.may.room; next = sound.may.next; noted = room; proper = sound.may.proper };
      lawful = sound.lawful;
      in_range = sound.in_range;
    }
  where
    still_stands : (group : List Entry) → StandsAs image end jp sound.kept.site_bytes sound.kept.payloads group → StandsAs image' end' jp' sound.kept.site_bytes sound.kept.payloads group
    still_stands [] stands = absurd (some stands.settled)
    still_stands (entry ∷ entries) stands = (stands.0, stands.1, behind sound.kept.site_bytes sound.kept.payloads stands.0 stands.2)

pub behind_some : (image : List ℕ → Type 0) (end : ℕ) (jp : Option ℕ) (view : View) (ps : List Planned) (spare : ℕ) → IsSound image end jp view ps spare → (jp ≡ None → ⊥) → ps ≢ []
behind_some image end jp view [] spare sound some none = some sound.kept.stands.settled
behind_some image end jp view (p ∷ ps) spare sound some none = absurd (cc)

-- it succeeded, and what was pending is in the history
pub mended_sound : (image image' : List ℕ → Type 0) (end end' : ℕ) (jp jp' : Option ℕ) (view view' : View) (ps left : List Planned) (spare spare' : ℕ) → IsSound image end jp view ps spare
    → (jp ≡ None → (image' ≡ image) × (end' ≡ end) × (jp' ≡ jp)) → ((sb : List ℕ) (pays : List (List ℕ)) (p : List ℕ) → IsBehind image end jp sb pays p → IsSettled image' end' jp' sb (pays ++ p ∷ [])) → ((n : ℕ) → jp ≡ Some n → end' ≡ n)
    → left ≡ [] → view'.setup ≡ view.setup → view'.history ≡ view.history ++ entries_of ps → IsSound image' end' jp' view' left spare'
mended_sound image image' end end' jp jp' view view' ps left spare spare' sound same settled at none setup_is history_is =
    nothing_sound image' end' jp' view' left spare' view.setup (view.history ++ entries_of ps) setup_is history_is (kept_now (entries_of ps) sound.kept) none (lawful_next view.setup view.history view.content ps sound.lawful sound.may.next) (stamps_more view.history (entries_of ps) sound.in_range sound.may.proper)
  where
    kept_now : (group : List Entry) → IsKept image end jp view.setup view.history group → IsKept image' end' jp' view.setup (view.history ++ group) []
    kept_now [] kept =
        let is = same kept.stands.settled in
        let go : end_of end' jp' ≡ end_of end jp = ap (λ (e : ℕ). end_of e jp') is.1 ∙ ap (end_of end) is.2 in
        let twice : (view.history ++ []) ++ [] ≡ view.history ++ [] = append-nil (view.history ++ []) in
        let far : furthest view.setup ((view.history ++ []) ++ []) ≡ furthest view.setup (view.history ++ []) = ap (furthest view.setup) twice in
        let long : length ((view.history ++ []) ++ []) ≡ length (view.history ++ []) = ap (λ (h : List Entry). length h) twice in
        record {
          site_bytes = kept.site_bytes;
          payloads = kept.payloads;
          spelled = kept.spelled;
          groups = subst (λ (h : List Entry). AreGroups kept.payloads h) (sym (append-nil view.history)) kept.groups;
          stands = subst (λ (j : Option ℕ). IsSettled image' end' j kept.site_bytes kept.payloads) (sym is.2) (subst (λ (e : ℕ). IsSettled image' e jp kept.site_bytes kept.payloads) (sym is.1) (subst (λ (i : List ℕ → Type 0). IsSettled i end jp kept.site_bytes kept.payloads) (sym is.0) kept.stands));
          in_reach = omega (arith, go, far, kept.in_reach);
          counted = omega (arith, go, long, kept.counted);
          within = λ some. absurd (some refl);
        }
    kept_now (entry ∷ entries) kept =
        let is = kept.stands.2 in
        let payload = kept.stands.0 in
        let end_is : end' ≡ end_of end jp = at (end + 5 + length payload) is.behind ∙ sym (ap (end_of end) is.behind) in
        kept_settled image' end' jp' view.setup kept.site_bytes (kept.payloads ++ payload ∷ []) (view.history ++ entry ∷ entries) kept.spelled (groups_push kept.payloads view.history (entry ∷ entries) payload kept.groups kept.stands.1)
        (settled kept.site_bytes kept.payloads payload is) (omega (arith, end_is, kept.in_reach)) (omega (arith, end_is, kept.counted))

-- there are no more entries than a journal has bytes
pub few_left : (image : List ℕ → Type 0) (end : ℕ) (jp : Option ℕ) (view : View) (ps : List Planned) (spare : ℕ) → IsSound image end jp view ps spare → ps ≢ [] → length view.history + length ps ≤ 2 ^ 32
few_left image end jp view [] spare sound some = absurd (some refl)
few_left image end jp view (p ∷ ps) spare sound some =
    let within = sound.kept.within (λ none. absurd (cc)) in
    let long = length-append view.history (entries_of (p ∷ ps)) in
    let same = long_entries (p ∷ ps) in
    omega (arith, within, sound.kept.counted, long, same)

pub order_long : (items : List Planned) → length (in_order items) ≡ length items
order_long [] = refl
order_long (p ∷ items) = let long = length-append (in_order items) (p ∷ []) in omega (arith, long, order_long items)

-- each image of a store holds its history, or that with what is pending
pub sound_holds : (image : List ℕ → Type 0) (end : ℕ) (jp : Option ℕ) (view : View) (ps : List Planned) (spare : ℕ) (c : List ℕ) → IsSound image end jp view ps spare → image c → HoldsState view.setup (state_of view ps) c
sound_holds image end jp view ps spare c sound left = kept_holds image end jp view.setup (state_of view ps) c sound.kept sound.lawful (lawful_next view.setup view.history view.content ps sound.lawful sound.may.next) left

module _ {D : Type 0} (moment : D → ℕ) (since : D → ℕ → List ℕ → Type 0) where
  -- during a mend
  pub mend_images : (old new : D) (image : List ℕ → Type 0) (end : ℕ) (jp : Option ℕ) (view : View) (ps : List Planned) (spare : ℕ) → IsSound image end jp view ps spare → (jp ≡ None → ⊥)
      → ((sb : List ℕ) (pays : List (List ℕ)) (p : List ℕ) → IsBehind image end jp sb pays p → LeavesOnly moment since old new (HoldsWithOrWithout sb pays p))
      → LeavesOnly moment since old new (HoldsState view.setup (state_of view ps))
  mend_images old new image end jp view ps spare sound some any = by_group (entries_of ps) sound.kept (lawful_next view.setup view.history view.content ps sound.lawful sound.may.next)
    where
      by_group : (group : List Entry) → IsKept image end jp view.setup view.history group → IsLawful view.setup (view.history ++ group) → LeavesOnly moment since old new (HoldsState view.setup (record { history = view.history; pending = group }))
      by_group [] kept lawful = absurd (some kept.stands.settled)
      by_group (entry ∷ entries) kept lawful =
          weaker moment since old new (HoldsWithOrWithout kept.site_bytes kept.payloads kept.stands.0) (HoldsState view.setup (record { history = view.history; pending = entry ∷ entries })) (any kept.site_bytes kept.payloads kept.stands.0 kept.stands.2)
          (λ c holds. with_group view.setup kept.site_bytes kept.payloads view.history (entry ∷ entries) kept.stands.0 c kept.spelled kept.groups kept.stands.1 sound.lawful lawful holds)

  pub settle_images : (image : D → List ℕ → Type 0) (only_now : (d : D) (c : List ℕ) → since d (moment d) c → image d c) (old new : D) (end : ℕ) (jp : Option ℕ) (view : View) (ps : List Planned) (spare : ℕ) → IsSound (image old) end jp view ps spare → (jp ≡ None → new ≡ old)
      → ((sb : List ℕ) (pays : List (List ℕ)) (p : List ℕ) → IsBehind (image old) end jp sb pays p → LeavesOnly moment since old new (HoldsWithOrWithout sb pays p))
      → LeavesOnly moment since old new (HoldsState view.setup (state_of view ps))
  settle_images image only_now old new end None view ps spare sound same any =
      subst (λ (d : D). LeavesOnly moment since old d (HoldsState view.setup (state_of view ps))) (sym (same refl))
      (started moment since old (HoldsState view.setup (state_of view ps)) (λ c left. sound_holds (image old) end None view ps spare c sound (only_now old c left)))
  settle_images image only_now old new end (Some n) view ps spare sound same any = mend_images old new (image old) end (Some n) view ps spare sound (λ none. absurd (cc)) any
