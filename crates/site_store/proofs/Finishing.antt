-- Writing what a group has come to.
use Rattle.std.proofs.Common.{◌≡◌, ◌∙◌, ◌≢◌, ◌+◌, ◌≤◌, ◌<◌, ◌⊎◌, ◌↔◌, inl, inr, ⊎_elim, ℕ, suc, Bool, true, false, IsTrue, List, [], ◌∷◌, ◌++◌, length, Option, Some, None, IsSome, Result, Ok, Err, IsErrOf, refl, sym, subst, ap, arith, append_assoc, append-nil}
use Rattle.std.specs.List.{sum_by}
use Rattle.std.proofs.lemmas.List.{length-append}
use Rattle.std.proofs.lemmas.List.Sums.{sum_by-append}
use Rattle.std.proofs.lemmas.List.Elements.{All-from_recursion}
use Rattle.deed_words.specs.Proper.{IsProperEntry}
use Rattle.entry_bytes.specs.Kept.{IsKept as IsKeptEntry}
use Rattle.deed_words.specs.Setups.{Setup}
use Rattle.deed_words.specs.declared.entry.Entry.{Entry}
use Rattle.deed_words.specs.History.{IsLawful, last_stamp, world_of}
use Rattle.gate_journal.specs.Grammar.{Holds}
use Rattle.gate_journal.specs.Journals.{IsSettled, IsBehind, HoldsWithOrWithout}
use Rattle.gate_journal.specs.declared.fault.JournalFault.{JournalFault}
use Rattle.gate_journal.specs.declared.fault.JournalFault.TheVariants.{Disk}
use Rattle.outside.specs.Disks.{LeavesOnly}
use Rattle.outside.proofs.Moments.{weaker}
use Rattle.site_core.specs.View.{View}
use Rattle.site_store.specs.Coming.{AreLast, AreNext}
use Rattle.site_core.specs.Rooms.{HasRoomFor}
use Rattle.site_core.specs.declared.planned.Planned.{Planned}
use Rattle.entry_bytes.specs.Groups.{SpellsGroup}
use Rattle.entry_bytes.specs.Sites.{SpellsSetup}
use Rattle.site_store.specs.Entries.{AreProper, latest}
use Rattle.site_store.specs.Held.{AreGroups, Held, furthest}
use Rattle.site_store.specs.Images.{HoldsBetween}
use Rattle.site_store.specs.Standing.{IsKept, IsSound, StandsAs, end_of, entries_of, in_order, state_of}
use Rattle.site_store.specs.States.{State, all_of}
use Rattle.site_store.specs.Trying.{IsTrying}
use Rattle.site_store.proofs.Back.{lawful_next, no_room}
use Rattle.site_store.proofs.Holding.{held, with_group}
use Rattle.site_store.proofs.Replaying.{groups_push}
use Rattle.entry_bytes.proofs.Sizes.{group_counted}
use Rattle.site_store.proofs.Sizes.{alone, group_alone}
use Rattle.site_store.proofs.Stamps.{last_push}

-- ---- sound stores

pub sound_of : (image : List ℕ → Type 0) (end : ℕ) (jp : Option ℕ) (view : View) (ps : List Planned) (spare : ℕ) (site : Setup) (history : List Entry) → view.setup ≡ site → view.history ≡ history
    → IsKept image end jp site history (entries_of ps) → HasRoomFor view ps → AreNext view.setup view.history view.content ps → length ps ≤ spare → AreProper (entries_of ps) → IsLawful site history → last_stamp history ≤ latest → IsSound image end jp view ps spare
sound_of image end jp view ps spare site history setup_is history_is kept room next noted proper lawful in_range = record {
  kept = subst (λ (s : Setup). IsKept image end jp s view.history (entries_of ps)) (sym setup_is) (subst (λ (h : List Entry). IsKept image end jp site h (entries_of ps)) (sym history_is) kept);
  may = record {
    room = room;
    next = next;
    noted = noted;
    proper = proper;
  };
  lawful = subst (λ (s : Setup). IsLawful s view.history) (sym setup_is) (subst (λ (h : List Entry). IsLawful site h) (sym history_is) lawful);
  in_range = subst (λ (h : List Entry). last_stamp h ≤ latest) (sym history_is) in_range;
}

pub nothing_sound : (image : List ℕ → Type 0) (end : ℕ) (jp : Option ℕ) (view : View) (ps : List Planned) (spare : ℕ) (site : Setup) (history : List Entry) → view.setup ≡ site → view.history ≡ history
    → IsKept image end jp site history [] → ps ≡ [] → IsLawful site history → last_stamp history ≤ latest → IsSound image end jp view ps spare
nothing_sound image end jp view ps spare site history setup_is history_is kept none lawful in_range =
    subst (λ (l : List Planned). IsSound image end jp view l spare) (sym none) (sound_of image end jp view [] spare site history setup_is history_is kept (no_room view) tt (omega arith) tt lawful in_range)

pub kept_settled : (image : List ℕ → Type 0) (end : ℕ) (jp : Option ℕ) (site : Setup) (site_bytes : List ℕ) (payloads : List (List ℕ)) (history : List Entry) → SpellsSetup site site_bytes → AreGroups payloads history
    → IsSettled image end jp site_bytes payloads → end ≤ furthest site history → length history ≤ end → IsKept image end jp site history []
kept_settled image end jp site site_bytes payloads history spelled groups is reach counted =
    let at : end_of end jp ≡ end = ap (end_of end) is.settled in
    let far : furthest site (history ++ []) ≡ furthest site history = ap (furthest site) (append-nil history) in
    let long : length (history ++ []) ≡ length history = ap (λ (h : List Entry). length h) (append-nil history) in
    record {
      site_bytes = site_bytes;
      payloads = payloads;
      spelled = spelled;
      groups = groups;
      stands = is;
      in_reach = omega (arith, at, far, reach);
      counted = omega (arith, at, long, counted);
      within = λ some. absurd (some refl);
    }

stands_behind : (image : List ℕ → Type 0) (end : ℕ) (jp : Option ℕ) (sb : List ℕ) (ps : List (List ℕ)) (group : List Entry) (payload : List ℕ) → group ≢ [] → SpellsGroup group payload → IsBehind image end jp sb ps payload → StandsAs image end jp sb ps group
stands_behind image end jp sb ps [] payload some one is = absurd (some refl)
stands_behind image end jp sb ps (entry ∷ entries) payload some one is = (payload, one, is)

-- where nothing is pending the end is in reach, and there are no more entries than bytes
pub record Settled (end : ℕ) (jp : Option ℕ) (site : Setup) (history : List Entry) : Type 0 where
  pub none : jp ≡ None
  pub reach : end ≤ furthest site history
  pub counted : length history ≤ end

pub is_settled : (image : List ℕ → Type 0) (end : ℕ) (jp : Option ℕ) (site : Setup) (history : List Entry) → IsKept image end jp site history [] → Settled end jp site history
is_settled image end jp site history kept =
    let at : end_of end jp ≡ end = ap (end_of end) kept.stands.settled in
    let far : furthest site (history ++ []) ≡ furthest site history = ap (furthest site) (append-nil history) in
    let long : length (history ++ []) ≡ length history = ap (λ (h : List Entry). length h) (append-nil history) in
    record { none = kept.stands.settled; reach = omega (arith, at, far, kept.in_reach); counted = omega (arith, at, long, kept.counted) }

furthest_more : (site : Setup) (history group : List Entry) → furthest site (history ++ group) ≡ furthest site history + sum_by alone group
furthest_more site history group = let sums = sum_by-append alone history group in omega (arith, sums)

pub stamps_more : (history entries : List Entry) → last_stamp history ≤ latest → AreProper entries → last_stamp (history ++ entries) ≤ latest
stamps_more history [] range proper = subst (λ (h : List Entry). last_stamp h ≤ latest) (sym (append-nil history)) range
stamps_more history (entry ∷ entries) range proper =
    subst (λ (h : List Entry). last_stamp h ≤ latest) (append_assoc history (entry ∷ []) entries)
    (stamps_more (history ++ entry ∷ []) entries (subst (λ (n : ℕ). n ≤ latest) (sym (last_push history entry)) proper.0.stamp) proper.1)

-- ---- what a group has come to

pub some_entries : (ps : List Planned) → ps ≢ [] → entries_of ps ≢ []
some_entries [] some is = absurd (some refl)
some_entries (p ∷ ps) some is = absurd (cc)

some_long : (ps : List Planned) → ps ≢ [] → 1 ≤ length (entries_of ps)
some_long [] some = absurd (some refl)
some_long (p ∷ ps) some = omega arith

pub long_entries : (ps : List Planned) → length (entries_of ps) ≡ length ps
long_entries [] = refl
long_entries (p ∷ ps) = ap (λ (n : ℕ). suc n) (long_entries ps)

module _ (image : List ℕ → Type 0) (end : ℕ) (jp : Option ℕ) (base view : View) (committed : List Planned) (frame : List ℕ) (rows spare pending_spare : ℕ) (t : IsTrying image end jp base view committed frame rows spare pending_spare) where
  pub group_spelled : committed ≢ [] → SpellsGroup (entries_of committed) frame
  group_spelled some = record {
    is = record {
      some = some_long committed some;
      few = (let long = long_entries committed in omega (arith, long, t.few));
      kept = All-from_recursion IsKeptEntry (entries_of committed) t.are_kept;
      proper = All-from_recursion IsProperEntry (entries_of committed) t.proper;
    };
    spelling = inl t.frame_is;
  }

  pub trying_lawful : IsLawful base.setup (base.history ++ entries_of committed)
  trying_lawful = lawful_next base.setup base.history base.content committed t.lawful t.next

  -- it may be taken back
  pub trying_last : AreLast view.setup view.history view.content committed
  trying_last = record {
    front = base.history;
    before = base.content;
    history_is = t.history_is;
    content_is = t.content_is;
    world_is = t.world_is ∙ ap (λ (s : Setup). world_of s base.history) (sym t.setup_is);
    next = subst (λ (s : Setup). AreNext s base.history base.content committed) (sym t.setup_is) t.next;
  }

  -- nothing was committed
  pub untried_sound : (pending : List Planned) (spare' : ℕ) → committed ≡ [] → pending ≡ [] → IsSound image end jp view pending spare'
  untried_sound pending spare' nothing none =
      nothing_sound image end jp view pending spare' base.setup base.history t.setup_is (t.history_is ∙ ap (λ (l : List Planned). base.history ++ entries_of l) nothing ∙ append-nil base.history) t.kept none t.lawful t.in_range

  -- all that was committed is written
  pub written_sound : (image' : List ℕ → Type 0) (end' : ℕ) (jp' : Option ℕ) (pending : List Planned) (spare' : ℕ) → committed ≢ [] → pending ≡ [] → ((sb : List ℕ) (ps : List (List ℕ)) → IsSettled image end jp sb ps → IsSettled image' end' jp' sb (ps ++ frame ∷ [])) → end' ≡ end + 5 + length frame
      → IsSound image' end' jp' view pending spare'
  written_sound image' end' jp' pending spare' some none ok end_is =
      let at = is_settled image end jp base.setup base.history t.kept in
      let one = group_spelled some in
      let size = group_alone (entries_of committed) frame one in
      let far = furthest_more base.setup base.history (entries_of committed) in
      let count = group_counted (entries_of committed) frame one in
      let long = length-append base.history (entries_of committed) in
      nothing_sound image' end' jp' view pending spare' base.setup (base.history ++ entries_of committed) t.setup_is t.history_is
      (kept_settled image' end' jp' base.setup t.kept.site_bytes (t.kept.payloads ++ frame ∷ []) (base.history ++ entries_of committed) t.kept.spelled (groups_push t.kept.payloads base.history (entries_of committed) frame t.kept.groups one)
      (ok t.kept.site_bytes t.kept.payloads t.kept.stands) (omega (arith, end_is, at.reach, size, far)) (omega (arith, end_is, at.counted, count, long)))
      none trying_lawful (stamps_more base.history (entries_of committed) t.in_range t.proper)

  -- the append failed, and all was taken back
  pub lost_sound : (image' : List ℕ → Type 0) (end' : ℕ) (jp' : Option ℕ) (view' : View) (pending : List Planned) (spare' : ℕ) → committed ≢ [] → view'.setup ≡ base.setup → view'.history ≡ base.history → HasRoomFor view' committed → AreNext view'.setup view'.history view'.content committed
      → ((sb : List ℕ) (ps : List (List ℕ)) → IsSettled image end jp sb ps → IsSettled image' end' jp' sb ps ⊎ IsBehind image' end' jp' sb ps frame) → end' ≡ end → length committed ≤ spare' → ((pending ≡ []) × (jp' ≡ None)) ⊎ ((pending ≡ committed) × IsSome jp') → IsSound image' end' jp' view' pending spare'
  lost_sound image' end' jp' view' pending spare' some setup_is history_is room next fault end_is noted (inl none) =
      let at = is_settled image end jp base.setup base.history t.kept in
      nothing_sound image' end' jp' view' pending spare' base.setup base.history setup_is history_is
      (kept_settled image' end' jp' base.setup t.kept.site_bytes t.kept.payloads base.history t.kept.spelled t.kept.groups (none_settled none.1 (fault t.kept.site_bytes t.kept.payloads t.kept.stands)) (omega (arith, end_is, at.reach)) (omega (arith, end_is, at.counted)))
      none.0 t.lawful t.in_range
    where
      none_settled : jp' ≡ None → IsSettled image' end' jp' t.kept.site_bytes t.kept.payloads ⊎ IsBehind image' end' jp' t.kept.site_bytes t.kept.payloads frame → IsSettled image' end' jp' t.kept.site_bytes t.kept.payloads
      none_settled none (inl is) = is
      none_settled none (inr is) = let there = is.behind in absurd (cc)
  lost_sound image' end' jp' view' pending spare' some setup_is history_is room next fault end_is noted (inr there) =
      let at = is_settled image end jp base.setup base.history t.kept in
      let one = group_spelled some in
      let size = group_alone (entries_of committed) frame one in
      let far = furthest_more base.setup base.history (entries_of committed) in
      let count = group_counted (entries_of committed) frame one in
      let long = length-append base.history (entries_of committed) in
      let is : IsBehind image' end' jp' t.kept.site_bytes t.kept.payloads frame = some_behind jp' there.1 (fault t.kept.site_bytes t.kept.payloads t.kept.stands) in
      let behind : end_of end' jp' ≡ end' + 5 + length frame = ap (end_of end') is.behind in
      let fits = t.fits some in
      subst (λ (l : List Planned). IsSound image' end' jp' view' l spare') (sym there.0)
      (sound_of image' end' jp' view' committed spare' base.setup base.history setup_is history_is
      (record {
        site_bytes = t.kept.site_bytes;
        payloads = t.kept.payloads;
        spelled = t.kept.spelled;
        groups = t.kept.groups;
        stands = stands_behind image' end' jp' t.kept.site_bytes t.kept.payloads (entries_of committed) frame (some_entries committed some) one is;
        in_reach = omega (arith, behind, end_is, at.reach, size, far);
        counted = omega (arith, behind, end_is, at.counted, count, long);
        within = λ any. omega (arith, behind, end_is, fits);
      })
      room next noted t.proper t.lawful t.in_range)
    where
      some_behind : (j : Option ℕ) → IsSome j → IsSettled image' end' j t.kept.site_bytes t.kept.payloads ⊎ IsBehind image' end' j t.kept.site_bytes t.kept.payloads frame → IsBehind image' end' j t.kept.site_bytes t.kept.payloads frame
      some_behind None there either = absurd (cc)
      some_behind (Some n) there (inl is) = let none = is.settled in absurd (cc)
      some_behind (Some n) there (inr is) = is

  module _ {D : Type 0} (moment : D → ℕ) (since : D → ℕ → List ℕ → Type 0) where
    -- each image during an append that may have put the group there
    pub group_images : (old new : D) (after : State) → committed ≢ [] → ((sb : List ℕ) (ps : List (List ℕ)) → IsSettled image end jp sb ps → LeavesOnly moment since old new (HoldsWithOrWithout sb ps frame)) → all_of after ≡ base.history ++ entries_of committed
        → LeavesOnly moment since old new (HoldsBetween base.setup (state_of base []) after)
    group_images old new after some any all_is =
        weaker moment since old new (HoldsWithOrWithout t.kept.site_bytes t.kept.payloads frame) (HoldsBetween base.setup (state_of base []) after) (any t.kept.site_bytes t.kept.payloads t.kept.stands)
        (λ c holds. ⊎_elim (λ without. inl (inl without)) (λ with. inr (subst (λ (h : List Entry). Held base.setup h c) (sym all_is) with))
        (with_group base.setup t.kept.site_bytes t.kept.payloads base.history (entries_of committed) frame c t.kept.spelled t.kept.groups (group_spelled some) t.lawful trying_lawful holds))

    -- .. that failed before it could
    pub front_images : (old new : D) (after : State) → ((sb : List ℕ) (ps : List (List ℕ)) → IsSettled image end jp sb ps → LeavesOnly moment since old new (Holds sb ps))
        → LeavesOnly moment since old new (HoldsBetween base.setup (state_of base []) after)
    front_images old new after any =
        weaker moment since old new (Holds t.kept.site_bytes t.kept.payloads) (HoldsBetween base.setup (state_of base []) after) (any t.kept.site_bytes t.kept.payloads t.kept.stands)
        (λ c holds. inl (inl (held base.setup t.kept.site_bytes t.kept.payloads base.history c t.kept.spelled t.kept.groups t.lawful holds)))

    pub lost_images : (old new : D) (jp' : Option ℕ) (view' : View) (pending : List Planned) → committed ≢ [] → view'.history ≡ base.history → ((sb : List ℕ) (ps : List (List ℕ)) → IsSettled image end jp sb ps → LeavesOnly moment since old new (HoldsWithOrWithout sb ps frame))
        → (jp' ≡ None → (sb : List ℕ) (ps : List (List ℕ)) → IsSettled image end jp sb ps → LeavesOnly moment since old new (Holds sb ps)) → ((pending ≡ []) × (jp' ≡ None)) ⊎ ((pending ≡ committed) × IsSome jp')
        → LeavesOnly moment since old new (HoldsBetween base.setup (state_of base []) (state_of view' pending))
    lost_images old new jp' view' pending some history_is any before (inl none) = front_images old new (state_of view' pending) (before none.1)
    lost_images old new jp' view' pending some history_is any before (inr there) =
        group_images old new (state_of view' pending) some any (ap (λ (l : List Planned). view'.history ++ entries_of l) there.0 ∙ ap (λ (h : List Entry). h ++ entries_of committed) history_is)

-- ---- which of the two

pub left_of : (b : Bool) (jp' : Option ℕ) (all old new : List Planned) → (IsTrue b ↔ IsSome jp') → in_order old ≡ all → (b ≡ true → new ≡ old) → (b ≡ false → new ≡ []) → ((in_order new ≡ []) × (jp' ≡ None)) ⊎ ((in_order new ≡ all) × IsSome jp')
left_of true jp' all old new is order some none = inr (ap in_order (some refl) ∙ order, is.0 refl)
left_of false None all old new is order some none = inl (ap in_order (none refl), refl)
left_of false (Some n) all old new is order some none = let never = is.1 refl in absurd (cc)

pub left_pending : (jp' : Option ℕ) (all new : List Planned) → ((in_order new ≡ []) × (jp' ≡ None)) ⊎ ((in_order new ≡ all) × IsSome jp') → (entries_of (in_order new) ≡ []) ⊎ (entries_of (in_order new) ≡ entries_of all)
left_pending jp' all new (inl none) = inl (ap entries_of none.0)
left_pending jp' all new (inr some) = inr (ap entries_of some.0)

-- an append that fits is refused by the disk alone
pub disk_of : (r : Result Unit JournalFault) (fault : JournalFault) (n m : ℕ) → (n ≤ m → (r ≡ Ok tt) ⊎ (r ≡ Err Disk)) → n ≤ m → r ≡ Err fault → IsErrOf r Disk
disk_of r fault n m or_disk fits is = ⊎_elim (λ ok. absurd (cc)) (λ disk. disk) (or_disk fits)

pub none_long : (ps : List Planned) → length ps ≡ 0 → ps ≡ []
none_long [] is = refl
none_long (p ∷ ps) is = absurd (omega (arith, is))

pub some_short : (ps : List Planned) → 0 < length ps → ps ≢ []
some_short [] some is = absurd (omega (arith, some))
some_short (p ∷ ps) some is = absurd (cc)
