-- What is kept of the move of a deed, by the stores.
use Rattle.std.proofs.Common.{◌≡◌, ◌<◌, ◌+◌, ℕ, zero, suc, Bool, true, false, true≢false, cond, eqb, not, nat_lt, List, [], ◌∷◌, map, length, get_or, All, Option, None, Some, refl, sym, ap, ◌∙◌, arith}
use Rattle.std.specs.Prelude.{option_map, if◌then◌else◌, take, take_while, Result, Ok, Err, IfOk, IfSome}
use Rattle.std.specs.List.{slice_get, position, position_or_len, prefix_len, AllByRecursion as Every}
use Rattle.std.proofs.lemmas.List.Recursion.{is_position_or_len}
use Rattle.epc_urn.specs.declared.epc.Epc.{Epc}
use Rattle.deed_words.specs.Names.{Text, same}
use Rattle.deed_words.specs.Setups.{Setup}
use Rattle.deed_words.specs.Deeds.{batch_named, batch_for}
use Rattle.deed_words.specs.Happenings.{has_event, things_of, number_of, move_of, listed, moved_by}
use Rattle.deed_words.specs.Replies.{answer_to, reply_to, replied}
use Rattle.deed_words.specs.Rules.{broken}
use Rattle.deed_words.specs.World.{World, batch_of}
use Rattle.deed_words.specs.declared.deed.Deed.{Deed}
use Rattle.deed_words.specs.declared.deed.Deed.TheVariants.{Order, Orders}
use Rattle.deed_words.specs.declared.entry.Entry.{Entry}
use Rattle.deed_words.specs.declared.reply.Answer.{Answer}
use Rattle.deed_words.specs.declared.reply.Reply.TheVariants.{Accepted, Refused}
use Rattle.deed_words.specs.declared.rule.Rule.{Rule}
use Rattle.deed_words.specs.declared.world.Batch.{Batch}
use Rattle.deed_words.proofs.Items.{find_passes}
use Rattle.deed_words.proofs.Sameness.{same-true}
use Rattle.pack_tree.specs.declared.link.Pair.{Pair as Link}
use Rattle.pack_tree.specs.Packing.{HasRoom, IsThereIn}
use Rattle.pack_tree.specs.Pairs as tree
use Rattle.pack_tree.specs.Units.{is_coded}
use Rattle.batch_book.specs.Batches.{is_called}
use Rattle.batch_book.specs.Content.{Content, world_in}
use Rattle.site_rules.specs.Asked.{IsSubject}
use Rattle.site_rules.specs.Suits.{is_about_batch}
use Rattle.site_rules.specs.declared.subject.Subject.{Subject}
use Rattle.site_stores.proofs.Finding.{no_batch, the_batch, within}
use Rattle.site_core.specs.Seen.{rule_told}
use Rattle.site_core.proofs.Logs.{rule_is}
use Rattle.move_list.specs.declared.moved.Moved.{Moved}
use Rattle.move_list.specs.Kept.{kept_of, unnamed_in}
use Rattle.move_list.proofs.History.{one_taken}

-- ---- names

-- the part of what stands at a place
pub part_at : {A B : Type 0} (part : A → B) (xs : List A) (at : ℕ) (x : A) (d : B) → slice_get xs at ≡ Some x → get_or (map part xs) at d ≡ part x
part_at part [] at x d e = absurd (cc)
part_at part (y ∷ xs) zero x d e = let s : y ≡ x = cc in ap part s
part_at part (y ∷ xs) (suc at) x d e = part_at part xs at x d e

-- the children of a unit are there
pub children_there : (items units unit : ℕ) (links : List Link) → All (IsThereIn items units) links → Every (HasRoom items units) (tree.inside unit links)
children_there items units unit [] all = tt
children_there items units unit (link ∷ links) all =
    let rest = children_there items units unit links (λ k d l. all (suc k) d (omega (arith, l))) in
    elim (eqb link.parent unit) as (λ (b : Bool). Every (HasRoom items units) (cond b (link.child ∷ tree.inside unit links) (tree.inside unit links))) [ true ↦ ((all 0 link (omega arith)).child, rest) | false ↦ rest ]

-- ---- batches

some_is : (b : Bool) (n at : ℕ) → cond b (Some n) None ≡ Some at → n ≡ at
some_is true n at e = cc
some_is false n at e = absurd (cc)

-- the number of the batch that is found at a place
pub number_at : (w : World) (name : Text) (at : ℕ) → position (is_called name) w.batches ≡ Some at → number_of w name ≡ at
unfolding number_of is_called
number_at w name at e =
    is_position_or_len (λ (bs : List Batch). length (take_while (λ (b : Batch). not (same b.order.batch name)) bs)) (λ (b : Batch). same b.order.batch name) refl step w.batches
    ∙ some_is (nat_lt (position_or_len (λ (b : Batch). same b.order.batch name) w.batches) (length w.batches)) (position_or_len (λ (b : Batch). same b.order.batch name) w.batches) at e
  where
    step : (x : Batch) (xs : List Batch) → length (take_while (λ (b : Batch). not (same b.order.batch name)) (x ∷ xs)) ≡ cond (same x.order.batch name) 0 (1 + length (take_while (λ (b : Batch). not (same b.order.batch name)) xs))
    step x xs =
        elim (same x.order.batch name) as (λ (t : Bool). length (take (cond (not t) (1 + prefix_len (λ (b : Batch). not (same b.order.batch name)) xs) 0) (x ∷ xs)) ≡ cond t 0 (1 + length (take_while (λ (b : Batch). not (same b.order.batch name)) xs))) [
          | true ↦ refl
          | false ↦ let one = one_taken (prefix_len (λ (b : Batch). not (same b.order.batch name)) xs) x xs in omega (arith, one)
        ]

there_at : {A : Type 0} (xs : List A) (at : ℕ) → at < length xs → (x : A) × (slice_get xs at ≡ Some x)
there_at [] at l = absurd (omega (arith, l))
there_at (x ∷ xs) zero l = (x, refl)
there_at (x ∷ xs) (suc at) l = there_at xs at (omega (arith, l))

-- ---- the move of an accepted entry

-- the place of the batch that a deed with an event changes
abbrev pub batch_at : Content → Deed → Option ℕ
batch_at c deed = if has_event deed then position (is_called (batch_named (world_in c) deed)) c.batches else None

event_batch : (deed : Deed) → has_event deed ≡ true → is_about_batch deed ≡ true
unfolding has_event is_about_batch
event_batch (Order row) e = absurd (true≢false (sym e))
event_batch (Orders rows) e = absurd (true≢false (sym e))
event_batch deed e = refl

-- it was found with what the deed is about
pub batch_found : (c : Content) (deed : Deed) (subject : Subject) → IsSubject c deed subject → (if has_event deed then subject.batch else None) ≡ batch_at c deed
batch_found c deed subject is =
    (elim (has_event deed) as (λ (b : Bool). has_event deed ≡ b → (if b then subject.batch else None) ≡ (if b then position (is_called (batch_named (world_in c) deed)) c.batches else None)) [
      | true ↦ λ h. is.batch_is (event_batch deed h)
      | false ↦ λ h. refl
    ]) refl

-- a unit that was found is there
pub unit_there : (c : Content) (sscc : Text) (place : Option ℕ) → place ≡ position (is_coded sscc) c.units → IfSome place (λ unit. unit < length c.units)
unit_there c sscc None e = tt
unit_there c sscc (Some unit) e = within (is_coded sscc) c.units unit (sym e)

no_event : (site : Setup) (w : World) (place : ℕ) (entry : Entry) → has_event entry.deed ≡ false → map kept_of (moved_by site w place entry None) ≡ []
unfolding moved_by
no_event site w place entry h = ap (λ (b : Bool). map kept_of (if b then listed (option_map (move_of site w place entry) (batch_for w entry.deed)) else [])) h

of_no_batch : (site : Setup) (w : World) (place : ℕ) (entry : Entry) → has_event entry.deed ≡ true → batch_for w entry.deed ≡ None → map kept_of (moved_by site w place entry None) ≡ []
unfolding moved_by listed
of_no_batch site w place entry h e =
    ap (λ (b : Bool). map kept_of (if b then listed (option_map (move_of site w place entry) (batch_for w entry.deed)) else [])) h
    ∙ ap (λ (o : Option Batch). map kept_of (listed (option_map (move_of site w place entry) o))) e

of_batch : (site : Setup) (w : World) (place : ℕ) (entry : Entry) (batch : Batch) → has_event entry.deed ≡ true → batch_for w entry.deed ≡ Some batch → map kept_of (moved_by site w place entry None) ≡ kept_of (move_of site w place entry batch) ∷ []
unfolding moved_by listed
of_batch site w place entry batch h e =
    ap (λ (b : Bool). map kept_of (if b then listed (option_map (move_of site w place entry) (batch_for w entry.deed)) else [])) h
    ∙ ap (λ (o : Option Batch). map kept_of (listed (option_map (move_of site w place entry) o))) e

pub none_moved : (site : Setup) (c : Content) (place : ℕ) (entry : Entry) → None ≡ batch_at c entry.deed → map kept_of (moved_by site (world_in c) place entry None) ≡ listed None
unfolding batch_for listed
none_moved site c place entry =
    (elim (has_event entry.deed) as (λ (b : Bool). has_event entry.deed ≡ b → None ≡ (if b then position (is_called (batch_named (world_in c) entry.deed)) c.batches else None) → map kept_of (moved_by site (world_in c) place entry None) ≡ []) [
      | true ↦ λ h e. of_no_batch site (world_in c) place entry h (no_batch c (batch_named (world_in c) entry.deed) (sym e))
      | false ↦ λ h e. no_event site (world_in c) place entry h
    ]) refl

move_is : (site : Setup) (c : Content) (place : ℕ) (entry : Entry) (batch : Batch) (at : ℕ) (names : List Epc) → number_of (world_in c) batch.order.batch ≡ at → names ≡ unnamed_in entry.deed (things_of site (world_in c) entry.deed)
    → kept_of (move_of site (world_in c) place entry batch) ≡ record { place = place; batch = at; unnamed = names }
unfolding kept_of move_of
move_is site c place entry batch at names number is =
    ap (λ (n : ℕ). record { place = place; batch = n; unnamed = unnamed_in entry.deed (things_of site (world_in c) entry.deed) }) number ∙ ap (λ (es : List Epc). record { place = place; batch = at; unnamed = es }) (sym is)

found_at : (site : Setup) (c : Content) (place : ℕ) (entry : Entry) (at : ℕ) (names : List Epc) → has_event entry.deed ≡ true → position (is_called (batch_named (world_in c) entry.deed)) c.batches ≡ Some at
    → names ≡ unnamed_in entry.deed (things_of site (world_in c) entry.deed) → map kept_of (moved_by site (world_in c) place entry None) ≡ record { place = place; batch = at; unnamed = names } ∷ []
unfolding batch_for batch_of
found_at site c place entry at names h e is =
    let w = world_in c in
    let name = batch_named w entry.deed in
    let there = there_at c.batches at (within (is_called name) c.batches at e) in
    let batch = there.0 in
    let found : batch_of w name ≡ Some batch = the_batch c name at batch e there.1 in
    let same_name : batch.order.batch ≡ name = same-true batch.order.batch name (find_passes (λ (b : Batch). same b.order.batch name) w.batches batch found) in
    of_batch site w place entry batch h found
    ∙ ap (λ (m : Moved). m ∷ []) (move_is site c place entry batch at names (ap (number_of w) same_name ∙ number_at w name at e) is)

pub some_moved : (site : Setup) (c : Content) (place : ℕ) (entry : Entry) (at : ℕ) (names : List Epc) → Some at ≡ batch_at c entry.deed → names ≡ unnamed_in entry.deed (things_of site (world_in c) entry.deed)
    → map kept_of (moved_by site (world_in c) place entry None) ≡ listed (Some (record { place = place; batch = at; unnamed = names }))
unfolding listed
some_moved site c place entry at names =
    (elim (has_event entry.deed) as (λ (b : Bool). has_event entry.deed ≡ b → Some at ≡ (if b then position (is_called (batch_named (world_in c) entry.deed)) c.batches else None) → names ≡ unnamed_in entry.deed (things_of site (world_in c) entry.deed)
    → map kept_of (moved_by site (world_in c) place entry None) ≡ record { place = place; batch = at; unnamed = names } ∷ []) [
      | true ↦ λ h e is. found_at site c place entry at names h (sym e) is
      | false ↦ λ h e is. absurd (cc)
    ]) refl

-- ---- and of an entry by its reply

replied_none : (site : Setup) (w : World) (entry : Entry) (o : Option Rule) (answer : Answer) → o ≡ None → Accepted answer ≡ replied site w entry o → answer ≡ answer_to site w entry.deed entry.drawn
unfolding replied
replied_none site w entry None answer n e = cc
replied_none site w entry (Some rule) answer n e = absurd (cc)

-- an accepted entry breaks no rule, and its answer is this
pub accepted_is : (site : Setup) (w : World) (entry : Entry) (answer : Answer) → Accepted answer ≡ reply_to site w entry → (broken site w entry.station entry.deed ≡ None) × (answer ≡ answer_to site w entry.deed entry.drawn)
unfolding reply_to rule_told
accepted_is site w entry answer e =
    let none : broken site w entry.station entry.deed ≡ None = sym (ap rule_told e ∙ rule_is site w entry) in
    (none, replied_none site w entry (broken site w entry.station entry.deed) answer none e)

pub refused_moved : (site : Setup) (w : World) (place : ℕ) (entry : Entry) (rule : Rule) → Refused rule ≡ reply_to site w entry → map kept_of (moved_by site w place entry (broken site w entry.station entry.deed)) ≡ listed None
unfolding rule_told moved_by listed
refused_moved site w place entry rule e =
    let some : broken site w entry.station entry.deed ≡ Some rule = sym (ap rule_told e ∙ rule_is site w entry) in
    ap (λ (o : Option Rule). map kept_of (moved_by site w place entry o)) some

pub if_ok : {T E : Type 0} (r : Result T E) (P Q : T → Type 0) → ((x : T) → P x → Q x) → IfOk r P → IfOk r Q
if_ok (Ok x) P Q h p = h x p
if_ok (Err e) P Q h p = tt

pub ok_always : {T E : Type 0} (r : Result T E) (P : Type 0) → P → IfOk r (λ _. P)
ok_always (Ok x) P p = p
ok_always (Err e) P p = tt
