-- One request of a group.
use Rattle.std.proofs.Common.{◌≡◌, ◌∙◌, ◌≤◌, ◌<◌, ◌+◌, ◌*◌, inl, inr, ℕ, false, Option, List, [], ◌∷◌, ◌++◌, length, drop, refl, sym, subst, ap, arith, append_assoc, append-nil}
use Rattle.std.proofs.lemmas.List.{length-append}
use Rattle.std.proofs.lemmas.List.Sums.{sum_by-append, sum_by-cons}
use Rattle.deed_words.specs.Setups.{Setup}
use Rattle.deed_words.specs.declared.entry.Ask.{Ask}
use Rattle.deed_words.specs.declared.entry.Entry.{Entry}
use Rattle.deed_words.specs.declared.entry.FaultKind.{FaultKind}
use Rattle.deed_words.specs.History.{own, last_stamp, world_of}
use Rattle.deed_words.specs.Numbers.{Means, New}
use Rattle.site_core.specs.Plans.{entry_of}
use Rattle.deed_words.specs.Proper.{IsProperEntry}
use Rattle.batch_book.specs.Content.{Content}
use Rattle.entry_bytes.specs.Kept.{IsKept as IsKeptEntry}
use Rattle.site_stores.specs.Changes.{applied}
use Rattle.site_core.specs.View.{View}
use Rattle.site_core.specs.Plans.{IsNext, Makes as MakesPlan}
use Rattle.site_store.specs.Coming.{AreNext, applied_all}
use Rattle.site_core.specs.declared.planned.Planned.{Planned}
use Rattle.site_store.specs.declared.log.Row.{Row}
use Rattle.site_store.specs.declared.outcome.Outcome.{Outcome}
use Rattle.site_store.specs.declared.outcome.Outcome.TheVariants.{Replied, NumberReused, NumberGap, DiskFault, ClockFault, ClockRange, WordsFault, WordsSpent, JournalFull, Memory}
use Rattle.entry_bytes.specs.Spelling.{entry_bytes, group_bytes}
use Rattle.entry_bytes.specs.Groups.{entry_size, group_size}
use Rattle.site_store.specs.Entries.{AreKept, AreProper, latest}
use Rattle.site_store.specs.Moved.{Taken, nothing_taken}
use Rattle.site_store.specs.Noting.{Noted, fault}
use Rattle.site_store.specs.Standing.{entries_of, in_order, noted_in, journal_limit}
use Rattle.site_store.specs.Steps.{Tries, Makes, rule_at, stamp_at, faults_told}
use Rattle.site_deeds.proofs.OfDecision.{draws_take}
use Rattle.site_store.specs.Tried.{Tried, KeptOne, Keeps, IsKnown}
use Rattle.site_store.specs.Causes.{is_clock_fault, is_words_fault}
use Rattle.site_store.specs.Trying.{IsTrying}
use Rattle.site_store.proofs.Back.{applied_push, entries_push, every_more, next_push}
use Rattle.site_store.proofs.Finishing.{stamps_more}
use Rattle.entry_bytes.proofs.Sizes.{group_grows, group_written}

-- ---- what a number means

pub new_means : (site : Setup) (g : List Entry) (ask : Ask) → ask.number ≡ length (own ask.station g) + 1 → Means site g ask.station ask.number ask.deed New
unfolding Means
new_means site g ask is = is

pub means_new : (site : Setup) (g : List Entry) (ask : Ask) → Means site g ask.station ask.number ask.deed New → ask.number ≡ length (own ask.station g) + 1
unfolding Means
means_new site g ask is = is

-- what is answered to a number that isn't the next one
pub known_tries : (site : Setup) (end : ℕ) (h front : List Entry) (worker : ℕ) (ask : Ask) (outcome : Outcome) → IsKnown site h ask outcome → Tries site end h front worker ask nothing_taken outcome []
known_tries site end h front worker ask (Replied reply) is = inl (record { means = is; nothing = refl }, refl)
known_tries site end h front worker ask NumberReused is = (record { kept = is.0; finds = record { means = is.1; nothing = refl } }, refl)
known_tries site end h front worker ask (NumberGap last) is = (record { means = is; nothing = refl }, refl)
known_tries site end h front worker ask Memory is = (inl refl, refl)
known_tries site end h front worker ask DiskFault is = absurd is
known_tries site end h front worker ask ClockFault is = absurd is
known_tries site end h front worker ask (ClockRange ms) is = absurd is
known_tries site end h front worker ask WordsFault is = absurd is
known_tries site end h front worker ask (WordsSpent found) is = absurd is
known_tries site end h front worker ask (JournalFull told asked) is = absurd is

-- .. blames no device, and leaves no note
pub known_quiet : (site : Setup) (h : List Entry) (worker : ℕ) (ask : Ask) (outcome : Outcome) → IsKnown site h ask outcome → (faults_told worker outcome ≡ []) × (is_clock_fault outcome ≡ false) × (is_words_fault outcome ≡ false)
known_quiet site h worker ask (Replied reply) is = (refl, refl, refl)
known_quiet site h worker ask NumberReused is = (refl, refl, refl)
known_quiet site h worker ask (NumberGap last) is = (refl, refl, refl)
known_quiet site h worker ask Memory is = (refl, refl, refl)
known_quiet site h worker ask DiskFault is = absurd is
known_quiet site h worker ask ClockFault is = absurd is
known_quiet site h worker ask (ClockRange ms) is = absurd is
known_quiet site h worker ask WordsFault is = absurd is
known_quiet site h worker ask (WordsSpent found) is = absurd is
known_quiet site h worker ask (JournalFull told asked) is = absurd is

-- ---- the frame grows

pub size_push : (front : List Entry) (e : Entry) → group_size (front ++ e ∷ []) ≡ group_size front + entry_size e
size_push front e = let sums = sum_by-append entry_size front (e ∷ []) in let one = sum_by-cons entry_size e [] in omega (arith, sums, one)

pub asked_is : (front : List Entry) (e : Entry) (frame bytes : List ℕ) → frame ≡ group_bytes front → bytes ≡ entry_bytes e → length frame + length bytes ≡ group_size (front ++ e ∷ [])
asked_is front e frame bytes frame_is bytes_is =
    let size = group_written front in
    let same = ap (λ (l : List ℕ). length l) frame_is in
    let also = ap (λ (l : List ℕ). length l) bytes_is in
    let push = size_push front e in
    omega (arith, size, same, also, push)

pub frame_grows : (front : List Entry) (e : Entry) (frame frame' bytes : List ℕ) (count : ℕ) → frame ≡ group_bytes front → bytes ≡ entry_bytes e → count ≡ 129 + length front → frame' ≡ count ∷ drop 1 frame ++ bytes → frame' ≡ group_bytes (front ++ e ∷ [])
frame_grows front e frame frame' bytes count frame_is bytes_is count_is is =
    is ∙ ap (λ (n : ℕ). n ∷ drop 1 frame ++ bytes) count_is ∙ ap (λ (l : List ℕ). (129 + length front) ∷ drop 1 l ++ bytes) frame_is ∙ ap (λ (l : List ℕ). (129 + length front) ∷ drop 1 (group_bytes front) ++ l) bytes_is
    ∙ sym (group_grows front e)

-- ---- what comes of one

pub tried_stays : (site : Setup) (end : ℕ) (h h' front front' : List Entry) (noted noted' : List Noted) (worker : ℕ) (ask : Ask) (taken : Taken) (outcome : Outcome) → Tries site end h front worker ask taken outcome [] → h' ≡ h → front' ≡ front → noted' ≡ noted ++ faults_told worker outcome
    → Tried site end h h' front front' noted noted' worker ask taken outcome
tried_stays site end h h' front front' noted noted' worker ask taken outcome tries h_is front_is noted_is = record {
  new = [];
  tries = tries;
  history_is = h_is ∙ sym (append-nil h);
  front_is = front_is ∙ sym (append-nil front);
  noted_is = noted_is ∙ ap (λ (l : List Noted). noted ++ l) (sym (append-nil (faults_told worker outcome)));
}

pub kept_stays : (end : ℕ) (h front : List Entry) (noted : List Noted) (worker : ℕ) (planned : Planned) (outcome : Outcome) → Keeps end front planned outcome [] → faults_told worker outcome ≡ [] → KeptOne end h h front front noted noted worker planned outcome
kept_stays end h front noted worker planned outcome keeps none = record {
  new = [];
  keeps = keeps;
  history_is = sym (append-nil h);
  front_is = sym (append-nil front);
  noted_is = sym (append-nil noted) ∙ ap (λ (l : List Noted). noted ++ (l ++ [])) (sym none);
}

pub full_keeps : (end : ℕ) (h front : List Entry) (noted : List Noted) (worker : ℕ) (planned : Planned) (outcome : Outcome) (told asked : ℕ) → outcome ≡ JournalFull told asked → told ≡ end → asked ≡ group_size (front ++ planned.entry ∷ []) → journal_limit < end + 6 + asked → KeptOne end h h front front noted noted worker planned outcome
full_keeps end h front noted worker planned outcome told asked is told_is asked_is full =
    subst (λ (o : Outcome). KeptOne end h h front front noted noted worker planned o) (sym is) (kept_stays end h front noted worker planned (JournalFull told asked) (told_is, asked_is, full, refl) refl)

pub kept_on : (end : ℕ) (h1 h h' front1 front front' : List Entry) (noted1 noted noted' : List Noted) (worker : ℕ) (planned : Planned) (outcome : Outcome) → h1 ≡ h → front1 ≡ front → noted1 ≡ noted → KeptOne end h1 h' front1 front' noted1 noted' worker planned outcome → KeptOne end h h' front front' noted noted' worker planned outcome
kept_on end h1 h h' front1 front front' noted1 noted noted' worker planned outcome h_is front_is noted_is kept =
    subst (λ (g : List Entry). KeptOne end g h' front front' noted noted' worker planned outcome) h_is (subst (λ (f : List Entry). KeptOne end h1 h' f front' noted noted' worker planned outcome) front_is (subst (λ (n : List Noted). KeptOne end h1 h' front1 front' n noted' worker planned outcome) noted_is kept))

makes : (site : Setup) (g : List Entry) (content : Content) (worker : ℕ) (ask : Ask) (ms stamp : ℕ) (words : List ℕ) (planned : Planned) → Means site g ask.station ask.number ask.deed New → ms ≤ latest → stamp ≡ stamp_at ms g → MakesPlan site g content worker ask stamp words planned
    → Makes site g worker ask (record { moments = ms ∷ []; words = words }) planned.entry
makes site g content worker ask ms stamp words planned means in_range stamp_is plan = record {
  ms = ms;
  drawn = plan.drawn;
  comes = record { means = means; moment = refl; in_range = in_range };
  entry_is = plan.entry ∙ ap (λ (s : ℕ). entry_of worker ask s plan.drawn) stamp_is;
  draws = plan.draws;
  follows = plan.next.follows;
}

pub planned_tries : (site : Setup) (end : ℕ) (h : List Entry) (content : Content) (front : List Entry) (worker : ℕ) (ask : Ask) (ms stamp : ℕ) (words : List ℕ) (planned : Planned) (outcome : Outcome) (new : List Entry) → Means site h ask.station ask.number ask.deed New → ms ≤ latest → stamp ≡ stamp_at ms h
    → MakesPlan site h content worker ask stamp words planned → Keeps end front planned outcome new → Tries site end h front worker ask (record { moments = ms ∷ []; words = words }) outcome new
planned_tries site end h content front worker ask ms stamp words planned (Replied reply) new means in_range stamp_is plan is = inr (record {
  entry = planned.entry;
  makes = makes site h content worker ask ms stamp words planned means in_range stamp_is plan;
  fits = is.1;
  reply_is = is.0 ∙ plan.next.reply;
  new_is = is.2;
})
planned_tries site end h content front worker ask ms stamp words planned (JournalFull told asked) new means in_range stamp_is plan is = (
  record {
    entry = planned.entry;
    makes = makes site h content worker ask ms stamp words planned means in_range stamp_is plan;
    end_is = is.0;
    asked_is = is.1;
    full = is.2;
  },
  is.3,
)
planned_tries site end h content front worker ask ms stamp words planned Memory new means in_range stamp_is plan is =
    (inr (ms, record { means = means; moment = refl; in_range = in_range }, draws_take site (world_of site h) (rule_at site h ask) ask.deed words plan.drawn plan.draws), is)
planned_tries site end h content front worker ask ms stamp words planned DiskFault new means in_range stamp_is plan is = absurd is
planned_tries site end h content front worker ask ms stamp words planned NumberReused new means in_range stamp_is plan is = absurd is
planned_tries site end h content front worker ask ms stamp words planned (NumberGap last) new means in_range stamp_is plan is = absurd is
planned_tries site end h content front worker ask ms stamp words planned ClockFault new means in_range stamp_is plan is = absurd is
planned_tries site end h content front worker ask ms stamp words planned (ClockRange m) new means in_range stamp_is plan is = absurd is
planned_tries site end h content front worker ask ms stamp words planned WordsFault new means in_range stamp_is plan is = absurd is
planned_tries site end h content front worker ask ms stamp words planned (WordsSpent found) new means in_range stamp_is plan is = absurd is

pub tried_planned : (site : Setup) (end : ℕ) (h h' : List Entry) (content : Content) (front front' : List Entry) (noted noted' : List Noted) (worker : ℕ) (ask : Ask) (ms stamp : ℕ) (words : List ℕ) (planned : Planned) (outcome : Outcome) → Means site h ask.station ask.number ask.deed New → ms ≤ latest → stamp ≡ stamp_at ms h
    → MakesPlan site h content worker ask stamp words planned → KeptOne end h h' front front' noted noted' worker planned outcome → Tried site end h h' front front' noted noted' worker ask (record { moments = ms ∷ []; words = words }) outcome
tried_planned site end h h' content front front' noted noted' worker ask ms stamp words planned outcome means in_range stamp_is plan kept = record {
  new = kept.new;
  tries = planned_tries site end h content front worker ask ms stamp words planned outcome kept.new means in_range stamp_is plan kept.keeps;
  history_is = kept.history_is;
  front_is = kept.front_is;
  noted_is = kept.noted_is;
}

-- ---- the group goes on

pub range_now : (image : List ℕ → Type 0) (end : ℕ) (jp : Option ℕ) (base view : View) (committed : List Planned) (frame : List ℕ) (rows spare pending_spare : ℕ) → IsTrying image end jp base view committed frame rows spare pending_spare → last_stamp view.history ≤ latest
range_now image end jp base view committed frame rows spare pending_spare t = subst (λ (h : List Entry). last_stamp h ≤ latest) (sym t.history_is) (stamps_more base.history (entries_of committed) t.in_range t.proper)

pub stamp_in_range : (h : List Entry) (ms stamp : ℕ) → last_stamp h ≤ latest → ms ≤ latest → stamp ≡ stamp_at ms h → stamp ≤ latest
stamp_in_range h ms stamp last in_range is = grind (arith, is, last, in_range)

pub goes_on : (image : List ℕ → Type 0) (end : ℕ) (jp : Option ℕ) (base view view' : View) (committed committed' : List Planned) (frame frame' : List ℕ) (rows rows' spare pending_spare : ℕ) (planned : Planned) → IsTrying image end jp base view committed frame rows spare pending_spare
    → view'.setup ≡ view.setup → view'.history ≡ view.history ++ planned.entry ∷ [] → view'.content ≡ applied view.content planned.change → committed' ≡ committed ++ planned ∷ [] → IsNext view.setup view.history view.content planned → IsKeptEntry planned.entry → length committed < 16
    → frame' ≡ group_bytes (entries_of committed ++ planned.entry ∷ []) → end + 6 + group_size (entries_of committed ++ planned.entry ∷ []) ≤ journal_limit → rows' ≡ rows + 1 → rows + 1 + 2 * (length committed + 1) ≤ spare → length committed + 1 ≤ pending_spare
    → IsTrying image end jp base view' committed' frame' rows' spare pending_spare
goes_on image end jp base view view' committed committed' frame frame' rows rows' spare pending_spare planned t setup_is history_is content_is committed_is next is_kept few frame_is fits rows_is notes may_pend =
    let long : length committed' ≡ length committed + 1 = ap (λ (l : List Planned). length l) committed_is ∙ length-append committed (planned ∷ []) in
    let entries : entries_of committed' ≡ entries_of committed ++ planned.entry ∷ [] = ap entries_of committed_is ∙ entries_push committed planned in
    let at : IsNext base.setup (base.history ++ entries_of committed) (applied_all base.content committed) planned = subst (λ (s : Setup). IsNext s (base.history ++ entries_of committed) (applied_all base.content committed) planned) t.setup_is
    (subst (λ (h : List Entry). IsNext view.setup h (applied_all base.content committed) planned) t.history_is (subst (λ (c : Content). IsNext view.setup view.history c planned) t.content_is next)) in
    let size = group_written (entries_of committed ++ planned.entry ∷ []) in
    let size_is = ap (λ (l : List ℕ). length l) frame_is in
    record {
      kept = t.kept;
      lawful = t.lawful;
      in_range = t.in_range;
      setup_is = setup_is ∙ t.setup_is;
      history_is = history_is ∙ ap (λ (h : List Entry). h ++ planned.entry ∷ []) t.history_is ∙ append_assoc base.history (entries_of committed) (planned.entry ∷ []) ∙ ap (λ (l : List Entry). base.history ++ l) (sym entries);
      content_is = content_is ∙ ap (λ (c : Content). applied c planned.change) t.content_is ∙ sym (applied_push base.content committed planned) ∙ ap (λ (l : List Planned). applied_all base.content l) (sym committed_is);
      world_is = t.world_is;
      next = subst (λ (l : List Planned). AreNext base.setup base.history base.content l) (sym committed_is) (next_push base.setup base.history base.content committed planned t.next at);
      proper = subst (λ (l : List Entry). AreProper l) (sym entries) (every_more IsProperEntry (entries_of committed) (planned.entry ∷ []) t.proper (next.proper, tt));
      are_kept = subst (λ (l : List Entry). AreKept l) (sym entries) (every_more IsKeptEntry (entries_of committed) (planned.entry ∷ []) t.are_kept (is_kept, tt));
      few = omega (arith, long, few);
      frame_is = frame_is ∙ ap group_bytes (sym entries);
      fits = λ some. omega (arith, fits, size, size_is);
      noted = omega (arith, rows_is, long, notes);
      may_pend = omega (arith, long, may_pend);
    }

-- a fault is noted, with nothing pending
pub fault_noted : (rows rows1 rows' : List Row) (k : FaultKind) (worker : ℕ) (left : List Planned) → rows1 ≡ rows → left ≡ [] → noted_in rows' ≡ noted_in rows1 ++ fault k worker (entries_of (in_order left)) → noted_in rows' ≡ noted_in rows ++ fault k worker []
fault_noted rows rows1 rows' k worker left same none is = is ∙ ap (λ (l : List Planned). noted_in rows1 ++ fault k worker (entries_of (in_order l))) none ∙ ap (λ (r : List Row). noted_in r ++ fault k worker []) same

pub kept_at : (end1 end : ℕ) (h h' front front' : List Entry) (noted noted' : List Noted) (worker : ℕ) (planned : Planned) (outcome : Outcome) → end1 ≡ end → KeptOne end1 h h' front front' noted noted' worker planned outcome → KeptOne end h h' front front' noted noted' worker planned outcome
kept_at end1 end h h' front front' noted noted' worker planned outcome is kept = subst (λ (e : ℕ). KeptOne e h h' front front' noted noted' worker planned outcome) is kept
