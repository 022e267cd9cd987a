-- What the simulation keeps of its history stays right.
use Rattle.std.proofs.Common.{◌≡◌, ◌≤◌, ◌<◌, ◌+◌, ◌^◌, ◌∙◌, ℕ, Bool, true, false, not, List, [], ◌∷◌, ◌++◌, length, refl, sym, ap, arith}
use Rattle.std.specs.Prelude.{nat_eq}
use Rattle.deed_words.specs.Names.{Text}
use Rattle.deed_words.specs.declared.entry.Ask.{Ask}
use Rattle.deed_words.specs.declared.entry.Entry.{Entry}
use Rattle.deed_words.specs.declared.reply.Reply.{Reply}
use Rattle.deed_words.specs.declared.reply.Reply.TheVariants as reply
use Rattle.deed_words.specs.declared.reply.Answer.TheVariants as answer
use Rattle.deed_words.specs.Replies.{reply_to}
use Rattle.deed_words.specs.Walk.{steps_from}
use Rattle.deed_words.specs.History.{own, told_from, world_from, world_of}
use Rattle.deed_words.specs.Once.{made_told}
use Rattle.site_sim.specs.declared.known.Known.{Known}
use Rattle.site_sim.specs.declared.request.Request.{Request}
use Rattle.site_sim.specs.declared.request.Request.TheVariants as request
use Rattle.site_sim.specs.Example as example
use Rattle.site_sim.specs.Asking.{ask_after, ask_at, deed_of, lent_by, lent_in, station_of}
use Rattle.deed_words.specs.declared.deed.Deed.{Deed}
use Rattle.site_sim.specs.Knowing.{IsSmall, Knows, Learns, accepted_in, drawn_for, is_accepted, last_of, lent_for, one_if}
use Rattle.site_sim.specs.Requests.{Send, is_planners}
use Rattle.site_sim.proofs.Growing.{accepted_more, lent_is, lent_more, own_more, rows_more, units_more}

-- ---- at the start

abbrev pub first : Known
first = record { lent = []; planner = 0; line = 0; accepted = 0; serials = 0; units = 0; sent = 0 }

pub knows_nothing : Knows [] first
unfolding lent_in accepted_in own told_from steps_from world_of world_from
knows_nothing = record { lent = refl; planner = refl; line = refl; accepted = refl; serials = refl; units = refl }

pub small_first : IsSmall first
small_first = record { planner = omega arith; line = omega arith; accepted = omega arith; units = omega arith }

-- ---- what is asked

pub last_is : (history : List Entry) (known : Known) (r : Request) → Knows history known → last_of known r ≡ length (own (station_of r) history)
last_is history known (request.Order quantity) knows = knows.planner
last_is history known request.Start knows = knows.planner
last_is history known (request.Draw size) knows = knows.planner
last_is history known (request.Lend size) knows = knows.line
last_is history known (request.Commission part) knows = knows.line
last_is history known (request.Make level) knows = knows.line
last_is history known (request.PackItems place part) knows = knows.line
last_is history known (request.PackCases place part) knows = knows.line
last_is history known (request.Seal place) knows = knows.line
last_is history known (request.Declare good) knows = knows.line
last_is history known request.Close knows = knows.planner

pub asked : (history : List Entry) (known : Known) (s : Send) (ask : Ask) → Knows history known → ask ≡ ask_after (last_of known s.request) known.lent s → ask ≡ ask_at history s
asked history known s ask knows is =
    is ∙ ap (λ (n : ℕ). ask_after n known.lent s) (last_is history known s.request knows) ∙ ap (λ (lent : List Text). ask_after (length (own (station_of s.request) history)) lent s) knows.lent

last_small : (known : Known) (r : Request) → IsSmall known → last_of known r ≤ known.sent
last_small known (request.Order quantity) small = small.planner
last_small known request.Start small = small.planner
last_small known (request.Draw size) small = small.planner
last_small known (request.Lend size) small = small.line
last_small known (request.Commission part) small = small.line
last_small known (request.Make level) small = small.line
last_small known (request.PackItems place part) small = small.line
last_small known (request.PackCases place part) small = small.line
last_small known (request.Seal place) small = small.line
last_small known (request.Declare good) small = small.line
last_small known request.Close small = small.planner

pub last_fits : (known : Known) (r : Request) → IsSmall known → known.sent < 2 ^ 41 → last_of known r + 1 < 2 ^ 64
last_fits known r small few = let less = last_small known r small in omega (arith, less, few)

-- ---- one entry more

for_planner : (r : Request) → nat_eq (station_of r) example.planner ≡ is_planners r
for_planner (request.Order quantity) = refl
for_planner request.Start = refl
for_planner (request.Draw size) = refl
for_planner (request.Lend size) = refl
for_planner (request.Commission part) = refl
for_planner (request.Make level) = refl
for_planner (request.PackItems place part) = refl
for_planner (request.PackCases place part) = refl
for_planner (request.Seal place) = refl
for_planner (request.Declare good) = refl
for_planner request.Close = refl

for_line : (r : Request) → nat_eq (station_of r) example.line ≡ not (is_planners r)
for_line (request.Order quantity) = refl
for_line request.Start = refl
for_line (request.Draw size) = refl
for_line (request.Lend size) = refl
for_line (request.Commission part) = refl
for_line (request.Make level) = refl
for_line (request.PackItems place part) = refl
for_line (request.PackCases place part) = refl
for_line (request.Seal place) = refl
for_line (request.Declare good) = refl
for_line request.Close = refl

pub knows_more : (history : List Entry) (old new : Known) (r : Request) (entry : Entry) (told : Reply) → Knows history old → entry.station ≡ station_of r → entry.deed ≡ deed_of (lent_in history) r
    → told ≡ reply_to example.site (world_of example.site history) entry → Learns old new r told → Knows (history ++ entry ∷ []) new
knows_more history old new r entry told knows whose what is learns =
    let due : Reply = reply_to example.site (world_of example.site history) entry in
    record {
      lent = learns.lent ∙ ap (λ (xs : List Text). xs ++ lent_for r told) knows.lent
          ∙ ap (λ (t : Reply). lent_in history ++ lent_for r t) is
          ∙ ap (λ (xs : List Text). lent_in history ++ xs) (sym (lent_is (lent_in history) r due) ∙ ap (λ (d : Deed). lent_by d due) (sym what))
          ∙ sym (lent_more history entry);
      planner = learns.planner ∙ ap (λ (n : ℕ). n + one_if (is_planners r)) knows.planner
          ∙ ap (λ (b : Bool). length (own example.planner history) + one_if b) (sym (for_planner r) ∙ ap (λ (n : ℕ). nat_eq n example.planner) (sym whose))
          ∙ sym (own_more example.planner history entry);
      line = learns.line ∙ ap (λ (n : ℕ). n + one_if (not (is_planners r))) knows.line
          ∙ ap (λ (b : Bool). length (own example.line history) + one_if b) (sym (for_line r) ∙ ap (λ (n : ℕ). nat_eq n example.line) (sym whose))
          ∙ sym (own_more example.line history entry);
      accepted = learns.accepted ∙ ap (λ (n : ℕ). n + one_if (is_accepted told)) knows.accepted
          ∙ ap (λ (t : Reply). accepted_in history + one_if (is_accepted t)) is
          ∙ sym (accepted_more history entry);
      serials = learns.serials ∙ ap (λ (n : ℕ). n + length (drawn_for r told)) knows.serials
          ∙ ap (λ (t : Reply). length (world_of example.site history).rows + length (drawn_for r t)) is
          ∙ sym (rows_more history (lent_in history) r entry what);
      units = learns.units ∙ ap (λ (n : ℕ). n + length (made_told told)) knows.units
          ∙ ap (λ (t : Reply). length (world_of example.site history).units + length (made_told t)) is
          ∙ sym (units_more history (lent_in history) r entry what);
    }

made_few : (told : Reply) → length (made_told told) ≤ 1
unfolding made_told
made_few (reply.Accepted answer.Plain) = omega arith
made_few (reply.Accepted (answer.Orders added already)) = omega arith
made_few (reply.Accepted (answer.Listed serials)) = omega arith
made_few (reply.Accepted (answer.Made sscc)) = omega arith
made_few (reply.Accepted (answer.Taken count)) = omega arith
made_few (reply.Refused rule) = omega arith

one_at_most : (b : Bool) → one_if b ≤ 1
one_at_most true = omega arith
one_at_most false = omega arith

-- where one request more was sent
pub small_more : (old mid new : Known) (r : Request) (told : Reply) → IsSmall old → mid ≡ record old { sent = old.sent + 1 } → Learns mid new r told → IsSmall new
small_more old mid new r told small is learns =
    let a = one_at_most (is_planners r) in
    let b = one_at_most (not (is_planners r)) in
    let c = one_at_most (is_accepted told) in
    let d = made_few told in
    let sent : new.sent ≡ old.sent + 1 = learns.sent ∙ ap (λ (k : Known). k.sent) is in
    let planner : new.planner ≡ old.planner + one_if (is_planners r) = learns.planner ∙ ap (λ (k : Known). k.planner + one_if (is_planners r)) is in
    let line : new.line ≡ old.line + one_if (not (is_planners r)) = learns.line ∙ ap (λ (k : Known). k.line + one_if (not (is_planners r))) is in
    let accepted : new.accepted ≡ old.accepted + one_if (is_accepted told) = learns.accepted ∙ ap (λ (k : Known). k.accepted + one_if (is_accepted told)) is in
    let units : new.units ≡ old.units + length (made_told told) = learns.units ∙ ap (λ (k : Known). k.units + length (made_told told)) is in
    let p = small.planner in
    let l = small.line in
    let q = small.accepted in
    let u = small.units in
    record {
      planner = omega (arith, a, sent, planner, p);
      line = omega (arith, b, sent, line, l);
      accepted = omega (arith, c, sent, accepted, q);
      units = omega (arith, d, sent, units, u);
    }

pub small_later : (old : Known) → IsSmall old → IsSmall (record old { sent = old.sent + 1 })
small_later old small =
    let p = small.planner in
    let l = small.line in
    let q = small.accepted in
    let u = small.units in
    record { planner = omega (arith, p); line = omega (arith, l); accepted = omega (arith, q); units = omega (arith, u) }

pub knows_later : (history : List Entry) (old : Known) (n : ℕ) → Knows history old → Knows history (record old { sent = n })
knows_later history old n knows = record { lent = knows.lent; planner = knows.planner; line = knows.line; accepted = knows.accepted; serials = knows.serials; units = knows.units }
