-- What the simulation keeps of its history.
use Rattle.std.specs.Prelude.{◌≡◌, ◌≤◌, ◌+◌, ℕ, Bool, true, false, not, List, [], ◌++◌, length, filter, if◌then◌else◌}
use Rattle.std.specs.List.{AllByRecursion as Every}
use Rattle.deed_words.specs.Names.{Text}
use Rattle.deed_words.specs.declared.entry.Entry.{Entry}
use Rattle.deed_words.specs.declared.reply.Reply.{Reply}
use Rattle.deed_words.specs.declared.reply.Reply.TheVariants as reply
use Rattle.deed_words.specs.declared.world.Batch.{Batch}
use Rattle.deed_words.specs.History.{own, told_from, world_of}
use Rattle.deed_words.specs.Once.{listed, made_told}
use Rattle.deed_words.specs.World.{nothing_yet}
use Rattle.site_sim.specs.declared.known.Known.{Known}
use Rattle.site_sim.specs.declared.request.Request.{Request}
use Rattle.site_sim.specs.declared.request.Request.TheVariants.{Order, Start, Draw, Lend, Commission, Make, PackItems, PackCases, Seal, Declare, Close}
use Rattle.site_sim.specs.Asking.{lent_in}
use Rattle.site_sim.specs.Example as example
use Rattle.site_sim.specs.Requests.{is_planners}

abbrev pub is_accepted : Reply → Bool
is_accepted (reply.Accepted answer) = true
is_accepted (reply.Refused rule) = false

-- how many entries were accepted
unfoldable pub accepted_in : List Entry → ℕ
accepted_in history = length (filter (λ told. is_accepted told.1) (told_from example.site nothing_yet history))

-- the serials that it was lent, each station's last number, and how many entries were accepted, serials drawn and units made
pub record Knows (history : List Entry) (known : Known) : Type 0 where
  pub lent : known.lent ≡ lent_in history
  pub planner : known.planner ≡ length (own example.planner history)
  pub line : known.line ≡ length (own example.line history)
  pub accepted : known.accepted ≡ accepted_in history
  pub serials : known.serials ≡ length (world_of example.site history).rows
  pub units : known.units ≡ length (world_of example.site history).units

-- the last number of the request's station
abbrev pub last_of : Known → Request → ℕ
last_of known r = if is_planners r then known.planner else known.line

-- no number is above the count of requests sent
pub record IsSmall (known : Known) : Type 0 where
  pub planner : known.planner ≤ known.sent
  pub line : known.line ≤ known.sent
  pub accepted : known.accepted ≤ known.sent
  pub units : known.units ≤ known.sent

abbrev pub one_if : Bool → ℕ
one_if true = 1
one_if false = 0

-- the serials that a reply to the request lists: those that it lent, and those that it drew
unfoldable pub lent_for : Request → Reply → List Text
lent_for (Lend size) reply = listed reply
lent_for (Order quantity) reply = []
lent_for Start reply = []
lent_for (Draw size) reply = []
lent_for (Commission part) reply = []
lent_for (Make level) reply = []
lent_for (PackItems place part) reply = []
lent_for (PackCases place part) reply = []
lent_for (Seal place) reply = []
lent_for (Declare good) reply = []
lent_for Close reply = []

unfoldable pub drawn_for : Request → Reply → List Text
drawn_for (Draw size) reply = listed reply
drawn_for (Order quantity) reply = []
drawn_for Start reply = []
drawn_for (Lend size) reply = []
drawn_for (Commission part) reply = []
drawn_for (Make level) reply = []
drawn_for (PackItems place part) reply = []
drawn_for (PackCases place part) reply = []
drawn_for (Seal place) reply = []
drawn_for (Declare good) reply = []
drawn_for Close reply = []

-- what a new entry's reply to the request teaches
pub record Learns (old new : Known) (request : Request) (reply : Reply) : Type 0 where
  pub lent : new.lent ≡ old.lent ++ lent_for request reply
  pub planner : new.planner ≡ old.planner + one_if (is_planners request)
  pub line : new.line ≡ old.line + one_if (not (is_planners request))
  pub accepted : new.accepted ≡ old.accepted + one_if (is_accepted reply)
  pub serials : new.serials ≡ old.serials + length (drawn_for request reply)
  pub units : new.units ≡ old.units + length (made_told reply)
  pub sent : new.sent ≡ old.sent

-- each batch has the name of the simulation's
abbrev pub AreNamed : List Batch → Type 0
AreNamed batches = Every (λ batch. batch.order.batch ≡ example.batch) batches
