-- A simulation that went to its end.
use Rattle.std.proofs.Common.{◌≡◌, ◌-◌, ◌∙◌, inl, inr, ℕ, Bool, List, [], ◌++◌, length, vec_len, vec_capacity, Option, sym, ap, subst, append-nil}
use Rattle.outside.specs.declared.disk.Disk as disk
use Rattle.outside.specs.declared.devices.Words as words
use Rattle.outside.specs.declared.clock.Clock as clock
use Rattle.outside.specs.Disks.{Tells}
use Rattle.deed_words.specs.Setups.{Setup}
use Rattle.deed_words.specs.declared.entry.Entry.{Entry}
use Rattle.deed_words.specs.History.{world_from, world_of}
use Rattle.gate_journal.specs.Grammar.{IsNone}
use Rattle.site_store.specs.declared.store.Store.{Store}
use Rattle.site_store.specs.Held.{Held}
use Rattle.site_store.specs.Images.{HoldsState}
use Rattle.site_store.specs.Open.{IsOpen, store_state}
use Rattle.site_store.specs.Standing.{in_order}
use Rattle.site_store.specs.States.{State, settled}
use Rattle.site_store.proofs.Mending.{sound_holds}
use Rattle.site_sim.specs.declared.known.Known.{Known}
use Rattle.site_sim.specs.Example as example
use Rattle.site_sim.specs.Knowing.{AreNamed, Knows}
use Rattle.site_sim.specs.Requests.{Send, sends}
use Rattle.site_sim.specs.Results.{figures_of, line_of}
use Rattle.site_sim.specs.Sends.{Sent, Went}
use Rattle.site_sim.specs.Simulated.{SimulatedFrom}
use Rattle.site_sim.specs.Standing.{Stands}
use Rattle.site_sim.proofs.Keeping.{first, knows_nothing, small_first}

settled_is : (s : State) → s.pending ≡ [] → s ≡ settled s.history
settled_is s none = ap (λ (p : List Entry). record { history = s.history; pending = p }) none

pub went_settled : (old new : State) (ss : List Send) (m0 m1 w0 w1 : Option (List ℕ)) (all : Bool) (done : List Sent) → old ≡ settled [] → new.pending ≡ [] → Went old ss m0 m1 w0 w1 all done new → Went (settled []) ss m0 m1 w0 w1 all done (settled new.history)
went_settled old new ss m0 m1 w0 w1 all done start none went =
    subst (λ (s : State). Went s ss m0 m1 w0 w1 all done (settled new.history)) start (subst (λ (s : State). Went old ss m0 m1 w0 w1 all done s) (settled_is new none) went)

holds_settled : (site : Setup) (s : State) (c : List ℕ) → s.pending ≡ [] → site ≡ example.site → HoldsState site s c → Held example.site s.history c
holds_settled site s c none same (inl held) = subst (λ (t : Setup). Held t s.history c) same held
holds_settled site s c none same (inr held) =
    subst (λ (t : Setup). Held t s.history c) same (subst (λ (h : List Entry). Held site h c) (ap (λ (p : List Entry). s.history ++ p) none ∙ append-nil s.history) held)

pub line_told : (seed count sent : ℕ) (done : List Sent) (h h' : List Entry) (line : List ℕ) → sent ≡ length done → h ≡ h' → line ≡ line_of seed count (figures_of sent h) → line ≡ line_of seed count (figures_of (length done) h')
line_told seed count sent done h h' line counted there is =
    is ∙ ap (λ (n : ℕ). line_of seed count (figures_of n h)) counted ∙ ap (λ (x : List Entry). line_of seed count (figures_of (length done) x)) there

-- before the first request
none_named : AreNamed (world_of example.site []).batches
unfolding world_of world_from
none_named = tt

module _ {D C W : Type 0} (g : disk.Ghosts D) (k : clock.Ghosts C) (w : words.Ghosts W) where
  pub first_stands : (s : Store D C W g) → IsOpen g k w s → s.site.setup ≡ example.site → store_state s ≡ settled [] → Stands g k w s first
  first_stands s opens setup made =
      let none : s.site.history ≡ [] = ap (λ (t : State). t.history) made in
      record {
        is_open = opens;
        setup = setup;
        none = ap (λ (t : State). t.pending) made;
        knows = subst (λ (h : List Entry). Knows h first) (sym none) knows_nothing;
        named = subst (λ (h : List Entry). AreNamed (world_of example.site h).batches) (sym none) none_named;
        small = small_first;
      }

  pub images_hold : (u : Store D C W g) (known : Known) → Stands g k w u known → (c : List ℕ) → g.image u.journal.disk c → Held example.site u.site.history c
  images_hold u known st c left =
      holds_settled u.site.setup (store_state u) c st.none st.setup
      (sound_holds (g.image u.journal.disk) u.journal.end u.journal.pending u.site (in_order u.pending.items) (vec_capacity u.log - vec_len u.log) c st.is_open.sound left)

pub simulated : {D : Type 0} (g : disk.Ghosts D) (m w : Option (List ℕ)) (seed count : ℕ) (before at_end after : D) (line : List ℕ) (history : List Entry) (all : Bool) (done : List Sent) (m0 m1 w0 w1 : Option (List ℕ)) → Tells (g.content before) IsNone → Went (settled []) (sends count) m0 m1 w0 w1 all done (settled history)
    → m0 ≡ m → w0 ≡ w → ((c : List ℕ) → g.image at_end c → Held example.site history c) → after ≡ at_end → line ≡ line_of seed count (figures_of (length done) history) → SimulatedFrom g m w seed count before after line
simulated {D} g m w seed count before at_end after line history all done m0 m1 w0 w1 none went m_is w_is images after_is line_is = record {
  history = history;
  done = done;
  all = all;
  clock_left = m1;
  words_left = w1;
  none = none;
  went = subst (λ (o : Option (List ℕ)). Went (settled []) (sends count) o m1 w w1 all done (settled history)) m_is
      (subst (λ (o : Option (List ℕ)). Went (settled []) (sends count) m0 m1 o w1 all done (settled history)) w_is went);
  images = subst (λ (d : D). (c : List ℕ) → g.image d c → Held example.site history c) (sym after_is) images;
  line_is = line_is;
}

-- .. where the clock and the words have these contents
pub from_contents : {D : Type 0} (g : disk.Ghosts D) (m m' w w' : Option (List ℕ)) (seed count : ℕ) (before after : D) (line : List ℕ) → m ≡ m' → w ≡ w' → SimulatedFrom g m w seed count before after line → SimulatedFrom g m' w' seed count before after line
from_contents g m m' w w' seed count before after line m_is w_is sim =
    subst (λ (o : Option (List ℕ)). SimulatedFrom g o w' seed count before after line) m_is (subst (λ (o : Option (List ℕ)). SimulatedFrom g m o seed count before after line) w_is sim)
