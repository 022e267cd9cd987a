use Rattle.std.proofs.Common.{◌≡◌, ◌≤◌, ◌+◌, ◌++◌, List, length, vec_len, vec_capacity}
use Rattle.deed_words.specs.declared.entry.Entry.{Entry}
use Rattle.site_core.specs.Rooms.{HasRoomFor}
use Rattle.site_store.specs.Standing.{in_order, entries_of}
use Rattle.site_store.specs.Coming.{AreLast, AreNext}
use Rattle.site_store.proofs.undoing.take_back.Given as goal

abbrev pub invariant-committed : goal.invariant-committed
invariant-committed l = record {
  setup : l.site.setup ≡ l.fn.site.setup;
  last : AreLast l.site.setup l.site.history l.site.content l.committed.items;
  history : (before : List Entry) → l.fn.site.history ≡ before ++ entries_of l.fn.committed.items → l.site.history ≡ before ++ entries_of l.committed.items;
  all : l.committed.items ++ in_order l.pending.items ≡ l.fn.committed.items;
  room : HasRoomFor l.site (in_order l.pending.items);
  next : AreNext l.site.setup l.site.history l.site.content (in_order l.pending.items);
  spare : length l.committed.items + vec_len l.pending ≤ vec_capacity l.pending;
}

abbrev pub decreases-committed : goal.decreases-committed
decreases-committed l = vec_len l.committed
