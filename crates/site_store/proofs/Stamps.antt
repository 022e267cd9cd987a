-- The last stamp.
use Rattle.std.proofs.Common.{◌≡◌, ◌≤◌, List, [], ◌∷◌, ◌++◌, refl, arith}
use Rattle.deed_words.specs.declared.entry.Entry.{Entry}
use Rattle.deed_words.specs.History.{last_stamp}
use Rattle.site_store.specs.Entries.{AreProper, latest}

pub last_push : (history : List Entry) (entry : Entry) → last_stamp (history ++ entry ∷ []) ≡ entry.stamp
unfolding last_stamp
last_push [] entry = refl
last_push (e ∷ []) entry = refl
last_push (e ∷ f ∷ history) entry = last_push (f ∷ history) entry

pub proper_more : (entries more : List Entry) → AreProper entries → AreProper more → AreProper (entries ++ more)
proper_more [] more are also = also
proper_more (entry ∷ entries) more are also = (are.0, proper_more entries more are.1 also)

pub proper_last : (history : List Entry) → AreProper history → last_stamp history ≤ latest
unfolding last_stamp
proper_last [] are = omega arith
proper_last (e ∷ []) are = are.0.stamp
proper_last (e ∷ f ∷ history) are = proper_last (f ∷ history) are.1
