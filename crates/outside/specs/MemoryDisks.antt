-- The images of a disk in memory, now and before.
use Rattle.std.specs.Prelude.{◌≡◌, ◌⊎◌, ◌+◌, ℕ, nat_le, if◌then◌else◌, List, [], ◌∷◌, ◌++◌, length, take, drop, Option, Some, None}
use Rattle.std.proofs.Common.{inl, inr}
use Rattle.outside.specs.Disks.{Torn, overwritten, Follows, LeadsTo, SameImages, Elapses}
use Rattle.outside.specs.declared.named.Named.{Named}
use Rattle.outside.specs.declared.named.Unsynced.{Unsynced}
use Rattle.outside.specs.declared.named.Past.{Past}

-- what these writes may have left, the first of them first: each was cut short over what a crash may have left
-- before it, or over the content that it found
abbrev pub IsTornBy : List Named → List ℕ → List ℕ → Type 0
IsTornBy [] old c = c ≡ old
IsTornBy (w ∷ ws) old c = (d : List ℕ) × (Torn w.at w.len old d ⊎ Torn w.at w.len w.found.value.items d) × IsTornBy ws d c

-- what stood at the last sync, with the writes since then cut short
abbrev pub IsUnsynced : Option Unsynced → List ℕ → Type 0
IsUnsynced None c = ⊥
IsUnsynced (Some u) c = IsTornBy u.writes.items u.synced.value.items c

abbrev pub IsImage : List ℕ → Option Unsynced → List ℕ → Type 0
IsImage bytes unsynced c = (c ≡ bytes) ⊎ IsUnsynced unsynced c

abbrev pub SameUnsynced : Option Unsynced → Option Unsynced → Type 0
SameUnsynced old new = SameImages (IsUnsynced old) (IsUnsynced new)

-- the range was named: beside the content, the images are those before with any bytes in it
pub record Names (at n : ℕ) (bytes : List ℕ) (old new : Option Unsynced) : Type 0 where
  pub follows : Follows (Torn at n) (IsImage bytes old) (IsUnsynced new)
  pub leads : LeadsTo (Torn at n) (IsImage bytes old) (IsUnsynced new)

-- what stood at the last sync
abbrev pub at_last_sync : List ℕ → Option Unsynced → List ℕ
at_last_sync bytes None = bytes
at_last_sync bytes (Some u) = u.synced.value.items

-- the writes since then
abbrev pub writes_of : Option Unsynced → List Named
writes_of None = []
writes_of (Some u) = u.writes.items

-- the content with what this write covered put back, where it is long enough
abbrev pub undone : Named → List ℕ → Option (List ℕ)
undone w c = if nat_le (w.at + length w.covered.items) (length c) then Some (take w.size (overwritten w.at w.covered.items c)) else None

abbrev pub then_undone : Option (List ℕ) → Named → Option (List ℕ)
then_undone None w = None
then_undone (Some c) w = undone w c

-- the content with what these writes covered put back, the last of them first
abbrev pub all_undone : List Named → List ℕ → Option (List ℕ)
all_undone [] c = Some c
all_undone (w ∷ ws) c = then_undone (all_undone ws c) w

-- what the writes covered leads back to what stood at the last sync
abbrev pub LeadsBack : List ℕ → Option Unsynced → Type 0
LeadsBack bytes unsynced = all_undone (writes_of unsynced) bytes ≡ Some (at_last_sync bytes unsynced)

-- a write of n bytes, done or not, keeps what stood at the last sync
pub record KeepsSync (at n : ℕ) (bytes : List ℕ) (old new : Option Unsynced) : Type 0 where
  pub as_it_was : LeadsBack bytes new
  pub written : (piece : List ℕ) → length piece ≡ n → LeadsBack (overwritten at piece bytes) new
  pub same : (c : List ℕ) → at_last_sync c new ≡ at_last_sync bytes old

-- one of these moments had the image
abbrev pub HadImage : List Past → List ℕ → Type 0
HadImage [] c = ⊥
HadImage (p ∷ past) c = IsImage p.bytes.value.items p.unsynced.value c ⊎ HadImage past c

-- the moment with this content joins those before
pub record Remembers (old new : List Past) (bytes : List ℕ) (unsynced : Option Unsynced) : Type 0 where
  pub moment : Past
  pub bytes_are : moment.bytes.value.items ≡ bytes
  pub unsynced_is : moment.unsynced.value ≡ unsynced
  pub joined : new ≡ old ++ moment ∷ []

-- what a crash since t may have left
abbrev pub SinceThen : List Past → List ℕ → Option Unsynced → ℕ → List ℕ → Type 0
SinceThen past bytes unsynced t c = IsImage bytes unsynced c ⊎ HadImage (drop t past) c

-- time goes on from what was there to what is there now
abbrev pub GoesOn : List Past → List ℕ → Option Unsynced → List Past → List ℕ → Option Unsynced → Type 0
GoesOn past bytes unsynced past' bytes' unsynced' =
    Elapses (length past) (length past') (SinceThen past bytes unsynced) (SinceThen past' bytes' unsynced') (IsImage bytes' unsynced')

none_left : (past : List Past) (c : List ℕ) → HadImage (drop (length past) past) c → ⊥
none_left [] c had = had
none_left (p ∷ past) c had = none_left past c had

-- since the last of them there is what is there now
pub only_image : (past : List Past) (bytes : List ℕ) (unsynced : Option Unsynced) (c : List ℕ) → IsImage bytes unsynced c ⊎ HadImage (drop (length past) past) c → IsImage bytes unsynced c
only_image past bytes unsynced c (inl now) = now
only_image past bytes unsynced c (inr had) = absurd (none_left past c had)

-- the content is an image
pub content_image : (bytes : List ℕ) (unsynced : Option Unsynced) (c : List ℕ) → Some bytes ≡ Some c → IsImage bytes unsynced c
content_image bytes unsynced c told = inl cc
