-- What a door tells of its links.
use Rattle.std.specs.Prelude.{◌≡◌, ◌+◌, ℕ, List, [], ◌∷◌, ◌++◌, Option, Some, None, Result, Ok, Err}

-- a link at one moment: what is left in it and what was put, where it tells them, and its two counts
pub record Wire : Type 0 where
  pub left : Option (List ℕ)
  pub put : Option (List ℕ)
  pub read_faults : ℕ
  pub write_faults : ℕ

abbrev pub wire : Option (List ℕ) → Option (List ℕ) → ℕ → ℕ → Wire
wire left put read_faults write_faults = record { left = left; put = put; read_faults = read_faults; write_faults = write_faults }

-- these links more, where the links are told
abbrev pub told_all : Option (List Wire) → List Wire → Option (List Wire)
told_all None ws = None
told_all (Some xs) ws = Some (xs ++ ws)

-- one link more, where the links are told
abbrev pub told_more : Option (List Wire) → Wire → Option (List Wire)
told_more xs w = told_all xs (w ∷ [])

-- a door: how many calls may still give a link or fail; how many links were given, and how many came back; the links
-- as they were given and as they came back, where it tells them; and how often a call failed
pub record DoorState : Type 0 where
  pub quota : ℕ
  pub given : ℕ
  pub back : ℕ
  pub links : Option (List Wire)
  pub links_back : Option (List Wire)
  pub faults : ℕ

-- this link was given (what it uses up of the quota is told apart)
abbrev pub gives : DoorState → DoorState → Wire → DoorState
gives old new w = record old { quota = new.quota; given = old.given + 1; links = told_more old.links w }

-- a call failed: nothing but the quota and the count may change
abbrev pub fails : DoorState → DoorState → DoorState
fails old new = record old { quota = new.quota; faults = new.faults }

-- this link came back
abbrev pub takes_back : DoorState → Wire → DoorState
takes_back old w = record old { back = old.back + 1; links_back = told_more old.links_back w }

-- a door with so many links to give, before the first call
abbrev pub with_quota : ℕ → Option (List Wire) → DoorState
with_quota quota told = record { quota = quota; given = 0; back = 0; links = told; links_back = told; faults = 0 }

-- nothing was put
abbrev pub IsUnused : Option (List ℕ) → Type 0
IsUnused held = (put : List ℕ) → held ≡ Some put → put ≡ []

-- a link and a failure each use up one of the quota, and none comes exactly where it is used up
abbrev pub NextLink : {T E : Type 0} → Result (Option T) E → ℕ → ℕ → Type 0
NextLink (Ok None) old new = (old ≡ 0) × (new ≡ 0)
NextLink (Ok (Some link)) old new = old ≡ new + 1
NextLink (Err fault) old new = old ≡ new + 1
