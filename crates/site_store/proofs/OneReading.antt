-- Bytes are no journal, or bad at one place, or they hold one setup and one history, and only one of these.
use Rattle.std.proofs.Common.{◌≡◌, ◌∙◌, ◌⊎◌, inl, inr, ⊎_elim, ℕ, List, [], ◌∷◌, ◌++◌, length, refl, sym, subst, ap, append_assoc}
use Rattle.deed_words.specs.Setups.{Setup}
use Rattle.deed_words.specs.declared.entry.Entry.{Entry}
use Rattle.deed_words.specs.History.{IsLawful}
use Rattle.deed_words.proofs.Following.{lawful_front}
use Rattle.gate_journal.specs.Grammar.{IsNone, front}
use Rattle.gate_journal.proofs.Readings.{holds_once, holds_not_bad, holds_not_none, bad_once, bad_not_none}
use Rattle.entry_bytes.specs.Groups.{SpellsGroup}
use Rattle.entry_bytes.specs.Sites.{SpellsSetup}
use Rattle.entry_bytes.proofs.Groups.{one_of_bytes}
use Rattle.entry_bytes.proofs.SiteWhole.{one_site}
use Rattle.site_store.specs.Held.{AreGroups, Held, HasNoSetup, Spoils, IsSpoilt, IsBadHistory}
use Rattle.site_store.specs.Readings.{Reading, Nothing, Bad, Kept, ReadsAs}

-- bytes are of one group, and of one setup
record IsOneSpelling : Type 0 where
  group : (a b : List Entry) (bytes : List ℕ) → SpellsGroup a bytes → SpellsGroup b bytes → a ≡ b
  setup : (a b : Setup) (bytes : List ℕ) → SpellsSetup a bytes → SpellsSetup b bytes → a ≡ b

-- ---- payloads

groups_once : IsOneSpelling → (payloads : List (List ℕ)) (a b : List Entry) → AreGroups payloads a → AreGroups payloads b → a ≡ b
groups_once one [] a b are also = are ∙ sym also
groups_once one (payload ∷ payloads) a b are also =
    are.2 ∙ ap (λ (l : List Entry). l ++ are.1) (one.group are.0 also.0 payload are.3 also.3) ∙ ap (λ (l : List Entry). also.0 ++ l) (groups_once one payloads are.1 also.1 are.4 also.4) ∙ sym also.2

-- a history with a group in it
pub record HasGroup (before : List (List ℕ)) (payload : List ℕ) (history : List Entry) : Type 0 where
  pub first : List Entry
  pub group : List Entry
  pub rest : List Entry
  pub groups : AreGroups before first
  pub spells : SpellsGroup group payload
  pub history_is : history ≡ (first ++ group) ++ rest

cut_groups : (before : List (List ℕ)) (payload : List ℕ) (after : List (List ℕ)) (history : List Entry) → AreGroups (before ++ payload ∷ after) history → HasGroup before payload history
cut_groups [] payload after history are = record { first = []; group = are.0; rest = are.1; groups = refl; spells = are.3; history_is = are.2 }
cut_groups (p ∷ before) payload after history are =
    let more = cut_groups before payload after are.1 are.4 in
    record {
      first = are.0 ++ more.first;
      group = more.group;
      rest = more.rest;
      groups = (are.0, more.first, refl, are.3, more.groups);
      spells = more.spells;
      history_is = are.2 ∙ ap (λ (l : List Entry). are.0 ++ l) more.history_is ∙ sym (append_assoc are.0 (more.first ++ more.group) more.rest) ∙ ap (λ (l : List Entry). l ++ more.rest) (sym (append_assoc are.0 more.first more.group));
    }

-- a lawful history has no payload that spoils it
not_spoilt : IsOneSpelling → (site : Setup) (before : List (List ℕ)) (payload : List ℕ) (after : List (List ℕ)) (history first : List Entry) → AreGroups (before ++ payload ∷ after) history → IsLawful site history → AreGroups before first → Spoils site first payload → ⊥
not_spoilt one site before payload after history first are lawful groups spoils =
    let has = cut_groups before payload after history are in
    let first_is : has.first ≡ first = groups_once one before has.first first has.groups groups in
    let front : IsLawful site (has.first ++ has.group) = lawful_front site (has.first ++ has.group) has.rest (subst (λ (h : List Entry). IsLawful site h) has.history_is lawful) in
    ⊎_elim (λ never. never has.group has.spells)
    (λ other. other.2 (subst (λ (l : List Entry). IsLawful site (l ++ other.0)) first_is (subst (λ (l : List Entry). IsLawful site (has.first ++ l)) (one.group has.group other.0 payload has.spells other.1) front))) spoils

-- of two cuts one is in front of the other, or they are at the same place
pub record IsBefore (first : List (List ℕ)) (payload : List ℕ) (second : List (List ℕ)) : Type 0 where
  pub between : List (List ℕ)
  pub second_is : second ≡ first ++ payload ∷ between

two_cuts : (first : List (List ℕ)) (p : List ℕ) (after second : List (List ℕ)) (q : List ℕ) (later : List (List ℕ)) → first ++ p ∷ after ≡ second ++ q ∷ later → (first ≡ second) ⊎ (IsBefore first p second ⊎ IsBefore second q first)
two_cuts [] p after [] q later is = inl refl
two_cuts [] p after (s ∷ second) q later is = let same : s ≡ p = cc in inr (inl (record { between = second; second_is = ap (λ (l : List ℕ). l ∷ second) same }))
two_cuts (s ∷ first) p after [] q later is = let same : s ≡ q = cc in inr (inr (record { between = first; second_is = ap (λ (l : List ℕ). l ∷ first) same }))
two_cuts (s ∷ first) p after (t ∷ second) q later is =
    let head : s ≡ t = cc in
    let tail : first ++ p ∷ after ≡ second ++ q ∷ later = cc in
    ⊎_elim (λ same. inl (ap (λ (l : List (List ℕ)). s ∷ l) same ∙ ap (λ (h : List ℕ). h ∷ second) head))
    (λ one. ⊎_elim
    (λ b. inr (inl (record { between = b.between; second_is = ap (λ (l : List (List ℕ)). t ∷ l) b.second_is ∙ ap (λ (h : List ℕ). h ∷ (first ++ p ∷ b.between)) (sym head) })))
    (λ b. inr (inr (record { between = b.between; second_is = ap (λ (l : List (List ℕ)). s ∷ l) b.second_is ∙ ap (λ (h : List ℕ). h ∷ (second ++ q ∷ b.between)) head }))) one)
    (two_cuts first p after second q later tail)

-- ---- two readings

held_once : IsOneSpelling → (c : List ℕ) (site site' : Setup) (history history' : List Entry) → Held site history c → Held site' history' c → Kept site history ≡ Kept site' history'
held_once one c site site' history history' a b =
    let same = holds_once c a.site_bytes b.site_bytes a.payloads b.payloads a.holds b.holds in
    let site_is : site ≡ site' = one.setup site site' b.site_bytes (subst (λ (l : List ℕ). SpellsSetup site l) same.0 a.spelled) b.spelled in
    let history_is : history ≡ history' = groups_once one b.payloads history history' (subst (λ (l : List (List ℕ)). AreGroups l history) same.1 a.groups) b.groups in
    ap (λ (s : Setup). Kept s history) site_is ∙ ap (λ (h : List Entry). Kept site' h) history_is

held_not_spoilt : IsOneSpelling → (c : List ℕ) (site : Setup) (history : List Entry) (place : ℕ) → Held site history c → IsSpoilt c place → ⊥
held_not_spoilt one c site history place a s =
    let same = holds_once c a.site_bytes s.site_bytes a.payloads (s.before ++ s.payload ∷ s.after) a.holds s.holds in
    let site_is : site ≡ s.site = one.setup site s.site s.site_bytes (subst (λ (l : List ℕ). SpellsSetup site l) same.0 a.spelled) s.spelled in
    not_spoilt one s.site s.before s.payload s.after history s.history (subst (λ (l : List (List ℕ)). AreGroups l history) same.1 a.groups) (subst (λ (t : Setup). IsLawful t history) site_is a.lawful) s.groups s.spoils

held_not_bad : IsOneSpelling → (c : List ℕ) (site : Setup) (history : List Entry) (place : ℕ) → Held site history c → IsBadHistory c place → ⊥
held_not_bad one c site history place a (inl bad) = holds_not_bad c a.site_bytes a.payloads place a.holds bad
held_not_bad one c site history place a (inr (inl blank)) =
    let same = holds_once c a.site_bytes blank.1.site_bytes a.payloads blank.1.payloads a.holds blank.1.holds in
    blank.1.unread site (subst (λ (l : List ℕ). SpellsSetup site l) same.0 a.spelled)
held_not_bad one c site history place a (inr (inr s)) = held_not_spoilt one c site history place a s

bad_history_not_none : (c : List ℕ) (place : ℕ) → IsBadHistory c place → IsNone c → ⊥
bad_history_not_none c place (inl bad) none = bad_not_none c place bad none
bad_history_not_none c place (inr (inl blank)) none = holds_not_none c blank.1.site_bytes blank.1.payloads blank.1.holds none
bad_history_not_none c place (inr (inr s)) none = holds_not_none c s.site_bytes (s.before ++ s.payload ∷ s.after) s.holds none

unread_not_spoilt : (c : List ℕ) (place : ℕ) → HasNoSetup c → IsSpoilt c place → ⊥
unread_not_spoilt c place blank s =
    let same = holds_once c blank.site_bytes s.site_bytes blank.payloads (s.before ++ s.payload ∷ s.after) blank.holds s.holds in
    blank.unread s.site (subst (λ (l : List ℕ). SpellsSetup s.site l) (sym same.0) s.spelled)

-- what spoils a history doesn't stand in front of another that does
never_before : IsOneSpelling → (c : List ℕ) (place other : ℕ) (s : IsSpoilt c place) (t : IsSpoilt c other) → t.site ≡ s.site → IsBefore s.before s.payload t.before → ⊥
never_before one c place other s t site_is b =
    not_spoilt one s.site s.before s.payload b.between t.history s.history (subst (λ (l : List (List ℕ)). AreGroups l t.history) b.second_is t.groups) (subst (λ (x : Setup). IsLawful x t.history) site_is t.lawful) s.groups s.spoils

spoilt_once : IsOneSpelling → (c : List ℕ) (place other : ℕ) → IsSpoilt c place → IsSpoilt c other → place ≡ other
spoilt_once one c place other s t =
    let same = holds_once c s.site_bytes t.site_bytes (s.before ++ s.payload ∷ s.after) (t.before ++ t.payload ∷ t.after) s.holds t.holds in
    let site_is : s.site ≡ t.site = one.setup s.site t.site t.site_bytes (subst (λ (l : List ℕ). SpellsSetup s.site l) same.0 s.spelled) t.spelled in
    let before_is : s.before ≡ t.before = ⊎_elim (λ is. is) (λ one_first. ⊎_elim (λ b. absurd (never_before one c place other s t (sym site_is) b)) (λ b. absurd (never_before one c other place t s site_is b)) one_first) (two_cuts s.before s.payload s.after t.before t.payload t.after same.1) in
    s.place_is ∙ ap (λ (l : List ℕ). length (front l s.before)) same.0 ∙ ap (λ (l : List (List ℕ)). length (front t.site_bytes l)) before_is ∙ sym t.place_is

bad_history_once : IsOneSpelling → (c : List ℕ) (place other : ℕ) → IsBadHistory c place → IsBadHistory c other → place ≡ other
bad_history_once one c place other (inl a) (inl b) = bad_once c place other a b
bad_history_once one c place other (inl a) (inr (inl blank)) = absurd (holds_not_bad c blank.1.site_bytes blank.1.payloads place blank.1.holds a)
bad_history_once one c place other (inl a) (inr (inr s)) = absurd (holds_not_bad c s.site_bytes (s.before ++ s.payload ∷ s.after) place s.holds a)
bad_history_once one c place other (inr (inl blank)) (inl b) = absurd (holds_not_bad c blank.1.site_bytes blank.1.payloads other blank.1.holds b)
bad_history_once one c place other (inr (inl blank)) (inr (inl also)) = blank.0 ∙ sym also.0
bad_history_once one c place other (inr (inl blank)) (inr (inr s)) = absurd (unread_not_spoilt c other blank.1 s)
bad_history_once one c place other (inr (inr s)) (inl b) = absurd (holds_not_bad c s.site_bytes (s.before ++ s.payload ∷ s.after) other s.holds b)
bad_history_once one c place other (inr (inr s)) (inr (inl blank)) = absurd (unread_not_spoilt c place blank.1 s)
bad_history_once one c place other (inr (inr s)) (inr (inr t)) = spoilt_once one c place other s t

reads_as_one : IsOneSpelling → (c : List ℕ) (a b : Reading) → ReadsAs a c → ReadsAs b c → a ≡ b
reads_as_one one c Nothing Nothing x y = refl
reads_as_one one c Nothing (Bad place) x y = absurd (bad_history_not_none c place y x)
reads_as_one one c Nothing (Kept site history) x y = absurd (holds_not_none c y.site_bytes y.payloads y.holds x)
reads_as_one one c (Bad place) Nothing x y = absurd (bad_history_not_none c place x y)
reads_as_one one c (Bad place) (Bad other) x y = ap Bad (bad_history_once one c place other x y)
reads_as_one one c (Bad place) (Kept site history) x y = absurd (held_not_bad one c site history place y x)
reads_as_one one c (Kept site history) Nothing x y = absurd (holds_not_none c x.site_bytes x.payloads x.holds y)
reads_as_one one c (Kept site history) (Bad place) x y = absurd (held_not_bad one c site history place x y)
reads_as_one one c (Kept site history) (Kept site' history') x y = held_once one c site site' history history' x y

pub reads_once : (c : List ℕ) (a b : Reading) → ReadsAs a c → ReadsAs b c → a ≡ b
reads_once = reads_as_one (record { group = λ a b bytes. one_of_bytes bytes a b; setup = λ a b bytes. one_site bytes a b })
