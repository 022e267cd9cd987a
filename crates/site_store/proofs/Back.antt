-- What was committed, taken back and put in again.
use Rattle.std.proofs.Common.{◌≡◌, ◌∙◌, ◌+◌, ℕ, List, [], ◌∷◌, ◌++◌, length, refl, sym, subst, ap, arith, append_assoc, append-nil}
use Rattle.std.specs.List.{AllByRecursion as Every}
use Rattle.std.proofs.lemmas.List.{map_push, append_cancel_right, length-append}
use Rattle.deed_words.specs.Setups.{Setup}
use Rattle.deed_words.specs.World.{nothing_yet}
use Rattle.deed_words.specs.declared.entry.Entry.{Entry}
use Rattle.deed_words.specs.Replies.{after}
use Rattle.deed_words.specs.History.{IsLawful, world_of, world_from}
use Rattle.deed_words.proofs.Following.{lawful_more, world_from-append}
use Rattle.batch_book.specs.Content.{Content, world_in}
use Rattle.site_stores.specs.Changes.{applied, taken_back}
use Rattle.site_stores.proofs.Undoing.{applied_and_back}
use Rattle.site_core.specs.View.{View}
use Rattle.site_core.specs.Plans.{IsNext, IsLast}
use Rattle.site_core.specs.Rooms.{HasRoomFor}
use Rattle.site_core.specs.declared.planned.Planned.{Planned}
use Rattle.site_store.specs.Coming.{AreLast, AreNext, applied_all}
use Rattle.site_store.specs.Noting.{Noted, dones}
use Rattle.site_store.specs.Standing.{in_order, entries_of}

-- ---- lists

pub every_more : {X : Type 0} (P : X → Type 0) (xs ys : List X) → Every P xs → Every P ys → Every P (xs ++ ys)
every_more P [] ys are also = also
every_more P (x ∷ xs) ys are also = (are.0, every_more P xs ys are.1 also)

pub in_order_push : (ps : List Planned) (p : Planned) → in_order (ps ++ p ∷ []) ≡ p ∷ in_order ps
in_order_push [] p = refl
in_order_push (q ∷ ps) p = ap (λ (l : List Planned). l ++ q ∷ []) (in_order_push ps p)

pub entries_push : (ps : List Planned) (p : Planned) → entries_of (ps ++ p ∷ []) ≡ entries_of ps ++ p.entry ∷ []
entries_push ps p = map_push (λ (q : Planned). q.entry) ps p

pub applied_push : (c : Content) (ps : List Planned) (p : Planned) → applied_all c (ps ++ p ∷ []) ≡ applied (applied_all c ps) p.change
applied_push c [] p = refl
applied_push c (q ∷ ps) p = applied_push (applied c q.change) ps p

-- ---- entries that come next

pub next_front : (site : Setup) (h : List Entry) (c : Content) (ps : List Planned) (p : Planned) → AreNext site h c (ps ++ p ∷ []) → AreNext site h c ps
next_front site h c [] p are = tt
next_front site h c (q ∷ ps) p are = (are.0, next_front site (h ++ q.entry ∷ []) (applied c q.change) ps p are.1)

pub next_last : (site : Setup) (h : List Entry) (c : Content) (ps : List Planned) (p : Planned) → AreNext site h c (ps ++ p ∷ []) → IsNext site (h ++ entries_of ps) (applied_all c ps) p
next_last site h c [] p are = subst (λ (l : List Entry). IsNext site l c p) (sym (append-nil h)) are.0
next_last site h c (q ∷ ps) p are =
    subst (λ (l : List Entry). IsNext site l (applied_all (applied c q.change) ps) p) (append_assoc h (q.entry ∷ []) (entries_of ps)) (next_last site (h ++ q.entry ∷ []) (applied c q.change) ps p are.1)

pub next_push : (site : Setup) (h : List Entry) (c : Content) (ps : List Planned) (p : Planned) → AreNext site h c ps → IsNext site (h ++ entries_of ps) (applied_all c ps) p → AreNext site h c (ps ++ p ∷ [])
next_push site h c [] p are next = (subst (λ (l : List Entry). IsNext site l c p) (append-nil h) next, tt)
next_push site h c (q ∷ ps) p are next =
    (are.0, next_push site (h ++ q.entry ∷ []) (applied c q.change) ps p are.1 (subst (λ (l : List Entry). IsNext site l (applied_all (applied c q.change) ps) p) (sym (append_assoc h (q.entry ∷ []) (entries_of ps))) next))

pub lawful_next : (site : Setup) (h : List Entry) (c : Content) (ps : List Planned) → IsLawful site h → AreNext site h c ps → IsLawful site (h ++ entries_of ps)
lawful_next site h c [] lawful are = subst (λ (l : List Entry). IsLawful site l) (sym (append-nil h)) lawful
lawful_next site h c (p ∷ ps) lawful are =
    subst (λ (l : List Entry). IsLawful site l) (append_assoc h (p.entry ∷ []) (entries_of ps)) (lawful_next site (h ++ p.entry ∷ []) (applied c p.change) ps (lawful_more site h p.entry lawful are.0.follows) are.1)

world_more : (site : Setup) (history : List Entry) (entry : Entry) → world_of site (history ++ entry ∷ []) ≡ after site (world_of site history) entry
unfolding world_of world_from
world_more site history entry = world_from-append site nothing_yet history (entry ∷ [])

-- the stores hold the world behind them
world_after : (site : Setup) (h : List Entry) (c : Content) (ps : List Planned) → world_in c ≡ world_of site h → AreNext site h c ps → world_in (applied_all c ps) ≡ world_of site (h ++ entries_of ps)
world_after site h c [] is are = is ∙ ap (λ (l : List Entry). world_of site l) (sym (append-nil h))
world_after site h c (p ∷ ps) is are =
    world_after site (h ++ p.entry ∷ []) (applied c p.change) ps (are.0.effect ∙ sym (world_more site h p.entry)) are.1 ∙ ap (λ (l : List Entry). world_of site l) (append_assoc h (p.entry ∷ []) (entries_of ps))

-- ---- room

pub no_room : (view : View) → HasRoomFor view []
no_room view = record {
  entries = omega arith;
  numbers = λ station. omega arith;
  stores = record { batches = omega arith; declarations = omega arith; rows = omega arith; units = omega arith };
  serials = omega arith;
  gtins = tt;
  moves = record { any = omega arith; own = λ batch. omega arith };
}

-- ---- one of them is taken back

pub last_of : (site : Setup) (h : List Entry) (c : Content) (all rest : List Planned) (p : Planned) → AreLast site h c all → all ≡ rest ++ p ∷ [] → IsLast site h c p
last_of site h c all rest p last is =
    let next : AreNext site last.front last.before (rest ++ p ∷ []) = subst (λ (l : List Planned). AreNext site last.front last.before l) is last.next in
    record {
      front = last.front ++ entries_of rest;
      before = applied_all last.before rest;
      history_is = last.history_is ∙ ap (λ (l : List Planned). last.front ++ entries_of l) is ∙ ap (λ (l : List Entry). last.front ++ l) (entries_push rest p) ∙ sym (append_assoc last.front (entries_of rest) (p.entry ∷ []));
      content_is = last.content_is ∙ ap (λ (l : List Planned). applied_all last.before l) is ∙ applied_push last.before rest p;
      world_is = world_after site last.front last.before rest last.world_is (next_front site last.front last.before rest p next);
      next = next_last site last.front last.before rest p next;
    }

pub before_is : (h h' before : List Entry) (all rest : List Planned) (p q : Planned) → q ≡ p → all ≡ rest ++ p ∷ [] → h ≡ h' ++ q.entry ∷ [] → h ≡ before ++ entries_of all → h' ≡ before ++ entries_of rest
before_is h h' before all rest p q same is undone was =
    append_cancel_right h' (before ++ entries_of rest) (p.entry ∷ [])
    (ap (λ (r : Planned). h' ++ r.entry ∷ []) (sym same) ∙ sym undone ∙ was ∙ ap (λ (l : List Planned). before ++ entries_of l) is ∙ ap (λ (l : List Entry). before ++ l) (entries_push rest p) ∙ sym (append_assoc before (entries_of rest) (p.entry ∷ [])))

-- what the stores hold then
content_back : (site : Setup) (h : List Entry) (c c' : Content) (all rest : List Planned) (p q : Planned) → (last : AreLast site h c all) → q ≡ p → all ≡ rest ++ p ∷ [] → c' ≡ taken_back c q.change → c' ≡ applied_all last.before rest
content_back site h c c' all rest p q last same is undone =
    let next : AreNext site last.front last.before (rest ++ p ∷ []) = subst (λ (l : List Planned). AreNext site last.front last.before l) is last.next in
    let whole : c ≡ applied (applied_all last.before rest) p.change = last.content_is ∙ ap (λ (l : List Planned). applied_all last.before l) is ∙ applied_push last.before rest p in
    undone ∙ ap (λ (r : Planned). taken_back c r.change) same ∙ ap (λ (d : Content). taken_back d p.change) whole ∙ applied_and_back (applied_all last.before rest) p.change (next_last site last.front last.before rest p next).may

pub last_rest : (site site' : Setup) (h h' : List Entry) (c c' : Content) (all rest : List Planned) (p q : Planned) → AreLast site h c all → site' ≡ site → q ≡ p → all ≡ rest ++ p ∷ [] → h ≡ h' ++ q.entry ∷ [] → c' ≡ taken_back c q.change → AreLast site' h' c' rest
last_rest site site' h h' c c' all rest p q last setup_is same is undone content =
    let next : AreNext site last.front last.before (rest ++ p ∷ []) = subst (λ (l : List Planned). AreNext site last.front last.before l) is last.next in
    record {
      front = last.front;
      before = last.before;
      history_is = before_is h h' last.front all rest p q same is undone last.history_is;
      content_is = content_back site h c c' all rest p q last same is content;
      world_is = last.world_is ∙ ap (λ (s : Setup). world_of s last.front) (sym setup_is);
      next = subst (λ (s : Setup). AreNext s last.front last.before rest) (sym setup_is) (next_front site last.front last.before rest p next);
    }

-- it may come next again, and what was taken back before it behind it
pub next_stays : (site site' : Setup) (h h' : List Entry) (c c' : Content) (all rest pending pending' : List Planned) (p q : Planned) → AreLast site h c all → site' ≡ site → q ≡ p → all ≡ rest ++ p ∷ [] → h ≡ h' ++ q.entry ∷ [] → c' ≡ taken_back c q.change
    → IsNext site' h' c' q → pending' ≡ pending ++ q ∷ [] → AreNext site h c (in_order pending) → AreNext site' h' c' (in_order pending')
next_stays site site' h h' c c' all rest pending pending' p q last setup_is same is undone content next pushed are =
    let whole : c ≡ applied (applied_all last.before rest) p.change = last.content_is ∙ ap (λ (l : List Planned). applied_all last.before l) is ∙ applied_push last.before rest p in
    let again : c ≡ applied c' q.change = whole ∙ ap (λ (d : Content). applied d p.change) (sym (content_back site h c c' all rest p q last same is content)) ∙ ap (λ (r : Planned). applied c' r.change) (sym same) in
    let behind : AreNext site' (h' ++ q.entry ∷ []) (applied c' q.change) (in_order pending) =
    subst (λ (s : Setup). AreNext s (h' ++ q.entry ∷ []) (applied c' q.change) (in_order pending)) (sym setup_is)
    (subst (λ (l : List Entry). AreNext site l (applied c' q.change) (in_order pending)) undone (subst (λ (d : Content). AreNext site h d (in_order pending)) again are))
    in
    subst (λ (l : List Planned). AreNext site' h' c' l) (sym (in_order_push pending q) ∙ ap in_order (sym pushed)) (next, behind)

pub all_stay : (all rest pending pending' whole : List Planned) (p q : Planned) → q ≡ p → all ≡ rest ++ p ∷ [] → pending' ≡ pending ++ q ∷ [] → all ++ in_order pending ≡ whole → rest ++ in_order pending' ≡ whole
all_stay all rest pending pending' whole p q same is pushed was =
    ap (λ (l : List Planned). rest ++ in_order l) pushed ∙ ap (λ (l : List Planned). rest ++ l) (in_order_push pending q) ∙ ap (λ (r : Planned). rest ++ r ∷ in_order pending) same ∙ sym (append_assoc rest (p ∷ []) (in_order pending)) ∙ ap (λ (l : List Planned). l ++ in_order pending) (sym is) ∙ was

pub room_stays : (view : View) (pending pending' : List Planned) (q : Planned) → pending' ≡ pending ++ q ∷ [] → HasRoomFor view (q ∷ in_order pending) → HasRoomFor view (in_order pending')
room_stays view pending pending' q pushed room = subst (λ (l : List Planned). HasRoomFor view l) (sym (in_order_push pending q) ∙ ap in_order (sym pushed)) room

-- ---- one of them is put in again

pub order_pop : (items rest : List Planned) (p : Planned) → items ≡ rest ++ p ∷ [] → in_order items ≡ p ∷ in_order rest
order_pop items rest p is = ap in_order is ∙ in_order_push rest p

pub history_goes : (h h' all : List Entry) (items rest : List Planned) (p : Planned) → items ≡ rest ++ p ∷ [] → h' ≡ h ++ p.entry ∷ [] → h ++ entries_of (in_order items) ≡ all → h' ++ entries_of (in_order rest) ≡ all
history_goes h h' all items rest p is history_is was =
    ap (λ (l : List Entry). l ++ entries_of (in_order rest)) history_is ∙ append_assoc h (p.entry ∷ []) (entries_of (in_order rest)) ∙ ap (λ (l : List Planned). h ++ entries_of l) (sym (order_pop items rest p is)) ∙ was

pub notes_go : (worker : ℕ) (n n' all : List Noted) (h h' : List Entry) (items rest : List Planned) (p : Planned) (place : ℕ) → place ≡ length h → items ≡ rest ++ p ∷ [] → h' ≡ h ++ p.entry ∷ [] → n' ≡ n ++ dones worker place (p.entry ∷ []) → n ++ dones worker (length h) (entries_of (in_order items)) ≡ all
    → n' ++ dones worker (length h') (entries_of (in_order rest)) ≡ all
notes_go worker n n' all h h' items rest p place place_is is history_is noted_is was =
    let long : length h' ≡ length h + 1 = ap (λ (l : List Entry). length l) history_is ∙ length-append h (p.entry ∷ []) in
    ap (λ (k : ℕ). n' ++ dones worker k (entries_of (in_order rest))) long ∙ ap (λ (l : List Noted). l ++ dones worker (length h + 1) (entries_of (in_order rest))) noted_is
    ∙ ap (λ (k : ℕ). (n ++ dones worker k (p.entry ∷ [])) ++ dones worker (length h + 1) (entries_of (in_order rest))) place_is
    ∙ append_assoc n (dones worker (length h) (p.entry ∷ [])) (dones worker (length h + 1) (entries_of (in_order rest))) ∙ ap (λ (l : List Planned). n ++ dones worker (length h) (entries_of l)) (sym (order_pop items rest p is)) ∙ was
