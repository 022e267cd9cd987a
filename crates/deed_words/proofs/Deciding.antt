-- Whether two deeds are equal can be decided.
use Rattle.std.proofs.Common.{◌≡◌, ◌≢◌, ◌⊎◌, inl, inr, ℕ, Bool, true, false, ◌&&◌, List, [], ◌∷◌, sym, ◌∙◌, ap, refl, true≢false}
use Rattle.std.proofs.lemmas.Bool.{and_parts, and_from, eqb-true}
use Rattle.std.specs.Prelude.{nat_eq}
use Rattle.std.specs.Cmp.{nat_eq_equiv}
use Rattle.gs1_element.specs.declared.code.Code.{Code}
use Rattle.epc_urn.specs.declared.epc.Epc.{Epc}
use Rattle.deed_words.specs.Names.{Text, same, same_name, same_order}
use Rattle.deed_words.specs.declared.words.Level.{Level}
use Rattle.deed_words.specs.declared.words.Level.TheVariants.{Case, Pallet}
use Rattle.deed_words.specs.declared.deed.OrderRow.{OrderRow}
use Rattle.deed_words.specs.declared.deed.Deed.{Deed}
use Rattle.deed_words.specs.declared.deed.Deed.TheVariants.{Order, Orders, Start, Draw, Lend, Commission, Spoil, Giveback, Sample, Reject, Reinstate, Destroy, Decommission, Container as MakeUnit, Pack, Unpack, UnpackAll, Seal, Unseal, Void, Declare, Close, Amend}
use Rattle.deed_words.proofs.Sameness.{same-true, same-itself, same_name-true, same_name-itself}
use Rattle.deed_words.proofs.OrdersAgain.{same_order-itself}
use Rattle.deed_words.proofs.OrdersKept.{same_order-true}

abbrev Decided : {A : Type 0} → A → A → Type 0
Decided a b = (a ≡ b) ⊎ (a ≢ b)

-- by a test that is true of equal things alone
tested : {A : Type 0} (test : A → A → Bool) → ((a b : A) → test a b ≡ true → a ≡ b) → ((a : A) → test a a ≡ true) → (a b : A) → Decided a b
tested {A} test equal itself a b =
    (elim (test a b) as (λ t. test a b ≡ t → Decided a b) [
      | true ↦ λ e. inl (equal a b e)
      | false ↦ λ e. inr (λ is. true≢false (sym (itself a) ∙ ap (test a) is ∙ e))
    ]) refl

texts : (a b : Text) → Decided a b
texts a b = tested same same-true same-itself a b

pub numbers : (a b : ℕ) → Decided a b
numbers a b = tested nat_eq eqb-true nat_eq_equiv.refl a b

names : (a b : Epc) → Decided a b
names a b = tested same_name same_name-true same_name-itself a b

orders : (a b : OrderRow) → Decided a b
orders a b = tested same_order same_order-true same_order-itself a b

same_code : Code → Code → Bool
same_code one other = same one.gtin other.gtin && same one.serial other.serial && same one.lot other.lot && same one.expiry other.expiry

same_code-true : (a b : Code) → same_code a b ≡ true → a ≡ b
unfolding same_code
same_code-true a b e =
    let p3 = and_parts _ _ e in
    let p2 = and_parts _ _ p3.0 in
    let p1 = and_parts _ _ p2.0 in
    ap (λ (t : Text). record a { gtin = t }) (same-true a.gtin b.gtin p1.0)
    ∙ ap (λ (t : Text). record a { gtin = b.gtin; serial = t }) (same-true a.serial b.serial p1.1)
    ∙ ap (λ (t : Text). record b { lot = t; expiry = a.expiry }) (same-true a.lot b.lot p2.1)
    ∙ ap (λ (t : Text). record b { expiry = t }) (same-true a.expiry b.expiry p3.1)

same_code-itself : (a : Code) → same_code a a ≡ true
unfolding same_code
same_code-itself a = and_from _ _ (and_from _ _ (and_from _ _ (same-itself a.gtin) (same-itself a.serial)) (same-itself a.lot)) (same-itself a.expiry)

codes : (a b : Code) → Decided a b
codes a b = tested same_code same_code-true same_code-itself a b

levels : (a b : Level) → Decided a b
levels Case Case = inl refl
levels Pallet Pallet = inl refl
levels Case Pallet = inr (λ e. cc)
levels Pallet Case = inr (λ e. cc)

lists : {A : Type 0} → ((a b : A) → Decided a b) → (xs ys : List A) → Decided xs ys
lists each [] [] = inl refl
lists each [] (y ∷ ys) = inr (λ e. cc)
lists each (x ∷ xs) [] = inr (λ e. cc)
lists {A} each (x ∷ xs) (y ∷ ys) =
    elim (each x y) as (λ _. Decided (x ∷ xs) (y ∷ ys)) [
      | inr other ↦ inr (λ e. let head : x ≡ y = cc in other head)
      | inl head ↦ elim (lists each xs ys) as (λ _. Decided (x ∷ xs) (y ∷ ys)) [
        | inr other ↦ inr (λ e. let tail : xs ≡ ys = cc in other tail)
        | inl tail ↦ inl (cc)
      ]
    ]

-- a deed of one part, and of two
one : {A : Type 0} (deed : A → Deed) (a b : A) → (deed a ≡ deed b → a ≡ b) → Decided a b → Decided (deed a) (deed b)
one deed a b back (inl e) = inl (ap deed e)
one deed a b back (inr other) = inr (λ e. other (back e))

two : {A B : Type 0} (deed : A → B → Deed) (a a' : A) (b b' : B) → (deed a b ≡ deed a' b' → (a ≡ a') × (b ≡ b')) → Decided a a' → Decided b b' → Decided (deed a b) (deed a' b')
two deed a a' b b' back (inr other) d = inr (λ e. other (back e).0)
two deed a a' b b' back (inl e) (inr other) = inr (λ f. other (back f).1)
two {A} {B} deed a a' b b' back (inl e) (inl f) = inl (ap (λ (x : A). deed x b) e ∙ ap (deed a') f)

four : (a a' : Text) (b b' c c' d d' : ℕ) → Decided (Declare a b c d) (Declare a' b' c' d')
four a a' b b' c c' d d' =
    elim (texts a a') as (λ _. Decided (Declare a b c d) (Declare a' b' c' d')) [
      | inr other ↦ inr (λ e. let p : a ≡ a' = cc in other p)
      | inl ea ↦ elim (numbers b b') as (λ _. Decided (Declare a b c d) (Declare a' b' c' d')) [
        | inr other ↦ inr (λ e. let p : b ≡ b' = cc in other p)
        | inl eb ↦ elim (numbers c c') as (λ _. Decided (Declare a b c d) (Declare a' b' c' d')) [
          | inr other ↦ inr (λ e. let p : c ≡ c' = cc in other p)
          | inl ec ↦ elim (numbers d d') as (λ _. Decided (Declare a b c d) (Declare a' b' c' d')) [
            | inr other ↦ inr (λ e. let p : d ≡ d' = cc in other p)
            | inl ed ↦ inl (cc)
          ]
        ]
      ]
    ]

pub deeds : (a b : Deed) → (a ≡ b) ⊎ (a ≢ b)
deeds (Order a) (Order b) = one Order a b (λ e. cc) (orders a b)
deeds (Orders a) (Orders b) = one Orders a b (λ e. cc) (lists orders a b)
deeds (Start a) (Start b) = one Start a b (λ e. cc) (texts a b)
deeds (Draw a b) (Draw a' b') = two Draw a a' b b' (λ e. (cc, cc)) (texts a a') (numbers b b')
deeds (Lend a b) (Lend a' b') = two Lend a a' b b' (λ e. (cc, cc)) (texts a a') (numbers b b')
deeds (Commission a b) (Commission a' b') = two Commission a a' b b' (λ e. (cc, cc)) (texts a a') (lists codes b b')
deeds (Spoil a b) (Spoil a' b') = two Spoil a a' b b' (λ e. (cc, cc)) (texts a a') (lists texts b b')
deeds (Giveback a b) (Giveback a' b') = two Giveback a a' b b' (λ e. (cc, cc)) (texts a a') (lists texts b b')
deeds (Sample a b) (Sample a' b') = two Sample a a' b b' (λ e. (cc, cc)) (texts a a') (lists names b b')
deeds (Reject a b) (Reject a' b') = two Reject a a' b b' (λ e. (cc, cc)) (texts a a') (lists names b b')
deeds (Reinstate a b) (Reinstate a' b') = two Reinstate a a' b b' (λ e. (cc, cc)) (texts a a') (lists names b b')
deeds (Destroy a b) (Destroy a' b') = two Destroy a a' b b' (λ e. (cc, cc)) (texts a a') (lists names b b')
deeds (Decommission a b) (Decommission a' b') = two Decommission a a' b b' (λ e. (cc, cc)) (texts a a') (lists names b b')
deeds (MakeUnit a b) (MakeUnit a' b') = two MakeUnit a a' b b' (λ e. (cc, cc)) (texts a a') (levels b b')
deeds (Pack a b) (Pack a' b') = two Pack a a' b b' (λ e. (cc, cc)) (texts a a') (lists names b b')
deeds (Unpack a b) (Unpack a' b') = two Unpack a a' b b' (λ e. (cc, cc)) (texts a a') (lists names b b')
deeds (UnpackAll a) (UnpackAll b) = one UnpackAll a b (λ e. cc) (texts a b)
deeds (Seal a) (Seal b) = one Seal a b (λ e. cc) (texts a b)
deeds (Unseal a) (Unseal b) = one Unseal a b (λ e. cc) (texts a b)
deeds (Void a) (Void b) = one Void a b (λ e. cc) (texts a b)
deeds (Declare a b c d) (Declare a' b' c' d') = four a a' b b' c c' d d'
deeds (Close a) (Close b) = one Close a b (λ e. cc) (texts a b)
deeds (Amend a b) (Amend a' b') = two Amend a a' b b' (λ e. (cc, cc)) (texts a a') (numbers b b')
deeds a b = inr (λ e. cc)
