-- A row more, and a row fewer.
use Rattle.std.proofs.Common.{◌≡◌, ◌≢◌, ℕ, ◌+◌, ◌-◌, ◌<◌, ◌≤◌, List, [], ◌∷◌, ◌++◌, length, get_or, set, refl, sym, ap, subst, ◌∙◌, arith}
use Rattle.std.proofs.lemmas.List.{length_push, get_or_append_left, get_or_push, get_or-set_same, get_or-set_other}
use native.Mathlib.Decide.{dec_lt, ℕ_discrete}
use Rattle.row_chains.specs.Chains.{NoneIn, IsAfter, IsBefore, AreLinked, first_with, next_with}
use Rattle.row_chains.proofs.Ends.{first_other, first_old, first_new, next_other, next_new, next_length}

module _ (groups : List ℕ) (g : ℕ) where
  old : (k : ℕ) → k < length groups → get_or (groups ++ g ∷ []) k 0 ≡ get_or groups k 0
  old k l = get_or_append_left groups (g ∷ []) 0 k l

  top : get_or (groups ++ g ∷ []) (length groups) 0 ≡ g
  top = get_or_push groups g 0 (length groups) refl

  long : length (groups ++ g ∷ []) ≡ length groups + 1
  long = length_push groups g

  -- ---- a row more
  none_more : (from to h : ℕ) → to ≤ length groups → NoneIn groups from to h → NoneIn (groups ++ g ∷ []) from to h
  none_more from to h m x k l q e = x k l q (sym (old k (omega (arith, q, m))) ∙ e)

  none_longer : (from h : ℕ) → h ≢ g → NoneIn groups from (length groups) h → NoneIn (groups ++ g ∷ []) from (length (groups ++ g ∷ [])) h
  none_longer from h ne x k l q e = elim (ℕ_discrete k (length groups)) [
    | yes i ↦ ne (sym e ∙ ap (λ n. get_or (groups ++ g ∷ []) n 0) i ∙ top)
    | no i ↦ let m : k < length groups = omega (arith, q, long, i) in x k l m (sym (old k m) ∙ e)
  ]

  after_more : (from h link : ℕ) → IsAfter groups from h link → (link ≡ 0 → h ≢ g) → IsAfter (groups ++ g ∷ []) from h link
  after_more from h link x other = record {
    is = λ l. let y = x.is l in (y.0, omega (arith, y.1, long), old (link - 1) (omega (arith, l, y.1)) ∙ y.2, none_more from (link - 1) h (omega (arith, l, y.1)) y.3);
    none = λ z. none_longer from h (other z) (x.none z);
  }

  after_new : (from h : ℕ) → h ≡ g → from ≤ length groups → NoneIn groups from (length groups) h → IsAfter (groups ++ g ∷ []) from h (length groups + 1)
  after_new from h e l x =
      let n : length groups + 1 - 1 ≡ length groups = omega arith in
      record {
        is = λ p. (omega (arith, l), omega (arith, long), ap (λ k. get_or (groups ++ g ∷ []) k 0) n ∙ top ∙ sym e, subst (λ k. NoneIn (groups ++ g ∷ []) from k h) (sym n) (none_more from (length groups) h (omega arith) x));
        none = λ z. absurd (omega (arith, z));
      }

  before_more : (to h link : ℕ) → to ≤ length groups → IsBefore groups to h link → IsBefore (groups ++ g ∷ []) to h link
  before_more to h link m x = record {
    within = x.within;
    is = λ l. old (link - 1) (omega (arith, l, x.within, m)) ∙ x.is l;
    none = none_more link to h m x.none;
  }

  before_longer : (h link : ℕ) → h ≢ g → IsBefore groups (length groups) h link → IsBefore (groups ++ g ∷ []) (length (groups ++ g ∷ [])) h link
  before_longer h link ne x = record {
    within = omega (arith, x.within, long);
    is = λ l. old (link - 1) (omega (arith, l, x.within)) ∙ x.is l;
    none = none_longer link h ne x.none;
  }

  before_new : IsBefore (groups ++ g ∷ []) (length (groups ++ g ∷ [])) g (length groups + 1)
  before_new =
      let n : length groups + 1 - 1 ≡ length groups = omega arith in
      record {
        within = omega (arith, long);
        is = λ l. ap (λ k. get_or (groups ++ g ∷ []) k 0) n ∙ top;
        none = λ k l q e. absurd (omega (arith, l, q, long));
      }

  -- ---- a row fewer
  none_less : (from to h : ℕ) → to ≤ length groups → NoneIn (groups ++ g ∷ []) from to h → NoneIn groups from to h
  none_less from to h m x k l q e = x k l q (old k (omega (arith, q, m)) ∙ e)

  -- a link that isn't to the last row
  after_less : (from h link : ℕ) → link ≢ length groups + 1 → IsAfter (groups ++ g ∷ []) from h link → IsAfter groups from h link
  after_less from h link ne x = record {
    is = λ l.
        let y = x.is l in
        let m : link ≤ length groups = omega (arith, y.1, long, ne) in
        (y.0, m, sym (old (link - 1) (omega (arith, l, m))) ∙ y.2, none_less from (link - 1) h (omega (arith, l, m)) y.3);
    none = λ z. none_less from (length groups) h (omega arith) (λ k l q e. x.none z k l (omega (arith, q, long)) e);
  }

  -- a link to the last row is cut
  after_cut : (from h : ℕ) → NoneIn groups from (length groups) h → IsAfter groups from h 0
  after_cut from h x = record { is = λ l. absurd (omega (arith, l)); none = λ z. x }

  before_less : (to h link : ℕ) → to ≤ length groups → IsBefore (groups ++ g ∷ []) to h link → IsBefore groups to h link
  before_less to h link m x = record {
    within = x.within;
    is = λ l. sym (old (link - 1) (omega (arith, l, x.within, m))) ∙ x.is l;
    none = none_less link to h m x.none;
  }

  before_shorter : (h link : ℕ) → h ≢ g → IsBefore (groups ++ g ∷ []) (length (groups ++ g ∷ [])) h link → IsBefore groups (length groups) h link
  before_shorter h link ne x =
      let m : link ≢ length groups + 1 = λ e.
      let n : link - 1 ≡ length groups = omega (arith, e) in
      ne (sym (x.is (omega (arith, e))) ∙ ap (λ k. get_or (groups ++ g ∷ []) k 0) n ∙ top) in
      record {
        within = omega (arith, x.within, long, m);
        is = λ l. sym (old (link - 1) (omega (arith, l, x.within, long, m))) ∙ x.is l;
        none = none_less link (length groups) h (omega arith) (λ k l q e. x.none k l (omega (arith, q, long)) e);
      }

-- with a row more
pub linked_push : (groups previous next first last : List ℕ) (g : ℕ) → AreLinked groups previous next first last → g < length first → g < length last → length previous ≡ length groups → length next ≡ length groups
    → AreLinked (groups ++ g ∷ []) (previous ++ get_or last g 0 ∷ []) (next_with (get_or last g 0) next (length groups + 1) ++ 0 ∷ []) (first_with (get_or last g 0) first g (length groups + 1)) (set last g (length groups + 1))
linked_push groups previous next first last g c lf ll lp ln =
    let p : ℕ = get_or last g 0 in
    let n : ℕ = length groups in
    let gs : List ℕ = groups ++ g ∷ [] in
    let x : IsBefore groups n g p = c.lasts g in
    let firsts' : List ℕ = first_with p first g (n + 1) in
    let links : List ℕ = next_with p next (n + 1) in
    let nl : length links ≡ n = next_length p next (n + 1) ∙ ln in
    let nexts' : List ℕ = links ++ 0 ∷ [] in
    record {
      firsts = λ h. elim (ℕ_discrete h g) [
        | yes e ↦ elim (ℕ_discrete p 0) [
          | yes z ↦
              let r : get_or firsts' h 0 ≡ n + 1 = ap (λ k. get_or firsts' k 0) e ∙ first_new p first g (n + 1) z lf in
              subst (IsAfter gs 0 h) (sym r) (after_new groups g 0 h e (omega arith) (λ k l q s. x.none k (omega (arith, z)) q (s ∙ e)))
          | no z ↦
              let r : get_or firsts' h 0 ≡ get_or first h 0 = first_old p first g (n + 1) h z in
              subst (IsAfter gs 0 h) (sym r) (after_more groups g 0 h (get_or first h 0) (c.firsts h) (λ w i. (c.firsts h).none w (p - 1) (omega arith) (omega (arith, x.within, z)) (x.is (omega (arith, z)) ∙ sym e)))
        ]
        | no e ↦ subst (IsAfter gs 0 h) (sym (first_other p first g (n + 1) h e)) (after_more groups g 0 h (get_or first h 0) (c.firsts h) (λ w. e))
      ];
      lasts = λ h. elim (ℕ_discrete h g) [
        | yes e ↦
            let r : get_or (set last g (n + 1)) h 0 ≡ n + 1 = ap (λ k. get_or (set last g (n + 1)) k 0) e ∙ get_or-set_same last g (n + 1) 0 ll in
            subst (IsBefore gs (length gs) h) (sym r) (subst (λ k. IsBefore gs (length gs) k (n + 1)) (sym e) (before_new groups g))
        | no e ↦ subst (IsBefore gs (length gs) h) (sym (get_or-set_other last g h (n + 1) 0 e)) (before_longer groups g h (get_or last h 0) e (c.lasts h))
      ];
      nexts = λ row l. elim (ℕ_discrete row n) [
        | yes i ↦
            let r : get_or nexts' row 0 ≡ 0 = ap (λ k. get_or nexts' k 0) i ∙ get_or_push links 0 0 n nl in
            subst (IsAfter gs (row + 1) (get_or gs row 0)) (sym r) (after_cut gs g (row + 1) (get_or gs row 0) (λ k m q e. absurd (omega (arith, m, q, i, long groups g))))
        | no i ↦
            let m : row < n = omega (arith, l, i, long groups g) in
            let own : get_or gs row 0 ≡ get_or groups row 0 = old groups g row m in
            let r : get_or nexts' row 0 ≡ get_or links row 0 = get_or_append_left links (0 ∷ []) 0 row (subst (λ k. row < k) (sym nl) m) in
            subst (λ h. IsAfter gs (row + 1) h (get_or nexts' row 0)) (sym own) (subst (IsAfter gs (row + 1) (get_or groups row 0)) (sym r) (elim (ℕ_discrete (row + 1) p) [
              | yes e ↦
                  let b : p - 1 ≡ row = omega (arith, e) in
                  let h : get_or groups row 0 ≡ g = ap (λ k. get_or groups k 0) (sym b) ∙ x.is (omega (arith, e)) in
                  subst (IsAfter gs (row + 1) (get_or groups row 0)) (sym (next_new p next (n + 1) row e (subst (λ k. row < k) (sym ln) m)))
                  (after_new groups g (row + 1) (get_or groups row 0) h (omega (arith, m)) (λ k q s f. x.none k (omega (arith, q, e)) s (f ∙ h)))
              | no e ↦
                  subst (IsAfter gs (row + 1) (get_or groups row 0)) (sym (next_other p next (n + 1) row e))
                  (after_more groups g (row + 1) (get_or groups row 0) (get_or next row 0) (c.nexts row m) (λ w h.
                  elim (ℕ_discrete (get_or groups row 0) g) [
                    | yes t ↦ elim (ℕ_discrete p 0) [
                      | yes z ↦ x.none row (omega (arith, z)) m t
                      | no z ↦
                          elim (dec_lt row p) [
                            | yes u ↦ (c.nexts row m).none w (p - 1) (omega (arith, e, u)) (omega (arith, x.within, z)) (x.is (omega (arith, z)) ∙ sym t)
                            | no u ↦ x.none row (omega (arith, u)) m t
                          ]
                    ]
                    | no t ↦ t h
                  ]))
            ]))
      ];
      previouses = λ row l. elim (ℕ_discrete row n) [
        | yes i ↦
            let r : get_or (previous ++ p ∷ []) row 0 ≡ p = ap (λ k. get_or (previous ++ p ∷ []) k 0) i ∙ get_or_push previous p 0 n lp in
            let own : get_or gs row 0 ≡ g = ap (λ k. get_or gs k 0) i ∙ top groups g in
            subst (λ h. IsBefore gs row h (get_or (previous ++ p ∷ []) row 0)) (sym own) (subst (IsBefore gs row g) (sym r) (subst (λ k. IsBefore gs k g p) (sym i) (before_more groups g n g p (omega arith) x)))
        | no i ↦
            let m : row < n = omega (arith, l, i, long groups g) in
            let own : get_or gs row 0 ≡ get_or groups row 0 = old groups g row m in
            let r : get_or (previous ++ p ∷ []) row 0 ≡ get_or previous row 0 = get_or_append_left previous (p ∷ []) 0 row (subst (λ k. row < k) (sym lp) m) in
            subst (λ h. IsBefore gs row h (get_or (previous ++ p ∷ []) row 0)) (sym own) (subst (IsBefore gs row (get_or groups row 0)) (sym r) (before_more groups g row (get_or groups row 0) (get_or previous row 0) (omega (arith, m)) (c.previouses row m)))
      ];
    }

-- with the last row taken back
pub linked_pop : (groups previous next first last : List ℕ) (g p z : ℕ) → AreLinked (groups ++ g ∷ []) (previous ++ p ∷ []) (next ++ z ∷ []) first last → g < length first → g < length last → length previous ≡ length groups → length next ≡ length groups
    → AreLinked groups previous (next_with p next 0) (first_with p first g 0) (set last g p)
linked_pop groups previous next first last g p z c lf ll lp ln =
    let n : ℕ = length groups in
    let gs : List ℕ = groups ++ g ∷ [] in
    let lg : length gs ≡ n + 1 = long groups g in
    let rp : get_or (previous ++ p ∷ []) n 0 ≡ p = get_or_push previous p 0 n lp in
    let x : IsBefore groups n g p = before_less groups g n g p (omega arith) (subst (λ h. IsBefore gs n h p) (top groups g) (subst (IsBefore gs n (get_or gs n 0)) rp (c.previouses n (omega (arith, lg))))) in
    let firsts' : List ℕ = first_with p first g 0 in
    let links : List ℕ = next_with p next 0 in
    record {
      firsts = λ h. elim (ℕ_discrete h g) [
        | yes e ↦ elim (ℕ_discrete p 0) [
          | yes w ↦
              let r : get_or firsts' h 0 ≡ 0 = ap (λ k. get_or firsts' k 0) e ∙ first_new p first g 0 w lf in
              subst (IsAfter groups 0 h) (sym r) (after_cut groups g 0 h (λ k l q s. x.none k (omega (arith, w)) q (s ∙ e)))
          | no w ↦
              let r : get_or firsts' h 0 ≡ get_or first h 0 = first_old p first g 0 h w in
              subst (IsAfter groups 0 h) (sym r) (after_less groups g 0 h (get_or first h 0) (λ i.
              let y = (c.firsts h).is (omega (arith, i)) in
              y.3 (p - 1) (omega arith) (omega (arith, i, x.within, w)) (old groups g (p - 1) (omega (arith, x.within, w)) ∙ x.is (omega (arith, w)) ∙ sym e)) (c.firsts h))
        ]
        | no e ↦ subst (IsAfter groups 0 h) (sym (first_other p first g 0 h e)) (after_less groups g 0 h (get_or first h 0) (λ i.
            let y = (c.firsts h).is (omega (arith, i)) in
            let k : get_or first h 0 - 1 ≡ n = omega (arith, i) in
            e (sym y.2 ∙ ap (λ j. get_or gs j 0) k ∙ top groups g)) (c.firsts h))
      ];
      lasts = λ h. elim (ℕ_discrete h g) [
        | yes e ↦
            let r : get_or (set last g p) h 0 ≡ p = ap (λ k. get_or (set last g p) k 0) e ∙ get_or-set_same last g p 0 ll in
            subst (IsBefore groups n h) (sym r) (subst (λ k. IsBefore groups n k p) (sym e) x)
        | no e ↦ subst (IsBefore groups n h) (sym (get_or-set_other last g h p 0 e)) (before_shorter groups g h (get_or last h 0) e (c.lasts h))
      ];
      nexts = λ row m.
          let own : get_or gs row 0 ≡ get_or groups row 0 = old groups g row m in
          let there : row < length gs = omega (arith, m, lg) in
          let y : IsAfter gs (row + 1) (get_or groups row 0) (get_or next row 0) =
          subst (IsAfter gs (row + 1) (get_or groups row 0)) (get_or_append_left next (z ∷ []) 0 row (subst (λ k. row < k) (sym ln) m)) (subst (λ h. IsAfter gs (row + 1) h (get_or (next ++ z ∷ []) row 0)) own (c.nexts row there)) in
          elim (ℕ_discrete (row + 1) p) [
            | yes e ↦
                let b : p - 1 ≡ row = omega (arith, e) in
                let h : get_or groups row 0 ≡ g = ap (λ k. get_or groups k 0) (sym b) ∙ x.is (omega (arith, e)) in
                subst (IsAfter groups (row + 1) (get_or groups row 0)) (sym (next_new p next 0 row e (subst (λ k. row < k) (sym ln) m)))
                (after_cut groups g (row + 1) (get_or groups row 0) (λ k q s f. x.none k (omega (arith, q, e)) s (f ∙ h)))
            | no e ↦
                subst (IsAfter groups (row + 1) (get_or groups row 0)) (sym (next_other p next 0 row e))
                (after_less groups g (row + 1) (get_or groups row 0) (get_or next row 0) (λ i.
                let u = y.is (omega (arith, i)) in
                let k : get_or next row 0 - 1 ≡ n = omega (arith, i) in
                let t : get_or groups row 0 ≡ g = sym u.2 ∙ ap (λ j. get_or gs j 0) k ∙ top groups g in
                elim (dec_lt row p) [
                  | yes v ↦ u.3 (p - 1) (omega (arith, e, v)) (omega (arith, i, x.within, v)) (old groups g (p - 1) (omega (arith, x.within, v)) ∙ x.is (omega (arith, v)) ∙ sym t)
                  | no v ↦ x.none row (omega (arith, v)) m t
                ]) y)
          ];
      previouses = λ row m.
          let there : row < length gs = omega (arith, m, lg) in
          let y : IsBefore gs row (get_or groups row 0) (get_or previous row 0) =
          subst (IsBefore gs row (get_or groups row 0)) (get_or_append_left previous (p ∷ []) 0 row (subst (λ k. row < k) (sym lp) m)) (subst (λ h. IsBefore gs row h (get_or (previous ++ p ∷ []) row 0)) (old groups g row m) (c.previouses row there)) in
          before_less groups g row (get_or groups row 0) (get_or previous row 0) (omega (arith, m)) y;
    }

pub linked_none : AreLinked [] [] [] [] []
linked_none = record {
  firsts = λ h. record { is = λ l. absurd (omega (arith, l)); none = λ z k l q. absurd (omega (arith, q)) };
  lasts = λ h. record { within = omega arith; is = λ l. absurd (omega (arith, l)); none = λ k l q. absurd (omega (arith, q)) };
  nexts = λ row l. absurd (omega (arith, l));
  previouses = λ row l. absurd (omega (arith, l));
}
