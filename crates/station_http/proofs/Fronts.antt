-- The talk of a front of the bytes.
use Rattle.std.proofs.Common.{◌≡◌, ◌<◌, arith, nat_le, ℕ, ◌==◌, Bool, true, false, List, [], ◌∷◌, ◌++◌, length, drop, Option, Some, None, sym, refl, subst, MatchBool, if◌then◌else◌}
use Rattle.std.proofs.lemmas.List.{drop-append-le, length-append}
use Rattle.station_http.specs.declared.fault.HttpFault.{HttpFault}
use Rattle.station_http.specs.declared.fault.HttpFault.TheVariants.{Cut}
use Rattle.station_http.specs.declared.asked.Asked.{Asked}
use Rattle.station_http.specs.Found.{Found, part, wrong, whole, IsFound}
use Rattle.station_http.specs.Talk.{IsTalk, IsEnd, IsFront, is_whole, end_of, is_last}
use Rattle.station_http.specs.Laws.{IsNoCut}
use Rattle.station_http.specs.Limits.{session_limit}
use Rattle.station_http.specs.Talk.{IsSession}
use Rattle.station_http.proofs.Stays.{whole_stays, wrong_stays}

on_close : (P P' Q Q' : Type 0) (b : Bool) → (b ≡ true → P → P') → (b ≡ false → Q → Q') → MatchBool b P Q → MatchBool b P' Q'
on_close P P' Q Q' true f g m = f refl m
on_close P P' Q Q' false f g m = g refl m

some_same : (a b : HttpFault) → ◌≡◌ {A = Option HttpFault} (Some a) (Some b) → a ≡ b
some_same a b e = cc

pub part_end : (n : ℕ) (fault : HttpFault) (t : Bool) → IsNoCut fault → ◌≡◌ {A = Option HttpFault} (Some fault) (if t then None else Some (Cut n)) → ⊥
part_end n fault true no_cut e = cc
part_end n fault false no_cut e = subst IsNoCut (some_same fault (Cut n) e) no_cut

end_stays : (bytes more : List ℕ) (fault : HttpFault) (found : Found) → IsNoCut fault → IsFound bytes found → is_whole found ≡ false → Some fault ≡ end_of false found → IsEnd false (bytes ++ more) (Some fault)
end_stays bytes more fault (part n) no_cut f un e = absurd (part_end n fault (n == 0) no_cut e)
end_stays bytes more fault (wrong g) no_cut f un e = (wrong g, wrong_stays bytes more g f, refl, e)
end_stays bytes more fault (whole n a) no_cut f un e = absurd cc

pub fault_stays : (bytes more : List ℕ) (requests : List Asked) (fault : HttpFault) → IsNoCut fault → IsTalk false bytes requests (Some fault) → IsTalk false (bytes ++ more) requests (Some fault)
fault_stays bytes more [] fault no_cut t = end_stays bytes more fault t.0 no_cut t.1 t.2 t.3
fault_stays bytes more (asked ∷ rest) fault no_cut t =
    let w = whole_stays bytes more t.0 asked t.1 in
    (t.0, w.0, on_close _ _ _ _ asked.close (λ e p. p) (λ e q. subst (λ (xs : List ℕ). IsTalk false xs rest (Some fault)) (sym (drop-append-le t.0 bytes more w.1)) (fault_stays (drop t.0 bytes) more rest fault no_cut q)) t.2)

last_only : (asked : Asked) (rest : List Asked) → is_last (asked ∷ rest) ≡ true → asked.close ≡ false → is_last rest ≡ true
last_only asked [] last more = absurd cc
last_only asked (b ∷ rest) last more = last

pub closed_stays : (bytes more : List ℕ) (requests : List Asked) → is_last requests ≡ true → IsTalk false bytes requests None → IsTalk false (bytes ++ more) requests None
closed_stays bytes more [] last t = absurd cc
closed_stays bytes more (asked ∷ rest) last t =
    let w = whole_stays bytes more t.0 asked t.1 in
    (t.0, w.0, on_close _ _ _ _ asked.close (λ e p. p) (λ e q. subst (λ (xs : List ℕ). IsTalk false xs rest None) (sym (drop-append-le t.0 bytes more w.1)) (closed_stays (drop t.0 bytes) more rest (last_only asked rest last e) q)) t.2)

-- a front of a front is a front
pub front_prefix : (bytes : List ℕ) (some more : List Asked) → IsFront bytes (some ++ more) → IsFront bytes some
front_prefix bytes [] more f = tt
front_prefix bytes (asked ∷ rest) more f = (f.0, f.1, on_close _ _ _ _ asked.close (λ e p. no_rest rest more p) (λ e q. front_prefix (drop f.0 bytes) rest more q) f.2)
  where
    no_rest : (rest more : List Asked) → rest ++ more ≡ [] → rest ≡ []
    no_rest [] more e = refl
    no_rest (b ∷ rest) more e = absurd cc

below : (n m : ℕ) → n < m → nat_le m n ≡ false
below n m h = grind arith

-- the same of whole sessions
pub session_fault_stays : (bytes more : List ℕ) (requests : List Asked) (fault : HttpFault) → length (bytes ++ more) < session_limit → IsNoCut fault → IsSession bytes requests (Some fault) → IsSession (bytes ++ more) requests (Some fault)
session_fault_stays bytes more requests fault short no_cut s =
    let shorter : length bytes < session_limit = omega (arith, short, length-append bytes more) in
    subst (λ (full : Bool). IsTalk full (bytes ++ more) requests (Some fault)) (sym (below (length (bytes ++ more)) session_limit short))
    (fault_stays bytes more requests fault no_cut (subst (λ (full : Bool). IsTalk full bytes requests (Some fault)) (below (length bytes) session_limit shorter) s))

pub front_stays : (bytes more : List ℕ) (requests : List Asked) → IsFront bytes requests → IsFront (bytes ++ more) requests
front_stays bytes more [] f = tt
front_stays bytes more (asked ∷ rest) f =
    let w = whole_stays bytes more f.0 asked f.1 in
    (f.0, w.0, on_close _ _ _ _ asked.close (λ e p. p) (λ e q. subst (λ (xs : List ℕ). IsFront xs rest) (sym (drop-append-le f.0 bytes more w.1)) (front_stays (drop f.0 bytes) more rest q)) f.2)
