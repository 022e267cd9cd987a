-- What one answer says of the calls on the source.
use Rattle.std.proofs.Common.{◌≡◌, ◌==◌, ◌⊎◌, inl, inr, ℕ, Bool, true, false, List, [], ◌∷◌, ◌++◌, length, Option, Some, None, Result, Ok, Err, sym, refl, ap, ◌∙◌, subst, arith, append-nil, MatchBool}
use Rattle.std.specs.Prelude.{IfOk, IfSome}
use Rattle.std.proofs.lemmas.List.{length-append, length-drop}
use Rattle.station_http.specs.declared.fault.HttpFault.{HttpFault}
use Rattle.station_http.specs.declared.fault.HttpFault.TheVariants.{Spent as SpentFault, ReadFault, SessionLong, HeadTooLong, BadHead, ChunkedBody, NoLength, BodyTooLong, Cut, NoRoute, BadMethod, Memory}
use Rattle.station_http.specs.declared.asked.Asked.{Asked}
use Rattle.station_http.specs.declared.stage.Stage.{Stage}
use Rattle.station_http.specs.declared.stage.Stage.TheVariants.{Open, Closed, Spent}
use Rattle.station_http.specs.Found.{Found, part, wrong, whole, IsFound}
use Rattle.station_http.specs.Talk.{IsEnd, end_of}
use Rattle.station_http.specs.Reading.{Reading}
use Rattle.station_http.specs.Gives.{GivesAt, Gives, IsFault, is_full}
use Rattle.station_http.specs.Waiting.{is_decided, IsDecided, IsWaitingAt, HasCalled, IsFurther, is_outside}
use Rattle.station_http.proofs.Stays.{whole_stays}
use Rattle.station_http.proofs.Unique.{found_unique}
use Rattle.station_http.specs.Laws.{IsNoCut}
use Rattle.station_http.proofs.Fronts.{part_end}

true_false : (b : Bool) → b ≡ true → b ≡ false → ⊥
true_false true p q = cc
true_false false p q = cc

undecided : (b : Bool) (pending : List ℕ) → MatchBool b (false ≡ true) (IsDecided pending false) → (b ≡ false) × IsDecided pending false
undecided true pending m = absurd (true_false false m refl)
undecided false pending m = (refl, m)

end_not : (found : Found) (full : Bool) (fault : HttpFault) → IsNoCut fault → full ≡ false → is_decided found ≡ false → Some fault ≡ end_of full found → ⊥
end_not (part n) true fault no_cut full d e = absurd cc
end_not (part n) false fault no_cut full d e = part_end n fault (n == 0) no_cut e
end_not (wrong g) full fault no_cut o d e = absurd cc
end_not (whole n a) full fault no_cut o d e = absurd cc

-- without a byte more, the end tells of the source
no_end : (known : List ℕ) (taken : ℕ) (found : Found) (fault : HttpFault) → IsNoCut fault → is_full taken ≡ false → IsFound known found → is_decided found ≡ false → IsEnd (is_full taken) known (Some fault) → ⊥
no_end known taken found fault no_cut full is d e =
    end_not e.0 (is_full taken) fault no_cut full (ap is_decided (found_unique known e.0 found e.1 is) ∙ d) e.3

by_fault : (old new : Reading) (known : List ℕ) (found : Found) (at_end : Type 0) (fault : HttpFault) → is_full new.taken ≡ false → IsFound known found → is_decided found ≡ false
    → IsFault known new.taken at_end fault → at_end ⊎ (is_outside {T = Option Asked} (Err fault) ≡ true)
by_fault old new known found at_end ReadFault full is d f = inr refl
by_fault old new known found at_end Memory full is d f = inr refl
by_fault old new known found at_end (Cut n) full is d f = inl f.1
by_fault old new known found at_end SpentFault full is d f = absurd f
by_fault old new known found at_end SessionLong full is d f = absurd (no_end known new.taken found SessionLong tt full is d f.0)
by_fault old new known found at_end HeadTooLong full is d f = absurd (no_end known new.taken found HeadTooLong tt full is d f.0)
by_fault old new known found at_end BadHead full is d f = absurd (no_end known new.taken found BadHead tt full is d f.0)
by_fault old new known found at_end ChunkedBody full is d f = absurd (no_end known new.taken found ChunkedBody tt full is d f.0)
by_fault old new known found at_end NoLength full is d f = absurd (no_end known new.taken found NoLength tt full is d f.0)
by_fault old new known found at_end BodyTooLong full is d f = absurd (no_end known new.taken found BodyTooLong tt full is d f.0)
by_fault old new known found at_end NoRoute full is d f = absurd (no_end known new.taken found NoRoute tt full is d f.0)
by_fault old new known found at_end BadMethod full is d f = absurd (no_end known new.taken found BadMethod tt full is d f.0)

by_result : (old new : Reading) (known : List ℕ) (found : Found) (at_end : Type 0) (result : Result (Option Asked) HttpFault) → is_full new.taken ≡ false → IsFound known found → is_decided found ≡ false
    → Gives known result new at_end → at_end ⊎ (is_outside result ≡ true)
by_result old new known found at_end (Ok None) full is d g = inl g.3
by_result old new known found at_end (Ok (Some asked)) full is d g = absurd (true_false (is_decided found) (ap is_decided (found_unique known found (whole g.0 asked) is g.1)) d)
by_result old new known found at_end (Err fault) full is d g = by_fault old new known found at_end fault full is d g.0

by_bytes : (old new : Reading) (bytes : List ℕ) (result : Result (Option Asked) HttpFault) (at_end : Type 0) → (is_full old.taken ≡ false) × IsDecided old.pending false
    → GivesAt Open old bytes result new at_end → HasCalled old new at_end result
by_bytes old new [] result at_end u g =
    let same : new.taken ≡ old.taken = omega (arith, g.0) in
    let known : old.pending ++ [] ≡ old.pending = append-nil old.pending in
    let d = u.1 in
    inr (by_result old new (old.pending ++ []) d.0 at_end result (ap is_full same ∙ u.0) (subst (λ (xs : List ℕ). IsFound xs d.0) (sym known) d.1) (sym d.2) g.1)
by_bytes old new (b ∷ bytes) result at_end u g = inl (omega (arith, g.0))

pub calls_of : (stage : Stage) (old new : Reading) (bytes : List ℕ) (result : Result (Option Asked) HttpFault) (at_end : Type 0) → IsWaitingAt stage old false → GivesAt stage old bytes result new at_end → HasCalled old new at_end result
calls_of Open old new bytes result at_end w g = by_bytes old new bytes result at_end (undecided (is_full old.taken) old.pending w) g
calls_of Closed old new bytes result at_end w g = absurd (true_false false w refl)
calls_of Spent old new bytes result at_end w g = absurd (true_false false w refl)

none_some : (asked : Asked) → ◌≡◌ {A = Result (Option Asked) HttpFault} (Ok (Some asked)) (Ok None) → ⊥
none_some asked e = cc

err_some : (asked : Asked) (fault : HttpFault) → ◌≡◌ {A = Result (Option Asked) HttpFault} (Ok (Some asked)) (Err fault) → ⊥
err_some asked fault e = cc

pub further_of : (stage : Stage) (old new : Reading) (bytes : List ℕ) (asked : Asked) (at_end : Type 0) → GivesAt stage old bytes (Ok (Some asked)) new at_end → IsFurther old new
further_of Open old new bytes asked at_end g =
    let known = old.pending ++ bytes in
    let w = whole_stays known [] g.1.0 asked g.1.1 in
    omega (arith, g.0, w.1, w.2, ap length g.1.2, length-drop g.1.0 known, length-append old.pending bytes)
further_of Closed old new bytes asked at_end g = absurd (none_some asked g.1)
further_of Spent old new bytes asked at_end g = absurd (err_some asked SpentFault g.1)

pub further_if : (stage : Stage) (old new : Reading) (bytes : List ℕ) (result : Result (Option Asked) HttpFault) (at_end : Type 0) → GivesAt stage old bytes result new at_end → IfOk result (λ o. IfSome o (λ _. IsFurther old new))
further_if stage old new bytes (Ok None) at_end g = tt
further_if stage old new bytes (Ok (Some asked)) at_end g = further_of stage old new bytes asked at_end g
further_if stage old new bytes (Err fault) at_end g = tt
