-- The end that the bytes tell.
use Rattle.std.proofs.Common.{◌≡◌, ℕ, true, List, length, nat_le, Option, Some, None, refl, sym, ap, ◌∙◌}
use Rattle.station_http.specs.declared.asked.Asked.{Asked}
use Rattle.station_http.specs.declared.fault.HttpFault.{HttpFault}
use Rattle.station_http.specs.declared.fault.HttpFault.TheVariants as http
use Rattle.station_http.specs.Limits.{session_limit}
use Rattle.station_http.specs.Talk.{IsSession}
use Rattle.station_http.proofs.Unique.{talk_unique}
use Rattle.site_answers.specs.declared.fault_name.FaultName.{FaultName}
use Rattle.site_server.specs.declared.end.SessionEnd.{SessionEnd}
use Rattle.site_server.specs.declared.end.SessionEnd.TheVariants.{Ended, Cut, Refused, ReadFault, WriteFault, SessionLong, Memory}
use Rattle.site_answers.specs.Saying.{refusal_of, status_of}
use Rattle.site_server.specs.Serving.{EndsAs}
use Rattle.site_server.specs.Laws.{is_told}

abbrev pub end_by : Option FaultName → HttpFault → SessionEnd
end_by (Some name) fault = Refused (status_of name)
end_by None (http.Cut n) = Cut
end_by None fault = SessionLong

abbrev pub end_for : Option HttpFault → SessionEnd
end_for None = Ended
end_for (Some fault) = end_by (refusal_of fault) fault

told : (e : SessionEnd) (taken : List ℕ) (xs : List Asked) (left : Option (List ℕ)) (closing : List (List ℕ)) → EndsAs e taken xs left closing → is_told e ≡ true → (o : Option HttpFault) × IsSession taken xs o × (e ≡ end_for o)
told Ended taken xs left closing ends t = (None, ends.0, refl)
told Cut taken xs left closing ends t = (Some (http.Cut ends.0), ends.1, refl)
told (Refused status) taken xs left closing ends t = (Some ends.0, ends.2, ap Refused ends.4 ∙ sym (ap (λ (o : Option FaultName). end_by o ends.0) ends.3))
told SessionLong taken xs left closing ends t = (Some http.SessionLong, ends.0, refl)
told ReadFault taken xs left closing ends t = absurd cc
told WriteFault taken xs left closing ends t = absurd cc
told Memory taken xs left closing ends t = absurd cc

pub one_end : (a b : SessionEnd) (taken : List ℕ) (xs ys : List Asked) (left left' : Option (List ℕ)) (closing closing' : List (List ℕ)) → EndsAs a taken xs left closing → EndsAs b taken ys left' closing' → is_told a ≡ true → is_told b ≡ true → (a ≡ b) × (xs ≡ ys)
one_end a b taken xs ys left left' closing closing' e f t u =
    let x = told a taken xs left closing e t in let y = told b taken ys left' closing' f u in
    let same = talk_unique (nat_le session_limit (length taken)) taken xs ys x.0 y.0 x.1 y.1 in
    (x.2 ∙ (ap end_for same.1 ∙ sym y.2), same.0)
