-- The ends of a session, in the terms of the calls on its link.
use Rattle.std.proofs.Common.{◌≡◌, inl, inr, ◌≤◌, ℕ, true, false, List, [], ◌++◌, length, map, Option, Some, None, Ok, Err, sym, refl, ap, subst, subst₂, arith, append-nil}
use Rattle.std.specs.List.{concat}
use Rattle.std.specs.Io.KnownBytes.{Consumes, Appends, IsAtEnd}
use Rattle.std.proofs.KnownBytes.{Consumes-nil, Appends-nil, Appends-trans}
use Rattle.std.proofs.lemmas.List.{length-append}
use Rattle.outside.specs.Causes.{Rose, HasCauseIf}
use Rattle.outside.specs.Doors.{wire}
use Rattle.turn_desk.specs.declared.view.Noted.{Noted}
use Rattle.turn_desk.specs.declared.view.Origin.{Origin}
use Rattle.station_http.specs.declared.fault.HttpFault.{HttpFault}
use Rattle.station_http.specs.declared.fault.HttpFault.TheVariants as http
use Rattle.station_http.specs.declared.asked.Asked.{Asked}
use Rattle.station_http.specs.declared.stage.Stage.{Stage}
use Rattle.station_http.specs.Reading.{Reading}
use Rattle.station_http.specs.Gives.{GivesAt, is_read_fault as is_read}
use Rattle.station_http.specs.Sessions.{IsWholeBy}
use Rattle.station_http.specs.Talk.{IsFront}
use Rattle.station_http.specs.Limits.{session_limit}
use Rattle.station_http.proofs.Fronts.{front_prefix}
use Rattle.station_http.proofs.Sessions.{Heard, ended, faulted, front_now}
use Rattle.site_server.specs.declared.end.SessionEnd.{SessionEnd}
use Rattle.site_server.specs.declared.end.SessionEnd.TheVariants.{Ended, WriteFault}
use Rattle.site_answers.specs.declared.fault_name.FaultName.TheVariants as named
use Rattle.site_turns.specs.Posted.{Posted}
use Rattle.site_server.specs.Exchanges.{text_in, asks_of}
use Rattle.site_server.specs.Gathered.{AreAnswered}
use Rattle.site_server.specs.Serving.{IsPut, IsServed, is_write_fault}
use Rattle.site_server.specs.Closing.{ClosesWith, EndsBy}
use Rattle.site_server.proofs.Goings.{Going, given_all, part_behind, parts_all, taken_grows}
use Rattle.site_server.proofs.Finishing.{Known, answered, no_answer, faulted_so, session_front}

module _ (origin : Origin) (worker : ℕ) (left0 left1 held0 held1 : Option (List ℕ)) (seen0 seen1 : List Noted) where
  heard_all : (conn : Reading) (s : Going origin worker left0 left1 held0 held1 conn seen0 seen1 []) → Heard left0 left1 conn (asks_of s.exchanges)
  heard_all conn s = subst (λ (rs : List Asked). Heard left0 left1 conn rs) (append-nil (asks_of s.exchanges)) s.heard

  known_of : (left2 : Option (List ℕ)) (old new : Reading) (s : Going origin worker left0 left1 held0 held1 old seen0 seen1 []) (x : List ℕ) → Consumes left0 left2 x → old.taken ≤ new.taken → new.taken ≡ length x → new.taken ≤ session_limit
      → Known origin worker left0 left2 held0 held1 seen0 seen1 s.exchanges x
  known_of left2 old new s x from grows size within = let few = s.few in let all = ap length (append-nil (asks_of s.exchanges)) in record {
    from = from;
    within = omega (arith, size, within);
    to = s.to;
    given = s.given;
    few = omega (arith, few, all, grows, size);
  }

  pub ends_by_fault : (left2 left3 held2 : Option (List ℕ)) (r0 ra rb rc w0 wa wb : ℕ) (stage : Stage) (old new : Reading) (fault : HttpFault) (end : SessionEnd)
      → Going origin worker left0 left1 held0 held1 old seen0 seen1 [] → old.stage ≡ stage → (x : List ℕ) × Consumes left1 left2 x × GivesAt stage old x (Err fault) new (IsAtEnd left2) → new.taken ≤ session_limit
      → (put : List ℕ) × Appends held1 held2 put × EndsBy fault end put → left3 ≡ left2
      → ra ≡ r0 → HasCauseIf (is_read {T = Option Asked} (Err fault)) ra rb → rc ≡ rb → wa ≡ w0 → HasCauseIf (is_write_fault end) wa wb
      → IsServed origin worker (wire left0 held0 r0 w0) (wire left3 held2 rc wb) seen0 seen1 end
  ends_by_fault left2 left3 held2 r0 ra rb rc w0 wa wb stage old new fault end s is g within p same_left er reads er' ew writes =
      let w = faulted left0 left1 left2 stage old new (asks_of s.exchanges) fault (IsAtEnd left2) (heard_all old s) is g in
      let k = known_of left2 old new s w.0 w.1 (taken_grows stage old new g.0 (Err fault) (IsAtEnd left2) g.2) w.3 within in
      subst (λ (l : Option (List ℕ)). IsServed origin worker (wire left0 held0 r0 w0) (wire l held2 rc wb) seen0 seen1 end) (sym same_left)
      (faulted_so origin worker left0 left2 held0 held1 held2 r0 rc w0 wb seen0 seen1 s.exchanges w.0 fault end p.0 k w.2 w.4 w.5 p.1 p.2
      (subst₂ (λ (a b : ℕ). HasCauseIf (is_read {T = Option Asked} (Err fault)) a b) er (sym er') reads) (subst (λ (a : ℕ). HasCauseIf (is_write_fault end) a wb) ew writes))

  pub ends_between : (left2 left3 : Option (List ℕ)) (r0 ra rb rc w0 wa : ℕ) (stage : Stage) (old new : Reading) (o : Option Asked)
      → Going origin worker left0 left1 held0 held1 old seen0 seen1 [] → old.stage ≡ stage → o ≡ None → (x : List ℕ) × Consumes left1 left2 x × GivesAt stage old x (Ok o) new (IsAtEnd left2) → new.taken ≤ session_limit
      → left3 ≡ left2 → ra ≡ r0 → HasCauseIf (is_read {T = Option Asked} (Ok o)) ra rb → rc ≡ rb → wa ≡ w0
      → IsServed origin worker (wire left0 held0 r0 w0) (wire left3 held1 rc wa) seen0 seen1 Ended
  ends_between left2 left3 r0 ra rb rc w0 wa stage old new o s is none g within same_left er reads er' ew =
      let w = ended left0 left1 left2 stage old new (asks_of s.exchanges) o (IsAtEnd left2) (heard_all old s) is none g in
      let k = known_of left2 old new s w.0 w.1 (taken_grows stage old new g.0 (Ok o) (IsAtEnd left2) g.2) w.4 within in
      subst (λ (l : Option (List ℕ)). IsServed origin worker (wire left0 held0 r0 w0) (wire l held1 rc wa) seen0 seen1 Ended) (sym same_left)
      (no_answer origin worker left0 left2 held0 held1 held1 r0 rc w0 wa seen0 seen1 s.exchanges w.0 Ended refl k (w.2, w.3, refl)
      (subst₂ (λ (a b : ℕ). HasCauseIf false a b) er (sym er') reads) (record { later = omega (arith, ew); failed = tt; kept = ew }))

-- the requests of all bytes, or a front of them
whole_front : (bytes : List ℕ) (requests : List Asked) (fault : HttpFault) → IsWholeBy bytes requests (Err fault) → IsFront bytes requests
whole_front bytes requests http.ReadFault by = session_front _ bytes requests by.0 by.1
whole_front bytes requests http.Memory by = by
whole_front bytes requests (http.Cut n) by = session_front _ bytes requests (Some (http.Cut n)) by
whole_front bytes requests http.Spent by = session_front _ bytes requests (Some http.Spent) by
whole_front bytes requests http.SessionLong by = session_front _ bytes requests (Some http.SessionLong) by
whole_front bytes requests http.HeadTooLong by = session_front _ bytes requests (Some http.HeadTooLong) by
whole_front bytes requests http.BadHead by = session_front _ bytes requests (Some http.BadHead) by
whole_front bytes requests http.ChunkedBody by = session_front _ bytes requests (Some http.ChunkedBody) by
whole_front bytes requests http.NoLength by = session_front _ bytes requests (Some http.NoLength) by
whole_front bytes requests http.BodyTooLong by = session_front _ bytes requests (Some http.BodyTooLong) by
whole_front bytes requests http.NoRoute by = session_front _ bytes requests (Some http.NoRoute) by
whole_front bytes requests http.BadMethod by = session_front _ bytes requests (Some http.BadMethod) by

-- ---- a put failed

module _ {T E : Type 0} (origin : Origin) (worker : ℕ) (left0 left1 held0 held1 held2 : Option (List ℕ)) (seen0 seen1 seen2 : List Noted) (r0 r1 w0 w1 : ℕ) (fault : E) (gathered : List Asked) (left : List Posted) where
  part_put : (left2 left3 : Option (List ℕ)) (conn : Reading) (s : Going origin worker left0 left1 held0 held1 conn seen0 seen1 gathered) (x : List ℕ) → AreAnswered {T = T} {E = E} origin worker gathered left held1 held2 seen1 seen2 (Err fault)
      → Consumes left0 left2 x → IsFront x (asks_of s.exchanges ++ gathered) → conn.taken ≤ length x → length x ≤ session_limit → left3 ≡ left2 → r1 ≡ r0 → Rose w0 w1 → w0 ≤ w1
      → IsServed origin worker (wire left0 held0 r0 w0) (wire left3 held2 r1 w1) seen0 seen2 WriteFault
  part_put left2 left3 conn s x a from front size within same_left er rose later =
      let parts = parts_all s.exchanges a.exchanges gathered a.rest a.parts in
      let few = s.few in let same = ap length parts in let sum = length-append (asks_of (s.exchanges ++ a.exchanges)) a.rest in
      subst (λ (l : Option (List ℕ)). IsServed origin worker (wire left0 held0 r0 w0) (wire l held2 r1 w1) seen0 seen2 WriteFault) (sym same_left)
      record {
        taken = x;
        put = concat (map text_in s.exchanges) ++ a.put.0;
        exchanges = s.exchanges ++ a.exchanges;
        closing = [];
        from = from;
        to = Appends-trans held0 held1 held2 (concat (map text_in s.exchanges)) a.put.0 s.to a.put.1;
        within = within;
        answers = subst (λ (texts : List (List ℕ)). IsPut true texts (concat (map text_in s.exchanges) ++ a.put.0)) (sym (append-nil (map text_in (s.exchanges ++ a.exchanges)))) (part_behind s.exchanges a.exchanges a.put.0 a.put.2);
        given = given_all origin worker s.exchanges a.exchanges seen0 seen1 seen2 s.given a.given;
        ends = (front_prefix x (asks_of (s.exchanges ++ a.exchanges)) a.rest (subst (λ (rs : List Asked). IsFront x rs) parts front), inl refl);
        few = omega (arith, few, same, sum, size);
        reads = record { later = omega (arith, er); failed = tt; kept = er };
        writes = record { later = later; failed = rose; kept = tt };
      }

  -- behind a request
  pub ends_in_answers : (left3 : Option (List ℕ)) (conn : Reading) → Going origin worker left0 left1 held0 held1 conn seen0 seen1 gathered → AreAnswered {T = T} {E = E} origin worker gathered left held1 held2 seen1 seen2 (Err fault)
      → conn.taken ≤ session_limit → left3 ≡ left1 → r1 ≡ r0 → Rose w0 w1 → w0 ≤ w1 → IsServed origin worker (wire left0 held0 r0 w0) (wire left3 held2 r1 w1) seen0 seen2 WriteFault
  ends_in_answers left3 conn s a within same_left er rose later =
      let size = s.heard.size in
      part_put left1 left3 conn s s.heard.bytes a s.heard.from (front_now left0 left1 conn (asks_of s.exchanges ++ gathered) s.heard) (omega (arith, size)) (omega (arith, size, within)) same_left er rose later

  -- in front of the end
  pub ends_before_end : (left2 left3 : Option (List ℕ)) (stage : Stage) (old new : Reading) (o : Option Asked) → Going origin worker left0 left1 held0 held1 old seen0 seen1 gathered → AreAnswered {T = T} {E = E} origin worker gathered left held1 held2 seen1 seen2 (Err fault)
      → old.stage ≡ stage → o ≡ None → (x : List ℕ) × Consumes left1 left2 x × GivesAt stage old x (Ok o) new (IsAtEnd left2) → new.taken ≤ session_limit
      → left3 ≡ left2 → r1 ≡ r0 → Rose w0 w1 → w0 ≤ w1 → IsServed origin worker (wire left0 held0 r0 w0) (wire left3 held2 r1 w1) seen0 seen2 WriteFault
  ends_before_end left2 left3 stage old new o s a is none g within same_left er rose later =
      let all = asks_of s.exchanges ++ gathered in
      let w = ended left0 left1 left2 stage old new all o (IsAtEnd left2) s.heard is none g in
      let size = w.4 in let grows = taken_grows stage old new g.0 (Ok o) (IsAtEnd left2) g.2 in
      part_put left2 left3 old s w.0 a w.1 (session_front _ w.0 all None w.2) (omega (arith, size, grows)) (omega (arith, size, within)) same_left er rose later

  -- in front of a fault
  pub ends_before_fault : (left2 left3 : Option (List ℕ)) (stage : Stage) (old new : Reading) (told : HttpFault) → Going origin worker left0 left1 held0 held1 old seen0 seen1 gathered → AreAnswered {T = T} {E = E} origin worker gathered left held1 held2 seen1 seen2 (Err fault)
      → old.stage ≡ stage → (x : List ℕ) × Consumes left1 left2 x × GivesAt stage old x (Err told) new (IsAtEnd left2) → new.taken ≤ session_limit
      → left3 ≡ left2 → r1 ≡ r0 → Rose w0 w1 → w0 ≤ w1 → IsServed origin worker (wire left0 held0 r0 w0) (wire left3 held2 r1 w1) seen0 seen2 WriteFault
  ends_before_fault left2 left3 stage old new told s a is g within same_left er rose later =
      let all = asks_of s.exchanges ++ gathered in
      let w = faulted left0 left1 left2 stage old new all told (IsAtEnd left2) s.heard is g in
      let size = w.3 in let grows = taken_grows stage old new g.0 (Err told) (IsAtEnd left2) g.2 in
      part_put left2 left3 old s w.0 a w.1 (whole_front w.0 all told w.2) (omega (arith, size, grows)) (omega (arith, size, within)) same_left er rose later

-- nothing was taken, and want of memory was answered
pub ends_at_once : (origin : Origin) (worker : ℕ) (left left' held held' : Option (List ℕ)) (r r' w w' : ℕ) (seen : List Noted) (end : SessionEnd)
    → (put : List ℕ) × Appends held held' put × ClosesWith named.Memory end put → left' ≡ left → r' ≡ r → HasCauseIf (is_write_fault end) w w' → IsServed origin worker (wire left held r w) (wire left' held' r' w') seen seen end
ends_at_once origin worker left left' held held' r r' w w' seen end p same_left er writes =
    subst (λ (l : Option (List ℕ)). IsServed origin worker (wire left held r w) (wire l held' r' w') seen seen end) (sym same_left)
    (answered origin worker left left held held held' r r' w w' seen seen [] [] named.Memory end p.0
    (record { from = Consumes-nil left; within = omega arith; to = Appends-nil held; given = refl; few = omega arith }) (inr (refl, tt)) p.1 p.2 er writes)
